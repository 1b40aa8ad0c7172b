use Rattle.std.proofs.Common.{Some, None, refl, sym, ap, ◌∙◌, subst, arith}
use Rattle.lsys_forest.specs.Nodes.{root_node}
use Rattle.lsys_forest.specs.Stocks.{nodes_of}
use Rattle.lsys_forest.specs.Groves.{AreSound}
use Rattle.lsys_forest.proofs.StockLemmas.{put_same, put_other}
use Rattle.lsys_forest.proofs.GroveLemmas.{IsSound-root}
use Rattle.lsys_forest.proofs.SoundLemmas.{AreSound-rest}
use Rattle.lsys_forest.proofs.RankLemmas.{ranked_root}
use Rattle.lsys_forest.proofs.LooseLemmas.{none_at_rest}
use Rattle.lsys_forest.specs.Pairs.{AreModules}
use Rattle.lsys_forest.specs.Changes.{undone}
use Rattle.lsys_forest.proofs.ModuleLemmas.{root_alone}
use Rattle.lsys_forest.proofs.forest.Forest.new.Goals as goal

pub invariant_of-result : goal.invariant_of-result
invariant_of-result g c =
    let p = c.in_ok-parts.parts in
    let e = c.in_ok-parts.ensures in
    let sound = IsSound-root (nodes_of p) e.nodes in
    record {
      grove = record {
        sound = subst (λ cs. AreSound 0 cs (nodes_of p)) (sym e.changes) (AreSound-rest 0 (nodes_of p) sound);
        nodes_left = omega (arith, e.live, e.capacity);
        numbers = omega (arith, e.live);
        fit = λ some. absurd (omega (arith, some));
        notes_left = omega (arith, e.live, e.notes);
      };
      ranked = ranked_root (nodes_of p) p.footings e.nodes;
      linked = λ t k way before after less whole. absurd (omega (arith, less));
      mated = λ t less. absurd (omega (arith, less));
      branches = λ none. (
          let now = root_alone (nodes_of p) e.nodes in
          (now, subst (λ cs. AreModules (undone cs (nodes_of p)) 0) (sym e.changes) now)
          );
      loose = none_at_rest (nodes_of p) 0 sound;
    }

pub returns-clause-root : goal.returns-clause-root
returns-clause-root g c = λ k ne. ap (λ m. m k) c.in_ok-parts.ensures.nodes ∙ put_other (λ j. None) 0 k (Some (root_node 0)) ne

pub returns-clause-alone : goal.returns-clause-alone
returns-clause-alone g c = ap (λ m. m 0) c.in_ok-parts.ensures.nodes ∙ put_same (λ j. None) 0 0 (Some (root_node 0)) refl
