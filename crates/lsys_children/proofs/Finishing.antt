-- A level that is finished: all children of its nodes were made.
use Rattle.std.proofs.Common.{◌≡◌, ◌+◌, ◌<◌, ◌≤◌, ℕ, Some, None, Ok, List, [], length, sym, ap, ◌∙◌, subst, arith, sum_by}
use Rattle.std.specs.Prelude.{slice_get, option_map}
use Rattle.std.specs.Option.{option_and_then}
use Rattle.lsys_forest.specs.Answers.{answer_of}
use Rattle.std.proofs.lemmas.Option.{none-some, same_Some}
use Rattle.lsys_spec.specs.Rows.{In}
use Rattle.lsys_syntax.specs.Commands.{Numbering}
use Rattle.lsys_spec.specs.Systems.{System}
use Rattle.lsys_spec.specs.Levels as L
use Rattle.lsys_spec.specs.Meaning.{meaning_to, replacement}
use Rattle.lsys_laws.specs.Nodes.{Kin, Extends}
use Rattle.lsys_laws.proofs.UpTo.{level_count}
use Rattle.lsys_level.specs.Spots.{with_lineage, named}
use Rattle.lsys_walks.specs.Stores.{Store}
use Rattle.lsys_match.specs.Kept.{Kept}
use Rattle.lsys_forest.specs.Nodes.{Node, Nodes, with_kids}
use Rattle.lsys_forest.specs.Rows.{spot_in, level_nodes}
use Rattle.lsys_forest.proofs.RowLemmas as rows
use Rattle.lsys_children.specs.Children.{born, renewed}
use Rattle.lsys_laws.proofs.Placed.{got_in}
use Rattle.lsys_reads.specs.Lineages.{kin_of, kins, names}
use Rattle.lsys_reads.specs.Levels.{level_of, HaveLevels, AnsweredAt, answer_at}
use Rattle.lsys_reads.specs.Meant.{meant_to}
use Rattle.lsys_children.specs.Nexts.{Successors, node_symbol, HaveWanted, HaveSuccessors, HaveNext}
use Rattle.lsys_children.specs.Answers.{kept_successors, AreAnswered}
use Rattle.lsys_children.specs.Renewals.{Renewal, stayed, relisted, turned, came, AreRenewals, KeepsUpper, KeepsDeeper}
use Rattle.lsys_children.proofs.Nexts.{tag_of, next_meant, next_levels}
use Rattle.lsys_children.proofs.Above.{name_stays, upper_nodes, upper_levels_by, upper_levels, upper_answers}
use Rattle.lsys_children.proofs.Renewing.{keeps_upper}
use Rattle.lsys_children.proofs.Replaced.{replaced}

-- 1. what lies deeper

module _ {A : Type 0} (g : Numbering) (seed : ℕ) (o old new : Nodes A) (root depth : ℕ) (by : Successors) (done : List ℕ) (stay : Extends (kins o) (kins old)) (was : KeepsDeeper o old depth)
    (h : AreRenewals g seed old new root depth by done) where
  same_depth : (k : ℕ) (n p : Node A) → new k ≡ Some n → o k ≡ Some p → n.depth ≡ p.depth
  same_depth k n p e f =
      let kin : option_map (λ (y : Node A). kin_of y) (new k) ≡ Some (kin_of p) = h.stay k (kin_of p) (stay k (kin_of p) (ap (option_map (λ (y : Node A). kin_of y)) f)) in
      ap (λ (z : Kin). z.depth) (same_Some (kin_of n) (kin_of p) (sym (ap (option_map (λ (y : Node A). kin_of y)) e) ∙ kin))

  pub deeper_now : KeepsDeeper o new (depth + 1)
  deeper_now = record {
    kids = λ k n p e f d. (
        let deep = same_depth k n p e f in
        kids k n p e (was.deeper k p f (omega (arith, deep, d))) d (h.each k)
        );
    new_kids = λ k n e f d. new_kids k n e f d (h.each k);
    deeper = λ k n e d. deeper k n (was.deeper k n e (omega (arith, d))) d (h.each k);
    none_deeper = λ k n e f. none_deeper k n e f (h.each k);
  }
    where
      kids : (k : ℕ) (n p : Node A) → new k ≡ Some n → old k ≡ Some p → n.depth ≡ depth + 1 → Renewal old new depth done k → n.kids ≡ p.kids
      kids k n p e f d (stayed r) = ap (λ (y : Node A). y.kids) (same_Some n p (sym e ∙ r ∙ f))
      kids k n p e f d (relisted x ls i w t r) =
          let own = ap (λ (y : Node A). y.depth) (same_Some n (with_kids ls x) (sym e ∙ r)) in absurd (omega (arith, own, t, d))
      kids k n p e f d (turned x w i y t r) = ap (λ (y : Node A). y.kids) (same_Some n (renewed w x) (sym e ∙ r)) ∙ ap (λ (y : Node A). y.kids) (same_Some x p (sym y ∙ f))
      kids k n p e f d (came q w i y r) = absurd (none-some p (sym y ∙ f))

      new_kids : (k : ℕ) (n : Node A) → new k ≡ Some n → o k ≡ None → n.depth ≡ depth + 1 → Renewal old new depth done k → n.kids ≡ []
      new_kids k n e f d (stayed r) = let l = was.none_deeper k n (sym r ∙ e) f in absurd (omega (arith, l, d))
      new_kids k n e f d (relisted x ls i w t r) =
          let own = ap (λ (y : Node A). y.depth) (same_Some n (with_kids ls x) (sym e ∙ r)) in absurd (omega (arith, own, t, d))
      new_kids k n e f d (turned x w i y t r) = let l = was.none_deeper k x y f in absurd (omega (arith, l, t))
      new_kids k n e f d (came q w i y r) = ap (λ (y : Node A). y.kids) (same_Some n (born q (depth + 1) w) (sym e ∙ r))

      deeper : (k : ℕ) (n : Node A) → old k ≡ Some n → depth + 1 < n.depth → Renewal old new depth done k → new k ≡ Some n
      deeper k n e d (stayed r) = r ∙ e
      deeper k n e d (relisted x ls i w t r) = let own = ap (λ (y : Node A). y.depth) (same_Some n x (sym e ∙ w)) in absurd (omega (arith, own, t, d))
      deeper k n e d (turned x w i y t r) = let own = ap (λ (y : Node A). y.depth) (same_Some n x (sym e ∙ y)) in absurd (omega (arith, own, t, d))
      deeper k n e d (came q w i y r) = absurd (none-some n (sym y ∙ e))

      none_deeper : (k : ℕ) (n : Node A) → new k ≡ Some n → o k ≡ None → Renewal old new depth done k → n.depth ≤ depth + 1
      none_deeper k n e f (stayed r) = let l = was.none_deeper k n (sym r ∙ e) f in omega (arith, l)
      none_deeper k n e f (relisted x ls i w t r) = let own = ap (λ (y : Node A). y.depth) (same_Some n (with_kids ls x) (sym e ∙ r)) in omega (arith, own, t)
      none_deeper k n e f (turned x w i y t r) = let own = ap (λ (y : Node A). y.depth) (same_Some n (renewed w x) (sym e ∙ r)) in omega (arith, own, t)
      none_deeper k n e f (came q w i y r) = let own = ap (λ (y : Node A). y.depth) (same_Some n (born q (depth + 1) w) (sym e ∙ r)) in omega (arith, own)

-- 2. answers

pub answers_stay : (g : Numbering) (seed : ℕ) (old new : Nodes Kept) (root depth : ℕ) (by : Successors) (done : List ℕ) → AreRenewals g seed old new root depth by done → (k : ℕ) → answer_at new k ≡ answer_at old k
answers_stay g seed old new root depth by done h k = go (h.each k)
  where
    go : Renewal old new depth done k → answer_at new k ≡ answer_at old k
    go (stayed r) = ap (option_and_then answer_of) r
    go (relisted x ls i w t r) = ap (option_and_then answer_of) r ∙ sym (ap (option_and_then answer_of) w)
    go (turned x w i y t r) = ap (option_and_then answer_of) r ∙ sym (ap (option_and_then answer_of) y)
    go (came q w i y r) = ap (option_and_then answer_of) r ∙ sym (ap (option_and_then answer_of) y)

pub answered_level : (s : System) (limit t : ℕ) (m : Nodes Kept) (root : ℕ) (store : Store) → AreAnswered s limit t m root store → HaveSuccessors s limit t m root (kept_successors m)
answered_level s limit t m root store h =
    let l = h.levels in
    let count : length (meant_to s limit t) ≡ t + 1 = level_count s limit t (meant_to s limit t) l.spelled l.is in
    record {
      spelled = l.spelled;
      is = l.is;
      levels = l.levels;
      replaced = λ p k g. replaced s t m root store p k (λ a e. l.levels.keys t p a (omega (arith, count)) e) (h.answered p k g) g;
    }

module _ (s : System) (limit t : ℕ) (old new : Nodes Kept) (root : ℕ) (store : Store) (by : Successors) (done : List ℕ) (ready : AreAnswered s limit t old root store)
    (h : AreRenewals s.numbering s.seed old new root (t + 1) by done) where
  keeps : KeepsUpper old new (t + 1)
  keeps = keeps_upper s.numbering s.seed old new root (t + 1) by done h

  pub answers_above : (u p k : ℕ) → u ≤ t → AnsweredAt s u old root store p k → AnsweredAt s u new root store p k
  answers_above u p k l a =
      upper_answers root ready.levels.changes old new ready.levels.sound t keeps s store u p k l (answers_stay s.numbering s.seed old new root (t + 1) by done h k) a

  next_of : HaveWanted s.numbering s.seed new (kept_successors old) None (level_nodes new root t) → HaveNext s limit t new root (kept_successors old)
  next_of wanted =
      let l = ready.levels in
      let was = answered_level s limit t old root store ready in
      let count : length (meant_to s limit t) ≡ t + 1 = level_count s limit t (meant_to s limit t) l.spelled l.is in
      let level : level_of new root t ≡ level_of old root t = upper_levels_by root l.changes old new l.sound t keeps l.once h.stay t (omega arith) in
      record {
        level = record {
          spelled = l.spelled;
          is = l.is;
          levels = upper_levels root l.changes old new l.sound t keeps l.once h.stay s.seed (meant_to s limit t) (omega (arith, count)) l.levels;
          replaced = λ p k e. (
              let there : slice_get (level_nodes old root t) p ≡ Some k = ap (λ (ks : List ℕ). slice_get ks p) (sym (upper_nodes root l.changes old new l.sound t keeps t (omega arith))) ∙ e in
              ap (λ (x : List L.LevelSymbol). replacement s t x p (node_symbol new k)) level ∙ ap (replacement s t (level_of old root t) p) (same k (got_in (level_nodes old root t) p k there)) ∙ was.replaced p k there
              );
        };
        children = wanted;
      }
    where
      same : (k : ℕ) → In k (level_nodes old root t) → node_symbol new k ≡ node_symbol old k
      same k i =
          let l = ready.levels in
          let d = rows.level_depth root l.changes old l.sound t k i in
          let e : d.0.depth ≡ t + 1 = d.2 in
          ap (named (names new)) (keeps.spots k d.0 d.1 (omega (arith, e)))
          ∙ ap (λ n. with_lineage n (spot_in k (old k)).seen) (subst (λ j. names new j ≡ names old j) (sym (tag_of k (old k))) (name_stays old new root k d.0 l.once h.stay d.1))

  pub finished_meant : HaveWanted s.numbering s.seed new (kept_successors old) None (level_nodes new root t) → sum_by length (meant_to s limit t) + length (level_nodes new root (t + 1)) ≤ limit
      → meaning_to s limit (t + 1) ≡ Ok (meant_to s limit (t + 1))
  finished_meant wanted l = next_meant s limit t new root (kept_successors old) (next_of wanted) l

  pub finished_levels : HaveWanted s.numbering s.seed new (kept_successors old) None (level_nodes new root t) → sum_by length (meant_to s limit t) + length (level_nodes new root (t + 1)) ≤ limit
      → HaveLevels new root s.seed (meant_to s limit (t + 1))
  finished_levels wanted l = next_levels s limit t new root (kept_successors old) (next_of wanted) l
