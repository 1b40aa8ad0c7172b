-- What an edit of a pass does to the derivation that keeps it.
use Rattle.std.proofs.Common.{◌≡◌, ◌↔◌, ◌+◌, ◌<◌, ◌^◌, ℕ, List, map, take, Some, Result, Ok, Err, sym, ap, ap₂, ◌∙◌, subst, arith}
use Rattle.std.specs.Prelude.{OnOk, OnErr, option_map}
use Rattle.lsys_spec.specs.Systems.{System}
use Rattle.lsys_spec.specs.Levels.{LevelSymbol, lineage}
use Rattle.lsys_spec.specs.LevelLaws.{candidate_visits}
use Rattle.lsys_spec.specs.Questions.{Question, questions, least_visits}
use Rattle.lsys_laws.specs.Nodes.{Kin, naming}
use Rattle.lsys_laws.proofs.KeptLineages.{stays, tags}
use Rattle.lsys_rewrite.specs.declared.count.EditCount.{EditCount}
use Rattle.lsys_rewrite.specs.declared.refusal.DeriveRefusal.{DeriveRefusal}
use Rattle.lsys_rewrite.specs.declared.refusal.DeriveRefusal.TheVariants.{Fault, Limit, Memory}
use Rattle.lsys_level.specs.Spots.{Spotted, spotted_at}
use Rattle.lsys_match.specs.Derivations.{AreMeant, IsCount, IsDerived, IsLevelRefusal, KeepsTags, Rises, symbol_at}
use Rattle.lsys_forest.specs.Groves.{changes_in}
use Rattle.lsys_forest.specs.Rows.{level_nodes, complete_levels}
use Rattle.lsys_forest.proofs.RowLemmas.{level_depth}
use Rattle.lsys_forest.proofs.SoundLemmas.{AreSound-now}
use Rattle.lsys_forest.proofs.ViewLemmas.{levels_by}
use Rattle.lsys_forest.proofs.WalkLemmas.{get_In}
use Rattle.lsys_reads.specs.Lineages.{kin_of, kins}
use Rattle.lsys_reads.specs.Meant.{levels_or_none, levels_meant}
use Rattle.lsys_pass.specs.declared.state.PassState.TheVariants.{Rest}
use Rattle.lsys_pass.specs.Passes.{PassView, now_in, IsPass}
use Rattle.lsys_pass.specs.Moves.{IsBack}
use Rattle.lsys_pass.specs.Edits.{IsEdited}
use Rattle.lsys_pass.specs.Views.{nodes_of_levels, pass_levels, keyed_by, levels_for, view_of, IsPosed, IsQuiet}
use Rattle.lsys_pass.proofs.Deriving.{was_now, rest_now, node_of, lineage_is}
use Rattle.lsys_pass.proofs.Keyed.{all_keyed}
use Rattle.lsys_pass.proofs.Posing.{Alike, alike, levels_are, derived_for, keyed_tags}

-- 1. tags

-- the node of a symbol, so many steps below the root
record IsKin (v : PassView) (t : ℕ) (a : Spotted) : Type 0 where
  kin : Kin
  lives : kins (now_in v) a.tag ≡ Some kin
  depth : kin.depth ≡ t + 1

kin_at : (v : PassView) (h : IsPass v) (q : IsQuiet v) (t p : ℕ) (a : Spotted) → spotted_at (pass_levels v) t p ≡ Some a
    → IsKin v t a
kin_at v h q t p a e =
    let n = node_of v h q t p a e in
    let d = level_depth v.forest.root (changes_in v.forest) (now_in v)
    (AreSound-now v.forest.root (changes_in v.forest) (now_in v) h.stored.sound) t a.tag
    (get_In (level_nodes (now_in v) v.forest.root t) p a.tag n.there) in
    record { kin = kin_of d.0; lives = ap (option_map kin_of) d.1; depth = d.2 }

module _ (v w : PassView) (s : System) (h : IsPass v) (q : IsQuiet v) (h' : IsPass w) (q' : IsQuiet w)
    (d : IsEdited v w s) where
  -- a node's number is its tag in both, and one naming serves for both
  tags_at : (t u p p' : ℕ) (a b : Spotted) (x y : LevelSymbol) → spotted_at (pass_levels v) t p ≡ Some a → spotted_at
      (pass_levels w) u p' ≡ Some b
      → symbol_at (levels_meant v.system v.limit) t p ≡ Some x → symbol_at (levels_meant w.system w.limit) u p' ≡ Some y
      → (a.tag ≡ b.tag) ↔ ((t ≡ u) × (lineage x ≡ lineage y))
  tags_at t u p p' a b x y ea eb ex ey = (
    λ e. (level (law.0 e).0, own ∙ (law.0 e).1 ∙ sym other),
    λ e. law.1
        (depth e.0, sym own ∙ e.1 ∙ other),
  )
    where
      old : IsKin v t a
      old = kin_at v h q t p a ea

      new : IsKin w u b
      new = kin_at w h' q' u p' b eb

      law : (a.tag ≡ b.tag) ↔ ((old.kin.depth ≡ new.kin.depth) × (naming (kins (now_in v)) a.tag ≡ naming d.family.all b.tag))
      law =
          tags (kins (now_in v)) d.family.all v.forest.root a.tag b.tag old.kin new.kin
          (rest_now v h q.state).once d.family.once d.family.old_in old.lives
          (d.family.new_in b.tag new.kin new.lives)

      own : lineage x ≡ naming (kins (now_in v)) a.tag
      own = lineage_is v h q t p a x ea ex

      other : lineage y ≡ naming d.family.all b.tag
      other =
          lineage_is w h' q' u p' b y eb ey
          ∙ sym (stays (kins (now_in w)) d.family.all w.forest.root b.tag new.kin
          (rest_now w h' q'.state).once d.family.new_in new.lives)

      level : old.kin.depth ≡ new.kin.depth → t ≡ u
      level e = let i = old.depth in let j = new.depth in omega (arith, e, i, j)

      depth : t ≡ u → old.kin.depth ≡ new.kin.depth
      depth e = let i = old.depth in let j = new.depth in omega (arith, e, i, j)

  tags_kept : KeepsTags (levels_meant v.system v.limit) (levels_meant w.system w.limit) (pass_levels v) (pass_levels w)
  tags_kept = record { tags = tags_at }

  pub keeps_tags : w.limit ≡ v.limit → (x y : List (List LevelSymbol)) → AreMeant v.system s v.limit x y → KeepsTags x y
      (pass_levels v) (pass_levels w)
  keeps_tags limit x y m =
      let before : levels_meant v.system v.limit ≡ x = ap levels_or_none m.before in
      let after : levels_meant w.system w.limit ≡ y = ap₂ levels_meant d.system limit ∙ ap levels_or_none m.after in
      subst (λ (z : List (List LevelSymbol)). KeepsTags z y (pass_levels v) (pass_levels w)) before
      (subst (λ (z : List (List LevelSymbol)). KeepsTags (levels_meant v.system v.limit) z (pass_levels v) (pass_levels w))
      after tags_kept)

-- 2. what becomes of it

-- a pass that went back is seen as it was
pub back_view : (s : System) (v w : PassView) → IsPass v → v.state ≡ Rest → IsBack v w → view_of s w ≡ view_of s v
back_view s v w h q b = λ i. record {
  system = s;
  limit = b.limit i;
  levels = map (map (keyed_by s.seed (nodes i))) (take (s.depth + 1) (same i));
  nodes = nodes_of_levels (nodes i) (b.root i) (s.depth + 1);
}
  where
    nodes : now_in w ≡ now_in v
    nodes = b.now ∙ was_now v h q

    same : complete_levels w.forest ≡ complete_levels v.forest
    same = levels_by v.forest w.forest nodes b.root

pub quiet_after : (v w : PassView) (p : System) (r : Result EditCount DeriveRefusal) → IsQuiet v → w.state ≡ Rest → OnOk r
    (IsEdited v w p) → OnErr r (IsBack v w) → IsQuiet w
quiet_after v w p (Ok n) q e ok err = record { state = e; small = ok.small }
quiet_after v w p (Err x) q e ok err = record {
  state = e;
  small = subst (λ (z : System). z.depth < 2 ^ 32)
      (sym err.system) q.small;
}

-- 3. the systems for which the passes derive others

module _ (s s' p' : System) (v w : PassView) (posed : IsPosed s v.system) (posed' : IsPosed s' p') where
  old : Alike s v.system
  old = alike s v.system posed

  new : Alike s' p'
  new = alike s' p' posed'

  meant_posed : (x y : List (List LevelSymbol)) → AreMeant s s' v.limit x y → AreMeant v.system p' v.limit x y
  meant_posed x y m = record { before = old.levels v.limit ∙ m.before; after = new.levels v.limit ∙ m.after }

  pub posed_now : IsEdited v w p' → IsPosed s' w.system
  posed_now d = subst (IsPosed s') (sym d.system) posed'

  pub derived_now : IsPass w → IsQuiet w → w.limit ≡ v.limit → IsEdited v w p' → IsDerived s' v.limit (levels_for s' w.forest)
  derived_now h q limit d = subst (λ n. IsDerived s' n (levels_for s' w.forest)) limit (derived_for s' w h q (posed_now d))

  pub refusal_posed : (x : DeriveRefusal) → IsLevelRefusal p' v.limit x → IsLevelRefusal s' v.limit x
  refusal_posed (Fault kind t n) e = sym (new.levels v.limit) ∙ e
  refusal_posed (Limit t) e = sym (new.levels v.limit) ∙ e
  refusal_posed Memory e = tt

  pub tags_now : IsPass v → IsQuiet v → IsPass w → IsQuiet w → w.limit ≡ v.limit → IsEdited v w p'
      → (x y : List (List LevelSymbol)) → AreMeant s s' v.limit x y → KeepsTags x y (levels_for s v.forest)
      (levels_for s' w.forest)
  tags_now h q h' q' limit d x y m =
      subst (λ (xs : List (List Spotted)). KeepsTags x y xs (levels_for s' w.forest)) (sym (levels_are s v h q posed))
      (subst (KeepsTags x y (all_keyed s.seed (now_in v) (pass_levels v))) (sym (levels_are s' w h' q' (posed_now d)))
      (keyed_tags s.seed s'.seed (now_in v) (now_in w) x y (pass_levels v) (pass_levels w)
      (keeps_tags v w p' h q h' q' d limit x y (meant_posed x y m))))

  -- what is told of the edit of the pass is so of the edit of the derivation
  pub counted_posed : (count : EditCount) → ((x y : List (List LevelSymbol)) → AreMeant v.system p' v.limit x y → IsCount
      (questions v.system x) (questions p' y) count)
      → (x y : List (List LevelSymbol)) → AreMeant s s' v.limit x y → IsCount (questions s x) (questions s' y) count
  counted_posed count c x y m =
      subst (λ (qs : List Question). IsCount qs (questions s' y) count) (old.asks x)
      (subst (λ (qs : List Question). IsCount (questions v.system x) qs count) (new.asks y) (c x y (meant_posed x y m)))

  pub read_posed : (before after : ℕ)
      → ((x y : List (List LevelSymbol)) → AreMeant v.system p' v.limit x y
      → Rises (least_visits (questions v.system x) (questions p' y)) (candidate_visits v.system p' x y) before after)
      → (x y : List (List LevelSymbol)) → AreMeant s s' v.limit x y
      → Rises (least_visits (questions s x) (questions s' y)) (candidate_visits s s' x y) before after
  read_posed before after c x y m =
      subst (λ n. Rises (least_visits (questions s x) (questions s' y)) n before after)
      (old.visits_from p' x y ∙ new.visits_to s x y)
      (subst (λ (qs : List Question). Rises (least_visits qs (questions s' y)) (candidate_visits v.system p' x y) before after)
      (old.asks x)
      (subst (λ (qs : List Question). Rises (least_visits (questions v.system x) qs)
      (candidate_visits v.system p' x y) before after)
      (new.asks y) (c x y (meant_posed x y m))))
