-- What is told of a system by a pass that derives it, or the same system with another seed.
use Rattle.std.proofs.Common.{◌≡◌, ◌+◌, ℕ, List, [], length, map, take, Some, refl, sym, ap, ◌∙◌, subst, inl, inr}
use Rattle.std.specs.Prelude.{sum_by, option_map}
use Rattle.std.proofs.lemmas.List.{length-map}
use Rattle.std.proofs.lemmas.Option.{same_Some}
use Rattle.lsys_spec.specs.Draws.{key_of}
use Rattle.lsys_spec.specs.Systems.{System}
use Rattle.lsys_spec.specs.Levels.{LevelSymbol, lineage, plain}
use Rattle.lsys_spec.specs.Meaning.{meaning}
use Rattle.lsys_spec.specs.Questions.{questions}
use Rattle.lsys_spec.specs.LevelLaws.{candidate_visits}
use Rattle.lsys_laws.specs.Seeds.{AskAlike, reseeded}
use Rattle.lsys_laws.proofs.PlainSeeds.{ask_alike}
use Rattle.lsys_level.specs.Spots.{Spotted, IsSpot, level_by, spots_at, spotted_at}
use Rattle.lsys_match.specs.Kept.{Kept}
use Rattle.lsys_match.specs.Derivations.{StandsFor, IsDerived, KeepsTags, symbol_at}
use Rattle.lsys_forest.specs.Nodes.{Nodes}
use Rattle.lsys_forest.specs.Groves.{live_nodes}
use Rattle.lsys_forest.specs.Rows.{complete_levels, level_of_node, place_of_node}
use Rattle.lsys_reads.specs.Lineages.{names}
use Rattle.lsys_reads.specs.Meant.{levels_or_none, levels_meant}
use Rattle.lsys_pass.specs.Sizes.{total_of}
use Rattle.lsys_pass.specs.Passes.{PassView, now_in, IsPass}
use Rattle.lsys_pass.specs.Views.{level_in, place_among, pass_levels, levels_for, view_of, IsPosed, IsQuiet, CountsAnswered}
use Rattle.lsys_pass.proofs.Deriving.{rest_now, count_meant, own_at, strings_are, lineage_is, key_there, total_is}
use Rattle.lsys_pass.proofs.Holding.{live_is}
use Rattle.lsys_pass.proofs.Keyed.{Tells, all_keyed, row_keyed, named_keyed, own_keyed, sums_keyed, unkeyed, tells, key_here, found_plain, seen_plain}

-- 1. what both systems share

pub record Alike (s p : System) : Type 0 where
  pub depth : p.depth ≡ s.depth
  pub levels : (limit : ℕ) → meaning p limit ≡ meaning s limit
  pub asks : (xs : List (List LevelSymbol)) → questions p xs ≡ questions s xs
  pub visits_from : (new : System) (xs ys : List (List LevelSymbol))
      → candidate_visits p new xs ys ≡ candidate_visits s new xs ys
  pub visits_to : (old : System) (xs ys : List (List LevelSymbol)) → candidate_visits old p xs ys ≡ candidate_visits old s xs ys

alike_self : (s : System) → Alike s s
alike_self s = record {
  depth = refl;
  levels = λ limit. refl;
  asks = λ xs. refl;
  visits_from = λ new xs ys. refl;
  visits_to =
      λ old xs ys. refl;
}

alike_by : (s p : System) → AskAlike s p → Alike s p
alike_by s p h = record {
  depth = h.depth;
  levels = h.levels;
  asks = h.asks;
  visits_from = h.visits_from;
  visits_to =
      h.visits_to;
}

pub alike : (s p : System) → IsPosed s p → Alike s p
alike s p (inl e) = subst (Alike s) (sym e) (alike_self s)
alike s p (inr h) = subst (Alike s) (sym h.1) (alike_by s (reseeded p.seed s) (ask_alike s h.0 p.seed))

-- 2. tags, where keys are other ones

pub keyed_tags : (seed seed' : ℕ) (m m' : Nodes Kept) (x y : List (List LevelSymbol)) (old new : List (List Spotted))
    → KeepsTags x y old new → KeepsTags x y (all_keyed seed m old) (all_keyed seed' m' new)
keyed_tags seed seed' m m' x y old new h = record {
  tags = λ t u p q a b r s i j e f.
      let c = unkeyed seed m old t p a i in
      let d = unkeyed seed' m' new u q b j in
      let law = h.tags t u p q c.0 d.0 r s c.1 d.1 e f in
      let one = ap (λ (z : Spotted). z.tag) c.2 in
      let two = ap (λ (z : Spotted). z.tag) d.2 in
      (λ same. law.0 (one ∙ same ∙ sym two), λ g. sym one ∙ law.1 g ∙ two);
}

-- 3. the system of a derivation

module _ (s : System) (v : PassView) (h : IsPass v) (q : IsQuiet v) (posed : IsPosed s v.system) where
  like : Alike s v.system
  like = alike s v.system posed

  abbrev told : List (List Spotted)
  told = all_keyed s.seed (now_in v) (pass_levels v)

  pub levels_are : levels_for s v.forest ≡ told
  levels_are = ap (λ d. all_keyed s.seed (now_in v) (take (d + 1) (complete_levels v.forest))) (sym like.depth)

  stands_for : StandsFor s.seed (levels_meant v.system v.limit) told
  stands_for = record {
    depth = length-map (pass_levels v) _ ∙ count_meant v h q;
    strings = record {
      string = λ t.
          ap (λ (x : List Spotted). map plain (level_by (λ tag. []) x)) (row_keyed s.seed (now_in v) (pass_levels v) t)
          ∙ ap (map plain) (named_keyed s.seed (now_in v) (λ tag. []) (spots_at (pass_levels v) t))
          ∙ strings_are v h q t;
    };
    tags = own_keyed s.seed (now_in v) (pass_levels v) (own_at v h q);
    keys = keys_are;
  }
    where
      keys_are : (t p : ℕ) (a : Spotted) (x : LevelSymbol) → spotted_at told t p ≡ Some a → symbol_at
          (levels_meant v.system v.limit) t p ≡ Some x → a.key ≡ key_of s.seed (lineage x)
      keys_are t p a x e f =
          let b = unkeyed s.seed (now_in v) (pass_levels v) t p a e in
          sym (ap (λ (z : Spotted). z.key) b.2) ∙ ap (key_of s.seed) (sym (lineage_is v h q t p b.0 x b.1 f))

  pub derived_for : IsDerived s v.limit (levels_for s v.forest)
  derived_for =
      subst (IsDerived s v.limit) (sym levels_are)
      (record {
        meant = levels_meant v.system v.limit;
        is = sym (like.levels v.limit) ∙ (rest_now v h q.state).is;
        view =
            stands_for;
      })

  sums_are : sum_by length (levels_for s v.forest) ≡ sum_by length (pass_levels v)
  sums_are = ap (sum_by (length {A = Spotted})) levels_are ∙ sums_keyed s.seed (now_in v) (pass_levels v)

  pub total_for : total_of v.sizes ≡ sum_by length (levels_for s v.forest)
  total_for = total_is v h q ∙ sym sums_are

  pub live_for : live_nodes v.forest ≡ sum_by length (levels_for s v.forest) + 1
  live_for = live_is v h q ∙ ap (λ n. n + 1) (sym sums_are)

  pub counts_for : CountsAnswered (view_of s v) v.answers
  counts_for x e =
      h.counted
      ∙ ap (λ (y : List (List LevelSymbol)). length (questions v.system y)) (ap levels_or_none (like.levels v.limit ∙ e))
      ∙ ap length (like.asks x)

  -- where both have one seed, the node's own key is the symbol's
  pub own_key : v.system.seed ≡ s.seed → (k key : ℕ) → IsSpot (levels_for s v.forest) (level_in k (levels_for s v.forest))
      (place_among k (levels_for s v.forest))
      → option_map (λ (z : Spotted). z.key) (spotted_at (complete_levels v.forest) (level_of_node v.forest k)
      (place_of_node v.forest k)) ≡ Some key
      → option_map (λ (z : Spotted). z.key) (spotted_at (levels_for s v.forest) (level_in k (levels_for s v.forest))
      (place_among k (levels_for s v.forest))) ≡ Some key
  own_key seeds k key spot e =
      key_here v.forest (s.depth + 1) s.seed (levels_for s v.forest) t k spot
      ∙ ap Some (ap (λ j. key_of s.seed (names (now_in v) j)) (sym a.2) ∙ ap (λ seed. key_of seed (names (now_in v) a.0.tag))
      (sym seeds) ∙ sym mine ∙ same_Some a.0.key key told_key)
    where
      t : Tells v.forest (s.depth + 1) s.seed (levels_for s v.forest)
      t = tells s v (view_of s v) v.forest h refl refl

      a : (a : Spotted) × (spotted_at (take (s.depth + 1) (complete_levels v.forest))
          (level_in k (take (s.depth + 1) (complete_levels v.forest)))
          (place_among k (take (s.depth + 1) (complete_levels v.forest))) ≡ Some a) × (a.tag ≡ k)
      a = found_plain v.forest (s.depth + 1) s.seed (levels_for s v.forest) t k spot

      mine : a.0.key ≡ key_of v.system.seed (names (now_in v) a.0.tag)
      mine =
          key_there v h q (level_in k (take (s.depth + 1) (complete_levels v.forest)))
          (place_among k (take (s.depth + 1) (complete_levels v.forest))) a.0
          (ap (λ d. spotted_at (take (d + 1) (complete_levels v.forest))
          (level_in k (take (s.depth + 1) (complete_levels v.forest)))
          (place_among k (take (s.depth + 1) (complete_levels v.forest)))) like.depth ∙ a.1)

      told_key : Some a.0.key ≡ Some key
      told_key = sym (ap (option_map (λ (z : Spotted). z.key)) a.1) ∙ sym
          (ap (option_map (λ (z : Spotted). z.key)) (seen_plain v.forest (s.depth + 1) s.seed (levels_for s v.forest) t k spot))
          ∙ e
