-- A right answer tells what replaces its node.
use Rattle.std.proofs.Common.{arith, ◌≡◌, ◌≤◌, ℕ, Option, Some, Ok, List, [], ◌∷◌, length, refl, sym, ap, ◌∙◌}
use Rattle.std.specs.Prelude.{ℤ, slice_get, option_map}
use Rattle.std.proofs.lemmas.Option.{slice_get-map}
use Rattle.lsys_syntax.specs.Strings as S
use Rattle.lsys_spec.specs.Draws.{number_base, key_of}
use Rattle.lsys_spec.specs.Systems.{System, WellSpelled}
use Rattle.lsys_spec.proofs.Offspring.{has_balance, successor_short}
use Rattle.lsys_spec.specs.Bodies.{Body, group}
use Rattle.lsys_spec.specs.Levels.{ModuleValue}
use Rattle.lsys_spec.specs.Levels as L
use Rattle.lsys_spec.specs.Meaning.{successor, successor_by, asked, replacement}
use Rattle.lsys_level.specs.Spots.{Seen, Push, Pop, Module, Spotted, with_lineage}
use Rattle.lsys_walks.specs.Stores.{Store}
use Rattle.lsys_match.specs.Kept.{Kept}
use Rattle.lsys_forest.specs.Nodes.{Nodes}
use Rattle.lsys_forest.specs.Rows.{spot_in, level_nodes, level_spots}
use Rattle.lsys_reads.specs.Lineages.{names}
use Rattle.lsys_reads.specs.Levels.{level_of, answer_at, IsRight, IsKeptFor, IsAnsweredRight, AnsweredAt}
use Rattle.lsys_children.specs.Nexts.{node_symbol}
use Rattle.lsys_children.specs.Answers.{kept_successor, kept_successors}

one_symbol : (y : S.Symbol ℤ) (ys : List (S.Symbol ℤ)) → y ∷ [] ≡ ys → length ys ≤ number_base
one_symbol y ys e = let one : length (y ∷ []) ≡ length ys = ap length e in omega (arith, one)

pub replacement_short : (s : System) (t : ℕ) (x : List L.LevelSymbol) (p : ℕ) (a : L.LevelSymbol) (zs : List (S.Symbol ℤ)) → WellSpelled s → replacement s t x p a ≡ Ok zs → length zs ≤ number_base
replacement_short s t x p (L.Push l) zs w h = one_symbol S.Push zs cc
replacement_short s t x p (L.Pop l) zs w h = one_symbol S.Pop zs cc
replacement_short s t x p (L.Module l v) zs w h = successor_short s (has_balance s w) t x p l v zs h

no_rules : (s : System) (t : ℕ) (x : List L.LevelSymbol) (p : ℕ) (l : List ℕ) (v : ModuleValue) → group s t v.name (length v.params) ≡ [] → successor s t x p l v ≡ Ok (S.Module v.name v.params ∷ [])
no_rules s t x p l v e = ap (λ (bs : List Body). successor_by bs v (asked s t bs x p l v).answer) e

module _ (s : System) (t : ℕ) (m : Nodes Kept) (root : ℕ) (store : Store) (p : ℕ) where
  pub replaced : (k : ℕ) → ((a : Spotted) → slice_get (level_spots m root t) p ≡ Some a → a.key ≡ key_of s.seed (names m a.tag))
      → AnsweredAt s t m root store p k → slice_get (level_nodes m root t) p ≡ Some k
      → replacement s t (level_of m root t) p (node_symbol m k) ≡ Ok (kept_successors m k)
  replaced k keys answered there = by (spot_in k (m k)).seen (answer_at m k) refl (answered (spot_in k (m k)) here)
    where
      here : slice_get (level_spots m root t) p ≡ Some (spot_in k (m k))
      here = slice_get-map (λ k. spot_in k (m k)) (level_nodes m root t) p ∙ ap (λ o. option_map (λ k. spot_in k (m k)) o) there

      by : (x : Seen) (o : Option Kept) → (spot_in k (m k)).seen ≡ x → IsAnsweredRight s t (level_spots m root t) store p (spot_in k (m k)).tag x o
          → replacement s t (level_of m root t) p (with_lineage (names m (spot_in k (m k)).tag) x) ≡ Ok (kept_successor x o)
      by Push o e h = refl
      by Pop o e h = refl
      by (Module v) o e h = of (group s t v.name (length v.params)) refl h
        where
          whole : slice_get (level_spots m root t) p ≡ Some (record { seen = Module v; tag = (spot_in k (m k)).tag; key = key_of s.seed (names m (spot_in k (m k)).tag) })
          whole = here ∙ (λ i. Some (record { seen = e i; tag = (spot_in k (m k)).tag; key = keys (spot_in k (m k)) here i }))

          of : (bs : List Body) → group s t v.name (length v.params) ≡ bs → IsKeptFor bs (IsRight s t (level_spots m root t) store p (spot_in k (m k)).tag v) o
              → successor s t (level_of m root t) p (names m (spot_in k (m k)).tag) v ≡ Ok (kept_successor (Module v) o)
          of [] f none = no_rules s t (level_of m root t) p (names m (spot_in k (m k)).tag) v f ∙ ap (λ o. Ok (kept_successor (Module v) o)) (sym none)
          of (b ∷ bs) f some = sym (some.2.answer.told (names m) (record { here = whole })).successor ∙ ap (λ o. Ok (kept_successor (Module v) o)) (sym some.1)
