-- The patterns from a place on, by the item there.
use Rattle.std.proofs.Common.{◌≡◌, ℕ, zero, suc, List, ◌∷◌, ◌+◌, ◌≤◌, length, drop, Some, refl, ap, sym, ◌∙◌, arith}
use Rattle.std.specs.Prelude.{slice_get}
use Rattle.std.proofs.lemmas.List.{drop_more, drop_all}
use Rattle.std.proofs.lemmas.Option.{slice_get_within, get_or_from_slice_get}
use Rattle.lsys_spec.specs.Bodies as B
use Rattle.lsys_spec.specs.Bodies.{Patterns, PatternNest, outermost, within, with_pattern, with_branch, opened, innermost, Done, OneOf, BranchOf}
use Rattle.lsys_bodies.specs.declared.body.Pattern as code
use Rattle.lsys_bodies.specs.declared.body.Item.{Item}
use Rattle.lsys_bodies.specs.declared.body.Item.TheVariants.{Push, Pop, Pattern}
use Rattle.lsys_bodies.specs.Views.{as_pattern}
use Rattle.lsys_bodies.specs.Views.{nest}
use Rattle.lsys_walks.specs.Items.{patterns_from}

-- what stands around so many branches
abbrev pub around : ℕ → PatternNest → PatternNest
around zero n = n
around (suc k) (outermost p) = outermost Done
around (suc k) (within p n) = around k n

around_pattern : (k : ℕ) (q : B.Pattern) (n : PatternNest) → around (suc k) (with_pattern q n) ≡ around (suc k) n
around_pattern k q (outermost p) = refl
around_pattern k q (within p n) = refl

around_opened : (k : ℕ) (n : PatternNest) → around (suc k) (opened n) ≡ around (suc (suc k)) n
around_opened k (outermost p) = refl
around_opened k (within p (outermost r)) = refl
around_opened k (within p (within r n)) = refl

of_pattern : (q : B.Pattern) (n : PatternNest) → innermost (with_pattern q n) ≡ OneOf q (innermost n)
of_pattern q (outermost p) = refl
of_pattern q (within p n) = refl

of_opened : (n : PatternNest) → innermost (opened n) ≡ BranchOf (innermost n) (innermost (around 1 n))
of_opened (outermost p) = refl
of_opened (within p (outermost r)) = refl
of_opened (within p (within r n)) = refl

module _ (items : List Item) where
  from_item : (i : ℕ) (a : Item) → slice_get items i ≡ Some a → drop i items ≡ a ∷ drop (i + 1) items
  from_item i a h = drop_more items i a (slice_get_within items i a h) ∙ ap (λ t. t ∷ drop (i + 1) items) (get_or_from_slice_get items i a a h)

  pub patterns_end : (i : ℕ) → length items ≤ i → patterns_from items i ≡ Done
  patterns_end i h = ap (λ t. innermost (nest t)) (drop_all i items h)

  pub patterns_pop : (i : ℕ) → slice_get items i ≡ Some Pop → patterns_from items i ≡ Done
  patterns_pop i h = ap (λ t. innermost (nest t)) (from_item i Pop h)

  pub patterns_one : (i : ℕ) (q : code.Pattern) → slice_get items i ≡ Some (Pattern q) → patterns_from items i ≡ OneOf (as_pattern q) (patterns_from items (i + 1))
  patterns_one i q h = ap (λ t. innermost (nest t)) (from_item i (Pattern q) h) ∙ of_pattern (as_pattern q) (nest (drop (i + 1) items))

  pub patterns_branch : (i : ℕ) → slice_get items i ≡ Some Push → (outer : Patterns) × (patterns_from items i ≡ BranchOf (patterns_from items (i + 1)) outer)
  patterns_branch i h = (innermost (around 1 (nest (drop (i + 1) items))), ap (λ t. innermost (nest t)) (from_item i Push h) ∙ of_opened (nest (drop (i + 1) items)))

  -- so many branches are open inside the one that begins at a place
  abbrev pub Inside : ℕ → ℕ → ℕ → Type 0
  Inside at place inside = around 1 (nest (drop (at + 1) items)) ≡ around (suc inside) (nest (drop place items))

  pub inside_pattern : (at place inside : ℕ) (q : code.Pattern) → slice_get items place ≡ Some (Pattern q) → Inside at place inside → Inside at (place + 1) inside
  inside_pattern at place inside q h e = e ∙ ap (λ t. around (suc inside) (nest t)) (from_item place (Pattern q) h) ∙ around_pattern inside (as_pattern q) (nest (drop (place + 1) items))

  pub inside_push : (at place inside : ℕ) → slice_get items place ≡ Some Push → Inside at place inside → Inside at (place + 1) (inside + 1)
  inside_push at place inside h e =
      let more : suc (suc inside) ≡ suc (inside + 1) = omega arith in
      e ∙ ap (λ t. around (suc inside) (nest t)) (from_item place Push h) ∙ around_opened inside (nest (drop (place + 1) items)) ∙ ap (λ k. around k (nest (drop (place + 1) items))) more

  pub inside_pop : (at place inside : ℕ) → slice_get items place ≡ Some Pop → Inside at place (inside + 1) → Inside at (place + 1) inside
  inside_pop at place inside h e =
      let more : suc (inside + 1) ≡ suc (suc inside) = omega arith in
      e ∙ ap (λ t. around (suc (inside + 1)) (nest t)) (from_item place Pop h) ∙ ap (λ k. around k (within Done (nest (drop (place + 1) items)))) more

  pub branch_pop : (at place : ℕ) → slice_get items at ≡ Some Push → slice_get items place ≡ Some Pop → Inside at place 0 → patterns_from items at ≡ BranchOf (patterns_from items (at + 1)) (patterns_from items (place + 1))
  branch_pop at place b h e =
      ap (λ t. innermost (nest t)) (from_item at Push b) ∙ of_opened (nest (drop (at + 1) items))
      ∙ ap (λ n. BranchOf (patterns_from items (at + 1)) (innermost n)) (e ∙ ap (λ t. around 1 (nest t)) (from_item place Pop h))

  pub branch_end : (at place inside : ℕ) → slice_get items at ≡ Some Push → length items ≤ place → Inside at place inside → patterns_from items at ≡ BranchOf (patterns_from items (at + 1)) (patterns_from items place)
  branch_end at place inside b h e =
      ap (λ t. innermost (nest t)) (from_item at Push b) ∙ of_opened (nest (drop (at + 1) items))
      ∙ ap (λ n. BranchOf (patterns_from items (at + 1)) (innermost n)) (e ∙ ap (λ t. around (suc inside) (nest t)) (drop_all place items h)) ∙ ap (λ r. BranchOf (patterns_from items (at + 1)) r) (sym (patterns_end place h))
