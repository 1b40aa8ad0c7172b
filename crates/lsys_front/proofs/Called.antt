-- Those that may have to be asked, each once, and those of them that are.
use Rattle.std.proofs.Common.{◌≡◌, ◌↔◌, ℕ, false, List, [], ◌∷◌, ◌++◌, sym, subst, inl, inr, arith}
use Rattle.lsys_spec.specs.Rows.{In, AreApart}
use Rattle.lsys_spec.specs.Systems.{System}
use Rattle.lsys_forest.specs.Groves.{Grove, now_of}
use Rattle.lsys_reads.specs.declared.seat.Seat.{Seat}
use Rattle.lsys_reads.specs.Seats.{is_marked}
use Rattle.lsys_front.specs.Questioned.{AddsOf, AreOnOneLevel, ArePlaced}
use Rattle.lsys_front.specs.Candidates.{AsksOn}
use Rattle.lsys_front.specs.Finds.{Gathers, AllMarked}
use Rattle.lsys_front.proofs.Gathering.{gathers_kind, gathers_next, still_marked}
use Rattle.lsys_front.proofs.Marking.{found_kind, kind_found}
use Rattle.lsys_front.specs.Fronts.{Differences}
use Rattle.lsys_front.specs.Asks.{MayBeAsked, StandTogether}

-- 1. one list after the other

module _ (d : Differences) (beside readers others : List ℕ) where
  abbrev Kind : ℕ → Type 0
  Kind = MayBeAsked d beside readers others

  pub with_others : (a b : List Seat) (xs ys : List ℕ) → Gathers (λ k. In k others) a b xs ys → Gathers Kind a b xs ys
  with_others a b xs ys g = gathers_kind (λ k. In k others) Kind a b xs ys (λ k i. inl i) g

  module _ (a b c : List Seat) (xs ys zs these : List ℕ) (g : Gathers Kind a b xs ys) (h : Gathers (λ k. In k these) b c ys zs) where
    pub with_came : these ≡ d.changes.came → Gathers Kind a c xs zs
    with_came is = gathers_next Kind (λ k. In k these) a b c xs ys zs (λ k i. inr (inl (subst (In k) is i))) g h

    pub with_turned : these ≡ d.turned → Gathers Kind a c xs zs
    with_turned is = gathers_next Kind (λ k. In k these) a b c xs ys zs (λ k i. inr (inr (inl (subst (In k) is i)))) g h

    pub with_beside : these ≡ beside → Gathers Kind a c xs zs
    with_beside is = gathers_next Kind (λ k. In k these) a b c xs ys zs (λ k i. inr (inr (inr (inl (subst (In k) is i))))) g h

    pub with_readers : these ≡ readers → Gathers Kind a c xs zs
    with_readers is = gathers_next Kind (λ k. In k these) a b c xs ys zs (λ k i. inr (inr (inr (inr (subst (In k) is i))))) g h

  -- all of them are marked then
  pub all_called : (a b c e f : List Seat) (vs ws xs ys zs came turned next read : List ℕ) → came ≡ d.changes.came → turned ≡ d.turned → next ≡ beside → read ≡ readers
      → Gathers (λ k. In k next) a b vs ws → Gathers (λ k. In k read) b c ws xs → Gathers (λ k. In k turned) c e xs ys → Gathers (λ k. In k came) e f ys zs
      → AllMarked (λ k. In k others) a → AllMarked (λ k. In k next) b → AllMarked (λ k. In k read) c → AllMarked (λ k. In k turned) e → AllMarked (λ k. In k came) f
      → AllMarked Kind f
  all_called a b c e f vs ws xs ys zs came turned next read is is' is'' is''' g1 g2 g3 g4 m0 m1 m2 m3 m4 k i =
      let two = still_marked (λ k. In k read) b c ws xs g2 k in
      let three = still_marked (λ k. In k turned) c e xs ys g3 k in
      let four = still_marked (λ k. In k came) e f ys zs g4 k in
      elim i [
        | inl j ↦ four (three (two (still_marked (λ k. In k next) a b vs ws g1 k (m0 k j))))
        | inr (inl j) ↦ m4 k (subst (In k) (sym is) j)
        | inr (inr (inl j)) ↦ four (m3 k (subst (In k) (sym is') j))
        | inr (inr (inr (inl j))) ↦ four (three (two (m1 k (subst (In k) (sym is'') j))))
        | inr (inr (inr (inr j))) ↦ four (three (m2 k (subst (In k) (sym is''') j)))
      ]

-- 2. where none was marked, these are all

module _ (kind : ℕ → Type 0) (a b : List Seat) (xs ys : List ℕ) (none : xs ≡ []) (g : Gathers kind a b xs ys) where
  whole : Gathers kind a b [] ys
  whole = subst (λ (l : List ℕ). Gathers kind a b l ys) none g

  pub called_are : (k : ℕ) → In k ys → kind k
  called_are k i = (found_kind kind a b ys whole k i).0

  pub called_all : ((k : ℕ) → is_marked a k ≡ false) → AllMarked kind b → (k : ℕ) → kind k → In k ys
  called_all clear all k h = kind_found kind a b ys whole all k h (clear k)

-- 3. those of them that are asked

module _ {A : Type 0} (f : Grove A) (s : System) (t : ℕ) (kind : ℕ → Type 0) (nodes none asked : List ℕ)
    (are : (k : ℕ) → In k nodes → kind k) (empty : none ≡ []) (adds : AddsOf (AsksOn s t (now_of f)) nodes none asked) where
  asked_is : asked ≡ adds.added
  asked_is = subst (λ (l : List ℕ). asked ≡ l ++ adds.added) empty adds.is

  pub asked_of : (k : ℕ) → In k asked → In k nodes × AsksOn s t (now_of f) k
  asked_of k i = (adds.are k).0 (subst (In k) asked_is i)

  pub of_asked : (k : ℕ) → In k nodes → AsksOn s t (now_of f) k → In k asked
  of_asked k i a = subst (In k) (sym asked_is) ((adds.are k).1 (i, a))

  pub asked_level : StandTogether f kind → AreOnOneLevel f asked
  asked_level h = record {
    level = h.level;
    spots = λ k i. h.spots k (are k (asked_of k i).0);
    levels = λ k i. h.levels k (are k (asked_of k i).0);
  }

  -- in order
  pub asked_are : (found : List ℕ) → ((k : ℕ) → In k found ↔ In k asked) → ((k : ℕ) → kind k → In k nodes) → (k : ℕ) → In k found ↔ (AsksOn s t (now_of f) k × kind k)
  asked_are found same all k = (
    λ i. (let u = asked_of k ((same k).0 i) in (u.1, are k u.0)),
    λ u. (same k).1 (of_asked k (all k u.1) u.0),
  )

pub placed_apart : (place : ℕ → ℕ) (xs : List ℕ) → ArePlaced place xs → AreApart xs
placed_apart place [] h = tt
placed_apart place (x ∷ xs) h = (λ i. (let l = h.0 x i in omega (arith, l)), placed_apart place xs h.1)
