-- Nodes that are found one after the other.
use Rattle.std.proofs.Common.{◌≡◌, ◌⊎◌, ◌↔◌, ◌+◌, ℕ, zero, suc, take, arith, Bool, true, false, List, [], ◌∷◌, ◌++◌, Option, Some, refl, sym, ap, ◌∙◌, subst, inl, inr, append_assoc, eq-eqb}
use Rattle.std.proofs.lemmas.List.{append-nil}
use Rattle.std.specs.Prelude.{◌==◌, slice_get}
use Rattle.std.proofs.lemmas.Bool.{cases_eq, eqb-true}
use Rattle.lsys_spec.proofs.Tests.{one_of, or_first, or_later}
use Rattle.std.proofs.lemmas.Option.{none-some, same_Some}
use Rattle.lsys_spec.specs.Rows.{In}
use Rattle.lsys_reads.proofs.LevelLemmas.{got_in}
use Rattle.lsys_reads.proofs.SeamLemmas.{in_taken_next}
use Rattle.lsys_reads.specs.Rows.{has}
use Rattle.lsys_reads.specs.Relations.{Relations, is_settled}
use Rattle.lsys_forest.specs.Groves.{Grove}
use Rattle.lsys_forest.proofs.RowLemmas.{In_append, In_left, In_right, apart_append}
use Rattle.lsys_reads.specs.declared.seat.Seat.{Seat}
use Rattle.lsys_reads.specs.Neighbours.{neighbours_in}
use Rattle.lsys_reads.specs.Seats.{is_marked, SameSeats, KeepsSeats}
use Rattle.lsys_front.specs.Finds.{Gathers, IsTurned, IsAtOrBeside, IsBeside, IsReader}

pub marked_or_not : (b : Bool) → (b ≡ true) ⊎ (b ≡ false)
marked_or_not true = inl refl
marked_or_not false = inr refl

pub not_both : (b : Bool) → b ≡ true → b ≡ false → ⊥
not_both b e f = let g : true ≡ false = sym e ∙ f in cc

-- one test for each twice
pub in_has : (xs : List ℕ) (k : ℕ) → In k xs → has xs k ≡ true
in_has [] k h = absurd h
in_has (x ∷ xs) k (inl e) = or_first (x == k) (has xs k) (eq-eqb x k (sym e))
in_has (x ∷ xs) k (inr h) = or_later (x == k) (has xs k) (in_has xs k h)

pub has_in : (xs : List ℕ) (k : ℕ) → has xs k ≡ true → In k xs
has_in [] k h = absurd (let e : false ≡ true = h in cc)
has_in (x ∷ xs) k h = elim (one_of (x == k) (has xs k) h) [
  | inl e ↦ inl (sym (eqb-true x k e))
  | inr i ↦ inr (has_in xs k i)
]

-- nothing was found
pub gathers_none : (kind : ℕ → Type 0) (seats : List Seat) (xs : List ℕ) → Gathers kind seats seats xs xs
gathers_none kind seats xs = record {
  added = [];
  is = sym (append-nil xs);
  apart = tt;
  kinds = λ k h. absurd h;
  unmarked = λ k h. absurd h;
  marked = λ k h. absurd h;
  others = λ k n. refl;
  seats = λ k. refl;
  keeps = λ k h. h;
}

pub gathers_kind : (kind wider : ℕ → Type 0) (before after : List Seat) (xs ys : List ℕ) → ((k : ℕ) → kind k → wider k) → Gathers kind before after xs ys → Gathers wider before after xs ys
gathers_kind kind wider before after xs ys w g = record {
  added = g.added;
  is = g.is;
  apart = g.apart;
  kinds = λ k h. w k (g.kinds k h);
  unmarked = g.unmarked;
  marked = g.marked;
  others = g.others;
  seats = g.seats;
  keeps = g.keeps;
}

-- some were found, and then others
pub gathers_both : (kind : ℕ → Type 0) (a b c : List Seat) (xs ys zs : List ℕ) → Gathers kind a b xs ys → Gathers kind b c ys zs → Gathers kind a c xs zs
gathers_both kind a b c xs ys zs g h = record {
  added = g.added ++ h.added;
  is = h.is ∙ ap (λ l. l ++ h.added) g.is ∙ append_assoc xs g.added h.added;
  apart = apart_append g.added h.added g.apart h.apart (λ k i j. not_both (is_marked b k) (g.marked k i) (h.unmarked k j));
  kinds = λ k i. elim (In_append g.added h.added k i) [ inl j ↦ g.kinds k j | inr j ↦ h.kinds k j ];
  unmarked = λ k i. elim (In_append g.added h.added k i) [
    | inl j ↦ g.unmarked k j
    | inr j ↦ sym (g.others k (λ l. not_both (is_marked b k) (g.marked k l) (h.unmarked k j))) ∙ h.unmarked k j
  ];
  marked = λ k i. elim (In_append g.added h.added k i) [
    | inl j ↦ h.others k (λ l. not_both (is_marked b k) (g.marked k j) (h.unmarked k l)) ∙ g.marked k j
    | inr j ↦ h.marked k j
  ];
  others = λ k n. h.others k (λ j. n (In_right k g.added h.added j)) ∙ g.others k (λ j. n (In_left k g.added h.added j));
  seats = λ k. h.seats k ∙ g.seats k;
  keeps = λ k i. h.keeps k (g.keeps k i);
}

-- what was marked is
pub still_marked : (kind : ℕ → Type 0) (before after : List Seat) (xs ys : List ℕ) → Gathers kind before after xs ys → (k : ℕ) → is_marked before k ≡ true → is_marked after k ≡ true
still_marked kind before after xs ys g k h = elim (marked_or_not (is_marked after k)) [
  | inl e ↦ e
  | inr e ↦ absurd (not_both (is_marked before k) h (sym (g.others k (λ i. not_both (is_marked after k) (g.marked k i) e)) ∙ e))
]

pub gathers_old : (node : ℕ) (before after : List Seat) (xs : List ℕ) → is_marked before node ≡ true → is_marked after node ≡ true
    → ((k : ℕ) → (k ≡ node → ⊥) → is_marked after k ≡ is_marked before k) → SameSeats before after → KeepsSeats before after
    → Gathers (λ k. k ≡ node) before after xs xs
gathers_old node before after xs old marked others seats keeps = record {
  added = [];
  is = sym (append-nil xs);
  apart = tt;
  kinds = λ k h. absurd h;
  unmarked = λ k h. absurd h;
  marked = λ k h. absurd h;
  others = λ k n. elim (cases_eq k node) [
    | inl e ↦ ap (is_marked after) e ∙ marked ∙ sym old ∙ sym (ap (is_marked before) e)
    | inr ne ↦ others k ne
  ];
  seats = seats;
  keeps = keeps;
}

-- so by the end of a list: this step adds nodes of a narrower kind
pub gathers_next : (kind narrow : ℕ → Type 0) (a b c : List Seat) (xs ys zs : List ℕ) → ((k : ℕ) → narrow k → kind k) → Gathers kind a b xs ys → Gathers narrow b c ys zs → Gathers kind a c xs zs
gathers_next kind narrow a b c xs ys zs w g h = gathers_both kind a b c xs ys zs g (gathers_kind narrow kind b c ys zs w h)

-- steps of loops
module _ {A : Type 0} where
  pub turned_next : (f : Grove A) (a b c : List Seat) (xs ys zs us : List ℕ) (i x : ℕ) → slice_get us i ≡ Some x → Gathers (IsTurned f a us) a b xs ys → Gathers (IsTurned f b (x ∷ [])) b c ys zs
      → Gathers (IsTurned f a us) a c xs zs
  turned_next f a b c xs ys zs us i x here g h =
      gathers_next (IsTurned f a us) (IsTurned f b (x ∷ [])) a b c xs ys zs
      (λ k t. record { looked_at = own k t.looked_at; turned = λ e. t.turned (e ∙ sym (g.seats k)) }) g h
    where
      own : (k : ℕ) → In k (x ∷ []) → In k us
      own k (inl e) = subst (λ j. In j us) (sym e) (got_in us i x here)
      own k (inr n) = absurd n

  pub beside_next : (f : Grove A) (a b c : List Seat) (xs ys zs us : List ℕ) (i x : ℕ) → slice_get us i ≡ Some x → Gathers (IsBeside f us) a b xs ys → Gathers (IsAtOrBeside f x) b c ys zs → Gathers (IsBeside f us) a c xs zs
  beside_next f a b c xs ys zs us i x here g h = gathers_next (IsBeside f us) (IsAtOrBeside f x) a b c xs ys zs (λ k t. record { node = x; among = got_in us i x here; near = t }) g h

  -- a node, and those beside it
  pub all_near : (f : Grove A) (node : ℕ) (a b c d : List Seat) (xs ys zs ws : List ℕ) (left right : Option ℕ) → left ≡ (neighbours_in f node).left → right ≡ (neighbours_in f node).right
      → Gathers (λ k. left ≡ Some k) a b xs ys → Gathers (λ k. k ≡ node) b c ys zs → Gathers (λ k. right ≡ Some k) c d zs ws → Gathers (IsAtOrBeside f node) a d xs ws
  all_near f node a b c d xs ys zs ws left right l r g h i =
      gathers_next (IsAtOrBeside f node) (λ k. right ≡ Some k) a c d xs zs ws (λ k e. inr (inr (sym r ∙ e)))
      (gathers_next (IsAtOrBeside f node) (λ k. k ≡ node) a b c xs ys zs (λ k e. inl e) (gathers_kind (λ k. left ≡ Some k) (IsAtOrBeside f node) a b xs ys (λ k e. inr (inl (sym l ∙ e))) g) h) i

pub readers_next : (reads : Relations) (a b c : List Seat) (xs ys zs us tags : List ℕ) (i x : ℕ) → slice_get us i ≡ Some x → ((k : ℕ) → has tags k ≡ is_settled reads k x)
    → Gathers (IsReader reads us) a b xs ys → Gathers (λ k. In k tags) b c ys zs → Gathers (IsReader reads us) a c xs zs
readers_next reads a b c xs ys zs us tags i x here told g h =
    gathers_next (IsReader reads us) (λ k. In k tags) a b c xs ys zs (λ k t. record { node = x; among = got_in us i x here; read = sym (told k) ∙ in_has tags k t }) g h

pub tags_next : (a b c : List Seat) (xs ys zs us : List ℕ) (i x : ℕ) → slice_get us i ≡ Some x → Gathers (λ k. In k us) a b xs ys → Gathers (λ k. k ≡ x) b c ys zs → Gathers (λ k. In k us) a c xs zs
tags_next a b c xs ys zs us i x here g h = gathers_next (λ k. In k us) (λ k. k ≡ x) a b c xs ys zs (λ k e. subst (λ j. In j us) (sym e) (got_in us i x here)) g h

-- one more was taken of a list
pub taken_own : (xs : List ℕ) (i x : ℕ) → slice_get xs i ≡ Some x → In x (take (i + 1) xs)
taken_own [] i x h = absurd (none-some x h)
taken_own (y ∷ xs) zero x h = inl (sym (same_Some y x h))
taken_own (y ∷ xs) (suc i) x h = let n : suc i + 1 ≡ suc (i + 1) = omega arith in subst (λ n. In x (take n (y ∷ xs))) (sym n) (inr (taken_own xs i x h))

pub taken_more : (xs : List ℕ) (i k : ℕ) → In k (take i xs) → In k (take (i + 1) xs)
taken_more [] i k h = absurd (none_of_none i k h)
  where
    none_of_none : (i k : ℕ) → In k (take i []) → ⊥
    none_of_none zero k h = h
    none_of_none (suc i) k h = h
taken_more (y ∷ xs) zero k h = absurd h
taken_more (y ∷ xs) (suc i) k h = let n : suc i + 1 ≡ suc (i + 1) = omega arith in subst (λ n. In k (take n (y ∷ xs))) (sym n) (elim h [ inl e ↦ inl e | inr j ↦ inr (taken_more xs i k j) ])

pub marks_next : (a b c : List Seat) (xs : List ℕ) (i x : ℕ) → slice_get xs i ≡ Some x → ((k : ℕ) → (is_marked b k ≡ true) ↔ (In k (take i xs) ⊎ (is_marked a k ≡ true)))
    → is_marked c x ≡ true → ((k : ℕ) → (k ≡ x → ⊥) → is_marked c k ≡ is_marked b k) → (k : ℕ) → (is_marked c k ≡ true) ↔ (In k (take (i + 1) xs) ⊎ (is_marked a k ≡ true))
marks_next a b c xs i x here h own others k = (
  λ e. elim (cases_eq k x) [
    | inl same ↦ inl (subst (λ j. In j (take (i + 1) xs)) (sym same) (taken_own xs i x here))
    | inr ne ↦ elim ((h k).0 (sym (others k ne) ∙ e)) [ inl t ↦ inl (taken_more xs i k t) | inr m ↦ inr m ]
  ],
  λ t. elim (cases_eq k x) [
    | inl same ↦ ap (is_marked c) same ∙ own
    | inr ne ↦ others k ne ∙ (h k).1 (elim t [
      | inl j ↦ elim (in_taken_next xs i x k here j) [ inl before ↦ inl before | inr e ↦ absurd (ne e) ]
      | inr m ↦ inr m
    ])
  ],
)
