-- Who is found, by what is marked.
use Rattle.std.proofs.Common.{◌≡◌, ◌⊎◌, ◌↔◌, ℕ, true, false, List, [], ◌++◌, sym, ◌∙◌, subst, inl, inr}
use Rattle.lsys_spec.specs.Rows.{In, AreApart}
use Rattle.lsys_reads.specs.Relations.{Relations}
use Rattle.lsys_forest.specs.Groves.{Grove}
use Rattle.lsys_forest.proofs.RowLemmas.{In_append, In_left, In_right}
use Rattle.lsys_reads.specs.declared.seat.Seat.{Seat}
use Rattle.lsys_reads.specs.Seats.{is_marked, SameSeats}
use Rattle.lsys_front.specs.Found.{LevelChanges}
use Rattle.lsys_front.specs.Finds.{Gathers, AllMarked, IsTurned, IsBeside, IsReader}
use Rattle.lsys_front.specs.Found.{IsOther, IsFound}
use Rattle.lsys_front.proofs.Spots.{is_in}
use Rattle.lsys_front.proofs.Gathering.{marked_or_not, not_both, still_marked, gathers_kind, gathers_both}

-- these are marked, and no others
abbrev pub IsMarkedBy : (ℕ → Type 0) → List Seat → Type 0
IsMarkedBy kind seats = (k : ℕ) → (is_marked seats k ≡ true) ↔ kind k

unmarked_by : (kind : ℕ → Type 0) (seats : List Seat) → IsMarkedBy kind seats → (k : ℕ) → (kind k → ⊥) → is_marked seats k ≡ false
unmarked_by kind seats m k n = elim (marked_or_not (is_marked seats k)) [ inl e ↦ absurd (n ((m k).0 e)) | inr e ↦ e ]

none_by : (kind : ℕ → Type 0) (seats : List Seat) → IsMarkedBy kind seats → (k : ℕ) → is_marked seats k ≡ false → kind k → ⊥
none_by kind seats m k e h = not_both (is_marked seats k) ((m k).1 h) e

-- what is marked after a step was marked before, or was found
pub marked_now : (kind : ℕ → Type 0) (a b : List Seat) (xs ys : List ℕ) → Gathers kind a b xs ys → (k : ℕ) → is_marked b k ≡ true → (is_marked a k ≡ true) ⊎ In k ys
marked_now kind a b xs ys g k e = elim (is_in k g.added) [
  | inl h ↦ inr (subst (In k) (sym g.is) (In_right k xs g.added h))
  | inr n ↦ inl (sym (g.others k n) ∙ e)
]

pub more_now : (kind : ℕ → Type 0) (a b : List Seat) (xs ys : List ℕ) → Gathers kind a b xs ys → (k : ℕ) → In k xs → In k ys
more_now kind a b xs ys g k h = subst (In k) (sym g.is) (In_left k xs g.added h)

pub reach : (kind Q : ℕ → Type 0) (a b : List Seat) (xs ys : List ℕ) → Gathers kind a b xs ys → ((k : ℕ) → is_marked a k ≡ true → Q k) → (k : ℕ) → is_marked b k ≡ true → Q k ⊎ In k ys
reach kind Q a b xs ys g h k e = elim (marked_now kind a b xs ys g k e) [ inl m ↦ inl (h k m) | inr i ↦ inr i ]

pub reach_on : (kind Q : ℕ → Type 0) (a b : List Seat) (xs ys : List ℕ) → Gathers kind a b xs ys → ((k : ℕ) → is_marked a k ≡ true → Q k ⊎ In k xs) → (k : ℕ) → is_marked b k ≡ true → Q k ⊎ In k ys
reach_on kind Q a b xs ys g h k e = elim (marked_now kind a b xs ys g k e) [
  | inl m ↦ elim (h k m) [ inl q ↦ inl q | inr i ↦ inr (more_now kind a b xs ys g k i) ]
  | inr i ↦ inr i
]

pub regroup : {A B C D : Type 0} → ((A ⊎ B) ⊎ C) ⊎ D → A ⊎ (B ⊎ (C ⊎ D))
regroup (inl (inl (inl a))) = inl a
regroup (inl (inl (inr b))) = inr (inl b)
regroup (inl (inr c)) = inr (inr (inl c))
regroup (inr d) = inr (inr (inr d))

pub regather : (K : List ℕ → ℕ → Type 0) (us vs : List ℕ) (a b : List Seat) (xs xs' ys : List ℕ) → us ≡ vs → xs ≡ xs' → Gathers (K us) a b xs ys → Gathers (K vs) a b xs' ys
regather K us vs a b xs xs' ys e f g = subst (λ us. Gathers (K us) a b xs' ys) e (subst (λ xs. Gathers (K us) a b xs ys) f g)

pub remark : (K : List ℕ → ℕ → Type 0) (us vs : List ℕ) (b : List Seat) → us ≡ vs → AllMarked (K us) b → AllMarked (K vs) b
remark K us vs b e h = subst (λ us. AllMarked (K us) b) e h

-- of one kind all were found that were not marked
module _ (kind : ℕ → Type 0) (a b : List Seat) (ys : List ℕ) (g : Gathers kind a b [] ys) where
  pub found_once : AreApart ys
  found_once = subst AreApart (sym g.is) g.apart

  pub found_kind : (k : ℕ) → In k ys → kind k × (is_marked a k ≡ false)
  found_kind k h = let i = subst (In k) g.is h in (g.kinds k i, g.unmarked k i)

  pub kind_found : AllMarked kind b → (k : ℕ) → kind k → is_marked a k ≡ false → In k ys
  kind_found all k h e = elim (marked_now kind a b [] ys g k (all k h)) [
    | inl m ↦ absurd (not_both (is_marked a k) m e)
    | inr i ↦ i
  ]

  pub marks_now : (other : ℕ → Type 0) → IsMarkedBy other a → IsMarkedBy (λ k. other k ⊎ In k ys) b
  marks_now other m k = (
    λ e. elim (marked_now kind a b [] ys g k e) [ inl o ↦ inl ((m k).0 o) | inr i ↦ inr i ],
    λ h. elim h [
      | inl o ↦ still_marked kind a b [] ys g k ((m k).1 o)
      | inr i ↦ g.marked k (subst (In k) g.is i)
    ],
  )

  pub found_are : (other : ℕ → Type 0) → IsMarkedBy other a → AllMarked kind b → (k : ℕ) → In k ys ↔ (kind k × (other k → ⊥))
  found_are other m all k = (
    λ h. (let f = found_kind k h in (f.0, none_by other a m k f.1)),
    λ h. kind_found all k h.0 (unmarked_by other a m k h.1),
  )

-- the nodes that are gone were marked, and those that came
pub others_marked : (a b c : List Seat) (changes : LevelChanges) (gone came : List ℕ) → gone ≡ changes.gone → came ≡ changes.came → ((k : ℕ) → is_marked a k ≡ false)
    → ((k : ℕ) → (is_marked b k ≡ true) ↔ (In k gone ⊎ (is_marked a k ≡ true))) → ((k : ℕ) → (is_marked c k ≡ true) ↔ (In k came ⊎ (is_marked b k ≡ true))) → IsMarkedBy (IsOther changes) c
others_marked a b c changes gone came eg ec clear first second k = (
  λ e. elim ((second k).0 e) [
    | inl h ↦ inr (subst (In k) ec h)
    | inr m ↦ elim ((first k).0 m) [ inl h ↦ inl (subst (In k) eg h) | inr n ↦ absurd (not_both (is_marked a k) n (clear k)) ]
  ],
  λ h. elim h [
    | inl i ↦ (second k).1 (inr ((first k).1 (inl (subst (In k) (sym eg) i))))
    | inr i ↦ (second k).1 (inl (subst (In k) (sym ec) i))
  ],
)

-- readers of three lists
module _ (reads : Relations) (a b c d : List Seat) (xs ys zs one two three : List ℕ) where
  abbrev all_three : List ℕ
  all_three = one ++ (two ++ three)

  pub readers_of_all : Gathers (IsReader reads one) a b [] xs → Gathers (IsReader reads two) b c xs ys → Gathers (IsReader reads three) c d ys zs → Gathers (IsReader reads (one ++ (two ++ three))) a d [] zs
  readers_of_all g h i =
      gathers_both (IsReader reads all_three) a c d [] ys zs
      (gathers_both (IsReader reads all_three) a b c [] xs ys
      (gathers_kind (IsReader reads one) (IsReader reads all_three) a b [] xs (λ k t. record { node = t.node; among = In_left t.node one (two ++ three) t.among; read = t.read }) g)
      (gathers_kind (IsReader reads two) (IsReader reads all_three) b c xs ys (λ k t. record { node = t.node; among = In_right t.node one (two ++ three) (In_left t.node two three t.among); read = t.read }) h))
      (gathers_kind (IsReader reads three) (IsReader reads all_three) c d ys zs (λ k t. record { node = t.node; among = In_right t.node one (two ++ three) (In_right t.node two three t.among); read = t.read }) i)

  pub all_readers : Gathers (IsReader reads two) b c xs ys → Gathers (IsReader reads three) c d ys zs → AllMarked (IsReader reads one) b → AllMarked (IsReader reads two) c → AllMarked (IsReader reads three) d
      → AllMarked (IsReader reads (one ++ (two ++ three))) d
  all_readers h i m n o k t = elim (In_append one (two ++ three) t.node t.among) [
    | inl u ↦ still_marked (IsReader reads three) c d ys zs i k (still_marked (IsReader reads two) b c xs ys h k (m k (record { node = t.node; among = u; read = t.read })))
    | inr v ↦ elim (In_append two three t.node v) [
      | inl u ↦ still_marked (IsReader reads three) c d ys zs i k (n k (record { node = t.node; among = u; read = t.read }))
      | inr u ↦ o k (record { node = t.node; among = u; read = t.read })
    ]
  ]

module _ {A : Type 0} (f : Grove A) (reads : Relations) (changes : LevelChanges) (s a b c d : List Seat) (turned beside readers : List ℕ) where
  pub found_all : SameSeats s a → IsMarkedBy (IsOther changes) a
      → Gathers (IsTurned f a changes.looked) a b [] turned → AllMarked (IsTurned f a changes.looked) b
      → Gathers (IsBeside f changes.changed) b c [] beside → AllMarked (IsBeside f changes.changed) c
      → Gathers (IsReader reads (turned ++ (beside ++ changes.gone))) c d [] readers → AllMarked (IsReader reads (turned ++ (beside ++ changes.gone))) d
      → IsFound f s reads changes turned beside readers
  found_all same m g all h all' i all'' =
      let m2 = marks_now (IsTurned f a changes.looked) a b turned g (IsOther changes) m in
      let m3 = marks_now (IsBeside f changes.changed) b c beside h (λ k. IsOther changes k ⊎ In k turned) m2 in
      let t = found_are (IsTurned f a changes.looked) a b turned g (IsOther changes) m all in
      record {
        turned_are = λ k. (
          λ e. (let u = (t k).0 e in (record { looked_at = u.0.looked_at; turned = λ n. u.0.turned (n ∙ sym (same k)) }, u.1)),
          λ e. (t k).1 (record { looked_at = e.0.looked_at; turned = λ n. e.0.turned (n ∙ same k) }, e.1),
        );
        beside_are = found_are (IsBeside f changes.changed) b c beside h (λ k. IsOther changes k ⊎ In k turned) m2 all';
        readers_are = found_are (IsReader reads (turned ++ (beside ++ changes.gone))) c d readers i (λ k. IsOther changes k ⊎ In k turned ⊎ In k beside) (λ k. (
          λ e. elim ((m3 k).0 e) [
            | inl o ↦ elim o [ inl p ↦ inl p | inr q ↦ inr (inl q) ]
            | inr q ↦ inr (inr q)
          ],
          λ e. (m3 k).1 (elim e [
            | inl p ↦ inl (inl p)
            | inr o ↦ elim o [ inl q ↦ inl (inr q) | inr q ↦ inr q ]
          ]),
        )) all'';
        turned_once = found_once (IsTurned f a changes.looked) a b turned g;
        beside_once = found_once (IsBeside f changes.changed) b c beside h;
        readers_once = found_once (IsReader reads (turned ++ (beside ++ changes.gone))) c d readers i;
      }

-- where nobody was looked at, has another symbol or is gone, nobody is found
pub found_none : {A : Type 0} (f : Grove A) (s : List Seat) (reads : Relations) (changes : LevelChanges) (turned beside readers : List ℕ) → changes.looked ≡ [] → changes.changed ≡ [] → changes.gone ≡ []
    → turned ≡ [] → beside ≡ [] → readers ≡ [] → IsFound f s reads changes turned beside readers
found_none f s reads changes turned beside readers looked changed gone t b r = record {
  turned_are = λ k. (λ i. absurd (subst (In k) t i), λ u. absurd (subst (In k) looked u.0.looked_at));
  beside_are = λ k. (λ i. absurd (subst (In k) b i), λ u. absurd (subst (In u.0.node) changed u.0.among));
  readers_are = λ k. (λ i. absurd (subst (In k) r i), λ u. absurd (in_none u.0.node u.0.among));
  turned_once = subst AreApart (sym t) tt;
  beside_once = subst AreApart (sym b) tt;
  readers_once = subst AreApart (sym r) tt;
}
  where
    in_none : (k : ℕ) → In k (turned ++ (beside ++ changes.gone)) → ⊥
    in_none k i = elim (In_append turned (beside ++ changes.gone) k i) [
      | inl j ↦ subst (In k) t j
      | inr o ↦ elim (In_append beside changes.gone k o) [ inl j ↦ subst (In k) b j | inr j ↦ subst (In k) gone j ]
    ]

-- these are marked no more
pub cleared_of : (Q : ℕ → Type 0) (a b : List Seat) (xs list : List ℕ) → xs ≡ list → ((k : ℕ) → In k xs → is_marked b k ≡ false) → ((k : ℕ) → (In k xs → ⊥) → is_marked b k ≡ is_marked a k)
    → ((k : ℕ) → is_marked a k ≡ true → In k list ⊎ Q k) → (k : ℕ) → is_marked b k ≡ true → Q k
cleared_of Q a b xs list e cleared others was k m = elim (is_in k xs) [
  | inl h ↦ absurd (not_both (is_marked b k) m (cleared k h))
  | inr n ↦ elim (was k (sym (others k n) ∙ m)) [ inl i ↦ absurd (n (subst (In k) (sym e) i)) | inr q ↦ q ]
]

pub none_marked : (seats : List Seat) → ((k : ℕ) → is_marked seats k ≡ true → ⊥) → (k : ℕ) → is_marked seats k ≡ false
none_marked seats h k = elim (marked_or_not (is_marked seats k)) [ inl e ↦ absurd (h k e) | inr e ↦ e ]

pub in_turn : {A B C D E : Type 0} → (A ⊎ B) ⊎ (C ⊎ (D ⊎ E)) → A ⊎ (B ⊎ (C ⊎ (D ⊎ (E ⊎ ⊥))))
in_turn (inl (inl a)) = inl a
in_turn (inl (inr b)) = inr (inl b)
in_turn (inr (inl c)) = inr (inr (inl c))
in_turn (inr (inr (inl d))) = inr (inr (inr (inl d)))
in_turn (inr (inr (inr e))) = inr (inr (inr (inr (inl e))))
