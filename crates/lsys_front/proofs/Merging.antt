-- Lists of nodes in order, and two that are merged.
use Rattle.std.proofs.Common.{◌≡◌, ◌⊎◌, ◌↔◌, ◌+◌, ◌-◌, ◌<◌, ◌≤◌, ℕ, zero, suc, take, drop, length-drop, List, [], ◌∷◌, ◌++◌, length, Some, refl, sym, ap, ◌∙◌, subst, inl, inr, arith}
use Rattle.std.specs.Prelude.{slice_get}
use Rattle.std.proofs.lemmas.Bool.{cases_lt}
use Rattle.lsys_front.proofs.Adding.{take_all}
use Rattle.std.proofs.lemmas.Option.{none-some, same_Some}
use Rattle.lsys_spec.specs.Rows.{In, AreApart}
use Rattle.lsys_forest.specs.Groves.{Grove}
use Rattle.lsys_forest.specs.Rows.{level_of_node, place_of_node, IsAtSpot}
use Rattle.lsys_forest.proofs.RowLemmas.{In_append, In_left, In_right}
use Rattle.lsys_reads.specs.Neighbours.{level_around}
use Rattle.lsys_reads.proofs.LevelLemmas.{there_is, got_in}
use Rattle.lsys_reads.proofs.SeamLemmas.{in_taken_next, in_all_taken, none_taken}
use Rattle.lsys_front.specs.Questioned.{AreOnOneLevel, ArePlaced, AreInOrder}
use Rattle.lsys_front.specs.Merges.{AreMergeable, AreMerged}
use Rattle.lsys_front.proofs.Gathering.{taken_own, taken_more}

-- 1. order

placed_both : (p : ℕ → ℕ) (xs ys : List ℕ) → ArePlaced p xs → ArePlaced p ys → ((k l : ℕ) → In k xs → In l ys → p k < p l) → ArePlaced p (xs ++ ys)
placed_both p [] ys h i b = i
placed_both p (x ∷ xs) ys h i b = (
  λ k j. elim (In_append xs ys k j) [ inl u ↦ h.0 k u | inr u ↦ b x k (inl refl) u ],
  placed_both p xs ys h.1 i (λ k l u v. b k l (inr u) v),
)

placed_one : (p : ℕ → ℕ) (xs : List ℕ) (x : ℕ) → ArePlaced p xs → ((k : ℕ) → In k xs → p k < p x) → ArePlaced p (xs ++ x ∷ [])
placed_one p xs x h b = placed_both p xs (x ∷ []) h (λ k i. absurd i, tt) (λ k l u v. elim v [ inl e ↦ subst (λ l. p k < p l) (sym e) (b k u) | inr n ↦ absurd n ])

-- those before a place are below what stands there, and that below what is after
taken_below : (p : ℕ → ℕ) (xs : List ℕ) (i x k : ℕ) → ArePlaced p xs → slice_get xs i ≡ Some x → In k (take i xs) → p k < p x
taken_below p [] i x k h here t = absurd (none-some x here)
taken_below p (y ∷ xs) zero x k h here t = absurd t
taken_below p (y ∷ xs) (suc i) x k h here (inl e) = subst (λ k. p k < p x) (sym e) (h.0 x (got_in xs i x here))
taken_below p (y ∷ xs) (suc i) x k h here (inr t) = taken_below p xs i x k h.1 here t

next_above : (p : ℕ → ℕ) (xs : List ℕ) (i x y : ℕ) → ArePlaced p xs → slice_get xs i ≡ Some x → slice_get xs (i + 1) ≡ Some y → p x < p y
next_above p [] i x y h here next = absurd (none-some x here)
next_above p (z ∷ xs) zero x y h here next = subst (λ x. p x < p y) (same_Some z x here) (h.0 y (got_in xs 0 y next))
next_above p (z ∷ xs) (suc i) x y h here next = let n : suc i + 1 ≡ suc (i + 1) = omega arith in next_above p xs i x y h.1 here (sym (ap (slice_get (z ∷ xs)) n) ∙ next)

placed_drop : (p : ℕ → ℕ) (xs : List ℕ) (j : ℕ) → ArePlaced p xs → ArePlaced p (drop j xs)
placed_drop p [] zero h = tt
placed_drop p [] (suc j) h = tt
placed_drop p (x ∷ xs) zero h = h
placed_drop p (x ∷ xs) (suc j) h = placed_drop p xs j h.1

-- 2. one more

pub add_left : (p : ℕ → ℕ) (left right : List ℕ) (i j : ℕ) (xs : List ℕ) (x : ℕ) → ArePlaced p left → slice_get left i ≡ Some x → AreMerged p left right i j xs
    → ((y : ℕ) → slice_get right j ≡ Some y → p x < p y) → AreMerged p left right (i + 1) j (xs ++ x ∷ [])
add_left p left right i j xs x order here m next = record {
  within = m.within;
  members = λ k. (
    λ h. elim (In_append xs (x ∷ []) k h) [
      | inl u ↦ elim ((m.members k).0 u) [ inl a ↦ inl (taken_more left i k a) | inr b ↦ inr b ]
      | inr u ↦ elim u [ inl e ↦ inl (subst (λ k. In k (take (i + 1) left)) (sym e) (taken_own left i x here)) | inr n ↦ absurd n ]
    ],
    λ h. elim h [
      | inl a ↦ elim (in_taken_next left i x k here a) [ inl b ↦ In_left k xs (x ∷ []) ((m.members k).1 (inl b)) | inr e ↦ In_right k xs (x ∷ []) (inl e) ]
      | inr b ↦ In_left k xs (x ∷ []) ((m.members k).1 (inr b))
    ],
  );
  order = placed_one p xs x m.order (λ k u. elim ((m.members k).0 u) [ inl a ↦ taken_below p left i x k order here a | inr b ↦ m.right_below k x b here ]);
  left_below = λ k y a there. elim (in_taken_next left i x k here a) [ inl b ↦ m.left_below k y b there | inr e ↦ subst (λ k. p k < p y) (sym e) (next y there) ];
  right_below = λ k y b there. omega (arith, m.right_below k x b here, next_above p left i x y order here there);
}

pub add_right : (p : ℕ → ℕ) (left right : List ℕ) (i j : ℕ) (xs : List ℕ) (x y : ℕ) → ArePlaced p right → slice_get left i ≡ Some x → slice_get right j ≡ Some y → j < length right → p y < p x
    → AreMerged p left right i j xs → AreMerged p left right i (j + 1) (xs ++ y ∷ [])
add_right p left right i j xs x y order here there less before m = record {
  within = omega (arith, less);
  members = λ k. (
    λ h. elim (In_append xs (y ∷ []) k h) [
      | inl u ↦ elim ((m.members k).0 u) [ inl a ↦ inl a | inr b ↦ inr (taken_more right j k b) ]
      | inr u ↦ elim u [ inl e ↦ inr (subst (λ k. In k (take (j + 1) right)) (sym e) (taken_own right j y there)) | inr n ↦ absurd n ]
    ],
    λ h. elim h [
      | inl a ↦ In_left k xs (y ∷ []) ((m.members k).1 (inl a))
      | inr b ↦ elim (in_taken_next right j y k there b) [ inl c ↦ In_left k xs (y ∷ []) ((m.members k).1 (inr c)) | inr e ↦ In_right k xs (y ∷ []) (inl e) ]
    ],
  );
  order = placed_one p xs y m.order (λ k u. elim ((m.members k).0 u) [ inl a ↦ m.left_below k y a there | inr b ↦ taken_below p right j y k order there b ]);
  left_below = λ k z a further. omega (arith, m.left_below k y a there, next_above p right j y z order there further);
  right_below = λ k z b further.
      let same : x ≡ z = same_Some x z (sym here ∙ further) in
      elim (in_taken_next right j y k there b) [
        | inl c ↦ m.right_below k z c further
        | inr e ↦ subst (λ k. p k < p z) (sym e) (subst (λ z. p y < p z) same before)
      ];
}

-- 3. the ends

pub merged_none : (p : ℕ → ℕ) (left right xs : List ℕ) → xs ≡ [] → AreMerged p left right 0 0 xs
merged_none p left right xs e = subst (AreMerged p left right 0 0) (sym e) (record {
  within = omega arith;
  members = λ k. (λ h. absurd h, λ h. elim h [ inl t ↦ none_taken left k t | inr t ↦ none_taken right k t ]);
  order = tt;
  left_below = λ k x t here. absurd (none_taken left k t);
  right_below = λ k x t here. absurd (none_taken right k t);
})

in_parts : (xs : List ℕ) (j k : ℕ) → In k xs → In k (take j xs) ⊎ In k (drop j xs)
in_parts [] j k h = absurd h
in_parts (x ∷ xs) zero k h = inr h
in_parts (x ∷ xs) (suc j) k (inl e) = inl (inl e)
in_parts (x ∷ xs) (suc j) k (inr h) = elim (in_parts xs j k h) [ inl t ↦ inl (inr t) | inr d ↦ inr d ]

in_take : (xs : List ℕ) (j k : ℕ) → In k (take j xs) → In k xs
in_take [] zero k h = h
in_take [] (suc j) k h = h
in_take (x ∷ xs) zero k h = absurd h
in_take (x ∷ xs) (suc j) k (inl e) = inl e
in_take (x ∷ xs) (suc j) k (inr h) = inr (in_take xs j k h)

in_drop : (xs : List ℕ) (j k : ℕ) → In k (drop j xs) → In k xs
in_drop [] zero k h = h
in_drop [] (suc j) k h = h
in_drop (x ∷ xs) zero k h = h
in_drop (x ∷ xs) (suc j) k h = inr (in_drop xs j k h)

-- what is dropped begins with what stands there, and all of it is as high at least
dropped_above : (p : ℕ → ℕ) (xs : List ℕ) (j l : ℕ) → ArePlaced p xs → In l (drop j xs) → (x : ℕ) × (slice_get xs j ≡ Some x) × (p x ≤ p l)
dropped_above p [] zero l h i = absurd i
dropped_above p [] (suc j) l h i = absurd i
dropped_above p (x ∷ xs) zero l h (inl e) = (x, refl, subst (λ l. p x ≤ p l) (sym e) (omega arith))
dropped_above p (x ∷ xs) zero l h (inr i) = (x, refl, omega (arith, h.0 l i))
dropped_above p (x ∷ xs) (suc j) l h i = dropped_above p xs j l h.1 i

pub all_merged : (p : ℕ → ℕ) (left right : List ℕ) (i j : ℕ) (xs : List ℕ) → ArePlaced p right → length left ≤ i → AreMerged p left right i j xs
    → ((k : ℕ) → In k (xs ++ drop j right) ↔ (In k left ⊎ In k right)) × ArePlaced p (xs ++ drop j right)
all_merged p left right i j xs order long m = (
  λ k. (
    λ h. elim (In_append xs (drop j right) k h) [
      | inl u ↦ elim ((m.members k).0 u) [ inl a ↦ inl (in_take left i k a) | inr b ↦ inr (in_take right j k b) ]
      | inr u ↦ inr (in_drop right j k u)
    ],
    λ h. elim h [
      | inl a ↦ In_left k xs (drop j right) ((m.members k).1 (inl (in_all_taken left i k long a)))
      | inr b ↦ elim (in_parts right j k b) [ inl t ↦ In_left k xs (drop j right) ((m.members k).1 (inr t)) | inr d ↦ In_right k xs (drop j right) d ]
    ],
  ),
  placed_both p xs (drop j right) m.order (placed_drop p right j order) (λ k l u v.
      let x = dropped_above p right j l order v in
      let below : p k < p x.0 = elim ((m.members k).0 u) [ inl a ↦ m.left_below k x.0 a x.1 | inr b ↦ taken_below p right j x.0 k order x.1 b ] in
      omega (arith, below, x.2)),
)

-- 4. places

module _ {A : Type 0} where
  place_one : (f : Grove A) (k j : ℕ) → IsAtSpot f k → IsAtSpot f j → level_of_node f j ≡ level_of_node f k → place_of_node f k ≡ place_of_node f j → k ≡ j
  place_one f k j h i level e =
      same_Some k j (sym (there_is f k k h refl h) ∙ ap (slice_get (level_around f k)) e ∙ there_is f k j h level (omega (arith, e, h)))

  -- of two nodes the second comes first where the first does not
  pub not_before : (f : Grove A) (left right : List ℕ) (x y : ℕ) → AreMergeable f left right → In x left → In y right → (place_of_node f y < place_of_node f x → ⊥) → place_of_node f x < place_of_node f y
  not_before f left right x y m i j n = elim (cases_lt (place_of_node f x) (place_of_node f y)) [
    | inl less ↦ less
    | inr most ↦ elim (cases_lt (place_of_node f y) (place_of_node f x)) [
      | inl less ↦ absurd (n less)
      | inr least ↦
          let a = m.left_level x i in
          let b = m.right_level y j in
          let same : x ≡ y = place_one f x y a.0 b.0 (b.1 ∙ sym a.1) (omega (arith, most, least)) in absurd (m.apart y (subst (λ x. In x left) same i) j)
    ]
  ]

pub rest_all : (xs : List ℕ) (j : ℕ) → take (length xs - j) (drop j xs) ≡ drop j xs
rest_all xs j = take_all (drop j xs) (length xs - j) (omega (arith, length-drop j xs))

-- 5. two parts of a list

pub take_apart : (xs : List ℕ) (j : ℕ) → AreApart xs → AreApart (take j xs)
take_apart [] zero h = tt
take_apart [] (suc j) h = tt
take_apart (x ∷ xs) zero h = tt
take_apart (x ∷ xs) (suc j) h = (λ i. h.0 (in_take xs j x i), take_apart xs j h.1)

pub drop_apart : (xs : List ℕ) (j : ℕ) → AreApart xs → AreApart (drop j xs)
drop_apart [] zero h = tt
drop_apart [] (suc j) h = tt
drop_apart (x ∷ xs) zero h = h
drop_apart (x ∷ xs) (suc j) h = drop_apart xs j h.1

pub parts_apart : (xs : List ℕ) (j k : ℕ) → AreApart xs → In k (take j xs) → In k (drop j xs) → ⊥
parts_apart [] zero k h i d = i
parts_apart [] (suc j) k h i d = i
parts_apart (x ∷ xs) zero k h i d = i
parts_apart (x ∷ xs) (suc j) k h (inl e) d = h.0 (subst (λ k. In k xs) e (in_drop xs j k d))
parts_apart (x ∷ xs) (suc j) k h (inr i) d = parts_apart xs j k h.1 i d

pub rest_apart : (xs : List ℕ) (j : ℕ) → AreApart xs → AreApart (take (length xs - j) (drop j xs))
rest_apart xs j h = subst AreApart (sym (rest_all xs j)) (drop_apart xs j h)

module _ {A : Type 0} (f : Grove A) (xs : List ℕ) (j : ℕ) (l : AreOnOneLevel f xs) where
  pub front_level : AreOnOneLevel f (take j xs)
  front_level = record { level = l.level; spots = λ k h. l.spots k (in_take xs j k h); levels = λ k h. l.levels k (in_take xs j k h) }

  pub rest_level : AreOnOneLevel f (take (length xs - j) (drop j xs))
  rest_level = subst (AreOnOneLevel f) (sym (rest_all xs j)) (record { level = l.level; spots = λ k h. l.spots k (in_drop xs j k h); levels = λ k h. l.levels k (in_drop xs j k h) })

  module _ (left right : List ℕ) (apart : AreApart xs) (ls : (k : ℕ) → In k left ↔ In k (take j xs)) (rs : (k : ℕ) → In k right ↔ In k (take (length xs - j) (drop j xs))) where
    in_rest : (k : ℕ) → In k right → In k (drop j xs)
    in_rest k h = subst (In k) (rest_all xs j) ((rs k).0 h)

    pub mergeable : AreInOrder f left → AreInOrder f right → AreMergeable f left right
    mergeable u v = record {
      level = l.level;
      left_level = λ k h. (let i = in_take xs j k ((ls k).0 h) in (l.spots k i, l.levels k i));
      right_level = λ k h. (let i = in_drop xs j k (in_rest k h) in (l.spots k i, l.levels k i));
      left_order = u;
      right_order = v;
      apart = λ k h i. parts_apart xs j k apart ((ls k).0 h) (in_rest k i);
    }

    pub parts_same : (ys : List ℕ) → ((k : ℕ) → In k ys ↔ (In k left ⊎ In k right)) → (k : ℕ) → In k ys ↔ In k xs
    parts_same ys same k = (
      λ h. elim ((same k).0 h) [ inl u ↦ in_take xs j k ((ls k).0 u) | inr u ↦ in_drop xs j k (in_rest k u) ],
      λ h. (same k).1 (elim (in_parts xs j k h) [ inl u ↦ inl ((ls k).1 u) | inr u ↦ inr ((rs k).1 (subst (In k) (sym (rest_all xs j)) u)) ]),
    )

-- 6. a list that stands in order already

-- each of the first ones is at a lower place than the next
abbrev pub AreStepped : (ℕ → ℕ) → List ℕ → ℕ → Type 0
AreStepped p xs n = (j k x : ℕ) → j + 1 < n → slice_get xs j ≡ Some k → slice_get xs (j + 1) ≡ Some x → p k < p x

pub stepped_one : (p : ℕ → ℕ) (xs : List ℕ) → AreStepped p xs 1
stepped_one p xs j k x less here next = absurd (omega (arith, less))

pub stepped_next : (p : ℕ → ℕ) (xs : List ℕ) (n y z : ℕ) → AreStepped p xs n → 0 < n → slice_get xs (n - 1) ≡ Some y → slice_get xs n ≡ Some z → p y < p z → AreStepped p xs (n + 1)
stepped_next p xs n y z h some one two before j k x less here next = elim (cases_lt (j + 1) n) [
  | inl within ↦ h j k x within here next
  | inr last ↦
      let e : j + 1 ≡ n = omega (arith, less, last) in
      let d : j ≡ n - 1 = omega (arith, e) in
      let first : y ≡ k = same_Some y k (sym one ∙ sym (ap (slice_get xs) d) ∙ here) in
      let second : z ≡ x = same_Some z x (sym two ∙ sym (ap (slice_get xs) e) ∙ next) in
      subst (λ k. p k < p x) first (subst (λ x. p y < p x) second before)
]

pub all_stepped : (p : ℕ → ℕ) (xs : List ℕ) (n : ℕ) → length xs ≤ n → AreStepped p xs n → ArePlaced p xs
all_stepped p [] n long h = tt
all_stepped p (y ∷ []) n long h = (λ k i. absurd i, tt)
all_stepped p (y ∷ (z ∷ zs)) n long h =
    let first : p y < p z = h 0 y z (omega (arith, long)) refl refl in
    let rest : ArePlaced p (z ∷ zs) = all_stepped p (z ∷ zs) (n - 1) (omega (arith, long)) (λ j k x less here next.
    let e : suc j + 1 ≡ suc (j + 1) = omega arith in
    h (suc j) k x (omega (arith, less)) here (ap (slice_get (y ∷ (z ∷ zs))) e ∙ next)) in
    (λ k i. elim i [ inl e ↦ subst (λ k. p y < p k) (sym e) first | inr j ↦ omega (arith, first, rest.0 k j) ], rest)
