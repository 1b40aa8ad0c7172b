-- The levels of a sound forest: no node stands twice, and each stands among the children of its parent.
use Rattle.std.proofs.Common.{◌≡◌, ◌≢◌, ◌⊎◌, ◌+◌, ◌<◌, ◌≤◌, ℕ, zero, suc, List, [], ◌∷◌, ◌++◌, length, slice_get, Option, Some, None, refl, sym, ap, ◌∙◌, arith, inl, inr, subst, append_assoc}
use Rattle.std.proofs.lemmas.Bool.{cases_eq}
use Rattle.std.proofs.lemmas.Grind.{common_steps}
use Rattle.std.proofs.lemmas.List.{append-nil}
use Rattle.std.proofs.lemmas.Option.{none-some, same_Some}
use Rattle.lsys_forest.specs.declared.walk.Way.{Way}
use Rattle.lsys_forest.specs.declared.walk.Way.TheVariants.{Left, Right}
use Rattle.lsys_forest.specs.Nodes.{Node, Nodes}
use Rattle.lsys_forest.specs.Changes.{Change}
use Rattle.lsys_forest.specs.Groves.{IsRooted}
use Rattle.std.specs.Prelude.{IsSome}
use Rattle.lsys_spec.specs.Rows.{In, AreApart, mirrored, flat}
use Rattle.lsys_forest.specs.declared.node.Stored.{Stored}
use Rattle.lsys_forest.specs.Slots.{slot_at, live_slots}
use Rattle.lsys_forest.proofs.DepthLemmas.{fits}
use Rattle.lsys_forest.specs.Rows.{index_in, oriented, kids_in, level_nodes}

-- 1. lists

pub In_append : (xs ys : List ℕ) (k : ℕ) → In k (xs ++ ys) → In k xs ⊎ In k ys
In_append [] ys k h = inr h
In_append (x ∷ xs) ys k (inl h) = inl (inl h)
In_append (x ∷ xs) ys k (inr h) = elim (In_append xs ys k h) [ inl a ↦ inl (inr a) | inr b ↦ inr b ]

pub In_left : (k : ℕ) (xs ys : List ℕ) → In k xs → In k (xs ++ ys)
In_left k [] ys h = absurd h
In_left k (x ∷ xs) ys (inl h) = inl h
In_left k (x ∷ xs) ys (inr h) = inr (In_left k xs ys h)

pub In_right : (k : ℕ) (xs ys : List ℕ) → In k ys → In k (xs ++ ys)
In_right k [] ys h = h
In_right k (x ∷ xs) ys h = inr (In_right k xs ys h)

-- a member stands between others
pub In_split : (k : ℕ) (xs : List ℕ) → In k xs → (before : List ℕ) × (after : List ℕ) × (xs ≡ before ++ k ∷ after)
In_split k [] h = absurd h
In_split k (x ∷ xs) (inl e) = ([], xs, ap (λ y. y ∷ xs) (sym e))
In_split k (x ∷ xs) (inr h) = let s = In_split k xs h in (x ∷ s.0, s.1, ap (λ (l : List ℕ). x ∷ l) s.2)

-- what stands at a place stands between others
pub record IsSplit (xs : List ℕ) (i k : ℕ) : Type 0 where
  pub before : List ℕ
  pub after : List ℕ
  pub whole : xs ≡ before ++ k ∷ after
  pub long : length before ≡ i

pub get_split : (xs : List ℕ) (i k : ℕ) → slice_get xs i ≡ Some k → IsSplit xs i k
get_split [] i k e = absurd (none-some k e)
get_split (x ∷ xs) zero k e = record { before = []; after = xs; whole = ap (λ y. y ∷ xs) (same_Some x k e); long = refl }
get_split (x ∷ xs) (suc i) k e = let s = get_split xs i k e in record { before = x ∷ s.before; after = s.after; whole = ap (λ (l : List ℕ). x ∷ l) s.whole; long = ap suc s.long }

pub apart_parts : (xs ys : List ℕ) → AreApart (xs ++ ys) → AreApart xs × AreApart ys × ((k : ℕ) → In k xs → In k ys → ⊥)
apart_parts [] ys a = (tt, a, λ k h i. absurd h)
apart_parts (x ∷ xs) ys a =
    let rest = apart_parts xs ys a.1 in
    ((λ h. a.0 (In_left x xs ys h), rest.0), rest.1, λ k h i. elim h [ inl e ↦ a.0 (In_right x xs ys (subst (λ j. In j ys) e i)) | inr later ↦ rest.2 k later i ])

pub apart_append : (xs ys : List ℕ) → AreApart xs → AreApart ys → ((k : ℕ) → In k xs → In k ys → ⊥) → AreApart (xs ++ ys)
apart_append [] ys a b none = b
apart_append (x ∷ xs) ys a b none =
    (λ h. elim (In_append xs ys x h) [ inl i ↦ a.0 i | inr i ↦ none x (inl refl) i ], apart_append xs ys a.1 b (λ k h i. none k (inr h) i))

-- what stands before and after a member is one thing, where no number stands twice
pub same_sides : (k : ℕ) (b a b' a' : List ℕ) → AreApart (b ++ k ∷ a) → b ++ k ∷ a ≡ b' ++ k ∷ a' → (b ≡ b') × (a ≡ a')
same_sides k [] a [] a' apart e = (refl, grind (arith, e))
same_sides k [] a (y ∷ b') a' apart e = absurd (apart.0 (subst (In k) (sym (tails a (b' ++ k ∷ a') k y e)) (In_right k b' (k ∷ a') (inl refl))))
  where
    tails : (xs ys : List ℕ) (x y : ℕ) → x ∷ xs ≡ y ∷ ys → xs ≡ ys
    tails xs ys x y e = grind (arith, e)
same_sides k (x ∷ b) a [] a' apart e = absurd (apart.0 (subst (λ j. In j (b ++ k ∷ a)) (sym (heads (b ++ k ∷ a) a' x k e)) (In_right k b (k ∷ a) (inl refl))))
  where
    heads : (xs ys : List ℕ) (x y : ℕ) → x ∷ xs ≡ y ∷ ys → x ≡ y
    heads xs ys x y e = grind (arith, e)
same_sides k (x ∷ b) a (y ∷ b') a' apart e =
    let rest = same_sides k b a b' a' apart.1 (tails (b ++ k ∷ a) (b' ++ k ∷ a') x y e) in
    (ap (λ z. z ∷ b) (heads (b ++ k ∷ a) (b' ++ k ∷ a') x y e) ∙ ap (λ (l : List ℕ). y ∷ l) rest.0, rest.1)
  where
    tails : (xs ys : List ℕ) (x y : ℕ) → x ∷ xs ≡ y ∷ ys → xs ≡ ys
    tails xs ys x y e = grind (arith, e)

    heads : (xs ys : List ℕ) (x y : ℕ) → x ∷ xs ≡ y ∷ ys → x ≡ y
    heads xs ys x y e = grind (arith, e)

index_cases : (k x : ℕ) (xs : List ℕ) → ((k ≡ x) × (index_in k (x ∷ xs) ≡ 0)) ⊎ ((k ≢ x) × (index_in k (x ∷ xs) ≡ suc (index_in k xs)))
index_cases k x xs = elim (cases_eq k x) [
  | inl e ↦ inl (e, grind (arith, common_steps))
  | inr ne ↦ inr (ne, grind (arith, common_steps))
]

-- where a member stands
pub index_of : (k : ℕ) (b a : List ℕ) → AreApart (b ++ k ∷ a) → index_in k (b ++ k ∷ a) ≡ length b
index_of k [] a apart = elim (index_cases k k a) [ inl e ↦ e.1 | inr e ↦ absurd (e.0 refl) ]
index_of k (x ∷ b) a apart = elim (index_cases k x (b ++ k ∷ a)) [
  | inl e ↦ absurd (apart.0 (subst (λ j. In j (b ++ k ∷ a)) e.0 (In_right k b (k ∷ a) (inl refl))))
  | inr e ↦ e.1 ∙ ap suc (index_of k b a apart.1)
]

pub index_within : (k : ℕ) (xs : List ℕ) → index_in k xs < length xs → In k xs
index_within k [] h = absurd (omega (arith, h))
index_within k (x ∷ xs) h = elim (index_cases k x xs) [
  | inl e ↦ inl e.0
  | inr e ↦ inr (index_within k xs (omega (arith, h, e.1)))
]

pub mirrored_In : (k : ℕ) (xs : List ℕ) → In k xs → In k (mirrored xs)
mirrored_In k [] h = absurd h
mirrored_In k (x ∷ xs) (inl e) = In_right k (mirrored xs) (x ∷ []) (inl e)
mirrored_In k (x ∷ xs) (inr h) = In_left k (mirrored xs) (x ∷ []) (mirrored_In k xs h)

mirrored_In_back : (k : ℕ) (xs : List ℕ) → In k (mirrored xs) → In k xs
mirrored_In_back k [] h = absurd h
mirrored_In_back k (x ∷ xs) h = elim (In_append (mirrored xs) (x ∷ []) k h) [
  | inl a ↦ inr (mirrored_In_back k xs a)
  | inr b ↦ elim b [ inl e ↦ inl e | inr none ↦ absurd none ]
]

mirrored_apart : (xs : List ℕ) → AreApart xs → AreApart (mirrored xs)
mirrored_apart [] a = tt
mirrored_apart (x ∷ xs) a = apart_append (mirrored xs) (x ∷ []) (mirrored_apart xs a.1) ((λ h. h), tt) (λ k h i. elim i [ inl e ↦ a.0 (subst (λ j. In j xs) e (mirrored_In_back k xs h)) | inr none ↦ none ])

pub oriented_In : (way : Way) (k : ℕ) (xs : List ℕ) → In k xs → In k (oriented way xs)
oriented_In Right k xs h = h
oriented_In Left k xs h = mirrored_In k xs h

pub oriented_In_back : (way : Way) (k : ℕ) (xs : List ℕ) → In k (oriented way xs) → In k xs
oriented_In_back Right k xs h = h
oriented_In_back Left k xs h = mirrored_In_back k xs h

pub oriented_apart : (way : Way) (xs : List ℕ) → AreApart xs → AreApart (oriented way xs)
oriented_apart Right xs a = a
oriented_apart Left xs a = mirrored_apart xs a

pub flat_append : (f : ℕ → List ℕ) (xs ys : List ℕ) → flat f (xs ++ ys) ≡ flat f xs ++ flat f ys
flat_append f [] ys = refl
flat_append f (x ∷ xs) ys = ap (λ (l : List ℕ). f x ++ l) (flat_append f xs ys) ∙ sym (append_assoc (f x) (flat f xs) (flat f ys))

mirrored_append : (xs ys : List ℕ) → mirrored (xs ++ ys) ≡ mirrored ys ++ mirrored xs
mirrored_append [] ys = sym (append-nil (mirrored ys))
mirrored_append (x ∷ xs) ys = ap (λ (l : List ℕ). l ++ x ∷ []) (mirrored_append xs ys) ∙ append_assoc (mirrored ys) (mirrored xs) (x ∷ [])

-- the lists of the nodes that come from the right are the lists from the right
pub oriented_flat : (way : Way) (f : ℕ → List ℕ) (xs : List ℕ) → oriented way (flat f xs) ≡ flat (λ k. oriented way (f k)) (oriented way xs)
oriented_flat Right f xs = refl
oriented_flat Left f [] = refl
oriented_flat Left f (x ∷ xs) =
    mirrored_append (f x) (flat f xs)
    ∙ ap (λ (l : List ℕ). l ++ mirrored (f x)) (oriented_flat Left f xs)
    ∙ ap (λ (l : List ℕ). flat (λ k. mirrored (f k)) (mirrored xs) ++ l) (sym (append-nil (mirrored (f x))))
    ∙ sym (flat_append (λ k. mirrored (f k)) (mirrored xs) (x ∷ []))

-- what stands after a member of one of the lists
pub flat_around : (f : ℕ → List ℕ) (b : List ℕ) (p : ℕ) (a l : List ℕ) (k : ℕ) (r : List ℕ) → f p ≡ l ++ k ∷ r → flat f (b ++ p ∷ a) ≡ (flat f b ++ l) ++ k ∷ (r ++ flat f a)
flat_around f b p a l k r is =
    flat_append f b (p ∷ a)
    ∙ ap (λ (x : List ℕ). flat f b ++ (x ++ flat f a)) is
    ∙ ap (λ (x : List ℕ). flat f b ++ x) (append_assoc l (k ∷ r) (flat f a))
    ∙ sym (append_assoc (flat f b) l (k ∷ (r ++ flat f a)))

pub flat_In : (f : ℕ → List ℕ) (xs : List ℕ) (k : ℕ) → In k (flat f xs) → (p : ℕ) × In p xs × In k (f p)
flat_In f [] k h = absurd h
flat_In f (x ∷ xs) k h = elim (In_append (f x) (flat f xs) k h) [
  | inl a ↦ (x, inl refl, a)
  | inr b ↦ let r = flat_In f xs k b in (r.0, inr r.1, r.2)
]

-- 2. levels

module _ {A : Type 0} where
  pub kids_apart : (root : ℕ) (changes : List (Change A)) (m : Nodes A) → IsRooted root changes m → (p : ℕ) → AreApart (kids_in (m p))
  kids_apart root changes m sound p = go (m p) refl
    where
      go : (o : Option (Node A)) → m p ≡ o → AreApart (kids_in o)
      go None e = tt
      go (Some n) e = (sound.own p n e).apart

  -- a node of a level, with its parent
  pub record IsChild (m : Nodes A) (p k : ℕ) : Type 0 where
    pub above : Node A
    pub above_is : m p ≡ Some above
    pub node : Node A
    pub is : m k ≡ Some node
    pub parent_is : node.parent ≡ p
    pub among : In k above.kids
    pub depth : node.depth ≡ above.depth + 1

  pub child : (root : ℕ) (changes : List (Change A)) (m : Nodes A) → IsRooted root changes m → (p k : ℕ) → In k (kids_in (m p)) → IsChild m p k
  child root changes m sound p k h = go (m p) refl h
    where
      go : (o : Option (Node A)) → m p ≡ o → In k (kids_in o) → IsChild m p k
      go None e i = absurd i
      go (Some n) e i =
          let u = (sound.own p n e).under k i in
          let held = sound.held k u.node u.is u.other in
          let same : held.parent ≡ n = same_Some held.parent n (sym held.is ∙ ap m u.parent_is ∙ e) in
          record { above = n; above_is = e; node = u.node; is = u.is; parent_is = u.parent_is; among = i; depth = held.depth ∙ ap (λ (o : Node A). o.depth + 1) same }

  -- a node of level t lives, t + 1 steps below the root
  pub level_depth : (root : ℕ) (changes : List (Change A)) (m : Nodes A) → IsRooted root changes m → (t k : ℕ) → In k (level_nodes m root t) → (n : Node A) × (m k ≡ Some n) × (n.depth ≡ t + 1)
  level_depth root changes m sound zero k h =
      let c = child root changes m sound root k h in
      let top = ap (λ (o : Node A). o.depth) (same_Some sound.root_lives.0 c.above (sym sound.root_lives.1 ∙ c.above_is)) in
      (c.node, c.is, omega (arith, c.depth, top, sound.root_lives.2))
  level_depth root changes m sound (suc t) k h =
      let from = flat_In (λ i. kids_in (m i)) (level_nodes m root t) k h in
      let c = child root changes m sound from.0 k from.2 in
      let up = level_depth root changes m sound t from.0 from.1 in
      let same = ap (λ (o : Node A). o.depth) (same_Some up.0 c.above (sym up.1 ∙ c.above_is)) in
      (c.node, c.is, omega (arith, c.depth, same, up.2))

  flat_apart : (root : ℕ) (changes : List (Change A)) (m : Nodes A) → IsRooted root changes m → (xs : List ℕ) → AreApart xs → AreApart (flat (λ k. kids_in (m k)) xs)
  flat_apart root changes m sound [] a = tt
  flat_apart root changes m sound (x ∷ xs) a =
      apart_append (kids_in (m x)) (flat (λ k. kids_in (m k)) xs) (kids_apart root changes m sound x) (flat_apart root changes m sound xs a.1) (λ k h i. (
      let c = child root changes m sound x k h in
      let from = flat_In (λ j. kids_in (m j)) xs k i in
      let d = child root changes m sound from.0 k from.2 in
      let same : x ≡ from.0 = sym c.parent_is ∙ ap (λ (o : Node A). o.parent) (same_Some c.node d.node (sym c.is ∙ d.is)) ∙ d.parent_is in
      a.0 (subst (λ j. In j xs) (sym same) from.1)
      ))

  -- no node stands twice on a level
  pub level_apart : (root : ℕ) (changes : List (Change A)) (m : Nodes A) → IsRooted root changes m → (t : ℕ) → AreApart (level_nodes m root t)
  level_apart root changes m sound zero = kids_apart root changes m sound root
  level_apart root changes m sound (suc t) = flat_apart root changes m sound (level_nodes m root t) (level_apart root changes m sound t)

  -- the parent of a node of a further level is on the level before it
  pub parent_level : (root : ℕ) (changes : List (Change A)) (m : Nodes A) → IsRooted root changes m → (t k : ℕ) (n : Node A) → In k (level_nodes m root (suc t)) → m k ≡ Some n → In n.parent (level_nodes m root t) × In k (kids_in (m n.parent))
  parent_level root changes m sound t k n h is =
      let from = flat_In (λ i. kids_in (m i)) (level_nodes m root t) k h in
      let c = child root changes m sound from.0 k from.2 in
      let same : n.parent ≡ from.0 = ap (λ (o : Node A). o.parent) (same_Some n c.node (sym is ∙ c.is)) ∙ c.parent_is in
      (subst (λ j. In j (level_nodes m root t)) (sym same) from.1, subst (λ j. In k (kids_in (m j))) (sym same) from.2)

  pub parent_root : (root : ℕ) (changes : List (Change A)) (m : Nodes A) → IsRooted root changes m → (k : ℕ) (n : Node A) → In k (level_nodes m root 0) → m k ≡ Some n → n.parent ≡ root
  parent_root root changes m sound k n h is =
      let c = child root changes m sound root k h in
      ap (λ (o : Node A). o.parent) (same_Some n c.node (sym is ∙ c.is)) ∙ c.parent_is

  -- a level has no more nodes than live
  pub level_fits : (root : ℕ) (changes : List (Change A)) (m : Nodes A) (slots : List (Option (Stored A))) → IsRooted root changes m → ((k : ℕ) (n : Node A) → m k ≡ Some n → IsSome (slot_at slots k)) → (t : ℕ) → length (level_nodes m root t) ≤ live_slots slots
  level_fits root changes m slots sound shown t = fits (level_nodes m root t) slots (level_apart root changes m sound t) (λ k h. let n = level_depth root changes m sound t k h in shown k n.0 n.1)
