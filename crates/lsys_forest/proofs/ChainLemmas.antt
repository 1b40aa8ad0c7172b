-- Rows of nodes that are linked to their neighbours, while they grow.
use Rattle.std.proofs.Common.{◌≡◌, ◌≢◌, ◌⊎◌, ◌≤◌, ℕ, zero, suc, List, [], ◌∷◌, ◌++◌, length, take, slice_get, Option, Some, None, refl, sym, ap, ◌∙◌, arith, inl, inr, subst, append_assoc}
use Rattle.std.proofs.lemmas.Bool.{cases_eq}
use Rattle.std.proofs.lemmas.List.{append-nil}
use Rattle.std.proofs.lemmas.Option.{none-some, same_Some}
use Rattle.lsys_spec.specs.Rows.{In, AreApart, first_in, mirrored}
use Rattle.lsys_forest.specs.declared.node.Footing.{Footing}
use Rattle.lsys_forest.specs.declared.walk.Way.{Way}
use Rattle.lsys_forest.specs.declared.walk.Way.TheVariants.{Left, Right}
use Rattle.lsys_forest.specs.Slots.{link_in, link_at}
use Rattle.lsys_forest.specs.Ranks.{AreChained, Joins, LinksRow}
use Rattle.lsys_forest.specs.Rows.{oriented}
use Rattle.lsys_forest.proofs.RowLemmas.{In_append, In_left, In_right, In_split, same_sides, apart_parts, oriented_apart, oriented_In_back}
use Rattle.lsys_forest.proofs.WalkLemmas.{get_In, mirrored_push, mirrored_twice, first_split}

head_is : (xs ys : List ℕ) (x y : ℕ) → x ∷ xs ≡ y ∷ ys → x ≡ y
head_is xs ys x y e = grind (arith, e)

tail_is : (xs ys : List ℕ) (x y : ℕ) → x ∷ xs ≡ y ∷ ys → xs ≡ ys
tail_is xs ys x y e = grind (arith, e)

-- what stands after a node of a row, to which one is added
pub push_split : (row : List ℕ) (kid : ℕ) (b : List ℕ) (k : ℕ) (a : List ℕ) → AreApart (row ++ kid ∷ []) → k ≢ kid → row ++ kid ∷ [] ≡ b ++ k ∷ a → (rest : List ℕ) × (row ≡ b ++ k ∷ rest) × (a ≡ rest ++ kid ∷ [])
push_split row kid b k a apart ne whole =
    let s = In_split k row (among (In_append row (kid ∷ []) k (subst (In k) (sym whole) (In_right k b (k ∷ a) (inl refl))))) in
    let again : row ++ kid ∷ [] ≡ s.0 ++ k ∷ (s.1 ++ kid ∷ []) = ap (λ (l : List ℕ). l ++ kid ∷ []) s.2 ∙ append_assoc s.0 (k ∷ s.1) (kid ∷ []) in
    let same = same_sides k s.0 (s.1 ++ kid ∷ []) b a (subst AreApart again apart) (sym again ∙ whole) in
    (s.1, s.2 ∙ ap (λ (l : List ℕ). l ++ k ∷ s.1) same.0, sym same.1)
  where
    among : In k row ⊎ In k (kid ∷ []) → In k row
    among (inl h) = h
    among (inr (inl e)) = absurd (ne e)
    among (inr (inr none)) = absurd none

-- the last of a row has nothing after it
last_ends : (row b a : List ℕ) (k : ℕ) → AreApart row → first_in (mirrored row) ≡ Some k → row ≡ b ++ k ∷ a → a ≡ []
last_ends row b a k apart is whole =
    let s = first_split (mirrored row) k is in
    let turned : row ≡ mirrored s.0 ++ k ∷ [] = sym (mirrored_twice row) ∙ ap mirrored s.1 in
    sym (same_sides k (mirrored s.0) [] b a (subst AreApart turned apart) (sym turned ∙ whole)).1

-- the last of a row is among it
pub last_among : (row : List ℕ) (k : ℕ) → first_in (mirrored row) ≡ Some k → In k row
last_among row k is =
    let s = first_split (mirrored row) k is in
    oriented_In_back Left k row (subst (In k) (sym s.1) (inl refl))

pub chain_push : (row : List ℕ) (kid : ℕ) (last : Option ℕ) (old new : List Footing) → last ≡ first_in (mirrored row) → AreApart (row ++ kid ∷ []) → Joins old new last kid → AreChained row old → AreChained (row ++ kid ∷ []) new
chain_push row kid last old new is apart joins chained = λ k way b a whole. elim (cases_eq k kid) [
  | inl e ↦ ap (link_at way new) e ∙ here way b a (subst (λ i. oriented way (row ++ kid ∷ []) ≡ b ++ i ∷ a) e whole)
  | inr ne ↦ there way k b a ne whole
]
  where
    apart_row : AreApart row
    apart_row = (apart_parts row (kid ∷ []) apart).0

    here : (way : Way) (b a : List ℕ) → oriented way (row ++ kid ∷ []) ≡ b ++ kid ∷ a → link_at way new kid ≡ first_in a
    here Right b a whole = joins.right ∙ ap first_in (same_sides kid row [] b a apart whole).1
    here Left b a whole =
        let turned = mirrored_push row kid in
        joins.left ∙ is ∙ ap first_in (same_sides kid [] (mirrored row) b a (subst AreApart turned (oriented_apart Left (row ++ kid ∷ []) apart)) (sym turned ∙ whole)).1

    left_stays : (k : ℕ) → k ≢ kid → link_at Left new k ≡ link_at Left old k
    left_stays k ne = go last refl
      where
        go : (o : Option ℕ) → last ≡ o → link_at Left new k ≡ link_at Left old k
        go None e = ap (link_in Left) (joins.others k ne (λ f. none-some k (sym e ∙ f)))
        go (Some j) e = elim (cases_eq k j) [
          | inl same ↦ (joins.joined k (e ∙ ap Some (sym same))).1
          | inr far ↦ ap (link_in Left) (joins.others k ne (λ f. far (same_Some k j (sym f ∙ e))))
        ]

    after : (k : ℕ) (b rest : List ℕ) → k ≢ kid → row ≡ b ++ k ∷ rest → link_at Right new k ≡ first_in (rest ++ kid ∷ [])
    after k b [] ne e = (joins.joined k (is ∙ ap (λ (l : List ℕ). first_in (mirrored l)) e ∙ ap first_in (mirrored_push b k))).0
    after k b (x ∷ rest) ne e =
        ap (link_in Right) (joins.others k ne (λ f. (let none = ap length (last_ends row b (x ∷ rest) k apart_row (sym is ∙ f) e) in omega (arith, none))))
        ∙ chained k Right b (x ∷ rest) e

    there : (way : Way) (k : ℕ) (b a : List ℕ) → k ≢ kid → oriented way (row ++ kid ∷ []) ≡ b ++ k ∷ a → link_at way new k ≡ first_in a
    there Right k b a ne whole = let s = push_split row kid b k a apart ne whole in after k b s.0 ne s.1 ∙ ap first_in (sym s.2)
    there Left k [] a ne whole = absurd (ne (sym (head_is (mirrored row) a kid k (sym (mirrored_push row kid) ∙ whole))))
    there Left k (y ∷ b) a ne whole = left_stays k ne ∙ chained k Left b a (tail_is (mirrored row) (b ++ k ∷ a) kid y (sym (mirrored_push row kid) ∙ whole))

pub row_start : (footings : List Footing) (before : Option ℕ) → LinksRow footings footings before [] before
row_start footings before = record {
  chained = λ row is apart chained. subst (λ (l : List ℕ). AreChained l footings) (sym (append-nil row)) chained;
  last_is = λ row is. is ∙ ap (λ (l : List ℕ). first_in (mirrored l)) (sym (append-nil row));
  from = λ k e. inr e;
  others = λ k none far. refl;
  ranks = λ k. refl;
  mates = λ k. refl;
}

pub row_on : (old mid new : List Footing) (before last : Option ℕ) (done : List ℕ) (kid : ℕ) → LinksRow old mid before done last → Joins mid new last kid → LinksRow old new before (done ++ kid ∷ []) (Some kid)
row_on old mid new before last done kid e joins = record {
  chained = λ row is apart chained.
      let whole = append_assoc row done (kid ∷ []) in
      let apart' : AreApart ((row ++ done) ++ kid ∷ []) = subst AreApart (sym whole) apart in
      subst (λ (l : List ℕ). AreChained l new) whole (chain_push (row ++ done) kid last mid new (e.last_is row is) apart' joins (e.chained row is (apart_parts (row ++ done) (kid ∷ []) apart').0 chained));
  last_is = λ row is. sym (ap (λ (l : List ℕ). first_in (mirrored l)) (sym (append_assoc row done (kid ∷ []))) ∙ ap first_in (mirrored_push (row ++ done) kid));
  from = λ k f. inl (In_right k done (kid ∷ []) (inl (sym (same_Some kid k f))));
  others = λ k none far. joins.others k (λ f. none (In_right k done (kid ∷ []) (inl f))) (λ f. elim (e.from k f) [
    | inl h ↦ none (In_left k done (kid ∷ []) h)
    | inr h ↦ far h
  ]) ∙ e.others k (λ h. none (In_left k done (kid ∷ []) h)) far;
  ranks = λ k. joins.ranks k ∙ e.ranks k;
  mates = λ k. joins.mates k ∙ e.mates k;
}

-- the first so many of a row
pub take_more : (xs : List ℕ) (i k : ℕ) → slice_get xs i ≡ Some k → take (suc i) xs ≡ take i xs ++ k ∷ []
take_more [] i k e = absurd (none-some k e)
take_more (x ∷ xs) zero k e = ap (λ y. y ∷ []) (same_Some x k e)
take_more (x ∷ xs) (suc i) k e = ap (λ (l : List ℕ). x ∷ l) (take_more xs i k e)

pub taken_among : (xs : List ℕ) (i k : ℕ) → In k (take i xs) → In k xs
taken_among [] zero k h = h
taken_among [] (suc i) k h = h
taken_among (x ∷ xs) zero k h = absurd h
taken_among (x ∷ xs) (suc i) k (inl e) = inl e
taken_among (x ∷ xs) (suc i) k (inr h) = inr (taken_among xs i k h)

pub taken_apart : (xs : List ℕ) (i k y : ℕ) → AreApart xs → slice_get xs i ≡ Some y → In k (take i xs) → k ≢ y
taken_apart [] i k y apart e h = absurd (none-some y e)
taken_apart (x ∷ xs) zero k y apart e h = absurd h
taken_apart (x ∷ xs) (suc i) k y apart e (inl same) = λ f. apart.0 (subst (λ j. In j xs) (sym f ∙ same) (get_In xs i y e))
taken_apart (x ∷ xs) (suc i) k y apart e (inr h) = taken_apart xs i k y apart.1 e h

pub take_whole : (xs : List ℕ) (i : ℕ) → length xs ≤ i → take i xs ≡ xs
take_whole [] zero h = refl
take_whole [] (suc i) h = refl
take_whole (x ∷ xs) zero h = absurd (omega (arith, h))
take_whole (x ∷ xs) (suc i) h = ap (λ (l : List ℕ). x ∷ l) (take_whole xs i (omega (arith, h)))
