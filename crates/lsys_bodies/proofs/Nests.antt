-- Right contexts are the same where their items are.
use Rattle.std.proofs.Common.{◌≡◌, ℕ, zero, suc, Bool, true, false, ◌&&◌, List, [], ◌∷◌, map, refl, ap, ◌∙◌, rules}
use Rattle.lsys_syntax.specs.Strings.{balanced}
use Rattle.lsys_spec.specs.Bodies.{Pattern, Done, PatternNest, outermost, within, with_pattern, opened, innermost}
use Rattle.lsys_spec.specs.Equalities.{same_all, same_pattern, same_patterns}
use Rattle.lsys_bodies.specs.declared.body.Item.{Item}
use Rattle.lsys_bodies.specs.declared.body.Item.TheVariants as items
use Rattle.lsys_bodies.specs.Views.{as_pattern, item_symbol, nest}
use Rattle.lsys_bodies.specs.Same.{same_item}

-- how many brackets end branches that began before
abbrev closers : PatternNest → ℕ
closers (outermost p) = 0
closers (within p n) = suc (closers n)

abbrev same_nest : PatternNest → PatternNest → Bool
same_nest (outermost p) (outermost q) = same_patterns p q
same_nest (within p n) (within q m) = same_patterns p q && same_nest n m
same_nest n m = false

closers-pattern : (q : Pattern) (n : PatternNest) → closers (with_pattern q n) ≡ closers n
closers-pattern q (outermost p) = refl
closers-pattern q (within p n) = refl

closers-opened : (k : ℕ) (n : PatternNest) → closers n ≡ suc k → closers (opened n) ≡ k
closers-opened k (outermost p) h = cc
closers-opened k (within p (outermost r)) h = cc
closers-opened k (within p (within r n)) h = cc

balanced-closers : (k : ℕ) (xs : List Item) → balanced k (map item_symbol xs) ≡ true → closers (nest xs) ≡ k
balanced-closers zero [] h = refl
balanced-closers (suc k) [] h = absurd (search (rules))
balanced-closers k (items.Pattern p ∷ xs) h = closers-pattern (as_pattern p) (nest xs) ∙ balanced-closers k xs h
balanced-closers k (items.Push ∷ xs) h = closers-opened k (nest xs) (balanced-closers (suc k) xs h)
balanced-closers zero (items.Pop ∷ xs) h = cc
balanced-closers (suc k) (items.Pop ∷ xs) h = ap suc (balanced-closers k xs h)

and-false : (a : Bool) → false ≡ (a && false)
and-false true = refl
and-false false = refl

and-assoc : (a b c : Bool) → ((a && b) && c) ≡ (a && (b && c))
and-assoc true b c = refl
and-assoc false b c = refl

same-pattern : (p q : Pattern) (n m : PatternNest) → same_nest (with_pattern p n) (with_pattern q m) ≡ (same_pattern p q && same_nest n m)
same-pattern p q (outermost r) (outermost s) = refl
same-pattern p q (outermost r) (within s m) = and-false (same_pattern p q)
same-pattern p q (within r n) (outermost s) = and-false (same_pattern p q)
same-pattern p q (within r n) (within s m) = and-assoc (same_pattern p q) (same_patterns r s) (same_nest n m)

same-opened : (j k : ℕ) (n m : PatternNest) → closers n ≡ suc j → closers m ≡ suc k → same_nest (opened n) (opened m) ≡ same_nest n m
same-opened j k (outermost p) m h g = cc
same-opened j k (within p n) (outermost q) h g = cc
same-opened j k (within p (outermost r)) (within q (outermost s)) h g = refl
same-opened j k (within p (outermost r)) (within q (within s m)) h g = and-false (same_patterns p q)
same-opened j k (within p (within r n)) (within q (outermost s)) h g = and-false (same_patterns p q)
same-opened j k (within p (within r n)) (within q (within s m)) h g = and-assoc (same_patterns p q) (same_patterns r s) (same_nest n m)

-- what one begins with, the other does not
pattern-done : (q : Pattern) (m : PatternNest) → same_nest (outermost Done) (with_pattern q m) ≡ false
pattern-done q (outermost p) = refl
pattern-done q (within p m) = refl

done-pattern : (q : Pattern) (m : PatternNest) → same_nest (with_pattern q m) (outermost Done) ≡ false
done-pattern q (outermost p) = refl
done-pattern q (within p m) = refl

opened-done : (m : PatternNest) → same_nest (outermost Done) (opened m) ≡ false
opened-done (outermost p) = refl
opened-done (within p (outermost r)) = refl
opened-done (within p (within r m)) = refl

done-opened : (m : PatternNest) → same_nest (opened m) (outermost Done) ≡ false
done-opened (outermost p) = refl
done-opened (within p (outermost r)) = refl
done-opened (within p (within r m)) = refl

pattern-within : (q : Pattern) (n m : PatternNest) → same_nest (within Done n) (with_pattern q m) ≡ false
pattern-within q n (outermost p) = refl
pattern-within q n (within p m) = refl

within-pattern : (q : Pattern) (n m : PatternNest) → same_nest (with_pattern q m) (within Done n) ≡ false
within-pattern q n (outermost p) = refl
within-pattern q n (within p m) = refl

opened-within : (n m : PatternNest) → same_nest (within Done n) (opened m) ≡ false
opened-within n (outermost p) = refl
opened-within n (within p (outermost r)) = refl
opened-within n (within p (within r m)) = refl

within-opened : (n m : PatternNest) → same_nest (opened m) (within Done n) ≡ false
within-opened n (outermost p) = refl
within-opened n (within p (outermost r)) = refl
within-opened n (within p (within r m)) = refl

opened-pattern : (q : Pattern) (n m : PatternNest) → same_nest (with_pattern q n) (opened m) ≡ false
opened-pattern q (outermost p) (outermost r) = refl
opened-pattern q (outermost p) (within r (outermost s)) = refl
opened-pattern q (outermost p) (within r (within s m)) = refl
opened-pattern q (within p n) (outermost r) = refl
opened-pattern q (within p n) (within r (outermost s)) = refl
opened-pattern q (within p n) (within r (within s m)) = refl

pattern-opened : (q : Pattern) (n m : PatternNest) → same_nest (opened m) (with_pattern q n) ≡ false
pattern-opened q (outermost p) (outermost r) = refl
pattern-opened q (outermost p) (within r (outermost s)) = refl
pattern-opened q (outermost p) (within r (within s m)) = refl
pattern-opened q (within p n) (outermost r) = refl
pattern-opened q (within p n) (within r (outermost s)) = refl
pattern-opened q (within p n) (within r (within s m)) = refl

same-nests : (j k : ℕ) (xs ys : List Item) → balanced j (map item_symbol xs) ≡ true → balanced k (map item_symbol ys) ≡ true → same_nest (nest xs) (nest ys) ≡ same_all same_item xs ys
same-nests j k [] [] h g = refl
same-nests j k [] (items.Pattern q ∷ ys) h g = pattern-done (as_pattern q) (nest ys)
same-nests j k [] (items.Push ∷ ys) h g = opened-done (nest ys)
same-nests j k [] (items.Pop ∷ ys) h g = refl
same-nests j k (items.Pattern p ∷ xs) [] h g = done-pattern (as_pattern p) (nest xs)
same-nests j k (items.Pattern p ∷ xs) (items.Pattern q ∷ ys) h g = same-pattern (as_pattern p) (as_pattern q) (nest xs) (nest ys) ∙ ap (λ b. same_pattern (as_pattern p) (as_pattern q) && b) (same-nests j k xs ys h g)
same-nests j k (items.Pattern p ∷ xs) (items.Push ∷ ys) h g = opened-pattern (as_pattern p) (nest xs) (nest ys)
same-nests j k (items.Pattern p ∷ xs) (items.Pop ∷ ys) h g = within-pattern (as_pattern p) (nest ys) (nest xs)
same-nests j k (items.Push ∷ xs) [] h g = done-opened (nest xs)
same-nests j k (items.Push ∷ xs) (items.Pattern q ∷ ys) h g = pattern-opened (as_pattern q) (nest ys) (nest xs)
same-nests j k (items.Push ∷ xs) (items.Push ∷ ys) h g = same-opened j k (nest xs) (nest ys) (balanced-closers (suc j) xs h) (balanced-closers (suc k) ys g) ∙ same-nests (suc j) (suc k) xs ys h g
same-nests j k (items.Push ∷ xs) (items.Pop ∷ ys) h g = within-opened (nest ys) (nest xs)
same-nests j k (items.Pop ∷ xs) [] h g = refl
same-nests j k (items.Pop ∷ xs) (items.Pattern q ∷ ys) h g = pattern-within (as_pattern q) (nest xs) (nest ys)
same-nests j k (items.Pop ∷ xs) (items.Push ∷ ys) h g = opened-within (nest xs) (nest ys)
same-nests zero k (items.Pop ∷ xs) (items.Pop ∷ ys) h g = cc
same-nests (suc j) zero (items.Pop ∷ xs) (items.Pop ∷ ys) h g = cc
same-nests (suc j) (suc k) (items.Pop ∷ xs) (items.Pop ∷ ys) h g = same-nests j k xs ys h g

outer : (n m : PatternNest) → closers n ≡ 0 → closers m ≡ 0 → same_patterns (innermost n) (innermost m) ≡ same_nest n m
outer (outermost p) (outermost q) h g = refl
outer (outermost p) (within q m) h g = cc
outer (within p n) m h g = cc

-- right contexts, which are balanced
pub same-right : (xs ys : List Item) → balanced 0 (map item_symbol xs) ≡ true → balanced 0 (map item_symbol ys) ≡ true → same_patterns (innermost (nest xs)) (innermost (nest ys)) ≡ same_all same_item xs ys
same-right xs ys h g = outer (nest xs) (nest ys) (balanced-closers 0 xs h) (balanced-closers 0 ys g) ∙ same-nests 0 0 xs ys h g
