-- Which children of a parent have a number that is wanted.
use Rattle.std.proofs.Common.{◌≡◌, ◌+◌, ◌*◌, ◌<◌, ◌||◌, ℕ, zero, suc, Bool, true, false, List, [], ◌∷◌, ◌++◌, Option, Some, None, map, refl, sym, ap, ◌∙◌, arith, inl, inr}
use Rattle.std.specs.Prelude.{ℤ, ◌/◌, ◌%◌}
use Rattle.std.proofs.lemmas.List.{append_cancel_left}
use Rattle.lsys_spec.specs.Rows.{In}
use Rattle.lsys_syntax.specs.Commands.{Numbering}
use Rattle.lsys_syntax.specs.Strings as S
use Rattle.lsys_spec.specs.Draws.{number_base}
use Rattle.lsys_spec.specs.Numbers.{number_at, code_of}
use Rattle.lsys_spec.specs.Levels as L
use Rattle.lsys_spec.specs.Cuts.{cut_on, cut}
use Rattle.lsys_spec.specs.Meaning.{numbered, children}
use Rattle.lsys_children.specs.declared.number.Number.{Number}
use Rattle.lsys_children.specs.Matches.{same_child_number, has_number}
use Rattle.lsys_children.proofs.FoundLemmas.{same_is}
use Rattle.lsys_children.proofs.MatchLemmas.{same_self}
use Rattle.lsys_children.specs.Needs.{number_from, number_told, wanted_symbols}

-- a number as a lineage has it
abbrev pub own_number : Number → ℕ
own_number q = number_base * q.code + q.count

-- the lineage that a wanted child has below this one
abbrev pub told_below : List ℕ → L.LevelSymbol → List ℕ
told_below l s = l ++ own_number (number_told s) ∷ []

-- 1. what is wanted

one_more : (l : List ℕ) (n : ℕ) (xs ys : List (List ℕ)) → xs ≡ ys → (l ++ n ∷ []) ∷ xs ≡ (l ++ own_number (number_from (n ∷ [])) ∷ []) ∷ ys
one_more l n xs ys e =
    let whole : n ≡ number_base * (n / number_base) + n % number_base = omega arith in
    ap (λ j. (l ++ j ∷ []) ∷ xs) whole ∙ ap (λ zs. (l ++ own_number (number_from (n ∷ [])) ∷ []) ∷ zs) e

told_on : (g : Numbering) (i : ℕ) (before l : List ℕ) (o : Option ℕ) (zs : List (S.Symbol ℤ)) → map L.lineage (cut_on o (numbered g i before l zs)) ≡ map (told_below l) (cut_on o (numbered g i before [] zs))
told_on g i before l None [] = refl
told_on g i before l (Some n) [] = refl
told_on g i before l None (S.Cut ∷ zs) = told_on g (i + 1) (37 ∷ before) l (Some 0) zs
told_on g i before l (Some n) (S.Cut ∷ zs) = told_on g (i + 1) (37 ∷ before) l (Some n) zs
told_on g i before l None (S.Module v ps ∷ zs) = one_more l (number_at g i before (code_of (S.Module v ps))) _ _ (told_on g (i + 1) (code_of (S.Module v ps) ∷ before) l None zs)
told_on g i before l (Some n) (S.Module v ps ∷ zs) = told_on g (i + 1) (code_of (S.Module v ps) ∷ before) l (Some n) zs
told_on g i before l None (S.Push ∷ zs) = one_more l (number_at g i before 91) _ _ (told_on g (i + 1) (91 ∷ before) l None zs)
told_on g i before l (Some n) (S.Push ∷ zs) = told_on g (i + 1) (91 ∷ before) l (Some (suc n)) zs
told_on g i before l None (S.Pop ∷ zs) = one_more l (number_at g i before 93) _ _ (told_on g (i + 1) (93 ∷ before) l None zs)
told_on g i before l (Some zero) (S.Pop ∷ zs) = one_more l (number_at g i before 93) _ _ (told_on g (i + 1) (93 ∷ before) l None zs)
told_on g i before l (Some (suc n)) (S.Pop ∷ zs) = told_on g (i + 1) (93 ∷ before) l (Some n) zs

-- the children that are wanted below a lineage have the numbers that are told of them
pub lineages_told : (g : Numbering) (l : List ℕ) (zs : List (S.Symbol ℤ)) → map L.lineage (cut (children g l zs)) ≡ map (told_below l) (wanted_symbols g zs)
lineages_told g l zs = told_on g 0 [] l None zs

-- 2. who has which number

few_told : (s : L.LevelSymbol) → (number_told s).count < number_base
few_told s = by (L.lineage s)
  where
    by : (l : List ℕ) → (number_from l).count < number_base
    by [] = omega arith
    by (n ∷ l) = omega arith

module _ (name : ℕ → List ℕ) (l : List ℕ) where
  same_end : (a b : ℕ) → l ++ a ∷ [] ≡ l ++ b ∷ [] → a ≡ b
  same_end a b e = let f : a ∷ [] ≡ b ∷ [] = append_cancel_left l (a ∷ []) (b ∷ []) e in cc

  same_told : (s : L.LevelSymbol) (q : Number) → q.count < number_base → own_number (number_told s) ≡ own_number q → number_told s ≡ q
  same_told s q few e =
      let small = few_told s in
      let codes : (number_told s).code ≡ q.code = omega (arith, few, small, e) in
      let counts : (number_told s).count ≡ q.count = omega (arith, few, small, e) in
      λ i. record { code = codes i; count = counts i }

  -- a child has a number that is wanted
  pub has_told : (ks : List ℕ) (ss : List L.LevelSymbol) (k : ℕ) (q : Number) → map name ks ≡ map (told_below l) ss → In k ks → name k ≡ l ++ own_number q ∷ [] → q.count < number_base
      → has_number (map number_told ss) q ≡ true
  has_told [] ss k q e i own few = absurd i
  has_told (x ∷ ks) [] k q e i own few = cc
  has_told (x ∷ ks) (s ∷ ss) k q e (inl f) own few =
      let one : name x ≡ told_below l s = cc in
      let same = same_told s q few (same_end (own_number (number_told s)) (own_number q) (sym one ∙ ap name (sym f) ∙ own)) in
      ap (λ (b : Bool). b || has_number (map number_told ss) q) (ap (λ (a : Number). same_child_number a q) same ∙ same_self q)
  has_told (x ∷ ks) (s ∷ ss) k q e (inr i) own few =
      let more : map name ks ≡ map (told_below l) ss = cc in
      by (same_child_number (number_told s) q) (has_number (map number_told ss) q) (has_told ks ss k q more i own few)
    where
      by : (b c : Bool) → c ≡ true → (b || c) ≡ true
      by true c h = refl
      by false c h = h

  -- a number that is wanted is one of a child
  pub told_has : (ks : List ℕ) (ss : List L.LevelSymbol) (q : Number) → map name ks ≡ map (told_below l) ss → has_number (map number_told ss) q ≡ true → (j : ℕ) × In j ks × (name j ≡ l ++ own_number q ∷ [])
  told_has [] [] q e h = cc
  told_has [] (s ∷ ss) q e h = cc
  told_has (x ∷ ks) [] q e h = cc
  told_has (x ∷ ks) (s ∷ ss) q e h =
      let more : map name ks ≡ map (told_below l) ss = cc in
      by (λ t. told_has ks ss q more t) (same_child_number (number_told s) q) refl h
    where
      by : (has_number (map number_told ss) q ≡ true → (j : ℕ) × In j ks × (name j ≡ l ++ own_number q ∷ [])) → (b : Bool) → same_child_number (number_told s) q ≡ b → (b || has_number (map number_told ss) q) ≡ true
          → (j : ℕ) × In j (x ∷ ks) × (name j ≡ l ++ own_number q ∷ [])
      by rest true f t = let one : name x ≡ told_below l s = cc in (x, inl refl, one ∙ ap (λ (a : Number). l ++ own_number a ∷ []) (same_is (number_told s) q f))
      by rest false f t = let r = rest t in (r.0, inr r.1, r.2)
