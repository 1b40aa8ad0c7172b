-- Each level of a system whose axiom and successors are balanced is balanced, its lineages rise, and each has one number a generation.
use Rattle.std.proofs.Common.{◌≡◌, ℕ, zero, suc, ◌+◌, ◌≤◌, Bool, true, false, cond, Option, Some, None, Ok, List, [], ◌∷◌, ◌++◌, append-nil, length, refl, sym, ap, ◌∙◌, subst, arith}
use Rattle.std.specs.Prelude.{ℤ, slice_get}
use Rattle.std.proofs.lemmas.Bool.{eqb-true}
use Rattle.std.proofs.lemmas.List.{length_push}
use Rattle.lsys_syntax.specs.Tokens.{NameText}
use Rattle.lsys_syntax.specs.Strings.{ModuleName}
use Rattle.lsys_syntax.specs.Strings as S
use Rattle.lsys_syntax.specs.Expressions.{Expr}
use Rattle.lsys_syntax.specs.Rules.{Production, IsProduction}
use Rattle.lsys_syntax.specs.Checks.{rule_formals}
use Rattle.lsys_spec.specs.Systems.{System, Each, WellSpelled}
use Rattle.lsys_spec.specs.Values.{Tree}
use Rattle.lsys_spec.specs.Bodies.{Body, body_of, templates, is_for, group_in, group, table_at}
use Rattle.lsys_spec.specs.Levels.{ModuleValue, LevelSymbol, Push, Pop, Module, lineage, level_balanced}
use Rattle.lsys_spec.specs.Choice.{Choice, NoRule, Chosen, Failed}
use Rattle.lsys_spec.specs.Cuts.{Raw, Plain, Cut, raw_lineage, raw_balanced, cut_on, cut, Before, WithAll, Rising, Distinct}
use Rattle.lsys_syntax.specs.Limits.{most_successor_symbols}
use Rattle.lsys_syntax.specs.Commands.{Numbering, by_place}
use Rattle.lsys_spec.specs.Draws.{number_base}
use Rattle.lsys_spec.specs.Numbers.{code_of, number_at}
use Rattle.lsys_spec.specs.Meaning.{numbered, children, first_level, asked, filled_params, filled, filled_at, successor_by, successor, fault_at, children_from, next_level, meaning_to}
use Rattle.lsys_spec.specs.LevelLaws.{HasBalance}
use Rattle.lsys_spec.proofs.LevelInduction.{ok_parts, ok_as_fault, ok_fault_at, at_each_level}
use Rattle.lsys_spec.proofs.Cutting.{cut_balanced}
use Rattle.lsys_spec.proofs.Rising.{RawsWith, PairwiseRaws, Unlike, before_children, with_append, with_numbered, born_lineage, rising_numbered, unlike_children, distinct_numbered, cut_pairwise}

-- 1. what a well-spelled system has

successors_balanced : (ps : List Production) → Each IsProduction ps → Each (λ p. S.balanced 0 p.rule.successor ≡ true) ps
successors_balanced [] h = tt
successors_balanced (p ∷ ps) h = (h.0.rule.successor_balanced, successors_balanced ps h.1)

shorter : (ps : List Production) → Each (λ p. length p.rule.successor ≤ most_successor_symbols) ps → Each (λ p. length p.rule.successor ≤ number_base) ps
shorter [] h = tt
shorter (p ∷ ps) h = (let l = h.0 in omega (arith, l), shorter ps h.1)

pub has_balance : (s : System) → WellSpelled s → HasBalance s
has_balance s w = record {
  in_axiom = w.axiom_balanced;
  in_successors = successors_balanced s.rules w.rules;
  short_axiom = w.axiom_few;
  short_successors = shorter s.rules w.successors_few;
}

-- 2. successors

pub templates_balanced : (fs : List NameText) (xs : List (S.Symbol Expr)) (n : ℕ) → S.balanced n (templates fs xs) ≡ S.balanced n xs
templates_balanced fs [] n = refl
templates_balanced fs (S.Module m es ∷ xs) n = templates_balanced fs xs n
templates_balanced fs (S.Push ∷ xs) n = templates_balanced fs xs (suc n)
templates_balanced fs (S.Pop ∷ xs) zero = refl
templates_balanced fs (S.Pop ∷ xs) (suc n) = templates_balanced fs xs n
templates_balanced fs (S.Cut ∷ xs) n = templates_balanced fs xs n

abbrev Bodies : List Body → Type 0
Bodies bs = Each (λ b. S.balanced 0 b.successor ≡ true) bs

group_balanced : (table : List ℕ) (m : ModuleName) (arity : ℕ) (ps : List Production) → Each (λ p. S.balanced 0 p.rule.successor ≡ true) ps → Bodies (group_in table m arity ps)
group_balanced table m arity [] h = tt
group_balanced table m arity (p ∷ ps) h =
    by (is_for table m arity p) (templates_balanced (rule_formals p.rule) p.rule.successor 0 ∙ h.0) (group_balanced table m arity ps h.1)
  where
    by : (b : Bool) → S.balanced 0 (body_of p.rule).successor ≡ true → Bodies (group_in table m arity ps)
        → Bodies (cond b (body_of p.rule ∷ group_in table m arity ps) (group_in table m arity ps))
    by true g k = (g, k)
    by false g k = k

pub filled_balanced : (xs : List (S.Symbol Tree)) (bound : List ℤ) (ys : List (S.Symbol ℤ)) (n : ℕ) → filled xs bound ≡ Ok ys → S.balanced n ys ≡ S.balanced n xs
filled_balanced [] bound ys n h = let e : [] ≡ ys = cc in ap (S.balanced n) (sym e)
filled_balanced (S.Module m ts ∷ xs) bound ys n h =
    let z = ok_parts (filled_params ts bound) _ ys h in
    let r = ok_parts (filled xs bound) _ ys z.2 in
    let e : S.Module m z.0 ∷ r.0 ≡ ys = let i = r.2 in cc in ap (S.balanced n) (sym e) ∙ filled_balanced xs bound r.0 n r.1
filled_balanced (S.Push ∷ xs) bound ys n h =
    let r = ok_parts (filled xs bound) _ ys h in
    let e : S.Push ∷ r.0 ≡ ys = let i = r.2 in cc in ap (S.balanced n) (sym e) ∙ filled_balanced xs bound r.0 (suc n) r.1
filled_balanced (S.Pop ∷ xs) bound ys zero h =
    let r = ok_parts (filled xs bound) _ ys h in
    let e : S.Pop ∷ r.0 ≡ ys = let i = r.2 in cc in ap (S.balanced 0) (sym e)
filled_balanced (S.Pop ∷ xs) bound ys (suc n) h =
    let r = ok_parts (filled xs bound) _ ys h in
    let e : S.Pop ∷ r.0 ≡ ys = let i = r.2 in cc in ap (S.balanced (suc n)) (sym e) ∙ filled_balanced xs bound r.0 n r.1
filled_balanced (S.Cut ∷ xs) bound ys n h =
    let r = ok_parts (filled xs bound) _ ys h in
    let e : S.Cut ∷ r.0 ≡ ys = let i = r.2 in cc in ap (S.balanced n) (sym e) ∙ filled_balanced xs bound r.0 n r.1

chosen_balanced : (bs : List Body) (g : ℕ) (values : List ℤ) (ys : List (S.Symbol ℤ)) → Bodies bs → filled_at bs g values ≡ Ok ys → S.balanced 0 ys ≡ true
chosen_balanced [] g values ys h k = let e : [] ≡ ys = cc in ap (S.balanced 0) (sym e)
chosen_balanced (b ∷ bs) zero values ys h k = filled_balanced b.successor values ys 0 (ok_as_fault (filled b.successor values) ys k) ∙ h.0
chosen_balanced (b ∷ bs) (suc g) values ys h k = chosen_balanced bs g values ys h.1 k

choice_balanced : (bs : List Body) (m : ModuleValue) (c : Choice) (ys : List (S.Symbol ℤ)) → Bodies bs → successor_by bs m c ≡ Ok ys → S.balanced 0 ys ≡ true
choice_balanced bs m NoRule ys h k = let e : S.Module m.name m.params ∷ [] ≡ ys = cc in ap (S.balanced 0) (sym e)
choice_balanced bs m (Chosen g values) ys h k = chosen_balanced bs g values ys h k
choice_balanced bs m (Failed f) ys h k = cc

pub successor_balanced : (s : System) → HasBalance s → (t : ℕ) (x : List LevelSymbol) (p : ℕ) (l : List ℕ) (m : ModuleValue) (ys : List (S.Symbol ℤ)) → successor s t x p l m ≡ Ok ys → S.balanced 0 ys ≡ true
successor_balanced s b t x p l m ys h =
    let bs : List Body = group s t m.name (length m.params) in
    choice_balanced bs m (asked s t bs x p l m).answer ys (group_balanced (table_at s.schedule t) m.name (length m.params) s.rules b.in_successors) h

-- and short

templates_length : (fs : List NameText) (xs : List (S.Symbol Expr)) → length (templates fs xs) ≡ length xs
templates_length fs [] = refl
templates_length fs (S.Module m es ∷ xs) = ap (λ n. suc n) (templates_length fs xs)
templates_length fs (S.Push ∷ xs) = ap (λ n. suc n) (templates_length fs xs)
templates_length fs (S.Pop ∷ xs) = ap (λ n. suc n) (templates_length fs xs)
templates_length fs (S.Cut ∷ xs) = ap (λ n. suc n) (templates_length fs xs)

abbrev Short : List Body → Type 0
Short bs = Each (λ b. length b.successor ≤ number_base) bs

group_short : (table : List ℕ) (m : ModuleName) (arity : ℕ) (ps : List Production) → Each (λ p. length p.rule.successor ≤ number_base) ps → Short (group_in table m arity ps)
group_short table m arity [] h = tt
group_short table m arity (p ∷ ps) h =
    let e : length (templates (rule_formals p.rule) p.rule.successor) ≡ length p.rule.successor = templates_length (rule_formals p.rule) p.rule.successor in
    let l : length p.rule.successor ≤ number_base = h.0 in
    by (is_for table m arity p) (omega (arith, e, l)) (group_short table m arity ps h.1)
  where
    by : (b : Bool) → length (body_of p.rule).successor ≤ number_base → Short (group_in table m arity ps) → Short (cond b (body_of p.rule ∷ group_in table m arity ps) (group_in table m arity ps))
    by true g k = (g, k)
    by false g k = k

filled_length : (xs : List (S.Symbol Tree)) (bound : List ℤ) (ys : List (S.Symbol ℤ)) → filled xs bound ≡ Ok ys → length ys ≡ length xs
filled_length [] bound ys h = let e : [] ≡ ys = cc in ap length (sym e)
filled_length (S.Module m ts ∷ xs) bound ys h =
    let z = ok_parts (filled_params ts bound) _ ys h in
    let r = ok_parts (filled xs bound) _ ys z.2 in
    let e : S.Module m z.0 ∷ r.0 ≡ ys = let i = r.2 in cc in ap length (sym e) ∙ ap (λ n. suc n) (filled_length xs bound r.0 r.1)
filled_length (S.Push ∷ xs) bound ys h =
    let r = ok_parts (filled xs bound) _ ys h in
    let e : S.Push ∷ r.0 ≡ ys = let i = r.2 in cc in ap length (sym e) ∙ ap (λ n. suc n) (filled_length xs bound r.0 r.1)
filled_length (S.Pop ∷ xs) bound ys h =
    let r = ok_parts (filled xs bound) _ ys h in
    let e : S.Pop ∷ r.0 ≡ ys = let i = r.2 in cc in ap length (sym e) ∙ ap (λ n. suc n) (filled_length xs bound r.0 r.1)
filled_length (S.Cut ∷ xs) bound ys h =
    let r = ok_parts (filled xs bound) _ ys h in
    let e : S.Cut ∷ r.0 ≡ ys = let i = r.2 in cc in ap length (sym e) ∙ ap (λ n. suc n) (filled_length xs bound r.0 r.1)

chosen_short : (bs : List Body) (g : ℕ) (values : List ℤ) (ys : List (S.Symbol ℤ)) → Short bs → filled_at bs g values ≡ Ok ys → length ys ≤ number_base
chosen_short [] g values ys h k = let e : [] ≡ ys = cc in subst (λ ys. length ys ≤ number_base) e (omega arith)
chosen_short (b ∷ bs) zero values ys h k =
    let e : length ys ≡ length b.successor = filled_length b.successor values ys (ok_as_fault (filled b.successor values) ys k) in
    let l : length b.successor ≤ number_base = h.0 in omega (arith, e, l)
chosen_short (b ∷ bs) (suc g) values ys h k = chosen_short bs g values ys h.1 k

choice_short : (bs : List Body) (m : ModuleValue) (c : Choice) (ys : List (S.Symbol ℤ)) → Short bs → successor_by bs m c ≡ Ok ys → length ys ≤ number_base
choice_short bs m NoRule ys h k = let e : S.Module m.name m.params ∷ [] ≡ ys = cc in subst (λ ys. length ys ≤ number_base) e (omega arith)
choice_short bs m (Chosen g values) ys h k = chosen_short bs g values ys h k
choice_short bs m (Failed f) ys h k = cc

pub successor_short : (s : System) → HasBalance s → (t : ℕ) (x : List LevelSymbol) (p : ℕ) (l : List ℕ) (m : ModuleValue) (ys : List (S.Symbol ℤ)) → successor s t x p l m ≡ Ok ys → length ys ≤ number_base
successor_short s b t x p l m ys h =
    let bs : List Body = group s t m.name (length m.params) in
    choice_short bs m (asked s t bs x p l m).answer ys (group_short (table_at s.schedule t) m.name (length m.params) s.rules b.short_successors) h

-- 3. the children of a level: brackets give themselves, and modules balanced strings

abbrev pub Offspring : Numbering → List LevelSymbol → List Raw → Type 0
Offspring g [] raw = raw ≡ []
Offspring g (Push l ∷ x) raw = (more : List Raw) × (raw ≡ children g l (S.Push ∷ []) ++ more) × Offspring g x more
Offspring g (Pop l ∷ x) raw = (more : List Raw) × (raw ≡ children g l (S.Pop ∷ []) ++ more) × Offspring g x more
Offspring g (Module l m ∷ x) raw = (ys : List (S.Symbol ℤ)) × (more : List Raw) × (S.balanced 0 ys ≡ true) × (length ys ≤ number_base) × (raw ≡ children g l ys ++ more) × Offspring g x more

pub offspring : (s : System) → HasBalance s → (t : ℕ) (x : List LevelSymbol) (p n : ℕ) (rest : List LevelSymbol) (raw : List Raw) → children_from s t x p n rest ≡ Ok raw → Offspring s.numbering rest raw
offspring s b t x p n [] raw h = let e : [] ≡ raw = cc in sym e
offspring s b t x p n (Push l ∷ rest) raw h =
    let r = ok_parts (children_from s t x (p + 1) n rest) _ raw h in
    let e : children s.numbering l (S.Push ∷ []) ++ r.0 ≡ raw = let i = r.2 in cc in (r.0, sym e, offspring s b t x (p + 1) n rest r.0 r.1)
offspring s b t x p n (Pop l ∷ rest) raw h =
    let r = ok_parts (children_from s t x (p + 1) n rest) _ raw h in
    let e : children s.numbering l (S.Pop ∷ []) ++ r.0 ≡ raw = let i = r.2 in cc in (r.0, sym e, offspring s b t x (p + 1) n rest r.0 r.1)
offspring s b t x p n (Module l m ∷ rest) raw h =
    let z = ok_parts (fault_at t (n + 1) (successor s t x p l m)) _ raw h in
    let r = ok_parts (children_from s t x (p + 1) (n + 1) rest) _ raw z.2 in
    let e : children s.numbering l z.0 ++ r.0 ≡ raw = let i = r.2 in cc in
    let f : successor s t x p l m ≡ Ok z.0 = ok_fault_at t (n + 1) (successor s t x p l m) z.0 z.1 in
    (z.0, r.0, successor_balanced s b t x p l m z.0 f, successor_short s b t x p l m z.0 f, sym e, offspring s b t x (p + 1) (n + 1) rest r.0 r.1)

-- balance

numbered_balanced : (g : Numbering) (i : ℕ) (before l : List ℕ) (xs : List (S.Symbol ℤ)) (y : List Raw) (k n b : ℕ) → n + k ≡ b → S.balanced k xs ≡ true → raw_balanced b (numbered g i before l xs ++ y) ≡ raw_balanced n y
numbered_balanced g i before l [] y k n b e h = let z : k ≡ 0 = eqb-true k 0 h in let i : b ≡ n = omega (arith, e, z) in ap (λ n. raw_balanced n y) i
numbered_balanced g i before l (S.Cut ∷ s) y k n b e h = numbered_balanced g (i + 1) (37 ∷ before) l s y k n b e h
numbered_balanced g i before l (S.Module m ps ∷ s) y k n b e h = numbered_balanced g (i + 1) (code_of (S.Module m ps) ∷ before) l s y k n b e h
numbered_balanced g i before l (S.Push ∷ s) y k n b e h = numbered_balanced g (i + 1) (91 ∷ before) l s y (suc k) n (suc b) (omega (arith, e)) h
numbered_balanced g i before l (S.Pop ∷ s) y zero n b e h = cc
numbered_balanced g i before l (S.Pop ∷ s) y (suc k) n zero e h = absurd (omega (arith, e))
numbered_balanced g i before l (S.Pop ∷ s) y (suc k) n (suc b) e h = numbered_balanced g (i + 1) (93 ∷ before) l s y k n b (omega (arith, e)) h

pub offspring_balanced : (g : Numbering) (x : List LevelSymbol) (raw : List Raw) (n : ℕ) → Offspring g x raw → level_balanced n x ≡ true → raw_balanced n raw ≡ true
offspring_balanced g [] raw n o h = ap (raw_balanced n) o ∙ h
offspring_balanced g (Push l ∷ x) raw n o h = ap (raw_balanced n) o.1 ∙ offspring_balanced g x o.0 (suc n) o.2 h
offspring_balanced g (Pop l ∷ x) raw zero o h = cc
offspring_balanced g (Pop l ∷ x) raw (suc n) o h = ap (raw_balanced (suc n)) o.1 ∙ offspring_balanced g x o.0 n o.2 h
offspring_balanced g (Module l m ∷ x) raw n o h =
    ap (raw_balanced n) o.4 ∙ numbered_balanced g 0 [] l o.0 o.1 0 n n (omega arith) o.2 ∙ offspring_balanced g x o.1 n o.5 h

-- pairs

-- what is related for two parents is so for each two of their children
abbrev Inherits : (List ℕ → List ℕ → Type 0) → Type 0
Inherits R = (a b : List ℕ) (i j : ℕ) → R a b → R (a ++ i ∷ []) (b ++ j ∷ [])

offspring_with : (R : List ℕ → List ℕ → Type 0) → Inherits R → (g : Numbering) (a : List ℕ) (i : ℕ) (x : List LevelSymbol) (raw : List Raw) → Offspring g x raw → WithAll R a x → RawsWith R (a ++ i ∷ []) raw
offspring_with R down g a i [] raw o h = subst (RawsWith R (a ++ i ∷ [])) (sym o) tt
offspring_with R down g a i (Push l ∷ x) raw o h =
    subst (RawsWith R (a ++ i ∷ [])) (sym o.1) (with_append R (a ++ i ∷ []) (children g l (S.Push ∷ [])) o.0 (with_numbered R g (a ++ i ∷ []) l 0 [] (S.Push ∷ []) (λ k. down a l i k h.0)) (offspring_with R down g a i x o.0 o.2 h.1))
offspring_with R down g a i (Pop l ∷ x) raw o h =
    subst (RawsWith R (a ++ i ∷ [])) (sym o.1) (with_append R (a ++ i ∷ []) (children g l (S.Pop ∷ [])) o.0 (with_numbered R g (a ++ i ∷ []) l 0 [] (S.Pop ∷ []) (λ k. down a l i k h.0)) (offspring_with R down g a i x o.0 o.2 h.1))
offspring_with R down g a i (Module l m ∷ x) raw o h =
    subst (RawsWith R (a ++ i ∷ [])) (sym o.4) (with_append R (a ++ i ∷ []) (children g l o.0) o.1 (with_numbered R g (a ++ i ∷ []) l 0 [] o.0 (λ k. down a l i k h.0)) (offspring_with R down g a i x o.1 o.5 h.1))

before_inherits : Inherits Before
before_inherits a b i j h = before_children a b (i ∷ []) (j ∷ []) h

unlike_inherits : Inherits Unlike
unlike_inherits a b i j h = unlike_children a b i j h

offspring_rising : (x : List LevelSymbol) (raw : List Raw) → Offspring by_place x raw → Rising x → PairwiseRaws Before raw
offspring_rising [] raw o h = subst (PairwiseRaws Before) (sym o) tt
offspring_rising (Push l ∷ x) raw o h = subst (PairwiseRaws Before) (sym o.1) (rising_numbered 0 [] l (S.Push ∷ []) o.0 (λ i. offspring_with Before before_inherits by_place l i x o.0 o.2 h.0) (offspring_rising x o.0 o.2 h.1))
offspring_rising (Pop l ∷ x) raw o h = subst (PairwiseRaws Before) (sym o.1) (rising_numbered 0 [] l (S.Pop ∷ []) o.0 (λ i. offspring_with Before before_inherits by_place l i x o.0 o.2 h.0) (offspring_rising x o.0 o.2 h.1))
offspring_rising (Module l m ∷ x) raw o h = subst (PairwiseRaws Before) (sym o.4) (rising_numbered 0 [] l o.0 o.1 (λ i. offspring_with Before before_inherits by_place l i x o.1 o.5 h.0) (offspring_rising x o.1 o.5 h.1))

offspring_distinct : (g : Numbering) (x : List LevelSymbol) (raw : List Raw) → Offspring g x raw → Distinct x → PairwiseRaws Unlike raw
offspring_distinct g [] raw o h = subst (PairwiseRaws Unlike) (sym o) tt
offspring_distinct g (Push l ∷ x) raw o h =
    subst (PairwiseRaws Unlike) (sym o.1) (distinct_numbered g 0 [] l (S.Push ∷ []) o.0 (omega arith) (λ i. offspring_with Unlike unlike_inherits g l i x o.0 o.2 h.0) (offspring_distinct g x o.0 o.2 h.1))
offspring_distinct g (Pop l ∷ x) raw o h =
    subst (PairwiseRaws Unlike) (sym o.1) (distinct_numbered g 0 [] l (S.Pop ∷ []) o.0 (omega arith) (λ i. offspring_with Unlike unlike_inherits g l i x o.0 o.2 h.0) (offspring_distinct g x o.0 o.2 h.1))
offspring_distinct g (Module l m ∷ x) raw o h =
    subst (PairwiseRaws Unlike) (sym o.4) (distinct_numbered g 0 [] l o.0 o.1 (let k = o.3 in omega (arith, k)) (λ i. offspring_with Unlike unlike_inherits g l i x o.1 o.5 h.0) (offspring_distinct g x o.1 o.5 h.1))

-- generations

abbrev Long : ℕ → List LevelSymbol → Type 0
Long n x = Each (λ s. length (lineage s) ≡ n) x

abbrev LongRaws : ℕ → List Raw → Type 0
LongRaws n x = Each (λ r. length (raw_lineage r) ≡ n) x

numbered_long : (g : Numbering) (i n : ℕ) (before l : List ℕ) (xs : List (S.Symbol ℤ)) (y : List Raw) → length l ≡ n → LongRaws (n + 1) y → LongRaws (n + 1) (numbered g i before l xs ++ y)
numbered_long g i n before l [] y e h = h
numbered_long g i n before l (x ∷ xs) y e h =
    let k : ℕ = number_at g i before (code_of x) in
    (ap length (born_lineage (l ++ k ∷ []) x) ∙ length_push l k ∙ ap (λ n. n + 1) e, numbered_long g (i + 1) n (code_of x ∷ before) l xs y e h)

offspring_long : (g : Numbering) (n : ℕ) (x : List LevelSymbol) (raw : List Raw) → Offspring g x raw → Long n x → LongRaws (n + 1) raw
offspring_long g n [] raw o h = subst (LongRaws (n + 1)) (sym o) tt
offspring_long g n (Push l ∷ x) raw o h = subst (LongRaws (n + 1)) (sym o.1) (numbered_long g 0 n [] l (S.Push ∷ []) o.0 h.0 (offspring_long g n x o.0 o.2 h.1))
offspring_long g n (Pop l ∷ x) raw o h = subst (LongRaws (n + 1)) (sym o.1) (numbered_long g 0 n [] l (S.Pop ∷ []) o.0 h.0 (offspring_long g n x o.0 o.2 h.1))
offspring_long g n (Module l m ∷ x) raw o h = subst (LongRaws (n + 1)) (sym o.4) (numbered_long g 0 n [] l o.0 o.1 h.0 (offspring_long g n x o.1 o.5 h.1))

cut_long : (n : ℕ) (x : List Raw) (o : Option ℕ) → LongRaws n x → Long n (cut_on o x)
cut_long n [] None h = tt
cut_long n [] (Some k) h = tt
cut_long n (Cut l ∷ x) None h = cut_long n x (Some 0) h.1
cut_long n (Cut l ∷ x) (Some k) h = cut_long n x (Some k) h.1
cut_long n (Plain s ∷ x) None h = (h.0, cut_long n x None h.1)
cut_long n (Plain (Module l m) ∷ x) (Some k) h = cut_long n x (Some k) h.1
cut_long n (Plain (Push l) ∷ x) (Some k) h = cut_long n x (Some (suc k)) h.1
cut_long n (Plain (Pop l) ∷ x) (Some zero) h = (h.0, cut_long n x None h.1)
cut_long n (Plain (Pop l) ∷ x) (Some (suc k)) h = cut_long n x (Some k) h.1

-- 4. the levels

pub record Grown (g : Numbering) (t : ℕ) (x : List LevelSymbol) : Type 0 where
  pub is_balanced : level_balanced 0 x ≡ true
  pub rises : g ≡ by_place → Rising x
  pub distinct : Distinct x
  pub generations : Long (t + 1) x

of_raws : (g : Numbering) (t : ℕ) (raw : List Raw) → raw_balanced 0 raw ≡ true → (g ≡ by_place → PairwiseRaws Before raw) → PairwiseRaws Unlike raw → LongRaws (t + 1) raw → Grown g t (cut raw)
of_raws g t raw b r d l = record {
  is_balanced = cut_balanced raw None 0 0 (omega arith) b;
  rises = λ e. cut_pairwise Before raw None (r e);
  distinct = cut_pairwise Unlike raw None d;
  generations = cut_long (t + 1) raw None l;
}

pub first_grown : (s : System) → HasBalance s → Grown s.numbering 0 (first_level s)
first_grown s b =
    let xs : List (S.Symbol ℤ) = s.axiom_string in
    let g : Numbering = s.numbering in
    let whole : children g [] xs ++ [] ≡ children g [] xs = append-nil (children g [] xs) in
    of_raws g 0 (children g [] xs)
    (ap (raw_balanced 0) (sym whole) ∙ numbered_balanced g 0 [] [] xs [] 0 0 0 (omega arith) b.in_axiom)
    (λ e. subst (PairwiseRaws Before) (append-nil (children by_place [] xs) ∙ ap (λ g. children g [] xs) (sym e)) (rising_numbered 0 [] [] xs [] (λ i. tt) tt))
    (subst (PairwiseRaws Unlike) whole (distinct_numbered g 0 [] [] xs [] (let k = b.short_axiom in omega (arith, k)) (λ i. tt) tt))
    (subst (LongRaws 1) whole (numbered_long g 0 0 [] [] xs [] refl tt))

pub next_grown : (s : System) → HasBalance s → (t : ℕ) (x y : List LevelSymbol) → Grown s.numbering t x → next_level s t x ≡ Ok y → Grown s.numbering (suc t) y
next_grown s b t x y g h =
    let r = ok_parts (children_from s t x 0 0 x) _ y h in
    let e : cut r.0 ≡ y = let i = r.2 in cc in
    let o : Offspring s.numbering x r.0 = offspring s b t x 0 0 x r.0 r.1 in
    let n : t + 1 + 1 ≡ suc t + 1 = omega arith in
    subst (Grown s.numbering (suc t)) e
    (of_raws s.numbering (suc t) r.0 (offspring_balanced s.numbering x r.0 0 o g.is_balanced) (λ e. offspring_rising x r.0 (subst (λ g. Offspring g x r.0) e o) (g.rises e))
    (offspring_distinct s.numbering x r.0 o g.distinct) (subst (λ n. LongRaws n r.0) n (offspring_long s.numbering (t + 1) x r.0 o g.generations)))

pub grown : (s : System) → HasBalance s → (limit : ℕ) (xs : List (List LevelSymbol)) → meaning_to s limit s.depth ≡ Ok xs → (t : ℕ) (x : List LevelSymbol) → slice_get xs t ≡ Some x → Grown s.numbering t x
grown s b = at_each_level s (Grown s.numbering) (first_grown s b) (next_grown s b)
