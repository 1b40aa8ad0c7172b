-- In a well-spelled system, and so in each of its levels, names are names of the language.
use Rattle.std.proofs.Common.{◌≡◌, ℕ, zero, suc, ◌+◌, Bool, true, false, cond, Option, Some, None, Ok, List, [], ◌∷◌, ◌++◌, append-nil, length, subst}
use Rattle.std.specs.Prelude.{ℤ, slice_get}
use Rattle.lsys_syntax.specs.Tokens.{NameText}
use Rattle.lsys_syntax.specs.Strings.{ModuleName, EachOf, IsSymbol, IsModuleName}
use Rattle.lsys_syntax.specs.Strings as S
use Rattle.lsys_syntax.specs.Expressions.{Expr}
use Rattle.lsys_syntax.specs.Rules.{Rule, IsRule, Production, IsProduction}
use Rattle.lsys_syntax.specs.Checks.{rule_formals}
use Rattle.lsys_spec.specs.Systems.{System, Each, WellSpelled}
use Rattle.lsys_spec.specs.Values.{Tree}
use Rattle.lsys_spec.specs.Bodies.{Body, body_of, Patterns, PatternNest, outermost, within, with_pattern, with_branch, opened, nest_of, innermost, left_patterns, pattern_of, templates, is_for, group_in, group, table_at}
use Rattle.lsys_spec.specs.Levels.{ModuleValue, LevelSymbol, Push, Pop, Module}
use Rattle.lsys_spec.specs.Choice.{Choice, NoRule, Chosen, Failed}
use Rattle.lsys_syntax.specs.Commands.{Numbering}
use Rattle.lsys_spec.specs.Numbers.{code_of}
use Rattle.lsys_spec.specs.Cuts.{Raw, Plain, Cut, cut_on, cut}
use Rattle.lsys_spec.specs.Meaning.{numbered, children, first_level, asked, filled_params, filled, filled_at, successor_by, successor, fault_at, children_from, next_level, meaning_to}
use Rattle.lsys_spec.proofs.LevelInduction.{ok_parts, ok_as_fault, ok_fault_at, at_each_level}
use Rattle.lsys_spec.proofs.Names.{NamedSymbol, NamedPattern, NamedPatterns, NamedTemplate, NamedBody}

-- 1. rules

left_named : (G : NameText → Type 0) (xs : List (S.Symbol NameText)) → EachOf (IsSymbol G) xs → Each NamedPattern (left_patterns xs)
left_named G [] h = tt
left_named G (S.Module n fs ∷ xs) h = (h.0.0, left_named G xs h.1)
left_named G (S.Push ∷ xs) h = left_named G xs h.1
left_named G (S.Pop ∷ xs) h = left_named G xs h.1
left_named G (S.Cut ∷ xs) h = left_named G xs h.1

abbrev NamedNest : PatternNest → Type 0
NamedNest (outermost p) = NamedPatterns p
NamedNest (within p n) = NamedPatterns p × NamedNest n

pattern_named : (m : ModuleName) (fs : List NameText) (n : PatternNest) → IsModuleName m → NamedNest n → NamedNest (with_pattern (pattern_of m fs) n)
pattern_named m fs (outermost p) v h = (v, h)
pattern_named m fs (within p n) v h = ((v, h.0), h.1)

branch_named : (inner : Patterns) (n : PatternNest) → NamedPatterns inner → NamedNest n → NamedNest (with_branch inner n)
branch_named inner (outermost p) v h = (v, h)
branch_named inner (within p n) v h = ((v, h.0), h.1)

opened_named : (n : PatternNest) → NamedNest n → NamedNest (opened n)
opened_named (outermost inner) h = (h, tt)
opened_named (within inner n) h = branch_named inner n h.0 h.1

nest_named : (G : NameText → Type 0) (xs : List (S.Symbol NameText)) → EachOf (IsSymbol G) xs → NamedNest (nest_of xs)
nest_named G [] h = tt
nest_named G (S.Module m fs ∷ xs) h = pattern_named m fs (nest_of xs) h.0.0 (nest_named G xs h.1)
nest_named G (S.Push ∷ xs) h = opened_named (nest_of xs) (nest_named G xs h.1)
nest_named G (S.Pop ∷ xs) h = (tt, nest_named G xs h.1)
nest_named G (S.Cut ∷ xs) h = nest_named G xs h.1

innermost_named : (n : PatternNest) → NamedNest n → NamedPatterns (innermost n)
innermost_named (outermost p) h = h
innermost_named (within p n) h = h.0

templates_named : (G : Expr → Type 0) (fs : List NameText) (xs : List (S.Symbol Expr)) → EachOf (IsSymbol G) xs → Each NamedTemplate (templates fs xs)
templates_named G fs [] h = tt
templates_named G fs (S.Module m es ∷ xs) h = (h.0.0, templates_named G fs xs h.1)
templates_named G fs (S.Push ∷ xs) h = (tt, templates_named G fs xs h.1)
templates_named G fs (S.Pop ∷ xs) h = (tt, templates_named G fs xs h.1)
templates_named G fs (S.Cut ∷ xs) h = (tt, templates_named G fs xs h.1)

body_named : (r : Rule) → IsRule r → NamedBody (body_of r)
body_named r h = record {
  left = left_named _ r.left h.left;
  own = h.name;
  right = innermost_named (nest_of r.right) (nest_named _ r.right h.right);
  successor = templates_named _ (rule_formals r) r.successor h.successor;
}

group_in_named : (table : List ℕ) (m : ModuleName) (arity : ℕ) (ps : List Production) → Each IsProduction ps → Each NamedBody (group_in table m arity ps)
group_in_named table m arity [] h = tt
group_in_named table m arity (p ∷ ps) h = by (is_for table m arity p) (body_named p.rule h.0.rule) (group_in_named table m arity ps h.1)
  where
    by : (b : Bool) → NamedBody (body_of p.rule) → Each NamedBody (group_in table m arity ps) → Each NamedBody (cond b (body_of p.rule ∷ group_in table m arity ps) (group_in table m arity ps))
    by true g k = (g, k)
    by false g k = k

pub group_named : (s : System) → WellSpelled s → (t : ℕ) (m : ModuleName) (arity : ℕ) → Each NamedBody (group s t m arity)
group_named s w t m arity = group_in_named (table_at s.schedule t) m arity s.rules w.rules

-- 2. successors

filled_named : (xs : List (S.Symbol Tree)) (bound : List ℤ) (ys : List (S.Symbol ℤ)) → filled xs bound ≡ Ok ys → Each NamedTemplate xs → Each NamedTemplate ys
filled_named [] bound ys h v = let e : [] ≡ ys = cc in subst (Each NamedTemplate) e tt
filled_named (S.Module m ts ∷ xs) bound ys h v =
    let z = ok_parts (filled_params ts bound) _ ys h in
    let r = ok_parts (filled xs bound) _ ys z.2 in
    let e : S.Module m z.0 ∷ r.0 ≡ ys = let i = r.2 in cc in subst (Each NamedTemplate) e (v.0, filled_named xs bound r.0 r.1 v.1)
filled_named (S.Push ∷ xs) bound ys h v =
    let r = ok_parts (filled xs bound) _ ys h in
    let e : S.Push ∷ r.0 ≡ ys = let i = r.2 in cc in subst (Each NamedTemplate) e (tt, filled_named xs bound r.0 r.1 v.1)
filled_named (S.Pop ∷ xs) bound ys h v =
    let r = ok_parts (filled xs bound) _ ys h in
    let e : S.Pop ∷ r.0 ≡ ys = let i = r.2 in cc in subst (Each NamedTemplate) e (tt, filled_named xs bound r.0 r.1 v.1)
filled_named (S.Cut ∷ xs) bound ys h v =
    let r = ok_parts (filled xs bound) _ ys h in
    let e : S.Cut ∷ r.0 ≡ ys = let i = r.2 in cc in subst (Each NamedTemplate) e (tt, filled_named xs bound r.0 r.1 v.1)

chosen_named : (bs : List Body) (g : ℕ) (values : List ℤ) (ys : List (S.Symbol ℤ)) → Each NamedBody bs → filled_at bs g values ≡ Ok ys → Each NamedTemplate ys
chosen_named [] g values ys v h = let e : [] ≡ ys = cc in subst (Each NamedTemplate) e tt
chosen_named (b ∷ bs) zero values ys v h = filled_named b.successor values ys (ok_as_fault (filled b.successor values) ys h) v.0.successor
chosen_named (b ∷ bs) (suc g) values ys v h = chosen_named bs g values ys v.1 h

choice_named : (bs : List Body) (m : ModuleValue) (c : Choice) (ys : List (S.Symbol ℤ)) → Each NamedBody bs → IsModuleName m.name → successor_by bs m c ≡ Ok ys → Each NamedTemplate ys
choice_named bs m NoRule ys v n h = let e : S.Module m.name m.params ∷ [] ≡ ys = cc in subst (Each NamedTemplate) e (n, tt)
choice_named bs m (Chosen g values) ys v n h = chosen_named bs g values ys v h
choice_named bs m (Failed f) ys v n h = cc

-- 3. levels

abbrev pub NamedLevel : List LevelSymbol → Type 0
NamedLevel x = Each NamedSymbol x

abbrev NamedRaw : Raw → Type 0
NamedRaw (Plain s) = NamedSymbol s
NamedRaw (Cut l) = Unit {0}

abbrev NamedRaws : List Raw → Type 0
NamedRaws x = Each NamedRaw x

numbered_named : (g : Numbering) (i : ℕ) (before l : List ℕ) (xs : List (S.Symbol ℤ)) (y : List Raw) → Each NamedTemplate xs → NamedRaws y → NamedRaws (numbered g i before l xs ++ y)
numbered_named g i before l [] y v h = h
numbered_named g i before l (S.Module m ps ∷ xs) y v h = (v.0, numbered_named g (i + 1) (code_of (S.Module m ps) ∷ before) l xs y v.1 h)
numbered_named g i before l (S.Push ∷ xs) y v h = (tt, numbered_named g (i + 1) (91 ∷ before) l xs y v.1 h)
numbered_named g i before l (S.Pop ∷ xs) y v h = (tt, numbered_named g (i + 1) (93 ∷ before) l xs y v.1 h)
numbered_named g i before l (S.Cut ∷ xs) y v h = (tt, numbered_named g (i + 1) (37 ∷ before) l xs y v.1 h)

children_named : (s : System) → WellSpelled s → (t : ℕ) (x : List LevelSymbol) (p n : ℕ) (rest : List LevelSymbol) (raw : List Raw) → children_from s t x p n rest ≡ Ok raw → NamedLevel rest → NamedRaws raw
children_named s w t x p n [] raw h v = let e : [] ≡ raw = cc in subst NamedRaws e tt
children_named s w t x p n (Push l ∷ rest) raw h v =
    let r = ok_parts (children_from s t x (p + 1) n rest) _ raw h in
    let e : children s.numbering l (S.Push ∷ []) ++ r.0 ≡ raw = let i = r.2 in cc in subst NamedRaws e (tt, children_named s w t x (p + 1) n rest r.0 r.1 v.1)
children_named s w t x p n (Pop l ∷ rest) raw h v =
    let r = ok_parts (children_from s t x (p + 1) n rest) _ raw h in
    let e : children s.numbering l (S.Pop ∷ []) ++ r.0 ≡ raw = let i = r.2 in cc in subst NamedRaws e (tt, children_named s w t x (p + 1) n rest r.0 r.1 v.1)
children_named s w t x p n (Module l m ∷ rest) raw h v =
    let z = ok_parts (fault_at t (n + 1) (successor s t x p l m)) _ raw h in
    let r = ok_parts (children_from s t x (p + 1) (n + 1) rest) _ raw z.2 in
    let e : children s.numbering l z.0 ++ r.0 ≡ raw = let i = r.2 in cc in
    let bs : List Body = group s t m.name (length m.params) in
    let ys : Each NamedTemplate z.0 = choice_named bs m (asked s t bs x p l m).answer z.0 (group_named s w t m.name (length m.params)) v.0 (ok_fault_at t (n + 1) (successor s t x p l m) z.0 z.1) in
    subst NamedRaws e (numbered_named s.numbering 0 [] l z.0 r.0 ys (children_named s w t x (p + 1) (n + 1) rest r.0 r.1 v.1))

cut_named : (x : List Raw) (o : Option ℕ) → NamedRaws x → NamedLevel (cut_on o x)
cut_named [] None h = tt
cut_named [] (Some k) h = tt
cut_named (Cut l ∷ x) None h = cut_named x (Some 0) h.1
cut_named (Cut l ∷ x) (Some k) h = cut_named x (Some k) h.1
cut_named (Plain s ∷ x) None h = (h.0, cut_named x None h.1)
cut_named (Plain (Module l m) ∷ x) (Some k) h = cut_named x (Some k) h.1
cut_named (Plain (Push l) ∷ x) (Some k) h = cut_named x (Some (suc k)) h.1
cut_named (Plain (Pop l) ∷ x) (Some zero) h = (h.0, cut_named x None h.1)
cut_named (Plain (Pop l) ∷ x) (Some (suc k)) h = cut_named x (Some k) h.1

string_named : (G : ℤ → Type 0) (xs : List (S.Symbol ℤ)) → EachOf (IsSymbol G) xs → Each NamedTemplate xs
string_named G [] h = tt
string_named G (S.Module m es ∷ xs) h = (h.0.0, string_named G xs h.1)
string_named G (S.Push ∷ xs) h = (tt, string_named G xs h.1)
string_named G (S.Pop ∷ xs) h = (tt, string_named G xs h.1)
string_named G (S.Cut ∷ xs) h = (tt, string_named G xs h.1)

pub first_named : (s : System) → WellSpelled s → NamedLevel (first_level s)
first_named s w =
    let xs : List (S.Symbol ℤ) = s.axiom_string in
    cut_named (children s.numbering [] xs) None (subst NamedRaws (append-nil (children s.numbering [] xs)) (numbered_named s.numbering 0 [] [] xs [] (string_named _ xs w.axiom_symbols) tt))

pub next_named : (s : System) → WellSpelled s → (t : ℕ) (x y : List LevelSymbol) → NamedLevel x → next_level s t x ≡ Ok y → NamedLevel y
next_named s w t x y v h =
    let r = ok_parts (children_from s t x 0 0 x) _ y h in
    let e : cut r.0 ≡ y = let i = r.2 in cc in
    subst NamedLevel e (cut_named r.0 None (children_named s w t x 0 0 x r.0 r.1 v))

pub level_named : (s : System) → WellSpelled s → (limit : ℕ) (xs : List (List LevelSymbol)) → meaning_to s limit s.depth ≡ Ok xs → (t : ℕ) (x : List LevelSymbol) → slice_get xs t ≡ Some x → NamedLevel x
level_named s w = at_each_level s (λ t x. NamedLevel x) (first_named s w) (λ t x y. next_named s w t x y)
