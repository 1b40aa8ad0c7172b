-- An axiom and a successor are short.
use Rattle.std.proofs.Common.{◌≡◌, ℕ, zero, suc, ◌≤◌, Bool, true, false, cond, None, Ok, List, [], ◌∷◌, length, refl, sym, ap, ◌∙◌, subst, arith}
use Rattle.std.specs.Prelude.{ℤ}
use Rattle.lsys_syntax.specs.Limits.{most_axiom_symbols, most_successor_symbols}
use Rattle.lsys_syntax.specs.Tokens.{NameText}
use Rattle.lsys_syntax.specs.Strings as S
use Rattle.lsys_syntax.specs.Strings.{ModuleName, Signed, unsigned, minus_sign, name_kind, more_pieces, params_pieces, gap, ends_in_name, begins_with_letter, string_pieces, signed_pieces}
use Rattle.lsys_syntax.specs.Expressions.{Expr}
use Rattle.lsys_syntax.specs.Rules.{Production}
use Rattle.lsys_syntax.specs.Checks.{rule_formals, rule_many}
use Rattle.lsys_spec.specs.Systems.{System, Each, WellFormed, written}
use Rattle.lsys_spec.specs.Values.{Tree}
use Rattle.lsys_spec.specs.Bodies.{Body, body_of, templates, is_for, group_in, group, table_at}
use Rattle.lsys_spec.specs.Levels.{ModuleValue, LevelSymbol, Push, Pop, Module}
use Rattle.lsys_spec.specs.Choice.{Choice, NoRule, Chosen, Failed}
use Rattle.lsys_spec.specs.Meaning.{asked, filled_params, filled, filled_at, successor_by, replacement}
use Rattle.lsys_spec.proofs.LevelInduction.{ok_parts, ok_as_fault}
use Rattle.lsys_syntax.proofs.Wide.{is-small}
use Rattle.lsys_spec.proofs.Applied.{written-back}
use Rattle.lsys_spec.proofs.Shorts.{values_short}

pub axiom_short : (s : System) → WellFormed s → length s.axiom_string ≤ most_axiom_symbols
axiom_short s w = subst (λ xs. length xs ≤ most_axiom_symbols) (written-back s.axiom_string) (values_short 0 (written s.axiom_string) w.axiom_short)

templates_length : (fs : List NameText) (xs : List (S.Symbol Expr)) → length (templates fs xs) ≡ length xs
templates_length fs [] = refl
templates_length fs (S.Module m es ∷ xs) = ap suc (templates_length fs xs)
templates_length fs (S.Push ∷ xs) = ap suc (templates_length fs xs)
templates_length fs (S.Pop ∷ xs) = ap suc (templates_length fs xs)
templates_length fs (S.Cut ∷ xs) = ap suc (templates_length fs xs)

abbrev AreShort : List Body → Type 0
AreShort bs = Each (λ b. length b.successor ≤ most_successor_symbols) bs

group_short : (table : List ℕ) (m : ModuleName) (arity : ℕ) (ps : List Production) → Each (λ p. rule_many 0 p.rule ≡ None) ps → AreShort (group_in table m arity ps)
group_short table m arity [] h = tt
group_short table m arity (p ∷ ps) h =
    let few = (is-small 0 p.rule h.0).successor in
    by (is_for table m arity p) (omega (arith, few, templates_length (rule_formals p.rule) p.rule.successor)) (group_short table m arity ps h.1)
  where
    by : (b : Bool) → length (body_of p.rule).successor ≤ most_successor_symbols → AreShort (group_in table m arity ps)
        → AreShort (cond b (body_of p.rule ∷ group_in table m arity ps) (group_in table m arity ps))
    by true g k = (g, k)
    by false g k = k

filled_length : (xs : List (S.Symbol Tree)) (bound : List ℤ) (ys : List (S.Symbol ℤ)) → filled xs bound ≡ Ok ys → length ys ≡ length xs
filled_length [] bound ys h = let e : [] ≡ ys = cc in ap length (sym e)
filled_length (S.Module m ts ∷ xs) bound ys h =
    let z = ok_parts (filled_params ts bound) _ ys h in
    let r = ok_parts (filled xs bound) _ ys z.2 in
    let e : S.Module m z.0 ∷ r.0 ≡ ys = let i = r.2 in cc in ap length (sym e) ∙ ap suc (filled_length xs bound r.0 r.1)
filled_length (S.Push ∷ xs) bound ys h =
    let r = ok_parts (filled xs bound) _ ys h in
    let e : S.Push ∷ r.0 ≡ ys = let i = r.2 in cc in ap length (sym e) ∙ ap suc (filled_length xs bound r.0 r.1)
filled_length (S.Pop ∷ xs) bound ys h =
    let r = ok_parts (filled xs bound) _ ys h in
    let e : S.Pop ∷ r.0 ≡ ys = let i = r.2 in cc in ap length (sym e) ∙ ap suc (filled_length xs bound r.0 r.1)
filled_length (S.Cut ∷ xs) bound ys h =
    let r = ok_parts (filled xs bound) _ ys h in
    let e : S.Cut ∷ r.0 ≡ ys = let i = r.2 in cc in ap length (sym e) ∙ ap suc (filled_length xs bound r.0 r.1)

one_symbol : (y : S.Symbol ℤ) (ys : List (S.Symbol ℤ)) → y ∷ [] ≡ ys → length ys ≤ most_successor_symbols
one_symbol y ys e = let one : length (y ∷ []) ≡ length ys = ap length e in omega (arith, one)

chosen_short : (bs : List Body) (g : ℕ) (values : List ℤ) (ys : List (S.Symbol ℤ)) → AreShort bs → filled_at bs g values ≡ Ok ys → length ys ≤ most_successor_symbols
chosen_short [] g values ys h k = let i : [] ≡ ys = cc in let e : 0 ≡ length ys = ap length i in omega (arith, e)
chosen_short (b ∷ bs) zero values ys h k =
    let few : length b.successor ≤ most_successor_symbols = h.0 in omega (arith, few, filled_length b.successor values ys (ok_as_fault (filled b.successor values) ys k))
chosen_short (b ∷ bs) (suc g) values ys h k = chosen_short bs g values ys h.1 k

choice_short : (bs : List Body) (m : ModuleValue) (c : Choice) (ys : List (S.Symbol ℤ)) → AreShort bs → successor_by bs m c ≡ Ok ys → length ys ≤ most_successor_symbols
choice_short bs m NoRule ys h k = one_symbol (S.Module m.name m.params) ys cc
choice_short bs m (Chosen g values) ys h k = chosen_short bs g values ys h k
choice_short bs m (Failed f) ys h k = cc

pub replacement_short : (s : System) → WellFormed s → (t : ℕ) (x : List LevelSymbol) (p : ℕ) (a : LevelSymbol) (ys : List (S.Symbol ℤ)) → replacement s t x p a ≡ Ok ys → length ys ≤ most_successor_symbols
replacement_short s w t x p (Push l) ys h = one_symbol S.Push ys cc
replacement_short s w t x p (Pop l) ys h = one_symbol S.Pop ys cc
replacement_short s w t x p (Module l m) ys h =
    let bs : List Body = group s t m.name (length m.params) in
    choice_short bs m (asked s t bs x p l m).answer ys (group_short (table_at s.schedule t) m.name (length m.params) s.rules w.rules_short) h
