-- The formals of a rule: how they are gathered, and how many there are.
use Rattle.std.proofs.Common.{◌≡◌, ℕ, ◌+◌, ◌*◌, ◌≤◌, List, [], ◌∷◌, ◌++◌, length, map, ap, sym, ◌∙◌, arith}
use Rattle.std.proofs.lemmas.List.{length-append, length-map}
use Rattle.lsys_text.specs.Tokens.{name_of}
use Rattle.lsys_syntax.specs.Limits.{most_params}
use Rattle.lsys_syntax.specs.Tokens.{NameText}
use Rattle.lsys_syntax.specs.Strings.{Symbol, Module, Push, Pop, Cut}
use Rattle.lsys_syntax.specs.Checks.{all_formals, rule_formals}
use Rattle.lsys_syntax.specs.Rules.{Rule}
use Rattle.lsys_syntax.specs.Smalls.{HaveFewParams, IsSmall}

few-more : (a b n : ℕ) → a ≤ most_params → b ≤ most_params * n → a + b ≤ most_params * (n + 1)
few-more a b n h i = omega arith

pub few-formals : (xs : List (Symbol NameText)) → HaveFewParams xs → length (all_formals xs) ≤ most_params * length xs
few-formals [] h = omega arith
few-formals (Module n fs ∷ xs) h =
    let i = few-formals xs h.1 in
    let l : length (fs ++ all_formals xs) ≡ length fs + length (all_formals xs) = length-append fs (all_formals xs) in
    omega (arith, l, i, h.0)
few-formals (Push ∷ xs) h = let i = few-formals xs h in omega (arith, i)
few-formals (Pop ∷ xs) h = let i = few-formals xs h in omega (arith, i)
few-formals (Cut ∷ xs) h = let i = few-formals xs h in omega (arith, i)

-- A rule that passes no limit has at most 200 formals.
pub few-in-all : (r : Rule) → IsSmall r → length (rule_formals r) ≤ 256
few-in-all r h =
    let l = few-formals r.left h.left_params in
    let m = few-formals r.right h.right_params in
    let a : length (rule_formals r) ≡ length (all_formals r.left) + length (r.formals ++ all_formals r.right) = length-append (all_formals r.left) (r.formals ++ all_formals r.right) in
    let b : length (r.formals ++ all_formals r.right) ≡ length r.formals + length (all_formals r.right) = length-append r.formals (all_formals r.right) in
    omega (arith, l, m, a, b, h.left, h.right, h.formals)

pub few-names : (r : Rule) (names : List (List ℕ)) → map name_of names ≡ rule_formals r → IsSmall r → length names ≤ 256
few-names r names e h =
    let few = few-in-all r h in
    let l : length names ≡ length (rule_formals r) = sym (length-map names name_of) ∙ ap length e in
    omega (arith, few, l)
