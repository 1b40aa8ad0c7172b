-- The limit that an option names is within its bounds.
use Rattle.std.proofs.Common.{◌≡◌, ◌≤◌, ◌&&◌, ℕ, Bool, true, false, Option, Some, None, List, [], ◌∷◌, codes, refl, arith, nat_le, nat_lt, if◌then◌else◌}
use Rattle.std.specs.Prelude.{flat_map, option_map, option_and_then}
use Rattle.std.specs.Option.{IfSome}
use Rattle.std.specs.Str.{bytes_eq}
use Rattle.std.proofs.lemmas.Bool.Decides.{nat_tests}
use Rattle.lsys_syntax.specs.Limits.{greatest_module_limit, usual_module_limit}
use Rattle.lsys_cli.specs.Words.{number_written, limit_of, setting_of, in_two, only_setting, together, options_spelled, options_by, HasLimit}
use Rattle.lsys_cli.specs.declared.setting.Setting.{Setting}
use Rattle.lsys_cli.specs.declared.setting.Setting.TheVariants.{Limit, Sample}

abbrev IsBounded : Setting → Type 0
IsBounded (Limit n) = (1 ≤ n) × (n ≤ greatest_module_limit)
IsBounded (Sample n) = Unit {0}

usual : HasLimit (record { limit = usual_module_limit; sample = None })
usual = (omega arith, omega arith)

limit_at : (n : ℕ) (b : Bool) → (nat_lt 0 n && nat_le n greatest_module_limit) ≡ b → IfSome (if b then Some (Limit n) else None) IsBounded
limit_at n true e =
    let low : 1 ≤ n = grind (arith, nat_tests) in
    let high : n ≤ greatest_module_limit = grind (arith, nat_tests) in
    (low, high)
limit_at n false e = tt

set_at : (a b : Bool) (o : Option ℕ) → IfSome (if a then option_and_then limit_of o else if b then option_map Sample o else None) IsBounded
set_at true b None = tt
set_at true b (Some n) = limit_at n (nat_lt 0 n && nat_le n greatest_module_limit) refl
set_at false true None = tt
set_at false true (Some n) = tt
set_at false false o = tt

set : (name word : List ℕ) → IfSome (setting_of name word) IsBounded
set name word = set_at (bytes_eq name (codes "--limit")) (bytes_eq name (codes "--sample")) (number_written word)

alone_at : (s : Setting) → IsBounded s → HasLimit (only_setting s)
alone_at (Limit n) h = h
alone_at (Sample n) h = usual

together_at : (s t : Setting) → IsBounded s → IsBounded t → IfSome (together s t) HasLimit
together_at (Limit n) (Limit k) h g = tt
together_at (Limit n) (Sample k) h g = h
together_at (Sample n) (Limit k) h g = g
together_at (Sample n) (Sample k) h g = tt

one : (o : Option Setting) → IfSome o IsBounded → IfSome (option_map only_setting o) HasLimit
one None h = tt
one (Some s) h = alone_at s h

two : (o p : Option Setting) → IfSome o IsBounded → IfSome p IsBounded → IfSome (option_and_then (λ first. option_and_then (together first) p) o) HasLimit
two None p h g = tt
two (Some s) None h g = tt
two (Some s) (Some t) h g = together_at s t h g

all : (words : List (List ℕ)) → IfSome (options_spelled words) HasLimit
all [] = usual
all (a ∷ []) = tt
all (a ∷ n ∷ []) = one (setting_of a n) (set a n)
all (a ∷ n ∷ b ∷ []) = tt
all (a ∷ n ∷ b ∷ k ∷ []) = two (setting_of a n) (setting_of b k) (set a n) (set b k)
all (a ∷ n ∷ b ∷ k ∷ z ∷ zs) = tt

pub bounded : (words : List (List ℕ)) → IfSome (options_by words) HasLimit
bounded words = all (flat_map in_two words)
