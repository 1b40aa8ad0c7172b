-- The letters of the levels of a system in which every module of a letter is rewritten alike (ABOP 1.2, 1.9), counted.
use Rattle.std.specs.Prelude.{ℕ, zero, suc, Bool, true, false, Option, Some, None, Result, Ok, Err, List, [], ◌∷◌, ◌++◌, ◌+◌, ◌^◌, ◌&&◌, nat_lt, length, map, filter, flat_map, codes, decimal, if◌then◌else◌}
use Rattle.lsys_syntax.specs.Strings.{ModuleName}
use Rattle.lsys_syntax.specs.Strings as S
use Rattle.lsys_syntax.specs.Rules.{Rule, Production}
use Rattle.lsys_spec.specs.Systems.{System, same_name, module_name_text, comes_before}
use Rattle.lsys_spec.specs.Values.{◌and_then◌}
use Rattle.lsys_spec.specs.Levels.{LevelSymbol, plain}
use Rattle.lsys_spec.specs.Walks.{any_holds}
use Rattle.lsys_spec.specs.Meaning.{LevelRefusal, first_level, next_level}
use Rattle.lsys_spec.specs.Refusals.{line_feed}

-- 1. levels, on past the depth

abbrev pub level_on : System → ℕ → Result (List LevelSymbol) LevelRefusal
level_on s zero = Ok (first_level s)
level_on s (suc t) = level_on s t and_then next_level s t

-- 2. the class of systems whose growth is told

abbrev pub is_nil : {A : Type 0} → List A → Bool
is_nil [] = true
is_nil (x ∷ xs) = false

abbrev pub is_none : {A : Type 0} → Option A → Bool
is_none None = true
is_none (Some a) = false

-- neither a cut nor a module with parameters
abbrev pub is_bare : {P : Type 0} → List (S.Symbol P) → Bool
is_bare [] = true
is_bare (S.Module n ps ∷ xs) = is_nil ps && is_bare xs
is_bare (S.Push ∷ xs) = is_bare xs
is_bare (S.Pop ∷ xs) = is_bare xs
is_bare (S.Cut ∷ xs) = false

-- without contexts, formals, condition and weight, and of a bare successor
abbrev pub is_plain_rule : Rule → Bool
is_plain_rule r = is_nil r.left && (is_nil r.right && (is_nil r.formals && (is_none r.condition && (is_none r.weight && is_bare r.successor))))

abbrev pub all_plain : List Production → Bool
all_plain [] = true
all_plain (p ∷ ps) = is_plain_rule p.rule && all_plain ps

abbrev pub in_class : System → Bool
in_class s = is_bare s.axiom_string && all_plain s.rules

-- 3. letters

abbrev pub module_names : {P : Type 0} → List (S.Symbol P) → List ModuleName
module_names [] = []
module_names (S.Module n ps ∷ xs) = n ∷ module_names xs
module_names (S.Push ∷ xs) = module_names xs
module_names (S.Pop ∷ xs) = module_names xs
module_names (S.Cut ∷ xs) = module_names xs

-- the names of the predecessor and of the successor
abbrev pub rule_names : Rule → List ModuleName
rule_names r = r.name ∷ module_names r.successor

abbrev pub all_rule_names : List Production → List ModuleName
all_rule_names [] = []
all_rule_names (p ∷ ps) = rule_names p.rule ++ all_rule_names ps

abbrev pub among : List ModuleName → ModuleName → Bool
among ns n = any_holds (λ m. same_name m n) ns

-- a name before the first that comes after it in the order of their bytes
abbrev pub put_before : ModuleName → List ModuleName → List ModuleName
put_before n [] = n ∷ []
put_before n (m ∷ ms) = if comes_before (module_name_text n) (module_name_text m) then n ∷ m ∷ ms else m ∷ put_before n ms

-- a name, which stands there once
abbrev pub put_letter : List ModuleName → ModuleName → List ModuleName
put_letter ms n = if among ms n then ms else put_before n ms

abbrev pub put_letters : List ModuleName → List ModuleName → List ModuleName
put_letters ms [] = ms
put_letters ms (n ∷ ns) = put_letters (put_letter ms n) ns

-- the letters of a system, each once, in the order of their bytes
abbrev pub letters : System → List ModuleName
letters s = put_letters [] (module_names s.axiom_string ++ all_rule_names s.rules)

-- 4. counts

abbrev pub one_if : Bool → ℕ
one_if b = if b then 1 else 0

-- how often a letter stands in a string
abbrev pub letter_count : {P : Type 0} → ModuleName → List (S.Symbol P) → ℕ
letter_count n [] = 0
letter_count n (S.Module m ps ∷ xs) = one_if (same_name n m) + letter_count n xs
letter_count n (S.Push ∷ xs) = letter_count n xs
letter_count n (S.Pop ∷ xs) = letter_count n xs
letter_count n (S.Cut ∷ xs) = letter_count n xs

pub record LetterCount : Type 0 where
  pub letter : ModuleName
  pub times : ℕ

-- how long a level is, brackets counted, and how often each letter stands in it that stands in it at all
pub record Census : Type 0 where
  pub symbols : ℕ
  pub counts : List LetterCount

abbrev pub stands : LetterCount → Bool
stands c = nat_lt 0 c.times

abbrev pub count_in : {P : Type 0} → List (S.Symbol P) → ModuleName → LetterCount
count_in xs n = record { letter = n; times = letter_count n xs }

abbrev pub census : {P : Type 0} → List ModuleName → List (S.Symbol P) → Census
census ns xs = record { symbols = length xs; counts = filter stands (map (count_in xs) ns) }

-- 5. growth

pub data GrowthFault : Type 0 where
  outside_class : GrowthFault
  over_letters : GrowthFault
  over_numbers : GrowthFault

abbrev pub most_letters : ℕ
most_letters = 63

-- the least length that is too great
abbrev pub length_bound : ℕ
length_bound = 2 ^ 128

abbrev pub census_within : Census → Result Census GrowthFault
census_within c = if nat_lt c.symbols length_bound then Ok c else Err over_numbers

-- (In the class each level is there.)
abbrev pub level_counted : List ModuleName → Result (List LevelSymbol) LevelRefusal → Result Census GrowthFault
level_counted ns (Ok x) = census_within (census ns (map plain x))
level_counted ns (Err r) = Err outside_class

-- the letters of a level, counted, or why they aren't: what is tried first is the refusal
abbrev pub growth_at : System → ℕ → Result Census GrowthFault
growth_at s t =
    if in_class s then if nat_lt most_letters (length (letters s)) then Err over_letters else level_counted (letters s) (level_on s t)
    else Err outside_class

-- 6. as texts

abbrev pub letter_line : LetterCount → List ℕ
letter_line c = module_name_text c.letter ++ 32 ∷ (decimal c.times ++ line_feed)

abbrev pub growth_text : Census → List ℕ
growth_text c = codes "growth " ++ (decimal c.symbols ++ (line_feed ++ flat_map letter_line c.counts))

abbrev pub growth_fault_text : GrowthFault → List ℕ
growth_fault_text outside_class = codes "growth"
growth_fault_text over_letters = codes "letters"
growth_fault_text over_numbers = codes "overflow"
