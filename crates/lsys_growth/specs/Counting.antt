-- What is counted in the code's strings.
use Rattle.std.specs.Prelude.{◌≡◌, ◌<◌, ℕ, suc, ℤ, Bool, false, Option, Some, None, List, [], ◌∷◌, ◌+◌, Vec, filter, length, map, option_map}
use Rattle.std.specs.declared.alloc.Global.{Global}
use Rattle.lsys_syntax.specs.Rules.{Production}
use Rattle.lsys_syntax.specs.Strings.{ModuleName}
use Rattle.lsys_syntax.specs.Strings as S
use Rattle.lsys_spec.specs.Systems.{System, same_name}
use Rattle.lsys_spec.specs.Bodies.{is_for, table_at}
use Rattle.lsys_module.specs.Views.{module_name, string_of}
use Rattle.lsys_module.specs.declared.symbol.Symbol.{Symbol}
use Rattle.lsys_bodies.specs.declared.body.Template.{Template}
use Rattle.lsys_bodies.specs.Views.{template_symbol}
use Rattle.lsys_growth.specs.Capped.{capped}
use Rattle.lsys_growth.specs.Matrices.{place}
use Rattle.lsys_growth.specs.Growth.{letter_count}
use Rattle.lsys_growth.specs.Counts.{branch_count, count_at, given}

-- how often a letter stands in a string, or `[` for none
abbrev pub count_of_what : {P : Type 0} → Option ModuleName → List (S.Symbol P) → ℕ
count_of_what None xs = branch_count xs
count_of_what (Some n) xs = letter_count n xs

abbrev pub is_counted : Option ModuleName → ModuleName → Bool
is_counted None m = false
is_counted (Some n) m = same_name n m

-- a letter, or `[` for none
abbrev pub letter_alone : Option ModuleName → List (S.Symbol ℤ)
letter_alone None = S.Push ∷ []
letter_alone (Some n) = S.Module n [] ∷ []

-- how often a name of the code stands in the templates of a successor, and in a string of one name
abbrev pub count_in_templates : Option (List ℕ) → List Template → ℕ
count_in_templates letter templates =
    count_of_what (option_map module_name letter) (map template_symbol templates)

abbrev pub count_alone : Option (List ℕ) → Option (List ℕ) → ℕ
count_alone letter symbol =
    count_of_what (option_map module_name letter) (letter_alone (option_map module_name symbol))

-- the productions of a level's table for a letter
abbrev pub letter_rules : System → ℕ → List ℕ → List Production
letter_rules s t name = filter (is_for (table_at s.schedule t) (module_name name) 0) s.rules

-- what a letter gives in the step from a level, or `[` for none
abbrev pub given_for : System → ℕ → Option ModuleName → List (S.Symbol ℤ)
given_for s t None = S.Push ∷ []
given_for s t (Some n) = given s t n

-- the counts of a string stand after the old entries
pub record AddsCounts {P : Type 0} (ns : List ModuleName) (xs : List (S.Symbol P)) (old new : List (Option ℕ)) : Type 0 where
  pub len : length new ≡ length old + suc (length ns)
  pub before : (i : ℕ) → i < length old → place new i ≡ place old i
  pub cells : (j : ℕ) → j < suc (length ns) → place new (length old + j) ≡ capped (count_at ns j xs)

-- so it is with the code's strings: of symbols, of templates, of one name or `[`, and of what a
-- letter gives
abbrev pub AddsString : List (List ℕ) → List Symbol → Vec (Option ℕ) Global
    → Vec (Option ℕ) Global → Type 0
AddsString letters symbols old new =
    AddsCounts (map module_name letters) (string_of symbols) old.items new.items

abbrev pub AddsTemplates : List (List ℕ) → List Template → Vec (Option ℕ) Global
    → Vec (Option ℕ) Global → Type 0
AddsTemplates letters templates old new =
    AddsCounts (map module_name letters) (map template_symbol templates) old.items new.items

abbrev pub AddsAlone : List (List ℕ) → Option (List ℕ) → Vec (Option ℕ) Global
    → Vec (Option ℕ) Global → Type 0
AddsAlone letters symbol old new =
    AddsCounts (map module_name letters) (letter_alone (option_map module_name symbol)) old.items new.items

abbrev pub AddsGiven : List (List ℕ) → System → ℕ → Option (List ℕ) → Vec (Option ℕ) Global
    → Vec (Option ℕ) Global → Type 0
AddsGiven letters s t letter old new =
    AddsCounts (map module_name letters) (given_for s t (option_map module_name letter))
    old.items new.items
