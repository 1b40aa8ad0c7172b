-- Names of the code as letters of the definitions.
use Rattle.std.specs.Prelude.{◌≡◌, ◌<◌, ◌≤◌, ℕ, suc, Bool, true, false, Option, Some, None, List, [], ◌∷◌, Vec, length, map, if◌then◌else◌}
use Rattle.std.specs.declared.alloc.Global.{Global}
use Rattle.lsys_syntax.specs.Strings.{ModuleName}
use Rattle.lsys_spec.specs.Systems.{System, comes_before, module_name_text}
use Rattle.lsys_module.specs.Views.{module_name}
use Rattle.lsys_bodies.specs.declared.body.Template.{Template}
use Rattle.lsys_bodies.specs.declared.rule.Rule.{Rule}
use Rattle.lsys_bodies.specs.Views.{as_production, template_symbol}
use Rattle.lsys_growth.specs.Growth.{all_rule_names, letters, most_letters, module_names, put_letters}

abbrev pub letters_in : Vec (List ℕ) Global → List ModuleName
letters_in v = map module_name v.items

-- the text of one letter's name comes before that of another's
abbrev pub letter_before : ModuleName → ModuleName → Bool
letter_before n m = comes_before (module_name_text n) (module_name_text m)

-- how many names stand before the first that comes after a name
abbrev pub letter_place : ModuleName → List ModuleName → ℕ
letter_place n [] = 0
letter_place n (m ∷ ms) = if letter_before n m then 0 else suc (letter_place n ms)

-- the names stand among the letters, or there would be too many
abbrev pub HasPut : List ModuleName → List ModuleName → List ModuleName → Bool → Type 0
HasPut old ns new true = (put_letters old ns ≡ new) × (length new ≤ most_letters)
HasPut old ns new false = most_letters < length (put_letters old ns)

-- names of the code are put among the letters
abbrev pub PutsNames : Vec (List ℕ) Global → List ModuleName → Vec (List ℕ) Global → Bool → Type 0
PutsNames old ns new done = HasPut (letters_in old) ns (letters_in new) done

-- the names in the code's rules, and in the templates of a successor
abbrev pub names_in_rules : List Rule → List ModuleName
names_in_rules rules = all_rule_names (map as_production rules)

abbrev pub names_in_templates : List Template → List ModuleName
names_in_templates templates = module_names (map template_symbol templates)

-- all letters of a system, or none where there are too many
abbrev pub AreLettersOf : System → Option (Vec (List ℕ) Global) → Type 0
AreLettersOf s (Some found) = (letters_in found ≡ letters s) × (length found.items ≤ most_letters)
AreLettersOf s None = most_letters < length (letters s)
