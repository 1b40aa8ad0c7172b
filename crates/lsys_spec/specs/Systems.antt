-- A system, as the edits leave it, and when it is well formed.
use Rattle.std.specs.Prelude.{◌≡◌, ℕ, Bool, true, false, not, Option, Some, None, List, [], ◌∷◌, ◌++◌, ◌==◌, ◌&&◌, ◌||◌, ◌+◌, ◌≤◌, ◌<◌, nat_lt, length, map, codes, bytes_eq, if◌then◌else◌, ℤ}
use Rattle.lsys_syntax.specs.Limits.{number_bound, nesting_bound, most_rules, most_tables, most_ignored, most_schedule_words, greatest_version, most_depth, most_depth_of_two, most_axiom_symbols, most_successor_symbols}
use Rattle.lsys_syntax.specs.Pieces.{token_text, IsWordText}
use Rattle.lsys_syntax.specs.Strings.{Symbol, Signed, signed_of, Module, Push, Pop, Cut, ModuleName, name_kind, balanced, EachOf, IsModuleName, IsSymbol, IsParam}
use Rattle.lsys_syntax.specs.Expressions.{Expr}
use Rattle.lsys_syntax.specs.Rules.{Rule, Production, IsRule, IsProduction, rule_nesting}
use Rattle.lsys_syntax.specs.Checks.{rule_unknown, rule_repeated, rule_many, axiom_many}
use Rattle.lsys_syntax.specs.Commands.{Lattice, square, ListKind, Numbering, by_place, IsHomomorphism}

pub record Homomorphism : Type 0 where
  pub label : List ℕ
  pub rule : Rule

-- A table's own list: names to ignore, or names to consider, which are all that isn't ignored then.
pub record Own : Type 0 where
  pub table : List ℕ
  pub kind : ListKind
  pub names : List ModuleName

-- The own lists stand in the order of their tables' words, each table's at most once: a finite map.
-- The axiom is kept as it was written, its cuts included; the rules stand in the order in which they are tried.
pub record System : Type 0 where
  pub axiom_string : List (Symbol ℤ)
  pub rules : List Production
  pub schedule : List (List ℕ)
  pub ignored : List ModuleName
  pub homomorphisms : List Homomorphism
  pub seed : ℕ
  pub depth : ℕ
  pub lattice : Lattice
  pub version : ℕ
  pub numbering : Numbering
  pub own : List Own

abbrev pub main : List ℕ
main = codes "main"

abbrev pub opening : System
opening = record {
  axiom_string = [];
  rules = [];
  schedule = main ∷ [];
  ignored = [];
  homomorphisms = [];
  seed = 0;
  depth = 0;
  lattice = square;
  version = 1;
  numbering = by_place;
  own = [];
}

-- the depth that a system of this version may have
abbrev pub depth_bound : ℕ → ℕ
depth_bound version = if version == 1 then most_depth else most_depth_of_two

-- a word comes before another in the order of their bytes
abbrev pub comes_before : List ℕ → List ℕ → Bool
comes_before a [] = false
comes_before [] (y ∷ b) = true
comes_before (x ∷ a) (y ∷ b) = nat_lt x y || ((x == y) && comes_before a b)

abbrev pub in_order : Own → Own → Bool
in_order o q = comes_before o.table q.table

abbrev pub any : {A : Type 0} → (A → Bool) → List A → Bool
any p [] = false
any p (x ∷ xs) = p x || any p xs

abbrev pub module_name_text : ModuleName → List ℕ
module_name_text n = token_text (name_kind n)

abbrev pub same_name : ModuleName → ModuleName → Bool
same_name m n = bytes_eq (module_name_text m) (module_name_text n)

abbrev pub is_table : List (List ℕ) → List ℕ → Bool
is_table ts w = any (λ t. bytes_eq t w) ts

abbrev pub with_table : Bool → List (List ℕ) → List ℕ → List (List ℕ)
with_table true ts t = ts
with_table false ts t = ts ++ t ∷ []

abbrev pub tables_onto : List (List ℕ) → List Production → List (List ℕ)
tables_onto ts [] = ts
tables_onto ts (p ∷ ps) = tables_onto (with_table (is_table ts p.table) ts p.table) ps

-- main, and the tables that have a rule
abbrev pub tables : List Production → List (List ℕ)
tables ps = tables_onto (main ∷ []) ps

abbrev pub is_weighted : Option Expr → Bool
is_weighted None = false
is_weighted (Some e) = true

abbrev pub differ : Bool → Bool → Bool
differ true b = not b
differ false b = b

-- of one table, letter and number of formals, and one has a weight where the other has none
abbrev pub clash : Production → Production → Bool
clash q p = bytes_eq q.table p.table && same_name q.rule.name p.rule.name && (length q.rule.formals == length p.rule.formals) && differ (is_weighted q.rule.weight) (is_weighted p.rule.weight)

-- the axiom's symbols as they would be written
abbrev pub written : List (Symbol ℤ) → List (Symbol Signed)
written [] = []
written (Module n zs ∷ xs) = Module n (map signed_of zs) ∷ written xs
written (Push ∷ xs) = Push ∷ written xs
written (Pop ∷ xs) = Pop ∷ written xs
written (Cut ∷ xs) = Cut ∷ written xs

abbrev pub Each : {A : Type 0} → (A → Type 0) → List A → Type 0
Each P [] = Unit {0}
Each P (x ∷ xs) = P x × Each P xs

-- no earlier and later element pass together
abbrev pub Apart : {A : Type 0} → (A → A → Bool) → List A → Type 0
Apart f [] = Unit {0}
Apart f (x ∷ xs) = Each (λ y. f x y ≡ false) xs × Apart f xs

-- What the language says of a system, and every accepted edit keeps: no label stands twice, no group is mixed, the
-- schedule has some word and names tables alone, own lists are those of tables, one of version 1 has none and numbers by
-- places, and no limit is passed.
pub record WellFormed (s : System) : Type 0 where
  pub labels : Apart bytes_eq (map (λ p. p.label) s.rules ++ map (λ h. h.label) s.homomorphisms)
  pub groups : Apart clash s.rules
  pub some_word : 0 < length s.schedule
  pub scheduled : Each (λ w. is_table (tables s.rules) w ≡ true) s.schedule
  pub rules_short : Each (λ p. rule_many 0 p.rule ≡ None) s.rules
  pub homomorphisms_short : Each (λ h. rule_many 0 h.rule ≡ None) s.homomorphisms
  pub axiom_short : axiom_many 0 (written s.axiom_string) ≡ None
  pub few_tables : length (tables s.rules) ≤ most_tables
  pub few_rules : length s.rules + length s.homomorphisms ≤ most_rules
  pub few_words : length s.schedule ≤ most_schedule_words
  pub few_ignored : length s.ignored ≤ most_ignored
  pub shallow : s.depth ≤ depth_bound s.version
  pub some_version : 1 ≤ s.version
  pub known_version : s.version ≤ greatest_version
  pub first_version : s.version ≡ 1 → (s.own ≡ []) × (s.numbering ≡ by_place)
  pub own_tabled : Each (λ o. is_table (tables s.rules) o.table ≡ true) s.own
  pub own_ordered : Apart (λ o q. not (in_order o q)) s.own
  pub own_few : Each (λ o. length o.names ≤ most_ignored) s.own

-- The names in the rule's expressions are its formals, none of these stands twice, and its expressions are nested within the bound.
pub record IsSound (r : Rule) : Type 0 where
  pub known : rule_unknown 0 r ≡ None
  pub once : rule_repeated 0 r ≡ None
  pub nested : rule_nesting r ≤ nesting_bound

-- What else holds of a system that was made by lines: its names, words and numbers have the forms of the language,
-- brackets are balanced, its rules are sound, and its strings are as short as the limits say. So it can be printed and
-- read back.
pub record WellSpelled (s : System) : Type 0 where
  pub rules : Each IsProduction s.rules
  pub homomorphisms : Each (λ h. IsWordText h.label × IsRule h.rule × IsHomomorphism h.rule) s.homomorphisms
  pub rules_sound : Each (λ p. IsSound p.rule) s.rules
  pub homomorphisms_sound : Each (λ h. IsSound h.rule) s.homomorphisms
  pub axiom_symbols : EachOf (IsSymbol IsParam) s.axiom_string
  pub axiom_balanced : balanced 0 s.axiom_string ≡ true
  pub ignored_names : EachOf IsModuleName s.ignored
  pub ignored_once : Apart same_name s.ignored
  pub words : EachOf IsWordText s.schedule
  pub small_seed : s.seed < number_bound
  pub axiom_few : length s.axiom_string ≤ most_axiom_symbols
  pub successors_few : Each (λ p. length p.rule.successor ≤ most_successor_symbols) s.rules
  pub own_words : Each (λ o. IsWordText o.table) s.own
  pub own_names : Each (λ o. EachOf IsModuleName o.names) s.own
  pub own_once : Each (λ o. Apart same_name o.names) s.own
