-- The parts of a well-formed and well-spelled system, and the whole from them.
use Rattle.std.proofs.Common.{◌≡◌, ℕ, true, not, None, List, [], ◌++◌, ◌+◌, ◌<◌, ◌≤◌, length, map, ℤ, bytes_eq}
use Rattle.lsys_syntax.specs.Limits.{number_bound, most_rules, most_tables, most_ignored, most_schedule_words, greatest_version, most_axiom_symbols, most_successor_symbols}
use Rattle.lsys_syntax.specs.Pieces.{IsWordText}
use Rattle.lsys_syntax.specs.Strings.{Symbol, ModuleName, balanced, EachOf, IsModuleName, IsSymbol, IsParam}
use Rattle.lsys_syntax.specs.Rules.{Rule, Production, IsRule, IsProduction}
use Rattle.lsys_syntax.specs.Checks.{rule_many, axiom_many}
use Rattle.lsys_syntax.specs.Commands.{IsHomomorphism, Numbering, by_place}
use Rattle.lsys_laws.specs.Sessions.{IsWell}
use Rattle.lsys_spec.specs.Systems.{System, Own, in_order, depth_bound, Homomorphism, is_table, tables, clash, same_name, written, IsSound, Each, Apart}

abbrev pub IsShort : Rule → Type 0
IsShort r = rule_many 0 r ≡ None

abbrev pub IsImage : Homomorphism → Type 0
IsImage h = IsWordText h.label × IsRule h.rule × IsHomomorphism h.rule

pub record OfRules (rs : List Production) (hs : List Homomorphism) : Type 0 where
  pub labels : Apart bytes_eq (map (λ p. p.label) rs ++ map (λ h. h.label) hs)
  pub groups : Apart clash rs
  pub rules : Each IsProduction rs
  pub homomorphisms : Each IsImage hs
  pub rules_short : Each (λ p. IsShort p.rule) rs
  pub homomorphisms_short : Each (λ h. IsShort h.rule) hs
  pub rules_sound : Each (λ p. IsSound p.rule) rs
  pub homomorphisms_sound : Each (λ h. IsSound h.rule) hs
  pub few_tables : length (tables rs) ≤ most_tables
  pub few_rules : length rs + length hs ≤ most_rules
  pub successors_few : Each (λ p. length p.rule.successor ≤ most_successor_symbols) rs

pub record OfAxiom (xs : List (Symbol ℤ)) : Type 0 where
  pub symbols : EachOf (IsSymbol IsParam) xs
  pub balance : balanced 0 xs ≡ true
  pub short : axiom_many 0 (written xs) ≡ None
  pub few : length xs ≤ most_axiom_symbols

pub record OfIgnored (ns : List ModuleName) : Type 0 where
  pub names : EachOf IsModuleName ns
  pub once : Apart same_name ns
  pub few : length ns ≤ most_ignored

pub record OfSchedule (rs : List Production) (ws : List (List ℕ)) : Type 0 where
  pub words : EachOf IsWordText ws
  pub some_word : 0 < length ws
  pub scheduled : Each (λ w. is_table (tables rs) w ≡ true) ws
  pub few : length ws ≤ most_schedule_words

pub record OfOwn (rs : List Production) (os : List Own) : Type 0 where
  pub tabled : Each (λ o. is_table (tables rs) o.table ≡ true) os
  pub ordered : Apart (λ o q. not (in_order o q)) os
  pub few : Each (λ o. length o.names ≤ most_ignored) os
  pub words : Each (λ o. IsWordText o.table) os
  pub names : Each (λ o. EachOf IsModuleName o.names) os
  pub once : Each (λ o. Apart same_name o.names) os

-- the version, and what depends on it
pub record OfVersion (version : ℕ) (numbering : Numbering) (os : List Own) (depth : ℕ) : Type 0 where
  pub some : 1 ≤ version
  pub known : version ≤ greatest_version
  pub first : version ≡ 1 → (os ≡ []) × (numbering ≡ by_place)
  pub shallow : depth ≤ depth_bound version

pub record Parts (s : System) : Type 0 where
  pub of_rules : OfRules s.rules s.homomorphisms
  pub of_axiom : OfAxiom s.axiom_string
  pub of_ignored : OfIgnored s.ignored
  pub of_schedule : OfSchedule s.rules s.schedule
  pub seed : s.seed < number_bound
  pub of_own : OfOwn s.rules s.own
  pub of_version : OfVersion s.version s.numbering s.own s.depth

pub parts : (s : System) → IsWell s → Parts s
parts s w = let f = w.0 in let v = w.1 in record {
  of_rules = record {
    labels = f.labels;
    groups = f.groups;
    rules = v.rules;
    homomorphisms = v.homomorphisms;
    rules_short = f.rules_short;
    homomorphisms_short = f.homomorphisms_short;
    rules_sound = v.rules_sound;
    homomorphisms_sound = v.homomorphisms_sound;
    few_tables = f.few_tables;
    few_rules = f.few_rules;
    successors_few = v.successors_few;
  };
  of_axiom = record { symbols = v.axiom_symbols; balance = v.axiom_balanced; short = f.axiom_short; few = v.axiom_few };
  of_ignored = record { names = v.ignored_names; once = v.ignored_once; few = f.few_ignored };
  of_schedule = record { words = v.words; some_word = f.some_word; scheduled = f.scheduled; few = f.few_words };
  seed = v.small_seed;
  of_own = record { tabled = f.own_tabled; ordered = f.own_ordered; few = f.own_few; words = v.own_words; names = v.own_names; once = v.own_once };
  of_version = record { some = f.some_version; known = f.known_version; first = f.first_version; shallow = f.shallow };
}

pub whole : (s : System)
    → OfRules s.rules s.homomorphisms → OfAxiom s.axiom_string → OfIgnored s.ignored → OfSchedule s.rules s.schedule
    → s.seed < number_bound → OfOwn s.rules s.own → OfVersion s.version s.numbering s.own s.depth → IsWell s
whole s r a i c seed o v = (
  record {
    labels = r.labels;
    groups = r.groups;
    some_word = c.some_word;
    scheduled = c.scheduled;
    rules_short = r.rules_short;
    homomorphisms_short = r.homomorphisms_short;
    axiom_short = a.short;
    few_tables = r.few_tables;
    few_rules = r.few_rules;
    few_words = c.few;
    few_ignored = i.few;
    shallow = v.shallow;
    some_version = v.some;
    known_version = v.known;
    first_version = v.first;
    own_tabled = o.tabled;
    own_ordered = o.ordered;
    own_few = o.few;
  },
  record {
    rules = r.rules;
    homomorphisms = r.homomorphisms;
    rules_sound = r.rules_sound;
    homomorphisms_sound = r.homomorphisms_sound;
    axiom_symbols = a.symbols;
    axiom_balanced = a.balance;
    ignored_names = i.names;
    ignored_once = i.once;
    words = c.words;
    small_seed = seed;
    axiom_few = a.few;
    successors_few = r.successors_few;
    own_words = o.words;
    own_names = o.names;
    own_once = o.once;
  },
)
