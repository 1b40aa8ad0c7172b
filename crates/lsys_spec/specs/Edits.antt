-- What a command makes of a system, or why it is refused. A place is a number of tokens of the command's line, from 0.
use Rattle.std.specs.Prelude.{ℕ, Bool, true, false, not, Option, Some, None, Result, Ok, Err, List, [], ◌∷◌, ◌++◌, ◌==◌, ◌&&◌, ◌||◌, ◌+◌, nat_lt, length, map, bytes_eq, ℤ, if◌then◌else◌}
use Rattle.lsys_syntax.specs.Limits.{most_rules, most_tables, most_ignored, most_schedule_words, greatest_version}
use Rattle.lsys_syntax.specs.Strings.{Symbol, ModuleName, Module, Push, Pop, Cut, Signed, signed_value}
use Rattle.lsys_syntax.specs.Rules.{Rule, Production}
use Rattle.lsys_syntax.specs.Checks.{rule_unknown, rule_repeated, rule_many, axiom_many}
use Rattle.lsys_syntax.specs.Commands.{Command, set_axiom, put_production, drop_rule, set_ignored, set_schedule, set_seed, set_depth, set_lattice, put_homomorphism, print_string, ListKind, set_version, set_own, drop_own, set_numbering}
use Rattle.lsys_spec.specs.Systems.{System, Homomorphism, Own, depth_bound, in_order, main, any, same_name, is_table, tables, clash}

pub data Why : Type 0 where
  wrong_version : Why
  unknown_name : Why
  duplicate : Why
  mixed : Why
  wrong_label : Why
  wrong_table : Why
  wrong_level : Why
  many : Why

pub record Refusal : Type 0 where
  pub why : Why
  pub place : ℕ

-- the first place, counted from n, of an element that passes
abbrev pub first_place : {A : Type 0} → (A → Bool) → ℕ → List A → Option ℕ
first_place p n [] = None
first_place p n (x ∷ xs) = if p x then Some n else first_place p (n + 1) xs

abbrev pub or_else : Option Refusal → Option Refusal → Option Refusal
or_else (Some r) s = Some r
or_else None s = s

abbrev pub refused_if : Bool → Why → ℕ → Option Refusal
refused_if true why place = Some (record { why = why; place = place })
refused_if false why place = None

abbrev pub refused_at : Option ℕ → Why → Option Refusal
refused_at None why = None
refused_at (Some place) why = Some (record { why = why; place = place })

abbrev pub unless_seen : Bool → ModuleName → List ModuleName → List ModuleName
unless_seen true x rest = rest
unless_seen false x rest = x ∷ rest

-- each once, at its first place
abbrev pub once : List ModuleName → List ModuleName → List ModuleName
once seen [] = []
once seen (x ∷ xs) = unless_seen (any (λ y. same_name y x) seen) x (once (seen ++ x ∷ []) xs)

abbrev pub same_label : Production → Production → Bool
same_label q p = bytes_eq q.label p.label

-- A label that stands keeps its place, and a new one goes last.
abbrev pub put : Production → List Production → List Production
put p [] = p ∷ []
put p (q ∷ qs) = if same_label q p then p ∷ qs else q ∷ put p qs

abbrev pub put_hom : Homomorphism → List Homomorphism → List Homomorphism
put_hom h [] = h ∷ []
put_hom h (q ∷ qs) = if bytes_eq q.label h.label then h ∷ qs else q ∷ put_hom h qs

abbrev pub without_rule : List ℕ → List Production → List Production
without_rule l [] = []
without_rule l (q ∷ qs) = if bytes_eq q.label l then qs else q ∷ without_rule l qs

abbrev pub without_hom : List ℕ → List Homomorphism → List Homomorphism
without_hom l [] = []
without_hom l (q ∷ qs) = if bytes_eq q.label l then qs else q ∷ without_hom l qs

-- A table that has a list gets the new one, and another one's stands in its order.
abbrev pub put_own : Own → List Own → List Own
put_own o [] = o ∷ []
put_own o (q ∷ qs) = if bytes_eq q.table o.table then o ∷ qs else if in_order o q then o ∷ q ∷ qs else q ∷ put_own o qs

abbrev pub without_own : List ℕ → List Own → List Own
without_own t [] = []
without_own t (q ∷ qs) = if bytes_eq q.table t then qs else q ∷ without_own t qs

abbrev pub own_of : ListKind → List ℕ → List ModuleName → Own
own_of k t ns = record { table = t; kind = k; names = once [] ns }

abbrev pub table_or_main : Option (List ℕ) → List ℕ
table_or_main None = main
table_or_main (Some t) = t

abbrev pub production_of : Option (List ℕ) → List ℕ → Rule → Production
production_of t l r = record { table = table_or_main t; label = l; rule = r }

-- the place of a production's label: after its table word, where that is written
abbrev pub label_place : Option (List ℕ) → ℕ
label_place None = 1
label_place (Some t) = 2

-- the label stands in another table or in the homomorphism
abbrev pub stands_elsewhere : System → Production → Bool
stands_elsewhere s p = any (λ q. same_label q p && not (bytes_eq q.table p.table)) s.rules || any (λ h. bytes_eq h.label p.label) s.homomorphisms

-- The label is token number n, and the rule's own tokens begin two after it.
abbrev pub production_refusal : System → ℕ → Production → Option Refusal
production_refusal s n p =
    or_else (refused_at (rule_unknown (n + 2) p.rule) unknown_name)
    (or_else (refused_at (rule_repeated (n + 2) p.rule) duplicate)
    (or_else (refused_if (any (λ q. not (same_label q p) && clash q p) s.rules) mixed n)
    (or_else (refused_if (stands_elsewhere s p) wrong_label n)
    (or_else (refused_if (nat_lt most_tables (length (tables (put p s.rules)))) many 1)
    (or_else (refused_if (nat_lt most_rules (length (put p s.rules) + length s.homomorphisms)) many n)
    (refused_at (rule_many (n + 2) p.rule) many))))))

abbrev pub homomorphism_refusal : System → Homomorphism → Option Refusal
homomorphism_refusal s h =
    or_else (refused_at (rule_unknown 3 h.rule) unknown_name)
    (or_else (refused_at (rule_repeated 3 h.rule) duplicate)
    (or_else (refused_if (any (λ q. bytes_eq q.label h.label) s.rules) wrong_label 1)
    (or_else (refused_if (nat_lt most_rules (length s.rules + length (put_hom h s.homomorphisms))) many 1)
    (refused_at (rule_many 3 h.rule) many))))

-- the first word, from place 1 on, that names no table
abbrev pub untabled : List Production → List (List ℕ) → Option ℕ
untabled rules ws = first_place (λ w. not (is_table (tables rules) w)) 1 ws

abbrev pub schedule_refusal : System → List (List ℕ) → Option Refusal
schedule_refusal s ws = or_else (refused_at (untabled s.rules ws) wrong_table) (refused_if (nat_lt most_schedule_words (length ws)) many (most_schedule_words + 1))

-- one of these words names no table
abbrev pub loses_table : List Production → List (List ℕ) → Bool
loses_table rules ws = any (λ w. not (is_table (tables rules) w)) ws

abbrev pub drop_refusal : System → List ℕ → Option Refusal
drop_refusal s l =
    or_else (refused_if (not (any (λ q. bytes_eq q.label l) s.rules || any (λ h. bytes_eq h.label l) s.homomorphisms)) wrong_label 1)
    (refused_if (loses_table (without_rule l s.rules) (s.schedule ++ map (λ o. o.table) s.own)) wrong_table 1)

abbrev pub level_refusal : System → Option ℕ → Option Refusal
level_refusal s None = None
level_refusal s (Some n) = refused_if (nat_lt s.depth n) wrong_level 1

-- a version that isn't, or that is less than the system's
abbrev pub version_refusal : System → ℕ → Option Refusal
version_refusal s n = refused_if ((n == 0) || (nat_lt greatest_version n || nat_lt n s.version)) wrong_version 1

-- what a system of version 1 doesn't know
abbrev pub later_refusal : System → Option Refusal
later_refusal s = refused_if (s.version == 1) wrong_version 0

abbrev pub own_refusal : System → List ℕ → List ModuleName → Option Refusal
own_refusal s t ns =
    or_else (later_refusal s)
    (or_else (refused_at (untabled s.rules (t ∷ [])) wrong_table)
    (refused_if (nat_lt most_ignored (length ns)) many (most_ignored + 3)))

abbrev pub common_refusal : System → List ℕ → Option Refusal
common_refusal s t = or_else (later_refusal s) (refused_at (untabled s.rules (t ∷ [])) wrong_table)

-- the first refusal in the order version, name, duplicate, mixed, label, table, level, many
abbrev pub refusal : System → Command → Option Refusal
refusal s (set_axiom xs) = refused_at (axiom_many 1 xs) many
refusal s (put_production t l r) = production_refusal s (label_place t) (production_of t l r)
refusal s (drop_rule l) = drop_refusal s l
refusal s (set_ignored ns) = refused_if (nat_lt most_ignored (length ns)) many (most_ignored + 1)
refusal s (set_schedule ws) = schedule_refusal s ws
refusal s (set_depth n) = refused_if (nat_lt (depth_bound s.version) n) many 1
refusal s (put_homomorphism l r) = homomorphism_refusal s (record { label = l; rule = r })
refusal s (print_string n) = level_refusal s n
refusal s (set_version n) = version_refusal s n
refusal s (set_own k t ns) = own_refusal s t ns
refusal s (drop_own t) = common_refusal s t
refusal s (set_numbering g) = later_refusal s
refusal s c = None

-- the values of a written string
abbrev pub values_of : List (Symbol Signed) → List (Symbol ℤ)
values_of [] = []
values_of (Module n zs ∷ xs) = Module n (map signed_value zs) ∷ values_of xs
values_of (Push ∷ xs) = Push ∷ values_of xs
values_of (Pop ∷ xs) = Pop ∷ values_of xs
values_of (Cut ∷ xs) = Cut ∷ values_of xs

-- What an edit changes; a query changes nothing. It is asked of commands alone that nothing refuses, so `drop` finds its label.
abbrev pub changed : System → Command → System
changed s (set_axiom xs) = record s { axiom_string = values_of xs }
changed s (put_production t l r) = record s { rules = put (production_of t l r) s.rules }
changed s (drop_rule l) = record s { rules = without_rule l s.rules; homomorphisms = without_hom l s.homomorphisms }
changed s (set_ignored ns) = record s { ignored = once [] ns }
changed s (set_schedule ws) = record s { schedule = ws }
changed s (set_seed n) = record s { seed = n }
changed s (set_depth n) = record s { depth = n }
changed s (set_lattice l) = record s { lattice = l }
changed s (put_homomorphism l r) = record s { homomorphisms = put_hom (record { label = l; rule = r }) s.homomorphisms }
changed s (set_version n) = record s { version = n }
changed s (set_own k t ns) = record s { own = put_own (own_of k t ns) s.own }
changed s (drop_own t) = record s { own = without_own t s.own }
changed s (set_numbering g) = record s { numbering = g }
changed s c = s

abbrev pub unless_refused : Option Refusal → System → Result System Refusal
unless_refused None s = Ok s
unless_refused (Some r) s = Err r

abbrev pub apply : System → Command → Result System Refusal
apply s c = unless_refused (refusal s c) (changed s c)
