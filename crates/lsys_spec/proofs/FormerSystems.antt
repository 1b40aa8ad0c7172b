-- A system of version 1 does what it did before there was another version.
use Rattle.std.proofs.Common.{◌≡◌, ℕ, bytes_eq, Option, List, [], ◌++◌, ◌||◌, nat_lt, not, map, append-nil, refl, ap, ◌∙◌}
use Rattle.lsys_syntax.specs.Strings.{ModuleName}
use Rattle.lsys_syntax.specs.Commands.{Command, set_axiom, put_production, drop_rule, set_ignored, set_schedule, set_seed, set_depth, set_lattice, put_homomorphism, print_string, print_segments, print_svg, print_system, quit, set_version, set_own, drop_own, set_numbering, by_place}
use Rattle.lsys_syntax.specs.Former.{IsFormer}
use Rattle.lsys_spec.specs.Systems.{System, WellFormed, any, depth_bound}
use Rattle.lsys_spec.specs.Edits.{Refusal, many, wrong_label, wrong_table, refused_if, or_else, loses_table, without_rule, refusal, changed}
use Rattle.lsys_spec.specs.Bodies.{table_at, filter_in, filter}
use Rattle.lsys_spec.specs.Meaning.{ignores, ignored_by}
use Rattle.lsys_spec.specs.Shown.{show_commands}
use Rattle.lsys_spec.specs.Former.{former_refusal, former_show_commands}

pub stays : (s : System) (c : Command) → IsFormer c → (changed s c).version ≡ s.version
stays s (set_axiom xs) h = refl
stays s (put_production t l r) h = refl
stays s (drop_rule l) h = refl
stays s (set_ignored ns) h = refl
stays s (set_schedule ws) h = refl
stays s (set_seed n) h = refl
stays s (set_depth n) h = refl
stays s (set_lattice l) h = refl
stays s (put_homomorphism l r) h = refl
stays s (print_string n) h = refl
stays s print_segments h = refl
stays s print_svg h = refl
stays s print_system h = refl
stays s quit h = refl
stays s (set_version n) h = elim h [ ]
stays s (set_own k t ns) h = elim h [ ]
stays s (drop_own t) h = elim h [ ]
stays s (set_numbering g) h = elim h [ ]

pub keeps_own : (s : System) (c : Command) → IsFormer c → (changed s c).own ≡ s.own
keeps_own s (set_version n) h = elim h [ ]
keeps_own s (set_own k t ns) h = elim h [ ]
keeps_own s (drop_own t) h = elim h [ ]
keeps_own s (set_numbering g) h = elim h [ ]
keeps_own s c h = refl

pub keeps_numbering : (s : System) (c : Command) → IsFormer c → (changed s c).numbering ≡ s.numbering
keeps_numbering s (set_version n) h = elim h [ ]
keeps_numbering s (set_own k t ns) h = elim h [ ]
keeps_numbering s (drop_own t) h = elim h [ ]
keeps_numbering s (set_numbering g) h = elim h [ ]
keeps_numbering s c h = refl

none_own : (s : System) → WellFormed s → s.version ≡ 1 → s.own ≡ []
none_own s w e = (w.first_version e).0

abbrev drop_by : System → List ℕ → List (List ℕ) → Option Refusal
drop_by s l ws =
    or_else (refused_if (not (any (λ q. bytes_eq q.label l) s.rules || any (λ h. bytes_eq h.label l) s.homomorphisms)) wrong_label 1)
    (refused_if (loses_table (without_rule l s.rules) ws) wrong_table 1)

pub refuses : (s : System) (c : Command) → WellFormed s → s.version ≡ 1 → IsFormer c → refusal s c ≡ former_refusal s c
refuses s (set_version n) w e h = elim h [ ]
refuses s (set_own k t ns) w e h = elim h [ ]
refuses s (drop_own t) w e h = elim h [ ]
refuses s (set_numbering g) w e h = elim h [ ]
refuses s (set_depth n) w e h = ap (λ v. refused_if (nat_lt (depth_bound v) n) many 1) e
refuses s (drop_rule l) w e h =
    let same : s.schedule ++ map (λ o. o.table) s.own ≡ s.schedule = ap (λ os. s.schedule ++ map (λ o. o.table) os) (none_own s w e) ∙ append-nil s.schedule in
    ap (drop_by s l) same
refuses s c w e h = refl

pub ignores_listed : (s : System) → WellFormed s → s.version ≡ 1 → (t : ℕ) (n : ModuleName) → ignored_by (filter s t) n ≡ ignores s.ignored n
ignores_listed s w e t n = ap (λ os. ignored_by (filter_in (table_at s.schedule t) os s.ignored) n) (none_own s w e)

pub numbers_placed : (s : System) → WellFormed s → s.version ≡ 1 → s.numbering ≡ by_place
numbers_placed s w e = (w.first_version e).1

pub shows : (s : System) → WellFormed s → s.version ≡ 1 → show_commands s ≡ former_show_commands s
shows s w e = rw (e, none_own s w e) refl
