-- Version 1 by itself: what refused its commands, and what `show` printed of its systems.
use Rattle.std.specs.Prelude.{ℕ, Option, None, List, [], ◌∷◌, ◌++◌, ◌||◌, ◌+◌, not, nat_lt, length, map, bytes_eq}
use Rattle.lsys_syntax.specs.Limits.{most_ignored, most_depth}
use Rattle.lsys_syntax.specs.Checks.{axiom_many}
use Rattle.lsys_syntax.specs.Commands.{Command, set_axiom, put_production, drop_rule, set_ignored, set_schedule, set_seed, set_depth, set_lattice, put_homomorphism, print_string}
use Rattle.lsys_spec.specs.Systems.{System, written}
use Rattle.lsys_spec.specs.Systems as systems
use Rattle.lsys_spec.specs.Edits.{Refusal, wrong_label, wrong_table, many, or_else, refused_if, refused_at, without_rule, loses_table, production_of, label_place, production_refusal, homomorphism_refusal, schedule_refusal, level_refusal}
use Rattle.lsys_spec.specs.Shown.{as_put, as_put_homomorphism}

abbrev pub former_drop_refusal : System → List ℕ → Option Refusal
former_drop_refusal s l =
    or_else (refused_if (not (systems.any (λ q. bytes_eq q.label l) s.rules || systems.any (λ h. bytes_eq h.label l) s.homomorphisms)) wrong_label 1)
    (refused_if (loses_table (without_rule l s.rules) s.schedule) wrong_table 1)

-- the first refusal in the order name, duplicate, mixed, label, table, level, many
abbrev pub former_refusal : System → Command → Option Refusal
former_refusal s (set_axiom xs) = refused_at (axiom_many 1 xs) many
former_refusal s (put_production t l r) = production_refusal s (label_place t) (production_of t l r)
former_refusal s (drop_rule l) = former_drop_refusal s l
former_refusal s (set_ignored ns) = refused_if (nat_lt most_ignored (length ns)) many (most_ignored + 1)
former_refusal s (set_schedule ws) = schedule_refusal s ws
former_refusal s (set_depth n) = refused_if (nat_lt most_depth n) many 1
former_refusal s (put_homomorphism l r) = homomorphism_refusal s (record { label = l; rule = r })
former_refusal s (print_string n) = level_refusal s n
former_refusal s c = None

abbrev pub former_show_commands : System → List Command
former_show_commands s =
    set_lattice s.lattice ∷ set_seed s.seed ∷ set_axiom (written s.axiom_string) ∷ set_ignored s.ignored
    ∷ (map as_put s.rules ++ (map as_put_homomorphism s.homomorphisms ++ set_schedule s.schedule ∷ set_depth s.depth ∷ []))
