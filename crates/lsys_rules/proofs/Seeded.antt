-- A system's seed stands beside its parts.
use Rattle.std.proofs.Common.{◌≡◌, ◌≢◌, ℕ, List, refl, sym, ap, ◌∙◌}
use Rattle.lsys_syntax.specs.Tokens.{Kind}
use Rattle.lsys_spec.specs.Systems.{System}
use Rattle.lsys_spec.specs.Edits.{changed}
use Rattle.lsys_text.specs.Tokens.{kind_row}
use Rattle.lsys_text.specs.declared.token_kind.Token.{Token}
use Rattle.lsys_reading.specs.declared.parts.CommandParts.{CommandParts}
use Rattle.lsys_reading.specs.declared.parts.CommandParts.TheVariants.{Axiom, Production, Drop, Ignore, Schedule, Seed, Depth, Lattice, Homomorphism, String, Segments, Svg, Show, Quit, Version, Own, Common, Lineage}
use Rattle.lsys_reading.specs.Commands.{parts_command}
use Rattle.lsys_reading.specs.Parted.{command_of, IsParted}
use Rattle.lsys_rules.specs.declared.parts.SystemParts.{SystemParts}
use Rattle.lsys_rules.specs.Systems.{system_of, seeded}
use Rattle.lsys_rules.proofs.Accepted.{parted_command}

-- the system with another seed
abbrev reseeded : ℕ → System → System
reseeded n s = record s { seed = n }

-- a command of no seed leaves it
same_change : (s : System) (n : ℕ) (ks : List Kind) (p : CommandParts) → ((k : ℕ) → p ≢ Seed k)
    → reseeded n (changed s (parts_command ks p)) ≡ changed (reseeded n s) (parts_command ks p)
same_change s n ks Axiom other = refl
same_change s n ks (Production l) other = refl
same_change s n ks (Drop l) other = refl
same_change s n ks (Ignore ns) other = refl
same_change s n ks (Schedule ws) other = refl
same_change s n ks (Seed k) other = absurd (other k refl)
same_change s n ks (Depth k) other = refl
same_change s n ks (Lattice l) other = refl
same_change s n ks (Homomorphism l) other = refl
same_change s n ks (String t) other = refl
same_change s n ks Segments other = refl
same_change s n ks Svg other = refl
same_change s n ks Show other = refl
same_change s n ks Quit other = refl
same_change s n ks (Version k) other = refl
same_change s n ks (Own l) other = refl
same_change s n ks (Common t) other = refl
same_change s n ks (Lineage g) other = refl

-- the changed parts, with the seed, are the changed system
pub parts_changed : (old : SystemParts) (s : System) (n : ℕ) → seeded old n ≡ s
    → (ts : List Token) (p : CommandParts) → IsParted (kind_row ts) p → ((k : ℕ) → p ≢ Seed k)
    → (next : SystemParts) → system_of next ≡ changed (system_of old) (command_of ts)
    → seeded next n ≡ changed s (command_of ts)
parts_changed old s n whole ts p parted other next h =
    let told = parted_command ts p p parted refl in
    ap (reseeded n) (h ∙ ap (changed (system_of old)) told)
    ∙ same_change (system_of old) n (kind_row ts) p other
    ∙ ap (changed (seeded old n)) (sym told)
    ∙ ap (λ (r : System). changed r (command_of ts)) whole
