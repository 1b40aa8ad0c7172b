-- The descendants of a part, level by level.
use Rattle.std.proofs.Common.{◌≡◌, ℕ, zero, suc, true, List, ◌++◌, ap, sym, ◌∙◌}
use Rattle.std.specs.Prelude.{Ok}
use Rattle.lsys_spec.specs.Systems.{System}
use Rattle.lsys_spec.specs.LevelLaws.{HasBalance}
use Rattle.lsys_spec.specs.Levels.{LevelSymbol, level_balanced}
use Rattle.lsys_spec.specs.Cuts.{cut_on}
use Rattle.lsys_spec.specs.Meaning.{next_level}
use Rattle.lsys_spec.proofs.LevelInduction.{ok_parts}
use Rattle.lsys_lattice.specs.Nodes.{HasPartBelow}
use Rattle.lsys_lattice.proofs.Nodes.{part_below}
use Rattle.lsys_lattice.specs.Images.{level_below, HasDescendants}

pub descendants : (s : System) (n t : ℕ) (before part after y : List LevelSymbol) → HasBalance s → level_balanced 0 part ≡ true → level_below s t n (before ++ (part ++ after)) ≡ Ok y
    → HasDescendants s t n before part after y
descendants s zero t before part after y b h e = let f : before ++ (part ++ after) ≡ y = cc in (h, sym f)
descendants s (suc n) t before part after y b h e =
    let next = ok_parts (next_level s t (before ++ (part ++ after))) (λ z. level_below s (suc t) n z) y e in
    let below : HasPartBelow s t before part after next.0 = part_below s b t before part after next.0 h next.1 in
    (next.0, below, descendants s n (suc t) below.left (cut_on below.cutting below.raw) below.right y b below.balanced (ap (level_below s (suc t) n) (sym below.is) ∙ next.2))
