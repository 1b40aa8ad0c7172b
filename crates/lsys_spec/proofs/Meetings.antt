-- A module that a walk meets.
use Rattle.std.specs.Prelude.{Bool, None, if◌then◌else◌}
use Rattle.lsys_spec.specs.Levels.{LevelSymbol}
use Rattle.lsys_spec.specs.Walks.{Mark, Compared, Ignored, Told, Found, says, before}

-- where it is ignored the walk goes on; else it was compared, and where it fits the next follows
abbrev pub met : Bool → Bool → Mark → LevelSymbol → Told Found → Told Found → Told Found
met ignored fits d s on next = if ignored then before (Ignored d s) on else before (Compared d s) (if fits then next else says None)
