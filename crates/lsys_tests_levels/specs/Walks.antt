-- Spots of a view.
use Rattle.lsys_level.specs.Spots.{IsSpot}
use Rattle.lsys_level.specs.declared.view.LevelView.{Ghosts as LevelViewOf}

-- it is a spot of the view's levels
abbrev pub IsSpotIn : {V P : Type 0} → LevelViewOf V P → V → P → Type 0
IsSpotIn W view spot = IsSpot (W.levels view) (W.level_of view spot) (W.place_of view spot)
