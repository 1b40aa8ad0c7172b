-- Whether a module fits a pattern.
use Rattle.std.specs.Prelude.{ℕ, ℤ, Bool, List, ◌==◌, ◌&&◌, length}
use Rattle.lsys_spec.specs.Systems.{same_name}
use Rattle.lsys_module.specs.Views.{module_name}
use Rattle.lsys_bodies.specs.declared.body.Pattern.{Pattern}

-- the name and the number of parameters are the pattern's
abbrev pub fits_pattern : Pattern → List ℕ → List ℤ → Bool
fits_pattern q name params = same_name (module_name q.name) (module_name name) && (length q.formals.items == length params)
