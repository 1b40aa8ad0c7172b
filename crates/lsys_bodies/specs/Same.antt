-- Whether two items of right contexts are the same.
use Rattle.std.specs.Prelude.{Bool, true, false}
use Rattle.lsys_spec.specs.Equalities.{same_pattern}
use Rattle.lsys_bodies.specs.declared.body.Item.{Item}
use Rattle.lsys_bodies.specs.declared.body.Item.TheVariants.{Push, Pop, Pattern}
use Rattle.lsys_bodies.specs.Views.{as_pattern}

abbrev pub same_item : Item → Item → Bool
same_item Push Push = true
same_item Pop Pop = true
same_item (Pattern p) (Pattern q) = same_pattern (as_pattern p) (as_pattern q)
same_item a b = false
