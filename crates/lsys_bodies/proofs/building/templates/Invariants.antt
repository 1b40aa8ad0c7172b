use Rattle.std.proofs.Common.{◌≡◌, ◌++◌, drop, map}
use Rattle.lsys_text.specs.Tokens.{kind_row, name_of}
use Rattle.lsys_reading.specs.Images.{image_at}
use Rattle.lsys_bodies.specs.Views.{template_symbol, template_of}
use Rattle.lsys_bodies.specs.Building.{image_tree}
use Rattle.lsys_bodies.proofs.building.templates.Given as goal

abbrev pub invariant-loop-image : goal.invariant-loop-image
invariant-loop-image l = record {
  spelled : map template_symbol l.templates.items ++ map (image_at (kind_row l.tokens)) (drop l.image-index l.images) ≡ map (image_at (kind_row l.tokens)) l.images;
  trees : map template_of l.templates.items ++ map (image_tree (map name_of l.formals) (kind_row l.tokens)) (drop l.image-index l.images) ≡ map (image_tree (map name_of l.formals) (kind_row l.tokens)) l.images;
}
