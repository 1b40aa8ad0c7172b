use Rattle.std.proofs.Common.{◌≡◌, map, ap, sym, ◌∙◌}
use Rattle.lsys_syntax.specs.Strings as S
use Rattle.lsys_text.specs.Tokens.{kind_row, name_of}
use Rattle.lsys_spec.specs.Values.{expr_tree}
use Rattle.lsys_module.specs.Views.{module_name}
use Rattle.lsys_reading.specs.Spans.{expr_at}
use Rattle.lsys_bodies.specs.Views.{tree_in}
use Rattle.lsys_bodies.specs.Building.{tree_at, image_tree}
use Rattle.lsys_bodies.proofs.Loops.{map-map}
use Rattle.lsys_bodies.proofs.building.template.Goals as goal

pub returns-in_ok-params-in-Module-clause-trees : goal.returns-in_ok-params-in-Module-clause-trees
returns-in_ok-params-in-Module-clause-trees c =
    let fs = map name_of c.args.formals.now in
    let ks = kind_row c.args.tokens.now in
    let x = c.in-Module.module in
    let trees : map tree_in c.in_ok-params-in-Module.field-0.items ≡ map (expr_tree fs) (map (expr_at ks) x.params.items) =
    c.in_ok-params-in-Module.ensures.trees ∙ ap (map (tree_at fs ks)) c.deref.ensures.value ∙ sym (map-map (expr_tree fs) (expr_at ks) x.params.items) in
    ap (S.Module (module_name x.name)) trees ∙ ap (image_tree fs ks) (sym c.in-Module.is)
