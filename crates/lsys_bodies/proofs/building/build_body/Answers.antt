use Rattle.std.proofs.Common.{◌≡◌, map, ap, sym, subst, ◌∙◌}
use Rattle.std.specs.Prelude.{option_map}
use Rattle.lsys_syntax.specs.Checks.{rule_formals}
use Rattle.lsys_spec.specs.Values.{expr_tree}
use Rattle.lsys_text.specs.Tokens.{kind_row, name_of}
use Rattle.lsys_module.specs.Views.{module_name}
use Rattle.lsys_reading.specs.Spans.{option_at}
use Rattle.lsys_reading.specs.Images.{image_at, images_at}
use Rattle.lsys_reading.specs.Heads.{patterns_of}
use Rattle.lsys_reading.specs.RuleLines.{rule_at}
use Rattle.lsys_bodies.specs.Building.{OptionIsKnown, StringIsKnown, tree_at, image_tree, symbol_tree}
use Rattle.lsys_bodies.specs.declared.body.Body.{Body}
use Rattle.lsys_bodies.specs.Views.{as_rule, tree_in, template_of}
use Rattle.lsys_bodies.proofs.Loops.{map-map, option-at}
use Rattle.lsys_bodies.proofs.GatheredFormals.{few-names}
use Rattle.lsys_bodies.proofs.Means.{made-built}
use Rattle.lsys_bodies.proofs.building.build_body.Goals as goal

pub optional-requires-clause-known : goal.optional-requires-clause-known
optional-requires-clause-known c =
    let ks = kind_row c.args.tokens.now in
    let e : map name_of c.deref-3.result.now ≡ rule_formals (rule_at ks c.args.line.now) = ap (map name_of) c.deref-3.ensures.value ∙ c.in_ok-formals.ensures ks in
    subst (λ fs. OptionIsKnown fs (option_at ks c.args.line.now.condition)) (sym e) c.requires.checked.condition

pub optional-requires-clause-few : goal.optional-requires-clause-few
optional-requires-clause-few c =
    let ks = kind_row c.args.tokens.now in
    few-names (rule_at ks c.args.line.now) c.deref-3.result.now (ap (map name_of) c.deref-3.ensures.value ∙ c.in_ok-formals.ensures ks) c.requires.checked.small

pub optional-requires-2-clause-known : goal.optional-requires-2-clause-known
optional-requires-2-clause-known c =
    let ks = kind_row c.args.tokens.now in
    let e : map name_of c.deref-4.result.now ≡ rule_formals (rule_at ks c.args.line.now) = ap (map name_of) c.deref-4.ensures.value ∙ c.in_ok-formals.ensures ks in
    subst (λ fs. OptionIsKnown fs (option_at ks c.args.line.now.weight)) (sym e) c.requires.checked.weight

pub optional-requires-2-clause-few : goal.optional-requires-2-clause-few
optional-requires-2-clause-few c =
    let ks = kind_row c.args.tokens.now in
    few-names (rule_at ks c.args.line.now) c.deref-4.result.now (ap (map name_of) c.deref-4.ensures.value ∙ c.in_ok-formals.ensures ks) c.requires.checked.small

pub templates-requires-clause-known : goal.templates-requires-clause-known
templates-requires-clause-known c =
    let ks = kind_row c.args.tokens.now in
    let e : map name_of c.deref-6.result.now ≡ rule_formals (rule_at ks c.args.line.now) = ap (map name_of) c.deref-6.ensures.value ∙ c.in_ok-formals.ensures ks in
    subst (λ fs. StringIsKnown fs (images_at ks c.deref-5.result.now)) (sym e)
    (subst (λ xs. StringIsKnown (rule_formals (rule_at ks c.args.line.now)) (images_at ks xs)) (sym c.deref-5.ensures.value) c.requires.checked.successor)

pub templates-requires-clause-few : goal.templates-requires-clause-few
templates-requires-clause-few c =
    let ks = kind_row c.args.tokens.now in
    few-names (rule_at ks c.args.line.now) c.deref-6.result.now (ap (map name_of) c.deref-6.ensures.value ∙ c.in_ok-formals.ensures ks) c.requires.checked.small

pub new-requires : goal.new-requires
new-requires c =
    let ks = kind_row c.args.tokens.now in
    let line = c.args.line.now in
    let r = rule_at ks line in
    let b : Body = record {
      left = c.in_ok-left_context.field-0;
      predecessor = c.in_ok-pattern.field-0;
      right = c.in_ok-right_context.field-0;
      condition = c.in_ok-optional.field-0;
      weight = c.in_ok-optional-2.field-0;
      successor = c.in_ok-templates.field-0;
    } in
    let rule : as_rule b ≡ r = λ i. record {
      left = (c.in_ok-left_context.ensures ∙ ap patterns_of c.deref.ensures.value) i;
      name = module_name (c.in_ok-pattern.ensures.name i);
      formals = map name_of (c.in_ok-pattern.ensures.formals i);
      right = (c.in_ok-right_context.ensures ∙ ap patterns_of c.deref-2.ensures.value) i;
      condition = c.in_ok-optional.ensures.spelled i;
      weight = c.in_ok-optional-2.ensures.spelled i;
      successor = (c.in_ok-templates.ensures.spelled ∙ ap (images_at ks) c.deref-5.ensures.value) i;
    } in
    let condition : option_map tree_in b.condition ≡ option_map (expr_tree (rule_formals r)) r.condition =
    c.in_ok-optional.ensures.tree ∙ ap (λ fs. option_map (tree_at fs ks) line.condition) (ap (map name_of) c.deref-3.ensures.value ∙ c.in_ok-formals.ensures ks)
    ∙ option-at (rule_formals r) ks line.condition in
    let weight : option_map tree_in b.weight ≡ option_map (expr_tree (rule_formals r)) r.weight =
    c.in_ok-optional-2.ensures.tree ∙ ap (λ fs. option_map (tree_at fs ks) line.weight) (ap (map name_of) c.deref-4.ensures.value ∙ c.in_ok-formals.ensures ks)
    ∙ option-at (rule_formals r) ks line.weight in
    let successor : map template_of b.successor.items ≡ map (symbol_tree (rule_formals r)) r.successor =
    c.in_ok-templates.ensures.trees ∙ ap (λ fs. map (image_tree fs ks) c.deref-5.result.now) (ap (map name_of) c.deref-6.ensures.value ∙ c.in_ok-formals.ensures ks)
    ∙ ap (map (image_tree (rule_formals r) ks)) c.deref-5.ensures.value ∙ sym (map-map (symbol_tree (rule_formals r)) (image_at ks) line.successor.items) in
    made-built b r (record { rule = rule; condition = condition; weight = weight; successor = successor }) c.requires.checked
