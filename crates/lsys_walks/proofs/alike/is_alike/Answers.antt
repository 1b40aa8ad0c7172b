use Rattle.std.proofs.Common.{rules, ◌≡◌, ◌↔◌, IsTrue, sym, ◌∙◌}
use Rattle.lsys_module.specs.Views.{module_name}
use Rattle.std.proofs.lemmas.Bool.Decides.{Decides-int_eq}
use Rattle.std.proofs.lemmas.Slice.Eq.{slice_eq-Decides}
use Rattle.lsys_walks.specs.Parts.{entry_kind, entry_rule, depth_of, tag_of, entry_name}
use Rattle.lsys_walks.proofs.SameNames.{alike_modules}
use Rattle.lsys_walks.proofs.alike.is_alike.Goals as goal

pub returns-then-is_named_alike : goal.returns-then-is_named_alike
returns-then-is_named_alike c =
    let kind : entry_kind c.args.one.now ≡ entry_kind c.args.other.now = search rules in
    let rule : entry_rule c.args.one.now ≡ entry_rule c.args.other.now = search rules in
    let depth : depth_of c.args.one.now ≡ depth_of c.args.other.now = search rules in
    let same : c.tag.result ≡ c.tag-else-depth.result = search (rules, c.if-ne-2.ensures) in
    let tag : tag_of c.args.one.now ≡ tag_of c.args.other.now = sym c.tag.ensures ∙ same ∙ c.tag-else-depth.ensures in
    let name : module_name (entry_name c.args.one.now) ≡ module_name (entry_name c.args.other.now) = search rules in
    let params : IsTrue c.eq-then-is_named_alike.result ↔ (c.args.ones.now ≡ c.args.others.now) = slice_eq-Decides Decides-int_eq c.args.ones.now c.args.others.now c.eq-then-is_named_alike.result c.eq-then-is_named_alike.ensures in
    alike_modules c.args.one.now c.args.other.now c.args.ones.now c.args.others.now c.eq-then-is_named_alike.result (λ e. c.in_default.not-Out (c.kind-3.ensures ∙ e)) (λ e. c.in_default.not-Branch (c.kind-3.ensures ∙ e)) kind rule depth tag name params
