use Rattle.std.proofs.Common.{length, ap, ◌∙◌, arith}
use Rattle.lsys_module.specs.Views.{string_of}
use Rattle.lsys_flat.specs.Grown.{nothing_made}
use Rattle.lsys_flat.proofs.Short.{axiom_short}
use Rattle.lsys_flat.proofs.Settled.{string_length}
use Rattle.lsys_flat.specs.Drafts.{Drafted}
use Rattle.lsys_flat.proofs.DraftingFirst.{axiom_made, can_begin, begun, begun_found, begun_refused}
use Rattle.lsys_flat.proofs.draft.Draft.begin.Goals as goal

pub add_children-requires-clause-few : goal.add_children-requires-clause-few
add_children-requires-clause-few g c =
    let short = axiom_short c.args.system.now c.axiom.ensures.well.0 in
    omega (arith, short, ap length c.symbols.ensures.symbols, string_length c.axiom.result.now, ap length c.axiom.ensures.symbols)

pub add_level-requires : goal.add_level-requires
add_level-requires g c =
    let q = c.requires in
    can_begin c.args.system.now q.limit q.old_lines q.xs c.args.self.now c.finish.result c.axiom.ensures.well q.empty q.olds q.few q.small
    (axiom_made c.args.system.now c.args.self.now.room c.seed.result c.add_children.new.self c.new-axiom.result c.symbols.result.now c.finish.result (c.new-axiom.ensures ∙ ap (λ g. nothing_made g c.self.inside.room) c.lineage.ensures ∙ ap (λ (d : Drafted). nothing_made c.args.system.now.numbering d.room) c.self.view_is) c.seed.ensures (ap string_of c.symbols.ensures.symbols ∙ c.axiom.ensures.symbols)
    c.in_ok-add_children.ensures.added c.in_ok-add_children.ensures.room c.finish.ensures)

pub returns-clause-begun : goal.returns-clause-begun
returns-clause-begun g c = λ limit o before e olds.
    begun c.args.system.now limit o.lines o.levels o.kept o.store before c.args.self.now c.add_level.new.self c.finish.result c.add_level.result c.axiom.ensures.well e olds
    (axiom_made c.args.system.now c.args.self.now.room c.seed.result c.add_children.new.self c.new-axiom.result c.symbols.result.now c.finish.result (c.new-axiom.ensures ∙ ap (λ g. nothing_made g c.self.inside.room) c.lineage.ensures ∙ ap (λ (d : Drafted). nothing_made c.args.system.now.numbering d.room) c.self.view_is) c.seed.ensures (ap string_of c.symbols.ensures.symbols ∙ c.axiom.ensures.symbols)
    c.in_ok-add_children.ensures.added c.in_ok-add_children.ensures.room c.finish.ensures) c.add_level.ensures.added

pub returns-clause-refused : goal.returns-clause-refused
returns-clause-refused g c = λ old_lines limit e.
    begun_refused c.args.system.now limit old_lines c.args.self.now c.add_level.new.self c.finish.result c.add_level.result e
    (axiom_made c.args.system.now c.args.self.now.room c.seed.result c.add_children.new.self c.new-axiom.result c.symbols.result.now c.finish.result (c.new-axiom.ensures ∙ ap (λ g. nothing_made g c.self.inside.room) c.lineage.ensures ∙ ap (λ (d : Drafted). nothing_made c.args.system.now.numbering d.room) c.self.view_is) c.seed.ensures (ap string_of c.symbols.ensures.symbols ∙ c.axiom.ensures.symbols)
    c.in_ok-add_children.ensures.added c.in_ok-add_children.ensures.room c.finish.ensures) c.add_level.ensures.added

pub returns-clause-found : goal.returns-clause-found
returns-clause-found g c =
    let q = c.requires in
    begun_found q.limit q.old_lines c.args.self.now c.add_level.new.self c.finish.result c.add_level.result q.empty c.add_level.ensures.added
