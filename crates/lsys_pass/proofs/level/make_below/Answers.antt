use Rattle.std.proofs.Common.{ap, ◌∙◌}
use Rattle.lsys_children.specs.Children.{ToldNodes}
use Rattle.lsys_pass.proofs.Births.{roomy_is_sound, roomy_parents, room_for, keeps_roomy, keeps_made, makes_below}
use Rattle.lsys_pass.proofs.level.make_below.Goals as goal

pub returns-in_err-reserve_for-clause-keeps : goal.returns-in_err-reserve_for-clause-keeps
returns-in_err-reserve_for-clause-keeps g c = keeps_roomy _ _ c.reserve_for.ensures.nodes c.requires.sound c.requires.few

pub make_children-made-requires-clause-sound : goal.make_children-made-requires-clause-sound
make_children-made-requires-clause-sound g c = roomy_is_sound _ _ c.reserve_for.ensures.nodes c.requires.sound

pub make_children-made-requires-clause-parents : goal.make_children-made-requires-clause-parents
make_children-made-requires-clause-parents g c = roomy_parents _ _ c.reserve_for.ensures.nodes _ c.requires.parents

pub make_children-made-requires-clause-room : goal.make_children-made-requires-clause-room
make_children-made-requires-clause-room g c = room_for _ _ c.reserve_for.ensures.nodes _ _ _ c.args.parents.now _ c.lineage.ensures c.requires.need c.in_ok-reserve_for.ensures.room

pub returns-in_err-made-clause-keeps : goal.returns-in_err-made-clause-keeps
returns-in_err-made-clause-keeps g c =
    let made = c.make_children-made.ensures in
    keeps_made _ _ c.reserve_for.ensures.nodes _ _ _ _ c.args.parents.now c.lineage.ensures c.requires.need c.in_ok-reserve_for.ensures.few made.few made.rest made.root made.kept c.law_of_forests.ensures

pub returns-clause-made : goal.returns-clause-made
returns-clause-made g c =
    let made = c.in_ok-made.ensures in
    let e = c.reserve_for.ensures.told in
    let n = c.new-told.ensures in
    makes_below _ _ c.reserve_for.ensures.nodes _ _ _ c.args.parents.now c.reserve_for.new.told _ c.lineage.ensures
    (ap (λ (t : ToldNodes). t.touched) e ∙ ap (λ (t : ToldNodes). t.touched) n) (ap (λ (t : ToldNodes). t.changed) e ∙ ap (λ (t : ToldNodes). t.changed) n)
    (ap (λ (t : ToldNodes). t.added) e ∙ ap (λ (t : ToldNodes). t.added) n) (ap (λ (t : ToldNodes). t.gone) e ∙ ap (λ (t : ToldNodes). t.gone) n)
    made.children made.told made.gone

pub returns-clause-keeps : goal.returns-clause-keeps
returns-clause-keeps g c =
    let made = c.make_children-made.ensures in
    keeps_made _ _ c.reserve_for.ensures.nodes _ _ _ _ c.args.parents.now c.lineage.ensures c.requires.need c.in_ok-reserve_for.ensures.few made.few made.rest made.root made.kept c.law_of_forests.ensures
