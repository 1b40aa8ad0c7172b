use Rattle.std.proofs.Common.{◌≡◌, sym, ap, ◌∙◌}
use Rattle.lsys_forest.specs.Groves.{now_of}
use Rattle.lsys_module.specs.Views.{string_of}
use Rattle.lsys_children.specs.Parents.{wants}
use Rattle.lsys_children.proofs.BornChildren.{room_to_bear, born_renewed}
use Rattle.lsys_children.proofs.make.bear_copied.Goals as goal

pub bear_by_place-requires-clause-room : goal.bear_by_place-requires-clause-room
bear_by_place-requires-clause-room g c =
    let is : wants (now_of c.args.forest.now) c.args.parent ≡ string_of c.deref.result.now = c.in_ok-copy_wanted.ensures.wanted ∙ ap string_of (sym c.deref.ensures.value) in
    room_to_bear c.args.forest.now c.args.parent (string_of c.deref.result.now) c.args.changes.now is c.requires.room

pub returns-clause-renewed : goal.returns-clause-renewed
returns-clause-renewed g c =
    let is : wants (now_of c.args.forest.now) c.args.parent ≡ string_of c.deref.result.now = c.in_ok-copy_wanted.ensures.wanted ∙ ap string_of (sym c.deref.ensures.value) in
    born_renewed c.args.forest.now c.bear_by_place.new.forest c.args.parent (string_of c.deref.result.now) c.args.changes.now c.bear_by_place.new.told is c.bear_by_place.ensures.born
