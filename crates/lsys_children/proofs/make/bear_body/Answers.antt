use Rattle.std.proofs.Common.{◌≡◌, sym, ap, ◌∙◌}
use Rattle.std.proofs.lemmas.Option.{same_Some}
use Rattle.lsys_forest.specs.Groves.{now_of}
use Rattle.lsys_module.specs.Views.{string_of}
use Rattle.lsys_children.specs.Parents.{wants}
use Rattle.lsys_children.proofs.BornChildren.{room_to_bear, born_renewed}
use Rattle.lsys_children.proofs.make.bear_body.Goals as goal

pub bear_by_place-requires-clause-room : goal.bear_by_place-requires-clause-room
bear_by_place-requires-clause-room g c =
    let body = c.requires.body in
    let same : c.in-Some.symbols.now ≡ body.0 = same_Some c.in-Some.symbols.now body.0 (c.in-Some.ensures.symbols ∙ body.1) in
    let is : wants (now_of c.args.forest.now) c.args.parent ≡ string_of c.symbols.result.now = body.2 ∙ ap string_of (sym same ∙ sym c.symbols.ensures.symbols) in
    room_to_bear c.args.forest.now c.args.parent (string_of c.symbols.result.now) c.args.changes.now is c.requires.room

pub returns-clause-renewed : goal.returns-clause-renewed
returns-clause-renewed g c =
    let body = c.requires.body in
    let same : c.in-Some.symbols.now ≡ body.0 = same_Some c.in-Some.symbols.now body.0 (c.in-Some.ensures.symbols ∙ body.1) in
    let is : wants (now_of c.args.forest.now) c.args.parent ≡ string_of c.symbols.result.now = body.2 ∙ ap string_of (sym same ∙ sym c.symbols.ensures.symbols) in
    born_renewed c.args.forest.now c.bear_by_place.new.forest c.args.parent (string_of c.symbols.result.now) c.args.changes.now c.bear_by_place.new.told is c.bear_by_place.ensures.born
