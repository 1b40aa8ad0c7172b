use Rattle.std.proofs.Common.{◌≡◌, [], ◌∷◌, Option, sym, ap, ◌∙◌}
use Rattle.std.specs.Prelude.{ℤ}
use Rattle.lsys_syntax.specs.Strings as S
use Rattle.lsys_level.specs.Spots.{Seen}
use Rattle.lsys_match.specs.Kept.{Kept}
use Rattle.lsys_module.specs.Views.{symbol_of}
use Rattle.lsys_forest.specs.Nodes.{Node}
use Rattle.lsys_forest.specs.Groves.{now_of}
use Rattle.lsys_forest.specs.Rows.{spot_in}
use Rattle.lsys_forest.proofs.SoundLemmas.{some_of}
use Rattle.lsys_children.specs.Wishes.{itself}
use Rattle.lsys_children.specs.Parents.{wants}
use Rattle.lsys_children.proofs.BornChildren.{room_to_bear, born_renewed}
use Rattle.lsys_children.proofs.make.bear_itself.Goals as goal

pub bear_by_place-requires-clause-room : goal.bear_by_place-requires-clause-room
bear_by_place-requires-clause-room g c =
    let m = now_of c.args.forest.now in
    let node = c.args.parent.node in
    let p = some_of (m node) c.requires.lives in
    let seen = ap (λ (o : Option (Node Kept)). (spot_in node o).seen) p.1 ∙ sym (c.symbol.ensures.seen p.0 p.1) in
    let is : wants m c.args.parent ≡ symbol_of c.symbol_seen-symbol.result ∷ [] = c.requires.alone ∙ ap (λ (x : Seen). itself x ∷ []) seen ∙ ap (λ (z : S.Symbol ℤ). z ∷ []) (sym c.symbol_seen-symbol.ensures.symbol) in
    room_to_bear c.args.forest.now c.args.parent (symbol_of c.symbol_seen-symbol.result ∷ []) c.args.changes.now is c.requires.room

pub returns-clause-renewed : goal.returns-clause-renewed
returns-clause-renewed g c =
    let m = now_of c.args.forest.now in
    let node = c.args.parent.node in
    let p = some_of (m node) c.requires.lives in
    let seen = ap (λ (o : Option (Node Kept)). (spot_in node o).seen) p.1 ∙ sym (c.symbol.ensures.seen p.0 p.1) in
    let is : wants m c.args.parent ≡ symbol_of c.symbol_seen-symbol.result ∷ [] = c.requires.alone ∙ ap (λ (x : Seen). itself x ∷ []) seen ∙ ap (λ (z : S.Symbol ℤ). z ∷ []) (sym c.symbol_seen-symbol.ensures.symbol) in
    born_renewed c.args.forest.now c.bear_by_place.new.forest c.args.parent (symbol_of c.symbol_seen-symbol.result ∷ []) c.args.changes.now c.bear_by_place.new.told is c.bear_by_place.ensures.born
