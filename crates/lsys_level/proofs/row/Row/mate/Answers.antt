use Rattle.std.proofs.Common.{◌≡◌, sym, ◌∙◌, subst}
use Rattle.std.proofs.lemmas.Option.{same_Some}
use Rattle.lsys_level.specs.Spots.{Spotted, IsBracket, IsMate}
use Rattle.lsys_level.specs.Places.{spotted}
use Rattle.lsys_level.proofs.Rows.{place_read, spotted_read}
use Rattle.lsys_level.proofs.row.Row.mate.Goals as goal

pub returns : goal.returns
returns c =
    let kept = c.index.result.now in
    let values = c.self.inside.values.items in
    let places = c.self.inside.places.items in
    let same : c.requires.bracket.bracket ≡ spotted values kept = same_Some _ _ (sym c.requires.bracket.is ∙ spotted_read c.args.self.now values places c.args.place kept c.self.view_is c.requires.within c.index.ensures) in
    subst (λ x. IsMate x c.args.place kept.link) c.self.view_is
    (c.self.invariant.mates c.args.place kept (place_read c.args.self.now values places c.args.place kept c.self.view_is c.requires.within c.index.ensures) (subst (λ (s : Spotted). IsBracket s.seen) same c.requires.bracket.kind))
