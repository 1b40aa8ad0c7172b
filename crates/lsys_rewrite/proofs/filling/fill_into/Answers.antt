use Rattle.std.proofs.Common.{◌≡◌, length, take, true, is_err, rules, subst}
use Rattle.lsys_spec.specs.Bodies.{body_of}
use Rattle.lsys_spec.specs.Meaning.{filled}
use Rattle.lsys_bodies.specs.Views.{as_rule}
use Rattle.lsys_rewrite.specs.Filled.{IsAddedFront}
use Rattle.lsys_rewrite.proofs.Successors.{cut_back}
use Rattle.lsys_rewrite.proofs.filling.fill_into.Goals as goal

pub returns-then-is_err : goal.returns-then-is_err
returns-then-is_err c =
    let old = c.args.symbols.now in
    let r = filled (body_of (as_rule c.args.body.now)).successor c.args.bound.now in
    let front : IsAddedFront r old c.add_front-added.new.symbols c.add_front-added.result =
    subst (λ ss. IsAddedFront r ss c.add_front-added.new.symbols c.add_front-added.result) c.reserve.ensures
    (subst (λ ts. IsAddedFront (filled ts c.args.bound.now) c.reserve.new.self c.add_front-added.new.symbols c.add_front-added.result) c.successor-templates.ensures.means c.add_front-added.ensures) in
    let refused : is_err c.add_front-added.result ≡ true = search rules in
    let back : c.truncate.new.self ≡ take (length old) c.add_front-added.new.symbols = search rules in
    cut_back r old c.add_front-added.new.symbols c.truncate.new.self c.add_front-added.result refused back front
