use Rattle.std.proofs.Common.{◌≢◌, Some, None, sym, subst, inl}
use Rattle.lsys_level.specs.Spots.{Pop}
use Rattle.lsys_forest.specs.Pairs.{Pairs}
use Rattle.lsys_forest.proofs.PairLemmas.{pairs_none, pairs_some}
use Rattle.lsys_forest.proofs.pairs.end_branch.Goals as goal

pub returns-in-Some-clause-paired : goal.returns-in-Some-clause-paired
returns-in-Some-clause-paired g c =
    let t = c.args.parts.now in
    let mid = c.set_mate.new.self in
    let new = c.set_mate-in-Some.new.self in
    let begin = c.in-Some.begin in
    let node = c.args.node in
    let apart : begin ≢ node = λ e. (c.requires.opener begin c.in-Some.is).1 (inl e) in
    subst (λ z. Pairs z t.footings new.footings c.args.opener node c.mate-around.result) (sym c.requires.ends)
    (subst (λ o. Pairs Pop t.footings new.footings o node c.mate-around.result) (sym c.in-Some.is)
    (subst (Pairs Pop t.footings new.footings (Some begin) node) (sym c.mate-around.ensures) (pairs_some t.footings mid.footings new.footings begin node apart c.set_mate.ensures.here c.set_mate.ensures.others c.set_mate-in-Some.ensures.here c.set_mate-in-Some.ensures.others)))

pub returns-in-None-clause-paired : goal.returns-in-None-clause-paired
returns-in-None-clause-paired g c =
    let t = c.args.parts.now in
    let new = c.set_mate-in-None.new.self in
    let node = c.args.node in
    subst (λ z. Pairs z t.footings new.footings c.args.opener node None) (sym c.requires.ends)
    (subst (λ o. Pairs Pop t.footings new.footings o node None) (sym c.in-None.is) (pairs_none t.footings new.footings node c.set_mate-in-None.ensures.here c.set_mate-in-None.ensures.others))
