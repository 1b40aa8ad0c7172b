use Rattle.std.proofs.Common.{◌≡◌, ◌+◌, List, length, take, drop, slice_get, Some, refl, sym, ◌∙◌, subst}
use Rattle.std.proofs.lemmas.Option.{slice_get_read}
use Rattle.lsys_children.specs.declared.child.Child.{Child}
use Rattle.lsys_children.specs.Steps.{AreBorn}
use Rattle.lsys_children.proofs.MatchLemmas.{take_next, take_whole}
use Rattle.lsys_children.proofs.AllLemmas.{take_none}
use Rattle.lsys_children.proofs.Bearing.{born_start, born_next, can_bear, split_at}
use Rattle.lsys_children.proofs.renew.bear_each.Goals as goal

pub loop-child-init : goal.loop-child-init
loop-child-init g c = record {
  born = subst (λ (ws : List Child). AreBorn c.args.forest.now c.args.forest.now c.args.parent ws c.args.changes.now c.args.changes.now) (sym (take_none c.args.wanted.now)) (born_start c.args.forest.now c.args.parent c.args.changes.now);
  kept = refl;
}

pub bear-requires : goal.bear-requires
bear-requires g c =
    let ws = c.args.wanted.now in
    let i = c.loop-child.child-index in
    let w = c.child-item.result in
    let here : slice_get ws i ≡ Some w = slice_get_read ws (length ws) i w refl c.loop-child-test.true c.child-item.is in
    can_bear c.args.forest.now c.loop-child.forest c.args.parent ws (take i ws) w (drop (i + 1) ws) c.args.changes.now c.loop-child.changes c.requires.room (split_at ws i w here) c.loop-child.invariant.born

pub loop-child-preserved : goal.loop-child-preserved
loop-child-preserved g c =
    let f = c.args.forest.now in
    let new = c.bear.new.forest in
    let ws = c.args.wanted.now in
    let i = c.loop-child.child-index in
    let w = c.child-item.result in
    let e = c.bear.ensures in
    let here : slice_get ws i ≡ Some w = slice_get_read ws (length ws) i w refl c.loop-child-test.true c.child-item.is in
    record {
      born =
          subst (λ (us : List Child). AreBorn f new c.args.parent us c.args.changes.now c.bear.new.changes) (sym (take_next ws i w here))
          (born_next f c.loop-child.forest new c.args.parent (take i ws) w c.bear.result c.args.changes.now c.loop-child.changes c.bear.new.changes c.requires.room.parent_lives c.loop-child.invariant.born e.placed e.told e.added);
      kept = e.kept ∙ c.loop-child.invariant.kept;
    }

pub returns-clause-born : goal.returns-clause-born
returns-clause-born g c =
    let ws = c.args.wanted.now in
    subst (λ (us : List Child). AreBorn c.args.forest.now c.loop-child.forest c.args.parent us c.args.changes.now c.loop-child.changes) (take_whole ws c.loop-child.child-index c.loop-child-test.false) c.loop-child.invariant.born
