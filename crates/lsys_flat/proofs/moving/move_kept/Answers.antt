use Rattle.std.proofs.Common.{◌≡◌, Some, None, arith, ap, ◌∙◌, get_or, refl}
use Rattle.std.specs.Prelude.{slice_get}
use Rattle.std.proofs.lemmas.Option.{slice_get-get_or}
use Rattle.lsys_flat.proofs.TakenTags.{stays, goes, gone, left}
use Rattle.lsys_flat.proofs.moving.move_kept.Goals as goal
use Rattle.lsys_flat.proofs.moving.move_kept.Goals.{in-Some, in_default}

pub loop-place-preserved : goal.loop-place-preserved
loop-place-preserved g c =
    let ks = c.args.places.now in
    let p = c.loop-place.place in
    let here : slice_get ks p ≡ Some (get_or ks p None) = slice_get-get_or ks p None c.loop-place-test.true in
    elim c.match-places-place.branch [
      | in-Some w ↦
          rw (w.old-is, w.new-is, w.hand_over.ensures.taken, w.hand_over.ensures.put)
          (goes c.args.old.now c.args.new.now ks p w.in-Some.from c.loop-place.old c.loop-place.new (get_or c.loop-place.new p None) c.loop-place.invariant c.requires.apart c.requires.each
          (omega (arith, c.loop-place.invariant.same_new, c.requires.each, c.loop-place-test.true))
          (omega (arith, c.loop-place.invariant.same_old, c.requires.within p w.in-Some.from (here ∙ ap Some w.in-Some.is))) refl (here ∙ ap Some w.in-Some.is))
      | in_default w ↦ rw (w.old-is, w.new-is) (stays c.args.old.now c.args.new.now ks p c.loop-place.old c.loop-place.new c.loop-place.invariant (here ∙ ap Some w.in_default.is))
    ]

pub returns-clause-moved : goal.returns-clause-moved
returns-clause-moved g c = gone c.args.old.now c.args.new.now c.args.places.now c.loop-place.place c.loop-place.old c.loop-place.new c.loop-place.invariant c.requires.each c.loop-place-test.false

pub returns-clause-left : goal.returns-clause-left
returns-clause-left g c = left c.args.old.now c.args.new.now c.args.places.now c.loop-place.place c.loop-place.old c.loop-place.new c.loop-place.invariant c.loop-place-test.false
