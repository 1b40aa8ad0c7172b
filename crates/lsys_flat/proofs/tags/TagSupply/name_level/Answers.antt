use Rattle.std.proofs.Common.{◌≡◌, Some, None, get_or, arith, ap, sym, ◌∙◌}
use Rattle.std.specs.Prelude.{slice_get}
use Rattle.std.proofs.lemmas.Option.{slice_get-get_or}
use Rattle.lsys_flat.specs.Supplies.{in_use}
use Rattle.lsys_flat.proofs.Naming.{one_old, one_new, ended}
use Rattle.lsys_flat.proofs.tags.TagSupply.name_level.Goals as goal
use Rattle.lsys_flat.proofs.tags.TagSupply.name_level.Goals.{in-Some, in-None}

pub bounds-old-place : goal.bounds-old-place
bounds-old-place c = c.requires.within c.loop-mate.mate-index c.in-Some.place (slice_get-get_or c.args.mates.now c.loop-mate.mate-index None c.loop-mate-test.true ∙ ap Some c.in-Some.is)

pub loop-mate-preserved : goal.loop-mate-preserved
loop-mate-preserved c =
    let ms = c.args.mates.now in
    let i = c.loop-mate.mate-index in
    let here : slice_get ms i ≡ Some (get_or ms i None) = slice_get-get_or ms i None c.loop-mate-test.true in
    let old = c.args.old.now in
    let used = c.args.self.now.used in
    elim c.match-mate.branch [
      | in-Some w ↦
          let is : slice_get ms i ≡ Some (Some w.in-Some.place) = here ∙ ap Some w.in-Some.is in
          record {
            completes = rw (c.in_ok-push.ensures.items, w.self-is, w.tag-is)
                (one_old old used ms c.args.self.now.next i c.loop-mate.self.next w.in-Some.place w.index-old-place.result c.loop-mate.tags.items c.loop-mate.invariant.completes is
                (slice_get-get_or old w.in-Some.place w.index-old-place.result (c.requires.within i w.in-Some.place is) ∙ ap Some (sym w.index-old-place.is)));
            few = rw w.self-is (omega (arith, c.loop-mate.invariant.few));
            used = rw w.self-is c.loop-mate.invariant.used;
          }
      | in-None w ↦
          record {
            completes = rw (c.in_ok-push.ensures.items, w.self-is, w.tag-is, w.give-tag.ensures.after)
                (one_new old used ms c.args.self.now.next i c.loop-mate.self.next w.give-tag.result c.loop-mate.tags.items c.loop-mate.invariant.completes (here ∙ ap Some w.in-None.is) w.give-tag.ensures.onward
                (ap (λ u. in_use u w.give-tag.result) (sym c.loop-mate.invariant.used) ∙ w.give-tag.ensures.free));
            few = rw w.self-is (omega (arith, c.loop-mate.invariant.few, w.give-tag.ensures.one));
            used = rw w.self-is (w.give-tag.ensures.used ∙ c.loop-mate.invariant.used);
          }
    ]

pub returns-clause-named : goal.returns-clause-named
returns-clause-named c =
    ended c.args.old.now c.args.self.now.used c.args.mates.now c.args.self.now.next c.loop-mate.mate-index c.loop-mate.self.next c.loop-mate.tags.items c.loop-mate.invariant.completes c.loop-mate-test.false
