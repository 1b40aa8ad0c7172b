use Rattle.std.proofs.Common.{rules, length, refl, arith}
use Rattle.std.proofs.lemmas.Option.{slice_get_read}
use Rattle.lsys_forest.specs.Groves.{now_of}
use Rattle.lsys_motion.proofs.Passing.{going_then, goes_then, keeper_goes, kid_lives}
use Rattle.lsys_motion.proofs.going.+take_below.Goals as goal

pub kids-init : goal.kids-init
kids-init g t c =
    let l = g.T.Lattice.shape in
    let coming = c.args.walk.now.coming in
    let goes = keeper_goes l coming c.args.keeper.now c.begin_where.new.self c.requires.going c.in_ok-begin_where.ensures in
    record { going = going_then l coming coming c.args.keeper.now c.begin_where.new.self c.requires.going goes; goes = goes }

pub take_below-requires : goal.take_below-requires
take_below-requires g t c κs within =
    let l = g.T.Lattice.shape in
    let items = c.children-kids.result.now in
    let kid = c.index-kids-place.result in
    let there = slice_get_read items (length items) c.kids.place kid refl c.kids-test.true c.index-kids-place.is in
    let now = c.kids.walk.coming in
    let next = keeper_goes l now c.kids.keeper c.next_where.new.self c.kids.invariant.going c.in_ok-next_where.ensures in
    let fewer = c.decreases in
    let some = c.if-levels-eq0.false in (
      omega (arith, fewer, some),
      (
        search rules,
        (
          search rules,
          (
            search rules,
            (
              search rules,
              (
                kid_lives (now_of c.args.forest.now) c.args.forest.now.root c.args.node items c.kids.place kid c.children-kids.ensures.under there,
                going_then l now now c.kids.keeper c.next_where.new.self c.kids.invariant.going next,
              ),
            ),
          ),
        ),
      ),
    )

pub kids-preserved : goal.kids-preserved
kids-preserved g t c =
    let l = g.T.Lattice.shape in
    let now = c.kids.walk.coming in
    let then = c.take_below.new.walk.coming in
    let next = keeper_goes l now c.kids.keeper c.next_where.new.self c.kids.invariant.going c.in_ok-next_where.ensures in
    let goes = goes_then l now now then c.kids.keeper c.next_where.new.self c.take_below.new.keeper next c.in_ok-take_below.ensures in
    record {
      going = going_then l now then c.kids.keeper c.take_below.new.keeper c.kids.invariant.going goes;
      goes = goes_then l c.args.walk.now.coming now then c.args.keeper.now c.kids.keeper c.take_below.new.keeper c.kids.invariant.goes goes;
    }
