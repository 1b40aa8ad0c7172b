use Rattle.std.proofs.Common.{arith, rules, sym, ◌∙◌, true≢false}
use Rattle.std.proofs.lemmas.Grind.{common_steps}
use Rattle.lsys_io.proofs.SoFar.{so_far_read, so_far_more, so_far_whole, so_far_past, no_lf_taken, has_lf-more}
use Rattle.lsys_io.proofs.gathering.gather.Goals as goal

pub returns-in-None-clause-stops : goal.returns-in-None-clause-stops
returns-in-None-clause-stops g c =
    let read = c.in-Ok-true.ensures.read in
    let s =
    so_far_read c.args.pieces.now c.bytes.pieces c.fill.new.self (g.S.Source.left c.args.source.now) (g.S.Source.left c.bytes.source)
    (g.S.Source.left c.fill.new.source) c.bytes.line.items c.bytes.count c.args.room read.0 c.bytes.invariant.so_far read.1 read.2 in
    (s.given, s.consumed, so_far_past c.args.pieces.now c.fill.new.self _ _ _ c.bytes.count c.args.room s c.in-None.ensures.past)

pub returns-in-Some-clause-gathers : goal.returns-in-Some-clause-gathers
returns-in-Some-clause-gathers g c =
    let read = c.in-Ok-true.ensures.read in
    let s =
    so_far_read c.args.pieces.now c.bytes.pieces c.fill.new.self (g.S.Source.left c.args.source.now) (g.S.Source.left c.bytes.source)
    (g.S.Source.left c.fill.new.source) c.bytes.line.items c.bytes.count c.args.room read.0 c.bytes.invariant.so_far read.1 read.2 in (
      s.given,
      s.consumed,
      so_far_whole c.args.pieces.now c.fill.new.self c.absorb.new.pieces _ _ _ _ c.bytes.count c.args.room c.in-Some.gathered s c.in-Some.ensures.absorbs,
    )

pub bytes-preserved : goal.bytes-preserved
bytes-preserved g c =
    let read = c.in-Ok-true.ensures.read in
    let s =
    so_far_read c.args.pieces.now c.bytes.pieces c.fill.new.self (g.S.Source.left c.args.source.now) (g.S.Source.left c.bytes.source)
    (g.S.Source.left c.fill.new.source) c.bytes.line.items c.bytes.count c.args.room read.0 c.bytes.invariant.so_far read.1 read.2 in record {
      so_far = so_far_more c.args.pieces.now c.fill.new.self c.absorb.new.pieces _ _ _ _ c.bytes.count c.args.room c.in-Some.gathered s c.in-Some.ensures.absorbs c.if-gathered.false;
      faults = search rules;
      held = λ h. absurd (
          true≢false (
          sym (has_lf-more c.bytes.pieces read.0 c.fill.new.self (c.bytes.invariant.held h).1 read.2)
          ∙ no_lf_taken c.fill.new.self c.absorb.new.pieces _ _ c.bytes.count c.args.room c.in-Some.gathered c.in-Some.ensures.absorbs c.if-gathered.false
          )
          );
      capacity = search rules;
      before = search rules;
    }

pub returns-in-Ok-false-clause-gathers : goal.returns-in-Ok-false-clause-gathers
returns-in-Ok-false-clause-gathers g c = grind (arith, common_steps)

pub returns-in-Some-clause-no_read_while_held : goal.returns-in-Some-clause-no_read_while_held
returns-in-Some-clause-no_read_while_held g c = grind (arith, common_steps)
