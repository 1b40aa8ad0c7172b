use Rattle.std.proofs.Common.{arith, rules, ◌<◌}
use Rattle.std.proofs.lemmas.Grind.{common_steps}
use Rattle.lsys_io.proofs.Taken.{took_whole, took_last, line_told, long_told}
use Rattle.lsys_io.proofs.lines.LineReader.next_line.Goals as goal

pub returns-then-gathered-clause-line : goal.returns-then-gathered-clause-line
returns-then-gathered-clause-line g c =
    let gathers = c.in-Ok.ensures.gathers in
    rw (← c.self.view_is, c.in-Going.is) (
    line_told c.finish.result c.in-Ok.gathered.count c.gather.new.line.items c.finish.new.line.items _ c.finish.ensures.finishes (
    took_whole c.self.inside.pieces c.gather.new.pieces gathers.0 c.self.inside.taken c.self.inside.line.items c.finish.new.line.items c.gather.new.line.items _ _ _
    c.in-Ok.gathered gathers.1 gathers.2 c.if-gathered.true
    )
    )

pub returns-then-gathered-clause-long : goal.returns-then-gathered-clause-long
returns-then-gathered-clause-long g c =
    let gathers = c.in-Ok.ensures.gathers in
    rw (← c.self.view_is, c.in-Going.is) (
    long_told c.finish.result c.in-Ok.gathered.count c.gather.new.line.items c.finish.new.line.items _ c.finish.ensures.finishes (
    took_whole c.self.inside.pieces c.gather.new.pieces gathers.0 c.self.inside.taken c.self.inside.line.items c.finish.new.line.items c.gather.new.line.items _ _ _
    c.in-Ok.gathered gathers.1 gathers.2 c.if-gathered.true
    )
    )

pub returns-clause-line : goal.returns-clause-line
returns-clause-line g c =
    let gathers = c.in-Ok.ensures.gathers in
    let some : 0 < c.in-Ok.gathered.count = search rules in
    rw (← c.self.view_is, c.in-Going.is) (
    line_told c.finish-2.result c.in-Ok.gathered.count c.gather.new.line.items c.finish-2.new.line.items _ c.finish-2.ensures.finishes (
    took_last c.self.inside.pieces c.gather.new.pieces gathers.0 c.self.inside.taken c.self.inside.line.items c.finish-2.new.line.items c.gather.new.line.items _ _ _
    c.in-Ok.gathered gathers.1 gathers.2 c.if-gathered.false some (c.in-Ok.ensures.ended c.if-gathered.false)
    )
    )

pub returns-clause-long : goal.returns-clause-long
returns-clause-long g c =
    let gathers = c.in-Ok.ensures.gathers in
    let some : 0 < c.in-Ok.gathered.count = search rules in
    rw (← c.self.view_is, c.in-Going.is) (
    long_told c.finish-2.result c.in-Ok.gathered.count c.gather.new.line.items c.finish-2.new.line.items _ c.finish-2.ensures.finishes (
    took_last c.self.inside.pieces c.gather.new.pieces gathers.0 c.self.inside.taken c.self.inside.line.items c.finish-2.new.line.items c.gather.new.line.items _ _ _
    c.in-Ok.gathered gathers.1 gathers.2 c.if-gathered.false some (c.in-Ok.ensures.ended c.if-gathered.false)
    )
    )

pub returns-in-Err-clause-too_long_only_past_limit : goal.returns-in-Err-clause-too_long_only_past_limit
returns-in-Err-clause-too_long_only_past_limit g c = grind (arith, common_steps)
