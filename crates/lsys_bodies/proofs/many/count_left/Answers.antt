use Rattle.std.proofs.Common.{◌<◌, length, arith}
use Rattle.std.proofs.lemmas.List.{length-map}
use Rattle.std.proofs.lemmas.Result.{err_from_is_err_and}
use Rattle.lsys_syntax.specs.Tokens.{Less}
use Rattle.lsys_reading.specs.Heads.{patterns_of}
use Rattle.lsys_reading.specs.Patterns.{symbol_read}
use Rattle.lsys_bodies.proofs.CountLoops.{left-whole, left-passed, section-is}
use Rattle.lsys_bodies.proofs.many.count_left.Goals as goal

pub returns-in_err-counted : goal.returns-in_err-counted
returns-in_err-counted c =
    let some : 0 < length (patterns_of c.args.symbols.now) = grind (arith, length-map c.args.symbols.now symbol_read) in
    let p = err_from_is_err_and c.from_residual.result c.from_residual.ensures.1 in
    let s = c.section.ensures in
    rw (p.1, p.2) (left-passed c.args.counter c.section.result (patterns_of c.args.symbols.now) some s.tokens (section-is c.args.counter c.section.result 8 s.tokens s.symbols s.most s.params) c.in_err-counted.ensures)

pub returns : goal.returns
returns c =
    let some : 0 < length (patterns_of c.args.symbols.now) = grind (arith, length-map c.args.symbols.now symbol_read) in
    let s = c.section.ensures in
    left-whole c.args.counter c.section.result (patterns_of c.args.symbols.now) some s.tokens (section-is c.args.counter c.section.result 8 s.tokens s.symbols s.most s.params) c.in_ok-counted.ensures (c.mark.ensures.counted Less)
