use Rattle.std.proofs.Common.{◌<◌, length, arith}
use Rattle.std.proofs.lemmas.List.{length-map}
use Rattle.std.proofs.lemmas.Result.{err_from_is_err_and}
use Rattle.lsys_syntax.specs.Tokens.{Greater}
use Rattle.lsys_reading.specs.Heads.{patterns_of}
use Rattle.lsys_reading.specs.Patterns.{symbol_read}
use Rattle.lsys_bodies.proofs.CountLoops.{right-whole, right-passed, section-is}
use Rattle.lsys_bodies.proofs.many.count_right.Goals as goal

pub returns-in_err-marked : goal.returns-in_err-marked
returns-in_err-marked c =
    let some : 0 < length (patterns_of c.args.symbols.now) = grind (arith, length-map c.args.symbols.now symbol_read) in
    let p = err_from_is_err_and c.from_residual.result c.from_residual.ensures.1 in
    rw (p.1, p.2) (right-passed c.args.counter (patterns_of c.args.symbols.now) some (c.in_err-marked.ensures.counted Greater))

pub returns : goal.returns
returns c =
    let some : 0 < length (patterns_of c.args.symbols.now) = grind (arith, length-map c.args.symbols.now symbol_read) in
    let s = c.section.ensures in
    right-whole c.args.counter c.in_ok-marked.marked c.section.result (patterns_of c.args.symbols.now) some (c.in_ok-marked.ensures.counted Greater) s.tokens (section-is c.in_ok-marked.marked c.section.result 16 s.tokens s.symbols s.most s.params) c.count_patterns.ensures
