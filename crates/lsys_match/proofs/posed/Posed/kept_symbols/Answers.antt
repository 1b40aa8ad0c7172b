use Rattle.std.proofs.Common.{rules, Ok, IsTrue, sym, subst}
use Rattle.lsys_match.specs.Telling.{IsSuccessorKept}
use Rattle.lsys_match.proofs.posed.Posed.kept_symbols.Goals as goal

pub returns-then-has_constant : goal.returns-then-has_constant
returns-then-has_constant c =
    let t : IsTrue c.has_constant.result = search rules in
    subst (λ ss. IsSuccessorKept c.args.self.now c.args.chosen c.args.bound.now (Ok ss)) (sym c.new.ensures) (c.has_constant.ensures.some t c.args.bound.now)
