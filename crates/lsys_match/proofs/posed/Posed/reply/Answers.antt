use Rattle.std.proofs.Common.{◌≡◌, Err, sym, subst}
use Rattle.lsys_match.specs.Telling.{IsReplyOf, IsSuccessorKept}
use Rattle.lsys_match.proofs.Telling.{err_is}
use Rattle.lsys_match.proofs.posed.Posed.reply.Goals as goal

pub returns-in_err-symbols : goal.returns-in_err-symbols
returns-in_err-symbols c =
    let e : c.from_residual.result ≡ Err c.in_err-symbols.field-0.0 = err_is _ _ c.from_residual.ensures in
    let s : IsSuccessorKept c.args.self.now c.args.chosen c.args.bound.now (Err c.in_err-symbols.field-0.0) =
    subst (IsSuccessorKept c.args.self.now c.args.chosen c.args.bound.now) c.in_err-symbols.was c.kept_symbols.ensures in
    subst (IsReplyOf c.args.self.now c.args.trace.read c.args.chosen c.args.bound.now) (sym e) s
