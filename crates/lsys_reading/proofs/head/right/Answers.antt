use Rattle.std.proofs.Common.{arith, sym, ◌∙◌, refl, subst}
use Rattle.std.proofs.lemmas.Result.{err_from_is_err_and}
use Rattle.std.proofs.lemmas.Grind.{common_steps}
use Rattle.lsys_reading.specs.Tokens.{kinds_in}
use Rattle.lsys_reading.specs.Heads.{IsContext}
use Rattle.lsys_reading.proofs.HeadReads.{right-err, right-read, right-refused}
use Rattle.lsys_reading.proofs.head.right.Goals as goal

pub returns-in_err-read-clause-read : goal.returns-in_err-read-clause-read
returns-in_err-read-clause-read c =
    let ks = kinds_in c.args.line.now in
    let p = err_from_is_err_and c.from_residual.result c.from_residual.ensures.1 in
    rw (p.1, p.2) (right-err c.args.form ks c.args.at c.peek.result c.peek.ensures (sym c.takes_right.ensures ∙ c.if-not-takes_right.false) c.in_err-read.field-0.0 c.in_err-read.ensures.read)

pub returns-then-not-is_context-clause-read : goal.returns-then-not-is_context-clause-read
returns-then-not-is_context-clause-read c =
    let ks = kinds_in c.args.line.now in
    let a = c.in_ok-read.read in
    right-refused c.args.form ks c.args.at c.peek.result c.peek.ensures (sym c.takes_right.ensures ∙ c.if-not-takes_right.false) a c.in_ok-read.ensures.read c.in_ok-read.ensures.branches
    (subst (λ b. IsContext b a.symbols.items a.branches) c.if-not-is_context.true c.is_context.ensures)

pub returns-clause-read : goal.returns-clause-read
returns-clause-read c =
    let ks = kinds_in c.args.line.now in
    let a = c.in_ok-read.read in
    right-read c.args.form ks c.args.at c.peek.result c.peek.ensures (sym c.takes_right.ensures ∙ c.if-not-takes_right.false) a c.in_ok-read.ensures.read c.in_ok-read.ensures.branches
    (subst (λ b. IsContext b a.symbols.items a.branches) c.if-not-is_context.false c.is_context.ensures) (record { right = a.symbols; end = a.end }) refl refl

pub returns-then-not-takes_right-clause-read : goal.returns-then-not-takes_right-clause-read
returns-then-not-takes_right-clause-read c = grind (arith, common_steps)

pub patterns-requires : goal.patterns-requires
patterns-requires c = grind (arith, common_steps)
