use Rattle.std.proofs.Common.{◌≡◌, true, false, sym, ◌∙◌}
use Rattle.lsys_expr.specs.declared.scan.Awaited.TheVariants.{Operator}
use Rattle.lsys_expr.proofs.Taken.{seen-as, whole-ended}
use Rattle.lsys_expr.proofs.scan.Scan.is_whole.Goals as goal
use Rattle.lsys_expr.proofs.scan.Scan.is_whole.Goals.{in-Operator, in_default}

pub returns-then-matches : goal.returns-then-matches
returns-then-matches c = λ s h.
    elim c.match-matches.branch [
      | in-Operator w ↦ whole-ended c.args.self.now.levels s c.is_inside.result c.is_inside.ensures (seen-as c.args.self.now.awaited Operator c.args.self.now.levels s w.in-Operator.is h)
      | in_default w ↦ let both : true ≡ false = sym c.if-matches.true ∙ w.matches-is in absurd (cc)
    ]
