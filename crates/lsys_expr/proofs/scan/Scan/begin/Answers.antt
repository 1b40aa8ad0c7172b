use Rattle.std.proofs.Common.{◌∷◌}
use Rattle.lsys_expr.specs.declared.roles.Begin.TheVariants as begin
use Rattle.lsys_expr.specs.declared.scan.Awaited.TheVariants.{Operand}
use Rattle.lsys_expr.specs.Levels.{fresh}
use Rattle.lsys_expr.proofs.Seen.{open-seen, prefix-seen}
use Rattle.lsys_expr.proofs.Taken.{seen-as, begins-as, open-over, opened-taken}
use Rattle.lsys_expr.proofs.scan.Scan.begin.Goals as goal

pub returns-in-Parenthesis : goal.returns-in-Parenthesis
returns-in-Parenthesis c = λ s t h b.
    let ls = c.args.self.now.levels in
    let seen = seen-as c.args.self.now.awaited Operand ls s c.requires h in
    (Operand, fresh ∷ ls, open-seen ls s t seen (begins-as c.args.begin begin.Parenthesis t c.in-Parenthesis.is b), open-over ls s (c.is_full.ensures.full c.if-is_full.true) seen)

pub returns-in-Prefix : goal.returns-in-Prefix
returns-in-Prefix c = λ s t h b.
    let ls = c.args.self.now.levels in
    let seen = seen-as c.args.self.now.awaited Operand ls s c.requires h in
    opened-taken ls c.open_prefix.new.self.awaited c.open_prefix.new.self.levels c.open_prefix.result s _ c.open_prefix.ensures
    (prefix-seen ls s t seen (begins-as c.args.begin begin.Prefix t c.in-Prefix.is b))
