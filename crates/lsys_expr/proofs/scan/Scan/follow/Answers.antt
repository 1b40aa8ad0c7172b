use Rattle.std.proofs.Common.{sym, refl, ◌∙◌, drop}
use Rattle.lsys_syntax.specs.ExpressionMachine.{step}
use Rattle.lsys_expr.specs.declared.roles.Follow.TheVariants as follow
use Rattle.lsys_expr.specs.declared.scan.Awaited.TheVariants.{Operand, Operator, SecondAnd, SecondOr}
use Rattle.lsys_expr.specs.Levels.{shallow, comparing, cleared, is_inside}
use Rattle.lsys_expr.specs.Scanning.{IsSeen}
use Rattle.lsys_expr.proofs.Seen.{power-seen, compare-seen, compare-stops, compare-ends, and-seen, or-seen, close-inside, close-ends, other-stops, other-ends}
use Rattle.lsys_expr.proofs.Taken.{seen-as, follows-as, kept-as, next-taken, opened-taken, operator-seen, ended-taken}
use Rattle.lsys_expr.proofs.scan.Scan.follow.Goals as goal

pub returns-in-Power : goal.returns-in-Power
returns-in-Power c = λ s t h b.
    let ls = c.args.self.now.levels in
    let seen = seen-as c.args.self.now.awaited Operator ls s c.requires h in
    opened-taken ls c.open_prefix.new.self.awaited c.open_prefix.new.self.levels c.open_prefix.result s _ c.open_prefix.ensures
    (power-seen ls s t seen (follows-as c.args.follow follow.Power t c.in-Power.is b))

pub returns-in-Product : goal.returns-in-Product
returns-in-Product c = λ s t h b.
    let ls = c.args.self.now.levels in
    let seen = seen-as c.args.self.now.awaited Operator ls s c.requires h in
    next-taken c.await_next.new.self Operand c.end_prefixes.new.self (shallow ls) c.await_next.result s _ c.await_next.ensures.goes c.await_next.ensures.next c.end_prefixes.ensures.levels
    (operator-seen c.args.follow ls s t c.in-Product.is seen b) c.end_prefixes.ensures.within

pub returns-in-Comparison : goal.returns-in-Comparison
returns-in-Comparison c = λ s t h b.
    let ls = c.args.self.now.levels in
    let seen = seen-as c.args.self.now.awaited Operator ls s c.requires h in
    let compares = follows-as c.args.follow follow.Comparison t c.in-Comparison.is b in
    let again = sym c.is_compared.ensures ∙ c.if-is_compared.true in
    ended-taken c.args.self.now.awaited ls ls c.end.result s (step s t) (is_inside ls) refl c.end.ensures.inside c.end.ensures.outside
    (λ i. compare-stops ls s t seen compares again i) (λ i. compare-ends ls s t seen compares again i)

pub returns-in-Comparison-2 : goal.returns-in-Comparison-2
returns-in-Comparison-2 c = λ s t h b.
    let ls = c.args.self.now.levels in
    let seen = seen-as c.args.self.now.awaited Operator ls s c.requires h in
    let next = c.await_next-in-Comparison-2 in
    next-taken next.new.self Operand c.compare.new.self (comparing ls) next.result s _ next.ensures.goes next.ensures.next c.compare.ensures.levels
    (compare-seen ls s t seen (follows-as c.args.follow follow.Comparison t c.in-Comparison-2.is b) (sym c.is_compared.ensures ∙ c.if-is_compared.false)) c.compare.ensures.within

pub returns-in-And : goal.returns-in-And
returns-in-And c = λ s t h b.
    let ls = c.args.self.now.levels in
    let seen = seen-as c.args.self.now.awaited Operator ls s c.requires h in
    let next = c.await_next-in-And in
    next-taken next.new.self SecondAnd c.clear.new.self (cleared ls) next.result s _ next.ensures.goes next.ensures.next c.clear.ensures.levels
    (and-seen ls s t seen (follows-as c.args.follow follow.And t c.in-And.is b)) c.clear.ensures.within

pub returns-in-Or : goal.returns-in-Or
returns-in-Or c = λ s t h b.
    let ls = c.args.self.now.levels in
    let seen = seen-as c.args.self.now.awaited Operator ls s c.requires h in
    let next = c.await_next-in-Or in
    next-taken next.new.self SecondOr c.clear-in-Or.new.self (cleared ls) next.result s _ next.ensures.goes next.ensures.next c.clear-in-Or.ensures.levels
    (or-seen ls s t seen (follows-as c.args.follow follow.Or t c.in-Or.is b)) c.clear-in-Or.ensures.within

pub returns-in-Closing : goal.returns-in-Closing
returns-in-Closing c = λ s t h b.
    let ls = c.args.self.now.levels in
    let seen = seen-as c.args.self.now.awaited Operator ls s c.requires h in
    let after : IsSeen Operator (drop 1 ls) (step s t) = close-inside ls s t seen (follows-as c.args.follow follow.Closing t c.in-Closing.is b) (sym c.is_inside.ensures ∙ c.if-is_inside.true) in
    kept-as c.args.self.now.awaited Operator c.close_parenthesis.new.self (drop 1 ls) (step s t) c.requires c.close_parenthesis.ensures.levels after c.close_parenthesis.ensures.within

pub returns-in-Closing-2 : goal.returns-in-Closing-2
returns-in-Closing-2 c = λ s t h b.
    let ls = c.args.self.now.levels in
    let seen = seen-as c.args.self.now.awaited Operator ls s c.requires h in
    close-ends ls s t seen (follows-as c.args.follow follow.Closing t c.in-Closing.is b) (sym c.is_inside.ensures ∙ c.if-is_inside.false)

pub returns-in-Other : goal.returns-in-Other
returns-in-Other c = λ s t h b.
    let ls = c.args.self.now.levels in
    let seen = seen-as c.args.self.now.awaited Operator ls s c.requires h in
    let other = follows-as c.args.follow follow.Other t c.in-Other.is b in
    let end = c.end-in-Other in
    ended-taken c.args.self.now.awaited ls ls end.result s (step s t) (is_inside ls) refl end.ensures.inside end.ensures.outside
    (λ i. other-stops ls s t seen other i) (λ i. other-ends ls s t seen other i)
