use Rattle.std.proofs.Common.{◌≡◌, true, false, sym, ◌∙◌}
use Rattle.lsys_syntax.specs.Tokens.{Kind}
use Rattle.lsys_syntax.specs.ExpressionMachine.{step}
use Rattle.lsys_syntax.specs.RuleMachine.{small}
use Rattle.lsys_text.specs.Tokens.{kind_of}
use Rattle.lsys_expr.specs.declared.roles.Follow.TheVariants as follow
use Rattle.lsys_expr.specs.declared.scan.Awaited.TheVariants.{Operand, SecondAnd, SecondOr}
use Rattle.lsys_expr.specs.Scanning.{IsSeen, StopsThere}
use Rattle.lsys_expr.proofs.Seen.{second_and-seen, second_and-stops, second_or-seen, second_or-stops}
use Rattle.lsys_expr.proofs.Taken.{seen-as, follows-as, second-taken}
use Rattle.lsys_expr.proofs.scan.Scan.take.Goals as goal
use Rattle.lsys_expr.proofs.scan.Scan.take.Goals.{in-And, in_default, in-Or, in_default-matches}

pub returns-after-matches : goal.returns-after-matches
returns-after-matches c = λ s h.
    let ls = c.args.self.now.levels in
    let t : Kind = small (kind_of c.args.kind) in
    let seen : IsSeen SecondAnd ls s = seen-as c.args.self.now.awaited SecondAnd ls s c.in-SecondAnd.is h in
    let follow_of = c.follow_of-in-SecondAnd in
    let yes : c.match-matches.matches ≡ true → IsSeen Operand ls (step s t) = λ e.
    elim c.match-matches.branch [
      | in-And w ↦ second_and-seen ls s t seen (follows-as follow_of.result follow.And t w.in-And.is follow_of.ensures)
      | in_default w ↦ let both : true ≡ false = sym e ∙ w.matches-is in absurd (cc)
    ] in
    let none : c.match-matches.matches ≡ false → StopsThere s (step s t) = λ e.
    elim c.match-matches.branch [
      | in-And w ↦ let both : true ≡ false = sym w.matches-is ∙ e in absurd (cc)
      | in_default w ↦ second_and-stops ls s follow_of.result t seen follow_of.ensures w.in_default.not-And
    ] in
    second-taken c.second.new.self c.args.self.now c.second.result s (step s t) c.match-matches.matches c.second.ensures.yes c.second.ensures.none h.1 yes none

pub returns-after-matches-2 : goal.returns-after-matches-2
returns-after-matches-2 c = λ s h.
    let ls = c.args.self.now.levels in
    let t : Kind = small (kind_of c.args.kind) in
    let seen : IsSeen SecondOr ls s = seen-as c.args.self.now.awaited SecondOr ls s c.in-SecondOr.is h in
    let follow_of = c.follow_of-in-SecondOr in
    let second = c.second-in-SecondOr in
    let yes : c.match-matches-2.matches ≡ true → IsSeen Operand ls (step s t) = λ e.
    elim c.match-matches-2.branch [
      | in-Or w ↦ second_or-seen ls s t seen (follows-as follow_of.result follow.Or t w.in-Or.is follow_of.ensures)
      | in_default-matches w ↦ let both : true ≡ false = sym e ∙ w.matches-is in absurd (cc)
    ] in
    let none : c.match-matches-2.matches ≡ false → StopsThere s (step s t) = λ e.
    elim c.match-matches-2.branch [
      | in-Or w ↦ let both : true ≡ false = sym w.matches-is ∙ e in absurd (cc)
      | in_default-matches w ↦ second_or-stops ls s follow_of.result t seen follow_of.ensures w.in_default-matches.not-Or
    ] in
    second-taken second.new.self c.args.self.now second.result s (step s t) c.match-matches-2.matches second.ensures.yes second.ensures.none h.1 yes none
