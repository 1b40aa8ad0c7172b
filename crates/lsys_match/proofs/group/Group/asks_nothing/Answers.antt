use Rattle.std.proofs.Common.{rules, ◌≡◌, true, false, not, is_some, ◌&&◌, Some, None, ◌∷◌, [], slice_get, ap, sym, ◌∙◌}
use Rattle.lsys_spec.specs.Standings.{free}
use Rattle.lsys_match.specs.Groups.{meant, rules_of}
use Rattle.lsys_match.proofs.Plain.{asks_first}
use Rattle.lsys_match.proofs.group.Group.asks_nothing.Goals as goal

pub returns-in_default : goal.returns-in_default
returns-in_default c =
    let none : None ≡ slice_get (rules_of c.args.self.now) 0 = search rules in
    sym (asks_first (rules_of c.args.self.now) None none)

pub returns-then-not-has_context : goal.returns-then-not-has_context
returns-then-not-has_context c =
    let b = meant c.in-Some.body.now in
    let bare : free (b ∷ []) ≡ true = search rules in
    let none : c.is_none.result ≡ not (is_some b.condition) = search rules in
    none ∙ sym (asks_first (rules_of c.args.self.now) (Some b) c.in-Some.ensures.body ∙ ap (λ f. f && not (is_some b.condition)) bare)

pub returns-else-not-has_context : goal.returns-else-not-has_context
returns-else-not-has_context c =
    let b = meant c.in-Some.body.now in
    let some : free (b ∷ []) ≡ false = search rules in
    let no : not c.has_context.result ≡ false = search rules in
    no ∙ sym (asks_first (rules_of c.args.self.now) (Some b) c.in-Some.ensures.body ∙ ap (λ f. f && not (is_some b.condition)) some)
