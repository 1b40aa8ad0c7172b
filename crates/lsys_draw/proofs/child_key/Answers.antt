use Rattle.std.proofs.Common.{rules, ◌≡◌, ap, ◌∙◌}
use Rattle.lsys_spec.specs.Draws.{word_past}
use Rattle.lsys_spec.proofs.Keys.{any_key}
use Rattle.lsys_draw.proofs.child_key.Goals as goal
use Rattle.lsys_draw.proofs.child_key.Goals.{then-code-eq0, else-code-eq0}

pub returns : goal.returns
returns c =
    let number : c.from.result ≡ c.args.count = search rules in
    c.word_after.ensures ∙ ap (word_past c.if-code-eq0.from) number
    ∙ elim c.if-code-eq0.branch [
      | then-code-eq0 w ↦ any_key c.args.key c.if-code-eq0.from c.args.code c.args.count c.requires (λ e. w.from-is) (λ no. absurd (no (search rules)))
      | else-code-eq0 w ↦ any_key c.args.key c.if-code-eq0.from c.args.code c.args.count c.requires (λ e. absurd (search rules)) (λ no. w.from-is ∙ w.word_after-from.ensures)
    ]
