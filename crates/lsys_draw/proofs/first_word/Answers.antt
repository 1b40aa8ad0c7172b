use Rattle.std.proofs.Common.{rules, ◌≡◌, ap, ◌∙◌}
use Rattle.std.proofs.lemmas.Nat.{from_le_bytes-to_le_bytes_8}
use Rattle.rand_core.proofs.StepsLemmas.{next_u64-value}
use Rattle.lsys_spec.specs.Draws.{word}
use Rattle.lsys_draw.proofs.first_word.Goals as goal

pub returns : goal.returns
returns c =
    let state : c.from_seed-generator.result ≡ c.args.state = search (rules, from_le_bytes-to_le_bytes_8) in
    next_u64-value _ _ _ _ c.next_u64.ensures ∙ ap word state
