use Rattle.std.proofs.Common.{◌+◌, ◌*◌, rules, ap, ◌∙◌}
use Rattle.lsys_spec.specs.Draws.{number_base, child_key_of}
use Rattle.lsys_forest.specs.Groves.{now_of}
use Rattle.lsys_pass.proofs.Climbing.{is_below, key_below}
use Rattle.lsys_pass.proofs.key.+key_by_seed.Goals as goal

pub key_by_seed-requires : goal.key_by_seed-requires
key_by_seed-requires g t c κs within =
    let f = c.args.forest.now in
    let b = is_below (now_of f) f.root c.requires.once c.args.node c.in-Some.parent c.parent.result c.requires.lives
    c.parent.ensures.root c.parent.ensures.up c.in-Some.is in
    let nearer = b.nearer in
    search rules

pub returns : goal.returns
returns g t c =
    let f = c.args.forest.now in
    let b = is_below (now_of f) f.root c.requires.once c.args.node c.in-Some.parent c.parent.result c.requires.lives
    c.parent.ensures.root c.parent.ensures.up c.in-Some.is in
    let number = c.number-code.ensures b.node b.is in
    c.child_key.ensures
    ∙ ap (λ key. child_key_of key (number_base * c.number-code.result.0 + c.number-code.result.1)) c.key_by_seed.ensures
    ∙ key_below (now_of f) f.root c.requires.once c.args.seed c.args.node c.in-Some.parent c.number-code.result.0
    c.number-code.result.1 b number.0 number.1
