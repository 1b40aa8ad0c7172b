use Rattle.std.proofs.Common.{◌-◌, ◌<◌, false, List, length, arith}
use Rattle.std.specs.Prelude.{slice_index_or}
use Rattle.std.proofs.lemmas.Option.{slice_get-get_or}
use Rattle.lsys_pass.specs.declared.sizes.Size.{Size}
use Rattle.lsys_pass.proofs.SizesTold.{told_at}
use Rattle.lsys_pass.proofs.sizes.set_last.Goals as goal

pub returns-then-levels-gt0-clause-set : goal.returns-then-levels-gt0-clause-set
returns-then-levels-gt0-clause-set c =
    let xs : List Size = c.args.sizes.now in
    let some = c.if-levels-gt0.true in
    let last : length xs - 1 < length xs = omega (arith, some) in
    told_at xs (length xs - 1) c.args.is_open (slice_index_or xs (length xs - 1) (record { symbols = 0; is_open = false })) (omega (arith, some)) (slice_get-get_or xs (length xs - 1) (record { symbols = 0; is_open = false }) last)
