use Rattle.std.proofs.Common.{◌+◌, ◌%◌, ◌^◌, arith}
use Rattle.lsys_spec.proofs.Keys.{near_key, next_word}
use Rattle.lsys_spec.proofs.draws.law_of_next_seed.Goals as goal

pub returns : goal.returns
returns c seed place h = rw (near_key seed (place + 1) h, near_key ((seed + 1) % 2 ^ 64) place (omega (arith, h))) (next_word seed place)
