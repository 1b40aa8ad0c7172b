use Rattle.std.proofs.Common.{◌++◌, ◌∷◌, ◌+◌, ◌*◌, ◌/◌, ◌^◌, ap, ◌∙◌}
use Rattle.lsys_spec.specs.Draws.{aim_of, place_past}
use Rattle.lsys_spec.proofs.Picks.{place_past-split, sum-split}
use Rattle.lsys_spec.proofs.draws.law_of_split_weights.Goals as goal

pub returns : goal.returns
returns c draw front a b back =
    place_past-split (aim_of draw (front ++ a ∷ b ∷ back)) front a b back
    ∙ ap (λ n. place_past (draw * n / 2 ^ 64) (front ++ (a + b) ∷ back)) (sum-split front a b back)
