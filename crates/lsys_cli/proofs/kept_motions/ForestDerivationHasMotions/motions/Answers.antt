use Rattle.std.proofs.Common.{◌+◌, ◌∙◌, ap, subst, sym, take}
use Rattle.lsys_forest.specs.Groves.{now_of}
use Rattle.lsys_forest.specs.Rows.{complete_levels}
use Rattle.lsys_motion.proofs.Lasts.{has_last, last_same}
use Rattle.lsys_motion.specs.Refusals.{IsAsTold}
use Rattle.lsys_motion.specs.Told.{told}
use Rattle.lsys_out.specs.Drawings.{last_symbols}
use Rattle.lsys_out.specs.Nesting.{HasLast}
use Rattle.lsys_out.specs.Shown.{on_lattice}
use Rattle.lsys_cli.proofs.Keyed.{unkeyed_last, last_unkeyed}
use Rattle.lsys_cli.proofs.kept_motions.ForestDerivationHasMotions.motions.Goals as goal

pub new-requires : goal.new-requires
new-requires g c =
    let s = c.args.self.now.system in
    let f = c.forest.result.now in
    rw c.system.ensures.system
    (has_last s (complete_levels f)
    (unkeyed_last s.seed (now_of f) s (take (s.depth + 1) (complete_levels f))
    (subst (λ levels. HasLast s levels) (sym c.forest.ensures) c.requires)))

pub returns : goal.returns
returns g c = λ naming.
    let s = c.args.self.now.system in
    let f = c.forest.result.now in
    subst (λ x. IsAsTold (told (on_lattice g.T.Lattice.shape s) x) c.new.result)
    (sym (last_same naming s (complete_levels f)) ∙ sym
    (last_unkeyed s.seed (now_of f) naming s (take (s.depth + 1) (complete_levels f))) ∙ ap
    (last_symbols naming s) c.forest.ensures)
    (rw c.system.ensures.system at (c.new.ensures naming))
