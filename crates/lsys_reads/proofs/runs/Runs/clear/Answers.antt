use Rattle.std.proofs.Common.{◌-◌, ℕ, length, set, subst, rules}
use Rattle.std.specs.Prelude.{vec_capacity}
use Rattle.lsys_reads.specs.Runs.{Sights, ClearsSights}
use Rattle.lsys_reads.proofs.RunLemmas.{sights_of, cleared}
use Rattle.lsys_reads.proofs.runs.Runs.clear.Goals as goal

pub returns-then-place-len : goal.returns-then-place-len
returns-then-place-len c =
    let t = c.self.inside in
    let n = c.reader.inside.0 in
    let room = vec_capacity t.cells - length t.cells.items in
    let now = sights_of t.cells.items (set t.runs.items n c.new.result) room in
    subst (λ (s : Sights). ClearsSights s now c.args.reader) c.self.view_is
    (subst (λ (m : ℕ). ClearsSights (sights_of t.cells.items t.runs.items room) now m) c.reader.view_is
    (cleared t.cells.items t.runs.items n room c.new.result (search rules) c.new.ensures))
