use Rattle.std.proofs.Common.{◌≡◌, ◌<◌, ◌++◌, ◌∷◌, [], List, length, sym, subst, rules}
use Rattle.std.proofs.lemmas.List.{get_or_read}
use Rattle.lsys_reads.specs.declared.runs.Stretch.{Stretch}
use Rattle.lsys_reads.specs.Runs.{stretch_at, empty_run, run_in_cells}
use Rattle.lsys_reads.proofs.RunLemmas.{PacksTo, packs_run}
use Rattle.lsys_reads.proofs.runs.pack.Goals as goal

pub loop-runs-preserved : goal.loop-runs-preserved
loop-runs-preserved c =
    let runs = c.args.runs.now.items in
    let moved = c.loop-runs.moved.items in
    let cells = c.args.cells.now.items in
    let run = c.index-run.result.now in
    let within : length moved < length runs = search rules in
    let is : run ≡ stretch_at runs (length moved) = get_or_read runs (length moved) run within (search rules) empty_run in
    let pushed : c.push.new.self.items ≡ moved ++ c.in_ok-append.field-0 ∷ [] = search rules in
    let grown : c.append.new.packed.items ≡ c.loop-runs.packed.items ++ run_in_cells cells run = search rules in
    subst (λ (l : List Stretch). PacksTo runs l cells c.append.new.packed.items) (sym pushed)
    (subst (PacksTo runs (moved ++ c.in_ok-append.field-0 ∷ []) cells) (sym grown)
    (packs_run runs moved cells c.loop-runs.packed.items run c.in_ok-append.field-0 c.requires c.loop-runs.invariant within is c.in_ok-append.ensures.run))
