use Rattle.std.proofs.Common.{◌≡◌, ◌≤◌, ◌-◌, ◌+◌, ◌++◌, ◌∷◌, [], ℕ, List, length, set, sym, ap, subst, ◌∙◌, arith, rules, length-append}
use Rattle.std.specs.Prelude.{vec_capacity}
use Rattle.std.proofs.lemmas.List.{get_or_read}
use Rattle.lsys_reads.specs.Runs.{Sights, stretch_at, empty_run, NotesSight}
use Rattle.lsys_reads.proofs.RunLemmas.{sights_of, noted, there_is}
use Rattle.lsys_reads.proofs.runs.Runs.put.Goals as goal

pub returns : goal.returns
returns c =
    let t = c.self.inside in
    let n = c.reader.inside.0 in
    let room = vec_capacity t.cells - length t.cells.items in
    let room' = vec_capacity c.push.new.self - length c.push.new.self.items in
    let within = there_is t.cells.items t.runs.items n c.args.reader room c.args.self.now c.self.view_is c.reader.view_is c.requires.reach in
    let is : c.index-run.result.now ≡ stretch_at t.runs.items n = get_or_read t.runs.items n c.index-run.result.now within (search rules) empty_run in
    let pushed : c.push.new.self.items ≡ t.cells.items ++ c.args.seen ∷ [] = search rules in
    let end : c.up_to-next.result.start + c.up_to-next.result.len ≡ length t.cells.items + 1 =
    (let ends = c.up_to-next.ensures.end in let counted = c.len-last.ensures in let ok = t.cells.ok.0 in omega (arith, ends, counted, ok)) in
    let spare : room ≤ room' + 1 =
    (let capacity = c.push.ensures.capacity in let size = ap length pushed ∙ length-append t.cells.items (c.args.seen ∷ []) in omega (arith, capacity, size)) in
    subst (λ (s : Sights). NotesSight s (sights_of c.push.new.self.items (set t.runs.items n c.up_to-next.result) room') c.args.reader c.args.seen) c.self.view_is
    (subst (λ (m : ℕ). NotesSight (sights_of t.cells.items t.runs.items room) (sights_of c.push.new.self.items (set t.runs.items n c.up_to-next.result) room') m c.args.seen) c.reader.view_is
    (subst (λ (l : List ℕ). NotesSight (sights_of t.cells.items t.runs.items room) (sights_of l (set t.runs.items n c.up_to-next.result) room') n c.args.seen) (sym pushed)
    (noted t.cells.items t.runs.items n c.args.seen room room' c.index-run.result.now c.up_to-next.result c.self.invariant within is c.up_to-next.ensures.start end c.up_to-next.ensures.some spare)))
