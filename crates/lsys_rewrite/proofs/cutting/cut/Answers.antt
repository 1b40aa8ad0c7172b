use Rattle.std.proofs.Common.{◌≡◌, ◌<◌, length, ◌∙◌, ap, sym, false, arith, rules}
use Rattle.std.proofs.lemmas.List.{length-map}
use Rattle.std.specs.Prelude.{slice_index_or}
use Rattle.lsys_module.specs.Views.{symbol_of, string_of}
use Rattle.lsys_rewrite.specs.Cutting.{marked, symbol_stays, next_cutting}
use Rattle.lsys_rewrite.proofs.CutPlaces.{stayed, passed, ended, marks_kept, left_by_cut}
use Rattle.lsys_rewrite.proofs.cutting.cut.Goals.{then-is_kept, else-is_kept}
use Rattle.lsys_rewrite.proofs.cutting.cut.Goals as goal

pub loop-place-preserved : goal.loop-place-preserved
loop-place-preserved c =
    let w = c.loop-place in
    let old = c.args.symbols.now in
    let s = c.index-symbols-place.result in
    let here : w.place < length old = search rules in
    let is : c.stays-is_kept.result ≡ symbol_stays w.cutting (symbol_of s) = search rules in
    let goes_on : c.next_cutting-cutting.result ≡ next_cutting w.cutting (symbol_of s) = search rules in
    elim c.if-is_kept.branch [
      | then-is_kept b ↦ stayed old w.symbols w.kept w.place w.len w.cutting s w.invariant here (search rules) c.stays-is_kept.result c.if-is_kept.symbols c.if-is_kept.len c.next_cutting-cutting.result is goes_on
          b.if-is_kept.true (search rules) (search rules)
      | else-is_kept b ↦ passed old w.symbols w.kept w.place w.len w.cutting s w.invariant here (search rules) c.stays-is_kept.result c.if-is_kept.symbols c.if-is_kept.len c.next_cutting-cutting.result is goes_on
          b.if-is_kept.false (search rules) (search rules)
    ]

pub returns-clause-kept : goal.returns-clause-kept
returns-clause-kept c x of p l =
    let old = c.args.symbols.now in
    let size : length (string_of old) ≡ length old = length-map old symbol_of in
    let all = ended old c.loop-place.symbols c.loop-place.kept c.loop-place.place c.loop-place.len c.loop-place.cutting c.loop-place.invariant (search rules) in
    ap (λ bs. slice_index_or bs p false) all.0 ∙ marks_kept x (string_of old) p of (omega (arith, size, l))

pub returns-clause-cut : goal.returns-clause-cut
returns-clause-cut c x of =
    let old = c.args.symbols.now in
    let all = ended old c.loop-place.symbols c.loop-place.kept c.loop-place.place c.loop-place.len c.loop-place.cutting c.loop-place.invariant (search rules) in
    left_by_cut x old of ∙ ap (λ bs. string_of (marked bs old)) (sym all.0) ∙ ap string_of (sym all.1 ∙ sym c.truncate.ensures)
