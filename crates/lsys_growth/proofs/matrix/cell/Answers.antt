use Rattle.std.proofs.Common.{◌≡◌, ℕ, ◌+◌, ◌*◌, ◌<◌, length, get_or, refl, ap, ◌∙◌, arith}
use Rattle.std.proofs.lemmas.Grind.{elements}
use Rattle.lsys_growth.specs.Capped.{cap, capped}
use Rattle.lsys_growth.specs.Sums.{sum_to}
use Rattle.lsys_growth.specs.Matrices.{place, entry}
use Rattle.lsys_growth.proofs.Stopping.{one_more, stays_past, row_within}
use Rattle.lsys_growth.proofs.matrix.cell.Goals as goal

pub returns-in-None : goal.returns-in-None
returns-in-None c =
    let row = c.args.row.now in
    let m = c.args.m.now in
    let places = c.args.places.now in
    let k = c.loop-i.i-index in
    let l : k < length places = grind arith in
    let i = get_or places k 0 in
    let w : i < m.size = let n = c.requires.needed.within k l in let s = c.requires.size in omega (arith, n, s) in
    let b = row_within m.size m.size i c.args.column w c.requires.within in
    let past : cap ≡ capped (c.loop-i.sum + place row i * entry m i c.args.column) = grind (arith, elements) in
    let f : ℕ → ℕ = λ i. place row i * entry m i c.args.column in
    stays_past (length places) k (λ k. f (get_or places k 0)) c.loop-i.sum (place row i) (entry m i c.args.column) l c.loop-i.invariant refl past
    ∙ ap capped (c.requires.needed.sums f (λ j z. ap (λ (n : ℕ). n * entry m j c.args.column) z ∙ (omega arith)) ∙ ap (λ (n : ℕ). sum_to n f) c.requires.size)

pub loop-i-preserved : goal.loop-i-preserved
loop-i-preserved c =
    let row = c.args.row.now in
    let m = c.args.m.now in
    let places = c.args.places.now in
    let k = c.loop-i.i-index in
    let l : k < length places = grind arith in
    let i = get_or places k 0 in
    let w : i < m.size = let n = c.requires.needed.within k l in let s = c.requires.size in omega (arith, n, s) in
    let b = row_within m.size m.size i c.args.column w c.requires.within in
    let r : c.in-Some.more ≡ capped (c.loop-i.sum + place row i * entry m i c.args.column) = grind (arith, elements) in
    one_more k (λ k. let i = get_or places k 0 in place row i * entry m i c.args.column) c.loop-i.sum c.in-Some.more (place row i) (entry m i c.args.column) c.loop-i.invariant refl r
