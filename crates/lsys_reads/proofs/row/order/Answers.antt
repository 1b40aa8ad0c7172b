use Rattle.std.proofs.Common.{◌≡◌, ℕ, List, ◌++◌, length, take, drop, ap, ◌∙◌, length-take-le}
use Rattle.std.proofs.lemmas.List.{take_at}
use Rattle.lsys_reads.specs.Rows.{has}
use Rattle.lsys_reads.proofs.RowLemmas.{has_in_order}
use Rattle.lsys_reads.proofs.row.order.Goals as goal

pub returns-then-is_rising-2-clause-tags : goal.returns-then-is_rising-2-clause-tags
returns-then-is_rising-2-clause-tags c = λ q.
    let turned = c.reverse.new.self in
    let size : length turned ≡ c.args.len = c.reverse.ensures.len ∙ length-take-le c.args.len c.args.cells.now c.requires.room in
    ap (λ (l : List ℕ). has l q) (take_at turned _ c.args.len size) ∙ has_in_order (take c.args.len c.args.cells.now) turned q c.reverse.ensures.permutation

pub returns-clause-tags : goal.returns-clause-tags
returns-clause-tags c = λ q.
    let turned = c.reverse.new.self in
    let size : length turned ≡ c.args.len = c.reverse.ensures.len ∙ length-take-le c.args.len c.args.cells.now c.requires.room in
    let all : List ℕ = turned ++ drop c.args.len c.args.cells.now in
    let here : take c.args.len all ≡ turned = take_at turned _ c.args.len size in
    let long : length c.sort_unstable.new.self ≡ c.args.len = c.sort_unstable.ensures.len ∙ ap length here ∙ size in
    c.dedup.ensures.tags q ∙ ap (λ (l : List ℕ). has l q) (take_at c.sort_unstable.new.self _ c.args.len long)
    ∙ has_in_order (take c.args.len all) c.sort_unstable.new.self q c.sort_unstable.ensures.permutation
    ∙ ap (λ (l : List ℕ). has l q) here ∙ has_in_order (take c.args.len c.args.cells.now) turned q c.reverse.ensures.permutation
