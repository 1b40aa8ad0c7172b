use Rattle.std.proofs.Common.{◌≡◌, ◌<◌, ◌+◌, ◌++◌, ◌∷◌, [], List, length, sym, subst, rules}
use Rattle.std.specs.Prelude.{slice_range}
use Rattle.std.proofs.lemmas.List.{get_or_read}
use Rattle.lsys_reads.specs.declared.head.Head.{Head}
use Rattle.lsys_reads.specs.Layout.{head_at, empty_head}
use Rattle.lsys_reads.proofs.PackLemmas.{PacksTo, packs_one}
use Rattle.lsys_reads.proofs.pack.pack.Goals as goal

pub loop-heads-preserved : goal.loop-heads-preserved
loop-heads-preserved c =
    let heads = c.args.heads.now.items in
    let moved = c.loop-heads.moved.items in
    let cells = c.args.cells.now.items in
    let head = c.index-head.result.now in
    let within : length moved < length heads = search rules in
    let is : head ≡ head_at heads (length moved) = get_or_read heads (length moved) head within (search rules) empty_head in
    let pushed : c.push.new.self.items ≡ moved ++ c.in_ok-append.field-0 ∷ [] = search rules in
    let grown : c.append.new.packed.items ≡ c.loop-heads.packed.items ++ slice_range cells head.start (head.start + head.room) = search rules in
    subst (λ (l : List Head). PacksTo heads l cells c.append.new.packed.items) (sym pushed)
    (subst (PacksTo heads (moved ++ c.in_ok-append.field-0 ∷ []) cells) (sym grown)
    (packs_one heads moved cells c.loop-heads.packed.items head c.in_ok-append.field-0 c.requires c.loop-heads.invariant within is c.in_ok-append.ensures.start))
