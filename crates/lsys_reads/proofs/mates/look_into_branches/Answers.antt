use Rattle.std.proofs.Common.{◌≡◌, Some, length, slice_get, refl, sym, subst, inl, inr}
use Rattle.std.proofs.lemmas.Option.{slice_get_read}
use Rattle.lsys_reads.specs.Looks.{LooksInto}
use Rattle.lsys_reads.proofs.LevelLemmas.{got_in}
use Rattle.lsys_reads.proofs.SeamLemmas.{in_taken_next, in_all_taken, none_taken}
use Rattle.lsys_reads.proofs.MateLemmas.{into_keep}
use Rattle.lsys_reads.proofs.mates.look_into_branches.Goals as goal

pub loop-node-init : goal.loop-node-init
loop-node-init g c = record { looks = λ q t. absurd (none_taken c.args.turned.now q t); keeps = λ k h. h; below = λ t on k h. inl h }

pub into_branch-requires : goal.into_branch-requires
into_branch-requires g c =
    let xs = c.args.turned.now in
    let i = c.loop-node.node-index in
    let x = c.node-item.result in
    let here : slice_get xs i ≡ Some x = slice_get_read xs (length xs) i x refl c.loop-node-test.true c.node-item.is in
    c.requires x (got_in xs i x here)

pub loop-node-preserved : goal.loop-node-preserved
loop-node-preserved g c =
    let xs = c.args.turned.now in
    let i = c.loop-node.node-index in
    let x = c.node-item.result in
    let here : slice_get xs i ≡ Some x = slice_get_read xs (length xs) i x refl c.loop-node-test.true c.node-item.is in
    let f = c.args.forest.now in
    let new = c.into_branch.new.looked.items in
    let e = c.in_ok-into_branch.ensures in
    record {
      looks = λ q t. elim (in_taken_next xs i x q here t) [
        | inl before ↦ into_keep f q c.loop-node.looked.items new e.keeps (c.loop-node.invariant.looks q before)
        | inr same ↦ subst (λ k. LooksInto f k new) (sym same) e.looks
      ];
      keeps = λ k h. e.keeps k (c.loop-node.invariant.keeps k h);
      below = λ t on k h. elim (e.below t (on x (got_in xs i x here)) k h) [ inl before ↦ c.loop-node.invariant.below t on k before | inr added ↦ inr added ];
    }

pub returns-clause-looks : goal.returns-clause-looks
returns-clause-looks g c = λ q h. c.loop-node.invariant.looks q (in_all_taken c.args.turned.now c.loop-node.node-index q c.loop-node-test.false h)

pub returns-clause-keeps : goal.returns-clause-keeps
returns-clause-keeps g c = c.loop-node.invariant.keeps

pub returns-clause-below : goal.returns-clause-below
returns-clause-below g c = c.loop-node.invariant.below
