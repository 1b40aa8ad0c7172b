use Rattle.std.proofs.Common.{arith, ◌≡◌, ap, ◌∙◌, sym, refl, Some, length, slice_get, append-nil}
use Rattle.std.proofs.lemmas.Option.{slice_get_read}
use Rattle.std.proofs.lemmas.Grind.{elements, common_steps}
use Rattle.lsys_forest.specs.Groves.{now_of}
use Rattle.lsys_forest.specs.Rows.{kids_in}
use Rattle.lsys_forest.proofs.SoundLemmas.{some_of}
use Rattle.lsys_forest.proofs.WalkLemmas.{get_In}
use Rattle.lsys_front.proofs.Ending.{below_more, extended, kids_live}
use Rattle.lsys_front.proofs.ends.add_children.Goals as goal

pub loop-node-init : goal.loop-node-init
loop-node-init g c = record { below = sym (append-nil c.args.below.now.items); lives = λ k h. absurd h }

pub children-requires : goal.children-requires
children-requires g c =
    let xs = c.args.nodes.now in
    let i = c.loop-node.node-index in
    let x = c.node-item.result in
    let here : slice_get xs i ≡ Some x = slice_get_read xs (length xs) i x refl c.loop-node-test.true c.node-item.is in
    c.requires.lives x (get_In xs i x here)

pub loop-node-preserved : goal.loop-node-preserved
loop-node-preserved g c =
    let xs = c.args.nodes.now in
    let i = c.loop-node.node-index in
    let x = c.node-item.result in
    let m = now_of c.args.forest.now in
    let here : slice_get xs i ≡ Some x = slice_get_read xs (length xs) i x refl c.loop-node-test.true c.node-item.is in
    let lives = c.requires.lives x (get_In xs i x here) in
    let n = some_of (m x) lives in
    let kids : kids_in (m x) ≡ c.children.result.now = ap (λ o. kids_in o) n.1 ∙ sym (c.children.ensures.kids n.0 n.1) in
    record {
      below =
          below_more m xs i x c.args.below.now.items c.loop-node.below.items c.extend_from_slice.new.self.items here c.loop-node.invariant.below
          (extended c.loop-node.below.items c.children.result.now (kids_in (m x)) c.extend_from_slice.new.self.items c.in_ok-extend_from_slice.ensures.items (sym kids));
      lives = kids_live c.args.forest.now xs i x here c.children.result.now c.children.ensures.kids c.children.ensures.under lives c.loop-node.invariant.lives;
    }

pub returns-clause-below : goal.returns-clause-below
returns-clause-below g c = grind (arith, common_steps)

pub returns-clause-lives : goal.returns-clause-lives
returns-clause-lives g c = grind (arith, elements)

pub returns-in_err-extend_from_slice-clause-lives : goal.returns-in_err-extend_from_slice-clause-lives
returns-in_err-extend_from_slice-clause-lives g c = grind (arith, common_steps)

pub returns-in_err-extend_from_slice-clause-below : goal.returns-in_err-extend_from_slice-clause-below
returns-in_err-extend_from_slice-clause-below g c = grind (arith, common_steps)
