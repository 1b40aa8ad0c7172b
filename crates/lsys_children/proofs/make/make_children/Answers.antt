use Rattle.std.proofs.Common.{◌≡◌, List, Some, length, refl, ap, ◌∙◌, ◌++◌, subst, slice_get, arith}
use Rattle.std.proofs.lemmas.Option.{slice_get_read}
use Rattle.lsys_spec.specs.Rows.{mirrored}
use Rattle.lsys_forest.specs.Groves.{Grove, now_of, live_nodes}
use Rattle.lsys_match.specs.Kept.{Kept}
use Rattle.lsys_reading.specs.Commands.{numbering_of}
use Rattle.lsys_children.specs.Children.{SpendsNeed}
use Rattle.lsys_children.proofs.MatchLemmas.{take_whole}
use Rattle.lsys_children.specs.Renewals.{AreRenewals}
use Rattle.lsys_children.specs.declared.parent.Parent.{Parent}
use Rattle.lsys_children.specs.Parents.{nodes_in}
use Rattle.lsys_children.specs.Needs.{need_at_parent, needs}
use Rattle.lsys_children.specs.Made.{TellsAllOf, gone_of}
use Rattle.lsys_children.proofs.Among.{some_is, among, part_sum}
use Rattle.lsys_children.proofs.Making.{none_made, is_now, room_here, one_more, short_now}
use Rattle.lsys_children.proofs.make.make_children.Goals as goal

pub loop-parent-init : goal.loop-parent-init
loop-parent-init g c = record {
  made = none_made (numbering_of c.args.numbering) c.args.forest.now c.args.changes.now c.args.parents.now c.requires.room;
  rest = refl;
  kept = refl;
  root = refl;
}

pub make_one-requires-clause-lives : goal.make_one-requires-clause-lives
make_one-requires-clause-lives g c =
    let ps = c.args.parents.now in
    let i = c.loop-parent.parent-index in
    let p = c.parent-item.result in
    let here : slice_get ps i ≡ Some p = slice_get_read ps (length ps) i p refl c.loop-parent-test.true c.parent-item.is in
    let has = c.requires.parents in
    some_is (now_of c.loop-parent.forest p.node) (has.2.each p.node (among ps i p here)).node (is_now (numbering_of c.args.numbering) c.args.forest.now c.loop-parent.forest c.args.changes.now c.loop-parent.changes ps i p here has c.requires.sound c.loop-parent.invariant.made)

pub make_one-requires-clause-short : goal.make_one-requires-clause-short
make_one-requires-clause-short g c =
    let ps = c.args.parents.now in
    let i = c.loop-parent.parent-index in
    let p = c.parent-item.result in
    let here : slice_get ps i ≡ Some p = slice_get_read ps (length ps) i p refl c.loop-parent-test.true c.parent-item.is in
    short_now (numbering_of c.args.numbering) c.args.forest.now c.loop-parent.forest c.args.changes.now c.loop-parent.changes ps i p here c.requires.parents c.requires.sound c.loop-parent.invariant.made

pub make_one-requires-clause-room : goal.make_one-requires-clause-room
make_one-requires-clause-room g c =
    let ps = c.args.parents.now in
    let i = c.loop-parent.parent-index in
    let p = c.parent-item.result in
    let here : slice_get ps i ≡ Some p = slice_get_read ps (length ps) i p refl c.loop-parent-test.true c.parent-item.is in
    room_here (numbering_of c.args.numbering) c.args.forest.now c.loop-parent.forest c.args.changes.now c.loop-parent.changes ps i p here c.requires.parents c.requires.sound c.loop-parent.invariant.made

pub loop-parent-preserved : goal.loop-parent-preserved
loop-parent-preserved g c =
    let ps = c.args.parents.now in
    let i = c.loop-parent.parent-index in
    let p = c.parent-item.result in
    let here : slice_get ps i ≡ Some p = slice_get_read ps (length ps) i p refl c.loop-parent-test.true c.parent-item.is in
    let has = c.requires.parents in
    let numbering = numbering_of c.args.numbering in
    let now = is_now numbering c.args.forest.now c.loop-parent.forest c.args.changes.now c.loop-parent.changes ps i p here has c.requires.sound c.loop-parent.invariant.made in
    let done = c.in_ok-make_one.ensures in
    record {
      made =
          one_more numbering c.args.forest.now c.loop-parent.forest c.args.changes.now c.loop-parent.changes ps i p here has c.requires.sound c.loop-parent.invariant.made c.make_one.new.forest c.make_one.new.changes
          (done.renewed (has.2.each p.node (among ps i p here)).node now) done.sound c.loop-parent.invariant.root;
      rest = c.make_one.ensures.rest ∙ c.loop-parent.invariant.rest;
      kept = c.make_one.ensures.kept ∙ c.loop-parent.invariant.kept;
      root = c.make_one.ensures.root ∙ c.loop-parent.invariant.root;
    }

pub returns-clause-children : goal.returns-clause-children
returns-clause-children g c = λ seed depth by a t.
    let f = c.args.forest.now in
    subst (λ (ps : List Parent). AreRenewals (numbering_of c.args.numbering) seed (now_of f) (now_of c.loop-parent.forest) f.root depth by (mirrored (nodes_in ps))) (take_whole c.args.parents.now c.loop-parent.parent-index c.loop-parent-test.false)
    (c.loop-parent.invariant.made.renewals seed depth by a t)

pub returns-clause-spends : goal.returns-clause-spends
returns-clause-spends g c =
    let f = c.args.forest.now in
    subst (λ (ps : List Parent). SpendsNeed f c.loop-parent.forest (needs (numbering_of c.args.numbering) (now_of f) ps)) (take_whole c.args.parents.now c.loop-parent.parent-index c.loop-parent-test.false) c.loop-parent.invariant.made.spends

pub returns-clause-told : goal.returns-clause-told
returns-clause-told g c =
    let f = c.args.forest.now in
    subst (λ (ps : List Parent). TellsAllOf (now_of f) (now_of c.loop-parent.forest) (mirrored (nodes_in ps)) c.args.changes.now c.loop-parent.changes) (take_whole c.args.parents.now c.loop-parent.parent-index c.loop-parent-test.false)
    c.loop-parent.invariant.made.tells

pub returns-clause-gone : goal.returns-clause-gone
returns-clause-gone g c =
    let f = c.args.forest.now in
    c.loop-parent.invariant.made.gone
    ∙ ap (λ (ps : List Parent). c.args.changes.now.gone ++ gone_of (numbering_of c.args.numbering) (now_of f) ps) (take_whole c.args.parents.now c.loop-parent.parent-index c.loop-parent-test.false)

pub returns-in_err-make_one-clause-kept : goal.returns-in_err-make_one-clause-kept
returns-in_err-make_one-clause-kept g c = c.make_one.ensures.kept ∙ c.loop-parent.invariant.kept

pub returns-clause-kept : goal.returns-clause-kept
returns-clause-kept g c = c.loop-parent.invariant.kept

pub returns-clause-few : goal.returns-clause-few
returns-clause-few g c =
    let f = c.args.forest.now in
    let e = ap (λ (ps : List Parent). (needs (numbering_of c.args.numbering) (now_of f) ps).nodes) (take_whole c.args.parents.now c.loop-parent.parent-index c.loop-parent-test.false) in
    omega (arith, e, c.loop-parent.invariant.made.spends.live)

pub returns-in_err-make_one-clause-few : goal.returns-in_err-make_one-clause-few
returns-in_err-make_one-clause-few g c =
    let f = c.args.forest.now in
    let e = ap (λ (g : Grove Kept). live_nodes g) c.in_err-make_one.ensures.refused in
    let less = part_sum (λ (p : Parent). (need_at_parent (numbering_of c.args.numbering) (now_of f) p).nodes) c.args.parents.now c.loop-parent.parent-index in
    omega (arith, e, less, c.loop-parent.invariant.made.spends.live)
