use Rattle.std.proofs.Common.{◌∷◌, [], ◌++◌, ◌-◌, length, map, refl, ap, sym, ◌∙◌, arith, rules}
use Rattle.std.proofs.lemmas.List.{length-map}
use Rattle.std.proofs.lemmas.Grind.{elements}
use Rattle.lsys_spec.specs.Meaning.{ignored_by, most_entries}
use Rattle.lsys_level.specs.Spots.{spots_at}
use Rattle.lsys_bodies.specs.Filters.{filter_of}
use Rattle.lsys_bodies.specs.Views.{as_pattern}
use Rattle.lsys_walks.specs.Views.{mark_of}
use Rattle.lsys_walks.proofs.Shown.{Stands, is_spot, seen_at, mated_at, stands_beside, stands_before, same_pattern}
use Rattle.lsys_walks.proofs.Lefts.{walk_first, walk_left, walk_left_far, walk_around, walk_around_far, walk_passed, walk_matched, walk_ends, walk_met_front, walk_done, walk_out, walk_front}
use Rattle.lsys_walks.proofs.Told.{on_err}
use Rattle.lsys_walks.proofs.left.left_reads.Given.{Over}
use Rattle.lsys_walks.proofs.left.left_reads.Goals.{After-tag-tag}
use Rattle.lsys_walks.proofs.left.left_reads.Goals as goal

-- the next spot
stands : (g : Over) (c : After-tag-tag g) → Stands (g.W.LevelView.levels c.args.view.now) (g.W.LevelView.level_of c.args.view.now) (g.W.LevelView.place_of c.args.view.now) (g.W.LevelView.level_of c.args.view.now c.args.spot) c.in-Some.next
stands g c =
    stands_before (g.W.LevelView.levels c.args.view.now) (g.W.LevelView.level_of c.args.view.now) (g.W.LevelView.place_of c.args.view.now) (g.W.LevelView.level_of c.args.view.now c.args.spot) c.loop-due.at c.in-Some.next
    c.loop-due.invariant.0 c.loop-due.invariant.1 c.in-Some.ensures.0 c.in-Some.ensures.1

pub loop-due-init : goal.loop-due-init
loop-due-init g c =
    (refl, c.requires.spot, walk_first (ignored_by (filter_of c.args.filter)) (mark_of c.args.mark) (map as_pattern c.args.patterns.now) (spots_at (g.W.LevelView.levels c.args.view.now) (g.W.LevelView.level_of c.args.view.now c.args.spot)) (g.W.LevelView.place_of c.args.view.now c.args.spot) (length c.args.patterns.now) most_entries c.args.trace.now.read c.args.bound.now.items (sym (length-map c.args.patterns.now as_pattern)) c.requires.room, refl, refl)

pub returns-in-None-clause-told : goal.returns-in-None-clause-told
returns-in-None-clause-told g c =
    λ naming. walk_out _ _ _ _ c.loop-due.invariant.2 naming c.in-None.ensures c.loop-due-test.true

pub returns-clause-told : goal.returns-clause-told
returns-clause-told g c =
    λ naming. walk_done _ _ _ _ c.loop-due.invariant.2 naming (omega (arith, c.loop-due-test.false))

pub returns-then-branch-clause-told : goal.returns-then-branch-clause-told
returns-then-branch-clause-told g c =
    let st = stands g (goal.at.returns-then-branch-clause-told g c).After-tag-tag in
    λ naming. walk_left_far _ _ _ _ c.loop-due.invariant.2 c.in-Some.ensures.1 c.loop-due-test.true (seen_at st c.in-Push.ensures.seen c.tag-tag.ensures.tag) (c.in_ok-note-in-Push.ensures.added ∙ ap (λ n. c.loop-due.trace.read ++ n ∷ []) c.out.ensures.noted) naming (search rules)

pub loop-due-preserved-in-Push : goal.loop-due-preserved-in-Push
loop-due-preserved-in-Push g c =
    let st = stands g (goal.at.loop-due-preserved-in-Push g c).After-tag-tag in
    (st.on, is_spot st, walk_left _ _ _ _ c.loop-due.invariant.2 c.in-Some.ensures.1 c.loop-due-test.true (seen_at st c.in-Push.ensures.seen c.tag-tag.ensures.tag) (c.in_ok-note-in-Push.ensures.added ∙ ap (λ n. c.loop-due.trace.read ++ n ∷ []) c.out.ensures.noted) (search rules), omega (arith, c.note.ensures.counted, c.loop-due.invariant.3), search rules)

pub returns-then-branch-2-clause-told : goal.returns-then-branch-2-clause-told
returns-then-branch-2-clause-told g c =
    let st = stands g (goal.at.returns-then-branch-2-clause-told g c).After-tag-tag in
    let m = mated_at st c.mate-mate.result c.mate-mate.ensures.level c.mate-mate.ensures.mate c.in-Pop.ensures.seen c.tag.ensures.tag in
    λ naming. walk_around_far _ _ _ _ c.loop-due.invariant.2 c.in-Some.ensures.1 c.loop-due-test.true (seen_at st c.in-Pop.ensures.seen c.tag-tag.ensures.tag) m (c.in_ok-note-in-Pop.ensures.added ∙ ap (λ n. c.loop-due.trace.read ++ n ∷ []) c.branch-mark.ensures.noted) naming (search rules)

pub loop-due-preserved-in-Pop : goal.loop-due-preserved-in-Pop
loop-due-preserved-in-Pop g c =
    let st = stands g (goal.at.loop-due-preserved-in-Pop g c).After-tag-tag in
    let m = mated_at st c.mate-mate.result c.mate-mate.ensures.level c.mate-mate.ensures.mate c.in-Pop.ensures.seen c.tag.ensures.tag in
    let on = stands_beside st c.mate-mate.result c.mate-mate.ensures.level m.within in
    (on.on, is_spot on, walk_around _ _ _ _ c.loop-due.invariant.2 c.in-Some.ensures.1 c.loop-due-test.true (seen_at st c.in-Pop.ensures.seen c.tag-tag.ensures.tag) m (c.in_ok-note-in-Pop.ensures.added ∙ ap (λ n. c.loop-due.trace.read ++ n ∷ []) c.branch-mark.ensures.noted) (search rules), omega (arith, c.note-in-Pop.ensures.counted, c.loop-due.invariant.3), search rules)

pub returns-in-Ends-clause-told : goal.returns-in-Ends-clause-told
returns-in-Ends-clause-told g c =
    let st = stands g (goal.at.returns-in-Ends-clause-told g c).After-tag-tag in
    let q = same_pattern c.args.patterns.now (c.loop-due.due - 1) c.index-patterns-due.result (omega (arith, c.loop-due-test.true, c.loop-due.invariant.2.few, length-map c.args.patterns.now as_pattern)) c.index-patterns-due.is in
    λ naming. walk_ends _ _ _ _ c.loop-due.invariant.2 c.in-Some.ensures.1 c.loop-due-test.true q (seen_at st c.in-Module.ensures.seen c.tag-tag.ensures.tag) c.in_ok-walked-in-Module.ensures.noted naming c.in-Ends.walked _ c.in-Ends.is c.in_ok-walked-in-Module.ensures.decided

pub loop-due-preserved-in-Passed : goal.loop-due-preserved-in-Passed
loop-due-preserved-in-Passed g c =
    let st = stands g (goal.at.loop-due-preserved-in-Passed g c).After-tag-tag in
    let q = same_pattern c.args.patterns.now (c.loop-due.due - 1) c.index-patterns-due.result (omega (arith, c.loop-due-test.true, c.loop-due.invariant.2.few, length-map c.args.patterns.now as_pattern)) c.index-patterns-due.is in
    (st.on, is_spot st, walk_passed _ _ _ _ c.loop-due.invariant.2 c.in-Some.ensures.1 c.loop-due-test.true q (seen_at st c.in-Module.ensures.seen c.tag-tag.ensures.tag) c.in_ok-walked-in-Module.ensures.noted _ c.in-Passed.is c.in_ok-walked-in-Module.ensures.decided, omega (arith, c.meet_module.ensures.counted, c.loop-due.invariant.3), search rules)

pub loop-due-preserved : goal.loop-due-preserved
loop-due-preserved g c =
    let st = stands g (goal.at.loop-due-preserved g c).After-tag-tag in
    let q = same_pattern c.args.patterns.now (c.loop-due.due - 1) c.index-patterns-due.result (omega (arith, c.loop-due-test.true, c.loop-due.invariant.2.few, length-map c.args.patterns.now as_pattern)) c.index-patterns-due.is in
    (st.on, is_spot st, walk_matched _ _ _ _ c.loop-due.invariant.2 c.in-Some.ensures.1 c.loop-due-test.true q (seen_at st c.in-Module.ensures.seen c.tag-tag.ensures.tag) c.in_ok-walked-in-Module.ensures.noted c.push_reversed.new.list.items _ c.in-Matched.is c.in_ok-walked-in-Module.ensures.decided c.in_ok-push_reversed-in-Matched.ensures, omega (arith, c.meet_module.ensures.counted, c.loop-due.invariant.3), search rules)

pub returns-in_err-note-in-Push-clause-refused : goal.returns-in_err-note-in-Push-clause-refused
returns-in_err-note-in-Push-clause-refused g c =
    λ naming. on_err _ _ (walk_front _ _ _ _ c.loop-due.invariant.2 naming _ c.in_err-note-in-Push.ensures.refused)

pub returns-in_err-note-in-Pop-clause-refused : goal.returns-in_err-note-in-Pop-clause-refused
returns-in_err-note-in-Pop-clause-refused g c =
    λ naming. on_err _ _ (walk_front _ _ _ _ c.loop-due.invariant.2 naming _ c.in_err-note-in-Pop.ensures.refused)

pub returns-in_err-walked-in-Module-clause-refused : goal.returns-in_err-walked-in-Module-clause-refused
returns-in_err-walked-in-Module-clause-refused g c =
    λ naming. on_err _ _ (walk_front _ _ _ _ c.loop-due.invariant.2 naming _ c.in_err-walked-in-Module.ensures.refused)

pub returns-in_err-push_reversed-in-Matched-clause-refused : goal.returns-in_err-push_reversed-in-Matched-clause-refused
returns-in_err-push_reversed-in-Matched-clause-refused g c =
    let st = stands g (goal.at.returns-in_err-push_reversed-in-Matched-clause-refused g c).After-tag-tag in
    let q = same_pattern c.args.patterns.now (c.loop-due.due - 1) c.index-patterns-due.result (omega (arith, c.loop-due-test.true, c.loop-due.invariant.2.few, length-map c.args.patterns.now as_pattern)) c.index-patterns-due.is in
    λ naming. on_err _ _ (walk_met_front _ _ _ _ c.loop-due.invariant.2 c.in-Some.ensures.1 c.loop-due-test.true q (seen_at st c.in-Module.ensures.seen c.tag-tag.ensures.tag) c.in_ok-walked-in-Module.ensures.noted naming)

pub tag-requires : goal.tag-requires
tag-requires g c = grind (arith, elements)

pub loop-due-smaller-in-Pop : goal.loop-due-smaller-in-Pop
loop-due-smaller-in-Pop g c = grind (arith, elements)

pub offset_bounds-patterns-due : goal.offset_bounds-patterns-due
offset_bounds-patterns-due g c = grind (arith, elements)

pub bounds-patterns-due : goal.bounds-patterns-due
bounds-patterns-due g c = grind (arith, elements)
