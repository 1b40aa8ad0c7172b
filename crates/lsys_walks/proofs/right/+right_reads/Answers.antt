use Rattle.std.proofs.Common.{◌≡◌, ◌∷◌, ◌++◌, ◌+◌, ◌≤◌, ℕ, List, [], length, take, Some, Ok, refl, ap, sym, ◌∙◌, arith, rules, subst}
use Rattle.std.proofs.lemmas.List.{take_all, length-map}
use Rattle.std.proofs.lemmas.Grind.{elements, common_steps}
use Rattle.lsys_spec.specs.Levels.{items_from}
use Rattle.lsys_spec.specs.Meaning.{ignored_by, most_entries}
use Rattle.lsys_level.specs.Spots.{spots_at, level_by}
use Rattle.lsys_walks.specs.declared.walked.Walked.TheVariants.{Found, Missed, TooFar}
use Rattle.lsys_walks.specs.Noted.{entry_by}
use Rattle.lsys_bodies.specs.Filters.{filter_of}
use Rattle.lsys_walks.specs.Views.{mark_of}
use Rattle.lsys_walks.specs.Walked.{Walks, ReadsFront, inner_told, KeptInOrder}
use Rattle.lsys_walks.proofs.Told.{es_of, on_bad, on_err, kept_as, reads_nothing}
use Rattle.lsys_walks.proofs.Meets.{few_passed, few_matched}
use Rattle.lsys_walks.proofs.Shown.{Stands, seen_at, ended_at, stands_beside, place_at, moved_at, moved_to, stands_here, told_on, front_on_level, item_at}
use Rattle.lsys_walks.proofs.Rights.{Walk, front_on, front_more, walk_first, walk_to, walk_passed, walk_matched, walk_ends, walk_met_front, walk_branch_far, walk_found, walk_missed, walk_inner_far, walk_inner_front, walk_out, walk_stops, walk_done, walk_front, inner_none, inner_push}
use Rattle.lsys_walks.proofs.right.+right_reads.Given.{Over}
use Rattle.lsys_walks.proofs.right.+right_reads.Goals.{right_reads-After-tag-tag}
use Rattle.lsys_walks.proofs.right.+right_reads.Goals as goal

-- the walk stands at this spot
stands : (g : Over) (t : ℕ) (c : right_reads-After-tag-tag g t) → Stands (g.W.LevelView.levels c.args.view.now) (g.W.LevelView.level_of c.args.view.now) (g.W.LevelView.place_of c.args.view.now) (g.W.LevelView.level_of c.args.view.now c.args.spot) c.in-Some.here
stands g t c = stands_here (g.W.LevelView.levels c.args.view.now) (g.W.LevelView.level_of c.args.view.now) (g.W.LevelView.place_of c.args.view.now) (g.W.LevelView.level_of c.args.view.now c.args.spot) c.loop-mark.at c.in-Some.here c.in-Some.is c.loop-mark.invariant.0

walk_here : (g : Over) (t : ℕ) (c : right_reads-After-tag-tag g t) (naming : ℕ → List ℕ)
    → Walk (ignored_by (filter_of c.args.filter)) (mark_of c.args.mark) (spots_at (g.W.LevelView.levels c.args.view.now) (g.W.LevelView.level_of c.args.view.now c.args.spot)) c.args.items.now naming c.args.first (g.W.LevelView.place_of c.args.view.now c.args.spot + 1)
    c.loop-mark.next (g.W.LevelView.place_of c.args.view.now c.in-Some.here) c.args.trace.now.read c.loop-mark.trace.read c.args.bound.now.items c.loop-mark.bound.items
walk_here g t c naming = walk_to _ _ _ _ naming (c.loop-mark.invariant.4 naming) (g.W.LevelView.place_of c.args.view.now c.in-Some.here) (sym (ap (place_at (g.W.LevelView.levels c.args.view.now) (g.W.LevelView.level_of c.args.view.now) (g.W.LevelView.place_of c.args.view.now) (g.W.LevelView.level_of c.args.view.now c.args.spot)) c.in-Some.is))

pub right_reads-loop-mark-init : goal.right_reads-loop-mark-init
right_reads-loop-mark-init g t c =
    let st : Stands (g.W.LevelView.levels c.args.view.now) (g.W.LevelView.level_of c.args.view.now) (g.W.LevelView.place_of c.args.view.now) (g.W.LevelView.level_of c.args.view.now c.args.spot) c.args.spot = record { on = refl; within = c.requires.spot } in (
      moved_at st c.right-at.result c.right-at.ensures,
      omega arith,
      c.requires.first,
      c.requires.room,
      λ naming. walk_first _ _ _ _ naming c.args.first _ _ c.args.trace.now.read c.args.bound.now.items (moved_to st c.right-at.result c.right-at.ensures),
      take_all (length c.args.bound.now.items) c.args.bound.now.items (omega arith),
      refl,
      refl,
    )

pub right_reads-returns-clause-told : goal.right_reads-returns-clause-told
right_reads-returns-clause-told g t c =
    λ naming. walk_done _ _ _ _ naming (c.loop-mark.invariant.4 naming) c.loop-mark.invariant.3 (c.is_wanted.ensures.done c.loop-mark-test.false)

pub right_reads-returns-in-None : goal.right_reads-returns-in-None
right_reads-returns-in-None g t c =
    let e = ap (place_at (g.W.LevelView.levels c.args.view.now) (g.W.LevelView.level_of c.args.view.now) (g.W.LevelView.place_of c.args.view.now) (g.W.LevelView.level_of c.args.view.now c.args.spot)) c.in-None.is in
    record { told = λ naming. walk_out _ _ _ _ naming (c.loop-mark.invariant.4 naming) c.loop-mark.invariant.3 (c.is_wanted.ensures.wanted c.loop-mark-test.true) (omega (arith, e)); refused = λ naming. tt; few = tt; front = c.loop-mark.invariant.5; counted = omega (arith, c.loop-mark.invariant.6); same = c.loop-mark.invariant.7 }

pub right_reads-returns-in-Pop : goal.right_reads-returns-in-Pop
right_reads-returns-in-Pop g t c =
    let st = stands g t (goal.at.right_reads-returns-in-Pop g t c).After-tag-tag in
    let w = walk_here g t (goal.at.right_reads-returns-in-Pop g t c).After-tag-tag in
    record { told = λ naming. walk_stops _ _ _ _ naming (w naming) _ c.loop-mark.invariant.3 (c.is_wanted.ensures.wanted c.loop-mark-test.true) (seen_at st c.in-Pop.ensures.seen c.tag-tag.ensures.tag); refused = λ naming. tt; few = tt; front = c.loop-mark.invariant.5; counted = omega (arith, c.loop-mark.invariant.6); same = c.loop-mark.invariant.7 }

pub right_reads-returns-then-branch : goal.right_reads-returns-then-branch
right_reads-returns-then-branch g t c =
    let st = stands g t (goal.at.right_reads-returns-then-branch g t c).After-tag-tag in
    let w = walk_here g t (goal.at.right_reads-returns-then-branch g t c).After-tag-tag in
    let m = ended_at st c.mate-mate.result c.mate-mate.ensures.level c.mate-mate.ensures.mate c.in-Push.ensures.seen c.tag.ensures.tag in
    record { told = λ naming. walk_branch_far _ _ _ _ naming (w naming) (c.is_wanted.ensures.wanted c.loop-mark-test.true) (seen_at st c.in-Push.ensures.seen c.tag-tag.ensures.tag) m (c.in_ok-note-in-Push.ensures.added ∙ ap (λ n. c.loop-mark.trace.read ++ n ∷ []) c.branch-mark.ensures.noted) c.loop-mark.invariant.3 (search rules); refused = λ naming. tt; few = tt; front = c.loop-mark.invariant.5; counted = omega (arith, c.note.ensures.counted, c.loop-mark.invariant.6); same = c.note.ensures.old ∙ c.loop-mark.invariant.7 }

pub right_reads-returns-in-TooFar : goal.right_reads-returns-in-TooFar
right_reads-returns-in-TooFar g t c =
    let st = stands g t (goal.at.right_reads-returns-in-TooFar g t c).After-tag-tag in
    let w = walk_here g t (goal.at.right_reads-returns-in-TooFar g t c).After-tag-tag in
    let m = ended_at st c.mate-mate.result c.mate-mate.ensures.level c.mate-mate.ensures.mate c.in-Push.ensures.seen c.tag.ensures.tag in
    let h = told_on st (inner_told c.args.filter c.args.mark c.args.items.now c.loop-mark.next (g.W.LevelView.place_of c.args.view.now c.in-Some.here)) c.note.new.self.read c.inner_reads.new.trace.read c.inner_reads.result (KeptInOrder c.loop-mark.bound.items c.inner_reads.new.bound.items) TooFar
    (c.in_ok-inner_reads-in-Push.was ∙ ap (λ v. Ok v) c.in-TooFar.is) c.inner_reads.ensures.told in
    record { told = λ naming. walk_inner_far _ _ _ _ naming (w naming) (c.is_wanted.ensures.wanted c.loop-mark-test.true) (seen_at st c.in-Push.ensures.seen c.tag-tag.ensures.tag) m (c.in_ok-note-in-Push.ensures.added ∙ ap (λ n. c.loop-mark.trace.read ++ n ∷ []) c.branch-mark.ensures.noted) c.inner_reads.new.trace.read (h naming); refused = λ naming. tt; few = tt; front = front_on c.args.bound.now.items c.loop-mark.bound.items c.inner_reads.new.bound.items c.loop-mark.invariant.5 c.inner_reads.ensures.front; counted = omega (arith, c.note.ensures.counted, c.inner_reads.ensures.counted, c.loop-mark.invariant.6); same = c.inner_reads.ensures.same ∙ c.note.ensures.old ∙ c.loop-mark.invariant.7 }

pub right_reads-after-next-requires : goal.right_reads-after-next-requires
right_reads-after-next-requires g t c =
    c.in_ok-inner_reads-in-Push.ensures.branch c.in-Found.is

pub right_reads-loop-mark-preserved-in-Found : goal.right_reads-loop-mark-preserved-in-Found
right_reads-loop-mark-preserved-in-Found g t c =
    let st = stands g t (goal.at.right_reads-loop-mark-preserved-in-Found g t c).After-tag-tag in
    let w = walk_here g t (goal.at.right_reads-loop-mark-preserved-in-Found g t c).After-tag-tag in
    let m = ended_at st c.mate-mate.result c.mate-mate.ensures.level c.mate-mate.ensures.mate c.in-Push.ensures.seen c.tag.ensures.tag in
    let h = told_on st (inner_told c.args.filter c.args.mark c.args.items.now c.loop-mark.next (g.W.LevelView.place_of c.args.view.now c.in-Some.here)) c.note.new.self.read c.inner_reads.new.trace.read c.inner_reads.result (KeptInOrder c.loop-mark.bound.items c.inner_reads.new.bound.items) Found
    (c.in_ok-inner_reads-in-Push.was ∙ ap (λ v. Ok v) c.in-Found.is) c.inner_reads.ensures.told in
    let on = stands_beside st c.mate-mate.result c.mate-mate.ensures.level m.within in
    let r : length c.inner_reads.new.trace.read ≤ most_entries = omega (arith, (h (λ t. [])).1, length-map c.inner_reads.new.trace.read (entry_by (λ t. []))) in
    (moved_at on c.right-at-in-Push.result c.right-at-in-Push.ensures, omega (arith, c.loop-mark.invariant.1, c.after-next.ensures.later), c.after-next.ensures.within, r, λ naming. walk_to _ _ _ _ naming (walk_found _ _ _ _ naming (w naming) (c.is_wanted.ensures.wanted c.loop-mark-test.true) (seen_at st c.in-Push.ensures.seen c.tag-tag.ensures.tag) m (c.in_ok-note-in-Push.ensures.added ∙ ap (λ n. c.loop-mark.trace.read ++ n ∷ []) c.branch-mark.ensures.noted) c.inner_reads.new.trace.read c.after-next.result c.inner_reads.new.bound.items c.after-next.ensures.branch (h naming)) _ (moved_to on c.right-at-in-Push.result c.right-at-in-Push.ensures), front_on c.args.bound.now.items c.loop-mark.bound.items c.inner_reads.new.bound.items c.loop-mark.invariant.5 c.inner_reads.ensures.front, omega (arith, c.note.ensures.counted, c.inner_reads.ensures.counted, c.loop-mark.invariant.6), c.inner_reads.ensures.same ∙ c.note.ensures.old ∙ c.loop-mark.invariant.7)

pub right_reads-loop-mark-preserved-in-Missed : goal.right_reads-loop-mark-preserved-in-Missed
right_reads-loop-mark-preserved-in-Missed g t c =
    let st = stands g t (goal.at.right_reads-loop-mark-preserved-in-Missed g t c).After-tag-tag in
    let w = walk_here g t (goal.at.right_reads-loop-mark-preserved-in-Missed g t c).After-tag-tag in
    let m = ended_at st c.mate-mate.result c.mate-mate.ensures.level c.mate-mate.ensures.mate c.in-Push.ensures.seen c.tag.ensures.tag in
    let h = told_on st (inner_told c.args.filter c.args.mark c.args.items.now c.loop-mark.next (g.W.LevelView.place_of c.args.view.now c.in-Some.here)) c.note.new.self.read c.inner_reads.new.trace.read c.inner_reads.result (KeptInOrder c.loop-mark.bound.items c.inner_reads.new.bound.items) Missed
    (c.in_ok-inner_reads-in-Push.was ∙ ap (λ v. Ok v) c.in-Missed.is) c.inner_reads.ensures.told in
    let on = stands_beside st c.mate-mate.result c.mate-mate.ensures.level m.within in
    let r : length c.inner_reads.new.trace.read ≤ most_entries = omega (arith, (h (λ t. [])).1, length-map c.inner_reads.new.trace.read (entry_by (λ t. []))) in
    let k = c.in_ok-inner_reads-in-Push.ensures.missed c.in-Missed.is in
    (moved_at on c.right-at-in-Push.result c.right-at-in-Push.ensures, c.loop-mark.invariant.1, c.loop-mark.invariant.2, r, λ naming. walk_to _ _ _ _ naming (walk_missed _ _ _ _ naming (w naming) (c.is_wanted.ensures.wanted c.loop-mark-test.true) (seen_at st c.in-Push.ensures.seen c.tag-tag.ensures.tag) m (c.in_ok-note-in-Push.ensures.added ∙ ap (λ n. c.loop-mark.trace.read ++ n ∷ []) c.branch-mark.ensures.noted) c.inner_reads.new.trace.read c.inner_reads.new.bound.items k (h naming)) _ (moved_to on c.right-at-in-Push.result c.right-at-in-Push.ensures), front_on c.args.bound.now.items c.loop-mark.bound.items c.inner_reads.new.bound.items c.loop-mark.invariant.5 c.inner_reads.ensures.front, omega (arith, c.note.ensures.counted, c.inner_reads.ensures.counted, c.loop-mark.invariant.6), c.inner_reads.ensures.same ∙ c.note.ensures.old ∙ c.loop-mark.invariant.7)

pub right_reads-returns-in-Ends : goal.right_reads-returns-in-Ends
right_reads-returns-in-Ends g t c =
    let st = stands g t (goal.at.right_reads-returns-in-Ends g t c).After-tag-tag in
    let w = walk_here g t (goal.at.right_reads-returns-in-Ends g t c).After-tag-tag in
    let here = item_at c.args.items.now c.loop-mark.next c.index-items-next.result (c.is_wanted.ensures.within c.loop-mark-test.true) c.index-items-next.is in
    record { told = λ naming. walk_ends _ _ _ _ naming (w naming) here c.pattern_in-due.ensures (c.is_wanted.ensures.wanted c.loop-mark-test.true) (seen_at st c.in-Module.ensures.seen c.tag-tag.ensures.tag) c.in_ok-walked-in-Module.ensures.noted c.in-Ends.walked _ c.loop-mark.invariant.3 c.in-Ends.is c.in_ok-walked-in-Module.ensures.decided; refused = λ naming. tt; few = tt; front = c.loop-mark.invariant.5; counted = omega (arith, c.meet_module.ensures.counted, c.loop-mark.invariant.6); same = c.meet_module.ensures.same ∙ c.loop-mark.invariant.7 }

pub right_reads-loop-mark-preserved-in-Passed : goal.right_reads-loop-mark-preserved-in-Passed
right_reads-loop-mark-preserved-in-Passed g t c =
    let st = stands g t (goal.at.right_reads-loop-mark-preserved-in-Passed g t c).After-tag-tag in
    let w = walk_here g t (goal.at.right_reads-loop-mark-preserved-in-Passed g t c).After-tag-tag in
    let here = item_at c.args.items.now c.loop-mark.next c.index-items-next.result (c.is_wanted.ensures.within c.loop-mark-test.true) c.index-items-next.is in
    (moved_at st c.right-at-in-Module.result c.right-at-in-Module.ensures, c.loop-mark.invariant.1, c.loop-mark.invariant.2, few_passed _ _ _ _ c.in-Passed.is c.in_ok-walked-in-Module.ensures.decided, λ naming. walk_to _ _ _ _ naming (walk_passed _ _ _ _ naming (w naming) here c.pattern_in-due.ensures (c.is_wanted.ensures.wanted c.loop-mark-test.true) (seen_at st c.in-Module.ensures.seen c.tag-tag.ensures.tag) c.in_ok-walked-in-Module.ensures.noted _ c.in-Passed.is c.in_ok-walked-in-Module.ensures.decided) _ (moved_to st c.right-at-in-Module.result c.right-at-in-Module.ensures), c.loop-mark.invariant.5, omega (arith, c.meet_module.ensures.counted, c.loop-mark.invariant.6), c.meet_module.ensures.same ∙ c.loop-mark.invariant.7)

pub right_reads-loop-mark-preserved : goal.right_reads-loop-mark-preserved
right_reads-loop-mark-preserved g t c =
    let st = stands g t (goal.at.right_reads-loop-mark-preserved g t c).After-tag-tag in
    let w = walk_here g t (goal.at.right_reads-loop-mark-preserved g t c).After-tag-tag in
    let here = item_at c.args.items.now c.loop-mark.next c.index-items-next.result (c.is_wanted.ensures.within c.loop-mark-test.true) c.index-items-next.is in
    let b : c.extend_from_slice.new.self.items ≡ c.loop-mark.bound.items ++ c.in-Module.params.now = search rules in
    (moved_at st c.right-at-in-Module.result c.right-at-in-Module.ensures, omega (arith, c.loop-mark.invariant.1), omega (arith, c.is_wanted.ensures.within c.loop-mark-test.true), few_matched _ _ _ _ c.in-Matched.is c.in_ok-walked-in-Module.ensures.decided, λ naming. walk_to _ _ _ _ naming (walk_matched _ _ _ _ naming (w naming) here c.pattern_in-due.ensures (c.is_wanted.ensures.wanted c.loop-mark-test.true) (seen_at st c.in-Module.ensures.seen c.tag-tag.ensures.tag) c.in_ok-walked-in-Module.ensures.noted c.extend_from_slice.new.self.items _ c.in-Matched.is c.in_ok-walked-in-Module.ensures.decided b) _ (moved_to st c.right-at-in-Module.result c.right-at-in-Module.ensures), front_more c.args.bound.now.items c.loop-mark.bound.items c.extend_from_slice.new.self.items c.in-Module.params.now c.loop-mark.invariant.5 b, omega (arith, c.meet_module.ensures.counted, c.loop-mark.invariant.6), c.meet_module.ensures.same ∙ c.loop-mark.invariant.7)

pub right_reads-returns-in_err-note-in-Push : goal.right_reads-returns-in_err-note-in-Push
right_reads-returns-in_err-note-in-Push g t c =
    record { told = λ naming. on_bad c.from_residual.result _ _ c.from_residual.ensures.1; refused = λ naming. on_err _ _ (walk_front _ _ _ _ naming (c.loop-mark.invariant.4 naming) _ c.in_err-note-in-Push.ensures.refused); few = on_err _ (length c.note.new.self.read ≤ most_entries) (omega (arith, ap length c.in_err-note-in-Push.ensures.refused, c.loop-mark.invariant.3)); front = c.loop-mark.invariant.5; counted = omega (arith, c.note.ensures.counted, c.loop-mark.invariant.6); same = c.note.ensures.old ∙ c.loop-mark.invariant.7 }

pub right_reads-returns-in_err-walked-in-Module : goal.right_reads-returns-in_err-walked-in-Module
right_reads-returns-in_err-walked-in-Module g t c =
    record { told = λ naming. on_bad c.from_residual-in_err-walked-in-Module.result _ _ c.from_residual-in_err-walked-in-Module.ensures.1; refused = λ naming. on_err _ _ (walk_front _ _ _ _ naming (c.loop-mark.invariant.4 naming) _ c.in_err-walked-in-Module.ensures.refused); few = on_err _ (length c.meet_module.new.trace.read ≤ most_entries) (omega (arith, ap length c.in_err-walked-in-Module.ensures.refused, c.loop-mark.invariant.3)); front = c.loop-mark.invariant.5; counted = omega (arith, c.meet_module.ensures.counted, c.loop-mark.invariant.6); same = c.meet_module.ensures.same ∙ c.loop-mark.invariant.7 }

pub right_reads-returns-in_err-extend_from_slice-in-Matched : goal.right_reads-returns-in_err-extend_from_slice-in-Matched
right_reads-returns-in_err-extend_from_slice-in-Matched g t c =
    let st = stands g t (goal.at.right_reads-returns-in_err-extend_from_slice-in-Matched g t c).After-tag-tag in
    let w = walk_here g t (goal.at.right_reads-returns-in_err-extend_from_slice-in-Matched g t c).After-tag-tag in
    let here = item_at c.args.items.now c.loop-mark.next c.index-items-next.result (c.is_wanted.ensures.within c.loop-mark-test.true) c.index-items-next.is in
    let b : c.extend_from_slice.new.self.items ≡ c.loop-mark.bound.items = search rules in
    record { told = λ naming. on_bad c.from_residual-in_err-extend_from_slice-in-Matched.result _ _ c.from_residual-in_err-extend_from_slice-in-Matched.ensures.1; refused = λ naming. on_err _ _ (walk_met_front _ _ _ _ naming (w naming) here c.pattern_in-due.ensures (c.is_wanted.ensures.wanted c.loop-mark-test.true) (seen_at st c.in-Module.ensures.seen c.tag-tag.ensures.tag) c.in_ok-walked-in-Module.ensures.noted); few = on_err _ _ (few_matched _ _ _ _ c.in-Matched.is c.in_ok-walked-in-Module.ensures.decided); front = ap (take (length c.args.bound.now.items)) b ∙ c.loop-mark.invariant.5; counted = omega (arith, c.meet_module.ensures.counted, c.loop-mark.invariant.6); same = c.meet_module.ensures.same ∙ c.loop-mark.invariant.7 }

pub right_reads-returns-in_err-inner_reads-in-Push : goal.right_reads-returns-in_err-inner_reads-in-Push
right_reads-returns-in_err-inner_reads-in-Push g t c =
    let st = stands g t (goal.at.right_reads-returns-in_err-inner_reads-in-Push g t c).After-tag-tag in
    let w = walk_here g t (goal.at.right_reads-returns-in_err-inner_reads-in-Push g t c).After-tag-tag in
    let m = ended_at st c.mate-mate.result c.mate-mate.ensures.level c.mate-mate.ensures.mate c.in-Push.ensures.seen c.tag.ensures.tag in
    let h = front_on_level st (inner_told c.args.filter c.args.mark c.args.items.now c.loop-mark.next (g.W.LevelView.place_of c.args.view.now c.in-Some.here)) c.note.new.self.read c.inner_reads.new.trace.read c.inner_reads.result _ c.in_err-inner_reads-in-Push.was c.inner_reads.ensures.refused in
    record { told = λ naming. on_bad c.from_residual-in_err-inner_reads-in-Push.result _ _ c.from_residual-in_err-inner_reads-in-Push.ensures.1; refused = λ naming. on_err _ _ (walk_inner_front _ _ _ _ naming (w naming) (c.is_wanted.ensures.wanted c.loop-mark-test.true) (seen_at st c.in-Push.ensures.seen c.tag-tag.ensures.tag) m (c.in_ok-note-in-Push.ensures.added ∙ ap (λ n. c.loop-mark.trace.read ++ n ∷ []) c.branch-mark.ensures.noted) c.inner_reads.new.trace.read (h naming)); few = on_err _ _ c.in_err-inner_reads-in-Push.ensures.few; front = front_on c.args.bound.now.items c.loop-mark.bound.items c.inner_reads.new.bound.items c.loop-mark.invariant.5 c.inner_reads.ensures.front; counted = omega (arith, c.note.ensures.counted, c.inner_reads.ensures.counted, c.loop-mark.invariant.6); same = c.inner_reads.ensures.same ∙ c.note.ensures.old ∙ c.loop-mark.invariant.7 }

pub inner_reads-returns-in_default : goal.inner_reads-returns-in_default
inner_reads-returns-in_default g t c =
    let here = item_at c.args.items.now c.args.next c.index-items-next.result c.requires.within c.index-items-next.is in
    record { told = λ naming. reads_nothing naming _ most_entries c.args.trace.now.read (KeptInOrder c.args.bound.now.items c.args.bound.now.items) (inner_none (ignored_by (filter_of c.args.filter)) (mark_of c.args.mark) (spots_at (g.W.LevelView.levels c.args.view.now) (g.W.LevelView.level_of c.args.view.now c.args.spot)) c.args.items.now c.args.next c.index-items-next.result (items_from (level_by naming (spots_at (g.W.LevelView.levels c.args.view.now) (g.W.LevelView.level_of c.args.view.now c.args.spot))) (g.W.LevelView.place_of c.args.view.now c.args.spot + 1)) here c.in_default.not-Push) c.requires.room; refused = λ naming. tt; branch = λ i. cc; missed = λ i. refl; few = tt; front = take_all (length c.args.bound.now.items) c.args.bound.now.items (omega arith); counted = refl; same = refl }

pub inner_reads-returns-in-Missed : goal.inner_reads-returns-in-Missed
inner_reads-returns-in-Missed g t c =
    let here = item_at c.args.items.now c.args.next c.index-items-next.result c.requires.within c.index-items-next.is in
    let push = here ∙ ap (λ i. Some i) c.in-Push.is in
    let cut : c.truncate.new.self.items ≡ take (length c.args.bound.now.items) c.right_reads.new.bound.items = search rules in
    let kept = cut ∙ c.right_reads.ensures.front in
    record { told = λ naming. kept_as c.in_ok-walked.walked most_entries _ (es_of naming c.args.trace.now.read) (es_of naming c.right_reads.new.trace.read) (KeptInOrder c.args.bound.now.items c.right_reads.new.bound.items) (KeptInOrder c.args.bound.now.items c.truncate.new.self.items) c.in-Missed.is (subst (λ t. Walks most_entries t (es_of naming c.args.trace.now.read) (es_of naming c.right_reads.new.trace.read) (KeptInOrder c.args.bound.now.items c.right_reads.new.bound.items) c.in_ok-walked.walked) (sym (inner_push (ignored_by (filter_of c.args.filter)) (mark_of c.args.mark) (spots_at (g.W.LevelView.levels c.args.view.now) (g.W.LevelView.level_of c.args.view.now c.args.spot)) c.args.items.now c.args.next (items_from (level_by naming (spots_at (g.W.LevelView.levels c.args.view.now) (g.W.LevelView.level_of c.args.view.now c.args.spot))) (g.W.LevelView.place_of c.args.view.now c.args.spot + 1)) push)) (c.in_ok-walked.ensures.told naming)); refused = λ naming. tt; branch = λ i. push; missed = λ i. kept; few = tt; front = ap (take (length c.args.bound.now.items)) kept ∙ take_all (length c.args.bound.now.items) c.args.bound.now.items (omega arith); counted = c.right_reads.ensures.counted; same = c.right_reads.ensures.same }

pub inner_reads-returns-in_default-walked : goal.inner_reads-returns-in_default-walked
inner_reads-returns-in_default-walked g t c =
    let here = item_at c.args.items.now c.args.next c.index-items-next.result c.requires.within c.index-items-next.is in
    let push = here ∙ ap (λ i. Some i) c.in-Push.is in
    record { told = λ naming. subst (λ t. Walks most_entries t (es_of naming c.args.trace.now.read) (es_of naming c.right_reads.new.trace.read) (KeptInOrder c.args.bound.now.items c.right_reads.new.bound.items) c.in_ok-walked.walked) (sym (inner_push (ignored_by (filter_of c.args.filter)) (mark_of c.args.mark) (spots_at (g.W.LevelView.levels c.args.view.now) (g.W.LevelView.level_of c.args.view.now c.args.spot)) c.args.items.now c.args.next (items_from (level_by naming (spots_at (g.W.LevelView.levels c.args.view.now) (g.W.LevelView.level_of c.args.view.now c.args.spot))) (g.W.LevelView.place_of c.args.view.now c.args.spot + 1)) push)) (c.in_ok-walked.ensures.told naming); refused = λ naming. tt; branch = λ i. push; missed = λ i. absurd (c.in_default-walked.not-Missed i); few = tt; front = c.right_reads.ensures.front; counted = c.right_reads.ensures.counted; same = c.right_reads.ensures.same }

pub inner_reads-returns-in_err-walked : goal.inner_reads-returns-in_err-walked
inner_reads-returns-in_err-walked g t c =
    let here = item_at c.args.items.now c.args.next c.index-items-next.result c.requires.within c.index-items-next.is in
    let push = here ∙ ap (λ i. Some i) c.in-Push.is in
    record { told = λ naming. on_bad c.from_residual.result _ _ c.from_residual.ensures.1; refused = λ naming. on_err _ _ (subst (λ t. ReadsFront t (es_of naming c.args.trace.now.read) (es_of naming c.right_reads.new.trace.read)) (sym (inner_push (ignored_by (filter_of c.args.filter)) (mark_of c.args.mark) (spots_at (g.W.LevelView.levels c.args.view.now) (g.W.LevelView.level_of c.args.view.now c.args.spot)) c.args.items.now c.args.next (items_from (level_by naming (spots_at (g.W.LevelView.levels c.args.view.now) (g.W.LevelView.level_of c.args.view.now c.args.spot))) (g.W.LevelView.place_of c.args.view.now c.args.spot + 1)) push)) (c.in_err-walked.ensures.refused naming)); branch = on_bad c.from_residual.result _ _ c.from_residual.ensures.1; missed = on_bad c.from_residual.result _ _ c.from_residual.ensures.1; few = on_err _ _ c.in_err-walked.ensures.few; front = c.right_reads.ensures.front; counted = c.right_reads.ensures.counted; same = c.right_reads.ensures.same }

pub right_reads-tag-tag-requires : goal.right_reads-tag-tag-requires
right_reads-tag-tag-requires g t c = grind (arith, common_steps)

pub right_reads-sight-requires : goal.right_reads-sight-requires
right_reads-sight-requires g t c = grind (arith, elements)

pub right_reads-mate-mate-requires-clause-spot : goal.right_reads-mate-mate-requires-clause-spot
right_reads-mate-mate-requires-clause-spot g t c = grind (arith, elements)

pub right_reads-right-at-requires-in-Push : goal.right_reads-right-at-requires-in-Push
right_reads-right-at-requires-in-Push g t c = grind (arith, elements)

pub right_reads-tag-requires : goal.right_reads-tag-requires
right_reads-tag-requires g t c = grind (arith, elements)

pub right_reads-loop-mark-smaller-in-Found : goal.right_reads-loop-mark-smaller-in-Found
right_reads-loop-mark-smaller-in-Found g t c = grind (arith, elements)

pub right_reads-loop-mark-smaller-in-Missed : goal.right_reads-loop-mark-smaller-in-Missed
right_reads-loop-mark-smaller-in-Missed g t c = grind (arith, elements)

pub right_reads-right-at-requires-in-Module : goal.right_reads-right-at-requires-in-Module
right_reads-right-at-requires-in-Module g t c = grind (arith, elements)

pub right_reads-loop-mark-smaller-in-Passed : goal.right_reads-loop-mark-smaller-in-Passed
right_reads-loop-mark-smaller-in-Passed g t c = grind (arith, common_steps)

pub right_reads-overflow_add-next : goal.right_reads-overflow_add-next
right_reads-overflow_add-next g t c = grind (arith, elements)

pub right_reads-loop-mark-smaller : goal.right_reads-loop-mark-smaller
right_reads-loop-mark-smaller g t c = grind (arith, common_steps)
