use Rattle.std.proofs.Common.{◌≡◌, ℕ, List, [], ◌++◌, ◌+◌, ◌≤◌, length, map, reverse, Ok, IfOk, ap, ◌∙◌, arith, rules, subst, refl, sym, Err, OnErr}
use Rattle.std.proofs.lemmas.List.{length-map}
use Rattle.std.proofs.lemmas.Grind.{elements}
use Rattle.lsys_spec.specs.Levels.{way, items_from}
use Rattle.lsys_spec.specs.Walks.{left_walk, right_walk}
use Rattle.lsys_spec.specs.Choice.{params_of}
use Rattle.lsys_spec.specs.Meaning.{ignored_by, most_entries}
use Rattle.lsys_level.specs.Spots.{spots_at, level_by}
use Rattle.lsys_walks.specs.declared.walked.Walked.TheVariants.{Found, Missed, TooFar}
use Rattle.lsys_walks.specs.Noted.{entry_by}
use Rattle.lsys_bodies.specs.Filters.{filter_of}
use Rattle.lsys_bodies.specs.Views.{as_pattern, body_value}
use Rattle.lsys_walks.specs.Items.{patterns_from}
use Rattle.lsys_walks.specs.Walked.{Walks, ReadsFront, KeptInOrder, KeptReversed}
use Rattle.lsys_walks.proofs.Told.{es_of, on_err}
use Rattle.lsys_walks.proofs.RuleReads.{left_missed, left_far, left_found, left_front, left_read, right_front, bound_all}
use Rattle.lsys_walks.proofs.contexts.context_reads.Goals as goal

pub right_reads-requires-clause-room : goal.right_reads-requires-clause-room
right_reads-requires-clause-room g c =
    let ok : c.left_reads.result ≡ Ok Found = c.in_ok-left_reads.was ∙ ap (λ v. Ok v) c.in-Found.is in
    let h : (naming : ℕ → List ℕ) → Walks most_entries (left_walk (ignored_by (filter_of c.args.filter)) (record { rule = c.args.rule; depth = 0 }) (reverse (map as_pattern c.deref.result.now)) (way (level_by naming (spots_at (g.W.LevelView.levels c.args.view.now) (g.W.LevelView.level_of c.args.view.now c.args.spot))) (g.W.LevelView.place_of c.args.view.now c.args.spot))) (es_of naming c.args.trace.now.read) (es_of naming c.left_reads.new.trace.read) (KeptReversed c.truncate.new.self.items c.left_reads.new.bound.items) Found =
    λ naming. subst (λ r. IfOk r (λ v. Walks most_entries (left_walk (ignored_by (filter_of c.args.filter)) (record { rule = c.args.rule; depth = 0 }) (reverse (map as_pattern c.deref.result.now)) (way (level_by naming (spots_at (g.W.LevelView.levels c.args.view.now) (g.W.LevelView.level_of c.args.view.now c.args.spot))) (g.W.LevelView.place_of c.args.view.now c.args.spot))) (es_of naming c.args.trace.now.read) (es_of naming c.left_reads.new.trace.read) (KeptReversed c.truncate.new.self.items c.left_reads.new.bound.items) v)) ok (c.left_reads.ensures.told naming) in
    omega (arith, (h (λ t. [])).1, length-map c.left_reads.new.trace.read (entry_by (λ t. [])))

pub returns-in-Missed-clause-told : goal.returns-in-Missed-clause-told
returns-in-Missed-clause-told g c =
    let ok : c.left_reads.result ≡ Ok Missed = c.in_ok-left_reads.was ∙ ap (λ v. Ok v) c.in-Missed.is in
    let h : (naming : ℕ → List ℕ) → Walks most_entries (left_walk (ignored_by (filter_of c.args.filter)) (record { rule = c.args.rule; depth = 0 }) (reverse (map as_pattern c.deref.result.now)) (way (level_by naming (spots_at (g.W.LevelView.levels c.args.view.now) (g.W.LevelView.level_of c.args.view.now c.args.spot))) (g.W.LevelView.place_of c.args.view.now c.args.spot))) (es_of naming c.args.trace.now.read) (es_of naming c.left_reads.new.trace.read) (KeptReversed c.truncate.new.self.items c.left_reads.new.bound.items) Missed =
    λ naming. subst (λ r. IfOk r (λ v. Walks most_entries (left_walk (ignored_by (filter_of c.args.filter)) (record { rule = c.args.rule; depth = 0 }) (reverse (map as_pattern c.deref.result.now)) (way (level_by naming (spots_at (g.W.LevelView.levels c.args.view.now) (g.W.LevelView.level_of c.args.view.now c.args.spot))) (g.W.LevelView.place_of c.args.view.now c.args.spot))) (es_of naming c.args.trace.now.read) (es_of naming c.left_reads.new.trace.read) (KeptReversed c.truncate.new.self.items c.left_reads.new.bound.items) v)) ok (c.left_reads.ensures.told naming) in
    λ m i naming. left_missed (ignored_by (filter_of c.args.filter)) (record { rule = c.args.rule; depth = 0 }) (body_value c.args.body.now) m (way (level_by naming (spots_at (g.W.LevelView.levels c.args.view.now) (g.W.LevelView.level_of c.args.view.now c.args.spot))) (g.W.LevelView.place_of c.args.view.now c.args.spot)) (items_from (level_by naming (spots_at (g.W.LevelView.levels c.args.view.now) (g.W.LevelView.level_of c.args.view.now c.args.spot))) ((g.W.LevelView.place_of c.args.view.now c.args.spot) + 1)) most_entries (map as_pattern c.deref.result.now) (patterns_from c.args.body.now.right.items 0) (ap (map as_pattern) (sym c.deref.ensures.value)) refl (es_of naming c.args.trace.now.read) (es_of naming c.left_reads.new.trace.read) (es_of naming c.left_reads.new.trace.read) (λ ms. c.left_reads.new.bound.items ≡ params_of ms) (KeptReversed c.truncate.new.self.items c.left_reads.new.bound.items) (h naming)

pub returns-in-TooFar-clause-told : goal.returns-in-TooFar-clause-told
returns-in-TooFar-clause-told g c =
    let ok : c.left_reads.result ≡ Ok TooFar = c.in_ok-left_reads.was ∙ ap (λ v. Ok v) c.in-TooFar.is in
    let h : (naming : ℕ → List ℕ) → Walks most_entries (left_walk (ignored_by (filter_of c.args.filter)) (record { rule = c.args.rule; depth = 0 }) (reverse (map as_pattern c.deref.result.now)) (way (level_by naming (spots_at (g.W.LevelView.levels c.args.view.now) (g.W.LevelView.level_of c.args.view.now c.args.spot))) (g.W.LevelView.place_of c.args.view.now c.args.spot))) (es_of naming c.args.trace.now.read) (es_of naming c.left_reads.new.trace.read) (KeptReversed c.truncate.new.self.items c.left_reads.new.bound.items) TooFar =
    λ naming. subst (λ r. IfOk r (λ v. Walks most_entries (left_walk (ignored_by (filter_of c.args.filter)) (record { rule = c.args.rule; depth = 0 }) (reverse (map as_pattern c.deref.result.now)) (way (level_by naming (spots_at (g.W.LevelView.levels c.args.view.now) (g.W.LevelView.level_of c.args.view.now c.args.spot))) (g.W.LevelView.place_of c.args.view.now c.args.spot))) (es_of naming c.args.trace.now.read) (es_of naming c.left_reads.new.trace.read) (KeptReversed c.truncate.new.self.items c.left_reads.new.bound.items) v)) ok (c.left_reads.ensures.told naming) in
    λ m i naming. left_far (ignored_by (filter_of c.args.filter)) (record { rule = c.args.rule; depth = 0 }) (body_value c.args.body.now) m (way (level_by naming (spots_at (g.W.LevelView.levels c.args.view.now) (g.W.LevelView.level_of c.args.view.now c.args.spot))) (g.W.LevelView.place_of c.args.view.now c.args.spot)) (items_from (level_by naming (spots_at (g.W.LevelView.levels c.args.view.now) (g.W.LevelView.level_of c.args.view.now c.args.spot))) ((g.W.LevelView.place_of c.args.view.now c.args.spot) + 1)) most_entries (map as_pattern c.deref.result.now) (patterns_from c.args.body.now.right.items 0) (ap (map as_pattern) (sym c.deref.ensures.value)) refl (es_of naming c.args.trace.now.read) (es_of naming c.left_reads.new.trace.read) (es_of naming c.left_reads.new.trace.read) (λ ms. c.left_reads.new.bound.items ≡ params_of ms) (KeptReversed c.truncate.new.self.items c.left_reads.new.bound.items) (h naming)

pub returns-in_ok-walked-in-Found-clause-told : goal.returns-in_ok-walked-in-Found-clause-told
returns-in_ok-walked-in-Found-clause-told g c =
    let ok : c.left_reads.result ≡ Ok Found = c.in_ok-left_reads.was ∙ ap (λ v. Ok v) c.in-Found.is in
    let h : (naming : ℕ → List ℕ) → Walks most_entries (left_walk (ignored_by (filter_of c.args.filter)) (record { rule = c.args.rule; depth = 0 }) (reverse (map as_pattern c.deref.result.now)) (way (level_by naming (spots_at (g.W.LevelView.levels c.args.view.now) (g.W.LevelView.level_of c.args.view.now c.args.spot))) (g.W.LevelView.place_of c.args.view.now c.args.spot))) (es_of naming c.args.trace.now.read) (es_of naming c.left_reads.new.trace.read) (KeptReversed c.truncate.new.self.items c.left_reads.new.bound.items) Found =
    λ naming. subst (λ r. IfOk r (λ v. Walks most_entries (left_walk (ignored_by (filter_of c.args.filter)) (record { rule = c.args.rule; depth = 0 }) (reverse (map as_pattern c.deref.result.now)) (way (level_by naming (spots_at (g.W.LevelView.levels c.args.view.now) (g.W.LevelView.level_of c.args.view.now c.args.spot))) (g.W.LevelView.place_of c.args.view.now c.args.spot))) (es_of naming c.args.trace.now.read) (es_of naming c.left_reads.new.trace.read) (KeptReversed c.truncate.new.self.items c.left_reads.new.bound.items) v)) ok (c.left_reads.ensures.told naming) in
    let empty : c.truncate.new.self.items ≡ [] = search rules in
    let turned : c.extend_from_slice.new.self.items ≡ reverse c.left_reads.new.bound.items ++ c.args.own.now = search rules in
    let k : (naming : ℕ → List ℕ) → Walks most_entries (right_walk (ignored_by (filter_of c.args.filter)) (record { rule = c.args.rule; depth = 0 }) (patterns_from c.deref-in-Found.result.now 0) (items_from (level_by naming (spots_at (g.W.LevelView.levels c.args.view.now) (g.W.LevelView.level_of c.args.view.now c.args.spot))) ((g.W.LevelView.place_of c.args.view.now c.args.spot) + 1))) (es_of naming c.left_reads.new.trace.read) (es_of naming c.right_reads.new.trace.read) (KeptInOrder c.extend_from_slice.new.self.items c.right_reads.new.bound.items) c.in_ok-walked-in-Found.walked =
    λ naming. subst (λ r. IfOk r (λ v. Walks most_entries (right_walk (ignored_by (filter_of c.args.filter)) (record { rule = c.args.rule; depth = 0 }) (patterns_from c.deref-in-Found.result.now 0) (items_from (level_by naming (spots_at (g.W.LevelView.levels c.args.view.now) (g.W.LevelView.level_of c.args.view.now c.args.spot))) ((g.W.LevelView.place_of c.args.view.now c.args.spot) + 1))) (es_of naming c.left_reads.new.trace.read) (es_of naming c.right_reads.new.trace.read) (KeptInOrder c.extend_from_slice.new.self.items c.right_reads.new.bound.items) v)) c.in_ok-walked-in-Found.was (c.right_reads.ensures.told naming) in
    λ m i naming. let l = h naming in
    left_found (ignored_by (filter_of c.args.filter)) (record { rule = c.args.rule; depth = 0 }) (body_value c.args.body.now) m (way (level_by naming (spots_at (g.W.LevelView.levels c.args.view.now) (g.W.LevelView.level_of c.args.view.now c.args.spot))) (g.W.LevelView.place_of c.args.view.now c.args.spot)) (items_from (level_by naming (spots_at (g.W.LevelView.levels c.args.view.now) (g.W.LevelView.level_of c.args.view.now c.args.spot))) ((g.W.LevelView.place_of c.args.view.now c.args.spot) + 1)) most_entries (map as_pattern c.deref.result.now) (patterns_from c.deref-in-Found.result.now 0) (ap (map as_pattern) (sym c.deref.ensures.value)) (ap (λ items. patterns_from items 0) (sym c.deref-in-Found.ensures.value)) (es_of naming c.args.trace.now.read) (es_of naming c.left_reads.new.trace.read) (es_of naming c.right_reads.new.trace.read) (λ ms. c.right_reads.new.bound.items ≡ params_of ms) l.2 (KeptInOrder c.extend_from_slice.new.self.items c.right_reads.new.bound.items) c.in_ok-walked-in-Found.walked l.3 l.0
    (λ more e. bound_all l.2 more m c.args.own.now c.truncate.new.self.items c.left_reads.new.bound.items c.extend_from_slice.new.self.items c.right_reads.new.bound.items i empty l.4 turned e) (k naming)

pub returns-in_err-left_reads-clause-refused : goal.returns-in_err-left_reads-clause-refused
returns-in_err-left_reads-clause-refused g c =
    let bad : c.left_reads.result ≡ Err _ = c.in_err-left_reads.was in
    λ m i naming. on_err _ _ (left_front (ignored_by (filter_of c.args.filter)) (record { rule = c.args.rule; depth = 0 }) (body_value c.args.body.now) m (way (level_by naming (spots_at (g.W.LevelView.levels c.args.view.now) (g.W.LevelView.level_of c.args.view.now c.args.spot))) (g.W.LevelView.place_of c.args.view.now c.args.spot)) (items_from (level_by naming (spots_at (g.W.LevelView.levels c.args.view.now) (g.W.LevelView.level_of c.args.view.now c.args.spot))) ((g.W.LevelView.place_of c.args.view.now c.args.spot) + 1)) most_entries (map as_pattern c.deref.result.now) (patterns_from c.args.body.now.right.items 0) (ap (map as_pattern) (sym c.deref.ensures.value)) refl (es_of naming c.args.trace.now.read) (es_of naming c.left_reads.new.trace.read) (es_of naming c.left_reads.new.trace.read)
    (subst (λ r. OnErr r (ReadsFront (left_walk (ignored_by (filter_of c.args.filter)) (record { rule = c.args.rule; depth = 0 }) (reverse (map as_pattern c.deref.result.now)) (way (level_by naming (spots_at (g.W.LevelView.levels c.args.view.now) (g.W.LevelView.level_of c.args.view.now c.args.spot))) (g.W.LevelView.place_of c.args.view.now c.args.spot))) (es_of naming c.args.trace.now.read) (es_of naming c.left_reads.new.trace.read))) bad (c.left_reads.ensures.refused naming)))

pub returns-in_err-extend_from_slice-in-Found-clause-few : goal.returns-in_err-extend_from_slice-in-Found-clause-few
returns-in_err-extend_from_slice-in-Found-clause-few g c =
    let ok : c.left_reads.result ≡ Ok Found = c.in_ok-left_reads.was ∙ ap (λ v. Ok v) c.in-Found.is in
    let h : (naming : ℕ → List ℕ) → Walks most_entries (left_walk (ignored_by (filter_of c.args.filter)) (record { rule = c.args.rule; depth = 0 }) (reverse (map as_pattern c.deref.result.now)) (way (level_by naming (spots_at (g.W.LevelView.levels c.args.view.now) (g.W.LevelView.level_of c.args.view.now c.args.spot))) (g.W.LevelView.place_of c.args.view.now c.args.spot))) (es_of naming c.args.trace.now.read) (es_of naming c.left_reads.new.trace.read) (KeptReversed c.truncate.new.self.items c.left_reads.new.bound.items) Found =
    λ naming. subst (λ r. IfOk r (λ v. Walks most_entries (left_walk (ignored_by (filter_of c.args.filter)) (record { rule = c.args.rule; depth = 0 }) (reverse (map as_pattern c.deref.result.now)) (way (level_by naming (spots_at (g.W.LevelView.levels c.args.view.now) (g.W.LevelView.level_of c.args.view.now c.args.spot))) (g.W.LevelView.place_of c.args.view.now c.args.spot))) (es_of naming c.args.trace.now.read) (es_of naming c.left_reads.new.trace.read) (KeptReversed c.truncate.new.self.items c.left_reads.new.bound.items) v)) ok (c.left_reads.ensures.told naming) in
    let l : length c.left_reads.new.trace.read ≤ most_entries = omega (arith, (h (λ t. [])).1, length-map c.left_reads.new.trace.read (entry_by (λ t. []))) in on_err _ _ l

pub returns-in_err-extend_from_slice-in-Found-clause-refused : goal.returns-in_err-extend_from_slice-in-Found-clause-refused
returns-in_err-extend_from_slice-in-Found-clause-refused g c =
    let ok : c.left_reads.result ≡ Ok Found = c.in_ok-left_reads.was ∙ ap (λ v. Ok v) c.in-Found.is in
    let h : (naming : ℕ → List ℕ) → Walks most_entries (left_walk (ignored_by (filter_of c.args.filter)) (record { rule = c.args.rule; depth = 0 }) (reverse (map as_pattern c.deref.result.now)) (way (level_by naming (spots_at (g.W.LevelView.levels c.args.view.now) (g.W.LevelView.level_of c.args.view.now c.args.spot))) (g.W.LevelView.place_of c.args.view.now c.args.spot))) (es_of naming c.args.trace.now.read) (es_of naming c.left_reads.new.trace.read) (KeptReversed c.truncate.new.self.items c.left_reads.new.bound.items) Found =
    λ naming. subst (λ r. IfOk r (λ v. Walks most_entries (left_walk (ignored_by (filter_of c.args.filter)) (record { rule = c.args.rule; depth = 0 }) (reverse (map as_pattern c.deref.result.now)) (way (level_by naming (spots_at (g.W.LevelView.levels c.args.view.now) (g.W.LevelView.level_of c.args.view.now c.args.spot))) (g.W.LevelView.place_of c.args.view.now c.args.spot))) (es_of naming c.args.trace.now.read) (es_of naming c.left_reads.new.trace.read) (KeptReversed c.truncate.new.self.items c.left_reads.new.bound.items) v)) ok (c.left_reads.ensures.told naming) in
    λ m i naming. on_err _ _ (left_read (ignored_by (filter_of c.args.filter)) (record { rule = c.args.rule; depth = 0 }) (body_value c.args.body.now) m (way (level_by naming (spots_at (g.W.LevelView.levels c.args.view.now) (g.W.LevelView.level_of c.args.view.now c.args.spot))) (g.W.LevelView.place_of c.args.view.now c.args.spot)) (items_from (level_by naming (spots_at (g.W.LevelView.levels c.args.view.now) (g.W.LevelView.level_of c.args.view.now c.args.spot))) ((g.W.LevelView.place_of c.args.view.now c.args.spot) + 1)) most_entries (map as_pattern c.deref.result.now) (patterns_from c.args.body.now.right.items 0) (ap (map as_pattern) (sym c.deref.ensures.value)) refl (es_of naming c.args.trace.now.read) (es_of naming c.left_reads.new.trace.read) (es_of naming c.left_reads.new.trace.read) (h naming).0)

pub returns-in_err-walked-in-Found-clause-refused : goal.returns-in_err-walked-in-Found-clause-refused
returns-in_err-walked-in-Found-clause-refused g c =
    let ok : c.left_reads.result ≡ Ok Found = c.in_ok-left_reads.was ∙ ap (λ v. Ok v) c.in-Found.is in
    let h : (naming : ℕ → List ℕ) → Walks most_entries (left_walk (ignored_by (filter_of c.args.filter)) (record { rule = c.args.rule; depth = 0 }) (reverse (map as_pattern c.deref.result.now)) (way (level_by naming (spots_at (g.W.LevelView.levels c.args.view.now) (g.W.LevelView.level_of c.args.view.now c.args.spot))) (g.W.LevelView.place_of c.args.view.now c.args.spot))) (es_of naming c.args.trace.now.read) (es_of naming c.left_reads.new.trace.read) (KeptReversed c.truncate.new.self.items c.left_reads.new.bound.items) Found =
    λ naming. subst (λ r. IfOk r (λ v. Walks most_entries (left_walk (ignored_by (filter_of c.args.filter)) (record { rule = c.args.rule; depth = 0 }) (reverse (map as_pattern c.deref.result.now)) (way (level_by naming (spots_at (g.W.LevelView.levels c.args.view.now) (g.W.LevelView.level_of c.args.view.now c.args.spot))) (g.W.LevelView.place_of c.args.view.now c.args.spot))) (es_of naming c.args.trace.now.read) (es_of naming c.left_reads.new.trace.read) (KeptReversed c.truncate.new.self.items c.left_reads.new.bound.items) v)) ok (c.left_reads.ensures.told naming) in
    let bad : c.right_reads.result ≡ Err _ = c.in_err-walked-in-Found.was in
    λ m i naming. on_err _ _ (right_front (ignored_by (filter_of c.args.filter)) (record { rule = c.args.rule; depth = 0 }) (body_value c.args.body.now) m (way (level_by naming (spots_at (g.W.LevelView.levels c.args.view.now) (g.W.LevelView.level_of c.args.view.now c.args.spot))) (g.W.LevelView.place_of c.args.view.now c.args.spot)) (items_from (level_by naming (spots_at (g.W.LevelView.levels c.args.view.now) (g.W.LevelView.level_of c.args.view.now c.args.spot))) ((g.W.LevelView.place_of c.args.view.now c.args.spot) + 1)) most_entries (map as_pattern c.deref.result.now) (patterns_from c.deref-in-Found.result.now 0) (ap (map as_pattern) (sym c.deref.ensures.value)) (ap (λ items. patterns_from items 0) (sym c.deref-in-Found.ensures.value)) (es_of naming c.args.trace.now.read) (es_of naming c.left_reads.new.trace.read) (es_of naming c.right_reads.new.trace.read) (h naming).2 (h naming).3 (h naming).0
    (subst (λ r. OnErr r (ReadsFront (right_walk (ignored_by (filter_of c.args.filter)) (record { rule = c.args.rule; depth = 0 }) (patterns_from c.deref-in-Found.result.now 0) (items_from (level_by naming (spots_at (g.W.LevelView.levels c.args.view.now) (g.W.LevelView.level_of c.args.view.now c.args.spot))) ((g.W.LevelView.place_of c.args.view.now c.args.spot) + 1))) (es_of naming c.left_reads.new.trace.read) (es_of naming c.right_reads.new.trace.read))) bad (c.right_reads.ensures.refused naming)))

pub returns-in_err-extend_from_slice-in-Found-clause-told : goal.returns-in_err-extend_from_slice-in-Found-clause-told
returns-in_err-extend_from_slice-in-Found-clause-told g c = grind (arith, elements)

pub right_reads-requires-clause-depth : goal.right_reads-requires-clause-depth
right_reads-requires-clause-depth g c = grind (arith, elements)
