use Rattle.std.proofs.Common.{◌∙◌, ℕ, List, ap, subst}
use Rattle.std.proofs.lemmas.Result.{on_ok_weaker}
use Rattle.lsys_spec.specs.Rows.{In}
use Rattle.lsys_forest.specs.Groves.{now_of}
use Rattle.lsys_forest.proofs.RowLemmas.{In_left, In_right}
use Rattle.lsys_front.specs.declared.front.Front.TheInside.{Inside}
use Rattle.lsys_front.specs.Fronts.{Differences}
use Rattle.lsys_front.specs.Asks.{Loses}
use Rattle.lsys_front.proofs.Losing.{loses_on}
use Rattle.lsys_front.proofs.LostAnswers.{loses_both, lives_on}
use Rattle.lsys_front.proofs.front.Front.lose_both.Goals as goal

pub lose_answers-requires-clause-lives : goal.lose_answers-requires-clause-lives
lose_answers-requires-clause-lives g c = λ k i.
    let whole = c.deref.ensures.value ∙ ap (λ (x : Inside). x.changes.changed) c.self-inside.view_is ∙ ap (λ (d : Differences). d.changes.changed) c.self.view_is in
    c.requires.lives k (In_left k c.args.self.now.changes.changed c.args.others.now (subst (In k) whole i))

pub lose_answers-requires-2-clause-lives : goal.lose_answers-requires-2-clause-lives
lose_answers-requires-2-clause-lives g c = λ k i.
    lives_on c.args.system.now c.args.level (now_of c.args.forest.now) (now_of c.lose_answers.new.forest) c.deref.result.now _ c.lose_answers.new.bare.items
    c.args.dropped.now.items c.lose_answers.new.dropped.items c.in_ok-lose_answers.ensures.loses k (c.requires.lives k (In_right k c.args.self.now.changes.changed c.args.others.now i))

pub returns-clause-loses : goal.returns-clause-loses
returns-clause-loses g c =
    let a = now_of c.args.forest.now in
    let b = now_of c.lose_answers.new.forest in
    let whole = c.deref.ensures.value ∙ ap (λ (x : Inside). x.changes.changed) c.self-inside.view_is ∙ ap (λ (d : Differences). d.changes.changed) c.self.view_is in
    let bare = ap (λ (x : Inside). x.bare.items) c.self-inside.view_is ∙ ap (λ (d : Differences). d.bare) c.self.view_is in
    let first : Loses c.args.system.now c.args.level a b c.args.self.now.changes.changed c.args.self.now.bare c.lose_answers.new.bare.items c.args.dropped.now.items c.lose_answers.new.dropped.items =
    subst (λ (xs : List ℕ). Loses c.args.system.now c.args.level a b xs c.args.self.now.bare c.lose_answers.new.bare.items c.args.dropped.now.items c.lose_answers.new.dropped.items) whole
    (subst (λ (xs : List ℕ). Loses c.args.system.now c.args.level a b c.deref.result.now xs c.lose_answers.new.bare.items c.args.dropped.now.items c.lose_answers.new.dropped.items) bare c.in_ok-lose_answers.ensures.loses) in
    on_ok_weaker c.lose_answers-2.result
    (loses_both c.args.system.now c.args.level a b (now_of c.lose_answers-2.new.forest) c.args.self.now.changes.changed c.args.others.now c.args.self.now.bare c.lose_answers.new.bare.items c.lose_answers-2.new.bare.items
    c.args.dropped.now.items c.lose_answers.new.dropped.items c.lose_answers-2.new.dropped.items first) c.lose_answers-2.ensures.loses

pub returns-clause-only : goal.returns-clause-only
returns-clause-only g c = loses_on c.args.forest.now c.lose_answers.new.forest c.lose_answers-2.new.forest c.lose_answers.ensures.only c.lose_answers-2.ensures.only
