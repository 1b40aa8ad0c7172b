use Rattle.std.proofs.Common.{sym, ◌∙◌, subst}
use Rattle.lsys_spec.specs.Rows.{In, AreApart}
use Rattle.lsys_forest.specs.Groves.{now_of, changes_in}
use Rattle.lsys_forest.proofs.RowLemmas.{level_apart}
use Rattle.lsys_front.proofs.Losing.{loses_none}
use Rattle.lsys_pass.proofs.Ended.{level_lives, all_live}
use Rattle.lsys_pass.proofs.ending.end_forest.Goals as goal

pub returns-in_err-list_level-clause-loses : goal.returns-in_err-list_level-clause-loses
returns-in_err-list_level-clause-loses g c = loses_none c.args.forest.now

pub end_level-requires-clause-lives : goal.end_level-requires-clause-lives
end_level-requires-clause-lives g c = λ k i.
    let f = c.args.forest.now in
    level_lives f.root (changes_in f) (now_of f) c.requires.sound c.args.level k (subst (In k) (c.deref.ensures.value ∙ c.in_ok-list_level.ensures) i)

pub end_level-requires-clause-apart : goal.end_level-requires-clause-apart
end_level-requires-clause-apart g c =
    let f = c.args.forest.now in
    subst AreApart (sym (c.deref.ensures.value ∙ c.in_ok-list_level.ensures)) (level_apart f.root (changes_in f) (now_of f) c.requires.sound c.args.level)

pub drop_below-requires : goal.drop_below-requires
drop_below-requires g c =
    let f = c.args.forest.now in
    record {
      lives = all_live f.root (changes_in f) (now_of f) c.requires.sound (now_of c.end_level.new.forest) c.deref.result.now c.args.gone.now c.new-below.result.items c.end_level.new.below.items c.add_children.new.below.items
          c.in_ok-end_level.ensures.ended c.in_ok-end_level.ensures.below c.in_ok-add_children.ensures.below (λ k i. absurd (subst (In k) c.new-below.ensures.items i)) c.in_ok-add_children.ensures.lives;
    }
