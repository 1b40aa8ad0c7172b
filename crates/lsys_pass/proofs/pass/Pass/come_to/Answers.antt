use Rattle.std.proofs.Common.{arith, refl, sym, subst, ap}
use Rattle.std.proofs.lemmas.Grind.{elements}
use Rattle.lsys_pass.specs.declared.state.PassState.TheVariants.{Done}
use Rattle.lsys_pass.specs.Sizes.{HaveSizesTo}
use Rattle.lsys_pass.specs.Passes.{PassView, stage_of, now_in}
use Rattle.lsys_pass.specs.Fresh.{row_of, Goes, IsReadyToAsk, IsLast}
use Rattle.lsys_pass.proofs.Going.{goes_on}
use Rattle.lsys_pass.proofs.Visiting.{all_to_ask, none_to_ask}
use Rattle.lsys_pass.proofs.Coming.{level_pass, done_pass, sizes_stay}
use Rattle.lsys_pass.proofs.pass.Pass.come_to.Goals.{then-is_asked+in_ok-ask_level, else-is_asked+in_ok-end_levels}
use Rattle.lsys_pass.proofs.pass.Pass.come_to.Goals as goal

pub invariant_of-self : goal.invariant_of-self
invariant_of-self g c =
    let v : PassView = c.args.self.now in
    let w : PassView = c.find_turned.new.self in
    let x : PassView = c.ask_level.new.self in
    let here = sym c.self.view_is in
    let found = c.in_ok-found.ensures.goes c.args.level in
    let turned = sizes_stay v w c.args.level found c.requires.sizes (λ u l. ap (λ (y : PassView). row_of y u) c.find_turned.ensures.same) (ap (λ (y : PassView). y.made) c.find_turned.ensures.same) in
    let sizes = sizes_stay w x c.args.level c.in_ok-ask_level.ensures.goes turned c.in_ok-ask_level.ensures.rows c.ask_level.ensures.made in
    let goes = goes_on (stage_of v) (stage_of w) (stage_of x) c.args.level found c.in_ok-ask_level.ensures.goes in
    level_pass v _ c.args.level c.self.invariant (subst (λ (y : PassView). Goes (stage_of v) (stage_of y) c.args.level) here goes) c.requires.origin
    (subst (λ (y : PassView). HaveSizesTo (now_in y) y.forest.root y.made c.args.level) here sizes) (subst (λ (y : PassView). IsReadyToAsk y c.args.level) here c.in_ok-ask_level.ensures.asked)

pub invariant_of-self-else-is_asked : goal.invariant_of-self-else-is_asked
invariant_of-self-else-is_asked g c =
    let v : PassView = c.args.self.now in
    let w : PassView = c.find_turned.new.self in
    let x : PassView = c.end_levels.new.self in
    let here = sym c.self-else-is_asked.view_is in
    let found = c.in_ok-found.ensures.goes c.args.level in
    let turned = sizes_stay v w c.args.level found c.requires.sizes (λ u l. ap (λ (y : PassView). row_of y u) c.find_turned.ensures.same) (ap (λ (y : PassView). y.made) c.find_turned.ensures.same) in
    let sizes = sizes_stay w x c.args.level c.in_ok-end_levels.ensures.goes turned c.in_ok-end_levels.ensures.rows c.end_levels.ensures.made in
    let goes = goes_on (stage_of v) (stage_of w) (stage_of x) c.args.level found c.in_ok-end_levels.ensures.goes in
    done_pass v _ c.args.level c.self-else-is_asked.invariant (subst (λ (y : PassView). Goes (stage_of v) (stage_of y) c.args.level) here goes) c.requires.origin
    (subst (λ (y : PassView). HaveSizesTo (now_in y) y.forest.root y.made c.args.level) here sizes) (subst (λ (y : PassView). IsLast y c.args.level) here c.in_ok-end_levels.ensures.last)

pub returns-clause-all : goal.returns-clause-all
returns-clause-all g c = elim c.if-is_asked.branch [
  | then-is_asked+in_ok-ask_level w ↦ all_to_ask _ w.ask_level.new.self c.if-is_asked.self c.args.level w.self.view_is w.in_ok-ask_level.ensures.asked w.self-is
  | else-is_asked+in_ok-end_levels w ↦ none_to_ask c.if-is_asked.self Done (ap (λ (v : PassView). v.state) w.self-is) refl
]

pub ask_level-requires-clause-below : goal.ask_level-requires-clause-below
ask_level-requires-clause-below g c = grind (arith, elements)
