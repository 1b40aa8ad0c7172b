use Rattle.std.proofs.Common.{◌≡◌, ◌+◌, ◌-◌, false, length, List, sym, subst, ap, ◌∙◌, arith}
use Rattle.lsys_children.specs.Nexts.{AreClosed}
use Rattle.lsys_children.specs.Answers.{kept_successors}
use Rattle.lsys_children.specs.declared.parent.Parent.{Parent}
use Rattle.lsys_children.specs.Needs.{needs}
use Rattle.lsys_pass.specs.declared.sizes.Size.{Size}
use Rattle.lsys_pass.specs.Sizes.{with_level}
use Rattle.lsys_pass.specs.Passes.{PassView, stage_of, now_in}
use Rattle.lsys_pass.specs.Moves.{SameRun}
use Rattle.lsys_pass.specs.Advances.{symbols_wanted}
use Rattle.lsys_pass.specs.Fresh.{WasAsked, row_of}
use Rattle.lsys_pass.proofs.Coming.{from_after, sizes_made, run_on, run_same, run_part}
use Rattle.lsys_pass.proofs.pass.Pass.make_next.Goals as goal

pub within_limit-requires-clause-asked : goal.within_limit-requires-clause-asked
within_limit-requires-clause-asked g c =
    let same : c.args.level ≡ c.args.level + 1 - 1 = omega arith in
    subst (λ t. WasAsked c.count_next.new.self t) same (subst (λ (v : PassView). WasAsked v c.args.level) (sym c.count_next.ensures.same) c.find_parents.ensures.asked)

pub within_limit-requires-clause-symbols : goal.within_limit-requires-clause-symbols
within_limit-requires-clause-symbols g c =
    let same : c.args.level ≡ c.args.level + 1 - 1 = omega arith in
    c.in_ok-count.ensures.symbols ∙ ap (λ (v : PassView). symbols_wanted (stage_of v) c.args.level) (sym c.count_next.ensures.same) ∙ ap (λ t. symbols_wanted (stage_of c.count_next.new.self) t) same

pub make_level-requires-clause-need : goal.make_level-requires-clause-need
make_level-requires-clause-need g c =
    let x : PassView = c.count_next.new.self in
    c.in_ok-count.ensures.need ∙ ap (λ (v : PassView). needs v.next.numbering (now_in v) c.in_ok-parents.parents.list.items) (sym c.count_next.ensures.same) ∙ ap (λ (ps : List Parent). needs x.next.numbering (now_in x) ps) (sym c.deref.ensures.value)

pub make_level-requires-clause-symbols : goal.make_level-requires-clause-symbols
make_level-requires-clause-symbols g c = c.in_ok-count.ensures.symbols ∙ ap (λ (v : PassView). symbols_wanted (stage_of v) c.args.level) (sym c.count_next.ensures.same)

pub returns-clause-origin : goal.returns-clause-origin
returns-clause-origin g c =
    from_after c.count_next.new.self c.make_level.new.self c.args.level (subst (λ (v : PassView). WasAsked v c.args.level) (sym c.count_next.ensures.same) c.find_parents.ensures.asked) c.in_ok-make_level.ensures.goes

pub returns-clause-sizes : goal.returns-clause-sizes
returns-clause-sizes g c =
    let v : PassView = c.args.self.now in
    let w : PassView = c.count_next.new.self in
    let x : PassView = c.make_level.new.self in
    let t = c.args.level in
    let closed : c.in_ok-parents.parents.is_open ≡ false → AreClosed (kept_successors (now_in w)) (row_of w t) = λ e. subst (λ (y : PassView). AreClosed (kept_successors (now_in y)) (row_of y t)) (sym c.count_next.ensures.same) (c.in_ok-parents.ensures.closed e) in
    sizes_made v w x t c.in_ok-parents.parents.is_open c.requires.asked (ap (λ (y : PassView). now_in y) c.count_next.ensures.same ∙ ap (λ (y : PassView). now_in y) c.find_parents.ensures.same)
    (ap (λ (y : PassView). y.forest.root) c.count_next.ensures.same ∙ ap (λ (y : PassView). y.forest.root) c.find_parents.ensures.same) c.in_ok-make_level.ensures.goes closed
    (c.in_ok-make_level.ensures.made ∙ ap (λ (xs : List Size). with_level xs (length (row_of x (t + 1)))) (ap (λ (y : PassView). y.made) c.count_next.ensures.same ∙ c.in_ok-parents.ensures.made))

pub returns-clause-renewed : goal.returns-clause-renewed
returns-clause-renewed g c = c.in_ok-make_level.ensures.goes.run.renewed ∙ ap (λ (y : PassView). y.renewed) c.count_next.ensures.same ∙ ap (λ (y : PassView). y.renewed) c.find_parents.ensures.same

pub returns-clause-run : goal.returns-clause-run
returns-clause-run g c =
    let v : PassView = c.args.self.now in
    let p : PassView = c.find_parents.new.self in
    let w : PassView = c.count_next.new.self in
    let x : PassView = c.make_level.new.self in
    let first : SameRun v w = run_on v p w (run_part v p c.find_parents.ensures.same) (run_same p w c.count_next.ensures.same) in
    run_on v w x first c.make_level.ensures.run
