use Rattle.std.proofs.Common.{◌≡◌, [], ap, ap₂, ◌∙◌}
use Rattle.lsys_spec.specs.Pictures.{Turtle}
use Rattle.lsys_level.specs.Spots.{spots_at, level_by}
use Rattle.lsys_hom.specs.Coming.{Coming, coming}
use Rattle.lsys_out.specs.Drawings.{drawing, last_image}
use Rattle.lsys_out.proofs.Going.{can_begin, few_begin}
use Rattle.lsys_out.proofs.way.TurtleWay.new.Goals as goal

pub invariant_of-result : goal.invariant_of-result
invariant_of-result g c =
    let s = c.args.system.now in
    let levels = g.W.LevelView.levels c.args.view.now in
    let is : c.new.result ≡ last_image s levels = c.new.ensures (λ tag. []) ∙ ap (λ d. coming s (level_by (λ tag. []) (spots_at levels d))) c.depth.ensures.depth in
    few_begin s levels c.new.result is

pub returns-clause-drawing : goal.returns-clause-drawing
returns-clause-drawing g c =
    let s = c.args.system.now in
    let levels = g.W.LevelView.levels c.args.view.now in
    let is : c.new.result ≡ last_image s levels = c.new.ensures (λ tag. []) ∙ ap (λ d. coming s (level_by (λ tag. []) (spots_at levels d))) c.depth.ensures.depth in
    ap₂ (λ (i : Coming) (t : Turtle). drawing g.T.Lattice.shape (record { image = i; modules = 0 }) t) is c.reset.ensures.start

pub returns-clause-can_go : goal.returns-clause-can_go
returns-clause-can_go g c =
    let s = c.args.system.now in
    let levels = g.W.LevelView.levels c.args.view.now in
    let is : c.new.result ≡ last_image s levels = c.new.ensures (λ tag. []) ∙ ap (λ d. coming s (level_by (λ tag. []) (spots_at levels d))) c.depth.ensures.depth in
    can_begin g.T.Lattice.shape s levels c.args.turtle.now.room c.new.result c.reset.new.self c.requires.last c.requires.room is c.reset.ensures.start c.reset.ensures.room
