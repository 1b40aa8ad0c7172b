use Rattle.std.proofs.Common.{arith, ◌≡◌, ◌∷◌, Ok, Some, ap, length, subst, sym}
use Rattle.lsys_hom.specs.Coming.{Coming}
use Rattle.lsys_hom.specs.Looks.{looked_at}
use Rattle.lsys_spec.specs.Pictures.{NoImage}
use Rattle.lsys_out.specs.Drawings.{IsLookedAt, IsStepped, Way, drawing}
use Rattle.lsys_out.specs.Nesting.{CanGo}
use Rattle.lsys_out.proofs.Looking.{can_go_on, can_take, drawing_taken, on_step}
use Rattle.lsys_out.proofs.way.TurtleWay.step.Goals as goal

pub go-requires : goal.go-requires
go-requires g c =
    let old = c.args.self.now in
    let mid = c.look.new.self in
    let next : IsLookedAt old mid (Ok (Some c.in-Ok-Some.seen)) = subst (λ o. IsLookedAt old mid (Ok o)) c.in-Ok-Some.field-0-is c.in-Ok-Some.ensures in
    let is : old.image.symbols ≡ next.0 ∷ mid.image.symbols = ap (λ (i : Coming). i.symbols) next.2 in
    record { ready = can_take next.0 (looked_at c.in-Ok-Some.seen) next.1 mid.image.symbols c.args.turtle.now (subst (λ xs. CanGo xs c.args.turtle.now) is c.requires.can_go) }

pub returns-in-Ok-Some-clause-stepped : goal.returns-in-Ok-Some-clause-stepped
returns-in-Ok-Some-clause-stepped g c =
    let l = g.T.Lattice.shape in
    let old = c.args.self.now in
    let mid = c.look.new.self in
    let next : IsLookedAt old mid (Ok (Some c.in-Ok-Some.seen)) = subst (λ o. IsLookedAt old mid (Ok o)) c.in-Ok-Some.field-0-is c.in-Ok-Some.ensures in
    subst (λ d. IsStepped d (drawing l c.go.new.self c.go.new.turtle.turtle) c.go.result)
    (sym (drawing_taken next.0 (looked_at c.in-Ok-Some.seen) next.1 l old mid c.args.turtle.now.turtle next.2 next.3)) c.go.ensures.gone

pub returns-in-Ok-Some-clause-can_go : goal.returns-in-Ok-Some-clause-can_go
returns-in-Ok-Some-clause-can_go g c =
    let old = c.args.self.now in
    let mid = c.look.new.self in
    let next : IsLookedAt old mid (Ok (Some c.in-Ok-Some.seen)) = subst (λ o. IsLookedAt old mid (Ok o)) c.in-Ok-Some.field-0-is c.in-Ok-Some.ensures in
    let is : old.image.symbols ≡ next.0 ∷ mid.image.symbols = ap (λ (i : Coming). i.symbols) next.2 in
    let on = can_go_on next.0 (looked_at c.in-Ok-Some.seen) next.1 mid.image.symbols c.args.turtle.now c.go.new.turtle (subst (λ xs. CanGo xs c.args.turtle.now) is c.requires.can_go) c.go.ensures.saved c.go.ensures.room in
    on_step c.go.result c.go.ensures.same (λ e. subst (λ (w : Way). CanGo w.image.symbols c.go.new.turtle) (sym e) on)

pub returns-in-Ok-Some-clause-fewer : goal.returns-in-Ok-Some-clause-fewer
returns-in-Ok-Some-clause-fewer g c =
    let old = c.args.self.now in
    let mid = c.look.new.self in
    let next : IsLookedAt old mid (Ok (Some c.in-Ok-Some.seen)) = subst (λ o. IsLookedAt old mid (Ok o)) c.in-Ok-Some.field-0-is c.in-Ok-Some.ensures in
    on_step c.go.result c.go.ensures.same (λ e. omega (arith, ap (λ (i : Coming). length i.symbols) next.2, ap (λ (w : Way). length w.image.symbols) e))

pub returns-in-Err-clause-stepped : goal.returns-in-Err-clause-stepped
returns-in-Err-clause-stepped g c =
    let told = c.in-Err.ensures in
    (NoImage told.0, told.1, ap (λ (i : Coming). drawing g.T.Lattice.shape (record { image = i; modules = c.args.self.now.modules }) c.args.turtle.now.turtle) told.2)
