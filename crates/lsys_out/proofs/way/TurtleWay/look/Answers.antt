use Rattle.std.proofs.Common.{arith, Ok, Some, ap, length, refl, subst, sym, ◌∙◌}
use Rattle.lsys_hom.specs.Coming.{Coming}
use Rattle.lsys_hom.specs.Looks.{IsNextLook}
use Rattle.lsys_hom.specs.Refusals.{refusal_of}
use Rattle.lsys_spec.specs.Pictures.{modules_to}
use Rattle.lsys_out.specs.Drawings.{Way}
use Rattle.lsys_out.proofs.Looking.{counted, short_modules}
use Rattle.lsys_out.proofs.way.TurtleWay.look.Goals as goal

pub returns-in-Ok-Some : goal.returns-in-Ok-Some
returns-in-Ok-Some g c =
    let i = c.self.inside in
    let new = c.look.new.self in
    let next : IsNextLook i.image new (Ok (Some c.in-Ok-Some.seen)) = subst (λ o. IsNextLook i.image new (Ok o)) c.in-Ok-Some.field-0-is c.in-Ok-Some.ensures in (
      next.0,
      next.1,
      ap (λ (w : Way). w.image) (sym c.self.view_is) ∙ next.2,
      c.modules_to-self-inside.ensures ∙ ap (modules_to i.modules) next.1 ∙ short_modules i.modules next.0 ∙ ap (λ (w : Way). modules_to w.modules next.0) c.self.view_is,
    )

pub modules_to-self-inside-requires : goal.modules_to-self-inside-requires
modules_to-self-inside-requires g c =
    let i = c.self.inside in
    let new = c.look.new.self in
    let next : IsNextLook i.image new (Ok (Some c.in-Ok-Some.seen)) = subst (λ o. IsNextLook i.image new (Ok o)) c.in-Ok-Some.field-0-is c.in-Ok-Some.ensures in
    omega (arith, c.self.invariant, ap (λ (i : Coming). length i.symbols) next.2)

pub invariant_of-self : goal.invariant_of-self
invariant_of-self g c =
    let i = c.self.inside in
    let new = c.look.new.self in
    let next : IsNextLook i.image new (Ok (Some c.in-Ok-Some.seen)) = subst (λ o. IsNextLook i.image new (Ok o)) c.in-Ok-Some.field-0-is c.in-Ok-Some.ensures in
    omega (arith, c.self.invariant, ap (λ (i : Coming). length i.symbols) next.2, c.modules_to-self-inside.ensures ∙ ap (modules_to i.modules) next.1 ∙ short_modules i.modules next.0, counted i.modules next.0)

pub returns-in-Err : goal.returns-in-Err
returns-in-Err g c = (refusal_of c.in-Err.refusal, refl, ap (λ (w : Way). w.image) (sym c.self.view_is) ∙ c.in-Err.ensures.0)
