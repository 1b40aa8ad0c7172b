use Rattle.std.proofs.Common.{◌≡◌, [], ◌∷◌, ◌∙◌, Ok, Some, ap, length, max, subst, sym, arith}
use Rattle.std.proofs.lemmas.Result.{err_from_is_err_and}
use Rattle.std.proofs.Math.Nat.{zero-max}
use Rattle.lsys_level.specs.Spots.{spots_at, level_by}
use Rattle.lsys_hom.specs.Looks.{IsNextLook}
use Rattle.lsys_hom.specs.Coming.{Coming, coming}
use Rattle.lsys_out.specs.Drawings.{last_image}
use Rattle.lsys_out.specs.Nesting.{image_nesting, nesting_from}
use Rattle.lsys_out.proofs.Going.{few_begin, nested_after}
use Rattle.lsys_out.proofs.Looking.{saved_few, short_saved}
use Rattle.lsys_turtle.specs.Ways.{saved_after}
use Rattle.lsys_out.proofs.nesting.image_nesting.Goals as goal

pub loop-seen-init : goal.loop-seen-init
loop-seen-init g c =
    let s = c.args.system.now in
    let levels = g.W.LevelView.levels c.args.view.now in
    let i = c.new-image.result in
    let is : i ≡ last_image s levels = c.new-image.ensures (λ tag. []) ∙ ap (λ d. coming s (level_by (λ tag. []) (spots_at levels d))) c.depth.ensures.depth in
    record {
      most = zero-max (nesting_from 0 i.symbols) ∙ ap (λ (c : Coming). nesting_from 0 c.symbols) is;
      below = omega arith;
      refusal = ap (λ (c : Coming). c.refusal) is;
      few = few_begin s levels i is;
    }

pub open_after-open-requires : goal.open_after-open-requires
open_after-open-requires g c =
    let l = c.loop-seen in
    let new = c.look.new.self in
    let next : IsNextLook l.image new (Ok (Some c.in-Some.seen)) = subst (λ o. IsNextLook l.image new (Ok o)) c.in-Some.is c.in_ok-seen.ensures in
    omega (arith, l.invariant.few, ap (λ (i : Coming). length i.symbols) next.2)

pub loop-seen-preserved : goal.loop-seen-preserved
loop-seen-preserved g c =
    let l = c.loop-seen in
    let new = c.look.new.self in
    let next : IsNextLook l.image new (Ok (Some c.in-Some.seen)) = subst (λ o. IsNextLook l.image new (Ok o)) c.in-Some.is c.in_ok-seen.ensures in
    let x = next.0 in
    let is : l.image.symbols ≡ x ∷ new.symbols = ap (λ (i : Coming). i.symbols) next.2 in
    let n = image_nesting c.args.system.now (g.W.LevelView.levels c.args.view.now) in
    let after : c.open_after-open.result ≡ saved_after x l.open = c.open_after-open.ensures ∙ ap (λ y. saved_after y l.open) next.1 ∙ short_saved x l.open in
    let most : c.max-most.result ≡ max l.most c.open_after-open.result = c.max-most.ensures in
    record {
      most = subst (λ m. max m (nesting_from c.open_after-open.result new.symbols) ≡ n) (sym most)
          (subst (λ k. max (max l.most k) (nesting_from k new.symbols) ≡ n) (sym after) (nested_after x l.most l.open n l.image.symbols new.symbols is l.invariant.most l.invariant.below));
      below = omega (arith, most);
      refusal = sym (ap (λ (i : Coming). i.refusal) next.2) ∙ l.invariant.refusal;
      few = omega (arith, l.invariant.few, ap length is, after, saved_few x l.open);
    }

pub returns-in_err-seen : goal.returns-in_err-seen
returns-in_err-seen g c =
    let p = err_from_is_err_and c.from_residual.result c.from_residual.ensures.1 in
    rw (p.1, p.2) (sym c.loop-seen.invariant.refusal ∙ ap (λ (i : Coming). i.refusal) c.in_err-seen.ensures.0)
