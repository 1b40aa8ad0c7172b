use Rattle.std.proofs.Common.{◌≡◌, List, ℕ, ◌+◌, Option, Some, length, drop, refl, sym, ap, ◌∙◌, subst, arith, slice_get}
use Rattle.std.specs.Prelude.{is_some, IfSome, ◌≤◌}
use Rattle.std.proofs.lemmas.Option.{slice_get_read}
use Rattle.lsys_module.specs.declared.symbol.Symbol.{Symbol}
use Rattle.lsys_children.proofs.Wishing.{cutting_past, open_past}
use Rattle.lsys_children.proofs.Cutting.{depth_after, depth_fits}
use Rattle.std.proofs.lemmas.List.{drop_all}
use Rattle.lsys_children.proofs.StepLemmas.{drop_at}
use Rattle.lsys_children.proofs.opens.reaches_end.Goals as goal

pub loop-symbol-init : goal.loop-symbol-init
loop-symbol-init c = record { past = refl; depth = tt }

pub next_cutting-cutting-requires : goal.next_cutting-cutting-requires
next_cutting-cutting-requires c =
    depth_fits c.loop-symbol.cutting c.loop-symbol.symbol-index c.loop-symbol.invariant.depth (let l = c.loop-symbol-test.true in let few = c.requires.short in omega (arith, l, few))

pub loop-symbol-preserved : goal.loop-symbol-preserved
loop-symbol-preserved c =
    let ss = c.args.symbols.now in
    let at = c.loop-symbol.symbol-index in
    let s = c.symbol-item.result in
    let here : slice_get ss at ≡ Some s = slice_get_read ss (length ss) at s refl c.loop-symbol-test.true c.symbol-item.is in
    record {
      past = ap (λ (o : Option ℕ). cutting_past o (drop (at + 1) ss)) c.next_cutting-cutting.ensures ∙ ap (cutting_past c.loop-symbol.cutting) (sym (drop_at ss at s here)) ∙ c.loop-symbol.invariant.past;
      depth = subst (λ (o : Option ℕ). IfSome o (λ n. n ≤ at + 1)) (sym c.next_cutting-cutting.ensures) (depth_after c.loop-symbol.cutting s at c.loop-symbol.invariant.depth);
    }

pub returns : goal.returns
returns c =
    let ss = c.args.symbols.now in
    let at = c.loop-symbol.symbol-index in
    c.is_some.ensures ∙ ap (λ (rest : List Symbol). is_some (cutting_past c.loop-symbol.cutting rest)) (sym (drop_all at ss c.loop-symbol-test.false)) ∙ ap (λ (o : Option ℕ). is_some o) c.loop-symbol.invariant.past ∙ open_past ss
