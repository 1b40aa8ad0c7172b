use Rattle.std.proofs.Common.{◌≡◌, List, ◌∷◌, ℕ, ◌+◌, ◌≤◌, Option, None, Some, length, drop, refl, sym, ap, ◌∙◌, subst, arith, slice_get, cond}
use Rattle.std.specs.Prelude.{IfSome}
use Rattle.std.proofs.lemmas.Option.{slice_get_read}
use Rattle.lsys_module.specs.declared.symbol.Symbol.{Symbol}
use Rattle.lsys_module.specs.Views.{string_of, symbol_of}
use Rattle.lsys_rewrite.specs.Cutting.{symbol_stays, next_cutting}
use Rattle.lsys_children.specs.Needs.{staying_count, staying_room, plain_room, count_of_new}
use Rattle.lsys_children.proofs.Cutting.{depth_after, depth_fits}
use Rattle.std.proofs.lemmas.List.{drop_all}
use Rattle.lsys_children.proofs.StepLemmas.{drop_at}
use Rattle.lsys_children.proofs.anew.count_staying.Goals as goal

pub loop-symbol-init : goal.loop-symbol-init
loop-symbol-init c = record { nodes = omega arith; params = omega arith; few = omega arith; small = omega arith; depth = tt }

pub next_cutting-cutting-requires : goal.next_cutting-cutting-requires
next_cutting-cutting-requires c =
    depth_fits c.loop-symbol.cutting c.loop-symbol.symbol-index c.loop-symbol.invariant.depth (let l = c.loop-symbol-test.true in let few = c.requires.short in omega (arith, l, few))

pub loop-symbol-preserved : goal.loop-symbol-preserved
loop-symbol-preserved c =
    let ss = c.args.symbols.now in
    let at = c.loop-symbol.symbol-index in
    let s = c.symbol-item.result in
    let o = c.loop-symbol.cutting in
    let rest = drop (at + 1) ss in
    let here : slice_get ss at ≡ Some s = slice_get_read ss (length ss) at s refl c.loop-symbol-test.true c.symbol-item.is in
    let next : drop at ss ≡ s ∷ rest = drop_at ss at s here in
    let stays = c.stays-is_left.ensures in
    let one : c.one_if-nodes.result ≡ cond (symbol_stays o (symbol_of s)) 1 0 = c.one_if-nodes.ensures.count ∙ ap (λ b. cond {A = ℕ} b 1 0) stays in
    let room : c.room_if-params.result ≡ cond (symbol_stays o (symbol_of s)) (plain_room (symbol_of s)) 0 = c.room_if-params.ensures.room ∙ ap (λ b. cond b (plain_room (symbol_of s)) 0) stays in
    let counted : staying_count o (string_of (drop at ss)) ≡ cond (symbol_stays o (symbol_of s)) 1 0 + staying_count (next_cutting o (symbol_of s)) (string_of rest) = ap (λ (l : List Symbol). staying_count o (string_of l)) next in
    let roomy : staying_room o (string_of (drop at ss)) ≡ cond (symbol_stays o (symbol_of s)) (plain_room (symbol_of s)) 0 + staying_room (next_cutting o (symbol_of s)) (string_of rest) = ap (λ (l : List Symbol). staying_room o (string_of l)) next in
    let after = c.next_cutting-cutting.ensures in
    let count_after = ap (λ (o : Option ℕ). staying_count o (string_of rest)) after in
    let room_after = ap (λ (o : Option ℕ). staying_room o (string_of rest)) after in
    record {
      nodes = omega (arith, one, counted, count_after, c.loop-symbol.invariant.nodes);
      params = omega (arith, room, roomy, room_after, c.loop-symbol.invariant.params);
      few = omega (arith, c.one_if-nodes.ensures.few, c.loop-symbol.invariant.few);
      small = omega (arith, c.room_if-params.ensures.few, c.loop-symbol.invariant.small);
      depth = subst (λ (o : Option ℕ). IfSome o (λ n. n ≤ at + 1)) (sym after) (depth_after o s at c.loop-symbol.invariant.depth);
    }

pub all_new-requires-clause-nodes : goal.all_new-requires-clause-nodes
all_new-requires-clause-nodes c = omega (arith, c.loop-symbol.invariant.few, c.loop-symbol.auto.symbol-index-end, c.requires.short)

pub all_new-requires-clause-params : goal.all_new-requires-clause-params
all_new-requires-clause-params c = omega (arith, c.loop-symbol.invariant.small, c.loop-symbol.auto.symbol-index-end, c.requires.short)

pub returns-clause-count : goal.returns-clause-count
returns-clause-count c =
    let ss = c.args.symbols.now in
    let o = c.loop-symbol.cutting in
    let end = drop_all c.loop-symbol.symbol-index ss c.loop-symbol-test.false in
    let count_end = ap (λ (l : List Symbol). staying_count o (string_of l)) end in
    let room_end = ap (λ (l : List Symbol). staying_room o (string_of l)) end in
    let nodes : c.loop-symbol.nodes ≡ staying_count None (string_of ss) = omega (arith, count_end, c.loop-symbol.invariant.nodes) in
    let params : c.loop-symbol.params ≡ staying_room None (string_of ss) = omega (arith, room_end, c.loop-symbol.invariant.params) in
    c.all_new.ensures.count ∙ ap (λ n. count_of_new n c.loop-symbol.params) nodes ∙ ap (count_of_new (staying_count None (string_of ss))) params
