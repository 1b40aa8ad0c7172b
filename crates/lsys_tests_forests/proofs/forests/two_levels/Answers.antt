use Rattle.std.proofs.Common.{◌≡◌, ◌+◌, ◌<◌, [], ◌∷◌, ◌++◌, Some, length, take, refl, sym, ap, ◌∙◌, subst, arith, rules}
use Rattle.std.specs.Prelude.{IsSome}
use Rattle.std.proofs.lemmas.Option.{none-some}
use Rattle.lsys_spec.specs.Rows.{AreApart}
use Rattle.lsys_level.specs.Places.{seen_in}
use Rattle.lsys_forest.specs.Nodes.{Node, Nodes, new_node, with_node, with_kids, root_node}
use Rattle.lsys_forest.specs.Groves.{now_of, AreKids}
use Rattle.lsys_forest.specs.Rows.{complete_levels}
use Rattle.lsys_forest.proofs.StockLemmas.{put_other}
use Rattle.lsys_tests_forests.specs.declared.forests.Numbered.{Numbered}
use Rattle.lsys_tests_forests.proofs.Grown.{AreGrown, IsHalf, whole_at, take_next, take_long, take_whole, first_step, grown_long, grown_kids, half_start, half_step, turn_at, half_end, root_lives, lone_kid, both_complete}
use Rattle.lsys_tests_forests.proofs.forests.two_levels.Goals as goal

pub grow-node-requires-clause-whole : goal.grow-node-requires-clause-whole
grow-node-requires-clause-whole g c = whole_at c.args.symbols.now c.loop-place.place c.index-symbols-place.result c.requires.whole c.loop-place-test.true c.index-symbols-place.is

pub loop-place-preserved : goal.loop-place-preserved
loop-place-preserved g c =
    let was = c.loop-place.invariant in
    let root = c.root-root.result in
    let e = c.grow-node.ensures in
    let k = c.grow-node.result in
    let top : Node Numbered = root_node root in
    let added = e.added top was.alone in
    let items : c.push.new.self.items ≡ c.loop-place.parents.items ++ k ∷ [] = search rules in
    let step = first_step (now_of c.loop-place.forest) (now_of c.grow-node.new.forest) root c.loop-place.parents.items c.args.symbols.now c.loop-place.place k c.index-symbols-place.result top _ was.grown was.apart c.loop-place-test.true c.index-symbols-place.is was.alone e.fresh refl refl refl added in
    record {
      root_is = e.root ∙ was.root_is;
      alone = step.2;
      grown = subst (λ l. AreGrown (now_of c.grow-node.new.forest) root l (take (c.loop-place.place + 1) c.args.symbols.now)) (sym items) step.0;
      apart = subst AreApart (sym items) step.1;
      few = omega (arith, e.live, was.few);
    }

pub give-requires-clause-kids : goal.give-requires-clause-kids
give-requires-clause-kids g c =
    let was = c.loop-place.invariant in
    let m = now_of c.loop-place.forest in
    subst (λ r. AreKids m r c.root-root.result c.deref.result.now) (sym was.root_is)
    (subst (AreKids m c.root-root.result c.root-root.result) (sym c.deref.ensures.value) (grown_kids m c.root-root.result c.loop-place.parents.items (take c.loop-place.place c.args.symbols.now) was.grown was.apart))

pub give-requires-clause-short : goal.give-requires-clause-short
give-requires-clause-short g c =
    let was = c.loop-place.invariant in
    let long = grown_long (now_of c.loop-place.forest) c.root-root.result c.loop-place.parents.items (take c.loop-place.place c.args.symbols.now) was.grown in
    let all = ap length (take_whole c.args.symbols.now c.loop-place.place c.loop-place-test.false) in
    let same = ap length c.deref.ensures.value in
    omega (arith, long, all, same, c.requires.few)

pub loop-at-init : goal.loop-at-init
loop-at-init g c =
    let was = c.loop-place.invariant in
    let root = c.root-root.result in
    let m = now_of c.loop-place.forest in
    let m' = now_of c.give.new.forest in
    let xs = c.args.symbols.now in
    let e = c.give.ensures in
    let all = take_whole xs c.loop-place.place c.loop-place-test.false in
    let grown = subst (AreGrown m root c.loop-place.parents.items) all was.grown in
    let top : Node Numbered = root_node root in
    let set : m' ≡ with_node m root (Some (with_kids c.loop-place.parents.items top)) = subst (λ l. m' ≡ with_node m root (Some (with_kids l top))) c.deref.ensures.value (e.set top was.alone) in
    record {
      half = subst (λ r. IsHalf m' r c.loop-place.parents.items xs 1) (sym (e.root ∙ was.root_is)) (half_start m m' root c.loop-place.parents.items xs top grown was.apart set c.requires.some);
      long = grown_long m root c.loop-place.parents.items xs grown;
      some = omega arith;
      few = omega (arith, e.live, was.few, c.loop-place.auto.place-end);
    }

pub index-parent-requires : goal.index-parent-requires
index-parent-requires g c = omega (arith, c.loop-at.invariant.long, c.loop-at-test.true)

pub grow-child-requires-clause-parent : goal.grow-child-requires-clause-parent
grow-child-requires-clause-parent g c =
    let was = c.loop-at.invariant in
    let m = now_of c.loop-at.forest in
    let ks = c.loop-place.parents.items in
    let xs = c.args.symbols.now in
    let at = c.loop-at.at in
    let p = c.index-parent.result.now in
    let within : at < length ks = omega (arith, was.long, c.loop-at-test.true) in
    let t = turn_at m c.loop-at.forest.root ks xs at p was.half within c.index-parent.ensures in
    subst IsSome (sym t.is) refl

pub grow-child-requires-clause-whole : goal.grow-child-requires-clause-whole
grow-child-requires-clause-whole g c = whole_at c.args.symbols.now c.loop-at.at c.index-symbols-at.result c.requires.whole (omega (arith, c.loop-at-test.true)) c.index-symbols-at.is

pub grow-child-requires-clause-few : goal.grow-child-requires-clause-few
grow-child-requires-clause-few g c = omega (arith, c.loop-at.invariant.few, c.requires.few, c.loop-at-test.true)

pub give-requires-in-loop-at-clause-lives : goal.give-requires-in-loop-at-clause-lives
give-requires-in-loop-at-clause-lives g c =
    let was = c.loop-at.invariant in
    let m = now_of c.loop-at.forest in
    let ks = c.loop-place.parents.items in
    let xs = c.args.symbols.now in
    let at = c.loop-at.at in
    let p = c.index-parent.result.now in
    let within : at < length ks = omega (arith, was.long, c.loop-at-test.true) in
    let t = turn_at m c.loop-at.forest.root ks xs at p was.half within c.index-parent.ensures in
    let e = c.grow-child.ensures in
    let m1 = now_of c.grow-child.new.forest in
    let born = new_node p 0 0 (t.node.depth + 1) (seen_in c.index-symbols-at.result) 0 in
    let with_child : Nodes Numbered = with_node m c.grow-child.result (Some born) in
    let added : m1 ≡ with_child = e.added t.node t.is in
    let stays : m1 p ≡ Some t.node = ap (λ (f : Nodes Numbered). f p) {y = with_child} added ∙ put_other m c.grow-child.result p _ (λ same. none-some t.node (sym e.fresh ∙ ap m (sym same) ∙ t.is)) ∙ t.is in
    subst IsSome (sym stays) refl

pub give-requires-in-loop-at-clause-kids : goal.give-requires-in-loop-at-clause-kids
give-requires-in-loop-at-clause-kids g c =
    let was = c.loop-at.invariant in
    let m = now_of c.loop-at.forest in
    let ks = c.loop-place.parents.items in
    let xs = c.args.symbols.now in
    let at = c.loop-at.at in
    let p = c.index-parent.result.now in
    let within : at < length ks = omega (arith, was.long, c.loop-at-test.true) in
    let t = turn_at m c.loop-at.forest.root ks xs at p was.half within c.index-parent.ensures in
    let e = c.grow-child.ensures in
    let m1 = now_of c.grow-child.new.forest in
    subst (λ r. AreKids m1 r p (c.grow-child.result ∷ [])) (sym e.root) (lone_kid m m1 c.loop-at.forest.root p c.grow-child.result _ e.fresh (root_lives m c.loop-at.forest.root ks xs at was.half (omega (arith, within))) refl (e.added t.node t.is))

pub give-requires-in-loop-at-clause-few : goal.give-requires-in-loop-at-clause-few
give-requires-in-loop-at-clause-few g c = omega (arith, c.grow-child.ensures.live, c.loop-at.invariant.few, c.requires.few, c.loop-at-test.true)

pub loop-at-preserved : goal.loop-at-preserved
loop-at-preserved g c =
    let was = c.loop-at.invariant in
    let m = now_of c.loop-at.forest in
    let ks = c.loop-place.parents.items in
    let xs = c.args.symbols.now in
    let at = c.loop-at.at in
    let p = c.index-parent.result.now in
    let within : at < length ks = omega (arith, was.long, c.loop-at-test.true) in
    let t = turn_at m c.loop-at.forest.root ks xs at p was.half within c.index-parent.ensures in
    let e = c.grow-child.ensures in
    let m1 = now_of c.grow-child.new.forest in
    let born = new_node p 0 0 (t.node.depth + 1) (seen_in c.index-symbols-at.result) 0 in
    let with_child : Nodes Numbered = with_node m c.grow-child.result (Some born) in
    let added : m1 ≡ with_child = e.added t.node t.is in
    let stays : m1 p ≡ Some t.node = ap (λ (f : Nodes Numbered). f p) {y = with_child} added ∙ put_other m c.grow-child.result p _ (λ same. none-some t.node (sym e.fresh ∙ ap m (sym same) ∙ t.is)) ∙ t.is in
    let f = c.give-in-loop-at.ensures in
    let m2 = now_of c.give-in-loop-at.new.forest in
    let x = c.index-symbols-at.result in
    let inside : at < length xs = omega (arith, c.loop-at-test.true) in
    record {
      half = subst (λ r. IsHalf m2 r ks xs (at + 1)) (sym (f.root ∙ e.root)) (half_step m m1 m2 c.loop-at.forest.root ks xs at p c.grow-child.result x _ t.node was.half t.rest t.first was.some (take_next xs at x inside c.index-symbols-at.is) (take_long xs at (omega (arith, inside))) e.fresh refl refl t.is added (f.set t.node stays));
      long = was.long;
      some = omega arith;
      few = omega (arith, f.live, e.live, was.few);
    }

pub returns : goal.returns
unfolding complete_levels
returns g c =
    let was = c.loop-at.invariant in
    let m = now_of c.loop-at.forest in
    let ks = c.loop-place.parents.items in
    let xs = c.args.symbols.now in
    let end = half_end m c.loop-at.forest.root ks xs c.loop-at.at was.half was.long (omega (arith, c.loop-at-test.false)) in
    both_complete m c.loop-at.forest.root ks xs (subst (IsHalf m c.loop-at.forest.root ks xs) end was.half) was.long (take_whole xs (length xs) (omega arith)) c.requires.balance c.requires.rest
