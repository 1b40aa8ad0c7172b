use Rattle.std.proofs.Common.{◌≡◌, ◌+◌, ◌^◌, ◌≤◌, ℕ, List, sum_by, sym, subst, ap, ◌∙◌, arith}
use Rattle.lsys_spec.specs.Rows.{In}
use Rattle.lsys_forest.specs.Groves.{now_of}
use Rattle.lsys_children.specs.declared.count.ChildCount.{ChildCount}
use Rattle.lsys_children.specs.Needs.{had_by_all, wanted_of_all}
use Rattle.lsys_pass.specs.Sizes.{symbols_at}
use Rattle.lsys_pass.specs.Passes.{PassView, now_in}
use Rattle.lsys_pass.specs.Fresh.{WasAsked}
use Rattle.lsys_pass.proofs.NextCounts.{kids_at, gone_lives, gone_few, left_of, few_was, few_parents, walked_symbols, alone_symbols, is_walked, is_alone}
use Rattle.lsys_pass.proofs.pass.Pass.next_symbols.Goals as goal

pub returns-then-parents : goal.returns-then-parents
returns-then-parents g c =
    let v : PassView = c.args.self.now in
    let ps = c.args.parents.now.list.items in
    ap (λ (x : ChildCount). x.wanted) c.requires.count ∙ walked_symbols v c.args.level c.requires.asked ps c.requires.found (is_walked v c.args.level c.args.parents.now.is_whole ps c.if-parents.true c.requires.either)

pub count_kids-gone-requires-clause-lives : goal.count_kids-gone-requires-clause-lives
count_kids-gone-requires-clause-lives g c =
    let a = subst (λ (v : PassView). WasAsked v c.args.level) (sym c.self.view_is) c.requires.asked in
    λ k i. gone_lives _ c.args.level a k (subst (In k) c.gone_nodes.ensures i)

pub count_kids-gone-requires-clause-few : goal.count_kids-gone-requires-clause-few
count_kids-gone-requires-clause-few g c =
    let a = subst (λ (v : PassView). WasAsked v c.args.level) (sym c.self.view_is) c.requires.asked in
    subst (λ (ks : List ℕ). sum_by (kids_at (now_of c.self.inside.forest)) ks ≤ 2 ^ 32) (sym c.gone_nodes.ensures) (gone_few _ c.args.level a)

pub overflow_sub-result : goal.overflow_sub-result
overflow_sub-result g c =
    let v : PassView = c.args.self.now in
    let t = c.args.level in
    let ps = c.args.parents.now.list.items in
    let n = c.args.count.now in
    let had : n.had ≡ had_by_all (now_in v) ps = ap (λ (x : ChildCount). x.had) c.requires.count in
    let wanted : n.wanted ≡ wanted_of_all v.next.numbering (now_in v) ps = ap (λ (x : ChildCount). x.wanted) c.requires.count in
    let was : c.symbols_of.result ≡ symbols_at v.sizes (t + 1) = c.symbols_of.ensures ∙ ap (λ (w : PassView). symbols_at w.sizes (t + 1)) c.self.view_is in
    let gone : c.count_kids-gone.result ≡ sum_by (kids_at (now_in v)) v.front.changes.gone = c.count_kids-gone.ensures ∙ ap (λ (ks : List ℕ). sum_by (kids_at (now_of c.self.inside.forest)) ks) c.gone_nodes.ensures ∙ ap (λ (w : PassView). sum_by (kids_at (now_in w)) w.front.changes.gone) c.self.view_is in
    let left = left_of v t c.requires.asked in
    omega (arith, was, gone, left)

pub overflow_add-result : goal.overflow_add-result
overflow_add-result g c =
    let v : PassView = c.args.self.now in
    let t = c.args.level in
    let ps = c.args.parents.now.list.items in
    let n = c.args.count.now in
    let had : n.had ≡ had_by_all (now_in v) ps = ap (λ (x : ChildCount). x.had) c.requires.count in
    let wanted : n.wanted ≡ wanted_of_all v.next.numbering (now_in v) ps = ap (λ (x : ChildCount). x.wanted) c.requires.count in
    let was : c.symbols_of.result ≡ symbols_at v.sizes (t + 1) = c.symbols_of.ensures ∙ ap (λ (w : PassView). symbols_at w.sizes (t + 1)) c.self.view_is in
    let gone : c.count_kids-gone.result ≡ sum_by (kids_at (now_in v)) v.front.changes.gone = c.count_kids-gone.ensures ∙ ap (λ (ks : List ℕ). sum_by (kids_at (now_of c.self.inside.forest)) ks) c.gone_nodes.ensures ∙ ap (λ (w : PassView). sum_by (kids_at (now_in w)) w.front.changes.gone) c.self.view_is in
    let left = left_of v t c.requires.asked in
    let small = few_was v t c.requires.asked in
    let most = c.requires.few.wanted in
    let many = few_parents v t c.requires.asked ps c.requires.found in
    omega (arith, was, gone, left, small, most, many)

pub overflow_sub-result-2 : goal.overflow_sub-result-2
overflow_sub-result-2 g c =
    let v : PassView = c.args.self.now in
    let t = c.args.level in
    let ps = c.args.parents.now.list.items in
    let n = c.args.count.now in
    let had : n.had ≡ had_by_all (now_in v) ps = ap (λ (x : ChildCount). x.had) c.requires.count in
    let wanted : n.wanted ≡ wanted_of_all v.next.numbering (now_in v) ps = ap (λ (x : ChildCount). x.wanted) c.requires.count in
    let was : c.symbols_of.result ≡ symbols_at v.sizes (t + 1) = c.symbols_of.ensures ∙ ap (λ (w : PassView). symbols_at w.sizes (t + 1)) c.self.view_is in
    let gone : c.count_kids-gone.result ≡ sum_by (kids_at (now_in v)) v.front.changes.gone = c.count_kids-gone.ensures ∙ ap (λ (ks : List ℕ). sum_by (kids_at (now_of c.self.inside.forest)) ks) c.gone_nodes.ensures ∙ ap (λ (w : PassView). sum_by (kids_at (now_in w)) w.front.changes.gone) c.self.view_is in
    let left = left_of v t c.requires.asked in
    let alone = is_alone v t c.args.parents.now.is_whole ps c.if-parents.false c.requires.either in
    let sums = alone_symbols v t c.requires.asked ps c.requires.found alone.0 alone.1 in
    omega (arith, was, gone, left, had, wanted, sums)

pub returns : goal.returns
returns g c =
    let v : PassView = c.args.self.now in
    let t = c.args.level in
    let ps = c.args.parents.now.list.items in
    let n = c.args.count.now in
    let had : n.had ≡ had_by_all (now_in v) ps = ap (λ (x : ChildCount). x.had) c.requires.count in
    let wanted : n.wanted ≡ wanted_of_all v.next.numbering (now_in v) ps = ap (λ (x : ChildCount). x.wanted) c.requires.count in
    let was : c.symbols_of.result ≡ symbols_at v.sizes (t + 1) = c.symbols_of.ensures ∙ ap (λ (w : PassView). symbols_at w.sizes (t + 1)) c.self.view_is in
    let gone : c.count_kids-gone.result ≡ sum_by (kids_at (now_in v)) v.front.changes.gone = c.count_kids-gone.ensures ∙ ap (λ (ks : List ℕ). sum_by (kids_at (now_of c.self.inside.forest)) ks) c.gone_nodes.ensures ∙ ap (λ (w : PassView). sum_by (kids_at (now_in w)) w.front.changes.gone) c.self.view_is in
    let left = left_of v t c.requires.asked in
    let alone = is_alone v t c.args.parents.now.is_whole ps c.if-parents.false c.requires.either in
    let sums = alone_symbols v t c.requires.asked ps c.requires.found alone.0 alone.1 in
    omega (arith, was, gone, left, had, wanted, sums)
