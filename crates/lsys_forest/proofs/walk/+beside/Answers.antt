use Rattle.std.proofs.Common.{◌≡◌, ◌++◌, ◌∷◌, ◌-◌, ◌<◌, ℕ, suc, List, Some, sym, ap, ◌∙◌, subst, arith, rules}
use Rattle.std.specs.Prelude.{option_map}
use Rattle.std.specs.Prelude.{slice_get}
use Rattle.std.proofs.lemmas.Option.{none-some, slice_get_within}
use Rattle.lsys_spec.specs.Rows.{In, AreApart, first_in}
use Rattle.lsys_forest.specs.Stocks.{nodes_of, changes_of, row_at, node_of}
use Rattle.lsys_forest.specs.Rows.{oriented, level_nodes, kids_in}
use Rattle.lsys_forest.proofs.StockLemmas.{stored_of}
use Rattle.lsys_forest.proofs.RowLemmas.{level_depth, kids_apart, parent_level, parent_root}
use Rattle.lsys_forest.proofs.WalkLemmas.{IsAlong, walk_end, After, amid, after_start, there, found, walk_on, walk_less, rows_are, level_parent, level_live, kids_live, left_from, next_on}
use Rattle.lsys_forest.proofs.WalkLemmas.{ranked_at}
use Rattle.lsys_forest.proofs.walk.+beside.Goals as goal

pub unreachable-requires : goal.unreachable-requires
unreachable-requires g t c =
    let p = c.args.parts.now in
    let n = level_depth c.args.root (changes_of p) (nodes_of p) c.requires.sound (c.args.depth - 1) c.args.node c.requires.among in
    let s = stored_of p.slots p.params p.kids c.args.node n.0 n.1 in
    none-some s.0 (c.in_default.ensures ∙ s.1)

pub kids-requires : goal.kids-requires
kids-requires g t c =
    let p = c.args.parts.now in
    let n = node_of (row_at p.params c.args.node) (row_at p.kids c.args.node) c.in-Some.found.now in
    let is : nodes_of p c.args.node ≡ Some n = ap (option_map (node_of (row_at p.params c.args.node) (row_at p.kids c.args.node))) (sym c.in-Some.ensures) in
    kids_live c.args.root (changes_of p) (nodes_of p) c.requires.sound n.parent c.args.node (level_parent c.args.root (changes_of p) (nodes_of p) c.requires.sound (c.args.depth - 1) c.args.node n c.requires.among is)

pub next_to-requires-clause-within : goal.next_to-requires-clause-within
next_to-requires-clause-within g t c =
    let p = c.args.parts.now in
    let n = node_of (row_at p.params c.args.node) (row_at p.kids c.args.node) c.in-Some.found.now in
    let is : nodes_of p c.args.node ≡ Some n = ap (option_map (node_of (row_at p.params c.args.node) (row_at p.kids c.args.node))) (sym c.in-Some.ensures) in
    let among = level_parent c.args.root (changes_of p) (nodes_of p) c.requires.sound (c.args.depth - 1) c.args.node n c.requires.among is in
    let live = kids_live c.args.root (changes_of p) (nodes_of p) c.requires.sound n.parent c.args.node among in
    let here = ranked_at c.args.node n.parent (nodes_of p) c.args.parts.now.footings c.rank.result c.requires.ranked among c.rank.ensures in
    slice_get_within c.kids.result.now c.rank.result c.args.node (ap (λ l. slice_get l c.rank.result) (c.kids.ensures ∙ rows_are p.slots p.params p.kids n.parent live) ∙ here)

pub next_to-requires-clause-apart : goal.next_to-requires-clause-apart
next_to-requires-clause-apart g t c =
    let p = c.args.parts.now in
    let n = node_of (row_at p.params c.args.node) (row_at p.kids c.args.node) c.in-Some.found.now in
    let is : nodes_of p c.args.node ≡ Some n = ap (option_map (node_of (row_at p.params c.args.node) (row_at p.kids c.args.node))) (sym c.in-Some.ensures) in
    let among = level_parent c.args.root (changes_of p) (nodes_of p) c.requires.sound (c.args.depth - 1) c.args.node n c.requires.among is in
    let live = kids_live c.args.root (changes_of p) (nodes_of p) c.requires.sound n.parent c.args.node among in
    subst AreApart (sym (c.kids.ensures ∙ rows_are p.slots p.params p.kids n.parent live)) (kids_apart c.args.root (changes_of p) (nodes_of p) c.requires.sound n.parent)

pub returns-in-Some-next_to : goal.returns-in-Some-next_to
returns-in-Some-next_to g t c = λ before after whole.
    let p = c.args.parts.now in
    let m = nodes_of p in
    let cs = changes_of p in
    let n = node_of (row_at p.params c.args.node) (row_at p.kids c.args.node) c.in-Some.found.now in
    let is : m c.args.node ≡ Some n = ap (option_map (node_of (row_at p.params c.args.node) (row_at p.kids c.args.node))) (sym c.in-Some.ensures) in
    let among = level_parent c.args.root cs m c.requires.sound (c.args.depth - 1) c.args.node n c.requires.among is in
    let live = kids_live c.args.root cs m c.requires.sound n.parent c.args.node among in
    let kids : c.kids.result.now ≡ kids_in (m n.parent) = c.kids.ensures ∙ rows_are p.slots p.params p.kids n.parent live in
    let here = ranked_at c.args.node n.parent m c.args.parts.now.footings c.rank.result c.requires.ranked among c.rank.ensures in
    let next : (before after : List ℕ) → oriented c.args.way (kids_in (m n.parent)) ≡ before ++ c.args.node ∷ after → c.next_to.result ≡ first_in after =
    subst (λ (l : List ℕ). (before after : List ℕ) → oriented c.args.way l ≡ before ++ c.args.node ∷ after → c.next_to.result ≡ first_in after) kids (λ b a. c.next_to.ensures c.args.node b a (ap (λ l. slice_get l c.rank.result) kids ∙ here)) in
    next_on c.args.way c.args.root cs m c.requires.sound (c.args.depth - 1) c.args.node n c.in-Some-next_to.next c.requires.among is (λ b a w. sym c.in-Some-next_to.is ∙ next b a w) before after whole

pub returns-then-depth-eq1 : goal.returns-then-depth-eq1
returns-then-depth-eq1 g t c = λ before after whole.
    let p = c.args.parts.now in
    let m = nodes_of p in
    let cs = changes_of p in
    let n = node_of (row_at p.params c.args.node) (row_at p.kids c.args.node) c.in-Some.found.now in
    let is : m c.args.node ≡ Some n = ap (option_map (node_of (row_at p.params c.args.node) (row_at p.kids c.args.node))) (sym c.in-Some.ensures) in
    let among = level_parent c.args.root cs m c.requires.sound (c.args.depth - 1) c.args.node n c.requires.among is in
    let live = kids_live c.args.root cs m c.requires.sound n.parent c.args.node among in
    let kids : c.kids.result.now ≡ kids_in (m n.parent) = c.kids.ensures ∙ rows_are p.slots p.params p.kids n.parent live in
    let here = ranked_at c.args.node n.parent m c.args.parts.now.footings c.rank.result c.requires.ranked among c.rank.ensures in
    let next : (before after : List ℕ) → oriented c.args.way (kids_in (m n.parent)) ≡ before ++ c.args.node ∷ after → c.next_to.result ≡ first_in after =
    subst (λ (l : List ℕ). (before after : List ℕ) → oriented c.args.way l ≡ before ++ c.args.node ∷ after → c.next_to.result ≡ first_in after) kids (λ b a. c.next_to.ensures c.args.node b a (ap (λ l. slice_get l c.rank.result) kids ∙ here)) in
    let top : c.args.depth - 1 ≡ 0 = omega (arith, c.if-depth-eq1.true) in
    let root_is = parent_root c.args.root cs m c.requires.sound c.args.node n (subst (λ d. In c.args.node (level_nodes m c.args.root d)) top c.requires.among) is in
    sym c.in_default-next_to.is ∙ next before after (ap (λ j. oriented c.args.way (kids_in (m j))) root_is ∙ sym (ap (λ d. oriented c.args.way (level_nodes m c.args.root d)) top) ∙ whole)

pub beside-at-requires : goal.beside-at-requires
beside-at-requires g t c =
    let p = c.args.parts.now in
    let m = nodes_of p in
    let cs = changes_of p in
    let n = node_of (row_at p.params c.args.node) (row_at p.kids c.args.node) c.in-Some.found.now in
    let is : m c.args.node ≡ Some n = ap (option_map (node_of (row_at p.params c.args.node) (row_at p.kids c.args.node))) (sym c.in-Some.ensures) in
    let among = level_parent c.args.root cs m c.requires.sound (c.args.depth - 1) c.args.node n c.requires.among is in
    let live = kids_live c.args.root cs m c.requires.sound n.parent c.args.node among in
    let kids : c.kids.result.now ≡ kids_in (m n.parent) = c.kids.ensures ∙ rows_are p.slots p.params p.kids n.parent live in
    let here = ranked_at c.args.node n.parent m c.args.parts.now.footings c.rank.result c.requires.ranked among c.rank.ensures in
    let next : (before after : List ℕ) → oriented c.args.way (kids_in (m n.parent)) ≡ before ++ c.args.node ∷ after → c.next_to.result ≡ first_in after =
    subst (λ (l : List ℕ). (before after : List ℕ) → oriented c.args.way l ≡ before ++ c.args.node ∷ after → c.next_to.result ≡ first_in after) kids (λ b a. c.next_to.ensures c.args.node b a (ap (λ l. slice_get l c.rank.result) kids ∙ here)) in
    let deep : c.args.depth - 1 ≡ suc (c.args.depth - 1 - 1) = omega (arith, c.if-depth-eq1.false, c.requires.below) in
    let within = subst (λ d. In c.args.node (level_nodes m c.args.root d)) deep c.requires.among in
    let am = amid c.args.way c.args.root cs m c.requires.sound (c.args.depth - 1 - 1) c.args.node n within is in
    let up = (parent_level c.args.root cs m c.requires.sound (c.args.depth - 1 - 1) c.args.node n within is).0 in
    let less : 0 < c.args.depth - 1 = omega (arith, deep) in
    search rules

pub loop-at-init : goal.loop-at-init
loop-at-init g t c =
    let p = c.args.parts.now in
    let m = nodes_of p in
    let cs = changes_of p in
    let n = node_of (row_at p.params c.args.node) (row_at p.kids c.args.node) c.in-Some.found.now in
    let is : m c.args.node ≡ Some n = ap (option_map (node_of (row_at p.params c.args.node) (row_at p.kids c.args.node))) (sym c.in-Some.ensures) in
    let among = level_parent c.args.root cs m c.requires.sound (c.args.depth - 1) c.args.node n c.requires.among is in
    let live = kids_live c.args.root cs m c.requires.sound n.parent c.args.node among in
    let kids : c.kids.result.now ≡ kids_in (m n.parent) = c.kids.ensures ∙ rows_are p.slots p.params p.kids n.parent live in
    let here = ranked_at c.args.node n.parent m c.args.parts.now.footings c.rank.result c.requires.ranked among c.rank.ensures in
    let next : (before after : List ℕ) → oriented c.args.way (kids_in (m n.parent)) ≡ before ++ c.args.node ∷ after → c.next_to.result ≡ first_in after =
    subst (λ (l : List ℕ). (before after : List ℕ) → oriented c.args.way l ≡ before ++ c.args.node ∷ after → c.next_to.result ≡ first_in after) kids (λ b a. c.next_to.ensures c.args.node b a (ap (λ l. slice_get l c.rank.result) kids ∙ here)) in
    let deep : c.args.depth - 1 ≡ suc (c.args.depth - 1 - 1) = omega (arith, c.if-depth-eq1.false, c.requires.below) in
    let within = subst (λ d. In c.args.node (level_nodes m c.args.root d)) deep c.requires.among in
    let am = amid c.args.way c.args.root cs m c.requires.sound (c.args.depth - 1 - 1) c.args.node n within is in
    after_start c.args.way m c.args.root (c.args.depth - 1 - 1) n.parent c.args.node c.beside-at.result am (sym (sym c.in_default-next_to.is ∙ next am.left am.right am.kids)) (c.beside-at.ensures am.before am.after am.level)

pub kids-requires-in-Some-at : goal.kids-requires-in-Some-at
kids-requires-in-Some-at g t c =
    let m = nodes_of c.args.parts.now in
    let at = there (After c.args.way m c.args.root (c.args.depth - 1 - 1) c.args.node) c.args.way m c.args.root (c.args.depth - 1 - 1) c.in-Some-at.above c.loop-at.at c.loop-at.invariant c.in-Some-at.is in
    level_live c.args.root (changes_of c.args.parts.now) m c.requires.sound (c.args.depth - 1 - 1) c.in-Some-at.above at.among

pub returns-in-Some-first_of : goal.returns-in-Some-first_of
returns-in-Some-first_of g t c = λ before after whole.
    let p = c.args.parts.now in
    let m = nodes_of p in
    let q = c.in-Some-at.above in
    let deep : c.args.depth - 1 ≡ suc (c.args.depth - 1 - 1) = omega (arith, c.if-depth-eq1.false, c.requires.below) in
    let at = there (After c.args.way m c.args.root (c.args.depth - 1 - 1) c.args.node) c.args.way m c.args.root (c.args.depth - 1 - 1) q c.loop-at.at c.loop-at.invariant c.in-Some-at.is in
    let live = level_live c.args.root (changes_of p) m c.requires.sound (c.args.depth - 1 - 1) q at.among in
    let kids : c.kids-in-Some-at.result.now ≡ kids_in (m q) = c.kids-in-Some-at.ensures ∙ rows_are p.slots p.params p.kids q live in
    let kid = found (After c.args.way m c.args.root (c.args.depth - 1 - 1) c.args.node) c.args.way m c.args.root (c.args.depth - 1 - 1) q c.in-Some-first_of.kid at (sym c.in-Some-first_of.is ∙ c.first_of.ensures ∙ ap (λ (l : List ℕ). first_in (oriented c.args.way l)) kids) in
    kid ∙ ap first_in (sym (at.rest before after (sym (ap (λ d. oriented c.args.way (level_nodes m c.args.root d)) deep) ∙ whole)))

pub beside-at-requires-in-Some-at : goal.beside-at-requires-in-Some-at
beside-at-requires-in-Some-at g t c =
    let m = nodes_of c.args.parts.now in
    let at = there (After c.args.way m c.args.root (c.args.depth - 1 - 1) c.args.node) c.args.way m c.args.root (c.args.depth - 1 - 1) c.in-Some-at.above c.loop-at.at c.loop-at.invariant c.in-Some-at.is in
    let up = at.among in
    let less : 0 < c.args.depth - 1 = omega (arith, c.if-depth-eq1.false, c.requires.below) in
    search rules

pub loop-at-smaller : goal.loop-at-smaller
loop-at-smaller g t c =
    let p = c.args.parts.now in
    let m = nodes_of p in
    let at = there (After c.args.way m c.args.root (c.args.depth - 1 - 1) c.args.node) c.args.way m c.args.root (c.args.depth - 1 - 1) c.in-Some-at.above c.loop-at.at c.loop-at.invariant c.in-Some-at.is in
    subst (λ o. left_from (oriented c.args.way (level_nodes m c.args.root (c.args.depth - 1 - 1))) c.beside-at-in-Some-at.result < left_from (oriented c.args.way (level_nodes m c.args.root (c.args.depth - 1 - 1))) o) (sym c.in-Some-at.is)
    (walk_less (After c.args.way m c.args.root (c.args.depth - 1 - 1) c.args.node) c.args.way m c.args.root (c.args.depth - 1 - 1) (changes_of p) c.requires.sound c.in-Some-at.above c.beside-at-in-Some-at.result at (c.beside-at-in-Some-at.ensures at.passed at.ahead at.whole))

pub loop-at-preserved : goal.loop-at-preserved
loop-at-preserved g t c =
    let p = c.args.parts.now in
    let m = nodes_of p in
    let q = c.in-Some-at.above in
    let at = there (After c.args.way m c.args.root (c.args.depth - 1 - 1) c.args.node) c.args.way m c.args.root (c.args.depth - 1 - 1) q c.loop-at.at c.loop-at.invariant c.in-Some-at.is in
    let live = level_live c.args.root (changes_of p) m c.requires.sound (c.args.depth - 1 - 1) q at.among in
    let kids : c.kids-in-Some-at.result.now ≡ kids_in (m q) = c.kids-in-Some-at.ensures ∙ rows_are p.slots p.params p.kids q live in
    walk_on (After c.args.way m c.args.root (c.args.depth - 1 - 1) c.args.node) c.args.way m c.args.root (c.args.depth - 1 - 1) q c.beside-at-in-Some-at.result at (sym (sym c.in_default-first_of.is ∙ c.first_of.ensures ∙ ap (λ (l : List ℕ). first_in (oriented c.args.way l)) kids)) (c.beside-at-in-Some-at.ensures at.passed at.ahead at.whole)

pub returns : goal.returns
returns g t c = λ before after whole.
    let m = nodes_of c.args.parts.now in
    let d = c.args.depth - 1 - 1 in
    let deep : c.args.depth - 1 ≡ suc d = omega (arith, c.if-depth-eq1.false, c.requires.below) in
    let walk = subst (IsAlong (After c.args.way m c.args.root d c.args.node) c.args.way m c.args.root d) c.in_default-at.is c.loop-at.invariant in
    ap first_in (sym (walk_end (After c.args.way m c.args.root d c.args.node) c.args.way m c.args.root d walk before after (sym (ap (λ u. oriented c.args.way (level_nodes m c.args.root u)) deep) ∙ whole)))
