use Rattle.std.proofs.Common.{◌≡◌, ◌-◌, ◌<◌, ℕ, List, sym, ap, ◌∙◌, subst}
use Rattle.lsys_spec.specs.Rows.{first_in}
use Rattle.lsys_forest.specs.Stocks.{nodes_of, changes_of}
use Rattle.lsys_forest.specs.Rows.{oriented, level_nodes, kids_in}
use Rattle.lsys_forest.proofs.WalkLemmas.{IsAlong, Below, below_start, there, found, walk_on, walk_end, walk_less, level_live, rows_are, left_from}
use Rattle.lsys_forest.proofs.walk.first_child.Goals as goal

pub loop-at-init : goal.loop-at-init
loop-at-init g c = below_start c.args.way c.args.root (changes_of c.args.parts.now) (nodes_of c.args.parts.now) c.requires.sound (c.args.depth - 1) c.args.start c.requires.among

pub kids-requires : goal.kids-requires
kids-requires g c =
    let m = nodes_of c.args.parts.now in
    let d = c.args.depth - 1 in
    let at = there (Below c.args.way m c.args.root d c.args.start) c.args.way m c.args.root d c.in-Some.above c.loop-at.at c.loop-at.invariant c.in-Some.is in
    level_live c.args.root (changes_of c.args.parts.now) m c.requires.sound d c.in-Some.above at.among

pub beside-at-requires-clause-among : goal.beside-at-requires-clause-among
beside-at-requires-clause-among g c =
    let m = nodes_of c.args.parts.now in
    let d = c.args.depth - 1 in
    (there (Below c.args.way m c.args.root d c.args.start) c.args.way m c.args.root d c.in-Some.above c.loop-at.at c.loop-at.invariant c.in-Some.is).among

pub returns-in-Some-first_of : goal.returns-in-Some-first_of
returns-in-Some-first_of g c = λ before after whole is.
    let p = c.args.parts.now in
    let m = nodes_of p in
    let q = c.in-Some.above in
    let d = c.args.depth - 1 in
    let at = there (Below c.args.way m c.args.root d c.args.start) c.args.way m c.args.root d q c.loop-at.at c.loop-at.invariant c.in-Some.is in
    let live = level_live c.args.root (changes_of p) m c.requires.sound d q at.among in
    let kids : c.kids.result.now ≡ kids_in (m q) = c.kids.ensures ∙ rows_are p.slots p.params p.kids q live in
    found (Below c.args.way m c.args.root d c.args.start) c.args.way m c.args.root d q c.in-Some-first_of.kid at (sym c.in-Some-first_of.is ∙ c.first_of.ensures ∙ ap (λ (l : List ℕ). first_in (oriented c.args.way l)) kids)
    ∙ ap first_in (sym (at.rest before after whole is))

pub loop-at-smaller : goal.loop-at-smaller
loop-at-smaller g c =
    let p = c.args.parts.now in
    let m = nodes_of p in
    let d = c.args.depth - 1 in
    let at = there (Below c.args.way m c.args.root d c.args.start) c.args.way m c.args.root d c.in-Some.above c.loop-at.at c.loop-at.invariant c.in-Some.is in
    subst (λ o. left_from (oriented c.args.way (level_nodes m c.args.root d)) c.beside-at.result < left_from (oriented c.args.way (level_nodes m c.args.root d)) o) (sym c.in-Some.is)
    (walk_less (Below c.args.way m c.args.root d c.args.start) c.args.way m c.args.root d (changes_of p) c.requires.sound c.in-Some.above c.beside-at.result at (c.beside-at.ensures at.passed at.ahead at.whole))

pub loop-at-preserved : goal.loop-at-preserved
loop-at-preserved g c =
    let p = c.args.parts.now in
    let m = nodes_of p in
    let q = c.in-Some.above in
    let d = c.args.depth - 1 in
    let at = there (Below c.args.way m c.args.root d c.args.start) c.args.way m c.args.root d q c.loop-at.at c.loop-at.invariant c.in-Some.is in
    let live = level_live c.args.root (changes_of p) m c.requires.sound d q at.among in
    let kids : c.kids.result.now ≡ kids_in (m q) = c.kids.ensures ∙ rows_are p.slots p.params p.kids q live in
    walk_on (Below c.args.way m c.args.root d c.args.start) c.args.way m c.args.root d q c.beside-at.result at (sym (sym c.in_default-first_of.is ∙ c.first_of.ensures ∙ ap (λ (l : List ℕ). first_in (oriented c.args.way l)) kids)) (c.beside-at.ensures at.passed at.ahead at.whole)

pub returns : goal.returns
returns g c = λ before after whole is.
    let m = nodes_of c.args.parts.now in
    let d = c.args.depth - 1 in
    let walk = subst (IsAlong (Below c.args.way m c.args.root d c.args.start) c.args.way m c.args.root d) c.in_default.is c.loop-at.invariant in
    ap first_in (sym (walk_end (Below c.args.way m c.args.root d c.args.start) c.args.way m c.args.root d walk before after whole is))
