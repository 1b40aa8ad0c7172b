use Rattle.std.specs.Prelude.{◌↔◌, IsTrue}
use Rattle.std.proofs.Common.{◌≡◌, ◌≢◌, ◌-◌, ◌<◌, suc, sym, ◌∙◌, subst, arith, rules}
use Rattle.lsys_spec.specs.Rows.{In}
use Rattle.lsys_forest.specs.Stocks.{nodes_of, changes_of}
use Rattle.lsys_forest.specs.Ranks.{parent_in}
use Rattle.lsys_forest.specs.Rows.{index_in, level_nodes}
use Rattle.lsys_forest.proofs.PlaceLemmas.{above, parents_deep, by_ranks, by_parents}
use Rattle.lsys_forest.proofs.walk.+is_before.Goals as goal

pub returns-then-eq : goal.returns-then-eq
returns-then-eq g t c =
    let p = c.args.parts.now in
    let m = nodes_of p in
    let same : parent_in (m c.args.one) ≡ parent_in (m c.args.two) = sym c.parent_of-parent.ensures ∙ grind (arith, c.eq.ensures, c.if-eq.true) ∙ c.parent_of-other.ensures in
    let by = by_ranks c.args.root (changes_of p) m c.requires.sound (c.args.depth - 1) c.args.one c.args.two c.rank.result c.rank-then-eq.result c.args.parts.now.footings c.requires.ranked c.requires.one c.requires.two same c.rank.ensures c.rank-then-eq.ensures in
    search rules

pub is_before-requires : goal.is_before-requires
is_before-requires g t c =
    let p = c.args.parts.now in
    let m = nodes_of p in
    let differ : parent_in (m c.args.one) ≢ parent_in (m c.args.two) = λ e. (let f = c.parent_of-parent.ensures ∙ e ∙ sym c.parent_of-other.ensures in grind (arith, f, c.eq.ensures, c.if-eq.false)) in
    let less = parents_deep c.args.root (changes_of p) m c.requires.sound (c.args.depth - 1) c.args.one c.args.two c.requires.one c.requires.two differ in
    let deep : c.args.depth - 1 ≡ suc (c.args.depth - 1 - 1) = omega (arith, less) in
    let one = subst (λ j. In j (level_nodes m c.args.root (c.args.depth - 1 - 1))) (sym c.parent_of-parent.ensures) (above c.args.root (changes_of p) m c.requires.sound (c.args.depth - 1 - 1) c.args.one (subst (λ d. In c.args.one (level_nodes m c.args.root d)) deep c.requires.one)) in
    let two = subst (λ j. In j (level_nodes m c.args.root (c.args.depth - 1 - 1))) (sym c.parent_of-other.ensures) (above c.args.root (changes_of p) m c.requires.sound (c.args.depth - 1 - 1) c.args.two (subst (λ d. In c.args.two (level_nodes m c.args.root d)) deep c.requires.two)) in
    search rules

pub returns : goal.returns
returns g t c =
    let p = c.args.parts.now in
    let m = nodes_of p in
    let differ : parent_in (m c.args.one) ≢ parent_in (m c.args.two) = λ e. (let f = c.parent_of-parent.ensures ∙ e ∙ sym c.parent_of-other.ensures in grind (arith, f, c.eq.ensures, c.if-eq.false)) in
    let less = parents_deep c.args.root (changes_of p) m c.requires.sound (c.args.depth - 1) c.args.one c.args.two c.requires.one c.requires.two differ in
    let d = c.args.depth - 1 - 1 in
    let deep : c.args.depth - 1 ≡ suc d = omega (arith, less) in
    let by = by_parents c.args.root (changes_of p) m c.requires.sound d c.args.one c.args.two (subst (λ e. In c.args.one (level_nodes m c.args.root e)) deep c.requires.one) (subst (λ e. In c.args.two (level_nodes m c.args.root e)) deep c.requires.two) differ in
    let has : IsTrue c.is_before.result ↔ (index_in (parent_in (m c.args.one)) (level_nodes m c.args.root d) < index_in (parent_in (m c.args.two)) (level_nodes m c.args.root d)) =
    subst (λ j. IsTrue c.is_before.result ↔ (index_in j (level_nodes m c.args.root d) < index_in (parent_in (m c.args.two)) (level_nodes m c.args.root d))) c.parent_of-parent.ensures
    (subst (λ j. IsTrue c.is_before.result ↔ (index_in c.parent_of-parent.result (level_nodes m c.args.root d) < index_in j (level_nodes m c.args.root d))) c.parent_of-other.ensures c.is_before.ensures) in
    subst (λ e. IsTrue c.is_before.result ↔ (index_in c.args.one (level_nodes m c.args.root e) < index_in c.args.two (level_nodes m c.args.root e))) (sym deep)
    (λ h. by.0 (has.0 h), λ h. has.1 (by.1 h))
