use Rattle.std.proofs.Common.{List, ℕ, sym, ap, ◌∙◌, arith}
use Rattle.std.proofs.lemmas.Bool.Decides.{Decides-eqb}
use Rattle.std.proofs.lemmas.Slice.Eq.{slice_eq-Decides}
use Rattle.lsys_forest.specs.Nodes.{with_kids}
use Rattle.lsys_children.proofs.PlacedLemmas.{sets_same}
use Rattle.lsys_children.proofs.renew.set_list.Goals as goal

pub returns-then-eq-clause-set : goal.returns-then-eq-clause-set
returns-then-eq-clause-set g c = λ n is.
    let kids = c.args.kids.now in
    let same = (slice_eq-Decides Decides-eqb c.children.result.now kids c.eq.result c.eq.ensures).0 c.if-eq.true in
    sets_same c.args.forest.now c.args.node n (with_kids kids n) is (ap (λ (l : List ℕ). with_kids l n) (sym same ∙ c.children.ensures.kids n is))

pub returns-then-eq-clause-had : goal.returns-then-eq-clause-had
returns-then-eq-clause-had g c = λ n is.
    let same = (slice_eq-Decides Decides-eqb c.children.result.now c.args.kids.now c.eq.result c.eq.ensures).0 c.if-eq.true in
    (λ t e. absurd (grind (arith, t)), λ f. sym (c.children.ensures.kids n is) ∙ same)

pub returns-clause-had : goal.returns-clause-had
returns-clause-had g c = λ n is.
    let tells = slice_eq-Decides Decides-eqb c.children.result.now c.args.kids.now c.eq.result c.eq.ensures in
    (λ t e. absurd (grind (arith, c.if-eq.false, tells.1 (c.children.ensures.kids n is ∙ e))), λ f. absurd (grind (arith, f)))

pub returns-clause-kept : goal.returns-clause-kept
returns-clause-kept g c = c.set_children.ensures.kept
