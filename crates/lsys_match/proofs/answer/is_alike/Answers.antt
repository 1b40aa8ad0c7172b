use Rattle.std.proofs.Common.{rules, ◌≡◌, ◌↔◌, IsTrue, ap}
use Rattle.std.proofs.lemmas.Bool.Decides.{Decides-int_eq}
use Rattle.std.proofs.lemmas.Slice.Eq.{slice_eq-Decides}
use Rattle.lsys_spec.specs.Levels.{ModuleValue}
use Rattle.lsys_walks.specs.Views.{module_named}
use Rattle.lsys_match.proofs.answer.is_alike.Goals as goal

pub returns-then-eq : goal.returns-then-eq
returns-then-eq c =
    let name : c.args.name ≡ c.args.other = search rules in
    let params : IsTrue c.eq-then-eq.result ↔ (c.args.params.now ≡ c.args.others.now) = slice_eq-Decides Decides-int_eq c.args.params.now c.args.others.now c.eq-then-eq.result c.eq-then-eq.ensures in (
      λ t. let same = params.0 t in λ i. module_named (name i) (same i),
      λ e. params.1 (ap (λ (m : ModuleValue). m.params) e),
    )
