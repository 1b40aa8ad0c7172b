use Rattle.std.proofs.Common.{List, ℕ, ℤ, sym, ap, ◌∙◌}
use Rattle.std.specs.Cmp.Rules.{signed_items}
use Rattle.std.proofs.lemmas.Slice.Eq.{bytes_eq-Decides}
use Rattle.lsys_level.specs.Places.{seen_in}
use Rattle.lsys_forest.proofs.SeenLemmas.{seen_module, same_params}
use Rattle.lsys_forest.proofs.seen.is_module.Goals as goal

pub returns-then-eq : goal.returns-then-eq
returns-then-eq c =
    let m = c.in-Module.module in
    let items = signed_items c.args.params.now c.values.result.now in (
      λ h.
          let params = items.0 (sym c.eq-then-eq.ensures ∙ h) ∙ c.values.ensures.values in
          let name = (bytes_eq-Decides c.args.name m.name).0 (sym c.eq.ensures.same ∙ c.if-eq.true) in
          ap (λ (p : List ℤ). seen_module c.args.name p) params ∙ ap (λ (n : List ℕ). seen_module n m.params) name ∙ ap seen_in (sym c.in-Module.is),
      λ e.
          let params = same_params c.args.name m.name c.args.params.now m.params (e ∙ ap seen_in c.in-Module.is) in
          c.eq-then-eq.ensures ∙ items.1 (params ∙ sym c.values.ensures.values),
    )
