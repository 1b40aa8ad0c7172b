use Rattle.std.proofs.Common.{◌≤◌, length, map, sym, ap, ◌∙◌, subst}
use Rattle.std.specs.Prelude.{sum_by}
use Rattle.lsys_flat.specs.Lines.{line_of}
use Rattle.lsys_flat.specs.Revised.{tags_of}
use Rattle.lsys_flat.proofs.Keeping.{all_tags, few_tags}
use Rattle.lsys_flat.proofs.levels.LevelsDerivation.total.Goals as goal

pub total_of-requires : goal.total_of-requires
total_of-requires g c = subst (λ xs. sum_by length (tags_of (map line_of xs)) ≤ 1000000) (sym c.as_slice.ensures.value) (few_tags _ _ _ _ _ _ c.self.invariant)

pub returns : goal.returns
returns g c =
    c.total_of.ensures ∙ ap (λ xs. sum_by length (tags_of (map line_of xs))) c.as_slice.ensures.value ∙ all_tags _ _ _ _ _ _ c.self.invariant ∙ ap (λ d. sum_by length d.levels) c.self.view_is
