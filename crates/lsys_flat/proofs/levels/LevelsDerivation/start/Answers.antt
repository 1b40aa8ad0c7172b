use Rattle.std.proofs.Common.{◌≡◌, [], ◌∷◌, ◌++◌, map, sym, ap, ◌∙◌, subst}
use Rattle.lsys_spec.specs.Systems.{opening}
use Rattle.lsys_level.specs.Places.{spots_of}
use Rattle.lsys_flat.specs.Lines.{line_of}
use Rattle.lsys_flat.specs.Answers.{lists_of}
use Rattle.lsys_flat.specs.Derived.{IsDerivation}
use Rattle.lsys_flat.proofs.Keeping.{opens}
use Rattle.lsys_flat.proofs.levels.LevelsDerivation.start.Goals as goal

pub invariant_of-result : goal.invariant_of-result
invariant_of-result g c =
    let seen : c.push_level.new.self ≡ [] ∷ [] =
    c.in_ok-push_level.ensures.added ∙ ap (λ v. v ++ spots_of c.new.result c.new-2.result.items c.new-3.result.items ∷ []) c.new-view.ensures
    ∙ ap (λ s. spots_of s c.new-2.result.items c.new-3.result.items ∷ []) c.new.ensures in
    let lines : map line_of c.push.new.self.items ≡ record { origins = []; tags = [] } ∷ [] =
    ap (map line_of) (c.in_ok-push.ensures.items ∙ ap (λ xs. xs ++ record { origins = c.new-4.result; tags = c.new-5.result } ∷ []) c.new-ancestries.ensures.items)
    ∙ (λ i. record { origins = c.new-4.ensures.items i; tags = c.new-5.ensures.items i } ∷ []) in
    let none : lists_of c.new-6.result.items ≡ [] = ap lists_of c.new-6.ensures.items in
    subst (λ s. IsDerivation s c.args.limit c.push_level.new.self (map line_of c.push.new.self.items) (lists_of c.new-6.result.items) c.new-7.result) (sym c.in_ok-opening.ensures)
    (subst (λ v. IsDerivation opening c.args.limit v (map line_of c.push.new.self.items) (lists_of c.new-6.result.items) c.new-7.result) (sym seen)
    (subst (λ ls. IsDerivation opening c.args.limit ([] ∷ []) ls (lists_of c.new-6.result.items) c.new-7.result) (sym lines)
    (subst (λ k. IsDerivation opening c.args.limit ([] ∷ []) (record { origins = []; tags = [] } ∷ []) k c.new-7.result) (sym none) (opens c.args.limit c.new-7.result c.requires))))
