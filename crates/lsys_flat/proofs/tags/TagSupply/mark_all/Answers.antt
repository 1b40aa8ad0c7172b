use Rattle.std.proofs.Common.{◌≡◌, ◌+◌, ◌++◌, ◌∷◌, [], take, sym, ap, ◌∙◌, subst}
use Rattle.std.proofs.lemmas.List.{take_more}
use Rattle.lsys_flat.specs.Supplies.{MarksAll}
use Rattle.lsys_flat.proofs.Tallying.{one_more_marked}
use Rattle.lsys_flat.proofs.tags.TagSupply.mark_all.Goals as goal

pub loop-tag-preserved : goal.loop-tag-preserved
loop-tag-preserved c =
    let tags = c.args.tags.now in
    let i = c.loop-tag.tag-index in
    let tag = c.tag-item.result in
    let whole : take (i + 1) tags ≡ take i tags ++ tag ∷ [] = take_more tags i tag c.loop-tag-test.true ∙ ap (λ t. take i tags ++ t ∷ []) (sym c.tag-item.is) in
    subst (λ ks. MarksAll ks c.args.self.now c.mark.new.self) (sym whole) (one_more_marked c.args.self.now c.loop-tag.self c.mark.new.self (take i tags) tag c.loop-tag.invariant c.in_ok-mark.ensures.marked)
