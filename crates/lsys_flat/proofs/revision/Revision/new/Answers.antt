use Rattle.std.proofs.Common.{◌≡◌, ◌+◌, ◌++◌, ◌∷◌, [], Some, take, map, sym, ap, ◌∙◌, subst, take_all}
use Rattle.std.proofs.lemmas.List.{take_more, map-append}
use Rattle.lsys_flat.specs.Supplies.{MarksAll}
use Rattle.lsys_flat.proofs.Tallying.{then_all}
use Rattle.lsys_flat.specs.Lines.{line_of}
use Rattle.lsys_flat.specs.Revised.{IsRevised}
use Rattle.lsys_flat.specs.declared.ancestry.Ancestry.{Ancestry}
use Rattle.lsys_flat.proofs.Marking.{all_tags, all_tags_push, started}
use Rattle.lsys_flat.proofs.revision.Revision.new.Goals as goal

pub loop-ancestry-preserved : goal.loop-ancestry-preserved
loop-ancestry-preserved c =
    let olds = c.args.olds.now in
    let i = c.loop-ancestry.ancestry-index in
    let a : Ancestry = c.ancestry-item.result in
    let whole : take (i + 1) olds ≡ take i olds ++ a ∷ [] = take_more olds i a c.loop-ancestry-test.true ∙ ap (λ t. take i olds ++ t ∷ []) (sym c.ancestry-item.is) in
    let tags : all_tags (map line_of (take (i + 1) olds)) ≡ all_tags (map line_of (take i olds)) ++ a.tags.items =
    ap (λ ls. all_tags (map line_of ls)) whole ∙ ap all_tags (map-append line_of (take i olds) (a ∷ [])) ∙ all_tags_push (map line_of (take i olds)) (line_of a) in
    let marked : MarksAll a.tags.items c.loop-ancestry.supply c.mark_all.new.self = subst (λ ks. MarksAll ks c.loop-ancestry.supply c.mark_all.new.self) c.as_slice.ensures.value c.in_ok-mark_all.ensures in
    subst (λ ks. MarksAll ks (record { used = []; next = 0 }) c.mark_all.new.self) (sym tags)
    (then_all (record { used = []; next = 0 }) c.loop-ancestry.supply c.mark_all.new.self (all_tags (map line_of (take i olds))) a.tags.items c.loop-ancestry.invariant marked)

pub returns-clause-begun : goal.returns-clause-begun
returns-clause-begun c seed xs h =
    let olds = c.args.olds.now in
    let all : take c.loop-ancestry.ancestry-index olds ≡ olds = take_all c.loop-ancestry.ancestry-index olds c.loop-ancestry-test.false in
    let view : c.new.result ≡ [] = c.new.ensures in
    let lines : map line_of c.new-2.result.items ≡ [] = ap (map line_of) c.new-2.ensures.items in
    let mates : c.push.new.self.items ≡ Some 0 ∷ [] = c.in_ok-push.ensures.items ∙ ap (λ ms. ms ++ Some 0 ∷ []) c.new-mates.ensures.items in
    let same : record { old_lines = map line_of olds; view = []; lines = []; supply = c.loop-ancestry.supply; mates = Some 0 ∷ [] }
    ≡ record { old_lines = map line_of olds; view = c.new.result; lines = map line_of c.new-2.result.items; supply = c.loop-ancestry.supply; mates = c.push.new.self.items } =
    λ i. record { old_lines = map line_of olds; view = sym view i; lines = sym lines i; supply = c.loop-ancestry.supply; mates = sym mates i } in
    subst (IsRevised seed xs []) same
    (started seed xs (map line_of olds) c.loop-ancestry.supply h (subst (λ ls. MarksAll (all_tags (map line_of ls)) (record { used = []; next = 0 }) c.loop-ancestry.supply) all c.loop-ancestry.invariant))
