use Rattle.std.proofs.Common.{rules, ◌≡◌, ◌<◌, Some, None, length, ◌+◌, ap, sym, ◌∙◌}
use Rattle.std.specs.Prelude.{slice_get, get_or}
use Rattle.std.proofs.lemmas.Option.{slice_get-get_or, slice_get_within}
use Rattle.std.proofs.lemmas.List.{length_push}
use Rattle.std.proofs.lemmas.List.Elements.{All-get_or}
use Rattle.lsys_flat.specs.declared.origin.Origin.{Origin}
use Rattle.lsys_flat.specs.Lookups.{IsPlaceOf}
use Rattle.lsys_flat.proofs.Mates.{below, lone, kept, ended, push_below}
use Rattle.lsys_flat.proofs.pairing.pair.Goals as goal
use Rattle.lsys_flat.proofs.pairing.pair.Goals.{in-None, in-Some+in_ok-mate-in-Some}

pub loop-origin-preserved : goal.loop-origin-preserved
loop-origin-preserved c =
    let i = c.loop-origin.origin-index in
    let new = c.args.new.now in
    let old = c.args.old.now in
    let above = c.args.above.now in
    let items = c.loop-origin.mates.items in
    let mate = c.match-above-origin.mate in
    let nothing : Origin = record { parent = 0; code = 0; count = 0 } in
    let o : Origin = get_or new i nothing in
    let here : slice_get new i ≡ Some o = slice_get-get_or new i nothing c.loop-origin-test.true in
    let in_above : o.parent < length above = All-get_or (λ (o : Origin). o.parent < length above) new i nothing c.loop-origin-test.true c.requires.parents in
    let there : slice_get above o.parent ≡ Some (get_or above o.parent None) = slice_get-get_or above o.parent None in_above in
    elim c.match-above-origin.branch [
      | in-None w ↦
          let none : get_or above o.parent None ≡ None = search rules in
          record {
            sorted = rw w.places-is c.loop-origin.invariant.sorted;
            each = rw c.in_ok-push.ensures.items (length_push items mate ∙ ap (λ n. n + 1) c.loop-origin.invariant.each);
            below = λ p j e. push_below (length old) items mate c.loop-origin.invariant.below (λ k f. let no : None ≡ Some k = sym w.mate-is ∙ f in cc) p j (ap (λ l. slice_get l p) (sym c.in_ok-push.ensures.items) ∙ e);
            paired = λ a b x y h. rw (c.in_ok-push.ensures.items, w.mate-is) (lone a b x y old new above h i items o (c.loop-origin.invariant.paired a b x y h) here (there ∙ ap Some none));
          }
      | in-Some+in_ok-mate-in-Some w ↦
          let place : IsPlaceOf old (below w.in-Some.parent o) mate = rw w.mate-is w.in_ok-mate-in-Some.ensures.found in
          record {
            sorted = rw w.places-is w.in_ok-mate-in-Some.ensures.sorted;
            each = rw c.in_ok-push.ensures.items (length_push items mate ∙ ap (λ n. n + 1) c.loop-origin.invariant.each);
            below = λ p j e. push_below (length old) items mate c.loop-origin.invariant.below
                (λ k f. slice_get_within old k _ (rw f at place)) p j (ap (λ l. slice_get l p) (sym c.in_ok-push.ensures.items) ∙ e);
            paired = λ a b x y h. rw c.in_ok-push.ensures.items (kept a b x y old new above h i w.in-Some.parent items o mate
                (c.loop-origin.invariant.paired a b x y h) here (there ∙ ap Some w.in-Some.is) place);
          }
    ]

pub returns-clause-paired : goal.returns-clause-paired
returns-clause-paired c a b x y da dx bo bn e = ended a b x y c.args.old.now c.args.new.now c.args.above.now c.loop-origin.origin-index c.loop-origin.mates.items
    (record { above_distinct = da; old_distinct = dx; old_children = bo; new_children = bn; paired = e }) (c.loop-origin.invariant.paired a b x y) c.loop-origin-test.false
