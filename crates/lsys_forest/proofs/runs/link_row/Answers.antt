use Rattle.std.proofs.Common.{◌≡◌, ◌+◌, ◌<◌, ℕ, suc, List, length, take, slice_get, Some, refl, sym, ap, ◌∙◌, subst, arith, inl, inr}
use Rattle.std.specs.Prelude.{IsSome}
use Rattle.std.proofs.lemmas.Option.{slice_get_read}
use Rattle.lsys_spec.specs.Rows.{In}
use Rattle.lsys_forest.specs.Slots.{SlotTable, slot_at}
use Rattle.lsys_forest.specs.Ranks.{LinksRow}
use Rattle.lsys_forest.proofs.WalkLemmas.{get_In}
use Rattle.lsys_forest.proofs.ChainLemmas.{row_start, row_on, take_more, taken_among, taken_apart, take_whole}
use Rattle.lsys_forest.proofs.runs.link_row.Goals as goal

pub loop-place-init : goal.loop-place-init
loop-place-init g c = record {
  row = row_start c.args.table.now.footings c.args.before;
  table = refl;
  end = refl;
}

pub join-requires-clause-lives : goal.join-requires-clause-lives
join-requires-clause-lives g c =
    let at = c.loop-place.place in
    let kids = c.args.kids.now in
    let was = c.loop-place.invariant in
    let kid = c.index-kids-place.result in
    let within : at < length kids = omega (arith, c.loop-place-test.true, was.end) in
    let here : slice_get kids at ≡ Some kid = slice_get_read kids (length kids) at kid refl within c.index-kids-place.is in
    subst IsSome (sym (ap (λ (x : SlotTable g.row.A.Denot). slot_at x.slots kid) was.table)) (c.requires.live kid (get_In kids at kid here))

pub join-requires-clause-last : goal.join-requires-clause-last
join-requires-clause-last g c = λ k e.
    let at = c.loop-place.place in
    let kids = c.args.kids.now in
    let was = c.loop-place.invariant in
    let kid = c.index-kids-place.result in
    let within : at < length kids = omega (arith, c.loop-place-test.true, was.end) in
    let here : slice_get kids at ≡ Some kid = slice_get_read kids (length kids) at kid refl within c.index-kids-place.is in
    let slots = ap (λ (x : SlotTable g.row.A.Denot). slot_at x.slots k) was.table in
    elim (was.row.from k e) [
      | inl h ↦ (subst IsSome (sym slots) (c.requires.live k (taken_among kids at k h)), taken_apart kids at k kid c.requires.apart here h)
      | inr h ↦ (subst IsSome (sym slots) (c.requires.before k h).0, λ same. (c.requires.before k h).1 (subst (λ j. In j kids) (sym same) (get_In kids at kid here)))
    ]

pub loop-place-preserved : goal.loop-place-preserved
loop-place-preserved g c =
    let at = c.loop-place.place in
    let kids = c.args.kids.now in
    let was = c.loop-place.invariant in
    let kid = c.index-kids-place.result in
    let u = c.join.new.table in
    let within : at < length kids = omega (arith, c.loop-place-test.true, was.end) in
    let here : slice_get kids at ≡ Some kid = slice_get_read kids (length kids) at kid refl within c.index-kids-place.is in
    let next : at + 1 ≡ suc at = omega arith in
    record {
      row =
          subst (λ (l : List ℕ). LinksRow c.args.table.now.footings u.footings c.args.before l (Some kid)) (sym (ap (λ n. take n kids) next ∙ take_more kids at kid here))
          (row_on c.args.table.now.footings c.loop-place.table.footings u.footings c.args.before c.loop-place.last (take at kids) kid was.row c.join.ensures.joins);
      table = c.join.ensures.table ∙ ap (λ (x : SlotTable g.row.A.Denot). record x { footings = u.footings }) was.table;
      end = was.end;
    }

pub returns-clause-row : goal.returns-clause-row
returns-clause-row g c =
    let was = c.loop-place.invariant in
    subst (λ (l : List ℕ). LinksRow c.args.table.now.footings c.loop-place.table.footings c.args.before l c.loop-place.last) (take_whole c.args.kids.now c.loop-place.place (omega (arith, was.end, c.loop-place-test.false))) was.row

pub returns-clause-table : goal.returns-clause-table
returns-clause-table g c = c.loop-place.invariant.table
