use Rattle.std.proofs.Common.{◌≡◌, ◌≢◌, ◌<◌, ℕ, Some, length, slice_get, refl, sym, ap, ◌∙◌, subst, arith, inl, inr}
use Rattle.std.specs.Prelude.{IsSome}
use Rattle.std.proofs.lemmas.Bool.{cases_eq}
use Rattle.std.proofs.lemmas.Option.{slice_get_read, slice_get_within, same_Some}
use Rattle.lsys_spec.specs.Rows.{In}
use Rattle.lsys_forest.specs.declared.node.Footing.{Footing}
use Rattle.lsys_forest.specs.declared.walk.Way.{Way}
use Rattle.lsys_forest.specs.declared.walk.Way.TheVariants.{Left, Right}
use Rattle.lsys_forest.specs.Slots.{SlotTable, slot_at, footing_at, rank_at, link_in, link_at, footing_mate, rank_set, change_footing}
use Rattle.lsys_forest.proofs.TableLemmas.{footing_other}
use Rattle.lsys_forest.proofs.WalkLemmas.{get_In}
use Rattle.lsys_forest.proofs.RankLemmas.{one_place}
use Rattle.lsys_forest.proofs.runs.number.Goals as goal

-- a rank that is set leaves the links
same_links : (way : Way) (x : ℕ) (f : Footing) → link_in way (rank_set x f) ≡ link_in way f
same_links Left x f = refl
same_links Right x f = refl

pub loop-place-init : goal.loop-place-init
loop-place-init g c = record {
  stands = λ i k less here. absurd (omega (arith, less));
  others = λ k none. refl;
  links = λ way k. refl;
  mates = λ k. refl;
  table = refl;
  end = refl;
}

pub loop-place-preserved : goal.loop-place-preserved
loop-place-preserved g c =
    let at = c.loop-place.place in
    let kids = c.args.kids.now in
    let was = c.loop-place.invariant in
    let kid = c.index-kids-place.result in
    let t = c.loop-place.table in
    let u = c.set_rank.new.self in
    let within : at < length kids = omega (arith, c.loop-place-test.true, was.end) in
    let here : slice_get kids at ≡ Some kid = slice_get_read kids (length kids) at kid refl within c.index-kids-place.is in
    let among : In kid kids = get_In kids at kid here in
    let slots = ap (λ (x : SlotTable g.row.A.Denot). slot_at x.slots kid) was.table in
    let set = c.set_rank.ensures.here (subst IsSome (sym slots) (c.requires.live kid among)) in
    let footings = ap (λ (x : SlotTable g.row.A.Denot). x.footings) c.set_rank.ensures.changed in
    let others : (k : ℕ) → k ≢ kid → footing_at u.footings k ≡ footing_at t.footings k = λ k ne. footing_other (rank_set at) (slot_at t.slots kid) t.footings u.footings kid k footings ne in
    let rest : (k : ℕ) → k ≢ kid → rank_at u.footings k ≡ rank_at t.footings k = λ k ne. ap (λ (f : Footing). f.rank) (others k ne) in
    record {
      stands = λ i k less there. elim (cases_eq i at) [
        | inl e ↦ let same : k ≡ kid = same_Some k kid (sym there ∙ ap (slice_get kids) e ∙ here) in ap (rank_at u.footings) same ∙ ap (λ (f : Footing). f.rank) set ∙ sym e
        | inr ne ↦
            let far : k ≢ kid = λ e. ne (one_place kids i at kid c.requires.apart (there ∙ ap Some e) here) in
            rest k far ∙ was.stands i k (omega (arith, less, ne)) there
      ];
      others = λ k none. rest k (λ e. none (subst (λ j. In j kids) (sym e) among)) ∙ was.others k none;
      links = λ way k. elim (cases_eq k kid) [
        | inl e ↦ ap (link_at way u.footings) e ∙ ap (link_in way) set ∙ same_links way at (footing_at t.footings kid) ∙ ap (link_at way t.footings) (sym e)
        | inr ne ↦ ap (link_in way) (others k ne)
      ] ∙ was.links way k;
      mates = λ k. elim (cases_eq k kid) [
        | inl e ↦ ap (footing_mate u.footings) e ∙ ap (λ (f : Footing). f.mate) set ∙ ap (footing_mate t.footings) (sym e)
        | inr ne ↦ ap (λ (f : Footing). f.mate) (others k ne)
      ] ∙ was.mates k;
      table = c.set_rank.ensures.changed ∙ ap (λ (x : SlotTable g.row.A.Denot). record x { footings = change_footing (rank_set at) (slot_at t.slots kid) t.footings kid }) was.table ∙ ap (λ r. record c.args.table.now { footings = r }) (sym footings);
      end = was.end;
    }

pub returns-clause-stands : goal.returns-clause-stands
returns-clause-stands g c = λ i k here.
    let w = slice_get_within c.args.kids.now i k here in
    c.loop-place.invariant.stands i k (omega (arith, w, c.loop-place.invariant.end, c.loop-place-test.false)) here

pub returns-clause-others : goal.returns-clause-others
returns-clause-others g c = λ k none. c.loop-place.invariant.others k none

pub returns-clause-links : goal.returns-clause-links
returns-clause-links g c = λ way k. c.loop-place.invariant.links way k

pub returns-clause-mates : goal.returns-clause-mates
returns-clause-mates g c = λ k. c.loop-place.invariant.mates k

pub returns-clause-table : goal.returns-clause-table
returns-clause-table g c = c.loop-place.invariant.table
