use Rattle.std.proofs.Common.{ℤ, ap, subst}
use Rattle.lsys_region.specs.Pool.{Pool}
use Rattle.lsys_walks.specs.declared.entry.Entry.{Entry}
use Rattle.lsys_walks.specs.Stores.{Store, TakesRoom}
use Rattle.lsys_walks.proofs.store.AnswerStore.place.Goals as goal

pub returns-clause-traces : goal.returns-clause-traces
returns-clause-traces c =
    let placed : TakesRoom c.self.inside.traces c.place.new.self c.args.entries.now = record { spare = c.place.ensures.spare; reuses = c.place.ensures.reuses; grows = c.place.ensures.grows; others = c.place.ensures.other_rooms } in
    subst (λ (p : Pool Entry). TakesRoom p c.place.new.self c.args.entries.now) (ap (λ (s : Store). s.traces) c.self.view_is) placed

pub returns-clause-values : goal.returns-clause-values
returns-clause-values c =
    let placed : TakesRoom c.self.inside.values c.place-2.new.self c.args.values.now = record { spare = c.place-2.ensures.spare; reuses = c.place-2.ensures.reuses; grows = c.place-2.ensures.grows; others = c.place-2.ensures.other_rooms } in
    subst (λ (p : Pool ℤ). TakesRoom p c.place-2.new.self c.args.values.now) (ap (λ (s : Store). s.values) c.self.view_is) placed
