use Rattle.std.proofs.Common.{◌≡◌, ◌+◌, ◌-◌, length, ap, sym, ◌∙◌, subst, arith}
use Rattle.lsys_spec.specs.Rows.{In}
use Rattle.lsys_pass.specs.Passes.{PassView}
use Rattle.lsys_pass.proofs.Backing.{held, none_next}
use Rattle.lsys_pass.proofs.Closed.{done, few_dropped, fits_count, moved_levels, closed_pass, closed_counts}
use Rattle.lsys_pass.proofs.Runs.{runs_at_rest}
use Rattle.lsys_pass.proofs.pass.Pass.close.Goals as goal

pub overflow_sub-self : goal.overflow_sub-self
overflow_sub-self g c =
    let few = few_dropped _ c.self.invariant (ap (λ (v : PassView). v.state) c.self.view_is ∙ c.requires) in
    let l = c.len.ensures in
    omega (arith, few, l)

pub overflow_add-self : goal.overflow_add-self
overflow_add-self g c =
    let few = fits_count _ c.self.invariant (ap (λ (v : PassView). v.state) c.self.view_is ∙ c.requires) c.len.result (let l = c.len.ensures in omega (arith, l)) in
    omega (arith, few)

pub commit-requires : goal.commit-requires
commit-requires g c = record { made = held _ c.self.invariant }

pub seat_all-requires-clause-levels : goal.seat_all-requires-clause-levels
seat_all-requires-clause-levels g c = λ k i.
    moved_levels _ c.self.invariant (ap (λ (v : PassView). v.state) c.self.view_is ∙ c.requires) c.commit.new.self c.commit.new.store
    (record { stay = c.commit.ensures.stay; only = c.commit.ensures.only; rest = c.commit.ensures.rest; root = c.commit.ensures.root; live = c.commit.ensures.spares.live; store = c.commit.ensures.store; still = c.commit.ensures.still })
    k (subst (In k) (c.deref.ensures.value ∙ ap (λ m. m.items) c.settle_readers.ensures.moved) i)

pub seat_all-requires-clause-room : goal.seat_all-requires-clause-room
seat_all-requires-clause-room g c = λ k i.
    (done _ c.self.invariant (ap (λ (v : PassView). v.state) c.self.view_is ∙ c.requires)).seats.room k (subst (In k) (c.deref.ensures.value ∙ ap (λ m. m.items) c.settle_readers.ensures.moved) i)

pub invariant_of-self : goal.invariant_of-self
invariant_of-self g c =
    none_next c.commit.new.self c.commit.new.store c.settle_readers.new.readers.reads c.settle_readers.new.readers.is_listed c.seat_all.new.seats c.keep.new.self c.take_over.new.next c.take_over.new.system c.self.inside.limit c.come_to_rest.new.state c.come_to_rest.new.work _ c.take_over.ensures.none c.come_to_rest.ensures.rest
    (closed_pass _ c.self.invariant (ap (λ (v : PassView). v.state) c.self.view_is ∙ c.requires) c.commit.new.self c.commit.new.store
    (record { stay = c.commit.ensures.stay; only = c.commit.ensures.only; rest = c.commit.ensures.rest; root = c.commit.ensures.root; live = c.commit.ensures.spares.live; store = c.commit.ensures.store; still = c.commit.ensures.still })
    c.settle_readers.new.readers.reads c.settle_readers.new.readers.is_listed c.seat_all.new.seats c.keep.new.self c.take_over.new.system c.come_to_rest.new.work _ c.take_over.ensures.system c.settle_readers.ensures.listed c.settle_readers.ensures.settled c.settle_readers.ensures.pending
    (λ k i. c.seat_all.ensures.seated k (subst (In k) (sym (c.deref.ensures.value ∙ ap (λ m. m.items) c.settle_readers.ensures.moved)) i))
    (λ k out. c.seat_all.ensures.others k (λ i. out (subst (In k) (c.deref.ensures.value ∙ ap (λ m. m.items) c.settle_readers.ensures.moved) i)))
    c.seat_all.ensures.marks c.seat_all.ensures.keeps
    (let l = c.len.ensures in let e : c.len.result ≡ length c.self.inside.work.dropped.items = omega (arith, l) in ap (λ n. c.self.inside.answers - n + c.self.inside.work.born) e)
    c.come_to_rest.ensures.cleared c.keep.ensures.rest c.keep.ensures.made)

pub returns-clause-counts : goal.returns-clause-counts
returns-clause-counts g c =
    closed_counts _ c.self.invariant (ap (λ (v : PassView). v.state) c.self.view_is ∙ c.requires) c.args.self.now c.len-asked.result _ c.self.view_is (let l = c.len-asked.ensures in omega (arith, l))
    (let l = c.len.ensures in let e : c.len.result ≡ length c.self.inside.work.dropped.items = omega (arith, l) in ap (λ n. c.self.inside.answers - n + c.self.inside.work.born) e)

pub returns-clause-runs : goal.returns-clause-runs
returns-clause-runs g c =
    runs_at_rest _
    (none_next c.commit.new.self c.commit.new.store c.settle_readers.new.readers.reads c.settle_readers.new.readers.is_listed c.seat_all.new.seats c.keep.new.self c.take_over.new.next c.take_over.new.system c.self.inside.limit c.come_to_rest.new.state c.come_to_rest.new.work _ c.take_over.ensures.none c.come_to_rest.ensures.rest
    (closed_pass _ c.self.invariant (ap (λ (v : PassView). v.state) c.self.view_is ∙ c.requires) c.commit.new.self c.commit.new.store
    (record { stay = c.commit.ensures.stay; only = c.commit.ensures.only; rest = c.commit.ensures.rest; root = c.commit.ensures.root; live = c.commit.ensures.spares.live; store = c.commit.ensures.store; still = c.commit.ensures.still })
    c.settle_readers.new.readers.reads c.settle_readers.new.readers.is_listed c.seat_all.new.seats c.keep.new.self c.take_over.new.system c.come_to_rest.new.work _ c.take_over.ensures.system c.settle_readers.ensures.listed c.settle_readers.ensures.settled c.settle_readers.ensures.pending
    (λ k i. c.seat_all.ensures.seated k (subst (In k) (sym (c.deref.ensures.value ∙ ap (λ m. m.items) c.settle_readers.ensures.moved)) i))
    (λ k out. c.seat_all.ensures.others k (λ i. out (subst (In k) (c.deref.ensures.value ∙ ap (λ m. m.items) c.settle_readers.ensures.moved) i)))
    c.seat_all.ensures.marks c.seat_all.ensures.keeps
    (let l = c.len.ensures in let e : c.len.result ≡ length c.self.inside.work.dropped.items = omega (arith, l) in ap (λ n. c.self.inside.answers - n + c.self.inside.work.born) e)
    c.come_to_rest.ensures.cleared c.keep.ensures.rest c.keep.ensures.made))
    c.come_to_rest.ensures.rest

pub settle_readers-requires : goal.settle_readers-requires
settle_readers-requires g c = (done _ c.self.invariant (ap (λ (v : PassView). v.state) c.self.view_is ∙ c.requires)).unread
