-- From one step of making a level to the next, and the level as it is made then.
use Rattle.std.proofs.Common.{◌+◌, ℕ, sym, ◌∙◌, subst, inl, inr, arith}
use Rattle.lsys_spec.specs.Rows.{In}
use Rattle.lsys_spec.specs.Systems.{System}
use Rattle.lsys_pass.specs.Stages.{Stage, HasSeats}
use Rattle.lsys_pass.specs.Advances.{KeepsRest, StaysAbove, Drops, Makes, BeginsAnew}
use Rattle.lsys_pass.specs.Fresh.{Goes, HasListsBefore}

-- two steps after each other
module _ (s s' s'' : Stage) (t : ℕ) (a : Goes s s' t) (b : Goes s' s'' t) where
  run : KeepsRest s s''
  run = record {
    system = b.run.system ∙ a.run.system;
    limit = b.run.limit ∙ a.run.limit;
    root = b.run.root ∙ a.run.root;
    was = b.run.was ∙ a.run.was;
    store = b.run.store ∙ a.run.store;
    reads = b.run.reads ∙ a.run.reads;
    listed = b.run.listed ∙ a.run.listed;
    renewed = b.run.renewed ∙ a.run.renewed;
    born = b.run.born ∙ a.run.born;
    same_seats = λ k. b.run.same_seats k ∙ a.run.same_seats k;
  }

  above : StaysAbove s s'' t
  above = record {
    nodes = λ u l. b.above.nodes u l ∙ a.above.nodes u l;
    spots = λ u l. b.above.spots u l ∙ a.above.spots u l;
    names = λ k n e. b.above.names k n (a.above.names k n e);
    kept = λ u k l i. b.above.kept u k l (subst (In k) (sym (a.above.nodes u l)) i) ∙ a.above.kept u k l i;
    same = λ k c e. a.above.same k c (b.above.same k c e);
    gone = λ k c e. elim (a.above.gone k c e) [ inl i ↦ inl (b.more k i) | inr f ↦ b.above.gone k c f ];
  }

  pub goes_on : Goes s s'' t
  goes_on = record {
    next = b.next ∙ a.next;
    run = run;
    above = above;
    more = λ k i. b.more k (a.more k i);
  }

-- what is kept up to level t is what a level that is made wants
module _ (s' : Stage) (t : ℕ) (l : HasListsBefore s' (t + 1)) where
  drops_of : (s : Stage) → ((k : ℕ) → In k s.dropped → In k s'.dropped) → Drops s s' t
  drops_of s more = record {
    more = more;
    apart = l.dropped_apart;
    had = l.dropped_had;
    none = λ k u i le j. l.dropped_none k u i (omega (arith, le)) j;
    lost = λ k b e i. l.lost k t b (omega arith) e i;
  }

  seats_of : HasSeats s' t
  seats_of = record {
    seated = λ u p k le e. l.seated u p k (omega (arith, le)) e;
    moved_are = λ k i. let w = l.moved_are k i in (w.0, (let less = w.1 in omega (arith, less)), w.2);
    room = l.room;
  }

  pub makes : (s : Stage) → Goes s s' t → Makes s s' t
  makes s g = record { next = g.next; run = g.run; above = g.above; drops = drops_of s g.more; seats = seats_of }

-- the first level, of another system
pub begins : (s s' : Stage) (n : System) → Goes (record s { next = n }) s' 0 → HasListsBefore s' (0 + 1) → BeginsAnew s s'
begins s s' n g l = record {
  run = record {
    system = g.run.system;
    limit = g.run.limit;
    root = g.run.root;
    was = g.run.was;
    store = g.run.store;
    reads = g.run.reads;
    listed = g.run.listed;
    renewed = g.run.renewed;
    born = g.run.born;
    same_seats = g.run.same_seats;
  };
  same = g.above.same;
  gone = g.above.gone;
  drops = drops_of s' 0 l s g.more;
  seats = seats_of s' 0 l;
}
