use Rattle.std.proofs.Common.{ℕ, ◌<◌, List, map, sym, ap, subst, ◌∙◌}
use Rattle.lsys_reads.specs.declared.Pair.{Pair}
use Rattle.lsys_reads.specs.Relations.{seen_tag, occurrences, KeepsPairs}
use Rattle.lsys_reads.proofs.ReadsLemmas.{times_pushed, kept_retract, settled_stay, reserves_tags, releases_rise}
use Rattle.lsys_reads.proofs.Reads.retract_one.Goals as goal

pub release-requires : goal.release-requires
release-requires c =
    let owed = c.self.invariant.0.owed c.in-Some.pair.seen ∙ ap (λ (l : List Pair). occurrences (map seen_tag l) c.in-Some.pair.seen) c.in-Some.ensures.items in
    subst (λ (n : ℕ). 0 < n) (sym owed) (times_pushed seen_tag c.pop.new.self.items c.in-Some.pair)

pub invariant_of-self : goal.invariant_of-self
invariant_of-self c = (
  kept_retract c.self.inside.by_seen c.release.new.self c.self.inside.by_reader c.pop.new.self.items c.in-Some.pair
      c.release.ensures
      (subst (KeepsPairs c.self.inside.by_seen c.self.inside.by_reader) c.in-Some.ensures.items c.self.invariant.0),
  releases_rise c.self.inside.by_seen c.release.new.self c.in-Some.pair.seen c.release.ensures c.self.invariant.1,
)

pub returns-in-Some-clause-settled : goal.returns-in-Some-clause-settled
returns-in-Some-clause-settled c =
    settled_stay c.self.inside.by_seen c.release.new.self c.self.inside.pending.items c.pop.new.self.items c.args.self.now c.self.view_is
    (λ tag. sym (reserves_tags c.release.new.self c.self.inside.by_seen c.in-Some.pair.seen c.release.ensures tag))
