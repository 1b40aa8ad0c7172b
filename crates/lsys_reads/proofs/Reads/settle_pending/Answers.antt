use Rattle.std.proofs.Common.{ℕ, ◌<◌, List, map, sym, ap, subst, ◌∙◌}
use Rattle.lsys_reads.specs.declared.Pair.{Pair}
use Rattle.lsys_reads.specs.Relations.{seen_tag, occurrences}
use Rattle.lsys_reads.proofs.ReadsLemmas.{Settles, times_pushed, settles_one, put_has_room}
use Rattle.lsys_reads.proofs.Reads.settle_pending.Goals as goal

pub put-requires-clause-owed : goal.put-requires-clause-owed
put-requires-clause-owed c =
    let owed = c.loop-pair.invariant.kept.owed c.in-Some.pair.seen ∙ ap (λ (l : List Pair). occurrences (map seen_tag l) c.in-Some.pair.seen) c.in-Some.ensures.items in
    subst (λ (n : ℕ). 0 < n) (sym owed) (times_pushed seen_tag c.pop.new.self.items c.in-Some.pair)

pub put-requires-in-Some-clause-reach : goal.put-requires-in-Some-clause-reach
put-requires-in-Some-clause-reach c =
    (put_has_room c.loop-pair.self-inside.by_seen c.loop-pair.self-inside.by_reader c.loop-pair.self-inside.pending.items c.pop.new.self.items c.in-Some.pair c.loop-pair.invariant.kept c.in-Some.ensures.items).0

pub put-requires-in-Some-clause-room : goal.put-requires-in-Some-clause-room
put-requires-in-Some-clause-room c =
    (put_has_room c.loop-pair.self-inside.by_seen c.loop-pair.self-inside.by_reader c.loop-pair.self-inside.pending.items c.pop.new.self.items c.in-Some.pair c.loop-pair.invariant.kept c.in-Some.ensures.items).1

pub loop-pair-preserved : goal.loop-pair-preserved
loop-pair-preserved c =
    subst (λ (left : List Pair). Settles c.self.inside.by_seen c.put.new.self c.put-in-Some.new.self c.self.inside.pending.items left) (sym c.give_back.ensures)
    (settles_one c.self.inside.by_seen c.loop-pair.self-inside.by_seen c.put.new.self c.loop-pair.self-inside.by_reader c.put-in-Some.new.self
    c.self.inside.pending.items c.loop-pair.self-inside.pending.items c.pop.new.self.items c.in-Some.pair c.loop-pair.invariant c.in-Some.ensures.items
    c.put.ensures.puts c.put.ensures.rising c.put-in-Some.ensures)
