use Rattle.std.proofs.Common.{◌≤◌, ◌+◌, List, [], ◌∷◌, ◌++◌, length, sym, ap, subst, ◌∙◌, arith}
use Rattle.lsys_reads.specs.declared.Pair.{Pair}
use Rattle.lsys_reads.specs.Rows.{Row}
use Rattle.lsys_reads.specs.Relations.{KeepsPairs}
use Rattle.lsys_reads.proofs.ReadsLemmas.{kept_add, settled_stay, reserves_tags, reserves_rise}
use Rattle.lsys_reads.proofs.Reads.add.Goals as goal

pub returns-in_err-reserve-2-clause-settled : goal.returns-in_err-reserve-2-clause-settled
returns-in_err-reserve-2-clause-settled c =
    settled_stay c.self.inside.by_seen c.reserve-2.new.self c.self.inside.pending.items c.make_room.new.pending.items c.args.self.now c.self.view_is
    (λ tag. ap (λ (r : Row). r.tags) (c.in_err-reserve-2.ensures.err tag))

pub invariant_of-self-2 : goal.invariant_of-self-2
invariant_of-self-2 c =
    let p : Pair = record { reader = c.args.reader; seen = c.args.seen } in
    let pushed = c.in-Ok.ensures.items ∙ ap (λ (l : List Pair). l ++ p ∷ []) c.make_room.ensures.pairs in
    let room : length c.self.inside.pending.items + 1 ≤ c.reserve.new.self.room =
    (let more = c.in_ok-reserve.ensures.room in let counted = c.len-many.ensures in let ok = c.make_room.new.pending.ok.0 in
    let size = ap length c.make_room.ensures.pairs in omega (arith, more, counted, ok, size)) in (
      subst (KeepsPairs c.reserve-2.new.self c.reserve.new.self) (sym pushed)
          (kept_add c.self.inside.by_seen c.reserve-2.new.self c.self.inside.by_reader c.reserve.new.self c.self.inside.pending.items p
          c.in_ok-reserve-2.ensures.ok c.reserve.ensures.stay c.reserve.ensures.longer c.in_ok-reserve.ensures.reach room c.self.invariant.0),
      reserves_rise c.self.inside.by_seen c.reserve-2.new.self c.args.seen c.in_ok-reserve-2.ensures.ok c.self.invariant.1,
    )

pub returns-clause-settled : goal.returns-clause-settled
returns-clause-settled c =
    settled_stay c.self.inside.by_seen c.reserve-2.new.self c.self.inside.pending.items c.push.new.self.items c.args.self.now c.self.view_is
    (reserves_tags c.self.inside.by_seen c.reserve-2.new.self c.args.seen c.in_ok-reserve-2.ensures.ok)
