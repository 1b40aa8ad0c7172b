use Rattle.std.proofs.Common.{◌≡◌, ◌++◌, ◌∷◌, [], length, sym, ap, subst, ◌∙◌, rules}
use Rattle.lsys_reads.specs.Relations.{Relations, KeepsPairs}
use Rattle.lsys_reads.proofs.ReadsLemmas.{ForgetsDownTo, forgets_last, kept_forgets, forgets_all}
use Rattle.lsys_reads.proofs.RowLemmas.{none_left}
use Rattle.lsys_reads.proofs.Reads.forget.Goals as goal

pub loop-reader-preserved : goal.loop-reader-preserved
loop-reader-preserved c =
    let split : c.loop-reader.rest.now ≡ c.in-Some.before.now ++ c.in-Some.reader.now ∷ [] = search rules in (
      forgets_last c.self.inside.by_seen c.loop-reader.self-inside.by_seen c.forget_one.new.by_seen c.self.inside.by_reader c.loop-reader.self-inside.by_reader c.forget_one.new.by_reader
          c.args.gone.now c.loop-reader.rest.now c.in-Some.before.now c.in-Some.reader.now split c.loop-reader.invariant.0 c.forget_one.ensures.thins c.forget_one.ensures.none c.forget_one.ensures.clears,
      c.loop-reader.invariant.1,
    )

pub invariant_of-self : goal.invariant_of-self
invariant_of-self c =
    let none : length c.loop-reader.rest.now ≡ 0 = search rules in
    let empty = none_left c.loop-reader.rest.now none in
    let all = subst (ForgetsDownTo c.self.inside.by_seen c.loop-reader.self-inside.by_seen c.self.inside.by_reader c.loop-reader.self-inside.by_reader c.args.gone.now) empty c.loop-reader.invariant.0 in (
      subst (KeepsPairs c.loop-reader.self-inside.by_seen c.loop-reader.self-inside.by_reader) (sym c.loop-reader.invariant.1)
          (kept_forgets c.self.inside.by_seen c.loop-reader.self-inside.by_seen c.self.inside.by_reader c.loop-reader.self-inside.by_reader c.self.inside.pending.items c.args.gone.now c.self.invariant.0 all),
      all.rising,
    )

pub returns-clause-settled : goal.returns-clause-settled
returns-clause-settled c =
    let none : length c.loop-reader.rest.now ≡ 0 = search rules in
    let empty = none_left c.loop-reader.rest.now none in
    let all = subst (ForgetsDownTo c.self.inside.by_seen c.loop-reader.self-inside.by_seen c.self.inside.by_reader c.loop-reader.self-inside.by_reader c.args.gone.now) empty c.loop-reader.invariant.0 in
    forgets_all c.self.inside.by_seen c.loop-reader.self-inside.by_seen c.self.inside.by_reader c.loop-reader.self-inside.by_reader c.self.inside.pending.items c.loop-reader.self-inside.pending.items
    c.args.gone.now c.args.self.now c.self.view_is all

pub returns-clause-pending : goal.returns-clause-pending
returns-clause-pending c = c.loop-reader.invariant.1 ∙ ap (λ (v : Relations). v.pending) c.self.view_is
