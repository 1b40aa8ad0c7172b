use Rattle.std.proofs.Common.{rules, ◌≡◌, ◌+◌, ℕ, List, Ok, Err, OnErr, length, refl, sym, ap, ◌∙◌, subst, arith}
use Rattle.std.proofs.lemmas.Grind.{common_steps}
use Rattle.lsys_flat.specs.Slots.{filled_slots}
use Rattle.lsys_level.specs.Spots.{spots_at}
use Rattle.lsys_rewrite.specs.declared.refusal.DeriveRefusal.{DeriveRefusal}
use Rattle.lsys_rewrite.specs.declared.refusal.DeriveRefusal.TheVariants.{Memory}
use Rattle.lsys_flat.specs.Rounds.{AreNew, AskedTo, IsAt, IsNoRound, IsRound, Rounded, nothing_asked, answers_told, inquiry}
use Rattle.lsys_flat.proofs.Seen.{row_length}
use Rattle.lsys_flat.proofs.News.{made_still}
use Rattle.lsys_flat.proofs.Beginning.{none_at, none_asked, none_new}
use Rattle.lsys_flat.proofs.round.Round.ask_level.Goals as goal

pub returns-in_err-reserve-clause-round : goal.returns-in_err-reserve-clause-round
returns-in_err-reserve-clause-round g c = λ naming x is.
    let row = spots_at c.args.beside.now.view.now c.args.beside.now.level in
    let goes : c.from_residual.result ≡ Err Memory = search rules in
    subst
    (IsRound (inquiry c.args.beside.now.system.now c.args.beside.now.level row x (answers_told c.args.store.now c.args.beside.now.olds.now) c.args.beside.now.mates.now) c.args.store.now c.reserve.new.self c.args.visited.now c.args.visited.now)
    (sym goes) (omega arith, omega arith)

pub returns-in_err-reserve-clause-new : goal.returns-in_err-reserve-clause-new
returns-in_err-reserve-clause-new g c =
    subst (λ (r : Rounded). AreNew c.args.store.now c.args.store.now r.fresh) (sym (c.reserve.ensures ∙ c.requires.new)) (none_new c.args.store.now)

pub returns-in_err-reserve-clause-each : goal.returns-in_err-reserve-clause-each
returns-in_err-reserve-clause-each g c =
    let none : length c.reserve.new.self.fresh ≡ 0 = ap (λ (r : Rounded). length r.fresh) (c.reserve.ensures ∙ c.requires.new) in
    omega (arith, none)

pub returns-in_err-reserve-clause-asked : goal.returns-in_err-reserve-clause-asked
returns-in_err-reserve-clause-asked g c =
    let none : filled_slots c.reserve.new.self.fresh ≡ 0 = ap (λ (r : Rounded). filled_slots r.fresh) (c.reserve.ensures ∙ c.requires.new) in
    omega (arith, none)

pub loop-place-init : goal.loop-place-init
loop-place-init g c =
    let numbering = c.args.beside.now.system.now.numbering in
    let room = c.args.self.now.next.grown.room in
    let none : c.reserve.new.self ≡ nothing_asked numbering room = c.reserve.ensures ∙ c.requires.new in
    record {
      asker = c.new-asker.ensures;
      at = subst (IsAt 0) (sym none) (none_at numbering room);
      new = subst (λ (r : Rounded). AreNew c.args.store.now c.args.store.now r.fresh) (sym none) (none_new c.args.store.now);
      made = c.requires.made;
      asked = let none : filled_slots c.reserve.new.self.fresh ≡ 0 = ap (λ (r : Rounded). filled_slots r.fresh) none in omega (arith, none);
      room = ap (λ (r : Rounded). r.next.grown.room) c.reserve.ensures;
      going = λ naming x is.
          subst (λ (r : Rounded). AskedTo (inquiry c.args.beside.now.system.now c.args.beside.now.level (spots_at c.args.beside.now.view.now c.args.beside.now.level) x (answers_told c.args.store.now c.args.beside.now.olds.now) c.args.beside.now.mates.now) c.args.store.now r c.args.visited.now c.args.visited.now 0)
          (sym none) (none_asked c.args.beside.now.system.now c.args.beside.now.level (spots_at c.args.beside.now.view.now c.args.beside.now.level) x (answers_told c.args.store.now c.args.beside.now.olds.now) c.args.beside.now.mates.now c.args.store.now room c.args.visited.now);
    }

pub returns-in_err-ask_next-clause-round : goal.returns-in_err-ask_next-clause-round
returns-in_err-ask_next-clause-round g c = λ naming x is.
    let no = c.in_err-ask_next.ensures.refused c.args.store.now c.args.visited.now naming x is (c.loop-place.invariant.going naming x is) in
    let goes : c.from_residual-in_err-ask_next.result ≡ Err c.in_err-ask_next.field-0.0 = search rules in
    rw goes no

pub loop-place-preserved : goal.loop-place-preserved
loop-place-preserved g c = record {
  asker = c.in_ok-ask_next.ensures.same ∙ c.loop-place.invariant.asker;
  at = c.in_ok-ask_next.ensures.next;
  new = c.in_ok-ask_next.ensures.new c.args.store.now c.loop-place.invariant.new;
  made = made_still c.loop-place.store c.ask_next.new.store c.args.beside.now.olds.now c.in_ok-ask_next.ensures.stay c.loop-place.invariant.made;
  asked = omega (arith, c.in_ok-ask_next.ensures.asked, c.loop-place.invariant.asked);
  room = c.in_ok-ask_next.ensures.room ∙ c.loop-place.invariant.room;
  going = λ naming x is. c.in_ok-ask_next.ensures.going c.args.store.now c.args.visited.now naming x is c.requires.made c.loop-place.invariant.new (c.loop-place.invariant.going naming x is);
}

pub returns-clause-round : goal.returns-clause-round
returns-clause-round g c = λ naming x is.
    let row = spots_at c.args.beside.now.view.now c.args.beside.now.level in
    let n : length x ≡ length row = row_length naming c.args.beside.now.system.now.seed row x is in
    let at : c.loop-place.place ≡ length x = omega (arith, n, c.requires.level.each, c.loop-place-test.false, c.loop-place.auto.place-end) in
    subst (AskedTo (inquiry c.args.beside.now.system.now c.args.beside.now.level row x (answers_told c.args.store.now c.args.beside.now.olds.now) c.args.beside.now.mates.now) c.loop-place.store c.loop-place.self c.args.visited.now c.loop-place.visited) at (c.loop-place.invariant.going naming x is)

pub returns-in_err-ask_next-clause-whole : goal.returns-in_err-ask_next-clause-whole
returns-in_err-ask_next-clause-whole g c = grind (arith, common_steps)

pub returns-in_err-ask_next-clause-new : goal.returns-in_err-ask_next-clause-new
returns-in_err-ask_next-clause-new g c = grind (arith, common_steps)

pub returns-in_err-ask_next-clause-room : goal.returns-in_err-ask_next-clause-room
returns-in_err-ask_next-clause-room g c = grind (arith, common_steps)
