use Rattle.std.proofs.Common.{arith, ◌⊎◌, [], refl, ap, ◌∙◌, subst, inl, inr}
use Rattle.std.proofs.lemmas.Grind.{common_steps}
use Rattle.lsys_spec.specs.Rows.{In}
use Rattle.lsys_front.specs.Finds.{IsTurned, IsBeside, IsReader}
use Rattle.lsys_front.specs.Found.{LevelChanges, IsOther}
use Rattle.lsys_front.proofs.Marking.{others_marked, reach, reach_on, regroup, regather, remark, readers_of_all, all_readers, found_all}
use Rattle.lsys_front.proofs.changes.find_marked.Goals as goal

pub mark_all-requires : goal.mark_all-requires
mark_all-requires g c = record { room = λ k h. c.requires.room.others k (inl (subst (In k) (c.deref.ensures.value ∙ ap (λ (a : LevelChanges). a.gone) c.changes.view_is) h)) }

pub mark_all-requires-2 : goal.mark_all-requires-2
mark_all-requires-2 g c = record { room = λ k h. c.mark_all.ensures.keeps k (c.requires.room.others k (inr (subst (In k) (c.deref-2.ensures.value ∙ ap (λ (a : LevelChanges). a.came) c.changes.view_is) h))) }

pub find_turned-requires-clause-room : goal.find_turned-requires-clause-room
find_turned-requires-clause-room g c = λ k h. c.mark_all-2.ensures.keeps k (c.mark_all.ensures.keeps k (c.requires.room.looked k (subst (In k) (c.deref-3.ensures.value ∙ ap (λ (a : LevelChanges). a.looked) c.changes.view_is) h)))

pub find_beside-requires-clause-room : goal.find_beside-requires-clause-room
find_beside-requires-clause-room g c = λ k h.
    c.find_turned.ensures.gathers.keeps k (c.mark_all-2.ensures.keeps k (c.mark_all.ensures.keeps k (c.requires.room.beside k (subst (λ us. IsBeside c.args.forest.now us k) (c.deref-4.ensures.value ∙ ap (λ (a : LevelChanges). a.changed) c.changes.view_is) h))))

pub returns-in_err-find_turned-clause-marked : goal.returns-in_err-find_turned-clause-marked
returns-in_err-find_turned-clause-marked g c = λ k e.
    let ch = c.args.changes.now in
    let m = others_marked c.args.seats.now c.mark_all.new.seats c.mark_all-2.new.seats ch c.deref.result.now c.deref-2.result.now (c.deref.ensures.value ∙ ap (λ (a : LevelChanges). a.gone) c.changes.view_is) (c.deref-2.ensures.value ∙ ap (λ (a : LevelChanges). a.came) c.changes.view_is) c.requires.clear c.mark_all.ensures.marks c.mark_all-2.ensures.marks in
    elim (reach (IsTurned c.args.forest.now c.mark_all-2.new.seats c.deref-3.result.now) (IsOther ch) c.mark_all-2.new.seats c.find_turned.new.seats c.args.turned.now.items c.find_turned.new.turned.items c.find_turned.ensures.gathers (λ k. (m k).0) k e) [
      | inl o ↦ inl o
      | inr i ↦ inr (inl i)
    ]

pub returns-in_err-find_beside-clause-marked : goal.returns-in_err-find_beside-clause-marked
returns-in_err-find_beside-clause-marked g c = λ k e.
    let ch = c.args.changes.now in
    let f = c.args.forest.now in
    let turned = c.find_turned.new.turned.items in
    let m = others_marked c.args.seats.now c.mark_all.new.seats c.mark_all-2.new.seats ch c.deref.result.now c.deref-2.result.now (c.deref.ensures.value ∙ ap (λ (a : LevelChanges). a.gone) c.changes.view_is) (c.deref-2.ensures.value ∙ ap (λ (a : LevelChanges). a.came) c.changes.view_is) c.requires.clear c.mark_all.ensures.marks c.mark_all-2.ensures.marks in
    let first = reach (IsTurned f c.mark_all-2.new.seats c.deref-3.result.now) (IsOther ch) c.mark_all-2.new.seats c.find_turned.new.seats c.args.turned.now.items turned c.find_turned.ensures.gathers (λ k. (m k).0) in
    regroup (inl (reach (IsBeside f c.deref-4.result.now) (λ k. IsOther ch k ⊎ In k turned) c.find_turned.new.seats c.find_beside.new.seats c.args.beside.now.items c.find_beside.new.beside.items c.find_beside.ensures.gathers first k e))

pub returns-in_err-find_readers-clause-marked : goal.returns-in_err-find_readers-clause-marked
returns-in_err-find_readers-clause-marked g c = λ k e.
    let ch = c.args.changes.now in
    let f = c.args.forest.now in
    let reads = c.args.reads.now in
    let turned = c.find_turned.new.turned.items in
    let beside = c.find_beside.new.beside.items in
    let m = others_marked c.args.seats.now c.mark_all.new.seats c.mark_all-2.new.seats ch c.deref.result.now c.deref-2.result.now (c.deref.ensures.value ∙ ap (λ (a : LevelChanges). a.gone) c.changes.view_is) (c.deref-2.ensures.value ∙ ap (λ (a : LevelChanges). a.came) c.changes.view_is) c.requires.clear c.mark_all.ensures.marks c.mark_all-2.ensures.marks in
    let first = reach (IsTurned f c.mark_all-2.new.seats c.deref-3.result.now) (IsOther ch) c.mark_all-2.new.seats c.find_turned.new.seats c.args.turned.now.items turned c.find_turned.ensures.gathers (λ k. (m k).0) in
    let second = reach (IsBeside f c.deref-4.result.now) (λ k. IsOther ch k ⊎ In k turned) c.find_turned.new.seats c.find_beside.new.seats c.args.beside.now.items beside c.find_beside.ensures.gathers first in
    regroup (reach (IsReader reads c.deref-5.result.now) (λ k. (IsOther ch k ⊎ In k turned) ⊎ In k beside) c.find_beside.new.seats c.find_readers.new.seats c.args.readers.now.items c.find_readers.new.readers.items c.find_readers.ensures.gathers second k e)

pub returns-in_err-find_readers-2-clause-marked : goal.returns-in_err-find_readers-2-clause-marked
returns-in_err-find_readers-2-clause-marked g c = λ k e.
    let ch = c.args.changes.now in
    let f = c.args.forest.now in
    let reads = c.args.reads.now in
    let turned = c.find_turned.new.turned.items in
    let beside = c.find_beside.new.beside.items in
    let m = others_marked c.args.seats.now c.mark_all.new.seats c.mark_all-2.new.seats ch c.deref.result.now c.deref-2.result.now (c.deref.ensures.value ∙ ap (λ (a : LevelChanges). a.gone) c.changes.view_is) (c.deref-2.ensures.value ∙ ap (λ (a : LevelChanges). a.came) c.changes.view_is) c.requires.clear c.mark_all.ensures.marks c.mark_all-2.ensures.marks in
    let first = reach (IsTurned f c.mark_all-2.new.seats c.deref-3.result.now) (IsOther ch) c.mark_all-2.new.seats c.find_turned.new.seats c.args.turned.now.items turned c.find_turned.ensures.gathers (λ k. (m k).0) in
    let second = reach (IsBeside f c.deref-4.result.now) (λ k. IsOther ch k ⊎ In k turned) c.find_turned.new.seats c.find_beside.new.seats c.args.beside.now.items beside c.find_beside.ensures.gathers first in
    let third = reach (IsReader reads c.deref-5.result.now) (λ k. (IsOther ch k ⊎ In k turned) ⊎ In k beside) c.find_beside.new.seats c.find_readers.new.seats c.args.readers.now.items c.find_readers.new.readers.items c.find_readers.ensures.gathers second in
    regroup (reach_on (IsReader reads c.deref-6.result.now) (λ k. (IsOther ch k ⊎ In k turned) ⊎ In k beside) c.find_readers.new.seats c.find_readers-2.new.seats c.find_readers.new.readers.items c.find_readers-2.new.readers.items c.find_readers-2.ensures.gathers third k e)

pub returns-in_err-find_readers-3-clause-marked : goal.returns-in_err-find_readers-3-clause-marked
returns-in_err-find_readers-3-clause-marked g c = λ k e.
    let ch = c.args.changes.now in
    let f = c.args.forest.now in
    let reads = c.args.reads.now in
    let turned = c.find_turned.new.turned.items in
    let beside = c.find_beside.new.beside.items in
    let m = others_marked c.args.seats.now c.mark_all.new.seats c.mark_all-2.new.seats ch c.deref.result.now c.deref-2.result.now (c.deref.ensures.value ∙ ap (λ (a : LevelChanges). a.gone) c.changes.view_is) (c.deref-2.ensures.value ∙ ap (λ (a : LevelChanges). a.came) c.changes.view_is) c.requires.clear c.mark_all.ensures.marks c.mark_all-2.ensures.marks in
    let first = reach (IsTurned f c.mark_all-2.new.seats c.deref-3.result.now) (IsOther ch) c.mark_all-2.new.seats c.find_turned.new.seats c.args.turned.now.items turned c.find_turned.ensures.gathers (λ k. (m k).0) in
    let second = reach (IsBeside f c.deref-4.result.now) (λ k. IsOther ch k ⊎ In k turned) c.find_turned.new.seats c.find_beside.new.seats c.args.beside.now.items beside c.find_beside.ensures.gathers first in
    let third = reach (IsReader reads c.deref-5.result.now) (λ k. (IsOther ch k ⊎ In k turned) ⊎ In k beside) c.find_beside.new.seats c.find_readers.new.seats c.args.readers.now.items c.find_readers.new.readers.items c.find_readers.ensures.gathers second in
    let fourth = reach_on (IsReader reads c.deref-6.result.now) (λ k. (IsOther ch k ⊎ In k turned) ⊎ In k beside) c.find_readers.new.seats c.find_readers-2.new.seats c.find_readers.new.readers.items c.find_readers-2.new.readers.items c.find_readers-2.ensures.gathers third in
    regroup (reach_on (IsReader reads c.deref-7.result.now) (λ k. (IsOther ch k ⊎ In k turned) ⊎ In k beside) c.find_readers-2.new.seats c.find_readers-3.new.seats c.find_readers-2.new.readers.items c.find_readers-3.new.readers.items c.find_readers-3.ensures.gathers fourth k e)

pub returns-clause-marked : goal.returns-clause-marked
returns-clause-marked g c = λ k e.
    let ch = c.args.changes.now in
    let f = c.args.forest.now in
    let reads = c.args.reads.now in
    let turned = c.find_turned.new.turned.items in
    let beside = c.find_beside.new.beside.items in
    let m = others_marked c.args.seats.now c.mark_all.new.seats c.mark_all-2.new.seats ch c.deref.result.now c.deref-2.result.now (c.deref.ensures.value ∙ ap (λ (a : LevelChanges). a.gone) c.changes.view_is) (c.deref-2.ensures.value ∙ ap (λ (a : LevelChanges). a.came) c.changes.view_is) c.requires.clear c.mark_all.ensures.marks c.mark_all-2.ensures.marks in
    let first = reach (IsTurned f c.mark_all-2.new.seats c.deref-3.result.now) (IsOther ch) c.mark_all-2.new.seats c.find_turned.new.seats c.args.turned.now.items turned c.find_turned.ensures.gathers (λ k. (m k).0) in
    let second = reach (IsBeside f c.deref-4.result.now) (λ k. IsOther ch k ⊎ In k turned) c.find_turned.new.seats c.find_beside.new.seats c.args.beside.now.items beside c.find_beside.ensures.gathers first in
    let third = reach (IsReader reads c.deref-5.result.now) (λ k. (IsOther ch k ⊎ In k turned) ⊎ In k beside) c.find_beside.new.seats c.find_readers.new.seats c.args.readers.now.items c.find_readers.new.readers.items c.find_readers.ensures.gathers second in
    let fourth = reach_on (IsReader reads c.deref-6.result.now) (λ k. (IsOther ch k ⊎ In k turned) ⊎ In k beside) c.find_readers.new.seats c.find_readers-2.new.seats c.find_readers.new.readers.items c.find_readers-2.new.readers.items c.find_readers-2.ensures.gathers third in
    regroup (reach_on (IsReader reads c.deref-7.result.now) (λ k. (IsOther ch k ⊎ In k turned) ⊎ In k beside) c.find_readers-2.new.seats c.find_readers-3.new.seats c.find_readers-2.new.readers.items c.find_readers-3.new.readers.items c.find_readers-3.ensures.gathers fourth k e)

pub returns-clause-found : goal.returns-clause-found
returns-clause-found g c =
    let ch = c.args.changes.now in
    let f = c.args.forest.now in
    let reads = c.args.reads.now in
    let s2 = c.mark_all-2.new.seats in
    let s3 = c.find_turned.new.seats in
    let s4 = c.find_beside.new.seats in
    let s5 = c.find_readers.new.seats in
    let s6 = c.find_readers-2.new.seats in
    let s7 = c.find_readers-3.new.seats in
    let turned = c.find_turned.new.turned.items in
    let beside = c.find_beside.new.beside.items in
    let r1 = c.find_readers.new.readers.items in
    let r2 = c.find_readers-2.new.readers.items in
    let r3 = c.find_readers-3.new.readers.items in
    let gone = ch.gone in
    let m = others_marked c.args.seats.now c.mark_all.new.seats s2 ch c.deref.result.now c.deref-2.result.now (c.deref.ensures.value ∙ ap (λ (a : LevelChanges). a.gone) c.changes.view_is) (c.deref-2.ensures.value ∙ ap (λ (a : LevelChanges). a.came) c.changes.view_is) c.requires.clear c.mark_all.ensures.marks c.mark_all-2.ensures.marks in
    let g1 = regather (IsTurned f s2) c.deref-3.result.now ch.looked s2 s3 c.args.turned.now.items [] turned (c.deref-3.ensures.value ∙ ap (λ (a : LevelChanges). a.looked) c.changes.view_is) c.requires.turned c.find_turned.ensures.gathers in
    let g2 = regather (IsBeside f) c.deref-4.result.now ch.changed s3 s4 c.args.beside.now.items [] beside (c.deref-4.ensures.value ∙ ap (λ (a : LevelChanges). a.changed) c.changes.view_is) c.requires.beside c.find_beside.ensures.gathers in
    let g3 = regather (IsReader reads) c.deref-5.result.now turned s4 s5 c.args.readers.now.items [] r1 c.deref-5.ensures.value c.requires.readers c.find_readers.ensures.gathers in
    let g4 = regather (IsReader reads) c.deref-6.result.now beside s5 s6 r1 r1 r2 c.deref-6.ensures.value refl c.find_readers-2.ensures.gathers in
    let g5 = regather (IsReader reads) c.deref-7.result.now gone s6 s7 r2 r2 r3 (c.deref-7.ensures.value ∙ ap (λ (a : LevelChanges). a.gone) c.changes.view_is) refl c.find_readers-3.ensures.gathers in
    let a1 = remark (IsTurned f s2) c.deref-3.result.now ch.looked s3 (c.deref-3.ensures.value ∙ ap (λ (a : LevelChanges). a.looked) c.changes.view_is) c.in_ok-find_turned.ensures.all in
    let a2 = remark (IsBeside f) c.deref-4.result.now ch.changed s4 (c.deref-4.ensures.value ∙ ap (λ (a : LevelChanges). a.changed) c.changes.view_is) c.in_ok-find_beside.ensures.all in
    let a3 = remark (IsReader reads) c.deref-5.result.now turned s5 c.deref-5.ensures.value c.in_ok-find_readers.ensures.all in
    let a4 = remark (IsReader reads) c.deref-6.result.now beside s6 c.deref-6.ensures.value c.in_ok-find_readers-2.ensures.all in
    let a5 = remark (IsReader reads) c.deref-7.result.now gone s7 (c.deref-7.ensures.value ∙ ap (λ (a : LevelChanges). a.gone) c.changes.view_is) c.in_ok-find_readers-3.ensures.all in
    found_all f reads ch c.args.seats.now s2 s3 s4 s7 turned beside r3 (λ k. c.mark_all-2.ensures.seats k ∙ c.mark_all.ensures.seats k) m g1 a1 g2 a2
    (readers_of_all reads s4 s5 s6 s7 r1 r2 r3 turned beside gone g3 g4 g5) (all_readers reads s4 s5 s6 s7 r1 r2 r3 turned beside gone g4 g5 a3 a4 a5)

pub returns-in_err-find_beside-clause-seats : goal.returns-in_err-find_beside-clause-seats
returns-in_err-find_beside-clause-seats g c = grind (arith, common_steps)

pub returns-clause-seats : goal.returns-clause-seats
returns-clause-seats g c = grind (arith, common_steps)

pub find_beside-requires-clause-levels : goal.find_beside-requires-clause-levels
find_beside-requires-clause-levels g c = grind (arith, common_steps)

pub returns-in_err-find_readers-clause-seats : goal.returns-in_err-find_readers-clause-seats
returns-in_err-find_readers-clause-seats g c = grind (arith, common_steps)

pub returns-in_err-find_readers-3-clause-seats : goal.returns-in_err-find_readers-3-clause-seats
returns-in_err-find_readers-3-clause-seats g c = grind (arith, common_steps)

pub returns-in_err-find_readers-2-clause-seats : goal.returns-in_err-find_readers-2-clause-seats
returns-in_err-find_readers-2-clause-seats g c = grind (arith, common_steps)
