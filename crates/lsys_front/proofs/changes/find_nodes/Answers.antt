use Rattle.std.proofs.Common.{arith, ◌⊎◌, ap, ◌∙◌}
use Rattle.std.proofs.lemmas.Grind.{elements}
use Rattle.lsys_spec.specs.Rows.{In}
use Rattle.lsys_front.specs.Found.{LevelChanges}
use Rattle.lsys_front.proofs.Marking.{cleared_of, found_none, none_marked, in_turn}
use Rattle.lsys_front.proofs.changes.find_nodes.Goals as goal

pub returns-clause-clear : goal.returns-clause-clear
returns-clause-clear g c =
    let s0 = c.find_marked-outcome.new.seats in
    let s1 = c.clear-4.new.self in
    let s2 = c.clear-5.new.self in
    let s3 = c.clear-6.new.self in
    let s4 = c.clear-7.new.self in
    let s5 = c.clear-8.new.self in
    let gone = c.args.changes.now.gone in
    let came = c.args.changes.now.came in
    let turned = c.find_marked-outcome.new.turned.items in
    let beside = c.find_marked-outcome.new.beside.items in
    let readers = c.find_marked-outcome.new.readers.items in
    let first = cleared_of (λ k. In k came ⊎ (In k turned ⊎ (In k beside ⊎ (In k readers ⊎ ⊥)))) s0 s1 c.deref.result.now gone (c.deref.ensures.value ∙ ap (λ (a : LevelChanges). a.gone) c.changes.view_is) c.clear-4.ensures.cleared c.clear-4.ensures.others
    (λ k e. in_turn (c.find_marked-outcome.ensures.marked k e)) in
    let second = cleared_of (λ k. In k turned ⊎ (In k beside ⊎ (In k readers ⊎ ⊥))) s1 s2 c.deref-2.result.now came (c.deref-2.ensures.value ∙ ap (λ (a : LevelChanges). a.came) c.changes.view_is) c.clear-5.ensures.cleared c.clear-5.ensures.others first in
    let third = cleared_of (λ k. In k beside ⊎ (In k readers ⊎ ⊥)) s2 s3 c.deref-3.result.now turned c.deref-3.ensures.value c.clear-6.ensures.cleared c.clear-6.ensures.others second in
    let fourth = cleared_of (λ k. In k readers ⊎ ⊥) s3 s4 c.deref-4.result.now beside c.deref-4.ensures.value c.clear-7.ensures.cleared c.clear-7.ensures.others third in
    none_marked s5 (cleared_of (λ k. ⊥) s4 s5 c.deref-5.result.now readers c.deref-5.ensures.value c.clear-8.ensures.cleared c.clear-8.ensures.others fourth)

pub returns-clause-seats : goal.returns-clause-seats
returns-clause-seats g c = grind (arith, elements)

pub returns-then-find_none-clause-found : goal.returns-then-find_none-clause-found
returns-then-find_none-clause-found g c =
    found_none c.args.forest.now c.args.seats.now c.args.reads.now c.args.changes.now c.clear.new.self.items c.clear-2.new.self.items c.clear-3.new.self.items (c.find_none.ensures.looked c.if-find_none.true)
    (c.find_none.ensures.changed c.if-find_none.true) (c.find_none.ensures.gone c.if-find_none.true) c.clear.ensures.items c.clear-2.ensures.items c.clear-3.ensures.items
