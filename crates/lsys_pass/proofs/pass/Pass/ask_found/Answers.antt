use Rattle.std.proofs.Common.{◌∙◌, refl, ap}
use Rattle.lsys_pass.specs.Passes.{PassView}
use Rattle.lsys_pass.proofs.Unanswered.{after_failed}
use Rattle.lsys_pass.proofs.Pendings.{complete_at, lives_at, together_at, seats_at, rows_at, goes_at, asked_at}
use Rattle.lsys_pass.proofs.pass.Pass.ask_found.Goals as goal

pub find_unlike-requires-clause-complete : goal.find_unlike-requires-clause-complete
find_unlike-requires-clause-complete g c = complete_at _ c.args.self.now c.args.level c.args.found.now.beside.items c.args.found.now.readers.items c.self.view_is c.self.invariant c.requires.found c.requires.few

pub lose-requires-clause-lives : goal.lose-requires-clause-lives
lose-requires-clause-lives g c = λ k i.
    lives_at _ c.args.self.now c.args.level c.args.found.now.beside.items c.args.found.now.readers.items c.in_ok-others.others.items c.deref.result.now c.self.view_is c.deref.ensures.value c.self.invariant c.requires.found c.in_ok-others.ensures.others k i

pub invariant_of-self : goal.invariant_of-self
invariant_of-self g c =
    after_failed _ c.lose.new.forest c.lose.new.self c.lose.new.dropped.items c.self.inside.seats c.self.inside.work.pending c.self.invariant (ap (λ (v : PassView). v.state) c.self.view_is ∙ c.requires.failed)
    c.lose.ensures.sound c.lose.ensures.only c.self.invariant.unmarked (λ k. refl) (λ k i. i)

pub asked-requires-clause-level : goal.asked-requires-clause-level
asked-requires-clause-level g c =
    together_at _ c.args.self.now c.args.level c.self.invariant c.args.found.now.beside.items c.args.found.now.readers.items c.in_ok-others.others.items c.target-system.result.now c.deref.result.now c.lose.new.forest c.lose.new.self c.lose.new.dropped.items (record {
      is = c.self.view_is;
      found = c.requires.found;
      others_are = c.in_ok-others.ensures.others;
      nodes_are = c.deref.ensures.value;
      system = c.target-system.ensures;
      loses = c.in_ok-lose.ensures.loses;
      only = c.lose.ensures.only;
      sound = c.lose.ensures.sound;
      changes = c.lose.ensures.changes;
      turned = c.lose.ensures.turned;
    }) c.deref-2.result.now c.deref-2.ensures.value c.requires.few

pub asked-requires-clause-room : goal.asked-requires-clause-room
asked-requires-clause-room g c = λ k m.
    seats_at _ c.args.self.now c.args.level c.self.invariant c.args.found.now.beside.items c.args.found.now.readers.items c.in_ok-others.others.items c.target-system.result.now c.deref.result.now c.lose.new.forest c.lose.new.self c.lose.new.dropped.items (record {
      is = c.self.view_is;
      found = c.requires.found;
      others_are = c.in_ok-others.ensures.others;
      nodes_are = c.deref.ensures.value;
      system = c.target-system.ensures;
      loses = c.in_ok-lose.ensures.loses;
      only = c.lose.ensures.only;
      sound = c.lose.ensures.sound;
      changes = c.lose.ensures.changes;
      turned = c.lose.ensures.turned;
    }) c.deref-2.result.now c.deref-2.ensures.value k m

pub invariant_of-self-in_err-pending : goal.invariant_of-self-in_err-pending
invariant_of-self-in_err-pending g c =
    after_failed _ c.lose.new.forest c.lose.new.self c.lose.new.dropped.items c.asked.new.seats c.self.inside.work.pending c.self.invariant (ap (λ (v : PassView). v.state) c.self.view_is ∙ c.requires.failed)
    c.lose.ensures.sound c.lose.ensures.only c.asked.ensures.clear c.asked.ensures.seats c.asked.ensures.keeps

pub invariant_of-self-in_err-set : goal.invariant_of-self-in_err-set
invariant_of-self-in_err-set g c =
    after_failed _ c.lose.new.forest c.lose.new.self c.lose.new.dropped.items c.asked.new.seats c.set.new.self c.self.invariant (ap (λ (v : PassView). v.state) c.self.view_is ∙ c.requires.failed)
    c.lose.ensures.sound c.lose.ensures.only c.asked.ensures.clear c.asked.ensures.seats c.asked.ensures.keeps

pub invariant_of-self-2 : goal.invariant_of-self-2
invariant_of-self-2 g c =
    after_failed _ c.lose.new.forest c.lose.new.self c.lose.new.dropped.items c.asked.new.seats c.set.new.self c.self.invariant (ap (λ (v : PassView). v.state) c.self.view_is ∙ c.requires.failed)
    c.lose.ensures.sound c.lose.ensures.only c.asked.ensures.clear c.asked.ensures.seats c.asked.ensures.keeps

pub returns-clause-rows : goal.returns-clause-rows
returns-clause-rows g c = λ u less.
    rows_at _ c.args.self.now c.args.level c.self.invariant c.args.found.now.beside.items c.args.found.now.readers.items c.in_ok-others.others.items c.target-system.result.now c.deref.result.now c.lose.new.forest c.lose.new.self c.lose.new.dropped.items (record {
      is = c.self.view_is;
      found = c.requires.found;
      others_are = c.in_ok-others.ensures.others;
      nodes_are = c.deref.ensures.value;
      system = c.target-system.ensures;
      loses = c.in_ok-lose.ensures.loses;
      only = c.lose.ensures.only;
      sound = c.lose.ensures.sound;
      changes = c.lose.ensures.changes;
      turned = c.lose.ensures.turned;
    })
    c.deref-2.result.now c.deref-2.ensures.value c.asked.new.seats c.asked.ensures.seats c.asked.ensures.keeps c.set.new.self u

pub returns-clause-goes : goal.returns-clause-goes
returns-clause-goes g c =
    goes_at _ c.args.self.now c.args.level c.self.invariant c.args.found.now.beside.items c.args.found.now.readers.items c.in_ok-others.others.items c.target-system.result.now c.deref.result.now c.lose.new.forest c.lose.new.self c.lose.new.dropped.items (record {
      is = c.self.view_is;
      found = c.requires.found;
      others_are = c.in_ok-others.ensures.others;
      nodes_are = c.deref.ensures.value;
      system = c.target-system.ensures;
      loses = c.in_ok-lose.ensures.loses;
      only = c.lose.ensures.only;
      sound = c.lose.ensures.sound;
      changes = c.lose.ensures.changes;
      turned = c.lose.ensures.turned;
    })
    c.deref-2.result.now c.deref-2.ensures.value c.asked.new.seats c.asked.ensures.seats c.asked.ensures.keeps c.set.new.self

pub returns-clause-asked : goal.returns-clause-asked
returns-clause-asked g c =
    asked_at _ c.args.self.now c.args.level c.self.invariant c.args.found.now.beside.items c.args.found.now.readers.items c.in_ok-others.others.items c.target-system.result.now c.deref.result.now c.lose.new.forest c.lose.new.self c.lose.new.dropped.items (record {
      is = c.self.view_is;
      found = c.requires.found;
      others_are = c.in_ok-others.ensures.others;
      nodes_are = c.deref.ensures.value;
      system = c.target-system.ensures;
      loses = c.in_ok-lose.ensures.loses;
      only = c.lose.ensures.only;
      sound = c.lose.ensures.sound;
      changes = c.lose.ensures.changes;
      turned = c.lose.ensures.turned;
    })
    c.deref-2.result.now c.deref-2.ensures.value c.asked.new.seats c.asked.ensures.seats c.asked.ensures.keeps c.set.new.self c.in_ok-pending.pending.items c.in_ok-set.ensures.ok
    c.in_ok-pending.ensures.are c.in_ok-pending.ensures.once c.in_ok-pending.ensures.order c.requires.below c.requires.few
