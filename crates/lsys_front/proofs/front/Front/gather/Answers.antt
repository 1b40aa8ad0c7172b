use Rattle.std.proofs.Common.{◌≡◌, ap, ◌∙◌, subst, inl, inr}
use Rattle.lsys_spec.specs.Rows.{In}
use Rattle.lsys_front.specs.declared.front.Front.TheInside.{Inside}
use Rattle.lsys_front.specs.Fronts.{Differences}
use Rattle.lsys_front.proofs.Called.{with_others, with_beside, with_readers, with_turned, with_came, all_called}
use Rattle.lsys_front.proofs.front.Front.gather.Goals as goal

pub gather_nodes-requires : goal.gather_nodes-requires
gather_nodes-requires c = record { room = λ k i. c.requires.room k (inl i) }

pub returns-in_err-gather_nodes-clause-gathers : goal.returns-in_err-gather_nodes-clause-gathers
returns-in_err-gather_nodes-clause-gathers c =
    let d = c.args.self.now in
    let beside = c.args.found.now.beside.items in
    let readers = c.args.found.now.readers.items in
    let others = c.args.others.now in
    with_others d beside readers others c.args.seats.now c.gather_nodes.new.seats c.args.nodes.now.items c.gather_nodes.new.nodes.items c.gather_nodes.ensures.gathers

pub gather_nodes-requires-2 : goal.gather_nodes-requires-2
gather_nodes-requires-2 c =
    record { room = λ k i. c.gather_nodes.ensures.gathers.keeps k (c.requires.room k (inr (inr (inr (inl (subst (In k) c.deref.ensures.value i)))))) }

pub returns-in_err-gather_nodes-2-clause-gathers : goal.returns-in_err-gather_nodes-2-clause-gathers
returns-in_err-gather_nodes-2-clause-gathers c =
    let d = c.args.self.now in
    let beside = c.args.found.now.beside.items in
    let readers = c.args.found.now.readers.items in
    let others = c.args.others.now in
    let first = with_others d beside readers others c.args.seats.now c.gather_nodes.new.seats c.args.nodes.now.items c.gather_nodes.new.nodes.items c.gather_nodes.ensures.gathers in
    with_beside d beside readers others c.args.seats.now c.gather_nodes.new.seats c.gather_nodes-2.new.seats c.args.nodes.now.items c.gather_nodes.new.nodes.items c.gather_nodes-2.new.nodes.items c.deref.result.now first c.gather_nodes-2.ensures.gathers c.deref.ensures.value

pub gather_nodes-requires-3 : goal.gather_nodes-requires-3
gather_nodes-requires-3 c =
    record { room = λ k i. c.gather_nodes-2.ensures.gathers.keeps k (c.gather_nodes.ensures.gathers.keeps k (c.requires.room k (inr (inr (inr (inr (subst (In k) c.deref-2.ensures.value i))))))) }

pub returns-in_err-gather_nodes-3-clause-gathers : goal.returns-in_err-gather_nodes-3-clause-gathers
returns-in_err-gather_nodes-3-clause-gathers c =
    let d = c.args.self.now in
    let beside = c.args.found.now.beside.items in
    let readers = c.args.found.now.readers.items in
    let others = c.args.others.now in
    let first = with_others d beside readers others c.args.seats.now c.gather_nodes.new.seats c.args.nodes.now.items c.gather_nodes.new.nodes.items c.gather_nodes.ensures.gathers in
    let second = with_beside d beside readers others c.args.seats.now c.gather_nodes.new.seats c.gather_nodes-2.new.seats c.args.nodes.now.items c.gather_nodes.new.nodes.items c.gather_nodes-2.new.nodes.items c.deref.result.now first c.gather_nodes-2.ensures.gathers c.deref.ensures.value in
    with_readers d beside readers others c.args.seats.now c.gather_nodes-2.new.seats c.gather_nodes-3.new.seats c.args.nodes.now.items c.gather_nodes-2.new.nodes.items c.gather_nodes-3.new.nodes.items c.deref-2.result.now second c.gather_nodes-3.ensures.gathers c.deref-2.ensures.value

pub gather_nodes-requires-4 : goal.gather_nodes-requires-4
gather_nodes-requires-4 c =
    let turned : c.deref-3.result.now ≡ c.args.self.now.turned = c.deref-3.ensures.value ∙ ap (λ (x : Inside). x.turned.items) c.self-inside.view_is ∙ ap (λ (d : Differences). d.turned) c.self.view_is in
    record { room = λ k i. c.gather_nodes-3.ensures.gathers.keeps k (c.gather_nodes-2.ensures.gathers.keeps k (c.gather_nodes.ensures.gathers.keeps k (c.requires.room k (inr (inr (inl (subst (In k) turned i))))))) }

pub returns-in_err-gather_nodes-4-clause-gathers : goal.returns-in_err-gather_nodes-4-clause-gathers
returns-in_err-gather_nodes-4-clause-gathers c =
    let d = c.args.self.now in
    let beside = c.args.found.now.beside.items in
    let readers = c.args.found.now.readers.items in
    let others = c.args.others.now in
    let turned : c.deref-3.result.now ≡ c.args.self.now.turned = c.deref-3.ensures.value ∙ ap (λ (x : Inside). x.turned.items) c.self-inside.view_is ∙ ap (λ (d : Differences). d.turned) c.self.view_is in
    let first = with_others d beside readers others c.args.seats.now c.gather_nodes.new.seats c.args.nodes.now.items c.gather_nodes.new.nodes.items c.gather_nodes.ensures.gathers in
    let second = with_beside d beside readers others c.args.seats.now c.gather_nodes.new.seats c.gather_nodes-2.new.seats c.args.nodes.now.items c.gather_nodes.new.nodes.items c.gather_nodes-2.new.nodes.items c.deref.result.now first c.gather_nodes-2.ensures.gathers c.deref.ensures.value in
    let third = with_readers d beside readers others c.args.seats.now c.gather_nodes-2.new.seats c.gather_nodes-3.new.seats c.args.nodes.now.items c.gather_nodes-2.new.nodes.items c.gather_nodes-3.new.nodes.items c.deref-2.result.now second c.gather_nodes-3.ensures.gathers c.deref-2.ensures.value in
    with_turned d beside readers others c.args.seats.now c.gather_nodes-3.new.seats c.gather_nodes-4.new.seats c.args.nodes.now.items c.gather_nodes-3.new.nodes.items c.gather_nodes-4.new.nodes.items c.deref-3.result.now third c.gather_nodes-4.ensures.gathers turned

pub gather_nodes-requires-5 : goal.gather_nodes-requires-5
gather_nodes-requires-5 c =
    let came : c.deref-4.result.now ≡ c.args.self.now.changes.came = c.deref-4.ensures.value ∙ ap (λ (x : Inside). x.changes.came) c.self-inside.view_is ∙ ap (λ (d : Differences). d.changes.came) c.self.view_is in
    record { room = λ k i. c.gather_nodes-4.ensures.gathers.keeps k (c.gather_nodes-3.ensures.gathers.keeps k (c.gather_nodes-2.ensures.gathers.keeps k (c.gather_nodes.ensures.gathers.keeps k (c.requires.room k (inr (inl (subst (In k) came i))))))) }

pub returns-in_err-gather_nodes-5-clause-gathers : goal.returns-in_err-gather_nodes-5-clause-gathers
returns-in_err-gather_nodes-5-clause-gathers c =
    let d = c.args.self.now in
    let beside = c.args.found.now.beside.items in
    let readers = c.args.found.now.readers.items in
    let others = c.args.others.now in
    let turned : c.deref-3.result.now ≡ c.args.self.now.turned = c.deref-3.ensures.value ∙ ap (λ (x : Inside). x.turned.items) c.self-inside.view_is ∙ ap (λ (d : Differences). d.turned) c.self.view_is in
    let came : c.deref-4.result.now ≡ c.args.self.now.changes.came = c.deref-4.ensures.value ∙ ap (λ (x : Inside). x.changes.came) c.self-inside.view_is ∙ ap (λ (d : Differences). d.changes.came) c.self.view_is in
    let first = with_others d beside readers others c.args.seats.now c.gather_nodes.new.seats c.args.nodes.now.items c.gather_nodes.new.nodes.items c.gather_nodes.ensures.gathers in
    let second = with_beside d beside readers others c.args.seats.now c.gather_nodes.new.seats c.gather_nodes-2.new.seats c.args.nodes.now.items c.gather_nodes.new.nodes.items c.gather_nodes-2.new.nodes.items c.deref.result.now first c.gather_nodes-2.ensures.gathers c.deref.ensures.value in
    let third = with_readers d beside readers others c.args.seats.now c.gather_nodes-2.new.seats c.gather_nodes-3.new.seats c.args.nodes.now.items c.gather_nodes-2.new.nodes.items c.gather_nodes-3.new.nodes.items c.deref-2.result.now second c.gather_nodes-3.ensures.gathers c.deref-2.ensures.value in
    let fourth = with_turned d beside readers others c.args.seats.now c.gather_nodes-3.new.seats c.gather_nodes-4.new.seats c.args.nodes.now.items c.gather_nodes-3.new.nodes.items c.gather_nodes-4.new.nodes.items c.deref-3.result.now third c.gather_nodes-4.ensures.gathers turned in
    with_came d beside readers others c.args.seats.now c.gather_nodes-4.new.seats c.gather_nodes-5.new.seats c.args.nodes.now.items c.gather_nodes-4.new.nodes.items c.gather_nodes-5.new.nodes.items c.deref-4.result.now fourth c.gather_nodes-5.ensures.gathers came

pub returns-clause-gathers : goal.returns-clause-gathers
returns-clause-gathers c =
    let d = c.args.self.now in
    let beside = c.args.found.now.beside.items in
    let readers = c.args.found.now.readers.items in
    let others = c.args.others.now in
    let turned : c.deref-3.result.now ≡ c.args.self.now.turned = c.deref-3.ensures.value ∙ ap (λ (x : Inside). x.turned.items) c.self-inside.view_is ∙ ap (λ (d : Differences). d.turned) c.self.view_is in
    let came : c.deref-4.result.now ≡ c.args.self.now.changes.came = c.deref-4.ensures.value ∙ ap (λ (x : Inside). x.changes.came) c.self-inside.view_is ∙ ap (λ (d : Differences). d.changes.came) c.self.view_is in
    let first = with_others d beside readers others c.args.seats.now c.gather_nodes.new.seats c.args.nodes.now.items c.gather_nodes.new.nodes.items c.gather_nodes.ensures.gathers in
    let second = with_beside d beside readers others c.args.seats.now c.gather_nodes.new.seats c.gather_nodes-2.new.seats c.args.nodes.now.items c.gather_nodes.new.nodes.items c.gather_nodes-2.new.nodes.items c.deref.result.now first c.gather_nodes-2.ensures.gathers c.deref.ensures.value in
    let third = with_readers d beside readers others c.args.seats.now c.gather_nodes-2.new.seats c.gather_nodes-3.new.seats c.args.nodes.now.items c.gather_nodes-2.new.nodes.items c.gather_nodes-3.new.nodes.items c.deref-2.result.now second c.gather_nodes-3.ensures.gathers c.deref-2.ensures.value in
    let fourth = with_turned d beside readers others c.args.seats.now c.gather_nodes-3.new.seats c.gather_nodes-4.new.seats c.args.nodes.now.items c.gather_nodes-3.new.nodes.items c.gather_nodes-4.new.nodes.items c.deref-3.result.now third c.gather_nodes-4.ensures.gathers turned in
    with_came d beside readers others c.args.seats.now c.gather_nodes-4.new.seats c.gather_nodes-5.new.seats c.args.nodes.now.items c.gather_nodes-4.new.nodes.items c.gather_nodes-5.new.nodes.items c.deref-4.result.now fourth c.gather_nodes-5.ensures.gathers came

pub returns-clause-all : goal.returns-clause-all
returns-clause-all c =
    let turned : c.deref-3.result.now ≡ c.args.self.now.turned = c.deref-3.ensures.value ∙ ap (λ (x : Inside). x.turned.items) c.self-inside.view_is ∙ ap (λ (d : Differences). d.turned) c.self.view_is in
    let came : c.deref-4.result.now ≡ c.args.self.now.changes.came = c.deref-4.ensures.value ∙ ap (λ (x : Inside). x.changes.came) c.self-inside.view_is ∙ ap (λ (d : Differences). d.changes.came) c.self.view_is in
    all_called c.args.self.now c.args.found.now.beside.items c.args.found.now.readers.items c.args.others.now
    c.gather_nodes.new.seats c.gather_nodes-2.new.seats c.gather_nodes-3.new.seats c.gather_nodes-4.new.seats c.gather_nodes-5.new.seats
    c.gather_nodes.new.nodes.items c.gather_nodes-2.new.nodes.items c.gather_nodes-3.new.nodes.items c.gather_nodes-4.new.nodes.items c.gather_nodes-5.new.nodes.items
    c.deref-4.result.now c.deref-3.result.now c.deref.result.now c.deref-2.result.now came turned c.deref.ensures.value c.deref-2.ensures.value
    c.gather_nodes-2.ensures.gathers c.gather_nodes-3.ensures.gathers c.gather_nodes-4.ensures.gathers c.gather_nodes-5.ensures.gathers
    c.in_ok-gather_nodes.ensures.all c.in_ok-gather_nodes-2.ensures.all c.in_ok-gather_nodes-3.ensures.all c.in_ok-gather_nodes-4.ensures.all c.in_ok-gather_nodes-5.ensures.all
