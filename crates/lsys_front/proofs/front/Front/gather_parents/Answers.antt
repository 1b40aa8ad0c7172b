use Rattle.std.proofs.Common.{◌≡◌, ap, ◌∙◌, subst, inl, inr}
use Rattle.lsys_spec.specs.Rows.{In}
use Rattle.lsys_front.specs.declared.front.Front.TheInside.{Inside}
use Rattle.lsys_front.specs.Fronts.{Differences}
use Rattle.lsys_front.proofs.Gathered.{with_renewed, with_came, with_changed, with_bare, all_marked}
use Rattle.lsys_front.proofs.front.Front.gather_parents.Goals as goal

pub gather_tags-requires : goal.gather_tags-requires
gather_tags-requires c = record { room = λ k i. c.requires.room k (inl i) }

pub returns-in_err-gather_tags-clause-gathers : goal.returns-in_err-gather_tags-clause-gathers
returns-in_err-gather_tags-clause-gathers c = with_renewed c.args.self.now c.args.renewed.now c.args.seats.now c.gather_tags.new.seats c.args.nodes.now.items c.gather_tags.new.nodes.items c.gather_tags.ensures.gathers

pub gather_nodes-requires : goal.gather_nodes-requires
gather_nodes-requires c =
    let came : c.deref.result.now ≡ c.args.self.now.changes.came = c.deref.ensures.value ∙ ap (λ (x : Inside). x.changes.came) c.self-inside.view_is ∙ ap (λ (d : Differences). d.changes.came) c.self.view_is in
    record { room = λ k i. c.gather_tags.ensures.gathers.keeps k (c.requires.room k (inr (inl (subst (In k) came i)))) }

pub returns-in_err-gather_nodes-clause-gathers : goal.returns-in_err-gather_nodes-clause-gathers
returns-in_err-gather_nodes-clause-gathers c =
    let d = c.args.self.now in
    let renewed = c.args.renewed.now in
    let came : c.deref.result.now ≡ c.args.self.now.changes.came = c.deref.ensures.value ∙ ap (λ (x : Inside). x.changes.came) c.self-inside.view_is ∙ ap (λ (d : Differences). d.changes.came) c.self.view_is in
    let first = with_renewed d renewed c.args.seats.now c.gather_tags.new.seats c.args.nodes.now.items c.gather_tags.new.nodes.items c.gather_tags.ensures.gathers in
    with_came d renewed c.args.seats.now c.gather_tags.new.seats c.gather_nodes.new.seats c.args.nodes.now.items c.gather_tags.new.nodes.items c.gather_nodes.new.nodes.items c.deref.result.now first c.gather_nodes.ensures.gathers came

pub gather_nodes-requires-2 : goal.gather_nodes-requires-2
gather_nodes-requires-2 c =
    let changed : c.deref-2.result.now ≡ c.args.self.now.changes.changed = c.deref-2.ensures.value ∙ ap (λ (x : Inside). x.changes.changed) c.self-inside.view_is ∙ ap (λ (d : Differences). d.changes.changed) c.self.view_is in
    record { room = λ k i. c.gather_nodes.ensures.gathers.keeps k (c.gather_tags.ensures.gathers.keeps k (c.requires.room k (inr (inr (inl (subst (In k) changed i)))))) }

pub returns-in_err-gather_nodes-2-clause-gathers : goal.returns-in_err-gather_nodes-2-clause-gathers
returns-in_err-gather_nodes-2-clause-gathers c =
    let d = c.args.self.now in
    let renewed = c.args.renewed.now in
    let came : c.deref.result.now ≡ c.args.self.now.changes.came = c.deref.ensures.value ∙ ap (λ (x : Inside). x.changes.came) c.self-inside.view_is ∙ ap (λ (d : Differences). d.changes.came) c.self.view_is in
    let changed : c.deref-2.result.now ≡ c.args.self.now.changes.changed = c.deref-2.ensures.value ∙ ap (λ (x : Inside). x.changes.changed) c.self-inside.view_is ∙ ap (λ (d : Differences). d.changes.changed) c.self.view_is in
    let first = with_renewed d renewed c.args.seats.now c.gather_tags.new.seats c.args.nodes.now.items c.gather_tags.new.nodes.items c.gather_tags.ensures.gathers in
    let second = with_came d renewed c.args.seats.now c.gather_tags.new.seats c.gather_nodes.new.seats c.args.nodes.now.items c.gather_tags.new.nodes.items c.gather_nodes.new.nodes.items c.deref.result.now first c.gather_nodes.ensures.gathers came in
    with_changed d renewed c.args.seats.now c.gather_nodes.new.seats c.gather_nodes-2.new.seats c.args.nodes.now.items c.gather_nodes.new.nodes.items c.gather_nodes-2.new.nodes.items c.deref-2.result.now second c.gather_nodes-2.ensures.gathers changed

pub gather_nodes-requires-3 : goal.gather_nodes-requires-3
gather_nodes-requires-3 c =
    let bare : c.deref-3.result.now ≡ c.args.self.now.bare = c.deref-3.ensures.value ∙ ap (λ (x : Inside). x.bare.items) c.self-inside.view_is ∙ ap (λ (d : Differences). d.bare) c.self.view_is in
    record { room = λ k i. c.gather_nodes-2.ensures.gathers.keeps k (c.gather_nodes.ensures.gathers.keeps k (c.gather_tags.ensures.gathers.keeps k (c.requires.room k (inr (inr (inr (subst (In k) bare i))))))) }

pub returns-in_err-gather_nodes-3-clause-gathers : goal.returns-in_err-gather_nodes-3-clause-gathers
returns-in_err-gather_nodes-3-clause-gathers c =
    let d = c.args.self.now in
    let renewed = c.args.renewed.now in
    let came : c.deref.result.now ≡ c.args.self.now.changes.came = c.deref.ensures.value ∙ ap (λ (x : Inside). x.changes.came) c.self-inside.view_is ∙ ap (λ (d : Differences). d.changes.came) c.self.view_is in
    let changed : c.deref-2.result.now ≡ c.args.self.now.changes.changed = c.deref-2.ensures.value ∙ ap (λ (x : Inside). x.changes.changed) c.self-inside.view_is ∙ ap (λ (d : Differences). d.changes.changed) c.self.view_is in
    let bare : c.deref-3.result.now ≡ c.args.self.now.bare = c.deref-3.ensures.value ∙ ap (λ (x : Inside). x.bare.items) c.self-inside.view_is ∙ ap (λ (d : Differences). d.bare) c.self.view_is in
    let first = with_renewed d renewed c.args.seats.now c.gather_tags.new.seats c.args.nodes.now.items c.gather_tags.new.nodes.items c.gather_tags.ensures.gathers in
    let second = with_came d renewed c.args.seats.now c.gather_tags.new.seats c.gather_nodes.new.seats c.args.nodes.now.items c.gather_tags.new.nodes.items c.gather_nodes.new.nodes.items c.deref.result.now first c.gather_nodes.ensures.gathers came in
    let third = with_changed d renewed c.args.seats.now c.gather_nodes.new.seats c.gather_nodes-2.new.seats c.args.nodes.now.items c.gather_nodes.new.nodes.items c.gather_nodes-2.new.nodes.items c.deref-2.result.now second c.gather_nodes-2.ensures.gathers changed in
    with_bare d renewed c.args.seats.now c.gather_nodes-2.new.seats c.gather_nodes-3.new.seats c.args.nodes.now.items c.gather_nodes-2.new.nodes.items c.gather_nodes-3.new.nodes.items c.deref-3.result.now third c.gather_nodes-3.ensures.gathers bare

pub returns-clause-gathers : goal.returns-clause-gathers
returns-clause-gathers c =
    let d = c.args.self.now in
    let renewed = c.args.renewed.now in
    let came : c.deref.result.now ≡ c.args.self.now.changes.came = c.deref.ensures.value ∙ ap (λ (x : Inside). x.changes.came) c.self-inside.view_is ∙ ap (λ (d : Differences). d.changes.came) c.self.view_is in
    let changed : c.deref-2.result.now ≡ c.args.self.now.changes.changed = c.deref-2.ensures.value ∙ ap (λ (x : Inside). x.changes.changed) c.self-inside.view_is ∙ ap (λ (d : Differences). d.changes.changed) c.self.view_is in
    let bare : c.deref-3.result.now ≡ c.args.self.now.bare = c.deref-3.ensures.value ∙ ap (λ (x : Inside). x.bare.items) c.self-inside.view_is ∙ ap (λ (d : Differences). d.bare) c.self.view_is in
    let first = with_renewed d renewed c.args.seats.now c.gather_tags.new.seats c.args.nodes.now.items c.gather_tags.new.nodes.items c.gather_tags.ensures.gathers in
    let second = with_came d renewed c.args.seats.now c.gather_tags.new.seats c.gather_nodes.new.seats c.args.nodes.now.items c.gather_tags.new.nodes.items c.gather_nodes.new.nodes.items c.deref.result.now first c.gather_nodes.ensures.gathers came in
    let third = with_changed d renewed c.args.seats.now c.gather_nodes.new.seats c.gather_nodes-2.new.seats c.args.nodes.now.items c.gather_nodes.new.nodes.items c.gather_nodes-2.new.nodes.items c.deref-2.result.now second c.gather_nodes-2.ensures.gathers changed in
    with_bare d renewed c.args.seats.now c.gather_nodes-2.new.seats c.gather_nodes-3.new.seats c.args.nodes.now.items c.gather_nodes-2.new.nodes.items c.gather_nodes-3.new.nodes.items c.deref-3.result.now third c.gather_nodes-3.ensures.gathers bare

pub returns-clause-all : goal.returns-clause-all
returns-clause-all c =
    let came : c.deref.result.now ≡ c.args.self.now.changes.came = c.deref.ensures.value ∙ ap (λ (x : Inside). x.changes.came) c.self-inside.view_is ∙ ap (λ (d : Differences). d.changes.came) c.self.view_is in
    let changed : c.deref-2.result.now ≡ c.args.self.now.changes.changed = c.deref-2.ensures.value ∙ ap (λ (x : Inside). x.changes.changed) c.self-inside.view_is ∙ ap (λ (d : Differences). d.changes.changed) c.self.view_is in
    let bare : c.deref-3.result.now ≡ c.args.self.now.bare = c.deref-3.ensures.value ∙ ap (λ (x : Inside). x.bare.items) c.self-inside.view_is ∙ ap (λ (d : Differences). d.bare) c.self.view_is in
    all_marked c.args.self.now c.args.renewed.now c.gather_tags.new.seats c.gather_nodes.new.seats c.gather_nodes-2.new.seats c.gather_nodes-3.new.seats c.gather_tags.new.nodes.items c.gather_nodes.new.nodes.items c.gather_nodes-2.new.nodes.items c.gather_nodes-3.new.nodes.items c.deref.result.now c.deref-2.result.now c.deref-3.result.now came changed bare
    c.gather_nodes.ensures.gathers c.gather_nodes-2.ensures.gathers c.gather_nodes-3.ensures.gathers c.in_ok-gather_tags.ensures.all c.in_ok-gather_nodes.ensures.all c.in_ok-gather_nodes-2.ensures.all c.in_ok-gather_nodes-3.ensures.all
