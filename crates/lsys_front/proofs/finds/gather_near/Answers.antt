use Rattle.std.proofs.Common.{◌≡◌, Some, refl, sym, ap, ◌∙◌, inl, inr}
use Rattle.lsys_reads.specs.Seats.{is_marked}
use Rattle.lsys_front.specs.Finds.{IsAtOrBeside}
use Rattle.lsys_front.proofs.Gathering.{gathers_kind, gathers_next, still_marked, all_near}
use Rattle.lsys_front.proofs.finds.gather_near.Goals as goal

pub gather_any-requires : goal.gather_any-requires
gather_any-requires g c = λ k e. c.requires.room k (inr (inl (sym c.left_of.ensures ∙ e)))

pub returns-in_err-gather_any-clause-gathers : goal.returns-in_err-gather_any-clause-gathers
returns-in_err-gather_any-clause-gathers g c =
    gathers_kind (λ k. c.left_of.result ≡ Some k) (IsAtOrBeside c.args.forest.now c.args.node) c.args.seats.now c.gather_any.new.seats c.args.beside.now.items c.gather_any.new.nodes.items (λ k e. inr (inl (sym c.left_of.ensures ∙ e))) c.gather_any.ensures.gathers

pub gather-requires : goal.gather-requires
gather-requires g c = c.gather_any.ensures.gathers.keeps c.args.node (c.requires.room c.args.node (inl refl))

pub returns-in_err-gather-clause-gathers : goal.returns-in_err-gather-clause-gathers
returns-in_err-gather-clause-gathers g c =
    let f = c.args.forest.now in
    let node = c.args.node in
    let first = gathers_kind (λ k. c.left_of.result ≡ Some k) (IsAtOrBeside f node) c.args.seats.now c.gather_any.new.seats c.args.beside.now.items c.gather_any.new.nodes.items (λ k e. inr (inl (sym c.left_of.ensures ∙ e))) c.gather_any.ensures.gathers in
    gathers_next (IsAtOrBeside f node) (λ k. k ≡ node) c.args.seats.now c.gather_any.new.seats c.gather.new.seats c.args.beside.now.items c.gather_any.new.nodes.items c.gather.new.nodes.items (λ k e. inl e) first c.gather.ensures.gathers

pub gather_any-requires-2 : goal.gather_any-requires-2
gather_any-requires-2 g c = λ k e. c.gather.ensures.gathers.keeps k (c.gather_any.ensures.gathers.keeps k (c.requires.room k (inr (inr (sym c.right_of.ensures ∙ e)))))

pub returns-in_err-gather_any-2-clause-gathers : goal.returns-in_err-gather_any-2-clause-gathers
returns-in_err-gather_any-2-clause-gathers g c = all_near c.args.forest.now c.args.node c.args.seats.now c.gather_any.new.seats c.gather.new.seats c.gather_any-2.new.seats c.args.beside.now.items c.gather_any.new.nodes.items c.gather.new.nodes.items c.gather_any-2.new.nodes.items
    c.left_of.result c.right_of.result c.left_of.ensures c.right_of.ensures c.gather_any.ensures.gathers c.gather.ensures.gathers c.gather_any-2.ensures.gathers

pub returns-clause-gathers : goal.returns-clause-gathers
returns-clause-gathers g c =
    all_near c.args.forest.now c.args.node c.args.seats.now c.gather_any.new.seats c.gather.new.seats c.gather_any-2.new.seats c.args.beside.now.items c.gather_any.new.nodes.items c.gather.new.nodes.items c.gather_any-2.new.nodes.items
    c.left_of.result c.right_of.result c.left_of.ensures c.right_of.ensures c.gather_any.ensures.gathers c.gather.ensures.gathers c.gather_any-2.ensures.gathers

pub returns-clause-all : goal.returns-clause-all
returns-clause-all g c = λ k near.
    let second = still_marked (λ k. k ≡ c.args.node) c.gather_any.new.seats c.gather.new.seats c.gather_any.new.nodes.items c.gather.new.nodes.items c.gather.ensures.gathers in
    let third = still_marked (λ k. c.right_of.result ≡ Some k) c.gather.new.seats c.gather_any-2.new.seats c.gather.new.nodes.items c.gather_any-2.new.nodes.items c.gather_any-2.ensures.gathers in
    elim near [
      | inl e ↦ ap (is_marked c.gather_any-2.new.seats) e ∙ third c.args.node c.in_ok-gather.ensures.marked
      | inr other ↦ elim other [
        | inl l ↦ third k (second k (c.in_ok-gather_any.ensures.marked k (c.left_of.ensures ∙ l)))
        | inr r ↦ c.in_ok-gather_any-2.ensures.marked k (c.right_of.ensures ∙ r)
      ]
    ]
