use Rattle.std.proofs.Common.{◌≡◌, sym, ap, ◌∙◌, subst, arith}
use Rattle.lsys_module.specs.Views.{string_of}
use Rattle.lsys_reading.specs.Commands.{numbering_of}
use Rattle.lsys_match.specs.Kept.{Kept}
use Rattle.lsys_forest.specs.Nodes.{Nodes}
use Rattle.lsys_forest.specs.Answers.{answers}
use Rattle.lsys_forest.specs.Groves.{now_of}
use Rattle.lsys_forest.specs.Rows.{kids_in}
use Rattle.lsys_children.specs.Children.{ToldNodes}
use Rattle.lsys_children.specs.Nexts.{wanted_count}
use Rattle.lsys_children.specs.Needs.{need_for}
use Rattle.lsys_children.specs.Renewals.{AreSmall, AreAllUnder}
use Rattle.lsys_pass.proofs.Beginnings.{makes_first, room_same, few_live}
use Rattle.lsys_pass.proofs.beginning.make_counted.Goals as goal

pub make_first-requires-clause-small : goal.make_first-requires-clause-small
make_first-requires-clause-small g c = subst (λ (m : Nodes Kept). AreSmall m) (sym c.reserve_for.ensures.nodes.now) c.requires.small

pub make_first-requires-clause-under : goal.make_first-requires-clause-under
make_first-requires-clause-under g c =
    let e = c.reserve_for.ensures.nodes in
    subst (λ r. AreAllUnder (now_of c.reserve_for.new.forest) r r) (sym e.root) (subst (λ (m : Nodes Kept). AreAllUnder m c.args.forest.now.root c.args.forest.now.root) (sym e.now) c.requires.under)

pub make_first-requires-clause-room : goal.make_first-requires-clause-room
make_first-requires-clause-room g c =
    let e = c.reserve_for.ensures.nodes in
    let f = c.args.forest.now in
    let f' = c.reserve_for.new.forest in
    room_same (numbering_of c.lineage-numbering.result) (string_of c.symbols-axiom.result.now) (now_of f) (now_of f') f.root f'.root f' c.reserve_for.new.told c.args.need.now e.now e.root
    (c.requires.need ∙ (λ i. need_for (sym c.lineage-numbering.ensures i) (now_of f) (kids_in (now_of f f.root)) (sym (ap string_of c.symbols-axiom.ensures.symbols ∙ c.axiom.ensures.symbols) i))) c.in_ok-reserve_for.ensures.room

pub returns-clause-made : goal.returns-clause-made
returns-clause-made g c = λ limit fits.
    let e = c.reserve_for.ensures.nodes in
    let s = c.args.system.now in
    makes_first s limit (now_of c.args.forest.now) (now_of c.make_first.new.forest) c.args.forest.now.root
    (record {
      numbering = numbering_of c.lineage-numbering.result;
      seed = c.seed-seed.result;
      wanted = string_of c.symbols-axiom.result.now;
      old = now_of c.reserve_for.new.forest;
      root = c.reserve_for.new.forest.root;
    })
    c.reserve_for.new.told c.make_first.new.changes c.reserve_for.new.told.room
    (λ i. record {
      numbering = c.lineage-numbering.ensures i;
      seed = c.seed-seed.ensures i;
      wanted = (ap string_of c.symbols-axiom.ensures.symbols ∙ c.axiom.ensures.symbols) i;
      old = e.now i;
      root = e.root i;
    })
    (c.reserve_for.ensures.told ∙ ap (λ (t : ToldNodes). record t { room = c.reserve_for.new.told.room }) c.new-told.ensures)
    (record { children = c.in_ok-make_first.ensures.children; tells = c.in_ok-make_first.ensures.told; gone = c.in_ok-make_first.ensures.gone; within = (let same : wanted_count (numbering_of c.lineage-numbering.result) (string_of c.symbols-axiom.result.now) ≡ wanted_count s.numbering s.axiom_string = (λ i. wanted_count (c.lineage-numbering.ensures i) ((ap string_of c.symbols-axiom.ensures.symbols ∙ c.axiom.ensures.symbols) i)) in omega (arith, same, fits)) })
    c.axiom.ensures.well.1

pub returns-clause-few : goal.returns-clause-few
returns-clause-few g c =
    let e = c.reserve_for.ensures.nodes in
    let f = c.args.forest.now in
    let f' = c.reserve_for.new.forest in
    few_live (numbering_of c.lineage-numbering.result) (string_of c.symbols-axiom.result.now) (now_of f) (now_of f') f.root f'.root f' c.make_first.new.forest c.args.need.now e.now e.root
    (c.requires.need ∙ (λ i. need_for (sym c.lineage-numbering.ensures i) (now_of f) (kids_in (now_of f f.root)) (sym (ap string_of c.symbols-axiom.ensures.symbols ∙ c.axiom.ensures.symbols) i))) c.in_ok-make_first.ensures.spends c.in_ok-reserve_for.ensures.few

pub returns-clause-kept : goal.returns-clause-kept
returns-clause-kept g c = let e = c.reserve_for.ensures.nodes in c.make_first.ensures.kept ∙ (λ i. answers (e.now i) (e.changes i))
