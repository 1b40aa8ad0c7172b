use Rattle.std.proofs.Common.{◌≡◌, Some, sym, ap, ◌∙◌}
use Rattle.std.specs.Prelude.{option_map}
use Rattle.lsys_forest.specs.Groves.{now_of}
use Rattle.lsys_reads.specs.Levels.{answer_at}
use Rattle.lsys_pass.specs.Read.{entries_tags}
use Rattle.lsys_pass.specs.Listings.{tags_if_any, tags_read_at}
use Rattle.lsys_pass.proofs.Reading.{trace_tags, adds_tags}
use Rattle.lsys_pass.proofs.listing.list_one.Goals as goal

pub trace-requires : goal.trace-requires
trace-requires g c =
    let here : answer_at (now_of c.args.forest.now) c.args.node ≡ Some c.in-Some.answer.now = sym c.answer_of.ensures ∙ ap (option_map (λ a. a.now)) c.in-Some.is in
    c.requires.answers c.args.node c.in-Some.answer.now here

pub returns-in-Some-clause-ok : goal.returns-in-Some-clause-ok
returns-in-Some-clause-ok g c =
    let here : answer_at (now_of c.args.forest.now) c.args.node ≡ Some c.in-Some.answer.now = sym c.answer_of.ensures ∙ ap (option_map (λ a. a.now)) c.in-Some.is in
    adds_tags c.add_reads.result c.args.reads.now c.add_reads.new.reads c.node.inside.0 c.args.node (entries_tags c.trace.result.now)
    (tags_read_at (now_of c.args.forest.now) c.args.store.now c.args.node) c.node.view_is c.add_reads.ensures.ok
    (ap (tags_if_any c.args.store.now) here ∙ trace_tags c.args.store.now c.in-Some.answer.now c.trace.result.now c.trace.ensures)
