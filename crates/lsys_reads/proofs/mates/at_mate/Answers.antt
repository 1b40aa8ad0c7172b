use Rattle.std.proofs.Common.{Some, ap, ◌∙◌, inl, inr}
use Rattle.lsys_level.specs.Views.{seen_of}
use Rattle.lsys_module.specs.Views.{module_name}
use Rattle.lsys_reads.proofs.AddedLemmas.{mate_on_level}
use Rattle.lsys_reads.proofs.MateLemmas.{mate_lives, at_push, at_pop, at_module, on_ok}
use Rattle.lsys_reads.proofs.mates.at_mate.Goals as goal

pub add_children-requires : goal.add_children-requires
add_children-requires g c = mate_lives c.args.forest.now c.args.node c.mate.result c.requires.sound c.requires.level c.mate.ensures.level c.mate.ensures.mate

pub returns-in-Push-clause-looks : goal.returns-in-Push-clause-looks
returns-in-Push-clause-looks g c = elim c.in-Push.is [
  | inl e ↦ on_ok c.add_children.result (at_push c.args.forest.now c.args.node c.mate.result c.add_children.new.looked.items c.requires.level (c.sight.ensures.seen ∙ ap (λ s. Some (seen_of s)) e) c.mate.ensures.level c.mate.ensures.mate) c.add_children.ensures.added
  | inr e ↦ on_ok c.add_children.result (at_pop c.args.forest.now c.args.node c.mate.result c.add_children.new.looked.items c.requires.level (c.sight.ensures.seen ∙ ap (λ s. Some (seen_of s)) e) c.mate.ensures.level c.mate.ensures.mate) c.add_children.ensures.added
]

pub returns-in-Module-clause-looks : goal.returns-in-Module-clause-looks
returns-in-Module-clause-looks g c =
    at_module c.args.forest.now c.args.node (record { name = module_name c.in-Module.name; params = c.in-Module.params.now }) c.args.looked.now.items c.requires.level
    (c.sight.ensures.seen ∙ ap (λ s. Some (seen_of s)) c.in-Module.is)

pub returns-in-Push-clause-below : goal.returns-in-Push-clause-below
returns-in-Push-clause-below g c = on_ok c.add_children.result (λ below t on. below t (mate_on_level c.args.forest.now t c.args.node c.mate.result c.requires.level c.mate.ensures.level c.mate.ensures.mate on)) c.add_children.ensures.below
