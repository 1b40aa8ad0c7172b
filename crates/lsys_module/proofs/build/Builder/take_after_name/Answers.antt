use Rattle.std.proofs.Common.{◌∙◌}
use Rattle.lsys_text.specs.Tokens.{kind_of}
use Rattle.lsys_module.specs.Views.{module_name, string_of}
use Rattle.lsys_module.specs.Building.{draft_of}
use Rattle.lsys_module.proofs.Drafts.{are_named, named-can_take, named-taken}
use Rattle.lsys_module.proofs.build.Builder.take_after_name.Goals as goal

pub take_symbol-requires-clause-goes_on : goal.take_symbol-requires-clause-goes_on
take_symbol-requires-clause-goes_on c =
    let old = c.args.self.now in
    let new = c.add.new.self in
    let named = are_named old.part new.part old.symbols new.symbols c.args.name c.bare-2.result c.requires.after_name c.in_ok-add.ensures.whole c.in_ok-add.ensures.added c.bare-2.ensures.name c.bare-2.ensures.params in
    named-can_take (draft_of old) (draft_of new) (string_of old.symbols) (module_name c.args.name) (kind_of c.args.token.kind) named (λ e. c.in_default.not-Open (c.of.ensures ∙ e)) c.requires.goes_on

pub returns : goal.returns
returns c =
    let old = c.args.self.now in
    let new = c.add.new.self in
    let named = are_named old.part new.part old.symbols new.symbols c.args.name c.bare-2.result c.requires.after_name c.in_ok-add.ensures.whole c.in_ok-add.ensures.added c.bare-2.ensures.name c.bare-2.ensures.params in
    named-taken (draft_of old) (draft_of new) (draft_of c.take_symbol.new.self) (string_of old.symbols) (module_name c.args.name) c.args.token c.take_symbol.result named (λ e. c.in_default.not-Open (c.of.ensures ∙ e)) c.take_symbol.ensures
