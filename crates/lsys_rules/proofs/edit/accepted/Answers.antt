use Rattle.std.proofs.Common.{◌≡◌, ap, subst, sym, ◌∙◌}
use Rattle.std.specs.Prelude.{IfOk}
use Rattle.lsys_spec.specs.Systems.{System}
use Rattle.lsys_spec.specs.Edits.{changed}
use Rattle.lsys_laws.specs.Sessions.{IsWell}
use Rattle.lsys_reading.specs.Parted.{command_of}
use Rattle.lsys_rules.specs.Systems.{system_of, seeded}
use Rattle.lsys_rules.proofs.Accepted.{well_changed}
use Rattle.lsys_rules.proofs.Seeded.{parts_changed}
use Rattle.lsys_rules.proofs.edit.accepted.Goals as goal

pub of-requires : goal.of-requires
of-requires c =
    let s = c.args.system.now in
    let ts = c.args.command.now.tokens in
    let edit = c.parts-edit.result.now in
    let old = c.parts.result.now in
    let next = c.in_ok-parts.ensures ∙ ap (λ us. changed (system_of old) (command_of us)) c.tokens.ensures.tokens in
    let same =
    ap (seeded c.in_ok-parts.parts) c.seed.ensures
    ∙ parts_changed old s s.seed c.parts.ensures.parts ts edit c.parts-edit.ensures c.in_default.not-Seed
    c.in_ok-parts.parts next in
    subst IsWell (sym same) (well_changed s ts edit c.tokens.ensures.forms c.parts-edit.ensures c.parts.ensures.well c.requires)

pub returns : goal.returns
returns c =
    let s = c.args.system.now in
    let ts = c.args.command.now.tokens in
    let edit = c.parts-edit.result.now in
    let old = c.parts.result.now in
    let next = c.in_ok-parts.ensures ∙ ap (λ us. changed (system_of old) (command_of us)) c.tokens.ensures.tokens in
    let same =
    ap (seeded c.in_ok-parts.parts) c.seed.ensures
    ∙ parts_changed old s s.seed c.parts.ensures.parts ts edit c.parts-edit.ensures c.in_default.not-Seed
    c.in_ok-parts.parts next in
    subst (λ (r : System). IfOk c.of.result (λ t. t ≡ r)) same c.of.ensures
