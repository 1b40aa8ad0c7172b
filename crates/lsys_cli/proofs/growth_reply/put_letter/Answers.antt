use Rattle.std.proofs.Common.{◌≡◌, ◌∙◌, sym}
use Rattle.lsys_spec.specs.Systems.{module_name_text}
use Rattle.lsys_module.specs.Views.{module_name}
use Rattle.lsys_module.proofs.Names.{module_name-text}
use Rattle.lsys_cli.proofs.growth_reply.put_letter.Goals as goal

pub returns : goal.returns
returns g c =
    let bytes : c.as_bytes-bytes.result.now ≡ module_name_text (module_name c.args.name) = c.as_bytes-bytes.ensures.bytes ∙ c.text-text.ensures.text ∙ sym (module_name-text c.args.name c.text-text.ensures.name) in
    rw (← bytes) c.put.ensures
