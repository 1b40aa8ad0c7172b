use Rattle.std.proofs.Common.{◌≡◌, ◌∙◌, ap, sym, get_or}
use Rattle.lsys_syntax.specs.Tokens.{is_letter}
use Rattle.lsys_syntax.specs.Strings.{is_letters}
use Rattle.lsys_spec.specs.Systems.{module_name_text}
use Rattle.lsys_io.proofs.Puts.{puts_then, puts_failed, puts_refused, puts_answering}
use Rattle.lsys_module.specs.Views.{module_name}
use Rattle.lsys_module.proofs.Names.{module_name-text, first_is_letter}
use Rattle.lsys_module.proofs.print.put_name.Goals as goal

pub returns-in_err-put_gap-clause-put : goal.returns-in_err-put_gap-clause-put
returns-in_err-put_gap-clause-put g c =
    let name = c.args.name in
    let letter : c.is_ascii_alphabetic.result ≡ is_letters (module_name name) =
    c.is_ascii_alphabetic.ensures.value ∙ ap (λ t. is_letter (get_or t 0 0)) (c.as_bytes-bytes.ensures.bytes ∙ c.text-text.ensures.text) ∙ sym (first_is_letter name c.text-text.ensures.name) in
    rw (← letter) (puts_failed (module_name_text (module_name name)) c.from_residual.ensures.0 c.in_err-put_gap.ensures)

pub returns-in_err-put-clause-put : goal.returns-in_err-put-clause-put
returns-in_err-put-clause-put g c =
    let name = c.args.name in
    let letter : c.is_ascii_alphabetic.result ≡ is_letters (module_name name) =
    c.is_ascii_alphabetic.ensures.value ∙ ap (λ t. is_letter (get_or t 0 0)) (c.as_bytes-bytes.ensures.bytes ∙ c.text-text.ensures.text) ∙ sym (first_is_letter name c.text-text.ensures.name) in
    let bytes : c.as_bytes-bytes.result.now ≡ module_name_text (module_name name) = c.as_bytes-bytes.ensures.bytes ∙ c.text-text.ensures.text ∙ sym (module_name-text name c.text-text.ensures.name) in
    rw (← letter, ← bytes) (puts_then c.in_ok-put_gap.ensures (puts_refused c.from_residual-in_err-put.ensures.0 c.in_err-put.ensures))

pub returns-clause-put : goal.returns-clause-put
returns-clause-put g c =
    let name = c.args.name in
    let letter : c.is_ascii_alphabetic.result ≡ is_letters (module_name name) =
    c.is_ascii_alphabetic.ensures.value ∙ ap (λ t. is_letter (get_or t 0 0)) (c.as_bytes-bytes.ensures.bytes ∙ c.text-text.ensures.text) ∙ sym (first_is_letter name c.text-text.ensures.name) in
    let bytes : c.as_bytes-bytes.result.now ≡ module_name_text (module_name name) = c.as_bytes-bytes.ensures.bytes ∙ c.text-text.ensures.text ∙ sym (module_name-text name c.text-text.ensures.name) in
    rw (← letter, ← bytes) (puts_then c.in_ok-put_gap.ensures (puts_answering c.in_ok-put.ensures))
