use Rattle.std.proofs.Common.{◌≡◌, ◌∙◌, ◌∷◌, ◌++◌, [], sym, true, false}
use Rattle.lsys_io.proofs.Puts.{puts_then, puts_failed}
use Rattle.lsys_syntax.specs.Strings.{string_text}
use Rattle.lsys_module.specs.Views.{symbol_of, string_of}
use Rattle.lsys_rules.proofs.ShownTexts.{axiom-line, some_symbols}
use Rattle.lsys_rules.proofs.script.put_axiom.Goals as goal

pub returns-in_err-put : goal.returns-in_err-put
returns-in_err-put g c =
    rw (axiom-line (string_of c.args.symbols.now) (some_symbols symbol_of c.args.symbols.now (λ e. let both : true ≡ false = sym (c.is_empty.ensures.1 e) ∙ c.if-is_empty.false in cc))) (puts_failed (string_text (string_of c.args.symbols.now) ++ (10 ∷ [])) c.from_residual.ensures.0 c.in_err-put.ensures)

pub returns-in_err-print_string : goal.returns-in_err-print_string
returns-in_err-print_string g c =
    rw (axiom-line (string_of c.args.symbols.now) (some_symbols symbol_of c.args.symbols.now (λ e. let both : true ≡ false = sym (c.is_empty.ensures.1 e) ∙ c.if-is_empty.false in cc))) (puts_then c.in_ok-put.ensures (puts_failed (10 ∷ []) c.from_residual-in_err-print_string.ensures.0 c.in_err-print_string.ensures.put))

pub returns : goal.returns
returns g c =
    rw (axiom-line (string_of c.args.symbols.now) (some_symbols symbol_of c.args.symbols.now (λ e. let both : true ≡ false = sym (c.is_empty.ensures.1 e) ∙ c.if-is_empty.false in cc))) (puts_then c.in_ok-put.ensures (puts_then c.in_ok-print_string.ensures.put (c.put-3.ensures)))
