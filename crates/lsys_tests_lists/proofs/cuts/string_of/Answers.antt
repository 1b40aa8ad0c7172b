use Rattle.std.proofs.Common.{length, subst}
use Rattle.std.specs.Prelude.{IfOk}
use Rattle.std.specs.List.{All}
use Rattle.lsys_text.specs.Tokens.{AreLineTokens, LiesInLine}
use Rattle.lsys_text.proofs.LineTokens.{line-forms}
use Rattle.lsys_tests_lists.proofs.cuts.string_of.Goals as goal

pub build_string-requires-clause-forms : goal.build_string-requires-clause-forms
build_string-requires-clause-forms g c =
    let told = subst (AreLineTokens c.as_bytes.result.now) c.expect-found.ensures c.tokens.ensures.tokens in
    rw c.as_slice-read.ensures.value (line-forms c.as_bytes.result.now c.expect-found.result.items told)

pub build_string-requires-clause-line : goal.build_string-requires-clause-line
build_string-requires-clause-line g c =
    let places = subst (λ r. IfOk r (λ found. All (LiesInLine (length c.as_bytes.result.now)) found.items)) c.expect-found.ensures c.tokens.ensures.places in
    rw c.as_slice-read.ensures.value (length c.as_bytes.result.now, places)
