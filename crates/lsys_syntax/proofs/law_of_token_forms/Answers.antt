use Rattle.lsys_syntax.proofs.TokenForms.{line-tokens}
use Rattle.lsys_syntax.proofs.law_of_token_forms.Goals as goal

pub returns : goal.returns
returns c = line-tokens
