use Rattle.std.proofs.Common.{◌≡◌, ℕ, None, Result, Ok, Err, refl, ◌∙◌}
use Rattle.std.specs.Result.{result_err}
use Rattle.lsys_text.specs.Tokens.{kind_row}
use Rattle.lsys_bodies.specs.Searching.{found_or}
use Rattle.lsys_bodies.proofs.WholeSearch.{whole-search}
use Rattle.lsys_bodies.proofs.unknown.unknown_name.Goals as goal

what-was_found : (result : Result ℕ ℕ) → result_err result ≡ found_or result (λ m. None)
what-was_found (Ok m) = refl
what-was_found (Err p) = refl

pub returns : goal.returns
returns c from names =
    c.err.ensures.value ∙ what-was_found c.search_rest.result
    ∙ whole-search from (kind_row c.args.tokens.now) c.args.rule.now c.args.formals.now c.search_rest.result names c.search_rest.ensures
