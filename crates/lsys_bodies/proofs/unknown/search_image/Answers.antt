use Rattle.std.proofs.Common.{◌<◌, ◌∷◌, [], length, arith}
use Rattle.std.proofs.lemmas.Result.{err_from_is_err_and}
use Rattle.lsys_syntax.specs.Tokens.{RightParen}
use Rattle.lsys_syntax.specs.Pieces.{token}
use Rattle.lsys_text.specs.Tokens.{kind_row}
use Rattle.lsys_bodies.proofs.Searches.{searches-module, module-count, searches-on, searches-found, searches-token, params}
use Rattle.lsys_bodies.proofs.unknown.search_image.Goals as goal

pub search_params-requires-clause-room : goal.search_params-requires-clause-room
search_params-requires-clause-room c =
    let ks = kind_row c.args.tokens.now in
    let y = c.in-Module.module in
    let some : 0 < length y.params.items = grind arith in
    rw c.deref.ensures.value (omega (arith, module-count ks y some, rw c.in-Module.is at c.requires.room))

pub returns-in_err-end-in-Module : goal.returns-in_err-end-in-Module
returns-in_err-end-in-Module c =
    let ks = kind_row c.args.tokens.now in
    let y = c.in-Module.module in
    let some : 0 < length y.params.items = grind arith in
    let p = err_from_is_err_and c.from_residual.result c.from_residual.ensures.1 in
    rw (p.1, p.2, c.in-Module.is) (searches-module ks y some (searches-found (params ks y.params.items) (token RightParen ∷ []) (rw c.deref.ensures.value at c.in_err-end-in-Module.ensures)))

pub overflow_add-result : goal.overflow_add-result
overflow_add-result c =
    let ks = kind_row c.args.tokens.now in
    let y = c.in-Module.module in
    let some : 0 < length y.params.items = grind arith in
    omega (arith, module-count ks y some, rw c.in-Module.is at c.requires.room, rw c.deref.ensures.value at c.in_ok-end-in-Module.ensures.place)

pub returns-in_ok-end-in-Module : goal.returns-in_ok-end-in-Module
returns-in_ok-end-in-Module c =
    let ks = kind_row c.args.tokens.now in
    let y = c.in-Module.module in
    let some : 0 < length y.params.items = grind arith in
    rw c.in-Module.is (searches-module ks y some (searches-on (params ks y.params.items) (token RightParen ∷ []) (rw c.deref.ensures.value at c.in_ok-end-in-Module.ensures) (searches-token RightParen c.in_ok-end-in-Module.end)))
