use Rattle.std.proofs.Common.{rules, ◌≡◌, [], Some, None, slice_get, Ok, Err, ap, sym, ◌∙◌, subst}
use Rattle.lsys_spec.specs.Meaning.{filled}
use Rattle.lsys_module.specs.Views.{string_of}
use Rattle.lsys_rewrite.specs.Filled.{IsAdded}
use Rattle.lsys_walks.specs.Views.{module_named}
use Rattle.lsys_match.specs.Groups.{meant, rules_of}
use Rattle.lsys_match.specs.Refusals.{refusal_by, fill_refusal_by}
use Rattle.lsys_match.specs.Telling.{IsSuccessor, replaced_by}
use Rattle.lsys_match.proofs.Telling.{by_err, filled_nowhere, successor_filled, successor_fails}
use Rattle.lsys_match.proofs.posed.Posed.replace.Goals as goal

pub returns-in_default-get : goal.returns-in_default-get
returns-in_default-get c =
    let n : slice_get (rules_of c.args.self.now.group) c.in-Some.place ≡ None = search rules in
    let e : c.args.chosen ≡ Some c.in-Some.place = search rules in
    subst (λ o. IsSuccessor (rules_of c.args.self.now.group) (module_named c.args.self.now.name c.args.self.now.params.now) o c.args.bound.now (Ok c.args.symbols.now)) (sym e)
    (filled_nowhere (rules_of c.args.self.now.group) c.in-Some.place c.args.bound.now n ∙ ap (λ ys. Ok (string_of ys)) (sym c.requires.empty))

pub returns-in_err-fill_into : goal.returns-in_err-fill_into
returns-in_err-fill_into c =
    let bs = rules_of c.args.self.now.group in
    let m = module_named c.args.self.now.name c.args.self.now.params.now in
    let e : c.args.chosen ≡ Some c.in-Some.place = search rules in
    let f : IsAdded (filled (meant c.in-Some-get.body.now).successor c.args.bound.now) [] c.fill_into.new.symbols (Err c.in_err-fill_into.field-0.0) =
    subst (λ r. IsAdded (filled (meant c.in-Some-get.body.now).successor c.args.bound.now) [] c.fill_into.new.symbols r) c.in_err-fill_into.was
    (subst (λ old. IsAdded (filled (meant c.in-Some-get.body.now).successor c.args.bound.now) old c.fill_into.new.symbols c.fill_into.result) c.requires.empty c.fill_into.ensures) in
    by_err c.from_residual-in_err-fill_into.result (λ r. refusal_by r ≡ fill_refusal_by c.in_err-fill_into.field-0.0) (λ r. IsSuccessor bs m c.args.chosen c.args.bound.now (replaced_by c.fill_into.new.symbols r)) c.from_residual-in_err-fill_into.ensures
    (λ r i. subst (λ o. IsSuccessor bs m o c.args.bound.now (Err r)) (sym e) (successor_fails bs m c.in-Some.place c.args.bound.now (meant c.in-Some-get.body.now) c.in-Some-get.ensures.body c.fill_into.new.symbols c.in_err-fill_into.field-0.0 r f i))

pub returns : goal.returns
returns c =
    let bs = rules_of c.args.self.now.group in
    let m = module_named c.args.self.now.name c.args.self.now.params.now in
    let e : c.args.chosen ≡ Some c.in-Some.place = search rules in
    let f : IsAdded (filled (meant c.in-Some-get.body.now).successor c.args.bound.now) [] c.fill_into.new.symbols (Ok tt) =
    subst (λ r. IsAdded (filled (meant c.in-Some-get.body.now).successor c.args.bound.now) [] c.fill_into.new.symbols r) c.in_ok-fill_into.was
    (subst (λ old. IsAdded (filled (meant c.in-Some-get.body.now).successor c.args.bound.now) old c.fill_into.new.symbols c.fill_into.result) c.requires.empty c.fill_into.ensures) in
    subst (λ o. IsSuccessor bs m o c.args.bound.now (Ok c.fill_into.new.symbols)) (sym e) (successor_filled bs m c.in-Some.place c.args.bound.now (meant c.in-Some-get.body.now) c.in-Some-get.ensures.body c.fill_into.new.symbols f)
