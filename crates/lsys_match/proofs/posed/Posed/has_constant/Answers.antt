use Rattle.std.proofs.Common.{rules, ◌≡◌, true, false, is_some, slice_get, Some, Ok, [], ap, sym, ◌∙◌, subst}
use Rattle.lsys_match.specs.Asking.{posed_by}
use Rattle.lsys_match.specs.Constants.{constant_chosen}
use Rattle.lsys_match.specs.Telling.{IsSuccessorKept}
use Rattle.lsys_match.proofs.Constants.{kept_there, none_there}
use Rattle.lsys_match.proofs.posed.Posed.has_constant.Goals as goal

pub returns-clause-some : goal.returns-clause-some
returns-clause-some c = λ t values.
    let e : c.args.chosen ≡ Some c.in-Some.place = search rules in
    let at : slice_get c.args.self.now.group c.in-Some.place ≡ Some c.in-Some-get.body.now = search rules in
    let h : is_some c.constant.result ≡ true = search rules in
    subst (λ o. IsSuccessorKept c.args.self.now o values (Ok [])) (sym e)
    (kept_there c.args.self.now.group c.in-Some.place c.in-Some-get.body.now at (posed_by c.args.self.now).own values c.constant.result c.constant.ensures.symbols c.constant.ensures.filled h)

pub returns-clause-none : goal.returns-clause-none
returns-clause-none c = λ f.
    let e : c.args.chosen ≡ Some c.in-Some.place = search rules in
    let at : slice_get c.args.self.now.group c.in-Some.place ≡ Some c.in-Some-get.body.now = search rules in
    let h : is_some c.constant.result ≡ false = search rules in
    ap (constant_chosen c.args.self.now.group) e ∙ none_there c.args.self.now.group c.in-Some.place c.in-Some-get.body.now at c.constant.result c.constant.ensures.symbols h
