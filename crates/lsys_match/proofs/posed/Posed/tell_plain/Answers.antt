use Rattle.std.proofs.Common.{false, ◌≡◌, [], Some, Ok, Err, IsTrue, refl, sym, subst, rules}
use Rattle.lsys_match.specs.declared.told.Told.TheVariants.{Same}
use Rattle.lsys_match.specs.Asking.{posed_by, told_for}
use Rattle.lsys_match.specs.Telling.{old_trace, IsSuccessorKept, IsTellingAnywhere, IsTellingOf}
use Rattle.lsys_match.proofs.Telling.{err_is, telling_fails, telling_other}
use Rattle.lsys_match.proofs.Plain.{answer_plain, trace_plain}
use Rattle.lsys_match.proofs.posed.Posed.tell_plain.Goals as goal

pub returns-then-is_unread : goal.returns-then-is_unread
returns-then-is_unread c =
    let t : IsTrue c.is_unread.result = search rules in
    let told : IsTellingAnywhere c.args.self.now c.args.old (Ok Same) = (λ site own. ([], c.is_unread.ensures.0 t, λ naming. sym (trace_plain naming site (posed_by c.args.self.now) c.requires.plain))) in
    told

pub returns-in_err-kept : goal.returns-in_err-kept
returns-in_err-kept c =
    let q = c.args.self.now in
    let e : c.from_residual.result ≡ Err c.in_err-kept.field-0.0 = err_is _ _ c.from_residual.ensures in
    let s : IsSuccessorKept q (Some 0) q.params.now (Err c.in_err-kept.field-0.0) = subst (IsSuccessorKept q (Some 0) q.params.now) c.in_err-kept.was c.kept_symbols.ensures in
    λ site own. subst (IsTellingOf q site c.args.old) (sym e)
    (telling_fails (λ naming. told_for naming site (posed_by q)) q (old_trace c.args.old) (Some 0) q.params.now (λ naming. answer_plain naming site (posed_by q) (posed_by q).own c.requires.plain own) c.in_err-kept.field-0.0 s)

pub returns : goal.returns
returns c =
    let q = c.args.self.now in
    let f : c.is_unread.result ≡ false = search rules in
    let n : old_trace c.args.old ≡ Some [] → ⊥ = (λ k. let t = c.is_unread.ensures.1 k in cc) in
    let s : IsSuccessorKept q (Some 0) q.params.now (Ok c.in_ok-kept.kept) = subst (IsSuccessorKept q (Some 0) q.params.now) c.in_ok-kept.was c.kept_symbols.ensures in
    λ site own. telling_other (λ naming. told_for naming site (posed_by q)) q (old_trace c.args.old) (Some 0) q.params.now (λ naming. answer_plain naming site (posed_by q) (posed_by q).own c.requires.plain own)
    [] _ (λ naming. sym (trace_plain naming site (posed_by q) c.requires.plain)) n c.new.ensures refl s
