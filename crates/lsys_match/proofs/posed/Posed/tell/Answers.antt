use Rattle.std.proofs.Common.{rules, false, ◌≡◌, ℕ, ◌+◌, List, length, Some, Ok, Err, ap, sym, ◌∙◌, subst}
use Rattle.lsys_spec.specs.Walks.{Told}
use Rattle.lsys_spec.specs.Choice as choice
use Rattle.lsys_match.specs.declared.refusal.AskRefusal.TheVariants.{Memory}
use Rattle.lsys_match.specs.declared.told.Told.{Told as CodeTold}
use Rattle.lsys_match.specs.Answered.{CountsEntries, trace_told}
use Rattle.lsys_match.specs.Asking.{posed_by, told_for}
use Rattle.lsys_match.specs.Telling.{choice_at, old_trace, IsSuccessorKept, IsSuccessorOf}
use Rattle.lsys_match.proofs.Telling.{by_err, counts_all, counts_some, read_all, read_front, telling_fails, telling_other}
use Rattle.lsys_match.proofs.posed.Posed.tell.Goals as goal

pub returns-in_err-choice-clause-visited : goal.returns-in_err-choice-clause-visited
returns-in_err-choice-clause-visited g c =
    λ naming. let t = told_for naming c.args.site.now (posed_by c.args.self.now) in
    let n = length (trace_told t) in
    let l = read_front t naming c.choose.new.trace.read (c.in_err-choice.ensures.refused naming) c.in_err-choice.ensures.few in
    by_err c.from_residual.result (λ r. r ≡ Memory) (CountsEntries {T = CodeTold} n c.args.visited.now c.choose.new.visited) c.from_residual.ensures
    (λ r i. subst (λ r. CountsEntries {T = CodeTold} n c.args.visited.now c.choose.new.visited (Err r)) (sym i) (counts_some CodeTold n c.args.visited.now c.choose.new.visited (length c.choose.new.trace.read) c.choose.ensures.counted l))

pub returns-in-Ok-clause-told : goal.returns-in-Ok-clause-told
returns-in-Ok-clause-told g c =
    let d = posed_by c.args.self.now in
    let told : (ℕ → List ℕ) → Told choice.Choice = (λ naming. told_for naming c.args.site.now d) in
    let answer : (naming : ℕ → List ℕ) → (told naming).answer ≡ choice_at c.in_ok-chosen.chosen c.choose.new.bound.items = (λ naming. (c.in_ok-choice.ensures.chosen naming).answer ∙ c.in_ok-chosen.ensures c.choose.new.bound.items) in
    let f : c.is_read.result ≡ false = search rules in
    let n : old_trace c.args.old ≡ Some c.choose.new.trace.read → ⊥ = (λ k. let t = c.is_read.ensures.1 k in cc) in
    telling_other told c.args.self.now (old_trace c.args.old) c.in_ok-chosen.chosen c.choose.new.bound.items answer c.choose.new.trace.read c.in-Ok.reply (λ naming. (c.in_ok-choice.ensures.chosen naming).read_is) n c.in-Ok.ensures.0 c.in-Ok.ensures.1
    (subst (λ vs. IsSuccessorKept c.args.self.now c.in_ok-chosen.chosen vs (Ok c.in-Ok.reply.symbols)) c.deref.ensures.value c.in-Ok.ensures.2)

pub returns-in-Ok-clause-visited : goal.returns-in-Ok-clause-visited
returns-in-Ok-clause-visited g c =
    λ naming. let t = told_for naming c.args.site.now (posed_by c.args.self.now) in
    let k : length (trace_told t) ≡ length c.choose.new.trace.read = read_all t naming c.choose.new.trace.read _ (c.in_ok-choice.ensures.chosen naming) in
    c.choose.ensures.counted ∙ ap (λ n. c.args.visited.now + n) (sym k)

pub returns-in-Err-clause-told : goal.returns-in-Err-clause-told
returns-in-Err-clause-told g c =
    let d = posed_by c.args.self.now in
    let told : (ℕ → List ℕ) → Told choice.Choice = (λ naming. told_for naming c.args.site.now d) in
    let answer : (naming : ℕ → List ℕ) → (told naming).answer ≡ choice_at c.in_ok-chosen.chosen c.choose.new.bound.items = (λ naming. (c.in_ok-choice.ensures.chosen naming).answer ∙ c.in_ok-chosen.ensures c.choose.new.bound.items) in
    telling_fails told c.args.self.now (old_trace c.args.old) c.in_ok-chosen.chosen c.choose.new.bound.items answer c.in-Err.refusal
    (subst (λ vs. IsSuccessorOf c.args.self.now c.in_ok-chosen.chosen vs (Err c.in-Err.refusal)) c.deref.ensures.value c.in-Err.ensures)

pub returns-in-Err-clause-visited : goal.returns-in-Err-clause-visited
returns-in-Err-clause-visited g c =
    λ naming. let t = told_for naming c.args.site.now (posed_by c.args.self.now) in
    let k : length (trace_told t) ≡ length c.choose.new.trace.read = read_all t naming c.choose.new.trace.read _ (c.in_ok-choice.ensures.chosen naming) in
    counts_all CodeTold _ c.args.visited.now c.choose.new.visited c.in-Err.refusal (c.choose.ensures.counted ∙ ap (λ n. c.args.visited.now + n) (sym k))
