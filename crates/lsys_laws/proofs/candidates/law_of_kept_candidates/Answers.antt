use Rattle.std.proofs.Common.{◌≡◌, get_or, Some, [], refl, ap, sym, ◌∙◌, false}
use Rattle.std.proofs.lemmas.Option.{get_or_from_slice_get}
use Rattle.lsys_spec.specs.Meaning.{successor}
use Rattle.lsys_spec.specs.Questions.{Question, questions, question_at, is_needed}
use Rattle.lsys_spec.specs.Standings.{is_candidate}
use Rattle.lsys_spec.proofs.Needs.{Derived, derived, IsAsked, IsFound, found_asked, all_asked, within_one}
use Rattle.lsys_spec.proofs.Undisturbed.{successor_told}
use Rattle.lsys_laws.specs.Passes.{module_question}
use Rattle.lsys_laws.proofs.UpTo.{derived_to}
use Rattle.lsys_laws.proofs.Asked.{IsOld, not_needed}
use Rattle.lsys_laws.proofs.Faultless.{level_below, HasNext, next_of, IsFine, fine}
use Rattle.lsys_laws.proofs.candidates.law_of_kept_candidates.Goals as goal

pub returns : goal.returns
returns c old new xs ys t y p l m w a cand =
    let q : Question = module_question new t y p l m in
    let dx : Derived old xs = derived old w.old_limit xs w.old_spelled w.old_meant in
    let dy : Derived new ys = derived_to new w.new_limit t ys w.new_spelled w.new_meant in
    let b : IsAsked new ys q = record { level = y; there = a.level; place = p; parents = l; value = m; stands = a.stands; is = refl } in
    let may : is_candidate old new (get_or xs t []) (get_or ys t []) (questions old xs) q ≡ false = ap (λ y. is_candidate old new (get_or xs t []) y (questions old xs) q) (get_or_from_slice_get ys t y [] a.level) ∙ cand in
    let n : is_needed (questions old xs) q ≡ false = within_one old new xs ys dx dy q b may in
    let o : IsOld old xs q = not_needed old new xs ys dx dy q b n in
    let found : question_at t l (questions old xs) ≡ Some q = o.found ∙ ap (λ q. Some q) o.same in
    let f : IsFound old xs t l q = found_asked old xs t l (questions old xs) q (all_asked old xs) found in
    let a : IsAsked old xs q = f.asked in
    let g : HasNext old t a.level = next_of old w.old_limit xs w.old_meant t a.level (level_below old xs t l q found) a.there in
    let k : IsFine (successor old t a.level a.place a.parents a.value) = fine old t a.level g a.place a.parents a.value a.stands in
    record { same = found; kids = k.kids; is = sym (successor_told old new t t a.level y a.place p a.parents l a.value m (sym a.is)) ∙ k.is }
