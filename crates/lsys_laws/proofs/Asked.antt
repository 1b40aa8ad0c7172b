-- A question that isn't needed is the old system's.
use Rattle.std.proofs.Common.{◌≡◌, ℕ, ◌+◌, ◌<◌, ◌≤◌, false, Option, Some, None, List, [], length, refl, ap, sym, ◌∙◌, arith}
use Rattle.std.specs.Prelude.{get_or, slice_get}
use Rattle.std.proofs.lemmas.Option.{get_or_from_slice_get}
use Rattle.lsys_spec.specs.Systems.{System}
use Rattle.lsys_spec.specs.Levels.{LevelSymbol, Module, lineage}
use Rattle.lsys_spec.specs.Questions.{Question, questions, same_question, question_at, differs, is_needed}
use Rattle.lsys_spec.specs.Standings.{place_of}
use Rattle.lsys_spec.proofs.Standings.{place_found}
use Rattle.lsys_spec.proofs.Answered.{same_question_true}
use Rattle.lsys_spec.proofs.Needs.{IsAsked, all_asked, IsFound, found_asked, Derived}
use Rattle.lsys_spec.proofs.Tests.{not_false}
use Rattle.lsys_laws.proofs.Faultless.{level_below}

pub record IsOld (old : System) (xs : List (List LevelSymbol)) (q : Question) : Type 0 where
  pub was : Question
  pub found : question_at q.level (lineage q.own) (questions old xs) ≡ Some was
  pub same : was ≡ q

pub not_needed : (old new : System) (xs ys : List (List LevelSymbol)) → Derived old xs → Derived new ys → (q : Question) → IsAsked new ys q → is_needed (questions old xs) q ≡ false → IsOld old xs q
not_needed old new xs ys dx dy q b h = by (question_at q.level (lineage q.own) (questions old xs)) refl h
  where
    by : (o : Option Question) → question_at q.level (lineage q.own) (questions old xs) ≡ o → differs q o ≡ false → IsOld old xs q
    by None e h = cc
    by (Some was) e h =
        let f : IsFound old xs q.level (lineage q.own) was = found_asked old xs q.level (lineage q.own) (questions old xs) was (all_asked old xs) e in
        record { was = was; found = e; same = same_question_true old new xs ys dx dy was q f.asked b (not_false (same_question was q) h) }

-- where the old system asked, there is a level after, and the symbol stood there

pub none_last : (s : System) (xs : List (List LevelSymbol)) (t : ℕ) (l : List ℕ) → length xs ≤ t + 1 → question_at t l (questions s xs) ≡ None
none_last s xs t l h = by (question_at t l (questions s xs)) refl
  where
    by : (o : Option Question) → question_at t l (questions s xs) ≡ o → question_at t l (questions s xs) ≡ None
    by None e = e
    by (Some q) e =
        let f : IsFound s xs t l q = found_asked s xs t l (questions s xs) q (all_asked s xs) e in
        let b : q.level + 1 < length xs = level_below s xs t l q e in absurd (omega (arith, h, b, f.level))

pub none_came : (s : System) (xs : List (List LevelSymbol)) (t : ℕ) (l : List ℕ) → place_of l (get_or xs t []) ≡ None → question_at t l (questions s xs) ≡ None
none_came s xs t l h = by (question_at t l (questions s xs)) refl
  where
    by : (o : Option Question) → question_at t l (questions s xs) ≡ o → question_at t l (questions s xs) ≡ None
    by None e = e
    by (Some q) e =
        let f : IsFound s xs t l q = found_asked s xs t l (questions s xs) q (all_asked s xs) e in
        let a : IsAsked s xs q = f.asked in
        let there : get_or xs t [] ≡ a.level = get_or_from_slice_get xs t a.level [] (ap (slice_get xs) (sym f.level) ∙ a.there) in
        let own : a.parents ≡ l = sym (f.lineages ∙ ap (λ (r : Question). lineage r.own) a.is) in
        let p = place_found l a.level a.place (Module a.parents a.value) a.stands own in
        let n : None ≡ Some p.0 = sym h ∙ ap (place_of l) there ∙ p.1 in cc
