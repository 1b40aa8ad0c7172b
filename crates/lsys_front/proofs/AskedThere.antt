-- A module of a level that has a group is asked there.
use Rattle.std.proofs.Common.{◌≡◌, ℕ, zero, suc, ◌+◌, ◌<◌, Bool, true, false, cond, Option, Some, None, List, [], ◌∷◌, ◌++◌, length, refl, ap, sym, ◌∙◌, subst, arith, eq-eqb}
use Rattle.std.specs.Prelude.{◌==◌, ◌&&◌, slice_get}
use Rattle.std.proofs.lemmas.Option.{none-some, same_Some}
use Rattle.lsys_spec.specs.Systems.{System}
use Rattle.lsys_spec.specs.Bodies.{Body, group}
use Rattle.lsys_spec.specs.Levels.{ModuleValue, LevelSymbol, Push, Pop, Module, lineage, IsLevel}
use Rattle.lsys_spec.specs.Equalities.{same_lineage}
use Rattle.lsys_spec.specs.Questions.{Question, question, where_any, questions_from, questions_at, questions_below, questions, question_at}
use Rattle.lsys_spec.proofs.Equal.{same_lineage_refl}
use Rattle.lsys_spec.proofs.Needs.{IsAsked, IsFound, found_asked, all_asked}
use Rattle.lsys_spec.proofs.Tests.{and_true}

-- something is asked there
abbrev IsHit : ℕ → List ℕ → List Question → Type 0
IsHit t l qs = question_at t l qs ≡ None → ⊥

hit_first : (t : ℕ) (l : List ℕ) (q : Question) (qs : List Question) → q.level ≡ t → lineage q.own ≡ l → IsHit t l (q ∷ qs)
hit_first t l q qs e f none =
    let same : (q.level == t) && same_lineage l (lineage q.own) ≡ true = and_true (q.level == t) (same_lineage l (lineage q.own)) (eq-eqb q.level t e) (ap (same_lineage l) f ∙ same_lineage_refl l) in
    none-some q (sym none ∙ ap (λ b. cond b (Some q) (question_at t l qs)) same)

hit_later : (t : ℕ) (l : List ℕ) (q : Question) (qs : List Question) → IsHit t l qs → IsHit t l (q ∷ qs)
hit_later t l q qs h none = by ((q.level == t) && same_lineage l (lineage q.own)) none
  where
    by : (b : Bool) → cond b (Some q) (question_at t l qs) ≡ None → ⊥
    by true e = none-some q (sym e)
    by false e = h e

hit_left : (t : ℕ) (l : List ℕ) (qs rs : List Question) → IsHit t l qs → IsHit t l (qs ++ rs)
hit_left t l [] rs h none = absurd (h refl)
hit_left t l (q ∷ qs) rs h none = by ((q.level == t) && same_lineage l (lineage q.own)) (hit_left t l qs rs) h none
  where
    by : (b : Bool) → (IsHit t l qs → IsHit t l (qs ++ rs)) → (cond b (Some q) (question_at t l qs) ≡ None → ⊥) → cond b (Some q) (question_at t l (qs ++ rs)) ≡ None → ⊥
    by true further g e = none-some q (sym e)
    by false further g e = further g e

hit_right : (t : ℕ) (l : List ℕ) (qs rs : List Question) → IsHit t l rs → IsHit t l (qs ++ rs)
hit_right t l [] rs h = h
hit_right t l (q ∷ qs) rs h = hit_later t l q (qs ++ rs) (hit_right t l qs rs h)

hit_any : (t : ℕ) (l : List ℕ) (bs : List Body) (q : Question) (qs : List Question) → IsHit t l qs → IsHit t l (where_any bs q qs)
hit_any t l [] q qs h = h
hit_any t l (b ∷ bs) q qs h = hit_later t l q qs h

hit_own : (t : ℕ) (l : List ℕ) (bs : List Body) (q : Question) (qs : List Question) → (bs ≡ [] → ⊥) → q.level ≡ t → lineage q.own ≡ l → IsHit t l (where_any bs q qs)
hit_own t l [] q qs n e f = absurd (n refl)
hit_own t l (b ∷ bs) q qs n e f = hit_first t l q qs e f

hit_from : (s : System) (t : ℕ) (x : List LevelSymbol) (p : ℕ) (ms : List LevelSymbol) (i : ℕ) (l : List ℕ) (m : ModuleValue)
    → slice_get ms i ≡ Some (Module l m) → (group s t m.name (length m.params) ≡ [] → ⊥) → IsHit t l (questions_from s t x p ms)
hit_from s t x p [] i l m h n = absurd (none-some (Module l m) h)
hit_from s t x p (Push k ∷ ms) zero l m h n = absurd (let e : Push k ≡ Module l m = same_Some (Push k) (Module l m) h in cc)
hit_from s t x p (Pop k ∷ ms) zero l m h n = absurd (let e : Pop k ≡ Module l m = same_Some (Pop k) (Module l m) h in cc)
hit_from s t x p (Module k v ∷ ms) zero l m h n =
    let e : Module k v ≡ Module l m = same_Some (Module k v) (Module l m) h in
    let a : k ≡ l = cc in
    let b : v ≡ m = cc in
    hit_own t l (group s t v.name (length v.params)) (question s t (group s t v.name (length v.params)) x p k v) (questions_from s t x (p + 1) ms)
    (λ none. n (ap (λ (m : ModuleValue). group s t m.name (length m.params)) (sym b) ∙ none)) refl a
hit_from s t x p (Push k ∷ ms) (suc i) l m h n = hit_from s t x (p + 1) ms i l m h n
hit_from s t x p (Pop k ∷ ms) (suc i) l m h n = hit_from s t x (p + 1) ms i l m h n
hit_from s t x p (Module k v ∷ ms) (suc i) l m h n =
    hit_any t l (group s t v.name (length v.params)) (question s t (group s t v.name (length v.params)) x p k v) (questions_from s t x (p + 1) ms) (hit_from s t x (p + 1) ms i l m h n)

hit_below : (s : System) (u : ℕ) (xs : List (List LevelSymbol)) (i t : ℕ) (x : List LevelSymbol) (p : ℕ) (l : List ℕ) (m : ModuleValue) → u + i ≡ t → slice_get xs i ≡ Some x → i + 1 < length xs
    → slice_get x p ≡ Some (Module l m) → (group s t m.name (length m.params) ≡ [] → ⊥) → IsHit t l (questions_below s u xs)
hit_below s u [] i t x p l m e g b h n = absurd (omega (arith, b))
hit_below s u (y ∷ []) i t x p l m e g b h n = absurd (omega (arith, b))
hit_below s u (y ∷ z ∷ xs) zero t x p l m e g b h n =
    let same : y ≡ x = same_Some y x g in
    let level : u ≡ t = omega (arith, e) in
    hit_left t l (questions_at s u y) (questions_below s (u + 1) (z ∷ xs))
    (subst (λ u. IsHit t l (questions_at s u y)) (sym level) (subst (λ y. IsHit t l (questions_at s t y)) (sym same) (hit_from s t x 0 x p l m h n)))
hit_below s u (y ∷ z ∷ xs) (suc i) t x p l m e g b h n =
    hit_right t l (questions_at s u y) (questions_below s (u + 1) (z ∷ xs)) (hit_below s (u + 1) (z ∷ xs) i t x p l m (omega (arith, e)) g (omega (arith, b)) h n)

pub asked_there : (s : System) (xs : List (List LevelSymbol)) (t : ℕ) (x : List LevelSymbol) (p : ℕ) (l : List ℕ) (m : ModuleValue) → IsLevel x → slice_get xs t ≡ Some x → t + 1 < length xs
    → slice_get x p ≡ Some (Module l m) → (group s t m.name (length m.params) ≡ [] → ⊥)
    → question_at t l (questions s xs) ≡ Some (question s t (group s t m.name (length m.params)) x p l m)
asked_there s xs t x p l m level g b h n = by (question_at t l (questions s xs)) refl
  where
    by : (o : Option Question) → question_at t l (questions s xs) ≡ o → question_at t l (questions s xs) ≡ Some (question s t (group s t m.name (length m.params)) x p l m)
    by None e = absurd (hit_below s 0 xs t t x p l m (omega arith) g b h n e)
    by (Some q) e =
        let f : IsFound s xs t l q = found_asked s xs t l (questions s xs) q (all_asked s xs) e in
        let a : IsAsked s xs q = f.asked in
        let same : a.level ≡ x = same_Some a.level x (sym a.there ∙ ap (slice_get xs) f.level ∙ g) in
        let there : slice_get x a.place ≡ Some (Module a.parents a.value) = ap (λ x. slice_get x a.place) (sym same) ∙ a.stands in
        let own : l ≡ a.parents = f.lineages ∙ ap (λ (r : Question). lineage r.own) a.is in
        let place : a.place ≡ p = level.apart a.place p (Module a.parents a.value) (Module l m) there h (sym own) in
        let both : Module a.parents a.value ≡ Module l m = same_Some (Module a.parents a.value) (Module l m) (sym there ∙ ap (slice_get x) place ∙ h) in
        let value : a.value ≡ m = cc in
        e ∙ ap Some (a.is ∙ ap (λ t. question s t (group s t a.value.name (length a.value.params)) a.level a.place a.parents a.value) f.level
        ∙ ap (λ y. question s t (group s t a.value.name (length a.value.params)) y a.place a.parents a.value) same
        ∙ ap (λ p. question s t (group s t a.value.name (length a.value.params)) x p a.parents a.value) place
        ∙ ap (λ l. question s t (group s t a.value.name (length a.value.params)) x p l a.value) (sym own)
        ∙ ap (λ (m : ModuleValue). question s t (group s t m.name (length m.params)) x p l m) value)
