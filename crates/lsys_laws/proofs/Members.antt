-- A question isn't needed exactly where it is one of the old system's questions.
use Rattle.std.proofs.Common.{◌≡◌, ℕ, zero, suc, Bool, true, false, ◌&&◌, eqb, cond, Some, Ok, List, [], ◌∷◌, length, refl, ap, sym, ◌∙◌}
use Rattle.std.specs.Prelude.{slice_get, ◌↔◌}
use Rattle.lsys_spec.specs.Systems.{System, WellSpelled}
use Rattle.lsys_spec.specs.Bodies.{group}
use Rattle.lsys_spec.specs.Levels.{ModuleValue, LevelSymbol, Module, lineage}
use Rattle.lsys_spec.specs.Equalities.{same_lineage}
use Rattle.lsys_spec.specs.Questions.{Question, question, questions, question_at, is_needed}
use Rattle.lsys_spec.specs.Meaning.{meaning}
use Rattle.lsys_spec.proofs.Eachs.{each_at}
use Rattle.lsys_spec.proofs.Equal.{same_lineage_refl, same_number_refl}
use Rattle.lsys_spec.proofs.Needs.{IsAsked, all_asked, IsFound, found_asked, Derived, derived}
use Rattle.lsys_spec.proofs.Answered.{answered}

some_same : {A : Type 0} (x y : A) → Some x ≡ Some y → x ≡ y
some_same x y e = cc

module_same : (l l' : List ℕ) (m m' : ModuleValue) → Module l m ≡ Module l' m' → m ≡ m'
module_same l l' m m' e = cc

-- the parts by which a question was asked
record Parts (s : System) (t : ℕ) (x : List LevelSymbol) (p : ℕ) (l : List ℕ) (m : ModuleValue) (q : Question) : Type 0 where
  is : q ≡ question s t (group s t m.name (length m.params)) x p l m

moved : (s : System) (t t' : ℕ) (x x' : List LevelSymbol) (p p' : ℕ) (l l' : List ℕ) (m m' : ModuleValue)
    → t ≡ t' → x ≡ x' → p ≡ p' → l ≡ l' → m ≡ m'
    → question s t (group s t m.name (length m.params)) x p l m ≡ question s t' (group s t' m'.name (length m'.params)) x' p' l' m'
moved s t t' x x' p p' l l' m m' a b c d e = λ i. question s (a i) (group s (a i) (e i).name (length (e i).params)) (b i) (c i) (d i) (e i)

-- two questions of a system at one level and lineage are one
same_asked : (s : System) (xs : List (List LevelSymbol)) (q r : Question) → Derived s xs → IsAsked s xs q → IsAsked s xs r
    → q.level ≡ r.level → lineage q.own ≡ lineage r.own → q ≡ r
same_asked s xs q r d a b t e =
    let level : a.level ≡ b.level = some_same a.level b.level (sym a.there ∙ ap (slice_get xs) t ∙ b.there) in
    let own : a.parents ≡ b.parents = sym (ap (λ (u : Question). lineage u.own) a.is) ∙ e ∙ ap (λ (u : Question). lineage u.own) b.is in
    let there : slice_get a.level b.place ≡ Some (Module b.parents b.value) = ap (λ x. slice_get x b.place) level ∙ b.stands in
    let place : a.place ≡ b.place = (d.levels q.level a.level a.there).apart a.place b.place (Module a.parents a.value) (Module b.parents b.value) a.stands there own in
    let value : a.value ≡ b.value =
    module_same a.parents b.parents a.value b.value (some_same (Module a.parents a.value) (Module b.parents b.value) (sym a.stands ∙ ap (slice_get a.level) place ∙ there)) in
    a.is ∙ moved s q.level r.level a.level b.level a.place b.place a.parents b.parents a.value b.value t level place own value ∙ sym b.is

-- one of the questions is found at its level and lineage, or one before it
found_some : (q : Question) (qs : List Question) (i : ℕ) → slice_get qs i ≡ Some q → (r : Question) × (question_at q.level (lineage q.own) qs ≡ Some r)
found_some q [] i h = cc
found_some q (r ∷ qs) zero h =
    let e : r ≡ q = cc in
    let here : eqb r.level q.level && same_lineage (lineage q.own) (lineage r.own) ≡ true = rw e (rw (same_number_refl q.level, same_lineage_refl (lineage q.own)) refl) in
    (r, ap (λ b. cond b (Some r) (question_at q.level (lineage q.own) qs)) here)
found_some q (r ∷ qs) (suc i) h = by_test (eqb r.level q.level && same_lineage (lineage q.own) (lineage r.own)) (found_some q qs i h)
  where
    by_test : (b : Bool) → (u : Question) × (question_at q.level (lineage q.own) qs ≡ Some u) → (u : Question) × (cond b (Some r) (question_at q.level (lineage q.own) qs) ≡ Some u)
    by_test true k = (r, refl)
    by_test false k = k

-- what is found is one of them
found_among : (t : ℕ) (l : List ℕ) (qs : List Question) (q : Question) → question_at t l qs ≡ Some q → (i : ℕ) × (slice_get qs i ≡ Some q)
found_among t l [] q h = cc
found_among t l (r ∷ qs) q h = by_test (eqb r.level t && same_lineage l (lineage r.own)) (found_among t l qs q) h
  where
    by_test : (b : Bool) → (question_at t l qs ≡ Some q → (i : ℕ) × (slice_get qs i ≡ Some q)) → cond b (Some r) (question_at t l qs) ≡ Some q
        → (i : ℕ) × (slice_get (r ∷ qs) i ≡ Some q)
    by_test true f k = (0, k)
    by_test false f k = let e = f k in (suc e.0, e.1)

pub among : (old new : System) (limit limit' : ℕ) (xs ys : List (List LevelSymbol)) → WellSpelled old → WellSpelled new → meaning old limit ≡ Ok xs → meaning new limit' ≡ Ok ys
    → (i : ℕ) (q : Question) → slice_get (questions new ys) i ≡ Some q
    → (is_needed (questions old xs) q ≡ false) ↔ ((k : ℕ) × (slice_get (questions old xs) k ≡ Some q))
among old new limit limit' xs ys w w' h h' i q g =
    let d = derived old limit xs w h in
    let same = answered old new xs ys d (derived new limit' ys w' h') i q g in (
      λ n. found_among q.level (lineage q.own) (questions old xs) q (same.0 n),
      λ m.
          let f = found_some q (questions old xs) m.0 m.1 in
          let r : IsFound old xs q.level (lineage q.own) f.0 = found_asked old xs q.level (lineage q.own) (questions old xs) f.0 (all_asked old xs) f.1 in
          let a : IsAsked old xs q = each_at (IsAsked old xs) (questions old xs) m.0 q (all_asked old xs) m.1 in
          let one : f.0 ≡ q = same_asked old xs f.0 q d r.asked a r.level (sym r.lineages) in
          same.1 (f.1 ∙ ap (λ u. Some u) one),
    )
