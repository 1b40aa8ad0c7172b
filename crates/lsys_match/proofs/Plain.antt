-- A group whose first rule asks nothing.
use Rattle.std.proofs.Common.{◌≡◌, ℕ, ℤ, Bool, true, false, not, is_some, ◌&&◌, List, [], ◌∷◌, length, Option, Some, None, Result, Ok, Err, refl, ap, sym, ◌∙◌, ◌==◌, eq-eqb, arith, append-nil, IsTrue, ◌↔◌}
use Rattle.std.specs.Prelude.{slice_get}
use Rattle.std.proofs.lemmas.Bool.{eqb-true}
use Rattle.std.proofs.lemmas.Option.{same_Some}
use Rattle.lsys_spec.specs.Bodies.{Body, Pattern, Patterns, Done, OneOf, BranchOf}
use Rattle.lsys_spec.specs.Levels.{ModuleValue}
use Rattle.lsys_spec.specs.Values.{Tree}
use Rattle.lsys_spec.specs.Walks.{Told}
use Rattle.lsys_spec.specs.Choice.{Choice, Chosen}
use Rattle.lsys_spec.specs.Standings.{free, no_left, no_patterns}
use Rattle.lsys_walks.specs.Views.{decoded}
use Rattle.lsys_walks.specs.declared.entry.Entry.{Entry}
use Rattle.lsys_match.specs.declared.refusal.AskRefusal.{AskRefusal}
use Rattle.lsys_match.specs.declared.refusal.AskRefusal.TheVariants.{Fault, Memory}
use Rattle.lsys_match.specs.Answered.{CountsEntries, trace_told}
use Rattle.lsys_match.specs.Asking.{is_plain, told_for}
use Rattle.lsys_match.specs.Groups.{asks_nothing}
use Rattle.lsys_match.specs.Sites.{Site, choice_told}
use Rattle.lsys_match.specs.TagQuestions.{Posed}

-- the first of some rules
pub asks_first : (bs : List Body) (o : Option Body) → o ≡ slice_get bs 0 → asks_nothing bs ≡ (elim o [ None ↦ false | Some b ↦ free (b ∷ []) && not (is_some b.condition) ])
asks_first [] None h = refl
asks_first [] (Some b) h = cc h
asks_first (b ∷ bs) None h = cc h
asks_first (b ∷ bs) (Some c) h = ap (λ (b : Body). free (b ∷ []) && not (is_some b.condition)) (sym (same_Some c b h))

parts : (left : List Pattern) (right : Patterns) (condition : Option Tree) → (((no_left left && no_patterns right) && true) && not (is_some condition)) ≡ true → (left ≡ []) × (right ≡ Done) × (condition ≡ None)
parts [] Done None h = (refl, refl, refl)
parts [] Done (Some t) h = cc h
parts [] (OneOf q p) c h = cc h
parts [] (BranchOf q p) c h = cc h
parts (q ∷ qs) right c h = cc h

choice_plain : (naming : ℕ → List ℕ) (s : Site) (key : Option ℕ) (bs : List Body) → (not (is_some key) && asks_nothing bs) ≡ true → choice_told naming s key bs ≡ record { entries = []; answer = Chosen 0 s.own.params }
choice_plain naming s (Some k) bs h = cc h
choice_plain naming s None [] h = cc h
choice_plain naming s None (b ∷ bs) h =
    let e = parts b.left b.right b.condition h in
    let bare : b ≡ record b { left = []; right = Done; condition = None } = (λ i. record { left = e.0 i; own = b.own; right = e.1 i; condition = e.2 i; weight = b.weight; successor = b.successor }) in
    ap (λ (b : Body). choice_told naming s None (b ∷ bs)) bare
    ∙ ap (λ values. let t : Told Choice = record { entries = []; answer = Chosen 0 values } in t) (append-nil s.own.params)

-- nothing is read, and it is chosen
pub told_plain : (naming : ℕ → List ℕ) (s : Site) (d : Posed) → is_plain d ≡ true → told_for naming s d ≡ record { entries = []; answer = Chosen 0 s.own.params }
told_plain naming s d h = choice_plain naming s d.key d.bodies h

pub trace_plain : (naming : ℕ → List ℕ) (s : Site) (d : Posed) → is_plain d ≡ true → trace_told (told_for naming s d) ≡ []
trace_plain naming s d h = ap trace_told (told_plain naming s d h)

pub answer_plain : (naming : ℕ → List ℕ) (s : Site) (d : Posed) (m : ModuleValue) → is_plain d ≡ true → s.own ≡ m → (told_for naming s d).answer ≡ Chosen 0 m.params
answer_plain naming s d m h e = ap (λ (t : Told Choice). t.answer) (told_plain naming s d h) ∙ ap (λ (m : ModuleValue). Chosen 0 m.params) e

counts_none : {T : Type 0} (n : ℕ) (r : Result T AskRefusal) → CountsEntries 0 n n r
counts_none n (Ok a) = omega arith
counts_none n (Err (Fault k)) = omega arith
counts_none n (Err Memory) = (omega arith, omega arith)

-- none is counted
pub counts_plain : {T : Type 0} (naming : ℕ → List ℕ) (s : Site) (d : Posed) (n : ℕ) (r : Result T AskRefusal) → is_plain d ≡ true → CountsEntries (length (trace_told (told_for naming s d))) n n r
counts_plain naming s d n r h = rw (trace_plain naming s d h) (counts_none n r)

-- an old trace without entries

no_entries : (es : List Entry) (vs : List ℤ) → length es ≡ 0 → Some (decoded es vs) ≡ Some []
no_entries [] vs h = refl
no_entries (e ∷ es) vs h = absurd (omega (arith, h))

entries_none : (es : List Entry) (vs : List ℤ) → Some (decoded es vs) ≡ Some [] → length es ≡ 0
entries_none [] vs h = refl
entries_none (e ∷ es) vs h = let k = same_Some _ _ h in cc k

pub unread_trace : (es : List Entry) (vs : List ℤ) (r : Bool) → r ≡ (length es == 0) → IsTrue r ↔ (Some (decoded es vs) ≡ Some [])
unread_trace es vs r e = (
  λ t. no_entries es vs (eqb-true (length es) 0 (sym e ∙ t)),
  λ h. e ∙ eq-eqb (length es) 0 (entries_none es vs h),
)
