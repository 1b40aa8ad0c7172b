-- A question isn't needed exactly where the old system has it.
use Rattle.std.proofs.Common.{◌≡◌, ℕ, true, false, ◌&&◌, Option, Some, None, List, [], ◌∷◌, suc, length, refl, ap, sym, ◌∙◌, subst}
use Rattle.std.specs.Prelude.{not, slice_get, ◌↔◌}
use Rattle.lsys_spec.specs.Systems.{System, Each}
use Rattle.lsys_spec.specs.Bodies.{Body, group}
use Rattle.lsys_spec.specs.Levels.{ModuleValue, LevelSymbol, lineage}
use Rattle.lsys_spec.specs.Walks.{Mark, Entry, Compared, Ignored, Out, Branched, lineages_named}
use Rattle.lsys_spec.specs.Equalities.{same_number, same_option, same_all, same_lineage, same_symbol, same_body, same_mark, same_entry}
use Rattle.lsys_spec.specs.Questions.{Question, question, questions, same_question, question_at, differs, is_needed}
use Rattle.lsys_spec.specs.LevelLaws.{StandsIn}
use Rattle.lsys_spec.proofs.Eachs.{each_at, each_more}
use Rattle.lsys_spec.proofs.Equal.{same_number_true, same_lineage_true, same_question_refl}
use Rattle.lsys_spec.proofs.Names.{NamedSymbol, NamedBody, same_all_true, same_plain_option, same_symbol_true, same_body_true}
use Rattle.lsys_spec.proofs.Named.{Has, OfEntry, trace_of}
use Rattle.lsys_spec.proofs.Needs.{IsAsked, all_asked, IsFound, found_asked, Derived, own_named, bodies_named}
use Rattle.lsys_spec.proofs.Tests.{both, not_false}

-- the tests of equality, where names are names of the language

same_mark_true : (a b : Mark) → same_mark a b ≡ true → a ≡ b
same_mark_true a b h =
    let e = both (same_number a.rule b.rule) (same_number a.depth b.depth) h in
    let p : a.rule ≡ b.rule = same_number_true a.rule b.rule e.0 in
    let q : a.depth ≡ b.depth = same_number_true a.depth b.depth e.1 in
    λ i. record { rule = p i; depth = q i }

same_entry_true : (e f : Entry) → OfEntry NamedSymbol e → OfEntry NamedSymbol f → same_entry e f ≡ true → e ≡ f
same_entry_true (Compared d s) (Compared k t) u v h =
    let e = both (same_mark d k) (same_symbol s t) h in ap (λ d. Compared d s) (same_mark_true d k e.0) ∙ ap (Compared k) (same_symbol_true s t u v e.1)
same_entry_true (Ignored d s) (Ignored k t) u v h =
    let e = both (same_mark d k) (same_symbol s t) h in ap (λ d. Ignored d s) (same_mark_true d k e.0) ∙ ap (Ignored k) (same_symbol_true s t u v e.1)
same_entry_true (Out d l) (Out k m) u v h =
    let e = both (same_mark d k) (same_lineage l m) h in ap (λ d. Out d l) (same_mark_true d k e.0) ∙ ap (Out k) (same_lineage_true l m e.1)
same_entry_true (Branched d o c) (Branched k p q) u v h =
    let e = both (same_mark d k) (same_lineage o p && same_lineage c q) h in
    let f = both (same_lineage o p) (same_lineage c q) e.1 in
    ap (λ d. Branched d o c) (same_mark_true d k e.0) ∙ ap (λ o. Branched k o c) (same_lineage_true o p f.0) ∙ ap (Branched k p) (same_lineage_true c q f.1)
same_entry_true e f u v h = cc

trace_named : (s : System) (xs : List (List LevelSymbol)) (q : Question) → Derived s xs → IsAsked s xs q → Each (OfEntry NamedSymbol) q.trace
trace_named s xs q d a =
    subst (λ (r : Question). Each (OfEntry NamedSymbol) r.trace) (sym a.is)
    (trace_of NamedSymbol s q.level (group s q.level a.value.name (length a.value.params)) a.level a.place a.parents a.value (d.names q.level a.level a.there))

pub same_question_true : (old new : System) (xs ys : List (List LevelSymbol)) → Derived old xs → Derived new ys → (was q : Question) → IsAsked old xs was → IsAsked new ys q → same_question was q ≡ true → was ≡ q
same_question_true old new xs ys dx dy was q a b h =
    let e1 = both (same_number was.level q.level) _ h in
    let e2 = both (same_symbol was.own q.own) _ e1.1 in
    let e3 = both (same_all same_body was.bodies q.bodies) _ e2.1 in
    let e4 = both (same_option same_number was.key q.key) (same_all same_entry was.trace q.trace) e3.1 in
    let p1 : was.level ≡ q.level = same_number_true was.level q.level e1.0 in
    let p2 : was.own ≡ q.own = same_symbol_true was.own q.own (own_named old xs was dx a) (own_named new ys q dy b) e2.0 in
    let p3 : was.bodies ≡ q.bodies = same_all_true same_body NamedBody same_body_true was.bodies q.bodies (bodies_named old xs was dx.formed a) (bodies_named new ys q dy.formed b) e3.0 in
    let p4 : was.key ≡ q.key = same_plain_option same_number same_number_true was.key q.key e4.0 in
    let p5 : was.trace ≡ q.trace = same_all_true same_entry (OfEntry NamedSymbol) same_entry_true was.trace q.trace (trace_named old xs was dx a) (trace_named new ys q dy b) e4.1 in
    λ i. record { level = p1 i; own = p2 i; bodies = p3 i; key = p4 i; trace = p5 i }

pub answered : (old new : System) (xs ys : List (List LevelSymbol)) → Derived old xs → Derived new ys → (i : ℕ) (q : Question) → slice_get (questions new ys) i ≡ Some q
    → (is_needed (questions old xs) q ≡ false) ↔ (question_at q.level (lineage q.own) (questions old xs) ≡ Some q)
answered old new xs ys dx dy i q g = (found (question_at q.level (lineage q.own) (questions old xs)) refl, λ e. ap (differs q) e ∙ ap not (same_question_refl q))
  where
    found : (o : Option Question) → question_at q.level (lineage q.own) (questions old xs) ≡ o → differs q o ≡ false → question_at q.level (lineage q.own) (questions old xs) ≡ Some q
    found None e h = cc
    found (Some was) e h =
        let f : IsFound old xs q.level (lineage q.own) was = found_asked old xs q.level (lineage q.own) (questions old xs) was (all_asked old xs) e in
        let b : IsAsked new ys q = each_at (IsAsked new ys) (questions new ys) i q (all_asked new ys) g in
        e ∙ ap (λ q. Some q) (same_question_true old new xs ys dx dy was q f.asked b (not_false (same_question was q) h))

-- what a trace names stands in its level

later_in : (s : LevelSymbol) (x : List LevelSymbol) (a : LevelSymbol) → StandsIn x (lineage a) → StandsIn (s ∷ x) (lineage a)
later_in s x a h = (suc h.0, h.1, h.2, h.3)

all_in : (x : List LevelSymbol) → Each (λ a. StandsIn x (lineage a)) x
all_in [] = tt
all_in (s ∷ x) = ((0, s, refl, refl), each_more (λ a. StandsIn x (lineage a)) (λ a. StandsIn (s ∷ x) (lineage a)) x (later_in s x) (all_in x))

of_symbol : (x : List LevelSymbol) (l : List ℕ) → Has (λ a. StandsIn x (lineage a)) l → StandsIn x l
of_symbol x l h = subst (StandsIn x) h.2 h.1

entry_in : (x : List LevelSymbol) (e : Entry) → OfEntry (λ a. StandsIn x (lineage a)) e → Each (StandsIn x) (lineages_named e)
entry_in x (Compared d s) h = (h, tt)
entry_in x (Ignored d s) h = (h, tt)
entry_in x (Out d l) h = (of_symbol x l h, tt)
entry_in x (Branched d o c) h = (of_symbol x o h.0, (of_symbol x c h.1, tt))

pub trace_present : (s : System) (t : ℕ) (bs : List Body) (x : List LevelSymbol) (p : ℕ) (l : List ℕ) (m : ModuleValue) → Each (λ e. Each (StandsIn x) (lineages_named e)) (question s t bs x p l m).trace
trace_present s t bs x p l m =
    each_more (OfEntry (λ a. StandsIn x (lineage a))) (λ e. Each (StandsIn x) (lineages_named e)) (question s t bs x p l m).trace (entry_in x) (trace_of (λ a. StandsIn x (lineage a)) s t bs x p l m (all_in x))
