-- What is answered by tags, and what the definitions say.
use Rattle.std.proofs.Common.{◌≡◌, ℕ, ℤ, ◌+◌, true, ◌&&◌, List, [], length, Option, Some, None, Result, Ok, Err, refl, ap, sym, ◌∙◌, subst, arith, ◌≤◌}
use Rattle.std.specs.Option.{IsSomeAnd}
use Rattle.std.proofs.lemmas.List.{length-map, length-take}
use Rattle.std.proofs.lemmas.Option.{same_Some}
use Rattle.lsys_syntax.specs.Strings as S
use Rattle.lsys_spec.specs.Draws.{key_of}
use Rattle.lsys_spec.specs.Systems.{System, Each, WellSpelled}
use Rattle.lsys_spec.specs.Bodies.{Body, filter}
use Rattle.lsys_spec.specs.Levels.{ModuleValue, way, items_from}
use Rattle.lsys_spec.specs.Levels as L
use Rattle.lsys_spec.specs.Walks.{Told}
use Rattle.lsys_spec.specs.Choice.{Choice}
use Rattle.lsys_spec.specs.Equalities.{same_all, same_body, same_option, same_number, same_symbol, same_entry}
use Rattle.lsys_spec.specs.Meaning.{most_entries, successor_by}
use Rattle.lsys_spec.specs.Questions.{Question}
use Rattle.lsys_spec.proofs.Equal.{same_question_refl}
use Rattle.lsys_spec.proofs.GroupTells.{told_choice}
use Rattle.lsys_spec.proofs.Names.{NamedBody, same_all_true, same_body_true}
use Rattle.lsys_spec.proofs.Tests.{both}
use Rattle.lsys_spec.proofs.WellNamed.{group_named}
use Rattle.lsys_level.specs.Spots.{Spotted, Module, level_by}
use Rattle.lsys_rewrite.specs.Faults.{fault_of}
use Rattle.lsys_rewrite.specs.declared.refusal.FaultKind.{FaultKind}
use Rattle.lsys_walks.specs.Noted.{Noted, entry_by}
use Rattle.lsys_walks.specs.Stores.{Store}
use Rattle.lsys_match.specs.declared.asked.Asked.{Asked}
use Rattle.lsys_match.specs.declared.posed.Posed.{Posed as CodePosed}
use Rattle.lsys_match.specs.declared.refusal.AskRefusal.{AskRefusal}
use Rattle.lsys_match.specs.declared.refusal.AskRefusal.TheVariants.{Memory, Fault}
use Rattle.lsys_match.specs.declared.told.Reply.{Reply}
use Rattle.lsys_match.specs.Answered.{CountsEntries, IsAnswerTo, IsSoundAnswer, place_chosen, trace_told}
use Rattle.lsys_match.specs.Asking.{IsPosedAt, posed_by, site_at, told_for}
use Rattle.lsys_match.specs.Asks.{ByDefinition, IsAnswer, IsAnswered, IsKept, IsMadeIfAny, IsNamedAt, IsNew, IsTraceFor, by_definition}
use Rattle.lsys_match.specs.Kept.{Kept}
use Rattle.lsys_match.specs.Sites.{asking_at}
use Rattle.lsys_match.specs.Stored.{answer_in, posed_in, question_in}
use Rattle.lsys_match.specs.TagQuestions.{IsSamePosed, Posed, TagAnswer, TagQuestion, posed_of}
use Rattle.lsys_match.specs.Telling.{IsTelling, reply_answer}
use Rattle.lsys_match.specs.Tries.{entries_by}

-- 1. the same is posed

all_same : (bs : List Body) → same_all same_body bs bs ≡ true
all_same bs =
    let q : Question = record { level = 0; own = L.Push []; bodies = bs; key = None; trace = [] } in
    let rest = same_option same_number q.key q.key && same_all same_entry q.trace q.trace in
    let e1 = both (same_number 0 0) (same_symbol q.own q.own && (same_all same_body bs bs && rest)) (same_question_refl q) in
    let e2 = both (same_symbol q.own q.own) (same_all same_body bs bs && rest) e1.1 in
    (both (same_all same_body bs bs) rest e2.1).0

pub same_posed : (a b : Posed) → a ≡ b → IsSamePosed a b
same_posed a b e = subst (IsSamePosed a) e (record { tag = refl; own = refl; bodies = all_same a.bodies; key = refl })

pub posed_same : (a b : Posed) → Each NamedBody a.bodies → Each NamedBody b.bodies → IsSamePosed a b → a ≡ b
posed_same a b v w h =
    let e : a.bodies ≡ b.bodies = same_all_true same_body NamedBody same_body_true a.bodies b.bodies v w h.bodies in
    λ i. record { tag = h.tag i; own = h.own i; bodies = e i; key = h.key i }

pub posed_named : (s : System) (t : ℕ) (row : List Spotted) (p : ℕ) (d : Posed) → WellSpelled s → IsPosedAt s t row p d → Each NamedBody d.bodies
posed_named s t row p d w h = subst (λ (d : Posed). Each NamedBody d.bodies) (sym h.posed) (group_named s w t d.own.name (length d.own.params))

-- 2. by the definitions

seen_own : (m n : ModuleValue) → Module m ≡ Module n → m ≡ n
seen_own m n e = cc

module _ (s : System) (t : ℕ) (row : List Spotted) (p : ℕ) (d : Posed) (h : IsPosedAt s t row p d) (naming : ℕ → List ℕ) (tag : ℕ) (m : ModuleValue) (w : IsNamedAt naming s.seed row p tag m) where
  due : Posed
  due = posed_of s t tag (key_of s.seed (naming tag)) m

  is_due : d ≡ due
  unfolding due
  is_due =
      let k : key_of s.seed (naming tag) ≡ key_of s.seed (naming tag) = refl in
      let e = same_Some _ _ (sym h.here ∙ w.here) in
      let own : d.own ≡ m = seen_own d.own m (ap (λ (a : Spotted). a.seen) e) in
      let t' : d.tag ≡ tag = ap (λ (a : Spotted). a.tag) e in
      let key : h.key ≡ key_of s.seed (naming tag) = ap (λ (a : Spotted). a.key) e in
      h.posed ∙ (λ i. posed_of s t (t' i) (key i) (own i))

  abbrev told_here : Posed → (ℕ → List ℕ) → Told Choice
  told_here d naming = told_for naming (site_at s t row p d.own) d

  abbrev def : ByDefinition
  def = by_definition s t (level_by naming row) p (naming tag) m

  pub count_here : length (trace_told (told_here d naming)) ≡ length def.question.trace
  unfolding due
  count_here = ap (λ d. length (trace_told (told_here d naming))) is_due

  pub fault_here : (k : FaultKind) → successor_by d.bodies d.own (told_here d naming).answer ≡ Err (fault_of k) → Err (fault_of k) ≡ def.successor
  unfolding due
  fault_here k e = sym e ∙ ap (λ (d : Posed). successor_by d.bodies d.own (told_here d naming).answer) is_due

  pub answer_here : (trace : List Noted) (chosen : Option ℕ) (successor : List (S.Symbol ℤ))
      → IsAnswerTo (told_here d) (record { question = record { posed = d; trace = trace }; chosen = chosen; successor = successor })
      → IsAnswer naming def (record { question = record { posed = d; trace = trace }; chosen = chosen; successor = successor })
  unfolding due
  answer_here trace chosen successor =
      let G : Posed → Type 0 = (λ d. IsAnswerTo (told_here d) (record { question = record { posed = d; trace = trace }; chosen = chosen; successor = successor })
      → IsAnswer naming def (record { question = record { posed = d; trace = trace }; chosen = chosen; successor = successor })) in
      subst G (sym is_due) (λ a. record {
        question = ap (λ tr. let q : Question = record { level = t; own = L.Module (naming tag) m; bodies = due.bodies; key = due.key; trace = tr } in q) (a.trace naming);
        chosen = sym (a.chosen naming);
        successor = sym (a.successor naming);
      })

-- 3. an old answer to the same question

pub answer_again : (s : System) (t : ℕ) (row : List Spotted) (p : ℕ) (d : Posed) (trace : List Noted) (a : TagAnswer)
    → IsSoundAnswer a → a.question.posed ≡ d → a.question.trace ≡ trace → ((naming : ℕ → List ℕ) → entries_by naming trace ≡ trace_told (told_for naming (site_at s t row p d.own) d))
    → IsAnswerTo (λ naming. told_for naming (site_at s t row p d.own) d) a
answer_again s t row p d trace a h e i r =
    subst (λ (d : Posed). IsAnswerTo (λ naming. told_for naming (site_at s t row p d.own) d) a) e (record {
      trace = again;
      chosen = λ naming. sym (ap place_chosen (same naming)) ∙ h.answer.told.chosen naming;
      successor = λ naming. sym (ap (successor_by b.bodies b.own) (same naming)) ∙ h.answer.told.successor naming;
    })
  where
    b : Posed
    b = a.question.posed

    old : (ℕ → List ℕ) → Told Choice
    old naming = told_for naming (site_at h.system h.level h.row h.place b.own) b

    new : (ℕ → List ℕ) → Told Choice
    new naming = told_for naming (site_at s t row p b.own) b

    again : (naming : ℕ → List ℕ) → entries_by naming a.question.trace ≡ trace_told (new naming)
    again naming = ap (entries_by naming) i ∙ r naming ∙ ap (λ (d : Posed). trace_told (told_for naming (site_at s t row p d.own) d)) (sym e)

    same : (naming : ℕ → List ℕ) → (old naming).answer ≡ (new naming).answer
    same naming =
        told_choice (asking_at (site_at h.system h.level h.row h.place b.own)) (asking_at (site_at s t row p b.own)) b.key
        (way (level_by naming h.row) h.place) (way (level_by naming row) p) (items_from (level_by naming h.row) (h.place + 1)) (items_from (level_by naming row) (p + 1)) b.bodies refl
        (sym (h.answer.told.trace naming) ∙ again naming)

-- 4. what asking answers

pub counts_ok : (T : Type 0) (n old new : ℕ) (x : Result T AskRefusal) (a : T) → x ≡ Ok a → CountsEntries n old new x → new ≡ old + n
counts_ok T n old new x a e h = subst (CountsEntries n old new) e h

pub counts_err : (T U : Type 0) (n old new : ℕ) (x : Result T AskRefusal) (y : Result U AskRefusal) (r : AskRefusal) → x ≡ Err r → y ≡ Err r → CountsEntries n old new x → CountsEntries n old new y
counts_err T U n old new x y r e i h = subst (CountsEntries n old new) (sym i) (by r (subst (CountsEntries n old new) e h))
  where
    by : (r : AskRefusal) → CountsEntries {T = T} n old new (Err r) → CountsEntries {T = U} n old new (Err r)
    by Memory h = h
    by (Fault k) h = h

module _ (q : CodePosed) (s : System) (t : ℕ) (row row' : List Spotted) (p : ℕ) (e : row' ≡ row) (posed : IsPosedAt s t row' p (posed_by q)) where
  abbrev d : Posed
  d = posed_by q

  abbrev heard : (ℕ → List ℕ) → Told Choice
  heard naming = told_for naming (site_at s t row' p d.own) d

  posed_here : IsPosedAt s t row p d
  posed_here = subst (λ row. IsPosedAt s t row p d) e posed

  heard_is : (naming : ℕ → List ℕ) → heard naming ≡ told_for naming (site_at s t row p d.own) d
  heard_is naming = λ i. told_for naming (record { row = e i; place = p; own = d.own; filter = filter s t }) d

  pub few_read : (r : Reply) → IsAnswerTo heard (reply_answer q r) → length r.trace ≤ most_entries + 1
  few_read r h =
      let naming : ℕ → List ℕ = (λ t. []) in
      let n = length-take (most_entries + 1) (heard naming).entries in
      let m = sym (length-map r.trace (entry_by naming)) ∙ ap length (h.trace naming) in
      omega (arith, n, m)

  answers : (a : TagAnswer) → IsAnswerTo heard a → IsAnswerTo (λ naming. told_for naming (site_at s t row p d.own) d) a
  answers a h = record {
    trace = λ naming. h.trace naming ∙ ap trace_told (heard_is naming);
    chosen = λ naming. ap (λ (u : Told Choice). place_chosen u.answer) (sym (heard_is naming)) ∙ h.chosen naming;
    successor = λ naming. ap (λ (u : Told Choice). successor_by a.question.posed.bodies a.question.posed.own u.answer) (sym (heard_is naming)) ∙ h.successor naming;
  }

  module _ (naming : ℕ → List ℕ) (tag : ℕ) (m : ModuleValue) (w : IsNamedAt naming s.seed row p tag m) where
    abbrev meaning : ByDefinition
    meaning = by_definition s t (level_by naming row) p (naming tag) m

    pub counted : (T : Type 0) (old before new : ℕ) (r : Result T AskRefusal) → old ≡ before → CountsEntries (length (trace_told (heard naming))) old new r → CountsEntries (length meaning.question.trace) before new r
    counted T old before new r i h = subst (λ old. CountsEntries (length meaning.question.trace) old new r) i (subst (λ n. CountsEntries n old new r) (ap (λ (u : Told Choice). length (trace_told u)) (heard_is naming) ∙ count_here s t row p d posed_here naming tag m w) h)

    failed_by : (L : Type 0) (store : Store) (old : Option Kept) (was : Option (List Noted)) (r : AskRefusal) → IsTelling heard q was (Err r) → IsAnswered {L = L} naming meaning store old (Err r)
    failed_by L store old was Memory h = tt
    failed_by L store old was (Fault k) h = fault_here s t row p d posed_here naming tag m w k (ap (λ (u : Told Choice). successor_by d.bodies d.own u.answer) (sym (heard_is naming)) ∙ h naming)

    pub failed : (L : Type 0) (store : Store) (old : Option Kept) (was : Option (List Noted)) (r : AskRefusal) (x : Result (Asked L) AskRefusal) → x ≡ Err r → IsTelling heard q was (Err r) → IsAnswered naming meaning store old x
    failed L store old was r x e h = subst (IsAnswered naming meaning store old) (sym e) (failed_by L store old was r h)

    answered : (a : TagAnswer) → a.question.posed ≡ d → IsAnswerTo (λ naming. told_for naming (site_at s t row p d.own) d) a → IsAnswer naming meaning a
    answered a e =
        let G : Posed → Type 0 = (λ x. let b : TagAnswer = record { question = record { posed = x; trace = a.question.trace }; chosen = a.chosen; successor = a.successor } in
        IsAnswerTo (λ naming. told_for naming (site_at s t row p d.own) d) b → IsAnswer naming meaning b) in
        subst G (sym e) (answer_here s t row p d posed_here naming tag m w a.question.trace a.chosen a.successor)

    pub new_answer : (r : Reply) (before after : Store) (a : Kept) → IsAnswerTo heard (reply_answer q r) → IsKept before after (reply_answer q r) a → IsAnswer naming meaning (answer_in after a)
    new_answer r before after a h k = subst (IsAnswer naming meaning) (sym k.answer) (answered (reply_answer q r) refl (answers (reply_answer q r) h))

    pub old_answer : (store : Store) (old : Option Kept) (was : Option (List Noted)) → WellSpelled s → IsMadeIfAny store old → IsTraceFor store old d was → (read : List Noted) → was ≡ Some read → ((naming : ℕ → List ℕ) → entries_by naming read ≡ trace_told (heard naming))
        → IsSomeAnd old (λ a. IsAnswer naming meaning (answer_in store a))
    old_answer store None None v made k read i h = cc i
    old_answer store None (Some was) v made k read i h = absurd k
    old_answer store (Some a) None v made k read i h = cc i
    old_answer store (Some a) (Some was) v made k read i h =
        let b : TagAnswer = answer_in store a in
        let f : b.question.posed ≡ d = posed_same b.question.posed d (posed_named made.sound.system made.sound.level made.sound.row made.sound.place b.question.posed made.sound.spelled made.sound.answer.posed) (posed_named s t row p d v posed_here) k.1 in
        answered b f (answer_again s t row p d read b made.sound f (k.0 ∙ same_Some was read i) (λ naming. h naming ∙ ap trace_told (heard_is naming)))

  pub new_one : (v : WellSpelled s) (r : Reply) (before after : Store) (old : Option Kept) (was : Option (List Noted)) (a : Kept) → IsTraceFor before old d was → (was ≡ Some r.trace → ⊥) → IsAnswerTo heard (reply_answer q r) → IsKept before after (reply_answer q r) a
      → IsNew before after old a
  new_one v r before after old was a f n h k = record {
    made = record {
      live = k.live;
      params = k.params;
      sound = subst IsSoundAnswer (sym k.answer) (record { system = s; spelled = v; level = t; row = row; place = p; answer = record { posed = posed_here; told = answers (reply_answer q r) h } });
    };
    other = λ o i j. differs o was (subst (λ o. IsTraceFor before o d was) i f) n (j ∙ ap (λ (a : TagAnswer). a.question) k.answer);
    fresh = k.fresh;
    others = k.others;
  }
    where
      differs : (o : Kept) (was : Option (List Noted)) → IsTraceFor before (Some o) d was → (was ≡ Some r.trace → ⊥) → question_in before o ≡ (reply_answer q r).question → ⊥
      differs o None f n j = f (same_posed (posed_in before o) d (ap (λ (q : TagQuestion). q.posed) j))
      differs o (Some was) f n j = n (ap (λ x. Some x) (sym f.0 ∙ ap (λ (q : TagQuestion). q.trace) j))
