-- What replaces a symbol, by what asking answers.
use Rattle.std.proofs.Common.{◌≡◌, ℕ, Option, Some, None, Result, Ok, Err, List, [], ◌∷◌, length, refl, sym, ap, ◌∙◌, subst}
use Rattle.std.specs.Prelude.{option_map, IfNone, IfSome, MatchOption}
use Rattle.std.specs.Option.{IsSomeAnd}
use Rattle.std.proofs.lemmas.Option.{same_Some}
use Rattle.lsys_syntax.specs.Strings as S
use Rattle.lsys_spec.specs.Draws.{key_of}
use Rattle.lsys_spec.specs.Systems.{System}
use Rattle.lsys_spec.specs.Bodies.{Body, group}
use Rattle.lsys_spec.specs.Levels as L
use Rattle.lsys_spec.specs.Levels.{LevelSymbol, ModuleValue, plain, lineage}
use Rattle.lsys_spec.specs.Meaning.{asked as asked_of, successor_by, successor, replacement}
use Rattle.lsys_spec.specs.Questions.{Question, question}
use Rattle.lsys_laws.specs.KeptQuestions.{where_grouped, question_here}
use Rattle.lsys_level.specs.Spots.{Module, Spotted, level_by, seen_by}
use Rattle.lsys_match.specs.Answered.{CountsEntries}
use Rattle.lsys_match.specs.Asking.{HasQuestion}
use Rattle.lsys_match.specs.Asks.{ByDefinition, IsAnswer, IsAnswered, IsNamedAt, KeepsStore, asked_if_any, by_definition}
use Rattle.lsys_match.specs.Kept.{Kept}
use Rattle.lsys_match.specs.Stored.{answer_in}
use Rattle.lsys_match.specs.declared.asked.Asked.{Asked}
use Rattle.lsys_match.specs.declared.asked.Asked.TheVariants as asked
use Rattle.lsys_match.specs.declared.refusal.AskRefusal.{AskRefusal}
use Rattle.lsys_match.specs.declared.refusal.AskRefusal.TheVariants as refusals
use Rattle.lsys_walks.specs.Stores.{Store}
use Rattle.lsys_module.specs.Views.{string_of}
use Rattle.lsys_flat.specs.Replaced.{IsAsked, IsRecalled, IsSymbolAt, IsReplaced, KeepsFound, found_of}

some_and : {A : Type 0} (P Q : A → Type 0) (o : Option A) → ((a : A) → P a → Q a) → IsSomeAnd o P → IsSomeAnd o Q
some_and P Q None f h = h
some_and P Q (Some a) f h = f a h

-- 1. a symbol without a question

none_chosen : (s : System) (t : ℕ) (x : List LevelSymbol) (p : ℕ) (l : List ℕ) (m : ModuleValue) → group s t m.name (length m.params) ≡ [] → successor s t x p l m ≡ Ok (S.Module m.name m.params ∷ [])
none_chosen s t x p l m e = ap (λ bs. successor_by bs m (asked_of s t bs x p l m).answer) e

-- it is a bracket, or there are no rules for it
abbrev IsUnruled : System → ℕ → LevelSymbol → Type 0
IsUnruled s t a = (m : ModuleValue) → seen_by a ≡ Module m → group s t m.name (length m.params) ≡ []

unruled_stays : (s : System) (t : ℕ) (x : List LevelSymbol) (p : ℕ) (a : LevelSymbol) → IsUnruled s t a → replacement s t x p a ≡ Ok (plain a ∷ [])
unruled_stays s t x p (L.Push l) h = refl
unruled_stays s t x p (L.Pop l) h = refl
unruled_stays s t x p (L.Module l m) h = none_chosen s t x p l m (h m refl)

unruled_asks_none : (s : System) (t : ℕ) (x : List LevelSymbol) (p : ℕ) (a : LevelSymbol) → IsUnruled s t a → question_here s t x p a ≡ None
unruled_asks_none s t x p (L.Push l) h = refl
unruled_asks_none s t x p (L.Pop l) h = refl
unruled_asks_none s t x p (L.Module l m) h = ap (λ bs. where_grouped bs (question s t bs x p l m)) (h m refl)

-- 2. a module with a question

-- a module's replacement is its successor
ruled : (s : System) (t : ℕ) (x : List LevelSymbol) (p : ℕ) (a : LevelSymbol) (m : ModuleValue) → seen_by a ≡ Module m → replacement s t x p a ≡ successor s t x p (lineage a) m
ruled s t x p (L.Push l) m e = cc
ruled s t x p (L.Pop l) m e = cc
ruled s t x p (L.Module l k) m e = let same : k ≡ m = cc in ap (λ m. successor s t x p l m) same

ruled_asks : (s : System) (t : ℕ) (x : List LevelSymbol) (p : ℕ) (a : LevelSymbol) (m : ModuleValue) → seen_by a ≡ Module m → (group s t m.name (length m.params) ≡ [] → ⊥)
    → question_here s t x p a ≡ Some (by_definition s t x p (lineage a) m).question
ruled_asks s t x p (L.Push l) m e h = cc
ruled_asks s t x p (L.Pop l) m e h = cc
ruled_asks s t x p (L.Module l k) m e h =
    let same : k ≡ m = cc in
    some (group s t k.name (length k.params)) (question s t (group s t k.name (length k.params)) x p l k) (λ i. h (ap (λ (m : ModuleValue). group s t m.name (length m.params)) (sym same) ∙ i))
    ∙ ap (λ (m : ModuleValue). Some (by_definition s t x p l m).question) same
  where
    some : (bs : List Body) (q : Question) → (bs ≡ [] → ⊥) → where_grouped bs q ≡ Some q
    some [] q h = absurd (h refl)
    some (b ∷ bs) q h = refl

-- 3. a symbol at its place

module _ (naming : ℕ → List ℕ) (s : System) (t : ℕ) (row : List Spotted) (p : ℕ) (a : LevelSymbol) (h : IsSymbolAt naming s.seed row p a) where
  abbrev x : List LevelSymbol
  x = level_by naming row

  abbrev d : ModuleValue → ByDefinition
  d m = by_definition s t x p (naming h.tag) m

  named_there : (m : ModuleValue) → seen_by a ≡ Module m → IsNamedAt naming s.seed row p h.tag m
  named_there m e = record { here = h.here ∙ (λ i. Some (record { seen = e i; tag = h.tag; key = key_of s.seed (sym h.line i) })) }

  unasked : (HasQuestion s t row p → ⊥) → IsUnruled s t a
  unasked n m e = by (group s t m.name (length m.params)) refl
    where
      by : (bs : List Body) → group s t m.name (length m.params) ≡ bs → bs ≡ []
      by [] k = refl
      by (b ∷ bs) k =
          let q : HasQuestion s t row p = record { here = record { tag = h.tag; key = key_of s.seed (naming h.tag); own = m; here = (named_there m e).here }; rules = λ z. let e = sym k ∙ z in cc } in
          absurd (n q)

  seen_asked : (q : HasQuestion s t row p) → seen_by a ≡ Module q.here.own
  seen_asked q = same_Some (seen_by a) (Module q.here.own) (sym (ap (option_map (λ s. s.seen)) h.here) ∙ ap (option_map (λ s. s.seen)) q.here.here)

  goes_on : (q : HasQuestion s t row p) → replacement s t x p a ≡ (d q.here.own).successor
  goes_on q = ruled s t x p a q.here.own (seen_asked q) ∙ ap (λ l. (by_definition s t x p l q.here.own).successor) (sym h.line)

  is_asked : (q : HasQuestion s t row p) → question_here s t x p a ≡ Some (d q.here.own).question
  is_asked q = ruled_asks s t x p a q.here.own (seen_asked q) q.rules ∙ ap (λ l. Some (by_definition s t x p l q.here.own).question) (sym h.line)

  pub replaced_as : {L : Type 0} (store : Store) (old : Option Kept) (r : Result (Option (Asked L)) AskRefusal) → IfNone (asked_if_any r) (HasQuestion s t row p → ⊥) → IfSome (asked_if_any r) (λ _. HasQuestion s t row p)
      → ((tag : ℕ) (m : ModuleValue) → IsNamedAt naming s.seed row p tag m → IfSome (asked_if_any r) (IsAnswered naming (by_definition s t x p (naming tag) m) store old))
      → IsReplaced (replacement s t x p a) a old (found_of r)
  replaced_as store old (Ok None) n q f = unruled_stays s t x p a (unasked n)
  replaced_as store old (Ok (Some asked.Same)) n q f =
      some_and (λ o. IsAnswer naming (d q.here.own) (answer_in store o)) (λ o. replacement s t x p a ≡ Ok (string_of o.successor)) old (λ o k. goes_on q ∙ sym k.successor) (f h.tag q.here.own (named_there q.here.own (seen_asked q)))
  replaced_as store old (Ok (Some (asked.New b))) n q f = goes_on q ∙ sym (f h.tag q.here.own (named_there q.here.own (seen_asked q))).successor
  replaced_as store old (Err (refusals.Fault k)) n q f = goes_on q ∙ sym (f h.tag q.here.own (named_there q.here.own (seen_asked q)))
  replaced_as store old (Err refusals.Memory) n q f = tt

  pub visited_as : {L : Type 0} (before after : ℕ) (r : Result (Option (Asked L)) AskRefusal) → IfNone (asked_if_any r) (HasQuestion s t row p → ⊥) → IfSome (asked_if_any r) (λ _. HasQuestion s t row p) → IfNone (asked_if_any r) (after ≡ before)
      → ((tag : ℕ) (m : ModuleValue) → IsNamedAt naming s.seed row p tag m → IfSome (asked_if_any r) (CountsEntries {T = Asked L} (length (by_definition s t x p (naming tag) m).question.trace) before after))
      → IsAsked (question_here s t x p a) before after (found_of r)
  visited_as {L} before after (Ok None) n q same f = subst (λ o. IsAsked {L = L} o before after (found_of (Ok None))) (sym (unruled_asks_none s t x p a (unasked n))) same
  visited_as {L} before after (Ok (Some asked.Same)) n q same f = subst (λ o. IsAsked {L = L} o before after (found_of (Ok (Some asked.Same)))) (sym (is_asked q)) (f h.tag q.here.own (named_there q.here.own (seen_asked q)))
  visited_as {L} before after (Ok (Some (asked.New b))) n q same f = subst (λ o. IsAsked {L = L} o before after (found_of (Ok (Some (asked.New b))))) (sym (is_asked q)) (f h.tag q.here.own (named_there q.here.own (seen_asked q)))
  visited_as {L} before after (Err (refusals.Fault k)) n q same f = subst (λ o. IsAsked {L = L} o before after (found_of (Err (refusals.Fault k)))) (sym (is_asked q)) (f h.tag q.here.own (named_there q.here.own (seen_asked q)))
  visited_as {L} before after (Err refusals.Memory) n q same f = subst (λ o. IsAsked {L = L} o before after (found_of (Err refusals.Memory))) (sym (is_asked q)) (f h.tag q.here.own (named_there q.here.own (seen_asked q)))

-- 4. what is kept of it

pub recalled_as : {L : Type 0} (naming : ℕ → List ℕ) (d : ByDefinition) (store : Store) (old : Option Kept) (r : Result (Option (Asked L)) AskRefusal) → IfSome (asked_if_any r) (IsAnswered naming d store old) → IsRecalled naming d store old (found_of r)
recalled_as naming d store old (Ok None) h = tt
recalled_as naming d store old (Ok (Some asked.Same)) h = h
recalled_as naming d store old (Ok (Some (asked.New b))) h = h
recalled_as naming d store old (Err e) h = tt

pub kept_as : {L : Type 0} (before after : Store) (old : Option Kept) (r : Result (Option (Asked L)) AskRefusal) → MatchOption (asked_if_any r) (after ≡ before) (KeepsStore before after old) → KeepsFound before after old (found_of r)
kept_as before after old (Ok None) h = h
kept_as before after old (Ok (Some asked.Same)) h = h
kept_as before after old (Ok (Some (asked.New b))) h = h
kept_as before after old (Err e) h = h
