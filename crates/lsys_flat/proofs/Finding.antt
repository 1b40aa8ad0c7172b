-- What is found out about a symbol, and about those before it.
use Rattle.std.proofs.Common.{◌≡◌, ℕ, zero, suc, ◌+◌, ◌<◌, ◌≤◌, ◌⊎◌, inl, inr, Option, Some, None, Result, Ok, Err, List, [], ◌∷◌, ◌++◌, length, refl, sym, ap, ◌∙◌, subst, arith}
use Rattle.std.specs.Prelude.{slice_get, option_map}
use Rattle.std.specs.Option.{IsSomeAnd}
use Rattle.lsys_spec.specs.Draws.{key_of}
use Rattle.lsys_spec.specs.Systems.{System}
use Rattle.lsys_spec.specs.Levels as levels
use Rattle.lsys_spec.specs.Levels.{LevelSymbol, ModuleValue}
use Rattle.lsys_spec.specs.Questions.{Question}
use Rattle.lsys_level.specs.Spots.{Module, Spotted, level_by}
use Rattle.lsys_walks.specs.Stores.{Store}
use Rattle.lsys_match.specs.Kept.{Kept}
use Rattle.lsys_match.specs.Stored.{answer_in, question_in}
use Rattle.lsys_match.specs.Asks.{IsAnswer, IsMade, IsNamedAt, IsNew, by_definition}
use Rattle.lsys_match.specs.TagQuestions.{TagAnswer}
use Rattle.lsys_match.specs.declared.answer.Answer.{Answer}
use Rattle.lsys_match.specs.declared.refusal.AskRefusal.{AskRefusal}
use Rattle.lsys_flat.specs.declared.found.SymbolAnswer.{SymbolAnswer}
use Rattle.lsys_flat.specs.declared.found.SymbolAnswer.TheVariants as found
use Rattle.lsys_flat.specs.Replaced.{IsSymbolAt, IsAsked, IsRecalled}
use Rattle.lsys_laws.specs.KeptQuestions.{question_here}
use Rattle.lsys_flat.specs.Slots.{IsAnswerHere, IsFoundOut, slot_by_place, slot_where_told}
use Rattle.lsys_flat.specs.Rounds.{AreMadeAt, StayMade, answers_told}
use Rattle.lsys_flat.proofs.News.{old_told}

-- by every naming under which a module stands there, the answer is that of its question
abbrev pub Recalls : System → ℕ → List Spotted → ℕ → TagAnswer → Type 0
Recalls s t row p a = (naming : ℕ → List ℕ) (tag : ℕ) (m : ModuleValue) → IsNamedAt naming s.seed row p tag m → IsAnswer naming (by_definition s t (level_by naming row) p (naming tag) m) a

-- a question is asked of a module alone, whose answer it then is
answer_here : (s : System) (t : ℕ) (row : List Spotted) (x : List LevelSymbol) (p : ℕ) (a : LevelSymbol) (q : Question) (b : TagAnswer) (naming : ℕ → List ℕ) → IsSymbolAt naming s.seed row p a → question_here s t x p a ≡ Some q
    → Recalls s t row p b → IsAnswerHere s t row p b
answer_here s t row x p (levels.Push l) q b naming h e f = cc
answer_here s t row x p (levels.Pop l) q b naming h e f = cc
answer_here s t row x p (levels.Module l m) q b naming h e f = record {
  tag = h.tag;
  own = m;
  there = record { line = l; here = h.here; told = λ naming named. f naming h.tag m named };
}

module _ (s : System) (t : ℕ) (row : List Spotted) (x : List LevelSymbol) (p : ℕ) (a : LevelSymbol) (naming : ℕ → List ℕ) (here : IsSymbolAt naming s.seed row p a) where
  pub found_stays : (L : Type 0) (mate : Option ℕ) (old : Option TagAnswer) (v w : ℕ) → IsAsked {L = L} (question_here s t x p a) v w (Ok found.Stays) → IsFoundOut s t row p (question_here s t x p a) mate old None None
  found_stays L mate old v w h = by (question_here s t x p a) h
    where
      by : (o : Option Question) → IsAsked {L = L} o v w (Ok found.Stays) → IsFoundOut s t row p o mate old None None
      by None g = tt
      by (Some q) g = absurd g

  pub found_new : (L : Type 0) (mate : Option ℕ) (old : Option TagAnswer) (v w : ℕ) (c : Answer L) (b : TagAnswer) → IsAsked {L = L} (question_here s t x p a) v w (Ok (found.New c)) → Recalls s t row p b
      → ((o : TagAnswer) → old ≡ Some o → o.question ≡ b.question → ⊥) → IsFoundOut s t row p (question_here s t x p a) mate old (Some b) None
  found_new L mate old v w c b h f g = by (question_here s t x p a) refl h
    where
      by : (o : Option Question) → question_here s t x p a ≡ o → IsAsked {L = L} o v w (Ok (found.New c)) → IsFoundOut s t row p o mate old (Some b) None
      by None e k = absurd k
      by (Some q) e k = (answer_here s t row x p a q b naming here e f, g)

  pub found_same : (L : Type 0) (mate : Option ℕ) (olds : List (Option TagAnswer)) (v w : ℕ) → IsAsked {L = L} (question_here s t x p a) v w (Ok found.Same) → IsSomeAnd (slot_where_told olds mate) (Recalls s t row p)
      → IsFoundOut s t row p (question_here s t x p a) mate (slot_where_told olds mate) None mate
  found_same L mate olds v w h f = by (question_here s t x p a) refl h mate (slot_where_told olds mate) refl f
    where
      by : (o : Option Question) → question_here s t x p a ≡ o → IsAsked {L = L} o v w (Ok found.Same) → (m : Option ℕ) (r : Option TagAnswer) → slot_where_told olds m ≡ r → IsSomeAnd r (Recalls s t row p) → IsFoundOut s t row p o m r None m
      by None e k m r i g = absurd k
      by (Some q) e k None None i g = absurd g
      by (Some q) e k None (Some b) i g = cc
      by (Some q) e k (Some j) None i g = absurd g
      by (Some q) e k (Some j) (Some b) i g = (refl, answer_here s t row x p a q b naming here e g)

-- the old answer, as it was at the beginning

pub recalled_same : (L : Type 0) (s : System) (t : ℕ) (row : List Spotted) (p : ℕ) (begin after : Store) (olds : List (Option Kept)) (mate : Option ℕ) (old : Option Kept) → old ≡ slot_where_told olds mate → StayMade begin after → AreMadeAt begin olds
    → ((naming : ℕ → List ℕ) (tag : ℕ) (m : ModuleValue) → IsNamedAt naming s.seed row p tag m → IsRecalled {L = L} naming (by_definition s t (level_by naming row) p (naming tag) m) after old (Ok found.Same))
    → (naming : ℕ → List ℕ) (tag : ℕ) (m : ModuleValue) → IsNamedAt naming s.seed row p tag m
    → IsSomeAnd (slot_where_told (answers_told begin olds) mate) (Recalls s t row p)
recalled_same L s t row p begin after olds mate old is stay made f naming tag m named =
    subst (λ (r : Option TagAnswer). IsSomeAnd r (Recalls s t row p)) (sym (old_told begin olds mate)) (by (slot_where_told olds mate) refl)
  where
    by : (o : Option Kept) → slot_where_told olds mate ≡ o → IsSomeAnd (option_map (answer_in begin) o) (Recalls s t row p)
    by None e =
        let none : old ≡ None = is ∙ e in
        absurd (subst (λ (o : Option Kept). IsSomeAnd o (λ a. IsAnswer naming (by_definition s t (level_by naming row) p (naming tag) m) (answer_in after a))) none (f naming tag m named))
    by (Some b) e =
        let some : old ≡ Some b = is ∙ e in
        let same = (stay.each b (made_of mate e)).answer in
        λ naming tag m named.
        subst (IsAnswer naming (by_definition s t (level_by naming row) p (naming tag) m)) same
        (subst (λ (o : Option Kept). IsSomeAnd o (λ a. IsAnswer naming (by_definition s t (level_by naming row) p (naming tag) m) (answer_in after a))) some (f naming tag m named))
      where
        made_of : (m : Option ℕ) → slot_where_told olds m ≡ Some b → IsMade begin b
        made_of None g = cc
        made_of (Some j) g = made.each j b g

pub other_question : (begin before after : Store) (olds : List (Option Kept)) (mate : Option ℕ) (old : Option Kept) (b : Kept) → old ≡ slot_where_told olds mate → StayMade begin before → AreMadeAt begin olds → IsNew before after old b
    → (o : TagAnswer) → slot_where_told (answers_told begin olds) mate ≡ Some o → o.question ≡ (answer_in after b).question → ⊥
other_question begin before after olds mate old b is stay made new o e same = by (slot_where_told olds mate) refl
  where
    by : (k : Option Kept) → slot_where_told olds mate ≡ k → ⊥
    by None f = let none : None ≡ Some o = sym (old_told begin olds mate ∙ ap (option_map (answer_in begin)) f) ∙ e in cc
    by (Some c) f =
        let answers_told : answer_in begin c ≡ o = let both : Some (answer_in begin c) ≡ Some o = sym (old_told begin olds mate ∙ ap (option_map (answer_in begin)) f) ∙ e in cc in
        let still = (stay.each c (made_of mate f)).answer in
        new.other c (is ∙ f) (ap (λ (a : TagAnswer). a.question) (still ∙ answers_told) ∙ same)
      where
        made_of : (m : Option ℕ) → slot_where_told olds m ≡ Some c → IsMade begin c
        made_of None g = cc
        made_of (Some j) g = made.each j c g
