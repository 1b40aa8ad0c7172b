-- The same question by tags, and by the definitions.
use Rattle.std.proofs.Common.{◌≡◌, ◌↔◌, ℕ, List, length, sym, ap, ◌∙◌, subst}
use Rattle.lsys_spec.specs.Systems.{System}
use Rattle.lsys_spec.specs.Bodies.{group}
use Rattle.lsys_spec.specs.Levels.{ModuleValue, lineage}
use Rattle.lsys_spec.specs.Questions.{Question}
use Rattle.lsys_level.specs.Spots.{Spotted, level_by}
use Rattle.lsys_walks.proofs.Agreeing.{equal_traces}
use Rattle.lsys_match.specs.Asks.{IsNamedAt}
use Rattle.lsys_match.specs.KeptAnswers.{AgreeQuestions}
use Rattle.lsys_match.specs.TagQuestions.{TagAnswer}
use Rattle.lsys_match.proofs.Tagged.{lifted}
use Rattle.lsys_level.specs.Tags.{StandsThere, NamesTell}
use Rattle.lsys_match.specs.Traced.{IsOwn, IsTraceAt}
use Rattle.lsys_match.specs.Recalled.{IsAnswerThere, asked_there}
use Rattle.lsys_match.proofs.Standing.{apart_by, own_line, apart, tags_agree}

trace_at : (s : System) (t : ℕ) (row : List Spotted) (p tag : ℕ) (m : ModuleValue) (a : TagAnswer) → IsAnswerThere s t row p tag m a → IsTraceAt s t (group s t m.name (length m.params)) row p tag m a.question.trace
trace_at s t row p tag m a h = record {
  line = h.line;
  here = h.here;
  told = λ naming own. ap (λ (q : Question). q.trace) (h.told naming (record { here = own })).question;
}

-- the question is that of the module's tag
own_tag : (s : System) (t : ℕ) (row : List Spotted) (p tag : ℕ) (m : ModuleValue) (a : TagAnswer) → IsAnswerThere s t row p tag m a → a.question.posed.tag ≡ tag
own_tag s t row p tag m a h =
    let own : IsOwn s.seed row p tag m (apart_by tag h.line tag) = subst (IsOwn s.seed row p tag m) (sym (own_line tag h.line)) h.here in
    apart tag h.line a.question.posed.tag tag (ap (λ (q : Question). lineage q.own) (h.told (apart_by tag h.line) (record { here = own })).question)

tag_there : (s : System) (t : ℕ) (row : List Spotted) (p tag : ℕ) (m : ModuleValue) (a : TagAnswer) → IsAnswerThere s t row p tag m a → StandsThere a.question.posed.tag row
tag_there s t row p tag m a h = record { place = p; spot = _; there = h.here; is = sym (own_tag s t row p tag m a h) }

pub same_answers : (old new : System) (t : ℕ) (x y : List Spotted) (p q tag tag' : ℕ) (m n : ModuleValue) (a b : TagAnswer) (naming : ℕ → List ℕ)
    → IsAnswerThere old t x p tag m a → IsAnswerThere new t y q tag' n b → NamesTell naming x y → IsNamedAt naming old.seed x p tag m → IsNamedAt naming new.seed y q tag' n
    → (a.question ≡ b.question) ↔ (asked_there old t (level_by naming x) p (naming tag) m ≡ asked_there new t (level_by naming y) q (naming tag') n)
same_answers old new t x y p q tag tag' m n a b naming h g f u v =
    let one = (h.told naming u).question in
    let other = (g.told naming v).question in
    let tags = tags_agree old new t _ _ x y p q tag tag' m n a.question.trace b.question.trace naming (trace_at old t x p tag m a h) (trace_at new t y q tag' n b g) f in
    let agree : AgreeQuestions naming naming a.question b.question = record {
      own = (λ e. ap naming e, λ e. f a.question.posed.tag b.question.posed.tag (tag_there old t x p tag m a h) (tag_there new t y q tag' n b g) e);
      traces = tags;
    } in
    let both = lifted naming naming t a.question b.question agree (equal_traces naming naming a.question.trace b.question.trace tags) in
    (λ e. sym one ∙ both.0 e ∙ other, λ e. both.1 (one ∙ e ∙ sym other))
