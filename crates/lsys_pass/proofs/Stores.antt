-- Answers stay what they are while others come into their store.
use Rattle.std.proofs.Common.{◌≡◌, ℕ, Bool, List, [], ◌∷◌, length, Option, Some, sym, ap, ◌∙◌, subst}
use Rattle.std.specs.Prelude.{flat_map}
use Rattle.lsys_spec.specs.Rows.{In}
use Rattle.lsys_spec.specs.Systems.{System}
use Rattle.lsys_spec.specs.Bodies.{Body, group}
use Rattle.lsys_spec.specs.Levels.{ModuleValue}
use Rattle.lsys_level.specs.Spots.{Seen, Push, Pop, Module, Spotted}
use Rattle.lsys_walks.specs.Stores.{Store}
use Rattle.lsys_match.specs.Kept.{Kept}
use Rattle.lsys_match.specs.TagQuestions.{TagAnswer}
use Rattle.lsys_match.specs.KeptAnswers.{StaysMade}
use Rattle.lsys_match.specs.Asks.{IsMade}
use Rattle.lsys_match.specs.Recalled.{IsAnswerThere}
use Rattle.lsys_reads.specs.Relations.{Relations, SettledStay}
use Rattle.lsys_forest.specs.Nodes.{Nodes}
use Rattle.lsys_forest.specs.Rows.{level_spots}
use Rattle.lsys_reads.specs.declared.seat.Seat.{Seat}
use Rattle.lsys_reads.specs.Levels.{IsRight, IsKeptFor, IsAnsweredRight, AnsweredIn, answer_at, tags_named, tags_read, HasRead}
use Rattle.lsys_pass.specs.Rests.{IsResting}

-- each answer that nodes keep was made with the store
abbrev pub AllMade : Nodes Kept → Store → Type 0
AllMade m store = (k : ℕ) (a : Kept) → answer_at m k ≡ Some a → IsMade store a

-- and stays what it is in another one
abbrev pub AllStay : Nodes Kept → Store → Store → Type 0
AllStay m old new = (k : ℕ) (a : Kept) → answer_at m k ≡ Some a → StaysMade old new a

right_stays : (old new : Store) (s : System) (t : ℕ) (row : List Spotted) (p tag : ℕ) (v : ModuleValue) (a : Kept)
    → StaysMade old new a → IsRight s t row old p tag v a → IsRight s t row new p tag v a
right_stays old new s t row p tag v a stays h =
    record { made = stays.made; answer = subst (IsAnswerThere s t row p tag v) (sym stays.answer) h.answer }

kept_stays : (bs : List Body) (f g : Kept → Type 0) (o : Option Kept) → ((a : Kept) → o ≡ Some a → f a → g a) → IsKeptFor bs f o → IsKeptFor bs g o
kept_stays [] f g o h k = k
kept_stays (b ∷ bs) f g o h k = (k.0, k.1, h k.0 k.1 k.2)

answered_by : (old new : Store) (s : System) (t : ℕ) (row : List Spotted) (p tag : ℕ) (x : Seen) (o : Option Kept)
    → ((b : Kept) → o ≡ Some b → StaysMade old new b) → IsAnsweredRight s t row old p tag x o → IsAnsweredRight s t row new p tag x o
answered_by old new s t row p tag Push o stays h = h
answered_by old new s t row p tag Pop o stays h = h
answered_by old new s t row p tag (Module v) o stays h =
    kept_stays (group s t v.name (length v.params)) (IsRight s t row old p tag v) (IsRight s t row new p tag v) o
    (λ a e. right_stays old new s t row p tag v a (stays a e)) h

pub answered_stays : (old new : Store) (s : System) (t : ℕ) (row : List Spotted) (p : ℕ) (o : Option Kept)
    → ((b : Kept) → o ≡ Some b → StaysMade old new b) → AnsweredIn s t row old p o → AnsweredIn s t row new p o
answered_stays old new s t row p o stays h = λ x e. answered_by old new s t row p x.tag x.seen o stays (h x e)

pub tags_stay : (old new : Store) (a : Kept) → StaysMade old new a → tags_read new a ≡ tags_read old a
tags_stay old new a stays = ap (λ (q : TagAnswer). flat_map tags_named q.question.trace) stays.answer

pub read_on : (old new : Store) (m : Nodes Kept) → AllStay m old new → (reader seen : ℕ) → HasRead m old reader seen → HasRead m new reader seen
read_on old new m stays reader seen h = record {
  answer = h.answer;
  kept = h.kept;
  among = subst (In seen) (sym (tags_stay old new h.answer (stays reader h.answer h.kept))) h.among;
}

pub read_back : (old new : Store) (m : Nodes Kept) → AllStay m old new → (reader seen : ℕ) → HasRead m new reader seen → HasRead m old reader seen
read_back old new m stays reader seen h = record {
  answer = h.answer;
  kept = h.kept;
  among = subst (In seen) (tags_stay old new h.answer (stays reader h.answer h.kept)) h.among;
}

-- what is kept at rest stays
pub rest_stays : {listed : Bool} (s : System) (limit : ℕ) (m : Nodes Kept) (root : ℕ) (old new : Store) (reads reads' : Relations) (seats : List Seat)
    → AllStay m old new → SettledStay reads reads' → IsResting listed s limit m root old reads seats → IsResting listed s limit m root new reads' seats
rest_stays s limit m root old new reads reads' seats stays same h = record {
  spelled = h.spelled;
  is = h.is;
  levels = h.levels;
  ends = h.ends;
  counts = h.counts;
  once = h.once;
  reached = h.reached;
  answered = λ t p k below at. answered_stays old new s t (level_spots m root t) p (answer_at m k) (stays k) (h.answered t p k below at);
  others = h.others;
  made = λ k a e. (stays k a e).made;
  read = λ known reader seen. (
    λ e. read_on old new m stays reader seen ((h.read known reader seen).0 (sym (same reader seen) ∙ e)),
    λ r. same reader seen ∙ (h.read known reader seen).1 (read_back old new m stays reader seen r),
  );
  seated = h.seated;
}
