-- How many entries are read for the questions of a level, symbol by symbol.
use Rattle.std.proofs.Common.{◌≡◌, ℕ, ◌+◌, ◌≤◌, Option, Some, None, Result, Ok, Err, List, [], ◌∷◌, length, drop, refl, sym, ap, ◌∙◌, subst, arith}
use Rattle.std.specs.Prelude.{slice_get}
use Rattle.std.proofs.lemmas.List.Sums.{sum_by-cons}
use Rattle.lsys_spec.specs.Systems.{System}
use Rattle.lsys_spec.specs.Bodies.{Body, group}
use Rattle.lsys_spec.specs.Levels.{LevelSymbol, Push, Pop, Module}
use Rattle.lsys_spec.specs.Questions.{Question, question, where_any, questions_from, questions_at}
use Rattle.lsys_laws.specs.KeptQuestions.{where_grouped, question_here}
use Rattle.lsys_flat.proofs.Naming.{drop_there}
use Rattle.lsys_match.specs.declared.refusal.AskRefusal.{AskRefusal}
use Rattle.lsys_match.specs.declared.refusal.AskRefusal.TheVariants as refusals
use Rattle.lsys_flat.specs.declared.found.SymbolAnswer.{SymbolAnswer}
use Rattle.lsys_flat.specs.declared.found.SymbolAnswer.TheVariants as found
use Rattle.lsys_flat.specs.Replaced.{IsAsked}
use Rattle.lsys_flat.specs.Rounds.{entries_of, ReadsAtMost}

-- the entries of a question that there may be
abbrev pub entries_if : Option Question → ℕ
entries_if None = 0
entries_if (Some q) = length q.trace

one_more : (bs : List Body) (q : Question) (qs : List Question) → entries_of (where_any bs q qs) ≡ entries_if (where_grouped bs q) + entries_of qs
one_more [] q qs = omega arith
one_more (b ∷ bs) q qs = sum_by-cons (λ q. length q.trace) q qs

first : (s : System) (t : ℕ) (x : List LevelSymbol) (p : ℕ) (a : LevelSymbol) (rest : List LevelSymbol) → entries_of (questions_from s t x p (a ∷ rest)) ≡ entries_if (question_here s t x p a) + entries_of (questions_from s t x (p + 1) rest)
first s t x p (Push l) rest = omega arith
first s t x p (Pop l) rest = omega arith
first s t x p (Module l m) rest =
    let bs = group s t m.name (length m.params) in one_more bs (question s t bs x p l m) (questions_from s t x (p + 1) rest)

-- the entries from place p on are those of the question there and those after it
pub entries_here : (s : System) (t : ℕ) (x : List LevelSymbol) (p : ℕ) (a : LevelSymbol) → slice_get x p ≡ Some a
    → entries_of (questions_from s t x p (drop p x)) ≡ entries_if (question_here s t x p a) + entries_of (questions_from s t x (p + 1) (drop (p + 1) x))
entries_here s t x p a e = ap (λ rest. entries_of (questions_from s t x p rest)) (drop_there x p a e) ∙ first s t x p a (drop (p + 1) x)

-- what was asked, with its entries

pub read_ok : {L : Type 0} (o : Option Question) (v w : ℕ) (f : SymbolAnswer L) → IsAsked o v w (Ok f) → w ≡ v + entries_if o
read_ok None v w found.Stays h = omega (arith, h)
read_ok None v w found.Same h = absurd h
read_ok None v w (found.New b) h = absurd h
read_ok (Some q) v w found.Stays h = absurd h
read_ok (Some q) v w found.Same h = h
read_ok (Some q) v w (found.New b) h = h

pub read_err : (L : Type 0) (o : Option Question) (v w : ℕ) (e : AskRefusal) → IsAsked {L = L} o v w (Err e) → ReadsAtMost (entries_if o) v w
read_err L None v w e h = absurd h
read_err L (Some q) v w (refusals.Fault k) h = (omega (arith, h), omega (arith, h))
read_err L (Some q) v w refusals.Memory h = h
