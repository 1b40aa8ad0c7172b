-- A symbol that can't be replaced, and lack of memory.
use Rattle.std.proofs.Common.{◌≡◌, ℕ, ◌+◌, ◌<◌, ◌≤◌, Option, Some, None, Result, Ok, Err, List, [], ◌∷◌, length, get_or, refl, sym, ap, ◌∙◌, subst, arith}
use Rattle.std.specs.Prelude.{ℤ, slice_get}
use Rattle.std.proofs.lemmas.Option.{slice_get-get_or}
use Rattle.lsys_spec.specs.Meaning.{replacement}
use Rattle.lsys_syntax.specs.Strings as S
use Rattle.lsys_spec.specs.Systems.{System}
use Rattle.lsys_spec.specs.Levels.{LevelSymbol, Push}
use Rattle.lsys_spec.specs.Choice.{Fault}
use Rattle.lsys_spec.specs.Questions.{Question, questions_from, questions_at}
use Rattle.lsys_level.specs.Spots.{Spotted, level_by}
use Rattle.lsys_walks.specs.Stores.{Store}
use Rattle.lsys_match.specs.Kept.{Kept}
use Rattle.lsys_match.specs.TagQuestions.{TagAnswer}
use Rattle.lsys_match.specs.declared.refusal.AskRefusal.{AskRefusal}
use Rattle.lsys_match.specs.declared.refusal.AskRefusal.TheVariants as asks
use Rattle.lsys_rewrite.specs.declared.refusal.DeriveRefusal.TheVariants as refusals
use Rattle.lsys_rewrite.specs.Faults.{fault_of}
use Rattle.lsys_flat.proofs.Stepping.{faults}
use Rattle.lsys_flat.specs.declared.found.SymbolAnswer.{SymbolAnswer}
use Rattle.lsys_laws.specs.KeptQuestions.{question_here}
use Rattle.lsys_flat.specs.Replaced.{IsAsked, IsReplaced}
use Rattle.lsys_flat.specs.Rounds.{AskedTo, ReadsAtMost, IsNoRound, Rounded, entries_of, derive_refusal_at, inquiry}
use Rattle.lsys_flat.proofs.Entries.{entries_if, entries_here, read_err}

-- the symbol at a place of a level
pub symbol_at : (x : List LevelSymbol) (p : ℕ) → p < length x → (a : LevelSymbol) × (slice_get x p ≡ Some a)
symbol_at x p h = (get_or x p (Push []), slice_get-get_or x p (Push []) h)

module _ (s : System) (t : ℕ) (row : List Spotted) (x : List LevelSymbol) (olds : List (Option TagAnswer)) (mates : List (Option ℕ)) (mid after : Store) (r after_r : Rounded) (v0 v w p : ℕ) (h : AskedTo (inquiry s t row x olds mates) mid r v0 v p) where
  pub bounded : (a : LevelSymbol) → slice_get x p ≡ Some a → ReadsAtMost (entries_if (question_here s t x p a)) v w → ReadsAtMost (entries_of (questions_at s t x)) v0 w
  bounded a e k =
      let one = entries_here s t x p a e in
      (omega (arith, h.onward, k.0), omega (arith, h.read, one, k.1))

  -- nothing was read meanwhile
  pub bounded_here : w ≡ v → ReadsAtMost (entries_of (questions_at s t x)) v0 w
  bounded_here e = (omega (arith, h.onward, e), omega (arith, h.read, e))

  pub refused : (L : Type 0) (a : LevelSymbol) (old : Option Kept) (e : AskRefusal) → slice_get x p ≡ Some a → IsReplaced {L = L} (replacement s t x p a) a old (Err e) → IsAsked {L = L} (question_here s t x p a) v w (Err e)
      → IsNoRound s t x v0 w (derive_refusal_at t r.modules e)
  refused L a old (asks.Fault k) there replaced asked =
      (refl, faults s t x p r.modules h.raw a (fault_of k) h.replaced there replaced, bounded a there (read_err L (question_here s t x p a) v w (asks.Fault k) asked))
  refused L a old asks.Memory there replaced asked = bounded a there (read_err L (question_here s t x p a) v w asks.Memory asked)
