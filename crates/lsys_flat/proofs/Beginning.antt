-- A round before its first symbol.
use Rattle.std.proofs.Common.{◌≡◌, ℕ, ◌+◌, ◌<◌, ◌≤◌, Bool, true, false, Option, Some, None, Result, Ok, Err, List, [], ◌∷◌, ◌++◌, length, refl, sym, ap, ◌∙◌, subst, arith}
use Rattle.std.specs.Prelude.{slice_get}
use Rattle.lsys_syntax.specs.Commands.{Numbering}
use Rattle.lsys_spec.specs.Systems.{System}
use Rattle.lsys_spec.specs.Values.{◌and_then◌}
use Rattle.lsys_spec.specs.Levels.{LevelSymbol}
use Rattle.lsys_spec.specs.Cuts.{Raw}
use Rattle.lsys_spec.specs.Meaning.{LevelRefusal, children_from}
use Rattle.lsys_level.specs.Spots.{Spotted}
use Rattle.lsys_walks.specs.Stores.{Store}
use Rattle.lsys_match.specs.TagQuestions.{TagAnswer}
use Rattle.lsys_flat.specs.Grown.{HasGrown, nothing_grown}
use Rattle.lsys_flat.specs.Steps.{ReplacedTo}
use Rattle.lsys_flat.specs.Rounds.{AreNew, AskedTo, IsAt, Rounded, nothing_asked, inquiry}
use Rattle.lsys_flat.proofs.News.{all_stay}

nothing_before : {E : Type 0} (r : Result (List Raw) E) → (r and_then λ more. Ok ([] ++ more)) ≡ r
nothing_before (Ok raw) = refl
nothing_before (Err e) = refl

pub none_grown : (seed : ℕ) (x : List LevelSymbol) (room : ℕ) → HasGrown seed x [] (nothing_grown room)
none_grown seed x room = record {
  holds = λ e. record { cutting = refl; symbols = record { string = refl; children = tt; keys = refl }; within = omega arith };
  over = λ e. cc;
}

pub none_new : (s : Store) → AreNew s s []
none_new s = record {
  made = record { each = λ p a e. cc };
  own = λ p q a b e f n. cc;
  beside = λ p a b e m. cc;
  stay = all_stay s;
}

pub none_at : (g : Numbering) (room : ℕ) → IsAt 0 (nothing_asked g room)
none_at g room = record { each_fresh = refl; each_taken = refl; parents = refl; modules = omega arith; questions = refl; few = omega arith }

pub none_asked : (s : System) (t : ℕ) (row : List Spotted) (x : List LevelSymbol) (olds : List (Option TagAnswer)) (mates : List (Option ℕ)) (store : Store) (room v : ℕ) → AskedTo (inquiry s t row x olds mates) store (nothing_asked s.numbering room) v v 0
none_asked s t row x olds mates store room v = record {
  raw = [];
  replaced = record { told = nothing_before (children_from s t x 0 0 x) };
  numbering = refl;
  grown = none_grown s.seed x room;
  found = λ q a l e. absurd (omega (arith, l));
  read = refl;
  onward = omega arith;
}
