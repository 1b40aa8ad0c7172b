-- Examples of bounds and of a turtle's place, which the checker computes.
use Rattle.std.specs.Prelude.{◌≡◌, ℕ, Option, Some, None, Result, Ok, Err, List, [], codes, refl}
use Rattle.std.specs.Fmt.{digits}
use Rattle.lsys_spec.specs.Systems.{System}
use Rattle.lsys_spec.specs.Levels.{LevelSymbol}
use Rattle.lsys_spec.specs.Pictures.{Turtle, PictureRefusal}
use Rattle.lsys_spec.specs.Meaning.{LevelRefusal, meaning, last_level}
use Rattle.lsys_spec.specs.Replies.{reply}
use Rattle.lsys_spec.specs.Output.{out, none, last_system}
use Rattle.lsys_lattice.specs.Extents.{Extents}
use Rattle.lsys_lattice.specs.Bounds.{bounds, bounds_text, turtle_or_refusal, pose_text}

abbrev after : List ℕ → System
after script = last_system (out (reply 100000) script none)

abbrev last_of : Result (List (List LevelSymbol)) LevelRefusal → List LevelSymbol
last_of (Ok levels) = last_level levels
last_of (Err e) = []

abbrev told : {A : Type 0} → (A → List ℕ) → Result A PictureRefusal → List ℕ
told text (Ok a) = text a
told text (Err r) = codes "refused"

abbrev pose_or_none : Option Turtle → List ℕ
pose_or_none (Some t) = pose_text t.pose
pose_or_none None = codes "none"

abbrev bounds_after : List ℕ → List ℕ
bounds_after script = let s = after script in told bounds_text (bounds s (last_of (meaning s 100000)))

abbrev pose_after : List ℕ → ℕ → List ℕ
pose_after script n = let s = after script in told pose_or_none (turtle_or_refusal s (last_of (meaning s 100000)) n)

-- the origin counts, and a move without a segment doesn't
pub square_bounds : bounds_after (codes "axiom F[+F]Ff(7)\n") ≡ codes "bounds -1 0 0 2 0 0\n"
unfolding digits
square_bounds = refl

pub hexagonal_bounds : bounds_after (codes "lattice hexagonal\naxiom F++F[!(3)-f]F\n") ≡ codes "bounds -1 1 0 2 0 1\n"
unfolding digits
hexagonal_bounds = refl

-- brackets are counted, and `]` gives place, heading and width back
pub in_a_branch : pose_after (codes "axiom F[!(3)+F]F\n") 5 ≡ codes "at -1 1 0 -1 0 0 3\n"
unfolding digits
in_a_branch = refl

pub after_a_branch : pose_after (codes "axiom F[!(3)+F]F\n") 6 ≡ codes "at 0 1 0 0 1 0 1\n"
unfolding digits
after_a_branch = refl

pub past_the_end : pose_after (codes "axiom F[!(3)+F]F\n") 8 ≡ codes "none"
unfolding digits
past_the_end = refl
