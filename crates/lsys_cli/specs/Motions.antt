-- What a desk keeps of the picture of the last level, and what it tells of it.
use Rattle.std.specs.Prelude.{◌≡◌, ℕ, ℤ, Bool, true, false, not, Option, Some, None, Result, Ok, Err, List, ◌∷◌, ◌++◌, codes}
use Rattle.std.specs.Fmt.{signed_decimal}
use Rattle.lsys_io.specs.declared.Failed.{Failed}
use Rattle.lsys_spec.specs.Systems.{System}
use Rattle.lsys_spec.specs.Lattices.{Lattice}
use Rattle.lsys_spec.specs.Levels.{LevelSymbol}
use Rattle.lsys_spec.specs.Meaning.{meaning, last_level}
use Rattle.lsys_spec.specs.Pictures.{NoImage, Pose}
use Rattle.lsys_spec.specs.Pictures as pictures
use Rattle.lsys_spec.specs.Refusals.{line_feed, with_number}
use Rattle.lsys_lattice.specs.Bounds.{pose_text}
use Rattle.lsys_lattice.specs.Extents.{Extents}
use Rattle.lsys_hom.specs.Refusals.{refusal_of}
use Rattle.lsys_level.specs.Spots.{Spotted}
use Rattle.lsys_out.specs.Drawings as drawings
use Rattle.lsys_out.specs.Shown.{on_lattice}
use Rattle.lsys_motion.specs.Told.{Track, told}
use Rattle.lsys_motion.specs.Refusals.{IsAsTold}
use Rattle.lsys_motion.specs.declared.refusal.MotionRefusal.{MotionRefusal}
use Rattle.lsys_motion.specs.declared.refusal.MotionRefusal.TheVariants.{Image, Far, Memory}
use Rattle.lsys_rules.specs.declared.refusal.Refusal.TheVariants as refusals
use Rattle.lsys_session.specs.Given.{picture_line}
use Rattle.lsys_session.specs.Requests.{refusal_line}
use Rattle.lsys_session.specs.declared.outcome.Outcome.{Outcome}
use Rattle.lsys_session.specs.declared.outcome.Outcome.TheVariants as outcomes
use Rattle.lsys_cli.specs.Answers.{is_accepted}
use Rattle.lsys_cli.specs.declared.kept_motions.KeptMotions.{KeptMotions}
use Rattle.lsys_cli.specs.declared.kept_motions.KeptMotions.TheVariants.{Square, Hexagonal, Cubic}

-- 1. what is kept

abbrev pub told_by : KeptMotions → Track
told_by (Square t) = t
told_by (Hexagonal t) = t
told_by (Cubic t) = t

abbrev pub told_in : Result KeptMotions MotionRefusal → Result Track MotionRefusal
told_in (Ok m) = Ok (told_by m)
told_in (Err e) = Err e

-- this is told of the picture of the last level; or it is refused as the picture is, or there was no memory for it
abbrev pub IsTrackOf : ℕ → System → Result Track MotionRefusal → Type 0
IsTrackOf limit s r = (levels : List (List LevelSymbol)) → meaning s limit ≡ Ok levels → IsAsTold (told s (last_level levels)) r

-- the motions that are kept, if any, are those of the picture of the last level
abbrev pub AreKept : ℕ → System → Option KeptMotions → Type 0
AreKept limit s None = Unit {0}
AreKept limit s (Some m) = IsTrackOf limit s (Ok (told_by m))

-- the picture stays after a step that wasn't accepted; where its reply wasn't put, nothing is known of it
abbrev pub leaves_picture : Result Outcome Failed → Bool
leaves_picture (Ok o) = not (is_accepted o)
leaves_picture (Err failed) = false

-- they are kept while the picture stays
abbrev pub motions_after : Result Outcome Failed → Option KeptMotions → Option KeptMotions
motions_after led m = elim (leaves_picture led) [ true ↦ m | false ↦ None ]

-- 2. what is said of it

abbrev pub motion_line : MotionRefusal → List ℕ
motion_line (Image e) = picture_line (NoImage (refusal_of e))
motion_line (Far n) = picture_line (pictures.Far n)
motion_line Memory = refusal_line refusals.Memory

abbrev pub motion_outcome : MotionRefusal → Outcome
motion_outcome Memory = outcomes.Memory
motion_outcome e = outcomes.Refused

-- two values, with a blank between them
abbrev pub span_text : ℤ → ℤ → List ℕ
span_text low high = signed_decimal low ++ 32 ∷ signed_decimal high

-- the least and the greatest value of each measure
abbrev pub spans_text : Extents → List ℕ
spans_text e =
    codes "bounds " ++ (span_text e.low.x e.high.x ++ 32 ∷ (span_text e.low.y e.high.y ++ 32 ∷ (span_text e.low.z e.high.z ++ line_feed)))

-- a turtle's pose; or the refusal of a number that stands at a column
abbrev pub pose_line : ℕ → Option Pose → List ℕ
pose_line column (Some p) = pose_text p
pose_line column None = codes "refused " ++ (with_number (codes "place") column ++ line_feed)

abbrev pub pose_outcome : Option Pose → Outcome
pose_outcome (Some p) = outcomes.Printed
pose_outcome None = outcomes.Refused

-- the motions of the picture of a system's last level on a lattice, or why there are none
abbrev pub AreMotionsOn : Lattice → System → List (List Spotted) → Result Track MotionRefusal → Type 0
AreMotionsOn l s levels result = (naming : ℕ → List ℕ) → IsAsTold (told (on_lattice l s) (drawings.last_symbols naming s levels)) result
