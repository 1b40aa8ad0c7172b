-- What the code answers, as the definitions do.
use Rattle.std.specs.Prelude.{◌≡◌, Result, Ok, Err}
use Rattle.lsys_spec.specs.Pictures as P
use Rattle.lsys_hom.specs.Refusals.{refusal_of}
use Rattle.lsys_motion.specs.declared.refusal.MotionRefusal.{MotionRefusal}
use Rattle.lsys_motion.specs.declared.refusal.MotionRefusal.TheVariants.{Image, Far, Memory}

-- the same is told, or refused, or there was no memory for it
abbrev pub IsAsTold : {A : Type 0} → Result A P.PictureRefusal → Result A MotionRefusal → Type 0
IsAsTold told (Ok a) = told ≡ Ok a
IsAsTold told (Err (Image e)) = told ≡ Err (P.NoImage (refusal_of e))
IsAsTold told (Err (Far n)) = told ≡ Err (P.Far n)
IsAsTold told (Err Memory) = Unit {0}
