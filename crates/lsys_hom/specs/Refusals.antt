-- The refusals that the code answers, as those of the definitions.
use Rattle.lsys_spec.specs.Images as meaning
use Rattle.lsys_expr.specs.Answers.{arith_of}
use Rattle.lsys_hom.specs.declared.refusal.ImageRefusal.{ImageRefusal}
use Rattle.lsys_hom.specs.declared.refusal.ImageRefusal.TheVariants.{Arith, Limit}

abbrev pub refusal_of : ImageRefusal → meaning.ImageRefusal
refusal_of (Arith kind number) = meaning.ImageFault (arith_of kind) number
refusal_of Limit = meaning.ImageLimit
