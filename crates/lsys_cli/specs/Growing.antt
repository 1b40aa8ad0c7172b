-- Why a growth isn't told, as the program says it.
use Rattle.std.specs.Prelude.{ℕ, List, codes}
use Rattle.lsys_growth.specs.declared.refusal.GrowthRefusal.{GrowthRefusal}
use Rattle.lsys_growth.specs.declared.refusal.GrowthRefusal.TheVariants as growth
use Rattle.lsys_session.specs.declared.outcome.Outcome.{Outcome}
use Rattle.lsys_session.specs.declared.outcome.Outcome.TheVariants.{Refused, Memory}

abbrev pub growth_line : GrowthRefusal → List ℕ
growth_line growth.Class = codes "refused growth\n"
growth_line growth.Letters = codes "refused letters\n"
growth_line growth.Overflow = codes "refused overflow\n"
growth_line growth.Memory = codes "refused memory\n"

abbrev pub growth_outcome : GrowthRefusal → Outcome
growth_outcome growth.Memory = Memory
growth_outcome r = Refused
