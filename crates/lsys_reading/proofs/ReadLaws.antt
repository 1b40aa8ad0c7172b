-- How parts that are read are put together.
use Rattle.std.proofs.Common.{ℕ, List, ◌∙◌}
use Rattle.lsys_syntax.specs.Tokens.{Kind}
use Rattle.lsys_syntax.specs.RuleMachine.{Form}
use Rattle.lsys_reading.specs.declared.refusal.PartRefusal.{PartRefusal}
use Rattle.lsys_reading.specs.declared.refusal.PartRefusal.TheVariants.{Token, Deep, Memory}
use Rattle.lsys_syntax.specs.RulePoints.{Point, Leads}
use Rattle.lsys_reading.specs.Reads.{Refuses}

-- what is refused after a part
pub refuses-on : (m : Form) (ks : List Kind) (a b : ℕ) (p q : Point) (e : PartRefusal) → Leads m ks a p b q → Refuses m ks b q e → Refuses m ks a p e
refuses-on m ks a b p q (Token place) h i = h.same ∙ i
refuses-on m ks a b p q (Deep place) h i = h.same ∙ i
refuses-on m ks a b p q Memory h i = tt
