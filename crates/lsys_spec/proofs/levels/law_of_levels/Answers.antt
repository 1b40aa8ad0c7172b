use Rattle.lsys_spec.proofs.Balanced.{is_level}
use Rattle.lsys_spec.proofs.Rising.{distinct_apart}
use Rattle.std.proofs.Common.{◌≡◌, ◌+◌, length}
use Rattle.lsys_spec.specs.Levels.{Module, lineage}
use Rattle.lsys_spec.proofs.Eachs.{each_at}
use Rattle.lsys_spec.proofs.Offspring.{Grown, has_balance, grown}
use Rattle.lsys_spec.proofs.Names.{NamedSymbol}
use Rattle.lsys_spec.proofs.WellNamed.{level_named}
use Rattle.lsys_spec.proofs.levels.law_of_levels.Goals as goal

pub returns-clause-names : goal.returns-clause-names
returns-clause-names c s w limit xs h t x g p l m k = each_at NamedSymbol x p (Module l m) (level_named s w limit xs h t x g) k

pub returns-clause-spelled : goal.returns-clause-spelled
returns-clause-spelled c s w = has_balance s w

pub returns-clause-balance : goal.returns-clause-balance
returns-clause-balance c s b limit xs h t x g = (grown s b limit xs h t x g).is_balanced

pub returns-clause-rise : goal.returns-clause-rise
returns-clause-rise c s b e limit xs h t x g = (grown s b limit xs h t x g).rises e

pub returns-clause-distinct : goal.returns-clause-distinct
returns-clause-distinct c s b limit xs h t x g = (grown s b limit xs h t x g).distinct

pub returns-clause-mates : goal.returns-clause-mates
returns-clause-mates c s b limit xs h t x g = let r : Grown s.numbering t x = grown s b limit xs h t x g in is_level x r.is_balanced (distinct_apart x r.distinct)

pub returns-clause-generations : goal.returns-clause-generations
returns-clause-generations c s b limit xs h t x g p a k = each_at (λ a. length (lineage a) ≡ t + 1) x p a (grown s b limit xs h t x g).generations k
