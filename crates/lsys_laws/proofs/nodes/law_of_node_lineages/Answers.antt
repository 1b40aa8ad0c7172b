use Rattle.lsys_laws.proofs.KeptLineages.{child, apart, stays, tags}
use Rattle.lsys_laws.proofs.nodes.law_of_node_lineages.Goals as goal

pub returns : goal.returns
returns c = record { child = child; apart = apart; stays = stays; tags = tags }
