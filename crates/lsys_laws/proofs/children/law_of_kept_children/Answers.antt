use Rattle.lsys_laws.proofs.Rows.{kept_level, none_open, nodes_below, child_lineages}
use Rattle.lsys_laws.proofs.children.law_of_kept_children.Goals as goal

pub returns : goal.returns
returns c = record { level = kept_level; alone = none_open; nodes = nodes_below; numbers = child_lineages }
