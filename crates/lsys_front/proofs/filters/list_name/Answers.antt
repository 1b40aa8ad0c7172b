use Rattle.lsys_front.proofs.Listed.{one_more}
use Rattle.lsys_front.proofs.filters.list_name.Goals as goal

pub returns : goal.returns
returns c = λ names. one_more c.args.listed.now c.insert.new.self c.args.name names c.law_of_names.ensures c.in_ok-insert.ensures.updates.0
