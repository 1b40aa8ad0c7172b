use Rattle.lsys_reading.specs.Commands.{numbering_of}
use Rattle.lsys_children.proofs.Filling.{alone_wanted}
use Rattle.lsys_children.proofs.wanted.Wanted.fill_itself.Goals as goal

pub returns : goal.returns
returns c = record {
  wanted = alone_wanted (numbering_of c.args.numbering) c.args.key c.args.symbol.now c.first_number-number.result c.clear.new.self.items c.put_child.new.children.items c.clear.ensures.items c.in_ok-put_child.ensures c.first_number-number.ensures;
}
