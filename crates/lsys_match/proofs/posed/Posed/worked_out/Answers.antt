use Rattle.std.proofs.Common.{rules, Ok}
use Rattle.lsys_match.specs.Telling.{IsSuccessorOf}
use Rattle.lsys_match.proofs.Constants.{kept_alone}
use Rattle.lsys_match.proofs.posed.Posed.worked_out.Goals as goal

pub returns : goal.returns
returns c =
    let s : IsSuccessorOf c.args.self.now c.args.chosen c.args.bound.now (Ok c.replace.new.symbols) = search rules in
    kept_alone c.args.self.now c.args.chosen c.args.bound.now c.replace.new.symbols c.requires.none s
