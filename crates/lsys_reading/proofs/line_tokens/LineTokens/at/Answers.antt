use Rattle.std.proofs.Common.{◌≡◌, rules}
use Rattle.lsys_reading.proofs.TokenPlaces.{found}
use Rattle.lsys_reading.proofs.line_tokens.LineTokens.at.Goals as goal

pub returns : goal.returns
returns c =
    let same : c.args.self.now.tokens.items ≡ c.deref.result.now = search rules in
    rw same (found c.deref.result.now c.args.place c.get.result c.get.ensures.lookup.1 c.get.ensures.lookup.3)
