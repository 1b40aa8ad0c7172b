use Rattle.std.proofs.Common.{◌≡◌, rules}
use Rattle.lsys_reading.proofs.TokenPlaces.{column-here, column-end}
use Rattle.lsys_reading.proofs.line_tokens.LineTokens.column.Goals as goal

pub returns-in-Some : goal.returns-in-Some
returns-in-Some c =
    let same : c.args.self.now.tokens.items ≡ c.deref.result.now = search rules in
    rw same (column-here c.args.self.now.bytes c.deref.result.now c.args.place c.in-Some.token.now c.in-Some.ensures.lookup.3.0 c.in-Some.ensures.lookup.1)

pub returns-in-None : goal.returns-in-None
returns-in-None c =
    let same : c.args.self.now.tokens.items ≡ c.deref.result.now = search rules in rw same (column-end c.args.self.now.bytes c.deref.result.now c.args.place c.in-None.ensures.lookup.3)
