use Rattle.lsys_text.specs.Tokens.{kind_of}
use Rattle.lsys_reading.specs.Tokens.{kinds_in}
use Rattle.lsys_reading.proofs.TokenPlaces.{token-form, peeked}
use Rattle.lsys_reading.proofs.glyph.peek.Goals as goal

pub of-requires : goal.of-requires
of-requires c = token-form (kinds_in c.args.line.now) c.args.at (kind_of c.in-Some.token.now.kind) c.in-Some.ensures c.args.line.now.forms

pub returns-in-Some : goal.returns-in-Some
returns-in-Some c = peeked (kinds_in c.args.line.now) c.args.at (kind_of c.in-Some.token.now.kind) c.of.result c.in-Some.ensures c.of.ensures
