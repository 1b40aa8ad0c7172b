use Rattle.std.proofs.Common.{◌≡◌, ◌++◌, ◌∷◌, [], rules, arith}
use Rattle.std.proofs.lemmas.Result.{err_from_is_err_and}
use Rattle.lsys_reading.specs.Tokens.{kinds_in}
use Rattle.lsys_reading.proofs.TokenPlaces.{length-kinds}
use Rattle.lsys_reading.proofs.ImageLoops.{images-more, images-refused}
use Rattle.lsys_reading.proofs.images.successor.Goals as goal

pub returns-in_err-read-clause-read : goal.returns-in_err-read-clause-read
returns-in_err-read-clause-read c =
    let ks = kinds_in c.args.line.now in
    let p = err_from_is_err_and c.from_residual.result c.from_residual.ensures.1 in
    rw (p.1, p.2) (images-refused c.args.form ks c.args.at c.symbols.end c.symbols.symbols.items c.symbols.branches c.symbols.invariant c.in_err-read.field-0.0 c.in_err-read.ensures.read)

pub symbols-preserved : goal.symbols-preserved
symbols-preserved c =
    let ks = kinds_in c.args.line.now in
    let w = c.in_ok-read.ensures.place in
    let pushed : c.push.new.self.items ≡ c.symbols.symbols.items ++ c.in_ok-read.read.symbol ∷ [] = search rules in
    rw (pushed, c.image_branches-branches.ensures) (images-more c.args.form ks c.args.at c.symbols.end c.symbols.symbols.items c.symbols.branches c.symbols.invariant c.in_ok-read.read
    c.in_ok-read.ensures.read c.in_ok-read.ensures.spans w.0 (omega (arith, w.1, length-kinds c.args.line.now.tokens.items)))
