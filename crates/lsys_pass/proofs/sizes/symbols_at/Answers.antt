use Rattle.std.proofs.Common.{List, Some, ap, sym, ◌∙◌}
use Rattle.std.proofs.lemmas.Option.{slice_get-get_or, slice_get_past}
use Rattle.lsys_pass.specs.declared.sizes.Size.{Size}
use Rattle.lsys_pass.proofs.SizesTold.{symbols_some, symbols_none}
use Rattle.lsys_pass.proofs.sizes.symbols_at.Goals as goal

pub returns-in-Some : goal.returns-in-Some
returns-in-Some c =
    let xs : List Size = c.args.sizes.now in
    let x : Size = c.in-Some.size.now in
    symbols_some xs c.args.level x (slice_get-get_or xs c.args.level x c.in-Some.ensures.lookup.3.0 ∙ ap (λ r. Some r) (sym c.in-Some.ensures.lookup.1))

pub returns-in-None : goal.returns-in-None
returns-in-None c =
    let xs : List Size = c.args.sizes.now in
    symbols_none xs c.args.level (slice_get_past xs c.args.level c.in-None.ensures.lookup.3)
