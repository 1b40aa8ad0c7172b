use Rattle.std.proofs.Common.{◌≡◌, ◌++◌, ◌∷◌, [], rules, arith, length-append}
use Rattle.lsys_walks.proofs.Decoding.{decoded_more, arities_more}
use Rattle.lsys_walks.proofs.trace.Trace.add.Goals as goal

pub invariant_of-self-else-is_err : goal.invariant_of-self-else-is_err
invariant_of-self-else-is_err c =
    let e : c.push.new.self.items ≡ c.self.inside.entries.items ++ c.args.entry ∷ [] = search rules in
    let v : c.add_values.new.list.items ≡ c.self.inside.values.items ++ c.args.params.now = search rules in
    rw (e, v) (omega (arith, arities_more c.self.inside.entries.items c.args.entry, length-append c.self.inside.values.items c.args.params.now, c.self.invariant, c.requires))

pub returns-clause-added : goal.returns-clause-added
returns-clause-added c =
    let e : c.push.new.self.items ≡ c.self.inside.entries.items ++ c.args.entry ∷ [] = search rules in
    let v : c.add_values.new.list.items ≡ c.self.inside.values.items ++ c.args.params.now = search rules in
    rw (e, v, ← c.self.view_is) (decoded_more c.self.inside.entries.items c.self.inside.values.items c.args.entry c.args.params.now c.self.invariant c.requires)
