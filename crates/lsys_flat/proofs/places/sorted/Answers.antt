use Rattle.std.proofs.Common.{rules}
use Rattle.std.proofs.lemmas.List.Sorted.{answers_always}
use Rattle.lsys_flat.proofs.Lookups.{front_sorted}
use Rattle.lsys_flat.proofs.places.sorted.Goals as goal

pub returns : goal.returns
returns c =
    let sort = c.sort_unstable_by_key.ensures in
    front_sorted c.args.old.now c.loop-place.all.items c.sort_unstable_by_key.new.self.items c.loop-place.place c.loop-place.invariant c.loop-place-test.false sort.permutation
    (sort.sorted (λ p. p.origin) (answers_always _ _ _ (λ f a r g h. search rules)))
