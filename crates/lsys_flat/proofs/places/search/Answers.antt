use Rattle.std.proofs.Common.{rules}
use Rattle.std.proofs.lemmas.List.Sorted.{answers_always}
use Rattle.lsys_flat.proofs.Lookups.{found_at, found_nowhere}
use Rattle.lsys_flat.proofs.places.search.Goals as goal

pub returns-in-Ok-clause-found : goal.returns-in-Ok-clause-found
returns-in-Ok-clause-found c = found_at c.args.sorted.now c.args.wanted c.in-Ok.at _ c.in-Ok.ensures.bound (c.in-Ok.ensures.position (λ p. p.origin) (answers_always _ _ _ (λ f a r g h. search rules)))

pub returns-in-Err-clause-none : goal.returns-in-Err-clause-none
returns-in-Err-clause-none c = found_nowhere c.args.sorted.now c.args.wanted c.in-Err.field-0 c.requires.order (c.in-Err.ensures.position (λ p. p.origin) (answers_always _ _ _ (λ f a r g h. search rules)))
