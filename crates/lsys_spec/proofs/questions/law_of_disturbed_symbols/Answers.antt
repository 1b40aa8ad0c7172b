use Rattle.lsys_spec.proofs.Needs.{Derived, derived, disturbed}
use Rattle.lsys_spec.proofs.questions.law_of_disturbed_symbols.Goals as goal

pub returns : goal.returns
returns c old new limit limit' xs ys w w' h h' t x y g k l = let d : Derived old xs = derived old limit xs w h in let e : Derived new ys = derived new limit' ys w' h' in disturbed x y l (d.names t x g) (e.names t y k)
