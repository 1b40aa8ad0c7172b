use Rattle.lsys_flat.specs.Tagged.{all_tagged}
use Rattle.lsys_flat.proofs.Agreeing.{new_new, old_all, all_chained}
use Rattle.lsys_flat.proofs.Owning.{own_tags}
use Rattle.lsys_flat.proofs.given.law_of_given_tags.Goals as goal

pub returns-clause-across : goal.returns-clause-across
returns-clause-across c xs ys olds news used next r h u a n =
    old_all (all_tagged 0 xs olds) used next a u (all_tagged 0 ys news) (all_chained xs olds used r 0 next ys news h n)

pub returns-clause-among : goal.returns-clause-among
returns-clause-among c xs ys olds news used next r h u a n =
    new_new (all_tagged 0 xs olds) used next a u (all_tagged 0 ys news) (all_chained xs olds used r 0 next ys news h n)

pub returns-clause-own : goal.returns-clause-own
returns-clause-own c ys tags spots r a h = own_tags ys tags spots r a h
