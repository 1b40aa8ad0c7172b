use Rattle.std.proofs.Common.{◌++◌, List, ap, ◌∙◌}
use Rattle.std.proofs.lemmas.Result.{on_ok_weaker}
use Rattle.lsys_forest.specs.Groves.{now_of}
use Rattle.lsys_forest.proofs.SoundLemmas.{some_of}
use Rattle.lsys_front.proofs.Losing.{loses_on}
use Rattle.lsys_front.proofs.Ending.{ended_one, kids_stay, lives_still}
use Rattle.lsys_front.proofs.ends.end_node.Goals as goal

pub take_children-requires-clause-lives : goal.take_children-requires-clause-lives
take_children-requires-clause-lives g c =
    let f = c.args.forest.now in
    let n = some_of (now_of f c.args.node) c.requires.lives in
    lives_still (now_of f) (now_of c.take_answer.new.forest) c.args.node n.0 n.1 (c.in_ok-take_answer.ensures.taken n.0 n.1)

pub returns-clause-ended : goal.returns-clause-ended
returns-clause-ended g c =
    let f = c.args.forest.now in
    let n = some_of (now_of f c.args.node) c.requires.lives in
    on_ok_weaker c.take_children.result
    (λ taken. ended_one (now_of f) (now_of c.take_answer.new.forest) (now_of c.take_children.new.forest) c.args.node n.0 n.1 (c.in_ok-take_answer.ensures.taken n.0 n.1) taken)
    c.take_children.ensures.taken

pub returns-clause-below : goal.returns-clause-below
returns-clause-below g c =
    let f = c.args.forest.now in
    let n = some_of (now_of f c.args.node) c.requires.lives in
    on_ok_weaker c.take_children.result
    (λ e. e ∙ ap (λ (l : List _). c.args.below.now.items ++ l) (kids_stay (now_of f) (now_of c.take_answer.new.forest) c.args.node n.0 n.1 (c.in_ok-take_answer.ensures.taken n.0 n.1)))
    c.take_children.ensures.below

pub returns-clause-loses : goal.returns-clause-loses
returns-clause-loses g c = loses_on c.args.forest.now c.take_answer.new.forest c.take_children.new.forest c.take_answer.ensures.loses c.take_children.ensures.loses
