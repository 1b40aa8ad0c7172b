use Rattle.std.proofs.Common.{ap, ◌∙◌, subst}
use Rattle.std.specs.Prelude.{is_some}
use Rattle.std.proofs.lemmas.Result.{on_ok_weaker}
use Rattle.std.specs.HashMap.{get}
use Rattle.lsys_spec.specs.Rows.{In}
use Rattle.lsys_forest.specs.Groves.{now_of}
use Rattle.lsys_children.specs.declared.number.Number.{Number}
use Rattle.lsys_children.specs.Matches.{same_child_number, nodes_where, match_of}
use Rattle.lsys_children.specs.Children.{numbers_of}
use Rattle.lsys_children.proofs.MatchLemmas.{kids_live, matched, same_matched, where_in}
use Rattle.lsys_children.proofs.brood.Brood.find.Goals as goal

pub enter_all-requires : goal.enter_all-requires
enter_all-requires g c = record { kids = kids_live c.args.forest.now c.args.parent c.children-kids.result.now c.children-kids.ensures.sound c.requires.lives c.children-kids.ensures.kids }

pub find_left-requires : goal.find_left-requires
find_left-requires g c = record { kids = kids_live c.args.forest.now c.args.parent c.children-kids.result.now c.children-kids.ensures.sound c.requires.lives c.children-kids.ensures.kids }

pub returns-clause-matched : goal.returns-clause-matched
returns-clause-matched g c = λ n is.
    let m = now_of c.args.forest.now in
    let numbers = numbers_of c.args.wanted.now in
    matched m c.children-kids.result.now numbers (get same_child_number c.enter_all.new.nodes) (get same_child_number c.take_all.new.nodes) c.take_all.new.found.items c.find_left.new.gone.items
    c.in_ok-enter_all.ensures c.in_ok-take_all.ensures.found c.in_ok-take_all.ensures.left c.in_ok-find_left.ensures
    ∙ ap (λ ks. match_of m ks numbers) (c.children-kids.ensures.kids n is)

pub have_numbers-requires : goal.have_numbers-requires
have_numbers-requires g c = record { kids = kids_live c.args.forest.now c.args.parent c.children-kids.result.now c.children-kids.ensures.sound c.requires.lives c.children-kids.ensures.kids }

pub take_out-requires : goal.take_out-requires
take_out-requires g c = record {
  gone = λ k among.
      let kids = c.children-kids.result.now in
      let test = λ (q : Number). is_some (get same_child_number c.take_all.new.nodes q) in
      let here : In k (nodes_where test (now_of c.args.forest.now) kids) = subst (In k) (c.deref.ensures.value ∙ c.in_ok-find_left.ensures) among in
      kids_live c.args.forest.now c.args.parent kids c.children-kids.ensures.sound c.requires.lives c.children-kids.ensures.kids k (where_in test (now_of c.args.forest.now) kids k here);
}

pub returns-then-have_numbers-clause-matched : goal.returns-then-have_numbers-clause-matched
returns-then-have_numbers-clause-matched g c = on_ok_weaker c.find_same.result (λ found n is.
    same_matched (now_of c.args.forest.now) c.children-kids.result.now (numbers_of c.args.wanted.now) c.find_same.new.found.items c.find_same.new.gone.items c.requires.apart
    (c.have_numbers.ensures c.if-have_numbers.true) found c.find_same.ensures.gone
    ∙ ap (λ ks. match_of (now_of c.args.forest.now) ks (numbers_of c.args.wanted.now)) (c.children-kids.ensures.kids n is)) c.find_same.ensures.found

pub find_each-requires : goal.find_each-requires
find_each-requires g c = record { kids = kids_live c.args.forest.now c.args.parent c.children-kids.result.now c.children-kids.ensures.sound c.requires.lives c.children-kids.ensures.kids }

pub leave_each-requires : goal.leave_each-requires
leave_each-requires g c = record { kids = kids_live c.args.forest.now c.args.parent c.children-kids.result.now c.children-kids.ensures.sound c.requires.lives c.children-kids.ensures.kids }
