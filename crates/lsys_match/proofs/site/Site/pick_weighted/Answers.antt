use Rattle.std.proofs.Common.{rules, ◌≡◌, [], None, Some, subst, refl}
use Rattle.std.specs.Prelude.{Ok, Err}
use Rattle.lsys_spec.specs.Choice.{none_tried, picked, Failed}
use Rattle.lsys_rewrite.specs.Faults.{fault_of}
use Rattle.lsys_walks.proofs.Told.{on_err}
use Rattle.lsys_match.specs.Groups.{rules_of}
use Rattle.lsys_match.specs.Sites.{all_told, choice_told}
use Rattle.lsys_match.specs.Tries.{entries_by}
use Rattle.lsys_match.specs.Choices.{IsTold, choice_by, found_or_fault}
use Rattle.lsys_match.proofs.Choosing.{picks, told_front, if_ok}
use Rattle.lsys_match.proofs.site.Site.pick_weighted.Goals as goal

pub returns-in_err-kind-clause-refused : goal.returns-in_err-kind-clause-refused
returns-in_err-kind-clause-refused g c = λ naming. on_err _ _ (c.in_err-kind.ensures.refused naming)

pub returns-in-Some-clause-chosen : goal.returns-in-Some-clause-chosen
returns-in-Some-clause-chosen g c =
    λ naming. picks c.args.key (all_told naming c.args.self.now none_tried (Ok []) (rules_of c.args.group.now)) (entries_by naming c.find_all.new.trace.read) (Err (fault_of c.in-Some.kind)) (Failed (fault_of c.in-Some.kind))
    (subst (λ k. IsTold (all_told naming c.args.self.now none_tried (Ok []) (rules_of c.args.group.now)) (entries_by naming c.find_all.new.trace.read) (found_or_fault c.find_all.new.found k)) c.in-Some.is (c.in_ok-kind.ensures.found naming)) refl

pub returns-clause-chosen : goal.returns-clause-chosen
returns-clause-chosen g c =
    let none : c.in_ok-kind.field-0 ≡ None = search rules in
    λ naming. let t : IsTold (all_told naming c.args.self.now none_tried (Ok []) (rules_of c.args.group.now)) (entries_by naming c.find_all.new.trace.read) (Ok c.find_all.new.found) =
    subst (λ k. IsTold (all_told naming c.args.self.now none_tried (Ok []) (rules_of c.args.group.now)) (entries_by naming c.find_all.new.trace.read) (found_or_fault c.find_all.new.found k)) none (c.in_ok-kind.ensures.found naming) in
    if_ok c.pick.result (λ o. choice_by o c.pick.new.bound.items ≡ picked c.args.key (Ok c.find_all.new.found))
    (λ o. IsTold (choice_told naming c.args.self.now (Some c.args.key) (rules_of c.args.group.now)) (entries_by naming c.find_all.new.trace.read) (choice_by o c.pick.new.bound.items))
    (λ o e. picks c.args.key (all_told naming c.args.self.now none_tried (Ok []) (rules_of c.args.group.now)) (entries_by naming c.find_all.new.trace.read) (Ok c.find_all.new.found) (choice_by o c.pick.new.bound.items) t e) c.pick.ensures

pub returns-clause-refused : goal.returns-clause-refused
returns-clause-refused g c =
    λ naming. on_err _ _ (told_front (all_told naming c.args.self.now none_tried (Ok []) (rules_of c.args.group.now)) (entries_by naming c.find_all.new.trace.read) _ (c.in_ok-kind.ensures.found naming))
