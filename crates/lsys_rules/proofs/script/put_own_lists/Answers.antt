use Rattle.std.proofs.Common.{◌+◌, drop, map, List}
use Rattle.std.proofs.lemmas.List.{take_all}
use Rattle.lsys_io.proofs.Puts.{puts_nothing, puts_then, puts_failed}
use Rattle.lsys_spec.specs.Shown.{as_set_own, script_of}
use Rattle.lsys_spec.specs.Systems.{Own}
use Rattle.lsys_rules.specs.Showing.{script_line}
use Rattle.lsys_rules.proofs.ShownTexts.{gathered-step, gathered-rest, lists_gather}
use Rattle.lsys_rules.proofs.script.put_own_lists.Goals as goal

pub loop-list-init : goal.loop-list-init
loop-list-init g c = record { put = puts_nothing }

pub loop-list-preserved : goal.loop-list-preserved
loop-list-preserved g c = record {
  put = rw (gathered-step (λ (os : List Own). script_of (map as_set_own os)) (λ (o : Own). script_line (as_set_own o)) lists_gather c.args.lists.now c.loop-list.list-index c.list-item.result c.loop-list-test.true c.list-item.is) (puts_then c.loop-list.invariant.put c.in_ok-put_own_list.ensures);
}

pub returns-in_err-put_own_list : goal.returns-in_err-put_own_list
returns-in_err-put_own_list g c =
    let items = c.args.lists.now in
    let i = c.loop-list.list-index in
    rw (gathered-rest (λ (os : List Own). script_of (map as_set_own os)) (λ (o : Own). script_line (as_set_own o)) lists_gather items (i + 1), gathered-step (λ (os : List Own). script_of (map as_set_own os)) (λ (o : Own). script_line (as_set_own o)) lists_gather items i c.list-item.result c.loop-list-test.true c.list-item.is)
    (puts_failed ((λ (os : List Own). script_of (map as_set_own os)) (drop (i + 1) items)) c.from_residual.ensures.0 (puts_then c.loop-list.invariant.put c.in_err-put_own_list.ensures))

pub returns : goal.returns
returns g c = rw (← take_all c.loop-list.list-index c.args.lists.now c.loop-list-test.false) c.loop-list.invariant.put
