use Rattle.std.proofs.Common.{arith, refl}
use Rattle.lsys_syntax.specs.Strings.{name_kind}
use Rattle.lsys_module.specs.Views.{module_name}
use Rattle.lsys_bodies.proofs.HeadNames.{head-count, formal-names}
use Rattle.lsys_bodies.proofs.formals.FormalNames.of.Goals as goal

pub add_left-requires : goal.add_left-requires
add_left-requires c = rw c.deref.ensures.value (omega (arith, head-count c.args.rule.now, c.requires.room))

pub add_module-requires : goal.add_module-requires
add_module-requires c = rw c.deref-2.ensures.value (omega (arith, head-count c.args.rule.now, c.requires.room, rw c.deref.ensures.value at c.in_ok-add_left.ensures.place))

pub add_right-requires : goal.add_right-requires
add_right-requires c =
    rw c.deref-3.ensures.value
    (omega (
      arith,
      head-count c.args.rule.now,
      c.requires.room,
      rw c.deref.ensures.value at c.in_ok-add_left.ensures.place,
      rw c.deref-2.ensures.value at (c.in_ok-add_module.ensures (name_kind (module_name c.args.rule.now.predecessor.name))).place,
    ))

pub returns : goal.returns
returns c =
    formal-names c.args.from c.args.rule.now _ _ _ _ c.new.ensures.empty refl refl
    (rw c.deref.ensures.value at c.in_ok-add_left.ensures)
    (rw c.deref-2.ensures.value at (c.in_ok-add_module.ensures (name_kind (module_name c.args.rule.now.predecessor.name))))
    (rw c.deref-3.ensures.value at c.in_ok-add_right.ensures)
