use Rattle.std.proofs.Common.{◌<◌, ◌^◌, ◌∙◌, ap, sym, subst, arith, length}
use Rattle.lsys_text.specs.Packed.{unpacked}
use Rattle.lsys_text.specs.Texts.{IsNameBytes}
use Rattle.lsys_text.proofs.Kept.{name-kept, name-short, small_number}
use Rattle.lsys_text.proofs.names.Name.from_text.Goals as goal

pub overflow_cast-result : goal.overflow_cast-result
overflow_cast-result c = let small : c.packed.result < 2 ^ 64 = small_number (length c.args.text.now) c.packed.result (name-short c.args.text.now c.requires) c.packed.ensures.bound in omega arith

pub invariant_of-result : goal.invariant_of-result
invariant_of-result c = record {
  fits = small_number (length c.args.text.now) c.packed.result (name-short c.args.text.now c.requires) c.packed.ensures.bound;
  text = subst IsNameBytes (sym (ap unpacked c.packed.ensures.number ∙ name-kept c.args.text.now c.requires)) c.requires;
}

pub returns : goal.returns
returns c = ap unpacked c.packed.ensures.number ∙ name-kept c.args.text.now c.requires
