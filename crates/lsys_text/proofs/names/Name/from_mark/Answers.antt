use Rattle.std.proofs.Common.{sym, subst, arith}
use Rattle.lsys_text.specs.Texts.{IsNameBytes}
use Rattle.lsys_text.proofs.Kept.{mark-kept, mark_is_name}
use Rattle.lsys_text.proofs.names.Name.from_mark.Goals as goal

pub invariant_of-result : goal.invariant_of-result
invariant_of-result c = record {
  fits = omega arith;
  text = subst IsNameBytes (sym (mark-kept c.args.mark _ c.requires c.from.ensures)) (mark_is_name c.args.mark c.requires);
}

pub returns : goal.returns
returns c = mark-kept c.args.mark _ c.requires c.from.ensures
