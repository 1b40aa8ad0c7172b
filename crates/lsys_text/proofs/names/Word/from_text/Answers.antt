use Rattle.std.proofs.Common.{◌∙◌, ap, sym, subst, arith}
use Rattle.lsys_syntax.specs.Pieces.{IsWordText}
use Rattle.lsys_text.specs.Packed.{unpacked}
use Rattle.lsys_text.proofs.Kept.{word-kept, word-short}
use Rattle.lsys_text.proofs.names.Word.from_text.Goals as goal

pub packed-requires : goal.packed-requires
packed-requires c = word-short c.args.text.now c.requires

pub invariant_of-result : goal.invariant_of-result
invariant_of-result c = record {
  fits = omega arith;
  text = subst IsWordText (sym (ap unpacked c.packed.ensures.number ∙ word-kept c.args.text.now c.requires)) c.requires;
}

pub returns : goal.returns
returns c = ap unpacked c.packed.ensures.number ∙ word-kept c.args.text.now c.requires
