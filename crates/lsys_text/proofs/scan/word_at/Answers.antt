use Rattle.std.proofs.Common.{◌≡◌, ◌≤◌, ◌-◌, ℕ, List, length, take, arith, ◌∙◌, sym, ap, ap₂, subst}
use Rattle.lsys_syntax.specs.Tokens.{Kind, is_letter, is_word_byte, front, word_kind}
use Rattle.lsys_syntax.specs.Tokens as syntax
use Rattle.lsys_syntax.specs.Pieces.{IsWordText}
use Rattle.lsys_text.specs.Tokens.{kind_of}
use Rattle.lsys_text.proofs.Fronts.{front-take, length-front, word-front}
use Rattle.lsys_text.proofs.Longest.{word_kind-short, word_kind-long}
use Rattle.lsys_text.proofs.scan.word_at.Goals as goal
use Rattle.lsys_text.proofs.scan.word_at.Goals.{then-len-le16, else-len-le16}

pub from_text-requires : goal.from_text-requires
from_text-requires c =
    let is : front is_word_byte c.args.text.now ≡ take c.word_len-len.result c.args.text.now = front-take is_word_byte c.args.text.now ∙ ap (λ n. take n c.args.text.now) (sym c.word_len-len.ensures.len) in
    let few : length (front is_word_byte c.args.text.now) ≤ 16 = omega (arith, length-front is_word_byte c.args.text.now, c.word_len-len.ensures.len) in
    subst IsWordText is (word-front c.args.text.now c.requires few)

pub returns-clause-word : goal.returns-clause-word
returns-clause-word c =
    let text : List ℕ = front is_word_byte c.args.text.now in
    let is : take c.word_len-len.result c.args.text.now ≡ text = sym (front-take is_word_byte c.args.text.now ∙ ap (λ n. take n c.args.text.now) (sym c.word_len-len.ensures.len)) in
    let len : c.word_len-len.result ≡ length text = c.word_len-len.ensures.len ∙ sym (length-front is_word_byte c.args.text.now) in
    let kind : kind_of c.if-len-le16.kind ≡ word_kind text =
    elim c.if-len-le16.branch [
      | then-len-le16 w ↦ ap kind_of w.kind-is ∙ ap syntax.Word (w.from_text.ensures ∙ is) ∙ sym (word_kind-short text (omega (arith, w.if-len-le16.true)))
      | else-len-le16 w ↦ ap kind_of w.kind-is ∙ sym (word_kind-long text (omega (arith, w.if-len-le16.false)))
    ] in
    ap₂ (λ (k : Kind) (n : ℕ). (k, n)) kind (ap (λ n. n - 1) len)
