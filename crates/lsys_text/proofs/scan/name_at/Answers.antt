use Rattle.std.proofs.Common.{◌≡◌, ◌∙◌, ap, drop}
use Rattle.lsys_syntax.specs.Tokens as syntax
use Rattle.lsys_text.specs.Tokens.{name_of}
use Rattle.lsys_text.proofs.Fronts.{part-from}
use Rattle.lsys_text.proofs.Longest.{IsNameFront, name-front}
use Rattle.lsys_text.proofs.scan.name_at.Goals as goal

pub from_text-requires : goal.from_text-requires
from_text-requires c =
    let more : c.name_more-more.result ≡ (syntax.name_with 0 (syntax.name_tail (drop 1 c.args.text.now))).1 =
    c.name_more-more.ensures.more ∙ ap (λ after. (syntax.name_with 0 (syntax.name_tail after)).1) (part-from 1 c.args.text.now) in
    (name-front c.args.text.now c.name_more-more.result c.requires more).name

pub returns-clause-name : goal.returns-clause-name
returns-clause-name c =
    let more : c.name_more-more.result ≡ (syntax.name_with 0 (syntax.name_tail (drop 1 c.args.text.now))).1 =
    c.name_more-more.ensures.more ∙ ap (λ after. (syntax.name_with 0 (syntax.name_tail after)).1) (part-from 1 c.args.text.now) in
    let front : IsNameFront c.args.text.now c.name_more-more.result = name-front c.args.text.now c.name_more-more.result c.requires more in
    ap (λ text. (syntax.Name (name_of text), c.name_more-more.result)) c.from_text.ensures ∙ front.is
