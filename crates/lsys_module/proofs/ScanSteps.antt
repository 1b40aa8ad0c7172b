-- One turn of a scan.
use Rattle.std.proofs.Common.{◌≡◌, ℕ, suc, ◌+◌, ◌<◌, ◌≤◌, Bool, false, Option, Some, None, List, [], ◌∷◌, length, map, drop, get_or, ap, ◌∙◌, sym, subst, add-one, if◌then◌else◌}
use Rattle.std.proofs.Math.Seq.{drop-cons}
use Rattle.std.proofs.lemmas.List.{drop-map, drop_all}
use Rattle.lsys_syntax.specs.Tokens as syntax
use Rattle.lsys_syntax.specs.LineMachine.{Symbols, stops}
use Rattle.lsys_text.specs.declared.token_kind.Token.{Token}
use Rattle.lsys_text.specs.Tokens.{kind_of, kind_row}
use Rattle.lsys_module.specs.declared.glyph.StringGlyph.{StringGlyph}
use Rattle.lsys_module.specs.declared.scan.ScanSpot.TheVariants.{Between}
use Rattle.lsys_module.specs.declared.scan.Progress.{Progress}
use Rattle.lsys_module.specs.Scanning.{string_verdict, TellsString, glyph_of, progress_step, may_end, refused_from}
use Rattle.lsys_module.proofs.Scanned.{IsVerdict, after_step, refused-step, scan-verdict}

-- the kind at a place, and those after it
pub kinds-at : (tokens : List Token) (i : ℕ) (t : Token) → i < length tokens → t ≡ get_or tokens i t → drop i (kind_row tokens) ≡ kind_of t.kind ∷ drop (i + 1) (kind_row tokens)
kinds-at tokens i t h e =
    let kind : Token → syntax.Kind = λ t. kind_of t.kind in
    drop-map kind i tokens
    ∙ ap (map kind) (drop-cons tokens i t h ∙ ap (λ u. u ∷ drop (suc i) tokens) (sym e))
    ∙ ap (λ ks. kind t ∷ ks) (sym (drop-map kind (suc i) tokens) ∙ ap (λ j. drop j (kind_row tokens)) (sym (add-one i)))

abbrev pub begun : Progress
begun = record { spot = Between false; branches = 0 }

-- one token on
pub refused-turn : (tokens : List Token) (i : ℕ) (t : Token) (p : Progress) (g : StringGlyph) (o : Option Progress) → i < length tokens → t ≡ get_or tokens i t → g ≡ glyph_of (kind_of (get_or tokens i t).kind) → o ≡ progress_step p g
    → refused_from i p (drop i (kind_row tokens)) ≡ after_step i (drop (i + 1) (kind_row tokens)) o
refused-turn tokens i t p g o h e glyph is =
    let rest = drop (i + 1) (kind_row tokens) in
    let same : progress_step p (glyph_of (kind_of t.kind)) ≡ o = ap (λ u. progress_step p (glyph_of (kind_of u.kind))) e ∙ ap (progress_step p) (sym glyph) ∙ sym is in
    ap (refused_from i p) (kinds-at tokens i t h e) ∙ refused-step i p (kind_of t.kind) rest ∙ ap (after_step i rest) same

-- after the last token
pub refused-end : (tokens : List Token) (i : ℕ) (p : Progress) (b : Bool) → length tokens ≤ i → b ≡ may_end p.spot p.branches → refused_from i p (drop i (kind_row tokens)) ≡ (if b then None else Some i)
refused-end tokens i p b h e =
    let kind : Token → syntax.Kind = λ t. kind_of t.kind in
    ap (refused_from i p) (drop-map kind i tokens ∙ ap (map kind) (drop_all i tokens h)) ∙ ap (λ ends. if ends then None else Some i) (sym e)

found : (from : ℕ) (tokens : List Token) (o : Option ℕ) → refused_from from begun (drop from (kind_row tokens)) ≡ o → IsVerdict o (string_verdict from tokens)
found from tokens o e = let P : Option ℕ → Type 0 = λ r. IsVerdict r (string_verdict from tokens) in subst P e (scan-verdict (drop from (kind_row tokens)) from (Symbols []) tt)

-- no token is refused
pub found_string : (from : ℕ) (tokens : List Token) → refused_from from begun (drop from (kind_row tokens)) ≡ None → TellsString (string_verdict from tokens)
found_string from tokens e = found from tokens None e

-- a token is refused
pub found_place : (from : ℕ) (tokens : List Token) (place : ℕ) → refused_from from begun (drop from (kind_row tokens)) ≡ Some place → string_verdict from tokens ≡ stops place
found_place from tokens place e = found from tokens (Some place) e
