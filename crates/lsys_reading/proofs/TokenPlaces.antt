-- The kinds of tokens, from a place on.
use Rattle.lsys_reading.specs.declared.glyph.RuleGlyph.{RuleGlyph}
use Rattle.lsys_reading.specs.declared.glyph.RuleGlyph.TheVariants.{End}
use Rattle.std.proofs.Common.{subst, ◌≡◌, ◌+◌, ℕ, zero, suc, ◌<◌, ◌≤◌, Option, Some, None, List, [], ◌∷◌, drop, length, map, get_or, Bor, refl, ap, sym, add-one, arith}
use Rattle.std.specs.Prelude.{IfSome, MatchOption}
use Rattle.std.specs.List.{HoldsAt}
use Rattle.std.proofs.lemmas.List.{drop_all}
use Rattle.lsys_spec.specs.Refusals.{column_at}
use Rattle.lsys_text.specs.Tokens.{kind_of, kind_row, token_of}
use Rattle.lsys_text.specs.declared.token_kind.Token.{Token}
use Rattle.lsys_syntax.specs.Tokens.{Kind}
use Rattle.lsys_syntax.specs.Sentences.{AreTokens, IsToken}
use Rattle.lsys_syntax.specs.RulePoints.{Here}
use Rattle.lsys_reading.specs.Glyphs.{IsGlyph, IsPeeked}

drop-kind : (ts : List Token) (at : ℕ) (t : Token) → at < length ts → t ≡ get_or ts at t → drop at (kind_row ts) ≡ kind_of t.kind ∷ drop (suc at) (kind_row ts)
drop-kind [] at t h e = absurd (omega arith)
drop-kind (x ∷ ts) zero t h e = ap (λ (y : Token). kind_of y.kind ∷ kind_row ts) (sym e)
drop-kind (x ∷ ts) (suc at) t h e = drop-kind ts at t (omega arith) e

pub length-kinds : (ts : List Token) → length (kind_row ts) ≡ length ts
length-kinds [] = refl
length-kinds (t ∷ ts) = ap (λ n. suc n) (length-kinds ts)

pub token-here : (ts : List Token) (at : ℕ) (t : Token) → at < length ts → t ≡ get_or ts at t → Here (kind_row ts) at (kind_of t.kind)
token-here ts at t h e = (omega (arith, length-kinds ts), rw add-one (drop-kind ts at t h e))

none-here : (ts : List Token) (at : ℕ) → length ts ≤ at → drop at (kind_row ts) ≡ []
none-here ts at h = drop_all at (kind_row ts) (omega (arith, length-kinds ts))

-- what a look at a place finds
pub found : (ts : List Token) (at : ℕ) (o : Option (Bor Token)) → IfSome o (λ x. x.now ≡ get_or ts at x.now) → MatchOption o (length ts ≤ at) (λ x. (at < length ts) × HoldsAt (λ y. x.now ≡ y) ts at)
    → MatchOption o (drop at (kind_row ts) ≡ []) (λ t. Here (kind_row ts) at (kind_of t.now.kind))
found ts at None e h = none-here ts at h
found ts at (Some x) e h = token-here ts at x.now h.0 e

-- a token of a line
form-at : (ks : List Kind) (at : ℕ) (k : Kind) (rest : List Kind) → drop at ks ≡ k ∷ rest → AreTokens ks → IsToken k
form-at ks zero k rest e g = (subst AreTokens e g).0
form-at [] (suc at) k rest e g = cc
form-at (x ∷ ks) (suc at) k rest e g = form-at ks at k rest e g.1

pub token-form : (ks : List Kind) (at : ℕ) (k : Kind) → Here ks at k → AreTokens ks → IsToken k
token-form ks at k h g = form-at ks at k (drop (at + 1) ks) h.1 g

pub peeked : (ks : List Kind) (at : ℕ) (k : Kind) (g : RuleGlyph) → Here ks at k → IsGlyph g k → IsPeeked ks at g
peeked ks at k End h i = elim i [ ]
peeked ks at k g h i = (k, h, i)

-- the column of a token, and that of the line's end
pub column-here : (bytes : ℕ) (ts : List Token) (at : ℕ) (t : Token) → at < length ts → t ≡ get_or ts at t → t.start + 1 ≡ column_at bytes at (map token_of ts)
column-here bytes [] at t h e = absurd (omega arith)
column-here bytes (x ∷ ts) zero t h e = ap (λ (y : Token). y.start + 1) e
column-here bytes (x ∷ ts) (suc at) t h e = column-here bytes ts at t (omega arith) e

pub column-end : (bytes : ℕ) (ts : List Token) (at : ℕ) → length ts ≤ at → bytes + 1 ≡ column_at bytes at (map token_of ts)
column-end bytes [] at h = refl
column-end bytes (x ∷ ts) zero h = absurd (omega arith)
column-end bytes (x ∷ ts) (suc at) h = column-end bytes ts at (omega arith)
