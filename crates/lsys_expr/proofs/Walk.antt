-- The walk over the tokens: what is known before each of them, and what each outcome says of the extent.
use Rattle.std.proofs.Common.{◌≡◌, ◌≤◌, ◌<◌, ◌+◌, ℕ, suc, true, false, Result, Ok, Err, List, [], ◌∷◌, drop, length, get_or, add-one, arith, sym, ap, ◌∙◌, subst, refl}
use Rattle.std.proofs.Common.{length-drop}
use Rattle.std.proofs.Math.Seq.{drop-cons}
use Rattle.std.proofs.lemmas.List.{drop-map, drop_all, length-map}
use Rattle.lsys_syntax.specs.Tokens.{Kind}
use Rattle.lsys_syntax.specs.ExpressionMachine as m
use Rattle.lsys_syntax.specs.ExpressionPlaces.{Extent, ends, stops, too_deep, at_end, extent_after, extent_from, extent}
use Rattle.lsys_syntax.specs.Nesting.{depth}
use Rattle.lsys_syntax.specs.RuleMachine.{small}
use Rattle.lsys_syntax.specs.Sentences.{AreTokens}
use Rattle.lsys_syntax.proofs.Sound.{IsGoing}
use Rattle.lsys_syntax.proofs.WholeExpressions.{within-rest, after-deep}
use Rattle.lsys_syntax.proofs.Extents.{ends-whole, ends-last, stop-begins, stop-last, stop-whole, deep-begins, deep-none, deep-goes}
use Rattle.lsys_text.specs.Tokens.{kind_of, kind_row}
use Rattle.lsys_text.specs.declared.token_kind.Token.{Token as TextToken}
use Rattle.lsys_text.specs.declared.refusals.PlaceRefusal.{PlaceRefusal}
use Rattle.lsys_text.specs.declared.refusals.PlaceRefusal.TheVariants.{Token, Deep}
use Rattle.lsys_expr.specs.declared.levels.OpenLevel.{OpenLevel}
use Rattle.lsys_expr.specs.declared.scan.Awaited.{Awaited}
use Rattle.lsys_expr.specs.declared.scan.TokenEffect.TheVariants.{Goes, Ends, Stops, TooDeep}
use Rattle.lsys_expr.specs.Levels.{inner_nesting}
use Rattle.lsys_expr.specs.Scanning.{IsSeenWithin, IsTokenOutcome, IsEnded}
use Rattle.lsys_expr.specs.Scanned.{IsExtent, IsEndPlace}
use Rattle.lsys_expr.proofs.Seen.{seen-depth}

-- the first i tokens are read, and the rest decides
pub record Reached (ks : List Kind) (i : ℕ) (a : Awaited) (ls : List OpenLevel) : Type 0 where
  pub state : m.ExpressionState
  pub kept : IsSeenWithin a ls state
  pub rest : extent ks ≡ extent_from i state (drop i ks)

-- The token at the place, and what it makes of the extent.
module _ (ks : List Kind) (i : ℕ) (k : Kind) (a : Awaited) (ls : List OpenLevel) (r : Reached ks i a ls) (q : drop i ks ≡ k ∷ drop (i + 1) ks) where
  abbrev next : m.ExpressionState
  next = m.step r.state (small k)

  at-place : extent ks ≡ extent_after i r.state next (extent_from (i + 1) next (drop (i + 1) ks))
  at-place = r.rest ∙ ap (extent_from i r.state) q

  pub reached-next : (b : Awaited) (more : List OpenLevel) → IsTokenOutcome b more Goes r.state next → Reached ks (i + 1) b more
  reached-next b more h =
      let d : IsGoing next × (depth next ≡ inner_nesting more) = seen-depth b more next h.0 in
      record { state = next; kept = h; rest = at-place ∙ within-rest i (extent_from (i + 1) next (drop (i + 1) ks)) r.state next (omega (arith, d.1, h.1)) d.0 }

  pub reached-ends : (b : Awaited) (more : List OpenLevel) → IsTokenOutcome b more Ends r.state next → IsExtent 0 (extent ks) (Ok i)
  reached-ends b more h = subst (λ x. IsExtent 0 x (Ok i)) (sym (at-place ∙ h.1 i (extent_from (i + 1) next (drop (i + 1) ks)))) (omega arith)

  pub reached-stops : (b : Awaited) (more : List OpenLevel) → IsTokenOutcome b more Stops r.state next → IsExtent 0 (extent ks) (Err (Token i))
  reached-stops b more h = subst (λ x. IsExtent 0 x (Err (Token i))) (sym (at-place ∙ h i (extent_from (i + 1) next (drop (i + 1) ks)))) (omega arith)

  pub reached-deep : (b : Awaited) (more : List OpenLevel) → IsTokenOutcome b more TooDeep r.state next → IsExtent 0 (extent ks) (Err (Deep i))
  reached-deep b more h =
      let d : IsGoing next × (depth next ≡ inner_nesting h.1) = seen-depth h.0 h.1 next h.2 in
      subst (λ x. IsExtent 0 x (Err (Deep i))) (sym (at-place ∙ after-deep i (extent_from (i + 1) next (drop (i + 1) ks)) r.state next (omega (arith, d.1, h.3)) d.0)) (omega arith)

-- the end of the tokens
pub reached-whole : (ks : List Kind) (i : ℕ) (a : Awaited) (ls : List OpenLevel) (r : Reached ks i a ls) → drop i ks ≡ [] → IsEnded true (m.end_step r.state) → IsExtent 0 (extent ks) (Ok i)
reached-whole ks i a ls r q h = subst (λ x. IsExtent 0 x (Ok i)) (sym (r.rest ∙ ap (extent_from i r.state) q ∙ ap (at_end i) h.1)) (omega arith)

pub reached-early : (ks : List Kind) (i : ℕ) (a : Awaited) (ls : List OpenLevel) (r : Reached ks i a ls) → drop i ks ≡ [] → IsEnded false (m.end_step r.state) → IsExtent 0 (extent ks) (Err (Token i))
reached-early ks i a ls r q h = subst (λ x. IsExtent 0 x (Err (Token i))) (sym (r.rest ∙ ap (extent_from i r.state) q ∙ ap (at_end i) h)) (omega arith)

-- each place counted from another token
abbrev pub later : ℕ → Result ℕ PlaceRefusal → Result ℕ PlaceRefusal
later n (Ok place) = Ok (n + place)
later n (Err (Token place)) = Err (Token (n + place))
later n (Err (Deep place)) = Err (Deep (n + place))

pub later-extent : (n : ℕ) (x : Extent) (r : Result ℕ PlaceRefusal) → IsExtent 0 x r → IsExtent n x (later n r)
later-extent n (ends d e) (Ok p) h = omega (arith, h)
later-extent n (ends d e) (Err (Token p)) h = elim h [ ]
later-extent n (ends d e) (Err (Deep p)) h = elim h [ ]
later-extent n (stops d) (Ok p) h = elim h [ ]
later-extent n (stops d) (Err (Token p)) h = omega (arith, h)
later-extent n (stops d) (Err (Deep p)) h = elim h [ ]
later-extent n (too_deep d) (Ok p) h = elim h [ ]
later-extent n (too_deep d) (Err (Token p)) h = elim h [ ]
later-extent n (too_deep d) (Err (Deep p)) h = omega (arith, h)

-- The place in the field's terms, by the law.
placed : (n : ℕ) (ks : List Kind) (x : Extent) (r : Result ℕ PlaceRefusal) → AreTokens ks → extent ks ≡ x → IsExtent n x r → IsEndPlace n ks r
placed n ks (ends d e) (Ok p) g q h =
    let w = ends-whole ks d e g q in
    (d, h, record { within = w.0; whole = (e, w.1, w.2, w.3); none_longer = ends-last ks d e q })
placed n ks (stops d) (Err (Token p)) g q h =
    let w = stop-begins ks d g q in
    (d, h, record { within = w.0; before = w.1; none_goes_on = stop-last ks d q; not_whole = stop-whole ks d q })
placed n ks (too_deep d) (Err (Deep p)) g q h =
    let w = deep-begins ks d g q in
    (d, h, record { within = w.0; before = w.1; none_within = deep-none ks d q; only_deep = deep-goes ks d g q })
placed n ks (ends d e) (Err (Token p)) g q h = elim h [ ]
placed n ks (ends d e) (Err (Deep p)) g q h = elim h [ ]
placed n ks (stops d) (Ok p) g q h = elim h [ ]
placed n ks (stops d) (Err (Deep p)) g q h = elim h [ ]
placed n ks (too_deep d) (Ok p) g q h = elim h [ ]
placed n ks (too_deep d) (Err (Token p)) g q h = elim h [ ]

pub placed-so : (n : ℕ) (ks : List Kind) (r : Result ℕ PlaceRefusal) → AreTokens ks → IsExtent n (extent ks) r → IsEndPlace n ks r
placed-so n ks r g h = placed n ks (extent ks) r g refl h

abbrev kind_in : TextToken → Kind
kind_in u = kind_of u.kind

-- The token with the number i after the first n, as the loop reads it.
pub token-next : (ts items : List TextToken) (n i : ℕ) (t : TextToken) → items ≡ drop n ts → i < length items → t ≡ get_or items i t
    → drop i (drop n (kind_row ts)) ≡ kind_of t.kind ∷ drop (i + 1) (drop n (kind_row ts))
token-next ts items n i t e h g =
    let kinds : drop n (kind_row ts) ≡ kind_row items = drop-map kind_in n ts ∙ ap kind_row (sym e) in
    let one : drop i items ≡ t ∷ drop (suc i) items = drop-cons items i t h ∙ ap (λ u. u ∷ drop (suc i) items) (sym g) in
    let next : suc i ≡ i + 1 = sym (add-one i) in
    ap (drop i) kinds ∙ drop-map kind_in i items ∙ ap kind_row one
    ∙ ap (λ us. kind_of t.kind ∷ us) (sym (drop-map kind_in (suc i) items) ∙ ap (λ us. drop (suc i) us) (sym kinds) ∙ ap (λ j. drop j (drop n (kind_row ts))) next)

-- no token is left
pub token-end : (ts items : List TextToken) (n i : ℕ) → items ≡ drop n ts → length items ≤ i → drop i (drop n (kind_row ts)) ≡ []
token-end ts items n i e h =
    let kinds : drop n (kind_row ts) ≡ kind_row items = drop-map kind_in n ts ∙ ap kind_row (sym e) in
    ap (drop i) kinds ∙ drop_all i (kind_row items) (omega (arith, h, length-map items kind_in))

pub place-end : (ts items : List TextToken) (n i : ℕ) → items ≡ drop n ts → n ≤ length ts → i ≤ length items → length items ≤ i → n + i ≡ length ts
place-end ts items n i e h a b = omega (arith, h, a, b, ap length e, length-drop n ts)
