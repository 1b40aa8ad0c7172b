-- Symbols with formals: one, and what stands after it.
use Rattle.std.proofs.Common.{◌≡◌, ◌+◌, ◌&&◌, ℕ, zero, suc, Bool, true, false, nat_lt, Some, None, List, [], ◌∷◌, drop, refl, ap, sym, ◌∙◌, arith}
use Rattle.std.proofs.lemmas.Bool.Decides.{nat_tests}
use Rattle.lsys_syntax.specs.Tokens.{NameText, Kind, Word, LongWord, Number, BigNumber, Equal, Unequal, AtMost, AtLeast, Times, Assign, LeftParen}
use Rattle.lsys_syntax.specs.Strings.{ModuleName, named, plus, minus, ampersand, caret, backslash, slash, bar, bang, name_kind, Symbol, Module, Push, Pop}
use Rattle.lsys_syntax.specs.RuleMachine.{Form, production, homomorphism, Part, at_first, at_predecessor, at_right, RuleState, Formals, FormalDue, Stop, open_in, popped, only_right, one_more, formals_open, formals_step}
use Rattle.lsys_module.specs.Views.{module_name}
use Rattle.lsys_reading.specs.declared.glyph.RuleGlyph.{RuleGlyph}
use Rattle.lsys_reading.specs.declared.glyph.RuleGlyph.TheVariants as glyphs
use Rattle.lsys_reading.specs.declared.patterns.Section.{Section}
use Rattle.lsys_reading.specs.declared.patterns.Section.TheVariants.{First, Alone, Right}
use Rattle.lsys_reading.specs.declared.patterns.Standing.{Standing}
use Rattle.lsys_reading.specs.declared.patterns.Opening.{Opening}
use Rattle.lsys_reading.specs.declared.patterns.Opening.TheVariants as openings
use Rattle.lsys_syntax.specs.RulePoints.{at_state, after_symbol, after_symbols, symbol_step, symbols_step, taken, rule_from, point_from, verdict_at, Leads}
use Rattle.lsys_reading.specs.Glyphs.{is_other, IsGlyph, IsPeeked, is_opening}
use Rattle.lsys_reading.specs.Patterns.{is_right, takes_name, opening_where, opening_of, IsSection, is_empty, IsStanding}
use Rattle.lsys_syntax.proofs.RulePoints.{leads-token, same-token, same-end}

-- 1. a parenthesis

abbrev pub is_paren : Kind → Bool
is_paren LeftParen = true
is_paren k = false

name-no-paren : (x : ModuleName) → is_paren (name_kind x) ≡ false
name-no-paren plus = refl
name-no-paren minus = refl
name-no-paren ampersand = refl
name-no-paren caret = refl
name-no-paren backslash = refl
name-no-paren slash = refl
name-no-paren bar = refl
name-no-paren bang = refl
name-no-paren (named x) = refl

other-no-paren : (k : Kind) → is_other k ≡ true → is_paren k ≡ false
other-no-paren LeftParen h = cc
other-no-paren k h = refl

pub no-paren : (g : RuleGlyph) (k : Kind) → IsGlyph g k → is_opening g ≡ false → is_paren k ≡ false
no-paren glyphs.Open k h e = cc
no-paren (glyphs.Letters x) k h e = ap is_paren h.0
no-paren (glyphs.Sign x) k h e = ap is_paren h.0 ∙ name-no-paren (module_name x)
no-paren glyphs.Other k h e = other-no-paren k h
no-paren glyphs.End k h e = elim h [ ]
no-paren g k h e = ap is_paren h

-- a symbol that takes none
pub shut : (m : Form) (ks : List Kind) (at : ℕ) (p : Part) (r : List (Symbol NameText)) → formals_open p r ≡ Stop → verdict_at m ks at (at_state (Formals p r)) ≡ verdict_at m ks at (after_symbol p r)
shut m ks at p r e = by (drop at ks)
  where
    by : (rest : List Kind) → point_from m at (at_state (Formals p r)) rest ≡ point_from m at (after_symbol p r) rest
    by [] = refl
    by (LeftParen ∷ rest) = ap (λ s. taken at s (rule_from m (at + 1) s rest)) e
    by (k ∷ rest) = refl

-- a parenthesis after a name
pub opens : (m : Form) (ks : List Kind) (at : ℕ) (p : Part) (r : List (Symbol NameText)) (n : ModuleName) (g : RuleGlyph) → IsPeeked ks at g → is_opening g ≡ true
    → Leads m ks at (at_state (Formals p (Module n [] ∷ r))) (at + 1) (at_state (FormalDue p r n []))
opens m ks at p r n glyphs.Open h e = leads-token m ks at h.0 (at_state (Formals p (Module n [] ∷ r))) h.1 (FormalDue p r n []) (ap (λ k. formals_step m k p (Module n [] ∷ r)) h.2) (λ i v. refl)
opens m ks at p r n g h e = cc

-- 2. the token that a symbol begins with

name-step : (m : Form) (x : ModuleName) (p : Part) (r : List (Symbol NameText)) → symbol_step m (name_kind x) p r ≡ one_more m p r (Formals p (Module x [] ∷ r))
name-step m plus p r = refl
name-step m minus p r = refl
name-step m ampersand p r = refl
name-step m caret p r = refl
name-step m backslash p r = refl
name-step m slash p r = refl
name-step m bar p r = refl
name-step m bang p r = refl
name-step m (named x) p r = refl

name-ends : (m : Form) (x : ModuleName) (p : Part) (r : List (Symbol NameText)) → symbols_step m (name_kind x) p r ≡ Stop
name-ends m plus p r = refl
name-ends m minus p r = refl
name-ends m ampersand p r = refl
name-ends m caret p r = refl
name-ends m backslash p r = refl
name-ends m slash p r = refl
name-ends m bar p r = refl
name-ends m bang p r = refl
name-ends m (named x) p r = refl

other-ends : (m : Form) (k : Kind) (p : Part) (r : List (Symbol NameText)) → is_other k ≡ true → symbol_step m k p r ≡ symbols_step m k p r
other-ends m (Word w) p r h = refl
other-ends m LongWord p r h = refl
other-ends m (Number n) p r h = refl
other-ends m BigNumber p r h = refl
other-ends m Equal p r h = refl
other-ends m Unequal p r h = refl
other-ends m AtMost p r h = refl
other-ends m AtLeast p r h = refl
other-ends m Times p r h = refl
other-ends m Assign p r h = refl
other-ends m k p r h = cc

-- one symbol too many
too-many : (s : Section) (f : Bool) (m : Form) (p : Part) (r : List (Symbol NameText)) (t : RuleState) → IsSection s m p → f ≡ is_empty r → takes_name s f ≡ false → one_more m p r t ≡ Stop
too-many Alone f production (at_predecessor l) [] t h e n = cc
too-many Alone f production (at_predecessor l) (x ∷ r) t h e n = refl
too-many Alone f homomorphism at_first [] t h e n = cc
too-many Alone f homomorphism at_first (x ∷ r) t h e n = refl
too-many First f production at_first r t h e n = cc
too-many Right f production (at_right l y fs) r t h e n = cc
too-many s f m p r t h e n = elim h [ ]

-- one that may stand there
may-stand : (s : Section) (f : Bool) (m : Form) (p : Part) (r : List (Symbol NameText)) (t : RuleState) → IsSection s m p → f ≡ is_empty r → takes_name s f ≡ true → one_more m p r t ≡ t
may-stand Alone f production (at_predecessor l) [] t h e n = refl
may-stand Alone f production (at_predecessor l) (x ∷ r) t h e n = cc
may-stand Alone f homomorphism at_first [] t h e n = refl
may-stand Alone f homomorphism at_first (x ∷ r) t h e n = cc
may-stand First f production at_first [] t h e n = refl
may-stand First f production at_first (x ∷ r) t h e n = refl
may-stand Right f production (at_right l y fs) [] t h e n = refl
may-stand Right f production (at_right l y fs) (x ∷ r) t h e n = refl
may-stand s f m p r t h e n = elim h [ ]

not-right : (s : Section) (m : Form) (p : Part) (t : RuleState) → IsSection s m p → is_right s ≡ false → only_right p t ≡ Stop
not-right Alone production (at_predecessor l) t h e = refl
not-right Alone homomorphism at_first t h e = refl
not-right First production at_first t h e = refl
not-right Right production (at_right l y fs) t h e = cc
not-right s m p t h e = elim h [ ]

right-is : (s : Section) (m : Form) (p : Part) (t : RuleState) → IsSection s m p → is_right s ≡ true → only_right p t ≡ t
right-is Right production (at_right l y fs) t h e = refl
right-is Alone production (at_predecessor l) t h e = cc
right-is Alone homomorphism at_first t h e = cc
right-is First production at_first t h e = cc
right-is s m p t h e = elim h [ ]

none-where : (b : Bool) (o : Opening) → None ≡ opening_where b o → b ≡ false
none-where true o h = cc
none-where false o h = refl

some-where : (b : Bool) (o q : Opening) → Some q ≡ opening_where b o → (b ≡ true) × (q ≡ o)
some-where true o q h = (refl, cc)
some-where false o q h = cc

not-popped : (s : Section) (b i : ℕ) (m : Form) (p : Part) (t : RuleState) → IsSection s m p → b ≡ i → (is_right s && nat_lt 0 b) ≡ false → only_right p (popped i t) ≡ Stop
not-popped Right b zero production (at_right l y fs) t h e n = refl
not-popped Right b (suc i) production (at_right l y fs) t h e n = absurd (grind (arith, nat_tests))
not-popped Alone b i production (at_predecessor l) t h e n = refl
not-popped Alone b i homomorphism at_first t h e n = refl
not-popped First b i production at_first t h e n = refl
not-popped s b i m p t h e n = elim h [ ]

module _ (m : Form) (ks : List Kind) (at : ℕ) (p : Part) (r : List (Symbol NameText)) (st : Standing) (stands : IsStanding st m p r) where
  -- no symbol begins there
  pub opening-none : (g : RuleGlyph) → IsPeeked ks at g → None ≡ opening_of st g → verdict_at m ks at (after_symbol p r) ≡ verdict_at m ks at (after_symbols p r)
  opening-none glyphs.End h e = same-end m ks at (after_symbol p r) (after_symbols p r) h refl
  opening-none (glyphs.Letters x) h e =
      same-token m ks at h.0 (after_symbol p r) h.1 (after_symbols p r)
      (ap (λ k. symbol_step m k p r) h.2.0 ∙ too-many st.section st.is_first m p r _ stands.0 stands.1 (none-where (takes_name st.section st.is_first) _ e) ∙ sym (ap (λ k. symbols_step m k p r) h.2.0))
  opening-none (glyphs.Sign x) h e =
      same-token m ks at h.0 (after_symbol p r) h.1 (after_symbols p r)
      (ap (λ k. symbol_step m k p r) h.2.0 ∙ name-step m (module_name x) p r ∙ too-many st.section st.is_first m p r _ stands.0 stands.1 (none-where (takes_name st.section st.is_first) _ e)
      ∙ sym (ap (λ k. symbols_step m k p r) h.2.0 ∙ name-ends m (module_name x) p r))
  opening-none glyphs.Push h e =
      same-token m ks at h.0 (after_symbol p r) h.1 (after_symbols p r)
      (ap (λ k. symbol_step m k p r) h.2 ∙ not-right st.section m p (Formals p (Push ∷ r)) stands.0 (none-where (is_right st.section) _ e) ∙ sym (ap (λ k. symbols_step m k p r) h.2))
  opening-none glyphs.Pop h e =
      same-token m ks at h.0 (after_symbol p r) h.1 (after_symbols p r)
      (ap (λ k. symbol_step m k p r) h.2 ∙ not-popped st.section st.branches (open_in r) m p (Formals p (Pop ∷ r)) stands.0 stands.2 (none-where (is_right st.section && nat_lt 0 st.branches) _ e) ∙ sym (ap (λ k. symbols_step m k p r) h.2))
  opening-none glyphs.Other h e = same-token m ks at h.0 (after_symbol p r) h.1 (after_symbols p r) (other-ends m h.0 p r h.2)
  opening-none g h e = same-token m ks at h.0 (after_symbol p r) h.1 (after_symbols p r) (ap (λ k. symbol_step m k p r) h.2 ∙ sym (ap (λ k. symbols_step m k p r) h.2))

  pub opening-name : (g : RuleGlyph) (x : List ℕ) → IsPeeked ks at g → Some (openings.Name x) ≡ opening_of st g → Leads m ks at (after_symbol p r) (at + 1) (at_state (Formals p (Module (module_name x) [] ∷ r)))
  opening-name (glyphs.Letters y) x h e =
      let s = some-where (takes_name st.section st.is_first) (openings.Name y) (openings.Name x) e in
      let is : openings.Name x ≡ openings.Name y = s.1 in
      let same : x ≡ y = cc in
      leads-token m ks at h.0 (after_symbol p r) h.1 (Formals p (Module (module_name x) [] ∷ r))
      (ap (λ k. symbol_step m k p r) h.2.0 ∙ may-stand st.section st.is_first m p r _ stands.0 stands.1 s.0 ∙ ap (λ n. Formals p (Module n [] ∷ r)) (sym h.2.1) ∙ ap (λ z. Formals p (Module (module_name z) [] ∷ r)) (sym same)) (λ i v. refl)
  opening-name (glyphs.Sign y) x h e =
      let s = some-where (takes_name st.section st.is_first) (openings.Name y) (openings.Name x) e in
      let is : openings.Name x ≡ openings.Name y = s.1 in
      let same : x ≡ y = cc in
      leads-token m ks at h.0 (after_symbol p r) h.1 (Formals p (Module (module_name x) [] ∷ r))
      (ap (λ k. symbol_step m k p r) h.2.0 ∙ name-step m (module_name y) p r ∙ may-stand st.section st.is_first m p r _ stands.0 stands.1 s.0 ∙ ap (λ z. Formals p (Module (module_name z) [] ∷ r)) (sym same)) (λ i v. refl)
  opening-name glyphs.Push x h e = let s = some-where (is_right st.section) openings.Push (openings.Name x) e in let no = s.1 in cc
  opening-name glyphs.Pop x h e = let s = some-where (is_right st.section && nat_lt 0 st.branches) openings.Pop (openings.Name x) e in let no = s.1 in cc
  opening-name g x h e = cc
