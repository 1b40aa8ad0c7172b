-- A symbol of a successor, and the loop over symbols up to the line's end.
use Rattle.std.proofs.Common.{◌≡◌, ◌≤◌, ◌<◌, ◌+◌, ℕ, zero, suc, Bool, true, false, nat_lt, Some, None, Ok, Err, List, [], ◌∷◌, ◌++◌, length, refl, ap, sym, subst, ◌∙◌, arith}
use Rattle.std.proofs.lemmas.Bool.Decides.{nat_tests}
use Rattle.std.proofs.lemmas.List.{length-drop}
use Rattle.lsys_syntax.specs.Tokens.{Kind, Word, LongWord, Number, BigNumber, Equal, Unequal, AtMost, AtLeast, Times, Assign}
use Rattle.lsys_syntax.specs.Strings.{ModuleName, named, plus, minus, ampersand, caret, backslash, slash, bar, bang, name_kind, Symbol, Module, Pop, Cut}
use Rattle.lsys_syntax.specs.Expressions.{Expr}
use Rattle.lsys_syntax.specs.RuleMachine as machine
use Rattle.lsys_syntax.specs.RuleMachine.{Premise, RuleState, Successor, Stop, reversed, open_in, popped}
use Rattle.lsys_module.specs.Views.{module_name}
use Rattle.lsys_reading.specs.declared.refusal.PartRefusal.{PartRefusal}
use Rattle.lsys_reading.specs.declared.refusal.PartRefusal.TheVariants.{Token}
use Rattle.lsys_reading.specs.declared.glyph.RuleGlyph.{RuleGlyph}
use Rattle.lsys_reading.specs.declared.glyph.RuleGlyph.TheVariants as glyphs
use Rattle.lsys_reading.specs.declared.form.Form.{Form}
use Rattle.lsys_reading.specs.declared.form.Form.TheVariants.{Production, Homomorphism}
use Rattle.lsys_reading.specs.declared.images.ImageSymbol.{ImageSymbol}
use Rattle.lsys_reading.specs.declared.images.ImageSymbol.TheVariants as images
use Rattle.lsys_reading.specs.declared.images.ImageOpening.{ImageOpening}
use Rattle.lsys_reading.specs.declared.images.ImageOpening.TheVariants as openings
use Rattle.lsys_reading.specs.declared.images.ImageModuleRead.{ImageModuleRead}
use Rattle.lsys_reading.specs.declared.images.ImageRead.{ImageRead}
use Rattle.lsys_syntax.specs.RulePoints.{at_state, after_image, image_step, stops, verdict_at, Leads}
use Rattle.lsys_reading.specs.Glyphs.{is_other, IsPeeked}
use Rattle.lsys_reading.specs.Reads.{Refuses}
use Rattle.lsys_reading.specs.Heads.{form_in}
use Rattle.lsys_reading.specs.Images.{module_at, image_at, images_at, ImageIsAt, ImagesAreAt, image_branches, opening_if, has_cuts, image_opening_of, IsImageModuleRead, IsImageRead}
use Rattle.lsys_syntax.proofs.RulePoints.{leads-on, leads-token, stops-token}
use Rattle.lsys_reading.proofs.ReadLaws.{refuses-on}
use Rattle.lsys_reading.proofs.Reversals.{mapped-push}

-- 1. the token that a symbol begins with

name-step : (m : machine.Form) (x : ModuleName) (b : Premise) (r : List (Symbol Expr)) → image_step m (name_kind x) b r ≡ Successor b (Module x [] ∷ r)
name-step m plus b r = refl
name-step m minus b r = refl
name-step m ampersand b r = refl
name-step m caret b r = refl
name-step m backslash b r = refl
name-step m slash b r = refl
name-step m bar b r = refl
name-step m bang b r = refl
name-step m (named x) b r = refl

other-stops : (m : machine.Form) (k : Kind) (b : Premise) (r : List (Symbol Expr)) → is_other k ≡ true → image_step m k b r ≡ Stop
other-stops m (Word w) b r h = refl
other-stops m LongWord b r h = refl
other-stops m (Number n) b r h = refl
other-stops m BigNumber b r h = refl
other-stops m Equal b r h = refl
other-stops m Unequal b r h = refl
other-stops m AtMost b r h = refl
other-stops m AtLeast b r h = refl
other-stops m Times b r h = refl
other-stops m Assign b r h = refl
other-stops m k b r h = cc

none-where : (t : Bool) (o : ImageOpening) → None ≡ opening_if t o → t ≡ false
none-where true o h = cc
none-where false o h = refl

some-where : (t : Bool) (o q : ImageOpening) → Some q ≡ opening_if t o → (t ≡ true) × (q ≡ o)
some-where true o q h = (refl, cc)
some-where false o q h = cc

not-popped : (n i : ℕ) (s : RuleState) → n ≡ i → nat_lt 0 n ≡ false → popped i s ≡ Stop
not-popped n zero s e h = refl
not-popped n (suc i) s e h = absurd (grind (arith, nat_tests))

no-cut : (f : Form) (s : RuleState) → has_cuts f ≡ false → machine.only_production (form_in f) s ≡ Stop
no-cut Production s h = cc
no-cut Homomorphism s h = refl

module _ (f : Form) (n : ℕ) (ks : List Kind) (at : ℕ) (b : Premise) (r : List (Symbol Expr)) (counted : n ≡ open_in r) where
  -- no symbol begins there
  pub image-none : (g : RuleGlyph) → IsPeeked ks at g → at < length ks → None ≡ image_opening_of f n g → verdict_at (form_in f) ks at (after_image b r) ≡ stops at
  image-none glyphs.End h w e = absurd (omega (arith, w, length-drop at ks, ap length h))
  image-none (glyphs.Letters x) h w e = cc
  image-none (glyphs.Sign x) h w e = cc
  image-none glyphs.Push h w e = cc
  image-none glyphs.Pop h w e =
      stops-token (form_in f) ks at h.0 (after_image b r) h.1 (ap (λ k. image_step (form_in f) k b r) h.2 ∙ not-popped n (open_in r) (Successor b (Pop ∷ r)) counted (none-where (nat_lt 0 n) openings.Pop e))
  image-none glyphs.Cut h w e =
      stops-token (form_in f) ks at h.0 (after_image b r) h.1 (ap (λ k. image_step (form_in f) k b r) h.2 ∙ no-cut f (Successor b (Cut ∷ r)) (none-where (has_cuts f) openings.Cut e))
  image-none glyphs.Other h w e = stops-token (form_in f) ks at h.0 (after_image b r) h.1 (other-stops (form_in f) h.0 b r h.2)
  image-none g h w e = stops-token (form_in f) ks at h.0 (after_image b r) h.1 (ap (λ k. image_step (form_in f) k b r) h.2)

  pub image-name : (g : RuleGlyph) (x : List ℕ) → IsPeeked ks at g → Some (openings.Name x) ≡ image_opening_of f n g → Leads (form_in f) ks at (after_image b r) (at + 1) (at_state (Successor b (Module (module_name x) [] ∷ r)))
  image-name (glyphs.Letters y) x h e =
      let same : x ≡ y = cc in
      leads-token (form_in f) ks at h.0 (after_image b r) h.1 (Successor b (Module (module_name x) [] ∷ r))
      (ap (λ k. image_step (form_in f) k b r) h.2.0 ∙ ap (λ z. Successor b (Module z [] ∷ r)) (sym h.2.1) ∙ ap (λ z. Successor b (Module (module_name z) [] ∷ r)) (sym same)) (λ i v. refl)
  image-name (glyphs.Sign y) x h e =
      let same : x ≡ y = cc in
      leads-token (form_in f) ks at h.0 (after_image b r) h.1 (Successor b (Module (module_name x) [] ∷ r))
      (ap (λ k. image_step (form_in f) k b r) h.2.0 ∙ name-step (form_in f) (module_name y) b r ∙ ap (λ z. Successor b (Module (module_name z) [] ∷ r)) (sym same)) (λ i v. refl)
  image-name glyphs.Pop x h e = let s = some-where (nat_lt 0 n) openings.Pop (openings.Name x) e in let no = s.1 in cc
  image-name glyphs.Cut x h e = let s = some-where (has_cuts f) openings.Cut (openings.Name x) e in let no = s.1 in cc
  image-name g x h e = cc

-- 2. a symbol

module _ (f : Form) (n : ℕ) (ks : List Kind) (at : ℕ) (g : RuleGlyph) (h : IsPeeked ks at g) where
  pub symbol-refused : at < length ks → None ≡ image_opening_of f n g → IsImageRead f n ks at (Err (Token at))
  symbol-refused w e = λ b r c. image-none f n ks at b r c g h w e

  pub symbol-ok : (x : List ℕ) (y : ImageModuleRead) → Some (openings.Name x) ≡ image_opening_of f n g → IsImageModuleRead x ks (at + 1) (Ok y) → IsImageRead f n ks at (Ok (record { symbol = images.Module y.image; end = y.end }))
  symbol-ok x y e i = λ b r c.
      leads-on (form_in f) ks at (at + 1) y.end (after_image b r) (at_state (Successor b (Module (module_name x) [] ∷ r))) (after_image b (module_at ks y.image ∷ r)) (image-name f n ks at b r c g x h e) (i (form_in f) b r)

  pub symbol-err : (x : List ℕ) (q : PartRefusal) → Some (openings.Name x) ≡ image_opening_of f n g → IsImageModuleRead x ks (at + 1) (Err q) → IsImageRead f n ks at (Err q)
  symbol-err x q e i = λ b r c.
      refuses-on (form_in f) ks at (at + 1) (after_image b r) (at_state (Successor b (Module (module_name x) [] ∷ r))) q (image-name f n ks at b r c g x h e) (i (form_in f) b r)

-- 3. the loop

abbrev pub images_so_far : List Kind → List ImageSymbol → List (Symbol Expr)
images_so_far ks xs = reversed (images_at ks xs)

pub record ImagesSoFar (f : Form) (ks : List Kind) (at end : ℕ) (xs : List ImageSymbol) (branches : ℕ) : Type 0 where
  pub within : end ≤ length ks
  pub few : branches ≤ end
  pub counted : branches ≡ open_in (images_so_far ks xs)
  pub spans : ImagesAreAt ks xs
  pub read : (b : Premise) → Leads (form_in f) ks at (at_state (Successor b [])) end (after_image b (images_so_far ks xs))

images-push : (ks : List Kind) (xs : List ImageSymbol) (x : ImageSymbol) → ImagesAreAt ks xs → ImageIsAt ks x → ImagesAreAt ks (xs ++ x ∷ [])
images-push ks [] x h i = (i, tt)
images-push ks (y ∷ xs) x h i = (h.0, images-push ks xs x h.1 i)

open-after : (ks : List Kind) (x : ImageSymbol) (r : List (Symbol Expr)) → image_branches x (open_in r) ≡ open_in (image_at ks x ∷ r)
open-after ks (images.Module y) r = refl
open-after ks images.Push r = refl
open-after ks images.Pop r = refl
open-after ks images.Cut r = refl

few-after : (x : ImageSymbol) (b end next : ℕ) → b ≤ end → end < next → image_branches x b ≤ next
few-after (images.Module y) b end next h i = omega (arith, h, i)
few-after images.Push b end next h i = omega (arith, h, i)
few-after images.Pop b end next h i = omega (arith, h, i)
few-after images.Cut b end next h i = omega (arith, h, i)

module _ (f : Form) (ks : List Kind) (at end : ℕ) (xs : List ImageSymbol) (branches : ℕ) (so : ImagesSoFar f ks at end xs branches) where
  pub images-more : (x : ImageRead) → IsImageRead f branches ks end (Ok x) → ImageIsAt ks x.symbol → end < x.end → x.end ≤ length ks → ImagesSoFar f ks at x.end (xs ++ x.symbol ∷ []) (image_branches x.symbol branches)
  images-more x i s l w =
      let last : images_so_far ks (xs ++ x.symbol ∷ []) ≡ image_at ks x.symbol ∷ images_so_far ks xs = mapped-push (image_at ks) xs x.symbol in
      record {
        within = w;
        few = few-after x.symbol branches end x.end so.few l;
        counted = ap (image_branches x.symbol) so.counted ∙ open-after ks x.symbol (images_so_far ks xs) ∙ ap open_in (sym last);
        spans = images-push ks xs x.symbol so.spans s;
        read = λ b.
            subst (λ r. Leads (form_in f) ks at (at_state (Successor b [])) x.end (after_image b r)) (sym last)
            (leads-on (form_in f) ks at end x.end (at_state (Successor b [])) (after_image b (images_so_far ks xs)) (after_image b (image_at ks x.symbol ∷ images_so_far ks xs)) (so.read b) (i b (images_so_far ks xs) so.counted));
      }

  pub images-refused : (q : PartRefusal) → IsImageRead f branches ks end (Err q) → (b : Premise) → Refuses (form_in f) ks at (at_state (Successor b [])) q
  images-refused q i b = refuses-on (form_in f) ks at end (at_state (Successor b [])) (after_image b (images_so_far ks xs)) q (so.read b) (i b (images_so_far ks xs) so.counted)
