-- A name that no `(` follows is a symbol.
use Rattle.std.proofs.Common.{◌≡◌, ℕ, ℤ, Result, Ok, Err, List, [], ◌∷◌, ◌++◌, refl, ap, ◌∙◌, sym}
use Rattle.std.proofs.lemmas.List.{map-append}
use Rattle.lsys_syntax.specs.Strings.{Symbol, Module, ModuleName}
use Rattle.lsys_syntax.specs.Tokens.{Kind}
use Rattle.lsys_text.specs.declared.token_kind.Token.{Token}
use Rattle.lsys_text.specs.Tokens.{kind_of}
use Rattle.lsys_module.specs.declared.symbol.Symbol.{Symbol as Code}
use Rattle.lsys_module.specs.declared.symbol.Symbol.TheVariants as modules
use Rattle.lsys_module.specs.declared.symbol.Module.{Module as Module'}
use Rattle.lsys_module.specs.declared.build.BuiltPart.{BuiltPart}
use Rattle.lsys_module.specs.declared.build.BuiltPart.TheVariants as parts
use Rattle.lsys_module.specs.declared.refusal.StringRefusal.{StringRefusal}
use Rattle.lsys_module.specs.declared.refusal.StringRefusal.TheVariants.{TooMany, Memory}
use Rattle.lsys_module.specs.declared.glyph.StringGlyph.{StringGlyph}
use Rattle.lsys_module.specs.declared.glyph.StringGlyph.TheVariants.{Open}
use Rattle.lsys_module.specs.Views.{module_name, symbol_of, string_of}
use Rattle.lsys_module.specs.Scanning.{glyph_of}
use Rattle.lsys_module.specs.Building.{Draft, whole, named, draft_step, draft_limit, kind_name, draft_by_part, CanTake, IsTaken}

-- a symbol at the end
pub string_of-append : (xs : List Code) (x : Code) → string_of (xs ++ x ∷ []) ≡ string_of xs ++ symbol_of x ∷ []
string_of-append xs x = map-append symbol_of xs (x ∷ [])

abbrev pub with_name : List (Symbol ℤ) → ModuleName → Draft
with_name ys n = whole (ys ++ Module n [] ∷ [])

pub named-step : (ys : List (Symbol ℤ)) (n : ModuleName) (g : StringGlyph) (m : ModuleName) → (g ≡ Open → ⊥) → draft_step (named ys n) g m ≡ draft_step (with_name ys n) g m
named-step ys n Open m h = absurd (h refl)
named-step ys n g m h = refl

pub named-limit : (ys : List (Symbol ℤ)) (n : ModuleName) (g : StringGlyph) → (g ≡ Open → ⊥) → draft_limit (named ys n) g ≡ draft_limit (with_name ys n) g
named-limit ys n Open h = absurd (h refl)
named-limit ys n g h = refl

-- the drafts of a name, and of its symbol
pub record AreNamed (old new : Draft) (ys : List (Symbol ℤ)) (n : ModuleName) : Type 0 where
  pub name : old ≡ named ys n
  pub symbol : new ≡ with_name ys n

can_take-same : (old new : Draft) (k : Kind) → draft_limit old (glyph_of k) ≡ draft_limit new (glyph_of k) → draft_step old (glyph_of k) (kind_name k) ≡ draft_step new (glyph_of k) (kind_name k) → CanTake old k → CanTake new k
can_take-same old new k l s h f = let m = h (l ∙ f) in (m.0, sym s ∙ m.1)

taken-same : (old new end : Draft) (t : Token) (r : Result (Unit {0}) StringRefusal) → draft_limit old (glyph_of (kind_of t.kind)) ≡ draft_limit new (glyph_of (kind_of t.kind))
    → draft_step old (glyph_of (kind_of t.kind)) (kind_name (kind_of t.kind)) ≡ draft_step new (glyph_of (kind_of t.kind)) (kind_name (kind_of t.kind)) → IsTaken new t end r → IsTaken old t end r
taken-same old new end t (Ok done) l s h = (l ∙ h.0, s ∙ h.1)
taken-same old new end t (Err (TooMany column)) l s h = (l ∙ h.0, h.1)
taken-same old new end t (Err Memory) l s h = tt

same-limit : (old new : Draft) (ys : List (Symbol ℤ)) (n : ModuleName) (g : StringGlyph) → AreNamed old new ys n → (g ≡ Open → ⊥) → draft_limit old g ≡ draft_limit new g
same-limit old new ys n g h other = rw (h.name, h.symbol) (named-limit ys n g other)

same-step : (old new : Draft) (ys : List (Symbol ℤ)) (n : ModuleName) (g : StringGlyph) (m : ModuleName) → AreNamed old new ys n → (g ≡ Open → ⊥) → draft_step old g m ≡ draft_step new g m
same-step old new ys n g m h other = rw (h.name, h.symbol) (named-step ys n g m other)

-- a string that goes on after the name goes on after its symbol
pub named-can_take : (old new : Draft) (ys : List (Symbol ℤ)) (n : ModuleName) (k : Kind) → AreNamed old new ys n → (glyph_of k ≡ Open → ⊥) → CanTake old k → CanTake new k
named-can_take old new ys n k h other can = can_take-same old new k (same-limit old new ys n (glyph_of k) h other) (same-step old new ys n (glyph_of k) (kind_name k) h other) can

-- what was taken after the symbol was taken after the name
pub named-taken : (old new end : Draft) (ys : List (Symbol ℤ)) (n : ModuleName) (t : Token) (r : Result (Unit {0}) StringRefusal) → AreNamed old new ys n → (glyph_of (kind_of t.kind) ≡ Open → ⊥) → IsTaken new t end r → IsTaken old t end r
named-taken old new end ys n t r h other is =
    let g = glyph_of (kind_of t.kind) in
    taken-same old new end t r (same-limit old new ys n g h other) (same-step old new ys n g (kind_name (kind_of t.kind)) h other) is

-- the symbol of a name was added
pub are_named : (part part' : BuiltPart) (symbols symbols' : List Code) (name : List ℕ) (last : Module') → part ≡ parts.Named name → part' ≡ parts.Whole → symbols' ≡ symbols ++ modules.Module last ∷ [] → last.name ≡ name → last.params ≡ []
    → AreNamed (draft_by_part part (string_of symbols)) (draft_by_part part' (string_of symbols')) (string_of symbols) (module_name name)
are_named part part' symbols symbols' name last p q s n z = record {
  name = ap (λ x. draft_by_part x (string_of symbols)) p;
  symbol = ap (λ x. draft_by_part x (string_of symbols')) q ∙ ap whole (ap string_of s ∙ string_of-append symbols (modules.Module last) ∙ ap (λ x. string_of symbols ++ Module (module_name x) last.params ∷ []) n ∙ ap (λ x. string_of symbols ++ Module (module_name name) x ∷ []) z);
}
