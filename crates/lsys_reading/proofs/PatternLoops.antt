-- A module after its name, a symbol, and the loop over symbols.
use Rattle.std.proofs.Common.{◌≡◌, ◌≤◌, ◌<◌, ◌+◌, ℕ, Bool, true, false, Some, None, Ok, Err, List, [], ◌∷◌, ◌++◌, length, map, refl, ap, sym, subst, ◌∙◌, arith}
use Rattle.std.specs.Prelude.{◌==◌, suc}
use Rattle.std.proofs.lemmas.Bool.Decides.{nat_tests}
use Rattle.lsys_syntax.specs.Tokens.{NameText, Kind}
use Rattle.lsys_syntax.specs.Strings.{ModuleName, Symbol, Module, Push, Pop, Cut}
use Rattle.lsys_syntax.specs.RuleMachine.{Form, Part, Formals, FormalDue, Stop, open_in, formals_open, reversed_onto}
use Rattle.lsys_text.specs.Tokens.{name_of}
use Rattle.lsys_module.specs.Views.{module_name}
use Rattle.lsys_reading.specs.declared.refusal.PartRefusal.{PartRefusal}
use Rattle.lsys_reading.specs.declared.glyph.RuleGlyph.{RuleGlyph}
use Rattle.lsys_reading.specs.declared.formals.FormalsRead.{FormalsRead}
use Rattle.lsys_reading.specs.declared.patterns.PatternSymbol.{PatternSymbol}
use Rattle.lsys_reading.specs.declared.patterns.PatternSymbol.TheVariants as patterns
use Rattle.lsys_reading.specs.declared.patterns.Section.{Section}
use Rattle.lsys_reading.specs.declared.patterns.Standing.{Standing}
use Rattle.lsys_reading.specs.declared.patterns.Opening.TheVariants as openings
use Rattle.lsys_reading.specs.declared.patterns.ModuleRead.{ModuleRead}
use Rattle.lsys_reading.specs.declared.patterns.SymbolRead.{SymbolRead}
use Rattle.lsys_syntax.specs.RulePoints.{at_state, after_symbol, after_symbols, Leads}
use Rattle.lsys_reading.specs.Glyphs.{IsPeeked, is_opening}
use Rattle.lsys_reading.specs.Reads.{AreFormalsRead}
use Rattle.lsys_reading.specs.Patterns.{module_read, symbol_read, so_far, branches_after, opening_of, IsSection, is_empty, IsStanding, IsModuleRead, IsSymbolRead, ArePatternsRead}
use Rattle.lsys_syntax.proofs.RulePoints.{leads-on, leads-stay}
use Rattle.lsys_reading.proofs.ReadLaws.{refuses-on}
use Rattle.lsys_reading.proofs.Reversals.{mapped-push}
use Rattle.lsys_reading.proofs.PatternLaws.{shut, opens, opening-none, opening-name}

with-formals : (p : Part) (n : ModuleName) (fs : List (List ℕ)) (r : List (Symbol NameText)) → 0 < length fs → formals_open p (Module n (map name_of fs) ∷ r) ≡ Stop
with-formals p n [] r h = absurd (omega arith)
with-formals p n (f ∷ fs) r h = refl

-- 1. a module with formals

module _ (x : List ℕ) (ks : List Kind) (at : ℕ) (g : RuleGlyph) (h : IsPeeked ks at g) (o : is_opening g ≡ true) where
  pub module-ok : (f : FormalsRead) → AreFormalsRead ks (at + 1) (Ok f) → 0 < length f.formals.items → IsModuleRead x ks at (Ok (record { pattern = record { name = x; formals = f.formals }; end = f.end }))
  module-ok f i some = λ m p r.
      let n = module_name x in
      let fs = map name_of f.formals.items in
      let read = i m p r n in
      leads-on m ks at (at + 1) f.end (at_state (Formals p (Module n [] ∷ r))) (at_state (FormalDue p r n [])) (after_symbol p (Module n fs ∷ r)) (opens m ks at p r n g h o)
      (leads-on m ks (at + 1) f.end f.end (at_state (FormalDue p r n [])) (at_state (Formals p (Module n fs ∷ r))) (after_symbol p (Module n fs ∷ r)) read
      (leads-stay m ks f.end (at_state (Formals p (Module n fs ∷ r))) (after_symbol p (Module n fs ∷ r)) read.within (shut m ks f.end p (Module n fs ∷ r) (with-formals p n f.formals.items r some))))

  pub module-err : (e : PartRefusal) → AreFormalsRead ks (at + 1) (Err e) → IsModuleRead x ks at (Err e)
  module-err e i = λ m p r.
      refuses-on m ks at (at + 1) (at_state (Formals p (Module (module_name x) [] ∷ r))) (at_state (FormalDue p r (module_name x) [])) e (opens m ks at p r (module_name x) g h o) (i m p r (module_name x))

-- 2. a symbol

module _ (st : Standing) (ks : List Kind) (at : ℕ) (g : RuleGlyph) (h : IsPeeked ks at g) where
  pub symbol-none : at ≤ length ks → None ≡ opening_of st g → IsSymbolRead st ks at (Ok None)
  symbol-none w e = λ m p r s. leads-stay m ks at (after_symbol p r) (after_symbols p r) w (opening-none m ks at p r st s g h e)

  pub symbol-ok : (x : List ℕ) (y : ModuleRead) → Some (openings.Name x) ≡ opening_of st g → IsModuleRead x ks (at + 1) (Ok y) → IsSymbolRead st ks at (Ok (Some (record { symbol = patterns.Module y.pattern; end = y.end })))
  symbol-ok x y e i = λ m p r s.
      leads-on m ks at (at + 1) y.end (after_symbol p r) (at_state (Formals p (Module (module_name x) [] ∷ r))) (after_symbol p (module_read y.pattern ∷ r)) (opening-name m ks at p r st s g x h e) (i m p r)

  pub symbol-err : (x : List ℕ) (q : PartRefusal) → Some (openings.Name x) ≡ opening_of st g → IsModuleRead x ks (at + 1) (Err q) → IsSymbolRead st ks at (Err q)
  symbol-err x q e i = λ m p r s.
      refuses-on m ks at (at + 1) (after_symbol p r) (at_state (Formals p (Module (module_name x) [] ∷ r))) q (opening-name m ks at p r st s g x h e) (i m p r)

-- 3. the loop

pub record PatternsSoFar (s : Section) (ks : List Kind) (at end : ℕ) (xs : List PatternSymbol) (branches : ℕ) : Type 0 where
  pub after : at ≤ end
  pub within : end ≤ length ks
  pub few : branches ≤ end
  pub counted : branches ≡ open_in (so_far xs)
  pub read : (m : Form) (p : Part) → IsSection s m p → Leads m ks at (at_state (Formals p [])) end (after_symbol p (so_far xs))

full-after : (xs : List PatternSymbol) (y : Symbol NameText) (r : List (Symbol NameText)) → is_empty (reversed_onto (map symbol_read xs) (y ∷ r)) ≡ false
full-after [] y r = refl
full-after (x ∷ xs) y r = full-after xs (symbol_read x) (y ∷ r)

pub first-is : (xs : List PatternSymbol) → is_empty xs ≡ is_empty (so_far xs)
first-is [] = refl
first-is (x ∷ xs) = sym (full-after xs (symbol_read x) [])

open-after : (x : Symbol NameText) (r : List (Symbol NameText)) → branches_after x (open_in r) ≡ open_in (x ∷ r)
open-after (Module n fs) r = refl
open-after Push r = refl
open-after Pop r = refl
open-after Cut r = refl

few-after : (x : Symbol NameText) (b end next : ℕ) → b ≤ end → end < next → branches_after x b ≤ next
few-after (Module n fs) b end next h i = omega (arith, h, i)
few-after Push b end next h i = omega (arith, h, i)
few-after Pop b end next h i = omega (arith, h, i)
few-after Cut b end next h i = omega (arith, h, i)

module _ (s : Section) (ks : List Kind) (at end : ℕ) (xs : List PatternSymbol) (branches : ℕ) (first : Bool) (so : PatternsSoFar s ks at end xs branches) (is : first ≡ is_empty xs) where
  stands : (m : Form) (p : Part) → IsSection s m p → IsStanding (record { section = s; is_first = first; branches = branches }) m p (so_far xs)
  stands m p i = (i, is ∙ first-is xs, so.counted)

  pub patterns-more : (x : SymbolRead) → IsSymbolRead (record { section = s; is_first = first; branches = branches }) ks end (Ok (Some x)) → end < x.end → x.end ≤ length ks
      → PatternsSoFar s ks at x.end (xs ++ x.symbol ∷ []) (branches_after (symbol_read x.symbol) branches)
  patterns-more x i f w =
      let last : so_far (xs ++ x.symbol ∷ []) ≡ symbol_read x.symbol ∷ so_far xs = mapped-push symbol_read xs x.symbol in
      record {
        after = omega (arith, so.after, f);
        within = w;
        few = few-after (symbol_read x.symbol) branches end x.end so.few f;
        counted = ap (branches_after (symbol_read x.symbol)) so.counted ∙ open-after (symbol_read x.symbol) (so_far xs) ∙ ap open_in (sym last);
        read = λ m p j.
            subst (λ r. Leads m ks at (at_state (Formals p [])) x.end (after_symbol p r)) (sym last)
            (leads-on m ks at end x.end (at_state (Formals p [])) (after_symbol p (so_far xs)) (after_symbol p (symbol_read x.symbol ∷ so_far xs)) (so.read m p j) (i m p (so_far xs) (stands m p j)));
      }

  pub patterns-refused : (e : PartRefusal) → IsSymbolRead (record { section = s; is_first = first; branches = branches }) ks end (Err e) → ArePatternsRead s ks at (Err e)
  patterns-refused e i = λ m p j. refuses-on m ks at end (at_state (Formals p [])) (after_symbol p (so_far xs)) e (so.read m p j) (i m p (so_far xs) (stands m p j))

pub first-symbol : (b : Bool) (xs : List PatternSymbol) → b ≡ (length xs == 0) → b ≡ is_empty xs
first-symbol b [] h = h
first-symbol b (x ∷ xs) h = h ∙ by (length xs)
  where
    by : (n : ℕ) → (suc n == 0) ≡ false
    by n = grind (arith, nat_tests)
