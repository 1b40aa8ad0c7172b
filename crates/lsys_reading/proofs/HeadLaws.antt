-- What stands after symbols with formals: which part of a rule they are.
use Rattle.std.proofs.Common.{◌≡◌, ◌⊎◌, inl, inr, arith, ◌<◌, ◌+◌, ℕ, zero, suc, Bool, true, false, Some, None, List, [], ◌∷◌, drop, map, refl, ap, sym, subst, ◌∙◌}
use Rattle.lsys_syntax.specs.Tokens.{NameText, Kind, Less, Greater, Colon, At, Arrow}
use Rattle.lsys_syntax.specs.Strings.{ModuleName, named, plus, minus, ampersand, caret, backslash, slash, bar, bang, name_kind, Symbol, Module, Push, Pop, Cut}
use Rattle.lsys_syntax.specs.RuleMachine as machine
use Rattle.lsys_syntax.specs.RuleMachine.{production, homomorphism, Part, at_first, at_predecessor, at_right, Head, RuleState, Formals, Stop, reversed, reversed_onto, open_in, where_closed, only_production, left_ends, predecessor_ends}
use Rattle.lsys_module.specs.Views.{module_name}
use Rattle.lsys_reading.specs.declared.glyph.RuleGlyph.{RuleGlyph}
use Rattle.lsys_reading.specs.declared.glyph.RuleGlyph.TheVariants as glyphs
use Rattle.lsys_reading.specs.declared.form.Form.{Form}
use Rattle.lsys_reading.specs.declared.form.Form.TheVariants.{Production, Homomorphism}
use Rattle.lsys_reading.specs.declared.patterns.PatternModule.{PatternModule}
use Rattle.lsys_reading.specs.declared.patterns.PatternSymbol.{PatternSymbol}
use Rattle.lsys_reading.specs.declared.patterns.PatternSymbol.TheVariants as patterns
use Rattle.lsys_syntax.specs.RulePoints.{at_state, after_symbols, after_predecessor, after_head, head_with, symbols_step, predecessor_step, stops, taken, rule_from, point_from, verdict_at, Leads}
use Rattle.lsys_reading.specs.Glyphs.{IsGlyph, IsPeeked}
use Rattle.lsys_reading.specs.Patterns.{module_read, symbol_read, so_far, is_empty}
use Rattle.lsys_reading.specs.Heads.{form_in, takes_left, takes_right, only_of, patterns_of}
use Rattle.lsys_syntax.proofs.RulePoints.{leads-token}
use Rattle.lsys_reading.proofs.PatternLoops.{first-is}
use Rattle.lsys_reading.proofs.Reversals.{reversed-twice, nil-append}

-- 1. after symbols that are a head, or none

-- a `<` there leads nowhere
abbrev pub NoLess : machine.Form → List Kind → ℕ → Part → List (Symbol NameText) → Type 0
NoLess m ks at p r = (rest : List Kind) → drop at ks ≡ Less ∷ rest → only_production m (left_ends p r) ≡ Stop

no-stop : (m : machine.Form) (s : RuleState) → s ≡ Stop → only_production m s ≡ Stop
no-stop production s h = h
no-stop homomorphism s h = refl

module _ (m : machine.Form) (ks : List Kind) (at : ℕ) (p : Part) (r : List (Symbol NameText)) where
  pub no-less : left_ends p r ≡ Stop → NoLess m ks at p r
  no-less h = λ rest e. no-stop m (left_ends p r) h

  -- none of the tokens that end symbols goes on
  pub symbols-stop : machine.head_of p r ≡ None → predecessor_ends p r ≡ Stop → NoLess m ks at p r → verdict_at m ks at (after_symbols p r) ≡ stops at
  symbols-stop h g n = by (drop at ks) refl
    where
      goes : (s : RuleState) (v : List Kind) → s ≡ Stop → taken at s (rule_from m (at + 1) s v) ≡ stops at
      goes s v e = ap (λ t. taken at t (rule_from m (at + 1) t v)) e

      by : (rest : List Kind) → drop at ks ≡ rest → point_from m at (after_symbols p r) rest ≡ stops at
      by [] d = refl
      by (Less ∷ rest) d = goes (only_production m (left_ends p r)) rest (n rest d)
      by (Greater ∷ rest) d = goes (only_production m (predecessor_ends p r)) rest (no-stop m (predecessor_ends p r) g)
      by (Colon ∷ rest) d = goes _ rest (ap (machine.with_head (λ x. machine.InExpr (machine.as_condition x) machine.expr_start)) h)
      by (At ∷ rest) d = goes _ rest (no-stop m _ (ap (machine.with_head (λ x. machine.InExpr (machine.as_weight x None) machine.expr_start)) h))
      by (Arrow ∷ rest) d = goes _ rest (ap (machine.with_head (λ x. machine.Successor (record { head = x; condition = None; weight = None }) [])) h)
      by (k ∷ rest) d = refl

  -- they are a head
  pub symbols-head : (x : Head) → machine.head_of p r ≡ Some x → predecessor_ends p r ≡ Stop → NoLess m ks at p r → verdict_at m ks at (after_symbols p r) ≡ verdict_at m ks at (after_head x)
  symbols-head x h g n = by (drop at ks) refl
    where
      goes : (s t : RuleState) (v : List Kind) → s ≡ t → taken at s (rule_from m (at + 1) s v) ≡ taken at t (rule_from m (at + 1) t v)
      goes s t v e = ap (λ t. taken at t (rule_from m (at + 1) t v)) e

      by : (rest : List Kind) → drop at ks ≡ rest → point_from m at (after_symbols p r) rest ≡ point_from m at (after_head x) rest
      by [] d = refl
      by (Less ∷ rest) d = goes (only_production m (left_ends p r)) Stop rest (n rest d)
      by (Greater ∷ rest) d = goes (only_production m (predecessor_ends p r)) Stop rest (no-stop m (predecessor_ends p r) g)
      by (Colon ∷ rest) d = goes _ _ rest (ap (machine.with_head (λ x. machine.InExpr (machine.as_condition x) machine.expr_start)) h)
      by (At ∷ rest) d = goes _ _ rest (ap (λ o. only_production m (machine.with_head (λ x. machine.InExpr (machine.as_weight x None) machine.expr_start) o)) h)
      by (Arrow ∷ rest) d = goes _ _ rest (ap (machine.with_head (λ x. machine.Successor (record { head = x; condition = None; weight = None }) [])) h)
      by (k ∷ rest) d = refl

-- 2. a predecessor

abbrev pub IsBefore : Part → List (Symbol NameText) → Type 0
IsBefore at_first l = l ≡ []
IsBefore (at_predecessor k) l = l ≡ k
IsBefore (at_right k n fs) l = ⊥

pub predecessor-is : (m : machine.Form) (ks : List Kind) (at : ℕ) (p : Part) (l : List (Symbol NameText)) (n : ModuleName) (fs : List NameText) → IsBefore p l → NoLess m ks at p (Module n fs ∷ [])
    → verdict_at m ks at (after_symbols p (Module n fs ∷ [])) ≡ verdict_at m ks at (after_predecessor l n fs)
predecessor-is m ks at at_first l n fs b h = subst (λ k. verdict_at m ks at (after_symbols at_first (Module n fs ∷ [])) ≡ verdict_at m ks at (after_predecessor k n fs)) (sym b) (by (drop at ks) refl)
  where
    by : (rest : List Kind) → drop at ks ≡ rest → point_from m at (after_symbols at_first (Module n fs ∷ [])) rest ≡ point_from m at (after_predecessor [] n fs) rest
    by [] d = refl
    by (Less ∷ rest) d = ap (λ t. taken at t (rule_from m (at + 1) t rest)) (h rest d)
    by (k ∷ rest) d = refl
predecessor-is m ks at (at_predecessor j) l n fs b h = subst (λ k. verdict_at m ks at (after_symbols (at_predecessor j) (Module n fs ∷ [])) ≡ verdict_at m ks at (after_predecessor k n fs)) (sym b) (by (drop at ks) refl)
  where
    by : (rest : List Kind) → drop at ks ≡ rest → point_from m at (after_symbols (at_predecessor j) (Module n fs ∷ [])) rest ≡ point_from m at (after_predecessor j n fs) rest
    by [] d = refl
    by (Less ∷ rest) d = ap (λ t. taken at t (rule_from m (at + 1) t rest)) (h rest d)
    by (k ∷ rest) d = refl
predecessor-is m ks at (at_right j x gs) l n fs b h = elim b [ ]

abbrev is_one : List (Symbol NameText) → Bool
is_one (Module n fs ∷ []) = true
is_one r = false

many-not : (xs : List PatternSymbol) (a b : Symbol NameText) (r : List (Symbol NameText)) → is_one (reversed_onto (map symbol_read xs) (a ∷ b ∷ r)) ≡ false
many-not [] (Module n fs) b r = refl
many-not [] Push b r = refl
many-not [] Pop b r = refl
many-not [] Cut b r = refl
many-not (x ∷ xs) a b r = many-not xs (symbol_read x) a (b ∷ r)

pub only-none : (xs : List PatternSymbol) → only_of xs ≡ None → is_one (so_far xs) ≡ false
only-none [] h = refl
only-none (patterns.Module x ∷ []) h = cc
only-none (patterns.Push ∷ []) h = refl
only-none (patterns.Pop ∷ []) h = refl
only-none (x ∷ y ∷ xs) h = many-not xs (symbol_read y) (symbol_read x) []

pub only-some : (xs : List PatternSymbol) (x : PatternModule) → only_of xs ≡ Some x → so_far xs ≡ module_read x ∷ []
only-some [] x h = cc
only-some (patterns.Module y ∷ []) x h = let same : y ≡ x = cc in ap (λ z. module_read z ∷ []) same
only-some (patterns.Push ∷ []) x h = cc
only-some (patterns.Pop ∷ []) x h = cc
only-some (patterns.Module y ∷ z ∷ xs) x h = cc
only-some (patterns.Push ∷ z ∷ xs) x h = cc
only-some (patterns.Pop ∷ z ∷ xs) x h = cc

no-head : (p : Part) (l r : List (Symbol NameText)) → IsBefore p l → is_one r ≡ false → (machine.head_of p r ≡ None) × (predecessor_ends p r ≡ Stop)
no-head at_first l (Module n fs ∷ []) b h = cc
no-head (at_predecessor k) l (Module n fs ∷ []) b h = cc
no-head at_first l [] b h = (refl, refl)
no-head (at_predecessor k) l [] b h = (refl, refl)
no-head at_first l (Module n fs ∷ y ∷ r) b h = (refl, refl)
no-head (at_predecessor k) l (Module n fs ∷ y ∷ r) b h = (refl, refl)
no-head at_first l (Push ∷ r) b h = (refl, refl)
no-head (at_predecessor k) l (Push ∷ r) b h = (refl, refl)
no-head at_first l (Pop ∷ r) b h = (refl, refl)
no-head (at_predecessor k) l (Pop ∷ r) b h = (refl, refl)
no-head at_first l (Cut ∷ r) b h = (refl, refl)
no-head (at_predecessor k) l (Cut ∷ r) b h = (refl, refl)
no-head (at_right k n fs) l r b h = elim b [ ]

-- the symbols are none
pub predecessor-none : (m : machine.Form) (ks : List Kind) (at : ℕ) (p : Part) (l r : List (Symbol NameText)) → IsBefore p l → is_one r ≡ false → NoLess m ks at p r → verdict_at m ks at (after_symbols p r) ≡ stops at
predecessor-none m ks at p l r b h n = let e = no-head p l r b h in symbols-stop m ks at p r e.0 e.1 n

-- 3. a left context

-- the glyph of the token there
pub seen : (ks : List Kind) (at : ℕ) (g : RuleGlyph) (k : Kind) (rest : List Kind) → IsPeeked ks at g → drop at ks ≡ k ∷ rest → IsGlyph g k
seen ks at glyphs.End k rest h d = cc
seen ks at g k rest h d = let same : h.0 ≡ k = heads h.0 k (drop (at + 1) ks) rest (sym h.1.1 ∙ d) in subst (IsGlyph g) same h.2
  where
    heads : (a b : Kind) (xs ys : List Kind) → a ∷ xs ≡ b ∷ ys → a ≡ b
    heads a b xs ys e = cc

-- a token that is no name of a module
pub mark-sign : (n : ModuleName) → machine.sign_of (name_kind n) ≡ machine.a_name n
mark-sign plus = refl
mark-sign minus = refl
mark-sign ampersand = refl
mark-sign caret = refl
mark-sign backslash = refl
mark-sign slash = refl
mark-sign bar = refl
mark-sign bang = refl
mark-sign (named x) = refl

pub no-mark : (k : Kind) → machine.sign_of k ≡ machine.no_sign → (x : List ℕ) → IsGlyph (glyphs.Sign x) k → ⊥
no-mark k e x h = let no : machine.no_sign ≡ machine.a_name (module_name x) = sym e ∙ ap machine.sign_of h.0 ∙ mark-sign (module_name x) in cc

less-taken : (g : RuleGlyph) → IsGlyph g Less → takes_left Production false g ≡ false → ⊥
less-taken (glyphs.Letters x) h t = let no = h.0 in cc
less-taken (glyphs.Sign x) h t = no-mark Less refl x h
less-taken glyphs.End h t = h
less-taken g h t = cc

first-cons : (xs : List PatternSymbol) (y : Symbol NameText) (r : List (Symbol NameText)) → left_ends at_first (reversed_onto (map symbol_read xs) (y ∷ r)) ≡ Formals (at_predecessor (reversed (reversed_onto (map symbol_read xs) (y ∷ r)))) []
first-cons [] y r = refl
first-cons (x ∷ xs) y r = first-cons xs (symbol_read x) (y ∷ r)

left-is : (xs : List PatternSymbol) → is_empty xs ≡ false → left_ends at_first (so_far xs) ≡ Formals (at_predecessor (patterns_of xs)) []
left-is [] h = cc
left-is (x ∷ xs) h = first-cons xs (symbol_read x) [] ∙ ap (λ l. Formals (at_predecessor l) []) (reversed-twice (patterns_of (x ∷ xs)) ∙ nil-append (patterns_of (x ∷ xs)))

pub left-goes : (f : Form) (ks : List Kind) (at : ℕ) (xs : List PatternSymbol) (b : Bool) (g : RuleGlyph) → IsPeeked ks at g → b ≡ is_empty xs → takes_left f b g ≡ true
    → (form_in f ≡ production) × Leads (form_in f) ks at (after_symbols at_first (so_far xs)) (at + 1) (at_state (Formals (at_predecessor (patterns_of xs)) []))
left-goes Production ks at xs true glyphs.Less h e t = cc
left-goes Production ks at xs false glyphs.Less h e t =
    (refl, leads-token production ks at h.0 (after_symbols at_first (so_far xs)) h.1 (Formals (at_predecessor (patterns_of xs)) []) (ap (λ k. symbols_step production k at_first (so_far xs)) h.2 ∙ left-is xs (sym e)) (λ i v. refl))
left-goes Production ks at xs b g h e t = cc
left-goes Homomorphism ks at xs b g h e t = cc

less-cons : (xs : List PatternSymbol) → is_empty xs ≡ true → left_ends at_first (so_far xs) ≡ Stop
less-cons [] h = refl
less-cons (x ∷ xs) h = cc

pub left-not : (f : Form) (ks : List Kind) (at : ℕ) (xs : List PatternSymbol) (b : Bool) (g : RuleGlyph) → IsPeeked ks at g → b ≡ is_empty xs → takes_left f b g ≡ false → NoLess (form_in f) ks at at_first (so_far xs)
left-not Homomorphism ks at xs b g h e t = λ rest d. refl
left-not Production ks at xs true g h e t = λ rest d. less-cons xs (sym e)
left-not Production ks at xs false g h e t = λ rest d. absurd (less-taken g (seen ks at g Less rest h d) t)

-- 4. a right context

pub right-goes : (f : Form) (ks : List Kind) (at : ℕ) (l : List (Symbol NameText)) (n : ModuleName) (fs : List NameText) (g : RuleGlyph) → IsPeeked ks at g → takes_right f g ≡ true
    → (form_in f ≡ production) × Leads (form_in f) ks at (after_predecessor l n fs) (at + 1) (at_state (Formals (at_right l n fs) []))
right-goes Production ks at l n fs glyphs.Greater h t = (refl, leads-token production ks at h.0 (after_predecessor l n fs) h.1 (Formals (at_right l n fs) []) (ap (λ k. predecessor_step production k l n fs) h.2) (λ i v. refl))
right-goes Production ks at l n fs g h t = cc
right-goes Homomorphism ks at l n fs g h t = cc

closed-head : (l : List (Symbol NameText)) (n : ModuleName) (fs : List NameText) (r : List (Symbol NameText)) → is_empty r ≡ false → open_in r ≡ 0 → machine.head_of (at_right l n fs) r ≡ Some (head_with l n fs (reversed r))
closed-head l n fs [] h e = cc
closed-head l n fs (x ∷ r) h e = ap (λ i. where_closed i (Some (head_with l n fs (reversed (x ∷ r))))) e

open-head : (l : List (Symbol NameText)) (n : ModuleName) (fs : List NameText) (r : List (Symbol NameText)) → (is_empty r ≡ true) ⊎ (0 < open_in r) → machine.head_of (at_right l n fs) r ≡ None
open-head l n fs [] h = refl
open-head l n fs (x ∷ r) (inl h) = cc
open-head l n fs (x ∷ r) (inr h) = by (open_in (x ∷ r)) h
  where
    by : (i : ℕ) → 0 < i → where_closed i (Some (head_with l n fs (reversed (x ∷ r)))) ≡ None
    by zero h = absurd (omega arith)
    by (suc i) h = refl

pub right-is : (m : machine.Form) (ks : List Kind) (at : ℕ) (l : List (Symbol NameText)) (n : ModuleName) (fs : List NameText) (xs : List PatternSymbol) → is_empty xs ≡ false → open_in (so_far xs) ≡ 0
    → verdict_at m ks at (after_symbols (at_right l n fs) (so_far xs)) ≡ verdict_at m ks at (after_head (head_with l n fs (patterns_of xs)))
right-is m ks at l n fs xs h e =
    let back : reversed (so_far xs) ≡ patterns_of xs = reversed-twice (patterns_of xs) ∙ nil-append (patterns_of xs) in
    symbols-head m ks at (at_right l n fs) (so_far xs) (head_with l n fs (patterns_of xs))
    (closed-head l n fs (so_far xs) (sym (first-is xs) ∙ h) e ∙ ap (λ r. Some (head_with l n fs r)) back) refl (no-less m ks at (at_right l n fs) (so_far xs) refl)

pub right-none : (m : machine.Form) (ks : List Kind) (at : ℕ) (l : List (Symbol NameText)) (n : ModuleName) (fs : List NameText) (xs : List PatternSymbol) → (is_empty xs ≡ true) ⊎ (0 < open_in (so_far xs))
    → verdict_at m ks at (after_symbols (at_right l n fs) (so_far xs)) ≡ stops at
right-none m ks at l n fs xs h = symbols-stop m ks at (at_right l n fs) (so_far xs) (open-head l n fs (so_far xs) (by h)) refl (no-less m ks at (at_right l n fs) (so_far xs) refl)
  where
    by : (is_empty xs ≡ true) ⊎ (0 < open_in (so_far xs)) → (is_empty (so_far xs) ≡ true) ⊎ (0 < open_in (so_far xs))
    by (inl e) = inl (sym (first-is xs) ∙ e)
    by (inr e) = inr e
