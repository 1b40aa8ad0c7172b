-- A predecessor with its left context, and a right context, by what was read of them.
use Rattle.std.proofs.Common.{◌≡◌, ◌⊎◌, inl, inr, ◌<◌, ◌+◌, ℕ, Bool, true, false, Ok, Err, List, [], ◌∷◌, refl, ap, sym, subst, ◌∙◌}
use Rattle.std.specs.Prelude.{Result}
use Rattle.lsys_syntax.specs.Tokens.{NameText, Kind}
use Rattle.lsys_syntax.specs.Strings.{ModuleName, Symbol}
use Rattle.lsys_syntax.specs.RuleMachine.{Part, at_first, at_predecessor, at_right, Formals, open_in, start}
use Rattle.lsys_module.specs.Views.{module_name}
use Rattle.lsys_reading.specs.declared.refusal.PartRefusal.{PartRefusal}
use Rattle.lsys_reading.specs.declared.refusal.PartRefusal.TheVariants.{Token, Deep, Memory}
use Rattle.lsys_reading.specs.declared.glyph.RuleGlyph.{RuleGlyph}
use Rattle.lsys_reading.specs.declared.form.Form.{Form}
use Rattle.lsys_reading.specs.declared.patterns.PatternSymbol.{PatternSymbol}
use Rattle.lsys_reading.specs.declared.patterns.Section.{Section}
use Rattle.lsys_reading.specs.declared.patterns.Section.TheVariants.{Alone, Right}
use Rattle.lsys_reading.specs.declared.patterns.PatternsRead.{PatternsRead}
use Rattle.lsys_reading.specs.declared.head.PredecessorRead.{PredecessorRead}
use Rattle.lsys_reading.specs.declared.head.RightRead.{RightRead}
use Rattle.lsys_syntax.specs.RulePoints.{at_state, after_symbols, after_predecessor, after_head, head_with, stops, verdict_at, Leads}
use Rattle.lsys_reading.specs.Glyphs.{IsPeeked}
use Rattle.lsys_reading.specs.Patterns.{module_read, so_far, IsSection, is_empty, ArePatternsRead}
use Rattle.lsys_reading.specs.Heads.{form_in, takes_left, takes_right, IsSingle, IsContext, patterns_of, formals_of, IsPredecessorRead, IsRightRead, IsHeadRead}
use Rattle.lsys_syntax.proofs.RulePoints.{leads-on, leads-stay}
use Rattle.lsys_reading.proofs.ReadLaws.{refuses-on}
use Rattle.lsys_reading.proofs.HeadLaws.{NoLess, no-less, IsBefore, predecessor-is, only-none, only-some, predecessor-none, left-goes, left-not, right-goes, right-is, right-none}

-- 1. a predecessor alone

module _ (f : Form) (ks : List Kind) (at : ℕ) (p : Part) (left xs : List PatternSymbol) (end : ℕ) (before : IsBefore p (patterns_of left))
    (read : Leads (form_in f) ks at (at_state start) end (after_symbols p (so_far xs))) (none : NoLess (form_in f) ks end p (so_far xs)) where
  pub single-read : (result : Result PredecessorRead PartRefusal) → IsSingle left xs end result → IsPredecessorRead f ks at result
  single-read (Ok x) h =
      let n = module_name x.predecessor.name in
      let fs = formals_of x.predecessor in
      let one : so_far xs ≡ module_read x.predecessor ∷ [] = only-some xs x.predecessor h.2 in
      let less : NoLess (form_in f) ks end p (module_read x.predecessor ∷ []) = subst (λ r. NoLess (form_in f) ks end p r) one none in
      let is : verdict_at (form_in f) ks end (after_symbols p (so_far xs)) ≡ verdict_at (form_in f) ks end (after_predecessor (patterns_of left) n fs) =
      ap (λ r. verdict_at (form_in f) ks end (after_symbols p r)) one ∙ predecessor-is (form_in f) ks end p (patterns_of left) n fs before less in
      let leads : Leads (form_in f) ks at (at_state start) end (after_predecessor (patterns_of left) n fs) =
      leads-on (form_in f) ks at end end (at_state start) (after_symbols p (so_far xs)) (after_predecessor (patterns_of left) n fs) read (leads-stay (form_in f) ks end (after_symbols p (so_far xs)) (after_predecessor (patterns_of left) n fs) read.within is) in
      subst (λ q. Leads (form_in f) ks at (at_state start) q (after_predecessor (patterns_of x.left.items) n fs)) (sym h.1)
      (subst (λ ys. Leads (form_in f) ks at (at_state start) end (after_predecessor (patterns_of ys) n fs)) (sym h.0) leads)
  single-read (Err (Token place)) h = read.same ∙ predecessor-none (form_in f) ks end p (patterns_of left) (so_far xs) before (only-none xs h.1) none ∙ ap stops (sym h.0)
  single-read (Err (Deep place)) h = elim h [ ]
  single-read (Err Memory) h = elim h [ ]

module _ (f : Form) (ks : List Kind) (at : ℕ) (s : Section) (first : IsSection s (form_in f) at_first) (a : PatternsRead) (read : ArePatternsRead s ks at (Ok a)) (b : Bool) (g : RuleGlyph)
    (h : IsPeeked ks a.end g) (e : b ≡ is_empty a.symbols.items) where
  -- no left context
  pub first-read : (left : List PatternSymbol) → left ≡ [] → (result : Result PredecessorRead PartRefusal) → takes_left f b g ≡ false → IsSingle left a.symbols.items a.end result → IsPredecessorRead f ks at result
  first-read left none result t i =
      single-read f ks at at_first left a.symbols.items a.end (ap patterns_of none) (read (form_in f) at_first first) (left-not f ks a.end a.symbols.items b g h e t) result i

  module _ (t : takes_left f b g ≡ true) where
    to-second : Leads (form_in f) ks at (at_state start) (a.end + 1) (at_state (Formals (at_predecessor (patterns_of a.symbols.items)) []))
    to-second =
        leads-on (form_in f) ks at a.end (a.end + 1) (at_state start) (after_symbols at_first (so_far a.symbols.items)) (at_state (Formals (at_predecessor (patterns_of a.symbols.items)) []))
        (read (form_in f) at_first first) (left-goes f ks a.end a.symbols.items b g h e t).1

    alone : IsSection Alone (form_in f) (at_predecessor (patterns_of a.symbols.items))
    alone = subst (λ m. IsSection Alone m (at_predecessor (patterns_of a.symbols.items))) (sym (left-goes f ks a.end a.symbols.items b g h e t).0) tt

    pub second-read : (c : PatternsRead) → ArePatternsRead Alone ks (a.end + 1) (Ok c) → (result : Result PredecessorRead PartRefusal) → IsSingle a.symbols.items c.symbols.items c.end result → IsPredecessorRead f ks at result
    second-read c j result i =
        single-read f ks at (at_predecessor (patterns_of a.symbols.items)) a.symbols.items c.symbols.items c.end refl
        (leads-on (form_in f) ks at (a.end + 1) c.end (at_state start) (at_state (Formals (at_predecessor (patterns_of a.symbols.items)) [])) (after_symbols (at_predecessor (patterns_of a.symbols.items)) (so_far c.symbols.items))
        to-second (j (form_in f) (at_predecessor (patterns_of a.symbols.items)) alone))
        (no-less (form_in f) ks c.end (at_predecessor (patterns_of a.symbols.items)) (so_far c.symbols.items) refl) result i

    pub second-err : (q : PartRefusal) → ArePatternsRead Alone ks (a.end + 1) (Err q) → IsPredecessorRead f ks at (Err q)
    second-err q j =
        refuses-on (form_in f) ks at (a.end + 1) (at_state start) (at_state (Formals (at_predecessor (patterns_of a.symbols.items)) [])) q to-second (j (form_in f) (at_predecessor (patterns_of a.symbols.items)) alone)

-- 2. a right context

module _ (f : Form) (ks : List Kind) (at : ℕ) (g : RuleGlyph) (h : IsPeeked ks at g) (t : takes_right f g ≡ true) where
  right-section : (l : List (Symbol NameText)) (n : ModuleName) (fs : List NameText) → IsSection Right (form_in f) (at_right l n fs)
  right-section l n fs = subst (λ m. IsSection Right m (at_right l n fs)) (sym (right-goes f ks at l n fs g h t).0) tt

  pub right-err : (q : PartRefusal) → ArePatternsRead Right ks (at + 1) (Err q) → IsRightRead f ks at (Err q)
  right-err q j = λ l n fs.
      refuses-on (form_in f) ks at (at + 1) (after_predecessor l n fs) (at_state (Formals (at_right l n fs) [])) q (right-goes f ks at l n fs g h t).1 (j (form_in f) (at_right l n fs) (right-section l n fs))

  module _ (a : PatternsRead) (j : ArePatternsRead Right ks (at + 1) (Ok a)) (counted : a.branches ≡ open_in (so_far a.symbols.items)) where
    to-end : (l : List (Symbol NameText)) (n : ModuleName) (fs : List NameText) → Leads (form_in f) ks at (after_predecessor l n fs) a.end (after_symbols (at_right l n fs) (so_far a.symbols.items))
    to-end l n fs =
        leads-on (form_in f) ks at (at + 1) a.end (after_predecessor l n fs) (at_state (Formals (at_right l n fs) [])) (after_symbols (at_right l n fs) (so_far a.symbols.items))
        (right-goes f ks at l n fs g h t).1 (j (form_in f) (at_right l n fs) (right-section l n fs))

    pub right-read : IsContext true a.symbols.items a.branches → (x : RightRead) → x.right.items ≡ a.symbols.items → x.end ≡ a.end → IsRightRead f ks at (Ok x)
    right-read i x e k = λ l n fs.
        let read = to-end l n fs in
        subst (λ q. Leads (form_in f) ks at (after_predecessor l n fs) q (after_head (head_with l n fs (patterns_of x.right.items)))) (sym k)
        (subst (λ rs. Leads (form_in f) ks at (after_predecessor l n fs) a.end (after_head (head_with l n fs (patterns_of rs)))) (sym e)
        (leads-on (form_in f) ks at a.end a.end (after_predecessor l n fs) (after_symbols (at_right l n fs) (so_far a.symbols.items)) (after_head (head_with l n fs (patterns_of a.symbols.items))) read
        (leads-stay (form_in f) ks a.end (after_symbols (at_right l n fs) (so_far a.symbols.items)) (after_head (head_with l n fs (patterns_of a.symbols.items))) read.within
        (right-is (form_in f) ks a.end l n fs a.symbols.items i.0 (sym counted ∙ i.1)))))

    pub right-refused : IsContext false a.symbols.items a.branches → IsRightRead f ks at (Err (Token a.end))
    right-refused i = λ l n fs. (to-end l n fs).same ∙ right-none (form_in f) ks a.end l n fs a.symbols.items (by i)
      where
        by : (is_empty a.symbols.items ≡ true) ⊎ (0 < a.branches) → (is_empty a.symbols.items ≡ true) ⊎ (0 < open_in (so_far a.symbols.items))
        by (inl e) = inl e
        by (inr e) = inr (subst (λ n. 0 < n) counted e)

-- 3. both

pub head-err : (f : Form) (ks : List Kind) (at : ℕ) (x : PredecessorRead) (q : PartRefusal) → IsPredecessorRead f ks at (Ok x) → IsRightRead f ks x.end (Err q) → IsHeadRead f ks at (Err q)
head-err f ks at x q h i =
    let l = patterns_of x.left.items in
    let n = module_name x.predecessor.name in
    let fs = formals_of x.predecessor in
    refuses-on (form_in f) ks at x.end (at_state start) (after_predecessor l n fs) q h (i l n fs)
