-- A rule up to its right context: what the functions that read it answer.
use Rattle.std.specs.Prelude.{◌≡◌, ◌<◌, ◌⊎◌, ℕ, Bool, true, false, not, Option, Some, None, Result, Ok, Err, List, [], ◌∷◌, map}
use Rattle.lsys_syntax.specs.Tokens.{NameText, Kind}
use Rattle.lsys_syntax.specs.Strings as S
use Rattle.lsys_syntax.specs.RuleMachine as machine
use Rattle.lsys_text.specs.Tokens.{name_of}
use Rattle.lsys_module.specs.Views.{module_name}
use Rattle.lsys_syntax.specs.RulePoints.{at_state, after_predecessor, after_head, head_with}
use Rattle.lsys_reading.specs.Reads.{IsRead}
use Rattle.lsys_reading.specs.Patterns.{symbol_read, is_empty}
use Rattle.lsys_reading.specs.declared.refusal.PartRefusal.{PartRefusal}
use Rattle.lsys_reading.specs.declared.refusal.PartRefusal.TheVariants.{Token}
use Rattle.lsys_reading.specs.declared.glyph.RuleGlyph.{RuleGlyph}
use Rattle.lsys_reading.specs.declared.glyph.RuleGlyph.TheVariants.{Less, Greater, At}
use Rattle.lsys_reading.specs.declared.form.Form.{Form}
use Rattle.lsys_reading.specs.declared.form.Form.TheVariants.{Production, Homomorphism}
use Rattle.lsys_reading.specs.declared.patterns.PatternModule.{PatternModule}
use Rattle.lsys_reading.specs.declared.patterns.PatternSymbol.{PatternSymbol}
use Rattle.lsys_reading.specs.declared.patterns.PatternSymbol.TheVariants as patterns
use Rattle.lsys_reading.specs.declared.head.PredecessorRead.{PredecessorRead}
use Rattle.lsys_reading.specs.declared.head.RightRead.{RightRead}
use Rattle.lsys_reading.specs.declared.head.HeadRead.{HeadRead}

abbrev pub form_in : Form → machine.Form
form_in Production = machine.production
form_in Homomorphism = machine.homomorphism

abbrev pub takes_left : Form → Bool → RuleGlyph → Bool
takes_left Production empty Less = not empty
takes_left f empty g = false

abbrev pub takes_right : Form → RuleGlyph → Bool
takes_right Production Greater = true
takes_right f g = false

abbrev pub takes_weight : Form → RuleGlyph → Bool
takes_weight Production At = true
takes_weight f g = false

-- the module that alone the symbols are
abbrev pub only_of : List PatternSymbol → Option PatternModule
only_of (patterns.Module x ∷ []) = Some x
only_of xs = None

-- a predecessor that is the only one of some symbols; or there is none
abbrev pub IsSingle : List PatternSymbol → List PatternSymbol → ℕ → Result PredecessorRead PartRefusal → Type 0
IsSingle left xs end (Ok x) = (x.left.items ≡ left) × (x.end ≡ end) × (only_of xs ≡ Some x.predecessor)
IsSingle left xs end (Err (Token place)) = (place ≡ end) × (only_of xs ≡ None)
IsSingle left xs end (Err e) = ⊥

-- a right context
abbrev pub IsContext : Bool → List PatternSymbol → ℕ → Type 0
IsContext true xs branches = (is_empty xs ≡ false) × (branches ≡ 0)
IsContext false xs branches = (is_empty xs ≡ true) ⊎ (0 < branches)

abbrev pub patterns_of : List PatternSymbol → List (S.Symbol NameText)
patterns_of xs = map symbol_read xs

abbrev pub formals_of : PatternModule → List NameText
formals_of x = map name_of x.formals.items

abbrev pub IsPredecessorRead : Form → List Kind → ℕ → Result PredecessorRead PartRefusal → Type 0
IsPredecessorRead f ks at result =
    IsRead (form_in f) ks at (at_state machine.start) (λ x. x.end) (λ x. after_predecessor (patterns_of x.left.items) (module_name x.predecessor.name) (formals_of x.predecessor)) result

abbrev pub IsRightRead : Form → List Kind → ℕ → Result RightRead PartRefusal → Type 0
IsRightRead f ks at result = (l : List (S.Symbol NameText)) (n : S.ModuleName) (fs : List NameText)
    → IsRead (form_in f) ks at (after_predecessor l n fs) (λ x. x.end) (λ x. after_head (head_with l n fs (patterns_of x.right.items))) result

abbrev pub head_read : HeadRead → machine.Head
head_read x = head_with (patterns_of x.left.items) (module_name x.predecessor.name) (formals_of x.predecessor) (patterns_of x.right.items)

abbrev pub IsHeadRead : Form → List Kind → ℕ → Result HeadRead PartRefusal → Type 0
IsHeadRead f ks at result = IsRead (form_in f) ks at (at_state machine.start) (λ x. x.end) (λ x. after_head (head_read x)) result
