-- What the functions that read a part of a rule answer: the part leads to another point; or the place where the rule is refused.
use Rattle.std.specs.Prelude.{◌≡◌, ◌+◌, ℕ, Result, Ok, Err, List, [], ◌∷◌, map}
use Rattle.lsys_syntax.specs.Tokens.{NameText, Kind}
use Rattle.lsys_syntax.specs.Strings.{ModuleName, Symbol, Module}
use Rattle.lsys_syntax.specs.RuleMachine.{Form, Part, RuleState, Formals, FormalDue, reversed}
use Rattle.lsys_text.specs.Tokens.{name_of}
use Rattle.lsys_syntax.specs.RulePoints.{stops, too_deep, Point, at_state, verdict_at, Leads}
use Rattle.lsys_reading.specs.declared.refusal.PartRefusal.{PartRefusal}
use Rattle.lsys_reading.specs.declared.refusal.PartRefusal.TheVariants.{Token, Deep, Memory}
use Rattle.lsys_reading.specs.declared.glyph.Separator.{Separator}
use Rattle.lsys_reading.specs.declared.glyph.Separator.TheVariants as separators
use Rattle.lsys_reading.specs.declared.formals.FormalRead.{FormalRead}
use Rattle.lsys_reading.specs.declared.formals.FormalsRead.{FormalsRead}

-- the rule is refused there; lack of memory says nothing
abbrev pub Refuses : Form → List Kind → ℕ → Point → PartRefusal → Type 0
Refuses m ks at p (Token place) = verdict_at m ks at p ≡ stops place
Refuses m ks at p (Deep place) = verdict_at m ks at p ≡ too_deep place
Refuses m ks at p Memory = Unit {0}

-- A part read from place at and point p on: where it ends, and the point after it.
abbrev pub IsRead : {A : Type 0} → Form → List Kind → ℕ → Point → (A → ℕ) → (A → Point) → Result A PartRefusal → Type 0
IsRead m ks at p end q (Ok a) = Leads m ks at p (end a) (q a)
IsRead m ks at p end q (Err e) = Refuses m ks at p e

-- 1. formals

abbrev pub after_formal : Separator → Part → List (Symbol NameText) → ModuleName → List NameText → RuleState
after_formal separators.Comma p r n fs = FormalDue p r n fs
after_formal separators.Close p r n fs = Formals p (Module n (reversed fs) ∷ r)

abbrev pub IsFormalRead : List Kind → ℕ → Result FormalRead PartRefusal → Type 0
IsFormalRead ks at result = (m : Form) (p : Part) (r : List (Symbol NameText)) (n : ModuleName) (fs : List NameText)
    → IsRead m ks at (at_state (FormalDue p r n fs)) (λ f. at + 2) (λ f. at_state (after_formal f.separator p r n (name_of f.name ∷ fs))) result

abbrev pub AreFormalsRead : List Kind → ℕ → Result FormalsRead PartRefusal → Type 0
AreFormalsRead ks at result = (m : Form) (p : Part) (r : List (Symbol NameText)) (n : ModuleName)
    → IsRead m ks at (at_state (FormalDue p r n [])) (λ f. f.end) (λ f. at_state (Formals p (Module n (map name_of f.formals.items) ∷ r))) result
