-- Symbols with formals: which may stand at a place, and what the functions that read them answer.
use Rattle.std.specs.Prelude.{◌≡◌, ◌+◌, ◌-◌, ◌&&◌, ℕ, Bool, true, false, nat_lt, Option, Some, None, Result, List, [], ◌∷◌, map}
use Rattle.lsys_syntax.specs.Tokens.{NameText, Kind}
use Rattle.lsys_syntax.specs.Strings as S
use Rattle.lsys_syntax.specs.RuleMachine.{Form, production, homomorphism, Part, at_first, at_predecessor, at_right, Formals, open_in, reversed}
use Rattle.lsys_text.specs.Tokens.{name_of}
use Rattle.lsys_module.specs.Views.{module_name}
use Rattle.lsys_syntax.specs.RulePoints.{Point, at_state, after_symbol, after_symbols}
use Rattle.lsys_reading.specs.Reads.{IsRead}
use Rattle.lsys_reading.specs.declared.refusal.PartRefusal.{PartRefusal}
use Rattle.lsys_reading.specs.declared.glyph.RuleGlyph.{RuleGlyph}
use Rattle.lsys_reading.specs.declared.glyph.RuleGlyph.TheVariants as glyphs
use Rattle.lsys_reading.specs.declared.patterns.PatternModule.{PatternModule}
use Rattle.lsys_reading.specs.declared.patterns.PatternSymbol.{PatternSymbol}
use Rattle.lsys_reading.specs.declared.patterns.PatternSymbol.TheVariants as patterns
use Rattle.lsys_reading.specs.declared.patterns.Section.{Section}
use Rattle.lsys_reading.specs.declared.patterns.Section.TheVariants.{First, Alone, Right}
use Rattle.lsys_reading.specs.declared.patterns.Standing.{Standing}
use Rattle.lsys_reading.specs.declared.patterns.Opening.{Opening}
use Rattle.lsys_reading.specs.declared.patterns.Opening.TheVariants as openings
use Rattle.lsys_reading.specs.declared.patterns.ModuleRead.{ModuleRead}
use Rattle.lsys_reading.specs.declared.patterns.SymbolRead.{SymbolRead}
use Rattle.lsys_reading.specs.declared.patterns.PatternsRead.{PatternsRead}

abbrev pub module_read : PatternModule → S.Symbol NameText
module_read x = S.Module (module_name x.name) (map name_of x.formals.items)

abbrev pub symbol_read : PatternSymbol → S.Symbol NameText
symbol_read (patterns.Module x) = module_read x
symbol_read patterns.Push = S.Push
symbol_read patterns.Pop = S.Pop

-- the symbols that were read, the last one first
abbrev pub so_far : List PatternSymbol → List (S.Symbol NameText)
so_far xs = reversed (map symbol_read xs)

abbrev pub branches_after : S.Symbol NameText → ℕ → ℕ
branches_after (S.Module n fs) b = b
branches_after S.Push b = b + 1
branches_after S.Pop b = b - 1
branches_after S.Cut b = b

-- 1. which symbols may stand at a place

abbrev pub is_right : Section → Bool
is_right Right = true
is_right s = false

abbrev pub takes_name : Section → Bool → Bool
takes_name Alone first = first
takes_name s first = true

abbrev pub opening_where : Bool → Opening → Option Opening
opening_where true o = Some o
opening_where false o = None

abbrev pub opening_of : Standing → RuleGlyph → Option Opening
opening_of st (glyphs.Letters x) = opening_where (takes_name st.section st.is_first) (openings.Name x)
opening_of st (glyphs.Sign x) = opening_where (takes_name st.section st.is_first) (openings.Name x)
opening_of st glyphs.Push = opening_where (is_right st.section) openings.Push
opening_of st glyphs.Pop = opening_where (is_right st.section && nat_lt 0 st.branches) openings.Pop
opening_of st g = None

-- the parts of a rule that a section is
abbrev pub IsSection : Section → Form → Part → Type 0
IsSection First production at_first = Unit {0}
IsSection Alone production (at_predecessor l) = Unit {0}
IsSection Alone homomorphism at_first = Unit {0}
IsSection Right production (at_right l n fs) = Unit {0}
IsSection s m p = ⊥

abbrev pub is_empty : {A : Type 0} → List A → Bool
is_empty [] = true
is_empty (x ∷ xs) = false

-- where the next symbol stands, after those of r
abbrev pub IsStanding : Standing → Form → Part → List (S.Symbol NameText) → Type 0
IsStanding st m p r = IsSection st.section m p × (st.is_first ≡ is_empty r) × (st.branches ≡ open_in r)

-- 2. what is read

abbrev pub IsModuleRead : List ℕ → List Kind → ℕ → Result ModuleRead PartRefusal → Type 0
IsModuleRead x ks at result = (m : Form) (p : Part) (r : List (S.Symbol NameText))
    → IsRead m ks at (at_state (Formals p (S.Module (module_name x) [] ∷ r))) (λ y. y.end) (λ y. after_symbol p (module_read y.pattern ∷ r)) result

abbrev pub end_of : ℕ → Option SymbolRead → ℕ
end_of at None = at
end_of at (Some x) = x.end

abbrev pub point_after : Part → List (S.Symbol NameText) → Option SymbolRead → Point
point_after p r None = after_symbols p r
point_after p r (Some x) = after_symbol p (symbol_read x.symbol ∷ r)

abbrev pub IsSymbolRead : Standing → List Kind → ℕ → Result (Option SymbolRead) PartRefusal → Type 0
IsSymbolRead st ks at result = (m : Form) (p : Part) (r : List (S.Symbol NameText)) → IsStanding st m p r
    → IsRead m ks at (after_symbol p r) (end_of at) (point_after p r) result

abbrev pub ArePatternsRead : Section → List Kind → ℕ → Result PatternsRead PartRefusal → Type 0
ArePatternsRead s ks at result = (m : Form) (p : Part) → IsSection s m p
    → IsRead m ks at (at_state (Formals p [])) (λ x. x.end) (λ x. after_symbols p (so_far x.symbols.items)) result

-- so many branches are told as are open after the symbols that were read
abbrev pub CountsBranches : PatternsRead → Type 0
CountsBranches x = x.branches ≡ open_in (reversed (map symbol_read x.symbols.items))
