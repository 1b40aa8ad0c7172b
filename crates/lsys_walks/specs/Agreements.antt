-- Two lists of what was read, by tags and by lineages.
use Rattle.std.specs.Prelude.{◌≡◌, ◌↔◌, ◌⊎◌, ℕ, Bool, true, false, List, [], ◌∷◌, map, ◌==◌, ◌&&◌}
use Rattle.lsys_syntax.specs.Strings.{IsModuleName}
use Rattle.lsys_spec.specs.Systems.{Each}
use Rattle.lsys_spec.specs.Equalities.{same_all, same_mark, same_module, same_entry}
use Rattle.lsys_walks.specs.Noted.{Noted, Compared, Ignored, Out, Branched, entry_by}

-- equality of what was read, as a test by tags
abbrev pub same_noted : Noted → Noted → Bool
same_noted (Compared d t m) (Compared e u n) = same_mark d e && ((t == u) && same_module m n)
same_noted (Ignored d t m) (Ignored e u n) = same_mark d e && ((t == u) && same_module m n)
same_noted (Out d t) (Out e u) = same_mark d e && (t == u)
same_noted (Branched d o c) (Branched e p q) = same_mark d e && ((o == p) && (c == q))
same_noted a b = false

abbrev pub same_trace : List Noted → List Noted → Bool
same_trace old new = same_all same_noted old new

-- it names this tag
abbrev pub Names : ℕ → Noted → Type 0
Names k (Compared d t m) = k ≡ t
Names k (Ignored d t m) = k ≡ t
Names k (Out d t) = k ≡ t
Names k (Branched d o c) = (k ≡ o) ⊎ (k ≡ c)

-- one of them names this tag
abbrev pub HasTag : ℕ → List Noted → Type 0
HasTag k [] = ⊥
HasTag k (n ∷ ns) = Names k n ⊎ HasTag k ns

-- the tags of an old trace and of a new one are equal exactly where their lineages are
abbrev pub AgreeTags : (ℕ → List ℕ) → (ℕ → List ℕ) → List Noted → List Noted → Type 0
AgreeTags before after old new = (k m : ℕ) → HasTag k old → HasTag m new → (k ≡ m) ↔ (before k ≡ after m)

-- its name is a name of the language
abbrev pub NamedNoted : Noted → Type 0
NamedNoted (Compared d t m) = IsModuleName m.name
NamedNoted (Ignored d t m) = IsModuleName m.name
NamedNoted (Out d t) = Unit {0}
NamedNoted (Branched d o c) = Unit {0}

-- where tags agree, the traces are equal by tags exactly where they are by lineages
abbrev pub TracesAgreeByTags : Type 0
TracesAgreeByTags =
    (before after : ℕ → List ℕ) (old new : List Noted)
    → AgreeTags before after old new
    → (old ≡ new) ↔ (map (entry_by before) old ≡ map (entry_by after) new)

-- the test by tags is then the test by lineages
abbrev pub TestsAgreeByTags : Type 0
TestsAgreeByTags =
    (before after : ℕ → List ℕ) (old new : List Noted)
    → AgreeTags before after old new
    → same_trace old new
    ≡ same_all same_entry (map (entry_by before) old) (map (entry_by after) new)

-- the test by lineages then tells whether traces are equal, where their names are those of the language
abbrev pub TestsTellTraces : Type 0
TestsTellTraces =
    (before after : ℕ → List ℕ) (old new : List Noted)
    → AgreeTags before after old new → Each NamedNoted old → Each NamedNoted new
    → (same_all same_entry (map (entry_by before) old) (map (entry_by after) new) ≡ true)
    ↔ (old ≡ new)
