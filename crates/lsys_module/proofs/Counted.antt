-- What a count of a string's tokens tells of its limits.
use Rattle.std.proofs.Common.{◌≡◌, ℕ, ◌+◌, ◌<◌, Bool, true, false, Option, Some, None, List, get_or, length, refl, ◌∙◌, sym, subst}
use Rattle.lsys_syntax.specs.Strings.{Symbol, Signed}
use Rattle.lsys_syntax.specs.Commands.{set_axiom}
use Rattle.lsys_syntax.specs.LineMachine.{Verdict, sentence}
use Rattle.lsys_syntax.specs.Checks.{axiom_many}
use Rattle.lsys_spec.specs.Edits.{values_of}
use Rattle.lsys_text.specs.declared.token_kind.Token.{Token}
use Rattle.lsys_text.specs.Tokens.{kind_of}
use Rattle.lsys_module.specs.declared.glyph.StringGlyph.{StringGlyph}
use Rattle.lsys_module.specs.declared.limits.StringCounts.{StringCounts}
use Rattle.lsys_module.specs.Scanning.{glyph_of}
use Rattle.lsys_module.specs.Building.{Draft, draft_limit, kind_name, CanTake}
use Rattle.lsys_module.specs.Counting.{CountsDraft, IsLimitPlace, counter_step}
use Rattle.lsys_module.proofs.BuildSteps.{IsReading, whole_run, can_take, taken, refused}
use Rattle.lsys_module.proofs.Runs.{outcome}
use Rattle.lsys_module.proofs.CountSteps.{limit-counted, step-counted}

-- the word of the contract, by the string that was scanned
pub is_placed : (from : ℕ) (v : Verdict) (xs : List (Symbol Signed)) (place : Option ℕ) → v ≡ sentence (set_axiom xs) → axiom_many from xs ≡ place → IsLimitPlace from v place
is_placed from v xs place e h = let P : Verdict → Type 0 = λ w. IsLimitPlace from w place in subst P (sym e) (sym h)

must_limit : (d : Draft) (c : StringCounts) (k : StringGlyph) (b : Bool) → draft_limit d k ≡ b → (b ≡ false → (e : StringCounts) × (counter_step c k ≡ Some e)) → counter_step c k ≡ None → draft_limit d k ≡ true
must_limit d c k true is goes none = is
must_limit d c k false is goes none = let next = goes refl in let same : Some next.0 ≡ None = sym next.1 ∙ none in cc

-- the counter stops at the token that is one too many
pub stopped : (from : ℕ) (tokens : List Token) (xs : List (Symbol Signed)) (i : ℕ) (t : Token) (d : Draft) (c : StringCounts) → i < length tokens → t ≡ get_or tokens i t → IsReading from tokens i d → CountsDraft d c
    → whole_run from tokens ≡ outcome (axiom_many from xs) (values_of xs) → counter_step c (glyph_of (kind_of t.kind)) ≡ None → axiom_many from xs ≡ Some i
stopped from tokens xs i t d c h is reading counts told none =
    let g = glyph_of (kind_of t.kind) in
    let can : CanTake d (kind_of t.kind) = can_take from tokens xs i t d h is reading told in
    let limit : draft_limit d g ≡ true =
    must_limit d c g (draft_limit d g) refl
    (λ free. let step = can free in let next = step-counted d step.0 c g (kind_name (kind_of t.kind)) counts free step.1 in (next.0, next.1)) none in
    refused from tokens xs i t d h is reading limit told

-- what is read after a token that the counter takes
abbrev pub Reads : ℕ → List Token → ℕ → StringCounts → Type 0
Reads from tokens place c = (d : Draft) × IsReading from tokens place d × CountsDraft d c

reads_on : (from : ℕ) (tokens : List Token) (xs : List (Symbol Signed)) (i : ℕ) (t : Token) (d : Draft) (c next : StringCounts) (b : Bool) → i < length tokens → t ≡ get_or tokens i t → IsReading from tokens i d → CountsDraft d c
    → CanTake d (kind_of t.kind) → draft_limit d (glyph_of (kind_of t.kind)) ≡ b → counter_step c (glyph_of (kind_of t.kind)) ≡ Some next → Reads from tokens (i + 1) next
reads_on from tokens xs i t d c next true h is reading counts can limit step =
    let none = limit-counted d c (glyph_of (kind_of t.kind)) counts limit in let same : Some next ≡ None = sym step ∙ none in cc
reads_on from tokens xs i t d c next false h is reading counts can limit step =
    let taken_on = can limit in
    let gone = step-counted d taken_on.0 c (glyph_of (kind_of t.kind)) (kind_name (kind_of t.kind)) counts limit taken_on.1 in
    let both : Some gone.0 ≡ Some next = sym gone.1 ∙ step in
    let same : gone.0 ≡ next = cc in
    (taken_on.0, taken from tokens i t d taken_on.0 h is reading limit taken_on.1, let P : StringCounts → Type 0 = λ q. CountsDraft taken_on.0 q in subst P same gone.2)

-- the counter goes on
pub went_on : (from : ℕ) (tokens : List Token) (xs : List (Symbol Signed)) (i : ℕ) (t : Token) (d : Draft) (c next : StringCounts) → i < length tokens → t ≡ get_or tokens i t → IsReading from tokens i d → CountsDraft d c
    → whole_run from tokens ≡ outcome (axiom_many from xs) (values_of xs) → counter_step c (glyph_of (kind_of t.kind)) ≡ Some next → Reads from tokens (i + 1) next
went_on from tokens xs i t d c next h is reading counts told step =
    reads_on from tokens xs i t d c next (draft_limit d (glyph_of (kind_of t.kind))) h is reading counts (can_take from tokens xs i t d h is reading told) refl step
