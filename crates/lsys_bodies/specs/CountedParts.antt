-- What is counted along the parts of a rule, whatever tokens they were read from.
use Rattle.std.specs.Prelude.{◌≡◌, ℕ, Option, Result, List, ◌∷◌, length}
use Rattle.lsys_syntax.specs.Tokens.{Kind}
use Rattle.lsys_syntax.specs.Pieces.{a_param, note, token}
use Rattle.lsys_syntax.specs.Rules.{rule_pieces}
use Rattle.lsys_syntax.specs.Checks.{Counts, rule_counts, rule_many}
use Rattle.lsys_reading.specs.Spans.{AreSpans, ConditionIsSpan}
use Rattle.lsys_reading.specs.Images.{ImageIsAt, ImagesAreAt}
use Rattle.lsys_reading.specs.RuleLines.{IsRuleLine, rule_at}
use Rattle.lsys_reading.specs.declared.images.ImageSymbol.{ImageSymbol}
use Rattle.lsys_reading.specs.declared.rule.RuleLine.{RuleLine}
use Rattle.lsys_reading.specs.declared.span.ExprSpan.{ExprSpan}
use Rattle.lsys_bodies.specs.Counting.{Counting, CountsOn}
use Rattle.lsys_bodies.specs.SpanPieces.{expression_pieces, image_module, image_pieces, images_pieces, marked_span, more_spans, whole_successor}
use Rattle.lsys_bodies.specs.declared.counter.RuleCounts.{RuleCounts}

-- 1. tokens

-- an expression of so many tokens
abbrev pub CountsExpression : Counts → ℕ → Result RuleCounts ℕ → Type 0
CountsExpression before size result =
    (ks : List Kind) → length ks ≡ size → CountsOn before (expression_pieces ks) result

-- a parameter of so many tokens after a mark
abbrev pub CountsParam : RuleCounts → ℕ → Result RuleCounts ℕ → Type 0
CountsParam counter size result =
    (k : Kind) (ks : List Kind) → length ks ≡ size
    → Counting counter (token k ∷ note a_param ∷ expression_pieces ks) result

-- 2. spans

-- the expression at a span, where there is one, after its mark
abbrev pub CountsSpan : RuleCounts → Option ExprSpan → Result RuleCounts ℕ → Type 0
CountsSpan counter span result =
    (k : Kind) (ks : List Kind) → ConditionIsSpan ks span
    → Counting counter (marked_span k ks span) result

-- the parameters at these spans, each after a mark
abbrev pub CountsSpans : RuleCounts → List ExprSpan → Result RuleCounts ℕ → Type 0
CountsSpans counter spans result =
    (ks : List Kind) → AreSpans ks spans → Counting counter (more_spans ks spans) result

-- 3. symbols of a successor

-- a name, and the parameters after it
abbrev pub CountsModule : RuleCounts → List ExprSpan → Result RuleCounts ℕ → Type 0
CountsModule counter spans result =
    (k : Kind) (ks : List Kind) → AreSpans ks spans
    → Counting counter (image_module k ks spans) result

abbrev pub CountsImage : RuleCounts → ImageSymbol → Result RuleCounts ℕ → Type 0
CountsImage counter x result =
    (ks : List Kind) → ImageIsAt ks x → Counting counter (image_pieces ks x) result

-- all of these symbols
abbrev pub CountsImages : RuleCounts → List ImageSymbol → Result RuleCounts ℕ → Type 0
CountsImages counter xs result =
    (ks : List Kind) → ImagesAreAt ks xs → Counting counter (images_pieces ks xs) result

-- the whole successor
abbrev pub CountsSuccessor : RuleCounts → List ImageSymbol → Result RuleCounts ℕ → Type 0
CountsSuccessor counter xs result =
    (ks : List Kind) → ImagesAreAt ks xs → Counting counter (whole_successor ks xs) result

-- 4. a rule

-- all of it
abbrev pub CountsRule : RuleLine → Result RuleCounts ℕ → Type 0
CountsRule r result =
    (ks : List Kind) → IsRuleLine ks r → CountsOn rule_counts (rule_pieces (rule_at ks r)) result

-- the first token of the rule, which begins with number `from`, at which it passes a limit
abbrev pub IsFirstPastLimits : ℕ → RuleLine → Option ℕ → Type 0
IsFirstPastLimits from r place =
    (ks : List Kind) → IsRuleLine ks r → place ≡ rule_many from (rule_at ks r)
