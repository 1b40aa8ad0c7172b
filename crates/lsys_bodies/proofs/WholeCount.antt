-- Counts of a whole rule, by its parts.
use Rattle.std.proofs.Common.{◌≡◌, ℕ, None, Result, Ok, Err, List, [], ◌∷◌, ◌++◌, ap, sym, ◌∙◌, append-nil, arith}
use Rattle.lsys_syntax.specs.Tokens.{Arrow}
use Rattle.lsys_syntax.specs.Pieces.{Piece, blank, token}
use Rattle.lsys_syntax.specs.Checks.{Counts, rule_counts, many_place}
use Rattle.lsys_bodies.specs.Counting.{passed_or, CountsOn, Counting}
use Rattle.lsys_bodies.specs.declared.counter.RuleCounts.{RuleCounts}
use Rattle.lsys_bodies.proofs.Counted.{counts-on, counts-passed, counts-blank}

-- the left context, the predecessor, the right context, the condition, the weight, and the successor
module _ {b : Counts} {l : RuleCounts} (left predecessor right condition weight successor : List Piece) (h : CountsOn b left (Ok l)) where
  abbrev arrow : List Piece
  arrow = blank ∷ token Arrow ∷ successor

  abbrev pub all : List Piece
  all = left ++ (predecessor ++ (right ++ (condition ++ (weight ++ arrow))))

  pub at_predecessor : {t : ℕ} → Counting l predecessor (Err t) → CountsOn b all (Err t)
  at_predecessor i = counts-on left (predecessor ++ (right ++ (condition ++ (weight ++ arrow)))) h (counts-passed predecessor (right ++ (condition ++ (weight ++ arrow))) i)

  module _ {p : RuleCounts} (i : Counting l predecessor (Ok p)) where
    after_predecessor : {result : Result RuleCounts ℕ} → Counting p (right ++ (condition ++ (weight ++ arrow))) result → CountsOn b all result
    after_predecessor j = counts-on left (predecessor ++ (right ++ (condition ++ (weight ++ arrow)))) h (counts-on predecessor (right ++ (condition ++ (weight ++ arrow))) i j)

    pub at_right : {t : ℕ} → Counting p right (Err t) → CountsOn b all (Err t)
    at_right j = after_predecessor (counts-passed right (condition ++ (weight ++ arrow)) j)

    module _ {r : RuleCounts} (j : Counting p right (Ok r)) where
      pub at_condition : {t : ℕ} → Counting r condition (Err t) → CountsOn b all (Err t)
      at_condition k = after_predecessor (counts-on right (condition ++ (weight ++ arrow)) j (counts-passed condition (weight ++ arrow) k))

      module _ {c : RuleCounts} (k : Counting r condition (Ok c)) where
        after_condition : {result : Result RuleCounts ℕ} → Counting c (weight ++ arrow) result → CountsOn b all result
        after_condition m = after_predecessor (counts-on right (condition ++ (weight ++ arrow)) j (counts-on condition (weight ++ arrow) k m))

        pub at_weight : {t : ℕ} → Counting c weight (Err t) → CountsOn b all (Err t)
        at_weight m = after_condition (counts-passed weight arrow m)

        pub at_arrow : {w : RuleCounts} {t : ℕ} → Counting c weight (Ok w) → Counting w (token Arrow ∷ []) (Err t) → CountsOn b all (Err t)
        at_arrow {w = w} m n = after_condition (counts-on weight arrow m (counts-on (blank ∷ []) (token Arrow ∷ successor) (counts-blank w) (counts-passed (token Arrow ∷ []) successor n)))

        pub at_end : {w a : RuleCounts} {result : Result RuleCounts ℕ} → Counting c weight (Ok w) → Counting w (token Arrow ∷ []) (Ok a) → Counting a successor result → CountsOn b all result
        at_end {w = w} m n o = after_condition (counts-on weight arrow m (counts-on (blank ∷ []) (token Arrow ∷ successor) (counts-blank w) (counts-on (token Arrow ∷ []) successor n o)))

pub first-many : (from : ℕ) (ps : List Piece) (result : Result RuleCounts ℕ) → CountsOn rule_counts ps result → passed_or from result (λ c. None) ≡ many_place rule_counts from ps
first-many from ps result h =
    sym (ap (many_place rule_counts from) (sym (append-nil ps)) ∙ ap (λ n. many_place rule_counts n (ps ++ [])) (omega arith) ∙ h.same from [])
