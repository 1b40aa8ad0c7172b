-- An expression that was found among tokens.
use Rattle.std.proofs.Common.{◌≡◌, ℕ, ◌-◌, List, Ok, take, refl, ap, sym, subst, ◌∙◌, arith}
use Rattle.std.specs.Option.{IsSome}
use Rattle.lsys_syntax.specs.Tokens as syntax
use Rattle.lsys_syntax.specs.ExpressionPlaces.{Extent, ends, stops, too_deep, extent, read_expr}
use Rattle.lsys_syntax.proofs.Extents.{ends-read}
use Rattle.lsys_expr.specs.Scanned.{IsExtent}

spelled-by : (ks : List syntax.Kind) (from to : ℕ) (x : Extent) → extent ks ≡ x → IsExtent from x (Ok to) → IsSome (read_expr (take (to - from) ks))
spelled-by ks from to (ends d e) h p =
    let long : to - from ≡ d = omega (arith, p) in
    subst IsSome (sym (ap (λ n. read_expr (take n ks)) long ∙ ends-read ks d e h)) refl
spelled-by ks from to (stops d) h p = elim p [ ]
spelled-by ks from to (too_deep d) h p = elim p [ ]

-- the tokens up to where a scan ends are an expression
pub spelled-to : (ks : List syntax.Kind) (from to : ℕ) → IsExtent from (extent ks) (Ok to) → IsSome (read_expr (take (to - from) ks))
spelled-to ks from to p = spelled-by ks from to (extent ks) refl p
