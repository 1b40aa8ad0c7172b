-- One token of an expression at a time, by its place.
use Rattle.std.proofs.Common.{◌≡◌, ℕ, ◌+◌, ◌-◌, ◌<◌, ◌≤◌, Bool, false, nat_lt, cond, List, [], ◌∷◌, Option, Some, None, map, take, drop, get_or, length, refl, ap, sym, subst, ◌∙◌, arith, add-one, drop-cons, unwrap_or}
use Rattle.std.specs.Option.{IsSome}
use Rattle.std.specs.List.{position, position_or_len}
use Rattle.std.proofs.lemmas.Bool.Decides.{nat_tests}
use Rattle.std.proofs.lemmas.List.Sums.{fails_before_first}
use Rattle.std.proofs.lemmas.List.{take-map, drop-map, drop_all}
use Rattle.lsys_syntax.specs.Tokens.{NameText, Kind}
use Rattle.lsys_syntax.specs.Expressions.{Expr}
use Rattle.lsys_syntax.specs.Checks.{is_unknown}
use Rattle.lsys_syntax.specs.RuleMachine.{small}
use Rattle.lsys_syntax.specs.ExpressionPlaces.{read_expr}
use Rattle.lsys_spec.specs.Values.{Tree, expr_tree}
use Rattle.lsys_text.specs.declared.token_kind.TokenKind.{TokenKind}
use Rattle.lsys_text.specs.declared.token_kind.Token.{Token}
use Rattle.lsys_text.specs.Tokens.{kind_of}
use Rattle.lsys_expr.specs.Codes.{any_expr}
use Rattle.lsys_expr.specs.Frames.{OperandFrame, next_reading, reduced}
use Rattle.lsys_expr.specs.InsideExpr.{expression_spelled}
use Rattle.lsys_expr.specs.Parts.{names_of, stretch, unknown_in}
use Rattle.lsys_expr.proofs.NameLemmas.{position-map}
use Rattle.lsys_expr.proofs.Reading.{Reads, reads-possible, reads-step, reads-end, IsWhole}

-- what an option holds, if it holds something
pub some-is : {A : Type 0} (o : Option A) (d : A) → IsSome o → o ≡ Some (unwrap_or o d)
some-is (Some x) d h = refl
some-is None d h = cc h

-- the kinds of a part, one by one
pub part-kinds : (from to : ℕ) (tokens : List Token) → map kind_of (map (λ t. t.kind) (take (to - from) (drop from tokens))) ≡ stretch from to tokens
part-kinds from to tokens =
    let kind : Token → Kind = λ t. kind_of t.kind in
    map-map (take (to - from) (drop from tokens)) ∙ sym (ap (take (to - from)) (drop-map kind from tokens) ∙ take-map kind (to - from) (drop from tokens))
  where
    map-map : (ts : List Token) → map kind_of (map (λ t. t.kind) ts) ≡ map (λ t. kind_of t.kind) ts
    map-map [] = refl
    map-map (t ∷ ts) = ap (λ ks. kind_of t.kind ∷ ks) (map-map ts)

-- the kinds from a place on
rest-is : (kinds : List TokenKind) (i : ℕ) (k : TokenKind) → i < length kinds → k ≡ get_or kinds i k → map kind_of (drop i kinds) ≡ kind_of k ∷ map kind_of (drop (i + 1) kinds)
rest-is kinds i k h e =
    let cut : drop i kinds ≡ get_or kinds i k ∷ drop (i + 1) kinds = rw add-one (drop-cons kinds i k h) in
    ap (map kind_of) cut ∙ ap (λ x. kind_of x ∷ map kind_of (drop (i + 1) kinds)) (sym e)

module _ (fs : List NameText) (e : Expr) (kinds : List TokenKind) (i : ℕ) (k : TokenKind) (o : Option Tree) (fr : List OperandFrame) where
  next-reads : Reads fs e (map kind_of (drop i kinds)) o fr → i < length kinds → k ≡ get_or kinds i k → Reads fs e (kind_of k ∷ map kind_of (drop (i + 1) kinds)) o fr
  next-reads r h s = subst (λ ks. Reads fs e ks o fr) (rest-is kinds i k h s) r

  pub token-possible : Reads fs e (map kind_of (drop i kinds)) o fr → i < length kinds → k ≡ get_or kinds i k → IsSome (next_reading fs (small (kind_of k)) o fr)
  token-possible r h s = reads-possible fs e (kind_of k) (map kind_of (drop (i + 1) kinds)) o fr (next-reads r h s)

  pub token-read : (p : Option Tree) (gr : List OperandFrame) → Reads fs e (map kind_of (drop i kinds)) o fr → i < length kinds → k ≡ get_or kinds i k
      → next_reading fs (small (kind_of k)) o fr ≡ Some (p, gr) → Reads fs e (map kind_of (drop (i + 1) kinds)) p gr
  token-read p gr r h s m = reads-step fs e (kind_of k) (map kind_of (drop (i + 1) kinds)) o p fr gr (next-reads r h s) m

pub tokens-end : (fs : List NameText) (e : Expr) (kinds : List TokenKind) (i : ℕ) (o : Option Tree) (fr : List OperandFrame) → Reads fs e (map kind_of (drop i kinds)) o fr → length kinds ≤ i → IsWhole fs e o fr
tokens-end fs e kinds i o fr r h = reads-end fs e o fr (subst (λ ks. Reads fs e (map kind_of ks) o fr) (drop_all i kinds h) r)

-- no name is unknown
pub known-at : (formals : List (List ℕ)) (kinds : List TokenKind) (i : ℕ) (k : TokenKind) → unknown_in formals (map kind_of kinds) ≡ None → i < length kinds → k ≡ get_or kinds i k
    → is_unknown (names_of formals) (kind_of k) ≡ false
known-at formals kinds i k u h s =
    let test : TokenKind → Bool = λ x. is_unknown (names_of formals) (kind_of x) in
    let none : position test kinds ≡ None = sym (position-map kind_of (is_unknown (names_of formals)) kinds) ∙ u in
    let far : length kinds ≤ position_or_len test kinds = nowhere (position_or_len test kinds) (length kinds) none in
    ap test s ∙ fails_before_first test kinds i k (omega (arith, far, h))
  where
    nowhere : (m n : ℕ) → cond (nat_lt m n) (Some m) None ≡ None → n ≤ m
    nowhere m n e = grind (arith, nat_tests, e)

-- what is read of the tokens of an expression
pub spelled-is : (kinds : List TokenKind) → IsSome (read_expr (map kind_of kinds)) → read_expr (map kind_of kinds) ≡ Some (expression_spelled kinds)
spelled-is kinds h = some-is (read_expr (map kind_of kinds)) any_expr h

-- the whole that was read, as its tree
pub whole-tree : (fs : List NameText) (e : Expr) (last t : Tree) (o : Option Tree) (fr gr : List OperandFrame) → IsWhole fs e o fr → o ≡ Some last → ◌≡◌ {A = Tree × List OperandFrame} (t, gr) (reduced 1 last fr)
    → t ≡ expr_tree fs e
whole-tree fs e last t o fr gr w h r =
    let same : last ≡ w.last = cc (h, w.operand_is) in
    ap (λ (x : Tree × List OperandFrame). x.0) (r ∙ ap (λ l. reduced 1 l fr) same ∙ w.whole)
