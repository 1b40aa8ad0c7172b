-- Counts of lists of symbols, formals and parameters.
use Rattle.std.proofs.Common.{◌≡◌, ℕ, ◌+◌, ◌-◌, ◌≤◌, ◌<◌, false, Some, Result, Ok, Err, List, [], ◌∷◌, ◌++◌, length, map, drop, get_or, refl, ap, sym, subst, ◌∙◌, append_assoc, length-drop, arith}
use Rattle.std.proofs.lemmas.List.{drop_all, length-take-le}
use Rattle.lsys_syntax.specs.Tokens.{NameText, Kind, Comma, LeftParen, RightParen, Less, Greater}
use Rattle.lsys_syntax.specs.Pieces.{Piece, Note, blank, token, note, a_symbol, a_param, left_begins, right_begins, successor_begins}
use Rattle.lsys_syntax.specs.Strings as S
use Rattle.lsys_syntax.specs.Strings.{more_pieces, params_pieces, symbol_pieces, string_pieces, gap, ends_in_name, begins_with_letter}
use Rattle.lsys_syntax.specs.Expressions.{Expr, expr_kinds, expr_pieces}
use Rattle.lsys_syntax.specs.Checks.{Counts, count_note, many_place}
use Rattle.lsys_syntax.specs.Limits.{most_left, most_right, most_successor_symbols, most_rule_tokens}
use Rattle.lsys_syntax.specs.Rules.{formal_pieces, left_pieces, right_pieces, successor_pieces}
use Rattle.lsys_reading.specs.Spans.{IsSpan, expr_at}
use Rattle.lsys_reading.specs.declared.span.ExprSpan.{ExprSpan}
use Rattle.lsys_bodies.specs.Counting.{counts_of, CountsOn, Counting}
use Rattle.lsys_bodies.specs.declared.counter.RuleCounts.{RuleCounts}
use Rattle.lsys_bodies.proofs.Adding.{drop-item}
use Rattle.lsys_bodies.proofs.Counted.{counts-on, counts-passed, counts-nothing, counts-blank, counts-gap}

-- what is left from m on makes a count of it all
pub record CountGoes (b : Counts) (ps : List Piece) (m : RuleCounts) (qs : List Piece) : Type 0 where
  pub rest : (result : Result RuleCounts ℕ) → Counting m qs result → CountsOn b ps result

module _ {b : Counts} {m : RuleCounts} where
  pub goes-more : {o : RuleCounts} (ps qs rs : List Piece) → CountGoes b ps m (qs ++ rs) → Counting m qs (Ok o) → CountGoes b ps o rs
  goes-more ps qs rs h k = record { rest = λ result r. h.rest result (counts-on qs rs k r) }

  pub goes-passed : {t : ℕ} (ps qs rs : List Piece) → CountGoes b ps m (qs ++ rs) → Counting m qs (Err t) → CountsOn b ps (Err t)
  goes-passed ps qs rs h k = h.rest _ (counts-passed qs rs k)

  pub goes-done : (ps : List Piece) → CountGoes b ps m [] → CountsOn b ps (Ok m)
  goes-done ps h = h.rest _ (counts-nothing m)

-- items of a list that are printed after a mark each
module _ {A P : Type 0} (print : P → List Piece) (view : A → P) where
  abbrev pub marked : List A → List Piece
  marked xs = more_pieces print (map view xs)

  module _ {b : Counts} {m : RuleCounts} (ps : List Piece) (xs : List A) (i : ℕ) (x : A) (l : i < length xs) (e : x ≡ get_or xs i x) (h : CountGoes b ps m (marked (drop i xs))) where
    next-marked : CountGoes b ps m ((token Comma ∷ note a_param ∷ print (view x)) ++ marked (drop (i + 1) xs))
    next-marked = subst (λ ys. CountGoes b ps m (marked ys)) (drop-item xs i x l e) h

    pub marked-more : {o : RuleCounts} → Counting m (token Comma ∷ note a_param ∷ print (view x)) (Ok o) → CountGoes b ps o (marked (drop (i + 1) xs))
    marked-more k = goes-more ps (token Comma ∷ note a_param ∷ print (view x)) (marked (drop (i + 1) xs)) next-marked k

    pub marked-passed : {t : ℕ} → Counting m (token Comma ∷ note a_param ∷ print (view x)) (Err t) → CountsOn b ps (Err t)
    marked-passed k = goes-passed ps (token Comma ∷ note a_param ∷ print (view x)) (marked (drop (i + 1) xs)) next-marked k

  pub marked-done : {b : Counts} {m : RuleCounts} (ps : List Piece) (xs : List A) (i : ℕ) → length xs ≤ i → CountGoes b ps m (marked (drop i xs)) → CountsOn b ps (Ok m)
  marked-done {b = b} {m = m} ps xs i l h = goes-done ps (subst (λ ys. CountGoes b ps m (marked ys)) (drop_all i xs l) h)

-- items of a list that are printed as symbols
module _ {A P : Type 0} (print : P → List Piece) (view : A → S.Symbol P) where
  abbrev pub symbols : List A → List Piece
  symbols xs = string_pieces print (map view xs)

  module _ {b : Counts} {m : RuleCounts} (ps : List Piece) (xs : List A) (i : ℕ) (x : A) (l : i < length xs) (e : x ≡ get_or xs i x) (h : CountGoes b ps m (symbols (drop i xs))) where
    abbrev between : List Piece
    between = gap (ends_in_name (view x)) (begins_with_letter (map view (drop (i + 1) xs)))

    next-symbol : CountGoes b ps m (symbol_pieces print (view x) ++ (between ++ symbols (drop (i + 1) xs)))
    next-symbol = subst (λ ys. CountGoes b ps m (symbols ys)) (drop-item xs i x l e) h

    pub symbol-more : {o : RuleCounts} → Counting m (symbol_pieces print (view x)) (Ok o) → CountGoes b ps o (symbols (drop (i + 1) xs))
    symbol-more {o = o} k =
        goes-more ps between (symbols (drop (i + 1) xs))
        (goes-more ps (symbol_pieces print (view x)) (between ++ symbols (drop (i + 1) xs)) next-symbol k)
        (counts-gap o (ends_in_name (view x)) (begins_with_letter (map view (drop (i + 1) xs))))

    pub symbol-passed : {t : ℕ} → Counting m (symbol_pieces print (view x)) (Err t) → CountsOn b ps (Err t)
    symbol-passed k = goes-passed ps (symbol_pieces print (view x)) (between ++ symbols (drop (i + 1) xs)) next-symbol k

  pub symbols-done : {b : Counts} {m : RuleCounts} (ps : List Piece) (xs : List A) (i : ℕ) → length xs ≤ i → CountGoes b ps m (symbols (drop i xs)) → CountsOn b ps (Ok m)
  symbols-done {b = b} {m = m} ps xs i l h = goes-done ps (subst (λ ys. CountGoes b ps m (symbols ys)) (drop_all i xs l) h)

-- which mark stands before parameters says nothing
opened : {b : Counts} {result : Result RuleCounts ℕ} (ps : List Piece) → CountsOn b (token Comma ∷ ps) result → CountsOn b (token LeftParen ∷ ps) result
opened ps h = record { few = h.few; same = λ from qs. h.same from qs }

pub counts-params : {A P : Type 0} (c : RuleCounts) {result : Result RuleCounts ℕ} (print : P → List Piece) (view : A → P) (xs : List A) → 0 < length xs
    → Counting c (more_pieces print (map view xs) ++ token RightParen ∷ []) result → Counting c (params_pieces print (map view xs)) result
counts-params c print view [] l h = absurd (omega arith)
counts-params c {result = result} print view (x ∷ xs) l h =
    opened (note a_param ∷ (print (view x) ++ (more_pieces print (map view xs) ++ token RightParen ∷ [])))
    (subst (λ ps. Counting c (token Comma ∷ note a_param ∷ ps) result) (append_assoc (print (view x)) (more_pieces print (map view xs)) (token RightParen ∷ [])) h)

-- how many tokens an expression has
pub span-size : (ks : List Kind) (s : ExprSpan) → IsSpan ks s → length (expr_kinds (expr_at ks s)) ≡ s.to - s.from
span-size ks s h = ap length h.kinds ∙ length-take-le (s.to - s.from) (drop s.from ks) (omega (arith, h.within, h.ordered, length-drop s.from ks))

-- a symbol with its parameters
abbrev pub named : Kind → List Piece
named k = note a_symbol ∷ token k ∷ []

module _ {A P : Type 0} (c : RuleCounts) (print : P → List Piece) (view : A → P) (k : Kind) (xs : List A) where
  abbrev pub module_pieces : List Piece
  module_pieces = note a_symbol ∷ token k ∷ params_pieces print (map view xs)

  pub module-at_name : {t : ℕ} → Counting c (named k) (Err t) → Counting c module_pieces (Err t)
  module-at_name h = counts-passed (named k) (params_pieces print (map view xs)) h

  pub module-alone : {d : RuleCounts} → length xs ≤ 0 → Counting c (named k) (Ok d) → Counting c module_pieces (Ok d)
  module-alone {d = d} l h = by xs l
    where
      by : (ys : List A) → length ys ≤ 0 → Counting c (note a_symbol ∷ token k ∷ params_pieces print (map view ys)) (Ok d)
      by [] l = h
      by (y ∷ ys) l = absurd (omega arith)

  pub module-at_params : {d : RuleCounts} {t : ℕ} → 0 < length xs → Counting c (named k) (Ok d) → Counting d (more_pieces print (map view xs)) (Err t) → Counting c module_pieces (Err t)
  module-at_params {d = d} l h i = counts-on (named k) (params_pieces print (map view xs)) h (counts-params d print view xs l (counts-passed (more_pieces print (map view xs)) (token RightParen ∷ []) i))

  pub module-whole : {d e : RuleCounts} {result : Result RuleCounts ℕ} → 0 < length xs → Counting c (named k) (Ok d) → Counting d (more_pieces print (map view xs)) (Ok e) → Counting e (token RightParen ∷ []) result → Counting c module_pieces result
  module-whole {d = d} l h i j = counts-on (named k) (params_pieces print (map view xs)) h (counts-params d print view xs l (counts-on (more_pieces print (map view xs)) (token RightParen ∷ []) i j))

-- before a string
abbrev pub counts_section : RuleCounts → ℕ → Counts
counts_section c m = record { tokens = c.tokens; most_tokens = Some most_rule_tokens; expr_tokens = 0; inside = false; symbols = 0; most = m; params = c.params }

pub counts-section : {result : Result RuleCounts ℕ} (c d : RuleCounts) (m : Note) (ps : List Piece) → d.tokens ≡ c.tokens → count_note m (counts_of c) ≡ counts_of d → Counting d ps result → Counting c (note m ∷ ps) result
counts-section c d m ps t e h = record {
  few = h.few;
  same = λ from qs.
      ap (λ b. many_place b (from + c.tokens) (ps ++ qs)) e
      ∙ ap (λ n. many_place (counts_of d) (from + n) (ps ++ qs)) (sym t)
      ∙ h.same from qs;
}

pub section-is : (c d : RuleCounts) (m : ℕ) → d.tokens ≡ c.tokens → d.symbols ≡ 0 → d.most ≡ m → d.params ≡ c.params
    → counts_section c m ≡ counts_of d
section-is c d m a b e f = rw (a, b, e, f) refl

counts-then_blank : {result : Result RuleCounts ℕ} (c : RuleCounts) (ps : List Piece) → Counting c ps result → Counting c (ps ++ blank ∷ []) result
counts-then_blank {result = Ok d} c ps h = counts-on ps (blank ∷ []) h (counts-blank d)
counts-then_blank {result = Err t} c ps h = counts-passed ps (blank ∷ []) h

module _ (c d : RuleCounts) (xs : List (S.Symbol NameText)) (l : 0 < length xs) where
  pub left-whole : {e : RuleCounts} {result : Result RuleCounts ℕ} → d.tokens ≡ c.tokens → counts_section c most_left ≡ counts_of d → Counting d (string_pieces formal_pieces xs) (Ok e) → Counting e (token Less ∷ []) result → Counting c (left_pieces xs) result
  left-whole {e = e} {result = result} t s h k = by xs l h
    where
      by : (ys : List (S.Symbol NameText)) → 0 < length ys → Counting d (string_pieces formal_pieces ys) (Ok e) → Counting c (left_pieces ys) result
      by [] l h = absurd (omega arith)
      by (y ∷ ys) l h =
          counts-section c d left_begins (string_pieces formal_pieces (y ∷ ys) ++ blank ∷ token Less ∷ blank ∷ []) t s
          (counts-on (string_pieces formal_pieces (y ∷ ys)) (blank ∷ token Less ∷ blank ∷ []) h
          (counts-on (blank ∷ []) (token Less ∷ blank ∷ []) (counts-blank e) (counts-then_blank e (token Less ∷ []) k)))

  pub left-passed : {p : ℕ} → d.tokens ≡ c.tokens → counts_section c most_left ≡ counts_of d → Counting d (string_pieces formal_pieces xs) (Err p) → Counting c (left_pieces xs) (Err p)
  left-passed {p = p} t s h = by xs l h
    where
      by : (ys : List (S.Symbol NameText)) → 0 < length ys → Counting d (string_pieces formal_pieces ys) (Err p) → Counting c (left_pieces ys) (Err p)
      by [] l h = absurd (omega arith)
      by (y ∷ ys) l h =
          counts-section c d left_begins (string_pieces formal_pieces (y ∷ ys) ++ blank ∷ token Less ∷ blank ∷ []) t s
          (counts-passed (string_pieces formal_pieces (y ∷ ys)) (blank ∷ token Less ∷ blank ∷ []) h)

pub right-whole : {result : Result RuleCounts ℕ} (c d e : RuleCounts) (xs : List (S.Symbol NameText)) → 0 < length xs → Counting c (token Greater ∷ []) (Ok d) → e.tokens ≡ d.tokens → counts_section d most_right ≡ counts_of e
    → Counting e (string_pieces formal_pieces xs) result → Counting c (right_pieces xs) result
right-whole c d e [] l h t s k = absurd (omega arith)
right-whole c d e (x ∷ xs) l h t s k =
    let string = string_pieces formal_pieces (x ∷ xs) in
    counts-on (blank ∷ []) (token Greater ∷ blank ∷ note right_begins ∷ string) (counts-blank c)
    (counts-on (token Greater ∷ []) (blank ∷ note right_begins ∷ string) h (counts-on (blank ∷ []) (note right_begins ∷ string) (counts-blank d) (counts-section d e right_begins string t s k)))

pub right-passed : {p : ℕ} (c : RuleCounts) (xs : List (S.Symbol NameText)) → 0 < length xs → Counting c (token Greater ∷ []) (Err p) → Counting c (right_pieces xs) (Err p)
right-passed c [] l h = absurd (omega arith)
right-passed c (x ∷ xs) l h =
    let rest = blank ∷ note right_begins ∷ string_pieces formal_pieces (x ∷ xs) in
    counts-on (blank ∷ []) (token Greater ∷ rest) (counts-blank c) (counts-passed (token Greater ∷ []) rest h)

pub successor-whole : {result : Result RuleCounts ℕ} (c d : RuleCounts) (xs : List (S.Symbol Expr)) → 0 < length xs → d.tokens ≡ c.tokens → counts_section c most_successor_symbols ≡ counts_of d
    → Counting d (string_pieces expr_pieces xs) result → Counting c (successor_pieces xs) result
successor-whole c d [] l t s k = absurd (omega arith)
successor-whole c d (x ∷ xs) l t s k =
    let string = string_pieces expr_pieces (x ∷ xs) in
    counts-on (blank ∷ []) (note successor_begins ∷ string) (counts-blank c) (counts-section c d successor_begins string t s k)
