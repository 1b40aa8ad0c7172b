-- Where no limit is passed at a token of a rule, its contexts, predecessor and successor are short enough.
use Rattle.std.proofs.Common.{◌≡◌, ℕ, ◌+◌, ◌≤◌, Bool, true, false, ◌||◌, Option, Some, None, List, [], ◌∷◌, ◌++◌, length, map, nat_lt, cond, refl, ap, sym, subst, ◌∙◌, append_assoc, append-nil, arith}
use Rattle.std.proofs.lemmas.Bool.Decides.{nat_tests}
use Rattle.lsys_syntax.specs.Limits.{most_params, most_left, most_right, most_successor_symbols, most_expression_tokens}
use Rattle.lsys_syntax.specs.Tokens.{NameText, Kind, Name, Colon, At, Less, Greater, Arrow, Comma, LeftParen, RightParen, LeftBracket, RightBracket, Percent}
use Rattle.lsys_syntax.specs.Pieces.{Piece, blank, token, note, a_symbol, a_param, left_begins, predecessor_begins, right_begins, successor_begins, expr_begins, expr_ends}
use Rattle.lsys_syntax.specs.Strings.{Symbol, Module, Push, Pop, Cut, name_kind, more_pieces, params_pieces, symbol_pieces, ends_in_name, begins_with_letter, gap, string_pieces}
use Rattle.lsys_syntax.specs.Expressions.{Expr, expr_kinds, expr_pieces}
use Rattle.lsys_syntax.specs.Rules.{Rule, formal_pieces, option_pieces, left_pieces, predecessor_pieces, right_pieces, successor_pieces, rule_pieces}
use Rattle.lsys_syntax.specs.Checks.{Counts, count_note, count_token, passes, passes_limit, many_place, rule_counts, rule_many}
use Rattle.lsys_syntax.specs.Smalls.{HaveFewParams, IsSmall}

-- of s symbols where m may be, and p parameters: too many at some token
abbrev wide : ℕ → ℕ → ℕ → List Piece → Bool
wide s m p [] = false
wide s m p (blank ∷ ps) = wide s m p ps
wide s m p (note a_symbol ∷ ps) = wide (s + 1) m 0 ps
wide s m p (note a_param ∷ ps) = wide s m (p + 1) ps
wide s m p (note left_begins ∷ ps) = wide 0 most_left p ps
wide s m p (note predecessor_begins ∷ ps) = wide 0 1 p ps
wide s m p (note right_begins ∷ ps) = wide 0 most_right p ps
wide s m p (note successor_begins ∷ ps) = wide 0 most_successor_symbols p ps
wide s m p (note expr_begins ∷ ps) = wide s m p ps
wide s m p (note expr_ends ∷ ps) = wide s m p ps
wide s m p (token k ∷ ps) = (nat_lt m s || nat_lt most_params p) || wide s m p ps

both : (a b : Bool) → (a || b) ≡ false → (a ≡ false) × (b ≡ false)
both true b h = cc
both false b h = (refl, h)

neither : (a b : Bool) → a ≡ false → b ≡ false → (a || b) ≡ false
neither true b h i = cc
neither false b h i = i

at-most : (m n : ℕ) → nat_lt m n ≡ false → n ≤ m
at-most m n h = grind (arith, nat_tests)

unfound : (t : Bool) (n : ℕ) (o : Option ℕ) → cond t (Some n) o ≡ None → (t ≡ false) × (o ≡ None)
unfound true n o h = cc
unfound false n o h = (refl, h)

-- no limit is passed, so nothing is too wide
not-wide : (c : Counts) (n : ℕ) (ps : List Piece) → many_place c n ps ≡ None → wide c.symbols c.most c.params ps ≡ false
not-wide c n [] h = refl
not-wide c n (blank ∷ ps) h = not-wide c n ps h
not-wide c n (note a_symbol ∷ ps) h = not-wide (count_note a_symbol c) n ps h
not-wide c n (note a_param ∷ ps) h = not-wide (count_note a_param c) n ps h
not-wide c n (note left_begins ∷ ps) h = not-wide (count_note left_begins c) n ps h
not-wide c n (note predecessor_begins ∷ ps) h = not-wide (count_note predecessor_begins c) n ps h
not-wide c n (note right_begins ∷ ps) h = not-wide (count_note right_begins c) n ps h
not-wide c n (note successor_begins ∷ ps) h = not-wide (count_note successor_begins c) n ps h
not-wide c n (note expr_begins ∷ ps) h = not-wide (count_note expr_begins c) n ps h
not-wide c n (note expr_ends ∷ ps) h = not-wide (count_note expr_ends c) n ps h
not-wide c n (token k ∷ ps) h =
    let d = count_token c in
    let u = unfound (passes_limit d) n (many_place d (n + 1) ps) h in
    let one = both (nat_lt d.most d.symbols || nat_lt most_params d.params || nat_lt most_expression_tokens d.expr_tokens) (passes d.most_tokens d.tokens) u.0 in
    let two = both (nat_lt d.most d.symbols || nat_lt most_params d.params) (nat_lt most_expression_tokens d.expr_tokens) one.0 in
    neither (nat_lt c.most c.symbols || nat_lt most_params c.params) (wide c.symbols c.most c.params ps) two.0 (not-wide d (n + 1) ps u.1)

-- what stands after, whatever the parameters of the last symbol are
abbrev After : ℕ → ℕ → List Piece → Type 0
After s m ps = (p : ℕ) × (wide s m p ps ≡ false)

-- a token
one-token : (k : Kind) (s m p : ℕ) (ps : List Piece) → wide s m p (token k ∷ ps) ≡ false → (s ≤ m) × (p ≤ most_params) × (wide s m p ps ≡ false)
one-token k s m p ps h =
    let one = both (nat_lt m s || nat_lt most_params p) (wide s m p ps) h in
    let two = both (nat_lt m s) (nat_lt most_params p) one.0 in
    (at-most m s two.0, at-most most_params p two.1, one.1)

-- a printer of parameters that changes no count
abbrev Counts-nothing : {P : Type 0} → (P → List Piece) → Type 0
Counts-nothing {P} print = (x : P) (s m p : ℕ) (ps : List Piece) → wide s m p (print x ++ ps) ≡ false → wide s m p ps ≡ false

formal-counts : Counts-nothing formal_pieces
formal-counts x s m p ps h = (one-token (Name x) s m p ps h).2

kinds-count : (ks : List Kind) (s m p : ℕ) (ps : List Piece) → wide s m p (map token ks ++ ps) ≡ false → wide s m p ps ≡ false
kinds-count [] s m p ps h = h
kinds-count (k ∷ ks) s m p ps h = kinds-count ks s m p ps (one-token k s m p (map token ks ++ ps) h).2

expr-counts : Counts-nothing expr_pieces
expr-counts e s m p ps h =
    kinds-count (expr_kinds e) s m p (note expr_ends ∷ ps) (sym (ap (wide s m p) (append_assoc (map token (expr_kinds e)) (note expr_ends ∷ []) ps)) ∙ h)

module _ {P : Type 0} (print : P → List Piece) (quiet : Counts-nothing print) where
  few-more : (xs : List P) (s m p : ℕ) (ps : List Piece) → wide s m p (more_pieces print xs ++ token RightParen ∷ ps) ≡ false → (p + length xs ≤ most_params) × After s m ps
  few-more [] s m p ps h = let t = one-token RightParen s m p ps h in (let i = t.1 in omega (arith, i), (p, t.2))
  few-more (x ∷ xs) s m p ps h =
      let t = one-token Comma s m p (note a_param ∷ ((print x ++ more_pieces print xs) ++ token RightParen ∷ ps)) h in
      let again = quiet x s m (p + 1) (more_pieces print xs ++ token RightParen ∷ ps) (sym (ap (wide s m (p + 1)) (append_assoc (print x) (more_pieces print xs) (token RightParen ∷ ps))) ∙ t.2) in
      let rest = few-more xs s m (p + 1) ps again in
      (let i = rest.0 in omega (arith, i), rest.1)

  few-params : (xs : List P) (s m : ℕ) (ps : List Piece) → wide s m 0 (params_pieces print xs ++ ps) ≡ false → (length xs ≤ most_params) × After s m ps
  few-params [] s m ps h = (omega arith, (0, h))
  few-params (x ∷ xs) s m ps h =
      let t = one-token LeftParen s m 0 (note a_param ∷ ((print x ++ (more_pieces print xs ++ token RightParen ∷ [])) ++ ps)) h in
      let first : wide s m 1 (print x ++ (more_pieces print xs ++ token RightParen ∷ ps)) ≡ false =
      sym (ap (wide s m 1) (append_assoc (print x) (more_pieces print xs ++ token RightParen ∷ []) ps ∙ ap (λ qs. print x ++ qs) (append_assoc (more_pieces print xs) (token RightParen ∷ []) ps))) ∙ t.2 in
      let rest = few-more xs s m 1 ps (quiet x s m 1 (more_pieces print xs ++ token RightParen ∷ ps) first) in
      (let i = rest.0 in omega (arith, i), rest.1)

  over-gap : (a b : Bool) (s m p : ℕ) (ps : List Piece) → wide s m p (gap a b ++ ps) ≡ wide s m p ps
  over-gap true true s m p ps = refl
  over-gap true false s m p ps = refl
  over-gap false true s m p ps = refl
  over-gap false false s m p ps = refl

  -- one symbol
  few-symbol : (x : Symbol P) (s m p : ℕ) (ps : List Piece) → wide s m p (symbol_pieces print x ++ ps) ≡ false → (s + 1 ≤ m) × HaveFewParams (x ∷ []) × After (s + 1) m ps
  few-symbol (Module n xs) s m p ps h =
      let t = one-token (name_kind n) (s + 1) m 0 (params_pieces print xs ++ ps) h in
      let rest = few-params xs (s + 1) m ps t.2 in
      (t.0, (rest.0, tt), rest.1)
  few-symbol Push s m p ps h = let t = one-token LeftBracket (s + 1) m 0 ps h in (t.0, tt, (0, t.2))
  few-symbol Pop s m p ps h = let t = one-token RightBracket (s + 1) m 0 ps h in (t.0, tt, (0, t.2))
  few-symbol Cut s m p ps h = let t = one-token Percent (s + 1) m 0 ps h in (t.0, tt, (0, t.2))

  few-and : (x : Symbol P) (xs : List (Symbol P)) → HaveFewParams (x ∷ []) → HaveFewParams xs → HaveFewParams (x ∷ xs)
  few-and (Module n es) xs h i = (h.0, i)
  few-and Push xs h i = i
  few-and Pop xs h i = i
  few-and Cut xs h i = i

  few-string : (xs : List (Symbol P)) (s m p : ℕ) (ps : List Piece) → s ≤ m → wide s m p (string_pieces print xs ++ ps) ≡ false → (s + length xs ≤ m) × HaveFewParams xs × After (s + length xs) m ps
  few-string [] s m p ps le h = (omega (arith, le), tt, (p, subst (λ k. wide k m p ps ≡ false) (plus-none s) h))
    where
      plus-none : (n : ℕ) → n ≡ n + 0
      plus-none n = omega arith
  few-string (x ∷ xs) s m p ps le h =
      let between = gap (ends_in_name x) (begins_with_letter xs) in
      let parts = append_assoc (symbol_pieces print x) (between ++ string_pieces print xs) ps ∙ ap (λ qs. symbol_pieces print x ++ qs) (append_assoc between (string_pieces print xs) ps) in
      let one = few-symbol x s m p (between ++ (string_pieces print xs ++ ps)) (sym (ap (wide s m p) parts) ∙ h) in
      let q = one.2.0 in
      let rest = few-string xs (s + 1) m q ps one.0 (sym (over-gap (ends_in_name x) (begins_with_letter xs) (s + 1) m q (string_pieces print xs ++ ps)) ∙ one.2.1) in
      let count : s + 1 + length xs ≡ s + length (x ∷ xs) = omega arith in
      (subst (λ k. k ≤ m) count rest.0, few-and x xs one.1 rest.1, subst (λ k. After k m ps) count rest.2)

few-option : (k : Kind) (o : Option Expr) (s m p : ℕ) (ps : List Piece) → wide s m p (option_pieces k o ++ ps) ≡ false → wide s m p ps ≡ false
few-option k None s m p ps h = h
few-option k (Some e) s m p ps h = expr-counts e s m p ps (one-token k s m p (blank ∷ (expr_pieces e ++ ps)) h).2

-- what stands after, whatever was counted
abbrev Later : List Piece → Type 0
Later ps = (s : ℕ) × (m : ℕ) × (p : ℕ) × (wide s m p ps ≡ false)

from-none : (m n : ℕ) → 0 + n ≤ m → n ≤ m
from-none m n h = omega (arith, h)

few-left : (xs : List (Symbol NameText)) (s m p : ℕ) (ps : List Piece) → wide s m p (left_pieces xs ++ ps) ≡ false → (length xs ≤ most_left) × HaveFewParams xs × Later ps
few-left [] s m p ps h = (omega arith, tt, (s, m, p, h))
few-left (x ∷ xs) s m p ps h =
    let string = string_pieces formal_pieces (x ∷ xs) in
    let t = few-string formal_pieces formal-counts (x ∷ xs) 0 most_left p (blank ∷ token Less ∷ blank ∷ ps) (omega arith)
    (sym (ap (wide 0 most_left p) (append_assoc string (blank ∷ token Less ∷ blank ∷ []) ps)) ∙ h) in
    let n = 0 + length (x ∷ xs) in
    (from-none most_left (length (x ∷ xs)) t.0, t.1, (n, most_left, t.2.0, (one-token Less n most_left t.2.0 (blank ∷ ps) t.2.1).2))

few-right : (xs : List (Symbol NameText)) (s m p : ℕ) (ps : List Piece) → wide s m p (right_pieces xs ++ ps) ≡ false → (length xs ≤ most_right) × HaveFewParams xs × Later ps
few-right [] s m p ps h = (omega arith, tt, (s, m, p, h))
few-right (x ∷ xs) s m p ps h =
    let string = string_pieces formal_pieces (x ∷ xs) in
    let g = one-token Greater s m p (blank ∷ note right_begins ∷ (string ++ ps)) h in
    let t = few-string formal_pieces formal-counts (x ∷ xs) 0 most_right p ps (omega arith) g.2 in
    (from-none most_right (length (x ∷ xs)) t.0, t.1, (0 + length (x ∷ xs), most_right, t.2.0, t.2.1))

few-successor : (xs : List (Symbol Expr)) (s m p : ℕ) → wide s m p (successor_pieces xs) ≡ false → (length xs ≤ most_successor_symbols) × HaveFewParams xs
few-successor [] s m p h = (omega arith, tt)
few-successor (x ∷ xs) s m p h =
    let string = string_pieces expr_pieces (x ∷ xs) in
    let t = few-string expr_pieces expr-counts (x ∷ xs) 0 most_successor_symbols p [] (omega arith) (ap (wide 0 most_successor_symbols p) (append-nil string) ∙ h) in
    (from-none most_successor_symbols (length (x ∷ xs)) t.0, t.1)

-- A rule in which no limit is passed is small.
pub is-small : (n : ℕ) (r : Rule) → rule_many n r ≡ None → IsSmall r
is-small n r h =
    let body = option_pieces Colon r.condition ++ (option_pieces At r.weight ++ blank ∷ token Arrow ∷ successor_pieces r.successor) in
    let left = few-left r.left 0 0 0 (predecessor_pieces r.name r.formals ++ (right_pieces r.right ++ body)) (not-wide rule_counts n (rule_pieces r) h) in
    let own = few-symbol formal_pieces formal-counts (Module r.name r.formals) 0 1 left.2.2 (right_pieces r.right ++ body) left.2.3 in
    let right = few-right r.right 1 1 own.2.0 body own.2.1 in
    let tail = blank ∷ token Arrow ∷ successor_pieces r.successor in
    let condition = few-option Colon r.condition right.2.0 right.2.1 right.2.2 (option_pieces At r.weight ++ tail) right.2.3 in
    let weight = few-option At r.weight right.2.0 right.2.1 right.2.2 tail condition in
    let successor = few-successor r.successor right.2.0 right.2.1 right.2.2 (one-token Arrow right.2.0 right.2.1 right.2.2 (successor_pieces r.successor) weight).2 in
    record {
      left = left.0;
      left_params = left.1;
      formals = own.1.0;
      right = right.0;
      right_params = right.1;
      successor = successor.0;
      params = successor.1;
    }
