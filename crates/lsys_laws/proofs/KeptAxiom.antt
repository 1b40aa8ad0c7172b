-- What an edit of the axiom leaves: as many symbols, balanced as before, and no limit passed where it is written again.
use Rattle.std.proofs.Common.{◌≡◌, ℕ, zero, suc, Bool, true, false, Option, Some, None, List, [], ◌∷◌, ◌++◌, ◌+◌, ◌≤◌, ◌||◌, nat_lt, map, refl, ap, ◌∙◌, arith, append_assoc, append-nil, if◌then◌else◌, true≢false}
use Rattle.std.proofs.lemmas.Bool.Decides.{nat_tests}
use Rattle.lsys_syntax.specs.Limits.{most_params, most_expression_tokens}
use Rattle.lsys_syntax.specs.Tokens.{Kind, Number, Minus, Comma, LeftParen, RightParen}
use Rattle.lsys_syntax.specs.Pieces.{Piece, blank, token, note, Note, a_symbol, a_param, left_begins, predecessor_begins, right_begins, successor_begins, expr_begins, expr_ends}
use Rattle.lsys_syntax.specs.Strings.{Symbol, Module, Push, Pop, Cut, Signed, unsigned, minus_sign, signed_of, signed_value, signed_pieces, more_pieces, params_pieces, symbol_pieces, string_pieces, gap, ends_in_name, begins_with_letter, name_kind, balanced, EachOf, IsSymbol, IsSigned, IsParam}
use Rattle.lsys_syntax.specs.Checks.{Counts, count_note, count_token, passes, passes_limit, many_place, axiom_counts, axiom_many}
use Rattle.lsys_spec.specs.Systems.{written}
use Rattle.lsys_spec.specs.Edits.{values_of}
use Rattle.lsys_laws.proofs.Unrefused.{place_none}
use Rattle.lsys_spec.proofs.Tests.{neither}
use Rattle.lsys_laws.proofs.Parts.{OfAxiom}
use Rattle.lsys_spec.proofs.Shorts.{values_short}

-- what was counted is no more, and in the same place
record Below (c d : Counts) : Type 0 where
  pub tokens : c.tokens ≤ d.tokens
  pub most_tokens : c.most_tokens ≡ d.most_tokens
  pub expr_tokens : c.expr_tokens ≤ d.expr_tokens
  pub inside : c.inside ≡ d.inside
  pub symbols : c.symbols ≡ d.symbols
  pub most : c.most ≡ d.most
  pub params : c.params ≡ d.params
  pub outside : c.inside ≡ false → c.expr_tokens ≡ 0

below_note : (m : Note) (c d : Counts) → Below c d → Below (count_note m c) (count_note m d)
below_note a_symbol c d h = record { tokens = h.tokens; most_tokens = h.most_tokens; expr_tokens = h.expr_tokens; inside = h.inside; outside = h.outside; symbols = ap (λ n. n + 1) h.symbols; most = h.most; params = refl }
below_note a_param c d h = record { tokens = h.tokens; most_tokens = h.most_tokens; expr_tokens = h.expr_tokens; inside = h.inside; outside = h.outside; symbols = h.symbols; most = h.most; params = ap (λ n. n + 1) h.params }
below_note left_begins c d h = record { tokens = h.tokens; most_tokens = h.most_tokens; expr_tokens = h.expr_tokens; inside = h.inside; outside = h.outside; symbols = refl; most = refl; params = h.params }
below_note predecessor_begins c d h = record { tokens = h.tokens; most_tokens = h.most_tokens; expr_tokens = h.expr_tokens; inside = h.inside; outside = h.outside; symbols = refl; most = refl; params = h.params }
below_note right_begins c d h = record { tokens = h.tokens; most_tokens = h.most_tokens; expr_tokens = h.expr_tokens; inside = h.inside; outside = h.outside; symbols = refl; most = refl; params = h.params }
below_note successor_begins c d h = record { tokens = h.tokens; most_tokens = h.most_tokens; expr_tokens = h.expr_tokens; inside = h.inside; outside = h.outside; symbols = refl; most = refl; params = h.params }
below_note expr_begins c d h = record { tokens = h.tokens; most_tokens = h.most_tokens; expr_tokens = omega arith; inside = refl; outside = λ e. absurd (true≢false e); symbols = h.symbols; most = h.most; params = h.params }
below_note expr_ends c d h = record { tokens = h.tokens; most_tokens = h.most_tokens; expr_tokens = omega arith; inside = refl; outside = λ e. refl; symbols = h.symbols; most = h.most; params = h.params }

counted : (a b : Bool) (m n : ℕ) → a ≡ b → m ≤ n → (if a then m + 1 else 0) ≤ (if b then n + 1 else 0)
counted true true m n e h = omega (arith, h)
counted false false m n e h = omega arith
counted true false m n e h = cc
counted false true m n e h = cc

zero_outside : (a : Bool) (m : ℕ) → a ≡ false → (if a then m + 1 else 0) ≡ 0
zero_outside false m e = refl
zero_outside true m e = cc

below_token : (c d : Counts) → Below c d → Below (count_token c) (count_token d)
below_token c d h = record {
  tokens = omega (arith, h.tokens);
  most_tokens = h.most_tokens;
  expr_tokens = counted c.inside d.inside c.expr_tokens d.expr_tokens h.inside h.expr_tokens;
  inside = h.inside;
  symbols = h.symbols;
  most = h.most;
  params = h.params;
  outside = zero_outside c.inside c.expr_tokens;
}

less_passes : (most m n : ℕ) → m ≤ n → nat_lt most n ≡ false → nat_lt most m ≡ false
less_passes most m n h e = grind (arith, nat_tests)

fewer_pass : (most : Option ℕ) (m n : ℕ) → m ≤ n → passes most n ≡ false → passes most m ≡ false
fewer_pass None m n h e = refl
fewer_pass (Some most) m n h e = less_passes most m n h e

below_passes : (c d : Counts) → Below c d → passes_limit d ≡ false → passes_limit c ≡ false
below_passes c d h e =
    let f = neither (nat_lt d.most d.symbols || nat_lt most_params d.params || nat_lt most_expression_tokens d.expr_tokens) (passes d.most_tokens d.tokens) e in
    let g = neither (nat_lt d.most d.symbols || nat_lt most_params d.params) (nat_lt most_expression_tokens d.expr_tokens) f.0 in
    let x : nat_lt most_expression_tokens c.expr_tokens ≡ false = less_passes most_expression_tokens c.expr_tokens d.expr_tokens h.expr_tokens g.1 in
    let t : passes d.most_tokens c.tokens ≡ false = fewer_pass d.most_tokens c.tokens d.tokens h.tokens f.1 in
    rw (h.most, h.symbols, h.params, h.most_tokens) (rw (g.0, x, t))

still_below : (a b : Bool) (m n : ℕ) → a ≡ b → (a ≡ false → m ≡ 0) → m ≤ n → m ≤ (if b then n + 1 else 0)
still_below true true m n e f h = omega (arith, h)
still_below false false m n e f h = omega (arith, f refl)
still_below true false m n e f h = cc
still_below false true m n e f h = cc

below_later : (c d : Counts) → Below c d → Below c (count_token d)
below_later c d h = record {
  tokens = omega (arith, h.tokens);
  most_tokens = h.most_tokens;
  expr_tokens = still_below c.inside d.inside c.expr_tokens d.expr_tokens h.inside h.outside h.expr_tokens;
  inside = h.inside;
  symbols = h.symbols;
  most = h.most;
  params = h.params;
  outside = h.outside;
}

-- Where the first pieces pass no limit, the others, which have no more tokens, pass none.
abbrev Light : List Piece → List Piece → Type 0
Light ps qs = (c d : Counts) (m n : ℕ) → Below c d → many_place d n ps ≡ None → many_place c m qs ≡ None

light_cons : (p : Piece) (ps qs : List Piece) → Light ps qs → Light (p ∷ ps) (p ∷ qs)
light_cons blank ps qs f c d m n h e = f c d m n h e
light_cons (note k) ps qs f c d m n h e = f (count_note k c) (count_note k d) m n (below_note k c d h) e
light_cons (token k) ps qs f c d m n h e =
    let g = place_none (passes_limit (count_token d)) n (many_place (count_token d) (n + 1) ps) e in
    let b : Below (count_token c) (count_token d) = below_token c d h in
    rw (below_passes (count_token c) (count_token d) b g.0) (f (count_token c) (count_token d) (m + 1) (n + 1) b g.1)

light_drop : (k : Kind) (ps qs : List Piece) → Light ps qs → Light (token k ∷ ps) qs
light_drop k ps qs f c d m n h e =
    let g = place_none (passes_limit (count_token d)) n (many_place (count_token d) (n + 1) ps) e in
    f c (count_token d) m (n + 1) (below_later c d h) g.1

-- so before whatever is light
record Lighter (ps qs : List Piece) : Type 0 where
  before : (r t : List Piece) → Light r t → Light (ps ++ r) (qs ++ t)

lighter_refl : (ps : List Piece) → Lighter ps ps
lighter_refl [] = record { before = λ r t h. h }
lighter_refl (p ∷ ps) = record { before = λ r t h. light_cons p (ps ++ r) (ps ++ t) ((lighter_refl ps).before r t h) }

lighter_cons : (p : Piece) (ps qs : List Piece) → Lighter ps qs → Lighter (p ∷ ps) (p ∷ qs)
lighter_cons p ps qs f = record { before = λ r t h. light_cons p (ps ++ r) (qs ++ t) (f.before r t h) }

lighter_append : (a b c d : List Piece) → Lighter a b → Lighter c d → Lighter (a ++ c) (b ++ d)
lighter_append a b c d f g = record { before = λ r t h. rw (append_assoc a c r, append_assoc b d t) (f.before (c ++ r) (d ++ t) (g.before r t h)) }

-- a written number, and its value written again
lighter_signed : (x : Signed) → Lighter (signed_pieces x) (signed_pieces (signed_of (signed_value x)))
lighter_signed (unsigned n) = lighter_refl (token (Number n) ∷ [])
lighter_signed (minus_sign zero) = record { before = λ r t h. light_drop Minus (token (Number 0) ∷ r) (token (Number 0) ∷ t) (light_cons (token (Number 0)) r t h) }
lighter_signed (minus_sign (suc n)) = lighter_refl (token Minus ∷ token (Number (suc n)) ∷ [])

lighter_more : (xs : List Signed) → Lighter (more_pieces signed_pieces xs) (more_pieces signed_pieces (map signed_of (map signed_value xs)))
lighter_more [] = lighter_refl []
lighter_more (x ∷ xs) =
    lighter_cons (token Comma) _ _ (lighter_cons (note a_param) _ _
    (lighter_append (signed_pieces x) (signed_pieces (signed_of (signed_value x))) _ _ (lighter_signed x) (lighter_more xs)))

lighter_params : (xs : List Signed) → Lighter (params_pieces signed_pieces xs) (params_pieces signed_pieces (map signed_of (map signed_value xs)))
lighter_params [] = lighter_refl []
lighter_params (x ∷ xs) =
    lighter_cons (token LeftParen) _ _ (lighter_cons (note a_param) _ _
    (lighter_append (signed_pieces x) (signed_pieces (signed_of (signed_value x))) _ _ (lighter_signed x)
    (lighter_append (more_pieces signed_pieces xs) (more_pieces signed_pieces (map signed_of (map signed_value xs))) _ _ (lighter_more xs) (lighter_refl (token RightParen ∷ [])))))

-- blanks weigh nothing
lighter_gap : (a b c d : Bool) → Lighter (gap a b) (gap c d)
lighter_gap true true true true = record { before = λ r t h. h }
lighter_gap true true true false = record { before = λ r t h. h }
lighter_gap true true false d = record { before = λ r t h. h }
lighter_gap true false true true = record { before = λ r t h. h }
lighter_gap true false true false = record { before = λ r t h. h }
lighter_gap true false false d = record { before = λ r t h. h }
lighter_gap false b true true = record { before = λ r t h. h }
lighter_gap false b true false = record { before = λ r t h. h }
lighter_gap false b false d = record { before = λ r t h. h }

lighter_after : (s u : Symbol Signed) (xs ys : List (Symbol Signed))
    → Lighter (symbol_pieces signed_pieces s) (symbol_pieces signed_pieces u)
    → Lighter (string_pieces signed_pieces xs) (string_pieces signed_pieces ys)
    → Lighter (string_pieces signed_pieces (s ∷ xs)) (string_pieces signed_pieces (u ∷ ys))
lighter_after s u xs ys f g =
    lighter_append (symbol_pieces signed_pieces s) (symbol_pieces signed_pieces u) _ _ f
    (lighter_append (gap (ends_in_name s) (begins_with_letter xs)) (gap (ends_in_name u) (begins_with_letter ys)) _ _
    (lighter_gap (ends_in_name s) (begins_with_letter xs) (ends_in_name u) (begins_with_letter ys)) g)

lighter_string : (xs : List (Symbol Signed)) → Lighter (string_pieces signed_pieces xs) (string_pieces signed_pieces (written (values_of xs)))
lighter_string [] = lighter_refl []
lighter_string (Module n zs ∷ xs) =
    lighter_after (Module n zs) (Module n (map signed_of (map signed_value zs))) xs (written (values_of xs))
    (lighter_cons (note a_symbol) _ _ (lighter_cons (token (name_kind n)) _ _ (lighter_params zs))) (lighter_string xs)
lighter_string (Push ∷ xs) = lighter_after Push Push xs (written (values_of xs)) (lighter_refl _) (lighter_string xs)
lighter_string (Pop ∷ xs) = lighter_after Pop Pop xs (written (values_of xs)) (lighter_refl _) (lighter_string xs)
lighter_string (Cut ∷ xs) = lighter_after Cut Cut xs (written (values_of xs)) (lighter_refl _) (lighter_string xs)

light_nil : Light [] []
light_nil c d m n h e = refl

-- at a rule's or an axiom's first token nothing was counted
start : (c : Counts) → c.expr_tokens ≡ 0 → Below c c
start c e = record { tokens = omega arith; most_tokens = refl; expr_tokens = omega arith; inside = refl; symbols = refl; most = refl; params = refl; outside = λ f. e }

-- whether a limit is passed depends on no place
pub many_anywhere : (c : Counts) (m n : ℕ) (ps : List Piece) → c.expr_tokens ≡ 0 → many_place c n ps ≡ None → many_place c m ps ≡ None
many_anywhere c m n ps e h = rw append-nil at ((lighter_refl ps).before [] [] light_nil c c m n (start c e) (rw append-nil h))

axiom_again : (xs : List (Symbol Signed)) → axiom_many 1 xs ≡ None → axiom_many 0 (written (values_of xs)) ≡ None
axiom_again xs h = rw append-nil at ((lighter_string xs).before [] [] light_nil axiom_counts axiom_counts 0 1 (start axiom_counts refl) (rw append-nil h))

-- the other two

value_param : (x : Signed) → IsSigned x → IsParam (signed_value x)
value_param (unsigned n) h = h
value_param (minus_sign zero) h = grind arith
value_param (minus_sign (suc n)) h = h

values_params : (xs : List Signed) → EachOf IsSigned xs → EachOf IsParam (map signed_value xs)
values_params [] h = tt
values_params (x ∷ xs) h = (value_param x h.0, values_params xs h.1)

values_symbols : (xs : List (Symbol Signed)) → EachOf (IsSymbol IsSigned) xs → EachOf (IsSymbol IsParam) (values_of xs)
values_symbols [] h = tt
values_symbols (Module n zs ∷ xs) h = ((h.0.0, values_params zs h.0.1), values_symbols xs h.1)
values_symbols (Push ∷ xs) h = (tt, values_symbols xs h.1)
values_symbols (Pop ∷ xs) h = (tt, values_symbols xs h.1)
values_symbols (Cut ∷ xs) h = (tt, values_symbols xs h.1)

values_balanced : (k : ℕ) (xs : List (Symbol Signed)) → balanced k (values_of xs) ≡ balanced k xs
values_balanced k [] = refl
values_balanced k (Module n zs ∷ xs) = values_balanced k xs
values_balanced k (Push ∷ xs) = values_balanced (suc k) xs
values_balanced zero (Pop ∷ xs) = refl
values_balanced (suc k) (Pop ∷ xs) = values_balanced k xs
values_balanced k (Cut ∷ xs) = values_balanced k xs

pub axiom_kept : (xs : List (Symbol Signed)) → EachOf (IsSymbol IsSigned) xs → balanced 0 xs ≡ true → axiom_many 1 xs ≡ None → OfAxiom (values_of xs)
axiom_kept xs h b e = record { symbols = values_symbols xs h; balance = values_balanced 0 xs ∙ b; short = axiom_again xs e; few = values_short 1 xs e }
