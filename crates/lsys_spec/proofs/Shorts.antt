-- An axiom in which no limit is passed is short.
use Rattle.std.proofs.Common.{◌≡◌, ℕ, suc, ◌+◌, ◌≤◌, Bool, true, false, ◌||◌, cond, nat_lt, Option, Some, None, List, [], ◌∷◌, ◌++◌, length, refl, ap, ◌∙◌, subst, arith, append_assoc}
use Rattle.std.proofs.lemmas.Bool.Decides.{nat_tests}
use Rattle.lsys_syntax.specs.Limits.{most_params, most_axiom_symbols, most_expression_tokens}
use Rattle.lsys_syntax.specs.Tokens.{Kind, Number, Minus, Comma, LeftParen, RightParen, LeftBracket, RightBracket, Percent}
use Rattle.lsys_syntax.specs.Pieces.{Piece, token, note, a_symbol, a_param}
use Rattle.lsys_syntax.specs.Strings as S
use Rattle.lsys_syntax.specs.Strings.{Signed, unsigned, minus_sign, name_kind, more_pieces, params_pieces, gap, ends_in_name, begins_with_letter, string_pieces, signed_pieces}
use Rattle.lsys_syntax.specs.Checks.{Counts, count_note, count_token, passes, passes_limit, many_place, axiom_counts, axiom_many}
use Rattle.lsys_spec.specs.Edits.{values_of}

-- what follows is not refused, where as many symbols were counted
record Goes (c : Counts) (ps : List Piece) : Type 0 where
  pub counts : Counts
  pub place : ℕ
  pub symbols : counts.symbols ≡ c.symbols
  pub most : counts.most ≡ c.most
  pub none : many_place counts place ps ≡ None

either : (a b : Bool) → (a || b) ≡ false → (a ≡ false) × (b ≡ false)
either true b h = cc
either false b h = (refl, h)

unfound : (t : Bool) (n : ℕ) (o : Option ℕ) → cond t (Some n) o ≡ None → (t ≡ false) × (o ≡ None)
unfound true n o h = cc
unfound false n o h = (refl, h)

at_token : (c : Counts) (n : ℕ) (k : Kind) (ps : List Piece) → many_place c n (token k ∷ ps) ≡ None → (c.symbols ≤ c.most) × Goes c ps
at_token c n k ps h =
    let d : Counts = count_token c in
    let u = unfound (passes_limit d) n (many_place d (n + 1) ps) h in
    let one = either (nat_lt d.most d.symbols || nat_lt most_params d.params || nat_lt most_expression_tokens d.expr_tokens) (passes d.most_tokens d.tokens) u.0 in
    let two = either (nat_lt d.most d.symbols || nat_lt most_params d.params) (nat_lt most_expression_tokens d.expr_tokens) one.0 in
    let three = either (nat_lt d.most d.symbols) (nat_lt most_params d.params) two.0 in
    (few c.most c.symbols three.0, record { counts = d; place = n + 1; symbols = refl; most = refl; none = u.1 })
  where
    few : (m s : ℕ) → nat_lt m s ≡ false → s ≤ m
    few m s e = grind (arith, nat_tests)

then_goes : (c : Counts) (ps qs : List Piece) → (h : Goes c ps) → Goes h.counts qs → Goes c qs
then_goes c ps qs h k = record { counts = k.counts; place = k.place; symbols = k.symbols ∙ h.symbols; most = k.most ∙ h.most; none = k.none }

over_token : (c : Counts) (k : Kind) (ps : List Piece) → Goes c (token k ∷ ps) → Goes c ps
over_token c k ps h = then_goes c (token k ∷ ps) ps h (at_token h.counts h.place k ps h.none).1

over_param : (c : Counts) (ps : List Piece) → Goes c (note a_param ∷ ps) → Goes c ps
over_param c ps h = record { counts = count_note a_param h.counts; place = h.place; symbols = h.symbols; most = h.most; none = h.none }

over_value : (c : Counts) (v : Signed) (ps : List Piece) → Goes c (signed_pieces v ++ ps) → Goes c ps
over_value c (unsigned n) ps h = over_token c (Number n) ps h
over_value c (minus_sign n) ps h = over_token c (Number n) ps (over_token c Minus (token (Number n) ∷ ps) h)

over_more : (c : Counts) (vs : List Signed) (ps : List Piece) → Goes c (more_pieces signed_pieces vs ++ ps) → Goes c ps
over_more c [] ps h = h
over_more c (v ∷ vs) ps h =
    over_more c vs ps (over_value c v (more_pieces signed_pieces vs ++ ps) (subst (Goes c) (append_assoc (signed_pieces v) (more_pieces signed_pieces vs) ps)
    (over_param c ((signed_pieces v ++ more_pieces signed_pieces vs) ++ ps) (over_token c Comma _ h))))

over_params : (c : Counts) (vs : List Signed) (ps : List Piece) → Goes c (params_pieces signed_pieces vs ++ ps) → Goes c ps
over_params c [] ps h = h
over_params c (v ∷ vs) ps h =
    let more = more_pieces signed_pieces vs ++ token RightParen ∷ [] in
    let first : Goes c (signed_pieces v ++ (more ++ ps)) = subst (Goes c) (append_assoc (signed_pieces v) more ps) (over_param c ((signed_pieces v ++ more) ++ ps) (over_token c LeftParen _ h)) in
    let rest : Goes c (more_pieces signed_pieces vs ++ token RightParen ∷ ps) = subst (Goes c) (append_assoc (more_pieces signed_pieces vs) (token RightParen ∷ []) ps) (over_value c v (more ++ ps) first) in
    over_token c RightParen ps (over_more c vs (token RightParen ∷ ps) rest)

over_gap : (c : Counts) (a b : Bool) (ps : List Piece) → Goes c (gap a b ++ ps) → Goes c ps
over_gap c true true ps h = record { counts = h.counts; place = h.place; symbols = h.symbols; most = h.most; none = h.none }
over_gap c true false ps h = h
over_gap c false b ps h = h

-- one symbol more
over_symbol : (c : Counts) (x : S.Symbol Signed) (ps : List Piece) → Goes c (S.symbol_pieces signed_pieces x ++ ps) → (c.symbols + 1 ≤ c.most) × Goes (record c { symbols = c.symbols + 1 }) ps
over_symbol c x ps h = by x h
  where
    told : (k : Kind) (qs : List Piece) → Goes c (note a_symbol ∷ token k ∷ qs) → (c.symbols + 1 ≤ c.most) × Goes (record c { symbols = c.symbols + 1 }) qs
    told k qs h =
        let t = at_token (count_note a_symbol h.counts) h.place k qs h.none in
        let l : h.counts.symbols + 1 ≤ h.counts.most = t.0 in (
          omega (arith, l, h.symbols, h.most),
          record {
            counts = t.1.counts;
            place = t.1.place;
            symbols = t.1.symbols ∙ ap (λ n. n + 1) h.symbols;
            most = t.1.most ∙ h.most;
            none = t.1.none;
          },
        )

    by : (x : S.Symbol Signed) → Goes c (S.symbol_pieces signed_pieces x ++ ps) → (c.symbols + 1 ≤ c.most) × Goes (record c { symbols = c.symbols + 1 }) ps
    by (S.Module n vs) h = let t = told (name_kind n) (params_pieces signed_pieces vs ++ ps) h in (t.0, over_params (record c { symbols = c.symbols + 1 }) vs ps t.1)
    by S.Push h = told LeftBracket ps h
    by S.Pop h = told RightBracket ps h
    by S.Cut h = told Percent ps h

few_symbols : (xs : List (S.Symbol Signed)) (c : Counts) → c.symbols ≤ c.most → Goes c (string_pieces signed_pieces xs) → c.symbols + length xs ≤ c.most
few_symbols [] c l h = omega (arith, l)
few_symbols (x ∷ xs) c l h =
    let t = over_symbol c x (gap (ends_in_name x) (begins_with_letter xs) ++ string_pieces signed_pieces xs) h in
    let more = few_symbols xs (record c { symbols = c.symbols + 1 }) t.0 (over_gap (record c { symbols = c.symbols + 1 }) (ends_in_name x) (begins_with_letter xs) (string_pieces signed_pieces xs) t.1) in
    omega (arith, more)

values_length : (xs : List (S.Symbol Signed)) → length (values_of xs) ≡ length xs
values_length [] = refl
values_length (S.Module n zs ∷ xs) = ap suc (values_length xs)
values_length (S.Push ∷ xs) = ap suc (values_length xs)
values_length (S.Pop ∷ xs) = ap suc (values_length xs)
values_length (S.Cut ∷ xs) = ap suc (values_length xs)

pub values_short : (n : ℕ) (xs : List (S.Symbol Signed)) → axiom_many n xs ≡ None → length (values_of xs) ≤ most_axiom_symbols
values_short n xs h =
    let few = few_symbols xs axiom_counts (omega arith) (record { counts = axiom_counts; place = n; symbols = refl; most = refl; none = h }) in
    omega (arith, few, values_length xs)
