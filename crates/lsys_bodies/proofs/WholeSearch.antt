-- The first unknown name of a whole rule: none stands before its condition.
use Rattle.std.proofs.Common.{◌≡◌, ℕ, ◌+◌, Bool, true, false, not, ◌&&◌, None, Result, List, [], ◌∷◌, ◌++◌, map, refl, ap, sym, ◌∙◌, append-nil, arith}
use Rattle.lsys_syntax.specs.Tokens.{NameText, Kind, RightParen, Less}
use Rattle.lsys_syntax.specs.Pieces.{Piece, blank, token, note, a_symbol, a_param, left_begins, predecessor_begins, right_begins, successor_begins, expr_begins, expr_ends}
use Rattle.lsys_syntax.specs.Strings as S
use Rattle.lsys_syntax.specs.Strings.{more_pieces, params_pieces, symbol_pieces, string_pieces, gap, ends_in_name, begins_with_letter}
use Rattle.lsys_syntax.specs.Rules.{formal_pieces, left_pieces, predecessor_pieces, right_pieces, rule_pieces}
use Rattle.lsys_syntax.specs.Checks.{inside_after, all_formals, rule_formals, unknown_place, rule_unknown}
use Rattle.lsys_text.specs.Tokens.{name_of}
use Rattle.lsys_module.specs.Views.{module_name}
use Rattle.lsys_reading.specs.Heads.{patterns_of, formals_of}
use Rattle.lsys_reading.specs.RuleLines.{rule_at}
use Rattle.lsys_reading.specs.declared.patterns.PatternSymbol.{PatternSymbol}
use Rattle.lsys_reading.specs.declared.patterns.PatternSymbol.TheVariants as patterns
use Rattle.lsys_reading.specs.declared.rule.RuleLine.{RuleLine}
use Rattle.lsys_bodies.specs.Formals.{AreFormalNames, formals_in, formals_at, head_pieces, rest_pieces}
use Rattle.lsys_bodies.specs.Searching.{count, found_or, Searches}
use Rattle.lsys_bodies.specs.declared.formals.FormalNames.{FormalNames}
use Rattle.lsys_bodies.proofs.Adding.{count-append, names-append}
use Rattle.lsys_bodies.proofs.HeadNames.{head-rest}

-- no expression is among the pieces
abbrev is_plain : List Piece → Bool
is_plain [] = true
is_plain (blank ∷ ps) = is_plain ps
is_plain (token k ∷ ps) = is_plain ps
is_plain (note m ∷ ps) = not (inside_after m false) && is_plain ps

plain-place : (fs : List NameText) (n : ℕ) (ps qs : List Piece) → is_plain ps ≡ true → unknown_place fs false n (ps ++ qs) ≡ unknown_place fs false (n + count ps) qs
plain-place fs n [] qs h = ap (λ m. unknown_place fs false m qs) (omega arith)
plain-place fs n (blank ∷ ps) qs h = plain-place fs n ps qs h
plain-place fs n (token k ∷ ps) qs h = plain-place fs (n + 1) ps qs h ∙ ap (λ m. unknown_place fs false m qs) (omega arith)
plain-place fs n (note a_symbol ∷ ps) qs h = plain-place fs n ps qs h
plain-place fs n (note a_param ∷ ps) qs h = plain-place fs n ps qs h
plain-place fs n (note left_begins ∷ ps) qs h = plain-place fs n ps qs h
plain-place fs n (note predecessor_begins ∷ ps) qs h = plain-place fs n ps qs h
plain-place fs n (note right_begins ∷ ps) qs h = plain-place fs n ps qs h
plain-place fs n (note successor_begins ∷ ps) qs h = plain-place fs n ps qs h
plain-place fs n (note expr_begins ∷ ps) qs h = cc
plain-place fs n (note expr_ends ∷ ps) qs h = plain-place fs n ps qs h

plain-and : (b c d : Bool) → (c ≡ true → d ≡ true) → (b && c) ≡ true → (b && d) ≡ true
plain-and true c d f h = f h
plain-and false c d f h = h

plain-append : (ps qs : List Piece) → is_plain qs ≡ true → is_plain ps ≡ true → is_plain (ps ++ qs) ≡ true
plain-append [] qs k h = k
plain-append (blank ∷ ps) qs k h = plain-append ps qs k h
plain-append (token t ∷ ps) qs k h = plain-append ps qs k h
plain-append (note m ∷ ps) qs k h = plain-and (not (inside_after m false)) (is_plain ps) (is_plain (ps ++ qs)) (plain-append ps qs k) h

plain-more : (fs : List NameText) → is_plain (more_pieces formal_pieces fs) ≡ true
plain-more [] = refl
plain-more (f ∷ fs) = plain-more fs

plain-params : (fs : List NameText) → is_plain (params_pieces formal_pieces fs) ≡ true
plain-params [] = refl
plain-params (f ∷ fs) = plain-append (more_pieces formal_pieces fs) (token RightParen ∷ []) refl (plain-more fs)

plain-symbol : (s : S.Symbol NameText) → is_plain (symbol_pieces formal_pieces s) ≡ true
plain-symbol (S.Module n fs) = plain-params fs
plain-symbol S.Push = refl
plain-symbol S.Pop = refl
plain-symbol S.Cut = refl

plain-gap : (a b : Bool) → is_plain (gap a b) ≡ true
plain-gap true true = refl
plain-gap true false = refl
plain-gap false true = refl
plain-gap false false = refl

plain-string : (xs : List (S.Symbol NameText)) → is_plain (string_pieces formal_pieces xs) ≡ true
plain-string [] = refl
plain-string (s ∷ xs) =
    let between = gap (ends_in_name s) (begins_with_letter xs) in
    plain-append (symbol_pieces formal_pieces s) (between ++ string_pieces formal_pieces xs)
    (plain-append between (string_pieces formal_pieces xs) (plain-string xs) (plain-gap (ends_in_name s) (begins_with_letter xs))) (plain-symbol s)

plain-left : (xs : List (S.Symbol NameText)) → is_plain (left_pieces xs) ≡ true
plain-left [] = refl
plain-left (x ∷ xs) = plain-append (string_pieces formal_pieces (x ∷ xs)) (blank ∷ token Less ∷ blank ∷ []) refl (plain-string (x ∷ xs))

plain-right : (xs : List (S.Symbol NameText)) → is_plain (right_pieces xs) ≡ true
plain-right [] = refl
plain-right (x ∷ xs) = plain-string (x ∷ xs)

plain-head : (r : RuleLine) → is_plain (head_pieces r) ≡ true
plain-head r =
    let predecessor = predecessor_pieces (module_name r.predecessor.name) (formals_of r.predecessor) in
    let right = right_pieces (patterns_of r.right.items) in
    plain-append (left_pieces (patterns_of r.left.items)) (predecessor ++ right)
    (plain-append predecessor right (plain-right (patterns_of r.right.items)) (plain-params (formals_of r.predecessor))) (plain-left (patterns_of r.left.items))

formals-same : (xs : List PatternSymbol) → all_formals (patterns_of xs) ≡ map name_of (formals_in xs)
formals-same [] = refl
formals-same (patterns.Module x ∷ xs) = ap (λ fs. map name_of x.formals.items ++ fs) (formals-same xs) ∙ sym (names-append x.formals.items (formals_in xs))
formals-same (patterns.Push ∷ xs) = formals-same xs
formals-same (patterns.Pop ∷ xs) = formals-same xs

-- the formals of the rule are those of its line
pub rule-formals : (ks : List Kind) (r : RuleLine) → rule_formals (rule_at ks r) ≡ map name_of (formals_at r)
rule-formals ks r =
    ap (λ fs. fs ++ (formals_of r.predecessor ++ all_formals (patterns_of r.right.items))) (formals-same r.left.items)
    ∙ ap (λ fs. map name_of (formals_in r.left.items) ++ (formals_of r.predecessor ++ fs)) (formals-same r.right.items)
    ∙ sym (names-append (formals_in r.left.items) (r.predecessor.formals.items ++ formals_in r.right.items)
    ∙ ap (λ fs. map name_of (formals_in r.left.items) ++ fs) (names-append r.predecessor.formals.items (formals_in r.right.items)))

pub whole-search : (from : ℕ) (ks : List Kind) (r : RuleLine) (x : FormalNames) (result : Result ℕ ℕ) → AreFormalNames from r x → Searches x x.end (rest_pieces ks r) result
    → found_or result (λ m. None) ≡ rule_unknown from (rule_at ks r)
whole-search from ks r x result names h =
    let fs = map name_of (formals_at r) in
    sym (ap (λ gs. unknown_place gs false from (rule_pieces (rule_at ks r))) (rule-formals ks r)
    ∙ ap (unknown_place fs false from) (head-rest ks r)
    ∙ plain-place fs from (head_pieces r) (rest_pieces ks r) (plain-head r)
    ∙ ap (λ n. unknown_place fs false n (rest_pieces ks r)) (sym names.place)
    ∙ ap (unknown_place fs false x.end) (sym (append-nil (rest_pieces ks r)))
    ∙ h.same (formals_at r) names.numbered [])

-- the tokens after the contexts and the predecessor are the rest of the rule's
pub rest-room : (from : ℕ) (ks : List Kind) (r : RuleLine) (x : FormalNames) → AreFormalNames from r x → x.end + count (rest_pieces ks r) ≡ from + count (rule_pieces (rule_at ks r))
rest-room from ks r x names = omega (arith, names.place, ap count (head-rest ks r), count-append (head_pieces r) (rest_pieces ks r))
