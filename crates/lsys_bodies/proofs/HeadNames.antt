-- The formals of a whole rule; after its contexts and its predecessor stand none.
use Rattle.std.proofs.Common.{◌≡◌, ℕ, ◌+◌, Bool, true, false, Option, Some, None, List, [], ◌∷◌, ◌++◌, length, map, refl, ap, sym, ◌∙◌, append_assoc, arith}
use Rattle.lsys_syntax.specs.Tokens.{NameText, Kind, Colon, At, Arrow, RightParen}
use Rattle.lsys_syntax.specs.Pieces.{Piece, blank, token, note, a_symbol, expr_ends, predecessor_begins, kinds_of}
use Rattle.lsys_syntax.specs.Strings as S
use Rattle.lsys_syntax.specs.Strings.{more_pieces, params_pieces, symbol_pieces, string_pieces, gap, ends_in_name, begins_with_letter, name_kind}
use Rattle.lsys_syntax.specs.Expressions.{Expr, expr_kinds, expr_pieces}
use Rattle.lsys_syntax.specs.Rules.{formal_pieces, left_pieces, predecessor_pieces, right_pieces, option_pieces, successor_pieces, rule_pieces}
use Rattle.lsys_syntax.specs.Checks.{repeated_place}
use Rattle.lsys_text.specs.Tokens.{name_of}
use Rattle.lsys_module.specs.Views.{module_name}
use Rattle.lsys_reading.specs.Heads.{patterns_of, formals_of}
use Rattle.lsys_reading.specs.Spans.{option_at}
use Rattle.lsys_reading.specs.Images.{images_at}
use Rattle.lsys_reading.specs.RuleLines.{rule_at}
use Rattle.lsys_reading.specs.declared.rule.RuleLine.{RuleLine}
use Rattle.lsys_bodies.specs.Formals.{Numbered, first_some, Adds, AreFormalNames, formals_in, formals_at, head_pieces, rest_pieces}
use Rattle.lsys_bodies.specs.declared.formals.FormalNames.{FormalNames}
use Rattle.lsys_bodies.proofs.Adding.{count-append, adds-trans, adds-note}

-- no formal stands here that stands earlier, whatever stands before
abbrev pub IsQuiet : Bool → List Piece → Type 0
IsQuiet due ps = (seen : List NameText) (n : ℕ) → repeated_place seen due n ps ≡ None

quiet-token : (k : Kind) (ps : List Piece) → IsQuiet false ps → IsQuiet false (token k ∷ ps)
quiet-token k ps h seen n = h (seen ++ []) (n + 1)

quiet-kinds : (ks : List Kind) (ps : List Piece) → IsQuiet false ps → IsQuiet false (map token ks ++ ps)
quiet-kinds [] ps h = h
quiet-kinds (k ∷ ks) ps h = quiet-token k (map token ks ++ ps) (quiet-kinds ks ps h)

-- an expression, also as a parameter
quiet-expr : (due : Bool) (e : Expr) (ps : List Piece) → IsQuiet false ps → IsQuiet due (expr_pieces e ++ ps)
quiet-expr due e ps h seen n =
    ap (repeated_place seen false n) (append_assoc (map token (expr_kinds e)) (note expr_ends ∷ []) ps) ∙ quiet-kinds (expr_kinds e) (note expr_ends ∷ ps) h seen n

quiet-more : (es : List Expr) (ps : List Piece) → IsQuiet false ps → IsQuiet false (more_pieces expr_pieces es ++ ps)
quiet-more [] ps h = h
quiet-more (e ∷ es) ps h = λ seen n.
    ap (repeated_place (seen ++ []) true (n + 1)) (append_assoc (expr_pieces e) (more_pieces expr_pieces es) ps)
    ∙ quiet-expr true e (more_pieces expr_pieces es ++ ps) (quiet-more es ps h) (seen ++ []) (n + 1)

quiet-params : (es : List Expr) (ps : List Piece) → IsQuiet false ps → IsQuiet false (params_pieces expr_pieces es ++ ps)
quiet-params [] ps h = h
quiet-params (e ∷ es) ps h = λ seen n.
    ap (repeated_place (seen ++ []) true (n + 1))
    (append_assoc (expr_pieces e) (more_pieces expr_pieces es ++ token RightParen ∷ []) ps
    ∙ ap (λ qs. expr_pieces e ++ qs) (append_assoc (more_pieces expr_pieces es) (token RightParen ∷ []) ps))
    ∙ quiet-expr true e (more_pieces expr_pieces es ++ token RightParen ∷ ps) (quiet-more es (token RightParen ∷ ps) (quiet-token RightParen ps h)) (seen ++ []) (n + 1)

quiet-gap : (a b : Bool) (ps : List Piece) → IsQuiet false ps → IsQuiet false (gap a b ++ ps)
quiet-gap true true ps h = h
quiet-gap true false ps h = h
quiet-gap false true ps h = h
quiet-gap false false ps h = h

quiet-string : (xs : List (S.Symbol Expr)) → IsQuiet false (string_pieces expr_pieces xs)
quiet-string [] = λ seen n. refl
quiet-string (S.Module m es ∷ xs) =
    let after = gap (ends_in_name (S.Module m es)) (begins_with_letter xs) ++ string_pieces expr_pieces xs in
    quiet-token (name_kind m) (params_pieces expr_pieces es ++ after)
    (quiet-params es after (quiet-gap (ends_in_name (S.Module m es)) (begins_with_letter xs) (string_pieces expr_pieces xs) (quiet-string xs)))
quiet-string (S.Push ∷ xs) = λ seen n. quiet-gap false (begins_with_letter xs) (string_pieces expr_pieces xs) (quiet-string xs) (seen ++ []) (n + 1)
quiet-string (S.Pop ∷ xs) = λ seen n. quiet-gap false (begins_with_letter xs) (string_pieces expr_pieces xs) (quiet-string xs) (seen ++ []) (n + 1)
quiet-string (S.Cut ∷ xs) = λ seen n. quiet-gap false (begins_with_letter xs) (string_pieces expr_pieces xs) (quiet-string xs) (seen ++ []) (n + 1)

quiet-successor : (xs : List (S.Symbol Expr)) → IsQuiet false (successor_pieces xs)
quiet-successor [] = λ seen n. refl
quiet-successor (x ∷ xs) = quiet-string (x ∷ xs)

quiet-option : (k : Kind) (o : Option Expr) (ps : List Piece) → IsQuiet false ps → IsQuiet false (option_pieces k o ++ ps)
quiet-option k None ps h = h
quiet-option k (Some e) ps h = quiet-token k (blank ∷ (expr_pieces e ++ ps)) (quiet-expr false e ps h)

pub quiet-rest : (ks : List Kind) (r : RuleLine) → IsQuiet false (rest_pieces ks r)
quiet-rest ks r =
    let weight = option_pieces At (option_at ks r.weight) in
    let after = blank ∷ token Arrow ∷ successor_pieces (images_at ks r.successor.items) in
    quiet-option Colon (option_at ks r.condition) (weight ++ after)
    (quiet-option At (option_at ks r.weight) after (quiet-token Arrow (successor_pieces (images_at ks r.successor.items)) (quiet-successor (images_at ks r.successor.items))))

pub head-rest : (ks : List Kind) (r : RuleLine) → rule_pieces (rule_at ks r) ≡ head_pieces r ++ rest_pieces ks r
head-rest ks r =
    let left = left_pieces (patterns_of r.left.items) in
    let predecessor = predecessor_pieces (module_name r.predecessor.name) (formals_of r.predecessor) in
    let right = right_pieces (patterns_of r.right.items) in
    sym (append_assoc left (predecessor ++ right) (rest_pieces ks r) ∙ ap (λ qs. left ++ qs) (append_assoc predecessor right (rest_pieces ks r)))

-- how many tokens the parts have
pub head-count : (r : RuleLine) → length (kinds_of (head_pieces r)) ≡ length (kinds_of (left_pieces (patterns_of r.left.items)))
    + (1 + length (kinds_of (params_pieces formal_pieces (formals_of r.predecessor))) + length (kinds_of (right_pieces (patterns_of r.right.items))))
head-count r =
    let left = left_pieces (patterns_of r.left.items) in
    let params = params_pieces formal_pieces (formals_of r.predecessor) in
    let right = right_pieces (patterns_of r.right.items) in
    omega (arith, count-append left (predecessor_pieces (module_name r.predecessor.name) (formals_of r.predecessor) ++ right), count-append params right)

first-none : (o : Option ℕ) → first_some o None ≡ o
first-none None = refl
first-none (Some n) = refl

-- the formals of each part, one after the other
pub formal-names : (from : ℕ) (r : RuleLine) (a b c d : FormalNames) → a.numbers.keys ≡ [] → a.repeated ≡ None → a.end ≡ from
    → Adds a (formals_in r.left.items) (left_pieces (patterns_of r.left.items)) b
    → Adds b r.predecessor.formals.items (note a_symbol ∷ token (name_kind (module_name r.predecessor.name)) ∷ params_pieces formal_pieces (formals_of r.predecessor)) c
    → Adds c (formals_in r.right.items) (right_pieces (patterns_of r.right.items)) d
    → AreFormalNames from r d
formal-names from r a b c d empty none place h i j =
    let left = left_pieces (patterns_of r.left.items) in
    let predecessor = predecessor_pieces (module_name r.predecessor.name) (formals_of r.predecessor) in
    let right = right_pieces (patterns_of r.right.items) in
    let middle : Adds b r.predecessor.formals.items predecessor c =
    adds-trans [] r.predecessor.formals.items (note predecessor_begins ∷ []) (note a_symbol ∷ token (name_kind (module_name r.predecessor.name)) ∷ params_pieces formal_pieces (formals_of r.predecessor)) (adds-note predecessor_begins refl) i in
    let all : Adds a (formals_at r) (head_pieces r) d =
    adds-trans (formals_in r.left.items) (r.predecessor.formals.items ++ formals_in r.right.items) left (predecessor ++ right) h
    (adds-trans r.predecessor.formals.items (formals_in r.right.items) predecessor right middle j) in
    let before : Numbered [] a.numbers = record { known = λ x form. rw empty refl } in
    record {
      numbered = all.kept [] before;
      repeated = λ ks.
          sym (ap (repeated_place [] false from) (head-rest ks r)
          ∙ ap (λ n. repeated_place [] false n (head_pieces r ++ rest_pieces ks r)) (sym place)
          ∙ ap (λ o. first_some o (repeated_place [] false a.end (head_pieces r ++ rest_pieces ks r))) (sym none)
          ∙ all.same [] before (rest_pieces ks r)
          ∙ ap (first_some d.repeated) (quiet-rest ks r (map name_of (formals_at r)) d.end)
          ∙ first-none d.repeated);
      place = all.place ∙ ap (λ n. n + length (kinds_of (head_pieces r))) place;
    }
