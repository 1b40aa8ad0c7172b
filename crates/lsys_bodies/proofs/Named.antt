-- Where no name of a rule's expressions is unknown, each of its expressions names formals alone; and such a rule can be built.
use Rattle.std.proofs.Common.{◌≡◌, ℕ, ◌+◌, Bool, true, false, ◌&&◌, ◌||◌, Option, Some, None, List, [], ◌∷◌, ◌++◌, map, cond, refl, ap, sym, ◌∙◌, append_assoc}
use Rattle.std.specs.List.{list_any}
use Rattle.lsys_syntax.specs.Tokens.{NameText, Kind, Colon, At, Less, Arrow, RightParen}
use Rattle.lsys_syntax.specs.Pieces.{Piece, blank, token, note, expr_ends}
use Rattle.lsys_syntax.specs.Strings.{Symbol, Module, Push, Pop, Cut, more_pieces, params_pieces, symbol_pieces, ends_in_name, begins_with_letter, gap, string_pieces}
use Rattle.lsys_syntax.specs.Expressions.{Expr, expr_kinds, expr_pieces}
use Rattle.lsys_syntax.specs.Rules.{Rule, IsRule, formal_pieces, option_pieces, left_pieces, predecessor_pieces, right_pieces, successor_pieces, rule_pieces}
use Rattle.lsys_syntax.specs.Checks.{rule_formals, inside_after, is_unknown, unknown_place, rule_unknown, rule_many}
use Rattle.lsys_bodies.specs.Building.{IsKnown, AreKnown, OptionIsKnown, StringIsKnown, CanBuild}
use Rattle.lsys_syntax.proofs.Wide.{is-small}

-- an unknown name is among the pieces
abbrev unknown : List NameText → Bool → List Piece → Bool
unknown fs b [] = false
unknown fs b (blank ∷ ps) = unknown fs b ps
unknown fs b (note m ∷ ps) = unknown fs (inside_after m b) ps
unknown fs b (token k ∷ ps) = (b && is_unknown fs k) || unknown fs b ps

unfound : (t : Bool) (n : ℕ) (o : Option ℕ) → cond t (Some n) o ≡ None → (t ≡ false) × (o ≡ None)
unfound true n o h = cc
unfound false n o h = (refl, h)

both : (a b : Bool) → (a || b) ≡ false → (a ≡ false) × (b ≡ false)
both true b h = cc
both false b h = (refl, h)

neither : (a b : Bool) → a ≡ false → b ≡ false → (a || b) ≡ false
neither true b h i = cc
neither false b h i = i

not-unknown : (fs : List NameText) (b : Bool) (n : ℕ) (ps : List Piece) → unknown_place fs b n ps ≡ None → unknown fs b ps ≡ false
not-unknown fs b n [] h = refl
not-unknown fs b n (blank ∷ ps) h = not-unknown fs b n ps h
not-unknown fs b n (note m ∷ ps) h = not-unknown fs (inside_after m b) n ps h
not-unknown fs b n (token k ∷ ps) h =
    let u = unfound (b && is_unknown fs k) n (unknown_place fs b (n + 1) ps) h in
    neither (b && is_unknown fs k) (unknown fs b ps) u.0 (not-unknown fs b (n + 1) ps u.1)

module _ (fs : List NameText) where
  known-kinds : (ks : List Kind) (ps : List Piece) → unknown fs true (map token ks ++ ps) ≡ false → (list_any (is_unknown fs) ks ≡ false) × (unknown fs true ps ≡ false)
  known-kinds [] ps h = (refl, h)
  known-kinds (k ∷ ks) ps h =
      let t = both (is_unknown fs k) (unknown fs true (map token ks ++ ps)) h in
      let rest = known-kinds ks ps t.1 in
      (neither (is_unknown fs k) (list_any (is_unknown fs) ks) t.0 rest.0, rest.1)

  -- an expression, and what stands after it
  known-expr : (e : Expr) (ps : List Piece) → unknown fs false (expr_pieces e ++ ps) ≡ false → IsKnown fs e × (unknown fs false ps ≡ false)
  known-expr e ps h = known-kinds (expr_kinds e) (note expr_ends ∷ ps) (sym (ap (unknown fs true) (append_assoc (map token (expr_kinds e)) (note expr_ends ∷ []) ps)) ∙ h)

  known-more : (es : List Expr) (ps : List Piece) → unknown fs false (more_pieces expr_pieces es ++ ps) ≡ false → AreKnown fs es × (unknown fs false ps ≡ false)
  known-more [] ps h = (tt, h)
  known-more (e ∷ es) ps h =
      let one = known-expr e (more_pieces expr_pieces es ++ ps) (sym (ap (unknown fs false) (append_assoc (expr_pieces e) (more_pieces expr_pieces es) ps)) ∙ h) in
      let rest = known-more es ps one.1 in
      ((one.0, rest.0), rest.1)

  known-params : (es : List Expr) (ps : List Piece) → unknown fs false (params_pieces expr_pieces es ++ ps) ≡ false → AreKnown fs es × (unknown fs false ps ≡ false)
  known-params [] ps h = (tt, h)
  known-params (e ∷ es) ps h =
      let close = token RightParen ∷ [] in
      let parts = append_assoc (expr_pieces e) (more_pieces expr_pieces es ++ close) ps ∙ ap (λ qs. expr_pieces e ++ qs) (append_assoc (more_pieces expr_pieces es) close ps) in
      let one = known-expr e (more_pieces expr_pieces es ++ token RightParen ∷ ps) (sym (ap (unknown fs false) parts) ∙ h) in
      let rest = known-more es (token RightParen ∷ ps) one.1 in
      ((one.0, rest.0), rest.1)

  over-gap : (a b : Bool) (ps : List Piece) → unknown fs false (gap a b ++ ps) ≡ unknown fs false ps
  over-gap true true ps = refl
  over-gap true false ps = refl
  over-gap false true ps = refl
  over-gap false false ps = refl

  known-string : (xs : List (Symbol Expr)) → unknown fs false (string_pieces expr_pieces xs) ≡ false → StringIsKnown fs xs
  known-string [] h = tt
  known-string (Module n es ∷ xs) h =
      let one = known-params es (gap (ends_in_name (Module n es)) (begins_with_letter xs) ++ string_pieces expr_pieces xs) h in
      (one.0, known-string xs (sym (over-gap (ends_in_name (Module n es)) (begins_with_letter xs) (string_pieces expr_pieces xs)) ∙ one.1))
  known-string (Push ∷ xs) h = (tt, known-string xs (sym (over-gap false (begins_with_letter xs) (string_pieces expr_pieces xs)) ∙ h))
  known-string (Pop ∷ xs) h = (tt, known-string xs (sym (over-gap false (begins_with_letter xs) (string_pieces expr_pieces xs)) ∙ h))
  known-string (Cut ∷ xs) h = (tt, known-string xs (sym (over-gap false (begins_with_letter xs) (string_pieces expr_pieces xs)) ∙ h))

  known-successor : (xs : List (Symbol Expr)) → unknown fs false (successor_pieces xs) ≡ false → StringIsKnown fs xs
  known-successor [] h = tt
  known-successor (x ∷ xs) h = known-string (x ∷ xs) h

  known-option : (k : Kind) (o : Option Expr) (ps : List Piece) → unknown fs false (option_pieces k o ++ ps) ≡ false → OptionIsKnown fs o × (unknown fs false ps ≡ false)
  known-option k None ps h = (tt, h)
  known-option k (Some e) ps h = known-expr e ps h

  -- patterns name nothing in an expression
  past-more : (gs : List NameText) (ps : List Piece) → unknown fs false (more_pieces formal_pieces gs ++ ps) ≡ unknown fs false ps
  past-more [] ps = refl
  past-more (g ∷ gs) ps = past-more gs ps

  past-params : (gs : List NameText) (ps : List Piece) → unknown fs false (params_pieces formal_pieces gs ++ ps) ≡ unknown fs false ps
  past-params [] ps = refl
  past-params (g ∷ gs) ps = ap (unknown fs false) (append_assoc (more_pieces formal_pieces gs) (token RightParen ∷ []) ps) ∙ past-more gs (token RightParen ∷ ps)

  past-symbol : (x : Symbol NameText) (ps : List Piece) → unknown fs false (symbol_pieces formal_pieces x ++ ps) ≡ unknown fs false ps
  past-symbol (Module n gs) ps = past-params gs ps
  past-symbol Push ps = refl
  past-symbol Pop ps = refl
  past-symbol Cut ps = refl

  past-string : (xs : List (Symbol NameText)) (ps : List Piece) → unknown fs false (string_pieces formal_pieces xs ++ ps) ≡ unknown fs false ps
  past-string [] ps = refl
  past-string (x ∷ xs) ps =
      let between = gap (ends_in_name x) (begins_with_letter xs) in
      ap (unknown fs false) (append_assoc (symbol_pieces formal_pieces x) (between ++ string_pieces formal_pieces xs) ps ∙ ap (λ qs. symbol_pieces formal_pieces x ++ qs) (append_assoc between (string_pieces formal_pieces xs) ps))
      ∙ past-symbol x (between ++ (string_pieces formal_pieces xs ++ ps)) ∙ over-gap (ends_in_name x) (begins_with_letter xs) (string_pieces formal_pieces xs ++ ps) ∙ past-string xs ps

  past-left : (xs : List (Symbol NameText)) (ps : List Piece) → unknown fs false (left_pieces xs ++ ps) ≡ unknown fs false ps
  past-left [] ps = refl
  past-left (x ∷ xs) ps =
      ap (unknown fs false) (append_assoc (string_pieces formal_pieces (x ∷ xs)) (blank ∷ token Less ∷ blank ∷ []) ps) ∙ past-string (x ∷ xs) (blank ∷ token Less ∷ blank ∷ ps)

  past-right : (xs : List (Symbol NameText)) (ps : List Piece) → unknown fs false (right_pieces xs ++ ps) ≡ unknown fs false ps
  past-right [] ps = refl
  past-right (x ∷ xs) ps = past-string (x ∷ xs) ps

-- A rule of the language none of whose names is unknown, and which passes no limit, can be built.
pub can-build : (n m : ℕ) (r : Rule) → IsRule r → rule_unknown n r ≡ None → rule_many m r ≡ None → CanBuild r
can-build n m r sentence u many =
    let fs = rule_formals r in
    let tail = blank ∷ token Arrow ∷ successor_pieces r.successor in
    let body = option_pieces Colon r.condition ++ (option_pieces At r.weight ++ tail) in
    let own = Module r.name r.formals in
    let head : unknown fs false (rule_pieces r) ≡ unknown fs false body =
    past-left fs r.left (predecessor_pieces r.name r.formals ++ (right_pieces r.right ++ body)) ∙ past-symbol fs own (right_pieces r.right ++ body) ∙ past-right fs r.right body in
    let condition = known-option fs Colon r.condition (option_pieces At r.weight ++ tail) (sym head ∙ not-unknown fs false n (rule_pieces r) u) in
    let weight = known-option fs At r.weight tail condition.1 in
    record {
      sentence = sentence;
      condition = condition.0;
      weight = weight.0;
      successor = known-successor fs r.successor weight.1;
      small = is-small m r many;
    }
