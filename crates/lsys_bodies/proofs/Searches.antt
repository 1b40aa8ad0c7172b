-- Searches of pieces after one another.
use Rattle.std.proofs.Common.{◌≡◌, ℕ, zero, suc, ◌+◌, ◌-◌, ◌<◌, ◌≤◌, Bool, true, false, Option, Some, None, Result, Ok, Err, List, [], ◌∷◌, ◌++◌, length, map, get_or, take, drop, cond, refl, ap, sym, subst, ◌∙◌, append_assoc, arith}
use Rattle.std.proofs.lemmas.List.{take-map, drop-map, drop_all}
use Rattle.lsys_syntax.specs.Tokens.{NameText, Kind, Colon, At, Arrow, Comma, LeftParen, RightParen}
use Rattle.lsys_syntax.specs.Pieces.{Piece, Note, blank, token, note, a_symbol, a_param, successor_begins, expr_ends, kinds_of}
use Rattle.lsys_syntax.specs.Strings as S
use Rattle.lsys_syntax.specs.Strings.{more_pieces, symbol_pieces, string_pieces, gap, ends_in_name, begins_with_letter, name_kind}
use Rattle.lsys_syntax.specs.Expressions.{Expr, expr_kinds, expr_pieces}
use Rattle.lsys_syntax.specs.Rules.{option_pieces, successor_pieces}
use Rattle.lsys_syntax.specs.Checks.{is_unknown, inside_after, unknown_place}
use Rattle.lsys_text.specs.Tokens.{kind_of, name_of}
use Rattle.lsys_text.specs.Tokens as text
use Rattle.lsys_text.specs.declared.token_kind.Token.{Token}
use Rattle.lsys_reading.specs.Spans.{IsSpan, AreSpans, expr_at, option_at}
use Rattle.lsys_reading.specs.Images.{ImageIsAt, ImagesAreAt, module_at, image_at, images_at, params_at}
use Rattle.lsys_reading.specs.declared.span.ExprSpan.{ExprSpan}
use Rattle.lsys_module.specs.Views.{module_name}
use Rattle.lsys_reading.specs.declared.rule.RuleLine.{RuleLine}
use Rattle.lsys_reading.specs.declared.images.ImageModule.{ImageModule}
use Rattle.lsys_reading.specs.declared.images.ImageSymbol.{ImageSymbol}
use Rattle.lsys_bodies.specs.Formals.{Numbered, rest_pieces}
use Rattle.lsys_bodies.specs.Searching.{count, Searches}
use Rattle.lsys_bodies.specs.declared.formals.FormalNames.{FormalNames}
use Rattle.lsys_bodies.proofs.Adding.{count-append, drop-item}

-- 1. pieces after one another

module _ {x : FormalNames} where
  pub searches-found : {n : ℕ} {p : ℕ} (ps qs : List Piece) → Searches x n ps (Err p) → Searches x n (ps ++ qs) (Err p)
  searches-found {n = n} ps qs h = record {
    place = tt;
    same = λ fs known rest. ap (unknown_place (map name_of fs) false n) (append_assoc ps qs rest) ∙ h.same fs known (qs ++ rest);
  }

  pub searches-on : {n m : ℕ} {result : Result ℕ ℕ} (ps qs : List Piece) → Searches x n ps (Ok m) → Searches x m qs result → Searches x n (ps ++ qs) result
  searches-on {n = n} {m = m} {result = Ok e} ps qs h k = record {
    place = omega (arith, h.place, k.place, count-append ps qs);
    same = λ fs known rest. ap (unknown_place (map name_of fs) false n) (append_assoc ps qs rest) ∙ h.same fs known (qs ++ rest) ∙ k.same fs known rest;
  }
  searches-on {n = n} {m = m} {result = Err e} ps qs h k = record {
    place = tt;
    same = λ fs known rest. ap (unknown_place (map name_of fs) false n) (append_assoc ps qs rest) ∙ h.same fs known (qs ++ rest) ∙ k.same fs known rest;
  }

  -- pieces without expressions
  pub searches-nothing : (n : ℕ) → Searches x n [] (Ok n)
  searches-nothing n = record { place = omega arith; same = λ fs known qs. refl }

  pub searches-blank : (n : ℕ) → Searches x n (blank ∷ []) (Ok n)
  searches-blank n = record { place = omega arith; same = λ fs known qs. refl }

  pub searches-note : (m : Note) (n : ℕ) → inside_after m false ≡ false → Searches x n (note m ∷ []) (Ok n)
  searches-note m n e = record { place = omega arith; same = λ fs known qs. ap (λ b. unknown_place (map name_of fs) b n qs) e }

  pub searches-token : (k : Kind) (n : ℕ) → Searches x n (token k ∷ []) (Ok (n + 1))
  searches-token k n = record { place = refl; same = λ fs known qs. refl }

  pub searches-gap : (a b : Bool) (n : ℕ) → Searches x n (gap a b) (Ok n)
  searches-gap true true n = searches-blank n
  searches-gap true false n = searches-nothing n
  searches-gap false true n = searches-nothing n
  searches-gap false false n = searches-nothing n

-- 2. one expression

-- tokens of an expression that were searched, of ts up to us
pub record Passes (x : FormalNames) (n : ℕ) (ts : List Token) (m : ℕ) (us : List Token) : Type 0 where
  pub place : m + length us ≡ n + length ts
  pub same : (fs : List (List ℕ)) → Numbered fs x.numbers → (qs : List Piece)
      → unknown_place (map name_of fs) true n (map token (text.kind_row ts) ++ qs) ≡ unknown_place (map name_of fs) true m (map token (text.kind_row us) ++ qs)

module _ {x : FormalNames} {n m : ℕ} (ts us : List Token) (i : ℕ) (t : Token) (l : i < length us) (e : t ≡ get_or us i t) (h : Passes x n ts m (drop i us)) where
  next : Passes x n ts m (t ∷ drop (i + 1) us)
  next = subst (Passes x n ts m) (drop-item us i t l e) h

  pub passes-room : m + 1 ≤ n + length ts
  passes-room = omega (arith, next.place)

  pub passes-more : ((fs : List (List ℕ)) → Numbered fs x.numbers → false ≡ is_unknown (map name_of fs) (kind_of t.kind)) → Passes x n ts (m + 1) (drop (i + 1) us)
  passes-more k = record {
    place = omega (arith, next.place);
    same = λ fs known qs.
        next.same fs known qs
        ∙ ap (λ b. cond b (Some m) (unknown_place (map name_of fs) true (m + 1) (map token (text.kind_row (drop (i + 1) us)) ++ qs))) (sym (k fs known));
  }

  pub passes-found : ((fs : List (List ℕ)) → Numbered fs x.numbers → true ≡ is_unknown (map name_of fs) (kind_of t.kind))
      → (fs : List (List ℕ)) → Numbered fs x.numbers → (qs : List Piece) → unknown_place (map name_of fs) true n (map token (text.kind_row ts) ++ qs) ≡ Some m
  passes-found k fs known qs =
      next.same fs known qs
      ∙ ap (λ b. cond b (Some m) (unknown_place (map name_of fs) true (m + 1) (map token (text.kind_row (drop (i + 1) us)) ++ qs))) (sym (k fs known))

-- the tokens of a span
pub span-tokens : (ts : List Token) (s : ExprSpan) → IsSpan (text.kind_row ts) s → text.kind_row (take (s.to - s.from) (drop s.from ts)) ≡ expr_kinds (expr_at (text.kind_row ts) s)
span-tokens ts s h =
    let kind : Token → Kind = λ t. kind_of t.kind in
    sym (h.kinds ∙ (ap (take (s.to - s.from)) (drop-map kind s.from ts) ∙ take-map kind (s.to - s.from) (drop s.from ts)))

expr-from : (fs : List NameText) (n : ℕ) (e : Expr) (ks : List Kind) (qs : List Piece) → ks ≡ expr_kinds e → unknown_place fs false n (expr_pieces e ++ qs) ≡ unknown_place fs true n (map token ks ++ note expr_ends ∷ qs)
expr-from fs n e ks qs same = ap (unknown_place fs true n) (append_assoc (map token (expr_kinds e)) (note expr_ends ∷ []) qs ∙ ap (λ js. map token js ++ note expr_ends ∷ qs) (sym same))

kinds-tokens : (ks : List Kind) → kinds_of (map token ks) ≡ ks
kinds-tokens [] = refl
kinds-tokens (k ∷ ks) = ap (λ js. k ∷ js) (kinds-tokens ks)

pub expr-count : (e : Expr) → count (expr_pieces e) ≡ length (expr_kinds e)
expr-count e =
    let same : length (kinds_of (map token (expr_kinds e))) ≡ length (expr_kinds e) = ap length (kinds-tokens (expr_kinds e)) in
    omega (arith, same, count-append (map token (expr_kinds e)) (note expr_ends ∷ []))

length-kinds : (ts : List Token) → length (text.kind_row ts) ≡ length ts
length-kinds [] = refl
length-kinds (t ∷ ts) = omega (arith, length-kinds ts)

pub expr-length : (e : Expr) (ts : List Token) → text.kind_row ts ≡ expr_kinds e → length ts ≡ count (expr_pieces e)
expr-length e ts same = sym (length-kinds ts) ∙ ap length same ∙ sym (expr-count e)

pub searches-expr : {x : FormalNames} {n m : ℕ} (e : Expr) (ts : List Token) (i : ℕ) → text.kind_row ts ≡ expr_kinds e → length ts ≤ i → Passes x n ts m (drop i ts) → Searches x n (expr_pieces e) (Ok m)
searches-expr {x = x} {n = n} {m = m} e ts i same l h =
    let all : Passes x n ts m [] = subst (Passes x n ts m) (drop_all i ts l) h in
    record {
      place = omega (arith, all.place, expr-length e ts same);
      same = λ fs known qs. expr-from (map name_of fs) n e (text.kind_row ts) qs same ∙ all.same fs known (note expr_ends ∷ qs);
    }

pub searches-expr_found : {x : FormalNames} {n m : ℕ} (e : Expr) (ts : List Token) → text.kind_row ts ≡ expr_kinds e
    → ((fs : List (List ℕ)) → Numbered fs x.numbers → (qs : List Piece) → unknown_place (map name_of fs) true n (map token (text.kind_row ts) ++ qs) ≡ Some m)
    → Searches x n (expr_pieces e) (Err m)
searches-expr_found {n = n} e ts same h = record {
  place = tt;
  same = λ fs known qs. expr-from (map name_of fs) n e (text.kind_row ts) qs same ∙ h fs known (note expr_ends ∷ qs);
}

-- 3. loops

-- what is left from m on makes a search of it all
pub record SearchGoes (x : FormalNames) (n : ℕ) (ps : List Piece) (m : ℕ) (qs : List Piece) : Type 0 where
  pub place : m + count qs ≡ n + count ps
  pub rest : (result : Result ℕ ℕ) → Searches x m qs result → Searches x n ps result

module _ {x : FormalNames} {n m : ℕ} where
  pub search-more : {o : ℕ} (ps qs rs : List Piece) → SearchGoes x n ps m (qs ++ rs) → Searches x m qs (Ok o) → SearchGoes x n ps o rs
  search-more ps qs rs h k = record {
    place = omega (arith, h.place, k.place, count-append qs rs);
    rest = λ result r. h.rest result (searches-on qs rs k r);
  }

  pub search-found : {p : ℕ} (ps qs rs : List Piece) → SearchGoes x n ps m (qs ++ rs) → Searches x m qs (Err p) → Searches x n ps (Err p)
  search-found ps qs rs h k = h.rest _ (searches-found qs rs k)

  pub search-done : (ps : List Piece) → SearchGoes x n ps m [] → Searches x n ps (Ok m)
  search-done ps h = h.rest _ (searches-nothing m)

-- 4. parameters, and the symbols of a successor

abbrev pub params : List Kind → List ExprSpan → List Piece
params ks ss = more_pieces expr_pieces (params_at ks ss)

abbrev pub pieces : List Kind → List ImageSymbol → List Piece
pieces ks xs = string_pieces expr_pieces (images_at ks xs)

-- a mark, and the expression after it
pub marked : {x : FormalNames} {n : ℕ} {result : Result ℕ ℕ} (k : Kind) (e : Expr) → Searches x (n + 1) (expr_pieces e) result → Searches x n (token k ∷ note a_param ∷ expr_pieces e) result
marked {n = n} k e h = searches-on (token k ∷ []) (note a_param ∷ expr_pieces e) (searches-token k n) (searches-on (note a_param ∷ []) (expr_pieces e) (searches-note a_param (n + 1) refl) h)

module _ {x : FormalNames} {n m : ℕ} (ks : List Kind) (ps : List Piece) (ss : List ExprSpan) (i : ℕ) (s : ExprSpan) (l : i < length ss) (e : s ≡ get_or ss i s) (h : SearchGoes x n ps m (params ks (drop i ss))) where
  next-param : SearchGoes x n ps m ((token Comma ∷ note a_param ∷ expr_pieces (expr_at ks s)) ++ params ks (drop (i + 1) ss))
  next-param = subst (λ us. SearchGoes x n ps m (params ks us)) (drop-item ss i s l e) h

  pub param-room : (all : ℕ) → n + count ps ≤ all → m + 1 + count (expr_pieces (expr_at ks s)) ≤ all
  param-room all room = omega (arith, room, next-param.place, count-append (expr_pieces (expr_at ks s)) (params ks (drop (i + 1) ss)))

  pub param-more : {o : ℕ} → Searches x (m + 1) (expr_pieces (expr_at ks s)) (Ok o) → SearchGoes x n ps o (params ks (drop (i + 1) ss))
  param-more k = search-more ps (token Comma ∷ note a_param ∷ expr_pieces (expr_at ks s)) (params ks (drop (i + 1) ss)) next-param (marked Comma (expr_at ks s) k)

  pub param-found : {p : ℕ} → Searches x (m + 1) (expr_pieces (expr_at ks s)) (Err p) → Searches x n ps (Err p)
  param-found k = search-found ps (token Comma ∷ note a_param ∷ expr_pieces (expr_at ks s)) (params ks (drop (i + 1) ss)) next-param (marked Comma (expr_at ks s) k)

pub params-done : {x : FormalNames} {n m : ℕ} (ks : List Kind) (ps : List Piece) (ss : List ExprSpan) (i : ℕ) → length ss ≤ i → SearchGoes x n ps m (params ks (drop i ss)) → Searches x n ps (Ok m)
params-done {x = x} {n = n} {m = m} ks ps ss i l h = search-done ps (subst (λ us. SearchGoes x n ps m (params ks us)) (drop_all i ss l) h)

module _ {x : FormalNames} {n m : ℕ} (ks : List Kind) (ps : List Piece) (xs : List ImageSymbol) (i : ℕ) (y : ImageSymbol) (l : i < length xs) (e : y ≡ get_or xs i y) (h : SearchGoes x n ps m (pieces ks (drop i xs))) where
  abbrev after : List Piece
  after = gap (ends_in_name (image_at ks y)) (begins_with_letter (images_at ks (drop (i + 1) xs))) ++ pieces ks (drop (i + 1) xs)

  next-image : SearchGoes x n ps m (symbol_pieces expr_pieces (image_at ks y) ++ after)
  next-image = subst (λ us. SearchGoes x n ps m (pieces ks us)) (drop-item xs i y l e) h

  pub image-room : (all : ℕ) → n + count ps ≤ all → m + count (symbol_pieces expr_pieces (image_at ks y)) ≤ all
  image-room all room = omega (arith, room, next-image.place, count-append (symbol_pieces expr_pieces (image_at ks y)) after)

  pub image-more : {o : ℕ} → Searches x m (symbol_pieces expr_pieces (image_at ks y)) (Ok o) → SearchGoes x n ps o (pieces ks (drop (i + 1) xs))
  image-more {o = o} k =
      search-more ps (gap (ends_in_name (image_at ks y)) (begins_with_letter (images_at ks (drop (i + 1) xs)))) (pieces ks (drop (i + 1) xs))
      (search-more ps (symbol_pieces expr_pieces (image_at ks y)) after next-image k)
      (searches-gap (ends_in_name (image_at ks y)) (begins_with_letter (images_at ks (drop (i + 1) xs))) o)

  pub image-found : {p : ℕ} → Searches x m (symbol_pieces expr_pieces (image_at ks y)) (Err p) → Searches x n ps (Err p)
  image-found k = search-found ps (symbol_pieces expr_pieces (image_at ks y)) after next-image k

pub images-done : {x : FormalNames} {n m : ℕ} (ks : List Kind) (ps : List Piece) (xs : List ImageSymbol) (i : ℕ) → length xs ≤ i → SearchGoes x n ps m (pieces ks (drop i xs)) → Searches x n ps (Ok m)
images-done {x = x} {n = n} {m = m} ks ps xs i l h = search-done ps (subst (λ us. SearchGoes x n ps m (pieces ks us)) (drop_all i xs l) h)

-- what stands for items of a list
pub spans-item : (ks : List Kind) (ss : List ExprSpan) (i : ℕ) (s : ExprSpan) → i < length ss → s ≡ get_or ss i s → AreSpans ks ss → IsSpan ks s
spans-item ks [] i s l e h = absurd (omega arith)
spans-item ks (r ∷ ss) zero s l e h = subst (IsSpan ks) (sym e) h.0
spans-item ks (r ∷ ss) (suc i) s l e h = spans-item ks ss i s (omega (arith, l)) e h.1

pub images-item : (ks : List Kind) (xs : List ImageSymbol) (i : ℕ) (y : ImageSymbol) → i < length xs → y ≡ get_or xs i y → ImagesAreAt ks xs → ImageIsAt ks y
images-item ks [] i y l e h = absurd (omega arith)
images-item ks (x ∷ xs) zero y l e h = subst (ImageIsAt ks) (sym e) h.0
images-item ks (x ∷ xs) (suc i) y l e h = images-item ks xs i y (omega (arith, l)) e h.1

pub copied-item : {A : Type 0} (xs : List A) (i : ℕ) (d : A) → i < length xs → get_or xs i d ≡ get_or xs i (get_or xs i d)
copied-item [] i d l = absurd (omega arith)
copied-item (x ∷ xs) zero d l = refl
copied-item (x ∷ xs) (suc i) d l = copied-item xs i d (omega (arith, l))

-- which mark stands before parameters says nothing
opened : {x : FormalNames} {n : ℕ} {result : Result ℕ ℕ} (ps : List Piece) → Searches x n (token Comma ∷ ps) result → Searches x n (token LeftParen ∷ ps) result
opened ps h = record { place = h.place; same = λ fs known qs. h.same fs known qs }

pub module-count : (ks : List Kind) (y : ImageModule) → 0 < length y.params.items → count (symbol_pieces expr_pieces (module_at ks y)) ≡ count (params ks y.params.items) + 2
module-count ks y l = by y.params.items l
  where
    by : (ss : List ExprSpan) → 0 < length ss → count (symbol_pieces expr_pieces (S.Module (module_name y.name) (params_at ks ss))) ≡ count (params ks ss) + 2
    by [] l = absurd (omega arith)
    by (s ∷ ss) l =
        let e = expr_pieces (expr_at ks s) in
        omega (arith, count-append e (params ks ss ++ token RightParen ∷ []), count-append e (params ks ss), count-append (params ks ss) (token RightParen ∷ []))

pub searches-module : {x : FormalNames} {n : ℕ} {result : Result ℕ ℕ} (ks : List Kind) (y : ImageModule) → 0 < length y.params.items
    → Searches x (n + 1) (params ks y.params.items ++ token RightParen ∷ []) result → Searches x n (symbol_pieces expr_pieces (module_at ks y)) result
searches-module {x = x} {n = n} {result = result} ks y l = by y.params.items l
  where
    by : (ss : List ExprSpan) → 0 < length ss → Searches x (n + 1) (params ks ss ++ token RightParen ∷ []) result → Searches x n (symbol_pieces expr_pieces (S.Module (module_name y.name) (params_at ks ss))) result
    by [] l h = absurd (omega arith)
    by (s ∷ ss) l h =
        let rest = note a_param ∷ (expr_pieces (expr_at ks s) ++ (params ks ss ++ token RightParen ∷ [])) in
        let same = append_assoc (expr_pieces (expr_at ks s)) (params ks ss) (token RightParen ∷ []) in
        searches-on (note a_symbol ∷ token (name_kind (module_name y.name)) ∷ []) (token LeftParen ∷ rest)
        (searches-on (note a_symbol ∷ []) (token (name_kind (module_name y.name)) ∷ []) (searches-note a_symbol n refl) (searches-token (name_kind (module_name y.name)) n))
        (opened rest (subst (λ ps. Searches x (n + 1) (token Comma ∷ note a_param ∷ ps) result) same h))

pub option-count : (j k : Kind) (o : Option Expr) → count (option_pieces j o) ≡ count (option_pieces k o)
option-count j k None = refl
option-count j k (Some e) = refl

successor-count : (xs : List (S.Symbol Expr)) → count (successor_pieces xs) ≡ count (string_pieces expr_pieces xs)
successor-count [] = refl
successor-count (x ∷ xs) = refl

pub searches-successor : {x : FormalNames} {n : ℕ} {result : Result ℕ ℕ} (xs : List (S.Symbol Expr)) → Searches x (n + 1) (string_pieces expr_pieces xs) result → Searches x n (blank ∷ token Arrow ∷ successor_pieces xs) result
searches-successor {x = x} {n = n} {result = result} xs h =
    searches-on (blank ∷ []) (token Arrow ∷ successor_pieces xs) (searches-blank n) (searches-on (token Arrow ∷ []) (successor_pieces xs) (searches-token Arrow n) (by xs h))
  where
    by : (ys : List (S.Symbol Expr)) → Searches x (n + 1) (string_pieces expr_pieces ys) result → Searches x (n + 1) (successor_pieces ys) result
    by [] h = h
    by (y ∷ ys) h =
        searches-on (blank ∷ []) (note successor_begins ∷ string_pieces expr_pieces (y ∷ ys)) (searches-blank (n + 1))
        (searches-on (note successor_begins ∷ []) (string_pieces expr_pieces (y ∷ ys)) (searches-note successor_begins (n + 1) refl) h)

-- how many tokens the parts have
pub rest-count : (ks : List Kind) (r : RuleLine) → count (rest_pieces ks r) ≡ count (option_pieces Colon (option_at ks r.condition)) + (count (option_pieces Colon (option_at ks r.weight)) + (1 + count (pieces ks r.successor.items)))
rest-count ks r =
    let condition = option_pieces Colon (option_at ks r.condition) in
    let weight = option_pieces At (option_at ks r.weight) in
    let after = blank ∷ token Arrow ∷ successor_pieces (images_at ks r.successor.items) in
    omega (arith, count-append condition (weight ++ after), count-append weight after, option-count At Colon (option_at ks r.weight), successor-count (images_at ks r.successor.items))

pub rest-at_condition : {x : FormalNames} {n p : ℕ} (ks : List Kind) (r : RuleLine) → Searches x n (option_pieces Colon (option_at ks r.condition)) (Err p) → Searches x n (rest_pieces ks r) (Err p)
rest-at_condition ks r h = searches-found (option_pieces Colon (option_at ks r.condition)) (option_pieces At (option_at ks r.weight) ++ blank ∷ token Arrow ∷ successor_pieces (images_at ks r.successor.items)) h

pub rest-at_weight : {x : FormalNames} {n m p : ℕ} (ks : List Kind) (r : RuleLine) → Searches x n (option_pieces Colon (option_at ks r.condition)) (Ok m) → Searches x m (option_pieces At (option_at ks r.weight)) (Err p) → Searches x n (rest_pieces ks r) (Err p)
rest-at_weight ks r h k =
    let weight = option_pieces At (option_at ks r.weight) in
    let after = blank ∷ token Arrow ∷ successor_pieces (images_at ks r.successor.items) in
    searches-on (option_pieces Colon (option_at ks r.condition)) (weight ++ after) h (searches-found weight after k)

pub rest-after : {x : FormalNames} {n m o : ℕ} {result : Result ℕ ℕ} (ks : List Kind) (r : RuleLine) → Searches x n (option_pieces Colon (option_at ks r.condition)) (Ok m) → Searches x m (option_pieces At (option_at ks r.weight)) (Ok o)
    → Searches x (o + 1) (pieces ks r.successor.items) result → Searches x n (rest_pieces ks r) result
rest-after ks r h k l =
    let weight = option_pieces At (option_at ks r.weight) in
    let after = blank ∷ token Arrow ∷ successor_pieces (images_at ks r.successor.items) in
    searches-on (option_pieces Colon (option_at ks r.condition)) (weight ++ after) h (searches-on weight after k (searches-successor (images_at ks r.successor.items) l))
