-- Formals that are added piece by piece.
use Rattle.std.proofs.Common.{◌≡◌, ℕ, ◌+◌, ◌==◌, Bool, true, false, not, ◌||◌, cond, Option, Some, None, List, [], ◌∷◌, ◌++◌, length, map, bytes_eq, refl, ap, sym, subst, ◌∙◌, append_assoc, append-nil, length-append, get_or, drop, ◌<◌, ◌≤◌, arith}
use Rattle.std.proofs.lemmas.Bool.Decides.{nat_tests, Decides-eqb, Decides-like, same_from_decides}
use Rattle.std.proofs.lemmas.Slice.Eq.{bytes_eq-Decides}
use Rattle.std.proofs.lemmas.List.{at_drop_more, drop_all}
use Rattle.std.specs.Ordering.{nat_cmp, is_eq}
use Rattle.std.specs.BTreeSet.{contains}
use Rattle.lsys_syntax.specs.Tokens.{NameText, Kind, Name, Less, Greater, LeftParen, RightParen, Comma}
use Rattle.lsys_syntax.specs.Pieces.{Piece, Note, blank, token, note, a_symbol, a_param, left_begins, right_begins, kinds_of, name_text}
use Rattle.lsys_syntax.specs.Strings.{params_pieces, more_pieces, symbol_pieces, string_pieces, gap, ends_in_name, begins_with_letter}
use Rattle.lsys_syntax.specs.Rules.{formal_pieces, left_pieces, right_pieces}
use Rattle.lsys_syntax.specs.Checks.{is_formal, is_param, repeated_place}
use Rattle.lsys_text.specs.Tokens.{name_of}
use Rattle.lsys_text.specs.Packed.{packed, unpacked}
use Rattle.lsys_text.specs.Texts.{IsNameBytes}
use Rattle.lsys_text.proofs.Kept.{name-kept}
use Rattle.lsys_reading.specs.Patterns.{symbol_read}
use Rattle.lsys_reading.specs.Heads.{patterns_of}
use Rattle.lsys_reading.specs.declared.patterns.PatternSymbol.{PatternSymbol}
use Rattle.lsys_bodies.specs.Formals.{Numbered, first_some, repeated_with, Adds, symbol_formals, formals_in, marked_formal}
use Rattle.lsys_bodies.specs.declared.formals.FormalNames.{FormalNames}

-- 1. names and their numbers

name-text : (x : List ℕ) → IsNameBytes x → name_text (name_of x) ≡ x
name-text [] h = elim h [ ]
name-text (c ∷ []) h = refl
name-text (c ∷ d ∷ more) h = ap (λ e. c ∷ e ∷ more) (sym h.0)

number-eq : (m n : ℕ) → is_eq (nat_cmp m n) ≡ (m == n)
number-eq m n = grind (arith, nat_tests)

-- names are the same where their numbers are
pub same-name : (x y : List ℕ) → IsNameBytes x → IsNameBytes y → is_eq (nat_cmp (packed x) (packed y)) ≡ bytes_eq (name_text (name_of x)) (name_text (name_of y))
same-name x y h k =
    number-eq (packed x) (packed y)
    ∙ same_from_decides _ _
    (Decides-like _ (λ e. sym (name-kept x h) ∙ ap unpacked e ∙ name-kept y k) (λ e. ap packed e) (Decides-eqb (packed x) (packed y)))
    (bytes_eq-Decides x y)
    ∙ (ap (λ t. bytes_eq t y) (sym (name-text x h)) ∙ ap (λ t. bytes_eq (name_text (name_of x)) t) (sym (name-text y k)))

pub names-append : (xs ys : List (List ℕ)) → map name_of (xs ++ ys) ≡ map name_of xs ++ map name_of ys
names-append [] ys = refl
names-append (x ∷ xs) ys = ap (λ fs. name_of x ∷ fs) (names-append xs ys)

formal-last : (t : Bool) (u : Bool) → (u || (t || false)) ≡ cond t true u
formal-last true true = refl
formal-last true false = refl
formal-last false true = refl
formal-last false false = refl

or-assoc : (a b c : Bool) → ((a || b) || c) ≡ (a || (b || c))
or-assoc true b c = refl
or-assoc false b c = refl

formal-more : (fs : List NameText) (f y : NameText) → is_formal (fs ++ f ∷ []) y ≡ (is_formal fs y || (bytes_eq (name_text f) (name_text y) || false))
formal-more [] f y = refl
formal-more (g ∷ fs) f y = rw (formal-more fs f y) (sym (or-assoc (bytes_eq (name_text g) (name_text y)) (is_formal fs y) (bytes_eq (name_text f) (name_text y) || false)))

-- 2. one formal

first-found : (o : Option ℕ) (t : Bool) (p : ℕ) (r : Option ℕ) → first_some o (cond t (Some p) r) ≡ first_some (first_some o (cond (not t) None (Some p))) r
first-found None true p r = refl
first-found None false p r = refl
first-found (Some n) t p r = refl

pub adds-formal : (a b : FormalNames) (f : List ℕ) (k : Kind) (is_new : Bool) → IsNameBytes f → is_new ≡ not (contains nat_cmp a.numbers (packed f))
    → ((q : ℕ) → contains nat_cmp b.numbers q ≡ cond (is_eq (nat_cmp (packed f) q)) true (contains nat_cmp a.numbers q))
    → b.repeated ≡ first_some a.repeated (cond is_new None (Some (a.end + 1))) → b.end ≡ a.end + 2
    → Adds a (f ∷ []) (token k ∷ note a_param ∷ token (Name (name_of f)) ∷ []) b
adds-formal a b f k is_new form new updates repeated place = record {
  place = place;
  kept = λ before h. record {
    known = λ x form-x.
        updates (packed x)
        ∙ ap (λ t. cond t true (contains nat_cmp a.numbers (packed x))) (same-name f x form form-x)
        ∙ ap (cond (bytes_eq (name_text (name_of f)) (name_text (name_of x))) true) (h.known x form-x)
        ∙ sym (ap (λ fs. is_formal fs (name_of x)) (names-append before (f ∷ []))
        ∙ formal-more (map name_of before) (name_of f) (name_of x)
        ∙ formal-last (bytes_eq (name_text (name_of f)) (name_text (name_of x))) (is_formal (map name_of before) (name_of x)));
  };
  same = λ before h qs.
      let seen = map name_of before in
      let rest : Option ℕ = repeated_place (map name_of (before ++ f ∷ [])) false b.end qs in
      let here : a.end + 1 + 1 ≡ b.end = omega (arith, place) in
      let later : repeated_place ((seen ++ []) ++ name_of f ∷ []) false (a.end + 1 + 1) qs ≡ rest =
      ap (λ fs. repeated_place (fs ++ name_of f ∷ []) false (a.end + 1 + 1) qs) (append-nil seen)
      ∙ ap (λ fs. repeated_place fs false (a.end + 1 + 1) qs) (sym (names-append before (f ∷ [])))
      ∙ ap (λ n. repeated_place (map name_of (before ++ f ∷ [])) false n qs) here in
      let known : is_formal (seen ++ []) (name_of f) ≡ contains nat_cmp a.numbers (packed f) = ap (λ fs. is_formal fs (name_of f)) (append-nil seen) ∙ sym (h.known f form) in
      ap (λ r. first_some a.repeated (cond (is_formal (seen ++ []) (name_of f)) (Some (a.end + 1)) r)) later
      ∙ ap (λ t. first_some a.repeated (cond t (Some (a.end + 1)) rest)) known
      ∙ first-found a.repeated (contains nat_cmp a.numbers (packed f)) (a.end + 1) rest
      ∙ ap (λ t. first_some (first_some a.repeated (cond t None (Some (a.end + 1)))) rest) (sym new)
      ∙ ap (λ o. first_some o rest) (sym repeated);
}

-- 3. pieces after one another

kinds-append : (ps qs : List Piece) → kinds_of (ps ++ qs) ≡ kinds_of ps ++ kinds_of qs
kinds-append [] qs = refl
kinds-append (blank ∷ ps) qs = kinds-append ps qs
kinds-append (token k ∷ ps) qs = ap (λ ks. k ∷ ks) (kinds-append ps qs)
kinds-append (note n ∷ ps) qs = kinds-append ps qs

pub count-append : (ps qs : List Piece) → length (kinds_of (ps ++ qs)) ≡ length (kinds_of ps) + length (kinds_of qs)
count-append ps qs = ap length (kinds-append ps qs) ∙ length-append (kinds_of ps) (kinds_of qs)

module _ {a : FormalNames} where
  pub adds-trans : {b c : FormalNames} (fs gs : List (List ℕ)) (ps qs : List Piece) → Adds a fs ps b → Adds b gs qs c → Adds a (fs ++ gs) (ps ++ qs) c
  adds-trans {b = b} {c = c} fs gs ps qs h k = record {
    place = omega (arith, h.place, k.place, count-append ps qs);
    kept = λ before n. subst (λ all. Numbered all c.numbers) (append_assoc before fs gs) (k.kept (before ++ fs) (h.kept before n));
    same = λ before n rest.
        ap (repeated_with a before) (append_assoc ps qs rest)
        ∙ h.same before n (qs ++ rest) ∙ k.same (before ++ fs) (h.kept before n) rest
        ∙ ap (λ all. repeated_with c all rest) (append_assoc before fs gs);
  }

  -- pieces without formals
  quiet : {b : FormalNames} (ps : List Piece) → b.numbers ≡ a.numbers → b.repeated ≡ a.repeated → b.end ≡ a.end + length (kinds_of ps)
      → ((seen : List NameText) (qs : List Piece) → repeated_place seen false a.end (ps ++ qs) ≡ repeated_place seen false b.end qs) → Adds a [] ps b
  quiet {b = b} ps numbers repeated place same = record {
    place = place;
    kept = λ before n. subst (Numbered (before ++ [])) (sym numbers) (subst (λ all. Numbered all a.numbers) (sym (append-nil before)) n);
    same = λ before n qs.
        ap (first_some a.repeated) (same (map name_of before) qs)
        ∙ ap (λ o. first_some o (repeated_place (map name_of before) false b.end qs)) (sym repeated)
        ∙ ap (λ all. repeated_with b all qs) (sym (append-nil before));
  }

  pub adds-nothing : Adds a [] [] a
  adds-nothing = quiet {b = a} [] refl refl (omega arith) (λ seen qs. refl)

  pub adds-blank : Adds a [] (blank ∷ []) a
  adds-blank = quiet {b = a} (blank ∷ []) refl refl (omega arith) (λ seen qs. refl)

  pub adds-note : (m : Note) → is_param m ≡ false → Adds a [] (note m ∷ []) a
  adds-note m e = quiet {b = a} (note m ∷ []) refl refl (omega arith) (λ seen qs. ap (λ due. repeated_place seen due a.end qs) e)

  pub adds-token : {b : FormalNames} (k : Kind) → b.numbers ≡ a.numbers → b.repeated ≡ a.repeated → b.end ≡ a.end + 1 → Adds a [] (token k ∷ []) b
  adds-token {b = b} k numbers repeated place =
      quiet {b = b} (token k ∷ []) numbers repeated place
      (λ seen qs. ap (λ fs. repeated_place fs false (a.end + 1) qs) (append-nil seen) ∙ ap (λ n. repeated_place seen false n qs) (sym place))

  pub adds-gap : (l r : Bool) → Adds a [] (gap l r) a
  adds-gap true true = adds-blank
  adds-gap true false = adds-nothing
  adds-gap false true = adds-nothing
  adds-gap false false = adds-nothing

-- 4. loops

-- what is left from m on makes all of it from a on
pub record Goes (a : FormalNames) (fs : List (List ℕ)) (ps : List Piece) (m : FormalNames) (gs : List (List ℕ)) (qs : List Piece) : Type 0 where
  pub place : m.end + length (kinds_of qs) ≡ a.end + length (kinds_of ps)
  pub rest : (b : FormalNames) → Adds m gs qs b → Adds a fs ps b

pub goes-more : {a m n : FormalNames} (fs gs hs : List (List ℕ)) (ps qs rs : List Piece) → Goes a fs ps m (gs ++ hs) (qs ++ rs) → Adds m gs qs n → Goes a fs ps n hs rs
goes-more fs gs hs ps qs rs h k = record {
  place = omega (arith, h.place, k.place, count-append qs rs);
  rest = λ b r. h.rest b (adds-trans gs hs qs rs k r);
}

pub goes-done : {a m : FormalNames} (fs : List (List ℕ)) (ps : List Piece) → Goes a fs ps m [] [] → Adds a fs ps m
goes-done fs ps h = h.rest _ adds-nothing

-- what stands at a place, and what stands after it
pub drop-item : {X : Type 0} (xs : List X) (i : ℕ) (x : X) → i < length xs → x ≡ get_or xs i x → drop i xs ≡ x ∷ drop (i + 1) xs
drop-item xs i x l e = at_drop_more (λ ys. ys) xs i x l ∙ ap (λ y. y ∷ drop (i + 1) xs) (sym e)

abbrev more : List (List ℕ) → List Piece
more xs = more_pieces formal_pieces (map name_of xs)

abbrev pieces : List PatternSymbol → List Piece
pieces xs = string_pieces formal_pieces (patterns_of xs)

pub more-step : {a m n : FormalNames} (fs : List (List ℕ)) (ps : List Piece) (xs : List (List ℕ)) (i : ℕ) (x : List ℕ) → i < length xs → x ≡ get_or xs i x
    → Goes a fs ps m (drop i xs) (more (drop i xs)) → Adds m (x ∷ []) (marked_formal Comma x) n → Goes a fs ps n (drop (i + 1) xs) (more (drop (i + 1) xs))
more-step {a} {m} fs ps xs i x l e h k =
    goes-more fs (x ∷ []) (drop (i + 1) xs) ps (marked_formal Comma x) (more (drop (i + 1) xs))
    (subst (λ ys. Goes a fs ps m ys (more ys)) (drop-item xs i x l e) h) k

pub more-end : {a m : FormalNames} (fs : List (List ℕ)) (ps : List Piece) (xs : List (List ℕ)) (i : ℕ) → length xs ≤ i
    → Goes a fs ps m (drop i xs) (more (drop i xs)) → Adds a fs ps m
more-end {a} {m} fs ps xs i l h = goes-done fs ps (subst (λ ys. Goes a fs ps m ys (more ys)) (drop_all i xs l) h)

pub pattern-step : {a m n : FormalNames} (fs : List (List ℕ)) (ps : List Piece) (xs : List PatternSymbol) (i : ℕ) (x : PatternSymbol) → i < length xs → x ≡ get_or xs i x
    → Goes a fs ps m (formals_in (drop i xs)) (pieces (drop i xs)) → Adds m (symbol_formals x) (symbol_pieces formal_pieces (symbol_read x)) n
    → Goes a fs ps n (formals_in (drop (i + 1) xs)) (pieces (drop (i + 1) xs))
pattern-step {a} {m} fs ps xs i x l e h k =
    let rest = drop (i + 1) xs in
    let between = gap (ends_in_name (symbol_read x)) (begins_with_letter (patterns_of rest)) in
    goes-more fs [] (formals_in rest) ps between (pieces rest)
    (goes-more fs (symbol_formals x) (formals_in rest) ps (symbol_pieces formal_pieces (symbol_read x)) (between ++ pieces rest)
    (subst (λ ys. Goes a fs ps m (formals_in ys) (pieces ys)) (drop-item xs i x l e) h) k)
    (adds-gap (ends_in_name (symbol_read x)) (begins_with_letter (patterns_of rest)))

pub pattern-end : {a m : FormalNames} (fs : List (List ℕ)) (ps : List Piece) (xs : List PatternSymbol) (i : ℕ) → length xs ≤ i
    → Goes a fs ps m (formals_in (drop i xs)) (pieces (drop i xs)) → Adds a fs ps m
pattern-end {a} {m} fs ps xs i l h = goes-done fs ps (subst (λ ys. Goes a fs ps m (formals_in ys) (pieces ys)) (drop_all i xs l) h)

-- the tokens of the next symbol
pub pattern-room : (xs : List PatternSymbol) (i : ℕ) (x : PatternSymbol) (n all : ℕ) → i < length xs → x ≡ get_or xs i x → n + length (kinds_of (pieces (drop i xs))) ≡ all
    → n + length (kinds_of (symbol_pieces formal_pieces (symbol_read x))) ≤ all
pattern-room xs i x n all l e h =
    let rest = drop (i + 1) xs in
    let between = gap (ends_in_name (symbol_read x)) (begins_with_letter (patterns_of rest)) in
    let h2 : n + length (kinds_of (symbol_pieces formal_pieces (symbol_read x) ++ (between ++ pieces rest))) ≡ all = subst (λ ys. n + length (kinds_of (pieces ys)) ≡ all) (drop-item xs i x l e) h in
    omega (arith, h2, count-append (symbol_pieces formal_pieces (symbol_read x)) (between ++ pieces rest))

-- 5. the parts of a rule

-- which mark stands before formals says nothing
opened : {a b : FormalNames} (fs : List (List ℕ)) (ps : List Piece) → Adds a fs (token Comma ∷ ps) b → Adds a fs (token LeftParen ∷ ps) b
opened fs ps h = record { place = h.place; kept = h.kept; same = λ before n qs. h.same before n qs }

pub params-count : (fs : List (List ℕ)) → 0 < length fs → length (kinds_of (params_pieces formal_pieces (map name_of fs))) ≡ length (kinds_of (more fs)) + 1
params-count [] l = absurd (omega arith)
params-count (x ∷ fs) l = omega (arith, count-append (more fs) (token RightParen ∷ []))

module _ {a : FormalNames} where
  pub adds-name : {s : FormalNames} (k : Kind) → s.numbers ≡ a.numbers → s.repeated ≡ a.repeated → s.end ≡ a.end + 1 → Adds a [] (note a_symbol ∷ token k ∷ []) s
  adds-name k numbers repeated place = adds-trans [] [] (note a_symbol ∷ []) (token k ∷ []) (adds-note a_symbol refl) (adds-token k numbers repeated place)

  pub adds-module : {s t u : FormalNames} (k : Kind) (fs : List (List ℕ)) → 0 < length fs → Adds a [] (note a_symbol ∷ token k ∷ []) s → Adds s fs (more fs) t → Adds t [] (token RightParen ∷ []) u
      → Adds a fs (note a_symbol ∷ token k ∷ params_pieces formal_pieces (map name_of fs)) u
  adds-module k [] l h i j = absurd (omega arith)
  adds-module {s} {t} {u} k (x ∷ fs) l h i j =
      let inner : Adds s (x ∷ fs) (more (x ∷ fs) ++ token RightParen ∷ []) u =
      subst (λ gs. Adds s gs (more (x ∷ fs) ++ token RightParen ∷ []) u) (append-nil (x ∷ fs)) (adds-trans (x ∷ fs) [] (more (x ∷ fs)) (token RightParen ∷ []) i j) in
      adds-trans [] (x ∷ fs) (note a_symbol ∷ token k ∷ []) (params_pieces formal_pieces (map name_of (x ∷ fs))) h
      (opened (x ∷ fs) (note a_param ∷ token (Name (name_of x)) ∷ (more fs ++ token RightParen ∷ [])) inner)

  pub adds-left : {b c : FormalNames} (xs : List PatternSymbol) → 0 < length xs → Adds a (formals_in xs) (pieces xs) b → Adds b [] (token Less ∷ []) c → Adds a (formals_in xs) (left_pieces (patterns_of xs)) c
  adds-left [] l h k = absurd (omega arith)
  adds-left {b} {c} (x ∷ xs) l h k =
      let fs = formals_in (x ∷ xs) in
      let ending : Adds b [] (blank ∷ token Less ∷ blank ∷ []) c =
      adds-trans [] [] (blank ∷ []) (token Less ∷ blank ∷ []) adds-blank (adds-trans [] [] (token Less ∷ []) (blank ∷ []) k adds-blank) in
      adds-trans [] fs (note left_begins ∷ []) (pieces (x ∷ xs) ++ blank ∷ token Less ∷ blank ∷ []) (adds-note left_begins refl)
      (subst (λ gs. Adds a gs (pieces (x ∷ xs) ++ blank ∷ token Less ∷ blank ∷ []) c) (append-nil fs) (adds-trans fs [] (pieces (x ∷ xs)) (blank ∷ token Less ∷ blank ∷ []) h ending))

  pub adds-right : {b c : FormalNames} (xs : List PatternSymbol) → 0 < length xs → Adds a [] (token Greater ∷ []) b → Adds b (formals_in xs) (pieces xs) c → Adds a (formals_in xs) (right_pieces (patterns_of xs)) c
  adds-right [] l h k = absurd (omega arith)
  adds-right {b} {c} (x ∷ xs) l h k =
      let fs = formals_in (x ∷ xs) in
      let beginning : Adds a [] (blank ∷ token Greater ∷ blank ∷ note right_begins ∷ []) b =
      adds-trans [] [] (blank ∷ []) (token Greater ∷ blank ∷ note right_begins ∷ []) adds-blank
      (adds-trans [] [] (token Greater ∷ []) (blank ∷ note right_begins ∷ []) h (adds-trans [] [] (blank ∷ []) (note right_begins ∷ []) adds-blank (adds-note right_begins refl))) in
      adds-trans [] fs (blank ∷ token Greater ∷ blank ∷ note right_begins ∷ []) (pieces (x ∷ xs)) beginning k

-- their tokens
pub left-count : (xs : List PatternSymbol) → 0 < length xs → length (kinds_of (left_pieces (patterns_of xs))) ≡ length (kinds_of (pieces xs)) + 1
left-count [] l = absurd (omega arith)
left-count (x ∷ xs) l = omega (arith, count-append (pieces (x ∷ xs)) (blank ∷ token Less ∷ blank ∷ []))
