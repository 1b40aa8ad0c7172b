-- The tokens of a string that is read from the left, its last symbol first.
use Rattle.std.proofs.Common.{◌≡◌, ℕ, zero, suc, Bool, true, false, List, [], ◌∷◌, ◌++◌, ◌+◌, ◌-◌, ◌<◌, map, refl, ap, ◌∙◌, sym, append_assoc, append-nil, arith}
use Rattle.lsys_syntax.specs.Tokens.{Kind, LeftParen, RightParen, Comma}
use Rattle.lsys_syntax.specs.Pieces.{Piece, blank, token, note, kinds_of}
use Rattle.lsys_syntax.specs.Strings.{Symbol, Module, Push, Pop, Cut, more_pieces, params_pieces, symbol_pieces, string_pieces, gap, ends_in_name, begins_with_letter, EachOf, balanced}
use Rattle.lsys_syntax.specs.RuleMachine.{reversed_onto, reversed, open_in}
use Rattle.lsys_syntax.proofs.Leads.{Closes}

pub kinds-append : (ps qs : List Piece) → kinds_of (ps ++ qs) ≡ kinds_of ps ++ kinds_of qs
kinds-append [] qs = refl
kinds-append (blank ∷ ps) qs = kinds-append ps qs
kinds-append (note n ∷ ps) qs = kinds-append ps qs
kinds-append (token k ∷ ps) qs = ap (λ ks. k ∷ ks) (kinds-append ps qs)

pub kinds-tokens : (ks : List Kind) → kinds_of (map token ks) ≡ ks
kinds-tokens [] = refl
kinds-tokens (k ∷ ks) = ap (λ x. k ∷ x) (kinds-tokens ks)

kinds-gap : (a b : Bool) (ps : List Piece) → kinds_of (gap a b ++ ps) ≡ kinds_of ps
kinds-gap true true ps = refl
kinds-gap true false ps = refl
kinds-gap false b ps = refl

-- turned round
pub onto-append : {A : Type 0} → (xs ys : List A) → reversed_onto xs ys ≡ reversed xs ++ ys
onto-append [] ys = refl
onto-append (x ∷ xs) ys =
    onto-append xs (x ∷ ys) ∙ sym (append_assoc (reversed xs) (x ∷ []) ys) ∙ ap (λ zs. zs ++ ys) (sym (onto-append xs (x ∷ [])))

pub reversed-more : {A : Type 0} → (x : A) (xs : List A) → reversed (x ∷ xs) ≡ reversed xs ++ x ∷ []
reversed-more x xs = onto-append xs (x ∷ [])

each-onto : {A : Type 0} (P : A → Type 0) (xs ys : List A) → EachOf P xs → EachOf P ys → EachOf P (reversed_onto xs ys)
each-onto P [] ys h k = k
each-onto P (x ∷ xs) ys h k = each-onto P xs (x ∷ ys) h.1 (h.0, k)

pub each-reversed : {A : Type 0} (P : A → Type 0) (xs : List A) → EachOf P xs → EachOf P (reversed xs)
each-reversed P xs h = each-onto P xs [] h tt

module _ {P : Type 0} (print : P → List Piece) where
  -- the tokens of symbols
  abbrev pub spelled_symbol : Symbol P → List Kind
  spelled_symbol x = kinds_of (symbol_pieces print x)

  abbrev pub spelled_string : List (Symbol P) → List Kind
  spelled_string xs = kinds_of (string_pieces print xs)

  -- the tokens of symbols that were read, the last one first
  abbrev pub taken : List (Symbol P) → List Kind
  taken r = spelled_string (reversed r)

  string-first : (x : Symbol P) (xs : List (Symbol P)) → spelled_string (x ∷ xs) ≡ spelled_symbol x ++ spelled_string xs
  string-first x xs =
      kinds-append (symbol_pieces print x) (gap (ends_in_name x) (begins_with_letter xs) ++ string_pieces print xs)
      ∙ ap (λ ks. spelled_symbol x ++ ks) (kinds-gap (ends_in_name x) (begins_with_letter xs) (string_pieces print xs))

  string-append : (xs ys : List (Symbol P)) → spelled_string (xs ++ ys) ≡ spelled_string xs ++ spelled_string ys
  string-append [] ys = refl
  string-append (x ∷ xs) ys =
      string-first x (xs ++ ys)
      ∙ ap (λ ks. spelled_symbol x ++ ks) (string-append xs ys)
      ∙ sym (append_assoc (spelled_symbol x) (spelled_string xs) (spelled_string ys))
      ∙ ap (λ ks. ks ++ spelled_string ys) (sym (string-first x xs))

  pub string-one : (x : Symbol P) → spelled_string (x ∷ []) ≡ spelled_symbol x
  string-one x = string-first x [] ∙ append-nil (spelled_symbol x)

  -- one more symbol was read
  pub taken-more : (x : Symbol P) (r : List (Symbol P)) → taken (x ∷ r) ≡ taken r ++ spelled_symbol x
  taken-more x r = ap spelled_string (reversed-more x r) ∙ string-append (reversed r) (x ∷ []) ∙ ap (λ ks. taken r ++ ks) (string-one x)

  -- `(` and the parameters that were read, the last one first, each with a `,` after it
  abbrev pub params_before : List P → List Kind
  params_before [] = LeftParen ∷ []
  params_before (x ∷ xs) = params_before xs ++ (kinds_of (print x) ++ Comma ∷ [])

  abbrev closed_by : List P → List Kind
  closed_by ys = kinds_of (more_pieces print ys ++ token RightParen ∷ [])

  closed-more : (y : P) (ys : List P) → closed_by (y ∷ ys) ≡ Comma ∷ (kinds_of (print y) ++ closed_by ys)
  closed-more y ys =
      ap (λ ps. Comma ∷ kinds_of ps) (append_assoc (print y) (more_pieces print ys) (token RightParen ∷ []))
      ∙ ap (λ ks. Comma ∷ ks) (kinds-append (print y) (more_pieces print ys ++ token RightParen ∷ []))

  params-onto : (xs ys : List P) (x : P) → kinds_of (params_pieces print (reversed_onto xs (x ∷ ys))) ≡ params_before xs ++ (kinds_of (print x) ++ closed_by ys)
  params-onto [] ys x = ap (λ ks. LeftParen ∷ ks) (kinds-append (print x) (more_pieces print ys ++ token RightParen ∷ []))
  params-onto (w ∷ ws) ys x =
      params-onto ws (x ∷ ys) w
      ∙ ap (λ ks. params_before ws ++ (kinds_of (print w) ++ ks)) (closed-more x ys)
      ∙ ap (λ ks. params_before ws ++ ks) (sym (append_assoc (kinds_of (print w)) (Comma ∷ []) (kinds_of (print x) ++ closed_by ys)))
      ∙ sym (append_assoc (params_before ws) (kinds_of (print w) ++ Comma ∷ []) (kinds_of (print x) ++ closed_by ys))

  -- the parameters are closed after the last one
  pub params-closed : (xs : List P) (x : P) → kinds_of (params_pieces print (reversed (x ∷ xs))) ≡ params_before xs ++ (kinds_of (print x) ++ RightParen ∷ [])
  params-closed xs x = params-onto xs [] x

-- each `]` closes a `[` that was read
abbrev pub Nests : {P : Type 0} → List (Symbol P) → Type 0
Nests [] = Unit {0}
Nests (x ∷ r) = Closes x (open_in r) × Nests r

balanced-pop : {P : Type 0} → (n : ℕ) (xs : List (Symbol P)) → 0 < n → balanced (n - 1) xs ≡ true → balanced n (Pop ∷ xs) ≡ true
balanced-pop zero xs h b = absurd (omega arith)
balanced-pop (suc n) xs h b = let e : n ≡ suc n - 1 = omega arith in ap (λ m. balanced m xs) e ∙ b

balanced-before : {P : Type 0} → (x : Symbol P) (xs r : List (Symbol P)) → Closes x (open_in r) → balanced (open_in (x ∷ r)) xs ≡ true → balanced (open_in r) (x ∷ xs) ≡ true
balanced-before (Module n ps) xs r c b = b
balanced-before Push xs r c b = let e : suc (open_in r) ≡ open_in r + 1 = omega arith in ap (λ m. balanced m xs) e ∙ b
balanced-before Pop xs r c b = balanced-pop (open_in r) xs c b
balanced-before Cut xs r c b = b

nests-balanced : {P : Type 0} → (r xs : List (Symbol P)) → Nests r → balanced (open_in r) xs ≡ true → balanced 0 (reversed_onto r xs) ≡ true
nests-balanced [] xs h b = b
nests-balanced (x ∷ r) xs h b = nests-balanced r (x ∷ xs) h.1 (balanced-before x xs r h.0 b)

-- where nothing is open, the whole is balanced
pub nests-closed : {P : Type 0} → (r : List (Symbol P)) → Nests r → open_in r ≡ 0 → balanced 0 (reversed r) ≡ true
nests-closed r h e = nests-balanced r [] h (rw e refl)
