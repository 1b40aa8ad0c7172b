-- What reading printed pieces does to a machine, and how strings of symbols are read in any machine that keeps the last symbol first.
use Rattle.std.proofs.Common.{◌≡◌, ℕ, zero, suc, Bool, true, false, List, [], ◌∷◌, ◌++◌, ◌+◌, ◌-◌, ◌<◌, ◌==◌, refl, ap, ◌∙◌, sym, subst, append-nil, arith}
use Rattle.std.proofs.lemmas.Bool.Decides.{nat_tests}
use Rattle.lsys_syntax.specs.Tokens.{Kind}
use Rattle.lsys_syntax.specs.Pieces.{Piece, blank, token, note}
use Rattle.lsys_syntax.specs.Strings.{Symbol, Module, Push, Pop, Cut, symbol_pieces, string_pieces, gap, ends_in_name, begins_with_letter, EachOf, balanced}
use Rattle.lsys_syntax.specs.RuleMachine.{reversed_onto, reversed, open_in}

-- From s the pieces lead to t, and each state on the way, the first not counted, is as it must be.
abbrev pub Leads : {S : Type 0} → (S → Kind → S) → (S → Type 0) → S → List Piece → S → Type 0
Leads next Fine s [] t = s ≡ t
Leads next Fine s (blank ∷ ps) t = Leads next Fine s ps t
Leads next Fine s (note n ∷ ps) t = Leads next Fine s ps t
Leads next Fine s (token k ∷ ps) t = Fine (next s k) × Leads next Fine (next s k) ps t

pub reversed-back : {A : Type 0} → (xs r s : List A) → reversed_onto (reversed_onto xs r) s ≡ reversed_onto r (xs ++ s)
reversed-back [] r s = refl
reversed-back (x ∷ xs) r s = reversed-back xs (x ∷ r) s

pub twice : {A : Type 0} → (xs : List A) → reversed (reversed_onto xs []) ≡ xs
twice xs = reversed-back xs [] [] ∙ append-nil xs

-- one is put after, and then the list is turned round
pub reversed-one : {A : Type 0} → (x : A) (xs : List A) → reversed (reversed_onto xs (x ∷ [])) ≡ x ∷ xs
reversed-one x xs = reversed-back xs (x ∷ []) [] ∙ ap (λ ys. x ∷ ys) (append-nil xs)

module _ {S : Type 0} (next : S → Kind → S) (Fine : S → Type 0) where
  pub leads-append : (ps qs : List Piece) (s t u : S) → Leads next Fine s ps t → Leads next Fine t qs u → Leads next Fine s (ps ++ qs) u
  leads-append [] qs s t u e h = subst (λ x. Leads next Fine x qs u) (sym e) h
  leads-append (blank ∷ ps) qs s t u g h = leads-append ps qs s t u g h
  leads-append (note n ∷ ps) qs s t u g h = leads-append ps qs s t u g h
  leads-append (token k ∷ ps) qs s t u g h = (g.0, leads-append ps qs (next s k) t u g.1 h)

  -- one token, whose state is known, and then more
  pub leads-token : (k : Kind) (ps : List Piece) (s t u : S) → next s k ≡ t → Fine t → Leads next Fine t ps u → Leads next Fine s (token k ∷ ps) u
  leads-token k ps s t u e f h = subst (λ x. Fine x × Leads next Fine x ps u) (sym e) (f, h)

  pub leads-to : (ps : List Piece) (s t u : S) → t ≡ u → Leads next Fine s ps t → Leads next Fine s ps u
  leads-to ps s t u e h = subst (λ x. Leads next Fine s ps x) e h

  pub leads-gap : (a b : Bool) (ps : List Piece) (s t : S) → Leads next Fine s ps t → Leads next Fine s (gap a b ++ ps) t
  leads-gap true true ps s t h = h
  leads-gap true false ps s t h = h
  leads-gap false b ps s t h = h

-- a `]` closes one that is open
abbrev pub Closes : {P : Type 0} → Symbol P → ℕ → Type 0
Closes Pop n = 0 < n
Closes x n = Unit {0}

pop-next : {P : Type 0} → (n : ℕ) (xs : List (Symbol P)) → balanced n (Pop ∷ xs) ≡ true → (0 < n) × (balanced (n - 1) xs ≡ true)
pop-next zero xs b = cc
pop-next (suc n) xs b = let e : suc n - 1 ≡ n = omega arith in (omega arith, ap (λ m. balanced m xs) e ∙ b)

balanced-next : {P : Type 0} → (x : Symbol P) (xs r : List (Symbol P)) → balanced (open_in r) (x ∷ xs) ≡ true → Closes x (open_in r) × (balanced (open_in (x ∷ r)) xs ≡ true)
balanced-next (Module n ps) xs r b = (tt, b)
balanced-next Push xs r b = let e : open_in r + 1 ≡ suc (open_in r) = omega arith in (tt, ap (λ m. balanced m xs) e ∙ b)
balanced-next Pop xs r b = pop-next (open_in r) xs b
balanced-next Cut xs r b = (tt, b)

is_zero : (n : ℕ) → (n == 0) ≡ true → n ≡ 0
is_zero n h = grind (arith, nat_tests)

-- nothing is open after a balanced string
pub none_open : {P : Type 0} → (xs r : List (Symbol P)) → balanced (open_in r) xs ≡ true → open_in (reversed_onto xs r) ≡ 0
none_open [] r b = is_zero (open_in r) b
none_open (x ∷ xs) r b = none_open xs (x ∷ r) (balanced-next x xs r b).1

module _ {S P : Type 0} (next : S → Kind → S) (Fine : S → Type 0) (at : List (Symbol P) → S) (print : P → List Piece) where
  -- each symbol is put in front; so is a string
  abbrev pub Puts : Symbol P → Type 0
  Puts x = (r : List (Symbol P)) → Closes x (open_in r) → Leads next Fine (at r) (symbol_pieces print x) (at (x ∷ r))

  pub string-leads : (xs r : List (Symbol P)) → EachOf Puts xs → balanced (open_in r) xs ≡ true → Leads next Fine (at r) (string_pieces print xs) (at (reversed_onto xs r))
  string-leads [] r h b = refl
  string-leads (x ∷ xs) r h b =
      let n : Closes x (open_in r) × (balanced (open_in (x ∷ r)) xs ≡ true) = balanced-next x xs r b in
      let a : Bool = ends_in_name x in
      let l : Bool = begins_with_letter xs in
      leads-append next Fine (symbol_pieces print x) (gap a l ++ string_pieces print xs) (at r) (at (x ∷ r)) (at (reversed_onto xs (x ∷ r))) (h.0 r n.0)
      (leads-gap next Fine a l (string_pieces print xs) (at (x ∷ r)) (at (reversed_onto xs (x ∷ r))) (string-leads xs (x ∷ r) h.1 n.1))
