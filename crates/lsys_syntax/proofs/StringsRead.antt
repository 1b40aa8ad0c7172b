-- Each piece of a printed string is read as itself.
use Rattle.std.proofs.Common.{◌≡◌, ℕ, zero, Bool, true, false, List, [], ◌∷◌, ◌++◌, refl, arith, append_assoc, append-nil, ℤ, pos, negsuc, Ok}
use Rattle.lsys_syntax.specs.Tokens.{Kind, Modules, short, long, LeftParen, RightParen, Comma, tokens_from}
use Rattle.lsys_syntax.specs.Pieces.{Piece, token, placed, Tail, anything, not_underscore, not_plain, not_digit, not_equals, letter, mark, ending, beginning, may_follow, Stands, Reads}
use Rattle.lsys_syntax.specs.Strings.{ModuleName, named, plus, minus, ampersand, caret, backslash, slash, bar, bang, Symbol, Module, Push, Pop, Cut, name_kind, more_pieces, params_pieces, symbol_pieces, ends_in_name, begins_with_letter, starts_with_letter, is_letters, gap, string_pieces, EachOf, IsModuleName, IsSymbol, Signed, unsigned, minus_sign, signed_of, signed_pieces, value_pieces, IsSigned, IsParam, string_text, AreSymbols}
use Rattle.lsys_syntax.proofs.ReadBack.{reads-from}

-- whatever stands before
abbrev pub ReadsAnywhere : List Piece → Type 0
ReadsAnywhere ps = (t : Tail) → Reads Modules t ps

abbrev pub ParamReads : {P : Type 0} → (P → List Piece) → (P → Type 0) → Type 0
ParamReads {P} print G = (x : P) → G x → (ps : List Piece) → ReadsAnywhere ps → Reads Modules anything (print x ++ ps)

pub mark-follows : (t : Tail) → may_follow t mark ≡ true
mark-follows anything = refl
mark-follows not_underscore = refl
mark-follows not_plain = refl
mark-follows not_digit = refl
mark-follows not_equals = refl

-- a mark, or any other token that begins so
pub mark-reads : (k : Kind) → beginning k ≡ mark → Stands Modules k → (t : Tail) (ps : List Piece) → Reads Modules (ending k) ps → Reads Modules t (token k ∷ ps)
mark-reads k e s t ps h = (rw e (mark-follows t), s, h)

-- what a symbol leaves after itself
abbrev pub symbol_tail : {P : Type 0} → Symbol P → Tail
symbol_tail (Module n []) = ending (name_kind n)
symbol_tail s = anything

name-reads : (n : ModuleName) → IsModuleName n → (t : Tail) → (is_letters n ≡ true → may_follow t letter ≡ true) → (ps : List Piece) → Reads Modules (ending (name_kind n)) ps → Reads Modules t (token (name_kind n) ∷ ps)
name-reads (named n) g t f ps h = (f refl, (tt, g), h)
name-reads plus g t f ps h = mark-reads (name_kind plus) refl tt t ps h
name-reads minus g t f ps h = mark-reads (name_kind minus) refl tt t ps h
name-reads ampersand g t f ps h = mark-reads (name_kind ampersand) refl tt t ps h
name-reads caret g t f ps h = mark-reads (name_kind caret) refl tt t ps h
name-reads backslash g t f ps h = mark-reads (name_kind backslash) refl tt t ps h
name-reads slash g t f ps h = mark-reads (name_kind slash) refl tt t ps h
name-reads bar g t f ps h = mark-reads (name_kind bar) refl tt t ps h
name-reads bang g t f ps h = mark-reads (name_kind bang) refl tt t ps h

-- a letter may stand directly after every symbol but a name with a `_`
letter-follows : {P : Type 0} → (s : Symbol P) → ends_in_name s ≡ false → may_follow (symbol_tail s) letter ≡ true
letter-follows (Module (named (short c)) []) e = refl
letter-follows (Module (named (long c more)) []) e = cc
letter-follows (Module plus []) e = refl
letter-follows (Module minus []) e = refl
letter-follows (Module ampersand []) e = refl
letter-follows (Module caret []) e = refl
letter-follows (Module backslash []) e = refl
letter-follows (Module slash []) e = refl
letter-follows (Module bar []) e = refl
letter-follows (Module bang []) e = refl
letter-follows (Module n (x ∷ xs)) e = refl
letter-follows Push e = refl
letter-follows Pop e = refl
letter-follows Cut e = refl

module _ {P : Type 0} (print : P → List Piece) (G : P → Type 0) (reads : ParamReads print G) where
  more-reads : (xs : List P) → EachOf G xs → (t : Tail) (ps : List Piece) → Reads Modules anything ps → Reads Modules t (more_pieces print xs ++ token RightParen ∷ ps)
  more-reads [] g t ps h = mark-reads RightParen refl tt t ps h
  more-reads (x ∷ xs) g t ps h = mark-reads Comma refl tt t ((print x ++ more_pieces print xs) ++ token RightParen ∷ ps)
      (rw append_assoc (reads x g.0 (more_pieces print xs ++ token RightParen ∷ ps) (λ t'. more-reads xs g.1 t' ps h)))

  params-reads : (xs : List P) → EachOf G xs → (t : Tail) (ps : List Piece) → (xs ≡ [] → Reads Modules t ps) → Reads Modules anything ps → Reads Modules t (params_pieces print xs ++ ps)
  params-reads [] g t ps none h = none refl
  params-reads (x ∷ xs) g t ps none h = mark-reads LeftParen refl tt t ((print x ++ (more_pieces print xs ++ token RightParen ∷ [])) ++ ps)
      (rw (append_assoc, append_assoc) (reads x g.0 (more_pieces print xs ++ token RightParen ∷ ps) (λ t'. more-reads xs g.1 t' ps h)))

  pub symbol-reads : (s : Symbol P) → IsSymbol G s → (t : Tail) → (starts_with_letter s ≡ true → may_follow t letter ≡ true) → (ps : List Piece) → Reads Modules (symbol_tail s) ps → Reads Modules t (symbol_pieces print s ++ ps)
  symbol-reads (Module n []) g t f ps h = name-reads n g.0 t f ps h
  symbol-reads (Module n (x ∷ xs)) g t f ps h = name-reads n g.0 t f (params_pieces print (x ∷ xs) ++ ps)
      (params-reads (x ∷ xs) g.1 (ending (name_kind n)) ps (λ e. cc) h)
  symbol-reads Push g t f ps h = mark-reads (name_kind plus) refl tt t ps h
  symbol-reads Pop g t f ps h = mark-reads (name_kind plus) refl tt t ps h
  symbol-reads Cut g t f ps h = mark-reads (name_kind plus) refl tt t ps h

  gap-reads : (s : Symbol P) (a : Bool) → ends_in_name s ≡ a → (b : Bool) (ps : List Piece) → ((t : Tail) → (b ≡ true → may_follow t letter ≡ true) → Reads Modules t ps) → Reads Modules (symbol_tail s) (gap a b ++ ps)
  gap-reads s true e true ps h = h anything (λ k. refl)
  gap-reads s true e false ps h = h (symbol_tail s) (λ k. cc)
  gap-reads s false e b ps h = h (symbol_tail s) (λ k. letter-follows s e)

  pub string-reads : (xs : List (Symbol P)) → EachOf (IsSymbol G) xs → (t : Tail) → (begins_with_letter xs ≡ true → may_follow t letter ≡ true) → (ps : List Piece) → ReadsAnywhere ps → Reads Modules t (string_pieces print xs ++ ps)
  string-reads [] g t f ps h = h t
  string-reads (s ∷ xs) g t f ps h =
      rw (append_assoc, append_assoc) (symbol-reads s g.0 t f (gap (ends_in_name s) (begins_with_letter xs) ++ (string_pieces print xs ++ ps))
      (gap-reads s (ends_in_name s) refl (begins_with_letter xs) (string_pieces print xs ++ ps) (λ t' f'. string-reads xs g.1 t' f' ps h)))

pub signed-reads : (z : Signed) → IsSigned z → (ps : List Piece) → ReadsAnywhere ps → Reads Modules anything (signed_pieces z ++ ps)
signed-reads (unsigned n) g ps h = (refl, omega arith, h not_digit)
signed-reads (minus_sign n) g ps h = (refl, tt, (refl, omega arith, h not_digit))

pub value_is_signed : (z : ℤ) → IsParam z → IsSigned (signed_of z)
value_is_signed (pos n) g = g
value_is_signed (negsuc n) g = omega arith

pub value-reads : (z : ℤ) → IsParam z → (ps : List Piece) → ReadsAnywhere ps → Reads Modules anything (value_pieces z ++ ps)
value-reads z g ps h = signed-reads (signed_of z) (value_is_signed z g) ps h

-- A printed string is read as its own tokens, at their places.
pub string_law : (xs : List (Symbol ℤ)) (p : ℕ) → AreSymbols xs → tokens_from Modules zero p (string_text xs) ≡ Ok (placed p (string_pieces value_pieces xs))
string_law xs p g = reads-from (string_pieces value_pieces xs) Modules anything p
    (rw (← append-nil (string_pieces value_pieces xs)) (string-reads value_pieces IsParam value-reads xs g anything (λ e. refl) [] (λ t. tt)))
