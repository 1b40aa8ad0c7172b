-- What a printed string is made of, from its front on.
use Rattle.std.proofs.Common.{◌≡◌, ℕ, ◌+◌, ◌<◌, Bool, true, false, List, [], ◌∷◌, ◌++◌, length, map, take, drop, get_or, refl, ap, ◌∙◌, sym, append_assoc, append-nil}
use Rattle.std.proofs.lemmas.List.{take_more, take-append-drop, map-append}
use Rattle.lsys_syntax.specs.Tokens.{RightParen}
use Rattle.lsys_syntax.specs.Pieces.{Piece, blank, token, note, token_text, text_of}
use Rattle.lsys_syntax.specs.Strings.{Symbol, Module, ModuleName, is_letters, gap, ends_in_name, starts_with_letter, begins_with_letter, symbol_pieces, more_pieces, string_pieces}
use Rattle.lsys_spec.specs.Systems.{module_name_text}
use Rattle.lsys_module.specs.Printing.{gap_text, name_after, symbol_after, symbols_after, params_text, more_text}

pub text_of-append : (ps qs : List Piece) → text_of (ps ++ qs) ≡ text_of ps ++ text_of qs
text_of-append [] qs = refl
text_of-append (blank ∷ ps) qs = ap (λ t. 32 ∷ t) (text_of-append ps qs)
text_of-append (note n ∷ ps) qs = text_of-append ps qs
text_of-append (token k ∷ ps) qs = ap (λ t. token_text k ++ t) (text_of-append ps qs) ∙ sym (append_assoc (token_text k) (text_of ps) (text_of qs))

more-text : {P : Type 0} (print : P → List Piece) (xs : List P) → text_of (more_pieces print xs) ≡ more_text print xs
more-text print [] = refl
more-text print (x ∷ xs) = ap (λ t. 44 ∷ t) (text_of-append (print x) (more_pieces print xs) ∙ ap (λ t. text_of (print x) ++ t) (more-text print xs))

-- `(`, the first parameter, the others, `)`
pub params-text : {P : Type 0} (print : P → List Piece) (x : P) (xs : List P) → params_text print (x ∷ xs) ≡ (40 ∷ []) ++ (text_of (print x) ++ (more_text print xs ++ 41 ∷ []))
params-text print x xs =
    let closed = token RightParen ∷ [] in
    ap (λ t. 40 ∷ t)
    (text_of-append (print x) (more_pieces print xs ++ closed)
    ∙ ap (λ t. text_of (print x) ++ t) (text_of-append (more_pieces print xs) closed ∙ ap (λ t. t ++ 41 ∷ []) (more-text print xs)))

-- the parameters up to a place, the one there, and those after it
pub more_text-append : {P : Type 0} (print : P → List Piece) (xs ys : List P) → more_text print (xs ++ ys) ≡ more_text print xs ++ more_text print ys
more_text-append print [] ys = refl
more_text-append print (x ∷ xs) ys = ap (λ t. 44 ∷ text_of (print x) ++ t) (more_text-append print xs ys) ∙ sym (append_assoc (44 ∷ text_of (print x)) (more_text print xs) (more_text print ys))

gap-last : (runs_on : Bool) → gap_text runs_on false ++ [] ≡ []
gap-last true = refl
gap-last false = refl

gap-string : {P : Type 0} (print : P → List Piece) (runs_on : Bool) (xs : List (Symbol P)) → gap_text runs_on (begins_with_letter xs) ++ text_of (string_pieces print xs) ≡ symbols_after print runs_on xs
gap-string print runs_on [] = gap-last runs_on
gap-string print runs_on (x ∷ xs) =
    let rest = gap (ends_in_name x) (begins_with_letter xs) ++ string_pieces print xs in
    ap (λ t. gap_text runs_on (starts_with_letter x) ++ t)
    (text_of-append (symbol_pieces print x) rest
    ∙ ap (λ t. text_of (symbol_pieces print x) ++ t)
    (text_of-append (gap (ends_in_name x) (begins_with_letter xs)) (string_pieces print xs) ∙ gap-string print (ends_in_name x) xs))
    ∙ sym (append_assoc (gap_text runs_on (starts_with_letter x)) (text_of (symbol_pieces print x)) (symbols_after print (ends_in_name x) xs))

-- a printed string is its symbols, each after its blank
pub string-text : {P : Type 0} (print : P → List Piece) (xs : List (Symbol P)) → text_of (string_pieces print xs) ≡ symbols_after print false xs
string-text print xs = gap-string print false xs

-- the last symbol runs on, or, where there is none, the one before
abbrev pub last_runs_on : {P : Type 0} → Bool → List (Symbol P) → Bool
last_runs_on runs_on [] = runs_on
last_runs_on runs_on (x ∷ xs) = last_runs_on (ends_in_name x) xs

-- symbols, and others after them
pub symbols_after-append : {P : Type 0} (print : P → List Piece) (runs_on : Bool) (xs ys : List (Symbol P))
    → symbols_after print runs_on (xs ++ ys) ≡ symbols_after print runs_on xs ++ symbols_after print (last_runs_on runs_on xs) ys
symbols_after-append print runs_on [] ys = refl
symbols_after-append print runs_on (x ∷ xs) ys =
    ap (λ t. symbol_after print runs_on x ++ t) (symbols_after-append print (ends_in_name x) xs ys)
    ∙ sym (append_assoc (symbol_after print runs_on x) (symbols_after print (ends_in_name x) xs) (symbols_after print (last_runs_on (ends_in_name x) xs) ys))

pub last_runs_on-append : {P : Type 0} (runs_on : Bool) (xs : List (Symbol P)) (y : Symbol P) → last_runs_on runs_on (xs ++ y ∷ []) ≡ ends_in_name y
last_runs_on-append runs_on [] y = refl
last_runs_on-append runs_on (x ∷ xs) y = last_runs_on-append (ends_in_name x) xs y

-- a module is its name and its parameters
pub module-after : {P : Type 0} (print : P → List Piece) (runs_on : Bool) (name : ModuleName) (params : List P) → symbol_after print runs_on (Module name params) ≡ name_after runs_on name ++ params_text print params
module-after print runs_on name params = sym (append_assoc (gap_text runs_on (is_letters name)) (module_name_text name) (params_text print params))

-- one more symbol
pub one-more : {P : Type 0} (print : P → List Piece) (runs_on : Bool) (xs : List (Symbol P)) (y : Symbol P) → symbols_after print runs_on (xs ++ y ∷ []) ≡ symbols_after print runs_on xs ++ symbol_after print (last_runs_on runs_on xs) y
one-more print runs_on xs y = symbols_after-append print runs_on xs (y ∷ []) ∙ ap (λ t. symbols_after print runs_on xs ++ t) (append-nil (symbol_after print (last_runs_on runs_on xs) y))

-- one more item, as the symbol that it stands for
pub map-more : {X S : Type 0} (f : X → S) (items : List X) (i : ℕ) (d : X) → i < length items → d ≡ get_or items i d → map f (take (i + 1) items) ≡ map f (take i items) ++ f d ∷ []
map-more f items i d h e = ap (map f) (take_more items i d h ∙ ap (λ x. take i items ++ x ∷ []) (sym e)) ∙ map-append f (take i items) (d ∷ [])

-- the parameters up to a place, and the one there
pub more_text-step : {X P : Type 0} (print : P → List Piece) (f : X → P) (xs : List X) (i : ℕ) (d : X) → i < length xs → d ≡ get_or xs i d
    → more_text print (map f (take (i + 1) xs)) ≡ more_text print (map f (take i xs)) ++ 44 ∷ text_of (print (f d))
more_text-step print f xs i d h e =
    ap (more_text print) (map-more f xs i d h e) ∙ more_text-append print (map f (take i xs)) (f d ∷ [])
    ∙ ap (λ t. more_text print (map f (take i xs)) ++ 44 ∷ t) (append-nil (text_of (print (f d))))

-- the parameters up to a place, and those after it
pub more_text-rest : {X P : Type 0} (print : P → List Piece) (f : X → P) (xs : List X) (i : ℕ) → more_text print (map f xs) ≡ more_text print (map f (take i xs)) ++ more_text print (map f (drop i xs))
more_text-rest print f xs i =
    ap (λ ys. more_text print (map f ys)) (sym (take-append-drop i xs)) ∙ ap (more_text print) (map-append f (take i xs) (drop i xs))
    ∙ more_text-append print (map f (take i xs)) (map f (drop i xs))

-- the items up to a place and the one there, put as symbols
pub symbols-step : {X P : Type 0} (print : P → List Piece) (f : X → Symbol P) (runs_on : Bool) (items : List X) (i : ℕ) (d : X) → i < length items → d ≡ get_or items i d
    → symbols_after print runs_on (map f (take (i + 1) items)) ≡ symbols_after print runs_on (map f (take i items)) ++ symbol_after print (last_runs_on runs_on (map f (take i items))) (f d)
symbols-step print f runs_on items i d h e = ap (symbols_after print runs_on) (map-more f items i d h e) ∙ one-more print runs_on (map f (take i items)) (f d)

pub runs_on-step : {X P : Type 0} (f : X → Symbol P) (runs_on : Bool) (items : List X) (i : ℕ) (d : X) → i < length items → d ≡ get_or items i d → last_runs_on runs_on (map f (take (i + 1) items)) ≡ ends_in_name (f d)
runs_on-step f runs_on items i d h e = ap (last_runs_on runs_on) (map-more f items i d h e) ∙ last_runs_on-append runs_on (map f (take i items)) (f d)

-- the items up to a place, and those after it, put as a string
pub string-rest : {X P : Type 0} (print : P → List Piece) (f : X → Symbol P) (items : List X) (i : ℕ)
    → text_of (string_pieces print (map f items)) ≡ symbols_after print false (map f (take i items)) ++ symbols_after print (last_runs_on false (map f (take i items))) (map f (drop i items))
string-rest print f items i =
    string-text print (map f items) ∙ ap (λ xs. symbols_after print false (map f xs)) (sym (take-append-drop i items))
    ∙ ap (symbols_after print false) (map-append f (take i items) (drop i items)) ∙ symbols_after-append print false (map f (take i items)) (map f (drop i items))
