-- Looking for names, by std's words.
use Rattle.std.proofs.Common.{◌≡◌, ℕ, ◌+◌, ◌-◌, ◌<◌, Bool, true, false, not, cond, ◌||◌, bytes_eq, List, [], ◌∷◌, Some, None, length, map, take, drop, nat_lt, refl, ap, sym, ◌∙◌, arith}
use Rattle.std.specs.List.{list_any, prefix_len, position_or_len, position}
use Rattle.std.proofs.lemmas.List.{take-map, drop-map, length-map}
use Rattle.lsys_syntax.specs.Pieces.{name_text}
use Rattle.lsys_syntax.specs.Checks.{is_formal, is_unknown}
use Rattle.lsys_syntax.specs.Tokens.{Kind}
use Rattle.lsys_spec.specs.Values.{formal_place}
use Rattle.lsys_text.specs.Tokens.{kind_of, name_of}
use Rattle.lsys_text.specs.declared.token_kind.Token.{Token}
use Rattle.lsys_expr.specs.Parts.{names_of, stretch, unknown_in}

-- a formal has this name
abbrev pub is_same : List ℕ → List ℕ → Bool
is_same x f = bytes_eq (name_text (name_of f)) (name_text (name_of x))

-- some formal has the name, by std's word
pub any-formal : (fs : List (List ℕ)) (x : List ℕ) → list_any (is_same x) fs ≡ is_formal (names_of fs) (name_of x)
any-formal [] x = refl
any-formal (f ∷ fs) x = ap (λ b. is_same x f || b) (any-formal fs x)

place_by : (b : Bool) (m n : ℕ) → m ≡ n → cond (not b) (1 + m) 0 ≡ cond b 0 (n + 1)
place_by true m n e = refl
place_by false m n e = omega (arith, e)

-- the place of a name, by std's word
pub first-formal : (fs : List (List ℕ)) (x : List ℕ) → position_or_len (is_same x) fs ≡ formal_place (names_of fs) (name_of x)
first-formal [] x = refl
first-formal (f ∷ fs) x = place_by (is_same x f) _ _ (first-formal fs x)

found_by : (b : Bool) (m n : ℕ) (a : Bool) → (b || a) ≡ true → (a ≡ true → m < n) → cond (not b) (1 + m) 0 < 1 + n
found_by true m n a h f = omega arith
found_by false m n a h f = let l : m < n = f h in omega (arith, l)

-- a formal's name is found
pub formal-found : (fs : List (List ℕ)) (x : List ℕ) → is_formal (names_of fs) (name_of x) ≡ true → position_or_len (is_same x) fs < length fs
formal-found [] x h = cc
formal-found (f ∷ fs) x h =
    let l = found_by (is_same x f) (position_or_len (is_same x) fs) (length fs) (is_formal (names_of fs) (name_of x)) h (formal-found fs x) in omega (arith, l)

prefix-map : {X Y : Type 0} (g : X → Y) (p : Y → Bool) (xs : List X) → prefix_len p (map g xs) ≡ prefix_len (λ x. p (g x)) xs
prefix-map g p [] = refl
prefix-map g p (x ∷ xs) = ap (λ n. cond (p (g x)) (1 + n) 0) (prefix-map g p xs)

-- a search among what was mapped
pub position-map : {X Y : Type 0} (g : X → Y) (p : Y → Bool) (xs : List X) → position p (map g xs) ≡ position (λ x. p (g x)) xs
position-map g p xs =
    let e = prefix-map g (λ y. not (p y)) xs in
    let n : length (map g xs) ≡ length xs = length-map xs g in
    λ i. cond (nat_lt (e i) (n i)) (Some (e i)) None

-- the first unknown name, by the tokens themselves
pub unknown_by_token : (formals : List (List ℕ)) (tokens : List Token) (from to : ℕ)
    → position (λ t. is_unknown (names_of formals) (kind_of t.kind)) (take (to - from) (drop from tokens)) ≡ unknown_in formals (stretch from to tokens)
unknown_by_token formals tokens from to =
    let kind : Token → Kind = λ t. kind_of t.kind in
    sym (position-map kind (is_unknown (names_of formals)) (take (to - from) (drop from tokens)))
    ∙ ap (position (is_unknown (names_of formals))) (sym (ap (take (to - from)) (drop-map kind from tokens) ∙ take-map kind (to - from) (drop from tokens)))
