-- A string's tokens, read one after another: its values, or the token at which it passes a limit.
use Rattle.std.proofs.Common.{◌≡◌, ℕ, ℤ, pos, ◌+◌, ◌≤◌, ◌^◌, ◌||◌, Bool, true, false, nat_lt, nat_le, Option, Some, None, Result, Ok, Err, List, [], ◌∷◌, ◌++◌, length, map, option_map, refl, ap, ◌∙◌, sym, arith, append_assoc, append-nil, length-append, if◌then◌else◌}
use Rattle.std.proofs.lemmas.Bool.Decides.{nat_tests}
use Rattle.lsys_syntax.specs.Limits.{most_params, most_axiom_symbols}
use Rattle.lsys_syntax.specs.Tokens.{Kind, LeftParen, RightParen, LeftBracket, RightBracket, Percent, Comma, Minus, Number}
use Rattle.lsys_syntax.specs.Pieces.{Piece, token, note, a_symbol, a_param, kinds_of}
use Rattle.lsys_syntax.specs.Strings.{ModuleName, named, plus, minus, ampersand, caret, backslash, slash, bar, bang, name_kind, Symbol, Module, Push, Pop, Cut, Signed, unsigned, minus_sign, negative, signed_value, signed_pieces, more_pieces, symbol_pieces, gap, ends_in_name, begins_with_letter, string_pieces, EachOf, IsSymbol, IsSigned}
use Rattle.lsys_syntax.specs.Checks.{Counts, passes_limit, many_place}
use Rattle.lsys_spec.specs.Edits.{values_of}
use Rattle.lsys_module.specs.declared.glyph.StringGlyph.TheVariants as glyphs
use Rattle.lsys_module.specs.Scanning.{glyph_of}
use Rattle.lsys_module.specs.Building as B
use Rattle.lsys_module.specs.Building.{Draft, whole, number_due, minus_read, number_read, draft_step, draft_limit, draft_end, kind_name}
use Rattle.lsys_module.proofs.Drafts.{with_name, named-step, named-limit}

-- the symbols of a string, or the token at which it passes a limit; none where the tokens are no string
abbrev pub Outcome : Type 0
Outcome = Option (Result (List (Symbol ℤ)) ℕ)

-- the tokens from number n on, read one after another
abbrev pub run : ℕ → Draft → List Kind → Outcome
run n d [] = option_map Ok (draft_end d)
run n d (k ∷ ks) = elim (draft_limit d (glyph_of k)) [
  | true ↦ Some (Err n)
  | false ↦ elim (draft_step d (glyph_of k) (kind_name k)) [ None ↦ None | Some e ↦ run (n + 1) e ks ]
]

abbrev pub after_turn : ℕ → List Kind → Bool → Option Draft → Outcome
after_turn n ks true o = Some (Err n)
after_turn n ks false None = None
after_turn n ks false (Some e) = run (n + 1) e ks

pub run-turn : (n : ℕ) (d : Draft) (k : Kind) (ks : List Kind) → run n d (k ∷ ks) ≡ after_turn n ks (draft_limit d (glyph_of k)) (draft_step d (glyph_of k) (kind_name k))
run-turn n d k ks = split (draft_limit d (glyph_of k)) (draft_step d (glyph_of k) (kind_name k))
  where
    split : (b : Bool) (o : Option Draft) → elim b [ true ↦ Some (Err n) | false ↦ elim o [ None ↦ None | Some e ↦ run (n + 1) e ks ] ] ≡ after_turn n ks b o
    split true o = refl
    split false None = refl
    split false (Some e) = refl

abbrev pub outcome : Option ℕ → List (Symbol ℤ) → Outcome
outcome None xs = Some (Ok xs)
outcome (Some place) xs = Some (Err place)

-- counts of an axiom
abbrev counted : ℕ → ℕ → ℕ → Counts
counted t n p = record { tokens = t; most_tokens = None; expr_tokens = 0; inside = false; symbols = n; most = most_axiom_symbols; params = p }

only_first : (a : Bool) → (((a || false) || false) || false) ≡ a
only_first true = refl
only_first false = refl

only_second : (b : Bool) → (((false || b) || false) || false) ≡ b
only_second true = refl
only_second false = refl

within : (m n : ℕ) → n ≤ m → nat_lt m n ≡ false
within m n h = grind (arith, nat_tests)

begins-passes : (t n : ℕ) → passes_limit (counted t n 0) ≡ nat_lt most_axiom_symbols n
begins-passes t n = only_first (nat_lt most_axiom_symbols n)

goes_on-passes : (t n p : ℕ) → n ≤ most_axiom_symbols → passes_limit (counted t n p) ≡ nat_lt most_params p
goes_on-passes t n p k = rw (within most_axiom_symbols n k) (only_second (nat_lt most_params p))

joined : (b : Bool) (place : ℕ) (ks : List Kind) (e : Draft) (o : Option ℕ) (out : List (Symbol ℤ)) → (b ≡ false → run (place + 1) e ks ≡ outcome o out) → after_turn place ks b (Some e) ≡ outcome (if b then Some place else o) out
joined true place ks e o out h = refl
joined false place ks e o out h = h refl

below : (m n : ℕ) → nat_lt m n ≡ false → n ≤ m
below m n h = grind (arith, nat_tests)

-- a token that begins a symbol
begins : (t p place : ℕ) (ys : List (Symbol ℤ)) (k : Kind) (ps : List Piece) (e : Draft) (out : List (Symbol ℤ)) → draft_step (whole ys) (glyph_of k) (kind_name k) ≡ Some e
    → (length ys + 1 ≤ most_axiom_symbols → run (place + 1) e (kinds_of ps) ≡ outcome (many_place (counted (t + 1) (length ys + 1) 0) (place + 1) ps) out)
    → run place (whole ys) (k ∷ kinds_of ps) ≡ outcome (many_place (counted t (length ys) p) place (note a_symbol ∷ token k ∷ ps)) out
begins t p place ys k ps e out step rest =
    let more : Option ℕ = many_place (counted (t + 1) (length ys + 1) 0) (place + 1) ps in
    let limit : passes_limit (counted (t + 1) (length ys + 1) 0) ≡ nat_lt most_axiom_symbols (length ys + 1) = begins-passes (t + 1) (length ys + 1) in
    run-turn place (whole ys) k (kinds_of ps)
    ∙ ap (after_turn place (kinds_of ps) (nat_lt most_axiom_symbols (length ys + 1))) step
    ∙ joined (nat_lt most_axiom_symbols (length ys + 1)) place (kinds_of ps) e more out (λ b. rest (below most_axiom_symbols (length ys + 1) b))
    ∙ ap (λ b. outcome (if b then Some place else more) out) (sym limit)

-- any other token
goes_on : (t n p place : ℕ) (d : Draft) (k : Kind) (ps : List Piece) (e : Draft) (out : List (Symbol ℤ)) → n ≤ most_axiom_symbols → draft_limit d (glyph_of k) ≡ nat_lt most_params p → draft_step d (glyph_of k) (kind_name k) ≡ Some e
    → (p ≤ most_params → run (place + 1) e (kinds_of ps) ≡ outcome (many_place (counted (t + 1) n p) (place + 1) ps) out)
    → run place d (k ∷ kinds_of ps) ≡ outcome (many_place (counted t n p) place (token k ∷ ps)) out
goes_on t n p place d k ps e out small limit step rest =
    let more : Option ℕ = many_place (counted (t + 1) n p) (place + 1) ps in
    let passed : passes_limit (counted (t + 1) n p) ≡ nat_lt most_params p = goes_on-passes (t + 1) n p small in
    run-turn place d k (kinds_of ps)
    ∙ ap (λ b. after_turn place (kinds_of ps) b (draft_step d (glyph_of k) (kind_name k))) limit
    ∙ ap (after_turn place (kinds_of ps) (nat_lt most_params p)) step
    ∙ joined (nat_lt most_params p) place (kinds_of ps) e more out (λ b. rest (below most_params p b))
    ∙ ap (λ b. outcome (if b then Some place else more) out) (sym passed)

-- after whole symbols the pieces add these
abbrev Runs : List Piece → List (Symbol ℤ) → Type 0
Runs ps more = (t p place : ℕ) (ys : List (Symbol ℤ)) → length ys ≤ most_axiom_symbols → run place (whole ys) (kinds_of ps) ≡ outcome (many_place (counted t (length ys) p) place ps) (ys ++ more)

-- one symbol more
added : (t p place : ℕ) (ys : List (Symbol ℤ)) (x : Symbol ℤ) (ps : List Piece) (more : List (Symbol ℤ)) → length ys + 1 ≤ most_axiom_symbols → Runs ps more
    → run place (whole (ys ++ x ∷ [])) (kinds_of ps) ≡ outcome (many_place (counted t (length ys + 1) p) place ps) (ys ++ x ∷ more)
added t p place ys x ps more small runs =
    let long : length (ys ++ x ∷ []) ≡ length ys + 1 = length-append ys (x ∷ []) in
    runs t p place (ys ++ x ∷ []) (omega (arith, long))
    ∙ ap (λ n. outcome (many_place (counted t n p) place ps) ((ys ++ x ∷ []) ++ more)) long
    ∙ ap (outcome (many_place (counted t (length ys + 1) p) place ps)) (append_assoc ys (x ∷ []) more)

-- a symbol of one token
single : (x : Symbol ℤ) (k : Kind) → ((ys : List (Symbol ℤ)) → draft_step (whole ys) (glyph_of k) (kind_name k) ≡ Some (whole (ys ++ x ∷ []))) → (ps : List Piece) (more : List (Symbol ℤ)) → Runs ps more → Runs (note a_symbol ∷ token k ∷ ps) (x ∷ more)
single x k step ps more runs t p place ys small =
    begins t p place ys k ps (whole (ys ++ x ∷ [])) (ys ++ x ∷ more) (step ys) (λ h. added (t + 1) 0 (place + 1) ys x ps more h runs)

name-step : (ys : List (Symbol ℤ)) (n : ModuleName) → draft_step (whole ys) (glyph_of (name_kind n)) (kind_name (name_kind n)) ≡ Some (B.named ys n)
name-step ys (named n) = refl
name-step ys plus = refl
name-step ys minus = refl
name-step ys ampersand = refl
name-step ys caret = refl
name-step ys backslash = refl
name-step ys slash = refl
name-step ys bar = refl
name-step ys bang = refl

-- the tokens don't begin with `(`
abbrev NoParen : List Kind → Type 0
NoParen [] = Unit {0}
NoParen (LeftParen ∷ ks) = ⊥
NoParen (k ∷ ks) = Unit {0}

not_open : (k : Kind) (ks : List Kind) → NoParen (k ∷ ks) → glyph_of k ≡ glyphs.Open → ⊥
not_open LeftParen ks h e = h
not_open k ks h e = cc

bare-run : (place : ℕ) (ys : List (Symbol ℤ)) (n : ModuleName) (ks : List Kind) → NoParen ks → run place (B.named ys n) ks ≡ run place (with_name ys n) ks
bare-run place ys n [] h = refl
bare-run place ys n (k ∷ ks) h =
    let other : glyph_of k ≡ glyphs.Open → ⊥ = not_open k ks h in
    run-turn place (B.named ys n) k ks
    ∙ ap (λ b. after_turn place ks b (draft_step (B.named ys n) (glyph_of k) (kind_name k))) (named-limit ys n (glyph_of k) other)
    ∙ ap (after_turn place ks (draft_limit (with_name ys n) (glyph_of k))) (named-step ys n (glyph_of k) (kind_name k) other)
    ∙ sym (run-turn place (with_name ys n) k ks)

-- `)`, or `,` and more parameters
abbrev closing : List Signed → List Piece → List Piece
closing [] rest = token RightParen ∷ rest
closing (z ∷ zs) rest = token Comma ∷ note a_param ∷ (signed_pieces z ++ closing zs rest)

closing-pieces : (zs : List Signed) (rest : List Piece) → (more_pieces signed_pieces zs ++ token RightParen ∷ []) ++ rest ≡ closing zs rest
closing-pieces [] rest = refl
closing-pieces (z ∷ zs) rest =
    let last = token RightParen ∷ [] in
    ap (λ ps. token Comma ∷ note a_param ∷ ps)
    (ap (λ ps. ps ++ rest) (append_assoc (signed_pieces z) (more_pieces signed_pieces zs) last)
    ∙ append_assoc (signed_pieces z) (more_pieces signed_pieces zs ++ last) rest
    ∙ ap (λ ps. signed_pieces z ++ ps) (closing-pieces zs rest))

small_plain : (b : Bool) (ys : List (Symbol ℤ)) (n : ModuleName) (us : List ℤ) (m : ℕ) → nat_lt m (2 ^ 63) ≡ true → B.before_number_step ys n us (glyphs.Number m) ≡ Some (number_read ys n (us ++ pos m ∷ []))
small_plain b ys n us m h = rw h refl

small_minus : (ys : List (Symbol ℤ)) (n : ModuleName) (us : List ℤ) (m : ℕ) → nat_lt (length us) most_params ≡ true → nat_le m (2 ^ 63) ≡ true → B.after_minus_step ys n us (glyphs.Number m) ≡ Some (number_read ys n (us ++ negative m ∷ []))
small_minus ys n us m h k = rw (h, k) refl

-- a parameter that is due
number-run : (t place : ℕ) (ys : List (Symbol ℤ)) (n : ModuleName) (us : List ℤ) (z : Signed) (ps : List Piece) (out : List (Symbol ℤ)) → IsSigned z → length ys + 1 ≤ most_axiom_symbols
    → ((u place : ℕ) → length us + 1 ≤ most_params → run place (number_read ys n (us ++ signed_value z ∷ [])) (kinds_of ps) ≡ outcome (many_place (counted u (length ys + 1) (length us + 1)) place ps) out)
    → run place (number_due ys n us) (kinds_of (signed_pieces z ++ ps)) ≡ outcome (many_place (counted t (length ys + 1) (length us + 1)) place (signed_pieces z ++ ps)) out
number-run t place ys n us (unsigned m) ps out g small rest =
    let fits : nat_lt m (2 ^ 63) ≡ true = grind (arith, nat_tests, g) in
    goes_on t (length ys + 1) (length us + 1) place (number_due ys n us) (Number m) ps (number_read ys n (us ++ pos m ∷ [])) out small refl (small_plain true ys n us m fits) (λ h. rest (t + 1) (place + 1) h)
number-run t place ys n us (minus_sign m) ps out g small rest =
    let fits : nat_le m (2 ^ 63) ≡ true = grind (arith, nat_tests, g) in
    goes_on t (length ys + 1) (length us + 1) place (number_due ys n us) Minus (token (Number m) ∷ ps) (minus_read ys n us) out small refl refl (λ h.
    let room : nat_lt (length us) most_params ≡ true = grind (arith, nat_tests, h) in
    goes_on (t + 1) (length ys + 1) (length us + 1) (place + 1) (minus_read ys n us) (Number m) ps (number_read ys n (us ++ negative m ∷ [])) out small (sym (within most_params (length us + 1) h)) (small_minus ys n us m room fits) (λ i. rest (t + 1 + 1) (place + 1 + 1) h))

-- after a parameter
read-run : (zs : List Signed) (ps : List Piece) (more : List (Symbol ℤ)) → Runs ps more → EachOf IsSigned zs → (ys : List (Symbol ℤ)) (n : ModuleName) → length ys + 1 ≤ most_axiom_symbols → (t place : ℕ) (us : List ℤ) → length us ≤ most_params
    → run place (number_read ys n us) (kinds_of (closing zs ps)) ≡ outcome (many_place (counted t (length ys + 1) (length us)) place (closing zs ps)) (ys ++ Module n (us ++ map signed_value zs) ∷ more)
read-run [] ps more runs g ys n small t place us room =
    goes_on t (length ys + 1) (length us) place (number_read ys n us) RightParen ps (whole (ys ++ Module n us ∷ [])) (ys ++ Module n (us ++ []) ∷ more) small (sym (within most_params (length us) room)) refl
    (λ h. added (t + 1) (length us) (place + 1) ys (Module n us) ps more small runs ∙ ap (λ zs. outcome (many_place (counted (t + 1) (length ys + 1) (length us)) (place + 1) ps) (ys ++ Module n zs ∷ more)) (sym (append-nil us)))
read-run (z ∷ zs) ps more runs g ys n small t place us room =
    let v = signed_value z in
    let longer : length (us ++ v ∷ []) ≡ length us + 1 = length-append us (v ∷ []) in
    goes_on t (length ys + 1) (length us) place (number_read ys n us) Comma (note a_param ∷ (signed_pieces z ++ closing zs ps)) (number_due ys n us) (ys ++ Module n (us ++ v ∷ map signed_value zs) ∷ more) small (sym (within most_params (length us) room)) refl
    (λ h. number-run (t + 1) (place + 1) ys n us z (closing zs ps) (ys ++ Module n (us ++ v ∷ map signed_value zs) ∷ more) g.0 small
    (λ u q some.
    read-run zs ps more runs g.1 ys n small u q (us ++ v ∷ []) (omega (arith, longer))
    ∙ ap (λ m. outcome (many_place (counted u (length ys + 1) m) q (closing zs ps)) (ys ++ Module n ((us ++ v ∷ []) ++ map signed_value zs) ∷ more)) longer
    ∙ ap (λ vs. outcome (many_place (counted u (length ys + 1) (length us + 1)) q (closing zs ps)) (ys ++ Module n vs ∷ more)) (append_assoc us (v ∷ []) (map signed_value zs))))

-- a module without parameters
bare-runs : (n : ModuleName) (ps : List Piece) (more : List (Symbol ℤ)) → NoParen (kinds_of ps) → Runs ps more → Runs (note a_symbol ∷ token (name_kind n) ∷ ps) (Module n [] ∷ more)
bare-runs n ps more free runs t p place ys small =
    begins t p place ys (name_kind n) ps (B.named ys n) (ys ++ Module n [] ∷ more) (name-step ys n)
    (λ h. bare-run (place + 1) ys n (kinds_of ps) free ∙ added (t + 1) 0 (place + 1) ys (Module n []) ps more h runs)

-- a module with parameters
module-runs : (n : ModuleName) (z : Signed) (zs : List Signed) → EachOf IsSigned (z ∷ zs) → (ps : List Piece) (more : List (Symbol ℤ)) → Runs ps more → Runs (note a_symbol ∷ token (name_kind n) ∷ token LeftParen ∷ note a_param ∷ (signed_pieces z ++ closing zs ps)) (Module n (map signed_value (z ∷ zs)) ∷ more)
module-runs n z zs g ps more runs t p place ys small =
    let out = ys ++ Module n (map signed_value (z ∷ zs)) ∷ more in
    let params = signed_pieces z ++ closing zs ps in
    begins t p place ys (name_kind n) (token LeftParen ∷ note a_param ∷ params) (B.named ys n) out (name-step ys n)
    (λ h. goes_on (t + 1) (length ys + 1) 0 (place + 1) (B.named ys n) LeftParen (note a_param ∷ params) (number_due ys n []) out h refl refl
    (λ i. number-run (t + 1 + 1) (place + 1 + 1) ys n [] z (closing zs ps) out g.0 h
    (λ u q some. read-run zs ps more runs g.1 ys n h u q (signed_value z ∷ []) some)))

symbol-runs : (x : Symbol Signed) (xs : List (Symbol Signed)) (ps : List Piece) → IsSymbol IsSigned x → NoParen (kinds_of ps) → Runs ps (values_of xs) → Runs (symbol_pieces signed_pieces x ++ ps) (values_of (x ∷ xs))
symbol-runs (Module n []) xs ps g free runs = bare-runs n ps (values_of xs) free runs
symbol-runs (Module n (z ∷ zs)) xs ps g free runs =
    let last = token RightParen ∷ [] in
    let same : (signed_pieces z ++ (more_pieces signed_pieces zs ++ last)) ++ ps ≡ signed_pieces z ++ closing zs ps =
    append_assoc (signed_pieces z) (more_pieces signed_pieces zs ++ last) ps ∙ ap (λ qs. signed_pieces z ++ qs) (closing-pieces zs ps) in
    rw same (module-runs n z zs g.1 ps (values_of xs) runs)
symbol-runs Push xs ps g free runs = single Push LeftBracket (λ ys. refl) ps (values_of xs) runs
symbol-runs Pop xs ps g free runs = single Pop RightBracket (λ ys. refl) ps (values_of xs) runs
symbol-runs Cut xs ps g free runs = single Cut Percent (λ ys. refl) ps (values_of xs) runs

gap-runs : (a b : Bool) (ps : List Piece) (more : List (Symbol ℤ)) → Runs ps more → Runs (gap a b ++ ps) more
gap-runs true true ps more runs = runs
gap-runs true false ps more runs = runs
gap-runs false b ps more runs = runs

name-free : (n : ModuleName) (ks : List Kind) → NoParen (name_kind n ∷ ks)
name-free (named n) ks = tt
name-free plus ks = tt
name-free minus ks = tt
name-free ampersand ks = tt
name-free caret ks = tt
name-free backslash ks = tt
name-free slash ks = tt
name-free bar ks = tt
name-free bang ks = tt

string-free : (xs : List (Symbol Signed)) → NoParen (kinds_of (string_pieces signed_pieces xs))
string-free [] = tt
string-free (Module n zs ∷ xs) = name-free n _
string-free (Push ∷ xs) = tt
string-free (Pop ∷ xs) = tt
string-free (Cut ∷ xs) = tt

gap-free : (a b : Bool) (ps : List Piece) → NoParen (kinds_of ps) → NoParen (kinds_of (gap a b ++ ps))
gap-free true true ps h = h
gap-free true false ps h = h
gap-free false b ps h = h

-- a string is read as its values, or refused at the token at which it passes a limit
pub string-runs : (xs : List (Symbol Signed)) → EachOf (IsSymbol IsSigned) xs → Runs (string_pieces signed_pieces xs) (values_of xs)
string-runs [] g = λ t p place ys small. ap (λ zs. Some (Ok zs)) (sym (append-nil ys))
string-runs (x ∷ xs) g =
    let a = ends_in_name x in
    let b = begins_with_letter xs in
    let rest = string_pieces signed_pieces xs in
    symbol-runs x xs (gap a b ++ rest) g.0 (gap-free a b rest (string-free xs)) (gap-runs a b rest (values_of xs) (string-runs xs g.1))
