-- One turn of counting a string.
use Rattle.std.proofs.Common.{◌≡◌, ℕ, ℤ, pos, Bool, ◌&&◌, ◌+◌, true, false, Some, None, List, [], ◌∷◌, ◌++◌, length, nat_lt, nat_le, refl, ap, ◌∙◌, sym, subst, arith, length-append, if◌then◌else◌}
use Rattle.std.proofs.lemmas.Bool.Decides.{nat_tests}
use Rattle.lsys_syntax.specs.Limits.{most_params, most_axiom_symbols, value_bound}
use Rattle.lsys_syntax.specs.Strings.{Symbol, ModuleName, Module, Push, Pop, Cut, negative}
use Rattle.lsys_module.specs.declared.glyph.StringGlyph.{StringGlyph}
use Rattle.lsys_module.specs.declared.glyph.StringGlyph.TheVariants as glyphs
use Rattle.lsys_module.specs.declared.limits.StringCounts.{StringCounts}
use Rattle.lsys_module.specs.declared.limits.CountSpot.{CountSpot}
use Rattle.lsys_module.specs.declared.limits.CountSpot.TheVariants.{Outside, AfterName, ParamDue, InParam}
use Rattle.lsys_module.specs.Building.{Draft, whole, named, number_due, minus_read, number_read, draft_step, draft_limit, before_number_step, after_minus_step, after_number_step}
use Rattle.lsys_module.specs.Counting.{CountsDraft, counter_step, with_symbol, with_param, spot_after, spot_counted}

full : (s : CountSpot) (c : StringCounts) (n : ℕ) → c.symbols ≡ n → nat_lt most_axiom_symbols (n + 1) ≡ true → with_symbol s c ≡ None
full s c n e h =
    let k : nat_le most_axiom_symbols c.symbols ≡ true = grind (arith, nat_tests, e, h) in
    rw k refl

room : (s : CountSpot) (c : StringCounts) (n : ℕ) → c.symbols ≡ n → nat_lt most_axiom_symbols (n + 1) ≡ false → with_symbol s c ≡ Some (record { spot = s; symbols = c.symbols + 1; params = 0 })
room s c n e h =
    let k : nat_le most_axiom_symbols c.symbols ≡ false = grind (arith, nat_tests, e, h) in
    rw k refl

full_params : (c : StringCounts) (n : ℕ) → c.params ≡ n → nat_lt most_params (n + 1) ≡ true → with_param c ≡ None
full_params c n e h =
    let k : nat_le most_params c.params ≡ true = grind (arith, nat_tests, e, h) in
    rw k refl

room_params : (c : StringCounts) (n : ℕ) → c.params ≡ n → nat_lt most_params (n + 1) ≡ false → with_param c ≡ Some (record { spot = InParam; symbols = c.symbols; params = c.params + 1 })
room_params c n e h =
    let k : nat_le most_params c.params ≡ false = grind (arith, nat_tests, e, h) in
    rw k refl

longer : (ys : List (Symbol ℤ)) (x : Symbol ℤ) → length (ys ++ x ∷ []) ≡ length ys + 1
longer ys x = length-append ys (x ∷ [])

-- after a name, a token that begins no parameters
abbrev NoParen : StringGlyph → Type 0
NoParen glyphs.Open = ⊥
NoParen g = Unit {0}

no-paren : (c : StringCounts) (g : StringGlyph) → NoParen g → spot_counted AfterName c g ≡ with_symbol (spot_after g) c
no-paren c glyphs.Name h = refl
no-paren c glyphs.Minus h = refl
no-paren c glyphs.Push h = refl
no-paren c glyphs.Pop h = refl
no-paren c glyphs.Cut h = refl
no-paren c glyphs.Open h = absurd h
no-paren c glyphs.Close h = refl
no-paren c glyphs.Comma h = refl
no-paren c (glyphs.Number k) h = refl
no-paren c glyphs.Other h = refl

-- the token is one too many exactly where the counter says so
pub limit-counted : (d : Draft) (c : StringCounts) (g : StringGlyph) → CountsDraft d c → draft_limit d g ≡ true → counter_step c g ≡ None
limit-counted (whole ys) c g h e = ap (λ s. spot_counted s c g) h.0 ∙ full (spot_after g) c (length ys) h.1 e
limit-counted (named ys n) c glyphs.Name h e = ap (λ s. spot_counted s c glyphs.Name) h.0 ∙ full (spot_after glyphs.Name) c (length (ys ++ Module n [] ∷ [])) (h.1 ∙ sym (longer ys (Module n []))) e
limit-counted (named ys n) c glyphs.Minus h e = ap (λ s. spot_counted s c glyphs.Minus) h.0 ∙ full (spot_after glyphs.Minus) c (length (ys ++ Module n [] ∷ [])) (h.1 ∙ sym (longer ys (Module n []))) e
limit-counted (named ys n) c glyphs.Push h e = ap (λ s. spot_counted s c glyphs.Push) h.0 ∙ full (spot_after glyphs.Push) c (length (ys ++ Module n [] ∷ [])) (h.1 ∙ sym (longer ys (Module n []))) e
limit-counted (named ys n) c glyphs.Pop h e = ap (λ s. spot_counted s c glyphs.Pop) h.0 ∙ full (spot_after glyphs.Pop) c (length (ys ++ Module n [] ∷ [])) (h.1 ∙ sym (longer ys (Module n []))) e
limit-counted (named ys n) c glyphs.Cut h e = ap (λ s. spot_counted s c glyphs.Cut) h.0 ∙ full (spot_after glyphs.Cut) c (length (ys ++ Module n [] ∷ [])) (h.1 ∙ sym (longer ys (Module n []))) e
limit-counted (named ys n) c glyphs.Open h e = cc
limit-counted (named ys n) c glyphs.Close h e = ap (λ s. spot_counted s c glyphs.Close) h.0 ∙ full (spot_after glyphs.Close) c (length (ys ++ Module n [] ∷ [])) (h.1 ∙ sym (longer ys (Module n []))) e
limit-counted (named ys n) c glyphs.Comma h e = ap (λ s. spot_counted s c glyphs.Comma) h.0 ∙ full (spot_after glyphs.Comma) c (length (ys ++ Module n [] ∷ [])) (h.1 ∙ sym (longer ys (Module n []))) e
limit-counted (named ys n) c (glyphs.Number k) h e = ap (λ s. spot_counted s c (glyphs.Number k)) h.0 ∙ full (spot_after (glyphs.Number k)) c (length (ys ++ Module n [] ∷ [])) (h.1 ∙ sym (longer ys (Module n []))) e
limit-counted (named ys n) c glyphs.Other h e = ap (λ s. spot_counted s c glyphs.Other) h.0 ∙ full (spot_after glyphs.Other) c (length (ys ++ Module n [] ∷ [])) (h.1 ∙ sym (longer ys (Module n []))) e
limit-counted (number_due ys n zs) c g h e = ap (λ s. spot_counted s c g) h.0 ∙ full_params c (length zs) h.2 e
limit-counted (minus_read ys n zs) c g h e = cc
limit-counted (number_read ys n zs) c g h e = cc

-- the counter goes on with the token, and counts what is read then
abbrev Goes : StringCounts → StringGlyph → Draft → Type 0
Goes c g e = (b : StringCounts) × (counter_step c g ≡ Some b) × CountsDraft e b

at_some : (P : Draft → Type 0) (x e : Draft) → Some x ≡ Some e → P x → P e
at_some P x e h p = let same : x ≡ e = cc in subst P same p

outside : (c : StringCounts) (g : StringGlyph) (ys : List (Symbol ℤ)) → c.spot ≡ Outside → c.symbols ≡ length ys → nat_lt most_axiom_symbols (length ys + 1) ≡ false → counter_step c g ≡ Some (record { spot = spot_after g; symbols = c.symbols + 1; params = 0 })
outside c g ys s n free = ap (λ t. spot_counted t c g) s ∙ room (spot_after g) c (length ys) n free

after_name : (c : StringCounts) (g : StringGlyph) (ys : List (Symbol ℤ)) (n : ModuleName) → c.spot ≡ AfterName → NoParen g → c.symbols ≡ length ys + 1 → nat_lt most_axiom_symbols (length (ys ++ Module n [] ∷ []) + 1) ≡ false
    → counter_step c g ≡ Some (record { spot = spot_after g; symbols = c.symbols + 1; params = 0 })
after_name c g ys n s none count free = ap (λ t. spot_counted t c g) s ∙ no-paren c g none ∙ room (spot_after g) c (length (ys ++ Module n [] ∷ [])) (count ∙ sym (longer ys (Module n []))) free

either_some : (b : Bool) (x e : Draft) → (if b then Some x else None) ≡ Some e → x ≡ e
either_some true x e h = cc
either_some false x e h = cc

due : (c : StringCounts) (g : StringGlyph) (n : ℕ) → c.spot ≡ ParamDue → c.params ≡ n → nat_lt most_params (n + 1) ≡ false → counter_step c g ≡ Some (record { spot = InParam; symbols = c.symbols; params = c.params + 1 })
due c g n s count free = ap (λ t. spot_counted t c g) s ∙ room_params c n count free

due-counted : (ys : List (Symbol ℤ)) (n : ModuleName) (zs : List ℤ) (e : Draft) (c : StringCounts) (g : StringGlyph) → CountsDraft (number_due ys n zs) c → nat_lt most_params (length zs + 1) ≡ false → before_number_step ys n zs g ≡ Some e → Goes c g e
due-counted ys n zs e c glyphs.Name h free step = cc
due-counted ys n zs e c glyphs.Minus h free step = at_some (Goes c glyphs.Minus) (minus_read ys n zs) e step (_, due c glyphs.Minus (length zs) h.0 h.2 free, (refl, h.1, omega (arith, h.2)))
due-counted ys n zs e c glyphs.Push h free step = cc
due-counted ys n zs e c glyphs.Pop h free step = cc
due-counted ys n zs e c glyphs.Cut h free step = cc
due-counted ys n zs e c glyphs.Open h free step = cc
due-counted ys n zs e c glyphs.Close h free step = cc
due-counted ys n zs e c glyphs.Comma h free step = cc
due-counted ys n zs e c (glyphs.Number k) h free step =
    let read = number_read ys n (zs ++ pos k ∷ []) in
    at_some (Goes c (glyphs.Number k)) read e (ap Some (either_some (nat_lt k value_bound) read e step)) (_, due c (glyphs.Number k) (length zs) h.0 h.2 free, (refl, h.1, omega (arith, h.2, length-append zs (pos k ∷ []))))
due-counted ys n zs e c glyphs.Other h free step = cc

minus-counted : (ys : List (Symbol ℤ)) (n : ModuleName) (zs : List ℤ) (e : Draft) (c : StringCounts) (g : StringGlyph) → CountsDraft (minus_read ys n zs) c → after_minus_step ys n zs g ≡ Some e → Goes c g e
minus-counted ys n zs e c glyphs.Name h step = cc
minus-counted ys n zs e c glyphs.Minus h step = cc
minus-counted ys n zs e c glyphs.Push h step = cc
minus-counted ys n zs e c glyphs.Pop h step = cc
minus-counted ys n zs e c glyphs.Cut h step = cc
minus-counted ys n zs e c glyphs.Open h step = cc
minus-counted ys n zs e c glyphs.Close h step = cc
minus-counted ys n zs e c glyphs.Comma h step = cc
minus-counted ys n zs e c (glyphs.Number k) h step =
    let read = number_read ys n (zs ++ negative k ∷ []) in
    at_some (Goes c (glyphs.Number k)) read e (ap Some (either_some (nat_lt (length zs) most_params && nat_le k value_bound) read e step)) (c, ap (λ t. spot_counted t c (glyphs.Number k)) h.0, (h.0, h.1, omega (arith, h.2, length-append zs (negative k ∷ []))))
minus-counted ys n zs e c glyphs.Other h step = cc

read-counted : (ys : List (Symbol ℤ)) (n : ModuleName) (zs : List ℤ) (e : Draft) (c : StringCounts) (g : StringGlyph) → CountsDraft (number_read ys n zs) c → after_number_step ys n zs g ≡ Some e → Goes c g e
read-counted ys n zs e c glyphs.Name h step = cc
read-counted ys n zs e c glyphs.Minus h step = cc
read-counted ys n zs e c glyphs.Push h step = cc
read-counted ys n zs e c glyphs.Pop h step = cc
read-counted ys n zs e c glyphs.Cut h step = cc
read-counted ys n zs e c glyphs.Open h step = cc
read-counted ys n zs e c glyphs.Close h step = at_some (Goes c glyphs.Close) (whole (ys ++ Module n zs ∷ [])) e step (_, ap (λ t. spot_counted t c glyphs.Close) h.0, (refl, h.1 ∙ sym (longer ys (Module n zs))))
read-counted ys n zs e c glyphs.Comma h step = at_some (Goes c glyphs.Comma) (number_due ys n zs) e step (_, ap (λ t. spot_counted t c glyphs.Comma) h.0, (refl, h.1, h.2))
read-counted ys n zs e c (glyphs.Number k) h step = cc
read-counted ys n zs e c glyphs.Other h step = cc

-- what was counted goes on with the token, where it is not one too many
pub step-counted : (d e : Draft) (c : StringCounts) (g : StringGlyph) (m : ModuleName) → CountsDraft d c → draft_limit d g ≡ false → draft_step d g m ≡ Some e → Goes c g e
step-counted (whole ys) e c glyphs.Name m h free step = at_some (Goes c glyphs.Name) (named ys m) e step (_, outside c glyphs.Name ys h.0 h.1 free, (refl, omega (arith, h.1), refl))
step-counted (whole ys) e c glyphs.Minus m h free step = at_some (Goes c glyphs.Minus) (named ys m) e step (_, outside c glyphs.Minus ys h.0 h.1 free, (refl, omega (arith, h.1), refl))
step-counted (whole ys) e c glyphs.Push m h free step = at_some (Goes c glyphs.Push) (whole (ys ++ Push ∷ [])) e step (_, outside c glyphs.Push ys h.0 h.1 free, (refl, omega (arith, h.1, longer ys Push)))
step-counted (whole ys) e c glyphs.Pop m h free step = at_some (Goes c glyphs.Pop) (whole (ys ++ Pop ∷ [])) e step (_, outside c glyphs.Pop ys h.0 h.1 free, (refl, omega (arith, h.1, longer ys Pop)))
step-counted (whole ys) e c glyphs.Cut m h free step = at_some (Goes c glyphs.Cut) (whole (ys ++ Cut ∷ [])) e step (_, outside c glyphs.Cut ys h.0 h.1 free, (refl, omega (arith, h.1, longer ys Cut)))
step-counted (whole ys) e c glyphs.Open m h free step = cc
step-counted (whole ys) e c glyphs.Close m h free step = cc
step-counted (whole ys) e c glyphs.Comma m h free step = cc
step-counted (whole ys) e c (glyphs.Number k) m h free step = cc
step-counted (whole ys) e c glyphs.Other m h free step = cc
step-counted (named ys n) e c glyphs.Name m h free step = at_some (Goes c glyphs.Name) (named (ys ++ Module n [] ∷ []) m) e step (_, after_name c glyphs.Name ys n h.0 tt h.1 free, (refl, omega (arith, h.1, longer ys (Module n [])), refl))
step-counted (named ys n) e c glyphs.Minus m h free step = at_some (Goes c glyphs.Minus) (named (ys ++ Module n [] ∷ []) m) e step (_, after_name c glyphs.Minus ys n h.0 tt h.1 free, (refl, omega (arith, h.1, longer ys (Module n [])), refl))
step-counted (named ys n) e c glyphs.Push m h free step = at_some (Goes c glyphs.Push) (whole ((ys ++ Module n [] ∷ []) ++ Push ∷ [])) e step (_, after_name c glyphs.Push ys n h.0 tt h.1 free, (refl, omega (arith, h.1, longer ys (Module n []), longer (ys ++ Module n [] ∷ []) Push)))
step-counted (named ys n) e c glyphs.Pop m h free step = at_some (Goes c glyphs.Pop) (whole ((ys ++ Module n [] ∷ []) ++ Pop ∷ [])) e step (_, after_name c glyphs.Pop ys n h.0 tt h.1 free, (refl, omega (arith, h.1, longer ys (Module n []), longer (ys ++ Module n [] ∷ []) Pop)))
step-counted (named ys n) e c glyphs.Cut m h free step = at_some (Goes c glyphs.Cut) (whole ((ys ++ Module n [] ∷ []) ++ Cut ∷ [])) e step (_, after_name c glyphs.Cut ys n h.0 tt h.1 free, (refl, omega (arith, h.1, longer ys (Module n []), longer (ys ++ Module n [] ∷ []) Cut)))
step-counted (named ys n) e c glyphs.Open m h free step = at_some (Goes c glyphs.Open) (number_due ys n []) e step (_, ap (λ t. spot_counted t c glyphs.Open) h.0, (refl, h.1, h.2))
step-counted (named ys n) e c glyphs.Close m h free step = cc
step-counted (named ys n) e c glyphs.Comma m h free step = cc
step-counted (named ys n) e c (glyphs.Number k) m h free step = cc
step-counted (named ys n) e c glyphs.Other m h free step = cc
step-counted (number_due ys n zs) e c g m h free step = due-counted ys n zs e c g h free step
step-counted (minus_read ys n zs) e c g m h free step = minus-counted ys n zs e c g h step
step-counted (number_read ys n zs) e c g m h free step = read-counted ys n zs e c g h step
