-- The facts that a scan keeps tell the verdict.
use Rattle.std.proofs.Common.{◌≡◌, ℕ, zero, suc, ◌+◌, ◌-◌, ◌^◌, Bool, true, false, nat_lt, nat_le, Option, Some, None, List, [], ◌∷◌, refl, ap, arith, option_map, if◌then◌else◌}
use Rattle.lsys_syntax.specs.Tokens as syntax
use Rattle.lsys_syntax.specs.Strings.{ModuleName, named, plus, minus, ampersand, caret, backslash, slash, bar, bang, Symbol, Module, Push, Pop, Cut, Signed, unsigned, minus_sign}
use Rattle.lsys_syntax.specs.RuleMachine.{reversed, reversed_onto, open_in, where_closed}
use Rattle.lsys_syntax.specs.Commands.{set_axiom}
use Rattle.lsys_syntax.specs.LineMachine.{AxiomState, Symbols, NumberDue, MinusRead, NumberRead, State, InAxiom, Stop, axiom_popped, if_small, axiom_step, axiom_symbols_step, number_due_step, minus_step, number_read_step, Verdict, stops, sentence_or_stop, is_stop, line_depth, nesting_bound, verdict_from}
use Rattle.lsys_syntax.proofs.LineSound.{after_tests, verdict-tests}
use Rattle.lsys_module.specs.declared.scan.ScanSpot.{ScanSpot}
use Rattle.lsys_module.specs.declared.scan.ScanSpot.TheVariants as spots
use Rattle.lsys_module.specs.declared.scan.Progress.{Progress}
use Rattle.lsys_module.specs.Scanning.{TellsString, glyph_of, branch_closed, params_opened, between_step, param_step, progress_step, may_end, refused_from}

-- the last symbol is a module without parameters
abbrev pub is_bare : List (Symbol Signed) → Bool
is_bare (Module n [] ∷ r) = true
is_bare r = false

-- the facts that a scan keeps of what was read
abbrev pub progress_of : AxiomState → Progress
progress_of (Symbols r) = record { spot = spots.Between (is_bare r); branches = open_in r }
progress_of (NumberDue r n zs) = record { spot = spots.NumberDue; branches = open_in r }
progress_of (MinusRead r n zs) = record { spot = spots.MinusRead; branches = open_in r }
progress_of (NumberRead r n zs) = record { spot = spots.NumberRead; branches = open_in r }

-- after a number there is one
abbrev pub IsReached : AxiomState → Type 0
IsReached (NumberRead r n []) = ⊥
IsReached a = Unit {0}

-- the state is another one of a string, of which these are the facts; or there is none
abbrev pub StepsTo : Option Progress → State → Type 0
StepsTo None s = s ≡ Stop
StepsTo (Some q) s = (a : AxiomState) × (s ≡ InAxiom a) × (progress_of a ≡ q) × IsReached a

symbols-opened : (r : List (Symbol Signed)) → StepsTo (params_opened (is_bare r) (open_in r)) (axiom_symbols_step syntax.LeftParen r)
symbols-opened [] = refl
symbols-opened (Module n [] ∷ r) = (NumberDue r n [], refl, refl, tt)
symbols-opened (Module n (z ∷ zs) ∷ r) = refl
symbols-opened (Push ∷ r) = refl
symbols-opened (Pop ∷ r) = refl
symbols-opened (Cut ∷ r) = refl

symbols-closed : (r : List (Symbol Signed)) (n : ℕ) → open_in r ≡ n → StepsTo (branch_closed n) (axiom_popped n (InAxiom (Symbols (Pop ∷ r))))
symbols-closed r zero e = refl
symbols-closed r (suc n) e =
    let less : open_in r - 1 ≡ n = omega (arith, e) in
    (Symbols (Pop ∷ r), refl, ap (λ m. record { spot = spots.Between false; branches = m }) less, tt)

symbols-step : (r : List (Symbol Signed)) (k : syntax.Kind) → StepsTo (between_step (glyph_of k) (is_bare r) (open_in r)) (axiom_symbols_step k r)
symbols-step r (syntax.Name n) = (Symbols (Module (named n) [] ∷ r), refl, refl, tt)
symbols-step r syntax.Plus = (Symbols (Module plus [] ∷ r), refl, refl, tt)
symbols-step r syntax.Minus = (Symbols (Module minus [] ∷ r), refl, refl, tt)
symbols-step r syntax.Ampersand = (Symbols (Module ampersand [] ∷ r), refl, refl, tt)
symbols-step r syntax.Caret = (Symbols (Module caret [] ∷ r), refl, refl, tt)
symbols-step r syntax.Backslash = (Symbols (Module backslash [] ∷ r), refl, refl, tt)
symbols-step r syntax.Slash = (Symbols (Module slash [] ∷ r), refl, refl, tt)
symbols-step r syntax.Bar = (Symbols (Module bar [] ∷ r), refl, refl, tt)
symbols-step r syntax.Bang = (Symbols (Module bang [] ∷ r), refl, refl, tt)
symbols-step r syntax.LeftBracket = (Symbols (Push ∷ r), refl, refl, tt)
symbols-step r syntax.RightBracket = symbols-closed r (open_in r) refl
symbols-step r syntax.Percent = (Symbols (Cut ∷ r), refl, refl, tt)
symbols-step r syntax.LeftParen = symbols-opened r
symbols-step r k = refl

-- in parentheses, with so many open branches
abbrev within : ℕ → Option ScanSpot → Option Progress
within m None = None
within m (Some s) = Some (record { spot = s; branches = m })

small-number : (r : List (Symbol Signed)) (n : ModuleName) (z : Signed) (zs : List Signed) (b : Bool) → StepsTo (within (open_in r) (if b then Some spots.NumberRead else None)) (if_small b (InAxiom (NumberRead r n (z ∷ zs))))
small-number r n z zs true = (NumberRead r n (z ∷ zs), refl, refl, tt)
small-number r n z zs false = refl

number_due-step : (r : List (Symbol Signed)) (n : ModuleName) (zs : List Signed) (k : syntax.Kind) → StepsTo (within (open_in r) (param_step spots.NumberDue (glyph_of k))) (number_due_step k r n zs)
number_due-step r n zs (syntax.Number m) = small-number r n (unsigned m) zs (nat_lt m (2 ^ 63))
number_due-step r n zs syntax.Minus = (MinusRead r n zs, refl, refl, tt)
number_due-step r n zs k = refl

minus-step : (r : List (Symbol Signed)) (n : ModuleName) (zs : List Signed) (k : syntax.Kind) → StepsTo (within (open_in r) (param_step spots.MinusRead (glyph_of k))) (minus_step k r n zs)
minus-step r n zs (syntax.Number m) = small-number r n (minus_sign m) zs (nat_le m (2 ^ 63))
minus-step r n zs k = refl

bare-after : (n : ModuleName) (ys : List Signed) (z : Signed) (zs : List Signed) (r : List (Symbol Signed)) → is_bare (Module n (reversed_onto zs (z ∷ ys)) ∷ r) ≡ false
bare-after n ys z [] r = refl
bare-after n ys z (y ∷ zs) r = bare-after n (z ∷ ys) y zs r

number_read-step : (r : List (Symbol Signed)) (n : ModuleName) (z : Signed) (zs : List Signed) (k : syntax.Kind) → StepsTo (within (open_in r) (param_step spots.NumberRead (glyph_of k))) (number_read_step k r n (z ∷ zs))
number_read-step r n z zs syntax.Comma = (NumberDue r n (z ∷ zs), refl, refl, tt)
number_read-step r n z zs syntax.RightParen =
    (Symbols (Module n (reversed (z ∷ zs)) ∷ r), refl, ap (λ b. record { spot = spots.Between b; branches = open_in r }) (bare-after n [] z zs r), tt)
number_read-step r n z zs k = refl

along : (o : Option ScanSpot) (m : ℕ) (s : State) → StepsTo (within m o) s → StepsTo (option_map (λ spot. record { spot = spot; branches = m }) o) s
along None m s h = h
along (Some spot) m s h = h

axiom-step : (a : AxiomState) → IsReached a → (k : syntax.Kind) → StepsTo (progress_step (progress_of a) (glyph_of k)) (axiom_step a k)
axiom-step (Symbols r) h k = symbols-step r k
axiom-step (NumberDue r n zs) h k = along (param_step spots.NumberDue (glyph_of k)) (open_in r) (number_due_step k r n zs) (number_due-step r n zs k)
axiom-step (MinusRead r n zs) h k = along (param_step spots.MinusRead (glyph_of k)) (open_in r) (minus_step k r n zs) (minus-step r n zs k)
axiom-step (NumberRead r n []) h k = elim h [ ]
axiom-step (NumberRead r n (z ∷ zs)) h k = along (param_step spots.NumberRead (glyph_of k)) (open_in r) (number_read_step k r n (z ∷ zs)) (number_read-step r n z zs k)

-- no place is refused, and the verdict is that of a string; or it is the place
abbrev pub IsVerdict : Option ℕ → Verdict → Type 0
IsVerdict None v = TellsString v
IsVerdict (Some place) v = v ≡ stops place

closed-end : (n : ℕ) (b : Bool) (m : ℕ) (xs : List (Symbol Signed)) → IsVerdict (if may_end (spots.Between b) m then None else Some n) (sentence_or_stop n (where_closed m (Some (set_axiom xs))))
closed-end n b zero xs = (xs, refl)
closed-end n b (suc m) xs = refl

at_end : (n : ℕ) (a : AxiomState) → IsVerdict (refused_from n (progress_of a) []) (verdict_from n (InAxiom a) [])
at_end n (Symbols r) = closed-end n (is_bare r) (open_in r) (reversed r)
at_end n (NumberDue r m zs) = refl
at_end n (MinusRead r m zs) = refl
at_end n (NumberRead r m zs) = refl

abbrev pub after_step : ℕ → List syntax.Kind → Option Progress → Option ℕ
after_step n ks None = Some n
after_step n ks (Some q) = refused_from (n + 1) q ks

stepped : (n : ℕ) (ks : List syntax.Kind) → ((n : ℕ) (a : AxiomState) → IsReached a → IsVerdict (refused_from n (progress_of a) ks) (verdict_from n (InAxiom a) ks)) → (o : Option Progress) (s : State) → StepsTo o s
    → IsVerdict (after_step n ks o) (after_tests (is_stop s) (nat_lt nesting_bound (line_depth s)) n (verdict_from (n + 1) s ks))
stepped n ks rest None s h = rw h refl
stepped n ks rest (Some q) s h = rw (h.1, ← h.2) (rest (n + 1) h.0 h.3)

pub refused-step : (n : ℕ) (p : Progress) (k : syntax.Kind) (ks : List syntax.Kind) → refused_from n p (k ∷ ks) ≡ after_step n ks (progress_step p (glyph_of k))
refused-step n p k ks = split (progress_step p (glyph_of k))
  where
    split : (o : Option Progress) → elim o [ None ↦ Some n | Some q ↦ refused_from (n + 1) q ks ] ≡ after_step n ks o
    split None = refl
    split (Some q) = refl

-- A scan finds the verdict.
pub scan-verdict : (ks : List syntax.Kind) (n : ℕ) (a : AxiomState) → IsReached a → IsVerdict (refused_from n (progress_of a) ks) (verdict_from n (InAxiom a) ks)
scan-verdict [] n a h = at_end n a
scan-verdict (k ∷ ks) n a h =
    rw (refused-step n (progress_of a) k ks, verdict-tests n (InAxiom a) k ks)
    (stepped n ks (scan-verdict ks) (progress_step (progress_of a) (glyph_of k)) (axiom_step a k) (axiom-step a h k))
