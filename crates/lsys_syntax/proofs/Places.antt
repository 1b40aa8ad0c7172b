-- The place of a verdict: a sentence begins with the tokens before it, and none goes on with the token there.
use Rattle.std.proofs.Common.{◌≡◌, ◌⊎◌, inl, inr, ℕ, zero, suc, Bool, true, false, ◌≤◌, ◌<◌, ◌+◌, max, Option, Some, None, List, [], ◌∷◌, ◌++◌, take, drop, length, nat_lt, refl, ap, ◌∙◌, sym, subst, append_assoc, append-nil, arith}
use Rattle.std.proofs.lemmas.Bool.Decides.{nat_tests}
use Rattle.lsys_syntax.specs.Tokens.{Kind}
use Rattle.lsys_syntax.specs.Pieces.{Piece, blank, token, note, kinds_of}
use Rattle.lsys_syntax.specs.Commands.{Command, command_pieces}
use Rattle.lsys_syntax.specs.LineMachine.{State, Fresh, Stop, line_step, finish, line_depth, Verdict, stops, too_deep, sentence_or_stop, is_stop, nesting_bound, verdict_from, verdict}
use Rattle.lsys_syntax.specs.Sentences.{AreTokens, Begins, BeginsDeep, IsSpelling}
use Rattle.lsys_syntax.proofs.Leads.{Leads}
use Rattle.lsys_syntax.proofs.LineComplete.{Calm, Spells, run, calm-depth, command-leads, command-read}
use Rattle.lsys_syntax.proofs.LineHolds.{Holds, step-holds}
use Rattle.lsys_syntax.proofs.LineSound.{after_tests, verdict-tests, not_deep, depth-calm}
use Rattle.lsys_syntax.proofs.LineBegins.{line-begins}

-- no state on the way, the first not counted, is deeper than b
abbrev AllNear : ℕ → State → List Kind → Type 0
AllNear b s [] = Unit {0}
AllNear b s (k ∷ ks) = (line_depth (line_step s k) ≤ b) × AllNear b (line_step s k) ks

run-append : (ks js : List Kind) (s : State) → run s (ks ++ js) ≡ run (run s ks) js
run-append [] js s = refl
run-append (k ∷ ks) js s = run-append ks js (line_step s k)

run-stop : (ks : List Kind) → run Stop ks ≡ Stop
run-stop [] = refl
run-stop (k ∷ ks) = run-stop ks

stop_is : (s : State) → is_stop s ≡ true → s ≡ Stop
stop_is Stop e = refl
stop_is s e = cc

-- what a state that is near has taken
run-holds : (b : ℕ) (ks : List Kind) (s : State) (ts : List Kind) → AreTokens ks → Holds b s ts → AllNear b s ks → Holds b (run s ks) (ts ++ ks)
run-holds b [] s ts g h n = subst (Holds b s) (sym (append-nil ts)) h
run-holds b (k ∷ ks) s ts g h n =
    subst (Holds b (run (line_step s k) ks)) (append_assoc ts (k ∷ []) ks)
    (run-holds b ks (line_step s k) (ts ++ k ∷ []) g.1 (step-holds b s ts k g.0 h (depth-calm b (line_step s k) n.0)) n.1)

-- A sentence begins with tokens that are taken.
taken-begins : (b : ℕ) (ks : List Kind) → AreTokens ks → AllNear b Fresh ks → is_stop (run Fresh ks) ≡ false → Begins b ks
taken-begins b ks g n e = line-begins b (run Fresh ks) ks e (run-holds b ks Fresh [] g refl n)

-- the deepest of the states on the way
abbrev deepest : State → List Kind → ℕ
deepest s [] = 0
deepest s (k ∷ ks) = max (line_depth (line_step s k)) (deepest (line_step s k) ks)

deepest-near : (b : ℕ) (ks : List Kind) (s : State) → deepest s ks ≤ b → AllNear b s ks
deepest-near b [] s h = tt
deepest-near b (k ∷ ks) s h = (omega (arith, h), deepest-near b ks (line_step s k) (omega (arith, h)))

taken-begins-deep : (ks : List Kind) → AreTokens ks → is_stop (run Fresh ks) ≡ false → BeginsDeep ks
taken-begins-deep ks g e = (deepest Fresh ks, taken-begins (deepest Fresh ks) ks g (deepest-near (deepest Fresh ks) ks Fresh (omega arith)) e)

-- Tokens that a sentence begins with are taken.
finish-goes : (s : State) (c : Command) → finish s ≡ Some c → is_stop s ≡ false
finish-goes Stop c e = cc
finish-goes s c e = refl

goes-before : (ks : List Kind) (s : State) → is_stop (run s ks) ≡ false → is_stop s ≡ false
goes-before ks Stop e = sym (ap is_stop (run-stop ks)) ∙ e
goes-before ks s e = refl

begins-taken : (b : ℕ) (ks : List Kind) → Begins b ks → is_stop (run Fresh ks) ≡ false
begins-taken b ks g =
    let c : Command = g.0 in
    let last : finish (run (run Fresh ks) g.1) ≡ Some c =
    ap finish (sym (run-append ks g.1 Fresh) ∙ ap (run Fresh) (sym g.2.0)) ∙ command-read c g.2.1 in
    goes-before g.1 (run Fresh ks) (finish-goes (run (run Fresh ks) g.1) c last)

leads-near : (b : ℕ) (ps : List Piece) (s t : State) → Leads line_step (Calm b) s ps t → AllNear b s (kinds_of ps)
leads-near b [] s t h = tt
leads-near b (blank ∷ ps) s t h = leads-near b ps s t h
leads-near b (note n ∷ ps) s t h = leads-near b ps s t h
leads-near b (token k ∷ ps) s t h = (calm-depth b (line_step s k) h.0, leads-near b ps (line_step s k) t h.1)

near-front : (b : ℕ) (ks js : List Kind) (s : State) → AllNear b s (ks ++ js) → AllNear b s ks
near-front b [] js s h = tt
near-front b (k ∷ ks) js s h = (h.0, near-front b ks js (line_step s k) h.1)

near-last : (b : ℕ) (ks : List Kind) (s : State) → line_depth s ≤ b → AllNear b s ks → line_depth (run s ks) ≤ b
near-last b [] s d h = d
near-last b (k ∷ ks) s d h = near-last b ks (line_step s k) h.0 h.1

begins-near : (b : ℕ) (ks : List Kind) → Begins b ks → line_depth (run Fresh ks) ≤ b
begins-near b ks g =
    let l : Spells b g.0 = command-leads b g.0 g.2.1 g.2.2 in
    near-last b ks Fresh (omega arith) (near-front b ks g.1 Fresh (subst (AllNear b Fresh) g.2.0 (leads-near b (command_pieces g.0) Fresh l.0 l.1)))

-- Where the reading stops: at its first token that isn't taken, or after all of them.
abbrev Blocked : State → List Kind → ℕ → Type 0
Blocked s [] zero = finish s ≡ None
Blocked s [] (suc j) = ⊥
Blocked s (k ∷ ks) zero = line_step s k ≡ Stop
Blocked s (k ∷ ks) (suc j) = Blocked (line_step s k) ks j

-- the j tokens before a place are taken
abbrev Before : State → List Kind → ℕ → Type 0
Before s ks j = AllNear nesting_bound s (take j ks) × (is_stop (run s (take j ks)) ≡ false)

tests-stops : (a d : Bool) (n i : ℕ) (v : Verdict) → after_tests a d n v ≡ stops i → ((a ≡ true) × (n ≡ i)) ⊎ ((a ≡ false) × (d ≡ false) × (v ≡ stops i))
tests-stops true d n i v e = inl (refl, cc)
tests-stops false true n i v e = cc
tests-stops false false n i v e = inr (refl, refl, e)

ended-stops : (n i : ℕ) (o : Option Command) → sentence_or_stop n o ≡ stops i → (o ≡ None) × (n ≡ i)
ended-stops n i None e = (refl, cc)
ended-stops n i (Some c) e = cc

-- Token number j from here is not taken, or there is none; it is number i of the line, of which n stand before.
abbrev StopsAt : State → List Kind → ℕ → ℕ → Type 0
StopsAt s ks n i = (j : ℕ) × (i ≡ n + j) × Before s ks j × Blocked s ks j

stops-next : (s : State) (k : Kind) (ks : List Kind) (n i : ℕ) → is_stop s ≡ false
    → ((is_stop (line_step s k) ≡ true) × (n ≡ i)) ⊎ ((is_stop (line_step s k) ≡ false) × (nat_lt nesting_bound (line_depth (line_step s k)) ≡ false) × (verdict_from (n + 1) (line_step s k) ks ≡ stops i))
    → (is_stop (line_step s k) ≡ false → verdict_from (n + 1) (line_step s k) ks ≡ stops i → StopsAt (line_step s k) ks (n + 1) i) → StopsAt s (k ∷ ks) n i
stops-next s k ks n i g (inl h) f = (0, omega (arith, h.1), (tt, g), stop_is (line_step s k) h.0)
stops-next s k ks n i g (inr h) f =
    let r : StopsAt (line_step s k) ks (n + 1) i = f h.0 h.2 in
    (suc r.0, omega (arith, r.1), ((not_deep nesting_bound (line_depth (line_step s k)) h.1, r.2.0), r.2.1), r.3)

stops-from : (ks : List Kind) (n i : ℕ) (s : State) → is_stop s ≡ false → verdict_from n s ks ≡ stops i → StopsAt s ks n i
stops-from [] n i s g e = let t : (finish s ≡ None) × (n ≡ i) = ended-stops n i (finish s) e in (0, omega (arith, t.1), (tt, g), t.0)
stops-from (k ∷ ks) n i s g e =
    stops-next s k ks n i g (tests-stops (is_stop (line_step s k)) (nat_lt nesting_bound (line_depth (line_step s k))) n i (verdict_from (n + 1) (line_step s k) ks) (sym (verdict-tests n s k ks) ∙ e))
    (λ h q. stops-from ks (n + 1) i (line_step s k) h q)

-- Token number j from here is taken, but too deep.
abbrev DeepAt : State → List Kind → ℕ → ℕ → Type 0
DeepAt s ks n i = (j : ℕ) × (i ≡ n + j) × (j < length ks) × Before s ks j × (is_stop (run s (take (suc j) ks)) ≡ false) × (nesting_bound < line_depth (run s (take (suc j) ks)))

tests-deep : (a d : Bool) (n i : ℕ) (v : Verdict) → after_tests a d n v ≡ too_deep i → (a ≡ false) × (((d ≡ true) × (n ≡ i)) ⊎ ((d ≡ false) × (v ≡ too_deep i)))
tests-deep true d n i v e = cc
tests-deep false true n i v e = (refl, inl (refl, cc))
tests-deep false false n i v e = (refl, inr (refl, e))

ended-deep : (n i : ℕ) (o : Option Command) → sentence_or_stop n o ≡ too_deep i → ⊥
ended-deep n i None e = cc
ended-deep n i (Some c) e = cc

pub is_deep : (m n : ℕ) → nat_lt m n ≡ true → m < n
is_deep m n e = grind (arith, nat_tests, e)

take-none : (ks : List Kind) → take 0 ks ≡ []
take-none [] = refl
take-none (k ∷ ks) = refl

deep-next : (s : State) (k : Kind) (ks : List Kind) (n i : ℕ) → is_stop s ≡ false → is_stop (line_step s k) ≡ false
    → ((nat_lt nesting_bound (line_depth (line_step s k)) ≡ true) × (n ≡ i)) ⊎ ((nat_lt nesting_bound (line_depth (line_step s k)) ≡ false) × (verdict_from (n + 1) (line_step s k) ks ≡ too_deep i))
    → (verdict_from (n + 1) (line_step s k) ks ≡ too_deep i → DeepAt (line_step s k) ks (n + 1) i) → DeepAt s (k ∷ ks) n i
deep-next s k ks n i g t (inl h) f =
    let one : run s (take 1 (k ∷ ks)) ≡ line_step s k = ap (run (line_step s k)) (take-none ks) in
    (0, omega (arith, h.1), omega arith, (tt, g), ap is_stop one ∙ t, subst (λ x. nesting_bound < line_depth x) (sym one) (is_deep nesting_bound (line_depth (line_step s k)) h.0))
deep-next s k ks n i g t (inr h) f =
    let r : DeepAt (line_step s k) ks (n + 1) i = f h.1 in
    (suc r.0, omega (arith, r.1), omega (arith, r.2), ((not_deep nesting_bound (line_depth (line_step s k)) h.0, r.3.0), r.3.1), r.4, r.5)

deep-from : (ks : List Kind) (n i : ℕ) (s : State) → is_stop s ≡ false → verdict_from n s ks ≡ too_deep i → DeepAt s ks n i
deep-from [] n i s g e = absurd (ended-deep n i (finish s) e)
deep-from (k ∷ ks) n i s g e =
    let v : Verdict = verdict_from (n + 1) (line_step s k) ks in
    let t : (is_stop (line_step s k) ≡ false) × (((nat_lt nesting_bound (line_depth (line_step s k)) ≡ true) × (n ≡ i)) ⊎ ((nat_lt nesting_bound (line_depth (line_step s k)) ≡ false) × (v ≡ too_deep i))) =
    tests-deep (is_stop (line_step s k)) (nat_lt nesting_bound (line_depth (line_step s k))) n i v (sym (verdict-tests n s k ks) ∙ e) in
    deep-next s k ks n i g t.0 t.1 (λ q. deep-from ks (n + 1) i (line_step s k) t.0 q)

pub tokens-front : (n : ℕ) (ks : List Kind) → AreTokens ks → AreTokens (take n ks)
tokens-front zero ks g = subst AreTokens (sym (take-none ks)) tt
tokens-front (suc n) [] g = tt
tokens-front (suc n) (k ∷ ks) g = (g.0, tokens-front n ks g.1)

pub tokens-rest : (n : ℕ) (ks : List Kind) → AreTokens ks → AreTokens (drop n ks)
tokens-rest zero ks g = g
tokens-rest (suc n) [] g = tt
tokens-rest (suc n) (k ∷ ks) g = tokens-rest n ks g.1

blocked-inside : (ks : List Kind) (j : ℕ) (s : State) → j < length ks → Blocked s ks j → run s (take (suc j) ks) ≡ Stop
blocked-inside [] j s h b = absurd (omega arith)
blocked-inside (k ∷ ks) zero s h b = ap (run (line_step s k)) (take-none ks) ∙ b
blocked-inside (k ∷ ks) (suc j) s h b = blocked-inside ks j (line_step s k) (omega (arith, h)) b

blocked-end : (ks : List Kind) (j : ℕ) (s : State) → length ks ≤ j → Blocked s ks j → (j ≡ length ks) × (finish (run s ks) ≡ None)
blocked-end [] zero s h b = (refl, b)
blocked-end [] (suc j) s h b = elim b [ ]
blocked-end (k ∷ ks) zero s h b = absurd (omega (arith, h))
blocked-end (k ∷ ks) (suc j) s h b =
    let r : (j ≡ length ks) × (finish (run (line_step s k) ks) ≡ None) = blocked-end ks j (line_step s k) (omega (arith, h)) b in
    (omega (arith, r.0), r.1)

before-begins : (ks : List Kind) (n j : ℕ) → AreTokens ks → n ≡ 0 + j → Before Fresh ks j → Begins nesting_bound (take n ks)
before-begins ks n j g e h =
    let same : j ≡ n = omega (arith, e) in
    subst (λ i. Begins nesting_bound (take i ks)) same (taken-begins nesting_bound (take j ks) (tokens-front j ks g) h.0 h.1)

-- A sentence begins with the tokens before the place.
pub stop-before : (ks : List Kind) (n : ℕ) → AreTokens ks → verdict ks ≡ stops n → Begins 32 (take n ks)
stop-before ks n g e = let r : StopsAt Fresh ks 0 n = stops-from ks 0 n Fresh refl e in before-begins ks n r.0 g r.1 r.2

-- None begins with these and the token at the place.
pub stop-at : (ks : List Kind) (n : ℕ) → verdict ks ≡ stops n → n < length ks → BeginsDeep (take (suc n) ks) → ⊥
stop-at ks n e h g =
    let r : StopsAt Fresh ks 0 n = stops-from ks 0 n Fresh refl e in
    let same : r.0 ≡ n = omega (arith, r.1) in
    let stop : run Fresh (take (suc n) ks) ≡ Stop = blocked-inside ks n Fresh h (subst (Blocked Fresh ks) same r.3) in
    let both : true ≡ false = sym (ap is_stop stop) ∙ begins-taken g.0 (take (suc n) ks) g.1 in
    cc

-- Where the place is the end, no command is spelled so.
pub stop-end : (ks : List Kind) (n : ℕ) → verdict ks ≡ stops n → length ks ≤ n → (n ≡ length ks) × (IsSpelling ks → ⊥)
stop-end ks n e h =
    let r : StopsAt Fresh ks 0 n = stops-from ks 0 n Fresh refl e in
    let same : r.0 ≡ n = omega (arith, r.1) in
    let last : (n ≡ length ks) × (finish (run Fresh ks) ≡ None) = blocked-end ks n Fresh h (subst (Blocked Fresh ks) same r.3) in
    (last.0, λ g. none g.0 (sym last.1 ∙ ap (λ js. finish (run Fresh js)) (sym g.2) ∙ command-read g.0 g.1))
  where
    none : (c : Command) → None ≡ Some c → ⊥
    none c q = cc

pub deep-before : (ks : List Kind) (n : ℕ) → AreTokens ks → verdict ks ≡ too_deep n → (n < length ks) × Begins 32 (take n ks)
deep-before ks n g e =
    let r : DeepAt Fresh ks 0 n = deep-from ks 0 n Fresh refl e in
    let same : r.0 ≡ n = omega (arith, r.1) in
    (omega (arith, same, r.2), before-begins ks n r.0 g r.1 r.3)

-- A sentence of a greater nesting goes on with the token at the place,
pub deep-at : (ks : List Kind) (n : ℕ) → AreTokens ks → verdict ks ≡ too_deep n → BeginsDeep (take (suc n) ks)
deep-at ks n g e =
    let r : DeepAt Fresh ks 0 n = deep-from ks 0 n Fresh refl e in
    let same : r.0 ≡ n = omega (arith, r.1) in
    taken-begins-deep (take (suc n) ks) (tokens-front (suc n) ks g) (subst (λ j. is_stop (run Fresh (take (suc j) ks)) ≡ false) same r.4)

-- and none within the bound does.
pub deep-none : (ks : List Kind) (n : ℕ) → verdict ks ≡ too_deep n → Begins 32 (take (suc n) ks) → ⊥
deep-none ks n e g =
    let r : DeepAt Fresh ks 0 n = deep-from ks 0 n Fresh refl e in
    let same : r.0 ≡ n = omega (arith, r.1) in
    let deep : nesting_bound < line_depth (run Fresh (take (suc n) ks)) = subst (λ j. nesting_bound < line_depth (run Fresh (take (suc j) ks))) same r.5 in
    absurd (omega (arith, deep, begins-near nesting_bound (take (suc n) ks) g))
