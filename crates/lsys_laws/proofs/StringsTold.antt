-- The verdict on an axiom's line in terms of strings.
use Rattle.std.proofs.Common.{◌≡◌, ℕ, suc, Bool, false, List, [], ◌∷◌, ◌++◌, ◌<◌, ◌≤◌, length, take, refl, ap, ◌∙◌, sym, arith, bytes_eq, true≢false, subst}
use Rattle.std.specs.Prelude.{codes}
use Rattle.lsys_syntax.specs.Limits.{nesting_bound}
use Rattle.lsys_syntax.specs.Tokens.{Kind, Word}
use Rattle.lsys_syntax.specs.Pieces.{kinds_of}
use Rattle.lsys_syntax.specs.Strings.{Symbol, Signed, signed_pieces, string_pieces}
use Rattle.lsys_syntax.specs.Commands.{Command, set_axiom, put_production, drop_rule, set_ignored, set_schedule, set_seed, set_depth, set_lattice, put_homomorphism, print_string, print_segments, print_svg, print_system, quit, to_ignore, to_consider, set_version, set_own, drop_own, set_numbering, string_after, command_pieces, IsCommand}
use Rattle.lsys_syntax.specs.LineMachine.{sentence, stops, too_deep, verdict}
use Rattle.lsys_syntax.specs.Sentences.{AreTokens, Begins, BeginsDeep}
use Rattle.lsys_syntax.proofs.LineComplete.{command-sentence}
use Rattle.lsys_syntax.proofs.LineSound.{sentence-spelled}
use Rattle.lsys_syntax.proofs.Places.{stop-before, stop-at, stop-end, deep-at, deep-none}
use Rattle.lsys_laws.specs.StringPlaces.{IsStringOf, IsString, BeginsString, axiom_verdict}

abbrev axiom_line : List Kind → List Kind
axiom_line ks = Word (codes "axiom") ∷ ks

-- whether the first word tells an axiom
abbrev is_axiom : List Kind → Bool
is_axiom (Word w ∷ ks) = bytes_eq w (codes "axiom")
is_axiom ks = false

after_word : (k l : Kind) (ks ls : List Kind) → (k ∷ ks) ≡ (l ∷ ls) → ks ≡ ls
after_word k l ks ls e = cc

string_kinds : (xs : List (Symbol Signed)) → kinds_of (string_after xs) ≡ kinds_of (string_pieces signed_pieces xs)
string_kinds [] = refl
string_kinds (x ∷ xs) = refl

-- an axiom with this string
abbrev IsAxiom : Command → List Kind → Type 0
IsAxiom c ks = (xs : List (Symbol Signed)) × (c ≡ set_axiom xs) × (kinds_of (string_pieces signed_pieces xs) ≡ ks)

no_other : (c : Command) (ks : List Kind) → is_axiom (kinds_of (command_pieces c)) ≡ false → kinds_of (command_pieces c) ≡ axiom_line ks → IsAxiom c ks
no_other c ks h e = absurd (true≢false (sym (ap is_axiom e) ∙ h))

axiom_only : (c : Command) (ks : List Kind) → kinds_of (command_pieces c) ≡ axiom_line ks → IsAxiom c ks
axiom_only (set_axiom xs) ks e = (xs, refl, sym (string_kinds xs) ∙ after_word (Word (codes "axiom")) (Word (codes "axiom")) (kinds_of (string_after xs)) ks e)
axiom_only (put_production t l r) ks e = no_other (put_production t l r) ks refl e
axiom_only (drop_rule l) ks e = no_other (drop_rule l) ks refl e
axiom_only (set_ignored ns) ks e = no_other (set_ignored ns) ks refl e
axiom_only (set_schedule ws) ks e = no_other (set_schedule ws) ks refl e
axiom_only (set_seed n) ks e = no_other (set_seed n) ks refl e
axiom_only (set_depth n) ks e = no_other (set_depth n) ks refl e
axiom_only (set_lattice l) ks e = no_other (set_lattice l) ks refl e
axiom_only (put_homomorphism l r) ks e = no_other (put_homomorphism l r) ks refl e
axiom_only (set_version n) ks e = no_other (set_version n) ks refl e
axiom_only (set_own to_ignore t ns) ks e = no_other (set_own to_ignore t ns) ks refl e
axiom_only (set_own to_consider t ns) ks e = no_other (set_own to_consider t ns) ks refl e
axiom_only (drop_own t) ks e = no_other (drop_own t) ks refl e
axiom_only (set_numbering g) ks e = no_other (set_numbering g) ks refl e
axiom_only (print_string n) ks e = no_other (print_string n) ks refl e
axiom_only print_segments ks e = no_other print_segments ks refl e
axiom_only print_svg ks e = no_other print_svg ks refl e
axiom_only print_system ks e = no_other print_system ks refl e
axiom_only quit ks e = no_other quit ks refl e

-- a spelled command after the word is a string, and a string is one
of_command : (c : Command) (ks : List Kind) → IsCommand c → kinds_of (command_pieces c) ≡ axiom_line ks → (xs : List (Symbol Signed)) × (c ≡ set_axiom xs) × IsStringOf ks xs
of_command c ks i e =
    let a = axiom_only c ks e in
    let j : IsCommand (set_axiom a.0) = subst IsCommand a.1 i in (a.0, a.1, record { symbols = j.0; closed = j.1; spelled = a.2 })

command_kinds : (xs : List (Symbol Signed)) (ks : List Kind) → IsStringOf ks xs → kinds_of (command_pieces (set_axiom xs)) ≡ axiom_line ks
command_kinds xs ks h = ap (λ ls. Word (codes "axiom") ∷ ls) (string_kinds xs ∙ h.spelled)

begins_of : (b : ℕ) (ks : List Kind) → Begins b (axiom_line ks) → BeginsString ks
begins_of b ks h = let c = of_command h.0 (ks ++ h.1) h.2.1 h.2.0 in (h.1, (c.0, c.2))

begins_with : (ks : List Kind) → BeginsString ks → Begins nesting_bound (axiom_line ks)
begins_with ks h = (set_axiom h.1.0, h.0, (command_kinds h.1.0 (ks ++ h.0) h.1.1, (h.1.1.symbols, h.1.1.closed), omega arith))

line_tokens : (ks : List Kind) → AreTokens ks → AreTokens (axiom_line ks)
line_tokens ks h = ((refl, (refl, (refl, (refl, (refl, tt)))), grind arith), h)

pub string_read : (ks : List Kind) (xs : List (Symbol Signed)) → IsStringOf ks xs → axiom_verdict ks ≡ sentence (set_axiom xs)
string_read ks xs h = ap (λ ls. verdict ls) (sym (command_kinds xs ks h)) ∙ command-sentence (set_axiom xs) (h.symbols, h.closed) (omega arith)

pub string_told : (ks : List Kind) (c : Command) → AreTokens ks → axiom_verdict ks ≡ sentence c → (xs : List (Symbol Signed)) × (c ≡ set_axiom xs) × IsStringOf ks xs
string_told ks c a h = let s = sentence-spelled (axiom_line ks) c (line_tokens ks a) h in of_command c ks s.1 s.0

pub string_before : (ks : List Kind) (place : ℕ) → AreTokens ks → axiom_verdict ks ≡ stops (suc place) → BeginsString (take place ks)
string_before ks place a h = begins_of nesting_bound (take place ks) (stop-before (axiom_line ks) (suc place) (line_tokens ks a) h)

pub string_at : (ks : List Kind) (place : ℕ) → axiom_verdict ks ≡ stops (suc place) → place < length ks → BeginsString (take (suc place) ks) → ⊥
string_at ks place h l b = stop-at (axiom_line ks) (suc place) h (omega (arith, l)) (nesting_bound, begins_with (take (suc place) ks) b)

pub string_end : (ks : List Kind) (place : ℕ) → axiom_verdict ks ≡ stops (suc place) → length ks ≤ place → (place ≡ length ks) × (IsString ks → ⊥)
string_end ks place h l =
    let e = stop-end (axiom_line ks) (suc place) h (omega (arith, l)) in
    (omega (arith, e.0), λ s. e.1 (set_axiom s.0, (s.1.symbols, s.1.closed), command_kinds s.0 ks s.1))

pub never_deep : (ks : List Kind) (place : ℕ) → AreTokens ks → axiom_verdict ks ≡ too_deep place → ⊥
never_deep ks place a h =
    let d : BeginsDeep (axiom_line (take place ks)) = deep-at (axiom_line ks) place (line_tokens ks a) h in
    deep-none (axiom_line ks) place h (begins_with (take place ks) (begins_of d.0 (take place ks) d.1))

pub never_first : (ks : List Kind) → axiom_verdict ks ≡ stops 0 → ⊥
never_first ks h = stop-at (axiom_line ks) 0 h (omega arith) (nesting_bound, begins_with [] ([], ([], record { symbols = tt; closed = refl; spelled = refl })))
