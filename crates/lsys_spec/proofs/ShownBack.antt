-- The script that show prints, cut into lines and read, gives the system again.
use Rattle.std.proofs.Common.{◌≡◌, ℕ, zero, Bool, true, false, Some, Result, Ok, Err, List, [], ◌∷◌, ◌++◌, ◌==◌, ◌<◌, ◌≤◌, map, length, suc, nat_le, if◌then◌else◌, refl, ap, ◌∙◌, sym, subst, arith, decimal, ℤ}
use Rattle.std.proofs.lemmas.Bool.Decides.{nat_tests}
use Rattle.std.proofs.lemmas.Fmt.{decimal_is_IsNumeral}
use Rattle.lsys_syntax.specs.Limits.{nesting_bound, number_bound, most_depth, most_depth_of_two}
use Rattle.lsys_syntax.specs.Lines.{lines_of, without_cr}
use Rattle.lsys_syntax.specs.Tokens.{short, long, Kind, Word, LongWord, Name, Number, BigNumber, Arrow, Equal, Unequal, AtMost, AtLeast, LeftParen, RightParen, LeftBracket, RightBracket, Comma, Colon, At, Plus, Minus, Times, Slash, Backslash, Percent, Ampersand, Bar, Caret, Bang, Less, Greater, Assign, Mode, First, next_mode, is_letter, is_digit, is_alphanumeric, is_word_byte, tokens}
use Rattle.lsys_syntax.specs.Pieces.{Piece, blank, token, note, text_of, token_text, Tail, anything, ending, Reads, Stands, Every, IsWordText}
use Rattle.lsys_syntax.specs.Strings.{IsModuleName, Symbol, Module, Push, Pop, Cut, signed_of, EachOf, IsSymbol, IsParam, IsSigned, balanced}
use Rattle.lsys_syntax.specs.Rules.{Production, IsRule, IsProduction}
use Rattle.lsys_syntax.specs.Commands.{Command, set_axiom, put_production, drop_rule, set_ignored, set_schedule, set_seed, set_depth, set_lattice, put_homomorphism, print_string, print_segments, print_svg, print_system, quit, set_version, set_own, drop_own, set_numbering, to_ignore, to_consider, Numbering, by_place, by_name, command_pieces, IsCommand, IsHomomorphism, nesting}
use Rattle.lsys_syntax.specs.LineMachine.{parse_command, command_in}
use Rattle.lsys_syntax.proofs.Bytes.{AllDigits-Every}
use Rattle.lsys_syntax.proofs.StringsRead.{value_is_signed}
use Rattle.lsys_syntax.proofs.LineReads.{command-reads, line-reads, kinds-placed}
use Rattle.lsys_syntax.proofs.LineComplete.{command-sentence}
use Rattle.lsys_spec.specs.Systems.{System, Homomorphism, Own, depth_bound, opening, written, IsSound, Each, WellFormed, WellSpelled}
use Rattle.lsys_spec.specs.Edits.{Refusal, apply}
use Rattle.lsys_spec.specs.Shown.{as_put, as_put_homomorphism, as_set_own, numbering_commands, version_commands, show_commands, script_of, show_text}
use Rattle.lsys_spec.specs.Refusals.{is_passed_over}
use Rattle.lsys_spec.specs.ReadBack.{IsPlainLine, spelled_by, accepted_system, then_command, read_lines, IsReadBack}
use Rattle.lsys_spec.proofs.Applied.{apply_all, commands-applied}

-- each printed byte is a blank or comes after it: none is an LF or a CR
abbrev printed : ℕ → Bool
printed c = nat_le 32 c

letter-printed : (c : ℕ) → is_letter c ≡ true → printed c ≡ true
letter-printed c h = grind (arith, nat_tests)

plain-printed : (c : ℕ) → is_alphanumeric c ≡ true → printed c ≡ true
plain-printed c h = grind (arith, nat_tests)

word-printed : (c : ℕ) → is_word_byte c ≡ true → printed c ≡ true
word-printed c h = grind (arith, nat_tests)

digit-printed : (c : ℕ) → is_digit c ≡ true → printed c ≡ true
digit-printed c h = grind (arith, nat_tests)

every-map : (p q : ℕ → Bool) → ((c : ℕ) → p c ≡ true → q c ≡ true) → (cs : List ℕ) → Every p cs → Every q cs
every-map p q f [] h = tt
every-map p q f (c ∷ cs) h = (f c h.0, every-map p q f cs h.1)

every-append : (p : ℕ → Bool) (xs ys : List ℕ) → Every p xs → Every p ys → Every p (xs ++ ys)
every-append p [] ys h k = k
every-append p (x ∷ xs) ys h k = (h.0, every-append p xs ys h.1 k)

token-printed : (m : Mode) (k : Kind) → Stands m k → Every printed (token_text k)
token-printed m (Word []) h = elim h.1 [ ]
token-printed m (Word (c ∷ cs)) h = (letter-printed c h.1.0, every-map is_word_byte printed word-printed cs h.1.1)
token-printed m LongWord h = elim h [ ]
token-printed m (Name (short c)) h = (letter-printed c h.1, tt)
token-printed m (Name (long c cs)) h = (letter-printed c h.1.0, (refl, every-map is_alphanumeric printed plain-printed cs h.1.1))
token-printed m (Number n) h = every-map is_digit printed digit-printed (decimal n) (AllDigits-Every (decimal n) (decimal_is_IsNumeral n h).0.1)
token-printed m BigNumber h = elim h [ ]
token-printed m Assign h = elim h [ ]
token-printed m Arrow h = (refl, (refl, tt))
token-printed m Equal h = (refl, (refl, tt))
token-printed m Unequal h = (refl, (refl, tt))
token-printed m AtMost h = (refl, (refl, tt))
token-printed m AtLeast h = (refl, (refl, tt))
token-printed m LeftParen h = (refl, tt)
token-printed m RightParen h = (refl, tt)
token-printed m LeftBracket h = (refl, tt)
token-printed m RightBracket h = (refl, tt)
token-printed m Comma h = (refl, tt)
token-printed m Colon h = (refl, tt)
token-printed m At h = (refl, tt)
token-printed m Plus h = (refl, tt)
token-printed m Minus h = (refl, tt)
token-printed m Times h = (refl, tt)
token-printed m Slash h = (refl, tt)
token-printed m Backslash h = (refl, tt)
token-printed m Percent h = (refl, tt)
token-printed m Ampersand h = (refl, tt)
token-printed m Bar h = (refl, tt)
token-printed m Caret h = (refl, tt)
token-printed m Bang h = (refl, tt)
token-printed m Less h = (refl, tt)
token-printed m Greater h = (refl, tt)

text-printed : (ps : List Piece) (m : Mode) (t : Tail) → Reads m t ps → Every printed (text_of ps)
text-printed [] m t h = tt
text-printed (blank ∷ ps) m t h = (refl, text-printed ps m anything h)
text-printed (note n ∷ ps) m t h = text-printed ps m t h
text-printed (token k ∷ ps) m t h = every-append printed (token_text k) (text_of ps) (token-printed m k h.1) (text-printed ps (next_mode m k) (ending k) h.2)

no_feed : (c : ℕ) → printed c ≡ true → (c == 10) ≡ false
no_feed c h = grind (arith, nat_tests)

no_return : (c : ℕ) → printed c ≡ true → (c == 13) ≡ false
no_return c h = grind (arith, nat_tests)

line-cut : (text rest : List ℕ) → Every printed text → lines_of (text ++ 10 ∷ rest) ≡ text ∷ lines_of rest
line-cut [] rest h = refl
line-cut (c ∷ cs) rest h = rw (no_feed c h.0, line-cut cs rest h.1)

-- a command whose nesting is within the bound
abbrev IsLine : Command → Type 0
IsLine c = IsCommand c × (nesting c ≤ nesting_bound)

abbrev line_text : Command → List ℕ
line_text c = text_of (command_pieces c)

-- the session reads a printed line as it stands
bare-line : (line : List ℕ) → Every printed line → without_cr line ≡ line
bare-line [] h = refl
bare-line (c ∷ []) h = rw (no_return c h.0) refl
bare-line (c ∷ d ∷ line) h = ap (λ bytes. c ∷ bytes) (bare-line (d ∷ line) h.1)

not_passed : (c : Command) → is_passed_over (line_text c) ≡ false
not_passed (set_axiom xs) = refl
not_passed (put_production t l r) = refl
not_passed (drop_rule l) = refl
not_passed (set_ignored ns) = refl
not_passed (set_schedule ws) = refl
not_passed (set_seed n) = refl
not_passed (set_depth n) = refl
not_passed (set_lattice l) = refl
not_passed (put_homomorphism l r) = refl
not_passed (print_string n) = refl
not_passed print_segments = refl
not_passed print_svg = refl
not_passed print_system = refl
not_passed quit = refl
not_passed (set_version n) = refl
not_passed (set_own to_ignore t ns) = refl
not_passed (set_own to_consider t ns) = refl
not_passed (drop_own t) = refl
not_passed (set_numbering g) = refl

lines-plain : (cs : List Command) → Each IsLine cs → Each IsPlainLine (map line_text cs)
lines-plain [] g = tt
lines-plain (c ∷ cs) g = ((bare-line (line_text c) (text-printed (command_pieces c) First anything (command-reads c g.0.0)), not_passed c), lines-plain cs g.1)

lines-script : (cs : List Command) → Each IsLine cs → lines_of (script_of cs) ≡ map line_text cs
lines-script [] g = refl
lines-script (c ∷ cs) g =
    line-cut (line_text c) (script_of cs) (text-printed (command_pieces c) First anything (command-reads c g.0.0)) ∙ ap (λ ls. line_text c ∷ ls) (lines-script cs g.1)

line-spells : (c : Command) → IsLine c → spelled_by (tokens (line_text c)) ≡ Some c
line-spells c g =
    ap spelled_by (line-reads c g.0) ∙ ap parse_command (kinds-placed (command_pieces c) 0) ∙ ap command_in (command-sentence c g.0 g.1)

refused-stays : (e : Refusal) (cs : List Command) → apply_all (Err e) cs ≡ Err e
refused-stays e [] = refl
refused-stays e (c ∷ cs) = refl

lines-applied : (cs : List Command) → Each IsLine cs → (r : Result System Refusal) → read_lines (accepted_system r) (map line_text cs) ≡ accepted_system (apply_all r cs)
lines-applied [] g r = refl
lines-applied (c ∷ cs) g (Err e) = lines-applied cs g.1 (Err e) ∙ ap accepted_system (refused-stays e cs)
lines-applied (c ∷ cs) g (Ok s) = ap (λ o. read_lines (then_command s o) (map line_text cs)) (line-spells c g.0) ∙ lines-applied cs g.1 (apply s c)

-- each command that show prints is the tree of a sentence
each-append : {A : Type 0} (P : A → Type 0) (xs ys : List A) → Each P xs → Each P ys → Each P (xs ++ ys)
each-append P [] ys h k = k
each-append P (x ∷ xs) ys h k = (h.0, each-append P xs ys h.1 k)

each-rule : (ps : List Production) → Each IsProduction ps → Each (λ p. IsSound p.rule) ps → Each IsLine (map as_put ps)
each-rule [] h a = tt
each-rule (p ∷ ps) h a = (((h.0.table, h.0.label, h.0.rule), a.0.nested), each-rule ps h.1 a.1)

each-image : (hs : List Homomorphism) → Each (λ h. IsWordText h.label × IsRule h.rule × IsHomomorphism h.rule) hs → Each (λ h. IsSound h.rule) hs → Each IsLine (map as_put_homomorphism hs)
each-image [] h a = tt
each-image (x ∷ xs) h a = ((h.0, a.0.nested), each-image xs h.1 a.1)

each-value : (zs : List ℤ) → EachOf IsParam zs → EachOf IsSigned (map signed_of zs)
each-value [] g = tt
each-value (z ∷ zs) g = (value_is_signed z g.0, each-value zs g.1)

pub written-symbols : (xs : List (Symbol ℤ)) → EachOf (IsSymbol IsParam) xs → EachOf (IsSymbol IsSigned) (written xs)
written-symbols [] g = tt
written-symbols (Module n zs ∷ xs) g = ((g.0.0, each-value zs g.0.1), written-symbols xs g.1)
written-symbols (Push ∷ xs) g = (tt, written-symbols xs g.1)
written-symbols (Pop ∷ xs) g = (tt, written-symbols xs g.1)
written-symbols (Cut ∷ xs) g = (tt, written-symbols xs g.1)

pub written-balanced : (n : ℕ) (xs : List (Symbol ℤ)) → balanced n xs ≡ true → balanced n (written xs) ≡ true
written-balanced n [] b = b
written-balanced n (Module m zs ∷ xs) b = written-balanced n xs b
written-balanced n (Push ∷ xs) b = written-balanced (suc n) xs b
written-balanced zero (Pop ∷ xs) b = cc
written-balanced (suc n) (Pop ∷ xs) b = written-balanced n xs b
written-balanced n (Cut ∷ xs) b = written-balanced n xs b

schedule-line : (ws : List (List ℕ)) → EachOf IsWordText ws → 0 < length ws → IsCommand (set_schedule ws)
schedule-line [] g h = absurd (omega arith)
schedule-line (w ∷ ws) g h = g

depth-bounded : (v : ℕ) → depth_bound v ≤ 256
depth-bounded v = by (v == 1)
  where
    by : (c : Bool) → (if c then most_depth else most_depth_of_two) ≤ 256
    by true = omega arith
    by false = omega arith

each-own : (os : List Own) → Each (λ o. IsWordText o.table) os → Each (λ o. EachOf IsModuleName o.names) os → Each IsLine (map as_set_own os)
each-own [] h g = tt
each-own (o ∷ os) h g = (((h.0, g.0), omega arith), each-own os h.1 g.1)

numbering-lines : (g : Numbering) → Each IsLine (numbering_commands g)
numbering-lines by_place = tt
numbering-lines by_name = ((tt, omega arith), tt)

version-lines : (s : System) → WellFormed s → Each IsLine (version_commands s)
version-lines s w = by (s.version == 1)
  where
    by : (c : Bool) → Each IsLine (if c then [] else set_version s.version ∷ numbering_commands s.numbering)
    by true = tt
    by false = ((let l = w.known_version in omega (arith, l), omega arith), numbering-lines s.numbering)

shown-lines : (s : System) → WellFormed s → WellSpelled s → Each IsLine (show_commands s)
shown-lines s w v =
    let none : 0 ≤ nesting_bound = omega arith in
    let deep : s.depth < number_bound = let l = w.shallow in let k = depth-bounded s.version in omega (arith, l, k) in
    let last : Each IsLine (set_schedule s.schedule ∷ set_depth s.depth ∷ []) = ((schedule-line s.schedule v.words w.some_word, none), ((deep, none), tt)) in
    let own : Each IsLine (map as_set_own s.own ++ set_schedule s.schedule ∷ set_depth s.depth ∷ []) =
    each-append IsLine (map as_set_own s.own) (set_schedule s.schedule ∷ set_depth s.depth ∷ []) (each-own s.own v.own_words v.own_names) last in
    each-append IsLine (version_commands s)
    (set_lattice s.lattice ∷ set_seed s.seed ∷ set_axiom (written s.axiom_string) ∷ set_ignored s.ignored ∷ (map as_put s.rules ++ (map as_put_homomorphism s.homomorphisms ++ (map as_set_own s.own ++ set_schedule s.schedule ∷ set_depth s.depth ∷ []))))
    (version-lines s w) (
      (tt, none),
      (
        (v.small_seed, none),
        (
          ((written-symbols s.axiom_string v.axiom_symbols, written-balanced 0 s.axiom_string v.axiom_balanced), none),
          (
            (v.ignored_names, none),
            each-append IsLine (map as_put s.rules) (map as_put_homomorphism s.homomorphisms ++ (map as_set_own s.own ++ set_schedule s.schedule ∷ set_depth s.depth ∷ [])) (each-rule s.rules v.rules v.rules_sound)
                (each-append IsLine (map as_put_homomorphism s.homomorphisms) (map as_set_own s.own ++ set_schedule s.schedule ∷ set_depth s.depth ∷ []) (each-image s.homomorphisms v.homomorphisms v.homomorphisms_sound) own),
          ),
        ),
      ),
    )

-- The lines of the printed script are all accepted in order from the opening system, and give the system that was printed.
pub shown-back : (s : System) → WellFormed s → WellSpelled s → IsReadBack s
shown-back s w v =
    ap (read_lines (Some opening)) (lines-script (show_commands s) (shown-lines s w v))
    ∙ lines-applied (show_commands s) (shown-lines s w v) (Ok opening)
    ∙ ap accepted_system (commands-applied s w v)

-- They are lines that a session reads as they stand.
pub shown-plain : (s : System) → WellFormed s → WellSpelled s → Each IsPlainLine (lines_of (show_text s))
shown-plain s w v = subst (Each IsPlainLine) (sym (lines-script (show_commands s) (shown-lines s w v))) (lines-plain (show_commands s) (shown-lines s w v))
