-- The lines of the printed script: each is a command's, and is answered as this command.
use Rattle.std.proofs.Common.{◌≡◌, ℕ, Bool, true, false, List, [], ◌∷◌, ◌++◌, ◌==◌, ◌<◌, ◌≤◌, map, length, nat_le, if◌then◌else◌, refl, ap, ◌∙◌, arith, decimal}
use Rattle.std.proofs.lemmas.Bool.Decides.{nat_tests}
use Rattle.std.proofs.lemmas.Fmt.{decimal_is_IsNumeral}
use Rattle.lsys_syntax.specs.Limits.{nesting_bound, number_bound, most_depth, most_depth_of_two}
use Rattle.lsys_syntax.specs.Lines.{lines_of}
use Rattle.lsys_syntax.specs.Tokens.{short, long, Kind, Word, LongWord, Name, Number, BigNumber, Arrow, Equal, Unequal, AtMost, AtLeast, LeftParen, RightParen, LeftBracket, RightBracket, Comma, Colon, At, Plus, Minus, Times, Slash, Backslash, Percent, Ampersand, Bar, Caret, Bang, Less, Greater, Assign, Mode, First, next_mode, is_letter, is_digit, is_alphanumeric, is_word_byte}
use Rattle.lsys_syntax.specs.Pieces.{Piece, blank, token, note, text_of, token_text, Tail, anything, ending, Reads, Stands, Every, IsWordText}
use Rattle.lsys_syntax.specs.Strings.{EachOf, IsModuleName}
use Rattle.lsys_syntax.specs.Rules.{Production, IsRule, IsProduction}
use Rattle.lsys_syntax.specs.Commands.{Numbering, by_place, by_name, Command, set_lattice, set_seed, set_axiom, set_ignored, set_version, set_schedule, set_depth, command_pieces, IsCommand, IsHomomorphism, nesting}
use Rattle.lsys_syntax.proofs.Bytes.{AllDigits-Every}
use Rattle.lsys_syntax.proofs.LineReads.{command-reads}
use Rattle.lsys_spec.specs.Systems.{System, Own, depth_bound, Homomorphism, written, IsSound, Each, WellFormed, WellSpelled}
use Rattle.lsys_spec.specs.Shown.{as_put, as_put_homomorphism, show_commands, script_of, as_set_own, numbering_commands, version_commands}
use Rattle.lsys_spec.proofs.Eachs.{each_append}
use Rattle.lsys_spec.proofs.ShownBack.{written-symbols, written-balanced}

-- each printed byte is a blank or comes after it: none is an LF
abbrev printed : ℕ → Bool
printed c = nat_le 32 c

letter_printed : (c : ℕ) → is_letter c ≡ true → printed c ≡ true
letter_printed c h = grind (arith, nat_tests)

plain_printed : (c : ℕ) → is_alphanumeric c ≡ true → printed c ≡ true
plain_printed c h = grind (arith, nat_tests)

word_printed : (c : ℕ) → is_word_byte c ≡ true → printed c ≡ true
word_printed c h = grind (arith, nat_tests)

digit_printed : (c : ℕ) → is_digit c ≡ true → printed c ≡ true
digit_printed c h = grind (arith, nat_tests)

every_map : (p q : ℕ → Bool) → ((c : ℕ) → p c ≡ true → q c ≡ true) → (cs : List ℕ) → Every p cs → Every q cs
every_map p q f [] h = tt
every_map p q f (c ∷ cs) h = (f c h.0, every_map p q f cs h.1)

every_append : (p : ℕ → Bool) (xs ys : List ℕ) → Every p xs → Every p ys → Every p (xs ++ ys)
every_append p [] ys h k = k
every_append p (x ∷ xs) ys h k = (h.0, every_append p xs ys h.1 k)

token_printed : (m : Mode) (k : Kind) → Stands m k → Every printed (token_text k)
token_printed m (Word []) h = elim h.1 [ ]
token_printed m (Word (c ∷ cs)) h = (letter_printed c h.1.0, every_map is_word_byte printed word_printed cs h.1.1)
token_printed m LongWord h = elim h [ ]
token_printed m (Name (short c)) h = (letter_printed c h.1, tt)
token_printed m (Name (long c cs)) h = (letter_printed c h.1.0, (refl, every_map is_alphanumeric printed plain_printed cs h.1.1))
token_printed m (Number n) h = every_map is_digit printed digit_printed (decimal n) (AllDigits-Every (decimal n) (decimal_is_IsNumeral n h).0.1)
token_printed m BigNumber h = elim h [ ]
token_printed m Assign h = elim h [ ]
token_printed m Arrow h = (refl, (refl, tt))
token_printed m Equal h = (refl, (refl, tt))
token_printed m Unequal h = (refl, (refl, tt))
token_printed m AtMost h = (refl, (refl, tt))
token_printed m AtLeast h = (refl, (refl, tt))
token_printed m LeftParen h = (refl, tt)
token_printed m RightParen h = (refl, tt)
token_printed m LeftBracket h = (refl, tt)
token_printed m RightBracket h = (refl, tt)
token_printed m Comma h = (refl, tt)
token_printed m Colon h = (refl, tt)
token_printed m At h = (refl, tt)
token_printed m Plus h = (refl, tt)
token_printed m Minus h = (refl, tt)
token_printed m Times h = (refl, tt)
token_printed m Slash h = (refl, tt)
token_printed m Backslash h = (refl, tt)
token_printed m Percent h = (refl, tt)
token_printed m Ampersand h = (refl, tt)
token_printed m Bar h = (refl, tt)
token_printed m Caret h = (refl, tt)
token_printed m Bang h = (refl, tt)
token_printed m Less h = (refl, tt)
token_printed m Greater h = (refl, tt)

text_printed : (ps : List Piece) (m : Mode) (t : Tail) → Reads m t ps → Every printed (text_of ps)
text_printed [] m t h = tt
text_printed (blank ∷ ps) m t h = (refl, text_printed ps m anything h)
text_printed (note n ∷ ps) m t h = text_printed ps m t h
text_printed (token k ∷ ps) m t h = every_append printed (token_text k) (text_of ps) (token_printed m k h.1) (text_printed ps (next_mode m k) (ending k) h.2)

no_feed : (c : ℕ) → printed c ≡ true → (c == 10) ≡ false
no_feed c h = grind (arith, nat_tests)

line_cut : (text rest : List ℕ) → Every printed text → lines_of (text ++ 10 ∷ rest) ≡ text ∷ lines_of rest
line_cut [] rest h = refl
line_cut (c ∷ cs) rest h = rw (no_feed c h.0, line_cut cs rest h.1)

-- a command whose nesting is within the bound
abbrev pub IsLine : Command → Type 0
IsLine c = IsCommand c × (nesting c ≤ nesting_bound)

abbrev pub line_text : Command → List ℕ
line_text c = text_of (command_pieces c)

pub lines_script : (cs : List Command) → Each IsLine cs → lines_of (script_of cs) ≡ map line_text cs
lines_script [] g = refl
lines_script (c ∷ cs) g =
    line_cut (line_text c) (script_of cs) (text_printed (command_pieces c) First anything (command-reads c g.0.0)) ∙ ap (λ ls. line_text c ∷ ls) (lines_script cs g.1)

each_rule : (ps : List Production) → Each IsProduction ps → Each (λ p. IsSound p.rule) ps → Each IsLine (map as_put ps)
each_rule [] h a = tt
each_rule (p ∷ ps) h a = (((h.0.table, h.0.label, h.0.rule), a.0.nested), each_rule ps h.1 a.1)

each_image : (hs : List Homomorphism) → Each (λ h. IsWordText h.label × IsRule h.rule × IsHomomorphism h.rule) hs → Each (λ h. IsSound h.rule) hs → Each IsLine (map as_put_homomorphism hs)
each_image [] h a = tt
each_image (x ∷ xs) h a = ((h.0, a.0.nested), each_image xs h.1 a.1)

schedule_line : (ws : List (List ℕ)) → EachOf IsWordText ws → 0 < length ws → IsCommand (set_schedule ws)
schedule_line [] g h = absurd (omega arith)
schedule_line (w ∷ ws) g h = g

depth_bounded : (v : ℕ) → depth_bound v ≤ 256
depth_bounded v = by (v == 1)
  where
    by : (c : Bool) → (if c then most_depth else most_depth_of_two) ≤ 256
    by true = omega arith
    by false = omega arith

each_own : (os : List Own) → Each (λ o. IsWordText o.table) os → Each (λ o. EachOf IsModuleName o.names) os → Each IsLine (map as_set_own os)
each_own [] h g = tt
each_own (o ∷ os) h g = (((h.0, g.0), omega arith), each_own os h.1 g.1)

numbering_lines : (g : Numbering) → Each IsLine (numbering_commands g)
numbering_lines by_place = tt
numbering_lines by_name = ((tt, omega arith), tt)

version_lines : (s : System) → WellFormed s → Each IsLine (version_commands s)
version_lines s w = by (s.version == 1)
  where
    by : (c : Bool) → Each IsLine (if c then [] else set_version s.version ∷ numbering_commands s.numbering)
    by true = tt
    by false = ((let l = w.known_version in omega (arith, l), omega arith), numbering_lines s.numbering)

pub shown_lines : (s : System) → WellFormed s → WellSpelled s → Each IsLine (show_commands s)
shown_lines s w v =
    let none : 0 ≤ nesting_bound = omega arith in
    let deep : s.depth < number_bound = let l = w.shallow in let k = depth_bounded s.version in omega (arith, l, k) in
    let last : Each IsLine (set_schedule s.schedule ∷ set_depth s.depth ∷ []) = ((schedule_line s.schedule v.words w.some_word, none), ((deep, none), tt)) in
    let own : Each IsLine (map as_set_own s.own ++ set_schedule s.schedule ∷ set_depth s.depth ∷ []) =
    each_append IsLine (map as_set_own s.own) (set_schedule s.schedule ∷ set_depth s.depth ∷ []) (each_own s.own v.own_words v.own_names) last in
    each_append IsLine (version_commands s)
    (set_lattice s.lattice ∷ set_seed s.seed ∷ set_axiom (written s.axiom_string) ∷ set_ignored s.ignored ∷ (map as_put s.rules ++ (map as_put_homomorphism s.homomorphisms ++ (map as_set_own s.own ++ set_schedule s.schedule ∷ set_depth s.depth ∷ []))))
    (version_lines s w) (
      (tt, none),
      (
        (v.small_seed, none),
        (
          ((written-symbols s.axiom_string v.axiom_symbols, written-balanced 0 s.axiom_string v.axiom_balanced), none),
          (
            (v.ignored_names, none),
            each_append IsLine (map as_put s.rules) (map as_put_homomorphism s.homomorphisms ++ (map as_set_own s.own ++ set_schedule s.schedule ∷ set_depth s.depth ∷ [])) (each_rule s.rules v.rules v.rules_sound)
                (each_append IsLine (map as_put_homomorphism s.homomorphisms) (map as_set_own s.own ++ set_schedule s.schedule ∷ set_depth s.depth ∷ []) (each_image s.homomorphisms v.homomorphisms v.homomorphisms_sound) own),
          ),
        ),
      ),
    )
