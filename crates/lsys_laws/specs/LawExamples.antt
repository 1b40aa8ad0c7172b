-- Examples of the definitions of lsys_syntax and lsys_spec, which the checker computes: words of which laws speak.
use Rattle.std.specs.Prelude.{◌≡◌, ℕ, pos, negsuc, true, false, Some, None, Result, Ok, Err, List, [], ◌∷◌, ◌==◌, map, option_map, is_some, codes, refl}
use Rattle.std.specs.Fmt.{digits}
use Rattle.lsys_syntax.specs.Tokens.{Kind, Token, Word, Name, Bang, Less, Greater, Equal, Unequal, AtMost, Arrow, Plus, Number, Modules, tokens_from, is_blank, is_digit, is_letter, is_word_byte, short, long}
use Rattle.lsys_syntax.specs.Pieces.{anything, not_underscore, not_plain, not_digit, not_equals, letter, digit, equals, mark, may_follow, ending, beginning, text_of, placed}
use Rattle.lsys_syntax.specs.Strings.{named}
use Rattle.lsys_syntax.specs.ExpressionMachine.{parse_expr}
use Rattle.lsys_syntax.specs.ExpressionPlaces.{Extent, ends, stops, too_deep, extent}
use Rattle.lsys_syntax.specs.Strings as S
use Rattle.lsys_syntax.specs.Commands.{nesting, command_pieces}
use Rattle.lsys_spec.specs.Morphisms.{rewritten, raw_plain}
use Rattle.lsys_syntax.specs.Nesting.{expr_nesting}
use Rattle.lsys_spec.specs.Draws.{unsplit}
use Rattle.lsys_spec.specs.Lattices.{turn_left, turn_right, pitch_down, pitch_up, roll_left, roll_right, turn_round, inverse, vector, cross}
use Rattle.lsys_spec.specs.Levels.{LevelSymbol, Push, Pop, Module, close_of, level_balanced}
use Rattle.lsys_spec.specs.Cuts.{Raw, Plain, Cut, raw_balanced, is_cut_off, kept}
use Rattle.lsys_spec.specs.Walks.{Mark, Compared, Ignored, Out, Branched}
use Rattle.lsys_spec.specs.Equalities.{same_entry}
use Rattle.lsys_spec.specs.Replies.{reply, spelled_command}
use Rattle.lsys_spec.specs.Output.{out, none, any_refusal, any_memory, last_system, output_text}

-- a rule at place 1 that was split in two
pub unsplit_places : map (unsplit 1) (None ∷ Some 0 ∷ Some 1 ∷ Some 2 ∷ Some 3 ∷ []) ≡ None ∷ Some 0 ∷ Some 1 ∷ Some 1 ∷ Some 2 ∷ []
unsplit_places = refl

abbrev a_module : ℕ → LevelSymbol
a_module c = Module [] (record { name = named (short c); params = [] })

abbrev open_bracket : Raw
open_bracket = Plain (Push [])

abbrev closing_bracket : Raw
closing_bracket = Plain (Pop [])

abbrev a_cut : Raw
a_cut = Cut []

abbrev letter_a : Raw
letter_a = Plain (a_module 65)

pub balances :
    map (raw_balanced 0)
    ((open_bracket ∷ a_cut ∷ closing_bracket ∷ []) ∷ (closing_bracket ∷ []) ∷ (open_bracket ∷ []) ∷ (open_bracket ∷ open_bracket ∷ closing_bracket ∷ [])
    ∷ (open_bracket ∷ letter_a ∷ closing_bracket ∷ []) ∷ (closing_bracket ∷ open_bracket ∷ []) ∷ [])
    ≡ true ∷ false ∷ false ∷ false ∷ true ∷ false ∷ []
balances = refl

-- [A%[A]A]A, of which the cut takes itself and what follows in its branch
pub cut_places :
    map
    (is_cut_off (open_bracket ∷ letter_a ∷ a_cut ∷ open_bracket ∷ letter_a ∷ closing_bracket ∷ letter_a ∷ closing_bracket ∷ letter_a ∷ []))
    (0 ∷ 1 ∷ 2 ∷ 3 ∷ 4 ∷ 5 ∷ 6 ∷ 7 ∷ 8 ∷ 9 ∷ [])
    ≡ false ∷ false ∷ true ∷ true ∷ true ∷ true ∷ true ∷ false ∷ false ∷ false ∷ []
cut_places = refl

-- places are counted with the cuts
pub kept_places : kept (λ p. p == 2) (letter_a ∷ a_cut ∷ Plain (a_module 66) ∷ Plain (a_module 67) ∷ []) ≡ a_module 65 ∷ a_module 67 ∷ []
kept_places = refl

-- the end of a branch, after a branch in it
pub nested_ends :
    map (close_of 0)
    ((Push [] ∷ a_module 65 ∷ Pop [] ∷ a_module 66 ∷ Pop [] ∷ []) ∷ (Push [] ∷ Push [] ∷ Pop [] ∷ Pop [] ∷ Pop [] ∷ []) ∷ (Push [] ∷ Pop [] ∷ []) ∷ [])
    ≡ Some 4 ∷ Some 4 ∷ None ∷ []
nested_ends = refl

pub level_balances :
    map (level_balanced 0) ((Pop [] ∷ []) ∷ (Pop [] ∷ Push [] ∷ []) ∷ (Push [] ∷ []) ∷ (Push [] ∷ Push [] ∷ Pop [] ∷ Pop [] ∷ []) ∷ (Push [] ∷ Push [] ∷ Pop [] ∷ []) ∷ [])
    ≡ false ∷ false ∷ false ∷ true ∷ false ∷ []
level_balances = refl

pub string_balances :
    map (S.balanced {P = ℕ} 0) ((S.Pop ∷ []) ∷ (S.Pop ∷ S.Push ∷ []) ∷ (S.Push ∷ []) ∷ (S.Push ∷ S.Cut ∷ S.Push ∷ S.Pop ∷ S.Module S.plus [] ∷ S.Pop ∷ []) ∷ (S.Push ∷ S.Push ∷ S.Pop ∷ []) ∷ [])
    ≡ false ∷ false ∷ false ∷ true ∷ false ∷ []
string_balances = refl

pub products :
    map (λ v. cross v (vector (pos 2) (pos 3) (pos 5)))
    (vector (pos 1) (pos 0) (pos 0) ∷ vector (pos 0) (pos 1) (pos 0) ∷ vector (pos 0) (pos 0) (pos 1) ∷ vector (pos 2) (pos 3) (pos 5) ∷ [])
    ≡ vector (pos 0) (negsuc 4) (pos 3) ∷ vector (pos 5) (pos 0) (negsuc 1) ∷ vector (negsuc 2) (pos 2) (pos 0) ∷ vector (pos 0) (pos 0) (pos 0) ∷ []
products = refl

pub inverses :
    map inverse (turn_left ∷ turn_right ∷ pitch_down ∷ pitch_up ∷ roll_left ∷ roll_right ∷ turn_round ∷ [])
    ≡ turn_right ∷ turn_left ∷ pitch_up ∷ pitch_down ∷ roll_right ∷ roll_left ∷ turn_round ∷ []
inverses = refl

-- what may stand after a token
pub tails_and_heads :
    map (λ t. map (may_follow t) (letter ∷ digit ∷ equals ∷ mark ∷ [])) (anything ∷ not_underscore ∷ not_plain ∷ not_digit ∷ not_equals ∷ [])
    ≡ (true ∷ true ∷ true ∷ true ∷ []) ∷ (true ∷ true ∷ true ∷ true ∷ []) ∷ (false ∷ false ∷ true ∷ true ∷ []) ∷ (true ∷ false ∷ true ∷ true ∷ [])
    ∷ (true ∷ true ∷ false ∷ true ∷ []) ∷ []
tails_and_heads = refl

abbrev kinds_in : Result (List Token) ℕ → List Kind
kinds_in (Ok ts) = map (λ t. t.kind) ts
kinds_in (Err c) = []

abbrev kinds : List ℕ → List Kind
kinds text = kinds_in (tokens_from Modules 0 0 text)

-- a power's operand is one deeper, and its base is not
pub nestings :
    map (λ text. option_map expr_nesting (parse_expr (kinds text)))
    (codes "x" ∷ codes "x^-y" ∷ codes "-x^y" ∷ codes "((x)+y)" ∷ codes "!(x)" ∷ codes "x+-y*(z)" ∷ codes "(x)^y" ∷ codes "x^y^z" ∷ codes "x&&(y)||!!z" ∷ codes "x<" ∷ [])
    ≡ Some 0 ∷ Some 2 ∷ Some 2 ∷ Some 2 ∷ Some 2 ∷ Some 1 ∷ Some 1 ∷ Some 2 ∷ Some 2 ∷ None ∷ []
nestings = refl

abbrev place_in : Extent → ℕ × ℕ
place_in (ends n e) = (0, n)
place_in (stops n) = (1, n)
place_in (too_deep n) = (2, n)

-- where an expression ends; else where it stops
pub extents :
    map (λ text. place_in (extent (kinds text))) (codes "1<2<3" ∷ codes "1+" ∷ codes "1 1" ∷ codes "(1" ∷ codes ")" ∷ codes "1=>" ∷ codes "(1))" ∷ codes "1<2" ∷ codes "1&2" ∷ codes "9223372036854775808" ∷ [])
    ≡ (0, 3) ∷ (1, 2) ∷ (0, 1) ∷ (1, 2) ∷ (1, 0) ∷ (0, 1) ∷ (0, 3) ∷ (0, 3) ∷ (1, 2) ∷ (1, 0) ∷ []
extents = refl

abbrev at_mark : ℕ → ℕ → Mark
at_mark rule depth = record { rule = rule; depth = depth }

-- an entry is another one by its kind, its rule, its depth and what it names
pub entries :
    map (same_entry (Compared (at_mark 1 2) (a_module 65)))
    (Compared (at_mark 1 2) (a_module 65) ∷ Compared (at_mark 0 2) (a_module 65) ∷ Compared (at_mark 1 1) (a_module 65) ∷ Compared (at_mark 1 2) (a_module 66)
    ∷ Ignored (at_mark 1 2) (a_module 65) ∷ [])
    ≡ true ∷ false ∷ false ∷ false ∷ false ∷ []
entries = refl

pub entries_of_branches :
    map (same_entry (Branched (at_mark 1 2) (1 ∷ []) (2 ∷ [])))
    (Branched (at_mark 1 2) (1 ∷ []) (2 ∷ []) ∷ Branched (at_mark 1 2) (1 ∷ []) (3 ∷ []) ∷ Branched (at_mark 1 2) (0 ∷ []) (2 ∷ [])
    ∷ Branched (at_mark 1 3) (1 ∷ []) (2 ∷ []) ∷ Out (at_mark 1 2) (1 ∷ []) ∷ [])
    ≡ true ∷ false ∷ false ∷ false ∷ false ∷ []
entries_of_branches = refl

pub entries_out :
    map (same_entry (Out (at_mark 1 2) (1 ∷ []))) (Out (at_mark 1 2) (1 ∷ []) ∷ Out (at_mark 1 2) (2 ∷ []) ∷ Out (at_mark 0 2) (1 ∷ []) ∷ [])
    ≡ true ∷ false ∷ false ∷ []
entries_out = refl

-- which replies are refusals, and which are so for lack of memory
pub kinds_of_replies :
    map (λ script. any_refusal (out (reply 100000) script none)) (codes "quit" ∷ codes ";\n" ∷ codes "axiom A" ∷ codes "axiom $" ∷ codes "string 1" ∷ [])
    ≡ false ∷ false ∷ false ∷ true ∷ true ∷ []
kinds_of_replies = refl

pub want_of_memory :
    any_refusal (out (reply 100000) (codes "axiom A") (λ n. true)) ∷ any_memory (out (reply 100000) (codes "axiom $\nquit") none) ∷ any_memory (out (reply 100000) (codes "axiom A") none) ∷ []
    ≡ true ∷ false ∷ false ∷ []
want_of_memory = refl

-- the system stays at the end of a session, and where memory is wanting
pub depths_after :
    map (λ script. (last_system (out (reply 100000) script (λ n. n == 3))).depth) (codes "depth 7\nquit\n" ∷ codes "depth 7\n\ndepth 8\n" ∷ codes "depth 7\ndepth 9\nx\n" ∷ codes "depth 7\nx" ∷ [])
    ≡ 7 ∷ 7 ∷ 9 ∷ 7 ∷ []
depths_after = refl

-- lines that spell commands, refused or not
pub spelling_lines :
    map (λ line. is_some (spelled_command line)) (codes "axiom A" ∷ codes "axiom A\r" ∷ codes "string 5" ∷ codes " " ∷ codes ";" ∷ codes "axiom $" ∷ codes "axiom A\r\r" ∷ codes "x" ∷ [])
    ≡ true ∷ true ∷ true ∷ false ∷ false ∷ false ∷ false ∷ false ∷ []
spelling_lines = refl

-- the deepest nesting of a command's expressions
pub nestings_of_commands :
    map (λ line. option_map nesting (spelled_command line))
    (codes "hom h: A(x) => F(1,(x))" ∷ codes "hom h: A(x) : ((x)) => F((x))" ∷ codes "production p: A : ((1)) @ (1) => B(1,(((1))))F(1)"
    ∷ codes "production p: A : ((1)) @ ((((1)))) => B(1)" ∷ codes "production p: A : ((1)) => B[(1)]" ∷ codes "production p: A => B((1),1)F" ∷ codes "production p: A => B[C((1))]F(((1)))" ∷ codes "axiom A(1)" ∷ [])
    ≡ Some 1 ∷ Some 2 ∷ Some 3 ∷ Some 4 ∷ None ∷ Some 1 ∷ Some 2 ∷ Some 0 ∷ []
nestings_of_commands = refl

-- letter by letter; brackets and cuts stay
pub rewritten_letters :
    rewritten (λ m. Ok (S.Module m.name m.params ∷ S.Module (named (short 66)) [] ∷ [])) (S.Push ∷ S.Module (named (short 65)) [] ∷ S.Cut ∷ S.Pop ∷ [])
    ≡ Ok (S.Push ∷ S.Module (named (short 65)) [] ∷ S.Module (named (short 66)) [] ∷ S.Cut ∷ S.Pop ∷ [])
rewritten_letters = refl

pub plain_symbols :
    map raw_plain (open_bracket ∷ letter_a ∷ a_cut ∷ closing_bracket ∷ []) ≡ S.Push ∷ S.Module (named (short 65)) [] ∷ S.Cut ∷ S.Pop ∷ []
plain_symbols = refl

-- bytes at the edges of their kinds
pub kinds_of_bytes :
    map is_blank (8 ∷ 9 ∷ 10 ∷ 11 ∷ 12 ∷ 13 ∷ 31 ∷ 32 ∷ 33 ∷ 160 ∷ []) ∷ map is_digit (47 ∷ 48 ∷ 57 ∷ 58 ∷ 65 ∷ []) ∷ map is_letter (48 ∷ 64 ∷ 65 ∷ 90 ∷ 91 ∷ 96 ∷ 97 ∷ 122 ∷ 123 ∷ [])
    ∷ map is_word_byte (45 ∷ 47 ∷ 48 ∷ 57 ∷ 58 ∷ 64 ∷ 65 ∷ 90 ∷ 94 ∷ 95 ∷ 96 ∷ 97 ∷ 122 ∷ 123 ∷ []) ∷ []
    ≡ (false ∷ true ∷ false ∷ false ∷ false ∷ false ∷ false ∷ true ∷ false ∷ false ∷ []) ∷ (false ∷ true ∷ true ∷ false ∷ false ∷ [])
    ∷ (false ∷ false ∷ true ∷ true ∷ false ∷ false ∷ true ∷ true ∷ false ∷ [])
    ∷ (false ∷ false ∷ true ∷ true ∷ false ∷ false ∷ true ∷ true ∷ false ∷ true ∷ false ∷ true ∷ true ∷ false ∷ []) ∷ []
kinds_of_bytes = refl

-- a line that has no reply without its CR has none for lack of memory
pub no_want_of_memory : output_text (out (reply 100000) (codes "\r\n \t\r\n;\r\nquit\r\n") (λ n. true)) ≡ codes "refused memory\n"
no_want_of_memory = refl

-- each command as it is printed
pub texts_of_commands :
    map (λ line. option_map (λ c. text_of (command_pieces c)) (spelled_command line))
    (codes "axiom  F_a F_b[ + ]" ∷ codes "production p:A=>" ∷ codes "production t p :A<B>C=>D" ∷ codes "drop  p" ∷ codes "ignore A  B_c D" ∷ codes "schedule  a b"
    ∷ codes "seed 007" ∷ codes "depth  1" ∷ codes "lattice  cubic" ∷ codes "hom h:A=>B" ∷ codes "string" ∷ codes "string  03" ∷ codes " segments" ∷ codes "svg " ∷ codes "show" ∷ codes "quit" ∷ [])
    ≡ Some (codes "axiom F_a F_b[+]") ∷ Some (codes "production p: A =>") ∷ Some (codes "production t p: A < B > C => D") ∷ Some (codes "drop p")
    ∷ Some (codes "ignore AB_c D") ∷ Some (codes "schedule a b") ∷ Some (codes "seed 7") ∷ Some (codes "depth 1") ∷ Some (codes "lattice cubic") ∷ Some (codes "hom h: A => B")
    ∷ Some (codes "string") ∷ Some (codes "string 3") ∷ Some (codes "segments") ∷ Some (codes "svg") ∷ Some (codes "show") ∷ Some (codes "quit") ∷ []
unfolding digits
texts_of_commands = refl

-- the places of printed tokens
pub places_of_tokens :
    map (λ line. option_map (λ c. map (λ t. t.start) (placed 5 (command_pieces c))) (spelled_command line)) (codes "string 12" ∷ codes "production p: A => B(1,x_1)" ∷ codes "production p: A(x) : x<=10 => F_a B" ∷ [])
    ≡ Some (5 ∷ 12 ∷ []) ∷ Some (5 ∷ 16 ∷ 17 ∷ 19 ∷ 21 ∷ 24 ∷ 25 ∷ 26 ∷ 27 ∷ 28 ∷ 31 ∷ []) ∷ Some (5 ∷ 16 ∷ 17 ∷ 19 ∷ 20 ∷ 21 ∷ 22 ∷ 24 ∷ 26 ∷ 27 ∷ 29 ∷ 32 ∷ 35 ∷ 39 ∷ []) ∷ []
unfolding digits
places_of_tokens = refl

-- what a token leaves after it, and what it begins with
pub ends_of_tokens :
    map ending (Bang ∷ Less ∷ Greater ∷ Number 1 ∷ Equal ∷ Plus ∷ Name (short 65) ∷ Name (long 65 (66 ∷ [])) ∷ Word (codes "a") ∷ AtMost ∷ [])
    ≡ not_equals ∷ not_equals ∷ not_equals ∷ not_digit ∷ anything ∷ anything ∷ not_underscore ∷ not_plain ∷ not_plain ∷ anything ∷ []
ends_of_tokens = refl

pub beginnings_of_tokens :
    map beginning (Equal ∷ Arrow ∷ Number 1 ∷ Name (short 65) ∷ Word (codes "a") ∷ Unequal ∷ Less ∷ AtMost ∷ Bang ∷ [])
    ≡ equals ∷ equals ∷ digit ∷ letter ∷ letter ∷ mark ∷ mark ∷ mark ∷ mark ∷ []
beginnings_of_tokens = refl
