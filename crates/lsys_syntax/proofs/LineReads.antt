-- The printed line of a command is read as its own tokens.
use Rattle.std.proofs.Common.{◌≡◌, ℕ, Bool, true, false, Option, Some, None, Ok, List, [], ◌∷◌, ◌++◌, ◌&&◌, ◌+◌, ◌≤◌, map, length, refl, ap, append_assoc, append-nil, codes, nat_le, arith}
use Rattle.std.proofs.lemmas.Bool.Decides.{nat_tests}
use Rattle.lsys_syntax.specs.Tokens.{NameText, Kind, Arrow, Colon, At, Less, First, Words, Modules, is_letter, is_word_byte, tokens}
use Rattle.lsys_syntax.specs.Pieces.{Piece, blank, token, note, text_of, kinds_of, placed, token_text, Tail, anything, not_plain, Reads, name_ending, IsNameText, IsWordText, Every}
use Rattle.lsys_syntax.specs.Strings.{ModuleName, Symbol, Module, Signed, string_pieces, signed_pieces, EachOf, IsModuleName, IsSymbol, IsSigned}
use Rattle.lsys_syntax.specs.Expressions.{Expr, IsExpr, expr_pieces}
use Rattle.lsys_syntax.specs.Rules.{Rule, formal_pieces, left_pieces, right_pieces, option_pieces, successor_pieces, rule_pieces, IsOption, IsRule}
use Rattle.lsys_syntax.specs.Commands.{Lattice, square, hexagonal, cubic, Command, set_axiom, put_production, drop_rule, set_ignored, set_schedule, set_seed, set_depth, set_lattice, put_homomorphism, print_string, print_segments, print_svg, print_system, quit, set_version, set_own, drop_own, set_numbering, to_ignore, to_consider, Numbering, by_place, by_name, lattice_word, numbering_word, as_symbol, string_after, words_pieces, command_pieces, IsCommand}
use Rattle.lsys_syntax.proofs.StringsRead.{ReadsAnywhere, string-reads, symbol-reads, signed-reads, symbol_tail}
use Rattle.lsys_syntax.proofs.ReadBack.{reads_back}
use Rattle.lsys_syntax.proofs.ExprReads.{pieces-reads}

formal-reads : (f : NameText) → IsNameText f → (ps : List Piece) → ReadsAnywhere ps → Reads Modules anything (formal_pieces f ++ ps)
formal-reads f g ps h = (refl, (tt, g), h (name_ending f))

param-reads : (e : Expr) → IsExpr e → (ps : List Piece) → ReadsAnywhere ps → Reads Modules anything (expr_pieces e ++ ps)
param-reads e g ps h = pieces-reads e g anything (refl, refl) ps (λ t o. h t)

successor-reads : (xs : List (Symbol Expr)) → EachOf (IsSymbol IsExpr) xs → ReadsAnywhere (successor_pieces xs)
successor-reads [] g = λ t. tt
successor-reads (x ∷ xs) g = λ t. rw (← append-nil (string_pieces expr_pieces (x ∷ xs))) (string-reads expr_pieces IsExpr param-reads (x ∷ xs) g anything (λ e. refl) [] (λ t'. tt))

arrow-reads : (xs : List (Symbol Expr)) → EachOf (IsSymbol IsExpr) xs → ReadsAnywhere (blank ∷ token Arrow ∷ successor_pieces xs)
arrow-reads xs g = λ t. (refl, tt, successor-reads xs g anything)

option-reads : (o : Option Expr) (k : Kind) → IsOption o → (ps : List Piece) → ((qs : List Piece) → Reads Modules anything qs → Reads Modules anything (token k ∷ blank ∷ qs)) → ReadsAnywhere ps → ReadsAnywhere (option_pieces k o ++ ps)
option-reads None k g ps m h = h
option-reads (Some e) k g ps m h = λ t. m (expr_pieces e ++ ps) (pieces-reads e g anything (refl, refl) ps (λ t' o. h t'))

right-reads : (xs : List (Symbol NameText)) → EachOf (IsSymbol IsNameText) xs → (ps : List Piece) → ReadsAnywhere ps → ReadsAnywhere (right_pieces xs ++ ps)
right-reads [] g ps h = h
right-reads (x ∷ xs) g ps h = λ t. (refl, tt, string-reads formal_pieces IsNameText formal-reads (x ∷ xs) g anything (λ e. refl) ps h)

left-reads : (xs : List (Symbol NameText)) → EachOf (IsSymbol IsNameText) xs → (ps : List Piece) → Reads Modules anything ps → Reads Modules anything (left_pieces xs ++ ps)
left-reads [] g ps h = h
left-reads (x ∷ xs) g ps h =
    rw (append_assoc (string_pieces formal_pieces (x ∷ xs)) (blank ∷ token Less ∷ blank ∷ []) ps) (string-reads formal_pieces IsNameText formal-reads (x ∷ xs) g anything (λ e. refl) (blank ∷ token Less ∷ blank ∷ ps) (λ t. (refl, tt, h)))

pub rule-reads : (r : Rule) → IsRule r → Reads Modules anything (rule_pieces r)
rule-reads r g =
    let last : List Piece = blank ∷ token Arrow ∷ successor_pieces r.successor in
    left-reads r.left g.left _
    (symbol-reads formal_pieces IsNameText formal-reads (Module r.name r.formals) (g.name, g.formals) anything (λ e. refl) _
    (right-reads r.right g.right _
    (option-reads r.condition Colon g.condition _ (λ qs h. (refl, tt, h))
    (option-reads r.weight At g.weight last (λ qs h. (refl, tt, h)) (arrow-reads r.successor g.successor)))
    (symbol_tail (Module r.name r.formals))))

-- a test for words that are written out
abbrev all_pass : (ℕ → Bool) → List ℕ → Bool
all_pass p [] = true
all_pass p (c ∷ cs) = p c && all_pass p cs

abbrev word_test : List ℕ → Bool
word_test [] = false
word_test (c ∷ cs) = is_letter c && (all_pass is_word_byte cs && nat_le (length cs) 15)

both : (a b : Bool) → (a && b) ≡ true → (a ≡ true) × (b ≡ true)
both true b h = (refl, h)
both false b h = cc

all_pass-Every : (p : ℕ → Bool) (cs : List ℕ) → all_pass p cs ≡ true → Every p cs
all_pass-Every p [] h = tt
all_pass-Every p (c ∷ cs) h = let t : (p c ≡ true) × (all_pass p cs ≡ true) = both (p c) (all_pass p cs) h in (t.0, all_pass-Every p cs t.1)

pub word_from : (w : List ℕ) → word_test w ≡ true → IsWordText w
word_from [] h = cc
word_from (c ∷ cs) h =
    let t : (is_letter c ≡ true) × ((all_pass is_word_byte cs && nat_le (length cs) 15) ≡ true) = both (is_letter c) (all_pass is_word_byte cs && nat_le (length cs) 15) h in
    let u : (all_pass is_word_byte cs ≡ true) × (nat_le (length cs) 15 ≡ true) = both (all_pass is_word_byte cs) (nat_le (length cs) 15) t.1 in
    let l : length cs ≤ 15 = grind (arith, nat_tests, u.1) in
    (t.0, all_pass-Every is_word_byte cs u.0, omega (arith, l))

lattice-text : (l : Lattice) → IsWordText (lattice_word l)
lattice-text square = word_from (codes "square") refl
lattice-text hexagonal = word_from (codes "hexagonal") refl
lattice-text cubic = word_from (codes "cubic") refl

numbering-text : (g : Numbering) → IsWordText (numbering_word g)
numbering-text by_place = word_from (codes "places") refl
numbering-text by_name = word_from (codes "names") refl

after-reads : (xs : List (Symbol Signed)) → EachOf (IsSymbol IsSigned) xs → (t : Tail) → Reads Modules t (string_after xs)
after-reads [] g t = tt
after-reads (x ∷ xs) g t = rw (← append-nil (string_pieces signed_pieces (x ∷ xs))) (string-reads signed_pieces IsSigned signed-reads (x ∷ xs) g anything (λ e. refl) [] (λ u. tt))

names-symbols : (ns : List ModuleName) → EachOf IsModuleName ns → EachOf (IsSymbol IsSigned) (map as_symbol ns)
names-symbols [] g = tt
names-symbols (n ∷ ns) g = ((g.0, tt), names-symbols ns g.1)

words-reads : (ws : List (List ℕ)) → EachOf IsWordText ws → (t : Tail) → Reads Words t (words_pieces ws)
words-reads [] g t = tt
words-reads (w ∷ ws) g t = (refl, (tt, g.0), words-reads ws g.1 _)

-- Each piece of a printed command is read as itself.
pub command-reads : (c : Command) → IsCommand c → Reads First anything (command_pieces c)
command-reads (set_axiom xs) g = (refl, (tt, word_from (codes "axiom") refl), after-reads xs g.0 _)
command-reads (put_production None l r) g = (refl, (tt, word_from (codes "production") refl), (refl, (tt, g.1), (refl, tt, rule-reads r g.2)))
command-reads (put_production (Some t) l r) g = (refl, (tt, word_from (codes "production") refl), (refl, (tt, g.0), (refl, (tt, g.1), (refl, tt, rule-reads r g.2))))
command-reads (drop_rule l) g = (refl, (tt, word_from (codes "drop") refl), (refl, (tt, g), tt))
command-reads (set_ignored ns) g = (refl, (tt, word_from (codes "ignore") refl), after-reads (map as_symbol ns) (names-symbols ns g) _)
command-reads (set_schedule []) g = elim g [ ]
command-reads (set_schedule (w ∷ ws)) g = (refl, (tt, word_from (codes "schedule") refl), words-reads (w ∷ ws) g not_plain)
command-reads (set_seed n) g = (refl, (tt, word_from (codes "seed") refl), (refl, g, tt))
command-reads (set_depth n) g = (refl, (tt, word_from (codes "depth") refl), (refl, g, tt))
command-reads (set_lattice l) g = (refl, (tt, word_from (codes "lattice") refl), (refl, (tt, lattice-text l), tt))
command-reads (put_homomorphism l r) g = (refl, (tt, word_from (codes "hom") refl), (refl, (tt, g.0), (refl, tt, rule-reads r g.1)))
command-reads (print_string None) g = (refl, (tt, word_from (codes "string") refl), tt)
command-reads (print_string (Some n)) g = (refl, (tt, word_from (codes "string") refl), (refl, g, tt))
command-reads print_segments g = (refl, (tt, word_from (codes "segments") refl), tt)
command-reads print_svg g = (refl, (tt, word_from (codes "svg") refl), tt)
command-reads print_system g = (refl, (tt, word_from (codes "show") refl), tt)
command-reads quit g = (refl, (tt, word_from (codes "quit") refl), tt)
command-reads (set_version n) g = (refl, (tt, word_from (codes "version") refl), (refl, g, tt))
command-reads (set_own to_ignore t ns) g =
    (refl, (tt, word_from (codes "ignoring") refl), (refl, (tt, g.0), (refl, tt, after-reads (map as_symbol ns) (names-symbols ns g.1) _)))
command-reads (set_own to_consider t ns) g =
    (refl, (tt, word_from (codes "consider") refl), (refl, (tt, g.0), (refl, tt, after-reads (map as_symbol ns) (names-symbols ns g.1) _)))
command-reads (drop_own t) g = (refl, (tt, word_from (codes "common") refl), (refl, (tt, g), tt))
command-reads (set_numbering n) g = (refl, (tt, word_from (codes "lineage") refl), (refl, (tt, numbering-text n), tt))

-- The printed line is read as the tokens that it was printed from.
pub line-reads : (c : Command) → IsCommand c → tokens (text_of (command_pieces c)) ≡ Ok (placed 0 (command_pieces c))
line-reads c g = reads_back (command_pieces c) (command-reads c g)

pub kinds-placed : (ps : List Piece) (p : ℕ) → map (λ t. t.kind) (placed p ps) ≡ kinds_of ps
kinds-placed [] p = refl
kinds-placed (blank ∷ ps) p = kinds-placed ps (p + 1)
kinds-placed (note n ∷ ps) p = kinds-placed ps p
kinds-placed (token k ∷ ps) p = ap (λ ks. k ∷ ks) (kinds-placed ps (p + length (token_text k)))
