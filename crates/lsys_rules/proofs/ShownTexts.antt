-- The texts of a shown system, part by part.
use Rattle.std.proofs.Common.{◌≡◌, ℕ, zero, suc, arith, ◌+◌, ◌<◌, ℤ, Bool, true, false, List, [], ◌∷◌, ◌++◌, codes, decimal, length, map, take, drop, get_or, refl, ap, ap₂, subst, ◌∙◌, sym, append_assoc, append-nil, All, Option, Some, None, IsTrue, ◌==◌, ◌||◌, is_some, unwrap_or, if◌then◌else◌}
use Rattle.std.proofs.lemmas.Bool.{eqb-true}
use Rattle.std.proofs.lemmas.List.{take_more, take-append-drop, map-append}
use Rattle.lsys_syntax.specs.Tokens.{NameText, long, Kind, LongWord, Comma, LeftParen, RightParen, LeftBracket, RightBracket, Percent, Colon, At, Less, Greater, Bang, Assign, one_mark}
use Rattle.lsys_syntax.specs.Pieces.{Piece, blank, token, note, a_symbol, a_param, token_text, text_of}
use Rattle.lsys_syntax.specs.Strings.{Symbol, Module, Push, Pop, Cut, ModuleName, named, Signed, signed_of, more_pieces, params_pieces, symbol_pieces, string_pieces, signed_pieces, value_pieces, string_text, ends_in_name, begins_with_letter}
use Rattle.lsys_syntax.specs.Expressions.{Expr, only_and, or, And, only_rel, and, Rel, only_sum, compare, RelOp, equal, unequal, less, at_most, greater, at_least, Sum, only_term, total, SumOp, add, subtract, Term, only_unary, product, TermOp, multiply, divide, remainder, Unary, negated, inverted, only_atom, raised, Atom, number, name, parens, expr_kinds, and_kinds, rel_kinds, sum_kinds, term_kinds, unary_kinds, atom_kinds, rel_kind, sum_kind, term_kind, expr_pieces}
use Rattle.lsys_syntax.specs.Commands.{Command, Numbering, as_symbol, command_pieces, list_word, set_axiom, set_depth, set_ignored, set_lattice, set_schedule, set_seed, set_version, string_after, words_pieces}
use Rattle.lsys_syntax.specs.Rules.{Rule, Production, formal_pieces, left_pieces, predecessor_pieces, right_pieces, option_pieces, successor_pieces, rule_pieces}
use Rattle.lsys_spec.specs.Systems.{System, Homomorphism, Own, written}
use Rattle.lsys_spec.specs.Shown.{as_put, as_put_homomorphism, as_set_own, numbering_commands, version_commands, script_of, show_text}
use Rattle.lsys_text.specs.declared.token_kind.TokenKind.{TokenKind}
use Rattle.lsys_text.specs.declared.token_kind.TokenKind.TheVariants as kinds
use Rattle.lsys_text.specs.Tokens.{kind_of, is_mark, mark_kind, IsMarkByte}
use Rattle.lsys_module.specs.Views.{module_name}
use Rattle.lsys_module.proofs.PrintedTexts.{text_of-append}
use Rattle.lsys_rules.specs.Showing.{script_line, listed_text, names_text, kinds_text, expr_after, version_lines}

-- a text of items, one after another
pub record Gathers {X : Type 0} (whole : List X → List ℕ) (each : X → List ℕ) : Type 0 where
  pub none : whole [] ≡ []
  pub more : (xs ys : List X) → whole (xs ++ ys) ≡ whole xs ++ whole ys
  pub one : (x : X) → whole (x ∷ []) ≡ each x

-- the items up to a place, and the one there
pub gathered-step : {X : Type 0} (whole : List X → List ℕ) (each : X → List ℕ) → Gathers whole each → (xs : List X) (i : ℕ) (d : X) → i < length xs → d ≡ get_or xs i d → whole (take (i + 1) xs) ≡ whole (take i xs) ++ each d
gathered-step whole each g xs i d h e =
    ap whole (take_more xs i d h ∙ ap (λ x. take i xs ++ x ∷ []) (sym e)) ∙ g.more (take i xs) (d ∷ []) ∙ ap (λ t. whole (take i xs) ++ t) (g.one d)

-- the items up to a place, and those after it
pub gathered-rest : {X : Type 0} (whole : List X → List ℕ) (each : X → List ℕ) → Gathers whole each → (xs : List X) (i : ℕ) → whole xs ≡ whole (take i xs) ++ whole (drop i xs)
gathered-rest whole each g xs i = ap whole (sym (take-append-drop i xs)) ∙ g.more (take i xs) (drop i xs)

words-append : (xs ys : List (List ℕ)) → text_of (words_pieces (xs ++ ys)) ≡ text_of (words_pieces xs) ++ text_of (words_pieces ys)
words-append [] ys = refl
words-append (w ∷ ws) ys = ap (λ t. 32 ∷ w ++ t) (words-append ws ys) ∙ ap (λ t. 32 ∷ t) (sym (append_assoc w (text_of (words_pieces ws)) (text_of (words_pieces ys))))

pub words_gather : Gathers (λ xs. text_of (words_pieces xs)) (λ w. 32 ∷ w)
words_gather = record { none = refl; more = words-append; one = λ w. ap (λ t. 32 ∷ t) (append-nil w) }

script-append : (xs ys : List Command) → script_of (xs ++ ys) ≡ script_of xs ++ script_of ys
script-append [] ys = refl
script-append (c ∷ cs) ys =
    ap (λ t. text_of (command_pieces c) ++ 10 ∷ t) (script-append cs ys) ∙ sym (append_assoc (text_of (command_pieces c)) (10 ∷ script_of cs) (script_of ys))

pub script_gathers : {X Y : Type 0} (f : Y → Command) (g : X → Y) → Gathers (λ xs. script_of (map f (map g xs))) (λ x. script_line (f (g x)))
script_gathers f g = record {
  none = refl;
  more = λ xs ys. ap (λ zs. script_of (map f zs)) (map-append g xs ys) ∙ ap script_of (map-append f (map g xs) (map g ys)) ∙ script-append (map f (map g xs)) (map f (map g ys));
  one = λ x. refl;
}

kinds-append : (xs ys : List Kind) → kinds_text (xs ++ ys) ≡ kinds_text xs ++ kinds_text ys
kinds-append [] ys = refl
kinds-append (k ∷ ks) ys = ap (λ t. token_text k ++ t) (kinds-append ks ys) ∙ sym (append_assoc (token_text k) (kinds_text ks) (kinds_text ys))

pub kinds_gather : {X : Type 0} (f : X → Kind) → Gathers (λ xs. kinds_text (map f xs)) (λ x. token_text (f x))
kinds_gather f = record {
  none = refl;
  more = λ xs ys. ap kinds_text (map-append f xs ys) ∙ kinds-append (map f xs) (map f ys);
  one = λ x. append-nil (token_text (f x));
}

-- a line, and the lines after it
pub line-after : (c : Command) (cs : List Command) → script_of (c ∷ cs) ≡ script_line c ++ script_of cs
line-after c cs = sym (append_assoc (text_of (command_pieces c)) (10 ∷ []) (script_of cs))

-- tokens of an expression
token-texts : (ks : List Kind) (ps : List Piece) → text_of (map token ks ++ ps) ≡ kinds_text ks ++ text_of ps
token-texts [] ps = refl
token-texts (k ∷ ks) ps = ap (λ t. token_text k ++ t) (token-texts ks ps) ∙ sym (append_assoc (token_text k) (kinds_text ks) (text_of ps))

pub expr-text : (e : Expr) → text_of (expr_pieces e) ≡ kinds_text (expr_kinds e)
expr-text e = token-texts (expr_kinds e) _ ∙ append-nil (kinds_text (expr_kinds e))

-- the values of a string are printed as they would be written
more-written : (zs : List ℤ) → more_pieces value_pieces zs ≡ more_pieces signed_pieces (map signed_of zs)
more-written [] = refl
more-written (z ∷ zs) = ap (λ ps. token Comma ∷ note a_param ∷ (value_pieces z ++ ps)) (more-written zs)

params-written : (zs : List ℤ) → params_pieces value_pieces zs ≡ params_pieces signed_pieces (map signed_of zs)
params-written [] = refl
params-written (z ∷ zs) = ap (λ ps. token LeftParen ∷ note a_param ∷ (value_pieces z ++ (ps ++ token RightParen ∷ []))) (more-written zs)

begins-written : (xs : List (Symbol ℤ)) → begins_with_letter xs ≡ begins_with_letter (written xs)
begins-written [] = refl
begins-written (Module n zs ∷ xs) = refl
begins-written (Push ∷ xs) = refl
begins-written (Pop ∷ xs) = refl
begins-written (Cut ∷ xs) = refl

ends-written : (n : ModuleName) (zs : List ℤ) → ends_in_name {P = ℤ} (Module n zs) ≡ ends_in_name {P = Signed} (Module n (map signed_of zs))
ends-written (named (long c more)) [] = refl
ends-written (named (long c more)) (z ∷ zs) = refl
ends-written n zs = refl

string-written : (xs : List (Symbol ℤ)) → string_pieces value_pieces xs ≡ string_pieces signed_pieces (written xs)
string-written [] = refl
string-written (Module n zs ∷ xs) = rw (params-written zs, ends-written n zs, begins-written xs, string-written xs) refl
string-written (Push ∷ xs) = ap (λ ps. note a_symbol ∷ token LeftBracket ∷ ps) (string-written xs)
string-written (Pop ∷ xs) = ap (λ ps. note a_symbol ∷ token RightBracket ∷ ps) (string-written xs)
string-written (Cut ∷ xs) = ap (λ ps. note a_symbol ∷ token Percent ∷ ps) (string-written xs)

-- the line of an axiom that has some symbol
pub axiom-line : (xs : List (Symbol ℤ)) → (xs ≡ [] → ⊥) → script_line (set_axiom (written xs)) ≡ codes "axiom " ++ (string_text xs ++ 10 ∷ [])
axiom-line [] h = absurd (h refl)
axiom-line (Module n zs ∷ xs) h = ap (λ ps. codes "axiom " ++ (text_of ps ++ 10 ∷ [])) (sym (string-written (Module n zs ∷ xs)))
axiom-line (Push ∷ xs) h = ap (λ ps. codes "axiom " ++ (text_of ps ++ 10 ∷ [])) (sym (string-written (Push ∷ xs)))
axiom-line (Pop ∷ xs) h = ap (λ ps. codes "axiom " ++ (text_of ps ++ 10 ∷ [])) (sym (string-written (Pop ∷ xs)))
axiom-line (Cut ∷ xs) h = ap (λ ps. codes "axiom " ++ (text_of ps ++ 10 ∷ [])) (sym (string-written (Cut ∷ xs)))

-- the line of names that are some
pub ignored-line : (ns : List ModuleName) → (ns ≡ [] → ⊥) → script_line (set_ignored ns) ≡ codes "ignore " ++ (names_text ns ++ 10 ∷ [])
ignored-line [] h = absurd (h refl)
ignored-line (n ∷ ns) h = refl

-- the code's symbols are some where the list says that it isn't empty
pub some_symbols : {X Y : Type 0} (f : X → Y) (xs : List X) → (xs ≡ [] → ⊥) → map f xs ≡ [] → ⊥
some_symbols f [] h e = h refl
some_symbols f (x ∷ xs) h e = cc

pub no_items : {X : Type 0} (b : Bool) (xs : List X) → b ≡ (length xs == 0) → b ≡ false → xs ≡ [] → ⊥
no_items b xs h e is = let none : (length xs == 0) ≡ true = ap (λ ys. length ys == 0) is in let both : false ≡ true = sym e ∙ h ∙ none in cc

-- names, as modules without parameters
pub bare-names : (ns : List (List ℕ)) → names_text (map module_name ns) ≡ text_of (string_pieces signed_pieces (map (λ n. as_symbol (module_name n)) ns))
bare-names ns = ap (λ xs. text_of (string_pieces signed_pieces xs)) (map-map ns)
  where
    map-map : (ms : List (List ℕ)) → map as_symbol (map module_name ms) ≡ map (λ n. as_symbol (module_name n)) ms
    map-map [] = refl
    map-map (m ∷ ms) = ap (λ xs. as_symbol (module_name m) ∷ xs) (map-map ms)

-- a context and the mark beside it

pub left-text : (xs : List (Symbol NameText)) → (xs ≡ [] → ⊥) → text_of (left_pieces xs) ≡ text_of (string_pieces formal_pieces xs) ++ codes " < "
left-text [] h = absurd (h refl)
left-text (x ∷ xs) h = text_of-append (string_pieces formal_pieces (x ∷ xs)) (blank ∷ token Less ∷ blank ∷ [])

pub right-text : (xs : List (Symbol NameText)) → (xs ≡ [] → ⊥) → text_of (right_pieces xs) ≡ codes " > " ++ text_of (string_pieces formal_pieces xs)
right-text [] h = absurd (h refl)
right-text (x ∷ xs) h = refl

pub successor-text : (xs : List (Symbol Expr)) → (xs ≡ [] → ⊥) → text_of (successor_pieces xs) ≡ codes " " ++ text_of (string_pieces expr_pieces xs)
successor-text [] h = absurd (h refl)
successor-text (x ∷ xs) h = refl

option-text : (e : Option Expr) → text_of (option_pieces Colon e) ≡ expr_after (codes " : ") e
option-text None = refl
option-text (Some e) = refl

weight-text : (e : Option Expr) → text_of (option_pieces At e) ≡ expr_after (codes " @ ") e
weight-text None = refl
weight-text (Some e) = refl

-- a rule, part by part
pub rule-text : (r : Rule) → text_of (rule_pieces r)
    ≡ text_of (left_pieces r.left) ++ (text_of (symbol_pieces formal_pieces (Module r.name r.formals)) ++ (text_of (right_pieces r.right) ++ (expr_after (codes " : ") r.condition ++ (expr_after (codes " @ ") r.weight ++ (codes " =>" ++ text_of (successor_pieces r.successor))))))
rule-text r =
    text_of-append (left_pieces r.left) _
    ∙ ap (λ t. text_of (left_pieces r.left) ++ t)
    (text_of-append (predecessor_pieces r.name r.formals) _
    ∙ ap (λ t. text_of (predecessor_pieces r.name r.formals) ++ t)
    (text_of-append (right_pieces r.right) _
    ∙ ap (λ t. text_of (right_pieces r.right) ++ t)
    (text_of-append (option_pieces Colon r.condition) _
    ∙ ap₂ (λ a b. a ++ b) (option-text r.condition) (text_of-append (option_pieces At r.weight) _ ∙ ap (λ a. a ++ (codes " =>" ++ text_of (successor_pieces r.successor))) (weight-text r.weight)))))

-- the line of a production, and that of a rule of the homomorphism
pub labelled-text : (label : List ℕ) (rest : List ℕ) → (label ++ (58 ∷ 32 ∷ rest)) ++ 10 ∷ [] ≡ label ++ (58 ∷ 32 ∷ (rest ++ 10 ∷ []))
labelled-text label rest = append_assoc label (58 ∷ 32 ∷ rest) (10 ∷ [])

pub production-line : (p : Production) → script_line (as_put p) ≡ codes "production " ++ (p.table ++ (codes " " ++ (p.label ++ (58 ∷ 32 ∷ (text_of (rule_pieces p.rule) ++ 10 ∷ [])))))
production-line p =
    ap (λ t. codes "production " ++ t)
    (append_assoc p.table (32 ∷ (p.label ++ (58 ∷ 32 ∷ text_of (rule_pieces p.rule)))) (10 ∷ []) ∙ ap (λ t. p.table ++ 32 ∷ t) (labelled-text p.label (text_of (rule_pieces p.rule))))

pub homomorphism-line : (h : Homomorphism) → script_line (as_put_homomorphism h) ≡ codes "hom " ++ (h.label ++ (58 ∷ 32 ∷ (text_of (rule_pieces h.rule) ++ 10 ∷ [])))
homomorphism-line h = ap (λ t. codes "hom " ++ t) (labelled-text h.label (text_of (rule_pieces h.rule)))

-- the line of a number
pub seed-line : (n : ℕ) → script_line (set_seed n) ≡ codes "seed " ++ (decimal n ++ 10 ∷ [])
seed-line n = ap (λ t. codes "seed " ++ (t ++ 10 ∷ [])) (append-nil (decimal n))

pub depth-line : (n : ℕ) → script_line (set_depth n) ≡ codes "depth " ++ (decimal n ++ 10 ∷ [])
depth-line n = ap (λ t. codes "depth " ++ (t ++ 10 ∷ [])) (append-nil (decimal n))

-- the first lines of a system that isn't of version 1
pub later-lines : (n : ℕ) (g : Numbering) → (n ≡ 1 → ⊥) → version_lines n g ≡ (codes "version " ++ (decimal n ++ 10 ∷ [])) ++ script_of (numbering_commands g)
later-lines n g h =
    ap (λ b. if b then [] else script_line (set_version n) ++ script_of (numbering_commands g)) (other (n == 1) refl)
    ∙ ap (λ t. (codes "version " ++ (t ++ 10 ∷ [])) ++ script_of (numbering_commands g)) (append-nil (decimal n))
  where
    other : (b : Bool) → (n == 1) ≡ b → b ≡ false
    other true e = absurd (h (eqb-true n 1 e))
    other false e = refl

-- the lines of own lists
pub lists_gather : Gathers (λ os. script_of (map as_set_own os)) (λ o. script_line (as_set_own o))
lists_gather = record {
  none = refl;
  more = λ os qs. ap script_of (map-append as_set_own os qs) ∙ script-append (map as_set_own os) (map as_set_own qs);
  one = λ o. refl;
}

pub own-line : (o : Own) → script_line (as_set_own o) ≡ list_word o.kind ++ ((32 ∷ o.table) ++ listed_text o.names)
own-line o =
    let names = text_of (string_after (map as_symbol o.names)) in
    append_assoc (list_word o.kind) (32 ∷ (o.table ++ 58 ∷ names)) (10 ∷ []) ∙ ap (λ t. list_word o.kind ++ 32 ∷ t) (append_assoc o.table (58 ∷ names) (10 ∷ []))

-- names that are some, after their colon
pub listed-text : (ns : List ModuleName) → (ns ≡ [] → ⊥) → listed_text ns ≡ codes ": " ++ (names_text ns ++ 10 ∷ [])
listed-text [] h = absurd (h refl)
listed-text (n ∷ ns) h = refl

-- the first lines of a system
version-text : (s : System) → script_of (version_commands s) ≡ version_lines s.version s.numbering
version-text s = by (s.version == 1)
  where
    by : (b : Bool) → script_of (if b then [] else set_version s.version ∷ numbering_commands s.numbering) ≡ (if b then [] else script_line (set_version s.version) ++ script_of (numbering_commands s.numbering))
    by true = refl
    by false = line-after (set_version s.version) (numbering_commands s.numbering)

-- all lines of a system
pub show-text : (s : System) → show_text s
    ≡ version_lines s.version s.numbering ++ (script_line (set_lattice s.lattice) ++ (script_line (set_seed s.seed) ++ (script_line (set_axiom (written s.axiom_string)) ++ (script_line (set_ignored s.ignored) ++ (script_of (map as_put s.rules) ++ (script_of (map as_put_homomorphism s.homomorphisms) ++ (script_of (map as_set_own s.own) ++ (script_line (set_schedule s.schedule) ++ script_line (set_depth s.depth)))))))))
show-text s =
    let last = set_schedule s.schedule ∷ set_depth s.depth ∷ [] in
    let lists = map as_set_own s.own ++ last in
    let homs = map as_put_homomorphism s.homomorphisms ++ lists in
    let rules = map as_put s.rules ++ homs in
    let fifth = set_ignored s.ignored ∷ rules in
    let fourth = set_axiom (written s.axiom_string) ∷ fifth in
    let third = set_seed s.seed ∷ fourth in
    let second = set_lattice s.lattice ∷ third in
    script-append (version_commands s) second ∙ ap (λ t. t ++ script_of second) (version-text s)
    ∙ ap (λ t. version_lines s.version s.numbering ++ t) (line-after (set_lattice s.lattice) third
    ∙ ap (λ t. script_line (set_lattice s.lattice) ++ t) (line-after (set_seed s.seed) fourth
    ∙ ap (λ t. script_line (set_seed s.seed) ++ t) (line-after (set_axiom (written s.axiom_string)) fifth
    ∙ ap (λ t. script_line (set_axiom (written s.axiom_string)) ++ t) (line-after (set_ignored s.ignored) rules
    ∙ ap (λ t. script_line (set_ignored s.ignored) ++ t) (script-append (map as_put s.rules) homs
    ∙ ap (λ t. script_of (map as_put s.rules) ++ t) (script-append (map as_put_homomorphism s.homomorphisms) lists
    ∙ ap (λ t. script_of (map as_put_homomorphism s.homomorphisms) ++ t) (script-append (map as_set_own s.own) last
    ∙ ap (λ t. script_of (map as_set_own s.own) ++ t) (line-after (set_schedule s.schedule) (set_depth s.depth ∷ []) ∙ ap (λ t. script_line (set_schedule s.schedule) ++ t) (line-after (set_depth s.depth) [] ∙ append-nil (script_line (set_depth s.depth)))))))))))

-- No mark of an expression is other than the 20 marks.

abbrev IsRead : Kind → Type 0
IsRead LongWord = ⊥
IsRead k = Unit {0}

abbrev AreRead : List Kind → Type 0
AreRead [] = Unit {0}
AreRead (k ∷ ks) = IsRead k × AreRead ks

all-read : (xs ys : List Kind) → AreRead xs → AreRead ys → AreRead (xs ++ ys)
all-read [] ys h k = k
all-read (x ∷ xs) ys h k = (h.0, all-read xs ys h.1 k)

rel-read : (op : RelOp) → IsRead (rel_kind op)
rel-read equal = tt
rel-read unequal = tt
rel-read less = tt
rel-read at_most = tt
rel-read greater = tt
rel-read at_least = tt

sum-read : (op : SumOp) → IsRead (sum_kind op)
sum-read add = tt
sum-read subtract = tt

term-read : (op : TermOp) → IsRead (term_kind op)
term-read multiply = tt
term-read divide = tt
term-read remainder = tt

mutual
  expr-read : (e : Expr) → AreRead (expr_kinds e)
  expr-read (only_and a) = and-read a
  expr-read (or e a) = all-read (expr_kinds e) _ (expr-read e) (tt, (tt, and-read a))

  and-read : (a : And) → AreRead (and_kinds a)
  and-read (only_rel r) = rel-kinds-read r
  and-read (and a r) = all-read (and_kinds a) _ (and-read a) (tt, (tt, rel-kinds-read r))

  rel-kinds-read : (r : Rel) → AreRead (rel_kinds r)
  rel-kinds-read (only_sum s) = sum-kinds-read s
  rel-kinds-read (compare l op r) = all-read (sum_kinds l) _ (sum-kinds-read l) (rel-read op, sum-kinds-read r)

  sum-kinds-read : (s : Sum) → AreRead (sum_kinds s)
  sum-kinds-read (only_term t) = term-kinds-read t
  sum-kinds-read (total s op t) = all-read (sum_kinds s) _ (sum-kinds-read s) (sum-read op, term-kinds-read t)

  term-kinds-read : (t : Term) → AreRead (term_kinds t)
  term-kinds-read (only_unary u) = unary-read u
  term-kinds-read (product t op u) = all-read (term_kinds t) _ (term-kinds-read t) (term-read op, unary-read u)

  unary-read : (u : Unary) → AreRead (unary_kinds u)
  unary-read (negated u) = (tt, unary-read u)
  unary-read (inverted u) = (tt, unary-read u)
  unary-read (only_atom a) = atom-read a
  unary-read (raised a u) = all-read (atom_kinds a) _ (atom-read a) (tt, unary-read u)

  atom-read : (a : Atom) → AreRead (atom_kinds a)
  atom-read (number n) = (tt, tt)
  atom-read (name n) = (tt, tt)
  atom-read (parens e) = (tt, all-read (expr_kinds e) _ (expr-read e) (tt, tt))

mark-read : (b : ℕ) → IsRead (mark_kind b) → IsTrue (is_mark b)
mark-read b h = by (b == 33) (b == 60) (b == 61) (b == 62) (one_mark b) h
  where
    by : (a c d e : Bool) (o : Option Kind) → IsRead (if a then Bang else if c then Less else if d then Assign else if e then Greater else unwrap_or o LongWord) → IsTrue (a || c || d || e || is_some o)
    by true c d e o k = refl
    by false true d e o k = refl
    by false false true e o k = refl
    by false false false true o k = refl
    by false false false false (Some k) r = refl
    by false false false false None r = absurd r

kind-read : (k : TokenKind) → IsRead (kind_of k) → IsMarkByte k
kind-read (kinds.Mark b) h = mark-read b h
kind-read (kinds.Word w) h = tt
kind-read kinds.LongWord h = tt
kind-read (kinds.Name n) h = tt
kind-read (kinds.Number n) h = tt
kind-read kinds.BigNumber h = tt
kind-read kinds.Arrow h = tt
kind-read kinds.Equal h = tt
kind-read kinds.Unequal h = tt
kind-read kinds.AtMost h = tt
kind-read kinds.AtLeast h = tt

marks-of : (ks : List TokenKind) → AreRead (map kind_of ks) → All IsMarkByte ks
marks-of [] h = λ i d l. absurd (omega (arith, l))
marks-of (k ∷ ks) h = λ i d l. by i d l (marks-of ks h.1)
  where
    by : (i : ℕ) (d : TokenKind) → i < length (k ∷ ks) → All IsMarkByte ks → IsMarkByte (get_or (k ∷ ks) i d)
    by zero d l more = kind-read k h.0
    by (suc i) d l more = more i d (omega (arith, l))

pub expr-marks : (e : Expr) (ks : List TokenKind) → map kind_of ks ≡ expr_kinds e → All IsMarkByte ks
expr-marks e ks is = marks-of ks (subst AreRead (sym is) (expr-read e))
