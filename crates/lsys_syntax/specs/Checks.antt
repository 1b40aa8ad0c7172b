-- At which token a rule or a string is refused by itself: an unknown name, a formal that repeats, a limit that is passed. Places are numbers of tokens, from n on.
use Rattle.std.specs.Prelude.{ℕ, Bool, true, false, not, Option, Some, None, List, [], ◌∷◌, ◌++◌, ◌+◌, ◌&&◌, ◌||◌, nat_lt, bytes_eq, if◌then◌else◌}
use Rattle.lsys_syntax.specs.Limits.{most_params, most_left, most_right, most_successor_symbols, most_expression_tokens, most_rule_tokens, most_axiom_symbols}
use Rattle.lsys_syntax.specs.Tokens.{NameText, Kind, Name}
use Rattle.lsys_syntax.specs.Pieces.{Piece, blank, token, note, Note, a_symbol, a_param, left_begins, predecessor_begins, right_begins, successor_begins, expr_begins, expr_ends, name_text}
use Rattle.lsys_syntax.specs.Strings.{Symbol, Module, Signed, string_pieces, signed_pieces}
use Rattle.lsys_syntax.specs.Rules.{Rule, rule_pieces}

abbrev pub is_formal : List NameText → NameText → Bool
is_formal [] x = false
is_formal (f ∷ fs) x = bytes_eq (name_text f) (name_text x) || is_formal fs x

abbrev pub all_formals : List (Symbol NameText) → List NameText
all_formals [] = []
all_formals (Module n fs ∷ xs) = fs ++ all_formals xs
all_formals (s ∷ xs) = all_formals xs

abbrev pub rule_formals : Rule → List NameText
rule_formals r = all_formals r.left ++ (r.formals ++ all_formals r.right)

abbrev pub inside_after : Note → Bool → Bool
inside_after expr_begins b = true
inside_after expr_ends b = false
inside_after m b = b

abbrev pub is_unknown : List NameText → Kind → Bool
is_unknown fs (Name x) = not (is_formal fs x)
is_unknown fs k = false

-- the first name in an expression that is no formal
abbrev pub unknown_place : List NameText → Bool → ℕ → List Piece → Option ℕ
unknown_place fs inside n [] = None
unknown_place fs inside n (blank ∷ ps) = unknown_place fs inside n ps
unknown_place fs inside n (note m ∷ ps) = unknown_place fs (inside_after m inside) n ps
unknown_place fs inside n (token k ∷ ps) = if inside && is_unknown fs k then Some n else unknown_place fs inside (n + 1) ps

abbrev pub is_param : Note → Bool
is_param a_param = true
is_param m = false

abbrev pub formal_of : Bool → Kind → List NameText
formal_of true (Name x) = x ∷ []
formal_of due k = []

abbrev pub repeats : List NameText → List NameText → Bool
repeats seen [] = false
repeats seen (x ∷ xs) = is_formal seen x

-- the first formal that stands earlier
abbrev pub repeated_place : List NameText → Bool → ℕ → List Piece → Option ℕ
repeated_place seen due n [] = None
repeated_place seen due n (blank ∷ ps) = repeated_place seen due n ps
repeated_place seen due n (note m ∷ ps) = repeated_place seen (is_param m) n ps
repeated_place seen due n (token k ∷ ps) = if repeats seen (formal_of due k) then Some n else repeated_place (seen ++ formal_of due k) false (n + 1) ps

-- What was counted up to a token: the tokens in all, those of the expression that it stands inside of, the symbols of
-- their string, of which there may be `most`, and the parameters of the last one. Without `most_tokens` the tokens in
-- all have no limit.
pub record Counts : Type 0 where
  pub tokens : ℕ
  pub most_tokens : Option ℕ
  pub expr_tokens : ℕ
  pub inside : Bool
  pub symbols : ℕ
  pub most : ℕ
  pub params : ℕ

abbrev pub count_note : Note → Counts → Counts
count_note a_symbol c = record c { symbols = c.symbols + 1; params = 0 }
count_note a_param c = record c { params = c.params + 1 }
count_note left_begins c = record c { symbols = 0; most = most_left }
count_note predecessor_begins c = record c { symbols = 0; most = 1 }
count_note right_begins c = record c { symbols = 0; most = most_right }
count_note successor_begins c = record c { symbols = 0; most = most_successor_symbols }
count_note expr_begins c = record c { inside = true; expr_tokens = 0 }
count_note expr_ends c = record c { inside = false; expr_tokens = 0 }

abbrev pub count_token : Counts → Counts
count_token c = record c { tokens = c.tokens + 1; expr_tokens = if c.inside then c.expr_tokens + 1 else 0 }

-- where there is a limit, n passes it
abbrev pub passes : Option ℕ → ℕ → Bool
passes None n = false
passes (Some most) n = nat_lt most n

abbrev pub passes_limit : Counts → Bool
passes_limit c = nat_lt c.most c.symbols || nat_lt most_params c.params || nat_lt most_expression_tokens c.expr_tokens || passes c.most_tokens c.tokens

-- the first token at which a limit is passed
abbrev pub many_place : Counts → ℕ → List Piece → Option ℕ
many_place c n [] = None
many_place c n (blank ∷ ps) = many_place c n ps
many_place c n (note m ∷ ps) = many_place (count_note m c) n ps
many_place c n (token k ∷ ps) = if passes_limit (count_token c) then Some n else many_place (count_token c) (n + 1) ps

-- before a rule
abbrev pub rule_counts : Counts
rule_counts = record { tokens = 0; most_tokens = Some most_rule_tokens; expr_tokens = 0; inside = false; symbols = 0; most = 0; params = 0 }

-- before an axiom
abbrev pub axiom_counts : Counts
axiom_counts = record { tokens = 0; most_tokens = None; expr_tokens = 0; inside = false; symbols = 0; most = most_axiom_symbols; params = 0 }

abbrev pub rule_unknown : ℕ → Rule → Option ℕ
rule_unknown n r = unknown_place (rule_formals r) false n (rule_pieces r)

abbrev pub rule_repeated : ℕ → Rule → Option ℕ
rule_repeated n r = repeated_place [] false n (rule_pieces r)

abbrev pub rule_many : ℕ → Rule → Option ℕ
rule_many n r = many_place rule_counts n (rule_pieces r)

abbrev pub axiom_many : ℕ → List (Symbol Signed) → Option ℕ
axiom_many n xs = many_place axiom_counts n (string_pieces signed_pieces xs)
