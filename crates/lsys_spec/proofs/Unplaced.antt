-- Whether a rule is refused by itself doesn't depend on where it stands in its line.
use Rattle.std.proofs.Common.{◌≡◌, ℕ, ◌+◌, ◌++◌, Bool, true, false, ◌&&◌, Option, Some, None, List, [], ◌∷◌, if◌then◌else◌, refl}
use Rattle.lsys_syntax.specs.Tokens.{NameText}
use Rattle.lsys_syntax.specs.Pieces.{Piece, blank, token, note}
use Rattle.lsys_syntax.specs.Strings.{Symbol, Signed, string_pieces, signed_pieces}
use Rattle.lsys_syntax.specs.Rules.{Rule, rule_pieces}
use Rattle.lsys_syntax.specs.Checks.{Counts, inside_after, is_unknown, unknown_place, is_param, formal_of, repeats, repeated_place, count_note, count_token, passes_limit, many_place, rule_counts, axiom_counts, rule_formals, rule_unknown, rule_repeated, rule_many, axiom_many}
use Rattle.lsys_spec.specs.Systems.{IsSound}

-- no place is told here, and so none there
turn : (b : Bool) (m n : ℕ) (o p : Option ℕ) → (if b then Some m else o) ≡ None → (o ≡ None → p ≡ None) → (if b then Some n else p) ≡ None
turn true m n o p h f = cc
turn false m n o p h f = f h

unknown_anywhere : (fs : List NameText) (inside : Bool) (m n : ℕ) (ps : List Piece) → unknown_place fs inside m ps ≡ None → unknown_place fs inside n ps ≡ None
unknown_anywhere fs inside m n [] h = refl
unknown_anywhere fs inside m n (blank ∷ ps) h = unknown_anywhere fs inside m n ps h
unknown_anywhere fs inside m n (note k ∷ ps) h = unknown_anywhere fs (inside_after k inside) m n ps h
unknown_anywhere fs inside m n (token k ∷ ps) h =
    turn (inside && is_unknown fs k) m n (unknown_place fs inside (m + 1) ps) (unknown_place fs inside (n + 1) ps) h (unknown_anywhere fs inside (m + 1) (n + 1) ps)

repeated_anywhere : (seen : List NameText) (due : Bool) (m n : ℕ) (ps : List Piece) → repeated_place seen due m ps ≡ None → repeated_place seen due n ps ≡ None
repeated_anywhere seen due m n [] h = refl
repeated_anywhere seen due m n (blank ∷ ps) h = repeated_anywhere seen due m n ps h
repeated_anywhere seen due m n (note k ∷ ps) h = repeated_anywhere seen (is_param k) m n ps h
repeated_anywhere seen due m n (token k ∷ ps) h =
    let more = seen ++ formal_of due k in
    turn (repeats seen (formal_of due k)) m n (repeated_place more false (m + 1) ps) (repeated_place more false (n + 1) ps) h (repeated_anywhere more false (m + 1) (n + 1) ps)

many_anywhere : (c : Counts) (m n : ℕ) (ps : List Piece) → many_place c m ps ≡ None → many_place c n ps ≡ None
many_anywhere c m n [] h = refl
many_anywhere c m n (blank ∷ ps) h = many_anywhere c m n ps h
many_anywhere c m n (note k ∷ ps) h = many_anywhere (count_note k c) m n ps h
many_anywhere c m n (token k ∷ ps) h =
    let d = count_token c in
    turn (passes_limit d) m n (many_place d (m + 1) ps) (many_place d (n + 1) ps) h (many_anywhere d (m + 1) (n + 1) ps)

pub axiom_short_anywhere : (m n : ℕ) (xs : List (Symbol Signed)) → axiom_many m xs ≡ None → axiom_many n xs ≡ None
axiom_short_anywhere m n xs h = many_anywhere axiom_counts m n (string_pieces signed_pieces xs) h

-- the rule that stands n tokens into its line is refused for nothing of its own
abbrev pub IsUnrefused : ℕ → Rule → Type 0
IsUnrefused n r = (rule_unknown n r ≡ None) × (rule_repeated n r ≡ None) × (rule_many n r ≡ None)

pub unrefused_at : (n : ℕ) (r : Rule) → rule_many 0 r ≡ None → IsSound r → IsUnrefused n r
unrefused_at n r h g = (
  unknown_anywhere (rule_formals r) false 0 n (rule_pieces r) g.known,
  repeated_anywhere [] false 0 n (rule_pieces r) g.once,
  many_anywhere rule_counts 0 n (rule_pieces r) h,
)
