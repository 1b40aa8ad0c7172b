-- The formals of a rule: the set of their numbers, and the token at which the first one that stands earlier is.
use Rattle.std.specs.Prelude.{◌≡◌, ℕ, ◌+◌, false, Option, Some, None, List, [], ◌∷◌, ◌++◌, length, map}
use Rattle.std.specs.Ordering.{nat_cmp}
use Rattle.std.specs.BTreeSet.{BTreeSet, contains}
use Rattle.lsys_syntax.specs.Tokens.{Kind, Name, Colon, At, Arrow}
use Rattle.lsys_syntax.specs.Pieces.{Piece, blank, token, note, a_param, kinds_of}
use Rattle.lsys_syntax.specs.Rules.{left_pieces, predecessor_pieces, right_pieces, option_pieces, successor_pieces}
use Rattle.lsys_syntax.specs.Checks.{is_formal, repeated_place, rule_repeated}
use Rattle.lsys_text.specs.Tokens.{name_of}
use Rattle.lsys_text.specs.Packed.{packed}
use Rattle.lsys_text.specs.Texts.{IsNameBytes}
use Rattle.lsys_module.specs.Views.{module_name}
use Rattle.lsys_reading.specs.Heads.{patterns_of, formals_of}
use Rattle.lsys_reading.specs.Spans.{option_at}
use Rattle.lsys_reading.specs.Images.{images_at}
use Rattle.lsys_reading.specs.RuleLines.{rule_at}
use Rattle.lsys_reading.specs.declared.patterns.PatternSymbol.{PatternSymbol}
use Rattle.lsys_reading.specs.declared.patterns.PatternSymbol.TheVariants as patterns
use Rattle.lsys_reading.specs.declared.rule.RuleLine.{RuleLine}
use Rattle.lsys_bodies.specs.declared.formals.FormalNames.{FormalNames}

abbrev pub symbol_formals : PatternSymbol → List (List ℕ)
symbol_formals (patterns.Module x) = x.formals.items
symbol_formals x = []

abbrev pub formals_in : List PatternSymbol → List (List ℕ)
formals_in [] = []
formals_in (x ∷ xs) = symbol_formals x ++ formals_in xs

-- the formals of a rule, in order
abbrev pub formals_at : RuleLine → List (List ℕ)
formals_at r = formals_in r.left.items ++ (r.predecessor.formals.items ++ formals_in r.right.items)

-- its pieces up to its right context
abbrev pub head_pieces : RuleLine → List Piece
head_pieces r =
    left_pieces (patterns_of r.left.items) ++ (predecessor_pieces (module_name r.predecessor.name) (formals_of r.predecessor) ++ right_pieces (patterns_of r.right.items))

-- those after them
abbrev pub rest_pieces : List Kind → RuleLine → List Piece
rest_pieces ks r =
    option_pieces Colon (option_at ks r.condition) ++ (option_pieces At (option_at ks r.weight) ++ blank ∷ token Arrow ∷ successor_pieces (images_at ks r.successor.items))

-- a formal, and the mark before it
abbrev pub marked_formal : Kind → List ℕ → List Piece
marked_formal k x = token k ∷ note a_param ∷ token (Name (name_of x)) ∷ []

-- the numbers are those of the names
pub record Numbered (fs : List (List ℕ)) (numbers : BTreeSet ℕ) : Type 0 where
  pub known : (x : List ℕ) → IsNameBytes x → contains nat_cmp numbers (packed x) ≡ is_formal (map name_of fs) (name_of x)

abbrev pub first_some : Option ℕ → Option ℕ → Option ℕ
first_some None o = o
first_some (Some n) o = Some n

-- where the first formal that stands earlier is, if these pieces follow
abbrev pub repeated_with : FormalNames → List (List ℕ) → List Piece → Option ℕ
repeated_with x fs ps = first_some x.repeated (repeated_place (map name_of fs) false x.end ps)

-- After these pieces, which have these formals, the names are b.
pub record Adds (a : FormalNames) (fs : List (List ℕ)) (ps : List Piece) (b : FormalNames) : Type 0 where
  pub place : b.end ≡ a.end + length (kinds_of ps)
  pub kept : (before : List (List ℕ)) → Numbered before a.numbers → Numbered (before ++ fs) b.numbers
  pub same : (before : List (List ℕ)) → Numbered before a.numbers → (qs : List Piece) → repeated_with a before (ps ++ qs) ≡ repeated_with b (before ++ fs) qs

-- They are those of a rule, whose first token has number `from`.
pub record AreFormalNames (from : ℕ) (r : RuleLine) (x : FormalNames) : Type 0 where
  pub numbered : Numbered (formals_at r) x.numbers
  pub repeated : (ks : List Kind) → x.repeated ≡ rule_repeated from (rule_at ks r)
  pub place : x.end ≡ from + length (kinds_of (head_pieces r))
