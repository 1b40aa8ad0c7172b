-- How the code's stack of frames follows the reading of an expression, token by token.
use Rattle.std.specs.Prelude.{◌≡◌, ℕ, Bool, true, List, Option, Some, None, IsSome, nat_lt}
use Rattle.std.specs.Option.{option_map, option_map_or}
use Rattle.lsys_syntax.specs.Tokens.{NameText}
use Rattle.lsys_syntax.specs.RuleMachine.{small}
use Rattle.lsys_spec.specs.Values as meaning
use Rattle.lsys_text.specs.declared.token_kind.TokenKind.{TokenKind}
use Rattle.lsys_text.specs.Tokens.{kind_of, mark_kind}
use Rattle.lsys_expr.specs.declared.frames.Frame.{Frame}
use Rattle.lsys_expr.specs.declared.tree.Tree.{Tree}
use Rattle.lsys_expr.specs.Frames.{ExpressionReading, strength, reduced, follower, once_operand, with_operand, next_reading}
use Rattle.lsys_expr.specs.InsideExpr.{expression_spelled}
use Rattle.lsys_expr.specs.Parts.{names_of}
use Rattle.lsys_expr.specs.Stacks.{frame_of, frames_of, IsTakenOff}
use Rattle.lsys_expr.specs.Trees.{tree_of}

-- the tree that tokens spell, with these formals
abbrev pub spelled_tree : List (List ℕ) → List TokenKind → meaning.Tree
spelled_tree formals kinds = meaning.expr_tree (names_of formals) (expression_spelled kinds)

-- the operand that was read, if none is due, and the frames, as the code keeps them
abbrev pub reading_of : Option Tree → List Frame → ExpressionReading
reading_of operand frames = (option_map tree_of operand, frames_of frames)

-- the reading after a token
abbrev pub reading_after : List (List ℕ) → TokenKind → Option Tree → List Frame → Option ExpressionReading
reading_after formals kind operand frames =
    next_reading (names_of formals) (small (kind_of kind)) (option_map tree_of operand)
    (frames_of frames)

-- the reading after a token where an operand is due
abbrev pub operand_reading : List (List ℕ) → TokenKind → List Frame → Option ExpressionReading
operand_reading formals kind frames =
    with_operand (names_of formals) (small (kind_of kind)) (frames_of frames)

-- the reading after a token where an operand was read
abbrev pub follower_reading : TokenKind → Tree → List Frame → Option ExpressionReading
follower_reading kind operand frames =
    once_operand (follower (small (kind_of kind))) (tree_of operand) (frames_of frames)

-- the code's reading after a token is that of the definitions
abbrev pub IsReadAfter : List (List ℕ) → TokenKind → Option Tree → List Frame → List Frame
    → Option Tree → Type 0
IsReadAfter formals kind operand old new read =
    reading_after formals kind operand old ≡ Some (reading_of read new)

abbrev pub IsReadOperand : List (List ℕ) → TokenKind → List Frame → List Frame
    → Option Tree → Type 0
IsReadOperand formals kind old new read =
    operand_reading formals kind old ≡ Some (reading_of read new)

abbrev pub IsReadFollower : TokenKind → Tree → List Frame → List Frame → Option Tree → Type 0
IsReadFollower kind operand old new read =
    follower_reading kind operand old ≡ Some (reading_of read new)

-- a mark may stand where an operand is due, whatever the formals are
abbrev pub CanBeginFrame : ℕ → List Frame → Type 0
CanBeginFrame byte frames =
    (formals : List NameText)
    × IsSome (with_operand formals (small (mark_kind byte)) (frames_of frames))

-- a mark was read where an operand is due, and one still is
abbrev pub BeginsFrame : ℕ → List Frame → List Frame → Type 0
BeginsFrame byte old new =
    (formals : List NameText)
    → with_operand formals (small (mark_kind byte)) (frames_of old) ≡ Some (None, frames_of new)

-- this is the operand with the innermost frames of at least this strength, and these are the others
abbrev pub IsReduced : ℕ → Tree → List Frame → List Frame → Tree → Type 0
IsReduced least operand old new tree =
    (tree_of tree, frames_of new) ≡ reduced least (tree_of operand) (frames_of old)

-- the innermost frame was taken off, if it is at least this strong
abbrev pub TakesStronger : ℕ → List Frame → List Frame → Option Frame → Type 0
TakesStronger least old new taken =
    IsTakenOff least (frames_of old) (frames_of new) (option_map frame_of taken)

-- the frame holds its operand less strongly than this, or there is none
abbrev pub is_weaker : ℕ → Option Frame → Bool
is_weaker least frame = option_map_or (λ f. nat_lt (strength (frame_of f)) least) frame true
