-- The frames that the code keeps, as those above.
use Rattle.std.specs.Prelude.{◌≡◌, ◌<◌, ◌≤◌, ℕ, List, [], ◌∷◌, Option, Some, None, map, reverse}
use Rattle.lsys_expr.specs.Frames as reading
use Rattle.lsys_expr.specs.Trees.{tree_of, operator_of}
use Rattle.lsys_expr.specs.declared.frames.Frame.{Frame}
use Rattle.lsys_expr.specs.declared.frames.Frame.TheVariants.{Negation, Inversion, Binary, Both, Either, Parentheses}
use Rattle.lsys_expr.specs.declared.frames.Follower.{Follower}
use Rattle.lsys_expr.specs.declared.frames.Follower.TheVariants.{Operator, And, Or, Close}

-- the frame that the code's frame stands for
abbrev pub frame_of : Frame → reading.OperandFrame
frame_of Negation = reading.negation
frame_of Inversion = reading.inversion
frame_of (Binary op t) = reading.binary (operator_of op) (tree_of t)
frame_of (Both t) = reading.both (tree_of t)
frame_of (Either t) = reading.either (tree_of t)
frame_of Parentheses = reading.parentheses

-- the frames of a stack, whose last item is the innermost
abbrev pub frames_of : List Frame → List reading.OperandFrame
frames_of items = reverse (map frame_of items)

-- what may stand after an operand, as the code says it
abbrev pub follower_of : Follower → reading.Follower
follower_of (Operator op) = reading.operator (operator_of op)
follower_of And = reading.half_and
follower_of Or = reading.half_or
follower_of Close = reading.closing

-- the innermost frame holds its operand less strongly than this
abbrev pub IsWeak : ℕ → List reading.OperandFrame → Type 0
IsWeak least [] = Unit {0}
IsWeak least (f ∷ fs) = reading.strength f < least

-- The innermost frame is taken off, if it is at least this strong.
abbrev pub IsTakenOff : ℕ → List reading.OperandFrame → List reading.OperandFrame → Option reading.OperandFrame → Type 0
IsTakenOff least old new None = (new ≡ old) × IsWeak least old
IsTakenOff least old new (Some f) = (old ≡ f ∷ new) × (least ≤ reading.strength f)
