-- The least box around points, with its margin.
use Rattle.std.specs.Prelude.{ℤ, pos, ◌+ℤ◌, ◌-ℤ◌, List, map, Contains}
use Rattle.std.specs.Int.Signed.{◌≤ℤ◌}
use Rattle.lsys_spec.specs.Systems.{Each}
use Rattle.lsys_spec.specs.Pictures.{Box}

-- the sides of a box within its margin of 10
abbrev pub left_side : Box → ℤ
left_side b = b.x +ℤ pos 10

abbrev pub right_side : Box → ℤ
right_side b = b.x +ℤ b.width -ℤ pos 10

abbrev pub top_side : Box → ℤ
top_side b = b.y +ℤ pos 10

abbrev pub bottom_side : Box → ℤ
bottom_side b = b.y +ℤ b.height -ℤ pos 10

-- a point is within the sides
pub record IsInside (b : Box) (p : ℤ × ℤ) : Type 0 where
  pub left : left_side b ≤ℤ p.0
  pub right : p.0 ≤ℤ right_side b
  pub top : top_side b ≤ℤ p.1
  pub bottom : p.1 ≤ℤ bottom_side b

-- it holds each point, and each side touches one of them
pub record IsLeastBox (points : List (ℤ × ℤ)) (b : Box) : Type 0 where
  pub holds : Each (IsInside b) points
  pub left : Contains (map (λ p. p.0) points) (left_side b)
  pub right : Contains (map (λ p. p.0) points) (right_side b)
  pub top : Contains (map (λ p. p.1) points) (top_side b)
  pub bottom : Contains (map (λ p. p.1) points) (bottom_side b)
