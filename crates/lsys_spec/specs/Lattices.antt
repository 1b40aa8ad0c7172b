-- Lattices: the frames in which a turtle stands, its turns, and the projection of places onto a picture.
use Rattle.std.specs.Prelude.{◌≡◌, ℕ, zero, suc, ◌≤◌, ℤ, pos, negsuc, ◌+ℤ◌, ◌-ℤ◌, ◌*ℤ◌, neg_ℤ, unsigned_abs, List, [], ◌∷◌, ◌++◌, fold, map}
use Rattle.std.specs.List.{flat_map}
use Rattle.std.specs.Int.{int_rem_euclid}
pub use Rattle.lsys_syntax.specs.Commands.{Lattice, square, hexagonal, cubic}

-- A place or a direction. On the hexagonal lattice x and y are the coordinates q and r.
pub record Vector : Type 0 where
  pub x : ℤ
  pub y : ℤ
  pub z : ℤ

abbrev pub vector : ℤ → ℤ → ℤ → Vector
vector x y z = record { x = x; y = y; z = z }

abbrev pub opposite : Vector → Vector
opposite v = vector (neg_ℤ v.x) (neg_ℤ v.y) (neg_ℤ v.z)

-- the vector product
abbrev pub cross : Vector → Vector → Vector
cross v w = vector (v.y *ℤ w.z -ℤ v.z *ℤ w.y) (v.z *ℤ w.x -ℤ v.x *ℤ w.z) (v.x *ℤ w.y -ℤ v.y *ℤ w.x)

-- where a turtle heads, where a left turn would head, and what is above
pub record Frame : Type 0 where
  pub heading : Vector
  pub left : Vector
  pub up : Vector

abbrev pub frame : Vector → Vector → Vector → Frame
frame heading left up = record { heading = heading; left = left; up = up }

-- what stands above is the product of the other two
abbrev pub IsUpright : Frame → Type 0
IsUpright f = cross f.heading f.left ≡ f.up

abbrev pub first_frame : Lattice → Frame
first_frame square = frame (vector (pos 0) (pos 1) (pos 0)) (vector (negsuc 0) (pos 0) (pos 0)) (vector (pos 0) (pos 0) (pos 1))
first_frame hexagonal = frame (vector (pos 1) (pos 0) (pos 0)) (vector (pos 0) (pos 1) (pos 0)) (vector (pos 0) (pos 0) (pos 1))
first_frame cubic = frame (vector (pos 0) (pos 1) (pos 0)) (vector (negsuc 0) (pos 0) (pos 0)) (vector (pos 0) (pos 0) (pos 1))

pub data Turn : Type 0 where
  turn_left : Turn
  turn_right : Turn
  pitch_down : Turn
  pitch_up : Turn
  roll_left : Turn
  roll_right : Turn
  turn_round : Turn

-- how many left turns lead all the way round
abbrev pub full_turn : Lattice → ℕ
full_turn square = 4
full_turn hexagonal = 6
full_turn cubic = 4

-- a quarter and a sixth of a full turn
abbrev pub quarter_left : Vector → Vector
quarter_left v = vector (neg_ℤ v.y) v.x v.z

abbrev pub quarter_right : Vector → Vector
quarter_right v = vector v.y (neg_ℤ v.x) v.z

abbrev pub sixth_left : Vector → Vector
sixth_left v = vector (neg_ℤ v.y) (v.x +ℤ v.y) v.z

abbrev pub sixth_right : Vector → Vector
sixth_right v = vector (v.x +ℤ v.y) (neg_ℤ v.x) v.z

-- a frame of which each direction turned alike
abbrev pub all_turned : (Vector → Vector) → Frame → Frame
all_turned turn f = frame (turn f.heading) (turn f.left) (turn f.up)

-- The frame after a turn. Pitch and roll do nothing on the flat lattices.
abbrev pub turned : Lattice → Turn → Frame → Frame
turned square turn_left f = all_turned quarter_left f
turned square turn_right f = all_turned quarter_right f
turned square turn_round f = all_turned (λ v. quarter_left (quarter_left v)) f
turned square pitch_down f = f
turned square pitch_up f = f
turned square roll_left f = f
turned square roll_right f = f
turned hexagonal turn_left f = all_turned sixth_left f
turned hexagonal turn_right f = all_turned sixth_right f
turned hexagonal turn_round f = all_turned (λ v. sixth_left (sixth_left (sixth_left v))) f
turned hexagonal pitch_down f = f
turned hexagonal pitch_up f = f
turned hexagonal roll_left f = f
turned hexagonal roll_right f = f
turned cubic turn_left f = record f { heading = f.left; left = opposite f.heading }
turned cubic turn_right f = record f { heading = opposite f.left; left = f.heading }
turned cubic pitch_down f = record f { heading = opposite f.up; up = f.heading }
turned cubic pitch_up f = record f { heading = f.up; up = opposite f.heading }
turned cubic roll_left f = record f { left = opposite f.up; up = f.left }
turned cubic roll_right f = record f { left = f.up; up = opposite f.left }
turned cubic turn_round f = record f { heading = opposite f.heading; left = opposite f.left }

abbrev pub inverse : Turn → Turn
inverse turn_left = turn_right
inverse turn_right = turn_left
inverse pitch_down = pitch_up
inverse pitch_up = pitch_down
inverse roll_left = roll_right
inverse roll_right = roll_left
inverse turn_round = turn_round

-- the frame after n equal turns
abbrev pub times : ℕ → (Frame → Frame) → Frame → Frame
times zero turn f = f
times (suc n) turn f = turn (times n turn f)

-- a count of turns modulo the full turn, from 0 up
abbrev pub turn_count : Lattice → ℤ → ℕ
turn_count lattice n = unsigned_abs (int_rem_euclid n (pos (full_turn lattice)))

-- the frame after a turn by n, which may be negative
abbrev pub turn_by : Lattice → Turn → ℤ → Frame → Frame
turn_by lattice turn n f = times (turn_count lattice n) (turned lattice turn) f

-- the frame to which turns lead from the first
abbrev pub frame_after : Lattice → List Turn → Frame
frame_after lattice turns = fold (λ f turn. turned lattice turn f) (first_frame lattice) turns

-- turns that lead to each heading, and rolls
abbrev pub ways : Lattice → List (List Turn)
ways square = [] ∷ (turn_left ∷ []) ∷ (turn_round ∷ []) ∷ (turn_right ∷ []) ∷ []
ways hexagonal = [] ∷ (turn_left ∷ []) ∷ (turn_left ∷ turn_left ∷ []) ∷ (turn_round ∷ []) ∷ (turn_right ∷ turn_right ∷ []) ∷ (turn_right ∷ []) ∷ []
ways cubic =
    flat_map
    (λ heading. map (λ rolls. heading ++ rolls) ([] ∷ (roll_left ∷ []) ∷ (roll_left ∷ roll_left ∷ []) ∷ (roll_right ∷ []) ∷ []))
    ([] ∷ (turn_left ∷ []) ∷ (turn_round ∷ []) ∷ (turn_right ∷ []) ∷ (pitch_down ∷ []) ∷ (pitch_up ∷ []) ∷ [])

-- all frames of a lattice
abbrev pub frames : Lattice → List Frame
frames lattice = map (frame_after lattice) (ways lattice)

-- each coordinate is at most n in magnitude
pub record IsWithin (n : ℕ) (v : Vector) : Type 0 where
  pub x : unsigned_abs v.x ≤ n
  pub y : unsigned_abs v.y ≤ n
  pub z : unsigned_abs v.z ≤ n

-- a place in the plane of a picture, whose second axis points down
abbrev pub projected : Lattice → Vector → ℤ × ℤ
projected square v = (pos 10 *ℤ v.x, neg_ℤ (pos 10 *ℤ v.y))
projected hexagonal v = (pos 20 *ℤ v.x +ℤ pos 10 *ℤ v.y, neg_ℤ (pos 17 *ℤ v.y))
projected cubic v = (pos 17 *ℤ (v.x -ℤ v.y), pos 10 *ℤ (v.x +ℤ v.y) -ℤ pos 20 *ℤ v.z)
