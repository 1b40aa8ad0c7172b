-- Turns that lead back to the frame from which they came.
use Rattle.std.proofs.Common.{◌≡◌, ℕ, zero, suc, ◌+◌, ◌-◌, ◌*◌, ◌/◌, ◌<◌, ◌⊎◌, inl, inr, refl, ap, sym, ◌∙◌, arith, lit<, Bool, true, false, nat_lt}
use Rattle.std.specs.Prelude.{ℤ, pos, negsuc, neg_ℤ, unsigned_abs, ◌%◌}
use Rattle.std.specs.Int.{int_rem_euclid}
use Rattle.std.proofs.lemmas.Int.{ints}
use Rattle.std.proofs.lemmas.Bool.Decides.{nat_tests}
use Rattle.std.proofs.lemmas.Nat.{mod_below}
use Rattle.std.proofs.Math.Nat.{mod-add-div, mul-suc, suc-mod, mod_self, mod-eq_of_lt}
use Rattle.std.proofs.Math.IntN.{neg_ℤ-neg_ℤ}
use Rattle.lsys_spec.specs.Lattices.{Lattice, square, hexagonal, cubic, Vector, vector, opposite, Frame, frame, Turn, turn_left, turn_right, pitch_down, pitch_up, roll_left, roll_right, turn_round, full_turn, quarter_left, quarter_right, sixth_left, sixth_right, all_turned, turned, inverse, times, turn_count, turn_by}

pub same_vector : (x x' y y' z z' : ℤ) → x ≡ x' → y ≡ y' → z ≡ z' → vector x y z ≡ vector x' y' z'
same_vector x x' y y' z z' p q r = cc

pub same_frame : (h h' l l' u u' : Vector) → h ≡ h' → l ≡ l' → u ≡ u' → frame h l u ≡ frame h' l' u'
same_frame h h' l l' u u' p q r = cc

opposite-opposite : (v : Vector) → opposite (opposite v) ≡ v
opposite-opposite v = same_vector _ _ _ _ _ _ (neg_ℤ-neg_ℤ v.x) (neg_ℤ-neg_ℤ v.y) (neg_ℤ-neg_ℤ v.z)

right_of_left : (v : Vector) → quarter_right (quarter_left v) ≡ v
right_of_left v = same_vector _ _ _ _ _ _ refl (neg_ℤ-neg_ℤ v.y) refl

left_of_right : (v : Vector) → quarter_left (quarter_right v) ≡ v
left_of_right v = same_vector _ _ _ _ _ _ (neg_ℤ-neg_ℤ v.x) refl refl

four_quarters : (v : Vector) → quarter_left (quarter_left (quarter_left (quarter_left v))) ≡ v
four_quarters v = same_vector _ _ _ _ _ _ (neg_ℤ-neg_ℤ v.x) (neg_ℤ-neg_ℤ v.y) refl

four_quarters_back : (v : Vector) → quarter_right (quarter_right (quarter_right (quarter_right v))) ≡ v
four_quarters_back v = same_vector _ _ _ _ _ _ (neg_ℤ-neg_ℤ v.x) (neg_ℤ-neg_ℤ v.y) refl

sixth_right_of_left : (v : Vector) → sixth_right (sixth_left v) ≡ v
sixth_right_of_left v = same_vector _ _ _ _ _ _ (omega (arith, ints)) (omega (arith, ints)) refl

sixth_left_of_right : (v : Vector) → sixth_left (sixth_right v) ≡ v
sixth_left_of_right v = same_vector _ _ _ _ _ _ (omega (arith, ints)) (omega (arith, ints)) refl

three_sixths : (v : Vector) → sixth_left (sixth_left (sixth_left v)) ≡ vector (neg_ℤ v.x) (neg_ℤ v.y) v.z
three_sixths v = same_vector _ _ _ _ _ _ (omega (arith, ints)) (omega (arith, ints)) refl

three_sixths_back : (v : Vector) → sixth_right (sixth_right (sixth_right v)) ≡ vector (neg_ℤ v.x) (neg_ℤ v.y) v.z
three_sixths_back v = same_vector _ _ _ _ _ _ (omega (arith, ints)) (omega (arith, ints)) refl

half_twice : (v : Vector) → vector (neg_ℤ (neg_ℤ v.x)) (neg_ℤ (neg_ℤ v.y)) v.z ≡ v
half_twice v = same_vector _ _ _ _ _ _ (neg_ℤ-neg_ℤ v.x) (neg_ℤ-neg_ℤ v.y) refl

abbrev half : Vector → Vector
half v = vector (neg_ℤ v.x) (neg_ℤ v.y) v.z

six_sixths : (v : Vector) → sixth_left (sixth_left (sixth_left (sixth_left (sixth_left (sixth_left v))))) ≡ v
six_sixths v = three_sixths (sixth_left (sixth_left (sixth_left v))) ∙ ap half (three_sixths v) ∙ half_twice v

six_sixths_back : (v : Vector) → sixth_right (sixth_right (sixth_right (sixth_right (sixth_right (sixth_right v))))) ≡ v
six_sixths_back v = three_sixths_back (sixth_right (sixth_right (sixth_right v))) ∙ ap half (three_sixths_back v) ∙ half_twice v

all_turned-same : (turn : Vector → Vector) → ((v : Vector) → turn v ≡ v) → (f : Frame) → all_turned turn f ≡ f
all_turned-same turn h f = same_frame _ _ _ _ _ _ (h f.heading) (h f.left) (h f.up)

pub turned_back : (lattice : Lattice) (turn : Turn) (f : Frame) → turned lattice (inverse turn) (turned lattice turn f) ≡ f
turned_back square turn_left f = all_turned-same (λ v. quarter_right (quarter_left v)) right_of_left f
turned_back square turn_right f = all_turned-same (λ v. quarter_left (quarter_right v)) left_of_right f
turned_back square turn_round f = all_turned-same (λ v. quarter_left (quarter_left (quarter_left (quarter_left v)))) four_quarters f
turned_back square pitch_down f = refl
turned_back square pitch_up f = refl
turned_back square roll_left f = refl
turned_back square roll_right f = refl
turned_back hexagonal turn_left f = all_turned-same (λ v. sixth_right (sixth_left v)) sixth_right_of_left f
turned_back hexagonal turn_right f = all_turned-same (λ v. sixth_left (sixth_right v)) sixth_left_of_right f
turned_back hexagonal turn_round f =
    all_turned-same (λ v. sixth_left (sixth_left (sixth_left (sixth_left (sixth_left (sixth_left v)))))) six_sixths f
turned_back hexagonal pitch_down f = refl
turned_back hexagonal pitch_up f = refl
turned_back hexagonal roll_left f = refl
turned_back hexagonal roll_right f = refl
turned_back cubic turn_left f = same_frame _ _ _ _ _ _ (opposite-opposite f.heading) refl refl
turned_back cubic turn_right f = same_frame _ _ _ _ _ _ refl (opposite-opposite f.left) refl
turned_back cubic pitch_down f = same_frame _ _ _ _ _ _ refl refl (opposite-opposite f.up)
turned_back cubic pitch_up f = same_frame _ _ _ _ _ _ (opposite-opposite f.heading) refl refl
turned_back cubic roll_left f = same_frame _ _ _ _ _ _ refl refl (opposite-opposite f.up)
turned_back cubic roll_right f = same_frame _ _ _ _ _ _ refl (opposite-opposite f.left) refl
turned_back cubic turn_round f = same_frame _ _ _ _ _ _ (opposite-opposite f.heading) (opposite-opposite f.left) refl

-- turning round twice, or four or six times
round_twice : (lattice : Lattice) (f : Frame) → turned lattice turn_round (turned lattice turn_round f) ≡ f
round_twice lattice f = turned_back lattice turn_round f

pub full_turn_back : (lattice : Lattice) (turn : Turn) (f : Frame) → times (full_turn lattice) (turned lattice turn) f ≡ f
full_turn_back square turn_left f = all_turned-same (λ v. quarter_left (quarter_left (quarter_left (quarter_left v)))) four_quarters f
full_turn_back square turn_right f = all_turned-same (λ v. quarter_right (quarter_right (quarter_right (quarter_right v)))) four_quarters_back f
full_turn_back square turn_round f = round_twice square (times 2 (turned square turn_round) f) ∙ round_twice square f
full_turn_back square pitch_down f = refl
full_turn_back square pitch_up f = refl
full_turn_back square roll_left f = refl
full_turn_back square roll_right f = refl
full_turn_back hexagonal turn_left f =
    all_turned-same (λ v. sixth_left (sixth_left (sixth_left (sixth_left (sixth_left (sixth_left v)))))) six_sixths f
full_turn_back hexagonal turn_right f =
    all_turned-same (λ v. sixth_right (sixth_right (sixth_right (sixth_right (sixth_right (sixth_right v)))))) six_sixths_back f
full_turn_back hexagonal turn_round f =
    round_twice hexagonal (times 4 (turned hexagonal turn_round) f)
    ∙ round_twice hexagonal (times 2 (turned hexagonal turn_round) f) ∙ round_twice hexagonal f
full_turn_back hexagonal pitch_down f = refl
full_turn_back hexagonal pitch_up f = refl
full_turn_back hexagonal roll_left f = refl
full_turn_back hexagonal roll_right f = refl
full_turn_back cubic turn_left f = same_frame _ _ _ _ _ _ (opposite-opposite f.heading) (opposite-opposite f.left) refl
full_turn_back cubic turn_right f = same_frame _ _ _ _ _ _ (opposite-opposite f.heading) (opposite-opposite f.left) refl
full_turn_back cubic pitch_down f = same_frame _ _ _ _ _ _ (opposite-opposite f.heading) refl (opposite-opposite f.up)
full_turn_back cubic pitch_up f = same_frame _ _ _ _ _ _ (opposite-opposite f.heading) refl (opposite-opposite f.up)
full_turn_back cubic roll_left f = same_frame _ _ _ _ _ _ refl (opposite-opposite f.left) (opposite-opposite f.up)
full_turn_back cubic roll_right f = same_frame _ _ _ _ _ _ refl (opposite-opposite f.left) (opposite-opposite f.up)
full_turn_back cubic turn_round f = round_twice cubic (times 2 (turned cubic turn_round) f) ∙ round_twice cubic f

times-add : (a b : ℕ) (turn : Frame → Frame) (f : Frame) → times (a + b) turn f ≡ times a turn (times b turn f)
times-add zero b turn f = ap (λ n. times n turn f) (omega arith)
times-add (suc a) b turn f =
    let spelled : suc a + b ≡ suc (a + b) = omega arith in
    ap (λ n. times n turn f) spelled ∙ ap turn (times-add a b turn f)

rounds : (lattice : Lattice) (turn : Turn) (q : ℕ) (f : Frame) → times (full_turn lattice * q) (turned lattice turn) f ≡ f
rounds lattice turn zero f =
    let none : full_turn lattice * zero ≡ zero = omega arith in
    ap (λ n. times n (turned lattice turn) f) none
rounds lattice turn (suc q) f =
    let spelled : full_turn lattice * suc q ≡ full_turn lattice * q + full_turn lattice = mul-suc (full_turn lattice) q in
    ap (λ n. times n (turned lattice turn) f) spelled
    ∙ times-add (full_turn lattice * q) (full_turn lattice) (turned lattice turn) f
    ∙ ap (times (full_turn lattice * q) (turned lattice turn)) (full_turn_back lattice turn f)
    ∙ rounds lattice turn q f

pub turn_by-pos : (lattice : Lattice) (turn : Turn) (n : ℕ) (f : Frame) → turn_by lattice turn (pos n) f ≡ times n (turned lattice turn) f
turn_by-pos lattice turn n f =
    let N = full_turn lattice in
    sym
    (ap (λ m. times m (turned lattice turn) f) (sym (mod-add-div n N))
    ∙ times-add (n % N) (N * (n / N)) (turned lattice turn) f
    ∙ ap (times (n % N) (turned lattice turn)) (rounds lattice turn (n / N) f))

times-swap : (a : ℕ) (turn : Frame → Frame) (f : Frame) → times a turn (turn f) ≡ turn (times a turn f)
times-swap zero turn f = refl
times-swap (suc a) turn f = ap turn (times-swap a turn f)

undone : (a : ℕ) (turn back : Frame → Frame) → ((f : Frame) → back (turn f) ≡ f) → (f : Frame) → times a back (times a turn f) ≡ f
undone zero turn back h f = refl
undone (suc a) turn back h f =
    ap (λ g. back (times a back g)) (sym (times-swap a turn f)) ∙ ap back (undone a turn back h (turn f)) ∙ h f

count_step : (n r : ℕ) (test : Bool) → nat_lt (suc r) n ≡ test → r < n
    → (suc r % n + (n - 1 - r) ≡ n) ⊎ ((suc r % n ≡ 0) × (n - 1 - r ≡ 0))
count_step n r true t below =
    let under : suc r < n = grind (arith, nat_tests) in
    let stays : suc r % n ≡ suc r = mod-eq_of_lt under in
    inl (omega (arith, stays))
count_step n r false t below =
    let full : suc r ≡ n = grind (arith, nat_tests) in
    inr (ap (λ m. m % n) full ∙ mod_self n, omega (arith, full))

next_count : (n a : ℕ) → 0 < n → (suc a % n + (n - 1 - a % n) ≡ n) ⊎ ((suc a % n ≡ 0) × (n - 1 - a % n ≡ 0))
next_count n a p =
    rw (suc-mod a n) (count_step n (a % n) (nat_lt (suc (a % n)) n) refl (mod_below a n p))

fill_below_4 : (a : ℕ) → (suc a % 4 + (4 - 1 - a % 4) ≡ 4) ⊎ ((suc a % 4 ≡ 0) × (4 - 1 - a % 4 ≡ 0))
fill_below_4 a = next_count 4 a (lit< tt)

fill_below_6 : (a : ℕ) → (suc a % 6 + (6 - 1 - a % 6) ≡ 6) ⊎ ((suc a % 6 ≡ 0) × (6 - 1 - a % 6 ≡ 0))
fill_below_6 a = next_count 6 a (lit< tt)

fill_4 : (n : ℤ)
    → (unsigned_abs (int_rem_euclid n (pos 4)) + unsigned_abs (int_rem_euclid (neg_ℤ n) (pos 4)) ≡ 4)
    ⊎ ((unsigned_abs (int_rem_euclid n (pos 4)) ≡ 0) × (unsigned_abs (int_rem_euclid (neg_ℤ n) (pos 4)) ≡ 0))
fill_4 (pos zero) = inr (refl, refl)
fill_4 (pos (suc a)) = fill_below_4 a
fill_4 (negsuc a) = elim (fill_below_4 a) [ inl e ↦ inl (omega (arith, e)) | inr e ↦ inr (e.1, e.0) ]

fill_6 : (n : ℤ)
    → (unsigned_abs (int_rem_euclid n (pos 6)) + unsigned_abs (int_rem_euclid (neg_ℤ n) (pos 6)) ≡ 6)
    ⊎ ((unsigned_abs (int_rem_euclid n (pos 6)) ≡ 0) × (unsigned_abs (int_rem_euclid (neg_ℤ n) (pos 6)) ≡ 0))
fill_6 (pos zero) = inr (refl, refl)
fill_6 (pos (suc a)) = fill_below_6 a
fill_6 (negsuc a) = elim (fill_below_6 a) [ inl e ↦ inl (omega (arith, e)) | inr e ↦ inr (e.1, e.0) ]

-- counts of n and of -n fill a full turn together, or are both 0
fill : (lattice : Lattice) (n : ℤ)
    → (turn_count lattice n + turn_count lattice (neg_ℤ n) ≡ full_turn lattice)
    ⊎ ((turn_count lattice n ≡ 0) × (turn_count lattice (neg_ℤ n) ≡ 0))
fill square n = fill_4 n
fill hexagonal n = fill_6 n
fill cubic n = fill_4 n

pub turn_by-neg : (lattice : Lattice) (turn : Turn) (n : ℤ) (f : Frame) → turn_by lattice turn (neg_ℤ n) f ≡ turn_by lattice (inverse turn) n f
turn_by-neg lattice turn n f =
    elim (fill lattice n) [
      | inl e ↦
          let full : times (turn_count lattice n) (turned lattice turn) (turn_by lattice turn (neg_ℤ n) f) ≡ f =
          sym (times-add (turn_count lattice n) (turn_count lattice (neg_ℤ n)) (turned lattice turn) f)
          ∙ ap (λ m. times m (turned lattice turn) f) e ∙ full_turn_back lattice turn f in
          sym (undone (turn_count lattice n) (turned lattice turn) (turned lattice (inverse turn)) (turned_back lattice turn) (turn_by lattice turn (neg_ℤ n) f))
          ∙ ap (times (turn_count lattice n) (turned lattice (inverse turn))) full
      | inr e ↦
          ap (λ m. times m (turned lattice turn) f) e.1 ∙ sym (ap (λ m. times m (turned lattice (inverse turn)) f) e.0)
    ]
