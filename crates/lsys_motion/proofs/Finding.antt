-- What is found among the pieces of trees is the stand before the symbol.
use Rattle.std.proofs.Common.{◌≡◌, ◌≤◌, ◌<◌, ◌+◌, ◌-◌, ◌==◌, ℕ, zero, suc, Bool, true, false, Some, List, [], ◌∷◌, ◌++◌, drop, length, map, length-append, append_assoc, refl, ap, sym, ◌∙◌, nat_lt, slice_get, subst, arith}
use Rattle.std.proofs.lemmas.Bool.Decides.{nat_tests}
use Rattle.std.proofs.lemmas.List.{append-nil, length-map}
use Rattle.lsys_spec.specs.Lattices.{Lattice}
use Rattle.lsys_lattice.specs.Effects.{Stand, first_walker, stand_from}
use Rattle.lsys_lattice.specs.Free.{pose_of}
use Rattle.lsys_lattice.proofs.Fronts.{stand_there}
use Rattle.lsys_motion.specs.Pieces.{ImagePiece, found, pose_at, poses_before, IsNear, IsNearTo}
use Rattle.lsys_motion.specs.Trees.{Trees, none, symbol, tree, stands_of, pieces_of, AreNear}
use Rattle.lsys_motion.proofs.Seeing.{seen_twice}

-- 1. lists

-- the n-th of two lists, one after the other
get_first : {A : Type 0} (xs ys : List A) (n : ℕ) → n < length xs → slice_get (xs ++ ys) n ≡ slice_get xs n
get_first [] ys n h = absurd (omega arith)
get_first (x ∷ xs) ys zero h = refl
get_first (x ∷ xs) ys (suc n) h = get_first xs ys n (omega arith)

get_second : {A : Type 0} (xs ys : List A) (n : ℕ) → length xs ≤ n → slice_get (xs ++ ys) n ≡ slice_get ys (n - length xs)
get_second [] ys n h = let e : n ≡ n - 0 = omega arith in ap (slice_get ys) e
get_second (x ∷ xs) ys zero h = absurd (omega arith)
get_second (x ∷ xs) ys (suc n) h = let e : n - length xs ≡ suc n - suc (length xs) = omega arith in get_second xs ys n (omega arith) ∙ ap (slice_get ys) e

-- what is at a place of a list that was mapped
record IsMapped {A B : Type 0} (f : A → B) (xs : List A) (n : ℕ) (y : B) : Type 0 where
  x : A
  is : slice_get xs n ≡ Some x
  same : f x ≡ y

mapped_at : {A B : Type 0} (f : A → B) (xs : List A) (n : ℕ) (y : B) → slice_get (map f xs) n ≡ Some y → IsMapped f xs n y
mapped_at f [] n y h = cc
mapped_at f (x ∷ xs) zero y h = record { x = x; is = refl; same = cc }
mapped_at f (x ∷ xs) (suc n) y h = let m = mapped_at f xs n y h in record { x = m.x; is = m.is; same = m.same }

within : {A : Type 0} (xs : List A) (n : ℕ) (x : A) → slice_get xs n ≡ Some x → n < length xs
within [] n x h = cc
within (y ∷ xs) zero x h = omega arith
within (y ∷ xs) (suc n) x h = let k = within xs n x h in omega (arith, k)

some_in : {A : Type 0} (xs : List A) (n : ℕ) → n < length xs → (x : A) × (slice_get xs n ≡ Some x)
some_in [] n h = absurd (omega arith)
some_in (x ∷ xs) zero h = (x, refl)
some_in (x ∷ xs) (suc n) h = some_in xs n (omega arith)

-- 2. one piece after another

some_pieces : (l : Lattice) (t : Trees) (n : ℕ) → n < length (stands_of l t) → 0 < length (pieces_of l t)
some_pieces l none n h = absurd (omega arith)
some_pieces l (symbol g rest) n h = omega arith
some_pieces l (tree g inner rest) n h = omega arith

found_past : (l : Lattice) (ps qs : List ImagePiece) (n : ℕ) (h : Stand) → found l (length ps) (ps ++ qs) n h ≡ found l 0 qs n h
found_past l [] qs n h = refl
found_past l (p ∷ ps) qs n h = found_past l ps qs n h

near_past : (l : Lattice) (ps qs : List ImagePiece) (n : ℕ) (h : Stand) → IsNearTo l 0 qs n h → IsNearTo l (length ps) (ps ++ qs) n h
near_past l [] qs n h k = k
near_past l (p ∷ ps) qs n h k = near_past l ps qs n h k

abbrev inner_size : Lattice → Trees → ℕ
inner_size l inner = suc (length (pieces_of l inner))

-- in the first piece
in_first : (l : Lattice) (g h : Stand) (inner : Trees) (qs : List ImagePiece) (n : ℕ) → nat_lt n (length (stands_of l inner)) ≡ true → (inner_size l inner == 1) ≡ false
    → found l 0 (record { symbols = length (stands_of l inner); pieces = inner_size l inner; start = g } ∷ qs) n h ≡ found l 0 qs n (stand_from l h g)
in_first l g h inner qs n a b = rw (a, b) refl

-- after it
past_first : (l : Lattice) (g h : Stand) (inner : Trees) (qs : List ImagePiece) (n : ℕ) → nat_lt n (length (stands_of l inner)) ≡ false
    → found l 0 (record { symbols = length (stands_of l inner); pieces = inner_size l inner; start = g } ∷ (pieces_of l inner ++ qs)) n h ≡ found l 0 qs (n - length (stands_of l inner)) h
past_first l g h inner qs n a =
    let e : inner_size l inner - 1 ≡ length (pieces_of l inner) = omega arith in
    rw (a, e) (found_past l (pieces_of l inner) qs (n - length (stands_of l inner)) h)

not_one : (n : ℕ) → 0 < n → (suc n == 1) ≡ false
not_one n h = grind (arith, nat_tests)

-- what is found among the pieces that are in the first one, and among those after it, is found among all
found_in : (l : Lattice) (g : Stand) (inner rest : Trees) (more : List ImagePiece) (n : ℕ) (h s : Stand)
    → ((f : Stand) → slice_get (stands_of l inner) n ≡ Some f → found l 0 (pieces_of l inner ++ (pieces_of l rest ++ more)) n (stand_from l h g) ≡ stand_from l (stand_from l h g) f)
    → ((m : ℕ) → slice_get (stands_of l rest) m ≡ Some s → found l 0 (pieces_of l rest ++ more) m h ≡ stand_from l h s)
    → slice_get (map (stand_from l g) (stands_of l inner) ++ stands_of l rest) n ≡ Some s → (b : Bool) → nat_lt n (length (stands_of l inner)) ≡ b
    → found l 0 (record { symbols = length (stands_of l inner); pieces = inner_size l inner; start = g } ∷ (pieces_of l inner ++ (pieces_of l rest ++ more))) n h ≡ stand_from l h s
found_in l g inner rest more n h s first second e true a =
    let size : length (map (stand_from l g) (stands_of l inner)) ≡ length (stands_of l inner) = length-map (stands_of l inner) (stand_from l g) in
    let less : n < length (stands_of l inner) = grind (arith, nat_tests) in
    let m = mapped_at (stand_from l g) (stands_of l inner) n s (sym (get_first (map (stand_from l g) (stands_of l inner)) (stands_of l rest) n (omega (arith, size, less))) ∙ e) in
    in_first l g h inner (pieces_of l inner ++ (pieces_of l rest ++ more)) n a (not_one (length (pieces_of l inner)) (some_pieces l inner n less))
    ∙ first m.x m.is
    ∙ seen_twice l h g m.x
    ∙ ap (stand_from l h) m.same
found_in l g inner rest more n h s first second e false a =
    let size : length (map (stand_from l g) (stands_of l inner)) ≡ length (stands_of l inner) = length-map (stands_of l inner) (stand_from l g) in
    let less : length (stands_of l inner) ≤ n = grind (arith, nat_tests) in
    let f : slice_get (stands_of l rest) (n - length (map (stand_from l g) (stands_of l inner))) ≡ Some s =
    sym (get_second (map (stand_from l g) (stands_of l inner)) (stands_of l rest) n (omega (arith, size, less))) ∙ e in
    past_first l g h inner (pieces_of l rest ++ more) n a
    ∙ second (n - length (stands_of l inner)) (subst (λ j. slice_get (stands_of l rest) (n - j) ≡ Some s) size f)

regrouped : (l : Lattice) (g : Stand) (inner rest : Trees) (more : List ImagePiece)
    → pieces_of l (tree g inner rest) ++ more ≡ record { symbols = length (stands_of l inner); pieces = inner_size l inner; start = g } ∷ (pieces_of l inner ++ (pieces_of l rest ++ more))
regrouped l g inner rest more =
    ap (λ ps. record { symbols = length (stands_of l inner); pieces = inner_size l inner; start = g } ∷ ps) (append_assoc (pieces_of l inner) (pieces_of l rest) more)

pub found_there : (l : Lattice) (t : Trees) (more : List ImagePiece) (n : ℕ) (h s : Stand) → slice_get (stands_of l t) n ≡ Some s → found l 0 (pieces_of l t ++ more) n h ≡ stand_from l h s
found_there l none more n h s e = cc
found_there l (symbol g rest) more zero h s e = let f : g ≡ s = cc in ap (stand_from l h) f
found_there l (symbol g rest) more (suc m) h s e =
    let t : nat_lt (suc m) 1 ≡ false = grind (arith, nat_tests) in
    let u : suc m - 1 ≡ m = omega arith in
    rw (t, u) (found_there l rest more m h s e)
found_there l (tree g inner rest) more n h s e =
    ap (λ ps. found l 0 ps n h) (regrouped l g inner rest more)
    ∙ found_in l g inner rest more n h s (λ f i. found_there l inner (pieces_of l rest ++ more) n (stand_from l h g) f i) (λ m i. found_there l rest more m h s i) e
    (nat_lt n (length (stands_of l inner))) refl

-- 3. and all on the way down to it are within reach

near_first : (l : Lattice) (g h : Stand) (inner : Trees) (qs : List ImagePiece) (n : ℕ) → nat_lt n (length (stands_of l inner)) ≡ true → (inner_size l inner == 1) ≡ false
    → IsNear (stand_from l h g) → IsNearTo l 0 qs n (stand_from l h g) → IsNearTo l 0 (record { symbols = length (stands_of l inner); pieces = inner_size l inner; start = g } ∷ qs) n h
near_first l g h inner qs n a b c d = rw (a, b) (c, d)

near_after : (l : Lattice) (g h : Stand) (inner : Trees) (qs : List ImagePiece) (n : ℕ) → nat_lt n (length (stands_of l inner)) ≡ false
    → IsNearTo l 0 qs (n - length (stands_of l inner)) h
    → IsNearTo l 0 (record { symbols = length (stands_of l inner); pieces = inner_size l inner; start = g } ∷ (pieces_of l inner ++ qs)) n h
near_after l g h inner qs n a c =
    let e : inner_size l inner - 1 ≡ length (pieces_of l inner) = omega arith in
    rw (a, e) (near_past l (pieces_of l inner) qs (n - length (stands_of l inner)) h c)

near_in : (l : Lattice) (g : Stand) (inner rest : Trees) (more : List ImagePiece) (n : ℕ) (h : Stand) → IsNear (stand_from l h g)
    → (n < length (stands_of l inner) → IsNearTo l 0 (pieces_of l inner ++ (pieces_of l rest ++ more)) n (stand_from l h g))
    → ((m : ℕ) → m < length (stands_of l rest) → IsNearTo l 0 (pieces_of l rest ++ more) m h)
    → n < length (map (stand_from l g) (stands_of l inner) ++ stands_of l rest) → (b : Bool) → nat_lt n (length (stands_of l inner)) ≡ b
    → IsNearTo l 0 (record { symbols = length (stands_of l inner); pieces = inner_size l inner; start = g } ∷ (pieces_of l inner ++ (pieces_of l rest ++ more))) n h
near_in l g inner rest more n h near first second less true a =
    let few : n < length (stands_of l inner) = grind (arith, nat_tests) in
    near_first l g h inner (pieces_of l inner ++ (pieces_of l rest ++ more)) n a (not_one (length (pieces_of l inner)) (some_pieces l inner n few)) near (first few)
near_in l g inner rest more n h near first second less false a =
    let many : length (stands_of l inner) ≤ n = grind (arith, nat_tests) in
    let size : length (map (stand_from l g) (stands_of l inner) ++ stands_of l rest) ≡ length (stands_of l inner) + length (stands_of l rest) =
    length-append (map (stand_from l g) (stands_of l inner)) (stands_of l rest) ∙ ap (λ j. j + length (stands_of l rest)) (length-map (stands_of l inner) (stand_from l g)) in
    near_after l g h inner (pieces_of l rest ++ more) n a (second (n - length (stands_of l inner)) (omega (arith, size, less, many)))

pub near_there : (l : Lattice) (t : Trees) (more : List ImagePiece) (n : ℕ) (h : Stand) (seen : Stand → Stand) → ((g : Stand) → seen g ≡ stand_from l h g) → AreNear l seen t → n < length (stands_of l t)
    → IsNearTo l 0 (pieces_of l t ++ more) n h
near_there l none more n h seen is k less = absurd (omega arith)
near_there l (symbol g rest) more zero h seen is k less = (subst IsNear (is g) k.0, tt)
near_there l (symbol g rest) more (suc m) h seen is k less =
    let t : nat_lt (suc m) 1 ≡ false = grind (arith, nat_tests) in
    let u : suc m - 1 ≡ m = omega arith in
    rw (t, u) (near_there l rest more m h seen is k.1 (omega arith))
near_there l (tree g inner rest) more n h seen is k less =
    subst (λ ps. IsNearTo l 0 ps n h) (sym (regrouped l g inner rest more))
    (near_in l g inner rest more n h (subst IsNear (is g) k.0)
    (λ few. near_there l inner (pieces_of l rest ++ more) n (stand_from l h g) (λ f. seen (stand_from l g f)) (λ f. is (stand_from l g f) ∙ sym (seen_twice l h g f)) k.1 few)
    (λ m some. near_there l rest more m h seen is k.2 some) less (nat_lt n (length (stands_of l inner))) refl)

-- 4. all poses

at_seam : {A : Type 0} (xs : List A) (y : A) (ys : List A) → slice_get (xs ++ y ∷ ys) (length xs) ≡ Some y
at_seam [] y ys = refl
at_seam (x ∷ xs) y ys = at_seam xs y ys

pose_there : (l : Lattice) (t : Trees) (n : ℕ) (s : Stand) → slice_get (stands_of l t) n ≡ Some s → pose_at l (pieces_of l t) n ≡ pose_of s
pose_there l t n s e =
    ap (λ ps. pose_at l ps n) (sym (append-nil (pieces_of l t)))
    ∙ ap pose_of (found_there l t [] n (first_walker l).here s e ∙ stand_there l s)

pub poses_there : (l : Lattice) (t : Trees) (before after : List Stand) → stands_of l t ≡ before ++ after → poses_before l (pieces_of l t) (length before) (length after) ≡ map pose_of after
poses_there l t before [] e = refl
poses_there l t before (s ∷ after) e =
    let here : slice_get (stands_of l t) (length before) ≡ Some s = ap (λ xs. slice_get xs (length before)) e ∙ at_seam before s after in
    let further : length (before ++ s ∷ []) ≡ suc (length before) = length-append before (s ∷ []) ∙ (omega arith) in
    let rest = poses_there l t (before ++ s ∷ []) after (e ∙ sym (append_assoc before (s ∷ []) after)) in
    ap (λ p. p ∷ poses_before l (pieces_of l t) (suc (length before)) (length after)) (pose_there l t (length before) s here)
    ∙ ap (λ ps. pose_of s ∷ ps) (ap (λ n. poses_before l (pieces_of l t) n (length after)) (sym further) ∙ rest)

-- 5. passed all at once

pub found_after : (l : Lattice) (k : ℕ) (ps : List ImagePiece) (n : ℕ) (h : Stand) → found l k ps n h ≡ found l 0 (drop k ps) n h
found_after l zero ps n h = refl
found_after l (suc k) [] n h = refl
found_after l (suc k) (p ∷ ps) n h = found_after l k ps n h

pub near_to_after : (l : Lattice) (k : ℕ) (ps : List ImagePiece) (n : ℕ) (h : Stand) → IsNearTo l k ps n h → IsNearTo l 0 (drop k ps) n h
near_to_after l zero ps n h near = near
near_to_after l (suc k) [] n h near = tt
near_to_after l (suc k) (p ∷ ps) n h near = near_to_after l k ps n h near

pub found_skips : (l : Lattice) (ps : List ImagePiece) (p : ImagePiece) (qs rest : List ImagePiece) (n : ℕ) (h : Stand) → ps ≡ p ∷ qs → nat_lt n p.symbols ≡ false → rest ≡ drop (p.pieces - 1) qs
    → found l 0 rest (n - p.symbols) h ≡ found l 0 ps n h
found_skips l ps p qs rest n h e past is =
    ap (λ rs. found l 0 rs (n - p.symbols) h) is
    ∙ sym (found_after l (p.pieces - 1) qs (n - p.symbols) h)
    ∙ sym (skipped l p qs n h past)
    ∙ sym (ap (λ rs. found l 0 rs n h) e)
  where
    skipped : (l : Lattice) (p : ImagePiece) (qs : List ImagePiece) (n : ℕ) (h : Stand) → nat_lt n p.symbols ≡ false → found l 0 (p ∷ qs) n h ≡ found l (p.pieces - 1) qs (n - p.symbols) h
    skipped l p qs n h past = rw past refl

pub near_skips : (l : Lattice) (ps : List ImagePiece) (p : ImagePiece) (qs rest : List ImagePiece) (n : ℕ) (h : Stand) → ps ≡ p ∷ qs → nat_lt n p.symbols ≡ false → rest ≡ drop (p.pieces - 1) qs
    → IsNearTo l 0 ps n h → IsNearTo l 0 rest (n - p.symbols) h
near_skips l ps p qs rest n h e past is near =
    subst (λ rs. IsNearTo l 0 rs (n - p.symbols) h) (sym is)
    (near_to_after l (p.pieces - 1) qs (n - p.symbols) h (skipped l p qs n h past (subst (λ rs. IsNearTo l 0 rs n h) e near)))
  where
    skipped : (l : Lattice) (p : ImagePiece) (qs : List ImagePiece) (n : ℕ) (h : Stand) → nat_lt n p.symbols ≡ false → IsNearTo l 0 (p ∷ qs) n h → IsNearTo l (p.pieces - 1) qs (n - p.symbols) h
    skipped l p qs n h past k = rw past at k
