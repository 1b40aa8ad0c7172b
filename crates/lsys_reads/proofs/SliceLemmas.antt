-- The cells of a row after a turn of a part of them, or a write.
use Rattle.std.proofs.Common.{◌≡◌, ℕ, zero, suc, ◌+◌, ◌-◌, ◌<◌, ◌≤◌, List, [], ◌∷◌, ◌++◌, length, take, drop, set, refl, sym, ap, ◌∙◌, arith, append_assoc, length-append, length-take-le, length-drop, length-set}
use Rattle.std.specs.List.{insert, remove}
use Rattle.std.proofs.lemmas.List.{take-take, take_at, drop_at, take-set, take_more_set, drop-drop}
use Rattle.std.proofs.lemmas.Slice.{between_is, take-put_mid}
use Rattle.std.specs.Prelude.{slice_range}
use borrow.Rule.Slice.PartMut.{put_mid}

-- how many stand in a part
pub range_length : (xs : List ℕ) (start n : ℕ) → start + n ≤ length xs → length (slice_range xs start (start + n)) ≡ n
range_length xs start n within =
    let rest : length (drop start xs) ≡ length xs - start = length-drop start xs in
    length-take-le (start + n - start) (drop start xs) (omega (arith, rest, within)) ∙ omega arith

-- the first of the tags that stand there
pub range_take : (xs : List ℕ) (start n m : ℕ) → m ≤ n → slice_range xs start (start + m) ≡ take m (slice_range xs start (start + n))
range_take xs start n m most =
    let few : start + m - start ≡ m = omega arith in
    ap (λ (k : ℕ). take k (drop start xs)) few ∙ sym (take-take m (start + n - start) (drop start xs) (omega (arith, most)))

-- the last of a part comes to its front
pub turned_right : (xs : List ℕ) (x : ℕ) (n : ℕ) → n ≡ length xs → drop n (xs ++ x ∷ []) ++ take n (xs ++ x ∷ []) ≡ x ∷ xs
turned_right xs x n same = ap (λ (l : List ℕ). l ++ take n (xs ++ x ∷ [])) (drop_at xs (x ∷ []) n (sym same)) ∙ ap (λ (l : List ℕ). x ∷ l) (take_at xs (x ∷ []) n (sym same))

-- a tag was written after the first `len`, and turned to its place
pub inserted : (cells ys part : List ℕ) (len place x : ℕ) → len < length cells → place ≤ len → part ≡ slice_range (set cells len x) place (len + 1)
    → ys ≡ drop (length part - 1) part ++ take (length part - 1) part
    → take (len + 1) (put_mid place (len + 1 - place) (set cells len x) ys) ≡ insert (take len cells) place x
inserted cells ys part len place x within most is turned =
    let whole = set cells len x in
    let some : length (take len cells) ≡ len = length-take-le len cells (omega (arith, within)) in
    let rest = drop place (take len cells) in
    let many : length rest ≡ len - place = length-drop place (take len cells) ∙ ap (λ (n : ℕ). n - place) some in
    let mid : part ≡ rest ++ x ∷ [] =
    is ∙ between_is whole place (len + 1) ∙ ap (drop place) (take_more_set cells len x within)
    ∙ drop_append (take len cells) (x ∷ []) place (omega (arith, some, most)) in
    let count : length part - 1 ≡ length rest = ap (λ (l : List ℕ). length l - 1) mid ∙ omega (arith, length-append rest (x ∷ [])) in
    let turned : ys ≡ x ∷ rest = turned ∙ ap (λ (l : List ℕ). drop (length part - 1) l ++ take (length part - 1) l) mid ∙ turned_right rest x (length part - 1) count in
    let size : length ys ≡ suc (len - place) = ap length turned ∙ ap suc many in
    take-put_mid place (len + 1 - place) whole ys (len + 1) (omega (arith, size, most)) (omega (arith, within, most, length-set cells len x))
    ∙ ap (λ (l : List ℕ). take place whole ++ l) turned
    ∙ ap (λ (l : List ℕ). l ++ x ∷ rest) (sym (take-take place len whole most) ∙ ap (take place) (take-set cells len x))
  where
    drop_append : (xs ys : List ℕ) (n : ℕ) → n ≤ length xs → drop n (xs ++ ys) ≡ drop n xs ++ ys
    drop_append xs ys zero within = refl
    drop_append [] ys (suc n) within = absurd (omega (arith, within))
    drop_append (z ∷ xs) ys (suc n) within = drop_append xs ys n (omega (arith, within))

-- the tag at the place was turned after the others
pub removed : (cells ys : List ℕ) (len place : ℕ) → len ≤ length cells → place < len
    → ys ≡ drop 1 (slice_range cells place len) ++ take 1 (slice_range cells place len)
    → take (len - 1) (put_mid place (len - place) cells ys) ≡ remove (take len cells) place
removed cells ys len place within below turned =
    let some : length (take len cells) ≡ len = length-take-le len cells within in
    let mid : slice_range cells place len ≡ drop place (take len cells) = between_is cells place len in
    let rest = drop 1 (drop place (take len cells)) in
    let one = take 1 (drop place (take len cells)) in
    let part : ys ≡ rest ++ one = turned ∙ ap (λ (l : List ℕ). drop 1 l ++ take 1 l) mid in
    let after : rest ≡ drop (suc place) (take len cells) = drop-drop 1 place (take len cells) ∙ ap (λ (n : ℕ). drop n (take len cells)) (let e : place + 1 ≡ suc place = omega arith in e) in
    let many : length rest ≡ len - 1 - place = ap length after ∙ length-drop (suc place) (take len cells) ∙ ap (λ (n : ℕ). n - suc place) some ∙ omega arith in
    let front : length (take place cells) ≡ place = length-take-le place cells (omega (arith, within, below)) in
    let first : length (take place cells ++ rest) ≡ len - 1 = length-append (take place cells) rest ∙ omega (arith, many, front, below) in
    ap (λ (l : List ℕ). take (len - 1) (take place cells ++ (l ++ drop (len - place) (drop place cells)))) part
    ∙ ap (take (len - 1)) (regroup (take place cells) rest one (drop (len - place) (drop place cells)))
    ∙ take_at (take place cells ++ rest) (one ++ drop (len - place) (drop place cells)) (len - 1) first
    ∙ ap (λ (l : List ℕ). l ++ rest) (sym (take-take place len cells (omega (arith, below))))
    ∙ ap (λ (l : List ℕ). take place (take len cells) ++ l) after
  where
    regroup : (a b c d : List ℕ) → a ++ ((b ++ c) ++ d) ≡ (a ++ b) ++ (c ++ d)
    regroup a b c d = ap (λ (l : List ℕ). a ++ l) (append_assoc b c d) ∙ sym (append_assoc a b (c ++ d))
