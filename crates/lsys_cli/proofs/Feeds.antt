-- Whole lines among bytes.
use Rattle.std.proofs.Common.{◌≡◌, ◌==◌, ◌||◌, ℕ, Bool, true, false, List, [], ◌∷◌, ◌++◌, refl, ap, ◌∙◌, if◌then◌else◌}
use Rattle.lsys_io.specs.Feeds.{has_lf}
use Rattle.lsys_syntax.specs.Lines.{lines_of, onto_first}
use Rattle.lsys_spec.specs.Output.{whole_lines, with_byte}

neither : (a b : Bool) → (a || b) ≡ false → a ≡ false
neither true b h = h
neither false b h = refl

nor : (a b : Bool) → (a || b) ≡ false → b ≡ false
nor true b h = cc
nor false b h = h

at_feed : (w : List ℕ) → with_byte 10 w ≡ 10 ∷ w
at_feed [] = refl
at_feed (c ∷ w) = refl

before_feed : (b : ℕ) (xs w : List ℕ) → with_byte b (xs ++ 10 ∷ w) ≡ b ∷ (xs ++ 10 ∷ w)
before_feed b [] w = refl
before_feed b (c ∷ xs) w = refl

-- up to the last LF
pub whole_to_feed : (xs ys : List ℕ) → whole_lines (xs ++ 10 ∷ ys) ≡ xs ++ 10 ∷ whole_lines ys
whole_to_feed [] ys = at_feed (whole_lines ys)
whole_to_feed (b ∷ xs) ys = ap (with_byte b) (whole_to_feed xs ys) ∙ before_feed b xs (whole_lines ys)

pub no_whole_line : (xs : List ℕ) → has_lf xs ≡ false → whole_lines xs ≡ []
no_whole_line [] h = refl
no_whole_line (b ∷ xs) h =
    let e : (b == 10) ≡ false = neither (b == 10) (has_lf xs) h in
    ap (with_byte b) (no_whole_line xs (nor (b == 10) (has_lf xs) h)) ∙ ap (λ t. if t then b ∷ [] else []) e

pub first_line : (line more : List ℕ) → has_lf line ≡ false → lines_of (line ++ 10 ∷ more) ≡ line ∷ lines_of more
first_line [] more h = refl
first_line (b ∷ line) more h =
    let e : (b == 10) ≡ false = neither (b == 10) (has_lf line) h in
    let ih = first_line line more (nor (b == 10) (has_lf line) h) in
    ap (λ t. if t then [] ∷ lines_of (line ++ 10 ∷ more) else onto_first b (lines_of (line ++ 10 ∷ more))) e ∙ ap (onto_first b) ih
