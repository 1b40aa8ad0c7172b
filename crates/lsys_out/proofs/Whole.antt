-- What comes of a picture is the picture.
use Rattle.std.proofs.Common.{◌≡◌, ℕ, ℤ, Option, Some, None, Result, Ok, Err, List, [], ◌∷◌, refl, ap, sym, subst, ◌∙◌}
use Rattle.std.specs.Prelude.{IsOk}
use Rattle.lsys_syntax.specs.Strings as S
use Rattle.lsys_spec.specs.Systems.{System}
use Rattle.lsys_spec.specs.Values.{◌and_then◌}
use Rattle.lsys_spec.specs.Lattices.{Lattice}
use Rattle.lsys_spec.specs.Levels as L
use Rattle.lsys_spec.specs.Images.{ImageRefusal, image}
use Rattle.lsys_spec.specs.Pictures.{Turtle, Stepped, Segment, PictureRefusal, NoImage, and_on, at_start, modules_to, or_far, or_no_image, picture, segments_from, segments_of, turtle_step, with_segment}
use Rattle.lsys_level.specs.Spots.{Spotted, spots_at}
use Rattle.lsys_hom.specs.Coming.{coming, image_ended}
use Rattle.lsys_hom.proofs.Named.{coming_named}
use Rattle.lsys_hom.proofs.Runs.{law_whole}
use Rattle.lsys_out.specs.Drawings.{Drawing, drawing_from, drawn_on, last_drawing, last_image, last_symbols, with_drawn}
use Rattle.lsys_out.specs.Shown.{on_lattice}

-- segments up to an end or a refusal, as a picture
abbrev ended : List Segment → Option PictureRefusal → Result (List Segment) PictureRefusal
ended gs None = Ok gs
ended gs (Some r) = Err r

abbrev all_of : Drawing → Result (List Segment) PictureRefusal
all_of d = ended d.segments d.refusal

-- 1. an image that isn't refused

one_more : (g : Segment) (gs : List Segment) (o : Option PictureRefusal) (r : Result (List Segment) ℕ) → ended gs o ≡ or_far r → ended (g ∷ gs) o ≡ or_far (with_segment (Some g) r)
one_more g gs None (Ok hs) h = cc
one_more g gs None (Err n) h = cc
one_more g gs (Some q) (Ok hs) h = cc
one_more g gs (Some q) (Err n) h = h

drawn_more : (o : Option Segment) (d : Drawing) (r : Result (List Segment) ℕ) → all_of d ≡ or_far r → all_of (with_drawn o d) ≡ or_far (with_segment o r)
drawn_more None d r h = h
drawn_more (Some g) d r h = one_more g d.segments d.refusal r h

step_more : (n : ℕ) (o : Option Stepped) (f : Turtle → Drawing) (g : Turtle → Result (List Segment) ℕ) → ((u : Turtle) → all_of (f u) ≡ or_far (g u)) → all_of (drawn_on None n o f) ≡ or_far (and_on n o g)
step_more n None f g h = refl
step_more n (Some s) f g h = drawn_more s.segment (f s.turtle) (g s.turtle) (h s.turtle)

whole_drawing : (l : Lattice) (n : ℕ) (t : Turtle) (xs : List (S.Symbol ℤ)) → all_of (drawing_from l n t xs None) ≡ or_far (segments_from l n t xs)
whole_drawing l n t [] = refl
whole_drawing l n t (x ∷ xs) =
    step_more (modules_to n x) (turtle_step l x t) (λ u. drawing_from l (modules_to n x) u xs None) (λ u. segments_from l (modules_to n x) u xs) (λ u. whole_drawing l (modules_to n x) u xs)

-- 2. an image that is refused

drawn_refused : (r : PictureRefusal) (o : Option Segment) (d : Drawing) → d.refusal ≡ Some r → (with_drawn o d).refusal ≡ Some r
drawn_refused r None d h = h
drawn_refused r (Some g) d h = h

step_refused : (r : ImageRefusal) (n : ℕ) (o : Option Stepped) (f : Turtle → Drawing) → ((u : Turtle) → (f u).refusal ≡ Some (NoImage r)) → (drawn_on (Some r) n o f).refusal ≡ Some (NoImage r)
step_refused r n None f h = refl
step_refused r n (Some s) f h = drawn_refused (NoImage r) s.segment (f s.turtle) (h s.turtle)

refused_drawing : (l : Lattice) (n : ℕ) (t : Turtle) (xs : List (S.Symbol ℤ)) (r : ImageRefusal) → (drawing_from l n t xs (Some r)).refusal ≡ Some (NoImage r)
refused_drawing l n t [] r = refl
refused_drawing l n t (x ∷ xs) r =
    step_refused r (modules_to n x) (turtle_step l x t) (λ u. drawing_from l (modules_to n x) u xs (Some r)) (λ u. refused_drawing l (modules_to n x) u xs r)

-- 3. the picture of the last level

over_image : (l : Lattice) (xs : List (S.Symbol ℤ)) (o : Option ImageRefusal)
    → all_of (drawing_from l 0 (at_start l) xs o) ≡ (or_no_image (image_ended xs o) and_then λ ys. or_far (segments_of l ys))
over_image l xs None = whole_drawing l 0 (at_start l) xs
over_image l xs (Some r) = ap (ended (drawing_from l 0 (at_start l) xs (Some r)).segments) (refused_drawing l 0 (at_start l) xs r)

of_level : (l : Lattice) (s : System) (x : List L.LevelSymbol)
    → all_of (drawing_from l 0 (at_start l) (coming s x).symbols (coming s x).refusal) ≡ picture (on_lattice l s) x
of_level l s x =
    over_image l (coming s x).symbols (coming s x).refusal
    ∙ ap (λ i. or_no_image i and_then λ ys. or_far (segments_of l ys)) (law_whole s x)

of_last : (naming : ℕ → List ℕ) (l : Lattice) (s : System) (levels : List (List Spotted)) → all_of (last_drawing l s levels) ≡ picture (on_lattice l s) (last_symbols naming s levels)
of_last naming l s levels =
    ap (λ c. all_of (drawing_from l 0 (at_start l) c.symbols c.refusal)) (coming_named s.homomorphisms 0 0 (λ tag. []) naming (spots_at levels s.depth))
    ∙ of_level l s (last_symbols naming s levels)

pub picture_drawn : (naming : ℕ → List ℕ) (l : Lattice) (s : System) (levels : List (List Spotted)) → (last_drawing l s levels).refusal ≡ None
    → picture (on_lattice l s) (last_symbols naming s levels) ≡ Ok (last_drawing l s levels).segments
picture_drawn naming l s levels h = sym (of_last naming l s levels) ∙ ap (ended (last_drawing l s levels).segments) h

pub picture_refused : (naming : ℕ → List ℕ) (l : Lattice) (s : System) (levels : List (List Spotted)) (r : PictureRefusal) → (last_drawing l s levels).refusal ≡ Some r
    → picture (on_lattice l s) (last_symbols naming s levels) ≡ Err r
picture_refused naming l s levels r h = sym (of_last naming l s levels) ∙ ap (ended (last_drawing l s levels).segments) h

-- 4. the image of the last level

image_named : (naming : ℕ → List ℕ) (s : System) (levels : List (List Spotted)) → image_ended (last_image s levels).symbols (last_image s levels).refusal ≡ image s (last_symbols naming s levels)
image_named naming s levels =
    ap (λ c. image_ended c.symbols c.refusal) (coming_named s.homomorphisms 0 0 (λ tag. []) naming (spots_at levels s.depth))
    ∙ law_whole s (last_symbols naming s levels)

pub has_image : (naming : ℕ → List ℕ) (s : System) (levels : List (List Spotted)) → (last_image s levels).refusal ≡ None → IsOk (image s (last_symbols naming s levels))
has_image naming s levels h =
    let is : Ok (last_image s levels).symbols ≡ image s (last_symbols naming s levels) = sym (ap (image_ended (last_image s levels).symbols) h) ∙ image_named naming s levels in
    subst (λ (i : Result (List (S.Symbol ℤ)) ImageRefusal). IsOk i) is refl

pub no_image : (naming : ℕ → List ℕ) (s : System) (levels : List (List Spotted)) (r : ImageRefusal) → (last_image s levels).refusal ≡ Some r
    → picture s (last_symbols naming s levels) ≡ Err (NoImage r)
no_image naming s levels r h =
    let is : image s (last_symbols naming s levels) ≡ Err r = sym (image_named naming s levels) ∙ ap (image_ended (last_image s levels).symbols) h in
    ap (λ i. or_no_image i and_then λ ys. or_far (segments_of s.lattice ys)) is
