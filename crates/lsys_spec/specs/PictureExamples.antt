-- Pictures: scripts with `segments` and `svg` and their replies, which the checker computes.
use Rattle.std.specs.Prelude.{◌≡◌, ℕ, List, codes, refl}
use Rattle.std.specs.Fmt.{digits}
use Rattle.lsys_spec.specs.Replies.{reply}
use Rattle.lsys_spec.specs.Output.{run_with}

abbrev run : List ℕ → List ℕ
run = run_with (reply 100000)

-- the image is made once
pub homomorphism :
    run (codes "axiom AA\nhom h: A => F(2)+\nsegments\n")
    ≡ codes "ok 0/0\nok 0/0\nsegments 2\n0 0 0 0 2 0 1\n0 2 0 -2 2 0 1\n"
unfolding digits
homomorphism = refl

pub hexagon :
    run (codes "lattice hexagonal\naxiom F+F+F+F+F+F\nsegments\n")
    ≡ codes "ok 0/0\nok 0/0\nsegments 6\n0 0 0 1 0 0 1\n1 0 0 1 1 0 1\n1 1 0 0 2 0 1\n0 2 0 -1 2 0 1\n-1 2 0 -1 1 0 1\n-1 1 0 0 0 0 1\n"
unfolding digits
hexagon = refl

pub pitches :
    run (codes "lattice cubic\naxiom F&F^F\nsegments\n")
    ≡ codes "ok 0/0\nok 0/0\nsegments 3\n0 0 0 0 1 0 1\n0 1 0 0 1 -1 1\n0 1 -1 0 2 -1 1\n"
unfolding digits
pitches = refl

-- a branch gives its pose back; f leaves a gap; `!` without a parameter sets 1
pub branches_and_widths :
    run (codes "axiom F!(3)[F(2)!(2000)F]f(3)F!F!(-1)F\nsegments\n")
    ≡ codes "ok 0/0\nsegments 6\n0 0 0 0 1 0 1\n0 1 0 0 3 0 3\n0 3 0 0 4 0 1000\n0 4 0 0 5 0 3\n0 5 0 0 6 0 1\n0 6 0 0 7 0 1\n"
unfolding digits
branches_and_widths = refl

-- a negative count turns the other way, a move may go back, and turning round has no count
pub turns_by_counts :
    run (codes "axiom F+(-1)F(-2)|(2)F(0)G+(4)F\nsegments\n")
    ≡ codes "ok 0/0\nsegments 4\n0 0 0 0 1 0 1\n0 1 0 -2 1 0 1\n-2 1 0 -2 1 0 1\n-2 1 0 -3 1 0 1\n"
unfolding digits
turns_by_counts = refl

pub svg_picture :
    run (codes "axiom F\nsvg\n")
    ≡ codes "ok 0/0\n<svg xmlns=\"http://www.w3.org/2000/svg\" viewBox=\"-10 -20 20 30\">\n<line x1=\"0\" y1=\"0\" x2=\"0\" y2=\"-10\" stroke=\"black\" stroke-width=\"1\"/>\n</svg>\n"
unfolding digits
svg_picture = refl

pub empty_svg :
    run (codes "svg\n")
    ≡ codes "<svg xmlns=\"http://www.w3.org/2000/svg\" viewBox=\"-10 -10 20 20\">\n</svg>\n"
unfolding digits
empty_svg = refl

pub hexagonal_svg :
    run (codes "lattice hexagonal\naxiom F+F(2)\nsvg\n")
    ≡ codes "ok 0/0\nok 0/0\n<svg xmlns=\"http://www.w3.org/2000/svg\" viewBox=\"-10 -44 60 54\">\n<line x1=\"0\" y1=\"0\" x2=\"20\" y2=\"0\" stroke=\"black\" stroke-width=\"1\"/>\n<line x1=\"20\" y1=\"0\" x2=\"40\" y2=\"-34\" stroke=\"black\" stroke-width=\"1\"/>\n</svg>\n"
unfolding digits
hexagonal_svg = refl

pub cubic_svg :
    run (codes "lattice cubic\naxiom F[+F]!(3)^F\nsvg\n")
    ≡ codes "ok 0/0\nok 0/0\n<svg xmlns=\"http://www.w3.org/2000/svg\" viewBox=\"-44 -20 54 40\">\n<line x1=\"0\" y1=\"0\" x2=\"-17\" y2=\"10\" stroke=\"black\" stroke-width=\"1\"/>\n<line x1=\"-17\" y1=\"10\" x2=\"-34\" y2=\"0\" stroke=\"black\" stroke-width=\"1\"/>\n<line x1=\"-17\" y1=\"10\" x2=\"-17\" y2=\"-10\" stroke=\"black\" stroke-width=\"3\"/>\n</svg>\n"
unfolding digits
cubic_svg = refl

-- the move that would lead too far, by its number in the image
pub far :
    run (codes "axiom F(1000000000)\nsegments\naxiom +[F(-1000000001)]\nsegments\nhom h: + => A+\nsegments\n")
    ≡ codes "ok 0/0\nsegments 1\n0 0 0 0 1000000000 0 1\nok 0/0\nrefused far 2\nok 0/0\nrefused far 3\n"
unfolding digits
far = refl

-- each coordinate counts, to both sides
pub far_sideways :
    run (codes "axiom -F(1000000000)\nsegments\naxiom +F(-1000000001)\nsegments\nlattice cubic\naxiom ^F(-1000000001)\nsegments\naxiom &f(-1000000000)F\nsegments\naxiom &f(-1000000000)FF\nsegments\n")
    ≡ codes "ok 0/0\nsegments 1\n0 0 0 1000000000 0 0 1\nok 0/0\nrefused far 2\nok 0/0\nok 0/0\nrefused far 2\nok 0/0\nsegments 1\n0 0 1000000000 0 0 999999999 1\nok 0/0\nsegments 2\n0 0 1000000000 0 0 999999999 1\n0 0 999999999 0 0 999999998 1\n"
unfolding digits
far_sideways = refl

-- a frame rolls to the left and to the right, and turns then lead elsewhere
pub rolls :
    run (codes "lattice cubic\naxiom F\\+F/&F\nsegments\naxiom /-F\\(2)+F|^F\nsegments\n")
    ≡ codes "ok 0/0\nok 0/0\nsegments 3\n0 0 0 0 1 0 1\n0 1 0 0 1 -1 1\n0 1 -1 0 0 -1 1\nok 0/0\nsegments 3\n0 0 0 0 0 -1 1\n0 0 -1 0 -1 -1 1\n0 -1 -1 -1 -1 -1 1\n"
unfolding digits
rolls = refl

-- on flat lattices pitch and roll do nothing
pub flat_pitches :
    run (codes "axiom F&F^(3)F\\F/F\nsegments\nlattice hexagonal\naxiom F&F-F\nsegments\n")
    ≡ codes "ok 0/0\nsegments 5\n0 0 0 0 1 0 1\n0 1 0 0 2 0 1\n0 2 0 0 3 0 1\n0 3 0 0 4 0 1\n0 4 0 0 5 0 1\nok 0/0\nok 0/0\nsegments 3\n0 0 0 1 0 0 1\n1 0 0 2 0 0 1\n2 0 0 3 -1 0 1\n"
unfolding digits
flat_pitches = refl

-- the module's number is that in the level
pub image_fault :
    run (codes "axiom A(1)A(0)\nhom h: A(x) => FF(1/x)\nsvg\nsegments\n")
    ≡ codes "ok 0/0\nok 0/0\nrefused fault divide-by-zero image 2\nrefused fault divide-by-zero image 2\n"
unfolding digits
image_fault = refl

-- the whole image is made first
pub image_before_far :
    run (codes "axiom F(1000000001)A(0)\nhom h: A(x) => F(1/x)\nsegments\n")
    ≡ codes "ok 0/0\nok 0/0\nrefused fault divide-by-zero image 2\n"
unfolding digits
image_before_far = refl

-- the first rule whose condition holds; a condition may fault
pub first_homomorphism :
    run (codes "axiom A(0)A(1)A(2)\nhom h: A(x) : x > 1 => F\nhom i: A(x) : 1/x == 1 => F(9)\nsegments\naxiom A(1)A(2)\nsegments\n")
    ≡ codes "ok 0/0\nok 0/0\nok 0/0\nrefused fault divide-by-zero image 1\nok 0/0\nsegments 2\n0 0 0 0 9 0 1\n0 9 0 0 10 0 1\n"
unfolding digits
first_homomorphism = refl
