-- Examples of the definitions of lsys_spec, which the checker computes: turtles.
use Rattle.std.specs.Prelude.{◌≡◌, ℕ, List, codes, refl}
use Rattle.std.specs.Fmt.{digits}
use Rattle.lsys_spec.specs.Replies.{reply}
use Rattle.lsys_spec.specs.Output.{run_with}

abbrev run : List ℕ → List ℕ
run = run_with (reply 100000)

-- `f` is refused past the bound; `]` gives the frame back; a box holds the origin and both ends of each segment
pub frames_and_box :
    run (codes "axiom f(1000000001)\nsegments\naxiom F[+F]F\nsegments\naxiom -f(3)|F(2)\nsvg\n")
    ≡ codes "ok 0/0\nrefused far 1\nok 0/0\nsegments 3\n0 0 0 0 1 0 1\n0 1 0 -1 1 0 1\n0 1 0 0 2 0 1\nok 0/0\n<svg xmlns=\"http://www.w3.org/2000/svg\" viewBox=\"-10 -10 50 20\">\n<line x1=\"30\" y1=\"0\" x2=\"10\" y2=\"0\" stroke=\"black\" stroke-width=\"1\"/>\n</svg>\n"
unfolding digits
frames_and_box = refl

-- names that begin with F and f; the first parameter counts; branches in branches
pub long_names :
    run (codes "axiom F_a(2,3)f_b(4,1)[+(1,2)F_1[!(5,1)F]F]F\nsegments\n")
    ≡ codes "ok 0/0\nsegments 5\n0 0 0 0 2 0 1\n0 6 0 -1 6 0 1\n-1 6 0 -2 6 0 5\n-1 6 0 -2 6 0 1\n0 6 0 0 7 0 1\n"
unfolding digits
long_names = refl

-- turns past a full one, and turning round on a hexagonal lattice
pub rounds :
    run (codes "lattice hexagonal\naxiom F|F+(7)F-(8)F\nsegments\nlattice cubic\naxiom +(5)F&(6)F\\(7)+F^(5)F\nsegments\nlattice square\nsegments\n")
    ≡ codes "ok 0/0\nok 0/0\nsegments 4\n0 0 0 1 0 0 1\n1 0 0 0 0 0 1\n0 0 0 0 -1 0 1\n0 -1 0 -1 0 0 1\nok 0/0\nok 0/0\nsegments 4\n0 0 0 -1 0 0 1\n-1 0 0 0 0 0 1\n0 0 0 0 0 -1 1\n0 0 -1 0 1 -1 1\nok 0/0\nsegments 4\n0 0 0 -1 0 0 1\n-1 0 0 -2 0 0 1\n-2 0 0 -2 -1 0 1\n-2 -1 0 -2 -2 0 1\n"
unfolding digits
rounds = refl

-- the last level is drawn, and no other
pub last_level_drawn :
    run (codes "axiom A\nproduction a: A => F+A\nhom h: A => F(5)\ndepth 2\nsegments\ndepth 1\nsegments\n")
    ≡ codes "ok 0/0\nok 0/0\nok 0/0\nok 2/2\nsegments 3\n0 0 0 0 1 0 1\n0 1 0 -1 1 0 1\n-1 1 0 -1 -4 0 1\nok 0/1\nsegments 2\n0 0 0 0 1 0 1\n0 1 0 -5 1 0 1\n"
unfolding digits
last_level_drawn = refl
