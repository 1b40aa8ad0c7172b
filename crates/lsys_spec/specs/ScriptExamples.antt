-- Whole scripts and their replies, which the checker computes: derivations, edits and their counts.
use Rattle.std.specs.Prelude.{◌≡◌, ℕ, List, codes, refl}
use Rattle.std.specs.Fmt.{digits}
use Rattle.lsys_spec.specs.Replies.{reply}
use Rattle.lsys_spec.specs.Output.{run_with}

abbrev run : List ℕ → List ℕ
run = run_with (reply 100000)

-- the algae of ABOP 1.2
pub algae :
    run (codes "axiom A\nproduction a: A => AB\nproduction b: B => A\ndepth 5\nstring\n")
    ≡ codes "ok 0/0\nok 0/0\nok 0/0\nok 19/19\nABAABABAABAAB\n"
unfolding digits
algae = refl

-- of the ten B none was asked before, and the five A are as they were; the same rule again asks nothing
pub another_rule :
    run (codes "axiom A\nproduction a: A => AB\nproduction b: B => A\ndepth 5\nstring\nproduction b: B => B\nstring\nproduction b: B => B\n")
    ≡ codes "ok 0/0\nok 0/0\nok 0/0\nok 19/19\nABAABABAABAAB\nok 10/15\nABBBBB\nok 0/15\n"
unfolding digits
another_rule = refl

-- a context reads past branches (ABOP 1.8)
pub skipping :
    run (codes "axiom ABC[DE][SG[HI[JK]L]MNO]\nproduction p: BC < S > G[H]M => X\ndepth 1\nstring\n")
    ≡ codes "ok 0/0\nok 0/0\nok 1/1\nABC[DE][XG[HI[JK]L]MNO]\n"
unfolding digits
skipping = refl

-- a branch pattern takes the first branch that fits
pub second_branch :
    run (codes "axiom S[A][B]C\nproduction p: S > [B]C => X\ndepth 1\nstring\n")
    ≡ codes "ok 0/0\nok 0/0\nok 1/1\nX[A][B]C\n"
unfolding digits
second_branch = refl

-- a signal runs up an axis and into its branches (ABOP 1.8); then the axiom's first letter changes
pub signal :
    run (codes "axiom F_b[+F_a]F_a[-F_a]F_a[+F_a]F_a\nignore +-\nproduction s: F_b < F_a => F_b\ndepth 3\nstring\naxiom F_a[+F_a]F_a[-F_a]F_a[+F_a]F_a\n")
    ≡ codes "ok 0/0\nok 0/0\nok 0/0\nok 12/12\nF_b[+F_b]F_b[-F_b]F_b[+F_b]F_b\nok 15/21\n"
unfolding digits
signal = refl

-- parameters and conditions (ABOP 1.10.1)
pub parameters :
    run (codes "axiom B(2)A(4,4)\nproduction a: A(x,y) : y <= 3 => A(x*2,x+y)\nproduction b: A(x,y) : y > 3 => B(x)A(x/y,0)\nproduction c: B(x) : x < 1 => C\nproduction d: B(x) : x >= 1 => B(x-1)\ndepth 5\nstring 1\nstring 2\nstring 3\nstring 4\nstring\n")
    ≡ codes "ok 0/0\nok 0/0\nok 0/0\nok 0/0\nok 0/0\nok 12/12\nB(1)B(4)A(1,0)\nB(0)B(3)A(2,1)\nCB(2)A(4,3)\nCB(1)A(8,7)\nCB(0)B(8)A(1,0)\n"
unfolding digits
parameters = refl

-- formals of both contexts (ABOP 1.10.2)
pub parametric_contexts :
    run (codes "axiom A(4)B(5)C(6)\nproduction p: A(x) < B(y) > C(z) : x+y+z > 10 => E((x+y)/2)F((y+z)/2)\ndepth 1\nstring\n")
    ≡ codes "ok 0/0\nok 0/0\nok 1/1\nA(4)E(4)F(5)C(6)\n"
unfolding digits
parametric_contexts = refl

-- a fault leaves the system as it was
pub fault :
    run (codes "axiom A(10)\nproduction p: A(x) => A(x*x)\ndepth 5\nstring\n")
    ≡ codes "ok 0/0\nok 0/0\nrefused fault overflow level 4 module 1\nA(10)\n"
unfolding digits
fault = refl

-- a cut ends with its branch (ABOP chapter 3)
pub cuts :
    run (codes "axiom A[B%C[D]]E\nstring\naxiom AB\nproduction p: A => %\ndepth 1\nstring\n")
    ≡ codes "ok 0/0\nA[B]E\nok 0/0\nok 0/0\nok 1/1\n\n"
unfolding digits
cuts = refl

-- what a cut takes from its branch another module gave
pub branch_cut :
    run (codes "axiom [AB]C\nproduction a: A => A%\ndepth 1\nstring\n")
    ≡ codes "ok 0/0\nok 0/0\nok 1/1\n[A]C\n"
unfolding digits
branch_cut = refl

-- weights, seeds and a weight that isn't one
pub weights :
    run (codes "axiom AAA\nproduction p: A @ 0 => B\nproduction q: A @ 5 => C\ndepth 1\nstring\nseed 7\nstring\nproduction q: A @ 0 => C\nstring\nproduction q: A @ -1 => C\nstring\n")
    ≡ codes "ok 0/0\nok 0/0\nok 0/0\nok 3/3\nCCC\nok 3/3\nCCC\nok 3/3\nAAA\nrefused fault negative-weight level 0 module 1\nAAA\n"
unfolding digits
weights = refl

-- the weights of the rules that apply are summed up as they come
pub weight_total :
    run (codes "axiom A\nproduction p: A @ 9223372036854775807 => B\nproduction q: A @ 1 => C\ndepth 1\nproduction q: A @ 0 => C\ndepth 1\nstring\n")
    ≡ codes "ok 0/0\nok 0/0\nok 0/0\nrefused fault weight-total level 0 module 1\nok 0/0\nok 1/1\nB\n"
unfolding digits
weight_total = refl

-- a schedule of two tables, and the system printed
pub tables :
    run (codes "axiom A\nproduction a: A => AB\nproduction winter w: A => C\nschedule main winter\ndepth 2\nstring\nshow\ndrop w\n")
    ≡ codes "ok 0/0\nok 0/0\nok 0/0\nok 0/0\nok 2/2\nCB\nlattice square\nseed 0\naxiom A\nignore\nproduction main a: A => AB\nproduction winter w: A => C\nschedule main winter\ndepth 2\nrefused table 6\n"
unfolding digits
tables = refl

-- every part of a system, printed as a script; a repeated name counts once, and a label keeps its place
pub shown_whole :
    run (codes "lattice cubic\nseed 007\naxiom A_b [ B(-1) % ] C\nignore ++-+\nproduction winter w:B(x,y)<A(z)>[C(u)[]]D:x+(y)>=007@2=>A(z ,-1)[%]F\nproduction a:A=>\nproduction b:B=>C\nhom h:F(x):x>0=>FF(x%2)\nhom i:A_b=>\nproduction a:A=>A\ndrop b\nschedule main winter main\nshow\n")
    ≡ codes "ok 0/0\nok 0/0\nok 0/0\nok 0/0\nok 0/0\nok 0/0\nok 0/0\nok 0/0\nok 0/0\nok 0/0\nok 0/0\nok 0/0\nlattice cubic\nseed 7\naxiom A_b[B(-1)%]C\nignore +-\nproduction winter w: B(x,y) < A(z) > [C(u)[]]D : x+(y)>=7 @ 2 => A(z,-1)[%]F\nproduction main a: A => A\nhom h: F(x) : x>0 => FF(x%2)\nhom i: A_b =>\nschedule main winter main\ndepth 0\n"
unfolding digits
shown_whole = refl

-- a letter with another number of parameters is another pattern, in contexts too
pub arities :
    run (codes "axiom AB(1)BC\nproduction p: A < B => X\nproduction q: B > C => Y\nproduction r: A < B(x) > B => Z\ndepth 1\nstring\n")
    ≡ codes "ok 0/0\nok 0/0\nok 0/0\nok 0/0\nok 2/2\nAZYC\n"
unfolding digits
arities = refl

pub context_arities :
    run (codes "axiom A(1)BA(2)\nproduction p: A < B => X\nproduction q: B > A => X\ndepth 1\nstring\nproduction r: A(x) < B > A(y) => X(x,y)\nstring\n")
    ≡ codes "ok 0/0\nok 0/0\nok 0/0\nok 1/1\nA(1)BA(2)\nok 1/1\nA(1)X(1,2)A(2)\n"
unfolding digits
context_arities = refl

-- a left context leaves branches and enters none
pub no_neighbour_in_another_branch :
    run (codes "axiom A[B[C]D]E\nproduction p: C < D => X\nproduction q: B < E => X\nproduction r: A < E => Y\nproduction s: B < D => Z\ndepth 1\nstring\n")
    ≡ codes "ok 0/0\nok 0/0\nok 0/0\nok 0/0\nok 0/0\nok 2/2\nA[B[C]Z]Y\n"
unfolding digits
no_neighbour_in_another_branch = refl

-- a rule that is dropped asks nothing
pub dropped :
    run (codes "axiom AB\nproduction a: A => A\nproduction b: B => B\ndepth 2\ndrop a\ndrop b\ndrop a\n")
    ≡ codes "ok 0/0\nok 0/0\nok 0/0\nok 4/4\nok 0/2\nok 0/0\nrefused label 6\n"
unfolding digits
dropped = refl

-- a body knows no label, no table, no formals' names and no parentheses
pub same_bodies :
    run (codes "axiom A(1)\nproduction a: A(x) => A(x+1)\nproduction winter w: A(z) => A(z+1)\ndepth 2\nproduction a: A(y) => A((y)+1)\nseed 5\nschedule winter\n")
    ≡ codes "ok 0/0\nok 0/0\nok 0/0\nok 2/2\nok 0/2\nok 0/2\nok 0/2\n"
unfolding digits
same_bodies = refl

-- a symbol comes between two that didn't change
pub insertion :
    run (codes "axiom ABC\nproduction c: A < C => X\nproduction e: B =>\ndepth 2\nstring\nproduction e: B => B\nstring\n")
    ≡ codes "ok 0/0\nok 0/0\nok 0/0\nok 3/3\nAX\nok 3/4\nABC\n"
unfolding digits
insertion = refl

-- what a cut hides and gives back isn't asked again
pub cut_comes_and_goes :
    run (codes "axiom ABC\nproduction a: A => A\nproduction c: C => D\ndepth 2\nstring\nproduction a: A => A%\nstring\nproduction a: A => A\nstring\n")
    ≡ codes "ok 0/0\nok 0/0\nok 0/0\nok 3/3\nABD\nok 2/3\nA\nok 2/3\nABD\n"
unfolding digits
cut_comes_and_goes = refl

-- blanks stand where a name would be read on
pub dragon :
    run (codes "axiom F_l\nproduction l: F_l => F_l+F_r+\nproduction r: F_r => -F_l-F_r\ndepth 2\nstring\naxiom F_a  F_b(1)F\nstring\n")
    ≡ codes "ok 0/0\nok 0/0\nok 0/0\nok 3/3\nF_l+F_r++-F_l-F_r+\nok 0/0\nF_a F_b(1)F\n"
unfolding digits
dragon = refl

-- the draw of a module comes from its ancestry: under the next seed, one place earlier, it is the same
pub first_place :
    run (codes "production p: A @ 1 => B\nproduction q: A @ 1 => C\naxiom A\nseed 1\ndepth 1\nstring\n")
    ≡ codes "ok 0/0\nok 0/0\nok 0/0\nok 0/0\nok 1/1\nB\n"
unfolding digits
first_place = refl

pub second_place :
    run (codes "production p: A @ 1 => B\nproduction q: A @ 1 => C\naxiom +A\nseed 0\ndepth 1\nstring\n")
    ≡ codes "ok 0/0\nok 0/0\nok 0/0\nok 0/0\nok 1/1\n+B\n"
unfolding digits
second_place = refl

-- a module that moves keeps its draw and isn't asked again
pub moved_with_its_ancestry :
    run (codes "production p: A @ 1 => B\nproduction q: A @ 1 => C\naxiom ES\nproduction e: E => E\nproduction s: S => A\ndepth 2\nstring\nproduction e: E => EE\nstring\n")
    ≡ codes "ok 0/0\nok 0/0\nok 0/0\nok 0/0\nok 0/0\nok 4/4\nEC\nok 3/5\nEEEEC\n"
unfolding digits
moved_with_its_ancestry = refl
