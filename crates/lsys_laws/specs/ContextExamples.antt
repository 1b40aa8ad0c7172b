-- Examples of the definitions of lsys_spec, which the checker computes: contexts, and the entries that the counts see.
use Rattle.std.specs.Prelude.{◌≡◌, ℕ, List, codes, refl}
use Rattle.std.specs.Fmt.{digits}
use Rattle.lsys_spec.specs.Replies.{reply}
use Rattle.lsys_spec.specs.Output.{run_with}

abbrev run : List ℕ → List ℕ
run = run_with (reply 100000)

-- a right walk that is not made, and a module where a branch is wanted, are what they are in the counts
pub walks_in_counts :
    run (codes "axiom BAC\nproduction p: C < A > B => X\ndepth 1\naxiom BAD\nproduction p: A > [B] => X\naxiom BAC\naxiom BA\n")
    ≡ codes "ok 0/0\nok 0/0\nok 1/1\nok 0/1\nok 1/1\nok 1/1\nok 1/1\n"
unfolding digits
walks_in_counts = refl

-- formals in the branches of a right context
pub branch_formals :
    run (codes "axiom A[B(3)]\nproduction p: A > [B(x)] => A(x)\ndepth 1\nstring\n")
    ≡ codes "ok 0/0\nok 0/0\nok 1/1\nA(3)[B(3)]\n"
unfolding digits
branch_formals = refl

-- a branch pattern in a branch pattern
pub nested_branch_patterns :
    run (codes "axiom A[[C]]\nproduction p: A > [[B]] => X\ndepth 1\nstring\naxiom A[[C][B]]\nstring\n")
    ≡ codes "ok 0/0\nok 0/0\nok 1/1\nA[[C]]\nok 1/1\nX[[C][B]]\n"
unfolding digits
nested_branch_patterns = refl

-- a branch that a module pattern passes is read
pub passed_branches :
    run (codes "axiom AEB\nproduction p: A > B => A\nproduction e: E => [C]\ndepth 2\nproduction e: E =>\nproduction e: E => [C][D]\n")
    ≡ codes "ok 0/0\nok 0/0\nok 0/0\nok 3/3\nok 2/3\nok 2/3\n"
unfolding digits
passed_branches = refl

-- formals of more than one module in each context, in the order of the text
pub order_of_formals :
    run (codes "axiom A(1)B(2)C(6)[D(3)]E(4)F(5)\nproduction p: A(u)B(v) < C(c) > [D(w)]E(x)F(y) => G(u,v,c,w,x,y)\ndepth 1\nstring\n")
    ≡ codes "ok 0/0\nok 0/0\nok 1/1\nA(1)B(2)G(1,2,6,3,4,5)[D(3)]E(4)F(5)\n"
unfolding digits
order_of_formals = refl
