-- Examples of the definitions of lsys_spec, which the checker computes: rules put anew, and which questions they then ask.
use Rattle.std.specs.Prelude.{◌≡◌, ℕ, List, codes, refl}
use Rattle.std.specs.Fmt.{digits}
use Rattle.lsys_spec.specs.Replies.{reply}
use Rattle.lsys_spec.specs.Output.{run_with}

abbrev run : List ℕ → List ℕ
run = run_with (reply 100000)

-- a rule put anew with another left context, right context, condition or weight is another question, and the same one is not
pub contexts_and_conditions :
    run (codes "axiom BAB\ndepth 1\nproduction p: B < A => X\nproduction p: B(x) < A => X\nproduction p: C(x) < A => X\nproduction p: CC(x) < A => X\nproduction p: A > B => X\nproduction p: A > B(x) => X\nproduction p: A > C(x) => X\nproduction p: A > BC => X\nproduction p: A > BC => X\nproduction p: A : 1 => X\nproduction p: A : 2 => X\nproduction p: A => X\nproduction p: A @ 1 => X\nproduction p: A @ 2 => X\nproduction p: A @ 2 => X\n")
    ≡ codes "ok 0/0\nok 0/0\nok 1/1\nok 1/1\nok 1/1\nok 1/1\nok 1/1\nok 1/1\nok 1/1\nok 1/1\nok 0/1\nok 1/1\nok 1/1\nok 1/1\nok 1/1\nok 1/1\nok 0/1\n"
unfolding digits
contexts_and_conditions = refl

-- and so with another branch pattern, which may read the same
pub branches :
    run (codes "axiom A[B]\ndepth 1\nproduction p: A > [B] => X\nproduction p: A > [C] => X\nproduction p: A > [C]C => X\nproduction p: A > [C]C => X\n")
    ≡ codes "ok 0/0\nok 0/0\nok 1/1\nok 1/1\nok 1/1\nok 0/1\n"
unfolding digits
branches = refl

-- and so with another expression
pub trees :
    run (codes "axiom A(1,1)\ndepth 1\nproduction p: A(x,y) => B(1)\nproduction p: A(x,y) => B(2)\nproduction p: A(x,y) => B(x)\nproduction p: A(x,y) => B(y)\nproduction p: A(x,y) => B(-y)\nproduction p: A(x,y) => B(-x)\nproduction p: A(x,y) => B(!x)\nproduction p: A(x,y) => B(!y)\nproduction p: A(x,y) => B(x+y)\nproduction p: A(x,y) => B(x+x)\nproduction p: A(x,y) => B(y+x)\nproduction p: A(x,y) => B(y-x)\nproduction p: A(x,y) => B(x*y)\nproduction p: A(x,y) => B(x/y)\nproduction p: A(x,y) => B(x%y)\nproduction p: A(x,y) => B(x^y)\nproduction p: A(x,y) => B(x^x)\nproduction p: A(x,y) => B(y^x)\nproduction p: A(x,y) => B(x==y)\nproduction p: A(x,y) => B(x!=y)\nproduction p: A(x,y) => B(x<y)\nproduction p: A(x,y) => B(x<=y)\nproduction p: A(x,y) => B(x>y)\nproduction p: A(x,y) => B(x>=y)\nproduction p: A(x,y) => B(x&&y)\nproduction p: A(x,y) => B(x&&x)\nproduction p: A(x,y) => B(y&&x)\nproduction p: A(x,y) => B(y||x)\nproduction p: A(x,y) => B(y||y)\nproduction p: A(x,y) => B(x||y)\nproduction p: A(x,y) => B((x)||y)\n")
    ≡ codes "ok 0/0\nok 0/0\nok 1/1\nok 1/1\nok 1/1\nok 1/1\nok 1/1\nok 1/1\nok 1/1\nok 1/1\nok 1/1\nok 1/1\nok 1/1\nok 1/1\nok 1/1\nok 1/1\nok 1/1\nok 1/1\nok 1/1\nok 1/1\nok 1/1\nok 1/1\nok 1/1\nok 1/1\nok 1/1\nok 1/1\nok 1/1\nok 1/1\nok 1/1\nok 1/1\nok 1/1\nok 1/1\nok 0/1\n"
unfolding digits
trees = refl

-- and so with another successor
pub successors :
    run (codes "axiom A\ndepth 1\nproduction p: A => \nproduction p: A => B\nproduction p: A => C\nproduction p: A => C(1)\nproduction p: A => C(2)\nproduction p: A => C(2)C\nproduction p: A => C(2)[]\nproduction p: A => C(2)%\nproduction p: A => C(2)[%]\nproduction p: A => C(2)[+]\nproduction p: A => C(2)[+]\nseed 1\nproduction p: A @ 1 => B\nseed 2\nseed 2\n")
    ≡ codes "ok 0/0\nok 0/0\nok 1/1\nok 1/1\nok 1/1\nok 1/1\nok 1/1\nok 1/1\nok 1/1\nok 1/1\nok 1/1\nok 1/1\nok 0/1\nok 0/1\nok 1/1\nok 1/1\nok 0/1\n"
unfolding digits
successors = refl

-- what is read may change where the module and its rules do not: a parameter, a module that is now ignored, a branch
pub entries :
    run (codes "axiom B(1)A\nproduction p: B(x) < A : 0 => A\nproduction q: A > D => A\ndepth 1\naxiom B(2)A\naxiom B(2)AC\naxiom B(2)AE\nignore E\naxiom B(2)A[E]\naxiom B(2)A[EE]\naxiom B(2)A[EE]D\naxiom CA[EE]D\nignore\n")
    ≡ codes "ok 0/0\nok 0/0\nok 0/0\nok 1/1\nok 1/1\nok 1/1\nok 1/1\nok 1/1\nok 1/1\nok 1/1\nok 1/1\nok 1/1\nok 0/1\n"
unfolding digits
entries = refl

-- what has every part, put again, asks nothing anew
pub same_again :
    run (codes "axiom A(1,1)\ndepth 1\nproduction p: A(x,y) => B(-x+y-x*y/x%(y^x),!x&&y||x,x==y,x!=y,x<y,x<=y,x>y,x>=y)[+%]\nproduction p: A(x,y) => B(-x+y-x*y/x%(y^x),!x&&y||x,x==y,x!=y,x<y,x<=y,x>y,x>=y)[+%]\naxiom CEB(1)[[D]A[E]E[D]EF(2)]\nignore E\nproduction q: CB(x) < A > [D]F(y) : y => X\nproduction q: CB(x) < A > [D]F(y) : y => X\ndepth 1\nseed 3\n")
    ≡ codes "ok 0/0\nok 0/0\nok 1/1\nok 0/1\nok 0/0\nok 0/0\nok 1/1\nok 0/1\nok 0/1\nok 0/1\n"
unfolding digits
same_again = refl
