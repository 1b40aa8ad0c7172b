-- Examples of the definitions of lsys_spec, which the checker computes: values and faults at their edges, and in their order.
use Rattle.std.specs.Prelude.{◌≡◌, ℕ, List, codes, refl}
use Rattle.std.specs.Fmt.{digits}
use Rattle.lsys_spec.specs.Replies.{reply}
use Rattle.lsys_spec.specs.Output.{run_with}

abbrev run : List ℕ → List ℕ
run = run_with (reply 100000)

-- the first fault from the left, in a value, in parameters and in a successor; operators at their edges
pub operators :
    run (codes "axiom A(0)\ndepth 1\nproduction p: A(x) => A(1%x)\nproduction p: A(x) => A(1/x+2^-1)\nproduction p: A(x) => A(2^-1+1/x)\nproduction p: A(x) => A(-2-9223372036854775807)\nproduction p: A(x) => A(-(-9223372036854775807-1))\nproduction p: A(x) => A(1/x,2^-1)\nproduction p: A(x) => A(2^-1)A(1/x)\nproduction p: A(x) : 1/x || 1 => A(2^-1)\nproduction p: A(x) => A(0^64,0||3,3>3,-(-3),!0,1||2^-1)\nstring\n")
    ≡ codes "ok 0/0\nok 0/0\nrefused fault divide-by-zero level 0 module 1\nrefused fault divide-by-zero level 0 module 1\nrefused fault negative-power level 0 module 1\nrefused fault overflow level 0 module 1\nrefused fault overflow level 0 module 1\nrefused fault divide-by-zero level 0 module 1\nrefused fault negative-power level 0 module 1\nrefused fault divide-by-zero level 0 module 1\nok 1/1\nA(0,1,0,3,1,1)\n"
unfolding digits
operators = refl

-- equal and unequal both ways; a value is true that isn't 0; sums and products group to the left
pub truths :
    run (codes "axiom A\ndepth 1\nproduction p: A => A(1==2,2==1,1!=2,2!=1,1&&0,-1&&1,3||0,0||-2)\nstring\nproduction p: A => A(9-3-1,16/4/2,2+3*4,1||0&&0,7/-2,7%-2,!-1,9223372036854775807)\nstring\nproduction p: A => A(9223372036854775807+1)\nproduction p: A => A(9223372036854775808)\n")
    ≡ codes "ok 0/0\nok 0/0\nok 1/1\nA(0,0,1,1,0,1,1,1)\nok 1/1\nA(5,2,14,1,-3,1,0,9223372036854775807)\nrefused fault overflow level 0 module 1\nrefused syntax token 22\n"
unfolding digits
truths = refl

-- a condition holds where its value isn't 0
pub true_conditions :
    run (codes "axiom A(2)A(-1)A(0)\nproduction p: A(x) : x => B\ndepth 1\nstring\n")
    ≡ codes "ok 0/0\nok 0/0\nok 3/3\nBBA(0)\n"
unfolding digits
true_conditions = refl

-- -0 is 0
pub minus_nothing :
    run (codes "axiom A(-0)\nstring\n")
    ≡ codes "ok 0/0\nA(0)\n"
unfolding digits
minus_nothing = refl

-- a rule of a group with weights that doesn't apply, before one that does; the chosen one's values
pub weighted_values :
    run (codes "axiom A(3)B\nproduction p: A(x) : x > 5 @ 1 => C(x)\nproduction q: B < A(x) @ x => D(x)\nproduction r: A(x) @ x => E(x+1)\ndepth 1\nstring\n")
    ≡ codes "ok 0/0\nok 0/0\nok 0/0\nok 0/0\nok 1/1\nE(4)B\n"
unfolding digits
weighted_values = refl

-- a weight is evaluated before the next rule is tried
pub weight_at_once :
    run (codes "axiom A\nproduction p: A @ 1/0 => B\nproduction q: A : 2^64 @ 1 => C\ndepth 1\n")
    ≡ codes "ok 0/0\nok 0/0\nok 0/0\nrefused fault divide-by-zero level 0 module 1\n"
unfolding digits
weight_at_once = refl

-- 0 to a negative power is a negative power; a fault of the left side goes first; a condition may fault, and where it does not hold the successor is not made
pub powers_of_nothing :
    run (codes "axiom A(0)\ndepth 1\nproduction p: A(x) => B(x^-1)\nproduction p: A(x) => B(1/x^(2^64))\nproduction p: A(x) => B(2^64/x)\nproduction p: A(x) : x => B(1/x)\nproduction p: A(x) : !(1/x) => B\nproduction p: A(x) : 1/x && 1 => B\nproduction p: A(x) => B(9223372036854775807*2)\nproduction p: A(x) => B(4611686018427387904*-2,-1*-1,0-3*-2,(0-7)/2,1-2-3)\nstring\n")
    ≡ codes "ok 0/0\nok 0/0\nrefused fault negative-power level 0 module 1\nrefused fault overflow level 0 module 1\nrefused fault overflow level 0 module 1\nok 1/1\nrefused fault divide-by-zero level 0 module 1\nrefused fault divide-by-zero level 0 module 1\nrefused fault overflow level 0 module 1\nok 1/1\nB(-9223372036854775808,1,6,-3,-4)\n"
unfolding digits
powers_of_nothing = refl
