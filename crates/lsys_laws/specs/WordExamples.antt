-- Examples of the definitions of lsys_spec, which the checker computes: lines and rules by the token at which they stop.
use Rattle.std.specs.Prelude.{◌≡◌, ℕ, List, codes, refl}
use Rattle.std.specs.Fmt.{digits}
use Rattle.lsys_spec.specs.Replies.{reply}
use Rattle.lsys_spec.specs.Output.{run_with}

abbrev run : List ℕ → List ℕ
run = run_with (reply 100000)

-- nothing may follow a whole command; a name, a comma and a pattern are due where they are
pub whole_commands :
    run (codes "quit x\nshow 1\nsegments 1\nsvg x\ndepth 1 2\nseed\ndrop\ndrop p q\nlattice\nlattice round\nstring x\nstring 0 0\nschedule main 1\nignore A(1)\nignore [\naxiom A(1)(2)\naxiom (1)\naxiom A()\naxiom A(1,)\naxiom A(--1)\naxiom [\naxiom []]\nproduction\nproduction p\nproduction p A\nproduction a b c: A => B\nhom p q: A => B\nhom : A => B\n")
    ≡ codes "refused syntax token 6\nrefused syntax token 6\nrefused syntax token 10\nrefused syntax token 5\nrefused syntax token 9\nrefused syntax token 5\nrefused syntax token 5\nrefused syntax token 8\nrefused syntax token 8\nrefused syntax token 9\nrefused syntax token 8\nrefused syntax token 10\nrefused syntax token 15\nrefused syntax token 9\nrefused syntax token 8\nrefused syntax token 11\nrefused syntax token 7\nrefused syntax token 9\nrefused syntax token 11\nrefused syntax token 10\nrefused syntax token 8\nrefused syntax token 9\nrefused syntax token 11\nrefused syntax token 13\nrefused syntax token 15\nrefused syntax token 16\nrefused syntax token 7\nrefused syntax token 5\n"
unfolding digits
whole_commands = refl

-- where a rule stops
pub rules_by_places :
    run (codes "production p: A @ 1 : 1 => B\nproduction p: A < B < C => D\nproduction p: A > B > C => D\nproduction p: A > B < C => D\nproduction p: A > => B\nproduction p: < A => B\nproduction p: A < => B\nproduction p: A > % => B\nproduction p: % => B\nproduction p: [A] < B => C\nproduction p: [A] => B\nproduction p: A > ] => B\nproduction p: A > [B => C\nproduction p: A > B] => C\nproduction p: A(x)(y) => B\nproduction p: A(1) => B\nproduction p: A() => B\nproduction p: A(x,) => B\nproduction p: A => B(1)(2)\nproduction p: A => (1)\nproduction p: A => B()\nproduction p: A => ]\nproduction p: A => B => C\nproduction p: A : => B\nproduction p: A : 1\nproduction p: A\nproduction p: A => B(1\nproduction p: A => B(1+)\nproduction p: A => B(1&2)\nproduction p: A => B(1|2)\nproduction p: A => B(1))\nproduction p: A => B((1)\nproduction p: A => B(x=1)\nproduction p: A : 1) => B\nproduction p: => B\nproduction p: A = B\n")
    ≡ codes "refused syntax token 21\nrefused syntax token 21\nrefused syntax token 21\nrefused syntax token 21\nrefused syntax token 19\nrefused syntax token 15\nrefused syntax token 19\nrefused syntax token 19\nrefused syntax token 15\nrefused syntax token 15\nrefused syntax token 15\nrefused syntax token 19\nrefused syntax token 22\nrefused syntax token 20\nrefused syntax token 19\nrefused syntax token 17\nrefused syntax token 17\nrefused syntax token 19\nrefused syntax token 24\nrefused syntax token 20\nrefused syntax token 22\nrefused syntax token 20\nrefused syntax token 22\nrefused syntax token 19\nrefused syntax token 20\nrefused syntax token 16\nrefused syntax token 23\nrefused syntax token 24\nrefused syntax token 24\nrefused syntax token 24\nrefused syntax token 24\nrefused syntax token 25\nrefused syntax token 23\nrefused syntax token 20\nrefused syntax token 15\nrefused syntax token 17\n"
unfolding digits
rules_by_places = refl

-- where a rule of the homomorphism stops
pub homomorphism_rules_by_places :
    run (codes "hom h: A : 1 @ 1 => B\nhom h: A > B => C\nhom h: AB => C\nhom h: A < B => C\nhom h: [ => C\nhom h: A => B%\nhom h: A => [%]\nhom h: A(x) : x == 1 => F(x)[+F]\n")
    ≡ codes "refused syntax token 14\nrefused syntax token 10\nrefused syntax token 9\nrefused syntax token 10\nrefused syntax token 8\nrefused syntax token 14\nrefused syntax token 14\nok 0/0\n"
unfolding digits
homomorphism_rules_by_places = refl

-- letters end at Z and z and begin at A and a; a word may have `_`; a line that begins with no word has words; an `=` alone is a token
pub bytes :
    run (codes "# A\naxiom A`\naxiom A{\naxiom A~\ndrop a_b\ndrop A_\ndrop _a\n(A_\n=\naxiom A=\naxiom Zz_09azAZ\n1a\nAxiom A\nproduction p : A\t=>B\nlattice cubic\nlattice square\nignore\nignore A_b A_b\nshow\n")
    ≡ codes "refused syntax byte 1\nrefused syntax byte 8\nrefused syntax byte 8\nrefused syntax byte 8\nrefused label 6\nrefused label 6\nrefused syntax byte 6\nrefused syntax token 1\nrefused syntax token 1\nrefused syntax token 8\nok 0/0\nrefused syntax token 1\nrefused syntax token 1\nok 0/0\nok 0/0\nok 0/0\nok 0/0\nok 0/0\nlattice square\nseed 0\naxiom Zz_09azAZ\nignore A_b\nproduction main p: A => B\nschedule main\ndepth 0\n"
unfolding digits
bytes = refl

-- an unknown name in a condition and in a weight; a formal of either context is known
pub names_anywhere :
    run (codes "production p: A(x) : y => B\nproduction p: A(x) @ y => B\nproduction p: A(x) < B > C(y) : x @ y => D(y,x)\nproduction p: A(x) < B > [C(y)]D(x) => E\nhom h: A(x) : y => F\n")
    ≡ codes "refused name 22\nrefused name 22\nok 0/0\nrefused duplicate 34\nrefused name 15\n"
unfolding digits
names_anywhere = refl
