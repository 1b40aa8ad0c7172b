-- Examples of the definitions of lsys_spec, which the checker computes: lines and rules by their places.
use Rattle.std.specs.Prelude.{◌≡◌, ℕ, List, codes, refl}
use Rattle.std.specs.Fmt.{digits}
use Rattle.lsys_spec.specs.Replies.{reply}
use Rattle.lsys_spec.specs.Output.{run_with}

abbrev run : List ℕ → List ℕ
run = run_with (reply 100000)

-- tabs stand between tokens, and a line of blanks has no reply
pub tabs :
    run (codes "axiom\tA\tB\nproduction\tp:\tA\t=>\tB\n\t \n")
    ≡ codes "ok 0/0\nok 0/0\n"
unfolding digits
tabs = refl

-- a formal repeats at a distance
pub far_duplicates :
    run (codes "production p: A(x,y) < B(z) > C(x) => D\nproduction p: A(x,y,x) => D\n")
    ≡ codes "refused duplicate 33\nrefused duplicate 21\n"
unfolding digits
far_duplicates = refl

-- the limit on tables is passed at the table word, before the successor passes its own
pub table_before_successor :
    run (codes "production t0 l0: A => A\nproduction t1 l1: A => A\nproduction t2 l2: A => A\nproduction t3 l3: A => A\nproduction t4 l4: A => A\nproduction t5 l5: A => A\nproduction t6 l6: A => A\nproduction t7 l7: A => A\nproduction t8 l8: A => A\nproduction t9 l9: A => A\nproduction t10 l10: A => A\nproduction t11 l11: A => A\nproduction t12 l12: A => A\nproduction t13 l13: A => A\nproduction t14 l14: A => A\nproduction nw x: A => BBBBBBBBBBBBBBBBBBBBBBBBBBBBBBBBBBBBBBBBBBBBBBBBBBBBBBBBBBBBBBBBBBBBBBBBBBBBBBBBBBBBBBBBBBBBBBBBBBBBBBBBBBBBBBBBBBBBBBBBBBBBBBBBB\n")
    ≡ codes "ok 0/0\nok 0/0\nok 0/0\nok 0/0\nok 0/0\nok 0/0\nok 0/0\nok 0/0\nok 0/0\nok 0/0\nok 0/0\nok 0/0\nok 0/0\nok 0/0\nok 0/0\nrefused many 12\n"
unfolding digits
table_before_successor = refl

-- a string may stand right after the word, and is shown after a blank: the printed line has a byte more
pub string_after_word :
    run (codes "axiom+(1)\nshow\n") ≡ codes "ok 0/0\nlattice square\nseed 0\naxiom +(1)\nignore\nschedule main\ndepth 0\n"
unfolding digits
string_after_word = refl

-- a name goes before a mixed group, and so does a repeated formal
pub duplicate_before_mixed :
    run (codes "production p: A(x,y) @ 1 => B\nproduction q: A(x,x) => B\nproduction q: A(x,y) => B(z)\nproduction q: A(x,y) => B\nproduction winter p: A(x,x) => B\n")
    ≡ codes "ok 0/0\nrefused duplicate 19\nrefused name 27\nrefused mixed 12\nrefused duplicate 26\n"
unfolding digits
duplicate_before_mixed = refl

-- each mark is shown as it was written
pub every_mark :
    run (codes "axiom +-&^\\/|!(1)F\nstring\nproduction p: +(x) < -(y) > &^\\/|! : x==1&&y!=2||!x<=y @ x<y => A(x>y,x>=y,-x^2*y/(x-y)%3,x+1)\nshow\n")
    ≡ codes "ok 0/0\n+-&^\\/|!(1)F\nok 0/0\nlattice square\nseed 0\naxiom +-&^\\/|!(1)F\nignore\nproduction main p: +(x) < -(y) > &^\\/|! : x==1&&y!=2||!x<=y @ x<y => A(x>y,x>=y,-x^2*y/(x-y)%3,x+1)\nschedule main\ndepth 0\n"
unfolding digits
every_mark = refl

-- values and nesting past their edges
pub edges :
    run (codes "axiom A(-9223372036854775809)\nhom h: A(x) => F((((((((((((((((((((((((((((((((((x))))))))))))))))))))))))))))))))))\nproduction p: A : ---------------------------------1 => B\nproduction p: A @ !!!!!!!!!!!!!!!!!!!!!!!!!!!!!!!!!1 => B\nproduction p: A => B(9223372036854775807,9223372036854775808)\n")
    ≡ codes "refused syntax token 10\nrefused syntax deep 50\nrefused syntax deep 51\nrefused syntax deep 51\nrefused syntax token 42\n"
unfolding digits
edges = refl
