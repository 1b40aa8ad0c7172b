-- Examples of the definitions of lsys_spec, which the checker computes: rules of the homomorphism.
use Rattle.std.specs.Prelude.{◌≡◌, ℕ, List, codes, refl}
use Rattle.std.specs.Fmt.{digits}
use Rattle.lsys_spec.specs.Replies.{reply}
use Rattle.lsys_spec.specs.Output.{run_with}

abbrev run : List ℕ → List ℕ
run = run_with (reply 100000)

-- a label keeps its place, a rule is for its number of parameters, and `drop` takes it out
pub image_rules :
    run (codes "axiom A(1)A\nhom h: A(x) => FF\nhom i: A(x) => f\nhom h: A(x) => F\nsegments\nshow\ndrop h\nshow\ndrop h\n")
    ≡ codes "ok 0/0\nok 0/0\nok 0/0\nok 0/0\nsegments 1\n0 0 0 0 1 0 1\nlattice square\nseed 0\naxiom A(1)A\nignore\nhom h: A(x) => F\nhom i: A(x) => f\nschedule main\ndepth 0\nok 0/0\nlattice square\nseed 0\naxiom A(1)A\nignore\nhom i: A(x) => f\nschedule main\ndepth 0\nrefused label 6\n"
unfolding digits
image_rules = refl

-- the refusals of such a rule in their order: name, duplicate, label, many
pub image_rule_refusals :
    run (codes "production p: A => B\nhom h: A(x,x) => F(y)\nhom p: A(x,x) => F\nhom p: A(a,b,c,d,e,f,g,h,i) => F\nhom h: A(a,b,c,d,e,f,g,h,i) => F\n")
    ≡ codes "ok 0/0\nrefused name 20\nrefused duplicate 12\nrefused label 5\nrefused many 26\n"
unfolding digits
image_rule_refusals = refl

-- the fault of an image is told by its module, brackets not counted
pub image_fault :
    run (codes "axiom [F][A(0)]\nhom h: A(x) => F(1/x)\nsegments\n")
    ≡ codes "ok 0/0\nok 0/0\nrefused fault divide-by-zero image 2\n"
unfolding digits
image_fault = refl
