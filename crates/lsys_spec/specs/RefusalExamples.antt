-- Lines that are refused, each at its column and by the first cause, as the checker computes them.
use Rattle.std.specs.Prelude.{◌≡◌, ℕ, List, codes, refl}
use Rattle.std.specs.Fmt.{digits}
use Rattle.lsys_spec.specs.Replies.{reply}
use Rattle.lsys_spec.specs.Output.{run_with}

abbrev run : List ℕ → List ℕ
run = run_with (reply 100000)

-- the column after the line's end
pub unclosed_branch :
    run (codes "production p: A => [B\n")
    ≡ codes "refused syntax token 22\n"
unfolding digits
unclosed_branch = refl

pub unclosed_parameters :
    run (codes "axiom A(1\n")
    ≡ codes "refused syntax token 10\n"
unfolding digits
unclosed_parameters = refl

pub byte_in_no_token :
    run (codes "axiom A$\n")
    ≡ codes "refused syntax byte 8\n"
unfolding digits
byte_in_no_token = refl

-- the longest name is taken first
pub underscore_in_no_name :
    run (codes "axiom F_aF_b\n")
    ≡ codes "refused syntax byte 11\n"
unfolding digits
underscore_in_no_name = refl

pub number_past_64_bits :
    run (codes "seed 18446744073709551616\nseed 18446744073709551615\n")
    ≡ codes "refused syntax token 6\nok 0/0\n"
unfolding digits
number_past_64_bits = refl

-- the least parameter has a sign
pub parameter_past_64_bits :
    run (codes "axiom A(9223372036854775808)\naxiom A(-9223372036854775808)\nstring\n")
    ≡ codes "refused syntax token 9\nok 0/0\nA(-9223372036854775808)\n"
unfolding digits
parameter_past_64_bits = refl

pub no_such_bracket :
    run (codes "axiom ]\nschedule\nseed -1\n")
    ≡ codes "refused syntax token 7\nrefused syntax token 9\nrefused syntax token 6\n"
unfolding digits
no_such_bracket = refl

pub unknown_name :
    run (codes "production p: A(x) => B(y)\n")
    ≡ codes "refused name 25\n"
unfolding digits
unknown_name = refl

pub repeated_formal :
    run (codes "production p: A(x) < B(x) => C\n")
    ≡ codes "refused duplicate 24\n"
unfolding digits
repeated_formal = refl

pub mixed_group :
    run (codes "production p: A @ 1 => B\nproduction q: A => C\n")
    ≡ codes "ok 0/0\nrefused mixed 12\n"
unfolding digits
mixed_group = refl

-- another number of formals is another group, and a rule may be put anew
pub unmixed_group :
    run (codes "production p: A @ 1 => B\nproduction q: A(x) => C\nproduction p: A => B\n")
    ≡ codes "ok 0/0\nok 0/0\nok 0/0\n"
unfolding digits
unmixed_group = refl

pub unknown_label :
    run (codes "drop q\n")
    ≡ codes "refused label 6\n"
unfolding digits
unknown_label = refl

-- a label stands once among productions and homomorphism rules
pub label_of_another_kind :
    run (codes "production p: A => B\nproduction winter p: A => B\nhom p: A => B\nhom h: A => B\nproduction h: A => B\ndrop h\n")
    ≡ codes "ok 0/0\nrefused label 19\nrefused label 5\nok 0/0\nrefused label 12\nok 0/0\n"
unfolding digits
label_of_another_kind = refl

pub unknown_table :
    run (codes "schedule summer\n")
    ≡ codes "refused table 10\n"
unfolding digits
unknown_table = refl

pub missing_level :
    run (codes "string 1\n")
    ≡ codes "refused level 8\n"
unfolding digits
missing_level = refl

pub too_deep :
    run (codes "depth 65\ndepth 64\n")
    ≡ codes "refused many 7\nok 0/0\n"
unfolding digits
too_deep = refl

pub least_number_by_minus_one :
    run (codes "axiom A(-9223372036854775808)\nproduction p: A(x) => A(x/-1)\ndepth 1\nproduction p: A(x) => A(x%-1)\ndepth 1\n")
    ≡ codes "ok 0/0\nok 0/0\nrefused fault overflow level 0 module 1\nok 0/0\nrefused fault overflow level 0 module 1\n"
unfolding digits
least_number_by_minus_one = refl

-- brackets aren't counted, and `+` is a module
pub division_by_zero :
    run (codes "axiom [+A(0)]\nproduction p: A(x) => A(1/x)\ndepth 1\n")
    ≡ codes "ok 0/0\nok 0/0\nrefused fault divide-by-zero level 0 module 2\n"
unfolding digits
division_by_zero = refl

pub negative_exponent :
    run (codes "axiom A(2)\nproduction p: A(x) => A(x^-1)\ndepth 1\n")
    ≡ codes "ok 0/0\nok 0/0\nrefused fault negative-power level 0 module 1\n"
unfolding digits
negative_exponent = refl

-- a name goes before a formal, a formal before a label, and a label before a limit
pub name_before_duplicate :
    run (codes "hom h: A => B\nproduction h: A(x) < B(x) => C(y)\nproduction h: A(x) < B(x) => C(x)\nproduction h: A(a,b,c,d,e,f,g,h,i) => B\n")
    ≡ codes "ok 0/0\nrefused name 32\nrefused duplicate 24\nrefused label 12\n"
unfolding digits
name_before_duplicate = refl

pub mixed_before_label :
    run (codes "production p: A @ 1 => B\nproduction winter q: A => B\nproduction q: A => B\n")
    ≡ codes "ok 0/0\nok 0/0\nrefused mixed 12\n"
unfolding digits
mixed_before_label = refl

-- an unknown word goes before the 65th
pub table_before_many :
    run (codes "schedule main main main main main main main main main main main main main main main main main main main main main main main main main main main main main main main main main main main main main main main main main main main main main main main main main main main main main main main main main main main main main main main main summer\nschedule main main main main main main main main main main main main main main main main main main main main main main main main main main main main main main main main main main main main main main main main main main main main main main main main main main main main main main main main main main main main main main main main main \nschedule main main main main main main main main main main main main main main main main main main main main main main main main main main main main main main main main main main main main main main main main main main main main main main main main main main main main main main main main main main main main main main main main \n")
    ≡ codes "refused table 330\nrefused many 330\nok 0/0\n"
unfolding digits
table_before_many = refl

-- the ninth parameter before the ninth module on the left
pub least_column :
    run (codes "production p: A(a,b,c,d,e,f,g,h,i)AAAAAAAA < B => C\nproduction p: AAAAAAAAA < B => C\nignore +++++++++++++++++++++++++++++++++++++++++++++++++++++++++++++++++\n")
    ≡ codes "refused many 33\nrefused many 23\nrefused many 72\n"
unfolding digits
least_column = refl

pub nine_of_each :
    run (codes "axiom A(1,2,3,4,5,6,7,8,9)\naxiom A(1,2,3,4,5,6,7,8,-9)\nproduction p: A => B(1,2,3,4,5,6,7,8,9)\nproduction p: A > BBBBBBBBBBBBBBBBB => C\n")
    ≡ codes "refused many 25\nrefused many 25\nrefused many 38\nrefused many 35\n"
unfolding digits
nine_of_each = refl

-- a parenthesis for each level, but none for the parameter's own
pub nesting_33 :
    run (codes "production p: A(x) => A((((((((((((((((((((((((((((((((((x))))))))))))))))))))))))))))))))))\n")
    ≡ codes "refused syntax deep 57\n"
unfolding digits
nesting_33 = refl

pub nesting_32 :
    run (codes "production p: A(x) => A(((((((((((((((((((((((((((((((((x)))))))))))))))))))))))))))))))))\n")
    ≡ codes "ok 0/0\n"
unfolding digits
nesting_32 = refl

-- prefixes and powers count, and what is closed doesn't
pub signs_nest :
    run (codes "production p: A(x) => A(---------------------------------x)\nproduction p: A(x) => A(!!!!!!!!!!!!!!!!!!!!!!!!!!!!!!!!x^2)\nproduction p: A(x) => A((x)^(x)^(x)^(x)^(x)^(x)^(x)^(x)^(x)^(x)^(x)^(x)^(x)^(x)^(x)^(x)^(x)^(x)^(x)^(x)^(x)^(x)^(x)^(x)^(x)^(x)^(x)^(x)^(x)^(x)^(x)^(x)^x)\n")
    ≡ codes "refused syntax deep 57\nrefused syntax deep 58\nok 0/0\n"
unfolding digits
signs_nest = refl

-- blank lines and comments have no reply; a comment begins at once
pub passed_over :
    run (codes "\n  \t\n; a comment\n ; none\n")
    ≡ codes "refused syntax byte 2\n"
unfolding digits
passed_over = refl

-- nothing after `quit` is a command
pub end_of_session :
    run (codes "axiom A\nquit\nstring\n")
    ≡ codes "ok 0/0\n"
unfolding digits
end_of_session = refl

-- after `<` stands one pattern
pub second_predecessor :
    run (codes "production p: A < B C => D\nproduction p: A B < C => D\n")
    ≡ codes "refused syntax token 21\nok 0/0\n"
unfolding digits
second_predecessor = refl

-- comparisons don't chain
pub chains :
    run (codes "production p: A(x) : 1 < x < 3 => B\n")
    ≡ codes "refused syntax token 28\n"
unfolding digits
chains = refl

-- a homomorphism rule has no cut, no context and no weight, but remainders
pub cuts_of_a_homomorphism :
    run (codes "hom h: A => %\nhom h: A < B => C\nhom h: A @ 1 => C\nhom h: A(x) => F(x%2)\n")
    ≡ codes "refused syntax token 13\nrefused syntax token 10\nrefused syntax token 10\nok 0/0\n"
unfolding digits
cuts_of_a_homomorphism = refl
