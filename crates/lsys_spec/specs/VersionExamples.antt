-- Systems of version 2: own lists of names, greater depths, and numbers by names; examples that the checker computes.
use Rattle.std.specs.Prelude.{◌≡◌, ℕ, List, [], ◌∷◌, ◌++◌, ◌+◌, ◌%◌, ◌^◌, codes, flat_map, replicate, refl}
use Rattle.std.specs.Fmt.{digits}
use Rattle.lsys_syntax.specs.Tokens.{short, long}
use Rattle.lsys_syntax.specs.Strings.{named, plus, Symbol, Module, Push, Pop, Cut}
use Rattle.lsys_syntax.specs.Commands.{by_place, by_name}
use Rattle.lsys_spec.specs.Draws.{word, key_of}
use Rattle.lsys_spec.specs.Numbers.{numbers}
use Rattle.lsys_spec.specs.Replies.{reply}
use Rattle.lsys_spec.specs.Output.{run_with}

abbrev run : List ℕ → List ℕ
run = run_with (reply 100000)

-- a text n times
abbrev repeated : ℕ → List ℕ → List ℕ
repeated n text = flat_map {X = ℕ} (λ k. text) (replicate n 0)

-- one table considers the letters of a context, and then has no list of its own again
pub own_lists :
    run (codes "consider main: A\nversion 2\naxiom AXC\nproduction c: A < C => D\nproduction winter k: A < C => E\nconsider winter: AC\nschedule winter\ndepth 1\nstring\ncommon winter\nstring\nversion 1\ndepth 257\n")
    ≡ codes "refused version 1\nok 0/0\nok 0/0\nok 0/0\nok 0/0\nok 0/0\nok 0/0\nok 1/1\nAXE\nok 1/1\nAXC\nrefused version 9\nrefused many 7\n"
unfolding digits
own_lists = refl

-- a new letter in a successor and in the axiom leaves the numbers of the others
pub inserted_by_name :
    run (codes "version 2\nlineage names\naxiom A\nproduction a: A => BC\nproduction c: C => C\ndepth 2\nproduction a: A => XBC\naxiom XA\nstring\nlineage places\n")
    ≡ codes "ok 0/0\nok 0/0\nok 0/0\nok 0/0\nok 0/0\nok 2/2\nok 1/2\nok 0/2\nXXBC\nok 2/2\n"
unfolding digits
inserted_by_name = refl

pub inserted_by_place :
    run (codes "version 2\nlineage places\naxiom A\nproduction a: A => BC\nproduction c: C => C\ndepth 2\nproduction a: A => XBC\n")
    ≡ codes "ok 0/0\nok 0/0\nok 0/0\nok 0/0\nok 0/0\nok 2/2\nok 2/2\n"
unfolding digits
inserted_by_place = refl

-- by names the same lineages stand in another order: the depths of what was read tell the questions apart
pub told_by_depth :
    run (codes "version 2\nlineage names\naxiom S[A]C\nproduction p: S > [AC] => X\ndepth 1\nstring\naxiom S[AC]\nstring\n")
    ≡ codes "ok 0/0\nok 0/0\nok 0/0\nok 0/0\nok 1/1\nS[A]C\nok 1/1\nX[AC]\n"
unfolding digits
told_by_depth = refl

-- what version 1 doesn't know is refused at the command's word, before all else; a version that isn't, at its number
pub refused_versions :
    run (codes "ignoring nowhere: A\nconsider main: A\ncommon main\nlineage names\nversion 0\nversion 3\nversion 1\ndepth 65\nversion 2\ndepth 65\ndepth 256\nignoring nowhere: A\n  consider nowhere : A\ncommon nowhere\n")
    ≡ codes "refused version 1\nrefused version 1\nrefused version 1\nrefused version 1\nrefused version 9\nrefused version 9\nok 0/0\nrefused many 7\nok 0/0\nok 0/0\nok 0/0\nrefused table 10\nrefused table 12\nrefused table 8\n"
unfolding digits
refused_versions = refl

-- the 65th name of an own list; the last rule of a table with an own list
pub own_limits :
    run (codes "version 2\nignoring main: " ++ (replicate 64 65 ++ (codes "\nconsider main: " ++ (replicate 65 65 ++ codes "\nproduction w r: A => A\nignoring w:\ndrop r\ncommon w\ndrop r\n"))))
    ≡ codes "ok 0/0\nok 0/0\nrefused many 80\nok 0/0\nok 0/0\nrefused table 6\nok 0/0\nok 0/0\n"
unfolding digits
own_limits = refl

-- own lists are printed in the order of their tables' words, and read back
pub shown_lists :
    run (codes "version 2\nproduction w r: A => A\nproduction a s: A => A\nconsider w:\nignoring main: B+B\nconsider a: F_a G_b\nlineage names\nshow\n")
    ≡ codes "ok 0/0\nok 0/0\nok 0/0\nok 0/0\nok 0/0\nok 0/0\nok 0/0\nversion 2\nlineage names\nlattice square\nseed 0\naxiom\nignore\nproduction w r: A => A\nproduction a s: A => A\nconsider a: F_a G_b\nignoring main: B+\nconsider w:\nschedule main\ndepth 0\n"
unfolding digits
shown_lists = refl

-- a letter's code is its byte, and a name's bytes stand the least first
abbrev some_symbols : List (Symbol ℕ)
some_symbols = Module (named (short 65)) [] ∷ Push ∷ Module plus [] ∷ Module (named (short 65)) (1 ∷ []) ∷ Pop ∷ Module (named (long 70 (97 ∷ []))) [] ∷ Cut ∷ Push ∷ Pop ∷ []

pub numbers_by_place : numbers by_place some_symbols ≡ 0 ∷ 1 ∷ 2 ∷ 3 ∷ 4 ∷ 5 ∷ 6 ∷ 7 ∷ 8 ∷ []
numbers_by_place = refl

pub numbers_by_name :
    numbers by_name some_symbols
    ≡ 266240 ∷ 372736 ∷ 176128 ∷ 266241 ∷ 380928 ∷ 26138140672 ∷ 151552 ∷ 372737 ∷ 380929 ∷ []
numbers_by_name = refl

-- a key below a number by places is one word after, below a number by names two
pub keys : key_of 5 (3 ∷ 266241 ∷ []) ≡ word ((word ((word 9 + 1 + 65) % 2 ^ 64) + 1 + 1) % 2 ^ 64)
keys = refl
