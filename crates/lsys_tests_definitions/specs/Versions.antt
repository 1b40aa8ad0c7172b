-- Replies to scripts, from conformance/definition_cases/versions.jsonl. conformance/definitions --keep writes this file.
use Rattle.std.specs.Prelude.{◌≡◌, ℕ, List, [], ◌∷◌, ◌++◌, codes, refl}
use Rattle.std.specs.Fmt.{digits}
use Rattle.lsys_spec.specs.Output.{none, output_text}
use Rattle.lsys_history.specs.Desks.{desk_out}

abbrev run : ℕ → List ℕ → List ℕ
run limit script = output_text (desk_out limit script none)

-- own lists of a table
pub case_0 : run 100000 ((codes "consider main: A\nversion 2\naxiom AXC\nproduction c: A < C => D\nproduction winter k: A < C => E\nconsider winter: AC\nschedule winter\ndepth 1\nstring\ncommon winter\nstring\nversion 1\ndepth 257\n")) ≡ ((codes "refused version 1\nok 0/0\nok 0/0\nok 0/0\nok 0/0\nok 0/0\nok 0/0\nok 1/1\nAXE\nok 1/1\nAXC\nrefused version 9\nrefused many 7\n"))
unfolding digits
case_0 = refl

-- insertion by names
pub case_1 : run 100000 ((codes "version 2\nlineage names\naxiom A\nproduction a: A => BC\nproduction c: C => C\ndepth 2\nproduction a: A => XBC\naxiom XA\nstring\nlineage places\n")) ≡ ((codes "ok 0/0\nok 0/0\nok 0/0\nok 0/0\nok 0/0\nok 2/2\nok 1/2\nok 0/2\nXXBC\nok 2/2\n"))
unfolding digits
case_1 = refl

-- insertion by places
pub case_2 : run 100000 ((codes "version 2\nlineage places\naxiom A\nproduction a: A => BC\nproduction c: C => C\ndepth 2\nproduction a: A => XBC\n")) ≡ ((codes "ok 0/0\nok 0/0\nok 0/0\nok 0/0\nok 0/0\nok 2/2\nok 2/2\n"))
unfolding digits
case_2 = refl

-- traces told apart by depths
pub case_3 : run 100000 ((codes "version 2\nlineage names\naxiom S[A]C\nproduction p: S > [AC] => X\ndepth 1\nstring\naxiom S[AC]\nstring\n")) ≡ ((codes "ok 0/0\nok 0/0\nok 0/0\nok 0/0\nok 1/1\nS[A]C\nok 1/1\nX[AC]\n"))
unfolding digits
case_3 = refl

-- a limit of 1,000,000
pub case_4 : run 1000000 ((codes "version 2\n")) ≡ ((codes "ok 0/0\n"))
unfolding digits
case_4 = refl

-- refusals of versions
pub case_5 : run 100000 ((codes "version 0\nversion 3\nversion 18446744073709551616\nversion\nignoring nowhere: A\nlineage places\nversion 2\nversion 2\nignoring nowhere: A\nconsider nowhere:\ncommon nowhere\nlineage nowhere\nignoring main A\nversion 1\n")) ≡ ((codes "refused version 9\nrefused version 9\nrefused syntax token 9\nrefused syntax token 8\nrefused version 1\nrefused version 1\nok 0/0\nok 0/0\nrefused table 10\nrefused table 10\nrefused table 8\nrefused syntax token 9\nrefused syntax token 15\nrefused version 9\n"))
unfolding digits
case_5 = refl

-- version 1 in another session
pub case_6 : run 100000 ((codes "version 1\ndepth 64\ndepth 65\nversion 2\ndepth 65\ndepth 256\ndepth 257\n")) ≡ ((codes "ok 0/0\nok 0/0\nrefused many 7\nok 0/0\nok 0/0\nok 0/0\nrefused many 7\n"))
unfolding digits
case_6 = refl

-- a table's last rule
pub case_7 : run 100000 ((codes "version 2\nproduction w r: A => A\nignoring w: B\ndrop r\ncommon w\ndrop r\n")) ≡ ((codes "ok 0/0\nok 0/0\nok 0/0\nrefused table 6\nok 0/0\nok 0/0\n"))
unfolding digits
case_7 = refl

-- shown in version 2
pub case_8 : run 100000 ((codes "version 2\nproduction w r: A => A\nconsider w:\nignoring main: BB+\nshow\nlineage names\nshow\n")) ≡ ((codes "ok 0/0\nok 0/0\nok 0/0\nok 0/0\nversion 2\nlattice square\nseed 0\naxiom\nignore\nproduction w r: A => A\nignoring main: B+\nconsider w:\nschedule main\ndepth 0\nok 0/0\nversion 2\nlineage names\nlattice square\nseed 0\naxiom\nignore\nproduction w r: A => A\nignoring main: B+\nconsider w:\nschedule main\ndepth 0\n"))
unfolding digits
case_8 = refl

-- an empty list to consider
pub case_9 : run 100000 ((codes "version 2\naxiom ABC\nproduction c: B < C => D\nconsider main:\ndepth 1\nstring\nconsider main: BC\nstring\nconsider main: C\nstring\nignoring main:\nstring\n")) ≡ ((codes "ok 0/0\nok 0/0\nok 0/0\nok 0/0\nok 1/1\nABC\nok 1/1\nABD\nok 1/1\nABC\nok 1/1\nABD\n"))
unfolding digits
case_9 = refl

-- lists as sets
pub case_10 : run 100000 ((codes "version 2\naxiom ABC\nproduction c: B < C => D\nproduction a: A => A\nconsider main: BC\ndepth 1\nconsider main: CB\nignoring main: BC\n")) ≡ ((codes "ok 0/0\nok 0/0\nok 0/0\nok 0/0\nok 0/0\nok 2/2\nok 0/2\nok 1/2\n"))
unfolding digits
case_10 = refl

-- a like symbol in front
pub case_11 : run 100000 ((codes "version 2\nlineage names\naxiom AB\nproduction a: A => A\nproduction b: B => B\ndepth 1\naxiom AAB\naxiom BAAB\n")) ≡ ((codes "ok 0/0\nok 0/0\nok 0/0\nok 0/0\nok 0/0\nok 2/2\nok 1/3\nok 1/4\n"))
unfolding digits
case_11 = refl

-- letters that change places
pub case_12 : run 100000 ((codes "version 2\nlineage names\naxiom AB\nproduction a: A => AC\nproduction b: B => B\ndepth 2\naxiom BA\nstring\n")) ≡ ((codes "ok 0/0\nok 0/0\nok 0/0\nok 0/0\nok 0/0\nok 4/4\nok 0/4\nBACC\n"))
unfolding digits
case_12 = refl

-- letters that change places, by places
pub case_13 : run 100000 ((codes "version 2\naxiom AB\nproduction a: A => AC\nproduction b: B => B\ndepth 2\naxiom BA\n")) ≡ ((codes "ok 0/0\nok 0/0\nok 0/0\nok 0/0\nok 4/4\nok 4/4\n"))
unfolding digits
case_13 = refl
