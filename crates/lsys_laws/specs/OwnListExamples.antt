-- Own lists, versions and keys by names: examples that the checker computes.
use Rattle.std.specs.Prelude.{◌≡◌, ℕ, List, ◌++◌, codes, replicate, refl}
use Rattle.std.specs.Fmt.{digits}
use Rattle.lsys_spec.specs.Replies.{reply}
use Rattle.lsys_spec.specs.Output.{run_with}

abbrev run : List ℕ → List ℕ
run = run_with (reply 100000)

-- an own list of names to ignore stands in place of the common names, and one of names to consider is its opposite
pub own_in_place_of_common :
    run (codes "version 2\naxiom AEB\nignore E\nproduction p: A > B => X\nproduction w q: A => A\nconsider w: E\ndepth 1\nstring\nignoring main: Z\nstring\nconsider main: ABZ\nstring\nignoring main: ABZ\nstring\n")
    ≡ codes "ok 0/0\nok 0/0\nok 0/0\nok 0/0\nok 0/0\nok 0/0\nok 1/1\nXEB\nok 1/1\nAEB\nok 1/1\nXEB\nok 1/1\nAEB\n"
unfolding digits
own_in_place_of_common = refl

-- a list that is put anew takes the old one's place; `common` drops one list, and may be said where there is none; of two
-- words the one with which the other begins stands first
pub lists_put_anew :
    run (codes "version 2\nproduction w r: A => A\nproduction wa s: B => B\nignoring main: A\nconsider wa: D\nconsider w: B\ncommon main\ncommon main\nignoring w: C\nversion 2\nlineage names\nlineage places\nshow\n")
    ≡ codes "ok 0/0\nok 0/0\nok 0/0\nok 0/0\nok 0/0\nok 0/0\nok 0/0\nok 0/0\nok 0/0\nok 0/0\nok 0/0\nok 0/0\nversion 2\nlattice square\nseed 0\naxiom\nignore\nproduction w r: A => A\nproduction wa s: B => B\nignoring w: C\nconsider wa: D\nschedule main\ndepth 0\n"
unfolding digits
lists_put_anew = refl

-- a version leaves depth and numbering; a table that isn't there goes before too many names
pub version_again :
    run (codes "version 2\nshow\ndepth 1\nversion 2\nstring 1\nlineage names\nversion 2\nshow\nignoring none: " ++ (replicate 65 65 ++ codes "\n"))
    ≡ codes "ok 0/0\nversion 2\nlattice square\nseed 0\naxiom\nignore\nschedule main\ndepth 0\nok 0/0\nok 0/0\n\nok 0/0\nok 0/0\nversion 2\nlineage names\nlattice square\nseed 0\naxiom\nignore\nschedule main\ndepth 1\nrefused table 10\n"
unfolding digits
version_again = refl

-- what is picked by keys by names, in the axiom and below it
pub picks_by_name :
    run (codes "version 2\nproduction p: A @ 1 => AB\nproduction q: A @ 1 => AC\naxiom AAAAAA\ndepth 2\nstring\nlineage names\nstring\nlineage places\nstring\n")
    ≡ codes "ok 0/0\nok 0/0\nok 0/0\nok 0/0\nok 12/12\nACBACBABCABCACCABC\nok 12/12\nACCABBACBABCABCABB\nok 12/12\nACBACBABCABCACCABC\n"
unfolding digits
picks_by_name = refl
