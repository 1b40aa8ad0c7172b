-- Examples of the definitions of lsys_spec, which the checker computes: levels, limits and draws.
use Rattle.std.specs.Prelude.{◌≡◌, ℕ, List, codes, refl}
use Rattle.std.specs.Fmt.{digits}
use Rattle.lsys_spec.specs.Replies.{reply}
use Rattle.lsys_spec.specs.Output.{run_with}

abbrev run : List ℕ → List ℕ
run = run_with (reply 100000)

-- the last level by its number; a table loses a rule that is not its last one
pub last_level :
    run (codes "axiom A\nproduction a: A => AB\ndepth 2\nstring 2\nstring 3\nproduction winter v: A => C\nproduction winter w: B => C\nschedule winter\ndrop v\ndrop w\n")
    ≡ codes "ok 0/0\nok 0/0\nok 2/2\nABB\nrefused level 8\nok 0/2\nok 0/2\nok 1/1\nok 0/0\nrefused table 6\n"
unfolding digits
last_level = refl

-- brackets count in the limit
pub limit_with_brackets :
    run_with (reply 9) (codes "axiom A[]\nproduction a: A => A[]\ndepth 1\ndepth 2\n")
    ≡ codes "ok 0/0\nok 0/0\nok 1/1\nrefused limit level 2\n"
unfolding digits
limit_with_brackets = refl

-- seeds past 32 bits
pub great_seeds :
    run (codes "production p: A @ 1 => B\nproduction q: A @ 1 => C\naxiom AAAAAAAA\nseed 1311768467463790320\ndepth 1\nstring\nseed 18446744073709551615\nstring\nseed 0\nstring\n")
    ≡ codes "ok 0/0\nok 0/0\nok 0/0\nok 0/0\nok 8/8\nBBCCCBCC\nok 8/8\nCBBCCCCC\nok 8/8\nBBCCCCCB\n"
unfolding digits
great_seeds = refl

-- each level asks the rules of its own table
pub tables_in_turn :
    run (codes "axiom AB\nproduction a: A => AA\nproduction winter v: B => BB\nschedule main winter main\ndepth 1\ndepth 2\ndepth 3\nproduction winter w: A => A\nschedule winter main\nstring\n")
    ≡ codes "ok 0/0\nok 0/0\nok 0/0\nok 0/0\nok 1/1\nok 1/2\nok 2/4\nok 2/6\nok 7/7\nAABBBB\n"
unfolding digits
tables_in_turn = refl

-- a fault is told by its module, brackets before it not counted
pub modules_after_branches :
    run (codes "axiom [B][]A(0)\nproduction p: A(x) => A(1/x)\ndepth 1\n")
    ≡ codes "ok 0/0\nok 0/0\nrefused fault divide-by-zero level 0 module 2\n"
unfolding digits
modules_after_branches = refl
