-- Examples of the definitions of lsys_spec, which the checker computes: which cause comes first, and what is not looked at.
use Rattle.std.specs.Prelude.{◌≡◌, ℕ, true, false, None, List, [], ◌∷◌, ◌++◌, map, replicate, codes, refl}
use Rattle.std.specs.Fmt.{digits}
use Rattle.lsys_syntax.specs.Commands.{square, to_ignore, by_name, set_axiom, put_production, drop_rule, set_ignored, set_schedule, set_seed, set_depth, set_lattice, put_homomorphism, print_string, print_segments, print_svg, print_system, quit, set_version, set_own, drop_own, set_numbering}
use Rattle.lsys_spec.specs.Replies.{reply, is_query}
use Rattle.lsys_spec.specs.Output.{run_with}
use Rattle.lsys_laws.specs.FullExamples.{plain_rule}

abbrev run : List ℕ → List ℕ
run = run_with (reply 100000)

-- of 1,024 ignored modules the trace is too long, whatever is after them: this comes before a fault of the condition, and
-- before it is known that the context isn't there
abbrev after_ignored : List ℕ → List ℕ
after_ignored rule = run (codes "axiom A" ++ (replicate 1024 66 ++ (codes "C\nignore B\nproduction p: " ++ (rule ++ codes "\ndepth 1\n"))))

pub trace_before_fault :
    map after_ignored (codes "A > C : 1/0 => X" ∷ codes "A > D => X" ∷ [])
    ≡ codes "ok 0/0\nok 0/0\nok 0/0\nrefused fault too-far level 0 module 1\n" ∷ codes "ok 0/0\nok 0/0\nok 0/0\nrefused fault too-far level 0 module 1\n" ∷ []
unfolding digits
trace_before_fault = refl

-- a rule that doesn't apply has no weight
pub weight_of_no_rule :
    run (codes "axiom A\nproduction p: A : 0 @ 1/0 => X\nproduction q: A @ 1 => Y\ndepth 1\nstring\n")
    ≡ codes "ok 0/0\nok 0/0\nok 0/0\nok 1/1\nY\n"
unfolding digits
weight_of_no_rule = refl

-- a list of ignored names stands in place of the one before
pub ignored_anew :
    run (codes "ignore A\nignore BB\nshow\n")
    ≡ codes "ok 0/0\nok 0/0\nlattice square\nseed 0\naxiom\nignore B\nschedule main\ndepth 0\n"
unfolding digits
ignored_anew = refl

-- which commands change nothing
pub queries :
    map is_query
    (set_axiom [] ∷ put_production None [] plain_rule ∷ drop_rule [] ∷ set_ignored [] ∷ set_schedule [] ∷ set_seed 0 ∷ set_depth 0
    ∷ set_lattice square ∷ put_homomorphism [] plain_rule ∷ set_version 2 ∷ set_own to_ignore [] [] ∷ drop_own [] ∷ set_numbering by_name
    ∷ print_string None ∷ print_segments ∷ print_svg ∷ print_system ∷ quit ∷ [])
    ≡ replicate 13 false ++ replicate 5 true
queries = refl
