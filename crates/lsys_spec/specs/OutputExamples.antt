-- Lines, sessions, values and the sample: examples that the checker computes.
use Rattle.std.specs.Prelude.{◌≡◌, ℕ, pos, negsuc, true, false, ◌||◌, ◌==◌, ◌-◌, ◌^◌, Ok, Err, List, [], ◌∷◌, ◌++◌, length, map, flat_map, replicate, codes, refl}
use Rattle.std.specs.Fmt.{digits}
use Rattle.lsys_syntax.specs.Limits.{usual_module_limit}
use Rattle.lsys_spec.specs.Values.{Overflow, NegativePower, power, applied, product_of, in_range}
use Rattle.lsys_syntax.specs.Expressions.{divide, remainder}
use Rattle.lsys_spec.specs.Lattices.{square, vector}
use Rattle.lsys_spec.specs.Pictures.{box, pen_width}
use Rattle.lsys_spec.specs.Replies.{reply}
use Rattle.lsys_spec.specs.Output.{out, output_text, none, any_refusal, any_memory, quits, whole_lines, run_with}
use Rattle.lsys_spec.specs.Costs.{line_cost, script_cost}
use Rattle.lsys_spec.specs.Samples.{sample}

abbrev run : List ℕ → List ℕ
run = run_with (reply usual_module_limit)

-- the prefix stands outside the power, powers group to the right, quotients are truncated, and what the left decides isn't computed further
pub values :
    run (codes "axiom A\nproduction p: A => A(-2^2,2^3^2,-7/2,-7%2,0&&1/0,1||1/0,!3,0^0)\ndepth 1\nstring\n")
    ≡ codes "ok 0/0\nok 0/0\nok 1/1\nA(-4,512,-3,-1,0,1,0,1)\n"
unfolding digits
values = refl

pub comparisons :
    run (codes "axiom A\nproduction p: A => A(1<2,2<=1,2>1,1>=2,-1==-1,1!=1,2&&3,0||0)\ndepth 1\nstring\n")
    ≡ codes "ok 0/0\nok 0/0\nok 1/1\nA(1,0,1,0,1,0,1,0)\n"
unfolding digits
comparisons = refl

-- the least number and the greatest are in, and their neighbours out
pub bounds : map in_range (negsuc (2 ^ 63 - 1) ∷ negsuc (2 ^ 63) ∷ pos (2 ^ 63 - 1) ∷ pos (2 ^ 63) ∷ []) ≡ true ∷ false ∷ true ∷ false ∷ []
bounds = refl

pub powers :
    map (λ n. power (negsuc 1) (pos n)) (63 ∷ 64 ∷ []) ≡ Ok (negsuc (2 ^ 63 - 1)) ∷ Err Overflow ∷ []
powers = refl

pub large_powers : map (λ x. power x (pos 1001)) (pos 0 ∷ pos 1 ∷ negsuc 0 ∷ pos 2 ∷ []) ≡ Ok (pos 0) ∷ Ok (pos 1) ∷ Ok (negsuc 0) ∷ Err Overflow ∷ []
large_powers = refl

pub negative_power : power (pos 1) (negsuc 0) ≡ Err NegativePower
negative_power = refl

pub least_by_minus_one : map (λ op. applied (product_of op) (negsuc (2 ^ 63 - 1)) (negsuc 0)) (divide ∷ remainder ∷ []) ≡ Err Overflow ∷ Err Overflow ∷ []
least_by_minus_one = refl

-- one CR before a line's end is dropped, the last line may lack its LF, and an empty script writes nothing
pub line_ends : run (codes "axiom A\r\nstring\r") ≡ codes "ok 0/0\nA\n"
unfolding digits
line_ends = refl

pub two_returns : run (codes "axiom A\r\r\n") ≡ codes "refused syntax byte 8\n"
unfolding digits
two_returns = refl

pub empty_script : run [] ≡ []
empty_script = refl

pub empty_string : run (codes "string\n") ≡ codes "\n"
empty_string = refl

-- a line of 65,536 bytes and one of a byte more, its CR counted
pub long_lines :
    run (59 ∷ (replicate 65535 97 ++ 10 ∷ (59 ∷ (replicate 65535 97 ++ codes "\r\nstring\n")))) ≡ codes "refused syntax long\n\n"
long_lines = refl

-- lack of memory changes nothing, and stands in for every reply but that to a long line and none
pub lack_of_memory :
    output_text (out (reply usual_module_limit) (codes "axiom A\naxiom B\n;\n \nstring\nquit\nx\n") (λ n. (n == 2) || ((n == 3) || (n == 4 || n == 6))))
    ≡ codes "ok 0/0\nrefused memory\nA\nrefused memory\nrefused syntax token 1\n"
unfolding digits
lack_of_memory = refl

pub no_lack_in_long_lines :
    output_text (out (reply usual_module_limit) (replicate 65537 97 ++ codes "\n;\n") (λ n. true)) ≡ codes "refused syntax long\n"
no_lack_in_long_lines = refl

pub kinds_of_runs :
    map (λ script. any_refusal (out (reply usual_module_limit) script none)) (codes "string\n" ∷ codes "string\nx\n" ∷ []) ≡ false ∷ true ∷ []
kinds_of_runs = refl

pub memory_is_refused : any_memory (out (reply usual_module_limit) (codes "string\n") (λ n. true)) ≡ true
memory_is_refused = refl

-- a `quit` is heeded unless it was refused
pub heeded : quits (reply usual_module_limit) (codes "string\nquit\n") none ≡ true
heeded = refl

pub unheeded : quits (reply usual_module_limit) (codes "string\nquit\n") (λ n. n == 2) ≡ false
unheeded = refl

pub whole : whole_lines (codes "axiom A\n\nstring") ≡ codes "axiom A\n\n"
whole = refl

-- a reply of the limit's level, for lengths that sum to 32
pub within_limit :
    run_with (reply 32) (codes "axiom A\nproduction a: A => AB\nproduction b: B => A\ndepth 5\n") ≡ codes "ok 0/0\nok 0/0\nok 0/0\nok 19/19\n"
unfolding digits
within_limit = refl

pub over_limit :
    run_with (reply 31) (codes "axiom A\nproduction a: A => AB\nproduction b: B => A\ndepth 5\nstring\n")
    ≡ codes "ok 0/0\nok 0/0\nok 0/0\nrefused limit level 5\nA\n"
unfolding digits
over_limit = refl

-- at one level a fault goes before the limit of the next
pub fault_before_limit :
    run_with (reply 3) (codes "axiom A(0)A(1)\nproduction p: A(x) => A(1/(x-1))AAAA\ndepth 1\n") ≡ codes "ok 0/0\nok 0/0\nrefused fault divide-by-zero level 0 module 2\n"
unfolding digits
fault_before_limit = refl

pub limit_of_axiom : run_with (reply 3) (codes "axiom ABCD\naxiom A[]\n") ≡ codes "refused limit level 0\nok 0/0\n"
unfolding digits
limit_of_axiom = refl

-- widths from 1 to 1,000
pub widths : map pen_width (negsuc 4 ∷ pos 0 ∷ pos 7 ∷ pos 1000 ∷ pos 1001 ∷ []) ≡ 1 ∷ 1 ∷ 7 ∷ 1000 ∷ 1000 ∷ []
widths = refl

-- a box around the origin and a segment, its second axis pointing down
pub box_of_one :
    box square (record { from = vector (pos 1) (pos 2) (pos 0); to = vector (pos 4) (pos 2) (pos 0); width = 1 } ∷ [])
    ≡ record { x = negsuc 9; y = negsuc 29; width = pos 60; height = pos 40 }
box_of_one = refl

abbrev pairs : ℕ → List ℕ
pairs n = flat_map {X = ℕ} (λ k. codes "[+F_a]F_a[-F_a]F_a") (replicate n 0)

-- 100 units, of which the first changes
pub first_sample :
    sample 0
    ≡ codes "axiom F_b" ++ (pairs 50 ++ (codes "\nignore +-\nproduction s: F_b < F_a => F_b\ndepth 20\naxiom F_b[+F_a]F_b[-F_a]F_a"
    ++ (pairs 49 ++ codes "\nproduction s: F_b < F_a => F_b\nseed 0\nquit\n")))
unfolding digits
first_sample = refl

-- 101 units, of which the 96th changes
pub another_sample :
    sample 701
    ≡ codes "axiom F_b" ++ (pairs 50 ++ (codes "[+F_a]F_a\nignore +-\nproduction s: F_b < F_a => F_b\ndepth 20\naxiom F_b"
    ++ (pairs 47 ++ (codes "[+F_a]F_a[-F_a]F_b" ++ (pairs 2 ++ codes "[+F_a]F_a\nproduction s: F_b < F_a => F_b\nseed 701\nquit\n")))))
unfolding digits
another_sample = refl

-- Of three accepted edits the third asks one question, which reads one entry, and here an edit visits as many entries as there are
-- levels; two edits are refused, one for its levels and one for lack of memory; after `quit` nothing counts.
pub costs :
    script_cost (reply 4) (line_cost (λ old new xs ys. length ys) 4)
    (codes "axiom BA\nproduction a: B<A => B\ndepth 1\nstring\ndepth 2\ndepth 0\n\nquit\ndepth 0\n") (λ n. n == 6)
    ≡ record { need = 1; least = 1; most = 4; refusals = 2 }
costs = refl
