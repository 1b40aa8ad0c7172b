-- Examples of the definitions of a desk, which the checker computes.
use Rattle.std.specs.Prelude.{◌≡◌, ℕ, List, [], ◌∷◌, ◌++◌, ◌==◌, codes, map, replicate, None, Some, refl}
use Rattle.std.specs.Fmt.{digits}
use Rattle.lsys_spec.specs.Output.{none, output_text}
use Rattle.lsys_history.specs.Timelines.{timeline, after_edit}
use Rattle.lsys_history.specs.Desks.{desk_line, desk_out, undo, redo, growth, bounds, at}
use Rattle.lsys_history.specs.Costs.{desk_cost}

abbrev run : List ℕ → List ℕ
run script = output_text (desk_out 100000 script none)

-- blanks and a CR are no tokens, and a desk line has one; a longer one is refused by the session
pub desk_lines :
    map desk_line (codes "undo" ∷ (codes " \tredo " ++ 13 ∷ []) ∷ codes "undo x" ∷ codes "undo;" ∷ codes "Undo" ∷ codes "undoredo" ∷ codes ";undo" ∷ [] ∷ [])
    ≡ Some undo ∷ Some redo ∷ None ∷ None ∷ None ∷ None ∷ None ∷ None ∷ []
desk_lines = refl

-- a number of more than 64 bits is none that a desk line has
pub growth_lines :
    map desk_line (codes "growth 5" ∷ codes "\tgrowth  007 " ∷ codes "growth" ∷ codes "growth 5 6" ∷ codes "growth A" ∷ codes "growth 18446744073709551616" ∷ codes "undo 1" ∷ [])
    ≡ Some (growth 5) ∷ Some (growth 7) ∷ None ∷ None ∷ None ∷ None ∷ None ∷ []
growth_lines = refl

-- a number's column is that of its first digit
pub picture_lines :
    map desk_line (codes "bounds" ∷ codes "at 2" ∷ codes "\tat  007 " ∷ codes "bounds 1" ∷ codes "at" ∷ codes "at A" ∷ codes "at 1 2" ∷ [])
    ≡ Some bounds ∷ Some (at 2 4) ∷ Some (at 7 6) ∷ None ∷ None ∷ None ∷ None ∷ []
picture_lines = refl

-- at the opening nothing is kept
pub nothing_to_undo :
    run (codes "undo\nredo\nundo x\nundo undo\n") ≡ codes "refused undo\nrefused redo\nrefused syntax token 1\nrefused syntax token 1\n"
unfolding digits
nothing_to_undo = refl

-- an undo asks what the edit back would, and a redo what the edit did
pub algae_and_back :
    run (codes "axiom A\nproduction a: A => AB\nproduction b: B => A\ndepth 5\nproduction b: B => B\nstring\nundo\nstring\nredo\nstring\nredo\n")
    ≡ codes "ok 0/0\nok 0/0\nok 0/0\nok 19/19\nok 10/15\nABBBBB\nok 14/19\nABAABABAABAAB\nok 10/15\nABBBBB\nrefused redo\n"
unfolding digits
algae_and_back = refl

-- queries, refusals and lines without a reply are no steps, and an edit forgets what was undone
pub what_is_a_step :
    run (codes "axiom A\naxiom AB\nstring\nproduction\n; none\n\nundo\nstring\naxiom B\nredo\nundo\nundo\nundo\nstring\n")
    ≡ codes "ok 0/0\nok 0/0\nAB\nrefused syntax token 11\nok 0/0\nA\nok 0/0\nrefused redo\nok 0/0\nok 0/0\nrefused undo\n\n"
unfolding digits
what_is_a_step = refl

-- growth goes on past the depth, isn't a step, and is refused where a rule has a formal
pub letters_of_levels :
    run (codes "axiom A\nproduction a: A => AB\nproduction b: B => A\ngrowth 5\nundo\ngrowth 2\nredo\nproduction c: C(x) => C(x)\ngrowth 0\n")
    ≡ codes "ok 0/0\nok 0/0\nok 0/0\ngrowth 13\nA 8\nB 5\nok 0/0\ngrowth 3\nA 1\nB 2\nok 0/0\nok 0/0\nrefused growth\n"
unfolding digits
letters_of_levels = refl

-- a move without a segment isn't in the bounds, and a place past the last symbol is refused by its column
pub pictures_told :
    run (codes "axiom F+fFF\nbounds\nat 2\nat 0\nat 5\nat  6\n")
    ≡ codes "ok 0/0\nbounds -3 0 0 1 0 0\nat 0 1 0 -1 0 0 1\nat 0 0 0 0 1 0 1\nat -3 1 0 -1 0 0 1\nrefused place 5\n"
unfolding digits
pictures_told = refl

-- the last 32 are kept, and an edit forgets what was undone
pub full_timelines :
    map (λ past. after_edit {X = ℕ} (timeline past (9 ∷ [])) 2) ((1 ∷ replicate 31 0) ∷ replicate 31 0 ∷ [])
    ≡ timeline (replicate 31 0 ++ 2 ∷ []) [] ∷ timeline (replicate 31 0 ++ 2 ∷ []) [] ∷ []
full_timelines = refl

-- a refused edit is no step
pub refused_edits : run (codes "axiom A\ndrop q\nundo\nundo\n") ≡ codes "ok 0/0\nrefused label 6\nok 0/0\nrefused undo\n"
unfolding digits
refused_edits = refl

-- nor is what asks of a picture
pub asked_pictures : run (codes "axiom A\nbounds\nat 0\nundo\nundo\n") ≡ codes "ok 0/0\nbounds 0 0 0 0 0 0\nat 0 0 0 0 1 0 1\nok 0/0\nrefused undo\n"
unfolding digits
asked_pictures = refl

-- a line that is refused as out of memory forgets no step
pub steps_without_memory :
    output_text (desk_out 100000 (codes "axiom A\nstring\nundo\nundo\n") (λ n. n == 2)) ≡ codes "ok 0/0\nrefused memory\nok 0/0\nrefused undo\n"
unfolding digits
steps_without_memory = refl

-- 65,537 bytes
pub long_undo : run (replicate 65533 32 ++ codes "undo\n") ≡ codes "refused syntax long\n"
long_undo = refl

-- an undo and a redo cost what their edits do, and after `quit` nothing counts
pub costs_of_steps :
    desk_cost (λ old new xs ys. 1) 100 (codes "axiom AB\nproduction a: A > B => B\ndepth 1\nundo\nredo\nstring\nundo\nquit\nredo\n") (λ n. n == 6)
    ≡ record { need = 2; least = 2; most = 6; refusals = 1 }
unfolding digits
costs_of_steps = refl

-- each thing that no rule may have, of whatever table; the homomorphism may
pub growth_class :
    run (codes "axiom A\nproduction p: B < A => A\ngrowth 0\nproduction p: A > B => A\ngrowth 0\nproduction p: A @ 1 => A\ngrowth 0\nproduction p: A : 1 => A\ngrowth 0\ndrop p\nproduction c: C(x) => C\ngrowth 0\nproduction c: C => C(1)\ngrowth 0\ndrop c\nproduction w c: B : 1 => A\ngrowth 0\ndrop c\nhom h: A : 0 => B(1)\ngrowth 1\n")
    ≡ codes "ok 0/0\nok 0/0\nrefused growth\nok 0/0\nrefused growth\nok 0/0\nrefused growth\nok 0/0\nrefused growth\nok 0/0\nok 0/0\nrefused growth\nok 0/0\nrefused growth\nok 0/0\nok 0/0\nrefused growth\nok 0/0\nok 0/0\ngrowth 1\nA 1\n"
unfolding digits
growth_class = refl

-- 63 letters and 64, that of a predecessor among them; the class goes before the letters, and those of the homomorphism are none
pub growth_letters :
    run (codes "axiom B\nproduction p: A => ABCDEFGHIJKLMNOPQRSTUVWXYZabcdefghijklmnopqrstuvwxyz+-&^\\/|!A_a A_b A_c\ngrowth 0\nproduction q: A_d => B\ngrowth 0\nproduction q: A_d : 1 => B\ngrowth 0\ndrop q\nhom h: A_e => B\ngrowth 0\n")
    ≡ codes "ok 0/0\nok 0/0\ngrowth 1\nB 1\nok 0/0\nrefused letters\nok 0/0\nrefused growth\nok 0/0\nok 0/0\ngrowth 1\nB 1\n"
unfolding digits
growth_letters = refl

-- the origin and where a segment begins count; a refused picture goes before a place, also one past the image; the image counts;
-- there are three measures
pub more_pictures :
    run (codes "axiom f(5)F(-1)\nbounds\naxiom FF(1000000000)\nat 1\nat 1000001\naxiom A\nhom h: A => FF\nbounds\nat 2\nlattice cubic\naxiom F&F^^F\nbounds\nproduction a: A => ff\naxiom A\nhom h: A => F\ndepth 1\nbounds\nat 1\n")
    ≡ codes "ok 0/0\nbounds 0 0 0 5 0 0\nok 0/0\nrefused far 2\nrefused far 2\nok 0/0\nok 0/0\nbounds 0 0 0 2 0 0\nat 0 2 0 0 1 0 1\nok 0/0\nok 0/0\nbounds 0 0 0 1 -1 0\nok 0/0\nok 0/0\nok 0/0\nok 1/1\nbounds 0 0 0 0 0 0\nat 0 1 0 0 1 0 1\n"
unfolding digits
more_pictures = refl
