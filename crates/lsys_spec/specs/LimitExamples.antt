-- The limits, each at its edge: examples that the checker computes.
use Rattle.std.specs.Prelude.{◌≡◌, ℕ, pos, Some, None, Ok, Err, List, [], ◌∷◌, ◌++◌, map, flat_map, replicate, length, codes, refl}
use Rattle.std.specs.Fmt.{digits}
use Rattle.lsys_syntax.specs.Tokens.{short}
use Rattle.lsys_syntax.specs.Strings.{named}
use Rattle.lsys_syntax.specs.Strings as S
use Rattle.lsys_syntax.specs.Rules.{Rule}
use Rattle.lsys_syntax.specs.Commands.{put_production, put_homomorphism}
use Rattle.lsys_spec.specs.Systems.{System, opening}
use Rattle.lsys_spec.specs.Edits.{refusal, many}
use Rattle.lsys_spec.specs.Values.{DivideByZero}
use Rattle.lsys_spec.specs.Levels.{Push, Module}
use Rattle.lsys_spec.specs.Images.{ImageFault, ImageLimit, image_from}
use Rattle.lsys_spec.specs.Meaning.{first_level}
use Rattle.lsys_spec.specs.Questions.{questions_at}
use Rattle.lsys_spec.specs.Replies.{reply}
use Rattle.lsys_spec.specs.Output.{run_with, out, none, last_system}

abbrev run : List ℕ → List ℕ
run = run_with (reply 100000)

-- a text n times
abbrev repeated : ℕ → List ℕ → List ℕ
repeated n text = flat_map {X = ℕ} (λ k. text) (replicate n 0)

-- the 257th token of an expression
pub expression_tokens :
    run
    (codes "production p: A : " ++ (repeated 127 (codes "1+") ++ (codes "1 => B\nproduction p: A : " ++ (repeated 128 (codes "1+")
    ++ codes "1 => B\n"))))
    ≡ codes "ok 0/0\nrefused many 275\n"
unfolding digits
expression_tokens = refl

-- the 2,049th token of a rule, of which the first stands after the label's colon
pub rule_tokens :
    run
    (codes "production p: A => " ++ (repeated 113 (codes "A(1,1,1,1,1,1,1,1)") ++ (codes "A(1,1,1,1)AA\nproduction p: A => "
    ++ (repeated 113 (codes "A(1,1,1,1,1,1,1,1)") ++ codes "A(1,1,1,1)AAA\n"))))
    ≡ codes "ok 0/0\nrefused many 2066\n"
unfolding digits
rule_tokens = refl

pub axiom_symbols :
    run (codes "axiom " ++ (replicate 4096 65 ++ (codes "\naxiom " ++ (replicate 4097 65 ++ codes "\n")))) ≡ codes "ok 0/0\nrefused many 4103\n"
unfolding digits
axiom_symbols = refl

-- brackets count
pub successor_symbols :
    run (codes "production p: A => " ++ (replicate 128 65 ++ (codes "\nproduction p: A => " ++ (replicate 127 65 ++ codes "[]\n"))))
    ≡ codes "ok 0/0\nrefused many 148\n"
unfolding digits
successor_symbols = refl

pub right_symbols :
    run (codes "production p: A > [BBBBBBBBBBBBBB] => C\nproduction p: A > [BBBBBBBBBBBBBBB] => C\n") ≡ codes "ok 0/0\nrefused many 35\n"
unfolding digits
right_symbols = refl

-- words of 16 bytes and names of 8
pub words : run (codes "drop abcdefghijklmnop\ndrop abcdefghijklmnopq\n") ≡ codes "refused label 6\nrefused syntax token 6\n"
unfolding digits
words = refl

pub names : run (codes "axiom A_123456(1)B_1\nstring\naxiom A_1234567(1)\naxiom A_\n") ≡ codes "ok 0/0\nA_123456(1)B_1\nrefused syntax token 15\nrefused syntax byte 8\n"
unfolding digits
names = refl

-- 16 tables, main among them
pub tables :
    run
    (codes "production b b: A => B\nproduction c c: A => B\nproduction d d: A => B\nproduction e e: A => B\nproduction f f: A => B\nproduction g g: A => B\nproduction h h: A => B\nproduction i i: A => B\nproduction j j: A => B\nproduction k k: A => B\nproduction l l: A => B\nproduction m m: A => B\nproduction n n: A => B\nproduction o o: A => B\nproduction p p: A => B\nproduction q q: A => B\nproduction p q: A => B\n")
    ≡ repeated 15 (codes "ok 0/0\n") ++ codes "refused many 12\nok 0/0\n"
unfolding digits
tables = refl

abbrev plain_rule : Rule
plain_rule =
    record { left = []; name = named (short 65); formals = []; right = []; condition = None; weight = None; successor = [] }

-- so many productions and homomorphism rules
abbrev holding : ℕ → ℕ → System
holding rules homomorphisms =
    record opening {
      rules = replicate rules (record { table = codes "main"; label = codes "p"; rule = plain_rule });
      homomorphisms = replicate homomorphisms (record { label = codes "h"; rule = plain_rule });
    }

-- 256 rules of both kinds; one that stands may be put anew
pub rules :
    map (λ n. refusal (holding 200 n) (put_production None (codes "q") plain_rule)) (55 ∷ 56 ∷ []) ≡ None ∷ Some (record { why = many; place = 1 }) ∷ []
rules = refl

pub homomorphism_rules :
    map (λ n. refusal (holding n 56) (put_homomorphism (codes "q") plain_rule)) (199 ∷ 200 ∷ []) ≡ None ∷ Some (record { why = many; place = 1 }) ∷ []
homomorphism_rules = refl

pub standing_rule : refusal (holding 200 56) (put_production None (codes "p") plain_rule) ≡ None
standing_rule = refl

-- the 1,025th entry
pub trace_entries :
    run
    (codes "axiom A" ++ (replicate 1023 66 ++ (codes "C\nignore B\nproduction p: A > C => X\ndepth 1\naxiom A" ++ (replicate 1024 66
    ++ codes "C\n"))))
    ≡ codes "ok 0/0\nok 0/0\nok 0/0\nok 1/1\nrefused fault too-far level 0 module 1\n"
unfolding digits
trace_entries = refl

-- the entries of all rules that are tried
pub entries_of_three_rules :
    run
    (codes "axiom A" ++ (replicate 340 66 ++ (codes "C\nignore B\nproduction p: A > D => X\nproduction q: A > E => Y\nproduction r: A > C => Z\ndepth 1\naxiom A"
    ++ (replicate 341 66 ++ codes "C\n"))))
    ≡ codes "ok 0/0\nok 0/0\nok 0/0\nok 0/0\nok 0/0\nok 1/1\nrefused fault too-far level 0 module 1\n"
unfolding digits
entries_of_three_rules = refl

-- a question keeps the first 1,025 entries, though more were read
abbrev far_system : System
far_system =
    last_system (out (reply 100000)
    (codes "axiom A" ++ (replicate 1030 66 ++ codes "C\nignore B\nproduction p: A > C => X\n")) none)

pub kept_entries : map (λ q. length q.trace) (questions_at far_system 0 (first_level far_system)) ≡ 1025 ∷ []
kept_entries = refl

-- the millionth symbol of an image and the next, a bracket or not
pub image_symbols :
    map (λ k. image_from [] 0 k (Push [] ∷ [])) (999999 ∷ 1000000 ∷ []) ≡ Ok (S.Push ∷ []) ∷ Err ImageLimit ∷ []
image_symbols = refl

-- at one module a fault goes before the limit
pub fault_before_image_limit :
    image_from (last_system (out (reply 100000) (codes "hom h: A(x) => F(1/x)FF") none)).homomorphisms 6 999999
    (Module [] (record { name = named (short 65); params = pos 0 ∷ [] }) ∷ [])
    ≡ Err (ImageFault DivideByZero 7)
fault_before_image_limit = refl

pub image_limit_of_three :
    image_from (last_system (out (reply 100000) (codes "hom h: A(x) => F(1/x)FF") none)).homomorphisms 6 999998
    (Module [] (record { name = named (short 65); params = pos 1 ∷ [] }) ∷ [])
    ≡ Err ImageLimit
image_limit_of_three = refl
