-- Examples of the definitions of lsys_spec, which the checker computes: definitions by themselves.
use Rattle.std.specs.Prelude.{◌≡◌, ℕ, Bool, true, Some, None, Ok, Err, List, [], ◌∷◌, map, codes, refl}
use Rattle.lsys_syntax.specs.Limits.{most_script_bytes, usual_module_limit, greatest_module_limit}
use Rattle.lsys_syntax.specs.Tokens.{short}
use Rattle.lsys_syntax.specs.Strings.{named}
use Rattle.lsys_syntax.specs.Strings as S
use Rattle.lsys_spec.specs.Systems.{same_name}
use Rattle.lsys_spec.specs.Levels.{LevelSymbol, ModuleValue, Push, Pop, Module, lineage, items_from}
use Rattle.lsys_spec.specs.Bodies.{Pattern, Done, OneOf, BranchOf}
use Rattle.lsys_spec.specs.Images.{ImageLimit, image_from}
use Rattle.lsys_spec.specs.Meaning.{first_level}
use Rattle.lsys_spec.specs.Refusals.{image_text}
use Rattle.lsys_spec.specs.Contexts.{path, left, right, around}
use Rattle.lsys_spec.specs.Standings.{is_disturbed}
use Rattle.lsys_spec.specs.Replies.{reply}
use Rattle.lsys_spec.specs.Output.{out, none, last_system}

-- most bytes of a script; module limits
pub limits_of_runs : most_script_bytes ∷ usual_module_limit ∷ greatest_module_limit ∷ [] ≡ 16777216 ∷ 100000 ∷ 1000000 ∷ []
limits_of_runs = refl

abbrev letter : ℕ → List ℕ → LevelSymbol
letter c l = Module l (record { name = named (short c); params = [] })

-- each symbol counts, brackets too, and what stands before
pub symbols_of_images :
    map (λ x. image_from [] 0 999999 x)
    ((Pop [] ∷ []) ∷ (Push [] ∷ letter 65 [] ∷ []) ∷ (Pop [] ∷ letter 65 [] ∷ []) ∷ (letter 65 [] ∷ letter 65 [] ∷ []) ∷ [])
    ≡ Ok (S.Pop ∷ []) ∷ Err ImageLimit ∷ Err ImageLimit ∷ Err ImageLimit ∷ []
symbols_of_images = refl

pub no_room_for_a_bracket : map (λ x. image_from [] 0 1000000 x) ((Push [] ∷ []) ∷ (Pop [] ∷ []) ∷ []) ≡ Err ImageLimit ∷ Err ImageLimit ∷ []
no_room_for_a_bracket = refl

pub text_of_image_limit : image_text ImageLimit ≡ codes "image"
text_of_image_limit = refl

abbrev first_after : List ℕ → List LevelSymbol
first_after script = first_level (last_system (out (reply 100000) script none))

-- what is cut off has its places too
pub lineages_after_cuts : map lineage (first_after (codes "axiom [A%[B]]C")) ≡ (0 ∷ []) ∷ (1 ∷ []) ∷ (6 ∷ []) ∷ (7 ∷ []) ∷ []
lineages_after_cuts = refl

-- a bracket whose mate is another one stands otherwise
pub mates_before :
    map (λ p. is_disturbed (Push (0 ∷ []) ∷ letter 65 (1 ∷ []) ∷ Pop (2 ∷ []) ∷ []) (Push (5 ∷ []) ∷ letter 65 (1 ∷ []) ∷ Pop (2 ∷ []) ∷ []) (p ∷ []))
    (0 ∷ 1 ∷ 2 ∷ [])
    ≡ true ∷ true ∷ true ∷ []
mates_before = refl

-- contexts by themselves
abbrev value_of : ℕ → ModuleValue
value_of c = record { name = named (short c); params = [] }

abbrev values : List ℕ → List ModuleValue
values cs = map value_of cs

abbrev is_e : S.ModuleName → Bool
is_e n = same_name n (named (short 69))

abbrev pattern : ℕ → Pattern
pattern c = record { name = named (short c); arity = 0 }

abbrev line : List LevelSymbol
line = first_after (codes "axiom AE[B[C]D]G[A][BF]EC")

pub paths : map (path is_e line) (0 ∷ 1 ∷ 3 ∷ 7 ∷ 9 ∷ []) ≡ [] ∷ values (codes "A") ∷ values (codes "A") ∷ values (codes "AB") ∷ values (codes "A") ∷ []
paths = refl

pub lefts :
    map (λ ps. left (map pattern ps) (values (codes "ABC"))) (codes "BC" ∷ codes "AC" ∷ codes "CB" ∷ [] ∷ codes "XABC" ∷ [])
    ≡ Some (values (codes "BC")) ∷ None ∷ None ∷ Some [] ∷ None ∷ []
lefts = refl

pub rights :
    map (λ ps. right is_e ps (items_from line 10))
    (Done ∷ OneOf (pattern 67) Done ∷ OneOf (pattern 66) Done ∷ BranchOf (OneOf (pattern 66) Done) Done
    ∷ BranchOf (OneOf (pattern 66) (OneOf (pattern 70) Done)) (OneOf (pattern 67) Done) ∷ BranchOf Done (BranchOf (OneOf (pattern 65) Done) Done)
    ∷ BranchOf (OneOf (pattern 66) Done) (BranchOf Done Done) ∷ [])
    ≡ Some [] ∷ Some (values (codes "C")) ∷ None ∷ Some (values (codes "B")) ∷ Some (values (codes "BFC")) ∷ None ∷ None ∷ []
rights = refl

pub around_own : around (Some (values (codes "A"))) (value_of 66) (Some (values (codes "C"))) ≡ Some (values (codes "ABC"))
around_own = refl

-- another number of parameters is another pattern
pub arities_of_contexts :
    map (λ n. left (record { name = named (short 65); arity = n } ∷ []) (values (codes "A"))) (0 ∷ 1 ∷ []) ≡ Some (values (codes "A")) ∷ None ∷ []
arities_of_contexts = refl

pub arities_ahead :
    map (λ n. right is_e (OneOf (record { name = named (short 67); arity = n }) Done) (items_from line 17)) (0 ∷ 1 ∷ []) ≡ Some (values (codes "C")) ∷ None ∷ []
arities_ahead = refl
