-- The homomorphism, applied once to the last level (HD0L systems).
use Rattle.std.specs.Prelude.{ℕ, ℤ, Bool, Result, Ok, Err, List, [], ◌∷◌, ◌++◌, ◌+◌, ◌==◌, ◌&&◌, length, nat_lt, if◌then◌else◌}
use Rattle.lsys_syntax.specs.Limits.{most_image_symbols}
use Rattle.lsys_syntax.specs.Strings.{ModuleName}
use Rattle.lsys_syntax.specs.Strings as S
use Rattle.lsys_spec.specs.Systems.{System, Homomorphism, same_name}
use Rattle.lsys_spec.specs.Values.{Arith, judged, ◌and_then◌}
use Rattle.lsys_spec.specs.Bodies.{body_of}
use Rattle.lsys_spec.specs.Levels.{ModuleValue, LevelSymbol, Push, Pop, Module}
use Rattle.lsys_spec.specs.Meaning.{filled}

pub data ImageRefusal : Type 0 where
  ImageFault : Arith → ℕ → ImageRefusal  -- at this module of the last level, counted from 1
  ImageLimit : ImageRefusal  -- a symbol more than an image may have

abbrev pub for_module : ModuleValue → Homomorphism → Bool
for_module m h = same_name h.rule.name m.name && (length h.rule.formals == length m.params)

-- the successor of the first rule of its letter and number of parameters whose condition holds; without one, the module
abbrev pub image_of : List Homomorphism → ModuleValue → Result (List (S.Symbol ℤ)) Arith
image_of [] m = Ok (S.Module m.name m.params ∷ [])
image_of (h ∷ hs) m =
    if for_module m h then (let b = body_of h.rule in judged b.condition m.params and_then λ holds. if holds then filled b.successor m.params else image_of hs m)
    else image_of hs m

abbrev pub image_fault : {A : Type 0} → ℕ → Result A Arith → Result A ImageRefusal
image_fault n (Ok a) = Ok a
image_fault n (Err e) = Err (ImageFault e n)

-- k symbols stand before these
abbrev pub within_image : ℕ → List (S.Symbol ℤ) → Result (List (S.Symbol ℤ)) ImageRefusal
within_image k ys = if nat_lt most_image_symbols (k + length ys) then Err ImageLimit else Ok ys

-- from left to right: n modules of the level and k symbols of the image stand before
abbrev pub image_from : List Homomorphism → ℕ → ℕ → List LevelSymbol → Result (List (S.Symbol ℤ)) ImageRefusal
image_from hs n k [] = Ok []
image_from hs n k (Push l ∷ rest) = within_image k (S.Push ∷ []) and_then λ ys. image_from hs n (k + 1) rest and_then λ more. Ok (ys ++ more)
image_from hs n k (Pop l ∷ rest) = within_image k (S.Pop ∷ []) and_then λ ys. image_from hs n (k + 1) rest and_then λ more. Ok (ys ++ more)
image_from hs n k (Module l m ∷ rest) =
    image_fault (n + 1) (image_of hs m) and_then λ zs. within_image k zs and_then λ ys. image_from hs (n + 1) (k + length ys) rest and_then λ more. Ok (ys ++ more)

abbrev pub image : System → List LevelSymbol → Result (List (S.Symbol ℤ)) ImageRefusal
image s x = image_from s.homomorphisms 0 0 x
