-- What is still to come of an image: its symbols one by one, and the refusal after them, if one comes.
use Rattle.std.specs.Prelude.{◌≡◌, ℕ, ℤ, ◌+◌, ◌<◌, Option, Some, None, List, [], ◌∷◌, ◌++◌, Result, Ok, Err, length, take}
use Rattle.lsys_syntax.specs.Strings as S
use Rattle.lsys_spec.specs.Systems.{System, Homomorphism}
use Rattle.lsys_spec.specs.Values.{◌and_then◌}
use Rattle.lsys_spec.specs.Levels.{LevelSymbol, Push, Pop, Module}
use Rattle.lsys_spec.specs.Images.{ImageRefusal, image_of, image_fault, within_image, image}

pub record Coming : Type 0 where
  pub symbols : List (S.Symbol ℤ)
  pub refusal : Option ImageRefusal

-- Nothing is to come.
abbrev pub nothing_coming : Coming
nothing_coming = record { symbols = []; refusal = None }

-- the image of one symbol of the level, where n modules of the level and k symbols of the image stand before
abbrev pub symbol_image : List Homomorphism → ℕ → ℕ → LevelSymbol → Result (List (S.Symbol ℤ)) ImageRefusal
symbol_image hs n k (Push l) = within_image k (S.Push ∷ [])
symbol_image hs n k (Pop l) = within_image k (S.Pop ∷ [])
symbol_image hs n k (Module l m) = image_fault (n + 1) (image_of hs m) and_then within_image k

-- the number of modules up to a symbol, where n stand before it
abbrev pub modules_after : ℕ → LevelSymbol → ℕ
modules_after n (Module l m) = n + 1
modules_after n s = n

-- these symbols and what comes after so many, or a refusal
abbrev pub coming_with : Result (List (S.Symbol ℤ)) ImageRefusal → (ℕ → Coming) → Coming
coming_with (Ok ys) after = let c = after (length ys) in record { symbols = ys ++ c.symbols; refusal = c.refusal }
coming_with (Err r) after = record { symbols = []; refusal = Some r }

-- the images of the symbols, up to the first that refuses the whole image
abbrev pub coming_from : List Homomorphism → ℕ → ℕ → List LevelSymbol → Coming
coming_from hs n k [] = nothing_coming
coming_from hs n k (s ∷ rest) = coming_with (symbol_image hs n k s) (λ j. coming_from hs (modules_after n s) (k + j) rest)

-- all of a level's image
abbrev pub coming : System → List LevelSymbol → Coming
coming s x = coming_from s.homomorphisms 0 0 x

-- the image that comes to its end so
abbrev pub image_ended : List (S.Symbol ℤ) → Option ImageRefusal → Result (List (S.Symbol ℤ)) ImageRefusal
image_ended ys None = Ok ys
image_ended ys (Some r) = Err r

-- the symbols are the image of a front of the level, and with one symbol of the level more the image is refused
pub record IsImageOfFront (s : System) (x : List LevelSymbol) (ys : List (S.Symbol ℤ)) (r : ImageRefusal) : Type 0 where
  pub place : ℕ
  pub within : place < length x
  pub front : image s (take place x) ≡ Ok ys
  pub refused : image s (take (place + 1) x) ≡ Err r
