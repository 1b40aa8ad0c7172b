-- The images of a level's parts, and the descendants of such a part.
use Rattle.std.specs.Prelude.{◌≡◌, ℕ, List, ◌++◌, ℤ, Ok, true, [], ◌∷◌}
use Rattle.lsys_syntax.specs.Strings as S
use Rattle.lsys_syntax.specs.Strings.{balanced}
use Rattle.lsys_spec.specs.Systems.{Homomorphism, System}
use Rattle.lsys_spec.specs.Levels.{LevelSymbol, level_balanced, ModuleValue, Module}
use Rattle.lsys_spec.specs.Images.{image_from, image}
use Rattle.lsys_spec.specs.LevelLaws.{HasBalance}
use Rattle.lsys_lattice.specs.Nodes.{modules_in}
use Rattle.lsys_lattice.specs.Images.{and_after, HasPartImage, HasBalancedImages, level_below, HasDescendants}

-- after the image of one part comes that of the next, as many modules and symbols further on, and
-- the first refusal is the whole's
abbrev pub ImagesStandSideBySide : Type 0
ImagesStandSideBySide =
    (hs : List Homomorphism) (n k : ℕ) (x y : List LevelSymbol)
    → image_from hs n k (x ++ y)
    ≡ and_after (image_from hs n k x) k (λ j. image_from hs (modules_in n x) j y)

-- of a whole image each part is the image of that part alone
abbrev pub PartsHaveTheirImages : Type 0
PartsHaveTheirImages =
    (s : System) (before part after : List LevelSymbol) (ys : List (S.Symbol ℤ))
    → image s (before ++ (part ++ after)) ≡ Ok ys → HasPartImage s before part after ys

-- balanced parts have balanced images
abbrev pub BalancedPartsHaveBalancedImages : Type 0
BalancedPartsHaveBalancedImages =
    (s : System) (x : List LevelSymbol) (ys : List (S.Symbol ℤ)) → HasBalancedImages s
    → level_balanced 0 x ≡ true → image s x ≡ Ok ys → balanced 0 ys ≡ true

-- the descendants of a balanced part stand side by side in each level below, and are balanced there
abbrev pub PartsHaveTheirDescendants : Type 0
PartsHaveTheirDescendants =
    (s : System) (t n : ℕ) (before part after y : List LevelSymbol) → HasBalance s
    → level_balanced 0 part ≡ true → level_below s t n (before ++ (part ++ after)) ≡ Ok y
    → HasDescendants s t n before part after y

-- so do those of a module, which is such a part
abbrev pub ModulesHaveTheirDescendants : Type 0
ModulesHaveTheirDescendants =
    (s : System) (t n : ℕ) (before after y : List LevelSymbol) (line : List ℕ) (m : ModuleValue)
    → HasBalance s
    → level_below s t n (before ++ (Module line m ∷ after)) ≡ Ok y
    → HasDescendants s t n before (Module line m ∷ []) after y
