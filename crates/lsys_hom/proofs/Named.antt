-- What is still to come of an image does not depend on the lineages.
use Rattle.std.proofs.Common.{◌≡◌, ℕ, ◌+◌, Result, Ok, Err, List, [], ◌∷◌, ◌++◌, length, refl, ap}
use Rattle.lsys_syntax.specs.Strings as S
use Rattle.lsys_spec.specs.Systems.{Homomorphism}
use Rattle.lsys_spec.specs.Images.{ImageRefusal}
use Rattle.lsys_level.specs.Spots.{Seen, Push, Pop, Module, Spotted, level_by, with_lineage}
use Rattle.lsys_hom.specs.Coming.{Coming, coming_from, modules_after, symbol_image, coming_with}
use Rattle.std.proofs.Common.{ℤ}

told_same : (r : Result (List (S.Symbol ℤ)) ImageRefusal) (f g : ℕ → Coming) → ((j : ℕ) → f j ≡ g j) → coming_with r f ≡ coming_with r g
told_same (Ok ys) f g h = ap (λ c. record { symbols = ys ++ c.symbols; refusal = c.refusal }) (h (length ys))
told_same (Err r) f g h = refl

abbrev seen_image : List Homomorphism → ℕ → ℕ → List ℕ → Seen → (ℕ → ℕ → Coming) → Coming
seen_image hs n k l v more = coming_with (symbol_image hs n k (with_lineage l v)) (λ j. more (modules_after n (with_lineage l v)) (k + j))

seen_same : (hs : List Homomorphism) (n k : ℕ) (l m : List ℕ) (v : Seen) (f g : ℕ → ℕ → Coming) → ((i j : ℕ) → f i j ≡ g i j)
    → seen_image hs n k l v f ≡ seen_image hs n k m v g
seen_same hs n k l m Push f g h = told_same (symbol_image hs n k (with_lineage l Push)) (λ j. f n (k + j)) (λ j. g n (k + j)) (λ j. h n (k + j))
seen_same hs n k l m Pop f g h = told_same (symbol_image hs n k (with_lineage l Pop)) (λ j. f n (k + j)) (λ j. g n (k + j)) (λ j. h n (k + j))
seen_same hs n k l m (Module v) f g h =
    told_same (symbol_image hs n k (with_lineage l (Module v))) (λ j. f (n + 1) (k + j)) (λ j. g (n + 1) (k + j)) (λ j. h (n + 1) (k + j))

-- two namings of the tags
pub coming_named : (hs : List Homomorphism) (n k : ℕ) (f g : ℕ → List ℕ) (x : List Spotted) → coming_from hs n k (level_by f x) ≡ coming_from hs n k (level_by g x)
coming_named hs n k f g [] = refl
coming_named hs n k f g (s ∷ x) =
    seen_same hs n k (f s.tag) (g s.tag) s.seen (λ i j. coming_from hs i j (level_by f x)) (λ i j. coming_from hs i j (level_by g x)) (λ i j. coming_named hs i j f g x)
