-- What comes is the image.
use Rattle.std.proofs.Common.{◌≡◌, ℕ, zero, suc, ℤ, ◌+◌, ◌<◌, Bool, true, false, Option, Some, None, Result, Ok, Err, List, [], ◌∷◌, ◌++◌, length, take, refl, ap, sym, ◌∙◌, arith, nat_lt, if◌then◌else◌}
use Rattle.lsys_syntax.specs.Limits.{most_image_symbols}
use Rattle.lsys_syntax.specs.Strings as S
use Rattle.lsys_spec.specs.Systems.{Homomorphism}
use Rattle.lsys_spec.specs.Values.{Arith, ◌and_then◌}
use Rattle.lsys_spec.specs.Levels.{LevelSymbol, Push, Pop, Module}
use Rattle.lsys_spec.specs.Images.{ImageRefusal, ImageLimit, image_of, image_fault, image_from, within_image}
use Rattle.lsys_hom.specs.Coming.{Coming, coming_from, modules_after, symbol_image, coming_with, image_ended}

abbrev Image : Type 0
Image = Result (List (S.Symbol ℤ)) ImageRefusal

-- an image, and after it that of the rest, by the number of its symbols
abbrev pub followed : Image → (ℕ → Image) → Image
followed r more = r and_then λ ys. more (length ys) and_then λ zs. Ok (ys ++ zs)

one_followed : (b : Bool) (s : S.Symbol ℤ) (more : ℕ → Image)
    → ((if b then Err ImageLimit else Ok (s ∷ [])) and_then λ ys. more 1 and_then λ zs. Ok (ys ++ zs)) ≡ followed (if b then Err ImageLimit else Ok (s ∷ [])) more
one_followed true s more = refl
one_followed false s more = refl

module_followed : (n k : ℕ) (r : Result (List (S.Symbol ℤ)) Arith) (more : ℕ → Image)
    → (image_fault (n + 1) r and_then λ zs. within_image k zs and_then λ ys. more (length ys) and_then λ ws. Ok (ys ++ ws)) ≡ followed (image_fault (n + 1) r and_then within_image k) more
module_followed n k (Ok zs) more = refl
module_followed n k (Err e) more = refl

-- the image of a level by that of its first symbol
pub image_step : (hs : List Homomorphism) (n k : ℕ) (s : LevelSymbol) (rest : List LevelSymbol)
    → image_from hs n k (s ∷ rest) ≡ followed (symbol_image hs n k s) (λ j. image_from hs (modules_after n s) (k + j) rest)
image_step hs n k (Push l) rest = one_followed (nat_lt most_image_symbols (k + 1)) S.Push (λ j. image_from hs n (k + j) rest)
image_step hs n k (Pop l) rest = one_followed (nat_lt most_image_symbols (k + 1)) S.Pop (λ j. image_from hs n (k + j) rest)
image_step hs n k (Module l m) rest = module_followed n k (image_of hs m) (λ j. image_from hs (n + 1) (k + j) rest)

abbrev all_of : Coming → Image
all_of c = image_ended c.symbols c.refusal

whole_after : (ys zs : List (S.Symbol ℤ)) (o : Option ImageRefusal) → image_ended (ys ++ zs) o ≡ (image_ended zs o and_then λ ws. Ok (ys ++ ws))
whole_after ys zs None = refl
whole_after ys zs (Some r) = refl

whole_told : (r : Image) (f : ℕ → Coming) (more : ℕ → Image) → ((j : ℕ) → all_of (f j) ≡ more j) → all_of (coming_with r f) ≡ followed r more
whole_told (Ok ys) f more h = whole_after ys (f (length ys)).symbols (f (length ys)).refusal ∙ ap (λ w. w and_then λ ws. Ok (ys ++ ws)) (h (length ys))
whole_told (Err r) f more h = refl

pub whole_from : (hs : List Homomorphism) (n k : ℕ) (x : List LevelSymbol) → all_of (coming_from hs n k x) ≡ image_from hs n k x
whole_from hs n k [] = refl
whole_from hs n k (s ∷ rest) =
    whole_told (symbol_image hs n k s) (λ j. coming_from hs (modules_after n s) (k + j) rest) (λ j. image_from hs (modules_after n s) (k + j) rest)
    (λ j. whole_from hs (modules_after n s) (k + j) rest)
    ∙ sym (image_step hs n k s rest)

-- the longest front with an image
pub record Front (hs : List Homomorphism) (n k : ℕ) (x : List LevelSymbol) (ys : List (S.Symbol ℤ)) (r : ImageRefusal) : Type 0 where
  pub place : ℕ
  pub within : place < length x
  pub front : image_from hs n k (take place x) ≡ Ok ys
  pub refused : image_from hs n k (take (suc place) x) ≡ Err r

some_err : (q r : ImageRefusal) (more : ℕ → Image) → Some q ≡ Some r → followed (Err q) more ≡ Err r
some_err q r more h = cc

front_step : (hs : List Homomorphism) (n k : ℕ) (s : LevelSymbol) (rest : List LevelSymbol) (r : ImageRefusal) (one : Image) → symbol_image hs n k s ≡ one
    → ((i j : ℕ) → (coming_from hs i j rest).refusal ≡ Some r → Front hs i j rest (coming_from hs i j rest).symbols r)
    → (coming_with one (λ j. coming_from hs (modules_after n s) (k + j) rest)).refusal ≡ Some r
    → Front hs n k (s ∷ rest) (coming_with one (λ j. coming_from hs (modules_after n s) (k + j) rest)).symbols r
front_step hs n k s rest r (Err q) is ih e = record {
  place = zero;
  within = omega arith;
  front = refl;
  refused = image_step hs n k s [] ∙ ap (λ o. followed o (λ j. image_from hs (modules_after n s) (k + j) [])) is ∙ some_err q r (λ j. image_from hs (modules_after n s) (k + j) []) e;
}
front_step hs n k s rest r (Ok ys) is ih e = let i = modules_after n s in let f = ih i (k + length ys) e in record {
  place = suc f.place;
  within = omega (arith, f.within);
  front = image_step hs n k s (take f.place rest) ∙ ap (λ o. followed o (λ j. image_from hs i (k + j) (take f.place rest))) is ∙ ap (λ w. w and_then λ zs. Ok (ys ++ zs)) f.front;
  refused = image_step hs n k s (take (suc f.place) rest) ∙ ap (λ o. followed o (λ j. image_from hs i (k + j) (take (suc f.place) rest))) is ∙ ap (λ w. w and_then λ zs. Ok (ys ++ zs)) f.refused;
}

pub front_from : (hs : List Homomorphism) (n k : ℕ) (x : List LevelSymbol) (r : ImageRefusal) → (coming_from hs n k x).refusal ≡ Some r
    → Front hs n k x (coming_from hs n k x).symbols r
front_from hs n k [] r e = absurd (cc)
front_from hs n k (s ∷ rest) r e = front_step hs n k s rest r (symbol_image hs n k s) refl (λ i j. front_from hs i j rest r) e
