-- Eight places, of which the first ones are written one after another.
use Rattle.std.proofs.Common.{◌≡◌, ℕ, ℤ, pos, negsuc, List, [], ◌∷◌, ◌++◌, ◌+◌, ◌-◌, ◌<◌, ◌≤◌, length, take, drop, get_or, set, replicate, arith, ap, ◌∙◌, sym, refl, add-one}
use Rattle.std.proofs.Math.Seq.{drop-cons}
use Rattle.std.proofs.lemmas.Int.{ints}
use Rattle.std.proofs.lemmas.List.{take_at, take_all, take_more, length-append, length-replicate, length-take-le, drop-replicate}
use mir.Val.{SFits}
use mir.Syntax.{w64}
use Rattle.lsys_syntax.specs.Strings.{EachOf, IsParam}
use Rattle.lsys_module.specs.InsideParams.{IsPadded}

abbrev pub zeros : List ℤ
zeros = replicate 8 (pos 0)

-- the first values are written
pub record AreWritten (values kept : List ℤ) (i : ℕ) : Type 0 where
  pub front : kept ≡ take i values ++ drop i zeros
  pub small : EachOf IsParam (take i values)

is_param : (z : ℤ) → SFits w64 z → IsParam z
is_param (pos n) h = omega (arith, ints, h)
is_param (negsuc n) h = omega (arith, ints, h)

each-push : (xs : List ℤ) (x : ℤ) → EachOf IsParam xs → IsParam x → EachOf IsParam (xs ++ x ∷ [])
each-push [] x h k = (k, tt)
each-push (y ∷ ys) x h k = (h.0, each-push ys x h.1 k)

set_after : (xs : List ℤ) (y v : ℤ) (ys : List ℤ) → set (xs ++ y ∷ ys) (length xs) v ≡ (xs ++ v ∷ []) ++ ys
set_after [] y v ys = refl
set_after (x ∷ xs) y v ys = ap (λ zs. x ∷ zs) (set_after xs y v ys)

-- one more value
pub one_written : (values kept : List ℤ) (i : ℕ) → length values ≤ 8 → i < length values → SFits w64 (get_or values i (pos 0)) → AreWritten values kept i → AreWritten values (set kept i (get_or values i (pos 0))) (i + 1)
one_written values kept i few h fits is =
    let v = get_or values i (pos 0) in
    let more : take (i + 1) values ≡ take i values ++ v ∷ [] = take_more values i (pos 0) h in
    let long : length (take i values) ≡ i = length-take-le i values (omega arith) in
    let room : i < length zeros = omega (arith, few) in
    let rest : drop i zeros ≡ get_or zeros i (pos 0) ∷ drop (i + 1) zeros = drop-cons zeros i (pos 0) room ∙ ap (λ j. get_or zeros i (pos 0) ∷ drop j zeros) (sym (add-one i)) in
    record {
      front =
          ap (λ ks. set ks i v) (is.front ∙ ap (λ ys. take i values ++ ys) rest)
          ∙ ap (λ j. set (take i values ++ get_or zeros i (pos 0) ∷ drop (i + 1) zeros) j v) (sym long)
          ∙ set_after (take i values) (get_or zeros i (pos 0)) v (drop (i + 1) zeros)
          ∙ ap (λ xs. xs ++ drop (i + 1) zeros) (sym more);
      small = rw more (each-push (take i values) v is.small (is_param v fits));
    }

-- all the values, and zeros after them
pub all_written : (values kept : List ℤ) (i : ℕ) → length values ≤ 8 → length values ≡ i → AreWritten values kept i → IsPadded (record { values = kept; len = length values })
all_written values kept i few is h =
    let n = length values in
    let whole : take i values ≡ values = take_all i values (omega arith) in
    let tail : drop i zeros ≡ replicate (8 - n) (pos 0) = drop-replicate i 8 (pos 0) ∙ ap (λ j. replicate (8 - j) (pos 0)) (sym is) in
    let same : kept ≡ values ++ replicate (8 - n) (pos 0) = h.front ∙ ap (λ xs. xs ++ drop i zeros) whole ∙ ap (λ ys. values ++ ys) tail in
    let front : take n kept ≡ values = ap (take n) same ∙ take_at values (replicate (8 - n) (pos 0)) n refl in
    record {
      within = few;
      places = ap length same ∙ length-append values (replicate (8 - n) (pos 0)) ∙ omega (arith, few, length-replicate (8 - n) (pos 0));
      small = rw (front, ← whole) h.small;
      zeros = rw front (sym same);
    }
