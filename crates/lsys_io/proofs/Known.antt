-- One write after another, and parts of what is held.
use Rattle.std.proofs.Common.{◌≡◌, ℕ, ◌+◌, ◌-◌, ◌≤◌, List, ◌++◌, length, take, drop, slice_range, Option, Some, None, Result, Ok, Err, OnErr, sym, ◌∙◌, ap, arith, length-append}
use Rattle.std.specs.Io.KnownBytes.{Appends}
use Rattle.std.proofs.KnownBytes.{Appends-trans}
use Rattle.std.proofs.Math.Seq.{take-add, take-append-add}
use Rattle.std.proofs.lemmas.List.{append_assoc, take_rest, take_at, take-append-drop, drop-drop, length-take-le, length-take, length-drop, drop-take}
use Rattle.lsys_io.specs.Writes.{AppendsFront}

-- what was appended, and n more bytes from there on
pub appends_more : (a b c : Option (List ℕ)) (i n : ℕ) (bytes : List ℕ) → Appends a b (take i bytes) → Appends b c (take n (take (length bytes - i) (drop i bytes))) → Appends a c (take (i + n) bytes)
appends_more None b c i n bytes h k = tt
appends_more (Some xs) None c i n bytes h k = absurd h
appends_more (Some xs) (Some ys) None i n bytes h k = absurd k
appends_more (Some xs) (Some ys) (Some zs) i n bytes h k =
    let rest : take (length bytes - i) (drop i bytes) ≡ drop i bytes = take_rest bytes i in
    let both : take (i + n) bytes ≡ take i bytes ++ take n (drop i bytes) = take-add i n bytes in
    k ∙ ap (λ t. ys ++ take n t) rest ∙ ap (λ t. t ++ take n (drop i bytes)) h
    ∙ append_assoc xs (take i bytes) (take n (drop i bytes)) ∙ sym (ap (λ t. xs ++ t) both)

-- a read of n bytes at a place
pub reads_part : (bytes into part : List ℕ) (at n : ℕ) → at + n ≤ length bytes → part ≡ take n (drop at bytes) → drop at bytes ≡ take n (part ++ drop n into) ++ drop (at + n) bytes
reads_part bytes into part at n fits is =
    let long : length part ≡ n = ap length is ∙ length-take-le n (drop at bytes) (omega (arith, length-drop at bytes)) in
    let front : take n (part ++ drop n into) ≡ part = take_at part (drop n into) n long in
    let back : drop n (drop at bytes) ≡ drop (at + n) bytes = drop-drop n at bytes in
    sym (take-append-drop n (drop at bytes)) ∙ ap (λ t. t ++ drop n (drop at bytes)) (sym is ∙ sym front) ∙ ap (λ t. take n (part ++ drop n into) ++ t) back

-- a range loses its front
pub skip-range : (bytes : List ℕ) (from to n : ℕ) → n ≤ length (slice_range bytes from to) → slice_range bytes (from + n) to ≡ drop n (slice_range bytes from to)
skip-range bytes from to n h =
    let within : n ≤ to - from = omega (arith, h, length-take (to - from) (drop from bytes)) in
    let whole : to - from ≡ n + (to - (from + n)) = omega arith in
    rw (whole, drop-take n (to - (from + n)) (drop from bytes), drop-drop n from bytes)

-- some bytes were written, and then a front of others
pub front_after : {T E : Type 0} (a b c : Option (List ℕ)) (before bytes : List ℕ) (result : Result T E) → Appends a b before
    → OnErr result (AppendsFront b c bytes) → OnErr result (AppendsFront a c (before ++ bytes))
front_after a b c before bytes (Ok x) h k = tt
front_after a b c before bytes (Err e) h k = (
  length before + k.0,
  omega (arith, length-append before bytes, k.1),
  rw (take-append-add before bytes k.0) (Appends-trans a b c before (take k.0 bytes) h k.2),
)
