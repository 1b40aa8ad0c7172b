-- A row that is gone through once: what each tag adds to those that are kept.
use Rattle.std.proofs.Common.{◌≡◌, ◌≢◌, ℕ, zero, suc, ◌+◌, ◌-◌, ◌<◌, ◌≤◌, List, [], ◌∷◌, ◌++◌, length, take, set, get_or, Bool, true, false, ◌||◌, ◌==◌, refl, sym, ap, subst, ◌∙◌, arith, length-take-le, length-set, nat_cmp, Ordering, Less, Equal, Greater}
use Rattle.std.proofs.lemmas.Cmp.{ranked}
use Rattle.std.specs.List.Sorted.{IsSorted}
use Rattle.std.specs.Ordering.{is_lt}
use Rattle.std.proofs.lemmas.List.{take_more, take_more_set, get_or-take, get_or-set_same, get_or-set_other}
use Rattle.std.proofs.lemmas.Bool.{ne_eqb}
use Rattle.lsys_reads.specs.Rows.{has, IsRising, Sweeps}
use Rattle.lsys_reads.proofs.RowLemmas.{has_at_end, has_at, put_again, rising_above, below_all_get, or_true, or_more}

-- one tag more, above the last
pub rising_step : (xs : List ℕ) (at : ℕ) → 0 < at → at < length xs → IsRising (take at xs) → get_or xs (at - 1) 0 < get_or xs at 0 → IsRising (take (at + 1) xs)
rising_step xs at some within rising above =
    let many : length (take at xs) ≡ at = length-take-le at xs (omega (arith, within)) in
    subst IsRising (sym (take_more xs at 0 within))
    (rising_above (take at xs) (get_or xs at 0) rising (λ _. subst (λ (n : ℕ). n < get_or xs at 0)
    (sym (ap (λ (n : ℕ). get_or (take at xs) (n - 1) 0) many ∙ get_or-take at xs (at - 1) 0 (omega (arith, some)))) above))

-- a tag that is written after the others, above the last
pub rising_written : (cells : List ℕ) (len x : ℕ) → len < length cells → IsRising (take len cells) → (0 < len → get_or cells (len - 1) 0 < x) → IsRising (take (len + 1) (set cells len x))
rising_written cells len x within rising above =
    let many : length (take len cells) ≡ len = length-take-le len cells (omega (arith, within)) in
    subst IsRising (sym (take_more_set cells len x within))
    (rising_above (take len cells) x rising (λ some.
    let some' : 0 < len = omega (arith, some, many) in
    subst (λ (n : ℕ). n < x) (sym (ap (λ (n : ℕ). get_or (take len cells) (n - 1) 0) many ∙ get_or-take len cells (len - 1) 0 (omega (arith, some')))) (above some')))

pub has_written : (cells : List ℕ) (len x q : ℕ) → len < length cells → has (take (len + 1) (set cells len x)) q ≡ ((x == q) || has (take len cells) q)
has_written cells len x q within = ap (λ (l : List ℕ). has l q) (take_more_set cells len x within) ∙ has_at_end (take len cells) x q

-- tags that were sorted do not fall
not_less : (a b : ℕ) (r : Ordering) → r ≡ nat_cmp a b → is_lt r ≡ false → b ≤ a
not_less a b Less is told = absurd (let wrong : true ≡ false = told in cc)
not_less a b Equal is told = let same = ranked a b Equal is in omega (arith, same)
not_less a b Greater is told = let more = ranked a b Greater is in omega (arith, more)

pub sorted_step : (xs : List ℕ) (len at : ℕ) → len ≤ length xs → IsSorted nat_cmp (take len xs) → 0 < at → at < len → get_or xs (at - 1) 0 ≤ get_or xs at 0
sorted_step xs len at room sorted some within =
    let many : length (take len xs) ≡ len = length-take-le len xs room in
    let told = not_less (get_or (take len xs) (at - 1 + 1) 0) (get_or (take len xs) (at - 1) 0) _ refl (sorted (at - 1) 0 (omega arith) (omega (arith, many, some, within))) in
    let one = get_or-take len xs (at - 1) 0 (omega (arith, some, within)) in
    let two = get_or-take len xs at 0 within in
    let same : get_or (take len xs) (at - 1 + 1) 0 ≡ get_or (take len xs) at 0 = ap (λ (n : ℕ). get_or (take len xs) n 0) (omega (arith, some)) in
    omega (arith, told, one, two, same)

-- the first `at` tags of the old row are the first `kept` ones of the new, each once
pub record DedupsTo (old new : List ℕ) (len at kept : ℕ) : Type 0 where
  pub read : at ≤ len
  pub fewer : kept ≤ at
  pub size : length new ≡ length old
  pub unread : (k : ℕ) → at ≤ k → get_or new k 0 ≡ get_or old k 0
  pub tags : (q : ℕ) → has (take kept new) q ≡ has (take at old) q
  pub rising : IsRising (take kept new)
  pub last : 0 < at → (0 < kept) × (get_or new (kept - 1) 0 ≡ get_or old (at - 1) 0)

pub dedups_as : (old new new' : List ℕ) (len at kept kept' : ℕ) → new' ≡ new → kept' ≡ kept → DedupsTo old new len at kept → DedupsTo old new' len at kept'
dedups_as old new new' len at kept kept' cells count so_far = subst (λ (l : List ℕ). DedupsTo old l len at kept') (sym cells) (subst (λ (n : ℕ). DedupsTo old new len at n) (sym count) so_far)

one_more : (old new : List ℕ) (at kept x q : ℕ) → at < length old → x ≡ get_or old at 0 → has (take (kept + 1) new) q ≡ ((x == q) || has (take at old) q) → has (take (kept + 1) new) q ≡ has (take (at + 1) old) q
one_more old new at kept x q within is told =
    told ∙ sym (ap (λ (l : List ℕ). has l q) (take_more old at 0 within ∙ ap (λ (n : ℕ). take at old ++ n ∷ []) (sym is)) ∙ has_at_end (take at old) x q)

-- a tag above the last is kept
pub dedups_kept : (old new : List ℕ) (len at kept x : ℕ) → len ≤ length old → DedupsTo old new len at kept → at < len → x ≡ get_or new at 0 → (0 < kept → get_or new (kept - 1) 0 < x) → DedupsTo old (set new kept x) len (at + 1) (kept + 1)
dedups_kept old new len at kept x room so_far within is above =
    let fewer = so_far.fewer in
    let size = so_far.size in
    let inside : kept < length new = omega (arith, fewer, size, within, room) in
    let is_old : x ≡ get_or old at 0 = is ∙ so_far.unread at (omega arith) in
    let grown : take (kept + 1) (set new kept x) ≡ take kept new ++ x ∷ [] = take_more_set new kept x inside in
    let many : length (take kept new) ≡ kept = length-take-le kept new (omega (arith, inside)) in
    record {
      read = omega (arith, within);
      fewer = omega (arith, fewer);
      size = length-set new kept x ∙ size;
      unread = λ k most. get_or-set_other new kept k x 0 (λ same. omega (arith, same, most, fewer)) ∙ so_far.unread k (omega (arith, most));
      tags = λ q. one_more old (set new kept x) at kept x q (omega (arith, within, room)) is_old
          (ap (λ (l : List ℕ). has l q) grown ∙ has_at_end (take kept new) x q ∙ ap (λ (b : Bool). (x == q) || b) (so_far.tags q));
      rising = subst IsRising (sym grown) (rising_above (take kept new) x so_far.rising (λ some.
          let some' : 0 < kept = omega (arith, some, many) in
          subst (λ (n : ℕ). n < x) (sym (ap (λ (n : ℕ). get_or (take kept new) (n - 1) 0) many ∙ get_or-take kept new (kept - 1) 0 (omega (arith, some')))) (above some')));
      last = λ _. (
        omega arith,
        ap (λ (n : ℕ). get_or (set new kept x) n 0) (let e : kept + 1 - 1 ≡ kept = omega arith in e) ∙ get_or-set_same new kept x 0 inside
            ∙ is_old ∙ ap (λ (n : ℕ). get_or old n 0) (let e : at ≡ at + 1 - 1 = omega arith in e),
      );
    }

-- a tag that is no higher than the last is the last, and stands there already
pub dedups_again : (old new : List ℕ) (len at kept x : ℕ) → len ≤ length old → DedupsTo old new len at kept → at < len → x ≡ get_or new at 0 → 0 < kept → x ≤ get_or new (kept - 1) 0 → get_or old (at - 1) 0 ≤ get_or old at 0 → DedupsTo old new len (at + 1) kept
dedups_again old new len at kept x room so_far within is some most sorted =
    let fewer = so_far.fewer in
    let size = so_far.size in
    let is_old : x ≡ get_or old at 0 = is ∙ so_far.unread at (omega arith) in
    let last = (so_far.last (omega (arith, some, fewer))).1 in
    let same : get_or new (kept - 1) 0 ≡ x = omega (arith, last, most, sorted, is_old) in
    let many : length (take kept new) ≡ kept = length-take-le kept new (omega (arith, fewer, size, within, room)) in
    let there : has (take kept new) x ≡ true =
    has_at (take kept new) (kept - 1) x (omega (arith, many, some)) (get_or-take kept new (kept - 1) 0 (omega (arith, some)) ∙ same) in
    record {
      read = omega (arith, within);
      fewer = omega (arith, fewer);
      size = size;
      unread = λ k more. so_far.unread k (omega (arith, more));
      tags = λ q.
          put_again (take kept new) x q there ∙ ap (λ (b : Bool). (x == q) || b) (so_far.tags q)
          ∙ sym (ap (λ (l : List ℕ). has l q) (take_more old at 0 (omega (arith, within, room)) ∙ ap (λ (n : ℕ). take at old ++ n ∷ []) (sym is_old)) ∙ has_at_end (take at old) x q);
      rising = so_far.rising;
      last = λ _. (some, same ∙ is_old ∙ ap (λ (n : ℕ). get_or old n 0) (let e : at ≡ at + 1 - 1 = omega arith in e));
    }

-- of the first `at` tags of the old row the first `kept` ones of the new are left
pub record CutsTo (old new : List ℕ) (len at kept tag : ℕ) (gone : List ℕ) : Type 0 where
  pub read : at ≤ len
  pub fewer : kept ≤ at
  pub size : length new ≡ length old
  pub unread : (k : ℕ) → at ≤ k → get_or new k 0 ≡ get_or old k 0
  pub sweeps : Sweeps (take at old) (take kept new) tag gone
  pub rising : IsRising (take kept new)
  pub below : (k : ℕ) → at ≤ k → k < len → 0 < kept → get_or new (kept - 1) 0 < get_or old k 0

pub cuts_as : (old new new' : List ℕ) (len at kept kept' tag : ℕ) (gone : List ℕ) → new' ≡ new → kept' ≡ kept → CutsTo old new len at kept tag gone → CutsTo old new' len at kept' tag gone
cuts_as old new new' len at kept kept' tag gone cells count so_far = subst (λ (l : List ℕ). CutsTo old l len at kept' tag gone) (sym cells) (subst (λ (n : ℕ). CutsTo old new len at n tag gone) (sym count) so_far)

-- a tag that stays
pub cuts_kept : (old new : List ℕ) (len at kept tag x : ℕ) (gone : List ℕ) → len ≤ length old → IsRising (take len old) → CutsTo old new len at kept tag gone → at < len → x ≡ get_or new at 0 → x ≢ tag → CutsTo old (set new kept x) len (at + 1) (kept + 1) tag gone
cuts_kept old new len at kept tag x gone room rose so_far within is apart =
    let fewer = so_far.fewer in
    let size = so_far.size in
    let inside : kept < length new = omega (arith, fewer, size, within, room) in
    let is_old : x ≡ get_or old at 0 = is ∙ so_far.unread at (omega arith) in
    let grown : take (kept + 1) (set new kept x) ≡ take kept new ++ x ∷ [] = take_more_set new kept x inside in
    let read : take (at + 1) old ≡ take at old ++ x ∷ [] = take_more old at 0 (omega (arith, within, room)) ∙ ap (λ (n : ℕ). take at old ++ n ∷ []) (sym is_old) in
    let many : length (take kept new) ≡ kept = length-take-le kept new (omega (arith, inside)) in
    let all : length (take len old) ≡ len = length-take-le len old room in
    record {
      read = omega (arith, within);
      fewer = omega (arith, fewer);
      size = length-set new kept x ∙ size;
      unread = λ k most. get_or-set_other new kept k x 0 (λ same. omega (arith, same, most, fewer)) ∙ so_far.unread k (omega (arith, most));
      sweeps = record {
        lost = ap (λ (l : List ℕ). has l tag) grown ∙ has_at_end (take kept new) x tag ∙ ap (λ (b : Bool). b || has (take kept new) tag) (ne_eqb x tag apart) ∙ so_far.sweeps.lost;
        kept = λ q other among.
            ap (λ (l : List ℕ). has l q) grown ∙ has_at_end (take kept new) x q ∙ ap (λ (b : Bool). (x == q) || b) (so_far.sweeps.kept q other among)
            ∙ sym (ap (λ (l : List ℕ). has l q) read ∙ has_at_end (take at old) x q);
        fewer = λ q there.
            ap (λ (l : List ℕ). has l q) read ∙ has_at_end (take at old) x q
            ∙ or_more (x == q) (has (take kept new) q) (has (take at old) q) (so_far.sweeps.fewer q) (sym (has_at_end (take kept new) x q) ∙ sym (ap (λ (l : List ℕ). has l q) grown) ∙ there);
      };
      rising = subst IsRising (sym grown) (rising_above (take kept new) x so_far.rising (λ some.
          let some' : 0 < kept = omega (arith, some, many) in
          subst (λ (n : ℕ). get_or (take kept new) (length (take kept new) - 1) 0 < n) (sym is_old)
          (subst (λ (n : ℕ). n < get_or old at 0) (sym (ap (λ (n : ℕ). get_or (take kept new) (n - 1) 0) many ∙ get_or-take kept new (kept - 1) 0 (omega (arith, some'))))
          (so_far.below at (omega arith) within some'))));
      below = λ k more less _.
          subst (λ (n : ℕ). n < get_or old k 0) (sym (ap (λ (n : ℕ). get_or (set new kept x) n 0) (let e : kept + 1 - 1 ≡ kept = omega arith in e) ∙ get_or-set_same new kept x 0 inside ∙ is_old))
          (strictly k more less);
    }
  where
    strictly : (k : ℕ) → at + 1 ≤ k → k < len → get_or old at 0 < get_or old k 0
    strictly k more less =
        let all : length (take len old) ≡ len = length-take-le len old room in
        let one = get_or-take len old at 0 within in
        let two = get_or-take len old k 0 less in
        let lt = rising_lt (take len old) rose at k (omega (arith, more)) (omega (arith, all, less)) in
        omega (arith, one, two, lt)
      where
        rising_lt : (xs : List ℕ) → IsRising xs → (i j : ℕ) → i < j → j < length xs → get_or xs i 0 < get_or xs j 0
        rising_lt [] rising i j below within = absurd (omega (arith, within))
        rising_lt (y ∷ xs) rising i zero below within = absurd (omega (arith, below))
        rising_lt (y ∷ xs) rising zero (suc j) below within = below_all_get xs y j rising.0 (omega (arith, within))
        rising_lt (y ∷ xs) rising (suc i) (suc j) below within = rising_lt xs rising.1 i j (omega (arith, below)) (omega (arith, within))

-- a tag that goes
pub cuts_gone : (old new : List ℕ) (len at kept tag x : ℕ) (gone : List ℕ) → len ≤ length old → CutsTo old new len at kept tag gone → at < len → x ≡ get_or new at 0 → (x ≢ tag → has gone x ≡ true) → CutsTo old new len (at + 1) kept tag gone
cuts_gone old new len at kept tag x gone room so_far within is goes =
    let fewer = so_far.fewer in
    let is_old : x ≡ get_or old at 0 = is ∙ so_far.unread at (omega arith) in
    let read : take (at + 1) old ≡ take at old ++ x ∷ [] = take_more old at 0 (omega (arith, within, room)) ∙ ap (λ (n : ℕ). take at old ++ n ∷ []) (sym is_old) in
    record {
      read = omega (arith, within);
      fewer = omega (arith, fewer);
      size = so_far.size;
      unread = λ k more. so_far.unread k (omega (arith, more));
      sweeps = record {
        lost = so_far.sweeps.lost;
        kept = λ q other among.
            so_far.sweeps.kept q other among
            ∙ sym (ap (λ (l : List ℕ). has l q) read ∙ has_at_end (take at old) x q ∙ ap (λ (b : Bool). b || has (take at old) q) (ne_eqb x q (λ same.
            let told = goes (subst (λ (z : ℕ). z ≢ tag) (sym same) other) in
            let wrong : true ≡ false = sym told ∙ ap (has gone) same ∙ among in cc)));
        fewer = λ q there. ap (λ (l : List ℕ). has l q) read ∙ has_at_end (take at old) x q ∙ ap (λ (b : Bool). (x == q) || b) (so_far.sweeps.fewer q there) ∙ or_true (x == q);
      };
      rising = so_far.rising;
      below = λ k more less some. so_far.below k (omega (arith, more)) less some;
    }
