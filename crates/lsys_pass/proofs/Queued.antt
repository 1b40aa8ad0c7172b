-- What a queue has left, by halves.
use Rattle.std.proofs.Common.{◌≡◌, ◌≢◌, ◌<◌, ◌≤◌, ◌+◌, ◌-◌, ◌/◌, ℕ, zero, suc, Bool, true, false, List, [], ◌∷◌, ◌++◌, length, take, drop, map, Option, Some, None, slice_get, slice_index_or, refl, sym, ap, ◌∙◌, subst, arith, drop-cons, slice_set, append_assoc, length-append, length-drop}
use Rattle.std.specs.Prelude.{Vec}
use Rattle.std.specs.declared.alloc.Global.{Global}
use Rattle.std.specs.List.{remove, cons_option}
use Rattle.std.proofs.Math.Seq.{drop-append-add}
use Rattle.std.proofs.lemmas.List.{take-append-drop, take_all, take_at, drop_all, append-nil, take-set, drop-set, take_more, take-map, drop-map, length-map, length-take-le}
use borrow.Rule.Slice.PartMut.{put_mid}
use Rattle.std.proofs.lemmas.List.Edits.{remove-append_left, remove-append_right, length-remove}
use Rattle.std.proofs.lemmas.List.Elements.{filter_map-append}
use Rattle.std.proofs.lemmas.Option.{none-some, same_Some, slice_get_read, slice_get-get_or, slice_get_within}
use Rattle.lsys_pass.specs.declared.queue.Slot.{Slot}
use Rattle.lsys_pass.specs.Queues.{those_left, fresh_slot, AreCounted, InHalves, those_in, HasRoomForSlots, IsQueue}

-- 1. lists

those_around : (xs : List Slot) (s : Slot) (ys : List Slot) → those_left (xs ++ s ∷ ys) ≡ those_left xs ++ cons_option s.node (those_left ys)
those_around xs s ys = filter_map-append (λ (s : Slot). s.node) xs (s ∷ ys)

some_slot : (part : List Slot) (i : ℕ) → i < length (those_left part) → 0 < length part
some_slot [] i h = absurd (omega (arith, h))
some_slot (s ∷ part) i h = omega arith

get_left : {A : Type 0} (xs ys : List A) (i : ℕ) (k : A) → slice_get xs i ≡ Some k → slice_get (xs ++ ys) i ≡ Some k
get_left [] ys i k h = absurd (none-some k h)
get_left (x ∷ xs) ys zero k h = h
get_left (x ∷ xs) ys (suc i) k h = get_left xs ys i k h

get_right : {A : Type 0} (xs ys : List A) (i j : ℕ) (k : A) → length xs + j ≡ i → slice_get ys j ≡ Some k → slice_get (xs ++ ys) i ≡ Some k
get_right [] ys i j k e h = let same : i ≡ j = omega (arith, e) in ap (slice_get ys) same ∙ h
get_right (x ∷ xs) ys zero j k e h = absurd (omega (arith, e))
get_right (x ∷ xs) ys (suc i) j k e h = get_right xs ys i j k (omega (arith, e)) h

over : (m n : ℕ) → n ≤ m → m ≢ n → n < m
over m n le ne = omega (arith, le, ne)

-- 2. a part

-- a part with a slot in its middle
pub record Halved (part : List Slot) (s : Slot) : Type 0 where
  pub whole : part ≡ take (length part / 2) part ++ s ∷ drop (length part / 2 + 1) part
  pub within : length part / 2 < length part
  pub count : s.gone + length (those_left (take (length part / 2) part)) ≡ length part / 2
  pub front : AreCounted (take (length part / 2) part)
  pub after : AreCounted (drop (length part / 2 + 1) part)

pub halved : (part : List Slot) (s : Slot) (place : ℕ) → AreCounted part → place < length (those_left part) → s ≡ slice_index_or part (length part / 2) s → Halved part s
halved part s place (InHalves count front after) h is =
    let some = some_slot part place h in
    let m = length part / 2 in
    let within : length part / 2 < length part = omega (arith, some) in
    let next : suc (length part / 2) ≡ length part / 2 + 1 = omega arith in
    record {
      whole = sym (take-append-drop m part) ∙ ap (λ (ys : List Slot). take m part ++ ys) (drop-cons part m s within ∙ ap (λ (x : Slot). x ∷ drop (suc m) part) (sym is) ∙ ap (λ (n : ℕ). s ∷ drop n part) next);
      within = within;
      count = count s (slice_get_read part (length part) m s refl within is);
      front = front some;
      after = after some;
    }

-- what it has left
pub left_is : (part : List Slot) (s : Slot) → Halved part s → those_left part ≡ those_left (take (length part / 2) part) ++ cons_option s.node (those_left (drop (length part / 2 + 1) part))
left_is part s h = ap those_left h.whole ∙ those_around (take (length part / 2) part) s (drop (length part / 2 + 1) part)

-- what stands after the middle
abbrev pub after_in : List Slot → List Slot
after_in part = take (length part - (length part / 2 + 1)) (drop (length part / 2 + 1) part)

after_is : (part : List Slot) → after_in part ≡ drop (length part / 2 + 1) part
after_is part = take_all (length part - (length part / 2 + 1)) (drop (length part / 2 + 1) part) (let n = length-drop (length part / 2 + 1) part in omega (arith, n))

pub left_where : (part : List Slot) (s : Slot) (o : Option ℕ) → Halved part s → s.node ≡ o → those_left part ≡ those_left (take (length part / 2) part) ++ cons_option o (those_left (after_in part))
left_where part s o h is =
    left_is part s h
    ∙ ap (λ (o : Option ℕ). those_left (take (length part / 2) part) ++ cons_option o (those_left (drop (length part / 2 + 1) part))) is
    ∙ ap (λ (ys : List Slot). those_left (take (length part / 2) part) ++ cons_option o (those_left ys)) (sym (after_is part))

pub after_some : (part : List Slot) (s : Slot) (x place : ℕ) → Halved part s → s.node ≡ Some x → length part / 2 - s.gone ≤ place → place ≢ length part / 2 - s.gone → place < length (those_left part)
    → AreCounted (after_in part) × (place - (length part / 2 - s.gone) - 1 < length (those_left (after_in part)))
after_some part s x place h is above other within =
    let count = h.count in
    let all = ap length (left_where part s (Some x) h is) ∙ length-append (those_left (take (length part / 2) part)) (x ∷ those_left (after_in part)) in
    let apart = over place (length part / 2 - s.gone) above other in
    (subst AreCounted (sym (after_is part)) h.after, omega (arith, count, all, apart, within))

pub after_none : (part : List Slot) (s : Slot) (place : ℕ) → Halved part s → s.node ≡ None → length part / 2 - s.gone ≤ place → place < length (those_left part)
    → AreCounted (after_in part) × (place - (length part / 2 - s.gone) < length (those_left (after_in part)))
after_none part s place h is above within =
    let count = h.count in
    let all = ap length (left_where part s None h is) ∙ length-append (those_left (take (length part / 2) part)) (those_left (after_in part)) in
    (subst AreCounted (sym (after_is part)) h.after, omega (arith, count, all, above, within))

-- 3. a node at a place

pub found_front : (part : List Slot) (s : Slot) → Halved part s → (place k : ℕ) → slice_get (those_left (take (length part / 2) part)) place ≡ Some k → slice_get (those_left part) place ≡ Some k
found_front part s h place k e = ap (λ (xs : List ℕ). slice_get xs place) (left_is part s h) ∙ get_left _ _ place k e

pub found_here : (part : List Slot) (s : Slot) → Halved part s → (place k : ℕ) → s.node ≡ Some k → place ≡ length part / 2 - s.gone → slice_get (those_left part) place ≡ Some k
found_here part s h place k is e =
    let count = h.count in
    let before = those_left (take (length part / 2) part) in
    ap (λ (xs : List ℕ). slice_get xs place) (left_where part s (Some k) h is)
    ∙ get_right before (k ∷ those_left (after_in part)) place 0 k (omega (arith, count, e)) refl

pub found_after_some : (part : List Slot) (s : Slot) (x place k : ℕ) → Halved part s → s.node ≡ Some x → length part / 2 - s.gone ≤ place → place ≢ length part / 2 - s.gone
    → slice_get (those_left (after_in part)) (place - (length part / 2 - s.gone) - 1) ≡ Some k → slice_get (those_left part) place ≡ Some k
found_after_some part s x place k h is above other found =
    let count = h.count in
    let before = those_left (take (length part / 2) part) in
    let apart = over place (length part / 2 - s.gone) above other in
    ap (λ (xs : List ℕ). slice_get xs place) (left_where part s (Some x) h is)
    ∙ get_right before (x ∷ those_left (after_in part)) place (suc (place - (length part / 2 - s.gone) - 1)) k (omega (arith, count, apart)) found

pub found_after_none : (part : List Slot) (s : Slot) (place k : ℕ) → Halved part s → s.node ≡ None → length part / 2 - s.gone ≤ place
    → slice_get (those_left (after_in part)) (place - (length part / 2 - s.gone)) ≡ Some k → slice_get (those_left part) place ≡ Some k
found_after_none part s place k h is above found =
    let count = h.count in
    let before = those_left (take (length part / 2) part) in
    ap (λ (xs : List ℕ). slice_get xs place) (left_where part s None h is)
    ∙ get_right before (those_left (after_in part)) place (place - (length part / 2 - s.gone)) k (omega (arith, count, above)) found

-- 4. one that is taken off

pub record IsTaken (old new : List Slot) (place : ℕ) : Type 0 where
  pub counted : AreCounted new
  pub left : those_left new ≡ remove (those_left old) place

-- slots before a middle one and after it
joined : (n : ℕ) (before : List Slot) (s : Slot) (after : List Slot) → n / 2 < n → length before ≡ n / 2 → length after ≡ n - (n / 2 + 1) → s.gone + length (those_left before) ≡ n / 2
    → AreCounted before → AreCounted after → AreCounted (before ++ s ∷ after)
joined n before s after within one two count front back =
    let all = before ++ s ∷ after in
    let size = length-append before (s ∷ after) in
    let whole : length all ≡ n = omega (arith, size, within, one, two) in
    let half : length all / 2 ≡ n / 2 = ap (λ (k : ℕ). k / 2) whole in
    let first : take (length all / 2) all ≡ before = take_at before (s ∷ after) (length all / 2) (one ∙ sym half) in
    let rest : drop (length all / 2 + 1) all ≡ after = ap (λ (k : ℕ). drop (k + 1) all) (half ∙ sym one) ∙ drop-append-add before (s ∷ after) 1 in
    InHalves
    {part = all}
    (λ t at.
    let same : t ≡ s = same_Some t s (sym at ∙ ap (slice_get all) (half ∙ sym one) ∙ get_right before (s ∷ after) (length before) 0 s (omega arith) refl) in
    ap (λ (x : Slot). x.gone + length (those_left (take (length all / 2) all))) same ∙ ap (λ (xs : List Slot). s.gone + length (those_left xs)) first ∙ count ∙ sym half)
    (λ _. subst AreCounted (sym first) front)
    (λ _. subst AreCounted (sym rest) back)

read : (part : List Slot) (i : ℕ) (s d : Slot) → i < length part → s ≡ slice_index_or part i s → slice_index_or part i d ≡ s
read part i s d within is = same_Some _ _ (sym (slice_get-get_or part i d within) ∙ slice_get_read part (length part) i s refl within is)

-- the middle knows that one more is gone
pub more_gone : (part : List Slot) (s d e : Slot) → Halved part s → s ≡ slice_index_or part (length part / 2) s
    → (let t : Slot = record { node = (slice_index_or part (length part / 2) d).node; gone = (slice_index_or part (length part / 2) e).gone + 1 } in t) ≡ record { node = s.node; gone = s.gone + 1 }
more_gone part s d e h is =
    ap (λ (x : Slot). let t : Slot = record { node = x.node; gone = (slice_index_or part (length part / 2) e).gone + 1 } in t) (read part (length part / 2) s d h.within is)
    ∙ ap (λ (x : Slot). let t : Slot = record { node = s.node; gone = x.gone + 1 } in t) (read part (length part / 2) s e h.within is)

-- the middle itself is gone
pub none_gone : (part : List Slot) (s d : Slot) → Halved part s → s ≡ slice_index_or part (length part / 2) s
    → (let t : Slot = record { node = None; gone = (slice_index_or part (length part / 2) d).gone } in t) ≡ record { node = None; gone = s.gone }
none_gone part s d h is = ap (λ (x : Slot). let t : Slot = record { node = None; gone = x.gone } in t) (read part (length part / 2) s d h.within is)

pub front_within : (part : List Slot) (s t : Slot) (place : ℕ) → Halved part s → place < length part / 2 - s.gone
    → AreCounted (take (length part / 2) (slice_set part (length part / 2) t)) × (place < length (those_left (take (length part / 2) (slice_set part (length part / 2) t))))
front_within part s t place h less =
    let count = h.count in
    let stays = take-set part (length part / 2) t in
    let here : place < length (those_left (take (length part / 2) part)) = omega (arith, count, less) in
    (subst AreCounted (sym stays) h.front, subst (λ (xs : List Slot). place < length (those_left xs)) (sym stays) here)

pub taken_front : (part : List Slot) (s t : Slot) (place : ℕ) (fresh : List Slot) → Halved part s → t ≡ record { node = s.node; gone = s.gone + 1 } → place < length part / 2 - s.gone
    → length fresh ≡ length (take (length part / 2) (slice_set part (length part / 2) t)) → AreCounted fresh → those_left fresh ≡ remove (those_left (take (length part / 2) (slice_set part (length part / 2) t))) place
    → IsTaken part (fresh ++ drop (length part / 2) (slice_set part (length part / 2) t)) place
taken_front part s t place fresh h t_is less size counted left =
    let m = length part / 2 in
    let count = h.count in
    let within = h.within in
    let before = those_left (take m part) in
    let rest = those_left (drop (m + 1) part) in
    let stays = take-set part m t in
    let here : place < length before = omega (arith, count, less) in
    let left_now : those_left fresh ≡ remove before place = left ∙ ap (λ (xs : List Slot). remove (those_left xs) place) stays in
    let one : length fresh ≡ m = size ∙ ap length stays ∙ length-take-le m part (omega (arith, within)) in
    let fewer = ap length left_now in
    let less_one = length-remove before place here in
    let sum : (s.gone + 1) + length (those_left fresh) ≡ m = omega (arith, count, fewer, less_one) in
    let whole : fresh ++ drop m (slice_set part m t) ≡ fresh ++ t ∷ drop (m + 1) part = ap (λ (ys : List Slot). fresh ++ ys) (drop-set part m t within) in
    record {
      counted = subst AreCounted (sym whole) (joined (length part) fresh t (drop (m + 1) part) within one (length-drop (m + 1) part) (ap (λ (x : Slot). x.gone + length (those_left fresh)) t_is ∙ sum) counted h.after);
      left = ap those_left whole ∙ those_around fresh t (drop (m + 1) part) ∙ ap (λ (x : Slot). those_left fresh ++ cons_option x.node rest) t_is
          ∙ ap (λ (xs : List ℕ). xs ++ cons_option s.node rest) left_now ∙ sym (remove-append_left before (cons_option s.node rest) place here)
          ∙ ap (λ (xs : List ℕ). remove xs place) (sym (left_is part s h));
    }

pub taken_here : (part : List Slot) (s t : Slot) (x place : ℕ) → Halved part s → s.node ≡ Some x → place ≡ length part / 2 - s.gone → t ≡ record { node = None; gone = s.gone } → IsTaken part (slice_set part (length part / 2) t) place
taken_here part s t x place h is at t_is =
    let m = length part / 2 in
    let count = h.count in
    let within = h.within in
    let before = those_left (take m part) in
    let rest = those_left (drop (m + 1) part) in
    let set = slice_set part m t in
    let whole : set ≡ take m part ++ t ∷ drop (m + 1) part = sym (take-append-drop m set) ∙ ap (λ (xs : List Slot). xs ++ drop m set) (take-set part m t) ∙ ap (λ (ys : List Slot). take m part ++ ys) (drop-set part m t within) in
    let first : place - length before ≡ 0 = omega (arith, count, at) in
    let off : remove (before ++ x ∷ rest) place ≡ before ++ rest = remove-append_right before (x ∷ rest) (length before) place refl (omega (arith, count, at)) ∙ ap (λ (i : ℕ). before ++ remove (x ∷ rest) i) first in
    record {
      counted = subst AreCounted (sym whole) (joined (length part) (take m part) t (drop (m + 1) part) within (length-take-le m part (omega (arith, within))) (length-drop (m + 1) part) (ap (λ (y : Slot). y.gone + length before) t_is ∙ count) h.front h.after);
      left = ap those_left whole ∙ those_around (take m part) t (drop (m + 1) part) ∙ ap (λ (y : Slot). before ++ cons_option y.node rest) t_is
          ∙ sym off ∙ ap (λ (o : Option ℕ). remove (before ++ cons_option o rest) place) (sym is) ∙ ap (λ (xs : List ℕ). remove xs place) (sym (left_is part s h));
    }

-- after the middle
abbrev pub with_after : List Slot → List Slot → List Slot
with_after part fresh = put_mid (length part / 2 + 1) (length part - (length part / 2 + 1)) part fresh

with_is : (part : List Slot) (s : Slot) (fresh : List Slot) → Halved part s → s ≡ slice_index_or part (length part / 2) s → with_after part fresh ≡ take (length part / 2) part ++ s ∷ fresh
with_is part s fresh h is =
    let m = length part / 2 in
    let gone = drop_all (length part - (m + 1)) (drop (m + 1) part) (let n = length-drop (m + 1) part in omega (arith, n)) in
    ap (λ (ys : List Slot). take (m + 1) part ++ (fresh ++ ys)) gone
    ∙ ap (λ (ys : List Slot). take (m + 1) part ++ ys) (append-nil fresh)
    ∙ ap (λ (xs : List Slot). xs ++ fresh) (take_more part m s h.within ∙ ap (λ (y : Slot). take m part ++ y ∷ []) (sym is))
    ∙ append_assoc (take m part) (s ∷ []) fresh

taken_after : (part : List Slot) (s : Slot) (place : ℕ) (fresh : List Slot) → Halved part s → s ≡ slice_index_or part (length part / 2) s → length fresh ≡ length (after_in part) → AreCounted fresh
    → those_left (take (length part / 2) part) ++ cons_option s.node (those_left fresh) ≡ remove (those_left part) place → IsTaken part (with_after part fresh) place
taken_after part s place fresh h is size counted left =
    let m = length part / 2 in
    let within = h.within in
    let whole = with_is part s fresh h is in
    record {
      counted = subst AreCounted (sym whole) (joined (length part) (take m part) s fresh within (length-take-le m part (omega (arith, within))) (size ∙ ap length (after_is part) ∙ length-drop (m + 1) part) h.count h.front counted);
      left = ap those_left whole ∙ those_around (take m part) s fresh ∙ left;
    }

pub taken_after_some : (part : List Slot) (s : Slot) (x place : ℕ) (fresh : List Slot) → Halved part s → s ≡ slice_index_or part (length part / 2) s → s.node ≡ Some x
    → length part / 2 - s.gone ≤ place → place ≢ length part / 2 - s.gone → length fresh ≡ length (after_in part) → AreCounted fresh
    → those_left fresh ≡ remove (those_left (after_in part)) (place - (length part / 2 - s.gone) - 1) → IsTaken part (with_after part fresh) place
taken_after_some part s x place fresh h is node above other size counted left =
    let count = h.count in
    let apart = over place (length part / 2 - s.gone) above other in
    let before = those_left (take (length part / 2) part) in
    let rest = those_left (after_in part) in
    let next : place - length before ≡ suc (place - (length part / 2 - s.gone) - 1) = omega (arith, count, apart) in
    taken_after part s place fresh h is size counted
    (ap (λ (o : Option ℕ). before ++ cons_option o (those_left fresh)) node ∙ ap (λ (xs : List ℕ). before ++ x ∷ xs) left
    ∙ ap (λ (i : ℕ). before ++ remove (x ∷ rest) i) (sym next) ∙ sym (remove-append_right before (x ∷ rest) (length before) place refl (omega (arith, count, apart)))
    ∙ ap (λ (xs : List ℕ). remove xs place) (sym (left_where part s (Some x) h node)))

pub taken_after_none : (part : List Slot) (s : Slot) (place : ℕ) (fresh : List Slot) → Halved part s → s ≡ slice_index_or part (length part / 2) s → s.node ≡ None
    → length part / 2 - s.gone ≤ place → length fresh ≡ length (after_in part) → AreCounted fresh
    → those_left fresh ≡ remove (those_left (after_in part)) (place - (length part / 2 - s.gone)) → IsTaken part (with_after part fresh) place
taken_after_none part s place fresh h is node above size counted left =
    let count = h.count in
    let before = those_left (take (length part / 2) part) in
    let rest = those_left (after_in part) in
    let next : place - length before ≡ place - (length part / 2 - s.gone) = omega (arith, count, above) in
    taken_after part s place fresh h is size counted
    (ap (λ (o : Option ℕ). before ++ cons_option o (those_left fresh)) node ∙ ap (λ (xs : List ℕ). before ++ xs) left
    ∙ ap (λ (i : ℕ). before ++ remove rest i) (sym next) ∙ sym (remove-append_right before rest (length before) place refl (omega (arith, count, above)))
    ∙ ap (λ (xs : List ℕ). remove xs place) (sym (left_where part s None h node)))

-- 5. slots of nodes, of which none is gone

those_fresh : (nodes : List ℕ) → those_left (map fresh_slot nodes) ≡ nodes
those_fresh [] = refl
those_fresh (k ∷ nodes) = ap (λ (ks : List ℕ). k ∷ ks) (those_fresh nodes)

none_gone_yet : (nodes : List ℕ) (i : ℕ) (s : Slot) → slice_get (map fresh_slot nodes) i ≡ Some s → s.gone ≡ 0
none_gone_yet [] i s h = absurd (none-some s h)
none_gone_yet (k ∷ nodes) zero s h = ap (λ (x : Slot). x.gone) (sym (same_Some _ _ h))
none_gone_yet (k ∷ nodes) (suc i) s h = none_gone_yet nodes i s h

fresh_counted : (n : ℕ) (nodes : List ℕ) → length nodes < n → AreCounted (map fresh_slot nodes)
fresh_counted zero nodes h = absurd (omega (arith, h))
fresh_counted (suc n) nodes h =
    let part = map fresh_slot nodes in
    let size = length-map nodes fresh_slot in
    let first = take-map fresh_slot (length part / 2) nodes in
    let rest = drop-map fresh_slot (length part / 2 + 1) nodes in
    InHalves
    {part = part}
    (λ (s : Slot) (at : slice_get part (length part / 2) ≡ Some s).
    let none = none_gone_yet nodes (length part / 2) s at in
    let some = slice_get_within part (length part / 2) s at in
    let front = ap (λ (xs : List Slot). length (those_left xs)) first ∙ ap length (those_fresh (take (length part / 2) nodes)) in
    let fits = length-take-le (length part / 2) nodes (omega (arith, size, some)) in
    omega (arith, none, front, fits))
    (λ some. let fits = length-take-le (length part / 2) nodes (omega (arith, size, some)) in subst AreCounted (sym first) (fresh_counted n (take (length part / 2) nodes) (omega (arith, h, some, size, fits))))
    (λ some. let fits = length-drop (length part / 2 + 1) nodes in subst AreCounted (sym rest) (fresh_counted n (drop (length part / 2 + 1) nodes) (omega (arith, h, some, size, fits))))

pub filled_left : (slots : List Slot) (nodes : List ℕ) → slots ≡ map fresh_slot nodes → those_left slots ≡ nodes
filled_left slots nodes is = ap those_left is ∙ those_fresh nodes

pub filled_counted : (slots : List Slot) (nodes : List ℕ) → slots ≡ map fresh_slot nodes → AreCounted slots
filled_counted slots nodes is = subst AreCounted (sym is) (fresh_counted (suc (length nodes)) nodes (omega arith))

-- one more of them
pub one_more : (nodes : List ℕ) (i k : ℕ) (old new : List Slot) → slice_get nodes i ≡ Some k → old ≡ map fresh_slot (take i nodes) → new ≡ old ++ fresh_slot k ∷ [] → new ≡ map fresh_slot (take (i + 1) nodes)
one_more nodes i k old new here was is = is ∙ ap (λ (xs : List Slot). xs ++ fresh_slot k ∷ []) was ∙ next nodes i k here ∙ ap (λ n. map fresh_slot (take n nodes)) (let e : suc i ≡ i + 1 = omega arith in e)
  where
    next : (nodes : List ℕ) (i k : ℕ) → slice_get nodes i ≡ Some k → map fresh_slot (take i nodes) ++ fresh_slot k ∷ [] ≡ map fresh_slot (take (suc i) nodes)
    next [] i k h = absurd (none-some k h)
    next (x ∷ nodes) zero k h = ap (λ (n : ℕ). fresh_slot n ∷ []) (sym (same_Some x k h))
    next (x ∷ nodes) (suc i) k h = ap (λ (xs : List Slot). fresh_slot x ∷ xs) (next nodes i k h)

-- 6. a queue

no_more : (o : Option ℕ) (xs : List ℕ) → length (cons_option o xs) ≤ suc (length xs)
no_more None xs = omega arith
no_more (Some k) xs = omega arith

few_left : (slots : List Slot) → length (those_left slots) ≤ length slots
few_left [] = omega arith
few_left (s ∷ slots) =
    let less = few_left slots in
    let one = no_more s.node (those_left slots) in
    let same = ap (length {A = ℕ}) (those_around [] s slots) in
    omega (arith, less, one, same)

pub filled : (nodes : List ℕ) (slots : Vec Slot Global) → HasRoomForSlots slots nodes → IsQueue nodes slots 0 (length nodes) true
filled nodes slots room = record { counted = λ w. cc; size = refl; within = omega arith; room = λ _. room }

more : (n i : ℕ) → suc (n + i) ≡ suc n + i
more n i = omega arith

zero_more : (i : ℕ) → 0 + i ≡ i
zero_more i = omega arith

get_drop : (n : ℕ) (xs : List ℕ) (i : ℕ) → slice_get (drop n xs) i ≡ slice_get xs (n + i)
get_drop zero xs i = ap (slice_get xs) (sym (zero_more i))
get_drop (suc n) [] i = refl
get_drop (suc n) (x ∷ xs) i = get_drop n xs i ∙ ap (slice_get (x ∷ xs)) (more n i)

none_removed : (i : ℕ) → remove {X = ℕ} [] i ≡ []
none_removed zero = refl
none_removed (suc i) = refl

drop_remove : (n : ℕ) (xs : List ℕ) (i : ℕ) → drop n (remove xs (n + i)) ≡ remove (drop n xs) i
drop_remove zero xs i = ap (remove xs) (zero_more i)
drop_remove (suc n) [] i = ap (drop (suc n)) (none_removed (suc n + i)) ∙ sym (none_removed i)
drop_remove (suc n) (x ∷ xs) i = ap (λ k. drop (suc n) (remove (x ∷ xs) k)) (sym (more n i)) ∙ drop_remove n xs i

drop_next : (n : ℕ) (xs : List ℕ) → drop (suc n) xs ≡ remove (drop n xs) 0
drop_next zero xs = refl
drop_next (suc n) [] = refl
drop_next (suc n) (x ∷ xs) = drop_next n xs

module _ (nodes : List ℕ) (slots : Vec Slot Global) (start end : ℕ) (whole : Bool) (q : IsQueue nodes slots start end whole) where
  -- those that are left
  abbrev pub left : List ℕ
  left = those_in whole nodes slots.items

  pub in_it : length (drop start left) ≡ end - start
  in_it = let l = length-drop start left in omega (arith, q.size, l)

  pub within_end : (place : ℕ) → place < length (drop start left) → start + place < end
  within_end place l = omega (arith, q.within, in_it, l)

  pub within_left : (place : ℕ) → place < length (drop start left) → start + place < length left
  within_left place l = let at = within_end place l in omega (arith, at, q.size)

  nth_is : (place k : ℕ) → slice_get left (start + place) ≡ Some k → slice_get (drop start left) place ≡ Some k
  nth_is place k h = get_drop start left place ∙ h

  pub within_nodes : whole ≡ true → (place : ℕ) → place < length (drop start left) → start + place < length nodes
  within_nodes w place l = subst (λ (b : Bool). start + place < length (those_in b nodes slots.items)) w (within_left place l)

  pub left_in_slots : whole ≡ false → left ≡ those_left slots.items
  left_in_slots w = ap (λ (b : Bool). those_in b nodes slots.items) w

  pub within_slots : whole ≡ false → (place : ℕ) → place < length (drop start left) → start + place < length slots.items
  within_slots w place l = let few = few_left slots.items in let at = within_left place l in let same = ap (length {A = ℕ}) (left_in_slots w) in omega (arith, at, few, same)

  pub node_is : whole ≡ true → (place k : ℕ) → slice_get nodes (start + place) ≡ Some k → slice_get (drop start left) place ≡ Some k
  node_is w place k h = nth_is place k (ap (λ (b : Bool). slice_get (those_in b nodes slots.items) (start + place)) w ∙ h)

  pub slot_is : whole ≡ false → (place k : ℕ) → slice_get (those_left slots.items) (start + place) ≡ Some k → slice_get (drop start left) place ≡ Some k
  slot_is w place k h = nth_is place k (ap (λ (xs : List ℕ). slice_get xs (start + place)) (left_in_slots w) ∙ h)

  pub first_off : 0 < length (drop start left) → IsQueue nodes slots (start + 1) end whole
  first_off l = record { counted = q.counted; size = q.size; within = omega (arith, in_it, l); room = q.room }

  pub first_gone : drop (start + 1) left ≡ remove (drop start left) 0
  first_gone = ap (λ n. drop n left) (let e : start + 1 ≡ suc start = omega arith in e) ∙ drop_next start left

  module _ (new : Vec Slot Global) (place : ℕ) (within : place < length (drop start left)) (counted : AreCounted new.items) (taken : those_left new.items ≡ remove left (start + place)) where
    pub any_off : IsQueue nodes new start (end - 1) false
    any_off =
        let at = within_end place within in
        let less = length-remove left (start + place) (omega (arith, at, q.size)) in
        let same = ap (length {A = ℕ}) taken in
        record { counted = λ _. counted; size = omega (arith, q.size, less, same); within = omega (arith, at); room = λ w. cc }

    pub any_gone : drop start (those_left new.items) ≡ remove (drop start left) place
    any_gone = ap (drop start) taken ∙ drop_remove start left place
