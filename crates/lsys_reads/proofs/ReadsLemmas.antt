-- What each step of the relations keeps.
use Rattle.std.proofs.Common.{◌≡◌, ◌≢◌, ℕ, zero, suc, ◌+◌, ◌<◌, ◌≤◌, List, [], ◌∷◌, ◌++◌, map, length, take, get_or, Bool, true, false, not, ◌||◌, ◌&&◌, cond, ◌==◌, refl, sym, ap, subst, ◌∙◌, ◌⊎◌, inl, inr, arith, length-append}
use Rattle.std.specs.Prelude.{sum_by, nat_lt, IsPermutation}
use Rattle.std.proofs.lemmas.List.Sorted.{sum_by-IsPermutation, length_permutation}
use Rattle.std.proofs.lemmas.List.Sums.{sum_by-cons}
use Rattle.std.proofs.lemmas.Bool.Decides.{eqb_tells}
use Rattle.std.proofs.lemmas.Bool.{eq-eqb, eqb-true, ne_eqb}
use Rattle.std.proofs.lemmas.List.{take_more}
use Rattle.lsys_reads.specs.declared.Pair.{Pair}
use Rattle.lsys_reads.specs.Rows.{few, has, Row, tag_row, OtherRowsStay, IsRising, AreRising, SweepsRow, PutsTag, Reserves}
use Rattle.lsys_reads.specs.Runs.{Sights, sights_by, SightsStay, NotesSight, ClearsSights}
use Rattle.lsys_reads.proofs.RowLemmas.{either, has_at_end}
use Rattle.lsys_reads.specs.Relations.{Relations, is_settled, SettledStay, row_tags, relations_of, occurrences, seen_tag, pairs_have, Covers, KeepsPairs, LackReader, Thins}

and_swap : (a b : Bool) → (a && b) ≡ (b && a)
and_swap true true = refl
and_swap true false = refl
and_swap false true = refl
and_swap false false = refl

or_assoc : (a b c : Bool) → ((a || b) || c) ≡ (a || (b || c))
or_assoc true b c = refl
or_assoc false b c = refl

pub settled_row : (rows : List Row) (tag : ℕ) → get_or (map row_tags rows) tag [] ≡ (tag_row rows tag).tags
settled_row [] zero = refl
settled_row [] (suc tag) = refl
settled_row (r ∷ rows) zero = refl
settled_row (r ∷ rows) (suc tag) = settled_row rows tag

-- the settled relation in the rows
pub settled_is : (rows : List Row) (pending : List Pair) (reader seen : ℕ) → is_settled (relations_of rows pending) reader seen ≡ has (tag_row rows seen).tags reader
settled_is rows pending reader seen = ap (λ (l : List ℕ). has l reader) (settled_row rows seen)

pub settled_stay : (rows rows' : List Row) (pending pending' : List Pair) (old : Relations) → relations_of rows pending ≡ old → ((tag : ℕ) → (tag_row rows' tag).tags ≡ (tag_row rows tag).tags) → SettledStay old (relations_of rows' pending')
settled_stay rows rows' pending pending' old is same reader seen =
    settled_is rows' pending' reader seen ∙ ap (λ (l : List ℕ). has l reader) (same seen)
    ∙ sym (settled_is rows pending reader seen) ∙ ap (λ (v : Relations). is_settled v reader seen) is

pub times_push : (f : Pair → ℕ) (pairs : List Pair) (p : Pair) (tag : ℕ) → occurrences (map f (pairs ++ p ∷ [])) tag ≡ occurrences (map f pairs) tag + cond (f p == tag) 1 0
times_push f [] p tag = omega arith
times_push f (x ∷ pairs) p tag = let rest = times_push f pairs p tag in omega (arith, rest)

pub times_pushed : (f : Pair → ℕ) (pairs : List Pair) (p : Pair) → 0 < occurrences (map f (pairs ++ p ∷ [])) (f p)
times_pushed f pairs p =
    let more = times_push f pairs p (f p) in
    let one : ◌≡◌ {A = ℕ} (cond (f p == f p) 1 0) 1 = ap (λ (b : Bool). cond b 1 0) (eq-eqb (f p) (f p) refl) in
    omega (arith, more, one)

pub reserves_tags : (old new : List Row) (tag : ℕ) → Reserves old new tag → (q : ℕ) → (tag_row new q).tags ≡ (tag_row old q).tags
reserves_tags old new tag reserves q = elim (eqb_tells q tag) [
  | inl same ↦ ap (λ (t : ℕ). (tag_row new t).tags) same.1 ∙ ap (λ (r : Row). r.tags) reserves.row ∙ sym (ap (λ (t : ℕ). (tag_row old t).tags) same.1)
  | inr other ↦ ap (λ (r : Row). r.tags) (reserves.others q other.1)
]

-- one tag more is owed
owed_rises : (f : Pair → ℕ) (old new : List Row) (pairs : List Pair) (p : Pair) → (tag_row new (f p)).owed ≡ (tag_row old (f p)).owed + 1 → OtherRowsStay old new (f p) → ((q : ℕ) → (tag_row old q).owed ≡ occurrences (map f pairs) q) → (q : ℕ) → (tag_row new q).owed ≡ occurrences (map f (pairs ++ p ∷ [])) q
owed_rises f old new pairs p own others was q = elim (eqb_tells (f p) q) [
  | inl same ↦ subst (λ (z : ℕ). (tag_row new z).owed ≡ occurrences (map f (pairs ++ p ∷ [])) z) same.1
      (let more = times_push f pairs p (f p) in
      let one : ◌≡◌ {A = ℕ} (cond (f p == f p) 1 0) 1 = ap (λ (b : Bool). cond b 1 0) (eq-eqb (f p) (f p) refl) in
      let here = was (f p) in
      omega (arith, more, one, here, own))
  | inr other ↦
      (let more = times_push f pairs p q in
      let none : ◌≡◌ {A = ℕ} (cond (f p == q) 1 0) 0 = ap (λ (b : Bool). cond b 1 0) other.0 in
      let here = was q in
      let stays : (tag_row new q).owed ≡ (tag_row old q).owed = ap (λ (r : Row). r.owed) (others q (λ e. other.1 (sym e))) in
      omega (arith, more, none, here, stays))
]

-- one tag less is owed
owed_falls : (f : Pair → ℕ) (old new : List Row) (pairs : List Pair) (p : Pair) → (tag_row new (f p)).owed + 1 ≡ (tag_row old (f p)).owed → ((q : ℕ) → q ≢ f p → (tag_row new q).owed ≡ (tag_row old q).owed) → ((q : ℕ) → (tag_row old q).owed ≡ occurrences (map f (pairs ++ p ∷ [])) q) → (q : ℕ) → (tag_row new q).owed ≡ occurrences (map f pairs) q
owed_falls f old new pairs p own others was q = elim (eqb_tells (f p) q) [
  | inl same ↦ subst (λ (z : ℕ). (tag_row new z).owed ≡ occurrences (map f pairs) z) same.1
      (let more = times_push f pairs p (f p) in
      let one : ◌≡◌ {A = ℕ} (cond (f p == f p) 1 0) 1 = ap (λ (b : Bool). cond b 1 0) (eq-eqb (f p) (f p) refl) in
      let here = was (f p) in
      omega (arith, more, one, here, own))
  | inr other ↦
      (let more = times_push f pairs p q in
      let none : ◌≡◌ {A = ℕ} (cond (f p == q) 1 0) 0 = ap (λ (b : Bool). cond b 1 0) other.0 in
      let here = was q in
      let stays = others q (λ e. other.1 (sym e)) in
      omega (arith, more, none, here, stays))
]

or_false : (a : Bool) → (a || false) ≡ a
or_false true = refl
or_false false = refl

pub pairs_have_push : (pairs : List Pair) (p : Pair) (reader seen : ℕ) → pairs_have (pairs ++ p ∷ []) reader seen ≡ (pairs_have pairs reader seen || pairs_have (p ∷ []) reader seen)
pairs_have_push [] p reader seen = refl
pairs_have_push (x ∷ pairs) p reader seen =
    ap (λ (b : Bool). ((x.reader == reader) && (x.seen == seen)) || b) (pairs_have_push pairs p reader seen)
    ∙ sym (or_assoc ((x.reader == reader) && (x.seen == seen)) (pairs_have pairs reader seen) (pairs_have (p ∷ []) reader seen))

or_true : (a : Bool) → (a || true) ≡ true
or_true true = refl
or_true false = refl

or_cases : (a b : Bool) → (a || b) ≡ true → (a ≡ true) ⊎ (b ≡ true)
or_cases true b there = inl refl
or_cases false b there = inr there

both : (a b : Bool) → (a && b) ≡ true → (a ≡ true) × (b ≡ true)
both true b there = (refl, there)
both false b there = absurd (let wrong : false ≡ true = there in cc)

-- one pair more is pending
pub kept_add : (s s' : List Row) (r r' : Sights) (pairs : List Pair) (p : Pair) → Reserves s s' p.seen → SightsStay r r' → length r.rows ≤ length r'.rows → p.reader < length r'.rows → length pairs + 1 ≤ r'.room → KeepsPairs s r pairs → KeepsPairs s' r' (pairs ++ p ∷ [])
kept_add s s' r r' pairs p in_seen stay longer reach room kept = record {
  covers = λ reader seen there. ap (λ (l : List ℕ). has l seen) (stay reader) ∙ kept.covers reader seen (sym (ap (λ (l : List ℕ). has l reader) (reserves_tags s s' p.seen in_seen seen)) ∙ there);
  owed = owed_rises seen_tag s s' pairs p (ap (λ (x : Row). x.owed) in_seen.row) in_seen.others kept.owed;
  reach = λ reader seen there. elim (or_cases (pairs_have pairs reader seen) (pairs_have (p ∷ []) reader seen) (sym (pairs_have_push pairs p reader seen) ∙ there)) [
    | inl old ↦ (let was = kept.reach reader seen old in omega (arith, was, longer))
    | inr new ↦
        (let same : p.reader ≡ reader = eqb-true p.reader reader (both (p.reader == reader) (p.seen == seen) (sym (or_false ((p.reader == reader) && (p.seen == seen))) ∙ new)).0 in
        omega (arith, same, reach))
  ];
  room = (let size = length-append pairs (p ∷ []) in omega (arith, size, room));
}

-- the last pair is pending no more
pub kept_retract : (s s' : List Row) (r : Sights) (pairs : List Pair) (p : Pair) → Reserves s' s p.seen → KeepsPairs s r (pairs ++ p ∷ []) → KeepsPairs s' r pairs
kept_retract s s' r pairs p in_seen kept = record {
  covers = λ reader seen there. kept.covers reader seen (ap (λ (l : List ℕ). has l reader) (reserves_tags s' s p.seen in_seen seen) ∙ there);
  owed = owed_falls seen_tag s s' pairs p (sym (ap (λ (x : Row). x.owed) in_seen.row)) (λ q other. sym (ap (λ (x : Row). x.owed) (in_seen.others q other))) kept.owed;
  reach = λ reader seen there. kept.reach reader seen (pairs_have_push pairs p reader seen ∙ ap (λ (b : Bool). b || pairs_have (p ∷ []) reader seen) there);
  room = (let size = length-append pairs (p ∷ []) in let was = kept.room in omega (arith, size, was));
}

-- what a table has after a put
pub puts_has : (old new : List Row) (tag other : ℕ) → PutsTag old new tag other → (q x : ℕ) → has (tag_row new q).tags x ≡ (((tag == q) && (other == x)) || has (tag_row old q).tags x)
puts_has old new tag other puts q x = elim (eqb_tells tag q) [
  | inl same ↦ subst (λ (z : ℕ). has (tag_row new z).tags x ≡ (((tag == z) && (other == x)) || has (tag_row old z).tags x)) same.1
      (puts.tags x ∙ sym (ap (λ (b : Bool). (b && (other == x)) || has (tag_row old tag).tags x) (eq-eqb tag tag refl)))
  | inr apart ↦ ap (λ (r : Row). has r.tags x) (puts.others q (λ e. apart.1 (sym e)))
      ∙ sym (ap (λ (b : Bool). (b && (other == x)) || has (tag_row old q).tags x) apart.0)
]

-- the last pair is settled
pub kept_put : (s s' : List Row) (r r' : Sights) (pairs : List Pair) (p : Pair) → PutsTag s s' p.seen p.reader → NotesSight r r' p.reader p.seen → KeepsPairs s r (pairs ++ p ∷ []) → KeepsPairs s' r' pairs
kept_put s s' r r' pairs p in_seen notes kept = record {
  covers = λ reader seen there. elim (or_cases ((p.seen == seen) && (p.reader == reader)) (has (tag_row s seen).tags reader) (sym (puts_has s s' p.seen p.reader in_seen seen reader) ∙ there)) [
    | inl new ↦
        (let same = both (p.seen == seen) (p.reader == reader) new in
        ap (λ (k : ℕ). has (sights_by r' k) seen) (sym (eqb-true p.reader reader same.1))
        ∙ notes.own seen (ap (λ (b : Bool). b || has (sights_by r p.reader) seen) same.0))
    | inr old ↦ elim (eqb_tells reader p.reader) [
      | inl same ↦
          (let was : has (sights_by r p.reader) seen ≡ true = ap (λ (k : ℕ). has (sights_by r k) seen) (sym same.1) ∙ kept.covers reader seen old in
          ap (λ (k : ℕ). has (sights_by r' k) seen) same.1 ∙ notes.own seen (ap (λ (b : Bool). (p.seen == seen) || b) was ∙ or_true (p.seen == seen)))
      | inr apart ↦ ap (λ (l : List ℕ). has l seen) (notes.others reader apart.1) ∙ kept.covers reader seen old
    ]
  ];
  owed = owed_falls seen_tag s s' pairs p in_seen.owed (λ q other. ap (λ (x : Row). x.owed) (in_seen.others q other)) kept.owed;
  reach = λ reader seen there.
      (let was = kept.reach reader seen (pairs_have_push pairs p reader seen ∙ ap (λ (b : Bool). b || pairs_have (p ∷ []) reader seen) there) in
      let same = notes.reach in omega (arith, was, same));
  room = (let size = length-append pairs (p ∷ []) in let was = kept.room in let room = notes.room in omega (arith, size, was, room));
}

moves : (a b c : Bool) → ((b || a) || c) ≡ (a || (c || b))
moves true true c = refl
moves true false c = refl
moves false true true = refl
moves false true false = refl
moves false false true = refl
moves false false false = refl

-- in another order the pending pairs are the same ones
times_sum : (f : Pair → ℕ) (pairs : List Pair) (tag : ℕ) → occurrences (map f pairs) tag ≡ sum_by (λ p. cond (f p == tag) 1 0) pairs
times_sum f [] tag = refl
times_sum f (p ∷ pairs) tag = ap (λ n. cond (f p == tag) 1 0 + n) (times_sum f pairs tag) ∙ sym (sum_by-cons (λ p. cond (f p == tag) 1 0) p pairs)

times_in_order : (f : Pair → ℕ) (pairs pairs' : List Pair) (tag : ℕ) → IsPermutation pairs pairs' → occurrences (map f pairs') tag ≡ occurrences (map f pairs) tag
times_in_order f pairs pairs' tag p = times_sum f pairs' tag ∙ sum_by-IsPermutation (λ p. cond (f p == tag) 1 0) pairs pairs' p ∙ sym (times_sum f pairs tag)

pairs_have_sum : (pairs : List Pair) (reader seen : ℕ) → pairs_have pairs reader seen ≡ nat_lt 0 (sum_by (λ p. cond ((p.reader == reader) && (p.seen == seen)) 1 0) pairs)
pairs_have_sum [] reader seen = refl
pairs_have_sum (p ∷ pairs) reader seen =
    ap (λ (b : Bool). ((p.reader == reader) && (p.seen == seen)) || b) (pairs_have_sum pairs reader seen)
    ∙ sym (either ((p.reader == reader) && (p.seen == seen)) (sum_by (λ p. cond ((p.reader == reader) && (p.seen == seen)) 1 0) pairs))
    ∙ ap (nat_lt 0) (sym (sum_by-cons (λ p. cond ((p.reader == reader) && (p.seen == seen)) 1 0) p pairs))

pub pairs_have_in_order : (pairs pairs' : List Pair) (reader seen : ℕ) → IsPermutation pairs pairs' → pairs_have pairs' reader seen ≡ pairs_have pairs reader seen
pairs_have_in_order pairs pairs' reader seen p =
    pairs_have_sum pairs' reader seen ∙ ap (nat_lt 0) (sum_by-IsPermutation (λ p. cond ((p.reader == reader) && (p.seen == seen)) 1 0) pairs pairs' p) ∙ sym (pairs_have_sum pairs reader seen)

pub kept_in_order : (s : List Row) (r : Sights) (pairs pairs' : List Pair) → IsPermutation pairs pairs' → KeepsPairs s r pairs → KeepsPairs s r pairs'
kept_in_order s r pairs pairs' p kept = record {
  covers = kept.covers;
  owed = λ tag. kept.owed tag ∙ sym (times_in_order seen_tag pairs pairs' tag p);
  reach = λ reader seen there. kept.reach reader seen (sym (pairs_have_in_order pairs pairs' reader seen p) ∙ there);
  room = (let size = length_permutation pairs pairs' p in let was = kept.room in omega (arith, size, was));
}

pub reserves_rise : (old new : List Row) (tag : ℕ) → Reserves old new tag → AreRising old → AreRising new
reserves_rise old new tag reserves rising q = subst IsRising (sym (reserves_tags old new tag reserves q)) (rising q)

pub releases_rise : (old new : List Row) (tag : ℕ) → Reserves new old tag → AreRising old → AreRising new
releases_rise old new tag reserves rising q = subst IsRising (reserves_tags new old tag reserves q) (rising q)

false_unless : (b : Bool) → (b ≡ true → false ≡ true) → b ≡ false
false_unless true never = sym (never refl)
false_unless false _ = refl

-- a row more that the reader is taken out of
pub thins_more : (s s' s2 : List Row) (tag reader : ℕ) (gone : List ℕ) → Thins s s' reader gone → SweepsRow s' s2 tag reader gone → Thins s s2 reader gone
thins_more s s' s2 tag reader gone so_far step = record {
  kept = λ other seen apart among. elim (eqb_tells seen tag) [
    | inl same ↦ subst (λ (z : ℕ). has (tag_row s2 z).tags other ≡ has (tag_row s z).tags other) (sym same.1) (step.tags.kept other apart among ∙ so_far.kept other tag apart among)
    | inr far ↦ ap (λ (x : Row). has x.tags other) (step.others seen far.1) ∙ so_far.kept other seen apart among
  ];
  fewer = λ other seen there. so_far.fewer other seen (elim (eqb_tells seen tag) [
    | inl same ↦ subst (λ (z : ℕ). has (tag_row s' z).tags other ≡ true) (sym same.1) (step.tags.fewer other (ap (λ (z : ℕ). has (tag_row s2 z).tags other) (sym same.1) ∙ there))
    | inr far ↦ sym (ap (λ (x : Row). has x.tags other) (step.others seen far.1)) ∙ there
  ]);
  owed = λ q. elim (eqb_tells q tag) [
    | inl same ↦ subst (λ (z : ℕ). (tag_row s2 z).owed ≡ (tag_row s z).owed) (sym same.1) (step.owed ∙ so_far.owed tag)
    | inr far ↦ ap (λ (x : Row). x.owed) (step.others q far.1) ∙ so_far.owed q
  ];
  rising = λ q. elim (eqb_tells q tag) [
    | inl same ↦ subst (λ (z : ℕ). IsRising (tag_row s2 z).tags) (sym same.1) step.rising
    | inr far ↦ subst (λ (x : Row). IsRising x.tags) (sym (step.others q far.1)) (so_far.rising q)
  ];
}

pub lost_more : (s' s2 : List Row) (tag reader seen : ℕ) (gone : List ℕ) → SweepsRow s' s2 tag reader gone → (seen ≢ tag → has (tag_row s' seen).tags reader ≡ false) → has (tag_row s2 seen).tags reader ≡ false
lost_more s' s2 tag reader seen gone step before = elim (eqb_tells seen tag) [
  | inl same ↦ subst (λ (z : ℕ). has (tag_row s2 z).tags reader ≡ false) (sym same.1) step.tags.lost
  | inr far ↦ ap (λ (x : Row). has x.tags reader) (step.others seen far.1) ∙ before far.1
]

-- of these tags and the next one it is none but the next, or one of them
pub among : (tags : List ℕ) (at tag seen : ℕ) → at < length tags → tag ≡ get_or tags at 0 → seen ≢ tag → has (take (at + 1) tags) seen ≡ true → has (take at tags) seen ≡ true
among tags at tag seen within is far there =
    ap (λ (b : Bool). b || has (take at tags) seen) (sym (ne_eqb (get_or tags at 0) seen (λ e. far (sym e ∙ sym is))))
    ∙ sym (has_at_end (take at tags) (get_or tags at 0) seen) ∙ sym (ap (λ (l : List ℕ). has l seen) (take_more tags at 0 within)) ∙ there

-- a reader that was taken out of all rows of what it saw is in none
pub none_left_of : (s s' : List Row) (r : Sights) (reader : ℕ) (gone tags : List ℕ) → Covers s r → tags ≡ sights_by r reader → Thins s s' reader gone → LackReader tags s' reader → (seen : ℕ) → has (tag_row s' seen).tags reader ≡ false
none_left_of s s' r reader gone tags covers is thins lost seen =
    false_unless (has (tag_row s' seen).tags reader) (λ still.
    sym (lost seen (ap (λ (l : List ℕ). has l seen) is ∙ covers reader seen (thins.fewer reader seen still))) ∙ still)

-- the readers in `gone` are in no row, but for those in `rest`
pub record ForgetsDownTo (s s' : List Row) (r r' : Sights) (gone rest : List ℕ) : Type 0 where
  pub covers : Covers s' r'
  pub within : (other : ℕ) → has rest other ≡ true → has gone other ≡ true
  pub none : (other seen : ℕ) → has gone other ≡ true → has rest other ≡ false → has (tag_row s' seen).tags other ≡ false
  pub kept : (other seen : ℕ) → has gone other ≡ false → has (tag_row s' seen).tags other ≡ has (tag_row s seen).tags other
  pub owed : (tag : ℕ) → (tag_row s' tag).owed ≡ (tag_row s tag).owed
  pub rising : AreRising s'
  pub reach : length r'.rows ≡ length r.rows
  pub room : r'.room ≡ r.room

pub forgets_last : (s s' s2 : List Row) (r r' r2 : Sights) (gone rest before : List ℕ) (reader : ℕ) → rest ≡ before ++ reader ∷ [] → ForgetsDownTo s s' r r' gone rest
    → Thins s' s2 reader gone → ((seen : ℕ) → has (tag_row s2 seen).tags reader ≡ false) → ClearsSights r' r2 reader → ForgetsDownTo s s2 r r2 gone before
forgets_last s s' s2 r r' r2 gone rest before reader split so_far thins empty clears =
    let split_has : (other : ℕ) → has rest other ≡ ((reader == other) || has before other) = λ other. ap (λ (l : List ℕ). has l other) split ∙ has_at_end before reader other in
    let member : has gone reader ≡ true = so_far.within reader (split_has reader ∙ ap (λ (b : Bool). b || has before reader) (eq-eqb reader reader refl)) in
    let apart : (other : ℕ) → has gone other ≡ false → other ≢ reader = λ other among e. let wrong : true ≡ false = sym member ∙ ap (has gone) (sym e) ∙ among in cc in
    record {
      covers = λ other seen there. elim (eqb_tells other reader) [
        | inl same ↦ absurd (let wrong : false ≡ true = sym (empty seen) ∙ ap (λ (z : ℕ). has (tag_row s2 seen).tags z) (sym same.1) ∙ there in cc)
        | inr far ↦ ap (λ (l : List ℕ). has l seen) (clears.others other far.1) ∙ so_far.covers other seen (thins.fewer other seen there)
      ];
      within = λ other there. so_far.within other (split_has other ∙ ap (λ (b : Bool). (reader == other) || b) there ∙ or_true (reader == other));
      none = λ other seen there lacks. elim (eqb_tells reader other) [
        | inl same ↦ subst (λ (z : ℕ). has (tag_row s2 seen).tags z ≡ false) same.1 (empty seen)
        | inr far ↦ false_unless (has (tag_row s2 seen).tags other) (λ still.
            sym (so_far.none other seen there (split_has other ∙ ap (λ (b : Bool). b || has before other) far.0 ∙ lacks)) ∙ thins.fewer other seen still)
      ];
      kept = λ other seen among. thins.kept other seen (apart other among) among ∙ so_far.kept other seen among;
      owed = λ tag. thins.owed tag ∙ so_far.owed tag;
      rising = thins.rising;
      reach = clears.reach ∙ so_far.reach;
      room = clears.room ∙ so_far.room;
    }

pub kept_forgets : (s s' : List Row) (r r' : Sights) (pending : List Pair) (gone : List ℕ) → KeepsPairs s r pending → ForgetsDownTo s s' r r' gone [] → KeepsPairs s' r' pending
kept_forgets s s' r r' pending gone kept all = record {
  covers = all.covers;
  owed = λ tag. all.owed tag ∙ kept.owed tag;
  reach = λ reader seen there. (let was = kept.reach reader seen there in let same = all.reach in omega (arith, was, same));
  room = (let was = kept.room in let same = all.room in omega (arith, was, same));
}

pub forgets_all : (s s' : List Row) (r r' : Sights) (pending pending' : List Pair) (gone : List ℕ) (old : Relations) → relations_of s pending ≡ old → ForgetsDownTo s s' r r' gone [] → (reader seen : ℕ) → is_settled (relations_of s' pending') reader seen ≡ (not (has gone reader) && is_settled old reader seen)
forgets_all s s' r r' pending pending' gone old is all reader seen = settled_is s' pending' reader seen ∙ told (has gone reader) refl
  where
    told : (b : Bool) → has gone reader ≡ b → has (tag_row s' seen).tags reader ≡ (not (has gone reader) && is_settled old reader seen)
    told true there = all.none reader seen there refl ∙ sym (ap (λ (b : Bool). not b && is_settled old reader seen) there)
    told false lacks = all.kept reader seen lacks ∙ sym (settled_is s pending reader seen) ∙ ap (λ (v : Relations). is_settled v reader seen) is
        ∙ sym (ap (λ (b : Bool). not b && is_settled old reader seen) lacks)

-- pending pairs are settled: a row rises once no more than a few are owed there
abbrev pub RiseUnlessOwed : List Row → Type 0
RiseUnlessOwed rows = (tag : ℕ) → (tag_row rows tag).owed ≤ few → IsRising (tag_row rows tag).tags

pub record Settles (s s' : List Row) (r' : Sights) (pending pending' : List Pair) : Type 0 where
  pub kept : KeepsPairs s' r' pending'
  pub either : (reader seen : ℕ) → (has (tag_row s' seen).tags reader || pairs_have pending' reader seen) ≡ (has (tag_row s seen).tags reader || pairs_have pending reader seen)
  pub rising : RiseUnlessOwed s'

rise_put : (old new : List Row) (tag other : ℕ) → PutsTag old new tag other → ((tag_row new tag).owed ≤ few → IsRising (tag_row new tag).tags) → RiseUnlessOwed old → RiseUnlessOwed new
rise_put old new tag other puts own was q some = elim (eqb_tells tag q) [
  | inl same ↦ subst (λ (z : ℕ). IsRising (tag_row new z).tags) same.1 (own (subst (λ (z : ℕ). (tag_row new z).owed ≤ few) (sym same.1) some))
  | inr far ↦
      (let stays = puts.others q (λ e. far.1 (sym e)) in
      subst (λ (r : Row). IsRising r.tags) (sym stays) (was q (subst (λ (r : Row). r.owed ≤ few) stays some)))
]

pub settles_one : (s s' s2 : List Row) (r' r2 : Sights) (pending pending' left : List Pair) (p : Pair) → Settles s s' r' pending pending' → pending' ≡ left ++ p ∷ []
    → PutsTag s' s2 p.seen p.reader → ((tag_row s2 p.seen).owed ≤ few → IsRising (tag_row s2 p.seen).tags) → NotesSight r' r2 p.reader p.seen → Settles s s2 r2 pending left
settles_one s s' s2 r' r2 pending pending' left p so_far pushed in_seen rise notes = record {
  kept = kept_put s' s2 r' r2 left p in_seen notes (subst (KeepsPairs s' r') pushed so_far.kept);
  either = λ reader seen.
      ap (λ (b : Bool). b || pairs_have left reader seen) (puts_has s' s2 p.seen p.reader in_seen seen reader ∙ ap (λ (b : Bool). b || has (tag_row s' seen).tags reader) (and_swap (p.seen == seen) (p.reader == reader) ∙ sym (or_false _)))
      ∙ moves (has (tag_row s' seen).tags reader) (pairs_have (p ∷ []) reader seen) (pairs_have left reader seen)
      ∙ ap (λ (b : Bool). has (tag_row s' seen).tags reader || b) (sym (pairs_have_push left p reader seen) ∙ sym (ap (λ (l : List Pair). pairs_have l reader seen) pushed))
      ∙ so_far.either reader seen;
  rising = rise_put s' s2 p.seen p.reader in_seen rise so_far.rising;
}

-- what is settled may be put: its row is owed it, and what its reader saw has room
pub put_has_room : (s : List Row) (r : Sights) (pairs left : List Pair) (p : Pair) → KeepsPairs s r pairs → pairs ≡ left ++ p ∷ [] → (p.reader < length r.rows) × (0 < r.room)
put_has_room s r pairs left p kept pushed = (
  kept.reach p.reader p.seen (ap (λ (l : List Pair). pairs_have l p.reader p.seen) pushed ∙ pairs_have_push left p p.reader p.seen
      ∙ ap (λ (b : Bool). pairs_have left p.reader p.seen || b) own ∙ or_true (pairs_have left p.reader p.seen)),
  (let size = ap length pushed ∙ length-append left (p ∷ []) in let was = kept.room in omega (arith, size, was)),
)
  where
    own : pairs_have (p ∷ []) p.reader p.seen ≡ true
    own = ap (λ (b : Bool). (b && (p.seen == p.seen)) || false) (eq-eqb p.reader p.reader refl) ∙ ap (λ (b : Bool). b || false) (eq-eqb p.seen p.seen refl)
