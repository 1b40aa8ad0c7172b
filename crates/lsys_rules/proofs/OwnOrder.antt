-- Own lists in the order of their tables' words: where one goes, and what is left without one.
use Rattle.std.proofs.Common.{◌≡◌, ℕ, suc, ◌+◌, ◌-◌, ◌≤◌, Bool, true, false, not, ◌&&◌, ◌||◌, ◌==◌, cond, nat_lt, List, [], ◌∷◌, ◌++◌, Option, Some, None, map, length, insert, remove, position, unwrap_or, bytes_eq, refl, ap, subst, sym, ◌∙◌, arith, true≢false, if◌then◌else◌}
use Rattle.std.proofs.lemmas.Bool.{eqb-true, ltb-false, ltb-true}
use Rattle.std.proofs.lemmas.List.{length-map}
use Rattle.std.proofs.lemmas.Cmp.{nat_list_cmp_total}
use Rattle.std.specs.List.{position_or_len}
use Rattle.std.specs.Map.{keys_of, remove_entry}
use Rattle.std.specs.Option.{option_map_or}
use Rattle.std.specs.Ordering.{nat_cmp, is_lt, is_eq, ordering_then, ordering_reverse}
use Rattle.std.specs.Cmp.Lexicographic.{slice_cmp}
use Rattle.std.specs.declared.cmp.Ordering.{Ordering}
use Rattle.std.specs.declared.cmp.Ordering.TheVariants.{Less, Equal, Greater}
use Rattle.indexmap.specs.IndexMap.{insert_entry, move_index, index_before}
use Rattle.indexmap.proofs.MoveLemmas.{push_moved}
use Rattle.lsys_spec.specs.Systems as spec
use Rattle.lsys_spec.specs.Systems.{comes_before, in_order, Each, Apart}
use Rattle.lsys_spec.specs.Edits.{put_own, without_own}
use Rattle.lsys_laws.proofs.Aparts.{apart_dropped, bytes_eq_true, bytes_eq_sym}
use Rattle.lsys_laws.proofs.Orders.{Unordered, ordered_put_own, own_dropped}
use Rattle.lsys_rules.specs.InsideRules.{HaveOwnLabels}
use Rattle.lsys_rules.specs.OwnPlaces.{place_in}
use Rattle.lsys_rules.proofs.Labels.{own_removed, values_of, values_removed, without_at}

-- 1. the order of words is that of their bytes

pub before_compared : (a b : List ℕ) → comes_before a b ≡ is_lt (slice_cmp nat_cmp a b)
before_compared [] [] = refl
before_compared (x ∷ a) [] = refl
before_compared [] (y ∷ b) = refl
before_compared (x ∷ a) (y ∷ b) = by (nat_lt x y) (x == y) (before_compared a b)
  where
    by : (l e : Bool) → comes_before a b ≡ is_lt (slice_cmp nat_cmp a b) → (l || (e && comes_before a b)) ≡ is_lt (ordering_then (cond l Less (cond e Equal Greater)) (slice_cmp nat_cmp a b))
    by true e h = refl
    by false true h = h
    by false false h = refl

less : (o : Ordering) → is_lt o ≡ true → o ≡ Less
less Less h = refl
less Equal h = cc
less Greater h = cc

compared : (a b : List ℕ) → comes_before a b ≡ true → slice_cmp nat_cmp a b ≡ Less
compared a b h = less (slice_cmp nat_cmp a b) (sym (before_compared a b) ∙ h)

not_less : (o : Ordering) → o ≡ ordering_reverse o → is_lt o ≡ false
not_less Less h = cc
not_less Equal h = refl
not_less Greater h = refl

never : (a : List ℕ) → comes_before a a ≡ false
never a = before_compared a a ∙ not_less (slice_cmp nat_cmp a a) (nat_list_cmp_total.antisymm a a)

before_all : (a b c : List ℕ) → comes_before a b ≡ true → comes_before b c ≡ true → comes_before a c ≡ true
before_all a b c h g = before_compared a c ∙ ap is_lt (nat_list_cmp_total.trans a b c (compared a b h) (compared b c g))

tied : (a b : List ℕ) → bytes_eq a b ≡ is_eq (slice_cmp nat_cmp a b)
tied [] [] = refl
tied (x ∷ a) [] = refl
tied [] (y ∷ b) = refl
tied (x ∷ a) (y ∷ b) = by (nat_lt x y) (x == y) refl refl (tied a b)
  where
    by : (l e : Bool) → nat_lt x y ≡ l → (x == y) ≡ e → bytes_eq a b ≡ is_eq (slice_cmp nat_cmp a b) → (e && bytes_eq a b) ≡ is_eq (ordering_then (cond l Less (cond e Equal Greater)) (slice_cmp nat_cmp a b))
    by true true l e h = absurd (omega (arith, ltb-true x y l, eqb-true x y e))
    by true false l e h = refl
    by false true l e h = h
    by false false l e h = refl

turned : (o : Ordering) → is_eq o ≡ false → is_lt (ordering_reverse o) ≡ not (is_lt o)
turned Less h = refl
turned Equal h = cc
turned Greater h = refl

-- of two words one comes before the other
before_turned : (a b : List ℕ) → bytes_eq a b ≡ false → comes_before b a ≡ not (comes_before a b)
before_turned a b h =
    before_compared b a ∙ ap is_lt (nat_list_cmp_total.antisymm b a) ∙ turned (slice_cmp nat_cmp a b) (sym (tied a b) ∙ h) ∙ ap not (sym (before_compared a b))

-- 2. where a list goes

abbrev Entry : Type 0
Entry = List ℕ × spec.Own

module _ (o : spec.Own) (t : List ℕ) where
  -- the entries with this list for its table
  abbrev put_entry : List Entry → List Entry
  put_entry [] = (t, o) ∷ []
  put_entry (e ∷ es) = if bytes_eq t e.0 then (e.0, o) ∷ es else if comes_before e.1.table t then e ∷ put_entry es else (t, o) ∷ e ∷ es

  abbrev spot : List Entry → ℕ
  spot es = position_or_len (bytes_eq t) (keys_of es)

  -- those that `insert_before` makes
  abbrev moved : List Entry → List Entry
  moved es = move_index (insert_entry bytes_eq es t o) (spot es) (index_before (spot es) (place_in (values_of es) t))

  -- a table before that of a list is none of the later ones
  apart : (u k : List ℕ) → comes_before t u ≡ true → not (comes_before u k) ≡ false → bytes_eq t k ≡ false
  apart u k h g = by (bytes_eq t k) refl
    where
      truth : (b : Bool) → not b ≡ false → b ≡ true
      truth true e = refl
      truth false e = cc

      by : (b : Bool) → bytes_eq t k ≡ b → b ≡ false
      by false e = refl
      by true e =
          let same : k ≡ t = sym (bytes_eq_true t k e) in
          let round : comes_before t t ≡ true = ap (comes_before t) (sym same) ∙ before_all t u k h (truth (comes_before u k) g) in
          absurd (true≢false (sym round ∙ never t))

  late_entry : (u : List ℕ) (es : List Entry) → comes_before t u ≡ true → HaveOwnLabels (λ q. q.table) es → Each (λ q. not (comes_before u q.table) ≡ false) (values_of es) → insert_entry bytes_eq es t o ≡ es ++ (t, o) ∷ []
  late_entry u [] h own g = refl
  late_entry u (e ∷ es) h own g =
      let other : bytes_eq t e.0 ≡ false = ap (bytes_eq t) (sym own.0) ∙ apart u e.1.table h g.0 in
      ap (λ b. if b then (e.0, o) ∷ es else e ∷ insert_entry bytes_eq es t o) other ∙ ap (λ l. e ∷ l) (late_entry u es h own.1 g.1)

  late_spot : (u : List ℕ) (es : List Entry) → comes_before t u ≡ true → HaveOwnLabels (λ q. q.table) es → Each (λ q. not (comes_before u q.table) ≡ false) (values_of es) → spot es ≡ length es
  late_spot u [] h own g = refl
  late_spot u (e ∷ es) h own g =
      let other : bytes_eq t e.0 ≡ false = ap (bytes_eq t) (sym own.0) ∙ apart u e.1.table h g.0 in
      ap (λ b. cond (not b) (1 + spot es) 0) other ∙ ap (λ n. 1 + n) (late_spot u es h own.1 g.1) ∙ omega arith

  within : (e : Entry) (r : Option Entry) (f : Entry → List Entry) (d : List Entry) → option_map_or (λ y. e ∷ f y) r (e ∷ d) ≡ e ∷ option_map_or f r d
  within e None f d = refl
  within e (Some y) f d = refl

  one_less : (a b : ℕ) → index_before (suc a) (suc b) ≡ suc (index_before a b)
  one_less a b = by (nat_lt (suc a) (suc b)) (nat_lt a b) refl refl
    where
      by : (c d : Bool) → nat_lt (suc a) (suc b) ≡ c → nat_lt a b ≡ d → (if c then suc b - 1 else suc b) ≡ suc (if d then b - 1 else b)
      by true true h g = omega (arith, ltb-true a b g)
      by false false h g = refl
      by true false h g = absurd (omega (arith, ltb-true (suc a) (suc b) h, ltb-false a b g))
      by false true h g = absurd (omega (arith, ltb-false (suc a) (suc b) h, ltb-true a b g))

  move_after : (e : Entry) (xs : List Entry) (a b : ℕ) → move_index (e ∷ xs) (1 + a) (index_before (1 + a) (suc b)) ≡ e ∷ move_index xs a (index_before a b)
  move_after e xs a b =
      let next : 1 + a ≡ suc a = omega arith in
      ap (λ n. move_index (e ∷ xs) n (index_before n (suc b))) next ∙ ap (move_index (e ∷ xs) (suc a)) (one_less a b)
      ∙ within e _ (λ y. insert (remove xs a) (index_before a b) y) xs

  move_first : (e : Entry) (es : List Entry) → move_index (e ∷ (es ++ (t, o) ∷ [])) (1 + length es) (index_before (1 + length es) 0) ≡ (t, o) ∷ e ∷ es
  move_first e es =
      let next : 1 + length es ≡ length (e ∷ es) = omega arith in
      ap (λ n. move_index ((e ∷ es) ++ (t, o) ∷ []) n (index_before n 0)) next
      ∙ ap (move_index ((e ∷ es) ++ (t, o) ∷ []) (length (e ∷ es))) (first (nat_lt (length (e ∷ es)) 0)) ∙ push_moved (e ∷ es) (t, o) 0 (omega arith)
    where
      first : (b : Bool) → (if b then 0 - 1 else 0) ≡ 0
      first true = refl
      first false = refl

  pub moved_put : (es : List Entry) → HaveOwnLabels (λ q. q.table) es → Apart Unordered (values_of es) → moved es ≡ put_entry es
  moved_put [] own h = refl
  moved_put (e ∷ es) own h = by (bytes_eq t e.0) (comes_before e.1.table t) refl refl (moved_put es own.1 h.1)
    where
      by : (b c : Bool) → bytes_eq t e.0 ≡ b → comes_before e.1.table t ≡ c → moved es ≡ put_entry es
          → move_index (if b then (e.0, o) ∷ es else e ∷ insert_entry bytes_eq es t o) (cond (not b) (1 + spot es) 0) (index_before (cond (not b) (1 + spot es) 0) (if c then suc (place_in (values_of es) t) else 0))
          ≡ (if b then (e.0, o) ∷ es else if c then e ∷ put_entry es else (t, o) ∷ e ∷ es)
      by true true k g rest =
          let same : e.1.table ≡ t = own.0 ∙ sym (bytes_eq_true t e.0 k) in
          absurd (true≢false (sym g ∙ ap (λ u. comes_before u t) same ∙ never t))
      by true false k g rest = refl
      by false true k g rest = move_after e (insert_entry bytes_eq es t o) (spot es) (place_in (values_of es) t) ∙ ap (λ l. e ∷ l) rest
      by false false k g rest =
          let other : bytes_eq e.1.table t ≡ false = bytes_eq_sym e.1.table t ∙ ap (bytes_eq t) own.0 ∙ k in
          let first : comes_before t e.1.table ≡ true = before_turned e.1.table t other ∙ ap not g in
          let entries = late_entry e.1.table es first own.1 h.0 in
          let last = late_spot e.1.table es first own.1 h.0 in
          ap (λ n. move_index (e ∷ insert_entry bytes_eq es t o) (1 + n) (index_before (1 + n) 0)) last
          ∙ ap (λ l. move_index (e ∷ l) (1 + length es) (index_before (1 + length es) 0)) entries ∙ move_first e es

  pub own_put_entry : (es : List Entry) → o.table ≡ t → HaveOwnLabels (λ q. q.table) es → HaveOwnLabels (λ q. q.table) (put_entry es)
  own_put_entry [] is own = (is, tt)
  own_put_entry (e ∷ es) is own = by (bytes_eq t e.0) (comes_before e.1.table t) refl (own_put_entry es is own.1)
    where
      by : (b c : Bool) → bytes_eq t e.0 ≡ b → HaveOwnLabels (λ q. q.table) (put_entry es) → HaveOwnLabels (λ q. q.table) (if b then (e.0, o) ∷ es else if c then e ∷ put_entry es else (t, o) ∷ e ∷ es)
      by true c k rest = (is ∙ bytes_eq_true t e.0 k, own.1)
      by false true k rest = (own.0, rest)
      by false false k rest = (is, own)

  pub values_put_entry : (es : List Entry) → o.table ≡ t → HaveOwnLabels (λ q. q.table) es → values_of (put_entry es) ≡ put_own o (values_of es)
  values_put_entry [] is own = refl
  values_put_entry (e ∷ es) is own =
      let same : bytes_eq e.1.table o.table ≡ bytes_eq t e.0 = ap (λ u. bytes_eq u o.table) own.0 ∙ ap (bytes_eq e.0) is ∙ bytes_eq_sym e.0 t in
      by (bytes_eq t e.0) (comes_before e.1.table t) (bytes_eq e.1.table o.table) (in_order o e.1) same
      (λ k. ap (λ u. comes_before u e.1.table) is ∙ before_turned e.1.table t (ap (bytes_eq e.1.table) (sym is) ∙ same ∙ k)) (values_put_entry es is own.1)
    where
      by : (b c d f : Bool) → d ≡ b → (b ≡ false → f ≡ not c) → values_of (put_entry es) ≡ put_own o (values_of es)
          → values_of (if b then (e.0, o) ∷ es else if c then e ∷ put_entry es else (t, o) ∷ e ∷ es) ≡ (if d then o ∷ values_of es else if f then o ∷ e.1 ∷ values_of es else e.1 ∷ put_own o (values_of es))
      by true c true f k g rest = refl
      by true c false f k g rest = cc
      by false c true f k g rest = cc
      by false true false f k g rest = rw (g refl) (ap (λ l. e.1 ∷ l) rest)
      by false false false f k g rest = rw (g refl) refl

-- what is kept of the entries with one list more
module _ (o : spec.Own) (t : List ℕ) (place to : ℕ) (es old new : List Entry) (is : o.table ≡ t) (copied : old ≡ es) (at : to ≡ index_before (spot o t old) place) (found : place ≡ place_in (values_of es) t)
    (made : new ≡ move_index (insert_entry bytes_eq old t o) (spot o t old) to) (own : HaveOwnLabels (λ q. q.table) es) (ordered : Apart Unordered (values_of es)) where
  put_made : new ≡ put_entry o t es
  put_made =
      made ∙ ap (move_index (insert_entry bytes_eq old t o) (spot o t old)) (at ∙ ap (index_before (spot o t old)) found)
      ∙ ap (λ l. move_index (insert_entry bytes_eq l t o) (spot o t l) (index_before (spot o t l) (place_in (values_of es) t))) copied ∙ moved_put o t es own ordered

  pub put_values : values_of new ≡ put_own o (values_of es)
  put_values = ap values_of put_made ∙ values_put_entry o t es is own

  pub put_kept : HaveOwnLabels (λ q. q.table) new × Apart Unordered (values_of new)
  put_kept = (subst (HaveOwnLabels (λ q. q.table)) (sym put_made) (own_put_entry o t es is own), subst (Apart Unordered) (sym put_values) (ordered_put_own o (values_of es) ordered))

-- how many lists stand before a table's, as a search finds it

counted_before : (t : List ℕ) (os : List spec.Own) → position_or_len (λ q. not (comes_before q.table t)) os ≡ place_in os t
counted_before t [] = refl
counted_before t (q ∷ os) = by (comes_before q.table t) (counted_before t os)
  where
    by : (b : Bool) → position_or_len (λ q. not (comes_before q.table t)) os ≡ place_in os t
        → cond (not (not b)) (1 + position_or_len (λ q. not (comes_before q.table t)) os) 0 ≡ (if b then suc (place_in os t) else 0)
    by true h = ap (λ n. 1 + n) h ∙ omega arith
    by false h = refl

place_within : (t : List ℕ) (os : List spec.Own) → place_in os t ≤ length os
place_within t [] = omega arith
place_within t (q ∷ os) = by (comes_before q.table t) (place_within t os)
  where
    by : (b : Bool) → place_in os t ≤ length os → (if b then suc (place_in os t) else 0) ≤ length (q ∷ os)
    by true h = omega (arith, h)
    by false h = omega arith

pub place_within_entries : (t : List ℕ) (es : List Entry) → place_in (values_of es) t ≤ length es
place_within_entries t es = omega (arith, place_within t (values_of es), length-map es (λ e. e.1))

pub place_found : (t : List ℕ) (os : List spec.Own) → unwrap_or (position (λ q. not (comes_before q.table t)) os) (length os) ≡ place_in os t
place_found t os =
    ap (λ n. unwrap_or (cond (nat_lt n (length os)) (Some n) None) (length os)) (counted_before t os) ∙ by (nat_lt (place_in os t) (length os)) refl
  where
    by : (b : Bool) → nat_lt (place_in os t) (length os) ≡ b → unwrap_or (cond b (Some (place_in os t)) None) (length os) ≡ place_in os t
    by true h = refl
    by false h = omega (arith, place_within t os, ltb-false (place_in os t) (length os) h)

-- 3. the lists without one

lists_without : (t : List ℕ) (os : List spec.Own) → without_at (λ q. q.table) t os ≡ without_own t os
lists_without t [] = refl
lists_without t (q ∷ os) = ap (λ l. if bytes_eq q.table t then os else q ∷ l) (lists_without t os)

pub lists_removed : (es : List Entry) (t : List ℕ) → HaveOwnLabels (λ q. q.table) es → values_of (remove_entry (bytes_eq t) es) ≡ without_own t (values_of es)
lists_removed es t own = values_removed (λ q. q.table) es t own ∙ lists_without t (values_of es)

pub removed_kept : (es new : List Entry) (t : List ℕ) → new ≡ remove_entry (bytes_eq t) es → HaveOwnLabels (λ q. q.table) es → Apart Unordered (values_of es) → HaveOwnLabels (λ q. q.table) new × Apart Unordered (values_of new)
removed_kept es new t made own ordered =
    let values = ap values_of made ∙ lists_removed es t own in (
      subst (HaveOwnLabels (λ q. q.table)) (sym made) (own_removed (λ q. q.table) es t own),
      subst (Apart Unordered) (sym values) (apart_dropped Unordered (values_of es) (without_own t (values_of es)) (own_dropped t (values_of es)) ordered),
    )

-- 4. the tables that have one

pub keys_tables : (es : List Entry) → HaveOwnLabels (λ q. q.table) es → keys_of es ≡ map (λ q. q.table) (values_of es)
keys_tables [] own = refl
keys_tables (e ∷ es) own = ap (λ k. k ∷ keys_of es) (sym own.0) ∙ ap (λ l. e.1.table ∷ l) (keys_tables es own.1)
