-- A forest of two levels that is built: its levels are complete.
use Rattle.std.proofs.Common.{◌≡◌, ◌≢◌, ◌+◌, ◌<◌, ◌≤◌, ◌^◌, ℕ, zero, suc, true, false, List, [], ◌∷◌, ◌++◌, length, map, take, drop, get_or, Option, Some, None, refl, sym, ap, ◌∙◌, arith, inl, inr, subst, append_assoc}
use Rattle.std.specs.Prelude.{cond}
use Rattle.std.proofs.lemmas.Bool.{cases_eq}
use Rattle.std.proofs.lemmas.List.{append-nil}
use Rattle.std.proofs.lemmas.Option.{none-some, same_Some}
use Rattle.lsys_spec.specs.Rows.{In, AreApart, flat}
use Rattle.lsys_syntax.specs.Strings.{balanced}
use Rattle.lsys_spec.specs.Levels.{level_balanced}
use Rattle.lsys_module.specs.Views.{string_of}
use Rattle.lsys_module.specs.declared.symbol.Symbol.{Symbol}
use Rattle.lsys_module.specs.declared.symbol.Symbol.TheVariants.{Push, Pop, Cut, Module}
use Rattle.lsys_level.specs.Spots.{Spotted, level_by, named, with_lineage}
use Rattle.lsys_level.specs.Places.{seen_in, bare_symbol, has_cut}
use Rattle.lsys_level.proofs.Bare.{bare_balanced}
use Rattle.lsys_forest.specs.Nodes.{Node, Nodes, with_node, with_kids}
use Rattle.lsys_forest.specs.Groves.{IsUnder, AreKids}
use Rattle.lsys_forest.specs.Rows.{kids_in, spot_in, level_spots, complete_from}
use Rattle.lsys_forest.proofs.StockLemmas.{put_same, put_other}
use Rattle.lsys_forest.proofs.LinkLemmas.{flat_same}
use Rattle.lsys_forest.proofs.RowLemmas.{In_left, In_right, apart_append, apart_parts, flat_append}

flat_none : (f : ℕ → List ℕ) (xs : List ℕ) → ((k : ℕ) → In k xs → f k ≡ []) → flat f xs ≡ []
flat_none f [] none = refl
flat_none f (x ∷ xs) none = ap (λ (l : List ℕ). l ++ flat f xs) (none x (inl refl)) ∙ flat_none f xs (λ k h. none k (inr h))

drop_push : (ys : List Symbol) (x : Symbol) → 0 < length ys → drop 1 (ys ++ x ∷ []) ≡ drop 1 ys ++ x ∷ []
drop_push [] x some = absurd (omega (arith, some))
drop_push (y ∷ ys) x some = refl

two_complete : (levels : ℕ → List Spotted) (most : ℕ) → level_balanced 0 (level_by (λ tag. []) (levels 0)) ≡ true → level_balanced 0 (level_by (λ tag. []) (levels 1)) ≡ true → 2 ≤ length (complete_from levels (suc (suc most)) 0)
two_complete levels most one two =
    let e = ap (λ b. length (cond b (levels 0 ∷ complete_from levels (suc most) 1) [])) one in
    let f = ap (λ b. length (cond b (levels 1 ∷ complete_from levels most 2) [])) two in
    omega (arith, e, f)

get_any : (xs : List ℕ) (i d e : ℕ) → i < length xs → get_or xs i d ≡ get_or xs i e
get_any [] i d e within = absurd (omega (arith, within))
get_any (x ∷ xs) zero d e within = refl
get_any (x ∷ xs) (suc i) d e within = get_any xs i d e (omega (arith, within))

length_parts : (ys zs : List ℕ) → length (ys ++ zs) ≡ length ys + length zs
length_parts [] zs = omega arith
length_parts (y ∷ ys) zs = omega (arith, length_parts ys zs)

pub whole_at : (xs : List Symbol) (i : ℕ) (s : Symbol) → has_cut xs ≡ false → i < length xs → s ≡ get_or xs i s → s ≢ Cut
whole_at [] i s whole within is e = absurd (omega (arith, within))
whole_at (Push ∷ xs) zero s whole within is e = let f : Push ≡ Cut = sym is ∙ e in cc
whole_at (Pop ∷ xs) zero s whole within is e = let f : Pop ≡ Cut = sym is ∙ e in cc
whole_at (Cut ∷ xs) i s whole within is e = cc
whole_at (Module m ∷ xs) zero s whole within is e = let f : Module m ≡ Cut = sym is ∙ e in cc
whole_at (Push ∷ xs) (suc i) s whole within is e = whole_at xs i s whole (omega (arith, within)) is e
whole_at (Pop ∷ xs) (suc i) s whole within is e = whole_at xs i s whole (omega (arith, within)) is e
whole_at (Module m ∷ xs) (suc i) s whole within is e = whole_at xs i s whole (omega (arith, within)) is e

take_suc : (xs : List Symbol) (i : ℕ) (x : Symbol) → i < length xs → x ≡ get_or xs i x → take (suc i) xs ≡ take i xs ++ x ∷ []
take_suc [] i x within is = absurd (omega (arith, within))
take_suc (y ∷ xs) zero x within is = ap (λ z. z ∷ []) (sym is)
take_suc (y ∷ xs) (suc i) x within is = ap (λ l. y ∷ l) (take_suc xs i x (omega (arith, within)) is)

pub take_next : (xs : List Symbol) (i : ℕ) (x : Symbol) → i < length xs → x ≡ get_or xs i x → take (i + 1) xs ≡ take i xs ++ x ∷ []
take_next xs i x within is = (let next : i + 1 ≡ suc i = omega arith in ap (λ n. take n xs) next) ∙ take_suc xs i x within is

pub take_long : (xs : List Symbol) (i : ℕ) → i ≤ length xs → length (take i xs) ≡ i
take_long xs zero within = refl
take_long [] (suc i) within = absurd (omega (arith, within))
take_long (x ∷ xs) (suc i) within = omega (arith, take_long xs i (omega (arith, within)))

pub take_whole : (xs : List Symbol) (i : ℕ) → length xs ≤ i → take i xs ≡ xs
take_whole [] zero within = refl
take_whole [] (suc i) within = refl
take_whole (x ∷ xs) zero within = absurd (omega (arith, within))
take_whole (x ∷ xs) (suc i) within = ap (λ l. x ∷ l) (take_whole xs i (omega (arith, within)))

module _ {A : Type 0} where
  -- a node with this symbol, and no children
  pub record IsGrown (m : Nodes A) (root k : ℕ) (x : Symbol) : Type 0 where
    pub node : Node A
    pub is : m k ≡ Some node
    pub parent : node.parent ≡ root
    pub seen : node.seen ≡ seen_in x
    pub kids : node.kids ≡ []
    pub other : k ≢ root

  abbrev pub AreGrown : Nodes A → ℕ → List ℕ → List Symbol → Type 0
  AreGrown m root [] [] = Unit {0}
  AreGrown m root [] (x ∷ xs) = ⊥
  AreGrown m root (k ∷ ks) [] = ⊥
  AreGrown m root (k ∷ ks) (x ∷ xs) = IsGrown m root k x × AreGrown m root ks xs

  -- nodes with these symbols
  pub record IsSeen (m : Nodes A) (k : ℕ) (x : Symbol) : Type 0 where
    pub node : Node A
    pub is : m k ≡ Some node
    pub seen : node.seen ≡ seen_in x

  abbrev pub AreSeen : Nodes A → List ℕ → List Symbol → Type 0
  AreSeen m [] [] = Unit {0}
  AreSeen m [] (x ∷ xs) = ⊥
  AreSeen m (k ∷ ks) [] = ⊥
  AreSeen m (k ∷ ks) (x ∷ xs) = IsSeen m k x × AreSeen m ks xs

  -- 1. the first level

  pub grown_kept : (m m' : Nodes A) (root : ℕ) (ks : List ℕ) (xs : List Symbol) → ((k : ℕ) (n : Node A) → k ≢ root → m k ≡ Some n → m' k ≡ Some n) → AreGrown m root ks xs → AreGrown m' root ks xs
  grown_kept m m' root [] [] same g = tt
  grown_kept m m' root [] (x ∷ xs) same g = g
  grown_kept m m' root (k ∷ ks) [] same g = g
  grown_kept m m' root (k ∷ ks) (x ∷ xs) same g =
      let one = g.0 in
      (record { node = one.node; is = same k one.node one.other one.is; parent = one.parent; seen = one.seen; kids = one.kids; other = one.other }, grown_kept m m' root ks xs same g.1)

  pub grown_push : (m : Nodes A) (root : ℕ) (ks : List ℕ) (xs : List Symbol) (k : ℕ) (x : Symbol) → AreGrown m root ks xs → IsGrown m root k x → AreGrown m root (ks ++ k ∷ []) (xs ++ x ∷ [])
  grown_push m root [] [] k x g one = (one, tt)
  grown_push m root [] (y ∷ xs) k x g one = absurd g
  grown_push m root (j ∷ ks) [] k x g one = absurd g
  grown_push m root (j ∷ ks) (y ∷ xs) k x g one = (g.0, grown_push m root ks xs k x g.1 one)

  pub grown_long : (m : Nodes A) (root : ℕ) (ks : List ℕ) (xs : List Symbol) → AreGrown m root ks xs → length ks ≡ length xs
  grown_long m root [] [] g = refl
  grown_long m root [] (x ∷ xs) g = absurd g
  grown_long m root (k ∷ ks) [] g = absurd g
  grown_long m root (k ∷ ks) (x ∷ xs) g = omega (arith, grown_long m root ks xs g.1)

  grown_under : (m : Nodes A) (root : ℕ) (ks : List ℕ) (xs : List Symbol) → AreGrown m root ks xs → (k : ℕ) → In k ks → IsUnder m root root k × (kids_in (m k) ≡ [])
  grown_under m root [] xs g k h = absurd h
  grown_under m root (j ∷ ks) [] g k h = absurd g
  grown_under m root (j ∷ ks) (x ∷ xs) g k (inl e) =
      let one = g.0 in
      let is = ap m e ∙ one.is in
      (record { node = one.node; is = is; parent_is = one.parent; other = λ same. one.other (sym e ∙ same) }, ap kids_in is ∙ one.kids)
  grown_under m root (j ∷ ks) (x ∷ xs) g k (inr h) = grown_under m root ks xs g.1 k h

  pub grown_kids : (m : Nodes A) (root : ℕ) (ks : List ℕ) (xs : List Symbol) → AreGrown m root ks xs → AreApart ks → AreKids m root root ks
  grown_kids m root ks xs g apart = record { under = λ x h. (grown_under m root ks xs g x h).0; apart = apart }

  -- one symbol more
  pub first_step : (m m' : Nodes A) (root : ℕ) (ks : List ℕ) (xs : List Symbol) (i k : ℕ) (x : Symbol) (top born : Node A) → AreGrown m root ks (take i xs) → AreApart ks → i < length xs → x ≡ get_or xs i x → m root ≡ Some top → m k ≡ None → born.parent ≡ root → born.seen ≡ seen_in x → born.kids ≡ [] → m' ≡ with_node m k (Some born) → AreGrown m' root (ks ++ k ∷ []) (take (i + 1) xs) × AreApart (ks ++ k ∷ []) × (m' root ≡ Some top)
  first_step m m' root ks xs i k x top born grown apart within is there vacant parent seen kids e =
      let far : (j : ℕ) (n : Node A) → m j ≡ Some n → m' j ≡ Some n = λ j n live. ap (λ (f : Nodes A). f j) e ∙ put_other m k j (Some born) (λ same. none-some n (sym vacant ∙ sym (ap m same) ∙ live)) ∙ live in
      let other : k ≢ root = λ same. none-some top (sym vacant ∙ ap m same ∙ there) in
      let new : (j : ℕ) → In j ks → In j (k ∷ []) → ⊥ = λ j h one. elim one [
        | inl same ↦ (let u = (grown_under m root ks (take i xs) grown j h).0 in none-some u.node (sym vacant ∙ sym (ap m same) ∙ u.is))
        | inr none ↦ none
      ] in (
        subst (AreGrown m' root (ks ++ k ∷ [])) (sym (take_next xs i x within is)) (grown_push m' root ks (take i xs) k x (grown_kept m m' root ks (take i xs) (λ j n ne live. far j n live) grown)
            (record { node = born; is = ap (λ (f : Nodes A). f k) e ∙ put_same m k k (Some born) refl; parent = parent; seen = seen; kids = kids; other = other })),
        apart_append ks (k ∷ []) apart (λ h. h, tt) new,
        far root top there,
      )

  -- 2. the second level

  grown_seen : (m : Nodes A) (root : ℕ) (ks : List ℕ) (xs : List Symbol) → AreGrown m root ks xs → AreSeen m ks xs
  grown_seen m root [] [] g = tt
  grown_seen m root [] (x ∷ xs) g = g
  grown_seen m root (k ∷ ks) [] g = g
  grown_seen m root (k ∷ ks) (x ∷ xs) g = (record { node = g.0.node; is = g.0.is; seen = g.0.seen }, grown_seen m root ks xs g.1)

  -- each node that lives keeps its symbol
  abbrev pub Keeps : Nodes A → Nodes A → Type 0
  Keeps m m' = (k : ℕ) (n : Node A) → m k ≡ Some n → (n' : Node A) × (m' k ≡ Some n') × (n'.seen ≡ n.seen)

  seen_kept : (m m' : Nodes A) (ks : List ℕ) (xs : List Symbol) → Keeps m m' → AreSeen m ks xs → AreSeen m' ks xs
  seen_kept m m' [] [] same s = tt
  seen_kept m m' [] (x ∷ xs) same s = s
  seen_kept m m' (k ∷ ks) [] same s = s
  seen_kept m m' (k ∷ ks) (x ∷ xs) same s =
      let r = same k s.0.node s.0.is in
      (record { node = r.0; is = r.1; seen = r.2 ∙ s.0.seen }, seen_kept m m' ks xs same s.1)

  seen_push : (m : Nodes A) (ks : List ℕ) (xs : List Symbol) (k : ℕ) (x : Symbol) → AreSeen m ks xs → IsSeen m k x → AreSeen m (ks ++ k ∷ []) (xs ++ x ∷ [])
  seen_push m [] [] k x s one = (one, tt)
  seen_push m [] (y ∷ xs) k x s one = absurd s
  seen_push m (j ∷ ks) [] k x s one = absurd s
  seen_push m (j ∷ ks) (y ∷ xs) k x s one = (s.0, seen_push m ks xs k x s.1 one)

  seen_live : (m : Nodes A) (ks : List ℕ) (xs : List Symbol) → AreSeen m ks xs → (k : ℕ) → In k ks → (n : Node A) × (m k ≡ Some n)
  seen_live m [] xs s k h = absurd h
  seen_live m (j ∷ ks) [] s k h = absurd s
  seen_live m (j ∷ ks) (x ∷ xs) s k (inl e) = (s.0.node, ap m e ∙ s.0.is)
  seen_live m (j ∷ ks) (x ∷ xs) s k (inr h) = seen_live m ks xs s.1 k h

  -- The first nodes of the first level have their children: those of the second level so far. The others have none.
  pub record IsHalf (m : Nodes A) (root : ℕ) (ks : List ℕ) (xs : List Symbol) (at : ℕ) : Type 0 where
    pub top : kids_in (m root) ≡ ks
    pub first : AreSeen m ks xs
    pub apart : AreApart ks
    pub other : (k : ℕ) → In k ks → k ≢ root
    pub done : List ℕ
    pub left : List ℕ
    pub whole : ks ≡ done ++ left
    pub reached : length done ≡ at
    pub second : AreSeen m (flat (λ k. kids_in (m k)) done) (drop 1 (take at xs))
    pub none : (k : ℕ) → In k left → kids_in (m k) ≡ []

  pub half_start : (m m' : Nodes A) (root : ℕ) (ks : List ℕ) (xs : List Symbol) (top : Node A) → AreGrown m root ks xs → AreApart ks → m' ≡ with_node m root (Some (with_kids ks top)) → 0 < length xs → IsHalf m' root ks xs 1
  half_start m m' root [] [] top g apart e some = absurd (omega (arith, some))
  half_start m m' root [] (x ∷ xs) top g apart e some = absurd g
  half_start m m' root (k ∷ ks) [] top g apart e some = absurd g
  half_start m m' root (k ∷ ks) (x ∷ xs) top g apart e some =
      let kept : (j : ℕ) (n : Node A) → j ≢ root → m j ≡ Some n → m' j ≡ Some n = λ j n other is. ap (λ (f : Nodes A). f j) e ∙ put_other m root j (Some (with_kids (k ∷ ks) top)) other ∙ is in
      let grown = grown_kept m m' root (k ∷ ks) (x ∷ xs) kept g in
      let under = grown_under m' root (k ∷ ks) (x ∷ xs) grown in
      record {
        top = ap (λ (f : Nodes A). kids_in (f root)) e ∙ ap kids_in (put_same m root root (Some (with_kids (k ∷ ks) top)) refl);
        first = grown_seen m' root (k ∷ ks) (x ∷ xs) grown;
        apart = apart;
        other = λ j h. (under j h).0.other;
        done = k ∷ [];
        left = ks;
        whole = refl;
        reached = refl;
        second = subst (λ l. AreSeen m' l []) (sym (flat_none (λ j. kids_in (m' j)) (k ∷ []) (λ j h. elim h [ inl same ↦ (under j (inl same)).1 | inr none ↦ absurd none ]))) tt;
        none = λ j h. (under j (inr h)).1;
      }

  pub half_step : (m m1 m2 : Nodes A) (root : ℕ) (ks : List ℕ) (xs : List Symbol) (at k c : ℕ) (x : Symbol) (born n : Node A) → (h : IsHalf m root ks xs at) → (left : List ℕ) → h.left ≡ k ∷ left → 0 < at → take (at + 1) xs ≡ take at xs ++ x ∷ [] → length (take at xs) ≡ at → m c ≡ None → born.seen ≡ seen_in x → born.kids ≡ [] → m k ≡ Some n → m1 ≡ with_node m c (Some born) → m2 ≡ with_node m1 k (Some (with_kids (c ∷ []) n)) → IsHalf m2 root ks xs (at + 1)
  half_step m m1 m2 root ks xs at k c x born n h left here some more long vacant seen bare_kids is e1 e2 =
      let whole : ks ≡ h.done ++ k ∷ left = h.whole ∙ ap (λ (l : List ℕ). h.done ++ l) here in
      let parts = apart_parts h.done (k ∷ left) (subst AreApart whole h.apart) in
      let inside : In k ks = subst (In k) (sym whole) (In_right k h.done (k ∷ left) (inl refl)) in
      let fresh : (j : ℕ) (o : Node A) → m j ≡ Some o → j ≢ c = λ j o live same. none-some o (sym vacant ∙ sym (ap m same) ∙ live) in
      let far : (j : ℕ) → j ≢ k → j ≢ c → m2 j ≡ m j = λ j ne nc. ap (λ (f : Nodes A). f j) e2 ∙ put_other m1 k j (Some (with_kids (c ∷ []) n)) ne ∙ ap (λ (f : Nodes A). f j) e1 ∙ put_other m c j (Some born) nc in
      let at_k : m2 k ≡ Some (with_kids (c ∷ []) n) = ap (λ (f : Nodes A). f k) e2 ∙ put_same m1 k k (Some (with_kids (c ∷ []) n)) refl in
      let keeps : Keeps m m2 = λ j o live. elim (cases_eq j k) [
        | inl same ↦ (with_kids (c ∷ []) n, ap m2 same ∙ at_k, ap (λ (y : Node A). y.seen) (same_Some n o (sym is ∙ sym (ap m same) ∙ live)))
        | inr ne ↦ (o, far j ne (fresh j o live) ∙ live, refl)
      ] in
      let kc : c ≢ k = λ same. fresh k n is (sym same) in
      let at_c : m2 c ≡ Some born = ap (λ (f : Nodes A). f c) e2 ∙ put_other m1 k c (Some (with_kids (c ∷ []) n)) kc ∙ ap (λ (f : Nodes A). f c) e1 ∙ put_same m c c (Some born) refl in
      let live_in : (j : ℕ) → In j ks → (o : Node A) × (m j ≡ Some o) = seen_live m ks xs h.first in
      let kids_far : (j : ℕ) → In j ks → j ≢ k → kids_in (m2 j) ≡ kids_in (m j) = λ j i ne. let o = live_in j i in ap kids_in (far j ne (fresh j o.0 o.1)) in
      let front : (j : ℕ) → In j h.done → In j ks = λ j i. subst (In j) (sym whole) (In_left j h.done (k ∷ left) i) in
      let back : (j : ℕ) → In j left → In j ks = λ j i. subst (In j) (sym whole) (In_right j h.done (k ∷ left) (inr i)) in
      let flat_is : flat (λ j. kids_in (m2 j)) (h.done ++ k ∷ []) ≡ flat (λ j. kids_in (m j)) h.done ++ c ∷ [] =
      flat_append (λ j. kids_in (m2 j)) h.done (k ∷ [])
      ∙ ap (λ (l : List ℕ). l ++ flat (λ j. kids_in (m2 j)) (k ∷ [])) (flat_same (λ j. kids_in (m2 j)) (λ j. kids_in (m j)) h.done (λ j i. kids_far j (front j i) (λ same. parts.2 j i (inl same))))
      ∙ ap (λ (l : List ℕ). flat (λ j. kids_in (m j)) h.done ++ (l ++ [])) (ap kids_in at_k) in
      let symbols : drop 1 (take (at + 1) xs) ≡ drop 1 (take at xs) ++ x ∷ [] = ap (drop 1) more ∙ drop_push (take at xs) x (omega (arith, long, some)) in
      let root_far : kids_in (m2 root) ≡ kids_in (m root) = top_kept (m root) refl far fresh keeps in
      record {
        top = root_far ∙ h.top;
        first = seen_kept m m2 ks xs keeps h.first;
        apart = h.apart;
        other = h.other;
        done = h.done ++ k ∷ [];
        left = left;
        whole = whole ∙ sym (append_assoc h.done (k ∷ []) left);
        reached = omega (arith, length_last h.done k, h.reached);
        second = subst (AreSeen m2 (flat (λ j. kids_in (m2 j)) (h.done ++ k ∷ []))) (sym symbols) (subst (λ l. AreSeen m2 l (drop 1 (take at xs) ++ x ∷ [])) (sym flat_is)
            (seen_push m2 (flat (λ j. kids_in (m j)) h.done) (drop 1 (take at xs)) c x (seen_kept m m2 (flat (λ j. kids_in (m j)) h.done) (drop 1 (take at xs)) keeps h.second) (record { node = born; is = at_c; seen = seen })));
        none = λ j i. kids_far j (back j i) (λ same. parts.1.0 (subst (λ u. In u left) same i)) ∙ h.none j (subst (In j) (sym here) (inr i));
      }
    where
      length_last : (ys : List ℕ) (y : ℕ) → length (ys ++ y ∷ []) ≡ length ys + 1
      length_last [] y = omega arith
      length_last (z ∷ ys) y = omega (arith, length_last ys y)

      top_kept : (o : Option (Node A)) → m root ≡ o → ((j : ℕ) → j ≢ k → j ≢ c → m2 j ≡ m j) → ((j : ℕ) (u : Node A) → m j ≡ Some u → j ≢ c) → Keeps m m2 → kids_in (m2 root) ≡ kids_in (m root)
      top_kept (Some u) live far fresh keeps = ap kids_in (far root (λ same. h.other k (subst (In k) (sym (h.whole ∙ ap (λ (l : List ℕ). h.done ++ l) here)) (In_right k h.done (k ∷ left) (inl refl))) (sym same)) (fresh root u live))
      top_kept None live far fresh keeps = absurd (empty ks (sym (ap kids_in live) ∙ h.top) (subst (In k) (sym (h.whole ∙ ap (λ (l : List ℕ). h.done ++ l) here)) (In_right k h.done (k ∷ left) (inl refl))))
        where
          empty : (l : List ℕ) → [] ≡ l → In k l → ⊥
          empty [] e i = i
          empty (y ∷ l) e i = grind (arith, e)

  -- the node whose turn it is
  pub turn : (m : Nodes A) (root : ℕ) (ks : List ℕ) (xs : List Symbol) (at : ℕ) → (h : IsHalf m root ks xs at) → at < length ks → (k : ℕ) × (left : List ℕ) × (h.left ≡ k ∷ left) × (get_or ks at 0 ≡ k)
  turn m root ks xs at h within = go h.left refl
    where
      read : (ys : List ℕ) (y : ℕ) (zs : List ℕ) (i : ℕ) → length ys ≡ i → get_or (ys ++ y ∷ zs) i 0 ≡ y
      read [] y zs zero e = refl
      read [] y zs (suc i) e = absurd (omega (arith, e))
      read (x ∷ ys) y zs zero e = absurd (omega (arith, e))
      read (x ∷ ys) y zs (suc i) e = read ys y zs i (omega (arith, e))

      go : (l : List ℕ) → h.left ≡ l → (k : ℕ) × (left : List ℕ) × (h.left ≡ k ∷ left) × (get_or ks at 0 ≡ k)
      go [] e = absurd (let long = ap length (h.whole ∙ ap (λ (l : List ℕ). h.done ++ l) e ∙ append-nil h.done) in omega (arith, long, h.reached, within))
      go (k ∷ left) e = (k, left, e, ap (λ (l : List ℕ). get_or l at 0) (h.whole ∙ ap (λ (l : List ℕ). h.done ++ l) e) ∙ read h.done k left at h.reached)

  -- the node whose turn it is, which lives
  pub record IsTurn (m : Nodes A) (left : List ℕ) (k : ℕ) : Type 0 where
    pub rest : List ℕ
    pub first : left ≡ k ∷ rest
    pub node : Node A
    pub is : m k ≡ Some node

  pub turn_at : (m : Nodes A) (root : ℕ) (ks : List ℕ) (xs : List Symbol) (at p : ℕ) → (h : IsHalf m root ks xs at) → at < length ks → p ≡ get_or ks at p → IsTurn m h.left p
  turn_at m root ks xs at p h within is =
      let t = turn m root ks xs at h within in
      let same : t.0 ≡ p = sym t.3 ∙ get_any ks at 0 p within ∙ sym is in
      let inside : In t.0 ks = subst (In t.0) (sym (h.whole ∙ ap (λ (l : List ℕ). h.done ++ l) t.2)) (In_right t.0 h.done (t.0 ∷ t.1) (inl refl)) in
      let s = seen_live m ks xs h.first t.0 inside in
      record { rest = t.1; first = t.2 ∙ ap (λ j. j ∷ t.1) same; node = s.0; is = ap m (sym same) ∙ s.1 }

  pub half_end : (m : Nodes A) (root : ℕ) (ks : List ℕ) (xs : List Symbol) (at : ℕ) → IsHalf m root ks xs at → length ks ≡ length xs → length xs ≤ at → at ≡ length xs
  half_end m root ks xs at h long end = let l = ap length h.whole in omega (arith, l, length_parts h.done h.left, h.reached, long, end)

  pub root_lives : (m : Nodes A) (root : ℕ) (ks : List ℕ) (xs : List Symbol) (at : ℕ) → IsHalf m root ks xs at → 0 < length ks → m root ≢ None
  root_lives m root ks xs at h some none = let e = ap length (sym (ap kids_in none) ∙ h.top) in omega (arith, e, some)

  -- a node that was added has its parent
  pub lone_kid : (m m' : Nodes A) (root p k : ℕ) (born : Node A) → m k ≡ None → m root ≢ None → born.parent ≡ p → m' ≡ with_node m k (Some born) → AreKids m' root p (k ∷ [])
  lone_kid m m' root p k born vacant lives parent e = record {
    under = λ x h. elim h [
      | inl same ↦ record { node = born; is = ap (λ (f : Nodes A). f x) e ∙ put_same m k x (Some born) same; parent_is = parent; other = λ f. lives (ap m (sym f ∙ same) ∙ vacant) }
      | inr none ↦ absurd none
    ];
    apart = (λ h. h, tt);
  }

  -- 3. both are complete

  seen_bare : (m : Nodes A) (ks : List ℕ) (xs : List Symbol) → AreSeen m ks xs → level_by (λ tag. []) (map (λ k. spot_in k (m k)) ks) ≡ map bare_symbol xs
  seen_bare m [] [] s = refl
  seen_bare m [] (x ∷ xs) s = absurd s
  seen_bare m (k ∷ ks) [] s = absurd s
  seen_bare m (k ∷ ks) (x ∷ xs) s =
      ap (λ (o : Option (Node A)). named (λ tag. []) (spot_in k o) ∷ level_by (λ tag. []) (map (λ j. spot_in j (m j)) ks)) s.0.is
      ∙ ap (λ y. with_lineage [] y ∷ level_by (λ tag. []) (map (λ j. spot_in j (m j)) ks)) s.0.seen
      ∙ ap (λ l. bare_symbol x ∷ l) (seen_bare m ks xs s.1)

  seen_balanced : (m : Nodes A) (ks : List ℕ) (xs : List Symbol) → AreSeen m ks xs → balanced 0 (string_of xs) ≡ true → level_balanced 0 (level_by (λ tag. []) (map (λ k. spot_in k (m k)) ks)) ≡ true
  seen_balanced m ks xs s b = ap (level_balanced 0) (seen_bare m ks xs s) ∙ bare_balanced 0 xs b

  pub both_complete : (m : Nodes A) (root : ℕ) (ks : List ℕ) (xs : List Symbol) → IsHalf m root ks xs (length xs) → length ks ≡ length xs → take (length xs) xs ≡ xs → balanced 0 (string_of xs) ≡ true → balanced 0 (string_of (drop 1 xs)) ≡ true → 2 ≤ length (complete_from (level_spots m root) (2 ^ 32) 0)
  both_complete m root ks xs h long all one two =
      let none : h.left ≡ [] = empty h.left (let l = ap length h.whole in let a = length_parts h.done h.left in omega (arith, l, a, h.reached, long)) in
      let done : ks ≡ h.done = h.whole ∙ ap (λ (l : List ℕ). h.done ++ l) none ∙ append-nil h.done in
      let second = subst (λ l. AreSeen m (flat (λ k. kids_in (m k)) h.done) (drop 1 l)) all h.second in
      two_complete (level_spots m root) 4294967294
      (ap (λ (l : List ℕ). level_balanced 0 (level_by (λ tag. []) (map (λ k. spot_in k (m k)) l))) h.top ∙ seen_balanced m ks xs h.first one)
      (ap (λ (l : List ℕ). level_balanced 0 (level_by (λ tag. []) (map (λ k. spot_in k (m k)) (flat (λ k. kids_in (m k)) l)))) (h.top ∙ done) ∙ seen_balanced m (flat (λ k. kids_in (m k)) h.done) (drop 1 xs) second two)
    where
      empty : (l : List ℕ) → length l ≡ 0 → l ≡ []
      empty [] e = refl
      empty (y ∷ l) e = absurd (omega (arith, e))
