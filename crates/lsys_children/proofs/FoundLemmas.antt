-- Which old children are found by the numbers of those that are wanted.
use Rattle.std.proofs.Common.{◌≡◌, ◌≤◌, ◌&&◌, ◌||◌, ℕ, zero, suc, slice_get, Bool, true, false, List, [], ◌∷◌, length, map, Option, Some, None, refl, sym, ap, ◌∙◌, arith, inl, inr, subst}
use Rattle.std.specs.Prelude.{cond, IsSome, nat_eq}
use Rattle.std.proofs.lemmas.Bool.{cases_eq, ne_eqb}
use Rattle.std.proofs.lemmas.Option.{none-some, same_Some}
use Rattle.lsys_spec.specs.Rows.{In}
use Rattle.lsys_forest.specs.Nodes.{Node, Nodes}
use Rattle.lsys_forest.specs.Groves.{Grove, now_of, changes_in, IsRooted}
use Rattle.lsys_children.specs.declared.number.Number.{Number}
use Rattle.lsys_children.specs.declared.child.Child.{Child}
use Rattle.lsys_children.specs.Matches.{same_child_number, has_number, AreDifferent, some_or, node_number, number_of, node_numbered}
use Rattle.lsys_children.specs.Children.{numbers_of, AreFoundOrBorn, IsFoundOrBorn}
use Rattle.lsys_children.specs.Steps.{WasFound, FoundOnce, IsOldChild}

eq_is : (a b : ℕ) → nat_eq a b ≡ true → a ≡ b
eq_is a b h = elim (cases_eq a b) [ inl e ↦ e | inr ne ↦ absurd (grind (arith, h, ne_eqb a b ne)) ]

both : (a b : Bool) → (a && b) ≡ true → (a ≡ true) × (b ≡ true)
both true b h = (refl, h)
both false b h = absurd (grind (arith, h))

pub same_is : (a b : Number) → same_child_number a b ≡ true → a ≡ b
same_is a b h =
    let e = both (nat_eq a.code b.code) (nat_eq a.count b.count) h in
    let code = eq_is a.code b.code e.0 in
    let count = eq_is a.count b.count e.1 in
    λ i. record { code = code i; count = count i }

pub number_there : (ws : List Child) (i : ℕ) (w : Child) → slice_get ws i ≡ Some w → slice_get (numbers_of ws) i ≡ Some w.number
number_there [] i w h = absurd (none-some w h)
number_there (v ∷ ws) zero w h = ap (λ (x : Child). Some x.number) (same_Some v w h)
number_there (v ∷ ws) (suc i) w h = number_there ws i w h

pub numbers_long : (ws : List Child) (i : ℕ) → length ws ≤ i → length (numbers_of ws) ≤ i
numbers_long [] i h = omega arith
numbers_long (w ∷ ws) zero h = absurd (omega (arith, h))
numbers_long (w ∷ ws) (suc i) h = omega (arith, numbers_long ws i (omega (arith, h)))

module _ {A : Type 0} where
  -- a node that is found is one of these, and has the number
  pub numbered_is : (m : Nodes A) (ks : List ℕ) (q : Number) (k : ℕ) → node_numbered m ks q ≡ Some k → In k ks × (same_child_number (number_of m k) q ≡ true)
  numbered_is m [] q k h = absurd (none-some k h)
  numbered_is m (x ∷ ks) q k h = go (node_numbered m ks q) (same_child_number (number_of m x) q) refl (numbered_is m ks q k) h
    where
      go : (o : Option ℕ) (b : Bool) → same_child_number (number_of m x) q ≡ b → (o ≡ Some k → In k ks × (same_child_number (number_of m k) q ≡ true)) → some_or o (cond b (Some x) None) ≡ Some k → In k (x ∷ ks) × (same_child_number (number_of m k) q ≡ true)
      go (Some j) b f later h = let r = later h in (inr r.0, r.1)
      go None true f later h = let same = same_Some x k h in (inl (sym same), subst (λ i. same_child_number (number_of m i) q ≡ true) same f)
      go None false f later h = absurd (none-some k h)

  pub found_has : (m : Nodes A) (ks : List ℕ) (qs : List Number) (k : ℕ) → WasFound k (map (node_numbered m ks) qs) → In k ks × (has_number qs (number_of m k) ≡ true)
  found_has m ks [] k h = absurd h
  found_has m ks (q ∷ qs) k (inl e) =
      let r = numbered_is m ks q k e in
      let same = same_is (number_of m k) q r.1 in
      (r.0, grind (arith, subst (λ (x : Number). same_child_number x (number_of m k) ≡ true) same (subst (λ (x : Number). same_child_number (number_of m k) x ≡ true) (sym same) r.1)))
  found_has m ks (q ∷ qs) k (inr h) = let r = found_has m ks qs k h in (r.0, or_right (same_child_number q (number_of m k)) r.1)
    where
      or_right : (a : Bool) {b : Bool} → b ≡ true → (a || b) ≡ true
      or_right true h = refl
      or_right false h = h

  pub found_once : (m : Nodes A) (ks : List ℕ) (qs : List Number) → AreDifferent qs → FoundOnce (map (node_numbered m ks) qs)
  found_once m ks [] apart = tt
  found_once m ks (q ∷ qs) apart = (
    λ j here later.
        let same = same_is (number_of m j) q (numbered_is m ks q j here).1 in
        let has = subst (λ (x : Number). has_number qs x ≡ true) same (found_has m ks qs j later).1 in
        absurd (grind (arith, has, apart.0)),
    found_once m ks qs apart.1,
  )

  -- an old child is neither its parent nor the root
  pub found_old : (f : Grove A) (parent : ℕ) (p : Node A) (qs : List Number) → IsRooted f.root (changes_in f) (now_of f) → now_of f parent ≡ Some p → (k : ℕ) → WasFound k (map (node_numbered (now_of f) p.kids) qs) → IsOldChild f parent k
  found_old f parent p qs sound is k found =
      let m = now_of f in
      let u = (sound.own parent p is).under k (found_has m p.kids qs k found).0 in
      let held = sound.held k u.node u.is u.other in
      let up = same_Some held.parent p (sym held.is ∙ ap m u.parent_is ∙ is) in
      record {
        lives = subst IsSome (sym u.is) refl;
        other = λ e. (
            let own = same_Some u.node p (sym u.is ∙ ap m e ∙ is) in
            let depth = ap (λ (n : Node A). n.depth) own in
            let above = ap (λ (n : Node A). n.depth) up in
            omega (arith, depth, above, held.depth)
            );
        below = u.other;
      }

  -- each child has the number that is wanted
  pub made_named : (m n : Nodes A) (parent depth : ℕ) (kids : List ℕ) (ws : List Child) (ks : List ℕ) → AreFoundOrBorn m n parent depth ws (map (node_numbered m kids) (numbers_of ws)) ks → map (number_of n) ks ≡ numbers_of ws
  made_named m n parent depth kids [] [] made = refl
  made_named m n parent depth kids [] (k ∷ ks) made = absurd made
  made_named m n parent depth kids (w ∷ ws) [] made = absurd made
  made_named m n parent depth kids (w ∷ ws) (k ∷ ks) made =
      ap (λ (q : Number). q ∷ map (number_of n) ks) (one (node_numbered m kids w.number) refl made.0) ∙ ap (λ (qs : List Number). w.number ∷ qs) (made_named m n parent depth kids ws ks made.1)
    where
      one : (o : Option ℕ) → node_numbered m kids w.number ≡ o → IsFoundOrBorn m n parent depth w o k → number_of n k ≡ w.number
      one None e made = ap (λ (x : Option (Node A)). node_number x) made.is
      one (Some j) e made =
          let old = same_is (number_of m j) w.number (numbered_is m kids w.number j e).1 in
          ap (λ (x : Option (Node A)). node_number x) made.is ∙ sym (ap (λ (x : Option (Node A)). node_number x) made.was) ∙ ap (number_of m) made.same ∙ old
