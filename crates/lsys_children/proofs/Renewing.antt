-- The children of one parent more were renewed.
use Rattle.std.proofs.Common.{◌≡◌, ◌≢◌, ◌⊎◌, ◌+◌, ◌*◌, ◌<◌, ◌≤◌, ◌||◌, ℕ, Bool, true, false, map, Option, Some, None, List, [], ◌∷◌, refl, sym, ap, ◌∙◌, subst, arith, inl, inr}
use Rattle.std.specs.Prelude.{option_map, is_some}
use Rattle.std.proofs.lemmas.Bool.{cases_eq}
use Rattle.std.proofs.lemmas.Option.{none-some, same_Some}
use Rattle.lsys_spec.specs.Rows.{In}
use Rattle.lsys_syntax.specs.Commands.{Numbering}
use Rattle.lsys_spec.specs.Draws.{number_base, key_of}
use Rattle.lsys_laws.specs.Nodes.{Kin, AreOnce, Extends}
use Rattle.lsys_forest.specs.Nodes.{Node, Nodes, with_kids}
use Rattle.lsys_forest.specs.Changes.{Change}
use Rattle.lsys_forest.specs.Groves.{IsRooted}
use Rattle.lsys_forest.specs.Rows.{kids_in, spot_in}
use Rattle.lsys_forest.proofs.RowLemmas as rows
use Rattle.lsys_children.specs.declared.number.Number.{Number}
use Rattle.lsys_children.specs.declared.child.Child.{Child}
use Rattle.lsys_children.specs.Matches.{same_child_number, has_number, AreDifferent, number_of, node_numbered}
use Rattle.lsys_children.specs.Children.{numbers_of, born, renewed, IsBorn, AreRenewed}
use Rattle.lsys_children.proofs.MatchLemmas.{numbered_some, same_self}
use Rattle.lsys_children.specs.Wishes.{AreWanted}
use Rattle.lsys_reads.specs.Lineages.{kin_of, kins, names}
use Rattle.lsys_children.specs.Nexts.{Successors, HasWanted}
use Rattle.lsys_children.specs.Renewals.{AreSmall, AreAllUnder, Renewal, stayed, relisted, turned, came, AreRenewals, KeepsUpper}
use Rattle.lsys_children.proofs.Above.{name_stays}
use Rattle.lsys_children.proofs.Wants.{all_made, renewed_wanted, wanted_stays}

pub in_cases : (k : ℕ) (xs : List ℕ) → In k xs ⊎ (In k xs → ⊥)
in_cases k [] = inr (λ h. h)
in_cases k (x ∷ xs) = elim (cases_eq k x) [
  | inl e ↦ inl (inl e)
  | inr ne ↦ elim (in_cases k xs) [ inl i ↦ inl (inr i) | inr out ↦ inr (λ h. elim h [ inl e ↦ ne e | inr i ↦ out i ]) ]
]

numbered_in : (f : ℕ → Number) (ks : List ℕ) (qs : List Number) (k : ℕ) → map f ks ≡ qs → In k ks → has_number qs (f k) ≡ true
numbered_in f [] qs k e i = absurd i
numbered_in f (x ∷ ks) [] k e i = cc
numbered_in f (x ∷ ks) (q ∷ qs) k e (inl g) =
    let one : f x ≡ q = cc in
    let same : q ≡ f k = sym one ∙ ap f (sym g) in
    ap (λ (q : Number). has_number (q ∷ qs) (f k)) same ∙ first (f k) qs
  where
    first : (a : Number) (qs : List Number) → has_number (a ∷ qs) a ≡ true
    first a qs = by (same_child_number a a) (has_number qs a) (same_self a)
      where
        by : (b c : Bool) → b ≡ true → (b || c) ≡ true
        by true c h = refl
        by false c h = cc
numbered_in f (x ∷ ks) (q ∷ qs) k e (inr i) =
    let more : map f ks ≡ qs = cc in
    by (same_child_number q (f k)) (has_number qs (f k)) (numbered_in f ks qs k more i)
  where
    by : (b c : Bool) → c ≡ true → (b || c) ≡ true
    by true c h = refl
    by false c h = h

-- no two of them have one number
apart_same : (f : ℕ → Number) (ks : List ℕ) (qs : List Number) (j k : ℕ) → map f ks ≡ qs → AreDifferent qs → In j ks → In k ks → f j ≡ f k → j ≡ k
apart_same f [] qs j k e a i l s = absurd i
apart_same f (x ∷ ks) [] j k e a i l s = cc
apart_same f (x ∷ ks) (q ∷ qs) j k e a (inl i) (inl l) s = i ∙ sym l
apart_same f (x ∷ ks) (q ∷ qs) j k e a (inl i) (inr l) s =
    let one : f x ≡ q = cc in
    let more : map f ks ≡ qs = cc in
    let no : true ≡ false = sym (numbered_in f ks qs k more l) ∙ ap (has_number qs) (sym s ∙ ap f i ∙ one) ∙ a.0 in absurd cc
apart_same f (x ∷ ks) (q ∷ qs) j k e a (inr i) (inl l) s =
    let one : f x ≡ q = cc in
    let more : map f ks ≡ qs = cc in
    let no : true ≡ false = sym (numbered_in f ks qs j more i) ∙ ap (has_number qs) (s ∙ ap f l ∙ one) ∙ a.0 in absurd cc
apart_same f (x ∷ ks) (q ∷ qs) j k e a (inr i) (inr l) s = let more : map f ks ≡ qs = cc in apart_same f ks qs j k more a.1 i l s

same_numbers : (a b : Number) → a.count < number_base → b.count < number_base → number_base * a.code + a.count ≡ number_base * b.code + b.count → a ≡ b
same_numbers a b s t e =
    let codes : a.code ≡ b.code = omega (arith, s, t, e) in
    let counts : a.count ≡ b.count = omega (arith, s, t, e) in
    λ i. record { code = codes i; count = counts i }

module _ {A : Type 0} where
  -- a node with this kin
  pub kin_from : (o : Option (Node A)) (a : Kin) → option_map (λ (n : Node A). kin_of n) o ≡ Some a → (x : Node A) × (o ≡ Some x) × (a ≡ kin_of x)
  kin_from None a e = absurd (none-some a e)
  kin_from (Some x) a e = (x, refl, sym (same_Some (kin_of x) a e))

  -- a parent whose children were not renewed stays
  pub parent_stays : (g : Numbering) (seed : ℕ) (old mid : Nodes A) (root depth : ℕ) (by : Successors) (done : List ℕ) (p : ℕ) (n : Node A) → AreRenewals g seed old mid root depth by done → old p ≡ Some n → n.depth ≡ depth
      → (In p done → ⊥) → mid p ≡ Some n
  parent_stays g seed old mid root depth by done p n h is deep fresh = from (h.each p)
    where
      from : Renewal old mid depth done p → mid p ≡ Some n
      from (stayed e) = e ∙ is
      from (relisted x ls i o d e) = absurd (fresh i)
      from (turned x w i o d e) = let same = ap (λ (y : Node A). y.depth) (same_Some n x (sym is ∙ o)) in absurd (omega (arith, same, d, deep))
      from (came q w i o e) = absurd (none-some n (sym o ∙ is))

  module _ (g : Numbering) (seed : ℕ) (old mid new : Nodes A) (root depth : ℕ) (by : Successors) (done : List ℕ) (changes : List (Change A)) (p : ℕ) (n : Node A) (ws : List Child)
      (h : AreRenewals g seed old mid root depth by done) (sound : IsRooted root changes mid) (is : old p ≡ Some n) (deep : n.depth ≡ depth) (fresh : In p done → ⊥) (under : AreAllUnder old root p)
      (r : AreRenewed mid new p n ws (kids_in (new p))) (a : AreWanted g (key_of seed (names old p)) (by p) ws) where
    abbrev ks : List ℕ
    ks = kids_in (new p)

    mid_is : mid p ≡ Some n
    mid_is = parent_stays g seed old mid root depth by done p n h is deep fresh

    -- 1. each node

    data Step (k : ℕ) : Type 0 where
      self : k ≡ p → Step k
      new_child : (w : Child) → In k ks → IsBorn mid new p (n.depth + 1) w k → node_numbered mid n.kids w.number ≡ None → number_of new k ≡ w.number → w.number.count < number_base → Step k
      old_child : (w : Child) (x : Node A) → In k n.kids → mid k ≡ Some x → new k ≡ Some (renewed w x) → Step k
      other : k ≢ p → new k ≡ mid k → Step k

    step_of : (k : ℕ) → Step k
    step_of k = elim (cases_eq k p) [
      | inl e ↦ self e
      | inr ne ↦ elim (in_cases k ks) [
        | inl i ↦ child i
        | inr out ↦ other ne (r.others k ne out)
      ]
    ]
      where
        child : In k ks → Step k
        child i =
            let m = all_made (λ w. w.number.count < number_base) mid new p (n.depth + 1) n.kids ws ks r.made r.named a.small k i in
            elim m.1.from [
              | inl b ↦ new_child m.0 i b.0 b.1 m.2 m.3
              | inr x ↦ old_child m.0 x.0 x.1 x.2 (m.1.is ∙ ap Some x.3)
            ]

    kin_stays : (k : ℕ) (x : Node A) → mid k ≡ Some x → kins new k ≡ Some (kin_of x)
    kin_stays k x e = go (step_of k)
      where
        go : Step k → kins new k ≡ Some (kin_of x)
        go (self f) =
            ap (λ k. kins new k) f ∙ ap (option_map (λ (y : Node A). kin_of y)) r.list ∙ ap (λ (y : Node A). Some (kin_of y)) (same_Some n x (sym mid_is ∙ ap mid (sym f) ∙ e))
        go (new_child w i b none number small) = absurd (none-some x (sym b.vacant ∙ e))
        go (old_child w y i was f) = ap (option_map (λ (y : Node A). kin_of y)) f ∙ ap (λ (y : Node A). Some (kin_of y)) (same_Some y x (sym was ∙ e))
        go (other ne f) = ap (option_map (λ (y : Node A). kin_of y)) (f ∙ e)

    stays_on : Extends (kins mid) (kins new)
    stays_on k kin e = let x = kin_from (mid k) kin e in kin_stays k x.0 x.1 ∙ ap Some (sym x.2)

    stays_all : Extends (kins old) (kins new)
    stays_all k kin e = stays_on k kin (h.stay k kin e)

    -- 2. lineages

    record Came (k : ℕ) (x : Node A) : Type 0 where
      child : Child
      among : In k ks
      is_born : x ≡ born p (n.depth + 1) child
      none : node_numbered mid n.kids child.number ≡ None
      number : number_of new k ≡ child.number
      small : child.number.count < number_base

    record Was (k : ℕ) (x : Node A) : Type 0 where
      before : Node A
      was : mid k ≡ Some before
      kin : kin_of x ≡ kin_of before

    was_or_came : (k : ℕ) (x : Node A) → new k ≡ Some x → Was k x ⊎ Came k x
    was_or_came k x e = go (step_of k)
      where
        go : Step k → Was k x ⊎ Came k x
        go (self f) = inl (record { before = n; was = ap mid f ∙ mid_is; kin = ap (λ (y : Node A). kin_of y) (same_Some x (with_kids ks n) (sym e ∙ ap new f ∙ r.list)) })
        go (new_child w i b none number small) = inr (record { child = w; among = i; is_born = same_Some x (born p (n.depth + 1) w) (sym e ∙ b.is); none = none; number = number; small = small })
        go (old_child w y i was f) = inl (record { before = y; was = was; kin = ap (λ (y : Node A). kin_of y) (same_Some x (renewed w y) (sym e ∙ f)) })
        go (other ne f) = inl (record { before = x; was = sym f ∙ e; kin = refl })

    under_mid : AreAllUnder mid root p
    under_mid k z e ne q = subst (λ o. In k (kids_in o)) (is ∙ sym mid_is) (go (h.each k))
      where
        go : Renewal old mid depth done k → In k (kids_in (old p))
        go (stayed f) = under k z (sym f ∙ e) ne q
        go (relisted x ls i o d f) = under k x o ne (ap (λ (y : Node A). y.parent) (same_Some (with_kids ls x) z (sym f ∙ e)) ∙ q)
        go (turned x w i o d f) = absurd (fresh (subst (λ j. In j done) (ap (λ (y : Node A). y.parent) (same_Some (renewed w x) z (sym f ∙ e)) ∙ q) i))
        go (came j w i o f) = absurd (fresh (subst (λ j. In j done) (ap (λ (y : Node A). y.parent) (same_Some (born j (depth + 1) w) z (sym f ∙ e)) ∙ q) i))

    -- a new node has no number of an old one
    no_old : (j k : ℕ) (x y : Node A) (c : Came j x) (w : Was k y) → k ≢ root → x.parent ≡ y.parent → number_base * x.code + x.count ≡ number_base * y.code + y.count → ⊥
    no_old j k x y c w ne parents numbers = none-is (node_numbered mid n.kids (number_of mid k)) (ap (node_numbered mid n.kids) same ∙ c.none) (numbered_some mid n.kids k there)
      where
        none-is : (o : Option ℕ) → o ≡ None → is_some o ≡ true → ⊥
        none-is None e f = cc
        none-is (Some i) e f = cc

        there : In k n.kids
        there =
            subst (λ o. In k (kids_in o)) mid_is
            (under_mid k w.before w.was ne (sym (ap (λ (z : Kin). z.parent) w.kin) ∙ sym parents ∙ ap (λ (z : Node A). z.parent) c.is_born))

        same : number_of mid k ≡ c.child.number
        same =
            let was : number_of mid k ≡ record { code = w.before.code; count = w.before.count } = ap (λ (o : Option (Node A)). number_in_node o) w.was in
            let few : w.before.count < number_base = h.small k w.before w.was in
            let mine : number_base * x.code + x.count ≡ number_base * c.child.number.code + c.child.number.count = ap (λ (z : Node A). number_base * z.code + z.count) c.is_born in
            let theirs : number_base * y.code + y.count ≡ number_base * w.before.code + w.before.count = ap (λ (z : Kin). z.number) w.kin in
            was ∙ same_numbers (record { code = w.before.code; count = w.before.count }) c.child.number few c.small (sym theirs ∙ sym numbers ∙ mine)
          where
            number_in_node : Option (Node A) → Number
            number_in_node None = record { code = 0; count = 0 }
            number_in_node (Some z) = record { code = z.code; count = z.count }

    once_now : AreOnce (kins new) root
    once_now = record {
      root_lives = let l = h.once.root_lives in (l.0, stays_on root l.0 l.1, l.2);
      held = λ k kin e ne. (
          let x = kin_from (new k) kin e in
          elim (was_or_came k x.0 x.1) [
            | inl w ↦ old_held k kin x.0 x.2 w ne
            | inr c ↦ new_held k kin x.0 x.2 c
          ]
          );
      once = λ j k u v e f nj nk parents numbers. (
          let x = kin_from (new j) u e in
          let y = kin_from (new k) v f in
          let ps : x.0.parent ≡ y.0.parent = sym (ap (λ (z : Kin). z.parent) x.2) ∙ parents ∙ ap (λ (z : Kin). z.parent) y.2 in
          let ns : number_base * x.0.code + x.0.count ≡ number_base * y.0.code + y.0.count = sym (ap (λ (z : Kin). z.number) x.2) ∙ numbers ∙ ap (λ (z : Kin). z.number) y.2 in
          one j k x.0 y.0 ps ns nj nk (was_or_came j x.0 x.1) (was_or_came k y.0 y.1)
          );
    }
      where
        old_held : (k : ℕ) (kin : Kin) (x : Node A) → kin ≡ kin_of x → Was k x → k ≢ root → (q : Kin) × (kins new kin.parent ≡ Some q) × (kin.depth ≡ q.depth + 1)
        old_held k kin x e w ne =
            let same : kin ≡ kin_of w.before = e ∙ w.kin in
            let b = h.once.held k (kin_of w.before) (ap (option_map (λ (y : Node A). kin_of y)) w.was) ne in
            (b.0, ap (λ (z : Kin). kins new z.parent) same ∙ stays_on w.before.parent b.0 b.1, ap (λ (z : Kin). z.depth) same ∙ b.2)

        new_held : (k : ℕ) (kin : Kin) (x : Node A) → kin ≡ kin_of x → Came k x → (q : Kin) × (kins new kin.parent ≡ Some q) × (kin.depth ≡ q.depth + 1)
        new_held k kin x e c =
            let same : kin ≡ kin_of (born {A = A} p (n.depth + 1) c.child) = e ∙ ap (λ (y : Node A). kin_of y) c.is_born in
            (kin_of n, ap (λ (z : Kin). kins new z.parent) same ∙ kin_stays p n mid_is, ap (λ (z : Kin). z.depth) same)

        one : (j k : ℕ) (x y : Node A) → x.parent ≡ y.parent → number_base * x.code + x.count ≡ number_base * y.code + y.count → j ≢ root → k ≢ root → Was j x ⊎ Came j x → Was k y ⊎ Came k y → j ≡ k
        one j k x y ps ns nj nk (inl u) (inl v) =
            h.once.once j k (kin_of u.before) (kin_of v.before) (ap (option_map (λ (y : Node A). kin_of y)) u.was) (ap (option_map (λ (y : Node A). kin_of y)) v.was) nj nk
            (sym (ap (λ (z : Kin). z.parent) u.kin) ∙ ps ∙ ap (λ (z : Kin). z.parent) v.kin) (sym (ap (λ (z : Kin). z.number) u.kin) ∙ ns ∙ ap (λ (z : Kin). z.number) v.kin)
        one j k x y ps ns nj nk (inr c) (inl v) = absurd (no_old j k x y c v nk ps ns)
        one j k x y ps ns nj nk (inl u) (inr d) = absurd (no_old k j y x d u nj (sym ps) (sym ns))
        one j k x y ps ns nj nk (inr c) (inr d) =
            let mine : number_base * x.code + x.count ≡ number_base * c.child.number.code + c.child.number.count = ap (λ (z : Node A). number_base * z.code + z.count) c.is_born in
            let theirs : number_base * y.code + y.count ≡ number_base * d.child.number.code + d.child.number.count = ap (λ (z : Node A). number_base * z.code + z.count) d.is_born in
            apart_same (number_of new) ks (numbers_of ws) j k r.named a.apart c.among d.among
            (c.number ∙ same_numbers c.child.number d.child.number c.small d.small (sym mine ∙ ns ∙ theirs) ∙ sym d.number)

    -- 3. all of it

    small_now : AreSmall new
    small_now k x e = go (step_of k)
      where
        go : Step k → x.count < number_base
        go (self f) = let same = ap (λ (y : Node A). y.count) (same_Some (with_kids ks n) x (sym r.list ∙ ap new (sym f) ∙ e)) in let few = h.small p n mid_is in omega (arith, same, few)
        go (new_child w i b none number few) = let same = ap (λ (y : Node A). y.count) (same_Some (born p (n.depth + 1) w) x (sym b.is ∙ e)) in omega (arith, same, few)
        go (old_child w y i was f) = let same = ap (λ (z : Node A). z.count) (same_Some (renewed w y) x (sym f ∙ e)) in let few = h.small k y was in omega (arith, same, few)
        go (other ne f) = h.small k x (sym f ∙ e)

    later : (k : ℕ) → Renewal old mid depth done k → new k ≡ mid k → Renewal old new depth (p ∷ done) k
    later k (stayed e) f = stayed (f ∙ e)
    later k (relisted x ls i o d e) f = relisted x ls (inr i) o d (f ∙ e)
    later k (turned x w i o d e) f = turned x w (inr i) o d (f ∙ e)
    later k (came q w i o e) f = came q w (inr i) o (f ∙ e)

    each_now : (k : ℕ) → Renewal old new depth (p ∷ done) k
    each_now k = go (step_of k)
      where
        go : Step k → Renewal old new depth (p ∷ done) k
        go (self f) = relisted n ks (inl f) (ap old f ∙ is) deep (ap new f ∙ r.list)
        go (new_child w i b none number few) = from (h.each k)
          where
            here : old k ≡ None → Renewal old new depth (p ∷ done) k
            here o = came p w (inl refl) o (b.is ∙ ap (λ d. Some (born p (d + 1) w)) deep)

            from : Renewal old mid depth done k → Renewal old new depth (p ∷ done) k
            from (stayed e) = here (sym e ∙ b.vacant)
            from (relisted x ls j o d e) = absurd (none-some (with_kids ls x) (sym b.vacant ∙ e))
            from (turned x v j o d e) = absurd (none-some (renewed v x) (sym b.vacant ∙ e))
            from (came q v j o e) = absurd (none-some (born q (depth + 1) v) (sym b.vacant ∙ e))
        go (old_child w x i was f) = from (h.each k)
          where
            u : rows.IsChild mid p k
            u = rows.child root changes mid sound p k (subst (λ o. In k (kids_in o)) (sym mid_is) i)

            parent_is : x.parent ≡ p
            parent_is = ap (λ (y : Node A). y.parent) (same_Some x u.node (sym was ∙ u.is)) ∙ u.parent_is

            deeper : x.depth ≡ depth + 1
            deeper =
                let own = ap (λ (y : Node A). y.depth) (same_Some x u.node (sym was ∙ u.is)) in
                let above = ap (λ (y : Node A). y.depth) (same_Some n u.above (sym mid_is ∙ u.above_is)) in
                omega (arith, own, above, u.depth, deep)

            from : Renewal old mid depth done k → Renewal old new depth (p ∷ done) k
            from (stayed e) = turned x w (inl parent_is) (sym e ∙ was) deeper f
            from (relisted y ls j o d e) = let same = ap (λ (y : Node A). y.depth) (same_Some (with_kids ls y) x (sym e ∙ was)) in absurd (omega (arith, same, d, deeper))
            from (turned y v j o d e) = absurd (fresh (subst (λ j. In j done) (ap (λ (y : Node A). y.parent) (same_Some (renewed v y) x (sym e ∙ was)) ∙ parent_is) j))
            from (came q v j o e) = absurd (fresh (subst (λ j. In j done) (ap (λ (y : Node A). y.parent) (same_Some (born q (depth + 1) v) x (sym e ∙ was)) ∙ parent_is) j))
        go (other ne f) = later k (h.each k) f

    lists_stay : (k : ℕ) → k ≢ p → kids_in (new k) ≡ kids_in (mid k)
    lists_stay k ne = go (step_of k)
      where
        go : Step k → kids_in (new k) ≡ kids_in (mid k)
        go (self f) = absurd (ne f)
        go (new_child w i b none number few) = ap (λ o. kids_in o) b.is ∙ sym (ap (λ o. kids_in o) b.vacant)
        go (old_child w x i was f) = ap (λ o. kids_in o) f ∙ sym (ap (λ o. kids_in o) was)
        go (other out f) = ap (λ o. kids_in o) f

    spot_stays : (k j : ℕ) → k ≢ p → In j (kids_in (mid k)) → spot_in j (new j) ≡ spot_in j (mid j)
    spot_stays k j ne i = go (step_of j)
      where
        u : rows.IsChild mid k j
        u = rows.child root changes mid sound k j i

        go : Step j → spot_in j (new j) ≡ spot_in j (mid j)
        go (self f) = ap (spot_in j) (ap new f ∙ r.list) ∙ sym (ap (spot_in j) (ap mid f ∙ mid_is))
        go (new_child w l b none number few) = absurd (none-some u.node (sym b.vacant ∙ u.is))
        go (old_child w x l was f) =
            let v = rows.child root changes mid sound p j (subst (λ o. In j (kids_in o)) (sym mid_is) l) in
            absurd (ne (sym u.parent_is ∙ ap (λ (y : Node A). y.parent) (same_Some u.node v.node (sym u.is ∙ v.is)) ∙ v.parent_is))
        go (other out f) = ap (spot_in j) f

    mid_node : (k : ℕ) → In k done → (x : Node A) × (mid k ≡ Some x)
    mid_node k i =
        let o = h.parents k i in
        let kin = h.stay k (kin_of o.0) (ap (option_map (λ (y : Node A). kin_of y)) o.1) in let x = kin_from (mid k) (kin_of o.0) kin in (x.0, x.1)

    wanted_now : (k : ℕ) → In k (p ∷ done) → HasWanted g seed new k (by k)
    wanted_now k (inl e) =
        let name : names new p ≡ names old p = name_stays old new root p n h.was_once stays_all is in
        subst (λ j. HasWanted g seed new j (by j)) (sym e)
        (renewed_wanted root changes mid new sound p n mid_is once_now g seed (by p) ws r (subst (λ l. AreWanted g (key_of seed l) (by p) ws) (sym name) a))
    wanted_now k (inr i) =
        let ne : k ≢ p = λ e. fresh (subst (λ j. In j done) e i) in
        let x = mid_node k i in
        wanted_stays g seed mid new k (by k) (lists_stay k ne) (name_stays mid new root k x.0 h.once stays_on x.1) (λ j l. spot_stays k j ne l)
        (λ j l. (let u = rows.child root changes mid sound k j l in name_stays mid new root j u.node h.once stays_on u.is)) (h.wanted k i)

    pub goes_on : AreRenewals g seed old new root depth by (p ∷ done)
    goes_on = record {
      small = small_now;
      was_once = h.was_once;
      once = once_now;
      stay = stays_all;
      parents = λ k i. elim i [ inl e ↦ (n, ap old e ∙ is, deep) | inr l ↦ h.parents k l ];
      each = each_now;
      wanted = wanted_now;
    }

  pub begins : (g : Numbering) (seed : ℕ) (old : Nodes A) (root depth : ℕ) (by : Successors) → AreOnce (kins old) root → AreSmall old → AreRenewals g seed old old root depth by []
  begins g seed old root depth by once small = record { small = small; was_once = once; once = once; stay = λ k n e. e; parents = λ k i. absurd i; each = λ k. stayed refl; wanted = λ k i. absurd i }

  pub keeps_upper : (g : Numbering) (seed : ℕ) (old new : Nodes A) (root depth : ℕ) (by : Successors) (done : List ℕ) → AreRenewals g seed old new root depth by done → KeepsUpper old new depth
  keeps_upper g seed old new root depth by done h = record { spots = λ k n e l. spot k n e l (h.each k); lists = λ k n e l. list k n e l (h.each k) }
    where
      spot : (k : ℕ) (n : Node A) → old k ≡ Some n → n.depth ≤ depth → Renewal old new depth done k → spot_in k (new k) ≡ spot_in k (old k)
      spot k n e l (stayed f) = ap (spot_in k) f
      spot k n e l (relisted x ls i o d f) = ap (spot_in k) f ∙ sym (ap (spot_in k) o)
      spot k n e l (turned x w i o d f) = let same = ap (λ (y : Node A). y.depth) (same_Some n x (sym e ∙ o)) in absurd (omega (arith, same, d, l))
      spot k n e l (came q w i o f) = absurd (none-some n (sym o ∙ e))

      list : (k : ℕ) (n : Node A) → old k ≡ Some n → n.depth < depth → Renewal old new depth done k → kids_in (new k) ≡ kids_in (old k)
      list k n e l (stayed f) = ap (λ o. kids_in o) f
      list k n e l (relisted x ls i o d f) = let same = ap (λ (y : Node A). y.depth) (same_Some n x (sym e ∙ o)) in absurd (omega (arith, same, d, l))
      list k n e l (turned x w i o d f) = let same = ap (λ (y : Node A). y.depth) (same_Some n x (sym e ∙ o)) in absurd (omega (arith, same, d, l))
      list k n e l (came q w i o f) = absurd (none-some n (sym o ∙ e))
