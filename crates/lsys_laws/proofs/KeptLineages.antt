-- Lineages of nodes.
use Rattle.std.proofs.Common.{◌≡◌, ℕ, zero, suc, ◌+◌, List, [], ◌∷◌, ◌++◌, Some, refl, ap, sym, ◌∙◌, subst, arith, Bool, true, false}
use Rattle.std.specs.Prelude.{◌≢◌, ◌↔◌, nat_eq, length}
use Rattle.std.proofs.lemmas.Bool.{eqb-true}
use Rattle.std.proofs.lemmas.List.{length_push}
use Rattle.lsys_laws.specs.Nodes.{Kin, Kins, kin_parent, number_in, kin_depth, lineage_in, naming, AreOnce, Extends}

same_some : {A : Type 0} (a b : A) → Some a ≡ Some b → a ≡ b
same_some a b h = cc

push_parts : (xs ys : List ℕ) (a b : ℕ) → xs ++ a ∷ [] ≡ ys ++ b ∷ [] → (xs ≡ ys) × (a ≡ b)
push_parts [] [] a b h = let e : a ≡ b = cc in (refl, e)
push_parts [] (y ∷ ys) a b h = absurd (let n : 1 ≡ suc (length ys + 1) = ap length h ∙ ap suc (length_push ys b) in omega (arith, n))
push_parts (x ∷ xs) [] a b h = absurd (let n : suc (length xs + 1) ≡ 1 = sym (ap suc (length_push xs a)) ∙ ap length h in omega (arith, n))
push_parts (x ∷ xs) (y ∷ ys) a b h =
    let e : x ≡ y = cc in
    let f : xs ++ a ∷ [] ≡ ys ++ b ∷ [] = cc in
    let r = push_parts xs ys a b f in (ap (λ x. x ∷ xs) e ∙ ap (λ xs. y ∷ xs) r.0, r.1)

-- the root is at depth 0, and no other node is
at_root : (m : Kins) (root k : ℕ) (n : Kin) → AreOnce m root → m k ≡ Some n → n.depth ≡ 0 → k ≡ root
at_root m root k n h e d = by (nat_eq k root) refl
  where
    by : (b : Bool) → nat_eq k root ≡ b → k ≡ root
    by true f = eqb-true k root f
    by false f =
        let other : k ≢ root = λ g. let t : true ≡ false = sym (grind (arith, g)) ∙ f in cc in
        let p = h.held k n e other in absurd (let i : 0 ≡ p.0.depth + 1 = sym d ∙ p.2 in omega (arith, i))

not_root : (m : Kins) (root k : ℕ) (n : Kin) (d : ℕ) → AreOnce m root → m k ≡ Some n → n.depth ≡ suc d → k ≢ root
not_root m root k n d h e f g =
    let r = h.root_lives in
    let s : Some n ≡ Some r.0 = sym e ∙ ap m g ∙ r.1 in
    let z : suc d ≡ 0 = sym f ∙ ap (λ (n : Kin). n.depth) (same_some n r.0 s) ∙ r.2 in omega (arith, z)

apart_at : (m : Kins) (root d j k : ℕ) (a b : Kin) → AreOnce m root → m j ≡ Some a → m k ≡ Some b → a.depth ≡ d → b.depth ≡ d → lineage_in m d j ≡ lineage_in m d k → j ≡ k
apart_at m root zero j k a b h e f i i' l = at_root m root j a h e i ∙ sym (at_root m root k b h f i')
apart_at m root (suc d) j k a b h e f i i' l =
    let r = push_parts (lineage_in m d (kin_parent (m j))) (lineage_in m d (kin_parent (m k))) (number_in (m j)) (number_in (m k)) l in
    let other = not_root m root j a d h e i in
    let other' = not_root m root k b d h f i' in
    let p = h.held j a e other in
    let q = h.held k b f other' in
    let up : kin_parent (m j) ≡ a.parent = ap kin_parent e in
    let up' : kin_parent (m k) ≡ b.parent = ap kin_parent f in
    let above : lineage_in m d a.parent ≡ lineage_in m d b.parent = ap (lineage_in m d) (sym up) ∙ r.0 ∙ ap (lineage_in m d) up' in
    let n : p.0.depth ≡ d = omega (arith, p.2, i) in
    let n' : q.0.depth ≡ d = omega (arith, q.2, i') in
    let parents : a.parent ≡ b.parent = apart_at m root d a.parent b.parent p.0 q.0 h p.1 q.1 n n' above in
    h.once j k a b e f other other' parents (sym (ap number_in e) ∙ r.1 ∙ ap number_in f)

pub apart : (m : Kins) (root j k : ℕ) (a b : Kin) → AreOnce m root → m j ≡ Some a → m k ≡ Some b → a.depth ≡ b.depth → naming m j ≡ naming m k → j ≡ k
apart m root j k a b h e f d l =
    let i : kin_depth (m j) ≡ a.depth = ap kin_depth e in
    let i' : kin_depth (m k) ≡ a.depth = ap kin_depth f ∙ sym d in
    apart_at m root a.depth j k a b h e f refl (sym d) (sym (ap (λ d. lineage_in m d j) i) ∙ l ∙ ap (λ d. lineage_in m d k) i')

stays_at : (m m' : Kins) (root d k : ℕ) (a : Kin) → AreOnce m root → Extends m m' → m k ≡ Some a → a.depth ≡ d → lineage_in m' d k ≡ lineage_in m d k
stays_at m m' root zero k a h x e i = refl
stays_at m m' root (suc d) k a h x e i =
    let p = h.held k a e (not_root m root k a d h e i) in
    let n : p.0.depth ≡ d = omega (arith, p.2, i) in
    let same : m' k ≡ m k = x k a e ∙ sym e in
    let above : lineage_in m' d (kin_parent (m k)) ≡ lineage_in m d (kin_parent (m k)) =
    subst (λ q. lineage_in m' d q ≡ lineage_in m d q) (sym (ap kin_parent e)) (stays_at m m' root d a.parent p.0 h x p.1 n) in
    ap (λ n. lineage_in m' d (kin_parent n) ++ number_in n ∷ []) same ∙ ap (λ l. l ++ number_in (m k) ∷ []) above

pub stays : (m m' : Kins) (root k : ℕ) (a : Kin) → AreOnce m root → Extends m m' → m k ≡ Some a → naming m' k ≡ naming m k
stays m m' root k a h x e =
    let i : kin_depth (m' k) ≡ a.depth = ap kin_depth (x k a e) in
    let i' : kin_depth (m k) ≡ a.depth = ap kin_depth e in
    ap (λ d. lineage_in m' d k) i ∙ stays_at m m' root a.depth k a h x e refl ∙ sym (ap (λ d. lineage_in m d k) i')

pub child : (m : Kins) (root k : ℕ) (n : Kin) → AreOnce m root → m k ≡ Some n → k ≢ root → naming m k ≡ naming m n.parent ++ n.number ∷ []
child m root k n h e other =
    let p = h.held k n e other in
    let above : kin_depth (m n.parent) ≡ p.0.depth = ap kin_depth p.1 in
    let deep : kin_depth (m k) ≡ suc p.0.depth = ap kin_depth e ∙ omega (arith, p.2) in
    ap (λ d. lineage_in m d k) deep ∙ ap (λ a. lineage_in m p.0.depth (kin_parent a) ++ number_in a ∷ []) e
    ∙ sym (ap (λ d. lineage_in m d n.parent ++ n.number ∷ []) above)

pub tags : (m m' : Kins) (root j k : ℕ) (a b : Kin) → AreOnce m root → AreOnce m' root → Extends m m' → m j ≡ Some a → m' k ≡ Some b
    → (j ≡ k) ↔ ((a.depth ≡ b.depth) × (naming m j ≡ naming m' k))
tags m m' root j k a b h h' x e f =
    let old : naming m' j ≡ naming m j = stays m m' root j a h x e in
    let same : j ≡ k → (a.depth ≡ b.depth) × (naming m j ≡ naming m' k)
    = λ i. (ap (λ (n : Kin). n.depth) (same_some a b (sym (x j a e) ∙ ap m' i ∙ f)), sym old ∙ ap (naming m') i) in
    (same, λ r. apart m' root j k a b h' (x j a e) f r.0 (old ∙ r.1))
