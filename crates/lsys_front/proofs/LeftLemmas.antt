-- What cuts left of a level is a generation, with the mates of the level.
use Rattle.std.proofs.Common.{◌≡◌, inl, inr, ℕ, zero, suc, Bool, true, false, cond, List, [], ◌∷◌, ◌++◌, append_assoc, Option, Some, None, refl, ap, sym, ◌∙◌, subst, arith}
use Rattle.std.specs.Prelude.{◌↔◌, ◌+◌}
use Rattle.lsys_spec.specs.Rows.{In, AreApart, flat}
use Rattle.lsys_laws.specs.Kinds.{BracketKind, Opens, Closes, Neither, stays, reached}
use Rattle.lsys_laws.specs.Mates.{closing, closer, balancing, AreBalanced, AreOwn, below, AreMatesAmong, next_nodes, AreMatesOn, IsGeneration}
use Rattle.lsys_laws.proofs.Joints.{in_front, in_back}
use Rattle.lsys_front.specs.Generations.{IsLeft, AreLeft, is_parent, parents, IsLeftLevel, left_generation}

-- 1. nodes that are left

abbrev one_of : Bool → ℕ → List ℕ
one_of b p = cond b (p ∷ []) []

pub nodes_are : (own : ℕ → List ℕ) (xs : List ℕ) (p : ℕ) → In p (parents own xs) ↔ (In p xs × (is_parent (own p) ≡ true))
nodes_are own xs p = (to xs, from xs)
  where
    to : (xs : List ℕ) → In p (parents own xs) → In p xs × (is_parent (own p) ≡ true)
    to [] i = absurd i
    to (x ∷ xs) i = by (is_parent (own x)) refl i (to xs)
      where
        by : (b : Bool) → is_parent (own x) ≡ b → In p (one_of b x ++ parents own xs) → (In p (parents own xs) → In p xs × (is_parent (own p) ≡ true)) → In p (x ∷ xs) × (is_parent (own p) ≡ true)
        by true e (inl same) ih = (inl same, subst (λ p. is_parent (own p) ≡ true) (sym same) e)
        by true e (inr i) ih = let r = ih i in (inr r.0, r.1)
        by false e i ih = let r = ih i in (inr r.0, r.1)

    from : (xs : List ℕ) → In p xs × (is_parent (own p) ≡ true) → In p (parents own xs)
    from [] h = absurd h.0
    from (x ∷ xs) (inl same, e) =
        let f : is_parent (own x) ≡ true = subst (λ p. is_parent (own p) ≡ true) same e in
        subst (λ b. In p (one_of b x ++ parents own xs)) (sym f) (inl same)
    from (x ∷ xs) (inr i, e) = in_back p (one_of (is_parent (own x)) x) (parents own xs) (from xs (i, e))

parents_append : (own : ℕ → List ℕ) (xs ys : List ℕ) → parents own (xs ++ ys) ≡ parents own xs ++ parents own ys
parents_append own [] ys = refl
parents_append own (x ∷ xs) ys =
    let c = one_of (is_parent (own x)) x in
    ap (λ zs. c ++ zs) (parents_append own xs ys) ∙ sym (append_assoc c (parents own xs) (parents own ys))

parents_apart : (own : ℕ → List ℕ) (xs : List ℕ) → AreApart xs → AreApart (parents own xs)
parents_apart own [] h = h
parents_apart own (x ∷ xs) h = by (is_parent (own x)) (parents_apart own xs h.1)
  where
    by : (b : Bool) → AreApart (parents own xs) → AreApart (one_of b x ++ parents own xs)
    by true a = (λ i. h.0 (((nodes_are own xs x).0 i).0), a)
    by false a = a

-- where one of them stands on the whole level
record IsThere (own : ℕ → List ℕ) (xs left : List ℕ) (q : ℕ) (right : List ℕ) : Type 0 where
  pub before : List ℕ
  pub after : List ℕ
  pub whole : xs ≡ before ++ q ∷ after
  pub is : is_parent (own q) ≡ true
  pub right_is : parents own after ≡ right

is_there : (own : ℕ → List ℕ) (xs left : List ℕ) (q : ℕ) (right : List ℕ) → parents own xs ≡ left ++ q ∷ right → IsThere own xs left q right
is_there own [] [] q right e = cc
is_there own [] (l ∷ left) q right e = cc
is_there own (x ∷ xs) left q right e = by (is_parent (own x)) refl left e (is_there own xs)
  where
    by : (b : Bool) → is_parent (own x) ≡ b → (left : List ℕ) → one_of b x ++ parents own xs ≡ left ++ q ∷ right
        → ((left : List ℕ) (q : ℕ) (right : List ℕ) → parents own xs ≡ left ++ q ∷ right → IsThere own xs left q right) → IsThere own (x ∷ xs) left q right
    by true f [] e ih =
        let same : x ≡ q = cc in
        let rest : parents own xs ≡ right = cc in
        record { before = []; after = xs; whole = ap (λ y. y ∷ xs) same; is = subst (λ x. is_parent (own x) ≡ true) same f; right_is = rest }
    by true f (l ∷ left) e ih =
        let rest : parents own xs ≡ left ++ q ∷ right = cc in
        let r = ih left q right rest in
        record { before = x ∷ r.before; after = r.after; whole = ap (λ ys. x ∷ ys) r.whole; is = r.is; right_is = r.right_is }
    by false f left e ih =
        let r = ih left q right e in
        record { before = x ∷ r.before; after = r.after; whole = ap (λ ys. x ∷ ys) r.whole; is = r.is; right_is = r.right_is }

-- 2. the next level

pub below_flat : (kind : ℕ → BracketKind) (own : ℕ → List ℕ) (ps : List ℕ) → below kind own (λ k. false) None ps ≡ flat own ps
below_flat kind own [] = refl
below_flat kind own (p ∷ ps) = by (kind p) (ap (λ ks. own p ++ ks) (below_flat kind own ps))
  where
    by : (k : BracketKind) → own p ++ below kind own (λ k. false) None ps ≡ own p ++ flat own ps
        → cond (stays None k) (own p) [] ++ below kind own (λ k. false) (reached None k false) ps ≡ own p ++ flat own ps
    by Neither ih = ih
    by Opens ih = ih
    by Closes ih = ih

flat_parents : (own : ℕ → List ℕ) (xs : List ℕ) → flat own (parents own xs) ≡ flat own xs
flat_parents own [] = refl
flat_parents own (x ∷ xs) = by (own x) refl (flat_parents own xs)
  where
    by : (ks : List ℕ) → own x ≡ ks → flat own (parents own xs) ≡ flat own xs → flat own (one_of (is_parent ks) x ++ parents own xs) ≡ own x ++ flat own xs
    by [] e ih = ih ∙ ap (λ ks. ks ++ flat own xs) (sym e)
    by (k ∷ ks) e ih = ap (λ ks. own x ++ ks) ih

pub next_is : (kind : ℕ → BracketKind) (own : ℕ → List ℕ) (xs : List ℕ) → next_nodes (left_generation kind own xs) ≡ flat own xs
next_is kind own xs = below_flat kind own (parents own xs) ∙ flat_parents own xs

-- 3. branches

abbrev dead : Option ℕ → ℕ
dead None = 0
dead (Some n) = n

no_dead : (b : Bool) → dead (reached None Neither b) ≡ 0
no_dead true = refl
no_dead false = refl

-- a module alters no branch, whether it has children or not
module_closer : (kind : ℕ → BracketKind) (p : ℕ) (ks rest : List ℕ) (a : ℕ) → kind p ≡ Neither → closer kind a (one_of (is_parent ks) p ++ rest) ≡ closer kind a rest
module_closer kind p [] rest a e = refl
module_closer kind p (k ∷ ks) rest a e = ap (λ k. closing k a p (λ m. closer kind m rest)) e

module_balanced : (kind : ℕ → BracketKind) (p : ℕ) (ks rest : List ℕ) (a : ℕ) → kind p ≡ Neither → AreBalanced kind a rest → AreBalanced kind a (one_of (is_parent ks) p ++ rest)
module_balanced kind p [] rest a e h = h
module_balanced kind p (k ∷ ks) rest a e h = subst (λ k. balancing k a (λ m. AreBalanced kind m rest)) (sym e) h

one_closer : (kind : ℕ → BracketKind) (o : Option ℕ) (k : BracketKind) (c : Bool) (p : ℕ) (ks ps rest : List ℕ) (a : ℕ) → kind p ≡ k → IsLeft kind (stays o k) k ks
    → ((b : ℕ) → closer kind b rest ≡ closer kind (b + dead (reached o k c)) ps)
    → closer kind a (one_of (is_parent ks) p ++ rest) ≡ closing k (a + dead o) p (λ m. closer kind m ps)
one_closer kind None Neither c p ks ps rest a e w ih =
    let i : a + dead (reached None Neither c) ≡ a + 0 = omega (arith, no_dead c) in
    module_closer kind p ks rest a e ∙ ih a ∙ ap (λ n. closer kind n ps) i
one_closer kind (Some n) Neither c p ks ps rest a e w ih = module_closer kind p ks rest a e ∙ ih a
one_closer kind None Opens c p ks ps rest a e w ih =
    let i : suc a + 0 ≡ suc (a + 0) = omega arith in
    ap (λ b. closer kind a (one_of b p ++ rest)) (ap is_parent w.1) ∙ ap (λ k. closing k a p (λ m. closer kind m rest)) e ∙ ih (suc a) ∙ ap (λ n. closer kind n ps) i
one_closer kind (Some n) Opens c p ks ps rest a e w ih =
    let i : a + suc n ≡ suc (a + n) = omega arith in
    ap (λ ks. closer kind a (one_of (is_parent ks) p ++ rest)) w ∙ ih a ∙ ap (λ n. closer kind n ps) i
one_closer kind None Closes c p ks ps rest zero e w ih =
    let i : 0 ≡ 0 + 0 = omega arith in
    ap (λ b. closer kind 0 (one_of b p ++ rest)) (ap is_parent w.1) ∙ ap (λ k. closing k 0 p (λ m. closer kind m rest)) e ∙ ap (λ n. closing Closes n p (λ m. closer kind m ps)) i
one_closer kind None Closes c p ks ps rest (suc a) e w ih =
    let i : suc (a + 0) ≡ suc a + 0 = omega arith in
    ap (λ b. closer kind (suc a) (one_of b p ++ rest)) (ap is_parent w.1) ∙ ap (λ k. closing k (suc a) p (λ m. closer kind m rest)) e ∙ ih a ∙ ap (λ n. closing Closes n p (λ m. closer kind m ps)) i
one_closer kind (Some zero) Closes c p ks ps rest zero e w ih =
    let i : 0 ≡ 0 + 0 = omega arith in
    ap (λ b. closer kind 0 (one_of b p ++ rest)) (ap is_parent w.1) ∙ ap (λ k. closing k 0 p (λ m. closer kind m rest)) e ∙ ap (λ n. closing Closes n p (λ m. closer kind m ps)) i
one_closer kind (Some zero) Closes c p ks ps rest (suc a) e w ih =
    let i : suc (a + 0) ≡ suc a + 0 = omega arith in
    ap (λ b. closer kind (suc a) (one_of b p ++ rest)) (ap is_parent w.1) ∙ ap (λ k. closing k (suc a) p (λ m. closer kind m rest)) e ∙ ih a ∙ ap (λ n. closing Closes n p (λ m. closer kind m ps)) i
one_closer kind (Some (suc n)) Closes c p ks ps rest a e w ih =
    let i : suc (a + n) ≡ a + suc n = omega arith in
    ap (λ ks. closer kind a (one_of (is_parent ks) p ++ rest)) w ∙ ih a ∙ ap (λ n. closing Closes n p (λ m. closer kind m ps)) i

same_closer : (kind : ℕ → BracketKind) (own : ℕ → List ℕ) (o : Option ℕ) (ps : List ℕ) (a : ℕ) → AreLeft kind own o ps
    → closer kind a (parents own ps) ≡ closer kind (a + dead o) ps
same_closer kind own o [] a l = refl
same_closer kind own o (p ∷ ps) a l =
    one_closer kind o (kind p) l.1 p (own p) ps (parents own ps) a refl l.0 (λ b. same_closer kind own (reached o (kind p) l.1) ps b l.2)

one_balanced : (kind : ℕ → BracketKind) (o : Option ℕ) (k : BracketKind) (c : Bool) (p : ℕ) (ks ps rest : List ℕ) (a : ℕ) → kind p ≡ k → IsLeft kind (stays o k) k ks
    → ((b : ℕ) → AreBalanced kind (b + dead (reached o k c)) ps → AreBalanced kind b rest)
    → balancing k (a + dead o) (λ m. AreBalanced kind m ps) → AreBalanced kind a (one_of (is_parent ks) p ++ rest)
one_balanced kind None Neither c p ks ps rest a e w ih h =
    let i : a + 0 ≡ a + dead (reached None Neither c) = omega (arith, no_dead c) in
    module_balanced kind p ks rest a e (ih a (subst (λ n. AreBalanced kind n ps) i h))
one_balanced kind (Some n) Neither c p ks ps rest a e w ih h = module_balanced kind p ks rest a e (ih a h)
one_balanced kind None Opens c p ks ps rest a e w ih h =
    let i : suc (a + 0) ≡ suc a + 0 = omega arith in
    subst (λ b. AreBalanced kind a (one_of b p ++ rest)) (sym (ap is_parent w.1))
    (subst (λ k. balancing k a (λ m. AreBalanced kind m rest)) (sym e) (ih (suc a) (subst (λ n. AreBalanced kind n ps) i h)))
one_balanced kind (Some n) Opens c p ks ps rest a e w ih h =
    let i : suc (a + n) ≡ a + suc n = omega arith in
    subst (λ ks. AreBalanced kind a (one_of (is_parent ks) p ++ rest)) (sym w) (ih a (subst (λ n. AreBalanced kind n ps) i h))
one_balanced kind None Closes c p ks ps rest zero e w ih h = let i : 0 + 0 ≡ 0 = omega arith in absurd (subst (λ n. balancing Closes n (λ m. AreBalanced kind m ps)) i h)
one_balanced kind None Closes c p ks ps rest (suc a) e w ih h =
    let i : suc a + 0 ≡ suc (a + 0) = omega arith in
    subst (λ b. AreBalanced kind (suc a) (one_of b p ++ rest)) (sym (ap is_parent w.1))
    (subst (λ k. balancing k (suc a) (λ m. AreBalanced kind m rest)) (sym e) (ih a (subst (λ n. balancing Closes n (λ m. AreBalanced kind m ps)) i h)))
one_balanced kind (Some zero) Closes c p ks ps rest zero e w ih h = let i : 0 + 0 ≡ 0 = omega arith in absurd (subst (λ n. balancing Closes n (λ m. AreBalanced kind m ps)) i h)
one_balanced kind (Some zero) Closes c p ks ps rest (suc a) e w ih h =
    let i : suc a + 0 ≡ suc (a + 0) = omega arith in
    subst (λ b. AreBalanced kind (suc a) (one_of b p ++ rest)) (sym (ap is_parent w.1))
    (subst (λ k. balancing k (suc a) (λ m. AreBalanced kind m rest)) (sym e) (ih a (subst (λ n. balancing Closes n (λ m. AreBalanced kind m ps)) i h)))
one_balanced kind (Some (suc n)) Closes c p ks ps rest a e w ih h =
    let i : a + suc n ≡ suc (a + n) = omega arith in
    subst (λ ks. AreBalanced kind a (one_of (is_parent ks) p ++ rest)) (sym w) (ih a (subst (λ n. balancing Closes n (λ m. AreBalanced kind m ps)) i h))

same_balance : (kind : ℕ → BracketKind) (own : ℕ → List ℕ) (o : Option ℕ) (ps : List ℕ) (a : ℕ) → AreLeft kind own o ps
    → AreBalanced kind (a + dead o) ps → AreBalanced kind a (parents own ps)
same_balance kind own o [] a l h = omega (arith, h)
same_balance kind own o (p ∷ ps) a l h =
    one_balanced kind o (kind p) l.1 p (own p) ps (parents own ps) a refl l.0 (λ b. same_balance kind own (reached o (kind p) l.1) ps b l.2) h

-- 4. mates

left_from : (kind : ℕ → BracketKind) (own : ℕ → List ℕ) (o : Option ℕ) (xs ys : List ℕ) → AreLeft kind own o (xs ++ ys) → (s : Option ℕ) × AreLeft kind own s ys
left_from kind own o [] ys l = (o, l)
left_from kind own o (x ∷ xs) ys l = left_from kind own (reached o (kind x) l.1) xs ys l.2

-- after a bracket that begins a branch, and has a child, nothing is being cut off
left_after : (kind : ℕ → BracketKind) (own : ℕ → List ℕ) (c : Bool) (q : ℕ) (after : List ℕ) (o : Option ℕ) (k : BracketKind) → k ≡ Opens → is_parent (own q) ≡ true
    → IsLeft kind (stays o k) k (own q) → AreLeft kind own (reached o k c) after → AreLeft kind own None after
left_after kind own c q after o Neither e p w l = cc
left_after kind own c q after o Closes e p w l = cc
left_after kind own c q after None Opens e p w l = l
left_after kind own c q after (Some n) Opens e p w l = let f : true ≡ false = sym p ∙ ap is_parent w in cc

right_after : (kind : ℕ → BracketKind) (own : ℕ → List ℕ) (xs before : List ℕ) (q : ℕ) (after : List ℕ) → IsLeftLevel kind own xs → xs ≡ before ++ q ∷ after → kind q ≡ Opens
    → is_parent (own q) ≡ true → closer kind 0 (parents own after) ≡ closer kind 0 after
right_after kind own xs before q after h whole opens p =
    let s = left_from kind own None before (q ∷ after) (subst (AreLeft kind own None) whole h.left) in
    let l : AreLeft kind own None after = left_after kind own s.1.1 q after s.0 (kind q) opens p s.1.0 s.1.2 in
    let z : 0 + 0 ≡ 0 = omega arith in
    same_closer kind own None after 0 l ∙ ap (λ n. closer kind n after) z

-- in what is being cut off a bracket that ends a branch has no children
ends_gone : (kind : ℕ → BracketKind) (own : ℕ → List ℕ) (ps : List ℕ) (a n r : ℕ) → AreLeft kind own (Some (suc (a + n))) ps → closer kind a ps ≡ Some r → own r ≡ []
ends_gone kind own [] a n r l e = cc
ends_gone kind own (p ∷ ps) a n r l e = by (kind p) a l.0 l.2 e (λ a h e. ends_gone kind own ps a n r h e)
  where
    by : (k : BracketKind) (a : ℕ) → IsLeft kind (stays (Some (suc (a + n))) k) k (own p) → AreLeft kind own (reached (Some (suc (a + n))) k l.1) ps → closing k a p (λ m. closer kind m ps) ≡ Some r
        → ((a : ℕ) → AreLeft kind own (Some (suc (a + n))) ps → closer kind a ps ≡ Some r → own r ≡ []) → own r ≡ []
    by Neither a w l e ih = ih a l e
    by Opens a w l e ih =
        let i : suc (suc (a + n)) ≡ suc (suc a + n) = omega arith in
        ih (suc a) (subst (λ n. AreLeft kind own (Some n) ps) i l) e
    by Closes zero w l e ih = let f : p ≡ r = cc in ap own (sym f) ∙ w
    by Closes (suc a) w l e ih =
        let i : suc a + n ≡ suc (a + n) = omega arith in
        ih a (subst (λ n. AreLeft kind own (Some n) ps) i l) e

-- a bracket has a child where its mate has one
opener_left : (kind : ℕ → BracketKind) (own : ℕ → List ℕ) (c : Bool) (q r : ℕ) (after : List ℕ) (o : Option ℕ) (k : BracketKind) → k ≡ Opens → closer kind 0 after ≡ Some r → is_parent (own r) ≡ true
    → IsLeft kind (stays o k) k (own q) → AreLeft kind own (reached o k c) after → is_parent (own q) ≡ true
opener_left kind own c q r after o Neither e x p w l = cc
opener_left kind own c q r after o Closes e x p w l = cc
opener_left kind own c q r after None Opens e x p w l = ap is_parent w.1
opener_left kind own c q r after (Some n) Opens e x p w l =
    let i : suc n ≡ suc (0 + n) = omega arith in
    let gone : own r ≡ [] = ends_gone kind own after 0 n r (subst (λ n. AreLeft kind own (Some n) after) i l) x in
    let f : true ≡ false = sym p ∙ ap is_parent gone in
    cc

pub opener_has_child : (kind : ℕ → BracketKind) (own : ℕ → List ℕ) (xs : List ℕ) → IsLeftLevel kind own xs → (q r : ℕ) → AreMatesAmong kind xs q r → is_parent (own r) ≡ true → is_parent (own q) ≡ true
opener_has_child kind own xs h q r m p =
    let s = left_from kind own None m.before (q ∷ m.after) (subst (AreLeft kind own None) m.whole h.left) in
    opener_left kind own s.1.1 q r m.after s.0 (kind q) m.opens m.closes p s.1.0 s.1.2

pub mates_are : (kind : ℕ → BracketKind) (own : ℕ → List ℕ) (xs : List ℕ) → IsLeftLevel kind own xs → (q r : ℕ)
    → AreMatesOn (left_generation kind own xs) q r ↔ (AreMatesAmong kind xs q r × (is_parent (own q) ≡ true))
mates_are kind own xs h q r = (to, from)
  where
    to : AreMatesOn (left_generation kind own xs) q r → AreMatesAmong kind xs q r × (is_parent (own q) ≡ true)
    to m =
        let t : IsThere own xs m.before q m.after = is_there own xs m.before q m.after m.whole in
        let e : closer kind 0 t.after ≡ Some r = sym (right_after kind own xs t.before q t.after h t.whole m.opens t.is) ∙ ap (closer kind 0) t.right_is ∙ m.closes in
        (record { before = t.before; after = t.after; whole = t.whole; opens = m.opens; closes = e }, t.is)

    from : AreMatesAmong kind xs q r × (is_parent (own q) ≡ true) → AreMatesOn (left_generation kind own xs) q r
    from p =
        let m : AreMatesAmong kind xs q r = p.0 in
        let here : parents own (q ∷ m.after) ≡ q ∷ parents own m.after = ap (λ b. one_of b q ++ parents own m.after) p.1 in
        record {
          before = parents own m.before;
          after = parents own m.after;
          whole = ap (parents own) m.whole ∙ parents_append own m.before (q ∷ m.after) ∙ ap (λ zs. parents own m.before ++ zs) here;
          opens = m.opens;
          closes = right_after kind own xs m.before q m.after h m.whole m.opens p.1 ∙ m.closes;
        }

-- 5. the generation

left_at : (kind : ℕ → BracketKind) (own : ℕ → List ℕ) (o : Option ℕ) (xs : List ℕ) (p : ℕ) → AreLeft kind own o xs → In p xs → (b : Bool) × IsLeft kind b (kind p) (own p)
left_at kind own o [] p l i = absurd i
left_at kind own o (x ∷ xs) p l (inl e) = subst (λ p. (b : Bool) × IsLeft kind b (kind p) (own p)) (sym e) (stays o (kind x), l.0)
left_at kind own o (x ∷ xs) p l (inr i) = left_at kind own (reached o (kind x) l.1) xs p l.2 i

own_left : (kind : ℕ → BracketKind) (b : Bool) (k : BracketKind) (ks : List ℕ) → is_parent ks ≡ true → IsLeft kind b k ks → AreOwn kind k ks
own_left kind true k ks e w = w
own_left kind false k ks e w = let f : true ≡ false = sym e ∙ ap is_parent w in cc

pub in_flat : (own : ℕ → List ℕ) (xs : List ℕ) (p k : ℕ) → In p xs → In k (own p) → In k (flat own xs)
in_flat own [] p k i j = absurd i
in_flat own (x ∷ xs) p k (inl e) j = in_front k (own x) (flat own xs) (subst (λ p. In k (own p)) e j)
in_flat own (x ∷ xs) p k (inr i) j = in_back k (own x) (flat own xs) (in_flat own xs p k i j)

not_both : (k : ℕ) (xs ys : List ℕ) → AreApart (xs ++ ys) → In k xs → In k ys → ⊥
not_both k [] ys h i j = i
not_both k (x ∷ xs) ys h (inl e) j = h.0 (in_back x xs ys (subst (λ k. In k ys) e j))
not_both k (x ∷ xs) ys h (inr i) j = not_both k xs ys h.1 i j

after_apart : (xs ys : List ℕ) → AreApart (xs ++ ys) → AreApart ys
after_apart [] ys h = h
after_apart (x ∷ xs) ys h = after_apart xs ys h.1

one_parent : (own : ℕ → List ℕ) (xs : List ℕ) → AreApart (flat own xs) → (p q k : ℕ) → In p xs → In q xs → In k (own p) → In k (own q) → p ≡ q
one_parent own [] h p q k i j ip iq = absurd i
one_parent own (x ∷ xs) h p q k (inl e) (inl f) ip iq = e ∙ sym f
one_parent own (x ∷ xs) h p q k (inl e) (inr j) ip iq = absurd (not_both k (own x) (flat own xs) h (subst (λ p. In k (own p)) e ip) (in_flat own xs q k j iq))
one_parent own (x ∷ xs) h p q k (inr i) (inl f) ip iq = absurd (not_both k (own x) (flat own xs) h (subst (λ q. In k (own q)) f iq) (in_flat own xs p k i ip))
one_parent own (x ∷ xs) h p q k (inr i) (inr j) ip iq = one_parent own xs (after_apart (own x) (flat own xs) h) p q k i j ip iq

pub is_generation : (kind : ℕ → BracketKind) (own : ℕ → List ℕ) (xs : List ℕ) → IsLeftLevel kind own xs → IsGeneration (left_generation kind own xs)
is_generation kind own xs h = record {
  balanced = let z : 0 ≡ 0 + 0 = omega arith in same_balance kind own None xs 0 h.left (subst (λ n. AreBalanced kind n xs) z h.balanced);
  own_kinds = λ p i. let n = (nodes_are own xs p).0 i in let l = left_at kind own None xs p h.left n.0 in own_left kind l.0 (kind p) (own p) n.1 l.1;
  apart = parents_apart own xs h.apart;
  next_apart = subst AreApart (sym (next_is kind own xs)) h.kids_apart;
  one_parent = λ p q k i j ip iq. one_parent own xs h.kids_apart p q k ((nodes_are own xs p).0 i).0 ((nodes_are own xs q).0 j).0 ip iq;
}
