-- A parent among others.
use Rattle.std.proofs.Common.{◌≡◌, ◌≤◌, ℕ, zero, suc, List, [], ◌∷◌, ◌++◌, Option, Some, take, length, refl, sym, ap, ◌∙◌, subst, arith, inl, inr, slice_get, sum_by, if◌then◌else◌}
use Rattle.std.specs.Prelude.{IsSome, nat_eq}
use Rattle.std.proofs.lemmas.List.Sums.{sum_by-cons}
use Rattle.std.proofs.lemmas.Option.{none-some, same_Some}
use Rattle.lsys_spec.specs.Rows.{In, AreApart, mirrored}
use Rattle.lsys_spec.specs.Draws.{number_base}
use Rattle.lsys_forest.specs.Nodes.{Nodes}
use Rattle.lsys_forest.proofs.RowLemmas as rows
use Rattle.lsys_match.specs.Kept.{Kept}
use Rattle.lsys_children.specs.Nexts.{Successors}
use Rattle.lsys_children.specs.Answers.{kept_successors}
use Rattle.lsys_children.proofs.Walks.{same_yes, same_not}
use Rattle.lsys_children.specs.declared.parent.Parent.{Parent}
use Rattle.lsys_children.specs.Parents.{nodes_in, wants, AreToldBy, HasParents}

pub among : (ps : List Parent) (i : ℕ) (p : Parent) → slice_get ps i ≡ Some p → In p.node (nodes_in ps)
among [] zero p e = absurd (none-some p e)
among [] (suc i) p e = absurd (none-some p e)
among (q ∷ ps) zero p e = inl (ap (λ (x : Parent). x.node) (sym (same_Some q p e)))
among (q ∷ ps) (suc i) p e = inr (among ps i p e)

-- the first so many have no more than all
pub part_sum : {X : Type 0} (f : X → ℕ) (xs : List X) (i : ℕ) → sum_by f (take i xs) ≤ sum_by f xs
part_sum f [] zero = omega arith
part_sum f [] (suc i) = omega arith
part_sum f (x ∷ xs) zero = omega arith
part_sum f (x ∷ xs) (suc i) = let rest = part_sum f xs i in let a = sum_by-cons f x (take i xs) in let b = sum_by-cons f x xs in omega (arith, rest, a, b)

-- it was not there before
not_before : (ps : List Parent) (i : ℕ) (p : Parent) → AreApart (nodes_in ps) → slice_get ps i ≡ Some p → In p.node (nodes_in (take i ps)) → ⊥
not_before [] zero p a e h = h
not_before [] (suc i) p a e h = h
not_before (q ∷ ps) zero p a e h = h
not_before (q ∷ ps) (suc i) p a e (inl h) = a.0 (subst (λ k. In k (nodes_in ps)) h (among ps i p e))
not_before (q ∷ ps) (suc i) p a e (inr h) = not_before ps i p a.1 e h

pub unmirrored : (ks : List ℕ) (k : ℕ) → In k (mirrored ks) → In k ks
unmirrored [] k h = h
unmirrored (x ∷ xs) k h = elim (rows.In_append (mirrored xs) (x ∷ []) k h) [
  | inl l ↦ inr (unmirrored xs k l)
  | inr r ↦ elim r [ inl e ↦ inl e | inr n ↦ absurd n ]
]

pub not_done : (ps : List Parent) (i : ℕ) (p : Parent) → AreApart (nodes_in ps) → slice_get ps i ≡ Some p → In p.node (mirrored (nodes_in (take i ps))) → ⊥
not_done ps i p a e h = not_before ps i p a e (unmirrored (nodes_in (take i ps)) p.node h)

pub done_push : (ps : List Parent) (p : Parent) → mirrored (nodes_in (ps ++ p ∷ [])) ≡ p.node ∷ mirrored (nodes_in ps)
done_push [] p = refl
done_push (q ∷ ps) p = ap (λ (l : List ℕ). l ++ q.node ∷ []) (done_push ps p)

pub told_at : (by : Successors) (m : Nodes Kept) (ps : List Parent) (i : ℕ) (p : Parent) → AreToldBy by m ps → slice_get ps i ≡ Some p → by p.node ≡ wants m p
told_at by m [] zero p t e = absurd (none-some p e)
told_at by m [] (suc i) p t e = absurd (none-some p e)
told_at by m (q ∷ ps) zero p t e = subst (λ (x : Parent). by x.node ≡ wants m x) (same_Some q p e) t.0
told_at by m (q ∷ ps) (suc i) p t e = told_at by m ps i p t.1 e

-- what is wanted of each of them can be told
abbrev pub look : Nodes Kept → List Parent → Successors
look m [] k = []
look m (q ∷ ps) k = if nat_eq k q.node then wants m q else look m ps k

told_by : (m : Nodes Kept) (ps : List Parent) (by : Successors) → AreApart (nodes_in ps) → ((k : ℕ) → In k (nodes_in ps) → by k ≡ look m ps k) → AreToldBy by m ps
told_by m [] by a e = tt
told_by m (q ∷ ps) by a e = (e q.node (inl refl) ∙ yes, told_by m ps by a.1 (λ k i. e k (inr i) ∙ no k i))
  where
    yes : look m (q ∷ ps) q.node ≡ wants m q
    yes = ap (λ b. if b then wants m q else look m ps q.node) (same_yes q.node)

    no : (k : ℕ) → In k (nodes_in ps) → look m (q ∷ ps) k ≡ look m ps k
    no k i = ap (λ b. if b then wants m q else look m ps k) (same_not k q.node (λ f. a.0 (subst (λ j. In j (nodes_in ps)) f i)))

pub look_told : (m : Nodes Kept) (ps : List Parent) → AreApart (nodes_in ps) → AreToldBy (look m ps) m ps
look_told m ps a = told_by m ps (look m ps) a (λ k i. refl)

pub some_is : {X : Type 0} (o : Option X) (x : X) → o ≡ Some x → IsSome o
some_is o x e = subst IsSome (sym e) refl

pub parent_lives : (m : Nodes Kept) (root : ℕ) (ps : List Parent) (i : ℕ) (p : Parent) → HasParents m root (nodes_in ps) → slice_get ps i ≡ Some p → IsSome (m p.node)
parent_lives m root ps i p h e = let one = h.2.each p.node (among ps i p e) in some_is (m p.node) one.node one.is

pub parent_short : (m : Nodes Kept) (root : ℕ) (ps : List Parent) (i : ℕ) (p : Parent) → HasParents m root (nodes_in ps) → slice_get ps i ≡ Some p → length (kept_successors m p.node) ≤ number_base
parent_short m root ps i p h e = (h.2.each p.node (among ps i p e)).short
