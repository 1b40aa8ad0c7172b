-- How many symbols the next level will have.
use Rattle.std.proofs.Common.{◌≡◌, ◌+◌, ◌<◌, ◌≤◌, ◌^◌, ℕ, suc, true, false, List, [], ◌∷◌, length, map, Some, None, refl, sym, ap, ◌∙◌, subst, inl, inr, arith, sum_by, cond, ◌⊎◌}
use Rattle.std.specs.Prelude.{IsSome, option_map, Bool, Option}
use Rattle.std.proofs.lemmas.List.Sums.{sum_by-cons}
use Rattle.std.proofs.lemmas.Option.{none-some}
use Rattle.lsys_spec.specs.Rows.{In, AreApart}
use Rattle.lsys_match.specs.Kept.{Kept}
use Rattle.lsys_forest.specs.Nodes.{Node, Nodes}
use Rattle.lsys_forest.specs.Groves.{IsLive, changes_in}
use Rattle.lsys_forest.specs.Rows.{kids_in, level_nodes}
use Rattle.lsys_forest.proofs.RowLemmas.{level_depth, level_apart}
use Rattle.lsys_forest.proofs.DepthLemmas.{fits}
use Rattle.lsys_forest.proofs.StockLemmas.{stored_of}
use Rattle.lsys_laws.specs.Nodes.{Kin}
use Rattle.lsys_reads.specs.Lineages.{kin_of}
use Rattle.lsys_reads.specs.Rows.{has}
use Rattle.lsys_children.specs.Nexts.{HasWanted, AreClosed}
use Rattle.lsys_children.specs.Answers.{kept_successors}
use Rattle.lsys_children.proofs.Lengths.{below_count, other_sums}
use Rattle.lsys_children.specs.declared.parent.Parent.{Parent}
use Rattle.lsys_children.specs.Parents.{nodes_in, AreToldBy, cut_parents, uncut}
use Rattle.lsys_children.specs.Needs.{had_by_all, wanted_of_all}
use Rattle.lsys_children.proofs.Walked.{whole_told}
use Rattle.lsys_front.specs.Repairs.{Repair}
use Rattle.lsys_front.proofs.Spots.{sound_old}
use Rattle.lsys_front.proofs.NextSymbols.{left, by_parents, by_walk, had_sum}
use Rattle.lsys_pass.specs.Sizes.{symbols_at}
use Rattle.lsys_pass.specs.Passes.{PassView, stage_of, repair_of}
use Rattle.lsys_pass.specs.Passes as P
use Rattle.lsys_pass.specs.Advances.{symbols_wanted}
use Rattle.lsys_pass.specs.Fresh.{WasAsked, row_of, AreNextParents, AreWalkedOrAlone}
use Rattle.lsys_pass.proofs.Settling.{has_in, in_has}
use Rattle.lsys_pass.proofs.NextParents.{spots, deeper, sound, wanted_alone}

abbrev pub kids_at : Nodes Kept → ℕ → ℕ
kids_at m k = length (kids_in (m k))

-- 1. a sum over some of the nodes

no_sum : (f : ℕ → ℕ) (ks : List ℕ) → ((k : ℕ) → In k ks → f k ≡ 0) → sum_by f ks ≡ 0
no_sum f [] h = refl
no_sum f (k ∷ ks) h = let rest = no_sum f ks (λ j i. h j (inr i)) in let one = h k (inl refl) in let c = sum_by-cons f k ks in omega (arith, rest, one, c)

some_sum : (f : ℕ → ℕ) (ks ps : List ℕ) → AreApart ks → AreApart ps → ((p : ℕ) → In p ps → In p ks) → sum_by f ps ≤ sum_by f ks
some_sum f ks ps a b among =
    let g : ℕ → ℕ = λ k. cond (has ps k) 0 (f k) in
    let none : sum_by g ps ≡ 0 = no_sum g ps (λ k i. ap (λ b. cond b 0 (f k)) (in_has ps k i)) in
    let sums = other_sums f g ks ps a b among (λ k i. by k (has ps k) refl) in
    omega (arith, none, sums)
  where
    by : (k : ℕ) (b : Bool) → has ps k ≡ b → In k ps ⊎ (cond (has ps k) 0 (f k) ≡ f k)
    by k true e = inl (has_in ps k e)
    by k false e = inr (ap (λ b. cond b 0 (f k)) e)

-- 2. a level that was asked

module _ (v : PassView) (t : ℕ) (a : WasAsked v t) where
  abbrev r : Repair
  r = repair_of v t

  apart_at : (u : ℕ) → AreApart (row_of v u)
  apart_at u = level_apart v.forest.root (changes_in v.forest) (P.now_in v) (sound v t a) u

  live_all : (ks : List ℕ) → AreApart ks → ((k : ℕ) → In k ks → IsLive v.forest k) → length ks < 2 ^ 32
  live_all ks apart lives =
      let most = fits ks v.forest.stock.slots apart (λ k i.
      let n = some_node (P.now_in v k) (lives k i) in
      let s = stored_of v.forest.stock.slots v.forest.stock.params v.forest.stock.kids k n.0 n.1 in
      subst IsSome (sym s.1) refl) in
      let live = a.pass.few in
      omega (arith, most, live)
    where
      some_node : (o : Option (Node Kept)) → IsSome o → (n : Node Kept) × (o ≡ Some n)
      some_node None h = absurd (let e : false ≡ true = h in cc)
      some_node (Some n) h = (n, refl)

  row_lives : (u k : ℕ) → In k (row_of v u) → IsLive v.forest k
  row_lives u k i = let d = level_depth v.forest.root (changes_in v.forest) (P.now_in v) (sound v t a) u k i in subst IsSome (sym d.1) refl

  few_next : length (row_of v (t + 1)) < 2 ^ 32
  few_next = live_all (row_of v (t + 1)) (apart_at (t + 1)) (row_lives (t + 1))

  -- one that lived at the last rest lives
  was_lives : (u k : ℕ) → In k (level_nodes (P.rest_in v) v.forest.root u) → IsLive v.forest k
  was_lives u k i =
      let d = level_depth v.forest.root [] (P.rest_in v) (sound_old r (spots v t a)) u k i in
      kin_lives (P.now_in v k) (kin_of d.0) (a.asked.at.tree.stay k (kin_of d.0) (ap (option_map kin_of) d.1))
    where
      kin_lives : (o : Option (Node Kept)) (x : Kin) → option_map kin_of o ≡ Some x → IsSome o
      kin_lives None x e = absurd (none-some x e)
      kin_lives (Some n) x e = refl

  pub gone_lives : (k : ℕ) → In k v.front.changes.gone → IsLive v.forest k
  gone_lives k i = was_lives t k ((a.pass.front.front.differs.gone k).0 i).0

  -- what is left of the next level of the last rest
  pub left_of : length (row_of v (t + 1)) + sum_by (kids_at (P.now_in v)) v.front.changes.gone ≡ symbols_at v.sizes (t + 1)
  left_of = left r (spots v t a) (deeper v t a) v.front.changes a.pass.front.front.differs a.pass.front.front.gone_once ∙ sym (a.pass.sized.symbols (t + 1))

  pub few_was : symbols_at v.sizes (t + 1) < 2 ^ 32
  few_was =
      let n = live_all (level_nodes (P.rest_in v) v.forest.root (t + 1)) (level_apart v.forest.root [] (P.rest_in v) (sound_old r (spots v t a)) (t + 1)) (was_lives (t + 1)) in
      let e = a.pass.sized.symbols (t + 1) in
      omega (arith, n, e)

  pub gone_few : sum_by (kids_at (P.now_in v)) v.front.changes.gone ≤ 2 ^ 32
  gone_few = let l = left_of in let f = few_was in omega (arith, l, f)

  module _ (ps : List Parent) (n : AreNextParents v t ps) where
    length_nodes : (qs : List Parent) → length (nodes_in qs) ≡ length qs
    length_nodes [] = refl
    length_nodes (q ∷ qs) = ap suc (length_nodes qs)

    pub few_parents : length ps < 2 ^ 32
    few_parents =
        let l = live_all (nodes_in ps) n.parents.apart (λ k i. row_lives t k (n.there k i)) in
        let e = length_nodes ps in
        omega (arith, l, e)

    pub had_few : had_by_all (P.now_in v) ps ≤ length (row_of v (t + 1))
    had_few =
        let some = some_sum (kids_at (P.now_in v)) (row_of v t) (nodes_in ps) (apart_at t) n.parents.apart n.there in
        let had = had_sum (P.now_in v) ps in
        let next : t + 1 ≡ suc t = omega arith in
        let all : length (row_of v (t + 1)) ≡ sum_by (kids_at (P.now_in v)) (row_of v t) = ap (λ u. length (row_of v u)) next ∙ below_count (P.now_in v) (row_of v t) in
        omega (arith, some, had, all)

    pub had_small : had_by_all (P.now_in v) ps ≤ 2 ^ 32
    had_small = let h = had_few in let f = few_next in omega (arith, h, f)

    pub walked_symbols : ps ≡ cut_parents (P.now_in v) None (row_of v t) → wanted_of_all v.next.numbering (P.now_in v) ps ≡ symbols_wanted (stage_of v) t
    walked_symbols e = sym (by_walk r ps e (apart_at t))

    alone_told : AreClosed (kept_successors (P.now_in v)) (row_of v t) → ps ≡ map uncut (nodes_in ps) → AreToldBy (kept_successors (P.now_in v)) (P.now_in v) ps
    alone_told closed e = subst (λ (qs : List Parent). AreToldBy (kept_successors (P.now_in v)) (P.now_in v) qs) (sym e) (whole_told (P.now_in v) (nodes_in ps))

    pub alone_symbols : AreClosed (kept_successors (P.now_in v)) (row_of v t) → ps ≡ map uncut (nodes_in ps)
        → symbols_wanted (stage_of v) t + had_by_all (P.now_in v) ps + sum_by (kids_at (P.now_in v)) v.front.changes.gone ≡ symbols_at v.sizes (t + 1) + wanted_of_all v.next.numbering (P.now_in v) ps
    alone_symbols closed e =
        let sums = by_parents r ps (spots v t a) n.parents.apart n.there closed (alone_told closed e)
        (λ k i. elim (n.others k i) [
          | inl j ↦ inl j
          | inr w ↦ inr (subst (HasWanted v.next.numbering v.next.seed (P.now_in v) k) (wanted_alone (P.now_in v) (kept_successors (P.now_in v)) (row_of v t) closed k i) w)
        ]) in
        let l = left_of in
        omega (arith, sums, l)

-- which of both it is
pub is_walked : (v : PassView) (t : ℕ) (b : Bool) (ps : List Parent) → b ≡ true → AreWalkedOrAlone v t b ps → ps ≡ cut_parents (P.now_in v) None (row_of v t)
is_walked v t true ps e h = h
is_walked v t false ps e h = absurd (let f : false ≡ true = e in cc)

pub is_alone : (v : PassView) (t : ℕ) (b : Bool) (ps : List Parent) → b ≡ false → AreWalkedOrAlone v t b ps → AreClosed (kept_successors (P.now_in v)) (row_of v t) × (ps ≡ map uncut (nodes_in ps))
is_alone v t true ps e h = absurd (let f : true ≡ false = e in cc)
is_alone v t false ps e h = h
