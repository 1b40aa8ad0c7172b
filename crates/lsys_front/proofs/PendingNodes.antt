-- The nodes that are pending are the candidates of a level, and in order they are some of it.
use Rattle.std.proofs.Common.{◌≡◌, ◌⊎◌, ◌↔◌, ◌<◌, ◌≤◌, ℕ, suc, List, [], ◌∷◌, refl, sym, ap, ◌∙◌, subst, inl, inr, arith}
use Rattle.std.specs.Prelude.{◌-◌}
use Rattle.lsys_spec.specs.Rows.{In}
use Rattle.lsys_reads.specs.Relations.{Relations}
use Rattle.lsys_match.specs.Kept.{Kept}
use Rattle.lsys_forest.specs.Groves.{Grove, IsRooted, now_of, changes_in}
use Rattle.lsys_forest.specs.Rows.{depth_in, index_in, level_nodes, level_of_node, place_of_node}
use Rattle.lsys_forest.proofs.RowLemmas.{level_depth}
use Rattle.lsys_reads.specs.declared.seat.Seat.{Seat}
use Rattle.lsys_reads.proofs.LevelLemmas.{index_cases}
use Rattle.lsys_front.specs.Repairs.{Repair, are}
use Rattle.lsys_front.specs.Candidates.{was_last, AsksNow, IsCandidateNode}
use Rattle.lsys_front.specs.Found.{LevelChanges, SteppingNodes, IsFound, IsAmong}
use Rattle.lsys_front.specs.Questioned.{ArePlaced, AreInOrder, AreSome}
use Rattle.lsys_front.proofs.FoundNodes.{found_asked, found_there}

-- 1. the candidates

pub pending_found : (r : Repair) (seats : List Seat) (reads : Relations) (c : LevelChanges) (others turned beside readers pending : List ℕ)
    → SteppingNodes r seats reads c others → IsFound r.forest seats reads c turned beside readers
    → ((k : ℕ) → In k pending ↔ (AsksNow r k × (In k others ⊎ IsAmong c turned beside readers k)))
    → (k : ℕ) → In k pending ↔ (In k (are r) × IsCandidateNode r k)
pending_found r seats reads c others turned beside readers pending s f is k = (
  λ i. (let a = (is k).0 i in
      let h : In k (are r) = elim a.1 [
        | inl o ↦ (s.others_are k o).0
        | inr u ↦ found_there r seats reads c others turned beside readers s f k u
      ] in
      (h, (found_asked r seats reads c others turned beside readers s f k h).1 a)),
  λ a. (is k).1 ((found_asked r seats reads c others turned beside readers s f k a.0).0 a.1),
)

pub pending_all : (r : Repair) (pending : List ℕ) → r.old.depth ≤ r.level → ((k : ℕ) → In k pending ↔ (In k (are r) × AsksNow r k))
    → (k : ℕ) → In k pending ↔ (In k (are r) × IsCandidateNode r k)
pending_all r pending last is k = (
  λ i. (let a = (is k).0 i in (a.0, record { asks = a.1; differs = was_last last })),
  λ a. (is k).1 (a.0, a.1.asks),
)

-- 2. in order

placed_as : (g h : ℕ → ℕ) (js : List ℕ) → ((k : ℕ) → In k js → h k ≡ g k) → ArePlaced g js → ArePlaced h js
placed_as g h [] same p = tt
placed_as g h (j ∷ js) same p = (
  λ k i. (let a = p.0 k i in let b = same j (inl refl) in let c = same k (inr i) in omega (arith, a, b, c)),
  placed_as g h js (λ k i. same k (inr i)) p.1,
)

-- none of these is the first of a list, so they are some of the rest
placed_less : (k : ℕ) (ks js : List ℕ) → ((i : ℕ) → In i js → index_in i (k ∷ ks) ≡ suc (index_in i ks)) → ArePlaced (λ i. index_in i (k ∷ ks)) js → ArePlaced (λ i. index_in i ks) js
placed_less k ks [] next p = tt
placed_less k ks (j ∷ js) next p = (
  λ i h. (let a = p.0 i h in let b = next j (inl refl) in let c = next i (inr h) in omega (arith, a, b, c)),
  placed_less k ks js (λ i h. next i (inr h)) p.1,
)

record IsAfter (k : ℕ) (ks : List ℕ) (i : ℕ) : Type 0 where
  pub within : In i ks
  pub next : index_in i (k ∷ ks) ≡ suc (index_in i ks)

after : (k : ℕ) (ks : List ℕ) (i : ℕ) → In i (k ∷ ks) → 0 < index_in i (k ∷ ks) → IsAfter k ks i
after k ks i h l = elim (index_cases i k ks) [
  | inl e ↦ absurd (let z = e.1 in omega (arith, z, l))
  | inr e ↦ record { within = elim h [ inl same ↦ absurd (e.0 same) | inr m ↦ m ]; next = e.1 }
]

some_placed : (ks js : List ℕ) → ((k : ℕ) → In k js → In k ks) → ArePlaced (λ k. index_in k ks) js → AreSome js ks
some_placed ks [] h p = tt
some_placed [] (j ∷ js) h p = h j (inl refl)
some_placed (k ∷ ks) (j ∷ js) h p = elim (index_cases j k ks) [
  | inl e ↦ (let back : (i : ℕ) → In i js → IsAfter k ks i = λ i m. after k ks i (h i (inr m)) (let a = p.0 i m in let z = e.1 in omega (arith, a, z)) in
      inl (e.0, some_placed ks js (λ i m. (back i m).within) (placed_less k ks js (λ i m. (back i m).next) p.1)))
  | inr e ↦ (let first : IsAfter k ks j = after k ks j (h j (inl refl)) (let s = e.1 in omega (arith, s)) in
      let back : (i : ℕ) → In i (j ∷ js) → IsAfter k ks i = λ i m. elim m [
        | inl same ↦ subst (IsAfter k ks) (sym same) first
        | inr n ↦ after k ks i (h i (inr n)) (let a = p.0 i n in omega (arith, a))
      ] in
      inr (some_placed ks (j ∷ js) (λ i m. (back i m).within) (placed_less k ks (j ∷ js) (λ i m. (back i m).next) p)))
]

pub pending_some : (f : Grove Kept) (t : ℕ) (nodes : List ℕ) → IsRooted f.root (changes_in f) (now_of f) → AreInOrder f nodes
    → ((k : ℕ) → In k nodes → In k (level_nodes (now_of f) f.root t)) → AreSome nodes (level_nodes (now_of f) f.root t)
pending_some f t nodes sound order within =
    some_placed ks nodes within (placed_as (place_of_node f) (λ k. index_in k ks) nodes (λ k i. sym (place_is k i)) order)
  where
    ks : List ℕ
    ks = level_nodes (now_of f) f.root t

    level_is : (k : ℕ) → In k nodes → level_of_node f k ≡ t
    level_is k i =
        let d = level_depth f.root (changes_in f) (now_of f) sound t k (within k i) in
        ap (λ o. depth_in o - 1) d.1 ∙ omega (arith, d.2)

    place_is : (k : ℕ) → In k nodes → place_of_node f k ≡ index_in k ks
    place_is k i = ap (λ u. index_in k (level_nodes (now_of f) f.root u)) (level_is k i)
