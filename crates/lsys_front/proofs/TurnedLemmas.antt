-- What seats tell of a level and of the level below it.
use Rattle.std.proofs.Common.{◌≡◌, ◌≢◌, ◌⊎◌, ◌+◌, ℕ, List, [], ◌∷◌, slice_get, Option, Some, None, sym, ap, ◌∙◌, subst, arith, inl, inr, add-one}
use Rattle.std.specs.Prelude.{option_map}
use Rattle.std.specs.Option.{option_and_then}
use Rattle.lsys_spec.specs.Levels as L
use Rattle.lsys_spec.specs.Standings.{mate_at}
use Rattle.lsys_level.specs.Spots.{level_by}
use Rattle.lsys_laws.specs.Seams.{node_before}
use Rattle.std.proofs.lemmas.Bool.{cases_eq}
use Rattle.std.proofs.lemmas.Option.{same_Some}
use Rattle.lsys_spec.specs.Rows.{In, first_in, flat}
use Rattle.lsys_laws.specs.Kinds.{BracketKind}
use Rattle.lsys_forest.specs.Nodes.{Node, Nodes}
use Rattle.lsys_forest.specs.Changes.{Change}
use Rattle.lsys_forest.specs.Groves.{Grove, IsRooted, changes_in, now_of}
use Rattle.lsys_forest.specs.Rows.{index_in, spot_in, depth_in, kids_in, level_nodes, level_of_node}
use Rattle.lsys_forest.proofs.RowLemmas.{child, level_depth, level_apart}
use Rattle.lsys_children.specs.Children.{bracket_kind, kind_in_node, kind_at, KeepsChildren}
use Rattle.lsys_children.specs.Nexts.{node_kind}
use Rattle.lsys_reads.specs.declared.seat.Seat.{Seat}
use Rattle.lsys_reads.specs.Neighbours.{neighbours_in, neighbours_on, mate_on}
use Rattle.lsys_reads.specs.Seats.{neighbours_at}
use Rattle.lsys_reads.specs.Standings.{AreSeated}
use Rattle.lsys_reads.specs.Looks.{kids_of_level}
use Rattle.lsys_reads.proofs.LevelLemmas.{place_in, got_in}
use Rattle.lsys_front.specs.Below.{kids_at, KeepsFamily, AreLookedBelow}
use Rattle.lsys_front.specs.Turned.{AreTurnedBy, IsSameLevel}
use Rattle.lsys_front.proofs.BelowLemmas.{stays}
use Rattle.lsys_front.proofs.LevelLemmas.{one_place, kind_is}

-- 1. a number is in a row, or not

pub in_or_not : (k : ℕ) (xs : List ℕ) → In k xs ⊎ (In k xs → ⊥)
in_or_not k [] = inr (λ i. i)
in_or_not k (x ∷ xs) = elim (cases_eq k x) [
  | inl e ↦ inl (inl e)
  | inr ne ↦ elim (in_or_not k xs) [
    | inl i ↦ inl (inr i)
    | inr away ↦ inr (neither ne away)
  ]
]
  where
    neither : (k ≢ x) → (In k xs → ⊥) → In k (x ∷ xs) → ⊥
    neither ne away (inl e) = ne e
    neither ne away (inr i) = away i

-- 2. families

module _ {A : Type 0} where
  kind_there : (m : Nodes A) (k : ℕ) (c : BracketKind) → kind_at m k ≡ Some c → node_kind m k ≡ c
  kind_there m k c e = by (m k) e
    where
      by : (o : Option (Node A)) → option_map kind_in_node o ≡ Some c → bracket_kind (spot_in k o).seen ≡ c
      by None e = cc
      by (Some n) e = same_Some (bracket_kind n.seen) c e

  pub family_kept : (root : ℕ) (changes : List (Change A)) (o m : Nodes A) (t q : ℕ) → IsRooted root changes o → In q (level_nodes o root t) → KeepsChildren o m q → KeepsFamily o m root t q
  family_kept root changes o m t q sound there keeps = record {
    there = there;
    list = keeps.list;
    kinds = λ k i. (
        let j : In k (kids_in (o q)) = i in
        let c = child root changes o sound q k j in
        let now : node_kind m k ≡ bracket_kind c.node.seen = kind_there m k (bracket_kind c.node.seen) (keeps.kinds k j c.node c.is) in
        let was : node_kind o k ≡ bracket_kind c.node.seen = ap (λ x. bracket_kind (spot_in k x).seen) c.is in
        kind_is m k ∙ now ∙ sym was ∙ sym (kind_is o k)
        );
  }

  -- 3. seats

  -- the neighbours that a node has are those of its place
  pub told_in : (f : Grove A) → IsRooted f.root (changes_in f) (now_of f) → (t i k : ℕ) → slice_get (level_nodes (now_of f) f.root t) i ≡ Some k
      → neighbours_in f k ≡ neighbours_on (now_of f) (level_nodes (now_of f) f.root t) i
  told_in f sound t i k there =
      let d = level_depth f.root (changes_in f) (now_of f) sound t k (got_in (level_nodes (now_of f) f.root t) i k there) in
      let deep : depth_in (now_of f k) ≡ t + 1 = ap (λ (x : Option (Node A)). depth_in x) d.1 ∙ d.2 in
      let level : level_of_node f k ≡ t = omega (arith, deep) in
      let place : index_in k (level_nodes (now_of f) f.root t) ≡ i = one_place (level_nodes (now_of f) f.root t) (level_apart f.root (changes_in f) (now_of f) sound t) i k there in
      ap (λ u. neighbours_on (now_of f) (level_nodes (now_of f) f.root u) (index_in k (level_nodes (now_of f) f.root u))) level
      ∙ ap (neighbours_on (now_of f) (level_nodes (now_of f) f.root t)) place

  pub old_there : (o : Nodes A) (f : Grove A) (t : ℕ) (seats : List Seat) (turned : List ℕ) → AreTurnedBy o f t seats turned → (q : ℕ) → In q (level_nodes (now_of f) f.root t)
      → In q turned ⊎ In q (level_nodes o f.root t)
  old_there o f t seats turned h q i = elim (in_or_not q turned) [
    | inl j ↦ inl j
    | inr away ↦ inr (h.there q i away)
  ]

  pub seats_told : (o : Nodes A) (f : Grove A) (t : ℕ) (seats : List Seat) (turned : List ℕ) → AreTurnedBy o f t seats turned
      → (p i q : ℕ) → slice_get (level_nodes o f.root t) p ≡ Some q → slice_get (level_nodes (now_of f) f.root t) i ≡ Some q
      → In q turned ⊎ (neighbours_on (now_of f) (level_nodes (now_of f) f.root t) i ≡ neighbours_on o (level_nodes o f.root t) p)
  seats_told o f t seats turned h p i q hp hi = elim (in_or_not q turned) [
    | inl j ↦ inl j
    | inr away ↦
        let among = got_in (level_nodes (now_of f) f.root t) i q hi in
        inr (sym (told_in f h.sound t i q hi) ∙ h.same q among away ∙ h.seated p q hp)
  ]

  pub looked_below : (o : Nodes A) (f : Grove A) (t : ℕ) (touched turned looked : List ℕ) (seats : List Seat) → AreLookedBelow o f t touched turned looked → IsRooted f.root (changes_in f) (now_of f)
      → AreSeated o (level_nodes o f.root (t + 1)) seats → (k : ℕ) → In k (level_nodes (now_of f) f.root (t + 1)) → In k (level_nodes o f.root (t + 1))
      → In k looked ⊎ (neighbours_in f k ≡ neighbours_at seats k)
  looked_below o f t touched turned looked seats l sound seated k now then =
      let was : List ℕ = flat (kids_at o) (level_nodes o f.root t) in
      let old : level_nodes o f.root (t + 1) ≡ was = ap (level_nodes o f.root) (add-one t) in
      let new : level_nodes (now_of f) f.root (t + 1) ≡ kids_of_level f t = ap (level_nodes (now_of f) f.root) (add-one t) in
      let p = place_in k (level_nodes o f.root (t + 1)) then in
      let i = place_in k (level_nodes (now_of f) f.root (t + 1)) now in
      elim (stays o f t touched turned looked l p.0 i.0 k (ap (λ ks. slice_get ks p.0) (sym old) ∙ p.1) (ap (λ ks. slice_get ks i.0) (sym new) ∙ i.1)) [
        | inl h ↦ inl h
        | inr e ↦
            inr (told_in f sound (t + 1) i.0 k i.1 ∙ ap (λ ks. neighbours_on (now_of f) ks i.0) new ∙ e ∙ ap (λ ks. neighbours_on o ks p.0) (sym old) ∙ sym (seated p.0 k p.1))
      ]

  -- 4. levels that are the same

  -- neighbours are told by the nodes and their spots alone
  pub same_on : (f h : Grove A) (t i : ℕ) → IsSameLevel f h t
      → neighbours_on (now_of h) (level_nodes (now_of h) h.root t) i ≡ neighbours_on (now_of f) (level_nodes (now_of f) f.root t) i
  same_on f h t i e =
      let mate : mate_on (now_of h) (level_nodes (now_of h) h.root t) i ≡ mate_on (now_of f) (level_nodes (now_of f) f.root t) i = ap (λ x. mate_by (level_by (λ k. k ∷ []) x) i) e.spots in
      λ j. record { left = ap (λ ks. node_before ks i) e.nodes j; right = ap (λ ks. slice_get ks (i + 1)) e.nodes j; mate = mate j }
    where
      mate_by : List L.LevelSymbol → ℕ → Option ℕ
      mate_by y p = option_and_then first_in (mate_at y p (slice_get y p))

  pub same_neighbours : (f h : Grove A) (t : ℕ) → IsRooted f.root (changes_in f) (now_of f) → IsRooted h.root (changes_in h) (now_of h) → IsSameLevel f h t
      → (k : ℕ) → In k (level_nodes (now_of f) f.root t) → neighbours_in h k ≡ neighbours_in f k
  same_neighbours f h t sf sh e k i =
      let p = place_in k (level_nodes (now_of f) f.root t) i in
      told_in h sh t p.0 k (ap (λ ks. slice_get ks p.0) e.nodes ∙ p.1) ∙ same_on f h t p.0 e ∙ sym (told_in f sf t p.0 k p.1)

  pub same_turned : (o : Nodes A) (f h : Grove A) (t : ℕ) (seats : List Seat) (turned : List ℕ) → IsRooted h.root (changes_in h) (now_of h) → IsSameLevel f h t → AreTurnedBy o f t seats turned → AreTurnedBy o h t seats turned
  same_turned o f h t seats turned sh e a = record {
    sound = sh;
    seated = subst (λ r. AreSeated o (level_nodes o r t) seats) (sym e.root) a.seated;
    there = λ k i away. subst (λ r. In k (level_nodes o r t)) (sym e.root) (a.there k (subst (In k) e.nodes i) away);
    same = λ k i away. (
        let j = subst (In k) e.nodes i in same_neighbours f h t a.sound sh e k j ∙ a.same k j away
        );
  }
