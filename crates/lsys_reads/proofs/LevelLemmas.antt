-- Who stands beside a node, as the view of a forest tells it.
use Rattle.std.proofs.Common.{◌≡◌, ◌≢◌, ◌⊎◌, ◌+◌, ◌<◌, ℕ, zero, suc, List, [], ◌∷◌, length, map, slice_get, Option, Some, None, refl, sym, ap, ◌∙◌, arith, inl, inr, subst}
use Rattle.std.specs.Prelude.{option_map}
use Rattle.std.specs.Option.{option_and_then, unwrap_or}
use Rattle.std.proofs.lemmas.Bool.{cases_eq}
use Rattle.std.proofs.lemmas.Grind.{common_steps}
use Rattle.std.proofs.lemmas.List.{length-map}
use Rattle.std.proofs.lemmas.Option.{slice_get-map, slice_get_past, none-some}
use Rattle.lsys_spec.specs.Rows.{In, first_in}
use Rattle.lsys_spec.specs.Levels as L
use Rattle.lsys_spec.specs.Levels.{AreMates, lineage}
use Rattle.lsys_spec.specs.Standings.{mate_at, mate_ahead, mate_after}
use Rattle.lsys_spec.proofs.Around.{ends_at, items_push, way_pop}
use Rattle.lsys_level.specs.Spots.{Seen, Push, Pop, Module, Spotted, with_lineage, named, spots_at, level_by, spotted_at, IsBracket, IsSpot, IsMate}
use Rattle.lsys_laws.specs.Seams.{node_before}
use Rattle.lsys_forest.specs.Nodes.{Node, Nodes}
use Rattle.lsys_forest.specs.Groves.{Grove, now_of}
use Rattle.lsys_forest.specs.Rows.{index_in, spot_in, level_nodes, level_spots, complete_levels, level_of_node, place_of_node}
use Rattle.lsys_forest.specs.Mates.{seen_level}
use Rattle.lsys_forest.specs.Neighbours.{IsLeftNode, IsRightNode, IsMateNode}
use Rattle.lsys_forest.proofs.ViewLemmas.{told_is}
use Rattle.lsys_reads.specs.Neighbours.{numbered_level, mate_on, level_around, IsOnLevel}
use Rattle.lsys_reads.specs.Seats.{neighbour_told}
use Rattle.lsys_reads.proofs.SeatLemmas.{told_own, told_other}

-- 1. places

pub index_cases : (k x : ℕ) (xs : List ℕ) → ((k ≡ x) × (index_in k (x ∷ xs) ≡ 0)) ⊎ ((k ≢ x) × (index_in k (x ∷ xs) ≡ suc (index_in k xs)))
index_cases k x xs = elim (cases_eq k x) [
  | inl e ↦ inl (e, grind (arith, common_steps))
  | inr ne ↦ inr (ne, grind (arith, common_steps))
]

-- the number stands where it stands first
pub get_index : (k : ℕ) (xs : List ℕ) → index_in k xs < length xs → slice_get xs (index_in k xs) ≡ Some k
get_index k [] h = absurd (omega (arith, h))
get_index k (x ∷ xs) h = elim (index_cases k x xs) [
  | inl e ↦ ap (slice_get (x ∷ xs)) e.1 ∙ ap Some (sym e.0)
  | inr e ↦ ap (slice_get (x ∷ xs)) e.1 ∙ get_index k xs (omega (arith, h, e.1))
]

pub index_less : (k : ℕ) (xs : List ℕ) (p : ℕ) → slice_get xs p ≡ Some k → index_in k xs < length xs
index_less k [] p h = absurd (none-some k h)
index_less k (x ∷ xs) zero h =
    let f : x ≡ k = cc in
    elim (index_cases k x xs) [ inl e ↦ omega (arith, e.1) | inr e ↦ absurd (e.0 (sym f)) ]
index_less k (x ∷ xs) (suc p) h =
    let r = index_less k xs p h in
    elim (index_cases k x xs) [ inl e ↦ omega (arith, e.1) | inr e ↦ omega (arith, e.1, r) ]

pub place_in : (k : ℕ) (xs : List ℕ) → In k xs → (p : ℕ) × (slice_get xs p ≡ Some k)
place_in k [] h = absurd h
place_in k (x ∷ xs) (inl e) = (0, ap Some (sym e))
place_in k (x ∷ xs) (inr h) = let r = place_in k xs h in (suc r.0, r.1)

pub got_in : (xs : List ℕ) (p k : ℕ) → slice_get xs p ≡ Some k → In k xs
got_in [] p k h = absurd (none-some k h)
got_in (x ∷ xs) zero k h = let e : x ≡ k = cc in inl (sym e)
got_in (x ∷ xs) (suc p) k h = inr (got_in xs p k h)

spot_within : (levels : List (List Spotted)) (t p : ℕ) → IsSpot levels t p → t < length levels
spot_within [] t p h = absurd (omega (arith, h))
spot_within (x ∷ levels) zero p h = omega arith
spot_within (x ∷ levels) (suc t) p h = omega (arith, spot_within levels t p h)

-- 2. symbols

pub lineage_with : (l : List ℕ) (e : Seen) → lineage (with_lineage l e) ≡ l
lineage_with l Push = refl
lineage_with l Pop = refl
lineage_with l (Module m) = refl

module _ {A : Type 0} where
  tag_in : (k : ℕ) (o : Option (Node A)) → (spot_in k o).tag ≡ k
  tag_in k None = refl
  tag_in k (Some n) = refl

  pub lineage_named : (naming : ℕ → List ℕ) (k : ℕ) (o : Option (Node A)) → lineage (named naming (spot_in k o)) ≡ naming k
  lineage_named naming k o = lineage_with (naming (spot_in k o).tag) (spot_in k o).seen ∙ ap naming (tag_in k o)

  pub named_by_number : (naming : ℕ → List ℕ) (k : ℕ) (o : Option (Node A)) → named naming (spot_in k o) ≡ with_lineage (naming k) (spot_in k o).seen
  named_by_number naming k o = ap (λ t. with_lineage (naming t) (spot_in k o).seen) (tag_in k o)

  pub symbol_at : (naming : ℕ → List ℕ) (m : Nodes A) (xs : List ℕ) (q j : ℕ) → slice_get xs q ≡ Some j → slice_get (seen_level naming m xs) q ≡ Some (named naming (spot_in j (m j)))
  symbol_at naming m xs q j h =
      slice_get-map (named naming) (map (λ k. spot_in k (m k)) xs) q
      ∙ ap (option_map (named naming)) (slice_get-map (λ k. spot_in k (m k)) xs q ∙ ap (option_map (λ k. spot_in k (m k))) h)

  pub lineage_at : (naming : ℕ → List ℕ) (m : Nodes A) (xs : List ℕ) (q j : ℕ) (s : L.LevelSymbol) → slice_get xs q ≡ Some j → slice_get (seen_level naming m xs) q ≡ Some s → lineage s ≡ naming j
  lineage_at naming m xs q j s h e =
      let f : Some s ≡ Some (named naming (spot_in j (m j))) = sym e ∙ symbol_at naming m xs q j h in
      let g : s ≡ named naming (spot_in j (m j)) = cc in ap lineage g ∙ lineage_named naming j (m j)

  -- 3. mates

  pub mates_ahead : (m : Nodes A) (xs : List ℕ) (p q j : ℕ) → AreMates (numbered_level m xs) p q → slice_get xs q ≡ Some j → mate_on m xs p ≡ Some j
  mates_ahead m xs p q j a there =
      let y = numbered_level m xs in
      let o = a.opens in
      let c = ends_at y p q a in
      let l : c.0 ≡ j ∷ [] = lineage_at (λ k. k ∷ []) m xs q j (L.Pop c.0) there c.1 in
      ap (λ s. option_and_then first_in (mate_at y p s)) o.1
      ∙ ap (λ i. option_and_then first_in (mate_ahead i)) (items_push y p q o.0 c.0 a o.1 c.1)
      ∙ ap first_in l

  pub mates_after : (m : Nodes A) (xs : List ℕ) (p q j : ℕ) → AreMates (numbered_level m xs) q p → slice_get xs q ≡ Some j → mate_on m xs p ≡ Some j
  mates_after m xs p q j a there =
      let y = numbered_level m xs in
      let o = a.opens in
      let c = ends_at y q p a in
      let l : o.0 ≡ j ∷ [] = lineage_at (λ k. k ∷ []) m xs q j (L.Push o.0) there o.1 in
      ap (λ s. option_and_then first_in (mate_at y p s)) c.1
      ∙ ap (λ w. option_and_then first_in (mate_after w)) (way_pop y p q o.0 c.0 a o.1 c.1)
      ∙ ap first_in l

  pub mates_none : (m : Nodes A) (xs : List ℕ) (p k : ℕ) (v : L.ModuleValue) → slice_get xs p ≡ Some k → (spot_in k (m k)).seen ≡ Module v → mate_on m xs p ≡ None
  mates_none m xs p k v here seen =
      let y = numbered_level m xs in
      let s : slice_get y p ≡ Some (L.Module (k ∷ []) v) = symbol_at (λ k. k ∷ []) m xs p k here ∙ ap Some (named_by_number (λ k. k ∷ []) k (m k) ∙ ap (with_lineage (k ∷ [])) seen) in
      ap (λ s. option_and_then first_in (mate_at y p s)) s

  -- 4. the calls

  level_is : (f : Grove A) (k : ℕ) → IsOnLevel f k → spots_at (complete_levels f) (level_of_node f k) ≡ level_spots (now_of f) f.root (level_of_node f k)
  level_is f k h = told_is f (level_of_node f k) (spot_within (complete_levels f) (level_of_node f k) (place_of_node f k) h)

  pub level_long : (f : Grove A) (k : ℕ) → IsOnLevel f k → length (spots_at (complete_levels f) (level_of_node f k)) ≡ length (level_around f k)
  level_long f k h = ap length (level_is f k h) ∙ length-map (level_around f k) (λ i. spot_in i (now_of f i))

  -- where another node of the level stands
  other_place : (f : Grove A) (k s : ℕ) → level_of_node f s ≡ level_of_node f k → place_of_node f s ≡ index_in s (level_around f k)
  other_place f k s e = ap (λ t. index_in s (level_nodes (now_of f) f.root t)) e

  pub there_is : (f : Grove A) (k s : ℕ) → IsOnLevel f k → level_of_node f s ≡ level_of_node f k → place_of_node f s < length (spots_at (complete_levels f) (level_of_node f k))
      → slice_get (level_around f k) (place_of_node f s) ≡ Some s
  there_is f k s h e w =
      let o = other_place f k s e in
      ap (slice_get (level_around f k)) o ∙ get_index s (level_around f k) (omega (arith, o, w, level_long f k h))

  other : (f : Grove A) (k s : ℕ) → (place_of_node f s ≢ place_of_node f k) → s ≢ k
  other f k s ne e = ne (ap (place_of_node f) e)

  pub left_is : (f : Grove A) (k s : ℕ) → IsOnLevel f k → (level_of_node f s ≡ level_of_node f k) × (place_of_node f s + 1 ≡ place_of_node f k) → neighbour_told k s ≡ node_before (level_around f k) (place_of_node f k)
  left_is f k s h r =
      let next : suc (place_of_node f s) ≡ place_of_node f k = omega (arith, r.1) in
      let w : place_of_node f s < length (spots_at (complete_levels f) (level_of_node f k)) = omega (arith, r.1, h) in
      told_other k s (other f k s (λ e. omega (arith, e, r.1)))
      ∙ sym (there_is f k s h r.0 w) ∙ ap (node_before (level_around f k)) next

  pub left_none : (f : Grove A) (k : ℕ) → place_of_node f k ≡ 0 → neighbour_told k k ≡ node_before (level_around f k) (place_of_node f k)
  left_none f k e = told_own k ∙ ap (node_before (level_around f k)) (sym e)

  pub right_is : (f : Grove A) (k s : ℕ) → IsOnLevel f k
      → (level_of_node f s ≡ level_of_node f k) × (place_of_node f s ≡ place_of_node f k + 1) × (place_of_node f s < length (spots_at (complete_levels f) (level_of_node f k)))
      → neighbour_told k s ≡ slice_get (level_around f k) (place_of_node f k + 1)
  right_is f k s h r =
      told_other k s (other f k s (λ e. omega (arith, e, r.1)))
      ∙ sym (there_is f k s h r.0 r.2) ∙ ap (slice_get (level_around f k)) r.1

  pub right_none : (f : Grove A) (k : ℕ) → IsOnLevel f k → place_of_node f k + 1 ≡ length (spots_at (complete_levels f) (level_of_node f k)) → neighbour_told k k ≡ slice_get (level_around f k) (place_of_node f k + 1)
  right_none f k h e = told_own k ∙ sym (slice_get_past (level_around f k) (place_of_node f k + 1) (omega (arith, e, level_long f k h)))

  as_numbered : (f : Grove A) (k p q : ℕ) → IsOnLevel f k → ((naming : ℕ → List ℕ) → AreMates (level_by naming (spots_at (complete_levels f) (level_of_node f k))) p q) → AreMates (numbered_level (now_of f) (level_around f k)) p q
  as_numbered f k p q h a = subst (λ x. AreMates (level_by (λ k. k ∷ []) x) p q) (level_is f k h) (a (λ k. k ∷ []))

  pub push_mate : (f : Grove A) (k r : ℕ) → IsOnLevel f k → option_map (λ (s : Spotted). s.seen) (spotted_at (complete_levels f) (level_of_node f k) (place_of_node f k)) ≡ Some Push
      → level_of_node f r ≡ level_of_node f k → IsMate (spots_at (complete_levels f) (level_of_node f k)) (place_of_node f k) (place_of_node f r)
      → neighbour_told k r ≡ mate_on (now_of f) (level_around f k) (place_of_node f k)
  push_mate f k r h seen level mate =
      let o = mate.opens seen in
      told_other k r (other f k r (λ e. omega (arith, e, o.0)))
      ∙ sym (mates_ahead (now_of f) (level_around f k) (place_of_node f k) (place_of_node f r) r (as_numbered f k (place_of_node f k) (place_of_node f r) h o.1) (there_is f k r h level mate.within))

  pub pop_mate : (f : Grove A) (k r : ℕ) → IsOnLevel f k → option_map (λ (s : Spotted). s.seen) (spotted_at (complete_levels f) (level_of_node f k) (place_of_node f k)) ≡ Some Pop
      → level_of_node f r ≡ level_of_node f k → IsMate (spots_at (complete_levels f) (level_of_node f k)) (place_of_node f k) (place_of_node f r)
      → neighbour_told k r ≡ mate_on (now_of f) (level_around f k) (place_of_node f k)
  pop_mate f k r h seen level mate =
      let o = mate.closes seen in
      told_other k r (other f k r (λ e. omega (arith, e, o.0)))
      ∙ sym (mates_after (now_of f) (level_around f k) (place_of_node f k) (place_of_node f r) r (as_numbered f k (place_of_node f r) (place_of_node f k) h o.1) (there_is f k r h level mate.within))

  pub no_mate : (f : Grove A) (k : ℕ) (v : L.ModuleValue) → IsOnLevel f k → option_map (λ (s : Spotted). s.seen) (spotted_at (complete_levels f) (level_of_node f k) (place_of_node f k)) ≡ Some (Module v)
      → neighbour_told k k ≡ mate_on (now_of f) (level_around f k) (place_of_node f k)
  no_mate f k v h seen =
      let here = there_is f k k h refl h in
      let same : option_map (λ (s : Spotted). s.seen) (slice_get (spots_at (complete_levels f) (level_of_node f k)) (place_of_node f k)) ≡ Some (spot_in k (now_of f k)).seen =
      ap (λ x. option_map (λ (s : Spotted). s.seen) (slice_get x (place_of_node f k))) (level_is f k h)
      ∙ ap (option_map (λ (s : Spotted). s.seen)) (slice_get-map (λ i. spot_in i (now_of f i)) (level_around f k) (place_of_node f k) ∙ ap (option_map (λ i. spot_in i (now_of f i))) here) in
      let e : Some (spot_in k (now_of f k)).seen ≡ Some (Module v) = sym same ∙ seen in
      let g : (spot_in k (now_of f k)).seen ≡ Module v = cc in
      told_own k ∙ sym (mates_none (now_of f) (level_around f k) (place_of_node f k) k v here g)

  -- 5. who is around

  pub left_told : (f : Grove A) (k : ℕ) (left : Option ℕ) → IsOnLevel f k → IsLeftNode f k left → neighbour_told k (unwrap_or left k) ≡ node_before (level_around f k) (place_of_node f k)
  left_told f k None h is = left_none f k is
  left_told f k (Some s) h is = left_is f k s h is

  pub right_told : (f : Grove A) (k : ℕ) (right : Option ℕ) → IsOnLevel f k → IsRightNode f k right → neighbour_told k (unwrap_or right k) ≡ slice_get (level_around f k) (place_of_node f k + 1)
  right_told f k None h is = right_none f k h is
  right_told f k (Some s) h is = right_is f k s h is

  -- the symbol of a node of a level
  spotted_here : (f : Grove A) (k : ℕ) → IsOnLevel f k → spotted_at (complete_levels f) (level_of_node f k) (place_of_node f k) ≡ Some (spot_in k (now_of f k))
  spotted_here f k h =
      ap (λ x. slice_get x (place_of_node f k)) (level_is f k h)
      ∙ slice_get-map (λ i. spot_in i (now_of f i)) (level_around f k) (place_of_node f k)
      ∙ ap (option_map (λ i. spot_in i (now_of f i))) (there_is f k k h refl h)

  pub mate_told : (f : Grove A) (k : ℕ) (mate : Option ℕ) → IsOnLevel f k → IsMateNode f k mate → neighbour_told k (unwrap_or mate k) ≡ mate_on (now_of f) (level_around f k) (place_of_node f k)
  mate_told f k None h none = go (spot_in k (now_of f k)).seen refl
    where
      here : (s : Seen) → (spot_in k (now_of f k)).seen ≡ s → option_map (λ (x : Spotted). x.seen) (spotted_at (complete_levels f) (level_of_node f k) (place_of_node f k)) ≡ Some s
      here s e = ap (option_map (λ (x : Spotted). x.seen)) (spotted_here f k h) ∙ ap Some e

      go : (s : Seen) → (spot_in k (now_of f k)).seen ≡ s → neighbour_told k k ≡ mate_on (now_of f) (level_around f k) (place_of_node f k)
      go Push e = absurd (none (record { bracket = spot_in k (now_of f k); is = spotted_here f k h; kind = subst IsBracket (sym e) tt }))
      go Pop e = absurd (none (record { bracket = spot_in k (now_of f k); is = spotted_here f k h; kind = subst IsBracket (sym e) tt }))
      go (Module v) e = no_mate f k v h (here (Module v) e)
  mate_told f k (Some m) h (there, level, mate) = go there.bracket.seen refl
    where
      here : (s : Seen) → there.bracket.seen ≡ s → option_map (λ (x : Spotted). x.seen) (spotted_at (complete_levels f) (level_of_node f k) (place_of_node f k)) ≡ Some s
      here s e = ap (option_map (λ (x : Spotted). x.seen)) there.is ∙ ap Some e

      go : (s : Seen) → there.bracket.seen ≡ s → neighbour_told k m ≡ mate_on (now_of f) (level_around f k) (place_of_node f k)
      go Push e = push_mate f k m h (here Push e) level mate
      go Pop e = pop_mate f k m h (here Pop e) level mate
      go (Module v) e = absurd (subst IsBracket e there.kind)
