-- Standings by the numbers of neighbours and mates.
use Rattle.std.proofs.Common.{◌≡◌, ℕ, zero, suc, ◌+◌, false, List, [], ◌∷◌, map, Option, Some, None, refl, ap, sym, ◌∙◌, subst, inl, inr}
use Rattle.std.specs.Prelude.{◌↔◌, slice_get, option_map}
use Rattle.lsys_spec.specs.Rows.{In}
use Rattle.lsys_spec.specs.Systems.{System}
use Rattle.lsys_spec.specs.Levels.{LevelSymbol, Push, Pop, Module, lineage}
use Rattle.lsys_spec.specs.Standings.{Standing, standing, standing_of, place_of, before_place, mate_at, mate_ahead, mate_after, Settled, is_disturbed}
use Rattle.lsys_spec.proofs.Around.{ends_at, items_push, way_pop}
use Rattle.lsys_spec.proofs.Standings.{place_is, place_told}
use Rattle.lsys_laws.specs.Seams.{node_before}
use Rattle.lsys_laws.specs.Seats.{Seating, seated, IsSeating, AreSeatings, IsSameSeat, StandsStill, AreLevelSeatings}
use Rattle.lsys_laws.proofs.UpTo.{disturbed_to}

-- 1. symbols by their nodes

get_map : (f : ℕ → LevelSymbol) (ks : List ℕ) (p : ℕ) → slice_get (map f ks) p ≡ option_map f (slice_get ks p)
get_map f [] p = refl
get_map f (k ∷ ks) zero = refl
get_map f (k ∷ ks) (suc p) = get_map f ks p

before_map : (f : ℕ → LevelSymbol) (ks : List ℕ) (p : ℕ) → before_place (map f ks) p ≡ option_map f (node_before ks p)
before_map f ks zero = refl
before_map f ks (suc p) = get_map f ks p

pub got_in : (ks : List ℕ) (p k : ℕ) → slice_get ks p ≡ Some k → In k ks
got_in [] p k h = cc
got_in (x ∷ ks) zero k h = let e : x ≡ k = cc in inl (sym e)
got_in (x ∷ ks) (suc p) k h = inr (got_in ks p k h)

before_in : (ks : List ℕ) (p k : ℕ) → node_before ks p ≡ Some k → In k ks
before_in ks zero k h = cc
before_in ks (suc p) k h = got_in ks p k h

pub place_in : (k : ℕ) (ks : List ℕ) → In k ks → (p : ℕ) × (slice_get ks p ≡ Some k)
place_in k [] h = absurd h
place_in k (x ∷ ks) (inl e) = (0, ap (λ x. Some x) (sym e))
place_in k (x ∷ ks) (inr h) = let r = place_in k ks h in (suc r.0, r.1)

-- the node of a symbol
pub record IsNodeOf (s : Seating) (p : ℕ) (a : LevelSymbol) : Type 0 where
  pub node : ℕ
  pub there : slice_get s.nodes p ≡ Some node
  pub is : s.symbol node ≡ a

pub node_of : (s : Seating) (p : ℕ) (a : LevelSymbol) → slice_get (seated s) p ≡ Some a → IsNodeOf s p a
node_of s p a h = by (slice_get s.nodes p) refl
  where
    by : (o : Option ℕ) → slice_get s.nodes p ≡ o → IsNodeOf s p a
    by None e = let f : None ≡ Some a = sym (get_map s.symbol s.nodes p ∙ ap (option_map s.symbol) e) ∙ h in cc
    by (Some k) e =
        let f : Some (s.symbol k) ≡ Some a = sym (get_map s.symbol s.nodes p ∙ ap (option_map s.symbol) e) ∙ h in
        let g : s.symbol k ≡ a = cc in record { node = k; there = e; is = g }

pub symbol_of : (s : Seating) (p k : ℕ) → slice_get s.nodes p ≡ Some k → slice_get (seated s) p ≡ Some (s.symbol k)
symbol_of s p k h = get_map s.symbol s.nodes p ∙ ap (option_map s.symbol) h

-- 2. mates

record IsMateTold (name : ℕ → List ℕ) (s : Seating) (p k : ℕ) : Type 0 where
  pub told : mate_at (seated s) p (Some (s.symbol k)) ≡ option_map name (s.mate k)
  pub among : (r : ℕ) → s.mate k ≡ Some r → In r s.nodes

mate_told : (name : ℕ → List ℕ) (s : Seating) → IsSeating name s → (p k : ℕ) → slice_get s.nodes p ≡ Some k → IsMateTold name s p k
mate_told name s h p k there = by (s.symbol k) refl
  where
    x : List LevelSymbol
    x = seated s

    found : (a : LevelSymbol) (r : ℕ) (l : List ℕ) → s.symbol k ≡ a → mate_at x p (Some a) ≡ Some l → s.mate k ≡ Some r → name r ≡ l → In r s.nodes → IsMateTold name s p k
    found a r l e m f n i = record {
      told = ap (λ a. mate_at x p (Some a)) e ∙ m ∙ ap (λ l. Some l) (sym n) ∙ sym (ap (option_map name) f);
      among = λ j g. let same : r ≡ j = let u : Some r ≡ Some j = sym f ∙ g in cc in subst (λ j. In j s.nodes) same i;
    }

    by : (a : LevelSymbol) → s.symbol k ≡ a → IsMateTold name s p k
    by (Module l m) e = record {
      told = ap (λ a. mate_at x p (Some a)) e ∙ sym (ap (option_map name) (h.modules k l m (got_in s.nodes p k there) e));
      among = λ r g. absurd (let u : None ≡ Some r = sym (h.modules k l m (got_in s.nodes p k there) e) ∙ g in cc);
    }
    by (Push l) e =
        let here : slice_get x p ≡ Some (Push l) = symbol_of s p k there ∙ ap (λ a. Some a) e in
        let m = h.level.opens p l here in
        let c = ends_at x p m.0 m.2 in
        let n : IsNodeOf s m.0 (Pop c.0) = node_of s m.0 (Pop c.0) c.1 in
        let i : In n.node s.nodes = got_in s.nodes m.0 n.node n.there in
        found (Push l) n.node c.0 e (ap mate_ahead (items_push x p m.0 l c.0 m.2 here c.1)) (h.opens p m.0 k n.node m.2 there n.there)
        (sym (h.names n.node i) ∙ ap lineage n.is) i
    by (Pop l) e =
        let here : slice_get x p ≡ Some (Pop l) = symbol_of s p k there ∙ ap (λ a. Some a) e in
        let m = h.level.closes p l here in
        let o = m.2.opens in
        let n : IsNodeOf s m.0 (Push o.0) = node_of s m.0 (Push o.0) o.1 in
        let i : In n.node s.nodes = got_in s.nodes m.0 n.node n.there in
        found (Pop l) n.node o.0 e (ap mate_after (way_pop x p m.0 o.0 l m.2 o.1 here)) (h.closes m.0 p n.node k m.2 n.there there)
        (sym (h.names n.node i) ∙ ap lineage n.is) i

-- 3. the same nodes

record SameNodes (old new : Seating) (o n : Option ℕ) : Type 0 where
  pub node : n ≡ o
  pub symbol : (j : ℕ) → o ≡ Some j → new.symbol j ≡ old.symbol j

-- neighbours that are the same symbols are the same nodes
same_nodes : (name : ℕ → List ℕ) (old new : Seating) → AreSeatings name old new → (o n : Option ℕ) → ((j : ℕ) → o ≡ Some j → In j old.nodes) → ((j : ℕ) → n ≡ Some j → In j new.nodes)
    → option_map new.symbol n ≡ option_map old.symbol o → SameNodes old new o n
same_nodes name old new a None None u v h = record { node = refl; symbol = λ j e. let f : None ≡ Some j = e in cc }
same_nodes name old new a None (Some i) u v h = cc
same_nodes name old new a (Some j) None u v h = cc
same_nodes name old new a (Some j) (Some i) u v h =
    let e : new.symbol i ≡ old.symbol j = cc in
    let l : name i ≡ name j = sym (a.after.names i (v i refl)) ∙ ap lineage e ∙ a.before.names j (u j refl) in
    let f : i ≡ j = a.apart i j (v i refl) (u j refl) l in
    record { node = ap (λ i. Some i) f; symbol = λ k g. let s : j ≡ k = cc in subst (λ k. new.symbol k ≡ old.symbol k) s (sym (ap new.symbol f) ∙ e) }

same_symbols : (was are : ℕ → LevelSymbol) (o n : Option ℕ) → n ≡ o → ((j : ℕ) → o ≡ Some j → are j ≡ was j) → option_map are n ≡ option_map was o
same_symbols was are o n e h = ap (option_map are) e ∙ by o h
  where
    by : (o : Option ℕ) → ((j : ℕ) → o ≡ Some j → are j ≡ was j) → option_map are o ≡ option_map was o
    by None h = refl
    by (Some j) h = ap (λ s. Some s) (h j refl)

-- mates that have one name are one node
same_mates : (name : ℕ → List ℕ) (old new : Seating) → AreSeatings name old new → (o n : Option ℕ) → ((j : ℕ) → o ≡ Some j → In j old.nodes) → ((j : ℕ) → n ≡ Some j → In j new.nodes)
    → option_map name n ≡ option_map name o → n ≡ o
same_mates name old new a None None u v h = refl
same_mates name old new a None (Some i) u v h = cc
same_mates name old new a (Some j) None u v h = cc
same_mates name old new a (Some j) (Some i) u v h =
    let e : name i ≡ name j = cc in ap (λ i. Some i) (a.apart i j (v i refl) (u j refl) e)

-- 4. the same seat

seats : (name : ℕ → List ℕ) (old new : Seating) → AreSeatings name old new → (p q k : ℕ) → slice_get old.nodes p ≡ Some k → slice_get new.nodes q ≡ Some k
    → (standing (seated new) q ≡ standing (seated old) p) ↔ IsSameSeat old new p q k
seats name old new a p q k hp hq = (to, from)
  where
    x : List LevelSymbol
    x = seated old

    y : List LevelSymbol
    y = seated new

    old_here : slice_get x p ≡ Some (old.symbol k)
    old_here = symbol_of old p k hp

    new_here : slice_get y q ≡ Some (new.symbol k)
    new_here = symbol_of new q k hq

    old_mate : IsMateTold name old p k
    old_mate = mate_told name old a.before p k hp

    new_mate : IsMateTold name new q k
    new_mate = mate_told name new a.after q k hq

    to : standing y q ≡ standing x p → IsSameSeat old new p q k
    to e =
        let own : Some (new.symbol k) ≡ Some (old.symbol k) = sym new_here ∙ ap (λ (s : Standing). s.symbol) e ∙ old_here in
        let left : SameNodes old new (node_before old.nodes p) (node_before new.nodes q) =
        same_nodes name old new a (node_before old.nodes p) (node_before new.nodes q) (λ j h. before_in old.nodes p j h) (λ j h. before_in new.nodes q j h)
        (sym (before_map new.symbol new.nodes q) ∙ ap (λ (s : Standing). s.before) e ∙ before_map old.symbol old.nodes p) in
        let right : SameNodes old new (slice_get old.nodes (p + 1)) (slice_get new.nodes (q + 1)) =
        same_nodes name old new a (slice_get old.nodes (p + 1)) (slice_get new.nodes (q + 1)) (λ j h. got_in old.nodes (p + 1) j h) (λ j h. got_in new.nodes (q + 1) j h)
        (sym (get_map new.symbol new.nodes (q + 1)) ∙ ap (λ (s : Standing). s.after) e ∙ get_map old.symbol old.nodes (p + 1)) in
        let mates : option_map name (new.mate k) ≡ option_map name (old.mate k) =
        sym new_mate.told ∙ ap (mate_at y q) (sym new_here) ∙ ap (λ (s : Standing). s.mate) e ∙ ap (mate_at x p) old_here ∙ old_mate.told in
        record {
          symbol = let f : new.symbol k ≡ old.symbol k = cc in f;
          left = left.node;
          left_symbol = left.symbol;
          right = right.node;
          right_symbol = right.symbol;
          mate = same_mates name old new a (old.mate k) (new.mate k) old_mate.among new_mate.among mates;
        }

    from : IsSameSeat old new p q k → standing y q ≡ standing x p
    from s =
        let own : slice_get y q ≡ slice_get x p = new_here ∙ ap (λ s. Some s) s.symbol ∙ sym old_here in
        let left : before_place y q ≡ before_place x p
        = before_map new.symbol new.nodes q ∙ same_symbols old.symbol new.symbol (node_before old.nodes p) (node_before new.nodes q) s.left s.left_symbol ∙ sym (before_map old.symbol old.nodes p) in
        let right : slice_get y (q + 1) ≡ slice_get x (p + 1)
        = get_map new.symbol new.nodes (q + 1) ∙ same_symbols old.symbol new.symbol (slice_get old.nodes (p + 1)) (slice_get new.nodes (q + 1)) s.right s.right_symbol
        ∙ sym (get_map old.symbol old.nodes (p + 1)) in
        let mate : mate_at y q (slice_get y q) ≡ mate_at x p (slice_get x p)
        = ap (mate_at y q) new_here ∙ new_mate.told ∙ ap (option_map name) s.mate ∙ sym old_mate.told ∙ ap (mate_at x p) (sym old_here) in
        λ i. record { symbol = own i; before = left i; after = right i; mate = mate i }

standing_at : (name : ℕ → List ℕ) (s : Seating) → IsSeating name s → (p k : ℕ) → slice_get s.nodes p ≡ Some k → standing_of (seated s) (name k) ≡ Some (standing (seated s) p)
standing_at name s h p k there =
    let n : lineage (s.symbol k) ≡ name k = h.names k (got_in s.nodes p k there) in
    ap (standing_of (seated s)) (sym n) ∙ ap (option_map (standing (seated s))) (place_is (seated s) p (s.symbol k) h.level (symbol_of s p k there))

-- a node whose lineage stands in the new level is there
pub there_again : (name : ℕ → List ℕ) (old new : Seating) → AreSeatings name old new → (k : ℕ) → In k old.nodes → (q : ℕ) → place_of (name k) (seated new) ≡ Some q → slice_get new.nodes q ≡ Some k
there_again name old new a k i q e =
    let t = place_told (name k) (seated new) q e in
    let j : IsNodeOf new q t.0 = node_of new q t.0 t.1 in
    let there : In j.node new.nodes = got_in new.nodes q j.node j.there in
    let names : name j.node ≡ name k = sym (a.after.names j.node there) ∙ ap lineage j.is ∙ t.2 in
    j.there ∙ ap (λ k. Some k) (a.apart j.node k there i names)

pub settled : (name : ℕ → List ℕ) (old new : Seating) → AreSeatings name old new → (k : ℕ) → In k old.nodes → Settled (seated old) (seated new) (name k) ↔ StandsStill old new k
settled name old new a k i = (to, from)
  where
    to : Settled (seated old) (seated new) (name k) → StandsStill old new k
    to e = by (place_of (name k) (seated new)) refl
      where
        at : (p : ℕ) × (slice_get old.nodes p ≡ Some k)
        at = place_in k old.nodes i

        was : standing_of (seated old) (name k) ≡ Some (standing (seated old) at.0)
        was = standing_at name old a.before at.0 k at.1

        by : (o : Option ℕ) → place_of (name k) (seated new) ≡ o → StandsStill old new k
        by None g = let f : None ≡ Some (standing (seated old) at.0) = sym (ap (option_map (standing (seated new))) g) ∙ e ∙ was in cc
        by (Some q) g =
            let here : slice_get new.nodes q ≡ Some k = there_again name old new a k i q g in
            let f : Some (standing (seated new) q) ≡ Some (standing (seated old) at.0) = sym (ap (option_map (standing (seated new))) g) ∙ e ∙ was in
            let s : standing (seated new) q ≡ standing (seated old) at.0 = cc in
            record { old_place = at.0; new_place = q; was_there = at.1; is_there = here; same = (seats name old new a at.0 q k at.1 here).0 s }

    from : StandsStill old new k → Settled (seated old) (seated new) (name k)
    from s =
        let r = seats name old new a s.old_place s.new_place k s.was_there s.is_there in
        standing_at name new a.after s.new_place k s.is_there ∙ ap (λ t. Some t) (r.1 s.same) ∙ sym (standing_at name old a.before s.old_place k s.was_there)

pub seat_told : (old new : System) (xs ys : List (List LevelSymbol)) (t : ℕ) (name : ℕ → List ℕ) (was are : Seating) → AreLevelSeatings old new xs ys t name was are → (k : ℕ) → In k was.nodes
    → (is_disturbed (seated was) (seated are) (name k) ≡ false) ↔ StandsStill was are k
seat_told old new xs ys t name was are a k i =
    let d = disturbed_to old new xs ys t a.meant t (seated was) (seated are) a.old_level a.new_level (name k) in
    let r = settled name was are a.seatings k i in (λ e. r.0 (d.0 e), λ e. d.1 (r.1 e))
