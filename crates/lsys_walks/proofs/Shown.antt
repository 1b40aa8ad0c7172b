-- What a view tells of a place, as the definitions have it.
use Rattle.std.proofs.Common.{◌≡◌, ℕ, List, [], ◌+◌, ◌<◌, length, get_or, map, Option, Some, None, refl, ap, sym, ◌∙◌, subst, arith}
use Rattle.std.specs.Prelude.{slice_get, option_map, MatchOption, Result, Ok, Err, IfOk, OnErr}
use Rattle.std.proofs.lemmas.Option.{slice_get-map, slice_get-get_or, get_or_from_slice_get}
use Rattle.lsys_spec.specs.Levels as L
use Rattle.lsys_spec.specs.Levels.{ModuleValue, LevelSymbol, AreMates}
use Rattle.lsys_spec.specs.Walks as W
use Rattle.lsys_spec.specs.Meaning.{most_entries}
use Rattle.lsys_spec.proofs.Around.{ends_at}
use Rattle.lsys_level.specs.Spots.{Seen, Push, Pop, Module, Spotted, named, with_lineage, level_by, spots_at, IsSpot, IsMate}
use Rattle.lsys_bodies.specs.declared.body.Pattern as code
use Rattle.lsys_bodies.specs.Views.{as_pattern}
use Rattle.lsys_walks.specs.declared.walked.Walked.{Walked}
use Rattle.lsys_walks.specs.Noted.{Noted, entry_by}
use Rattle.lsys_walks.specs.Walked.{Walks, ReadsFront, IsWalk, IsFrontOfWalk}

-- what a view tells of a place
pub record Shows (row : List Spotted) (p : ℕ) (e : Seen) (t : ℕ) : Type 0 where
  pub seen : option_map (λ s. s.seen) (slice_get row p) ≡ Some e
  pub tag : option_map (λ s. s.tag) (slice_get row p) ≡ Some t

pub shown : (row : List Spotted) (p : ℕ) (e : Seen) (t : ℕ) (naming : ℕ → List ℕ) → Shows row p e t → slice_get (level_by naming row) p ≡ Some (with_lineage (naming t) e)
shown row p e t naming h = slice_get-map (named naming) row p ∙ by (slice_get row p) h.seen h.tag
  where
    by : (o : Option Spotted) → option_map (λ s. s.seen) o ≡ Some e → option_map (λ s. s.tag) o ≡ Some t → option_map (named naming) o ≡ Some (with_lineage (naming t) e)
    by None a b = cc
    by (Some s) a b = let u : s.seen ≡ e = cc in let v : s.tag ≡ t = cc in rw (u, v) refl

-- the same, where the level of the spot is another's
shows : (levels : List (List Spotted)) (n t p : ℕ) (e : Seen) (k : ℕ) → n ≡ t → option_map (λ s. s.seen) (slice_get (spots_at levels n) p) ≡ Some e
    → option_map (λ s. s.tag) (slice_get (spots_at levels n) p) ≡ Some k → Shows (spots_at levels t) p e k
shows levels n t p e k h a b = subst (λ i. Shows (spots_at levels i) p e k) h (record { seen = a; tag = b })

-- the mate of a bracket that ends a branch
pub record Mated (row : List Spotted) (p q o : ℕ) : Type 0 where
  pub within : q < length row
  pub after : q < p
  pub are : (naming : ℕ → List ℕ) → AreMates (level_by naming row) q p
  pub begins : Shows row q Push o

push_seen : (row : List Spotted) (p : ℕ) (l : List ℕ) (naming : ℕ → List ℕ) → slice_get (level_by naming row) p ≡ Some (L.Push l) → option_map (λ s. s.seen) (slice_get row p) ≡ Some Push
push_seen row p l naming h = by (slice_get row p) (sym (slice_get-map (named naming) row p) ∙ h)
  where
    of : (s : Spotted) (e : Seen) → s.seen ≡ e → with_lineage (naming s.tag) e ≡ L.Push l → option_map (λ s. s.seen) (Some s) ≡ Some Push
    of s Push u v = ap (λ e. Some e) u
    of s Pop u v = cc
    of s (Module m) u v = cc

    by : (o : Option Spotted) → option_map (named naming) o ≡ Some (L.Push l) → option_map (λ s. s.seen) o ≡ Some Push
    by None k = cc
    by (Some s) k = of s s.seen refl (let e : named naming s ≡ L.Push l = cc in e)

mated : (levels : List (List Spotted)) (n m t p q k : ℕ) → n ≡ t → m ≡ n → IsMate (spots_at levels n) p q → option_map (λ s. s.seen) (slice_get (spots_at levels n) p) ≡ Some Pop
    → option_map (λ s. s.tag) (slice_get (spots_at levels m) q) ≡ Some k → Mated (spots_at levels t) p q k
mated levels n m t p q k h i a b d =
    let row : List Spotted = spots_at levels t in
    let a' : IsMate row p q = subst (λ i. IsMate (spots_at levels i) p q) h a in
    let b' : option_map (λ s. s.seen) (slice_get row p) ≡ Some Pop = subst (λ i. option_map (λ (s : Spotted). s.seen) (slice_get (spots_at levels i) p) ≡ Some Pop) h b in
    let d' : option_map (λ s. s.tag) (slice_get row q) ≡ Some k = subst (λ i. option_map (λ (s : Spotted). s.tag) (slice_get (spots_at levels i) q) ≡ Some k) (i ∙ h) d in
    let c = a'.closes b' in
    let bare : ℕ → List ℕ = λ t. [] in
    record { within = a'.within; after = c.0; are = c.1; begins = record { seen = push_seen row q (c.1 bare).opens.0 bare (c.1 bare).opens.1; tag = d' } }

-- the pattern that is read
pub same_pattern : (patterns : List code.Pattern) (i : ℕ) (q : code.Pattern) → i < length patterns → q ≡ get_or patterns i q → as_pattern q ≡ get_or (map as_pattern patterns) i (as_pattern q)
same_pattern patterns i q h e = ap as_pattern e ∙ sym (get_or_from_slice_get (map as_pattern patterns) i (as_pattern (get_or patterns i q)) (as_pattern q) (slice_get-map as_pattern patterns i ∙ ap (option_map as_pattern) (slice_get-get_or patterns i q h)))

-- the mate of a bracket that begins a branch
pub record Ended (row : List Spotted) (p q c : ℕ) : Type 0 where
  pub within : q < length row
  pub after : p < q
  pub are : (naming : ℕ → List ℕ) → AreMates (level_by naming row) p q
  pub ends : Shows row q Pop c

pop_seen : (row : List Spotted) (p : ℕ) (l : List ℕ) (naming : ℕ → List ℕ) → slice_get (level_by naming row) p ≡ Some (L.Pop l) → option_map (λ s. s.seen) (slice_get row p) ≡ Some Pop
pop_seen row p l naming h = by (slice_get row p) (sym (slice_get-map (named naming) row p) ∙ h)
  where
    of : (s : Spotted) (e : Seen) → s.seen ≡ e → with_lineage (naming s.tag) e ≡ L.Pop l → option_map (λ s. s.seen) (Some s) ≡ Some Pop
    of s Push u v = cc
    of s Pop u v = ap (λ e. Some e) u
    of s (Module m) u v = cc

    by : (o : Option Spotted) → option_map (named naming) o ≡ Some (L.Pop l) → option_map (λ s. s.seen) o ≡ Some Pop
    by None k = cc
    by (Some s) k = of s s.seen refl (let e : named naming s ≡ L.Pop l = cc in e)

ended : (levels : List (List Spotted)) (n m t p q k : ℕ) → n ≡ t → m ≡ n → IsMate (spots_at levels n) p q → option_map (λ s. s.seen) (slice_get (spots_at levels n) p) ≡ Some Push
    → option_map (λ s. s.tag) (slice_get (spots_at levels m) q) ≡ Some k → Ended (spots_at levels t) p q k
ended levels n m t p q k h i a b d =
    let row : List Spotted = spots_at levels t in
    let a' : IsMate row p q = subst (λ i. IsMate (spots_at levels i) p q) h a in
    let b' : option_map (λ s. s.seen) (slice_get row p) ≡ Some Push = subst (λ i. option_map (λ (s : Spotted). s.seen) (slice_get (spots_at levels i) p) ≡ Some Push) h b in
    let d' : option_map (λ s. s.tag) (slice_get row q) ≡ Some k = subst (λ i. option_map (λ (s : Spotted). s.tag) (slice_get (spots_at levels i) q) ≡ Some k) (i ∙ h) d in
    let c = a'.opens b' in
    let bare : ℕ → List ℕ = λ t. [] in
    let l = ends_at (level_by bare row) p q (c.1 bare) in
    record { within = a'.within; after = c.0; are = c.1; ends = record { seen = pop_seen row q l.0 bare l.1; tag = d' } }

-- a spot stands on level t
pub record Stands {Spot : Type 0} (levels : List (List Spotted)) (level place : Spot → ℕ) (t : ℕ) (s : Spot) : Type 0 where
  pub on : level s ≡ t
  pub within : place s < length (spots_at levels t)

-- where a walk to the right has come, none past the last place
module _ {Spot : Type 0} (levels : List (List Spotted)) (level place : Spot → ℕ) (t : ℕ) where
  abbrev pub place_at : Option Spot → ℕ
  place_at None = length (spots_at levels t)
  place_at (Some s) = place s

  abbrev pub IsAt : Option Spot → Type 0
  IsAt None = Unit {0}
  IsAt (Some s) = (level s ≡ t) × (place s < length (spots_at levels t))

  moved : (from : Spot) (o : Option Spot) → level from ≡ t
      → MatchOption o (place from + 1 ≡ length (spots_at levels (level from))) (λ s. (level s ≡ level from) × (place s ≡ place from + 1) × (place s < length (spots_at levels (level from))))
      → IsAt o × (place_at o ≡ place from + 1)
  moved from None e h = (tt, sym (h ∙ ap (λ i. length (spots_at levels i)) e))
  moved from (Some s) e h = ((h.0 ∙ e, subst (λ i. place s < length (spots_at levels i)) e h.2), h.1)

  -- the walk stands there
  pub stands_here : (o : Option Spot) (s : Spot) → o ≡ Some s → IsAt o → Stands levels level place t s
  stands_here o s e h = let k : IsAt (Some s) = subst IsAt e h in record { on = k.0; within = k.1 }

module _ {Spot : Type 0} {levels : List (List Spotted)} {level place : Spot → ℕ} {t : ℕ} {s : Spot} (st : Stands levels level place t s) where
  pub is_spot : IsSpot levels (level s) (place s)
  is_spot = subst (λ i. place s < length (spots_at levels i)) (sym st.on) st.within

  pub seen_at : {e : Seen} {k : ℕ} → option_map (λ s. s.seen) (slice_get (spots_at levels (level s)) (place s)) ≡ Some e → option_map (λ s. s.tag) (slice_get (spots_at levels (level s)) (place s)) ≡ Some k
      → Shows (spots_at levels t) (place s) e k
  seen_at {e} {k} a b = shows levels (level s) t (place s) e k st.on a b

  pub mated_at : (mate : Spot) {k : ℕ} → level mate ≡ level s → IsMate (spots_at levels (level s)) (place s) (place mate) → option_map (λ s. s.seen) (slice_get (spots_at levels (level s)) (place s)) ≡ Some Pop
      → option_map (λ s. s.tag) (slice_get (spots_at levels (level mate)) (place mate)) ≡ Some k → Mated (spots_at levels t) (place s) (place mate) k
  mated_at mate {k} i a b c = mated levels (level s) (level mate) t (place s) (place mate) k st.on i a b c

  pub ended_at : (mate : Spot) {k : ℕ} → level mate ≡ level s → IsMate (spots_at levels (level s)) (place s) (place mate) → option_map (λ s. s.seen) (slice_get (spots_at levels (level s)) (place s)) ≡ Some Push
      → option_map (λ s. s.tag) (slice_get (spots_at levels (level mate)) (place mate)) ≡ Some k → Ended (spots_at levels t) (place s) (place mate) k
  ended_at mate {k} i a b c = ended levels (level s) (level mate) t (place s) (place mate) k st.on i a b c

  pub stands_beside : (other : Spot) → level other ≡ level s → place other < length (spots_at levels t) → Stands levels level place t other
  stands_beside other i h = record { on = i ∙ st.on; within = h }

  -- the walk has moved by one place
  pub moved_at : (o : Option Spot) → MatchOption o (place s + 1 ≡ length (spots_at levels (level s))) (λ x. (level x ≡ level s) × (place x ≡ place s + 1) × (place x < length (spots_at levels (level s))))
      → IsAt levels level place t o
  moved_at o h = (moved levels level place t s o st.on h).0

  pub moved_to : (o : Option Spot) → MatchOption o (place s + 1 ≡ length (spots_at levels (level s))) (λ x. (level x ≡ level s) × (place x ≡ place s + 1) × (place x < length (spots_at levels (level s))))
      → place_at levels level place t o ≡ place s + 1
  moved_to o h = (moved levels level place t s o st.on h).1

-- the spot to the left
pub stands_before : {Spot : Type 0} (levels : List (List Spotted)) (level place : Spot → ℕ) (t : ℕ) (at next : Spot) → level at ≡ t → IsSpot levels (level at) (place at) → level next ≡ level at → place next + 1 ≡ place at
    → Stands levels level place t next
stands_before levels level place t at next a h i e =
    let k : place at < length (spots_at levels t) = subst (λ i. place at < length (spots_at levels i)) a h in
    record { on = i ∙ a; within = omega (arith, e, k) }

pub item_at : {A : Type 0} (xs : List A) (i : ℕ) (a : A) → i < length xs → a ≡ get_or xs i a → slice_get xs i ≡ Some a
item_at xs i a h e = slice_get-get_or xs i a h ∙ ap (λ a. Some a) (sym e)

-- what was told on the level of a spot
module _ {Spot : Type 0} {levels : List (List Spotted)} {level place : Spot → ℕ} {t : ℕ} {s : Spot} (st : Stands levels level place t s) {E : Type 0} (walk : List LevelSymbol → W.Told W.Found) (old new : List Noted) (r : Result Walked E) where
  pub told_on : (Kept : List ModuleValue → Type 0) (x : Walked) → r ≡ Ok x → IsWalk walk (spots_at levels (level s)) old new Kept r
      → (naming : ℕ → List ℕ) → Walks most_entries (walk (level_by naming (spots_at levels t))) (map (entry_by naming) old) (map (entry_by naming) new) Kept x
  told_on Kept x e h naming =
      subst (λ i. Walks most_entries (walk (level_by naming (spots_at levels i))) (map (entry_by naming) old) (map (entry_by naming) new) Kept x) st.on
      (subst (λ r. IfOk r (Walks most_entries (walk (level_by naming (spots_at levels (level s)))) (map (entry_by naming) old) (map (entry_by naming) new) Kept)) e (h naming))

  pub front_on_level : (x : E) → r ≡ Err x → IsFrontOfWalk walk (spots_at levels (level s)) old new r
      → (naming : ℕ → List ℕ) → ReadsFront (walk (level_by naming (spots_at levels t))) (map (entry_by naming) old) (map (entry_by naming) new)
  front_on_level x e h naming =
      subst (λ i. ReadsFront (walk (level_by naming (spots_at levels i))) (map (entry_by naming) old) (map (entry_by naming) new)) st.on
      (subst (λ r. OnErr r (ReadsFront (walk (level_by naming (spots_at levels (level s)))) (map (entry_by naming) old) (map (entry_by naming) new))) e (h naming))
