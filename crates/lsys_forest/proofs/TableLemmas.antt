-- The entries of a slab, part by part.
use Rattle.std.proofs.Common.{◌≡◌, ◌≢◌, ◌+◌, ℕ, zero, suc, List, [], ◌∷◌, map, set, get_or, Option, Some, None, refl, sym, ap, ap₂, ◌∙◌, arith, subst}
use Rattle.std.specs.Prelude.{OnSome, IfNone, IsSome, is_some, count_by, option_map}
use Rattle.std.proofs.lemmas.List.{map-set}
use Rattle.std.proofs.lemmas.List.Sums.{sum_by-cons}
use Rattle.slab.specs.Slab.{Slab, get, Updates}
use Rattle.lsys_forest.specs.declared.node.Stored.{Stored}
use Rattle.lsys_forest.specs.declared.node.Footing.{Footing}
use Rattle.lsys_forest.specs.declared.node.NodeEntry.{NodeEntry}
use Rattle.lsys_forest.specs.Slots.{slot_at, live_slots, change_slot, change_run, no_footing, footing_at, change_footing, change_entry, run_before, run_after, node_in, param_run_in, kid_run_in, footing_in, node_set, params_set, kids_set, footing_set, table_of, PutsEntry}

-- a part of what stands at a place
pub part_at : {X Y : Type 0} (part : X → Y) (xs : List X) (k : ℕ) (d : X) → get_or (map part xs) k (part d) ≡ part (get_or xs k d)
part_at part [] k d = refl
part_at part (x ∷ xs) zero d = refl
part_at part (x ∷ xs) (suc k) d = part_at part xs k d

-- what stands at a place was set there
pub set_itself : {X : Type 0} (xs : List X) (k : ℕ) (d : X) → set xs k (get_or xs k d) ≡ xs
set_itself [] k d = refl
set_itself (x ∷ xs) zero d = refl
set_itself (x ∷ xs) (suc k) d = ap (λ ys. x ∷ ys) (set_itself xs k d)

some_more : {X : Type 0} (x : X) (xs : List (Option X)) → count_by is_some (Some x ∷ xs) ≡ 1 + count_by is_some xs
some_more x xs = sum_by-cons _ (Some x) xs

none_more : {X : Type 0} (xs : List (Option X)) → count_by is_some (None ∷ xs) ≡ 0 + count_by is_some xs
none_more xs = sum_by-cons _ None xs

-- what was set at a place, or the default where that is set
pub get_set_other : {X : Type 0} (xs : List X) (k j : ℕ) (x d : X) → j ≢ k → get_or (set xs k x) j d ≡ get_or xs j d
get_set_other [] k j x d ne = refl
get_set_other (y ∷ xs) zero zero x d ne = absurd (ne refl)
get_set_other (y ∷ xs) zero (suc j) x d ne = refl
get_set_other (y ∷ xs) (suc k) zero x d ne = refl
get_set_other (y ∷ xs) (suc k) (suc j) x d ne = get_set_other xs k j x d (λ e. ne (ap suc e))

pub get_cleared : {X : Type 0} (xs : List X) (k : ℕ) (d : X) → get_or (set xs k d) k d ≡ d
get_cleared [] k d = refl
get_cleared (x ∷ xs) zero d = refl
get_cleared (x ∷ xs) (suc k) d = get_cleared xs k d

-- where the others stand, after a footing was changed
pub footing_other : {X : Type 0} (f : Footing → Footing) (there : Option X) (footings footings' : List Footing) (k j : ℕ) → footings' ≡ change_footing f there footings k → j ≢ k → footing_at footings' j ≡ footing_at footings j
footing_other f None footings footings' k j is ne = ap (λ r. footing_at r j) is
footing_other f (Some x) footings footings' k j is ne = ap (λ r. footing_at r j) is ∙ get_set_other footings k j (f (footing_at footings k)) no_footing ne

module _ {A : Type 0} where
  -- the entry that was changed
  entry_there : (f : NodeEntry A → NodeEntry A) (entries : List (Option (NodeEntry A))) (k : ℕ) → get_or (change_entry f entries k) k None ≡ option_map f (get_or entries k None)
  entry_there f [] k = refl
  entry_there f (e ∷ entries) zero = refl
  entry_there f (e ∷ entries) (suc k) = entry_there f entries k

  run_there : (part : Option (NodeEntry A) → Option ℕ) (f : NodeEntry A → NodeEntry A) (x : Option ℕ) → ((e : NodeEntry A) → part (Some (f e)) ≡ x) → part None ≡ None → (entries : List (Option (NodeEntry A))) (k : ℕ) → get_or (map part (change_entry f entries k)) k (part None) ≡ run_after (get_or (map node_in entries) k None) x
  run_there part f x sets none entries k =
      part_at part (change_entry f entries k) k None ∙ ap part (entry_there f entries k) ∙ go (get_or entries k None)
      ∙ ap (λ (o : Option (Stored A)). run_after o x) (sym (part_at node_in entries k None))
    where
      go : (o : Option (NodeEntry A)) → part (option_map f o) ≡ run_after (node_in o) x
      go None = none
      go (Some e) = sets e

  pub params_there : (x : Option ℕ) (s t : Slab (NodeEntry A)) (k : ℕ) → t ≡ record s { slots = change_entry (params_set x) s.slots k } → get_or (table_of t).param_runs k None ≡ run_after (slot_at (table_of s).slots k) x
  params_there x s t k is = ap (λ (y : Slab (NodeEntry A)). get_or (table_of y).param_runs k None) is ∙ run_there param_run_in (params_set x) x (λ e. refl) refl s.slots k

  pub kids_there : (x : Option ℕ) (s t : Slab (NodeEntry A)) (k : ℕ) → t ≡ record s { slots = change_entry (kids_set x) s.slots k } → get_or (table_of t).kid_runs k None ≡ run_after (slot_at (table_of s).slots k) x
  kids_there x s t k is = ap (λ (y : Slab (NodeEntry A)). get_or (table_of y).kid_runs k None) is ∙ run_there kid_run_in (kids_set x) x (λ e. refl) refl s.slots k

  pub footing_there : (f : Footing → Footing) (s t : Slab (NodeEntry A)) (k : ℕ) → t ≡ record s { slots = change_entry (footing_set f) s.slots k } → IsSome (slot_at (table_of s).slots k) → footing_at (table_of t).footings k ≡ f (footing_at (table_of s).footings k)
  footing_there f s t k is lives =
      ap (λ (y : Slab (NodeEntry A)). footing_at (table_of y).footings k) is ∙ part_at footing_in (change_entry (footing_set f) s.slots k) k None ∙ ap footing_in (entry_there (footing_set f) s.slots k)
      ∙ go (get s k) (subst IsSome (part_at node_in s.slots k None) lives) ∙ ap f (sym (part_at footing_in s.slots k None))
    where
      go : (o : Option (NodeEntry A)) → IsSome (node_in o) → footing_in (option_map (footing_set f) o) ≡ f (footing_in o)
      go None some = absurd (grind (arith, some))
      go (Some e) some = refl

  -- a part that a change of entries leaves
  part_stays : {Y : Type 0} (part : Option (NodeEntry A) → Y) (f : NodeEntry A → NodeEntry A) → ((e : NodeEntry A) → part (Some (f e)) ≡ part (Some e)) → (entries : List (Option (NodeEntry A))) (k : ℕ) → map part (change_entry f entries k) ≡ map part entries
  part_stays {Y = Y} part f stays entries k =
      map-set part entries k (option_map f (get_or entries k None))
      ∙ ap (set (map part entries) k) (same (get_or entries k None) ∙ sym (part_at part entries k None))
      ∙ set_itself (map part entries) k (part None)
    where
      same : (o : Option (NodeEntry A)) → part (option_map f o) ≡ part o
      same None = refl
      same (Some e) = stays e

  -- a part that it changes
  part_changes : {Y : Type 0} (part : Option (NodeEntry A) → Y) (f : NodeEntry A → NodeEntry A) (entries : List (Option (NodeEntry A))) (k : ℕ) → map part (change_entry f entries k) ≡ set (map part entries) k (part (option_map f (get_or entries k None)))
  part_changes part f entries k = map-set part entries k (option_map f (get_or entries k None))

  pub slot_is : (s : Slab (NodeEntry A)) (k : ℕ) → slot_at (table_of s).slots k ≡ node_in (get s k)
  slot_is s k = part_at node_in s.slots k None

  node_mapped : (f : Stored A → Stored A) (o : Option (NodeEntry A)) → node_in (option_map (node_set f) o) ≡ option_map f (node_in o)
  node_mapped f None = refl
  node_mapped f (Some e) = refl

  -- the calls that change one part of an entry
  pub changed_node : (f : Stored A → Stored A) (s t : Slab (NodeEntry A)) (k : ℕ) → t ≡ record s { slots = change_entry (node_set f) s.slots k } → table_of t ≡ record (table_of s) { slots = change_slot f (table_of s).slots k }
  changed_node f s t k is =
      ap (λ (x : Slab (NodeEntry A)). table_of x) is
      ∙ ap₂ (λ (x : List (Option (Stored A))) (r : List Footing). record (table_of s) { slots = x; footings = r; param_runs = map param_run_in (change_entry (node_set f) s.slots k); kid_runs = map kid_run_in (change_entry (node_set f) s.slots k) })
      (part_changes node_in (node_set f) s.slots k ∙ ap (set (map node_in s.slots) k) (node_mapped f (get s k) ∙ ap (option_map f) (sym (slot_is s k)))) (part_stays footing_in (node_set f) (λ e. refl) s.slots k)
      ∙ ap₂ (λ x y. record (table_of s) { slots = change_slot f (table_of s).slots k; param_runs = x; kid_runs = y }) (part_stays param_run_in (node_set f) (λ e. refl) s.slots k) (part_stays kid_run_in (node_set f) (λ e. refl) s.slots k)

  run_set : (part : Option (NodeEntry A) → Option ℕ) (f : NodeEntry A → NodeEntry A) (x : Option ℕ) → ((e : NodeEntry A) → part (Some (f e)) ≡ x) → part None ≡ None → (entries : List (Option (NodeEntry A))) (k : ℕ) → map part (change_entry f entries k) ≡ change_run (get_or (map node_in entries) k None) (map part entries) k x
  run_set part f x sets none entries k = part_changes part f entries k ∙ go (get_or entries k None) refl
    where
      go : (o : Option (NodeEntry A)) → get_or entries k None ≡ o → set (map part entries) k (part (option_map f o)) ≡ change_run (get_or (map node_in entries) k None) (map part entries) k x
      go None here =
          ap (λ (o : Option (NodeEntry A)). set (map part entries) k (part o)) (sym here) ∙ ap (set (map part entries) k) (sym (part_at part entries k None)) ∙ set_itself (map part entries) k (part None)
          ∙ ap (λ (o : Option (Stored A)). change_run o (map part entries) k x) (sym (part_at node_in entries k None ∙ ap node_in here))
      go (Some e) here = ap (set (map part entries) k) (sets e) ∙ ap (λ (o : Option (Stored A)). change_run o (map part entries) k x) (sym (part_at node_in entries k None ∙ ap node_in here))

  footing_changed : (f : Footing → Footing) (entries : List (Option (NodeEntry A))) (k : ℕ) → map footing_in (change_entry (footing_set f) entries k) ≡ change_footing f (get_or (map node_in entries) k None) (map footing_in entries) k
  footing_changed f entries k = part_changes footing_in (footing_set f) entries k ∙ go (get_or entries k None) refl
    where
      go : (o : Option (NodeEntry A)) → get_or entries k None ≡ o → set (map footing_in entries) k (footing_in (option_map (footing_set f) o)) ≡ change_footing f (get_or (map node_in entries) k None) (map footing_in entries) k
      go None here =
          ap (λ (o : Option (NodeEntry A)). set (map footing_in entries) k (footing_in o)) (sym here) ∙ ap (set (map footing_in entries) k) (sym (part_at footing_in entries k None)) ∙ set_itself (map footing_in entries) k no_footing
          ∙ ap (λ (o : Option (Stored A)). change_footing f o (map footing_in entries) k) (sym (part_at node_in entries k None ∙ ap node_in here))
      go (Some e) here =
          ap (λ x. set (map footing_in entries) k (f x)) (sym (part_at footing_in entries k None ∙ ap footing_in here))
          ∙ ap (λ (o : Option (Stored A)). change_footing f o (map footing_in entries) k) (sym (part_at node_in entries k None ∙ ap node_in here))

  pub changed_params : (x : Option ℕ) (s t : Slab (NodeEntry A)) (k : ℕ) → t ≡ record s { slots = change_entry (params_set x) s.slots k } → table_of t ≡ record (table_of s) { param_runs = change_run (slot_at (table_of s).slots k) (table_of s).param_runs k x }
  changed_params x s t k is =
      ap (λ (y : Slab (NodeEntry A)). table_of y) is
      ∙ ap₂ (λ (y : List (Option (Stored A))) (r : List Footing). record (table_of s) { slots = y; footings = r; param_runs = map param_run_in (change_entry (params_set x) s.slots k); kid_runs = map kid_run_in (change_entry (params_set x) s.slots k) })
      (part_stays node_in (params_set x) (λ e. refl) s.slots k) (part_stays footing_in (params_set x) (λ e. refl) s.slots k)
      ∙ ap₂ (λ p q. record (table_of s) { param_runs = p; kid_runs = q }) (run_set param_run_in (params_set x) x (λ e. refl) refl s.slots k) (part_stays kid_run_in (params_set x) (λ e. refl) s.slots k)

  pub changed_kids : (x : Option ℕ) (s t : Slab (NodeEntry A)) (k : ℕ) → t ≡ record s { slots = change_entry (kids_set x) s.slots k } → table_of t ≡ record (table_of s) { kid_runs = change_run (slot_at (table_of s).slots k) (table_of s).kid_runs k x }
  changed_kids x s t k is =
      ap (λ (y : Slab (NodeEntry A)). table_of y) is
      ∙ ap₂ (λ (y : List (Option (Stored A))) (r : List Footing). record (table_of s) { slots = y; footings = r; param_runs = map param_run_in (change_entry (kids_set x) s.slots k); kid_runs = map kid_run_in (change_entry (kids_set x) s.slots k) })
      (part_stays node_in (kids_set x) (λ e. refl) s.slots k) (part_stays footing_in (kids_set x) (λ e. refl) s.slots k)
      ∙ ap₂ (λ p q. record (table_of s) { param_runs = p; kid_runs = q }) (part_stays param_run_in (kids_set x) (λ e. refl) s.slots k) (run_set kid_run_in (kids_set x) x (λ e. refl) refl s.slots k)

  pub changed_footing : (f : Footing → Footing) (s t : Slab (NodeEntry A)) (k : ℕ) → t ≡ record s { slots = change_entry (footing_set f) s.slots k } → table_of t ≡ record (table_of s) { footings = change_footing f (slot_at (table_of s).slots k) (table_of s).footings k }
  changed_footing f s t k is =
      ap (λ (y : Slab (NodeEntry A)). table_of y) is
      ∙ ap₂ (λ (y : List (Option (Stored A))) (r : List Footing). record (table_of s) { slots = y; footings = r; param_runs = map param_run_in (change_entry (footing_set f) s.slots k); kid_runs = map kid_run_in (change_entry (footing_set f) s.slots k) })
      (part_stays node_in (footing_set f) (λ e. refl) s.slots k) (footing_changed f s.slots k)
      ∙ ap₂ (λ p q. record (table_of s) { footings = change_footing f (slot_at (table_of s).slots k) (table_of s).footings k; param_runs = p; kid_runs = q }) (part_stays param_run_in (footing_set f) (λ e. refl) s.slots k) (part_stays kid_run_in (footing_set f) (λ e. refl) s.slots k)

  -- what was read at a run's place
  pub run_was : (part : Option (NodeEntry A) → Option ℕ) (s : Slab (NodeEntry A)) (k : ℕ) (x : Option ℕ) → run_before (get s k) (part (get s k)) x ≡ run_before (slot_at (table_of s).slots k) (get_or (map part s.slots) k (part None)) x
  run_was part s k x = go (get s k) refl
    where
      go : (o : Option (NodeEntry A)) → get s k ≡ o → run_before o (part (get s k)) x ≡ run_before (slot_at (table_of s).slots k) (get_or (map part s.slots) k (part None)) x
      go None here = ap (λ (o : Option (Stored A)). run_before o (get_or (map part s.slots) k (part None)) x) (sym (slot_is s k ∙ ap node_in here))
      go (Some e) here = sym (part_at part s.slots k None) ∙ ap (λ (o : Option (Stored A)). run_before o (get_or (map part s.slots) k (part None)) x) (sym (slot_is s k ∙ ap node_in here))

  -- as many nodes as entries
  pub live_is : (entries : List (Option (NodeEntry A))) → live_slots (map node_in entries) ≡ count_by is_some entries
  live_is [] = refl
  live_is (None ∷ entries) = omega (arith, none_more (map node_in entries), none_more entries, live_is entries)
  live_is (Some e ∷ entries) = omega (arith, some_more e.node (map node_in entries), some_more e entries, live_is entries)

  -- an entry was put at a number
  pub put_done : (s t : Slab (NodeEntry A)) (k : ℕ) (e : NodeEntry A) → Updates s t k (Some e) → PutsEntry (table_of s) (table_of t) k e
  put_done s t k e up = record {
    slot = slot_is t k ∙ ap node_in up.changed;
    params = part_at param_run_in t.slots k None ∙ ap param_run_in up.changed;
    kids = part_at kid_run_in t.slots k None ∙ ap kid_run_in up.changed;
    other_slots = λ j ne. slot_is t j ∙ ap node_in (up.others j ne) ∙ sym (slot_is s j);
    other_params = λ j ne. part_at param_run_in t.slots j None ∙ ap param_run_in (up.others j ne) ∙ sym (part_at param_run_in s.slots j None);
    other_kids = λ j ne. part_at kid_run_in t.slots j None ∙ ap kid_run_in (up.others j ne) ∙ sym (part_at kid_run_in s.slots j None);
    other_footings = λ j ne. part_at footing_in t.slots j None ∙ ap footing_in (up.others j ne) ∙ sym (part_at footing_in s.slots j None);
  }

  -- an entry was removed, if there was one
  pub removed : (s t : Slab (NodeEntry A)) (k : ℕ) (r : Option (NodeEntry A)) → r ≡ get s k → OnSome r (t.slots ≡ set s.slots k None) → IfNone r (t ≡ s) → t.capacity ≡ s.capacity → table_of t ≡ record { slots = set (map node_in s.slots) k None; param_runs = set (map param_run_in s.slots) k None; kid_runs = set (map kid_run_in s.slots) k None; footings = set (map footing_in s.slots) k no_footing; next = t.vacant_key; capacity = s.capacity }
  removed s t k r is some none same =
      ap₂ (λ (xs : List (Option (NodeEntry A))) c. record { slots = map node_in xs; param_runs = map param_run_in xs; kid_runs = map kid_run_in xs; footings = map footing_in xs; next = t.vacant_key; capacity = c }) (cleared r refl) same
      ∙ ap₂ (λ (x : List (Option (Stored A))) y. record { slots = x; param_runs = y; kid_runs = map kid_run_in (set s.slots k None); footings = map footing_in (set s.slots k None); next = t.vacant_key; capacity = s.capacity }) (map-set node_in s.slots k None) (map-set param_run_in s.slots k None)
      ∙ ap₂ (λ x y. record { slots = set (map node_in s.slots) k None; param_runs = set (map param_run_in s.slots) k None; kid_runs = x; footings = y; next = t.vacant_key; capacity = s.capacity }) (map-set kid_run_in s.slots k None) (map-set footing_in s.slots k None)
    where
      cleared : (o : Option (NodeEntry A)) → r ≡ o → t.slots ≡ set s.slots k None
      cleared (Some e) here = subst (λ (o : Option (NodeEntry A)). OnSome o (t.slots ≡ set s.slots k None)) here some
      cleared None here =
          ap (λ (x : Slab (NodeEntry A)). x.slots) (subst (λ (o : Option (NodeEntry A)). IfNone o (t ≡ s)) here none)
          ∙ sym (set_itself s.slots k None) ∙ ap (set s.slots k) (sym is ∙ here)
