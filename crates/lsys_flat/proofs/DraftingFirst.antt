-- Level 0 is planned.
use Rattle.std.proofs.Common.{◌≡◌, ℕ, ◌-◌, ◌≤◌, Option, Some, None, Result, Ok, Err, List, [], ◌∷◌, ◌++◌, length, refl, sym, ap, ◌∙◌, subst, arith}
use Rattle.std.specs.Prelude.{OnOk, IfErr, sum_by, slice_get}
use Rattle.std.proofs.lemmas.List.Sums.{sum_by-cons}
use Rattle.lsys_match.specs.Derivations.{IsLevelRefusal}
use Rattle.lsys_spec.specs.Systems.{System}
use Rattle.lsys_spec.specs.Draws.{key_of}
use Rattle.lsys_spec.specs.Levels.{LevelSymbol, Push, lineage}
use Rattle.lsys_spec.specs.Cuts.{Raw}
use Rattle.lsys_spec.specs.Meaning.{first_level, children}
use Rattle.lsys_laws.specs.Sessions.{IsWell}
use Rattle.lsys_walks.specs.Stores.{Store}
use Rattle.lsys_match.specs.Kept.{Kept}
use Rattle.lsys_rewrite.specs.declared.refusal.DeriveRefusal.{DeriveRefusal}
use Rattle.lsys_module.specs.Views.{string_of}
use Rattle.lsys_module.specs.declared.symbol.Symbol.{Symbol as Code}
use Rattle.lsys_level.specs.Spots.{Spotted}
use Rattle.lsys_flat.specs.Grown.{Making, HasGrown, IsMadeWithin, nothing_made}
use Rattle.lsys_flat.proofs.Beginning.{none_grown}
use Rattle.lsys_flat.specs.declared.level.Level.{Level}
use Rattle.lsys_flat.proofs.Limiting.{begins_over}
use Rattle.lsys_flat.specs.Origins.{root_level}
use Rattle.lsys_flat.specs.Lines.{Descent}
use Rattle.lsys_flat.specs.Revised.{AreOldLevels, IsNextLevel, IsRevised, Revised}
use Rattle.lsys_flat.specs.Counted.{all_slots_in}
use Rattle.lsys_flat.specs.Drafts.{AreOlds, CanAddNext, Drafted, HasAskedLevels, IsLevelAdded, IsDraft, IsEmpty, IsLonger, olds_from}
use Rattle.lsys_flat.proofs.Depths.{within}
use Rattle.lsys_flat.proofs.DraftingLevels.{begins, is_next, same_length}

-- the axiom with its cuts
abbrev pub axiom_of : System → List Raw
axiom_of s = children s.numbering [] s.axiom_string

pub can_begin : (s : System) (limit : ℕ) (old_lines : List Descent) (xs : List (List LevelSymbol)) (d : Drafted) (r : Option Level) → IsWell s → IsEmpty limit old_lines d → AreOldLevels xs old_lines → sum_by length xs ≤ 1000000 → limit ≤ 1000000
    → IsMadeWithin s.seed root_level (axiom_of s) d.room r → CanAddNext d r
can_begin s limit old_lines xs d None w e olds few small h = tt
can_begin s limit old_lines xs d (Some level) w e olds few small h =
    let next = is_next s limit 0 xs [] (first_level s) level w.1 (begins s limit (omega (arith, h.0, e.room))) few small h.1 in (
      record { seed = s.seed; xs = xs; ys = []; y = first_level s; so_far = e.begun s.seed xs olds; next = next },
      omega (arith, h.0, same_length (first_level s) level.symbols h.1.string),
    )

pub begun : {A : Type 0} (s : System) (limit : ℕ) (old_lines : List Descent) (xs : List (List LevelSymbol)) (kept : List (List (Option Kept))) (begin : Store) (before : ℕ) (d now : Drafted) (r : Option Level) (result : Result A DeriveRefusal)
    → IsWell s → IsEmpty limit old_lines d → AreOlds limit (olds_from xs old_lines kept begin) → IsMadeWithin s.seed root_level (axiom_of s) d.room r → IsLevelAdded 0 r d now result
    → OnOk result (IsDraft s limit (olds_from xs old_lines kept begin) begin before before 0 now)
begun s limit old_lines xs kept begin before d now None (Ok done) w e olds h a = absurd a
begun s limit old_lines xs kept begin before d now None (Err k) w e olds h a = tt
begun s limit old_lines xs kept begin before d now (Some level) (Err k) w e olds h a = tt
begun s limit old_lines xs kept begin before d now (Some level) (Ok done) w e olds h a =
    let y = first_level s in
    let meant = begins s limit (omega (arith, h.0, e.room)) in
    let few : sum_by length xs ≤ 1000000 = omega (arith, within olds.old limit olds.old.depth xs olds.meant, olds.small) in
    let next = is_next s limit 0 xs [] y level w.1 meant few olds.small h.1 in
    let fresh : now.fresh ≡ [] = ap (λ (d : Drafted). d.fresh) a.is ∙ e.fresh in
    let taken : now.taken ≡ [] = ap (λ (d : Drafted). d.taken) a.is ∙ e.taken in
    let one = sum_by-cons (length {A = LevelSymbol}) y [] in
    record {
      ys = y ∷ [];
      meant = meant;
      levels = refl;
      revised = a.grows s.seed xs [] y (e.begun s.seed xs olds.olds) next;
      old = a.olds ∙ e.old;
      room = omega (arith, a.room, e.room, one, same_length y level.symbols h.1.string);
      found = (ap (λ (fs : List (List (Option Kept))). all_slots_in begin fs) fresh, taken);
      long = rw fresh (omega (arith, one));
      read = omega arith;
      few = omega arith;
    }

pub begun_found : {A : Type 0} (limit : ℕ) (old_lines : List Descent) (d now : Drafted) (r : Option Level) (result : Result A DeriveRefusal) → IsEmpty limit old_lines d → IsLevelAdded 0 r d now result → OnOk result (HasAskedLevels 0 now)
begun_found limit old_lines d now None (Ok done) e a = absurd a
begun_found limit old_lines d now None (Err k) e a = tt
begun_found limit old_lines d now (Some level) (Err k) e a = tt
begun_found limit old_lines d now (Some level) (Ok done) e a =
    let fresh : now.fresh ≡ [] = ap (λ (d : Drafted). d.fresh) a.is ∙ e.fresh in
    let taken : now.taken ≡ [] = ap (λ (d : Drafted). d.taken) a.is ∙ e.taken in
    let asked : now.asked ≡ 0 = ap (λ (d : Drafted). d.asked) a.is ∙ e.asked in
    let all : now.all ≡ 0 = ap (λ (d : Drafted). d.all) a.is ∙ e.all in
    record { each_fresh = ap length fresh; each_taken = ap length taken; asked = rw fresh asked; all = rw (fresh, taken) all; few = rw fresh (omega (arith, all)) }

pub begun_refused : {A : Type 0} (s : System) (limit : ℕ) (old_lines : List Descent) (d now : Drafted) (r : Option Level) (result : Result A DeriveRefusal) → IsEmpty limit old_lines d → IsMadeWithin s.seed root_level (axiom_of s) d.room r → IsLevelAdded 0 r d now result
    → IfErr result (IsLevelRefusal s limit)
begun_refused s limit old_lines d now None (Ok done) e h a = absurd a
begun_refused s limit old_lines d now None (Err k) e h a = subst (IsLevelRefusal s limit) (sym a) (begins_over s limit (omega (arith, h, e.room)))
begun_refused s limit old_lines d now (Some level) (Ok done) e h a = tt
begun_refused s limit old_lines d now (Some level) (Err k) e h a = subst (IsLevelRefusal s limit) (sym a) tt

pub axiom_made : (s : System) (room key : ℕ) (now before : Making) (symbols : List Code) (r : Option Level) → before ≡ nothing_made s.numbering room → key ≡ s.seed → string_of symbols ≡ s.axiom_string
    → ((seed : ℕ) (above : List LevelSymbol) (raw : List Raw) (parent : LevelSymbol) → HasGrown seed above raw before.grown → slice_get above before.grown.parents ≡ Some parent → key ≡ key_of seed (lineage parent)
    → HasGrown seed above (raw ++ children before.numbering (lineage parent) (string_of symbols)) now.grown)
    → now.grown.room ≡ before.grown.room → ((seed : ℕ) (above : List LevelSymbol) (raw : List Raw) → HasGrown seed above raw now.grown → IsMadeWithin seed above raw now.grown.room r) → IsMadeWithin s.seed root_level (axiom_of s) room r
axiom_made s room key now before symbols r is is_key string grows same finishes =
    let none : HasGrown s.seed root_level [] before.grown = subst (λ (m : Making). HasGrown s.seed root_level [] m.grown) (sym is) (none_grown s.seed root_level room) in
    let there : slice_get root_level before.grown.parents ≡ Some (Push []) = ap (λ (m : Making). slice_get root_level m.grown.parents) is in
    let one = grows s.seed root_level [] (Push []) none there is_key in
    let all : HasGrown s.seed root_level (axiom_of s) now.grown = subst (λ xs. HasGrown s.seed root_level (children s.numbering [] xs) now.grown) string (subst (λ g. HasGrown s.seed root_level (children g [] (string_of symbols)) now.grown) (ap (λ (m : Making). m.numbering) is) one) in
    subst (λ n. IsMadeWithin s.seed root_level (axiom_of s) n r) (same ∙ ap (λ (m : Making). m.grown.room) is) (finishes s.seed root_level (axiom_of s) all)

pub longer : (level : Level) (old : Drafted) (r now : Revised) (fresh : List (List (Option Kept))) (taken : List (List (Option ℕ))) (room asked all n : ℕ) → old ≡ record { revised = r; fresh = fresh; taken = taken; room = room; asked = asked; all = all }
    → n ≡ length level.symbols → CanAddNext old (Some level) → ((seed : ℕ) (xs ys : List (List LevelSymbol)) (y : List LevelSymbol) → IsRevised seed xs ys r → IsNextLevel seed xs ys y level → IsRevised seed xs (ys ++ y ∷ []) now)
    → now.old_lines ≡ r.old_lines → (row : List Spotted) → now.view ≡ r.view ++ row ∷ [] → IsLonger level old (record { revised = now; fresh = fresh; taken = taken; room = room - n; asked = asked; all = all })
longer level old r now fresh taken room asked all n is size can grows olds row above =
    let same : old.room ≡ room = ap (λ (d : Drafted). d.room) is in
    let revised : r ≡ old.revised = sym (ap (λ (d : Drafted). d.revised) is) in
    record {
      is = sym (ap (λ (d : Drafted). record d { revised = now; room = room - n }) is);
      room = omega (arith, same, size, can.1);
      grows = subst (λ (r : Revised). (seed : ℕ) (xs ys : List (List LevelSymbol)) (y : List LevelSymbol) → IsRevised seed xs ys r → IsNextLevel seed xs ys y level → IsRevised seed xs (ys ++ y ∷ []) now) revised grows;
      olds = olds ∙ ap (λ (r : Revised). r.old_lines) revised;
      last = row;
      above = above ∙ ap (λ (r : Revised). r.view ++ row ∷ []) revised;
    }
