-- A level that is being repaired, as levels of the definitions.
use Rattle.std.proofs.Common.{◌≡◌, ◌⊎◌, ◌<◌, ◌+◌, ℕ, false, List, [], ◌∷◌, length, Some, refl, sym, ap, ◌∙◌, inl, inr, arith}
use Rattle.std.specs.Prelude.{◌↔◌, get_or, slice_get, option_map}
use Rattle.std.proofs.lemmas.Bool.{cases_eq}
use Rattle.std.proofs.lemmas.List.{append-nil}
use Rattle.std.proofs.lemmas.Option.{slice_get-get_or}
use Rattle.lsys_spec.specs.Rows.{In}
use Rattle.lsys_spec.specs.Levels.{LevelSymbol, IsLevel}
use Rattle.lsys_spec.specs.Standings.{is_disturbed}
use Rattle.lsys_spec.proofs.Needs.{Derived, derived}
use Rattle.lsys_level.specs.Spots.{named, with_lineage}
use Rattle.lsys_laws.specs.Seats as C
use Rattle.lsys_laws.proofs.KeptLineages.{apart, stays}
use Rattle.lsys_laws.proofs.UpTo.{derived_to, level_count}
use Rattle.lsys_forest.specs.Nodes.{Nodes}
use Rattle.lsys_forest.specs.Groves.{IsRooted, changes_in}
use Rattle.lsys_forest.specs.Rows.{spot_in}
use Rattle.lsys_forest.specs.Mates.{seen_level}
use Rattle.lsys_forest.proofs.RowLemmas.{level_depth}
use Rattle.lsys_match.specs.Kept.{Kept}
use Rattle.lsys_reads.specs.Lineages.{kin_of, kins, names}
use Rattle.lsys_reads.specs.Meant.{levels_meant, meant_to}
use Rattle.lsys_reads.specs.Standings.{seating_of, AreOldAndNew, StandsAsBefore}
use Rattle.lsys_reads.specs.Neighbours.{neighbours_on}
use Rattle.lsys_reads.proofs.LevelLemmas.{named_by_number}
use Rattle.lsys_reads.proofs.LawLemmas.{among, still_tell, same_seat}
use Rattle.lsys_front.specs.Repairs.{Repair, now, rest, root, were, are, SteppingSpots}
use Rattle.lsys_front.specs.Candidates.{IsUndisturbed}

pub is_in : (k : ℕ) (xs : List ℕ) → (In k xs) ⊎ (In k xs → ⊥)
is_in k [] = inr (λ h. h)
is_in k (x ∷ xs) = elim (cases_eq k x) [
  | inl e ↦ inl (inl e)
  | inr ne ↦ elim (is_in k xs) [ inl h ↦ inl (inr h) | inr n ↦ inr (λ h. elim h [ inl e ↦ ne e | inr i ↦ n i ]) ]
]

-- by two namings that agree on the nodes they are one level
renamed : (m : Nodes Kept) (one two : ℕ → List ℕ) (xs : List ℕ) → ((k : ℕ) → In k xs → one k ≡ two k) → seen_level one m xs ≡ seen_level two m xs
renamed m one two [] h = refl
renamed m one two (x ∷ xs) h =
    let head : named one (spot_in x (m x)) ≡ named two (spot_in x (m x)) = named_by_number one x (m x) ∙ ap (λ l. with_lineage l (spot_in x (m x)).seen) (h x (inl refl)) ∙ sym (named_by_number two x (m x)) in
    ap (λ (s : LevelSymbol). s ∷ seen_level one m xs) head ∙ ap (λ (l : List LevelSymbol). named two (spot_in x (m x)) ∷ l) (renamed m one two xs (λ k i. h k (inr i)))

module _ (r : Repair) (s : SteppingSpots r) where
  pub sound_old : IsRooted (root r) [] (rest r)
  sound_old = s.sound [] (changes_in r.forest) refl

  pub sound_new : IsRooted (root r) (changes_in r.forest) (now r)
  sound_new = s.sound (changes_in r.forest) [] (sym (append-nil (changes_in r.forest)))

  abbrev pub name : ℕ → List ℕ
  name = names (now r)

  pub old_name : (k : ℕ) → In k (were r) → names (rest r) k ≡ name k
  old_name k h =
      let d = level_depth (root r) [] (rest r) sound_old r.level k h in
      sym (stays (kins (rest r)) (kins (now r)) (root r) k (kin_of d.0) s.once s.stay (ap (option_map kin_of) d.1))

  pub one_node : (i j : ℕ) → In i (are r) → In j (were r) → name i ≡ name j → i ≡ j
  one_node i j h g e =
      let a = level_depth (root r) (changes_in r.forest) (now r) sound_new r.level i h in
      let b = level_depth (root r) [] (rest r) sound_old r.level j g in
      apart (kins (now r)) (root r) i j (kin_of a.0) (kin_of b.0) s.once_now (ap (option_map kin_of) a.1) (s.stay j (kin_of b.0) (ap (option_map kin_of) b.1)) (a.2 ∙ sym b.2) e

  abbrev pub xs : List (List LevelSymbol)
  xs = levels_meant r.old r.limit

  abbrev pub ys : List (List LevelSymbol)
  ys = meant_to r.new r.limit r.level

  abbrev pub was_level : List LevelSymbol
  was_level = seen_level name (rest r) (were r)

  abbrev pub is_level : List LevelSymbol
  is_level = seen_level name (now r) (are r)

  pub old_long : length xs ≡ r.old.depth + 1
  old_long = level_count r.old r.limit r.old.depth xs s.old_spelled s.old_is

  pub new_long : length ys ≡ r.level + 1
  new_long = level_count r.new r.limit r.level ys s.new_spelled s.new_is

  pub old_derived : Derived r.old xs
  old_derived = derived r.old r.limit xs s.old_spelled s.old_is

  pub new_derived : Derived r.new ys
  new_derived = derived_to r.new r.limit r.level ys s.new_spelled s.new_is

  pub new_there : slice_get ys r.level ≡ Some is_level
  new_there =
      let w : r.level < length ys = omega (arith, new_long) in
      slice_get-get_or ys r.level [] w ∙ ap Some (sym (s.new_levels.each r.level w))

  pub new_is_level : IsLevel is_level
  new_is_level = new_derived.levels r.level is_level new_there

  module _ (below : r.level < r.old.depth) where
    pub old_within : r.level + 1 < length xs
    old_within = omega (arith, old_long, below)

    pub old_there : slice_get xs r.level ≡ Some was_level
    old_there =
        let w : r.level < length xs = omega (arith, old_long, below) in
        slice_get-get_or xs r.level [] w
        ∙ ap Some (sym (s.old_levels.each r.level w) ∙ renamed (rest r) (names (rest r)) name (were r) old_name)

    pub old_is_level : IsLevel was_level
    old_is_level = old_derived.levels r.level was_level old_there

    pub old_and_new : AreOldAndNew r.old r.new xs ys r.level name (rest r) (now r) (were r) (are r)
    old_and_new = record {
      meant = record {
        old_spelled = s.old_spelled;
        new_spelled = s.new_spelled;
        old_limit = r.limit;
        new_limit = r.limit;
        old_meant = s.old_is;
        new_meant = s.new_is;
      };
      old_level = old_there;
      new_level = new_there;
      old_is = old_is_level;
      new_is = new_is_level;
      apart = λ i j h g e. one_node i j (among i (are r) h) (among j (were r) g) e;
    }

    -- a node of the old level is disturbed exactly where it does not stand there as it stood
    pub still_is : (k : ℕ) → In k (were r) → (is_disturbed (get_or xs r.level []) (get_or ys r.level []) (name k) ≡ false) ↔ IsUndisturbed r k
    still_is k h = (
      λ e. (let t = tell.0 e in
          record {
            old_place = t.old_place;
            new_place = t.new_place;
            was_there = t.was_there;
            is_there = t.is_there;
            same = (seats t.old_place t.new_place t.was_there t.is_there).0 t.same;
          }),
      λ t. tell.1 (record {
        old_place = t.old_place;
        new_place = t.new_place;
        was_there = t.was_there;
        is_there = t.is_there;
        same = (seats t.old_place t.new_place t.was_there t.is_there).1 t.same;
      }),
    )
      where
        tell : (is_disturbed (get_or xs r.level []) (get_or ys r.level []) (name k) ≡ false) ↔ C.StandsStill (seating_of name (rest r) (were r)) (seating_of name (now r) (are r)) k
        tell = still_tell r.old r.new xs ys r.level name (rest r) (now r) (were r) (are r) old_and_new k h

        seats : (p q : ℕ) → slice_get (were r) p ≡ Some k → slice_get (are r) q ≡ Some k
            → C.IsSameSeat (seating_of name (rest r) (were r)) (seating_of name (now r) (are r)) p q k ↔ StandsAsBefore (rest r) (now r) (neighbours_on (rest r) (were r) p) (neighbours_on (now r) (are r) q) k
        seats p q = same_seat name (rest r) (now r) (were r) (are r) old_is_level new_is_level p q k
