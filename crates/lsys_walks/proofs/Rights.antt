-- The walk to the right, by the symbol that comes next.
use Rattle.std.proofs.Common.{◌≡◌, ◌≢◌, ℕ, ℤ, List, [], ◌∷◌, ◌++◌, ◌+◌, ◌<◌, ◌≤◌, length, take, Bool, true, false, Option, Some, None, refl, ap, sym, ◌∙◌, arith, append_assoc, append-nil, subst}
use Rattle.std.specs.Prelude.{slice_get, option_map}
use Rattle.std.proofs.lemmas.Grind.{flat_map-append}
use Rattle.std.proofs.lemmas.List.{length-map, length-take, take-take, take_at}
use Rattle.std.proofs.lemmas.Option.{slice_get_past}
use Rattle.lsys_syntax.specs.Strings.{ModuleName}
use Rattle.lsys_spec.specs.Bodies.{Patterns, Done, OneOf, BranchOf}
use Rattle.lsys_spec.specs.Levels as L
use Rattle.lsys_spec.specs.Levels.{ModuleValue, Items, Nothing, One, Branch, items_from}
use Rattle.lsys_spec.specs.Walks as W
use Rattle.lsys_spec.specs.Walks.{Mark, Told, says, before, fits, right_walk, ahead, deeper, followed, or_passed}
use Rattle.lsys_spec.proofs.Meetings.{met}
use Rattle.lsys_spec.specs.Choice.{params_of}
use Rattle.lsys_spec.specs.Meaning.{most_entries}
use Rattle.lsys_spec.proofs.Around.{items_none, items_pop, items_module, items_push}
use Rattle.lsys_level.specs.Spots.{Push, Pop, Module, Spotted, named, level_by}
use Rattle.lsys_bodies.specs.declared.body.Pattern.{Pattern}
use Rattle.lsys_bodies.specs.declared.body.Item.{Item}
use Rattle.lsys_bodies.specs.declared.body.Item.TheVariants as items
use Rattle.lsys_walks.specs.declared.walked.Walked.{Walked}
use Rattle.lsys_walks.specs.declared.walked.Walked.TheVariants.{Found, Missed, TooFar}
use Rattle.lsys_walks.specs.declared.meeting.Meeting.{Meeting}
use Rattle.lsys_walks.specs.declared.meeting.Meeting.TheVariants as meeting
use Rattle.lsys_walks.specs.Noted.{Noted, Branched, entry_by}
use Rattle.lsys_walks.specs.Items.{patterns_from, pattern_due, EndsBranch}
use Rattle.lsys_walks.specs.Meetings.{noted_met, fits_due, GoesBy}
use Rattle.lsys_walks.specs.Walked.{Walks, ReadsFront, KeptInOrder, inner_walk}
use Rattle.lsys_walks.proofs.Items.{patterns_one, patterns_pop, patterns_branch}
use Rattle.lsys_walks.proofs.Meets.{going, met_is, going_passed, going_matched, going_missed}
use Rattle.lsys_walks.proofs.Shown.{Shows, shown, Ended}
use Rattle.lsys_walks.proofs.Inner.{inner_found, inner_missed, inner_far, inner_front}
use Rattle.lsys_walks.proofs.Told.{Answer, GoesOn, goes_first, goes_as, es_of, read_on, read_far, ends_missed, ends_found, reads_front}

pub front_on : (a b c : List ℤ) → take (length a) b ≡ a → take (length b) c ≡ b → take (length a) c ≡ a
front_on a b c h k =
    let n : length (take (length a) b) ≡ length a = ap length h in
    let l : length a ≤ length b = omega (arith, n, length-take (length a) b) in
    sym (take-take (length a) (length b) c l) ∙ ap (take (length a)) k ∙ h

pub front_more : (a b c ps : List ℤ) → take (length a) b ≡ a → c ≡ b ++ ps → take (length a) c ≡ a
front_more a b c ps h e = front_on a b c h (ap (take (length b)) e ∙ take_at b ps (length b) refl)

-- these modules before what follows
abbrev pub beginning : List ModuleValue → List ModuleValue → List ModuleValue
beginning got ms = got ++ ms

-- what is wanted after the first of them
abbrev outer_of : Patterns → Patterns
outer_of Done = Done
outer_of (OneOf q p) = p
outer_of (BranchOf qs p) = p

-- the module fits the first of them
abbrev fits_first : Patterns → ModuleValue → Bool
fits_first Done m = false
fits_first (OneOf q p) m = fits q (L.Module [] m)
fits_first (BranchOf qs p) m = false

module _ (f : ModuleName → Bool) (d : Mark) where
  of_nothing : (p : Patterns) (r : Items) → p ≢ Done → r ≡ Nothing → right_walk f d p r ≡ says None
  of_nothing Done r n e = absurd (n refl)
  of_nothing (OneOf q p) r n e = ap (right_walk f d (OneOf q p)) e
  of_nothing (BranchOf q p) r n e = ap (right_walk f d (BranchOf q p)) e

  of_branch : (p : Patterns) (r : Items) (o c : List ℕ) (i r' : Items) → p ≢ Done → r ≡ Branch (L.Push o) (L.Pop c) i r'
      → right_walk f d p r ≡ before (W.Branched d o c) (followed (inner_walk f d p i) (or_passed (inner_walk f d p i).answer (right_walk f d (outer_of p) r') (right_walk f d p r')))
  of_branch Done r o c i r' n e = absurd (n refl)
  of_branch (OneOf q p) r o c i r' n e = ap (right_walk f d (OneOf q p)) e
  of_branch (BranchOf q p) r o c i r' n e = ap (right_walk f d (BranchOf q p)) e

  of_module : (p : Patterns) (r : Items) (l : List ℕ) (m : ModuleValue) (r' : Items) → p ≢ Done → r ≡ One (L.Module l m) r'
      → right_walk f d p r ≡ met (f m.name) (fits_first p m) d (L.Module l m) (right_walk f d p r') (ahead (L.Module l m) (right_walk f d (outer_of p) r'))
  of_module Done r l m r' n e = absurd (n refl)
  of_module (OneOf q p) r l m r' n e = ap (right_walk f d (OneOf q p)) e
  of_module (BranchOf q p) r l m r' n e = ap (right_walk f d (BranchOf q p)) e

module _ (f : ModuleName → Bool) (d : Mark) (row : List Spotted) (xs : List Item) where
  first_fits : (next : ℕ) (a : Item) (m : ModuleValue) → slice_get xs next ≡ Some a → patterns_from xs next ≢ Done → fits_first (patterns_from xs next) m ≡ fits_due (pattern_due a) m
  first_fits next items.Push m h n = ap (λ p. fits_first p m) ((patterns_branch xs next h).1)
  first_fits next items.Pop m h n = absurd (n (patterns_pop xs next h))
  first_fits next (items.Pattern q) m h n = ap (λ p. fits_first p m) (patterns_one xs next q h)

  outer_fitted : (next : ℕ) (a : Item) (m : ModuleValue) → slice_get xs next ≡ Some a → fits_due (pattern_due a) m ≡ true → outer_of (patterns_from xs next) ≡ patterns_from xs (next + 1)
  outer_fitted next items.Push m h j = cc
  outer_fitted next items.Pop m h j = cc
  outer_fitted next (items.Pattern q) m h j = ap outer_of (patterns_one xs next q h)

  -- a branch pattern is wanted, or none
  pub inner_none : (next : ℕ) (a : Item) (r : Items) → slice_get xs next ≡ Some a → a ≢ items.Push → inner_walk f d (patterns_from xs next) r ≡ says None
  inner_none next items.Push r h n = absurd (n refl)
  inner_none next items.Pop r h n = ap (λ p. inner_walk f d p r) (patterns_pop xs next h)
  inner_none next (items.Pattern q) r h n = ap (λ p. inner_walk f d p r) (patterns_one xs next q h)

  pub inner_push : (next : ℕ) (r : Items) → slice_get xs next ≡ Some items.Push → inner_walk f d (patterns_from xs next) r ≡ right_walk f (deeper d) (patterns_from xs (next + 1)) r
  inner_push next r h = ap (λ p. inner_walk f d p r) ((patterns_branch xs next h).1)

  module _ (naming : ℕ → List ℕ) where
    abbrev pub rest_from : ℕ → Items
    rest_from p = items_from (level_by naming row) p

    -- the walk that is left, of the patterns from one place, over the items from another
    abbrev pub right_on : ℕ → ℕ → Told Answer
    right_on next p = right_walk f d (patterns_from xs next) (rest_from p)

    at_end : (next p : ℕ) → patterns_from xs next ≢ Done → length row ≤ p → right_on next p ≡ says None
    at_end next p n h = of_nothing f d (patterns_from xs next) (rest_from p) n (items_none (level_by naming row) p (slice_get_past (level_by naming row) p (omega (arith, h, length-map row (named naming)))))

    at_pop : (next p t : ℕ) → patterns_from xs next ≢ Done → Shows row p Pop t → right_on next p ≡ says None
    at_pop next p t n s = of_nothing f d (patterns_from xs next) (rest_from p) n (items_pop (level_by naming row) p (naming t) (shown row p Pop t naming s))

    -- what is wanted of a branch that begins there, and what is told where it matches
    abbrev pub inside_of : ℕ → ℕ → Told Answer
    inside_of next p = inner_walk f d (patterns_from xs next) (rest_from (p + 1))

    abbrev both_of : ℕ → ℕ → Told Answer
    both_of next p = right_walk f d (outer_of (patterns_from xs next)) (rest_from p)

    at_push : (next p mate t c : ℕ) → patterns_from xs next ≢ Done → Shows row p Push t → Ended row p mate c
        → right_on next p ≡ before (entry_by naming (Branched d t c)) (followed (inside_of next p) (or_passed (inside_of next p).answer (both_of next (mate + 1)) (right_on next (mate + 1))))
    at_push next p mate t c n s m =
        of_branch f d (patterns_from xs next) (rest_from p) (naming t) (naming c) (rest_from (p + 1)) (rest_from (mate + 1)) n
        (items_push (level_by naming row) p mate (naming t) (naming c) (m.are naming) (shown row p Push t naming s) (shown row mate Pop c naming m.ends))

    at_met : (next p t : ℕ) (i : Item) (q : Option Pattern) (m : ModuleValue) → slice_get xs next ≡ Some i → q ≡ pattern_due i → patterns_from xs next ≢ Done → Shows row p (Module m) t
        → right_on next p ≡ before (entry_by naming (noted_met (f m.name) d t m)) (going (f m.name) (fits_due q m) (right_on next (p + 1)) (ahead (L.Module (naming t) m) (both_of next (p + 1))))
    at_met next p t i q m h j n s =
        of_module f d (patterns_from xs next) (rest_from p) (naming t) m (rest_from (p + 1)) n (items_module (level_by naming row) p m (naming t) (shown row p (Module m) t naming s))
        ∙ ap (λ b. met (f m.name) b d (L.Module (naming t) m) (right_on next (p + 1)) (ahead (L.Module (naming t) m) (both_of next (p + 1)))) (first_fits next i m h n ∙ ap (λ q. fits_due q m) (sym j))
        ∙ met_is (f m.name) (fits_due q m) d t m naming (right_on next (p + 1)) (ahead (L.Module (naming t) m) (both_of next (p + 1)))

    -- so far
    pub record Walk (first from next p : ℕ) (old now : List Noted) (bound more : List ℤ) : Type 0 where
      pub got : List ModuleValue
      pub values : more ≡ bound ++ params_of got
      pub goes : GoesOn (right_on first from) (right_on next p) (es_of naming old) (es_of naming now) (beginning got)

    pub walk_first : (first from p : ℕ) (old : List Noted) (bound : List ℤ) → p ≡ from → Walk first from first p old old bound bound
    walk_first first from p old bound e = rw e (record { got = []; values = sym (append-nil bound); goes = goes_first (right_on first from) (es_of naming old) (beginning []) (λ ms. refl) })

    module _ {first from next p : ℕ} {old now : List Noted} {bound more : List ℤ} (w : Walk first from next p old now bound more) where
      on : (t : Told Answer) → right_on next p ≡ t → GoesOn (right_on first from) t (es_of naming old) (es_of naming now) (beginning w.got)
      on t e = goes_as (right_on first from) (right_on next p) t (es_of naming old) (es_of naming now) (beginning w.got) e w.goes

      walk_far : (new : List Noted) (n : Noted) (t : Told Answer) → new ≡ now ++ n ∷ [] → length now ≤ most_entries → most_entries < length new → right_on next p ≡ before (entry_by naming n) t
          → Walks most_entries (right_on first from) (es_of naming old) (es_of naming new) (KeptInOrder bound more) TooFar
      walk_far new n t a h l e = read_far naming (right_on first from) t n most_entries old now new (beginning w.got) (KeptInOrder bound more) a (on (before (entry_by naming n) t) e) h l

      stops : length now ≤ most_entries → right_on next p ≡ says None → Walks most_entries (right_on first from) (es_of naming old) (es_of naming now) (KeptInOrder bound more) Missed
      stops h e = ends_missed naming (right_on first from) most_entries old now (beginning w.got) (KeptInOrder bound more) (on (says None) e) h

      pub walk_out : length now ≤ most_entries → patterns_from xs next ≢ Done → length row ≤ p → Walks most_entries (right_on first from) (es_of naming old) (es_of naming now) (KeptInOrder bound more) Missed
      walk_out h n l = stops h (at_end next p n l)

      pub walk_stops : (t : ℕ) → length now ≤ most_entries → patterns_from xs next ≢ Done → Shows row p Pop t → Walks most_entries (right_on first from) (es_of naming old) (es_of naming now) (KeptInOrder bound more) Missed
      walk_stops t h n s = stops h (at_pop next p t n s)

      pub walk_done : length now ≤ most_entries → patterns_from xs next ≡ Done → Walks most_entries (right_on first from) (es_of naming old) (es_of naming now) (KeptInOrder bound more) Found
      walk_done h e =
          ends_found naming (right_on first from) most_entries old now (beginning w.got) (KeptInOrder bound more) (on (says (Some [])) (ap (λ ps. right_walk f d ps (rest_from p)) e)) h
          (w.values ∙ ap (λ ms. bound ++ params_of ms) (sym (append-nil w.got)))

      -- the same place by another name
      pub walk_to : (q : ℕ) → q ≡ p → Walk first from next q old now bound more
      walk_to q e = subst (λ p. Walk first from next p old now bound more) (sym e) w

      pub walk_front : (new : List Noted) → new ≡ now → ReadsFront (right_on first from) (es_of naming old) (es_of naming new)
      walk_front new e = subst (λ ns. ReadsFront (right_on first from) (es_of naming old) (es_of naming ns)) (sym e) (reads_front naming (right_on first from) (right_on next p) old now (beginning w.got) w.goes)

    -- a module is met, where this item is due
    module _ {first from next p t : ℕ} {i : Item} {q : Option Pattern} {m : ModuleValue} {old now new : List Noted} {bound more : List ℤ} (w : Walk first from next p old now bound more) (h : slice_get xs next ≡ Some i) (j : q ≡ pattern_due i)
        (n : patterns_from xs next ≢ Done) (s : Shows row p (Module m) t) (a : new ≡ now ++ noted_met (f m.name) d t m ∷ []) where
      abbrev fitted : Told Answer
      fitted = ahead (L.Module (naming t) m) (both_of next (p + 1))

      abbrev rest : Told Answer
      rest = going (f m.name) (fits_due q m) (right_on next (p + 1)) fitted

      abbrev Decided : Meeting → Type 0
      Decided y = GoesBy (f m.name) (fits_due q m) (length new) y

      read : (u : Told Answer) → rest ≡ u → GoesOn (right_on first from) u (es_of naming old) (es_of naming new) (beginning w.got)
      read u e =
          goes_as (right_on first from) rest u (es_of naming old) (es_of naming new) (beginning w.got) e
          (read_on naming (right_on first from) rest (noted_met (f m.name) d t m) old now new (beginning w.got) a
          (on w (before (entry_by naming (noted_met (f m.name) d t m)) rest) (at_met next p t i q m h j n s)))

      pub walk_passed : (y : Meeting) → y ≡ meeting.Passed → Decided y → Walk first from next (p + 1) old new bound more
      walk_passed y e z = let x : Decided meeting.Passed = subst Decided e z in record {
        got = w.got;
        values = w.values;
        goes = read (right_on next (p + 1)) (going_passed (f m.name) (fits_due q m) (right_on next (p + 1)) fitted x.1);
      }

      pub walk_matched : (more' : List ℤ) (y : Meeting) → y ≡ meeting.Matched → Decided y → more' ≡ more ++ m.params → Walk first from (next + 1) (p + 1) old new bound more'
      walk_matched more' y e z b =
          let x : Decided meeting.Matched = subst Decided e z in
          let g = read (ahead (L.Module (naming t) m) (right_on (next + 1) (p + 1)))
          (going_matched (f m.name) (fits_due q m) (right_on next (p + 1)) fitted x.1 x.2
          ∙ ap (λ ps. ahead (L.Module (naming t) m) (right_walk f d ps (rest_from (p + 1)))) (outer_fitted next i m h (ap (λ q. fits_due q m) (sym j) ∙ x.2))) in
          record {
            got = w.got ++ m ∷ [];
            values = b ∙ ap (λ vs. vs ++ m.params) w.values ∙ append_assoc bound (params_of w.got) m.params
                ∙ ap (λ vs. bound ++ (params_of w.got ++ vs)) (sym (append-nil m.params)) ∙ ap (λ vs. bound ++ vs) (sym (flat_map-append (λ m. m.params) w.got (m ∷ [])));
            goes = record {
              more = g.more;
              entries = g.entries;
              added = g.added;
              missed = λ i. g.missed (ap (option_map (λ ms. m ∷ ms)) i);
              found = λ ms i. g.found (m ∷ ms) (ap (option_map (λ ms. m ∷ ms)) i) ∙ ap (λ ms. Some ms) (sym (append_assoc w.got (m ∷ []) ms));
            };
          }

      ends_as : (x : Walked) → length now ≤ most_entries → Decided (meeting.Ends x)
          → Walks most_entries (right_on first from) (es_of naming old) (es_of naming new) (KeptInOrder bound more) x
      ends_as Found l x = absurd x
      ends_as Missed l x =
          ends_missed naming (right_on first from) most_entries old new (beginning w.got) (KeptInOrder bound more)
          (read (says None) (going_missed (f m.name) (fits_due q m) (right_on next (p + 1)) fitted x.1 x.2)) x.0
      ends_as TooFar l x = walk_far w new (noted_met (f m.name) d t m) rest a l x (at_met next p t i q m h j n s)

      pub walk_ends : (x : Walked) (y : Meeting) → length now ≤ most_entries → y ≡ meeting.Ends x → Decided y
          → Walks most_entries (right_on first from) (es_of naming old) (es_of naming new) (KeptInOrder bound more) x
      walk_ends x y l e z = ends_as x l (subst Decided e z)

      -- its parameters found no room
      pub walk_met_front : ReadsFront (right_on first from) (es_of naming old) (es_of naming new)
      walk_met_front = reads_front naming (right_on first from) rest old new (beginning w.got) (read rest refl)

    -- a branch is met
    module _ {first from next p mate t c : ℕ} {old now mid : List Noted} {bound more : List ℤ} (w : Walk first from next p old now bound more) (n : patterns_from xs next ≢ Done)
        (s : Shows row p Push t) (m : Ended row p mate c) (a : mid ≡ now ++ Branched d t c ∷ []) where
      abbrev passed : Told Answer
      passed = right_on next (mate + 1)

      abbrev both : Told Answer
      both = both_of next (mate + 1)

      abbrev tried : Told Answer
      tried = followed (inside_of next p) (or_passed (inside_of next p).answer both passed)

      entered : GoesOn (right_on first from) tried (es_of naming old) (es_of naming mid) (beginning w.got)
      entered =
          read_on naming (right_on first from) tried (Branched d t c) old now mid (beginning w.got) a
          (on w (before (entry_by naming (Branched d t c)) tried) (at_push next p mate t c n s m))

      pub walk_branch_far : length now ≤ most_entries → most_entries < length mid → Walks most_entries (right_on first from) (es_of naming old) (es_of naming mid) (KeptInOrder bound more) TooFar
      walk_branch_far l x = walk_far w mid (Branched d t c) tried a l x (at_push next p mate t c n s m)

      pub walk_found : (new : List Noted) (b : ℕ) (more' : List ℤ) → EndsBranch xs next b → Walks most_entries (inside_of next p) (es_of naming mid) (es_of naming new) (KeptInOrder more more') Found → Walk first from b (mate + 1) old new bound more'
      walk_found new b more' i h =
          let g = goes_as (right_on first from) both (right_on b (mate + 1)) (es_of naming old) (es_of naming new) (λ x. beginning w.got (h.2 ++ x)) (ap (λ ps. right_walk f d (outer_of ps) (rest_from (mate + 1))) i)
          (inner_found (right_on first from) (inside_of next p) both passed (es_of naming old) (es_of naming mid) (es_of naming new) (beginning w.got) h.2 h.3 h.0 entered) in
          record {
            got = w.got ++ h.2;
            values = h.4 ∙ ap (λ vs. vs ++ params_of h.2) w.values ∙ append_assoc bound (params_of w.got) (params_of h.2) ∙ ap (λ vs. bound ++ vs) (sym (flat_map-append (λ m. m.params) w.got h.2));
            goes = record { more = g.more; entries = g.entries; missed = g.missed; added = g.added; found = λ x i. g.found x i ∙ ap (λ ms. Some ms) (sym (append_assoc w.got h.2 x)) };
          }

      pub walk_missed : (new : List Noted) (more' : List ℤ) → more' ≡ more → Walks most_entries (inside_of next p) (es_of naming mid) (es_of naming new) (KeptInOrder more more') Missed → Walk first from next (mate + 1) old new bound more'
      walk_missed new more' k h = record {
        got = w.got;
        values = k ∙ w.values;
        goes = inner_missed (right_on first from) (inside_of next p) both passed (es_of naming old) (es_of naming mid) (es_of naming new) (beginning w.got) h.2 h.0 entered;
      }

      pub walk_inner_far : (new : List Noted) → Walks most_entries (inside_of next p) (es_of naming mid) (es_of naming new) (KeptInOrder bound more) TooFar → Walks most_entries (right_on first from) (es_of naming old) (es_of naming new) (KeptInOrder bound more) TooFar
      walk_inner_far new h = inner_far (right_on first from) (inside_of next p) both passed (es_of naming old) (es_of naming mid) (es_of naming new) (beginning w.got) most_entries (KeptInOrder bound more) h.0 h.1 entered

      pub walk_inner_front : (new : List Noted) → ReadsFront (inside_of next p) (es_of naming mid) (es_of naming new) → ReadsFront (right_on first from) (es_of naming old) (es_of naming new)
      walk_inner_front new h = inner_front (right_on first from) (inside_of next p) both passed (es_of naming old) (es_of naming mid) (es_of naming new) (beginning w.got) h entered
