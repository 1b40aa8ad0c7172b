-- The walk to the left, by the symbol before.
use Rattle.std.proofs.Common.{◌≡◌, ℕ, ℤ, List, [], ◌∷◌, ◌++◌, ◌+◌, ◌-◌, ◌<◌, ◌≤◌, length, take, get_or, Bool, Some, None, refl, ap, sym, ◌∙◌, arith, append_assoc, append-nil, subst}
use Rattle.std.specs.Prelude.{option_map, reverse}
use Rattle.std.proofs.lemmas.List.{take_more, take_all, reverse-append}
use Rattle.lsys_syntax.specs.Strings.{ModuleName, plus}
use Rattle.lsys_spec.specs.Bodies.{Pattern}
use Rattle.lsys_spec.specs.Levels as L
use Rattle.lsys_spec.specs.Levels.{ModuleValue, AreMates, way, Step, Passed, Around, OutOf}
use Rattle.lsys_spec.specs.Walks as W
use Rattle.lsys_spec.specs.Walks.{Mark, Told, says, before, fits, left_walk, followed_by}
use Rattle.lsys_spec.proofs.Meetings.{met}
use Rattle.lsys_spec.specs.Choice.{params_of}
use Rattle.lsys_spec.specs.Meaning.{most_entries}
use Rattle.lsys_spec.proofs.Around.{way_module, way_push, way_pop}
use Rattle.lsys_level.specs.Spots.{Push, Pop, Module, Spotted, level_by}
use Rattle.lsys_walks.specs.declared.walked.Walked.{Walked}
use Rattle.lsys_walks.specs.declared.walked.Walked.TheVariants.{Found, Missed, TooFar}
use Rattle.lsys_walks.specs.declared.meeting.Meeting.{Meeting}
use Rattle.lsys_walks.specs.declared.meeting.Meeting.TheVariants as meeting
use Rattle.lsys_walks.specs.Noted.{Noted, Out, Branched, entry_by}
use Rattle.lsys_walks.specs.Meetings.{noted_met, GoesBy}
use Rattle.lsys_walks.specs.Walked.{Walks, ReadsFront, KeptReversed}
use Rattle.lsys_walks.proofs.Shown.{Shows, shown, Mated}
use Rattle.lsys_walks.proofs.Meets.{going, met_is, going_passed, going_matched, going_missed}
use Rattle.lsys_walks.proofs.Told.{Answer, GoesOn, goes_first, goes_as, es_of, read_on, read_far, ends_missed, ends_found, reads_front}

-- these modules at the end
abbrev pub ending : List ModuleValue → List ModuleValue → List ModuleValue
ending got ms = ms ++ got

any_pattern : Pattern
any_pattern = record { name = plus; arity = 0 }

module _ (f : ModuleName → Bool) (d : Mark) (qs : List Pattern) (row : List Spotted) where
  -- the walk that is left, of so many patterns from a place
  abbrev pub left_on : (ℕ → List ℕ) → ℕ → ℕ → Told Answer
  left_on naming due at = left_walk f d (reverse (take due qs)) (way (level_by naming row) at)

  abbrev pub whole : (ℕ → List ℕ) → ℕ → Told Answer
  whole naming from = left_walk f d (reverse qs) (way (level_by naming row) from)

  turned : (due : ℕ) (q : Pattern) → 0 < due → due ≤ length qs → q ≡ get_or qs (due - 1) q → reverse (take due qs) ≡ q ∷ reverse (take (due - 1) qs)
  turned due q h l e =
      let at : due - 1 + 1 ≡ due = omega (arith, h) in
      ap (λ n. reverse (take n qs)) (sym at) ∙ ap reverse (take_more qs (due - 1) q (omega (arith, h, l)) ∙ ap (λ u. take (due - 1) qs ++ u ∷ []) (sym e)) ∙ reverse-append (take (due - 1) qs) (q ∷ [])

  some_pattern : (due : ℕ) → 0 < due → due ≤ length qs → (q : Pattern) × (reverse (take due qs) ≡ q ∷ reverse (take (due - 1) qs))
  some_pattern due h l =
      let at : due - 1 + 1 ≡ due = omega (arith, h) in
      (get_or qs (due - 1) any_pattern, ap (λ n. reverse (take n qs)) (sym at) ∙ ap reverse (take_more qs (due - 1) any_pattern (omega (arith, h, l))) ∙ reverse-append (take (due - 1) qs) (get_or qs (due - 1) any_pattern ∷ []))

  -- what the walk tells from here, by its next step
  seen : (naming : ℕ → List ℕ) (p at due : ℕ) (q : Pattern) (s : Step) (w : List Step) → p + 1 ≡ at → reverse (take due qs) ≡ q ∷ reverse (take (due - 1) qs) → way (level_by naming row) (p + 1) ≡ s ∷ w
      → left_on naming due at ≡ left_walk f d (q ∷ reverse (take (due - 1) qs)) (s ∷ w)
  seen naming p at due q s w h k e =
      ap (λ t. left_walk f d t (way (level_by naming row) at)) k ∙ ap (left_walk f d (q ∷ reverse (take (due - 1) qs))) (ap (way (level_by naming row)) (sym h) ∙ e)

  again : (naming : ℕ → List ℕ) (p due : ℕ) (q : Pattern) → reverse (take due qs) ≡ q ∷ reverse (take (due - 1) qs)
      → left_walk f d (q ∷ reverse (take (due - 1) qs)) (way (level_by naming row) p) ≡ left_on naming due p
  again naming p due q k = ap (λ t. left_walk f d t (way (level_by naming row) p)) (sym k)

  at_push : (naming : ℕ → List ℕ) (p at due t : ℕ) → p + 1 ≡ at → 0 < due → due ≤ length qs → Shows row p Push t
      → left_on naming due at ≡ before (entry_by naming (Out d t)) (left_on naming due p)
  at_push naming p at due t h k l s =
      let q = some_pattern due k l in
      seen naming p at due q.0 (OutOf (L.Push (naming t))) (way (level_by naming row) p) h q.1 (way_push (level_by naming row) p (naming t) (shown row p Push t naming s))
      ∙ ap (before (W.Out d (naming t))) (again naming p due q.0 q.1)

  at_pop : (naming : ℕ → List ℕ) (p mate at due o t : ℕ) → p + 1 ≡ at → 0 < due → due ≤ length qs → Shows row p Pop t → AreMates (level_by naming row) mate p → Shows row mate Push o
      → left_on naming due at ≡ before (entry_by naming (Branched d o t)) (left_on naming due mate)
  at_pop naming p mate at due o t h k l s m b =
      let q = some_pattern due k l in
      seen naming p at due q.0 (Around (L.Push (naming o)) (L.Pop (naming t))) (way (level_by naming row) mate) h q.1
      (way_pop (level_by naming row) p mate (naming o) (naming t) m (shown row mate Push o naming b) (shown row p Pop t naming s))
      ∙ ap (before (W.Branched d (naming o) (naming t))) (again naming mate due q.0 q.1)

  at_module : (naming : ℕ → List ℕ) (p at due t : ℕ) (q : Pattern) (m : ModuleValue) → p + 1 ≡ at → reverse (take due qs) ≡ q ∷ reverse (take (due - 1) qs) → Shows row p (Module m) t
      → left_on naming due at ≡ met (f m.name) (fits q (L.Module (naming t) m)) d (L.Module (naming t) m) (left_on naming due p) (followed_by (L.Module (naming t) m) (left_on naming (due - 1) p))
  at_module naming p at due t q m h k s =
      seen naming p at due q (Passed (L.Module (naming t) m)) (way (level_by naming row) p) h k (way_module (level_by naming row) p m (naming t) (shown row p (Module m) t naming s))
      ∙ ap (λ u. met (f m.name) (fits q (L.Module (naming t) m)) d (L.Module (naming t) m) u (followed_by (L.Module (naming t) m) (left_on naming (due - 1) p))) (again naming p due q k)

  at_met : (naming : ℕ → List ℕ) (p at due t : ℕ) (q : Pattern) (m : ModuleValue) → p + 1 ≡ at → 0 < due → due ≤ length qs → q ≡ get_or qs (due - 1) q → Shows row p (Module m) t
      → left_on naming due at ≡ before (entry_by naming (noted_met (f m.name) d t m)) (going (f m.name) (fits q (L.Module [] m)) (left_on naming due p) (followed_by (L.Module (naming t) m) (left_on naming (due - 1) p)))
  at_met naming p at due t q m h k l e s =
      at_module naming p at due t q m h (turned due q k l e) s ∙ met_is (f m.name) (fits q (L.Module [] m)) d t m naming (left_on naming due p) (followed_by (L.Module (naming t) m) (left_on naming (due - 1) p))

  -- so far
  pub record Walk (from at due most : ℕ) (old now : List Noted) (bound more : List ℤ) : Type 0 where
    pub few : due ≤ length qs
    pub room : length now ≤ most
    pub got : List ModuleValue
    pub values : more ≡ bound ++ reverse (params_of got)
    pub goes : (naming : ℕ → List ℕ) → GoesOn (whole naming from) (left_on naming due at) (es_of naming old) (es_of naming now) (ending got)

  pub walk_first : (from due most : ℕ) (old : List Noted) (bound : List ℤ) → due ≡ length qs → length old ≤ most → Walk from from due most old old bound bound
  walk_first from due most old bound n h = record {
    few = omega (arith, n);
    room = h;
    got = [];
    values = sym (append-nil bound);
    goes = λ naming. goes_as (whole naming from) (whole naming from) (left_on naming due from) (es_of naming old) (es_of naming old) (ending [])
        (ap (λ t. left_walk f d (reverse t) (way (level_by naming row) from)) (sym (take_all due qs (omega (arith, n))))) (goes_first (whole naming from) (es_of naming old) (ending []) append-nil);
  }

  -- one entry more was read
  module _ {from at due : ℕ} {old now new : List Noted} {bound more : List ℤ} (w : Walk from at due most_entries old now bound more) (n : Noted) (a : new ≡ now ++ n ∷ []) where
    read : (naming : ℕ → List ℕ) (t : Told Answer) → left_on naming due at ≡ before (entry_by naming n) t → GoesOn (whole naming from) t (es_of naming old) (es_of naming new) (ending w.got)
    read naming t e =
        read_on naming (whole naming from) t n old now new (ending w.got) a
        (goes_as (whole naming from) (left_on naming due at) (before (entry_by naming n) t) (es_of naming old) (es_of naming now) (ending w.got) e (w.goes naming))

    -- and the walk goes on from p
    walk_on : (p : ℕ) → length new ≤ most_entries → ((naming : ℕ → List ℕ) → left_on naming due at ≡ before (entry_by naming n) (left_on naming due p)) → Walk from p due most_entries old new bound more
    walk_on p h e = record {
      few = w.few;
      room = h;
      got = w.got;
      values = w.values;
      goes = λ naming. read naming (left_on naming due p) (e naming);
    }

    -- and the walk is too far
    walk_far : (naming : ℕ → List ℕ) (t : Told Answer) → most_entries < length new → left_on naming due at ≡ before (entry_by naming n) t
        → Walks most_entries (whole naming from) (es_of naming old) (es_of naming new) (KeptReversed bound more) TooFar
    walk_far naming t h e =
        read_far naming (whole naming from) t n most_entries old now new (ending w.got) (KeptReversed bound more) a
        (goes_as (whole naming from) (left_on naming due at) (before (entry_by naming n) t) (es_of naming old) (es_of naming now) (ending w.got) e (w.goes naming)) w.room h

  -- the walk leaves its branch
  module _ {from at due p t : ℕ} {old now new : List Noted} {bound more : List ℤ} (w : Walk from at due most_entries old now bound more) (h : p + 1 ≡ at) (k : 0 < due) (s : Shows row p Push t)
      (a : new ≡ now ++ Out d t ∷ []) where
    pub walk_left : length new ≤ most_entries → Walk from p due most_entries old new bound more
    walk_left l = walk_on w (Out d t) a p l (λ naming. at_push naming p at due t h k w.few s)

    pub walk_left_far : (naming : ℕ → List ℕ) → most_entries < length new → Walks most_entries (whole naming from) (es_of naming old) (es_of naming new) (KeptReversed bound more) TooFar
    walk_left_far naming l = walk_far w (Out d t) a naming (left_on naming due p) l (at_push naming p at due t h k w.few s)

  -- the walk passes a branch
  module _ {from at due p mate o t : ℕ} {old now new : List Noted} {bound more : List ℤ} (w : Walk from at due most_entries old now bound more) (h : p + 1 ≡ at) (k : 0 < due) (s : Shows row p Pop t)
      (m : Mated row p mate o) (a : new ≡ now ++ Branched d o t ∷ []) where
    pub walk_around : length new ≤ most_entries → Walk from mate due most_entries old new bound more
    walk_around l = walk_on w (Branched d o t) a mate l (λ naming. at_pop naming p mate at due o t h k w.few s (m.are naming) m.begins)

    pub walk_around_far : (naming : ℕ → List ℕ) → most_entries < length new → Walks most_entries (whole naming from) (es_of naming old) (es_of naming new) (KeptReversed bound more) TooFar
    walk_around_far naming l = walk_far w (Branched d o t) a naming (left_on naming due mate) l (at_pop naming p mate at due o t h k w.few s (m.are naming) m.begins)

  -- a module is met, where this pattern is due
  module _ {from at due p t : ℕ} {q : Pattern} {m : ModuleValue} {old now new : List Noted} {bound more : List ℤ} (w : Walk from at due most_entries old now bound more) (h : p + 1 ≡ at) (k : 0 < due)
      (e : q ≡ get_or qs (due - 1) q) (s : Shows row p (Module m) t) (a : new ≡ now ++ noted_met (f m.name) d t m ∷ []) where
    abbrev fitted : (ℕ → List ℕ) → Told Answer
    fitted naming = followed_by (L.Module (naming t) m) (left_on naming (due - 1) p)

    abbrev rest : (ℕ → List ℕ) → Told Answer
    rest naming = going (f m.name) (fits q (L.Module [] m)) (left_on naming due p) (fitted naming)

    abbrev Decided : Meeting → Type 0
    Decided y = GoesBy (f m.name) (fits q (L.Module [] m)) (length new) y

    noted : (naming : ℕ → List ℕ) → left_on naming due at ≡ before (entry_by naming (noted_met (f m.name) d t m)) (rest naming)
    noted naming = at_met naming p at due t q m h k w.few e s

    met_as : (naming : ℕ → List ℕ) (u : Told Answer) → rest naming ≡ u → GoesOn (whole naming from) u (es_of naming old) (es_of naming new) (ending w.got)
    met_as naming u i =
        goes_as (whole naming from) (rest naming) u (es_of naming old) (es_of naming new) (ending w.got) i (read w (noted_met (f m.name) d t m) a naming (rest naming) (noted naming))

    pub walk_passed : (y : Meeting) → y ≡ meeting.Passed → Decided y → Walk from p due most_entries old new bound more
    walk_passed y i z = let x : Decided meeting.Passed = subst Decided i z in record {
      few = w.few;
      room = x.0;
      got = w.got;
      values = w.values;
      goes = λ naming. met_as naming (left_on naming due p) (going_passed (f m.name) (fits q (L.Module [] m)) (left_on naming due p) (fitted naming) x.1);
    }

    pub walk_matched : (more' : List ℤ) (y : Meeting) → y ≡ meeting.Matched → Decided y → more' ≡ more ++ reverse m.params → Walk from p (due - 1) most_entries old new bound more'
    walk_matched more' y i z b = let x : Decided meeting.Matched = subst Decided i z in record {
      few = omega (arith, w.few);
      room = x.0;
      got = m ∷ w.got;
      values = b ∙ ap (λ vs. vs ++ reverse m.params) w.values ∙ append_assoc bound (reverse (params_of w.got)) (reverse m.params) ∙ ap (λ vs. bound ++ vs) (sym (reverse-append m.params (params_of w.got)));
      goes = λ naming.
          let g = met_as naming (fitted naming)
          (going_matched (f m.name) (fits q (L.Module [] m)) (left_on naming due p) (fitted naming) x.1 x.2) in
          record {
            more = g.more;
            entries = g.entries;
            added = g.added;
            missed = λ i. g.missed (ap (option_map (λ ms. ms ++ m ∷ [])) i);
            found = λ ms i. g.found (ms ++ m ∷ []) (ap (option_map (λ ms. ms ++ m ∷ [])) i) ∙ ap (λ ms. Some ms) (append_assoc ms (m ∷ []) w.got);
          };
    }

    ends_as : (naming : ℕ → List ℕ) (x : Walked) → Decided (meeting.Ends x)
        → Walks most_entries (whole naming from) (es_of naming old) (es_of naming new) (KeptReversed bound more) x
    ends_as naming Found x = absurd x
    ends_as naming Missed x =
        ends_missed naming (whole naming from) most_entries old new (ending w.got) (KeptReversed bound more)
        (met_as naming (says None) (going_missed (f m.name) (fits q (L.Module [] m)) (left_on naming due p) (fitted naming) x.1 x.2)) x.0
    ends_as naming TooFar x = walk_far w (noted_met (f m.name) d t m) a naming (rest naming) x (noted naming)

    pub walk_ends : (naming : ℕ → List ℕ) (x : Walked) (y : Meeting) → y ≡ meeting.Ends x → Decided y
        → Walks most_entries (whole naming from) (es_of naming old) (es_of naming new) (KeptReversed bound more) x
    walk_ends naming x y i z = ends_as naming x (subst Decided i z)

    -- the values of its parameters found no room
    pub walk_met_front : (naming : ℕ → List ℕ) → ReadsFront (whole naming from) (es_of naming old) (es_of naming new)
    walk_met_front naming = reads_front naming (whole naming from) (rest naming) old new (ending w.got) (met_as naming (rest naming) refl)

  module _ {from at due : ℕ} {old now : List Noted} {bound more : List ℤ} (w : Walk from at due most_entries old now bound more) (naming : ℕ → List ℕ) where
    as_far : (t : Told Answer) → left_on naming due at ≡ t → GoesOn (whole naming from) t (es_of naming old) (es_of naming now) (ending w.got)
    as_far t e = goes_as (whole naming from) (left_on naming due at) t (es_of naming old) (es_of naming now) (ending w.got) e (w.goes naming)

    pub walk_done : due ≡ 0 → Walks most_entries (whole naming from) (es_of naming old) (es_of naming now) (KeptReversed bound more) Found
    walk_done h = ends_found naming (whole naming from) most_entries old now (ending w.got) (KeptReversed bound more) (as_far (says (Some [])) (ap (λ n. left_on naming n at) h)) w.room w.values

    pub walk_out : at ≡ 0 → 0 < due → Walks most_entries (whole naming from) (es_of naming old) (es_of naming now) (KeptReversed bound more) Missed
    walk_out h k =
        let q = some_pattern due k w.few in
        ends_missed naming (whole naming from) most_entries old now (ending w.got) (KeptReversed bound more) (as_far (says None) (ap (left_on naming due) h ∙ ap (λ t. left_walk f d t []) q.1)) w.room

    pub walk_front : (new : List Noted) → new ≡ now → ReadsFront (whole naming from) (es_of naming old) (es_of naming new)
    walk_front new e =
        subst (λ ns. ReadsFront (whole naming from) (es_of naming old) (es_of naming ns)) (sym e) (reads_front naming (whole naming from) (left_on naming due at) old now (ending w.got) (w.goes naming))
