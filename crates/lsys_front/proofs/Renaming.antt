-- What is read doesn't depend on what the lineages are: where a level has others, the same is read of it under those.
use Rattle.std.proofs.Common.{◌≡◌, ◌+◌, ℕ, Bool, true, false, Option, Some, None, Result, Ok, Err, List, [], ◌∷◌, ◌++◌, map, take, refl, ap, sym, ◌∙◌, if◌then◌else◌}
use Rattle.std.specs.Prelude.{fold, drop, reverse, nat_lt}
use Rattle.std.proofs.lemmas.List.{take-map, drop-map, length-map, map-append}
use Rattle.lsys_syntax.specs.Strings.{ModuleName}
use Rattle.lsys_spec.specs.Bodies.{Body, Pattern, Patterns, Done, OneOf, BranchOf}
use Rattle.lsys_spec.specs.Levels.{ModuleValue, LevelSymbol, Push, Pop, Module, lineage, Step, Passed, Around, OutOf, Reading, read, restored, way, Items, Nothing, One, Branch, Nest, at_root, in_branch, items_here, items_of, items_from, with_module, with_whole_branch, with_open_bracket}
use Rattle.lsys_spec.specs.Walks.{Mark, deeper, Entry, Compared, Ignored, Out, Branched, Told, Found, before, followed, fits, followed_by, ahead, joined, or_passed, left_walk, right_walk}
use Rattle.lsys_spec.specs.Choice.{Fault, TooFar, Outcome, No, Yes, Fails, Choice, Asking, Tried, none_tried, after_rule, right_after, next_contexts, fitting, outcome, decided, first_applying, Applying, found_with, all_applying, pick_among, choice}
use Rattle.lsys_spec.proofs.Meetings.{met}

module _ (f : List ℕ → List ℕ) where
  -- 1. symbols with other lineages

  abbrev pub symbol_as : LevelSymbol → LevelSymbol
  symbol_as (Push l) = Push (f l)
  symbol_as (Pop l) = Pop (f l)
  symbol_as (Module l m) = Module (f l) m

  abbrev pub step_as : Step → Step
  step_as (Passed s) = Passed (symbol_as s)
  step_as (Around o c) = Around (symbol_as o) (symbol_as c)
  step_as (OutOf o) = OutOf (symbol_as o)

  abbrev pub items_as : Items → Items
  items_as Nothing = Nothing
  items_as (One s r) = One (symbol_as s) (items_as r)
  items_as (Branch o c i r) = Branch (symbol_as o) (symbol_as c) (items_as i) (items_as r)

  abbrev pub entry_as : Entry → Entry
  entry_as (Compared d s) = Compared d (symbol_as s)
  entry_as (Ignored d s) = Ignored d (symbol_as s)
  entry_as (Out d l) = Out d (f l)
  entry_as (Branched d o c) = Branched d (f o) (f c)

  abbrev pub told_as : {A : Type 0} → Told A → Told A
  told_as t = record { entries = map entry_as t.entries; answer = t.answer }

  lineage_as : (s : LevelSymbol) → lineage (symbol_as s) ≡ f (lineage s)
  lineage_as (Push l) = refl
  lineage_as (Pop l) = refl
  lineage_as (Module l m) = refl

  -- 2. what stands around a symbol

  abbrev saved_as : LevelSymbol × List Step → LevelSymbol × List Step
  saved_as s = (symbol_as s.0, map step_as s.1)

  abbrev reading_as : Reading → Reading
  reading_as r = record { way = map step_as r.way; saved = map saved_as r.saved }

  restored_as : (c : LevelSymbol) (saved : List (LevelSymbol × List Step)) → restored (symbol_as c) (map saved_as saved) ≡ reading_as (restored c saved)
  restored_as c [] = refl
  restored_as c (s ∷ saved) = refl

  read_as : (r : Reading) (s : LevelSymbol) → read (reading_as r) (symbol_as s) ≡ reading_as (read r s)
  read_as r (Module l m) = refl
  read_as r (Push l) = refl
  read_as r (Pop l) = restored_as (Pop l) r.saved

  all_read_as : (r : Reading) (x : List LevelSymbol) → fold read (reading_as r) (map symbol_as x) ≡ reading_as (fold read r x)
  all_read_as r [] = refl
  all_read_as r (s ∷ x) = ap (λ r. fold read r (map symbol_as x)) (read_as r s) ∙ all_read_as (read r s) x

  way_as : (x : List LevelSymbol) (p : ℕ) → way (map symbol_as x) p ≡ map step_as (way x p)
  way_as x p =
      let none : Reading = record { way = []; saved = [] } in
      ap (λ x. (fold read none x).way) (take-map symbol_as p x) ∙ ap (λ (r : Reading). r.way) (all_read_as none (take p x))

  abbrev nest_as : Nest → Nest
  nest_as (at_root r) = at_root (items_as r)
  nest_as (in_branch r c n) = in_branch (items_as r) (symbol_as c) (nest_as n)

  module_as : (s : LevelSymbol) (n : Nest) → with_module (symbol_as s) (nest_as n) ≡ nest_as (with_module s n)
  module_as s (at_root r) = refl
  module_as s (in_branch r c n) = refl

  whole_as : (o c : LevelSymbol) (i : Items) (n : Nest) → with_whole_branch (symbol_as o) (symbol_as c) (items_as i) (nest_as n) ≡ nest_as (with_whole_branch o c i n)
  whole_as o c i (at_root r) = refl
  whole_as o c i (in_branch r d n) = refl

  open_as : (o : LevelSymbol) (n : Nest) → with_open_bracket (symbol_as o) (nest_as n) ≡ nest_as (with_open_bracket o n)
  open_as o (at_root i) = refl
  open_as o (in_branch i c n) = whole_as o c i n

  nests_as : (x : List LevelSymbol) → items_of (map symbol_as x) ≡ nest_as (items_of x)
  nests_as [] = refl
  nests_as (Module l m ∷ x) = ap (with_module (Module (f l) m)) (nests_as x) ∙ module_as (Module l m) (items_of x)
  nests_as (Push l ∷ x) = ap (with_open_bracket (Push (f l))) (nests_as x) ∙ open_as (Push l) (items_of x)
  nests_as (Pop l ∷ x) = ap (in_branch Nothing (Pop (f l))) (nests_as x)

  here_as : (n : Nest) → items_here (nest_as n) ≡ items_as (items_here n)
  here_as (at_root r) = refl
  here_as (in_branch r c n) = refl

  rest_as : (x : List LevelSymbol) (p : ℕ) → items_from (map symbol_as x) p ≡ items_as (items_from x p)
  rest_as x p =
      ap (λ x. items_here (items_of x)) (drop-map symbol_as p x) ∙ ap items_here (nests_as (drop p x)) ∙ here_as (items_of (drop p x))

  -- 3. the walks

  followed_as : {A B : Type 0} (t : Told A) (n : Told B) → followed (told_as t) (told_as n) ≡ told_as (followed t n)
  followed_as {A} {B} t n = ap (λ es. record { entries = es; answer = n.answer }) (sym (map-append entry_as t.entries n.entries))

  branch_as : (d : Mark) (o c : LevelSymbol) → Branched d (lineage (symbol_as o)) (lineage (symbol_as c)) ≡ Branched d (f (lineage o)) (f (lineage c))
  branch_as d o c = ap (λ l. Branched d l (lineage (symbol_as c))) (lineage_as o) ∙ ap (Branched d (f (lineage o))) (lineage_as c)

  met_as : (b e : Bool) (d : Mark) (s : LevelSymbol) (on on' next next' : Told Found) → on' ≡ told_as on → next' ≡ told_as next
      → met b e d (symbol_as s) on' next' ≡ told_as (met b e d s on next)
  met_as true e d s on on' next next' h g = ap (before (Ignored d (symbol_as s))) h
  met_as false true d s on on' next next' h g = ap (before (Compared d (symbol_as s))) g
  met_as false false d s on on' next next' h g = refl

  left_as : (ignored : ModuleName → Bool) (d : Mark) (qs : List Pattern) (w : List Step) → left_walk ignored d qs (map step_as w) ≡ told_as (left_walk ignored d qs w)
  left_as ignored d [] w = refl
  left_as ignored d (q ∷ qs) [] = refl
  left_as ignored d (q ∷ qs) (Around o c ∷ w) =
      ap (λ e. before e (left_walk ignored d (q ∷ qs) (map step_as w))) (branch_as d o c)
      ∙ ap (before (Branched d (f (lineage o)) (f (lineage c)))) (left_as ignored d (q ∷ qs) w)
  left_as ignored d (q ∷ qs) (OutOf o ∷ w) =
      ap (λ l. before (Out d l) (left_walk ignored d (q ∷ qs) (map step_as w))) (lineage_as o)
      ∙ ap (before (Out d (f (lineage o)))) (left_as ignored d (q ∷ qs) w)
  left_as ignored d (q ∷ qs) (Passed (Push l) ∷ w) = refl
  left_as ignored d (q ∷ qs) (Passed (Pop l) ∷ w) = refl
  left_as ignored d (q ∷ qs) (Passed (Module l m) ∷ w) =
      let s : LevelSymbol = Module l m in
      met_as (ignored m.name) (fits q s) d s (left_walk ignored d (q ∷ qs) w) (left_walk ignored d (q ∷ qs) (map step_as w))
      (followed_by s (left_walk ignored d qs w)) (followed_by (symbol_as s) (left_walk ignored d qs (map step_as w)))
      (left_as ignored d (q ∷ qs) w) (ap (followed_by (symbol_as s)) (left_as ignored d qs w))

  passed_as : (o : Found) (both both' passed passed' : Told Found) → both' ≡ told_as both → passed' ≡ told_as passed → or_passed o both' passed' ≡ told_as (or_passed o both passed)
  passed_as None both both' passed passed' h g = g
  passed_as (Some ms) both both' passed passed' h g = ap (joined ms) h

  right_as : (ignored : ModuleName → Bool) (d : Mark) (p : Patterns) (r : Items) → right_walk ignored d p (items_as r) ≡ told_as (right_walk ignored d p r)
  right_as ignored d Done r = refl
  right_as ignored d (OneOf q p) Nothing = refl
  right_as ignored d (OneOf q p) (Branch o c i r) =
      ap (λ e. before e (right_walk ignored d (OneOf q p) (items_as r))) (branch_as d o c)
      ∙ ap (before (Branched d (f (lineage o)) (f (lineage c)))) (right_as ignored d (OneOf q p) r)
  right_as ignored d (OneOf q p) (One (Push l) r) = refl
  right_as ignored d (OneOf q p) (One (Pop l) r) = refl
  right_as ignored d (OneOf q p) (One (Module l m) r) =
      let s : LevelSymbol = Module l m in
      met_as (ignored m.name) (fits q s) d s (right_walk ignored d (OneOf q p) r) (right_walk ignored d (OneOf q p) (items_as r))
      (ahead s (right_walk ignored d p r)) (ahead (symbol_as s) (right_walk ignored d p (items_as r)))
      (right_as ignored d (OneOf q p) r) (ap (ahead (symbol_as s)) (right_as ignored d p r))
  right_as ignored d (BranchOf qs p) Nothing = refl
  right_as ignored d (BranchOf qs p) (One (Push l) r) = refl
  right_as ignored d (BranchOf qs p) (One (Pop l) r) = refl
  right_as ignored d (BranchOf qs p) (One (Module l m) r) =
      let s : LevelSymbol = Module l m in
      met_as (ignored m.name) false d s (right_walk ignored d (BranchOf qs p) r) (right_walk ignored d (BranchOf qs p) (items_as r))
      (right_walk ignored d p r) (right_walk ignored d p (items_as r))
      (right_as ignored d (BranchOf qs p) r) (right_as ignored d p r)
  right_as ignored d (BranchOf qs p) (Branch o c i r) =
      let inside = right_walk ignored (deeper d) qs i in
      let both = right_walk ignored d p r in
      let passed = right_walk ignored d (BranchOf qs p) r in
      let both' = right_walk ignored d p (items_as r) in
      let passed' = right_walk ignored d (BranchOf qs p) (items_as r) in
      let e = Branched d (lineage (symbol_as o)) (lineage (symbol_as c)) in
      ap (λ (t : Told Found). before e (followed t (or_passed t.answer both' passed'))) (right_as ignored (deeper d) qs i)
      ∙ ap (λ t. before e (followed (told_as inside) t)) (passed_as inside.answer both both' passed passed' (right_as ignored d p r) (right_as ignored d (BranchOf qs p) r))
      ∙ ap (before e) (followed_as inside (or_passed inside.answer both passed))
      ∙ ap (λ e. before e (told_as (followed inside (or_passed inside.answer both passed)))) (branch_as d o c)

  -- 4. the choice

  after_as : (ignored : ModuleName → Bool) (d : Mark) (b : Body) (own : ModuleValue) (r : Items) (o : Found)
      → right_after ignored d b own (items_as r) o ≡ told_as (right_after ignored d b own r o)
  after_as ignored d b own r None = refl
  after_as ignored d b own r (Some ms) = ap (joined (ms ++ own ∷ [])) (right_as ignored d b.right r)

  contexts_as : (a : Asking) (w : List Step) (r : Items) (d : Tried) (b : Body) → next_contexts a (map step_as w) (items_as r) d b ≡ told_as (next_contexts a w r d b)
  contexts_as a w r d b =
      let mark : Mark = record { rule = d.place; depth = 0 } in
      let t = left_walk a.ignored mark (reverse b.left) w in
      ap (λ (t : Told Found). followed t (right_after a.ignored mark b a.own (items_as r) t.answer)) (left_as a.ignored mark (reverse b.left) w)
      ∙ ap (followed (told_as t)) (after_as a.ignored mark b a.own r t.answer)
      ∙ followed_as t (right_after a.ignored mark b a.own r t.answer)

  decided_as : (o : Outcome) (place : ℕ) (others others' : Told Choice) → others' ≡ told_as others → decided o place others' ≡ told_as (decided o place others)
  decided_as No place others others' h = h
  decided_as (Yes values) place others others' h = refl
  decided_as (Fails k) place others others' h = refl

  abbrev read_to : Tried → ℕ → Tried
  read_to d n = record { place = d.place + 1; read = d.read + n }

  abbrev outcome_to : ℕ → Tried → Body → Found → ℕ → Outcome
  outcome_to most d b found n = if nat_lt most (d.read + n) then Fails TooFar else fitting b found

  first_as : (a : Asking) (w : List Step) (r : Items) (d : Tried) (bs : List Body) → first_applying a (map step_as w) (items_as r) d bs ≡ told_as (first_applying a w r d bs)
  first_as a w r d [] = refl
  first_as a w r d (b ∷ bs) =
      let t = next_contexts a w r d b in
      let w' = map step_as w in
      let r' = items_as r in
      ap (λ (t : Told Found). followed t (decided (outcome a.most d b t) d.place (first_applying a w' r' (after_rule d t) bs))) (contexts_as a w r d b)
      ∙ ap (λ n. followed (told_as t) (decided (outcome_to a.most d b t.answer n) d.place (first_applying a w' r' (read_to d n) bs))) (length-map t.entries entry_as)
      ∙ ap (followed (told_as t)) (decided_as (outcome a.most d b t) d.place (first_applying a w r (after_rule d t) bs) (first_applying a w' r' (after_rule d t) bs) (first_as a w r (after_rule d t) bs))
      ∙ followed_as t (decided (outcome a.most d b t) d.place (first_applying a w r (after_rule d t) bs))

  all_as : (a : Asking) (w : List Step) (r : Items) (d : Tried) (found : Result (List Applying) Fault) (bs : List Body)
      → all_applying a (map step_as w) (items_as r) d found bs ≡ told_as (all_applying a w r d found bs)
  all_as a w r d (Err k) bs = refl
  all_as a w r d (Ok found) [] = refl
  all_as a w r d (Ok found) (b ∷ bs) =
      let t = next_contexts a w r d b in
      let w' = map step_as w in
      let r' = items_as r in
      ap (λ (t : Told Found). followed t (all_applying a w' r' (after_rule d t) (found_with found d.place b (outcome a.most d b t)) bs)) (contexts_as a w r d b)
      ∙ ap (λ n. followed (told_as t) (all_applying a w' r' (read_to d n) (found_with found d.place b (outcome_to a.most d b t.answer n)) bs)) (length-map t.entries entry_as)
      ∙ ap (followed (told_as t)) (all_as a w r (after_rule d t) (found_with found d.place b (outcome a.most d b t)) bs)
      ∙ followed_as t (all_applying a w r (after_rule d t) (found_with found d.place b (outcome a.most d b t)) bs)

  pub choice_as : (a : Asking) (key : Option ℕ) (w : List Step) (r : Items) (bs : List Body) → choice a key (map step_as w) (items_as r) bs ≡ told_as (choice a key w r bs)
  choice_as a None w r bs = first_as a w r none_tried bs
  choice_as a (Some key) w r bs = ap (pick_among key) (all_as a w r none_tried (Ok []) bs)

  -- at a place of a level
  pub asked_as : (a : Asking) (key : Option ℕ) (x : List LevelSymbol) (p : ℕ) (bs : List Body)
      → choice a key (way (map symbol_as x) p) (items_from (map symbol_as x) (p + 1)) bs ≡ told_as (choice a key (way x p) (items_from x (p + 1)) bs)
  asked_as a key x p bs =
      ap (λ w. choice a key w (items_from (map symbol_as x) (p + 1)) bs) (way_as x p)
      ∙ ap (λ r. choice a key (map step_as (way x p)) r bs) (rest_as x (p + 1)) ∙ choice_as a key (way x p) (items_from x (p + 1)) bs
