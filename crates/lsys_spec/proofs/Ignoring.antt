-- Names that are ignored alike on a level make no difference to it.
use Rattle.std.proofs.Common.{◌≡◌, ℕ, zero, suc, ◌+◌, Bool, true, false, List, [], ◌∷◌, ◌++◌, length, take, drop, bytes_eq, if◌then◌else◌, refl, ap, ◌∙◌, true≢false}
use Rattle.std.specs.Prelude.{Some, None, Ok, fold}
use Rattle.lsys_syntax.specs.Strings.{ModuleName}
use Rattle.lsys_spec.specs.Systems.{System, Own, Each, same_name}
use Rattle.lsys_spec.specs.Values.{◌and_then◌}
use Rattle.lsys_spec.specs.Bodies.{Body, Pattern, Patterns, Done, OneOf, BranchOf, table_at, group, filter_in, filter}
use Rattle.lsys_spec.specs.Levels.{ModuleValue, LevelSymbol, Push, Pop, Module, Step, Passed, Around, OutOf, Reading, restored, read, way, Items, Nothing, One, Branch, Nest, at_root, in_branch, items_here, with_module, with_whole_branch, with_open_bracket, items_of, items_from}
use Rattle.lsys_spec.specs.Walks.{Mark, deeper, Told, Found, says, before, followed, is_ignored, fits, followed_by, left_walk, ahead, joined, or_passed, right_walk}
use Rattle.lsys_spec.proofs.Meetings.{met}
use Rattle.lsys_spec.specs.Choice.{right_after}
use Rattle.lsys_spec.specs.Cuts.{cut}
use Rattle.lsys_syntax.specs.Commands.{ListKind, to_ignore}
use Rattle.lsys_syntax.specs.Strings as S
use Rattle.lsys_spec.specs.Meaning.{children, key_for, most_entries, ignores, ignored_by, asking, asked, successor_by, successor, fault_at, children_from, next_level}
use Rattle.lsys_spec.specs.Questions.{Question, question, where_any, questions_from, questions_at}
use Rattle.lsys_spec.specs.Morphisms.{IsAlike, AreAlike, ignoring, occurs}
use Rattle.lsys_spec.proofs.SameGroups.{FindSame, choice_same}

module _ (f g : ModuleName → Bool) where
  ignored_same : (s : LevelSymbol) → IsAlike f g s → is_ignored f s ≡ is_ignored g s
  ignored_same (Module l m) h = h
  ignored_same (Push l) h = refl
  ignored_same (Pop l) h = refl

  abbrev StepAlike : Step → Type 0
  StepAlike (Passed s) = IsAlike f g s
  StepAlike (Around o c) = Unit {0}
  StepAlike (OutOf o) = Unit {0}

  abbrev ItemsAlike : Items → Type 0
  ItemsAlike Nothing = Unit {0}
  ItemsAlike (One s r) = IsAlike f g s × ItemsAlike r
  ItemsAlike (Branch o c inner r) = ItemsAlike inner × ItemsAlike r

  met_same : (i j b : Bool) (d : Mark) (s : LevelSymbol) (on go next past : Told Found)
      → i ≡ j → on ≡ go → next ≡ past → met i b d s on next ≡ met j b d s go past
  met_same i j b d s on go next past e h k = cc

  left_same : (d : Mark) (qs : List Pattern) (w : List Step) → Each StepAlike w → left_walk f d qs w ≡ left_walk g d qs w
  left_same d [] w h = refl
  left_same d (q ∷ qs) [] h = refl
  left_same d (q ∷ qs) (Around o c ∷ w) h = ap (before _) (left_same d (q ∷ qs) w h.1)
  left_same d (q ∷ qs) (OutOf o ∷ w) h = ap (before _) (left_same d (q ∷ qs) w h.1)
  left_same d (q ∷ qs) (Passed s ∷ w) h =
      met_same _ _ (fits q s) d s _ _ _ _ (ignored_same s h.0) (left_same d (q ∷ qs) w h.1) (ap (followed_by s) (left_same d qs w h.1))

  branch_same : (inside outside both all passed past : Told Found)
      → inside ≡ outside → both ≡ all → passed ≡ past
      → followed inside (or_passed inside.answer both passed) ≡ followed outside (or_passed outside.answer all past)
  branch_same inside outside both all passed past e h k =
      ap (λ t. followed t (or_passed t.answer both passed)) e
      ∙ ap (λ t. followed outside (or_passed outside.answer t passed)) h
      ∙ ap (λ t. followed outside (or_passed outside.answer all t)) k

  right_same : (d : Mark) (p : Patterns) (r : Items) → ItemsAlike r → right_walk f d p r ≡ right_walk g d p r
  right_same d Done r h = refl
  right_same d (OneOf q p) Nothing h = refl
  right_same d (OneOf q p) (Branch o c inner r) h = ap (before _) (right_same d (OneOf q p) r h.1)
  right_same d (OneOf q p) (One s r) h =
      met_same _ _ (fits q s) d s _ _ _ _ (ignored_same s h.0) (right_same d (OneOf q p) r h.1) (ap (ahead s) (right_same d p r h.1))
  right_same d (BranchOf qs p) Nothing h = refl
  right_same d (BranchOf qs p) (One s r) h =
      met_same _ _ false d s _ _ (says None) (says None) (ignored_same s h.0) (right_same d (BranchOf qs p) r h.1) refl
  right_same d (BranchOf qs p) (Branch o c inner r) h =
      ap (before _) (branch_same _ _ _ _ _ _ (right_same (deeper d) qs inner h.0) (right_same d p r h.1) (right_same d (BranchOf qs p) r h.1))

  after_same : (d : Mark) (b : Body) (own : ModuleValue) (r : Items) (o : Found)
      → ItemsAlike r → right_after f d b own r o ≡ right_after g d b own r o
  after_same d b own r None h = refl
  after_same d b own r (Some ms) h = ap (joined (ms ++ own ∷ [])) (right_same d b.right r h)

  told_same : (t u : Told Found) (go on : Found → Told Found)
      → t ≡ u → ((o : Found) → go o ≡ on o) → followed t (go t.answer) ≡ followed u (on u.answer)
  told_same t u go on e h = ap (λ v. followed v (go v.answer)) e ∙ ap (followed u) (h u.answer)

  contexts_same : (own : ModuleValue) (w : List Step) (r : Items) (b : Body) → Each StepAlike w → ItemsAlike r → FindSame f g own w w r r b
  contexts_same own w r b h k d =
      told_same _ _ (right_after f d b own r) (right_after g d b own r) (left_same d _ w h) (λ o. after_same d b own r o k)

  all_same : (own : ModuleValue) (w : List Step) (r : Items) (bs : List Body) → Each StepAlike w → ItemsAlike r → Each (FindSame f g own w w r r) bs
  all_same own w r [] h k = tt
  all_same own w r (b ∷ bs) h k = (contexts_same own w r b h k, all_same own w r bs h k)

  -- the way and the rest hold symbols of the level alone
  abbrev SavedAlike : LevelSymbol × List Step → Type 0
  SavedAlike s = Each StepAlike s.1

  abbrev ReadingAlike : Reading → Type 0
  ReadingAlike r = Each StepAlike r.way × Each SavedAlike r.saved

  restored_alike : (c : LevelSymbol) (saved : List (LevelSymbol × List Step)) → Each SavedAlike saved → ReadingAlike (restored c saved)
  restored_alike c [] h = (tt, tt)
  restored_alike c (s ∷ saved) h = ((tt, h.0), h.1)

  read_alike : (r : Reading) (s : LevelSymbol) → ReadingAlike r → IsAlike f g s → ReadingAlike (read r s)
  read_alike r (Module l m) h k = ((k, h.0), h.1)
  read_alike r (Push l) h k = ((tt, h.0), (h.0, h.1))
  read_alike r (Pop l) h k = restored_alike (Pop l) r.saved h.1

  fold_alike : (x : List LevelSymbol) (r : Reading) → ReadingAlike r → AreAlike f g x → ReadingAlike (fold read r x)
  fold_alike [] r h k = h
  fold_alike (s ∷ x) r h k = fold_alike x (read r s) (read_alike r s h k.0) k.1

  take_alike : (x : List LevelSymbol) (p : ℕ) → AreAlike f g x → AreAlike f g (take p x)
  take_alike x zero h = tt
  take_alike [] (suc p) h = tt
  take_alike (s ∷ x) (suc p) h = (h.0, take_alike x p h.1)

  drop_alike : (x : List LevelSymbol) (p : ℕ) → AreAlike f g x → AreAlike f g (drop p x)
  drop_alike x zero h = h
  drop_alike [] (suc p) h = tt
  drop_alike (s ∷ x) (suc p) h = drop_alike x p h.1

  way_alike : (x : List LevelSymbol) (p : ℕ) → AreAlike f g x → Each StepAlike (way x p)
  way_alike x p h = (fold_alike (take p x) _ (tt, tt) (take_alike x p h)).0

  abbrev NestAlike : Nest → Type 0
  NestAlike (at_root r) = ItemsAlike r
  NestAlike (in_branch r c n) = ItemsAlike r × NestAlike n

  module_alike : (s : LevelSymbol) (n : Nest) → IsAlike f g s → NestAlike n → NestAlike (with_module s n)
  module_alike s (at_root r) h k = (h, k)
  module_alike s (in_branch r c n) h k = ((h, k.0), k.1)

  branch_alike : (o c : LevelSymbol) (inner : Items) (n : Nest) → ItemsAlike inner → NestAlike n → NestAlike (with_whole_branch o c inner n)
  branch_alike o c inner (at_root r) h k = (h, k)
  branch_alike o c inner (in_branch r d n) h k = ((h, k.0), k.1)

  opened_alike : (o : LevelSymbol) (n : Nest) → NestAlike n → NestAlike (with_open_bracket o n)
  opened_alike o (at_root inner) h = (h, tt)
  opened_alike o (in_branch inner c n) h = branch_alike o c inner n h.0 h.1

  nest_alike : (x : List LevelSymbol) → AreAlike f g x → NestAlike (items_of x)
  nest_alike [] h = tt
  nest_alike (Module l m ∷ x) h = module_alike (Module l m) (items_of x) h.0 (nest_alike x h.1)
  nest_alike (Push l ∷ x) h = opened_alike (Push l) (items_of x) (nest_alike x h.1)
  nest_alike (Pop l ∷ x) h = (tt, nest_alike x h.1)

  innermost_alike : (n : Nest) → NestAlike n → ItemsAlike (items_here n)
  innermost_alike (at_root r) h = h
  innermost_alike (in_branch r c n) h = h.0

  items_alike : (x : List LevelSymbol) (p : ℕ) → AreAlike f g x → ItemsAlike (items_from x p)
  items_alike x p h = innermost_alike (items_of (drop p x)) (nest_alike (drop p x) (drop_alike x p h))

-- Where a table has no list of its own, the ignored names are told by.
kind_same : (k : ListKind) (ns : List ModuleName) (x : List LevelSymbol) → AreAlike (ignored_by (record { kind = k; names = ns })) (ignored_by (record { kind = k; names = ns })) x
kind_same k ns [] = tt
kind_same k ns (Module l m ∷ x) = (refl, kind_same k ns x)
kind_same k ns (Push l ∷ x) = (tt, kind_same k ns x)
kind_same k ns (Pop l ∷ x) = (tt, kind_same k ns x)

names_alike : (a b : List ModuleName) (x : List LevelSymbol) → AreAlike (ignores a) (ignores b) x → AreAlike (ignored_by (record { kind = to_ignore; names = a })) (ignored_by (record { kind = to_ignore; names = b })) x
names_alike a b [] h = tt
names_alike a b (Module l m ∷ x) h = (h.0, names_alike a b x h.1)
names_alike a b (Push l ∷ x) h = (tt, names_alike a b x h.1)
names_alike a b (Pop l ∷ x) h = (tt, names_alike a b x h.1)

lists_alike : (table : List ℕ) (own : List Own) (a b : List ModuleName) (x : List LevelSymbol) → AreAlike (ignores a) (ignores b) x → AreAlike (ignored_by (filter_in table own a)) (ignored_by (filter_in table own b)) x
lists_alike table [] a b x h = names_alike a b x h
lists_alike table (o ∷ os) a b x h = by (bytes_eq o.table table) (lists_alike table os a b x h)
  where
    by : (c : Bool) → AreAlike (ignored_by (filter_in table os a)) (ignored_by (filter_in table os b)) x
        → AreAlike (ignored_by (if c then record { kind = o.kind; names = o.names } else filter_in table os a)) (ignored_by (if c then record { kind = o.kind; names = o.names } else filter_in table os b)) x
    by true g = kind_same o.kind o.names x
    by false g = g

module _ (s : System) (names : List ModuleName) (x : List LevelSymbol) (alike : AreAlike (ignores names) (ignores s.ignored) x) where
  filters_alike : (t : ℕ) → AreAlike (ignored_by (filter (ignoring names s) t)) (ignored_by (filter s t)) x
  filters_alike t = lists_alike (table_at s.schedule t) s.own names s.ignored x alike

  asked_same : (t : ℕ) (bs : List Body) (p : ℕ) (l : List ℕ) (m : ModuleValue) → asked (ignoring names s) t bs x p l m ≡ asked s t bs x p l m
  asked_same t bs p l m =
      choice_same (asking (ignoring names s) t m) (ignored_by (filter s t)) (way x p) (way x p) (items_from x (p + 1)) (items_from x (p + 1)) (key_for s l bs) bs
      (all_same _ _ m (way x p) (items_from x (p + 1)) bs (way_alike _ _ x p (filters_alike t)) (items_alike _ _ x (p + 1) (filters_alike t)))

  successor_same : (t p : ℕ) (l : List ℕ) (m : ModuleValue) → successor (ignoring names s) t x p l m ≡ successor s t x p l m
  successor_same t p l m =
      let bs = group s t m.name (length m.params) in ap (λ o. successor_by bs m o.answer) (asked_same t bs p l m)

  children_same : (t p n : ℕ) (rest : List LevelSymbol) → children_from (ignoring names s) t x p n rest ≡ children_from s t x p n rest
  children_same t p n [] = refl
  children_same t p n (Push l ∷ rest) = ap (λ r. r and_then λ more. Ok (children s.numbering l (S.Push ∷ []) ++ more)) (children_same t (p + 1) n rest)
  children_same t p n (Pop l ∷ rest) = ap (λ r. r and_then λ more. Ok (children s.numbering l (S.Pop ∷ []) ++ more)) (children_same t (p + 1) n rest)
  children_same t p n (Module l m ∷ rest) =
      ap (λ a. fault_at t (n + 1) a and_then λ ys. children_from (ignoring names s) t x (p + 1) (n + 1) rest and_then λ more. Ok (children s.numbering l ys ++ more)) (successor_same t p l m)
      ∙ ap (λ r. fault_at t (n + 1) (successor s t x p l m) and_then λ ys. r and_then λ more. Ok (children s.numbering l ys ++ more)) (children_same t (p + 1) (n + 1) rest)

  pub level_same : (t : ℕ) → next_level (ignoring names s) t x ≡ next_level s t x
  level_same t = ap (λ r. r and_then λ raw. Ok (cut raw)) (children_same t 0 0 x)

  question_same : (t : ℕ) (bs : List Body) (p : ℕ) (l : List ℕ) (m : ModuleValue) → question (ignoring names s) t bs x p l m ≡ question s t bs x p l m
  question_same t bs p l m =
      ap (λ o. record { level = t; own = Module l m; bodies = bs; key = key_for s l bs; trace = take (most_entries + 1) o.entries }) (asked_same t bs p l m)

  any_same : (bs : List Body) (q r : Question) (qs rs : List Question) → q ≡ r → qs ≡ rs → where_any bs q qs ≡ where_any bs r rs
  any_same bs q r qs rs e k = cc

  from_same : (t p : ℕ) (rest : List LevelSymbol) → questions_from (ignoring names s) t x p rest ≡ questions_from s t x p rest
  from_same t p [] = refl
  from_same t p (Push l ∷ rest) = from_same t (p + 1) rest
  from_same t p (Pop l ∷ rest) = from_same t (p + 1) rest
  from_same t p (Module l m ∷ rest) =
      let bs = group s t m.name (length m.params) in
      any_same bs _ _ _ _ (question_same t bs p l m) (from_same t (p + 1) rest)

  pub questions_same : (t : ℕ) → questions_at (ignoring names s) t x ≡ questions_at s t x
  questions_same t = from_same t 0 x

-- a name that doesn't occur

test_false : (b c : Bool) → b ≡ false → elim b [ true ↦ true | false ↦ c ] ≡ c
test_false true c h = absurd (true≢false h)
test_false false c h = refl

both_false : (b c : Bool) → elim b [ true ↦ true | false ↦ c ] ≡ false → (b ≡ false) × (c ≡ false)
both_false true c h = absurd (true≢false h)
both_false false c h = (refl, h)

pub absent_alike : (n : ModuleName) (names : List ModuleName) (x : List LevelSymbol) → occurs n x ≡ false → AreAlike (ignores (n ∷ names)) (ignores names) x
absent_alike n names [] h = tt
absent_alike n names (Push l ∷ x) h = (tt, absent_alike n names x h)
absent_alike n names (Pop l ∷ x) h = (tt, absent_alike n names x h)
absent_alike n names (Module l m ∷ x) h =
    let neither = both_false (same_name n m.name) (occurs n x) h in
    (test_false (same_name n m.name) (ignores names m.name) neither.0, absent_alike n names x neither.1)
