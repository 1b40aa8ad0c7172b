-- The walks answer what the contexts find.
use Rattle.std.proofs.Common.{◌≡◌, ℕ, zero, suc, List, [], ◌∷◌, ◌++◌, ◌+◌, ◌-◌, length, take, drop, Bool, true, false, cond, ◌&&◌, Some, None, refl, ap, sym, ◌∙◌, arith}
use Rattle.std.specs.Prelude.{option_map, fold, reverse}
use Rattle.std.proofs.lemmas.List.{drop-append-le, drop_all, length_push, reverse-append, reverse-reverse}
use Rattle.std.proofs.Math.Bool.{and_assoc, and-false, and-true}
use Rattle.lsys_syntax.specs.Strings.{ModuleName}
use Rattle.lsys_spec.specs.Bodies.{Body, Pattern, Patterns, Done, OneOf, BranchOf}
use Rattle.lsys_spec.specs.Levels.{ModuleValue, LevelSymbol, Push, Pop, Module, Step, Passed, Around, OutOf, Reading, restored, read, way, items_from, Items, Nothing, One, Branch}
use Rattle.lsys_spec.specs.Walks.{Mark, deeper, Told, Found, modules, is_ignored, fits, says, followed_by, ahead, or_passed, left_walk, right_walk}
use Rattle.lsys_spec.proofs.Meetings.{met}
use Rattle.lsys_spec.specs.Choice.{right_after, contexts}
use Rattle.lsys_spec.specs.Contexts.{Paths, given_back, unless_ignored, read_path, path, suits, all_suit, last, where_true, left, inner_or, right, around}

met_answer : (b e : Bool) (d : Mark) (s : LevelSymbol) (on next : Told Found) → (met b e d s on next).answer ≡ cond b on.answer (cond e next.answer None)
met_answer true e d s on next = refl
met_answer false true d s on next = refl
met_answer false false d s on next = refl

passed_answer : (o : Found) (after passed : Told Found) → (or_passed o after passed).answer ≡ inner_or o after.answer passed.answer
passed_answer None after passed = refl
passed_answer (Some ms) after passed = refl

pub right_is : (f : ModuleName → Bool) (d : Mark) (p : Patterns) (r : Items) → (right_walk f d p r).answer ≡ right f p r
right_is f d Done r = refl
right_is f d (OneOf q p) Nothing = refl
right_is f d (OneOf q p) (Branch o c i r) = right_is f d (OneOf q p) r
right_is f d (OneOf q p) (One s r) =
    met_answer (is_ignored f s) (fits q s) d s (right_walk f d (OneOf q p) r) (ahead s (right_walk f d p r))
    ∙ ap (λ a. cond (is_ignored f s) a (cond (fits q s) (option_map (λ ms. modules s ++ ms) (right_walk f d p r).answer) None)) (right_is f d (OneOf q p) r)
    ∙ ap (λ a. cond (is_ignored f s) (right f (OneOf q p) r) (cond (fits q s) (option_map (λ ms. modules s ++ ms) a) None)) (right_is f d p r)
right_is f d (BranchOf qs p) Nothing = refl
right_is f d (BranchOf qs p) (One s r) =
    met_answer (is_ignored f s) false d s (right_walk f d (BranchOf qs p) r) (says None)
    ∙ ap (λ a. cond (is_ignored f s) a None) (right_is f d (BranchOf qs p) r)
right_is f d (BranchOf qs p) (Branch o c i r) =
    passed_answer (right_walk f (deeper d) qs i).answer (right_walk f d p r) (right_walk f d (BranchOf qs p) r)
    ∙ ap (λ a. inner_or a (right_walk f d p r).answer (right_walk f d (BranchOf qs p) r).answer) (right_is f (deeper d) qs i)
    ∙ ap (λ a. inner_or (right f qs i) a (right_walk f d (BranchOf qs p) r).answer) (right_is f d p r)
    ∙ ap (λ a. inner_or (right f qs i) (right f p r) a) (right_is f d (BranchOf qs p) r)

-- what is passed on a way are modules

abbrev Passes : List Step → Type 0
Passes [] = Unit {0}
Passes (Passed (Module l m) ∷ w) = Passes w
Passes (Passed (Push l) ∷ w) = ⊥
Passes (Passed (Pop l) ∷ w) = ⊥
Passes (Around o c ∷ w) = Passes w
Passes (OutOf o ∷ w) = Passes w

abbrev SavedPass : List (LevelSymbol × List Step) → Type 0
SavedPass [] = Unit {0}
SavedPass (s ∷ saved) = Passes s.1 × SavedPass saved

reads_modules : (x : List LevelSymbol) (p : ℕ) (r : Reading) → Passes r.way → SavedPass r.saved → Passes (fold read r (take p x)).way
reads_modules [] zero r h k = h
reads_modules [] (suc p) r h k = h
reads_modules (s ∷ x) zero r h k = h
reads_modules (Module l m ∷ x) (suc p) r h k = reads_modules x p (read r (Module l m)) h k
reads_modules (Push l ∷ x) (suc p) r h k = reads_modules x p (read r (Push l)) h (h, k)
reads_modules (Pop l ∷ x) (suc p) r h k = back r.saved k (reads_modules x p)
  where
    back : (saved : List (LevelSymbol × List Step)) → SavedPass saved → ((r : Reading) → Passes r.way → SavedPass r.saved → Passes (fold read r (take p x)).way)
        → Passes (fold read (restored (Pop l) saved) (take p x)).way
    back [] k go = go (restored (Pop l) []) tt tt
    back (s ∷ saved) k go = go (restored (Pop l) (s ∷ saved)) k.0 k.1

-- the path is what stands on the way and isn't ignored

abbrev pub path_of : (ModuleName → Bool) → List Step → List ModuleValue
path_of f [] = []
path_of f (Passed (Module l m) ∷ w) = unless_ignored (f m.name) m (path_of f w)
path_of f (Passed (Push l) ∷ w) = path_of f w
path_of f (Passed (Pop l) ∷ w) = path_of f w
path_of f (OutOf o ∷ w) = path_of f w
path_of f (Around o c ∷ w) = path_of f w

abbrev saved_paths : (ModuleName → Bool) → List (LevelSymbol × List Step) → List (List ModuleValue)
saved_paths f [] = []
saved_paths f (s ∷ saved) = path_of f s.1 ∷ saved_paths f saved

abbrev paths : (ModuleName → Bool) → Reading → Paths
paths f r = record { path = path_of f r.way; saved = saved_paths f r.saved }

given_back_is : (f : ModuleName → Bool) (c : LevelSymbol) (saved : List (LevelSymbol × List Step)) → given_back (saved_paths f saved) ≡ paths f (restored c saved)
given_back_is f c [] = refl
given_back_is f c (s ∷ saved) = refl

reads_on : (f : ModuleName → Bool) (x : List LevelSymbol) (p : ℕ) (r : Reading) → fold (read_path f) (paths f r) (take p x) ≡ paths f (fold read r (take p x))
reads_on f [] zero r = refl
reads_on f [] (suc p) r = refl
reads_on f (s ∷ x) zero r = refl
reads_on f (Module l m ∷ x) (suc p) r = reads_on f x p (read r (Module l m))
reads_on f (Push l ∷ x) (suc p) r = reads_on f x p (read r (Push l))
reads_on f (Pop l ∷ x) (suc p) r = ap (λ t. fold (read_path f) t (take p x)) (given_back_is f (Pop l) r.saved) ∙ reads_on f x p (read r (Pop l))

path_is : (f : ModuleName → Bool) (x : List LevelSymbol) (p : ℕ) → path f x p ≡ path_of f (way x p)
path_is f x p = ap (λ (r : Paths). r.path) (reads_on f x p (record { way = []; saved = [] }))

-- a left context from its last pattern

none_suit : (ms : List ModuleValue) (m : ModuleValue) → all_suit [] (ms ++ m ∷ []) ≡ false
none_suit [] m = refl
none_suit (a ∷ ms) m = refl

suit_none : (qs : List Pattern) (q : Pattern) → all_suit (qs ++ q ∷ []) [] ≡ false
suit_none [] q = refl
suit_none (b ∷ qs) q = refl

all_suit_push : (qs : List Pattern) (ms : List ModuleValue) (q : Pattern) (m : ModuleValue) → all_suit (qs ++ q ∷ []) (ms ++ m ∷ []) ≡ all_suit qs ms && suits q m
all_suit_push [] [] q m = and-true (suits q m)
all_suit_push [] (a ∷ ms) q m = rw (none_suit ms m) (and-false (suits q a))
all_suit_push (b ∷ qs) [] q m = rw (suit_none qs q) (and-false (suits b m))
all_suit_push (b ∷ qs) (a ∷ ms) q m = ap (λ t. suits b a && t) (all_suit_push qs ms q m) ∙ sym (and_assoc (suits b a) (all_suit qs ms) (suits q m))

last_push : (k : ℕ) (ms : List ModuleValue) (m : ModuleValue) → last (k + 1) (ms ++ m ∷ []) ≡ last k ms ++ m ∷ []
last_push k ms m =
    let fewer : length (ms ++ m ∷ []) - (k + 1) ≡ length ms - k = omega (arith, length_push ms m) in
    ap (λ n. drop n (ms ++ m ∷ [])) fewer ∙ drop-append-le (length ms - k) ms (m ∷ []) (omega arith)

both_true : (a b : Bool) (ms : List ModuleValue) (m : ModuleValue) → where_true (a && b) (ms ++ m ∷ []) ≡ cond b (option_map (λ ms. ms ++ m ∷ []) (where_true a ms)) None
both_true true true ms m = refl
both_true true false ms m = refl
both_true false true ms m = refl
both_true false false ms m = refl

left_push : (qs : List Pattern) (ms : List ModuleValue) (q : Pattern) (m : ModuleValue) → left (qs ++ q ∷ []) (ms ++ m ∷ []) ≡ cond (suits q m) (option_map (λ ms. ms ++ m ∷ []) (left qs ms)) None
left_push qs ms q m =
    ap (λ k. where_true (all_suit (qs ++ q ∷ []) (last k (ms ++ m ∷ []))) (last k (ms ++ m ∷ []))) (length_push qs q)
    ∙ ap (λ t. where_true (all_suit (qs ++ q ∷ []) t) t) (last_push (length qs) ms m)
    ∙ ap (λ b. where_true b (last (length qs) ms ++ m ∷ [])) (all_suit_push qs (last (length qs) ms) q m)
    ∙ both_true (all_suit qs (last (length qs) ms)) (suits q m) (last (length qs) ms) m

left_none : (ms : List ModuleValue) → left [] ms ≡ Some []
left_none ms = ap (λ t. where_true (all_suit [] t) t) (drop_all (length ms - 0) ms (omega arith))

left_start : (qs : List Pattern) (q : Pattern) → left (qs ++ q ∷ []) [] ≡ None
left_start qs q =
    let none : 0 - length (qs ++ q ∷ []) ≡ 0 = omega arith in
    ap (λ n. where_true (all_suit (qs ++ q ∷ []) (drop n [])) (drop n [])) none ∙ ap (λ b. where_true b []) (suit_none qs q)

one_left : (b e : Bool) (qs : List Pattern) (ms : List ModuleValue) (q : Pattern) (m : ModuleValue) → suits q m ≡ e
    → left (qs ++ q ∷ []) (unless_ignored b m ms) ≡ cond b (left (qs ++ q ∷ []) ms) (cond e (option_map (λ ms. ms ++ m ∷ []) (left qs ms)) None)
one_left true e qs ms q m h = refl
one_left false e qs ms q m h = left_push qs ms q m ∙ ap (λ e. cond e (option_map (λ ms. ms ++ m ∷ []) (left qs ms)) None) h

turned : (q : Pattern) (qs : List Pattern) → reverse (q ∷ qs) ≡ reverse qs ++ q ∷ []
turned q qs = reverse-append (q ∷ []) qs

left_of : (f : ModuleName → Bool) (d : Mark) (qs : List Pattern) (w : List Step) → Passes w → (left_walk f d qs w).answer ≡ left (reverse qs) (path_of f w)
left_of f d [] w h = sym (left_none (path_of f w))
left_of f d (q ∷ qs) [] h = sym (ap (λ t. left t []) (turned q qs) ∙ left_start (reverse qs) q)
left_of f d (q ∷ qs) (OutOf o ∷ w) h = left_of f d (q ∷ qs) w h
left_of f d (q ∷ qs) (Around o c ∷ w) h = left_of f d (q ∷ qs) w h
left_of f d (q ∷ qs) (Passed (Push l) ∷ w) h = elim h [ ]
left_of f d (q ∷ qs) (Passed (Pop l) ∷ w) h = elim h [ ]
left_of f d (q ∷ qs) (Passed (Module l m) ∷ w) h =
    met_answer (f m.name) (suits q m) d (Module l m) (left_walk f d (q ∷ qs) w) (followed_by (Module l m) (left_walk f d qs w))
    ∙ ap (λ a. cond (f m.name) a (cond (suits q m) (option_map (λ ms. ms ++ m ∷ []) (left_walk f d qs w).answer) None)) (left_of f d (q ∷ qs) w h ∙ ap (λ t. left t (path_of f w)) (turned q qs))
    ∙ ap (λ a. cond (f m.name) (left (reverse qs ++ q ∷ []) (path_of f w)) (cond (suits q m) (option_map (λ ms. ms ++ m ∷ []) a) None)) (left_of f d qs w h)
    ∙ sym (one_left (f m.name) (suits q m) (reverse qs) (path_of f w) q m refl)
    ∙ ap (λ t. left t (unless_ignored (f m.name) m (path_of f w))) (sym (turned q qs))

-- patterns in the order of the text
pub left_is : (f : ModuleName → Bool) (d : Mark) (qs : List Pattern) (x : List LevelSymbol) (p : ℕ) → (left_walk f d (reverse qs) (way x p)).answer ≡ left qs (path f x p)
left_is f d qs x p =
    left_of f d (reverse qs) (way x p) (reads_modules x p (record { way = []; saved = [] }) tt tt)
    ∙ ap (λ t. left t (path_of f (way x p))) (reverse-reverse qs) ∙ ap (left qs) (sym (path_is f x p))

after_is : (f : ModuleName → Bool) (d : Mark) (b : Body) (own : ModuleValue) (r : Items) (o : Found) → (right_after f d b own r o).answer ≡ around o own (right f b.right r)
after_is f d b own r None = refl
after_is f d b own r (Some ms) = ap (option_map (λ more. (ms ++ own ∷ []) ++ more)) (right_is f d b.right r)

pub contexts_are : (f : ModuleName → Bool) (d : Mark) (b : Body) (own : ModuleValue) (x : List LevelSymbol) (p : ℕ)
    → (contexts f d b own (way x p) (items_from x (p + 1))).answer ≡ around (left b.left (path f x p)) own (right f b.right (items_from x (p + 1)))
contexts_are f d b own x p =
    let r : Items = items_from x (p + 1) in
    after_is f d b own r (left_walk f d (reverse b.left) (way x p)).answer ∙ ap (λ o. around o own (right f b.right r)) (left_is f d b.left x p)
