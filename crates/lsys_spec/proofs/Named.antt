-- What holds of each symbol of a level holds of what the entries of a walk tell of.
use Rattle.std.proofs.Common.{◌≡◌, ℕ, zero, suc, Bool, true, false, Option, Some, None, Result, Ok, Err, List, [], ◌∷◌, ◌+◌, take, drop, refl}
use Rattle.std.specs.Prelude.{fold, reverse}
use Rattle.lsys_syntax.specs.Strings.{ModuleName}
use Rattle.lsys_spec.specs.Systems.{System, Each}
use Rattle.lsys_spec.specs.Bodies.{Body, Pattern, Patterns, Done, OneOf, BranchOf}
use Rattle.lsys_spec.specs.Levels.{ModuleValue, LevelSymbol, Push, Pop, Module, lineage, Step, Passed, Around, OutOf, Reading, restored, read, way, Items, Nothing, One, Branch, Nest, at_root, in_branch, items_here, with_module, with_open_bracket, items_of, items_from}
use Rattle.lsys_spec.specs.Walks.{Mark, deeper, Entry, Compared, Ignored, Out, Branched, Told, Found, says, is_ignored, fits, left_walk, right_walk, followed_by, ahead, or_passed}
use Rattle.lsys_spec.proofs.Meetings.{met}
use Rattle.lsys_spec.specs.Choice.{Fault, Outcome, No, Yes, Fails, Choice, Asking, Tried, none_tried, after_rule, right_after, next_contexts, outcome, decided, first_applying, Applying, found_with, all_applying, choice}
use Rattle.lsys_spec.specs.Meaning.{key_for, most_entries, asking, asked}
use Rattle.lsys_spec.specs.Questions.{question}
use Rattle.lsys_spec.proofs.Ruled.{passed_all}
use Rattle.lsys_spec.proofs.Eachs.{each_append, each_take, each_drop}

abbrev pub Has : (LevelSymbol → Type 0) → List ℕ → Type 0
Has V l = (s : LevelSymbol) × V s × (lineage s ≡ l)

-- V holds of the symbols that an entry tells of
abbrev pub OfEntry : (LevelSymbol → Type 0) → Entry → Type 0
OfEntry V (Compared d s) = V s
OfEntry V (Ignored d s) = V s
OfEntry V (Out d l) = Has V l
OfEntry V (Branched d o c) = Has V o × Has V c

abbrev pub InWay : (LevelSymbol → Type 0) → List Step → Type 0
InWay V [] = Unit {0}
InWay V (Passed s ∷ w) = V s × InWay V w
InWay V (OutOf o ∷ w) = V o × InWay V w
InWay V (Around o c ∷ w) = V o × V c × InWay V w

abbrev pub InItems : (LevelSymbol → Type 0) → Items → Type 0
InItems V Nothing = Unit {0}
InItems V (One s r) = V s × InItems V r
InItems V (Branch o c i r) = V o × V c × InItems V i × InItems V r

met_all : (V : LevelSymbol → Type 0) (b e : Bool) (d : Mark) (s : LevelSymbol) (on next : Told Found) → V s → Each (OfEntry V) on.entries → Each (OfEntry V) next.entries → Each (OfEntry V) (met b e d s on next).entries
met_all V true e d s on next h k l = (h, k)
met_all V false true d s on next h k l = (h, l)
met_all V false false d s on next h k l = (h, tt)

pub left_named : (V : LevelSymbol → Type 0) (f : ModuleName → Bool) (d : Mark) (qs : List Pattern) (w : List Step) → InWay V w → Each (OfEntry V) (left_walk f d qs w).entries
left_named V f d [] w h = tt
left_named V f d (q ∷ qs) [] h = tt
left_named V f d (q ∷ qs) (Passed s ∷ w) h =
    met_all V (is_ignored f s) (fits q s) d s (left_walk f d (q ∷ qs) w) (followed_by s (left_walk f d qs w)) h.0 (left_named V f d (q ∷ qs) w h.1) (left_named V f d qs w h.1)
left_named V f d (q ∷ qs) (OutOf o ∷ w) h = ((o, h.0, refl), left_named V f d (q ∷ qs) w h.1)
left_named V f d (q ∷ qs) (Around o c ∷ w) h = (((o, h.0, refl), (c, h.1, refl)), left_named V f d (q ∷ qs) w h.2)

pub right_named : (V : LevelSymbol → Type 0) (f : ModuleName → Bool) (d : Mark) (p : Patterns) (r : Items) → InItems V r → Each (OfEntry V) (right_walk f d p r).entries
right_named V f d Done r h = tt
right_named V f d (OneOf q p) Nothing h = tt
right_named V f d (OneOf q p) (One s r) h =
    met_all V (is_ignored f s) (fits q s) d s (right_walk f d (OneOf q p) r) (ahead s (right_walk f d p r)) h.0 (right_named V f d (OneOf q p) r h.1) (right_named V f d p r h.1)
right_named V f d (OneOf q p) (Branch o c i r) h = (((o, h.0, refl), (c, h.1, refl)), right_named V f d (OneOf q p) r h.3)
right_named V f d (BranchOf qs p) Nothing h = tt
right_named V f d (BranchOf qs p) (One s r) h =
    met_all V (is_ignored f s) false d s (right_walk f d (BranchOf qs p) r) (says None) h.0 (right_named V f d (BranchOf qs p) r h.1) tt
right_named V f d (BranchOf qs p) (Branch o c i r) h =
    let inside = right_walk f (deeper d) qs i in
    let next = or_passed inside.answer (right_walk f d p r) (right_walk f d (BranchOf qs p) r) in (
      ((o, h.0, refl), (c, h.1, refl)),
      each_append (OfEntry V) inside.entries next.entries (right_named V f (deeper d) qs i h.2)
          (passed_all (OfEntry V) inside.answer (right_walk f d p r) (right_walk f d (BranchOf qs p) r) (right_named V f d p r h.3) (right_named V f d (BranchOf qs p) r h.3)),
    )

-- ways and items of a level

abbrev InSaved : (LevelSymbol → Type 0) → List (LevelSymbol × List Step) → Type 0
InSaved V [] = Unit {0}
InSaved V (s ∷ saved) = V s.0 × InWay V s.1 × InSaved V saved

restored_in : (V : LevelSymbol → Type 0) (c : LevelSymbol) (saved : List (LevelSymbol × List Step)) → V c → InSaved V saved → InWay V (restored c saved).way × InSaved V (restored c saved).saved
restored_in V c [] h k = (tt, tt)
restored_in V c (s ∷ saved) h k = ((k.0, h, k.1), k.2)

way_in : (V : LevelSymbol → Type 0) (x : List LevelSymbol) (p : ℕ) (r : Reading) → Each V x → InWay V r.way → InSaved V r.saved → InWay V (fold read r (take p x)).way
way_in V [] zero r h k l = k
way_in V [] (suc p) r h k l = k
way_in V (s ∷ x) zero r h k l = k
way_in V (Module m n ∷ x) (suc p) r h k l = way_in V x p (read r (Module m n)) h.1 (h.0, k) l
way_in V (Push m ∷ x) (suc p) r h k l = way_in V x p (read r (Push m)) h.1 (h.0, k) (h.0, k, l)
way_in V (Pop m ∷ x) (suc p) r h k l = let g = restored_in V (Pop m) r.saved h.0 l in way_in V x p (read r (Pop m)) h.1 g.0 g.1

abbrev InNest : (LevelSymbol → Type 0) → Nest → Type 0
InNest V (at_root r) = InItems V r
InNest V (in_branch r c n) = InItems V r × V c × InNest V n

module_in : (V : LevelSymbol → Type 0) (s : LevelSymbol) (n : Nest) → V s → InNest V n → InNest V (with_module s n)
module_in V s (at_root r) h k = (h, k)
module_in V s (in_branch r c n) h k = ((h, k.0), k.1, k.2)

opened_in : (V : LevelSymbol → Type 0) (o : LevelSymbol) (n : Nest) → V o → InNest V n → InNest V (with_open_bracket o n)
opened_in V o (at_root r) h k = (h, h, k, tt)
opened_in V o (in_branch r c (at_root r')) h k = (h, k.1, k.0, k.2)
opened_in V o (in_branch r c (in_branch r' c' n)) h k = ((h, k.1, k.0, k.2.0), k.2.1, k.2.2)

items_in : (V : LevelSymbol → Type 0) (x : List LevelSymbol) → Each V x → InNest V (items_of x)
items_in V [] h = tt
items_in V (Module l m ∷ x) h = module_in V (Module l m) (items_of x) h.0 (items_in V x h.1)
items_in V (Push l ∷ x) h = opened_in V (Push l) (items_of x) h.0 (items_in V x h.1)
items_in V (Pop l ∷ x) h = (tt, h.0, items_in V x h.1)

innermost_in : (V : LevelSymbol → Type 0) (n : Nest) → InNest V n → InItems V (items_here n)
innermost_in V (at_root r) h = h
innermost_in V (in_branch r c n) h = h.0

pub level_way : (V : LevelSymbol → Type 0) (x : List LevelSymbol) (p : ℕ) → Each V x → InWay V (way x p)
level_way V x p h = way_in V x p (record { way = []; saved = [] }) h tt tt

pub level_items : (V : LevelSymbol → Type 0) (x : List LevelSymbol) (p : ℕ) → Each V x → InItems V (items_from x p)
level_items V x p h = innermost_in V (items_of (drop p x)) (items_in V (drop p x) (each_drop V p x h))

-- the rules of a group

after_named : (V : LevelSymbol → Type 0) (f : ModuleName → Bool) (d : Mark) (b : Body) (own : ModuleValue) (r : Items) (o : Found) → InItems V r → Each (OfEntry V) (right_after f d b own r o).entries
after_named V f d b own r None h = tt
after_named V f d b own r (Some ms) h = right_named V f d b.right r h

next_named : (V : LevelSymbol → Type 0) (a : Asking) (w : List Step) (r : Items) (d : Tried) (b : Body) → InWay V w → InItems V r → Each (OfEntry V) (next_contexts a w r d b).entries
next_named V a w r d b h k =
    let m : Mark = record { rule = d.place; depth = 0 } in
    let l : Told Found = left_walk a.ignored m (reverse b.left) w in
    each_append (OfEntry V) l.entries (right_after a.ignored m b a.own r l.answer).entries (left_named V a.ignored m (reverse b.left) w h) (after_named V a.ignored m b a.own r l.answer k)

decided_named : (V : LevelSymbol → Type 0) (o : Outcome) (place : ℕ) (others : Told Choice) → Each (OfEntry V) others.entries → Each (OfEntry V) (decided o place others).entries
decided_named V No place others h = h
decided_named V (Yes values) place others h = tt
decided_named V (Fails k) place others h = tt

first_named : (V : LevelSymbol → Type 0) (a : Asking) (w : List Step) (r : Items) (d : Tried) (bs : List Body) → InWay V w → InItems V r → Each (OfEntry V) (first_applying a w r d bs).entries
first_named V a w r d [] h k = tt
first_named V a w r d (b ∷ bs) h k =
    let t : Told Found = next_contexts a w r d b in
    let others : Told Choice = first_applying a w r (after_rule d t) bs in
    each_append (OfEntry V) t.entries (decided (outcome a.most d b t) d.place others).entries (next_named V a w r d b h k)
    (decided_named V (outcome a.most d b t) d.place others (first_named V a w r (after_rule d t) bs h k))

all_named : (V : LevelSymbol → Type 0) (a : Asking) (w : List Step) (r : Items) (d : Tried) (found : Result (List Applying) Fault) (bs : List Body) → InWay V w → InItems V r
    → Each (OfEntry V) (all_applying a w r d found bs).entries
all_named V a w r d (Err e) bs h k = tt
all_named V a w r d (Ok found) [] h k = tt
all_named V a w r d (Ok found) (b ∷ bs) h k =
    let t : Told Found = next_contexts a w r d b in
    let more : Result (List Applying) Fault = found_with found d.place b (outcome a.most d b t) in
    each_append (OfEntry V) t.entries (all_applying a w r (after_rule d t) more bs).entries (next_named V a w r d b h k) (all_named V a w r (after_rule d t) more bs h k)

choice_named : (V : LevelSymbol → Type 0) (a : Asking) (key : Option ℕ) (w : List Step) (r : Items) (bs : List Body) → InWay V w → InItems V r → Each (OfEntry V) (choice a key w r bs).entries
choice_named V a None w r bs h k = first_named V a w r none_tried bs h k
choice_named V a (Some key) w r bs h k = all_named V a w r none_tried (Ok []) bs h k

pub trace_of : (V : LevelSymbol → Type 0) (s : System) (t : ℕ) (bs : List Body) (x : List LevelSymbol) (p : ℕ) (l : List ℕ) (m : ModuleValue) → Each V x → Each (OfEntry V) (question s t bs x p l m).trace
trace_of V s t bs x p l m h =
    each_take (OfEntry V) (most_entries + 1) (asked s t bs x p l m).entries
    (choice_named V (asking s t m) (key_for s l bs) (way x p) (items_from x (p + 1)) bs (level_way V x p h) (level_items V x (p + 1) h))
