-- What a walk read tells where it ended and what it answered.
use Rattle.std.proofs.Common.{◌≡◌, ◌<◌, Bool, true, false, Some, None, List, [], ◌∷◌, ◌++◌, append_assoc, refl, ap, sym, ◌∙◌, subst, arith}
use Rattle.std.specs.Prelude.{option_map}
use Rattle.lsys_syntax.specs.Strings.{ModuleName}
use Rattle.lsys_spec.specs.Bodies.{Pattern, Patterns, Done, OneOf, BranchOf}
use Rattle.lsys_spec.specs.Levels.{ModuleValue, LevelSymbol, lineage, Step, Passed, Around, OutOf, Items, Nothing, One, Branch}
use Rattle.lsys_spec.specs.Walks.{Mark, deeper, Entry, Compared, Ignored, Out, Branched, Told, Found, says, before, followed, modules, is_ignored, fits, left_walk, right_walk, followed_by, ahead, or_passed}
use Rattle.lsys_spec.proofs.Meetings.{met}

abbrev pub mark_of : Entry → Mark
mark_of (Compared d s) = d
mark_of (Ignored d s) = d
mark_of (Out d l) = d
mark_of (Branched d o c) = d

-- what comes next was read for another rule, or outside of this branch
abbrev pub Foreign : Mark → List Entry → Type 0
Foreign d [] = Unit {0}
Foreign d (e ∷ m) = (mark_of e).rule ≡ d.rule → (mark_of e).depth < d.depth

-- a walk that found nothing may have ended with what it walked over
abbrev pub Ends : Mark → Told Found → List Entry → Type 0
Ends d t m = t.answer ≡ None → Foreign d m

abbrev pub Tells : Mark → Told Found → Told Found → Type 0
Tells d t t' = (m m' : List Entry) → Ends d t m → Ends d t' m' → t.entries ++ m ≡ t'.entries ++ m' → (t' ≡ t) × (m' ≡ m)

pub tells_says : (d : Mark) (a : Found) → Tells d (says a) (says a)
tells_says d a m m' h k e = (refl, sym e)

tells_before : (d : Mark) (e e' : Entry) (t t' : Told Found) → (e' ≡ e → Tells d t t') → Tells d (before e t) (before e' t')
tells_before d e e' t t' f m m' h k g =
    let a : e' ≡ e = cc in
    let b : t.entries ++ m ≡ t'.entries ++ m' = cc in
    let r : (t' ≡ t) × (m' ≡ m) = f a m m' h k b in
    (ap (λ e. before e t') a ∙ ap (before e) r.0, r.1)

tells_apart : (d : Mark) (e e' : Entry) (t t' : Told Found) → (e' ≡ e → ⊥) → Tells d (before e t) (before e' t')
tells_apart d e e' t t' f = tells_before d e e' t t' (λ a. absurd (f a))

-- one walk ended, and the other read on
ended_first : (d : Mark) (e : Entry) (t : Told Found) → mark_of e ≡ d → Tells d (says None) (before e t)
ended_first d e t a m m' h k g =
    let f : Foreign d (e ∷ (t.entries ++ m')) = subst (Foreign d) g (h refl) in
    absurd (omega (arith, f (ap (λ d. d.rule) a), ap (λ d. d.depth) a))

ended_last : (d : Mark) (e : Entry) (t : Told Found) → mark_of e ≡ d → Tells d (before e t) (says None)
ended_last d e t a m m' h k g =
    let f : Foreign d (e ∷ (t.entries ++ m)) = subst (Foreign d) (sym g) (k refl) in
    absurd (omega (arith, f (ap (λ d. d.rule) a), ap (λ d. d.depth) a))

pub tells_answer : (d : Mark) (f : List ModuleValue → List ModuleValue) (t t' : Told Found) → Tells d t t' → Tells d (record { entries = t.entries; answer = option_map f t.answer }) (record { entries = t'.entries; answer = option_map f t'.answer })
tells_answer d f t t' g m m' h k e =
    let r : (t' ≡ t) × (m' ≡ m) = g m m' (λ i. h (ap (option_map f) i)) (λ i. k (ap (option_map f) i)) e in
    (ap (λ (u : Told Found). let v : Told Found = record { entries = u.entries; answer = option_map f u.answer } in v) r.0, r.1)

-- a module that was met

met_first : (b e : Bool) (d : Mark) (s : LevelSymbol) (on next : Told Found) → (k : Entry) × (t : Told Found) × (met b e d s on next ≡ before k t) × (mark_of k ≡ d)
met_first true e d s on next = (Ignored d s, on, refl, refl)
met_first false true d s on next = (Compared d s, next, refl, refl)
met_first false false d s on next = (Compared d s, says None, refl, refl)

ended_met : (b e : Bool) (d : Mark) (s : LevelSymbol) (on next : Told Found) → Tells d (says None) (met b e d s on next)
ended_met b e d s on next = let k = met_first b e d s on next in subst (Tells d (says None)) (sym k.2) (ended_first d k.0 k.1 k.3)

met_ended : (b e : Bool) (d : Mark) (s : LevelSymbol) (on next : Told Found) → Tells d (met b e d s on next) (says None)
met_ended b e d s on next = let k = met_first b e d s on next in subst (λ t. Tells d t (says None)) (sym k.2) (ended_last d k.0 k.1 k.3)

met_apart : (b e : Bool) (d : Mark) (s : LevelSymbol) (on next : Told Found) (k : Entry) (t : Told Found) → (k ≡ Ignored d s → ⊥) → (k ≡ Compared d s → ⊥) → Tells d (met b e d s on next) (before k t)
met_apart true e d s on next k t f g = tells_apart d (Ignored d s) k on t f
met_apart false true d s on next k t f g = tells_apart d (Compared d s) k next t g
met_apart false false d s on next k t f g = tells_apart d (Compared d s) k (says None) t g

apart_met : (b e : Bool) (d : Mark) (s : LevelSymbol) (on next : Told Found) (k : Entry) (t : Told Found) → (Ignored d s ≡ k → ⊥) → (Compared d s ≡ k → ⊥) → Tells d (before k t) (met b e d s on next)
apart_met true e d s on next k t f g = tells_apart d k (Ignored d s) t on f
apart_met false true d s on next k t f g = tells_apart d k (Compared d s) t next g
apart_met false false d s on next k t f g = tells_apart d k (Compared d s) t (says None) g

tells_met : (b e b' e' : Bool) (d : Mark) (s s' : LevelSymbol) (on on' next next' : Told Found) → (s' ≡ s → e' ≡ e) → Tells d on on' → (s' ≡ s → Tells d next next')
    → Tells d (met b e d s on next) (met b' e' d s' on' next')
tells_met true e true e' d s s' on on' next next' f g h = tells_before d (Ignored d s) (Ignored d s') on on' (λ i. g)
tells_met true e false true d s s' on on' next next' f g h = tells_apart d (Ignored d s) (Compared d s') on next' (λ i. cc)
tells_met true e false false d s s' on on' next next' f g h = tells_apart d (Ignored d s) (Compared d s') on (says None) (λ i. cc)
tells_met false true true e' d s s' on on' next next' f g h = tells_apart d (Compared d s) (Ignored d s') next on' (λ i. cc)
tells_met false false true e' d s s' on on' next next' f g h = tells_apart d (Compared d s) (Ignored d s') (says None) on' (λ i. cc)
tells_met false true false true d s s' on on' next next' f g h = tells_before d (Compared d s) (Compared d s') next next' (λ i. h cc)
tells_met false false false false d s s' on on' next next' f g h = tells_before d (Compared d s) (Compared d s') (says None) (says None) (λ i. tells_says d None)
tells_met false true false false d s s' on on' next next' f g h =
    tells_before d (Compared d s) (Compared d s') next (says None) (λ i. let a : s' ≡ s = cc in let b : false ≡ true = f a in cc)
tells_met false false false true d s s' on on' next next' f g h =
    tells_before d (Compared d s) (Compared d s') (says None) next' (λ i. let a : s' ≡ s = cc in let b : true ≡ false = f a in cc)

-- the left walk

same_fit : (q : Pattern) (s s' : LevelSymbol) → s' ≡ s → fits q s' ≡ fits q s
same_fit q s s' e = ap (fits q) e

pub left_tells : (f f' : ModuleName → Bool) (d : Mark) (qs : List Pattern) (w w' : List Step) → Tells d (left_walk f d qs w) (left_walk f' d qs w')
left_tells f f' d [] w w' = tells_says d (Some [])
left_tells f f' d (q ∷ qs) [] [] = tells_says d None
left_tells f f' d (q ∷ qs) [] (Passed s ∷ w') = ended_met (is_ignored f' s) (fits q s) d s (left_walk f' d (q ∷ qs) w') (followed_by s (left_walk f' d qs w'))
left_tells f f' d (q ∷ qs) [] (OutOf o ∷ w') = ended_first d (Out d (lineage o)) (left_walk f' d (q ∷ qs) w') refl
left_tells f f' d (q ∷ qs) [] (Around o c ∷ w') = ended_first d (Branched d (lineage o) (lineage c)) (left_walk f' d (q ∷ qs) w') refl
left_tells f f' d (q ∷ qs) (Passed s ∷ w) [] = met_ended (is_ignored f s) (fits q s) d s (left_walk f d (q ∷ qs) w) (followed_by s (left_walk f d qs w))
left_tells f f' d (q ∷ qs) (OutOf o ∷ w) [] = ended_last d (Out d (lineage o)) (left_walk f d (q ∷ qs) w) refl
left_tells f f' d (q ∷ qs) (Around o c ∷ w) [] = ended_last d (Branched d (lineage o) (lineage c)) (left_walk f d (q ∷ qs) w) refl
left_tells f f' d (q ∷ qs) (OutOf o ∷ w) (OutOf o' ∷ w') =
    tells_before d (Out d (lineage o)) (Out d (lineage o')) (left_walk f d (q ∷ qs) w) (left_walk f' d (q ∷ qs) w') (λ i. left_tells f f' d (q ∷ qs) w w')
left_tells f f' d (q ∷ qs) (Around o c ∷ w) (Around o' c' ∷ w') =
    tells_before d (Branched d (lineage o) (lineage c)) (Branched d (lineage o') (lineage c')) (left_walk f d (q ∷ qs) w) (left_walk f' d (q ∷ qs) w') (λ i. left_tells f f' d (q ∷ qs) w w')
left_tells f f' d (q ∷ qs) (OutOf o ∷ w) (Around o' c' ∷ w') =
    tells_apart d (Out d (lineage o)) (Branched d (lineage o') (lineage c')) (left_walk f d (q ∷ qs) w) (left_walk f' d (q ∷ qs) w') (λ i. cc)
left_tells f f' d (q ∷ qs) (Around o c ∷ w) (OutOf o' ∷ w') =
    tells_apart d (Branched d (lineage o) (lineage c)) (Out d (lineage o')) (left_walk f d (q ∷ qs) w) (left_walk f' d (q ∷ qs) w') (λ i. cc)
left_tells f f' d (q ∷ qs) (Passed s ∷ w) (OutOf o' ∷ w') =
    met_apart (is_ignored f s) (fits q s) d s (left_walk f d (q ∷ qs) w) (followed_by s (left_walk f d qs w)) (Out d (lineage o')) (left_walk f' d (q ∷ qs) w') (λ i. cc) (λ i. cc)
left_tells f f' d (q ∷ qs) (Passed s ∷ w) (Around o' c' ∷ w') =
    met_apart (is_ignored f s) (fits q s) d s (left_walk f d (q ∷ qs) w) (followed_by s (left_walk f d qs w)) (Branched d (lineage o') (lineage c')) (left_walk f' d (q ∷ qs) w') (λ i. cc) (λ i. cc)
left_tells f f' d (q ∷ qs) (OutOf o ∷ w) (Passed s' ∷ w') =
    apart_met (is_ignored f' s') (fits q s') d s' (left_walk f' d (q ∷ qs) w') (followed_by s' (left_walk f' d qs w')) (Out d (lineage o)) (left_walk f d (q ∷ qs) w) (λ i. cc) (λ i. cc)
left_tells f f' d (q ∷ qs) (Around o c ∷ w) (Passed s' ∷ w') =
    apart_met (is_ignored f' s') (fits q s') d s' (left_walk f' d (q ∷ qs) w') (followed_by s' (left_walk f' d qs w')) (Branched d (lineage o) (lineage c)) (left_walk f d (q ∷ qs) w) (λ i. cc) (λ i. cc)
left_tells f f' d (q ∷ qs) (Passed s ∷ w) (Passed s' ∷ w') =
    tells_met (is_ignored f s) (fits q s) (is_ignored f' s') (fits q s') d s s' (left_walk f d (q ∷ qs) w) (left_walk f' d (q ∷ qs) w') (followed_by s (left_walk f d qs w)) (followed_by s' (left_walk f' d qs w'))
    (same_fit q s s') (left_tells f f' d (q ∷ qs) w w')
    (λ i. subst (λ u. Tells d (followed_by s (left_walk f d qs w)) (followed_by u (left_walk f' d qs w'))) (sym i)
    (tells_answer d (λ ms. ms ++ modules s) (left_walk f d qs w) (left_walk f' d qs w') (left_tells f f' d qs w w')))

-- the right walk

outer_foreign : (d : Mark) (m : List Entry) → Foreign d m → Foreign (deeper d) m
outer_foreign d [] h = tt
outer_foreign d (e ∷ m) h = λ i. omega (arith, h i)

back_out : (d : Mark) (e : Entry) → mark_of e ≡ d → (mark_of e).rule ≡ (deeper d).rule → (mark_of e).depth < (deeper d).depth
back_out d e a i = omega (arith, ap (λ d. d.depth) a)

-- after a branch that was entered in vain the walk goes on outside of it
passed_foreign : (f : ModuleName → Bool) (d : Mark) (qs p : Patterns) (r : Items) (m : List Entry) → Ends d (right_walk f d (BranchOf qs p) r) m
    → Foreign (deeper d) ((right_walk f d (BranchOf qs p) r).entries ++ m)
passed_foreign f d qs p Nothing m h = outer_foreign d m (h refl)
passed_foreign f d qs p (One s r) m h =
    let k = met_first (is_ignored f s) false d s (right_walk f d (BranchOf qs p) r) (says None) in
    subst (λ (t : Told Found). Foreign (deeper d) (t.entries ++ m)) (sym k.2) (back_out d k.0 k.3)
passed_foreign f d qs p (Branch o c i r) m h = back_out d (Branched d (lineage o) (lineage c)) refl

inner_ends : (d : Mark) (t : Told Found) (both passed : Told Found) (m : List Entry) → Ends d (or_passed t.answer both passed) m
    → (Ends d passed m → Foreign (deeper d) (passed.entries ++ m)) → Ends (deeper d) t ((or_passed t.answer both passed).entries ++ m)
inner_ends d t both passed m h f e =
    let a : or_passed t.answer both passed ≡ passed = ap (λ o. or_passed o both passed) e in
    subst (λ (u : Told Found). Foreign (deeper d) (u.entries ++ m)) (sym a) (f (subst (λ (u : Told Found). Ends d u m) a h))

passes_tells : (d : Mark) (o : Found) (both both' passed passed' : Told Found) → Tells d both both' → Tells d passed passed' → Tells d (or_passed o both passed) (or_passed o both' passed')
passes_tells d None both both' passed passed' g h = h
passes_tells d (Some ms) both both' passed passed' g h = tells_answer d (λ more. ms ++ more) both both' g

-- an inner walk, and what follows it
tells_inner : (d : Mark) (t t' both both' passed passed' : Told Found) → Tells (deeper d) t t'
    → ((m : List Entry) → Ends d passed m → Foreign (deeper d) (passed.entries ++ m)) → ((m : List Entry) → Ends d passed' m → Foreign (deeper d) (passed'.entries ++ m))
    → Tells d both both' → Tells d passed passed'
    → Tells d (followed t (or_passed t.answer both passed)) (followed t' (or_passed t'.answer both' passed'))
tells_inner d t t' both both' passed passed' i f f' g h m m' j k e =
    let n : Told Found = or_passed t.answer both passed in
    let n' : Told Found = or_passed t'.answer both' passed' in
    let split : t.entries ++ (n.entries ++ m) ≡ t'.entries ++ (n'.entries ++ m') = sym (append_assoc t.entries n.entries m) ∙ e ∙ append_assoc t'.entries n'.entries m' in
    let r : (t' ≡ t) × (n'.entries ++ m' ≡ n.entries ++ m) = i (n.entries ++ m) (n'.entries ++ m') (inner_ends d t both passed m j (f m)) (inner_ends d t' both' passed' m' k (f' m')) split in
    let a : n' ≡ or_passed t.answer both' passed' = ap (λ (u : Told Found). or_passed u.answer both' passed') r.0 in
    let s : (or_passed t.answer both' passed' ≡ n) × (m' ≡ m) =
    passes_tells d t.answer both both' passed passed' g h m m' j (subst (λ (u : Told Found). Ends d u m') a k) (sym r.1 ∙ ap (λ (u : Told Found). u.entries ++ m') a) in
    (ap (λ (u : Told Found). followed u n') r.0 ∙ ap (followed t) (a ∙ s.0), s.1)

pub right_tells : (f f' : ModuleName → Bool) (d : Mark) (p : Patterns) (r r' : Items) → Tells d (right_walk f d p r) (right_walk f' d p r')
right_tells f f' d Done r r' = tells_says d (Some [])
right_tells f f' d (OneOf q p) Nothing Nothing = tells_says d None
right_tells f f' d (OneOf q p) Nothing (One s r') = ended_met (is_ignored f' s) (fits q s) d s (right_walk f' d (OneOf q p) r') (ahead s (right_walk f' d p r'))
right_tells f f' d (OneOf q p) Nothing (Branch o c i r') = ended_first d (Branched d (lineage o) (lineage c)) (right_walk f' d (OneOf q p) r') refl
right_tells f f' d (OneOf q p) (One s r) Nothing = met_ended (is_ignored f s) (fits q s) d s (right_walk f d (OneOf q p) r) (ahead s (right_walk f d p r))
right_tells f f' d (OneOf q p) (Branch o c i r) Nothing = ended_last d (Branched d (lineage o) (lineage c)) (right_walk f d (OneOf q p) r) refl
right_tells f f' d (OneOf q p) (One s r) (Branch o c i r') =
    met_apart (is_ignored f s) (fits q s) d s (right_walk f d (OneOf q p) r) (ahead s (right_walk f d p r)) (Branched d (lineage o) (lineage c)) (right_walk f' d (OneOf q p) r') (λ i. cc) (λ i. cc)
right_tells f f' d (OneOf q p) (Branch o c i r) (One s r') =
    apart_met (is_ignored f' s) (fits q s) d s (right_walk f' d (OneOf q p) r') (ahead s (right_walk f' d p r')) (Branched d (lineage o) (lineage c)) (right_walk f d (OneOf q p) r) (λ i. cc) (λ i. cc)
right_tells f f' d (OneOf q p) (One s r) (One s' r') =
    tells_met (is_ignored f s) (fits q s) (is_ignored f' s') (fits q s') d s s' (right_walk f d (OneOf q p) r) (right_walk f' d (OneOf q p) r') (ahead s (right_walk f d p r)) (ahead s' (right_walk f' d p r'))
    (same_fit q s s') (right_tells f f' d (OneOf q p) r r')
    (λ i. subst (λ u. Tells d (ahead s (right_walk f d p r)) (ahead u (right_walk f' d p r'))) (sym i)
    (tells_answer d (λ ms. modules s ++ ms) (right_walk f d p r) (right_walk f' d p r') (right_tells f f' d p r r')))
right_tells f f' d (OneOf q p) (Branch o c i r) (Branch o' c' i' r') =
    tells_before d (Branched d (lineage o) (lineage c)) (Branched d (lineage o') (lineage c')) (right_walk f d (OneOf q p) r) (right_walk f' d (OneOf q p) r') (λ j. right_tells f f' d (OneOf q p) r r')
right_tells f f' d (BranchOf qs p) Nothing Nothing = tells_says d None
right_tells f f' d (BranchOf qs p) Nothing (One s r') = ended_met (is_ignored f' s) false d s (right_walk f' d (BranchOf qs p) r') (says None)
right_tells f f' d (BranchOf qs p) (One s r) Nothing = met_ended (is_ignored f s) false d s (right_walk f d (BranchOf qs p) r) (says None)
right_tells f f' d (BranchOf qs p) (One s r) (One s' r') =
    tells_met (is_ignored f s) false (is_ignored f' s') false d s s' (right_walk f d (BranchOf qs p) r) (right_walk f' d (BranchOf qs p) r') (says None) (says None)
    (λ i. refl) (right_tells f f' d (BranchOf qs p) r r') (λ i. tells_says d None)
right_tells f f' d (BranchOf qs p) Nothing (Branch o c i r') =
    let inside = right_walk f' (deeper d) qs i in
    ended_first d (Branched d (lineage o) (lineage c)) (followed inside (or_passed inside.answer (right_walk f' d p r') (right_walk f' d (BranchOf qs p) r'))) refl
right_tells f f' d (BranchOf qs p) (Branch o c i r) Nothing =
    let inside = right_walk f (deeper d) qs i in
    ended_last d (Branched d (lineage o) (lineage c)) (followed inside (or_passed inside.answer (right_walk f d p r) (right_walk f d (BranchOf qs p) r))) refl
right_tells f f' d (BranchOf qs p) (One s r) (Branch o c i r') =
    let inside = right_walk f' (deeper d) qs i in
    met_apart (is_ignored f s) false d s (right_walk f d (BranchOf qs p) r) (says None) (Branched d (lineage o) (lineage c)) (followed inside (or_passed inside.answer (right_walk f' d p r') (right_walk f' d (BranchOf qs p) r'))) (λ i. cc) (λ i. cc)
right_tells f f' d (BranchOf qs p) (Branch o c i r) (One s r') =
    let inside = right_walk f (deeper d) qs i in
    apart_met (is_ignored f' s) false d s (right_walk f' d (BranchOf qs p) r') (says None) (Branched d (lineage o) (lineage c)) (followed inside (or_passed inside.answer (right_walk f d p r) (right_walk f d (BranchOf qs p) r))) (λ i. cc) (λ i. cc)
right_tells f f' d (BranchOf qs p) (Branch o c i r) (Branch o' c' i' r') =
    let inside = right_walk f (deeper d) qs i in
    let inside' = right_walk f' (deeper d) qs i' in
    tells_before d (Branched d (lineage o) (lineage c)) (Branched d (lineage o') (lineage c'))
    (followed inside (or_passed inside.answer (right_walk f d p r) (right_walk f d (BranchOf qs p) r))) (followed inside' (or_passed inside'.answer (right_walk f' d p r') (right_walk f' d (BranchOf qs p) r')))
    (λ j. tells_inner d inside inside' (right_walk f d p r) (right_walk f' d p r') (right_walk f d (BranchOf qs p) r) (right_walk f' d (BranchOf qs p) r')
    (right_tells f f' (deeper d) qs i i') (passed_foreign f d qs p r) (passed_foreign f' d qs p r') (right_tells f f' d p r r') (right_tells f f' d (BranchOf qs p) r r'))
