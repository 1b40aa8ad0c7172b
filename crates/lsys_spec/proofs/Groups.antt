-- What the rules of a group read and choose is carried over.
use Rattle.std.proofs.Common.{◌≡◌, ℕ, ◌+◌, ◌<◌, ◌≤◌, Bool, true, false, Option, Some, None, Result, Ok, Err, List, [], ◌∷◌, ◌++◌, length, ltb, refl, sym, subst, ap, arith, cond, length-append}
use Rattle.std.specs.Prelude.{option_map, reverse}
use Rattle.std.proofs.lemmas.Bool.{ltb-false}
use Rattle.lsys_syntax.specs.Strings.{ModuleName}
use Rattle.lsys_spec.specs.Bodies.{Body}
use Rattle.lsys_spec.specs.Levels.{ModuleValue, Step, Items}
use Rattle.lsys_spec.specs.Walks.{Mark, Entry, Told, says, followed, left_walk, right_walk, Found}
use Rattle.lsys_spec.proofs.Carries.{Carries, carries_self, carries_followed, carries_answer}
use Rattle.lsys_spec.proofs.Alike.{Settles, AlikeItems, AlikeWays, left_carries, right_carries}
use Rattle.lsys_spec.specs.Choice.{Fault, TooFar, Outcome, No, Yes, Fails, Choice, NoRule, Chosen, Failed, Asking, Tried, none_tried, after_rule, right_after, contexts, next_contexts, fitting, outcome, decided, first_applying, Applying, found_with, all_applying, picked, choice}

right_after_carries : (S : List ℕ → Type 0) (f : ModuleName → Bool) (d : Mark) (b : Body) (own : ModuleValue) (r r' : Items) → AlikeItems S r r' → (o : Found)
    → Carries (Settles S) (right_after f d b own r o) (right_after f d b own r' o)
right_after_carries S f d b own r r' a None = carries_self (Settles S) (says None)
right_after_carries S f d b own r r' a (Some ms) =
    carries_answer (Settles S) (option_map (λ more. (ms ++ own ∷ []) ++ more)) (right_walk f d b.right r) (right_walk f d b.right r') (right_carries S f d b.right r r' a)

pub contexts_carries : (S : List ℕ → Type 0) (f : ModuleName → Bool) (d : Mark) (b : Body) (own : ModuleValue) (w w' : List Step) (r r' : Items) → AlikeWays S w w' → AlikeItems S r r'
    → Carries (Settles S) (contexts f d b own w r) (contexts f d b own w' r')
contexts_carries S f d b own w w' r r' l a =
    let t = left_walk f d (reverse b.left) w in
    let t' = left_walk f d (reverse b.left) w' in
    carries_followed (Settles S) t t' (right_after f d b own r t.answer) (right_after f d b own r' t'.answer) (left_carries S f d (reverse b.left) w w' l)
    (λ e. subst (λ u. Carries (Settles S) (right_after f d b own r t.answer) (right_after f d b own r' u.answer)) (sym e) (right_after_carries S f d b own r r' a t.answer))

pub next_carries : (S : List ℕ → Type 0) (a : Asking) (w w' : List Step) (r r' : Items) → AlikeWays S w w' → AlikeItems S r r' → (d : Tried) (b : Body)
    → Carries (Settles S) (next_contexts a w r d b) (next_contexts a w' r' d b)
next_carries S a w w' r r' l i d b = contexts_carries S a.ignored (record { rule = d.place; depth = 0 }) b a.own w w' r r' l i

decided_carries : (S : Entry → Type 0) (o : Outcome) (place : ℕ) (others others' : Told Choice) → Carries S others others' → Carries S (decided o place others) (decided o place others')
decided_carries S No place others others' c = c
decided_carries S (Yes values) place others others' c = carries_self S (says (Chosen place values))
decided_carries S (Fails k) place others others' c = carries_self S (says (Failed k))

first_carries : (S : List ℕ → Type 0) (a : Asking) (w w' : List Step) (r r' : Items) → AlikeWays S w w' → AlikeItems S r r' → (d : Tried) (bs : List Body)
    → Carries (Settles S) (first_applying a w r d bs) (first_applying a w' r' d bs)
first_carries S a w w' r r' l i d [] = carries_self (Settles S) (says NoRule)
first_carries S a w w' r r' l i d (b ∷ bs) =
    let t : Told Found = next_contexts a w r d b in
    let t' : Told Found = next_contexts a w' r' d b in
    let next = λ (u : Told Found). decided (outcome a.most d b u) d.place (first_applying a w r (after_rule d u) bs) in
    let next' = λ (u : Told Found). decided (outcome a.most d b u) d.place (first_applying a w' r' (after_rule d u) bs) in
    carries_followed (Settles S) t t' (next t) (next' t') (next_carries S a w w' r r' l i d b)
    (λ e. subst (λ u. Carries (Settles S) (next t) (next' u)) (sym e)
    (decided_carries (Settles S) (outcome a.most d b t) d.place (first_applying a w r (after_rule d t) bs) (first_applying a w' r' (after_rule d t) bs)
    (first_carries S a w w' r r' l i (after_rule d t) bs)))

all_carries : (S : List ℕ → Type 0) (a : Asking) (w w' : List Step) (r r' : Items) → AlikeWays S w w' → AlikeItems S r r' → (d : Tried) (found : Result (List Applying) Fault) (bs : List Body)
    → Carries (Settles S) (all_applying a w r d found bs) (all_applying a w' r' d found bs)
all_carries S a w w' r r' l i d (Err k) bs = carries_self (Settles S) (says (Err k))
all_carries S a w w' r r' l i d (Ok found) [] = carries_self (Settles S) (says (Ok found))
all_carries S a w w' r r' l i d (Ok found) (b ∷ bs) =
    let t : Told Found = next_contexts a w r d b in
    let t' : Told Found = next_contexts a w' r' d b in
    let next = λ (u : Told Found). all_applying a w r (after_rule d u) (found_with found d.place b (outcome a.most d b u)) bs in
    let next' = λ (u : Told Found). all_applying a w' r' (after_rule d u) (found_with found d.place b (outcome a.most d b u)) bs in
    carries_followed (Settles S) t t' (next t) (next' t') (next_carries S a w w' r r' l i d b)
    (λ e. subst (λ u. Carries (Settles S) (next t) (next' u)) (sym e)
    (all_carries S a w w' r r' l i (after_rule d t) (found_with found d.place b (outcome a.most d b t)) bs))

pub choice_carries : (S : List ℕ → Type 0) (a : Asking) (key : Option ℕ) (w w' : List Step) (r r' : Items) → AlikeWays S w w' → AlikeItems S r r' → (bs : List Body)
    → Carries (Settles S) (choice a key w r bs) (choice a key w' r' bs)
choice_carries S a None w w' r r' l i bs = first_carries S a w w' r r' l i none_tried bs
choice_carries S a (Some key) w w' r r' l i bs =
    carries_answer (Settles S) (picked key) (all_applying a w r none_tried (Ok []) bs) (all_applying a w' r' none_tried (Ok []) bs) (all_carries S a w w' r r' l i none_tried (Ok []) bs)

-- a longer list of entries comes with the fault TooFar

abbrev IsFar : {A : Type 0} → ℕ → ℕ → A → Told A → Type 0
IsFar most n far t = most < n + length t.entries → t.answer ≡ far

says_near : {A : Type 0} (most n : ℕ) (far c : A) → n ≤ most → IsFar most n far (says c)
says_near most n far c h l = absurd (omega (arith, h, l))

decided_far : (most n : ℕ) (o : Outcome) (place : ℕ) (others : Told Choice) → n ≤ most → IsFar most n (Failed TooFar) others → IsFar most n (Failed TooFar) (decided o place others)
decided_far most n No place others h f = f
decided_far most n (Yes values) place others h f = says_near most n (Failed TooFar) (Chosen place values) h
decided_far most n (Fails k) place others h f = says_near most n (Failed TooFar) (Failed k) h

-- what follows a rule's walks: where these are too long, the fault at once
far_after : {A : Type 0} (most n : ℕ) (far : A) (t : Told Found) (b : Body) (next : Outcome → Told A) → next (Fails TooFar) ≡ says far
    → (n + length t.entries ≤ most → (o : Outcome) → IsFar most (n + length t.entries) far (next o))
    → IsFar most n far (followed t (next (cond (ltb most (n + length t.entries)) (Fails TooFar) (fitting b t.answer))))
far_after {A} most n far t b next e f = at (ltb most (n + length t.entries)) refl
  where
    at : (over : Bool) → ltb most (n + length t.entries) ≡ over → IsFar most n far (followed t (next (cond over (Fails TooFar) (fitting b t.answer))))
    at true h l = ap (λ (u : Told A). u.answer) e
    at false h l =
        let u : Told A = next (fitting b t.answer) in
        let whole : length (t.entries ++ u.entries) ≡ length t.entries + length u.entries = length-append t.entries u.entries in
        f (ltb-false most (n + length t.entries) h) (fitting b t.answer) (omega (arith, l, whole))

first_far : (a : Asking) (w : List Step) (r : Items) (d : Tried) (bs : List Body) → d.read ≤ a.most → IsFar a.most d.read (Failed TooFar) (first_applying a w r d bs)
first_far a w r d [] h = says_near a.most d.read (Failed TooFar) NoRule h
first_far a w r d (b ∷ bs) h =
    let t : Told Found = next_contexts a w r d b in
    far_after a.most d.read (Failed TooFar) t b (λ o. decided o d.place (first_applying a w r (after_rule d t) bs)) refl
    (λ near o. decided_far a.most (d.read + length t.entries) o d.place (first_applying a w r (after_rule d t) bs) near (first_far a w r (after_rule d t) bs near))

all_far : (a : Asking) (w : List Step) (r : Items) (d : Tried) (found : Result (List Applying) Fault) (bs : List Body) → d.read ≤ a.most → IsFar a.most d.read (Err TooFar) (all_applying a w r d found bs)
all_far a w r d (Err k) bs h = says_near a.most d.read (Err TooFar) (Err k) h
all_far a w r d (Ok found) [] h = says_near a.most d.read (Err TooFar) (Ok found) h
all_far a w r d (Ok found) (b ∷ bs) h =
    let t : Told Found = next_contexts a w r d b in
    far_after a.most d.read (Err TooFar) t b (λ o. all_applying a w r (after_rule d t) (found_with found d.place b o) bs) refl
    (λ near o. all_far a w r (after_rule d t) (found_with found d.place b o) bs near)

pub choice_far : (a : Asking) (key : Option ℕ) (w : List Step) (r : Items) (bs : List Body) → a.most < length (choice a key w r bs).entries → (choice a key w r bs).answer ≡ Failed TooFar
choice_far a None w r bs l = first_far a w r none_tried bs (omega arith) (omega (arith, l))
choice_far a (Some key) w r bs l = ap (picked key) (all_far a w r none_tried (Ok []) bs (omega arith) (omega (arith, l)))
