-- Ways and items that are alike as far as settled symbols reach, and the walks over them.
use Rattle.std.proofs.Common.{◌≡◌, ℕ, Bool, true, false, Some, None, List, [], ◌∷◌, ◌++◌, refl, ap, sym, ◌∙◌, subst}
use Rattle.std.specs.Prelude.{option_map}
use Rattle.lsys_syntax.specs.Strings.{ModuleName}
use Rattle.lsys_spec.specs.Systems.{Each}
use Rattle.lsys_spec.specs.Bodies.{Pattern, Patterns, Done, OneOf, BranchOf}
use Rattle.lsys_spec.specs.Levels.{LevelSymbol, lineage, Step, Passed, Around, OutOf, Items, Nothing, One, Branch}
use Rattle.lsys_spec.specs.Walks.{Mark, deeper, lineages_named, Entry, Compared, Ignored, Out, Branched, Told, Found, says, before, followed, modules, is_ignored, fits, left_walk, right_walk, followed_by, ahead, or_passed}
use Rattle.lsys_spec.proofs.Meetings.{met}
use Rattle.lsys_spec.proofs.Carries.{Carries, carries_self, carries_before, carries_followed, carries_answer}

-- each symbol that an entry names is settled
abbrev pub Settles : (List ℕ → Type 0) → Entry → Type 0
Settles S e = Each S (lineages_named e)

abbrev pub AlikeWays : (List ℕ → Type 0) → List Step → List Step → Type 0
AlikeWays S [] [] = Unit {0}
AlikeWays S (Passed s ∷ w) (Passed s' ∷ w') = (s' ≡ s) × (S (lineage s) → AlikeWays S w w')
AlikeWays S (OutOf o ∷ w) (OutOf o' ∷ w') = (o' ≡ o) × (S (lineage o) → AlikeWays S w w')
AlikeWays S (Around o c ∷ w) (Around o' c' ∷ w') = S (lineage o) → S (lineage c) → (o' ≡ o) × (c' ≡ c) × AlikeWays S w w'
AlikeWays S w w' = ⊥

abbrev pub AlikeItems : (List ℕ → Type 0) → Items → Items → Type 0
AlikeItems S Nothing Nothing = Unit {0}
AlikeItems S (One s r) (One s' r') = (s' ≡ s) × (S (lineage s) → AlikeItems S r r')
AlikeItems S (Branch o c i r) (Branch o' c' i' r') = S (lineage o) → S (lineage c) → (o' ≡ o) × (c' ≡ c) × AlikeItems S i i' × AlikeItems S r r'
AlikeItems S r r' = ⊥

same_branch : (d : Mark) (o o' c c' : LevelSymbol) → o' ≡ o → c' ≡ c → Branched d (lineage o') (lineage c') ≡ Branched d (lineage o) (lineage c)
same_branch d o o' c c' e g = ap (λ o. Branched d (lineage o) (lineage c')) e ∙ ap (λ c. Branched d (lineage o) (lineage c)) g

carries_met : (S : List ℕ → Type 0) (b e : Bool) (d : Mark) (s : LevelSymbol) (on on' next next' : Told Found)
    → (S (lineage s) → Carries (Settles S) on on') → (S (lineage s) → Carries (Settles S) next next') → Carries (Settles S) (met b e d s on next) (met b e d s on' next')
carries_met S true e d s on on' next next' g h = carries_before (Settles S) (Ignored d s) (Ignored d s) on on' (λ k. (refl, g k.0))
carries_met S false true d s on on' next next' g h = carries_before (Settles S) (Compared d s) (Compared d s) next next' (λ k. (refl, h k.0))
carries_met S false false d s on on' next next' g h = carries_self (Settles S) (before (Compared d s) (says None))

pub left_carries : (S : List ℕ → Type 0) (f : ModuleName → Bool) (d : Mark) (qs : List Pattern) (w w' : List Step) → AlikeWays S w w' → Carries (Settles S) (left_walk f d qs w) (left_walk f d qs w')
left_carries S f d [] w w' a = carries_self (Settles S) (says (Some []))
left_carries S f d (q ∷ qs) [] [] a = carries_self (Settles S) (says None)
left_carries S f d (q ∷ qs) (Passed s ∷ w) (Passed s' ∷ w') a =
    subst (λ u. Carries (Settles S) (left_walk f d (q ∷ qs) (Passed s ∷ w)) (left_walk f d (q ∷ qs) (Passed u ∷ w'))) (sym a.0)
    (carries_met S (is_ignored f s) (fits q s) d s (left_walk f d (q ∷ qs) w) (left_walk f d (q ∷ qs) w') (followed_by s (left_walk f d qs w)) (followed_by s (left_walk f d qs w'))
    (λ k. left_carries S f d (q ∷ qs) w w' (a.1 k))
    (λ k. carries_answer (Settles S) (option_map (λ ms. ms ++ modules s)) (left_walk f d qs w) (left_walk f d qs w') (left_carries S f d qs w w' (a.1 k))))
left_carries S f d (q ∷ qs) (OutOf o ∷ w) (OutOf o' ∷ w') a =
    carries_before (Settles S) (Out d (lineage o)) (Out d (lineage o')) (left_walk f d (q ∷ qs) w) (left_walk f d (q ∷ qs) w')
    (λ s. (ap (λ o. Out d (lineage o)) a.0, left_carries S f d (q ∷ qs) w w' (a.1 s.0)))
left_carries S f d (q ∷ qs) (Around o c ∷ w) (Around o' c' ∷ w') a =
    carries_before (Settles S) (Branched d (lineage o) (lineage c)) (Branched d (lineage o') (lineage c')) (left_walk f d (q ∷ qs) w) (left_walk f d (q ∷ qs) w')
    (λ s. let b = a s.0 s.1.0 in (same_branch d o o' c c' b.0 b.1, left_carries S f d (q ∷ qs) w w' b.2))
left_carries S f d (q ∷ qs) w w' a = absurd a

passes : (S : List ℕ → Type 0) (inside : Found) (both both' passed passed' : Told Found)
    → Carries (Settles S) both both' → Carries (Settles S) passed passed' → Carries (Settles S) (or_passed inside both passed) (or_passed inside both' passed')
passes S None both both' passed passed' g h = h
passes S (Some ms) both both' passed passed' g h = carries_answer (Settles S) (option_map (λ more. ms ++ more)) both both' g

pub right_carries : (S : List ℕ → Type 0) (f : ModuleName → Bool) (d : Mark) (p : Patterns) (r r' : Items) → AlikeItems S r r' → Carries (Settles S) (right_walk f d p r) (right_walk f d p r')
right_carries S f d Done r r' a = carries_self (Settles S) (says (Some []))
right_carries S f d (OneOf q p) Nothing Nothing a = carries_self (Settles S) (says None)
right_carries S f d (OneOf q p) (One s r) (One s' r') a =
    subst (λ u. Carries (Settles S) (right_walk f d (OneOf q p) (One s r)) (right_walk f d (OneOf q p) (One u r'))) (sym a.0)
    (carries_met S (is_ignored f s) (fits q s) d s (right_walk f d (OneOf q p) r) (right_walk f d (OneOf q p) r') (ahead s (right_walk f d p r)) (ahead s (right_walk f d p r'))
    (λ k. right_carries S f d (OneOf q p) r r' (a.1 k))
    (λ k. carries_answer (Settles S) (option_map (λ ms. modules s ++ ms)) (right_walk f d p r) (right_walk f d p r') (right_carries S f d p r r' (a.1 k))))
right_carries S f d (OneOf q p) (Branch o c i r) (Branch o' c' i' r') a =
    carries_before (Settles S) (Branched d (lineage o) (lineage c)) (Branched d (lineage o') (lineage c')) (right_walk f d (OneOf q p) r) (right_walk f d (OneOf q p) r')
    (λ s. let b = a s.0 s.1.0 in (same_branch d o o' c c' b.0 b.1, right_carries S f d (OneOf q p) r r' b.3))
right_carries S f d (OneOf q p) r r' a = absurd a
right_carries S f d (BranchOf qs p) Nothing Nothing a = carries_self (Settles S) (says None)
right_carries S f d (BranchOf qs p) (One s r) (One s' r') a =
    subst (λ u. Carries (Settles S) (right_walk f d (BranchOf qs p) (One s r)) (right_walk f d (BranchOf qs p) (One u r'))) (sym a.0)
    (carries_met S (is_ignored f s) false d s (right_walk f d (BranchOf qs p) r) (right_walk f d (BranchOf qs p) r') (says None) (says None)
    (λ k. right_carries S f d (BranchOf qs p) r r' (a.1 k)) (λ k. carries_self (Settles S) (says None)))
right_carries S f d (BranchOf qs p) (Branch o c i r) (Branch o' c' i' r') a =
    let inside = right_walk f (deeper d) qs i in
    let inside' = right_walk f (deeper d) qs i' in
    let next = λ (t : Told Found). or_passed t.answer (right_walk f d p r) (right_walk f d (BranchOf qs p) r) in
    let next' = λ (t : Told Found). or_passed t.answer (right_walk f d p r') (right_walk f d (BranchOf qs p) r') in
    carries_before (Settles S) (Branched d (lineage o) (lineage c)) (Branched d (lineage o') (lineage c')) (followed inside (next inside)) (followed inside' (next' inside'))
    (λ s. let b = a s.0 s.1.0 in (
      same_branch d o o' c c' b.0 b.1,
      carries_followed (Settles S) inside inside' (next inside) (next' inside') (right_carries S f (deeper d) qs i i' b.2)
          (λ e. subst (λ t. Carries (Settles S) (next inside) (next' t)) (sym e)
          (passes S inside.answer (right_walk f d p r) (right_walk f d p r') (right_walk f d (BranchOf qs p) r) (right_walk f d (BranchOf qs p) r')
          (right_carries S f d p r r' b.3) (right_carries S f d (BranchOf qs p) r r' b.3))),
    ))
right_carries S f d (BranchOf qs p) r r' a = absurd a
