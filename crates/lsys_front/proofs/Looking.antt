-- Who is looked at, call by call.
use Rattle.std.proofs.Common.{◌≡◌, ◌++◌, ℕ, List, inl, inr, subst}
use Rattle.lsys_spec.specs.Rows.{In}
use Rattle.lsys_forest.specs.Groves.{Grove}
use Rattle.lsys_forest.proofs.RowLemmas.{In_append}
use Rattle.lsys_reads.specs.Looks.{LooksAround, LooksBeyond, LooksAtMate, LooksInto, IsOnLevelOf, AddsBelow}
use Rattle.lsys_reads.proofs.SeamLemmas.{around_keep, beyond_keep}
use Rattle.lsys_reads.proofs.MateLemmas.{mate_keep, into_keep}
use Rattle.lsys_front.specs.Fronts.{StandOn, LooksBelow}
use Rattle.lsys_front.proofs.Standing.{stand_left, stand_right, stand_levels}

-- all of these are among those
abbrev pub Holds : List ℕ → List ℕ → Type 0
Holds xs ys = (k : ℕ) → In k xs → In k ys

module _ {A : Type 0} (f : Grove A) where
  -- by each of these nodes it was looked, and so nodes of the next level were added
  pub record Called (Looks : ℕ → List ℕ → Type 0) (nodes old new : List ℕ) : Type 0 where
    pub looks : (q : ℕ) → In q nodes → Looks q new
    pub keeps : Holds old new
    pub below : (t : ℕ) → ((q : ℕ) → In q nodes → IsOnLevelOf f t q) → AddsBelow f t old new

  -- a call for a list that is these nodes
  pub called : (Looks : ℕ → List ℕ → Type 0) (xs nodes old new : List ℕ) → xs ≡ nodes → ((q : ℕ) → In q xs → Looks q new) → Holds old new
      → ((t : ℕ) → ((q : ℕ) → In q xs → IsOnLevelOf f t q) → AddsBelow f t old new) → Called Looks nodes old new
  called Looks xs nodes old new e looks keeps below = subst (λ ns. Called Looks ns old new) e (record { looks = looks; keeps = keeps; below = below })

  adds_on : (t : ℕ) (xs ys zs : List ℕ) → AddsBelow f t xs ys → AddsBelow f t ys zs → AddsBelow f t xs zs
  adds_on t xs ys zs one two = λ k i. elim (two k i) [ inl j ↦ one k j | inr j ↦ inr j ]

  module _ (touched came turned x0 x1 x2 x3 x4 x5 x6 x7 x8 : List ℕ)
      (c1 : Called (LooksAround f) touched x0 x1) (c2 : Called (LooksAround f) came x1 x2) (c3 : Called (LooksAtMate f) touched x2 x3) (c4 : Called (LooksAtMate f) came x3 x4)
      (c5 : Called (LooksBeyond f) came x4 x5) (c6 : Called (LooksBeyond f) turned x5 x6) (c7 : Called (LooksInto f) came x6 x7) (c8 : Called (LooksInto f) turned x7 x8) where
    from7 : Holds x7 x8
    from7 = c8.keeps

    from6 : Holds x6 x8
    from6 = λ k i. from7 k (c7.keeps k i)

    from5 : Holds x5 x8
    from5 = λ k i. from6 k (c6.keeps k i)

    from4 : Holds x4 x8
    from4 = λ k i. from5 k (c5.keeps k i)

    from3 : Holds x3 x8
    from3 = λ k i. from4 k (c4.keeps k i)

    from2 : Holds x2 x8
    from2 = λ k i. from3 k (c3.keeps k i)

    from1 : Holds x1 x8
    from1 = λ k i. from2 k (c2.keeps k i)

    pub calls_keep : Holds x0 x8
    calls_keep = λ k i. from1 k (c1.keeps k i)

    pub calls_look : LooksBelow f (touched ++ came) (came ++ turned) x8
    calls_look = record {
      around = λ q i. elim (In_append touched came q i) [ inl a ↦ around_keep f q x1 x8 from1 (c1.looks q a) | inr b ↦ around_keep f q x2 x8 from2 (c2.looks q b) ];
      mates = λ q i. elim (In_append touched came q i) [ inl a ↦ mate_keep f q x3 x8 from3 (c3.looks q a) | inr b ↦ mate_keep f q x4 x8 from4 (c4.looks q b) ];
      beyond = λ q i. elim (In_append came turned q i) [ inl a ↦ beyond_keep f q x5 x8 from5 (c5.looks q a) | inr b ↦ beyond_keep f q x6 x8 from6 (c6.looks q b) ];
      branches = λ q i. elim (In_append came turned q i) [ inl a ↦ into_keep f q x7 x8 from7 (c7.looks q a) | inr b ↦ c8.looks q b ];
    }

    pub calls_add : (t : ℕ) → StandOn f t (touched ++ (came ++ turned)) → AddsBelow f t x0 x8
    calls_add t s =
        let by_touched = stand_levels f t touched (stand_left f t touched (came ++ turned) s) in
        let others = stand_right f t touched (came ++ turned) s in
        let by_came = stand_levels f t came (stand_left f t came turned others) in
        let by_turned = stand_levels f t turned (stand_right f t came turned others) in
        adds_on t x0 x7 x8 (adds_on t x0 x6 x7 (adds_on t x0 x5 x6 (adds_on t x0 x4 x5 (adds_on t x0 x3 x4 (adds_on t x0 x2 x3 (adds_on t x0 x1 x2
        (c1.below t by_touched) (c2.below t by_came)) (c3.below t by_touched)) (c4.below t by_came)) (c5.below t by_came)) (c6.below t by_turned)) (c7.below t by_came)) (c8.below t by_turned)
