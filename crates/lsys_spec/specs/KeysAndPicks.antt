-- How keys are made of one another, and how draws pick.
use Rattle.std.specs.Prelude.{◌≡◌, ℕ, ◌+◌, List, [], ◌∷◌, ◌++◌, ◌<◌, ◌*◌, ◌%◌, ◌^◌, ◌↔◌, Option, slice_index, Some, ◌≤◌, length}
use Rattle.lsys_spec.specs.Draws.{child_key_of, key_of, axiom_key_of, number_base, word_past, grown_key, IsPick, pick_of, unsplit}

-- a symbol's key is made from its parent's key and its place alone
abbrev pub ChildKeysAreMadeFromTheirParents : Type 0
ChildKeysAreMadeFromTheirParents =
    (seed place : ℕ) (above : List ℕ) (j : ℕ)
    → key_of seed ((place ∷ above) ++ j ∷ []) ≡ child_key_of (key_of seed (place ∷ above)) j

-- what keeps the rule of the axiom and the rule of children gives the keys, and no others
abbrev pub TwoRulesFixEveryKey : Type 0
TwoRulesFixEveryKey =
    (seed : ℕ) (key : List ℕ → ℕ)
    → ((place : ℕ) → key (place ∷ []) ≡ axiom_key_of seed place)
    → ((place : ℕ) (above : List ℕ) (j : ℕ)
    → key ((place ∷ above) ++ j ∷ []) ≡ child_key_of (key (place ∷ above)) j)
    → (place : ℕ) (below : List ℕ) → key (place ∷ below) ≡ key_of seed (place ∷ below)

-- what stands below a symbol has the keys of an axiom of its own, under the symbol's key as seed
abbrev pub KeysBelowAreThoseOfAnOwnAxiom : Type 0
KeysBelowAreThoseOfAnOwnAxiom =
    (seed : ℕ) (lineage below : List ℕ)
    → key_of seed (lineage ++ below) ≡ key_of (key_of seed lineage) below

-- a number by places is one word past its key
abbrev pub NumbersByPlaceAreOneWordPast : Type 0
NumbersByPlaceAreOneWordPast =
    (key count : ℕ) → count < number_base → grown_key key count ≡ word_past key count

-- a number by names is one word past the word of its code, by its count
abbrev pub NumbersByNameAreTwoWordsPast : Type 0
NumbersByNameAreTwoWordsPast =
    (key code count : ℕ) → 0 < code → count < number_base
    → grown_key key (number_base * code + count) ≡ word_past (word_past key code) count

-- the next seed has the same keys in the axiom, one place earlier
abbrev pub NextSeedsHaveTheseKeysOnePlaceEarlier : Type 0
NextSeedsHaveTheseKeysOnePlaceEarlier =
    (seed place : ℕ) → place + 1 < number_base
    → axiom_key_of seed (place + 1) ≡ axiom_key_of ((seed + 1) % 2 ^ 64) place

-- the computed pick is the one that the relation allows
abbrev pub OnlyTheComputedPickIsAllowed : Type 0
OnlyTheComputedPickIsAllowed =
    (draw : ℕ) (weights : List ℕ) (picked : Option ℕ)
    → draw < 2 ^ 64
    → (IsPick draw weights picked ↔ (picked ≡ pick_of draw weights))

-- what is picked has a weight above 0
abbrev pub WeightZeroIsNeverPicked : Type 0
WeightZeroIsNeverPicked =
    (draw : ℕ) (weights : List ℕ) (place : ℕ)
    → pick_of draw weights ≡ Some place → 0 < slice_index weights place

-- a greater draw never picks an earlier place
abbrev pub GreaterDrawsNeverPickEarlierPlaces : Type 0
GreaterDrawsNeverPickEarlierPlaces =
    (less more : ℕ) (weights : List ℕ) (i j : ℕ)
    → less ≤ more → pick_of less weights ≡ Some i → pick_of more weights ≡ Some j → i ≤ j

-- where a rule is split into two that share its weight, each draw
-- picks what it picked before, or one of the two
abbrev pub SplitWeightsArePickedTogether : Type 0
SplitWeightsArePickedTogether =
    (draw : ℕ) (front : List ℕ) (a b : ℕ) (back : List ℕ)
    → unsplit (length front) (pick_of draw (front ++ a ∷ b ∷ back))
    ≡ pick_of draw (front ++ (a + b) ∷ back)
