-- Keys, draws and weighted picks: the numbers that decide between weighted rules.
use Rattle.std.specs.Prelude.{◌≡◌, ℕ, ◌+◌, ◌-◌, ◌*◌, ◌/◌, ◌%◌, ◌^◌, ◌<◌, ◌≤◌, nat_lt, if◌then◌else◌, List, [], ◌∷◌, length, take, sum, fold, Option, Some, None, option_map, bit_xor}

-- z, its high bits folded down by k places, times m, in 64 bits
abbrev pub folded : ℕ → ℕ → ℕ → ℕ
folded z k m = bit_xor z (z / 2 ^ k) * m % 2 ^ 64

-- the first word of SplitMix64 (Steele, Lea and Flood) whose state is s
abbrev pub word : ℕ → ℕ
word s =
    let z = folded (folded ((s + 0x9E3779B97F4A7C15) % 2 ^ 64) 30 0xBF58476D1CE4E5B9) 27 0x94D049BB133111EB in
    bit_xor z (z / 2 ^ 31)

-- Numbers from this one on are those of symbols by their names: so many for each code.
abbrev pub number_base : ℕ
number_base = 4096

-- the word that many words after the one of a state
abbrev pub word_past : ℕ → ℕ → ℕ
word_past state n = word ((state + 1 + n) % 2 ^ 64)

-- The key of a number below a key. By its name a symbol has a code and a count among those of its code, and takes two
-- steps.
abbrev pub grown_key : ℕ → ℕ → ℕ
grown_key key number = if nat_lt number number_base then word_past key number else word_past (word_past key (number / number_base)) (number % number_base)

-- the key of the axiom's symbol with a number
abbrev pub axiom_key_of : ℕ → ℕ → ℕ
axiom_key_of seed number = grown_key seed number

-- the key of the child with a number of a symbol with this key
abbrev pub child_key_of : ℕ → ℕ → ℕ
child_key_of key number = grown_key key number

-- The key of the symbol with a lineage: its number in the axiom, then its number among the children at each level.
-- No symbol has the empty lineage.
abbrev pub key_of : ℕ → List ℕ → ℕ
key_of seed [] = seed
key_of seed (number ∷ below) = fold child_key_of (axiom_key_of seed number) below

-- the draw of a module with this key
abbrev pub draw_of : ℕ → ℕ
draw_of key = word key

-- where a draw of 64 bits falls on a line as long as the sum of the weights
abbrev pub aim_of : ℕ → List ℕ → ℕ
aim_of draw weights = draw * sum weights / 2 ^ 64

-- None where the weights sum to 0; else the least place up to which they sum to more than the aim
abbrev pub IsPick : ℕ → List ℕ → Option ℕ → Type 0
IsPick draw weights None = sum weights ≡ 0
IsPick draw weights (Some place) =
    (place < length weights)
    × (aim_of draw weights < sum (take (place + 1) weights))
    × ((k : ℕ) → k < place → sum (take (k + 1) weights) ≤ aim_of draw weights)

-- the place at which an aim falls when the weights are laid end to end
abbrev pub place_past : ℕ → List ℕ → Option ℕ
place_past aim [] = None
place_past aim (w ∷ ws) = if nat_lt aim w then Some 0 else option_map (λ i. i + 1) (place_past (aim - w) ws)

-- the picked place, computed
abbrev pub pick_of : ℕ → List ℕ → Option ℕ
pick_of draw weights = place_past (aim_of draw weights) weights

-- what a pick was before the rule at a place was split in two
abbrev pub unsplit : ℕ → Option ℕ → Option ℕ
unsplit place picked = option_map (λ i. if nat_lt place i then i - 1 else i) picked
