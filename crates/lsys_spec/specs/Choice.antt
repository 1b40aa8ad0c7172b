-- What the rules of a group read at a module, and which one is chosen (ABOP 1.7, 1.8 and 1.10).
use Rattle.std.specs.Prelude.{ℕ, zero, suc, ℤ, pos, negsuc, Bool, true, false, Option, Some, None, Result, Ok, Err, List, [], ◌∷◌, ◌++◌, ◌+◌, length, map, flat_map, reverse, sum, if◌then◌else◌, nat_lt}
use Rattle.lsys_syntax.specs.Limits.{greatest_weight}
use Rattle.lsys_syntax.specs.Strings.{ModuleName}
use Rattle.lsys_spec.specs.Draws.{draw_of, pick_of}
use Rattle.lsys_spec.specs.Values.{Tree, value, judged, Arith, ◌and_then◌}
use Rattle.lsys_spec.specs.Bodies.{Body}
use Rattle.lsys_spec.specs.Levels.{ModuleValue, Step, Items}
use Rattle.lsys_spec.specs.Walks.{Mark, Told, Found, says, followed, joined, left_walk, right_walk}

-- why a module can't be replaced
pub data Fault : Type 0 where
  Arithmetic : Arith → Fault
  NegativeWeight : Fault
  WeightTotal : Fault
  TooFar : Fault

abbrev pub as_fault : {A : Type 0} → Result A Arith → Result A Fault
as_fault (Ok a) = Ok a
as_fault (Err e) = Err (Arithmetic e)

-- of a rule at a module: it doesn't apply; it applies with these values of its formals; or a fault
pub data Outcome : Type 0 where
  No : Outcome
  Yes : List ℤ → Outcome
  Fails : Fault → Outcome

-- no rule; or the chosen one, by its place in the group, with its values; or a fault
pub data Choice : Type 0 where
  NoRule : Choice
  Chosen : ℕ → List ℤ → Choice
  Failed : Fault → Choice

-- what is asked: whether a letter is ignored, how many entries may be read at most, and for which module
pub record Asking : Type 0 where
  pub ignored : ModuleName → Bool
  pub most : ℕ
  pub own : ModuleValue

-- 1. a rule

-- before a rule is tried: its place in the group, and how many entries were read for the rules before it
pub record Tried : Type 0 where
  pub place : ℕ
  pub read : ℕ

abbrev pub none_tried : Tried
none_tried = record { place = 0; read = 0 }

abbrev pub after_rule : Tried → Told Found → Tried
after_rule d t = record { place = d.place + 1; read = d.read + length t.entries }

-- the right walk is made where the left context matched
abbrev pub right_after : (ModuleName → Bool) → Mark → Body → ModuleValue → Items → Found → Told Found
right_after ignored d b own r None = says None
right_after ignored d b own r (Some ms) = joined (ms ++ own ∷ []) (right_walk ignored d b.right r)

-- a rule's walks: the modules of its left context, its own, and those of its right context
abbrev pub contexts : (ModuleName → Bool) → Mark → Body → ModuleValue → List Step → Items → Told Found
contexts ignored d b own w r =
    let t = left_walk ignored d (reverse b.left) w in followed t (right_after ignored d b own r t.answer)

-- of the next rule of the group
abbrev pub next_contexts : Asking → List Step → Items → Tried → Body → Told Found
next_contexts a w r d b = contexts a.ignored (record { rule = d.place; depth = 0 }) b a.own w r

abbrev pub params_of : List ModuleValue → List ℤ
params_of ms = flat_map (λ m. m.params) ms

abbrev pub outcome_of : Result Bool Arith → List ℤ → Outcome
outcome_of (Ok true) values = Yes values
outcome_of (Ok false) values = No
outcome_of (Err e) values = Fails (Arithmetic e)

-- where the contexts match, the condition decides
abbrev pub fitting : Body → Found → Outcome
fitting b None = No
fitting b (Some ms) = outcome_of (judged b.condition (params_of ms)) (params_of ms)

-- before all else: with more than `most` entries in all the module is too far from what it asks about
abbrev pub outcome : ℕ → Tried → Body → Told Found → Outcome
outcome most d b t = if nat_lt most (d.read + length t.entries) then Fails TooFar else fitting b t.answer

-- 2. without weights: the first rule that applies, or the first fault

abbrev pub decided : Outcome → ℕ → Told Choice → Told Choice
decided No place others = others
decided (Yes values) place others = says (Chosen place values)
decided (Fails k) place others = says (Failed k)

abbrev pub first_applying : Asking → List Step → Items → Tried → List Body → Told Choice
first_applying a w r d [] = says NoRule
first_applying a w r d (b ∷ bs) =
    let t = next_contexts a w r d b in followed t (decided (outcome a.most d b t) d.place (first_applying a w r (after_rule d t) bs))

-- 3. with weights: all rules that apply, or the first fault

-- a rule that applies, by its place in the group, with its values and its weight
pub record Applying : Type 0 where
  pub place : ℕ
  pub values : List ℤ
  pub weight : ℕ

abbrev pub weights : List Applying → List ℕ
weights found = map (λ f. f.weight) found

abbrev pub within_total : List Applying → Result (List Applying) Fault
within_total found = if nat_lt greatest_weight (sum (weights found)) then Err WeightTotal else Ok found

abbrev pub not_negative : ℤ → Result ℕ Fault
not_negative (pos n) = Ok n
not_negative (negsuc n) = Err NegativeWeight

-- (In a well-formed system the rules of a group with weights all have one, so 0 doesn't come.)
abbrev pub weighed : Option Tree → List ℤ → Result ℕ Fault
weighed None values = Ok 0
weighed (Some t) values = as_fault (value t values) and_then not_negative

-- those that were found before, and this rule where it applies; its weight is evaluated at once
abbrev pub found_with : List Applying → ℕ → Body → Outcome → Result (List Applying) Fault
found_with found place b No = Ok found
found_with found place b (Yes values) =
    weighed b.weight values and_then λ weight. within_total (found ++ record { place = place; values = values; weight = weight } ∷ [])
found_with found place b (Fails k) = Err k

-- after those that were found before; after a fault no rule is tried
abbrev pub all_applying : Asking → List Step → Items → Tried → Result (List Applying) Fault → List Body → Told (Result (List Applying) Fault)
all_applying a w r d (Err k) bs = says (Err k)
all_applying a w r d (Ok found) [] = says (Ok found)
all_applying a w r d (Ok found) (b ∷ bs) =
    let t = next_contexts a w r d b in
    followed t (all_applying a w r (after_rule d t) (found_with found d.place b (outcome a.most d b t)) bs)

-- the one at a place (a pick is the place of one of them, so none is missed)
abbrev pub applying_at : Option ℕ → List Applying → Choice
applying_at None found = NoRule
applying_at (Some i) [] = NoRule
applying_at (Some zero) (f ∷ fs) = Chosen f.place f.values
applying_at (Some (suc i)) (f ∷ fs) = applying_at (Some i) fs

-- the pick of them by the draw of this key; none where the weights sum to 0
abbrev pub picked : ℕ → Result (List Applying) Fault → Choice
picked key (Ok found) = applying_at (pick_of (draw_of key) (weights found)) found
picked key (Err k) = Failed k

abbrev pub pick_among : ℕ → Told (Result (List Applying) Fault) → Told Choice
pick_among key t = record { entries = t.entries; answer = picked key t.answer }

-- 4. the choice; a group with weights has a key

abbrev pub choice : Asking → Option ℕ → List Step → Items → List Body → Told Choice
choice a None w r bs = first_applying a w r none_tried bs
choice a (Some key) w r bs = pick_among key (all_applying a w r none_tried (Ok []) bs)
