-- What an undo and a redo lead back to.
use Rattle.std.specs.Prelude.{◌-◌, ℕ, List, [], ◌∷◌, ◌++◌, length, take, drop, refl, slice_get, Option}
use Rattle.std.specs.Coded.{Coded, code_by, coded×, coded_list}

-- so many values are kept in all
abbrev pub most_kept : ℕ
most_kept = 32

-- the values before the present one, and those that were undone: the nearest of each at its end
pub record Timeline (X : Type 0) : Type 0 where
  pub past : List X
  pub future : List X

module _ {X : Type 0} where
  abbrev pub timeline : List X → List X → Timeline X
  timeline past future = record { past = past; future = future }

  abbrev pub timeline_code : Coded X → Coded (Timeline X)
  timeline_code c = code_by (List X × List X) (coded× (coded_list c) (coded_list c)) (λ h. (h.past, h.future)) (λ p. timeline p.0 p.1) (λ _. refl)

  abbrev pub nothing_kept : Timeline X
  nothing_kept = timeline [] []

  -- the nearest of some values
  abbrev pub nearest : List X → Option X
  nearest xs = slice_get xs (length xs - 1)

  -- all others
  abbrev pub others : List X → List X
  others xs = take (length xs - 1) xs

  -- An edit leads away from the value: it is the nearest of the past, in which the last 32 are kept, and what was undone is forgotten.
  abbrev pub after_edit : Timeline X → X → Timeline X
  after_edit h x = let past = h.past ++ x ∷ [] in timeline (drop (length past - most_kept) past) []

  -- An undo leads from the present value to the nearest of the past.
  abbrev pub after_undo : Timeline X → X → Timeline X
  after_undo h present = timeline (others h.past) (h.future ++ present ∷ [])

  -- A redo leads from the present value to the nearest of those that were undone.
  abbrev pub redone : Timeline X → X → Timeline X
  redone h present = timeline (h.past ++ present ∷ []) (others h.future)
