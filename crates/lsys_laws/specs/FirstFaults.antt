-- Which fault of values is told, and at which place a `many`.
use Rattle.std.specs.Prelude.{◌≡◌, ◌↔◌, ℤ, Err, List, ◌⊎◌, neg_ℤ, Ok, [], ◌∷◌, false, true, ◌+◌, ℕ, Some, None, ◌≤◌}
use Rattle.lsys_syntax.specs.Strings as S
use Rattle.lsys_syntax.specs.Pieces.{Piece}
use Rattle.lsys_syntax.specs.Checks.{Counts, many_place}
use Rattle.lsys_syntax.specs.Rules.{Production}
use Rattle.lsys_spec.specs.Values.{Tree, Arith, Negation, exact, value, Inversion, Binary, Operator, applied, Both, is_zero, Either}
use Rattle.lsys_spec.specs.Meaning.{filled_params, filled}
use Rattle.lsys_spec.specs.Systems.{System}
use Rattle.lsys_spec.specs.Edits.{Refusal, many, production_refusal}
use Rattle.lsys_laws.specs.Faults.{IsFirstFault, all_params}
use Rattle.lsys_laws.specs.FirstMany.{PassesAt, IsLeast, Passes}

-- parameters fail by the first of them, from the left, that has no value
abbrev pub ParametersFailByTheFirst : Type 0
ParametersFailByTheFirst =
    (ts : List Tree) (bound : List ℤ) (e : Arith)
    → (filled_params ts bound ≡ Err e) ↔ IsFirstFault bound ts e

-- a successor fails by the first of all its parameters that has no value
abbrev pub SuccessorsFailByTheFirstParameter : Type 0
SuccessorsFailByTheFirstParameter =
    (xs : List (S.Symbol Tree)) (bound : List ℤ) (e : Arith)
    → (filled xs bound ≡ Err e) ↔ IsFirstFault bound (all_params xs) e

-- a negation fails by its operand's fault, or because its value is too great
abbrev pub NegationsFailByTheirOperand : Type 0
NegationsFailByTheirOperand =
    (t : Tree) (bound : List ℤ) (e : Arith) → (value (Negation t) bound ≡ Err e)
    ↔ ((value t bound ≡ Err e) ⊎ ((x : ℤ) × (value t bound ≡ Ok x) × (exact (neg_ℤ x) ≡ Err e)))

-- an inversion fails by its operand's fault alone
abbrev pub InversionsFailByTheirOperand : Type 0
InversionsFailByTheirOperand =
    (t : Tree) (bound : List ℤ) (e : Arith)
    → (value (Inversion t) bound ≡ Err e) ↔ (value t bound ≡ Err e)

-- an operator's value fails by the first fault of its
-- operands, or by the operator's at their values
abbrev pub OperatorsFailAfterTheirOperands : Type 0
OperatorsFailAfterTheirOperands =
    (op : Operator) (t u : Tree) (bound : List ℤ) (e : Arith)
    → (value (Binary op t u) bound ≡ Err e)
    ↔ (IsFirstFault bound (t ∷ u ∷ []) e ⊎ ((x : ℤ) × (y : ℤ)
    × (value t bound ≡ Ok x) × (value u bound ≡ Ok y) × (applied op x y ≡ Err e)))

-- the right side of `&&` fails only where the left one is not 0
abbrev pub TheRightOfBothCountsOnlyWhereTheLeftHolds : Type 0
TheRightOfBothCountsOnlyWhereTheLeftHolds =
    (t u : Tree) (bound : List ℤ) (e : Arith) → (value (Both t u) bound ≡ Err e)
    ↔ ((value t bound ≡ Err e)
    ⊎ ((x : ℤ) × (value t bound ≡ Ok x) × (is_zero x ≡ false) × (value u bound ≡ Err e)))

-- the right side of `||` fails only where the left one is 0
abbrev pub TheRightOfEitherCountsOnlyWhereTheLeftFails : Type 0
TheRightOfEitherCountsOnlyWhereTheLeftFails =
    (t u : Tree) (bound : List ℤ) (e : Arith) → (value (Either t u) bound ≡ Err e)
    ↔ ((value t bound ≡ Err e)
    ⊎ ((x : ℤ) × (value t bound ≡ Ok x) × (is_zero x ≡ true) × (value u bound ≡ Err e)))

-- the place that is told is the least at which any limit is passed
abbrev pub ManyIsToldAtTheLeastPlace : Type 0
ManyIsToldAtTheLeastPlace =
    (c : Counts) (n : ℕ) (ps : List Piece) (place : ℕ)
    → (many_place c n ps ≡ Some place) ↔ ((k : ℕ) × (place ≡ n + k) × IsLeast (PassesAt c ps) k)

-- none is told exactly where no limit is passed
abbrev pub ManyIsToldOnlyPastALimit : Type 0
ManyIsToldOnlyPastALimit =
    (c : Counts) (n : ℕ) (ps : List Piece)
    → (many_place c n ps ≡ None) ↔ ((k : ℕ) → PassesAt c ps k → ⊥)

-- a production that is too long is refused at the least
-- place of its line at which a limit is passed
abbrev pub ProductionsAreManyAtTheLeastPlace : Type 0
ProductionsAreManyAtTheLeastPlace =
    (s : System) (n : ℕ) (p : Production) (r : Refusal) → 1 ≤ n
    → production_refusal s n p ≡ Some r → r.why ≡ many → IsLeast (Passes s n p) r.place
