-- Parallel rewriting, level by level (ABOP 1.2), the fault of a derivation, and the limit of its size.
use Rattle.std.specs.Prelude.{ℕ, zero, suc, ℤ, Bool, Option, Some, None, Result, Ok, Err, List, [], ◌∷◌, ◌++◌, ◌+◌, not, length, sum_by, nat_lt, is_some, if◌then◌else◌}
pub use Rattle.lsys_syntax.specs.Limits.{most_entries}
use Rattle.lsys_syntax.specs.Strings.{ModuleName}
use Rattle.lsys_syntax.specs.Commands.{ListKind, to_ignore, to_consider, Numbering}
use Rattle.lsys_syntax.specs.Strings as S
use Rattle.lsys_spec.specs.Draws.{key_of}
use Rattle.lsys_spec.specs.Numbers.{code_of, number_at}
use Rattle.lsys_spec.specs.Systems.{System, same_name}
use Rattle.lsys_spec.specs.Values.{Tree, value, Arith, ◌and_then◌}
use Rattle.lsys_spec.specs.Bodies.{Body, group, Filter, filter}
use Rattle.lsys_spec.specs.Levels.{ModuleValue, LevelSymbol, Push, Pop, Module, way, items_from}
use Rattle.lsys_spec.specs.Walks.{Told, any_holds}
use Rattle.lsys_spec.specs.Choice.{Fault, as_fault, Choice, NoRule, Chosen, Failed, Asking, choice}
use Rattle.lsys_spec.specs.Cuts.{Raw, Plain, Cut, cut}

-- the symbol with a lineage
abbrev pub raw_of : List ℕ → S.Symbol ℤ → Raw
raw_of l (S.Module name ps) = Plain (Module l (record { name = name; params = ps }))
raw_of l S.Push = Plain (Push l)
raw_of l S.Pop = Plain (Pop l)
raw_of l S.Cut = Cut l

-- these symbols as children of a lineage, after n of them that have these codes
abbrev pub numbered : Numbering → ℕ → List ℕ → List ℕ → List (S.Symbol ℤ) → List Raw
numbered g n before l [] = []
numbered g n before l (x ∷ xs) = raw_of (l ++ number_at g n before (code_of x) ∷ []) x ∷ numbered g (n + 1) (code_of x ∷ before) l xs

-- all children of a lineage
abbrev pub children : Numbering → List ℕ → List (S.Symbol ℤ) → List Raw
children g l xs = numbered g 0 [] l xs

-- level 0: the axiom after its cut
abbrev pub first_level : System → List LevelSymbol
first_level s = cut (children s.numbering [] s.axiom_string)

abbrev pub ignores : List ModuleName → ModuleName → Bool
ignores names n = any_holds (λ i. same_name i n) names

abbrev pub by_kind : ListKind → Bool → Bool
by_kind to_ignore b = b
by_kind to_consider b = not b

-- of a list of names to ignore the names, of one to consider all others
abbrev pub ignored_by : Filter → ModuleName → Bool
ignored_by f n = by_kind f.kind (ignores f.names n)

-- a rule of the group has a weight
abbrev pub any_weight : List Body → Bool
any_weight bs = any_holds (λ b. is_some b.weight) bs

-- the key, where the group has weights: all its rules have one, or none has
abbrev pub key_for : System → List ℕ → List Body → Option ℕ
key_for s l bs = if any_weight bs then Some (key_of s.seed l) else None

-- of a module of level t
abbrev pub asking : System → ℕ → ModuleValue → Asking
asking s t m = record { ignored = ignored_by (filter s t); most = most_entries; own = m }

-- what is read for the module m at place p of level t, which is x, and which rule of these bodies is chosen
abbrev pub asked : System → ℕ → List Body → List LevelSymbol → ℕ → List ℕ → ModuleValue → Told Choice
asked s t bs x p l m = choice (asking s t m) (key_for s l bs) (way x p) (items_from x (p + 1)) bs

abbrev pub filled_params : List Tree → List ℤ → Result (List ℤ) Arith
filled_params [] bound = Ok []
filled_params (t ∷ ts) bound = value t bound and_then λ z. filled_params ts bound and_then λ zs. Ok (z ∷ zs)

-- a successor with its parameters, evaluated from left to right
abbrev pub filled : List (S.Symbol Tree) → List ℤ → Result (List (S.Symbol ℤ)) Arith
filled [] bound = Ok []
filled (S.Module n ts ∷ xs) bound = filled_params ts bound and_then λ zs. filled xs bound and_then λ ys. Ok (S.Module n zs ∷ ys)
filled (S.Push ∷ xs) bound = filled xs bound and_then λ ys. Ok (S.Push ∷ ys)
filled (S.Pop ∷ xs) bound = filled xs bound and_then λ ys. Ok (S.Pop ∷ ys)
filled (S.Cut ∷ xs) bound = filled xs bound and_then λ ys. Ok (S.Cut ∷ ys)

-- the successor of the rule at a place (A chosen rule is one of them, so none is missed.)
abbrev pub filled_at : List Body → ℕ → List ℤ → Result (List (S.Symbol ℤ)) Fault
filled_at [] g values = Ok []
filled_at (b ∷ bs) zero values = as_fault (filled b.successor values)
filled_at (b ∷ bs) (suc g) values = filled_at bs g values

-- the successor of a module: of the chosen rule, or the module itself
abbrev pub successor_by : List Body → ModuleValue → Choice → Result (List (S.Symbol ℤ)) Fault
successor_by bs m NoRule = Ok (S.Module m.name m.params ∷ [])
successor_by bs m (Chosen g values) = filled_at bs g values
successor_by bs m (Failed k) = Err k

abbrev pub successor : System → ℕ → List LevelSymbol → ℕ → List ℕ → ModuleValue → Result (List (S.Symbol ℤ)) Fault
successor s t x p l m =
    let bs = group s t m.name (length m.params) in successor_by bs m (asked s t bs x p l m).answer

-- what replaces the symbol at place p of the level x, which is level t: a bracket stays
abbrev pub replacement : System → ℕ → List LevelSymbol → ℕ → LevelSymbol → Result (List (S.Symbol ℤ)) Fault
replacement s t x p (Push l) = Ok (S.Push ∷ [])
replacement s t x p (Pop l) = Ok (S.Pop ∷ [])
replacement s t x p (Module l m) = successor s t x p l m

-- why a system has no levels up to its depth
pub data LevelRefusal : Type 0 where
  OverLimit : ℕ → LevelRefusal  -- the first level at which the lengths sum to more than the limit
  FaultAt : Fault → ℕ → ℕ → LevelRefusal  -- the leftmost fault of a level, with the number of its module, counted from 1

abbrev pub fault_at : {A : Type 0} → ℕ → ℕ → Result A Fault → Result A LevelRefusal
fault_at t n (Ok a) = Ok a
fault_at t n (Err k) = Err (FaultAt k t n)

-- The children of the symbols of level t from place p on, where n modules stand before them; brackets give themselves.
abbrev pub children_from : System → ℕ → List LevelSymbol → ℕ → ℕ → List LevelSymbol → Result (List Raw) LevelRefusal
children_from s t x p n [] = Ok []
children_from s t x p n (Push l ∷ rest) = children_from s t x (p + 1) n rest and_then λ more. Ok (children s.numbering l (S.Push ∷ []) ++ more)
children_from s t x p n (Pop l ∷ rest) = children_from s t x (p + 1) n rest and_then λ more. Ok (children s.numbering l (S.Pop ∷ []) ++ more)
children_from s t x p n (Module l m ∷ rest) =
    fault_at t (n + 1) (successor s t x p l m) and_then λ ys. children_from s t x (p + 1) (n + 1) rest and_then λ more. Ok (children s.numbering l ys ++ more)

-- the level after level t, or the leftmost fault of level t
abbrev pub next_level : System → ℕ → List LevelSymbol → Result (List LevelSymbol) LevelRefusal
next_level s t x = children_from s t x 0 0 x and_then λ raws. Ok (cut raws)

abbrev pub within_limit : ℕ → ℕ → List (List LevelSymbol) → Result (List (List LevelSymbol)) LevelRefusal
within_limit limit t levels = if nat_lt limit (sum_by length levels) then Err (OverLimit t) else Ok levels

-- (There is always level 0.)
abbrev pub last_level : List (List LevelSymbol) → List LevelSymbol
last_level [] = []
last_level (x ∷ []) = x
last_level (x ∷ y ∷ xs) = last_level (y ∷ xs)

-- over the limit at 0, a fault of level 0, over at 1, and so on to level t: the first that holds is the refusal, else the levels 0 to t
abbrev pub meaning_to : System → ℕ → ℕ → Result (List (List LevelSymbol)) LevelRefusal
meaning_to s limit zero = within_limit limit 0 (first_level s ∷ [])
meaning_to s limit (suc t) =
    meaning_to s limit t and_then λ levels. next_level s t (last_level levels) and_then λ x. within_limit limit (suc t) (levels ++ x ∷ [])

abbrev pub meaning : System → ℕ → Result (List (List LevelSymbol)) LevelRefusal
meaning s limit = meaning_to s limit s.depth
