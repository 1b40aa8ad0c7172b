-- What is kept while the symbols of an image are taken one by one.
use Rattle.std.specs.Prelude.{◌≡◌, ◌<◌, ◌≤◌, ◌+◌, ◌-◌, ◌^◌, ℕ, ℤ, Bool, true, false, Option, Some, None, List, [], ◌∷◌, ◌++◌, length, map, take, nat_lt, slice_set, Contains, ◌&&◌}
use Rattle.lsys_syntax.specs.Strings as S
use Rattle.lsys_spec.specs.Systems.{Each}
use Rattle.lsys_spec.specs.Lattices.{Lattice, IsWithin, frames}
use Rattle.lsys_spec.specs.Pictures.{act}
use Rattle.lsys_lattice.specs.Effects.{Stand, Walker, done, walker, walked, stepped, first_walker, stand_from, walker_from}
use Rattle.lsys_module.specs.Views.{module_name}
use Rattle.lsys_module.specs.declared.symbol.Module.{Module}
use Rattle.lsys_motion.specs.Pieces.{ImagePiece, single, IsNear}
use Rattle.lsys_motion.specs.Trees.{Trees, stands_of, pieces_of, AreNear}

-- What is open: a branch, with the stand before it; or a piece, by its number and the number of symbols before it, with the stand at which
-- it began.
pub record OpenMark : Type 0 where
  pub piece : Option ℕ
  pub before : ℕ
  pub stand : Stand

-- The stand is seen from where the last piece that is open began.
pub record Keeper : Type 0 where
  pub pieces : List ImagePiece
  pub marks : List OpenMark  -- the innermost first
  pub here : Stand
  pub symbols : ℕ

-- a place that is seen from one within reach
abbrev pub HasSmallPlace : Stand → Type 0
HasSmallPlace h = IsWithin (2 ^ 40) h.place

-- 1. one change

-- a symbol begins here
abbrev pub noted : Keeper → Keeper
noted k = record k { pieces = k.pieces ++ single k.here ∷ []; symbols = k.symbols + 1 }

abbrev pub unended : Stand → ImagePiece
unended h = record { symbols = 0; pieces = 1; start = h }

-- the turtle does what a module has it do
abbrev pub module_done : Lattice → S.ModuleName → List ℤ → Keeper → Keeper
module_done l n ps k = record k { here = done l (act n ps) k.here }

-- after a module the place is still small
abbrev pub StaysSmall : Lattice → Module → Keeper → Type 0
StaysSmall l m k = let k' = module_done l (module_name m.name) m.params k in HasSmallPlace k'.here

-- of no symbol
abbrev pub empty : Lattice → Keeper
empty l = record { pieces = []; marks = []; here = (first_walker l).here; symbols = 0 }

-- a piece begins here
abbrev pub begun : Lattice → Keeper → Keeper
begun l k = record {
  pieces = k.pieces ++ unended k.here ∷ [];
  marks = record { piece = Some (length k.pieces); before = k.symbols; stand = k.here } ∷ k.marks;
  here = (first_walker l).here;
  symbols = k.symbols;
}

-- the piece with this number, which began here, ends
abbrev pub piece_ended : Lattice → ℕ → OpenMark → List OpenMark → Keeper → Keeper
piece_ended l i m ms k = record {
  pieces = slice_set k.pieces i (record { symbols = k.symbols - m.before; pieces = length k.pieces - i; start = m.stand });
  marks = ms;
  here = stand_from l m.stand k.here;
  symbols = k.symbols;
}

-- a branch begins here
abbrev pub branch_begun : Keeper → Keeper
branch_begun k = record k { marks = record { piece = None; before = 0; stand = k.here } ∷ k.marks }

-- where nothing but a branch is open last, it ends
abbrev pub left_branch : Option ℕ → OpenMark → List OpenMark → Keeper → Keeper
left_branch None m ms k = record k { marks = ms; here = m.stand }
left_branch (Some i) m ms k = k

abbrev pub branch_ended : List OpenMark → Keeper → Keeper
branch_ended [] k = k
branch_ended (m ∷ ms) k = left_branch m.piece m ms k

abbrev pub is_piece : Option ℕ → Bool
is_piece None = false
is_piece (Some i) = true

-- more than so many are open, and the last of them is a piece
abbrev pub has_piece : ℕ → List OpenMark → Bool
has_piece depth [] = false
has_piece depth (m ∷ ms) = nat_lt depth (length (m ∷ ms)) && is_piece m.piece

-- 2. what the keeper stands for

abbrev pub through : Lattice → Option ℕ → Stand → Stand → Stand
through l None from h = h
through l (Some i) from h = stand_from l from h

-- a stand, seen from the start
abbrev pub up : Lattice → List OpenMark → Stand → Stand
up l [] h = h
up l (m ∷ ms) h = up l ms (through l m.piece m.stand h)

abbrev pub out_of : Lattice → Option ℕ → Stand → Walker → Walker
out_of l None from w = record w { saved = w.saved ++ from ∷ [] }
out_of l (Some i) from w = walker_from l from [] w

-- a walker, seen from the start
abbrev pub outward : Lattice → List OpenMark → Walker → Walker
outward l [] w = w
outward l (m ∷ ms) w = outward l ms (out_of l m.piece m.stand w)

-- the stands on a walker's way, before each symbol
abbrev pub heres : Lattice → List (S.Symbol ℤ) → Walker → List Stand
heres l [] w = []
heres l (x ∷ xs) w = w.here ∷ heres l xs (stepped l x w)

-- in the last piece that is open stand trees; before it the other pieces and stands
pub record IsOpen (l : Lattice) (m : OpenMark) (seen : Stand → Stand) (i : ℕ) (ps : List ImagePiece) (hs : List Stand) : Type 0 where
  pub trees : Trees
  pub before : List ImagePiece
  pub stands : List Stand
  pub pieces_are : ps ≡ before ++ unended m.stand ∷ pieces_of l trees
  pub stands_are : hs ≡ stands ++ map (λ h. seen (stand_from l m.stand h)) (stands_of l trees)
  pub number : length before ≡ i
  pub count : length stands ≡ m.before
  pub near_start : IsNear (seen m.stand)
  pub near : AreNear l (λ h. seen (stand_from l m.stand h)) trees

-- nothing is open
pub record IsWhole (l : Lattice) (ps : List ImagePiece) (hs : List Stand) : Type 0 where
  pub trees : Trees
  pub pieces_are : ps ≡ pieces_of l trees
  pub stands_are : hs ≡ stands_of l trees
  pub near : AreNear l (λ h. h) trees

abbrev pub HoldsIn : Lattice → Option ℕ → OpenMark → (Stand → Stand) → (List ImagePiece → List Stand → Type 0) → List ImagePiece → List Stand → Type 0
HoldsIn l None m seen below ps hs = below ps hs
HoldsIn l (Some i) m seen below ps hs = (o : IsOpen l m seen i ps hs) × below o.before o.stands

-- The pieces hold these stands, one before each symbol.
abbrev pub Holds : Lattice → List OpenMark → List ImagePiece → List Stand → Type 0
Holds l [] ps hs = IsWhole l ps hs
Holds l (m ∷ ms) ps hs = HoldsIn l m.piece m (up l ms) (λ qs gs. Holds l ms qs gs) ps hs

-- all stands on the way over a string are within reach
abbrev pub StaysNear : Lattice → List (S.Symbol ℤ) → Type 0
StaysNear l total = (n : ℕ) → IsNear (walked l (take n total) (first_walker l)).here

-- a front of the image was taken
pub record HasTaken (l : Lattice) (total front : List (S.Symbol ℤ)) (k : Keeper) : Type 0 where
  pub rest : List (S.Symbol ℤ)
  pub front_is : total ≡ front ++ rest
  pub near : StaysNear l total
  pub few : length total < 2 ^ 32
  pub here : up l k.marks k.here ≡ (walked l front (first_walker l)).here
  pub holds : Holds l k.marks k.pieces (heres l front (first_walker l))
  pub count : k.symbols ≡ length front
  pub known : Each (λ m. Contains (frames l) m.stand.frame) k.marks

-- the image is taken up to this rest, and the walker is there
pub record IsUnderway (l : Lattice) (total rest : List (S.Symbol ℤ)) (k : Keeper) : Type 0 where
  pub front : List (S.Symbol ℤ)
  pub is : total ≡ front ++ rest
  pub taken : HasTaken l total front k
  pub there : outward l k.marks (walker k.here []) ≡ walked l front (first_walker l)

-- whatever was underway still is
abbrev pub Keeps : Lattice → List (S.Symbol ℤ) → List (S.Symbol ℤ) → Keeper → Keeper → Type 0
Keeps l rest later old new = (total : List (S.Symbol ℤ)) → IsUnderway l total rest old → IsUnderway l total later new

pub record IsBusy (l : Lattice) (rest : List (S.Symbol ℤ)) (k : Keeper) : Type 0 where
  pub total : List (S.Symbol ℤ)
  pub is : IsUnderway l total rest k

-- some image is underway, of which this part is next
abbrev pub HasNext : Lattice → List (S.Symbol ℤ) → Keeper → Type 0
HasNext l part k = (rest : List (S.Symbol ℤ)) × IsBusy l (part ++ rest) k

-- of whatever is underway with this part next, the part is taken
abbrev pub Takes : Lattice → List (S.Symbol ℤ) → Keeper → Keeper → Type 0
Takes l part old new = (rest : List (S.Symbol ℤ)) → Keeps l (part ++ rest) rest old new

abbrev pub IsClear : S.Symbol ℤ → List OpenMark → Type 0
IsClear S.Pop ms = has_piece 0 ms ≡ false
IsClear x ms = Unit {0}

-- the piece that is open last can end
pub record CanEndPiece (l : Lattice) (k : Keeper) : Type 0 where
  pub number : ℕ
  pub mark : OpenMark
  pub others : List OpenMark
  pub marks : k.marks ≡ mark ∷ others
  pub piece : mark.piece ≡ Some number
  pub within : number < length k.pieces
  pub before : mark.before ≤ k.symbols
  pub small : HasSmallPlace (stand_from l mark.stand k.here)

-- the piece that is open last has ended
abbrev pub EndsPiece : Lattice → Keeper → Keeper → Type 0
EndsPiece l old new =
    (i : ℕ) (m : OpenMark) (ms : List OpenMark) → old.marks ≡ m ∷ ms → m.piece ≡ Some i → new ≡ piece_ended l i m ms old

-- whatever front of an image was taken, still is
abbrev pub KeepsTaken : Lattice → Keeper → Keeper → Type 0
KeepsTaken l old new = (total front : List (S.Symbol ℤ)) → HasTaken l total front old → HasTaken l total front new

-- some front of an image was taken
pub record HasSome (l : Lattice) (k : Keeper) : Type 0 where
  pub total : List (S.Symbol ℤ)
  pub front : List (S.Symbol ℤ)
  pub taken : HasTaken l total front k
