-- How the bytes of one line are gathered, piece after piece.
use Rattle.std.specs.Prelude.{◌≡◌, ℕ, ◌+◌, ◌<◌, ◌≤◌, List, [], ◌∷◌, ◌++◌, length, take, Bool, true, false}
use Rattle.std.specs.declared.option.Option.{Option}
use Rattle.std.specs.Io.KnownBytes.{Consumes, IsAtEnd, Keeps}
use Rattle.lsys_io.specs.declared.gathering.Gathered.{Gathered}
use Rattle.lsys_io.specs.declared.lines.LineRefusal.{LineRefusal}
use Rattle.lsys_io.specs.declared.lines.LineRefusal.TheVariants.{ReadFault, TooLong}
use Rattle.lsys_io.specs.declared.lines.LineRead.{LineRead}
use Rattle.lsys_io.specs.declared.lines.LineRead.TheVariants.{Line, Long, End}
use Rattle.lsys_syntax.specs.Lines.{without_cr}
use Rattle.lsys_syntax.specs.Calls.{Lent}
use Rattle.lsys_io.specs.Causes.{Rose}
use Rattle.lsys_io.specs.Feeds.{has_lf}
use Rattle.lsys_syntax.specs.Limits.{most_line_bytes}

-- the LF of a whole line
abbrev pub feed : Bool → List ℕ
feed true = 10 ∷ []
feed false = []

-- Bytes were split into a part of the line, its LF if they have one, and what stands after it.
pub record Splits (bytes part after : List ℕ) (whole : Bool) : Type 0 where
  pub no_lf : has_lf part ≡ false
  pub split : bytes ≡ part ++ (feed whole ++ after)
  pub rest : whole ≡ false → after ≡ []

-- The bytes of a piece went to the line, of which `count` bytes were gathered before and `room` may be.
pub record Absorbs (piece after kept_old kept_new : List ℕ) (count room : ℕ) (gathered : Gathered) : Type 0 where
  pub part : List ℕ
  pub splits : Splits piece part after gathered.whole
  pub counted : gathered.count ≡ count + length part
  pub fits : gathered.count + length (feed gathered.whole) ≤ room
  pub kept : gathered.count ≤ most_line_bytes → kept_new ≡ kept_old ++ part

-- The line at the front of the bytes was gathered.
pub record GathersLine (bytes after told : List ℕ) (room : ℕ) (gathered : Gathered) : Type 0 where
  pub line : List ℕ
  pub splits : Splits bytes line after gathered.whole
  pub counted : gathered.count ≡ length line
  pub fits : gathered.count + length (feed gathered.whole) ≤ room
  pub kept : gathered.count ≤ most_line_bytes → told ≡ line

-- No line ends among the bytes within the room. At a read fault there are no more bytes than the room.
abbrev pub Stops : List ℕ → ℕ → LineRefusal → Type 0
Stops bytes room ReadFault = (has_lf bytes ≡ false) × (length bytes ≤ room)
Stops bytes room TooLong = (room < length bytes) × (has_lf (take room bytes) ≡ false)

-- P at a read fault, Q at a script that is too long
abbrev pub IfFault : LineRefusal → Type 0 → Type 0 → Type 0
IfFault ReadFault P Q = P
IfFault TooLong P Q = Q

-- What is told of a line of `count` bytes, which were kept where they are not too many.
abbrev pub FinishesLine : LineRead → ℕ → List ℕ → List ℕ → Type 0
FinishesLine Line count kept told = (count ≤ most_line_bytes) × (told ≡ without_cr kept)
FinishesLine Long count kept told = (most_line_bytes < count) × (told ≡ [])
FinishesLine End count kept told = ⊥

-- Bytes were kept after the line, unless it is too long with them.
abbrev pub KeepsPart : ℕ → List ℕ → List ℕ → List ℕ → Type 0
KeepsPart count part kept_old kept_new =
    count + length part ≤ most_line_bytes → kept_new ≡ kept_old ++ part

-- no line ends within the room, and the bytes pass it
abbrev pub PassesRoom : ℕ → List ℕ → Type 0
PassesRoom room bytes = (room < length bytes) × (has_lf (take room bytes) ≡ false)

-- The same as Absorbs of a call that is lent the pieces.
abbrev pub AbsorbsFrom : Lent (List ℕ) → List ℕ → List ℕ → ℕ → ℕ → Gathered → Type 0
AbsorbsFrom pieces kept_old kept_new count room gathered =
    Absorbs pieces.entry.now pieces.exit.now kept_old kept_new count room gathered

-- 1. what a call does that is lent a source and the pieces read of it

-- the pieces hold more, which the source gave
abbrev pub HoldsMore : {S : Type 0} → (S → Option (List ℕ)) → Lent S → Lent (List ℕ) → Type 0
HoldsMore left source pieces =
    (given : List ℕ)
    × Consumes (left source.entry.now) (left source.exit.now) given
    × (pieces.exit.now ≡ pieces.entry.now ++ given)

-- the pieces held nothing, and the source gave nothing
abbrev pub GivesNothing : {S : Type 0} → (S → Option (List ℕ)) → Lent S → Lent (List ℕ) → Type 0
GivesNothing left source pieces =
    (pieces.entry.now ≡ []) × Keeps (left source.entry.now) (left source.exit.now)

-- the pieces hold nothing, and the source has nothing left
abbrev pub IsDrained : {S : Type 0} → (S → Option (List ℕ)) → Lent S → Lent (List ℕ) → Type 0
IsDrained left source pieces = (pieces.exit.now ≡ []) × IsAtEnd (left source.exit.now)

-- the line at the front of the bytes held and given was gathered
abbrev pub GathersGiven : {S : Type 0} → (S → Option (List ℕ)) → Lent S → Lent (List ℕ) → List ℕ → ℕ → Gathered → Type 0
GathersGiven left source pieces told room gathered =
    (given : List ℕ)
    × Consumes (left source.entry.now) (left source.exit.now) given
    × GathersLine (pieces.entry.now ++ given) pieces.exit.now told room gathered

-- no line ends among the bytes held and given
abbrev pub StopsGiven : {S : Type 0} → (S → Option (List ℕ)) → Lent S → Lent (List ℕ) → ℕ → LineRefusal → Type 0
StopsGiven left source pieces room refusal =
    (given : List ℕ)
    × Consumes (left source.entry.now) (left source.exit.now) given
    × Stops (pieces.entry.now ++ given) room refusal

-- the count of faults rose at a read fault, and stays else
abbrev pub CountsFault : {S : Type 0} → (S → ℕ) → Lent S → LineRefusal → Type 0
CountsFault faults source refusal =
    IfFault refusal
    (Rose (faults source.entry.now) (faults source.exit.now))
    (faults source.exit.now ≡ faults source.entry.now)
