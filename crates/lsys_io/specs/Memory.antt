-- Ends over memory, as their contracts see them.
use Rattle.std.specs.Prelude.{◌≡◌, ℕ, ◌+◌, ◌-◌, ◌≤◌, List, [], length, min, Contains, ◌⊎◌}

-- a source: the bytes left, how many it gives at most, at which calls it fails, and how many calls were made and failed
pub record MemoryInput : Type 0 where
  pub left : List ℕ
  pub piece : ℕ
  pub failing : List ℕ
  pub calls : ℕ
  pub faults : ℕ

-- a sink: the bytes written, for how many it has room, how many it takes at most, and the rest as in a source
pub record MemoryOutput : Type 0 where
  pub written : List ℕ
  pub room : ℕ
  pub piece : ℕ
  pub failing : List ℕ
  pub calls : ℕ
  pub faults : ℕ

-- a source of these bytes that was not called yet
abbrev pub uncalled_input : List ℕ → ℕ → List ℕ → MemoryInput
uncalled_input bytes piece failing =
    record { left = bytes; piece = piece; failing = failing; calls = 0; faults = 0 }

-- a sink with this room that was not called yet
abbrev pub uncalled_output : ℕ → ℕ → List ℕ → MemoryOutput
uncalled_output room piece failing =
    record { written = []; room = room; piece = piece; failing = failing; calls = 0; faults = 0 }

-- how many bytes a source gives into a buffer
abbrev pub amount_given : MemoryInput → List ℕ → ℕ
amount_given source into = min source.piece (min (length into) (length source.left))

-- how many bytes of a piece a sink takes
abbrev pub amount_taken : MemoryOutput → List ℕ → ℕ
amount_taken sink piece = min sink.piece (min (length piece) (sink.room - length sink.written))

-- the next call is one of those at which the sink fails, or no byte is free
abbrev pub IsListedOrFull : MemoryOutput → Type 0
IsListedOrFull sink = Contains sink.failing (sink.calls + 1) ⊎ (sink.room ≤ length sink.written)

-- the room, the greatest piece and the calls that fail are the same
abbrev pub HasSameLimits : MemoryOutput → MemoryOutput → Type 0
HasSameLimits old new = (new.room ≡ old.room) × (new.piece ≡ old.piece) × (new.failing ≡ old.failing)
