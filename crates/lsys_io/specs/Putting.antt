-- What a call puts that is lent a sink, and what holds the bytes before it.
use Rattle.std.specs.Prelude.{ℕ, List, Result}
use Rattle.lsys_syntax.specs.Calls.{Lent}
use Rattle.lsys_io.specs.Writes.{WasPut}
use Rattle.lsys_io.specs.declared.Failed.{Failed}
use Rattle.lsys_io.specs.declared.Sink.{Ghosts as SinkOf}

-- A text was put; or the sink failed, a front of it was written, and nothing is held any more.
abbrev pub Puts : {K A : Type 0} → SinkOf K → Lent K → Lent (List ℕ) → List ℕ → Result A Failed → Type 0
Puts K sink out text result =
    WasPut K.written K.faults sink.entry.now sink.exit.now out.entry.now out.exit.now text result
