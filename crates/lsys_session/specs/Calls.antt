-- What a call of a session leaves, told of the parameters that it is lent.
use Rattle.std.specs.Prelude.{ℕ, Bool, Result, List}
use Rattle.lsys_syntax.specs.Calls.{Lent}
use Rattle.lsys_io.specs.declared.Failed.{Failed}
use Rattle.lsys_io.specs.declared.Sink.{Ghosts as SinkOf}
use Rattle.lsys_spec.specs.Systems.{System}
use Rattle.lsys_spec.specs.Lattices.{Lattice}
use Rattle.lsys_spec.specs.Costs.{Visits}
use Rattle.lsys_spec.specs.Pictures.{picture}
use Rattle.lsys_spec.specs.Refusals.{Reply}
use Rattle.lsys_level.specs.Spots.{Spotted}
use Rattle.lsys_out.specs.Drawings.{last_symbols}
use Rattle.lsys_out.specs.LastPictures.{Draws}
use Rattle.lsys_out.specs.declared.refusal.PictureRefusal.{PictureRefusal as Refusal}
use Rattle.lsys_rewrite.specs.declared.refusal.DeriveRefusal.{DeriveRefusal}
use Rattle.lsys_session.specs.Answers.{Counters, WasAnswered, WasCounted, is_derived}
use Rattle.lsys_session.specs.Given.{WasGiven, WasLed, WasPrinted, is_edit, picture_reply, picture_request, picture_text}
use Rattle.lsys_session.specs.Sessions.{WasSaid, derivation_outcome}
use Rattle.lsys_session.specs.Requests.{derivation_line}
use Rattle.lsys_session.specs.declared.outcome.Outcome.{Outcome}
use Rattle.lsys_session.specs.declared.pictures.Picture.{Picture}
use Rattle.lsys_session.specs.declared.request.Request.{Request}

-- 1. what is written

-- a text was put and all that was held is written, and this became of the line; or the sink failed
abbrev pub Says : {K : Type 0} → SinkOf K → Lent K → Lent (List ℕ) → List ℕ → Outcome → Result Outcome Failed → Type 0
Says K sink out text became result = WasSaid K.written K.faults sink.entry.now sink.exit.now out.exit.now text became result

-- this reply to a query of the system, or `refused memory`, was put whole
abbrev pub Prints : {K : Type 0} → SinkOf K → Lent K → Lent (List ℕ) → System → Reply → Result Outcome Failed → Type 0
Prints K sink out s reply result = WasPrinted K.written K.faults sink.entry.now sink.exit.now out.exit.now s reply result

-- the picture of a system's last level, or why there is none, or `refused memory`, was put whole
abbrev pub PrintsPicture : {K : Type 0} → Picture → SinkOf K → Lent K → Lent (List ℕ) → System → List (List Spotted) → Result Outcome Failed → Type 0
PrintsPicture kind K sink out s levels result = (naming : ℕ → List ℕ) → Prints K sink out s (picture_reply kind s (picture s (last_symbols naming s levels))) result

-- the text of this kind of the last level's picture on a lattice was put; or it is refused, or the sink failed
abbrev pub DrawsKind : {K : Type 0} → Picture → SinkOf K → Lent K → Lent (List ℕ) → Lattice → System → List (List Spotted) → Result (Unit {0}) Refusal → Type 0
DrawsKind kind K sink out l s levels result = Draws K sink out (picture_text kind l) l s levels result

-- why a system has no levels was put whole
abbrev pub SaysNoLevels : {K : Type 0} → SinkOf K → Lent K → Lent (List ℕ) → DeriveRefusal → Result Outcome Failed → Type 0
SaysNoLevels K sink out refusal result = Says K sink out (derivation_line refusal) (derivation_outcome refusal) result

-- a session of this derivation tells what is requested, and stays as it is
abbrev pub Quotes : {K D : Type 0} → SinkOf K → Lent K → Lent (List ℕ) → (D → ℕ) → (D → System) → D → Request → Result Outcome Failed → Type 0
Quotes K sink out limit_of system_of d request result =
    WasGiven K.written K.faults sink.entry.now sink.exit.now out.exit.now (limit_of d) (system_of d) (system_of d) request result

abbrev pub TellsPicture : {K D : Type 0} → SinkOf K → Lent K → Lent (List ℕ) → (D → ℕ) → (D → System) → D → Picture → Result Outcome Failed → Type 0
TellsPicture K sink out limit_of system_of d kind result = Quotes K sink out limit_of system_of d (picture_request kind) result

-- 2. what is written, and where the session goes on; its derivations are told by their limits and systems

-- the reply to a request, or `refused memory`
abbrev pub Gives : {K D : Type 0} → SinkOf K → Lent K → Lent (List ℕ) → (D → ℕ) → (D → System) → Lent D → Request → Result Outcome Failed → Type 0
Gives K sink out limit_of system_of session request result =
    WasGiven K.written K.faults sink.entry.now sink.exit.now out.exit.now (limit_of session.entry.now) (system_of session.entry.now) (system_of session.exit.now) request result

-- the reply to a line, or `refused memory`
abbrev pub Answers : {K D : Type 0} → SinkOf K → Lent K → Lent (List ℕ) → (D → ℕ) → (D → System) → Lent D → List ℕ → Result Outcome Failed → Type 0
Answers K sink out limit_of system_of session line result =
    WasAnswered K.written K.faults sink.entry.now sink.exit.now out.exit.now (limit_of session.entry.now) (system_of session.entry.now) (system_of session.exit.now) line result

-- the reply of the edit that leads to a system, or `refused memory`
abbrev pub LeadsTo : {K D : Type 0} → SinkOf K → Lent K → Lent (List ℕ) → (D → ℕ) → (D → System) → Lent D → System → Result Outcome Failed → Type 0
LeadsTo K sink out limit_of system_of session to result =
    WasLed K.written K.faults sink.entry.now sink.exit.now out.exit.now (limit_of session.entry.now) (system_of session.entry.now) to (system_of session.exit.now) result

-- 3. counters: of the questions that are asked, and of the entries that are read

abbrev pub counters : ℕ → ℕ → Counters
counters asked visited = record { asked = asked; visited = visited }

-- The counters rise by what the session's step needs. `derived` tells whether a refusal is that of levels.
abbrev pub CountsNeed : {D : Type 0} → Visits → (D → ℕ) → (D → System) → Lent D → Lent ℕ → Lent ℕ → Bool → Result Outcome Failed → Type 0
CountsNeed visits limit_of system_of session asked visited derived result =
    WasCounted visits (limit_of session.entry.now) derived (system_of session.entry.now) (system_of session.exit.now)
    (counters asked.entry.now visited.entry.now) (counters asked.exit.now visited.exit.now) result

abbrev pub CountsRequest : {D : Type 0} → Visits → (D → ℕ) → (D → System) → Lent D → Lent ℕ → Lent ℕ → Request → Result Outcome Failed → Type 0
CountsRequest visits limit_of system_of session asked visited request result = CountsNeed visits limit_of system_of session asked visited (is_edit request) result

abbrev pub CountsAtLine : {D : Type 0} → Visits → (D → ℕ) → (D → System) → Lent D → Lent ℕ → Lent ℕ → List ℕ → Result Outcome Failed → Type 0
CountsAtLine visits limit_of system_of session asked visited line result =
    CountsNeed visits limit_of system_of session asked visited (is_derived (system_of session.entry.now) line) result
