-- One turn of the loop over the lines.
use Rattle.std.proofs.Common.{◌≡◌, ◌≢◌, ℕ, List, [], ◌∷◌, ◌++◌, ◌+◌, ◌<◌, ◌≤◌, length, Option, Some, None, Ok, Err, Bool, true, false, ◌||◌, refl, ap, sym, subst, ◌∙◌, arith, append-nil, append_assoc}
use Rattle.std.specs.Io.KnownBytes.{Consumes, IsAtEnd, prepend_known}
use Rattle.std.specs.Option.{IfSome}
use Rattle.lsys_syntax.specs.Lines.{lines_of, without_cr}
use Rattle.lsys_syntax.specs.Limits.{most_line_bytes, most_script_bytes}
use Rattle.lsys_io.specs.Feeds.{has_lf}
use Rattle.lsys_io.specs.Reading.{LineReading, TakesLine, HasFirstLine, PassesLimit, LeavesNoLine, remaining, with_end, IsNotRefused}
use Rattle.lsys_io.specs.declared.Failed.{Failed}
use Rattle.lsys_io.specs.declared.lines.Stage.{Stage}
use Rattle.lsys_io.specs.declared.lines.Stage.TheVariants as stages
use Rattle.lsys_io.specs.declared.lines.LineRead.{LineRead}
use Rattle.lsys_io.specs.declared.lines.LineRead.TheVariants as reads
use Rattle.lsys_io.specs.declared.lines.LineRefusal.{LineRefusal}
use Rattle.lsys_io.specs.declared.lines.LineRefusal.TheVariants as refusals
use Rattle.lsys_io.specs.Causes.{Rose}
use Rattle.lsys_io.specs.LineAnswers.{OnEnd, OnLine, OnLong, OnNoEnd, OnNoFault, OnReadFault, OnTooLong}
use Rattle.lsys_history.specs.Desks.{Desk, opening_desk}
use Rattle.lsys_spec.specs.Costs.{Visits}
use Rattle.lsys_session.specs.Answers.{Counters}
use Rattle.lsys_cli.specs.Ends.{Ends, RunView}
use Rattle.lsys_session.specs.Answers.{refuses, lacks_memory, ends_session}
use Rattle.lsys_cli.specs.Runs.{AnswersRead, CountsRead, status_of, unread}
use Rattle.lsys_session.specs.declared.outcome.Outcome.{Outcome}
use Rattle.lsys_cli.specs.declared.status.Status.TheVariants.{ReadFault, WriteFault, TooLong}
use Rattle.lsys_cli.proofs.Replying.{Replied, Broke, told_line, told_broke, long_line, long_broke}
use Rattle.lsys_cli.proofs.SoFar.{Running, Finished, begin, line_more, line_last, quit_within, quit_last, no_more}
use Rattle.lsys_cli.proofs.Endings.{finished_ends, untold_ends, past_limit, read_fault_at, broke_at, of_read_fault, of_write_fault, of_too_long}

-- Where a run stands, as far as the source tells: it goes on, or all its lines are answered.
abbrev pub SoFar : Visits → ℕ → Option (List ℕ) → Stage → Option (List ℕ) → RunView → RunView → Desk → Bool → Bool → ℕ → Type 0
SoFar visits limit None stage rest old now d refused memory taken = Unit {0}
SoFar visits limit (Some script) stages.Going None old now d refused memory taken = ⊥
SoFar visits limit (Some script) stages.Going (Some rest) old now d refused memory taken = Running visits limit script rest old now d refused memory taken
SoFar visits limit (Some script) stages.Ended rest old now d refused memory taken = Finished visits limit script old now refused memory
SoFar visits limit (Some script) (stages.Refused why) rest old now d refused memory taken = ⊥

-- 1. what was read and answered

-- what next_line says of a line that is told, and of one that is too long
abbrev pub ToldLine : LineReading → LineReading → Option (List ℕ) → Option (List ℕ) → Type 0
ToldLine old new lo ln = (line : List ℕ) × TakesLine old new lo ln line × (length line ≤ most_line_bytes) × (new.line ≡ without_cr line)

abbrev pub LongLine : LineReading → LineReading → Option (List ℕ) → Option (List ℕ) → Type 0
LongLine old new lo ln = (line : List ℕ) × TakesLine old new lo ln line × (most_line_bytes < length line)

-- a line was read, and its reply put
pub record Turned (visits : Visits) (limit : ℕ) (old new : LineReading) (lo ln : Option (List ℕ)) (now now' : RunView) (d after : Desk) (o : Outcome) : Type 0 where
  pub line : List ℕ
  pub taken : TakesLine old new lo ln line
  pub replied : Replied visits limit d line now now' after o

-- or the sink failed at it
pub record Stuck (limit : ℕ) (old new : LineReading) (lo ln now now' : Option (List ℕ)) (d : Desk) : Type 0 where
  pub line : List ℕ
  pub taken : TakesLine old new lo ln line
  pub broke : Broke limit d line now now'

pub turned : {K : Type 0} (written : K → Option (List ℕ)) (faults : K → ℕ) (sink sink' : K) (held : List ℕ) (read : LineRead) (visits : Visits) (limit : ℕ) (old new : LineReading) (lo ln : Option (List ℕ)) (d after : Desk) (bare : List ℕ) (o : Outcome) (before now : Counters)
    → read ≢ reads.End → OnLine (Ok read) (ToldLine old new lo ln) → OnLong (Ok read) (LongLine old new lo ln) → bare ≡ new.line
    → AnswersRead written faults sink sink' held read limit d after bare (Ok o) → CountsRead visits read limit d after bare before now (Ok o)
    → Turned visits limit old new lo ln (record { written = written sink; counters = before }) (record { written = written sink'; counters = now }) d after o
turned written faults sink sink' held reads.Line visits limit old new lo ln d after bare o before now e (line, t, short, is) u b a c =
    record { line = line; taken = t; replied = told_line written faults sink sink' held visits limit d after line bare o before now short (b ∙ is) a c }
turned written faults sink sink' held reads.Long visits limit old new lo ln d after bare o before now e t (line, u, long) b a c =
    record { line = line; taken = u; replied = long_line written faults sink sink' held visits limit d after line o before now long a c }
turned written faults sink sink' held reads.End visits limit old new lo ln d after bare o before now e t u b a c = absurd (e refl)

pub stuck : {K : Type 0} (written : K → Option (List ℕ)) (faults : K → ℕ) (sink sink' : K) (held : List ℕ) (read : LineRead) (limit : ℕ) (old new : LineReading) (lo ln : Option (List ℕ)) (d after : Desk) (bare : List ℕ) (failed : Failed)
    → read ≢ reads.End → OnLine (Ok read) (ToldLine old new lo ln) → OnLong (Ok read) (LongLine old new lo ln) → bare ≡ new.line
    → AnswersRead written faults sink sink' held read limit d after bare (Err failed) → Stuck limit old new lo ln (written sink) (written sink') d
stuck written faults sink sink' held reads.Line limit old new lo ln d after bare failed e (line, t, short, is) u b a =
    record { line = line; taken = t; broke = told_broke written faults sink sink' held limit d after line bare failed short (b ∙ is) a }
stuck written faults sink sink' held reads.Long limit old new lo ln d after bare failed e t (line, u, long) b a =
    record { line = line; taken = u; broke = long_broke written faults sink sink' held limit d after line failed long a }
stuck written faults sink sink' held reads.End limit old new lo ln d after bare failed e t u b a = absurd (e refl)

-- 2. the next turn

-- a line that goes on
more_at : (visits : Visits) (limit : ℕ) (script : Option (List ℕ)) (stage : Stage) (rest rest' : Option (List ℕ)) (w now now' : RunView) (d next : Desk) (refused memory : Bool) (taken taken' : ℕ) (line : List ℕ) (o : Outcome)
    → SoFar visits limit script stages.Going rest w now d refused memory taken
    → has_lf line ≡ false → Consumes rest rest' (with_end stage line) → HasFirstLine rest rest' line → taken' ≡ taken + length (with_end stage line) → IsNotRefused stage
    → (stage ≡ stages.Ended → rest' ≡ Some []) → taken' ≤ most_script_bytes → Replied visits limit d line now now' next o → ends_session o ≡ false
    → SoFar visits limit script stage rest' w now' next (refused || refuses o) (memory || lacks_memory o) taken'
more_at visits limit None stage rest rest' w now now' d next refused memory taken taken' line o k n b f t g l small a z = tt
more_at visits limit (Some script) stage None rest' w now now' d next refused memory taken taken' line o k n b f t g l small a z = absurd k
more_at visits limit (Some script) stage (Some rest) None w now now' d next refused memory taken taken' line o k n b f t g l small a z = absurd b
more_at visits limit (Some script) stages.Going (Some rest) (Some rest') w now now' d next refused memory taken taken' line o k n b f t g l small a z =
    let P : List ℕ → Type 0 = λ r. Running visits limit script r w now d refused memory taken in
    line_more visits limit script line rest' w now now' d next refused memory taken taken' o (subst P b k) n t a z
more_at visits limit (Some script) stages.Ended (Some rest) (Some rest') w now now' d next refused memory taken taken' line o k n b f t g l small a z =
    let at_end : rest ≡ line = b ∙ ap (λ x. line ++ x) (some_is (l refl)) ∙ append-nil line in
    let P : List ℕ → Type 0 = λ r. Running visits limit script r w now d refused memory taken in
    let one : lines_of line ≡ line ∷ [] = ap lines_of (sym at_end) ∙ f ∙ ap (λ x. line ∷ lines_of x) (some_is (l refl)) in
    line_last visits limit script line w now now' d next refused memory taken o (subst P at_end k) one (omega (arith, t, small)) a z
  where
    some_is : {a b : List ℕ} → Some a ≡ Some b → a ≡ b
    some_is e = cc
more_at visits limit (Some script) (stages.Refused why) (Some rest) (Some rest') w now now' d next refused memory taken taken' line o k n b f t g l small a z = absurd g

-- where the end was seen, nothing remains
ended : (new : LineReading) (ln : Option (List ℕ)) → new.stage ≡ stages.Ended → remaining new ln ≡ Some []
ended new ln e = ap (λ (st : Stage). elim st [ stages.Going ↦ prepend_known new.held ln | stages.Ended ↦ Some [] | stages.Refused refusal ↦ prepend_known new.held ln ]) e

going : (visits : Visits) (limit : ℕ) (script : Option (List ℕ)) (w now : RunView) (old : LineReading) (lo : Option (List ℕ)) (d : Desk) (refused memory : Bool) → old.stage ≡ stages.Going
    → SoFar visits limit script old.stage (remaining old lo) w now d refused memory old.taken → SoFar visits limit script stages.Going (remaining old lo) w now d refused memory old.taken
going visits limit script w now old lo d refused memory e k = subst (λ (st : Stage). SoFar visits limit script st (remaining old lo) w now d refused memory old.taken) e k

pub goes_on : (visits : Visits) (limit limit' : ℕ) (script lo ln : Option (List ℕ)) (w now now' : RunView) (old new : LineReading) (d next : Desk) (refused memory refused' memory' : Bool) (o : Outcome)
    → limit' ≡ limit → old.stage ≡ stages.Going → new.taken ≤ most_script_bytes → refused' ≡ refused || refuses o → memory' ≡ memory || lacks_memory o
    → SoFar visits limit script old.stage (remaining old lo) w now d refused memory old.taken → Turned visits limit' old new lo ln now now' d next o → ends_session o ≡ false
    → SoFar visits limit script new.stage (remaining new ln) w now' next refused' memory' new.taken
goes_on visits limit limit' script lo ln w now now' old new d next refused memory refused' memory' o l e small f m k t z =
    let a : Replied visits limit d t.line now now' next o = subst (λ n. Replied visits n d t.line now now' next o) l t.replied in
    let P : Bool → Type 0 = λ b. SoFar visits limit script new.stage (remaining new ln) w now' next b memory' new.taken in
    let Q : Bool → Type 0 = λ b. SoFar visits limit script new.stage (remaining new ln) w now' next (refused || refuses o) b new.taken in
    subst P (sym f) (subst Q (sym m) (more_at visits limit script new.stage (remaining old lo) (remaining new ln) w now now' d next refused memory old.taken new.taken t.line o
    (going visits limit script w now old lo d refused memory e k) t.taken.no_lf t.taken.bytes t.taken.first t.taken.counted t.taken.goes_on (ended new ln) small a z))

-- 3. ends

quit_at : (visits : Visits) (limit : ℕ) (script : Option (List ℕ)) (stage : Stage) (rest rest' left : Option (List ℕ)) (w now now' : RunView) (d next : Desk) (refused memory : Bool) (taken taken' : ℕ) (line : List ℕ) (o : Outcome)
    → SoFar visits limit script stages.Going rest w now d refused memory taken
    → has_lf line ≡ false → Consumes rest rest' (with_end stage line) → HasFirstLine rest rest' line → taken' ≡ taken + length (with_end stage line) → IsNotRefused stage
    → (stage ≡ stages.Ended → rest' ≡ Some []) → taken' ≤ most_script_bytes → Replied visits limit d line now now' next o → ends_session o ≡ true
    → Ends visits limit script left w now' (status_of (refused || refuses o) (memory || lacks_memory o))
quit_at visits limit None stage rest rest' left w now now' d next refused memory taken taken' line o k n b f t g l small a z = untold_ends visits limit left w now' (refused || refuses o) (memory || lacks_memory o)
quit_at visits limit (Some script) stage None rest' left w now now' d next refused memory taken taken' line o k n b f t g l small a z = absurd k
quit_at visits limit (Some script) stage (Some rest) None left w now now' d next refused memory taken taken' line o k n b f t g l small a z = absurd b
quit_at visits limit (Some script) stages.Going (Some rest) (Some rest') left w now now' d next refused memory taken taken' line o k n b f t g l small a z =
    let P : List ℕ → Type 0 = λ r. Running visits limit script r w now d refused memory taken in
    finished_ends visits limit script left w now' (refused || refuses o) (memory || lacks_memory o)
    (quit_within visits limit script line rest' w now now' d next refused memory taken o (subst P b k) n (omega (arith, t, small)) a z)
quit_at visits limit (Some script) stages.Ended (Some rest) (Some rest') left w now now' d next refused memory taken taken' line o k n b f t g l small a z =
    let at_end : rest ≡ line = b ∙ ap (λ x. line ++ x) (some_is (l refl)) ∙ append-nil line in
    let P : List ℕ → Type 0 = λ r. Running visits limit script r w now d refused memory taken in
    let one : lines_of line ≡ line ∷ [] = ap lines_of (sym at_end) ∙ f ∙ ap (λ x. line ∷ lines_of x) (some_is (l refl)) in
    finished_ends visits limit script left w now' (refused || refuses o) (memory || lacks_memory o)
    (quit_last visits limit script line w now now' d next refused memory taken o (subst P at_end k) one (omega (arith, t, small)) a z)
  where
    some_is : {a b : List ℕ} → Some a ≡ Some b → a ≡ b
    some_is e = cc
quit_at visits limit (Some script) (stages.Refused why) (Some rest) (Some rest') left w now now' d next refused memory taken taken' line o k n b f t g l small a z = absurd g

pub quits : (visits : Visits) (limit limit' : ℕ) (script lo ln : Option (List ℕ)) (w now now' : RunView) (old new : LineReading) (d next : Desk) (refused memory refused' memory' : Bool) (o : Outcome)
    → limit' ≡ limit → old.stage ≡ stages.Going → new.taken ≤ most_script_bytes → refused' ≡ refused || refuses o → memory' ≡ memory || lacks_memory o
    → SoFar visits limit script old.stage (remaining old lo) w now d refused memory old.taken → Turned visits limit' old new lo ln now now' d next o → ends_session o ≡ true
    → Ends visits limit script ln w now' (status_of refused' memory')
quits visits limit limit' script lo ln w now now' old new d next refused memory refused' memory' o l e small f m k t z =
    let a : Replied visits limit d t.line now now' next o = subst (λ n. Replied visits n d t.line now now' next o) l t.replied in
    let P : Bool → Type 0 = λ b. Ends visits limit script ln w now' (status_of b memory') in
    let Q : Bool → Type 0 = λ b. Ends visits limit script ln w now' (status_of (refused || refuses o) b) in
    subst P (sym f) (subst Q (sym m) (quit_at visits limit script new.stage (remaining old lo) (remaining new ln) ln w now now' d next refused memory old.taken new.taken t.line o
    (going visits limit script w now old lo d refused memory e k) t.taken.no_lf t.taken.bytes t.taken.first t.taken.counted t.taken.goes_on (ended new ln) small a z))

pub ends : (visits : Visits) (limit : ℕ) (script : Option (List ℕ)) (stage : Stage) (rest left : Option (List ℕ)) (w now : RunView) (d : Desk) (refused memory : Bool) (taken : ℕ)
    → SoFar visits limit script stage rest w now d refused memory taken → IsAtEnd rest → taken ≤ most_script_bytes → Ends visits limit script left w now (status_of refused memory)
ends visits limit None stage rest left w now d refused memory taken k e small = untold_ends visits limit left w now refused memory
ends visits limit (Some script) stages.Going None left w now d refused memory taken k e small = absurd k
ends visits limit (Some script) stages.Going (Some rest) left w now d refused memory taken k e small =
    let P : List ℕ → Type 0 = λ r. Running visits limit script r w now d refused memory taken in
    finished_ends visits limit script left w now refused memory (no_more visits limit script w now d refused memory taken (subst P e k) small)
ends visits limit (Some script) stages.Ended rest left w now d refused memory taken k e small = finished_ends visits limit script left w now refused memory k
ends visits limit (Some script) (stages.Refused why) rest left w now d refused memory taken k e small = absurd k

past_at : (visits : Visits) (limit : ℕ) (script rest left : Option (List ℕ)) (w now : RunView) (d : Desk) (refused memory : Bool) (taken : ℕ)
    → SoFar visits limit script stages.Going rest w now d refused memory taken → taken ≤ most_script_bytes → IfSome rest (PassesLimit taken) → Ends visits limit script left w now TooLong
past_at visits limit None rest left w now d refused memory taken k small p = of_too_long visits limit None left w now tt
past_at visits limit (Some script) None left w now d refused memory taken k small p = absurd k
past_at visits limit (Some script) (Some rest) left w now d refused memory taken k small p = of_too_long visits limit (Some script) left w now (past_limit visits limit script rest w now d refused memory taken k small p)

too_long : (visits : Visits) (limit : ℕ) (script lo ln : Option (List ℕ)) (w now : RunView) (old : LineReading) (d : Desk) (refused memory : Bool) → old.stage ≡ stages.Going → old.taken ≤ most_script_bytes
    → SoFar visits limit script old.stage (remaining old lo) w now d refused memory old.taken → IfSome (remaining old lo) (PassesLimit old.taken) → Ends visits limit script ln w now TooLong
too_long visits limit script lo ln w now old d refused memory e small k p =
    past_at visits limit script (remaining old lo) ln w now d refused memory old.taken (going visits limit script w now old lo d refused memory e k) small p

fault_at : (visits : Visits) (limit : ℕ) (script lo ln : Option (List ℕ)) (w now : RunView) (held given : List ℕ) (d : Desk) (refused memory : Bool) (taken : ℕ)
    → SoFar visits limit script stages.Going (prepend_known held lo) w now d refused memory taken → Consumes lo ln given → has_lf (held ++ given) ≡ false → taken + length (held ++ given) ≤ most_script_bytes
    → Ends visits limit script ln w now ReadFault
fault_at visits limit None lo ln w now held given d refused memory taken k c n small = of_read_fault visits limit None ln w now tt
fault_at visits limit (Some script) None ln w now held given d refused memory taken k c n small = absurd k
fault_at visits limit (Some script) (Some left) None w now held given d refused memory taken k c n small = absurd c
fault_at visits limit (Some script) (Some left) (Some left') w now held given d refused memory taken k c n small =
    of_read_fault visits limit (Some script) (Some left') w now (read_fault_at visits limit script (held ++ left) (Some left') w now d refused memory taken k (held ++ given)
    (ap (λ t. held ++ t) c ∙ sym (append_assoc held given left')) n small)

read_fault : (visits : Visits) (limit : ℕ) (script lo ln : Option (List ℕ)) (w now : RunView) (old : LineReading) (d : Desk) (refused memory : Bool) → old.stage ≡ stages.Going
    → SoFar visits limit script old.stage (remaining old lo) w now d refused memory old.taken → LeavesNoLine old lo ln → Ends visits limit script ln w now ReadFault
read_fault visits limit script lo ln w now old d refused memory e k h =
    let is : remaining old lo ≡ prepend_known old.held lo =
    ap (λ (st : Stage). elim st [ stages.Going ↦ prepend_known old.held lo | stages.Ended ↦ Some [] | stages.Refused refusal ↦ prepend_known old.held lo ]) e in
    let P : Option (List ℕ) → Type 0 = λ r. SoFar visits limit script stages.Going r w now d refused memory old.taken in
    fault_at visits limit script lo ln w now old.held h.given d refused memory old.taken (subst P is (going visits limit script w now old lo d refused memory e k)) h.taken h.no_lf h.within

-- a line that can't be had
pub unread_ends : (visits : Visits) (limit : ℕ) (script lo ln : Option (List ℕ)) (w now : RunView) (old : LineReading) (d : Desk) (refused memory : Bool) (refusal : LineRefusal) → old.stage ≡ stages.Going
    → old.taken ≤ most_script_bytes → SoFar visits limit script old.stage (remaining old lo) w now d refused memory old.taken → OnReadFault (Err refusal) (LeavesNoLine old lo ln)
    → OnTooLong (Err refusal) (IfSome (remaining old lo) (PassesLimit old.taken)) → Ends visits limit script ln w now (unread refusal)
unread_ends visits limit script lo ln w now old d refused memory refusals.ReadFault e small k fault long = read_fault visits limit script lo ln w now old d refused memory e k fault
unread_ends visits limit script lo ln w now old d refused memory refusals.TooLong e small k fault long = too_long visits limit script lo ln w now old d refused memory e small k long

pub unread_rose : (refusal : LineRefusal) (first before after : ℕ) → before ≡ first → OnReadFault (Err refusal) (Rose before after) → unread refusal ≡ ReadFault → Rose first after
unread_rose refusals.ReadFault first before after e rose is = subst (λ n. Rose n after) e rose
unread_rose refusals.TooLong first before after e rose is = cc

pub unread_stayed : (refusal : LineRefusal) (first before after : ℕ) → before ≡ first → OnNoFault (Err refusal) (after ≡ before) → unread refusal ≢ ReadFault → after ≡ first
unread_stayed refusals.ReadFault first before after e same away = absurd (away refl)
unread_stayed refusals.TooLong first before after e same away = same ∙ e

pub unread_writes : {P : Type 0} (refusal : LineRefusal) → unread refusal ≡ WriteFault → P
unread_writes refusals.ReadFault is = cc
unread_writes refusals.TooLong is = cc

stuck_at : (visits : Visits) (limit : ℕ) (script rest rest' left : Option (List ℕ)) (w now now' : RunView) (d : Desk) (refused memory : Bool) (taken : ℕ) (line : List ℕ)
    → SoFar visits limit script stages.Going rest w now d refused memory taken → HasFirstLine rest rest' line → Broke limit d line now.written now'.written → Ends visits limit script left w now' WriteFault
stuck_at visits limit None rest rest' left w now now' d refused memory taken line k f b = of_write_fault visits limit None left w now' tt
stuck_at visits limit (Some script) None rest' left w now now' d refused memory taken line k f b = absurd k
stuck_at visits limit (Some script) (Some rest) None left w now now' d refused memory taken line k f b = absurd f
stuck_at visits limit (Some script) (Some rest) (Some rest') left w now now' d refused memory taken line k f b =
    of_write_fault visits limit (Some script) left w now' (broke_at visits limit script rest line (lines_of rest') w now now' d refused memory taken k f b)

pub write_fault : (visits : Visits) (limit limit' : ℕ) (script lo ln : Option (List ℕ)) (w now now' : RunView) (old new : LineReading) (d : Desk) (refused memory : Bool) → limit' ≡ limit → old.stage ≡ stages.Going
    → SoFar visits limit script old.stage (remaining old lo) w now d refused memory old.taken → Stuck limit' old new lo ln now.written now'.written d → Ends visits limit script ln w now' WriteFault
write_fault visits limit limit' script lo ln w now now' old new d refused memory l e k t =
    let b : Broke limit d t.line now.written now'.written = subst (λ n. Broke n d t.line now.written now'.written) l t.broke in
    stuck_at visits limit script (remaining old lo) (remaining new ln) ln w now now' d refused memory old.taken t.line (going visits limit script w now old lo d refused memory e k) t.taken.first b

-- 4. the beginning

abbrev pub fresh : LineReading
fresh = record { held = []; taken = 0; line = []; stage = stages.Going }

begin_at : (visits : Visits) (limit : ℕ) (left : Option (List ℕ)) (w : RunView) → SoFar visits limit left stages.Going (prepend_known [] left) w w opening_desk false false 0
begin_at visits limit None w = tt
begin_at visits limit (Some script) w = begin visits limit script w

pub begins : (visits : Visits) (limit : ℕ) (reader : LineReading) (d : Desk) (left : Option (List ℕ)) (w : RunView) (refused memory : Bool) → reader ≡ fresh → d ≡ opening_desk → refused ≡ false → memory ≡ false
    → SoFar visits limit left reader.stage (remaining reader left) w w d refused memory reader.taken
begins visits limit reader d left w refused memory e q f m =
    let P : LineReading → Type 0 = λ r. SoFar visits limit left r.stage (remaining r left) w w d refused memory r.taken in
    let Q : Desk → Type 0 = λ t. SoFar visits limit left stages.Going (prepend_known [] left) w w t refused memory 0 in
    let R : Bool → Type 0 = λ b. SoFar visits limit left stages.Going (prepend_known [] left) w w opening_desk b memory 0 in
    let S : Bool → Type 0 = λ b. SoFar visits limit left stages.Going (prepend_known [] left) w w opening_desk false b 0 in
    subst P (sym e) (subst Q (sym q) (subst R (sym f) (subst S (sym m) (begin_at visits limit left w))))

pub begins_going : (reader : LineReading) → reader ≡ fresh → IsNotRefused reader.stage
begins_going reader e = let P : LineReading → Type 0 = λ r. IsNotRefused r.stage in subst P (sym e) tt

pub begins_within : (reader : LineReading) → reader ≡ fresh → reader.taken ≤ most_script_bytes
begins_within reader e = let P : LineReading → Type 0 = λ r. r.taken ≤ most_script_bytes in subst P (sym e) (omega arith)

-- a line leaves the reader going, or at the end
pub read_goes_on : (read : LineRead) (old new : LineReading) (lo ln : Option (List ℕ)) → read ≢ reads.End → OnLine (Ok read) (ToldLine old new lo ln) → OnLong (Ok read) (LongLine old new lo ln) → IsNotRefused new.stage
read_goes_on reads.Line old new lo ln e (l, t, h, q) u = t.goes_on
read_goes_on reads.Long old new lo ln e t (l, u, h) = u.goes_on
read_goes_on reads.End old new lo ln e t u = absurd (e refl)

pub unless_end : {P : Type 0} (read : LineRead) → read ≢ reads.End → OnNoEnd (Ok read) P → P
unless_end reads.Line e h = h
unless_end reads.Long e h = h
unless_end reads.End e h = absurd (e refl)

pub at_end : {P : Type 0} (read : LineRead) → read ≡ reads.End → OnEnd (Ok read) P → P
at_end reads.Line e h = cc
at_end reads.Long e h = cc
at_end reads.End e h = h
