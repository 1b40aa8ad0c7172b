-- A reply that was put is that of the whole line, its CR still there.
use Rattle.std.proofs.Common.{◌≡◌, ◌==◌, ◌∷◌, if◌then◌else◌, ◌≤◌, ◌<◌, ◌&&◌, not, ℕ, Bool, true, false, Option, None, Ok, Err, List, [], ◌++◌, length, codes, refl, ap, sym, ◌∙◌, subst, arith}
use Rattle.std.specs.Io.KnownBytes.{Appends}
use Rattle.std.proofs.lemmas.Bool.Decides.{nat_tests}
use Rattle.lsys_io.specs.Writes.{AppendsFront}
use Rattle.lsys_io.specs.declared.Failed.{Failed}
use Rattle.lsys_syntax.specs.Commands.{Command}
use Rattle.lsys_syntax.specs.Lines.{without_cr}
use Rattle.lsys_syntax.specs.Limits.{most_line_bytes}
use Rattle.lsys_spec.specs.Refusals.{Reply, line_feed, refused, is_long, is_passed_over}
use Rattle.lsys_spec.specs.Replies.{bare_reply, bare_spelled}
use Rattle.lsys_history.specs.Desks.{Desk, DeskLine, DeskReply, answered, bare_asks, desk_memory_or, desk_reply_or_memory, reply_by}
use Rattle.lsys_session.specs.Answers.{may_lack, refuses, lacks_memory, ends_session}
use Rattle.lsys_spec.specs.Costs.{Visits}
use Rattle.lsys_laws.specs.Sessions.{HasLevels}
use Rattle.lsys_history.specs.Costs.{desk_line_cost, line_leads}
use Rattle.lsys_session.specs.Answers.{Counters}
use Rattle.lsys_cli.specs.Answers.{WasReplied, TellsLead, answer_or_memory, is_led, leads_to, line_answer}
use Rattle.lsys_cli.specs.Ends.{RunView, Worked}
use Rattle.lsys_cli.specs.Runs.{AnswersLong, CountsLine}
use Rattle.lsys_session.specs.declared.outcome.Outcome.{Outcome}
use Rattle.lsys_cli.proofs.Appending.{goes_out}
use Rattle.lsys_cli.proofs.Working.{leads_nowhere, leads_same, long_cost, stays_worked, worked_line}

-- the reply to a whole line, or `refused memory`
pub record IsReply (limit : ℕ) (d : Desk) (line : List ℕ) (lacks : Bool) (r : DeskReply) : Type 0 where
  pub is : r ≡ desk_reply_or_memory limit lacks d line
  pub honest : lacks ≡ true → r.reply.is_memory ≡ true

-- it was put, its desk is kept, and the counters rose within its cost
pub record Replied (visits : Visits) (limit : ℕ) (d : Desk) (line : List ℕ) (old now : RunView) (after : Desk) (o : Outcome) : Type 0 where
  pub lacks : Bool
  pub answer : DeskReply
  pub is : IsReply limit d line lacks answer
  pub put : Appends old.written now.written answer.reply.text
  pub next : after ≡ answer.next
  pub refusal : answer.reply.is_refusal ≡ refuses o
  pub memory : answer.reply.is_memory ≡ lacks_memory o
  pub ends : answer.reply.ends ≡ ends_session o
  pub worked : HasLevels limit d.system → Worked limit (desk_line_cost visits limit lacks d line) old.counters now.counters

-- the sink failed at it
pub record Broke (limit : ℕ) (d : Desk) (line : List ℕ) (old now : Option (List ℕ)) : Type 0 where
  pub lacks : Bool
  pub answer : DeskReply
  pub is : IsReply limit d line lacks answer
  pub front : AppendsFront old now answer.reply.text

without_cr_short : (line : List ℕ) → length (without_cr line) ≤ length line
without_cr_short [] = omega arith
without_cr_short (b ∷ []) = one (b == 13)
  where
    one : (c : Bool) → length (if c then [] else b ∷ []) ≤ 1
    one true = omega arith
    one false = omega arith
without_cr_short (b ∷ c ∷ bytes) = omega (arith, without_cr_short (c ∷ bytes))

short : (line : List ℕ) → length line ≤ most_line_bytes → is_long line ≡ false
short line h = grind (arith, nat_tests)

bare_short : (line : List ℕ) → length line ≤ most_line_bytes → is_long (without_cr line) ≡ false
bare_short line h = short (without_cr line) (omega (arith, h, without_cr_short line))

-- a line that isn't long, and what is told of it
bare_at : (limit : ℕ) (d : Desk) (lacks long long' passed : Bool) (asks : Option DeskLine) (r whole : Reply) (spelled : Option Command) → long ≡ false → long' ≡ false
    → desk_memory_or (lacks && (not long' && not passed)) d (reply_by limit d (elim long' [ true ↦ None | false ↦ asks ]) (elim long' [ true ↦ r | false ↦ whole ]) (elim long' [ true ↦ None | false ↦ spelled ]))
    ≡ desk_memory_or ((lacks && (not long' && not passed)) && (not long && not passed)) d (reply_by limit d (elim long [ true ↦ None | false ↦ asks ]) (elim long [ true ↦ r | false ↦ whole ]) (elim long [ true ↦ None | false ↦ spelled ]))
bare_at limit d true false false true asks r whole spelled e f = refl
bare_at limit d true false false false asks r whole spelled e f = refl
bare_at limit d false false false passed asks r whole spelled e f = refl
bare_at limit d lacks true long' passed asks r whole spelled e f = cc
bare_at limit d lacks false true passed asks r whole spelled e f = cc

is_honest : (lacks : Bool) (d : Desk) (r whole : DeskReply) → r ≡ desk_memory_or lacks d whole → lacks ≡ true → r.reply.is_memory ≡ true
is_honest true d r whole e h = ap (λ (x : DeskReply). x.reply.is_memory) e
is_honest false d r whole e h = cc

pub told_reply : (limit : ℕ) (d : Desk) (line bare : List ℕ) (lacks : Bool) (r : DeskReply) → length line ≤ most_line_bytes → bare ≡ without_cr line
    → r ≡ answer_or_memory limit d bare lacks → IsReply limit d line (lacks && may_lack bare) r
told_reply limit d line bare lacks r h b e = record {
  is =
      let not_long : is_long line ≡ false = short line h in
      let P : List ℕ → Type 0 = λ t. r ≡ desk_reply_or_memory limit (lacks && may_lack t) d line in
      subst P (sym b) (e ∙ ap (λ t. answer_or_memory limit d t lacks) b
      ∙ bare_at limit d lacks (is_long line) (is_long (without_cr line)) (is_passed_over (without_cr line)) (bare_asks (without_cr line)) (refused d.system (codes "syntax long"))
      (bare_reply limit d.system (without_cr line)) (bare_spelled (without_cr line)) not_long (bare_short line h));
  honest = is_honest (lacks && may_lack bare) d r (line_answer limit d bare) e;
}

long : (line : List ℕ) → most_line_bytes < length line → is_long line ≡ true
long line h = grind (arith, nat_tests)

pub long_reply : (limit : ℕ) (d : Desk) (line : List ℕ) → most_line_bytes < length line → IsReply limit d line false (answered (refused d.system (codes "syntax long")) d)
long_reply limit d line h =
    record { is = go (is_long line) (long line h); honest = λ e. cc }
  where
    go : (b : Bool) → b ≡ true → answered (refused d.system (codes "syntax long")) d
        ≡ reply_by limit d (elim b [ true ↦ None | false ↦ bare_asks (without_cr line) ]) (elim b [ true ↦ refused d.system (codes "syntax long") | false ↦ bare_reply limit d.system (without_cr line) ])
        (elim b [ true ↦ None | false ↦ bare_spelled (without_cr line) ])
    go true e = refl
    go false e = cc

-- what a desk said of a line that is told, and how it moved the counters
pub told_line : {K : Type 0} (written : K → Option (List ℕ)) (faults : K → ℕ) (sink sink' : K) (held : List ℕ) (visits : Visits) (limit : ℕ) (d after : Desk) (line bare : List ℕ) (o : Outcome) (before now : Counters)
    → length line ≤ most_line_bytes → bare ≡ without_cr line → WasReplied written faults sink sink' held limit d after bare (Ok o) → CountsLine visits limit d after bare before now (Ok o)
    → Replied visits limit d line (record { written = written sink; counters = before }) (record { written = written sink'; counters = now }) after o
told_line written faults sink sink' held visits limit d after line bare o before now h b a c = record {
  lacks = a.lacks && may_lack bare;
  answer = a.answer;
  is = told_reply limit d line bare a.lacks a.answer h b a.is;
  put = goes_out (written sink) (written sink') held a.answer.reply.text a.gives.empty a.gives.put.put;
  next = a.gives.next;
  refusal = a.gives.became.refusal;
  memory = a.gives.became.memory;
  ends = a.gives.became.end;
  worked = λ levels.
      let same : leads_to d bare ≡ line_leads d line = leads_same d line bare (short line h) (bare_short line h) b in
      worked_line visits limit d after line (a.lacks && may_lack bare) (is_led d.system bare) a.answer o before now levels (told_reply limit d line bare a.lacks a.answer h b a.is).is
      a.gives.became.refusal a.gives.became.memory a.gives.next (subst (λ t. TellsLead t o) same c.leads) (λ e. leads_nowhere d bare (same ∙ e)) c.counts;
}

pub told_broke : {K : Type 0} (written : K → Option (List ℕ)) (faults : K → ℕ) (sink sink' : K) (held : List ℕ) (limit : ℕ) (d after : Desk) (line bare : List ℕ) (e : Failed)
    → length line ≤ most_line_bytes → bare ≡ without_cr line → WasReplied written faults sink sink' held limit d after bare (Err e) → Broke limit d line (written sink) (written sink')
told_broke written faults sink sink' held limit d after line bare e h b a = record {
  lacks = a.lacks && may_lack bare;
  answer = a.answer;
  is = told_reply limit d line bare a.lacks a.answer h b a.is;
  front = a.gives.put.writes_front;
}

pub long_line : {K : Type 0} (written : K → Option (List ℕ)) (faults : K → ℕ) (sink sink' : K) (held : List ℕ) (visits : Visits) (limit : ℕ) (d after : Desk) (line : List ℕ) (o : Outcome) (before now : Counters)
    → most_line_bytes < length line → AnswersLong written faults sink sink' held d after (Ok o) → now ≡ before
    → Replied visits limit d line (record { written = written sink; counters = before }) (record { written = written sink'; counters = now }) after o
long_line written faults sink sink' held visits limit d after line o before now h a stays = record {
  lacks = false;
  answer = answered (refused d.system (codes "syntax long")) d;
  is = long_reply limit d line h;
  put = goes_out (written sink) (written sink') held (codes "refused " ++ (codes "syntax long" ++ []) ++ line_feed) a.says.empty a.says.put.put;
  next = a.stays;
  refusal = ap refuses (sym a.says.outcome);
  memory = ap lacks_memory (sym a.says.outcome);
  ends = ap ends_session (sym a.says.outcome);
  worked = λ levels. subst (λ c. Worked limit c before now) (sym (long_cost visits limit d line (long line h))) (stays_worked limit before now stays);
}

pub long_broke : {K : Type 0} (written : K → Option (List ℕ)) (faults : K → ℕ) (sink sink' : K) (held : List ℕ) (limit : ℕ) (d after : Desk) (line : List ℕ) (e : Failed)
    → most_line_bytes < length line → AnswersLong written faults sink sink' held d after (Err e) → Broke limit d line (written sink) (written sink')
long_broke written faults sink sink' held limit d after line e h a = record {
  lacks = false;
  answer = answered (refused d.system (codes "syntax long")) d;
  is = long_reply limit d line h;
  front = a.says.put.writes_front;
}
