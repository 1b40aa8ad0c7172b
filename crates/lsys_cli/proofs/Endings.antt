-- How a run ends, from where it stands.
use Rattle.std.proofs.Common.{◌≡◌, ◌-◌, ℕ, List, [], ◌∷◌, ◌++◌, ◌+◌, ◌<◌, ◌≤◌, length, take, Option, Some, None, Bool, true, false, refl, ap, sym, subst, ◌∙◌, arith, append_assoc, length-append}
use Rattle.std.specs.Io.KnownBytes.{Consumes}
use Rattle.std.proofs.Math.Seq.{take-append-add}
use Rattle.std.proofs.lemmas.List.Concat.{flat_map-append}
use Rattle.lsys_io.specs.Feeds.{has_lf}
use Rattle.lsys_io.specs.Reading.{PassesLimit}
use Rattle.lsys_syntax.specs.Lines.{lines_of}
use Rattle.lsys_syntax.specs.Limits.{most_script_bytes}
use Rattle.lsys_spec.specs.Refusals.{Reply}
use Rattle.lsys_spec.specs.Output.{output_text, any_refusal, any_memory, any_end, none, whole_lines}
use Rattle.lsys_history.specs.Desks.{Desk, DeskReply, desk_followed, desk_out, desk_replies_from}
use Rattle.lsys_spec.specs.Costs.{Cost, Visits}
use Rattle.lsys_cli.specs.Ends.{script_front, RunView, Worked, WroteOutput, WroteLacking, WroteLines, WroteFront, WroteGiven, WroteWithin, OfScript, Ends}
use Rattle.lsys_cli.specs.Runs.{status_of}
use Rattle.lsys_cli.specs.declared.status.Status.TheVariants.{Done, Refused, ReadFault, WriteFault, Memory, TooLong}
use Rattle.lsys_cli.proofs.Appending.{then_front}
use Rattle.lsys_cli.proofs.Feeds.{no_whole_line}
use Rattle.lsys_cli.proofs.Replying.{Broke}
use Rattle.lsys_cli.proofs.SoFar.{Running, Finished, Tells, one_line, told_no_more, with_answer, agree_here, agree_before}

-- 1. records of one status alone

pub of_done : (visits : Visits) (limit : ℕ) (script left : Option (List ℕ)) (old now : RunView) → OfScript script (WroteOutput visits limit false old now) → Ends visits limit script left old now Done
of_done visits limit script left old now h = record {
  done = λ e. h;
  refused = λ e. cc;
  memory = λ e. cc;
  read_fault = λ e. cc;
  write_fault = λ e. cc;
  too_long = λ e. cc;
  no_usage = λ e. cc;
}

pub of_refused : (visits : Visits) (limit : ℕ) (script left : Option (List ℕ)) (old now : RunView) → OfScript script (WroteOutput visits limit true old now) → Ends visits limit script left old now Refused
of_refused visits limit script left old now h = record {
  done = λ e. cc;
  refused = λ e. h;
  memory = λ e. cc;
  read_fault = λ e. cc;
  write_fault = λ e. cc;
  too_long = λ e. cc;
  no_usage = λ e. cc;
}

pub of_memory : (visits : Visits) (limit : ℕ) (script left : Option (List ℕ)) (old now : RunView) → OfScript script (WroteLacking visits limit old now) → Ends visits limit script left old now Memory
of_memory visits limit script left old now h = record {
  done = λ e. cc;
  refused = λ e. cc;
  memory = λ e. h;
  read_fault = λ e. cc;
  write_fault = λ e. cc;
  too_long = λ e. cc;
  no_usage = λ e. cc;
}

pub of_read_fault : (visits : Visits) (limit : ℕ) (script left : Option (List ℕ)) (old now : RunView) → OfScript script (WroteGiven visits limit left old now) → Ends visits limit script left old now ReadFault
of_read_fault visits limit script left old now h = record {
  done = λ e. cc;
  refused = λ e. cc;
  memory = λ e. cc;
  read_fault = λ e. h;
  write_fault = λ e. cc;
  too_long = λ e. cc;
  no_usage = λ e. cc;
}

pub of_write_fault : (visits : Visits) (limit : ℕ) (script left : Option (List ℕ)) (old now : RunView) → OfScript script (WroteFront limit old.written now.written) → Ends visits limit script left old now WriteFault
of_write_fault visits limit script left old now h = record {
  done = λ e. cc;
  refused = λ e. cc;
  memory = λ e. cc;
  read_fault = λ e. cc;
  write_fault = λ e. h;
  too_long = λ e. cc;
  no_usage = λ e. cc;
}

pub of_too_long : (visits : Visits) (limit : ℕ) (script left : Option (List ℕ)) (old now : RunView) → OfScript script (WroteWithin visits limit old now) → Ends visits limit script left old now TooLong
of_too_long visits limit script left old now h = record {
  done = λ e. cc;
  refused = λ e. cc;
  memory = λ e. cc;
  read_fault = λ e. cc;
  write_fault = λ e. cc;
  too_long = λ e. h;
  no_usage = λ e. cc;
}

-- 2. a run that read its script to its end, or to a heeded `quit`

cost_so : (limit : ℕ) (cost whole : Cost) (old now : RunView) → whole ≡ cost → Worked limit cost old.counters now.counters → Worked limit whole old.counters now.counters
cost_so limit cost whole old now e h = subst (λ c. Worked limit c old.counters now.counters) (sym e) h

output_of : (visits : Visits) (limit : ℕ) (script : List ℕ) (old now : RunView) (refused : Bool) → Finished visits limit script old now refused false → WroteOutput visits limit refused old now script
output_of visits limit script old now refused k =
    let agree : (i : ℕ) → i < k.given.number → none i ≡ k.given.answered i = λ i l. sym (k.given.ample refl i l) in
    let all = k.told none agree in
    record {
      written = rw all.replies k.given.put;
      refusals = ap any_refusal all.replies ∙ sym k.given.refusals;
      within = k.within none agree;
      worked = cost_so limit k.given.cost _ old now all.costs k.given.worked;
    }

lacking_of : (visits : Visits) (limit : ℕ) (script : List ℕ) (old now : RunView) (refused : Bool) → Finished visits limit script old now refused true → WroteLacking visits limit old now script
lacking_of visits limit script old now refused k =
    let all = k.told k.given.answered (λ i l. refl) in
    record {
      lacks = k.given.answered;
      written = rw all.replies k.given.put;
      memories = ap any_memory all.replies ∙ sym k.given.memories;
      within = k.within k.given.answered (λ i l. refl);
      worked = cost_so limit k.given.cost _ old now all.costs k.given.worked;
    }

pub finished_ends : (visits : Visits) (limit : ℕ) (script : List ℕ) (left : Option (List ℕ)) (old now : RunView) (refused memory : Bool) → Finished visits limit script old now refused memory → Ends visits limit (Some script) left old now (status_of refused memory)
finished_ends visits limit script left old now refused true k = of_memory visits limit (Some script) left old now (lacking_of visits limit script old now refused k)
finished_ends visits limit script left old now true false k = of_refused visits limit (Some script) left old now (output_of visits limit script old now true k)
finished_ends visits limit script left old now false false k = of_done visits limit (Some script) left old now (output_of visits limit script old now false k)

pub untold_ends : (visits : Visits) (limit : ℕ) (left : Option (List ℕ)) (old now : RunView) (refused memory : Bool) → Ends visits limit None left old now (status_of refused memory)
untold_ends visits limit left old now refused true = of_memory visits limit None left old now tt
untold_ends visits limit left old now true false = of_refused visits limit None left old now tt
untold_ends visits limit left old now false false = of_done visits limit None left old now tt

-- 3. a run that stopped after some whole lines

stopped_after : (visits : Visits) (limit : ℕ) (script rest : List ℕ) (old now : RunView) (d : Desk) (refused memory : Bool) (taken : ℕ) (k : Running visits limit script rest old now d refused memory taken)
    → (bytes more : List ℕ) → bytes ≡ k.front ++ more → has_lf more ≡ false → WroteLines visits limit old now bytes
stopped_after visits limit script rest old now d refused memory taken k bytes more e no_lf =
    let whole : whole_lines bytes ≡ k.front ++ [] = ap whole_lines e ∙ k.whole more ∙ ap (λ t. k.front ++ t) (no_whole_line more no_lf) in
    let P : List ℕ → Type 0 = λ t. Tells visits limit t k.given.answered k.given.replies k.given.cost in
    let all = subst P (sym whole) (told_no_more visits limit (k.front ++ []) k.given.answered k.given.replies k.given.cost (k.told [] k.given.answered (λ i l. refl))) in
    record {
      lacks = k.given.answered;
      written = rw all.replies k.given.put;
      no_quit = ap any_end all.replies ∙ k.goes_on;
      worked = cost_so limit k.given.cost _ old now all.costs k.given.worked;
    }

pub past_limit : (visits : Visits) (limit : ℕ) (script rest : List ℕ) (old now : RunView) (d : Desk) (refused memory : Bool) (taken : ℕ) → Running visits limit script rest old now d refused memory taken
    → taken ≤ most_script_bytes → PassesLimit taken rest → WroteWithin visits limit old now script
past_limit visits limit script rest old now d refused memory taken k small p =
    let n = most_script_bytes - taken in
    let sum : most_script_bytes ≡ length k.front + n = omega (arith, k.counted, small) in
    let cut : script_front script ≡ k.front ++ take n rest = ap (λ m. take m script) sum ∙ ap (take (length k.front + n)) k.split ∙ take-append-add k.front rest n in
    record {
      past = omega (arith, p.past, k.counted, ap length k.split, length-append k.front rest);
      lines = stopped_after visits limit script rest old now d refused memory taken k (script_front script) (take n rest) cut p.no_end;
    }

pub read_fault_at : (visits : Visits) (limit : ℕ) (script rest : List ℕ) (left : Option (List ℕ)) (old now : RunView) (d : Desk) (refused memory : Bool) (taken : ℕ) → Running visits limit script rest old now d refused memory taken
    → (given : List ℕ) → Consumes (Some rest) left given → has_lf given ≡ false → taken + length given ≤ most_script_bytes → WroteGiven visits limit left old now script
read_fault_at visits limit script rest None old now d refused memory taken k given c no_lf small = absurd c
read_fault_at visits limit script rest (Some left) old now d refused memory taken k given c no_lf small = record {
  given = k.front ++ given;
  taken = k.split ∙ ap (λ t. k.front ++ t) c ∙ sym (append_assoc k.front given left);
  within = omega (arith, small, k.counted, length-append k.front given);
  lines = stopped_after visits limit script rest old now d refused memory taken k (k.front ++ given) given refl no_lf;
}

-- 4. a run whose sink failed at a line

more_replies : (r : DeskReply) (rest : Desk → List Reply) → (more : List Reply) × (desk_followed r rest ≡ r.reply ∷ more)
more_replies r rest = (elim r.reply.ends [ true ↦ [] | false ↦ rest r.next ], refl)

pub broke_at : (visits : Visits) (limit : ℕ) (script rest line : List ℕ) (lines : List (List ℕ)) (old now now' : RunView) (d : Desk) (refused memory : Bool) (taken : ℕ) → Running visits limit script rest old now d refused memory taken
    → lines_of rest ≡ line ∷ lines → Broke limit d line now.written now'.written → WroteFront limit old.written now'.written script
broke_at visits limit script rest line lines old now now' d refused memory taken k first b =
    let M = with_answer k.given.number b.lacks k.given.answered in
    let more = more_replies b.answer (λ next. desk_replies_from limit M (k.given.number + 1) next lines) in
    let P : List (List ℕ) → Type 0 = λ ls. desk_out limit (k.front ++ rest) M ≡ k.given.replies ++ desk_replies_from limit M k.given.number d ls in
    let told = subst P first (k.told rest M (agree_before k.given.number b.lacks k.given.answered M (λ i l. refl))).replies in
    let all : desk_out limit script M ≡ k.given.replies ++ (b.answer.reply ∷ more.0) =
    ap (λ t. desk_out limit t M) k.split ∙ told
    ∙ ap (λ u. k.given.replies ++ u) (one_line limit M k.given.number d line lines b.lacks b.answer (agree_here k.given.number b.lacks k.given.answered M (λ i l. refl)) b.is.is ∙ more.1) in
    let text : output_text (desk_out limit script M) ≡ output_text k.given.replies ++ (b.answer.reply.text ++ output_text more.0) = ap output_text all ∙ flat_map-append (λ x. x.text) k.given.replies (b.answer.reply ∷ more.0) in
    record { lacks = M; written = rw text (then_front old.written now.written now'.written (output_text k.given.replies) b.answer.reply.text (output_text more.0) k.given.put b.front) }
