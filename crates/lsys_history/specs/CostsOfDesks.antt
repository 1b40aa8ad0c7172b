-- What a desk's lines cost.
use Rattle.std.specs.Prelude.{◌≡◌, ℕ, List, Some, ◌+◌, Ok, ◌++◌, ◌∷◌, codes, decimal, length, Bool, false, true}
use Rattle.lsys_syntax.specs.Lines.{lines_of}
use Rattle.lsys_spec.specs.Systems.{System}
use Rattle.lsys_spec.specs.Replies.{edited, levels_of, reply}
use Rattle.lsys_spec.specs.Costs.{Visits, line_cost, script_cost, Cost, ◌and◌}
use Rattle.lsys_spec.specs.Levels.{LevelSymbol}
use Rattle.lsys_spec.specs.Meaning.{meaning}
use Rattle.lsys_spec.specs.Questions.{questions}
use Rattle.lsys_spec.specs.Refusals.{line_feed}
use Rattle.lsys_history.specs.Costs.{line_leads, lead_cost, desk_cost, desk_costs_from, desk_line_cost}
use Rattle.lsys_history.specs.Desks.{Desk, desk_reply, HasNoDeskLine, desk_reply_or_memory}

-- a line that leads somewhere has the reply of the edit from the present system to the one there
abbrev pub LinesThatLeadReplyAsEdits : Type 0
LinesThatLeadReplyAsEdits =
    (limit : ℕ) (d : Desk) (line : List ℕ) (next : System)
    → line_leads d line ≡ Some next
    → (desk_reply limit d line).reply ≡ edited limit d.system next (levels_of limit next)

-- where both systems have their levels, the need in its cost is the first number of its `ok M/T`
abbrev pub LeadCostsAreTold : Type 0
LeadCostsAreTold =
    (visits : Visits) (limit : ℕ) (d : Desk) (line : List ℕ) (next : System)
    (xs ys : List (List LevelSymbol)) → line_leads d line ≡ Some next
    → meaning d.system limit ≡ Ok xs → meaning next limit ≡ Ok ys
    → let asked = (lead_cost visits limit d line).need in
    let all = length (questions next ys) in (desk_reply limit d line).reply.text
    ≡ codes "ok " ++ (decimal asked ++ 47 ∷ (decimal all ++ line_feed))

-- without desk lines a script costs what it costs without a desk
abbrev pub WithoutDeskLinesCostsAreTheSame : Type 0
WithoutDeskLinesCostsAreTheSame =
    (visits : Visits) (limit : ℕ) (script : List ℕ) (M : ℕ → Bool)
    → HasNoDeskLine (lines_of script)
    → desk_cost visits limit script M
    ≡ script_cost (reply limit) (line_cost visits limit) script M

-- where a line doesn't end the session, its cost comes to those
-- before it, and then those of the lines after it
abbrev pub DeskCostsAddUpLineByLine : Type 0
DeskCostsAddUpLineByLine =
    (visits : Visits) (limit : ℕ) (M : ℕ → Bool) (n : ℕ) (d : Desk) (line : List ℕ)
    (lines : List (List ℕ)) (sofar : Cost)
    → let r = desk_reply_or_memory limit (M n) d line in r.reply.ends ≡ false
    → sofar and desk_costs_from visits limit M n d (line ∷ lines)
    ≡ (sofar and desk_line_cost visits limit (M n) d line)
    and desk_costs_from visits limit M (n + 1) r.next lines

-- after a line that ends the session nothing is added
abbrev pub NoDeskCostsAreAddedAfterTheEnd : Type 0
NoDeskCostsAreAddedAfterTheEnd =
    (visits : Visits) (limit : ℕ) (M : ℕ → Bool) (n : ℕ) (d : Desk) (line : List ℕ)
    (lines : List (List ℕ)) → (desk_reply_or_memory limit (M n) d line).reply.ends ≡ true
    → desk_costs_from visits limit M n d (line ∷ lines)
    ≡ desk_line_cost visits limit (M n) d line
