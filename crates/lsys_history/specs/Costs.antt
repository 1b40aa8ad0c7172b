-- What a script may ask and read where a desk answers it: sums over its lines.
use Rattle.std.specs.Prelude.{ℕ, Bool, true, false, Option, Some, None, List, [], ◌∷◌, ◌+◌, ◌&&◌}
use Rattle.lsys_syntax.specs.Lines.{lines_of}
use Rattle.lsys_spec.specs.Systems.{System}
use Rattle.lsys_spec.specs.Output.{may_lack_memory}
use Rattle.lsys_spec.specs.Costs.{Cost, Visits, ◌and◌, cost_to, edited_system, no_cost, one_refusal}
use Rattle.lsys_history.specs.Timelines as timelines
use Rattle.lsys_history.specs.Desks.{Desk, DeskLine, DeskReply, undo, redo, growth, bounds, at, desk_line, desk_reply_or_memory, opening_desk}

-- 1. one line

-- the system that the desk's own line leads to, where it leads to one
abbrev pub own_leads : Desk → DeskLine → Option System
own_leads d undo = timelines.nearest d.steps.past
own_leads d redo = timelines.nearest d.steps.future
own_leads d (growth level) = None
own_leads d bounds = None
own_leads d (at n column) = None

-- a line that asks nothing of the desk leads to the system that its edit makes, where it is one
abbrev pub leads_by : Desk → Option DeskLine → Option System → Option System
leads_by d None edited = edited
leads_by d (Some asked) edited = own_leads d asked

-- The system that a line leads the desk to, by an edit, an undo or a redo. It is refused then for its levels alone, or as
-- out of memory.
abbrev pub line_leads : Desk → List ℕ → Option System
line_leads d line = leads_by d (desk_line line) (edited_system d.system line)

-- of a line that isn't refused as out of memory
abbrev pub lead_cost : Visits → ℕ → Desk → List ℕ → Cost
lead_cost visits limit d line = cost_to visits limit d.system (line_leads d line)

-- of a line that may be refused as out of memory
abbrev pub desk_line_cost : Visits → ℕ → Bool → Desk → List ℕ → Cost
desk_line_cost visits limit lacks d line =
    elim (lacks && may_lack_memory line) [ true ↦ one_refusal | false ↦ lead_cost visits limit d line ]

-- 2. a script

-- a line's cost, and after its reply the cost of what follows from its desk, unless it ends the session
abbrev pub cost_followed : Cost → DeskReply → (Desk → Cost) → Cost
cost_followed cost r rest = cost and elim r.reply.ends [ true ↦ no_cost | false ↦ rest r.next ]

-- of lines that are numbered from n on; those whose numbers are in M are refused as out of memory
abbrev pub desk_costs_from : Visits → ℕ → (ℕ → Bool) → ℕ → Desk → List (List ℕ) → Cost
desk_costs_from visits limit M n d [] = no_cost
desk_costs_from visits limit M n d (line ∷ lines) =
    cost_followed (desk_line_cost visits limit (M n) d line) (desk_reply_or_memory limit (M n) d line)
    (λ next. desk_costs_from visits limit M (n + 1) next lines)

abbrev pub desk_cost : Visits → ℕ → List ℕ → (ℕ → Bool) → Cost
desk_cost visits limit script M = desk_costs_from visits limit M 1 opening_desk (lines_of script)
