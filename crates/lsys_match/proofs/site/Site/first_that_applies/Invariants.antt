use Rattle.std.proofs.Common.{◌≡◌, ◌+◌, ◌≤◌, length, ℕ, ◌-◌, List, drop}
use Rattle.lsys_spec.specs.Meaning.{most_entries}
use Rattle.lsys_spec.specs.Choice.{none_tried}
use Rattle.lsys_match.specs.Groups.{rules_of}
use Rattle.lsys_match.specs.Sites.{first_told}
use Rattle.lsys_match.specs.Tries.{entries_by, tried_so_far}
use Rattle.lsys_match.proofs.Choosing.{Leads}
use Rattle.lsys_match.proofs.site.Site.first_that_applies.Given as goal

-- the rules before this place don't apply
abbrev pub invariant-loop-body : goal.invariant-loop-body
invariant-loop-body g l =
    (l.place ≤ length (rules_of l.group)) × (length l.trace.read ≤ most_entries)
    × ((naming : ℕ → List ℕ) → Leads (first_told naming l.self none_tried (rules_of l.group)) (first_told naming l.self (tried_so_far l.place l.trace.read) (drop l.place (rules_of l.group))) (entries_by naming l.trace.read))
    × (l.trace.old ≡ l.fn.trace.old) × (l.visited ≡ l.fn.visited + length l.trace.read)

abbrev pub decreases-loop-body : goal.decreases-loop-body
decreases-loop-body g l = length (rules_of l.group) - l.place
