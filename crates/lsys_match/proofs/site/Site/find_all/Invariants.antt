use Rattle.std.proofs.Common.{◌≡◌, ◌+◌, ◌≤◌, length, ℕ, ◌-◌, List, [], drop}
use Rattle.std.specs.Prelude.{Ok}
use Rattle.lsys_spec.specs.Meaning.{most_entries}
use Rattle.lsys_spec.specs.Choice.{none_tried}
use Rattle.lsys_match.specs.Groups.{rules_of}
use Rattle.lsys_match.specs.Sites.{all_told}
use Rattle.lsys_match.specs.Tries.{entries_by, tried_so_far}
use Rattle.lsys_match.proofs.Choosing.{Leads}
use Rattle.lsys_match.proofs.site.Site.find_all.Given as goal

-- those of the rules before this place that apply were found
abbrev pub invariant-loop-body : goal.invariant-loop-body
invariant-loop-body g l =
    (l.place ≤ length (rules_of l.group)) × (length l.trace.read ≤ most_entries)
    × ((naming : ℕ → List ℕ) → Leads (all_told naming l.self none_tried (Ok []) (rules_of l.group)) (all_told naming l.self (tried_so_far l.place l.trace.read) (Ok l.found) (drop l.place (rules_of l.group))) (entries_by naming l.trace.read))
    × (l.trace.old ≡ l.fn.trace.old) × (l.visited ≡ l.fn.visited + length l.trace.read)

abbrev pub decreases-loop-body : goal.decreases-loop-body
decreases-loop-body g l = length (rules_of l.group) - l.place
