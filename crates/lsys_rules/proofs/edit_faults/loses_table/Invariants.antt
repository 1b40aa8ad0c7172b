use Rattle.std.proofs.Common.{◌≡◌, drop, map}
use Rattle.lsys_spec.specs.Edits.{loses_table, without_rule}
use Rattle.lsys_bodies.specs.Views.{as_production}
use Rattle.lsys_rules.proofs.edit_faults.loses_table.Given as goal

-- no word so far is lost
abbrev pub invariant-loop-word : goal.invariant-loop-word
invariant-loop-word l = record {
  rest : loses_table (without_rule l.label (map as_production l.rules)) (drop l.word-index l.words) ≡ loses_table (without_rule l.label (map as_production l.rules)) l.words;
}
