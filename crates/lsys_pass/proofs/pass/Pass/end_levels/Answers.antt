use Rattle.std.proofs.Common.{◌-◌, arith}
use Rattle.lsys_pass.proofs.EndedLevels.{both_ok, complete, gone_live, bare_last, failed_still, comes_to_end}
use Rattle.lsys_pass.proofs.pass.Pass.end_levels.Goals as goal

pub returns-then-depth-level-clause-last : goal.returns-then-depth-level-clause-last
returns-then-depth-level-clause-last g c =
    bare_last _ _ c.self.view_is c.self.invariant c.args.level c.ranges.level.fits c.requires.found
    (let d = c.depth-depth.ensures.depth in let l = c.if-depth-level.true in omega (arith, d, l)) c.requires.last

pub end_forest-ended-requires-clause-level : goal.end_forest-ended-requires-clause-level
end_forest-ended-requires-clause-level g c = complete _ _ c.self.view_is c.self.invariant c.args.level c.ranges.level.fits c.requires.found

pub end_forest-ended-requires-clause-lives : goal.end_forest-ended-requires-clause-lives
end_forest-ended-requires-clause-lives g c = gone_live _ _ c.self.view_is c.self.invariant c.args.level c.ranges.level.fits c.requires.found c.gone_nodes.result.now c.gone_nodes.ensures

pub invariant_of-self : goal.invariant_of-self
invariant_of-self g c =
    failed_still _ _ c.self.view_is c.self.invariant c.args.level c.ranges.level.fits c.requires.found c.end_forest-ended.new.forest c.end_forest-ended.new.dropped.items c.end_forest-ended.ensures.loses
    c.requires.failed c.law_of_forests.ensures

pub returns-clause-last : goal.returns-clause-last
returns-clause-last g c =
    both_ok c.end_forest-ended.result
    (λ e d. (comes_to_end _ _ c.self.view_is c.self.invariant c.args.level c.ranges.level.fits c.requires.found c.end_forest-ended.new.forest c.end_forest-ended.new.dropped.items c.end_forest-ended.ensures.loses
    c.gone_nodes.result.now (c.depth-depth.result - c.args.level) c.gone_nodes.ensures (let n = c.depth-depth.ensures.depth in omega (arith, n)) c.requires.last e d).last) c.end_forest-ended.ensures.ended c.end_forest-ended.ensures.dropped

pub returns-clause-goes : goal.returns-clause-goes
returns-clause-goes g c =
    both_ok c.end_forest-ended.result
    (λ e d. (comes_to_end _ _ c.self.view_is c.self.invariant c.args.level c.ranges.level.fits c.requires.found c.end_forest-ended.new.forest c.end_forest-ended.new.dropped.items c.end_forest-ended.ensures.loses
    c.gone_nodes.result.now (c.depth-depth.result - c.args.level) c.gone_nodes.ensures (let n = c.depth-depth.ensures.depth in omega (arith, n)) c.requires.last e d).goes) c.end_forest-ended.ensures.ended c.end_forest-ended.ensures.dropped

pub returns-clause-rows : goal.returns-clause-rows
returns-clause-rows g c =
    both_ok c.end_forest-ended.result
    (λ e d. (comes_to_end _ _ c.self.view_is c.self.invariant c.args.level c.ranges.level.fits c.requires.found c.end_forest-ended.new.forest c.end_forest-ended.new.dropped.items c.end_forest-ended.ensures.loses
    c.gone_nodes.result.now (c.depth-depth.result - c.args.level) c.gone_nodes.ensures (let n = c.depth-depth.ensures.depth in omega (arith, n)) c.requires.last e d).rows) c.end_forest-ended.ensures.ended c.end_forest-ended.ensures.dropped
