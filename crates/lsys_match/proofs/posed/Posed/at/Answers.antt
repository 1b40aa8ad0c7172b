use Rattle.lsys_spec.specs.Levels.{ModuleValue}
use Rattle.lsys_level.specs.Spots.{spots_at}
use Rattle.lsys_module.specs.Views.{module_name}
use Rattle.lsys_match.specs.Groups.{rules_of}
use Rattle.lsys_match.proofs.Unasked.{bracketed, posed_there, ruled}
use Rattle.lsys_match.proofs.posed.Posed.at.Goals as goal

pub returns-in_default : goal.returns-in_default
returns-in_default g c = record {
  none = bracketed c.args.asker.now.system c.args.asker.now.level (spots_at (g.W.LevelView.levels c.args.view.now) (g.W.LevelView.level_of c.args.view.now c.args.spot)) (g.W.LevelView.place_of c.args.view.now c.args.spot) c.sight.result c.in_default.not-Module c.sight.ensures.seen;
  some = tt;
  posed = tt;
  well = tt;
  few = tt;
}

pub returns-clause-some : goal.returns-clause-some
returns-clause-some g c =
    let row = spots_at (g.W.LevelView.levels c.args.view.now) (g.W.LevelView.level_of c.args.view.now c.args.spot) in
    let m : ModuleValue = record { name = module_name c.in-Module.name; params = c.in-Module.params.now } in
    ruled c.args.asker.now.system c.args.asker.now.level row (g.W.LevelView.place_of c.args.view.now c.args.spot) m (rules_of c.in_ok-group.group) c.in-Module.ensures.seen c.in_ok-group.ensures.rules c.in_ok-group.ensures.some

pub returns-clause-posed : goal.returns-clause-posed
returns-clause-posed g c =
    let row = spots_at (g.W.LevelView.levels c.args.view.now) (g.W.LevelView.level_of c.args.view.now c.args.spot) in
    let m : ModuleValue = record { name = module_name c.in-Module.name; params = c.in-Module.params.now } in
    posed_there c.args.asker.now.system c.args.asker.now.level row (g.W.LevelView.place_of c.args.view.now c.args.spot) m (rules_of c.in_ok-group.group) c.tag.result c.key_for.result
    c.in-Module.ensures.seen c.tag.ensures.tag c.in_ok-group.ensures.rules c.key_for.ensures
