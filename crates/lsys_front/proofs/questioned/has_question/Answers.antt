use Rattle.std.proofs.Common.{◌≡◌, [], length, sym, ap, ◌∙◌, subst}
use Rattle.lsys_spec.specs.Bodies.{group}
use Rattle.lsys_spec.specs.Levels.{ModuleValue}
use Rattle.lsys_module.specs.Views.{module_name}
use Rattle.lsys_level.specs.Spots.{Module}
use Rattle.lsys_forest.specs.Groves.{now_of}
use Rattle.lsys_forest.specs.Rows.{spot_in}
use Rattle.lsys_forest.proofs.SoundLemmas.{some_of}
use Rattle.lsys_forest.specs.Pairs.{seen_at}
use Rattle.lsys_front.proofs.questioned.has_question.Goals as goal

one_value : (v w : ModuleValue) → Module v ≡ Module w → v ≡ w
one_value v w h = cc

pub returns-in-Module : goal.returns-in-Module
returns-in-Module g c =
    let m = now_of c.args.forest.now in
    let k = c.args.node in
    let n = some_of (m k) c.requires in
    let own : ModuleValue = record { name = module_name c.in-Module.name; params = c.in-Module.params.now } in
    let seen : seen_at m k ≡ Module own = ap (λ o. (spot_in k o).seen) n.1 ∙ sym (c.in-Module.ensures.seen n.0 n.1) in (
      λ t. record { own = own; is = seen; rules = c.has_rules.ensures.0 t },
      λ a. c.has_rules.ensures.1 (subst (λ (v : ModuleValue). group c.args.system.now c.args.level v.name (length v.params) ≡ [] → ⊥) (one_value a.own own (sym a.is ∙ seen)) a.rules),
    )
