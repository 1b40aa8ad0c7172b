use Rattle.std.proofs.Common.{◌≡◌, Bool, true, false, not, length, sym, ap, ◌∙◌, subst}
use Rattle.lsys_spec.specs.Levels.{ModuleValue}
use Rattle.lsys_module.specs.Views.{module_name}
use Rattle.lsys_level.specs.Spots.{Module}
use Rattle.lsys_forest.specs.Groves.{now_of}
use Rattle.lsys_forest.specs.Rows.{spot_in}
use Rattle.lsys_forest.proofs.SoundLemmas.{some_of}
use Rattle.lsys_forest.specs.Pairs.{seen_at}
use Rattle.lsys_front.specs.Others.{are_alike}
use Rattle.lsys_front.proofs.others.is_otherwise.Goals as goal

one_value : (v w : ModuleValue) → Module v ≡ Module w → v ≡ w
one_value v w h = cc

not_true : (b : Bool) → not b ≡ true → b ≡ false
not_true false h = cc
not_true true h = cc

true_not : (b : Bool) → b ≡ false → not b ≡ true
true_not false h = cc
true_not true h = cc

pub returns-in_ok-are_alike-in-Module-clause-other : goal.returns-in_ok-are_alike-in-Module-clause-other
returns-in_ok-are_alike-in-Module-clause-other g c =
    let m = now_of c.args.forest.now in
    let k = c.args.node in
    let n = some_of (m k) c.requires in
    let r = c.args.rules.now in
    let own : ModuleValue = record { name = module_name c.in-Module.name; params = c.in-Module.params.now } in
    let seen : seen_at m k ≡ Module own = ap (λ o. (spot_in k o).seen) n.1 ∙ sym (c.in-Module.ensures.seen n.0 n.1) in
    let alike = c.in_ok-are_alike-in-Module.field-0 in
    let is : alike ≡ are_alike r.old r.new r.level own.name (length own.params) = c.in_ok-are_alike-in-Module.ensures.alike in (
      λ t. record { own = own; is = seen; rules = sym is ∙ not_true alike t },
      λ a. true_not alike (is ∙ subst (λ (v : ModuleValue). are_alike r.old r.new r.level v.name (length v.params) ≡ false) (one_value a.own own (sym a.is ∙ seen)) a.rules),
    )
