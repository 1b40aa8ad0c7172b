use Rattle.std.proofs.Common.{◌≡◌, ◌∷◌, sym, ap, subst, ◌∙◌}
use Rattle.lsys_syntax.specs.Strings as S
use Rattle.lsys_spec.specs.Pictures.{act}
use Rattle.lsys_lattice.specs.Effects.{done}
use Rattle.lsys_module.specs.Views.{module_name, symbol_of}
use Rattle.lsys_motion.specs.Keepers.{Keeper, module_done, IsBusy, IsClear, HasSmallPlace, Keeps, noted}
use Rattle.lsys_motion.proofs.Steps.{module_small}
use Rattle.lsys_motion.proofs.Keeping.{push_keeps, pop_keeps, cut_keeps, module_keeps}
use Rattle.lsys_motion.proofs.keeper.Keeper.take.Goals as goal

pub act-requires : goal.act-requires
act-requires g c =
    let l = g.T.Lattice.shape in
    let m = c.in-Module.module in
    let old = c.args.self.now in
    let noted_is : c.note.new.self ≡ noted old = c.in_ok-note.ensures in
    let busy : IsBusy l (S.Module (module_name m.name) m.params ∷ c.requires.busy.0) old =
    subst (λ x. IsBusy l (symbol_of x ∷ c.requires.busy.0) old) c.in-Module.is c.requires.busy.1 in
    subst (λ (k : Keeper). HasSmallPlace (done l (act (module_name m.name) m.params) k.here)) (sym noted_is) (module_small l busy.total c.requires.busy.0 (module_name m.name) m.params old busy.is)

pub returns-in_ok-branch-in-Push : goal.returns-in_ok-branch-in-Push
returns-in_ok-branch-in-Push g c rest =
    let l = g.T.Lattice.shape in
    let old = c.args.self.now in
    let new = c.branch-self.new.self in
    subst (λ x. Keeps l (symbol_of x ∷ rest) rest old new) (sym c.in-Push.is) (push_keeps l old c.note.new.self new c.in_ok-note.ensures c.in_ok-branch-in-Push.ensures.branched c.branch-self.ensures.known rest)

pub returns-in-Pop : goal.returns-in-Pop
returns-in-Pop g c rest =
    let l = g.T.Lattice.shape in
    let old = c.args.self.now in
    let new = c.restore.new.self in
    let clear = subst (λ x. IsClear (symbol_of x) old.marks) c.in-Pop.is c.requires.clear in
    subst (λ x. Keeps l (symbol_of x ∷ rest) rest old new) (sym c.in-Pop.is) (pop_keeps l old c.note.new.self new c.in_ok-note.ensures c.restore.ensures clear rest)

pub returns-in-Cut : goal.returns-in-Cut
returns-in-Cut g c rest =
    let l = g.T.Lattice.shape in
    let old = c.args.self.now in
    let new = c.note.new.self in
    subst (λ x. Keeps l (symbol_of x ∷ rest) rest old new) (sym c.in-Cut.is) (cut_keeps l old new c.in_ok-note.ensures rest)

pub returns-in-Module : goal.returns-in-Module
returns-in-Module g c rest =
    let l = g.T.Lattice.shape in
    let m = c.in-Module.module in
    let old = c.args.self.now in
    let new = c.act.new.self in
    let is : new ≡ module_done l (module_name m.name) m.params (noted old) = c.act.ensures ∙ ap (module_done l (module_name m.name) m.params) c.in_ok-note.ensures in
    subst (λ x. Keeps l (symbol_of x ∷ rest) rest old new) (sym c.in-Module.is) (module_keeps l (module_name m.name) m.params old new is rest)
