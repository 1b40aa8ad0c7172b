use Rattle.std.proofs.Common.{◌++◌, List, ℕ, sym, ap, ◌∙◌, subst}
use Rattle.lsys_module.specs.Views.{string_of}
use Rattle.lsys_forest.specs.Groves.{now_of, changes_in}
use Rattle.lsys_forest.specs.Rows.{kids_in}
use Rattle.lsys_reading.specs.Commands.{numbering_of}
use Rattle.lsys_children.specs.declared.need.Need.{Need}
use Rattle.lsys_children.specs.declared.child.Child.{Child}
use Rattle.lsys_children.specs.Children.{HasRoomFor, SpendsNeed, AreRenewed, TellsOf}
use Rattle.lsys_children.specs.Wishes.{AreWanted}
use Rattle.lsys_children.proofs.Among.{some_is}
use Rattle.lsys_children.proofs.Roots.{need_below, gone_below, first_renewals, first_told}
use Rattle.lsys_children.proofs.first.make_first.Goals as goal

pub change-requires-clause-lives : goal.change-requires-clause-lives
change-requires-clause-lives g c =
    let m = now_of c.args.forest.now in
    let top = c.root-root.ensures.sound.root_lives in
    some_is (m c.root-root.result) top.0 (ap m c.root-root.ensures.root ∙ top.1)

pub change-requires-clause-room : goal.change-requires-clause-room
change-requires-clause-room g c = λ n is.
    let m = now_of c.args.forest.now in
    let numbering = numbering_of c.args.numbering in
    let zs = string_of c.args.symbols.now in
    let there = ap m (sym c.root-root.ensures.root) ∙ is in
    let wanted = subst (λ (ws : List Child). AreWanted numbering c.args.seed zs ws) (sym c.children.ensures) c.in_ok-fill.ensures.wanted in
    subst (λ (need : Need). HasRoomFor c.args.forest.now c.args.changes.now need) (sym (need_below numbering c.args.seed zs c.children.result.now m c.args.forest.now.root n there wanted)) c.requires.room

pub returns-clause-children : goal.returns-clause-children
returns-clause-children g c =
    let f = c.args.forest.now in
    let new = c.change.new.forest in
    let numbering = numbering_of c.args.numbering in
    let zs = string_of c.args.symbols.now in
    let ws = c.children.result.now in
    let sound = c.root-root.ensures.sound in
    let top = sound.root_lives in
    let is = ap (now_of f) c.root-root.ensures.root ∙ top.1 in
    let wanted = subst (λ (ws : List Child). AreWanted numbering c.args.seed zs ws) (sym c.children.ensures) c.in_ok-fill.ensures.wanted in
    let made = subst (λ (k : ℕ). AreRenewed (now_of f) (now_of new) k top.0 ws (kids_in (now_of new k))) c.root-root.ensures.root (c.in_ok-change.ensures.children top.0 is) in
    first_renewals numbering c.args.seed (now_of f) (now_of new) f.root (changes_in f) zs ws top.0 sound c.requires.once c.requires.small c.requires.under top.1 top.2 made wanted

pub returns-clause-told : goal.returns-clause-told
returns-clause-told g c =
    let f = c.args.forest.now in
    let new = c.change.new.forest in
    let numbering = numbering_of c.args.numbering in
    let zs = string_of c.args.symbols.now in
    let ws = c.children.result.now in
    let sound = c.root-root.ensures.sound in
    let top = sound.root_lives in
    let is = ap (now_of f) c.root-root.ensures.root ∙ top.1 in
    let wanted = subst (λ (ws : List Child). AreWanted numbering c.args.seed zs ws) (sym c.children.ensures) c.in_ok-fill.ensures.wanted in
    let made = subst (λ (k : ℕ). AreRenewed (now_of f) (now_of new) k top.0 ws (kids_in (now_of new k))) c.root-root.ensures.root (c.in_ok-change.ensures.children top.0 is) in
    let told = subst (λ (k : ℕ). TellsOf (now_of f) (now_of new) k top.0 ws (kids_in (now_of new k)) c.args.changes.now c.change.new.changes) c.root-root.ensures.root (c.in_ok-change.ensures.told top.0 is) in
    first_told numbering c.args.seed (now_of f) (now_of new) f.root (changes_in f) zs ws top.0 sound c.requires.once c.requires.small c.requires.under top.1 top.2 made wanted c.args.changes.now c.change.new.changes told

pub returns-clause-gone : goal.returns-clause-gone
returns-clause-gone g c =
    let f = c.args.forest.now in
    let numbering = numbering_of c.args.numbering in
    let zs = string_of c.args.symbols.now in
    let top = c.root-root.ensures.sound.root_lives in
    let is = ap (now_of f) c.root-root.ensures.root ∙ top.1 in
    let wanted = subst (λ (ws : List Child). AreWanted numbering c.args.seed zs ws) (sym c.children.ensures) c.in_ok-fill.ensures.wanted in
    (c.in_ok-change.ensures.told top.0 is).gone ∙ ap (λ (l : List ℕ). c.args.changes.now.gone ++ l) (gone_below numbering c.args.seed zs c.children.result.now (now_of f) f.root top.0 top.1 wanted)

pub returns-clause-spends : goal.returns-clause-spends
returns-clause-spends g c =
    let f = c.args.forest.now in
    let numbering = numbering_of c.args.numbering in
    let zs = string_of c.args.symbols.now in
    let top = c.root-root.ensures.sound.root_lives in
    let is = ap (now_of f) c.root-root.ensures.root ∙ top.1 in
    let wanted = subst (λ (ws : List Child). AreWanted numbering c.args.seed zs ws) (sym c.children.ensures) c.in_ok-fill.ensures.wanted in
    subst (λ (need : Need). SpendsNeed f c.change.new.forest need) (need_below numbering c.args.seed zs c.children.result.now (now_of f) f.root top.0 top.1 wanted) (c.in_ok-change.ensures.spends top.0 is)
