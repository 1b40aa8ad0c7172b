use Rattle.std.proofs.Common.{◌≡◌, ◌<◌, ◌+◌, Bool, List, ℕ, [], ◌∷◌, ◌++◌, length, take, slice_get, Option, Some, refl, sym, ◌∙◌, subst, arith}
use Rattle.std.proofs.lemmas.Option.{slice_get_read}
use Rattle.lsys_children.specs.declared.child.Child.{Child}
use Rattle.lsys_children.proofs.Placing.{ArePlaced}
use Rattle.lsys_children.proofs.MatchLemmas.{take_whole}
use Rattle.lsys_children.proofs.AllLemmas.{take_short, placed_start, can_place_next, all_next}
use Rattle.lsys_children.proofs.renew.place_all.Goals as goal

pub loop-at-init : goal.loop-at-init
loop-at-init g c = record {
  placed = placed_start c.args.forest.now c.args.parent c.args.wanted.now c.args.found.now c.args.nodes.now.items c.args.changes.now c.requires.empty;
  places = c.requires.places;
  kept = refl;
}

pub place-node-requires : goal.place-node-requires
place-node-requires g c =
    let ws = c.args.wanted.now in
    let os = c.args.found.now in
    let i = c.loop-at.at in
    let w = c.index-wanted-at.result in
    let o = c.index-found-at.result in
    let within : i < length os = omega (arith, c.requires.room.long, c.loop-at-test.true) in
    let here : slice_get ws i ≡ Some w = slice_get_read ws (length ws) i w refl c.loop-at-test.true c.index-wanted-at.is in
    let there : slice_get os i ≡ Some o = slice_get_read os (length os) i o refl within c.index-found-at.is in
    can_place_next c.args.forest.now c.loop-at.forest c.args.parent ws os c.loop-at.nodes.items c.args.changes.now c.loop-at.changes c.loop-at.keep_kinds i w o c.requires.room c.loop-at.invariant.placed here there

pub push-requires : goal.push-requires
push-requires g c =
    let ws = c.args.wanted.now in
    let i = c.loop-at.at in
    let w = c.index-wanted-at.result in
    let here : slice_get ws i ≡ Some w = slice_get_read ws (length ws) i w refl c.loop-at-test.true c.index-wanted-at.is in
    omega (arith, c.loop-at.invariant.placed.places.long, c.loop-at.invariant.places, take_short ws i w here)

pub loop-at-preserved : goal.loop-at-preserved
loop-at-preserved g c =
    let f = c.args.forest.now in
    let new = c.place-node.new.forest in
    let parent = c.args.parent in
    let ws = c.args.wanted.now in
    let os = c.args.found.now in
    let ks = c.loop-at.nodes.items in
    let k = c.place-node.result in
    let t = c.args.changes.now in
    let after = c.place-node.new.changes in
    let i = c.loop-at.at in
    let w = c.index-wanted-at.result in
    let o = c.index-found-at.result in
    let e = c.place-node.ensures in
    let within : i < length os = omega (arith, c.requires.room.long, c.loop-at-test.true) in
    let here : slice_get ws i ≡ Some w = slice_get_read ws (length ws) i w refl c.loop-at-test.true c.index-wanted-at.is in
    let there : slice_get os i ≡ Some o = slice_get_read os (length os) i o refl within c.index-found-at.is in
    record {
      placed =
          subst (λ (l : List ℕ). ArePlaced f new parent (take (i + 1) ws) (take (i + 1) os) l t after c.place-node.new.keep_kinds) (sym c.push.ensures.pushed)
          (subst (λ (b : Bool). ArePlaced f new parent (take (i + 1) ws) (take (i + 1) os) (ks ++ k ∷ []) t after b) (sym e.kinds.1)
          (all_next f c.loop-at.forest new parent ws os ks t c.loop-at.changes after c.loop-at.keep_kinds e.kinds.0 i w o k c.requires.room c.loop-at.invariant.placed here there e.other e.placed e.told e.kinds.2));
      places = omega (arith, c.loop-at.invariant.places, c.push.ensures.capacity);
      kept = e.kept ∙ c.loop-at.invariant.kept;
    }

pub returns-clause-placed : goal.returns-clause-placed
returns-clause-placed g c =
    let f = c.args.forest.now in
    let now = c.loop-at.forest in
    let parent = c.args.parent in
    let ws = c.args.wanted.now in
    let os = c.args.found.now in
    let ks = c.loop-at.nodes.items in
    let i = c.loop-at.at in
    let placed =
    subst (λ (us : List (Option ℕ)). ArePlaced f now parent ws us ks c.args.changes.now c.loop-at.changes c.loop-at.keep_kinds) (take_whole os i (omega (arith, c.requires.room.long, c.loop-at-test.false)))
    (subst (λ (us : List Child). ArePlaced f now parent us (take i os) ks c.args.changes.now c.loop-at.changes c.loop-at.keep_kinds) (take_whole ws i c.loop-at-test.false) c.loop-at.invariant.placed) in
    placed.places

pub returns-clause-told : goal.returns-clause-told
returns-clause-told g c = c.loop-at.invariant.placed.told

pub returns-clause-kinds : goal.returns-clause-kinds
returns-clause-kinds g c = c.loop-at.invariant.placed.kinds_tell
