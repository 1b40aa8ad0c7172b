use Rattle.std.proofs.Common.{◌≡◌, length, set, ap, ◌∙◌, subst, arith}
use Rattle.std.specs.Prelude.{OnOk}
use Rattle.std.proofs.lemmas.Grind.{common_steps}
use Rattle.lsys_level.specs.Spots.{spots_at}
use Rattle.lsys_flat.specs.Rounds.{Rounded}
use Rattle.lsys_flat.specs.Slots.{filled_slots}
use Rattle.lsys_flat.specs.Answers.{lists_of}
use Rattle.lsys_flat.proofs.News.{filled_most}
use Rattle.lsys_flat.specs.Drafts.{Drafted}
use Rattle.lsys_flat.proofs.DraftingAsked.{has_asked, kept_is, map_set}
use Rattle.lsys_flat.proofs.draft.Draft.ask.Goals as goal

pub overflow_add-self : goal.overflow_add-self
overflow_add-self g c =
    let most = filled_most c.as_slice.result.now in
    let asked : c.self.inside.asked ≡ c.args.self.now.asked = ap (λ (d : Drafted). d.asked) c.self.view_is in
    let each : length c.as_slice.result.now ≡ length c.ask_level-done.new.self.fresh = ap length (c.as_slice.ensures.value ∙ c.finish-found.ensures.fresh) in
    let row = ap (λ v. length (spots_at v c.args.level)) (c.view.ensures ∙ ap (λ (d : Drafted). d.revised.view) c.self.view_is) in
    omega (arith, most, asked, c.requires.asked, c.count_filled.ensures, each, c.ask_level-done.ensures.each, c.requires.level.few, row)

pub returns : goal.returns
returns g c =
    let view = c.view.ensures ∙ ap (λ (d : Drafted). d.revised.view) c.self.view_is in
    let mates = c.mates.ensures ∙ ap (λ (d : Drafted). d.revised.mates) c.self.view_is in
    let room = ap (λ (d : Drafted). d.room) c.self.view_is in
    has_asked c.args.system.now c.args.level _ c.answers_at.result.now c.args.store.now c.ask_level-done.new.store c.args.visited.now c.ask_level-done.new.visited c.args.asked.now c.ask_level-done.new.asked c.self.inside.room c.args.self.now _ c.ask_level-done.result c.finish-found.result.next
    c.ask_level-done.new.self c.view.result.now c.mates.result.now view mates c.answers_at.ensures room
    (kept_is c.args.self.now c.self.inside.revision (lists_of c.self.inside.fresh.items) _ (lists_of c.self.inside.taken.items) _ c.self.inside.room c.self.inside.asked c.self.inside.all c.count_filled.result c.from.result c.args.level c.ask_level-done.new.self c.self.view_is
    (map_set (λ level. level.items) c.self.inside.fresh.items c.args.level c.finish-found.result.fresh ∙ ap (set (lists_of c.self.inside.fresh.items) c.args.level) c.finish-found.ensures.fresh)
    (map_set (λ level. level.items) c.self.inside.taken.items c.args.level c.finish-found.result.taken ∙ ap (set (lists_of c.self.inside.taken.items) c.args.level) c.finish-found.ensures.taken)
    (c.count_filled.ensures ∙ ap filled_slots (c.as_slice.ensures.value ∙ c.finish-found.ensures.fresh)) (c.from.ensures ∙ c.finish-found.ensures.questions))
    c.ask_level-done.ensures.round c.ask_level-done.ensures.whole c.finish-found.ensures.next (subst (λ n. OnOk c.ask_level-done.result (c.ask_level-done.new.self.next.grown.room ≡ n)) (ap (λ (r : Rounded). r.next.grown.room) c.new-round.ensures) c.ask_level-done.ensures.room) c.ask_level-done.ensures.new c.ask_level-done.ensures.each c.ask_level-done.ensures.asked

pub index_mut-requires : goal.index_mut-requires
index_mut-requires g c = grind (arith, common_steps)

pub index_mut-requires-2 : goal.index_mut-requires-2
index_mut-requires-2 g c = grind (arith, common_steps)
