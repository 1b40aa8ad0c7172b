use Rattle.std.proofs.Common.{List, ℕ, length, sym, ap, ◌∙◌, subst, arith}
use Rattle.lsys_region.specs.Rooms.{room_of}
use Rattle.lsys_forest.specs.Groves.{now_of}
use Rattle.lsys_children.specs.Children.{numbers_of, notes_for, AreRenewed, TellsOf}
use Rattle.lsys_children.proofs.Placing.{ArePlaced}
use Rattle.lsys_forest.proofs.SoundLemmas.{some_of}
use Rattle.lsys_children.proofs.AllLemmas.{can_place_all, placed_kids, without_short, Ends, kids_now, renewed_all, told_all, spends_all}
use Rattle.lsys_children.proofs.renew.renew_all.Goals as goal

pub place_all-keep_kinds-requires-clause-room : goal.place_all-keep_kinds-requires-clause-room
place_all-keep_kinds-requires-clause-room g c =
    can_place_all c.args.forest.now c.args.parent c.args.wanted.now c.args.found.now c.args.gone.now c.args.changes.now c.requires.sound c.requires.lives c.requires.matched c.requires.apart c.requires.whole c.requires.room

pub set_list-had_others-requires-clause-kids : goal.set_list-had_others-requires-clause-kids
set_list-had_others-requires-clause-kids g c =
    let f = c.args.forest.now in
    let parent = c.args.parent in
    let ws = c.args.wanted.now in
    let os = c.args.found.now in
    let gone = c.args.gone.now in
    let t = c.args.changes.now in
    let a = c.place_all-keep_kinds.result in
    let now = c.place_all-keep_kinds.new.forest in
    let t' = c.place_all-keep_kinds.new.changes in
    let ks = c.deref.result.now in
    let placed = subst (λ (l : List ℕ). ArePlaced f now parent ws os l t t' a) (sym c.deref.ensures.value)
    (record { places = c.place_all-keep_kinds.ensures.placed; told = c.place_all-keep_kinds.ensures.told; kinds_tell = c.place_all-keep_kinds.ensures.kinds }) in
    placed_kids f now parent ws os ks gone t t' a c.requires.sound c.requires.lives c.requires.matched placed

pub set_list-had_others-requires-clause-notes : goal.set_list-had_others-requires-clause-notes
set_list-had_others-requires-clause-notes g c =
    let p = some_of (now_of c.args.forest.now c.args.parent) c.requires.lives in
    let room = c.requires.room p.0 p.1 in
    let is = (c.requires.matched p.0 p.1).found in
    omega (arith, room.notes, c.place_all-keep_kinds.ensures.placed.spends.notes_left, ap notes_for is)

pub set_list-had_others-requires-clause-room : goal.set_list-had_others-requires-clause-room
set_list-had_others-requires-clause-room g c =
    let f = c.args.forest.now in
    let parent = c.args.parent in
    let ws = c.args.wanted.now in
    let os = c.args.found.now in
    let t = c.args.changes.now in
    let a = c.place_all-keep_kinds.result in
    let now = c.place_all-keep_kinds.new.forest in
    let t' = c.place_all-keep_kinds.new.changes in
    let p = some_of (now_of f parent) c.requires.lives in
    let placed = subst (λ (l : List ℕ). ArePlaced f now parent ws os l t t' a) (sym c.deref.ensures.value)
    (record { places = c.place_all-keep_kinds.ensures.placed; told = c.place_all-keep_kinds.ensures.told; kinds_tell = c.place_all-keep_kinds.ensures.kinds }) in
    omega (arith, (c.requires.room p.0 p.1).kids, placed.places.spends.kids_left, ap room_of placed.places.long)

pub tell_family-requires : goal.tell_family-requires
tell_family-requires g c =
    let f = c.args.forest.now in
    let parent = c.args.parent in
    let ws = c.args.wanted.now in
    let os = c.args.found.now in
    let t = c.args.changes.now in
    let a = c.place_all-keep_kinds.result in
    let now = c.place_all-keep_kinds.new.forest in
    let t' = c.place_all-keep_kinds.new.changes in
    let p = some_of (now_of f parent) c.requires.lives in
    let placed = subst (λ (l : List ℕ). ArePlaced f now parent ws os l t t' a) (sym c.deref.ensures.value)
    (record { places = c.place_all-keep_kinds.ensures.placed; told = c.place_all-keep_kinds.ensures.told; kinds_tell = c.place_all-keep_kinds.ensures.kinds }) in
    omega (arith, (c.requires.room p.0 p.1).told, placed.told.room, placed.places.long)

pub tell_gone-requires : goal.tell_gone-requires
tell_gone-requires g c =
    let f = c.args.forest.now in
    let parent = c.args.parent in
    let ws = c.args.wanted.now in
    let os = c.args.found.now in
    let t = c.args.changes.now in
    let a = c.place_all-keep_kinds.result in
    let now = c.place_all-keep_kinds.new.forest in
    let t' = c.place_all-keep_kinds.new.changes in
    let p = some_of (now_of f parent) c.requires.lives in
    let placed = subst (λ (l : List ℕ). ArePlaced f now parent ws os l t t' a) (sym c.deref.ensures.value)
    (record { places = c.place_all-keep_kinds.ensures.placed; told = c.place_all-keep_kinds.ensures.told; kinds_tell = c.place_all-keep_kinds.ensures.kinds }) in
    omega (arith, (c.requires.room p.0 p.1).told, placed.told.room, placed.places.long, c.tell_family.ensures.room, ap length (c.requires.matched p.0 p.1).left, without_short (now_of f) (numbers_of ws) p.0.kids)

pub returns-clause-children : goal.returns-clause-children
returns-clause-children g c = λ n is.
    let f = c.args.forest.now in
    let parent = c.args.parent in
    let ws = c.args.wanted.now in
    let os = c.args.found.now in
    let gone = c.args.gone.now in
    let t = c.args.changes.now in
    let a = c.place_all-keep_kinds.result in
    let now = c.place_all-keep_kinds.new.forest in
    let t' = c.place_all-keep_kinds.new.changes in
    let ks = c.deref.result.now in
    let placed = subst (λ (l : List ℕ). ArePlaced f now parent ws os l t t' a) (sym c.deref.ensures.value)
    (record { places = c.place_all-keep_kinds.ensures.placed; told = c.place_all-keep_kinds.ensures.told; kinds_tell = c.place_all-keep_kinds.ensures.kinds }) in
    let new = c.set_list-had_others.new.forest in
    let had = c.set_list-had_others.result in
    let set = c.set_list-had_others.ensures in
    let family = c.tell_family.ensures in
    let t'' = c.tell_family.new.changes in
    let after = c.tell_gone.new.self in
    let ends : Ends f now new parent gone ks t' t'' after had a = record {
      set = set.set;
      spends = set.spends;
      had_others = set.had;
      others = family.others;
      other_kinds = family.kinds;
      stays = family.stays;
      changed = family.changed;
      added = family.added;
      gone_same = family.gone;
      room = family.room;
      last = c.tell_gone.ensures.told;
      last_room = c.tell_gone.ensures.room;
    } in
    subst (λ (l : List ℕ). AreRenewed (now_of f) (now_of new) parent n ws l) (sym (kids_now f now new parent ws os ks gone t t' t'' after had a c.requires.sound n is (c.requires.matched n is) placed ends)) (renewed_all f now new parent ws os ks gone t t' t'' after had a c.requires.sound n is (c.requires.matched n is) placed ends)

pub returns-clause-told : goal.returns-clause-told
returns-clause-told g c = λ n is.
    let f = c.args.forest.now in
    let parent = c.args.parent in
    let ws = c.args.wanted.now in
    let os = c.args.found.now in
    let gone = c.args.gone.now in
    let t = c.args.changes.now in
    let a = c.place_all-keep_kinds.result in
    let now = c.place_all-keep_kinds.new.forest in
    let t' = c.place_all-keep_kinds.new.changes in
    let ks = c.deref.result.now in
    let placed = subst (λ (l : List ℕ). ArePlaced f now parent ws os l t t' a) (sym c.deref.ensures.value)
    (record { places = c.place_all-keep_kinds.ensures.placed; told = c.place_all-keep_kinds.ensures.told; kinds_tell = c.place_all-keep_kinds.ensures.kinds }) in
    let new = c.set_list-had_others.new.forest in
    let had = c.set_list-had_others.result in
    let set = c.set_list-had_others.ensures in
    let family = c.tell_family.ensures in
    let t'' = c.tell_family.new.changes in
    let after = c.tell_gone.new.self in
    let ends : Ends f now new parent gone ks t' t'' after had a = record {
      set = set.set;
      spends = set.spends;
      had_others = set.had;
      others = family.others;
      other_kinds = family.kinds;
      stays = family.stays;
      changed = family.changed;
      added = family.added;
      gone_same = family.gone;
      room = family.room;
      last = c.tell_gone.ensures.told;
      last_room = c.tell_gone.ensures.room;
    } in
    subst (λ (l : List ℕ). TellsOf (now_of f) (now_of new) parent n ws l t after) (sym (kids_now f now new parent ws os ks gone t t' t'' after had a c.requires.sound n is (c.requires.matched n is) placed ends)) (told_all f now new parent ws os ks gone t t' t'' after had a c.requires.sound n is (c.requires.matched n is) placed ends)

pub returns-clause-spends : goal.returns-clause-spends
returns-clause-spends g c = λ n is.
    let f = c.args.forest.now in
    let parent = c.args.parent in
    let ws = c.args.wanted.now in
    let os = c.args.found.now in
    let gone = c.args.gone.now in
    let t = c.args.changes.now in
    let a = c.place_all-keep_kinds.result in
    let now = c.place_all-keep_kinds.new.forest in
    let t' = c.place_all-keep_kinds.new.changes in
    let ks = c.deref.result.now in
    let placed = subst (λ (l : List ℕ). ArePlaced f now parent ws os l t t' a) (sym c.deref.ensures.value)
    (record { places = c.place_all-keep_kinds.ensures.placed; told = c.place_all-keep_kinds.ensures.told; kinds_tell = c.place_all-keep_kinds.ensures.kinds }) in
    let new = c.set_list-had_others.new.forest in
    let had = c.set_list-had_others.result in
    let set = c.set_list-had_others.ensures in
    let family = c.tell_family.ensures in
    let t'' = c.tell_family.new.changes in
    let after = c.tell_gone.new.self in
    let ends : Ends f now new parent gone ks t' t'' after had a = record {
      set = set.set;
      spends = set.spends;
      had_others = set.had;
      others = family.others;
      other_kinds = family.kinds;
      stays = family.stays;
      changed = family.changed;
      added = family.added;
      gone_same = family.gone;
      room = family.room;
      last = c.tell_gone.ensures.told;
      last_room = c.tell_gone.ensures.room;
    } in
    spends_all f now new parent ws os ks gone t t' t'' after had a c.requires.sound n is (c.requires.matched n is) placed ends

pub returns-clause-kept : goal.returns-clause-kept
returns-clause-kept g c = c.set_list-had_others.ensures.kept ∙ c.place_all-keep_kinds.ensures.kept
