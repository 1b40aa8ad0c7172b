use Rattle.std.proofs.Common.{rules, ◌≡◌, ◌+◌, ◌++◌, ◌∷◌, [], ◌<◌, ◌≤◌, ◌^◌, ℕ, List, None, Some, Ok, Err, OnOk, OnErr, length, set, refl, sym, ap, ◌∙◌, subst, arith}
use Rattle.std.specs.Prelude.{slice_get, option_map}
use Rattle.std.proofs.lemmas.Grind.{common_steps}
use Rattle.lsys_level.specs.Spots.{Spotted, spots_at, level_by, spotted_at}
use Rattle.lsys_flat.specs.Slots.{filled_slots, slot_by_place, slot_where_told}
use Rattle.lsys_match.specs.declared.refusal.AskRefusal.TheVariants as asks
use Rattle.lsys_rewrite.specs.declared.refusal.DeriveRefusal.TheVariants as refusals
use Rattle.lsys_flat.specs.Rounds.{AreNew, Rounded, fresh_found}
use Rattle.lsys_flat.proofs.News.{filled_more, none_more, none_new, stay_kept}
use Rattle.lsys_flat.proofs.Going.{stay_found}
use Rattle.lsys_flat.proofs.Rows.{round_goes, round_refused, round_wanting}
use Rattle.lsys_flat.proofs.Settled.{asked_found, at_next, has_old, new_found, short_found, spot_at, stands_here}
use Rattle.lsys_flat.proofs.round.Round.ask_next.Goals as goal

pub returns-in-Err-clause-new : goal.returns-in-Err-clause-new
returns-in-Err-clause-new g c = λ begin h.
    subst (λ (r : Rounded). AreNew begin c.ask_at.new.store r.fresh) (sym c.in_ok-open.ensures.opened)
    (none_more begin c.ask_at.new.store c.args.self.now.fresh (none_new begin c.args.store.now c.ask_at.new.store c.args.self.now.fresh (stay_kept c.args.store.now c.ask_at.new.store c.in-Err.ensures.store) h))

pub returns-in-Err-clause-asked : goal.returns-in-Err-clause-asked
returns-in-Err-clause-asked g c =
    let more = ap (λ (r : Rounded). filled_slots r.fresh) c.in_ok-open.ensures.opened ∙ filled_more c.args.self.now.fresh None in
    omega (arith, more, c.in-Err.ensures.asked)

pub returns-in-Err-clause-refused : goal.returns-in-Err-clause-refused
returns-in-Err-clause-refused g c = λ begin before naming x is h.
    round_refused g.row.L.Denot c.args.beside.now.system.now c.args.beside.now.level (spots_at c.args.beside.now.view.now c.args.beside.now.level) c.args.beside.now.mates.now c.args.beside.now.olds.now begin c.args.store.now c.ask_at.new.store before c.args.visited.now c.ask_at.new.visited
    c.args.place c.args.self.now c.open.new.self (option_map (λ a. a.now) c.old-old.result) naming x is c.requires.place h c.in-Err.refusal c.open.new.self.modules c.refusal.result c.refusal.ensures (ap (λ (r : Rounded). r.modules) c.in_ok-open.ensures.opened)
    c.in-Err.ensures.replaced c.in-Err.ensures.visited

pub settle-requires-clause-old : goal.settle-requires-clause-old
settle-requires-clause-old g c =
    let b = spot_at (spots_at c.args.beside.now.view.now c.args.beside.now.level) c.args.place c.requires.place in
    let s = stands_here c.args.beside.now.system.now (spots_at c.args.beside.now.view.now c.args.beside.now.level) c.args.beside.now.mates.now c.args.place b.0 c.requires.level b.1 c.requires.place in
    has_old g.row.L.Denot _ s.symbol _ c.in-Ok.found (c.in-Ok.ensures.replaced s.naming s.symbol s.here)

pub returns-in_err-settle-clause-stay : goal.returns-in_err-settle-clause-stay
returns-in_err-settle-clause-stay g c = stay_found {L = g.row.L.Denot} c.args.store.now c.ask_at.new.store _ c.in-Ok.found c.in-Ok.ensures.store

pub returns-in_err-settle-clause-new : goal.returns-in_err-settle-clause-new
returns-in_err-settle-clause-new g c = λ begin h.
    new_found g.row.L.Denot begin c.args.store.now c.ask_at.new.store c.args.self.now.fresh c.settle.new.self.fresh c.args.place _ c.in-Ok.found c.requires.next.each_fresh c.in-Ok.ensures.store
    (c.in_err-settle.ensures.fresh ∙ ap (λ (r : Rounded). set r.fresh c.args.place (fresh_found c.in-Ok.found)) c.in_ok-open.ensures.opened) h

pub returns-in_err-settle-clause-asked : goal.returns-in_err-settle-clause-asked
returns-in_err-settle-clause-asked g c =
    asked_found g.row.L.Denot c.args.self.now.fresh c.settle.new.self.fresh c.args.place c.args.asked.now c.ask_at.new.asked c.in-Ok.found c.requires.next.each_fresh
    (c.in_err-settle.ensures.fresh ∙ ap (λ (r : Rounded). set r.fresh c.args.place (fresh_found c.in-Ok.found)) c.in_ok-open.ensures.opened) c.in-Ok.ensures.asked

pub returns-in_err-settle-clause-refused : goal.returns-in_err-settle-clause-refused
returns-in_err-settle-clause-refused g c = λ begin before naming x is h.
    let read = round_wanting g.row.L.Denot c.args.beside.now.system.now c.args.beside.now.level (spots_at c.args.beside.now.view.now c.args.beside.now.level) c.args.beside.now.mates.now c.args.beside.now.olds.now begin c.args.store.now c.ask_at.new.store before c.args.visited.now c.ask_at.new.visited
    c.args.place c.args.self.now c.settle.new.self (option_map (λ a. a.now) c.old-old.result) naming x is c.requires.place h c.in-Ok.found c.in-Ok.ensures.visited in
    let goes : c.from_residual-in_err-settle.result ≡ Err refusals.Memory = search rules in rw goes read

pub returns-clause-stay : goal.returns-clause-stay
returns-clause-stay g c = stay_found {L = g.row.L.Denot} c.args.store.now c.ask_at.new.store _ c.in-Ok.found c.in-Ok.ensures.store

pub returns-clause-new : goal.returns-clause-new
returns-clause-new g c = λ begin h.
    new_found g.row.L.Denot begin c.args.store.now c.ask_at.new.store c.args.self.now.fresh c.settle.new.self.fresh c.args.place _ c.in-Ok.found c.requires.next.each_fresh c.in-Ok.ensures.store
    (c.settle.ensures.fresh ∙ ap (λ (r : Rounded). set r.fresh c.args.place (fresh_found c.in-Ok.found)) c.in_ok-open.ensures.opened) h

pub returns-clause-asked : goal.returns-clause-asked
returns-clause-asked g c =
    asked_found g.row.L.Denot c.args.self.now.fresh c.settle.new.self.fresh c.args.place c.args.asked.now c.ask_at.new.asked c.in-Ok.found c.requires.next.each_fresh
    (c.settle.ensures.fresh ∙ ap (λ (r : Rounded). set r.fresh c.args.place (fresh_found c.in-Ok.found)) c.in_ok-open.ensures.opened) c.in-Ok.ensures.asked

pub returns-clause-going : goal.returns-clause-going
returns-clause-going g c = λ begin before naming x is made new h.
    round_goes g.row.L.Denot c.args.beside.now.system.now c.args.beside.now.level (spots_at c.args.beside.now.view.now c.args.beside.now.level) c.args.beside.now.mates.now c.args.beside.now.olds.now begin c.args.store.now c.ask_at.new.store before c.args.visited.now c.ask_at.new.visited
    c.args.place c.args.self.now c.settle.new.self (option_map (λ a. a.now) c.old-old.result) naming x is c.requires.place h c.in-Ok.found c.open.new.self c.requires.next c.in_ok-open.ensures.opened c.old-old.ensures made new
    c.in-Ok.ensures.replaced c.in-Ok.ensures.answered c.in-Ok.ensures.visited c.in-Ok.ensures.store c.in_ok-settle.ensures.replaced c.in_ok-settle.ensures.settled

pub settle-requires-clause-short : goal.settle-requires-clause-short
settle-requires-clause-short g c = λ b e.
    let s = stands_here c.args.beside.now.system.now (spots_at c.args.beside.now.view.now c.args.beside.now.level) c.args.beside.now.mates.now c.args.place b c.requires.level e c.requires.place in
    short_found g.row.L.Denot c.args.beside.now.system.now c.args.beside.now.level (level_by s.naming (spots_at c.args.beside.now.view.now c.args.beside.now.level)) c.args.place s.symbol b.seen _ c.in-Ok.found c.requires.level.well s.seen
    (c.in-Ok.ensures.replaced s.naming s.symbol s.here)

pub returns-clause-next : goal.returns-clause-next
returns-clause-next g c =
    let b = spot_at (spots_at c.args.beside.now.view.now c.args.beside.now.level) c.args.place c.requires.place in
    let s = stands_here c.args.beside.now.system.now (spots_at c.args.beside.now.view.now c.args.beside.now.level) c.args.beside.now.mates.now c.args.place b.0 c.requires.level b.1 c.requires.place in
    let replaces = c.in_ok-settle.ensures.replaced b.0 b.1 in
    at_next g.row.L.Denot c.args.place b.0.seen c.args.beside.now.olds.now (slot_by_place c.args.beside.now.mates.now c.args.place) (option_map (λ a. a.now) c.old-old.result) c.in-Ok.found c.settle.new.self.next c.args.self.now c.open.new.self c.settle.new.self c.requires.next
    c.in_ok-open.ensures.opened (c.in_ok-settle.ensures.settled b.0 b.1) (replaces.parents ∙ ap (λ (r : Rounded). r.next.grown.parents + 1) c.in_ok-open.ensures.opened) c.old-old.ensures
    (has_old g.row.L.Denot _ s.symbol _ c.in-Ok.found (c.in-Ok.ensures.replaced s.naming s.symbol s.here))

pub returns-clause-room : goal.returns-clause-room
returns-clause-room g c =
    let b = spot_at (spots_at c.args.beside.now.view.now c.args.beside.now.level) c.args.place c.requires.place in
    let replaces = c.in_ok-settle.ensures.replaced b.0 b.1 in
    replaces.room ∙ ap (λ (r : Rounded). r.next.grown.room) c.in_ok-open.ensures.opened

pub returns-in_err-open-clause-new : goal.returns-in_err-open-clause-new
returns-in_err-open-clause-new g c = grind (arith, common_steps)

pub returns-in-Err-clause-stay : goal.returns-in-Err-clause-stay
returns-in-Err-clause-stay g c = grind (arith, common_steps)

pub returns-in-Err-clause-each : goal.returns-in-Err-clause-each
returns-in-Err-clause-each g c = grind (arith, common_steps)

pub settle-requires-clause-opened : goal.settle-requires-clause-opened
settle-requires-clause-opened g c = grind (arith, common_steps)

pub returns-in_err-settle-clause-each : goal.returns-in_err-settle-clause-each
returns-in_err-settle-clause-each g c = grind (arith, common_steps)

pub returns-clause-each : goal.returns-clause-each
returns-clause-each g c = grind (arith, common_steps)
