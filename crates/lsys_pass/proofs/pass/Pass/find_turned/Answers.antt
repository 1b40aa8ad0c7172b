use Rattle.std.proofs.Common.{rules, refl, sym, ap, ◌∙◌, subst}
use Rattle.lsys_reads.specs.Seats.{HasSeat}
use Rattle.lsys_pass.specs.Passes.{PassView}
use Rattle.lsys_pass.specs.Fresh.{WasJustMade}
use Rattle.lsys_pass.proofs.Failing.{still_failed}
use Rattle.lsys_pass.proofs.Turnings.{room_there, levels_there, gone_lives, KeepsLists, turned_found, turned_goes, if_all, on_all}
use Rattle.lsys_pass.proofs.pass.Pass.find_turned.Goals as goal

pub note_turned-requires-clause-lives : goal.note_turned-requires-clause-lives
note_turned-requires-clause-lives g c =
    gone_lives _ c.requires.fresh.0 c.self.invariant (ap (λ (z : PassView). z.state) c.self.view_is ∙ c.requires.failed) (subst (λ (z : PassView). WasJustMade z c.requires.fresh.0) (sym c.self.view_is) c.requires.fresh.2)

pub note_turned-requires-clause-levels : goal.note_turned-requires-clause-levels
note_turned-requires-clause-levels g c =
    levels_there _ c.requires.fresh.0 c.self.invariant (ap (λ (z : PassView). z.state) c.self.view_is ∙ c.requires.failed) (subst (λ (z : PassView). WasJustMade z c.requires.fresh.0) (sym c.self.view_is) c.requires.fresh.2) c.requires.fresh.1

pub note_turned-requires-clause-room : goal.note_turned-requires-clause-room
note_turned-requires-clause-room g c =
    room_there _ c.requires.fresh.0 c.self.invariant (ap (λ (z : PassView). z.state) c.self.view_is ∙ c.requires.failed) (subst (λ (z : PassView). WasJustMade z c.requires.fresh.0) (sym c.self.view_is) c.requires.fresh.2)

pub invariant_of-self : goal.invariant_of-self
invariant_of-self g c =
    still_failed _ _ c.self.invariant (record {
      was_failed = ap (λ (z : PassView). z.state) c.self.view_is ∙ c.requires.failed;
      failed = ap (λ (z : PassView). z.state) c.self.view_is ∙ c.requires.failed;
      stored = c.self.invariant.stored;
      few = c.self.invariant.few;
      unmarked = c.note_turned.ensures.clear;
      answers = refl;
      sizes = refl;
      run = record {
        system = refl;
        limit = refl;
        root = refl;
        was = refl;
        store = refl;
        reads = refl;
        listed = refl;
        renewed = ap (λ p. p.items) c.note_turned.ensures.renewed;
        born = c.note_turned.ensures.born;
        same_seats = c.note_turned.ensures.seats;
      };
      seats = c.note_turned.ensures.keeps;
    })

pub returns : goal.returns
returns g c =
    let r = c.note_turned.result in
    let new = c.note_turned.ensures in
    let same : KeepsLists _ c.note_turned.new.self = record {
      pending = new.pending;
      faults = ap (λ p. p.items) new.faults;
      renewed = ap (λ p. p.items) new.renewed;
      born = new.born;
      changes = new.changes;
      bare = new.bare;
    } in
    record {
      found = if_all r _ _ _ (on_all r _ _ _ _ new.dropped new.moved new.first (λ d m f. record { dropped = d; moved = m; first = f })) new.found
          (λ e f found. turned_found _ _ c.note_turned.new.seats c.note_turned.new.self c.self.view_is same new.seats e f.beside.items f.readers.items c.self.invariant (ap (λ (z : PassView). z.state) c.self.view_is ∙ c.requires.failed) new.keeps found);
      goes = on_all r _ _ _ _ new.dropped new.moved new.first (λ d m f. turned_goes _ _ c.note_turned.new.seats c.note_turned.new.self c.self.view_is same new.seats (record { dropped = d; moved = m; first = f }));
      same = search rules;
      seats = search rules;
      keeps = λ k seat. new.keeps k (subst (λ (z : PassView). HasSeat z.seats k) (sym c.self.view_is) seat);
    }
