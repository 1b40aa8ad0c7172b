use Rattle.std.proofs.Common.{◌≡◌, ◌≤◌, ap, sym, ◌∙◌, subst}
use Rattle.lsys_spec.specs.Systems.{System}
use Rattle.lsys_level.specs.Spots.{spots_at}
use Rattle.lsys_session.specs.Requests.{HasLevel}
use Rattle.lsys_session.specs.Given.{level_line, level_number}
use Rattle.lsys_session.specs.Sessions.{WasSaid}
use Rattle.lsys_session.specs.declared.outcome.Outcome.TheVariants.{Printed}
use Rattle.lsys_session.specs.declared.request.Request.TheVariants.{String}
use Rattle.lsys_session.proofs.Querying.{within_by, number_within, level_there, level_given}
use Rattle.lsys_session.proofs.session.Session.print_level.Goals as goal

pub print_line-requires-clause-level : goal.print_line-requires-clause-level
print_line-requires-clause-level g c =
    let limit = g.D.Derivation.limit_of c.self.inside.derivation in
    let s = g.D.Derivation.system_of c.self.inside.derivation in
    let number : c.number_of.result ≡ level_number s.depth c.args.level = c.number_of.ensures ∙ ap (λ n. level_number n c.args.level) (c.depth-depth.ensures.depth ∙ ap (λ (t : System). t.depth) c.system.ensures.system) in
    let there : HasLevel s (String c.args.level) = subst (λ (t : System). HasLevel t (String c.args.level)) (ap g.D.Derivation.system_of (sym c.self.view_is)) c.requires.level in
    let within : level_number s.depth c.args.level ≤ s.depth = number_within s.depth c.args.level (within_by s c.args.level there) in
    level_there limit s (g.D.LevelView.levels c.self.inside.derivation) c.system.ensures.levels c.number_of.result (rw number within)

pub returns-clause-quotes : goal.returns-clause-quotes
returns-clause-quotes g c =
    let limit = g.D.Derivation.limit_of c.self.inside.derivation in
    let s = g.D.Derivation.system_of c.self.inside.derivation in
    let levels = g.D.LevelView.levels c.self.inside.derivation in
    let number : c.number_of.result ≡ level_number s.depth c.args.level = c.number_of.ensures ∙ ap (λ n. level_number n c.args.level) (c.depth-depth.ensures.depth ∙ ap (λ (t : System). t.depth) c.system.ensures.system) in
    let says = subst (λ n. WasSaid g.K.Sink.written g.K.Sink.faults c.args.sink.now c.print_line.new.sink c.print_line.new.out (level_line (spots_at levels n)) Printed c.print_line.result) number c.print_line.ensures in
    rw (← c.self.view_is) (level_given limit s levels c.system.ensures.levels g.K.Sink.written g.K.Sink.faults c.args.sink.now c.print_line.new.sink c.print_line.new.out c.args.level c.print_line.result says)
