use Rattle.std.proofs.Common.{◌++◌, map}
use Rattle.lsys_syntax.specs.Commands.{set_axiom, set_depth, set_ignored, set_lattice, set_schedule, set_seed}
use Rattle.lsys_spec.specs.Systems.{written}
use Rattle.lsys_spec.specs.Shown.{as_put, as_put_homomorphism, as_set_own, script_of}
use Rattle.lsys_io.proofs.Puts.{puts_then, puts_failed}
use Rattle.lsys_rules.specs.Showing.{script_line}
use Rattle.lsys_rules.proofs.ShownTexts.{show-text}
use Rattle.lsys_rules.proofs.script.show.Goals as goal

pub returns-in_err-put_version : goal.returns-in_err-put_version
returns-in_err-put_version g c =
    let s = c.args.system.now in
    rw (show-text s) (puts_failed (script_line (set_lattice s.lattice) ++ (script_line (set_seed s.seed) ++ (script_line (set_axiom (written s.axiom_string)) ++ (script_line (set_ignored s.ignored) ++ (script_of (map as_put s.rules) ++ (script_of (map as_put_homomorphism s.homomorphisms) ++ (script_of (map as_set_own s.own) ++ (script_line (set_schedule s.schedule) ++ (script_line (set_depth s.depth)))))))))) c.from_residual.ensures.0 (rw (c.version.ensures.version, c.lineage.ensures) at c.in_err-put_version.ensures))

pub returns-in_err-put_lattice : goal.returns-in_err-put_lattice
returns-in_err-put_lattice g c =
    let s = c.args.system.now in
    rw (show-text s) (puts_then (rw (c.version.ensures.version, c.lineage.ensures) at c.in_ok-put_version.ensures) (puts_failed (script_line (set_seed s.seed) ++ (script_line (set_axiom (written s.axiom_string)) ++ (script_line (set_ignored s.ignored) ++ (script_of (map as_put s.rules) ++ (script_of (map as_put_homomorphism s.homomorphisms) ++ (script_of (map as_set_own s.own) ++ (script_line (set_schedule s.schedule) ++ (script_line (set_depth s.depth))))))))) c.from_residual-in_err-put_lattice.ensures.0 (rw c.lattice.ensures at c.in_err-put_lattice.ensures)))

pub returns-in_err-put_seed : goal.returns-in_err-put_seed
returns-in_err-put_seed g c =
    let s = c.args.system.now in
    rw (show-text s) (puts_then (rw (c.version.ensures.version, c.lineage.ensures) at c.in_ok-put_version.ensures) (puts_then (rw c.lattice.ensures at c.in_ok-put_lattice.ensures) (puts_failed (script_line (set_axiom (written s.axiom_string)) ++ (script_line (set_ignored s.ignored) ++ (script_of (map as_put s.rules) ++ (script_of (map as_put_homomorphism s.homomorphisms) ++ (script_of (map as_set_own s.own) ++ (script_line (set_schedule s.schedule) ++ (script_line (set_depth s.depth)))))))) c.from_residual-in_err-put_seed.ensures.0 (rw c.seed.ensures at c.in_err-put_seed.ensures))))

pub returns-in_err-put_axiom : goal.returns-in_err-put_axiom
returns-in_err-put_axiom g c =
    let s = c.args.system.now in
    rw (show-text s) (puts_then (rw (c.version.ensures.version, c.lineage.ensures) at c.in_ok-put_version.ensures) (puts_then (rw c.lattice.ensures at c.in_ok-put_lattice.ensures) (puts_then (rw c.seed.ensures at c.in_ok-put_seed.ensures) (puts_failed (script_line (set_ignored s.ignored) ++ (script_of (map as_put s.rules) ++ (script_of (map as_put_homomorphism s.homomorphisms) ++ (script_of (map as_set_own s.own) ++ (script_line (set_schedule s.schedule) ++ (script_line (set_depth s.depth))))))) c.from_residual-in_err-put_axiom.ensures.0 (rw c.axiom.ensures.symbols at c.in_err-put_axiom.ensures)))))

pub returns-in_err-put_ignored : goal.returns-in_err-put_ignored
returns-in_err-put_ignored g c =
    let s = c.args.system.now in
    rw (show-text s) (puts_then (rw (c.version.ensures.version, c.lineage.ensures) at c.in_ok-put_version.ensures) (puts_then (rw c.lattice.ensures at c.in_ok-put_lattice.ensures) (puts_then (rw c.seed.ensures at c.in_ok-put_seed.ensures) (puts_then (rw c.axiom.ensures.symbols at c.in_ok-put_axiom.ensures) (puts_failed (script_of (map as_put s.rules) ++ (script_of (map as_put_homomorphism s.homomorphisms) ++ (script_of (map as_set_own s.own) ++ (script_line (set_schedule s.schedule) ++ (script_line (set_depth s.depth)))))) c.from_residual-in_err-put_ignored.ensures.0 (rw c.ignored.ensures at c.in_err-put_ignored.ensures))))))

pub returns-in_err-put_rules : goal.returns-in_err-put_rules
returns-in_err-put_rules g c =
    let s = c.args.system.now in
    rw (show-text s) (puts_then (rw (c.version.ensures.version, c.lineage.ensures) at c.in_ok-put_version.ensures) (puts_then (rw c.lattice.ensures at c.in_ok-put_lattice.ensures) (puts_then (rw c.seed.ensures at c.in_ok-put_seed.ensures) (puts_then (rw c.axiom.ensures.symbols at c.in_ok-put_axiom.ensures) (puts_then (rw c.ignored.ensures at c.in_ok-put_ignored.ensures) (puts_failed (script_of (map as_put_homomorphism s.homomorphisms) ++ (script_of (map as_set_own s.own) ++ (script_line (set_schedule s.schedule) ++ (script_line (set_depth s.depth))))) c.from_residual-in_err-put_rules.ensures.0 (rw c.rules.ensures.rules at c.in_err-put_rules.ensures)))))))

pub returns-in_err-put_hom_rules : goal.returns-in_err-put_hom_rules
returns-in_err-put_hom_rules g c =
    let s = c.args.system.now in
    rw (show-text s) (puts_then (rw (c.version.ensures.version, c.lineage.ensures) at c.in_ok-put_version.ensures) (puts_then (rw c.lattice.ensures at c.in_ok-put_lattice.ensures) (puts_then (rw c.seed.ensures at c.in_ok-put_seed.ensures) (puts_then (rw c.axiom.ensures.symbols at c.in_ok-put_axiom.ensures) (puts_then (rw c.ignored.ensures at c.in_ok-put_ignored.ensures) (puts_then (rw c.rules.ensures.rules at c.in_ok-put_rules.ensures) (puts_failed (script_of (map as_set_own s.own) ++ (script_line (set_schedule s.schedule) ++ (script_line (set_depth s.depth)))) c.from_residual-in_err-put_hom_rules.ensures.0 (rw c.hom_rules.ensures.rules at c.in_err-put_hom_rules.ensures))))))))

pub returns-in_err-put_own_lists : goal.returns-in_err-put_own_lists
returns-in_err-put_own_lists g c =
    let s = c.args.system.now in
    rw (show-text s) (puts_then (rw (c.version.ensures.version, c.lineage.ensures) at c.in_ok-put_version.ensures) (puts_then (rw c.lattice.ensures at c.in_ok-put_lattice.ensures) (puts_then (rw c.seed.ensures at c.in_ok-put_seed.ensures) (puts_then (rw c.axiom.ensures.symbols at c.in_ok-put_axiom.ensures) (puts_then (rw c.ignored.ensures at c.in_ok-put_ignored.ensures) (puts_then (rw c.rules.ensures.rules at c.in_ok-put_rules.ensures) (puts_then (rw c.hom_rules.ensures.rules at c.in_ok-put_hom_rules.ensures) (puts_failed (script_line (set_schedule s.schedule) ++ (script_line (set_depth s.depth))) c.from_residual-in_err-put_own_lists.ensures.0 (rw c.own_lists.ensures at c.in_err-put_own_lists.ensures)))))))))

pub returns-in_err-put_schedule : goal.returns-in_err-put_schedule
returns-in_err-put_schedule g c =
    let s = c.args.system.now in
    rw (show-text s) (puts_then (rw (c.version.ensures.version, c.lineage.ensures) at c.in_ok-put_version.ensures) (puts_then (rw c.lattice.ensures at c.in_ok-put_lattice.ensures) (puts_then (rw c.seed.ensures at c.in_ok-put_seed.ensures) (puts_then (rw c.axiom.ensures.symbols at c.in_ok-put_axiom.ensures) (puts_then (rw c.ignored.ensures at c.in_ok-put_ignored.ensures) (puts_then (rw c.rules.ensures.rules at c.in_ok-put_rules.ensures) (puts_then (rw c.hom_rules.ensures.rules at c.in_ok-put_hom_rules.ensures) (puts_then (rw c.own_lists.ensures at c.in_ok-put_own_lists.ensures) (puts_failed (script_line (set_depth s.depth)) c.from_residual-in_err-put_schedule.ensures.0 (rw c.schedule.ensures.words at c.in_err-put_schedule.ensures))))))))))

pub returns : goal.returns
returns g c =
    let s = c.args.system.now in
    rw (show-text s) (puts_then (rw (c.version.ensures.version, c.lineage.ensures) at c.in_ok-put_version.ensures) (puts_then (rw c.lattice.ensures at c.in_ok-put_lattice.ensures) (puts_then (rw c.seed.ensures at c.in_ok-put_seed.ensures) (puts_then (rw c.axiom.ensures.symbols at c.in_ok-put_axiom.ensures) (puts_then (rw c.ignored.ensures at c.in_ok-put_ignored.ensures) (puts_then (rw c.rules.ensures.rules at c.in_ok-put_rules.ensures) (puts_then (rw c.hom_rules.ensures.rules at c.in_ok-put_hom_rules.ensures) (puts_then (rw c.own_lists.ensures at c.in_ok-put_own_lists.ensures) (puts_then (rw c.schedule.ensures.words at c.in_ok-put_schedule.ensures) ((rw c.depth.ensures.depth at c.put_depth.ensures)))))))))))
