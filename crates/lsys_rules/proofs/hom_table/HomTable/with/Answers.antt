use Rattle.std.proofs.Common.{◌≡◌, map, ap, subst, sym, ◌∙◌, bytes_eq}
use Rattle.std.specs.Prelude.{IfOk}
use Rattle.indexmap.specs.IndexMap.{insert_entry}
use Rattle.lsys_spec.specs.Edits.{put_hom}
use Rattle.lsys_bodies.specs.Views.{homomorphism_of}
use Rattle.lsys_rules.specs.InsideRules.{HaveOwnLabels}
use Rattle.lsys_rules.proofs.Labels.{own_put, homomorphisms_put}
use Rattle.lsys_rules.proofs.hom_table.HomTable.with.Goals as goal

pub of-requires : goal.of-requires
of-requires c =
    let old = c.self.inside.rules.value.by_label.entries in
    let copied = c.in_ok-by_label.ensures ∙ ap (λ v. v.by_label.entries) c.deref.ensures in
    let all = c.in_ok-insert.ensures.entries ∙ ap (λ es. insert_entry bytes_eq es c.args.rule.label c.args.rule) copied in
    subst (HaveOwnLabels (λ r. r.label)) (sym all) (own_put (λ r. r.label) old c.args.rule c.self.invariant)

pub returns : goal.returns
returns c =
    let old = c.self.inside.rules.value.by_label.entries in
    let copied = c.in_ok-by_label.ensures ∙ ap (λ v. v.by_label.entries) c.deref.ensures in
    let all = c.in_ok-insert.ensures.entries ∙ ap (λ es. insert_entry bytes_eq es c.args.rule.label c.args.rule) copied in
    let same = ap (λ es. map homomorphism_of (map (λ e. e.1) es)) all ∙ homomorphisms_put old c.args.rule c.self.invariant ∙ ap (put_hom (homomorphism_of c.args.rule)) c.self.view_is in
    subst (λ v. IfOk c.of.result (λ t. t ≡ v)) same c.of.ensures
