use Rattle.std.proofs.Common.{rules, ap, ap₂, codes, true, map, ◌≡◌, ◌∙◌, string_bytes, Result, Ok, Err, IfOk, IfErr}
use Rattle.std.specs.Result.{MatchResult}
use Rattle.clap.specs.Words.{App, app_of, first_of, is_simple, matches_of, rule_of, takes, with_rule, found_of}
use Rattle.clap.specs.Simple.{app_of_fields}
use Rattle.clap.proofs.WalkLemmas.{first_value-rows}
use Rattle.lsys_cli.specs.Values.{options_in}
use Rattle.lsys_cli.proofs.Clap.{lsys, bare, limit_rule, sample_rule, simple}
use Rattle.lsys_cli.proofs.Findings.{all_read}
use Rattle.lsys_cli.proofs.reading.matches_of.Goals as goal

both_ends : {T E : Type 0} {P Q : T → Type 0} {R S : E → Type 0} (r : Result T E) → IfOk r P → IfErr r R → ((t : T) → P t → Q t) → ((e : E) → R e → S e) → MatchResult r Q S
both_ends (Ok t) h k f g = f t h
both_ends (Err e) h k f g = g e k

pub returns : goal.returns
returns c =
    let words = map string_bytes c.args.words.now in
    let limit_is : rule_of c.action-limit.result ≡ limit_rule = search rules in
    let sample_is : rule_of c.action-sample.result ≡ sample_rule = search rules in
    let bare_is : app_of c.no_binary_name.result ≡ record bare { top = record bare.top { no_binary_name = true } } =
    ap app_of_fields c.no_binary_name.ensures ∙ ap (λ (a : App). record a { top = record a.top { no_binary_name = true } }) c.new-3.ensures.app in
    let lsys_is : app_of c.in_ok-command.command ≡ lsys = c.in_ok-command.ensures.shape (search rules)
    ∙ ap₂ with_rule (c.in_ok-arg.ensures.shape (search rules) ∙ ap₂ with_rule bare_is limit_is) sample_is in
    let read = all_read words c.requires in
    let parse = c.try_get_matches_from in
    both_ends parse.result parse.ensures.matches parse.ensures.passes
    (λ m h.
    let rows = (h (ap is_simple lsys_is ∙ simple)).0 ∙ ap (λ a. matches_of a words) lsys_is in
    ap₂ options_in (first_value-rows (found_of m) (codes "limit") ∙ ap (first_of (codes "limit")) rows) (first_value-rows (found_of m) (codes "sample") ∙ ap (first_of (codes "sample")) rows)
    ∙ read.0)
    (λ e h. h (ap (λ a. takes a words) lsys_is ∙ read.1))
