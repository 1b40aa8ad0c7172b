use Rattle.lsys_spec.specs.Output.{any_refusal, none}
use Rattle.std.proofs.Common.{◌≡◌, false, Some, inl, inr, refl}
use Rattle.lsys_cli.specs.Ends.{IsScriptWithin, replies, seen}
use Rattle.lsys_cli.specs.Programs.{IsComplete, Untouched, most_visits}
use Rattle.lsys_cli.specs.declared.status.Status.TheVariants.{Memory}
use Rattle.lsys_cli.specs.Words.{options_by, texts}
use Rattle.lsys_cli.proofs.Programs.{limit_of, completes, on_script}
use Rattle.lsys_cli.proofs.lsys.Goals as goal

pub run_by-requires : goal.run_by-requires
run_by-requires g c =
    let is = c.in-Ok-Some.field-0-is in
    let spelled = c.in-Ok-Some.ensures.options in
    let e : Some c.in-Ok-Some.options ≡ options_by (texts c.args.words.now) = cc in limit_of (texts c.args.words.now) c.in-Ok-Some.options e

pub returns-in-Ok-Some-clause-complete : goal.returns-in-Ok-Some-clause-complete
returns-in-Ok-Some-clause-complete g c = λ read write.
    let is = c.in-Ok-Some.field-0-is in
    let spelled = c.in-Ok-Some.ensures.options in
    let e : Some c.in-Ok-Some.options ≡ options_by (texts c.args.words.now) = cc in
    completes most_visits (texts c.args.words.now) c.in-Ok-Some.options (g.S.Source.left c.args.source.now) (g.S.Source.left c.run_by.new.source) (seen g.K.Sink.written c.args.sink.now c.args.asked.now c.args.visited.now)
    (seen g.K.Sink.written c.run_by.new.sink c.run_by.new.asked c.run_by.new.visited) c.run_by.result
    (Untouched c.args.source.now c.run_by.new.source c.args.sink.now c.run_by.new.sink c.args.asked.now c.run_by.new.asked c.args.visited.now c.run_by.new.visited) e c.run_by.ensures.ends
    (λ e. read (c.run_by.ensures.read_fault_only_where_rose e)) (λ e. write (c.run_by.ensures.write_fault_only_where_rose e))

pub returns-in-Err-clause-complete : goal.returns-in-Err-clause-complete
returns-in-Err-clause-complete g c = λ read write.
    on_script (options_by (texts c.args.words.now)) (g.S.Source.left c.args.source.now)
    (λ limit script. IsScriptWithin limit script none → any_refusal (replies limit script none) ≡ false → IsComplete Memory limit (g.K.Sink.written c.args.sink.now) (g.K.Sink.written c.args.sink.now) script)
    (λ limit script within unrefused. inr (inl refl))
