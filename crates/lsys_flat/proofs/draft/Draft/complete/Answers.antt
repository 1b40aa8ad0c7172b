use Rattle.std.proofs.Common.{rules, ◌≡◌, ◌*◌, Err, map, sym, subst, arith}
use Rattle.std.proofs.lemmas.Grind.{common_steps}
use Rattle.lsys_flat.specs.Answers.{lists_of}
use Rattle.lsys_match.specs.Derivations.{Rises, most_read, IsLevelRefusal}
use Rattle.lsys_flat.specs.Lines.{line_of}
use Rattle.lsys_flat.specs.Drafts.{olds_from}
use Rattle.lsys_flat.proofs.DraftingNext.{few_before}
use Rattle.lsys_flat.proofs.DraftingSteps.{olds_still, same_limit}
use Rattle.lsys_flat.proofs.draft.Draft.complete.Goals as goal

pub loop-level-init : goal.loop-level-init
loop-level-init g c = record {
  well = c.in_ok-begin.ensures.well;
  found = c.in_ok-begin.ensures.found;
  new = search rules;
  asked = search rules;
  drafts = λ limit xs e olds.
      c.in_ok-begin.ensures.begun limit (olds_from xs (map line_of c.args.olds.now.ancestries.now) (lists_of c.args.olds.now.answers.now) c.args.store.now) c.args.visited.now e olds;
}

pub ask_level-requires : goal.ask_level-requires
ask_level-requires g c =
    let q = c.requires in (
      q.limit,
      record {
        well = c.loop-level.invariant.well;
        below = omega (arith, c.loop-level-test.true, c.depth-level-end.ensures.depth);
        xs = q.xs;
        olds = olds_still q.limit q.xs (map line_of c.args.olds.now.ancestries.now) (lists_of c.args.olds.now.answers.now) c.args.store.now c.loop-level.store c.loop-level.invariant.new.stay q.olds;
        begin = c.args.store.now;
        before = c.args.visited.now;
        draft = c.loop-level.invariant.drafts q.limit q.xs q.empty q.olds;
        found = c.loop-level.invariant.found;
      },
    )

pub returns-in_err-ask_level-clause-refused : goal.returns-in_err-ask_level-clause-refused
returns-in_err-ask_level-clause-refused g c = λ limit e.
    let q = c.requires in
    let lines = map line_of c.args.olds.now.ancestries.now in
    let same : limit ≡ q.limit = same_limit q.limit limit lines lines c.args.self.now q.empty e in
    let no = c.in_err-ask_level.ensures.refused q.limit q.xs c.args.store.now c.args.visited.now (c.loop-level.invariant.drafts q.limit q.xs q.empty q.olds) in
    let goes : c.from_residual-in_err-ask_level.result ≡ Err c.in_err-ask_level.field-0.0 = search rules in
    rw goes (subst (λ limit. IsLevelRefusal c.args.system.now limit c.in_err-ask_level.field-0.0) (sym same) no.0)

pub returns-in_err-ask_level-clause-few_asked : goal.returns-in_err-ask_level-clause-few_asked
returns-in_err-ask_level-clause-few_asked g c = λ limit e.
    let q = c.requires in
    let lines = map line_of c.args.olds.now.ancestries.now in
    let same : limit ≡ q.limit = same_limit q.limit limit lines lines c.args.self.now q.empty e in
    let few = c.in_err-ask_level.ensures.few q.limit q.xs c.args.store.now c.args.visited.now (c.loop-level.invariant.drafts q.limit q.xs q.empty q.olds) in
    omega (arith, same, few)

pub returns-in_err-ask_level-clause-few_read : goal.returns-in_err-ask_level-clause-few_read
returns-in_err-ask_level-clause-few_read g c = λ limit e.
    let q = c.requires in
    let lines = map line_of c.args.olds.now.ancestries.now in
    let same : limit ≡ q.limit = same_limit q.limit limit lines lines c.args.self.now q.empty e in
    let no = c.in_err-ask_level.ensures.refused q.limit q.xs c.args.store.now c.args.visited.now (c.loop-level.invariant.drafts q.limit q.xs q.empty q.olds) in
    let goes : c.from_residual-in_err-ask_level.result ≡ Err c.in_err-ask_level.field-0.0 = search rules in
    rw goes (subst (λ limit. Rises 0 (most_read * limit) c.args.visited.now c.ask_level.new.visited) (sym same) no.1)

pub returns-clause-few_asked : goal.returns-clause-few_asked
returns-clause-few_asked g c = λ limit e.
    let q = c.requires in
    let lines = map line_of c.args.olds.now.ancestries.now in
    let same : limit ≡ q.limit = same_limit q.limit limit lines lines c.args.self.now q.empty e in
    let few = few_before c.args.system.now q.limit q.xs lines (lists_of c.args.olds.now.answers.now) c.args.store.now c.loop-level.store c.args.visited.now c.loop-level.visited c.loop-level.level c.loop-level.self (c.loop-level.invariant.drafts q.limit q.xs q.empty q.olds) in
    omega (arith, same, few)

pub returns-in_err-begin-clause-new : goal.returns-in_err-begin-clause-new
returns-in_err-begin-clause-new g c = grind (arith, common_steps)

pub returns-in_err-ask_level-clause-completed : goal.returns-in_err-ask_level-clause-completed
returns-in_err-ask_level-clause-completed g c = grind (arith, common_steps)

pub returns-in_err-ask_level-clause-found : goal.returns-in_err-ask_level-clause-found
returns-in_err-ask_level-clause-found g c = grind (arith, common_steps)

pub returns-in_err-ask_level-clause-well : goal.returns-in_err-ask_level-clause-well
returns-in_err-ask_level-clause-well g c = grind (arith, common_steps)

pub returns-in_err-ask_level-clause-new : goal.returns-in_err-ask_level-clause-new
returns-in_err-ask_level-clause-new g c = grind (arith, common_steps)

pub loop-level-preserved : goal.loop-level-preserved
loop-level-preserved g c = record {
  well = c.loop-level.invariant.well;
  found = c.in_ok-ask_level.ensures.found;
  new = c.in_ok-ask_level.ensures.new c.args.store.now c.loop-level.invariant.new;
  asked = omega (arith, c.in_ok-ask_level.ensures.asked, c.loop-level.invariant.asked);
  drafts = λ limit xs e olds.
      c.in_ok-ask_level.ensures.going limit xs c.args.store.now c.args.visited.now olds c.loop-level.invariant.new (c.loop-level.invariant.drafts limit xs e olds);
}
