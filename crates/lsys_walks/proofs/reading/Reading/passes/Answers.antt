use Rattle.std.proofs.Common.{arith, rules, ◌+◌, ◌++◌, ◌∷◌, [], true, IsTrue, ap, sym, ◌∙◌, subst}
use Rattle.std.proofs.lemmas.Grind.{common_steps}
use Rattle.lsys_spec.specs.Output.{IsFront}
use Rattle.lsys_walks.specs.Views.{noted_of, decoded}
use Rattle.lsys_walks.specs.Readings.{trace_so_far}
use Rattle.lsys_walks.proofs.Fronts.{front_within, more_within, more_arities, passed, is_front, is_next, old_is, now_is}
use Rattle.lsys_walks.proofs.reading.Reading.passes.Goals as goal

pub overflow_add-end : goal.overflow_add-end
overflow_add-end c = let w = more_within c.self.inside.entries.now c.self.inside.values.now c.self.inside.place c.self.inside.kept c.self.invariant.0 c.self.invariant.1 c.self.invariant.2 c.index-self-self.result c.if-self.false c.arity.result c.arity.ensures in search rules

pub offset_bounds-self-inside-self-inside-2 : goal.offset_bounds-self-inside-self-inside-2
offset_bounds-self-inside-self-inside-2 c = let w = front_within c.self.inside.entries.now c.self.inside.values.now c.self.inside.place c.self.inside.kept c.self.invariant.0 c.self.invariant.1 c.self.invariant.2 in search rules

pub slice_bounds-is_alike-end : goal.slice_bounds-is_alike-end
slice_bounds-is_alike-end c = let w = more_within c.self.inside.entries.now c.self.inside.values.now c.self.inside.place c.self.inside.kept c.self.invariant.0 c.self.invariant.1 c.self.invariant.2 c.index-self-self.result c.if-self.false c.arity.result c.arity.ensures in search rules

pub returns-then-not-is_alike-clause-exact : goal.returns-then-not-is_alike-clause-exact
returns-then-not-is_alike-clause-exact c = (
  λ no. cc,
  λ f. let g = subst (λ old. IsFront (c.args.self.now.read ++ (noted_of c.args.entry.now c.args.params.now) ∷ []) old) (old_is c.self.inside.entries.now c.self.inside.values.now c.self.inside.place c.self.inside.kept c.self.inside.own c.self.inside.agrees c.args.self.now c.self.view_is c.if-not-self.false) f in
      let h = subst (λ now. IsFront (now ++ (noted_of c.args.entry.now c.args.params.now) ∷ []) (decoded c.self.inside.entries.now c.self.inside.values.now)) (now_is c.self.inside.entries.now c.self.inside.values.now c.self.inside.place c.self.inside.kept c.self.inside.own c.self.inside.agrees c.args.self.now c.self.view_is c.if-not-self.false) g in
      subst (λ b. IsTrue b) c.if-not-is_alike.true (c.is_alike.ensures.1 (is_next c.self.inside.entries.now c.self.inside.values.now c.self.inside.place c.self.inside.kept c.self.invariant.0 c.self.invariant.1 c.self.invariant.2 c.index-self-self.result c.if-self.false c.arity.result c.arity.ensures (noted_of c.args.entry.now c.args.params.now) h)),
)

pub invariant_of-self : goal.invariant_of-self
invariant_of-self c = let t = c.if-not-self.false in (c.self.invariant.0, search rules, more_arities c.self.inside.entries.now c.self.inside.values.now c.self.inside.place c.self.inside.kept c.self.invariant.0 c.self.invariant.1 c.self.invariant.2 c.index-self-self.result c.if-self.false c.arity.result c.arity.ensures, λ no f. cc)

pub returns-clause-passed : goal.returns-clause-passed
returns-clause-passed c = λ yes.
    let e = c.is_alike.ensures.0 c.if-not-is_alike.false in (
      ap (λ b. trace_so_far b c.self.inside.entries.now c.self.inside.values.now (c.self.inside.place + 1) (c.self.inside.kept + c.arity.result) c.self.inside.own) c.if-not-self.false ∙ passed c.self.inside.entries.now c.self.inside.values.now c.self.inside.place c.self.inside.kept c.self.invariant.0 c.self.invariant.1 c.self.invariant.2 c.index-self-self.result c.if-self.false c.arity.result c.arity.ensures (noted_of c.args.entry.now c.args.params.now) e
          ∙ ap (λ now. now ++ (noted_of c.args.entry.now c.args.params.now) ∷ []) (sym (now_is c.self.inside.entries.now c.self.inside.values.now c.self.inside.place c.self.inside.kept c.self.inside.own c.self.inside.agrees c.args.self.now c.self.view_is c.if-not-self.false)),
      c.if-not-self.false,
    )

pub returns-clause-exact : goal.returns-clause-exact
returns-clause-exact c = (
  λ yes. let e = c.is_alike.ensures.0 c.if-not-is_alike.false in
      let g = subst (λ now. IsFront (now ++ (noted_of c.args.entry.now c.args.params.now) ∷ []) (decoded c.self.inside.entries.now c.self.inside.values.now)) (sym (now_is c.self.inside.entries.now c.self.inside.values.now c.self.inside.place c.self.inside.kept c.self.inside.own c.self.inside.agrees c.args.self.now c.self.view_is c.if-not-self.false)) (is_front c.self.inside.entries.now c.self.inside.values.now c.self.inside.place c.self.inside.kept c.self.invariant.0 c.self.invariant.1 c.self.invariant.2 c.index-self-self.result c.if-self.false c.arity.result c.arity.ensures (noted_of c.args.entry.now c.args.params.now) e) in
      subst (λ old. IsFront (c.args.self.now.read ++ (noted_of c.args.entry.now c.args.params.now) ∷ []) old) (sym (old_is c.self.inside.entries.now c.self.inside.values.now c.self.inside.place c.self.inside.kept c.self.inside.own c.self.inside.agrees c.args.self.now c.self.view_is c.if-not-self.false)) g,
  λ f. λ i. true,
)

pub returns-then-not-self-clause-exact : goal.returns-then-not-self-clause-exact
returns-then-not-self-clause-exact c = grind (arith, common_steps)
