use Rattle.std.proofs.Common.{rules, ◌≡◌, ℤ, true, List, [], ◌∷◌, length, ◌==◌, refl, arith, ◌∙◌}
use Rattle.std.proofs.lemmas.Bool.{eqb-true}
use Rattle.lsys_walks.specs.declared.entry.Entry.{Entry}
use Rattle.lsys_walks.specs.Views.{decoded}
use Rattle.lsys_walks.proofs.trace.Trace.copied.Goals as goal

nothing_decoded : (es : List Entry) (vs : List ℤ) → (length es == 0) ≡ true → [] ≡ decoded es vs
nothing_decoded [] vs h = refl
nothing_decoded (e ∷ es) vs h = let none : length (e ∷ es) ≡ 0 = eqb-true (length (e ∷ es)) 0 h in absurd (omega (arith, none))

pub returns-then-is_empty : goal.returns-then-is_empty
returns-then-is_empty c =
    let none : (length c.args.entries.now == 0) ≡ true = search rules in
    c.new.ensures ∙ nothing_decoded c.args.entries.now c.args.values.now none
