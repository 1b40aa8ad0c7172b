-- What the inner patterns of a branch were told.
use Rattle.std.proofs.Common.{◌≡◌, ℕ, List, ◌++◌, ◌+◌, ◌<◌, length, take, Some, None, ap, sym, ◌∙◌, arith, append_assoc, length-append}
use Rattle.std.specs.Prelude.{option_map}
use Rattle.std.proofs.lemmas.List.{take-append-le}
use Rattle.lsys_spec.specs.Levels.{ModuleValue}
use Rattle.lsys_spec.specs.Walks.{Entry, Told, followed, or_passed, joined}
use Rattle.lsys_walks.specs.declared.walked.Walked.TheVariants.{TooFar}
use Rattle.lsys_walks.specs.Walked.{Walks, ReadsFront}
use Rattle.lsys_walks.proofs.Told.{Answer, GoesOn}

module _ (here inside both passed : Told Answer) (old mid new : List Entry) (whole : List ModuleValue → List ModuleValue) where
  abbrev pub after : Told Answer
  after = followed inside (or_passed inside.answer both passed)

  -- all that was told up to here, and the rest of it
  said : (rest : Told Answer) → or_passed inside.answer both passed ≡ rest → GoesOn here after old mid whole → new ≡ mid ++ inside.entries → (more : List Entry) × (here.entries ≡ more ++ rest.entries) × (new ≡ old ++ more)
  said rest e g a = (
    g.more ++ inside.entries,
    g.entries ∙ ap (λ (t : Told Answer). g.more ++ (inside.entries ++ t.entries)) e ∙ sym (append_assoc g.more inside.entries rest.entries),
    a ∙ ap (λ es. es ++ inside.entries) g.added ∙ append_assoc old g.more inside.entries,
  )

  pub inner_found : (ms : List ModuleValue) → inside.answer ≡ Some ms → new ≡ mid ++ inside.entries → GoesOn here after old mid whole → GoesOn here both old new (λ x. whole (ms ++ x))
  inner_found ms h a g =
      let same : or_passed inside.answer both passed ≡ joined ms both = ap (λ o. or_passed o both passed) h in
      let s = said (joined ms both) same g a in
      record {
        more = s.0;
        entries = s.1;
        added = s.2;
        missed = λ i. g.missed (ap (λ (t : Told Answer). t.answer) same ∙ ap (option_map (λ x. ms ++ x)) i);
        found = λ x i. g.found (ms ++ x) (ap (λ (t : Told Answer). t.answer) same ∙ ap (option_map (λ x. ms ++ x)) i);
      }

  pub inner_missed : inside.answer ≡ None → new ≡ mid ++ inside.entries → GoesOn here after old mid whole → GoesOn here passed old new whole
  inner_missed h a g =
      let same : or_passed inside.answer both passed ≡ passed = ap (λ o. or_passed o both passed) h in
      let s = said passed same g a in
      record {
        more = s.0;
        entries = s.1;
        added = s.2;
        missed = λ i. g.missed (ap (λ (t : Told Answer). t.answer) same ∙ i);
        found = λ x i. g.found x (ap (λ (t : Told Answer). t.answer) same ∙ i);
      }

  pub inner_far : (most : ℕ) (Kept : List ModuleValue → Type 0) → new ≡ take (most + 1) (mid ++ inside.entries) → most < length (mid ++ inside.entries) → GoesOn here after old mid whole → Walks most here old new Kept TooFar
  inner_far most Kept a l g =
      let rest : List Entry = (or_passed inside.answer both passed).entries in
      let all : old ++ here.entries ≡ (mid ++ inside.entries) ++ rest =
      ap (λ es. old ++ es) g.entries ∙ sym (append_assoc old g.more (inside.entries ++ rest)) ∙ ap (λ es. es ++ (inside.entries ++ rest)) (sym g.added) ∙ sym (append_assoc mid inside.entries rest) in (
        a ∙ sym (ap (take (most + 1)) all ∙ take-append-le (most + 1) (mid ++ inside.entries) rest (omega (arith, l))),
        let n : length (old ++ here.entries) ≡ length (mid ++ inside.entries) + length rest = ap length all ∙ length-append (mid ++ inside.entries) rest in omega (arith, n, l),
      )

  pub inner_front : ReadsFront inside mid new → GoesOn here after old mid whole → ReadsFront here old new
  inner_front h g =
      let rest : List Entry = (or_passed inside.answer both passed).entries in (
        h.0 ++ rest,
        ap (λ es. old ++ es) g.entries ∙ sym (append_assoc old g.more (inside.entries ++ rest)) ∙ ap (λ es. es ++ (inside.entries ++ rest)) (sym g.added) ∙ sym (append_assoc mid inside.entries rest)
            ∙ ap (λ es. es ++ rest) h.1 ∙ append_assoc new h.0 rest,
      )
