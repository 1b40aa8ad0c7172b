-- From rest to the first level.
use Rattle.std.proofs.Common.{◌≡◌, ◌⊎◌, ◌≤◌, ℕ, true, false, List, [], Some, None, sym, ap, ◌∙◌, subst, inl, inr, arith, slice_get}
use Rattle.std.specs.Prelude.{count_by, is_none}
use Rattle.lsys_spec.specs.Rows.{In, AreApart}
use Rattle.lsys_match.specs.Kept.{Kept}
use Rattle.lsys_reads.specs.Relations.{Relations, pairs_have}
use Rattle.lsys_forest.specs.Nodes.{Nodes}
use Rattle.lsys_forest.specs.Changes.{Change, undone}
use Rattle.lsys_forest.specs.Rows.{level_nodes}
use Rattle.lsys_reads.specs.Levels.{AnsweredAt, level_of, answer_at}
use Rattle.lsys_reads.specs.Meant.{level_to}
use Rattle.lsys_pass.specs.Stages.{Stage, was, Rests, fault_in, HasFault, OutcomeBy, IsNeededAt, HaveNewRead, HasSeats, IsAtLevel, IsDone}
use Rattle.lsys_pass.specs.Advances.{BeginsAnew, Advances, HasLastLevel}
use Rattle.lsys_pass.specs.Passes.{IsStill}
use Rattle.lsys_pass.proofs.Finishing.{no_fault, none_noted, rest_made}

-- the first level

module _ (s s' : Stage) (h : IsStill s) (known : Rests s) (x : BeginsAnew s s') where
  none_renewed : (k : ℕ) → In k s'.renewed → ⊥
  none_renewed k i = subst (In k) (x.run.renewed ∙ h.renewed) i

  first_rest : Rests s'
  first_rest = rest_made s s' x.run known

  -- the nodes of the last rest are those that were there
  was_now : was s' ≡ s.now
  was_now = x.run.was ∙ ap (λ (cs : List (Change Kept)). undone cs s.now) h.changes

  first_answer : (k : ℕ) → answer_at (was s') k ≡ answer_at s.now k
  first_answer k = ap (λ (m : Nodes Kept). answer_at m k) was_now

  quiet : s'.reads.pending ≡ []
  quiet = ap (λ (r : Relations). r.pending) x.run.reads ∙ h.reads

  first_read : HaveNewRead s'
  first_read reader seen = (
    λ e. absurd (let f : false ≡ true = sym (ap (λ ps. pairs_have ps reader seen) quiet) ∙ e in cc),
    λ q. absurd (none_renewed reader q.0),
  )

  first_kept : (k : ℕ) (b : Kept) → answer_at (was s') k ≡ Some b → In k s'.renewed ⊎ In k s'.dropped ⊎ (answer_at s'.now k ≡ Some b)
  first_kept k b e = inr (x.gone k b (sym (first_answer k) ∙ e))

  first_fresh : (k : ℕ) (b : Kept) → answer_at s'.now k ≡ Some b → In k s'.renewed ⊎ (answer_at (was s') k ≡ Some b)
  first_fresh k b e = inr (first_answer k ∙ x.same k b e)

  first_lost : (k u : ℕ) (b : Kept) → u ≤ 0 → answer_at (was s') k ≡ Some b → In k (level_nodes (was s') s'.root u) → In k s'.dropped ⊎ In k (level_nodes s'.now s'.root u)
  first_lost k u b l e i =
      let same : u ≡ 0 = omega (arith, l) in
      subst (λ w. In k s'.dropped ⊎ In k (level_nodes s'.now s'.root w)) (sym same) (x.drops.lost k b e (subst (λ w. In k (level_nodes (was s') s'.root w)) same i))

  first_all : Advances s' 0 → (u p k : ℕ) → u ≤ 0 → slice_get (level_nodes s'.now s'.root u) p ≡ Some k → IsNeededAt s' u p → In k s'.renewed ⊎ In k s'.pending ⊎ (fault_in k s'.faults ≡ None → ⊥)
  first_all a u p k l e n =
      let same : u ≡ 0 = omega (arith, l) in
      elim (a.ask.each p k (ap (λ w. slice_get (level_nodes s'.now s'.root w) p) (sym same) ∙ e)) [
        | inl r ↦ inr (inl r.0)
        | inr r ↦ absurd (r.2 (subst (λ w. IsNeededAt s' w p) same n))
      ]

  none_born : s'.born ≡ count_by (λ k. is_none (answer_at (was s') k)) s'.renewed
  none_born = x.run.born ∙ h.born ∙ ap (count_by (λ k. is_none (answer_at (was s') k))) (sym (x.run.renewed ∙ h.renewed))

  -- the pass is at the first level
  pub starts_first : Advances s' 0 → IsAtLevel s' 0
  starts_first a = record {
    rest = first_rest;
    tree = a.tree;
    answers = record {
      above = λ u p k l e. absurd (omega (arith, l));
      here = λ p k e. elim (a.ask.each p k e) [
        | inl r ↦ inl (record { pending = r.0; candidate = r.1; same = r.2; faultless = no_fault s' k a.ask.faults })
        | inr r ↦ inr (record { done = r.0; outcome = subst (λ o. OutcomeBy o (AnsweredAt s'.next 0 s'.now s'.root s'.store p k) (HasFault s'.next 0 (level_to s'.next s'.limit 0) p)) (sym (no_fault s' k a.ask.faults)) r.1 })
      ];
      noted = none_noted s'.faults (level_nodes s'.now s'.root 0) (level_of s'.now s'.root 0) a.ask.faults;
      in_order = a.ask.in_order;
      apart = a.ask.apart;
    };
    lists = record {
      read = λ listed. first_read;
      unread = λ not. quiet;
      renewed_are = λ k i. absurd (none_renewed k i);
      renewed_done = λ k i j. none_renewed k i;
      dropped_are = λ k u i l j. x.drops.none k u i l j;
      dropped_done = a.ask.undropped;
      kept = first_kept;
      dropped_apart = x.drops.apart;
      dropped_at = a.dropped_at;
      dropped_had = x.drops.had;
      lost = first_lost;
      fresh = first_fresh;
    };
    news = record {
      apart = subst AreApart (sym (x.run.renewed ∙ h.renewed)) tt;
      needed = λ u p k l e i. absurd (none_renewed k i);
      all = first_all a;
      born = none_born;
    };
    seats = x.seats;
  }

  -- or it is the only one
  pub starts_done : HasLastLevel s' 0 → IsDone s'
  starts_done d = record {
    rest = first_rest;
    spelled = d.spelled;
    is = d.is;
    levels = d.levels;
    small = d.small;
    counts = d.counts;
    ends = d.none_below;
    once = d.once;
    stay = d.stay;
    answered = λ u p k l e. absurd (let f = d.depth in omega (arith, l, f));
    last = λ k i. d.last k (subst (λ w. In k (level_nodes s'.now s'.root w)) d.depth i);
    read = λ listed. first_read;
    unread = λ not. quiet;
    renewed_are = λ k i. absurd (none_renewed k i);
    renewed_apart = subst AreApart (sym (x.run.renewed ∙ h.renewed)) tt;
    news = λ u p k l e. absurd (let f = d.depth in omega (arith, l, f));
    born = none_born;
    dropped_apart = x.drops.apart;
    dropped_had = x.drops.had;
    dropped_are = d.dropped_none;
    kept = λ k b e. elim (x.gone k b (sym (first_answer k) ∙ e)) [
      | inl i ↦ inr (inl i)
      | inr f ↦ elim (d.reached k b f) [ inl r ↦ inr (inr (r, f)) | inr i ↦ inr (inl i) ]
    ];
    fresh = first_fresh;
    seats = subst (HasSeats s') (sym d.depth) x.seats;
  }
