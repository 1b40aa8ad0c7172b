-- A pass that failed, while the levels of another system are made.
use Rattle.std.proofs.Common.{◌≡◌, ◌<◌, ◌^◌, ℕ, false, length, sym, ap, ◌∙◌, subst}
use Rattle.lsys_spec.specs.Systems.{System}
use Rattle.lsys_spec.specs.Questions.{questions}
use Rattle.lsys_walks.specs.Stores.{Store}
use Rattle.lsys_match.specs.Kept.{Kept}
use Rattle.lsys_forest.specs.Nodes.{Nodes}
use Rattle.lsys_forest.specs.Groves.{Grove, AreSound, now_of, changes_in, live_nodes}
use Rattle.lsys_reads.specs.Meant.{levels_meant}
use Rattle.lsys_reads.specs.Seats.{is_marked, KeepsSeats}
use Rattle.lsys_front.specs.Losses.{LosesOnly}
use Rattle.lsys_pass.specs.declared.state.PassState.TheVariants.{Failed}
use Rattle.lsys_pass.specs.Sizes.{HaveSizes, SizesAt}
use Rattle.lsys_pass.specs.Stages.{IsStored}
use Rattle.lsys_pass.specs.Advances.{KeepsRest}
use Rattle.lsys_pass.specs.Passes.{PassView, stage_of, now_in, rest_in, HoldsAt, FrontAt, IsPass}
use Rattle.lsys_pass.proofs.Finishing.{rest_made}

-- what is kept of it, whatever becomes of the nodes
pub record KeepsFailed (v v' : PassView) : Type 0 where
  pub was_failed : v.state ≡ Failed
  pub failed : v'.state ≡ Failed
  pub stored : IsStored (now_in v') (changes_in v'.forest) v'.forest.root v'.store
  pub few : live_nodes v'.forest < 2 ^ 32
  pub unmarked : (k : ℕ) → is_marked v'.seats k ≡ false
  pub answers : v'.answers ≡ v.answers
  pub sizes : v'.sizes ≡ v.sizes
  pub run : KeepsRest (stage_of v) (stage_of v')
  pub seats : KeepsSeats v.seats v'.seats

pub still_failed : (v v' : PassView) → IsPass v → KeepsFailed v v' → IsPass v'
still_failed v v' h k = record {
  stored = k.stored;
  few = k.few;
  unmarked = k.unmarked;
  counted =
      k.answers ∙ h.counted ∙ ap (λ (s : System). length (questions s (levels_meant s v.limit))) (sym k.run.system)
      ∙ ap (λ l. length (questions v'.system (levels_meant v'.system l))) (sym k.run.limit);
  sized =
      subst (HaveSizes (rest_in v') v'.forest.root) (sym k.sizes)
      (subst (λ r. HaveSizes (rest_in v') r v.sizes) (sym k.run.root) (subst (λ (m : Nodes Kept). HaveSizes m v.forest.root v.sizes) (sym k.run.was) h.sized));
  made_sized = subst (SizesAt (now_in v') v'.forest.root v'.next.depth v'.made) (sym k.failed) tt;
  holds = subst (HoldsAt (stage_of v')) (sym k.failed) (rest_made (stage_of v) (stage_of v') k.run (subst (HoldsAt (stage_of v)) k.was_failed h.holds));
  front = subst (FrontAt v') (sym k.failed) tt;
  room = λ j n e. k.seats j (h.room j n (ap (λ (m : Nodes Kept). m j) (sym k.run.was) ∙ e));
}

-- where no answer is new, those that are kept are still stored
pub stored_less : (f g : Grove Kept) (store : Store) → AreSound g.root (changes_in g) (now_of g) → LosesOnly f g → IsStored (now_of f) (changes_in f) f.root store → IsStored (now_of g) (changes_in g) g.root store
stored_less f g store sound loses h = record {
  sound = sound;
  made = λ j a e. h.made (loses.kept.from j) a (loses.kept.came j a e);
  once = λ i j a b r e e' held held'. loses.kept.apart i j a b e e' (h.once (loses.kept.from i) (loses.kept.from j) a b r (loses.kept.came i a e) (loses.kept.came j b e') held held');
  freed = λ r not. h.freed r (λ of. not (let k = loses.kept.still of.0 of.1 of.2 in (k.0, of.1, k.1, of.3)));
}
