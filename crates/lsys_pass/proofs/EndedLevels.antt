-- The last level, as calls tell it.
use Rattle.std.proofs.Common.{◌≡◌, ◌-◌, ◌<◌, ◌≤◌, ◌^◌, ℕ, List, [], ◌++◌, length, Option, Some, None, Result, Ok, Err, refl, sym, ap, ◌∙◌, subst, arith, append-nil}
use Rattle.std.specs.Prelude.{IsSome, OnOk, option_map}
use Rattle.std.proofs.lemmas.Option.{none-some}
use Rattle.lsys_spec.specs.Rows.{In}
use Rattle.lsys_laws.specs.Nodes.{Kin}
use Rattle.lsys_laws.proofs.UpTo.{level_count}
use Rattle.lsys_match.specs.Kept.{Kept}
use Rattle.lsys_forest.specs.Nodes.{Node}
use Rattle.lsys_forest.specs.Groves.{Grove, AreSound, IsLive, now_of, changes_in}
use Rattle.lsys_forest.specs.Rows.{complete_levels}
use Rattle.lsys_forest.proofs.RowLemmas.{level_depth}
use Rattle.lsys_forest.proofs.ViewLemmas.{are_told}
use Rattle.lsys_reads.specs.Lineages.{kin_of}
use Rattle.lsys_reads.specs.Meant.{meant_to}
use Rattle.lsys_front.specs.Ends.{AreEnded}
use Rattle.lsys_front.specs.LastLevels.{IsLastLevel}
use Rattle.lsys_front.specs.Losses.{LosesOnly}
use Rattle.lsys_pass.specs.declared.state.PassState.TheVariants.{Failed}
use Rattle.lsys_pass.specs.Lasts.{dropped_at_end}
use Rattle.lsys_pass.specs.Passes.{PassView, stage_of, now_in, rest_in, repair_of, IsPass}
use Rattle.lsys_pass.specs.Fresh.{row_of, Goes, HasFound, IsLast}
use Rattle.lsys_pass.proofs.Failing.{still_failed, stored_less}
use Rattle.lsys_pass.proofs.Endings.{sound_was, is_last, is_after, is_last_level, goes, rows_stay, EndsBy, ends_by, ends_bare, dropped_are}

-- as another view of the pass tells it

pub both_ok : {T E P Q R : Type 0} (r : Result T E) → (P → Q → R) → OnOk r P → OnOk r Q → OnOk r R
both_ok (Ok x) f p q = f p q
both_ok (Err e) f p q = tt

some_kin : (o : Option (Node Kept)) (x : Kin) → option_map (λ (n : Node Kept). kin_of n) o ≡ Some x → IsSome o
some_kin None x e = absurd (none-some x e)
some_kin (Some n) x e = refl

-- the level became the last one
pub record ComesToEnd (v v' : PassView) (t : ℕ) : Type 0 where
  pub last : IsLast v' t
  pub goes : Goes (stage_of v) (stage_of v') t
  pub rows : (u : ℕ) → u ≤ t → row_of v' u ≡ row_of v u

module _ (w v : PassView) (same : w ≡ v) (h : IsPass w) (t : ℕ) (small : t < 2 ^ 32) (need : (beside : List ℕ) × (readers : List ℕ) × HasFound v t beside readers) where
  found_by : HasFound w t need.0 need.1
  found_by = subst (λ z. HasFound z t need.0 need.1) (sym same) need.2

  depth_by : v.next.depth ≡ t → w.next.depth ≡ t
  depth_by depth = ap (λ (z : PassView). z.next.depth) same ∙ depth

  pub complete : t < length (complete_levels w.forest)
  complete =
      are_told w.forest t small
      (λ u l. found_by.made.spots.new_levels.balanced u (let c = level_count w.next w.limit t (meant_to w.next w.limit t) found_by.made.spots.new_spelled found_by.made.spots.new_is in omega (arith, c, l)))

  -- a node that is gone from the level lives
  pub gone_live : (gone : List ℕ) → gone ≡ w.front.changes.gone → (k : ℕ) → In k gone → IsLive w.forest k
  gone_live gone is k i =
      let on = ((found_by.front.differs.gone k).0 (subst (In k) is i)).0 in
      let p = level_depth w.forest.root [] (rest_in w) (sound_was w t need.0 need.1 h found_by) t k on in
      some_kin (now_in w k) (kin_of p.0) (found_by.made.spots.stay k (kin_of p.0) (ap (option_map (λ (n : Node Kept). kin_of n)) p.1))

  pub bare_last : w.system.depth ≤ t → v.next.depth ≡ t → IsLast v t
  bare_last l depth =
      subst (λ z. IsLast z t) same
      (is_last w t need.0 need.1 h found_by w.forest [] w.dropped (ends_bare (repair_of w t) found_by.made.spots (is_after w t need.0 need.1 h found_by l)) (sym (append-nil w.dropped)) (depth_by depth) small)

  module _ (f : Grove Kept) (ds : List ℕ) (loses : LosesOnly w.forest f) where
    pub failed_still : v.state ≡ Failed → AreSound f.root (changes_in f) (now_of f) → IsPass (record w { forest = f; dropped = ds })
    failed_still state sound = still_failed w (record w { forest = f; dropped = ds }) h (record {
      was_failed = ap (λ (z : PassView). z.state) same ∙ state;
      failed = ap (λ (z : PassView). z.state) same ∙ state;
      stored = stored_less w.forest f w.store sound loses h.stored;
      few = let a = h.few in let b = loses.live in omega (arith, a, b);
      unmarked = h.unmarked;
      answers = refl;
      sizes = refl;
      run = record { system = refl; limit = refl; root = loses.root; was = loses.rest; store = refl; reads = refl; listed = refl; renewed = refl; born = refl; same_seats = λ k. refl };
      seats = λ k has. has;
    })

    pub comes_to_end : (gone : List ℕ) (levels : ℕ) → gone ≡ w.front.changes.gone → levels ≡ w.system.depth - t → v.next.depth ≡ t → AreEnded (now_in w) (now_of f) (row_of w t)
        → ds ≡ w.dropped ++ dropped_at_end (now_in w) (now_of f) (row_of w t) gone levels → ComesToEnd v (record w { forest = f; dropped = ds }) t
    comes_to_end gone levels is after depth e lists =
        subst (λ z. ComesToEnd z (record w { forest = f; dropped = ds }) t) same (record {
          last = is_last w t need.0 need.1 h found_by f more ds x more_are (depth_by depth) small;
          goes = goes w t need.0 need.1 h found_by f more ds x more_are;
          rows = rows_stay w t need.0 need.1 h found_by f more ds x more_are;
        })
      where
        l : IsLastLevel (repair_of w t) w.front.changes
        l = is_last_level w t need.0 need.1 h found_by

        more : List ℕ
        more = dropped_at_end (now_in w) (now_of f) (row_of w t) gone levels

        x : EndsBy (repair_of w t) f more
        x =
            subst (EndsBy (repair_of w t) f)
            (sym (ap (λ (ks : List ℕ). dropped_at_end (now_in w) (now_of f) (row_of w t) ks levels) is ∙ dropped_are (repair_of w t) w.front.changes f l e levels after)) (ends_by (repair_of w t) w.front.changes f l e loses.root loses.rest)

        more_are : ds ≡ w.dropped ++ more
        more_are = lists
