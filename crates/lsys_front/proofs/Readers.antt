-- An answer reads nodes of its own level alone.
use Rattle.std.proofs.Common.{◌≡◌, ℕ, List, [], length, Option, Some, None, refl, sym, ap, ◌∙◌, subst, arith}
use Rattle.std.specs.Prelude.{slice_get, option_map}
use Rattle.std.proofs.lemmas.Option.{none-some, same_Some, slice_get-map}
use Rattle.lsys_spec.specs.Rows.{In}
use Rattle.lsys_spec.specs.Bodies.{group}
use Rattle.lsys_spec.specs.Levels.{ModuleValue}
use Rattle.lsys_spec.specs.Questions.{Question}
use Rattle.lsys_level.specs.Spots.{Seen, Push, Pop, Module, Spotted}
use Rattle.lsys_match.specs.Kept.{Kept}
use Rattle.lsys_match.specs.Stored.{trace_in, answer_in}
use Rattle.lsys_match.specs.Recalled.{IsAnswerThere}
use Rattle.lsys_match.specs.Traced.{IsTraceAt}
use Rattle.lsys_match.proofs.Standing.{stands_there}
use Rattle.lsys_forest.specs.Nodes.{Node}
use Rattle.lsys_forest.specs.Groves.{IsRooted, changes_in}
use Rattle.lsys_forest.specs.Rows.{spot_in, level_nodes, level_spots}
use Rattle.lsys_forest.proofs.RowLemmas.{level_depth}
use Rattle.lsys_reads.specs.Levels.{IsRight, IsAnsweredRight, answer_at, tags_read, HasRead}
use Rattle.lsys_forest.specs.Pairs.{seen_at}
use Rattle.lsys_reads.proofs.LevelLemmas.{got_in}
use Rattle.lsys_front.specs.Repairs.{Repair, rest, root, were}
use Rattle.lsys_front.specs.Found.{IsRightAnswer, AreAnswersRight}
use Rattle.lsys_front.proofs.Nodes.{kept_for, some_kept, tags_in, tag_is}

module _ (r : Repair) (h : AreAnswersRight r) (k seen : ℕ) (read : HasRead (rest r) r.store k seen) where
  abbrev here : IsRightAnswer r k
  here = h.kept k read.answer read.kept

  abbrev row : List Spotted
  row = level_spots (rest r) (root r) here.level

  spot_there : (p j : ℕ) → slice_get (level_nodes (rest r) (root r) here.level) p ≡ Some j → slice_get row p ≡ Some (spot_in j (rest r j))
  spot_there p j e = slice_get-map (λ k. spot_in k (rest r k)) (level_nodes (rest r) (root r) here.level) p ∙ ap (option_map (λ k. spot_in k (rest r k))) e

  node_there : (p : ℕ) (a : Spotted) → slice_get row p ≡ Some a → In a.tag (level_nodes (rest r) (root r) here.level)
  node_there p a e = by (slice_get (level_nodes (rest r) (root r) here.level) p) refl
    where
      by : (o : Option ℕ) → slice_get (level_nodes (rest r) (root r) here.level) p ≡ o → In a.tag (level_nodes (rest r) (root r) here.level)
      by None n = absurd (none-some a (sym (slice_get-map (λ k. spot_in k (rest r k)) (level_nodes (rest r) (root r) here.level) p ∙ ap (option_map (λ k. spot_in k (rest r k))) n) ∙ e))
      by (Some j) n =
          let same : spot_in j (rest r j) ≡ a = same_Some (spot_in j (rest r j)) a (sym (spot_there p j n) ∙ e) in
          subst (λ j. In j (level_nodes (rest r) (root r) here.level)) (sym (tag_is j (rest r j)) ∙ ap (λ (a : Spotted). a.tag) same) (got_in (level_nodes (rest r) (root r) here.level) p j n)

  answered_as : (e : Seen) → seen_at (rest r) k ≡ e → IsAnsweredRight r.old here.level row r.store here.place k e (answer_at (rest r) k)
  answered_as e is =
      let a = here.answered (spot_in k (rest r k)) (spot_there here.place k here.there) in
      subst (λ j. IsAnsweredRight r.old here.level row r.store here.place j e (answer_at (rest r) k)) (tag_is k (rest r k))
      (subst (λ e. IsAnsweredRight r.old here.level row r.store here.place (spot_in k (rest r k)).tag e (answer_at (rest r) k)) is a)

  -- what the answer of a module read is on its level
  of_module : (v : ModuleValue) → seen_at (rest r) k ≡ Module v → In seen (level_nodes (rest r) (root r) here.level)
  of_module v is =
      let bs = group r.old here.level v.name (length v.params) in
      let o = answer_at (rest r) k in
      let right = IsRight r.old here.level row r.store here.place k v in
      let a = kept_for bs right o (answered_as (Module v) is) (some_kept bs right o read.answer (answered_as (Module v) is) read.kept) in
      let same : a.0 ≡ read.answer = same_Some a.0 read.answer (sym a.1 ∙ read.kept) in
      let among : In seen (tags_read r.store a.0) = subst (λ a. In seen (tags_read r.store a)) (sym same) read.among in
      let told : IsAnswerThere r.old here.level row here.place k v (answer_in r.store a.0) = a.2.answer in
      let traced : IsTraceAt r.old here.level bs row here.place k v (trace_in r.store a.0) = record {
        line = told.line;
        here = told.here;
        told = λ naming own. ap (λ (q : Question). q.trace) (told.told naming (record { here = own })).question;
      } in
      let t = stands_there r.old here.level bs row here.place k v (trace_in r.store a.0) traced seen (tags_in seen (trace_in r.store a.0) among) in
      subst (λ j. In j (level_nodes (rest r) (root r) here.level)) t.is (node_there t.place t.spot t.there)

  seen_there : In seen (level_nodes (rest r) (root r) here.level)
  seen_there = by (seen_at (rest r) k) refl
    where
      by : (e : Seen) → seen_at (rest r) k ≡ e → In seen (level_nodes (rest r) (root r) here.level)
      by Push e = absurd (none-some read.answer (sym (answered_as Push e) ∙ read.kept))
      by Pop e = absurd (none-some read.answer (sym (answered_as Pop e) ∙ read.kept))
      by (Module v) e = of_module v e

pub reader_there : (r : Repair) → AreAnswersRight r → (reader seen : ℕ) → HasRead (rest r) r.store reader seen → In seen (were r) → In reader (were r)
reader_there r h k seen read there =
    let here = h.kept k read.answer read.kept in
    let sound : IsRooted (root r) [] (rest r) = h.sound [] (changes_in r.forest) refl in
    let a = level_depth (root r) [] (rest r) sound here.level seen (seen_there r h k seen read) in
    let b = level_depth (root r) [] (rest r) sound r.level seen there in
    let one : a.0 ≡ b.0 = same_Some a.0 b.0 (sym a.1 ∙ b.1) in
    let level : here.level ≡ r.level = omega (arith, a.2, b.2, ap (λ (n : Node Kept). n.depth) one) in
    got_in (were r) here.place k (ap (λ t. slice_get (level_nodes (rest r) (root r) t) here.place) (sym level) ∙ here.there)
