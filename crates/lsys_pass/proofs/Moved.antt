-- By how much a step moves the counters.
use Rattle.std.proofs.Common.{◌≡◌, ◌+◌, ◌≤◌, ℕ, Bool, List, [], ◌∷◌, ◌++◌, length, Option, Some, Ok, Err, Result, sym, ap, ◌∙◌, subst, arith, slice_get, cond}
use Rattle.std.proofs.lemmas.List.{length-take, length_push}
use Rattle.std.proofs.lemmas.Option.{same_Some}
use Rattle.lsys_spec.specs.Rows.{In}
use Rattle.lsys_spec.specs.Systems.{System}
use Rattle.lsys_spec.specs.Bodies.{group}
use Rattle.lsys_spec.specs.Levels.{ModuleValue, LevelSymbol, Module}
use Rattle.lsys_spec.specs.Meaning.{asked}
use Rattle.lsys_spec.specs.Questions.{Question, questions, is_needed}
use Rattle.lsys_level.specs.Spots.{Spotted, spots_at, level_by}
use Rattle.lsys_walks.specs.Stores.{Store}
use Rattle.lsys_match.specs.declared.asked.Asked.{Asked}
use Rattle.lsys_match.specs.declared.asked.Asked.TheVariants.{Same, New}
use Rattle.lsys_match.specs.declared.refusal.AskRefusal.{AskRefusal}
use Rattle.lsys_match.specs.declared.refusal.AskRefusal.TheVariants as refusals
use Rattle.lsys_match.specs.Kept.{Kept}
use Rattle.lsys_match.specs.Answered.{CountsEntries}
use Rattle.lsys_match.specs.Asks.{ByDefinition, IsAnswered, IsNamedAt, KeepsStore, by_definition, news}
use Rattle.lsys_match.specs.Derivations.{Rises, most_read}
use Rattle.lsys_forest.specs.Groves.{Grove, now_of}
use Rattle.lsys_forest.specs.Rows.{complete_levels, level_nodes, level_spots, place_of_node}
use Rattle.lsys_forest.proofs.RowLemmas.{level_apart}
use Rattle.lsys_reads.specs.Lineages.{names}
use Rattle.lsys_reads.specs.Levels.{level_of, answer_at}
use Rattle.lsys_reads.specs.Meant.{levels_meant, level_to}
use Rattle.lsys_pass.specs.declared.state.PassState.TheVariants.{Level}
use Rattle.lsys_pass.specs.Steps.{StepParts, KeepsOutcome}
use Rattle.lsys_pass.specs.Passes.{PassView, stage_of, now_in, IsPass}
use Rattle.lsys_pass.specs.Moves.{if_fine, one_if_new, Moves, MovesOnce}
use Rattle.lsys_pass.proofs.Needed.{level_is_meant}
use Rattle.lsys_pass.proofs.Asking.{IsSameForest, asked as asked_node, made_now, there_now, here_now, row_is}
use Rattle.lsys_pass.proofs.Outcomes.{IsReplied, one_place, same_module, unneeded, successor_same, successor_fault, needed, successor_new}

-- 2. what was answered, of the forest's level

module _ (v : PassView) (t : ℕ) (h : IsPass v) (state : v.state ≡ Level t) (node : ℕ) (pending : In node v.pending) (g : Grove Kept) (same : IsSameForest v.forest g) where
  abbrev place : ℕ
  place = place_of_node g node

  pub replied : {L : Type 0} (sys : System) (st : Store) (o : Option Kept) (r : Result (Asked L) AskRefusal) → sys ≡ v.next → o ≡ answer_at (now_of g) node
      → ((naming : ℕ → List ℕ) (tag : ℕ) (m : ModuleValue) → IsNamedAt naming sys.seed (spots_at (complete_levels g) t) place tag m
      → IsAnswered naming (by_definition sys t (level_by naming (spots_at (complete_levels g) t)) place (naming tag) m) st o r)
      → KeepsStore v.store st o r → IsReplied (stage_of v) t node place st r
  replied sys st o r e old answered keeps =
      let i = here_now v t h state g same node pending in
      let kept : o ≡ answer_at (now_in v) node = old ∙ ap (λ m. answer_at m node) same.now in
      let one = subst (λ (z : System). (naming : ℕ → List ℕ) (tag : ℕ) (m : ModuleValue) → IsNamedAt naming z.seed (spots_at (complete_levels g) t) place tag m
      → IsAnswered naming (by_definition z t (level_by naming (spots_at (complete_levels g) t)) place (naming tag) m) st o r) e answered in
      let two = subst (λ (row : List Spotted). (naming : ℕ → List ℕ) (tag : ℕ) (m : ModuleValue) → IsNamedAt naming v.next.seed row place tag m
      → IsAnswered naming (by_definition v.next t (level_by naming row) place (naming tag) m) st o r) (row_is v t h state g same node pending) one in
      let three = subst (λ (q : Option Kept). (naming : ℕ → List ℕ) (tag : ℕ) (m : ModuleValue) → IsNamedAt naming v.next.seed (level_spots (now_in v) v.forest.root t) place tag m
      → IsAnswered naming (by_definition v.next t (level_by naming (level_spots (now_in v) v.forest.root t)) place (naming tag) m) st q r) kept two in
      record {
        there = there_now v t h state g same node pending;
        here = i;
        answered = λ naming named. three naming node i.own named;
        store = subst (λ (q : Option Kept). KeepsStore v.store st q r) kept keeps;
      }

  abbrev defined : ModuleValue → ByDefinition
  defined m = by_definition v.next t (level_of (now_in v) v.forest.root t) place (names (now_in v) node) m

  -- what was counted, by the lineage of now
  pub counted : {L : Type 0} (sys : System) (r : Result (Asked L) AskRefusal) (visited visited' : ℕ) → sys ≡ v.next
      → ((naming : ℕ → List ℕ) (tag : ℕ) (m : ModuleValue) → IsNamedAt naming sys.seed (spots_at (complete_levels g) t) place tag m
      → CountsEntries (length (by_definition sys t (level_by naming (spots_at (complete_levels g) t)) place (naming tag) m).question.trace) visited visited' r)
      → CountsEntries (length (defined (here_now v t h state g same node pending).own).question.trace) visited visited' r
  counted sys r visited visited' e counts =
      let i = here_now v t h state g same node pending in
      let one = subst (λ (z : System). (naming : ℕ → List ℕ) (tag : ℕ) (m : ModuleValue) → IsNamedAt naming z.seed (spots_at (complete_levels g) t) place tag m
      → CountsEntries (length (by_definition z t (level_by naming (spots_at (complete_levels g) t)) place (naming tag) m).question.trace) visited visited' r) e counts in
      let two = subst (λ (row : List Spotted). (naming : ℕ → List ℕ) (tag : ℕ) (m : ModuleValue) → IsNamedAt naming v.next.seed row place tag m
      → CountsEntries (length (by_definition v.next t (level_by naming row) place (naming tag) m).question.trace) visited visited' r) (row_is v t h state g same node pending) one in
      two (names (now_in v)) node i.own (record { here = i.spot })

  -- 3. at most so many entries are read

  few_entries : (m : ModuleValue) → length (defined m).question.trace ≤ most_read
  few_entries m = let e = length-take most_read (asked v.next t (group v.next t m.name (length m.params)) (level_of (now_in v) v.forest.root t) place (names (now_in v) node) m).entries in omega (arith, e)

  pub few_read : {L : Type 0} (r : Result (Asked L) AskRefusal) (visited visited' : ℕ) → CountsEntries (length (defined (here_now v t h state g same node pending).own).question.trace) visited visited' r → Rises 0 most_read visited visited'
  few_read (Ok a) visited visited' c = let f = few_entries (here_now v t h state g same node pending).own in record { from = omega (arith, c); to = omega (arith, c, f) }
  few_read (Err (refusals.Fault k)) visited visited' c = let f = few_entries (here_now v t h state g same node pending).own in record { from = omega (arith, c); to = omega (arith, c, f) }
  few_read (Err refusals.Memory) visited visited' c = let f = few_entries (here_now v t h state g same node pending).own in record { from = omega (arith, c.0); to = omega (arith, c.1, f) }

  -- 4. the counters

  abbrev olds : List Question
  olds = questions v.system (levels_meant v.system v.limit)

  pub moves_once : {L : Type 0} (st : Store) (had has visited visited' : ℕ) (is_born : Bool) (old new : StepParts) (r : Result (Asked L) AskRefusal) → (i : IsReplied (stage_of v) t node place st r) → KeepsOutcome node is_born old new r
      → has ≡ had + news r → CountsEntries (length (defined (here_now v t h state g same node pending).own).question.trace) visited visited' r
      → MovesOnce v node (λ asks reads. (has ≡ had + asks) × (visited' ≡ visited + reads))
  moves_once {L = L} st had has visited visited' is_born old new r i k e c =
      subst (λ q. Moves v q node by) (sym state) (λ p l m there stands. (
      let x = asked_node v t h state node pending in
      let first = here_now v t h state g same node pending in
      let spot : p ≡ place = one_place (level_nodes (now_in v) v.forest.root t) p place node (level_apart v.forest.root _ (now_in v) x.next.sound t) there i.there in
      let meant_is = level_is_meant (stage_of v) t x.next.at.tree in
      let stood : slice_get (level_of (now_in v) v.forest.root t) place ≡ Some (Module l m) = ap (λ (y : List LevelSymbol). slice_get y place) meant_is ∙ ap (slice_get (level_to v.next v.limit t)) (sym spot) ∙ stands in
      let mine = same_module (names (now_in v) node) l i.here.own m (same_Some _ _ (sym i.here.stands ∙ stood)) in
      let theirs = same_module (names (now_in v) node) l first.own m (same_Some _ _ (sym first.stands ∙ stood)) in
      let d : defined m ≡ by_definition v.next t (level_to v.next v.limit t) p l m =
      ap (λ (y : List LevelSymbol). by_definition v.next t y place (names (now_in v) node) m) meant_is ∙ ap (λ q. by_definition v.next t (level_to v.next v.limit t) q (names (now_in v) node) m) (sym spot)
      ∙ ap (λ q. by_definition v.next t (level_to v.next v.limit t) p q m) mine.line in
      let both : i.here.own ≡ first.own = mine.own ∙ sym theirs.own in
      subst (λ (z : ByDefinition). by (one_if_new olds z) (length z.question.trace)) d
      (core m (subst (λ w. CountsEntries (length (defined w).question.trace) visited visited' r) theirs.own c) (subst (λ w. one_if_new olds (defined w) ≡ news r) mine.own (ones r i k)))
      ))
    where
      by : ℕ → ℕ → Type 0
      by asks reads = (has ≡ had + asks) × (visited' ≡ visited + reads)

      ones : (q : Result (Asked L) AskRefusal) → (j : IsReplied (stage_of v) t node place st q) → KeepsOutcome node is_born old new q → one_if_new olds (defined j.here.own) ≡ news q
      ones (Ok Same) j z =
          let x = asked_node v t h state node pending in
          let f = successor_same (stage_of v) t node x.n x.front x.back x.next (made_now v t h state) place st j in
          let n = unneeded (stage_of v) t node x.n x.front x.back x.next (made_now v t h state) place st j in
          ap (λ s. if_fine s (cond (is_needed olds (defined j.here.own).question) 1 0)) f.1 ∙ ap (λ b. cond b 1 0) n
      ones (Ok (New a)) j z =
          let x = asked_node v t h state node pending in
          let f = successor_new (stage_of v) t node x.n x.front x.back x.next (made_now v t h state) place st a j in
          let n = needed (stage_of v) t node x.n x.front x.back x.next (made_now v t h state) place st a j in
          ap (λ s. if_fine s (cond (is_needed olds (defined j.here.own).question) 1 0)) f ∙ ap (λ b. cond b 1 0) n
      ones (Err (refusals.Fault kind)) j z =
          let x = asked_node v t h state node pending in
          let f = successor_fault (stage_of v) t node x.n x.front x.back x.next (made_now v t h state) place st kind j in
          ap (λ s. if_fine s (cond (is_needed olds (defined j.here.own).question) 1 0)) (sym f)
      ones (Err refusals.Memory) j z = absurd z

      all_read : (q : Result (Asked L) AskRefusal) (n : ℕ) → KeepsOutcome node is_born old new q → CountsEntries n visited visited' q → visited' ≡ visited + n
      all_read (Ok a) n z w = w
      all_read (Err (refusals.Fault kind)) n z w = w
      all_read (Err refusals.Memory) n z w = absurd z

      core : (m : ModuleValue) → CountsEntries (length (defined m).question.trace) visited visited' r → one_if_new olds (defined m) ≡ news r → by (one_if_new olds (defined m)) (length (defined m).question.trace)
      core m w o = (e ∙ ap (λ n. had + n) (sym o), all_read r (length (defined m).question.trace) k w)

-- the same of one view and of the other
pub moves_at : (v w : PassView) (node had has visited visited' : ℕ) → v ≡ w → MovesOnce v node (λ asks reads. (has ≡ had + asks) × (visited' ≡ visited + reads)) → MovesOnce w node (λ asks reads. (has ≡ had + asks) × (visited' ≡ visited + reads))
moves_at v w node had has visited visited' e = subst (λ (z : PassView). MovesOnce z node (λ asks reads. (has ≡ had + asks) × (visited' ≡ visited + reads))) e

pub asks_renewed : {L : Type 0} (node : ℕ) (is_born : Bool) (old new : StepParts) (renewed : List ℕ) (r : Result (Asked L) AskRefusal) (asked asked' : ℕ) → KeepsOutcome node is_born old new r → old.work.renewed.items ≡ renewed → asked' ≡ asked + news r
    → asked' + length renewed ≡ asked + length new.work.renewed.items
asks_renewed node is_born old new renewed (Ok Same) asked asked' k w e = let l = ap length (k.0.renewed ∙ w) in omega (arith, e, l)
asks_renewed node is_born old new renewed (Ok (New a)) asked asked' k w e =
    let l = ap length (k.renewed ∙ ap (λ (rn : List ℕ). rn ++ node ∷ []) w) in
    let p = length_push renewed node in omega (arith, e, l, p)
asks_renewed node is_born old new renewed (Err (refusals.Fault kind)) asked asked' k w e = let l = ap length (k.0.renewed ∙ w) in omega (arith, e, l)
asks_renewed node is_born old new renewed (Err refusals.Memory) asked asked' k w e = absurd k
