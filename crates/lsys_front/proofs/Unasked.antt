-- A node with a question that is no candidate keeps the right answer.
use Rattle.std.proofs.Common.{◌≡◌, ◌<◌, ℕ, false, Option, Some, None, List, [], ◌∷◌, length, map, refl, ap, sym, ◌∙◌, subst, inl, inr, arith}
use Rattle.std.specs.Prelude.{get_or, slice_get, option_map}
use Rattle.std.proofs.lemmas.Option.{none-some, same_Some, slice_get-map, get_or_from_slice_get}
use Rattle.lsys_spec.specs.Rows.{In}
use Rattle.lsys_spec.specs.Draws.{key_of}
use Rattle.lsys_spec.specs.Bodies.{Body, group}
use Rattle.lsys_spec.specs.Levels.{ModuleValue, LevelSymbol, lineage}
use Rattle.lsys_spec.specs.Levels as L
use Rattle.lsys_spec.specs.Questions.{Question, question, questions, question_at, is_needed}
use Rattle.lsys_spec.specs.Standings.{is_candidate}
use Rattle.lsys_spec.proofs.Needs.{IsAsked, found_asked, all_asked, within_one}
use Rattle.lsys_spec.proofs.Undisturbed.{choice_told, successor_told}
use Rattle.lsys_level.specs.Spots.{Module, Spotted, named, seen_by}
use Rattle.lsys_level.specs.Tags.{StandsThere, NamesTell}
use Rattle.lsys_match.specs.Kept.{Kept}
use Rattle.lsys_match.specs.Answered.{place_chosen}
use Rattle.lsys_match.specs.Asks.{IsAnswer, IsNamedAt, by_definition}
use Rattle.lsys_match.specs.Stored.{answer_in}
use Rattle.lsys_laws.specs.Passes.{module_question, is_candidate_at}
use Rattle.lsys_laws.proofs.Asked.{IsOld, not_needed}
use Rattle.lsys_laws.proofs.Faultless.{level_below}
use Rattle.lsys_forest.specs.Nodes.{Nodes}
use Rattle.lsys_forest.specs.Rows.{spot_in, level_spots}
use Rattle.lsys_reads.specs.Lineages.{names}
use Rattle.lsys_reads.specs.Levels.{IsRight, IsKeptFor, answer_at}
use Rattle.lsys_forest.specs.Pairs.{seen_at}
use Rattle.lsys_reads.proofs.LevelLemmas.{named_by_number, lineage_named, symbol_at, got_in}
use Rattle.lsys_front.specs.Repairs.{Repair, now, rest, root, were, are, SteppingSpots}
use Rattle.lsys_front.specs.Candidates.{IsCandidateNode}
use Rattle.lsys_front.proofs.Gathering.{marked_or_not}
use Rattle.lsys_front.proofs.Nodes.{kept_for, seen_back, tag_is, stands_now, spot_there, key_there, answered_as, differs}
use Rattle.lsys_front.proofs.Spots.{xs, ys, name, was_level, is_level, old_there, old_long, new_long, new_there, old_derived, new_derived, one_node}
use Rattle.lsys_front.proofs.Retelling.{still_right}

-- an answer where it is kept
pub keeps : (bs : List Body) (right : Kept → Type 0) (o : Option Kept) (a : Kept) → (bs ≡ [] → ⊥) → o ≡ Some a → right a → IsKeptFor bs right o
keeps [] right o a rules e h = absurd (rules refl)
keeps (b ∷ bs) right o a rules e h = (a, e, h)

-- and where none is
pub none_kept : (bs : List Body) (right : Kept → Type 0) (o : Option Kept) → bs ≡ [] → o ≡ None → IsKeptFor bs right o
none_kept [] right o e h = h
none_kept (b ∷ bs) right o e h = cc

-- a module stands at a place of the last rest
record StoodAt (r : Repair) (k : ℕ) (v : ModuleValue) (place : ℕ) : Type 0 where
  pub there : slice_get (were r) place ≡ Some k
  pub seen : seen_at (rest r) k ≡ Module v

record SameModule (l l' : List ℕ) (v w : ModuleValue) : Type 0 where
  pub line : l ≡ l'
  pub value : v ≡ w

same_module : (l l' : List ℕ) (v w : ModuleValue) → L.Module l v ≡ L.Module l' w → SameModule l l' v w
same_module l l' v w e = let a : l ≡ l' = cc in let b : v ≡ w = cc in record { line = a; value = b }

-- what stands in a level of spots is a node of the level
pub spotted_in : (m : Nodes Kept) (ks : List ℕ) (k : ℕ) → StandsThere k (map (λ k. spot_in k (m k)) ks) → In k ks
spotted_in m ks k h = by (slice_get ks h.place) refl
  where
    spots : List ℕ → List Spotted
    spots ks = map (λ k. spot_in k (m k)) ks

    by : (o : Option ℕ) → slice_get ks h.place ≡ o → In k ks
    by None e = absurd (none-some h.spot (sym (slice_get-map (λ k. spot_in k (m k)) ks h.place ∙ ap (option_map (λ k. spot_in k (m k))) e) ∙ h.there))
    by (Some j) e =
        let same : spot_in j (m j) ≡ h.spot = same_Some (spot_in j (m j)) h.spot (sym (slice_get-map (λ k. spot_in k (m k)) ks h.place ∙ ap (option_map (λ k. spot_in k (m k))) e) ∙ h.there) in
        subst (λ j. In j ks) (sym (tag_is j (m j)) ∙ ap (λ (a : Spotted). a.tag) same ∙ h.is) (got_in ks h.place j e)

module _ (r : Repair) (s : SteppingSpots r) where
  pub tell : NamesTell (name r s) (level_spots (rest r) (root r) r.level) (level_spots (now r) (root r) r.level)
  tell j k h g e = sym (one_node r s k j (spotted_in (now r) (are r) k g) (spotted_in (rest r) (were r) j h) (sym e))

  -- what is seen of a node now
  pub spot_now : (p k : ℕ) → slice_get (are r) p ≡ Some k → slice_get (level_spots (now r) (root r) r.level) p ≡ Some (spot_in k (now r k))
  spot_now p k there = slice_get-map (λ k. spot_in k (now r k)) (are r) p ∙ ap (option_map (λ k. spot_in k (now r k))) there

  key_now : (p k : ℕ) → slice_get (are r) p ≡ Some k → (spot_in k (now r k)).key ≡ key_of r.new.seed (name r s k)
  key_now p k there =
      s.new_levels.keys r.level p (spot_in k (now r k)) (omega (arith, new_long r s)) (spot_now p k there) ∙ ap (λ j. key_of r.new.seed (names (now r) j)) (tag_is k (now r k))

  module _ (p k : ℕ) (there : slice_get (are r) p ≡ Some k) (v : ModuleValue) (seen : seen_at (now r) k ≡ Module v)
      (rules : group r.new r.level v.name (length v.params) ≡ [] → ⊥) (not_one : IsCandidateNode r k → ⊥) where
    abbrev y : List LevelSymbol
    y = is_level r s

    abbrev q : Question
    q = module_question r.new r.level y p (name r s k) v

    b : IsAsked r.new (ys r s) q
    b = record { level = y; there = new_there r s; place = p; parents = name r s k; value = v; stands = stands_now r s p k v there seen; is = refl }

    -- 1. the old system asked the same

    no_candidate : is_candidate_at r.old r.new (xs r s) r.level y q ≡ false
    no_candidate = elim (marked_or_not (is_candidate_at r.old r.new (xs r s) r.level y q)) [
      | inr e ↦ e
      | inl e ↦ absurd (not_one (record { asks = record { own = v; is = seen; rules = rules }; differs = differs r s p k v there seen rules e }))
    ]

    pub unneeded : is_needed (questions r.old (xs r s)) q ≡ false
    unneeded =
        within_one r.old r.new (xs r s) (ys r s) (old_derived r s) (new_derived r s) q b
        (ap (λ y. is_candidate r.old r.new (get_or (xs r s) r.level []) y (questions r.old (xs r s)) q) (get_or_from_slice_get (ys r s) r.level y [] (new_there r s)) ∙ no_candidate)

    found : question_at r.level (name r s k) (questions r.old (xs r s)) ≡ Some q
    found =
        let o : IsOld r.old (xs r s) q = not_needed r.old r.new (xs r s) (ys r s) (old_derived r s) (new_derived r s) q b unneeded in
        o.found ∙ ap (λ q. Some q) o.same

    below : r.level < r.old.depth
    below = let l = level_below r.old (xs r s) r.level (name r s k) q found in omega (arith, l, old_long r s)

    was : IsAsked r.old (xs r s) q
    was = (found_asked r.old (xs r s) r.level (name r s k) (questions r.old (xs r s)) q (all_asked r.old (xs r s)) found).asked

    level_is : was.level ≡ was_level r s
    level_is = same_Some was.level (was_level r s) (sym was.there ∙ old_there r s below)

    own_is : SameModule (name r s k) was.parents v was.value
    own_is = same_module (name r s k) was.parents v was.value (ap (λ (q : Question). q.own) was.is)

    -- 2. of this node

    stood : StoodAt r k v was.place
    stood = by (slice_get (were r) was.place) refl
      where
        x : List LevelSymbol
        x = was_level r s

        stands : slice_get (was_level r s) was.place ≡ Some (L.Module was.parents was.value)
        stands = ap (λ x. slice_get x was.place) (sym level_is) ∙ was.stands

        by : (o : Option ℕ) → slice_get (were r) was.place ≡ o → StoodAt r k v was.place
        by None e =
            absurd (none-some (L.Module was.parents was.value)
            (sym (slice_get-map (named (name r s)) (level_spots (rest r) (root r) r.level) was.place
            ∙ ap (option_map (named (name r s))) (slice_get-map (λ k. spot_in k (rest r k)) (were r) was.place ∙ ap (option_map (λ k. spot_in k (rest r k))) e)) ∙ stands))
        by (Some j) e =
            let same : named (name r s) (spot_in j (rest r j)) ≡ L.Module was.parents was.value =
            same_Some (named (name r s) (spot_in j (rest r j))) (L.Module was.parents was.value) (sym (symbol_at (name r s) (rest r) (were r) was.place j e) ∙ stands) in
            let line : name r s j ≡ was.parents = sym (lineage_named (name r s) j (rest r j)) ∙ ap lineage same in
            let one : k ≡ j = one_node r s k j (got_in (are r) p k there) (got_in (were r) was.place j e) (own_is.line ∙ sym line) in
            let value : seen_at (rest r) j ≡ Module was.value =
            sym (seen_back (name r s j) (spot_in j (rest r j)).seen) ∙ ap seen_by (sym (named_by_number (name r s) j (rest r j)) ∙ same) in
            record {
              there = e ∙ ap (λ j. Some j) (sym one);
              seen = ap (seen_at (rest r)) one ∙ value ∙ ap (λ v. Module v) (sym own_is.value);
            }

    was_rules : group r.old r.level v.name (length v.params) ≡ [] → ⊥
    was_rules none =
        rules (ap (λ (q : Question). q.bodies) was.is ∙ ap (λ (v : ModuleValue). group r.old r.level v.name (length v.params)) (sym own_is.value) ∙ none)

    abbrev row : List Spotted
    row = level_spots (rest r) (root r) r.level

    kept : (a : Kept) × (answer_at (rest r) k ≡ Some a) × IsRight r.old r.level row r.store was.place k v a
    kept = kept_for (group r.old r.level v.name (length v.params)) (IsRight r.old r.level row r.store was.place k v) (answer_at (rest r) k)
        (answered_as r s below was.place k (Module v) stood.there stood.seen) was_rules

    -- 3. and its answer is right still

    old_named : IsNamedAt (name r s) r.old.seed row was.place k v
    old_named =
        let e1 = stood.seen in
        let e2 = tag_is k (rest r k) in
        let e3 = key_there r s below was.place k stood.there in
        let spot : spot_in k (rest r k) ≡ record { seen = Module v; tag = k; key = key_of r.old.seed (name r s k) } = λ i. record { seen = e1 i; tag = e2 i; key = e3 i } in
        record { here = spot_there r s below was.place k stood.there ∙ ap (λ a. Some a) spot }

    new_named : IsNamedAt (name r s) r.new.seed (level_spots (now r) (root r) r.level) p k v
    new_named =
        let e1 = seen in
        let e2 = tag_is k (now r k) in
        let e3 = key_now p k there in
        let spot : spot_in k (now r k) ≡ record { seen = Module v; tag = k; key = key_of r.new.seed (name r s k) } = λ i. record { seen = e1 i; tag = e2 i; key = e3 i } in
        record { here = spot_now p k there ∙ ap (λ a. Some a) spot }

    same_question : question r.old r.level (group r.old r.level v.name (length v.params)) (was_level r s) was.place (name r s k) v ≡ q
    same_question =
        ap (λ x. question r.old r.level (group r.old r.level v.name (length v.params)) x was.place (name r s k) v) (sym level_is)
        ∙ ap (λ l. question r.old r.level (group r.old r.level v.name (length v.params)) was.level was.place l v) own_is.line
        ∙ ap (λ (v : ModuleValue). question r.old r.level (group r.old r.level v.name (length v.params)) was.level was.place was.parents v) own_is.value
        ∙ sym was.is

    told : IsAnswer (name r s) (by_definition r.new r.level y p (name r s k) v) (answer_in r.store kept.0)
    told =
        let old : IsAnswer (name r s) (by_definition r.old r.level (was_level r s) was.place (name r s k) v) (answer_in r.store kept.0) = kept.2.answer.told (name r s) old_named in
        record {
          question = old.question ∙ same_question;
          chosen = old.chosen ∙ ap place_chosen (choice_told r.old r.new r.level r.level (group r.old r.level v.name (length v.params)) (group r.new r.level v.name (length v.params))
              (was_level r s) y was.place p (name r s k) (name r s k) v v same_question);
          successor = old.successor ∙ successor_told r.old r.new r.level r.level (was_level r s) y was.place p (name r s k) (name r s k) v v same_question;
        }

    right : IsRight r.new r.level (level_spots (now r) (root r) r.level) r.store p k v kept.0
    right = record {
      made = kept.2.made;
      answer = still_right r.old r.new r.level row (level_spots (now r) (root r) r.level) was.place p k v v (answer_in r.store kept.0) (name r s) kept.2.answer tell new_named told;
    }

    pub keeps_right : (o : Option Kept) → o ≡ answer_at (rest r) k
        → IsKeptFor (group r.new r.level v.name (length v.params)) (IsRight r.new r.level (level_spots (now r) (root r) r.level) r.store p k v) o
    keeps_right o e = keeps (group r.new r.level v.name (length v.params)) (IsRight r.new r.level (level_spots (now r) (root r) r.level) r.store p k v) o kept.0 rules (e ∙ kept.1) right
