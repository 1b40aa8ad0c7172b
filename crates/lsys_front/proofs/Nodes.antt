-- The candidates of a level, node by node.
use Rattle.std.proofs.Common.{◌≡◌, ◌<◌, ◌||◌, ℕ, Bool, true, false, List, [], ◌∷◌, length, map, Option, Some, None, refl, sym, ap, ◌∙◌, subst, inl, inr, arith}
use Rattle.std.specs.Prelude.{◌↔◌, not, flat_map, get_or, slice_get, option_map}
use Rattle.std.proofs.lemmas.Bool.{cases_lt}
use Rattle.std.proofs.lemmas.Option.{none-some, same_Some, slice_get-map, get_or_from_slice_get}
use Rattle.lsys_spec.specs.Rows.{In}
use Rattle.lsys_spec.specs.Draws.{key_of}
use Rattle.lsys_spec.specs.Bodies.{Body, group}
use Rattle.lsys_spec.specs.Levels.{ModuleValue, LevelSymbol, lineage}
use Rattle.lsys_spec.specs.Levels as L
use Rattle.lsys_spec.specs.Walks.{lineages_named, any_holds}
use Rattle.lsys_spec.specs.Equalities.{same_all, same_body}
use Rattle.lsys_spec.specs.Questions.{Question, question, questions, question_at}
use Rattle.lsys_spec.specs.Standings.{is_disturbed, any_disturbed, touched_there}
use Rattle.lsys_spec.proofs.Needs.{IsAsked, IsFound, found_asked, all_asked}
use Rattle.lsys_spec.proofs.Tests.{both, one_of, or_first, or_later, any_is}
use Rattle.lsys_level.specs.Spots.{Seen, Push, Pop, Module, Spotted, with_lineage, named, seen_by}
use Rattle.lsys_walks.specs.Noted.{Noted, Compared, Ignored, Out, Branched, entry_by}
use Rattle.lsys_walks.specs.Agreements.{HasTag}
use Rattle.lsys_match.specs.Kept.{Kept}
use Rattle.lsys_match.specs.Stored.{trace_in, answer_in}
use Rattle.lsys_match.specs.Recalled.{IsAnswerThere}
use Rattle.lsys_match.specs.Traced.{IsTraceAt}
use Rattle.lsys_match.proofs.Standing.{stands_there}
use Rattle.lsys_laws.specs.Passes.{module_question, is_candidate_at}
use Rattle.lsys_laws.specs.Groups.{has_same_rules}
use Rattle.lsys_laws.proofs.Found.{old_candidate, all_read}
use Rattle.lsys_laws.proofs.Asked.{none_last}
use Rattle.lsys_forest.specs.Nodes.{Node}
use Rattle.lsys_forest.specs.Rows.{spot_in, level_spots}
use Rattle.lsys_forest.proofs.RowLemmas.{In_append}
use Rattle.lsys_reads.specs.Lineages.{names}
use Rattle.lsys_reads.specs.Levels.{IsRight, IsKeptFor, IsAnsweredRight, answer_at, tags_named, tags_read, HasRead}
use Rattle.lsys_reads.specs.Meant.{level_to, IsCandidate}
use Rattle.lsys_forest.specs.Pairs.{seen_at}
use Rattle.lsys_reads.proofs.LevelLemmas.{named_by_number, lineage_named, symbol_at, got_in, place_in}
use Rattle.lsys_front.specs.Repairs.{Repair, now, rest, root, were, are, SteppingSpots}
use Rattle.lsys_front.specs.Candidates.{IsUndisturbed, MayDiffer, was_last, moved, read_moved, other_rules, IsCandidateNode}
use Rattle.lsys_front.proofs.AskedThere.{asked_there}
use Rattle.lsys_front.proofs.Gathering.{marked_or_not, not_both}
use Rattle.lsys_front.proofs.Spots.{is_in, xs, ys, name, was_level, is_level, still_is, old_there, old_within, old_is_level, old_long, new_long, new_there, old_name, old_and_new, one_node}

-- 1. what a trace names

tag_named : (k : ℕ) (n : Noted) (ns : List Noted) → In k (tags_named n) → HasTag k (n ∷ ns)
tag_named k (Compared d t v) ns (inl e) = inl e
tag_named k (Compared d t v) ns (inr h) = absurd h
tag_named k (Ignored d t v) ns (inl e) = inl e
tag_named k (Ignored d t v) ns (inr h) = absurd h
tag_named k (Out d t) ns (inl e) = inl e
tag_named k (Out d t) ns (inr h) = absurd h
tag_named k (Branched d o c) ns (inl e) = inl (inl e)
tag_named k (Branched d o c) ns (inr (inl e)) = inl (inr e)
tag_named k (Branched d o c) ns (inr (inr h)) = absurd h

pub tags_in : (k : ℕ) (ns : List Noted) → In k (flat_map tags_named ns) → HasTag k ns
tags_in k [] h = h
tags_in k (n ∷ ns) h = elim (In_append (tags_named n) (flat_map tags_named ns) k h) [
  | inl i ↦ tag_named k n ns i
  | inr i ↦ inr (tags_in k ns i)
]

lineages_told : (naming : ℕ → List ℕ) (ns : List Noted) → flat_map lineages_named (map (entry_by naming) ns) ≡ map naming (flat_map tags_named ns)
lineages_told naming [] = refl
lineages_told naming (Compared d t v ∷ ns) = ap (λ (l : List (List ℕ)). naming t ∷ l) (lineages_told naming ns)
lineages_told naming (Ignored d t v ∷ ns) = ap (λ (l : List (List ℕ)). naming t ∷ l) (lineages_told naming ns)
lineages_told naming (Out d t ∷ ns) = ap (λ (l : List (List ℕ)). naming t ∷ l) (lineages_told naming ns)
lineages_told naming (Branched d o c ∷ ns) = ap (λ (l : List (List ℕ)). naming o ∷ naming c ∷ l) (lineages_told naming ns)

-- 2. what is kept

pub kept_for : (bs : List Body) (right : Kept → Type 0) (o : Option Kept) → IsKeptFor bs right o → (bs ≡ [] → ⊥) → (a : Kept) × (o ≡ Some a) × right a
kept_for [] right o h n = absurd (n refl)
kept_for (b ∷ bs) right o h n = h

pub some_kept : (bs : List Body) (right : Kept → Type 0) (o : Option Kept) (a : Kept) → IsKeptFor bs right o → o ≡ Some a → bs ≡ [] → ⊥
some_kept [] right o a h e n = none-some a (sym h ∙ e)
some_kept (b ∷ bs) right o a h e n = cc

pub seen_back : (l : List ℕ) (e : Seen) → seen_by (with_lineage l e) ≡ e
seen_back l Push = refl
seen_back l Pop = refl
seen_back l (Module m) = refl

pub tag_is : (k : ℕ) (o : Option (Node Kept)) → (spot_in k o).tag ≡ k
tag_is k None = refl
tag_is k (Some n) = refl

any_in : (p : List ℕ → Bool) (f : ℕ → List ℕ) (ks : List ℕ) (k : ℕ) → In k ks → p (f k) ≡ true → any_holds p (map f ks) ≡ true
any_in p f [] k h e = absurd h
any_in p f (x ∷ ks) k (inl i) e = any_is p (f x) (map f ks) ∙ or_first (p (f x)) (any_holds p (map f ks)) (ap (λ k. p (f k)) (sym i) ∙ e)
any_in p f (x ∷ ks) k (inr h) e = any_is p (f x) (map f ks) ∙ or_later (p (f x)) (any_holds p (map f ks)) (any_in p f ks k h e)

in_any : (p : List ℕ → Bool) (f : ℕ → List ℕ) (ks : List ℕ) → any_holds p (map f ks) ≡ true → (k : ℕ) × In k ks × (p (f k) ≡ true)
in_any p f [] e = absurd (let g : false ≡ true = e in cc)
in_any p f (x ∷ ks) e = elim (one_of (p (f x)) (any_holds p (map f ks)) (sym (any_is p (f x) (map f ks)) ∙ e)) [
  | inl h ↦ (x, inl refl, h)
  | inr h ↦ (let r = in_any p f ks h in (r.0, inr r.1, r.2))
]

not_true : (b : Bool) → not b ≡ true → b ≡ false
not_true true e = absurd (let g : false ≡ true = e in cc)
not_true false e = refl

module _ (r : Repair) (s : SteppingSpots r) where
  pub seen_there : (p k : ℕ) (l : List ℕ) (v : ModuleValue) → slice_get (are r) p ≡ Some k → slice_get (is_level r s) p ≡ Some (L.Module l v) → (l ≡ name r s k) × (seen_at (now r) k ≡ Module v)
  seen_there p k l v there e =
      let same : named (name r s) (spot_in k ((now r) k)) ≡ L.Module l v = same_Some (named (name r s) (spot_in k ((now r) k))) (L.Module l v) (sym (symbol_at (name r s) (now r) (are r) p k there) ∙ e) in (
        sym (sym (lineage_named (name r s) k ((now r) k)) ∙ ap lineage same),
        sym (seen_back (name r s k) (spot_in k ((now r) k)).seen) ∙ ap seen_by (sym (named_by_number (name r s) k ((now r) k)) ∙ same),
      )

  pub stands_now : (p k : ℕ) (v : ModuleValue) → slice_get (are r) p ≡ Some k → seen_at (now r) k ≡ Module v → slice_get (is_level r s) p ≡ Some (L.Module (name r s k) v)
  stands_now p k v there e = symbol_at (name r s) (now r) (are r) p k there ∙ ap Some (named_by_number (name r s) k ((now r) k) ∙ ap (with_lineage (name r s k)) e)

  module _ (below : r.level < r.old.depth) where
    abbrev x : List LevelSymbol
    x = was_level r s

    abbrev y : List LevelSymbol
    y = is_level r s

    stood : (p k : ℕ) (v : ModuleValue) → slice_get (were r) p ≡ Some k → seen_at (rest r) k ≡ Module v → slice_get x p ≡ Some (L.Module (name r s k) v)
    stood p k v there e = symbol_at (name r s) (rest r) (were r) p k there ∙ ap Some (named_by_number (name r s) k (rest r k) ∙ ap (with_lineage (name r s k)) e)

    abbrev row : List Spotted
    row = level_spots (rest r) (root r) r.level

    pub spot_there : (p k : ℕ) → slice_get (were r) p ≡ Some k → slice_get row p ≡ Some (spot_in k (rest r k))
    spot_there p k there = slice_get-map (λ k. spot_in k (rest r k)) (were r) p ∙ ap (option_map (λ k. spot_in k (rest r k))) there

    node_there : (p : ℕ) (a : Spotted) → slice_get row p ≡ Some a → In a.tag (were r)
    node_there p a h = by (slice_get (were r) p) refl
      where
        by : (o : Option ℕ) → slice_get (were r) p ≡ o → In a.tag (were r)
        by None e = absurd (none-some a (sym (slice_get-map (λ k. spot_in k (rest r k)) (were r) p ∙ ap (option_map (λ k. spot_in k (rest r k))) e) ∙ h))
        by (Some k) e =
            let same : spot_in k (rest r k) ≡ a = same_Some (spot_in k (rest r k)) a (sym (spot_there p k e) ∙ h) in
            subst (λ j. In j (were r)) (sym (tag_is k (rest r k)) ∙ ap (λ (a : Spotted). a.tag) same) (got_in (were r) p k e)

    -- the question of a module at rest, and which nodes its answer read
    pub record WasAsked (k : ℕ) (a : Kept) : Type 0 where
      pub question : Question
      pub found : question_at r.level (name r s k) (questions r.old (xs r s)) ≡ Some question
      pub read : any_disturbed x y question.trace ≡ any_holds (is_disturbed x y) (map (name r s) (tags_read r.store a))
      pub among : (j : ℕ) → In j (tags_read r.store a) → In j (were r)

    pub key_there : (p k : ℕ) → slice_get (were r) p ≡ Some k → (spot_in k (rest r k)).key ≡ key_of r.old.seed (name r s k)
    key_there p k there =
        s.old_levels.keys r.level p (spot_in k (rest r k)) (omega (arith, old_long r s, below)) (spot_there p k there)
        ∙ ap (λ j. key_of r.old.seed (names (rest r) j)) (tag_is k (rest r k)) ∙ ap (key_of r.old.seed) (old_name r s k (got_in (were r) p k there))

    right_asked : (p k : ℕ) (v : ModuleValue) (a : Kept) → slice_get (were r) p ≡ Some k → seen_at (rest r) k ≡ Module v → (group r.old r.level v.name (length v.params) ≡ [] → ⊥)
        → IsAnswerThere r.old r.level row p k v (answer_in r.store a) → WasAsked k a
    right_asked p k v a there seen some right =
        let q : Question = question r.old r.level (group r.old r.level v.name (length v.params)) x p (name r s k) v in
        let e1 = seen in
        let e2 = tag_is k (rest r k) in
        let e3 = key_there p k there in
        let spot : spot_in k (rest r k) ≡ record { seen = Module v; tag = k; key = key_of r.old.seed (name r s k) } = λ i. record { seen = e1 i; tag = e2 i; key = e3 i } in
        let here : slice_get row p ≡ Some (record { seen = Module v; tag = k; key = key_of r.old.seed (name r s k) }) = spot_there p k there ∙ ap Some spot in
        let told = (right.told (name r s) (record { here = here })).question in
        let trace : map (entry_by (name r s)) (trace_in r.store a) ≡ q.trace = ap (λ (q : Question). q.trace) told in
        let traced : IsTraceAt r.old r.level (group r.old r.level v.name (length v.params)) row p k v (trace_in r.store a) = record {
          line = right.line;
          here = right.here;
          told = λ naming own. ap (λ (q : Question). q.trace) (right.told naming (record { here = own })).question;
        } in
        record {
          question = q;
          found = asked_there r.old (xs r s) r.level x p (name r s k) v (old_is_level r s below) (old_there r s below) (old_within r s below) (stood p k v there seen) some;
          read = all_read x y q.trace ∙ ap (λ es. any_holds (is_disturbed x y) (flat_map lineages_named es)) (sym trace) ∙ ap (any_holds (is_disturbed x y)) (lineages_told (name r s) (trace_in r.store a));
          among = λ j h. (let t = stands_there r.old r.level (group r.old r.level v.name (length v.params)) row p k v (trace_in r.store a) traced j (tags_in j (trace_in r.store a) h) in
              subst (λ j. In j (were r)) t.is (node_there t.place t.spot t.there));
        }

    pub answered_as : (p k : ℕ) (e : Seen) → slice_get (were r) p ≡ Some k → seen_at (rest r) k ≡ e → IsAnsweredRight r.old r.level row r.store p k e (answer_at (rest r) k)
    answered_as p k e there seen =
        let h = s.answered p k below there (spot_in k (rest r k)) (spot_there p k there) in
        subst (λ j. IsAnsweredRight r.old r.level row r.store p j e (answer_at (rest r) k)) (tag_is k (rest r k))
        (subst (λ e. IsAnsweredRight r.old r.level row r.store p (spot_in k (rest r k)).tag e (answer_at (rest r) k)) seen h)

    -- a module with a group was asked
    pub was_asked : (p k : ℕ) (v : ModuleValue) → slice_get (were r) p ≡ Some k → seen_at (rest r) k ≡ Module v → (group r.old r.level v.name (length v.params) ≡ [] → ⊥)
        → (a : Kept) × (answer_at (rest r) k ≡ Some a) × WasAsked k a
    was_asked p k v there seen some =
        let bs = group r.old r.level v.name (length v.params) in
        let h = kept_for bs (IsRight r.old r.level row r.store p k v) (answer_at (rest r) k) (answered_as p k (Module v) there seen) some in
        (h.0, h.1, right_asked p k v h.0 there seen some h.2.answer)

    -- and one that keeps an answer is such a module
    pub has_asked : (p k : ℕ) (a : Kept) → slice_get (were r) p ≡ Some k → answer_at (rest r) k ≡ Some a → (v : ModuleValue) × (seen_at (rest r) k ≡ Module v) × (group r.old r.level v.name (length v.params) ≡ [] → ⊥)
    has_asked p k a there kept = by (seen_at (rest r) k) refl
      where
        by : (e : Seen) → seen_at (rest r) k ≡ e → (v : ModuleValue) × (seen_at (rest r) k ≡ Module v) × (group r.old r.level v.name (length v.params) ≡ [] → ⊥)
        by Push e = absurd (none-some a (sym (answered_as p k Push there e) ∙ kept))
        by Pop e = absurd (none-some a (sym (answered_as p k Pop there e) ∙ kept))
        by (Module v) e = (v, e, some_kept (group r.old r.level v.name (length v.params)) (IsRight r.old r.level row r.store p k v) (answer_at (rest r) k) a (answered_as p k (Module v) there e) kept)

    -- 3. disturbed nodes

    old_is : get_or (xs r s) r.level [] ≡ x
    old_is = get_or_from_slice_get (xs r s) r.level x [] (old_there r s below)

    new_is : get_or (ys r s) r.level [] ≡ y
    new_is = get_or_from_slice_get (ys r s) r.level y [] (new_there r s)

    same_test : (k : ℕ) → is_disturbed (get_or (xs r s) r.level []) (get_or (ys r s) r.level []) (name r s k) ≡ is_disturbed x y (name r s k)
    same_test k = ap (λ x. is_disturbed x (get_or (ys r s) r.level []) (name r s k)) old_is ∙ ap (λ y. is_disturbed x y (name r s k)) new_is

    pub still : (k : ℕ) → In k (were r) → is_disturbed x y (name r s k) ≡ false → IsUndisturbed r k
    still k h e = (still_is r s below k h).0 (same_test k ∙ e)

    pub disturbed : (k : ℕ) → In k (were r) → (IsUndisturbed r k → ⊥) → is_disturbed x y (name r s k) ≡ true
    disturbed k h n = elim (marked_or_not (is_disturbed x y (name r s k))) [ inl e ↦ e | inr e ↦ absurd (n (still k h e)) ]

    pub not_still : (k : ℕ) → In k (were r) → is_disturbed x y (name r s k) ≡ true → IsUndisturbed r k → ⊥
    not_still k h e t = not_both (is_disturbed x y (name r s k)) e (sym (same_test k) ∙ (still_is r s below k h).1 t)

    -- 4. candidates

    test : (p k : ℕ) (v : ModuleValue) (was : Question) → slice_get (are r) p ≡ Some k → seen_at (now r) k ≡ Module v → question_at r.level (name r s k) (questions r.old (xs r s)) ≡ Some was
        → is_candidate_at r.old r.new (xs r s) r.level y (module_question r.new r.level y p (name r s k) v)
        ≡ is_disturbed x y (name r s k) || (any_disturbed x y was.trace || not (has_same_rules r.old r.new r.level (name r s k) v))
    test p k v was there seen found =
        old_candidate r.old r.new (xs r s) (ys r s) r.level x y p (name r s k) v was (old_and_new r s below).meant (old_there r s below)
        (record { level = new_there r s; stands = stands_now p k v there seen }) found

    same_groups : (k : ℕ) (v : ModuleValue) → has_same_rules r.old r.new r.level (name r s k) v ≡ true → (group r.new r.level v.name (length v.params) ≡ [] → ⊥) → group r.old r.level v.name (length v.params) ≡ [] → ⊥
    same_groups k v h n e = by (group r.new r.level v.name (length v.params)) n (ap (λ bs. same_all same_body bs (group r.new r.level v.name (length v.params))) (sym e) ∙ (both _ _ h).0)
      where
        by : (bs : List Body) → (bs ≡ [] → ⊥) → same_all same_body [] bs ≡ true → ⊥
        by [] n h = n refl
        by (b ∷ bs) n h = let g : false ≡ true = h in cc

    differs_old : (p k : ℕ) (v : ModuleValue) → slice_get (are r) p ≡ Some k → seen_at (now r) k ≡ Module v → (group r.new r.level v.name (length v.params) ≡ [] → ⊥)
        → is_candidate_at r.old r.new (xs r s) r.level y (module_question r.new r.level y p (name r s k) v) ≡ true
        → In k (were r) → is_disturbed x y (name r s k) ≡ false → has_same_rules r.old r.new r.level (name r s k) v ≡ true → MayDiffer r k v
    differs_old p k v there seen some is h e rules =
        let t = still k h e in
        let old : seen_at (rest r) k ≡ Module v = sym t.same.symbol ∙ seen in
        let asked = was_asked t.old_place k v t.was_there old (same_groups k v rules some) in
        let w = asked.2 in
        let all = sym (test p k v w.question there seen w.found) ∙ is in
        let reads : any_holds (is_disturbed x y) (map (name r s) (tags_read r.store asked.0)) ≡ true = elim (one_of (is_disturbed x y (name r s k)) _ all) [
          | inl d ↦ absurd (not_both (is_disturbed x y (name r s k)) d e)
          | inr o ↦ elim (one_of (any_disturbed x y w.question.trace) _ o) [
            | inl d ↦ sym w.read ∙ d
            | inr d ↦ absurd (not_both (has_same_rules r.old r.new r.level (name r s k) v) rules (not_true _ d))
          ]
        ] in
        let j = in_any (is_disturbed x y) (name r s) (tags_read r.store asked.0) reads in
        read_moved j.0 (record { answer = asked.0; kept = asked.1; among = j.1 }) (not_still j.0 (w.among j.0 j.1) j.2)

    may_differ : (p k : ℕ) (v : ModuleValue) → slice_get (are r) p ≡ Some k → seen_at (now r) k ≡ Module v → (group r.new r.level v.name (length v.params) ≡ [] → ⊥)
        → is_candidate_at r.old r.new (xs r s) r.level y (module_question r.new r.level y p (name r s k) v) ≡ true → MayDiffer r k v
    may_differ p k v there seen some is = elim (is_in k (were r)) [
      | inr n ↦ moved (λ t. n (got_in (were r) t.old_place k t.was_there))
      | inl h ↦ elim (marked_or_not (is_disturbed x y (name r s k))) [
        | inl e ↦ moved (not_still k h e)
        | inr e ↦ elim (marked_or_not (has_same_rules r.old r.new r.level (name r s k) v)) [
          | inr n ↦ other_rules n
          | inl rules ↦ differs_old p k v there seen some is h e rules
        ]
      ]
    ]

    -- what was asked there was asked of a node that was there
    found_in : (p k : ℕ) (was : Question) → slice_get (are r) p ≡ Some k → question_at r.level (name r s k) (questions r.old (xs r s)) ≡ Some was → In k (were r)
    found_in p k was there e =
        let f : IsFound r.old (xs r s) r.level (name r s k) was = found_asked r.old (xs r s) r.level (name r s k) (questions r.old (xs r s)) was (all_asked r.old (xs r s)) e in
        let a : IsAsked r.old (xs r s) was = f.asked in
        let level : a.level ≡ x = same_Some a.level x (sym a.there ∙ ap (slice_get (xs r s)) f.level ∙ old_there r s below) in
        let stands : slice_get x a.place ≡ Some (L.Module a.parents a.value) = ap (λ x. slice_get x a.place) (sym level) ∙ a.stands in
        by a.place (L.Module a.parents a.value) stands (f.lineages ∙ ap (λ (q : Question). lineage q.own) a.is) (slice_get (were r) a.place) refl
      where
        by : (p' : ℕ) (l : LevelSymbol) → slice_get x p' ≡ Some l → name r s k ≡ lineage l → (o : Option ℕ) → slice_get (were r) p' ≡ o → In k (were r)
        by p' l stands own None e = absurd (none-some l (sym (slice_get-map (named (name r s)) row p' ∙ ap (option_map (named (name r s))) (slice_get-map (λ k. spot_in k (rest r k)) (were r) p' ∙ ap (option_map (λ k. spot_in k (rest r k))) e)) ∙ stands))
        by p' l stands own (Some j) e =
            let same : named (name r s) (spot_in j (rest r j)) ≡ l = same_Some (named (name r s) (spot_in j (rest r j))) l (sym (symbol_at (name r s) (rest r) (were r) p' j e) ∙ stands) in
            let i : In j (were r) = got_in (were r) p' j e in
            let one : k ≡ j = one_node r s k j (got_in (are r) p k there) i (own ∙ ap lineage (sym same) ∙ lineage_named (name r s) j (rest r j)) in
            subst (λ j. In j (were r)) (sym one) i

    read_there : (k : ℕ) (was : Question) → In k (were r) → question_at r.level (name r s k) (questions r.old (xs r s)) ≡ Some was → (j : ℕ) → HasRead (rest r) r.store k j → (IsUndisturbed r j → ⊥) → any_disturbed x y was.trace ≡ true
    read_there k was h e j read n =
        let p = place_in k (were r) h in
        let v = has_asked p.0 k read.answer p.1 read.kept in
        let asked = was_asked p.0 k v.0 p.1 v.1 v.2 in
        let same : asked.0 ≡ read.answer = same_Some asked.0 read.answer (sym asked.1 ∙ read.kept) in
        let w = asked.2 in
        let one : was ≡ w.question = same_Some was w.question (sym e ∙ w.found) in
        let among : In j (tags_read r.store asked.0) = subst (λ a. In j (tags_read r.store a)) (sym same) read.among in
        ap (λ (q : Question). any_disturbed x y q.trace) one ∙ w.read ∙ any_in (is_disturbed x y) (name r s) (tags_read r.store asked.0) j among (disturbed j (w.among j among) n)

    must_ask : (p k : ℕ) (v : ModuleValue) → slice_get (are r) p ≡ Some k → seen_at (now r) k ≡ Module v → MayDiffer r k v
        → is_candidate_at r.old r.new (xs r s) r.level y (module_question r.new r.level y p (name r s k) v) ≡ true
    must_ask p k v there seen d = by (question_at r.level (name r s k) (questions r.old (xs r s))) refl d
      where
        q : Question
        q = module_question r.new r.level y p (name r s k) v

        by : (o : Option Question) → question_at r.level (name r s k) (questions r.old (xs r s)) ≡ o → MayDiffer r k v → is_candidate_at r.old r.new (xs r s) r.level y q ≡ true
        by None e d = ap (touched_there r.old r.new (get_or (xs r s) r.level []) y q) e
        by (Some was) e (was_last le) = absurd (omega (arith, le, below))
        by (Some was) e (moved n) = test p k v was there seen e ∙ or_first (is_disturbed x y (name r s k)) _ (disturbed k (found_in p k was there e) n)
        by (Some was) e (read_moved j read n) = test p k v was there seen e ∙ or_later (is_disturbed x y (name r s k)) _ (or_first (any_disturbed x y was.trace) _ (read_there k was (found_in p k was there e) e j read n))
        by (Some was) e (other_rules n) = test p k v was there seen e ∙ or_later (is_disturbed x y (name r s k)) _ (or_later (any_disturbed x y was.trace) _ (ap not n))

  -- 5. the law

  level_is : level_to r.new r.limit r.level ≡ is_level r s
  level_is = sym (s.new_levels.each r.level (omega (arith, new_long r s)))

  pub differs : (p k : ℕ) (v : ModuleValue) → slice_get (are r) p ≡ Some k → seen_at (now r) k ≡ Module v → (group r.new r.level v.name (length v.params) ≡ [] → ⊥)
      → is_candidate_at r.old r.new (xs r s) r.level (is_level r s) (module_question r.new r.level (is_level r s) p (name r s k) v) ≡ true → MayDiffer r k v
  differs p k v there seen some is = elim (cases_lt r.level r.old.depth) [
    | inl below ↦ may_differ below p k v there seen some is
    | inr last ↦ was_last last
  ]

  asks : (p k : ℕ) (v : ModuleValue) → slice_get (are r) p ≡ Some k → seen_at (now r) k ≡ Module v → MayDiffer r k v
      → is_candidate_at r.old r.new (xs r s) r.level (is_level r s) (module_question r.new r.level (is_level r s) p (name r s k) v) ≡ true
  asks p k v there seen d = elim (cases_lt r.level r.old.depth) [
    | inl below ↦ must_ask below p k v there seen d
    | inr last ↦ ap (touched_there r.old r.new (get_or (xs r s) r.level []) (is_level r s) (module_question r.new r.level (is_level r s) p (name r s k) v))
        (none_last r.old (xs r s) r.level (name r s k) (omega (arith, old_long r s, last)))
  ]

  pub candidate : (p k : ℕ) → slice_get (are r) p ≡ Some k → IsCandidate r.old r.new r.limit r.level p → IsCandidateNode r k
  candidate p k there c =
      let stands : slice_get (is_level r s) p ≡ Some (L.Module c.line c.own) = ap (λ y. slice_get y p) (sym level_is) ∙ c.stands in
      let t = seen_there p k c.line c.own there stands in
      let is : is_candidate_at r.old r.new (xs r s) r.level (is_level r s) (module_question r.new r.level (is_level r s) p (name r s k) c.own) ≡ true =
      subst (λ l. is_candidate_at r.old r.new (xs r s) r.level (is_level r s) (module_question r.new r.level (is_level r s) p l c.own) ≡ true) t.0
      (subst (λ y. is_candidate_at r.old r.new (xs r s) r.level y (module_question r.new r.level y p c.line c.own) ≡ true) level_is c.is) in
      record { asks = record { own = c.own; is = t.1; rules = c.rules }; differs = differs p k c.own there t.1 c.rules is }

  pub is_candidate : (p k : ℕ) → slice_get (are r) p ≡ Some k → IsCandidateNode r k → IsCandidate r.old r.new r.limit r.level p
  is_candidate p k there c = record {
    line = name r s k;
    own = c.asks.own;
    stands = ap (λ y. slice_get y p) level_is ∙ stands_now p k c.asks.own there c.asks.is;
    rules = c.asks.rules;
    is = subst (λ y. is_candidate_at r.old r.new (xs r s) r.level y (module_question r.new r.level y p (name r s k) c.asks.own) ≡ true) (sym level_is)
        (asks p k c.asks.own there c.asks.is c.differs);
  }

pub candidates_are : (r : Repair) → SteppingSpots r → (p k : ℕ) → slice_get (are r) p ≡ Some k → IsCandidate r.old r.new r.limit r.level p ↔ IsCandidateNode r k
candidates_are r s p k there = (candidate r s p k there, is_candidate r s p k there)
