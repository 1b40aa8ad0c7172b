-- Who may have to be asked on a level that was made.
use Rattle.std.proofs.Common.{◌≡◌, ◌<◌, ◌+◌, ◌^◌, ℕ, true, List, [], ◌∷◌, ◌++◌, length, Some, refl, sym, ap, ◌∙◌, subst, inl, inr, arith}
use Rattle.std.specs.Prelude.{◌↔◌, option_map, slice_get}
use Rattle.std.proofs.lemmas.Bool.{cases_lt}
use Rattle.std.proofs.lemmas.Option.{same_Some}
use Rattle.lsys_spec.specs.Rows.{In}
use Rattle.lsys_spec.specs.Bodies.{Body, group}
use Rattle.lsys_spec.specs.Levels.{ModuleValue}
use Rattle.lsys_spec.specs.Equalities.{same_all, same_body}
use Rattle.lsys_spec.proofs.Tests.{both}
use Rattle.lsys_level.specs.Spots.{Module}
use Rattle.lsys_laws.specs.Nodes.{Kin}
use Rattle.lsys_laws.specs.Groups.{has_same_rules}
use Rattle.lsys_match.specs.Kept.{Kept}
use Rattle.lsys_forest.specs.Nodes.{Node}
use Rattle.lsys_forest.specs.Groves.{Grove, IsLive, IsRooted, changes_in}
use Rattle.lsys_forest.specs.Rows.{complete_levels, level_nodes, place_of_node}
use Rattle.lsys_forest.proofs.RowLemmas.{In_append, In_left, In_right, level_depth}
use Rattle.lsys_forest.proofs.SoundLemmas.{AreSound-now, AreSound-then}
use Rattle.lsys_reads.specs.Lineages.{kin_of, names}
use Rattle.lsys_reads.specs.Levels.{answer_at}
use Rattle.lsys_reads.specs.Neighbours.{level_around}
use Rattle.lsys_reads.specs.Seats.{HasSeat}
use Rattle.lsys_forest.specs.Pairs.{seen_at}
use Rattle.lsys_reads.proofs.LevelLemmas.{got_in, place_in}
use Rattle.lsys_children.proofs.Depths.{on_level}
use Rattle.lsys_front.specs.Repairs.{were}
use Rattle.lsys_front.specs.Candidates.{AsksOn}
use Rattle.lsys_front.specs.Finds.{IsBeside}
use Rattle.lsys_front.specs.Found.{IsOther, IsAmong, SteppingNodes, AreAnswersRight}
use Rattle.lsys_front.specs.Others.{RulesOf, are_alike, IsOtherwise}
use Rattle.lsys_front.proofs.Alike.{alike_is}
use Rattle.lsys_front.proofs.Gathering.{marked_or_not}
use Rattle.lsys_front.proofs.Nodes.{has_asked}
use Rattle.lsys_front.proofs.Readers.{reader_there}
use Rattle.lsys_front.proofs.Spots.{is_in}
use Rattle.lsys_front.specs.Asks.{MayBeAsked}
use Rattle.lsys_front.proofs.Rooms.{before_in, complete_now}
use Rattle.lsys_front.proofs.Standing.{at_level, live_at}
use Rattle.lsys_pass.specs.Stages.{Rests}
use Rattle.lsys_pass.specs.Passes.{PassView, stage_of, repair_of, IsPass}
use Rattle.lsys_pass.specs.Passes as P
use Rattle.lsys_pass.specs.Fresh.{row_of, HasFound}
use Rattle.lsys_pass.specs.Others.{rules_on_level, AreUnlike, IsOthers, ListsOthers}
use Rattle.lsys_pass.proofs.Before.{answer_lives, placed, is_below}

-- 1. the nodes with other rules

-- all nodes of a level of a pass live
pub row_lives : (v : PassView) (t : ℕ) → IsPass v → (k : ℕ) → In k (row_of v t) → IsLive v.forest k
row_lives v t h k i = live_at v.forest t k (AreSound-now v.forest.root (changes_in v.forest) (P.now_in v) h.stored.sound) i

pub others_some : (v : PassView) (t : ℕ) (rules : RulesOf) (others : List ℕ) → t < v.system.depth → rules ≡ rules_on_level v t → AreUnlike rules v.forest t others → IsOthers v t others
others_some v t rules others l same a = record {
  all = λ m. absurd (omega (arith, l, m));
  unlike = λ m k. subst (λ (r : RulesOf). In k others ↔ (In k (row_of v t) × IsOtherwise r (P.now_in v) k)) same (a k);
}

-- a list that was begun empty tells them
pub unlike_listed : {A : Type 0} (r : RulesOf) (f : Grove A) (t : ℕ) (others : List ℕ) → ListsOthers r f t others → AreUnlike r f t others
unlike_listed r f t others a k = (λ i. (a.are k).0 (subst (In k) a.is i), λ u. subst (In k) (sym a.is) ((a.are k).1 u))

-- where the bodies of rules are the same, there are rules where there were
rules_stay : (xs ys : List Body) → same_all same_body xs ys ≡ true → (xs ≡ [] → ⊥) → ys ≡ [] → ⊥
rules_stay [] ys same some none = some refl
rules_stay (x ∷ xs) [] same some none = cc
rules_stay (x ∷ xs) (y ∷ ys) same some none = cc

-- 2. who was found

module _ (v : PassView) (t : ℕ) (h : IsPass v) (beside readers : List ℕ) (f : HasFound v t beside readers) where
  rests : Rests (stage_of v)
  rests = f.rest

  pub sound_now : IsRooted v.forest.root (changes_in v.forest) (P.now_in v)
  sound_now = AreSound-now v.forest.root (changes_in v.forest) (P.now_in v) h.stored.sound

  pub sound_was : IsRooted v.forest.root [] (P.rest_in v)
  sound_was = AreSound-then v.forest.root (changes_in v.forest) (P.now_in v) h.stored.sound

  pub is_complete : t < 2 ^ 32 → t < length (complete_levels v.forest)
  is_complete small = complete_now (repair_of v t) f.made.spots small

  pub row_seats : (k : ℕ) → In k (row_of v t) → HasSeat v.seats k
  row_seats k i = let d = level_depth v.forest.root (changes_in v.forest) (P.now_in v) sound_now t k i in f.made.room k d.0 d.1

  pub answers_right : AreAnswersRight (repair_of v t)
  answers_right = record {
    sound = h.stored.sound;
    kept = λ k a e. (
        let n = answer_lives (P.rest_in v) k a e in
        let p = placed v.system v.limit (P.rest_in v) v.forest.root v.store v.reads v.seats rests k n.0 a n.1 e in
        record {
          level = p.level;
          place = p.place;
          there = p.there;
          answered = rests.answered p.level p.place k (is_below v.system v.limit (P.rest_in v) v.forest.root v.store v.reads v.seats rests p.level k a p.on e) p.there;
        }
        );
  }

  -- a node of the level that keeps an answer was on it, where there were questions
  pub record WasOn (k : ℕ) : Type 0 where
    pub on : In k (were (repair_of v t))
    pub below : t < v.system.depth

  pub answer_was_on : (k : ℕ) (a : Kept) → In k (row_of v t) → answer_at (P.rest_in v) k ≡ Some a → WasOn k
  answer_was_on k a i e =
      let n = answer_lives (P.rest_in v) k a e in
      let d = level_depth v.forest.root (changes_in v.forest) (P.now_in v) sound_now t k i in
      let deep : n.0.depth ≡ d.0.depth = ap (λ (z : Kin). z.depth) (same_Some (kin_of n.0) (kin_of d.0) (sym (f.made.spots.stay k (kin_of n.0) (ap (option_map (λ (y : Node Kept). kin_of y)) n.1)) ∙ ap (option_map (λ (y : Node Kept). kin_of y)) d.1)) in
      let on : In k (were (repair_of v t)) = on_level v.forest.root (P.rest_in v) sound_was t k n.0 n.1 (deep ∙ d.2) in
      record { on = on; below = is_below v.system v.limit (P.rest_in v) v.forest.root v.store v.reads v.seats rests t k a on e }

  -- those beside a node that changed
  around_row : (j k : ℕ) → In j (row_of v t) → In k (level_around v.forest j) → In k (row_of v t)
  around_row j k i around = subst (λ u. In k (level_nodes (P.now_in v) v.forest.root u)) (at_level v.forest t j sound_now i) around

  beside_row : (k : ℕ) → IsBeside v.forest v.front.changes.changed k → In k (row_of v t)
  beside_row k b =
      let i = ((f.front.differs.changed b.node).0 b.among).0 in
      elim b.near [
        | inl e ↦ subst (λ j. In j (row_of v t)) (sym e) i
        | inr (inl e) ↦ around_row b.node k i (before_in (level_around v.forest b.node) (place_of_node v.forest b.node) k e)
        | inr (inr e) ↦ around_row b.node k i (got_in (level_around v.forest b.node) (place_of_node v.forest b.node + 1) k e)
      ]

  was_there : (k : ℕ) → In k (row_of v t) → (IsOther v.front.changes k → ⊥) → In k (were (repair_of v t))
  was_there k i away = elim (is_in k (were (repair_of v t))) [ inl w ↦ w | inr n ↦ absurd (away (inr ((f.front.differs.came k).1 (i, n)))) ]

  found_were : (k : ℕ) → In k (v.front.turned ++ (beside ++ v.front.changes.gone)) → In k (were (repair_of v t))
  found_were k i = elim (In_append v.front.turned (beside ++ v.front.changes.gone) k i) [
    | inl r ↦ was_there k (f.front.turned_are k r) ((f.found.turned_are k).0 r).1
    | inr o ↦ elim (In_append beside v.front.changes.gone k o) [
      | inl b ↦ (let u = (f.found.beside_are k).0 b in was_there k (beside_row k u.0) (λ e. u.1 (inl e)))
      | inr g ↦ ((f.front.differs.gone k).0 g).0
    ]
  ]

  reader_row : (k : ℕ) → In k readers → In k (row_of v t)
  reader_row k i =
      let u = (f.found.readers_are k).0 i in
      let w = reader_there (repair_of v t) answers_right k u.0.node ((rests.read refl k u.0.node).0 u.0.read) (found_were u.0.node u.0.among) in
      elim (is_in k (row_of v t)) [ inl on ↦ on | inr n ↦ absurd (u.1 (inl (inl ((f.front.differs.gone k).1 (w, n))))) ]

  among_row : (k : ℕ) → IsAmong v.front.changes v.front.turned beside readers k → In k (row_of v t)
  among_row k (inl g) = ((f.front.differs.came k).0 g).0
  among_row k (inr (inl r)) = f.front.turned_are k r
  among_row k (inr (inr (inl b))) = beside_row k ((f.found.beside_are k).0 b).0
  among_row k (inr (inr (inr u))) = reader_row k u

  module _ (others : List ℕ) (o : IsOthers v t others) where
    others_row : (k : ℕ) → In k others → In k (row_of v t)
    others_row k i = elim (cases_lt t v.system.depth) [
      | inl l ↦ ((o.unlike l k).0 i).0
      | inr m ↦ subst (In k) (o.all m) i
    ]

    -- all are of the level
    pub may_row : (k : ℕ) → MayBeAsked v.front beside readers others k → In k (row_of v t)
    may_row k (inl i) = others_row k i
    may_row k (inr u) = among_row k u

    pub lost_row : (k : ℕ) → In k (v.front.changes.changed ++ others) → In k (row_of v t)
    lost_row k i = elim (In_append v.front.changes.changed others k i) [
      | inl c ↦ ((f.front.differs.changed k).0 c).0
      | inr j ↦ others_row k j
    ]

    -- where there were questions, it is known who may be a candidate
    module _ (below : t < v.system.depth) where
      same_test : (k : ℕ) (m : ModuleValue) → has_same_rules v.system v.next t (names (P.now_in v) k) m ≡ are_alike v.system v.next t m.name (length m.params)
      same_test k m = alike_is v.system v.next t (names (P.now_in v) k) m f.made.spots.old_spelled.small_seed f.made.spots.new_spelled.small_seed

      pub stepping_nodes : SteppingNodes (repair_of v t) v.seats v.reads v.front.changes others
      stepping_nodes = record {
        spots = f.made.spots;
        below = below;
        differs = f.front.differs;
        looked = f.looks.looked;
        looked_are = f.looks.looked_are;
        seated = λ p k e. rests.seated t p k e;
        read = rests.read refl;
        readers = λ reader seen read on. reader_there (repair_of v t) answers_right reader seen read on;
        rules = λ k m i seen. elim (marked_or_not (are_alike v.system v.next t m.name (length m.params))) [
          | inl e ↦ inr (same_test k m ∙ e)
          | inr e ↦ inl ((o.unlike below k).1 (i, record { own = m; is = seen; rules = e }))
        ];
        others_are = λ k i. (let u = (o.unlike below k).0 i in (u.0, record { own = u.1.own; is = u.1.is; rules = same_test k u.1.own ∙ u.1.rules }));
      }

    -- a node of the level that keeps an answer without a question changed, or has other rules
    pub must_lose : (k : ℕ) (a : Kept) → In k (row_of v t) → (AsksOn v.next t (P.now_in v) k → ⊥) → answer_at (P.now_in v) k ≡ Some a → In k (v.front.changes.changed ++ others)
    must_lose k a i none e = elim (is_in k (v.front.changes.changed ++ others)) [
      | inl there ↦ there
      | inr out ↦ absurd (out (In_left k v.front.changes.changed others ((f.front.differs.changed k).1 (i, w.on, λ same. out (In_right k v.front.changes.changed others ((o.unlike w.below k).1 (i, other same)))))))
    ]
      where
        was : answer_at (P.rest_in v) k ≡ Some a
        was = sym (f.made.answers k i) ∙ e

        w : WasOn k
        w = answer_was_on k a i was

        p : (p : ℕ) × (slice_get (were (repair_of v t)) p ≡ Some k)
        p = place_in k (were (repair_of v t)) w.on

        q : (m : ModuleValue) × (seen_at (P.rest_in v) k ≡ Module m) × (group v.system t m.name (length m.params) ≡ [] → ⊥)
        q = has_asked (repair_of v t) f.made.spots w.below p.0 k a p.1 was

        other : seen_at (P.now_in v) k ≡ seen_at (P.rest_in v) k → IsOtherwise (rules_on_level v t) (P.now_in v) k
        other same = record {
          own = q.0;
          is = same ∙ q.1;
          rules = elim (marked_or_not (are_alike v.system v.next t q.0.name (length q.0.params))) [
            | inl e ↦ absurd (none (record { own = q.0; is = same ∙ q.1; rules = rules_stay (group v.system t q.0.name (length q.0.params)) (group v.next t q.0.name (length q.0.params)) (both _ _ e).0 q.2 }))
            | inr e ↦ e
          ];
        }
