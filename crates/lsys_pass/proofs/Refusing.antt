-- The leftmost fault that was noted on a level tells why its system has no levels.
use Rattle.std.proofs.Common.{◌≡◌, ◌+◌, ◌<◌, ◌^◌, ℕ, zero, suc, Bool, true, false, List, [], ◌∷◌, ◌++◌, length, map, Option, Some, None, Ok, Err, refl, sym, ap, ◌∙◌, subst, inl, inr, arith, slice_get, cond}
use Rattle.std.specs.Prelude.{IsSome, nat_eq, option_map, MatchOption}
use Rattle.std.proofs.lemmas.Bool.Decides.{nat_tests}
use Rattle.std.proofs.lemmas.Option.{none-some, same_Some, slice_get-map, slice_get_within}
use Rattle.lsys_spec.specs.Rows.{In}
use Rattle.lsys_spec.specs.Levels.{LevelSymbol, Module}
use Rattle.lsys_spec.specs.Meaning.{FaultAt, next_level, successor, replacement}
use Rattle.lsys_rewrite.specs.Faults.{fault_of}
use Rattle.lsys_rewrite.specs.declared.refusal.FaultKind.{FaultKind}
use Rattle.lsys_rewrite.specs.declared.refusal.DeriveRefusal.{DeriveRefusal}
use Rattle.lsys_rewrite.specs.declared.refusal.DeriveRefusal.TheVariants.{Fault, Limit, Memory}
use Rattle.lsys_laws.proofs.UpTo.{level_count}
use Rattle.lsys_level.specs.Spots.{Seen, Spotted, spots_at, level_by, named}
use Rattle.lsys_level.specs.Spots as S
use Rattle.lsys_forest.specs.Nodes.{Nodes}
use Rattle.lsys_forest.specs.Groves.{changes_in}
use Rattle.lsys_forest.specs.Rows.{spot_in, level_nodes, level_spots, complete_levels, place_of_node}
use Rattle.lsys_forest.proofs.RowLemmas.{level_apart, level_depth}
use Rattle.lsys_forest.proofs.DepthLemmas.{fits}
use Rattle.lsys_forest.proofs.StockLemmas.{stored_of}
use Rattle.lsys_forest.proofs.ViewLemmas.{are_told, told_is}
use Rattle.lsys_forest.proofs.WalkLemmas.{get_In}
use Rattle.lsys_children.specs.Children.{bracket_kind}
use Rattle.lsys_reads.specs.Levels.{AnsweredAt, level_of}
use Rattle.lsys_reads.specs.Meant.{meant_to, level_to}
use Rattle.lsys_children.specs.Nexts.{node_symbol, count_kind, module_nodes, HasFirstFault}
use Rattle.lsys_children.specs.Answers.{kept_successors}
use Rattle.lsys_children.proofs.Nexts.{level_symbols, last_there}
use Rattle.lsys_children.proofs.Replaced.{replaced}
use Rattle.lsys_children.proofs.Refused.{fault_level}
use Rattle.lsys_pass.specs.declared.fault.Faulted.{Faulted}
use Rattle.lsys_pass.specs.declared.state.PassState.TheVariants.{Level}
use Rattle.lsys_pass.specs.Leftmost.{AreOnLevel, IsFirstAt, IsLeftmostFault, is_one, modules_before}
use Rattle.lsys_pass.specs.Stages.{Stage, fault_in, IsNoted, HasFault, OutcomeBy, IsAtLevel}
use Rattle.lsys_pass.specs.Passes.{PassView, stage_of, now_in, IsPass}
use Rattle.lsys_pass.specs.Refusals.{IsFaultOn}
use Rattle.lsys_pass.proofs.Needed.{level_is_meant}
use Rattle.lsys_pass.proofs.Asking.{Stands, stands, there_at, at, sound_now, balanced_now}
use Rattle.lsys_pass.proofs.Outcomes.{one_place}

-- 1. lists

-- a fault of a node is among those that were noted
fault_found : (k : ℕ) (fs : List Faulted) (kind : FaultKind) → fault_in k fs ≡ Some kind → (i : ℕ) × (f : Faulted) × (slice_get fs i ≡ Some f) × (k ≡ f.node)
fault_found k [] kind h = absurd (none-some kind h)
fault_found k (x ∷ fs) kind h = by (nat_eq k x.node) refl (λ g. fault_found k fs kind g) h
  where
    by : (b : Bool) → nat_eq k x.node ≡ b → (fault_in k fs ≡ Some kind → (i : ℕ) × (f : Faulted) × (slice_get fs i ≡ Some f) × (k ≡ f.node)) → cond b (Some x.kind) (fault_in k fs) ≡ Some kind
        → (i : ℕ) × (f : Faulted) × (slice_get (x ∷ fs) i ≡ Some f) × (k ≡ f.node)
    by true e later g = let same : k ≡ x.node = grind (arith, nat_tests) in (0, x, refl, same)
    by false e later g = let r = later g in (suc r.0, r.1, r.2, r.3)

get_left : (xs ys : List ℕ) (i k : ℕ) → slice_get xs i ≡ Some k → slice_get (xs ++ ys) i ≡ Some k
get_left [] ys i k h = absurd (none-some k h)
get_left (x ∷ xs) ys zero k h = h
get_left (x ∷ xs) ys (suc i) k h = get_left xs ys i k h

length_map : {A B : Type 0} (f : A → B) (xs : List A) → length (map f xs) ≡ length xs
length_map f [] = refl
length_map f (x ∷ xs) = ap suc (length_map f xs)

-- 2. the number of a module, by nodes

module _ {A : Type 0} (m : Nodes A) where
  one_more : (x : Seen) (n : ℕ) → is_one x + n ≡ count_kind (bracket_kind x) n
  one_more S.Push n = omega arith
  one_more S.Pop n = omega arith
  one_more (S.Module v) n = omega arith

  pub before_are : (before : List ℕ) (k : ℕ) (after : List ℕ) → modules_before (map (λ j. spot_in j (m j)) (before ++ k ∷ after)) (length before) ≡ module_nodes m before
  before_are [] k after = refl
  before_are (j ∷ before) k after = ap (λ n. is_one (spot_in j (m j)).seen + n) (before_are before k after) ∙ one_more (spot_in j (m j)).seen (module_nodes m before)

-- 3. the leftmost fault

module _ (v : PassView) (t : ℕ) (h : IsPass v) (state : v.state ≡ Level t) where
  abbrev s : Stage
  s = stage_of v

  abbrev row : List ℕ
  row = level_nodes (now_in v) v.forest.root t

  a : IsAtLevel s t
  a = at v t h state

  stands_at : (k : ℕ) → In k row → Stands v.forest t k
  stands_at k i = stands v.forest t k (sound_now v t h state) a.tree.small (balanced_now v t h state) i

  stands_noted : (i : ℕ) (f : Faulted) → slice_get v.faults i ≡ Some f → Stands v.forest t f.node
  stands_noted i f e = let n = a.answers.noted i f e in stands_at f.node (get_In row n.place f.node n.there)

  pub on_level : AreOnLevel v.forest t v.faults
  on_level = record {
    spots = λ i f e. (stands_noted i f e).at_spot;
    levels = λ i f e. (stands_noted i f e).level_is;
  }

  -- the level, as the forest tells it, has no more symbols than nodes live
  pub few_symbols : length (spots_at (complete_levels v.forest) t) < 2 ^ 32
  few_symbols =
      let told = ap (length {A = Spotted}) (told_is v.forest t (are_told v.forest t a.tree.small (balanced_now v t h state))) in
      let long = length_map (λ k. spot_in k (now_in v k)) row in
      let most = fits row v.forest.stock.slots (level_apart v.forest.root (changes_in v.forest) (now_in v) (sound_now v t h state) t)
      (λ k i.
      let n = level_depth v.forest.root (changes_in v.forest) (now_in v) (sound_now v t h state) t k i in
      let s = stored_of v.forest.stock.slots v.forest.stock.params v.forest.stock.kids k n.0 n.1 in
      subst IsSome (sym s.1) refl) in
      let few = h.few in
      omega (arith, told, long, most, few)

  place_is : (k p : ℕ) → Stands v.forest t k → slice_get row p ≡ Some k → place_of_node v.forest k ≡ p
  place_is k p st e = one_place row (place_of_node v.forest k) p k (level_apart v.forest.root (changes_in v.forest) (now_in v) (sound_now v t h state) t) (there_at v.forest t k st) e

  count_is : t < length (meant_to v.next v.limit t)
  count_is = let c = level_count v.next v.limit t (meant_to v.next v.limit t) a.tree.spelled a.tree.is in omega (arith, c)

  -- where nothing is pending, a node that has no fault is replaced by its answer
  module _ (none : v.pending ≡ []) where
    outcome_at : (p k : ℕ) → slice_get row p ≡ Some k → OutcomeBy (fault_in k v.faults) (AnsweredAt v.next t (now_in v) v.forest.root v.store p k) (HasFault v.next t (level_to v.next v.limit t) p)
    outcome_at p k e = elim (a.answers.here p k e) [
      | inl o ↦ absurd (subst (In k) none o.pending)
      | inr d ↦ d.outcome
    ]

    replaced_at : (p k : ℕ) → slice_get row p ≡ Some k → fault_in k v.faults ≡ None → replacement v.next t (level_of (now_in v) v.forest.root t) p (node_symbol (now_in v) k) ≡ Ok (kept_successors (now_in v) k)
    replaced_at p k e f =
        replaced v.next t (now_in v) v.forest.root v.store p k (λ x g. a.tree.levels.keys t p x count_is g)
        (subst (λ o. OutcomeBy o (AnsweredAt v.next t (now_in v) v.forest.root v.store p k) (HasFault v.next t (level_to v.next v.limit t) p)) f (outcome_at p k e)) e

    faulty_at : (p k : ℕ) (kind : FaultKind) (n : IsNoted v.faults row (level_of (now_in v) v.forest.root t) (record { node = k; kind = kind })) → n.place ≡ p
        → replacement v.next t (level_of (now_in v) v.forest.root t) p (node_symbol (now_in v) k) ≡ Err (fault_of kind)
    faulty_at p k kind n e =
        let there : slice_get row p ≡ Some k = ap (slice_get row) (sym e) ∙ n.there in
        let own : slice_get (level_of (now_in v) v.forest.root t) p ≡ Some (Module n.line n.own) = ap (slice_get (level_of (now_in v) v.forest.root t)) (sym e) ∙ n.stands in
        let symbols : slice_get (level_of (now_in v) v.forest.root t) p ≡ Some (node_symbol (now_in v) k) = ap (λ (y : List LevelSymbol). slice_get y p) (level_symbols (now_in v) row) ∙ slice_get-map (node_symbol (now_in v)) row p ∙ ap (option_map (node_symbol (now_in v))) there in
        let is : node_symbol (now_in v) k ≡ Module n.line n.own = same_Some _ _ (sym symbols ∙ own) in
        let meant_is = level_is_meant s t a.tree in
        let out : HasFault v.next t (level_to v.next v.limit t) p kind = subst (λ o. OutcomeBy o (AnsweredAt v.next t (now_in v) v.forest.root v.store p k) (HasFault v.next t (level_to v.next v.limit t) p)) n.is (outcome_at p k there) in
        ap (replacement v.next t (level_of (now_in v) v.forest.root t) p) is
        ∙ ap (λ (y : List LevelSymbol). successor v.next t y p n.line n.own) meant_is
        ∙ out n.line n.own (ap (λ (y : List LevelSymbol). slice_get y p) (sym meant_is) ∙ own)

    module _ (kind : FaultKind) (u n : ℕ) (f : IsFirstAt v.forest t v.faults kind u n) where
      noted : IsNoted v.faults row (level_of (now_in v) v.forest.root t) f.first
      noted = a.answers.noted f.is.place f.first f.is.among

      st : Stands v.forest t f.first.node
      st = stands_noted f.is.place f.first f.is.among

      first_place : noted.place ≡ length st.before
      first_place = sym (place_is f.first.node noted.place st noted.there) ∙ st.place_is

      -- those before it have no fault
      faultless : (p k : ℕ) (o : Option FaultKind) → slice_get st.before p ≡ Some k → fault_in k v.faults ≡ o → o ≡ None
      faultless p k None e g = refl
      faultless p k (Some other) e g =
          let w = fault_found k v.faults other g in
          let there : slice_get row p ≡ Some k = ap (λ (l : List ℕ). slice_get l p) st.whole ∙ get_left st.before (f.first.node ∷ st.after) p k e in
          let later = f.is.first w.0 w.1 w.2 in
          let place = place_is w.1.node p (stands_noted w.0 w.1 w.2) (there ∙ ap Some w.3) in
          let less = slice_get_within st.before p k e in
          let own = st.place_is in
          absurd (omega (arith, later, place, less, own))

      first_fault : HasFirstFault v.next v.limit t (now_in v) v.forest.root (kept_successors (now_in v)) st.before f.first.node st.after (fault_of f.first.kind)
      first_fault = record {
        spelled = a.tree.spelled;
        is = a.tree.is;
        levels = a.tree.levels;
        level = st.whole;
        replaced = λ p k e.
            replaced_at p k (ap (λ (l : List ℕ). slice_get l p) st.whole ∙ get_left st.before (f.first.node ∷ st.after) p k e) (faultless p k (fault_in k v.faults) e refl);
        faulty = faulty_at (length st.before) f.first.node f.first.kind noted first_place;
      }

      number_is : n ≡ module_nodes (now_in v) st.before + 1
      number_is =
          f.number
          ∙ ap (λ (x : List Spotted). modules_before x (place_of_node v.forest f.first.node) + 1) st.told
          ∙ ap (λ p. modules_before (level_spots (now_in v) v.forest.root t) p + 1) st.place_is
          ∙ ap (λ (l : List ℕ). modules_before (map (λ j. spot_in j (now_in v j)) l) (length st.before) + 1) st.whole
          ∙ ap (λ i. i + 1) (before_are (now_in v) st.before f.first.node st.after)

      pub refuses : next_level v.next t (level_to v.next v.limit t) ≡ Err (FaultAt (fault_of kind) u n)
      refuses =
          ap (next_level v.next t) (sym (last_there (meant_to v.next v.limit t) t (level_count v.next v.limit t (meant_to v.next v.limit t) a.tree.spelled a.tree.is)))
          ∙ fault_level v.next v.limit t (now_in v) v.forest.root (kept_successors (now_in v)) st.before f.first.node st.after (fault_of f.first.kind) first_fault
          ∙ ap (λ i. Err (FaultAt (fault_of f.first.kind) t i)) (sym number_is)
          ∙ ap (λ k. Err (FaultAt (fault_of k) t n)) (sym f.kind_is)
          ∙ ap (λ w. Err (FaultAt (fault_of kind) w n)) (sym f.level)

    pub refuses_by : (r : DeriveRefusal) → IsLeftmostFault v.forest t v.faults r → IsFaultOn v.next v.limit t r
    refuses_by (Fault kind u n) f = refuses kind u n f
    refuses_by (Limit u) f = f
    refuses_by Memory f = f

    pub refuses_if : (o : Option DeriveRefusal) → MatchOption o (v.faults ≡ []) (IsLeftmostFault v.forest t v.faults) → MatchOption o (v.faults ≡ []) (IsFaultOn v.next v.limit t)
    refuses_if None e = e
    refuses_if (Some r) f = refuses_by r f
