-- The node that a step asks, in a forest with room for its answer.
use Rattle.std.proofs.Common.{◌≡◌, ◌≢◌, ◌<◌, ◌^◌, ℕ, zero, suc, Bool, true, false, List, [], ◌∷◌, ◌++◌, length, Option, Some, None, refl, sym, ap, ◌∙◌, subst, inl, inr, arith, slice_get}
use Rattle.std.specs.Prelude.{IsSome, is_some, is_none, not, option_map}
use Rattle.std.specs.List.{remove}
use Rattle.std.proofs.lemmas.Option.{none-some, same_Some}
use Rattle.lsys_spec.specs.Rows.{In, AreApart}
use Rattle.lsys_spec.specs.Systems.{System}
use Rattle.lsys_spec.specs.Levels.{level_balanced}
use Rattle.lsys_laws.proofs.UpTo.{level_count}
use Rattle.lsys_level.specs.Spots.{Spotted, IsSpot, spots_at, level_by}
use Rattle.lsys_match.specs.Kept.{Kept}
use Rattle.lsys_match.specs.Asking.{HasQuestion}
use Rattle.lsys_match.specs.Asks.{IsMadeIfAny}
use Rattle.lsys_forest.specs.Nodes.{Node, Nodes}
use Rattle.lsys_forest.specs.Changes.{Change}
use Rattle.lsys_forest.specs.Answers.{AtNode}
use Rattle.lsys_forest.specs.Groves.{Grove, IsLive, IsRooted, now_of, changes_in}
use Rattle.lsys_forest.specs.Rows.{index_in, level_nodes, level_spots, complete_levels, level_of_node, place_of_node, IsAtSpot, AreBalancedTo}
use Rattle.lsys_forest.proofs.RowLemmas.{In_split, get_split, same_sides, level_depth, level_apart}
use Rattle.lsys_forest.proofs.SoundLemmas.{AreSound-now, AreSound-then}
use Rattle.lsys_forest.proofs.ViewLemmas.{is_spot, are_told, told_is}
use Rattle.lsys_forest.proofs.WalkLemmas.{get_In}
use Rattle.lsys_reads.proofs.LevelLemmas.{index_cases}
use Rattle.lsys_reads.specs.Levels.{answer_at}
use Rattle.lsys_reads.specs.Meant.{meant_to}
use Rattle.lsys_front.specs.Questioned.{AreSome}
use Rattle.lsys_pass.specs.declared.state.PassState.TheVariants.{Level}
use Rattle.lsys_pass.specs.Places.{AreInOrderOnLevel}
use Rattle.lsys_pass.specs.Stages.{IsAtLevel}
use Rattle.lsys_pass.specs.Passes.{PassView, stage_of, now_in, HoldsAt, IsPass}
use Rattle.lsys_pass.proofs.Stores.{AllMade}
use Rattle.lsys_pass.proofs.Stepping.{IsNext, some_in}
use Rattle.lsys_pass.proofs.Needed.{IsHere, here}

-- 1. places on a level

index_apart : (k x : ℕ) (xs : List ℕ) → k ≢ x → index_in k (x ∷ xs) ≡ suc (index_in k xs)
index_apart k x xs ne = elim (index_cases k x xs) [ inl e ↦ absurd (ne e.0) | inr e ↦ e.1 ]

index_first : (k x : ℕ) (xs : List ℕ) → k ≡ x → index_in k (x ∷ xs) ≡ 0
index_first k x xs e = elim (index_cases k x xs) [ inl f ↦ f.1 | inr f ↦ absurd (f.0 e) ]

-- some of a level, in order, rise there
some_rise : (js ks : List ℕ) → AreSome js ks → AreApart ks → (p q j k : ℕ) → p < q → slice_get js p ≡ Some j → slice_get js q ≡ Some k → index_in j ks < index_in k ks
some_rise [] ks h apart p q j k l e f = absurd (none-some j e)
some_rise (i ∷ js) [] h apart p q j k l e f = absurd h
some_rise (i ∷ js) (x ∷ ks) (inl h) apart zero zero j k l e f = absurd (omega (arith, l))
some_rise (i ∷ js) (x ∷ ks) (inl h) apart zero (suc q) j k l e f =
    let first : j ≡ x = sym (same_Some i j e) ∙ h.0 in
    let later : In k ks = some_in js ks h.1 k (get_In js q k f) in
    let ne : k ≢ x = λ g. apart.0 (subst (λ y. In y ks) g later) in
    let a = index_first j x ks first in
    let b = index_apart k x ks ne in
    omega (arith, a, b)
some_rise (i ∷ js) (x ∷ ks) (inl h) apart (suc p) zero j k l e f = absurd (omega (arith, l))
some_rise (i ∷ js) (x ∷ ks) (inl h) apart (suc p) (suc q) j k l e f =
    let r = some_rise js ks h.1 apart.1 p q j k (omega (arith, l)) e f in
    let one : In j ks = some_in js ks h.1 j (get_In js p j e) in
    let two : In k ks = some_in js ks h.1 k (get_In js q k f) in
    let a = index_apart j x ks (λ g. apart.0 (subst (λ y. In y ks) g one)) in
    let b = index_apart k x ks (λ g. apart.0 (subst (λ y. In y ks) g two)) in
    omega (arith, r, a, b)
some_rise (i ∷ js) (x ∷ ks) (inr h) apart p q j k l e f =
    let r = some_rise (i ∷ js) ks h apart.1 p q j k l e f in
    let one : In j ks = some_in (i ∷ js) ks h j (get_In (i ∷ js) p j e) in
    let two : In k ks = some_in (i ∷ js) ks h k (get_In (i ∷ js) q k f) in
    let a = index_apart j x ks (λ g. apart.0 (subst (λ y. In y ks) g one)) in
    let b = index_apart k x ks (λ g. apart.0 (subst (λ y. In y ks) g two)) in
    omega (arith, r, a, b)

-- a node of a complete level
pub record Stands (f : Grove Kept) (t k : ℕ) : Type 0 where
  pub before : List ℕ
  pub after : List ℕ
  pub whole : level_nodes (now_of f) f.root t ≡ before ++ k ∷ after
  pub level_is : level_of_node f k ≡ t
  pub place_is : place_of_node f k ≡ length before
  pub at_spot : IsAtSpot f k
  pub told : spots_at (complete_levels f) t ≡ level_spots (now_of f) f.root t

pub get_around : (before : List ℕ) (k : ℕ) (after : List ℕ) → slice_get (before ++ k ∷ after) (length before) ≡ Some k
get_around [] k after = refl
get_around (x ∷ before) k after = get_around before k after

pub there_at : (f : Grove Kept) (t k : ℕ) → (h : Stands f t k) → slice_get (level_nodes (now_of f) f.root t) (place_of_node f k) ≡ Some k
there_at f t k h = ap (slice_get (level_nodes (now_of f) f.root t)) h.place_is ∙ ap (λ (l : List ℕ). slice_get l (length h.before)) h.whole ∙ get_around h.before k h.after

pub stands : (f : Grove Kept) (t k : ℕ) → IsRooted f.root (changes_in f) (now_of f) → t < 2 ^ 32 → AreBalancedTo f t → In k (level_nodes (now_of f) f.root t) → Stands f t k
stands f t k sound small balanced among =
    let s = In_split k (level_nodes (now_of f) f.root t) among in
    let complete = are_told f t small balanced in
    let at = is_spot f t k s.0 s.1 sound complete s.2 in
    record {
      before = s.0;
      after = s.1;
      whole = s.2;
      level_is = at.level_is;
      place_is = at.place_is;
      at_spot = subst (λ u. IsSpot (complete_levels f) u (place_of_node f k)) (sym at.level_is) (subst (IsSpot (complete_levels f) t) (sym at.place_is) at.spot);
      told = told_is f t complete;
    }

remove_around : (b : List ℕ) (k : ℕ) (a : List ℕ) → remove (b ++ k ∷ a) (length b) ≡ b ++ a
remove_around [] k a = refl
remove_around (x ∷ b) k a = ap (λ (l : List ℕ). x ∷ l) (remove_around b k a)

removed : (ps : List ℕ) (front : List ℕ) (node : ℕ) (back : List ℕ) (place : ℕ) → AreApart ps → ps ≡ front ++ node ∷ back → slice_get ps place ≡ Some node → remove ps place ≡ front ++ back
removed ps front node back place apart whole here =
    let s = get_split ps place node here in
    let same = same_sides node s.before s.after front back (subst AreApart s.whole apart) (sym s.whole ∙ whole) in
    ap (λ (l : List ℕ). remove l place) s.whole ∙ ap (remove (s.before ++ node ∷ s.after)) (sym s.long) ∙ remove_around s.before node s.after
    ∙ ap (λ (l : List ℕ). l ++ s.after) same.0 ∙ ap (λ (l : List ℕ). front ++ l) same.1

pub here_among : (xs ys : List ℕ) (p k : ℕ) → slice_get xs p ≡ Some k → xs ≡ ys → slice_get ys p ≡ Some k
here_among xs ys p k here e = ap (λ (l : List ℕ). slice_get l p) (sym e) ∙ here

-- whether a node has no answer is told by what was read of it
pub born_is : {B : Type 0} (now_at : B → Kept) (o : Option B) (m m' : Nodes Kept) (node : ℕ) (b : Bool) → is_some o ≡ not b → option_map now_at o ≡ answer_at m' node → m' ≡ m → b ≡ is_none (answer_at m node)
born_is {B = B} now_at o m m' node b e f g = by o b e ∙ ap is_none f ∙ ap (λ (n : Nodes Kept). is_none (answer_at n node)) g
  where
    by : (o : Option B) (b : Bool) → is_some o ≡ not b → b ≡ is_none (option_map now_at o)
    by None true e = refl
    by None false e = cc
    by (Some x) true e = cc
    by (Some x) false e = refl

-- 2. the same forest, with more room

pub record IsSameForest (f g : Grove Kept) : Type 0 where
  pub now : now_of g ≡ now_of f
  pub changes : changes_in g ≡ changes_in f
  pub root : g.root ≡ f.root

module _ (f g : Grove Kept) (h : IsSameForest f g) where
  pub same_sound : IsRooted f.root (changes_in f) (now_of f) → IsRooted g.root (changes_in g) (now_of g)
  same_sound sound =
      subst (λ r. IsRooted r (changes_in g) (now_of g)) (sym h.root)
      (subst (λ (cs : List (Change Kept)). IsRooted f.root cs (now_of g)) (sym h.changes) (subst (λ (m : Nodes Kept). IsRooted f.root (changes_in f) m) (sym h.now) sound))

  pub same_nodes : (u : ℕ) → level_nodes (now_of g) g.root u ≡ level_nodes (now_of f) f.root u
  same_nodes u = ap (λ (m : Nodes Kept). level_nodes m g.root u) h.now ∙ ap (λ r. level_nodes (now_of f) r u) h.root

  pub same_spots : (u : ℕ) → level_spots (now_of g) g.root u ≡ level_spots (now_of f) f.root u
  same_spots u = ap (λ (m : Nodes Kept). level_spots m g.root u) h.now ∙ ap (λ r. level_spots (now_of f) r u) h.root

-- 3. the node

module _ (v : PassView) (t : ℕ) (h : IsPass v) (state : v.state ≡ Level t) where
  pub at : IsAtLevel (stage_of v) t
  at = subst (HoldsAt (stage_of v)) state h.holds

  pub sound_now : IsRooted v.forest.root (changes_in v.forest) (now_in v)
  sound_now = AreSound-now v.forest.root (changes_in v.forest) (now_in v) h.stored.sound

  pub balanced_now : AreBalancedTo v.forest t
  balanced_now u l = at.tree.levels.balanced u (let c = level_count v.next v.limit t (meant_to v.next v.limit t) at.tree.spelled at.tree.is in omega (arith, c, l))

  pub made_now : AllMade (now_in v) v.store
  made_now k a e = h.stored.made (AtNode k) a e

  -- a pending node, with those that are pending before and after it
  pub record IsAsked (node : ℕ) : Type 0 where
    pub n : Node Kept
    pub front : List ℕ
    pub back : List ℕ
    pub next : IsNext (stage_of v) t node n front back

  pub asked : (node : ℕ) → In node v.pending → IsAsked node
  asked node pending =
      let s = In_split node v.pending pending in
      let on = some_in v.pending (level_nodes (now_in v) v.forest.root t) at.answers.in_order node pending in
      let d = level_depth v.forest.root (changes_in v.forest) (now_in v) sound_now t node on in
      record {
        n = d.0;
        front = s.0;
        back = s.1;
        next = record {
          sound = sound_now;
          was_sound = AreSound-then v.forest.root (changes_in v.forest) (now_in v) h.stored.sound;
          at = at;
          is = d.1;
          whole = s.2;
        };
      }

  -- without the node at this place
  pub taken_off : (node : ℕ) → (pending : In node v.pending) → (place : ℕ) → slice_get v.pending place ≡ Some node → remove v.pending place ≡ (asked node pending).front ++ (asked node pending).back
  taken_off node pending place here = let a = asked node pending in removed v.pending a.front node a.back place at.answers.apart a.next.whole here

  module _ (g : Grove Kept) (same : IsSameForest v.forest g) where
    pub stands_now : (k : ℕ) → In k v.pending → Stands g t k
    stands_now k pending =
        stands g t k (same_sound v.forest g same sound_now) at.tree.small
        (λ u l. ap (λ (r : List Spotted). level_balanced 0 (level_by (λ tag. []) r)) (same_spots v.forest g same u) ∙ balanced_now u l)
        (subst (In k) (sym (same_nodes v.forest g same t)) (some_in v.pending (level_nodes (now_in v) v.forest.root t) at.answers.in_order k pending))

    -- where a node is among those of its level
    place_index : (k : ℕ) → In k v.pending → place_of_node g k ≡ index_in k (level_nodes (now_of g) g.root t)
    place_index k pending = ap (λ u. index_in k (level_nodes (now_of g) g.root u)) (stands_now k pending).level_is

    pub in_order : AreInOrderOnLevel g v.pending
    in_order = record {
      spots = λ k i. (stands_now k i).at_spot;
      level = λ j k i l. (stands_now j i).level_is ∙ sym (stands_now k l).level_is;
      rise = λ p q j k l e f.
          let one = get_In v.pending p j e in
          let two = get_In v.pending q k f in
          let some = subst (AreSome v.pending) (sym (same_nodes v.forest g same t)) at.answers.in_order in
          let apart = level_apart g.root (changes_in g) (now_of g) (same_sound v.forest g same sound_now) t in
          let r = some_rise v.pending (level_nodes (now_of g) g.root t) some apart p q j k l e f in
          let a = place_index j one in
          let b = place_index k two in
          omega (arith, r, a, b);
    }

    pub lives : (node : ℕ) → In node v.pending → IsLive g node
    lives node pending =
        let n = asked node pending in
        subst IsSome (sym (ap (λ (m : Nodes Kept). m node) same.now ∙ n.next.is)) refl

    -- its place, by the forest of now
    pub there_now : (node : ℕ) → In node v.pending → slice_get (level_nodes (now_in v) v.forest.root t) (place_of_node g node) ≡ Some node
    there_now node pending = ap (λ (l : List ℕ). slice_get l (place_of_node g node)) (sym (same_nodes v.forest g same t)) ∙ there_at g t node (stands_now node pending)

    pub row_is : (node : ℕ) → In node v.pending → spots_at (complete_levels g) t ≡ level_spots (now_in v) v.forest.root t
    row_is node pending = (stands_now node pending).told ∙ same_spots v.forest g same t

    pub here_now : (node : ℕ) → In node v.pending → IsHere (stage_of v) t node (place_of_node g node)
    here_now node pending = let n = asked node pending in here (stage_of v) t node n.n n.front n.back n.next (place_of_node g node) (there_now node pending)

    pub has_question : (node : ℕ) → In node v.pending → HasQuestion v.next t (spots_at (complete_levels g) t) (place_of_node g node)
    has_question node pending =
        let i = here_now node pending in
        record {
          here = record { tag = node; key = _; own = i.own; here = ap (λ (r : List Spotted). slice_get r (place_of_node g node)) (row_is node pending) ∙ i.spot };
          rules = i.rules;
        }

    pub has_question_by : (sys : System) → sys ≡ v.next → (node : ℕ) → In node v.pending → HasQuestion sys t (spots_at (complete_levels g) t) (place_of_node g node)
    has_question_by sys e node pending = subst (λ (z : System). HasQuestion z t (spots_at (complete_levels g) t) (place_of_node g node)) (sym e) (has_question node pending)

    pub made_if_any : (node : ℕ) (o : Option Kept) → o ≡ answer_at (now_of g) node → IsMadeIfAny v.store o
    made_if_any node None e = tt
    made_if_any node (Some a) e = made_now node a (sym (e ∙ ap (λ (m : Nodes Kept). answer_at m node) same.now))
