-- A question that is asked of a pending node: the old system answered it exactly where the node's answer is the same.
use Rattle.std.proofs.Common.{◌≡◌, ◌<◌, ℕ, zero, suc, Bool, true, false, List, [], ◌∷◌, length, map, Option, Some, None, refl, sym, ap, ◌∙◌, subst, inl, inr, arith, slice_get}
use Rattle.std.specs.Prelude.{option_map}
use Rattle.std.proofs.lemmas.Option.{none-some, same_Some, slice_get-map, slice_get-get_or}
use Rattle.lsys_spec.specs.Rows.{In}
use Rattle.lsys_spec.specs.Draws.{key_of}
use Rattle.lsys_spec.specs.Bodies.{Body, group}
use Rattle.lsys_spec.specs.Levels.{ModuleValue, LevelSymbol, Module, lineage}
use Rattle.lsys_spec.specs.Questions.{Question, questions, question_at, is_needed}
use Rattle.lsys_spec.proofs.Needs.{Derived, derived, IsAsked, all_asked, IsFound, found_asked}
use Rattle.lsys_laws.specs.Nodes.{Kin}
use Rattle.lsys_laws.specs.Passes.{module_question}
use Rattle.lsys_laws.proofs.Asked.{IsOld, not_needed}
use Rattle.lsys_laws.proofs.Faultless.{level_below}
use Rattle.lsys_laws.proofs.UpTo.{derived_to, level_count}
use Rattle.lsys_laws.proofs.KeptLineages.{apart, stays}
use Rattle.lsys_level.specs.Spots.{Seen, Spotted, with_lineage, named, level_by}
use Rattle.lsys_level.specs.Spots as S
use Rattle.lsys_level.specs.Tags.{StandsThere, NamesTell}
use Rattle.lsys_walks.specs.Stores.{Store}
use Rattle.lsys_match.specs.Kept.{Kept}
use Rattle.lsys_match.specs.Stored.{answer_in, question_in}
use Rattle.lsys_match.specs.Asks.{IsAnswer, IsNamedAt, by_definition}
use Rattle.lsys_match.specs.Recalled.{IsAnswerThere, asked_there}
use Rattle.lsys_match.proofs.Same.{same_answers}
use Rattle.lsys_forest.specs.Nodes.{Node, Nodes}
use Rattle.lsys_forest.specs.Rows.{spot_in, level_nodes, level_spots}
use Rattle.lsys_forest.proofs.RowLemmas.{level_depth}
use Rattle.lsys_forest.proofs.WalkLemmas.{get_In}
use Rattle.lsys_reads.specs.Lineages.{kin_of, kins, names}
use Rattle.lsys_reads.specs.Levels.{IsKeptFor, IsRight, IsAnsweredRight, level_of, answer_at}
use Rattle.lsys_reads.specs.Meant.{levels_meant, meant_to, level_to}
use Rattle.lsys_pass.specs.Stages.{Stage, was, HasTree}
use Rattle.lsys_pass.proofs.Before as before
use Rattle.lsys_pass.proofs.Before.{WasAnswered, was_answered, IsPlaced, placed, answer_lives, spot_at, found_same}
use Rattle.lsys_pass.proofs.Stepping.{IsNext, depth_is, is_open}

-- 1. the module that is asked about

pub record IsHere (s : Stage) (t node p : ℕ) : Type 0 where
  pub own : ModuleValue
  pub spot : slice_get (level_spots s.now s.root t) p ≡ Some (record { seen = S.Module own; tag = node; key = key_of s.next.seed (names s.now node) })
  pub stands : slice_get (level_of s.now s.root t) p ≡ Some (Module (names s.now node) own)
  pub rules : group s.next t own.name (length own.params) ≡ [] → ⊥

-- level t of the nodes is the new system's
pub level_is_meant : (s : Stage) (t : ℕ) → HasTree s.now (was s) s.root s.next s.limit t → level_of s.now s.root t ≡ level_to s.next s.limit t
level_is_meant s t h = h.levels.each t (let c = level_count s.next s.limit t (meant_to s.next s.limit t) h.spelled h.is in omega (arith, c))

pub record IsModule (l l' : List ℕ) (x : Seen) (v : ModuleValue) : Type 0 where
  pub seen : x ≡ S.Module v
  pub line : l ≡ l'

pub is_module : (l l' : List ℕ) (x : Seen) (v : ModuleValue) → with_lineage l x ≡ Module l' v → IsModule l l' x v
is_module l l' S.Push v e = cc
is_module l l' S.Pop v e = cc
is_module l l' (S.Module w) v e = let f : w ≡ v = cc in let g : l ≡ l' = cc in record { seen = ap (λ w. S.Module w) f; line = g }

map_back : {A B : Type 0} (f : A → B) (xs : List A) (p : ℕ) (y : B) → slice_get (map f xs) p ≡ Some y → (a : A) × (slice_get xs p ≡ Some a) × (f a ≡ y)
map_back f [] p y h = absurd (none-some y h)
map_back f (a ∷ xs) zero y h = (a, refl, same_Some (f a) y h)
map_back f (a ∷ xs) (suc p) y h = map_back f xs p y h

kept_some : (bs : List Body) (right : Kept → Type 0) (o : Option Kept) → IsKeptFor bs right o → (bs ≡ [] → ⊥) → (a : Kept) × (o ≡ Some a)
kept_some [] right o h rules = absurd (rules refl)
kept_some (b ∷ bs) right o h rules = (h.0, h.1)

module _ (s : Stage) (t node : ℕ) (n : Node Kept) (front back : List ℕ) (x : IsNext s t node n front back) where
  level_meant : level_of s.now s.root t ≡ level_to s.next s.limit t
  level_meant = level_is_meant s t x.at.tree

  pub here : (p : ℕ) → slice_get (level_nodes s.now s.root t) p ≡ Some node → IsHere s t node p
  here p there =
      let c = (is_open s t node n front back x p there).candidate in
      let at = spot_at s.now s.root t p node n there x.is in
      let is : slice_get (level_of s.now s.root t) p ≡ Some (with_lineage (names s.now node) n.seen) = slice_get-map (named (names s.now)) (level_spots s.now s.root t) p ∙ ap (option_map (named (names s.now))) at in
      let same : with_lineage (names s.now node) n.seen ≡ Module c.line c.own = same_Some _ _ (sym is ∙ ap (λ (y : List LevelSymbol). slice_get y p) level_meant ∙ c.stands) in
      let m = is_module (names s.now node) c.line n.seen c.own same in
      let key : n.key ≡ key_of s.next.seed (names s.now node) = x.at.tree.levels.keys t p (record { seen = n.seen; tag = node; key = n.key }) (let d = level_count s.next s.limit t (meant_to s.next s.limit t) x.at.tree.spelled x.at.tree.is in omega (arith, d)) at in
      record {
        own = c.own;
        spot = at ∙ ap (λ y. Some (record { seen = y; tag = node; key = n.key })) m.seen ∙ ap (λ k. Some (record { seen = S.Module c.own; tag = node; key = k })) key;
        stands = is ∙ ap (λ y. Some (with_lineage (names s.now node) y)) m.seen;
        rules = c.rules;
      }

  -- its question, by the definitions
  abbrev asked : (p : ℕ) → ModuleValue → Question
  asked p m = module_question s.next t (level_of s.now s.root t) p (names s.now node) m

  -- 2. the old level

  abbrev olds : List (List LevelSymbol)
  olds = levels_meant s.system s.limit

  -- a node of the old level has the lineage that it had
  old_names : (k : ℕ) → In k (level_nodes (was s) s.root t) → names s.now k ≡ names (was s) k
  old_names k h =
      let d = level_depth s.root [] (was s) x.was_sound t k h in
      stays (kins (was s)) (kins s.now) s.root k (kin_of d.0) x.at.rest.once x.at.tree.stay (ap (option_map kin_of) d.1)

  same_named : (ks : List ℕ) → ((k : ℕ) → In k ks → names s.now k ≡ names (was s) k)
      → level_by (names s.now) (map (λ k. spot_in k (was s k)) ks) ≡ level_by (names (was s)) (map (λ k. spot_in k (was s k)) ks)
  same_named [] h = refl
  same_named (k ∷ ks) h =
      let tag : (spot_in k (was s k)).tag ≡ k = by (was s k) in
      let one : named (names s.now) (spot_in k (was s k)) ≡ named (names (was s)) (spot_in k (was s k)) = ap (λ l. with_lineage l (spot_in k (was s k)).seen) (ap (names s.now) tag ∙ h k (inl refl) ∙ ap (names (was s)) (sym tag)) in
      ap (λ a. a ∷ level_by (names s.now) (map (λ k. spot_in k (was s k)) ks)) one
      ∙ ap (λ (l : List LevelSymbol). named (names (was s)) (spot_in k (was s k)) ∷ l) (same_named ks (λ j i. h j (inr i)))
    where
      by : (o : Option (Node Kept)) → (spot_in k o).tag ≡ k
      by None = refl
      by (Some m) = refl

  old_level : level_by (names s.now) (level_spots (was s) s.root t) ≡ level_of (was s) s.root t
  old_level = same_named (level_nodes (was s) s.root t) old_names

  -- where the old system has questions of level t, this is its level
  old_there : t < s.system.depth → slice_get olds t ≡ Some (level_of (was s) s.root t)
  old_there below =
      let c = level_count s.system s.limit s.system.depth olds x.at.rest.spelled x.at.rest.is in
      let l : t < length olds = omega (arith, c, below) in
      slice_get-get_or olds t [] l ∙ ap (λ y. Some y) (sym (x.at.rest.levels.each t l))

  -- 3. a node with an old answer

  pub is_old : (a : Kept) → answer_at s.now node ≡ Some a → (p : ℕ) → slice_get (level_nodes s.now s.root t) p ≡ Some node → WasAnswered s.system t (was s) s.root s.store node a
  is_old a e p there =
      let old : answer_at (was s) node ≡ Some a = sym (is_open s t node n front back x p there).same ∙ e in
      let lives = answer_lives (was s) node a old in
      let at = placed s.system s.limit (was s) s.root s.store s.reads s.seats x.at.rest node lives.0 a lives.1 old in
      let d = level_depth s.root [] (was s) x.was_sound at.level node at.on in
      let now_is : kins s.now node ≡ Some (kin_of d.0) = x.at.tree.stay node (kin_of d.0) (ap (option_map kin_of) d.1) in
      let same : kin_of n ≡ kin_of d.0 = same_Some (kin_of n) (kin_of d.0) (sym (ap (option_map kin_of) x.is) ∙ now_is) in
      let deep = ap (λ (k : Kin). k.depth) same in
      let level : at.level ≡ t = (let e = depth_is s t node n front back x in omega (arith, deep, d.2, e)) in
      was_answered s.system s.limit (was s) s.root s.store s.reads s.seats x.at.rest t at.place node lives.0 a
      (ap (λ u. slice_get (level_nodes (was s) s.root u) at.place) (sym level) ∙ at.there) lives.1 (subst (λ u. In node (level_nodes (was s) s.root u)) level at.on) old

  -- its module stood there by the naming of now
  old_named : (a : Kept) → (w : WasAnswered s.system t (was s) s.root s.store node a) → IsNamedAt (names s.now) s.system.seed (level_spots (was s) s.root t) w.place node w.own
  old_named a w =
      let c = level_count s.system s.limit s.system.depth olds x.at.rest.spelled x.at.rest.is in
      let key : w.key ≡ key_of s.system.seed (names (was s) node) = x.at.rest.levels.keys t w.place (record { seen = S.Module w.own; tag = node; key = w.key }) (let b = w.below in omega (arith, c, b)) w.spot in
      let name = old_names node (get_In (level_nodes (was s) s.root t) w.place node w.there) in
      record { here = w.spot ∙ ap (λ k. Some (record { seen = S.Module w.own; tag = node; key = k })) (key ∙ ap (key_of s.system.seed) (sym name)) }

  abbrev old_question : (a : Kept) → WasAnswered s.system t (was s) s.root s.store node a → Question
  old_question a w = module_question s.system t (level_of (was s) s.root t) w.place (names s.now node) w.own

  old_stands : (a : Kept) → (w : WasAnswered s.system t (was s) s.root s.store node a) → slice_get (level_of (was s) s.root t) w.place ≡ Some (Module (names s.now node) w.own)
  old_stands a w =
      ap (λ (y : List LevelSymbol). slice_get y w.place) (sym old_level) ∙ slice_get-map (named (names s.now)) (level_spots (was s) s.root t) w.place ∙ ap (option_map (named (names s.now))) w.spot

  old_found : (a : Kept) → (w : WasAnswered s.system t (was s) s.root s.store node a) → question_at t (names s.now node) (questions s.system olds) ≡ Some (old_question a w)
  old_found a w =
      before.asked_there s.system s.limit olds x.at.rest.spelled x.at.rest.is t (level_of (was s) s.root t) (old_there w.below) w.below w.place (names s.now node) w.own (old_stands a w) w.rules

  -- what the old answer says by the naming of now
  old_told : (a : Kept) → (w : WasAnswered s.system t (was s) s.root s.store node a)
      → IsAnswer (names s.now) (by_definition s.system t (level_of (was s) s.root t) w.place (names s.now node) w.own) (answer_in s.store a)
  old_told a w =
      subst (λ y. IsAnswer (names s.now) (by_definition s.system t y w.place (names s.now node) w.own) (answer_in s.store a)) old_level
      (w.answer.told (names s.now) (old_named a w))

  -- 4. the same answer

  pub same_unneeded : (a : Kept) → answer_at s.now node ≡ Some a → (p : ℕ) → slice_get (level_nodes s.now s.root t) p ≡ Some node → (m : ModuleValue)
      → IsAnswer (names s.now) (by_definition s.next t (level_of s.now s.root t) p (names s.now node) m) (answer_in s.store a)
      → is_needed (questions s.system olds) (asked p m) ≡ false
  same_unneeded a e p there m told =
      let w = is_old a e p there in
      let same : old_question a w ≡ asked p m = sym (old_told a w).question ∙ told.question in
      found_same (questions s.system olds) (asked p m) (old_found a w ∙ ap (λ q. Some q) same)

  -- 5. another answer

  names_tell : NamesTell (names s.now) (level_spots (was s) s.root t) (level_spots s.now s.root t)
  names_tell j k hj hk same =
      let u = node_there (was s) j hj in
      let v = node_there s.now k hk in
      let d = level_depth s.root [] (was s) x.was_sound t j u in
      let e = level_depth s.root s.changes s.now x.sound t k v in
      let now_is = x.at.tree.stay j (kin_of d.0) (ap (option_map kin_of) d.1) in
      apart (kins s.now) s.root j k (kin_of d.0) (kin_of e.0) x.at.tree.once now_is (ap (option_map kin_of) e.1) (omega (arith, d.2, e.2)) same
    where
      tag_of : (m : Nodes Kept) (ks : List ℕ) (p : ℕ) (a : Spotted) → slice_get (map (λ i. spot_in i (m i)) ks) p ≡ Some a → In a.tag ks
      tag_of m [] p a h = absurd (none-some a h)
      tag_of m (i ∷ ks) zero a h = let f : spot_in i (m i) ≡ a = cc in inl (ap (λ (b : Spotted). b.tag) (sym f) ∙ by (m i))
        where
          by : (o : Option (Node Kept)) → (spot_in i o).tag ≡ i
          by None = refl
          by (Some b) = refl
      tag_of m (i ∷ ks) (suc p) a h = inr (tag_of m ks p a h)

      node_there : (m : Nodes Kept) (k : ℕ) → StandsThere k (level_spots m s.root t) → In k (level_nodes m s.root t)
      node_there m k h = subst (λ i. In i (level_nodes m s.root t)) h.is (tag_of m (level_nodes m s.root t) h.place h.spot h.there)

  -- a node whose question the old system asked has its answer
  has_old : (p : ℕ) (m : ModuleValue) → slice_get (level_of s.now s.root t) p ≡ Some (Module (names s.now node) m) → slice_get (level_nodes s.now s.root t) p ≡ Some node → (group s.next t m.name (length m.params) ≡ [] → ⊥) → is_needed (questions s.system olds) (asked p m) ≡ false
      → (a : Kept) × (answer_at s.now node ≡ Some a) × (w : WasAnswered s.system t (was s) s.root s.store node a) × (old_question a w ≡ asked p m)
  has_old p m stands there rules unneeded =
      let dx : Derived s.system olds = derived s.system s.limit olds x.at.rest.spelled x.at.rest.is in
      let dy : Derived s.next (meant_to s.next s.limit t) = derived_to s.next s.limit t (meant_to s.next s.limit t) x.at.tree.spelled x.at.tree.is in
      let b : IsAsked s.next (meant_to s.next s.limit t) (asked p m) = record { level = level_of s.now s.root t; there = new_there; place = p; parents = names s.now node; value = m; stands = stands; is = refl } in
      let o : IsOld s.system olds (asked p m) = not_needed s.system s.next olds (meant_to s.next s.limit t) dx dy (asked p m) b unneeded in
      let found : question_at t (names s.now node) (questions s.system olds) ≡ Some (asked p m) = o.found ∙ ap (λ q. Some q) o.same in
      let f : IsFound s.system olds t (names s.now node) (asked p m) = found_asked s.system olds t (names s.now node) (questions s.system olds) (asked p m) (all_asked s.system olds) found in
      by f.asked found
    where
      new_there : slice_get (meant_to s.next s.limit t) t ≡ Some (level_of s.now s.root t)
      new_there =
          let c = level_count s.next s.limit t (meant_to s.next s.limit t) x.at.tree.spelled x.at.tree.is in
          slice_get-get_or (meant_to s.next s.limit t) t [] (omega (arith, c)) ∙ ap (λ y. Some y) (sym level_meant)

      rules_were : (b : IsAsked s.system olds (asked p m)) → group s.system t b.value.name (length b.value.params) ≡ [] → ⊥
      rules_were b none = here_rules (ap (λ (q : Question). q.bodies) b.is ∙ none)
        where
          here_rules : group s.next t m.name (length m.params) ≡ [] → ⊥
          here_rules = rules

      by : IsAsked s.system olds (asked p m) → question_at t (names s.now node) (questions s.system olds) ≡ Some (asked p m)
          → (a : Kept) × (answer_at s.now node ≡ Some a) × (w : WasAnswered s.system t (was s) s.root s.store node a) × (old_question a w ≡ asked p m)
      by b found =
          let below : t < s.system.depth = (
          let l = level_below s.system olds t (names s.now node) (asked p m) found in
          let c = level_count s.system s.limit s.system.depth olds x.at.rest.spelled x.at.rest.is in omega (arith, l, c)
          ) in
          let level : b.level ≡ level_by (names s.now) (level_spots (was s) s.root t) = same_Some b.level (level_by (names s.now) (level_spots (was s) s.root t)) (sym b.there ∙ old_there below ∙ ap (λ y. Some y) (sym old_level)) in
          let stood : slice_get (level_by (names s.now) (level_spots (was s) s.root t)) b.place ≡ Some (Module b.parents b.value) = ap (λ (y : List LevelSymbol). slice_get y b.place) (sym level) ∙ b.stands in
          let one = map_back (named (names s.now)) (level_spots (was s) s.root t) b.place (Module b.parents b.value) stood in
          let two = map_back (λ i. spot_in i (was s i)) (level_nodes (was s) s.root t) b.place one.0 one.1 in
          let d = level_depth s.root [] (was s) x.was_sound t two.0 (get_In (level_nodes (was s) s.root t) b.place two.0 two.1) in
          let spot : one.0 ≡ record { seen = d.0.seen; tag = two.0; key = d.0.key } = sym two.2 ∙ ap (spot_in two.0) d.1 in
          let module_there = is_module (names s.now two.0) b.parents d.0.seen b.value (ap (named (names s.now)) (sym spot) ∙ one.2) in
          let line : names s.now two.0 ≡ names s.now node = module_there.line ∙ sym (ap (λ (q : Question). lineage q.own) b.is) in
          let now_is = x.at.tree.stay two.0 (kin_of d.0) (ap (option_map kin_of) d.1) in
          let same : two.0 ≡ node = apart (kins s.now) s.root two.0 node (kin_of d.0) (kin_of n) x.at.tree.once now_is (ap (option_map kin_of) x.is) (let e = depth_is s t node n front back x in omega (arith, e, d.2)) line in
          let there_was : slice_get (level_nodes (was s) s.root t) b.place ≡ Some node = two.1 ∙ ap (λ k. Some k) same in
          let at = spot_at (was s) s.root t b.place node d.0 there_was (ap (was s) (sym same) ∙ d.1) in
          let kept : IsAnsweredRight s.system t (level_spots (was s) s.root t) s.store b.place node (S.Module b.value) (answer_at (was s) node) =
          subst (λ y. IsAnsweredRight s.system t (level_spots (was s) s.root t) s.store b.place node y (answer_at (was s) node)) module_there.seen
          (x.at.rest.answered t b.place node below there_was (record { seen = d.0.seen; tag = node; key = d.0.key }) at) in
          let some = kept_some (group s.system t b.value.name (length b.value.params)) (IsRight s.system t (level_spots (was s) s.root t) s.store b.place node b.value) (answer_at (was s) node) kept (rules_were b) in
          ends some.0 some.1
        where
          ends : (a : Kept) → answer_at (was s) node ≡ Some a
              → (a : Kept) × (answer_at s.now node ≡ Some a) × (w : WasAnswered s.system t (was s) s.root s.store node a) × (old_question a w ≡ asked p m)
          ends a was_kept =
              let e : answer_at s.now node ≡ Some a = (is_open s t node n front back x p there).same ∙ was_kept in
              let w = is_old a e p there in
              (a, e, w, same_Some (old_question a w) (asked p m) (sym (old_found a w) ∙ found))

  pub new_needed : (p : ℕ) (m : ModuleValue) (st : Store) (b : Kept) → slice_get (level_of s.now s.root t) p ≡ Some (Module (names s.now node) m) → slice_get (level_nodes s.now s.root t) p ≡ Some node
      → (group s.next t m.name (length m.params) ≡ [] → ⊥) → IsNamedAt (names s.now) s.next.seed (level_spots s.now s.root t) p node m → IsAnswerThere s.next t (level_spots s.now s.root t) p node m (answer_in st b)
      → ((a : Kept) → answer_at s.now node ≡ Some a → question_in s.store a ≡ question_in st b → ⊥) → is_needed (questions s.system olds) (asked p m) ≡ true
  new_needed p m st b stands there rules named_now answer other = by (is_needed (questions s.system olds) (asked p m)) refl
    where
      by : (c : Bool) → is_needed (questions s.system olds) (asked p m) ≡ c → is_needed (questions s.system olds) (asked p m) ≡ true
      by true e = e
      by false e =
          let h = has_old p m stands there rules e in
          let same = same_answers s.system s.next t (level_spots (was s) s.root t) (level_spots s.now s.root t) h.2.place p node node h.2.own m (answer_in s.store h.0) (answer_in st b) (names s.now) h.2.answer answer names_tell (old_named h.0 h.2) named_now in
          let was_asked : asked_there s.system t (level_by (names s.now) (level_spots (was s) s.root t)) h.2.place (names s.now node) h.2.own ≡ old_question h.0 h.2 = ap (λ (y : List LevelSymbol). module_question s.system t y h.2.place (names s.now node) h.2.own) old_level in
          absurd (other h.0 h.1 (same.1 (was_asked ∙ h.3)))
