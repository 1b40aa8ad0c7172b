-- What is found out about a question, at its place: it is that of the old answer, or another one.
use Rattle.std.proofs.Common.{◌≡◌, ◌↔◌, ℕ, ◌+◌, Bool, true, false, cond, Option, Some, None, List, [], ◌∷◌, length, refl, sym, ap, ◌∙◌, subst}
use Rattle.std.specs.Prelude.{slice_get, not}
use Rattle.std.specs.Option.{IsSomeAnd}
use Rattle.lsys_spec.specs.Systems.{System}
use Rattle.lsys_spec.specs.Draws.{key_of}
use Rattle.lsys_spec.specs.Bodies.{Body, group}
use Rattle.lsys_spec.specs.Levels.{ModuleValue, LevelSymbol, Push, Pop, Module, lineage}
use Rattle.lsys_spec.specs.Questions.{Question, question, differs}
use Rattle.lsys_spec.specs.Standings.{place_of}
use Rattle.lsys_spec.proofs.Equal.{same_question_refl}
use Rattle.lsys_spec.proofs.Standings.{place_told}
use Rattle.lsys_laws.specs.KeptQuestions.{where_grouped, kept_at, question_here}
use Rattle.lsys_level.specs.Spots.{Seen, Spotted, level_by}
use Rattle.lsys_level.specs.Spots as S
use Rattle.lsys_match.specs.Asks.{IsNamedAt}
use Rattle.lsys_match.specs.TagQuestions.{TagAnswer}
use Rattle.lsys_level.specs.Tags.{NamesTell}
use Rattle.lsys_flat.specs.Revised.{IsKeyed}
use Rattle.lsys_match.specs.Recalled.{IsAnswerThere, asked_there}
use Rattle.lsys_match.proofs.Same.{same_answers}
use Rattle.lsys_flat.specs.Slots.{slot_by_place, slot_where_told, IsAnswerHere, IsSlot, IsFoundOut}
use Rattle.lsys_flat.proofs.Counting.{one, one_new}

-- 1. the question at a place is a module's

pub record IsQuestion (s : System) (t : ℕ) (x : List LevelSymbol) (p : ℕ) (a : LevelSymbol) (q : Question) : Type 0 where
  pub line : List ℕ
  pub value : ModuleValue
  pub symbol : a ≡ Module line value
  pub is : q ≡ asked_there s t x p line value

grouped_is : (bs : List Body) (r q : Question) → where_grouped bs r ≡ Some q → q ≡ r
grouped_is [] r q e = let no : None ≡ Some q = e in cc
grouped_is (b ∷ bs) r q e = let k : Some r ≡ Some q = e in cc

pub question_is : (s : System) (t : ℕ) (x : List LevelSymbol) (p : ℕ) (a : LevelSymbol) (q : Question) → question_here s t x p a ≡ Some q → IsQuestion s t x p a q
question_is s t x p (Push l) q e = let no : None ≡ Some q = e in cc
question_is s t x p (Pop l) q e = let no : None ≡ Some q = e in cc
question_is s t x p (Module l m) q e = record { line = l; value = m; symbol = refl; is = grouped_is (group s t m.name (length m.params)) (question s t (group s t m.name (length m.params)) x p l m) q e }

-- 2. its answer, by a naming that makes the level

pub record IsPlaced (s : System) (t : ℕ) (naming : ℕ → List ℕ) (row : List Spotted) (x : List LevelSymbol) (p : ℕ) (l : List ℕ) (m : ModuleValue) (a : TagAnswer) : Type 0 where
  pub tag : ℕ
  pub own : ModuleValue
  pub there : IsAnswerThere s t row p tag own a
  pub named : IsNamedAt naming s.seed row p tag own
  pub is : asked_there s t (level_by naming row) p (naming tag) own ≡ asked_there s t x p l m

same_value : (m n : ModuleValue) → S.Module m ≡ S.Module n → m ≡ n
same_value m n e = cc

spot_of : (a b : Spotted) → Some a ≡ Some b → a ≡ b
spot_of a b e = cc

pub placed : (s : System) (t : ℕ) (naming : ℕ → List ℕ) (row : List Spotted) (x : List LevelSymbol) (p : ℕ) (l : List ℕ) (m : ModuleValue) (a : TagAnswer) → level_by naming row ≡ x → IsKeyed naming s.seed row p l m → IsAnswerHere s t row p a
    → IsPlaced s t naming row x p l m a
placed s t naming row x p l m a e k h =
    let spot = spot_of _ _ (sym h.there.here ∙ k.here) in
    let tag : h.tag ≡ k.tag = ap (λ (s : Spotted). s.tag) spot in
    let own : h.own ≡ m = same_value h.own m (ap (λ (s : Spotted). s.seen) spot) in
    let line : naming h.tag ≡ l = ap naming tag ∙ k.line in
    let here : slice_get row p ≡ Some (record { seen = S.Module h.own; tag = h.tag; key = key_of s.seed (naming h.tag) }) =
    k.here ∙ (λ i. Some (record { seen = S.Module (sym own i); tag = sym tag i; key = key_of s.seed (naming (sym tag i)) })) in
    record {
      tag = h.tag;
      own = h.own;
      there = h.there;
      named = record { here = here };
      is = ap (λ y. asked_there s t y p (naming h.tag) h.own) e ∙ ap (λ l. asked_there s t x p l h.own) line ∙ ap (asked_there s t x p l) own;
    }

pub asked_alike : (old new : System) (t : ℕ) (naming : ℕ → List ℕ) (oldrow row : List Spotted) (x y : List LevelSymbol) (p q : ℕ) (l k : List ℕ) (m n : ModuleValue) (a b : TagAnswer) → NamesTell naming oldrow row
    → IsPlaced old t naming oldrow x p l m a → IsPlaced new t naming row y q k n b → (a.question ≡ b.question) ↔ (asked_there old t x p l m ≡ asked_there new t y q k n)
asked_alike old new t naming oldrow row x y p q l k m n a b f u v =
    let both = same_answers old new t oldrow row p q u.tag v.tag u.own v.own a b naming u.there v.there f u.named v.named in
    (λ e. sym u.is ∙ both.0 e ∙ v.is, λ e. both.1 (u.is ∙ e ∙ sym v.is))

-- 3. an old level beside a new one, and what is kept of its questions

pub record AreBeside (old new : System) (t : ℕ) (naming : ℕ → List ℕ) (oldrow row : List Spotted) (x y : List LevelSymbol) (kept : List (Option Question)) (olds : List (Option TagAnswer)) : Type 0 where
  pub old_is : level_by naming oldrow ≡ x
  pub new_is : level_by naming row ≡ y
  pub across : NamesTell naming oldrow row
  pub old_keys : (p : ℕ) (l : List ℕ) (m : ModuleValue) → slice_get x p ≡ Some (Module l m) → IsKeyed naming old.seed oldrow p l m
  pub new_keys : (p : ℕ) (l : List ℕ) (m : ModuleValue) → slice_get y p ≡ Some (Module l m) → IsKeyed naming new.seed row p l m
  pub slots : (j : ℕ) (c : LevelSymbol) → slice_get x j ≡ Some c → IsSlot old t oldrow j (slot_by_place kept j) (slot_by_place olds j)
  pub asks : (j : ℕ) (c : LevelSymbol) (q : Question) → slice_get x j ≡ Some c → slot_by_place kept j ≡ Some q → IsQuestion old t x j c q

-- an answer that is kept at a place answers the question that is kept there
of_slot : (s : System) (t : ℕ) (row : List Spotted) (j : ℕ) (o : Option Question) (a : TagAnswer) → IsSlot s t row j o (Some a) → (q : Question) × (o ≡ Some q) × IsAnswerHere s t row j a
of_slot s t row j None a h = absurd h
of_slot s t row j (Some q) a h = (q, refl, h)

of_question : (s : System) (t : ℕ) (row : List Spotted) (j : ℕ) (q : Question) (o : Option TagAnswer) → IsSlot s t row j (Some q) o → (a : TagAnswer) × (o ≡ Some a) × IsAnswerHere s t row j a
of_question s t row j q None h = absurd h
of_question s t row j q (Some a) h = (a, refl, h)

some_and : (P : TagAnswer → Type 0) (o : Option TagAnswer) → IsSomeAnd o P → (a : TagAnswer) × (o ≡ Some a) × P a
some_and P None h = absurd h
some_and P (Some a) h = (a, refl, h)

module _ (old new : System) (t : ℕ) (naming : ℕ → List ℕ) (oldrow row : List Spotted) (x y : List LevelSymbol) (kept : List (Option Question)) (olds : List (Option TagAnswer)) (h : AreBeside old new t naming oldrow row x y kept olds) (p : ℕ) (a : LevelSymbol) (here : slice_get y p ≡ Some a) (q : Question) (asks : question_here new t y p a ≡ Some q) where
  is : IsQuestion new t y p a q
  is = question_is new t y p a q asks

  new_placed : (b : TagAnswer) → IsAnswerHere new t row p b → IsPlaced new t naming row y p is.line is.value b
  new_placed b k = placed new t naming row y p is.line is.value b h.new_is (h.new_keys p is.line is.value (here ∙ ap (λ a. Some a) is.symbol)) k

  old_placed : (j : ℕ) (c : LevelSymbol) (r : Question) (g : slice_get x j ≡ Some c) (i : IsQuestion old t x j c r) (b : TagAnswer) → IsAnswerHere old t oldrow j b → IsPlaced old t naming oldrow x j i.line i.value b
  old_placed j c r g i b k = placed old t naming oldrow x j i.line i.value b h.old_is (h.old_keys j i.line i.value (g ∙ ap (λ a. Some a) i.symbol)) k

  -- the old answer is the new one: the question that is kept is this one
  pub kept_is : (j : ℕ) → place_of (lineage a) x ≡ Some j → IsSomeAnd (slot_by_place olds j) (IsAnswerHere new t row p) → kept_at kept (place_of (lineage a) x) ≡ Some q
  kept_is j e k =
      let there = place_told (lineage a) x j e in
      let b = some_and (IsAnswerHere new t row p) (slot_by_place olds j) k in
      let o = of_slot old t oldrow j (slot_by_place kept j) b.0 (subst (IsSlot old t oldrow j (slot_by_place kept j)) b.1 (h.slots j there.0 there.1)) in
      let i : IsQuestion old t x j there.0 o.0 = h.asks j there.0 o.0 there.1 o.1 in
      let same : asked_there old t x j i.line i.value ≡ asked_there new t y p is.line is.value =
      (asked_alike old new t naming oldrow row x y j p i.line is.line i.value is.value b.0 b.0 h.across (old_placed j there.0 o.0 there.1 i b.0 o.2) (new_placed b.0 b.2)).0 refl in
      ap (kept_at kept) e ∙ o.1 ∙ ap (λ q. Some q) (i.is ∙ same ∙ sym is.is)

  -- it is another one: so is the question
  pub kept_is_not : (b : TagAnswer) → IsAnswerHere new t row p b → ((o : TagAnswer) → slot_where_told olds (place_of (lineage a) x) ≡ Some o → o.question ≡ b.question → ⊥) → kept_at kept (place_of (lineage a) x) ≡ Some q → ⊥
  kept_is_not b k f e = by (place_of (lineage a) x) refl
    where
      by : (m : Option ℕ) → place_of (lineage a) x ≡ m → ⊥
      by None g = let no : None ≡ Some q = sym (ap (kept_at kept) g) ∙ e in cc
      by (Some j) g =
          let there = place_told (lineage a) x j g in
          let r : slot_by_place kept j ≡ Some q = sym (ap (kept_at kept) g) ∙ e in
          let o = of_question old t oldrow j q (slot_by_place olds j) (subst (λ r. IsSlot old t oldrow j r (slot_by_place olds j)) r (h.slots j there.0 there.1)) in
          let i : IsQuestion old t x j there.0 q = h.asks j there.0 q there.1 r in
          f o.0 (ap (slot_where_told olds) g ∙ o.1)
          ((asked_alike old new t naming oldrow row x y j p i.line is.line i.value is.value o.0 b h.across (old_placed j there.0 q there.1 i o.0 o.2) (new_placed b k)).1 (sym i.is ∙ is.is))

-- 4. so it is counted

pub answered_same : (q : Question) (o : Option Question) → o ≡ Some q → differs q o ≡ false
answered_same q o e = ap (differs q) e ∙ ap not (same_question_refl q)

module _ (new : System) (t : ℕ) (row : List Spotted) (p : ℕ) where
  pub found_new : (qn o : Option Question) (mate : Option ℕ) (old f : Option TagAnswer) (k : Option ℕ) → IsFoundOut new t row p qn mate old f k
      → ((q : Question) (j : ℕ) → qn ≡ Some q → mate ≡ Some j → IsSomeAnd old (IsAnswerHere new t row p) → o ≡ Some q)
      → ((q : Question) (b : TagAnswer) → qn ≡ Some q → IsAnswerHere new t row p b → ((c : TagAnswer) → old ≡ Some c → c.question ≡ b.question → ⊥) → o ≡ Some q → ⊥)
      → ((q : Question) → qn ≡ Some q → differs q o ≡ false → o ≡ Some q)
      → one_new qn o ≡ one f
  found_new None o mate old None None h same other sound = refl
  found_new None o mate old None (Some j) h same other sound = absurd h
  found_new None o mate old (Some b) k h same other sound = absurd h
  found_new (Some q) o mate old None None h same other sound = absurd h
  found_new (Some q) o mate old None (Some j) h same other sound = ap (λ b. cond b 1 0) (answered_same q o (same q j refl h.0 h.1))
  found_new (Some q) o mate old (Some b) None h same other sound = by (differs q o) refl
    where
      by : (c : Bool) → differs q o ≡ c → one_new (Some q) o ≡ 1
      by true e = ap (λ b. cond b 1 0) e
      by false e = absurd (other q b refl h.0 h.1 (sound q refl e))
  found_new (Some q) o mate old (Some b) (Some j) h same other sound = absurd h

  pub found_any : (qn : Option Question) (mate : Option ℕ) (old f : Option TagAnswer) (k : Option ℕ) → IsFoundOut new t row p qn mate old f k → one qn ≡ one f + one k
  found_any None mate old None None h = refl
  found_any None mate old None (Some j) h = absurd h
  found_any None mate old (Some b) k h = absurd h
  found_any (Some q) mate old None None h = absurd h
  found_any (Some q) mate old None (Some j) h = refl
  found_any (Some q) mate old (Some b) None h = refl
  found_any (Some q) mate old (Some b) (Some j) h = absurd h
