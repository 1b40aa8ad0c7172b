-- An answer that is right by one naming of the tags is right by each.
use Rattle.std.proofs.Common.{◌≡◌, ◌+◌, ℕ, Bool, true, false, Option, Some, None, List, [], ◌∷◌, map, take, length, refl, ap, sym, ◌∙◌, subst, inl, inr, if◌then◌else◌}
use Rattle.std.specs.Prelude.{slice_get, option_map}
use Rattle.std.proofs.lemmas.List.{take-map}
use Rattle.std.proofs.lemmas.Option.{none-some, same_Some, slice_get-map}
use Rattle.lsys_spec.specs.Draws.{key_of}
use Rattle.lsys_spec.specs.Systems.{System, Each}
use Rattle.lsys_spec.specs.Bodies.{Body, group}
use Rattle.lsys_spec.specs.Levels.{ModuleValue, LevelSymbol, lineage, Step, Items, way, items_from}
use Rattle.lsys_spec.specs.Levels as L
use Rattle.lsys_spec.specs.LevelLaws.{StandsIn}
use Rattle.lsys_spec.specs.Walks.{Entry, Told, lineages_named}
use Rattle.lsys_spec.specs.Walks as W
use Rattle.lsys_spec.specs.Choice.{Choice, Asking, choice}
use Rattle.lsys_spec.specs.Meaning.{most_entries, any_weight, key_for, asking, asked, successor_by}
use Rattle.lsys_spec.specs.Questions.{Question, question}
use Rattle.lsys_spec.proofs.Answered.{trace_present}
use Rattle.lsys_level.specs.Spots.{Seen, Push, Pop, Module, Spotted, with_lineage, named, level_by}
use Rattle.lsys_level.specs.Tags.{StandsThere, NamesTell}
use Rattle.lsys_walks.specs.Noted.{Noted, Compared, Ignored, Out, Branched, entry_by}
use Rattle.lsys_walks.specs.Agreements.{Names, HasTag}
use Rattle.lsys_match.specs.Answered.{place_chosen}
use Rattle.lsys_match.specs.Asks.{IsAnswer, IsNamedAt, by_definition}
use Rattle.lsys_match.specs.TagQuestions.{TagAnswer, question_by}
use Rattle.lsys_match.specs.Traced.{IsOwn, IsTraceAt}
use Rattle.lsys_match.specs.Recalled.{IsAnswerThere}
use Rattle.lsys_match.proofs.Standing.{apart_by, own_line, apart, stands_there}
use Rattle.lsys_front.proofs.Renaming.{symbol_as, entry_as, told_as, asked_as}

-- 1. by a naming a level is the one of which each lineage is a tag, with other lineages

abbrev alone : ℕ → List ℕ
alone k = k ∷ []

abbrev first_or : List ℕ → ℕ
first_or [] = 0
first_or (k ∷ l) = k

abbrev by_first : (ℕ → List ℕ) → List ℕ → List ℕ
by_first naming l = naming (first_or l)

with_as : (naming : ℕ → List ℕ) (k : ℕ) (x : Seen) → with_lineage (naming k) x ≡ symbol_as (by_first naming) (with_lineage (alone k) x)
with_as naming k Push = refl
with_as naming k Pop = refl
with_as naming k (Module m) = refl

level_as : (naming : ℕ → List ℕ) (row : List Spotted) → level_by naming row ≡ map (symbol_as (by_first naming)) (level_by alone row)
level_as naming [] = refl
level_as naming (s ∷ row) =
    ap (λ (a : LevelSymbol). a ∷ level_by naming row) (with_as naming s.tag s.seen)
    ∙ ap (λ (x : List LevelSymbol). symbol_as (by_first naming) (named alone s) ∷ x) (level_as naming row)

-- what is read of it, whatever the key is
abbrev read_of : System → ℕ → List Body → List Spotted → ℕ → ModuleValue → Option ℕ → Told Choice
read_of s t bs row p m key = choice (asking s t m) key (way (level_by alone row) p) (items_from (level_by alone row) (p + 1)) bs

asked_by : (s : System) (t : ℕ) (bs : List Body) (row : List Spotted) (p : ℕ) (l : List ℕ) (m : ModuleValue) (naming : ℕ → List ℕ)
    → asked s t bs (level_by naming row) p l m ≡ told_as (by_first naming) (read_of s t bs row p m (key_for s l bs))
asked_by s t bs row p l m naming =
    ap (λ x. asked s t bs x p l m) (level_as naming row) ∙ asked_as (by_first naming) (asking s t m) (key_for s l bs) (level_by alone row) p bs

entries_same : (a : Asking) (w : List Step) (r : Items) (bs : List Body) (weighted : Bool) (j k : ℕ)
    → (choice a (if weighted then Some j else None) w r bs).entries ≡ (choice a (if weighted then Some k else None) w r bs).entries
entries_same a w r bs true j k = refl
entries_same a w r bs false j k = refl

-- 2. what is named in it are its tags

lineage_of : (l : List ℕ) (x : Seen) → lineage (with_lineage l x) ≡ l
lineage_of l Push = refl
lineage_of l Pop = refl
lineage_of l (Module m) = refl

tag_there : (row : List Spotted) (l : List ℕ) → StandsIn (level_by alone row) l → StandsThere (first_or l) row
tag_there row l h = by (slice_get row h.0) refl (sym (slice_get-map (named alone) row h.0) ∙ h.2)
  where
    by : (o : Option Spotted) → slice_get row h.0 ≡ o → option_map (named alone) (slice_get row h.0) ≡ Some h.1 → StandsThere (first_or l) row
    by None e g = absurd (none-some h.1 (sym (ap (option_map (named alone)) e) ∙ g))
    by (Some s) e g =
        let is : named alone s ≡ h.1 = same_Some (named alone s) h.1 (sym (ap (option_map (named alone)) e) ∙ g) in
        let line : alone s.tag ≡ l = sym (lineage_of (alone s.tag) s.seen) ∙ ap lineage is ∙ h.3 in
        record { place = h.0; spot = s; there = e; is = ap first_or line }

read_there : (s : System) (t : ℕ) (bs : List Body) (row : List Spotted) (p : ℕ) (m : ModuleValue) (k : ℕ)
    → Each (λ e. Each (StandsIn (level_by alone row)) (lineages_named e)) (take (most_entries + 1) (read_of s t bs row p m (if any_weight bs then Some k else None)).entries)
read_there s t bs row p m k =
    subst (λ es. Each (λ e. Each (StandsIn (level_by alone row)) (lineages_named e)) (take (most_entries + 1) es))
    (entries_same (asking s t m) (way (level_by alone row) p) (items_from (level_by alone row) (p + 1)) bs (any_weight bs) (key_of s.seed []) k)
    (trace_present s t bs (level_by alone row) p [] m)

-- 3. the same entries by one naming are the same by each

module _ (x y : List Spotted) (naming other : ℕ → List ℕ) (tell : NamesTell naming x y) where
  abbrev AllStand : Entry → Type 0
  AllStand e = Each (StandsIn (level_by alone y)) (lineages_named e)

  same_tag : (k : ℕ) (l : List ℕ) → StandsThere k x → StandsIn (level_by alone y) l → naming k ≡ by_first naming l → other k ≡ by_first other l
  same_tag k l h g e = ap other (tell k (first_or l) h (tag_there y l g) e)

  same_entry : (n : Noted) (e : Entry) → ((k : ℕ) → Names k n → StandsThere k x) → AllStand e
      → entry_by naming n ≡ entry_as (by_first naming) e → entry_by other n ≡ entry_as (by_first other) e
  same_entry (Compared d k v) (W.Compared d' (L.Module l v')) h g e =
      let mark : d ≡ d' = cc in
      let value : v ≡ v' = cc in
      let tag : naming k ≡ by_first naming l = cc in
      ap (λ d. W.Compared d (L.Module (other k) v)) mark ∙ ap (λ l. W.Compared d' (L.Module l v)) (same_tag k l (h k refl) g.0 tag) ∙ ap (λ v. W.Compared d' (L.Module (by_first other l) v)) value
  same_entry (Ignored d k v) (W.Ignored d' (L.Module l v')) h g e =
      let mark : d ≡ d' = cc in
      let value : v ≡ v' = cc in
      let tag : naming k ≡ by_first naming l = cc in
      ap (λ d. W.Ignored d (L.Module (other k) v)) mark ∙ ap (λ l. W.Ignored d' (L.Module l v)) (same_tag k l (h k refl) g.0 tag) ∙ ap (λ v. W.Ignored d' (L.Module (by_first other l) v)) value
  same_entry (Out d k) (W.Out d' l) h g e =
      let mark : d ≡ d' = cc in
      let tag : naming k ≡ by_first naming l = cc in
      ap (λ d. W.Out d (other k)) mark ∙ ap (W.Out d') (same_tag k l (h k refl) g.0 tag)
  same_entry (Branched d j k) (W.Branched d' i l) h g e =
      let mark : d ≡ d' = cc in
      let tag : naming j ≡ by_first naming i = cc in
      let tag' : naming k ≡ by_first naming l = cc in
      ap (λ d. W.Branched d (other j) (other k)) mark ∙ ap (λ i. W.Branched d' i (other k)) (same_tag j i (h j (inl refl)) g.0 tag)
      ∙ ap (W.Branched d' (by_first other i)) (same_tag k l (h k (inr refl)) g.1.0 tag')
  same_entry n e h g f = cc

  same_entries : (ns : List Noted) (es : List Entry) → ((k : ℕ) → HasTag k ns → StandsThere k x) → Each AllStand es
      → map (entry_by naming) ns ≡ map (entry_as (by_first naming)) es → map (entry_by other) ns ≡ map (entry_as (by_first other)) es
  same_entries [] [] h g e = refl
  same_entries [] (a ∷ es) h g e = cc
  same_entries (n ∷ ns) [] h g e = cc
  same_entries (n ∷ ns) (a ∷ es) h g e =
      let one : entry_by naming n ≡ entry_as (by_first naming) a = cc in
      let more : map (entry_by naming) ns ≡ map (entry_as (by_first naming)) es = cc in
      ap (λ b. b ∷ map (entry_by other) ns) (same_entry n a (λ k i. h k (inl i)) g.0 one)
      ∙ ap (λ bs. entry_as (by_first other) a ∷ bs) (same_entries ns es (λ k i. h k (inr i)) g.1 more)

-- 4. the answer

record IsSameOwn (l l' : List ℕ) (v w : ModuleValue) : Type 0 where
  pub line : l ≡ l'
  pub value : v ≡ w

same_own : (l l' : List ℕ) (v w : ModuleValue) → L.Module l v ≡ L.Module l' w → IsSameOwn l l' v w
same_own l l' v w e = let a : l ≡ l' = cc in let b : v ≡ w = cc in record { line = a; value = b }

-- An answer that was right at place p of an old level is right at place q of a new one, if by one naming, which tells the tags of
-- both apart, it is the definitions' answer there.
module _ (old new : System) (t : ℕ) (x y : List Spotted) (p q tag : ℕ) (m v : ModuleValue) (a : TagAnswer) (naming : ℕ → List ℕ)
    (was : IsAnswerThere old t x p tag m a) (tell : NamesTell naming x y) (here : IsNamedAt naming new.seed y q tag v)
    (is : IsAnswer naming (by_definition new t (level_by naming y) q (naming tag) v) a) where
  abbrev bodies : List Body
  bodies = group new t v.name (length v.params)

  abbrev base : Told Choice
  base = read_of new t bodies y q v (key_for new (naming tag) bodies)

  -- it is the answer to the question of this tag
  own_tag : a.question.posed.tag ≡ tag
  own_tag =
      let own : IsOwn old.seed x p tag m (apart_by tag was.line tag) = subst (IsOwn old.seed x p tag m) (sym (own_line tag was.line)) was.here in
      apart tag was.line a.question.posed.tag tag (ap (λ (q : Question). lineage q.own) (was.told (apart_by tag was.line) (record { here = own })).question)

  trace_at : IsTraceAt old t (group old t m.name (length m.params)) x p tag m a.question.trace
  trace_at = record {
    line = was.line;
    here = was.here;
    told = λ naming own. ap (λ (q : Question). q.trace) (was.told naming (record { here = own })).question;
  }

  stood : (k : ℕ) → HasTag k a.question.trace → StandsThere k x
  stood k i = stands_there old t (group old t m.name (length m.params)) x p tag m a.question.trace trace_at k i

  trace_named : map (entry_by naming) a.question.trace ≡ map (entry_as (by_first naming)) (take (most_entries + 1) base.entries)
  trace_named =
      ap (λ (q : Question). q.trace) is.question
      ∙ ap (λ (c : Told Choice). take (most_entries + 1) c.entries) (asked_by new t bodies y q (naming tag) v naming)
      ∙ take-map (entry_as (by_first naming)) (most_entries + 1) base.entries

  module _ (other : ℕ → List ℕ) (there : IsNamedAt other new.seed y q tag v) where
    same_key : key_for new (naming tag) bodies ≡ key_for new (other tag) bodies
    same_key =
        let spot = same_Some _ _ (sym here.here ∙ there.here) in
        ap (λ k. if any_weight bodies then Some k else None) (ap (λ (s : Spotted). s.key) spot)

    same_asked : asked new t bodies (level_by other y) q (other tag) v ≡ told_as (by_first other) base
    same_asked = asked_by new t bodies y q (other tag) v other ∙ ap (λ key. told_as (by_first other) (read_of new t bodies y q v key)) (sym same_key)

    same_choice : (asked new t bodies (level_by naming y) q (naming tag) v).answer ≡ (asked new t bodies (level_by other y) q (other tag) v).answer
    same_choice = ap (λ (c : Told Choice). c.answer) (asked_by new t bodies y q (naming tag) v naming) ∙ sym (ap (λ (c : Told Choice). c.answer) same_asked)

    same_trace : map (entry_by other) a.question.trace ≡ take (most_entries + 1) (asked new t bodies (level_by other y) q (other tag) v).entries
    same_trace =
        same_entries x y naming other tell a.question.trace (take (most_entries + 1) base.entries) stood (read_there new t bodies y q v (key_of new.seed (naming tag))) trace_named
        ∙ sym (take-map (entry_as (by_first other)) (most_entries + 1) base.entries)
        ∙ sym (ap (λ (c : Told Choice). take (most_entries + 1) c.entries) same_asked)

    same_question : question_by other t a.question ≡ question new t bodies (level_by other y) q (other tag) v
    same_question =
        let own = same_own (naming a.question.posed.tag) (naming tag) a.question.posed.own v (ap (λ (q : Question). q.own) is.question) in
        let e1 : L.Module (other a.question.posed.tag) a.question.posed.own ≡ L.Module (other tag) v = ap (λ k. L.Module (other k) a.question.posed.own) own_tag ∙ ap (L.Module (other tag)) own.value in
        let e2 : a.question.posed.bodies ≡ bodies = ap (λ (q : Question). q.bodies) is.question in
        let e3 : a.question.posed.key ≡ key_for new (other tag) bodies = ap (λ (q : Question). q.key) is.question ∙ same_key in
        let e4 = same_trace in
        λ i. record { level = t; own = e1 i; bodies = e2 i; key = e3 i; trace = e4 i }

    told_other : IsAnswer other (by_definition new t (level_by other y) q (other tag) v) a
    told_other = record {
      question = same_question;
      chosen = is.chosen ∙ ap place_chosen same_choice;
      successor = is.successor ∙ ap (successor_by bodies v) same_choice;
    }

  pub still_right : IsAnswerThere new t y q tag v a
  still_right = record { line = naming tag; here = here.here; told = told_other }
