-- How many questions of all levels are new, and how many there are.
use Rattle.std.proofs.Common.{◌≡◌, ℕ, zero, suc, ◌+◌, ◌<◌, ◌⊎◌, inl, inr, Option, Some, None, false, List, [], ◌∷◌, length, map, refl, sym, ap, ◌∙◌, subst, arith, get_or, length-append}
use Rattle.std.specs.Prelude.{slice_get, sum_by, Ok}
use Rattle.std.proofs.lemmas.List.{length-map}
use Rattle.std.proofs.lemmas.List.Sums.{sum_by-cons}
use Rattle.lsys_spec.specs.Systems.{System, Each, WellSpelled}
use Rattle.lsys_spec.specs.Bodies.{Body, group}
use Rattle.lsys_spec.specs.Levels.{LevelSymbol, Push, Pop, Module, lineage}
use Rattle.lsys_spec.specs.Meaning.{meaning}
use Rattle.lsys_spec.specs.Cuts.{Distinct}
use Rattle.lsys_spec.specs.Questions.{Question, question, where_any, questions_from, questions_at, questions_below, questions, question_at, differs, is_needed, need}
use Rattle.lsys_spec.specs.Standings.{place_of}
use Rattle.lsys_spec.proofs.Answered.{answered}
use Rattle.lsys_spec.proofs.Eachs.{each_front, each_back}
use Rattle.lsys_spec.proofs.Needs.{Derived, derived}
use Rattle.lsys_spec.proofs.Offspring.{has_balance, grown}
use Rattle.lsys_laws.specs.KeptQuestions.{places_in, where_grouped, level_questions, kept_from, kept_questions, kept_at, unanswered, level_needs, needs_from, question_here}
use Rattle.lsys_laws.proofs.Lookups.{all_present, kept_there}
use Rattle.std.proofs.lemmas.List.Sums.{length-filter}
use Rattle.lsys_laws.proofs.NeedsByLevels.{of_levels}
use Rattle.lsys_level.specs.Spots.{Spotted}
use Rattle.std.specs.Option.{IsSomeAnd}
use Rattle.lsys_match.specs.TagQuestions.{TagAnswer}
use Rattle.lsys_flat.specs.Revised.{AreNamedTogether}
use Rattle.lsys_flat.specs.Slots.{slot_by_place, slot_where_told, IsAnswerHere, IsSlot, IsFoundOut, AreFound, AreAllSlots, AreAllFound, filled_slots}
use Rattle.lsys_flat.specs.Counted.{MeansLevels, AreKeyed, AreCompared}
use Rattle.lsys_flat.proofs.Counting.{by_place, places_length, count_new, count_asked, one, one_new}
use Rattle.lsys_flat.proofs.CountedPlaces.{IsQuestion, question_is, AreBeside, kept_is, kept_is_not, found_new, found_any}

-- 1. the premises

each_of : {A : Type 0} (P : A → Type 0) (xs : List A) → ((i : ℕ) (x : A) → slice_get xs i ≡ Some x → P x) → Each P xs
each_of P [] f = tt
each_of P (x ∷ xs) f = (f 0 x refl, each_of P xs (λ i y e. f (suc i) y e))

no_levels : (s : System) (xs : List (List LevelSymbol)) → WellSpelled s → xs ≡ [] → Derived s xs
no_levels s xs w e = record {
  formed = w;
  levels = λ t x g. let no : None ≡ Some x = sym (ap (λ (xs : List (List LevelSymbol)). slice_get xs t) e) ∙ g in cc;
  names = λ t x g. let no : None ≡ Some x = sym (ap (λ (xs : List (List LevelSymbol)). slice_get xs t) e) ∙ g in cc;
}

pub derived_of : (s : System) (xs : List (List LevelSymbol)) → MeansLevels s xs → Derived s xs
derived_of s xs h = by h.levels
  where
    by : (xs ≡ []) ⊎ ((limit : ℕ) × (meaning s limit ≡ Ok xs)) → Derived s xs
    by (inl e) = no_levels s xs h.spelled e
    by (inr m) = derived s m.0 xs h.spelled m.1

pub distinct_of : (s : System) (xs : List (List LevelSymbol)) → MeansLevels s xs → Each Distinct xs
distinct_of s xs h = each_of Distinct xs (λ t x g. by t x g h.levels)
  where
    by : (t : ℕ) (x : List LevelSymbol) → slice_get xs t ≡ Some x → (xs ≡ []) ⊎ ((limit : ℕ) × (meaning s limit ≡ Ok xs)) → Distinct x
    by t x g (inl e) = let no : None ≡ Some x = sym (ap (λ (xs : List (List LevelSymbol)). slice_get xs t) e) ∙ g in cc
    by t x g (inr m) = (grown s (has_balance s h.spelled) m.0 xs m.1 t x g).distinct

-- 2. what is kept of an old level

none_kept : (s : System) (t : ℕ) (row : List Spotted) (kept : List (List (Option TagAnswer))) (i j : ℕ) → kept ≡ [] → IsSlot s t row j (slot_by_place [] j) (slot_by_place (get_or kept i []) j)
none_kept s t row kept i j e = subst (λ (kept : List (List (Option TagAnswer))). IsSlot s t row j None (slot_by_place (get_or kept i []) j)) (sym e) tt

pub slots_there : (s : System) (t : ℕ) (rows : List (List Spotted)) (levels : List (List LevelSymbol)) (kept : List (List (Option TagAnswer))) → AreAllSlots s t rows levels kept → (i n : ℕ) → t + i ≡ n
    → (j : ℕ) (c : LevelSymbol) → slice_get (get_or levels i []) j ≡ Some c → IsSlot s n (get_or rows n []) j (slot_by_place (kept_from s t levels i) j) (slot_by_place (get_or kept i []) j)
slots_there s t rows [] kept h i n e j c g = none_kept s n (get_or rows n []) kept i j h
slots_there s t rows (x ∷ []) kept h i n e j c g = none_kept s n (get_or rows n []) kept i j h
slots_there s t rows (x ∷ y ∷ levels) [] h i n e j c g = absurd h
slots_there s t rows (x ∷ y ∷ levels) (slots ∷ kept) h zero n e j c g =
    let k : t ≡ n = omega (arith, e) in
    subst (λ n. IsSlot s n (get_or rows n []) j (slot_by_place (level_questions s t x) j) (slot_by_place slots j)) k
    (subst (λ q. IsSlot s t (get_or rows t []) j q (slot_by_place slots j)) (sym (by_place s t x 0 x j j c g (omega arith))) (h.0.kept j c g))
slots_there s t rows (x ∷ y ∷ levels) (slots ∷ kept) h (suc i) n e j c g = slots_there s (t + 1) rows (y ∷ levels) kept h.1 i n (omega (arith, e)) j c g

pub asks_there : (s : System) (t : ℕ) (levels : List (List LevelSymbol)) (i n : ℕ) → t + i ≡ n → (j : ℕ) (c : LevelSymbol) (q : Question) → slice_get (get_or levels i []) j ≡ Some c → slot_by_place (kept_from s t levels i) j ≡ Some q
    → IsQuestion s n (get_or levels i []) j c q
asks_there s t [] i n e j c q g f = let no : None ≡ Some q = f in cc
asks_there s t (x ∷ []) i n e j c q g f = let no : None ≡ Some q = f in cc
asks_there s t (x ∷ y ∷ levels) zero n e j c q g f =
    let k : t ≡ n = omega (arith, e) in subst (λ n. IsQuestion s n x j c q) k (question_is s t x j c q (sym (by_place s t x 0 x j j c g (omega arith)) ∙ f))
asks_there s t (x ∷ y ∷ levels) (suc i) n e j c q g f = asks_there s (t + 1) (y ∷ levels) i n (omega (arith, e)) j c q g f

-- 3. one level

pub within_get : {A : Type 0} (xs : List A) (i : ℕ) → i < length xs → (x : A) × (slice_get xs i ≡ Some x)
within_get [] i h = absurd (omega (arith, h))
within_get (x ∷ xs) zero h = (x, refl)
within_get (x ∷ xs) (suc i) h = within_get xs i (omega (arith, h))

pub at_map : {A B : Type 0} (f : A → Option B) (xs : List A) (i : ℕ) (x : A) → slice_get xs i ≡ Some x → slot_by_place (map f xs) i ≡ f x
at_map f [] i x e = let no : None ≡ Some x = e in cc
at_map f (y ∷ xs) zero x e = let h : y ≡ x = cc in ap f h
at_map f (y ∷ xs) (suc i) x e = at_map f xs i x e

at_maps : {A B C : Type 0} (g : B → Option C) (f : A → B) (xs : List A) (i : ℕ) (x : A) → slice_get xs i ≡ Some x → slot_by_place (map g (map f xs)) i ≡ g (f x)
at_maps g f [] i x e = let no : None ≡ Some x = e in cc
at_maps g f (y ∷ xs) zero x e = let h : y ≡ x = cc in ap (λ x. g (f x)) h
at_maps g f (y ∷ xs) (suc i) x e = at_maps g f xs i x e

-- what holds of each question of a level holds of the one at a place

any_here : (P : Question → Type 0) (bs : List Body) (r q : Question) (qs : List Question) → Each P (where_any bs r qs) → where_grouped bs r ≡ Some q → P q
any_here P [] r q qs h e = let no : None ≡ Some q = e in cc
any_here P (b ∷ bs) r q qs h e = let k : Some r ≡ Some q = e in let i : r ≡ q = cc in subst P i h.0

any_rest : (P : Question → Type 0) (bs : List Body) (r : Question) (qs : List Question) → Each P (where_any bs r qs) → Each P qs
any_rest P [] r qs h = h
any_rest P (b ∷ bs) r qs h = h.1

each_here : (P : Question → Type 0) (s : System) (t : ℕ) (x : List LevelSymbol) (p : ℕ) (rest : List LevelSymbol) → Each P (questions_from s t x p rest) → (i n : ℕ) (a : LevelSymbol) (q : Question) → slice_get rest i ≡ Some a → p + i ≡ n → question_here s t x n a ≡ Some q → P q
each_here P s t x p [] h i n a q g e f = let no : None ≡ Some a = g in cc
each_here P s t x p (Push l ∷ rest) h zero n a q g e f = let k : Push l ≡ a = cc in let no : None ≡ Some q = ap (question_here s t x n) k ∙ f in cc
each_here P s t x p (Pop l ∷ rest) h zero n a q g e f = let k : Pop l ≡ a = cc in let no : None ≡ Some q = ap (question_here s t x n) k ∙ f in cc
each_here P s t x p (Module l m ∷ rest) h zero n a q g e f =
    let k : Module l m ≡ a = cc in
    let i : p ≡ n = omega (arith, e) in
    any_here P (group s t m.name (length m.params)) (question s t (group s t m.name (length m.params)) x p l m) q (questions_from s t x (p + 1) rest) h
    (ap (λ p. question_here s t x p (Module l m)) i ∙ ap (question_here s t x n) k ∙ f)
each_here P s t x p (Push l ∷ rest) h (suc i) n a q g e f = each_here P s t x (p + 1) rest h i n a q g (omega (arith, e)) f
each_here P s t x p (Pop l ∷ rest) h (suc i) n a q g e f = each_here P s t x (p + 1) rest h i n a q g (omega (arith, e)) f
each_here P s t x p (Module l m ∷ rest) h (suc i) n a q g e f =
    each_here P s t x (p + 1) rest (any_rest P (group s t m.name (length m.params)) (question s t (group s t m.name (length m.params)) x p l m) (questions_from s t x (p + 1) rest) h) i n a q g (omega (arith, e)) f

-- a question that the old ones answer is among them
abbrev pub IsSound : List Question → Question → Type 0
IsSound olds q = is_needed olds q ≡ false → question_at q.level (lineage q.own) olds ≡ Some q

module _ (old new : System) (t : ℕ) (naming : ℕ → List ℕ) (oldrow row : List Spotted) (x y : List LevelSymbol) (kept : List (Option Question)) (olds : List (Option TagAnswer)) (h : AreBeside old new t naming oldrow row x y kept olds) (f : List (Option TagAnswer)) (k : List (Option ℕ)) (found : AreFound new t row y olds (places_in x y) f k) where
  found_here : (i : ℕ) (a : LevelSymbol) → slice_get y i ≡ Some a → IsFoundOut new t row i (question_here new t y i a) (place_of (lineage a) x) (slot_where_told olds (place_of (lineage a) x)) (slot_by_place f i) (slot_by_place k i)
  found_here i a g =
      subst (λ m. IsFoundOut new t row i (question_here new t y i a) m (slot_where_told olds m) (slot_by_place f i) (slot_by_place k i)) (at_map (λ s. place_of (lineage s) x) y i a g) (found.found i a g)

  asked_here : (i : ℕ) (a : LevelSymbol) → slice_get y i ≡ Some a → slot_by_place (level_questions new t y) i ≡ question_here new t y i a
  asked_here i a g = by_place new t y 0 y i i a g (omega arith)

  pub level_asked : length (questions_at new t y) ≡ filled_slots f + filled_slots k
  level_asked =
      ap length (all_present new t y 0 y)
      ∙ count_asked (level_questions new t y) f k (found.each_fresh ∙ sym (places_length new t y 0 y)) (found.each_taken ∙ sym (places_length new t y 0 y))
      (λ i l. let a = within_get y i (omega (arith, l, places_length new t y 0 y)) in
      ap one (asked_here i a.0 a.1) ∙ found_any new t row i (question_here new t y i a.0) (place_of (lineage a.0) x) (slot_where_told olds (place_of (lineage a.0) x)) (slot_by_place f i) (slot_by_place k i) (found_here i a.0 a.1))

  module _ (answers : List Question) (looked : (l : List ℕ) → question_at t l answers ≡ kept_at kept (place_of l x)) (sound : Each (IsSound answers) (questions_at new t y)) where
    settled : (i : ℕ) (a : LevelSymbol) → slice_get y i ≡ Some a → (q : Question) → question_here new t y i a ≡ Some q → differs q (kept_at kept (place_of (lineage a) x)) ≡ false → kept_at kept (place_of (lineage a) x) ≡ Some q
    settled i a g q e d =
        let is : IsQuestion new t y i a q = question_is new t y i a q e in
        let level : q.level ≡ t = ap (λ (q : Question). q.level) is.is in
        let line : lineage q.own ≡ lineage a = ap (λ (q : Question). lineage q.own) is.is ∙ sym (ap lineage is.symbol) in
        let there : question_at q.level (lineage q.own) answers ≡ kept_at kept (place_of (lineage a) x) =
        ap (λ t. question_at t (lineage q.own) answers) level ∙ ap (λ l. question_at t l answers) line ∙ looked (lineage a) in
        sym there ∙ each_here (IsSound answers) new t y 0 y sound i i a q g (omega arith) e (ap (differs q) there ∙ d)

    pub level_news : length (unanswered (map (kept_at kept) (places_in x y)) (level_questions new t y)) ≡ filled_slots f
    level_news =
        count_new (map (kept_at kept) (places_in x y)) (level_questions new t y) f
        (length-map (places_in x y) (kept_at kept) ∙ length-map y (λ s. place_of (lineage s) x) ∙ sym (places_length new t y 0 y))
        (found.each_fresh ∙ sym (places_length new t y 0 y))
        (λ i l. let a = within_get y i (omega (arith, l, places_length new t y 0 y)) in here i a.0 a.1)
      where
        here : (i : ℕ) (a : LevelSymbol) → slice_get y i ≡ Some a → one_new (slot_by_place (level_questions new t y) i) (slot_by_place (map (kept_at kept) (places_in x y)) i) ≡ one (slot_by_place f i)
        here i a g =
            ap (λ q. one_new q (slot_by_place (map (kept_at kept) (places_in x y)) i)) (asked_here i a g)
            ∙ ap (one_new (question_here new t y i a)) (at_maps (kept_at kept) (λ s. place_of (lineage s) x) y i a g)
            ∙ found_new new t row i (question_here new t y i a) (kept_at kept (place_of (lineage a) x)) (place_of (lineage a) x) (slot_where_told olds (place_of (lineage a) x)) (slot_by_place f i) (slot_by_place k i) (found_here i a g)
            (λ q j e m s. kept_is old new t naming oldrow row x y kept olds h i a g q e j m (subst (λ m. IsSomeAnd (slot_where_told olds m) (IsAnswerHere new t row i)) m s))
            (λ q b e n o. kept_is_not old new t naming oldrow row x y kept olds h i a g q e b n o)
            (λ q e d. settled i a g q e d)

-- 4. all levels

pub record Fits (ys all : List (List LevelSymbol)) (t : ℕ) : Type 0 where
  pub same : (i n : ℕ) → t + i ≡ n → get_or all n [] ≡ get_or ys i []

next_fits : (y : List LevelSymbol) (ys all : List (List LevelSymbol)) (t : ℕ) → Fits (y ∷ ys) all t → Fits ys all (t + 1)
next_fits y ys all t h = record { same = λ i n e. h.same (suc i) n (omega (arith, e)) }

module _ (old new : System) (xs all : List (List LevelSymbol)) (oldrows rows : List (List Spotted)) (kept : List (List (Option TagAnswer))) (oldlevels : MeansLevels old xs) (newlevels : MeansLevels new all) (named : AreNamedTogether xs all oldrows rows) (oldkeys : AreKeyed old.seed xs oldrows) (newkeys : AreKeyed new.seed all rows) (slots : AreAllSlots old 0 oldrows xs kept) where
  beside : (t : ℕ) (y : List LevelSymbol) → get_or all t [] ≡ y → AreBeside old new t named.naming (get_or oldrows t []) (get_or rows t []) (get_or xs t []) y (kept_questions old xs t) (get_or kept t [])
  beside t y e = record {
    old_is = named.old_levels t;
    new_is = named.new_levels t ∙ e;
    across = named.across t;
    old_keys = λ p l m g. oldkeys.each named.naming t p l m (named.old_levels t) g;
    new_keys = λ p l m g. newkeys.each named.naming t p l m (named.new_levels t) (ap (λ (y : List LevelSymbol). slice_get y p) e ∙ g);
    slots = λ j c g. slots_there old 0 oldrows xs kept slots t t (omega arith) j c g;
    asks = λ j c q g f. asks_there old 0 xs t t (omega arith) j c q g f;
  }

  looked : (t : ℕ) (l : List ℕ) → question_at t l (questions old xs) ≡ kept_at (kept_questions old xs t) (place_of l (get_or xs t []))
  looked t l = kept_there old 0 t xs t l (omega arith) (distinct_of old xs oldlevels)

  news_from : (t : ℕ) (ys : List (List LevelSymbol)) (fresh : List (List (Option TagAnswer))) (taken : List (List (Option ℕ))) → Fits ys all t → AreAllFound new t rows xs kept ys fresh taken → Each (IsSound (questions old xs)) (questions_below new t ys)
      → length (needs_from old new xs t ys) ≡ sum_by filled_slots fresh
  news_from t [] fresh taken fits h s = ap (sum_by filled_slots) (sym h.0)
  news_from t (y ∷ []) fresh taken fits h s = ap (sum_by filled_slots) (sym h.0)
  news_from t (y ∷ z ∷ ys) [] taken fits h s = absurd h
  news_from t (y ∷ z ∷ ys) (f ∷ fresh) [] fits h s = absurd h
  news_from t (y ∷ z ∷ ys) (f ∷ fresh) (k ∷ taken) fits h s =
      let first : length (level_needs old new xs t y) ≡ filled_slots f =
      level_news old new t named.naming (get_or oldrows t []) (get_or rows t []) (get_or xs t []) y (kept_questions old xs t) (get_or kept t []) (beside t y (fits.same 0 t (omega arith))) f k h.0
      (questions old xs) (looked t) (each_front (IsSound (questions old xs)) (questions_at new t y) (questions_below new (t + 1) (z ∷ ys)) s) in
      let rest : length (needs_from old new xs (t + 1) (z ∷ ys)) ≡ sum_by filled_slots fresh =
      news_from (t + 1) (z ∷ ys) fresh taken (next_fits y (z ∷ ys) all t fits) h.1 (each_back (IsSound (questions old xs)) (questions_at new t y) (questions_below new (t + 1) (z ∷ ys)) s) in
      omega (arith, length-append (level_needs old new xs t y) (needs_from old new xs (t + 1) (z ∷ ys)), sum_by-cons filled_slots f fresh, first, rest)

  asked_from : (t : ℕ) (ys : List (List LevelSymbol)) (fresh : List (List (Option TagAnswer))) (taken : List (List (Option ℕ))) → Fits ys all t → AreAllFound new t rows xs kept ys fresh taken
      → length (questions_below new t ys) ≡ sum_by filled_slots fresh + sum_by filled_slots taken
  asked_from t [] fresh taken fits h = let a : sum_by filled_slots fresh ≡ 0 = ap (sum_by filled_slots) h.0 in let b : sum_by filled_slots taken ≡ 0 = ap (sum_by filled_slots) h.1 in omega (arith, a, b)
  asked_from t (y ∷ []) fresh taken fits h = let a : sum_by filled_slots fresh ≡ 0 = ap (sum_by filled_slots) h.0 in let b : sum_by filled_slots taken ≡ 0 = ap (sum_by filled_slots) h.1 in omega (arith, a, b)
  asked_from t (y ∷ z ∷ ys) [] taken fits h = absurd h
  asked_from t (y ∷ z ∷ ys) (f ∷ fresh) [] fits h = absurd h
  asked_from t (y ∷ z ∷ ys) (f ∷ fresh) (k ∷ taken) fits h =
      let first : length (questions_at new t y) ≡ filled_slots f + filled_slots k =
      level_asked old new t named.naming (get_or oldrows t []) (get_or rows t []) (get_or xs t []) y (kept_questions old xs t) (get_or kept t []) (beside t y (fits.same 0 t (omega arith))) f k h.0 in
      let rest : length (questions_below new (t + 1) (z ∷ ys)) ≡ sum_by filled_slots fresh + sum_by filled_slots taken = asked_from (t + 1) (z ∷ ys) fresh taken (next_fits y (z ∷ ys) all t fits) h.1 in
      omega (arith, length-append (questions_at new t y) (questions_below new (t + 1) (z ∷ ys)), sum_by-cons filled_slots f fresh, sum_by-cons filled_slots k taken, first, rest)

all_fit : (all : List (List LevelSymbol)) → Fits all all 0
all_fit all = record { same = λ i n e. let k : n ≡ i = omega (arith, e) in ap (λ n. get_or all n []) k }

module _ (old new : System) (xs ys : List (List LevelSymbol)) (oldrows rows : List (List Spotted)) (kept fresh : List (List (Option TagAnswer))) (taken : List (List (Option ℕ))) (h : AreCompared old new xs ys oldrows rows kept fresh taken) where
  all_sound : Each (IsSound (questions old xs)) (questions new ys)
  all_sound = each_of (IsSound (questions old xs)) (questions new ys) (λ i q g. (answered old new xs ys (derived_of old xs h.old_levels) (derived_of new ys h.new_levels) i q g).0)

  pub counted_news : need (questions old xs) (questions new ys) ≡ sum_by filled_slots fresh
  counted_news =
      sym (length-filter (is_needed (questions old xs)) (questions new ys))
      ∙ ap length (of_levels old new xs (distinct_of old xs h.old_levels) 0 ys)
      ∙ news_from old new xs ys oldrows rows kept h.old_levels h.new_levels h.named h.old_keys h.new_keys h.slots 0 ys fresh taken (all_fit ys) h.found all_sound

  pub counted_all : length (questions new ys) ≡ sum_by filled_slots fresh + sum_by filled_slots taken
  counted_all = asked_from old new xs ys oldrows rows kept h.old_levels h.new_levels h.named h.old_keys h.new_keys h.slots 0 ys fresh taken (all_fit ys) h.found
