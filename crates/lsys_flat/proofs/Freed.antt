-- Answers that are let go one after another.
use Rattle.std.proofs.Common.{◌≡◌, ℕ, zero, suc, ◌+◌, ◌<◌, ◌⊎◌, inl, inr, Option, Some, None, List, [], ◌∷◌, ◌++◌, length, get_or, refl, sym, ap, ◌∙◌, subst, arith}
use Rattle.std.specs.Prelude.{IfSome, Vec}
use Rattle.std.specs.declared.alloc.Global.{Global}
use Rattle.std.proofs.lemmas.List.{get_or_append_left, get_or_push, map-append}
use Rattle.lsys_region.specs.Pool.{Pool, list_at, list_of}
use Rattle.lsys_walks.specs.Stores.{Store, AreGone, AreLive, OtherTracesStay}
use Rattle.lsys_match.specs.Asks.{IsMade}
use Rattle.lsys_match.specs.Kept.{Kept}
use Rattle.lsys_match.specs.KeptAnswers.{HoldOwnRuns, StaysMade}
use Rattle.lsys_match.specs.Stored.{runs_of}
use Rattle.lsys_match.proofs.Staying.{stays_made}
use Rattle.lsys_flat.proofs.Walks.{Walk, begun_walk, next_walk, done_walk, here_in, same_in, map_walk}
use Rattle.lsys_flat.specs.Answers.{lists_of, at_level, answer_on_level, AreMadeWith, AllHoldOwnRuns, AreReleased, OthersStayMade}

-- the answers that P tells are let go, and all other runs stay
pub record Freed (before after : Store) (P : Kept → Type 0) : Type 0 where
  pub gone : (a : Kept) → P a → AreGone after (runs_of a)
  pub entries : (n : ℕ) → ((a : Kept) → P a → a.entries ≡ Some n → ⊥) → list_at after.traces n ≡ list_at before.traces n
  pub values : (n : ℕ) → ((a : Kept) → P a → a.values ≡ Some n → ⊥) → list_at after.values n ≡ list_at before.values n

-- 1. runs

run_stays : {T : Type 0} (old new : Pool T) (run : Option ℕ) → ((n : ℕ) → run ≡ Some n → list_at new n ≡ list_at old n) → list_of new run ≡ list_of old run
run_stays old new None f = refl
run_stays old new (Some n) f = f n refl

run_gone : {T : Type 0} (old new : Pool T) (run : Option ℕ) → ((n : ℕ) → run ≡ Some n → list_at new n ≡ list_at old n) → IfSome run (λ n. list_at old n ≡ None) → IfSome run (λ n. list_at new n ≡ None)
run_gone old new None f g = g
run_gone old new (Some n) f g = f n refl ∙ g

pub own_back : (a b : Kept) → HoldOwnRuns a b → HoldOwnRuns b a
own_back a b h = record { entries = λ n e f. h.entries n f e; values = λ n e f. h.values n f e }

-- 2. one after another

pub freed_none : (s : Store) (P : Kept → Type 0) → ((a : Kept) → P a → ⊥) → Freed s s P
freed_none s P f = record { gone = λ a p. absurd (f a p); entries = λ n g. refl; values = λ n g. refl }

pub freed_one : (before after : Store) (b : Kept) → AreGone after (runs_of b) → OtherTracesStay before after (runs_of b) → Freed before after (λ a. a ≡ b)
freed_one before after b h k = record {
  gone = λ a e. subst (λ (a : Kept). AreGone after (runs_of a)) (sym e) h;
  entries = λ n f. k.0 (Some n) (λ e. f b refl (sym e));
  values = λ n f. k.1 (Some n) (λ e. f b refl (sym e));
}

pub freed_then : (before mid after : Store) (P Q : Kept → Type 0) → Freed before mid P → Freed mid after Q → ((a b : Kept) → P a → Q b → HoldOwnRuns a b) → Freed before after (λ a. P a ⊎ Q a)
freed_then before mid after P Q h k own =
    record {
      gone = λ a p. by a p;
      entries = λ n f. k.entries n (λ a q e. f a (inr q) e) ∙ h.entries n (λ a p e. f a (inl p) e);
      values = λ n f. k.values n (λ a q e. f a (inr q) e) ∙ h.values n (λ a p e. f a (inl p) e);
    }
  where
    by : (a : Kept) → P a ⊎ Q a → AreGone after (runs_of a)
    by a (inl p) = (
      run_gone mid.traces after.traces a.entries (λ n e. k.entries n (λ b q f. (own a b p q).entries n e f)) (h.gone a p).0,
      run_gone mid.values after.values a.values (λ n e. k.values n (λ b q f. (own a b p q).values n e f)) (h.gone a p).1,
    )
    by a (inr q) = k.gone a q

pub freed_as : (before after : Store) (P Q : Kept → Type 0) → Freed before after P → ((a : Kept) → P a → Q a) → ((a : Kept) → Q a → P a) → Freed before after Q
freed_as before after P Q h f g = record {
  gone = λ a q. h.gone a (g a q);
  entries = λ n k. h.entries n (λ a p e. k a (f a p) e);
  values = λ n k. h.values n (λ a p e. k a (f a p) e);
}

-- what holds no run of those stays made
pub stays_freed : (before after : Store) (P : Kept → Type 0) (a : Kept) → Freed before after P → ((b : Kept) → P b → HoldOwnRuns b a) → IsMade before a → StaysMade before after a
stays_freed before after P a h own made =
    stays_made before after a
    (run_stays before.traces after.traces a.entries (λ n e. h.entries n (λ b p f. (own b p).entries n f e)))
    (run_stays before.values after.values a.values (λ n e. h.values n (λ b p f. (own b p).values n f e)))
    made

-- 3. those of one level

abbrev pub InSlots : List (Option Kept) → Kept → Type 0
InSlots slots a = (p : ℕ) × (get_or slots p None ≡ Some a)

pub none_in : (a : Kept) → InSlots [] a → ⊥
none_in a h = let no : None ≡ Some a = h.1 in cc

pub place_within : (slots : List (Option Kept)) (p : ℕ) (a : Kept) → get_or slots p None ≡ Some a → p < length slots
place_within [] p a e = let no : None ≡ Some a = e in cc
place_within (s ∷ slots) zero a e = omega arith
place_within (s ∷ slots) (suc p) a e = let r : p < length slots = place_within slots p a e in omega (arith, r)

in_push : (front : List (Option Kept)) (s : Option Kept) (a : Kept) → InSlots front a → InSlots (front ++ s ∷ []) a
in_push front s a h = (h.0, get_or_append_left front (s ∷ []) None h.0 (place_within front h.0 a h.1) ∙ h.1)

last_in : (front : List (Option Kept)) (a : Kept) → InSlots (front ++ Some a ∷ []) a
last_in front a = (length front, get_or_push front (Some a) None (length front) refl)

at_push : (front : List (Option Kept)) (s : Option Kept) (p : ℕ) (a : Kept) → get_or (front ++ s ∷ []) p None ≡ Some a → InSlots front a ⊎ (s ≡ Some a)
at_push [] s zero a e = inr e
at_push [] s (suc p) a e = let no : None ≡ Some a = e in cc
at_push (f ∷ front) s zero a e = inl (0, e)
at_push (f ∷ front) s (suc p) a e = elim (at_push front s p a e) [ inl h ↦ inl (suc h.0, h.1) | inr g ↦ inr g ]

-- the front of a level, and the answer after it
pub record IsFront (slots front : List (Option Kept)) : Type 0 where
  pub same : (p : ℕ) → p < length front → get_or front p None ≡ get_or slots p None

pub record IsOwnLevel (s : Store) (slots : List (Option Kept)) : Type 0 where
  pub made : AreMadeWith s (slots ∷ [])
  pub own : AllHoldOwnRuns (slots ∷ [])

module _ (before mid : Store) (slots front : List (Option Kept)) (b : Kept) (owns : IsOwnLevel before slots) (is : IsFront slots front) (here : get_or slots (length front) None ≡ Some b) (h : Freed before mid (InSlots front)) where
  own_after : (a : Kept) → InSlots front a → HoldOwnRuns a b
  own_after a k =
      let p : k.0 < length front = place_within front k.0 a k.1 in
      owns.own.each 0 k.0 0 (length front) a b (sym (is.same k.0 p) ∙ k.1) here (λ t e. omega (arith, p, e))

  pub slot_live : AreLive mid (runs_of b)
  slot_live = (stays_freed before mid (InSlots front) b h own_after (owns.made.each 0 (length front) b here)).made.live

  pub slot_freed : (after : Store) → AreGone after (runs_of b) → OtherTracesStay mid after (runs_of b) → Freed before after (InSlots (front ++ Some b ∷ []))
  slot_freed after g o =
      freed_as before after (λ a. InSlots front a ⊎ (a ≡ b)) (InSlots (front ++ Some b ∷ []))
      (freed_then before mid after (InSlots front) (λ a. a ≡ b) h (freed_one mid after b g o) (λ a c k e. subst (HoldOwnRuns a) (sym e) (own_after a k)))
      into back
    where
      into : (a : Kept) → InSlots front a ⊎ (a ≡ b) → InSlots (front ++ Some b ∷ []) a
      into a (inl k) = in_push front (Some b) a k
      into a (inr e) = subst (InSlots (front ++ Some b ∷ [])) (sym e) (last_in front b)

      from : (a : Kept) → InSlots front a ⊎ (Some b ≡ Some a) → InSlots front a ⊎ (a ≡ b)
      from a (inl k) = inl k
      from a (inr e) = let i : a ≡ b = cc in inr i

      back : (a : Kept) → InSlots (front ++ Some b ∷ []) a → InSlots front a ⊎ (a ≡ b)
      back a k = from a (at_push front (Some b) k.0 a k.1)

pub none_freed : (before mid : Store) (front : List (Option Kept)) → Freed before mid (InSlots front) → Freed before mid (InSlots (front ++ None ∷ []))
none_freed before mid front h =
    freed_as before mid (InSlots front) (InSlots (front ++ None ∷ [])) h (λ a k. in_push front None a k) (λ a k. from a (at_push front None k.0 a k.1))
  where
    from : (a : Kept) → InSlots front a ⊎ (None ≡ Some a) → InSlots front a
    from a (inl k) = k
    from a (inr e) = cc

-- 4. those of all levels

abbrev pub InLevels : List (List (Option Kept)) → Kept → Type 0
InLevels kept a = (t : ℕ) × InSlots (at_level kept t) a

pub none_in_levels : (a : Kept) → InLevels [] a → ⊥
none_in_levels a h = none_in a h.1

level_within : (kept : List (List (Option Kept))) (t p : ℕ) (a : Kept) → answer_on_level kept t p ≡ Some a → t < length kept
level_within [] t p a e = let no : None ≡ Some a = e in cc
level_within (k ∷ kept) zero p a e = omega arith
level_within (k ∷ kept) (suc t) p a e = let r : t < length kept = level_within kept t p a e in omega (arith, r)

in_more : (front : List (List (Option Kept))) (slots : List (Option Kept)) (a : Kept) → InLevels front a → InLevels (front ++ slots ∷ []) a
in_more front slots a h = (h.0, subst (λ s. InSlots s a) (sym (get_or_append_left front (slots ∷ []) [] h.0 (level_within front h.0 h.1.0 a h.1.1))) h.1)

in_last : (front : List (List (Option Kept))) (slots : List (Option Kept)) (a : Kept) → InSlots slots a → InLevels (front ++ slots ∷ []) a
in_last front slots a h = (length front, subst (λ s. InSlots s a) (sym (get_or_push front slots [] (length front) refl)) h)

at_more : (front : List (List (Option Kept))) (slots : List (Option Kept)) (t p : ℕ) (a : Kept) → answer_on_level (front ++ slots ∷ []) t p ≡ Some a → InLevels front a ⊎ InSlots slots a
at_more [] slots zero p a e = inr (p, e)
at_more [] slots (suc t) p a e = let no : None ≡ Some a = e in cc
at_more (f ∷ front) slots zero p a e = inl (0, (p, e))
at_more (f ∷ front) slots (suc t) p a e = elim (at_more front slots t p a e) [ inl h ↦ inl (suc h.0, h.1) | inr g ↦ inr g ]

pub record AreFront (kept front : List (List (Option Kept))) : Type 0 where
  pub same : (t : ℕ) → t < length front → at_level front t ≡ at_level kept t

of_one : (slots : List (Option Kept)) (t p : ℕ) (a : Kept) → answer_on_level (slots ∷ []) t p ≡ Some a → (t ≡ 0) × (get_or slots p None ≡ Some a)
of_one slots zero p a e = (refl, e)
of_one slots (suc t) p a e = let no : None ≡ Some a = e in cc

pub released_one : (before after : Store) (slots : List (Option Kept)) → Freed before after (InSlots slots) → AreReleased before after (slots ∷ [])
released_one before after slots h = record {
  gone = λ t p a e. h.gone a (p, (of_one slots t p a e).1);
  entries = λ n f. h.entries n (λ a k e. f 0 k.0 a k.1 e);
  values = λ n f. h.values n (λ a k e. f 0 k.0 a k.1 e);
}

freed_of_one : (before after : Store) (slots : List (Option Kept)) → AreReleased before after (slots ∷ []) → Freed before after (InSlots slots)
freed_of_one before after slots h = record {
  gone = λ a k. h.gone 0 k.0 a k.1;
  entries = λ n f. h.entries n (λ t p a e. f a (p, (of_one slots t p a e).1));
  values = λ n f. h.values n (λ t p a e. f a (p, (of_one slots t p a e).1));
}

pub released_all : (before after : Store) (kept : List (List (Option Kept))) → Freed before after (InLevels kept) → AreReleased before after kept
released_all before after kept h = record {
  gone = λ t p a e. h.gone a (t, (p, e));
  entries = λ n f. h.entries n (λ a k e. f k.0 k.1.0 a k.1.1 e);
  values = λ n f. h.values n (λ a k e. f k.0 k.1.0 a k.1.1 e);
}

pub others_stay : (before after : Store) (kept : List (List (Option Kept))) → Freed before after (InLevels kept) → OthersStayMade before after kept
others_stay before after kept h = record { each = λ a made own. stays_freed before after (InLevels kept) a h (λ b k. own k.0 k.1.0 b k.1.1) made }

module _ (before mid : Store) (kept front : List (List (Option Kept))) (slots : List (Option Kept)) (made : AreMadeWith before kept) (own : AllHoldOwnRuns kept) (is : AreFront kept front) (here : at_level kept (length front) ≡ slots) (h : Freed before mid (InLevels front)) where
  there : (p : ℕ) (b : Kept) → get_or slots p None ≡ Some b → answer_on_level kept (length front) p ≡ Some b
  there p b e = ap (λ (s : List (Option Kept)). get_or s p None) here ∙ e

  own_level_after : (a b : Kept) → InLevels front a → InSlots slots b → HoldOwnRuns a b
  own_level_after a b k l =
      let t : k.0 < length front = level_within front k.0 k.1.0 a k.1.1 in
      own.each k.0 k.1.0 (length front) l.0 a b (ap (λ (s : List (Option Kept)). get_or s k.1.0 None) (sym (is.same k.0 t)) ∙ k.1.1) (there l.0 b l.1) (λ e f. omega (arith, t, e))

  pub level_made : AreMadeWith mid (slots ∷ [])
  level_made = record {
    each = λ t p a e.
        let r = of_one slots t p a e in
        (stays_freed before mid (InLevels front) a h (λ b k. own_level_after b a k (p, r.1)) (made.each (length front) p a (there p a r.1))).made;
  }

  pub level_own : AllHoldOwnRuns (slots ∷ [])
  level_own = record {
    each = λ t p u q a b e f apart.
        let r = of_one slots t p a e in
        let s = of_one slots u q b f in
        own.each (length front) p (length front) q a b (there p a r.1) (there q b s.1) (λ i j. apart (r.0 ∙ sym s.0) j);
  }

  pub level_freed : (after : Store) → AreReleased mid after (slots ∷ []) → Freed before after (InLevels (front ++ slots ∷ []))
  level_freed after k =
      freed_as before after (λ a. InLevels front a ⊎ InSlots slots a) (InLevels (front ++ slots ∷ []))
      (freed_then before mid after (InLevels front) (InSlots slots) h (freed_of_one mid after slots k) own_level_after)
      into (λ a l. at_more front slots l.0 l.1.0 a l.1.1)
    where
      into : (a : Kept) → InLevels front a ⊎ InSlots slots a → InLevels (front ++ slots ∷ []) a
      into a (inl l) = in_more front slots a l
      into a (inr l) = in_last front slots a l

-- 5. as they are let go

pub record Releasing (before now : Store) (slots front rest : List (Option Kept)) (len : ℕ) : Type 0 where
  pub walk : Walk slots front rest len
  pub freed : Freed before now (InSlots front)

pub releasing : (s : Store) (slots rest : List (Option Kept)) (len : ℕ) → rest ≡ slots → len ≡ length slots → Releasing s s slots [] rest len
releasing s slots rest len e f = record { walk = begun_walk slots rest len e f; freed = freed_none s (InSlots []) none_in }

module _ (before mid : Store) (slots front rest : List (Option Kept)) (len : ℕ) (h : Releasing before mid slots front rest len) where
  pub released_level : len ≡ 0 → AreReleased before mid (slots ∷ [])
  released_level e = released_one before mid slots (subst (λ (f : List (Option Kept)). Freed before mid (InSlots f)) (done_walk slots front rest len h.walk e) h.freed)

  module _ (x : Option Kept) (rest' : List (Option Kept)) (len' : ℕ) (e : rest ≡ x ∷ rest') (f : len' + 1 ≡ len) where
    pub past_none : x ≡ None → Releasing before mid slots (front ++ x ∷ []) rest' len'
    past_none is = record {
      walk = next_walk slots front rest len x rest' len' h.walk e f;
      freed = subst (λ (x : Option Kept). Freed before mid (InSlots (front ++ x ∷ []))) (sym is) (none_freed before mid front h.freed);
    }

    module _ (owns : IsOwnLevel before slots) (b : Kept) (is : x ≡ Some b) where
      front_of : IsFront slots front
      front_of = record { same = λ p k. same_in slots front rest len None p h.walk k }

      here_is : get_or slots (length front) None ≡ Some b
      here_is = here_in slots front rest len x rest' None h.walk e ∙ is

      pub live_here : AreLive mid (runs_of b)
      live_here = slot_live before mid slots front b owns front_of here_is h.freed

      pub past_one : (after : Store) → AreGone after (runs_of b) → OtherTracesStay mid after (runs_of b) → Releasing before after slots (front ++ x ∷ []) rest' len'
      past_one after g o = record {
        walk = next_walk slots front rest len x rest' len' h.walk e f;
        freed = subst (λ (x : Option Kept). Freed before after (InSlots (front ++ x ∷ []))) (sym is) (slot_freed before mid slots front b owns front_of here_is h.freed after g o);
      }

-- 6. and level by level

pub record ReleasingAll (before now : Store) (levels front rest : List (Vec (Option Kept) Global)) (len : ℕ) : Type 0 where
  pub walk : Walk levels front rest len
  pub freed : Freed before now (InLevels (lists_of front))

pub releasing_all : (s : Store) (levels rest : List (Vec (Option Kept) Global)) (len : ℕ) → rest ≡ levels → len ≡ length levels → ReleasingAll s s levels [] rest len
releasing_all s levels rest len e f = record { walk = begun_walk levels rest len e f; freed = freed_none s (InLevels []) none_in_levels }

module _ (before mid : Store) (levels front rest : List (Vec (Option Kept) Global)) (len : ℕ) (h : ReleasingAll before mid levels front rest len) where
  module _ (e : len ≡ 0) where
    all_freed : Freed before mid (InLevels (lists_of levels))
    all_freed = subst (λ (f : List (Vec (Option Kept) Global)). Freed before mid (InLevels (lists_of f))) (done_walk levels front rest len h.walk e) h.freed

    pub released_levels : AreReleased before mid (lists_of levels)
    released_levels = released_all before mid (lists_of levels) all_freed

    pub others_made : OthersStayMade before mid (lists_of levels)
    others_made = others_stay before mid (lists_of levels) all_freed

  module _ (made : AreMadeWith before (lists_of levels)) (own : AllHoldOwnRuns (lists_of levels)) (x : Vec (Option Kept) Global) (rest' : List (Vec (Option Kept) Global)) (len' : ℕ) (e : rest ≡ x ∷ rest') (f : len' + 1 ≡ len) where
    lists : Walk (lists_of levels) (lists_of front) (lists_of rest) len
    lists = map_walk (λ (v : Vec (Option Kept) Global). v.items) levels front rest len h.walk

    front_levels : AreFront (lists_of levels) (lists_of front)
    front_levels = record { same = λ t k. same_in (lists_of levels) (lists_of front) (lists_of rest) len [] t lists k }

    here_level : at_level (lists_of levels) (length (lists_of front)) ≡ x.items
    here_level = here_in (lists_of levels) (lists_of front) (lists_of rest) len x.items (lists_of rest') [] lists (ap lists_of e)

    pub made_here : AreMadeWith mid (x.items ∷ [])
    made_here = level_made before mid (lists_of levels) (lists_of front) x.items made own front_levels here_level h.freed

    pub own_here : AllHoldOwnRuns (x.items ∷ [])
    own_here = level_own before mid (lists_of levels) (lists_of front) x.items made own front_levels here_level h.freed

    pub past_level : (after : Store) → AreReleased mid after (x.items ∷ []) → ReleasingAll before after levels (front ++ x ∷ []) rest' len'
    past_level after r = record {
      walk = next_walk levels front rest len x rest' len' h.walk e f;
      freed = subst (λ ls. Freed before after (InLevels ls)) (sym (map-append (λ (v : Vec (Option Kept) Global). v.items) front (x ∷ [])))
          (level_freed before mid (lists_of levels) (lists_of front) x.items made own front_levels here_level h.freed after r);
    }
