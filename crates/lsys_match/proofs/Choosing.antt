-- What is told of the rules that are still to be tried, and of all.
use Rattle.std.proofs.Common.{zero, suc, Option, Some, None, slice_get, ◌≡◌, ℕ, ℤ, List, [], ◌∷◌, ◌++◌, ◌+◌, ◌≤◌, length, take, drop, refl, ap, sym, ◌∙◌, subst, arith, append_assoc, append-nil, length-append}
use Rattle.std.specs.Prelude.{Result, Ok, Err, IfOk}
use Rattle.std.proofs.lemmas.List.{take_all, length-map, take-append-drop}
use Rattle.lsys_spec.specs.Bodies.{Body}
use Rattle.lsys_spec.specs.Walks.{Told, Found, Entry, says, followed}
use Rattle.lsys_spec.specs.Choice.{Tried, Outcome, No, Yes, Fails, Choice, NoRule, Chosen, Failed, Fault, Applying, outcome, decided, after_rule, found_with, picked, pick_among, applying_at}
use Rattle.lsys_spec.specs.Meaning.{most_entries}
use Rattle.lsys_walks.specs.Noted.{Noted, entry_by}
use Rattle.lsys_walks.specs.Walked.{ReadsFront}
use Rattle.lsys_match.specs.Sites.{Site, rule_told, first_told, all_told}
use Rattle.lsys_match.specs.Tries.{IsTried, MayGoOn, entries_by, tried_so_far}
use Rattle.lsys_match.specs.Choices.{IsTold, IsFrontOf}

-- these were read, and the rest is still to be told
pub record Leads {A : Type 0} (whole rest : Told A) (now : List Entry) : Type 0 where
  pub entries : whole.entries ≡ now ++ rest.entries
  pub answer : whole.answer ≡ rest.answer

module _ {A : Type 0} (whole : Told A) (t : Told Found) (old new : List Entry) where
  pub leads_on : (x : Told A) → Leads whole (followed t x) old → new ≡ old ++ t.entries → Leads whole x new
  leads_on x h e = record { entries = h.entries ∙ sym (append_assoc old t.entries x.entries) ∙ ap (λ es. es ++ x.entries) (sym e); answer = h.answer }

  pub leads_end : (a : A) → Leads whole (followed t (says a)) old → new ≡ take (most_entries + 1) (old ++ t.entries) → IsTold whole new a
  leads_end a h e = record { answer = h.answer; read_is = e ∙ ap (take (most_entries + 1)) (sym (h.entries ∙ ap (λ es. old ++ es) (append-nil t.entries))) }

  pub leads_front : (x : Told A) → Leads whole (followed t x) old → ReadsFront t old new → IsFrontOf whole.entries new
  leads_front x h f = (f.0 ++ x.entries, h.entries ∙ sym (append_assoc old t.entries x.entries) ∙ ap (λ es. es ++ x.entries) f.1 ∙ append_assoc new f.0 x.entries)

pub leads_all : {A : Type 0} (whole : Told A) (a : A) (now : List Entry) → Leads whole (says a) now → length now ≤ most_entries → IsTold whole now a
leads_all whole a now h n = record { answer = h.answer; read_is = sym (take_all (most_entries + 1) whole.entries (let e : length whole.entries ≡ length now = ap length (h.entries ∙ append-nil now) in omega (arith, e, n)) ∙ h.entries ∙ append-nil now) }

-- after a rule that was read whole
pub so_far_on : (place : ℕ) (old new : List Noted) (t : Told Found) (naming : ℕ → List ℕ) → entries_by naming new ≡ entries_by naming old ++ t.entries → after_rule (tried_so_far place old) t ≡ tried_so_far (place + 1) new
so_far_on place old new t naming e =
    let n : length new ≡ length old + length t.entries = sym (length-map new (entry_by naming)) ∙ ap length e ∙ length-append (entries_by naming old) t.entries ∙ ap (λ k. k + length t.entries) (length-map old (entry_by naming)) in
    ap (λ k. record { place = place + 1; read = k }) (sym n)

module _ (naming : ℕ → List ℕ) (s : Site) (place : ℕ) (b : Body) (bs rest : List Body) (old new : List Noted) (at : drop place bs ≡ b ∷ rest) where
  abbrev d : Tried
  d = tried_so_far place old

  abbrev t : Told Found
  t = rule_told naming s d b

  abbrev es : List Noted → List Entry
  es ns = entries_by naming ns

  module _ (whole : Told Choice) (h : Leads whole (first_told naming s d (drop place bs)) (es old)) where
    first_by : (o : Outcome) → outcome most_entries d b t ≡ o → Leads whole (followed t (decided o place (first_told naming s (after_rule d t) rest))) (es old)
    first_by o e = subst (λ o. Leads whole (followed t (decided o place (first_told naming s (after_rule d t) rest))) (es old)) e (subst (λ bs. Leads whole (first_told naming s d bs) (es old)) at h)

    pub first_no : IsTried t d b (es old) (es new) No → Leads whole (first_told naming s (tried_so_far (place + 1) new) rest) (es new)
    first_no i = subst (λ d. Leads whole (first_told naming s d rest) (es new)) (so_far_on place old new t naming i.all.0) (leads_on whole t (es old) (es new) (first_told naming s (after_rule d t) rest) (first_by No i.answer) i.all.0)

    pub first_yes : (values : List ℤ) → IsTried t d b (es old) (es new) (Yes values) → IsTold whole (es new) (Chosen place values)
    first_yes values i = leads_end whole t (es old) (es new) (Chosen place values) (first_by (Yes values) i.answer) i.read

    pub first_fails : (k : Fault) → IsTried t d b (es old) (es new) (Fails k) → IsTold whole (es new) (Failed k)
    first_fails k i = leads_end whole t (es old) (es new) (Failed k) (first_by (Fails k) i.answer) i.read

    pub first_front : ReadsFront t (es old) (es new) → IsFrontOf whole.entries (es new)
    first_front f = leads_front whole t (es old) (es new) (decided (outcome most_entries d b t) place (first_told naming s (after_rule d t) rest)) (first_by (outcome most_entries d b t) refl) f

pub first_none : (naming : ℕ → List ℕ) (s : Site) (place : ℕ) (bs : List Body) (now : List Noted) (whole : Told Choice) → drop place bs ≡ [] → Leads whole (first_told naming s (tried_so_far place now) (drop place bs)) (entries_by naming now) → length now ≤ most_entries
    → IsTold whole (entries_by naming now) NoRule
first_none naming s place bs now whole at h n =
    leads_all whole NoRule (entries_by naming now) (subst (λ bs. Leads whole (first_told naming s (tried_so_far place now) bs) (entries_by naming now)) at h) (omega (arith, n, length-map now (entry_by naming)))

-- groups with weights

may_go_on : (o : Outcome) (t : Told Found) (old new : List Entry) (found more : List Applying) (place : ℕ) (b : Body) → found_with found place b o ≡ Ok more → MayGoOn o t old new → (new ≡ old ++ t.entries) × (length new ≤ most_entries)
may_go_on No t old new found more place b e m = m
may_go_on (Yes values) t old new found more place b e m = m
may_go_on (Fails k) t old new found more place b e m = let no : Err k ≡ Ok more = e in cc no

module _ (naming : ℕ → List ℕ) (s : Site) (place : ℕ) (b : Body) (bs rest : List Body) (old new : List Noted) (at : drop place bs ≡ b ∷ rest) (found : List Applying) (o : Outcome) where
  abbrev td : Tried
  td = tried_so_far place old

  abbrev tt' : Told Found
  tt' = rule_told naming s td b

  abbrev all_from : Tried → Result (List Applying) Fault → Told (Result (List Applying) Fault)
  all_from d r = all_told naming s d r rest

  module _ (whole : Told (Result (List Applying) Fault)) (h : Leads whole (all_told naming s td (Ok found) (drop place bs)) (entries_by naming old)) (i : IsTried tt' td b (entries_by naming old) (entries_by naming new) o) where
    all_by : (r : Result (List Applying) Fault) → found_with found place b o ≡ r → Leads whole (followed tt' (all_from (after_rule td tt') r)) (entries_by naming old)
    all_by r e = subst (λ r. Leads whole (followed tt' (all_from (after_rule td tt') r)) (entries_by naming old)) (ap (found_with found place b) i.answer ∙ e) (subst (λ bs. Leads whole (all_told naming s td (Ok found) bs) (entries_by naming old)) at h)

    pub all_fails : (k : Fault) → found_with found place b o ≡ Err k → IsTold whole (entries_by naming new) (Err k)
    all_fails k e = leads_end whole tt' (entries_by naming old) (entries_by naming new) (Err k) (all_by (Err k) e) i.read

    pub all_few : (more : List Applying) → found_with found place b o ≡ Ok more → length new ≤ most_entries
    all_few more e = let m = may_go_on o tt' (entries_by naming old) (entries_by naming new) found more place b e i.all in omega (arith, m.1, length-map new (entry_by naming))

    pub all_on : (more : List Applying) → found_with found place b o ≡ Ok more → Leads whole (all_told naming s (tried_so_far (place + 1) new) (Ok more) rest) (entries_by naming new)
    all_on more e =
        let m = may_go_on o tt' (entries_by naming old) (entries_by naming new) found more place b e i.all in
        subst (λ d. Leads whole (all_from d (Ok more)) (entries_by naming new)) (so_far_on place old new tt' naming m.0) (leads_on whole tt' (entries_by naming old) (entries_by naming new) (all_from (after_rule td tt') (Ok more)) (all_by (Ok more) e) m.0)

    -- memory was wanting after the rule
    pub all_read : IsFrontOf whole.entries (entries_by naming new)
    all_read =
        let x = all_from (after_rule td tt') (found_with found place b o) in
        let all : List Entry = entries_by naming old ++ tt'.entries in
        leads_front whole tt' (entries_by naming old) (entries_by naming new) x (all_by (found_with found place b o) refl) (drop (most_entries + 1) all, sym (take-append-drop (most_entries + 1) all) ∙ ap (λ es. es ++ drop (most_entries + 1) all) (sym i.read))

  -- memory was wanting at the rule
  pub all_front : (whole : Told (Result (List Applying) Fault)) → Leads whole (all_told naming s td (Ok found) (drop place bs)) (entries_by naming old) → ReadsFront tt' (entries_by naming old) (entries_by naming new) → IsFrontOf whole.entries (entries_by naming new)
  all_front whole h f =
      leads_front whole tt' (entries_by naming old) (entries_by naming new) (all_from (after_rule td tt') (found_with found place b (outcome most_entries td b tt'))) (subst (λ bs. Leads whole (all_told naming s td (Ok found) bs) (entries_by naming old)) at h) f

pub all_none : (naming : ℕ → List ℕ) (s : Site) (place : ℕ) (bs : List Body) (now : List Noted) (found : List Applying) (whole : Told (Result (List Applying) Fault)) → drop place bs ≡ []
    → Leads whole (all_told naming s (tried_so_far place now) (Ok found) (drop place bs)) (entries_by naming now) → length now ≤ most_entries → IsTold whole (entries_by naming now) (Ok found)
all_none naming s place bs now found whole at h n =
    leads_all whole (Ok found) (entries_by naming now) (subst (λ bs. Leads whole (all_told naming s (tried_so_far place now) (Ok found) bs) (entries_by naming now)) at h) (omega (arith, n, length-map now (entry_by naming)))

-- the pick of what was told
pub picks : (key : ℕ) (t : Told (Result (List Applying) Fault)) (read : List Entry) (r : Result (List Applying) Fault) (c : Choice) → IsTold t read r → c ≡ picked key r → IsTold (pick_among key t) read c
picks key t read r c h e = record { answer = ap (picked key) h.answer ∙ sym e; read_is = h.read_is }

abbrev pub at_option : Option Applying → Choice
at_option None = NoRule
at_option (Some f) = Chosen f.place f.values

pub picked_at : (i : ℕ) (found : List Applying) → applying_at (Some i) found ≡ at_option (slice_get found i)
picked_at i [] = refl
picked_at zero (f ∷ fs) = refl
picked_at (suc i) (f ∷ fs) = picked_at i fs

-- what was told begins with what was read
pub told_front : {A : Type 0} (t : Told A) (read : List Entry) (a : A) → IsTold t read a → IsFrontOf t.entries read
told_front t read a h = (drop (most_entries + 1) t.entries, sym (take-append-drop (most_entries + 1) t.entries) ∙ ap (λ es. es ++ drop (most_entries + 1) t.entries) (sym h.read_is))

-- what holds of a good result
pub if_ok : {A E : Type 0} (r : Result A E) (P Q : A → Type 0) → ((a : A) → P a → Q a) → IfOk r P → IfOk r Q
if_ok (Ok a) P Q f h = f a h
if_ok (Err e) P Q f h = tt
