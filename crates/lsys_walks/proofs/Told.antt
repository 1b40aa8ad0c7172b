-- What was told so far, and what is still to be told.
use Rattle.std.proofs.Common.{◌≡◌, ℕ, List, [], ◌∷◌, ◌++◌, ◌+◌, ◌<◌, ◌≤◌, length, take, map, Result, Ok, Err, IfOk, OnErr, Option, Some, None, refl, ap, sym, ◌∙◌, subst, arith, append_assoc, append-nil, length-append}
use Rattle.std.specs.Prelude.{IsErrAnd}
use Rattle.std.proofs.lemmas.List.{length_push, take_at, length-map, map-append}
use Rattle.lsys_spec.specs.Levels.{ModuleValue}
use Rattle.lsys_spec.specs.Walks.{Entry, Told, says, before}
use Rattle.lsys_walks.specs.declared.walked.Walked.{Walked}
use Rattle.lsys_walks.specs.declared.walked.Walked.TheVariants.{Found, Missed, TooFar}
use Rattle.lsys_walks.specs.Noted.{Noted, entry_by}
use Rattle.lsys_walks.specs.Walked.{Walks, ReadsFront}

-- what holds whatever the result is
pub on_err : {T E : Type 0} (r : Result T E) (P : Type 0) → P → OnErr r P
on_err (Ok x) P h = tt
on_err (Err e) P h = h

-- nothing is told where the result is an error
pub on_bad : {T E : Type 0} (r : Result T E) (Q : E → Type 0) (P : T → Type 0) → IsErrAnd r Q → IfOk r P
on_bad (Ok x) Q P h = absurd h
on_bad (Err e) Q P h = tt

-- where nothing matches, nothing is kept
pub kept_as : (w : Walked) (most : ℕ) (t : Told (Option (List ModuleValue))) (old new : List Entry) (Kept Kept' : List ModuleValue → Type 0) → w ≡ Missed → Walks most t old new Kept w → Walks most t old new Kept' w
kept_as Found most t old new Kept Kept' e h = cc
kept_as Missed most t old new Kept Kept' e h = h
kept_as TooFar most t old new Kept Kept' e h = h

abbrev pub Answer : Type 0
Answer = Option (List ModuleValue)

-- more was read from here on, and the rest is still to be told; the modules that it matches are part of a whole
pub record GoesOn (here there : Told Answer) (old now : List Entry) (whole : List ModuleValue → List ModuleValue) : Type 0 where
  pub more : List Entry
  pub entries : here.entries ≡ more ++ there.entries
  pub missed : there.answer ≡ None → here.answer ≡ None
  pub found : (ms : List ModuleValue) → there.answer ≡ Some ms → here.answer ≡ Some (whole ms)
  pub added : now ≡ old ++ more

pub goes_first : (t : Told Answer) (old : List Entry) (whole : List ModuleValue → List ModuleValue) → ((ms : List ModuleValue) → whole ms ≡ ms) → GoesOn t t old old whole
goes_first t old whole same = record {
  more = [];
  entries = refl;
  missed = λ i. i;
  found = λ ms i. i ∙ ap (λ ms. Some ms) (sym (same ms));
  added = sym (append-nil old);
}

pub goes_as : (here there there' : Told Answer) (old now : List Entry) (got : List ModuleValue → List ModuleValue) → there ≡ there' → GoesOn here there old now got → GoesOn here there' old now got
goes_as here there there' old now got e g = subst (λ t. GoesOn here t old now got) e g

one_entry : (here t : Told Answer) (e : Entry) (old now : List Entry) (got : List ModuleValue → List ModuleValue) → GoesOn here (before e t) old now got → GoesOn here t old (now ++ e ∷ []) got
one_entry here t e old now got g = record {
  more = g.more ++ e ∷ [];
  entries = g.entries ∙ sym (append_assoc g.more (e ∷ []) t.entries);
  missed = g.missed;
  found = g.found;
  added = ap (λ es. es ++ e ∷ []) g.added ∙ append_assoc old g.more (e ∷ []);
}

module _ (naming : ℕ → List ℕ) where
  abbrev pub es_of : List Noted → List Entry
  es_of ns = map (entry_by naming) ns

  es_more : (now new : List Noted) (n : Noted) → new ≡ now ++ n ∷ [] → es_of new ≡ es_of now ++ entry_by naming n ∷ []
  es_more now new n a = ap es_of a ∙ map-append (entry_by naming) now (n ∷ [])

  -- there was room for what was read
  pub read_on : (here t : Told Answer) (n : Noted) (old now new : List Noted) (got : List ModuleValue → List ModuleValue) → new ≡ now ++ n ∷ []
      → GoesOn here (before (entry_by naming n) t) (es_of old) (es_of now) got → GoesOn here t (es_of old) (es_of new) got
  read_on here t n old now new got a g =
      subst (λ es. GoesOn here t (es_of old) es got) (sym (es_more now new n a)) (one_entry here t (entry_by naming n) (es_of old) (es_of now) got g)

  -- there was none
  pub read_far : (here t : Told Answer) (n : Noted) (most : ℕ) (old now new : List Noted) (got : List ModuleValue → List ModuleValue) (Kept : List ModuleValue → Type 0) → new ≡ now ++ n ∷ []
      → GoesOn here (before (entry_by naming n) t) (es_of old) (es_of now) got → length now ≤ most → most < length new → Walks most here (es_of old) (es_of new) Kept TooFar
  read_far here t n most old now new got Kept a g h l =
      let k = read_on here t n old now new got a g in
      let whole : es_of old ++ here.entries ≡ es_of new ++ t.entries =
      ap (λ es. es_of old ++ es) k.entries ∙ sym (append_assoc (es_of old) k.more t.entries) ∙ ap (λ es. es ++ t.entries) (sym k.added) in
      let grown : length new ≡ length now + 1 = ap length a ∙ length_push now n in
      let long : length (es_of new) ≡ most + 1 = length-map new (entry_by naming) ∙ omega (arith, grown, h, l) in (
        sym (ap (take (most + 1)) whole ∙ take_at (es_of new) t.entries (most + 1) long),
        let all : length (es_of old ++ here.entries) ≡ length (es_of new) + length t.entries = ap length whole ∙ length-append (es_of new) t.entries in omega (arith, all, long),
      )

  -- it ended the walk
  pub ends_missed : (here : Told Answer) (most : ℕ) (old now : List Noted) (got : List ModuleValue → List ModuleValue) (Kept : List ModuleValue → Type 0) → GoesOn here (says None) (es_of old) (es_of now) got → length now ≤ most
      → Walks most here (es_of old) (es_of now) Kept Missed
  ends_missed here most old now got Kept k h =
      (k.added ∙ ap (λ es. es_of old ++ es) (sym (append-nil k.more) ∙ sym k.entries), omega (arith, h, length-map now (entry_by naming)), k.missed refl)

  pub ends_found : (here : Told Answer) (most : ℕ) (old now : List Noted) (got : List ModuleValue → List ModuleValue) (Kept : List ModuleValue → Type 0) → GoesOn here (says (Some [])) (es_of old) (es_of now) got → length now ≤ most
      → Kept (got []) → Walks most here (es_of old) (es_of now) Kept Found
  ends_found here most old now got Kept k h b =
      (k.added ∙ ap (λ es. es_of old ++ es) (sym (append-nil k.more) ∙ sym k.entries), omega (arith, h, length-map now (entry_by naming)), got [], k.found [] refl, b)

  -- nothing was to be read, and nothing matches
  pub reads_nothing : (t : Told Answer) (most : ℕ) (old : List Noted) (Kept : List ModuleValue → Type 0) → t ≡ says None → length old ≤ most → Walks most t (es_of old) (es_of old) Kept Missed
  reads_nothing t most old Kept e h = subst (λ t. Walks most t (es_of old) (es_of old) Kept Missed) (sym e) (sym (append-nil (es_of old)), omega (arith, h, length-map old (entry_by naming)), refl)

  -- what was read so far is a front of all
  pub reads_front : (here t : Told Answer) (old now : List Noted) (got : List ModuleValue → List ModuleValue) → GoesOn here t (es_of old) (es_of now) got → ReadsFront here (es_of old) (es_of now)
  reads_front here t old now got g = (t.entries, ap (λ es. es_of old ++ es) g.entries ∙ sym (append_assoc (es_of old) g.more t.entries) ∙ ap (λ es. es ++ t.entries) (sym g.added))
