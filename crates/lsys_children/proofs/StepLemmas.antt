-- One child after the other is placed.
use Rattle.std.proofs.Common.{◌≡◌, ◌≢◌, ◌⊎◌, ◌+◌, ◌*◌, ◌≤◌, ℕ, zero, suc, List, [], ◌∷◌, ◌++◌, length, take, drop, slice_get, Option, Some, None, refl, sym, ap, ◌∙◌, add-one, arith, inl, inr, subst}
use Rattle.std.proofs.Math.Seq.{drop-cons}
use Rattle.std.proofs.lemmas.Option.{none-some, same_Some, slice_get_within, get_or_from_slice_get}
use Rattle.lsys_spec.specs.Rows.{In, AreApart}
use Rattle.lsys_module.specs.declared.symbol.Symbol.TheVariants.{Cut}
use Rattle.lsys_level.specs.Places.{params_in}
use Rattle.lsys_region.specs.Rooms.{list_room}
use Rattle.lsys_children.specs.declared.child.Child.{Child}
use Rattle.lsys_children.specs.Children.{AreWhole, TellsIf, TellsAll, births, notes_for, params_for}
use Rattle.lsys_children.specs.Steps.{WasFound, FoundOnce}

-- 1. lists

pub drop_at : {X : Type 0} (xs : List X) (i : ℕ) (x : X) → slice_get xs i ≡ Some x → drop i xs ≡ x ∷ drop (i + 1) xs
drop_at xs i x h = rw (drop-cons xs i x (slice_get_within xs i x h)) (ap (λ y. y ∷ drop (suc i) xs) (get_or_from_slice_get xs i x x h) ∙ ap (λ n. x ∷ drop n xs) (sym (add-one i)))

pub in_push : (xs : List ℕ) (x j : ℕ) → In j (xs ++ x ∷ []) → In j xs ⊎ (j ≡ x)
in_push [] x j (inl e) = inr e
in_push [] x j (inr h) = elim h [ ]
in_push (y ∷ xs) x j (inl e) = inl (inl e)
in_push (y ∷ xs) x j (inr h) = elim (in_push xs x j h) [ inl i ↦ inl (inr i) | inr e ↦ inr e ]

pub in_old : (xs : List ℕ) (x j : ℕ) → In j xs → In j (xs ++ x ∷ [])
in_old [] x j h = absurd h
in_old (y ∷ xs) x j (inl e) = inl e
in_old (y ∷ xs) x j (inr h) = inr (in_old xs x j h)

pub in_new : (xs : List ℕ) (x : ℕ) → In x (xs ++ x ∷ [])
in_new [] x = inl refl
in_new (y ∷ xs) x = inr (in_new xs x)

pub apart_push : (xs : List ℕ) (x : ℕ) → AreApart xs → (In x xs → ⊥) → AreApart (xs ++ x ∷ [])
apart_push [] x apart out = (λ h. h, tt)
apart_push (y ∷ xs) x apart out = (
  λ h. elim (in_push xs x y h) [ inl i ↦ apart.0 i | inr e ↦ out (inl (sym e)) ],
  apart_push xs x apart.1 (λ h. out (inr h)),
)

pub found_there : (os : List (Option ℕ)) (i j : ℕ) → slice_get os i ≡ Some (Some j) → WasFound j os
found_there [] i j h = absurd (none-some (Some j) h)
found_there (o ∷ os) zero j h = inl (same_Some o (Some j) h)
found_there (o ∷ os) (suc i) j h = inr (found_there os i j h)

-- none before is the one found at a place
pub found_before : (os : List (Option ℕ)) (i j : ℕ) → FoundOnce os → slice_get os i ≡ Some (Some j) → WasFound j (take i os) → ⊥
found_before [] i j once here h = none-some (Some j) here
found_before (o ∷ os) zero j once here h = h
found_before (o ∷ os) (suc i) j once here (inl e) = once.0 j e (found_there os i j here)
found_before (o ∷ os) (suc i) j once here (inr h) = found_before os i j once.1 here h

pub whole_there : (ws : List Child) (i : ℕ) (w : Child) → AreWhole ws → slice_get ws i ≡ Some w → w.symbol ≢ Cut
whole_there [] i w whole here = absurd (none-some w here)
whole_there (v ∷ ws) zero w whole here = subst (λ (x : Child). x.symbol ≢ Cut) (same_Some v w here) whole.0
whole_there (v ∷ ws) (suc i) w whole here = whole_there ws i w whole.1 here

-- 2. counts

pub births_push : (os : List (Option ℕ)) (o : Option ℕ) → births (os ++ o ∷ []) ≡ births os + births (o ∷ [])
births_push [] None = refl
births_push [] (Some k) = refl
births_push (None ∷ os) o = omega (arith, births_push os o)
births_push (Some k ∷ os) o = births_push os o

pub notes_push : (os : List (Option ℕ)) (o : Option ℕ) → notes_for (os ++ o ∷ []) ≡ notes_for os + notes_for (o ∷ [])
notes_push [] None = refl
notes_push [] (Some k) = refl
notes_push (None ∷ os) o = omega (arith, notes_push os o)
notes_push (Some k ∷ os) o = omega (arith, notes_push os o)

pub notes_and_births : (os : List (Option ℕ)) → notes_for os + births os ≡ 2 * length os
notes_and_births [] = refl
notes_and_births (None ∷ os) = omega (arith, notes_and_births os)
notes_and_births (Some k ∷ os) = omega (arith, notes_and_births os)

pub params_push : (ws : List Child) (w : Child) → params_for (ws ++ w ∷ []) ≡ params_for ws + list_room (params_in w.symbol)
params_push [] w = omega arith
params_push (v ∷ ws) w = omega (arith, params_push ws w)

pub births_within : (os : List (Option ℕ)) (i : ℕ) (o : Option ℕ) → slice_get os i ≡ Some o → births (take i os) + births (o ∷ []) ≤ births os
births_within [] i o h = absurd (none-some o h)
births_within (None ∷ os) zero o h = let e : births (o ∷ []) ≡ 1 = ap (λ (x : Option ℕ). births (x ∷ [])) (sym (same_Some None o h)) in omega (arith, e)
births_within (Some k ∷ os) zero o h = let e : births (o ∷ []) ≡ 0 = ap (λ (x : Option ℕ). births (x ∷ [])) (sym (same_Some (Some k) o h)) in omega (arith, e)
births_within (None ∷ os) (suc i) o h = omega (arith, births_within os i o h)
births_within (Some k ∷ os) (suc i) o h = births_within os i o h

pub notes_within : (os : List (Option ℕ)) (i : ℕ) (o : Option ℕ) → slice_get os i ≡ Some o → notes_for (take i os) + notes_for (o ∷ []) ≤ notes_for os
notes_within [] i o h = absurd (none-some o h)
notes_within (None ∷ os) zero o h = let e : notes_for (o ∷ []) ≡ 1 = ap (λ (x : Option ℕ). notes_for (x ∷ [])) (sym (same_Some None o h)) in omega (arith, e)
notes_within (Some k ∷ os) zero o h = let e : notes_for (o ∷ []) ≡ 2 = ap (λ (x : Option ℕ). notes_for (x ∷ [])) (sym (same_Some (Some k) o h)) in omega (arith, e)
notes_within (None ∷ os) (suc i) o h = omega (arith, notes_within os i o h)
notes_within (Some k ∷ os) (suc i) o h = omega (arith, notes_within os i o h)

pub params_within : (ws : List Child) (i : ℕ) (w : Child) → slice_get ws i ≡ Some w → params_for (take i ws) + list_room (params_in w.symbol) ≤ params_for ws
params_within [] i w h = absurd (none-some w h)
params_within (v ∷ ws) zero w h = let e : list_room (params_in w.symbol) ≡ list_room (params_in v.symbol) = ap (λ (x : Child). list_room (params_in x.symbol)) (sym (same_Some v w h)) in omega (arith, e)
params_within (v ∷ ws) (suc i) w h = omega (arith, params_within ws i w h)

-- 3. what is told

module _ (P Q P' Q' : ℕ → Type 0) where
  tells_keep : (k : ℕ) (before after : List ℕ) → (P k → P' k) → (Q k → Q' k) → TellsIf P Q k before after → TellsIf P' Q' k before after
  tells_keep k before after p q (inl h) = inl (p h.0, h.1)
  tells_keep k before after p q (inr h) = inr (q h.0, h.1)

  pub tells_all_keep : (ks : List ℕ) (before after : List ℕ) → ((k : ℕ) → In k ks → P k → P' k) → ((k : ℕ) → In k ks → Q k → Q' k) → TellsAll P Q ks before after → TellsAll P' Q' ks before after
  tells_all_keep [] before after p q h = h
  tells_all_keep (k ∷ ks) before after p q h = (h.0, tells_keep k before h.0 (p k (inl refl)) (q k (inl refl)) h.1, tells_all_keep ks h.0 after (λ j i. p j (inr i)) (λ j i. q j (inr i)) h.2)

module _ (P Q : ℕ → Type 0) where
  pub tells_push : (ks : List ℕ) (k : ℕ) (before between after : List ℕ) → TellsAll P Q ks before between → TellsIf P Q k between after → TellsAll P Q (ks ++ k ∷ []) before after
  tells_push [] k before between after h t = (after, subst (λ b. TellsIf P Q k b after) h t, refl)
  tells_push (j ∷ ks) k before between after h t = (h.0, h.1, tells_push ks k h.0 between after h.2 t)

  pub tells_one : (k : ℕ) (before after : List ℕ) → TellsAll P Q (k ∷ []) before after → TellsIf P Q k before after
  tells_one k before after h = subst (TellsIf P Q k before) (sym h.2) h.1

  pub tells_alone : (k : ℕ) (before after : List ℕ) → TellsIf P Q k before after → TellsAll P Q (k ∷ []) before after
  tells_alone k before after t = (after, t, refl)
