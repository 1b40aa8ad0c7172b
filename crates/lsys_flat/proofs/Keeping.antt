-- What is kept of levels, while answers come and move.
use Rattle.std.proofs.Common.{◌≡◌, ℕ, ◌+◌, ◌≤◌, inr, false, Option, Some, None, Result, Ok, Err, List, [], ◌∷◌, length, nat_lt, refl, sym, ap, ◌∙◌, subst, arith}
use Rattle.std.specs.Prelude.{OnErr, sum_by}
use Rattle.std.proofs.lemmas.Bool.Decides.{nat_tests}
use Rattle.std.proofs.lemmas.List.Sums.{sum_by-cons}
use Rattle.lsys_spec.specs.Systems.{System, opening}
use Rattle.lsys_spec.specs.Levels as L
use Rattle.lsys_spec.specs.Meaning.{meaning}
use Rattle.lsys_spec.specs.Questions.{questions, least_visits}
use Rattle.lsys_laws.proofs.KeptPlain.{opening_well}
use Rattle.lsys_level.specs.Spots.{Spotted}
use Rattle.lsys_flat.specs.Origins.{root_level}
use Rattle.lsys_flat.specs.Tagged.{AgreeAll, all_tagged}
use Rattle.lsys_walks.specs.Stores.{Store}
use Rattle.lsys_match.specs.Kept.{Kept}
use Rattle.lsys_match.specs.KeptAnswers.{HoldOwnRuns}
use Rattle.lsys_match.specs.Derivations.{AreMeant, IsCount, IsDerived, KeepsTags, Rises, StandsFor}
use Rattle.lsys_rewrite.specs.declared.count.EditCount.{EditCount}
use Rattle.lsys_flat.specs.Lines.{Descent}
use Rattle.lsys_flat.specs.Revised.{AreNamedTogether, AreOldLevels, all_spots, tags_of}
use Rattle.lsys_flat.specs.Answers.{AllStayMade, AreMadeWith, AllHoldOwnRuns, AreOwnBeside, CanTakeOver, all_moved, answer_on_level}
use Rattle.lsys_flat.specs.Slots.{AreAllFound, AreAllSlots, filled_slots}
use Rattle.lsys_flat.specs.Counted.{AreCompared, AreKeyed, all_slots_in, slots_in}
use Rattle.lsys_flat.proofs.Keys.{all_keyed}
use Rattle.lsys_flat.proofs.CountedLevels.{counted_news, counted_all}
use Rattle.lsys_flat.proofs.Moves.{levels_alike, all_can_move}
use Rattle.lsys_flat.proofs.Slots.{all_slots, all_moved_map, filled_map, told_stay}
use Rattle.lsys_flat.proofs.Visits.{least_within}
use Rattle.lsys_flat.proofs.Adding.{across, next_olds}
use Rattle.lsys_flat.proofs.Together.{named_together}
use Rattle.lsys_flat.proofs.Depths.{within}
use Rattle.lsys_flat.proofs.Showing.{keeps_tags, rows_total, stands_for, tags_total}
use Rattle.lsys_match.specs.Stored.{answer_in}
use Rattle.lsys_flat.specs.Rounds.{StayMade, entries_of}
use Rattle.lsys_flat.specs.Derived.{IsDerivation}
use Rattle.lsys_flat.specs.Drafts.{AreAllNew, AreOlds, IsPlanned, olds_from}

-- 1. the store

pub all_stay : (before after : Store) (kept : List (List (Option Kept))) → AreMadeWith before kept → StayMade before after → AllStayMade before after kept
all_stay before after kept m h = record { each = λ t p a e. h.each a (m.each t p a e) }

pub stay_made : (before after : Store) (kept : List (List (Option Kept))) → AllStayMade before after kept → AreMadeWith after kept
stay_made before after kept h = record { each = λ t p a e. (h.each t p a e).made }

pub same_told : (s : System) (limit : ℕ) (levels : List (List Spotted)) (lines : List Descent) (kept : List (List (Option Kept))) (before after : Store) → IsDerivation s limit levels lines kept before → StayMade before after
    → all_slots_in after kept ≡ all_slots_in before kept
same_told s limit levels lines kept before after k h = told_stay before after kept (all_stay before after kept k.made h)

pub kept_same : (s : System) (limit : ℕ) (levels : List (List Spotted)) (lines : List Descent) (kept : List (List (Option Kept))) (before after : Store) → IsDerivation s limit levels lines kept before → StayMade before after
    → IsDerivation s limit levels lines kept after
kept_same s limit levels lines kept before after k h = record {
  spelled = k.spelled;
  meant = k.meant;
  is = k.is;
  small = k.small;
  olds = k.olds;
  view = k.view;
  slots = subst (AreAllSlots s 0 levels k.meant) (sym (same_told s limit levels lines kept before after k h)) k.slots;
  made = stay_made before after kept (all_stay before after kept k.made h);
  own = k.own;
}

-- 2. the opening system

none_over : (m : ℕ) → nat_lt m 0 ≡ false
none_over m = grind (arith, nat_tests)

nothing_at : (t p : ℕ) (a : Kept) → answer_on_level [] t p ≡ Some a → ⊥
nothing_at t p a e = let no : None ≡ Some a = e in cc

pub opens : (limit : ℕ) (store : Store) → limit ≤ 1000000 → IsDerivation opening limit ([] ∷ []) (record { origins = []; tags = [] } ∷ []) [] store
opens limit store small = record {
  spelled = opening_well.1;
  meant = [] ∷ [];
  is = rw (none_over limit) refl;
  small = small;
  olds = record { distinct = (tt, tt); lines = (tt, refl, tt); agree = tt };
  view = refl;
  slots = refl;
  made = record { each = λ t p a e. absurd (nothing_at t p a e) };
  own = record { each = λ t p u q a b e f apart. absurd (nothing_at t p a e) };
}

pub on_err : {T E P : Type 0} → (r : Result T E) → P → OnErr r P
on_err (Ok x) p = tt
on_err (Err e) p = p

-- 3. what stands for the levels

pub derived : (s : System) (limit : ℕ) (levels : List (List Spotted)) (lines : List Descent) (kept : List (List (Option Kept))) (store : Store) → IsDerivation s limit levels lines kept store → IsDerived s limit levels
derived s limit levels lines kept store k = record { meant = k.meant; is = k.is; view = subst (StandsFor s.seed k.meant) (sym k.view) (stands_for s.seed k.meant lines k.olds) }

pub few_tags : (s : System) (limit : ℕ) (levels : List (List Spotted)) (lines : List Descent) (kept : List (List (Option Kept))) (store : Store) → IsDerivation s limit levels lines kept store → sum_by length (tags_of lines) ≤ 1000000
few_tags s limit levels lines kept store k =
    let few : sum_by length k.meant ≤ limit = within s limit s.depth k.meant k.is in
    let same : sum_by length (tags_of lines) ≡ sum_by length k.meant = tags_total root_level k.meant lines k.olds.lines in
    let small : limit ≤ 1000000 = k.small in
    omega (arith, few, same, small)

pub all_tags : (s : System) (limit : ℕ) (levels : List (List Spotted)) (lines : List Descent) (kept : List (List (Option Kept))) (store : Store) → IsDerivation s limit levels lines kept store → sum_by length (tags_of lines) ≡ sum_by length levels
all_tags s limit levels lines kept store k = tags_total root_level k.meant lines k.olds.lines ∙ sym (rows_total s.seed root_level k.meant lines k.olds.lines) ∙ ap (sum_by length) (sym k.view)

-- 4. an edit

filled_told : (store : Store) (fresh : List (List (Option Kept))) → sum_by filled_slots (all_slots_in store fresh) ≡ sum_by filled_slots fresh
filled_told store [] = refl
filled_told store (f ∷ fresh) =
    let here : filled_slots (slots_in store f) ≡ filled_slots f = filled_map (answer_in store) f in
    let rest : sum_by filled_slots (all_slots_in store fresh) ≡ sum_by filled_slots fresh = filled_told store fresh in
    omega (arith, sum_by-cons filled_slots (slots_in store f) (all_slots_in store fresh), sum_by-cons filled_slots f fresh, here, rest)

-- the levels of a changed system were planned beside those that are kept
pub record IsEdit (old new : System) (limit : ℕ) (levels : List (List Spotted)) (lines : List Descent) (kept : List (List (Option Kept))) (begin store : Store) (before after : ℕ)
    (view : List (List Spotted)) (newlines : List Descent) (fresh : List (List (Option Kept))) (taken : List (List (Option ℕ))) (count : EditCount) : Type 0 where
  pub was : IsDerivation old limit levels lines kept begin
  pub plan : IsPlanned new limit (olds_from was.meant lines kept begin) store before after view newlines fresh taken count
  pub news : AreAllNew begin store fresh

pub edited : (old new : System) (limit : ℕ) (levels : List (List Spotted)) (lines lent : List Descent) (kept lists : List (List (Option Kept))) (begin store : Store) (before after : ℕ) (view : List (List Spotted)) (newlines : List Descent)
    (fresh : List (List (Option Kept))) (taken : List (List (Option ℕ))) (count : EditCount) → IsDerivation old limit levels lines kept begin → lent ≡ lines → lists ≡ kept
    → ((xs : List (List L.LevelSymbol)) → AreOlds limit (olds_from xs lent lists begin) → IsPlanned new limit (olds_from xs lent lists begin) store before after view newlines fresh taken count) → AreAllNew begin store fresh
    → IsEdit old new limit levels lines kept begin store before after view newlines fresh taken count
edited old new limit levels lines lent kept lists begin store before after view newlines fresh taken count k e f planned news =
    let there : (xs : List (List L.LevelSymbol)) → AreOlds limit (olds_from xs lines kept begin) → IsPlanned new limit (olds_from xs lines kept begin) store before after view newlines fresh taken count =
    subst (λ lists. (xs : List (List L.LevelSymbol)) → AreOlds limit (olds_from xs lines lists begin) → IsPlanned new limit (olds_from xs lines lists begin) store before after view newlines fresh taken count) f
    (subst (λ lent. (xs : List (List L.LevelSymbol)) → AreOlds limit (olds_from xs lent lists begin) → IsPlanned new limit (olds_from xs lent lists begin) store before after view newlines fresh taken count) e planned) in
    record { was = k; plan = there k.meant (record { old = old; meant = k.is; small = k.small; olds = k.olds; made = k.made }); news = news }

module _ (old new : System) (limit : ℕ) (levels : List (List Spotted)) (lines : List Descent) (kept : List (List (Option Kept))) (begin store : Store) (before after : ℕ) (view : List (List Spotted)) (newlines : List Descent)
    (fresh : List (List (Option Kept))) (taken : List (List (Option ℕ))) (count : EditCount) (h : IsEdit old new limit levels lines kept begin store before after view newlines fresh taken count) where
  found : AreAllFound new 0 view h.was.meant (all_slots_in store kept) h.plan.ys (all_slots_in store fresh) taken
  found =
      subst (λ olds. AreAllFound new 0 view h.was.meant olds h.plan.ys (all_slots_in store fresh) taken) (sym (same_told old limit levels lines kept begin store h.was h.news.stay)) h.plan.found

  beside : AreOwnBeside kept fresh
  beside = record {
    each = λ t p u q a b e f.
        let own : HoldOwnRuns b a = h.news.beside u q b a f (h.was.made.each t p a e) in record { entries = λ n g k. own.entries n k g; values = λ n g k. own.values n k g };
  }

  pub can_take : CanTakeOver store kept fresh taken
  can_take = record {
    olds_made = stay_made begin store kept (all_stay begin store kept h.was.made h.news.stay);
    fresh_made = h.news.made;
    olds_own = h.was.own;
    fresh_own = h.news.own;
    beside = beside;
    levels = levels_alike new store view h.was.meant h.plan.ys kept fresh taken found;
    places = λ t. all_can_move new store view h.was.meant kept h.plan.ys fresh taken h.plan.is.distinct found t;
  }

  olds_after : AreOldLevels h.plan.ys newlines
  olds_after = subst (AreOldLevels h.plan.ys) h.plan.come (next_olds new.seed h.was.meant h.plan.ys h.plan.revised h.plan.is)

  view_after : view ≡ all_spots new.seed h.plan.ys (tags_of newlines)
  view_after = sym h.plan.seen ∙ h.plan.is.view ∙ ap (λ ls. all_spots new.seed h.plan.ys (tags_of ls)) h.plan.come

  pub kept_after : (now : List (List (Option Kept))) (end : Store) → now ≡ all_moved kept fresh taken → AllStayMade store end now → AllHoldOwnRuns now → IsDerivation new limit view newlines now end
  kept_after now end e stay own = record {
    spelled = h.plan.spelled;
    meant = h.plan.ys;
    is = h.plan.meant;
    small = h.was.small;
    olds = olds_after;
    view = view_after;
    slots =
        let same : all_slots_in end now ≡ all_moved (all_slots_in store kept) (all_slots_in store fresh) taken =
        told_stay store end now stay ∙ ap (all_slots_in store) e ∙ all_moved_map (answer_in store) 0 kept fresh taken in
        subst (AreAllSlots new 0 view h.plan.ys) (sym same) (all_slots new view h.was.meant (all_slots_in store kept) 0 h.plan.ys (all_slots_in store fresh) taken found);
    made = stay_made store end now stay;
    own = own;
  }

  pub derived_after : IsDerived new limit view
  derived_after = record { meant = h.plan.ys; is = h.plan.meant; view = subst (StandsFor new.seed h.plan.ys) (sym view_after) (stands_for new.seed h.plan.ys newlines olds_after) }

  agree : AgreeAll (all_tagged 0 h.was.meant (tags_of lines)) (all_tagged 0 h.plan.ys (tags_of newlines))
  agree =
      subst (λ ls. AgreeAll (all_tagged 0 h.was.meant (tags_of ls)) (all_tagged 0 h.plan.ys (tags_of newlines))) h.plan.old
      (subst (λ ms. AgreeAll (all_tagged 0 h.was.meant (tags_of h.plan.revised.old_lines)) (all_tagged 0 h.plan.ys (tags_of ms))) h.plan.come (across new.seed h.was.meant h.plan.ys h.plan.revised h.plan.is))

  tags_kept : KeepsTags h.was.meant h.plan.ys levels view
  tags_kept =
      subst (λ olds. KeepsTags h.was.meant h.plan.ys olds view) (sym h.was.view)
      (subst (KeepsTags h.was.meant h.plan.ys (all_spots old.seed h.was.meant (tags_of lines))) (sym view_after)
      (keeps_tags old.seed new.seed h.was.meant h.plan.ys lines newlines h.was.olds.lines olds_after.lines agree))

  named : AreNamedTogether h.was.meant h.plan.ys levels view
  named =
      subst (λ olds. AreNamedTogether h.was.meant h.plan.ys olds view) (ap (λ ls. all_spots old.seed h.was.meant (tags_of ls)) h.plan.old ∙ sym h.was.view)
      (subst (AreNamedTogether h.was.meant h.plan.ys (all_spots old.seed h.was.meant (tags_of h.plan.revised.old_lines))) h.plan.seen (named_together old.seed new.seed h.was.meant h.plan.ys h.plan.revised h.plan.is))

  counted : AreCompared old new h.was.meant h.plan.ys levels view (all_slots_in begin kept) (all_slots_in store fresh) taken
  counted = record {
    old_levels = record { spelled = h.was.spelled; levels = inr (limit, h.was.is) };
    new_levels = record { spelled = h.plan.spelled; levels = inr (limit, h.plan.meant) };
    named = named;
    old_keys = subst (AreKeyed old.seed h.was.meant) (sym h.was.view) (all_keyed old.seed h.was.meant lines h.was.olds);
    new_keys = subst (AreKeyed new.seed h.plan.ys) (sym view_after) (all_keyed new.seed h.plan.ys newlines olds_after);
    slots = h.was.slots;
    found = h.plan.found;
  }

  is_count : IsCount (questions old h.was.meant) (questions new h.plan.ys) count
  is_count = record {
    asked = h.plan.asked ∙ sym (filled_told store fresh) ∙ sym (counted_news old new h.was.meant h.plan.ys levels view (all_slots_in begin kept) (all_slots_in store fresh) taken counted);
    questions =
        h.plan.all ∙ ap (λ n. n + sum_by filled_slots taken) (sym (filled_told store fresh))
        ∙ sym (counted_all old new h.was.meant h.plan.ys levels view (all_slots_in begin kept) (all_slots_in store fresh) taken counted);
  }

  is_read : Rises (least_visits (questions old h.was.meant) (questions new h.plan.ys)) (entries_of (questions new h.plan.ys)) before after
  is_read =
      let least : least_visits (questions old h.was.meant) (questions new h.plan.ys) ≤ entries_of (questions new h.plan.ys) = least_within (questions old h.was.meant) (questions new h.plan.ys) in
      let all : after ≡ before + entries_of (questions new h.plan.ys) = h.plan.read in
      record { from = omega (arith, least, all); to = omega (arith, all) }

  same_old : (x : List (List L.LevelSymbol)) → meaning old limit ≡ Ok x → h.was.meant ≡ x
  same_old x e = let both : Ok h.was.meant ≡ Ok x = sym h.was.is ∙ e in cc

  same_new : (y : List (List L.LevelSymbol)) → meaning new limit ≡ Ok y → h.plan.ys ≡ y
  same_new y e = let both : Ok h.plan.ys ≡ Ok y = sym h.plan.meant ∙ e in cc

  pub tags_after : (x y : List (List L.LevelSymbol)) → AreMeant old new limit x y → KeepsTags x y levels view
  tags_after x y m = subst (λ x. KeepsTags x y levels view) (same_old x m.before) (subst (λ y. KeepsTags h.was.meant y levels view) (same_new y m.after) tags_kept)

  pub count_after : (x y : List (List L.LevelSymbol)) → AreMeant old new limit x y → IsCount (questions old x) (questions new y) count
  count_after x y m =
      subst (λ x. IsCount (questions old x) (questions new y) count) (same_old x m.before) (subst (λ y. IsCount (questions old h.was.meant) (questions new y) count) (same_new y m.after) is_count)

  pub read_after : (x y : List (List L.LevelSymbol)) → AreMeant old new limit x y → Rises (least_visits (questions old x) (questions new y)) (entries_of (questions new y)) before after
  read_after x y m =
      subst (λ x. Rises (least_visits (questions old x) (questions new y)) (entries_of (questions new y)) before after) (same_old x m.before)
      (subst (λ y. Rises (least_visits (questions old h.was.meant) (questions new y)) (entries_of (questions new y)) before after) (same_new y m.after) is_read)
