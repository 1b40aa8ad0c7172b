-- What a level's questions and the next level make of a draft.
use Rattle.std.proofs.Common.{◌≡◌, ℕ, ◌+◌, ◌*◌, ◌<◌, ◌≤◌, Option, Some, None, Result, Ok, Err, List, [], ◌∷◌, ◌++◌, length, get_or, refl, sym, ap, ◌∙◌, subst, arith}
use Rattle.std.specs.Prelude.{OnOk, IfErr, sum_by}
use Rattle.std.proofs.lemmas.List.{length_push}
use Rattle.std.proofs.lemmas.List.Sums.{sum_by_push, sum_by-cons}
use Rattle.lsys_spec.specs.Systems.{System}
use Rattle.lsys_spec.specs.Levels.{LevelSymbol}
use Rattle.lsys_laws.specs.Sessions.{IsWell}
use Rattle.lsys_level.specs.Spots.{Spotted, spots_at}
use Rattle.lsys_walks.specs.Stores.{Store}
use Rattle.lsys_match.specs.Kept.{Kept}
use Rattle.lsys_match.specs.Derivations.{Rises, most_read, IsLevelRefusal}
use Rattle.lsys_match.specs.TagQuestions.{TagAnswer}
use Rattle.lsys_rewrite.specs.declared.refusal.DeriveRefusal.{DeriveRefusal}
use Rattle.lsys_flat.specs.Grown.{IsMadeWithin}
use Rattle.lsys_flat.specs.declared.level.Level.{Level}
use Rattle.lsys_flat.specs.Lines.{Descent}
use Rattle.lsys_rewrite.specs.declared.count.EditCount.{EditCount}
use Rattle.lsys_flat.specs.Slots.{AreAllFound, filled_slots}
use Rattle.lsys_flat.specs.Counted.{all_slots_in}
use Rattle.lsys_flat.specs.Answers.{AreMadeWith, at_level}
use Rattle.lsys_flat.specs.Rounds.{AskedTo, StayMade, IsAt, IsNoRound, IsRound, Rounded, answers_told, inquiry}
use Rattle.lsys_flat.proofs.News.{filled_most}
use Rattle.lsys_flat.specs.Drafts.{AreAllNew, AreOlds, CanAddNext, IsEmpty, IsPlanned, Drafted, HasAsked, HasAskedLevels, IsLevelAdded, IsDraft, olds_from}
use Rattle.lsys_flat.proofs.Depths.{within}
use Rattle.lsys_flat.proofs.DraftingAnswers.{more_new, set_level}
use Rattle.lsys_flat.proofs.DraftingNext.{is_seen, few_found, round_refused, over, can_add, draft_now}

no_round : {A : Type 0} (s : System) (t : ℕ) (row : List Spotted) (x : List LevelSymbol) (olds : List (Option TagAnswer)) (mates : List (Option ℕ)) (store : Store) (r : Rounded) (v w : ℕ) (done : Result A DeriveRefusal) (e : DeriveRefusal) → done ≡ Err e → IsRound (inquiry s t row x olds mates) store r v w done → IsNoRound s t x v w e
no_round s t row x olds mates store r v w (Ok a) e is k = cc
no_round s t row x olds mates store r v w (Err d) e is k = let same : d ≡ e = cc in subst (IsNoRound s t x v w) same k

whole_round : {A : Type 0} (s : System) (t : ℕ) (row : List Spotted) (x : List LevelSymbol) (olds : List (Option TagAnswer)) (mates : List (Option ℕ)) (store : Store) (r : Rounded) (v w : ℕ) (done : Result A DeriveRefusal) (a : A) → done ≡ Ok a → IsRound (inquiry s t row x olds mates) store r v w done → AskedTo (inquiry s t row x olds mates) store r v w (length x)
whole_round s t row x olds mates store r v w (Ok a) b is k = k
whole_round s t row x olds mates store r v w (Err d) b is k = cc

on_ok : {A : Type 0} (P : Type 0) (done : Result A DeriveRefusal) (a : A) → done ≡ Ok a → OnOk done P → P
on_ok P (Ok a) b is h = h
on_ok P (Err d) b is h = cc

-- the old levels are small
pub olds_few : (limit : ℕ) (xs : List (List LevelSymbol)) (old_lines : List Descent) (kept : List (List (Option Kept))) (store : Store) → AreOlds limit (olds_from xs old_lines kept store) → sum_by length xs ≤ 1000000
olds_few limit xs old_lines kept store h = let all = within h.old limit h.old.depth xs h.meant in omega (arith, all, h.small)

-- what was asked of an opened draft
pub asked_of : {A : Type 0} (s : System) (t : ℕ) (kept : List (Option Kept)) (mid after : Store) (v w a b : ℕ) (d opened now : Drafted) (done : Result A DeriveRefusal) (next : Option Level) → opened ≡ record d { fresh = d.fresh ++ [] ∷ []; taken = d.taken ++ [] ∷ [] }
    → HasAsked s t kept mid after v w a b opened now done next → HasAsked s t kept mid after v w a b (record d { fresh = d.fresh ++ [] ∷ []; taken = d.taken ++ [] ∷ [] }) now done next
asked_of s t kept mid after v w a b d opened now done next is h = subst (λ (opened : Drafted). HasAsked s t kept mid after v w a b opened now done next) is h

module _ {A : Type 0} (s : System) (limit : ℕ) (kept : List (List (Option Kept))) (mid after : Store) (v w a b t : ℕ) (d now : Drafted) (done : Result A DeriveRefusal) (next : Option Level)
    (ha : HasAsked s t (at_level kept t) mid after v w a b (record d { fresh = d.fresh ++ [] ∷ []; taken = d.taken ++ [] ∷ [] }) now done next) where
  pub fresh_is : length d.fresh ≡ t → now.fresh ≡ d.fresh ++ ha.rounded.fresh ∷ []
  fresh_is e = ap (λ (d : Drafted). d.fresh) ha.is ∙ set_level d.fresh ha.rounded.fresh t e

  taken_is : length d.taken ≡ t → now.taken ≡ d.taken ++ ha.rounded.taken ∷ []
  taken_is e = ap (λ (d : Drafted). d.taken) ha.is ∙ set_level d.taken ha.rounded.taken t e

  pub new_is : (begin : Store) → length d.fresh ≡ t → AreAllNew begin mid d.fresh → AreAllNew begin after now.fresh
  new_is begin e h = subst (AreAllNew begin after) (sym (fresh_is e)) (more_new begin mid after d.fresh ha.rounded.fresh h ha.new_answers)

  pub asked_is : length d.fresh ≡ t → b + sum_by filled_slots d.fresh ≡ a + sum_by filled_slots now.fresh
  asked_is e = let more = ap (sum_by filled_slots) (fresh_is e) ∙ sum_by_push (filled_slots {A = Kept}) d.fresh ha.rounded.fresh in omega (arith, more, ha.counted)

  module _ (xs : List (List LevelSymbol)) (old_lines : List Descent) (begin : Store) (before : ℕ) (h : IsDraft s limit (olds_from xs old_lines kept begin) mid before v t d) where
    pub few_is : length d.fresh ≡ t → sum_by length now.fresh ≤ limit
    few_is e =
        let more = ap (sum_by length) (fresh_is e) ∙ sum_by_push (length {A = Option Kept}) d.fresh ha.rounded.fresh in
        let few = few_found s limit xs old_lines kept begin mid before v t d h (length ha.rounded.fresh) ha.each in
        omega (arith, more, few)

    pub done_refused : (e : DeriveRefusal) → done ≡ Err e → t < s.depth → IsLevelRefusal s limit e × Rises 0 (most_read * limit) before w
    done_refused e is below =
        let r = is_seen s limit xs old_lines kept begin mid before v t d h in
        round_refused s limit xs old_lines kept begin mid before v t d h w e below (no_round s t (spots_at d.revised.view t) (get_or h.ys t []) (answers_told mid (at_level kept t)) d.revised.mates after ha.rounded v w done e is (ha.round r.naming (get_or h.ys t []) r.row_is))

    module _ (unit : A) (is : done ≡ Ok unit) where
      asked : AskedTo (inquiry s t (spots_at d.revised.view t) (get_or h.ys t []) (answers_told mid (at_level kept t)) d.revised.mates) after ha.rounded v w (length (get_or h.ys t []))
      asked =
          let r = is_seen s limit xs old_lines kept begin mid before v t d h in
          whole_round s t (spots_at d.revised.view t) (get_or h.ys t []) (answers_told mid (at_level kept t)) d.revised.mates after ha.rounded v w done unit is (ha.round r.naming (get_or h.ys t []) r.row_is)

      made : IsMadeWithin s.seed (get_or h.ys t []) asked.raw ha.rounded.next.grown.room next
      made = ha.finished s.seed (get_or h.ys t []) asked.raw asked.grown

      room : ha.rounded.next.grown.room ≡ d.room
      room = on_ok (ha.rounded.next.grown.room ≡ d.room) done unit is ha.room

      pub done_can_add : IsWell s → sum_by length xs ≤ 1000000 → limit ≤ 1000000 → CanAddNext now next
      done_can_add w_is few small =
          can_add s limit xs old_lines kept begin mid before v t d h w after (answers_told mid (at_level kept t)) ha.rounded asked room next now w_is few small (ap (λ (d : Drafted). d.revised) ha.is) (ap (λ (d : Drafted). d.room) ha.is) made

      pub add_refused : {B : Type 0} (u : ℕ) (later : Drafted) (result : Result B DeriveRefusal) → u ≡ t + 1 → t < s.depth → IsLevelAdded u next now later result → IfErr result (λ e. IsLevelRefusal s limit e × Rises 0 (most_read * limit) before w)
      add_refused u later (Ok done) n below added = tt
      add_refused {B} u later (Err e) n below added = over s limit xs old_lines kept begin mid before v t d h w after (answers_told mid (at_level kept t)) ha.rounded asked room B next e now later u n below made added

      pub going : {B : Type 0} (u : ℕ) (later : Drafted) (result : Result B DeriveRefusal) → IsLevelAdded u next now later result → IsWell s → sum_by length xs ≤ 1000000 → limit ≤ 1000000 → length d.fresh ≡ t → length d.taken ≡ t → AreAllNew begin mid d.fresh → AreMadeWith begin kept
          → OnOk result (IsDraft s limit (olds_from xs old_lines kept begin) after before w (t + 1) later)
      going {B} u later result added w_is few small each_fresh each_taken new olds_made = by result next made added
        where
          opened : now ≡ record d { fresh = d.fresh ++ ha.rounded.fresh ∷ []; taken = d.taken ++ ha.rounded.taken ∷ []; asked = now.asked; all = now.all }
          opened = λ i. record {
            revised = (ap (λ (d : Drafted). d.revised) ha.is) i;
            fresh = fresh_is each_fresh i;
            taken = taken_is each_taken i;
            room = (ap (λ (d : Drafted). d.room) ha.is) i;
            asked = now.asked;
            all = now.all;
          }

          whole : IsAt (length (spots_at d.revised.view t)) ha.rounded
          whole = on_ok (IsAt (length (spots_at d.revised.view t)) ha.rounded) done unit is ha.whole

          by : (result : Result B DeriveRefusal) (next : Option Level) → IsMadeWithin s.seed (get_or h.ys t []) asked.raw ha.rounded.next.grown.room next → IsLevelAdded u next now later result → OnOk result (IsDraft s limit (olds_from xs old_lines kept begin) after before w (t + 1) later)
          by (Err e) next k added = tt
          by (Ok done) None k added = absurd added
          by (Ok done) (Some level) k added =
              draft_now s limit xs old_lines kept begin mid before v t d h w after (answers_told mid (at_level kept t)) ha.rounded asked room level now later w_is few small k added opened whole each_fresh new ha.new_answers olds_made refl

  pub found_next : {B : Type 0} (unit : A) (u : ℕ) (later : Drafted) (result : Result B DeriveRefusal) → done ≡ Ok unit → IsLevelAdded u next now later result → HasAskedLevels t d → OnOk result (HasAskedLevels (t + 1) later)
  found_next {B} unit u later result is added f = by result next added
    where
      whole : IsAt (length (spots_at d.revised.view t)) ha.rounded
      whole = on_ok (IsAt (length (spots_at d.revised.view t)) ha.rounded) done unit is ha.whole

      by : (result : Result B DeriveRefusal) (next : Option Level) → IsLevelAdded u next now later result → OnOk result (HasAskedLevels (t + 1) later)
      by (Err e) next added = tt
      by (Ok done) None added = absurd added
      by (Ok done) (Some level) added =
          let fresh : later.fresh ≡ d.fresh ++ ha.rounded.fresh ∷ [] = ap (λ (d : Drafted). d.fresh) added.is ∙ fresh_is f.each_fresh in
          let taken : later.taken ≡ d.taken ++ ha.rounded.taken ∷ [] = ap (λ (d : Drafted). d.taken) added.is ∙ taken_is f.each_taken in
          let asked : later.asked ≡ d.asked + filled_slots ha.rounded.fresh = ap (λ (d : Drafted). d.asked) added.is ∙ ap (λ (d : Drafted). d.asked) ha.is in
          let all : later.all ≡ d.all + ha.rounded.questions = ap (λ (d : Drafted). d.all) added.is ∙ ap (λ (d : Drafted). d.all) ha.is in
          let news = ap (sum_by filled_slots) fresh ∙ sum_by_push (filled_slots {A = Kept}) d.fresh ha.rounded.fresh in
          let olds = ap (sum_by filled_slots) taken ∙ sum_by_push (filled_slots {A = ℕ}) d.taken ha.rounded.taken in
          let sums = ap (sum_by length) fresh ∙ sum_by_push (length {A = Option Kept}) d.fresh ha.rounded.fresh in
          record {
            each_fresh = ap length fresh ∙ length_push d.fresh ha.rounded.fresh ∙ ap (λ n. n + 1) f.each_fresh;
            each_taken = ap length taken ∙ length_push d.taken ha.rounded.taken ∙ ap (λ n. n + 1) f.each_taken;
            asked = omega (arith, asked, news, f.asked);
            all = omega (arith, all, news, olds, f.all, whole.questions);
            few = omega (arith, all, sums, f.few, whole.few, whole.each_fresh);
          }

-- what is kept of the old levels is still there
pub olds_still : (limit : ℕ) (xs : List (List LevelSymbol)) (old_lines : List Descent) (kept : List (List (Option Kept))) (begin store : Store) → StayMade begin store → AreOlds limit (olds_from xs old_lines kept begin) → AreOlds limit (olds_from xs old_lines kept store)
olds_still limit xs old_lines kept begin store stay h = record { old = h.old; meant = h.meant; small = h.small; olds = h.olds; made = record { each = λ t p a e. (stay.each a (h.made.each t p a e)).made } }

-- no more answers are new than there are symbols
pub few_filled : (fresh : List (List (Option Kept))) → sum_by filled_slots fresh ≤ sum_by length fresh
few_filled [] = omega arith
few_filled (f ∷ fresh) =
    let one = filled_most f in
    let more = few_filled fresh in
    omega (arith, one, more, sum_by-cons (filled_slots {A = Kept}) f fresh, sum_by-cons (length {A = Option Kept}) f fresh)

-- the limit of an empty draft is its room
pub same_limit : (limit other : ℕ) (old_lines lines : List Descent) (d : Drafted) → IsEmpty limit old_lines d → IsEmpty other lines d → other ≡ limit
same_limit limit other old_lines lines d h g = sym g.room ∙ h.room

-- a finished draft is a plan
pub is_planned : (s : System) (limit : ℕ) (xs : List (List LevelSymbol)) (old_lines : List Descent) (kept : List (List (Option Kept))) (begin store : Store) (before after : ℕ) (d : Drafted) (view : List (List Spotted)) (lines : List Descent) (fresh : List (List (Option Kept))) (taken : List (List (Option ℕ)))
    (count : EditCount) → IsWell s → IsDraft s limit (olds_from xs old_lines kept begin) store before after s.depth d → HasAskedLevels s.depth d → view ≡ d.revised.view → lines ≡ d.revised.lines → fresh ≡ d.fresh → taken ≡ d.taken → count.asked ≡ d.asked → count.questions ≡ d.all
    → IsPlanned s limit (olds_from xs old_lines kept begin) store before after view lines fresh taken count
is_planned s limit xs old_lines kept begin store before after d view lines fresh taken count well h found v l f k a q = record {
  ys = h.ys;
  meant = h.meant;
  spelled = well.1;
  revised = d.revised;
  is = h.revised;
  old = h.old;
  seen = sym v;
  come = sym l;
  found = subst (λ v. AreAllFound s 0 v xs (all_slots_in begin kept) h.ys (all_slots_in store fresh) taken) (sym v)
      (subst (λ f. AreAllFound s 0 d.revised.view xs (all_slots_in begin kept) h.ys (all_slots_in store f) taken) (sym f) (subst (AreAllFound s 0 d.revised.view xs (all_slots_in begin kept) h.ys (all_slots_in store d.fresh)) (sym k) h.found));
  asked = a ∙ found.asked ∙ ap (sum_by filled_slots) (sym f);
  all = q ∙ found.all ∙ (λ i. sum_by filled_slots (sym f i) + sum_by filled_slots (sym k i));
  read = h.read;
}
