-- One symbol more is asked about and replaced.
use Rattle.std.proofs.Common.{◌≡◌, ℕ, zero, suc, ◌+◌, ◌<◌, ◌≤◌, ◌⊎◌, inl, inr, Option, Some, None, Result, Ok, Err, List, [], ◌∷◌, ◌++◌, length, refl, sym, ap, ◌∙◌, subst, arith, set, map, drop}
use Rattle.std.specs.Prelude.{ℤ, slice_get, option_map}
use Rattle.std.specs.Option.{IsSomeAnd}
use Rattle.std.proofs.lemmas.Option.{slice_get-get_or}
use Rattle.std.proofs.lemmas.List.{map-append}
use Rattle.lsys_syntax.specs.Strings as S
use Rattle.lsys_spec.specs.Draws.{key_of}
use Rattle.lsys_spec.specs.Systems.{System}
use Rattle.lsys_spec.specs.Levels as levels
use Rattle.lsys_spec.specs.Levels.{LevelSymbol, ModuleValue, lineage, plain}
use Rattle.lsys_spec.specs.Choice.{Fault}
use Rattle.lsys_spec.specs.Meaning.{children, replacement}
use Rattle.lsys_spec.specs.Questions.{Question, questions_from, questions_at}
use Rattle.lsys_level.specs.Spots.{Spotted, level_by, seen_by}
use Rattle.lsys_level.specs.Spots as Seen
use Rattle.lsys_module.specs.Views.{string_of}
use Rattle.lsys_walks.specs.Stores.{Store}
use Rattle.lsys_match.specs.Kept.{Kept}
use Rattle.lsys_match.specs.Stored.{answer_in}
use Rattle.lsys_match.specs.Asks.{IsNamedAt, StaysAsKept, by_definition}
use Rattle.lsys_match.specs.TagQuestions.{TagAnswer}
use Rattle.lsys_match.specs.declared.answer.Answer.{Answer}
use Rattle.lsys_match.specs.declared.refusal.AskRefusal.{AskRefusal}
use Rattle.lsys_flat.specs.Grown.{HasGrown}
use Rattle.lsys_flat.specs.Steps.{ReplacedTo, modules_up_to}
use Rattle.lsys_flat.proofs.Stepping.{goes_on}
use Rattle.lsys_flat.specs.declared.found.SymbolAnswer.{SymbolAnswer}
use Rattle.lsys_flat.specs.declared.found.SymbolAnswer.TheVariants as found
use Rattle.lsys_flat.specs.Replaced.{IsSymbolAt, IsAsked, IsRecalled, IsReplaced, KeepsFound}
use Rattle.lsys_laws.specs.KeptQuestions.{question_here}
use Rattle.lsys_flat.specs.Slots.{IsFoundOut, slot_by_place, slot_where_told}
use Rattle.lsys_flat.specs.Rounds.{ShowsLevel, IsAt, AreMadeAt, AreNew, StayMade, Rounded, AskedTo, Replaces, answers_told, entries_of, seen_alone, seen_modules, string_found, fresh_found, taken_found, modules_found, settled, inquiry}
use Rattle.lsys_flat.proofs.Seen.{symbol_there, alone_plain, row_length}
use Rattle.lsys_flat.proofs.Entries.{entries_if, entries_here, read_ok}
use Rattle.lsys_flat.proofs.News.{all_stay, stay_then, stay_kept, stay_new, told_still, slot_told, slot_before, slot_last, set_last}
use Rattle.lsys_flat.proofs.Finding.{Recalls, found_stays, found_new, found_same, recalled_same, other_question}

-- what replaces it
pub string_here : {L : Type 0} (r : Result (List (S.Symbol ℤ)) Fault) (a : LevelSymbol) (old : Option Kept) (f : SymbolAnswer L) → IsReplaced r a old (Ok f) → r ≡ Ok (string_found (seen_by a) old f)
string_here r a old found.Stays h = h ∙ ap (λ ys. Ok ys) (sym (alone_plain a))
string_here r a None found.Same h = absurd h
string_here r a (Some o) found.Same h = h
string_here r a old (found.New b) h = h

-- only modules have questions
pub modules_here : {L : Type 0} (s : System) (t : ℕ) (x : List LevelSymbol) (p : ℕ) (a : LevelSymbol) (f : SymbolAnswer L) (v w n : ℕ) → IsAsked (question_here s t x p a) v w (Ok f) → n + modules_found (seen_by a) f ≡ modules_up_to a n
modules_here s t x p (levels.Push l) found.Stays v w n h = omega arith
modules_here s t x p (levels.Push l) found.Same v w n h = absurd h
modules_here s t x p (levels.Push l) (found.New b) v w n h = absurd h
modules_here s t x p (levels.Pop l) found.Stays v w n h = omega arith
modules_here s t x p (levels.Pop l) found.Same v w n h = absurd h
modules_here s t x p (levels.Pop l) (found.New b) v w n h = absurd h
modules_here s t x p (levels.Module l m) found.Stays v w n h = refl
modules_here s t x p (levels.Module l m) found.Same v w n h = refl
modules_here s t x p (levels.Module l m) (found.New b) v w n h = refl

pub stay_found : {L : Type 0} (mid after : Store) (old : Option Kept) (f : SymbolAnswer L) → KeepsFound mid after old (Ok f) → StayMade mid after
stay_found mid after old found.Stays h = subst (StayMade mid) (sym h) (all_stay mid)
stay_found mid after old found.Same h = stay_kept mid after h
stay_found mid after old (found.New b) h = stay_new mid after old b h

-- what is told of one answer more
pub told_more : (s : Store) (slots : List (Option Kept)) (o : Option Kept) → answers_told s (slots ++ o ∷ []) ≡ answers_told s slots ++ option_map (answer_in s) o ∷ []
told_more s slots o = map-append (option_map (answer_in s)) slots (o ∷ [])

told_length : (s : Store) (slots : List (Option Kept)) → length (answers_told s slots) ≡ length slots
told_length s [] = refl
told_length s (o ∷ slots) = ap suc (told_length s slots)

module _ {L : Type 0} (s : System) (t : ℕ) (row : List Spotted) (mates : List (Option ℕ)) (olds : List (Option Kept)) (begin mid after : Store) (v0 v w p : ℕ) (r after_r : Rounded) (old : Option Kept) (f : SymbolAnswer L)
    (naming : ℕ → List ℕ) (a : LevelSymbol)
    (here : IsSymbolAt naming s.seed row p a) (there : slice_get (level_by naming row) p ≡ Some a) (at : IsAt p r)
    (is_old : old ≡ slot_where_told olds (slot_by_place mates p)) (made : AreMadeAt begin olds) (new : AreNew begin mid r.fresh)
    (replaced : IsReplaced (replacement s t (level_by naming row) p a) a old (Ok f))
    (answered : (naming : ℕ → List ℕ) (tag : ℕ) (m : ModuleValue) → IsNamedAt naming s.seed row p tag m → IsRecalled naming (by_definition s t (level_by naming row) p (naming tag) m) after old (Ok f))
    (asked : IsAsked (question_here s t (level_by naming row) p a) v w (Ok f)) (store : KeepsFound mid after old (Ok f))
    (replaces : Replaces (key_of s.seed (lineage a)) (string_found (seen_by a) old f) r.next after_r.next)
    (is : after_r ≡ settled p (seen_by a) (slot_by_place mates p) f after_r.next (record r { fresh = r.fresh ++ None ∷ []; taken = r.taken ++ None ∷ [] })) where
  fresh_now : after_r.fresh ≡ r.fresh ++ fresh_found f ∷ []
  fresh_now = ap (λ (r : Rounded). r.fresh) is ∙ set_last r.fresh (fresh_found f) p at.each_fresh

  taken_now : after_r.taken ≡ r.taken ++ taken_found (slot_by_place mates p) f ∷ []
  taken_now = ap (λ (r : Rounded). r.taken) is ∙ set_last r.taken (taken_found (slot_by_place mates p) f) p at.each_taken

  stay : StayMade mid after
  stay = stay_found mid after old f store

  told_now : answers_told after after_r.fresh ≡ answers_told mid r.fresh ++ option_map (answer_in after) (fresh_found f) ∷ []
  told_now = ap (answers_told after) fresh_now ∙ told_more after r.fresh (fresh_found f) ∙ ap (λ xs. xs ++ option_map (answer_in after) (fresh_found f) ∷ []) (told_still mid after r.fresh stay new.made)

  fresh_here : slot_by_place (answers_told after after_r.fresh) p ≡ option_map (answer_in after) (fresh_found f)
  fresh_here =
      let n : length (answers_told mid r.fresh) ≡ p = told_length mid r.fresh ∙ at.each_fresh in
      ap (λ xs. slot_by_place xs p) told_now ∙ ap (slot_by_place (answers_told mid r.fresh ++ option_map (answer_in after) (fresh_found f) ∷ [])) (sym n) ∙ slot_last (answers_told mid r.fresh) (option_map (answer_in after) (fresh_found f))

  taken_here : slot_by_place after_r.taken p ≡ taken_found (slot_by_place mates p) f
  taken_here =
      ap (λ xs. slot_by_place xs p) taken_now ∙ ap (slot_by_place (r.taken ++ taken_found (slot_by_place mates p) f ∷ [])) (sym at.each_taken) ∙ slot_last r.taken (taken_found (slot_by_place mates p) f)

  found_here : IsFoundOut s t row p (question_here s t (level_by naming row) p a) (slot_by_place mates p) (slot_where_told (answers_told begin olds) (slot_by_place mates p)) (option_map (answer_in after) (fresh_found f)) (taken_found (slot_by_place mates p) f)
  found_here = by f asked store answered
    where
      by : (f : SymbolAnswer L) → IsAsked (question_here s t (level_by naming row) p a) v w (Ok f) → KeepsFound mid after old (Ok f)
          → ((naming : ℕ → List ℕ) (tag : ℕ) (m : ModuleValue) → IsNamedAt naming s.seed row p tag m → IsRecalled naming (by_definition s t (level_by naming row) p (naming tag) m) after old (Ok f))
          → IsFoundOut s t row p (question_here s t (level_by naming row) p a) (slot_by_place mates p) (slot_where_told (answers_told begin olds) (slot_by_place mates p)) (option_map (answer_in after) (fresh_found f)) (taken_found (slot_by_place mates p) f)
      by found.Stays ask keeps recalls = found_stays s t row (level_by naming row) p a naming here L (slot_by_place mates p) (slot_where_told (answers_told begin olds) (slot_by_place mates p)) v w ask
      by found.Same ask keeps recalls = found_same s t row (level_by naming row) p a naming here L (slot_by_place mates p) (answers_told begin olds) v w ask (recalled a here ask)
        where
          recalled : (a : LevelSymbol) → IsSymbolAt naming s.seed row p a → IsAsked {L = L} (question_here s t (level_by naming row) p a) v w (Ok found.Same) → IsSomeAnd (slot_where_told (answers_told begin olds) (slot_by_place mates p)) (Recalls s t row p)
          recalled (levels.Push l) h k = absurd k
          recalled (levels.Pop l) h k = absurd k
          recalled (levels.Module l m) h k =
              recalled_same L s t row p begin after olds (slot_by_place mates p) old is_old (stay_then begin mid after new.stay (stay_kept mid after keeps)) made recalls naming h.tag m
              (record { here = h.here ∙ (λ i. Some (record { seen = Seen.Module m; tag = h.tag; key = key_of s.seed (sym h.line i) })) })
      by (found.New b) ask keeps recalls = found_new s t row (level_by naming row) p a naming here L (slot_by_place mates p) (slot_where_told (answers_told begin olds) (slot_by_place mates p)) v w b (answer_in after b) ask recalls
          (other_question begin mid after olds (slot_by_place mates p) old b is_old new.stay made keeps)

  pub goes : AskedTo (inquiry s t row (level_by naming row) (answers_told begin olds) mates) mid r v0 v p → AskedTo (inquiry s t row (level_by naming row) (answers_told begin olds) mates) after after_r v0 w (p + 1)
  goes h = record {
    raw = h.raw ++ children s.numbering (lineage a) (string_found (seen_by a) old f);
    replaced =
        let n : modules_up_to a r.modules ≡ after_r.modules = sym (ap (λ (r : Rounded). r.modules) is ∙ modules_here s t (level_by naming row) p a f v w r.modules asked) in
        subst (λ n. ReplacedTo s t (level_by naming row) (p + 1) n (h.raw ++ children s.numbering (lineage a) (string_found (seen_by a) old f))) n
        (goes_on s t (level_by naming row) p r.modules h.raw a (string_found (seen_by a) old f) h.replaced there (string_here (replacement s t (level_by naming row) p a) a old f replaced));
    numbering = replaces.numbering ∙ h.numbering;
    grown =
        subst (λ g. HasGrown s.seed (level_by naming row) (h.raw ++ children g (lineage a) (string_found (seen_by a) old f)) after_r.next.grown) h.numbering
        (replaces.grown s.seed (level_by naming row) h.raw a h.grown (ap (slice_get (level_by naming row)) at.parents ∙ there) refl);
    found = λ q b l e. by q b e (below q l);
    read =
        let one = entries_here s t (level_by naming row) p a there in
        let more = read_ok (question_here s t (level_by naming row) p a) v w f asked in
        omega (arith, one, more, h.read);
    onward = let more = read_ok (question_here s t (level_by naming row) p a) v w f asked in omega (arith, more, h.onward);
  }
    where
      below : (q : ℕ) → q < p + 1 → (q < p) ⊎ (q ≡ p)
      below q l = grind arith

      by : (q : ℕ) (b : LevelSymbol) → slice_get (level_by naming row) q ≡ Some b → (q < p) ⊎ (q ≡ p) → IsFoundOut s t row q (question_here s t (level_by naming row) q b) (slot_by_place mates q) (slot_where_told (answers_told begin olds) (slot_by_place mates q)) (slot_by_place (answers_told after after_r.fresh) q) (slot_by_place after_r.taken q)
      by q b e (inl l) =
          let fresh : slot_by_place (answers_told after after_r.fresh) q ≡ slot_by_place (answers_told mid r.fresh) q = ap (λ xs. slot_by_place xs q) told_now ∙ slot_before (answers_told mid r.fresh) (option_map (answer_in after) (fresh_found f)) q (omega (arith, l, told_length mid r.fresh, at.each_fresh)) in
          let taken : slot_by_place after_r.taken q ≡ slot_by_place r.taken q = ap (λ xs. slot_by_place xs q) taken_now ∙ slot_before r.taken (taken_found (slot_by_place mates p) f) q (omega (arith, l, at.each_taken)) in
          subst (λ o. IsFoundOut s t row q (question_here s t (level_by naming row) q b) (slot_by_place mates q) (slot_where_told (answers_told begin olds) (slot_by_place mates q)) o (slot_by_place after_r.taken q)) (sym fresh)
          (subst (λ k. IsFoundOut s t row q (question_here s t (level_by naming row) q b) (slot_by_place mates q) (slot_where_told (answers_told begin olds) (slot_by_place mates q)) (slot_by_place (answers_told mid r.fresh) q) k) (sym taken) (h.found q b l e))
      by q b e (inr l) = subst (λ q. (b : LevelSymbol) → slice_get (level_by naming row) q ≡ Some b → IsFoundOut s t row q (question_here s t (level_by naming row) q b) (slot_by_place mates q) (slot_where_told (answers_told begin olds) (slot_by_place mates q)) (slot_by_place (answers_told after after_r.fresh) q) (slot_by_place after_r.taken q)) (sym l) last b e
        where
          last : (b : LevelSymbol) → slice_get (level_by naming row) p ≡ Some b → IsFoundOut s t row p (question_here s t (level_by naming row) p b) (slot_by_place mates p) (slot_where_told (answers_told begin olds) (slot_by_place mates p)) (slot_by_place (answers_told after after_r.fresh) p) (slot_by_place after_r.taken p)
          last b e =
              let same : a ≡ b = let both = sym there ∙ e in cc in
              subst (λ b. IsFoundOut s t row p (question_here s t (level_by naming row) p b) (slot_by_place mates p) (slot_where_told (answers_told begin olds) (slot_by_place mates p)) (slot_by_place (answers_told after after_r.fresh) p) (slot_by_place after_r.taken p)) same
              (subst (λ o. IsFoundOut s t row p (question_here s t (level_by naming row) p a) (slot_by_place mates p) (slot_where_told (answers_told begin olds) (slot_by_place mates p)) o (slot_by_place after_r.taken p)) (sym fresh_here)
              (subst (λ k. IsFoundOut s t row p (question_here s t (level_by naming row) p a) (slot_by_place mates p) (slot_where_told (answers_told begin olds) (slot_by_place mates p)) (option_map (answer_in after) (fresh_found f)) k) (sym taken_here) found_here))
