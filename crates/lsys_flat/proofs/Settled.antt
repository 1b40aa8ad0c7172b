-- What was found out about a symbol is kept.
use Rattle.std.proofs.Common.{◌≡◌, ℕ, suc, ◌+◌, ◌<◌, ◌≤◌, ◌^◌, Option, Some, None, Result, Ok, Err, List, [], ◌∷◌, ◌++◌, length, get_or, refl, sym, ap, ◌∙◌, subst, arith, set, map}
use Rattle.std.specs.Prelude.{ℤ, slice_get, option_map}
use Rattle.std.proofs.lemmas.Option.{slice_get-get_or}
use Rattle.std.proofs.lemmas.List.{length_push}
use Rattle.lsys_spec.specs.Meaning.{replacement}
use Rattle.lsys_syntax.specs.Limits.{most_successor_symbols}
use Rattle.lsys_syntax.specs.Strings as S
use Rattle.lsys_spec.specs.Draws.{number_base}
use Rattle.lsys_spec.specs.Systems.{System, WellFormed}
use Rattle.lsys_spec.specs.Draws.{key_of}
use Rattle.lsys_spec.specs.Levels.{LevelSymbol, lineage}
use Rattle.lsys_spec.specs.Levels as levels
use Rattle.lsys_spec.specs.Choice.{Fault}
use Rattle.lsys_level.specs.Spots.{Seen, Push, Pop, Module, Spotted, level_by, seen_by}
use Rattle.lsys_module.specs.Views.{string_of}
use Rattle.lsys_module.specs.declared.symbol.Symbol.{Symbol as Code}
use Rattle.lsys_walks.specs.Stores.{Store}
use Rattle.lsys_match.specs.Kept.{Kept}
use Rattle.lsys_match.specs.declared.answer.Answer.{Answer}
use Rattle.lsys_match.specs.declared.refusal.AskRefusal.{AskRefusal}
use Rattle.lsys_flat.specs.Grown.{Making}
use Rattle.lsys_flat.proofs.Short.{replacement_short}
use Rattle.lsys_flat.specs.declared.found.SymbolAnswer.{SymbolAnswer}
use Rattle.lsys_flat.specs.declared.found.SymbolAnswer.TheVariants as found
use Rattle.lsys_flat.specs.Replaced.{IsSymbolAt, IsReplaced, KeepsFound, found_news}
use Rattle.lsys_flat.specs.Slots.{filled_slots, slot_by_place, slot_where_told}
use Rattle.lsys_flat.specs.Rounds.{AreNew, CanAsk, HasOld, IsAt, ShowsLevel, Rounded, StayMade, fresh_found, modules_found, seen_modules, questions_found, settled, string_found, taken_found}
use Rattle.lsys_flat.proofs.Seen.{spot_of, symbol_there, row_length}
use Rattle.lsys_flat.proofs.News.{all_stay, stay_kept, stay_new, none_more, none_new, one_new, set_last, filled_more}
use Rattle.lsys_flat.proofs.Going.{string_here}

-- 1. new answers

pub new_found : (L : Type 0) (begin mid after : Store) (fresh fresh_now : List (Option Kept)) (p : ℕ) (old : Option Kept) (f : SymbolAnswer L) → length fresh ≡ p → KeepsFound mid after old (Ok f) → fresh_now ≡ set (fresh ++ None ∷ []) p (fresh_found f)
    → AreNew begin mid fresh → AreNew begin after fresh_now
new_found L begin mid after fresh fresh_now p old f n keeps is h = subst (AreNew begin after) (sym (is ∙ set_last fresh (fresh_found f) p n)) (by f keeps)
  where
    by : (f : SymbolAnswer L) → KeepsFound mid after old (Ok f) → AreNew begin after (fresh ++ fresh_found f ∷ [])
    by found.Stays k = none_more begin after fresh (none_new begin mid after fresh (subst (StayMade mid) (sym k) (all_stay mid)) h)
    by found.Same k = none_more begin after fresh (none_new begin mid after fresh (stay_kept mid after k) h)
    by (found.New b) k = one_new begin mid after fresh old b k h

one_filled : (L : Type 0) (f : SymbolAnswer L) → filled_slots (fresh_found f ∷ []) ≡ found_news {L = L} (Ok f)
one_filled L found.Stays = refl
one_filled L found.Same = refl
one_filled L (found.New b) = refl

pub asked_found : (L : Type 0) (fresh fresh_now : List (Option Kept)) (p v w : ℕ) (f : SymbolAnswer L) → length fresh ≡ p → fresh_now ≡ set (fresh ++ None ∷ []) p (fresh_found f) → w ≡ v + found_news {L = L} (Ok f)
    → w + filled_slots fresh ≡ v + filled_slots fresh_now
asked_found L fresh fresh_now p v w f n is e =
    let more = ap filled_slots (is ∙ set_last fresh (fresh_found f) p n) ∙ filled_more fresh (fresh_found f) in
    let one = one_filled L f in
    omega (arith, e, more, one)

-- 2. places

modules_most : (L : Type 0) (e : Seen) (f : SymbolAnswer L) → modules_found e f ≤ 1
modules_most L Push found.Stays = omega arith
modules_most L Pop found.Stays = omega arith
modules_most L (Module m) found.Stays = omega arith
modules_most L e found.Same = omega arith
modules_most L e (found.New b) = omega arith

questions_filled : (L : Type 0) (olds : List (Option Kept)) (mate : Option ℕ) (old : Option Kept) (f : SymbolAnswer L) → old ≡ slot_where_told olds mate → HasOld old f → questions_found f ≡ filled_slots (fresh_found f ∷ []) + filled_slots (taken_found mate f ∷ [])
questions_filled L olds mate old found.Stays is h = refl
questions_filled L olds None None found.Same is h = absurd h
questions_filled L olds None (Some o) found.Same is h = cc
questions_filled L olds (Some j) old found.Same is h = refl
questions_filled L olds mate old (found.New b) is h = refl

questions_most : (L : Type 0) (f : SymbolAnswer L) → questions_found f ≤ 1
questions_most L found.Stays = omega arith
questions_most L found.Same = omega arith
questions_most L (found.New b) = omega arith

pub at_next : (L : Type 0) (p : ℕ) (e : Seen) (olds : List (Option Kept)) (mate : Option ℕ) (old : Option Kept) (f : SymbolAnswer L) (next : Making) (r opened now : Rounded) → IsAt p r → opened ≡ record r { fresh = r.fresh ++ None ∷ []; taken = r.taken ++ None ∷ [] }
    → now ≡ settled p e mate f next opened → next.grown.parents ≡ r.next.grown.parents + 1 → old ≡ slot_where_told olds mate → HasOld old f → IsAt (p + 1) now
at_next L p e olds mate old f next r opened now at is_opened is parents is_old has = subst (IsAt (p + 1)) (sym (is ∙ ap (settled p e mate f next) is_opened)) (record {
  each_fresh = ap length fresh ∙ length_push r.fresh (fresh_found f) ∙ ap (λ n. n + 1) at.each_fresh;
  each_taken = ap length taken ∙ length_push r.taken (taken_found mate f) ∙ ap (λ n. n + 1) at.each_taken;
  parents = parents ∙ ap (λ n. n + 1) at.parents;
  modules = omega (arith, at.modules, modules_most L e f);
  questions =
      omega (arith, at.questions, questions_filled L olds mate old f is_old has, ap filled_slots fresh ∙ filled_more r.fresh (fresh_found f), ap filled_slots taken ∙ filled_more r.taken (taken_found mate f));
  few = omega (arith, at.few, questions_most L f);
})
  where
    fresh : set (r.fresh ++ None ∷ []) p (fresh_found f) ≡ r.fresh ++ fresh_found f ∷ []
    fresh = set_last r.fresh (fresh_found f) p at.each_fresh

    taken : set (r.taken ++ None ∷ []) p (taken_found mate f) ≡ r.taken ++ taken_found mate f ∷ []
    taken = set_last r.taken (taken_found mate f) p at.each_taken

-- 3. a symbol of the level

pub spot_at : (row : List Spotted) (p : ℕ) → p < length row → (b : Spotted) × (slice_get row p ≡ Some b)
spot_at row p h =
    let none : Spotted = record { seen = Push; tag = 0; key = 0 } in (get_or row p none, slice_get-get_or row p none h)

-- by some naming this symbol stands there, of which this is seen
pub record StandsHere (seed : ℕ) (row : List Spotted) (p : ℕ) (b : Spotted) : Type 0 where
  pub naming : ℕ → List ℕ
  pub symbol : LevelSymbol
  pub here : IsSymbolAt naming seed row p symbol
  pub seen : b.seen ≡ seen_by symbol

pub stands_here : (s : System) (row : List Spotted) (mates : List (Option ℕ)) (p : ℕ) (b : Spotted) → CanAsk s row mates → slice_get row p ≡ Some b → p < length row → StandsHere s.seed row p b
stands_here s row mates p b h e l =
    let n : p < length h.level = omega (arith, l, row_length h.naming s.seed row h.level h.is) in
    let a = get_or h.level p (levels.Push []) in
    let there : slice_get h.level p ≡ Some a = slice_get-get_or h.level p (levels.Push []) n in
    let here = symbol_there h.naming s.seed row h.level p a h.is there in
    record { naming = h.naming; symbol = a; here = here; seen = let both = sym e ∙ here.here in let same : b ≡ record { seen = seen_by a; tag = here.tag; key = key_of s.seed (lineage a) } = cc in ap (λ (b : Spotted). b.seen) same }

string_short : (n : ℕ) (s : System) (t : ℕ) (x : List LevelSymbol) (p : ℕ) (a : LevelSymbol) (ys : List (S.Symbol ℤ)) → WellFormed s → replacement s t x p a ≡ Ok ys → length ys ≤ number_base
string_short n s t x p a ys w h = let short = replacement_short s w t x p a ys h in omega (arith, short)

pub has_old : (L : Type 0) (r : Result (List (S.Symbol ℤ)) Fault) (a : LevelSymbol) (old : Option Kept) (f : SymbolAnswer L) → IsReplaced r a old (Ok f) → HasOld old f
has_old L r a None found.Same h = absurd h
has_old L r a (Some o) found.Same h = tt
has_old L r a None found.Stays h = tt
has_old L r a (Some o) found.Stays h = tt
has_old L r a None (found.New b) h = tt
has_old L r a (Some o) (found.New b) h = tt

pub short_found : (L : Type 0) (s : System) (t : ℕ) (x : List LevelSymbol) (p : ℕ) (a : LevelSymbol) (e : Seen) (old : Option Kept) (f : SymbolAnswer L) → WellFormed s → e ≡ seen_by a → IsReplaced (replacement s t x p a) a old (Ok f) → length (string_found e old f) ≤ number_base
short_found L s t x p a e old f w is h =
    subst (λ e. length (string_found e old f) ≤ number_base) (sym is) (string_short 0 s t x p a (string_found (seen_by a) old f) w (string_here (replacement s t x p a) a old f h))

pub string_length : (xs : List Code) → length (string_of xs) ≡ length xs
string_length [] = refl
string_length (x ∷ xs) = ap suc (string_length xs)

pub short_same : (L : Type 0) (n : ℕ) (e : Seen) (old : Option Kept) (o : Kept) (f : SymbolAnswer L) → f ≡ found.Same → old ≡ Some o → length (string_found e old f) ≤ n → length o.successor ≤ n
short_same L n e old o f is there h =
    let one : length (string_of o.successor) ≤ n = subst (λ (old : Option Kept). length (string_found {L = L} e old found.Same) ≤ n) there (subst (λ (f : SymbolAnswer L). length (string_found e old f) ≤ n) is h) in
    omega (arith, one, string_length o.successor)

pub short_new : (L : Type 0) (n : ℕ) (e : Seen) (old : Option Kept) (b : Answer L) (f : SymbolAnswer L) → f ≡ found.New b → length (string_found e old f) ≤ n → length b.successor ≤ n
short_new L n e old b f is h =
    let one : length (string_of b.successor) ≤ n = subst (λ (f : SymbolAnswer L). length (string_found e old f) ≤ n) is h in
    omega (arith, one, string_length b.successor)
