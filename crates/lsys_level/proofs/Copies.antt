-- A level that is copied from the left.
use Rattle.std.proofs.Common.{◌≡◌, ℕ, List, [], ◌∷◌, ◌++◌, ◌+◌, ◌-◌, ◌<◌, length, take, map, Option, Some, None, refl, ap, sym, ◌∙◌, subst, arith}
use Rattle.std.specs.Prelude.{slice_get, option_map, MatchOption}
use Rattle.std.proofs.lemmas.Option.{slice_get_within, get_or_from_slice_get}
use Rattle.std.proofs.lemmas.List.{take_more, take_all, length_push}
use Rattle.lsys_spec.specs.Levels.{plain}
use Rattle.lsys_module.specs.Views.{string_of, symbol_of}
use Rattle.lsys_module.specs.declared.symbol.Symbol.{Symbol}
use Rattle.lsys_level.specs.Spots.{Seen, Push, Pop, Module, Spotted, named, spots_at, level_by, with_lineage, spotted_at}
use Rattle.lsys_level.specs.Views.{IsCopy}
use Rattle.lsys_region.proofs.ListLemmas.{from_option_map}

-- how many symbols are still to be copied
abbrev pub left_over : {S : Type 0} → (S → ℕ) → List Spotted → Option S → ℕ
left_over place_of x None = 0
left_over place_of x (Some s) = length x - place_of s

-- the spot is the next to be copied: it stands after those that are
abbrev pub IsNext : {S : Type 0} → (S → ℕ) → (S → ℕ) → List Spotted → ℕ → Option S → List Symbol → Type 0
IsNext level_of place_of x level None symbols = length symbols ≡ length x
IsNext level_of place_of x level (Some s) symbols = (level_of s ≡ level) × (place_of s ≡ length symbols) × (place_of s < length x)

pub record Copying {S : Type 0} (level_of place_of : S → ℕ) (x : List Spotted) (level : ℕ) (at : Option S) (symbols : List Symbol) : Type 0 where
  pub front : IsCopy (take (length symbols) x) symbols
  pub next : IsNext level_of place_of x level at symbols

plain_any : (l k : List ℕ) (e : Seen) → plain (with_lineage l e) ≡ plain (with_lineage k e)
plain_any l k Push = refl
plain_any l k Pop = refl
plain_any l k (Module m) = refl

string_push : (symbols : List Symbol) (s : Symbol) → string_of (symbols ++ s ∷ []) ≡ string_of symbols ++ symbol_of s ∷ []
string_push [] s = refl
string_push (t ∷ symbols) s = ap (λ r. symbol_of t ∷ r) (string_push symbols s)

level_push : (naming : ℕ → List ℕ) (x : List Spotted) (a : Spotted) → map plain (level_by naming (x ++ a ∷ [])) ≡ map plain (level_by naming x) ++ plain (named naming a) ∷ []
level_push naming [] a = refl
level_push naming (b ∷ x) a = ap (λ r. plain (named naming b) ∷ r) (level_push naming x a)

copied : (x : List Spotted) (symbols : List Symbol) (s : Symbol) (e : Seen) → IsCopy (take (length symbols) x) symbols → option_map (λ a. a.seen) (slice_get x (length symbols)) ≡ Some e → symbol_of s ≡ plain (with_lineage [] e)
    → IsCopy (take (length symbols + 1) x) (symbols ++ s ∷ [])
copied x symbols s e front seen same naming =
    let a = from_option_map (λ (a : Spotted). a.seen) (slice_get x (length symbols)) e seen in
    let upto : take (length symbols + 1) x ≡ take (length symbols) x ++ a.0 ∷ [] = take_more x (length symbols) a.0 (slice_get_within x (length symbols) a.0 a.1) ∙ ap (λ y. take (length symbols) x ++ y ∷ []) (get_or_from_slice_get x (length symbols) a.0 a.0 a.1) in
    let told : symbol_of s ≡ plain (named naming a.0) = same ∙ plain_any [] (naming a.0.tag) e ∙ ap (λ e. plain (with_lineage (naming a.0.tag) e)) (sym a.2) in
    string_push symbols s ∙ ap (λ r. r ++ symbol_of s ∷ []) (front naming) ∙ ap (λ y. map plain (level_by naming (take (length symbols) x)) ++ y ∷ []) told
    ∙ sym (level_push naming (take (length symbols) x) a.0) ∙ ap (λ x. map plain (level_by naming x)) (sym upto)

next_on : {S : Type 0} (level_of place_of : S → ℕ) (levels : List (List Spotted)) (level : ℕ) (spot : S) (symbols : List Symbol) (s : Symbol) (o : Option S) → IsNext level_of place_of (spots_at levels level) level (Some spot) symbols
    → MatchOption o (place_of spot + 1 ≡ length (spots_at levels (level_of spot))) (λ n. (level_of n ≡ level_of spot) × (place_of n ≡ place_of spot + 1) × (place_of n < length (spots_at levels (level_of spot))))
    → IsNext level_of place_of (spots_at levels level) level o (symbols ++ s ∷ [])
next_on level_of place_of levels level spot symbols s None here n =
    let more : length (symbols ++ s ∷ []) ≡ length symbols + 1 = length_push symbols s in
    more ∙ ap (λ k. k + 1) (sym here.1) ∙ n ∙ ap (λ t. length (spots_at levels t)) here.0
next_on level_of place_of levels level spot symbols s (Some next) here n =
    let more : length (symbols ++ s ∷ []) ≡ length symbols + 1 = length_push symbols s in
    (n.0 ∙ here.0, n.1 ∙ ap (λ k. k + 1) here.1 ∙ sym more, subst (λ t. place_of next < length (spots_at levels t)) here.0 n.2)

-- One symbol more is copied.
pub copied_on : {S : Type 0} (level_of place_of : S → ℕ) (levels : List (List Spotted)) (level : ℕ) (spot : S) (symbols : List Symbol) (s : Symbol) (e : Seen) (o : Option S)
    → Copying level_of place_of (spots_at levels level) level (Some spot) symbols → option_map (λ a. a.seen) (spotted_at levels (level_of spot) (place_of spot)) ≡ Some e → symbol_of s ≡ plain (with_lineage [] e)
    → MatchOption o (place_of spot + 1 ≡ length (spots_at levels (level_of spot))) (λ n. (level_of n ≡ level_of spot) × (place_of n ≡ place_of spot + 1) × (place_of n < length (spots_at levels (level_of spot))))
    → Copying level_of place_of (spots_at levels level) level o (symbols ++ s ∷ [])
copied_on level_of place_of levels level spot symbols s e o here seen same n =
    let at : option_map (λ a. a.seen) (slice_get (spots_at levels level) (length symbols)) ≡ Some e = ap (λ t. option_map (λ (a : Spotted). a.seen) (spotted_at levels t (length symbols))) (sym here.next.0) ∙ ap (λ p. option_map (λ (a : Spotted). a.seen) (spotted_at levels (level_of spot) p)) (sym here.next.1) ∙ seen in
    record {
      front = subst (λ k. IsCopy (take k (spots_at levels level)) (symbols ++ s ∷ [])) (sym (length_push symbols s)) (copied (spots_at levels level) symbols s e here.front at same);
      next = next_on level_of place_of levels level spot symbols s o here.next n;
    }

pub all_copied : {S : Type 0} (level_of place_of : S → ℕ) (x : List Spotted) (level : ℕ) (symbols : List Symbol) → Copying level_of place_of x level None symbols → IsCopy x symbols
all_copied level_of place_of x level symbols here naming =
    here.front naming ∙ ap (λ x. map plain (level_by naming x)) (take_all (length symbols) x (omega (arith, here.next)))
