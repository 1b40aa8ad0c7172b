-- A level that is put from the left.
use Rattle.std.proofs.Common.{◌≡◌, ℕ, zero, suc, List, [], ◌∷◌, ◌++◌, length, take, drop, map, Bool, false, Option, Some, None, Ok, refl, ap, sym, ◌∙◌, append_assoc}
use Rattle.std.proofs.lemmas.Option.{none-some}
use Rattle.std.specs.Prelude.{option_map, slice_get}
use Rattle.std.proofs.lemmas.List.{take-append-drop, map-append}
use Rattle.lsys_io.specs.Writes.{WasPut}
use Rattle.lsys_syntax.specs.Strings.{value_pieces, string_text, ends_in_name}
use Rattle.lsys_spec.specs.Levels.{plain}
use Rattle.lsys_module.specs.Printing.{symbols_after, symbol_after}
use Rattle.lsys_module.specs.Views.{string_of, symbol_of}
use Rattle.lsys_module.specs.declared.symbol.Symbol.{Symbol}
use Rattle.lsys_module.specs.declared.symbol.Symbol.TheVariants.{Push, Pop, Module}
use Rattle.lsys_module.proofs.PrintedTexts.{string-text, last_runs_on, symbols_after-append, last_runs_on-append, one-more}
use Rattle.lsys_level.specs.Spots as spots
use Rattle.lsys_level.specs.Spots.{Seen, Spotted, level_by, spots_at, spotted_at, with_lineage}
use Rattle.lsys_level.specs.Views.{seen_of}
use Rattle.lsys_level.specs.declared.sight.Sight.{Sight}
use Rattle.lsys_level.specs.declared.sight.Sight.TheVariants as sights
use Rattle.lsys_level.proofs.Copies.{Copying, all_copied}
use Rattle.lsys_session.specs.Given.{text_of_level, symbol_seen}

-- the symbol of the code that is seen
abbrev pub copy_of : Sight → Symbol
copy_of sights.Push = Push
copy_of sights.Pop = Pop
copy_of (sights.Module name params) = Module (record { name = name; params = params.now })

pub copy_is : (sight : Sight) → symbol_of (copy_of sight) ≡ symbol_seen sight
copy_is sights.Push = refl
copy_is sights.Pop = refl
copy_is (sights.Module name params) = refl

-- some of a level is put, and the spot is that of the next symbol; the last of those that are put runs on or doesn't
pub record Putting {K S : Type 0} (written : K → Option (List ℕ)) (faults : K → ℕ) (before after : K) (held holds : List ℕ) (level_of place_of : S → ℕ) (x : List Spotted) (level : ℕ) (at : Option S) (runs_on : Bool)
    : Type 0 where
  pub symbols : List Symbol
  pub copying : Copying level_of place_of x level at symbols
  pub put : WasPut {A = Unit {0}} written faults before after held holds (symbols_after value_pieces false (string_of symbols)) (Ok tt)
  pub runs : runs_on ≡ last_runs_on false (string_of symbols)

-- one symbol more
pub string_more : (symbols : List Symbol) (sight : Sight) → string_of (symbols ++ copy_of sight ∷ []) ≡ string_of symbols ++ symbol_seen sight ∷ []
string_more symbols sight = map-append symbol_of symbols (copy_of sight ∷ []) ∙ ap (λ s. string_of symbols ++ s ∷ []) (copy_is sight)

pub text_more : (symbols : List Symbol) (sight : Sight) (runs_on : Bool) → runs_on ≡ last_runs_on false (string_of symbols)
    → symbols_after value_pieces false (string_of (symbols ++ copy_of sight ∷ [])) ≡ symbols_after value_pieces false (string_of symbols) ++ symbol_after value_pieces runs_on (symbol_seen sight)
text_more symbols sight runs_on runs =
    ap (symbols_after value_pieces false) (string_more symbols sight) ∙ one-more value_pieces false (string_of symbols) (symbol_seen sight)
    ∙ ap (λ on. symbols_after value_pieces false (string_of symbols) ++ symbol_after value_pieces on (symbol_seen sight)) (sym runs)

pub runs_more : (symbols : List Symbol) (sight : Sight) → ends_in_name (symbol_seen sight) ≡ last_runs_on false (string_of (symbols ++ copy_of sight ∷ []))
runs_more symbols sight = sym (ap (last_runs_on false) (string_more symbols sight) ∙ last_runs_on-append false (string_of symbols) (symbol_seen sight))

plain_any : (l k : List ℕ) (e : Seen) → plain (with_lineage l e) ≡ plain (with_lineage k e)
plain_any l k spots.Push = refl
plain_any l k spots.Pop = refl
plain_any l k (spots.Module m) = refl

-- the symbol that is seen at a place comes next
next_seen : (naming : ℕ → List ℕ) (x : List Spotted) (n : ℕ) (sight : Sight) → option_map (λ a. a.seen) (slice_get x n) ≡ Some (seen_of sight)
    → map plain (level_by naming (drop n x)) ≡ symbol_seen sight ∷ map plain (level_by naming (drop (suc n) x))
next_seen naming [] n sight h = absurd (none-some (seen_of sight) h)
next_seen naming (a ∷ x) zero sight h =
    let same : a.seen ≡ seen_of sight = cc in
    ap (λ s. s ∷ map plain (level_by naming x)) (plain_any (naming a.tag) [] a.seen ∙ ap (λ e. plain (with_lineage [] e)) same)
next_seen naming (a ∷ x) (suc n) sight h = next_seen naming x n sight h

level_append : (naming : ℕ → List ℕ) (y z : List Spotted) → map plain (level_by naming (y ++ z)) ≡ map plain (level_by naming y) ++ map plain (level_by naming z)
level_append naming [] z = refl
level_append naming (a ∷ y) z = ap (λ s. plain (with_lineage (naming a.tag) a.seen) ∷ s) (level_append naming y z)

-- what is put of a level, with the next symbol, and what is left of it
pub cut_short : {S : Type 0} (level_of place_of : S → ℕ) (levels : List (List Spotted)) (level : ℕ) (spot : S) (symbols : List Symbol) (sight : Sight) (runs_on : Bool)
    → Copying level_of place_of (spots_at levels level) level (Some spot) symbols → option_map (λ a. a.seen) (spotted_at levels (level_of spot) (place_of spot)) ≡ Some (seen_of sight)
    → runs_on ≡ last_runs_on false (string_of symbols)
    → text_of_level (spots_at levels level) ≡ (symbols_after value_pieces false (string_of symbols) ++ symbol_after value_pieces runs_on (symbol_seen sight))
    ++ symbols_after value_pieces (ends_in_name (symbol_seen sight)) (map plain (level_by (λ tag. []) (drop (suc (length symbols)) (spots_at levels level))))
cut_short level_of place_of levels level spot symbols sight runs_on here seen runs =
    let naming : ℕ → List ℕ = λ tag. [] in
    let x = spots_at levels level in
    let n = length symbols in
    let at : option_map (λ a. a.seen) (slice_get x n) ≡ Some (seen_of sight) =
    ap (λ t. option_map (λ (a : Spotted). a.seen) (spotted_at levels t n)) (sym here.next.0) ∙ ap (λ p. option_map (λ (a : Spotted). a.seen) (spotted_at levels (level_of spot) p)) (sym here.next.1) ∙ seen in
    let rest = map plain (level_by naming (drop (suc n) x)) in
    let parts : map plain (level_by naming x) ≡ string_of symbols ++ symbol_seen sight ∷ rest =
    ap (λ y. map plain (level_by naming y)) (sym (take-append-drop n x)) ∙ level_append naming (take n x) (drop n x)
    ∙ ap (λ s. s ++ map plain (level_by naming (drop n x))) (sym (here.front naming)) ∙ ap (λ s. string_of symbols ++ s) (next_seen naming x n sight at) in
    string-text value_pieces (map plain (level_by naming x)) ∙ ap (symbols_after value_pieces false) parts
    ∙ symbols_after-append value_pieces false (string_of symbols) (symbol_seen sight ∷ rest)
    ∙ ap (λ on. symbols_after value_pieces false (string_of symbols) ++ symbols_after value_pieces on (symbol_seen sight ∷ rest)) (sym runs)
    ∙ sym (append_assoc (symbols_after value_pieces false (string_of symbols)) (symbol_after value_pieces runs_on (symbol_seen sight)) (symbols_after value_pieces (ends_in_name (symbol_seen sight)) rest))

-- the whole level is put
pub all_put : {S : Type 0} (level_of place_of : S → ℕ) (x : List Spotted) (level : ℕ) (symbols : List Symbol) → Copying level_of place_of x level None symbols → text_of_level x ≡ symbols_after value_pieces false (string_of symbols)
all_put level_of place_of x level symbols here =
    ap string_text (sym (all_copied level_of place_of x level symbols here (λ tag. []))) ∙ string-text value_pieces (string_of symbols)
