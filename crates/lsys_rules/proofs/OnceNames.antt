-- Names that are listed once each, one after another.
use Rattle.std.proofs.Common.{◌≡◌, ℕ, ◌+◌, ◌<◌, ◌≤◌, Bool, true, false, ◌||◌, List, [], ◌∷◌, ◌++◌, drop, take, length, map, get_or, refl, ap, sym, ◌∙◌, append_assoc, append-nil, bytes_eq}
use Rattle.std.proofs.lemmas.List.{drop_all}
use Rattle.lsys_syntax.specs.Strings.{ModuleName}
use Rattle.lsys_spec.specs.Systems.{any, module_name_text, same_name}
use Rattle.lsys_spec.specs.Edits.{once, unless_seen}
use Rattle.lsys_spec.specs.Meaning.{ignores}
use Rattle.lsys_laws.proofs.Aparts.{bytes_eq_true}
use Rattle.lsys_module.specs.Views.{module_name}
use Rattle.lsys_bodies.proofs.Loops.{drop-here}
use Rattle.lsys_rules.proofs.Tables.{any_same, ignores_same}
use Rattle.lsys_rules.proofs.Grouping.{take_here, map_more}
use Rattle.lsys_rules.specs.Changes.{with_name_unless}

abbrev among : ModuleName → List ModuleName → Bool
among n xs = any (λ y. same_name y n) xs

or_last : (a b : Bool) → (a || (b || false)) ≡ (a || b)
or_last true b = refl
or_last false true = refl
or_last false false = refl

or_assoc : (a b c : Bool) → (a || (b || c)) ≡ ((a || b) || c)
or_assoc true b c = refl
or_assoc false b c = refl

among_more : (n : ModuleName) (xs : List ModuleName) (x : ModuleName) → among n (xs ++ x ∷ []) ≡ (among n xs || same_name x n)
among_more n [] x = or_last false (same_name x n)
among_more n (y ∷ xs) x = ap (λ b. same_name y n || b) (among_more n xs x) ∙ or_assoc (same_name y n) (among n xs) (same_name x n)

-- the same name is among them too
among_too : (n x : ModuleName) (xs : List ModuleName) → same_name x n ≡ true → among x xs ≡ among n xs
among_too n x xs h = ap (λ t. any (λ y. bytes_eq (module_name_text y) t) xs) (bytes_eq_true (module_name_text x) (module_name_text n) h)

absorbed : (a b : Bool) → (b ≡ true → a ≡ true) → (a || b) ≡ a
absorbed true b h = refl
absorbed false true h = sym (h refl)
absorbed false false h = refl

-- what was listed so far has the names that were read, and with what is still to be read it is all
pub record OnceSoFar (read kept rest all : List ModuleName) : Type 0 where
  pub same : (n : ModuleName) → among n read ≡ among n kept
  pub whole : kept ++ once read rest ≡ all

module _ (read kept rest all : List ModuleName) (x : ModuleName) (so_far : OnceSoFar read kept (x ∷ rest) all) where
  step_whole : (b : Bool) → among x read ≡ b → with_name_unless b kept x ++ once (read ++ x ∷ []) rest ≡ all
  step_whole true e = ap (λ b. kept ++ unless_seen b x (once (read ++ x ∷ []) rest)) (sym e) ∙ so_far.whole
  step_whole false e = append_assoc kept (x ∷ []) (once (read ++ x ∷ []) rest) ∙ ap (λ b. kept ++ unless_seen b x (once (read ++ x ∷ []) rest)) (sym e) ∙ so_far.whole

  step_same : (b : Bool) → among x kept ≡ b → (n : ModuleName) → among n (read ++ x ∷ []) ≡ among n (with_name_unless b kept x)
  step_same true e n =
      among_more n read x ∙ ap (λ b. b || same_name x n) (so_far.same n)
      ∙ absorbed (among n kept) (same_name x n) (λ h. sym (among_too n x kept h) ∙ e)
  step_same false e n = among_more n read x ∙ ap (λ b. b || same_name x n) (so_far.same n) ∙ sym (among_more n kept x)

  pub once_step : (b : Bool) → ignores kept x ≡ b → OnceSoFar (read ++ x ∷ []) (with_name_unless b kept x) rest all
  once_step b e =
      let stands : among x kept ≡ b = any_same (λ y. same_name y x) kept ∙ ignores_same kept x ∙ e in
      record { same = step_same b stands; whole = step_whole b (so_far.same x ∙ stands) }

-- at a place of the names that are read
pub once_next : (names kept new : List (List ℕ)) (i : ℕ) (x : List ℕ) → i < length names → x ≡ get_or names i x
    → OnceSoFar (map module_name (take i names)) (map module_name kept) (map module_name (drop i names)) (once [] (map module_name names))
    → map module_name new ≡ with_name_unless (ignores (map module_name kept) (module_name x)) (map module_name kept) (module_name x)
    → OnceSoFar (map module_name (take (i + 1) names)) (map module_name new) (map module_name (drop (i + 1) names)) (once [] (map module_name names))
once_next names kept new i x h e so_far added =
    let read : map module_name (take (i + 1) names) ≡ map module_name (take i names) ++ module_name x ∷ [] = ap (map module_name) (take_here names i x h e) ∙ map_more module_name (take i names) x in
    let rest : map module_name (drop i names) ≡ module_name x ∷ map module_name (drop (i + 1) names) = ap (map module_name) (drop-here names i x h e) in
    rw (read, added)
    (once_step (map module_name (take i names)) (map module_name kept) (map module_name (drop (i + 1) names)) (once [] (map module_name names)) (module_name x) (rw rest at so_far)
    (ignores (map module_name kept) (module_name x)) refl)

pub once_done : (names kept : List (List ℕ)) (i : ℕ) → length names ≤ i
    → OnceSoFar (map module_name (take i names)) (map module_name kept) (map module_name (drop i names)) (once [] (map module_name names))
    → map module_name kept ≡ once [] (map module_name names)
once_done names kept i h so_far =
    sym (append-nil (map module_name kept)) ∙ ap (λ rest. map module_name kept ++ once (map module_name (take i names)) (map module_name rest)) (sym (drop_all i names h)) ∙ so_far.whole

pub once_start : (names kept : List (List ℕ)) → kept ≡ [] → OnceSoFar [] (map module_name kept) (map module_name names) (once [] (map module_name names))
once_start names kept e = rw e (record { same = λ n. refl; whole = refl })
