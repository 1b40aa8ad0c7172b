-- Counts of the code's strings, and rows and matrices of them.
use Rattle.std.proofs.Common.{◌≡◌, ℕ, zero, suc, ◌+◌, ◌*◌, ◌<◌, ◌≤◌, ◌^◌, Bool, true, false, List, [], ◌∷◌, ◌++◌, Option, Some, None, length, map, nat_lt, refl, ap, sym, subst, ◌∙◌, arith}
use Rattle.std.specs.Prelude.{ℤ, min, slice_get, get_or, filter, if◌then◌else◌}
use Rattle.std.specs.Option.{option_map}
use Rattle.std.proofs.lemmas.Bool.Decides.{nat_tests}
use Rattle.std.proofs.Math.Nat.{mul-le-mul_right}
use Rattle.std.proofs.lemmas.List.{get_or_append_left, get_or_push, length_push}
use Rattle.lsys_syntax.specs.Strings.{ModuleName}
use Rattle.lsys_syntax.specs.Strings as S
use Rattle.lsys_syntax.specs.Rules.{Production}
use Rattle.lsys_spec.specs.Systems.{System}
use Rattle.lsys_spec.specs.Bodies.{is_for, table_at}
use Rattle.lsys_module.specs.Views.{module_name}
use Rattle.lsys_bodies.specs.declared.rule.Rule.{Rule}
use Rattle.lsys_bodies.specs.declared.body.Body.{Body}
use Rattle.lsys_bodies.specs.declared.body.Template.{Template}
use Rattle.lsys_bodies.specs.Views.{as_production, rule_of, template_symbol}
use Rattle.lsys_growth.specs.Capped.{cap, capped, value_of}
use Rattle.lsys_growth.specs.Matrices.{place, IsMatrix, Square}
use Rattle.lsys_growth.specs.Growth.{letter_count}
use Rattle.lsys_growth.specs.Counts.{branch_count, count_at, without_params, given, given_in, given_at, step_matrix}
use Rattle.lsys_growth.specs.Counting.{count_of_what, AddsCounts, letter_alone, given_for}

bare_letters : {P : Type 0} (n : ModuleName) (xs : List (S.Symbol P)) → letter_count n (without_params {Q = ℤ} xs) ≡ letter_count n xs
bare_letters n [] = refl
bare_letters n (S.Module m ps ∷ xs) = let e = bare_letters n xs in omega (arith, e)
bare_letters n (S.Push ∷ xs) = bare_letters n xs
bare_letters n (S.Pop ∷ xs) = bare_letters n xs
bare_letters n (S.Cut ∷ xs) = bare_letters n xs

bare_branches : {P : Type 0} (xs : List (S.Symbol P)) → branch_count (without_params {Q = ℤ} xs) ≡ branch_count xs
bare_branches [] = refl
bare_branches (S.Module m ps ∷ xs) = bare_branches xs
bare_branches (S.Push ∷ xs) = let e = bare_branches xs in omega (arith, e)
bare_branches (S.Pop ∷ xs) = bare_branches xs
bare_branches (S.Cut ∷ xs) = bare_branches xs

-- parameters count nowhere
pub bare_at : {P : Type 0} (ns : List ModuleName) (j : ℕ) (xs : List (S.Symbol P)) → count_at ns j (without_params {Q = ℤ} xs) ≡ count_at ns j xs
bare_at [] j xs = bare_branches xs
bare_at (n ∷ ns) zero xs = bare_letters n xs
bare_at (n ∷ ns) (suc j) xs = bare_at ns j xs

count_what : {P : Type 0} (ns : List ModuleName) (j : ℕ) (xs : List (S.Symbol P)) → count_of_what (slice_get ns j) xs ≡ count_at ns j xs
count_what [] j xs = refl
count_what (n ∷ ns) zero xs = refl
count_what (n ∷ ns) (suc j) xs = count_what ns j xs

within_cap : (c x : ℕ) → x < c → x ≡ min x c
within_cap c x h = omega arith

-- a count of the code is that at its place
pub one_count : {P : Type 0} (ns : List ModuleName) (j times : ℕ) (what : Option ModuleName) (xs : List (S.Symbol P)) → times < 2 ^ 64 → what ≡ slice_get ns j → times ≡ count_of_what what xs → times ≡ capped (count_at ns j xs)
one_count ns j times what xs h e f =
    let small : times < cap = (let a : 2 ^ 64 ≤ cap = omega arith in omega (arith, h, a)) in
    within_cap cap times small ∙ ap capped (f ∙ ap (λ o. count_of_what o xs) e ∙ count_what ns j xs)

-- what is given at a place
pub given_there : (s : System) (t : ℕ) (ns : List ModuleName) (i : ℕ) → given_for s t (slice_get ns i) ≡ given_at s t ns i
given_there s t [] i = refl
given_there s t (n ∷ ns) zero = refl
given_there s t (n ∷ ns) (suc i) = given_there s t ns i

-- the first i rows of the matrix of a step
pub record RowsOf (s : System) (t : ℕ) (ns : List ModuleName) (i : ℕ) (es : List (Option ℕ)) : Type 0 where
  pub len : length es ≡ i * suc (length ns)
  pub cells : (p j : ℕ) → p < i → j < suc (length ns) → place es (p * suc (length ns) + j) ≡ capped (step_matrix s ns t p j)

pub next_row : (s : System) (t : ℕ) (ns : List ModuleName) (i : ℕ) (xs : List (S.Symbol ℤ)) (old new : List (Option ℕ)) → xs ≡ given_at s t ns i → RowsOf s t ns i old → AddsCounts ns xs old new → RowsOf s t ns (i + 1) new
next_row s t ns i xs old new g r a = record {
  len = let e = a.len in let f = r.len in omega (arith, e, f);
  cells = λ p j u v. by p j v (nat_lt p i) refl u;
}
  where
    by : (p j : ℕ) → j < suc (length ns) → (c : Bool) → nat_lt p i ≡ c → p < i + 1 → place new (p * suc (length ns) + j) ≡ capped (step_matrix s ns t p j)
    by p j v true e u =
        let l : p < i = grind (arith, nat_tests) in
        let o : suc p ≤ i = omega (arith, l) in
        let m : suc p * suc (length ns) ≤ i * suc (length ns) = mul-le-mul_right (suc (length ns)) o in
        let w : suc p * suc (length ns) ≡ p * suc (length ns) + suc (length ns) = omega arith in
        let f = r.len in
        a.before (p * suc (length ns) + j) (omega (arith, m, w, f, v)) ∙ r.cells p j l v
    by p j v false e u =
        let l : i ≤ p = grind (arith, nat_tests) in
        let q : p ≡ i = omega (arith, l, u) in
        let f = r.len in
        rw q ((let o : i * suc (length ns) + j ≡ length old + j = omega (arith, f) in ap (place new) o) ∙ a.cells j v ∙ ap (λ ys. capped (count_at ns j ys)) g)

-- all rows
pub whole_matrix : (s : System) (t : ℕ) (ns : List ModuleName) (k : ℕ) (m : Square) → k ≡ suc (length ns) → m.size ≡ k → RowsOf s t ns k m.entries → IsMatrix (suc (length ns)) (step_matrix s ns t) m
whole_matrix s t ns k m e f r = record {
  size = f ∙ e;
  entries = λ i j u v. ap (λ (n : ℕ). place m.entries (i * n + j)) (f ∙ e) ∙ r.cells i j (let g = e in omega (arith, u, g)) v;
}

pub whole_entries : (s : System) (t : ℕ) (ns : List ModuleName) (k m : ℕ) (es : List (Option ℕ)) → k ≡ m → m ≡ suc (length ns) → RowsOf s t ns k es → length es ≡ m * m
whole_entries s t ns k m es e f r = r.len ∙ ap (λ (x : ℕ). x * suc (length ns)) e ∙ ap (λ (x : ℕ). m * x) (sym f)

-- the counts alone are a row
-- the counts of a successor are those of what it gives
pub bare_added : {P : Type 0} (ns : List ModuleName) (xs : List (S.Symbol P)) (old new : List (Option ℕ)) → AddsCounts ns xs old new → AddsCounts ns (without_params {Q = ℤ} xs) old new
bare_added ns xs old new a = record { len = a.len; before = a.before; cells = λ j u. a.cells j u ∙ ap capped (sym (bare_at ns j xs)) }

-- counts so far
pub record CountsTo {P : Type 0} (ns : List ModuleName) (xs : List (S.Symbol P)) (k : ℕ) (old new : List (Option ℕ)) : Type 0 where
  pub len : length new ≡ length old + k
  pub before : (i : ℕ) → i < length old → place new i ≡ place old i
  pub cells : (j : ℕ) → j < k → place new (length old + j) ≡ capped (count_at ns j xs)

pub next_count : {P : Type 0} (ns : List ModuleName) (xs : List (S.Symbol P)) (k times : ℕ) (what : Option ModuleName) (old now : List (Option ℕ))
    → times < 2 ^ 64 → what ≡ slice_get ns k → times ≡ count_of_what what xs → CountsTo ns xs k old now → CountsTo ns xs (k + 1) old (now ++ Some times ∷ [])
next_count ns xs k times what old now small e f c = record {
  len = let l = c.len in let p = length_push now (Some times) in omega (arith, l, p);
  before = λ i u. ap value_of (get_or_front i u) ∙ c.before i u;
  cells = λ j u. by j (nat_lt j k) refl u;
}
  where
    get_or_front : (i : ℕ) → i < length old → get_or (now ++ Some times ∷ []) i None ≡ get_or now i None
    get_or_front i u = let l = c.len in get_or_append_left now (Some times ∷ []) None i (omega (arith, u, l))

    by : (j : ℕ) → (b : Bool) → nat_lt j k ≡ b → j < k + 1 → place (now ++ Some times ∷ []) (length old + j) ≡ capped (count_at ns j xs)
    by j true g u =
        let l : j < k = grind (arith, nat_tests) in
        let m = c.len in
        ap value_of (get_or_append_left now (Some times ∷ []) None (length old + j) (omega (arith, l, m))) ∙ c.cells j l
    by j false g u =
        let l : k ≤ j = grind (arith, nat_tests) in
        let q : j ≡ k = omega (arith, l, u) in
        let m = c.len in
        rw q ((let o : length old + k ≡ length now = omega (arith, m) in ap (place (now ++ Some times ∷ [])) o) ∙ ap value_of (get_or_push now (Some times) None (length now) refl) ∙ one_count ns k times what xs small e f)

-- what is given by the rules of a group

abbrev from_head : ModuleName → List Production → List (S.Symbol ℤ)
from_head n [] = S.Module n [] ∷ []
from_head n (p ∷ ps) = without_params p.rule.successor

head_given : (table : List ℕ) (n : ModuleName) (ps : List Production) → given_in table n ps ≡ from_head n (filter (is_for table n 0) ps)
head_given table n [] = refl
head_given table n (p ∷ ps) = by (is_for table n 0 p) (head_given table n ps)
  where
    by : (b : Bool) → given_in table n ps ≡ from_head n (filter (is_for table n 0) ps) → (if b then without_params p.rule.successor else given_in table n ps) ≡ from_head n (if b then p ∷ filter (is_for table n 0) ps else filter (is_for table n 0) ps)
    by true h = refl
    by false h = h

first_head : (n : ModuleName) (rs : List Rule) (r : Rule) → Some r ≡ slice_get rs 0 → from_head n (map as_production rs) ≡ without_params (rule_of r).successor
first_head n [] r h = cc
first_head n (q ∷ rs) r h = let e : q ≡ r = cc in ap (λ (x : Rule). without_params (rule_of x).successor) e

no_head : (n : ModuleName) (rs : List Rule) → None ≡ slice_get rs 0 → from_head n (map as_production rs) ≡ S.Module n [] ∷ []
no_head n [] h = refl
no_head n (q ∷ rs) h = cc

-- the first rule of the group is there
pub given_added : (s : System) (t : ℕ) (ns : List ModuleName) (name : List ℕ) (letter : Option (List ℕ)) (rs : List Rule) (r : Rule) (body : Body) (ts : List Template) (old new : List (Option ℕ))
    → letter ≡ Some name → map as_production rs ≡ filter (is_for (table_at s.schedule t) (module_name name) 0) s.rules → Some r ≡ slice_get rs 0 → body ≡ r.body → ts ≡ body.successor.items
    → AddsCounts ns (map template_symbol ts) old new → AddsCounts ns (given_for s t (option_map module_name letter)) old new
given_added s t ns name letter rs r body ts old new e f g h k a =
    let is : given s t (module_name name) ≡ without_params (rule_of r).successor = head_given (table_at s.schedule t) (module_name name) s.rules ∙ ap (from_head (module_name name)) (sym f) ∙ first_head (module_name name) rs r g in
    let same : map template_symbol ts ≡ (rule_of r).successor = ap (map template_symbol) (k ∙ ap (λ (x : Body). x.successor.items) h) in
    let whole : given_for s t (option_map module_name letter) ≡ without_params (map template_symbol ts) = ap (λ o. given_for s t (option_map module_name o)) e ∙ is ∙ ap (λ l. without_params l) (sym same) in
    subst (λ (xs : List (S.Symbol ℤ)). AddsCounts ns xs old new) (sym whole) (bare_added ns (map template_symbol ts) old new a)

-- there is none
pub alone_added : (s : System) (t : ℕ) (ns : List ModuleName) (name : List ℕ) (letter : Option (List ℕ)) (rs : List Rule) (old new : List (Option ℕ))
    → letter ≡ Some name → map as_production rs ≡ filter (is_for (table_at s.schedule t) (module_name name) 0) s.rules → None ≡ slice_get rs 0
    → AddsCounts ns (letter_alone (option_map module_name (Some name))) old new → AddsCounts ns (given_for s t (option_map module_name letter)) old new
alone_added s t ns name letter rs old new e f g a =
    let is : given s t (module_name name) ≡ S.Module (module_name name) [] ∷ [] = head_given (table_at s.schedule t) (module_name name) s.rules ∙ ap (from_head (module_name name)) (sym f) ∙ no_head (module_name name) rs g in
    let whole : given_for s t (option_map module_name letter) ≡ S.Module (module_name name) [] ∷ [] = ap (λ o. given_for s t (option_map module_name o)) e ∙ is in
    subst (λ (xs : List (S.Symbol ℤ)). AddsCounts ns xs old new) (sym whole) a
