-- What a row of counts tells of a level.
use Rattle.std.proofs.Common.{◌≡◌, ℕ, zero, suc, ◌+◌, ◌<◌, ◌≤◌, Bool, true, false, List, [], ◌∷◌, Option, length, map, nat_lt, refl, ap, sym, ◌∙◌, subst, arith}
use Rattle.std.specs.Prelude.{min, filter, Ok, Err, if◌then◌else◌}
use Rattle.std.proofs.lemmas.Bool.{ltb-false, ltb-true}
use Rattle.std.proofs.lemmas.List.{length-map}
use Rattle.lsys_syntax.specs.Strings.{ModuleName, balanced}
use Rattle.lsys_syntax.specs.Rules.{IsProduction}
use Rattle.lsys_spec.specs.Systems.{System}
use Rattle.lsys_spec.proofs.Eachs.{each_more}
use Rattle.lsys_laws.specs.Sessions.{IsWell}
use Rattle.lsys_module.specs.Views.{module_name}
use Rattle.lsys_growth.specs.Capped.{cap, capped}
use Rattle.lsys_growth.specs.Sums.{sum_to}
use Rattle.lsys_growth.specs.Matrices.{place, IsRow}
use Rattle.lsys_growth.proofs.Stopping.{capped_plus, capped_twice, sum_capped}
use Rattle.lsys_growth.specs.Growth.{in_class, letters, most_letters, LetterCount, Census, stands, census_within, over_letters, over_numbers, growth_at, level_counted, level_on}
use Rattle.lsys_growth.specs.Counts.{told_length, paired, told_census, counts_after}
use Rattle.lsys_growth.proofs.ToldLevels.{HasBrackets, level_told}
use Rattle.lsys_growth.specs.Steps.{IsLevelRow}

pub counted_long : (c : Census) → cap ≤ c.symbols → census_within c ≡ Err over_numbers
counted_long c h = by (nat_lt c.symbols cap) refl
  where
    by : (b : Bool) → nat_lt c.symbols cap ≡ b → (if b then Ok c else Err over_numbers) ≡ Err over_numbers
    by true e = let f = ltb-true c.symbols cap e in absurd (omega (arith, h, f))
    by false e = refl

pub term_within : (k : ℕ) (f : ℕ → ℕ) (i : ℕ) → i < k → f i ≤ sum_to k f
term_within zero f i h = absurd (omega arith)
term_within (suc k) f i h = by (nat_lt i k) refl (λ g. term_within k f i g)
  where
    by : (b : Bool) → nat_lt i k ≡ b → (i < k → f i ≤ sum_to k f) → f i ≤ sum_to k f + f k
    by true e g = let l = ltb-true i k e in let m = g l in omega (arith, m)
    by false e g =
        let l = ltb-false i k e in
        let q : i ≡ k = omega (arith, l, h) in
        subst (λ (x : ℕ). f x ≤ sum_to k f + f k) (sym q) (omega arith)

pub count_within : (k : ℕ) (c : ℕ → ℕ) (i : ℕ) → i < k → c i ≤ told_length k c
count_within k c i h = let e = term_within k c i h in omega (arith, e)

-- a place of the row is below the bound where the length is
pub place_below : (k : ℕ) (c : ℕ → ℕ) (i n : ℕ) → i < k → n < cap → n ≡ capped (told_length k c) → c i < cap
place_below k c i n h l e =
    let m = count_within k c i h in
    below cap (told_length k c) (c i) n e l m
  where
    below : (m x y n : ℕ) → n ≡ min x m → n < m → y ≤ x → y < m
    below m x y n e l h = omega (arith, e, l, h)

small : (m x y : ℕ) → min x m ≡ min y m → x < m → y ≡ x
small m x y e h = omega (arith, e, h)

great : (m x y : ℕ) → min x m ≡ min y m → m ≤ x → m ≤ y
great m x y e h = omega (arith, e, h)

within : (m x y : ℕ) → y ≡ min x m → x < m → y ≡ x
within m x y e h = omega (arith, e, h)

pub pairs_same : (ns : List ModuleName) (c d : ℕ → ℕ) → ((i : ℕ) → i < length ns → c i ≡ d i) → paired ns c ≡ paired ns d
pairs_same [] c d h = refl
pairs_same (n ∷ ns) c d h =
    ap (λ (m : ℕ). record { letter = n; times = m } ∷ paired ns (λ i. c (suc i))) (h 0 (omega arith))
    ∙ ap (λ l. record { letter = n; times = d 0 } ∷ l) (pairs_same ns (λ i. c (suc i)) (λ i. d (suc i)) (λ i b. h (suc i) (omega (arith, b))))

-- a row that tells counts, as far as it goes, tells the same census
pub counted_row : (ns : List ModuleName) (c : ℕ → ℕ) (row : List (Option ℕ)) → IsRow (suc (length ns)) c row → census_within (told_census ns (place row)) ≡ census_within (told_census ns c)
counted_row ns c row r = by (nat_lt (told_length k c) cap) refl
  where
    k : ℕ
    k = length ns

    once : (x y : ℕ) → x ≡ capped y → capped x ≡ capped y
    once x y e = ap capped e ∙ capped_twice y

    same : capped (told_length k c) ≡ capped (told_length k (place row))
    same =
        let last : capped (c k) ≡ capped (place row k) = sym (once (place row k) (c k) (r.places k (omega arith))) in
        capped_plus (sum_to k c) (c k + c k) (sum_to k (place row)) (place row k + place row k)
        (sum_capped k c (place row) (λ i b. sym (once (place row i) (c i) (r.places i (omega (arith, b))))))
        (capped_plus (c k) (c k) (place row k) (place row k) last last)

    by : (b : Bool) → nat_lt (told_length k c) cap ≡ b → census_within (told_census ns (place row)) ≡ census_within (told_census ns c)
    by true e =
        let l = ltb-true (told_length k c) cap e in
        let t : told_length k (place row) ≡ told_length k c = small cap (told_length k c) (told_length k (place row)) same l in
        ap census_within (ap (λ (n : ℕ). record { symbols = n; counts = filter stands (paired ns (place row)) }) t
        ∙ ap (λ (l : List LetterCount). record { symbols = told_length k c; counts = filter stands l })
        (pairs_same ns (place row) c (λ i b. within cap (c i) (place row i) (r.places i (omega (arith, b))) (let m = count_within k c i b in omega (arith, m, l)))))
    by false e =
        let l = ltb-false (told_length k c) cap e in
        counted_long (told_census ns (place row)) (great cap (told_length k c) (told_length k (place row)) same l) ∙ sym (counted_long (told_census ns c) l)

-- the answers, in their order

brackets : (s : System) → IsWell s → HasBrackets s
brackets s w = record { in_axiom = w.1.axiom_balanced; in_successors = each_more (λ p. IsProduction p) (λ p. balanced 0 p.rule.successor ≡ true) s.rules (λ p h. h.rule.successor_balanced) w.1.rules }

pub told_row : (s : System) (t : ℕ) (ns : List ModuleName) (row : List (Option ℕ)) → IsWell s → in_class s ≡ true → ns ≡ letters s → length ns ≤ most_letters
    → IsRow (suc (length ns)) (counts_after s ns t) row → growth_at s t ≡ census_within (told_census ns (place row))
told_row s t ns row w h e f r =
    rw h (by (nat_lt most_letters (length (letters s))) refl)
    ∙ level_told s t h (brackets s w)
    ∙ ap (λ ms. census_within (told_census ms (counts_after s ms t))) (sym e)
    ∙ sym (counted_row ns (counts_after s ns t) row r)
  where
    by : (b : Bool) → nat_lt most_letters (length (letters s)) ≡ b → (if b then Err over_letters else level_counted (letters s) (level_on s t)) ≡ level_counted (letters s) (level_on s t)
    by true g =
        let l = ltb-true most_letters (length (letters s)) g in
        let k = ap length e in
        absurd (omega (arith, f, l, k))
    by false g = refl

pub told_some : (s : System) (t : ℕ) (ls : List (List ℕ)) (row : List (Option ℕ)) → IsWell s → in_class s ≡ true → map module_name ls ≡ letters s → length ls ≤ most_letters
    → IsLevelRow s (map module_name ls) t row → growth_at s t ≡ census_within (told_census (map module_name ls) (place row))
told_some s t ls row w h e f r = let l = length-map ls module_name in told_row s t (map module_name ls) row w h e (omega (arith, f, l)) r
