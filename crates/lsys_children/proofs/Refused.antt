-- Where there is no next level.
use Rattle.std.proofs.Common.{◌≡◌, ◌+◌, ◌-◌, ◌<◌, ◌≤◌, ℕ, zero, suc, map, Some, Result, Ok, Err, List, [], ◌∷◌, ◌++◌, length, refl, sym, ap, ◌∙◌, arith, sum_by}
use Rattle.std.specs.Prelude.{ℤ, slice_get}
use Rattle.std.proofs.Math.Nat.{add-suc}
use Rattle.std.proofs.lemmas.Bool.Decides.{nat_tests}
use Rattle.std.proofs.lemmas.Grind.{common_steps}
use Rattle.std.proofs.lemmas.List.Sums.{sum_by_push, sum_by-cons}
use Rattle.lsys_syntax.specs.Strings as S
use Rattle.lsys_spec.specs.Systems.{System}
use Rattle.lsys_spec.specs.Values.{◌and_then◌}
use Rattle.lsys_spec.specs.Levels as L
use Rattle.lsys_spec.specs.Choice.{Fault}
use Rattle.lsys_spec.specs.Cuts.{Raw, cut}
use Rattle.lsys_spec.specs.Meaning.{LevelRefusal, OverLimit, FaultAt, children, fault_at, children_from, first_level, next_level, last_level, within_limit, meaning_to, meaning, replacement}
use Rattle.lsys_laws.specs.Kinds.{BracketKind, Opens, Closes, Neither}
use Rattle.lsys_laws.specs.Kinds as kinds
use Rattle.lsys_laws.proofs.UpTo.{level_count}
use Rattle.lsys_forest.specs.Nodes.{Nodes}
use Rattle.lsys_forest.specs.Rows.{spot_in, level_nodes}
use Rattle.lsys_match.specs.Kept.{Kept}
use Rattle.lsys_reads.specs.Lineages.{names}
use Rattle.lsys_reads.specs.Levels.{level_of}
use Rattle.lsys_reads.specs.Meant.{meant_to}
use Rattle.lsys_children.specs.Nexts.{Successors, node_symbol, node_kind, count_kind, module_nodes, HasFirstFault}
use Rattle.lsys_children.proofs.Nexts.{kind_with, level_symbols, last_there}

-- 1. a refusal stays

stays_by : (s : System) (limit t d : ℕ) (e : LevelRefusal) → meaning_to s limit t ≡ Err e → meaning_to s limit (t + d) ≡ Err e
stays_by s limit t zero e h = grind (arith, common_steps)
stays_by s limit t (suc d) e h = let before = stays_by s limit t d e h in rw (add-suc) (rw before refl)

pub stays : (s : System) (limit t n : ℕ) (e : LevelRefusal) → t ≤ n → meaning_to s limit t ≡ Err e → meaning_to s limit n ≡ Err e
stays s limit t n e h m =
    let at : t + (n - t) ≡ n = omega arith in
    ap (meaning_to s limit) (sym at) ∙ stays_by s limit t (n - t) e m

over : (limit t : ℕ) (levels : List (List L.LevelSymbol)) → limit < sum_by length levels → within_limit limit t levels ≡ Err (OverLimit t)
over limit t levels h = grind (arith, nat_tests)

pub over_first : (s : System) (limit : ℕ) → limit < length (first_level s) → meaning s limit ≡ Err (OverLimit 0)
over_first s limit h =
    stays s limit 0 s.depth (OverLimit 0) (omega arith) (over limit 0 (first_level s ∷ []) (omega (arith, sum_by-cons (length {A = L.LevelSymbol}) (first_level s) [], h)))

-- the step to the next level, by what that level is
pub step_to : (s : System) (limit t : ℕ) (levels : List (List L.LevelSymbol)) (r : Result (List L.LevelSymbol) LevelRefusal) → meaning_to s limit t ≡ Ok levels → next_level s t (last_level levels) ≡ r
    → meaning_to s limit (suc t) ≡ (r and_then λ x. within_limit limit (suc t) (levels ++ x ∷ []))
step_to s limit t levels r m n =
    ap (λ (r : Result (List (List L.LevelSymbol)) LevelRefusal). r and_then λ levels. next_level s t (last_level levels) and_then λ x. within_limit limit (suc t) (levels ++ x ∷ [])) m
    ∙ ap (λ (r : Result (List L.LevelSymbol) LevelRefusal). r and_then λ x. within_limit limit (suc t) (levels ++ x ∷ [])) n

-- with the next level they are over the limit
pub over_to : (s : System) (limit t : ℕ) (xs : List (List L.LevelSymbol)) (x : List L.LevelSymbol) → meaning_to s limit t ≡ Ok xs → next_level s t (last_level xs) ≡ Ok x → limit < sum_by length xs + length x → meaning_to s limit (suc t) ≡ Err (OverLimit (suc t))
over_to s limit t xs x m n h = step_to s limit t xs (Ok x) m n ∙ over limit (suc t) (xs ++ x ∷ []) (omega (arith, sum_by_push (length {A = L.LevelSymbol}) xs x, h))

-- 2. the first fault of a level

fault_past : (s : System) (t : ℕ) (x : List L.LevelSymbol) (p n : ℕ) (a : L.LevelSymbol) (rest : List L.LevelSymbol) (zs : List (S.Symbol ℤ)) (f : LevelRefusal) → replacement s t x p a ≡ Ok zs
    → children_from s t x (p + 1) (count_kind (kinds.kind_of_symbol a) n) rest ≡ Err f → children_from s t x p n (a ∷ rest) ≡ Err f
fault_past s t x p n (L.Push l) rest zs f e h = ap (λ (r : Result (List Raw) LevelRefusal). r and_then λ more. Ok (children s.numbering l (S.Push ∷ []) ++ more)) h
fault_past s t x p n (L.Pop l) rest zs f e h = ap (λ (r : Result (List Raw) LevelRefusal). r and_then λ more. Ok (children s.numbering l (S.Pop ∷ []) ++ more)) h
fault_past s t x p n (L.Module l v) rest zs f e h =
    ap (λ (r : Result (List (S.Symbol ℤ)) Fault). fault_at t (n + 1) r and_then λ ys. children_from s t x (p + 1) (n + 1) rest and_then λ more. Ok (children s.numbering l ys ++ more)) e
    ∙ ap (λ (r : Result (List Raw) LevelRefusal). r and_then λ more. Ok (children s.numbering l zs ++ more)) h

fault_here : (s : System) (t : ℕ) (x : List L.LevelSymbol) (p n : ℕ) (a : L.LevelSymbol) (rest : List L.LevelSymbol) (e : Fault) → replacement s t x p a ≡ Err e → children_from s t x p n (a ∷ rest) ≡ Err (FaultAt e t (n + 1))
fault_here s t x p n (L.Push l) rest e h = cc
fault_here s t x p n (L.Pop l) rest e h = cc
fault_here s t x p n (L.Module l v) rest e h =
    ap (λ (r : Result (List (S.Symbol ℤ)) Fault). fault_at t (n + 1) r and_then λ ys. children_from s t x (p + 1) (n + 1) rest and_then λ more. Ok (children s.numbering l ys ++ more)) h

counted_more : (kind : BracketKind) (n i : ℕ) → count_kind kind n + i ≡ n + count_kind kind i
counted_more Opens n i = refl
counted_more Closes n i = refl
counted_more Neither n i = omega arith

module _ {A : Type 0} where
  first_fault : (s : System) (t : ℕ) (x : List L.LevelSymbol) (m : Nodes A) (by : Successors) (p n : ℕ) (before : List ℕ) (k : ℕ) (after : List ℕ) (e : Fault)
      → ((i j : ℕ) → slice_get before i ≡ Some j → replacement s t x (p + i) (node_symbol m j) ≡ Ok (by j)) → replacement s t x (p + length before) (node_symbol m k) ≡ Err e
      → children_from s t x p n (map (node_symbol m) (before ++ k ∷ after)) ≡ Err (FaultAt e t (n + module_nodes m before + 1))
  first_fault s t x m by p n [] k after e each h =
      let here : p + 0 ≡ p = omega arith in
      let count : n + 1 ≡ n + 0 + 1 = omega arith in
      fault_here s t x p n (node_symbol m k) (map (node_symbol m) after) e (ap (λ p. replacement s t x p (node_symbol m k)) (sym here) ∙ h) ∙ ap (λ i. Err (FaultAt e t i)) count
  first_fault s t x m by p n (j ∷ before) k after e each h =
      let kind : kinds.kind_of_symbol (node_symbol m j) ≡ node_kind m j = kind_with (names m (spot_in j (m j)).tag) (spot_in j (m j)).seen in
      let here : p + 0 ≡ p = omega arith in
      let there : p + 1 + length before ≡ p + suc (length before) = omega arith in
      let rest = first_fault s t x m by (p + 1) (count_kind (kinds.kind_of_symbol (node_symbol m j)) n) before k after e
      (λ i q g. (let f : p + 1 + i ≡ p + suc i = omega arith in ap (λ p. replacement s t x p (node_symbol m q)) f ∙ each (suc i) q g))
      (ap (λ p. replacement s t x p (node_symbol m k)) there ∙ h) in
      fault_past s t x p n (node_symbol m j) (map (node_symbol m) (before ++ k ∷ after)) (by j) (FaultAt e t (count_kind (kinds.kind_of_symbol (node_symbol m j)) n + module_nodes m before + 1))
      (ap (λ p. replacement s t x p (node_symbol m j)) (sym here) ∙ each 0 j refl) rest
      ∙ ap (λ b. Err (FaultAt e t (count_kind b n + module_nodes m before + 1))) kind ∙ ap (λ i. Err (FaultAt e t (i + 1))) (counted_more (node_kind m j) n (module_nodes m before))

-- the level has no next one, by its first fault
pub fault_level : (s : System) (limit t : ℕ) (m : Nodes Kept) (root : ℕ) (by : Successors) (before : List ℕ) (k : ℕ) (after : List ℕ) (e : Fault) → HasFirstFault s limit t m root by before k after e
    → next_level s t (last_level (meant_to s limit t)) ≡ Err (FaultAt e t (module_nodes m before + 1))
fault_level s limit t m root by before k after e h =
    let x : List L.LevelSymbol = level_of m root t in
    let count : length (meant_to s limit t) ≡ t + 1 = level_count s limit t (meant_to s limit t) h.spelled h.is in
    let last : last_level (meant_to s limit t) ≡ x = last_there (meant_to s limit t) t count ∙ sym (h.levels.each t (omega (arith, count))) in
    let whole : x ≡ map (node_symbol m) (before ++ k ∷ after) = level_symbols m (level_nodes m root t) ∙ ap (map (node_symbol m)) h.level in
    let zero_and : (i : ℕ) → 0 + i ≡ i = λ i. omega arith in
    let all : children_from s t x 0 0 (map (node_symbol m) (before ++ k ∷ after)) ≡ Err (FaultAt e t (0 + module_nodes m before + 1)) =
    first_fault s t x m by 0 0 before k after e (λ i j g. ap (λ p. replacement s t x p (node_symbol m j)) (zero_and i) ∙ h.replaced i j g)
    (ap (λ p. replacement s t x p (node_symbol m k)) (zero_and (length before)) ∙ h.faulty) in
    ap (next_level s t) last
    ∙ ap (λ (r : Result (List Raw) LevelRefusal). r and_then λ raw. Ok (cut raw)) (ap (children_from s t x 0 0) whole ∙ all ∙ ap (λ i. Err (FaultAt e t (i + 1))) (zero_and (module_nodes m before)))
