-- A derivation step, symbol by symbol.
use Rattle.std.proofs.Common.{◌≡◌, ℕ, ◌+◌, Some, Result, Ok, Err, List, [], ◌∷◌, ◌++◌, drop, sym, ap, ◌∙◌}
use Rattle.std.specs.Prelude.{ℤ, slice_get}
use Rattle.lsys_syntax.specs.Strings as S
use Rattle.lsys_spec.specs.Systems.{System}
use Rattle.lsys_spec.specs.Values.{◌and_then◌}
use Rattle.lsys_spec.specs.Levels.{LevelSymbol, Push, Pop, Module, lineage}
use Rattle.lsys_spec.specs.Choice.{Fault}
use Rattle.lsys_spec.specs.Cuts.{Raw, cut}
use Rattle.lsys_spec.specs.Meaning.{LevelRefusal, FaultAt, children, fault_at, children_from, next_level, replacement}
use Rattle.lsys_rewrite.proofs.After.{after, after_twice}
use Rattle.lsys_flat.proofs.Naming.{drop_there}
use Rattle.lsys_flat.specs.Steps.{modules_up_to, ReplacedTo}

one_step : (s : System) (t : ℕ) (x : List LevelSymbol) (p n : ℕ) (a : LevelSymbol) (rest : List LevelSymbol) (ys : List (S.Symbol ℤ)) → replacement s t x p a ≡ Ok ys
    → children_from s t x p n (a ∷ rest) ≡ after (children s.numbering (lineage a) ys) (children_from s t x (p + 1) (modules_up_to a n) rest)
one_step s t x p n (Push l) rest ys e =
    let h : S.Push ∷ [] ≡ ys = cc in ap (λ ys. after (children s.numbering l ys) (children_from s t x (p + 1) n rest)) h
one_step s t x p n (Pop l) rest ys e =
    let h : S.Pop ∷ [] ≡ ys = cc in ap (λ ys. after (children s.numbering l ys) (children_from s t x (p + 1) n rest)) h
one_step s t x p n (Module l m) rest ys e =
    ap (λ (r : Result (List (S.Symbol ℤ)) Fault). fault_at t (n + 1) r and_then λ ys. children_from s t x (p + 1) (n + 1) rest and_then λ more. Ok (children s.numbering l ys ++ more)) e

one_fault : (s : System) (t : ℕ) (x : List LevelSymbol) (p n : ℕ) (a : LevelSymbol) (rest : List LevelSymbol) (k : Fault) → replacement s t x p a ≡ Err k
    → children_from s t x p n (a ∷ rest) ≡ Err (FaultAt k t (n + 1))
one_fault s t x p n (Push l) rest k e = cc
one_fault s t x p n (Pop l) rest k e = cc
one_fault s t x p n (Module l m) rest k e =
    ap (λ (r : Result (List (S.Symbol ℤ)) Fault). fault_at t (n + 1) r and_then λ ys. children_from s t x (p + 1) (n + 1) rest and_then λ more. Ok (children s.numbering l ys ++ more)) e

pub goes_on : (s : System) (t : ℕ) (x : List LevelSymbol) (p n : ℕ) (raw : List Raw) (a : LevelSymbol) (ys : List (S.Symbol ℤ)) → ReplacedTo s t x p n raw → slice_get x p ≡ Some a → replacement s t x p a ≡ Ok ys
    → ReplacedTo s t x (p + 1) (modules_up_to a n) (raw ++ children s.numbering (lineage a) ys)
goes_on s t x p n raw a ys h g e = record {
  told =
      sym (after_twice raw (children s.numbering (lineage a) ys) (children_from s t x (p + 1) (modules_up_to a n) (drop (p + 1) x)))
      ∙ ap (after raw) (sym (one_step s t x p n a (drop (p + 1) x) ys e))
      ∙ ap (λ rest. after raw (children_from s t x p n rest)) (sym (drop_there x p a g))
      ∙ h.told;
}

pub faults : (s : System) (t : ℕ) (x : List LevelSymbol) (p n : ℕ) (raw : List Raw) (a : LevelSymbol) (k : Fault) → ReplacedTo s t x p n raw → slice_get x p ≡ Some a → replacement s t x p a ≡ Err k
    → next_level s t x ≡ Err (FaultAt k t (n + 1))
faults s t x p n raw a k h g e =
    let there : children_from s t x p n (drop p x) ≡ Err (FaultAt k t (n + 1)) = ap (children_from s t x p n) (drop_there x p a g) ∙ one_fault s t x p n a (drop (p + 1) x) k e in
    let all : children_from s t x 0 0 x ≡ Err (FaultAt k t (n + 1)) = sym h.told ∙ ap (after raw) there in
    ap (λ (r : Result (List Raw) LevelRefusal). r and_then λ raw. Ok (cut raw)) all
