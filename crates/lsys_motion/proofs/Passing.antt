-- The image of a level is taken part by part.
use Rattle.std.proofs.Common.{◌≡◌, ℕ, Some, List, slice_get, refl, sym, subst}
use Rattle.std.specs.Prelude.{ℤ, IsSome}
use Rattle.lsys_syntax.specs.Strings as S
use Rattle.lsys_spec.specs.Lattices.{Lattice}
use Rattle.lsys_forest.specs.Nodes.{Nodes}
use Rattle.lsys_forest.specs.Groves.{AreKids}
use Rattle.lsys_forest.proofs.WalkLemmas.{get_In}
use Rattle.lsys_hom.specs.Coming.{Coming}
use Rattle.lsys_motion.specs.Keepers.{Keeper, Keeps}
use Rattle.lsys_motion.specs.Going.{IsGoing, GoesOn}
use Rattle.lsys_motion.proofs.Keeping.{busy_then}

pub goes_then : (l : Lattice) (a b c : Coming) (k m n : Keeper) → GoesOn l a k b m → GoesOn l b m c n → GoesOn l a k c n
goes_then l a b c k m n g h = record { keeps = λ total u. h.keeps total (g.keeps total u); refusal = h.refusal }

pub going_then : (l : Lattice) (a b : Coming) (k m : Keeper) → IsGoing l a k → GoesOn l a k b m → IsGoing l b m
going_then l a b k m h g = record { busy = busy_then l a.symbols b.symbols k m g.keeps h.busy; refusal = g.refusal }

-- only the keeper goes on
pub keeper_goes : (l : Lattice) (c : Coming) (k m : Keeper) → IsGoing l c k → ((rest : List (S.Symbol ℤ)) → Keeps l rest rest k m) → GoesOn l c k c m
keeper_goes l c k m h keeps = record { keeps = keeps c.symbols; refusal = h.refusal }

pub kid_lives : {A : Type 0} (m : Nodes A) (root parent : ℕ) (kids : List ℕ) (i k : ℕ) → AreKids m root parent kids → slice_get kids i ≡ Some k → IsSome (m k)
kid_lives m root parent kids i k h e = let u = h.under k (get_In kids i k e) in subst (λ o. IsSome o) (sym u.is) refl
