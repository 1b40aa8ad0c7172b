-- What lies between a bracket and its mate.
use Rattle.std.proofs.Common.{◌≡◌, ℕ, zero, suc, List, [], ◌∷◌, ◌++◌, ◌+◌, length, take, drop, Option, Some, None, refl, ap, sym, ◌∙◌, arith}
use Rattle.std.specs.Prelude.{option_map, fold, slice_get}
use Rattle.lsys_spec.specs.Levels.{LevelSymbol, Push, Pop, Module, close_of, Step, Around, Reading, read, Items, Nest, at_root, in_branch, with_module, with_whole_branch, with_open_bracket, items_of}

after_rule : (o : Option ℕ) (q : ℕ) → option_map (λ q. q + 1) o ≡ Some q → (p : ℕ) × (o ≡ Some p) × (q ≡ suc p)
after_rule None q h = cc
after_rule (Some p) q h = let e : p + 1 ≡ q = cc in (p, refl, omega (arith, e))

-- a bracket ends the branch
pub close_there : (x : List LevelSymbol) (n q : ℕ) → close_of n x ≡ Some q → (l : List ℕ) × (slice_get x q ≡ Some (Pop l))
close_there [] n q h = cc
close_there (Module l m ∷ x) n q h = let s = after_rule (close_of n x) q h in rw (s.2) (close_there x n s.0 s.1)
close_there (Push l ∷ x) n q h = let s = after_rule (close_of (suc n) x) q h in rw (s.2) (close_there x (suc n) s.0 s.1)
close_there (Pop l ∷ x) zero q h = let e : 0 ≡ q = cc in rw (← e) (l, refl)
close_there (Pop l ∷ x) (suc n) q h = let s = after_rule (close_of n x) q h in rw (s.2) (close_there x n s.0 s.1)

-- c ends the branch with n around it, and m is what stands after
abbrev pub Peels : ℕ → Nest → LevelSymbol → Nest → Type 0
Peels n (at_root r) c m = ⊥
Peels zero (in_branch r close k) c m = (close ≡ c) × (k ≡ m)
Peels (suc n) (in_branch r close k) c m = Peels n k c m

peels_module : (n : ℕ) (k m : Nest) (c s : LevelSymbol) → Peels n k c m → Peels n (with_module s k) c m
peels_module n (at_root r) m c s h = elim h [ ]
peels_module zero (in_branch r close k) m c s h = h
peels_module (suc n) (in_branch r close k) m c s h = h

peels_branch : (n : ℕ) (k m : Nest) (c o close : LevelSymbol) (inner : Items) → Peels n k c m → Peels n (with_whole_branch o close inner k) c m
peels_branch n (at_root r) m c o close inner h = elim h [ ]
peels_branch zero (in_branch r d k) m c o close inner h = h
peels_branch (suc n) (in_branch r d k) m c o close inner h = h

peels_opened : (n : ℕ) (k m : Nest) (c o : LevelSymbol) → Peels (suc n) k c m → Peels n (with_open_bracket o k) c m
peels_opened n (at_root r) m c o h = elim h [ ]
peels_opened n (in_branch r close k) m c o h = peels_branch n k m c o close r h

pub close_items : (x : List LevelSymbol) (n q : ℕ) (c : LevelSymbol) → close_of n x ≡ Some q → slice_get x q ≡ Some c → Peels n (items_of x) c (items_of (drop (suc q) x))
close_items [] n q c h g = cc
close_items (Module l m ∷ x) n q c h g =
    let s = after_rule (close_of n x) q h in
    rw (s.2) (peels_module n (items_of x) (items_of (drop (suc s.0) x)) c (Module l m) (close_items x n s.0 c s.1 (ap (slice_get (Module l m ∷ x)) (sym s.2) ∙ g)))
close_items (Push l ∷ x) n q c h g =
    let s = after_rule (close_of (suc n) x) q h in
    rw (s.2) (peels_opened n (items_of x) (items_of (drop (suc s.0) x)) c (Push l) (close_items x (suc n) s.0 c s.1 (ap (slice_get (Push l ∷ x)) (sym s.2) ∙ g)))
close_items (Pop l ∷ x) zero q c h g =
    let e : 0 ≡ q = cc in
    let there : Some (Pop l) ≡ Some c = ap (slice_get (Pop l ∷ x)) e ∙ g in
    let same : Pop l ≡ c = cc in
    rw (← e) (same, refl)
close_items (Pop l ∷ x) (suc n) q c h g =
    let s = after_rule (close_of n x) q h in
    rw (s.2) (close_items x n s.0 c s.1 (ap (slice_get (Pop l ∷ x)) (sym s.2) ∙ g))

-- reading from a bracket on to its mate gives back what was saved
pub close_reading : (x : List LevelSymbol) (n q : ℕ) (r : Reading) (front saved : List (LevelSymbol × List Step)) (o : LevelSymbol × List Step) (c : LevelSymbol)
    → close_of n x ≡ Some q → slice_get x q ≡ Some c → r.saved ≡ front ++ o ∷ saved → length front ≡ n
    → fold read r (take (suc q) x) ≡ record { way = Around o.0 c ∷ o.1; saved = saved }
close_reading [] n q r front saved o c h g e i = cc
close_reading (Module l m ∷ x) n q r front saved o c h g e i =
    let s = after_rule (close_of n x) q h in
    rw (s.2) (close_reading x n s.0 (read r (Module l m)) front saved o c s.1 (ap (slice_get (Module l m ∷ x)) (sym s.2) ∙ g) e i)
close_reading (Push l ∷ x) n q r front saved o c h g e i =
    let s = after_rule (close_of (suc n) x) q h in
    rw (s.2) (close_reading x (suc n) s.0 (read r (Push l)) ((Push l, r.way) ∷ front) saved o c s.1 (ap (slice_get (Push l ∷ x)) (sym s.2) ∙ g) (ap (λ t. (Push l, r.way) ∷ t) e) (omega (arith, i)))
close_reading (Pop l ∷ x) zero q r [] saved o c h g e i =
    let z : 0 ≡ q = cc in
    let there : Some (Pop l) ≡ Some c = ap (slice_get (Pop l ∷ x)) z ∙ g in
    let same : Pop l ≡ c = cc in
    rw (← z, e, ← same) refl
close_reading (Pop l ∷ x) zero q r (f ∷ front) saved o c h g e i = absurd (omega (arith, i))
close_reading (Pop l ∷ x) (suc n) q r [] saved o c h g e i = absurd (omega (arith, i))
close_reading (Pop l ∷ x) (suc n) q r (f ∷ front) saved o c h g e i =
    let s = after_rule (close_of n x) q h in
    rw (s.2, e) (close_reading x n s.0 (record { way = Around f.0 (Pop l) ∷ f.1; saved = front ++ o ∷ saved }) front saved o c s.1 (ap (slice_get (Pop l ∷ x)) (sym s.2) ∙ g) refl (omega (arith, i)))
