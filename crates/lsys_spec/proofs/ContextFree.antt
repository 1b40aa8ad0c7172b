-- Without contexts a module's successor is the same wherever it stands.
use Rattle.std.proofs.Common.{◌≡◌, ℕ, ◌+◌, Bool, true, false, ◌&&◌, List, [], ◌∷◌, ◌++◌, length, map, refl, ap, sym, ◌∙◌, true≢false, append_assoc}
use Rattle.std.specs.Prelude.{ℤ, None, Result, Ok, Err}
use Rattle.lsys_syntax.specs.Strings.{ModuleName}
use Rattle.lsys_syntax.specs.Strings as S
use Rattle.lsys_spec.specs.Systems.{System, Each}
use Rattle.lsys_spec.specs.Values.{◌and_then◌}
use Rattle.lsys_spec.specs.Bodies.{Body, Pattern, Patterns, Done, OneOf, BranchOf, group, filter}
use Rattle.lsys_syntax.specs.Commands.{Numbering}
use Rattle.lsys_spec.specs.Numbers.{code_of}
use Rattle.lsys_spec.specs.Levels.{ModuleValue, Step, Items, LevelSymbol, Push, Pop, Module, plain, way, items_from}
use Rattle.lsys_spec.specs.Choice.{Fault, choice}
use Rattle.lsys_spec.specs.Cuts.{Raw}
use Rattle.lsys_spec.specs.Meaning.{LevelRefusal, OverLimit, FaultAt, numbered, children, any_weight, key_for, ignored_by, asking, asked, successor_by, successor, fault_at, children_from}
use Rattle.lsys_spec.specs.Standings.{no_left, no_patterns, free}
use Rattle.lsys_spec.specs.Morphisms.{IsContextFree, IsUnweighted, given_alone, rewritten, raw_plain, AreMade}
use Rattle.lsys_spec.proofs.SameGroups.{FindSame, choice_same}

and_is : (a b : Bool) → (a && b) ≡ true → (a ≡ true) × (b ≡ true)
and_is true true h = (refl, refl)
and_is true false h = absurd (true≢false (sym h))
and_is false b h = absurd (true≢false (sym h))

no_left-is : (qs : List Pattern) → no_left qs ≡ true → qs ≡ []
no_left-is [] h = refl
no_left-is (q ∷ qs) h = absurd (true≢false (sym h))

no_patterns-is : (p : Patterns) → no_patterns p ≡ true → p ≡ Done
no_patterns-is Done h = refl
no_patterns-is (OneOf q p) h = absurd (true≢false (sym h))
no_patterns-is (BranchOf q p) h = absurd (true≢false (sym h))

finds_same : (f : ModuleName → Bool) (own : ModuleValue) (w v : List Step) (r q : Items) (b : Body)
    → b.left ≡ [] → b.right ≡ Done → FindSame f f own w v r q b
finds_same f own w v r q b e h d = rw (e, h) refl

all_find : (f : ModuleName → Bool) (own : ModuleValue) (w v : List Step) (r q : Items) (bs : List Body)
    → free bs ≡ true → Each (FindSame f f own w v r q) bs
all_find f own w v r q [] h = tt
all_find f own w v r q (b ∷ bs) h =
    let both = and_is _ (free bs) h in
    let none = and_is (no_left b.left) (no_patterns b.right) both.0 in
    (finds_same f own w v r q b (no_left-is b.left none.0) (no_patterns-is b.right none.1), all_find f own w v r q bs both.1)

asked_free : (s : System) (t : ℕ) (bs : List Body) (x y : List LevelSymbol) (p q : ℕ) (l : List ℕ) (m : ModuleValue)
    → free bs ≡ true → asked s t bs x p l m ≡ asked s t bs y q l m
asked_free s t bs x y p q l m h =
    choice_same (asking s t m) (ignored_by (filter s t)) (way x p) (way y q) (items_from x (p + 1)) (items_from y (q + 1)) (key_for s l bs) bs (all_find _ m _ _ _ _ bs h)

pub successor_free : (s : System) (t : ℕ) → IsContextFree s t
    → (x y : List LevelSymbol) (p q : ℕ) (l : List ℕ) (m : ModuleValue) → successor s t x p l m ≡ successor s t y q l m
successor_free s t h x y p q l m =
    let bs = group s t m.name (length m.params) in
    ap (λ u. successor_by bs m u.answer) (asked_free s t bs x y p q l m (h m.name (length m.params)))

no_key : (s : System) (l : List ℕ) (bs : List Body) → any_weight bs ≡ false → key_for s l bs ≡ None
no_key s l bs h = rw h refl

asked_unweighted : (s : System) (t : ℕ) (bs : List Body) (x : List LevelSymbol) (p : ℕ) (l k : List ℕ) (m : ModuleValue)
    → any_weight bs ≡ false → asked s t bs x p l m ≡ asked s t bs x p k m
asked_unweighted s t bs x p l k m h =
    ap (λ key. choice (asking s t m) key (way x p) (items_from x (p + 1)) bs) (no_key s l bs h ∙ sym (no_key s k bs h))

successor_alone : (s : System) (t : ℕ) → IsContextFree s t → IsUnweighted s t
    → (x : List LevelSymbol) (p : ℕ) (l : List ℕ) (m : ModuleValue) → successor s t x p l m ≡ given_alone s t m
successor_alone s t h u x p l m =
    let bs = group s t m.name (length m.params) in
    ap (λ o. successor_by bs m o.answer) (asked_unweighted s t bs x p l [] m (u m.name (length m.params)))
    ∙ successor_free s t h x (Module [] m ∷ []) p 0 [] m

plain_numbered : (g : Numbering) (n : ℕ) (before l : List ℕ) (ys : List (S.Symbol ℤ)) (more : List Raw) → map raw_plain (numbered g n before l ys ++ more) ≡ ys ++ map raw_plain more
plain_numbered g n before l [] more = refl
plain_numbered g n before l (S.Module name ps ∷ ys) more = ap (λ zs. S.Module name ps ∷ zs) (plain_numbered g (n + 1) (code_of (S.Module name ps) ∷ before) l ys more)
plain_numbered g n before l (S.Push ∷ ys) more = ap (λ zs. S.Push ∷ zs) (plain_numbered g (n + 1) (91 ∷ before) l ys more)
plain_numbered g n before l (S.Pop ∷ ys) more = ap (λ zs. S.Pop ∷ zs) (plain_numbered g (n + 1) (93 ∷ before) l ys more)
plain_numbered g n before l (S.Cut ∷ ys) more = ap (λ zs. S.Cut ∷ zs) (plain_numbered g (n + 1) (37 ∷ before) l ys more)

with_bracket : (r : Raw) (c : Result (List Raw) LevelRefusal) (d : Result (List (S.Symbol ℤ)) Fault)
    → AreMade c d → AreMade (c and_then λ more. Ok (r ∷ more)) (d and_then λ more. Ok (raw_plain r ∷ more))
with_bracket r (Ok raw) (Ok ys) h = ap (λ zs. raw_plain r ∷ zs) h
with_bracket r (Ok raw) (Err k) h = absurd h
with_bracket r (Err (FaultAt k t n)) (Ok ys) h = absurd h
with_bracket r (Err (FaultAt k t n)) (Err j) h = h
with_bracket r (Err (OverLimit t)) d h = absurd h

with_children : (g : Numbering) (l : List ℕ) (ys : List (S.Symbol ℤ)) (c : Result (List Raw) LevelRefusal) (d : Result (List (S.Symbol ℤ)) Fault)
    → AreMade c d → AreMade (c and_then λ more. Ok (children g l ys ++ more)) (d and_then λ more. Ok (ys ++ more))
with_children g l ys (Ok raw) (Ok zs) h = plain_numbered g 0 [] l ys raw ∙ ap (λ us. ys ++ us) h
with_children g l ys (Ok raw) (Err k) h = absurd h
with_children g l ys (Err (FaultAt k t n)) (Ok zs) h = absurd h
with_children g l ys (Err (FaultAt k t n)) (Err j) h = h
with_children g l ys (Err (OverLimit t)) d h = absurd h

with_module : (g : Numbering) (t n : ℕ) (l : List ℕ) (a : Result (List (S.Symbol ℤ)) Fault) (c : Result (List Raw) LevelRefusal) (d : Result (List (S.Symbol ℤ)) Fault)
    → AreMade c d
    → AreMade (fault_at t n a and_then λ ys. c and_then λ more. Ok (children g l ys ++ more)) (a and_then λ ys. d and_then λ more. Ok (ys ++ more))
with_module g t n l (Ok ys) c d h = with_children g l ys c d h
with_module g t n l (Err k) c d h = refl

pub children_made : (s : System) (t : ℕ) → IsContextFree s t → IsUnweighted s t
    → (x : List LevelSymbol) (p n : ℕ) (rest : List LevelSymbol) → AreMade (children_from s t x p n rest) (rewritten (given_alone s t) (map plain rest))
children_made s t h u x p n [] = refl
children_made s t h u x p n (Push l ∷ rest) = with_bracket _ _ _ (children_made s t h u x (p + 1) n rest)
children_made s t h u x p n (Pop l ∷ rest) = with_bracket _ _ _ (children_made s t h u x (p + 1) n rest)
children_made s t h u x p n (Module l m ∷ rest) =
    rw (successor_alone s t h u x p l m) (with_module s.numbering t (n + 1) l (given_alone s t m) _ _ (children_made s t h u x (p + 1) (n + 1) rest))

front_then : (x : S.Symbol ℤ) (a b : Result (List (S.Symbol ℤ)) Fault)
    → ((a and_then λ u. b and_then λ v. Ok (u ++ v)) and_then λ more. Ok (x ∷ more)) ≡ ((a and_then λ more. Ok (x ∷ more)) and_then λ u. b and_then λ v. Ok (u ++ v))
front_then x (Ok u) (Ok v) = refl
front_then x (Ok u) (Err k) = refl
front_then x (Err k) b = refl

empty_then : (r : Result (List (S.Symbol ℤ)) Fault) → r ≡ (r and_then λ v. Ok v)
empty_then (Ok v) = refl
empty_then (Err k) = refl

module_then : (o a b : Result (List (S.Symbol ℤ)) Fault)
    → (o and_then λ ys. (a and_then λ u. b and_then λ v. Ok (u ++ v)) and_then λ more. Ok (ys ++ more))
    ≡ ((o and_then λ ys. a and_then λ more. Ok (ys ++ more)) and_then λ u. b and_then λ v. Ok (u ++ v))
module_then (Ok ys) (Ok u) (Ok v) = ap Ok (sym (append_assoc ys u v))
module_then (Ok ys) (Ok u) (Err k) = refl
module_then (Ok ys) (Err k) b = refl
module_then (Err k) a b = refl

pub rewritten_append : (h : ModuleValue → Result (List (S.Symbol ℤ)) Fault) (xs ys : List (S.Symbol ℤ))
    → rewritten h (xs ++ ys) ≡ (rewritten h xs and_then λ u. rewritten h ys and_then λ v. Ok (u ++ v))
rewritten_append h [] ys = empty_then (rewritten h ys)
rewritten_append h (S.Module n ps ∷ xs) ys =
    ap (λ r. h (record { name = n; params = ps }) and_then λ zs. r and_then λ more. Ok (zs ++ more)) (rewritten_append h xs ys)
    ∙ module_then (h (record { name = n; params = ps })) (rewritten h xs) (rewritten h ys)
rewritten_append h (S.Push ∷ xs) ys = ap (λ r. r and_then λ more. Ok (S.Push ∷ more)) (rewritten_append h xs ys) ∙ front_then S.Push (rewritten h xs) (rewritten h ys)
rewritten_append h (S.Pop ∷ xs) ys = ap (λ r. r and_then λ more. Ok (S.Pop ∷ more)) (rewritten_append h xs ys) ∙ front_then S.Pop (rewritten h xs) (rewritten h ys)
rewritten_append h (S.Cut ∷ xs) ys = ap (λ r. r and_then λ more. Ok (S.Cut ∷ more)) (rewritten_append h xs ys) ∙ front_then S.Cut (rewritten h xs) (rewritten h ys)
