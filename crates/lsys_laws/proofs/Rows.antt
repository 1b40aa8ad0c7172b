-- A level by what replaces each symbol of the level above it.
use Rattle.std.proofs.Common.{◌≡◌, ℕ, zero, suc, ◌+◌, ◌≤◌, Bool, true, false, cond, map, Option, Some, None, Result, Ok, List, [], ◌∷◌, ◌++◌, refl, ap, sym, ◌∙◌, arith}
use Rattle.std.specs.Prelude.{ℤ, is_some}
use Rattle.std.proofs.lemmas.Bool.{eqb-true}
use Rattle.lsys_syntax.specs.Commands.{Numbering}
use Rattle.lsys_syntax.specs.Strings as S
use Rattle.lsys_spec.specs.Systems.{System, WellSpelled}
use Rattle.lsys_spec.specs.Values.{◌and_then◌}
use Rattle.lsys_spec.specs.Levels.{LevelSymbol, Push, Pop, Module, lineage}
use Rattle.lsys_spec.specs.Choice.{Fault}
use Rattle.lsys_spec.specs.Cuts.{Raw, raw_lineage, cut_on, cut}
use Rattle.lsys_spec.specs.Numbers.{code_of, number_at, numbers_from, numbers}
use Rattle.lsys_spec.specs.Meaning.{LevelRefusal, numbered, children, fault_at, children_from, next_level}
use Rattle.lsys_spec.specs.LevelLaws.{HasBalance}
use Rattle.lsys_spec.proofs.Offspring.{has_balance, successor_balanced}
use Rattle.lsys_spec.proofs.Rising.{born_lineage}
use Rattle.lsys_laws.specs.Kinds.{BracketKind, kind_of_symbol, stays, reached}
use Rattle.lsys_laws.specs.Children.{AreReplaced, own_children, cutting_after, is_open, row, HaveOwnChildren, NoneOpen, own_rows}
use Rattle.lsys_laws.specs.Mates.{below}

-- 1. the cut goes on from one list of children to what stands after them

abbrev here : Numbering → ℕ → List ℕ → List ℕ → ℕ → List ℕ
here g i before l code = l ++ number_at g i before code ∷ []

cut_append : (g : Numbering) (zs : List (S.Symbol ℤ)) (o : Option ℕ) (i : ℕ) (before l : List ℕ) (q : List Raw)
    → cut_on o (numbered g i before l zs ++ q) ≡ cut_on o (numbered g i before l zs) ++ cut_on (cutting_after o zs) q
cut_append g [] None i before l q = refl
cut_append g [] (Some n) i before l q = refl
cut_append g (S.Cut ∷ zs) None i before l q = cut_append g zs (Some 0) (i + 1) (37 ∷ before) l q
cut_append g (S.Cut ∷ zs) (Some n) i before l q = cut_append g zs (Some n) (i + 1) (37 ∷ before) l q
cut_append g (S.Module m ps ∷ zs) None i before l q = ap (λ x. Module (here g i before l (code_of (S.Module m ps))) (record { name = m; params = ps }) ∷ x) (cut_append g zs None (i + 1) (code_of (S.Module m ps) ∷ before) l q)
cut_append g (S.Module m ps ∷ zs) (Some n) i before l q = cut_append g zs (Some n) (i + 1) (code_of (S.Module m ps) ∷ before) l q
cut_append g (S.Push ∷ zs) None i before l q = ap (λ x. Push (here g i before l 91) ∷ x) (cut_append g zs None (i + 1) (91 ∷ before) l q)
cut_append g (S.Push ∷ zs) (Some n) i before l q = cut_append g zs (Some (suc n)) (i + 1) (91 ∷ before) l q
cut_append g (S.Pop ∷ zs) None i before l q = ap (λ x. Pop (here g i before l 93) ∷ x) (cut_append g zs None (i + 1) (93 ∷ before) l q)
cut_append g (S.Pop ∷ zs) (Some zero) i before l q = ap (λ x. Pop (here g i before l 93) ∷ x) (cut_append g zs None (i + 1) (93 ∷ before) l q)
cut_append g (S.Pop ∷ zs) (Some (suc n)) i before l q = cut_append g zs (Some n) (i + 1) (93 ∷ before) l q

-- 2. what is balanced and stands in a branch that is cut off goes whole, and the branch is still being cut off

gone : (g : Numbering) (zs : List (S.Symbol ℤ)) (i k n b : ℕ) (before l : List ℕ) → n + k ≡ b → S.balanced k zs ≡ true → cut_on (Some b) (numbered g i before l zs) ≡ []
gone g [] i k n b before l e h = refl
gone g (S.Module m ps ∷ zs) i k n b before l e h = gone g zs (i + 1) k n b (code_of (S.Module m ps) ∷ before) l e h
gone g (S.Cut ∷ zs) i k n b before l e h = gone g zs (i + 1) k n b (37 ∷ before) l e h
gone g (S.Push ∷ zs) i k n b before l e h = gone g zs (i + 1) (suc k) n (suc b) (91 ∷ before) l (omega (arith, e)) h
gone g (S.Pop ∷ zs) i zero n b before l e h = cc
gone g (S.Pop ∷ zs) i (suc k) n zero before l e h = absurd (omega (arith, e))
gone g (S.Pop ∷ zs) i (suc k) n (suc b) before l e h = gone g zs (i + 1) k n b (93 ∷ before) l (omega (arith, e)) h

still : (zs : List (S.Symbol ℤ)) (k n b : ℕ) → n + k ≡ b → S.balanced k zs ≡ true → cutting_after (Some b) zs ≡ Some n
still [] k n b e h = let z : k ≡ 0 = eqb-true k 0 h in let f : b ≡ n = omega (arith, e, z) in ap (λ n. Some n) f
still (S.Module m ps ∷ zs) k n b e h = still zs k n b e h
still (S.Cut ∷ zs) k n b e h = still zs k n b e h
still (S.Push ∷ zs) k n b e h = still zs (suc k) n (suc b) (omega (arith, e)) h
still (S.Pop ∷ zs) zero n b e h = cc
still (S.Pop ∷ zs) (suc k) n zero e h = absurd (omega (arith, e))
still (S.Pop ∷ zs) (suc k) n (suc b) e h = still zs k n b (omega (arith, e)) h

-- After a balanced list nothing is being cut off, or the branch in which it stands is: where k of its branches are open, of
-- them b in what is being cut off, it is this one.
abbrev Ends : Option ℕ → Type 0
Ends o = o ≡ cond (is_some o) (Some 0) None

abbrev Within : Option ℕ → ℕ → Type 0
Within None k = Unit {0}
Within (Some b) k = b ≤ k

ends : (zs : List (S.Symbol ℤ)) (k : ℕ) (o : Option ℕ) → S.balanced k zs ≡ true → Within o k → Ends (cutting_after o zs)
ends [] k None h w = refl
ends [] k (Some b) h w = let z : k ≡ 0 = eqb-true k 0 h in let f : b ≡ 0 = omega (arith, w, z) in ap (λ n. Some n) f ∙ ap (λ n. cond (is_some (Some n)) (Some 0) None) (sym f)
ends (S.Module m ps ∷ zs) k None h w = ends zs k None h w
ends (S.Module m ps ∷ zs) k (Some b) h w = ends zs k (Some b) h w
ends (S.Push ∷ zs) k None h w = ends zs (suc k) None h w
ends (S.Push ∷ zs) k (Some b) h w = ends zs (suc k) (Some (suc b)) h (omega (arith, w))
ends (S.Cut ∷ zs) k None h w = ends zs k (Some 0) h (omega arith)
ends (S.Cut ∷ zs) k (Some b) h w = ends zs k (Some b) h w
ends (S.Pop ∷ zs) zero o h w = cc
ends (S.Pop ∷ zs) (suc k) None h w = ends zs k None h w
ends (S.Pop ∷ zs) (suc k) (Some zero) h w = ends zs k None h tt
ends (S.Pop ∷ zs) (suc k) (Some (suc b)) h w = ends zs k (Some b) h (omega (arith, w))

-- 3. one symbol more

abbrev raws : Numbering → List LevelSymbol → List (List (S.Symbol ℤ)) → List Raw
raws g [] zss = []
raws g (a ∷ x) [] = []
raws g (a ∷ x) (zs ∷ zss) = children g (lineage a) zs ++ raws g x zss

-- what replaces a bracket is this bracket
abbrev IsItself : LevelSymbol → List (S.Symbol ℤ) → Type 0
IsItself (Push l) zs = zs ≡ S.Push ∷ []
IsItself (Pop l) zs = zs ≡ S.Pop ∷ []
IsItself (Module l m) zs = S.balanced 0 zs ≡ true

abbrev AreThemselves : List LevelSymbol → List (List (S.Symbol ℤ)) → Type 0
AreThemselves [] zss = Unit {0}
AreThemselves (a ∷ x) [] = Unit {0}
AreThemselves (a ∷ x) (zs ∷ zss) = IsItself a zs × AreThemselves x zss

one_row : (g : Numbering) (o : Option ℕ) (a : LevelSymbol) (zs : List (S.Symbol ℤ)) → IsItself a zs
    → (cut_on o (children g (lineage a) zs) ≡ cond (stays o (kind_of_symbol a)) (own_children g a zs) []) × (cutting_after o zs ≡ reached o (kind_of_symbol a) (is_open zs))
one_row g None (Push l) zs h = (refl, ap (cutting_after None) h)
one_row g None (Pop l) zs h = (refl, ap (cutting_after None) h)
one_row g None (Module l m) zs h = (refl, ends zs 0 None h tt)
one_row g (Some n) (Push l) zs h = (ap (λ zs. cut_on (Some n) (children g l zs)) h, ap (cutting_after (Some n)) h)
one_row g (Some zero) (Pop l) zs h = (ap (λ zs. cut_on (Some 0) (children g l zs)) h ∙ ap (λ zs. cut_on None (children g l zs)) (sym h), ap (cutting_after (Some 0)) h)
one_row g (Some (suc n)) (Pop l) zs h = (ap (λ zs. cut_on (Some (suc n)) (children g l zs)) h, ap (cutting_after (Some (suc n))) h)
one_row g (Some n) (Module l m) zs h = (gone g zs 0 0 n n [] l (omega arith) h, still zs 0 n n (omega arith) h)

cut_row : (g : Numbering) (o : Option ℕ) (x : List LevelSymbol) (zss : List (List (S.Symbol ℤ))) → AreThemselves x zss → cut_on o (raws g x zss) ≡ row g o x zss
cut_row g None [] zss h = refl
cut_row g (Some n) [] zss h = refl
cut_row g None (a ∷ x) [] h = refl
cut_row g (Some n) (a ∷ x) [] h = refl
cut_row g o (a ∷ x) (zs ∷ zss) h =
    let r = one_row g o a zs h.0 in
    cut_append g zs o 0 [] (lineage a) (raws g x zss) ∙ ap (λ y. y ++ cut_on (cutting_after o zs) (raws g x zss)) r.0
    ∙ ap (λ o'. cond (stays o (kind_of_symbol a)) (own_children g a zs) [] ++ cut_on o' (raws g x zss)) r.1
    ∙ ap (λ y. cond (stays o (kind_of_symbol a)) (own_children g a zs) [] ++ y) (cut_row g (reached o (kind_of_symbol a) (is_open zs)) x zss h.1)

-- 4. the level

themselves : (s : System) → HasBalance s → (t : ℕ) (x : List LevelSymbol) (p : ℕ) (rest : List LevelSymbol) (zss : List (List (S.Symbol ℤ))) → AreReplaced s t x p rest zss → AreThemselves rest zss
themselves s b t x p [] zss h = tt
themselves s b t x p (a ∷ rest) [] h = tt
themselves s b t x p (Push l ∷ rest) (zs ∷ zss) h = let r = h.0 in let e : zs ≡ S.Push ∷ [] = cc in (e, themselves s b t x (p + 1) rest zss h.1)
themselves s b t x p (Pop l ∷ rest) (zs ∷ zss) h = let r = h.0 in let e : zs ≡ S.Pop ∷ [] = cc in (e, themselves s b t x (p + 1) rest zss h.1)
themselves s b t x p (Module l m ∷ rest) (zs ∷ zss) h = (successor_balanced s b t x p l m zs h.0, themselves s b t x (p + 1) rest zss h.1)

all_raws : (s : System) (t : ℕ) (x : List LevelSymbol) (p n : ℕ) (rest : List LevelSymbol) (zss : List (List (S.Symbol ℤ))) → AreReplaced s t x p rest zss → children_from s t x p n rest ≡ Ok (raws s.numbering rest zss)
all_raws s t x p n [] zss h = refl
all_raws s t x p n (a ∷ rest) [] h = absurd h
all_raws s t x p n (Push l ∷ rest) (zs ∷ zss) h =
    let r = h.0 in
    let e : S.Push ∷ [] ≡ zs = cc in
    ap (λ (r : Result (List Raw) LevelRefusal). r and_then λ more. Ok (children s.numbering l (S.Push ∷ []) ++ more)) (all_raws s t x (p + 1) n rest zss h.1)
    ∙ ap (λ zs. Ok (children s.numbering l zs ++ raws s.numbering rest zss)) e
all_raws s t x p n (Pop l ∷ rest) (zs ∷ zss) h =
    let r = h.0 in
    let e : S.Pop ∷ [] ≡ zs = cc in
    ap (λ (r : Result (List Raw) LevelRefusal). r and_then λ more. Ok (children s.numbering l (S.Pop ∷ []) ++ more)) (all_raws s t x (p + 1) n rest zss h.1)
    ∙ ap (λ zs. Ok (children s.numbering l zs ++ raws s.numbering rest zss)) e
all_raws s t x p n (Module l m ∷ rest) (zs ∷ zss) h =
    ap (λ (r : Result (List (S.Symbol ℤ)) Fault). fault_at t (n + 1) r and_then λ ys. children_from s t x (p + 1) (n + 1) rest and_then λ more. Ok (children s.numbering l ys ++ more)) h.0
    ∙ ap (λ (r : Result (List Raw) LevelRefusal). r and_then λ more. Ok (children s.numbering l zs ++ more)) (all_raws s t x (p + 1) (n + 1) rest zss h.1)

pub kept_level : (s : System) (t : ℕ) (x : List LevelSymbol) (zss : List (List (S.Symbol ℤ))) → WellSpelled s → AreReplaced s t x 0 x zss → next_level s t x ≡ Ok (row s.numbering None x zss)
kept_level s t x zss w h =
    ap (λ (r : Result (List Raw) LevelRefusal). r and_then λ raw. Ok (cut raw)) (all_raws s t x 0 0 x zss h)
    ∙ ap (λ y. Ok y) (cut_row s.numbering None x zss (themselves s (has_balance s w) t x 0 x zss h))

-- 5. without cuts that reach others

pub none_open : (g : Numbering) (x : List LevelSymbol) (zss : List (List (S.Symbol ℤ))) → NoneOpen zss → row g None x zss ≡ own_rows g x zss
none_open g [] zss h = refl
none_open g (a ∷ x) [] h = refl
none_open g (a ∷ x) (zs ∷ zss) h = ap (λ o. own_children g a zs ++ row g o x zss) (still_none a h.0) ∙ ap (λ y. own_children g a zs ++ y) (none_open g x zss h.1)
  where
    still_none : (a : LevelSymbol) → is_open zs ≡ false → reached None (kind_of_symbol a) (is_open zs) ≡ None
    still_none (Push l) e = refl
    still_none (Pop l) e = refl
    still_none (Module l m) e = ap (λ b. cond b (Some 0) None) e

-- 6. nodes, and the numbers of children

map_append : (f : ℕ → LevelSymbol) (xs ys : List ℕ) → map f (xs ++ ys) ≡ map f xs ++ map f ys
map_append f [] ys = refl
map_append f (x ∷ xs) ys = ap (λ zs. f x ∷ zs) (map_append f xs ys)

one_below : (g : Numbering) (symbol : ℕ → LevelSymbol) (own : List ℕ) (b : Bool) (kids : List LevelSymbol) → map symbol own ≡ kids → map symbol (cond b own []) ≡ cond b kids []
one_below g symbol own true kids h = h
one_below g symbol own false kids h = refl

nodes_from : (g : Numbering) (symbol : ℕ → LevelSymbol) (own : ℕ → List ℕ) (cuts : ℕ → Bool) (o : Option ℕ) (ps : List ℕ) (zss : List (List (S.Symbol ℤ))) → HaveOwnChildren g symbol own cuts ps zss
    → map symbol (below (λ p. kind_of_symbol (symbol p)) own cuts o ps) ≡ row g o (map symbol ps) zss
nodes_from g symbol own cuts o [] zss h = refl
nodes_from g symbol own cuts o (p ∷ ps) [] h = absurd h
nodes_from g symbol own cuts o (p ∷ ps) (zs ∷ zss) h =
    let k : BracketKind = kind_of_symbol (symbol p) in
    map_append symbol (cond (stays o k) (own p) []) (below (λ p. kind_of_symbol (symbol p)) own cuts (reached o k (cuts p)) ps)
    ∙ ap (λ y. y ++ map symbol (below (λ p. kind_of_symbol (symbol p)) own cuts (reached o k (cuts p)) ps)) (one_below g symbol (own p) (stays o k) (own_children g (symbol p) zs) h.0)
    ∙ ap (λ y. cond (stays o k) (own_children g (symbol p) zs) [] ++ y)
    (nodes_from g symbol own cuts (reached o k (cuts p)) ps zss h.2 ∙ ap (λ b. row g (reached o k b) (map symbol ps) zss) h.1)

pub nodes_below : (g : Numbering) (symbol : ℕ → LevelSymbol) (own : ℕ → List ℕ) (cuts : ℕ → Bool) (ps : List ℕ) (zss : List (List (S.Symbol ℤ))) → HaveOwnChildren g symbol own cuts ps zss
    → map symbol (below (λ p. kind_of_symbol (symbol p)) own cuts None ps) ≡ row g None (map symbol ps) zss
nodes_below g symbol own cuts ps zss h = nodes_from g symbol own cuts None ps zss h

numbers_told : (g : Numbering) (i : ℕ) (before l : List ℕ) (zs : List (S.Symbol ℤ)) → map raw_lineage (numbered g i before l zs) ≡ map (λ n. l ++ n ∷ []) (numbers_from g i before zs)
numbers_told g i before l [] = refl
numbers_told g i before l (z ∷ zs) =
    ap (λ k. k ∷ map raw_lineage (numbered g (i + 1) (code_of z ∷ before) l zs)) (born_lineage (here g i before l (code_of z)) z)
    ∙ ap (λ ks. here g i before l (code_of z) ∷ ks) (numbers_told g (i + 1) (code_of z ∷ before) l zs)

pub child_lineages : (g : Numbering) (l : List ℕ) (zs : List (S.Symbol ℤ)) → map raw_lineage (children g l zs) ≡ map (λ n. l ++ n ∷ []) (numbers g zs)
child_lineages g l zs = numbers_told g 0 [] l zs
