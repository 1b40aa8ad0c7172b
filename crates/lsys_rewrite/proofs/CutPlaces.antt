-- The marks of what stays, and what a cut leaves.
use Rattle.std.proofs.Common.{◌≡◌, ◌≤◌, ◌<◌, ℕ, zero, suc, ◌+◌, ℤ, Bool, true, false, not, ◌||◌, Option, Some, None, List, [], ◌∷◌, ◌++◌, length, map, take, drop, set, get_or, refl, ap, ap₂, sym, ◌∙◌, subst, add-one, arith}
use Rattle.std.specs.Prelude.{slice_index_or, IfSome}
use Rattle.std.proofs.lemmas.List.{length-map, length-set, append_assoc, append-nil, take_all, drop_all, drop-set-lt, take_more_set, length-take-le}
use Rattle.lsys_spec.specs.Morphisms.{raw_plain}
use Rattle.lsys_syntax.specs.Strings as S
use Rattle.lsys_spec.specs.Levels.{Push, Pop, Module, plain}
use Rattle.lsys_spec.specs.Cuts.{Raw, Plain, Cut, cut_on, never_closes, is_cut_off}
use Rattle.lsys_module.specs.declared.symbol.Symbol.{Symbol as Code}
use Rattle.lsys_module.specs.Views.{symbol_of, string_of}
use Rattle.lsys_rewrite.proofs.After.{drop_item}
use Rattle.lsys_rewrite.specs.Cutting.{AreOf, marked, symbol_stays, next_cutting, marks_from}

-- 1. by places

-- more open branches close none
closes_more : (x : List Raw) (n m : ℕ) → n ≤ m → never_closes n x ≡ true → never_closes m x ≡ true
closes_more [] n m i h = refl
closes_more (Cut l ∷ x) n m i h = closes_more x n m i h
closes_more (Plain (Module l k) ∷ x) n m i h = closes_more x n m i h
closes_more (Plain (Push l) ∷ x) n m i h = closes_more x (suc n) (suc m) (omega (arith, i)) h
closes_more (Plain (Pop l) ∷ x) zero m i h = cc
closes_more (Plain (Pop l) ∷ x) (suc n) zero i h = absurd (omega (arith, i))
closes_more (Plain (Pop l) ∷ x) (suc n) (suc m) i h = closes_more x n m (omega (arith, i)) h

-- what the cut that stands before x, with that many open branches since then, or one in x, cuts off of x
abbrev off_before : Option ℕ → List Raw → ℕ → Bool
off_before None x p = false
off_before (Some n) x p = never_closes n (take (suc p) x)

abbrev off : Option ℕ → List Raw → ℕ → Bool
off o x p = off_before o x p || is_cut_off x p

either_way : (a b c : Bool) → (b ≡ true → a ≡ true) → a || c ≡ a || (b || c)
either_way true b c h = refl
either_way false false c h = refl
either_way false true c h = let e : false ≡ true = h refl in cc

-- whether the first symbol stays
first_stays : (o : Option ℕ) (r : Raw) (x : List Raw) → symbol_stays o (raw_plain r) ≡ not (off o (r ∷ x) 0)
first_stays None (Cut l) x = refl
first_stays None (Plain (Module l m)) x = refl
first_stays None (Plain (Push l)) x = refl
first_stays None (Plain (Pop l)) x = refl
first_stays (Some zero) (Cut l) x = refl
first_stays (Some zero) (Plain (Module l m)) x = refl
first_stays (Some zero) (Plain (Push l)) x = refl
first_stays (Some zero) (Plain (Pop l)) x = refl
first_stays (Some (suc n)) (Cut l) x = refl
first_stays (Some (suc n)) (Plain (Module l m)) x = refl
first_stays (Some (suc n)) (Plain (Push l)) x = refl
first_stays (Some (suc n)) (Plain (Pop l)) x = refl

-- and those after it
later_off : (o : Option ℕ) (r : Raw) (x : List Raw) (p : ℕ) → off (next_cutting o (raw_plain r)) x p ≡ off o (r ∷ x) (suc p)
later_off None (Cut l) x p = refl
later_off None (Plain (Module l m)) x p = refl
later_off None (Plain (Push l)) x p = refl
later_off None (Plain (Pop l)) x p = refl
later_off (Some zero) (Cut l) x p = either_way (never_closes 0 (take (suc p) x)) (never_closes 0 (take (suc p) x)) (is_cut_off x p) (λ e. e)
later_off (Some zero) (Plain (Module l m)) x p = refl
later_off (Some zero) (Plain (Push l)) x p = refl
later_off (Some zero) (Plain (Pop l)) x p = refl
later_off (Some (suc n)) (Cut l) x p =
    either_way (never_closes (suc n) (take (suc p) x)) (never_closes 0 (take (suc p) x)) (is_cut_off x p) (closes_more (take (suc p) x) 0 (suc n) (omega arith))
later_off (Some (suc n)) (Plain (Module l m)) x p = refl
later_off (Some (suc n)) (Plain (Push l)) x p = refl
later_off (Some (suc n)) (Plain (Pop l)) x p = refl

marks_off : (x : List Raw) (o : Option ℕ) (p : ℕ) → p < length x → slice_index_or (marks_from o (map raw_plain x)) p false ≡ not (off o x p)
marks_off [] o p h = absurd (omega arith)
marks_off (r ∷ x) o zero h = first_stays o r x
marks_off (r ∷ x) o (suc p) h = marks_off x (next_cutting o (raw_plain r)) p (omega arith) ∙ ap not (later_off o r x p)

-- the mark of a place
pub marks_kept : (x : List Raw) (ys : List (S.Symbol ℤ)) (p : ℕ) → map raw_plain x ≡ ys → p < length ys → slice_index_or (marks_from None ys) p false ≡ not (is_cut_off x p)
marks_kept x ys p e h =
    let size : length x ≡ length ys = sym (length-map x raw_plain) ∙ ap length e in
    subst (λ zs. slice_index_or (marks_from None zs) p false ≡ not (is_cut_off x p)) e (marks_off x None p (omega (arith, size, h)))

-- 2. what is left

cut_marked : (x : List Raw) (o : Option ℕ) → map plain (cut_on o x) ≡ marked (marks_from o (map raw_plain x)) (map raw_plain x)
cut_marked [] None = refl
cut_marked [] (Some n) = refl
cut_marked (Cut l ∷ x) None = cut_marked x (Some 0)
cut_marked (Plain (Module l m) ∷ x) None = ap (λ ys. S.Module m.name m.params ∷ ys) (cut_marked x None)
cut_marked (Plain (Push l) ∷ x) None = ap (λ ys. S.Push ∷ ys) (cut_marked x None)
cut_marked (Plain (Pop l) ∷ x) None = ap (λ ys. S.Pop ∷ ys) (cut_marked x None)
cut_marked (Cut l ∷ x) (Some zero) = cut_marked x (Some 0)
cut_marked (Plain (Module l m) ∷ x) (Some zero) = cut_marked x (Some 0)
cut_marked (Plain (Push l) ∷ x) (Some zero) = cut_marked x (Some 1)
cut_marked (Plain (Pop l) ∷ x) (Some zero) = ap (λ ys. S.Pop ∷ ys) (cut_marked x None)
cut_marked (Cut l ∷ x) (Some (suc n)) = cut_marked x (Some (suc n))
cut_marked (Plain (Module l m) ∷ x) (Some (suc n)) = cut_marked x (Some (suc n))
cut_marked (Plain (Push l) ∷ x) (Some (suc n)) = cut_marked x (Some (suc (suc n)))
cut_marked (Plain (Pop l) ∷ x) (Some (suc n)) = cut_marked x (Some n)

marked-map : {A B : Type 0} (f : A → B) (bs : List Bool) (xs : List A) → marked bs (map f xs) ≡ map f (marked bs xs)
marked-map f [] xs = refl
marked-map f (true ∷ bs) (x ∷ xs) = ap (λ ys. f x ∷ ys) (marked-map f bs xs)
marked-map f (false ∷ bs) (x ∷ xs) = marked-map f bs xs
marked-map f (true ∷ bs) [] = refl
marked-map f (false ∷ bs) [] = refl

pub left_by_cut : (x : List Raw) (old : List Code) → AreOf x old → map plain (cut_on None x) ≡ string_of (marked (marks_from None (string_of old)) old)
left_by_cut x old e =
    cut_marked x None ∙ ap (λ ys. marked (marks_from None ys) ys) e ∙ marked-map symbol_of (marks_from None (string_of old)) old

-- 3. symbol by symbol

-- The first i symbols were read, of which the first len places have those that stay.
pub record Cutting (old symbols : List Code) (kept : List Bool) (i len : ℕ) (o : Option ℕ) : Type 0 where
  pub marks : marks_from None (string_of old) ≡ take i kept ++ marks_from o (string_of (drop i old))
  pub front : take len symbols ≡ marked (take i kept) (take i old)
  pub rest : drop i symbols ≡ drop i old
  pub within : len ≤ i
  pub size : length symbols ≡ length old
  pub places : length kept ≡ length old
  pub depth : IfSome o (λ n. n ≤ i)

pub begun : (old : List Code) (kept : List Bool) → length kept ≡ length old → Cutting old old kept 0 0 None
begun old kept e = record { marks = refl; front = refl; rest = refl; within = omega arith; size = refl; places = e; depth = tt }

-- the next item of a list
next_item : {A : Type 0} (xs : List A) (n : ℕ) (x : A) (rest : List A) → drop n xs ≡ x ∷ rest → (drop (suc n) xs ≡ rest) × (take (suc n) xs ≡ take n xs ++ x ∷ [])
next_item [] zero x rest e = cc
next_item (y ∷ ys) zero x rest e = let a : y ≡ x = cc in let b : ys ≡ rest = cc in (b, ap (λ z. z ∷ []) a)
next_item [] (suc n) x rest e = cc
next_item (y ∷ ys) (suc n) x rest e = let more = next_item ys n x rest e in (more.0, ap (λ zs. y ∷ zs) more.1)

next_rest : {A : Type 0} (xs : List A) (n : ℕ) (x : A) (rest : List A) → drop n xs ≡ x ∷ rest → (drop (n + 1) xs ≡ rest) × (take (n + 1) xs ≡ take n xs ++ x ∷ [])
next_rest xs n x rest e = rw add-one (next_item xs n x rest e)

marked_more : {A : Type 0} (bs : List Bool) (xs : List A) (x : A) → length bs ≡ length xs → marked (bs ++ true ∷ []) (xs ++ x ∷ []) ≡ marked bs xs ++ x ∷ []
marked_more [] [] x e = refl
marked_more [] (y ∷ ys) x e = cc
marked_more (b ∷ bs) [] x e = cc
marked_more (true ∷ bs) (y ∷ ys) x e = ap (λ zs. y ∷ zs) (marked_more bs ys x (omega (arith, e)))
marked_more (false ∷ bs) (y ∷ ys) x e = marked_more bs ys x (omega (arith, e))

marked_passed : {A : Type 0} (bs : List Bool) (xs : List A) (x : A) → length bs ≡ length xs → marked (bs ++ false ∷ []) (xs ++ x ∷ []) ≡ marked bs xs
marked_passed [] [] x e = refl
marked_passed [] (y ∷ ys) x e = cc
marked_passed (b ∷ bs) [] x e = cc
marked_passed (true ∷ bs) (y ∷ ys) x e = ap (λ zs. y ∷ zs) (marked_passed bs ys x (omega (arith, e)))
marked_passed (false ∷ bs) (y ∷ ys) x e = marked_passed bs ys x (omega (arith, e))

pub depth_after : (o : Option ℕ) (s : S.Symbol ℤ) (i : ℕ) → IfSome o (λ n. n ≤ i) → IfSome (next_cutting o s) (λ n. n ≤ i + 1)
depth_after None (S.Module n zs) i h = tt
depth_after None S.Push i h = tt
depth_after None S.Pop i h = tt
depth_after None S.Cut i h = omega arith
depth_after (Some zero) (S.Module n zs) i h = omega arith
depth_after (Some zero) S.Push i h = omega arith
depth_after (Some zero) S.Pop i h = tt
depth_after (Some zero) S.Cut i h = omega arith
depth_after (Some (suc m)) (S.Module n zs) i h = omega (arith, h)
depth_after (Some (suc m)) S.Push i h = omega (arith, h)
depth_after (Some (suc m)) S.Pop i h = omega (arith, h)
depth_after (Some (suc m)) S.Cut i h = omega (arith, h)

module _ (old symbols : List Code) (kept : List Bool) (i len : ℕ) (o : Option ℕ) (s : Code) (c : Cutting old symbols kept i len o) (l : i < length old) (e : s ≡ get_or symbols i s) where
  here : drop i old ≡ s ∷ drop (i + 1) symbols
  here = sym c.rest ∙ drop_item symbols i s (omega (arith, l, c.size)) e

  read : (drop (i + 1) old ≡ drop (i + 1) symbols) × (take (i + 1) old ≡ take i old ++ s ∷ [])
  read = next_rest old i s (drop (i + 1) symbols) here

  marks_more : (b : Bool) → b ≡ symbol_stays o (symbol_of s) → marks_from None (string_of old) ≡ take (i + 1) (set kept i b) ++ marks_from (next_cutting o (symbol_of s)) (string_of (drop (i + 1) old))
  marks_more b is =
      let rest = marks_from (next_cutting o (symbol_of s)) (string_of (drop (i + 1) old)) in
      let more : take (i + 1) (set kept i b) ≡ take i kept ++ b ∷ [] = take_more_set kept i b (omega (arith, l, c.places)) in
      let all : drop i old ≡ s ∷ drop (i + 1) old = here ∙ ap (λ xs. s ∷ xs) (sym read.0) in
      c.marks
      ∙ ap (λ xs. take i kept ++ marks_from o (string_of xs)) all
      ∙ ap (λ a. take i kept ++ a ∷ rest) (sym is)
      ∙ sym (append_assoc (take i kept) (b ∷ []) rest)
      ∙ ap (λ ms. ms ++ rest) (sym more)

  same_size : length (take i kept) ≡ length (take i old)
  same_size = length-take-le i kept (omega (arith, l, c.places)) ∙ sym (length-take-le i old (omega (arith, l)))

  stays_on : true ≡ symbol_stays o (symbol_of s) → Cutting old (set symbols len s) (set kept i true) (i + 1) (len + 1) (next_cutting o (symbol_of s))
  stays_on is = record {
    marks = marks_more true is;
    front =
        take_more_set symbols len s (omega (arith, l, c.within, c.size))
        ∙ ap (λ xs. xs ++ s ∷ []) c.front
        ∙ sym (marked_more (take i kept) (take i old) s same_size)
        ∙ ap₂ marked (sym (take_more_set kept i true (omega (arith, l, c.places)))) (sym read.1);
    rest = drop-set-lt (i + 1) symbols len s (omega (arith, c.within)) ∙ sym read.0;
    within = omega (arith, c.within);
    size = length-set symbols len s ∙ c.size;
    places = length-set kept i true ∙ c.places;
    depth = depth_after o (symbol_of s) i c.depth;
  }

  passes : false ≡ symbol_stays o (symbol_of s) → Cutting old symbols (set kept i false) (i + 1) len (next_cutting o (symbol_of s))
  passes is = record {
    marks = marks_more false is;
    front =
        c.front
        ∙ sym (marked_passed (take i kept) (take i old) s same_size)
        ∙ ap₂ marked (sym (take_more_set kept i false (omega (arith, l, c.places)))) (sym read.1);
    rest = sym read.0;
    within = omega (arith, c.within);
    size = c.size;
    places = length-set kept i false ∙ c.places;
    depth = depth_after o (symbol_of s) i c.depth;
  }

  -- The next symbol stays, or it doesn't.
  module _ (b : Bool) (next : List Code) (size : ℕ) (after : Option ℕ) (is : b ≡ symbol_stays o (symbol_of s)) (goes_on : after ≡ next_cutting o (symbol_of s)) where
    pub stayed : b ≡ true → next ≡ set symbols len s → size ≡ len + 1 → Cutting old next (set kept i b) (i + 1) size after
    stayed t f g = rw (goes_on, f, g, t) (stays_on (sym t ∙ is))

    pub passed : b ≡ false → next ≡ symbols → size ≡ len → Cutting old next (set kept i b) (i + 1) size after
    passed t f g = rw (goes_on, f, g, t) (passes (sym t ∙ is))

-- all were read
pub ended : (old symbols : List Code) (kept : List Bool) (i len : ℕ) (o : Option ℕ) → Cutting old symbols kept i len o → length old ≤ i
    → (kept ≡ marks_from None (string_of old)) × (take len symbols ≡ marked kept old)
ended old symbols kept i len o c l =
    let all : take i kept ≡ kept = take_all i kept (omega (arith, l, c.places)) in
    let none : drop i old ≡ [] = drop_all i old l in
    (sym (c.marks ∙ ap (λ xs. take i kept ++ marks_from o (string_of xs)) none ∙ append-nil (take i kept) ∙ all), c.front ∙ ap₂ marked all (take_all i old l))
