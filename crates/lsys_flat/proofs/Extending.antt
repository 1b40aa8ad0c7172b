-- What is made of children, one after another, is what the cut leaves of them.
use Rattle.std.proofs.Common.{◌≡◌, ℕ, zero, suc, ◌+◌, ◌<◌, ◌≤◌, Bool, true, false, cond, ◌==◌, count_by, Option, Some, None, List, [], ◌∷◌, ◌++◌, length, refl, sym, ap, ◌∙◌, subst, arith, append_assoc, append-nil, length-append, drop}
use Rattle.std.specs.Prelude.{slice_get, fold}
use Rattle.std.proofs.lemmas.Bool.{eqb-true, eqb-false}
use Rattle.std.proofs.lemmas.List.Sums.{count_by-le-length}
use Rattle.std.proofs.lemmas.List.{map-append, length-map, drop_all}
use Rattle.lsys_spec.specs.Morphisms.{raw_plain}
use Rattle.lsys_spec.specs.Draws.{number_base, axiom_key_of, child_key_of, key_of}
use Rattle.lsys_spec.specs.Levels as L
use Rattle.lsys_spec.specs.Levels.{Push, Pop, Module, lineage, plain}
use Rattle.lsys_spec.specs.Cuts.{Raw, Plain, Cut, raw_lineage, cut_on, cut}
use Rattle.lsys_spec.specs.Numbers.{code_of, number_at}
use Rattle.lsys_spec.specs.Meaning.{raw_of, numbered}
use Rattle.lsys_spec.proofs.Rising.{born_lineage}
use Rattle.lsys_syntax.specs.Commands.{Numbering, by_place, by_name}
use Rattle.lsys_module.specs.Views.{symbol_of, string_of}
use Rattle.lsys_module.specs.declared.symbol.Symbol.{Symbol}
use Rattle.lsys_module.specs.declared.symbol.Symbol.TheVariants as code
use Rattle.lsys_rewrite.specs.Cutting.{symbol_stays, next_cutting}
use Rattle.lsys_flat.specs.declared.origin.Origin.{Origin}
use Rattle.lsys_flat.proofs.Naming.{drop_there}
use Rattle.lsys_flat.specs.Origins.{origin_number, IsChild, AreChildren}
use Rattle.lsys_flat.specs.declared.numbers.ChildNumbers.{ChildNumbers}
use Rattle.lsys_flat.specs.Counts.{origin_at, HasNumbered}
use Rattle.lsys_flat.specs.Grown.{Grown, grown_by_symbol, where_room, with_child, with_children, cutting_after_all, HasSymbols, HoldsCut, HasGrown}

-- 1. one symbol more, cut

after_more : (o : Option ℕ) (x : List Raw) (r : Raw) → cutting_after_all o (x ++ r ∷ []) ≡ next_cutting (cutting_after_all o x) (raw_plain r)
after_more o [] r = refl
after_more o (s ∷ x) r = after_more (next_cutting o (raw_plain s)) x r

cut_more : (o : Option ℕ) (x : List Raw) (r : Raw) → cut_on o (x ++ r ∷ []) ≡ cut_on o x ++ cut_on (cutting_after_all o x) (r ∷ [])
cut_more None [] r = refl
cut_more (Some n) [] r = refl
cut_more None (Cut l ∷ x) r = cut_more (Some 0) x r
cut_more None (Plain (Module l m) ∷ x) r = ap (λ y. Module l m ∷ y) (cut_more None x r)
cut_more None (Plain (Push l) ∷ x) r = ap (λ y. Push l ∷ y) (cut_more None x r)
cut_more None (Plain (Pop l) ∷ x) r = ap (λ y. Pop l ∷ y) (cut_more None x r)
cut_more (Some zero) (Cut l ∷ x) r = cut_more (Some 0) x r
cut_more (Some zero) (Plain (Module l m) ∷ x) r = cut_more (Some 0) x r
cut_more (Some zero) (Plain (Push l) ∷ x) r = cut_more (Some 1) x r
cut_more (Some zero) (Plain (Pop l) ∷ x) r = ap (λ y. Pop l ∷ y) (cut_more None x r)
cut_more (Some (suc n)) (Cut l ∷ x) r = cut_more (Some (suc n)) x r
cut_more (Some (suc n)) (Plain (Module l m) ∷ x) r = cut_more (Some (suc n)) x r
cut_more (Some (suc n)) (Plain (Push l) ∷ x) r = cut_more (Some (suc (suc n))) x r
cut_more (Some (suc n)) (Plain (Pop l) ∷ x) r = cut_more (Some n) x r

-- what stays of one symbol
stayed : (o : Option ℕ) (r : Raw) → symbol_stays o (raw_plain r) ≡ true → (a : L.LevelSymbol) × (r ≡ Plain a) × (cut_on o (r ∷ []) ≡ a ∷ [])
stayed None (Cut l) h = cc
stayed None (Plain (Module l m)) h = (Module l m, refl, refl)
stayed None (Plain (Push l)) h = (Push l, refl, refl)
stayed None (Plain (Pop l)) h = (Pop l, refl, refl)
stayed (Some zero) (Cut l) h = cc
stayed (Some zero) (Plain (Module l m)) h = cc
stayed (Some zero) (Plain (Push l)) h = cc
stayed (Some zero) (Plain (Pop l)) h = (Pop l, refl, refl)
stayed (Some (suc n)) (Cut l) h = cc
stayed (Some (suc n)) (Plain (Module l m)) h = cc
stayed (Some (suc n)) (Plain (Push l)) h = cc
stayed (Some (suc n)) (Plain (Pop l)) h = cc

passed : (o : Option ℕ) (r : Raw) → symbol_stays o (raw_plain r) ≡ false → cut_on o (r ∷ []) ≡ []
passed None (Cut l) h = refl
passed None (Plain (Module l m)) h = cc
passed None (Plain (Push l)) h = cc
passed None (Plain (Pop l)) h = cc
passed (Some zero) (Cut l) h = refl
passed (Some zero) (Plain (Module l m)) h = refl
passed (Some zero) (Plain (Push l)) h = refl
passed (Some zero) (Plain (Pop l)) h = cc
passed (Some (suc n)) (Cut l) h = refl
passed (Some (suc n)) (Plain (Module l m)) h = refl
passed (Some (suc n)) (Plain (Push l)) h = refl
passed (Some (suc n)) (Plain (Pop l)) h = refl

-- 2. one child more

children_more : (above : List L.LevelSymbol) (os : List Origin) (y : List L.LevelSymbol) (o : Origin) (a : L.LevelSymbol) → AreChildren above os y → IsChild above o a → AreChildren above (os ++ o ∷ []) (y ++ a ∷ [])
children_more above [] [] o a h c = (c, tt)
children_more above [] (s ∷ y) o a h c = absurd h
children_more above (p ∷ os) [] o a h c = absurd h
children_more above (p ∷ os) (s ∷ y) o a h c = (h.0, children_more above os y o a h.1 c)

last_key : (key : ℕ) (below : List ℕ) (n : ℕ) → fold child_key_of key (below ++ n ∷ []) ≡ child_key_of (fold child_key_of key below) n
last_key key [] n = refl
last_key key (j ∷ below) n = last_key (child_key_of key j) below n

child_key : (seed : ℕ) (l : List ℕ) (n : ℕ) → key_of seed (l ++ n ∷ []) ≡ child_key_of (key_of seed l) n
child_key seed [] n = refl
child_key seed (place ∷ below) n = last_key (axiom_key_of seed place) below n

more_symbols : (seed : ℕ) (above y : List L.LevelSymbol) (symbols : List Symbol) (origins : List Origin) (keys : List ℕ) (parent a : L.LevelSymbol) (o : Origin) (key : ℕ) (s : Symbol) → HasSymbols seed above y symbols origins keys
    → plain a ≡ symbol_of s → lineage a ≡ lineage parent ++ origin_number o ∷ [] → o.count < number_base → slice_get above o.parent ≡ Some parent → key ≡ key_of seed (lineage parent)
    → HasSymbols seed above (y ++ a ∷ []) (symbols ++ s ∷ []) (origins ++ o ∷ []) (keys ++ child_key_of key (origin_number o) ∷ [])
more_symbols seed above y symbols origins keys parent a o key s h e l small g k = record {
  string = map-append plain y (a ∷ []) ∙ (λ i. h.string i ++ e i ∷ []) ∙ sym (map-append symbol_of symbols (s ∷ []));
  children = children_more above origins y o a h.children (record { parent = parent; there = g; number = l; small = small });
  keys =
      let own : key_of seed (lineage a) ≡ child_key_of key (origin_number o) = ap (key_of seed) l ∙ child_key seed (lineage parent) (origin_number o) ∙ ap (λ k. child_key_of k (origin_number o)) (sym k) in
      (λ i. h.keys i ++ sym own i ∷ []) ∙ sym (map-append (λ s. key_of seed (lineage s)) y (a ∷ []));
}

module _ (seed : ℕ) (above : List L.LevelSymbol) (raw : List Raw) (g : Grown) (parent : L.LevelSymbol) (o : Origin) (key : ℕ) (s : Symbol) (r : Raw) (h : HasGrown seed above raw g) (e : raw_plain r ≡ symbol_of s)
    (l : raw_lineage r ≡ lineage parent ++ origin_number o ∷ []) (small : o.count < number_base) (there : slice_get above o.parent ≡ Some parent) (k : key ≡ key_of seed (lineage parent)) where
  longer : g.room < length (cut raw) → g.room < length (cut (raw ++ r ∷ []))
  longer n = omega (arith, ap length (cut_more None raw r), length-append (cut raw) (cut_on (cutting_after_all None raw) (r ∷ [])))

  cutting_now : g.cutting ≡ cutting_after_all None raw → next_cutting g.cutting (symbol_of s) ≡ cutting_after_all None (raw ++ r ∷ [])
  cutting_now c = (λ i. next_cutting (c i) (sym e i)) ∙ sym (after_more None raw r)

  left_now : (xs : List L.LevelSymbol) → g.cutting ≡ cutting_after_all None raw → cut_on g.cutting (r ∷ []) ≡ xs → cut (raw ++ r ∷ []) ≡ cut raw ++ xs
  left_now xs c d = cut_more None raw r ∙ ap (λ o. cut raw ++ cut_on o (r ∷ [])) (sym c) ∙ ap (λ ys. cut raw ++ ys) d

  passes : symbol_stays g.cutting (symbol_of s) ≡ false → g.fits ≡ true → HasGrown seed above (raw ++ r ∷ []) (record g { cutting = next_cutting g.cutting (symbol_of s) })
  passes b f =
      let was : HoldsCut seed above raw g = h.holds f in
      let same : cut (raw ++ r ∷ []) ≡ cut raw = left_now [] was.cutting (passed g.cutting r (ap (symbol_stays g.cutting) e ∙ b)) ∙ append-nil (cut raw) in
      record {
        holds = λ i. record {
          cutting = cutting_now was.cutting;
          symbols = subst (λ y. HasSymbols seed above y g.symbols g.origins g.keys) (sym same) was.symbols;
          within = subst (λ y. length y ≤ g.room) (sym same) was.within;
        };
        over = λ i. let no : true ≡ false = sym f ∙ i in cc;
      }

  stays_on : symbol_stays g.cutting (symbol_of s) ≡ true → g.fits ≡ true → HasGrown seed above (raw ++ r ∷ []) (where_room o key s (record g { cutting = next_cutting g.cutting (symbol_of s) }))
  stays_on b f = by (length g.symbols == g.room) refl
    where
      was : HoldsCut seed above raw g
      was = h.holds f

      it : (a : L.LevelSymbol) × (r ≡ Plain a) × (cut_on g.cutting (r ∷ []) ≡ a ∷ [])
      it = stayed g.cutting r (ap (symbol_stays g.cutting) e ∙ b)

      whole : cut (raw ++ r ∷ []) ≡ cut raw ++ it.0 ∷ []
      whole = left_now (it.0 ∷ []) was.cutting it.2

      count : length (cut raw) ≡ length g.symbols
      count = sym (length-map (cut raw) plain) ∙ ap length was.symbols.string ∙ length-map g.symbols symbol_of

      size : length (cut (raw ++ r ∷ [])) ≡ length (cut raw) + 1
      size = ap length whole ∙ length-append (cut raw) (it.0 ∷ [])

      by : (b : Bool) → length g.symbols == g.room ≡ b
          → HasGrown seed above (raw ++ r ∷ []) (cond b (record g { cutting = next_cutting g.cutting (symbol_of s); fits = false }) (grown_by_symbol o key s (record g { cutting = next_cutting g.cutting (symbol_of s) })))
      by true full = record {
        holds = λ i. cc;
        over = λ i. let all : length g.symbols ≡ g.room = eqb-true (length g.symbols) g.room full in omega (arith, all, count, size);
      }
      by false room = record {
        holds = λ i. record {
          cutting = cutting_now was.cutting;
          symbols = subst (λ y. HasSymbols seed above y (g.symbols ++ s ∷ []) (g.origins ++ o ∷ []) (g.keys ++ child_key_of key (origin_number o) ∷ [])) (sym whole)
              (more_symbols seed above (cut raw) g.symbols g.origins g.keys parent it.0 o key s was.symbols (sym (ap raw_plain it.1) ∙ e) (sym (ap raw_lineage it.1) ∙ l) small there k);
          within = let other : length g.symbols ≡ g.room → ⊥ = eqb-false (length g.symbols) g.room room in let few : length (cut raw) ≤ g.room = was.within in omega (arith, other, few, count, size);
        };
        over = λ i. let no : true ≡ false = sym f ∙ i in cc;
      }

  pub child_grown : HasGrown seed above (raw ++ r ∷ []) (with_child o key s g)
  child_grown = by g.fits refl
    where
      by_stays : g.fits ≡ true → (b : Bool) → symbol_stays g.cutting (symbol_of s) ≡ b
          → HasGrown seed above (raw ++ r ∷ []) (cond b (where_room o key s (record g { cutting = next_cutting g.cutting (symbol_of s) })) (record g { cutting = next_cutting g.cutting (symbol_of s) }))
      by_stays f true b = stays_on b f
      by_stays f false b = passes b f

      by : (b : Bool) → g.fits ≡ b
          → HasGrown seed above (raw ++ r ∷ [])
          (cond b (cond (symbol_stays g.cutting (symbol_of s)) (where_room o key s (record g { cutting = next_cutting g.cutting (symbol_of s) })) (record g { cutting = next_cutting g.cutting (symbol_of s) })) g)
      by true f = by_stays f (symbol_stays g.cutting (symbol_of s)) refl
      by false f = record {
        holds = λ i. let no : false ≡ true = sym f ∙ i in cc;
        over = λ i. longer (h.over i);
      }

-- 3. the children of a symbol

born_plain : (l : List ℕ) (s : Symbol) → raw_plain (raw_of l (symbol_of s)) ≡ symbol_of s
born_plain l code.Push = refl
born_plain l code.Pop = refl
born_plain l code.Cut = refl
born_plain l (code.Module m) = refl

same_number : (g : Numbering) (parent n : ℕ) (before : List ℕ) (c : ℕ) → number_at g n before c ≡ origin_number (origin_at g parent n before c)
same_number by_place parent n before c = omega arith
same_number by_name parent n before c = refl

count_few : (c : ℕ) (before : List ℕ) → count_by (λ d. d == c) before ≤ length before
count_few c before = count_by-le-length (λ d. d == c) before

pub small_count : (g : Numbering) (parent n : ℕ) (before : List ℕ) (c : ℕ) → length before ≡ n → n < number_base → (origin_at g parent n before c).count < number_base
small_count by_place parent n before c e l = l
small_count by_name parent n before c e l = let few = count_few c before in omega (arith, few, e, l)

same_parent : (g : Numbering) (parent n : ℕ) (before : List ℕ) (c : ℕ) → (origin_at g parent n before c).parent ≡ parent
same_parent by_place parent n before c = refl
same_parent by_name parent n before c = refl

module _ (g : Numbering) (seed : ℕ) (above : List L.LevelSymbol) (place key : ℕ) (parent : L.LevelSymbol) (there : slice_get above place ≡ Some parent) (k : key ≡ key_of seed (lineage parent)) where
  pub children_grown : (n : ℕ) (before : List ℕ) (ss : List Symbol) (raw : List Raw) (made : Grown) → length before ≡ n → n + length ss ≤ number_base → HasGrown seed above raw made
      → HasGrown seed above (raw ++ numbered g n before (lineage parent) (string_of ss)) (with_children g place key n before ss made)
  children_grown n before [] raw made e few h = subst (λ x. HasGrown seed above x made) (sym (append-nil raw)) h
  children_grown n before (s ∷ ss) raw made e few h =
      let c = code_of (symbol_of s) in
      let l : List ℕ = lineage parent ++ number_at g n before c ∷ [] in
      let r : Raw = raw_of l (symbol_of s) in
      let o : Origin = origin_at g place n before c in
      let number : raw_lineage r ≡ lineage parent ++ origin_number o ∷ [] = born_lineage l (symbol_of s) ∙ ap (λ i. lineage parent ++ i ∷ []) (same_number g place n before c) in
      let small : o.count < number_base = small_count g place n before c e (omega (arith, few)) in
      subst (λ x. HasGrown seed above x (with_children g place key n before (s ∷ ss) made)) (append_assoc raw (r ∷ []) (numbered g (n + 1) (c ∷ before) (lineage parent) (string_of ss)))
      (children_grown (n + 1) (c ∷ before) ss (raw ++ r ∷ []) (with_child o key s made) (omega (arith, e)) (omega (arith, few))
      (child_grown seed above raw made parent o key s r h (born_plain l s) number small (ap (slice_get above) (same_parent g place n before c) ∙ there) k))

-- one parent more
pub one_parent : (seed : ℕ) (above : List L.LevelSymbol) (raw : List Raw) (g : Grown) (n : ℕ) → HasGrown seed above raw g → HasGrown seed above raw (record g { parents = n })
one_parent seed above raw g n h = record {
  holds = λ f. let was : HoldsCut seed above raw g = h.holds f in record { cutting = was.cutting; symbols = was.symbols; within = was.within };
  over = h.over;
}

-- when all were added
pub all_added : (g : Numbering) (parent key n : ℕ) (before : List ℕ) (ss : List Symbol) (now whole : Grown) → length ss ≤ n → with_children g parent key n before (drop n ss) now ≡ whole → now ≡ whole
all_added g parent key n before ss now whole l e = ap (λ rest. with_children g parent key n before rest now) (sym (drop_all n ss l)) ∙ e

-- the children that were added, and what is left to add
pub record AreAdded (g : Numbering) (parent key : ℕ) (ss : List Symbol) (first : Grown) (place : ℕ) (numbers : ChildNumbers) (made : Grown) : Type 0 where
  pub before : List ℕ
  pub after : HasNumbered place before numbers
  pub told : with_children g parent key place before (drop place ss) made ≡ with_children g parent key 0 [] ss first

pub one_added : (g : Numbering) (parent key : ℕ) (ss : List Symbol) (first : Grown) (place : ℕ) (numbers after : ChildNumbers) (made now : Grown) (s : Symbol) (o : Origin) → AreAdded g parent key ss first place numbers made
    → slice_get ss place ≡ Some s → ((n : ℕ) (before : List ℕ) → HasNumbered n before numbers → o ≡ origin_at g parent n before (code_of (symbol_of s)))
    → ((n : ℕ) (before : List ℕ) → HasNumbered n before numbers → HasNumbered (n + 1) (code_of (symbol_of s) ∷ before) after) → now ≡ with_child o key s made → AreAdded g parent key ss first (place + 1) after now
one_added g parent key ss first place numbers after made now s o h there origin goes child = record {
  before = code_of (symbol_of s) ∷ h.before;
  after = goes place h.before h.after;
  told =
      ap (with_children g parent key (place + 1) (code_of (symbol_of s) ∷ h.before) (drop (place + 1) ss)) (child ∙ ap (λ o. with_child o key s made) (origin place h.before h.after))
      ∙ ap (λ rest. with_children g parent key place h.before rest made) (sym (drop_there ss place s there)) ∙ h.told;
}

pub small_origin : (g : Numbering) (parent key : ℕ) (ss : List Symbol) (first : Grown) (place : ℕ) (numbers : ChildNumbers) (made : Grown) (s : Symbol) (o : Origin) → AreAdded g parent key ss first place numbers made → place < number_base
    → ((n : ℕ) (before : List ℕ) → HasNumbered n before numbers → o ≡ origin_at g parent n before (code_of (symbol_of s))) → o.count < number_base
small_origin g parent key ss first place numbers made s o h l origin =
    subst (λ o. o.count < number_base) (sym (origin place h.before h.after)) (small_count g parent place h.before (code_of (symbol_of s)) h.after.length l)
