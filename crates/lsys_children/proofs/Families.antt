-- Nodes that are a system's levels have the children that their successors want.
use Rattle.std.proofs.Common.{◌≡◌, ◌+◌, ◌<◌, ◌≤◌, ℕ, zero, suc, Bool, true, false, cond, map, Option, Some, None, Ok, List, [], ◌∷◌, ◌++◌, length, refl, sym, ap, ◌∙◌, subst, arith, inl, inr}
use Rattle.std.specs.Prelude.{ℤ, slice_get, get_or, option_map}
use Rattle.std.proofs.lemmas.Bool.{cases_lt}
use Rattle.std.proofs.lemmas.List.{map-append, length_push}
use Rattle.std.proofs.lemmas.Option.{slice_get-map}
use Rattle.std.proofs.Math.ListN.{get_or-append}
use Rattle.std.proofs.Math.Seq.{get_or-append_seam}
use Rattle.lsys_laws.proofs.Placed.{place_in}
use Rattle.lsys_spec.specs.Rows.{In, AreApart}
use Rattle.lsys_syntax.specs.Commands.{Numbering}
use Rattle.lsys_syntax.specs.Strings as S
use Rattle.lsys_spec.specs.Draws.{key_of}
use Rattle.lsys_spec.specs.Systems.{System, Each, WellSpelled}
use Rattle.lsys_spec.specs.Levels as L
use Rattle.lsys_spec.specs.Levels.{lineage}
use Rattle.lsys_spec.specs.Cuts.{Raw, Plain, Cut, raw_lineage, cut_on, cut}
use Rattle.lsys_spec.specs.Numbers.{code_of, number_at}
use Rattle.lsys_spec.specs.Meaning.{numbered, children, first_level, next_level, last_level, meaning_to, replacement}
use Rattle.lsys_spec.proofs.LevelInduction.{ok_parts, ok_within}
use Rattle.lsys_spec.proofs.Rising.{born_lineage}
use Rattle.lsys_spec.proofs.Eachs.{each_append}
use Rattle.lsys_laws.specs.Kinds.{stays, reached}
use Rattle.lsys_laws.specs.Kinds as kinds
use Rattle.lsys_laws.specs.Children.{own_children, is_open, AreReplaced, row}
use Rattle.lsys_laws.specs.Nodes.{AreOnce}
use Rattle.lsys_laws.proofs.KeptLineages.{child, apart}
use Rattle.lsys_laws.proofs.Rows.{kept_level}
use Rattle.lsys_forest.specs.Nodes.{Node, Nodes}
use Rattle.lsys_forest.specs.Changes.{Change}
use Rattle.lsys_forest.specs.Groves.{IsRooted}
use Rattle.lsys_forest.specs.Rows.{kids_in, kids_below, spot_in, level_nodes, level_spots}
use Rattle.lsys_forest.proofs.RowLemmas as rows
use Rattle.lsys_match.specs.Kept.{Kept}
use Rattle.lsys_reads.specs.Lineages.{kin_of, kins, names}
use Rattle.lsys_reads.specs.Levels.{level_of, HaveLevels}
use Rattle.lsys_reads.specs.Meant.{meant_to}
use Rattle.lsys_children.specs.Nexts.{Successors, node_symbol, node_kind, node_key, HaveWanted}
use Rattle.lsys_children.proofs.Nexts.{lineage_at, kind_with, tag_of, level_symbols, last_there, all_replaced}

-- 1. each level of a system is the one after the level before it

record IsStep (s : System) (n : ℕ) (xs : List (List L.LevelSymbol)) : Type 0 where
  long : length xs ≡ suc n
  first : get_or xs 0 [] ≡ first_level s
  each : (t : ℕ) → t < n → next_level s t (get_or xs t []) ≡ Ok (get_or xs (t + 1) [])

steps : (s : System) (limit n : ℕ) (xs : List (List L.LevelSymbol)) → meaning_to s limit n ≡ Ok xs → IsStep s n xs
steps s limit zero xs h =
    let e : first_level s ∷ [] ≡ xs = ok_within limit 0 (first_level s ∷ []) xs h in
    record { long = ap (length {A = List L.LevelSymbol}) (sym e); first = ap (λ xs. get_or xs 0 []) (sym e); each = λ t l. absurd (omega (arith, l)) }
steps s limit (suc n) xs h =
    let before = ok_parts (meaning_to s limit n) _ xs h in
    let here = ok_parts (next_level s n (last_level before.0)) _ xs before.2 in
    let e : before.0 ++ here.0 ∷ [] ≡ xs = ok_within limit (suc n) (before.0 ++ here.0 ∷ []) xs here.2 in
    let r : IsStep s n before.0 = steps s limit n before.0 before.1 in
    subst (IsStep s (suc n)) e (more s n before.0 here.0 r here.1)
  where
    more : (s : System) (n : ℕ) (xs : List (List L.LevelSymbol)) (x : List L.LevelSymbol) → IsStep s n xs → next_level s n (last_level xs) ≡ Ok x → IsStep s (suc n) (xs ++ x ∷ [])
    more s n xs x r h = record {
      long = let l = r.long in length_push xs x ∙ omega (arith, l);
      first = front 0 (let l = r.long in omega (arith, l)) ∙ r.first;
      each = λ t l. elim (cases_lt t n) [ inl a ↦ early t a | inr b ↦ late t l b ];
    }
      where
        front : (t : ℕ) → t < length xs → get_or (xs ++ x ∷ []) t [] ≡ get_or xs t []
        front t l = get_or-append xs (x ∷ []) [] t l

        early : (t : ℕ) → t < n → next_level s t (get_or (xs ++ x ∷ []) t []) ≡ Ok (get_or (xs ++ x ∷ []) (t + 1) [])
        early t a =
            let l = r.long in
            ap (next_level s t) (front t (omega (arith, l, a))) ∙ r.each t a ∙ ap Ok (sym (front (t + 1) (omega (arith, l, a))))

        late : (t : ℕ) → t < suc n → n ≤ t → next_level s t (get_or (xs ++ x ∷ []) t []) ≡ Ok (get_or (xs ++ x ∷ []) (t + 1) [])
        late t l b =
            let long = r.long in
            let e : n ≡ t = omega (arith, l, b) in
            let count : length xs ≡ t + 1 = omega (arith, long, e) in
            ap (next_level s t) (front t (omega (arith, count)) ∙ sym (last_there xs t count)) ∙ ap (λ n. next_level s n (last_level xs)) (sym e) ∙ h
            ∙ ap Ok (sym (ap (λ t. get_or (xs ++ x ∷ []) t []) (sym count) ∙ get_or-append_seam xs x [] []))

-- 2. lists of two parts

split : {X : Type 0} (P Q : X → Type 0) (xs ys us vs : List X) → ((a : X) → P a → Q a → ⊥) → Each P xs → Each Q ys → Each P us → Each Q vs → xs ++ ys ≡ us ++ vs → (xs ≡ us) × (ys ≡ vs)
split P Q [] ys [] vs none p q r s e = (refl, e)
split P Q [] [] (u ∷ us) vs none p q r s e = cc
split P Q [] (y ∷ ys) (u ∷ us) vs none p q r s e = let f : y ≡ u = cc in absurd (none u r.0 (subst Q f q.0))
split P Q (x ∷ xs) ys [] [] none p q r s e = cc
split P Q (x ∷ xs) ys [] (v ∷ vs) none p q r s e = let f : x ≡ v = cc in absurd (none v (subst P f p.0) s.0)
split P Q (x ∷ xs) ys (u ∷ us) vs none p q r s e =
    let f : x ≡ u = cc in
    let h : xs ++ ys ≡ us ++ vs = cc in
    let rest = split P Q xs ys us vs none p.1 q r.1 s h in
    (ap (λ x. x ∷ xs) f ∙ ap (λ xs. u ∷ xs) rest.0, rest.1)

push_parts : (xs ys : List ℕ) (a b : ℕ) → xs ++ a ∷ [] ≡ ys ++ b ∷ [] → xs ≡ ys
push_parts [] [] a b h = refl
push_parts [] (y ∷ ys) a b h = absurd (let n : 1 ≡ suc (length ys + 1) = ap length h ∙ ap suc (length_push ys b) in omega (arith, n))
push_parts (x ∷ xs) [] a b h = absurd (let n : suc (length xs + 1) ≡ 1 = sym (ap suc (length_push xs a)) ∙ ap length h in omega (arith, n))
push_parts (x ∷ xs) (y ∷ ys) a b h =
    let e : x ≡ y = cc in
    let f : xs ++ a ∷ [] ≡ ys ++ b ∷ [] = cc in ap (λ x. x ∷ xs) e ∙ ap (λ xs. y ∷ xs) (push_parts xs ys a b f)

-- 3. who is whose child

abbrev IsChildOf : List ℕ → L.LevelSymbol → Type 0
IsChildOf l a = (n : ℕ) × (lineage a ≡ l ++ n ∷ [])

abbrev RawChildOf : List ℕ → Raw → Type 0
RawChildOf l r = (n : ℕ) × (raw_lineage r ≡ l ++ n ∷ [])

all_raw : (g : Numbering) (i : ℕ) (before l : List ℕ) (zs : List (S.Symbol ℤ)) → Each (RawChildOf l) (numbered g i before l zs)
all_raw g i before l [] = tt
all_raw g i before l (z ∷ zs) = ((number_at g i before (code_of z), born_lineage (l ++ number_at g i before (code_of z) ∷ []) z), all_raw g (i + 1) (code_of z ∷ before) l zs)

all_cut : (l : List ℕ) (o : Option ℕ) (x : List Raw) → Each (RawChildOf l) x → Each (IsChildOf l) (cut_on o x)
all_cut l None [] h = tt
all_cut l (Some n) [] h = tt
all_cut l None (Cut c ∷ x) h = all_cut l (Some 0) x h.1
all_cut l (Some n) (Cut c ∷ x) h = all_cut l (Some n) x h.1
all_cut l None (Plain a ∷ x) h = (h.0, all_cut l None x h.1)
all_cut l (Some n) (Plain (L.Module c v) ∷ x) h = all_cut l (Some n) x h.1
all_cut l (Some n) (Plain (L.Push c) ∷ x) h = all_cut l (Some (suc n)) x h.1
all_cut l (Some zero) (Plain (L.Pop c) ∷ x) h = (h.0, all_cut l None x h.1)
all_cut l (Some (suc n)) (Plain (L.Pop c) ∷ x) h = all_cut l (Some n) x h.1

all_own : (g : Numbering) (a : L.LevelSymbol) (zs : List (S.Symbol ℤ)) → Each (IsChildOf (lineage a)) (own_children g a zs)
all_own g a zs = all_cut (lineage a) None (children g (lineage a) zs) (all_raw g 0 [] (lineage a) zs)

each_cond : {X : Type 0} (P : X → Type 0) (b : Bool) (xs : List X) → Each P xs → Each P (cond b xs [])
each_cond P true xs h = h
each_cond P false xs h = tt

each_weaker : {X : Type 0} (P Q : X → Type 0) (xs : List X) → ((a : X) → P a → Q a) → Each P xs → Each Q xs
each_weaker P Q [] f h = tt
each_weaker P Q (x ∷ xs) f h = (f x h.0, each_weaker P Q xs f h.1)

each_map : {X : Type 0} (P : X → Type 0) (f : ℕ → X) (xs : List ℕ) → ((k : ℕ) → In k xs → P (f k)) → Each P (map f xs)
each_map P f [] h = tt
each_map P f (x ∷ xs) h = (h x (inl refl), each_map P f xs (λ k i. h k (inr i)))

module _ {A : Type 0} (m : Nodes A) (root : ℕ) where
  -- a child of one of these nodes
  IsBelowOne : List ℕ → L.LevelSymbol → Type 0
  IsBelowOne ks a = (k : ℕ) × In k ks × IsChildOf (names m k) a

  row_below : (g : Numbering) (by : Successors) (o : Option ℕ) (ks : List ℕ) → Each (IsBelowOne ks) (row g o (map (node_symbol m) ks) (map by ks))
  unfolding IsBelowOne
  row_below g by o [] = tt
  row_below g by o (k ∷ ks) =
      let a : L.LevelSymbol = node_symbol m k in
      each_append (IsBelowOne (k ∷ ks)) (cond (stays o (kinds.kind_of_symbol a)) (own_children g a (by k)) []) (row g (reached o (kinds.kind_of_symbol a) (is_open (by k))) (map (node_symbol m) ks) (map by ks))
      (each_cond (IsBelowOne (k ∷ ks)) (stays o (kinds.kind_of_symbol a)) (own_children g a (by k))
      (each_weaker (IsChildOf (lineage a)) (IsBelowOne (k ∷ ks)) (own_children g a (by k)) (λ b c. (k, inl refl, subst (λ l. IsChildOf l b) (lineage_at m k) c)) (all_own g a (by k))))
      (each_weaker (IsBelowOne ks) (IsBelowOne (k ∷ ks)) _ (λ b c. (c.0, inr c.1, c.2)) (row_below g by (reached o (kinds.kind_of_symbol a) (is_open (by k))) ks))

  module _ (changes : List (Change A)) (sound : IsRooted root changes m) (once : AreOnce (kins m) root) where
    kid_of : (k j : ℕ) → In j (kids_in (m k)) → IsChildOf (names m k) (node_symbol m j)
    kid_of k j i =
        let u = rows.child root changes m sound k j i in
        let other = ((sound.own k u.above u.above_is).under j u.among).other in
        let c = child (kins m) root j (kin_of u.node) once (ap (option_map (λ (n : Node A). kin_of n)) u.is) other in
        ((kin_of u.node).number, lineage_at m j ∙ c ∙ ap (λ q. names m q ++ (kin_of u.node).number ∷ []) u.parent_is)

    kids_are : (k : ℕ) → Each (IsChildOf (names m k)) (map (node_symbol m) (kids_in (m k)))
    kids_are k = each_map (IsChildOf (names m k)) (node_symbol m) (kids_in (m k)) (kid_of k)

    all_below : (ks : List ℕ) → Each (IsBelowOne ks) (map (node_symbol m) (kids_below m ks))
    unfolding IsBelowOne
    all_below ks = each_map (IsBelowOne ks) (node_symbol m) (kids_below m ks) (λ j i. (let f = rows.flat_In (λ k. kids_in (m k)) ks j i in (f.0, f.1, kid_of f.0 j f.2)))

    -- nodes of one depth have each a lineage of its own
    module _ (g : Numbering) (seed : ℕ) (by : Successors) (depth : ℕ) where
      families : (o : Option ℕ) (ks : List ℕ) → AreApart ks → ((k : ℕ) → In k ks → (n : Node A) × (m k ≡ Some n) × (n.depth ≡ depth)) → ((j : ℕ) → In j (kids_below m ks) → node_key m j ≡ key_of seed (names m j))
          → map (node_symbol m) (kids_below m ks) ≡ row g o (map (node_symbol m) ks) (map by ks) → HaveWanted g seed m by o ks
      unfolding IsBelowOne
      families o [] a d keys e = tt
      families o (k ∷ ks) a d keys e =
          let x : L.LevelSymbol = node_symbol m k in
          let kind : kinds.kind_of_symbol x ≡ node_kind m k = kind_with (names m (spot_in k (m k)).tag) (spot_in k (m k)).seen in
          let next : Option ℕ = reached o (kinds.kind_of_symbol x) (is_open (by k)) in
          let parts = split (IsChildOf (names m k)) (IsBelowOne ks) (map (node_symbol m) (kids_in (m k))) (map (node_symbol m) (kids_below m ks)) (cond (stays o (kinds.kind_of_symbol x)) (own_children g x (by k)) [])
          (row g next (map (node_symbol m) ks) (map by ks)) (λ b p q. mine b p q) (kids_are k) (all_below ks)
          (each_cond (IsChildOf (names m k)) (stays o (kinds.kind_of_symbol x)) (own_children g x (by k)) (each_weaker (IsChildOf (lineage x)) (IsChildOf (names m k)) (own_children g x (by k)) (λ b c. subst (λ l. IsChildOf l b) (lineage_at m k) c) (all_own g x (by k))))
          (row_below g by next ks) (sym (map-append (node_symbol m) (kids_in (m k)) (kids_below m ks)) ∙ e) in (
            record {
              symbols = parts.0 ∙ ap (λ b. cond (stays o b) (own_children g x (by k)) []) kind ∙ own (stays o (node_kind m k));
              keys = λ j i. keys j (rows.In_left j (kids_in (m k)) (kids_below m ks) i);
            },
            subst (λ b. HaveWanted g seed m by (reached o b (is_open (by k))) ks) kind
                (families next ks a.1 (λ j i. d j (inr i)) (λ j i. keys j (rows.In_right j (kids_in (m k)) (kids_below m ks) i)) parts.1),
          )
        where
          own : (b : Bool) → cond b (own_children g (node_symbol m k) (by k)) [] ≡ cut (children g (names m k) (cond b (by k) []))
          own true = ap (λ l. cut (children g l (by k))) (lineage_at m k)
          own false = refl

          mine : (b : L.LevelSymbol) → IsChildOf (names m k) b → ((j : ℕ) × In j ks × IsChildOf (names m j) b) → ⊥
          mine b p q =
              let same : names m k ≡ names m q.0 = push_parts (names m k) (names m q.0) p.0 q.2.0 (sym p.1 ∙ q.2.1) in
              let u = d k (inl refl) in
              let v = d q.0 (inr q.1) in
              let one : k ≡ q.0 = apart (kins m) root k q.0 (kin_of u.0) (kin_of v.0) once (ap (option_map (λ (n : Node A). kin_of n)) u.1) (ap (option_map (λ (n : Node A). kin_of n)) v.1) (u.2 ∙ sym v.2) same in
              a.0 (subst (λ j. In j ks) (sym one) q.1)

-- 4. levels of a system

module _ (s : System) (limit n : ℕ) (m : Nodes Kept) (root : ℕ) (changes : List (Change Kept)) (spelled : WellSpelled s) (is : meaning_to s limit n ≡ Ok (meant_to s limit n)) (levels : HaveLevels m root s.seed (meant_to s limit n))
    (sound : IsRooted root changes m) (once : AreOnce (kins m) root) where
  step : IsStep s n (meant_to s limit n)
  step = steps s limit n (meant_to s limit n) is

  key_there : (t j : ℕ) → t ≤ n → In j (level_nodes m root t) → node_key m j ≡ key_of s.seed (names m j)
  key_there t j l i =
      let p = place_in j (level_nodes m root t) i in
      let there : slice_get (level_spots m root t) p.0 ≡ Some (spot_in j (m j)) = slice_get-map (λ k. spot_in k (m k)) (level_nodes m root t) p.0 ∙ ap (option_map (λ k. spot_in k (m k))) p.1 in
      let long = step.long in
      levels.keys t p.0 (spot_in j (m j)) (omega (arith, long, l)) there ∙ ap (λ k. key_of s.seed (names m k)) (tag_of j (m j))

  pub level_families : (t : ℕ) (by : Successors) → t < n → ((p k : ℕ) → slice_get (level_nodes m root t) p ≡ Some k → replacement s t (level_of m root t) p (node_symbol m k) ≡ Ok (by k))
      → HaveWanted s.numbering s.seed m by None (level_nodes m root t)
  level_families t by l replaced =
      let nodes : List ℕ = level_nodes m root t in
      let long = step.long in
      let x : List L.LevelSymbol = map (node_symbol m) nodes in
      let here : level_of m root t ≡ x = level_symbols m nodes in
      let all : AreReplaced s t x 0 x (map by nodes) = subst (λ y. AreReplaced s t y 0 x (map by nodes)) here (all_replaced s t (level_of m root t) m by nodes replaced) in
      let next : next_level s t x ≡ Ok (get_or (meant_to s limit n) (t + 1) []) = ap (next_level s t) (sym here ∙ levels.each t (omega (arith, long, l))) ∙ step.each t l in
      let same : Ok (row s.numbering None x (map by nodes)) ≡ Ok (get_or (meant_to s limit n) (t + 1) []) = sym (kept_level s t x (map by nodes) spelled all) ∙ next in
      let rows_are : row s.numbering None x (map by nodes) ≡ get_or (meant_to s limit n) (t + 1) [] = cc in
      let one : t + 1 ≡ suc t = omega arith in
      families m root changes sound once s.numbering s.seed by (t + 1) None nodes (rows.level_apart root changes m sound t) (rows.level_depth root changes m sound t)
      (λ j i. key_there (suc t) j (omega (arith, l)) i)
      (sym (level_symbols m (kids_below m nodes)) ∙ ap (level_of m root) (sym one) ∙ levels.each (t + 1) (omega (arith, long, l)) ∙ sym rows_are)
