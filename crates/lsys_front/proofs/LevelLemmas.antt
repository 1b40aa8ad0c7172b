-- What cuts left on the levels of a system.
use Rattle.std.proofs.Common.{◌≡◌, ◌+◌, ◌<◌, ℕ, zero, suc, Bool, true, false, cond, List, [], ◌∷◌, ◌++◌, map, append-nil, slice_get, Option, Some, None, Ok, refl, sym, ap, ◌∙◌, subst, arith, inl, inr}
use Rattle.std.specs.Prelude.{ℤ}
use Rattle.std.proofs.lemmas.Bool.{eqb-true}
use Rattle.lsys_spec.specs.Rows.{In, flat, AreApart}
use Rattle.lsys_syntax.specs.Commands.{Numbering}
use Rattle.lsys_syntax.specs.Strings as T
use Rattle.lsys_spec.specs.Systems.{System, WellSpelled}
use Rattle.lsys_spec.specs.Levels as L
use Rattle.lsys_spec.specs.Levels.{lineage, level_balanced, IsLevel}
use Rattle.lsys_spec.specs.Cuts.{raw_balanced, cut}
use Rattle.lsys_spec.specs.Numbers.{number_at}
use Rattle.lsys_spec.specs.Meaning.{children, replacement}
use Rattle.lsys_spec.proofs.Cutting.{cut_balanced}
use Rattle.lsys_spec.proofs.Balanced.{is_level}
use Rattle.lsys_spec.proofs.Offspring.{has_balance, successor_balanced, successor_short, offspring_balanced}
use Rattle.lsys_laws.specs.Kinds.{BracketKind, kind_of_symbol, stays, reached}
use Rattle.lsys_laws.specs.Mates.{balancing, AreBalanced, AreOwn}
use Rattle.lsys_laws.specs.Children.{is_open}
use Rattle.lsys_laws.proofs.UpTo.{level_count}
use Rattle.lsys_level.specs.Spots.{Seen, Push, Pop, Module, with_lineage, level_by}
use Rattle.lsys_forest.specs.Nodes.{Nodes}
use Rattle.lsys_forest.specs.Rows.{index_in, spot_in, kids_in, level_nodes}
use Rattle.lsys_forest.proofs.RowLemmas.{get_split, index_of, level_apart}
use Rattle.lsys_match.specs.Kept.{Kept}
use Rattle.lsys_children.specs.Children.{bracket_kind}
use Rattle.lsys_reads.specs.Lineages.{names}
use Rattle.lsys_reads.specs.Levels.{level_of}
use Rattle.lsys_reads.specs.Meant.{meant_to}
use Rattle.lsys_children.specs.Nexts.{Successors, AreLevels, HaveWanted, node_symbol, node_kind}
use Rattle.lsys_children.proofs.Nexts.{kind_with, balance_by}
use Rattle.lsys_children.proofs.Families.{level_families}
use Rattle.lsys_reads.specs.Neighbours.{numbered_level}
use Rattle.lsys_reads.specs.Looks.{kind_in}
use Rattle.lsys_reads.proofs.LevelLemmas.{place_in, lineage_at}
use Rattle.lsys_reads.proofs.LookedLemmas.{node_at}
use Rattle.lsys_front.specs.Generations.{IsLeft, AreLeft}
use Rattle.lsys_front.specs.Below.{kids_at, AreLeftLevels}

-- 1. rows

no_symbols : {X : Type 0} (f : ℕ → X) (ks : List ℕ) → map f ks ≡ [] → ks ≡ []
no_symbols f [] e = refl
no_symbols f (k ∷ ks) e = cc

one_symbol : {X : Type 0} (f : ℕ → X) (ks : List ℕ) (a : X) → map f ks ≡ a ∷ [] → (k : ℕ) × (ks ≡ k ∷ []) × (f k ≡ a)
one_symbol f [] a e = cc
one_symbol f (k ∷ []) a e = let g : f k ≡ a = cc in (k, refl, g)
one_symbol f (k ∷ j ∷ ks) a e = cc

-- where a number stands that stands once
pub one_place : (xs : List ℕ) → AreApart xs → (p k : ℕ) → slice_get xs p ≡ Some k → index_in k xs ≡ p
one_place xs h p k e =
    let s = get_split xs p k e in
    ap (index_in k) s.whole ∙ index_of k s.before s.after (subst AreApart s.whole h) ∙ s.long

-- 2. balance

balanced_kinds : (kind : ℕ → BracketKind) (f : ℕ → L.LevelSymbol) → ((k : ℕ) → kind k ≡ kind_of_symbol (f k)) → (n : ℕ) (ks : List ℕ) → level_balanced n (map f ks) ≡ true → AreBalanced kind n ks
balanced_kinds kind f same n [] h = eqb-true n 0 h
balanced_kinds kind f same n (k ∷ ks) h = by (f k) (same k) n h (λ n e. balanced_kinds kind f same n ks e)
  where
    by : (a : L.LevelSymbol) → kind k ≡ kind_of_symbol a → (n : ℕ) → level_balanced n (a ∷ map f ks) ≡ true → ((n : ℕ) → level_balanced n (map f ks) ≡ true → AreBalanced kind n ks)
        → balancing (kind k) n (λ m. AreBalanced kind m ks)
    by (L.Push l) e n h rest = subst (λ k. balancing k n (λ m. AreBalanced kind m ks)) (sym e) (rest (suc n) h)
    by (L.Module l v) e n h rest = subst (λ k. balancing k n (λ m. AreBalanced kind m ks)) (sym e) (rest n h)
    by (L.Pop l) e zero h rest = cc
    by (L.Pop l) e (suc n) h rest = subst (λ k. balancing k (suc n) (λ m. AreBalanced kind m ks)) (sym e) (rest n h)

module _ {A : Type 0} (m : Nodes A) where
  pub kind_is : (k : ℕ) → kind_in m k ≡ node_kind m k
  kind_is k = kind_with ((spot_in k (m k)).tag ∷ []) (spot_in k (m k)).seen

  kind_named : (k : ℕ) → kind_in m k ≡ kind_of_symbol (node_symbol m k)
  kind_named k = kind_is k ∙ sym (kind_with (names m (spot_in k (m k)).tag) (spot_in k (m k)).seen)

  symbols : (f : ℕ → List ℕ) (ks : List ℕ) → level_by f (map (λ k. spot_in k (m k)) ks) ≡ map (λ k. with_lineage (f (spot_in k (m k)).tag) (spot_in k (m k)).seen) ks
  symbols f [] = refl
  symbols f (k ∷ ks) = ap (λ (x : List L.LevelSymbol). with_lineage (f (spot_in k (m k)).tag) (spot_in k (m k)).seen ∷ x) (symbols f ks)

  balanced_row : (ks : List ℕ) → level_balanced 0 (level_by (λ tag. []) (map (λ k. spot_in k (m k)) ks)) ≡ true → AreBalanced (kind_in m) 0 ks
  balanced_row ks h =
      balanced_kinds (kind_in m) (λ k. with_lineage [] (spot_in k (m k)).seen) (λ k. kind_is k ∙ sym (kind_with [] (spot_in k (m k)).seen)) 0 ks (ap (level_balanced 0) (sym (symbols (λ tag. []) ks)) ∙ h)

  numbered_is_level : (ks : List ℕ) → AreApart ks → level_balanced 0 (level_by (λ tag. []) (map (λ k. spot_in k (m k)) ks)) ≡ true → IsLevel (numbered_level m ks)
  numbered_is_level ks a h = is_level (numbered_level m ks) (balance_by (λ k. k ∷ []) (λ tag. []) 0 (map (λ k. spot_in k (m k)) ks) ∙ h) apart
    where
      apart : (p q : ℕ) (s t : L.LevelSymbol) → slice_get (numbered_level m ks) p ≡ Some s → slice_get (numbered_level m ks) q ≡ Some t → lineage s ≡ lineage t → p ≡ q
      apart p q s t hp hq e =
          let i = node_at m ks p s hp in
          let j = node_at m ks q t hq in
          let l : i.0 ∷ [] ≡ j.0 ∷ [] = sym (lineage_at (λ k. k ∷ []) m ks p i.0 s i.1 hp) ∙ e ∙ lineage_at (λ k. k ∷ []) m ks q j.0 t j.1 hq in
          let same : i.0 ≡ j.0 = cc in
          sym (one_place ks a p i.0 i.1) ∙ ap (λ k. index_in k ks) same ∙ one_place ks a q j.0 j.1

  -- 3. children

  balanced_children : (g : Numbering) (l : List ℕ) (zs : List (T.Symbol ℤ)) → raw_balanced 0 (children g l zs) ≡ true → (ks : List ℕ) → map (node_symbol m) ks ≡ cut (children g l zs) → AreBalanced (kind_in m) 0 ks
  balanced_children g l zs b ks e =
      let z : 0 + 0 ≡ 0 = omega arith in
      balanced_kinds (kind_in m) (node_symbol m) kind_named 0 ks (ap (level_balanced 0) e ∙ cut_balanced (children g l zs) None 0 0 z b)

  own_by : (s : System) → WellSpelled s → (t p : ℕ) (x : List L.LevelSymbol) (l l' : List ℕ) (zs : List (T.Symbol ℤ)) (ks : List ℕ) (e : Seen) → replacement s t x p (with_lineage l e) ≡ Ok zs
      → map (node_symbol m) ks ≡ cut (children s.numbering l' zs) → AreOwn (kind_in m) (bracket_kind e) ks
  own_by s w t p x l l' zs ks Push r c =
      let f : T.Push ∷ [] ≡ zs = cc in
      let o = one_symbol (node_symbol m) ks (L.Push (l' ++ number_at s.numbering 0 [] 91 ∷ [])) (c ∙ ap (λ zs. cut (children s.numbering l' zs)) (sym f)) in
      (o.0, o.1, kind_named o.0 ∙ ap kind_of_symbol o.2)
  own_by s w t p x l l' zs ks Pop r c =
      let f : T.Pop ∷ [] ≡ zs = cc in
      let o = one_symbol (node_symbol m) ks (L.Pop (l' ++ number_at s.numbering 0 [] 93 ∷ [])) (c ∙ ap (λ zs. cut (children s.numbering l' zs)) (sym f)) in
      (o.0, o.1, kind_named o.0 ∙ ap kind_of_symbol o.2)
  own_by s w t p x l l' zs ks (Module v) r c =
      let b = successor_balanced s (has_balance s w) t x p l v zs r in
      let few = successor_short s (has_balance s w) t x p l v zs r in
      let raw : raw_balanced 0 (children s.numbering l' zs) ≡ true =
      offspring_balanced s.numbering (L.Module l' v ∷ []) (children s.numbering l' zs) 0 (zs, [], b, few, sym (append-nil (children s.numbering l' zs)), refl) refl in
      balanced_children s.numbering l' zs raw ks c

  -- what cuts left of one family
  left_by : (s : System) → WellSpelled s → (t p : ℕ) (x : List L.LevelSymbol) (k : ℕ) (zs : List (T.Symbol ℤ)) → replacement s t x p (node_symbol m k) ≡ Ok zs
      → (b : Bool) → map (node_symbol m) (kids_in (m k)) ≡ cut (children s.numbering (names m k) (cond b zs [])) → IsLeft (kind_in m) b (node_kind m k) (kids_at m k)
  left_by s w t p x k zs r true e = own_by s w t p x (names m (spot_in k (m k)).tag) (names m k) zs (kids_in (m k)) (spot_in k (m k)).seen r e
  left_by s w t p x k zs r false e = no_symbols (node_symbol m) (kids_in (m k)) e

  left_from : (s : System) → WellSpelled s → (t seed : ℕ) (x : List L.LevelSymbol) (by : Successors) (o : Option ℕ) (ks : List ℕ)
      → ((k : ℕ) → In k ks → (p : ℕ) × (replacement s t x p (node_symbol m k) ≡ Ok (by k))) → HaveWanted s.numbering seed m by o ks → AreLeft (kind_in m) (kids_at m) o ks
  left_from s w t seed x by o [] r h = tt
  left_from s w t seed x by o (k ∷ ks) r h =
      let here = r k (inl refl) in
      let one : IsLeft (kind_in m) (stays o (node_kind m k)) (node_kind m k) (kids_at m k) = left_by s w t here.0 x k (by k) here.1 (stays o (node_kind m k)) h.0.symbols in
      let rest : AreLeft (kind_in m) (kids_at m) (reached o (node_kind m k) (is_open (by k))) ks = left_from s w t seed x by (reached o (node_kind m k) (is_open (by k))) ks (λ j i. r j (inr i)) h.1 in (
        subst (λ c. IsLeft (kind_in m) (stays o c) c (kids_at m k)) (sym (kind_is k)) one,
        is_open (by k),
        subst (λ c. AreLeft (kind_in m) (kids_at m) (reached o c (is_open (by k))) ks) (sym (kind_is k)) rest,
      )

-- 4. levels

pub left_levels : (s : System) (limit n t : ℕ) (m : Nodes Kept) (root : ℕ) (by : Successors) → AreLevels s limit n m root → t < n
    → ((p k : ℕ) → slice_get (level_nodes m root t) p ≡ Some k → replacement s t (level_of m root t) p (node_symbol m k) ≡ Ok (by k)) → AreLeftLevels m root t
left_levels s limit n t m root by a l replaced =
    let long = level_count s limit n (meant_to s limit n) a.spelled a.is in
    let here = a.levels.balanced t (omega (arith, long, l)) in
    let next = a.levels.balanced (suc t) (omega (arith, long, l)) in
    let apart = level_apart root a.changes m a.sound t in
    let next_apart = level_apart root a.changes m a.sound (suc t) in
    let wanted = level_families s limit n m root a.changes a.spelled a.is a.levels a.sound a.once t by l replaced in
    let row : level_nodes m root (suc t) ≡ flat (kids_at m) (level_nodes m root t) = refl in
    record {
      left = record {
        balanced = balanced_row m (level_nodes m root t) here;
        left = left_from m s a.spelled t s.seed (level_of m root t) by None (level_nodes m root t) (λ k i. let p = place_in k (level_nodes m root t) i in (p.0, replaced p.0 k p.1)) wanted;
        apart = apart;
        kids_apart = subst AreApart row next_apart;
      };
      level = numbered_is_level m (level_nodes m root t) apart here;
      next = subst (λ ks. IsLevel (numbered_level m ks)) row (numbered_is_level m (level_nodes m root (suc t)) next_apart next);
      next_balanced = subst (AreBalanced (kind_in m) 0) row (balanced_row m (level_nodes m root (suc t)) next);
    }
