-- How many children the nodes of a level want.
use Rattle.std.proofs.Common.{◌≡◌, ◌≢◌, ◌⊎◌, ◌+◌, ◌<◌, ℕ, zero, suc, Bool, true, false, cond, map, Option, Some, None, Ok, Err, List, [], ◌∷◌, ◌++◌, length, refl, sym, ap, ◌∙◌, subst, arith, inl, inr, sum_by, length-append}
use Rattle.std.specs.Prelude.{ℤ, nat_eq}
use Rattle.std.proofs.lemmas.Bool.{cases_eq}
use Rattle.std.proofs.lemmas.List.{length-map}
use Rattle.std.proofs.lemmas.List.Sums.{sum_by-cons}
use Rattle.lsys_spec.specs.Rows.{In, AreApart}
use Rattle.lsys_syntax.specs.Commands.{Numbering}
use Rattle.lsys_syntax.specs.Strings as S
use Rattle.lsys_spec.specs.Systems.{System}
use Rattle.lsys_spec.specs.Levels as L
use Rattle.lsys_spec.specs.Levels.{lineage}
use Rattle.lsys_spec.specs.Cuts.{cut_on, cut}
use Rattle.lsys_spec.specs.Numbers.{code_of}
use Rattle.lsys_spec.specs.Meaning.{OverLimit, numbered, children, next_level, last_level, meaning_to}
use Rattle.lsys_laws.specs.Kinds.{stays, reached}
use Rattle.lsys_laws.specs.Kinds as kinds
use Rattle.lsys_laws.specs.Children.{own_children, is_open, AreReplaced, row}
use Rattle.lsys_laws.proofs.Rows.{kept_level}
use Rattle.lsys_laws.proofs.UpTo.{level_count}
use Rattle.lsys_forest.specs.Nodes.{Nodes}
use Rattle.lsys_forest.specs.Rows.{kids_in, kids_below, spot_in, level_nodes}
use Rattle.lsys_forest.proofs.RowLemmas as rows
use Rattle.lsys_children.specs.declared.child.Child.{Child}
use Rattle.lsys_match.specs.Kept.{Kept}
use Rattle.lsys_reads.specs.Lineages.{names}
use Rattle.lsys_reads.specs.Levels.{level_of}
use Rattle.lsys_reads.specs.Meant.{meant_to}
use Rattle.lsys_children.specs.Wishes.{child_symbol, AreWanted}
use Rattle.lsys_children.specs.Nexts.{Successors, node_symbol, node_kind, wanted_after, HasWanted, AreClosed, wanted_in, wanted_count, count_wanted, HaveSuccessors}
use Rattle.lsys_children.proofs.Nexts.{kind_with, level_symbols, last_there, all_replaced}
use Rattle.lsys_children.proofs.Walks.{same_yes, same_not, none_reached}
use Rattle.lsys_children.proofs.Refused.{over_to}

-- 1. one parent

-- how many stay doesn't depend on the parent
same_length : (g : Numbering) (i : ℕ) (before l k : List ℕ) (o : Option ℕ) (zs : List (S.Symbol ℤ)) → length (cut_on o (numbered g i before l zs)) ≡ length (cut_on o (numbered g i before k zs))
same_length g i before l k None [] = refl
same_length g i before l k (Some n) [] = refl
same_length g i before l k None (S.Cut ∷ zs) = same_length g (i + 1) (37 ∷ before) l k (Some 0) zs
same_length g i before l k (Some n) (S.Cut ∷ zs) = same_length g (i + 1) (37 ∷ before) l k (Some n) zs
same_length g i before l k None (S.Module v ps ∷ zs) = ap suc (same_length g (i + 1) (code_of (S.Module v ps) ∷ before) l k None zs)
same_length g i before l k (Some n) (S.Module v ps ∷ zs) = same_length g (i + 1) (code_of (S.Module v ps) ∷ before) l k (Some n) zs
same_length g i before l k None (S.Push ∷ zs) = ap suc (same_length g (i + 1) (91 ∷ before) l k None zs)
same_length g i before l k (Some n) (S.Push ∷ zs) = same_length g (i + 1) (91 ∷ before) l k (Some (suc n)) zs
same_length g i before l k None (S.Pop ∷ zs) = ap suc (same_length g (i + 1) (93 ∷ before) l k None zs)
same_length g i before l k (Some zero) (S.Pop ∷ zs) = ap suc (same_length g (i + 1) (93 ∷ before) l k None zs)
same_length g i before l k (Some (suc n)) (S.Pop ∷ zs) = same_length g (i + 1) (93 ∷ before) l k (Some n) zs

count_of : (g : Numbering) (l : List ℕ) (zs : List (S.Symbol ℤ)) → length (cut (children g l zs)) ≡ wanted_count g zs
count_of g l zs = same_length g 0 [] l [] None zs

pub made_count : (g : Numbering) (key : ℕ) (zs : List (S.Symbol ℤ)) (ws : List Child) → AreWanted g key zs ws → length ws ≡ wanted_count g zs
made_count g key zs ws a = sym (length-map ws (child_symbol [])) ∙ ap length (a.symbols [])

-- 2. sums

sum_same : (f h : ℕ → ℕ) (ks : List ℕ) → ((k : ℕ) → In k ks → f k ≡ h k) → sum_by f ks ≡ sum_by h ks
sum_same f h [] e = refl
sum_same f h (k ∷ ks) e = let rest = sum_same f h ks (λ j i. e j (inr i)) in let one = e k (inl refl) in omega (arith, sum_by-cons f k ks, sum_by-cons h k ks, rest, one)

sum_append : (f : ℕ → ℕ) (xs ys : List ℕ) → sum_by f (xs ++ ys) ≡ sum_by f xs + sum_by f ys
sum_append f [] ys = omega arith
sum_append f (x ∷ xs) ys = let rest = sum_append f xs ys in omega (arith, sum_by-cons f x (xs ++ ys), sum_by-cons f x xs, rest)

kept : (q p : ℕ) (b a : List ℕ) → In q (b ++ p ∷ a) → q ≢ p → In q (b ++ a)
kept q p b a i ne = elim (rows.In_append b (p ∷ a) q i) [
  | inl l ↦ rows.In_left q b a l
  | inr r ↦ elim r [ inl e ↦ absurd (ne e) | inr l ↦ rows.In_right q b a l ]
]

wider : (k p : ℕ) (b a : List ℕ) → In k (b ++ a) → In k (b ++ p ∷ a)
wider k p b a i = elim (rows.In_append b a k i) [
  | inl l ↦ rows.In_left k b (p ∷ a) l
  | inr r ↦ rows.In_right k b (p ∷ a) (inr r)
]

later : (k p : ℕ) (ps : List ℕ) → In k (p ∷ ps) → k ≢ p → In k ps
later k p ps (inl e) ne = absurd (ne e)
later k p ps (inr i) ne = i

-- one parent after the other is taken from the level
pub other_sums : (old new : ℕ → ℕ) (ks ps : List ℕ) → AreApart ks → AreApart ps → ((p : ℕ) → In p ps → In p ks) → ((k : ℕ) → In k ks → In k ps ⊎ (new k ≡ old k))
    → sum_by new ks + sum_by old ps ≡ sum_by old ks + sum_by new ps
other_sums old new ks [] a b among each =
    let same = sum_same new old ks (λ k i. elim (each k i) [ inl never ↦ absurd never | inr e ↦ e ]) in omega (arith, same)
other_sums old new ks (p ∷ ps) a b among each =
    let s = rows.In_split p ks (among p (inl refl)) in
    let apart : AreApart (s.0 ++ p ∷ s.1) = subst AreApart s.2 a in
    let parts = rows.apart_parts s.0 (p ∷ s.1) apart in
    let out : (k : ℕ) → In k (s.0 ++ s.1) → k ≢ p =
    λ k i e. elim (rows.In_append s.0 s.1 k i) [ inl l ↦ parts.2 k l (inl e) | inr l ↦ parts.1.0 (subst (λ j. In j s.1) e l) ] in
    let rest = other_sums old new (s.0 ++ s.1) ps (rows.apart_append s.0 s.1 parts.0 parts.1.1 (λ k i l. parts.2 k i (inr l))) b.1
    (λ q i. kept q p s.0 s.1 (subst (In q) s.2 (among q (inr i))) (λ e. b.0 (subst (λ j. In j ps) e i)))
    (λ k i. elim (each k (subst (In k) (sym s.2) (wider k p s.0 s.1 i))) [ inl l ↦ inl (later k p ps l (out k i)) | inr e ↦ inr e ]) in
    let n1 = ap (sum_by new) s.2 in
    let o1 = ap (sum_by old) s.2 in
    omega (arith, n1, o1, rest, sum_append new s.0 (p ∷ s.1), sum_append old s.0 (p ∷ s.1), sum_append new s.0 s.1, sum_append old s.0 s.1, sum_by-cons new p s.1, sum_by-cons old p s.1, sum_by-cons new p ps, sum_by-cons old p ps)

-- 3. a level

module _ {A : Type 0} where
  pub kids_count : (g : Numbering) (seed : ℕ) (m : Nodes A) (k : ℕ) (zs : List (S.Symbol ℤ)) → HasWanted g seed m k zs → length (kids_in (m k)) ≡ wanted_count g zs
  kids_count g seed m k zs h = sym (length-map (kids_in (m k)) (node_symbol m)) ∙ ap length h.symbols ∙ count_of g (names m k) zs

  pub below_count : (m : Nodes A) (ks : List ℕ) → length (kids_below m ks) ≡ sum_by (λ k. length (kids_in (m k))) ks
  below_count m [] = refl
  below_count m (k ∷ ks) = let rest = below_count m ks in omega (arith, length-append (kids_in (m k)) (kids_below m ks), sum_by-cons (λ k. length (kids_in (m k))) k ks, rest)

  alone_wanted : (m : Nodes A) (by : Successors) (ks : List ℕ) (k : ℕ) → AreClosed by ks → In k ks → wanted_in m by None ks k ≡ by k
  alone_wanted m by [] k closed i = absurd i
  alone_wanted m by (j ∷ js) k closed i = go (cases_eq k j) (λ l. alone_wanted m by js k closed.1 l)
    where
      go : (k ≡ j) ⊎ (k ≢ j) → (In k js → wanted_in m by None js k ≡ by k) → wanted_in m by None (j ∷ js) k ≡ by k
      go (inl e) more =
          ap (λ n. cond (nat_eq n j) (by j) (wanted_in m by (reached None (node_kind m j) (is_open (by j))) js k)) e
          ∙ ap (λ b. cond b (by j) (wanted_in m by (reached None (node_kind m j) (is_open (by j))) js k)) (same_yes j) ∙ ap by (sym e)
      go (inr ne) more =
          ap (λ b. cond b (by j) (wanted_in m by (reached None (node_kind m j) (is_open (by j))) js k)) (same_not k j ne)
          ∙ ap (λ o. wanted_in m by o js k) (none_reached (node_kind m j) (is_open (by j)) closed.0) ∙ more (later k j js i ne)

  pub alone_count : (g : Numbering) (m : Nodes A) (by : Successors) (ks : List ℕ) → AreClosed by ks → count_wanted g m by ks ≡ sum_by (λ k. wanted_count g (by k)) ks
  alone_count g m by ks closed = sum_same (λ k. wanted_count g (wanted_in m by None ks k)) (λ k. wanted_count g (by k)) ks (λ k i. ap (wanted_count g) (alone_wanted m by ks k closed i))

  row_count : (g : Numbering) (m : Nodes A) (by : Successors) (o : Option ℕ) (ks : List ℕ) → AreApart ks → length (row g o (map (node_symbol m) ks) (map by ks)) ≡ sum_by (λ k. wanted_count g (wanted_in m by o ks k)) ks
  row_count g m by o [] apart = refl
  row_count g m by o (k ∷ ks) apart =
      let a : L.LevelSymbol = node_symbol m k in
      let kind : kinds.kind_of_symbol a ≡ node_kind m k = kind_with (names m (spot_in k (m k)).tag) (spot_in k (m k)).seen in
      let next : Option ℕ = reached o (node_kind m k) (is_open (by k)) in
      let front : length (cond (stays o (node_kind m k)) (own_children g a (by k)) []) ≡ wanted_count g (wanted_after o (node_kind m k) (by k)) = own (stays o (node_kind m k)) in
      let first : wanted_in m by o (k ∷ ks) k ≡ wanted_after o (node_kind m k) (by k) = ap (λ b. cond b (wanted_after o (node_kind m k) (by k)) (wanted_in m by next ks k)) (same_yes k) in
      let others : sum_by (λ j. wanted_count g (wanted_in m by o (k ∷ ks) j)) ks ≡ sum_by (λ j. wanted_count g (wanted_in m by next ks j)) ks =
      sum_same (λ j. wanted_count g (wanted_in m by o (k ∷ ks) j)) (λ j. wanted_count g (wanted_in m by next ks j)) ks
      (λ j i. ap (λ b. wanted_count g (cond b (wanted_after o (node_kind m k) (by k)) (wanted_in m by next ks j))) (same_not j k (λ e. apart.0 (subst (λ x. In x ks) e i)))) in
      ap (λ b. length (cond (stays o b) (own_children g a (by k)) [] ++ row g (reached o b (is_open (by k))) (map (node_symbol m) ks) (map by ks))) kind
      ∙ length-append (cond (stays o (node_kind m k)) (own_children g a (by k)) []) (row g next (map (node_symbol m) ks) (map by ks))
      ∙ ap (λ n. n + length (row g next (map (node_symbol m) ks) (map by ks))) (front ∙ ap (wanted_count g) (sym first))
      ∙ ap (λ n. wanted_count g (wanted_in m by o (k ∷ ks) k) + n) (row_count g m by next ks apart.1 ∙ sym others)
      ∙ sym (sum_by-cons (λ j. wanted_count g (wanted_in m by o (k ∷ ks) j)) k ks)
    where
      own : (b : Bool) → length (cond b (own_children g (node_symbol m k) (by k)) []) ≡ wanted_count g (cond b (by k) [])
      own true = count_of g (lineage (node_symbol m k)) (by k)
      own false = refl

-- the next level, where all of a level are replaced
pub next_is : (s : System) (limit t : ℕ) (m : Nodes Kept) (root : ℕ) (by : Successors) → HaveSuccessors s limit t m root by
    → next_level s t (last_level (meant_to s limit t)) ≡ Ok (row s.numbering None (map (node_symbol m) (level_nodes m root t)) (map by (level_nodes m root t)))
next_is s limit t m root by h =
    let nodes : List ℕ = level_nodes m root t in
    let x : List L.LevelSymbol = map (node_symbol m) nodes in
    let count : length (meant_to s limit t) ≡ t + 1 = level_count s limit t (meant_to s limit t) h.spelled h.is in
    let here : level_of m root t ≡ x = level_symbols m nodes in
    let last : last_level (meant_to s limit t) ≡ x = last_there (meant_to s limit t) t count ∙ sym (h.levels.each t (omega (arith, count))) ∙ here in
    let all : AreReplaced s t x 0 x (map by nodes) = subst (λ y. AreReplaced s t y 0 x (map by nodes)) here (all_replaced s t (level_of m root t) m by nodes h.replaced) in
    ap (next_level s t) last ∙ kept_level s t x (map by nodes) h.spelled all

pub over_level : (s : System) (limit t : ℕ) (m : Nodes Kept) (root : ℕ) (by : Successors) → HaveSuccessors s limit t m root by → AreApart (level_nodes m root t)
    → limit < sum_by length (meant_to s limit t) + count_wanted s.numbering m by (level_nodes m root t) → meaning_to s limit (suc t) ≡ Err (OverLimit (suc t))
over_level s limit t m root by h apart l =
    let nodes : List ℕ = level_nodes m root t in
    let long = row_count s.numbering m by None nodes apart in
    over_to s limit t (meant_to s limit t) (row s.numbering None (map (node_symbol m) nodes) (map by nodes)) h.is (next_is s limit t m root by h) (omega (arith, long, l))
