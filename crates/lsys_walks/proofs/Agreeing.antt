-- What was read is equal by tags exactly where it is equal by lineages.
use Rattle.std.proofs.Common.{◌≡◌, ℕ, Bool, true, ◌&&◌, ◌==◌, List, [], ◌∷◌, map, refl, ap, sym, ◌∙◌, eq-eqb, inl, inr, subst}
use Rattle.std.specs.Prelude.{◌↔◌}
use Rattle.std.proofs.lemmas.Bool.{eqb-true}
use Rattle.lsys_syntax.specs.Strings.{IsModuleName}
use Rattle.lsys_spec.specs.Systems.{Each}
use Rattle.lsys_spec.specs.Levels as L
use Rattle.lsys_spec.specs.Walks as W
use Rattle.lsys_spec.specs.Equalities.{same_all, same_lineage, same_mark, same_module, same_entry}
use Rattle.lsys_spec.proofs.Equal.{same_lineage_true, same_lineage_refl, same_symbol_refl, same_all_refl}
use Rattle.lsys_spec.proofs.Names.{same_symbol_true, same_all_true}
use Rattle.lsys_spec.proofs.Tests.{each_way, both, and_true}
use Rattle.lsys_walks.specs.Noted.{Noted, Compared, Ignored, Out, Branched, entry_by}
use Rattle.lsys_walks.specs.Agreements.{same_noted, same_trace, Names, AgreeTags, NamedNoted}

module _ (f g : ℕ → List ℕ) where
  -- one tag
  abbrev pub AreSame : ℕ → ℕ → Type 0
  AreSame k m = (k ≡ m) ↔ (f k ≡ g m)

  same_tag : (k m : ℕ) → AreSame k m → (k == m) ≡ same_lineage (f k) (g m)
  same_tag k m a =
      each_way (k == m) (same_lineage (f k) (g m))
      (λ e. ap (same_lineage (f k)) (sym (a.0 (eqb-true k m e))) ∙ same_lineage_refl (f k))
      (λ e. eq-eqb k m (a.1 (same_lineage_true (f k) (g m) e)))

  -- one entry
  abbrev pub AgreeOne : Noted → Noted → Type 0
  AgreeOne a b = (k m : ℕ) → Names k a → Names m b → AreSame k m

  same_one : (a b : Noted) → AgreeOne a b → same_noted a b ≡ same_entry (entry_by f a) (entry_by g b)
  same_one (Compared d t m) (Compared e u n) h = ap (λ s. same_mark d e && (s && same_module m n)) (same_tag t u (h t u refl refl))
  same_one (Ignored d t m) (Ignored e u n) h = ap (λ s. same_mark d e && (s && same_module m n)) (same_tag t u (h t u refl refl))
  same_one (Out d t) (Out e u) h = ap (λ s. same_mark d e && s) (same_tag t u (h t u refl refl))
  same_one (Branched d o c) (Branched e p q) h =
      let i = same_tag o p (h o p (inl refl) (inl refl)) in let j = same_tag c q (h c q (inr refl) (inr refl)) in λ k. same_mark d e && (i k && j k)
  same_one (Compared d t m) (Ignored e u n) h = refl
  same_one (Compared d t m) (Out e u) h = refl
  same_one (Compared d t m) (Branched e p q) h = refl
  same_one (Ignored d t m) (Compared e u n) h = refl
  same_one (Ignored d t m) (Out e u) h = refl
  same_one (Ignored d t m) (Branched e p q) h = refl
  same_one (Out d t) (Compared e u n) h = refl
  same_one (Out d t) (Ignored e u n) h = refl
  same_one (Out d t) (Branched e p q) h = refl
  same_one (Branched d o c) (Compared e u n) h = refl
  same_one (Branched d o c) (Ignored e u n) h = refl
  same_one (Branched d o c) (Out e u) h = refl

  -- equal entries name equal tags, and so equal lineages
  to_entry : (a b : Noted) → AgreeOne a b → a ≡ b → entry_by f a ≡ entry_by g b
  to_entry a b h e = ap (entry_by f) e ∙ renamed b (λ k p. (h k k (subst (λ a. Names k a) (sym e) p) p).0 refl)
    where
      renamed : (b : Noted) → ((k : ℕ) → Names k b → f k ≡ g k) → entry_by f b ≡ entry_by g b
      renamed (Compared d t m) r = ap (λ l. W.Compared d (L.Module l m)) (r t refl)
      renamed (Ignored d t m) r = ap (λ l. W.Ignored d (L.Module l m)) (r t refl)
      renamed (Out d t) r = ap (λ l. W.Out d l) (r t refl)
      renamed (Branched d o c) r = let i = r o (inl refl) in let j = r c (inr refl) in λ k. W.Branched d (i k) (j k)

  from_entry : (a b : Noted) → AgreeOne a b → entry_by f a ≡ entry_by g b → a ≡ b
  from_entry (Compared d t m) (Compared e u n) h i =
      let v : d ≡ e = cc in let l : f t ≡ g u = cc in let w : m ≡ n = cc in let k = (h t u refl refl).1 l in λ x. Compared (v x) (k x) (w x)
  from_entry (Ignored d t m) (Ignored e u n) h i =
      let v : d ≡ e = cc in let l : f t ≡ g u = cc in let w : m ≡ n = cc in let k = (h t u refl refl).1 l in λ x. Ignored (v x) (k x) (w x)
  from_entry (Out d t) (Out e u) h i =
      let v : d ≡ e = cc in let l : f t ≡ g u = cc in let k = (h t u refl refl).1 l in λ x. Out (v x) (k x)
  from_entry (Branched d o c) (Branched e p q) h i =
      let v : d ≡ e = cc in let l : f o ≡ g p = cc in let r : f c ≡ g q = cc in
      let k = (h o p (inl refl) (inl refl)).1 l in let j = (h c q (inr refl) (inr refl)).1 r in λ x. Branched (v x) (k x) (j x)
  from_entry a b h i = cc

-- the lists are equal by tags exactly where they are by lineages
pub equal_to : (f g : ℕ → List ℕ) (old new : List Noted) → AgreeTags f g old new → old ≡ new → map (entry_by f) old ≡ map (entry_by g) new
equal_to f g [] [] h e = refl
equal_to f g [] (b ∷ new) h e = cc
equal_to f g (a ∷ old) [] h e = cc
equal_to f g (a ∷ old) (b ∷ new) h e =
    let i : a ≡ b = cc in let j : old ≡ new = cc in
    let one = to_entry f g a b (λ k m p q. h k m (inl p) (inl q)) i in
    let more = equal_to f g old new (λ k m p q. h k m (inr p) (inr q)) j in
    λ i. one i ∷ more i

pub equal_from : (f g : ℕ → List ℕ) (old new : List Noted) → AgreeTags f g old new → map (entry_by f) old ≡ map (entry_by g) new → old ≡ new
equal_from f g [] [] h e = refl
equal_from f g [] (b ∷ new) h e = cc
equal_from f g (a ∷ old) [] h e = cc
equal_from f g (a ∷ old) (b ∷ new) h e =
    let i : entry_by f a ≡ entry_by g b = cc in let j : map (entry_by f) old ≡ map (entry_by g) new = cc in
    let one = from_entry f g a b (λ k m p q. h k m (inl p) (inl q)) i in
    let more = equal_from f g old new (λ k m p q. h k m (inr p) (inr q)) j in
    λ i. one i ∷ more i

pub equal_traces : (f g : ℕ → List ℕ) (old new : List Noted) → AgreeTags f g old new → (old ≡ new) ↔ (map (entry_by f) old ≡ map (entry_by g) new)
equal_traces f g old new h = (equal_to f g old new h, equal_from f g old new h)

-- the tests are equal, whatever the names are
pub same_traces : (f g : ℕ → List ℕ) (old new : List Noted) → AgreeTags f g old new → same_trace old new ≡ same_all same_entry (map (entry_by f) old) (map (entry_by g) new)
same_traces f g [] [] h = refl
same_traces f g [] (b ∷ new) h = refl
same_traces f g (a ∷ old) [] h = refl
same_traces f g (a ∷ old) (b ∷ new) h =
    let one = same_one f g a b (λ k m p q. h k m (inl p) (inl q)) in
    let more = same_traces f g old new (λ k m p q. h k m (inr p) (inr q)) in
    λ i. one i && more i

-- where names are names of the language, the test by tags tells equality

same_mark_true : (a b : W.Mark) → same_mark a b ≡ true → a ≡ b
same_mark_true a b h =
    let e = both (a.rule == b.rule) (a.depth == b.depth) h in
    let p = eqb-true a.rule b.rule e.0 in let q = eqb-true a.depth b.depth e.1 in λ i. record { rule = p i; depth = q i }

same_mark_refl : (d : W.Mark) → same_mark d d ≡ true
same_mark_refl d = and_true (d.rule == d.rule) (d.depth == d.depth) (eq-eqb d.rule d.rule refl) (eq-eqb d.depth d.depth refl)

module_true : (m n : L.ModuleValue) → IsModuleName m.name → IsModuleName n.name → same_module m n ≡ true → m ≡ n
module_true m n u v h = let e : L.Module [] m ≡ L.Module [] n = same_symbol_true (L.Module [] m) (L.Module [] n) u v h in cc

three : (a b c : Bool) → a && (b && c) ≡ true → (a ≡ true) × (b ≡ true) × (c ≡ true)
three a b c h = let e = both a (b && c) h in let f = both b c e.1 in (e.0, f.0, f.1)

noted_true : (a b : Noted) → NamedNoted a → NamedNoted b → same_noted a b ≡ true → a ≡ b
noted_true (Compared d t m) (Compared e u n) v w h =
    let s = three (same_mark d e) (t == u) (same_module m n) h in
    let x = same_mark_true d e s.0 in let y = eqb-true t u s.1 in let z = module_true m n v w s.2 in λ i. Compared (x i) (y i) (z i)
noted_true (Ignored d t m) (Ignored e u n) v w h =
    let s = three (same_mark d e) (t == u) (same_module m n) h in
    let x = same_mark_true d e s.0 in let y = eqb-true t u s.1 in let z = module_true m n v w s.2 in λ i. Ignored (x i) (y i) (z i)
noted_true (Out d t) (Out e u) v w h =
    let s = both (same_mark d e) (t == u) h in let x = same_mark_true d e s.0 in let y = eqb-true t u s.1 in λ i. Out (x i) (y i)
noted_true (Branched d o c) (Branched e p q) v w h =
    let s = three (same_mark d e) (o == p) (c == q) h in
    let x = same_mark_true d e s.0 in let y = eqb-true o p s.1 in let z = eqb-true c q s.2 in λ i. Branched (x i) (y i) (z i)
noted_true a b v w h = cc

module_refl : (m : L.ModuleValue) → same_module m m ≡ true
module_refl m = same_symbol_refl (L.Module [] m)

noted_refl : (a : Noted) → same_noted a a ≡ true
noted_refl (Compared d t m) = and_true (same_mark d d) _ (same_mark_refl d) (and_true (t == t) (same_module m m) (eq-eqb t t refl) (module_refl m))
noted_refl (Ignored d t m) = and_true (same_mark d d) _ (same_mark_refl d) (and_true (t == t) (same_module m m) (eq-eqb t t refl) (module_refl m))
noted_refl (Out d t) = and_true (same_mark d d) (t == t) (same_mark_refl d) (eq-eqb t t refl)
noted_refl (Branched d o c) = and_true (same_mark d d) _ (same_mark_refl d) (and_true (o == o) (c == c) (eq-eqb o o refl) (eq-eqb c c refl))

pub traces_told : (f g : ℕ → List ℕ) (old new : List Noted) → AgreeTags f g old new → Each NamedNoted old → Each NamedNoted new
    → (same_all same_entry (map (entry_by f) old) (map (entry_by g) new) ≡ true) ↔ (old ≡ new)
traces_told f g old new h u v = (
  λ e. same_all_true same_noted NamedNoted noted_true old new u v (same_traces f g old new h ∙ e),
  λ e. sym (same_traces f g old new h) ∙ ap (same_trace old) (sym e) ∙ same_all_refl same_noted noted_refl old,
)
