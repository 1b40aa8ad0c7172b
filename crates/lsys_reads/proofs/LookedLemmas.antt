-- A node that was not looked at has the seat that it had.
use Rattle.std.proofs.Common.{◌≡◌, ◌⊎◌, ◌+◌, ℕ, List, [], ◌∷◌, map, slice_get, Option, Some, None, refl, sym, ap, ◌∙◌, subst, inl, inr}
use Rattle.std.specs.Prelude.{option_map}
use Rattle.std.proofs.lemmas.List.{append-nil}
use Rattle.std.proofs.lemmas.Option.{none-some, same_Some, slice_get-map}
use Rattle.lsys_spec.specs.Rows.{In, flat}
use Rattle.lsys_spec.specs.Levels.{ModuleValue, LevelSymbol, Push, Pop, Module, AreMates, IsLevel}
use Rattle.lsys_level.specs.Spots as V
use Rattle.lsys_level.specs.Spots.{Seen, with_lineage, named}
use Rattle.lsys_laws.specs.Kinds.{BracketKind, Opens, Closes, Neither, kind_of_symbol}
use Rattle.lsys_laws.specs.Seams.{node_before}
use Rattle.lsys_laws.specs.Mates.{closer, AreBalanced, AreMatesAmong, Generation, next_nodes, AreMatesBelow}
use Rattle.lsys_laws.proofs.Closers.{inside, there}
use Rattle.lsys_laws.proofs.Joints.{split}
use Rattle.lsys_laws.proofs.Placed.{got_in}
use Rattle.lsys_laws.proofs.Mirrors.{right_neighbour, left_neighbour}
use Rattle.lsys_forest.specs.Nodes.{Nodes}
use Rattle.lsys_forest.specs.Groves.{Grove, now_of}
use Rattle.lsys_forest.specs.Rows.{spot_in}
use Rattle.lsys_reads.specs.Neighbours.{neighbours_on, numbered_level, mate_on}
use Rattle.lsys_reads.specs.Looks.{AreLookedSeats, kids_of_level, numbered_symbol, kind_in}
use Rattle.lsys_reads.proofs.LevelLemmas.{symbol_at, named_by_number, mates_ahead, mates_after, mates_none}
use Rattle.lsys_reads.proofs.LawLemmas.{among}
use Rattle.lsys_reads.proofs.LookLemmas.{right_looked, left_looked}
use Rattle.lsys_reads.proofs.BranchLemmas.{opener_looked, closer_looked, kind_looked}

-- what is seen of a symbol of this kind
seen_kind : (l : List ℕ) (e : Seen) → kind_of_symbol (with_lineage l e) ≡ Neither → (v : ModuleValue) × (e ≡ V.Module v)
seen_kind l V.Push h = absurd (let g : Opens ≡ Neither = h in cc)
seen_kind l V.Pop h = absurd (let g : Closes ≡ Neither = h in cc)
seen_kind l (V.Module v) h = (v, refl)

-- the mate of an opening bracket of a balanced level
pub opener_has : (kind : ℕ → BracketKind) (ks : List ℕ) (k : ℕ) → AreBalanced kind 0 ks → In k ks → kind k ≡ Opens → (j : ℕ) × AreMatesAmong kind ks k j
opener_has kind ks k b i e =
    let s = split k ks i in
    let j = inside kind s.before k s.after e (subst (AreBalanced kind 0) s.whole b) in
    (j.0, record { before = s.before; after = s.after; whole = s.whole; opens = e; closes = ap (closer kind 0) (sym (append-nil s.after)) ∙ j.1 kind [] (λ x h. refl) })

module _ {A : Type 0} where
  symbols : (m : Nodes A) (ks : List ℕ) → map (numbered_symbol m) ks ≡ numbered_level m ks
  symbols m [] = refl
  symbols m (k ∷ ks) = ap (λ (l : List LevelSymbol). numbered_symbol m k ∷ l) (symbols m ks)

  one_place : (m : Nodes A) (ks : List ℕ) → IsLevel (numbered_level m ks) → (p q k : ℕ) → slice_get ks p ≡ Some k → slice_get ks q ≡ Some k → p ≡ q
  one_place m ks h p q k i j = h.apart p q (numbered_symbol m k) (numbered_symbol m k) (symbol_at (λ k. k ∷ []) m ks p k i) (symbol_at (λ k. k ∷ []) m ks q k j) refl

  -- brackets that are mates by their kinds tell one another
  pub open_mate : (m : Nodes A) (ks : List ℕ) (k j p : ℕ) → IsLevel (numbered_level m ks) → AreMatesAmong (kind_in m) ks k j → slice_get ks p ≡ Some k → mate_on m ks p ≡ Some j
  open_mate m ks k j p h mates here =
      let t = there (numbered_symbol m) ks k j mates in
      let a : AreMates (numbered_level m ks) t.place t.end = subst (λ x. AreMates x t.place t.end) (symbols m ks) t.mates in
      mates_ahead m ks p t.end j (subst (λ p. AreMates (numbered_level m ks) p t.end) (one_place m ks h t.place p k t.opens here) a) t.closes

  pub close_mate : (m : Nodes A) (ks : List ℕ) (k j p : ℕ) → IsLevel (numbered_level m ks) → AreMatesAmong (kind_in m) ks k j → slice_get ks p ≡ Some j → mate_on m ks p ≡ Some k
  close_mate m ks k j p h mates here =
      let t = there (numbered_symbol m) ks k j mates in
      let a : AreMates (numbered_level m ks) t.place t.end = subst (λ x. AreMates x t.place t.end) (symbols m ks) t.mates in
      mates_after m ks p t.place k (subst (λ q. AreMates (numbered_level m ks) t.place q) (one_place m ks h t.end p j t.closes here) a) t.opens

  no_mates : (m : Nodes A) (ks : List ℕ) (k p : ℕ) → kind_in m k ≡ Neither → slice_get ks p ≡ Some k → mate_on m ks p ≡ None
  no_mates m ks k p e here =
      let v = seen_kind (k ∷ []) (spot_in k (m k)).seen (ap kind_of_symbol (sym (named_by_number (λ k. k ∷ []) k (m k))) ∙ e) in
      mates_none m ks p k v.0 here v.1

  symbol_kind : (m : Nodes A) (ks : List ℕ) (p k : ℕ) (s : LevelSymbol) → slice_get ks p ≡ Some k → slice_get (numbered_level m ks) p ≡ Some s → kind_in m k ≡ kind_of_symbol s
  symbol_kind m ks p k s here is = ap kind_of_symbol (same_Some (numbered_symbol m k) s (sym (symbol_at (λ k. k ∷ []) m ks p k here) ∙ is))

  pub node_at : (m : Nodes A) (ks : List ℕ) (p : ℕ) (s : LevelSymbol) → slice_get (numbered_level m ks) p ≡ Some s → (k : ℕ) × (slice_get ks p ≡ Some k)
  node_at m ks p s is = by (slice_get ks p) refl
    where
      by : (o : Option ℕ) → slice_get ks p ≡ o → (k : ℕ) × (slice_get ks p ≡ Some k)
      by None e = absurd (none-some s (sym (slice_get-map (named (λ k. k ∷ [])) (map (λ k. spot_in k (m k)) ks) p ∙ ap (option_map (named (λ k. k ∷ []))) (slice_get-map (λ k. spot_in k (m k)) ks p ∙ ap (option_map (λ k. spot_in k (m k))) e)) ∙ is))
      by (Some k) e = (k, e)

  -- the mate of a closing bracket
  pub closer_has : (m : Nodes A) (ks : List ℕ) (k p : ℕ) → IsLevel (numbered_level m ks) → AreBalanced (kind_in m) 0 ks → slice_get ks p ≡ Some k → kind_in m k ≡ Closes → (i : ℕ) × AreMatesAmong (kind_in m) ks i k
  closer_has m ks k p h b here e = by (numbered_symbol m k) refl
    where
      by : (s : LevelSymbol) → numbered_symbol m k ≡ s → (i : ℕ) × AreMatesAmong (kind_in m) ks i k
      by (Push l) is = absurd (let g : Opens ≡ Closes = ap kind_of_symbol (sym is) ∙ e in cc)
      by (Module l v) is = absurd (let g : Neither ≡ Closes = ap kind_of_symbol (sym is) ∙ e in cc)
      by (Pop l) is =
          let q = h.closes p l (symbol_at (λ k. k ∷ []) m ks p k here ∙ ap Some is) in
          let o = q.2.opens in
          let i = node_at m ks q.0 (Push o.0) o.1 in
          let j = opener_has (kind_in m) ks i.0 b (got_in ks q.0 i.0 i.1) (symbol_kind m ks q.0 i.0 (Push o.0) i.1 o.1) in
          let same : j.0 ≡ k = same_Some j.0 k (sym (open_mate m ks i.0 j.0 q.0 h j.1 i.1) ∙ mates_ahead m ks q.0 p k q.2 here) in
          (i.0, subst (AreMatesAmong (kind_in m) ks i.0) same j.1)

module _ {A : Type 0} (o : Nodes A) (f : Grove A) (t : ℕ) (own : ℕ → List ℕ) (xs : List ℕ) (old new : Generation) (touched turned looked : List ℕ) (l : AreLookedSeats o f t own xs old new touched turned looked) where
  abbrev was : List ℕ
  was = flat own xs

  abbrev is : List ℕ
  is = kids_of_level f t

  old_mates : (k j : ℕ) → AreMatesAmong (kind_in o) was k j → AreMatesBelow old k j
  old_mates k j m = subst (λ kind. AreMatesAmong kind (next_nodes old) k j) (sym l.old_kinds) (subst (λ ks. AreMatesAmong (kind_in o) ks k j) (sym l.old_next) m)

  new_mates : (k j : ℕ) → AreMatesBelow new k j → AreMatesAmong (kind_in (now_of f)) is k j
  new_mates k j m = subst (λ ks. AreMatesAmong (kind_in (now_of f)) ks k j) l.new_next (subst (λ kind. AreMatesAmong kind (next_nodes new) k j) l.new_kinds m)

  balanced : AreBalanced (kind_in o) 0 was
  balanced = subst (λ ks. AreBalanced (kind_in o) 0 ks) l.old_next (subst (λ kind. AreBalanced kind 0 (next_nodes old)) l.old_kinds l.old_balanced)

  there_now : (q k : ℕ) → slice_get is q ≡ Some k → In k (next_nodes new)
  there_now q k h = subst (In k) (sym l.new_next) (got_in is q k h)

  same_kind : (k : ℕ) → new.kind k ≡ old.kind k → kind_in (now_of f) k ≡ kind_in o k
  same_kind k e = ap (λ kind. kind k) (sym l.new_kinds) ∙ e ∙ ap (λ kind. kind k) l.old_kinds

  mate_by : (e : BracketKind) (p q k : ℕ) → slice_get was p ≡ Some k → slice_get is q ≡ Some k → kind_in o k ≡ e → kind_in (now_of f) k ≡ e → In k looked ⊎ (mate_on (now_of f) is q ≡ mate_on o was p)
  mate_by Neither p q k hp hq e e' = inr (no_mates (now_of f) is k q e' hq ∙ sym (no_mates o was k p e hp))
  mate_by Opens p q k hp hq e e' =
      let j = opener_has (kind_in o) was k balanced (got_in was p k hp) e in
      elim (opener_looked old new touched turned looked l.mates k j.0 (old_mates k j.0 j.1) (there_now q k hq)) [
        | inl h ↦ inl (among k looked h)
        | inr m ↦ inr (open_mate (now_of f) is k j.0 q l.new_level (new_mates k j.0 m) hq ∙ sym (open_mate o was k j.0 p l.old_level j.1 hp))
      ]
  mate_by Closes p q k hp hq e e' =
      let i = closer_has o was k p l.old_level balanced hp e in
      elim (closer_looked old new touched turned looked l.mates i.0 k (old_mates i.0 k i.1) (there_now q k hq)) [
        | inl h ↦ inl (among k looked h)
        | inr m ↦ inr (close_mate (now_of f) is i.0 k q l.new_level (new_mates i.0 k m) hq ∙ sym (close_mate o was i.0 k p l.old_level i.1 hp))
      ]

  mate_looked : (p q k : ℕ) → slice_get was p ≡ Some k → slice_get is q ≡ Some k → In k looked ⊎ (mate_on (now_of f) is q ≡ mate_on o was p)
  mate_looked p q k hp hq = elim (kind_looked old new touched turned looked l.mates k (there_now q k hq)) [
    | inl h ↦ inl (among k looked h)
    | inr e ↦ mate_by (kind_in o k) p q k hp hq refl (same_kind k e)
  ]

pub seat_looked : {A : Type 0} (o : Nodes A) (f : Grove A) (t : ℕ) (own : ℕ → List ℕ) (xs : List ℕ) (old new : Generation) (touched turned looked : List ℕ) → AreLookedSeats o f t own xs old new touched turned looked
    → (p q k : ℕ) → slice_get (flat own xs) p ≡ Some k → slice_get (kids_of_level f t) q ≡ Some k
    → In k looked ⊎ (neighbours_on (now_of f) (kids_of_level f t) q ≡ neighbours_on o (flat own xs) p)
seat_looked o f t own xs old new touched turned looked l p q k hp hq =
    let is = kids_of_level f t in
    let was = flat own xs in
    let i = got_in is q k hq in
    let c = l.nodes.changed in
    elim (right_looked f t own xs touched turned looked l.nodes l.right k i) [
      | inl h ↦ inl h
      | inr r ↦ elim (left_looked f t own xs touched turned looked l.nodes l.left k i) [
        | inl h ↦ inl h
        | inr e ↦ elim (mate_looked o f t own xs old new touched turned looked l p q k hp hq) [
          | inl h ↦ inl h
          | inr m ↦
              let right : slice_get is (q + 1) ≡ slice_get was (p + 1) = sym (right_neighbour is q k c.new_kids hq) ∙ sym r ∙ right_neighbour was p k c.old_kids hp in
              let left : node_before is q ≡ node_before was p = sym (left_neighbour is q k c.new_kids hq) ∙ sym e ∙ left_neighbour was p k c.old_kids hp in
              inr (λ i. record { left = left i; right = right i; mate = m i })
        ]
      ]
    ]
