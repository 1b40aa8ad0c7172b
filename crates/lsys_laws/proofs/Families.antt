-- Mates of a level and of the level above it.
use Rattle.std.proofs.Common.{◌≡◌, ◌⊎◌, inl, inr, ℕ, zero, suc, Bool, true, false, cond, List, [], ◌∷◌, ◌++◌, append_assoc, Option, Some, None, refl, ap, sym, ◌∙◌, subst, arith}
use Rattle.lsys_spec.specs.Rows.{In, AreApart}
use Rattle.lsys_laws.specs.Kinds.{BracketKind, Opens, Closes, Neither, stays, reached}
use Rattle.lsys_laws.specs.Mates.{closing, closer, AgreeOn, AreBalanced, AreOwn, below, AreMatesAmong, Generation, next_nodes, IsGeneration, AreMatesFrom, of_module, of_mates}
use Rattle.lsys_laws.proofs.Joints.{in_back, in_middle, in_either, IsSplit, split}
use Rattle.lsys_laws.proofs.Closers.{Found, open_before, closes, inside, ends_below}

-- a generation, and the level below it
record IsBelow (kind : ℕ → BracketKind) (own : ℕ → List ℕ) (cuts : ℕ → Bool) (ps ks : List ℕ) : Type 0 where
  pub is : ks ≡ below kind own cuts None ps
  pub balanced : AreBalanced kind 0 ps
  pub own_kinds : (p : ℕ) → In p ps → AreOwn kind (kind p) (own p)
  pub parents_apart : AreApart ps
  pub apart : AreApart ks
  pub one_parent : (p q k : ℕ) → In p ps → In q ps → In k (own p) → In k (own q) → p ≡ q

below_of : (g : Generation) → IsGeneration g → IsBelow g.kind g.own g.cuts g.nodes (next_nodes g)
below_of g h = record { is = refl; balanced = h.balanced; own_kinds = h.own_kinds; parents_apart = h.apart; apart = h.next_apart; one_parent = h.one_parent }

-- 1. where a node stands is one place

same_after : (a : List ℕ) (k : ℕ) (b c d : List ℕ) → AreApart (a ++ k ∷ b) → a ++ k ∷ b ≡ c ++ k ∷ d → b ≡ d
same_after [] k b [] d h e = cc
same_after [] k b (y ∷ c) d h e = let f : b ≡ c ++ k ∷ d = cc in absurd (h.0 (subst (In k) (sym f) (in_middle k c d)))
same_after (x ∷ a) k b [] d h e = let f : x ≡ k = cc in absurd (h.0 (subst (λ x. In x (a ++ k ∷ b)) (sym f) (in_middle k a b)))
same_after (x ∷ a) k b (y ∷ c) d h e = let f : a ++ k ∷ b ≡ c ++ k ∷ d = cc in same_after a k b c d h.1 f

ended_there : (kind : ℕ → BracketKind) (n : ℕ) (v : List ℕ) (j : ℕ) → closer kind n v ≡ Some j → In j v
ended_there kind n [] j e = cc
ended_there kind n (x ∷ v) j e = by (kind x) n e (λ m h. ended_there kind m v j h)
  where
    by : (k : BracketKind) (n : ℕ) → closing k n x (λ m. closer kind m v) ≡ Some j → ((m : ℕ) → closer kind m v ≡ Some j → In j v) → In j (x ∷ v)
    by Neither n e ih = inr (ih n e)
    by Opens n e ih = inr (ih (suc n) e)
    by Closes zero e ih = let f : x ≡ j = cc in inl (sym f)
    by Closes (suc n) e ih = inr (ih n e)

-- 2. the family of a node

record IsPiece (kind : ℕ → BracketKind) (own : ℕ → List ℕ) (cuts : ℕ → Bool) (o : Option ℕ) (ps : List ℕ) (k : ℕ) : Type 0 where
  pub parent : ℕ
  pub front : List ℕ
  pub rest : List ℕ
  pub whole : ps ≡ front ++ parent ∷ rest
  pub state : Option ℕ
  pub shown : stays state (kind parent) ≡ true
  pub among : In k (own parent)
  pub before : List ℕ
  pub is : below kind own cuts o ps ≡ before ++ (own parent ++ below kind own cuts (reached state (kind parent) (cuts parent)) rest)

piece_of : (kind : ℕ → BracketKind) (own : ℕ → List ℕ) (cuts : ℕ → Bool) (o : Option ℕ) (ps : List ℕ) (k : ℕ) → In k (below kind own cuts o ps) → IsPiece kind own cuts o ps k
piece_of kind own cuts o [] k i = absurd i
piece_of kind own cuts o (p ∷ ps) k i = which (in_either k c later i) (piece_of kind own cuts (reached o (kind p) (cuts p)) ps k)
  where
    c : List ℕ
    c = cond (stays o (kind p)) (own p) []

    later : List ℕ
    later = below kind own cuts (reached o (kind p) (cuts p)) ps

    here : (b : Bool) → stays o (kind p) ≡ b → In k (cond b (own p) []) → IsPiece kind own cuts o (p ∷ ps) k
    here true e j = record {
      parent = p;
      front = [];
      rest = ps;
      whole = refl;
      state = o;
      shown = e;
      among = j;
      before = [];
      is = ap (λ b. cond b (own p) [] ++ later) e;
    }
    here false e j = absurd j

    which : In k c ⊎ In k later → (In k later → IsPiece kind own cuts (reached o (kind p) (cuts p)) ps k) → IsPiece kind own cuts o (p ∷ ps) k
    which (inl j) ih = here (stays o (kind p)) refl j
    which (inr j) ih =
        let r = ih j in
        record {
          parent = r.parent;
          front = p ∷ r.front;
          rest = r.rest;
          whole = ap (λ ps. p ∷ ps) r.whole;
          state = r.state;
          shown = r.shown;
          among = r.among;
          before = c ++ r.before;
          is = ap (λ ks. c ++ ks) r.is ∙ sym (append_assoc c r.before (own r.parent ++ below kind own cuts (reached r.state (kind r.parent) (cuts r.parent)) r.rest));
        }

-- the children of a node among those of its level, as far as its own part of the level goes
record IsFamily (kind : ℕ → BracketKind) (own : ℕ → List ℕ) (cuts : ℕ → Bool) (ps ks : List ℕ) (q k : ℕ) : Type 0 where
  pub front : List ℕ
  pub rest : List ℕ
  pub whole : ps ≡ front ++ q ∷ rest
  pub state : Option ℕ
  pub shown : stays state (kind q) ≡ true
  pub among : In k (own q)
  pub before : List ℕ
  pub is : ks ≡ before ++ (own q ++ below kind own cuts (reached state (kind q) (cuts q)) rest)

family : (kind : ℕ → BracketKind) (own : ℕ → List ℕ) (cuts : ℕ → Bool) (ps ks : List ℕ) → IsBelow kind own cuts ps ks → (k : ℕ) → In k ks
    → (q : ℕ) × (In q ps) × IsFamily kind own cuts ps ks q k
family kind own cuts ps ks b k i =
    let r : IsPiece kind own cuts None ps k = piece_of kind own cuts None ps k (subst (In k) b.is i) in (
      r.parent,
      subst (In r.parent) (sym r.whole) (in_middle r.parent r.front r.rest),
      record { front = r.front; rest = r.rest; whole = r.whole; state = r.state; shown = r.shown; among = r.among; before = r.before; is = b.is ∙ r.is },
    )

family_of : (kind : ℕ → BracketKind) (own : ℕ → List ℕ) (cuts : ℕ → Bool) (ps ks : List ℕ) → IsBelow kind own cuts ps ks → (q k : ℕ) → In q ps → In k (own q) → In k ks
    → IsFamily kind own cuts ps ks q k
family_of kind own cuts ps ks b q k iq ik i =
    let r = family kind own cuts ps ks b k i in
    subst (λ q. IsFamily kind own cuts ps ks q k) (b.one_parent r.0 q k r.1 iq r.2.among ik) r.2

-- what stands after a child of this node, whose children are these
after_child : (kind : ℕ → BracketKind) (own : ℕ → List ℕ) (cuts : ℕ → Bool) (ps ks : List ℕ) (q k : ℕ) (u v : List ℕ) (f : IsFamily kind own cuts ps ks q k) → own q ≡ u ++ k ∷ v
    → ks ≡ (f.before ++ u) ++ k ∷ (v ++ below kind own cuts (reached f.state (kind q) (cuts q)) f.rest)
after_child kind own cuts ps ks q k u v f e =
    let later : List ℕ = below kind own cuts (reached f.state (kind q) (cuts q)) f.rest in
    f.is ∙ ap (λ ks. f.before ++ (ks ++ later)) e ∙ ap (λ ks. f.before ++ ks) (append_assoc u (k ∷ v) later) ∙ sym (append_assoc f.before u (k ∷ (v ++ later)))

-- and so what a mate of it ends
mate_after : (kind : ℕ → BracketKind) (own : ℕ → List ℕ) (cuts : ℕ → Bool) (ps ks : List ℕ) (q k j : ℕ) (u v : List ℕ) → AreApart ks → (f : IsFamily kind own cuts ps ks q k) → own q ≡ u ++ k ∷ v
    → AreMatesAmong kind ks k j → closer kind 0 (v ++ below kind own cuts (reached f.state (kind q) (cuts q)) f.rest) ≡ Some j
mate_after kind own cuts ps ks q k j u v a f e m =
    let later : List ℕ = v ++ below kind own cuts (reached f.state (kind q) (cuts q)) f.rest in
    let w : ks ≡ (f.before ++ u) ++ k ∷ later = after_child kind own cuts ps ks q k u v f e in
    let s : later ≡ m.after = same_after (f.before ++ u) k later m.before m.after (subst AreApart w a) (sym w ∙ m.whole) in ap (closer kind 0) s ∙ m.closes

-- 3. children of a module

in_module : (kind : ℕ → BracketKind) (q : ℕ) (ks : List ℕ) → kind q ≡ Neither → AreOwn kind (kind q) ks → AreBalanced kind 0 ks
in_module kind q ks e h = subst (λ k. AreOwn kind k ks) e h

in_modules : (kind kind' : ℕ → BracketKind) (own own' : ℕ → List ℕ) (cuts cuts' : ℕ → Bool) (ps ps' ks ks' : List ℕ) → IsBelow kind own cuts ps ks → IsBelow kind' own' cuts' ps' ks'
    → (q k j : ℕ) → In q ps → In q ps' → kind q ≡ Neither → own' q ≡ own q → AgreeOn kind kind' (own q) → In k (own q) → In k ks'
    → AreMatesAmong kind ks k j → AreMatesAmong kind' ks' k j
in_modules kind kind' own own' cuts cuts' ps ps' ks ks' b b' q k j i i' plain same agree ik there m =
    let s : IsSplit k (own q) = split k (own q) ik in
    let f : IsFamily kind own cuts ps ks q k = family_of kind own cuts ps ks b q k i ik (subst (In k) (sym m.whole) (in_middle k m.before m.after)) in
    let f' : IsFamily kind' own' cuts' ps' ks' q k = family_of kind' own' cuts' ps' ks' b' q k i' (subst (In k) (sym same) ik) there in
    let later : List ℕ = below kind own cuts (reached f.state (kind q) (cuts q)) f.rest in
    let later' : List ℕ = below kind' own' cuts' (reached f'.state (kind' q) (cuts' q)) f'.rest in
    let e : closer kind 0 (s.after ++ later) ≡ Some j = mate_after kind own cuts ps ks q k j s.before s.after b.apart f s.whole m in
    let n = inside kind s.before k s.after m.opens (subst (AreBalanced kind 0) s.whole (in_module kind q (own q) plain (b.own_kinds q i))) in
    let g : Some n.0 ≡ Some j = sym (n.1 kind later (λ x h. refl)) ∙ e in
    record {
      before = f'.before ++ s.before;
      after = s.after ++ later';
      whole = after_child kind' own' cuts' ps' ks' q k s.before s.after f' (same ∙ s.whole);
      opens = agree k ik ∙ m.opens;
      closes = n.1 kind' later' (λ x h. agree x (subst (In x) (sym s.whole) (in_back x s.before (k ∷ s.after) (inr h)))) ∙ g;
    }

-- 4. children of brackets

bracket : (kind : ℕ → BracketKind) (q : ℕ) (ks : List ℕ) → kind q ≡ Opens → AreOwn kind (kind q) ks → AreOwn kind Opens ks
bracket kind q ks e h = subst (λ k. AreOwn kind k ks) e h

only_one : (k j : ℕ) → In k (j ∷ []) → k ≡ j
only_one k j (inl e) = e
only_one k j (inr h) = absurd h

not_cut : (o : Option ℕ) (k : BracketKind) → k ≡ Opens → stays o k ≡ true → o ≡ None
not_cut o k e h = by o (ap (stays o) (sym e) ∙ h)
  where
    by : (o : Option ℕ) → stays o Opens ≡ true → o ≡ None
    by None h = refl
    by (Some n) h = cc

record IsEnded (kind : ℕ → BracketKind) (own : ℕ → List ℕ) (ks : List ℕ) (r k : ℕ) : Type 0 where
  pub child : ℕ
  pub only : own r ≡ child ∷ []
  pub mates : AreMatesAmong kind ks k child

-- the child of a bracket has a mate, which is the child of the bracket's mate
ended : (kind : ℕ → BracketKind) (own : ℕ → List ℕ) (cuts : ℕ → Bool) (ps ks : List ℕ) → IsBelow kind own cuts ps ks → (q r k : ℕ) → AreMatesAmong kind ps q r → IsFamily kind own cuts ps ks q k
    → IsEnded kind own ks r k
ended kind own cuts ps ks b q r k m f =
    let i : In q ps = subst (In q) (sym m.whole) (in_middle q m.before m.after) in
    let own_q = bracket kind q (own q) m.opens (b.own_kinds q i) in
    let here : k ≡ own_q.0 = only_one k own_q.0 (subst (In k) own_q.1 f.among) in
    let one : own q ≡ [] ++ k ∷ [] = own_q.1 ∙ ap (λ k. k ∷ []) (sym here) in
    let rest : f.rest ≡ m.after = same_after f.front q f.rest m.before m.after (subst AreApart f.whole b.parents_apart) (sym f.whole ∙ m.whole) in
    let e : closer kind 0 f.rest ≡ Some r = ap (closer kind 0) rest ∙ m.closes in
    let w : (p : ℕ) → In p f.rest → AreOwn kind (kind p) (own p) = λ p h. b.own_kinds p (subst (In p) (sym f.whole) (in_back p f.front (q ∷ f.rest) (inr h))) in
    let n = ends_below kind own cuts f.rest r w e in
    let state : reached f.state (kind q) (cuts q) ≡ None = ap (λ o. reached o (kind q) (cuts q)) (not_cut f.state (kind q) m.opens f.shown) ∙ ap (λ k. reached None k (cuts q)) m.opens in
    record {
      child = n.0;
      only = n.1;
      mates = record {
        before = f.before ++ [];
        after = [] ++ below kind own cuts (reached f.state (kind q) (cuts q)) f.rest;
        whole = after_child kind own cuts ps ks q k [] [] f one;
        opens = ap kind here ∙ own_q.2;
        closes = ap (λ o. closer kind 0 (below kind own cuts o f.rest)) state ∙ n.2;
      };
    }

one_mate : (kind : ℕ → BracketKind) (ks : List ℕ) (k i j : ℕ) → AreApart ks → AreMatesAmong kind ks k i → AreMatesAmong kind ks k j → i ≡ j
one_mate kind ks k i j a m n =
    let s : m.after ≡ n.after = same_after m.before k m.after n.before n.after (subst AreApart m.whole a) (sym m.whole ∙ n.whole) in
    let e : Some i ≡ Some j = sym m.closes ∙ ap (closer kind 0) s ∙ n.closes in cc

in_brackets : (kind kind' : ℕ → BracketKind) (own own' : ℕ → List ℕ) (cuts cuts' : ℕ → Bool) (ps ps' ks ks' : List ℕ) → IsBelow kind own cuts ps ks → IsBelow kind' own' cuts' ps' ks'
    → (q r k j : ℕ) → AreMatesAmong kind ps q r → AreMatesAmong kind' ps' q r → own' q ≡ own q → own' r ≡ own r → In k (own q) → In k ks'
    → AreMatesAmong kind ks k j → AreMatesAmong kind' ks' k j
in_brackets kind kind' own own' cuts cuts' ps ps' ks ks' b b' q r k j mq mq' same same_r ik there m =
    let i : In q ps = subst (In q) (sym mq.whole) (in_middle q mq.before mq.after) in
    let i' : In q ps' = subst (In q) (sym mq'.whole) (in_middle q mq'.before mq'.after) in
    let f : IsFamily kind own cuts ps ks q k = family_of kind own cuts ps ks b q k i ik (subst (In k) (sym m.whole) (in_middle k m.before m.after)) in
    let f' : IsFamily kind' own' cuts' ps' ks' q k = family_of kind' own' cuts' ps' ks' b' q k i' (subst (In k) (sym same) ik) there in
    let n : IsEnded kind own ks r k = ended kind own cuts ps ks b q r k mq f in
    let n' : IsEnded kind' own' ks' r k = ended kind' own' cuts' ps' ks' b' q r k mq' f' in
    let old : n.child ≡ j = one_mate kind ks k n.child j b.apart n.mates m in
    let lists : n'.child ∷ [] ≡ n.child ∷ [] = sym n'.only ∙ same_r ∙ n.only in
    let new : n'.child ≡ n.child = cc in
    subst (AreMatesAmong kind' ks' k) (new ∙ old) n'.mates

-- 5. where mates come from

pub mates_from : (g : Generation) → IsGeneration g → (k j : ℕ) → AreMatesAmong g.kind (next_nodes g) k j → AreMatesFrom g k j
mates_from g h k j m = by (family g.kind g.own g.cuts g.nodes (next_nodes g) (below_of g h) k (subst (In k) (sym m.whole) (in_middle k m.before m.after)))
  where
    kind : ℕ → BracketKind
    kind = g.kind

    own : ℕ → List ℕ
    own = g.own

    cuts : ℕ → Bool
    cuts = g.cuts

    ps : List ℕ
    ps = g.nodes

    ks : List ℕ
    ks = next_nodes g

    b : IsBelow kind own cuts ps ks
    b = below_of g h

    by : (q : ℕ) × (In q ps) × IsFamily kind own cuts ps ks q k → AreMatesFrom g k j
    by r = to (kind q) refl
      where
        q : ℕ
        q = r.0

        i : In q ps
        i = r.1

        f : IsFamily kind own cuts ps ks q k
        f = r.2

        to : (d : BracketKind) → kind q ≡ d → AreMatesFrom g k j
        to Neither e =
            let s : IsSplit k (own q) = split k (own q) f.among in
            let later : List ℕ = below kind own cuts (reached f.state (kind q) (cuts q)) f.rest in
            let c : closer kind 0 (s.after ++ later) ≡ Some j = mate_after kind own cuts ps ks q k j s.before s.after b.apart f s.whole m in
            let n = inside kind s.before k s.after m.opens (subst (AreBalanced kind 0) s.whole (in_module kind q (own q) e (b.own_kinds q i))) in
            let c' : Some n.0 ≡ Some j = sym (n.1 kind later (λ x h. refl)) ∙ c in
            let ends : closer kind 0 (s.after ++ []) ≡ Some j = n.1 kind [] (λ x h. refl) ∙ c' in
            of_module q i e f.among (subst (In j) (sym s.whole) (in_back j s.before (k ∷ s.after) (inr (of_front j s.after (ended_there kind 0 (s.after ++ []) j ends)))))
          where
            of_front : (j : ℕ) (v : List ℕ) → In j (v ++ []) → In j v
            of_front j v i = end (in_either j v [] i)
              where
                end : In j v ⊎ In j [] → In j v
                end (inl i) = i
                end (inr i) = absurd i
        to Opens e =
            let d = open_before kind 0 f.front q f.rest e (subst (AreBalanced kind 0) f.whole b.balanced) in
            let r : Found (closer kind 0 f.rest) = closes kind 0 (suc d.count) f.rest d.rest (omega arith) in
            let mq : AreMatesAmong kind ps q r.node = record { before = f.front; after = f.rest; whole = f.whole; opens = e; closes = r.is } in
            let n : IsEnded kind own ks r.node k = ended kind own cuts ps ks b q r.node k mq f in
            let own_q = bracket kind q (own q) e (b.own_kinds q i) in
            let here : k ≡ own_q.0 = only_one k own_q.0 (subst (In k) own_q.1 f.among) in
            let same : n.child ≡ j = one_mate kind ks k n.child j b.apart n.mates m in
            of_mates q r.node mq (own_q.1 ∙ ap (λ k. k ∷ []) (sym here)) (n.only ∙ ap (λ j. j ∷ []) same)
        to Closes e =
            let own_q : AreOwn kind Closes (own q) = subst (λ k. AreOwn kind k (own q)) e (b.own_kinds q i) in
            let here : k ≡ own_q.0 = only_one k own_q.0 (subst (In k) own_q.1 f.among) in
            let no : Opens ≡ Closes = sym m.opens ∙ ap kind here ∙ own_q.2 in cc

-- 6. two generations

pub same_in_module : (old new : Generation) → IsGeneration old → IsGeneration new → (q k j : ℕ) → In q old.nodes → In q new.nodes → old.kind q ≡ Neither → new.own q ≡ old.own q
    → AgreeOn old.kind new.kind (old.own q) → In k (old.own q) → In k (next_nodes new) → AreMatesAmong old.kind (next_nodes old) k j → AreMatesAmong new.kind (next_nodes new) k j
same_in_module old new h h' q k j =
    in_modules old.kind new.kind old.own new.own old.cuts new.cuts old.nodes new.nodes (next_nodes old) (next_nodes new) (below_of old h) (below_of new h') q k j

pub same_of_mates : (old new : Generation) → IsGeneration old → IsGeneration new → (q r k j : ℕ) → AreMatesAmong old.kind old.nodes q r → AreMatesAmong new.kind new.nodes q r
    → new.own q ≡ old.own q → new.own r ≡ old.own r → In k (old.own q) → In k (next_nodes new) → AreMatesAmong old.kind (next_nodes old) k j → AreMatesAmong new.kind (next_nodes new) k j
same_of_mates old new h h' q r k j =
    in_brackets old.kind new.kind old.own new.own old.cuts new.cuts old.nodes new.nodes (next_nodes old) (next_nodes new) (below_of old h) (below_of new h') q r k j
