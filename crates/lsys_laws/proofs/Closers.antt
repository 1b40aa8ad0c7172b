-- Which bracket ends a branch, level by level.
use Rattle.std.proofs.Common.{◌≡◌, ℕ, zero, suc, ◌+◌, ◌<◌, Bool, true, false, cond, List, [], ◌∷◌, ◌++◌, length, map, drop, Option, Some, None, inl, inr, refl, ap, sym, ◌∙◌, subst, arith}
use Rattle.std.specs.Prelude.{option_map, slice_get}
use Rattle.lsys_spec.specs.Rows.{In}
use Rattle.lsys_spec.specs.Levels.{LevelSymbol, Push, Pop, Module, close_of, AreMates}
use Rattle.lsys_laws.specs.Kinds.{BracketKind, Opens, Closes, Neither, kind_of_symbol, stays, reached}
use Rattle.lsys_laws.specs.Mates.{closing, closer, AgreeOn, balancing, AreBalanced, AreOwn, below, AreMatesAmong, AreMatesThere}

pub record Found (o : Option ℕ) : Type 0 where
  pub node : ℕ
  pub is : o ≡ Some node

-- 1. inside a balanced list

stays_found : (k : BracketKind) (n x j : ℕ) (f g : ℕ → Option ℕ) → ((m : ℕ) → f m ≡ Some j → g m ≡ Some j) → closing k n x f ≡ Some j → closing k n x g ≡ Some j
stays_found Neither n x j f g h e = h n e
stays_found Opens n x j f g h e = h (suc n) e
stays_found Closes zero x j f g h e = e
stays_found Closes (suc n) x j f g h e = h n e

found_in_front : (kind : ℕ → BracketKind) (n : ℕ) (v rest : List ℕ) (j : ℕ) → closer kind n v ≡ Some j → closer kind n (v ++ rest) ≡ Some j
found_in_front kind n [] rest j e = cc
found_in_front kind n (x ∷ v) rest j e = stays_found (kind x) n x j (λ m. closer kind m v) (λ m. closer kind m (v ++ rest)) (λ m i. found_in_front kind m v rest j i) e

closes_by : (k : BracketKind) (n b x : ℕ) (f : ℕ → Option ℕ) (B : ℕ → Type 0) → ((m c : ℕ) → B c → m < c → Found (f m)) → balancing k b B → n < b → Found (closing k n x f)
closes_by Neither n b x f B h e i = h n b e i
closes_by Opens n b x f B h e i = h (suc n) (suc b) e (omega (arith, i))
closes_by Closes n zero x f B h e i = absurd e
closes_by Closes zero (suc b) x f B h e i = record { node = x; is = refl }
closes_by Closes (suc n) (suc b) x f B h e i = h n b e (omega (arith, i))

pub closes : (kind : ℕ → BracketKind) (n b : ℕ) (v : List ℕ) → AreBalanced kind b v → n < b → Found (closer kind n v)
closes kind n b [] e i = absurd (omega (arith, e, i))
closes kind n b (x ∷ v) e i = closes_by (kind x) n b x (λ m. closer kind m v) (λ m. AreBalanced kind m v) (λ m c h j. closes kind m c v h j) e i

pub record OpenBefore (kind : ℕ → BracketKind) (v : List ℕ) : Type 0 where
  pub count : ℕ
  pub rest : AreBalanced kind (suc count) v

open_by : (kind : ℕ → BracketKind) (v : List ℕ) (k : BracketKind) (b : ℕ) (B : ℕ → Type 0) → ((m : ℕ) → B m → OpenBefore kind v) → balancing k b B → OpenBefore kind v
open_by kind v Neither b B h e = h b e
open_by kind v Opens b B h e = h (suc b) e
open_by kind v Closes zero B h e = absurd e
open_by kind v Closes (suc b) B h e = h b e

pub open_before : (kind : ℕ → BracketKind) (b : ℕ) (u : List ℕ) (k : ℕ) (v : List ℕ) → kind k ≡ Opens → AreBalanced kind b (u ++ k ∷ v) → OpenBefore kind v
open_before kind b [] k v o e = record { count = b; rest = subst (λ d. balancing d b (λ m. AreBalanced kind m v)) o e }
open_before kind b (x ∷ u) k v o e = open_by kind v (kind x) b (λ m. AreBalanced kind m (u ++ k ∷ v)) (λ m h. open_before kind m u k v o h) e

same_by : (k : BracketKind) (n x : ℕ) (f g : ℕ → Option ℕ) → ((m : ℕ) → f m ≡ g m) → closing k n x f ≡ closing k n x g
same_by Neither n x f g h = h n
same_by Opens n x f g h = h (suc n)
same_by Closes zero x f g h = refl
same_by Closes (suc n) x f g h = h n

same_closer : (kind kind' : ℕ → BracketKind) (n : ℕ) (v : List ℕ) → AgreeOn kind kind' v → closer kind' n v ≡ closer kind n v
same_closer kind kind' n [] h = refl
same_closer kind kind' n (x ∷ v) h =
    ap (λ k. closing k n x (λ m. closer kind' m v)) (h x (inl refl))
    ∙ same_by (kind x) n x (λ m. closer kind' m v) (λ m. closer kind m v) (λ m. same_closer kind kind' m v (λ y i. h y (inr i)))

pub inside : (kind : ℕ → BracketKind) (u : List ℕ) (k : ℕ) (v : List ℕ) → kind k ≡ Opens → AreBalanced kind 0 (u ++ k ∷ v)
    → (j : ℕ) × ((kind' : ℕ → BracketKind) (rest : List ℕ) → AgreeOn kind kind' v → closer kind' 0 (v ++ rest) ≡ Some j)
inside kind u k v o e =
    let p : OpenBefore kind v = open_before kind 0 u k v o e in
    let f : Found (closer kind 0 v) = closes kind 0 (suc p.count) v p.rest (omega arith) in
    (f.node, λ kind' rest h. found_in_front kind' 0 v rest f.node (same_closer kind kind' 0 v h ∙ f.is))

-- 2. past a balanced list

past_by : (k : BracketKind) (a b x : ℕ) (f : ℕ → Option ℕ) (B : ℕ → Type 0) (o : Option ℕ) → ((c : ℕ) → B c → f (a + c) ≡ o) → balancing k b B → closing k (a + b) x f ≡ o
past_by Neither a b x f B o h e = h b e
past_by Opens a b x f B o h e = let i : suc (a + b) ≡ a + suc b = omega arith in ap f i ∙ h (suc b) e
past_by Closes a zero x f B o h e = absurd e
past_by Closes a (suc b) x f B o h e = let i : a + suc b ≡ suc (a + b) = omega arith in ap (λ n. closing Closes n x f) i ∙ h b e

past : (kind : ℕ → BracketKind) (a b : ℕ) (zs rest : List ℕ) → AreBalanced kind b zs → closer kind (a + b) (zs ++ rest) ≡ closer kind a rest
past kind a b [] rest e = let i : a + b ≡ a = omega (arith, e) in ap (λ n. closer kind n rest) i
past kind a b (x ∷ zs) rest e = past_by (kind x) a b x (λ m. closer kind m (zs ++ rest)) (λ m. AreBalanced kind m zs) (closer kind a rest) (λ c h. past kind a c zs rest h) e

-- 3. from a level to the one below it

abbrev dead : Option ℕ → ℕ
dead None = 0
dead (Some n) = n

-- the branch that is ended by r on the level is ended by its child below
pub record Ends (kind : ℕ → BracketKind) (own : ℕ → List ℕ) (cuts : ℕ → Bool) (o : Option ℕ) (ps : List ℕ) (a r : ℕ) : Type 0 where
  pub child : ℕ
  pub only : own r ≡ child ∷ []
  pub is : closer kind a (below kind own cuts o ps) ≡ Some child

one_more : (kind : ℕ → BracketKind) (own : ℕ → List ℕ) (cuts : ℕ → Bool) (o : Option ℕ) (p : ℕ) (ps : List ℕ) (a r : ℕ) (k : BracketKind) → AreOwn kind k (own p)
    → ((o' : Option ℕ) (a' : ℕ) → closer kind (a' + dead o') ps ≡ Some r → Ends kind own cuts o' ps a' r) → closing k (a + dead o) p (λ m. closer kind m ps) ≡ Some r
    → (j : ℕ) × (own r ≡ j ∷ []) × (closer kind a ((cond (stays o k) (own p) []) ++ below kind own cuts (reached o k (cuts p)) ps) ≡ Some j)
one_more kind own cuts None p ps a r Neither w ih e =
    let o' : Option ℕ = reached None Neither (cuts p) in
    let none : dead o' ≡ 0 = no_dead (cuts p) in
    let i : a + 0 ≡ a + dead o' = omega (arith, none) in
    let n : Ends kind own cuts o' ps a r = ih o' a (ap (λ n. closer kind n ps) (sym i) ∙ e) in
    let z : a + 0 ≡ a = omega arith in
    (n.child, n.only, ap (λ n. closer kind n (own p ++ below kind own cuts o' ps)) (sym z) ∙ past kind a 0 (own p) (below kind own cuts o' ps) w ∙ n.is)
  where
    no_dead : (b : Bool) → dead (reached None Neither b) ≡ 0
    no_dead true = refl
    no_dead false = refl
one_more kind own cuts (Some m) p ps a r Neither w ih e = let n = ih (Some m) a e in (n.child, n.only, n.is)
one_more kind own cuts None p ps a r Opens w ih e =
    let i : suc (a + 0) ≡ suc a + 0 = omega arith in
    let n : Ends kind own cuts None ps (suc a) r = ih None (suc a) (ap (λ n. closer kind n ps) (sym i) ∙ e) in
    (n.child, n.only, ap (λ ks. closer kind a (ks ++ below kind own cuts None ps)) w.1 ∙ ap (λ k. closing k a w.0 (λ m. closer kind m (below kind own cuts None ps))) w.2 ∙ n.is)
one_more kind own cuts (Some m) p ps a r Opens w ih e =
    let i : suc (a + m) ≡ a + suc m = omega arith in
    let n : Ends kind own cuts (Some (suc m)) ps a r = ih (Some (suc m)) a (ap (λ n. closer kind n ps) (sym i) ∙ e) in (n.child, n.only, n.is)
one_more kind own cuts None p ps zero r Closes w ih e =
    let z : 0 + 0 ≡ 0 = omega arith in
    let f : Some p ≡ Some r = ap (λ n. closing Closes n p (λ m. closer kind m ps)) (sym z) ∙ e in
    let g : p ≡ r = cc in
    (w.0, ap own (sym g) ∙ w.1, ap (λ ks. closer kind 0 (ks ++ below kind own cuts None ps)) w.1 ∙ ap (λ k. closing k 0 w.0 (λ m. closer kind m (below kind own cuts None ps))) w.2)
one_more kind own cuts None p ps (suc a) r Closes w ih e =
    let i : suc a + 0 ≡ suc (a + 0) = omega arith in
    let f : closer kind (a + 0) ps ≡ Some r = ap (λ n. closing Closes n p (λ m. closer kind m ps)) (sym i) ∙ e in
    let n : Ends kind own cuts None ps a r = ih None a f in
    (n.child, n.only, ap (λ ks. closer kind (suc a) (ks ++ below kind own cuts None ps)) w.1 ∙ ap (λ k. closing k (suc a) w.0 (λ m. closer kind m (below kind own cuts None ps))) w.2 ∙ n.is)
one_more kind own cuts (Some zero) p ps zero r Closes w ih e =
    let z : 0 + 0 ≡ 0 = omega arith in
    let f : Some p ≡ Some r = ap (λ n. closing Closes n p (λ m. closer kind m ps)) (sym z) ∙ e in
    let g : p ≡ r = cc in
    (w.0, ap own (sym g) ∙ w.1, ap (λ ks. closer kind 0 (ks ++ below kind own cuts None ps)) w.1 ∙ ap (λ k. closing k 0 w.0 (λ m. closer kind m (below kind own cuts None ps))) w.2)
one_more kind own cuts (Some zero) p ps (suc a) r Closes w ih e =
    let i : suc a + 0 ≡ suc (a + 0) = omega arith in
    let f : closer kind (a + 0) ps ≡ Some r = ap (λ n. closing Closes n p (λ m. closer kind m ps)) (sym i) ∙ e in
    let n : Ends kind own cuts None ps a r = ih None a f in
    (n.child, n.only, ap (λ ks. closer kind (suc a) (ks ++ below kind own cuts None ps)) w.1 ∙ ap (λ k. closing k (suc a) w.0 (λ m. closer kind m (below kind own cuts None ps))) w.2 ∙ n.is)
one_more kind own cuts (Some (suc m)) p ps a r Closes w ih e =
    let i : a + suc m ≡ suc (a + m) = omega arith in
    let n : Ends kind own cuts (Some m) ps a r = ih (Some m) a (ap (λ n. closing Closes n p (λ m. closer kind m ps)) (sym i) ∙ e) in (n.child, n.only, n.is)

pub ends : (kind : ℕ → BracketKind) (own : ℕ → List ℕ) (cuts : ℕ → Bool) (o : Option ℕ) (ps : List ℕ) (a r : ℕ) → ((p : ℕ) → In p ps → AreOwn kind (kind p) (own p))
    → closer kind (a + dead o) ps ≡ Some r → Ends kind own cuts o ps a r
ends kind own cuts o [] a r w e = cc
ends kind own cuts o (p ∷ ps) a r w e =
    let n = one_more kind own cuts o p ps a r (kind p) (w p (inl refl)) (λ o' a' h. ends kind own cuts o' ps a' r (λ q i. w q (inr i)) h) e in record { child = n.0; only = n.1; is = n.2 }

pub ends_below : (kind : ℕ → BracketKind) (own : ℕ → List ℕ) (cuts : ℕ → Bool) (ps : List ℕ) (r : ℕ) → ((p : ℕ) → In p ps → AreOwn kind (kind p) (own p)) → closer kind 0 ps ≡ Some r
    → (j : ℕ) × (own r ≡ j ∷ []) × (closer kind 0 (below kind own cuts None ps) ≡ Some j)
ends_below kind own cuts ps r w e =
    let z : 0 + 0 ≡ 0 = omega arith in
    let n : Ends kind own cuts None ps 0 r = ends kind own cuts None ps 0 r w (ap (λ n. closer kind n ps) z ∙ e) in (n.child, n.only, n.is)

-- 4. the level of which these are the nodes

record IsClosed (symbol : ℕ → LevelSymbol) (n : ℕ) (ks : List ℕ) (r : ℕ) : Type 0 where
  pub place : ℕ
  pub there : slice_get ks place ≡ Some r
  pub is : close_of n (map symbol ks) ≡ Some place

one_node : (symbol : ℕ → LevelSymbol) (k : ℕ) (ks : List ℕ) (n r : ℕ) (s : LevelSymbol) → ((m : ℕ) → closer (λ k. kind_of_symbol (symbol k)) m ks ≡ Some r → IsClosed symbol m ks r)
    → closing (kind_of_symbol s) n k (λ m. closer (λ k. kind_of_symbol (symbol k)) m ks) ≡ Some r
    → (i : ℕ) × (slice_get (k ∷ ks) i ≡ Some r) × (close_of n (s ∷ map symbol ks) ≡ Some i)
one_node symbol k ks n r (Module l m) ih e =
    let c = ih n e in
    let i : c.place + 1 ≡ suc c.place = omega arith in (suc c.place, c.there, ap (option_map (λ q. q + 1)) c.is ∙ ap (λ q. Some q) i)
one_node symbol k ks n r (Push l) ih e =
    let c = ih (suc n) e in
    let i : c.place + 1 ≡ suc c.place = omega arith in (suc c.place, c.there, ap (option_map (λ q. q + 1)) c.is ∙ ap (λ q. Some q) i)
one_node symbol k ks zero r (Pop l) ih e = (0, e, refl)
one_node symbol k ks (suc n) r (Pop l) ih e =
    let c = ih n e in
    let i : c.place + 1 ≡ suc c.place = omega arith in (suc c.place, c.there, ap (option_map (λ q. q + 1)) c.is ∙ ap (λ q. Some q) i)

closed : (symbol : ℕ → LevelSymbol) (n : ℕ) (ks : List ℕ) (r : ℕ) → closer (λ k. kind_of_symbol (symbol k)) n ks ≡ Some r → IsClosed symbol n ks r
closed symbol n [] r e = cc
closed symbol n (k ∷ ks) r e =
    let c = one_node symbol k ks n r (symbol k) (λ m i. closed symbol m ks r i) e in record { place = c.0; there = c.1; is = c.2 }

get_here : {A : Type 0} (xs : List A) (k : A) (ys : List A) → slice_get (xs ++ k ∷ ys) (length xs) ≡ Some k
get_here [] k ys = refl
get_here (x ∷ xs) k ys = get_here xs k ys

get_after : {A : Type 0} (xs : List A) (k : A) (ys : List A) (i : ℕ) → slice_get (xs ++ k ∷ ys) (length xs + 1 + i) ≡ slice_get ys i
get_after [] k ys i = let e : 0 + 1 + i ≡ suc i = omega arith in ap (slice_get (k ∷ ys)) e
get_after (x ∷ xs) k ys i = let e : suc (length xs) + 1 + i ≡ suc (length xs + 1 + i) = omega arith in ap (slice_get (x ∷ (xs ++ k ∷ ys))) e ∙ get_after xs k ys i

drop_after : {A : Type 0} (xs : List A) (k : A) (ys : List A) → drop (length xs + 1) (xs ++ k ∷ ys) ≡ ys
drop_after [] k ys = refl
drop_after (x ∷ xs) k ys = let e : suc (length xs) + 1 ≡ suc (length xs + 1) = omega arith in ap (λ n. drop n (x ∷ (xs ++ k ∷ ys))) e ∙ drop_after xs k ys

map_around : (f : ℕ → LevelSymbol) (xs : List ℕ) (k : ℕ) (ys : List ℕ) → map f (xs ++ k ∷ ys) ≡ map f xs ++ f k ∷ map f ys
map_around f [] k ys = refl
map_around f (x ∷ xs) k ys = ap (λ zs. f x ∷ zs) (map_around f xs k ys)

map_long : (f : ℕ → LevelSymbol) (xs : List ℕ) → length (map f xs) ≡ length xs
map_long f [] = refl
map_long f (x ∷ xs) = ap (λ n. suc n) (map_long f xs)

pub on_level : (symbol : ℕ → LevelSymbol) (before : List ℕ) (k : ℕ) (after l : List ℕ) (r : ℕ) → symbol k ≡ Push l → closer (λ k. kind_of_symbol (symbol k)) 0 after ≡ Some r
    → (q : ℕ) × (slice_get (before ++ k ∷ after) q ≡ Some r) × AreMates (map symbol (before ++ k ∷ after)) (length before) q
on_level symbol before k after l r h e =
    let c : IsClosed symbol 0 after r = closed symbol 0 after r e in
    let n : length (map symbol before) ≡ length before = map_long symbol before in
    let x : List LevelSymbol = map symbol before ++ symbol k ∷ map symbol after in
    let w : map symbol (before ++ k ∷ after) ≡ x = map_around symbol before k after in
    let there : slice_get x (length before) ≡ Some (Push l) = ap (slice_get x) (sym n) ∙ get_here (map symbol before) (symbol k) (map symbol after) ∙ ap (λ s. Some s) h in
    let rest_is : drop (length before + 1) x ≡ map symbol after = ap (λ n. drop (n + 1) x) (sym n) ∙ drop_after (map symbol before) (symbol k) (map symbol after) in
    let mates : AreMates x (length before) (length before + 1 + c.place) =
    record { opens = (l, there); closes = ap (λ y. option_map (λ n. length before + 1 + n) (close_of 0 y)) rest_is ∙ ap (option_map (λ n. length before + 1 + n)) c.is } in
    (length before + 1 + c.place, get_after before k after c.place ∙ c.there, subst (λ x. AreMates x (length before) (length before + 1 + c.place)) (sym w) mates)

pub there : (symbol : ℕ → LevelSymbol) (ks : List ℕ) (k j : ℕ) → AreMatesAmong (λ k. kind_of_symbol (symbol k)) ks k j → AreMatesThere symbol ks k j
there symbol ks k j m = by (symbol k) refl
  where
    by : (a : LevelSymbol) → symbol k ≡ a → AreMatesThere symbol ks k j
    by (Push l) e =
        let r = on_level symbol m.before k m.after l j e m.closes in
        record {
          place = length m.before;
          end = r.0;
          opens = ap (λ ks. slice_get ks (length m.before)) m.whole ∙ get_here m.before k m.after;
          closes = ap (λ ks. slice_get ks r.0) m.whole ∙ r.1;
          mates = subst (λ ks. AreMates (map symbol ks) (length m.before) r.0) (sym m.whole) r.2;
        }
    by (Pop l) e = let f : Closes ≡ Opens = ap kind_of_symbol (sym e) ∙ m.opens in cc
    by (Module l v) e = let f : Neither ≡ Opens = ap kind_of_symbol (sym e) ∙ m.opens in cc
