-- Each new symbol is paired with the old one of its lineage, in whatever order the children of a symbol stand.
use Rattle.std.proofs.Common.{◌≡◌, ℕ, zero, suc, ◌+◌, ◌*◌, ◌<◌, ◌≤◌, Option, Some, None, List, [], ◌∷◌, ◌++◌, length, take, refl, sym, ap, ◌∙◌, subst, arith, add-one, take_all}
use Rattle.std.specs.Prelude.{slice_get, option_map}
use Rattle.std.proofs.lemmas.Option.{slice_get-map}
use Rattle.std.proofs.lemmas.List.{length-map}
use Rattle.lsys_spec.specs.Draws.{number_base}
use Rattle.lsys_spec.specs.Levels.{LevelSymbol, lineage}
use Rattle.lsys_spec.specs.Standings.{place_of}
use Rattle.lsys_spec.specs.Cuts.{Distinct}
use Rattle.lsys_spec.proofs.Standings.{place_told}
use Rattle.lsys_flat.specs.declared.origin.Origin.{Origin}
use Rattle.lsys_laws.specs.KeptQuestions.{places_in}
use Rattle.lsys_laws.proofs.Lineages.{last_number, place_none, place_is}
use Rattle.lsys_flat.specs.Origins.{origin_number, IsChild, AreChildren}
use Rattle.lsys_flat.specs.Lookups.{IsPlaceOf}

take_more : {A : Type 0} (xs : List A) (i : ℕ) (x : A) → slice_get xs i ≡ Some x → take (suc i) xs ≡ take i xs ++ x ∷ []
take_more [] i x e = cc
take_more (y ∷ xs) zero x e = let h : y ≡ x = cc in ap (λ y. y ∷ []) h
take_more (y ∷ xs) (suc i) x e = ap (λ l. y ∷ l) (take_more xs i x e)

one_value : {A : Type 0} (o : Option A) (a b : A) → o ≡ Some a → o ≡ Some b → a ≡ b
one_value o a b e k = cc

-- the symbol at a place, and where it comes from

pub child_at : (a : List LevelSymbol) (os : List Origin) (x : List LevelSymbol) → AreChildren a os x → (p : ℕ) (s : LevelSymbol) → slice_get x p ≡ Some s → (o : Origin) × (slice_get os p ≡ Some o) × IsChild a o s
child_at a [] [] h p s g = cc
child_at a [] (t ∷ x) h p s g = absurd h
child_at a (o ∷ os) [] h p s g = absurd h
child_at a (o ∷ os) (t ∷ x) h zero s g = let e : t ≡ s = cc in (o, refl, subst (IsChild a o) e h.0)
child_at a (o ∷ os) (t ∷ x) h (suc p) s g = child_at a os x h.1 p s g

pub child_from : (a : List LevelSymbol) (os : List Origin) (x : List LevelSymbol) → AreChildren a os x → (p : ℕ) (o : Origin) → slice_get os p ≡ Some o → (s : LevelSymbol) × (slice_get x p ≡ Some s) × IsChild a o s
child_from a [] [] h p o g = cc
child_from a [] (t ∷ x) h p o g = absurd h
child_from a (u ∷ os) [] h p o g = absurd h
child_from a (u ∷ os) (t ∷ x) h zero o g = let e : u ≡ o = cc in (t, refl, subst (λ u. IsChild a u t) e h.0)
child_from a (u ∷ os) (t ∷ x) h (suc p) o g = child_from a os x h.1 p o g

codes_same : (c d i j : ℕ) → i < number_base → j < number_base → number_base * c + i ≡ number_base * d + j → (c ≡ d) × (i ≡ j)
codes_same c d i j k l e = (omega (arith, k, l, e), omega (arith, k, l, e))

-- two levels, and those above them
pub record Two (a b x y : List LevelSymbol) (old new : List Origin) (above : List (Option ℕ)) : Type 0 where
  pub above_distinct : Distinct a
  pub old_distinct : Distinct x
  pub old_children : AreChildren a old x
  pub new_children : AreChildren b new y
  pub paired : above ≡ places_in a b

told_more : (x y : List LevelSymbol) (i : ℕ) (mates : List (Option ℕ)) (t : LevelSymbol) (mate : Option ℕ) → mates ≡ take i (places_in x y) → slice_get y i ≡ Some t → place_of (lineage t) x ≡ mate
    → mates ++ mate ∷ [] ≡ take (i + 1) (places_in x y)
told_more x y i mates t mate e g k =
    ap (λ m. m ++ mate ∷ []) e ∙ sym (rw add-one (take_more (places_in x y) i mate (slice_get-map (λ s. place_of (lineage s) x) y i ∙ ap (option_map (λ s. place_of (lineage s) x)) g ∙ ap Some k)))

above_is : (a b : List LevelSymbol) (above : List (Option ℕ)) (p : ℕ) (r : LevelSymbol) (m : Option ℕ) → above ≡ places_in a b → slice_get b p ≡ Some r → slice_get above p ≡ Some m → place_of (lineage r) a ≡ m
above_is a b above p r m e g k =
    one_value (slice_get above p) (place_of (lineage r) a) m (ap (λ l. slice_get l p) e ∙ slice_get-map (λ s. place_of (lineage s) a) b p ∙ ap (option_map (λ s. place_of (lineage s) a)) g) k

-- a symbol whose parent is new is new
pub lone : (a b x y : List LevelSymbol) (old new : List Origin) (above : List (Option ℕ)) → Two a b x y old new above → (i : ℕ) (mates : List (Option ℕ)) (o : Origin)
    → mates ≡ take i (places_in x y) → slice_get new i ≡ Some o → slice_get above o.parent ≡ Some None → mates ++ None ∷ [] ≡ take (i + 1) (places_in x y)
lone a b x y old new above h i mates o w g k =
    let n = child_from b new y h.new_children i o g in
    told_more x y i mates n.0 None w n.1 (place_none x (lineage n.0) (λ p s f e.
    let m = child_at a old x h.old_children p s f in
    let up = last_number (lineage m.2.parent) (lineage n.2.parent) _ _ (sym m.2.number ∙ e ∙ n.2.number) in
    let there : place_of (lineage n.2.parent) a ≡ Some m.0.parent = place_is a h.above_distinct m.0.parent m.2.parent (lineage n.2.parent) m.2.there up.0 in
    let none : place_of (lineage n.2.parent) a ≡ None = above_is a b above o.parent n.2.parent None h.paired n.2.there k in
    let no : Some m.0.parent ≡ None = sym there ∙ none in cc))

-- a child of the symbol at a place, of the same number as another
abbrev pub below : ℕ → Origin → Origin
below k o = record o { parent = k }

-- a symbol whose parent is kept: the child of its parent's mate with its number, if there is one
pub kept : (a b x y : List LevelSymbol) (old new : List Origin) (above : List (Option ℕ)) → Two a b x y old new above → (i k : ℕ) (mates : List (Option ℕ)) (o : Origin) (mate : Option ℕ)
    → mates ≡ take i (places_in x y) → slice_get new i ≡ Some o → slice_get above o.parent ≡ Some (Some k) → IsPlaceOf old (below k o) mate
    → mates ++ mate ∷ [] ≡ take (i + 1) (places_in x y)
kept a b x y old new above h i k mates o mate w g j place = told_more x y i mates n.0 mate w n.1 (found mate place)
  where
    n : (s : LevelSymbol) × (slice_get y i ≡ Some s) × IsChild b o s
    n = child_from b new y h.new_children i o g

    -- its parent in the old level above
    up : (r : LevelSymbol) × (slice_get a k ≡ Some r) × (lineage r ≡ lineage n.2.parent)
    up = place_told (lineage n.2.parent) a k (above_is a b above o.parent n.2.parent (Some k) h.paired n.2.there j)

    own : lineage n.0 ≡ lineage up.0 ++ origin_number o ∷ []
    own = n.2.number ∙ ap (λ l. l ++ origin_number o ∷ []) (sym up.2)

    -- an old symbol of the same lineage has the same parent, code and count
    same : (s : LevelSymbol) (u : Origin) → IsChild a u s → lineage s ≡ lineage n.0 → u ≡ below k o
    same s u c e =
        let l = last_number (lineage c.parent) (lineage up.0) (origin_number u) (origin_number o) (sym c.number ∙ e ∙ own) in
        let here : place_of (lineage up.0) a ≡ Some u.parent = place_is a h.above_distinct u.parent c.parent (lineage up.0) c.there l.0 in
        let there : place_of (lineage up.0) a ≡ Some k = place_is a h.above_distinct k up.0 (lineage up.0) up.1 refl in
        let d = codes_same u.code o.code u.count o.count c.small n.2.small l.1 in
        let parent = one_value (place_of (lineage up.0) a) u.parent k here there in λ i. record { parent = parent i; code = d.0 i; count = d.1 i }

    found : (r : Option ℕ) → IsPlaceOf old (below k o) r → place_of (lineage n.0) x ≡ r
    found (Some m) e =
        let v = child_from a old x h.old_children m (below k o) e in
        let parent : v.2.parent ≡ up.0 = one_value (slice_get a k) v.2.parent up.0 v.2.there up.1 in
        place_is x h.old_distinct m v.0 (lineage n.0) v.1 (v.2.number ∙ ap (λ r. lineage r ++ origin_number o ∷ []) parent ∙ sym own)
    found None e = place_none x (lineage n.0) (λ p s f q. let m = child_at a old x h.old_children p s f in e p (m.1 ∙ ap Some (same s m.0 m.2 q)))

pub children_length : (a : List LevelSymbol) (os : List Origin) (x : List LevelSymbol) → AreChildren a os x → length os ≡ length x
children_length a [] [] h = refl
children_length a [] (s ∷ x) h = absurd h
children_length a (o ∷ os) [] h = absurd h
children_length a (o ∷ os) (s ∷ x) h = ap suc (children_length a os x h.1)

pub ended : (a b x y : List LevelSymbol) (old new : List Origin) (above : List (Option ℕ)) (i : ℕ) (mates : List (Option ℕ)) → Two a b x y old new above
    → (Two a b x y old new above → mates ≡ take i (places_in x y)) → length new ≤ i → mates ≡ places_in x y
ended a b x y old new above i mates h w l =
    w h ∙ take_all i (places_in x y) (let e = children_length b new y h.new_children in let f = length-map y (λ s. place_of (lineage s) x) in omega (arith, l, e, f))

pub push_below : (n : ℕ) (ms : List (Option ℕ)) (m : Option ℕ) → ((p j : ℕ) → slice_get ms p ≡ Some (Some j) → j < n) → ((j : ℕ) → m ≡ Some j → j < n) → (p j : ℕ) → slice_get (ms ++ m ∷ []) p ≡ Some (Some j) → j < n
push_below n [] m f g zero j e = let h : m ≡ Some j = cc in g j h
push_below n [] m f g (suc p) j e = cc
push_below n (k ∷ ms) m f g zero j e = f 0 j e
push_below n (k ∷ ms) m f g (suc p) j e = push_below n ms m (λ p. f (suc p)) g p j e
