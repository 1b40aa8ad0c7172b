-- A row of kept symbols, filled from the left.
use Rattle.std.proofs.Common.{◌≡◌, inl, inr, ℕ, ℤ, zero, suc, List, [], ◌∷◌, ◌++◌, ◌+◌, ◌<◌, ◌≤◌, length, take, drop, get_or, true, false, map, Some, refl, ap, sym, ◌∙◌, subst, arith}
use Rattle.std.specs.Prelude.{slice_get, option_map}
use Rattle.std.proofs.lemmas.List.{take_more, length-map, take_all}
use Rattle.std.proofs.lemmas.Option.{slice_get-map, slice_get_within, get_or_from_slice_get, same_Some, slice_get_read}
use Rattle.lsys_spec.specs.Levels as L
use Rattle.lsys_spec.specs.Levels.{AreMates}
use Rattle.lsys_module.specs.Views.{module_name}
use Rattle.lsys_module.specs.declared.symbol.Symbol.{Symbol}
use Rattle.lsys_module.specs.declared.symbol.Symbol.TheVariants as symbols
use Rattle.lsys_level.specs.declared.place.KeptKind.{KeptKind}
use Rattle.lsys_level.specs.declared.place.KeptKind.TheVariants as kinds
use Rattle.lsys_level.specs.declared.place.KeptSymbol.{KeptSymbol}
use Rattle.lsys_level.specs.Spots.{Seen, Push, Pop, Module, Spotted, with_lineage, named, level_by, IsMate, IsBracket}
use Rattle.lsys_level.specs.Places.{seen_in, seen_by_kind, spotted, spots_of, bare_symbol, params_in, kept_place, Mates, has_cut, HasParamsWithin, Fits, AllFit, IsSoundRow}
use Rattle.lsys_region.proofs.ListLemmas.{slice_get-push_cases}
use Rattle.lsys_level.proofs.Naming.{mates_named}

-- 1. what stood in a list still stands there when more is after it

take_drop_on : (values more : List ℤ) (n k : ℕ) → n + k ≤ length values → take k (drop n (values ++ more)) ≡ take k (drop n values)
take_drop_on values more n zero h = refl
take_drop_on [] more n (suc k) h = absurd (omega (arith, h))
take_drop_on (v ∷ values) more zero (suc k) h = ap (λ r. v ∷ r) (take_drop_on values more zero k (omega (arith, h)))
take_drop_on (v ∷ values) more (suc n) (suc k) h = take_drop_on values more n (suc k) (omega (arith, h))

take_own : (params : List ℤ) → take (length params) params ≡ params
take_own [] = refl
take_own (v ∷ params) = ap (λ r. v ∷ r) (take_own params)

drop_after : (values params : List ℤ) → drop (length values) (values ++ params) ≡ params
drop_after [] params = refl
drop_after (v ∷ values) params = drop_after values params

seen_on : (values more : List ℤ) (k : KeptKind) (name : List ℕ) (n arity : ℕ) → HasParamsWithin k (n + arity) (length values)
    → seen_by_kind k name (take arity (drop n (values ++ more))) ≡ seen_by_kind k name (take arity (drop n values))
seen_on values more kinds.Push name n arity h = refl
seen_on values more kinds.Pop name n arity h = refl
seen_on values more kinds.Module name n arity h = ap (λ ps. Module (record { name = module_name name; params = ps })) (take_drop_on values more n arity h)

within_on : (values more : List ℤ) (k : KeptKind) (end : ℕ) → HasParamsWithin k end (length values) → HasParamsWithin k end (length (values ++ more))
within_on values more kinds.Push end h = tt
within_on values more kinds.Pop end h = tt
within_on values more kinds.Module end h = omega (arith, h, longer values more)
  where
    longer : (values more : List ℤ) → length values ≤ length (values ++ more)
    longer [] more = omega arith
    longer (v ∷ values) more = let k = longer values more in omega (arith, k)

told_on : (values more : List ℤ) (places : List KeptSymbol) → AllFit values places → map (spotted (values ++ more)) places ≡ map (spotted values) places
told_on values more [] h = refl
told_on values more (a ∷ places) h =
    ap (λ e. record { seen = e; tag = a.tag; key = a.key } ∷ map (spotted (values ++ more)) places) (seen_on values more a.kind a.name a.link a.arity h.0.within)
    ∙ ap (λ r. spotted values a ∷ r) (told_on values more places h.1)

fit_on : (values more : List ℤ) (places : List KeptSymbol) (a : KeptSymbol) → AllFit values places → Fits (values ++ more) a → AllFit (values ++ more) (places ++ a ∷ [])
fit_on values more [] a h f = (f, tt)
fit_on values more (b ∷ places) a h f = (record { few = h.0.few; within = within_on values more b.kind (b.link + b.arity) h.0.within }, fit_on values more places a h.1 f)

-- 2. one more symbol

told_new : (values : List ℤ) (s : Symbol) (m t k : ℕ) → spotted (values ++ params_in s) (kept_place s m (length values) t k) ≡ record { seen = seen_in s; tag = t; key = k }
told_new values symbols.Push m t k = refl
told_new values symbols.Pop m t k = refl
told_new values symbols.Cut m t k = refl
told_new values (symbols.Module a) m t k =
    ap (λ ps. record { seen = Module (record { name = module_name a.name; params = ps }); tag = t; key = k })
    (ap (take (length a.params)) (drop_after values a.params) ∙ take_own a.params)

fits_new : (values : List ℤ) (s : Symbol) (m t k : ℕ) → length (params_in s) ≤ 8 → Fits (values ++ params_in s) (kept_place s m (length values) t k)
fits_new values symbols.Push m t k h = record { few = omega arith; within = tt }
fits_new values symbols.Pop m t k h = record { few = omega arith; within = tt }
fits_new values symbols.Cut m t k h = record { few = omega arith; within = at_end values [] }
  where
    at_end : (values more : List ℤ) → length values + 0 ≤ length (values ++ more)
    at_end [] more = omega arith
    at_end (v ∷ values) more = let k = at_end values more in omega (arith, k)
fits_new values (symbols.Module a) m t k h = record { few = h; within = at_end values a.params }
  where
    at_end : (values params : List ℤ) → length values + length params ≤ length (values ++ params)
    at_end [] params = omega arith
    at_end (v ∷ values) params = let k = at_end values params in omega (arith, k)

map_push : (f : KeptSymbol → Spotted) (places : List KeptSymbol) (a : KeptSymbol) → map f (places ++ a ∷ []) ≡ map f places ++ f a ∷ []
map_push f [] a = refl
map_push f (b ∷ places) a = ap (λ r. f b ∷ r) (map_push f places a)

spot_at : (ss : List Symbol) (ts ks : List ℕ) (i : ℕ) (s : Symbol) (t k : ℕ) → slice_get ss i ≡ Some s → slice_get ts i ≡ Some t → slice_get ks i ≡ Some k
    → slice_get (spots_of ss ts ks) i ≡ Some (record { seen = seen_in s; tag = t; key = k })
spot_at [] ts ks i s t k a b c = cc
spot_at (s' ∷ ss) [] ks i s t k a b c = cc
spot_at (s' ∷ ss) (t' ∷ ts) [] i s t k a b c = cc
spot_at (s' ∷ ss) (t' ∷ ts) (k' ∷ ks) zero s t k a b c =
    ap (λ s. Some (record { seen = seen_in s; tag = t'; key = k' })) (same_Some _ _ a)
    ∙ ap (λ t. Some (record { seen = seen_in s; tag = t; key = k' })) (same_Some _ _ b)
    ∙ ap (λ k. Some (record { seen = seen_in s; tag = t; key = k })) (same_Some _ _ c)
spot_at (s' ∷ ss) (t' ∷ ts) (k' ∷ ks) (suc i) s t k a b c = spot_at ss ts ks i s t k a b c

link_in : (s : Symbol) (m start t k : ℕ) (values : List ℤ) → IsBracket (spotted values (kept_place s m start t k)).seen → (kept_place s m start t k).link ≡ m
link_in symbols.Push m start t k values h = refl
link_in symbols.Pop m start t k values h = refl
link_in symbols.Cut m start t k values h = absurd h
link_in (symbols.Module a) m start t k values h = absurd h

bracket_any : (k : KeptKind) (name : List ℕ) (xs ys : List ℤ) → IsBracket (seen_by_kind k name xs) → IsBracket (seen_by_kind k name ys)
bracket_any kinds.Push name xs ys h = tt
bracket_any kinds.Pop name xs ys h = tt
bracket_any kinds.Module name xs ys h = h

-- the first i symbols are kept
pub record Filled (ss : List Symbol) (ts ks ms : List ℕ) (i : ℕ) (places : List KeptSymbol) (values : List ℤ) : Type 0 where
  pub told : map (spotted values) places ≡ take i (spots_of ss ts ks)
  pub fit : AllFit values places
  pub links : (p : ℕ) (a : KeptSymbol) → slice_get places p ≡ Some a → IsBracket (spotted values a).seen → slice_get ms p ≡ Some a.link

pub filled_on : (ss : List Symbol) (ts ks ms : List ℕ) (i : ℕ) (places : List KeptSymbol) (values : List ℤ) (s : Symbol) (t k m : ℕ) → Filled ss ts ks ms i places values → length places ≡ i
    → slice_get ss i ≡ Some s → slice_get ts i ≡ Some t → slice_get ks i ≡ Some k → slice_get ms i ≡ Some m → length (params_in s) ≤ 8
    → Filled ss ts ks ms (i + 1) (places ++ kept_place s m (length values) t k ∷ []) (values ++ params_in s)
filled_on ss ts ks ms i places values s t k m f n a b c d e =
    let one : KeptSymbol = kept_place s m (length values) t k in
    let spot : Spotted = record { seen = seen_in s; tag = t; key = k } in
    let at = spot_at ss ts ks i s t k a b c in
    let upto : take (i + 1) (spots_of ss ts ks) ≡ take i (spots_of ss ts ks) ++ spot ∷ [] = take_more (spots_of ss ts ks) i spot (slice_get_within (spots_of ss ts ks) i spot at) ∙ ap (λ x. take i (spots_of ss ts ks) ++ x ∷ []) (get_or_from_slice_get (spots_of ss ts ks) i spot spot at) in
    record {
      told = map_push (spotted (values ++ params_in s)) places one ∙ ap (λ x. map (spotted (values ++ params_in s)) places ++ x ∷ []) (told_new values s m t k)
          ∙ ap (λ r. r ++ spot ∷ []) (told_on values (params_in s) places f.fit ∙ f.told) ∙ sym upto;
      fit = fit_on values (params_in s) places one f.fit (fits_new values s m t k e);
      links = λ p x h g. elim (slice_get-push_cases places p one x h) [
        | inl new ↦ (let last : p ≡ i = new.0 ∙ n in
            subst (λ y. slice_get ms p ≡ Some y.link) new.1 (ap (slice_get ms) last ∙ d ∙ ap (λ q. Some q) (sym (link_in s m (length values) t k (values ++ params_in s) (subst (λ y. IsBracket (spotted (values ++ params_in s) y).seen) (sym new.1) g)))))
        | inr old ↦ f.links p x old.1 (bracket_any x.kind x.name _ _ g)
      ];
    }

-- 3. the whole

bare_named : (ss : List Symbol) (ts ks : List ℕ) → length ts ≡ length ss → length ks ≡ length ss → level_by (λ t. []) (spots_of ss ts ks) ≡ map bare_symbol ss
bare_named [] ts ks a b = refl
bare_named (s ∷ ss) [] ks a b = absurd (omega (arith, a))
bare_named (s ∷ ss) (t ∷ ts) [] a b = absurd (omega (arith, b))
bare_named (s ∷ ss) (t ∷ ts) (k ∷ ks) a b = ap (λ r. bare_symbol s ∷ r) (bare_named ss ts ks (omega (arith, a)) (omega (arith, b)))

long : (ss : List Symbol) (ts ks : List ℕ) → length ts ≡ length ss → length ks ≡ length ss → length (spots_of ss ts ks) ≡ length ss
long [] ts ks a b = refl
long (s ∷ ss) [] ks a b = absurd (omega (arith, a))
long (s ∷ ss) (t ∷ ts) [] a b = absurd (omega (arith, b))
long (s ∷ ss) (t ∷ ts) (k ∷ ks) a b = ap suc (long ss ts ks (omega (arith, a)) (omega (arith, b)))

-- a bracket's mate, as it is told for the symbols, is its mate by any naming
mate_told : (x : List Spotted) (ys : List L.LevelSymbol) (ms : List ℕ) (p q : ℕ) (s : Spotted) → level_by (λ t. []) x ≡ ys → Mates ys ms → slice_get x p ≡ Some s → slice_get ms p ≡ Some q → IsBracket s.seen → IsMate x p q
mate_told x ys ms p q s same m here told b = by s.seen b (ap (option_map (λ s. s.seen)) here) there
  where
    there : slice_get ys p ≡ Some (with_lineage [] s.seen)
    there = ap (λ y. slice_get y p) (sym same) ∙ slice_get-map (named (λ t. [])) x p ∙ ap (option_map (named (λ t. []))) here

    wide : length ys ≡ length x
    wide = ap length (sym same) ∙ length-map x (named (λ t. []))

    all : (p q : ℕ) → AreMates ys p q → (naming : ℕ → List ℕ) → AreMates (level_by naming x) p q
    all p q e naming = mates_named (λ t. []) naming x p q (subst (λ y. AreMates y p q) (sym same) e)

    by : (e : Seen) → IsBracket e → option_map (λ s. s.seen) (slice_get x p) ≡ Some e → slice_get ys p ≡ Some (with_lineage [] e) → IsMate x p q
    by Push b seen at =
        let o = m.opens p q [] told at in
        record { within = omega (arith, o.1, wide); opens = λ h. (o.0, all p q o.2); closes = λ h. let no : Some Push ≡ Some Pop = sym seen ∙ h in cc }
    by Pop b seen at =
        let o = m.closes p q [] told at in
        let in_it = slice_get_within ys p (with_lineage [] Pop) at in
        record { within = omega (arith, o.0, in_it, wide); opens = λ h. let no : Some Pop ≡ Some Push = sym seen ∙ h in cc; closes = λ h. (o.0, all q p o.1) }
    by (Module a) b seen at = absurd b

pub told_all : (ss : List Symbol) (ts ks ms : List ℕ) (i : ℕ) (places : List KeptSymbol) (values : List ℤ) → Filled ss ts ks ms i places values → length ts ≡ length ss → length ks ≡ length ss → length ss ≤ i
    → map (spotted values) places ≡ spots_of ss ts ks
told_all ss ts ks ms i places values f a b e = f.told ∙ take_all i (spots_of ss ts ks) (omega (arith, e, long ss ts ks a b))

pub is_row : (ss : List Symbol) (ts ks ms : List ℕ) (i : ℕ) (places : List KeptSymbol) (values : List ℤ) → Filled ss ts ks ms i places values → length ts ≡ length ss → length ks ≡ length ss → length ss ≤ i → Mates (map bare_symbol ss) ms
    → IsSoundRow places values
is_row ss ts ks ms i places values f a b e m = record {
  fit = f.fit;
  mates = λ p x h g. mate_told (map (spotted values) places) (map bare_symbol ss) ms p x.link (spotted values x) (ap (level_by (λ t. [])) (told_all ss ts ks ms i places values f a b e) ∙ bare_named ss ts ks a b) m
      (slice_get-map (spotted values) places p ∙ ap (option_map (spotted values)) h) (f.links p x h g) g;
}

-- 4. what is read

pub fits_at : (values : List ℤ) (places : List KeptSymbol) (p : ℕ) (a : KeptSymbol) → AllFit values places → slice_get places p ≡ Some a → Fits values a
fits_at values [] p a f h = cc
fits_at values (b ∷ places) zero a f h = subst (Fits values) (same_Some _ _ h) f.0
fits_at values (b ∷ places) (suc p) a f h = fits_at values places p a f.1 h

pub place_read : (x : List Spotted) (values : List ℤ) (places : List KeptSymbol) (p : ℕ) (a : KeptSymbol) → map (spotted values) places ≡ x → p < length x → a ≡ get_or places p a → slice_get places p ≡ Some a
place_read x values places p a e h r = slice_get_read places (length places) p a refl (omega (arith, h, ap length e, length-map places (spotted values))) r

pub spotted_read : (x : List Spotted) (values : List ℤ) (places : List KeptSymbol) (p : ℕ) (a : KeptSymbol) → map (spotted values) places ≡ x → p < length x → a ≡ get_or places p a → slice_get x p ≡ Some (spotted values a)
spotted_read x values places p a e h r = ap (λ x. slice_get x p) (sym e) ∙ slice_get-map (spotted values) places p ∙ ap (option_map (spotted values)) (place_read x values places p a e h r)

pub no_cut : (ss : List Symbol) (p : ℕ) (s : Symbol) → has_cut ss ≡ false → slice_get ss p ≡ Some s → s ≡ symbols.Cut → ⊥
no_cut [] p s h e c = cc
no_cut (symbols.Cut ∷ ss) p s h e c = let no : true ≡ false = h in cc
no_cut (symbols.Push ∷ ss) zero s h e c = let no : Some symbols.Push ≡ Some symbols.Cut = e ∙ ap (λ s. Some s) c in cc
no_cut (symbols.Push ∷ ss) (suc p) s h e c = no_cut ss p s h e c
no_cut (symbols.Pop ∷ ss) zero s h e c = let no : Some symbols.Pop ≡ Some symbols.Cut = e ∙ ap (λ s. Some s) c in cc
no_cut (symbols.Pop ∷ ss) (suc p) s h e c = no_cut ss p s h e c
no_cut (symbols.Module a ∷ ss) zero s h e c = let no : Some (symbols.Module a) ≡ Some symbols.Cut = e ∙ ap (λ s. Some s) c in cc
no_cut (symbols.Module a ∷ ss) (suc p) s h e c = no_cut ss p s h e c

pub few_taken : (n : ℕ) (ps xs : List ℤ) → ps ≡ take n xs → n ≤ 8 → length ps ≤ 8
few_taken n ps xs e h = let k = at_most n xs in omega (arith, ap length e, k, h)
  where
    at_most : (n : ℕ) (xs : List ℤ) → length (take n xs) ≤ n
    at_most zero xs = omega arith
    at_most (suc n) [] = omega arith
    at_most (suc n) (x ∷ xs) = let k = at_most n xs in omega (arith, k)
