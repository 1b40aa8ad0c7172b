-- The need lies within the candidates.
use Rattle.std.proofs.Common.{◌≡◌, ℕ, zero, suc, ◌+◌, ◌≤◌, Bool, true, false, ◌&&◌, ◌||◌, eqb, cond, get_or, Option, Some, None, Ok, List, [], ◌∷◌, length, drop, refl, ap, sym, ◌∙◌, subst, arith}
use Rattle.std.specs.Prelude.{◌↔◌, not, sum_by, slice_get, option_map}
use Rattle.std.proofs.lemmas.Bool.{eqb-true}
use Rattle.std.proofs.lemmas.List.Sums.{sum_by-cons}
use Rattle.std.proofs.lemmas.Option.{get_or_from_slice_get}
use Rattle.lsys_spec.specs.Systems.{System, Each, WellSpelled}
use Rattle.lsys_spec.specs.Bodies.{Body, group, filter}
use Rattle.lsys_spec.specs.Levels.{ModuleValue, LevelSymbol, Push, Pop, Module, lineage, IsLevel}
use Rattle.lsys_spec.specs.Walks.{Entry, lineages_named, any_holds}
use Rattle.lsys_spec.specs.Meaning.{key_for, meaning}
use Rattle.lsys_spec.specs.Equalities.{same_number, same_option, same_all, same_lineage, same_symbol, same_body}
use Rattle.lsys_spec.specs.Questions.{Question, question, where_any, questions_from, questions_at, questions_below, questions, same_question, question_at, differs, is_needed}
use Rattle.lsys_spec.specs.Standings.{standing, place_of, standing_of, before_place, Settled, same_standing, is_disturbed, reads_disturbed, any_disturbed, free, same_filter, is_touched, touched_there}
use Rattle.lsys_spec.specs.LevelLaws.{may_differ}
use Rattle.lsys_spec.proofs.Alike.{Settles}
use Rattle.lsys_spec.proofs.Balanced.{is_level}
use Rattle.lsys_spec.proofs.Rising.{distinct_apart}
use Rattle.lsys_spec.proofs.Offspring.{Grown, has_balance, grown}
use Rattle.lsys_spec.proofs.Equal.{same_number_true, same_lineage_true, same_question_refl, same_standings_refl}
use Rattle.lsys_spec.proofs.Names.{NamedSymbol, NamedBody, NamedStanding, InOption, same_option_true, same_all_true, same_plain_option, same_symbol_true, same_body_true, same_standing_true}
use Rattle.lsys_spec.proofs.WellNamed.{NamedLevel, level_named, group_named}
use Rattle.lsys_spec.proofs.Undisturbed.{IsSame, same_at}
use Rattle.lsys_spec.proofs.Eachs.{each_at, each_append}
use Rattle.lsys_spec.proofs.Tests.{both, neither, not_false, none_of}

-- 1. what isn't disturbed

symbol_named : (x : List LevelSymbol) (p : ℕ) → NamedLevel x → InOption NamedSymbol (slice_get x p)
symbol_named x p v = by (slice_get x p) refl
  where
    by : (o : Option LevelSymbol) → slice_get x p ≡ o → InOption NamedSymbol o
    by None e = tt
    by (Some s) e = each_at NamedSymbol x p s v e

before_named : (x : List LevelSymbol) (p : ℕ) → NamedLevel x → InOption NamedSymbol (before_place x p)
before_named x zero v = tt
before_named x (suc p) v = symbol_named x p v

standing_named : (x : List LevelSymbol) (o : Option ℕ) → NamedLevel x → InOption NamedStanding (option_map (standing x) o)
standing_named x None v = tt
standing_named x (Some p) v = record { symbol = symbol_named x p v; before = before_named x p v; after = symbol_named x (p + 1) v }

settled_if : (x y : List LevelSymbol) (l : List ℕ) → NamedLevel x → NamedLevel y → is_disturbed x y l ≡ false → Settled x y l
settled_if x y l u v h =
    same_option_true same_standing NamedStanding same_standing_true (standing_of y l) (standing_of x l) (standing_named y (place_of l y) v) (standing_named x (place_of l x) u) (not_false _ h)

disturbed_unless : (x y : List LevelSymbol) (l : List ℕ) → Settled x y l → is_disturbed x y l ≡ false
disturbed_unless x y l e = ap (λ o. not (same_option same_standing o (standing_of x l))) e ∙ ap not (same_standings_refl (standing_of x l))

pub disturbed : (x y : List LevelSymbol) (l : List ℕ) → NamedLevel x → NamedLevel y → (is_disturbed x y l ≡ false) ↔ Settled x y l
disturbed x y l u v = (settled_if x y l u v, disturbed_unless x y l)

each_settled : (x y : List LevelSymbol) (ls : List (List ℕ)) → NamedLevel x → NamedLevel y → any_holds (is_disturbed x y) ls ≡ false → Each (Settled x y) ls
each_settled x y [] u v h = tt
each_settled x y (l ∷ ls) u v h = let n = none_of (is_disturbed x y) l ls h in (settled_if x y l u v n.0, each_settled x y ls u v n.1)

all_settled : (x y : List LevelSymbol) (es : List Entry) → NamedLevel x → NamedLevel y → any_disturbed x y es ≡ false → Each (Settles (Settled x y)) es
all_settled x y [] u v h = tt
all_settled x y (e ∷ es) u v h = let n = none_of (reads_disturbed x y) e es h in (each_settled x y (lineages_named e) u v n.0, all_settled x y es u v n.1)

-- 2. the questions of a system

-- q is asked at one of these levels
pub record IsAsked (s : System) (xs : List (List LevelSymbol)) (q : Question) : Type 0 where
  pub level : List LevelSymbol
  pub there : slice_get xs q.level ≡ Some level
  pub place : ℕ
  pub parents : List ℕ
  pub value : ModuleValue
  pub stands : slice_get level place ≡ Some (Module parents value)
  pub is : q ≡ question s q.level (group s q.level value.name (length value.params)) level place parents value

abbrev AllAsked : System → List (List LevelSymbol) → List Question → Type 0
AllAsked s xs qs = Each (IsAsked s xs) qs

front_of : {A : Type 0} (x : List A) (p : ℕ) (m : A) (ms : List A) → drop p x ≡ m ∷ ms → (slice_get x p ≡ Some m) × (drop (p + 1) x ≡ ms)
front_of [] zero m ms h = cc
front_of [] (suc p) m ms h = cc
front_of (s ∷ x) zero m ms h = let a : s ≡ m = cc in let b : x ≡ ms = cc in (ap (λ s. Some s) a, b)
front_of (s ∷ x) (suc p) m ms h = let r = front_of x p m ms h in let e : suc p + 1 ≡ suc (p + 1) = omega arith in (r.0, ap (λ n. drop n (s ∷ x)) e ∙ r.1)

any_asked : (s : System) (xs : List (List LevelSymbol)) (bs : List Body) (q : Question) (qs : List Question) → IsAsked s xs q → AllAsked s xs qs → AllAsked s xs (where_any bs q qs)
any_asked s xs [] q qs h k = k
any_asked s xs (b ∷ bs) q qs h k = (h, k)

asked_from : (s : System) (xs : List (List LevelSymbol)) (t : ℕ) (x : List LevelSymbol) → slice_get xs t ≡ Some x → (p : ℕ) (ms : List LevelSymbol) → drop p x ≡ ms → AllAsked s xs (questions_from s t x p ms)
asked_from s xs t x g p [] h = tt
asked_from s xs t x g p (Push l ∷ ms) h = asked_from s xs t x g (p + 1) ms (front_of x p (Push l) ms h).1
asked_from s xs t x g p (Pop l ∷ ms) h = asked_from s xs t x g (p + 1) ms (front_of x p (Pop l) ms h).1
asked_from s xs t x g p (Module l m ∷ ms) h =
    let f = front_of x p (Module l m) ms h in
    let bs : List Body = group s t m.name (length m.params) in
    any_asked s xs bs (question s t bs x p l m) (questions_from s t x (p + 1) ms)
    (record { level = x; there = g; place = p; parents = l; value = m; stands = f.0; is = refl }) (asked_from s xs t x g (p + 1) ms f.1)

asked_below : (s : System) (xs : List (List LevelSymbol)) (t : ℕ) (rest : List (List LevelSymbol)) → drop t xs ≡ rest → AllAsked s xs (questions_below s t rest)
asked_below s xs t [] h = tt
asked_below s xs t (x ∷ []) h = tt
asked_below s xs t (x ∷ y ∷ rest) h =
    let f = front_of xs t x (y ∷ rest) h in
    each_append (IsAsked s xs) (questions_at s t x) (questions_below s (t + 1) (y ∷ rest)) (asked_from s xs t x f.0 0 x refl) (asked_below s xs (t + 1) (y ∷ rest) f.1)

pub all_asked : (s : System) (xs : List (List LevelSymbol)) → AllAsked s xs (questions s xs)
all_asked s xs = asked_below s xs 0 xs refl

-- what is found is at the level and the lineage
pub record IsFound (s : System) (xs : List (List LevelSymbol)) (t : ℕ) (l : List ℕ) (q : Question) : Type 0 where
  pub asked : IsAsked s xs q
  pub level : q.level ≡ t
  pub lineages : l ≡ lineage q.own

pub found_asked : (s : System) (xs : List (List LevelSymbol)) (t : ℕ) (l : List ℕ) (qs : List Question) (q : Question) → AllAsked s xs qs → question_at t l qs ≡ Some q → IsFound s xs t l q
found_asked s xs t l [] q h e = cc
found_asked s xs t l (r ∷ qs) q h e = at (eqb r.level t && same_lineage l (lineage r.own)) refl e (λ f. found_asked s xs t l qs q h.1 f)
  where
    at : (b : Bool) → eqb r.level t && same_lineage l (lineage r.own) ≡ b → cond b (Some r) (question_at t l qs) ≡ Some q → (question_at t l qs ≡ Some q → IsFound s xs t l q) → IsFound s xs t l q
    at true i f ih =
        let g : r ≡ q = cc in
        let b = both (eqb r.level t) (same_lineage l (lineage r.own)) i in
        subst (IsFound s xs t l) g (record { asked = h.0; level = eqb-true r.level t b.0; lineages = same_lineage_true l (lineage r.own) b.1 })
    at false i f ih = ih f

-- 3. where nothing of a question is touched, it is the old one

-- the levels of well-spelled systems
pub record Derived (s : System) (xs : List (List LevelSymbol)) : Type 0 where
  pub formed : WellSpelled s
  pub levels : (t : ℕ) (x : List LevelSymbol) → slice_get xs t ≡ Some x → IsLevel x
  pub names : (t : ℕ) (x : List LevelSymbol) → slice_get xs t ≡ Some x → NamedLevel x

pub derived : (s : System) (limit : ℕ) (xs : List (List LevelSymbol)) → WellSpelled s → meaning s limit ≡ Ok xs → Derived s xs
derived s limit xs w h = record {
  formed = w;
  levels = λ t x g. let r : Grown s.numbering t x = grown s (has_balance s w) limit xs h t x g in is_level x r.is_balanced (distinct_apart x r.distinct);
  names = level_named s w limit xs h;
}

own_parts : (l l' : List ℕ) (m m' : ModuleValue) → Module l m ≡ Module l' m' → (l' ≡ l) × (m' ≡ m)
own_parts l l' m m' e = let a : l' ≡ l = cc in let b : m' ≡ m = cc in (a, b)

pub bodies_named : (s : System) (xs : List (List LevelSymbol)) (q : Question) → WellSpelled s → IsAsked s xs q → Each NamedBody q.bodies
bodies_named s xs q w a = subst (λ (r : Question). Each NamedBody r.bodies) (sym a.is) (group_named s w q.level a.value.name (length a.value.params))

pub own_named : (s : System) (xs : List (List LevelSymbol)) (q : Question) → Derived s xs → IsAsked s xs q → NamedSymbol q.own
own_named s xs q d a = subst (λ (r : Question). NamedSymbol r.own) (sym a.is) (each_at NamedSymbol a.level a.place (Module a.parents a.value) (d.names q.level a.level a.there) a.stands)

untouched : (old new : System) (xs ys : List (List LevelSymbol)) → Derived old xs → Derived new ys → (was q : Question) (a : IsAsked old xs was) (b : IsAsked new ys q) → was.level ≡ q.level
    → is_touched old new a.level b.level was q ≡ false → was ≡ q
untouched old new xs ys dx dy was q a b level h =
    let t : ℕ = was.level in
    let bs : List Body = group old t a.value.name (length a.value.params) in
    let bs' : List Body = group new q.level b.value.name (length b.value.params) in
    let x : List LevelSymbol = a.level in
    let y : List LevelSymbol = b.level in
    let l : List ℕ = a.parents in
    let m : ModuleValue = a.value in
    let nx : NamedLevel x = dx.names t x a.there in
    let ny : NamedLevel y = dy.names q.level y b.there in
    let n = neither (not (same_symbol was.own q.own && (same_all same_body was.bodies q.bodies && same_option same_number was.key q.key))) _ h in
    let parts = both (same_symbol was.own q.own) _ (not_false _ n.0) in
    let parts' = both (same_all same_body was.bodies q.bodies) (same_option same_number was.key q.key) parts.1 in
    let own : was.own ≡ q.own = same_symbol_true was.own q.own (own_named old xs was dx a) (own_named new ys q dy b) parts.0 in
    let bodies : was.bodies ≡ q.bodies = same_all_true same_body NamedBody same_body_true was.bodies q.bodies (bodies_named old xs was dx.formed a) (bodies_named new ys q dy.formed b) parts'.0 in
    let key : was.key ≡ q.key = same_plain_option same_number same_number_true was.key q.key parts'.1 in
    let k = neither (is_disturbed x y (lineage q.own)) _ n.1 in
    let r = neither (any_disturbed x y was.trace) _ k.1 in
    let here : was ≡ question old t bs x a.place l m = a.is in
    let there : q ≡ question new q.level bs' y b.place b.parents b.value = b.is in
    let own' : Module l m ≡ Module b.parents b.value = sym (ap (λ (r : Question). r.own) here) ∙ own ∙ ap (λ (r : Question). r.own) there in
    let e = own_parts l b.parents m b.value own' in
    let groups : bs' ≡ bs = sym (ap (λ (r : Question). r.bodies) there) ∙ sym bodies ∙ ap (λ (r : Question). r.bodies) here in
    let moved : q ≡ question new t bs y b.place l m =
    there ∙ ap (λ t. question new t bs' y b.place b.parents b.value) (sym level) ∙ ap (λ bs. question new t bs y b.place b.parents b.value) groups
    ∙ ap (λ l. question new t bs y b.place l b.value) e.0 ∙ ap (λ m. question new t bs y b.place l m) e.1 in
    let keys : key_for new l bs ≡ key_for old l bs = sym (ap (λ (r : Question). r.key) moved) ∙ sym key ∙ ap (λ (r : Question). r.key) here in
    let settled : Settled x y l = settled_if x y l nx ny (ap (λ s. is_disturbed x y (lineage s)) (sym (ap (λ (r : Question). r.own) moved)) ∙ k.0) in
    let read : Each (Settles (Settled x y)) was.trace = all_settled x y was.trace nx ny r.0 in
    let stands : slice_get y b.place ≡ Some (Module l m) = b.stands ∙ ap (λ s. Some s) (sym own') in
    let ignored : free bs || same_filter (filter old t) (filter new t) ≡ true =
    ap (λ n. free bs || same_filter (filter old n) (filter new n)) level ∙ ap (λ bs. free bs || same_filter (filter old q.level) (filter new q.level)) (sym (ap (λ (r : Question). r.bodies) moved)) ∙ not_false _ r.1 in
    let same : IsSame old new t bs x y a.place b.place l m =
    same_at old new t bs x y a.place b.place l m (dx.levels t x a.there) (dy.levels q.level y b.there) a.stands stands settled keys ignored
    (subst (λ (r : Question). Each (Settles (Settled x y)) r.trace) here read) in
    here ∙ sym same.same_question ∙ sym moved

-- 4. a needed question is a candidate

level_there : (s : System) (xs : List (List LevelSymbol)) (q : Question) (a : IsAsked s xs q) (t : ℕ) → q.level ≡ t → get_or xs t [] ≡ a.level
level_there s xs q a t e = ap (λ t. get_or xs t []) (sym e) ∙ get_or_from_slice_get xs q.level a.level [] a.there

pub within_one : (old new : System) (xs ys : List (List LevelSymbol)) → Derived old xs → Derived new ys → (q : Question) → IsAsked new ys q → may_differ old new xs ys q ≡ false → is_needed (questions old xs) q ≡ false
within_one old new xs ys dx dy q b h = at (question_at q.level (lineage q.own) (questions old xs)) refl h
  where
    at : (o : Option Question) → question_at q.level (lineage q.own) (questions old xs) ≡ o → touched_there old new (get_or xs q.level []) (get_or ys q.level []) q o ≡ false → is_needed (questions old xs) q ≡ false
    at None e h = cc
    at (Some was) e h =
        let f : IsFound old xs q.level (lineage q.own) was = found_asked old xs q.level (lineage q.own) (questions old xs) was (all_asked old xs) e in
        let a : IsAsked old xs was = f.asked in
        let there : is_touched old new a.level b.level was q ≡ false =
        ap (λ x. is_touched old new x b.level was q) (sym (level_there old xs was a q.level f.level))
        ∙ ap (λ y. is_touched old new (get_or xs q.level []) y was q) (sym (level_there new ys q b q.level refl)) ∙ h in
        let same : was ≡ q = untouched old new xs ys dx dy was q a b f.level there in
        let yes : same_question was q ≡ true = ap (λ (r : Question). same_question r q) same ∙ same_question_refl q in
        ap (differs q) e ∙ ap not yes

-- summed over the questions that pass: all weights 1, or the lengths of the traces
abbrev pub over : (Question → ℕ) → (Question → Bool) → List Question → ℕ
over weight test qs = sum_by (λ q. cond (test q) (weight q) 0) qs

fewer : (w : Question → ℕ) (f g : Question → Bool) (s : System) (xs : List (List LevelSymbol)) (qs : List Question) → AllAsked s xs qs → ((q : Question) → IsAsked s xs q → g q ≡ false → f q ≡ false) → over w f qs ≤ over w g qs
fewer w f g s xs [] h k = omega arith
fewer w f g s xs (q ∷ qs) h k =
    rw (sum_by-cons (λ q. cond (f q) (w q) 0) q qs, sum_by-cons (λ q. cond (g q) (w q) 0) q qs)
    (one (f q) (g q) (w q) (over w f qs) (over w g qs) (k q h.0) (fewer w f g s xs qs h.1 k))
  where
    one : (a b : Bool) (v m n : ℕ) → (b ≡ false → a ≡ false) → m ≤ n → cond a v 0 + m ≤ cond b v 0 + n
    one true true v m n i l = omega (arith, l)
    one true false v m n i l = let e : true ≡ false = i refl in cc
    one false true v m n i l = omega (arith, l)
    one false false v m n i l = omega (arith, l)

pub need_within : (w : Question → ℕ) (old new : System) (xs ys : List (List LevelSymbol)) → Derived old xs → Derived new ys
    → over w (is_needed (questions old xs)) (questions new ys) ≤ over w (may_differ old new xs ys) (questions new ys)
need_within w old new xs ys dx dy =
    fewer w (is_needed (questions old xs)) (may_differ old new xs ys) new ys (questions new ys) (all_asked new ys) (λ q b h. within_one old new xs ys dx dy q b h)
