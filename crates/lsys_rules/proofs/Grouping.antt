-- The rules of a group.
use Rattle.std.proofs.Common.{◌≡◌, ℕ, not, zero, suc, ◌+◌, ◌<◌, ◌≤◌, Bool, true, false, ◌&&◌, ◌==◌, List, [], ◌∷◌, ◌++◌, length, take, filter, map, cond, get_or, refl, ap, ap₂, sym, ◌∙◌, arith, bytes_eq, if◌then◌else◌, add-one}
use Rattle.std.specs.Prelude.{IfSome, Option, Some, None}
use Rattle.std.specs.Option.{option_map}
use Rattle.std.specs.HashMap.{HashMap}
use Rattle.std.proofs.lemmas.List.{length-map, append-nil}
use Rattle.std.proofs.lemmas.List.Elements.{filter-append}
use Rattle.std.proofs.lemmas.List.Filters.{length-filter_both}
use Rattle.std.proofs.lemmas.Simd.{map-map}
use Rattle.std.proofs.lemmas.Bool.{eqb-true}
use Rattle.std.proofs.lemmas.Bool.Decides.{same_from_decides, Decides-like, Decides-eqb}
use Rattle.std.proofs.lemmas.Slice.Eq.{bytes_eq-Decides}
use Rattle.lsys_syntax.specs.Rules.{Production}
use Rattle.lsys_syntax.specs.Strings.{ModuleName}
use Rattle.lsys_spec.specs.Bodies.{body_of, is_for, group_in, word_at}
use Rattle.lsys_spec.specs.Systems.{same_name}
use Rattle.lsys_laws.proofs.Aparts.{bytes_eq_true}
use Rattle.lsys_text.specs.Tokens.{name_of}
use Rattle.lsys_text.specs.Packed.{packed, unpacked}
use Rattle.lsys_text.specs.Texts.{IsNameBytes}
use Rattle.lsys_text.proofs.Kept.{name-kept}
use Rattle.lsys_module.specs.Views.{module_name}
use Rattle.lsys_module.proofs.Names.{same_name-module_name}
use Rattle.lsys_bodies.specs.declared.rule.Rule.{Rule}
use Rattle.lsys_bodies.specs.Views.{as_production, rule_of}
use Rattle.lsys_rules.specs.Groups.{same_key, group_key, rules_or_none, rules_at, with_rule, is_of, IsGroup, AreGroups}
use Rattle.lsys_rules.specs.declared.groups.GroupKey.{GroupKey}
use Rattle.lsys_rules.specs.declared.shared_group.SharedGroup.{SharedGroup}

-- names are told apart by their numbers
same_number : (m n : List ℕ) → IsNameBytes m → IsNameBytes n → (packed m == packed n) ≡ bytes_eq m n
same_number m n h k =
    same_from_decides _ _
    (Decides-like _ (λ e. sym (name-kept m h) ∙ ap unpacked e ∙ name-kept n k) (λ e. ap packed e) (Decides-eqb (packed m) (packed n)))
    (bytes_eq-Decides m n)

length_names : (xs : List (List ℕ)) → length (map name_of xs) ≡ length xs
length_names [] = refl
length_names (x ∷ xs) = ap suc (length_names xs)

take_suc : {A : Type 0} (xs : List A) (i : ℕ) (x : A) → i < length xs → x ≡ get_or xs i x → take (suc i) xs ≡ take i xs ++ x ∷ []
take_suc [] i x h e = absurd (omega arith)
take_suc (y ∷ xs) zero x h e = ap (λ z. z ∷ []) (sym e)
take_suc (y ∷ xs) (suc i) x h e = ap (λ t. y ∷ t) (take_suc xs i x (omega arith) e)

pub take_here : {A : Type 0} (xs : List A) (i : ℕ) (x : A) → i < length xs → x ≡ get_or xs i x → take (i + 1) xs ≡ take i xs ++ x ∷ []
take_here xs i x h e = rw add-one (take_suc xs i x h e)

pub map_more : {A B : Type 0} (f : A → B) (xs : List A) (x : A) → map f (xs ++ x ∷ []) ≡ map f xs ++ f x ∷ []
map_more f [] x = refl
map_more f (y ∷ xs) x = ap (λ t. f y ∷ t) (map_more f xs x)

-- a rule is of the group of its key
pub own_group : (r : Rule) (key : GroupKey) (table name : List ℕ) (arity : ℕ) → key.table ≡ r.table → key.name ≡ packed r.body.predecessor.name → key.arity ≡ length r.body.predecessor.formals.items
    → IsNameBytes r.body.predecessor.name → IsNameBytes name → same_key key (group_key table name arity) ≡ is_for table (module_name name) arity (as_production r)
own_group r key table name arity e f g h k =
    let names : (key.name == packed name) ≡ same_name (module_name r.body.predecessor.name) (module_name name) =
    ap (λ n. n == packed name) f ∙ same_number r.body.predecessor.name name h k ∙ sym (same_name-module_name r.body.predecessor.name name h k) in
    let formals : (key.arity == arity) ≡ (length (map name_of r.body.predecessor.formals.items) == arity) = ap (λ n. n == arity) (g ∙ sym (length_names r.body.predecessor.formals.items)) in
    λ i. bytes_eq (e i) table && (names i && formals i)

-- one more element
filter_more : {A : Type 0} (p : A → Bool) (xs : List A) (x : A) → filter p (xs ++ x ∷ []) ≡ (if p x then filter p xs ++ x ∷ [] else filter p xs)
filter_more p xs x = filter-append p xs (x ∷ []) ∙ by (p x)
  where
    by : (b : Bool) → filter p xs ++ cond b (x ∷ []) [] ≡ (if b then filter p xs ++ x ∷ [] else filter p xs)
    by true = refl
    by false = append-nil (filter p xs)

pub same_keys : (a b : GroupKey) → same_key a b ≡ true → a ≡ b
same_keys a b h =
    let table : a.table ≡ b.table = bytes_eq_true a.table b.table (and_left (bytes_eq a.table b.table) _ h) in
    let rest = and_right (bytes_eq a.table b.table) _ h in
    let name : a.name ≡ b.name = eqb-true a.name b.name (and_left (a.name == b.name) _ rest) in
    let arity : a.arity ≡ b.arity = eqb-true a.arity b.arity (and_right (a.name == b.name) _ rest) in
    λ i. record { table = table i; name = name i; arity = arity i }
  where
    and_left : (x y : Bool) → (x && y) ≡ true → x ≡ true
    and_left true y h = refl
    and_left false y h = cc

    and_right : (x y : Bool) → (x && y) ≡ true → y ≡ true
    and_right true y h = h
    and_right false y h = cc

-- whether a rule is of a group, told by its key
own_key : (r : Rule) (of key : GroupKey) (table name : List ℕ) (arity : ℕ) → of.table ≡ r.table → of.name ≡ packed r.body.predecessor.name → of.arity ≡ length r.body.predecessor.formals.items
    → IsNameBytes r.body.predecessor.name → IsNameBytes name → same_key key (group_key table name arity) ≡ true → same_key of key ≡ is_of r table name arity
own_key r of key table name arity t n a form k h = ap (same_key of) (same_keys key (group_key table name arity) h) ∙ own_group r of table name arity t n a form k

-- one more rule
pub group_step : (rs : List Rule) (i : ℕ) (r : Rule) (of key : GroupKey) (found more : List Rule) → i < length rs → r ≡ get_or rs i r
    → of.table ≡ r.table → of.name ≡ packed r.body.predecessor.name → of.arity ≡ length r.body.predecessor.formals.items → IsNameBytes r.body.predecessor.name
    → more ≡ with_rule (same_key of key) found r → IsGroup (take i rs) key found → IsGroup (take (i + 1) rs) key more
group_step rs i r of key found more h e t n a form put all table name arity k same =
    let p : Rule → Bool = λ q. is_of q table name arity in
    put
    ∙ ap₂ (λ b xs. with_rule b xs r) (own_key r of key table name arity t n a form k same) (all table name arity k same)
    ∙ sym (filter_more p (take i rs) r)
    ∙ ap (filter p) (sym (take_here rs i r h e))

filtered_map : {A B : Type 0} (f : A → B) (p : B → Bool) (xs : List A) → map f (filter (λ x. p (f x)) xs) ≡ filter p (map f xs)
filtered_map f p [] = refl
filtered_map f p (x ∷ xs) = by (p (f x)) (filtered_map f p xs)
  where
    by : (b : Bool) → map f (filter (λ x. p (f x)) xs) ≡ filter p (map f xs)
        → map f (cond b (x ∷ filter (λ x. p (f x)) xs) (filter (λ x. p (f x)) xs)) ≡ cond b (f x ∷ filter p (map f xs)) (filter p (map f xs))
    by true h = ap (λ ys. f x ∷ ys) h
    by false h = h

-- what stands under a group's key
pub group_found : {S : Type 0} (groups : HashMap GroupKey SharedGroup S) (rs : List Rule) (key : GroupKey) (table name : List ℕ) (arity : ℕ)
    → AreGroups groups rs → key.table ≡ table → key.name ≡ packed name → key.arity ≡ arity → IsNameBytes name
    → map as_production (rules_at groups key) ≡ filter (is_for table (module_name name) arity) (map as_production rs)
group_found groups rs key table name arity all t n a form =
    let same : key ≡ group_key table name arity = λ i. record { table = t i; name = n i; arity = a i } in
    ap (λ k. map as_production (rules_at groups k)) same ∙ ap (map as_production) (all table name arity form)
    ∙ filtered_map as_production (is_for table (module_name name) arity) rs

-- the bodies of a group are those of its productions
pub group_bodies : (table : List ℕ) (n : ModuleName) (arity : ℕ) (ps : List Production) → group_in table n arity ps ≡ map (λ p. body_of p.rule) (filter (is_for table n arity) ps)
group_bodies table n arity [] = refl
group_bodies table n arity (p ∷ ps) = by (is_for table n arity p) (group_bodies table n arity ps)
  where
    by : (b : Bool) → group_in table n arity ps ≡ map (λ q. body_of q.rule) (filter (is_for table n arity) ps)
        → (if b then body_of p.rule ∷ group_in table n arity ps else group_in table n arity ps) ≡ map (λ q. body_of q.rule) (cond b (p ∷ filter (is_for table n arity) ps) (filter (is_for table n arity) ps))
    by true h = ap (λ bs. body_of p.rule ∷ bs) h
    by false h = h

-- a group has no more rules than the system
pub group_few : (table : List ℕ) (n : ModuleName) (arity : ℕ) (ps : List Production) (rs : List Rule) → map as_production rs ≡ filter (is_for table n arity) ps → length rs ≤ length ps
group_few table n arity ps rs h =
    let e : length rs ≡ length (filter (is_for table n arity) ps) = sym (length-map rs as_production) ∙ ap length h in
    omega (arith, e, length-filter_both (is_for table n arity) (λ p. not (is_for table n arity p)) (λ p. refl) ps)

-- there are no more than that, where any were found
pub few_found : {R : Type 0} (f : R → List Rule) (found : Option R) (n : ℕ) → length (rules_or_none (option_map f found)) ≤ n → IfSome found (λ g. length (f g) ≤ n)
few_found f None n h = tt
few_found f (Some g) n h = h

-- the bodies of a group's rules
pub group_meant : (table : List ℕ) (n : ModuleName) (arity : ℕ) (ps : List Production) (rs : List Rule) → map as_production rs ≡ filter (is_for table n arity) ps
    → map (λ r. body_of (rule_of r)) rs ≡ group_in table n arity ps
group_meant table n arity ps rs h =
    sym (map-map (λ p. body_of p.rule) as_production rs) ∙ ap (map (λ p. body_of p.rule)) h ∙ sym (group_bodies table n arity ps)

-- a word of a schedule
pub word_there : (ws : List (List ℕ)) (i : ℕ) (w : List ℕ) → i < length ws → w ≡ get_or ws i w → w ≡ word_at ws i
word_there [] i w h e = absurd (omega arith)
word_there (v ∷ ws) zero w h e = e
word_there (v ∷ ws) (suc i) w h e = word_there ws i w (omega arith) e
