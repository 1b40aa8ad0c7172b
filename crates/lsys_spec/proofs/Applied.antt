-- The edits that show prints are all accepted, and give the system again.
use Rattle.std.proofs.Common.{◌≡◌, ℕ, zero, suc, Bool, true, false, not, ◌||◌, ◌==◌, ◌<◌, if◌then◌else◌, true≢false, None, Result, Ok, Err, List, [], ◌∷◌, ◌++◌, ◌&&◌, ◌+◌, ◌≤◌, nat_lt, length, map, refl, ap, ◌∙◌, sym, subst, append_assoc, append-nil, arith, length-append, le_trans, bytes_eq, ℤ, pos, negsuc}
use Rattle.std.proofs.lemmas.Bool.{eq-eqb, ne_eqb, eqb-true, ltb-true}
use Rattle.std.proofs.lemmas.Bool.Decides.{nat_tests}
use Rattle.std.proofs.lemmas.Slice.Eq.{bytes_eq-Decides}
use Rattle.lsys_syntax.specs.Limits.{most_rules, most_tables, most_ignored, most_schedule_words, greatest_version}
use Rattle.lsys_syntax.specs.Checks.{rule_many}
use Rattle.lsys_syntax.specs.Strings.{ModuleName, Symbol, Module, Push, Pop, Cut, signed_of, signed_value}
use Rattle.lsys_syntax.specs.Rules.{Production}
use Rattle.lsys_syntax.specs.Commands.{Numbering, by_place, by_name, Command, set_lattice, set_seed, set_axiom, set_ignored, set_schedule, set_depth, set_version}
use Rattle.lsys_spec.specs.Systems.{System, Homomorphism, Own, depth_bound, comes_before, in_order, main, any, same_name, is_table, with_table, tables_onto, tables, clash, written, IsSound, Each, Apart, WellFormed, WellSpelled, opening}
use Rattle.lsys_spec.proofs.Unplaced.{IsUnrefused, unrefused_at, axiom_short_anywhere}
use Rattle.lsys_spec.specs.Edits.{Refusal, first_place, unless_seen, once, same_label, put, put_hom, put_own, own_of, production_refusal, homomorphism_refusal, own_refusal, refusal, values_of, changed, unless_refused, apply}
use Rattle.lsys_spec.specs.Shown.{as_put, as_put_homomorphism, as_set_own, numbering_commands, version_commands, show_commands}

-- one after another, all accepted
abbrev pub apply_all : Result System Refusal → List Command → Result System Refusal
apply_all r [] = r
apply_all (Err e) (c ∷ cs) = Err e
apply_all (Ok s) (c ∷ cs) = apply_all (apply s c) cs

-- lists
each-map : {A : Type 0} (P Q : A → Type 0) → ((x : A) → P x → Q x) → (xs : List A) → Each P xs → Each Q xs
each-map P Q f [] h = tt
each-map P Q f (x ∷ xs) h = (f x h.0, each-map P Q f xs h.1)

each-back : {A : Type 0} (P : A → Type 0) (xs ys : List A) → Each P (xs ++ ys) → Each P ys
each-back P [] ys h = h
each-back P (x ∷ xs) ys h = each-back P xs ys h.1

apart-before : {A : Type 0} (f : A → A → Bool) (xs ys : List A) (y : A) → Apart f (xs ++ y ∷ ys) → Each (λ x. f x y ≡ false) xs
apart-before f [] ys y h = tt
apart-before f (x ∷ xs) ys y h = ((each-back (λ z. f x z ≡ false) xs (y ∷ ys) h.0).0, apart-before f xs ys y h.1)

apart-back : {A : Type 0} (f : A → A → Bool) (xs ys : List A) → Apart f (xs ++ ys) → Apart f ys
apart-back f [] ys h = h
apart-back f (x ∷ xs) ys h = apart-back f xs ys h.1

any-none : {A : Type 0} (p : A → Bool) (xs : List A) → Each (λ x. p x ≡ false) xs → any p xs ≡ false
any-none p [] h = refl
any-none p (x ∷ xs) h = rw (h.0, any-none p xs h.1)

first_place-none : {A : Type 0} (p : A → Bool) (n : ℕ) (xs : List A) → Each (λ x. p x ≡ false) xs → first_place p n xs ≡ None
first_place-none p n [] h = refl
first_place-none p n (x ∷ xs) h = rw h.0 (first_place-none p (n + 1) xs h.1)

not_over : (m n : ℕ) → n ≤ m → nat_lt m n ≡ false
not_over m n h = grind (arith, nat_tests)

and-false : (a b : Bool) → b ≡ false → (a && b) ≡ false
and-false true b h = h
and-false false b h = refl

false-and : (a b : Bool) → a ≡ false → (a && b) ≡ false
false-and a b h = rw h

-- what is new goes last
put-new : (p : Production) (qs : List Production) → Each (λ q. same_label q p ≡ false) qs → put p qs ≡ qs ++ p ∷ []
put-new p [] h = refl
put-new p (q ∷ qs) h = rw (h.0, put-new p qs h.1)

put_hom-new : (h : Homomorphism) (qs : List Homomorphism) → Each (λ q. bytes_eq q.label h.label ≡ false) qs → put_hom h qs ≡ qs ++ h ∷ []
put_hom-new h [] g = refl
put_hom-new h (q ∷ qs) g = rw (g.0, put_hom-new h qs g.1)

once-all : (xs seen : List ModuleName) → Apart same_name (seen ++ xs) → once seen xs ≡ xs
once-all [] seen h = refl
once-all (x ∷ xs) seen h =
    let new : any (λ y. same_name y x) seen ≡ false = any-none (λ y. same_name y x) seen (apart-before same_name seen xs x h) in
    ap (λ b. unless_seen b x (once (seen ++ x ∷ []) xs)) new ∙ ap (λ ys. x ∷ ys) (once-all xs (seen ++ x ∷ []) (rw append_assoc h))

-- an axiom's values, as they are written and read
signed-back : (z : ℤ) → signed_value (signed_of z) ≡ z
signed-back (pos n) = refl
signed-back (negsuc n) = refl

all_signed-back : (zs : List ℤ) → map signed_value (map signed_of zs) ≡ zs
all_signed-back [] = refl
all_signed-back (z ∷ zs) = rw (signed-back z, all_signed-back zs)

pub written-back : (xs : List (Symbol ℤ)) → values_of (written xs) ≡ xs
written-back [] = refl
written-back (Module n zs ∷ xs) = rw (all_signed-back zs, written-back xs)
written-back (Push ∷ xs) = ap (λ ys. Push ∷ ys) (written-back xs)
written-back (Pop ∷ xs) = ap (λ ys. Pop ∷ ys) (written-back xs)
written-back (Cut ∷ xs) = ap (λ ys. Cut ∷ ys) (written-back xs)

-- more rules, no fewer tables
onto-longer : (ps : List Production) (ts : List (List ℕ)) → length ts ≤ length (tables_onto ts ps)
onto-longer [] ts = omega arith
onto-longer (p ∷ ps) ts = le_trans (one (is_table ts p.table)) (onto-longer ps (with_table (is_table ts p.table) ts p.table))
  where
    one : (b : Bool) → length ts ≤ length (with_table b ts p.table)
    one true = omega arith
    one false = omega (arith, length-append ts (p.table ∷ []))

onto-append : (xs ys : List Production) (ts : List (List ℕ)) → tables_onto ts (xs ++ ys) ≡ tables_onto (tables_onto ts xs) ys
onto-append [] ys ts = refl
onto-append (x ∷ xs) ys ts = onto-append xs ys (with_table (is_table ts x.table) ts x.table)

tables-front : (xs ys : List Production) → length (tables xs) ≤ length (tables (xs ++ ys))
tables-front xs ys = rw (onto-append xs ys (main ∷ [])) (onto-longer ys (tables xs))

-- what holds of the whole list of rules
pub record Rules (rs : List Production) : Type 0 where
  pub labels : Apart same_label rs
  pub groups : Apart clash rs
  pub each : Each (λ p. IsUnrefused 4 p.rule) rs
  pub few_tables : length (tables rs) ≤ most_tables
  pub few : length rs ≤ most_rules

rules-after_rule : (done rest : List Production) (p : Production) → Rules (done ++ p ∷ rest) → (length (tables (done ++ p ∷ [])) ≤ most_tables) × (length (done ++ p ∷ []) ≤ most_rules)
rules-after_rule done rest p r =
    let e : done ++ p ∷ rest ≡ (done ++ p ∷ []) ++ rest = sym (append_assoc done (p ∷ []) rest) in (
      le_trans (tables-front (done ++ p ∷ []) rest) (subst (λ rs. length (tables rs) ≤ most_tables) e r.few_tables),
      omega (arith, length-append done (p ∷ []), length-append done (p ∷ rest), r.few),
    )

module _ (s : System) (none : s.homomorphisms ≡ []) where
  new_rule : (p : Production) (done rest : List Production) → Rules (done ++ p ∷ rest) → production_refusal (record s { rules = done }) 2 p ≡ None
  new_rule p done rest r =
      let new : Each (λ q. same_label q p ≡ false) done = apart-before same_label done rest p r.labels in
      let calm : Each (λ q. clash q p ≡ false) done = apart-before clash done rest p r.groups in
      let own : Each (λ q. IsUnrefused 4 q.rule) (p ∷ rest) = each-back (λ q. IsUnrefused 4 q.rule) done (p ∷ rest) r.each in
      let more : (length (tables (done ++ p ∷ [])) ≤ most_tables) × (length (done ++ p ∷ []) ≤ most_rules) = rules-after_rule done rest p r in
      let mixes : any (λ q. not (same_label q p) && clash q p) done ≡ false =
      any-none _ done (each-map (λ q. clash q p ≡ false) (λ q. (not (same_label q p) && clash q p) ≡ false) (λ q h. and-false (not (same_label q p)) (clash q p) h) done calm) in
      let stands : any (λ q. same_label q p && not (bytes_eq q.table p.table)) done ≡ false =
      any-none _ done (each-map (λ q. same_label q p ≡ false) (λ q. (same_label q p && not (bytes_eq q.table p.table)) ≡ false) (λ q h. false-and (same_label q p) (not (bytes_eq q.table p.table)) h) done new) in
      let few : nat_lt most_tables (length (tables (put p done))) ≡ false = rw (put-new p done new) (not_over most_tables (length (tables (done ++ p ∷ []))) more.0) in
      let fits : nat_lt most_rules (length (put p done) + length s.homomorphisms) ≡ false = rw (put-new p done new, none) (not_over most_rules (length (done ++ p ∷ []) + 0) (omega (arith, more.1))) in
      rw (own.0.0, own.0.1) (rw (mixes, stands, few, fits, none, own.0.2))

  rules-applied : (rest done : List Production) (cs : List Command) → Rules (done ++ rest)
      → apply_all (Ok (record s { rules = done })) (map as_put rest ++ cs) ≡ apply_all (Ok (record s { rules = done ++ rest })) cs
  rules-applied [] done cs r = ap (λ rs. apply_all (Ok (record s { rules = rs })) cs) (sym (append-nil done))
  rules-applied (p ∷ rest) done cs r =
      let e : (done ++ p ∷ []) ++ rest ≡ done ++ p ∷ rest = append_assoc done (p ∷ []) rest in
      let new : Each (λ q. same_label q p ≡ false) done = apart-before same_label done rest p r.labels in
      ap (λ o. apply_all (unless_refused o (record s { rules = put p done })) (map as_put rest ++ cs)) (new_rule p done rest r)
      ∙ ap (λ rs. apply_all (Ok (record s { rules = rs })) (map as_put rest ++ cs)) (put-new p done new)
      ∙ rules-applied rest (done ++ p ∷ []) cs (rw e r)
      ∙ ap (λ rs. apply_all (Ok (record s { rules = rs })) cs) e

-- what holds of the rules and all homomorphism rules
pub record Images (rules : List Production) (hs : List Homomorphism) : Type 0 where
  pub labels : Apart bytes_eq (map (λ p. p.label) rules ++ map (λ h. h.label) hs)
  pub each : Each (λ h. IsUnrefused 3 h.rule) hs
  pub few : length rules + length hs ≤ most_rules

labels-before : (hs rest : List Homomorphism) (h : Homomorphism) → Apart bytes_eq (map (λ q. q.label) (hs ++ h ∷ rest)) → Each (λ q. bytes_eq q.label h.label ≡ false) hs
labels-before [] rest h a = tt
labels-before (q ∷ hs) rest h a = (heads hs a.0, labels-before hs rest h a.1)
  where
    heads : (xs : List Homomorphism) → Each (λ m. bytes_eq q.label m ≡ false) (map (λ x. x.label) (xs ++ h ∷ rest)) → bytes_eq q.label h.label ≡ false
    heads [] g = g.0
    heads (x ∷ xs) g = heads xs g.1

rules-before : (ps : List Production) (hs rest : List Homomorphism) (h : Homomorphism) → Apart bytes_eq (map (λ p. p.label) ps ++ map (λ q. q.label) (hs ++ h ∷ rest)) → Each (λ p. bytes_eq p.label h.label ≡ false) ps
rules-before [] hs rest h a = tt
rules-before (p ∷ ps) hs rest h a = (heads hs (each-back (λ m. bytes_eq p.label m ≡ false) (map (λ x. x.label) ps) (map (λ q. q.label) (hs ++ h ∷ rest)) a.0), rules-before ps hs rest h a.1)
  where
    heads : (xs : List Homomorphism) → Each (λ m. bytes_eq p.label m ≡ false) (map (λ x. x.label) (xs ++ h ∷ rest)) → bytes_eq p.label h.label ≡ false
    heads [] g = g.0
    heads (x ∷ xs) g = heads xs g.1

rules-labels : (ps : List Production) (ls : List (List ℕ)) → Apart bytes_eq (map (λ p. p.label) ps ++ ls) → Apart same_label ps
rules-labels [] ls a = tt
rules-labels (p ∷ ps) ls a = (heads ps a.0, rules-labels ps ls a.1)
  where
    heads : (xs : List Production) → Each (λ m. bytes_eq p.label m ≡ false) (map (λ x. x.label) xs ++ ls) → Each (λ x. same_label p x ≡ false) xs
    heads [] g = tt
    heads (x ∷ xs) g = (g.0, heads xs g.1)

module _ (s : System) where
  new_image : (h : Homomorphism) (done rest : List Homomorphism) → Images s.rules (done ++ h ∷ rest) → homomorphism_refusal (record s { homomorphisms = done }) h ≡ None
  new_image h done rest r =
      let new : Each (λ q. bytes_eq q.label h.label ≡ false) done = labels-before done rest h (apart-back bytes_eq (map (λ p. p.label) s.rules) (map (λ q. q.label) (done ++ h ∷ rest)) r.labels) in
      let own : Each (λ q. IsUnrefused 3 q.rule) (h ∷ rest) = each-back (λ q. IsUnrefused 3 q.rule) done (h ∷ rest) r.each in
      let stands : any (λ q. bytes_eq q.label h.label) s.rules ≡ false = any-none (λ q. bytes_eq q.label h.label) s.rules (rules-before s.rules done rest h r.labels) in
      let fits : nat_lt most_rules (length s.rules + length (put_hom h done)) ≡ false =
      rw (put_hom-new h done new) (not_over most_rules (length s.rules + length (done ++ h ∷ [])) (omega (arith, length-append done (h ∷ []), length-append done (h ∷ rest), r.few))) in
      rw (own.0.0, own.0.1) (rw (stands, fits, own.0.2))

  images-applied : (rest done : List Homomorphism) (cs : List Command) → Images s.rules (done ++ rest)
      → apply_all (Ok (record s { homomorphisms = done })) (map as_put_homomorphism rest ++ cs) ≡ apply_all (Ok (record s { homomorphisms = done ++ rest })) cs
  images-applied [] done cs r = ap (λ hs. apply_all (Ok (record s { homomorphisms = hs })) cs) (sym (append-nil done))
  images-applied (h ∷ rest) done cs r =
      let e : (done ++ h ∷ []) ++ rest ≡ done ++ h ∷ rest = append_assoc done (h ∷ []) rest in
      let new : Each (λ q. bytes_eq q.label h.label ≡ false) done = labels-before done rest h (apart-back bytes_eq (map (λ p. p.label) s.rules) (map (λ q. q.label) (done ++ h ∷ rest)) r.labels) in
      ap (λ o. apply_all (unless_refused o (record s { homomorphisms = put_hom h done })) (map as_put_homomorphism rest ++ cs)) (new_image h done rest r)
      ∙ ap (λ hs. apply_all (Ok (record s { homomorphisms = hs })) (map as_put_homomorphism rest ++ cs)) (put_hom-new h done new)
      ∙ images-applied rest (done ++ h ∷ []) cs (rw e r)
      ∙ ap (λ hs. apply_all (Ok (record s { homomorphisms = hs })) cs) e

-- own lists stand in order, so each goes last
and-both : (a b : Bool) → (a && b) ≡ true → (a ≡ true) × (b ≡ true)
and-both true b h = (refl, h)
and-both false b h = cc

pub before-itself : (a : List ℕ) → comes_before a a ≡ false
before-itself [] = refl
before-itself (x ∷ a) = rw (not_over x x (omega arith), eq-eqb x x refl) (before-itself a)

turned : (x y : ℕ) (a b : List ℕ) → (comes_before a b ≡ true → comes_before b a ≡ false) → (c : Bool) → nat_lt x y ≡ c → (c || ((x == y) && comes_before a b)) ≡ true → (nat_lt y x || ((y == x) && comes_before b a)) ≡ false
turned x y a b f true l g =
    let k : x < y = ltb-true x y l in rw (not_over y x (omega (arith, k)), ne_eqb y x (λ e. omega (arith, k, e))) refl
turned x y a b f false l g =
    let e = and-both (x == y) (comes_before a b) g in
    let i : x ≡ y = eqb-true x y e.0 in rw (not_over y x (omega (arith, i)), f e.1) (and-false (y == x) false refl)

pub before-turned : (a b : List ℕ) → comes_before a b ≡ true → comes_before b a ≡ false
before-turned a [] h = cc
before-turned [] (y ∷ b) h = refl
before-turned (x ∷ a) (y ∷ b) h = turned x y a b (before-turned a b) (nat_lt x y) refl h

before-apart : (a b : List ℕ) → comes_before a b ≡ true → bytes_eq a b ≡ false
before-apart a b h = by (bytes_eq a b) refl
  where
    by : (c : Bool) → bytes_eq a b ≡ c → bytes_eq a b ≡ false
    by true e = let same : a ≡ b = (bytes_eq-Decides a b).0 e in absurd (true≢false (sym h ∙ ap (λ z. comes_before a z) (sym same) ∙ before-itself a))
    by false e = e

put_own-new : (o : Own) (qs : List Own) → Each (λ q. not (in_order q o) ≡ false) qs → put_own o qs ≡ qs ++ o ∷ []
put_own-new o [] h = refl
put_own-new o (q ∷ qs) h =
    let before : comes_before q.table o.table ≡ true = not-false (comes_before q.table o.table) h.0 in
    rw (before-apart q.table o.table before, before-turned q.table o.table before, put_own-new o qs h.1)
  where
    not-false : (b : Bool) → not b ≡ false → b ≡ true
    not-false true e = refl
    not-false false e = cc

module _ (s : System) (later : (s.version == 1) ≡ false) where
  new_own : (o : Own) (done : List Own) → is_table (tables s.rules) o.table ≡ true → length o.names ≤ most_ignored → own_refusal (record s { own = done }) o.table o.names ≡ None
  new_own o done known few =
      let there : first_place (λ x. not (is_table (tables s.rules) x)) 1 (o.table ∷ []) ≡ None = first_place-none (λ x. not (is_table (tables s.rules) x)) 1 (o.table ∷ []) (ap not known, tt) in
      let names : nat_lt most_ignored (length o.names) ≡ false = not_over most_ignored (length o.names) few in
      rw (later, there, names)

  owns-applied : (rest done : List Own) (cs : List Command) → Apart (λ o q. not (in_order o q)) (done ++ rest)
      → Each (λ o. is_table (tables s.rules) o.table ≡ true) rest → Each (λ o. length o.names ≤ most_ignored) rest → Each (λ o. Apart same_name o.names) rest
      → apply_all (Ok (record s { own = done })) (map as_set_own rest ++ cs) ≡ apply_all (Ok (record s { own = done ++ rest })) cs
  owns-applied [] done cs r known few onces = ap (λ os. apply_all (Ok (record s { own = os })) cs) (sym (append-nil done))
  owns-applied (o ∷ rest) done cs r known few onces =
      let e : (done ++ o ∷ []) ++ rest ≡ done ++ o ∷ rest = append_assoc done (o ∷ []) rest in
      let written : own_of o.kind o.table o.names ≡ o = ap (λ ns. let w : Own = record { table = o.table; kind = o.kind; names = ns } in w) (once-all o.names [] onces.0) in
      let last : put_own o done ≡ done ++ o ∷ [] = put_own-new o done (apart-before (λ o q. not (in_order o q)) done rest o r) in
      ap (λ w. apply_all (unless_refused w (record s { own = put_own (own_of o.kind o.table o.names) done })) (map as_set_own rest ++ cs)) (new_own o done known.0 few.0)
      ∙ ap (λ w. apply_all (Ok (record s { own = put_own w done })) (map as_set_own rest ++ cs)) written
      ∙ ap (λ os. apply_all (Ok (record s { own = os })) (map as_set_own rest ++ cs)) last
      ∙ owns-applied rest (done ++ o ∷ []) cs (subst (λ os. Apart (λ o q. not (in_order o q)) os) (sym e) r) known.1 few.1 onces.1
      ∙ ap (λ os. apply_all (Ok (record s { own = os })) cs) e

-- all own lists: a system of version 1 has none
own-lines : (s : System) (ws : List (List ℕ)) (d : ℕ) (cs : List Command) → WellFormed s → WellSpelled s
    → apply_all (Ok (record s { schedule = ws; depth = d; own = [] })) (map as_set_own s.own ++ cs) ≡ apply_all (Ok (record s { schedule = ws; depth = d })) cs
own-lines s ws d cs w v = by (s.version == 1) refl
  where
    by : (c : Bool) → (s.version == 1) ≡ c → apply_all (Ok (record s { schedule = ws; depth = d; own = [] })) (map as_set_own s.own ++ cs) ≡ apply_all (Ok (record s { schedule = ws; depth = d })) cs
    by true e =
        let none : s.own ≡ [] = (w.first_version (eqb-true s.version 1 e)).0 in
        ap (λ os. apply_all (Ok (record s { schedule = ws; depth = d; own = [] })) (map as_set_own os ++ cs)) none ∙ ap (λ os. apply_all (Ok (record s { schedule = ws; depth = d; own = os })) cs) (sym none)
    by false e = owns-applied (record s { schedule = ws; depth = d }) e s.own [] cs w.own_ordered w.own_tabled w.own_few v.own_once

accepted : (s : System) (c : Command) (cs : List Command) → refusal s c ≡ None → apply_all (Ok s) (c ∷ cs) ≡ apply_all (Ok (changed s c)) cs
accepted s c cs e = ap (λ o. apply_all (unless_refused o (changed s c)) cs) e

-- the last two lines
ends : (s : System) → WellFormed s → apply_all (Ok (record s { schedule = main ∷ []; depth = 0 })) (set_schedule s.schedule ∷ set_depth s.depth ∷ []) ≡ Ok s
ends s w =
    let known : first_place (λ x. not (is_table (tables s.rules) x)) 1 s.schedule ≡ None =
    first_place-none (λ x. not (is_table (tables s.rules) x)) 1 s.schedule
    (each-map (λ x. is_table (tables s.rules) x ≡ true) (λ x. not (is_table (tables s.rules) x) ≡ false) (λ x h. ap not h) s.schedule w.scheduled) in
    let words : nat_lt most_schedule_words (length s.schedule) ≡ false = not_over most_schedule_words (length s.schedule) w.few_words in
    let steps : nat_lt (depth_bound s.version) s.depth ≡ false = not_over (depth_bound s.version) s.depth w.shallow in
    let t : System = record s { schedule = main ∷ []; depth = 0 } in
    accepted t (set_schedule s.schedule) (set_depth s.depth ∷ []) (rw (known, words))
    ∙ accepted (record s { depth = 0 }) (set_depth s.depth) [] (rw steps)

-- the version and the numbering
versions : (v : ℕ) (g : Numbering) (cs : List Command) → 1 ≤ v → v ≤ greatest_version → (v ≡ 1 → g ≡ by_place)
    → apply_all (Ok opening) ((if v == 1 then [] else set_version v ∷ numbering_commands g) ++ cs) ≡ apply_all (Ok (record opening { version = v; numbering = g })) cs
versions zero g cs l k f = absurd (omega (arith, l))
versions (suc zero) g cs l k f = ap (λ g. apply_all (Ok (record opening { version = 1; numbering = g })) cs) (sym (f refl))
versions (suc (suc zero)) by_place cs l k f = refl
versions (suc (suc zero)) by_name cs l k f = refl
versions (suc (suc (suc v))) g cs l k f = absurd (omega (arith, k))

-- the first lines
begins : (s : System) (cs : List Command) → WellFormed s → WellSpelled s
    → apply_all (Ok opening) (version_commands s ++ (set_lattice s.lattice ∷ set_seed s.seed ∷ set_axiom (written s.axiom_string) ∷ set_ignored s.ignored ∷ cs))
    ≡ apply_all (Ok (record s { rules = []; homomorphisms = []; schedule = main ∷ []; depth = 0; own = [] })) cs
begins s cs w v =
    let names : nat_lt most_ignored (length s.ignored) ≡ false = not_over most_ignored (length s.ignored) w.few_ignored in
    let t : System = record s { axiom_string = []; ignored = []; rules = []; homomorphisms = []; schedule = main ∷ []; depth = 0; own = [] } in
    let u : System = record s { ignored = []; rules = []; homomorphisms = []; schedule = main ∷ []; depth = 0; own = [] } in
    versions s.version s.numbering (set_lattice s.lattice ∷ set_seed s.seed ∷ set_axiom (written s.axiom_string) ∷ set_ignored s.ignored ∷ cs) w.some_version w.known_version (λ e. (w.first_version e).1)
    ∙ accepted t (set_axiom (written s.axiom_string)) (set_ignored s.ignored ∷ cs) (rw (axiom_short_anywhere 0 1 (written s.axiom_string) w.axiom_short))
    ∙ ap (λ xs. apply_all (Ok (record t { axiom_string = xs })) (set_ignored s.ignored ∷ cs)) (written-back s.axiom_string)
    ∙ accepted u (set_ignored s.ignored) cs (rw names)
    ∙ ap (λ ns. apply_all (Ok (record u { ignored = ns })) cs) (once-all s.ignored [] v.ignored_once)

each-rule-unrefused : (ps : List Production) → Each (λ p. rule_many 0 p.rule ≡ None) ps → Each (λ p. IsSound p.rule) ps → Each (λ p. IsUnrefused 4 p.rule) ps
each-rule-unrefused [] h g = tt
each-rule-unrefused (p ∷ ps) h g = (unrefused_at 4 p.rule h.0 g.0, each-rule-unrefused ps h.1 g.1)

each-image-unrefused : (hs : List Homomorphism) → Each (λ h. rule_many 0 h.rule ≡ None) hs → Each (λ h. IsSound h.rule) hs → Each (λ h. IsUnrefused 3 h.rule) hs
each-image-unrefused [] h g = tt
each-image-unrefused (x ∷ xs) h g = (unrefused_at 3 x.rule h.0 g.0, each-image-unrefused xs h.1 g.1)

-- The edits that show prints are all accepted, and give the same system.
pub commands-applied : (s : System) → WellFormed s → WellSpelled s → apply_all (Ok opening) (show_commands s) ≡ Ok s
commands-applied s w v =
    let last : List Command = set_schedule s.schedule ∷ set_depth s.depth ∷ [] in
    let rs : Rules s.rules = record {
      labels = rules-labels s.rules (map (λ h. h.label) s.homomorphisms) w.labels;
      groups = w.groups;
      each = each-rule-unrefused s.rules w.rules_short v.rules_sound;
      few_tables = w.few_tables;
      few = omega (arith, w.few_rules);
    } in
    let hs : Images s.rules s.homomorphisms = record { labels = w.labels; each = each-image-unrefused s.homomorphisms w.homomorphisms_short v.homomorphisms_sound; few = w.few_rules } in
    let own : List Command = map as_set_own s.own ++ last in
    begins s (map as_put s.rules ++ (map as_put_homomorphism s.homomorphisms ++ own)) w v
    ∙ rules-applied (record s { rules = []; homomorphisms = []; schedule = main ∷ []; depth = 0; own = [] }) refl s.rules [] (map as_put_homomorphism s.homomorphisms ++ own) rs
    ∙ images-applied (record s { homomorphisms = []; schedule = main ∷ []; depth = 0; own = [] }) s.homomorphisms [] own hs
    ∙ own-lines s (main ∷ []) 0 last w v
    ∙ ends s w
