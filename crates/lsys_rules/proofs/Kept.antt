-- Which tables are left without a rule, and which there are with one more.
use Rattle.std.proofs.Common.{◌≡◌, ℕ, ◌+◌, Bool, true, false, not, ◌||◌, ◌&&◌, bytes_eq, List, [], ◌∷◌, ◌++◌, length, map, refl, ap, sym, ◌∙◌, arith, length-append, if◌then◌else◌}
use Rattle.std.proofs.lemmas.Slice.Eq.{bytes_eq-Decides}
use Rattle.lsys_syntax.specs.Rules.{Production}
use Rattle.lsys_spec.specs.Systems.{System, WellFormed, Homomorphism, any, main, is_table, with_table, tables_onto, tables, Apart, Each}
use Rattle.lsys_spec.specs.Edits.{put, put_hom, same_label, without_rule}
use Rattle.lsys_rules.specs.Faults.{labelled_else, elsewhere, one_unless}
use Rattle.lsys_laws.proofs.Aparts.{bytes_eq_sym, bytes_eq_true}

or_false : (a : Bool) → (a || false) ≡ a
or_false true = refl
or_false false = refl

or_true : (a : Bool) → (a || true) ≡ true
or_true true = refl
or_true false = refl

or_assoc : (a b c : Bool) → (a || (b || c)) ≡ ((a || b) || c)
or_assoc true b c = refl
or_assoc false b c = refl

any_last : {A : Type 0} (p : A → Bool) (xs : List A) (y : A) → any p (xs ++ y ∷ []) ≡ (any p xs || p y)
any_last p [] y = or_false (p y)
any_last p (x ∷ xs) y = ap (λ b. p x || b) (any_last p xs y) ∙ or_assoc (p x) (any p xs) (p y)

-- a table that stands is no other one
stands : (a e : Bool) (ts : List (List ℕ)) (t w : List ℕ) → is_table ts t ≡ a → bytes_eq t w ≡ e → is_table (with_table a ts t) w ≡ (is_table ts w || bytes_eq t w)
stands false e ts t w h k = any_last (λ u. bytes_eq u w) ts t
stands true false ts t w h k = rw k (sym (or_false (is_table ts w)))
stands true true ts t w h k =
    let same : is_table ts w ≡ true = sym (ap (is_table ts) (bytes_eq_true t w k)) ∙ h in
    rw same refl

-- a table is one of those before, or some rule's
pub onto_any : (ps : List Production) (ts : List (List ℕ)) (w : List ℕ) → is_table (tables_onto ts ps) w ≡ (is_table ts w || any (λ q. bytes_eq q.table w) ps)
onto_any [] ts w = sym (or_false (is_table ts w))
onto_any (p ∷ ps) ts w =
    onto_any ps (with_table (is_table ts p.table) ts p.table) w
    ∙ ap (λ b. b || any (λ q. bytes_eq q.table w) ps) (stands (is_table ts p.table) (bytes_eq p.table w) ts p.table w refl refl)
    ∙ sym (or_assoc (is_table ts w) (bytes_eq p.table w) (any (λ q. bytes_eq q.table w) ps))

-- `main`, or some rule's
pub table_any : (ps : List Production) (w : List ℕ) → is_table (tables ps) w ≡ (bytes_eq w main || any (λ q. bytes_eq q.table w) ps)
table_any ps w =
    onto_any ps (main ∷ []) w ∙ ap (λ b. b || any (λ q. bytes_eq q.table w) ps) (or_false (bytes_eq main w) ∙ bytes_eq_sym main w)

-- where no rule has the label, all are others
none_has : (l w : List ℕ) (ps : List Production) → Each (λ m. bytes_eq l m ≡ false) (map (λ p. p.label) ps) → any (λ q. bytes_eq q.table w) ps ≡ any (labelled_else l w) ps
none_has l w [] h = refl
none_has l w (p ∷ ps) h =
    let other : bytes_eq p.label l ≡ false = bytes_eq_sym p.label l ∙ h.0 in
    rw other (ap (λ b. bytes_eq p.table w || b) (none_has l w ps h.1))

same_labels : (l m : List ℕ) (ms : List (List ℕ)) → bytes_eq m l ≡ true → Each (λ k. bytes_eq m k ≡ false) ms → Each (λ k. bytes_eq l k ≡ false) ms
same_labels l m ms e h = rw (sym (bytes_eq_true m l e)) h

-- the rules but the one under a label, as a search sees them
pub without_any : (l w : List ℕ) (ps : List Production) → Apart bytes_eq (map (λ p. p.label) ps) → any (λ q. bytes_eq q.table w) (without_rule l ps) ≡ any (labelled_else l w) ps
without_any l w [] h = refl
without_any l w (p ∷ ps) h = by (bytes_eq p.label l) refl (without_any l w ps h.1)
  where
    by : (b : Bool) → bytes_eq p.label l ≡ b → any (λ q. bytes_eq q.table w) (without_rule l ps) ≡ any (labelled_else l w) ps
        → any (λ q. bytes_eq q.table w) (if b then ps else p ∷ without_rule l ps) ≡ (not b && bytes_eq p.table w || any (labelled_else l w) ps)
    by true e more = none_has l w ps (same_labels l p.label (map (λ p. p.label) ps) e h.0)
    by false e more = ap (λ b. bytes_eq p.table w || b) more

-- a table that is left
pub table_left : (l w : List ℕ) (ps : List Production) → Apart bytes_eq (map (λ p. p.label) ps) → (bytes_eq w main || any (labelled_else l w) ps) ≡ is_table (tables (without_rule l ps)) w
table_left l w ps h = ap (λ b. bytes_eq w main || b) (sym (without_any l w ps h)) ∙ sym (table_any (without_rule l ps) w)

-- the labels of the rules before others are apart
pub apart_first : (xs ys : List (List ℕ)) → Apart bytes_eq (xs ++ ys) → Apart bytes_eq xs
apart_first [] ys h = tt
apart_first (x ∷ xs) ys h = (each_first xs ys h.0, apart_first xs ys h.1)
  where
    each_first : (us bs : List (List ℕ)) → Each (λ y. bytes_eq x y ≡ false) (us ++ bs) → Each (λ y. bytes_eq x y ≡ false) us
    each_first [] bs k = tt
    each_first (u ∷ us) bs k = (k.0, each_first us bs k.1)

-- how many rules there are with one more
pub put_length : (p : Production) (qs : List Production) → length (put p qs) ≡ length qs + one_unless (any (λ q. bytes_eq q.label p.label) qs)
put_length p [] = refl
put_length p (q ∷ qs) = by (bytes_eq q.label p.label) (any (λ q. bytes_eq q.label p.label) qs) (put_length p qs)
  where
    by : (b c : Bool) → length (put p qs) ≡ length qs + one_unless c → length (if b then p ∷ qs else q ∷ put p qs) ≡ length (q ∷ qs) + one_unless (b || c)
    by true c more = omega arith
    by false true more = omega (arith, more)
    by false false more = omega (arith, more)

pub put_hom_length : (h : Homomorphism) (qs : List Homomorphism) → length (put_hom h qs) ≡ length qs + one_unless (any (λ q. bytes_eq q.label h.label) qs)
put_hom_length h [] = refl
put_hom_length h (q ∷ qs) = by (bytes_eq q.label h.label) (any (λ q. bytes_eq q.label h.label) qs) (put_hom_length h qs)
  where
    by : (b c : Bool) → length (put_hom h qs) ≡ length qs + one_unless c → length (if b then h ∷ qs else q ∷ put_hom h qs) ≡ length (q ∷ qs) + one_unless (b || c)
    by true c more = omega arith
    by false true more = omega (arith, more)
    by false false more = omega (arith, more)

pub with_length : (b : Bool) (ts : List (List ℕ)) (t : List ℕ) → length (with_table b ts t) ≡ length ts + one_unless b
with_length true ts t = omega arith
with_length false ts t = length-append ts (t ∷ [])

with_stands : (b : Bool) (ts : List (List ℕ)) (t w : List ℕ) → is_table ts w ≡ true → is_table (with_table b ts t) w ≡ true
with_stands true ts t w h = h
with_stands false ts t w h = any_last (λ u. bytes_eq u w) ts t ∙ ap (λ b. b || bytes_eq t w) h

onto_stands : (ps : List Production) (ts : List (List ℕ)) (w : List ℕ) → is_table ts w ≡ true → is_table (tables_onto ts ps) w ≡ true
onto_stands [] ts w h = h
onto_stands (p ∷ ps) ts w h = onto_stands ps (with_table (is_table ts p.table) ts p.table) w (with_stands (is_table ts p.table) ts p.table w h)

itself : (t : List ℕ) → bytes_eq t t ≡ true
itself t = (bytes_eq-Decides t t).1 refl

added : (b : Bool) (ts : List (List ℕ)) (t : List ℕ) → is_table ts t ≡ b → is_table (with_table b ts t) t ≡ true
added true ts t h = h
added false ts t h = any_last (λ u. bytes_eq u t) ts t ∙ ap (λ b. is_table ts t || b) (itself t) ∙ or_true (is_table ts t)

-- The tables with one more rule, where no rule of its label has another table.
pub put_tables : (p : Production) (qs : List Production) (ts : List (List ℕ)) → any (elsewhere p) qs ≡ false → tables_onto ts (put p qs) ≡ with_table (is_table (tables_onto ts qs) p.table) (tables_onto ts qs) p.table
put_tables p [] ts h = refl
put_tables p (q ∷ qs) ts h = by (same_label q p) (bytes_eq q.table p.table) refl h (λ k. put_tables p qs (with_table (is_table ts q.table) ts q.table) k)
  where
    onto : List (List ℕ)
    onto = with_table (is_table ts q.table) ts q.table

    by : (b c : Bool) → bytes_eq q.table p.table ≡ c → (b && not c || any (elsewhere p) qs) ≡ false
        → (any (elsewhere p) qs ≡ false → tables_onto onto (put p qs) ≡ with_table (is_table (tables_onto onto qs) p.table) (tables_onto onto qs) p.table)
        → tables_onto ts (if b then p ∷ qs else q ∷ put p qs) ≡ with_table (is_table (tables_onto onto qs) p.table) (tables_onto onto qs) p.table
    by false c e k more = more k
    by true false e k more = cc
    by true true e k more =
        let same : q.table ≡ p.table = bytes_eq_true q.table p.table e in
        let there : is_table (tables_onto onto qs) p.table ≡ true = onto_stands qs onto p.table (rw (← same) (added (is_table ts q.table) ts q.table refl)) in
        rw (there, same) refl

-- the labels of a well-formed system's productions are apart
pub own_labels : (s : System) → WellFormed s → Apart bytes_eq (map (λ p. p.label) s.rules)
own_labels s w = apart_first (map (λ p. p.label) s.rules) (map (λ h. h.label) s.homomorphisms) w.labels
