-- The place of a `many` is the least at which any limit is passed.
use Rattle.std.proofs.Common.{◌≡◌, ℕ, zero, suc, Bool, true, false, Option, Some, None, List, [], ◌∷◌, ◌+◌, ◌<◌, ◌≤◌, ◌&&◌, nat_lt, length, refl, ap, ◌∙◌, sym, subst, arith, if◌then◌else◌, true≢false}
use Rattle.std.specs.Prelude.{◌↔◌, not}
use Rattle.std.proofs.lemmas.Bool.Decides.{nat_tests}
use Rattle.lsys_syntax.specs.Limits.{most_tables, most_rules}
use Rattle.lsys_syntax.specs.Pieces.{Piece, blank, token, note}
use Rattle.lsys_syntax.specs.Rules.{Production, rule_pieces}
use Rattle.lsys_syntax.specs.Checks.{Counts, count_note, count_token, passes_limit, many_place, rule_counts, rule_unknown, rule_repeated, rule_many}
use Rattle.lsys_spec.specs.Systems.{System, any, tables, clash}
use Rattle.lsys_spec.specs.Edits.{Why, unknown_name, duplicate, mixed, wrong_label, many, Refusal, or_else, refused_if, refused_at, same_label, put, stands_elsewhere, production_refusal}
use Rattle.lsys_laws.specs.FirstMany.{PassesAt, IsLeast, Passes, by_tables, by_rules, by_itself}

-- 1. one rule or string

some_counts : (c d : Counts) → Some c ≡ Some d → c ≡ d
some_counts c d e = cc

some_place : (m n : ℕ) → Some m ≡ Some n → m ≡ n
some_place m n e = cc

no_earlier : (P : ℕ → Type 0) (j : ℕ) → j < 0 → P j → ⊥
no_earlier P j l h = omega (arith, l)

-- the first token passes
here : (c : Counts) (n : ℕ) (t : Piece) (ps : List Piece) (P : ℕ → Type 0) (p : ℕ) → P 0 → Some n ≡ Some p → (k : ℕ) × (p ≡ n + k) × IsLeast P k
here c n t ps P p h e = let f = some_place n p e in (0, sym f ∙ omega arith, (h, λ j l q. no_earlier P j l q))

-- only the pieces after the first token pass
after : (P Q : ℕ → Type 0) (n p : ℕ) → (P 0 → ⊥) → ((j : ℕ) → P (suc j) → Q j) → ((j : ℕ) → Q j → P (suc j)) → (k : ℕ) × (p ≡ n + 1 + k) × IsLeast Q k → (k : ℕ) × (p ≡ n + k) × IsLeast P k
after P Q n p z f g h = (suc h.0, h.1 ∙ omega arith, (g h.0 h.2.0, by_case))
  where
    by_case : (j : ℕ) → j < suc h.0 → P j → ⊥
    by_case zero l q = z q
    by_case (suc j) l q = h.2.1 j (omega (arith, l)) (f j q)

place_told : (c : Counts) (n : ℕ) (ps : List Piece) (p : ℕ) → many_place c n ps ≡ Some p → (k : ℕ) × (p ≡ n + k) × IsLeast (PassesAt c ps) k
place_told c n [] p h = cc
place_told c n (blank ∷ ps) p h = place_told c n ps p h
place_told c n (note m ∷ ps) p h = place_told (count_note m c) n ps p h
place_told c n (token t ∷ ps) p h = by_test (passes_limit (count_token c)) refl (place_told (count_token c) (n + 1) ps p) h
  where
    by_test : (b : Bool) → passes_limit (count_token c) ≡ b → (many_place (count_token c) (n + 1) ps ≡ Some p → (k : ℕ) × (p ≡ n + 1 + k) × IsLeast (PassesAt (count_token c) ps) k)
        → (if b then Some n else many_place (count_token c) (n + 1) ps) ≡ Some p → (k : ℕ) × (p ≡ n + k) × IsLeast (PassesAt c (token t ∷ ps)) k
    by_test true e ih g = here c n (token t) ps (PassesAt c (token t ∷ ps)) p (count_token c, refl, e) g
    by_test false e ih g =
        after (PassesAt c (token t ∷ ps)) (PassesAt (count_token c) ps) n p
        (λ q. true≢false (sym q.2 ∙ sym (ap passes_limit (some_counts (count_token c) q.0 q.1)) ∙ e)) (λ j q. q) (λ j q. q) (ih g)

-- none is told where none passes
place_none : (c : Counts) (n : ℕ) (ps : List Piece) → many_place c n ps ≡ None → (k : ℕ) → PassesAt c ps k → ⊥
place_none c n [] h k q = cc
place_none c n (blank ∷ ps) h k q = place_none c n ps h k q
place_none c n (note m ∷ ps) h k q = place_none (count_note m c) n ps h k q
place_none c n (token t ∷ ps) h k q = by_test (passes_limit (count_token c)) refl (place_none (count_token c) (n + 1) ps) h k q
  where
    by_test : (b : Bool) → passes_limit (count_token c) ≡ b → (many_place (count_token c) (n + 1) ps ≡ None → (k : ℕ) → PassesAt (count_token c) ps k → ⊥)
        → (if b then Some n else many_place (count_token c) (n + 1) ps) ≡ None → (k : ℕ) → PassesAt c (token t ∷ ps) k → ⊥
    by_test true e ih g k q = cc
    by_test false e ih g zero q = true≢false (sym q.2 ∙ sym (ap passes_limit (some_counts (count_token c) q.0 q.1)) ∙ e)
    by_test false e ih g (suc k) q = ih g k q

one_least : (P : ℕ → Type 0) (j k : ℕ) → IsLeast P j → IsLeast P k → j ≡ k
one_least P j k a b = by (nat_lt j k) (nat_lt k j) refl refl
  where
    by : (x y : Bool) → nat_lt j k ≡ x → nat_lt k j ≡ y → j ≡ k
    by true y e f = absurd (b.1 j (grind (arith, nat_tests)) a.0)
    by false true e f = absurd (a.1 k (grind (arith, nat_tests)) b.0)
    by false false e f = grind (arith, nat_tests)

pub many_least : (c : Counts) (n : ℕ) (ps : List Piece) (p : ℕ) → (many_place c n ps ≡ Some p) ↔ ((k : ℕ) × (p ≡ n + k) × IsLeast (PassesAt c ps) k)
many_least c n ps p = (place_told c n ps p, λ h. back h (many_place c n ps) refl)
  where
    back : (k : ℕ) × (p ≡ n + k) × IsLeast (PassesAt c ps) k → (o : Option ℕ) → many_place c n ps ≡ o → many_place c n ps ≡ Some p
    back h None e = absurd (place_none c n ps e h.0 h.2.0)
    back h (Some q) e =
        let g = place_told c n ps q e in
        let k : g.0 ≡ h.0 = one_least (PassesAt c ps) g.0 h.0 g.2 h.2 in
        e ∙ ap (λ m. Some m) (g.1 ∙ ap (λ m. n + m) k ∙ sym h.1)

pub many_none : (c : Counts) (n : ℕ) (ps : List Piece) → (many_place c n ps ≡ None) ↔ ((k : ℕ) → PassesAt c ps k → ⊥)
many_none c n ps = (place_none c n ps, λ h. back h (many_place c n ps) refl)
  where
    back : ((k : ℕ) → PassesAt c ps k → ⊥) → (o : Option ℕ) → many_place c n ps ≡ o → many_place c n ps ≡ None
    back h None e = e
    back h (Some q) e = let g = place_told c n ps q e in absurd (h g.0 g.2.0)

-- 2. a production

some_refusal : (r q : Refusal) → Some r ≡ Some q → r ≡ q
some_refusal r q e = cc

abbrev refused_for : Why → ℕ → Refusal
refused_for why place = record { why = why; place = place }

-- past a check for something else
past_if : (b : Bool) (w : Why) (n : ℕ) (o : Option Refusal) (r : Refusal) → (many ≡ w → ⊥) → or_else (refused_if b w n) o ≡ Some r → r.why ≡ many → o ≡ Some r
past_if true w n o r f h k = absurd (f (sym k ∙ sym (ap (λ (q : Refusal). q.why) (some_refusal (refused_for w n) r h))))
past_if false w n o r f h k = h

past_at : (p : Option ℕ) (w : Why) (o : Option Refusal) (r : Refusal) → (many ≡ w → ⊥) → or_else (refused_at p w) o ≡ Some r → r.why ≡ many → o ≡ Some r
past_at (Some n) w o r f h k = absurd (f (sym k ∙ sym (ap (λ (q : Refusal). q.why) (some_refusal (refused_for w n) r h))))
past_at None w o r f h k = h

over : (m n : ℕ) → nat_lt m n ≡ true → m < n
over m n h = grind (arith, nat_tests)

not_over : (m n : ℕ) → nat_lt m n ≡ false → m < n → ⊥
not_over m n h l = grind (arith, nat_tests)

by_own : (s : System) (n : ℕ) (p : Production) (r : Refusal) → 1 ≤ n → (most_tables < length (tables (put p s.rules)) → ⊥) → (most_rules < length (put p s.rules) + length s.homomorphisms → ⊥)
    → refused_at (rule_many (n + 2) p.rule) many ≡ Some r → IsLeast (Passes s n p) r.place
by_own s n p r low t u h = by (rule_many (n + 2) p.rule) refl h
  where
    before : (k : ℕ) → IsLeast (PassesAt rule_counts (rule_pieces p.rule)) k → (j : ℕ) → j < n + 2 + k → Passes s n p j → ⊥
    before k l j i (by_tables e g) = t g
    before k l j i (by_rules e g) = u g
    before k l j i (by_itself m e g) = l.1 m (omega (arith, i, e)) g

    by : (o : Option ℕ) → rule_many (n + 2) p.rule ≡ o → refused_at o many ≡ Some r → IsLeast (Passes s n p) r.place
    by None e g = cc
    by (Some q) e g =
        let place : q ≡ r.place = ap (λ (x : Refusal). x.place) (some_refusal (refused_for many q) r g) in
        let told = place_told rule_counts (n + 2) (rule_pieces p.rule) q e in
        subst (IsLeast (Passes s n p)) place
        (by_itself told.0 told.1 told.2.0, λ j i. before told.0 told.2 j (subst (λ m. j < m) told.1 i))

by_label : (s : System) (n : ℕ) (p : Production) (r : Refusal) → 1 ≤ n → (most_tables < length (tables (put p s.rules)) → ⊥)
    → or_else (refused_if (nat_lt most_rules (length (put p s.rules) + length s.homomorphisms)) many n) (refused_at (rule_many (n + 2) p.rule) many) ≡ Some r → IsLeast (Passes s n p) r.place
by_label s n p r low t h = by (nat_lt most_rules (length (put p s.rules) + length s.homomorphisms)) refl h
  where
    before : (j : ℕ) → j < n → Passes s n p j → ⊥
    before j i (by_tables e g) = t g
    before j i (by_rules e g) = omega (arith, i, e)
    before j i (by_itself m e g) = omega (arith, i, e)

    by : (b : Bool) → nat_lt most_rules (length (put p s.rules) + length s.homomorphisms) ≡ b → or_else (refused_if b many n) (refused_at (rule_many (n + 2) p.rule) many) ≡ Some r → IsLeast (Passes s n p) r.place
    by true e g =
        let place : n ≡ r.place = ap (λ (x : Refusal). x.place) (some_refusal (refused_for many n) r g) in
        subst (IsLeast (Passes s n p)) place (by_rules refl (over most_rules (length (put p s.rules) + length s.homomorphisms) e), before)
    by false e g = by_own s n p r low t (not_over most_rules (length (put p s.rules) + length s.homomorphisms) e) g

by_table : (s : System) (n : ℕ) (p : Production) (r : Refusal) → 1 ≤ n
    → or_else (refused_if (nat_lt most_tables (length (tables (put p s.rules)))) many 1)
    (or_else (refused_if (nat_lt most_rules (length (put p s.rules) + length s.homomorphisms)) many n) (refused_at (rule_many (n + 2) p.rule) many)) ≡ Some r → IsLeast (Passes s n p) r.place
by_table s n p r low h = by (nat_lt most_tables (length (tables (put p s.rules)))) refl h
  where
    before : (j : ℕ) → j < 1 → Passes s n p j → ⊥
    before j i (by_tables e g) = omega (arith, i, e)
    before j i (by_rules e g) = omega (arith, i, e, low)
    before j i (by_itself m e g) = omega (arith, i, e)

    by : (b : Bool) → nat_lt most_tables (length (tables (put p s.rules))) ≡ b
        → or_else (refused_if b many 1) (or_else (refused_if (nat_lt most_rules (length (put p s.rules) + length s.homomorphisms)) many n) (refused_at (rule_many (n + 2) p.rule) many)) ≡ Some r
        → IsLeast (Passes s n p) r.place
    by true e g =
        let place : 1 ≡ r.place = ap (λ (x : Refusal). x.place) (some_refusal (refused_for many 1) r g) in
        subst (IsLeast (Passes s n p)) place (by_tables refl (over most_tables (length (tables (put p s.rules))) e), before)
    by false e g = by_label s n p r low (not_over most_tables (length (tables (put p s.rules))) e) g

pub production_least : (s : System) (n : ℕ) (p : Production) (r : Refusal) → 1 ≤ n → production_refusal s n p ≡ Some r → r.why ≡ many → IsLeast (Passes s n p) r.place
production_least s n p r low h k =
    let a = past_at (rule_unknown (n + 2) p.rule) unknown_name _ r (λ e. cc) h k in
    let b = past_at (rule_repeated (n + 2) p.rule) duplicate _ r (λ e. cc) a k in
    let c = past_if (any (λ q. not (same_label q p) && clash q p) s.rules) mixed n _ r (λ e. cc) b k in
    let d = past_if (stands_elsewhere s p) wrong_label n _ r (λ e. cc) c k in
    by_table s n p r low d
