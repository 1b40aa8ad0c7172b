-- What dropping a rule and putting a rule of the homomorphism leave.
use Rattle.std.proofs.Common.{◌≡◌, ℕ, Bool, true, false, not, ◌||◌, None, List, [], ◌∷◌, ◌++◌, ◌+◌, ◌≤◌, nat_lt, length, map, refl, ap, ◌∙◌, sym, subst, arith, append_assoc, append-nil, bytes_eq, if◌then◌else◌, le_trans}
use Rattle.lsys_syntax.specs.Limits.{nesting_bound, most_rules, most_successor_symbols}
use Rattle.lsys_syntax.specs.Pieces.{IsWordText}
use Rattle.lsys_syntax.specs.Rules.{Rule, Production, IsRule, IsProduction, rule_nesting}
use Rattle.lsys_syntax.specs.Checks.{rule_unknown, rule_repeated, rule_many}
use Rattle.lsys_syntax.specs.Commands.{IsHomomorphism}
use Rattle.lsys_spec.specs.Systems.{System, Own, Homomorphism, any, is_table, tables, clash, IsSound, Each, Apart}
use Rattle.lsys_spec.specs.Edits.{unknown_name, duplicate, wrong_label, wrong_table, many, or_else, refused_if, refused_at, put_hom, without_rule, without_hom, homomorphism_refusal, loses_table, drop_refusal}
use Rattle.lsys_laws.proofs.Unrefused.{both_none, if_none, at_none, few, none_passes}
use Rattle.lsys_spec.proofs.Tests.{not_false}
use Rattle.lsys_spec.proofs.Eachs.{each_more, each_append}
use Rattle.lsys_laws.proofs.Aparts.{bytes_eq_true, apart_insert, each_mapped, map_append, map_swap, Placed, in_place, at_end, placed_later, each_placed, Dropped, gone, dropped_later, dropped_map, dropped_front, dropped_back, each_dropped, apart_dropped, length_dropped, all_stay}
use Rattle.lsys_laws.proofs.Tabled.{tables_dropped}
use Rattle.lsys_laws.proofs.KeptRules.{short_anywhere, sound_anywhere}
use Rattle.lsys_laws.proofs.Parts.{IsShort, IsImage, OfRules, OfSchedule, OfOwn, Parts}

-- dropping

rule_by : (b : Bool) (l : List ℕ) (q : Production) (qs : List Production) → Dropped qs (without_rule l qs) → Dropped (q ∷ qs) (if b then qs else q ∷ without_rule l qs)
rule_by true l q qs h = gone [] q qs refl refl
rule_by false l q qs h = dropped_later q qs (without_rule l qs) h

rule_dropped : (l : List ℕ) (rs : List Production) → Dropped rs (without_rule l rs)
rule_dropped l [] = all_stay refl
rule_dropped l (q ∷ qs) = rule_by (bytes_eq q.label l) l q qs (rule_dropped l qs)

hom_by : (b : Bool) (l : List ℕ) (q : Homomorphism) (qs : List Homomorphism) → Dropped qs (without_hom l qs) → Dropped (q ∷ qs) (if b then qs else q ∷ without_hom l qs)
hom_by true l q qs h = gone [] q qs refl refl
hom_by false l q qs h = dropped_later q qs (without_hom l qs) h

hom_dropped : (l : List ℕ) (hs : List Homomorphism) → Dropped hs (without_hom l hs)
hom_dropped l [] = all_stay refl
hom_dropped l (q ∷ qs) = hom_by (bytes_eq q.label l) l q qs (hom_dropped l qs)

labels_dropped : (rs rest : List Production) (hs left : List Homomorphism) → Dropped rs rest → Dropped hs left
    → Apart bytes_eq (map (λ x. x.label) rs ++ map (λ x. x.label) hs) → Apart bytes_eq (map (λ x. x.label) rest ++ map (λ x. x.label) left)
labels_dropped rs rest hs left d e h =
    apart_dropped bytes_eq (map (λ x. x.label) rest ++ map (λ x. x.label) hs) (map (λ x. x.label) rest ++ map (λ x. x.label) left)
    (dropped_back (map (λ x. x.label) rest) (map (λ x. x.label) hs) (map (λ x. x.label) left) (dropped_map (λ x. x.label) hs left e))
    (apart_dropped bytes_eq (map (λ x. x.label) rs ++ map (λ x. x.label) hs) (map (λ x. x.label) rest ++ map (λ x. x.label) hs)
    (dropped_front (map (λ x. x.label) rs) (map (λ x. x.label) rest) (map (λ x. x.label) hs) (dropped_map (λ x. x.label) rs rest d)) h)

each_first : {A : Type 0} (P : A → Type 0) (xs ys : List A) → Each P (xs ++ ys) → Each P xs
each_first P [] ys h = tt
each_first P (x ∷ xs) ys h = (h.0, each_first P xs ys h.1)

each_rest : {A : Type 0} (P : A → Type 0) (xs ys : List A) → Each P (xs ++ ys) → Each P ys
each_rest P [] ys h = h
each_rest P (x ∷ xs) ys h = each_rest P xs ys h.1

each_unmapped : (P Q : List ℕ → Type 0) (os : List Own) → ((t : List ℕ) → P t → Q t) → Each P (map (λ o. o.table) os) → Each (λ o. Q o.table) os
each_unmapped P Q [] f h = tt
each_unmapped P Q (o ∷ os) f h = (f o.table h.0, each_unmapped P Q os f h.1)

pub drop_kept : (s : System) (l : List ℕ) → Parts s → drop_refusal s l ≡ None
    → OfRules (without_rule l s.rules) (without_hom l s.homomorphisms) × OfSchedule (without_rule l s.rules) s.schedule × OfOwn (without_rule l s.rules) s.own
drop_kept s l w h =
    let o = w.of_rules in
    let rest = without_rule l s.rules in
    let left = without_hom l s.homomorphisms in
    let d : Dropped s.rules rest = rule_dropped l s.rules in
    let e : Dropped s.homomorphisms left = hom_dropped l s.homomorphisms in
    let calm = both_none (refused_if (not (any (λ q. bytes_eq q.label l) s.rules || any (λ x. bytes_eq x.label l) s.homomorphisms)) wrong_label 1) (refused_if (loses_table rest (s.schedule ++ map (λ o. o.table) s.own)) wrong_table 1) h in
    let all : Each (λ v. not (is_table (tables rest) v) ≡ false) (s.schedule ++ map (λ o. o.table) s.own) =
    none_passes (λ v. not (is_table (tables rest) v)) (s.schedule ++ map (λ o. o.table) s.own) (if_none (loses_table rest (s.schedule ++ map (λ o. o.table) s.own)) wrong_table 1 calm.1) in
    let stay : Each (λ v. not (is_table (tables rest) v) ≡ false) s.schedule = each_first (λ v. not (is_table (tables rest) v) ≡ false) s.schedule (map (λ o. o.table) s.own) all in (
      record {
        labels = labels_dropped s.rules rest s.homomorphisms left d e o.labels;
        groups = apart_dropped clash s.rules rest d o.groups;
        rules = each_dropped IsProduction s.rules rest d o.rules;
        homomorphisms = each_dropped IsImage s.homomorphisms left e o.homomorphisms;
        rules_short = each_dropped (λ x. IsShort x.rule) s.rules rest d o.rules_short;
        homomorphisms_short = each_dropped (λ x. IsShort x.rule) s.homomorphisms left e o.homomorphisms_short;
        rules_sound = each_dropped (λ x. IsSound x.rule) s.rules rest d o.rules_sound;
        homomorphisms_sound = each_dropped (λ x. IsSound x.rule) s.homomorphisms left e o.homomorphisms_sound;
        few_tables = le_trans (tables_dropped s.rules rest d) o.few_tables;
        few_rules = omega (arith, length_dropped s.rules rest d, length_dropped s.homomorphisms left e, o.few_rules);
        successors_few = each_dropped (λ x. length x.rule.successor ≤ most_successor_symbols) s.rules rest d o.successors_few;
      },
      record {
        words = w.of_schedule.words;
        some_word = w.of_schedule.some_word;
        scheduled = each_more (λ v. not (is_table (tables rest) v) ≡ false) (λ v. is_table (tables rest) v ≡ true) s.schedule (λ v. not_false (is_table (tables rest) v)) stay;
        few = w.of_schedule.few;
      },
      record {
        tabled = each_unmapped (λ v. not (is_table (tables rest) v) ≡ false) (λ v. is_table (tables rest) v ≡ true) s.own (λ v. not_false (is_table (tables rest) v)) (each_rest (λ v. not (is_table (tables rest) v) ≡ false) s.schedule (map (λ o. o.table) s.own) all);
        ordered = w.of_own.ordered;
        few = w.of_own.few;
        words = w.of_own.words;
        names = w.of_own.names;
        once = w.of_own.once;
      },
    )

-- a rule of the homomorphism

by_label : (h q : Homomorphism) (qs : List Homomorphism) (b : Bool) → bytes_eq q.label h.label ≡ b
    → Placed (λ x. x.label) h qs (put_hom h qs) → Placed (λ x. x.label) h (q ∷ qs) (if b then h ∷ qs else q ∷ put_hom h qs)
by_label h q qs true e k = in_place [] q qs refl refl e
by_label h q qs false e k = placed_later (λ x. x.label) h q qs (put_hom h qs) e k

hom_placed : (h : Homomorphism) (hs : List Homomorphism) → Placed (λ x. x.label) h hs (put_hom h hs)
hom_placed h [] = at_end refl tt
hom_placed h (q ∷ qs) = by_label h q qs (bytes_eq q.label h.label) refl (hom_placed h qs)

labels_put : (h : Homomorphism) (ls : List (List ℕ)) (old new : List Homomorphism) → Placed (λ x. x.label) h old new
    → Each (λ l. bytes_eq l h.label ≡ false) ls → Apart bytes_eq (ls ++ map (λ x. x.label) old) → Apart bytes_eq (ls ++ map (λ x. x.label) new)
labels_put h ls old new (in_place xs q ys e f k) n a =
    let g : map (λ x. x.label) old ≡ map (λ x. x.label) new =
    ap (map (λ x. x.label)) e ∙ map_swap (λ x. x.label) xs ys q h (bytes_eq_true q.label h.label k) ∙ sym (ap (map (λ x. x.label)) f) in
    subst (λ l. Apart bytes_eq (ls ++ l)) g a
labels_put h ls old new (at_end e k) n a =
    let before = ls ++ map (λ x. x.label) old in
    let g : ls ++ map (λ x. x.label) new ≡ before ++ h.label ∷ [] =
    ap (λ l. ls ++ map (λ x. x.label) l) e ∙ ap (λ l. ls ++ l) (map_append (λ x. x.label) old (h ∷ [])) ∙ sym (append_assoc ls (map (λ x. x.label) old) (h.label ∷ [])) in
    subst (Apart bytes_eq) (sym g)
    (apart_insert bytes_eq before [] h.label (subst (Apart bytes_eq) (sym (append-nil before)) a)
    (each_append (λ l. bytes_eq l h.label ≡ false) ls (map (λ x. x.label) old) n (each_mapped (λ x. x.label) (λ l. bytes_eq l h.label ≡ false) old k)) tt)

pub homomorphism_kept : (s : System) (l : List ℕ) (r : Rule) → Parts s → IsWordText l → IsRule r → IsHomomorphism r → rule_nesting r ≤ nesting_bound
    → homomorphism_refusal s (record { label = l; rule = r }) ≡ None
    → OfRules s.rules (put_hom (record { label = l; rule = r }) s.homomorphisms)
homomorphism_kept s l r w il ir ih deep k =
    let h : Homomorphism = record { label = l; rule = r } in
    let o = w.of_rules in
    let a = refused_at (rule_unknown 3 r) unknown_name in
    let b = refused_at (rule_repeated 3 r) duplicate in
    let c = refused_if (any (λ q. bytes_eq q.label l) s.rules) wrong_label 1 in
    let d = refused_if (nat_lt most_rules (length s.rules + length (put_hom h s.homomorphisms))) many 1 in
    let e = refused_at (rule_many 3 r) many in
    let h1 = both_none a (or_else b (or_else c (or_else d e))) k in
    let h2 = both_none b (or_else c (or_else d e)) h1.1 in
    let h3 = both_none c (or_else d e) h2.1 in
    let h4 = both_none d e h3.1 in
    let p : Placed (λ x. x.label) h s.homomorphisms (put_hom h s.homomorphisms) = hom_placed h s.homomorphisms in
    let new : Each (λ q. bytes_eq q.label l ≡ false) s.rules = none_passes (λ q. bytes_eq q.label l) s.rules (if_none (any (λ q. bytes_eq q.label l) s.rules) wrong_label 1 h3.0) in
    record {
      labels = labels_put h (map (λ x. x.label) s.rules) s.homomorphisms (put_hom h s.homomorphisms) p (each_mapped (λ x. x.label) (λ m. bytes_eq m l ≡ false) s.rules new) o.labels;
      groups = o.groups;
      rules = o.rules;
      homomorphisms = each_placed (λ x. x.label) h s.homomorphisms (put_hom h s.homomorphisms) IsImage p o.homomorphisms (il, ir, ih);
      rules_short = o.rules_short;
      homomorphisms_short = each_placed (λ x. x.label) h s.homomorphisms (put_hom h s.homomorphisms) (λ x. IsShort x.rule) p o.homomorphisms_short (short_anywhere 3 r (at_none (rule_many 3 r) many h4.1));
      rules_sound = o.rules_sound;
      homomorphisms_sound = each_placed (λ x. x.label) h s.homomorphisms (put_hom h s.homomorphisms) (λ x. IsSound x.rule) p o.homomorphisms_sound (sound_anywhere 3 r (at_none (rule_unknown 3 r) unknown_name h1.0) (at_none (rule_repeated 3 r) duplicate h2.0) deep);
      few_tables = o.few_tables;
      few_rules = few most_rules (length s.rules + length (put_hom h s.homomorphisms)) many 1 h4.0;
      successors_few = o.successors_few;
    }
