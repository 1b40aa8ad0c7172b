-- What edits of rules leave.
use Rattle.std.proofs.Common.{◌≡◌, ℕ, Bool, true, false, ◌&&◌, Option, None, Some, List, [], ◌∷◌, ◌++◌, ◌+◌, ◌≤◌, ◌==◌, nat_lt, length, map, refl, ap, ◌∙◌, sym, subst, arith, append_assoc, append-nil, bytes_eq, if◌then◌else◌}
use Rattle.std.specs.Prelude.{not}
use Rattle.std.proofs.lemmas.Bool.Decides.{nat_tests}
use Rattle.lsys_syntax.specs.Limits.{nesting_bound, most_rules, most_tables, most_successor_symbols}
use Rattle.lsys_syntax.specs.Tokens.{NameText}
use Rattle.lsys_syntax.specs.Pieces.{Piece, blank, token, note, IsWordText}
use Rattle.lsys_syntax.specs.Rules.{Rule, Production, IsRule, IsProduction, rule_nesting, rule_pieces}
use Rattle.lsys_syntax.specs.Checks.{is_unknown, inside_after, is_param, formal_of, repeats, unknown_place, repeated_place, rule_counts, rule_formals, rule_unknown, rule_repeated, rule_many}
use Rattle.lsys_syntax.specs.Commands.{IsTable}
use Rattle.lsys_spec.specs.Systems.{System, main, any, module_name_text, is_table, tables, is_weighted, differ, clash, IsSound, Each, Apart}
use Rattle.lsys_spec.specs.Edits.{unknown_name, duplicate, mixed, wrong_label, many, or_else, refused_if, refused_at, same_label, put, table_or_main, production_of, label_place, stands_elsewhere, production_refusal}
use Rattle.lsys_laws.proofs.Unrefused.{both_none, if_none, at_none, few, none_passes, place_none}
use Rattle.lsys_spec.proofs.Tests.{not_false, neither}
use Rattle.lsys_spec.proofs.Eachs.{each_more, each_front, each_back}
use Rattle.lsys_laws.proofs.Aparts.{bytes_eq_true, bytes_eq_sym, apart_before, apart_after, apart_front, apart_swap, apart_insert, apart_unmapped, each_mapped, map_append, map_swap, Placed, in_place, at_end, placed_later, each_placed}
use Rattle.lsys_laws.proofs.Tabled.{tables_swap, tables_more}
use Rattle.lsys_laws.proofs.Parts.{IsShort, OfRules, OfSchedule, Parts, OfOwn}
use Rattle.lsys_syntax.proofs.Wide.{is-small}
use Rattle.lsys_laws.proofs.KeptAxiom.{many_anywhere}

-- what a rule is refused for depends on no place

unknown_anywhere : (fs : List NameText) (inside : Bool) (m n : ℕ) (ps : List Piece) → unknown_place fs inside n ps ≡ None → unknown_place fs inside m ps ≡ None
unknown_anywhere fs inside m n [] h = refl
unknown_anywhere fs inside m n (blank ∷ ps) h = unknown_anywhere fs inside m n ps h
unknown_anywhere fs inside m n (note k ∷ ps) h = unknown_anywhere fs (inside_after k inside) m n ps h
unknown_anywhere fs inside m n (token k ∷ ps) h =
    let e = place_none (inside && is_unknown fs k) n (unknown_place fs inside (n + 1) ps) h in
    rw e.0 (unknown_anywhere fs inside (m + 1) (n + 1) ps e.1)

repeated_anywhere : (seen : List NameText) (due : Bool) (m n : ℕ) (ps : List Piece) → repeated_place seen due n ps ≡ None → repeated_place seen due m ps ≡ None
repeated_anywhere seen due m n [] h = refl
repeated_anywhere seen due m n (blank ∷ ps) h = repeated_anywhere seen due m n ps h
repeated_anywhere seen due m n (note k ∷ ps) h = repeated_anywhere seen (is_param k) m n ps h
repeated_anywhere seen due m n (token k ∷ ps) h =
    let e = place_none (repeats seen (formal_of due k)) n (repeated_place (seen ++ formal_of due k) false (n + 1) ps) h in
    rw e.0 (repeated_anywhere (seen ++ formal_of due k) false (m + 1) (n + 1) ps e.1)

pub short_anywhere : (n : ℕ) (r : Rule) → rule_many n r ≡ None → IsShort r
short_anywhere n r k = many_anywhere rule_counts 0 n (rule_pieces r) refl k

pub sound_anywhere : (n : ℕ) (r : Rule) → rule_unknown n r ≡ None → rule_repeated n r ≡ None → rule_nesting r ≤ nesting_bound → IsSound r
sound_anywhere n r u d deep = record {
  known = unknown_anywhere (rule_formals r) false 0 n (rule_pieces r) u;
  once = repeated_anywhere [] false 0 n (rule_pieces r) d;
  nested = deep;
}

-- two lists of facts

each_zip : {A : Type 0} (P Q R : A → Type 0) (xs : List A) → ((x : A) → P x → Q x → R x) → Each P xs → Each Q xs → Each R xs
each_zip P Q R [] f h k = tt
each_zip P Q R (x ∷ xs) f h k = (f x h.0 k.0, each_zip P Q R xs f h.1 k.1)

-- clashing goes both ways

number_sym : (m n : ℕ) → (m == n) ≡ (n == m)
number_sym m n = grind (arith, nat_tests)

differ_sym : (a b : Bool) → differ a b ≡ differ b a
differ_sym true true = refl
differ_sym true false = refl
differ_sym false true = refl
differ_sym false false = refl

clash_sym : (q p : Production) → clash q p ≡ clash p q
clash_sym q p =
    let t = bytes_eq_sym q.table p.table in
    let n = bytes_eq_sym (module_name_text q.rule.name) (module_name_text p.rule.name) in
    let f = number_sym (length q.rule.formals) (length p.rule.formals) in
    let w = differ_sym (is_weighted q.rule.weight) (is_weighted p.rule.weight) in
    λ i. t i && n i && f i && w i

-- a production that is put

by_label : (p q : Production) (qs : List Production) (b : Bool) → bytes_eq q.label p.label ≡ b
    → Placed (λ x. x.label) p qs (put p qs) → Placed (λ x. x.label) p (q ∷ qs) (if b then p ∷ qs else q ∷ put p qs)
by_label p q qs true e h = in_place [] q qs refl refl e
by_label p q qs false e h = placed_later (λ x. x.label) p q qs (put p qs) e h

put_placed : (p : Production) (rs : List Production) → Placed (λ x. x.label) p rs (put p rs)
put_placed p [] = at_end refl tt
put_placed p (q ∷ qs) = by_label p q qs (same_label q p) refl (put_placed p qs)

labels_put : (p : Production) (old new : List Production) (ls : List (List ℕ)) → Placed (λ x. x.label) p old new
    → Each (λ l. bytes_eq p.label l ≡ false) ls → Apart bytes_eq (map (λ x. x.label) old ++ ls) → Apart bytes_eq (map (λ x. x.label) new ++ ls)
labels_put p old new ls (in_place xs q ys e f k) n h =
    let g : map (λ x. x.label) old ≡ map (λ x. x.label) new =
    ap (map (λ x. x.label)) e ∙ map_swap (λ x. x.label) xs ys q p (bytes_eq_true q.label p.label k) ∙ sym (ap (map (λ x. x.label)) f) in
    subst (λ l. Apart bytes_eq (l ++ ls)) g h
labels_put p old new ls (at_end e k) n h =
    let g : map (λ x. x.label) new ++ ls ≡ map (λ x. x.label) old ++ p.label ∷ ls =
    ap (λ l. map (λ x. x.label) l ++ ls) e ∙ ap (λ l. l ++ ls) (map_append (λ x. x.label) old (p ∷ [])) ∙ append_assoc (map (λ x. x.label) old) (p.label ∷ []) ls in
    subst (Apart bytes_eq) (sym g) (apart_insert bytes_eq (map (λ x. x.label) old) ls p.label h (each_mapped (λ x. x.label) (λ l. bytes_eq l p.label ≡ false) old k) n)

calm_where : (a b : Bool) → a ≡ false → (not a && b) ≡ false → b ≡ false
calm_where false b e h = h
calm_where true b e h = cc

abbrev Unmixed : Production → Production → Type 0
Unmixed p q = (not (same_label q p) && clash q p) ≡ false

groups_put : (p : Production) (old new : List Production) → Placed (λ x. x.label) p old new
    → Each (Unmixed p) old → Apart same_label old → Apart clash old → Apart clash new
groups_put p old new (in_place xs q ys e f k) m l h =
    let s : q.label ≡ p.label = bytes_eq_true q.label p.label k in
    let mm : Each (Unmixed p) (xs ++ q ∷ ys) = subst (Each (Unmixed p)) e m in
    let ll : Apart same_label (xs ++ q ∷ ys) = subst (Apart same_label) e l in
    let before : Each (λ x. clash x p ≡ false) xs =
    each_zip (λ x. same_label x q ≡ false) (Unmixed p) (λ x. clash x p ≡ false) xs (λ x a b. calm_where (same_label x p) (clash x p) (subst (λ y. bytes_eq x.label y ≡ false) s a) b)
    (apart_before same_label xs ys q ll) (each_front (Unmixed p) xs (q ∷ ys) mm) in
    let after : Each (λ x. clash p x ≡ false) ys =
    each_zip (λ x. same_label q x ≡ false) (Unmixed p) (λ x. clash p x ≡ false) ys
    (λ x a b. clash_sym p x ∙ calm_where (same_label x p) (clash x p) (bytes_eq_sym x.label p.label ∙ subst (λ y. bytes_eq y x.label ≡ false) s a) b)
    (apart_after same_label xs ys q ll) (each_back (Unmixed p) xs (q ∷ ys) mm).1 in
    subst (Apart clash) (sym f) (apart_swap clash xs ys q p (subst (Apart clash) e h) before after)
groups_put p old new (at_end e k) m l h =
    let before : Each (λ x. clash x p ≡ false) old =
    each_zip (λ x. same_label x p ≡ false) (Unmixed p) (λ x. clash x p ≡ false) old (λ x a b. calm_where (same_label x p) (clash x p) a b) k m in
    subst (Apart clash) (sym e) (apart_insert clash old [] p (subst (Apart clash) (sym (append-nil old)) h) before tt)

abbrev Here : Production → Production → Type 0
Here p q = (same_label q p && not (bytes_eq q.table p.table)) ≡ false

same_table : (a b : Bool) → a ≡ true → (a && not b) ≡ false → b ≡ true
same_table true b e h = not_false b h
same_table false b e h = cc

tables_put : (p : Production) (old new : List Production) (w : List ℕ) → Placed (λ x. x.label) p old new
    → Each (Here p) old → is_table (tables old) w ≡ true → is_table (tables new) w ≡ true
tables_put p old new w (in_place xs q ys e f k) h t =
    let own : Here p q = (each_back (Here p) xs (q ∷ ys) (subst (Each (Here p)) e h)).0 in
    let same : q.table ≡ p.table = bytes_eq_true q.table p.table (same_table (same_label q p) (bytes_eq q.table p.table) k own) in
    let g : tables old ≡ tables new = ap tables e ∙ tables_swap xs ys q p (main ∷ []) same ∙ sym (ap tables f) in
    subst (λ ts. is_table ts w ≡ true) g t
tables_put p old new w (at_end e k) h t = subst (λ rs. is_table (tables rs) w ≡ true) (sym e) (tables_more old p (main ∷ []) w t)

-- what an accepted production tells
record Calm (s : System) (n : ℕ) (p : Production) : Type 0 where
  unknown : rule_unknown (n + 2) p.rule ≡ None
  repeated : rule_repeated (n + 2) p.rule ≡ None
  unmixed : Each (Unmixed p) s.rules
  here : Each (Here p) s.rules
  new : Each (λ h. bytes_eq h.label p.label ≡ false) s.homomorphisms
  few_tables : length (tables (put p s.rules)) ≤ most_tables
  few_rules : length (put p s.rules) + length s.homomorphisms ≤ most_rules
  fits : rule_many (n + 2) p.rule ≡ None

calm : (s : System) (n : ℕ) (p : Production) → production_refusal s n p ≡ None → Calm s n p
calm s n p h =
    let a = refused_at (rule_unknown (n + 2) p.rule) unknown_name in
    let b = refused_at (rule_repeated (n + 2) p.rule) duplicate in
    let c = refused_if (any (λ q. not (same_label q p) && clash q p) s.rules) mixed n in
    let d = refused_if (stands_elsewhere s p) wrong_label n in
    let e = refused_if (nat_lt most_tables (length (tables (put p s.rules)))) many 1 in
    let f = refused_if (nat_lt most_rules (length (put p s.rules) + length s.homomorphisms)) many n in
    let g = refused_at (rule_many (n + 2) p.rule) many in
    let h1 = both_none a (or_else b (or_else c (or_else d (or_else e (or_else f g))))) h in
    let h2 = both_none b (or_else c (or_else d (or_else e (or_else f g)))) h1.1 in
    let h3 = both_none c (or_else d (or_else e (or_else f g))) h2.1 in
    let h4 = both_none d (or_else e (or_else f g)) h3.1 in
    let h5 = both_none e (or_else f g) h4.1 in
    let h6 = both_none f g h5.1 in
    let out = neither (any (λ q. same_label q p && not (bytes_eq q.table p.table)) s.rules) (any (λ x. bytes_eq x.label p.label) s.homomorphisms) (if_none (stands_elsewhere s p) wrong_label n h4.0) in
    record {
      unknown = at_none (rule_unknown (n + 2) p.rule) unknown_name h1.0;
      repeated = at_none (rule_repeated (n + 2) p.rule) duplicate h2.0;
      unmixed = none_passes (λ q. not (same_label q p) && clash q p) s.rules (if_none (any (λ q. not (same_label q p) && clash q p) s.rules) mixed n h3.0);
      here = none_passes (λ q. same_label q p && not (bytes_eq q.table p.table)) s.rules out.0;
      new = none_passes (λ x. bytes_eq x.label p.label) s.homomorphisms out.1;
      few_tables = few most_tables (length (tables (put p s.rules))) many 1 h5.0;
      few_rules = few most_rules (length (put p s.rules) + length s.homomorphisms) many n h6.0;
      fits = at_none (rule_many (n + 2) p.rule) many h6.1;
    }

table_word : (t : Option (List ℕ)) → IsTable t → IsWordText (table_or_main t)
table_word None h = ((refl, (refl, (refl, (refl, tt))), grind arith))
table_word (Some t) h = h

pub production_kept : (s : System) (t : Option (List ℕ)) (l : List ℕ) (r : Rule) → Parts s → IsTable t → IsWordText l → IsRule r → rule_nesting r ≤ nesting_bound
    → production_refusal s (label_place t) (production_of t l r) ≡ None
    → OfRules (put (production_of t l r) s.rules) s.homomorphisms × OfSchedule (put (production_of t l r) s.rules) s.schedule × OfOwn (put (production_of t l r) s.rules) s.own
production_kept s t l r w it il ir deep h =
    let p : Production = production_of t l r in
    let c : Calm s (label_place t) p = calm s (label_place t) p h in
    let d : Placed (λ x. x.label) p s.rules (put p s.rules) = put_placed p s.rules in
    let o = w.of_rules in
    let same : Apart same_label s.rules = apart_unmapped (λ x. x.label) bytes_eq s.rules (apart_front bytes_eq (map (λ x. x.label) s.rules) (map (λ x. x.label) s.homomorphisms) o.labels) in
    let new : Each (λ m. bytes_eq p.label m ≡ false) (map (λ x. x.label) s.homomorphisms) =
    each_mapped (λ x. x.label) (λ m. bytes_eq p.label m ≡ false) s.homomorphisms
    (each_more (λ x. bytes_eq x.label p.label ≡ false) (λ x. bytes_eq p.label x.label ≡ false) s.homomorphisms (λ x e. bytes_eq_sym p.label x.label ∙ e) c.new) in (
      record {
        labels = labels_put p s.rules (put p s.rules) (map (λ x. x.label) s.homomorphisms) d new o.labels;
        groups = groups_put p s.rules (put p s.rules) d c.unmixed same o.groups;
        rules = each_placed (λ x. x.label) p s.rules (put p s.rules) IsProduction d o.rules (record { table = table_word t it; label = il; rule = ir });
        homomorphisms = o.homomorphisms;
        rules_short = each_placed (λ x. x.label) p s.rules (put p s.rules) (λ x. IsShort x.rule) d o.rules_short (short_anywhere (label_place t + 2) r c.fits);
        homomorphisms_short = o.homomorphisms_short;
        rules_sound = each_placed (λ x. x.label) p s.rules (put p s.rules) (λ x. IsSound x.rule) d o.rules_sound (sound_anywhere (label_place t + 2) r c.unknown c.repeated deep);
        homomorphisms_sound = o.homomorphisms_sound;
        few_tables = c.few_tables;
        few_rules = c.few_rules;
        successors_few = each_placed (λ x. x.label) p s.rules (put p s.rules) (λ x. length x.rule.successor ≤ most_successor_symbols) d o.successors_few ((is-small (label_place t + 2) r c.fits).successor);
      },
      record {
        words = w.of_schedule.words;
        some_word = w.of_schedule.some_word;
        scheduled = each_more (λ v. is_table (tables s.rules) v ≡ true) (λ v. is_table (tables (put p s.rules)) v ≡ true) s.schedule (λ v k. tables_put p s.rules (put p s.rules) v d c.here k) w.of_schedule.scheduled;
        few = w.of_schedule.few;
      },
      record {
        tabled = each_more (λ v. is_table (tables s.rules) v.table ≡ true) (λ v. is_table (tables (put p s.rules)) v.table ≡ true) s.own (λ v k. tables_put p s.rules (put p s.rules) v.table d c.here k) w.of_own.tabled;
        ordered = w.of_own.ordered;
        few = w.of_own.few;
        words = w.of_own.words;
        names = w.of_own.names;
        once = w.of_own.once;
      },
    )
