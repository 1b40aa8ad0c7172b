-- Whether no modules have other rules is told by the rules of both systems.
use Rattle.std.proofs.Common.{◌≡◌, ◌⊎◌, ℕ, Bool, true, false, not, ◌&&◌, ◌||◌, ◌==◌, List, [], ◌∷◌, length, refl, ap, ap₂, sym, ◌∙◌, inl, inr, bytes_eq, if◌then◌else◌}
use Rattle.std.proofs.lemmas.Bool.{eqb-true}
use Rattle.lsys_syntax.specs.Strings.{ModuleName}
use Rattle.lsys_syntax.specs.Rules.{Production}
use Rattle.lsys_spec.specs.Systems.{module_name_text, same_name}
use Rattle.lsys_spec.specs.Bodies.{Body, body_of, is_for, group_in, filter, table_at}
use Rattle.lsys_spec.specs.Meaning.{any_weight}
use Rattle.lsys_spec.specs.Equalities.{same_all, same_body}
use Rattle.lsys_spec.specs.Standings.{free, same_filter}
use Rattle.lsys_laws.proofs.Aparts.{bytes_eq_true}
use Rattle.lsys_front.specs.Others.{RulesOf, AreAllAlike, HasOther, are_alike, is_alike_for, all_alike_for}

later : (b c : Bool) → b ≡ true → (b && c) ≡ false → c ≡ false
later true c e h = h
later false c e h = cc

both : (x y : Bool) → (x && y) ≡ true → (x ≡ true) × (y ≡ true)
both true y h = (refl, h)
both false y h = cc

-- 1. names with one text have the same rules

group_named : (table : List ℕ) (m n : ModuleName) (arity : ℕ) (ps : List Production) → module_name_text m ≡ module_name_text n → group_in table m arity ps ≡ group_in table n arity ps
group_named table m n arity [] e = refl
group_named table m n arity (p ∷ ps) e =
    ap₂ (λ b (bs : List Body). if b then body_of p.rule ∷ bs else bs)
    (ap (λ t. bytes_eq p.table table && (bytes_eq (module_name_text p.rule.name) t && (length p.rule.formals == arity))) e)
    (group_named table m n arity ps e)

abbrev alike_of : RulesOf → List Body → List Body → Bool
alike_of r was are =
    same_all same_body was are
    && ((not (any_weight are) || (r.old.seed == r.new.seed))
    && (free are || same_filter (filter r.old r.level) (filter r.new r.level)))

alike_named : (r : RulesOf) (m n : ModuleName) (arity : ℕ) → module_name_text m ≡ module_name_text n → are_alike r.old r.new r.level m arity ≡ are_alike r.old r.new r.level n arity
alike_named r m n arity e =
    ap₂ (alike_of r) (group_named (table_at r.old.schedule r.level) m n arity r.old.rules e) (group_named (table_at r.new.schedule r.level) m n arity r.new.rules e)

-- 2. the rules of one system

module _ (r : RulesOf) (table : List ℕ) where
  own_alike : (p : Production) (n : ModuleName) (arity : ℕ) → is_for table n arity p ≡ true → is_alike_for r table p ≡ true → are_alike r.old r.new r.level n arity ≡ true
  own_alike p n arity h a =
      let t = both (bytes_eq p.table table) _ h in
      let m = both (same_name p.rule.name n) _ t.1 in
      let text : module_name_text p.rule.name ≡ module_name_text n = bytes_eq_true (module_name_text p.rule.name) (module_name_text n) m.0 in
      let count : length p.rule.formals ≡ arity = eqb-true (length p.rule.formals) arity m.1 in
      sym (alike_named r p.rule.name n arity text) ∙ ap (are_alike r.old r.new r.level p.rule.name) (sym count) ∙ of_table (bytes_eq p.table table) _ t.0 a
    where
      of_table : (b c : Bool) → b ≡ true → (not b || c) ≡ true → c ≡ true
      of_table true c e h = h
      of_table false c e h = cc

  -- there is no rule for such modules, or they have the rules that they had
  none_or_alike : (n : ModuleName) (arity : ℕ) (ps : List Production) → all_alike_for r table ps ≡ true → (group_in table n arity ps ≡ []) ⊎ (are_alike r.old r.new r.level n arity ≡ true)
  none_or_alike n arity [] h = inl refl
  none_or_alike n arity (p ∷ ps) h =
      let here = both (is_alike_for r table p) (all_alike_for r table ps) h in
      by (is_for table n arity p) refl here.0 (none_or_alike n arity ps here.1)
    where
      by : (b : Bool) → is_for table n arity p ≡ b → is_alike_for r table p ≡ true → (group_in table n arity ps ≡ []) ⊎ (are_alike r.old r.new r.level n arity ≡ true)
          → ((if b then body_of p.rule ∷ group_in table n arity ps else group_in table n arity ps) ≡ []) ⊎ (are_alike r.old r.new r.level n arity ≡ true)
      by true e a later = inr (own_alike p n arity e a)
      by false e a later = later

  pub some_unlike : (ps : List Production) → all_alike_for r table ps ≡ false → HasOther r
  some_unlike [] h = cc
  some_unlike (p ∷ ps) h = by (is_alike_for r table p) refl (λ e. some_unlike ps (later (is_alike_for r table p) (all_alike_for r table ps) e h))
    where
      unlike : (b c : Bool) → (not b || c) ≡ false → c ≡ false
      unlike true c h = h
      unlike false c h = cc

      by : (b : Bool) → is_alike_for r table p ≡ b → (is_alike_for r table p ≡ true → HasOther r) → HasOther r
      by true e next = next e
      by false e next = record { name = p.rule.name; arity = length p.rule.formals; unlike = unlike (bytes_eq p.table table) _ e }

-- 3. those of both

pub all_alike : (r : RulesOf) → all_alike_for r (table_at r.old.schedule r.level) r.old.rules ≡ true → all_alike_for r (table_at r.new.schedule r.level) r.new.rules ≡ true → AreAllAlike r
all_alike r h k n arity = elim (none_or_alike r (table_at r.old.schedule r.level) n arity r.old.rules h) [
  | inr a ↦ a
  | inl e ↦ elim (none_or_alike r (table_at r.new.schedule r.level) n arity r.new.rules k) [ inr a ↦ a | inl f ↦ ap₂ (alike_of r) e f ]
]

-- what was told of the systems of these rules, which are kept apart
pub told_old : (r q : RulesOf) (a b : Bool) → q ≡ r → a ≡ all_alike_for r (table_at q.old.schedule r.level) q.old.rules → a ≡ b → all_alike_for r (table_at r.old.schedule r.level) r.old.rules ≡ b
told_old r q a b e is k = ap (λ (x : RulesOf). all_alike_for r (table_at x.old.schedule r.level) x.old.rules) (sym e) ∙ sym is ∙ k

pub told_new : (r q s : RulesOf) (a b : Bool) → q ≡ r → s ≡ r → a ≡ all_alike_for s (table_at q.new.schedule s.level) q.new.rules → a ≡ b → all_alike_for r (table_at r.new.schedule r.level) r.new.rules ≡ b
told_new r q s a b e f is k =
    ap (λ (x : RulesOf). all_alike_for r (table_at x.new.schedule r.level) x.new.rules) (sym e)
    ∙ ap (λ (x : RulesOf). all_alike_for x (table_at q.new.schedule x.level) q.new.rules) (sym f) ∙ sym is ∙ k

-- 4. rules that are gone through
