-- Groups of which some are built anew, and the others are as they were.
use Rattle.std.proofs.Common.{◌≡◌, ℕ, Bool, true, false, ◌||◌, List, [], ◌∷◌, length, cond, refl, ap, sym, ◌∙◌, bytes_eq, if◌then◌else◌}
use Rattle.std.specs.Prelude.{Option, Some, None}
use Rattle.std.specs.HashMap.{HashMap, get}
use Rattle.std.specs.Map.{lookup, remove_entry}
use Rattle.indexmap.specs.IndexMap.{insert_entry}
use Rattle.lsys_text.specs.Packed.{packed}
use Rattle.lsys_text.specs.Texts.{IsNameBytes}
use Rattle.lsys_bodies.specs.declared.rule.Rule.{Rule}
use Rattle.lsys_rules.specs.Groups.{same_key, group_key, rules_or_none, rules_at, is_of, is_some_of, is_of_either, group_of, IsGroup, HasGroup, AreGroups, AreOfOne, AreRegrouped}
use Rattle.lsys_rules.specs.declared.groups.GroupKey.{GroupKey}
use Rattle.lsys_rules.specs.declared.shared_group.SharedGroup.{SharedGroup}
use Rattle.lsys_rules.proofs.Labels.{values_of}
use Rattle.lsys_rules.proofs.Grouping.{own_group, same_keys}

-- a group at a key, or none
pub group_set : {S : Type 0} (old new : HashMap GroupKey SharedGroup S) (key q : GroupKey) (group : Option (List Rule))
    → get same_key new q ≡ cond (same_key key q) group (get same_key old q) → rules_at new q ≡ (if same_key key q then rules_or_none group else rules_at old q)
group_set old new key q group put = ap rules_or_none put ∙ by (same_key key q)
  where
    by : (b : Bool) → rules_or_none (cond b group (get same_key old q)) ≡ (if b then rules_or_none group else rules_at old q)
    by true = refl
    by false = refl

-- the group of a rule built anew
pub group_anew : {S : Type 0} (old new : HashMap GroupKey SharedGroup S) (rs : List Rule) (r : Rule) (key : GroupKey) (group : List Rule)
    → key.table ≡ r.table → key.name ≡ packed r.body.predecessor.name → key.arity ≡ length r.body.predecessor.formals.items → IsNameBytes r.body.predecessor.name
    → IsGroup rs key group → HasGroup old new key group → AreRegrouped old new rs (is_of r)
group_anew old new rs r key group t n a form is put table name arity k =
    let q = group_key table name arity in
    put q ∙ by (same_key key q) (is_of r table name arity) (own_group r key table name arity t n a form k) (λ h. is table name arity k h)
  where
    by : (b c : Bool) → b ≡ c → (b ≡ true → group ≡ group_of rs table name arity)
        → (if b then group else rules_at old (group_key table name arity)) ≡ (if c then group_of rs table name arity else rules_at old (group_key table name arity))
    by true true e h = h refl
    by false false e h = refl
    by true false e h = cc
    by false true e h = cc

-- groups with the same entries
pub groups_same : {S : Type 0} (old new : HashMap GroupKey SharedGroup S) (rs : List Rule) (o : Option Rule) → new.entries ≡ old.entries → o ≡ None → AreRegrouped old new rs (is_some_of o)
groups_same old new rs None e h table name arity k = ap (λ es. rules_or_none (lookup (same_key (group_key table name arity)) es)) e
groups_same old new rs (Some r) e h table name arity k = cc

-- what is built anew of a copy is so of the groups that were copied
pub copy_anew : {S : Type 0} (old copy new : HashMap GroupKey SharedGroup S) (rs : List Rule) (anew : List ℕ → List ℕ → ℕ → Bool)
    → copy.entries ≡ old.entries → AreRegrouped copy new rs anew → AreRegrouped old new rs anew
copy_anew old copy new rs anew e is table name arity k =
    is table name arity k ∙ ap (λ es. if anew table name arity then group_of rs table name arity else rules_or_none (lookup (same_key (group_key table name arity)) es)) e

-- rules of one key are of the same groups
pub of_one : (p r : Rule) (key of : GroupKey)
    → key.table ≡ p.table → key.name ≡ packed p.body.predecessor.name → key.arity ≡ length p.body.predecessor.formals.items → IsNameBytes p.body.predecessor.name
    → of.table ≡ r.table → of.name ≡ packed r.body.predecessor.name → of.arity ≡ length r.body.predecessor.formals.items → IsNameBytes r.body.predecessor.name
    → same_key key of ≡ true → AreOfOne (Some p) r
of_one p r key of t n a form u m b forms h table name arity k =
    sym (own_group p key table name arity t n a form k) ∙ ap (λ q. same_key q (group_key table name arity)) (same_keys key of h) ∙ own_group r of table name arity u m b forms k

-- a rule in place of one of the same groups
pub one_anew : {S : Type 0} (old copy new : HashMap GroupKey SharedGroup S) (rs : List Rule) (r : Rule) (o : Option Rule)
    → AreOfOne o r → copy.entries ≡ old.entries → AreRegrouped copy new rs (is_of r) → AreRegrouped old new rs (is_of_either r o)
one_anew old copy new rs r o one e is table name arity k =
    copy_anew old copy new rs (is_of r) e is table name arity k
    ∙ ap (λ b. if b then group_of rs table name arity else rules_at old (group_key table name arity)) (both (is_of r table name arity) (is_some_of o table name arity) (one table name arity k))
  where
    both : (b c : Bool) → c ≡ b → b ≡ (b || c)
    both true c h = refl
    both false c h = sym h

-- one group after another built anew
pub both_anew : {S : Type 0} (old mid new : HashMap GroupKey SharedGroup S) (rs : List Rule) (r : Rule) (o : Option Rule)
    → AreRegrouped old mid rs (is_some_of o) → AreRegrouped mid new rs (is_of r) → AreRegrouped old new rs (is_of_either r o)
both_anew old mid new rs r o first last table name arity k =
    last table name arity k ∙ by (is_of r table name arity) (is_some_of o table name arity) (first table name arity k)
  where
    by : (b c : Bool) → rules_at mid (group_key table name arity) ≡ (if c then group_of rs table name arity else rules_at old (group_key table name arity))
        → (if b then group_of rs table name arity else rules_at mid (group_key table name arity)) ≡ (if b || c then group_of rs table name arity else rules_at old (group_key table name arity))
    by true c h = refl
    by false c h = h

-- the groups that are not built anew have the same rules before and after
all_anew : {S : Type 0} (old new : HashMap GroupKey SharedGroup S) (before after : List Rule) (anew : List ℕ → List ℕ → ℕ → Bool)
    → ((table name : List ℕ) (arity : ℕ) → anew table name arity ≡ false → group_of after table name arity ≡ group_of before table name arity)
    → AreGroups old before → AreRegrouped old new after anew → AreGroups new after
all_anew old new before after anew same all is table name arity k =
    is table name arity k ∙ by (anew table name arity) (λ h. same table name arity h)
  where
    by : (b : Bool) → (b ≡ false → group_of after table name arity ≡ group_of before table name arity)
        → (if b then group_of after table name arity else rules_at old (group_key table name arity)) ≡ group_of after table name arity
    by true h = refl
    by false h = all table name arity k ∙ sym (h refl)

-- the rule of a label, where it has one
abbrev pub standing : List (List ℕ × Rule) → List ℕ → Option Rule
standing es l = lookup (bytes_eq l) es

-- A rule put under a label changes the groups of none but the rule and the one that stood there.
put_elsewhere : (es : List (List ℕ × Rule)) (l : List ℕ) (r : Rule) (table name : List ℕ) (arity : ℕ) → is_of_either r (standing es l) table name arity ≡ false
    → group_of (values_of (insert_entry bytes_eq es l r)) table name arity ≡ group_of (values_of es) table name arity
put_elsewhere [] l r table name arity h = by (is_of r table name arity) h
  where
    by : (b : Bool) → (b || false) ≡ false → cond b (r ∷ []) [] ≡ []
    by true h = cc
    by false h = refl
put_elsewhere (e ∷ es) l r table name arity h = by (bytes_eq l e.0) h (λ k. put_elsewhere es l r table name arity k)
  where
    rest : List Rule
    rest = group_of (values_of es) table name arity

    in_place : (b c : Bool) → (b || c) ≡ false → cond b (r ∷ rest) rest ≡ cond c (e.1 ∷ rest) rest
    in_place true c h = cc
    in_place false true h = cc
    in_place false false h = refl

    by : (b : Bool) → is_of_either r (cond b (Some e.1) (standing es l)) table name arity ≡ false
        → (is_of_either r (standing es l) table name arity ≡ false → group_of (values_of (insert_entry bytes_eq es l r)) table name arity ≡ rest)
        → group_of (values_of (if b then (e.0, r) ∷ es else e ∷ insert_entry bytes_eq es l r)) table name arity ≡ group_of (e.1 ∷ values_of es) table name arity
    by true h more = in_place (is_of r table name arity) (is_of e.1 table name arity) h
    by false h more = ap (λ rs. cond (is_of e.1 table name arity) (e.1 ∷ rs) rs) (more h)

-- The rule of a label that goes changes no group but its own.
gone_elsewhere : (es : List (List ℕ × Rule)) (l : List ℕ) (table name : List ℕ) (arity : ℕ) → is_some_of (standing es l) table name arity ≡ false
    → group_of (values_of (remove_entry (bytes_eq l) es)) table name arity ≡ group_of (values_of es) table name arity
gone_elsewhere [] l table name arity h = refl
gone_elsewhere (e ∷ es) l table name arity h = by (bytes_eq l e.0) h (λ k. gone_elsewhere es l table name arity k)
  where
    rest : List Rule
    rest = group_of (values_of es) table name arity

    by : (b : Bool) → is_some_of (cond b (Some e.1) (standing es l)) table name arity ≡ false
        → (is_some_of (standing es l) table name arity ≡ false → group_of (values_of (remove_entry (bytes_eq l) es)) table name arity ≡ rest)
        → group_of (values_of (cond b es (e ∷ remove_entry (bytes_eq l) es))) table name arity ≡ group_of (e.1 ∷ values_of es) table name arity
    by true h more = ap (λ c. cond c (e.1 ∷ rest) rest) (sym h)
    by false h more = ap (λ rs. cond (is_of e.1 table name arity) (e.1 ∷ rs) rs) (more h)

-- the groups with a rule put under its label
pub groups_put : {S : Type 0} (old new : HashMap GroupKey SharedGroup S) (es fs : List (List ℕ × Rule)) (l : List ℕ) (r : Rule) (was : Option Rule)
    → fs ≡ insert_entry bytes_eq es l r → was ≡ standing es l → AreGroups old (values_of es) → AreRegrouped old new (values_of fs) (is_of_either r was) → AreGroups new (values_of fs)
groups_put old new es fs l r was put stood =
    rw (put, stood) (all_anew old new (values_of es) (values_of (insert_entry bytes_eq es l r)) (is_of_either r (standing es l)) (put_elsewhere es l r))

-- the groups without the rule under a label
pub groups_removed : {S : Type 0} (old new : HashMap GroupKey SharedGroup S) (es fs : List (List ℕ × Rule)) (l : List ℕ) (was : Option Rule)
    → fs ≡ remove_entry (bytes_eq l) es → was ≡ standing es l → AreGroups old (values_of es) → AreRegrouped old new (values_of fs) (is_some_of was) → AreGroups new (values_of fs)
groups_removed old new es fs l was removed stood =
    rw (removed, stood) (all_anew old new (values_of es) (values_of (remove_entry (bytes_eq l) es)) (is_some_of (standing es l)) (gone_elsewhere es l))
