-- The opening system is well formed. What edits of the schedule and of the ignored names leave.
use Rattle.std.proofs.Common.{◌≡◌, ℕ, suc, Bool, true, false, not, None, List, [], ◌∷◌, ◌++◌, ◌≤◌, ◌+◌, nat_lt, length, refl, arith, le_trans}
use Rattle.lsys_syntax.specs.Strings.{ModuleName, EachOf, IsModuleName}
use Rattle.lsys_syntax.specs.Commands.{set_schedule, IsCommand}
use Rattle.lsys_spec.specs.Systems.{System, opening, is_table, tables, same_name, any, Each, Apart}
use Rattle.lsys_syntax.specs.Limits.{most_ignored, most_schedule_words}
use Rattle.lsys_laws.specs.Sessions.{IsWell}
use Rattle.lsys_spec.specs.Edits.{once, unless_seen, untabled, many, wrong_table, refused_at, refused_if, schedule_refusal}
use Rattle.lsys_laws.proofs.Unrefused.{both_none, at_none, few, no_place}
use Rattle.lsys_spec.proofs.Tests.{not_false, neither}
use Rattle.lsys_spec.proofs.Eachs.{each_more}
use Rattle.lsys_laws.proofs.Parts.{OfIgnored, OfSchedule}

pub opening_well : IsWell opening
opening_well = (
  record {
    labels = tt;
    groups = tt;
    some_word = grind arith;
    scheduled = (refl, tt);
    rules_short = tt;
    homomorphisms_short = tt;
    axiom_short = refl;
    few_tables = grind arith;
    few_rules = grind arith;
    few_words = grind arith;
    few_ignored = grind arith;
    shallow = grind arith;
    some_version = omega arith;
    known_version = omega arith;
    first_version = λ e. (refl, refl);
    own_tabled = tt;
    own_ordered = tt;
    own_few = tt;
  },
  record {
    rules = tt;
    homomorphisms = tt;
    rules_sound = tt;
    homomorphisms_sound = tt;
    axiom_symbols = tt;
    axiom_balanced = refl;
    ignored_names = tt;
    ignored_once = tt;
    words = ((refl, (refl, (refl, (refl, tt))), grind arith), tt);
    small_seed = grind arith;
    axiom_few = omega arith;
    successors_few = tt;
    own_words = tt;
    own_names = tt;
    own_once = tt;
  },
)

pub schedule_kept : (s : System) (ws : List (List ℕ)) → IsCommand (set_schedule ws) → schedule_refusal s ws ≡ None → OfSchedule s.rules ws
schedule_kept s [] c h = absurd c
schedule_kept s (w ∷ ws) c h =
    let e = both_none (refused_at (untabled s.rules (w ∷ ws)) wrong_table) (refused_if (nat_lt most_schedule_words (length (w ∷ ws))) many (most_schedule_words + 1)) h in
    let known = no_place (λ v. not (is_table (tables s.rules) v)) 1 (w ∷ ws) (at_none (untabled s.rules (w ∷ ws)) wrong_table e.0) in
    record {
      words = c;
      some_word = omega arith;
      scheduled = each_more (λ v. not (is_table (tables s.rules) v) ≡ false) (λ v. is_table (tables s.rules) v ≡ true) (w ∷ ws) (λ v. not_false (is_table (tables s.rules) v)) known;
      few = few most_schedule_words (length (w ∷ ws)) many (most_schedule_words + 1) e.1;
    }

-- each once

unseen_length : (b : Bool) (n : ModuleName) (rest : List ModuleName) (k : ℕ) → length rest ≤ k → length (unless_seen b n rest) ≤ suc k
unseen_length true n rest k h = omega (arith, h)
unseen_length false n rest k h = omega (arith, h)

once_length : (seen ns : List ModuleName) → length (once seen ns) ≤ length ns
once_length seen [] = omega arith
once_length seen (n ∷ ns) = unseen_length (any (λ y. same_name y n) seen) n (once (seen ++ n ∷ []) ns) (length ns) (once_length (seen ++ n ∷ []) ns)

unseen_names : (b : Bool) (n : ModuleName) (rest : List ModuleName) → IsModuleName n → EachOf IsModuleName rest → EachOf IsModuleName (unless_seen b n rest)
unseen_names true n rest h k = k
unseen_names false n rest h k = (h, k)

once_names : (seen ns : List ModuleName) → EachOf IsModuleName ns → EachOf IsModuleName (once seen ns)
once_names seen [] h = tt
once_names seen (n ∷ ns) h = unseen_names (any (λ y. same_name y n) seen) n (once (seen ++ n ∷ []) ns) h.0 (once_names (seen ++ n ∷ []) ns h.1)

any_last : {A : Type 0} (p : A → Bool) (xs : List A) (y : A) → any p (xs ++ y ∷ []) ≡ false → (any p xs ≡ false) × (p y ≡ false)
any_last p [] y h = (refl, (neither (p y) false h).0)
any_last p (x ∷ xs) y h =
    let e = neither (p x) (any p (xs ++ y ∷ [])) h in
    let r = any_last p xs y e.1 in
    (rw (e.0, r.0), r.1)

unseen_new : (Q : ModuleName → Type 0) (b : Bool) (n : ModuleName) (rest : List ModuleName) → (b ≡ false → Q n) → Each Q rest → Each Q (unless_seen b n rest)
unseen_new Q true n rest f h = h
unseen_new Q false n rest f h = (f refl, h)

abbrev New : List ModuleName → ModuleName → Type 0
New seen n = any (λ y. same_name y n) seen ≡ false

once_new : (seen ns : List ModuleName) → Each (New seen) (once seen ns)
once_new seen [] = tt
once_new seen (n ∷ ns) =
    unseen_new (New seen) (any (λ y. same_name y n) seen) n (once (seen ++ n ∷ []) ns) (λ h. h)
    (each_more (New (seen ++ n ∷ [])) (New seen) (once (seen ++ n ∷ []) ns) (λ z h. (any_last (λ y. same_name y z) seen n h).0) (once_new (seen ++ n ∷ []) ns))

unseen_apart : (b : Bool) (n : ModuleName) (rest : List ModuleName) → Each (λ z. same_name n z ≡ false) rest → Apart same_name rest → Apart same_name (unless_seen b n rest)
unseen_apart true n rest h k = k
unseen_apart false n rest h k = (h, k)

once_apart : (seen ns : List ModuleName) → Apart same_name (once seen ns)
once_apart seen [] = tt
once_apart seen (n ∷ ns) =
    unseen_apart (any (λ y. same_name y n) seen) n (once (seen ++ n ∷ []) ns)
    (each_more (New (seen ++ n ∷ [])) (λ z. same_name n z ≡ false) (once (seen ++ n ∷ []) ns) (λ z h. (any_last (λ y. same_name y z) seen n h).1) (once_new (seen ++ n ∷ []) ns))
    (once_apart (seen ++ n ∷ []) ns)

pub names_kept : (n : ℕ) (ns : List ModuleName) → EachOf IsModuleName ns → refused_if (nat_lt most_ignored (length ns)) many n ≡ None → OfIgnored (once [] ns)
names_kept n ns c h = record {
  names = once_names [] ns c;
  once = once_apart [] ns;
  few = le_trans (once_length [] ns) (few most_ignored (length ns) many n h);
}

pub ignored_kept : (ns : List ModuleName) → EachOf IsModuleName ns → refused_if (nat_lt most_ignored (length ns)) many (most_ignored + 1) ≡ None → OfIgnored (once [] ns)
ignored_kept ns c h = names_kept (most_ignored + 1) ns c h
