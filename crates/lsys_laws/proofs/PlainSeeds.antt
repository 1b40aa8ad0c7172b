-- Where no rule has a weight a seed makes no difference.
use Rattle.std.proofs.Common.{◌≡◌, ℕ, zero, suc, ◌+◌, Bool, true, false, List, [], ◌∷◌, ◌++◌, length, take, refl, ap, sym, ◌∙◌}
use Rattle.std.specs.Prelude.{None, Result, Ok, Err, sum_by, get_or, if◌then◌else◌}
use Rattle.lsys_syntax.specs.Strings.{ModuleName}
use Rattle.lsys_syntax.specs.Strings as S
use Rattle.lsys_syntax.specs.Rules.{Production}
use Rattle.lsys_spec.specs.Systems.{System, Each}
use Rattle.lsys_spec.specs.Values.{◌and_then◌}
use Rattle.lsys_spec.specs.Bodies.{Body, body_of, is_for, group_in, group, table_at}
use Rattle.lsys_spec.specs.Levels.{ModuleValue, LevelSymbol, Push, Pop, Module, way, items_from}
use Rattle.lsys_spec.specs.Choice.{choice}
use Rattle.lsys_spec.specs.Cuts.{cut}
use Rattle.lsys_spec.specs.Meaning.{LevelRefusal, any_weight, key_for, asking, asked, most_entries, successor_by, successor, children, fault_at, children_from, next_level, within_limit, last_level, meaning_to}
use Rattle.lsys_spec.specs.Questions.{Question, where_any, questions_from, questions_at, questions_below, questions}
use Rattle.lsys_spec.specs.Standings.{is_candidate}
use Rattle.lsys_spec.specs.LevelLaws.{may_differ, candidate_visits}
use Rattle.lsys_laws.specs.Passes.{module_question}
use Rattle.lsys_laws.specs.Seeds.{HasNoWeights, reseeded, AskAlikeAt, AskAlike}

unweighted_group : (table : List ℕ) (n : ModuleName) (arity : ℕ) (ps : List Production)
    → Each (λ p. p.rule.weight ≡ None) ps → any_weight (group_in table n arity ps) ≡ false
unweighted_group table n arity [] h = refl
unweighted_group table n arity (p ∷ ps) h = by (is_for table n arity p) (unweighted_group table n arity ps h.1)
  where
    by : (b : Bool) → any_weight (group_in table n arity ps) ≡ false
        → any_weight (if b then body_of p.rule ∷ group_in table n arity ps else group_in table n arity ps) ≡ false
    by true e = rw h.0 e
    by false e = e

keyless : (s : System) (l : List ℕ) (bs : List Body) → any_weight bs ≡ false → key_for s l bs ≡ None
keyless s l bs h = rw h refl

module _ (s : System) (plain : HasNoWeights s) (seed : ℕ) where
  abbrev r : System
  r = reseeded seed s

  no_weight : (t : ℕ) (m : ModuleValue) → any_weight (group s t m.name (length m.params)) ≡ false
  no_weight t m = unweighted_group (table_at s.schedule t) m.name (length m.params) s.rules plain

  same_key : (t : ℕ) (l : List ℕ) (m : ModuleValue)
      → key_for r l (group s t m.name (length m.params)) ≡ key_for s l (group s t m.name (length m.params))
  same_key t l m =
      let bs = group s t m.name (length m.params) in
      keyless r l bs (no_weight t m) ∙ sym (keyless s l bs (no_weight t m))

  same_asked : (t : ℕ) (x : List LevelSymbol) (p : ℕ) (l : List ℕ) (m : ModuleValue)
      → asked r t (group s t m.name (length m.params)) x p l m ≡ asked s t (group s t m.name (length m.params)) x p l m
  same_asked t x p l m =
      ap (λ key. choice (asking s t m) key (way x p) (items_from x (p + 1)) (group s t m.name (length m.params)))
      (same_key t l m)

  same_successor : (t : ℕ) (x : List LevelSymbol) (p : ℕ) (l : List ℕ) (m : ModuleValue)
      → successor r t x p l m ≡ successor s t x p l m
  same_successor t x p l m = ap (λ o. successor_by (group s t m.name (length m.params)) m o.answer) (same_asked t x p l m)

  same_question : (t : ℕ) (x : List LevelSymbol) (p : ℕ) (l : List ℕ) (m : ModuleValue)
      → module_question r t x p l m ≡ module_question s t x p l m
  same_question t x p l m =
      let bs = group s t m.name (length m.params) in
      ap (λ key. record {
        level = t;
        own = Module l m;
        bodies = bs;
        key = key;
        trace = take (most_entries + 1) (choice (asking s t m) key (way x p) (items_from x (p + 1)) bs).entries;
      }) (same_key t l m)

  same_children : (t : ℕ) (x : List LevelSymbol) (p n : ℕ) (rest : List LevelSymbol)
      → children_from r t x p n rest ≡ children_from s t x p n rest
  same_children t x p n [] = refl
  same_children t x p n (Push l ∷ rest) =
      ap (λ c. c and_then λ more. Ok (children s.numbering l (S.Push ∷ []) ++ more)) (same_children t x (p + 1) n rest)
  same_children t x p n (Pop l ∷ rest) =
      ap (λ c. c and_then λ more. Ok (children s.numbering l (S.Pop ∷ []) ++ more)) (same_children t x (p + 1) n rest)
  same_children t x p n (Module l m ∷ rest) =
      ap (λ a. fault_at t (n + 1) a and_then λ ys. children_from r t x (p + 1) (n + 1) rest and_then λ more.
      Ok (children s.numbering l ys ++ more)) (same_successor t x p l m)
      ∙ ap (λ c. fault_at t (n + 1) (successor s t x p l m) and_then λ ys. c and_then λ more.
      Ok (children s.numbering l ys ++ more)) (same_children t x (p + 1) (n + 1) rest)

  same_next : (t : ℕ) (x : List LevelSymbol) → next_level r t x ≡ next_level s t x
  same_next t x = ap (λ c. c and_then λ raws. Ok (cut raws)) (same_children t x 0 0 x)

  same_levels : (limit t : ℕ) → meaning_to r limit t ≡ meaning_to s limit t
  same_levels limit zero = refl
  same_levels limit (suc t) =
      ap (λ c. c and_then λ levels. next_level r t (last_level levels) and_then λ x. within_limit limit (suc t) (levels ++ x ∷ []))
      (same_levels limit t)
      ∙ one_more (meaning_to s limit t)
    where
      one_more : (c : Result (List (List LevelSymbol)) LevelRefusal)
          → (c and_then λ levels. next_level r t (last_level levels) and_then λ x.
          within_limit limit (suc t) (levels ++ x ∷ []))
          ≡ (c and_then λ levels. next_level s t (last_level levels) and_then λ x.
          within_limit limit (suc t) (levels ++ x ∷ []))
      one_more (Ok levels) =
          ap (λ n. n and_then λ x. within_limit limit (suc t) (levels ++ x ∷ [])) (same_next t (last_level levels))
      one_more (Err e) = refl

  same_from : (t : ℕ) (x : List LevelSymbol) (p : ℕ) (rest : List LevelSymbol)
      → questions_from r t x p rest ≡ questions_from s t x p rest
  same_from t x p [] = refl
  same_from t x p (Push l ∷ rest) = same_from t x (p + 1) rest
  same_from t x p (Pop l ∷ rest) = same_from t x (p + 1) rest
  same_from t x p (Module l m ∷ rest) =
      let bs = group s t m.name (length m.params) in
      ap (λ q. where_any bs q (questions_from r t x (p + 1) rest)) (same_question t x p l m)
      ∙ ap (where_any bs (module_question s t x p l m)) (same_from t x (p + 1) rest)

  same_below : (t : ℕ) (levels : List (List LevelSymbol)) → questions_below r t levels ≡ questions_below s t levels
  same_below t [] = refl
  same_below t (x ∷ []) = refl
  same_below t (x ∷ y ∷ levels) =
      ap (λ qs. qs ++ questions_below r (t + 1) (y ∷ levels)) (same_from t x 0 x)
      ∙ ap (λ qs. questions_at s t x ++ qs) (same_below (t + 1) (y ∷ levels))

  same_disturbed : (new : System) (xs ys : List (List LevelSymbol)) (q : Question)
      → may_differ r new xs ys q ≡ may_differ s new xs ys q
  same_disturbed new xs ys q =
      ap (λ asked. is_candidate s new (get_or xs q.level []) (get_or ys q.level []) asked q) (same_below 0 xs)

  same_visits_from : (new : System) (xs ys : List (List LevelSymbol))
      → candidate_visits r new xs ys ≡ candidate_visits s new xs ys
  same_visits_from new xs ys =
      ap (λ asked. sum_by (λ q. if is_candidate s new (get_or xs q.level []) (get_or ys q.level []) asked q
      then length q.trace else 0) (questions new ys)) (same_below 0 xs)

  same_visits_to : (old : System) (xs ys : List (List LevelSymbol))
      → candidate_visits old r xs ys ≡ candidate_visits old s xs ys
  same_visits_to old xs ys =
      ap (sum_by (λ q. if may_differ old s xs ys q then length q.trace else 0)) (same_below 0 ys)

  alike_at : (t : ℕ) (m : ModuleValue) → AskAlikeAt s r t m
  alike_at t m = record {
    rules = refl;
    keyless = λ l. keyless s l (group s t m.name (length m.params)) (no_weight t m);
    still_keyless = λ l. keyless r l (group s t m.name (length m.params)) (no_weight t m);
    asks = λ x p l. same_question t x p l m;
    chooses = λ x p l. same_asked t x p l m;
    gives = λ x p l. same_successor t x p l m;
  }

  pub ask_alike : AskAlike s r
  ask_alike = record {
    modules = alike_at;
    filters = λ t. refl;
    depth = refl;
    first = refl;
    next = same_next;
    levels_to = same_levels;
    levels = λ limit. same_levels limit s.depth;
    level_asks = λ t x. same_from t x 0 x;
    asks = same_below 0;
    disturbed_from = same_disturbed;
    disturbed_to = λ old xs ys q. refl;
    visits_from = same_visits_from;
    visits_to = same_visits_to;
  }
