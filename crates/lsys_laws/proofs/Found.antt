-- Which old questions are candidates: by what is disturbed, and by the rules.
use Rattle.std.proofs.Common.{◌≡◌, ℕ, Bool, true, false, ◌&&◌, ◌||◌, cond, Some, None, List, [], ◌∷◌, ◌++◌, length, refl, ap, sym, ◌∙◌, subst}
use Rattle.std.specs.Prelude.{not, flat_map, get_or, slice_get}
use Rattle.std.proofs.lemmas.Option.{get_or_from_slice_get}
use Rattle.lsys_spec.specs.Systems.{System}
use Rattle.lsys_spec.specs.Bodies.{Body, filter}
use Rattle.lsys_spec.specs.Levels.{ModuleValue, LevelSymbol, Push, Module, lineage}
use Rattle.lsys_spec.specs.Walks.{Entry, lineages_named, any_holds}
use Rattle.lsys_spec.specs.Meaning.{any_weight, key_for}
use Rattle.lsys_spec.specs.Draws.{key_of}
use Rattle.lsys_spec.specs.Equalities.{same_number, same_option, same_all, same_symbol, same_body}
use Rattle.lsys_spec.specs.Questions.{Question, questions, question_at}
use Rattle.lsys_spec.specs.Standings.{Settled, is_disturbed, any_disturbed, free, same_filter, is_touched, touched_there}
use Rattle.lsys_spec.proofs.Equal.{same_question_refl, same_symbol_refl, same_number_refl, same_option_refl}
use Rattle.lsys_spec.proofs.Standings.{still_there}
use Rattle.lsys_spec.proofs.Needs.{disturbed, Derived, derived, IsAsked, IsFound, found_asked, all_asked}
use Rattle.lsys_spec.proofs.Tests.{both, and_true, or_later, any_is}
use Rattle.lsys_laws.specs.Passes.{AreMeantTo, IsModuleAt, module_question, is_candidate_at}
use Rattle.lsys_laws.specs.Groups.{module_rules, has_same_rules, AreSameRules}
use Rattle.lsys_laws.proofs.UpTo.{derived_to}

own_value : (l l' : List ℕ) (m m' : ModuleValue) → Module l m ≡ Module l' m' → m ≡ m'
own_value l l' m m' h = cc

-- the parts of the test
parts : (bodies key read filters : Bool) → not (true && (bodies && key)) || (false || (read || not filters)) ≡ read || not (bodies && (key && filters))
parts true true read filters = refl
parts true false true filters = refl
parts true false false filters = refl
parts false key true filters = refl
parts false key false filters = refl

pub found_candidate : (old new : System) (xs ys : List (List LevelSymbol)) → Derived old xs → Derived new ys → (t : ℕ) (x y : List LevelSymbol) → slice_get xs t ≡ Some x → slice_get ys t ≡ Some y
    → (p : ℕ) (l : List ℕ) (m : ModuleValue) (was : Question) → slice_get y p ≡ Some (Module l m) → question_at t l (questions old xs) ≡ Some was
    → is_touched old new x y was (module_question new t y p l m) ≡ is_disturbed x y l || (any_disturbed x y was.trace || not (has_same_rules old new t l m))
found_candidate old new xs ys dx dy t x y gx gy p l m was stands found = by (is_disturbed x y l) refl
  where
    bs : List Body
    bs = module_rules new t m

    q : Question
    q = module_question new t y p l m

    read : Bool
    read = any_disturbed x y was.trace

    filters : Bool
    filters = free bs || same_filter (filter old t) (filter new t)

    posed : Bool
    posed = not (same_symbol was.own q.own && (same_all same_body was.bodies bs && same_option same_number was.key q.key))

    others : Bool
    others = read || not (has_same_rules old new t l m)

    a : IsFound old xs t l was
    a = found_asked old xs t l (questions old xs) was (all_asked old xs) found

    by : (d : Bool) → is_disturbed x y l ≡ d → is_touched old new x y was q ≡ is_disturbed x y l || others
    by true e = ap (λ d. posed || (d || (read || not filters))) e ∙ or_later posed true refl ∙ sym (ap (λ d. d || others) e)
    by false e =
        let f : IsAsked old xs was = a.asked in
        let settled : Settled x y l = (disturbed x y l (dx.names t x gx) (dy.names t y gy)).0 e in
        let there : slice_get xs t ≡ Some f.level = ap (slice_get xs) (sym a.level) ∙ f.there in
        let level : x ≡ f.level = let h : Some x ≡ Some f.level = sym gx ∙ there in cc in
        let stood : slice_get x f.place ≡ Some (Module f.parents f.value) = ap (λ x. slice_get x f.place) level ∙ f.stands in
        let lineages : l ≡ f.parents = a.lineages ∙ ap (λ (r : Question). lineage r.own) f.is in
        let s = still_there x y f.place (Module f.parents f.value) (dx.levels t x gx) stood (subst (Settled x y) lineages settled) in
        let here : s.0 ≡ p = (dy.levels t y gy).apart s.0 p (Module f.parents f.value) (Module l m) s.2 stands (sym lineages) in
        let both_here : Some (Module f.parents f.value) ≡ Some (Module l m) = sym s.2 ∙ ap (slice_get y) here ∙ stands in
        let own : Module f.parents f.value ≡ Module l m = cc in
        let value : f.value ≡ m = own_value f.parents l f.value m own in
        let was_own : was.own ≡ q.own = ap (λ (r : Question). r.own) f.is ∙ own in
        let rules : was.bodies ≡ module_rules old t m =
        ap (λ (r : Question). r.bodies) f.is ∙ ap (λ t. module_rules old t f.value) a.level ∙ ap (module_rules old t) value in
        let key : was.key ≡ key_for old l (module_rules old t m) =
        ap (λ (r : Question). r.key) f.is ∙ ap (λ l. key_for old l (module_rules old was.level f.value)) (sym lineages)
        ∙ ap (key_for old l) (sym (ap (λ (r : Question). r.bodies) f.is) ∙ rules) in
        let same_own : same_symbol was.own q.own ≡ true = ap (λ s. same_symbol s q.own) was_own ∙ same_symbol_refl q.own in
        let bodies : Bool = same_all same_body (module_rules old t m) bs in
        let keys : Bool = same_option same_number (key_for old l (module_rules old t m)) q.key in
        ap (λ d. posed || (d || (read || not filters))) e
        ∙ ap (λ b. not (b && (same_all same_body was.bodies bs && same_option same_number was.key q.key)) || (false || (read || not filters))) same_own
        ∙ ap (λ bodies. not (true && (same_all same_body bodies bs && same_option same_number was.key q.key)) || (false || (read || not filters))) rules
        ∙ ap (λ key. not (true && (bodies && same_option same_number key q.key)) || (false || (read || not filters))) key
        ∙ parts bodies keys read filters ∙ sym (ap (λ d. d || others) e)

-- what is read, by all lineages that the entries name

or_grouped : (a b c : Bool) → a || (b || c) ≡ (a || b) || c
or_grouped true b c = refl
or_grouped false b c = refl

any_append : {A : Type 0} (p : A → Bool) (xs ys : List A) → any_holds p (xs ++ ys) ≡ any_holds p xs || any_holds p ys
any_append p [] ys = refl
any_append p (x ∷ xs) ys =
    any_is p x (xs ++ ys) ∙ ap (λ b. p x || b) (any_append p xs ys) ∙ or_grouped (p x) (any_holds p xs) (any_holds p ys) ∙ sym (ap (λ b. b || any_holds p ys) (any_is p x xs))

any_of_any : {A B : Type 0} (p : B → Bool) (f : A → List B) (xs : List A) → any_holds (λ x. any_holds p (f x)) xs ≡ any_holds p (flat_map f xs)
any_of_any p f [] = refl
any_of_any p f (x ∷ xs) = any_is (λ x. any_holds p (f x)) x xs ∙ ap (λ b. any_holds p (f x) || b) (any_of_any p f xs) ∙ sym (any_append p (f x) (flat_map f xs))

pub all_read : (x y : List LevelSymbol) (es : List Entry) → any_disturbed x y es ≡ any_holds (is_disturbed x y) (flat_map lineages_named es)
all_read x y es = any_of_any (is_disturbed x y) lineages_named es

-- the same rules, by name and arity

bodies_refl : (bs : List Body) → same_all same_body bs bs ≡ true
bodies_refl bs =
    let q : Question = record { level = 0; own = Push []; bodies = bs; key = None; trace = [] } in
    let a = both (same_number q.level q.level) _ (same_question_refl q) in
    let b = both (same_symbol q.own q.own) _ a.1 in (both (same_all same_body q.bodies q.bodies) _ b.1).0

keys_for : (old new : System) (l : List ℕ) (bs : List Body) → (any_weight bs ≡ true → old.seed ≡ new.seed) → key_for old l bs ≡ key_for new l bs
keys_for old new l bs h = by (any_weight bs) refl
  where
    by : (b : Bool) → any_weight bs ≡ b → key_for old l bs ≡ key_for new l bs
    by true e = ap (λ n. cond (any_weight bs) (Some (key_of n l)) None) (h e)
    by false e = ap (λ b. cond b (Some (key_of old.seed l)) None) e ∙ sym (ap (λ b. cond b (Some (key_of new.seed l)) None) e)

pub rules_stay : (old new : System) (t : ℕ) (l : List ℕ) (m : ModuleValue) → AreSameRules old new t m.name (length m.params) → has_same_rules old new t l m ≡ true
rules_stay old new t l m s =
    let was : List Body = module_rules old t m in
    let are : List Body = module_rules new t m in
    let key : key_for old l was ≡ key_for new l are = ap (key_for old l) s.groups ∙ keys_for old new l are s.seed in
    and_true (same_all same_body was are) _ (ap (λ bs. same_all same_body bs are) s.groups ∙ bodies_refl are)
    (and_true (same_option same_number (key_for old l was) (key_for new l are)) _ (ap (λ k. same_option same_number k (key_for new l are)) key ∙ same_option_refl same_number same_number_refl (key_for new l are)) s.filters)

-- the test of a candidate that the old system asked
pub old_candidate : (old new : System) (xs ys : List (List LevelSymbol)) (t : ℕ) (x y : List LevelSymbol) (p : ℕ) (l : List ℕ) (m : ModuleValue) (was : Question)
    → AreMeantTo old new xs ys t → slice_get xs t ≡ Some x → IsModuleAt ys t y p l m → question_at t l (questions old xs) ≡ Some was
    → is_candidate_at old new xs t y (module_question new t y p l m) ≡ is_disturbed x y l || (any_disturbed x y was.trace || not (has_same_rules old new t l m))
old_candidate old new xs ys t x y p l m was w gx a found =
    let q : Question = module_question new t y p l m in
    ap (touched_there old new (get_or xs t []) y q) found ∙ ap (λ x. is_touched old new x y was q) (get_or_from_slice_get xs t x [] gx)
    ∙ found_candidate old new xs ys (derived old w.old_limit xs w.old_spelled w.old_meant) (derived_to new w.new_limit t ys w.new_spelled w.new_meant) t x y gx a.level p l m was a.stands found
