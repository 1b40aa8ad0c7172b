-- A candidate is exactly a question that a clause of the definition touches.
use Rattle.std.proofs.Common.{◌≡◌, ℕ, Bool, true, false, ◌&&◌, ◌||◌, eqb, get_or, Option, Some, None, Ok, List, [], ◌∷◌, refl, ap, sym, ◌∙◌, subst}
use Rattle.std.specs.Prelude.{slice_get, ◌↔◌, not}
use Rattle.std.proofs.lemmas.Option.{get_or_from_slice_get}
use Rattle.lsys_spec.specs.Systems.{System, Each, WellSpelled}
use Rattle.lsys_spec.specs.Bodies.{filter}
use Rattle.lsys_spec.specs.Levels.{LevelSymbol, lineage}
use Rattle.lsys_spec.specs.Walks.{Entry, lineages_named, any_holds}
use Rattle.lsys_spec.specs.Meaning.{meaning}
use Rattle.lsys_spec.specs.Equalities.{same_number, same_option, same_all, same_symbol, same_body, same_entry}
use Rattle.lsys_spec.specs.Questions.{Question, questions, question_at}
use Rattle.lsys_spec.specs.Standings.{Settled, is_disturbed, reads_disturbed, any_disturbed, free, same_filter, is_touched, touched_there}
use Rattle.lsys_spec.specs.LevelLaws.{NoneDisturbed, may_differ}
use Rattle.lsys_spec.proofs.Eachs.{each_at}
use Rattle.lsys_spec.proofs.Equal.{same_number_true, same_question_refl}
use Rattle.lsys_spec.proofs.Names.{NamedBody, same_all_true, same_plain_option, same_symbol_true, same_body_true}
use Rattle.lsys_spec.proofs.WellNamed.{NamedLevel}
use Rattle.lsys_spec.proofs.Needs.{disturbed, IsAsked, all_asked, IsFound, found_asked, Derived, derived, own_named, bodies_named}
use Rattle.lsys_spec.proofs.Tests.{both, neither, not_false, none_of, any_is}
use Rattle.lsys_laws.specs.Candidates.{IsUntouched}

-- 1. what is read

module _ (x y : List LevelSymbol) (u : NamedLevel x) (v : NamedLevel y) where
  settled_all : (ls : List (List ℕ)) → any_holds (is_disturbed x y) ls ≡ false → Each (Settled x y) ls
  settled_all [] h = tt
  settled_all (l ∷ ls) h = let n = none_of (is_disturbed x y) l ls h in ((disturbed x y l u v).0 n.0, settled_all ls n.1)

  read_settled : (es : List Entry) → any_disturbed x y es ≡ false → NoneDisturbed x y es
  read_settled [] h = tt
  read_settled (e ∷ es) h = let n = none_of (reads_disturbed x y) e es h in (settled_all (lineages_named e) n.0, read_settled es n.1)

  none_either : (a b : Bool) → a ≡ false → b ≡ false → a || b ≡ false
  none_either true b h k = h
  none_either false b h k = k

  none_all : (ls : List (List ℕ)) → Each (Settled x y) ls → any_holds (is_disturbed x y) ls ≡ false
  none_all [] h = refl
  none_all (l ∷ ls) h = any_is (is_disturbed x y) l ls ∙ none_either (is_disturbed x y l) (any_holds (is_disturbed x y) ls) ((disturbed x y l u v).1 h.0) (none_all ls h.1)

  none_read : (es : List Entry) → NoneDisturbed x y es → any_disturbed x y es ≡ false
  none_read [] h = refl
  none_read (e ∷ es) h =
      any_is (reads_disturbed x y) e es ∙ none_either (reads_disturbed x y e) (any_holds (reads_disturbed x y) es) (none_all (lineages_named e) h.0) (none_read es h.1)

-- 2. one question

not_true : (b : Bool) → b ≡ true → not b ≡ false
not_true b h = ap not h

all_true : (a b c : Bool) → a ≡ true → b ≡ true → c ≡ true → a && (b && c) ≡ true
all_true a b c h k l = λ i. h i && (k i && l i)

none_of_four : (a b c d : Bool) → a ≡ false → b ≡ false → c ≡ false → d ≡ false → a || (b || (c || d)) ≡ false
none_of_four a b c d h k l m = λ i. h i || (k i || (l i || m i))

-- the tests of equality tell a question from itself in no part
record Same (q : Question) : Type 0 where
  own : same_symbol q.own q.own ≡ true
  bodies : same_all same_body q.bodies q.bodies ≡ true
  key : same_option same_number q.key q.key ≡ true

same_parts : (q : Question) → Same q
same_parts q =
    let a = both (eqb q.level q.level) (same_symbol q.own q.own && (same_all same_body q.bodies q.bodies && (same_option same_number q.key q.key && same_all same_entry q.trace q.trace))) (same_question_refl q) in
    let b = both (same_symbol q.own q.own) (same_all same_body q.bodies q.bodies && (same_option same_number q.key q.key && same_all same_entry q.trace q.trace)) a.1 in
    let c = both (same_all same_body q.bodies q.bodies) (same_option same_number q.key q.key && same_all same_entry q.trace q.trace) b.1 in
    let d = both (same_option same_number q.key q.key) (same_all same_entry q.trace q.trace) c.1 in
    record { own = b.0; bodies = c.0; key = d.0 }

touched_false : (old new : System) (x y : List LevelSymbol) (asked : List Question) (q : Question) → NamedLevel x → NamedLevel y → (f : IsUntouched old new x y asked q) → is_touched old new x y f.was q ≡ false
touched_false old new x y asked q u v f =
    let was : Question = f.was in
    let s : Same q = same_parts q in
    let own : same_symbol was.own q.own ≡ true = ap (λ a. same_symbol a q.own) f.own ∙ s.own in
    let bodies : same_all same_body was.bodies q.bodies ≡ true = ap (λ a. same_all same_body a q.bodies) f.bodies ∙ s.bodies in
    let key : same_option same_number was.key q.key ≡ true = ap (λ a. same_option same_number a q.key) f.key ∙ s.key in
    none_of_four (not (same_symbol was.own q.own && (same_all same_body was.bodies q.bodies && same_option same_number was.key q.key))) (is_disturbed x y (lineage q.own)) (any_disturbed x y was.trace) (not (free q.bodies || same_filter (filter old q.level) (filter new q.level)))
    (not_true _ (all_true _ _ _ own bodies key)) ((disturbed x y (lineage q.own) u v).1 f.settled) (none_read x y u v was.trace f.read) (not_true _ f.ignored)

untouched : (old new : System) (x y : List LevelSymbol) (asked : List Question) (was q : Question) → NamedLevel x → NamedLevel y
    → (is_touched old new x y was q ≡ false → (was.own ≡ q.own) × (was.bodies ≡ q.bodies) × (was.key ≡ q.key))
    → question_at q.level (lineage q.own) asked ≡ Some was → is_touched old new x y was q ≡ false → IsUntouched old new x y asked q
untouched old new x y asked was q u v parts e h =
    let p = parts h in
    let n = neither (not (same_symbol was.own q.own && (same_all same_body was.bodies q.bodies && same_option same_number was.key q.key))) _ h in
    let k = neither (is_disturbed x y (lineage q.own)) _ n.1 in
    let r = neither (any_disturbed x y was.trace) _ k.1 in
    record {
      was = was;
      there = e;
      own = p.0;
      bodies = p.1;
      key = p.2;
      settled = (disturbed x y (lineage q.own) u v).0 k.0;
      read = read_settled x y u v was.trace r.0;
      ignored = not_false _ r.1;
    }

-- 3. in systems

same_parts_true : (old new : System) (xs ys : List (List LevelSymbol)) → Derived old xs → Derived new ys → (was q : Question) → IsAsked old xs was → IsAsked new ys q → (x y : List LevelSymbol)
    → is_touched old new x y was q ≡ false → (was.own ≡ q.own) × (was.bodies ≡ q.bodies) × (was.key ≡ q.key)
same_parts_true old new xs ys dx dy was q a b x y h =
    let n = neither (not (same_symbol was.own q.own && (same_all same_body was.bodies q.bodies && same_option same_number was.key q.key))) _ h in
    let parts = both (same_symbol was.own q.own) _ (not_false _ n.0) in
    let more = both (same_all same_body was.bodies q.bodies) (same_option same_number was.key q.key) parts.1 in (
      same_symbol_true was.own q.own (own_named old xs was dx a) (own_named new ys q dy b) parts.0,
      same_all_true same_body NamedBody same_body_true was.bodies q.bodies (bodies_named old xs was dx.formed a) (bodies_named new ys q dy.formed b) more.0,
      same_plain_option same_number same_number_true was.key q.key more.1,
    )

named_there : (s : System) (xs : List (List LevelSymbol)) (q : Question) → Derived s xs → IsAsked s xs q → (t : ℕ) → q.level ≡ t → NamedLevel (get_or xs t [])
named_there s xs q d a t e =
    subst (λ t. NamedLevel (get_or xs t [])) e (subst NamedLevel (sym (get_or_from_slice_get xs q.level a.level [] a.there)) (d.names q.level a.level a.there))

pub exact : (old new : System) (limit limit' : ℕ) (xs ys : List (List LevelSymbol)) → WellSpelled old → WellSpelled new → meaning old limit ≡ Ok xs → meaning new limit' ≡ Ok ys
    → (i : ℕ) (q : Question) → slice_get (questions new ys) i ≡ Some q
    → (may_differ old new xs ys q ≡ false) ↔ IsUntouched old new (get_or xs q.level []) (get_or ys q.level []) (questions old xs) q
exact old new limit limit' xs ys w w' h h' i q g = (forth (question_at q.level (lineage q.own) (questions old xs)) refl, back)
  where
    dx : Derived old xs
    dx = derived old limit xs w h

    dy : Derived new ys
    dy = derived new limit' ys w' h'

    here : IsAsked new ys q
    here = each_at (IsAsked new ys) (questions new ys) i q (all_asked new ys) g

    found : (was : Question) → question_at q.level (lineage q.own) (questions old xs) ≡ Some was → IsFound old xs q.level (lineage q.own) was
    found was e = found_asked old xs q.level (lineage q.own) (questions old xs) was (all_asked old xs) e

    forth : (o : Option Question) → question_at q.level (lineage q.own) (questions old xs) ≡ o → touched_there old new (get_or xs q.level []) (get_or ys q.level []) q o ≡ false
        → IsUntouched old new (get_or xs q.level []) (get_or ys q.level []) (questions old xs) q
    forth None e k = cc
    forth (Some was) e k =
        let f : IsFound old xs q.level (lineage q.own) was = found was e in
        untouched old new (get_or xs q.level []) (get_or ys q.level []) (questions old xs) was q (named_there old xs was dx f.asked q.level f.level) (named_there new ys q dy here q.level refl)
        (same_parts_true old new xs ys dx dy was q f.asked here (get_or xs q.level []) (get_or ys q.level [])) e k

    back : IsUntouched old new (get_or xs q.level []) (get_or ys q.level []) (questions old xs) q → may_differ old new xs ys q ≡ false
    back u =
        let f : IsFound old xs q.level (lineage q.own) u.was = found u.was u.there in
        ap (touched_there old new (get_or xs q.level []) (get_or ys q.level []) q) u.there
        ∙ touched_false old new (get_or xs q.level []) (get_or ys q.level []) (questions old xs) q (named_there old xs u.was dx f.asked q.level f.level) (named_there new ys q dy here q.level refl) u
