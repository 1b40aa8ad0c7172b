-- Candidates, node by node.
use Rattle.std.proofs.Common.{◌≡◌, ℕ, false, ◌||◌, List, [], ◌∷◌, map, Some, refl, ap, sym, ◌∙◌, subst}
use Rattle.std.specs.Prelude.{◌↔◌, not, slice_get}
use Rattle.lsys_spec.specs.Rows.{In}
use Rattle.lsys_spec.specs.Systems.{System, Each}
use Rattle.lsys_spec.specs.Levels.{ModuleValue, LevelSymbol, Module, lineage}
use Rattle.lsys_spec.specs.Walks.{any_holds}
use Rattle.lsys_spec.specs.Questions.{Question, questions, question_at}
use Rattle.lsys_spec.specs.Standings.{is_disturbed, any_disturbed}
use Rattle.lsys_spec.proofs.Needs.{IsAsked, IsFound, found_asked, all_asked}
use Rattle.lsys_spec.proofs.Tests.{neither, not_false, none_of, any_is}
use Rattle.lsys_laws.specs.Passes.{module_question, is_candidate_at}
use Rattle.lsys_laws.specs.Groups.{has_same_rules}
use Rattle.lsys_laws.specs.Seats.{Seating, seated, AreLevelSeatings, StandsStill, AreNodesRead, IsUntouchedNode}
use Rattle.lsys_laws.proofs.Found.{old_candidate, all_read}
use Rattle.lsys_laws.proofs.Placed.{IsNodeOf, got_in, node_of, symbol_of, seat_told}

-- nodes of which none is disturbed
all_still : (was are : Seating) (name : ℕ → List ℕ) → ((k : ℕ) → In k was.nodes → (is_disturbed (seated was) (seated are) (name k) ≡ false) ↔ StandsStill was are k)
    → (reads : List ℕ) → Each (λ r. In r was.nodes) reads → any_holds (is_disturbed (seated was) (seated are)) (map name reads) ≡ false → Each (StandsStill was are) reads
all_still was are name told [] i e = tt
all_still was are name told (r ∷ reads) i e =
    let n = none_of (is_disturbed (seated was) (seated are)) (name r) (map name reads) e in ((told r i.0).0 n.0, all_still was are name told reads i.1 n.1)

none_disturbed : (was are : Seating) (name : ℕ → List ℕ) → ((k : ℕ) → In k was.nodes → (is_disturbed (seated was) (seated are) (name k) ≡ false) ↔ StandsStill was are k)
    → (reads : List ℕ) → Each (λ r. In r was.nodes) reads → Each (StandsStill was are) reads → any_holds (is_disturbed (seated was) (seated are)) (map name reads) ≡ false
none_disturbed was are name told [] i s = refl
none_disturbed was are name told (r ∷ reads) i s =
    any_is (is_disturbed (seated was) (seated are)) (name r) (map name reads) ∙ ap (λ b. b || any_holds (is_disturbed (seated was) (seated are)) (map name reads)) ((told r i.0).1 s.0)
    ∙ none_disturbed was are name told reads i.1 s.1

-- the node of an old question stood in the old level
stood : (old new : System) (xs ys : List (List LevelSymbol)) (t : ℕ) (name : ℕ → List ℕ) (was are : Seating) → AreLevelSeatings old new xs ys t name was are
    → (p k : ℕ) (l : List ℕ) (m : ModuleValue) (q : Question) → slice_get are.nodes p ≡ Some k → are.symbol k ≡ Module l m → question_at t l (questions old xs) ≡ Some q → In k was.nodes
stood old new xs ys t name was are a p k l m q here is found =
    let f : IsFound old xs t l q = found_asked old xs t l (questions old xs) q (all_asked old xs) found in
    let b : IsAsked old xs q = f.asked in
    let level : seated was ≡ b.level = let e : Some (seated was) ≡ Some b.level = sym a.old_level ∙ ap (slice_get xs) (sym f.level) ∙ b.there in cc in
    let own : l ≡ b.parents = f.lineages ∙ ap (λ (r : Question). lineage r.own) b.is in
    let j : IsNodeOf was b.place (Module b.parents b.value) = node_of was b.place (Module b.parents b.value) (ap (λ x. slice_get x b.place) level ∙ b.stands) in
    let i : In j.node was.nodes = got_in was.nodes b.place j.node j.there in
    let n : In k are.nodes = got_in are.nodes p k here in
    let names : name k ≡ name j.node =
    sym (a.seatings.after.names k n) ∙ ap lineage is ∙ own ∙ sym (ap lineage j.is) ∙ a.seatings.before.names j.node i in
    subst (λ k. In k was.nodes) (sym (a.seatings.apart k j.node n i names)) i

pub untouched : (old new : System) (xs ys : List (List LevelSymbol)) (t : ℕ) (name : ℕ → List ℕ) (was are : Seating) → AreLevelSeatings old new xs ys t name was are
    → (p k : ℕ) (l : List ℕ) (m : ModuleValue) (q : Question) (reads : List ℕ) → slice_get are.nodes p ≡ Some k → are.symbol k ≡ Module l m → question_at t l (questions old xs) ≡ Some q
    → AreNodesRead name was.nodes reads q.trace
    → (is_candidate_at old new xs t (seated are) (module_question new t (seated are) p l m) ≡ false) ↔ IsUntouchedNode old new t was are k l m reads
untouched old new xs ys t name was are a p k l m q reads here is found r = (to, from)
  where
    x : List LevelSymbol
    x = seated was

    y : List LevelSymbol
    y = seated are

    i : In k was.nodes
    i = stood old new xs ys t name was are a p k l m q here is found

    own : l ≡ name k
    own = sym (ap lineage is) ∙ a.seatings.after.names k (got_in are.nodes p k here)

    told : (k : ℕ) → In k was.nodes → (is_disturbed x y (name k) ≡ false) ↔ StandsStill was are k
    told k i = seat_told old new xs ys t name was are a k i

    stands : slice_get y p ≡ Some (Module l m)
    stands = symbol_of are p k here ∙ ap (λ s. Some s) is

    read : any_disturbed x y q.trace ≡ any_holds (is_disturbed x y) (map name reads)
    read = all_read x y q.trace ∙ ap (any_holds (is_disturbed x y)) r.named

    test : is_candidate_at old new xs t y (module_question new t y p l m) ≡ is_disturbed x y l || (any_disturbed x y q.trace || not (has_same_rules old new t l m))
    test = old_candidate old new xs ys t x y p l m q a.meant a.old_level (record { level = a.new_level; stands = stands }) found

    to : is_candidate_at old new xs t y (module_question new t y p l m) ≡ false → IsUntouchedNode old new t was are k l m reads
    to e =
        let n = neither (is_disturbed x y l) _ (sym test ∙ e) in
        let n' = neither (any_disturbed x y q.trace) (not (has_same_rules old new t l m)) n.1 in
        record { own = (told k i).0 (ap (is_disturbed x y) (sym own) ∙ n.0); read = all_still was are name told reads r.there (sym read ∙ n'.0); rules = not_false (has_same_rules old new t l m) n'.1 }

    from : IsUntouchedNode old new t was are k l m reads → is_candidate_at old new xs t y (module_question new t y p l m) ≡ false
    from u =
        test ∙ ap (λ b. b || (any_disturbed x y q.trace || not (has_same_rules old new t l m))) (ap (is_disturbed x y) own ∙ (told k i).1 u.own)
        ∙ ap (λ b. b || not (has_same_rules old new t l m)) (read ∙ none_disturbed was are name told reads r.there u.read) ∙ ap not u.rules
