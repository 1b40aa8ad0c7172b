-- Mates are found on a row from the left to the right.
use Rattle.std.proofs.Common.{◌≡◌, ◌≢◌, ℕ, zero, suc, List, [], ◌∷◌, ◌++◌, Option, Some, None, refl, sym, ap, ◌∙◌, arith, inl, inr, subst}
use Rattle.std.specs.Option.{option_and_then}
use Rattle.std.proofs.lemmas.Bool.{cases_eq}
use Rattle.std.proofs.lemmas.List.{append-nil}
use Rattle.std.proofs.lemmas.Option.{none-some, same_Some}
use Rattle.lsys_spec.specs.Rows.{In, AreApart, mirrored}
use Rattle.lsys_level.specs.Spots.{Seen, Push, Pop, Module, IsBracket}
use Rattle.lsys_forest.specs.declared.node.Footing.{Footing}
use Rattle.lsys_forest.specs.declared.walk.Way.{Way}
use Rattle.lsys_forest.specs.declared.walk.Way.TheVariants.{Left, Right}
use Rattle.lsys_forest.specs.Slots.{footing_at, rank_at, link_in, link_at, footing_mate, mate_set}
use Rattle.lsys_forest.specs.SlotChanges.{KeepsOtherFootings}
use Rattle.lsys_forest.specs.Rows.{oriented}
use Rattle.lsys_forest.specs.Pairs.{open_after, branch_opening, ends_or, branch_end, first_of_two, AreMatedIn, IsPairing, still_open, Pairs}
use Rattle.lsys_forest.proofs.RowLemmas.{In_right, same_sides, apart_parts, oriented_In_back}
use Rattle.lsys_forest.proofs.WalkLemmas.{mirrored_push, mirrored_twice, mirrored_around}
use Rattle.lsys_forest.proofs.ChainLemmas.{push_split}
use Rattle.lsys_forest.proofs.BranchLemmas.{run_of, end_on, end_none, end_in, run_back, begun_at, run_more, none_more, open_inside, inside_open}

-- 1. a symbol is passed

pub pairing_start : (seen : ℕ → Seen) (footings : List Footing) → IsPairing seen [] footings None
pairing_start seen footings = record {
  open_is = refl;
  ended = λ k b a e. absurd (empty b k a e);
  begun = λ k b a e. absurd (empty b k a e);
}
  where
    empty : (b : List ℕ) (k : ℕ) (a : List ℕ) → [] ≡ b ++ k ∷ a → ⊥
    empty [] k a e = grind (arith, e)
    empty (x ∷ b) k a e = grind (arith, e)

-- what is open after it
open_on : (seen : ℕ → Seen) (passed : List ℕ) (old : List Footing) (opener : Option ℕ) (node : ℕ) (s : Seen) → seen node ≡ s → IsPairing seen passed old opener → still_open s old opener node ≡ branch_end Left seen 0 (node ∷ mirrored passed)
open_on seen passed old opener node Push is was = sym (ap (λ s. ends_or (open_after Left s 0) node (λ i. branch_end Left seen i (mirrored passed))) is)
open_on seen passed old opener node (Module v) is was = was.open_is ∙ sym (ap (λ s. ends_or (open_after Left s 0) node (λ i. branch_end Left seen i (mirrored passed))) is)
open_on seen passed old opener node Pop is was = go opener refl ∙ sym (ap (λ s. ends_or (open_after Left s 0) node (λ i. branch_end Left seen i (mirrored passed))) is)
  where
    go : (o : Option ℕ) → opener ≡ o → option_and_then (footing_mate old) opener ≡ branch_end Left seen 1 (mirrored passed)
    go None e = ap (option_and_then (footing_mate old)) e ∙ sym (none_more seen 0 (mirrored passed) (sym was.open_is ∙ e))
    go (Some p) e =
        let b = begun_at seen 0 (mirrored passed) p (sym was.open_is ∙ e) in
        let whole : passed ≡ mirrored b.rest ++ p ∷ mirrored b.inner = sym (mirrored_twice passed) ∙ ap mirrored b.whole ∙ mirrored_around b.inner p b.rest in
        let inside : run_of Right seen 0 (mirrored b.inner) ≡ Some 0 = run_back seen 0 0 (mirrored b.inner) (ap (run_of Left seen 0) (mirrored_twice b.inner) ∙ b.run) in
        ap (option_and_then (footing_mate old)) e
        ∙ was.begun p (mirrored b.rest) (mirrored b.inner) whole b.push
        ∙ ap (λ o. first_of_two o (branch_end Left seen 0 (mirrored (mirrored b.rest)))) (end_none Right seen 0 (mirrored b.inner) 0 inside)
        ∙ ap (branch_end Left seen 0) (mirrored_twice b.rest)
        ∙ sym (
        ap (branch_end Left seen 1) b.whole
        ∙ end_on Left seen 1 b.inner (p ∷ b.rest) 1 (run_more seen 0 0 b.inner b.run)
        ∙ ap (λ s. ends_or (open_after Left s 1) p (λ i. branch_end Left seen i b.rest)) b.push
        )

pop_is : (s : Seen) → s ≡ Pop → IsBracket s
pop_is s e = subst IsBracket (sym e) tt

push_is : (s : Seen) → s ≡ Push → IsBracket s
push_is s e = subst IsBracket (sym e) tt

push_pop : (s : Seen) → s ≡ Push → s ≡ Pop → ⊥
push_pop s e f = grind (arith, e, f)

pub pairing_on : (seen : ℕ → Seen) (passed : List ℕ) (node : ℕ) (old new : List Footing) (opener next : Option ℕ) → AreApart (passed ++ node ∷ []) → Pairs (seen node) old new opener node next → IsPairing seen passed old opener → IsPairing seen (passed ++ node ∷ []) new next
pairing_on seen passed node old new opener next apart e was = record {
  open_is = e.next_is ∙ open_on seen passed old opener node (seen node) refl was ∙ ap (branch_end Left seen 0) (sym (mirrored_push passed node));
  ended = λ k b a whole pop. elim (cases_eq k node) [
    | inl same ↦
        let sides = same_sides node passed [] b a apart (subst (λ i. passed ++ node ∷ [] ≡ b ++ i ∷ a) same whole) in
        ap (footing_mate new) same ∙ e.here (pop_is (seen node) (ap seen (sym same) ∙ pop)) ∙ was.open_is ∙ ap (λ (l : List ℕ). branch_end Left seen 0 (mirrored l)) sides.0
    | inr far ↦
        let s = push_split passed node b k a apart far whole in
        ap (λ (f : Footing). f.mate) (e.others k (λ bracket. far) (λ ends is. push_pop (seen k) (begun_at seen 0 (mirrored passed) k (sym was.open_is ∙ is)).push pop))
        ∙ was.ended k b s.0 s.1 pop
  ];
  begun = λ k b a whole push. elim (cases_eq k node) [
    | inl same ↦
        let sides = same_sides node passed [] b a apart (subst (λ i. passed ++ node ∷ [] ≡ b ++ i ∷ a) same whole) in
        ap (footing_mate new) same ∙ e.here (push_is (seen node) (ap seen (sym same) ∙ push)) ∙ was.open_is ∙ ap (λ (l : List ℕ). branch_end Left seen 0 (mirrored l)) sides.0
        ∙ ap (λ (l : List ℕ). first_of_two (branch_end Right seen 0 l) (branch_end Left seen 0 (mirrored b))) sides.1
    | inr far ↦
        let s = push_split passed node b k a apart far whole in
        after k b s.0 far s.1 push (run_of Right seen 0 s.0) refl ∙ ap (λ (l : List ℕ). first_of_two (branch_end Right seen 0 l) (branch_end Left seen 0 (mirrored b))) (sym s.2)
  ];
}
  where
    apart_row : AreApart passed
    apart_row = (apart_parts passed (node ∷ []) apart).0

    -- a bracket that stays open, inside which so many branches are open
    still : (k : ℕ) (b rest : List ℕ) (d : ℕ) (s : Seen) → k ≢ node → passed ≡ b ++ k ∷ rest → seen k ≡ Push → run_of Right seen 0 rest ≡ Some d → seen node ≡ s → footing_mate new k ≡ first_of_two (ends_or (open_after Right s d) node (λ i. None)) (branch_end Left seen 0 (mirrored b))
    still k b rest d Push far whole push run is =
        ap (λ (f : Footing). f.mate) (e.others k (λ bracket. far) (λ ends f. push_pop (seen node) is ends))
        ∙ was.begun k b rest whole push ∙ ap (λ o. first_of_two o (branch_end Left seen 0 (mirrored b))) (end_none Right seen 0 rest d run)
    still k b rest d (Module v) far whole push run is =
        ap (λ (f : Footing). f.mate) (e.others k (λ bracket. far) (λ ends f. (let no : Module v ≡ Pop = sym is ∙ ends in grind (arith, no))))
        ∙ was.begun k b rest whole push ∙ ap (λ o. first_of_two o (branch_end Left seen 0 (mirrored b))) (end_none Right seen 0 rest d run)
    still k b rest zero Pop far whole push run is = e.closed k is (was.open_is ∙ inside_open seen passed b rest k whole push run)
    still k b rest (suc d) Pop far whole push run is =
        ap (λ (f : Footing). f.mate) (e.others k (λ bracket. far) (λ ends f. (let no : 0 ≡ suc d = same_Some 0 (suc d) (sym (open_inside seen passed b rest k apart_row whole (sym was.open_is ∙ f)) ∙ run) in omega (arith, no))))
        ∙ was.begun k b rest whole push ∙ ap (λ o. first_of_two o (branch_end Left seen 0 (mirrored b))) (end_none Right seen 0 rest (suc d) run)

    after : (k : ℕ) (b rest : List ℕ) → k ≢ node → passed ≡ b ++ k ∷ rest → seen k ≡ Push → (o : Option ℕ) → run_of Right seen 0 rest ≡ o → footing_mate new k ≡ first_of_two (branch_end Right seen 0 (rest ++ node ∷ [])) (branch_end Left seen 0 (mirrored b))
    after k b rest far whole push None run =
        let q = end_in Right seen 0 rest run in
        let ended : branch_end Right seen 0 rest ≡ Some q.0 = ap (branch_end Right seen 0) (sym (append-nil rest)) ∙ q.1 [] in
        ap (λ (f : Footing). f.mate) (e.others k (λ bracket. far) (λ ends f. none-some 0 (sym run ∙ open_inside seen passed b rest k apart_row whole (sym was.open_is ∙ f))))
        ∙ was.begun k b rest whole push
        ∙ ap (λ o. first_of_two o (branch_end Left seen 0 (mirrored b))) (ended ∙ sym (q.1 (node ∷ [])))
    after k b rest far whole push (Some d) run =
        still k b rest d (seen node) far whole push run refl
        ∙ ap (λ o. first_of_two o (branch_end Left seen 0 (mirrored b))) (sym (end_on Right seen 0 rest (node ∷ []) d run))

-- 2. the whole row

pub pairing_done : (seen : ℕ → Seen) (row : List ℕ) (footings : List Footing) (opener : Option ℕ) → IsPairing seen row footings opener → AreMatedIn seen row footings
pairing_done seen row footings opener was = λ k mate way b a whole opens end. go way k mate b a whole opens end
  where
    go : (way : Way) (k mate : ℕ) (b a : List ℕ) → oriented way row ≡ b ++ k ∷ a → seen k ≡ branch_opening way → branch_end way seen 0 a ≡ Some mate → footing_mate footings k ≡ Some mate
    go Right k mate b a whole opens end = was.begun k b a whole opens ∙ ap (λ o. first_of_two o (branch_end Left seen 0 (mirrored b))) end
    go Left k mate b a whole opens end =
        was.ended k (mirrored a) (mirrored b) (sym (mirrored_twice row) ∙ ap mirrored whole ∙ mirrored_around b k a) opens
        ∙ ap (branch_end Left seen 0) (mirrored_twice a) ∙ end

-- the open bracket was passed
pub open_in : (seen : ℕ → Seen) (passed : List ℕ) (footings : List Footing) (opener : Option ℕ) (k : ℕ) → IsPairing seen passed footings opener → opener ≡ Some k → In k passed
open_in seen passed footings opener k was e =
    let b = begun_at seen 0 (mirrored passed) k (sym was.open_is ∙ e) in
    oriented_In_back Left k passed (subst (In k) (sym b.whole) (In_right k b.inner (k ∷ b.rest) (inl refl)))

-- 3. a mate is set

pub mate_sets : (old new : List Footing) (node : ℕ) (x : Option ℕ) → footing_at new node ≡ mate_set x (footing_at old node) → KeepsOtherFootings node old new → ((k : ℕ) → rank_at new k ≡ rank_at old k) × ((way : Way) (k : ℕ) → link_at way new k ≡ link_at way old k)
mate_sets old new node x here others = (
  λ k. elim (cases_eq k node) [
    | inl e ↦ ap (rank_at new) e ∙ ap (λ (f : Footing). f.rank) here ∙ ap (rank_at old) (sym e)
    | inr ne ↦ ap (λ (f : Footing). f.rank) (others k ne)
  ],
  λ way k. elim (cases_eq k node) [
    | inl e ↦ ap (link_at way new) e ∙ ap (link_in way) here ∙ same way (footing_at old node) ∙ ap (link_at way old) (sym e)
    | inr ne ↦ ap (link_in way) (others k ne)
  ],
)
  where
    same : (way : Way) (f : Footing) → link_in way (mate_set x f) ≡ link_in way f
    same Left f = refl
    same Right f = refl

pub pairs_push : (old new : List Footing) (node : ℕ) (opener : Option ℕ) → footing_at new node ≡ mate_set opener (footing_at old node) → KeepsOtherFootings node old new → Pairs Push old new opener node (Some node)
pairs_push old new node opener here others =
    let s = mate_sets old new node opener here others in
    record {
      next_is = refl;
      here = λ bracket. ap (λ (f : Footing). f.mate) here;
      closed = λ k no is. absurd (let n : Push ≡ Pop = no in grind (arith, n));
      others = λ k far none. others k (far tt);
      ranks = s.0;
      links = s.1;
    }

pub pairs_none : (old new : List Footing) (node : ℕ) → footing_at new node ≡ mate_set None (footing_at old node) → KeepsOtherFootings node old new → Pairs Pop old new None node None
pairs_none old new node here others =
    let s = mate_sets old new node None here others in
    record {
      next_is = refl;
      here = λ bracket. ap (λ (f : Footing). f.mate) here;
      closed = λ k ends is. absurd (none-some k is);
      others = λ k far none. others k (far tt);
      ranks = s.0;
      links = s.1;
    }

pub pairs_some : (old mid new : List Footing) (begin node : ℕ) → begin ≢ node → footing_at mid begin ≡ mate_set (Some node) (footing_at old begin) → KeepsOtherFootings begin old mid → footing_at new node ≡ mate_set (Some begin) (footing_at mid node) → KeepsOtherFootings node mid new → Pairs Pop old new (Some begin) node (footing_mate old begin)
pairs_some old mid new begin node apart first first_others second second_others =
    let s = mate_sets old mid begin (Some node) first first_others in
    let t = mate_sets mid new node (Some begin) second second_others in
    record {
      next_is = refl;
      here = λ bracket. ap (λ (f : Footing). f.mate) second;
      closed = λ k ends is.
          let same : k ≡ begin = sym (same_Some begin k is) in
          ap (footing_mate new) same ∙ ap (λ (f : Footing). f.mate) (second_others begin apart) ∙ ap (λ (f : Footing). f.mate) first;
      others = λ k far none. second_others k (far tt) ∙ first_others k (λ e. none refl (ap Some (sym e)));
      ranks = λ k. t.0 k ∙ s.0 k;
      links = λ way k. t.1 way k ∙ s.1 way k;
    }

pub pairs_module : (footings : List Footing) (s : Seen) (node : ℕ) (opener : Option ℕ) → (IsBracket s → ⊥) → Pairs s footings footings opener node opener
pairs_module footings Push node opener plain = absurd (plain tt)
pairs_module footings Pop node opener plain = absurd (plain tt)
pairs_module footings (Module v) node opener plain = record {
  next_is = refl;
  here = λ bracket. absurd bracket;
  closed = λ k ends is. absurd (let n : Module v ≡ Pop = ends in grind (arith, n));
  others = λ k far none. refl;
  ranks = λ k. refl;
  links = λ way k. refl;
}
