-- What is counted, and what was made, take what the definitions say.
use Rattle.std.proofs.Common.{◌≡◌, ◌+◌, ◌*◌, ◌<◌, ◌≤◌, ℕ, Bool, true, false, List, [], ◌∷◌, ◌++◌, Option, Some, map, length, refl, sym, ap, ◌∙◌, subst, arith, sum_by}
use Rattle.std.specs.Prelude.{ℤ, ◌/◌, ◌%◌, if◌then◌else◌}
use Rattle.std.proofs.lemmas.List.Sums.{sum_by-cons, sum_by_push}
use Rattle.lsys_syntax.specs.Commands.{Numbering}
use Rattle.lsys_syntax.specs.Strings as S
use Rattle.lsys_spec.specs.Draws.{number_base}
use Rattle.lsys_spec.specs.Systems.{Each}
use Rattle.lsys_module.specs.declared.symbol.Symbol.{Symbol}
use Rattle.lsys_module.specs.declared.symbol.Symbol.TheVariants as symbols
use Rattle.lsys_level.specs.Spots.{with_lineage}
use Rattle.lsys_level.specs.Places.{seen_in, params_in}
use Rattle.lsys_region.specs.Rooms.{room_of, list_room}
use Rattle.lsys_forest.specs.Nodes.{Node, Nodes}
use Rattle.lsys_forest.specs.Rows.{kids_in}
use Rattle.lsys_children.specs.declared.need.Need.{Need}
use Rattle.lsys_children.specs.declared.child.Child.{Child}
use Rattle.lsys_children.specs.Matches.{node_numbered}
use Rattle.lsys_children.specs.Children.{numbers_of, births, notes_for, params_for, need_at, IsFew}
use Rattle.lsys_match.specs.Kept.{Kept}
use Rattle.lsys_children.specs.Wishes.{child_number, child_symbol, AreWanted}
use Rattle.lsys_children.specs.Nexts.{wanted_count}
use Rattle.lsys_children.specs.Answers.{kept_successors}
use Rattle.lsys_children.proofs.Nexts.{lineage_with}
use Rattle.lsys_children.proofs.Lengths.{made_count}
use Rattle.lsys_children.specs.declared.parent.Parent.{Parent}
use Rattle.lsys_children.specs.declared.count.ChildCount.{ChildCount}
use Rattle.lsys_children.specs.Parents.{wants}
use Rattle.lsys_children.specs.Needs.{IsBoundedCount, number_from, number_told, params_told, room_told, wanted_symbols, need_for, need_at_parent, wanted_of, had_by, count_of_all, count_at_parent, with_count}

-- 1. one parent

params_are : (l : List ℕ) (s : Symbol) → params_told (with_lineage l (seen_in s)) ≡ params_in s
params_are l symbols.Push = refl
params_are l symbols.Pop = refl
params_are l symbols.Cut = refl
params_are l (symbols.Module m) = refl

code_is : (a b : ℕ) → b < number_base → (number_base * a + b) / number_base ≡ a
code_is a b few = omega (arith, few)

count_is : (a b : ℕ) → b < number_base → (number_base * a + b) % number_base ≡ b
count_is a b few = omega (arith, few)

number_is : (w : Child) → w.number.count < number_base → number_told (child_symbol [] w) ≡ w.number
number_is w few = ap number_from (lineage_with (child_number w ∷ []) (seen_in w.symbol)) ∙ both
  where
    both : number_from (child_number w ∷ []) ≡ w.number
    both = λ i. record { code = code_is w.number.code w.number.count few i; count = count_is w.number.code w.number.count few i }

numbers_are : (ws : List Child) → Each (λ w. w.number.count < number_base) ws → map number_told (map (child_symbol []) ws) ≡ numbers_of ws
numbers_are [] e = refl
numbers_are (w ∷ ws) e = λ i. number_is w e.0 i ∷ numbers_are ws e.1 i

-- the numbers of the children that are wanted are those that the successor tells
pub numbers_wanted : (g : Numbering) (key : ℕ) (zs : List (S.Symbol ℤ)) (ws : List Child) → AreWanted g key zs ws → numbers_of ws ≡ map number_told (wanted_symbols g zs)
numbers_wanted g key zs ws a = sym (numbers_are ws a.small) ∙ ap (map number_told) (a.symbols [])

rooms_are : (ws : List Child) → sum_by room_told (map (child_symbol []) ws) ≡ params_for ws
rooms_are [] = refl
rooms_are (w ∷ ws) =
    let one : room_told (child_symbol [] w) ≡ list_room (params_in w.symbol) = ap (λ (l : List ℤ). list_room l) (params_are (child_number w ∷ []) w.symbol) in
    let rest = rooms_are ws in
    omega (arith, sum_by-cons room_told (child_symbol [] w) (map (child_symbol []) ws), one, rest)

-- the step for a parent takes what its successor tells
pub need_is : {A : Type 0} (g : Numbering) (key : ℕ) (zs : List (S.Symbol ℤ)) (ws : List Child) (m : Nodes A) (kids : List ℕ) → AreWanted g key zs ws → need_at m kids ws ≡ need_for g m kids zs
need_is g key zs ws m kids a = λ i. record {
  nodes = births (map (node_numbered m kids) (numbers i));
  params = params i;
  kids = room_of (long i);
  notes = notes_for (map (node_numbered m kids) (numbers i)) + 1;
  told = long i + length kids + 1;
}
  where
    numbers : numbers_of ws ≡ map number_told (wanted_symbols g zs)
    numbers = numbers_wanted g key zs ws a

    params : params_for ws ≡ sum_by room_told (wanted_symbols g zs)
    params = sym (rooms_are ws) ∙ ap (sum_by room_told) (a.symbols [])

    long : length ws ≡ wanted_count g zs
    long = made_count g key zs ws a

-- 2. one parent more

pub count_push : (g : Numbering) (m : Nodes Kept) (ps : List Parent) (p : Parent) → count_of_all g m (ps ++ p ∷ []) ≡ with_count (count_of_all g m ps) (count_at_parent g m p)
count_push g m ps p = λ i. record {
  need = record {
    nodes = sum_by_push (λ q. (need_at_parent g m q).nodes) ps p i;
    params = sum_by_push (λ q. (need_at_parent g m q).params) ps p i;
    kids = sum_by_push (λ q. (need_at_parent g m q).kids) ps p i;
    notes = sum_by_push (λ q. (need_at_parent g m q).notes) ps p i;
    told = sum_by_push (λ q. (need_at_parent g m q).told) ps p i;
  };
  wanted = sum_by_push (wanted_of g m) ps p i;
  had = sum_by_push (had_by m) ps p i;
}

-- 3. one parent, as it was filled

pub need_there : (g : Numbering) (m : Nodes Kept) (p : Parent) (n : Node Kept) (key : ℕ) (ws : List Child) → m p.node ≡ Some n → AreWanted g key (wants m p) ws → need_at m n.kids ws ≡ need_at_parent g m p
need_there g m p n key ws is a = need_is g key (wants m p) ws m n.kids a ∙ ap (λ (l : List ℕ). need_for g m l (wants m p)) kids
  where
    kids : n.kids ≡ kids_in (m p.node)
    kids = ap (λ (o : Option (Node Kept)). kids_in o) (sym is)

pub counted : (g : Numbering) (m : Nodes Kept) (p : Parent) (n : Node Kept) (key : ℕ) (ws : List Child) (need : Need) (had : ℕ) → m p.node ≡ Some n → AreWanted g key (wants m p) ws → need ≡ need_at m n.kids ws → had ≡ length n.kids
    → record { need = need; wanted = length ws; had = had } ≡ count_at_parent g m p
counted g m p n key ws need had is a e f = λ i. record { need = there i; wanted = made_count g key (wants m p) ws a i; had = long i }
  where
    there : need ≡ need_at_parent g m p
    there = e ∙ need_there g m p n key ws is a

    long : had ≡ had_by m p
    long = f ∙ ap (λ (o : Option (Node Kept)). length (kids_in o)) (sym is)

short_if : (b : Bool) (zs : List (S.Symbol ℤ)) → length zs ≤ number_base → length (if b then [] else zs) ≤ number_base
short_if true zs e = omega arith
short_if false zs e = e

pub wants_short : (m : Nodes Kept) (p : Parent) → length (kept_successors m p.node) ≤ number_base → length (wants m p) ≤ number_base
wants_short m p e = short_if p.is_cut (kept_successors m p.node) e

pub few_counted : (m : Nodes Kept) (n : Node Kept) (ws : List Child) (need : Need) (had : ℕ) → need ≡ need_at m n.kids ws → had ≡ length n.kids → length ws ≤ number_base → IsFew need
    → IsBoundedCount 1 had (record { need = need; wanted = length ws; had = had })
few_counted m n ws need had e f l few = record {
  nodes = omega (arith, few.nodes);
  params = omega (arith, few.params);
  kids = omega (arith, few.kids);
  notes = omega (arith, few.notes);
  told = omega (arith, told, f, l);
  wanted = omega (arith, l);
  had = omega arith;
}
  where
    told : need.told ≡ length ws + length n.kids + 1
    told = ap (λ (x : Need). x.told) e

pub small_push : (n h h' : ℕ) (a b c : ChildCount) → IsBoundedCount n h a → IsBoundedCount 1 b.had b → c ≡ with_count a b → h' ≡ h + b.had → IsBoundedCount (n + 1) h' c
small_push n h h' a b c s t e f = subst (λ (x : ChildCount). IsBoundedCount (n + 1) h' x) (sym e) (record {
  nodes = omega (arith, s.nodes, t.nodes);
  params = omega (arith, s.params, t.params);
  kids = omega (arith, s.kids, t.kids);
  notes = omega (arith, s.notes, t.notes);
  told = omega (arith, s.told, t.told, f);
  wanted = omega (arith, s.wanted, t.wanted);
  had = omega (arith, s.had, f);
})
