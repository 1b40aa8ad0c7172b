-- What is counted for a parent without children is what the step for it takes.
use Rattle.std.proofs.Common.{◌≡◌, ◌+◌, ◌==◌, ℕ, zero, suc, true, List, [], ◌∷◌, Option, Some, None, map, length, refl, sym, ap, ◌∙◌, arith, sum_by}
use Rattle.std.specs.Prelude.{ℤ}
use Rattle.std.proofs.lemmas.List.Sums.{sum_by-cons}
use Rattle.lsys_syntax.specs.Commands.{Numbering}
use Rattle.lsys_syntax.specs.Strings as S
use Rattle.lsys_spec.specs.Levels as L
use Rattle.lsys_spec.specs.Cuts.{cut_on}
use Rattle.lsys_spec.specs.Numbers.{code_of, number_at}
use Rattle.lsys_spec.specs.Meaning.{numbered}
use Rattle.lsys_region.specs.Rooms.{list_room, room_of}
use Rattle.lsys_forest.specs.Nodes.{Nodes}
use Rattle.lsys_forest.specs.Rows.{kids_in}
use Rattle.lsys_children.specs.Matches.{node_numbered}
use Rattle.lsys_children.specs.Children.{births, notes_for}
use Rattle.lsys_match.specs.Kept.{Kept}
use Rattle.lsys_children.specs.Nexts.{wanted_count}
use Rattle.lsys_children.specs.declared.parent.Parent.{Parent}
use Rattle.lsys_children.specs.Parents.{wants}
use Rattle.lsys_children.specs.Needs.{number_told, room_told, wanted_symbols, staying_count, staying_room, count_anew, count_at_parent}

-- 1. as many stay as are wanted

count_from : (g : Numbering) (n : ℕ) (before : List ℕ) (o : Option ℕ) (zs : List (S.Symbol ℤ)) → length (cut_on o (numbered g n before [] zs)) ≡ staying_count o zs
count_from g n before None [] = refl
count_from g n before (Some b) [] = refl
count_from g n before None (S.Cut ∷ zs) = omega (arith, count_from g (n + 1) (37 ∷ before) (Some 0) zs)
count_from g n before (Some zero) (S.Cut ∷ zs) = omega (arith, count_from g (n + 1) (37 ∷ before) (Some zero) zs)
count_from g n before (Some (suc b)) (S.Cut ∷ zs) = omega (arith, count_from g (n + 1) (37 ∷ before) (Some (suc b)) zs)
count_from g n before None (S.Module v ps ∷ zs) = omega (arith, count_from g (n + 1) (code_of (S.Module v ps) ∷ before) None zs)
count_from g n before (Some zero) (S.Module v ps ∷ zs) = omega (arith, count_from g (n + 1) (code_of (S.Module v ps) ∷ before) (Some zero) zs)
count_from g n before (Some (suc b)) (S.Module v ps ∷ zs) = omega (arith, count_from g (n + 1) (code_of (S.Module v ps) ∷ before) (Some (suc b)) zs)
count_from g n before None (S.Push ∷ zs) = omega (arith, count_from g (n + 1) (91 ∷ before) None zs)
count_from g n before (Some zero) (S.Push ∷ zs) = omega (arith, count_from g (n + 1) (91 ∷ before) (Some 1) zs)
count_from g n before (Some (suc b)) (S.Push ∷ zs) = omega (arith, count_from g (n + 1) (91 ∷ before) (Some (suc (suc b))) zs)
count_from g n before None (S.Pop ∷ zs) = omega (arith, count_from g (n + 1) (93 ∷ before) None zs)
count_from g n before (Some zero) (S.Pop ∷ zs) = omega (arith, count_from g (n + 1) (93 ∷ before) None zs)
count_from g n before (Some (suc b)) (S.Pop ∷ zs) = omega (arith, count_from g (n + 1) (93 ∷ before) (Some b) zs)

no_room : list_room {T = ℤ} [] ≡ 0
unfolding room_of
no_room = refl

-- one more, whose parameters take this room
more : (s : L.LevelSymbol) (rest : List L.LevelSymbol) (r k : ℕ) → room_told s ≡ r → sum_by room_told rest ≡ k → sum_by room_told (s ∷ rest) ≡ r + k
more s rest r k e f = omega (arith, sum_by-cons room_told s rest, e, f)

room_from : (g : Numbering) (n : ℕ) (before : List ℕ) (o : Option ℕ) (zs : List (S.Symbol ℤ)) → sum_by room_told (cut_on o (numbered g n before [] zs)) ≡ staying_room o zs
room_from g n before None [] = refl
room_from g n before (Some b) [] = refl
room_from g n before None (S.Cut ∷ zs) = omega (arith, room_from g (n + 1) (37 ∷ before) (Some 0) zs)
room_from g n before (Some zero) (S.Cut ∷ zs) = omega (arith, room_from g (n + 1) (37 ∷ before) (Some zero) zs)
room_from g n before (Some (suc b)) (S.Cut ∷ zs) = omega (arith, room_from g (n + 1) (37 ∷ before) (Some (suc b)) zs)
room_from g n before None (S.Module v ps ∷ zs) =
    let c = code_of (S.Module v ps) in
    more (L.Module (number_at g n before c ∷ []) (record { name = v; params = ps })) (cut_on None (numbered g (n + 1) (c ∷ before) [] zs)) (list_room ps) (staying_room None zs) refl (room_from g (n + 1) (c ∷ before) None zs)
room_from g n before (Some zero) (S.Module v ps ∷ zs) = omega (arith, room_from g (n + 1) (code_of (S.Module v ps) ∷ before) (Some zero) zs)
room_from g n before (Some (suc b)) (S.Module v ps ∷ zs) = omega (arith, room_from g (n + 1) (code_of (S.Module v ps) ∷ before) (Some (suc b)) zs)
room_from g n before None (S.Push ∷ zs) = more (L.Push (number_at g n before 91 ∷ [])) (cut_on None (numbered g (n + 1) (91 ∷ before) [] zs)) 0 (staying_room None zs) no_room (room_from g (n + 1) (91 ∷ before) None zs)
room_from g n before (Some zero) (S.Push ∷ zs) = omega (arith, room_from g (n + 1) (91 ∷ before) (Some 1) zs)
room_from g n before (Some (suc b)) (S.Push ∷ zs) = omega (arith, room_from g (n + 1) (91 ∷ before) (Some (suc (suc b))) zs)
room_from g n before None (S.Pop ∷ zs) = more (L.Pop (number_at g n before 93 ∷ [])) (cut_on None (numbered g (n + 1) (93 ∷ before) [] zs)) 0 (staying_room None zs) no_room (room_from g (n + 1) (93 ∷ before) None zs)
room_from g n before (Some zero) (S.Pop ∷ zs) = more (L.Pop (number_at g n before 93 ∷ [])) (cut_on None (numbered g (n + 1) (93 ∷ before) [] zs)) 0 (staying_room None zs) no_room (room_from g (n + 1) (93 ∷ before) None zs)
room_from g n before (Some (suc b)) (S.Pop ∷ zs) = omega (arith, room_from g (n + 1) (93 ∷ before) (Some b) zs)

-- 2. all of them are new

module _ {A : Type 0} where
  all_born : (m : Nodes A) (xs : List L.LevelSymbol) → births (map (node_numbered m []) (map number_told xs)) ≡ length xs
  all_born m [] = refl
  all_born m (x ∷ xs) = omega (arith, all_born m xs)

  all_noted : (m : Nodes A) (xs : List L.LevelSymbol) → notes_for (map (node_numbered m []) (map number_told xs)) ≡ length xs
  all_noted m [] = refl
  all_noted m (x ∷ xs) = omega (arith, all_noted m xs)

pub none_counted : (ks : List ℕ) → (length ks == 0) ≡ true → ks ≡ []
none_counted [] h = refl
none_counted (k ∷ ks) h = absurd (grind (arith, h))

pub anew_counted : (g : Numbering) (m : Nodes Kept) (p : Parent) → kids_in (m p.node) ≡ [] → count_anew (wants m p) ≡ count_at_parent g m p
anew_counted g m p bare = λ i. record {
  need = record { nodes = nodes i; params = params i; kids = room_of (long i); notes = notes i + 1; told = told i };
  wanted = long i;
  had = had i;
}
  where
    zs : List (S.Symbol ℤ)
    zs = wants m p

    kids : List ℕ
    kids = kids_in (m p.node)

    long : staying_count None zs ≡ wanted_count g zs
    long = sym (count_from g 0 [] None zs)

    params : staying_room None zs ≡ sum_by room_told (wanted_symbols g zs)
    params = sym (room_from g 0 [] None zs)

    nodes : staying_count None zs ≡ births (map (node_numbered m kids) (map number_told (wanted_symbols g zs)))
    nodes = long ∙ sym (all_born m (wanted_symbols g zs)) ∙ ap (λ (ks : List ℕ). births (map (node_numbered m ks) (map number_told (wanted_symbols g zs)))) (sym bare)

    notes : staying_count None zs ≡ notes_for (map (node_numbered m kids) (map number_told (wanted_symbols g zs)))
    notes = long ∙ sym (all_noted m (wanted_symbols g zs)) ∙ ap (λ (ks : List ℕ). notes_for (map (node_numbered m ks) (map number_told (wanted_symbols g zs)))) (sym bare)

    had : 0 ≡ length kids
    had = ap length (sym bare)

    told : staying_count None zs + 1 ≡ wanted_count g zs + length kids + 1
    told = omega (arith, long, had)
