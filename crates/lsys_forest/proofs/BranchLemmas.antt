-- How many branches are open along a row, and where the one that is walked along ends.
use Rattle.lsys_forest.specs.declared.node.NodeKind.{NodeKind}
use Rattle.lsys_forest.specs.declared.node.NodeKind.TheVariants as kind
use Rattle.lsys_forest.specs.Nodes.{seen_as}
use Rattle.std.proofs.Common.{◌≡◌, ℕ, zero, suc, List, [], ◌∷◌, ◌++◌, Option, Some, None, refl, sym, ap, ◌∙◌, arith, inl, inr, subst, ℤ}
use Rattle.std.proofs.lemmas.List.{append-nil}
use Rattle.std.proofs.lemmas.Option.{none-some, same_Some}
use Rattle.lsys_spec.specs.Rows.{In, AreApart, mirrored}
use Rattle.lsys_level.specs.Spots.{Seen, Push, Pop, Module}
use Rattle.lsys_forest.specs.declared.walk.Way.{Way}
use Rattle.lsys_forest.specs.declared.walk.Way.TheVariants.{Left, Right}
use Rattle.lsys_forest.specs.Mates.{one_less}
use Rattle.lsys_forest.specs.Pairs.{open_after, branch_opening, ends_or, branch_end, AreSameSort}
use Rattle.lsys_forest.proofs.RowLemmas.{same_sides, oriented_apart}
use Rattle.lsys_forest.proofs.WalkLemmas.{mirrored_around}

-- 1. how many branches are open after a row

abbrev goes_on : Option ℕ → (ℕ → Option ℕ) → Option ℕ
goes_on None f = None
goes_on (Some n) f = f n

-- none where the row ends the branch that is walked along
abbrev pub run_of : Way → (ℕ → Seen) → ℕ → List ℕ → Option ℕ
run_of way seen n [] = Some n
run_of way seen n (q ∷ qs) = goes_on (open_after way (seen q) n) (λ k. run_of way seen k qs)

run_append : (way : Way) (seen : ℕ → Seen) (n : ℕ) (xs ys : List ℕ) → run_of way seen n (xs ++ ys) ≡ goes_on (run_of way seen n xs) (λ k. run_of way seen k ys)
run_append way seen n [] ys = refl
run_append way seen n (q ∷ xs) ys = go (open_after way (seen q) n) (λ k. run_append way seen k xs ys)
  where
    go : (o : Option ℕ) → ((k : ℕ) → run_of way seen k (xs ++ ys) ≡ goes_on (run_of way seen k xs) (λ i. run_of way seen i ys)) → goes_on o (λ k. run_of way seen k (xs ++ ys)) ≡ goes_on (goes_on o (λ k. run_of way seen k xs)) (λ k. run_of way seen k ys)
    go None on = refl
    go (Some k) on = on k

-- where it goes on, the end comes after it
pub end_on : (way : Way) (seen : ℕ → Seen) (n : ℕ) (xs ys : List ℕ) (k : ℕ) → run_of way seen n xs ≡ Some k → branch_end way seen n (xs ++ ys) ≡ branch_end way seen k ys
end_on way seen n [] ys k e = ap (λ i. branch_end way seen i ys) (same_Some n k e)
end_on way seen n (q ∷ xs) ys k e = go (open_after way (seen q) n) e (λ i f. end_on way seen i xs ys k f)
  where
    go : (o : Option ℕ) → goes_on o (λ i. run_of way seen i xs) ≡ Some k → ((i : ℕ) → run_of way seen i xs ≡ Some k → branch_end way seen i (xs ++ ys) ≡ branch_end way seen k ys) → ends_or o q (λ i. branch_end way seen i (xs ++ ys)) ≡ branch_end way seen k ys
    go None f on = absurd (none-some k f)
    go (Some i) f on = on i f

pub end_none : (way : Way) (seen : ℕ → Seen) (n : ℕ) (xs : List ℕ) (k : ℕ) → run_of way seen n xs ≡ Some k → branch_end way seen n xs ≡ None
end_none way seen n xs k e = ap (branch_end way seen n) (sym (append-nil xs)) ∙ end_on way seen n xs [] k e

-- where it ends, the end stays
pub end_in : (way : Way) (seen : ℕ → Seen) (n : ℕ) (xs : List ℕ) → run_of way seen n xs ≡ None → (q : ℕ) × ((ys : List ℕ) → branch_end way seen n (xs ++ ys) ≡ Some q)
end_in way seen n [] e = absurd (none-some n (sym e))
end_in way seen n (x ∷ xs) e = go (open_after way (seen x) n) e (λ i f. end_in way seen i xs f)
  where
    go : (o : Option ℕ) → goes_on o (λ i. run_of way seen i xs) ≡ None → ((i : ℕ) → run_of way seen i xs ≡ None → (q : ℕ) × ((ys : List ℕ) → branch_end way seen i (xs ++ ys) ≡ Some q)) → (q : ℕ) × ((ys : List ℕ) → ends_or o x (λ i. branch_end way seen i (xs ++ ys)) ≡ Some q)
    go None f on = (x, λ ys. refl)
    go (Some i) f on = on i f

-- a step back
back_step : (s : Seen) (n k : ℕ) → open_after Left s n ≡ Some k → open_after Right s k ≡ Some n
back_step Push zero k e = absurd (none-some k e)
back_step Push (suc n) k e = ap (λ i. Some (suc i)) (sym (same_Some n k e))
back_step Pop n k e = ap one_less (sym (same_Some (suc n) k e))
back_step (Module v) n k e = sym e

fore_step : (s : Seen) (n k : ℕ) → open_after Right s n ≡ Some k → open_after Left s k ≡ Some n
fore_step Push n k e = ap one_less (sym (same_Some (suc n) k e))
fore_step Pop zero k e = absurd (none-some k e)
fore_step Pop (suc n) k e = ap (λ i. Some (suc i)) (sym (same_Some n k e))
fore_step (Module v) n k e = sym e

-- the same row from its other end
pub run_back : (seen : ℕ → Seen) (n k : ℕ) (xs : List ℕ) → run_of Left seen n (mirrored xs) ≡ Some k → run_of Right seen k xs ≡ Some n
run_back seen n k [] e = sym e
run_back seen n k (x ∷ xs) e = go (run_of Left seen n (mirrored xs)) refl (sym (run_append Left seen n (mirrored xs) (x ∷ [])) ∙ e) (λ i was. run_back seen n i xs was)
  where
    last : (i : ℕ) (o : Option ℕ) → open_after Left (seen x) i ≡ o → run_of Right seen i xs ≡ Some n → goes_on o (λ j. Some j) ≡ Some k → run_of Right seen k (x ∷ xs) ≡ Some n
    last i None is was f = absurd (none-some k f)
    last i (Some j) is was f = ap (λ o. goes_on o (λ h. run_of Right seen h xs)) (back_step (seen x) i k (is ∙ f)) ∙ was

    go : (o : Option ℕ) → run_of Left seen n (mirrored xs) ≡ o → goes_on o (λ i. run_of Left seen i (x ∷ [])) ≡ Some k → ((i : ℕ) → run_of Left seen n (mirrored xs) ≡ Some i → run_of Right seen i xs ≡ Some n) → run_of Right seen k (x ∷ xs) ≡ Some n
    go None is f on = absurd (none-some k f)
    go (Some i) is f on = last i (open_after Left (seen x) i) refl (on i is) f

run_fore : (seen : ℕ → Seen) (n k : ℕ) (xs : List ℕ) → run_of Right seen k xs ≡ Some n → run_of Left seen n (mirrored xs) ≡ Some k
run_fore seen n k [] e = sym e
run_fore seen n k (x ∷ xs) e = go (open_after Right (seen x) k) refl e (λ i f. run_fore seen n i xs f)
  where
    go : (o : Option ℕ) → open_after Right (seen x) k ≡ o → goes_on o (λ i. run_of Right seen i xs) ≡ Some n → ((i : ℕ) → run_of Right seen i xs ≡ Some n → run_of Left seen n (mirrored xs) ≡ Some i) → run_of Left seen n (mirrored xs ++ x ∷ []) ≡ Some k
    go None is f on = absurd (none-some n f)
    go (Some i) is f on =
        run_append Left seen n (mirrored xs) (x ∷ [])
        ∙ ap (λ o. goes_on o (λ h. run_of Left seen h (x ∷ []))) (on i f)
        ∙ ap (λ o. goes_on o (λ h. Some h)) (fore_step (seen x) k i is)

-- 2. the open bracket

left_ends : (s : Seen) (n : ℕ) → open_after Left s n ≡ None → (s ≡ Push) × (n ≡ 0)
left_ends Push zero e = (refl, refl)
left_ends Push (suc n) e = absurd (none-some n (sym e))
left_ends Pop n e = absurd (none-some (suc n) (sym e))
left_ends (Module v) n e = absurd (none-some n (sym e))

-- the bracket that ends a walk to the left, and what lies on both sides of it
pub record IsBegun (seen : ℕ → Seen) (n : ℕ) (row : List ℕ) (p : ℕ) : Type 0 where
  pub inner : List ℕ
  pub rest : List ℕ
  pub whole : row ≡ inner ++ p ∷ rest
  pub run : run_of Left seen n inner ≡ Some 0
  pub push : seen p ≡ Push

pub begun_at : (seen : ℕ → Seen) (n : ℕ) (row : List ℕ) (p : ℕ) → branch_end Left seen n row ≡ Some p → IsBegun seen n row p
begun_at seen n [] p e = absurd (none-some p e)
begun_at seen n (q ∷ row) p e = go (open_after Left (seen q) n) refl e (λ i f. begun_at seen i row p f)
  where
    go : (o : Option ℕ) → open_after Left (seen q) n ≡ o → ends_or o q (λ i. branch_end Left seen i row) ≡ Some p → ((i : ℕ) → branch_end Left seen i row ≡ Some p → IsBegun seen i row p) → IsBegun seen n (q ∷ row) p
    go None is f on =
        let end = left_ends (seen q) n is in
        let same : q ≡ p = same_Some q p f in
        record {
          inner = [];
          rest = row;
          whole = ap (λ i. i ∷ row) same;
          run = ap Some end.1;
          push = ap seen (sym same) ∙ end.0;
        }
    go (Some i) is f on =
        let r = on i f in
        record {
          inner = q ∷ r.inner;
          rest = r.rest;
          whole = ap (λ (l : List ℕ). q ∷ l) r.whole;
          run = ap (λ o. goes_on o (λ h. run_of Left seen h r.inner)) is ∙ r.run;
          push = r.push;
        }

left_more : (s : Seen) (n k : ℕ) → open_after Left s n ≡ Some k → open_after Left s (suc n) ≡ Some (suc k)
left_more Push zero k e = absurd (none-some k e)
left_more Push (suc n) k e = ap (λ i. Some (suc i)) (same_Some n k e)
left_more Pop n k e = ap (λ i. Some (suc i)) (same_Some (suc n) k e)
left_more (Module v) n k e = ap (λ i. Some (suc i)) (same_Some n k e)

pub run_more : (seen : ℕ → Seen) (n k : ℕ) (xs : List ℕ) → run_of Left seen n xs ≡ Some k → run_of Left seen (suc n) xs ≡ Some (suc k)
run_more seen n k [] e = ap (λ i. Some (suc i)) (same_Some n k e)
run_more seen n k (x ∷ xs) e = go (open_after Left (seen x) n) refl e (λ i f. run_more seen i k xs f)
  where
    go : (o : Option ℕ) → open_after Left (seen x) n ≡ o → goes_on o (λ i. run_of Left seen i xs) ≡ Some k → ((i : ℕ) → run_of Left seen i xs ≡ Some k → run_of Left seen (suc i) xs ≡ Some (suc k)) → run_of Left seen (suc n) (x ∷ xs) ≡ Some (suc k)
    go None is f on = absurd (none-some k f)
    go (Some i) is f on = ap (λ o. goes_on o (λ h. run_of Left seen h xs)) (left_more (seen x) n i is) ∙ on i f

pub none_more : (seen : ℕ → Seen) (n : ℕ) (row : List ℕ) → branch_end Left seen n row ≡ None → branch_end Left seen (suc n) row ≡ None
none_more seen n [] e = refl
none_more seen n (x ∷ row) e = go (open_after Left (seen x) n) refl e (λ i f. none_more seen i row f)
  where
    go : (o : Option ℕ) → open_after Left (seen x) n ≡ o → ends_or o x (λ i. branch_end Left seen i row) ≡ None → ((i : ℕ) → branch_end Left seen i row ≡ None → branch_end Left seen (suc i) row ≡ None) → branch_end Left seen (suc n) (x ∷ row) ≡ None
    go None is f on = absurd (none-some x (sym f))
    go (Some i) is f on = ap (λ o. ends_or o x (λ h. branch_end Left seen h row)) (left_more (seen x) n i is) ∙ on i f

-- a bracket of a row is the open one if no branch is open inside it
pub open_inside : (seen : ℕ → Seen) (passed before after : List ℕ) (k : ℕ) → AreApart passed → passed ≡ before ++ k ∷ after → branch_end Left seen 0 (mirrored passed) ≡ Some k → run_of Right seen 0 after ≡ Some 0
open_inside seen passed before after k apart whole e =
    let b = begun_at seen 0 (mirrored passed) k e in
    let open_after : mirrored passed ≡ mirrored after ++ k ∷ mirrored before = ap mirrored whole ∙ mirrored_around before k after in
    let same = same_sides k b.inner b.rest (mirrored after) (mirrored before) (subst AreApart b.whole (oriented_apart Left passed apart)) (sym b.whole ∙ open_after) in
    run_back seen 0 0 after (ap (run_of Left seen 0) (sym same.0) ∙ b.run)

pub inside_open : (seen : ℕ → Seen) (passed before after : List ℕ) (k : ℕ) → passed ≡ before ++ k ∷ after → seen k ≡ Push → run_of Right seen 0 after ≡ Some 0 → branch_end Left seen 0 (mirrored passed) ≡ Some k
inside_open seen passed before after k whole push e =
    ap (branch_end Left seen 0) (ap mirrored whole ∙ mirrored_around before k after)
    ∙ end_on Left seen 0 (mirrored after) (k ∷ mirrored before) 0 (run_fore seen 0 0 after e)
    ∙ ap (λ s. ends_or (open_after Left s 0) k (λ i. branch_end Left seen i (mirrored before))) push

-- 3. symbols of the same sort

-- the end of a branch stays where the symbols of a row keep their sorts
turned_same : (way : Way) (s t : Seen) (n : ℕ) → AreSameSort s t → open_after way s n ≡ open_after way t n
turned_same way Push Push n same = refl
turned_same way Push Pop n same = absurd same
turned_same way Push (Module w) n same = absurd same
turned_same way Pop Push n same = absurd same
turned_same way Pop Pop n same = refl
turned_same way Pop (Module w) n same = absurd same
turned_same way (Module v) Push n same = absurd same
turned_same way (Module v) Pop n same = absurd same
turned_same Right (Module v) (Module w) n same = refl
turned_same Left (Module v) (Module w) n same = refl

pub opens_same : (way : Way) (s t : Seen) → AreSameSort s t → t ≡ branch_opening way → s ≡ branch_opening way
opens_same way Push Push same e = e
opens_same way Push Pop same e = absurd same
opens_same way Push (Module w) same e = absurd same
opens_same way Pop Push same e = absurd same
opens_same way Pop Pop same e = e
opens_same way Pop (Module w) same e = absurd same
opens_same way (Module v) Push same e = absurd same
opens_same way (Module v) Pop same e = absurd same
opens_same Right (Module v) (Module w) same e = absurd (let no : Module w ≡ Push = e in grind (arith, no))
opens_same Left (Module v) (Module w) same e = absurd (let no : Module w ≡ Pop = e in grind (arith, no))

pub end_same : (way : Way) (seen seen' : ℕ → Seen) (n : ℕ) (row : List ℕ) → ((k : ℕ) → In k row → AreSameSort (seen k) (seen' k)) → branch_end way seen n row ≡ branch_end way seen' n row
end_same way seen seen' n [] same = refl
end_same way seen seen' n (q ∷ row) same = ap (λ o. ends_or o q (λ i. branch_end way seen i row)) (turned_same way (seen q) (seen' q) n (same q (inl refl))) ∙ go (open_after way (seen' q) n) (λ i. end_same way seen seen' i row (λ k h. same k (inr h)))
  where
    go : (o : Option ℕ) → ((i : ℕ) → branch_end way seen i row ≡ branch_end way seen' i row) → ends_or o q (λ i. branch_end way seen i row) ≡ ends_or o q (λ i. branch_end way seen' i row)
    go None on = refl
    go (Some i) on = on i

-- the sort of a symbol is that of its kind, whatever its parameters
pub sort_of : (k : NodeKind) (params params' : List ℤ) (s : Seen) → AreSameSort (seen_as k params) s → AreSameSort (seen_as k params') s
sort_of kind.Push params params' s same = same
sort_of kind.Pop params params' s same = same
sort_of (kind.Module name) params params' Push same = same
sort_of (kind.Module name) params params' Pop same = same
sort_of (kind.Module name) params params' (Module v) same = tt

pub same_sort : (s t : Seen) → s ≡ t → AreSameSort s t
same_sort s t e = subst (AreSameSort s) e (go s)
  where
    go : (s : Seen) → AreSameSort s s
    go Push = tt
    go Pop = tt
    go (Module v) = tt
