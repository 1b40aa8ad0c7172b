-- A level that is walked from the left.
use Rattle.std.proofs.Common.{◌≡◌, ◌≤◌, ℕ, ◌+◌, Bool, true, false, List, [], ◌∷◌, ◌++◌, length, Option, Some, None, take, slice_get, refl, ap, sym, ◌∙◌, subst, arith, append_assoc, append-nil, if◌then◌else◌}
use Rattle.std.proofs.lemmas.Option.{slice_get_within, get_or_from_slice_get}
use Rattle.std.proofs.lemmas.List.{take_more, take_all}
use Rattle.std.specs.Prelude.{not, IfSome}
use Rattle.lsys_laws.specs.Kinds.{stays, reached}
use Rattle.lsys_laws.specs.Children.{is_open}
use Rattle.lsys_level.specs.Spots.{Seen}
use Rattle.lsys_forest.specs.Nodes.{Node, Nodes}
use Rattle.lsys_forest.specs.Rows.{spot_in}
use Rattle.lsys_children.specs.Children.{bracket_kind}
use Rattle.lsys_match.specs.Kept.{Kept}
use Rattle.lsys_children.specs.Nexts.{AreClosed, node_kind}
use Rattle.lsys_children.specs.Answers.{kept_successors}
use Rattle.lsys_children.specs.declared.parent.Parent.{Parent}
use Rattle.lsys_children.specs.Parents.{cut_parents}

-- what is being cut off after these nodes
abbrev pub cut_after : Nodes Kept → Option ℕ → List ℕ → Option ℕ
cut_after m o [] = o
cut_after m o (k ∷ ks) = cut_after m (reached o (node_kind m k) (is_open (kept_successors m k))) ks

after_push : (m : Nodes Kept) (o : Option ℕ) (ks : List ℕ) (k : ℕ)
    → cut_after m o (ks ++ k ∷ []) ≡ reached (cut_after m o ks) (node_kind m k) (is_open (kept_successors m k))
after_push m o [] k = refl
after_push m o (j ∷ ks) k = after_push m (reached o (node_kind m j) (is_open (kept_successors m j))) ks k

walked_push : (m : Nodes Kept) (o : Option ℕ) (ks : List ℕ) (k : ℕ)
    → cut_parents m o (ks ++ k ∷ []) ≡ cut_parents m o ks ++ record { node = k; is_cut = not (stays (cut_after m o ks) (node_kind m k)) } ∷ []
walked_push m o [] k = refl
walked_push m o (j ∷ ks) k = ap (λ (l : List Parent). record { node = j; is_cut = not (stays o (node_kind m j)) } ∷ l) (walked_push m (reached o (node_kind m j) (is_open (kept_successors m j))) ks k)

closed_push : (m : Nodes Kept) (ks : List ℕ) (k : ℕ) → AreClosed (kept_successors m) ks → is_open (kept_successors m k) ≡ false
    → AreClosed (kept_successors m) (ks ++ k ∷ [])
closed_push m [] k a h = (h, tt)
closed_push m (j ∷ ks) k a h = (a.0, closed_push m ks k a.1 h)

-- So many nodes of a level were walked.
pub record IsWalked (m : Nodes Kept) (ks : List ℕ) (i : ℕ) (before after : List Parent) (cutting : Option ℕ) (opens : Bool) : Type 0 where
  pub parents : after ≡ before ++ cut_parents m None (take i ks)
  pub cut : cutting ≡ cut_after m None (take i ks)
  pub few : IfSome cutting (λ branches. branches ≤ i)
  pub closed : opens ≡ false → AreClosed (kept_successors m) (take i ks)

pub walk_begins : (m : Nodes Kept) (ks : List ℕ) (before : List Parent) → IsWalked m ks 0 before before None false
walk_begins m ks before = record {
  parents = sym (append-nil before) ∙ ap (λ (xs : List ℕ). before ++ cut_parents m None xs) (sym (take_none ks));
  cut = ap (cut_after m None) (sym (take_none ks));
  few = tt;
  closed = λ e. subst (AreClosed (kept_successors m)) (sym (take_none ks)) tt;
}
  where
    take_none : (ks : List ℕ) → take 0 ks ≡ []
    take_none [] = refl
    take_none (k ∷ ks) = refl

neither : (a b : Bool) → (if a then true else b) ≡ false → (a ≡ false) × (b ≡ false)
neither false false h = (refl, refl)
neither false true h = cc
neither true b h = cc

-- so many branches more may be open after one node more
pub few_more : (i : ℕ) (cutting next : Option ℕ) → IfSome cutting (λ branches. branches ≤ i)
    → IfSome next (λ branches. IfSome cutting (λ before. branches ≤ before + 1)) → (cutting ≡ None → IfSome next (λ branches. branches ≡ 0))
    → IfSome next (λ branches. branches ≤ i + 1)
few_more i None None w f g = tt
few_more i (Some n) None w f g = tt
few_more i (Some n) (Some b) w f g = omega (arith, w, f)
few_more i None (Some b) w f g = let z = g refl in omega (arith, z)

-- what is seen of a node tells its kind
pub kind_seen : (m : Nodes Kept) (k : ℕ) (n : Node Kept) (x : Seen) → m k ≡ Some n → x ≡ n.seen → bracket_kind x ≡ node_kind m k
kind_seen m k n x h e = ap bracket_kind e ∙ ap (λ o. bracket_kind (spot_in k o).seen) (sym h)

-- one node more
pub walk_goes_on : (m : Nodes Kept) (ks : List ℕ) (i k : ℕ) (before after : List Parent) (cutting next : Option ℕ) (opens one both : Bool) (p : Parent)
    → IsWalked m ks i before after cutting opens → slice_get ks i ≡ Some k
    → one ≡ is_open (kept_successors m k)
    → p ≡ record { node = k; is_cut = not (stays cutting (node_kind m k)) }
    → next ≡ reached cutting (node_kind m k) one → IfSome next (λ branches. branches ≤ i + 1)
    → both ≡ (if opens then true else one)
    → IsWalked m ks (i + 1) before (after ++ p ∷ []) next both
walk_goes_on m ks i k before after cutting next opens one both p w here e f g few h = record {
  parents =
      ap (λ (l : List Parent). l ++ p ∷ []) w.parents
      ∙ append_assoc before (cut_parents m None (take i ks)) (p ∷ [])
      ∙ ap (λ (q : Parent). before ++ (cut_parents m None (take i ks) ++ q ∷ [])) (f ∙ ap (λ o. record { node = k; is_cut = not (stays o (node_kind m k)) }) w.cut)
      ∙ ap (λ (l : List Parent). before ++ l) (sym (walked_push m None (take i ks) k))
      ∙ ap (λ (xs : List ℕ). before ++ cut_parents m None xs) (sym more);
  cut = g ∙ ap (λ o. reached o (node_kind m k) one) w.cut ∙ ap (reached (cut_after m None (take i ks)) (node_kind m k)) e ∙ sym (after_push m None (take i ks) k) ∙ ap (cut_after m None) (sym more);
  few = few;
  closed = λ none.
      let n = neither opens one (sym h ∙ none) in
      subst (AreClosed (kept_successors m)) (sym more) (closed_push m (take i ks) k (w.closed n.0) (sym e ∙ n.1));
}
  where
    more : take (i + 1) ks ≡ take i ks ++ k ∷ []
    more = take_more ks i k (slice_get_within ks i k here) ∙ ap (λ (x : ℕ). take i ks ++ x ∷ []) (get_or_from_slice_get ks i k k here)

pub walk_ends : (m : Nodes Kept) (ks : List ℕ) (i : ℕ) (before after : List Parent) (cutting : Option ℕ) (opens : Bool)
    → length ks ≤ i → IsWalked m ks i before after cutting opens
    → (after ≡ before ++ cut_parents m None ks) × (opens ≡ false → AreClosed (kept_successors m) ks)
walk_ends m ks i before after cutting opens h w =
    let all : take i ks ≡ ks = take_all i ks h in
    (w.parents ∙ ap (λ (xs : List ℕ). before ++ cut_parents m None xs) all, λ e. subst (AreClosed (kept_successors m)) all (w.closed e))
