-- Sizes of levels.
use Rattle.std.proofs.Common.{◌≡◌, ◌+◌, ◌<◌, ◌≤◌, ◌-◌, ℕ, zero, suc, false, List, [], ◌∷◌, length, Option, None, refl, sym, ap, ◌∙◌, subst, inl, inr, arith}
use Rattle.std.proofs.lemmas.Bool.{cases_lt}
use Rattle.lsys_spec.specs.Rows.{In}
use Rattle.lsys_laws.specs.Children.{is_open}
use Rattle.lsys_level.specs.Spots.{Seen, Push, Pop, Module}
use Rattle.lsys_match.specs.Kept.{Kept}
use Rattle.lsys_forest.specs.Nodes.{Nodes}
use Rattle.lsys_forest.specs.Rows.{spot_in, level_nodes}
use Rattle.lsys_reads.specs.Levels.{answer_at}
use Rattle.lsys_children.specs.Nexts.{Successors, AreClosed}
use Rattle.lsys_children.specs.Answers.{kept_successor, kept_successors}
use Rattle.lsys_pass.specs.declared.sizes.Size.{Size}
use Rattle.lsys_pass.specs.Sizes.{symbols_at, opens_at, HaveSizes, HaveSizesTo}
use Rattle.lsys_pass.proofs.Before.{no_more}

-- no levels
pub none_sized : (m : Nodes Kept) (root : ℕ) → ((t : ℕ) → level_nodes m root t ≡ []) → HaveSizes m root []
none_sized m root none = record {
  symbols = λ t. sym (ap (length {A = ℕ}) (none t));
  closed = λ t e. subst (AreClosed (kept_successors m)) (sym (none t)) tt;
}

pub closed_same : (by by' : Successors) (ks : List ℕ) → ((k : ℕ) → In k ks → by' k ≡ by k) → AreClosed by ks → AreClosed by' ks
closed_same by by' [] e h = tt
closed_same by by' (k ∷ ks) e h = (ap is_open (e k (inl refl)) ∙ h.0, closed_same by by' ks (λ j i. e j (inr i)) h.1)

-- a node that stays has the successor that it had
successor_same : (m m' : Nodes Kept) (k : ℕ) → m' k ≡ m k → kept_successors m' k ≡ kept_successors m k
successor_same m m' k e = λ i. kept_successors (λ j. e i) k

module _ (m m' : Nodes Kept) (root : ℕ) (sizes : List Size) (nodes : (t : ℕ) → level_nodes m' root t ≡ level_nodes m root t) where
  closed_on : (t : ℕ) → ((k : ℕ) → In k (level_nodes m root t) → m' k ≡ m k) → AreClosed (kept_successors m) (level_nodes m root t) → AreClosed (kept_successors m') (level_nodes m' root t)
  closed_on t stay h =
      subst (AreClosed (kept_successors m')) (sym (nodes t))
      (closed_same (kept_successors m) (kept_successors m') (level_nodes m root t) (λ k i. successor_same m m' k (stay k i)) h)

  pub sized_stays : ((t k : ℕ) → In k (level_nodes m root t) → m' k ≡ m k) → HaveSizes m root sizes → HaveSizes m' root sizes
  sized_stays stay h = record {
    symbols = λ t. h.symbols t ∙ ap (length {A = ℕ}) (sym (nodes t));
    closed = λ t e. closed_on t (stay t) (h.closed t e);
  }

pub made_stays : (m m' : Nodes Kept) (root : ℕ) (sizes : List Size) (t : ℕ) → ((u : ℕ) → level_nodes m' root u ≡ level_nodes m root u)
    → ((u k : ℕ) → u < t → In k (level_nodes m root u) → m' k ≡ m k) → HaveSizesTo m root sizes t → HaveSizesTo m' root sizes t
made_stays m m' root sizes t nodes stay h = record {
  count = h.count;
  symbols = λ u l. h.symbols u l ∙ ap (length {A = ℕ}) (sym (nodes u));
  closed = λ u l e. closed_on m m' root sizes nodes u (λ k i. stay u k l i) (h.closed u l e);
}

past_symbols : (xs : List Size) (t : ℕ) → length xs ≤ t → symbols_at xs t ≡ 0
past_symbols [] t h = refl
past_symbols (x ∷ xs) zero h = absurd (omega (arith, h))
past_symbols (x ∷ xs) (suc t) h = past_symbols xs t (omega (arith, h))

-- what has no answer stays itself, which is no cut
pub itself_closed : (x : Seen) → is_open (kept_successor x None) ≡ false
itself_closed Push = refl
itself_closed Pop = refl
itself_closed (Module v) = refl

unanswered_closed : (m : Nodes Kept) (ks : List ℕ) → ((k : ℕ) → In k ks → answer_at m k ≡ None) → AreClosed (kept_successors m) ks
unanswered_closed m [] h = tt
unanswered_closed m (k ∷ ks) h =
    (ap (λ (o : Option Kept). is_open (kept_successor (spot_in k (m k)).seen o)) (h k (inl refl)) ∙ itself_closed (spot_in k (m k)).seen, unanswered_closed m ks (λ j i. h j (inr i)))

-- all levels, where after level t there is none and its nodes have no answers
pub all_sized : (m : Nodes Kept) (root : ℕ) (sizes : List Size) (t : ℕ) → HaveSizesTo m root sizes t → level_nodes m root (t + 1) ≡ [] → ((k : ℕ) → In k (level_nodes m root t) → answer_at m k ≡ None)
    → HaveSizes m root sizes
all_sized m root sizes t h ends last = record { symbols = symbols; closed = closed }
  where
    past : (u : ℕ) → t < u → level_nodes m root u ≡ []
    past u l = let e : t + 1 + (u - (t + 1)) ≡ u = omega (arith, l) in ap (level_nodes m root) (sym e) ∙ no_more m root (t + 1) (u - (t + 1)) ends

    symbols : (u : ℕ) → symbols_at sizes u ≡ length (level_nodes m root u)
    symbols u = elim (cases_lt t u) [
      | inl l ↦ past_symbols sizes u (let c = h.count in omega (arith, c, l)) ∙ sym (ap (length {A = ℕ}) (past u l))
      | inr l ↦ h.symbols u l
    ]

    closed : (u : ℕ) → opens_at sizes u ≡ false → AreClosed (kept_successors m) (level_nodes m root u)
    closed u e = elim (cases_lt u t) [
      | inl l ↦ h.closed u l e
      | inr ge ↦ unanswered_closed m (level_nodes m root u) (λ k i. (elim (cases_lt t u) [
        | inl l ↦ absurd (subst (In k) (past u l) i)
        | inr le ↦ let same : u ≡ t = omega (arith, ge, le) in last k (subst (λ w. In k (level_nodes m root w)) same i)
      ]))
    ]
