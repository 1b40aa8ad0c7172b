-- The last change: what its note tells of it, and what taking it up does to the other changes.
use Rattle.std.proofs.Common.{◌≡◌, ◌≤◌, ◌+◌, ◌-◌, ℕ, ℤ, zero, suc, List, [], ◌∷◌, ◌++◌, length, Option, Some, None, refl, sym, ap, ◌∙◌, arith, subst}
use Rattle.std.specs.Prelude.{IfSome, IfNone, option_map, slice_get}
use Rattle.std.specs.Option.{option_and_then}
use Rattle.lsys_forest.specs.declared.node.Stored.{Stored}
use Rattle.lsys_forest.specs.declared.note.Note.{Note}
use Rattle.lsys_forest.specs.declared.note.Was.{Was}
use Rattle.lsys_forest.specs.declared.note.Was.TheVariants as was
use Rattle.lsys_forest.specs.Shelves.{Shelf, past_room}
use Rattle.lsys_forest.specs.Slots.{slot_at, answer_before}
use Rattle.lsys_forest.specs.Nodes.{Nodes, seen_as}
use Rattle.lsys_forest.specs.Changes.{KeepsKids, Previous, Missing, OldSeen, OldKey, OldKids, OldAnswer, Change}
use Rattle.lsys_forest.specs.Answers.{answer_of, old_answer}
use Rattle.lsys_forest.specs.Stocks.{row_at, first_of, before_of, params_left, kids_left, node_of, changes_told, param_lists, kid_lists, param_count, kid_count, IsStock, slot_answer, dropped_slot, dropped, looked, DropsParams, TakesKids, DropsLeft, TakesLeft, nodes_left, noted_answer, nodes_named}
use Rattle.lsys_forest.specs.declared.note.Remnant.{Remnant}
use Rattle.lsys_forest.specs.Notes.{ForLastNote, remnant_of}
use Rattle.lsys_forest.proofs.StockLemmas.{shown_nodes, told_plain, told_param, told_kid, param_count_push, kid_count_push}

-- a list that is not empty ends with something
pub last_of : {X : Type 0} (xs : List X) (n : ℕ) → length xs ≡ n + 1 → (ys : List X) × (y : X) × (xs ≡ ys ++ y ∷ []) × (length ys ≡ n)
last_of [] n e = absurd (omega (arith, e))
last_of (x ∷ []) n e = ([], x, refl, omega (arith, e))
last_of {X} (x ∷ y ∷ xs) n e =
    let rest = last_of (y ∷ xs) (length xs) (omega arith) in
    (x ∷ rest.0, rest.1, ap (λ (l : List X). x ∷ l) rest.2, omega (arith, e, rest.3))

module _ {A : Type 0} where
  no_last : (earlier : List (Change A)) (c : Change A) → [] ≡ earlier ++ c ∷ [] → ⊥
  no_last [] c e = cc
  no_last (x ∷ earlier) c e = cc

  -- a change as a note tells it
  record IsToldBy (n : Note A) (c : Change A) : Type 0 where
    pub node : c.node ≡ n.node
    pub params : List ℤ
    pub kids : List ℕ
    pub before : c.before ≡ before_of n.was params kids

  -- the last change is told by the last note
  told_last : (notes : List (Note A)) (ps : List (List ℤ)) (ks : List (List ℕ)) (i : ℕ) (n : Note A) (earlier : List (Change A)) (c : Change A) → i + 1 ≡ length notes → slice_get notes i ≡ Some n → changes_told notes ps ks ≡ earlier ++ c ∷ [] → IsToldBy n c
  told_last [] ps ks i n earlier c long here e = absurd (omega (arith, long))
  told_last (m ∷ []) ps ks zero n [] c long here e =
      let change : Change A = record { node = m.node; before = before_of m.was (first_of ps) (first_of ks) } in
      let f : change ≡ c = cc in
      let g : m ≡ n = cc in
      record {
        node = ap (λ (x : Change A). x.node) (sym f) ∙ ap (λ (x : Note A). x.node) g;
        params = first_of ps;
        kids = first_of ks;
        before = ap (λ (x : Change A). x.before) (sym f) ∙ ap (λ (x : Note A). before_of x.was (first_of ps) (first_of ks)) g;
      }
  told_last (m ∷ []) ps ks zero n (d ∷ earlier) c long here e = absurd (no_last earlier c cc)
  told_last (m ∷ []) ps ks (suc i) n earlier c long here e = absurd (omega (arith, long))
  told_last (m ∷ o ∷ notes) ps ks zero n earlier c long here e = absurd (omega (arith, long))
  told_last (m ∷ o ∷ notes) ps ks (suc i) n [] c long here e = let none : ⊥ = cc in absurd none
  told_last (m ∷ o ∷ notes) ps ks (suc i) n (d ∷ earlier) c long here e =
      let f : changes_told (o ∷ notes) (params_left m.was ps) (kids_left m.was ks) ≡ earlier ++ c ∷ [] = cc in
      told_last (o ∷ notes) (params_left m.was ps) (kids_left m.was ks) i n earlier c (omega (arith, long)) here f

  keeps_kids : (w : Was A) (params : List ℤ) (kids : List ℕ) → kid_lists w ≡ 0 → KeepsKids (before_of w params kids)
  keeps_kids was.Missing params kids e = tt
  keeps_kids (was.Kind x) params kids e = tt
  keeps_kids (was.Key x) params kids e = tt
  keeps_kids was.Kids params kids e = absurd (omega (arith, e))
  keeps_kids (was.Answer x) params kids e = tt

  last_note : (notes : List (Note A)) (i : ℕ) → i + 1 ≡ length notes → (n : Note A) × (slice_get notes i ≡ Some n)
  last_note [] i long = absurd (omega (arith, long))
  last_note (n ∷ []) zero long = (n, refl)
  last_note (n ∷ []) (suc i) long = absurd (omega (arith, long))
  last_note (n ∷ m ∷ notes) zero long = absurd (omega (arith, long))
  last_note (n ∷ m ∷ notes) (suc i) long = last_note (m ∷ notes) i (omega (arith, long))

  last_told : (notes : List (Note A)) (ps : List (List ℤ)) (ks : List (List ℕ)) (c : Change A) (earlier : List (Change A)) → changes_told notes ps ks ≡ earlier ++ c ∷ [] → (n : Note A) × (slice_get notes (length notes - 1) ≡ Some n) × IsToldBy n c
  last_told [] ps ks c earlier were = absurd (no_last earlier c were)
  last_told (m ∷ notes) ps ks c earlier were =
      let long : length (m ∷ notes) - 1 + 1 ≡ length (m ∷ notes) = omega arith in
      let last = last_note (m ∷ notes) (length (m ∷ notes) - 1) long in
      (last.0, last.1, told_last (m ∷ notes) ps ks (length (m ∷ notes) - 1) last.0 earlier c long last.1 were)

  -- the node whose children the last change set
  pub family_is : (node : Option ℕ) (notes : List (Note A)) (ps : List (List ℤ)) (ks : List (List ℕ)) → IfSome node (λ k. ForLastNote notes (λ n. n.node ≡ k)) → IfSome node (λ k. (c : Change A) (earlier : List (Change A)) → changes_told notes ps ks ≡ earlier ++ c ∷ [] → c.node ≡ k)
  family_is None notes ps ks is = tt
  family_is (Some k) notes ps ks is = λ c earlier were. (let last = last_told notes ps ks c earlier were in last.2.node ∙ is last.0 last.1)

  pub family_none : (node : Option ℕ) (notes : List (Note A)) (ps : List (List ℤ)) (ks : List (List ℕ)) → IfNone node (ForLastNote notes (λ n. kid_lists n.was ≡ 0)) → IfNone node ((c : Change A) (earlier : List (Change A)) → changes_told notes ps ks ≡ earlier ++ c ∷ [] → KeepsKids c.before)
  family_none None notes ps ks is = λ c earlier were. (
      let last = last_told notes ps ks c earlier were in
      let t = last.2 in
      subst KeepsKids (sym t.before) (keeps_kids last.0.was t.params t.kids (is last.0 last.1)))
  family_none (Some k) notes ps ks is = tt

  -- a note less
  pub IsStock-pop : (notes : List (Note A)) (n : Note A) (past_params past_params' : List (List ℤ)) (past_kids past_kids' : List (List ℕ)) → length past_params ≡ length past_params' + param_lists n.was → length past_kids ≡ length past_kids' + kid_lists n.was → IsStock (notes ++ n ∷ []) past_params past_kids → IsStock notes past_params' past_kids'
  IsStock-pop notes n pp pp' pk pk' ppl pkl is = record {
    past_params_long = omega (arith, ppl, is.past_params_long, param_count_push notes n);
    past_kids_long = omega (arith, pkl, is.past_kids_long, kid_count_push notes n);
  }

  pub answer_same : (p : List ℤ) (q : List ℕ) (o : Option (Stored A)) → option_and_then answer_of (option_map (node_of p q) o) ≡ option_and_then slot_answer o
  answer_same p q None = refl
  answer_same p q (Some s) = refl

  pub dropped_same : (x : Option A) (p : List ℤ) (q : List ℕ) (k : ℕ) (m : Nodes A) (o : Option (Stored A)) → m k ≡ option_map (node_of p q) o → dropped (record { node = k; before = OldAnswer x }) m ≡ answer_before o x
  dropped_same x p q k m None e = grind (arith, e)
  dropped_same x p q k m (Some s) e = grind (arith, e)

  -- the last change, before it is undone or taken up
  pub record Last (slots : List (Option (Stored A))) (p : Shelf ℤ) (q : Shelf ℕ) (notes : List (Note A)) (k : ℕ) (w : Was A) : Type 0 where
    pub last : Change A
    pub earlier : List (Change A)
    pub were : changes_told (notes ++ record { node = k; was = w } ∷ []) p.past q.past ≡ earlier ++ last ∷ []
    pub answer : dropped last (shown_nodes slots p.current q.current) ≡ dropped_slot w (slot_at slots k)
    pub noted : old_answer last ≡ noted_answer w

  pub last_undone : (slots : List (Option (Stored A))) (p : Shelf ℤ) (q : Shelf ℕ) (notes : List (Note A)) (k : ℕ) (w : Was A) → IsStock (notes ++ record { node = k; was = w } ∷ []) p.past q.past → Last slots p q notes k w
  last_undone slots p q notes k was.Missing is =
      let n : Note A = record { node = k; was = was.Missing } in
      record {
        last = record { node = k; before = Missing };
        earlier = changes_told notes p.past q.past;
        were = told_plain notes n p.past q.past (omega (arith, is.past_params_long, param_count_push notes n)) (omega (arith, is.past_kids_long, kid_count_push notes n));
        answer = answer_same (row_at p.current k) (row_at q.current k) (slot_at slots k);
        noted = refl;
      }
  last_undone slots p q notes k (was.Key x) is =
      let n : Note A = record { node = k; was = was.Key x } in
      record {
        last = record { node = k; before = OldKey x };
        earlier = changes_told notes p.past q.past;
        were = told_plain notes n p.past q.past (omega (arith, is.past_params_long, param_count_push notes n)) (omega (arith, is.past_kids_long, kid_count_push notes n));
        answer = refl;
        noted = refl;
      }
  last_undone slots p q notes k (was.Answer x) is =
      let n : Note A = record { node = k; was = was.Answer x } in
      record {
        last = record { node = k; before = OldAnswer x };
        earlier = changes_told notes p.past q.past;
        were = told_plain notes n p.past q.past (omega (arith, is.past_params_long, param_count_push notes n)) (omega (arith, is.past_kids_long, kid_count_push notes n));
        answer = dropped_same x (row_at p.current k) (row_at q.current k) k (shown_nodes slots p.current q.current) (slot_at slots k) refl;
        noted = refl;
      }
  last_undone slots p q notes k (was.Kind x) is =
      let n : Note A = record { node = k; was = was.Kind x } in
      let end = last_of p.past (param_count notes) (omega (arith, is.past_params_long, param_count_push notes n)) in
      record {
        last = record { node = k; before = OldSeen (seen_as x end.1) };
        earlier = changes_told notes end.0 q.past;
        were = ap (λ (y : List (List ℤ)). changes_told (notes ++ n ∷ []) y q.past) end.2 ∙ told_param notes n end.0 end.1 q.past end.3 (omega (arith, is.past_kids_long, kid_count_push notes n));
        answer = refl;
        noted = refl;
      }
  last_undone slots p q notes k was.Kids is =
      let n : Note A = record { node = k; was = was.Kids } in
      let end = last_of q.past (kid_count notes) (omega (arith, is.past_kids_long, kid_count_push notes n)) in
      record {
        last = record { node = k; before = OldKids end.1 };
        earlier = changes_told notes p.past end.0;
        were = ap (changes_told (notes ++ n ∷ []) p.past) end.2 ∙ told_kid notes n p.past end.0 end.1 (omega (arith, is.past_params_long, param_count_push notes n)) end.3;
        answer = refl;
        noted = refl;
      }

  -- the last change was taken up
  pub record Taken (p p' : Shelf ℤ) (q q' : Shelf ℕ) (notes : List (Note A)) (k : ℕ) (w : Was A) : Type 0 where
    pub last : Change A
    pub sound : IsStock notes p'.past q'.past
    pub told_is : changes_told (notes ++ record { node = k; was = w } ∷ []) p.past q.past ≡ changes_told notes p'.past q'.past ++ last ∷ []
    pub params : p'.current ≡ p.current
    pub kids : q'.current ≡ q.current
    pub looks : nodes_named w k q'.hand ≡ looked last
    pub answer : old_answer last ≡ noted_answer w
    pub rooms : (p'.spare ≡ p.spare) × (q'.spare ≡ q.spare)
    pub past_params_room : past_room p ≤ past_room p'
    pub past_kids_room : past_room q ≤ past_room q'

  -- a note without a list
  take_plain : (p p' : Shelf ℤ) (q q' : Shelf ℕ) (notes : List (Note A)) (k : ℕ) (w : Was A) (b : Previous A) → param_lists w ≡ 0 → kid_lists w ≡ 0 → ((p : List (List ℤ)) (q : List (List ℕ)) → length p ≡ param_count notes → length q ≡ kid_count notes → changes_told (notes ++ record { node = k; was = w } ∷ []) p q ≡ changes_told notes p q ++ record { node = k; before = b } ∷ []) → nodes_named w k q'.hand ≡ looked (record { node = k; before = b }) → old_answer (record { node = k; before = b }) ≡ noted_answer w → IsStock (notes ++ record { node = k; was = w } ∷ []) p.past q.past → p' ≡ p → q' ≡ q → Taken p p' q q' notes k w
  take_plain p p' q q' notes k w b p0 q0 plain looks answer is pu qu =
      let n : Note A = record { node = k; was = w } in
      let pl : length p.past ≡ param_count notes = omega (arith, is.past_params_long, param_count_push notes n, p0) in
      let ql : length q.past ≡ kid_count notes = omega (arith, is.past_kids_long, kid_count_push notes n, q0) in
      let pp = ap (λ (x : Shelf ℤ). x.past) pu in
      let qp = ap (λ (x : Shelf ℕ). x.past) qu in
      record {
        last = record { node = k; before = b };
        sound = IsStock-pop notes n p.past p'.past q.past q'.past (let e = ap length pp in omega (arith, e, p0)) (let e = ap length qp in omega (arith, e, q0)) is;
        told_is = plain p.past q.past pl ql ∙ ap (λ (x : List (List ℤ)). changes_told notes x q.past ++ record { node = k; before = b } ∷ []) (sym pp) ∙ ap (λ (x : List (List ℕ)). changes_told notes p'.past x ++ record { node = k; before = b } ∷ []) (sym qp);
        params = ap (λ (x : Shelf ℤ). x.current) pu;
        kids = ap (λ (x : Shelf ℕ). x.current) qu;
        looks = looks;
        answer = answer;
        rooms = (ap (λ (x : Shelf ℤ). x.spare) pu, ap (λ (x : Shelf ℕ). x.spare) qu);
        past_params_room = let e = ap past_room pu in omega (arith, e);
        past_kids_room = let e = ap past_room qu in omega (arith, e);
      }

  pub take_done : (p p' : Shelf ℤ) (q q' : Shelf ℕ) (notes : List (Note A)) (k : ℕ) (w : Was A) → IsStock (notes ++ record { node = k; was = w } ∷ []) p.past q.past → DropsParams w p p' → TakesKids w q q' → Taken p p' q q' notes k w
  take_done p p' q q' notes k was.Missing is pu qu = take_plain p p' q q' notes k was.Missing Missing refl refl (told_plain notes (record { node = k; was = was.Missing })) refl refl is pu qu
  take_done p p' q q' notes k (was.Key x) is pu qu = take_plain p p' q q' notes k (was.Key x) (OldKey x) refl refl (told_plain notes (record { node = k; was = was.Key x })) refl refl is pu qu
  take_done p p' q q' notes k (was.Answer x) is pu qu = take_plain p p' q q' notes k (was.Answer x) (OldAnswer x) refl refl (told_plain notes (record { node = k; was = was.Answer x })) refl refl is pu qu
  take_done p p' q q' notes k (was.Kind x) is pu qu =
      let n : Note A = record { node = k; was = was.Kind x } in
      let pl : length p.past ≡ param_count notes + 1 = omega (arith, is.past_params_long, param_count_push notes n) in
      let ql : length q.past ≡ kid_count notes = omega (arith, is.past_kids_long, kid_count_push notes n) in
      let end = last_of p.past (param_count notes) pl in
      let pr = pu end.0 end.1 end.2 in
      let pp = ap (λ (x : Shelf ℤ). x.past) pr in
      let qp = ap (λ (x : Shelf ℕ). x.past) qu in
      record {
        last = record { node = k; before = OldSeen (seen_as x end.1) };
        sound = IsStock-pop notes n p.past p'.past q.past q'.past (let e = ap length pp in omega (arith, e, pl, end.3)) (let e = ap length qp in omega (arith, e)) is;
        told_is = ap (λ (y : List (List ℤ)). changes_told (notes ++ n ∷ []) y q.past) end.2 ∙ told_param notes n end.0 end.1 q.past end.3 ql ∙ ap (λ (y : List (List ℤ)). changes_told notes y q.past ++ record { node = k; before = OldSeen (seen_as x end.1) } ∷ []) (sym pp) ∙ ap (λ (y : List (List ℕ)). changes_told notes p'.past y ++ record { node = k; before = OldSeen (seen_as x end.1) } ∷ []) (sym qp);
        params = ap (λ (x : Shelf ℤ). x.current) pr;
        kids = ap (λ (x : Shelf ℕ). x.current) qu;
        looks = refl;
        answer = refl;
        rooms = (ap (λ (x : Shelf ℤ). x.spare) pr, ap (λ (x : Shelf ℕ). x.spare) qu);
        past_params_room = let e = ap (λ (y : Shelf ℤ). y.past_places) pr in let l = ap length pp in omega (arith, e, l, pl, end.3);
        past_kids_room = let e = ap past_room qu in omega (arith, e);
      }
  take_done p p' q q' notes k was.Kids is pu qu =
      let n : Note A = record { node = k; was = was.Kids } in
      let pl : length p.past ≡ param_count notes = omega (arith, is.past_params_long, param_count_push notes n) in
      let ql : length q.past ≡ kid_count notes + 1 = omega (arith, is.past_kids_long, kid_count_push notes n) in
      let end = last_of q.past (kid_count notes) ql in
      let qr = qu end.0 end.1 end.2 in
      let pp = ap (λ (x : Shelf ℤ). x.past) pu in
      let qp = ap (λ (x : Shelf ℕ). x.past) qr in
      record {
        last = record { node = k; before = OldKids end.1 };
        sound = IsStock-pop notes n p.past p'.past q.past q'.past (let e = ap length pp in omega (arith, e)) (let e = ap length qp in omega (arith, e, ql, end.3)) is;
        told_is = ap (changes_told (notes ++ n ∷ []) p.past) end.2 ∙ told_kid notes n p.past end.0 end.1 pl end.3 ∙ ap (λ (y : List (List ℤ)). changes_told notes y end.0 ++ record { node = k; before = OldKids end.1 } ∷ []) (sym pp) ∙ ap (λ (y : List (List ℕ)). changes_told notes p'.past y ++ record { node = k; before = OldKids end.1 } ∷ []) (sym qp);
        params = ap (λ (x : Shelf ℤ). x.current) pu;
        kids = ap (λ (x : Shelf ℕ). x.current) qr;
        looks = ap (λ (x : Shelf ℕ). x.hand) qr;
        answer = refl;
        rooms = (ap (λ (x : Shelf ℤ). x.spare) pu, ap (λ (x : Shelf ℕ). x.spare) qr);
        past_params_room = let e = ap past_room pu in omega (arith, e);
        past_kids_room = let e = ap (λ (y : Shelf ℕ). y.past_places) qr in let l = ap length qp in omega (arith, e, l, ql, end.3);
      }

  -- what a note drops and names is told by what is left of it
  pub drops_left : (r : Remnant) (k : ℕ) (w : Was A) (old new : Shelf ℤ) → r ≡ remnant_of k w → DropsLeft r old new → DropsParams w old new
  drops_left r k was.Missing old new is drops = subst (λ (r : Remnant). DropsLeft r old new) is drops
  drops_left r k (was.Kind x) old new is drops = subst (λ (r : Remnant). DropsLeft r old new) is drops
  drops_left r k (was.Key x) old new is drops = subst (λ (r : Remnant). DropsLeft r old new) is drops
  drops_left r k was.Kids old new is drops = subst (λ (r : Remnant). DropsLeft r old new) is drops
  drops_left r k (was.Answer x) old new is drops = subst (λ (r : Remnant). DropsLeft r old new) is drops

  pub takes_left : (r : Remnant) (k : ℕ) (w : Was A) (old new : Shelf ℕ) → r ≡ remnant_of k w → TakesLeft r old new → TakesKids w old new
  takes_left r k was.Missing old new is takes = subst (λ (r : Remnant). TakesLeft r old new) is takes
  takes_left r k (was.Kind x) old new is takes = subst (λ (r : Remnant). TakesLeft r old new) is takes
  takes_left r k (was.Key x) old new is takes = subst (λ (r : Remnant). TakesLeft r old new) is takes
  takes_left r k was.Kids old new is takes = subst (λ (r : Remnant). TakesLeft r old new) is takes
  takes_left r k (was.Answer x) old new is takes = subst (λ (r : Remnant). TakesLeft r old new) is takes

  pub names_left : (r : Remnant) (k : ℕ) (w : Was A) (hand : List ℕ) → r ≡ remnant_of k w → nodes_left r hand ≡ nodes_named w k hand
  names_left r k was.Missing hand is = ap (λ (r : Remnant). nodes_left r hand) is
  names_left r k (was.Kind x) hand is = ap (λ (r : Remnant). nodes_left r hand) is
  names_left r k (was.Key x) hand is = ap (λ (r : Remnant). nodes_left r hand) is
  names_left r k was.Kids hand is = ap (λ (r : Remnant). nodes_left r hand) is
  names_left r k (was.Answer x) hand is = ap (λ (r : Remnant). nodes_left r hand) is
