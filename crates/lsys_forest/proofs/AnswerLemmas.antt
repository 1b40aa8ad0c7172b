-- Of the runs that answers hold, exactly those that are held no more are given back.
use Rattle.std.proofs.Common.{◌≡◌, ◌≢◌, ◌⊎◌, ℕ, List, [], ◌∷◌, ◌++◌, length, slice_get, Option, Some, None, refl, sym, ap, ◌∙◌, arith, inl, inr, subst}
use Rattle.std.specs.Prelude.{IsSome, option_map, cond, nat_eq}
use Rattle.std.proofs.Math.Path.{fun_ext}
use Rattle.std.proofs.lemmas.Grind.{common_steps}
use Rattle.std.specs.Option.{option_and_then}
use Rattle.std.proofs.lemmas.Bool.{cases_eq}
use Rattle.std.proofs.lemmas.Option.{none-some, same_Some, slice_get_past}
use Rattle.lsys_region.proofs.ListLemmas.{slice_get-push_old, slice_get-push_new, slice_get-push_other, slice_get-push_cases}
use Rattle.lsys_forest.specs.Nodes.{Node, Nodes, with_node, change, with_seen, with_key, with_kids, with_answer}
use Rattle.lsys_forest.specs.Changes.{Previous, Missing, OldSeen, OldKey, OldKids, OldAnswer, Change, undo}
use Rattle.lsys_forest.specs.Stocks.{Stock, nodes_of, changes_of, Journals, dropped, dropped_before}
use Rattle.lsys_forest.specs.Answers.{AnswerKeeper, AtNode, AtChange, answer_of, old_answer, answers, kept_by, LiveApart, Lives, Releases, FreesUnheld, FreesAllBut}
use Rattle.lsys_forest.proofs.StockLemmas.{put_same, put_other}

dead : {X : Type 0} (o : Option X) → o ≡ None → IsSome o → ⊥
dead o none some = grind (arith, none, some)

node_change : (i j : ℕ) → AtNode i ≡ AtChange j → ⊥
node_change i j e = cc

node_node : (i j : ℕ) → AtNode i ≡ AtNode j → i ≡ j
node_node i j e = cc

change_change : (i j : ℕ) → AtChange i ≡ AtChange j → i ≡ j
change_change i j e = cc

-- who kept the answer before the change with this place
abbrev back_from : ℕ → ℕ → AnswerKeeper → AnswerKeeper
back_from k last (AtNode j) = cond (nat_eq j k) (AtChange last) (AtNode j)
back_from k last (AtChange i) = AtChange i

back_cases : (k last j : ℕ) → ((j ≡ k) × (back_from k last (AtNode j) ≡ AtChange last)) ⊎ ((j ≢ k) × (back_from k last (AtNode j) ≡ AtNode j))
back_cases k last j = elim (cases_eq j k) [
  | inl e ↦ inl (e, grind (arith, common_steps))
  | inr ne ↦ inr (ne, grind (arith, common_steps))
]

module _ {A : Type 0} where
  -- One answer is kept no more, if there is one. Each other is kept still, by the same keeper or by another one.
  pub record IsStep (old new : AnswerKeeper → Option A) (gone : Option A) : Type 0 where
    pub from : AnswerKeeper → AnswerKeeper
    pub came : (h : AnswerKeeper) (a : A) → new h ≡ Some a → old (from h) ≡ Some a
    pub apart : (h i : AnswerKeeper) (a b : A) → new h ≡ Some a → new i ≡ Some b → from h ≡ from i → h ≡ i
    pub stays : (i : AnswerKeeper) (a : A) → old i ≡ Some a → ((h : AnswerKeeper) × (new h ≡ Some a)) ⊎ (gone ≡ Some a)
    pub lost : (a : A) → gone ≡ Some a → (x : AnswerKeeper) × (old x ≡ Some a) × ((h : AnswerKeeper) (b : A) → new h ≡ Some b → from h ≢ x)

  module _ {Store Name Run : Type 0} (run_at : Store → Name → Option Run) (holds : A → Name → Type 0) where
    -- no answer is released, and one
    pub releases_none : (s : Store) → Releases run_at holds None s s
    releases_none s = record { gone = λ a e. absurd (none-some a e); others = λ r free. refl }

    pub releases_some : (a : A) (s s' : Store) → ((r : Name) → holds a r → run_at s' r ≡ None) → ((r : Name) → (holds a r → ⊥) → run_at s' r ≡ run_at s r) → Releases run_at holds (Some a) s s'
    releases_some a s s' gone others = record {
      gone = λ b e r held. gone r (subst (λ (x : A). holds x r) (sym (same_Some a b e)) held);
      others = λ r free. others r (λ held. free a refl held);
    }

    pub lost_made : (old new : AnswerKeeper → Option A) (gone : Option A) (s : Store) → IsStep old new gone → LiveApart run_at holds s old → Lives run_at holds s gone
    lost_made old new gone s step made a is r h = let x = step.lost a is in made.made x.0 a r x.1 h

    -- a run that is held still was not given back
    still : (old new : AnswerKeeper → Option A) (gone : Option A) (s s' : Store) → IsStep old new gone → LiveApart run_at holds s old → Releases run_at holds gone s s' → (h : AnswerKeeper) (a : A) (r : Name) → new h ≡ Some a → holds a r → run_at s' r ≡ run_at s r
    still old new gone s s' step made released h a r is held =
        released.others r (λ b lost other. (
        let x = step.lost b lost in
        x.2 h a is (made.once (step.from h) x.0 a b r (step.came h a is) x.1 held other)
        ))

    pub step_made : (old new : AnswerKeeper → Option A) (gone : Option A) (s s' : Store) → IsStep old new gone → LiveApart run_at holds s old → Releases run_at holds gone s s' → LiveApart run_at holds s' new
    step_made old new gone s s' step made released = record {
      made = λ h a r is held. subst IsSome (sym (still old new gone s s' step made released h a r is held)) (made.made (step.from h) a r (step.came h a is) held);
      once = λ h i a b r is js one two. step.apart h i a b is js (made.once (step.from h) (step.from i) a b r (step.came h a is) (step.came i b js) one two);
    }

    pub step_follows : (old new : AnswerKeeper → Option A) (gone : Option A) (s s' : Store) → IsStep old new gone → LiveApart run_at holds s old → Releases run_at holds gone s s' → FreesUnheld run_at holds old s new s'
    step_follows old new gone s s' step made released = record {
      sub = λ r h. (step.from h.0, h.1, step.came h.0 h.1 h.2, h.3);
      stay = λ r h. still old new gone s s' step made released h.0 h.1 r h.2 h.3;
      cases = λ r h. elim (step.stays h.0 h.1 h.2) [
        | inl k ↦ inl (k.0, h.1, k.1, h.3)
        | inr lost ↦ inr (released.gone h.1 lost r h.3)
      ];
      others = λ r none. released.others r (λ a lost held. let x = step.lost a lost in none (x.0, a, x.1, held));
    }

    pub follows_start : (kept : AnswerKeeper → Option A) (s : Store) → FreesUnheld run_at holds kept s kept s
    follows_start kept s = record { sub = λ r h. h; stay = λ r h. refl; cases = λ r h. inl h; others = λ r none. refl }

    pub follows_on : (first kept later : AnswerKeeper → Option A) (s t u : Store) → LiveApart run_at holds t kept → FreesUnheld run_at holds first s kept t → FreesUnheld run_at holds kept t later u → FreesUnheld run_at holds first s later u
    follows_on first kept later s t u made one two = record {
      sub = λ r h. one.sub r (two.sub r h);
      stay = λ r h. two.stay r h ∙ one.stay r (two.sub r h);
      cases = λ r h. elim (one.cases r h) [
        | inl k ↦ two.cases r k
        | inr gone ↦ inr (two.others r (λ k. dead (run_at t r) gone (made.made k.0 k.1 r k.2 k.3)) ∙ gone)
      ];
      others = λ r none. two.others r (λ k. none (one.sub r k)) ∙ one.others r none;
    }

  -- 1. a change is undone

  put_answer : (m : Nodes A) (k : ℕ) (v : Option (Node A)) (changes : List (Change A)) (j : ℕ) → ((j ≡ k) × (answers (with_node m k v) changes (AtNode j) ≡ option_and_then answer_of v)) ⊎ ((j ≢ k) × (answers (with_node m k v) changes (AtNode j) ≡ answers m changes (AtNode j)))
  put_answer m k v changes j = elim (cases_eq j k) [
    | inl e ↦ inl (e, ap (option_and_then answer_of) (put_same m k j v e))
    | inr ne ↦ inr (ne, ap (option_and_then answer_of) (put_other m k j v ne))
  ]

  earlier_is : (m m' : Nodes A) (earlier : List (Change A)) (c : Change A) (i : ℕ) (a : A) → answers m' earlier (AtChange i) ≡ Some a → answers m (earlier ++ c ∷ []) (AtChange i) ≡ Some a
  earlier_is m m' earlier c i a is = go (slice_get earlier i) refl is
    where
      go : (o : Option (Change A)) → slice_get earlier i ≡ o → option_and_then old_answer o ≡ Some a → option_and_then old_answer (slice_get (earlier ++ c ∷ []) i) ≡ Some a
      go None e f = absurd (none-some a f)
      go (Some x) e f = ap (option_and_then old_answer) (slice_get-push_old earlier i x c e) ∙ f

  last_is : (m : Nodes A) (earlier : List (Change A)) (c : Change A) → answers m (earlier ++ c ∷ []) (AtChange (length earlier)) ≡ old_answer c
  last_is m earlier c = ap (option_and_then old_answer) (slice_get-push_new earlier c)

  -- an answer of a change is the last one's, or an earlier one's
  change_cases : (m m' : Nodes A) (earlier : List (Change A)) (c : Change A) (i : ℕ) (a : A) → answers m (earlier ++ c ∷ []) (AtChange i) ≡ Some a → ((i ≡ length earlier) × (old_answer c ≡ Some a)) ⊎ (answers m' earlier (AtChange i) ≡ Some a)
  change_cases m m' earlier c i a is = go (slice_get (earlier ++ c ∷ []) i) refl is
    where
      go : (o : Option (Change A)) → slice_get (earlier ++ c ∷ []) i ≡ o → option_and_then old_answer o ≡ Some a → ((i ≡ length earlier) × (old_answer c ≡ Some a)) ⊎ (answers m' earlier (AtChange i) ≡ Some a)
      go None e f = absurd (none-some a f)
      go (Some x) e f = elim (slice_get-push_cases earlier i c x e) [
        | inl new ↦ inl (new.0, ap old_answer new.1 ∙ f)
        | inr old ↦ inr (ap (option_and_then old_answer) old.1 ∙ f)
      ]

  -- a change without an answer, by which no answer of a node changes
  pub plain_step : (m m' : Nodes A) (earlier : List (Change A)) (c : Change A) → ((k : ℕ) → option_and_then answer_of (m' k) ≡ option_and_then answer_of (m k)) → old_answer c ≡ None → IsStep (answers m (earlier ++ c ∷ [])) (answers m' earlier) None
  plain_step m m' earlier c same none = record {
    from = λ h. h;
    came = λ h a is. came h a is;
    apart = λ h i a b is js e. e;
    stays = λ i a is. stays i a is;
    lost = λ a e. absurd (none-some a e);
  }
    where
      came : (h : AnswerKeeper) (a : A) → answers m' earlier h ≡ Some a → answers m (earlier ++ c ∷ []) h ≡ Some a
      came (AtNode k) a is = sym (same k) ∙ is
      came (AtChange i) a is = earlier_is m m' earlier c i a is

      stays : (i : AnswerKeeper) (a : A) → answers m (earlier ++ c ∷ []) i ≡ Some a → ((h : AnswerKeeper) × (answers m' earlier h ≡ Some a)) ⊎ (None ≡ Some a)
      stays (AtNode k) a is = inl (AtNode k, same k ∙ is)
      stays (AtChange i) a is = elim (change_cases m m' earlier c i a is) [
        | inl last ↦ inr (sym none ∙ last.1)
        | inr old ↦ inl (AtChange i, old)
      ]

  same_answer : (g : Node A → Node A) → ((n : Node A) → (g n).answer ≡ n.answer) → (m : Nodes A) (k j : ℕ) → option_and_then answer_of (change g m k j) ≡ option_and_then answer_of (m j)
  same_answer g same m k j = elim (cases_eq j k) [
    | inl e ↦ ap (option_and_then answer_of) (put_same m k j _ e) ∙ go (m k) ∙ ap (λ i. option_and_then answer_of (m i)) (sym e)
    | inr ne ↦ ap (option_and_then answer_of) (put_other m k j _ ne)
  ]
    where
      go : (o : Option (Node A)) → option_and_then answer_of (option_map g o) ≡ option_and_then answer_of o
      go None = refl
      go (Some n) = same n

  -- a node goes, whose answer is lost, and a change that keeps none
  gone_step : (m : Nodes A) (k : ℕ) (earlier : List (Change A)) → IsStep (answers m earlier) (answers (with_node m k None) earlier) (option_and_then answer_of (m k))
  gone_step m k earlier = record {
    from = λ h. h;
    came = λ h a is. came h a is;
    apart = λ h i a b is js e. e;
    stays = λ i a is. stays i a is;
    lost = λ a e. (AtNode k, e, λ h b is same. clash h b is same);
  }
    where
      came : (h : AnswerKeeper) (a : A) → answers (with_node m k None) earlier h ≡ Some a → answers m earlier h ≡ Some a
      came (AtNode j) a is = elim (put_answer m k None earlier j) [
        | inl e ↦ absurd (none-some a (sym e.1 ∙ is))
        | inr e ↦ sym e.1 ∙ is
      ]
      came (AtChange i) a is = is

      stays : (i : AnswerKeeper) (a : A) → answers m earlier i ≡ Some a → ((h : AnswerKeeper) × (answers (with_node m k None) earlier h ≡ Some a)) ⊎ (option_and_then answer_of (m k) ≡ Some a)
      stays (AtNode j) a is = elim (put_answer m k None earlier j) [
        | inl e ↦ inr (ap (λ i. option_and_then answer_of (m i)) (sym e.0) ∙ is)
        | inr e ↦ inl (AtNode j, e.1 ∙ is)
      ]
      stays (AtChange i) a is = inl (AtChange i, is)

      clash : (h : AnswerKeeper) (b : A) → answers (with_node m k None) earlier h ≡ Some b → h ≢ AtNode k
      clash (AtNode j) b is same = elim (put_answer m k None earlier j) [
        | inl e ↦ none-some b (sym e.1 ∙ is)
        | inr e ↦ e.0 (node_node j k same)
      ]
      clash (AtChange i) b is same = node_change k i (sym same)

  -- one step after another, of which one loses nothing
  pub step_then : (old mid new : AnswerKeeper → Option A) (gone : Option A) → IsStep old mid None → IsStep mid new gone → IsStep old new gone
  step_then old mid new gone one two = record {
    from = λ h. one.from (two.from h);
    came = λ h a is. one.came (two.from h) a (two.came h a is);
    apart = λ h i a b is js e. two.apart h i a b is js (one.apart (two.from h) (two.from i) a b (two.came h a is) (two.came i b js) e);
    stays = λ i a is. elim (one.stays i a is) [
      | inl k ↦ two.stays k.0 a k.1
      | inr none ↦ absurd (none-some a none)
    ];
    lost = λ a e.
        let x = two.lost a e in
        (one.from x.0, one.came x.0 a x.1, λ h b is same. x.2 h b is (one.apart (two.from h) x.0 b a (two.came h b is) x.1 same));
  }

  -- the answer of the last change is lost
  pub take_step : (m : Nodes A) (earlier : List (Change A)) (c : Change A) → IsStep (answers m (earlier ++ c ∷ [])) (answers m earlier) (old_answer c)
  take_step m earlier c = record {
    from = λ h. h;
    came = λ h a is. came h a is;
    apart = λ h i a b is js e. e;
    stays = λ i a is. stays i a is;
    lost = λ a e. (AtChange (length earlier), last_is m earlier c ∙ e, λ h b is same. clash h b is same);
  }
    where
      came : (h : AnswerKeeper) (a : A) → answers m earlier h ≡ Some a → answers m (earlier ++ c ∷ []) h ≡ Some a
      came (AtNode k) a is = is
      came (AtChange i) a is = earlier_is m m earlier c i a is

      stays : (i : AnswerKeeper) (a : A) → answers m (earlier ++ c ∷ []) i ≡ Some a → ((h : AnswerKeeper) × (answers m earlier h ≡ Some a)) ⊎ (old_answer c ≡ Some a)
      stays (AtNode k) a is = inl (AtNode k, is)
      stays (AtChange i) a is = elim (change_cases m m earlier c i a is) [
        | inl last ↦ inr last.1
        | inr old ↦ inl (AtChange i, old)
      ]

      clash : (h : AnswerKeeper) (b : A) → answers m earlier h ≡ Some b → h ≢ AtChange (length earlier)
      clash (AtNode k) b is same = node_change k (length earlier) same
      clash (AtChange i) b is same =
          let e = change_change i (length earlier) same in
          none-some b (sym (ap (option_and_then old_answer) (slice_get_past earlier i (omega (arith, e)))) ∙ is)

  -- a change more that keeps no answer
  pub more_step : (m : Nodes A) (changes : List (Change A)) (c : Change A) → old_answer c ≡ None → IsStep (answers m changes) (answers m (changes ++ c ∷ [])) None
  more_step m changes c none = record {
    from = λ h. h;
    came = λ h a is. came h a is;
    apart = λ h i a b is js e. e;
    stays = λ i a is. inl (i, stays i a is);
    lost = λ a e. absurd (none-some a e);
  }
    where
      came : (h : AnswerKeeper) (a : A) → answers m (changes ++ c ∷ []) h ≡ Some a → answers m changes h ≡ Some a
      came (AtNode k) a is = is
      came (AtChange i) a is = elim (change_cases m m changes c i a is) [
        | inl last ↦ absurd (none-some a (sym none ∙ last.1))
        | inr old ↦ old
      ]

      stays : (i : AnswerKeeper) (a : A) → answers m changes i ≡ Some a → answers m (changes ++ c ∷ []) i ≡ Some a
      stays (AtNode k) a is = is
      stays (AtChange i) a is = earlier_is m m changes c i a is

  -- who keeps which answer stays, where the node that changed has the answer that it had, and no answer is noted
  pub answers_stay : (m : Nodes A) (k : ℕ) (v : Option (Node A)) (changes : List (Change A)) (c : Change A) → option_and_then answer_of v ≡ option_and_then answer_of (m k) → old_answer c ≡ None → answers (with_node m k v) (changes ++ c ∷ []) ≡ answers m changes
  answers_stay m k v changes c same none = fun_ext (λ h. stays h)
    where
      noted : (i : ℕ) → option_and_then old_answer (slice_get (changes ++ c ∷ []) i) ≡ option_and_then old_answer (slice_get changes i)
      noted i = elim (cases_eq i (length changes)) [
        | inl last ↦ ap (λ j. option_and_then old_answer (slice_get (changes ++ c ∷ []) j)) last ∙ last_is m changes c ∙ none ∙ sym (ap (option_and_then old_answer) (slice_get_past changes i (omega (arith, last))))
        | inr other ↦ ap (option_and_then old_answer) (slice_get-push_other changes i c other)
      ]

      stays : (h : AnswerKeeper) → answers (with_node m k v) (changes ++ c ∷ []) h ≡ answers m changes h
      stays (AtNode j) = elim (put_answer m k v changes j) [
        | inl e ↦ e.1 ∙ same ∙ ap (λ i. option_and_then answer_of (m i)) (sym e.0)
        | inr e ↦ e.1
      ]
      stays (AtChange i) = noted i

  -- the same of a change that was journaled
  pub kept_stay : (old new : Stock A) (k : ℕ) (v : Option (Node A)) (before : Previous A) (born params kids : ℕ) → option_and_then answer_of v ≡ option_and_then answer_of (nodes_of old k) → old_answer (record { node = k; before = before }) ≡ None → Journals old new k v before born params kids → answers (nodes_of new) (changes_of new) ≡ answers (nodes_of old) (changes_of old)
  kept_stay old new k v before born params kids same none j =
      let c : Change A = record { node = k; before = before } in
      ap (λ (m : Nodes A). answers m (changes_of new)) j.nodes ∙ ap (answers (with_node (nodes_of old) k v)) j.noted ∙ answers_stay (nodes_of old) k v (changes_of old) c same none

  pub remove_step : (m : Nodes A) (k : ℕ) (n : Node A) (changes : List (Change A)) → m k ≡ Some n → IsStep (answers m changes) (answers (with_node m k None) (changes ++ record { node = k; before = OldKids n.kids } ∷ [])) n.answer
  remove_step m k n changes is =
      let c : Change A = record { node = k; before = OldKids n.kids } in
      subst (IsStep (answers m changes) (answers (with_node m k None) (changes ++ c ∷ []))) (ap (option_and_then answer_of) is)
      (step_then (answers m changes) (answers m (changes ++ c ∷ [])) (answers (with_node m k None) (changes ++ c ∷ [])) (option_and_then answer_of (m k)) (more_step m changes c refl) (gone_step m k (changes ++ c ∷ [])))

  -- the last change kept an answer, which goes back to its node
  back_step : (m : Nodes A) (k : ℕ) (n : Node A) (x : Option A) (earlier : List (Change A)) → m k ≡ Some n → IsStep (answers m (earlier ++ record { node = k; before = OldAnswer x } ∷ [])) (answers (change (with_answer x) m k) earlier) n.answer
  back_step m k n x earlier is = record {
    from = back_from k (length earlier);
    came = λ h a e. came h a e;
    apart = λ h i a b e f same. apart h i a b e f same;
    stays = λ i a e. stays i a e;
    lost = λ a e. (AtNode k, ap (option_and_then answer_of) is ∙ e, λ h b f same. clash h b f same);
  }
    where
      c : Change A
      c = record { node = k; before = OldAnswer x }

      after : Nodes A
      after = change (with_answer x) m k

      here : option_and_then answer_of (option_map (with_answer x) (m k)) ≡ x
      here = ap (λ (o : Option (Node A)). option_and_then answer_of (option_map (with_answer x) o)) is

      within : (i : ℕ) (a : A) → answers after earlier (AtChange i) ≡ Some a → i ≢ length earlier
      within i a e f = none-some a (sym (ap (option_and_then old_answer) (slice_get_past earlier i (omega (arith, f)))) ∙ e)

      came : (h : AnswerKeeper) (a : A) → answers after earlier h ≡ Some a → answers m (earlier ++ c ∷ []) (back_from k (length earlier) h) ≡ Some a
      came (AtNode j) a e = elim (put_answer m k (option_map (with_answer x) (m k)) earlier j) [
        | inl p ↦ elim (back_cases k (length earlier) j) [
          | inl b ↦ ap (answers m (earlier ++ c ∷ [])) b.1 ∙ last_is m earlier c ∙ sym here ∙ sym p.1 ∙ e
          | inr b ↦ absurd (b.0 p.0)
        ]
        | inr p ↦ elim (back_cases k (length earlier) j) [
          | inl b ↦ absurd (p.0 b.0)
          | inr b ↦ ap (answers m (earlier ++ c ∷ [])) b.1 ∙ sym p.1 ∙ e
        ]
      ]
      came (AtChange i) a e = earlier_is m after earlier c i a e

      apart : (h i : AnswerKeeper) (a b : A) → answers after earlier h ≡ Some a → answers after earlier i ≡ Some b → back_from k (length earlier) h ≡ back_from k (length earlier) i → h ≡ i
      apart (AtNode j) (AtNode l) a b e f same = elim (back_cases k (length earlier) j) [
        | inl p ↦ elim (back_cases k (length earlier) l) [
          | inl q ↦ ap AtNode (p.0 ∙ sym q.0)
          | inr q ↦ absurd (node_change l (length earlier) (sym q.1 ∙ sym same ∙ p.1))
        ]
        | inr p ↦ elim (back_cases k (length earlier) l) [
          | inl q ↦ absurd (node_change j (length earlier) (sym p.1 ∙ same ∙ q.1))
          | inr q ↦ sym p.1 ∙ same ∙ q.1
        ]
      ]
      apart (AtNode j) (AtChange l) a b e f same = elim (back_cases k (length earlier) j) [
        | inl p ↦ absurd (within l b f (sym (change_change (length earlier) l (sym p.1 ∙ same))))
        | inr p ↦ absurd (node_change j l (sym p.1 ∙ same))
      ]
      apart (AtChange j) (AtNode l) a b e f same = elim (back_cases k (length earlier) l) [
        | inl p ↦ absurd (within j a e (change_change j (length earlier) (same ∙ p.1)))
        | inr p ↦ absurd (node_change l j (sym p.1 ∙ sym same))
      ]
      apart (AtChange j) (AtChange l) a b e f same = same

      stays : (i : AnswerKeeper) (a : A) → answers m (earlier ++ c ∷ []) i ≡ Some a → ((h : AnswerKeeper) × (answers after earlier h ≡ Some a)) ⊎ (n.answer ≡ Some a)
      stays (AtNode j) a e = elim (put_answer m k (option_map (with_answer x) (m k)) earlier j) [
        | inl p ↦ inr (ap (option_and_then answer_of) (sym is) ∙ ap (λ i. option_and_then answer_of (m i)) (sym p.0) ∙ e)
        | inr p ↦ inl (AtNode j, p.1 ∙ e)
      ]
      stays (AtChange i) a e = elim (change_cases m after earlier c i a e) [
        | inl last ↦ inl (AtNode k, elim (put_answer m k (option_map (with_answer x) (m k)) earlier k) [ inl p ↦ p.1 ∙ here ∙ last.1 | inr p ↦ absurd (p.0 refl) ])
        | inr old ↦ inl (AtChange i, old)
      ]

      clash : (h : AnswerKeeper) (b : A) → answers after earlier h ≡ Some b → back_from k (length earlier) h ≢ AtNode k
      clash (AtNode j) b e same = elim (back_cases k (length earlier) j) [
        | inl p ↦ node_change k (length earlier) (sym same ∙ p.1)
        | inr p ↦ p.0 (node_node j k (sym p.1 ∙ same))
      ]
      clash (AtChange i) b e same = node_change k i (sym same)

  -- the change is undone
  pub undo_step : (m : Nodes A) (earlier : List (Change A)) (k : ℕ) (b : Previous A) → IsStep (answers m (earlier ++ record { node = k; before = b } ∷ [])) (answers (undo (record { node = k; before = b }) m) earlier) (dropped (record { node = k; before = b }) m)
  undo_step m earlier k Missing = step_then (answers m (earlier ++ record { node = k; before = Missing } ∷ [])) (answers m earlier) (answers (with_node m k None) earlier) (option_and_then answer_of (m k)) (plain_step m m earlier (record { node = k; before = Missing }) (λ j. refl) refl) (gone_step m k earlier)
  undo_step m earlier k (OldSeen x) = plain_step m (change (with_seen x) m k) earlier (record { node = k; before = OldSeen x }) (same_answer (with_seen x) (λ n. refl) m k) refl
  undo_step m earlier k (OldKey x) = plain_step m (change (with_key x) m k) earlier (record { node = k; before = OldKey x }) (same_answer (with_key x) (λ n. refl) m k) refl
  undo_step m earlier k (OldKids x) = plain_step m (change (with_kids x) m k) earlier (record { node = k; before = OldKids x }) (same_answer (with_kids x) (λ n. refl) m k) refl
  undo_step m earlier k (OldAnswer x) = go (m k) refl
    where
      c : Change A
      c = record { node = k; before = OldAnswer x }

      go : (o : Option (Node A)) → m k ≡ o → IsStep (answers m (earlier ++ c ∷ [])) (answers (undo c m) earlier) (dropped_before (OldAnswer x) (m k))
      go (Some n) is = subst (λ (o : Option (Node A)). IsStep (answers m (earlier ++ c ∷ [])) (answers (undo c m) earlier) (dropped_before (OldAnswer x) o)) (sym is) (back_step m k n x earlier is)
      go None is =
          let same : undo c m ≡ m = fun_ext (λ j. elim (cases_eq j k) [
            | inl e ↦ put_same m k j _ e ∙ ap (option_map (with_answer x)) is ∙ sym is ∙ ap m (sym e)
            | inr ne ↦ put_other m k j _ ne
          ]) in
          subst (λ (o : Option (Node A)). IsStep (answers m (earlier ++ c ∷ [])) (answers (undo c m) earlier) (dropped_before (OldAnswer x) o)) (sym is)
          (subst (λ (m' : Nodes A). IsStep (answers m (earlier ++ c ∷ [])) (answers m' earlier) x) (sym same) (take_step m earlier c))

  module _ {Store Name Run : Type 0} (run_at : Store → Name → Option Run) (holds : A → Name → Type 0) where
    -- at rest only nodes keep answers
    pub frees_by : (held : AnswerKeeper → Option A) (m : Nodes A) (changes : List (Change A)) (old new : Store) → changes ≡ [] → FreesUnheld run_at holds held old (answers m changes) new → FreesAllBut run_at holds held (kept_by m) old new
    frees_by held m changes old new none follows =
        let f = subst (λ (cs : List (Change A)). FreesUnheld run_at holds held old (answers m cs) new) none follows in
        record {
          freed = λ r h unkept. elim (f.cases r h) [
            | inl k ↦ absurd (unkept k)
            | inr gone ↦ gone
          ];
          kept_runs = f.stay;
          others = f.others;
        }
