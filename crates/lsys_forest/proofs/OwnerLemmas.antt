-- Runs stay owned while lists are placed, handed over and freed.
use Rattle.std.proofs.Common.{◌≡◌, ◌≢◌, ◌⊎◌, ℕ, suc, List, [], ◌∷◌, ◌++◌, length, map, set, slice_get, Option, Some, None, refl, sym, ap, ◌∙◌, arith, inl, inr, subst}
use Rattle.std.specs.Prelude.{IsSome, IfSome}
use Rattle.std.specs.Option.{unwrap_or, option_and_then}
use Rattle.std.proofs.lemmas.Bool.{cases_eq}
use Rattle.std.proofs.lemmas.Option.{none-some, same_Some}
use Rattle.lsys_region.specs.Pool.{Pool, Slot, list_of, list_at, IsLiveRun, IsFresh, OthersStay, empty_pool}
use Rattle.lsys_region.proofs.ListLemmas.{slice_get-push_new, slice_get-push_other}
use Rattle.lsys_forest.specs.Shelves.{Holder, Caller, Hand, Number, Past, run_at, held, run_list, AreOwned}
use Rattle.lsys_forest.specs.Slots.{change_run, run_before, run_after}
use Rattle.lsys_forest.proofs.TableLemmas.{get_set_other, get_cleared}

-- 1. holders

number_number : (k l : ℕ) → (Number k ≡ Number l) ⊎ (Number k ≢ Number l)
number_number k l = elim (cases_eq k l) [
  | inl e ↦ inl (ap Number e)
  | inr ne ↦ inr (λ e. ne (cc))
]

past_past : (k l : ℕ) → (Past k ≡ Past l) ⊎ (Past k ≢ Past l)
past_past k l = elim (cases_eq k l) [
  | inl e ↦ inl (ap Past e)
  | inr ne ↦ inr (λ e. ne (cc))
]

same_holder : (h i : Holder) → (h ≡ i) ⊎ (h ≢ i)
same_holder Caller Caller = inl refl
same_holder Caller Hand = inr (λ e. cc)
same_holder Caller (Number k) = inr (λ e. cc)
same_holder Caller (Past k) = inr (λ e. cc)
same_holder Hand Caller = inr (λ e. cc)
same_holder Hand Hand = inl refl
same_holder Hand (Number k) = inr (λ e. cc)
same_holder Hand (Past k) = inr (λ e. cc)
same_holder (Number k) Caller = inr (λ e. cc)
same_holder (Number k) Hand = inr (λ e. cc)
same_holder (Number k) (Number l) = number_number k l
same_holder (Number k) (Past l) = inr (λ e. cc)
same_holder (Past k) Caller = inr (λ e. cc)
same_holder (Past k) Hand = inr (λ e. cc)
same_holder (Past k) (Number l) = inr (λ e. cc)
same_holder (Past k) (Past l) = past_past k l

abbrev Runs : Type 0
Runs = Holder → Option (Option ℕ)

-- the same runs are owned, by whoever is told
record Owns {T : Type 0} (pool : Pool T) (holds : Runs) : Type 0 where
  pub live : (h : Holder) (run : Option ℕ) → holds h ≡ Some run → IsLiveRun pool run
  pub once : (h i : Holder) (n : ℕ) → holds h ≡ Some (Some n) → holds i ≡ Some (Some n) → h ≡ i
  pub all : (n : ℕ) → IsLiveRun pool (Some n) → (h : Holder) × (holds h ≡ Some (Some n))

-- two holders swap what they hold
record Trades (holds new : Runs) (a b : Holder) : Type 0 where
  pub first : new a ≡ holds b
  pub second : new b ≡ holds a
  pub others : (h : Holder) → h ≢ a → h ≢ b → new h ≡ holds h

-- who held it before
data Was (a b : Holder) (h i : Holder) : Type 0 where
  FromSecond : h ≡ a → i ≡ b → Was a b h i
  FromFirst : h ≡ b → i ≡ a → Was a b h i
  Itself : h ≢ a → h ≢ b → i ≡ h → Was a b h i

was : (holds new : Runs) (a b : Holder) → Trades holds new a b → (h : Holder) → (i : Holder) × Was a b h i × (new h ≡ holds i)
was holds new a b s h = elim (same_holder h a) [
  | inl e ↦ (b, FromSecond e refl, ap new e ∙ s.first)
  | inr na ↦ elim (same_holder h b) [
    | inl e ↦ (a, FromFirst e refl, ap new e ∙ s.second)
    | inr nb ↦ (h, Itself na nb refl, s.others h na nb)
  ]
]

was_once : (a b h h' i : Holder) → Was a b h i → Was a b h' i → h ≡ h'
was_once a b h h' i (FromSecond p q) (FromSecond r s) = p ∙ sym r
was_once a b h h' i (FromSecond p q) (FromFirst r s) = p ∙ sym s ∙ q ∙ sym r
was_once a b h h' i (FromSecond p q) (Itself r s t) = absurd (s (sym t ∙ q))
was_once a b h h' i (FromFirst p q) (FromSecond r s) = p ∙ sym s ∙ q ∙ sym r
was_once a b h h' i (FromFirst p q) (FromFirst r s) = p ∙ sym r
was_once a b h h' i (FromFirst p q) (Itself r s t) = absurd (r (sym t ∙ q))
was_once a b h h' i (Itself p q r) (FromSecond s t) = absurd (q (sym r ∙ t))
was_once a b h h' i (Itself p q r) (FromFirst s t) = absurd (p (sym r ∙ t))
was_once a b h h' i (Itself p q r) (Itself s t u) = sym r ∙ u

swaps_back : (holds new : Runs) (a b : Holder) → Trades holds new a b → Trades new holds a b
swaps_back holds new a b s = record { first = sym s.second; second = sym s.first; others = λ h na nb. sym (s.others h na nb) }

full : (r : Option ℕ) → Some r ≢ None
full r e = grind (arith, e)

no_list : {X : Type 0} (o : Option X) → o ≡ None → IsSome o → ⊥
no_list o none some = grind (arith, none, some)

same_but_caller : (now past : List (Option ℕ)) (hand : Option ℕ) (a b : Option (Option ℕ)) (h : Holder) → h ≢ Caller → held now past hand b h ≡ held now past hand a h
same_but_caller now past hand a b Caller ne = absurd (ne refl)
same_but_caller now past hand a b Hand ne = refl
same_but_caller now past hand a b (Number k) ne = refl
same_but_caller now past hand a b (Past k) ne = refl

past_end : (xs : List (Option ℕ)) → slice_get xs (length xs) ≡ None
past_end [] = refl
past_end (x ∷ xs) = past_end xs

-- the runs at other numbers, where one was given to a number
pub others_swapped : {X : Type 0} (there : Option X) (now now' : List (Option ℕ)) (run : Option ℕ) (k j : ℕ) → now' ≡ change_run there now k run → j ≢ k → run_at now' j ≡ run_at now j
others_swapped None now now' run k j changed ne = ap (λ n. run_at n j) changed
others_swapped (Some x) now now' run k j changed ne = ap (λ n. run_at n j) changed ∙ get_set_other now k j run None ne

module _ {T : Type 0} where
  swapped : (pool : Pool T) (holds new : Runs) (a b : Holder) → Trades holds new a b → Owns pool holds → Owns pool new
  swapped pool holds new a b s owns = record {
    live = λ h run e. let w = was holds new a b s h in owns.live w.0 run (sym w.2 ∙ e);
    once = λ h i n e f.
        let v = was holds new a b s h in
        let w = was holds new a b s i in
        let same = owns.once v.0 w.0 n (sym v.2 ∙ e) (sym w.2 ∙ f) in
        was_once a b h i w.0 (subst (Was a b h) same v.1) w.1;
    all = λ n live.
        let h = owns.all n live in
        let w = was new holds a b (swaps_back holds new a b s) h.0 in
        (w.0, sym w.2 ∙ h.1);
  }

  fresh_live : (pool : Pool T) (run : Option ℕ) (n : ℕ) (list : List T) → IsFresh pool run list → run ≡ Some n → IsLiveRun pool (Some n) → ⊥
  fresh_live pool None n list fresh e live = none-some n e
  fresh_live pool (Some m) n list fresh e live = no_list (list_at pool m) fresh.1 (subst (IsLiveRun pool) (sym e) live)

  -- what was held keeps its list
  record Keeps (old new : Pool T) (holds : Runs) : Type 0 where
    pub same : (h : Holder) (run : Option ℕ) → holds h ≡ Some run → list_of new run ≡ list_of old run

  -- the caller held nothing, and holds a new run
  placed_keeps : (old new : Pool T) (holds : Runs) (run : Option ℕ) (list : List T) → IsFresh old run list → OthersStay old new run → Owns old holds → Keeps old new holds
  placed_keeps old new holds run list fresh stay owns = record { same = λ h r e. go h r e }
    where
      go : (h : Holder) (r : Option ℕ) → holds h ≡ Some r → list_of new r ≡ list_of old r
      go h None e = refl
      go h (Some n) e = stay (Some n) (λ f. fresh_live old run n list fresh (sym f) (owns.live h (Some n) e))

  placed : (old new : Pool T) (holds after : Runs) (run : Option ℕ) (list : List T) → holds Caller ≡ None → after Caller ≡ Some run → ((h : Holder) → h ≢ Caller → after h ≡ holds h) → IsFresh old run list → list_of new run ≡ Some list → OthersStay old new run → Owns old holds → Owns new after
  placed old new holds after run list empty now rest fresh is stay owns = record {
    live = λ h r e. elim (same_holder h Caller) [
      | inl f ↦ subst (IsLiveRun new) (same_Some run r (sym now ∙ ap after (sym f) ∙ e)) (subst IsSome (sym is) refl)
      | inr ne ↦ let f = sym (rest h ne) ∙ e in subst IsSome (sym (keeps.same h r f)) (owns.live h r f)
    ];
    once = λ h i n e f. elim (same_holder h Caller) [
      | inl a ↦ elim (same_holder i Caller) [
        | inl b ↦ a ∙ sym b
        | inr nb ↦ absurd (clash i n nb (ap after (sym a) ∙ e) f)
      ]
      | inr na ↦ elim (same_holder i Caller) [
        | inl b ↦ absurd (clash h n na (ap after (sym b) ∙ f) e)
        | inr nb ↦ owns.once h i n (sym (rest h na) ∙ e) (sym (rest i nb) ∙ f)
      ]
    ];
    all = λ n live. found n live;
  }
    where
      keeps : Keeps old new holds
      keeps = placed_keeps old new holds run list fresh stay owns

      clash : (i : Holder) (n : ℕ) → i ≢ Caller → after Caller ≡ Some (Some n) → after i ≡ Some (Some n) → ⊥
      clash i n ne e f = fresh_live old run n list fresh (same_Some run (Some n) (sym now ∙ e)) (owns.live i (Some n) (sym (rest i ne) ∙ f))

      not_caller : (h : Holder) (n : ℕ) → holds h ≡ Some (Some n) → h ≢ Caller
      not_caller h n e f = full (Some n) (sym e ∙ ap holds f ∙ empty)

      is_run : (r : Option ℕ) (n : ℕ) → (r ≡ Some n) ⊎ (r ≢ Some n)
      is_run None n = inr (none-some n)
      is_run (Some m) n = elim (cases_eq m n) [ inl e ↦ inl (ap Some e) | inr ne ↦ inr (λ e. ne (same_Some m n e)) ]

      found : (n : ℕ) → IsLiveRun new (Some n) → (h : Holder) × (after h ≡ Some (Some n))
      found n live = elim (is_run run n) [
        | inl e ↦ (Caller, now ∙ ap Some e)
        | inr ne ↦
            let h = owns.all n (subst IsSome (stay (Some n) (λ e. ne (sym e))) live) in
            (h.0, rest h.0 (not_caller h.0 n h.1) ∙ h.1)
      ]

  -- the caller held a run, which was freed
  freed_keeps : (old new : Pool T) (holds after : Runs) (run : Option ℕ) → holds Caller ≡ Some run → after Caller ≡ None → ((h : Holder) → h ≢ Caller → after h ≡ holds h) → OthersStay old new run → Owns old holds → Keeps old new after
  freed_keeps old new holds after run here gone rest stay owns = record { same = λ h r e. go h r e (λ f. full r (sym e ∙ ap after f ∙ gone)) }
    where
      go : (h : Holder) (r : Option ℕ) → after h ≡ Some r → h ≢ Caller → list_of new r ≡ list_of old r
      go h None e ne = refl
      go h (Some n) e ne = stay (Some n) (λ f. ne (owns.once h Caller n (sym (rest h ne) ∙ e) (here ∙ ap Some (sym f))))

  freed : (old new : Pool T) (holds after : Runs) (run : Option ℕ) → holds Caller ≡ Some run → after Caller ≡ None → ((h : Holder) → h ≢ Caller → after h ≡ holds h) → IfSome run (λ n. list_at new n ≡ None) → OthersStay old new run → Owns old holds → Owns new after
  freed old new holds after run here gone rest dead stay owns = record {
    live = λ h r e. subst IsSome (sym (keeps.same h r e)) (owns.live h r (sym (rest h (not_caller h r e)) ∙ e));
    once = λ h i n e f. owns.once h i n (sym (rest h (not_caller h (Some n) e)) ∙ e) (sym (rest i (not_caller i (Some n) f)) ∙ f);
    all = λ n live.
        let lived = subst IsSome (stay (Some n) (λ e. no_list (list_at new n) (died run dead n (sym e)) live)) live in
        let h = owns.all n lived in
        (h.0, rest h.0 (λ e. no_list (list_at new n) (died run dead n (same_Some run (Some n) (sym here ∙ ap holds (sym e) ∙ h.1))) live) ∙ h.1);
  }
    where
      keeps : Keeps old new after
      keeps = freed_keeps old new holds after run here gone rest stay owns

      not_caller : (h : Holder) (r : Option ℕ) → after h ≡ Some r → h ≢ Caller
      not_caller h r e f = full r (sym e ∙ ap after f ∙ gone)

      died : (r : Option ℕ) → IfSome r (λ n. list_at new n ≡ None) → (n : ℕ) → r ≡ Some n → list_at new n ≡ None
      died None h n e = absurd (none-some n e)
      died (Some m) h n e = ap (list_at new) (sym (same_Some m n e)) ∙ h

  -- 2. the shelf

  AreOwned-by : (pool : Pool T) (now past : List (Option ℕ)) (hand : Option ℕ) (caller : Option (Option ℕ)) → AreOwned pool now past hand caller → Owns pool (held now past hand caller)
  AreOwned-by pool now past hand caller owned = record { live = owned.live; once = owned.once; all = owned.all }

  owned_by : (pool : Pool T) (now past : List (Option ℕ)) (hand : Option ℕ) (caller : Option (Option ℕ)) → Owns pool (held now past hand caller) → AreOwned pool now past hand caller
  owned_by pool now past hand caller owns = record { live = owns.live; once = owns.once; all = owns.all }

  -- each list that is held shows as it did
  pub record Shows (old new : Pool T) (now past : List (Option ℕ)) (hand : Option ℕ) : Type 0 where
    pub rows : (k : ℕ) → run_list new (run_at now k) ≡ run_list old (run_at now k)
    pub after : map (run_list new) past ≡ map (run_list old) past
    pub here : run_list new hand ≡ run_list old hand

  map_same : (old new : Pool T) (runs : List (Option ℕ)) → ((k : ℕ) (run : Option ℕ) → slice_get runs k ≡ Some run → list_of new run ≡ list_of old run) → map (run_list new) runs ≡ map (run_list old) runs
  map_same old new [] same = refl
  map_same old new (r ∷ runs) same =
      ap (λ (o : Option (List T)). unwrap_or o [] ∷ map (run_list new) runs) (same 0 r refl)
      ∙ ap (λ (ls : List (List T)). run_list old r ∷ ls) (map_same old new runs (λ k run e. same (suc k) run e))

  shows : (old new : Pool T) (now past : List (Option ℕ)) (hand : Option ℕ) (caller : Option (Option ℕ)) → Keeps old new (held now past hand caller) → Shows old new now past hand
  shows old new now past hand caller keeps = record {
    rows = λ k. ap (λ (o : Option (List T)). unwrap_or o []) (keeps.same (Number k) (run_at now k) refl);
    after = map_same old new past (λ k run e. keeps.same (Past k) run e);
    here = ap (λ (o : Option (List T)). unwrap_or o []) (keeps.same Hand hand refl);
  }

  -- a list was placed for the caller
  pub AreOwned-placed : (old new : Pool T) (now past : List (Option ℕ)) (hand run : Option ℕ) (list : List T) → IsFresh old run list → list_of new run ≡ Some list → OthersStay old new run → AreOwned old now past hand None → AreOwned new now past hand (Some run)
  AreOwned-placed old new now past hand run list fresh is stay owned =
      owned_by new now past hand (Some run) (placed old new (held now past hand None) (held now past hand (Some run)) run list refl refl (same_but_caller now past hand None (Some run)) fresh is stay (AreOwned-by old now past hand None owned))

  pub Shows-placed : (old new : Pool T) (now past : List (Option ℕ)) (hand run : Option ℕ) (list : List T) → IsFresh old run list → OthersStay old new run → AreOwned old now past hand None → Shows old new now past hand
  Shows-placed old new now past hand run list fresh stay owned =
      shows old new now past hand None (placed_keeps old new (held now past hand None) run list fresh stay (AreOwned-by old now past hand None owned))

  -- the caller's run was freed
  pub AreOwned-freed : (old new : Pool T) (now past : List (Option ℕ)) (hand run : Option ℕ) → IfSome run (λ n. list_at new n ≡ None) → OthersStay old new run → AreOwned old now past hand (Some run) → AreOwned new now past hand None
  AreOwned-freed old new now past hand run gone stay owned =
      owned_by new now past hand None (freed old new (held now past hand (Some run)) (held now past hand None) run refl refl (same_but_caller now past hand (Some run) None) gone stay (AreOwned-by old now past hand (Some run) owned))

  pub Shows-freed : (old new : Pool T) (now past : List (Option ℕ)) (hand run : Option ℕ) → OthersStay old new run → AreOwned old now past hand (Some run) → Shows old new now past hand
  Shows-freed old new now past hand run stay owned =
      shows old new now past hand None (freed_keeps old new (held now past hand (Some run)) (held now past hand None) run refl refl (same_but_caller now past hand (Some run) None) stay (AreOwned-by old now past hand (Some run) owned))

  handed : (pool : Pool T) (now past now' past' : List (Option ℕ)) (hand hand' : Option ℕ) (caller caller' : Option (Option ℕ)) (a b : Holder) → Trades (held now past hand caller) (held now' past' hand' caller') a b → AreOwned pool now past hand caller → AreOwned pool now' past' hand' caller'
  handed pool now past now' past' hand hand' caller caller' a b swaps owned =
      owned_by pool now' past' hand' caller' (swapped pool (held now past hand caller) (held now' past' hand' caller') a b swaps (AreOwned-by pool now past hand caller owned))

  -- the caller's run and that of a number change places
  AreOwned-number : (pool : Pool T) (now now' past : List (Option ℕ)) (hand run before : Option ℕ) (k : ℕ) → run_at now k ≡ before → run_at now' k ≡ run → ((j : ℕ) → j ≢ k → run_at now' j ≡ run_at now j) → AreOwned pool now past hand (Some run) → AreOwned pool now' past hand (Some before)
  AreOwned-number pool now now' past hand run before k was is rest owned = handed pool now past now' past hand hand (Some run) (Some before) Caller (Number k) (record {
    first = ap Some (sym was);
    second = ap Some is;
    others = go;
  }) owned
    where
      go : (h : Holder) → h ≢ Caller → h ≢ Number k → held now' past hand (Some before) h ≡ held now past hand (Some run) h
      go Caller ne nk = absurd (ne refl)
      go Hand ne nk = refl
      go (Number j) ne nk = ap Some (rest j (λ e. nk (ap Number e)))
      go (Past j) ne nk = refl

  -- a caller that holds the empty list's run may as well hold none
  holds_none : (pool : Pool T) (now past : List (Option ℕ)) (hand : Option ℕ) → AreOwned pool now past hand None → AreOwned pool now past hand (Some None)
  holds_none pool now past hand owned = record {
    live = λ h run e. elim (same_holder h Caller) [
      | inl c ↦ subst (IsLiveRun pool) (same_Some None run (ap (held now past hand (Some None)) (sym c) ∙ e)) refl
      | inr ne ↦ owned.live h run (same_but_caller now past hand (Some None) None h ne ∙ e)
    ];
    once = λ h i n e f. owned.once h i n (other h n e) (other i n f);
    all = λ n live. let h = owned.all n live in (h.0, sym (same_but_caller now past hand (Some None) None h.0 (λ c. none-some (Some n) (ap (held now past hand None) (sym c) ∙ h.1))) ∙ h.1);
  }
    where
      other : (h : Holder) (n : ℕ) → held now past hand (Some None) h ≡ Some (Some n) → held now past hand None h ≡ Some (Some n)
      other h n e = same_but_caller now past hand (Some None) None h (λ c. none-some n (same_Some None (Some n) (ap (held now past hand (Some None)) (sym c) ∙ e))) ∙ e

  pub none_held : (pool : Pool T) (now past : List (Option ℕ)) (hand : Option ℕ) → AreOwned pool now past hand (Some None) → AreOwned pool now past hand None
  none_held pool now past hand owned = record {
    live = λ h run e. owned.live h run (sym (same_but_caller now past hand (Some None) None h (λ c. none-some run (ap (held now past hand None) (sym c) ∙ e))) ∙ e);
    once = λ h i n e f. owned.once h i n (other h n e) (other i n f);
    all = λ n live. let h = owned.all n live in (h.0, same_but_caller now past hand (Some None) None h.0 (λ c. none-some n (same_Some None (Some n) (ap (held now past hand (Some None)) (sym c) ∙ h.1))) ∙ h.1);
  }
    where
      other : (h : Holder) (n : ℕ) → held now past hand None h ≡ Some (Some n) → held now past hand (Some None) h ≡ Some (Some n)
      other h n e = sym (same_but_caller now past hand (Some None) None h (λ c. none-some (Some n) (ap (held now past hand None) (sym c) ∙ e))) ∙ e

  pub AreOwned-hand : (pool : Pool T) (now past : List (Option ℕ)) (hand run : Option ℕ) → AreOwned pool now past hand (Some run) → AreOwned pool now past run (Some hand)
  AreOwned-hand pool now past hand run owned = handed pool now past now past hand run (Some run) (Some hand) Caller Hand (record {
    first = refl;
    second = refl;
    others = go;
  }) owned
    where
      go : (h : Holder) → h ≢ Caller → h ≢ Hand → held now past run (Some hand) h ≡ held now past hand (Some run) h
      go Caller ne nk = absurd (ne refl)
      go Hand ne nk = absurd (nk refl)
      go (Number j) ne nk = refl
      go (Past j) ne nk = refl

  pub AreOwned-push : (pool : Pool T) (now past : List (Option ℕ)) (hand run : Option ℕ) → AreOwned pool now past hand (Some run) → AreOwned pool now (past ++ run ∷ []) hand None
  AreOwned-push pool now past hand run owned = handed pool now past now (past ++ run ∷ []) hand hand (Some run) None Caller (Past (length past)) (record {
    first = sym (past_end past);
    second = slice_get-push_new past run;
    others = go;
  }) owned
    where
      go : (h : Holder) → h ≢ Caller → h ≢ Past (length past) → held now (past ++ run ∷ []) hand None h ≡ held now past hand (Some run) h
      go Caller ne nk = absurd (ne refl)
      go Hand ne nk = refl
      go (Number j) ne nk = refl
      go (Past j) ne nk = slice_get-push_other past j run (λ e. nk (ap Past e))

  pub AreOwned-pop : (pool : Pool T) (now past : List (Option ℕ)) (hand run : Option ℕ) → AreOwned pool now (past ++ run ∷ []) hand None → AreOwned pool now past hand (Some run)
  AreOwned-pop pool now past hand run owned = handed pool now (past ++ run ∷ []) now past hand hand None (Some run) Caller (Past (length past)) (record {
    first = sym (slice_get-push_new past run);
    second = past_end past;
    others = go;
  }) owned
    where
      go : (h : Holder) → h ≢ Caller → h ≢ Past (length past) → held now past hand (Some run) h ≡ held now (past ++ run ∷ []) hand None h
      go Caller ne nk = absurd (ne refl)
      go Hand ne nk = refl
      go (Number j) ne nk = refl
      go (Past j) ne nk = sym (slice_get-push_other past j run (λ e. nk (ap Past e)))

  -- where the slots are the same, so are the lists
  lists_same : (old new : Pool T) → new.slots ≡ old.slots → (run : Option ℕ) → list_of new run ≡ list_of old run
  lists_same old new same None = refl
  lists_same old new same (Some n) = ap (λ (slots : List (Slot T)). option_and_then (λ slot. slot.list) (slice_get slots n)) same

  pub AreOwned-slots : (old new : Pool T) (now past : List (Option ℕ)) (hand : Option ℕ) → new.slots ≡ old.slots → AreOwned old now past hand None → AreOwned new now past hand None
  AreOwned-slots old new now past hand same owned = record {
    live = λ h run e. subst IsSome (sym (lists_same old new same run)) (owned.live h run e);
    once = owned.once;
    all = λ n live. owned.all n (subst IsSome (lists_same old new same (Some n)) live);
  }

  pub Shows-slots : (old new : Pool T) (now past : List (Option ℕ)) (hand : Option ℕ) → new.slots ≡ old.slots → Shows old new now past hand
  Shows-slots old new now past hand same = record {
    rows = λ k. ap (λ (o : Option (List T)). unwrap_or o []) (lists_same old new same (run_at now k));
    after = map_same old new past (λ k run e. lists_same old new same run);
    here = ap (λ (o : Option (List T)). unwrap_or o []) (lists_same old new same hand);
  }

  pub AreOwned-new : (run : Option ℕ) (pool : Pool T) → IsFresh {T = T} empty_pool run [] → OthersStay empty_pool pool run → AreOwned pool [] [] run None
  AreOwned-new None pool fresh stay = record {
    live = λ h r e. go h r e;
    once = λ h i n e f. absurd (only h n e);
    all = λ n live. absurd (no_list (list_at pool n) (stay (Some n) (λ e. none-some n (sym e))) live);
  }
    where
      go : (h : Holder) (r : Option ℕ) → held [] [] None None h ≡ Some r → IsLiveRun pool r
      go Caller r e = absurd (none-some r e)
      go Hand r e = subst (IsLiveRun pool) (same_Some None r e) refl
      go (Number k) r e = subst (IsLiveRun pool) (same_Some None r e) refl
      go (Past k) r e = absurd (none-some r e)

      only : (h : Holder) (n : ℕ) → held [] [] None None h ≡ Some (Some n) → ⊥
      only Caller n e = none-some (Some n) e
      only Hand n e = none-some n (same_Some None (Some n) e)
      only (Number k) n e = none-some n (same_Some None (Some n) e)
      only (Past k) n e = none-some (Some n) e
  AreOwned-new (Some n) pool fresh stay = absurd (fresh.0 refl)

  -- a run was given to a number, if a node is there, and the one before came back
  pub AreOwned-swapped : {X : Type 0} (there : Option X) (pool : Pool T) (now now' past : List (Option ℕ)) (hand run before : Option ℕ) (k : ℕ) → before ≡ run_before there (run_at now k) run → run_at now' k ≡ run_after there run → now' ≡ change_run there now k run → AreOwned pool now past hand (Some run) → AreOwned pool now' past hand (Some before)
  AreOwned-swapped None pool now now' past hand run before k was is changed owned = subst (λ r. AreOwned pool now' past hand (Some r)) (sym was) (subst (λ n. AreOwned pool n past hand (Some run)) (sym changed) owned)
  AreOwned-swapped (Some x) pool now now' past hand run before k was is changed owned = AreOwned-number pool now now' past hand run before k (sym was) is (λ j ne. others_swapped (Some x) now now' run k j changed ne) owned

  -- the run at a number was taken out
  pub AreOwned-taken : (pool : Pool T) (now now' past : List (Option ℕ)) (hand run : Option ℕ) (k : ℕ) → run ≡ run_at now k → now' ≡ set now k None → AreOwned pool now past hand None → AreOwned pool now' past hand (Some run)
  AreOwned-taken pool now now' past hand run k was changed owned =
      AreOwned-number pool now now' past hand None run k (sym was) (ap (λ n. run_at n k) changed ∙ get_cleared now k None) (λ j ne. ap (λ n. run_at n j) changed ∙ get_set_other now k j None None ne) (holds_none pool now past hand owned)

  -- a run was put at a number where none was
  pub AreOwned-put : (pool : Pool T) (now now' past : List (Option ℕ)) (hand run : Option ℕ) (k : ℕ) → run_at now k ≡ None → run_at now' k ≡ run → ((j : ℕ) → j ≢ k → run_at now' j ≡ run_at now j) → AreOwned pool now past hand (Some run) → AreOwned pool now' past hand None
  AreOwned-put pool now now' past hand run k was is rest owned = none_held pool now' past hand (AreOwned-number pool now now' past hand run None k was is rest owned)
