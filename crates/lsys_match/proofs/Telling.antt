-- What is read and chosen for a question.
use Rattle.std.proofs.Common.{◌≡◌, ℕ, ℤ, ◌+◌, ◌≤◌, zero, suc, List, [], ◌∷◌, length, length-append, min, slice_get, Option, Some, None, Result, Ok, Err, refl, ap, sym, ◌∙◌, arith}
use Rattle.std.specs.Prelude.{IsErr, IsErrAnd}
use Rattle.std.proofs.lemmas.List.{length-map, length-take}
use Rattle.std.proofs.lemmas.Option.{same_Some}
use Rattle.lsys_spec.specs.Bodies.{Body}
use Rattle.lsys_spec.specs.Levels.{ModuleValue}
use Rattle.lsys_spec.specs.Walks.{Told}
use Rattle.lsys_spec.specs.Choice as choice
use Rattle.lsys_spec.specs.Choice.{as_fault}
use Rattle.lsys_spec.specs.Meaning.{filled, filled_at, most_entries, successor_by}
use Rattle.lsys_module.specs.Views.{string_of}
use Rattle.lsys_module.specs.declared.symbol.Symbol.{Symbol}
use Rattle.lsys_rewrite.specs.Filled.{IsAdded}
use Rattle.lsys_rewrite.specs.declared.refusal.FillRefusal.{FillRefusal}
use Rattle.lsys_rewrite.specs.declared.refusal.FillRefusal.TheVariants as fill
use Rattle.lsys_walks.specs.Noted.{Noted, entry_by}
use Rattle.lsys_match.specs.declared.refusal.AskRefusal.{AskRefusal}
use Rattle.lsys_match.specs.declared.refusal.AskRefusal.TheVariants.{Fault, Memory}
use Rattle.lsys_match.specs.Choices.{IsTold, IsFrontOf}
use Rattle.lsys_match.specs.declared.told.Told.TheVariants.{Other}
use Rattle.lsys_match.specs.declared.told.Reply.{Reply}
use Rattle.lsys_match.specs.declared.posed.Posed.{Posed as CodePosed}
use Rattle.lsys_match.specs.Asking.{posed_by}
use Rattle.lsys_match.specs.Constants.{symbols_by}
use Rattle.lsys_match.specs.Refusals.{refusal_by, fill_refusal_by}
use Rattle.lsys_match.specs.Tries.{entries_by}
use Rattle.lsys_match.specs.Answered.{CountsEntries, place_chosen, trace_told}
use Rattle.lsys_match.specs.Telling.{IsSuccessor, IsSuccessorKept, IsSuccessorOf, IsTelling, choice_at}

-- 1. successors

pub filled_there : (bs : List Body) (g : ℕ) (values : List ℤ) (b : Body) → Some b ≡ slice_get bs g → filled_at bs g values ≡ as_fault (filled b.successor values)
filled_there [] g values b h = cc h
filled_there (c ∷ bs) zero values b h = ap (λ (b : Body). as_fault (filled b.successor values)) (sym (same_Some b c h))
filled_there (c ∷ bs) (suc g) values b h = filled_there bs g values b h

pub filled_nowhere : (bs : List Body) (g : ℕ) (values : List ℤ) → slice_get bs g ≡ None → filled_at bs g values ≡ Ok []
filled_nowhere [] g values h = refl
filled_nowhere (c ∷ bs) zero values h = cc h
filled_nowhere (c ∷ bs) (suc g) values h = filled_nowhere bs g values h

module _ (bs : List Body) (m : ModuleValue) (g : ℕ) (values : List ℤ) (b : Body) (at : Some b ≡ slice_get bs g) (new : List Symbol) where
  pub successor_filled : IsAdded (filled b.successor values) [] new (Ok tt) → IsSuccessor bs m (Some g) values (Ok new)
  successor_filled h =
      let e : new ≡ h.0 = h.1 in
      filled_there bs g values b at ∙ ap as_fault h.2 ∙ ap (λ ys. Ok (string_of ys)) (sym e)

  pub successor_fails : (e : FillRefusal) (r : AskRefusal) → IsAdded (filled b.successor values) [] new (Err e) → refusal_by r ≡ fill_refusal_by e → IsSuccessor bs m (Some g) values (Err r)
  successor_fails e Memory h k = tt
  successor_fails fill.Memory (Fault k) h i = cc i
  successor_fails (fill.Arith e) (Fault k) h i = filled_there bs g values b at ∙ ap as_fault h.1 ∙ ap (λ k. Err k) (sym (same_Some _ _ i))

-- 2. how many entries were read

pub read_all : (t : Told choice.Choice) (naming : ℕ → List ℕ) (read : List Noted) (a : choice.Choice) → IsTold t (entries_by naming read) a → length (trace_told t) ≡ length read
read_all t naming read a h = ap length (sym h.read_is) ∙ length-map read (entry_by naming)

pub read_front : (t : Told choice.Choice) (naming : ℕ → List ℕ) (read : List Noted) → IsFrontOf t.entries (entries_by naming read) → length read ≤ most_entries → length read ≤ length (trace_told t)
read_front t naming read f l =
    let e : length t.entries ≡ length (entries_by naming read) + length f.0 = ap length f.1 ∙ length-append (entries_by naming read) f.0 in
    let k : length (trace_told t) ≡ min (most_entries + 1) (length t.entries) = length-take (most_entries + 1) t.entries in
    omega (arith, e, k, l, length-map read (entry_by naming))

pub counts_some : (T : Type 0) (n old new k : ℕ) → new ≡ old + k → k ≤ n → CountsEntries {T = T} n old new (Err Memory)
counts_some T n old new k e l = (omega (arith, e), omega (arith, e, l))

pub counts_all : (T : Type 0) (n old new : ℕ) (e : AskRefusal) → new ≡ old + n → CountsEntries {T = T} n old new (Err e)
counts_all T n old new (Fault k) h = h
counts_all T n old new Memory h = (omega (arith, h), omega (arith, h))

-- 3. errors that are passed on

pub by_err : {T E : Type 0} (r : Result T E) (P : E → Type 0) (G : Result T E → Type 0) → IsErr r × IsErrAnd r P → ((e : E) → P e → G (Err e)) → G r
by_err (Ok a) P G h f = absurd h.1
by_err (Err e) P G h f = f e h.1

-- one that is the same
pub err_is : {T E : Type 0} (r : Result T E) (e : E) → IsErr r × IsErrAnd r (λ y. y ≡ e) → r ≡ Err e
err_is (Ok a) e h = absurd h.1
err_is (Err y) e h = ap (λ y. Err y) h.1

-- 4. the whole

place_at : (chosen : Option ℕ) (values : List ℤ) → place_chosen (choice_at chosen values) ≡ chosen
place_at None values = refl
place_at (Some g) values = refl

module _ (told : (ℕ → List ℕ) → Told choice.Choice) (q : CodePosed) (old : Option (List Noted)) (chosen : Option ℕ) (values : List ℤ) (answer : (naming : ℕ → List ℕ) → (told naming).answer ≡ choice_at chosen values) where
  pub telling_fails : (r : AskRefusal) → IsSuccessorOf q chosen values (Err r) → IsTelling told q old (Err r)
  telling_fails Memory h = tt
  telling_fails (Fault k) h = λ naming. ap (successor_by (posed_by q).bodies (posed_by q).own) (answer naming) ∙ h

  pub telling_other : (read : List Noted) (r : Reply) → ((naming : ℕ → List ℕ) → entries_by naming read ≡ trace_told (told naming)) → (old ≡ Some read → ⊥) → r.trace ≡ read → r.chosen ≡ chosen
      → IsSuccessorKept q chosen values (Ok r.symbols) → IsTelling told q old (Ok (Other r))
  telling_other read r h n e i s = (
    λ k. n (k ∙ ap (λ x. Some x) e),
    record {
      trace = λ naming. ap (entries_by naming) e ∙ h naming;
      chosen = λ naming. ap place_chosen (answer naming) ∙ place_at chosen values ∙ sym i;
      successor = λ naming. ap (successor_by (posed_by q).bodies (posed_by q).own) (answer naming) ∙ s ∙ ap (λ g. Ok (string_of (symbols_by q.group g r.symbols))) (sym i);
    },
  )
