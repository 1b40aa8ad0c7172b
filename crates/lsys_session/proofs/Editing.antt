-- An edit: its reply, its counters, and what the session keeps.
use Rattle.std.proofs.Common.{◌≡◌, ◌+◌, ◌*◌, ℕ, Bool, true, false, ◌++◌, ◌∷◌, decimal, Option, Result, Ok, Err, List, codes, refl, sym, ap, ◌∙◌, subst}
use Rattle.std.specs.Prelude.{IfOk}
use Rattle.lsys_io.specs.declared.Failed.{Failed}
use Rattle.lsys_spec.specs.Systems.{System}
use Rattle.lsys_spec.specs.Levels as L
use Rattle.lsys_spec.specs.Meaning.{meaning, FaultAt, OverLimit}
use Rattle.lsys_spec.specs.Questions.{Question, questions, need, least_visits}
use Rattle.lsys_spec.specs.Refusals.{Reply, said, refused, refused_memory, line_feed, derivation_text}
use Rattle.lsys_spec.specs.Replies.{count_line, edited, levels_of, or_text, questions_of}
use Rattle.lsys_rewrite.specs.Faults.{fault_of}
use Rattle.lsys_rewrite.specs.declared.count.EditCount.{EditCount}
use Rattle.lsys_rewrite.specs.declared.refusal.DeriveRefusal.{DeriveRefusal}
use Rattle.lsys_rewrite.specs.declared.refusal.DeriveRefusal.TheVariants.{Fault, Limit, Memory}
use Rattle.lsys_level.specs.Spots.{Spotted}
use Rattle.lsys_match.specs.Derivations.{AreMeant, IsCount, IsDerived, IsOutcome, Rises, most_read}
use Rattle.lsys_session.specs.Requests.{reply_to, count_text, derivation_line}
use Rattle.lsys_session.specs.Sessions.{WasSaid, derivation_outcome}
use Rattle.lsys_session.specs.Answers.{Counters, Needed, Few, WasCounted}
use Rattle.lsys_session.specs.Given.{given_reply, request_outcome, outcome_by_reply, WasGiven}
use Rattle.lsys_session.specs.declared.outcome.Outcome.{Outcome}
use Rattle.lsys_session.specs.declared.outcome.Outcome.TheVariants as outcomes
use Rattle.lsys_session.specs.declared.request.Request.{Request}
use Rattle.lsys_session.specs.declared.request.Request.TheVariants.{Edit}

-- 1. replies

pub if_ok : {P : Type 0} (result : Result Outcome Failed) → P → IfOk result (λ o. P)
if_ok (Ok o) p = p
if_ok (Err f) p = tt

-- the reply that was put is the one to be given
pub gives_so : {K : Type 0} {written : K → Option (List ℕ)} {faults : K → ℕ} {a b : K} {held : List ℕ} {limit : ℕ} {old new : System} {r : Request} {result : Result Outcome Failed} (lacks : Bool) (reply : Reply)
    → given_reply limit old r lacks ≡ reply → WasSaid written faults a b held reply.text (outcome_by_reply (request_outcome r) reply) result → new ≡ reply.next → WasGiven written faults a b held limit old new r result
gives_so {written = written} {faults = faults} {a = a} {b = b} {held = held} {new = new} {r = r} {result = result} lacks reply e said n = record {
  lacks = lacks;
  says = subst (λ (q : Reply). WasSaid written faults a b held q.text (outcome_by_reply (request_outcome r) q) result) (sym e) said;
  next = subst (λ (q : Reply). IfOk result (λ o. new ≡ q.next)) (sym e) (if_ok result n);
}

pub meant_levels : (limit : ℕ) (s : System) (xs : List (List L.LevelSymbol)) → meaning s limit ≡ Ok xs → levels_of limit s ≡ Ok xs
meant_levels limit s xs h = ap (or_text derivation_text) h

accepted_reply : (limit : ℕ) (s next : System) (xs ys : List (List L.LevelSymbol)) → meaning s limit ≡ Ok xs → meaning next limit ≡ Ok ys
    → reply_to limit s (Edit next) ≡ said next (count_line (questions s xs) (questions next ys))
accepted_reply limit s next xs ys h k =
    ap (edited limit s next) (meant_levels limit next ys k) ∙ ap (λ o. said next (count_line (questions_of s o) (questions next ys))) (meant_levels limit s xs h)

counted_line : (old new : List Question) (count : EditCount) → IsCount old new count → count_text count ≡ count_line old new
counted_line old new count c =
    ap (λ n. codes "ok " ++ (decimal n ++ 47 ∷ (decimal count.questions ++ line_feed))) c.asked
    ∙ ap (λ n. codes "ok " ++ (decimal (need old new) ++ 47 ∷ (decimal n ++ line_feed))) c.questions

module _ {K : Type 0} (written : K → Option (List ℕ)) (faults : K → ℕ) (a b : K) (held : List ℕ) (limit : ℕ) (s new next : System) (result : Result Outcome Failed) where
  pub edit_accepted : (xs : List (List L.LevelSymbol)) (levels : List (List Spotted)) (count : EditCount) → meaning s limit ≡ Ok xs → IsDerived next limit levels
      → ((x y : List (List L.LevelSymbol)) → AreMeant s next limit x y → IsCount (questions s x) (questions next y) count) → new ≡ next
      → WasSaid written faults a b held (count_text count) outcomes.Accepted result → WasGiven written faults a b held limit s new (Edit next) result
  edit_accepted xs levels count h d counts n says =
      let ys = d.meant in
      let line = counted_line (questions s xs) (questions next ys) count (counts xs ys (record { before = h; after = d.is })) in
      gives_so false (said next (count_line (questions s xs) (questions next ys))) (accepted_reply limit s next xs ys h d.is) (subst (λ text. WasSaid written faults a b held text outcomes.Accepted result) line says) n

  refused_for : (why : List ℕ) → levels_of limit next ≡ Err why → new ≡ s → WasSaid written faults a b held (codes "refused " ++ why ++ line_feed) outcomes.Refused result → WasGiven written faults a b held limit s new (Edit next) result
  refused_for why e n says = gives_so false (refused s why) (ap (edited limit s next) e) says n

  pub edit_refused : (e : DeriveRefusal) (levels : List (List Spotted)) → IsOutcome next limit levels (Err e) → new ≡ s → WasSaid written faults a b held (derivation_line e) (derivation_outcome e) result
      → WasGiven written faults a b held limit s new (Edit next) result
  edit_refused (Fault kind t n) levels o same says = refused_for (derivation_text (FaultAt (fault_of kind) t n)) (ap (or_text derivation_text) o) same says
  edit_refused (Limit t) levels o same says = refused_for (derivation_text (OverLimit t)) (ap (or_text derivation_text) o) same says
  edit_refused Memory levels o same says = gives_so true (refused_memory s) refl says same

-- 2. counters

abbrev IsRefusal : Outcome → Type 0
IsRefusal outcomes.Refused = Unit {0}
IsRefusal outcomes.Memory = Unit {0}
IsRefusal o = ⊥

derivation_refuses : (e : DeriveRefusal) → IsRefusal (derivation_outcome e)
derivation_refuses (Fault kind t n) = tt
derivation_refuses (Limit t) = tt
derivation_refuses Memory = tt

module _ (visits : System → System → List (List L.LevelSymbol) → List (List L.LevelSymbol) → ℕ) (limit : ℕ) (s new next : System) (before after : Counters) where
  pub edit_counted : (xs : List (List L.LevelSymbol)) (levels : List (List Spotted)) (count : EditCount) (result : Result Outcome Failed) → meaning s limit ≡ Ok xs → IsDerived next limit levels
      → ((x y : List (List L.LevelSymbol)) → AreMeant s next limit x y → IsCount (questions s x) (questions next y) count)
      → after.asked ≡ before.asked + count.asked
      → ((x y : List (List L.LevelSymbol)) → AreMeant s next limit x y → Rises (least_visits (questions s x) (questions next y)) (visits s next x y) before.visited after.visited)
      → new ≡ next → IfOk result (λ o. o ≡ outcomes.Accepted) → WasCounted visits limit true s new before after result
  edit_counted xs levels count (Err f) h d counts asked read n o = tt
  edit_counted xs levels count (Ok outcome) h d counts asked read n o =
      let ys = d.meant in
      let meant : AreMeant s next limit xs ys = record { before = h; after = d.is } in
      let needed : Needed visits limit s next before after = record {
        levels = xs;
        next_levels = ys;
        meant = meant;
        asked = asked ∙ ap (λ n. before.asked + n) (counts xs ys meant).asked;
        visited = read xs ys meant;
      } in
      subst (λ q. WasCounted visits limit true s new before after (Ok q)) (sym o) (subst (λ t. Needed visits limit s t before after) (sym n) needed)

  few_counted : (outcome : Outcome) → IsRefusal outcome → Few limit before after → WasCounted visits limit true s new before after (Ok outcome)
  few_counted outcomes.Refused i f = f
  few_counted outcomes.Memory i f = f
  few_counted outcomes.Skipped i f = absurd i
  few_counted outcomes.Accepted i f = absurd i
  few_counted outcomes.Printed i f = absurd i
  few_counted outcomes.Quit i f = absurd i

  pub edit_few : (e : DeriveRefusal) (result : Result Outcome Failed) → Rises 0 limit before.asked after.asked → Rises 0 (most_read * limit) before.visited after.visited
      → IfOk result (λ o. o ≡ derivation_outcome e) → WasCounted visits limit true s new before after result
  edit_few e (Err f) asked read o = tt
  edit_few e (Ok outcome) asked read o = few_counted outcome (subst IsRefusal (sym o) (derivation_refuses e)) (record { asked = asked; visited = read })
