-- Queries: a level as a line, and pictures.
use Rattle.std.proofs.Common.{◌≡◌, ◌≤◌, ◌<◌, ℕ, Bool, true, false, ◌++◌, Option, Some, None, Result, Ok, Err, List, [], length, map, codes, refl, sym, ap, ◌∙◌, subst, arith}
use Rattle.std.specs.Prelude.{IfOk, IsErr, IsOk, slice_index_or}
use Rattle.lsys_io.specs.declared.Failed.{Failed}
use Rattle.lsys_io.specs.Writes.{WasPut}
use Rattle.lsys_syntax.specs.Strings.{string_text}
use Rattle.lsys_spec.specs.Systems.{System}
use Rattle.lsys_spec.specs.Lattices.{Lattice}
use Rattle.lsys_spec.specs.Levels as L
use Rattle.lsys_spec.specs.Levels.{plain}
use Rattle.lsys_spec.specs.Meaning.{meaning}
use Rattle.lsys_spec.specs.Meaning as M
use Rattle.lsys_spec.specs.Images.{image}
use Rattle.lsys_spec.specs.Pictures.{Segment, PictureRefusal, NoImage, Far, picture}
use Rattle.lsys_spec.specs.PictureTexts.{segments_text, svg_text}
use Rattle.lsys_spec.specs.Refusals.{Reply, said, refused, refused_memory, line_feed}
use Rattle.lsys_spec.specs.Replies.{shown, or_text, picture_of, picture_refusal_text, string_line, level_at}
use Rattle.lsys_spec.specs.Output.{memory_or}
use Rattle.lsys_level.specs.Spots as spots
use Rattle.lsys_level.specs.Spots.{Spotted}
use Rattle.lsys_hom.specs.Refusals.{refusal_of}
use Rattle.lsys_hom.specs.declared.refusal.ImageRefusal.{ImageRefusal}
use Rattle.lsys_match.specs.Derivations.{IsDerived}
use Rattle.lsys_out.specs.Drawings.{last_image, last_symbols, IsRefusal}
use Rattle.lsys_out.proofs.Whole.{has_image}
use Rattle.lsys_out.specs.Nesting.{HasLast}
use Rattle.lsys_out.specs.Shown.{on_lattice, Shows, RefusesPicture}
use Rattle.lsys_out.specs.declared.refusal.PictureRefusal.{PictureRefusal as Refusal}
use Rattle.lsys_out.specs.declared.refusal.PictureRefusal.TheVariants as refusals
use Rattle.lsys_session.specs.Requests.{HasLevel, reply_to}
use Rattle.lsys_session.specs.Sessions.{WasSaid}
use Rattle.lsys_session.specs.Given.{HasImage, IsWellUnder, IsLevelWithin, level_line, level_number, outcome_by_reply, WasGiven, WasPrinted, picture_text, picture_reply, picture_line, picture_request}
use Rattle.lsys_session.specs.declared.outcome.Outcome.{Outcome}
use Rattle.lsys_session.specs.declared.outcome.Outcome.TheVariants as outcomes
use Rattle.lsys_session.specs.declared.pictures.Picture.{Picture}
use Rattle.lsys_session.specs.declared.pictures.Picture.TheVariants as pictures
use Rattle.lsys_session.specs.declared.request.Request.TheVariants.{String}
use Rattle.lsys_session.proofs.Whole.{puts_out, says_failed}
use Rattle.lsys_session.proofs.Levels as levelled
use Rattle.lsys_session.proofs.Editing.{gives_so, meant_levels}

shown_stays : {A : Type 0} (s : System) (text : A → List ℕ) (a : Result A (List ℕ)) → s ≡ (shown s text a).next
shown_stays s text (Ok a) = refl
shown_stays s text (Err why) = refl

-- 1. levels

pub within_by : (s : System) (t : Option ℕ) → HasLevel s (String t) → IsLevelWithin s.depth t
within_by s None h = tt
within_by s (Some t) h = h

pub number_within : (depth : ℕ) (t : Option ℕ) → IsLevelWithin depth t → level_number depth t ≤ depth
number_within depth None h = omega arith
number_within depth (Some t) h = h

module _ (limit : ℕ) (s : System) (levels : List (List Spotted)) (d : IsDerived s limit levels) where
  pub level_there : (t : ℕ) → t ≤ s.depth → t < length levels
  level_there t b = levelled.number_below s limit d.meant levels d.is d.view.depth d.view.tags d.view.strings t b

  numbered_line : (t : Option ℕ) → level_at t d.meant ≡ slice_index_or d.meant (level_number s.depth t) []
  numbered_line None = levelled.last_level_is s limit d.meant d.is
  numbered_line (Some t) = levelled.level_is s limit d.meant t d.is

  seen_line : (t : Option ℕ) → level_line (spots.spots_at levels (level_number s.depth t)) ≡ string_line t d.meant
  seen_line t =
      ap (λ x. string_text x ++ line_feed) (d.view.strings.string (level_number s.depth t) ∙ ap (map plain) (sym (numbered_line t)))

  string_reply : (t : Option ℕ) → reply_to limit s (String t) ≡ said s (string_line t d.meant)
  string_reply t = ap (shown s (string_line t)) (meant_levels limit s d.meant d.is)

  pub level_given : {K : Type 0} (written : K → Option (List ℕ)) (faults : K → ℕ) (a b : K) (held : List ℕ) (t : Option ℕ) (result : Result Outcome Failed)
      → WasSaid written faults a b held (level_line (spots.spots_at levels (level_number s.depth t))) outcomes.Printed result
      → WasGiven written faults a b held limit s s (String t) result
  level_given written faults a b held t result says =
      gives_so false (said s (string_line t d.meant)) (string_reply t) (subst (λ text. WasSaid written faults a b held text outcomes.Printed result) (seen_line t) says) refl

  -- 2. pictures

  pub has_last : IsWellUnder limit s → HasLast s levels
  has_last k = record {
    spelled = k.well.1;
    level = level_there s.depth (omega arith);
    few = levelled.last_few s limit d.meant levels d.is d.view.depth d.view.tags d.view.strings k.limited;
    balance = levelled.last_balanced s limit d.meant levels d.is d.view.depth d.view.tags d.view.strings k.well.1;
  }

  abbrev naming : ℕ → List ℕ
  naming = (levelled.names s limit d.meant levels d.is d.view.depth d.view.tags d.view.strings).naming

  last_named : last_symbols naming s levels ≡ M.last_level d.meant
  last_named =
      (levelled.names s limit d.meant levels d.is d.view.depth d.view.tags d.view.strings).level s.depth ∙ sym (levelled.last_level_is s limit d.meant d.is)

  -- what is true of the last level by every naming is true of the level that is meant
  pub last_meant : (P : List L.LevelSymbol → Type 0) → ((naming : ℕ → List ℕ) → P (last_symbols naming s levels)) → P (M.last_level d.meant)
  last_meant P h = subst P last_named (h naming)

  pub image_there : (last_image s levels).refusal ≡ None → HasImage limit s
  image_there none = λ x h.
      let same : d.meant ≡ x = (let e : ◌≡◌ {A = Result (List (List L.LevelSymbol)) M.LevelRefusal} (Ok d.meant) (Ok x) = sym d.is ∙ h in cc) in
      subst (λ (xs : List (List L.LevelSymbol)). IsOk (image s (M.last_level xs))) same (last_meant (λ y. IsOk (image s y)) (λ naming. has_image naming s levels none))

  picture_asked : (kind : Picture) → reply_to limit s (picture_request kind) ≡ picture_reply kind s (picture s (M.last_level d.meant))
  picture_asked pictures.Segments = ap (λ o. shown s segments_text (picture_of s o)) (meant_levels limit s d.meant d.is)
  picture_asked pictures.Svg = ap (λ o. shown s (svg_text s.lattice) (picture_of s o)) (meant_levels limit s d.meant d.is)

  pub picture_given : {K : Type 0} (written : K → Option (List ℕ)) (faults : K → ℕ) (a b : K) (held : List ℕ) (kind : Picture) (result : Result Outcome Failed)
      → ((naming : ℕ → List ℕ) → WasPrinted written faults a b held s (picture_reply kind s (picture s (last_symbols naming s levels))) result)
      → WasGiven written faults a b held limit s s (picture_request kind) result
  picture_given written faults a b held kind result prints =
      let p : WasPrinted written faults a b held s (picture_reply kind s (picture s (M.last_level d.meant))) result =
      subst (λ x. WasPrinted written faults a b held s (picture_reply kind s (picture s x)) result) last_named (prints naming) in
      given_by kind result (picture_reply kind s (picture s (M.last_level d.meant))) (picture_asked kind) (shown_stays s (picture_text kind s.lattice) (or_text picture_refusal_text (picture s (M.last_level d.meant)))) p.lacks p.says
    where
      given_by : (kind : Picture) (result : Result Outcome Failed) (reply : Reply) → reply_to limit s (picture_request kind) ≡ reply → s ≡ reply.next → (lacks : Bool)
          → WasSaid written faults a b held (memory_or lacks s reply).text (outcome_by_reply outcomes.Printed (memory_or lacks s reply)) result
          → WasGiven written faults a b held limit s s (picture_request kind) result
      given_by pictures.Segments result reply e n true says = gives_so true (refused_memory s) refl says refl
      given_by pictures.Segments result reply e n false says = gives_so false reply e says n
      given_by pictures.Svg result reply e n true says = gives_so true (refused_memory s) refl says refl
      given_by pictures.Svg result reply e n false says = gives_so false reply e says n

-- 3. a picture that is drawn or refused

-- the reply that was put is the one to be printed
prints_so : {K : Type 0} {written : K → Option (List ℕ)} {faults : K → ℕ} {a b : K} {held : List ℕ} {s : System} {asked : Reply} {result : Result Outcome Failed} (lacks : Bool) (reply : Reply)
    → memory_or lacks s asked ≡ reply → WasSaid written faults a b held reply.text (outcome_by_reply outcomes.Printed reply) result → WasPrinted written faults a b held s asked result
prints_so {written = written} {faults = faults} {a = a} {b = b} {held = held} {result = result} lacks reply e says =
    record { lacks = lacks; says = subst (λ (r : Reply). WasSaid written faults a b held r.text (outcome_by_reply outcomes.Printed r) result) (sym e) says }

pub shows_own : {K : Type 0} (written : K → Option (List ℕ)) (faults : K → ℕ) (a b : K) (held_old held_new : List ℕ) (kind : Picture) (l : Lattice) (s : System) (x : List L.LevelSymbol)
    (r : Result (Unit {0}) Refusal) → l ≡ s.lattice → Shows written faults a b held_old held_new (picture (on_lattice l s) x) (picture_text kind l) r
    → Shows written faults a b held_old held_new (picture s x) (picture_text kind s.lattice) r
shows_own written faults a b held_old held_new kind l s x r e h =
    subst (λ l. Shows written faults a b held_old held_new (picture (on_lattice l s) x) (picture_text kind l) r) e h

module _ {K : Type 0} (written : K → Option (List ℕ)) (faults : K → ℕ) (a b : K) (held : List ℕ) (kind : Picture) (s : System) (p : Result (List Segment) PictureRefusal) (result : Result Outcome Failed) where
  pub picture_printed : {m : K} {held_mid : List ℕ} → Shows written faults a m [] held_mid p (picture_text kind s.lattice) (Ok tt) → WasPut written faults m b held_mid held [] result → held ≡ []
      → IfOk result (λ o. o ≡ outcomes.Printed) → WasPrinted written faults a b held s (picture_reply kind s p) result
  picture_printed q f e o =
      prints_so false (said s (picture_text kind s.lattice q.segments)) (ap (picture_reply kind s) q.drawn) (record { put = puts_out q.put f; empty = e; outcome = o })

  refused_as : {m : K} {held_mid : List ℕ} {e : Refusal} (r : PictureRefusal) → RefusesPicture a m [] held_mid p e → ((q : PictureRefusal) → IsRefusal q e → q ≡ r)
      → WasSaid written faults m b held (picture_line r) outcomes.Refused result → WasPrinted written faults a b held s (picture_reply kind s p) result
  refused_as r q same says =
      let is : q.refusal ≡ r = same q.refusal q.is in
      prints_so false (refused s (picture_refusal_text r)) (ap (picture_reply kind s) (q.refused ∙ ap Err is)) (subst (λ k. WasSaid written faults k b held (picture_line r) outcomes.Refused result) q.sink_stays says)

  pub picture_has_no_image : {m : K} {held_mid : List ℕ} (e : ImageRefusal) → Shows written faults a m [] held_mid p (picture_text kind s.lattice) (Err (refusals.Image e))
      → WasSaid written faults m b held (picture_line (NoImage (refusal_of e))) outcomes.Refused result → WasPrinted written faults a b held s (picture_reply kind s p) result
  picture_has_no_image e q says = refused_as (NoImage (refusal_of e)) q (λ q h. h) says

  pub picture_without_image : (e : ImageRefusal) → p ≡ Err (NoImage (refusal_of e)) → WasSaid written faults a b held (picture_line (NoImage (refusal_of e))) outcomes.Refused result
      → WasPrinted written faults a b held s (picture_reply kind s p) result
  picture_without_image e h says = prints_so false (refused s (picture_refusal_text (NoImage (refusal_of e)))) (ap (picture_reply kind s) h) says

  pub picture_goes_far : {m : K} {held_mid : List ℕ} (n : ℕ) → Shows written faults a m [] held_mid p (picture_text kind s.lattice) (Err (refusals.Far n))
      → WasSaid written faults m b held (picture_line (Far n)) outcomes.Refused result → WasPrinted written faults a b held s (picture_reply kind s p) result
  picture_goes_far n q says = refused_as (Far n) q (λ q h. h) says

  pub picture_failed : Shows written faults a b [] held p (picture_text kind s.lattice) (Err refusals.Failed) → IsErr result → WasPrinted written faults a b held s (picture_reply kind s p) result
  picture_failed q is =
      let d = q.1 in
      prints_so false (said s (picture_text kind s.lattice d.segments)) (ap (picture_reply kind s) d.drawn) (says_failed is d.put d.put.failed_holds_nothing)

  pub picture_lacks : WasSaid written faults a b held (codes "refused memory" ++ line_feed) outcomes.Memory result → WasPrinted written faults a b held s (picture_reply kind s p) result
  picture_lacks says = prints_so true (refused_memory s) refl says
