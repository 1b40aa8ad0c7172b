-- What is told of the picture of the last level, and what is said of it.
use Rattle.std.proofs.Common.{◌≡◌, ℕ, Bool, true, false, Option, Some, None, Result, Ok, Err, List, ◌∷◌, ◌++◌, codes, slice_get, append_assoc, ap, sym, ◌∙◌, subst}
use Rattle.std.specs.Prelude.{ℤ, option_map}
use Rattle.std.specs.Fmt.{signed_decimal}
use Rattle.lsys_syntax.specs.Strings as S
use Rattle.lsys_io.specs.declared.Failed.{Failed}
use Rattle.lsys_laws.specs.Sessions.{HasLevels}
use Rattle.lsys_spec.specs.Systems.{System}
use Rattle.lsys_spec.specs.Values.{◌and_then◌}
use Rattle.lsys_spec.specs.Lattices.{Lattice}
use Rattle.lsys_spec.specs.Levels.{LevelSymbol}
use Rattle.lsys_spec.specs.Meaning.{meaning, last_level}
use Rattle.lsys_spec.specs.Pictures.{Pose, Turtle, Segment, NoImage, PictureRefusal}
use Rattle.lsys_spec.specs.Pictures as pictures
use Rattle.lsys_spec.specs.Refusals.{Reply, said, refused, line_feed, derivation_text}
use Rattle.lsys_spec.specs.Replies.{edited, levels_of, or_text, picture_refusal_text, shown}
use Rattle.lsys_spec.specs.Output.{memory_or}
use Rattle.lsys_lattice.specs.Bounds.{bounds, bounds_of, bounds_text, travelled, turtle_at, turtle_or_refusal}
use Rattle.lsys_lattice.specs.Extents.{Extents}
use Rattle.lsys_hom.specs.Refusals.{refusal_of}
use Rattle.lsys_level.specs.Spots.{Spotted}
use Rattle.lsys_match.specs.Derivations.{IsDerived}
use Rattle.lsys_out.specs.Drawings as out
use Rattle.lsys_out.specs.Shown.{on_lattice}
use Rattle.lsys_motion.specs.Told.{Track, poses_of, told}
use Rattle.lsys_motion.specs.Refusals.{IsAsTold}
use Rattle.lsys_motion.specs.declared.refusal.MotionRefusal.{MotionRefusal}
use Rattle.lsys_motion.specs.declared.refusal.MotionRefusal.TheVariants.{Image, Far, Memory}
use Rattle.lsys_motion.proofs.Lasts.{told_bounds, told_turtles}
use Rattle.lsys_history.specs.Desks.{asked_of, bounds_reply, place_reply, pose_reply, turtle_reply}
use Rattle.lsys_session.specs.Given.{WasLed, WasPrinted, outcome_by_reply}
use Rattle.lsys_session.specs.Sessions.{WasSaid}
use Rattle.lsys_session.specs.declared.outcome.Outcome.{Outcome}
use Rattle.lsys_session.specs.declared.outcome.Outcome.TheVariants as outcomes
use Rattle.lsys_session.proofs.Querying.{last_meant}
use Rattle.lsys_cli.specs.declared.kept_motions.KeptMotions.{KeptMotions}
use Rattle.lsys_cli.specs.Motions.{AreKept, IsTrackOf, motion_line, motion_outcome, motions_after, pose_line, pose_outcome, span_text, spans_text}

-- 1. replies about a picture

joined : (low high : ℤ) (more : List ℕ) → span_text low high ++ more ≡ signed_decimal low ++ 32 ∷ (signed_decimal high ++ more)
joined low high more = append_assoc (signed_decimal low) (32 ∷ signed_decimal high) more

pub spans_are : (e : Extents) → spans_text e ≡ bounds_text e
spans_are e =
    ap (λ t. codes "bounds " ++ t)
    (joined e.low.x e.high.x (32 ∷ (span_text e.low.y e.high.y ++ 32 ∷ (span_text e.low.z e.high.z ++ line_feed)))
    ∙ ap (λ t. signed_decimal e.low.x ++ 32 ∷ (signed_decimal e.high.x ++ 32 ∷ t))
    (joined e.low.y e.high.y (32 ∷ (span_text e.low.z e.high.z ++ line_feed))
    ∙ ap (λ t. signed_decimal e.low.y ++ 32 ∷ (signed_decimal e.high.y ++ 32 ∷ t)) (joined e.low.z e.high.z line_feed)))

abbrev Way : Type 0
Way = List (S.Symbol ℤ) × List Segment

-- where nothing is told, there is no way over the image
no_way : (l : Lattice) (q : Result Way PictureRefusal) (r : PictureRefusal)
    → (q and_then λ way. Ok (let t : Track = record { bounds = bounds_of l way.1; poses = poses_of l way.0 } in t)) ≡ Err r → q ≡ Err r
no_way l (Ok way) r h = cc
no_way l (Err e) r h = let same : e ≡ r = cc in ap (λ (x : PictureRefusal). Err x) same

turtle_so : (s : System) (column : ℕ) (q : Result (Option Turtle) PictureRefusal) (p : Option Pose) → (q and_then λ o. Ok (option_map (λ (u : Turtle). u.pose) o)) ≡ Ok p
    → turtle_reply s column (or_text picture_refusal_text q) ≡ pose_reply s column p
turtle_so s column (Ok o) p h = let same : option_map (λ (u : Turtle). u.pose) o ≡ p = cc in ap (pose_reply s column) same
turtle_so s column (Err e) p h = cc

module _ (limit : ℕ) (s : System) (levels : List (List LevelSymbol)) (is : meaning s limit ≡ Ok levels) where
  asked_so : {A : Type 0} (ask : List LevelSymbol → Result A PictureRefusal) → asked_of ask (levels_of limit s) ≡ or_text picture_refusal_text (ask (last_level levels))
  asked_so ask = ap (λ m. asked_of ask (or_text derivation_text m)) is

  pub bounds_so : (t : Track) → told s (last_level levels) ≡ Ok t → bounds_reply s (levels_of limit s) ≡ said s (bounds_text t.bounds)
  bounds_so t h = ap (shown s bounds_text) (asked_so (bounds s) ∙ ap (or_text picture_refusal_text) (told_bounds s (last_level levels) t h))

  pub bounds_no : (r : PictureRefusal) → told s (last_level levels) ≡ Err r → bounds_reply s (levels_of limit s) ≡ refused s (picture_refusal_text r)
  bounds_no r h =
      ap (shown s bounds_text) (asked_so (bounds s)
      ∙ ap (λ (w : Result Way PictureRefusal). or_text picture_refusal_text (w and_then λ way. Ok (bounds_of s.lattice way.1))) (no_way s.lattice (travelled s (last_level levels)) r h))

  pub place_so : (n column : ℕ) (t : Track) → told s (last_level levels) ≡ Ok t → place_reply s n column (levels_of limit s) ≡ pose_reply s column (slice_get t.poses n)
  place_so n column t h =
      ap (turtle_reply s column) (asked_so (λ x. turtle_or_refusal s x n))
      ∙ turtle_so s column (turtle_or_refusal s (last_level levels) n) (slice_get t.poses n) (told_turtles s (last_level levels) t n h)

  pub place_no : (n column : ℕ) (r : PictureRefusal) → told s (last_level levels) ≡ Err r → place_reply s n column (levels_of limit s) ≡ refused s (picture_refusal_text r)
  place_no n column r h =
      ap (turtle_reply s column) (asked_so (λ x. turtle_or_refusal s x n)
      ∙ ap (λ (w : Result Way PictureRefusal). or_text picture_refusal_text (w and_then λ way. Ok (turtle_at s.lattice n way.0))) (no_way s.lattice (travelled s (last_level levels)) r h))

-- 2. what is said

module _ {K : Type 0} (written : K → Option (List ℕ)) (faults : K → ℕ) (a b : K) (held : List ℕ) (limit : ℕ) (s : System) (there : HasLevels limit s) (result : Result Outcome Failed) where
  so : (reply asked : Reply) → asked ≡ reply → WasPrinted written faults a b held s reply result → WasPrinted written faults a b held s asked result
  so reply asked e p = subst (λ r. WasPrinted written faults a b held s r result) (sym e) p

  refused_so : (asked : Reply) (e : MotionRefusal) → ((r : PictureRefusal) → told s (last_level there.0) ≡ Err r → asked ≡ refused s (picture_refusal_text r))
      → IsAsTold {A = Track} (told s (last_level there.0)) (Err e) → WasSaid written faults a b held (motion_line e) (motion_outcome e) result → WasPrinted written faults a b held s asked result
  refused_so asked (Image e) away h says = so (refused s (picture_refusal_text (NoImage (refusal_of e)))) asked (away (NoImage (refusal_of e)) h) (record { lacks = false; says = says })
  refused_so asked (Far n) away h says = so (refused s (picture_refusal_text (pictures.Far n))) asked (away (pictures.Far n) h) (record { lacks = false; says = says })
  refused_so asked Memory away h says = record { lacks = true; says = says }

  pub bounds_refused : (e : MotionRefusal) → IsTrackOf limit s (Err e) → WasSaid written faults a b held (motion_line e) (motion_outcome e) result
      → WasPrinted written faults a b held s (bounds_reply s (levels_of limit s)) result
  bounds_refused e h says = refused_so (bounds_reply s (levels_of limit s)) e (bounds_no limit s there.0 there.1) (h there.0 there.1) says

  pub place_refused : (n column : ℕ) (e : MotionRefusal) → IsTrackOf limit s (Err e) → WasSaid written faults a b held (motion_line e) (motion_outcome e) result
      → WasPrinted written faults a b held s (place_reply s n column (levels_of limit s)) result
  place_refused n column e h says = refused_so (place_reply s n column (levels_of limit s)) e (place_no limit s there.0 there.1 n column) (h there.0 there.1) says

  pub bounds_printed : (t : Track) → IsTrackOf limit s (Ok t) → WasSaid written faults a b held (spans_text t.bounds) outcomes.Printed result
      → WasPrinted written faults a b held s (bounds_reply s (levels_of limit s)) result
  bounds_printed t h says =
      so (said s (bounds_text t.bounds)) (bounds_reply s (levels_of limit s)) (bounds_so limit s there.0 there.1 t (h there.0 there.1))
      (record { lacks = false; says = subst (λ text. WasSaid written faults a b held text outcomes.Printed result) (spans_are t.bounds) says })

  pose_printed : (column : ℕ) (p : Option Pose) → WasSaid written faults a b held (pose_line column p) (pose_outcome p) result → WasPrinted written faults a b held s (pose_reply s column p) result
  pose_printed column (Some p) says = record { lacks = false; says = says }
  pose_printed column None says = record { lacks = false; says = says }

  pub place_printed : (n column : ℕ) (t : Track) → IsTrackOf limit s (Ok t)
      → WasSaid written faults a b held (pose_line column (slice_get t.poses n)) (pose_outcome (slice_get t.poses n)) result
      → WasPrinted written faults a b held s (place_reply s n column (levels_of limit s)) result
  place_printed n column t h says =
      so (pose_reply s column (slice_get t.poses n)) (place_reply s n column (levels_of limit s)) (place_so limit s there.0 there.1 n column t (h there.0 there.1))
      (pose_printed column (slice_get t.poses n) says)

-- 3. what is made

pub told_own : (limit : ℕ) (s : System) (levels : List (List Spotted)) (l : Lattice) (r : Result Track MotionRefusal) → IsDerived s limit levels → l ≡ s.lattice
    → ((naming : ℕ → List ℕ) → IsAsTold (told (on_lattice l s) (out.last_symbols naming s levels)) r) → IsTrackOf limit s r
told_own limit s levels l r d e h xs is =
    let same : d.meant ≡ xs = (let both : ◌≡◌ {A = Result (List (List LevelSymbol)) _} (Ok d.meant) (Ok xs) = sym d.is ∙ is in cc) in
    subst (λ (ys : List (List LevelSymbol)). IsAsTold (told s (last_level ys)) r) same
    (last_meant limit s levels d (λ x. IsAsTold (told s x) r) (λ naming. subst (λ (l : Lattice). IsAsTold (told (on_lattice l s) (out.last_symbols naming s levels)) r) e (h naming)))

-- 4. what is kept after a step

module _ (limit : ℕ) (old to : System) where
  after_by : (lacks : Bool) (x : Result (List (List LevelSymbol)) (List ℕ)) (o : Outcome) (new : System) (m : Option KeptMotions) → let r = memory_or lacks old (edited limit old to x) in
      o ≡ outcome_by_reply outcomes.Accepted r → new ≡ r.next → AreKept limit old m → AreKept limit new (motions_after (Ok o) m)
  after_by true x o new m e n k = subst (λ p. AreKept limit new (motions_after (Ok p) m)) (sym e) (subst (λ (t : System). AreKept limit t m) (sym n) k)
  after_by false (Err why) o new m e n k = subst (λ p. AreKept limit new (motions_after (Ok p) m)) (sym e) (subst (λ (t : System). AreKept limit t m) (sym n) k)
  after_by false (Ok levels) o new m e n k = subst (λ p. AreKept limit new (motions_after (Ok p) m)) (sym e) tt

  pub after_step : {K : Type 0} (written : K → Option (List ℕ)) (faults : K → ℕ) (a b : K) (held : List ℕ) (new : System) (result : Result Outcome Failed) (m : Option KeptMotions)
      → WasLed written faults a b held limit old to new result → AreKept limit old m → AreKept limit new (motions_after result m)
  after_step written faults a b held new (Ok o) m l k =
      after_by l.lacks (levels_of limit to) o new m (l.says.outcome ∙ ap (outcome_by_reply outcomes.Accepted) l.is) (l.next ∙ ap (λ (q : Reply). q.next) l.is) k
  after_step written faults a b held new (Err failed) m l k = tt
