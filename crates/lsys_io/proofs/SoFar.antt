-- A part of a line that was gathered from what was held and what the source gave.
use Rattle.std.proofs.Common.{◌≡◌, ℕ, true, false, ◌+◌, ◌-◌, ◌<◌, ◌≤◌, List, [], ◌++◌, length, take, Option, ap, sym, ◌∙◌, arith, length-append, append-nil, append_assoc}
use Rattle.std.proofs.Math.Seq.{take-append-add}
use Rattle.std.specs.Io.KnownBytes.{Consumes}
use Rattle.std.proofs.KnownBytes.{Consumes-trans}
use Rattle.lsys_io.specs.declared.gathering.Gathered.{Gathered}
use Rattle.lsys_io.specs.declared.lines.LineRefusal.TheVariants.{TooLong}
use Rattle.lsys_io.specs.Feeds.{has_lf}
use Rattle.lsys_syntax.specs.Limits.{most_line_bytes}
use Rattle.lsys_io.specs.Gathering.{Absorbs, GathersLine, Stops, feed}
use Rattle.lsys_io.proofs.Feeds.{has_lf-append}

pub record SoFar (old now : List ℕ) (left_old left_now : Option (List ℕ)) (told : List ℕ) (count room : ℕ) : Type 0 where
  pub given : List ℕ
  pub gathered : List ℕ
  pub consumed : Consumes left_old left_now given
  pub split : old ++ given ≡ gathered ++ now
  pub no_lf : has_lf gathered ≡ false
  pub counted : count ≡ length gathered
  pub fits : count ≤ room
  pub kept : count ≤ most_line_bytes → told ≡ gathered

-- the source gave more
pub so_far_read : (old now next : List ℕ) (left_old left_now left_next : Option (List ℕ)) (told : List ℕ) (count room : ℕ) (given : List ℕ)
    → SoFar old now left_old left_now told count room → Consumes left_now left_next given → next ≡ now ++ given
    → SoFar old next left_old left_next told count room
so_far_read old now next left_old left_now left_next told count room given s h is = record {
  given = s.given ++ given;
  gathered = s.gathered;
  consumed = Consumes-trans left_old left_now left_next s.given given s.consumed h;
  split = sym (append_assoc old s.given given) ∙ ap (λ t. t ++ given) s.split ∙ append_assoc s.gathered now given ∙ ap (λ t. s.gathered ++ t) (sym is);
  no_lf = s.no_lf;
  counted = s.counted;
  fits = s.fits;
  kept = s.kept;
}

no_lf_both : (xs ys : List ℕ) → has_lf xs ≡ false → has_lf ys ≡ false → has_lf (xs ++ ys) ≡ false
no_lf_both xs ys h k = rw (has_lf-append xs ys, h, k)

-- a piece was taken whole
pub so_far_more : (old now after : List ℕ) (left_old left_now : Option (List ℕ)) (told told_next : List ℕ) (count room : ℕ) (g : Gathered)
    → SoFar old now left_old left_now told count room → Absorbs now after told told_next count room g → g.whole ≡ false
    → SoFar old after left_old left_now told_next g.count room
so_far_more old now after left_old left_now told told_next count room g s a e =
    let nothing : feed g.whole ≡ [] = ap feed e in
    let piece : now ≡ a.part ++ after = a.splits.split ∙ ap (λ t. a.part ++ (t ++ after)) nothing in record {
      given = s.given;
      gathered = s.gathered ++ a.part;
      consumed = s.consumed;
      split = s.split ∙ ap (λ t. s.gathered ++ t) piece ∙ sym (append_assoc s.gathered a.part after);
      no_lf = no_lf_both s.gathered a.part s.no_lf a.splits.no_lf;
      counted = omega (arith, s.counted, a.counted, length-append s.gathered a.part);
      fits = omega (arith, a.fits);
      kept = λ l. a.kept l ∙ ap (λ t. t ++ a.part) (s.kept (omega (arith, a.counted, l)));
    }

-- the LF was found
pub so_far_whole : (old now after : List ℕ) (left_old left_now : Option (List ℕ)) (told told_next : List ℕ) (count room : ℕ) (g : Gathered)
    → (s : SoFar old now left_old left_now told count room) → Absorbs now after told told_next count room g
    → GathersLine (old ++ s.given) after told_next room g
so_far_whole old now after left_old left_now told told_next count room g s a = record {
  line = s.gathered ++ a.part;
  splits = record {
    no_lf = no_lf_both s.gathered a.part s.no_lf a.splits.no_lf;
    split = s.split ∙ ap (λ t. s.gathered ++ t) a.splits.split ∙ sym (append_assoc s.gathered a.part (feed g.whole ++ after));
    rest = a.splits.rest;
  };
  counted = omega (arith, s.counted, a.counted, length-append s.gathered a.part);
  fits = a.fits;
  kept = λ l. a.kept l ∙ ap (λ t. t ++ a.part) (s.kept (omega (arith, a.counted, l)));
}

-- what stands there passes the room
pub so_far_past : (old now : List ℕ) (left_old left_now : Option (List ℕ)) (told : List ℕ) (count room : ℕ) (s : SoFar old now left_old left_now told count room)
    → (room - count < length now) × (has_lf (take (room - count) now) ≡ false) → Stops (old ++ s.given) room TooLong
so_far_past old now left_old left_now told count room s h =
    let room_is : room ≡ length s.gathered + (room - count) = omega (arith, s.counted, s.fits) in
    let front : take room (old ++ s.given) ≡ s.gathered ++ take (room - count) now =
    ap (take room) s.split ∙ ap (λ n. take n (s.gathered ++ now)) room_is ∙ take-append-add s.gathered now (room - count) in (
      omega (arith, h.0, s.fits, s.counted, ap length s.split, length-append s.gathered now),
      ap has_lf front ∙ no_lf_both s.gathered (take (room - count) now) s.no_lf h.1,
    )

-- a piece that was taken whole has no LF
pub no_lf_taken : (piece after kept_old kept_new : List ℕ) (count room : ℕ) (g : Gathered) → Absorbs piece after kept_old kept_new count room g → g.whole ≡ false
    → has_lf piece ≡ false
no_lf_taken piece after kept_old kept_new count room g a e =
    let whole : piece ≡ a.part =
    a.splits.split ∙ ap (λ t. a.part ++ (t ++ after)) (ap feed e) ∙ ap (λ t. a.part ++ t) (a.splits.rest e) ∙ append-nil a.part in
    ap has_lf whole ∙ a.splits.no_lf

-- what has an LF has one with more after it
pub has_lf-more : (held given next : List ℕ) → has_lf held ≡ true → next ≡ held ++ given → has_lf next ≡ true
has_lf-more held given next h is = rw (is, has_lf-append held given, h)
