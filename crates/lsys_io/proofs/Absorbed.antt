-- One piece after another.
use Rattle.std.proofs.Common.{◌≡◌, ℕ, Bool, true, false, ◌+◌, ◌-◌, ◌<◌, ◌≤◌, List, ◌++◌, length, take, drop, get_or, arith}
use Rattle.std.proofs.lemmas.List.{length-take-le}
use Rattle.lsys_io.specs.declared.gathering.Gathered.{Gathered}
use Rattle.lsys_io.specs.Feeds.{has_lf}
use Rattle.lsys_syntax.specs.Limits.{most_line_bytes}
use Rattle.lsys_io.specs.Gathering.{Absorbs}
use Rattle.lsys_io.proofs.Feeds.{no_lf_before, splits_whole, splits_all}

abbrev gathered_at : ℕ → Bool → Gathered
gathered_at n whole = record { count = n; whole = whole }

pub absorbs_whole : (piece kept_old kept_new : List ℕ) (place count room : ℕ) → place < length piece
    → ((k : ℕ) → k < place → get_or piece k 0 ≡ 10 → ⊥) → get_or piece place 0 ≡ 10 → place + 1 ≤ room - count
    → (count + length (take place piece) ≤ most_line_bytes → kept_new ≡ kept_old ++ take place piece)
    → Absorbs piece (drop (place + 1) piece) kept_old kept_new count room (gathered_at (count + place) true)
absorbs_whole piece kept_old kept_new place count room h before found fits kept =
    let long : length (take place piece) ≡ place = length-take-le place piece (omega arith) in record {
      part = take place piece;
      splits = splits_whole piece place h before found;
      counted = omega (arith, long);
      fits = omega arith;
      kept = λ l. kept (omega (arith, l, long));
    }

pub absorbs_all : (piece kept_old kept_new : List ℕ) (place count room : ℕ) → place ≡ length piece
    → ((k : ℕ) → k < place → get_or piece k 0 ≡ 10 → ⊥) → count ≤ room → place ≤ room - count
    → (count + length (take place piece) ≤ most_line_bytes → kept_new ≡ kept_old ++ take place piece)
    → Absorbs piece (drop place piece) kept_old kept_new count room (gathered_at (count + place) false)
absorbs_all piece kept_old kept_new place count room h before within fits kept =
    let long : length (take place piece) ≡ place = length-take-le place piece (omega (arith, h)) in record {
      part = take place piece;
      splits = splits_all piece place (omega (arith, h)) before;
      counted = omega (arith, long);
      fits = omega arith;
      kept = λ l. kept (omega (arith, l, long));
    }

pub past_room : (piece : List ℕ) (n place : ℕ) → n ≤ place → n < length piece → ((k : ℕ) → k < place → get_or piece k 0 ≡ 10 → ⊥)
    → (n < length piece) × (has_lf (take n piece) ≡ false)
past_room piece n place h l before = (l, no_lf_before piece n (λ k m. before k (omega (arith, h, m))))
