-- A line was taken from what a reader held and what the source gave.
use Rattle.std.proofs.Common.{◌≡◌, ℕ, zero, suc, true, false, ◌+◌, ◌-◌, ◌<◌, ◌≤◌, List, [], ◌∷◌, ◌++◌, length, take, get_or, Option, Some, None, Ok, refl, ap, sym, ◌∙◌, arith, length-append, append-nil, append_assoc, ne_eqb}
use Rattle.std.specs.Io.KnownBytes.{Consumes, prepend_known, IsAtEnd}
use Rattle.lsys_syntax.specs.Lines.{lines_of, without_cr}
use Rattle.lsys_io.specs.declared.gathering.Gathered.{Gathered}
use Rattle.lsys_io.specs.declared.lines.Stage.TheVariants.{Going, Ended}
use Rattle.lsys_io.specs.declared.lines.LineRead.{LineRead}
use Rattle.lsys_io.specs.declared.lines.LineRead.TheVariants.{Line, Long, End}
use Rattle.lsys_io.specs.Feeds.{has_lf}
use Rattle.lsys_syntax.specs.Limits.{most_line_bytes}
use Rattle.lsys_io.specs.Reading.{LineReading, TakesLine, HasFirstLine}
use Rattle.lsys_io.specs.LineAnswers.{OnLine, OnLong}
use Rattle.lsys_io.specs.Gathering.{GathersLine, FinishesLine, feed}
use Rattle.lsys_io.proofs.Feeds.{first_line, last_line}

abbrev reading : List ℕ → ℕ → List ℕ → LineReading
reading held taken line = record { held = held; taken = taken; line = line; stage = Going }

abbrev at_end : ℕ → List ℕ → List ℕ → LineReading
at_end taken held line = record { held = held; taken = taken; line = line; stage = Ended }

-- with what the source has left after it
joined : (held given line after xs ys : List ℕ) → held ++ given ≡ line ++ after → xs ≡ given ++ ys → held ++ xs ≡ line ++ (after ++ ys)
joined held given line after xs ys split is =
    ap (λ t. held ++ t) is ∙ sym (append_assoc held given ys) ∙ ap (λ t. t ++ ys) split ∙ append_assoc line after ys

whole_bytes : (held given line after : List ℕ) (a b : Option (List ℕ)) → held ++ given ≡ line ++ 10 ∷ after → Consumes a b given
    → Consumes (prepend_known held a) (prepend_known after b) (line ++ 10 ∷ [])
whole_bytes held given line after None b split h = tt
whole_bytes held given line after (Some xs) None split h = absurd h
whole_bytes held given line after (Some xs) (Some ys) split h =
    joined held given line (10 ∷ after) xs ys split h ∙ sym (append_assoc line (10 ∷ []) (after ++ ys))

whole_first : (held given line after : List ℕ) (a b : Option (List ℕ)) → held ++ given ≡ line ++ 10 ∷ after → has_lf line ≡ false → Consumes a b given
    → HasFirstLine (prepend_known held a) (prepend_known after b) line
whole_first held given line after None b split no_lf h = tt
whole_first held given line after (Some xs) None split no_lf h = absurd h
whole_first held given line after (Some xs) (Some ys) split no_lf h =
    ap lines_of (joined held given line (10 ∷ after) xs ys split h) ∙ first_line line (after ++ ys) no_lf

-- a line was taken that has so many bytes, and they were kept where they are not too many
abbrev pub Took : (List ℕ → Type 0) → ℕ → List ℕ → Type 0
Took P count kept = (line : List ℕ) × P line × (count ≡ length line) × (count ≤ most_line_bytes → kept ≡ line)

pub took_whole : (held after given : List ℕ) (taken : ℕ) (before told kept : List ℕ) (a b : Option (List ℕ)) (room : ℕ) (g : Gathered)
    → Consumes a b given → GathersLine (held ++ given) after kept room g → g.whole ≡ true
    → Took (TakesLine (reading held taken before) (reading after (taken + (g.count + 1)) told) a b) g.count kept
took_whole held after given taken before told kept a b room g h k e =
    let split : held ++ given ≡ k.line ++ 10 ∷ after = k.splits.split ∙ ap (λ w. k.line ++ (feed w ++ after)) e in (
      k.line,
      record {
        no_lf = k.splits.no_lf;
        bytes = whole_bytes held given k.line after a b split h;
        first = whole_first held given k.line after a b split k.splits.no_lf h;
        counted = omega (arith, k.counted, length-append k.line (10 ∷ []));
        goes_on = tt;
      },
      k.counted,
      k.kept,
    )

last_bytes : (held given line : List ℕ) (a b : Option (List ℕ)) → held ++ given ≡ line → Consumes a b given → IsAtEnd b
    → Consumes (prepend_known held a) (Some []) line
last_bytes held given line None b split h end = tt
last_bytes held given line (Some xs) None split h end = absurd h
last_bytes held given line (Some xs) (Some ys) split h end =
    ap (λ t. held ++ t) (h ∙ ap (λ t. given ++ t) end ∙ append-nil given) ∙ split ∙ sym (append-nil line)

last_first : (held given line : List ℕ) (a b : Option (List ℕ)) → held ++ given ≡ line → 0 < length line → has_lf line ≡ false → Consumes a b given → IsAtEnd b
    → HasFirstLine (prepend_known held a) (Some []) line
last_first held given line None b split some no_lf h end = tt
last_first held given line (Some xs) None split some no_lf h end = absurd h
last_first held given line (Some xs) (Some ys) split some no_lf h end =
    ap lines_of (ap (λ t. held ++ t) (h ∙ ap (λ t. given ++ t) end ∙ append-nil given) ∙ split) ∙ last_line line some no_lf

pub took_last : (held after given : List ℕ) (taken : ℕ) (before told kept : List ℕ) (a b : Option (List ℕ)) (room : ℕ) (g : Gathered)
    → Consumes a b given → GathersLine (held ++ given) after kept room g → g.whole ≡ false → 0 < g.count → IsAtEnd b
    → Took (TakesLine (reading held taken before) (at_end (taken + g.count) after told) a b) g.count kept
took_last held after given taken before told kept a b room g h k e some end =
    let split : held ++ given ≡ k.line =
    k.splits.split ∙ ap (λ w. k.line ++ (feed w ++ after)) e ∙ ap (λ t. k.line ++ t) (k.splits.rest e) ∙ append-nil k.line in (
      k.line,
      record {
        no_lf = k.splits.no_lf;
        bytes = last_bytes held given k.line a b split h end;
        first = last_first held given k.line a b split (omega (arith, some, k.counted)) k.splits.no_lf h end;
        counted = omega (arith, k.counted);
        goes_on = tt;
      },
      k.counted,
      k.kept,
    )

pub line_told : (read : LineRead) (count : ℕ) (kept told : List ℕ) (P : List ℕ → Type 0) → FinishesLine read count kept told → Took P count kept
    → OnLine (Ok read) ((line : List ℕ) × P line × (length line ≤ most_line_bytes) × (told ≡ without_cr line))
line_told Line count kept told P f t = (t.0, t.1, omega (arith, f.0, t.2), f.1 ∙ ap without_cr (t.3 f.0))
line_told Long count kept told P f t = tt
line_told End count kept told P f t = tt

pub long_told : (read : LineRead) (count : ℕ) (kept told : List ℕ) (P : List ℕ → Type 0) → FinishesLine read count kept told → Took P count kept
    → OnLong (Ok read) ((line : List ℕ) × P line × (most_line_bytes < length line))
long_told Line count kept told P f t = tt
long_told Long count kept told P f t = (t.0, t.1, omega (arith, f.0, t.2))
long_told End count kept told P f t = tt

-- a CR at the end, or none
cr_at : (line : List ℕ) (i : ℕ) → suc i ≡ length line → get_or line i 0 ≡ 13 → take i line ≡ without_cr line
cr_at [] i h e = absurd (omega (arith, h))
cr_at (b ∷ []) zero h e = rw e refl
cr_at (b ∷ []) (suc i) h e = absurd (omega (arith, h))
cr_at (b ∷ c ∷ bytes) zero h e = absurd (omega (arith, h))
cr_at (b ∷ c ∷ bytes) (suc i) h e = ap (λ l. b ∷ l) (cr_at (c ∷ bytes) i (omega (arith, h)) e)

no_cr_at : (line : List ℕ) (i : ℕ) → suc i ≡ length line → (get_or line i 0 ≡ 13 → ⊥) → line ≡ without_cr line
no_cr_at [] i h n = refl
no_cr_at (b ∷ []) zero h n = rw (ne_eqb b 13 n) refl
no_cr_at (b ∷ []) (suc i) h n = absurd (omega (arith, h))
no_cr_at (b ∷ c ∷ bytes) zero h n = absurd (omega (arith, h))
no_cr_at (b ∷ c ∷ bytes) (suc i) h n = ap (λ l. b ∷ l) (no_cr_at (c ∷ bytes) i (omega (arith, h)) n)

pub cr_goes : (line : List ℕ) → 0 < length line → get_or line (length line - 1) 0 ≡ 13 → take (length line - 1) line ≡ without_cr line
cr_goes line h e = cr_at line (length line - 1) (omega arith) e

pub no_cr_goes : (line : List ℕ) → 0 < length line → (get_or line (length line - 1) 0 ≡ 13 → ⊥) → without_cr line ≡ line
no_cr_goes line h n = sym (no_cr_at line (length line - 1) (omega arith) n)

pub ruleset line_ends = (cr_goes, no_cr_goes)
