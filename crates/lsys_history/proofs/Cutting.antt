-- The replies to the whole lines of a front of a script.
use Rattle.std.proofs.Common.{◌≡◌, ◌≤◌, ◌<◌, ℕ, ◌+◌, Bool, true, false, not, ◌&&◌, List, [], ◌∷◌, ◌++◌, length, ◌==◌, refl, ap, sym, subst, arith, if◌then◌else◌}
use Rattle.std.specs.Prelude.{nat_lt}
use Rattle.std.proofs.lemmas.Bool.Decides.{nat_tests}
use Rattle.lsys_syntax.specs.Lines.{lines_of, onto_first}
use Rattle.lsys_spec.specs.Refusals.{Reply}
use Rattle.lsys_spec.specs.Output.{IsFront, with_byte, whole_lines}
use Rattle.lsys_history.specs.Desks.{Desk, DeskReply, desk_reply_or_memory, desk_followed, desk_replies_from, desk_out, opening_desk, up_to, numbers_of_whole}

-- 1. the whole lines of a front are lines of the script

abbrev fed : Bool → ℕ → List (List ℕ) → List (List ℕ)
fed feeds b lines = if feeds then [] ∷ lines else onto_first b lines

-- a byte before both
fed_front : (feeds : Bool) (b : ℕ) (xs ys : List (List ℕ)) → (xs ≡ [] → ⊥) → IsFront xs ys → IsFront (fed feeds b xs) (fed feeds b ys)
fed_front true b xs ys some f = (f.0, ap (λ l. [] ∷ l) f.1)
fed_front false b [] ys some f = absurd (some refl)
fed_front false b (line ∷ lines) ys some f = (f.0, ap (onto_first b) f.1)

-- bytes that are there have a line
fed_some : (feeds : Bool) (b : ℕ) (lines : List (List ℕ)) → fed feeds b lines ≡ [] → ⊥
fed_some true b lines e = cc
fed_some false b [] e = cc
fed_some false b (line ∷ lines) e = cc

lines_some : (b : ℕ) (bytes : List ℕ) → lines_of (b ∷ bytes) ≡ [] → ⊥
lines_some b bytes = fed_some (b == 10) b (lines_of bytes)

one_feed : (feeds : Bool) (b : ℕ) (ys : List (List ℕ)) → (b == 10) ≡ feeds → IsFront (lines_of (if feeds then b ∷ [] else [])) (fed feeds b ys)
one_feed true b ys e = subst (λ t. IsFront (fed t b []) ([] ∷ ys)) (sym e) (ys, refl)
one_feed false b ys e = (fed false b ys, refl)

with_byte_front : (b : ℕ) (whole : List ℕ) (ys : List (List ℕ)) → IsFront (lines_of whole) ys → IsFront (lines_of (with_byte b whole)) (fed (b == 10) b ys)
with_byte_front b [] ys f = one_feed (b == 10) b ys refl
with_byte_front b (c ∷ whole) ys f = fed_front (b == 10) b (lines_of (c ∷ whole)) ys (lines_some c whole) f

whole_front : (front more : List ℕ) → IsFront (lines_of (whole_lines front)) (lines_of (front ++ more))
whole_front [] more = (lines_of more, refl)
whole_front (b ∷ front) more = with_byte_front b (whole_lines front) (lines_of (front ++ more)) (whole_front front more)

-- 2. replies

-- the numbers of so many lines from n on are the same in both
abbrev AreSame : ℕ → ℕ → (ℕ → Bool) → (ℕ → Bool) → Type 0
AreSame n count N M = (i : ℕ) → n ≤ i → i < n + count → N i ≡ M i

unless_ended : (b : Bool) (r : Reply) (xs ys : List Reply) → IsFront xs ys → IsFront (r ∷ elim b [ true ↦ [] | false ↦ xs ]) (r ∷ elim b [ true ↦ [] | false ↦ ys ])
unless_ended true r xs ys f = ([], refl)
unless_ended false r xs ys f = (f.0, ap (λ l. r ∷ l) f.1)

front_from : (limit : ℕ) (N M : ℕ → Bool) (n : ℕ) (d : Desk) (lines more : List (List ℕ)) → AreSame n (length lines) N M
    → IsFront (desk_replies_from limit N n d lines) (desk_replies_from limit M n d (lines ++ more))
front_from limit N M n d [] more same = (desk_replies_from limit M n d more, refl)
front_from limit N M n d (line ∷ lines) more same =
    subst (λ lacks. IsFront (desk_followed (desk_reply_or_memory limit lacks d line) (λ next. desk_replies_from limit N (n + 1) next lines)) (desk_replies_from limit M n d (line ∷ lines ++ more)))
    (sym (same n (omega arith) (omega arith)))
    (after (desk_reply_or_memory limit (M n) d line) (λ next. front_from limit N M (n + 1) next lines more (λ i low high. same i (omega arith) (omega arith))))
  where
    after : (r : DeskReply) → ((next : Desk) → IsFront (desk_replies_from limit N (n + 1) next lines) (desk_replies_from limit M (n + 1) next (lines ++ more)))
        → IsFront (desk_followed r (λ next. desk_replies_from limit N (n + 1) next lines)) (desk_followed r (λ next. desk_replies_from limit M (n + 1) next (lines ++ more)))
    after r later = unless_ended r.reply.ends r.reply _ _ (later r.next)

up_to_same : (k : ℕ) (M : ℕ → Bool) (i : ℕ) → i < 1 + k → up_to k M i ≡ M i
up_to_same k M i h = with_flag (M i) (nat_lt k i) (grind (arith, nat_tests))
  where
    with_flag : (m t : Bool) → t ≡ false → (m && not t) ≡ m
    with_flag true false e = refl
    with_flag false t e = refl
    with_flag true true e = cc

out_front : (limit : ℕ) (M : ℕ → Bool) (xs ys : List (List ℕ)) → IsFront xs ys
    → IsFront (desk_replies_from limit (up_to (length xs) M) 1 opening_desk xs) (desk_replies_from limit M 1 opening_desk ys)
out_front limit M xs ys f =
    subst (λ l. IsFront (desk_replies_from limit (up_to (length xs) M) 1 opening_desk xs) (desk_replies_from limit M 1 opening_desk l)) (sym f.1)
    (front_from limit (up_to (length xs) M) M 1 opening_desk xs f.0 (λ i low high. up_to_same (length xs) M i high))

pub front_replies : (limit : ℕ) (front script : List ℕ) (M : ℕ → Bool) → IsFront front script
    → IsFront (desk_out limit (whole_lines front) (numbers_of_whole front M)) (desk_out limit script M)
front_replies limit front script M f =
    subst (λ s. IsFront (desk_out limit (whole_lines front) (numbers_of_whole front M)) (desk_out limit s M)) (sym f.1)
    (out_front limit M (lines_of (whole_lines front)) (lines_of (front ++ f.0)) (whole_front front f.0))
