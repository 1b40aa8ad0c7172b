-- Line feeds, and lines.
use Rattle.std.proofs.Common.{◌≡◌, ℕ, zero, suc, Bool, true, false, ◌==◌, ◌||◌, ◌+◌, ◌<◌, ◌≤◌, List, [], ◌∷◌, ◌++◌, length, take, drop, get_or, refl, ap, sym, ◌∙◌, arith, ne_eqb, true≢false}
use Rattle.std.proofs.lemmas.List.{drop_more, take-append-drop, drop_all}
use Rattle.lsys_syntax.specs.Lines.{lines_of, onto_first}
use Rattle.lsys_io.specs.Feeds.{has_lf}
use Rattle.lsys_io.specs.Gathering.{Splits}

pub has_lf-append : (xs ys : List ℕ) → has_lf (xs ++ ys) ≡ has_lf xs || has_lf ys
has_lf-append [] ys = refl
has_lf-append (b ∷ xs) ys = rw (has_lf-append xs ys) (either (b == 10) (has_lf xs) (has_lf ys))
  where
    either : (a b c : Bool) → a || (b || c) ≡ (a || b) || c
    either true b c = refl
    either false b c = refl

-- no LF at any place before n
pub no_lf_before : (bytes : List ℕ) (n : ℕ) → ((k : ℕ) → k < n → get_or bytes k 0 ≡ 10 → ⊥) → has_lf (take n bytes) ≡ false
no_lf_before bytes zero h = refl
no_lf_before [] (suc n) h = refl
no_lf_before (b ∷ bytes) (suc n) h =
    rw (ne_eqb b 10 (h 0 (omega arith)), no_lf_before bytes n (λ k l. h (suc k) (omega (arith, l))))

pub splits_whole : (bytes : List ℕ) (n : ℕ) → n < length bytes → ((k : ℕ) → k < n → get_or bytes k 0 ≡ 10 → ⊥) → get_or bytes n 0 ≡ 10
    → Splits bytes (take n bytes) (drop (n + 1) bytes) true
splits_whole bytes n h before at = record {
  no_lf = no_lf_before bytes n before;
  split = sym (take-append-drop n bytes) ∙ ap (λ t. take n bytes ++ t) (drop_more bytes n 0 h ∙ ap (λ b. b ∷ drop (n + 1) bytes) at);
  rest = λ e. cc;
}

pub splits_all : (bytes : List ℕ) (n : ℕ) → length bytes ≤ n → ((k : ℕ) → k < n → get_or bytes k 0 ≡ 10 → ⊥)
    → Splits bytes (take n bytes) (drop n bytes) false
splits_all bytes n h before = record {
  no_lf = no_lf_before bytes n before;
  split = sym (take-append-drop n bytes);
  rest = λ e. drop_all n bytes h;
}

pub neither : (a b : Bool) → a || b ≡ false → (a ≡ false) × (b ≡ false)
neither true b h = absurd (true≢false h)
neither false b h = (refl, h)

-- a line before its LF
pub first_line : (line rest : List ℕ) → has_lf line ≡ false → lines_of (line ++ 10 ∷ rest) ≡ line ∷ lines_of rest
first_line [] rest h = refl
first_line (b ∷ line) rest h =
    let both = neither (b == 10) (has_lf line) h in
    rw (both.0, first_line line rest both.1) refl

-- the last line, without LF
pub last_line : (line : List ℕ) → 0 < length line → has_lf line ≡ false → lines_of line ≡ line ∷ []
last_line [] l h = absurd (omega (arith, l))
last_line (b ∷ []) l h = rw (neither (b == 10) false h).0 refl
last_line (b ∷ c ∷ line) l h =
    let both = neither (b == 10) (has_lf (c ∷ line)) h in
    let rest : lines_of (c ∷ line) ≡ (c ∷ line) ∷ [] = last_line (c ∷ line) (omega arith) both.1 in
    rw both.0 (ap (onto_first b) rest)
