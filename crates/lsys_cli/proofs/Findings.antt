-- What `clap` finds in words of the grammar is what they spell.
use Rattle.std.proofs.Common.{◌≡◌, ◌∙◌, ◌==◌, ◌&&◌, ◌∷◌, ◌++◌, ℕ, true, false, Option, Some, None, List, [], codes, refl, ap, ap₂, sym, arith}
use Rattle.std.specs.Prelude.{is_some, if◌then◌else◌}
use Rattle.std.specs.Str.{bytes_eq}
use Rattle.clap.specs.Lexer.{strip_byte}
use Rattle.clap.specs.Words.{first_of, matches_of, takes}
use Rattle.lsys_cli.specs.Words.{is_number, options_by}
use Rattle.lsys_cli.specs.Values.{options_in}
use Rattle.lsys_cli.proofs.Numbers.{first_digit}
use Rattle.lsys_cli.proofs.Clap.{lsys, found_in, none_found, limit_found, sample_found, limit_sample_found, sample_limit_found, limit_words, sample_words}
use Rattle.lsys_cli.proofs.Shapes.{by_shapes, limit_spells, sample_spells, limit_first_spells, sample_first_spells}

-- a number begins with no hyphen
no_hyphen : (d : List ℕ) → is_number d ≡ true → strip_byte 45 d ≡ None
no_hyphen [] h = refl
no_hyphen (c ∷ cs) h =
    let other : (c == 45) ≡ false = sym (same c) ∙ first_digit c cs h in
    ap (λ b. if b then Some cs else None) other
  where
    same : (c : ℕ) → (45 == c) ≡ (c == 45)
    same c = grind (arith)

no_end : (d : List ℕ) → is_number d ≡ true → bytes_eq d (45 ∷ 45 ∷ []) ≡ false
no_end [] h = refl
no_end (c ∷ cs) h =
    let other : (c == 45) ≡ false = sym (same c) ∙ first_digit c cs h in
    ap (λ b. b && bytes_eq cs (45 ∷ [])) other
  where
    same : (c : ℕ) → (45 == c) ≡ (c == 45)
    same c = grind (arith)

-- what `clap` finds gives the options, and it takes the words
abbrev pub IsRead : List (List ℕ) → Type 0
IsRead words = (options_in (first_of (codes "limit") (matches_of lsys words)) (first_of (codes "sample") (matches_of lsys words)) ≡ options_by words) × (takes lsys words ≡ true)

of_found : (words : List (List ℕ)) (limit sample : Option (List ℕ)) → found_in words ≡ (limit, (sample, true)) → options_by words ≡ options_in limit sample → IsRead words
of_found words limit sample e f = (ap₂ options_in (ap (λ p. p.0) e) (ap (λ p. p.1.0) e) ∙ sym f, ap (λ p. p.1.1) e)

pub all_read : (words : List (List ℕ)) → is_some (options_by words) ≡ true → IsRead words
all_read =
    by_shapes IsRead (of_found [] None None none_found refl)
    (λ a d n. of_found (limit_words a d) (Some d) None (limit_found d (no_hyphen d n) (no_end d n) a) (limit_spells a d n))
    (λ a d n. of_found (sample_words a d) None (Some d) (sample_found d (no_hyphen d n) (no_end d n) a) (sample_spells a d n))
    (λ a b d e n k. of_found (limit_words a d ++ sample_words b e) (Some d) (Some e) (limit_sample_found d (no_hyphen d n) (no_end d n) e (no_hyphen e k) (no_end e k) a b) (limit_first_spells a b d e n k))
    (λ a b d e n k. of_found (sample_words a d ++ limit_words b e) (Some e) (Some d) (sample_limit_found d (no_hyphen d n) (no_end d n) e (no_hyphen e k) (no_end e k) a b) (sample_first_spells a b d e n k))
