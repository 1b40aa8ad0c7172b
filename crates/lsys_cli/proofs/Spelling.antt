-- What words spell, option by option.
use Rattle.std.proofs.Common.{rules, suc, ◌≡◌, ℕ, length, ◌==◌, true, false, Option, Some, None, List, [], ◌∷◌, ◌++◌, codes, refl, sym, ◌∙◌}
use Rattle.std.specs.Prelude.{flat_map, option_map, option_and_then}
use Rattle.std.specs.String.{string_bytes}
use Rattle.std.specs.declared.string.String.{String}
use Rattle.lsys_cli.specs.Words.{texts, setting_of, text_after, name_and, in_two, only_setting, together, options_spelled, options_by}
use Rattle.lsys_cli.specs.Fronts.{front_of}
use Rattle.lsys_cli.specs.declared.options.Options.{Options}
use Rattle.lsys_cli.specs.declared.setting.Setting.{Setting}

abbrev pub after_second : Setting → Option (Setting × List (List ℕ)) → Option Options
after_second first None = None
after_second first (Some (second, [])) = together first second
after_second first (Some (second, word ∷ words)) = None

abbrev pub after_first : Option (Setting × List (List ℕ)) → Option Options
after_first None = None
after_first (Some (first, [])) = Some (only_setting first)
after_first (Some (first, word ∷ words)) = after_second first (front_of (word ∷ words))

one : (o : Option Setting) → option_map only_setting o ≡ after_first (option_map (λ s. (s, [])) o)
one None = refl
one (Some s) = refl

three : (b : List ℕ) (o : Option Setting) → None ≡ after_first (option_map (λ s. (s, b ∷ [])) o)
three b None = refl
three b (Some s) = refl

two : (b k : List ℕ) (o p : Option Setting) → setting_of b k ≡ p
    → option_and_then (λ first. option_and_then (together first) (setting_of b k)) o ≡ after_first (option_map (λ s. (s, b ∷ k ∷ [])) o)
two b k None p e = refl
two b k (Some s) None e = rw e refl
two b k (Some s) (Some t) e = rw e refl

more : (b k z : List ℕ) (zs : List (List ℕ)) (o p : Option Setting) → setting_of b k ≡ p → None ≡ after_first (option_map (λ s. (s, b ∷ k ∷ z ∷ zs)) o)
more b k z zs None p e = refl
more b k z zs (Some s) None e = rw e refl
more b k z zs (Some s) (Some t) e = rw e refl

pub by_fronts : (x : List ℕ) (xs : List (List ℕ)) → options_spelled (x ∷ xs) ≡ after_first (front_of (x ∷ xs))
by_fronts a [] = refl
by_fronts a (n ∷ []) = one (setting_of a n)
by_fronts a (n ∷ b ∷ []) = three b (setting_of a n)
by_fronts a (n ∷ b ∷ k ∷ []) = two b k (setting_of a n) (setting_of b k) refl
by_fronts a (n ∷ b ∷ k ∷ z ∷ zs) = more b k z zs (setting_of a n) (setting_of b k) refl

-- words that are not none are some names and numbers
pub by_cases : (P : List (List ℕ) → Type 0) → ((x : List ℕ) (xs : List (List ℕ)) → P (x ∷ xs)) → (limited sampled : Option (List ℕ)) (word : List ℕ) (rest : List (List ℕ))
    → P (name_and (codes "--limit") limited (name_and (codes "--sample") sampled (word ∷ [])) ++ rest)
by_cases P h (Some n) sampled word rest = h (codes "--limit") (n ∷ rest)
by_cases P h None (Some n) word rest = h (codes "--sample") (n ∷ rest)
by_cases P h None None word rest = h word rest

suc_is_not : (n : ℕ) → (suc n == 0) ≡ false
suc_is_not n = search rules

apart : {P : Type 0} → true ≡ false → P
apart e = cc

pub some : {A : Type 0} (P : List (List ℕ) → Type 0) → ((x : List ℕ) (xs : List (List ℕ)) → P (x ∷ xs)) → (words : List (String A)) → false ≡ (length words == 0) → P (flat_map in_two (texts words))
some P h [] e = apart (sym e)
some P h (word ∷ words) e =
    by_cases P h (text_after (codes "--limit=") (string_bytes word)) (text_after (codes "--sample=") (string_bytes word)) (string_bytes word) (flat_map in_two (texts words))

pub firstly : {A : Type 0} (words : List (String A)) → false ≡ (length words == 0) → after_first (front_of (flat_map in_two (texts words))) ≡ options_by (texts words)
firstly words e = some (λ ws. after_first (front_of ws) ≡ options_spelled ws) (λ x xs. sym (by_fronts x xs)) words e

pub secondly : {A : Type 0} (first : Setting) (words : List (String A)) → false ≡ (length words == 0)
    → after_second first (front_of (flat_map in_two (texts words))) ≡ after_first (Some (first, flat_map in_two (texts words)))
secondly first words e = some (λ ws. after_second first (front_of ws) ≡ after_first (Some (first, ws))) (λ x xs. refl) words e

pub lastly : {A : Type 0} (first second : Setting) (words : List (String A)) → false ≡ (length words == 0) → None ≡ after_second first (Some (second, flat_map in_two (texts words)))
lastly first second words e = some (λ ws. None ≡ after_second first (Some (second, ws))) (λ x xs. refl) words e

pub both : {A : Type 0} (first second : Setting) (words : List (String A)) → true ≡ (length words == 0) → together first second ≡ after_second first (Some (second, flat_map in_two (texts words)))
both first second [] e = refl
both first second (word ∷ words) e = apart (e ∙ suc_is_not (length words))
