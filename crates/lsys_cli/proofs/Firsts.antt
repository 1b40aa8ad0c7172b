-- The option at the front of some words.
use Rattle.std.proofs.Common.{◌≡◌, ℕ, Bool, true, false, Option, Some, None, List, [], ◌∷◌, ◌++◌, ◌==◌, codes, refl, ap, sym, ◌∙◌}
use Rattle.std.specs.Prelude.{flat_map, option_map, option_and_then, if◌then◌else◌}
use Rattle.std.specs.Str.{bytes_eq}
use Rattle.lsys_cli.specs.Words.{is_number, number_written, limit_of, setting_of, text_after, name_and, in_two}
use Rattle.lsys_cli.specs.Fronts.{front_of}
use Rattle.lsys_cli.specs.declared.setting.Setting.{Setting}
use Rattle.lsys_cli.specs.declared.setting.Setting.TheVariants.{Sample}
use Rattle.lsys_cli.proofs.Numbers.{first_digit}

pub whole : (word : List ℕ) → is_number word ≡ true → in_two word ≡ word ∷ []
whole [] h = refl
whole (c ∷ cs) h =
    let no : (45 == c) ≡ false = first_digit c cs h in
    rw no refl

unset_by : (a b : Bool) (o : Option ℕ) → o ≡ None → (if a then option_and_then limit_of o else if b then option_map Sample o else None) ≡ None
unset_by true b o e = rw e refl
unset_by false true o e = rw e refl
unset_by false false o e = refl

unset : (name word : List ℕ) → number_written word ≡ None → setting_of name word ≡ None
unset name word e = unset_by (bytes_eq name (codes "--limit")) (bytes_eq name (codes "--sample")) (number_written word) e

unfronted : (name word : List ℕ) (rest : List (List ℕ)) → number_written word ≡ None → front_of (name ∷ word ∷ rest) ≡ None
unfronted name word rest e = ap (λ o. option_map (λ s. (s, rest)) o) (unset name word e)

no_front : (name word : List ℕ) (rest : List (List ℕ)) (limited sampled : Option (List ℕ)) → number_written word ≡ None
    → front_of (name ∷ (name_and (codes "--limit") limited (name_and (codes "--sample") sampled (word ∷ [])) ++ rest)) ≡ None
no_front name word rest (Some n) sampled e = unfronted name (codes "--limit") (n ∷ rest) refl
no_front name word rest None (Some n) e = unfronted name (codes "--sample") (n ∷ rest) refl
no_front name word rest None None e = unfronted name word rest e

pub second : (name word : List ℕ) (rest : List (List ℕ)) → front_of (name ∷ (in_two word ++ rest)) ≡ option_map (λ s. (s, rest)) (setting_of name word)
second name word rest = go (is_number word) refl
  where
    go : (b : Bool) → is_number word ≡ b → front_of (name ∷ (in_two word ++ rest)) ≡ option_map (λ s. (s, rest)) (setting_of name word)
    go true e = ap (λ ws. front_of (name ∷ (ws ++ rest))) (whole word e)
    go false e =
        let none : number_written word ≡ None = rw e refl in
        no_front name word rest (text_after (codes "--limit=") word) (text_after (codes "--sample=") word) none
        ∙ sym (ap (λ o. option_map (λ s. (s, rest)) o) (unset name word none))

pub with_number : (word name number : List ℕ) (words : List (List ℕ)) (found : Option Setting) → in_two word ≡ name ∷ number ∷ [] → found ≡ setting_of name number
    → front_of (flat_map in_two (word ∷ words)) ≡ option_map (λ s. (s, flat_map in_two words)) found
with_number word name number words found e f =
    ap (λ ws. front_of (ws ++ flat_map in_two words)) e ∙ ap (λ o. option_map (λ s. (s, flat_map in_two words)) o) (sym f)
