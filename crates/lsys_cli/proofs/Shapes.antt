-- Words in the grammar are the options in one word or two, each once, in either order.
use Rattle.std.proofs.Common.{◌≡◌, ◌⊎◌, ◌++◌, ◌∷◌, ◌∙◌, ◌==◌, ◌&&◌, ℕ, Bool, true, false, Option, Some, None, List, [], codes, refl, ap, ap₂, sym, subst, inl, inr, arith, nat_le, nat_lt, if◌then◌else◌}
use Rattle.std.specs.Prelude.{flat_map, option_map, option_and_then, is_some}
use Rattle.std.specs.Str.{bytes_eq}
use Rattle.std.proofs.lemmas.Bool.Decides.{nat_tests}
use Rattle.std.proofs.lemmas.Slice.Eq.{bytes_eq-Decides}
use Rattle.lsys_syntax.specs.Limits.{usual_module_limit, greatest_module_limit}
use Rattle.lsys_cli.specs.Words.{is_number, number_written, limit_of, setting_of, text_after, name_and, in_two, only_setting, together, options_spelled, options_by}
use Rattle.lsys_cli.specs.Values.{within_limits, options_in}
use Rattle.lsys_cli.specs.Fronts.{front_of}
use Rattle.lsys_cli.specs.declared.options.Options.{Options}
use Rattle.lsys_cli.specs.declared.setting.Setting.{Setting}
use Rattle.lsys_cli.specs.declared.setting.Setting.TheVariants.{Limit, Sample}
use Rattle.lsys_cli.proofs.Clap.{limit_words, sample_words}
use Rattle.lsys_cli.proofs.Firsts.{whole, second}
use Rattle.lsys_cli.proofs.Spelling.{after_first, by_fronts, by_cases}

apart : {P : Type 0} → false ≡ true → P
apart e = cc

of_map : {A B : Type 0} (f : A → B) (o : Option A) → is_some (option_map f o) ≡ true → is_some o ≡ true
of_map f None h = h
of_map f (Some a) h = refl

of_next : {A B : Type 0} (f : A → Option B) (o : Option A) → is_some (option_and_then f o) ≡ true → is_some o ≡ true
of_next f None h = h
of_next f (Some a) h = refl

numbered : (d : List ℕ) → is_some (number_written d) ≡ true → is_number d ≡ true
numbered d h = go (is_number d) refl
  where
    go : (b : Bool) → is_number d ≡ b → is_number d ≡ true
    go true e = e
    go false e = let none : number_written d ≡ None = rw e refl in apart (sym (ap is_some none) ∙ h)

cons_is : (b c : ℕ) (xs ys : List ℕ) → b ≡ c → xs ≡ ys → (b ∷ xs) ≡ (c ∷ ys)
cons_is b c xs ys e f = ap₂ (λ x zs. x ∷ zs) e f

after_is : (front text rest : List ℕ) → text_after front text ≡ Some rest → text ≡ front ++ rest
after_is [] text rest h = let e : text ≡ rest = cc in e
after_is (b ∷ front) [] rest h = cc
after_is (b ∷ front) (c ∷ text) rest h = go (b == c) refl h (after_is front text rest)
  where
    go : (t : Bool) → (b == c) ≡ t → (if t then text_after front text else None) ≡ Some rest → (text_after front text ≡ Some rest → text ≡ front ++ rest) → (c ∷ text) ≡ (b ∷ front) ++ rest
    go true e f k = let same : c ≡ b = grind (arith, nat_tests) in cons_is c b text (front ++ rest) same (k f)
    go false e f k = cc

-- what sets something is the name of an option, and a number
record Sets (name word : List ℕ) : Type 0 where
  name_is : (name ≡ codes "--limit") ⊎ (name ≡ codes "--sample")
  number : is_number word ≡ true

sets : (name word : List ℕ) → is_some (setting_of name word) ≡ true → Sets name word
sets name word h = go (bytes_eq name (codes "--limit")) (bytes_eq name (codes "--sample")) refl refl h
  where
    go : (a b : Bool) → bytes_eq name (codes "--limit") ≡ a → bytes_eq name (codes "--sample") ≡ b
        → is_some (if a then option_and_then limit_of (number_written word) else if b then option_map Sample (number_written word) else None) ≡ true → Sets name word
    go true b e f k = record { name_is = inl ((bytes_eq-Decides name (codes "--limit")).0 e); number = numbered word (of_next limit_of (number_written word) k) }
    go false true e f k = record { name_is = inr ((bytes_eq-Decides name (codes "--sample")).0 f); number = numbered word (of_map Sample (number_written word) k) }
    go false false e f k = apart k

-- words begin with an option
abbrev IsFront : List (List ℕ) → Type 0
IsFront words = (a : Bool) × (d : List ℕ) × (rest : List (List ℕ)) × (is_number d ≡ true) × ((words ≡ limit_words a d ++ rest) ⊎ (words ≡ sample_words a d ++ rest))

alone_fronted : (word : List ℕ) (words : List (List ℕ)) → is_some (front_of (word ∷ flat_map in_two words)) ≡ true → IsFront (word ∷ words)
alone_fronted word [] h = apart h
alone_fronted word (next ∷ words) h =
    let set : Sets word next = sets word next (of_map (λ s. (s, flat_map in_two words)) (setting_of word next) (sym (ap is_some (second word next (flat_map in_two words))) ∙ h)) in (
      false,
      next,
      words,
      set.number,
      elim (set.name_is) [
        | inl is ↦ inl (ap (λ w. w ∷ next ∷ words) is)
        | inr is ↦ inr (ap (λ w. w ∷ next ∷ words) is)
      ],
    )

fronted : (words : List (List ℕ)) → is_some (front_of (flat_map in_two words)) ≡ true → IsFront words
fronted [] h = apart h
fronted (word ∷ words) h = go (text_after (codes "--limit=") word) (text_after (codes "--sample=") word) refl refl h
  where
    go : (limited sampled : Option (List ℕ)) → text_after (codes "--limit=") word ≡ limited → text_after (codes "--sample=") word ≡ sampled
        → is_some (front_of (name_and (codes "--limit") limited (name_and (codes "--sample") sampled (word ∷ [])) ++ flat_map in_two words)) ≡ true → IsFront (word ∷ words)
    go (Some d) sampled e f k =
        let set : Sets (codes "--limit") d = sets (codes "--limit") d (of_map (λ s. (s, flat_map in_two words)) (setting_of (codes "--limit") d) k) in
        (true, d, words, set.number, inl (ap (λ w. w ∷ words) (after_is (codes "--limit=") word d e)))
    go None (Some d) e f k =
        let set : Sets (codes "--sample") d = sets (codes "--sample") d (of_map (λ s. (s, flat_map in_two words)) (setting_of (codes "--sample") d) k) in
        (true, d, words, set.number, inr (ap (λ w. w ∷ words) (after_is (codes "--sample=") word d f)))
    go None None e f k = alone_fronted word words k

-- of the names and numbers of some words, which are not none
parts_by : (P : List (List ℕ) → Type 0) → ((x : List ℕ) (xs : List (List ℕ)) → P (x ∷ xs)) → (word : List ℕ) (words : List (List ℕ)) → P (flat_map in_two (word ∷ words))
parts_by P h word words = by_cases P h (text_after (codes "--limit=") word) (text_after (codes "--sample=") word) word (flat_map in_two words)

of_after : (o : Option (Setting × List (List ℕ))) → is_some (after_first o) ≡ true → is_some o ≡ true
of_after None h = h
of_after (Some p) h = refl

first_fronted : (word : List ℕ) (words : List (List ℕ)) → is_some (options_spelled (flat_map in_two (word ∷ words))) ≡ true → is_some (front_of (flat_map in_two (word ∷ words))) ≡ true
first_fronted word words =
    parts_by (λ ws. is_some (options_spelled ws) ≡ true → is_some (front_of ws) ≡ true) (λ x xs h. of_after (front_of (x ∷ xs)) (sym (ap is_some (by_fronts x xs)) ∙ h)) word words

map_some : {A B : Type 0} (f : A → B) (o : Option A) → is_some o ≡ true → is_some (option_map f o) ≡ true
map_some f None h = h
map_some f (Some a) h = refl

of_both : {A B C : Type 0} (f : A → B → Option C) (o : Option A) (p : Option B) → is_some (option_and_then (λ a. option_and_then (f a) p) o) ≡ true → is_some p ≡ true
of_both f None p h = apart h
of_both f (Some a) p h = of_next (f a) p h

second_front : (a n x : List ℕ) (xs : List (List ℕ)) → is_some (options_spelled (a ∷ n ∷ x ∷ xs)) ≡ true → is_some (front_of (x ∷ xs)) ≡ true
second_front a n x [] h = apart h
second_front a n x (k ∷ []) h = map_some (λ s. (s, [])) (setting_of x k) (of_both together (setting_of a n) (setting_of x k) h)
second_front a n x (k ∷ z ∷ zs) h = apart h

second_fronted : (a n word : List ℕ) (words : List (List ℕ)) → is_some (options_spelled (a ∷ n ∷ flat_map in_two (word ∷ words))) ≡ true → is_some (front_of (flat_map in_two (word ∷ words))) ≡ true
second_fronted a n word words = parts_by (λ ws. is_some (options_spelled (a ∷ n ∷ ws)) ≡ true → is_some (front_of ws) ≡ true) (second_front a n) word words

no_third : (a n b k word : List ℕ) (words : List (List ℕ)) → is_some (options_spelled (a ∷ n ∷ b ∷ k ∷ flat_map in_two (word ∷ words))) ≡ true → ⊥
no_third a n b k word words = parts_by (λ ws. is_some (options_spelled (a ∷ n ∷ b ∷ k ∷ ws)) ≡ true → ⊥) (λ x xs h. apart h) word words

limit_parts : (a : Bool) (d : List ℕ) (words : List (List ℕ)) → is_number d ≡ true → flat_map in_two (limit_words a d ++ words) ≡ codes "--limit" ∷ d ∷ flat_map in_two words
limit_parts true d words h = refl
limit_parts false d words h = ap (λ ws. codes "--limit" ∷ (ws ++ flat_map in_two words)) (whole d h)

sample_parts : (a : Bool) (d : List ℕ) (words : List (List ℕ)) → is_number d ≡ true → flat_map in_two (sample_words a d ++ words) ≡ codes "--sample" ∷ d ∷ flat_map in_two words
sample_parts true d words h = refl
sample_parts false d words h = ap (λ ws. codes "--sample" ∷ (ws ++ flat_map in_two words)) (whole d h)

-- the same option twice is outside
no_two_limits_at : (n k : ℕ) (b c : Bool) → is_some (option_and_then (λ first. option_and_then (together first) (if c then Some (Limit k) else None)) (if b then Some (Limit n) else None)) ≡ true → ⊥
no_two_limits_at n k true true h = apart h
no_two_limits_at n k true false h = apart h
no_two_limits_at n k false c h = apart h

no_two_limits : (o p : Option ℕ) → is_some (option_and_then (λ first. option_and_then (together first) (option_and_then limit_of p)) (option_and_then limit_of o)) ≡ true → ⊥
no_two_limits None p h = apart h
no_two_limits (Some n) None h = no_two_limits_at n 0 (nat_lt 0 n && nat_le n greatest_module_limit) false h
no_two_limits (Some n) (Some k) h = no_two_limits_at n k (nat_lt 0 n && nat_le n greatest_module_limit) (nat_lt 0 k && nat_le k greatest_module_limit) h

no_two_samples : (o p : Option ℕ) → is_some (option_and_then (λ first. option_and_then (together first) (option_map Sample p)) (option_map Sample o)) ≡ true → ⊥
no_two_samples None p h = apart h
no_two_samples (Some n) None h = apart h
no_two_samples (Some n) (Some k) h = apart h

-- What holds of each list in one of the thirteen forms holds of all words in the grammar.
module _ (P : List (List ℕ) → Type 0) (none : P [])
    (limited : (a : Bool) (d : List ℕ) → is_number d ≡ true → P (limit_words a d))
    (sampled : (a : Bool) (d : List ℕ) → is_number d ≡ true → P (sample_words a d))
    (limit_first : (a b : Bool) (d e : List ℕ) → is_number d ≡ true → is_number e ≡ true → P (limit_words a d ++ sample_words b e))
    (sample_first : (a b : Bool) (d e : List ℕ) → is_number d ≡ true → is_number e ≡ true → P (sample_words a d ++ limit_words b e)) where
  limit_alone : (a : Bool) (d : List ℕ) → is_number d ≡ true → P (limit_words a d ++ [])
  limit_alone true d n = limited true d n
  limit_alone false d n = limited false d n

  sample_alone : (a : Bool) (d : List ℕ) → is_number d ≡ true → P (sample_words a d ++ [])
  sample_alone true d n = sampled true d n
  sample_alone false d n = sampled false d n

  limit_then_sample : (a b : Bool) (d e : List ℕ) (words : List (List ℕ)) → is_number d ≡ true → is_number e ≡ true
      → is_some (options_spelled (codes "--limit" ∷ d ∷ codes "--sample" ∷ e ∷ flat_map in_two words)) ≡ true → P (limit_words a d ++ (sample_words b e ++ words))
  limit_then_sample a true d e [] n k h = limit_first a true d e n k
  limit_then_sample a false d e [] n k h = limit_first a false d e n k
  limit_then_sample a b d e (word ∷ words) n k h = absurd (no_third (codes "--limit") d (codes "--sample") e word words h)

  sample_then_limit : (a b : Bool) (d e : List ℕ) (words : List (List ℕ)) → is_number d ≡ true → is_number e ≡ true
      → is_some (options_spelled (codes "--sample" ∷ d ∷ codes "--limit" ∷ e ∷ flat_map in_two words)) ≡ true → P (sample_words a d ++ (limit_words b e ++ words))
  sample_then_limit a true d e [] n k h = sample_first a true d e n k
  sample_then_limit a false d e [] n k h = sample_first a false d e n k
  sample_then_limit a b d e (word ∷ words) n k h = absurd (no_third (codes "--sample") d (codes "--limit") e word words h)

  limit_then_limit : (d e : List ℕ) (words : List (List ℕ)) → is_some (options_spelled (codes "--limit" ∷ d ∷ codes "--limit" ∷ e ∷ flat_map in_two words)) ≡ true → ⊥
  limit_then_limit d e [] h = no_two_limits (number_written d) (number_written e) h
  limit_then_limit d e (word ∷ words) h = no_third (codes "--limit") d (codes "--limit") e word words h

  sample_then_sample : (d e : List ℕ) (words : List (List ℕ)) → is_some (options_spelled (codes "--sample" ∷ d ∷ codes "--sample" ∷ e ∷ flat_map in_two words)) ≡ true → ⊥
  sample_then_sample d e [] h = no_two_samples (number_written d) (number_written e) h
  sample_then_sample d e (word ∷ words) h = no_third (codes "--sample") d (codes "--sample") e word words h

  limit_then : (a : Bool) (d : List ℕ) (words : List (List ℕ)) → is_number d ≡ true → is_some (options_spelled (codes "--limit" ∷ d ∷ flat_map in_two words)) ≡ true → P (limit_words a d ++ words)
  limit_then a d [] n h = limit_alone a d n
  limit_then a d (word ∷ words) n h = go (fronted (word ∷ words) (second_fronted (codes "--limit") d word words h))
    where
      go : IsFront (word ∷ words) → P (limit_words a d ++ word ∷ words)
      go f = elim (f.4) [
        | inl is ↦
            let parts : flat_map in_two (word ∷ words) ≡ codes "--limit" ∷ f.1 ∷ flat_map in_two f.2 = ap (λ ws. flat_map in_two ws) is ∙ limit_parts f.0 f.1 f.2 f.3 in
            absurd (limit_then_limit d f.1 f.2 (sym (ap (λ ws. is_some (options_spelled (codes "--limit" ∷ d ∷ ws))) parts) ∙ h))
        | inr is ↦
            let parts : flat_map in_two (word ∷ words) ≡ codes "--sample" ∷ f.1 ∷ flat_map in_two f.2 = ap (λ ws. flat_map in_two ws) is ∙ sample_parts f.0 f.1 f.2 f.3 in
            subst (λ ws. P (limit_words a d ++ ws)) (sym is) (limit_then_sample a f.0 d f.1 f.2 n f.3 (sym (ap (λ ws. is_some (options_spelled (codes "--limit" ∷ d ∷ ws))) parts) ∙ h))
      ]

  sample_then : (a : Bool) (d : List ℕ) (words : List (List ℕ)) → is_number d ≡ true → is_some (options_spelled (codes "--sample" ∷ d ∷ flat_map in_two words)) ≡ true → P (sample_words a d ++ words)
  sample_then a d [] n h = sample_alone a d n
  sample_then a d (word ∷ words) n h = go (fronted (word ∷ words) (second_fronted (codes "--sample") d word words h))
    where
      go : IsFront (word ∷ words) → P (sample_words a d ++ word ∷ words)
      go f = elim (f.4) [
        | inl is ↦
            let parts : flat_map in_two (word ∷ words) ≡ codes "--limit" ∷ f.1 ∷ flat_map in_two f.2 = ap (λ ws. flat_map in_two ws) is ∙ limit_parts f.0 f.1 f.2 f.3 in
            subst (λ ws. P (sample_words a d ++ ws)) (sym is) (sample_then_limit a f.0 d f.1 f.2 n f.3 (sym (ap (λ ws. is_some (options_spelled (codes "--sample" ∷ d ∷ ws))) parts) ∙ h))
        | inr is ↦
            let parts : flat_map in_two (word ∷ words) ≡ codes "--sample" ∷ f.1 ∷ flat_map in_two f.2 = ap (λ ws. flat_map in_two ws) is ∙ sample_parts f.0 f.1 f.2 f.3 in
            absurd (sample_then_sample d f.1 f.2 (sym (ap (λ ws. is_some (options_spelled (codes "--sample" ∷ d ∷ ws))) parts) ∙ h))
      ]

  shaped_by : (words : List (List ℕ)) → is_some (options_spelled (flat_map in_two words)) ≡ true → IsFront words → P words
  shaped_by words h f = elim (f.4) [
    | inl is ↦ subst P (sym is) (limit_then f.0 f.1 f.2 f.3 (sym (ap (λ ws. is_some (options_spelled ws)) (ap (λ ws. flat_map in_two ws) is ∙ limit_parts f.0 f.1 f.2 f.3)) ∙ h))
    | inr is ↦ subst P (sym is) (sample_then f.0 f.1 f.2 f.3 (sym (ap (λ ws. is_some (options_spelled ws)) (ap (λ ws. flat_map in_two ws) is ∙ sample_parts f.0 f.1 f.2 f.3)) ∙ h))
  ]

  pub by_shapes : (words : List (List ℕ)) → is_some (options_by words) ≡ true → P words
  by_shapes [] h = none
  by_shapes (word ∷ words) h = shaped_by (word ∷ words) h (fronted (word ∷ words) (first_fronted word words h))

-- what they spell, by the words after the names
limit_spells_at : (n : ℕ) (b : Bool) → option_map only_setting (if b then Some (Limit n) else None) ≡ option_and_then (λ n. Some (record { limit = n; sample = None })) (if b then Some n else None)
limit_spells_at n true = refl
limit_spells_at n false = refl

limit_spells_of : (o : Option ℕ) → option_map only_setting (option_and_then limit_of o) ≡ option_and_then (λ n. Some (record { limit = n; sample = None })) (option_and_then within_limits o)
limit_spells_of None = refl
limit_spells_of (Some n) = limit_spells_at n (nat_lt 0 n && nat_le n greatest_module_limit)

sample_spells_of : (o : Option ℕ) → option_map only_setting (option_map Sample o) ≡ option_map (λ s. record { limit = usual_module_limit; sample = s }) (option_map Some o)
sample_spells_of None = refl
sample_spells_of (Some n) = refl

limit_first_at : (n : ℕ) (b : Bool) (p : Option ℕ) → option_and_then (λ first. option_and_then (together first) (option_map Sample p)) (if b then Some (Limit n) else None)
    ≡ option_and_then (λ n. option_map (λ s. record { limit = n; sample = s }) (option_map Some p)) (if b then Some n else None)
limit_first_at n true None = refl
limit_first_at n true (Some k) = refl
limit_first_at n false p = refl

limit_first_of : (o p : Option ℕ) → option_and_then (λ first. option_and_then (together first) (option_map Sample p)) (option_and_then limit_of o)
    ≡ option_and_then (λ n. option_map (λ s. record { limit = n; sample = s }) (option_map Some p)) (option_and_then within_limits o)
limit_first_of None p = refl
limit_first_of (Some n) p = limit_first_at n (nat_lt 0 n && nat_le n greatest_module_limit) p

sample_first_at : (k n : ℕ) (b : Bool) → option_and_then (λ first. option_and_then (together first) (if b then Some (Limit n) else None)) (Some (Sample k))
    ≡ option_and_then (λ n. Some (record { limit = n; sample = Some k })) (if b then Some n else None)
sample_first_at k n true = refl
sample_first_at k n false = refl

sample_first_none : (o : Option ℕ) → ◌≡◌ {A = Option Options} None (option_and_then (λ n. option_map (λ s. record { limit = n; sample = s }) None) (option_and_then within_limits o))
sample_first_none None = refl
sample_first_none (Some n) = go (nat_lt 0 n && nat_le n greatest_module_limit)
  where
    go : (b : Bool) → ◌≡◌ {A = Option Options} None (option_and_then (λ n. option_map (λ s. record { limit = n; sample = s }) None) (if b then Some n else None))
    go true = refl
    go false = refl

sample_first_of : (o p : Option ℕ) → option_and_then (λ first. option_and_then (together first) (option_and_then limit_of p)) (option_map Sample o)
    ≡ option_and_then (λ n. option_map (λ s. record { limit = n; sample = s }) (option_map Some o)) (option_and_then within_limits p)
sample_first_of None p = sample_first_none p
sample_first_of (Some k) None = refl
sample_first_of (Some k) (Some n) = sample_first_at k n (nat_lt 0 n && nat_le n greatest_module_limit)

append_none : (a : Bool) (d : List ℕ) → limit_words a d ≡ limit_words a d ++ []
append_none true d = refl
append_none false d = refl

append_none' : (a : Bool) (d : List ℕ) → sample_words a d ≡ sample_words a d ++ []
append_none' true d = refl
append_none' false d = refl

pub limit_spells : (a : Bool) (d : List ℕ) → is_number d ≡ true → options_by (limit_words a d) ≡ options_in (Some d) None
limit_spells a d n = ap (λ ws. options_by ws) (append_none a d) ∙ ap (λ ws. options_spelled ws) (limit_parts a d [] n) ∙ limit_spells_of (number_written d)

pub sample_spells : (a : Bool) (d : List ℕ) → is_number d ≡ true → options_by (sample_words a d) ≡ options_in None (Some d)
sample_spells a d n = ap (λ ws. options_by ws) (append_none' a d) ∙ ap (λ ws. options_spelled ws) (sample_parts a d [] n) ∙ sample_spells_of (number_written d)

pub limit_first_spells : (a b : Bool) (d e : List ℕ) → is_number d ≡ true → is_number e ≡ true → options_by (limit_words a d ++ sample_words b e) ≡ options_in (Some d) (Some e)
limit_first_spells a b d e n k =
    ap (λ ws. options_by (limit_words a d ++ ws)) (append_none' b e) ∙ ap (λ ws. options_spelled ws) (limit_parts a d (sample_words b e ++ []) n)
    ∙ ap (λ ws. options_spelled (codes "--limit" ∷ d ∷ ws)) (sample_parts b e [] k) ∙ limit_first_of (number_written d) (number_written e)

pub sample_first_spells : (a b : Bool) (d e : List ℕ) → is_number d ≡ true → is_number e ≡ true → options_by (sample_words a d ++ limit_words b e) ≡ options_in (Some e) (Some d)
sample_first_spells a b d e n k =
    ap (λ ws. options_by (sample_words a d ++ ws)) (append_none b e) ∙ ap (λ ws. options_spelled ws) (sample_parts a d (limit_words b e ++ []) n)
    ∙ ap (λ ws. options_spelled (codes "--sample" ∷ d ∷ ws)) (limit_parts b e [] k) ∙ sample_first_of (number_written d) (number_written e)
