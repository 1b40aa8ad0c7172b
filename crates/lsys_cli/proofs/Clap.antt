-- What `clap` finds in a list of words that is in the grammar.
use Rattle.std.proofs.Common.{◌≡◌, ap, ap₂, refl, codes, true, false, Bool, List, Option, Some, None, [], ◌∷◌, ◌∙◌, ◌++◌}
use Rattle.std.specs.Prelude.{fold, option_and_then, if◌then◌else◌, ◌||◌, ◌&&◌, is_some}
use Rattle.std.specs.List.{list_all}
use Rattle.std.specs.Option.{option_map_or}
use Rattle.std.specs.Str.{bytes_eq}
use Rattle.clap.specs.Lexer.{strip_byte, long_of, long_of_rest, short_of, short_of_rest}
use Rattle.clap.specs.Words.{App, Row, Rule, Text, first_of, is_simple, new_app, new_rule, matches_of, takes, with_rule, built}
use Rattle.clap.specs.Walk.{Held, Walk, Step, option, trailing, walked, after_step, long_or_other, short_or_plain, finished, plain_word, used_by_id, arg_by_id}
use Rattle.clap.specs.Takes.{turn_passes, walk_passes, step_passes, flag_word_passes, bundle_passes, entered_passes, settle_passes, default_passes, is_valid}
use Rattle.clap.specs.Simple.{Shape, entered}
use Rattle.clap.specs.declared.builder.ArgAction.TheVariants.{Set}
use Rattle.clap.proofs.OnLiterals.{clap_on_literals}

abbrev pub limit_rule : Rule
limit_rule = record (new_rule (codes "limit")) { long = Some (codes "limit"); action = Some Set }

abbrev pub sample_rule : Rule
sample_rule = record (new_rule (codes "sample")) { long = Some (codes "sample"); action = Some Set }

abbrev pub bare : App
bare = new_app (codes "lsys")

abbrev pub lsys : App
lsys = with_rule (with_rule (record bare { top = record bare.top { no_binary_name = true } }) limit_rule) sample_rule

abbrev pub shape : Shape
shape = (built lsys).top

pub simple : is_simple lsys ≡ true
unfolding clap_on_literals
simple = refl

-- where the walk stands after an option without its value
abbrev pub before_value : Text → List Row → Walk
before_value id rows = record {
  held = record { rows = rows; pending = Some (id, []); skip = 0 };
  waiting = option id;
  position = 1;
  is_trailing = false;
  stopped = None;
}

-- a word that does not begin with a hyphen is no flag
pub no_long : (d : Text) → strip_byte 45 d ≡ None → long_of d ≡ None
no_long d plain = ap (λ o. option_and_then long_of_rest (option_and_then (strip_byte 45) o)) plain

pub no_short : (d : Text) → strip_byte 45 d ≡ None → short_of d ≡ None
no_short d plain = ap (λ o. option_and_then short_of_rest o) plain

-- a value word is taken as the value
pub value_step : (id d : Text) (rows : List Row) → strip_byte 45 d ≡ None → bytes_eq d (45 ∷ 45 ∷ []) ≡ false
    → walked shape.rules [] (before_value id rows) d ≡ (let met = plain_word shape.rules (option id) d (before_value id rows).held in after_step shape.rules d (before_value id rows) met.0 met.1)
unfolding clap_on_literals
value_step id d rows plain last =
    let w : Walk = before_value id rows in
    let h : Held = w.held in
    let go : Held × Step → Walk = λ m. after_step shape.rules d w m.0 m.1 in
    ap (λ b. go (if b then (h, trailing 1) else long_or_other shape.rules w.waiting d (long_of d) h)) last
    ∙ ap (λ o. go (long_or_other shape.rules w.waiting d o h)) (no_long d plain)
    ∙ ap (λ o. go (short_or_plain shape.rules w.waiting d o h)) (no_short d plain)

-- a value word passes
pub value_passes_step : (id d : Text) (rows : List Row) → strip_byte 45 d ≡ None → bytes_eq d (45 ∷ 45 ∷ []) ≡ false
    → turn_passes shape [] (before_value id rows) d ≡ (let met = plain_word shape.rules (option id) d (before_value id rows).held in step_passes shape 1 met.0 met.1)
unfolding clap_on_literals
value_passes_step id d rows plain last =
    let h : Held = (before_value id rows).held in
    let flags : Option Text → Bool = λ so. option_map_or (λ flags. bundle_passes shape.rules false flags h) so true in
    let met : Bool → Option (Text × Option Text) → Held × Step = λ b lo. if b then (h, trailing 1) else long_or_other shape.rules (option id) d lo h in
    let plain_met : Option Text → Held × Step = λ so. short_or_plain shape.rules (option id) d so h in
    ap (λ b. (b || flag_word_passes shape.rules false (long_of d) d h) && step_passes shape 1 (met b (long_of d)).0 (met b (long_of d)).1) last
    ∙ ap (λ lo. flag_word_passes shape.rules false lo d h && step_passes shape 1 (met false lo).0 (met false lo).1) (no_long d plain)
    ∙ ap (λ so. flags so && step_passes shape 1 (plain_met so).0 (plain_met so).1) (no_short d plain)

-- what is left of the walk: whether each word passes, and where it ends
abbrev rest_of : Walk → List Text → Bool × Walk
rest_of w words = (walk_passes shape [] w words, fold (walked shape.rules []) w words)

-- what a walk finds for both options, and whether the words are taken
abbrev found : Bool × Walk → Option Text × (Option Text × Bool)
found p = (
  first_of (codes "limit") (finished shape.rules p.1.held),
  (
    first_of (codes "sample") (finished shape.rules p.1.held),
    entered_passes (built lsys) p.1.stopped && (p.0 && (settle_passes shape.rules false p.1.held && (list_all default_passes shape.rules && is_valid shape (finished shape.rules p.1.held) (is_some (entered (built lsys) p.1.stopped))))),
  ),
)

-- what `clap` finds
abbrev pub found_in : List Text → Option Text × (Option Text × Bool)
found_in words = (first_of (codes "limit") (matches_of lsys words), (first_of (codes "sample") (matches_of lsys words), takes lsys words))

-- where the walk stands after an option's value
abbrev after_value : Text → Text → List Row → Walk
after_value id d rows = let met = plain_word shape.rules (option id) d (before_value id rows).held in after_step shape.rules d (before_value id rows) met.0 met.1

-- A word that is a value is told by its first byte, and so isn't a flag: the one place where the walk looks at a digit.
value : (id d : Text) (rows : List Row) (words : List Text) → strip_byte 45 d ≡ None → bytes_eq d (45 ∷ 45 ∷ []) ≡ false
    → rest_of (before_value id rows) (d ∷ words) ≡ rest_of (after_value id d rows) words
unfolding clap_on_literals
value id d rows words plain last =
    ap₂ (λ t w. (t && walk_passes shape [] w words, fold (walked shape.rules []) w words)) (value_passes_step id d rows plain last) (value_step id d rows plain last)

-- the row of a limit, and that of a sample
abbrev limit_row : Text → List Row
limit_row d = used_by_id (arg_by_id shape.rules (codes "limit")) (d ∷ []) []

abbrev sample_row : Text → List Row
sample_row d = used_by_id (arg_by_id shape.rules (codes "sample")) (d ∷ []) []

-- an option in one word, or in two
abbrev pub limit_words : Bool → Text → List Text
limit_words true d = (codes "--limit=" ++ d) ∷ []
limit_words false d = codes "--limit" ∷ d ∷ []

abbrev pub sample_words : Bool → Text → List Text
sample_words true d = (codes "--sample=" ++ d) ∷ []
sample_words false d = codes "--sample" ∷ d ∷ []

pub none_found : found_in [] ≡ (None, (None, true))
unfolding clap_on_literals
none_found = refl

module _ (d : Text) (plain : strip_byte 45 d ≡ None) (last : bytes_eq d (45 ∷ 45 ∷ []) ≡ false) where
  pub limit_found : (a : Bool) → found_in (limit_words a d) ≡ (Some d, (None, true))
  unfolding clap_on_literals
  limit_found true = refl
  limit_found false = ap found (value (codes "limit") d [] [] plain last)

  pub sample_found : (a : Bool) → found_in (sample_words a d) ≡ (None, (Some d, true))
  unfolding clap_on_literals
  sample_found true = refl
  sample_found false = ap found (value (codes "sample") d [] [] plain last)

  module _ (e : Text) (plain' : strip_byte 45 e ≡ None) (last' : bytes_eq e (45 ∷ 45 ∷ []) ≡ false) where
    pub limit_sample_found : (a b : Bool) → found_in (limit_words a d ++ sample_words b e) ≡ (Some d, (Some e, true))
    unfolding clap_on_literals
    limit_sample_found true true = refl
    limit_sample_found true false = ap found (value (codes "sample") e (limit_row d) [] plain' last')
    limit_sample_found false true = ap found (value (codes "limit") d [] ((codes "--sample=" ++ e) ∷ []) plain last)
    limit_sample_found false false =
        ap found (value (codes "limit") d [] (codes "--sample" ∷ e ∷ []) plain last) ∙ ap found (value (codes "sample") e (limit_row d) [] plain' last')

    pub sample_limit_found : (a b : Bool) → found_in (sample_words a d ++ limit_words b e) ≡ (Some e, (Some d, true))
    unfolding clap_on_literals
    sample_limit_found true true = refl
    sample_limit_found true false = ap found (value (codes "limit") e (sample_row d) [] plain' last')
    sample_limit_found false true = ap found (value (codes "sample") d [] ((codes "--limit=" ++ e) ∷ []) plain last)
    sample_limit_found false false =
        ap found (value (codes "sample") d [] (codes "--limit" ∷ e ∷ []) plain last) ∙ ap found (value (codes "limit") e (sample_row d) [] plain' last')
