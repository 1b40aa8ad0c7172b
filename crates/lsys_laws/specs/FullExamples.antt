-- Examples of the definitions of lsys_spec, which the checker computes: a system that is full of tables and of rules.
use Rattle.std.specs.Prelude.{◌≡◌, ℕ, Some, None, [], ◌∷◌, ◌++◌, map, replicate, codes, refl}
use Rattle.lsys_syntax.specs.Tokens.{short}
use Rattle.lsys_syntax.specs.Strings.{named, plus}
use Rattle.lsys_syntax.specs.Rules.{Rule, Production}
use Rattle.lsys_syntax.specs.Commands.{put_production, put_homomorphism, set_ignored, set_schedule, set_depth, print_string, drop_rule}
use Rattle.lsys_spec.specs.Systems.{System, opening}
use Rattle.lsys_spec.specs.Edits.{refusal, many, wrong_label, wrong_table, wrong_level}

abbrev pub plain_rule : Rule
plain_rule =
    record { left = []; name = named (short 65); formals = []; right = []; condition = None; weight = None; successor = [] }

-- a rule of a table of one letter, which is its label too
abbrev of_table : ℕ → Production
of_table letter = record { table = letter ∷ []; label = letter ∷ []; rule = plain_rule }

-- 15 tables besides main, and 256 rules
abbrev full : System
full =
    record opening {
      rules = map of_table (codes "abcdefghijklmno") ++ replicate 241 (record { table = codes "main"; label = codes "r"; rule = plain_rule });
    }

-- a new table passes the limit at its word, and a new rule of a table that stands at its label; a label of another table
-- is refused before either
pub limits_of_tables_and_rules :
    map (refusal full)
    (put_production (Some (codes "nw")) (codes "q") plain_rule ∷ put_production None (codes "q") plain_rule
    ∷ put_production (Some (codes "b")) (codes "q") plain_rule ∷ put_production (Some (codes "nw")) (codes "r") plain_rule
    ∷ put_production None (codes "r") plain_rule ∷ [])
    ≡ Some (record { why = many; place = 1 }) ∷ Some (record { why = many; place = 1 }) ∷ Some (record { why = many; place = 2 })
    ∷ Some (record { why = wrong_label; place = 2 }) ∷ None ∷ []
limits_of_tables_and_rules = refl

-- with the homomorphism's rules there are 256: a new one is refused at its label, before its own limits, and one that stands is not
abbrev full_images : System
full_images =
    record opening {
      rules = replicate 254 (record { table = codes "main"; label = codes "r"; rule = plain_rule });
      homomorphisms = record { label = codes "h"; rule = plain_rule } ∷ record { label = codes "i"; rule = plain_rule } ∷ [];
    }

pub limits_of_images :
    map (refusal full_images)
    (put_homomorphism (codes "q") plain_rule ∷ put_homomorphism (codes "i") plain_rule ∷ put_homomorphism (codes "r") plain_rule
    ∷ put_production None (codes "q") plain_rule ∷ put_production None (codes "r") plain_rule ∷ put_production None (codes "i") plain_rule ∷ [])
    ≡ Some (record { why = many; place = 1 }) ∷ None ∷ Some (record { why = wrong_label; place = 1 })
    ∷ Some (record { why = many; place = 1 }) ∷ None ∷ Some (record { why = wrong_label; place = 1 }) ∷ []
limits_of_images = refl

-- 64 ignored names, and 64 words of a schedule
pub names_and_words :
    map (refusal full_images)
    (set_ignored (replicate 64 plus) ∷ set_ignored (replicate 65 plus) ∷ set_schedule (replicate 64 (codes "main")) ∷ set_schedule (replicate 65 (codes "main"))
    ∷ set_schedule (replicate 65 (codes "other")) ∷ set_depth 64 ∷ set_depth 65 ∷ print_string (Some 0) ∷ print_string (Some 1) ∷ drop_rule (codes "i") ∷ drop_rule (codes "q") ∷ [])
    ≡ None ∷ Some (record { why = many; place = 65 }) ∷ None ∷ Some (record { why = many; place = 65 })
    ∷ Some (record { why = wrong_table; place = 1 }) ∷ None ∷ Some (record { why = many; place = 1 }) ∷ None ∷ Some (record { why = wrong_level; place = 1 })
    ∷ None ∷ Some (record { why = wrong_label; place = 1 }) ∷ []
names_and_words = refl

-- with nine different formals
abbrev nine_formals : Rule
nine_formals = record plain_rule { formals = map short (codes "abcdefghi") }

pub limits_in_order :
    map (refusal full_images)
    (put_production None (codes "q") nine_formals ∷ put_production None (codes "r") nine_formals ∷ put_homomorphism (codes "q") nine_formals
    ∷ put_homomorphism (codes "i") nine_formals ∷ [])
    ≡ Some (record { why = many; place = 1 }) ∷ Some (record { why = many; place = 21 }) ∷ Some (record { why = many; place = 1 })
    ∷ Some (record { why = many; place = 21 }) ∷ []
limits_in_order = refl
