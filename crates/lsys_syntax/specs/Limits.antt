-- The limits of the language: each is the most that is accepted.
use Rattle.std.specs.Prelude.{ℕ, ◌^◌}

-- 1. texts and numbers

abbrev pub most_script_bytes : ℕ
most_script_bytes = 16777216

-- of a line without its LF, a CR at its end counted
abbrev pub most_line_bytes : ℕ
most_line_bytes = 65536

-- of a label or a table
abbrev pub most_word_bytes : ℕ
most_word_bytes = 16

-- A value of a string or an expression is at least its negative, and below it.
abbrev pub value_bound : ℕ
value_bound = 2 ^ 63

-- every other number is below it
abbrev pub number_bound : ℕ
number_bound = 2 ^ 64

-- 2. expressions, strings and rules

-- of the ( , prefix -, prefix ! and ^ that are open at a token of an expression
abbrev pub nesting_bound : ℕ
nesting_bound = 32

abbrev pub most_expression_tokens : ℕ
most_expression_tokens = 256

-- of those after the `:` of its label
abbrev pub most_rule_tokens : ℕ
most_rule_tokens = 2048

-- of a module, or formals of a pattern
abbrev pub most_params : ℕ
most_params = 8

abbrev pub most_axiom_symbols : ℕ
most_axiom_symbols = 4096

-- modules of a left context
abbrev pub most_left : ℕ
most_left = 8

-- symbols of a right context, brackets counted
abbrev pub most_right : ℕ
most_right = 16

-- of a successor, brackets and cuts counted
abbrev pub most_successor_symbols : ℕ
most_successor_symbols = 128

-- 3. systems

-- productions and homomorphism rules together
abbrev pub most_rules : ℕ
most_rules = 256

-- `main` counted
abbrev pub most_tables : ℕ
most_tables = 16

-- as they are written, repeats counted; of a table's own list, too
abbrev pub most_ignored : ℕ
most_ignored = 64

abbrev pub most_schedule_words : ℕ
most_schedule_words = 64

abbrev pub greatest_version : ℕ
greatest_version = 2

-- of a system of version 1
abbrev pub most_depth : ℕ
most_depth = 64

-- of a system of version 2
abbrev pub most_depth_of_two : ℕ
most_depth_of_two = 256

-- 4. derivations and pictures

-- the module limit of a run without words: symbols of all levels together, brackets counted
abbrev pub usual_module_limit : ℕ
usual_module_limit = 100000

-- the greatest module limit that a run's words may name
abbrev pub greatest_module_limit : ℕ
greatest_module_limit = 1000000

-- of the trace of one question
abbrev pub most_entries : ℕ
most_entries = 1024

-- the sum of a group's weights
abbrev pub greatest_weight : ℕ
greatest_weight = 9223372036854775807

abbrev pub most_image_symbols : ℕ
most_image_symbols = 1000000

-- in magnitude
abbrev pub greatest_coordinate : ℕ
greatest_coordinate = 1000000000
