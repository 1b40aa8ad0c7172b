-- The options that the words after `--limit` and `--sample` give, where there are such.
use Rattle.std.specs.Prelude.{◌≡◌, ℕ, ◌&&◌, Option, Some, None, List, nat_le, nat_lt, if◌then◌else◌, option_map, option_and_then, codes}
use Rattle.lsys_syntax.specs.Limits.{usual_module_limit, greatest_module_limit}
use Rattle.clap.specs.declared.parser.matches.Found.{Found}
use Rattle.clap.specs.declared.parser.matches.ArgMatches.{ArgMatches}
use Rattle.clap.specs.declared.error.Error.{Error}
use Rattle.clap.specs.declared.error.kind.ErrorKind.TheVariants.{OutOfMemory}
use Rattle.clap.specs.Words.{found_of, first_value, kind_of}
use Rattle.lsys_cli.specs.Words.{number_written, options_by}
use Rattle.lsys_cli.specs.declared.options.Options.{Options}

abbrev pub within_limits : ℕ → Option ℕ
within_limits n = if nat_lt 0 n && nat_le n greatest_module_limit then Some n else None

abbrev pub limit_by : Option (List ℕ) → Option ℕ
limit_by None = Some usual_module_limit
limit_by (Some word) = option_and_then within_limits (number_written word)

abbrev pub sample_by : Option (List ℕ) → Option (Option ℕ)
sample_by None = Some None
sample_by (Some word) = option_map Some (number_written word)

abbrev pub options_in : Option (List ℕ) → Option (List ℕ) → Option Options
options_in limit sample = option_and_then (λ n. option_map (λ s. record { limit = n; sample = s }) (sample_by sample)) (limit_by limit)

-- of what `clap` found
abbrev pub options_found : Found → Option Options
options_found found = options_in (first_value found (codes "limit")) (first_value found (codes "sample"))

-- what `clap` found in some words gives the options that they spell
abbrev pub GivesOptions : List (List ℕ) → ArgMatches → Type 0
GivesOptions words matches = options_found (found_of matches) ≡ options_by words

abbrev pub IsWantOfMemory : Error → Type 0
IsWantOfMemory error = kind_of error ≡ OutOfMemory
