-- What a system of version 1 does as it did before there was another.
use Rattle.std.specs.Prelude.{◌≡◌, ℕ}
use Rattle.lsys_syntax.specs.Commands.{Command}
use Rattle.lsys_syntax.specs.Former.{IsFormer}
use Rattle.lsys_syntax.specs.Strings.{ModuleName}
use Rattle.lsys_spec.specs.Systems.{System, WellFormed}
use Rattle.lsys_spec.specs.Edits.{changed, refusal}
use Rattle.lsys_spec.specs.Former.{former_refusal, former_show_commands}
use Rattle.lsys_spec.specs.Bodies.{filter}
use Rattle.lsys_spec.specs.Meaning.{ignores, ignored_by}
use Rattle.lsys_spec.specs.Shown.{show_commands}

-- a command of version 1 leaves the version
abbrev pub FormerCommandsKeepTheVersion : Type 0
FormerCommandsKeepTheVersion =
    (s : System) (command : Command) → IsFormer command → (changed s command).version ≡ s.version

-- and the tables' own lists
abbrev pub FormerCommandsKeepOwnLists : Type 0
FormerCommandsKeepOwnLists =
    (s : System) (command : Command) → IsFormer command → (changed s command).own ≡ s.own

-- and the numbering
abbrev pub FormerCommandsKeepTheNumbering : Type 0
FormerCommandsKeepTheNumbering =
    (s : System) (command : Command) → IsFormer command
    → (changed s command).numbering ≡ s.numbering

-- a system of version 1 refuses a command of version 1 for what it was refused for
abbrev pub FormerCommandsAreRefusedAsBefore : Type 0
FormerCommandsAreRefusedAsBefore =
    (s : System) (command : Command) → WellFormed s → s.version ≡ 1 → IsFormer command
    → refusal s command ≡ former_refusal s command

-- in a system of version 1 a module is ignored exactly where its name is among the ignored names
abbrev pub FormerSystemsIgnoreByNameAlone : Type 0
FormerSystemsIgnoreByNameAlone =
    (s : System) → WellFormed s → s.version ≡ 1
    → (level : ℕ) (name : ModuleName) → ignored_by (filter s level) name ≡ ignores s.ignored name

-- `show` prints of a system of version 1 what it printed
abbrev pub FormerSystemsAreShownAsBefore : Type 0
FormerSystemsAreShownAsBefore =
    (s : System) → WellFormed s → s.version ≡ 1 → show_commands s ≡ former_show_commands s
