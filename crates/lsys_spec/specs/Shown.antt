-- What `string` and `show` print.
use Rattle.std.specs.Prelude.{ℕ, Some, List, [], ◌∷◌, ◌++◌, ◌==◌, map, if◌then◌else◌}
use Rattle.lsys_syntax.specs.Pieces.{text_of}
use Rattle.lsys_syntax.specs.Strings.{string_text}
use Rattle.lsys_syntax.specs.Rules.{Production}
use Rattle.lsys_syntax.specs.Commands.{Command, set_axiom, put_production, set_ignored, set_schedule, set_seed, set_depth, set_lattice, put_homomorphism, Numbering, by_place, by_name, set_version, set_own, set_numbering, command_pieces}
use Rattle.lsys_spec.specs.Systems.{System, Homomorphism, Own, written}
use Rattle.lsys_spec.specs.Levels as L

-- a level's string
abbrev pub level_text : List L.LevelSymbol → List ℕ
level_text x = string_text (map L.plain x)

abbrev pub as_put : Production → Command
as_put p = put_production (Some p.table) p.label p.rule

abbrev pub as_put_homomorphism : Homomorphism → Command
as_put_homomorphism h = put_homomorphism h.label h.rule

abbrev pub as_set_own : Own → Command
as_set_own o = set_own o.kind o.table o.names

abbrev pub numbering_commands : Numbering → List Command
numbering_commands by_place = []
numbering_commands by_name = set_numbering by_name ∷ []

-- version 1 is that of the opening system, which numbers by places
abbrev pub version_commands : System → List Command
version_commands s = if s.version == 1 then [] else set_version s.version ∷ numbering_commands s.numbering

-- the commands that make the system from the opening one
abbrev pub show_commands : System → List Command
show_commands s =
    version_commands s
    ++ (set_lattice s.lattice ∷ set_seed s.seed ∷ set_axiom (written s.axiom_string) ∷ set_ignored s.ignored
    ∷ (map as_put s.rules ++ (map as_put_homomorphism s.homomorphisms ++ (map as_set_own s.own ++ set_schedule s.schedule ∷ set_depth s.depth ∷ []))))

-- each command's line, ended by LF
abbrev pub script_of : List Command → List ℕ
script_of [] = []
script_of (c ∷ cs) = text_of (command_pieces c) ++ 10 ∷ script_of cs

abbrev pub show_text : System → List ℕ
show_text s = script_of (show_commands s)
