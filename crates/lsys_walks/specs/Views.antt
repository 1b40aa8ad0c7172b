-- Entries and their parameters, as what was read.
use Rattle.std.specs.Prelude.{ℕ, ℤ, ◌+◌, List, [], ◌∷◌, take, drop}
use Rattle.lsys_spec.specs.Levels.{ModuleValue}
use Rattle.lsys_spec.specs.Walks as W
use Rattle.lsys_module.specs.Views.{module_name}
use Rattle.lsys_walks.specs.declared.mark.Mark.{Mark}
use Rattle.lsys_walks.specs.declared.entry.Entry.{Entry}
use Rattle.lsys_walks.specs.declared.entry.Entry.TheVariants as entries
use Rattle.lsys_walks.specs.Noted.{Noted, Compared, Ignored, Out, Branched}
use Rattle.lsys_walks.specs.Parts.{arity_of}

abbrev pub mark_of : Mark → W.Mark
mark_of d = record { rule = d.rule; depth = d.depth }

abbrev pub module_named : List ℕ → List ℤ → ModuleValue
module_named name params = record { name = module_name name; params = params }

-- an entry with these parameters
abbrev pub noted_of : Entry → List ℤ → Noted
noted_of (entries.Compared d arity tag name) params = Compared (mark_of d) tag (module_named name params)
noted_of (entries.Ignored d arity tag name) params = Ignored (mark_of d) tag (module_named name params)
noted_of (entries.Out d tag) params = Out (mark_of d) tag
noted_of (entries.Branch d tag mate) params = Branched (mark_of d) tag mate

abbrev pub arities : List Entry → ℕ
arities [] = 0
arities (e ∷ es) = arity_of e + arities es

-- entries, whose parameters stand in order
abbrev pub decoded : List Entry → List ℤ → List Noted
decoded [] values = []
decoded (e ∷ es) values = noted_of e (take (arity_of e) values) ∷ decoded es (drop (arity_of e) values)

-- what was read at a module that was compared, or that was ignored
abbrev pub compared_of : Mark → ℕ → List ℕ → List ℤ → Noted
compared_of d tag name params = Compared (mark_of d) tag (module_named name params)

abbrev pub ignored_of : Mark → ℕ → List ℕ → List ℤ → Noted
ignored_of d tag name params = Ignored (mark_of d) tag (module_named name params)
