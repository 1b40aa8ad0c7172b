-- How a walk meets a module: what is noted of it, and whether the walk goes on.
use Rattle.std.specs.Prelude.{◌≡◌, ◌<◌, ◌≤◌, ◌++◌, ◌∷◌, [], ℕ, ℤ, Bool, true, false, Option, Some, None, List, Result, OnOk, IfOk, length}
use denote.Triple.Both.{Both}
use Rattle.lsys_syntax.specs.Calls.{Lent}
use Rattle.lsys_spec.specs.Levels.{ModuleValue}
use Rattle.lsys_spec.specs.Levels as L
use Rattle.lsys_spec.specs.Walks.{fits}
use Rattle.lsys_spec.specs.Walks as W
use Rattle.lsys_spec.specs.Meaning.{ignored_by, most_entries}
use Rattle.lsys_bodies.specs.declared.body.Pattern.{Pattern}
use Rattle.lsys_bodies.specs.declared.filter.Filter.{Filter}
use Rattle.lsys_bodies.specs.Filters.{filter_of}
use Rattle.lsys_bodies.specs.Views.{as_pattern}
use Rattle.lsys_walks.specs.declared.mark.Mark.{Mark}
use Rattle.lsys_walks.specs.declared.walked.Walked.TheVariants.{Found, Missed, TooFar}
use Rattle.lsys_walks.specs.declared.meeting.Meeting.{Meeting}
use Rattle.lsys_walks.specs.declared.meeting.Meeting.TheVariants.{Passed, Matched, Ends}
use Rattle.lsys_walks.specs.Noted.{Noted, Compared, Ignored}
use Rattle.lsys_walks.specs.Readings.{Read}
use Rattle.lsys_walks.specs.Views.{mark_of, module_named}

-- what is noted of a module that is ignored, or that isn't
abbrev pub noted_met : Bool → W.Mark → ℕ → ModuleValue → Noted
noted_met true d tag m = Ignored d tag m
noted_met false d tag m = Compared d tag m

-- a pattern is due, and the module fits it
abbrev pub fits_due : Option Pattern → ModuleValue → Bool
fits_due (Some q) m = fits (as_pattern q) (L.Module [] m)
fits_due None m = false

-- How the walk goes on at a module that is ignored or not, and fits or not, where so many entries were read with it.
abbrev pub GoesBy : Bool → Bool → ℕ → Meeting → Type 0
GoesBy ignored fitting read Passed = (read ≤ most_entries) × (ignored ≡ true)
GoesBy ignored fitting read Matched = (read ≤ most_entries) × (ignored ≡ false) × (fitting ≡ true)
GoesBy ignored fitting read (Ends Missed) = (read ≤ most_entries) × (ignored ≡ false) × (fitting ≡ false)
GoesBy ignored fitting read (Ends TooFar) = most_entries < read
GoesBy ignored fitting read (Ends Found) = ⊥

module _ {F : Type 0} (filter : Both Filter F) where
  -- the filter ignores the module
  abbrev pub passes_over : ModuleValue → Bool
  passes_over m = ignored_by (filter_of filter.entry) m.name

  -- the module was added, as ignored or as compared
  abbrev pub NotesModule : {E : Type 0} → Mark → ℕ → List ℕ → List ℤ → Lent Read → Result Meeting E → Type 0
  NotesModule d tag name params trace r =
      let m = module_named name params in
      OnOk r (trace.exit.now.read ≡ trace.entry.now.read ++ noted_met (passes_over m) (mark_of d) tag m ∷ [])

  -- it was passed where it is ignored, else compared with the pattern that is due
  abbrev pub DecidesModule : {E : Type 0} → Option Pattern → List ℕ → List ℤ → Lent Read → Result Meeting E → Type 0
  DecidesModule due name params trace r =
      let m = module_named name params in IfOk r (GoesBy (passes_over m) (fits_due due m) (length trace.exit.now.read))
