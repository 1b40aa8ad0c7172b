-- What a walk tells after a module that it meets.
use Rattle.std.proofs.Common.{◌≡◌, ℕ, List, Bool, true, false, None, ◌≤◌, refl, ap, ◌∙◌, subst}
use Rattle.lsys_spec.specs.Levels as L
use Rattle.lsys_spec.specs.Levels.{ModuleValue}
use Rattle.lsys_spec.specs.Walks.{Mark, Told, says, before}
use Rattle.lsys_spec.specs.Meaning.{most_entries}
use Rattle.lsys_spec.proofs.Meetings.{met}
use Rattle.lsys_walks.specs.declared.meeting.Meeting.{Meeting}
use Rattle.lsys_walks.specs.declared.meeting.Meeting.TheVariants as meeting
use Rattle.lsys_walks.specs.Noted.{entry_by}
use Rattle.lsys_walks.specs.Meetings.{noted_met, GoesBy}
use Rattle.lsys_walks.proofs.Told.{Answer}

-- what is told after it: as before where it is ignored, else what follows where it fits
abbrev pub going : Bool → Bool → Told Answer → Told Answer → Told Answer
going true fitting on next = on
going false true on next = next
going false false on next = says None

pub met_is : (ignored fitting : Bool) (d : Mark) (t : ℕ) (m : ModuleValue) (naming : ℕ → List ℕ) (on next : Told Answer)
    → met ignored fitting d (L.Module (naming t) m) on next ≡ before (entry_by naming (noted_met ignored d t m)) (going ignored fitting on next)
met_is true fitting d t m naming on next = refl
met_is false true d t m naming on next = refl
met_is false false d t m naming on next = refl

module _ (ignored fitting : Bool) (on next : Told Answer) where
  pub going_passed : ignored ≡ true → going ignored fitting on next ≡ on
  going_passed i = ap (λ b. going b fitting on next) i

  pub going_matched : ignored ≡ false → fitting ≡ true → going ignored fitting on next ≡ next
  going_matched i j = ap (λ b. going b fitting on next) i ∙ ap (λ b. going false b on next) j

  pub going_missed : ignored ≡ false → fitting ≡ false → going ignored fitting on next ≡ says None
  going_missed i j = ap (λ b. going b fitting on next) i ∙ ap (λ b. going false b on next) j

-- where the walk goes on there was room for the entry
module _ (ignored fitting : Bool) (read : ℕ) (y : Meeting) where
  pub few_passed : y ≡ meeting.Passed → GoesBy ignored fitting read y → read ≤ most_entries
  few_passed e g = let x : GoesBy ignored fitting read meeting.Passed = subst (GoesBy ignored fitting read) e g in x.0

  pub few_matched : y ≡ meeting.Matched → GoesBy ignored fitting read y → read ≤ most_entries
  few_matched e g = let x : GoesBy ignored fitting read meeting.Matched = subst (GoesBy ignored fitting read) e g in x.0
