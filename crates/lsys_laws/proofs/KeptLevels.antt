-- Each system of a session has its levels under the session's limit.
use Rattle.std.proofs.Common.{◌≡◌, ℕ, Bool, false, Result, Ok, Err, List, [], ◌∷◌, nat_lt, refl, arith}
use Rattle.std.proofs.lemmas.Bool.Decides.{nat_tests}
use Rattle.lsys_spec.specs.Systems.{System, opening, Each}
use Rattle.lsys_spec.specs.Edits.{changed}
use Rattle.lsys_spec.specs.Levels as L
use Rattle.lsys_spec.specs.Meaning.{LevelRefusal, meaning}
use Rattle.lsys_spec.specs.Refusals.{derivation_text}
use Rattle.lsys_spec.specs.Replies.{or_text, reply}
use Rattle.lsys_spec.specs.Output.{out}
use Rattle.lsys_laws.specs.Sessions.{HasLevels}
use Rattle.lsys_laws.proofs.Along.{Keeps, reply_keeps, out_keeps}

none_over : (m : ℕ) → nat_lt m 0 ≡ false
none_over m = grind (arith, nat_tests)

pub opening_levels : (limit : ℕ) → HasLevels limit opening
opening_levels limit = ([] ∷ [], rw (none_over limit) refl)

by_meaning : (limit : ℕ) (s : System) (r : Result (List (List L.LevelSymbol)) LevelRefusal) → meaning s limit ≡ r → (levels : List (List L.LevelSymbol)) → or_text derivation_text r ≡ Ok levels → HasLevels limit s
by_meaning limit s (Ok xs) e levels h = (xs, e)
by_meaning limit s (Err r) e levels h = cc

keeps : (limit : ℕ) → Keeps limit (HasLevels limit)
keeps limit s c w i d e levels h = by_meaning limit (changed s c) (meaning (changed s c) limit) refl levels h

pub reply_levels : (limit : ℕ) (s : System) (line : List ℕ) → HasLevels limit s → HasLevels limit (reply limit s line).next
reply_levels limit = reply_keeps limit (HasLevels limit) (keeps limit)

pub out_levels : (limit : ℕ) (script : List ℕ) (M : ℕ → Bool) → Each (λ r. HasLevels limit r.next) (out (reply limit) script M)
out_levels limit = out_keeps limit (HasLevels limit) (keeps limit) (opening_levels limit)
