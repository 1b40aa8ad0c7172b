-- What a call that writes leaves after.
use Rattle.std.specs.Prelude.{◌≡◌, ℕ, ◌≤◌, List, [], ◌++◌, length, take, Result, OnOk, OnErr}
use Rattle.std.specs.declared.option.Option.{Option}
use Rattle.std.specs.Io.KnownBytes.{Appends, append_known}
use Rattle.lsys_io.specs.declared.Failed.{Failed}
use Rattle.lsys_io.specs.Causes.{Rose}
use Rattle.lsys_syntax.specs.Calls.{Lent}

-- known bytes grew by a front of the bytes
abbrev pub AppendsFront : Option (List ℕ) → Option (List ℕ) → List ℕ → Type 0
AppendsFront old new bytes = (n : ℕ) × (n ≤ length bytes) × Appends old new (take n bytes)

-- A text was put after the bytes that are held before a sink; or the sink failed, and nothing is held any more. What was
-- written is a front of the bytes held and the text. The count of faults never falls, and tells whether the sink failed.
pub record WasPut {K A : Type 0} (written : K → Option (List ℕ)) (faults : K → ℕ) (sink_old sink_new : K) (held_old held_new text : List ℕ) (result : Result A Failed) : Type 0 where
  pub put : OnOk result (Appends (append_known (written sink_old) held_old) (append_known (written sink_new) held_new) text)
  pub writes_front : AppendsFront (written sink_old) (written sink_new) (held_old ++ text)
  pub failed_holds_nothing : OnErr result (held_new ≡ [])
  pub never_falls : faults sink_old ≤ faults sink_new
  pub failed_only_where_rose : OnErr result (Rose (faults sink_old) (faults sink_new))
  pub ok_leaves_count : OnOk result (faults sink_new ≡ faults sink_old)

-- a call that is lent the sink wrote a front of the bytes
abbrev pub WritesFront : {K : Type 0} → (K → Option (List ℕ)) → Lent K → List ℕ → Type 0
WritesFront written sink bytes =
    AppendsFront (written sink.entry.now) (written sink.exit.now) bytes

-- the same of the front of so many bytes
abbrev pub WritesSoMany : {K : Type 0} → (K → Option (List ℕ)) → Lent K → List ℕ → ℕ → Type 0
WritesSoMany written sink bytes n =
    Appends (written sink.entry.now) (written sink.exit.now) (take n bytes)
