-- How the bytes of a name or a word are handed out.
use Rattle.std.specs.Prelude.{◌≡◌, ℕ, List, ◌≤◌, length, take}
use Rattle.lsys_text.specs.declared.short_text.ShortText.TheInside.{Inside}

-- sixteen places, of which the first ones are in use
pub record IsShortText (a : Inside) : Type 0 where
  pub within : a.len ≤ 16
  pub places : length a.bytes ≡ 16

-- the bytes in use
abbrev pub short_text : Inside → List ℕ
short_text a = take a.len a.bytes
