-- How a name is kept.
use Rattle.std.specs.Prelude.{◌≡◌, ℕ, List, ◌<◌, ◌^◌}
use Rattle.std.proofs.Common.{ap, arith}
use Rattle.lsys_text.specs.declared.names.Name.TheInside.{Inside}
use Rattle.lsys_text.specs.Packed.{packed, unpacked, packed-unpacked}
use Rattle.lsys_text.specs.Texts.{IsNameBytes}

-- a number of 64 bits that keeps what can name a module
pub record IsPackedName (a : Inside) : Type 0 where
  pub fits : a.0 < 2 ^ 64
  pub text : IsNameBytes (unpacked a.0)

-- the text that it keeps
abbrev pub kept_text : Inside → List ℕ
kept_text a = unpacked a.0

-- the number that keeps a text
abbrev pub name_with_text : List ℕ → Inside
name_with_text text = record { 0 = packed text }

-- a name is that of its text
pub name_kept : (a : Inside) → IsPackedName a → name_with_text (kept_text a) ≡ a
name_kept a h = let fits : a.0 < 2 ^ 128 = omega (arith, h.fits) in let P : ℕ → Inside = λ n. record { 0 = n } in ap P (packed-unpacked a.0 fits)
