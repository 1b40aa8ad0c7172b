-- How a word is kept.
use Rattle.std.specs.Prelude.{◌≡◌, ℕ, List, ◌<◌, ◌^◌}
use Rattle.std.proofs.Common.{ap}
use Rattle.lsys_syntax.specs.Pieces.{IsWordText}
use Rattle.lsys_text.specs.declared.names.Word.TheInside.{Inside}
use Rattle.lsys_text.specs.Packed.{packed, unpacked, packed-unpacked}

-- a number of 128 bits that keeps a word
pub record IsPackedWord (a : Inside) : Type 0 where
  pub fits : a.0 < 2 ^ 128
  pub text : IsWordText (unpacked a.0)

-- the text that it keeps
abbrev pub word_text : Inside → List ℕ
word_text a = unpacked a.0

-- the number that keeps a text
abbrev pub word_with_text : List ℕ → Inside
word_with_text text = record { 0 = packed text }

-- a word is that of its text
pub word_kept : (a : Inside) → IsPackedWord a → word_with_text (word_text a) ≡ a
word_kept a h = let P : ℕ → Inside = λ n. record { 0 = n } in ap P (packed-unpacked a.0 h.fits)
