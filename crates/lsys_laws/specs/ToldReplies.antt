-- What the text of a reply tells.
use Rattle.std.specs.Prelude.{◌≡◌, ℕ, true, List, ◌++◌, codes, false, ◌≢◌, Bool}
use Rattle.lsys_spec.specs.Systems.{System, WellSpelled}
use Rattle.lsys_spec.specs.Refusals.{line_feed, refused_memory}
use Rattle.lsys_spec.specs.Replies.{reply}
use Rattle.lsys_spec.specs.Output.{IsFront, out, output_text}

-- a refusal is `refused`, a blank, why, and an LF
abbrev pub RefusalsSayRefused : Type 0
RefusalsSayRefused =
    (limit : ℕ) (s : System) (line : List ℕ) → WellSpelled s
    → (reply limit s line).is_refusal ≡ true
    → (why : List ℕ) × ((reply limit s line).text ≡ codes "refused " ++ why ++ line_feed)

-- a reply that is no refusal doesn't begin with `refused` and a blank
abbrev pub OtherRepliesDoNotSayRefused : Type 0
OtherRepliesDoNotSayRefused =
    (limit : ℕ) (s : System) (line : List ℕ) → WellSpelled s
    → (reply limit s line).is_refusal ≡ false
    → IsFront (codes "refused ") (reply limit s line).text → ⊥

-- no other reply has the text of a refusal for lack of memory
abbrev pub WantOfMemoryHasItsOwnText : Type 0
WantOfMemoryHasItsOwnText =
    (limit : ℕ) (s : System) (line : List ℕ) → WellSpelled s
    → (reply limit s line).text ≢ (refused_memory s).text

-- two outputs of one text are the same replies, whichever lines found no memory
abbrev pub TextsTellTheReplies : Type 0
TextsTellTheReplies =
    (limit : ℕ) (script : List ℕ) (lacks lacks' : ℕ → Bool)
    → output_text (out (reply limit) script lacks) ≡ output_text (out (reply limit) script lacks')
    → out (reply limit) script lacks ≡ out (reply limit) script lacks'
