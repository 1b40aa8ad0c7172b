-- A reply to one line, and the texts of refusals.
use Rattle.std.specs.Prelude.{ℕ, zero, suc, Bool, true, false, List, [], ◌∷◌, ◌++◌, ◌||◌, ◌+◌, length, codes, decimal, nat_lt}
use Rattle.lsys_syntax.specs.Limits.{most_line_bytes}
use Rattle.lsys_syntax.specs.Lines.{is_blank_line, is_comment}
use Rattle.lsys_syntax.specs.Tokens.{Token}
use Rattle.lsys_spec.specs.Systems.{System}
use Rattle.lsys_spec.specs.Edits.{Why, wrong_version, unknown_name, duplicate, mixed, wrong_label, wrong_table, wrong_level, many}
use Rattle.lsys_spec.specs.Values.{Arith, Overflow, DivideByZero, NegativePower}
use Rattle.lsys_spec.specs.Choice.{Fault, Arithmetic, NegativeWeight, WeightTotal, TooFar}
use Rattle.lsys_spec.specs.Meaning as M
use Rattle.lsys_spec.specs.Images.{ImageRefusal, ImageFault, ImageLimit}

-- a text, the system after it, whether it is a refusal, whether for lack of memory, and whether the session ends
pub record Reply : Type 0 where
  pub text : List ℕ
  pub next : System
  pub is_refusal : Bool
  pub is_memory : Bool
  pub ends : Bool

abbrev pub line_feed : List ℕ
line_feed = 10 ∷ []

abbrev pub said : System → List ℕ → Reply
said s text = record { text = text; next = s; is_refusal = false; is_memory = false; ends = false }

-- `refused` and why; the system stays
abbrev pub refused : System → List ℕ → Reply
refused s why = record { text = codes "refused " ++ why ++ line_feed; next = s; is_refusal = true; is_memory = false; ends = false }

abbrev pub refused_memory : System → Reply
refused_memory s = record { text = codes "refused memory" ++ line_feed; next = s; is_refusal = true; is_memory = true; ends = false }

abbrev pub session_end : System → Reply
session_end s = record { text = []; next = s; is_refusal = false; is_memory = false; ends = true }

-- a line without its LF, but with its CR, that has more bytes than a line may
abbrev pub is_long : List ℕ → Bool
is_long line = nat_lt most_line_bytes (length line)

-- a line without its CR that is empty, blank or a comment: it has no reply
abbrev pub is_passed_over : List ℕ → Bool
is_passed_over bare = is_blank_line bare || is_comment bare

-- the column of the token at a place; the end of the line where there is none
abbrev pub column_at : ℕ → ℕ → List Token → ℕ
column_at end n [] = end + 1
column_at end zero (t ∷ ts) = t.start + 1
column_at end (suc n) (t ∷ ts) = column_at end n ts

abbrev pub why_word : Why → List ℕ
why_word wrong_version = codes "version"
why_word unknown_name = codes "name"
why_word duplicate = codes "duplicate"
why_word mixed = codes "mixed"
why_word wrong_label = codes "label"
why_word wrong_table = codes "table"
why_word wrong_level = codes "level"
why_word many = codes "many"

abbrev pub arith_word : Arith → List ℕ
arith_word Overflow = codes "overflow"
arith_word DivideByZero = codes "divide-by-zero"
arith_word NegativePower = codes "negative-power"

abbrev pub fault_word : Fault → List ℕ
fault_word (Arithmetic e) = arith_word e
fault_word NegativeWeight = codes "negative-weight"
fault_word WeightTotal = codes "weight-total"
fault_word TooFar = codes "too-far"

abbrev pub with_number : List ℕ → ℕ → List ℕ
with_number word n = word ++ 32 ∷ decimal n

abbrev pub derivation_text : M.LevelRefusal → List ℕ
derivation_text (M.OverLimit t) = with_number (codes "limit level") t
derivation_text (M.FaultAt k t n) = codes "fault " ++ fault_word k ++ with_number (codes " level") t ++ with_number (codes " module") n

abbrev pub image_text : ImageRefusal → List ℕ
image_text (ImageFault e n) = codes "fault " ++ arith_word e ++ with_number (codes " image") n
image_text ImageLimit = codes "image"
