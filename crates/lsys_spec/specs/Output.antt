-- The replies to a whole script.
use Rattle.std.specs.Prelude.{◌≡◌, ℕ, ◌+◌, ◌==◌, List, [], ◌∷◌, ◌++◌, ◌||◌, ◌&&◌, not, Bool, true, false, flat_map, if◌then◌else◌}
use Rattle.lsys_syntax.specs.Lines.{lines_of, without_cr}
use Rattle.lsys_spec.specs.Systems.{System, opening}
use Rattle.lsys_spec.specs.Refusals.{Reply, refused_memory, is_long, is_passed_over}

-- lack of memory may stand in place of every reply, but not of none, and not of that to a line which is too long
abbrev pub may_lack_memory : List ℕ → Bool
may_lack_memory line = not (is_long line) && not (is_passed_over (without_cr line))

abbrev pub memory_or : Bool → System → Reply → Reply
memory_or true s r = refused_memory s
memory_or false s r = r

-- the reply to a line that may be refused for lack of memory
abbrev pub reply_or_memory : (System → List ℕ → Reply) → Bool → System → List ℕ → Reply
reply_or_memory answer lacks s line = memory_or (lacks && may_lack_memory line) s (answer s line)

-- a reply, and after it what follows from its system, unless it ends the session
abbrev pub reply_followed : Reply → (System → List Reply) → List Reply
reply_followed r rest = r ∷ elim r.ends [ true ↦ [] | false ↦ rest r.next ]

-- the replies to lines that are numbered from n on; those whose numbers are in M are refused for lack of memory
abbrev pub replies_from : (System → List ℕ → Reply) → (ℕ → Bool) → ℕ → System → List (List ℕ) → List Reply
replies_from answer M n s [] = []
replies_from answer M n s (line ∷ lines) =
    reply_followed (reply_or_memory answer (M n) s line) (λ next. replies_from answer M (n + 1) next lines)

abbrev pub out : (System → List ℕ → Reply) → List ℕ → (ℕ → Bool) → List Reply
out answer script M = replies_from answer M 1 opening (lines_of script)

abbrev pub output_text : List Reply → List ℕ
output_text rs = flat_map (λ r. r.text) rs

abbrev pub any_refusal : List Reply → Bool
any_refusal [] = false
any_refusal (r ∷ rs) = r.is_refusal || any_refusal rs

abbrev pub any_memory : List Reply → Bool
any_memory [] = false
any_memory (r ∷ rs) = r.is_memory || any_memory rs

-- no line
abbrev pub none : ℕ → Bool
none n = false

-- the system after the replies; where there are none, the opening one
abbrev pub last_system : List Reply → System
last_system [] = opening
last_system (r ∷ []) = r.next
last_system (r ∷ q ∷ rs) = last_system (q ∷ rs)

-- a script's replies as one text, with memory for each
abbrev pub run_with : (System → List ℕ → Reply) → List ℕ → List ℕ
run_with answer script = output_text (out answer script none)

-- the second list begins with the first
abbrev pub IsFront : {A : Type 0} → List A → List A → Type 0
IsFront {A = A} xs ys = (more : List A) × (ys ≡ xs ++ more)

abbrev pub any_end : List Reply → Bool
any_end [] = false
any_end (r ∷ rs) = r.ends || any_end rs

-- a `quit` of the script is heeded: it isn't refused for lack of memory, and no heeded one stands before it
abbrev pub quits : (System → List ℕ → Reply) → List ℕ → (ℕ → Bool) → Bool
quits answer script M = any_end (out answer script M)

abbrev pub with_byte : ℕ → List ℕ → List ℕ
with_byte b [] = if b == 10 then b ∷ [] else []
with_byte b (c ∷ bytes) = b ∷ c ∷ bytes

-- the whole lines among some bytes: up to the last LF
abbrev pub whole_lines : List ℕ → List ℕ
whole_lines [] = []
whole_lines (b ∷ bytes) = with_byte b (whole_lines bytes)
