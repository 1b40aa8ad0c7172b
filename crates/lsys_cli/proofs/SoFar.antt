-- What the loop over the lines keeps.
use Rattle.std.proofs.Common.{◌≡◌, ◌≢◌, ◌-◌, inl, inr, take, ℕ, List, [], ◌∷◌, ◌++◌, ◌+◌, ◌<◌, ◌≤◌, length, Bool, true, false, ◌||◌, cond, eqb, eq-eqb, refl, ap, sym, subst, ◌∙◌, arith, append-nil, append_assoc, length-append}
use Rattle.std.specs.Io.KnownBytes.{Appends}
use Rattle.std.proofs.lemmas.List.Concat.{flat_map-append}
use Rattle.std.proofs.lemmas.Bool.{ne_eqb, eqb-false}
use Rattle.std.proofs.Math.Bool.{or_assoc, or-false}
use Rattle.lsys_io.specs.Feeds.{has_lf}
use Rattle.lsys_syntax.specs.Lines.{lines_of}
use Rattle.lsys_syntax.specs.Limits.{most_script_bytes}
use Rattle.lsys_spec.specs.Refusals.{Reply}
use Rattle.lsys_spec.specs.Output.{output_text, any_refusal, any_memory, any_end, none, whole_lines}
use Rattle.lsys_spec.specs.Costs.{Cost, Visits, ◌and◌, no_cost}
use Rattle.lsys_spec.proofs.CostSums.{and_assoc}
use Rattle.lsys_laws.specs.Sessions.{HasLevels}
use Rattle.lsys_laws.proofs.KeptLevels.{opening_levels}
use Rattle.lsys_history.specs.Costs.{cost_followed, desk_cost, desk_costs_from, desk_line_cost}
use Rattle.lsys_history.proofs.Spending.{and_none, line_levels}
use Rattle.lsys_history.specs.Desks.{Desk, DeskReply, desk_followed, desk_out, desk_replies_from, desk_reply_or_memory, opening_desk}
use Rattle.std.proofs.Math.Seq.{take-append-add}
use Rattle.lsys_cli.specs.Ends.{IsScriptWithin, RunView, Worked, script_front}
use Rattle.lsys_session.specs.Answers.{refuses, lacks_memory, ends_session}
use Rattle.lsys_session.specs.declared.outcome.Outcome.{Outcome}
use Rattle.lsys_cli.proofs.Appending.{then, nothing}
use Rattle.lsys_cli.proofs.Feeds.{whole_to_feed, first_line}
use Rattle.lsys_cli.proofs.Replying.{IsReply, Replied}
use Rattle.lsys_cli.proofs.Working.{nothing_worked, worked_then}

-- both say the same of the lines before this number
abbrev pub Agrees : ℕ → (ℕ → Bool) → (ℕ → Bool) → Type 0
Agrees n answered M = (k : ℕ) → k < n → M k ≡ answered k

-- 1. the replies that were given

-- to the lines before this number, and which of them lacked memory; what was written, which kinds of refusal there were, and
-- what the lines cost
pub record Given (limit : ℕ) (old now : RunView) (refused memory : Bool) : Type 0 where
  pub number : ℕ
  pub answered : ℕ → Bool
  pub replies : List Reply
  pub put : Appends old.written now.written (output_text replies)
  pub refusals : refused ≡ any_refusal replies
  pub memories : memory ≡ any_memory replies
  pub ample : memory ≡ false → (k : ℕ) → k < number → answered k ≡ false
  pub cost : Cost
  pub worked : Worked limit cost old.counters now.counters

none_given : (limit : ℕ) (old : RunView) → Given limit old old false false
none_given limit old = record {
  number = 1;
  answered = none;
  replies = [];
  put = nothing old.written;
  refusals = refl;
  memories = refl;
  ample = λ _ k _. refl;
  cost = no_cost;
  worked = nothing_worked limit old.counters;
}

pub with_answer : ℕ → Bool → (ℕ → Bool) → ℕ → Bool
with_answer n b answered k = cond (eqb k n) b (answered k)

before : (n : ℕ) (b : Bool) (answered : ℕ → Bool) (k : ℕ) → k < n → with_answer n b answered k ≡ answered k
unfolding with_answer
before n b answered k l = rw (ne_eqb k n (λ q. omega (arith, l, q))) refl

here : (n : ℕ) (b : Bool) (answered : ℕ → Bool) → with_answer n b answered n ≡ b
unfolding with_answer
here n b answered = rw (eq-eqb n n refl) refl

all_false_at : (n : ℕ) (b : Bool) (answered : ℕ → Bool) (k : ℕ) (t : Bool) → eqb k n ≡ t → b ≡ false → (eqb k n ≡ false → answered k ≡ false) → with_answer n b answered k ≡ false
unfolding with_answer
all_false_at n b answered k true q e h = rw (q) e
all_false_at n b answered k false q e h = rw (q) (h q)

all_false : (n : ℕ) (b : Bool) (answered : ℕ → Bool) → b ≡ false → ((k : ℕ) → k < n → answered k ≡ false) → (k : ℕ) → k < n + 1 → with_answer n b answered k ≡ false
all_false n b answered e h k l = all_false_at n b answered k (eqb k n) refl e (λ q. h k (let ne : k ≢ n = eqb-false k n q in omega (arith, l, ne)))

any_refusal_push : (given : List Reply) (r : Reply) → any_refusal (given ++ r ∷ []) ≡ any_refusal given || r.is_refusal
any_refusal_push [] r = or-false r.is_refusal
any_refusal_push (g ∷ given) r = ap (λ t. g.is_refusal || t) (any_refusal_push given r) ∙ sym (or_assoc g.is_refusal (any_refusal given) r.is_refusal)

any_memory_push : (given : List Reply) (r : Reply) → any_memory (given ++ r ∷ []) ≡ any_memory given || r.is_memory
any_memory_push [] r = or-false r.is_memory
any_memory_push (g ∷ given) r = ap (λ t. g.is_memory || t) (any_memory_push given r) ∙ sym (or_assoc g.is_memory (any_memory given) r.is_memory)

pub any_end_push : (given : List Reply) (r : Reply) → any_end (given ++ r ∷ []) ≡ any_end given || r.ends
any_end_push [] r = or-false r.ends
any_end_push (g ∷ given) r = ap (λ t. g.ends || t) (any_end_push given r) ∙ sym (or_assoc g.ends (any_end given) r.ends)

or_no : (a b : Bool) → (a || b) ≡ false → (a ≡ false) × (b ≡ false)
or_no true b h = cc
or_no false b h = (refl, h)

text_push : (given : List Reply) (r : Reply) → output_text (given ++ r ∷ []) ≡ output_text given ++ r.text
text_push given r = flat_map-append (λ x. x.text) given (r ∷ []) ∙ ap (λ t. output_text given ++ t) (append-nil r.text)

not_lacking : (lacks : Bool) (r : Reply) → (lacks ≡ true → r.is_memory ≡ true) → r.is_memory ≡ false → lacks ≡ false
not_lacking true r h e = sym (h refl) ∙ e
not_lacking false r h e = refl

-- one reply more
pub more_given : (visits : Visits) (limit : ℕ) (d next : Desk) (line : List ℕ) (old now now' : RunView) (refused memory : Bool) (o : Outcome) → HasLevels limit d.system → Given limit old now refused memory → Replied visits limit d line now now' next o
    → Given limit old now' (refused || refuses o) (memory || lacks_memory o)
more_given visits limit d next line old now now' refused memory o levels g a = record {
  number = g.number + 1;
  answered = with_answer g.number a.lacks g.answered;
  replies = g.replies ++ a.answer.reply ∷ [];
  put = rw (text_push g.replies a.answer.reply) (then old.written now.written now'.written (output_text g.replies) a.answer.reply.text g.put a.put);
  refusals = ap (λ b. refused || b) (sym a.refusal) ∙ ap (λ b. b || a.answer.reply.is_refusal) g.refusals ∙ sym (any_refusal_push g.replies a.answer.reply);
  memories = ap (λ b. memory || b) (sym a.memory) ∙ ap (λ b. b || a.answer.reply.is_memory) g.memories ∙ sym (any_memory_push g.replies a.answer.reply);
  ample = λ z.
      let w = or_no memory (lacks_memory o) z in
      all_false g.number a.lacks g.answered (not_lacking a.lacks a.answer.reply a.is.honest (a.memory ∙ w.1)) (g.ample w.0);
  cost = g.cost and desk_line_cost visits limit a.lacks d line;
  worked = worked_then limit g.cost (desk_line_cost visits limit a.lacks d line) old.counters now.counters now'.counters g.worked (a.worked levels);
}

-- 2. the replies that are still to come

pub one_line : (limit : ℕ) (M : ℕ → Bool) (n : ℕ) (d : Desk) (line : List ℕ) (lines : List (List ℕ)) (b : Bool) (r : DeskReply) → M n ≡ b
    → r ≡ desk_reply_or_memory limit b d line → desk_replies_from limit M n d (line ∷ lines) ≡ desk_followed r (λ next. desk_replies_from limit M (n + 1) next lines)
one_line limit M n d line lines b r m e =
    ap (λ x. desk_followed (desk_reply_or_memory limit x d line) (λ next. desk_replies_from limit M (n + 1) next lines)) m
    ∙ ap (λ x. desk_followed x (λ next. desk_replies_from limit M (n + 1) next lines)) (sym e)

goes_on_by : (r : DeskReply) (rest : Desk → List Reply) (next : Desk) → r.reply.ends ≡ false → next ≡ r.next → desk_followed r rest ≡ r.reply ∷ rest next
goes_on_by r rest next e n = ap (λ b. r.reply ∷ elim b [ true ↦ [] | false ↦ rest r.next ]) e ∙ ap (λ x. r.reply ∷ rest x) (sym n)

ends_by : (r : DeskReply) (rest : Desk → List Reply) → r.reply.ends ≡ true → desk_followed r rest ≡ r.reply ∷ []
ends_by r rest e = ap (λ b. r.reply ∷ elim b [ true ↦ [] | false ↦ rest r.next ]) e

-- what they cost
one_cost : (visits : Visits) (limit : ℕ) (M : ℕ → Bool) (n : ℕ) (d : Desk) (line : List ℕ) (lines : List (List ℕ)) (b : Bool) (r : DeskReply) → M n ≡ b → r ≡ desk_reply_or_memory limit b d line
    → desk_costs_from visits limit M n d (line ∷ lines) ≡ cost_followed (desk_line_cost visits limit b d line) r (λ next. desk_costs_from visits limit M (n + 1) next lines)
one_cost visits limit M n d line lines b r m e =
    ap (λ x. cost_followed (desk_line_cost visits limit x d line) (desk_reply_or_memory limit x d line) (λ next. desk_costs_from visits limit M (n + 1) next lines)) m
    ∙ ap (λ x. cost_followed (desk_line_cost visits limit b d line) x (λ next. desk_costs_from visits limit M (n + 1) next lines)) (sym e)

costs_on_by : (c : Cost) (r : DeskReply) (rest : Desk → Cost) (next : Desk) → r.reply.ends ≡ false → next ≡ r.next → cost_followed c r rest ≡ c and rest next
costs_on_by c r rest next e n = ap (λ b. c and elim b [ true ↦ no_cost | false ↦ rest r.next ]) e ∙ ap (λ x. c and rest x) (sym n)

cost_ends_by : (c : Cost) (r : DeskReply) (rest : Desk → Cost) → r.reply.ends ≡ true → cost_followed c r rest ≡ c
cost_ends_by c r rest e = ap (λ b. c and elim b [ true ↦ no_cost | false ↦ rest r.next ]) e ∙ and_none c

none_and : (c : Cost) → c ≡ no_cost and c
none_and c =
    let p : c.need ≡ 0 + c.need = omega arith in
    let q : c.least ≡ 0 + c.least = omega arith in
    let r : c.most ≡ 0 + c.most = omega arith in
    let s : c.refusals ≡ 0 + c.refusals = omega arith in
    λ i. record { need = p i; least = q i; most = r i; refusals = s i }

-- these replies are given to some bytes, and they cost so much
pub record Tells (visits : Visits) (limit : ℕ) (bytes : List ℕ) (M : ℕ → Bool) (given : List Reply) (cost : Cost) : Type 0 where
  pub replies : desk_out limit bytes M ≡ given
  pub costs : desk_cost visits limit bytes M ≡ cost

-- for each M that agrees, some bytes are answered by the replies so far and those to what is after them
abbrev pub Told : Visits → ℕ → ℕ → (ℕ → Bool) → List Reply → Cost → List ℕ → Desk → List (List ℕ) → Type 0
Told visits limit number answered given cost bytes d lines = (M : ℕ → Bool) → Agrees number answered M
    → Tells visits limit bytes M (given ++ desk_replies_from limit M number d lines) (cost and desk_costs_from visits limit M number d lines)

-- and by the replies so far alone
abbrev pub ToldAll : Visits → ℕ → ℕ → (ℕ → Bool) → List Reply → Cost → List ℕ → Type 0
ToldAll visits limit number answered given cost bytes = (M : ℕ → Bool) → Agrees number answered M → Tells visits limit bytes M given cost

pub agree_before : (n : ℕ) (b : Bool) (answered M : ℕ → Bool) → Agrees (n + 1) (with_answer n b answered) M → Agrees n answered M
agree_before n b answered M agree i l = agree i (omega (arith, l)) ∙ before n b answered i l

pub agree_here : (n : ℕ) (b : Bool) (answered M : ℕ → Bool) → Agrees (n + 1) (with_answer n b answered) M → M n ≡ b
agree_here n b answered M agree = agree n (omega arith) ∙ here n b answered

told_more : (visits : Visits) (limit n : ℕ) (answered : ℕ → Bool) (given : List Reply) (cost : Cost) (bytes : List ℕ) (d next : Desk) (line : List ℕ) (lines : List (List ℕ)) (b : Bool) (r : DeskReply)
    → Told visits limit n answered given cost bytes d (line ∷ lines) → IsReply limit d line b r → r.reply.ends ≡ false → next ≡ r.next
    → Told visits limit (n + 1) (with_answer n b answered) (given ++ r.reply ∷ []) (cost and desk_line_cost visits limit b d line) bytes next lines
told_more visits limit n answered given cost bytes d next line lines b r told is e goes M agree =
    let before = told M (agree_before n b answered M agree) in
    let here : M n ≡ b = agree_here n b answered M agree in
    record {
      replies = before.replies
          ∙ ap (λ u. given ++ u) (one_line limit M n d line lines b r here is.is ∙ goes_on_by r (λ c. desk_replies_from limit M (n + 1) c lines) next e goes)
          ∙ sym (append_assoc given (r.reply ∷ []) (desk_replies_from limit M (n + 1) next lines));
      costs = before.costs
          ∙ ap (λ u. cost and u) (one_cost visits limit M n d line lines b r here is.is ∙ costs_on_by (desk_line_cost visits limit b d line) r (λ c. desk_costs_from visits limit M (n + 1) c lines) next e goes)
          ∙ sym (and_assoc cost (desk_line_cost visits limit b d line) (desk_costs_from visits limit M (n + 1) next lines));
    }

told_end : (visits : Visits) (limit n : ℕ) (answered : ℕ → Bool) (given : List Reply) (cost : Cost) (bytes : List ℕ) (d : Desk) (line : List ℕ) (lines : List (List ℕ)) (b : Bool) (r : DeskReply)
    → Told visits limit n answered given cost bytes d (line ∷ lines) → IsReply limit d line b r → r.reply.ends ≡ true
    → ToldAll visits limit (n + 1) (with_answer n b answered) (given ++ r.reply ∷ []) (cost and desk_line_cost visits limit b d line) bytes
told_end visits limit n answered given cost bytes d line lines b r told is e M agree =
    let before = told M (agree_before n b answered M agree) in
    let here : M n ≡ b = agree_here n b answered M agree in
    record {
      replies = before.replies ∙ ap (λ u. given ++ u) (one_line limit M n d line lines b r here is.is ∙ ends_by r (λ c. desk_replies_from limit M (n + 1) c lines) e);
      costs = before.costs
          ∙ ap (λ u. cost and u) (one_cost visits limit M n d line lines b r here is.is ∙ cost_ends_by (desk_line_cost visits limit b d line) r (λ c. desk_costs_from visits limit M (n + 1) c lines) e);
    }

-- nothing follows
pub told_no_more : (visits : Visits) (limit : ℕ) (bytes : List ℕ) (M : ℕ → Bool) (given : List Reply) (cost : Cost) → Tells visits limit bytes M (given ++ []) (cost and no_cost) → Tells visits limit bytes M given cost
told_no_more visits limit bytes M given cost t = record { replies = t.replies ∙ append-nil given; costs = t.costs ∙ and_none cost }

next_levels : (limit : ℕ) (d next : Desk) (line : List ℕ) (b : Bool) (r : DeskReply) → IsReply limit d line b r → next ≡ r.next → HasLevels limit d.system → HasLevels limit next.system
next_levels limit d next line b r is n levels =
    subst (λ (t : Desk). HasLevels limit t.system) (sym (n ∙ ap (λ (x : DeskReply). x.next) is.is)) (line_levels limit b d line levels)

-- 3. where a run stands

-- The lines at the script's front were answered, none of them by an end, and the rest is still to come.
pub record Running (visits : Visits) (limit : ℕ) (script rest : List ℕ) (old now : RunView) (d : Desk) (refused memory : Bool) (taken : ℕ) : Type 0 where
  pub given : Given limit old now refused memory
  pub front : List ℕ
  pub split : script ≡ front ++ rest
  pub counted : length front ≡ taken
  pub whole : (more : List ℕ) → whole_lines (front ++ more) ≡ front ++ whole_lines more
  pub told : (more : List ℕ) → Told visits limit given.number given.answered given.replies given.cost (front ++ more) d (lines_of more)
  pub levels : HasLevels limit d.system
  pub goes_on : any_end given.replies ≡ false

-- All lines up to the script's end, or up to a heeded `quit`, were answered.
pub record Finished (visits : Visits) (limit : ℕ) (script : List ℕ) (old now : RunView) (refused memory : Bool) : Type 0 where
  pub given : Given limit old now refused memory
  pub told : ToldAll visits limit given.number given.answered given.replies given.cost script
  pub within : (M : ℕ → Bool) → Agrees given.number given.answered M → IsScriptWithin limit script M

pub begin : (visits : Visits) (limit : ℕ) (script : List ℕ) (old : RunView) → Running visits limit script script old old opening_desk false false 0
unfolding none_given
begin visits limit script old = record {
  given = none_given limit old;
  front = [];
  split = refl;
  counted = refl;
  whole = λ more. refl;
  told = λ more M _. record { replies = refl; costs = none_and (desk_costs_from visits limit M 1 opening_desk (lines_of more)) };
  levels = opening_levels limit;
  goes_on = refl;
}

-- a line with its LF
pub line_more : (visits : Visits) (limit : ℕ) (script line after : List ℕ) (old now now' : RunView) (d next : Desk) (refused memory : Bool) (taken taken' : ℕ) (o : Outcome)
    → Running visits limit script ((line ++ 10 ∷ []) ++ after) old now d refused memory taken → has_lf line ≡ false → taken' ≡ taken + length (line ++ 10 ∷ [])
    → Replied visits limit d line now now' next o → ends_session o ≡ false
    → Running visits limit script after old now' next (refused || refuses o) (memory || lacks_memory o) taken'
unfolding more_given with_answer
line_more visits limit script line after old now now' d next refused memory taken taken' o k no_lf count a e = record {
  given = more_given visits limit d next line old now now' refused memory o k.levels k.given a;
  front = k.front ++ (line ++ 10 ∷ []);
  split = k.split ∙ sym (append_assoc k.front (line ++ 10 ∷ []) after);
  counted = length-append k.front (line ++ 10 ∷ []) ∙ ap (λ n. n + length (line ++ 10 ∷ [])) k.counted ∙ sym count;
  whole = λ more.
      ap whole_lines (joined more) ∙ k.whole (line ++ 10 ∷ more) ∙ ap (λ t. k.front ++ t) (whole_to_feed line more) ∙ sym (joined (whole_lines more));
  told = λ more.
      let P : List ℕ → Type 0 = λ t. Told visits limit k.given.number k.given.answered k.given.replies k.given.cost t d (lines_of (line ++ 10 ∷ more)) in
      let Q : List (List ℕ) → Type 0 = λ ls. Told visits limit k.given.number k.given.answered k.given.replies k.given.cost ((k.front ++ (line ++ 10 ∷ [])) ++ more) d ls in
      told_more visits limit k.given.number k.given.answered k.given.replies k.given.cost ((k.front ++ (line ++ 10 ∷ [])) ++ more) d next line (lines_of more) a.lacks a.answer
      (subst Q (first_line line more no_lf) (subst P (sym (joined more)) (k.told (line ++ 10 ∷ more)))) a.is (a.ends ∙ e) a.next;
  levels = next_levels limit d next line a.lacks a.answer a.is a.next k.levels;
  goes_on = any_end_push k.given.replies a.answer.reply ∙ ap (λ b. b || a.answer.reply.ends) k.goes_on ∙ (a.ends ∙ e);
}
  where
    joined : (more : List ℕ) → (k.front ++ (line ++ 10 ∷ [])) ++ more ≡ k.front ++ (line ++ 10 ∷ more)
    joined more = append_assoc k.front (line ++ 10 ∷ []) more ∙ ap (λ t. k.front ++ t) (append_assoc line (10 ∷ []) more)

script_length : (limit : ℕ) (script line front : List ℕ) (taken : ℕ) → script ≡ front ++ line → length front ≡ taken → taken + length line ≤ most_script_bytes → length script ≤ most_script_bytes
script_length limit script line front taken split count small = omega (arith, ap length split, length-append front line, count, small)

-- the front of the script within its limit, where a line ends there
cut_after : (script line after front : List ℕ) (taken : ℕ) → script ≡ front ++ ((line ++ 10 ∷ []) ++ after) → length front ≡ taken → taken + length (line ++ 10 ∷ []) ≤ most_script_bytes
    → script_front script ≡ front ++ (line ++ 10 ∷ take (most_script_bytes - (taken + length (line ++ 10 ∷ []))) after)
cut_after script line after front taken split count small =
    let n = most_script_bytes - (taken + length (line ++ 10 ∷ [])) in
    let sum : most_script_bytes ≡ length front + (length (line ++ 10 ∷ []) + n) = omega (arith, count, small) in
    ap (λ m. take m script) sum ∙ ap (take (length front + (length (line ++ 10 ∷ []) + n))) split
    ∙ take-append-add front ((line ++ 10 ∷ []) ++ after) (length (line ++ 10 ∷ []) + n)
    ∙ ap (λ t. front ++ t) (take-append-add (line ++ 10 ∷ []) after n ∙ append_assoc line (10 ∷ []) (take n after))

at_script : (visits : Visits) (limit : ℕ) (script line : List ℕ) (d : Desk) (front : List ℕ) (n : ℕ) (answered : ℕ → Bool) (given : List Reply) (cost : Cost) → script ≡ front ++ line → lines_of line ≡ line ∷ []
    → Told visits limit n answered given cost (front ++ line) d (lines_of line) → Told visits limit n answered given cost script d (line ∷ [])
at_script visits limit script line d front n answered given cost split one told =
    let P : List ℕ → Type 0 = λ t. Told visits limit n answered given cost t d (line ∷ []) in
    let Q : List (List ℕ) → Type 0 = λ ls. Told visits limit n answered given cost (front ++ line) d ls in
    subst P (sym split) (subst Q one told)

last_told : (visits : Visits) (limit : ℕ) (script line : List ℕ) (d : Desk) (n : ℕ) (answered : ℕ → Bool) (given : List Reply) (cost : Cost) (next : Desk) (b : Bool) (r : DeskReply)
    → Told visits limit n answered given cost script d (line ∷ []) → IsReply limit d line b r → r.reply.ends ≡ false → next ≡ r.next
    → ToldAll visits limit (n + 1) (with_answer n b answered) (given ++ r.reply ∷ []) (cost and desk_line_cost visits limit b d line) script
last_told visits limit script line d n answered given cost next b r told is e goes M agree =
    told_no_more visits limit script M (given ++ r.reply ∷ []) (cost and desk_line_cost visits limit b d line) (told_more visits limit n answered given cost script d next line [] b r told is e goes M agree)

-- the last line, which has no LF
pub line_last : (visits : Visits) (limit : ℕ) (script line : List ℕ) (old now now' : RunView) (d next : Desk) (refused memory : Bool) (taken : ℕ) (o : Outcome)
    → Running visits limit script line old now d refused memory taken → lines_of line ≡ line ∷ [] → taken + length line ≤ most_script_bytes
    → Replied visits limit d line now now' next o → ends_session o ≡ false
    → Finished visits limit script old now' (refused || refuses o) (memory || lacks_memory o)
unfolding more_given with_answer
line_last visits limit script line old now now' d next refused memory taken o k one small a e = record {
  given = more_given visits limit d next line old now now' refused memory o k.levels k.given a;
  told = λ M agree.
      last_told visits limit script line d k.given.number k.given.answered k.given.replies k.given.cost next a.lacks a.answer
      (at_script visits limit script line d k.front k.given.number k.given.answered k.given.replies k.given.cost k.split one (k.told line)) a.is (a.ends ∙ e) a.next M agree;
  within = λ M _. inl (script_length limit script line k.front taken k.split k.counted small);
}

-- a heeded `quit` with its LF
pub quit_within : (visits : Visits) (limit : ℕ) (script line after : List ℕ) (old now now' : RunView) (d next : Desk) (refused memory : Bool) (taken : ℕ) (o : Outcome)
    → Running visits limit script ((line ++ 10 ∷ []) ++ after) old now d refused memory taken → has_lf line ≡ false → taken + length (line ++ 10 ∷ []) ≤ most_script_bytes
    → Replied visits limit d line now now' next o → ends_session o ≡ true
    → Finished visits limit script old now' (refused || refuses o) (memory || lacks_memory o)
unfolding more_given with_answer
quit_within visits limit script line after old now now' d next refused memory taken o k no_lf small a e = record {
  given = more_given visits limit d next line old now now' refused memory o k.levels k.given a;
  told =
      let P : List ℕ → Type 0 = λ t. ToldAll visits limit (k.given.number + 1) (with_answer k.given.number a.lacks k.given.answered) (k.given.replies ++ a.answer.reply ∷ []) (k.given.cost and desk_line_cost visits limit a.lacks d line) t in
      subst P (sym (k.split ∙ ap (λ t. k.front ++ t) (append_assoc line (10 ∷ []) after))) (all after);
  within = λ M agree.
      let cut : script_front script ≡ k.front ++ (line ++ 10 ∷ take (most_script_bytes - (taken + length (line ++ 10 ∷ []))) after) = cut_after script line after k.front taken k.split k.counted small in
      let whole = ap whole_lines cut ∙ k.whole (line ++ 10 ∷ take (most_script_bytes - (taken + length (line ++ 10 ∷ []))) after)
      ∙ ap (λ t. k.front ++ t) (whole_to_feed line (take (most_script_bytes - (taken + length (line ++ 10 ∷ []))) after)) in
      inr (ap (λ t. any_end (desk_out limit t M)) whole ∙ ap any_end (all (whole_lines (take (most_script_bytes - (taken + length (line ++ 10 ∷ []))) after)) M agree).replies
      ∙ any_end_push k.given.replies a.answer.reply ∙ ap (λ b. b || a.answer.reply.ends) k.goes_on ∙ (a.ends ∙ e));
}
  where
    all : (more : List ℕ) → ToldAll visits limit (k.given.number + 1) (with_answer k.given.number a.lacks k.given.answered) (k.given.replies ++ a.answer.reply ∷ []) (k.given.cost and desk_line_cost visits limit a.lacks d line) (k.front ++ (line ++ 10 ∷ more))
    all more =
        let Q : List (List ℕ) → Type 0 = λ ls. Told visits limit k.given.number k.given.answered k.given.replies k.given.cost (k.front ++ (line ++ 10 ∷ more)) d ls in
        told_end visits limit k.given.number k.given.answered k.given.replies k.given.cost (k.front ++ (line ++ 10 ∷ more)) d line (lines_of more) a.lacks a.answer
        (subst Q (first_line line more no_lf) (k.told (line ++ 10 ∷ more))) a.is (a.ends ∙ e)

-- and without
pub quit_last : (visits : Visits) (limit : ℕ) (script line : List ℕ) (old now now' : RunView) (d next : Desk) (refused memory : Bool) (taken : ℕ) (o : Outcome)
    → Running visits limit script line old now d refused memory taken → lines_of line ≡ line ∷ [] → taken + length line ≤ most_script_bytes
    → Replied visits limit d line now now' next o → ends_session o ≡ true
    → Finished visits limit script old now' (refused || refuses o) (memory || lacks_memory o)
unfolding more_given with_answer
quit_last visits limit script line old now now' d next refused memory taken o k one small a e = record {
  given = more_given visits limit d next line old now now' refused memory o k.levels k.given a;
  told =
      told_end visits limit k.given.number k.given.answered k.given.replies k.given.cost script d line [] a.lacks a.answer
      (at_script visits limit script line d k.front k.given.number k.given.answered k.given.replies k.given.cost k.split one (k.told line)) a.is (a.ends ∙ e);
  within = λ M _. inl (script_length limit script line k.front taken k.split k.counted small);
}

-- no byte is left after the lines
pub no_more : (visits : Visits) (limit : ℕ) (script : List ℕ) (old now : RunView) (d : Desk) (refused memory : Bool) (taken : ℕ)
    → Running visits limit script [] old now d refused memory taken → taken ≤ most_script_bytes → Finished visits limit script old now refused memory
no_more visits limit script old now d refused memory taken k small = record {
  given = k.given;
  told = λ M agree.
      let P : List ℕ → Type 0 = λ t. Tells visits limit t M k.given.replies k.given.cost in
      subst P (sym k.split) (told_no_more visits limit (k.front ++ []) M k.given.replies k.given.cost (k.told [] M agree));
  within = λ M _. inl (script_length limit script [] k.front taken k.split k.counted (omega (arith, small)));
}
