-- What lines of a desk may ask and read.
use Rattle.std.proofs.Common.{◌≡◌, ℕ, ◌+◌, Bool, true, false, ◌&&◌, Option, Some, None, Result, Ok, Err, List, [], ◌∷◌, ◌++◌, map, length, codes, refl, ap, sym, ◌∙◌, subst, arith}
use Rattle.std.specs.Prelude.{decimal}
use Rattle.lsys_syntax.specs.Lines.{without_cr}
use Rattle.lsys_syntax.specs.Tokens.{Token, tokens}
use Rattle.lsys_syntax.specs.Commands as commands
use Rattle.lsys_syntax.specs.Commands.{Command}
use Rattle.lsys_syntax.specs.LineMachine.{Verdict, sentence, stops, too_deep, verdict, command_in}
use Rattle.lsys_spec.specs.Systems.{System}
use Rattle.lsys_spec.specs.Edits.{Refusal, refusal, changed}
use Rattle.lsys_spec.specs.Levels as L
use Rattle.lsys_spec.specs.Meaning.{LevelRefusal, meaning}
use Rattle.lsys_spec.specs.Pictures.{Turtle}
use Rattle.lsys_spec.specs.Questions.{questions, need}
use Rattle.lsys_spec.specs.Refusals.{Reply, refused, said, line_feed, derivation_text, is_long, is_passed_over, column_at}
use Rattle.lsys_spec.specs.Replies.{reply, edited, levels_of, or_text, is_query, shown, picture_of, accepted, command_reply, verdict_reply, tokens_reply, bare_reply, bare_spelled, spelled_by, spelled_command, count_line, questions_of}
use Rattle.lsys_spec.specs.Output.{may_lack_memory, memory_or}
use Rattle.lsys_spec.specs.Costs.{Cost, Visits, no_cost, one_refusal, ◌and◌, cost_to, edit_by, edit_cost, changed_unless_refused, edited_system, line_cost, costs_from}
use Rattle.lsys_spec.proofs.CostSums.{and_assoc}
use Rattle.lsys_laws.specs.Sessions.{HasLevels}
use Rattle.lsys_laws.proofs.KeptLevels.{reply_levels}
use Rattle.lsys_lattice.specs.Bounds.{bounds_text, turtle_or_refusal}
use Rattle.lsys_lattice.specs.Bounds as pictures
use Rattle.lsys_growth.specs.Growth.{Census, GrowthFault, growth_at}
use Rattle.lsys_history.specs.Timelines as timelines
use Rattle.lsys_history.specs.Desks.{Desk, DeskLine, DeskReply, desk, undo, redo, growth, bounds, at, answered, asked_of, led, stepped_to, growth_reply, turtle_reply, own_reply, reply_by, session_reply, desk_reply, desk_line, desk_memory_or, desk_reply_or_memory, HasNoDeskLine}
use Rattle.lsys_history.specs.Costs.{cost_followed, desk_costs_from, desk_line_cost, lead_cost, leads_by, line_leads, own_leads}

-- 1. what a session replies

-- of the reply to what leads to a system, or to nothing: it is that of the edit, and not `refused memory`
abbrev pub IsReplyOf : ℕ → System → Reply → Option System → Type 0
IsReplyOf limit s r None = r.is_memory ≡ false
IsReplyOf limit s r (Some next) = r ≡ edited limit s next (levels_of limit next)

module _ (limit : ℕ) (s : System) where
  shown_ample : {A : Type 0} (text : A → List ℕ) (a : Result A (List ℕ)) → (shown s text a).is_memory ≡ false
  shown_ample text (Ok a) = refl
  shown_ample text (Err why) = refl

  of_accepted : (c : Command) (b : Bool) → is_query c ≡ b → IsReplyOf limit s (accepted limit s c) (elim b [ true ↦ None | false ↦ Some (changed s c) ])
  of_accepted (commands.set_axiom x) true e = cc
  of_accepted (commands.set_axiom x) false e = refl
  of_accepted (commands.put_production t l r) true e = cc
  of_accepted (commands.put_production t l r) false e = refl
  of_accepted (commands.drop_rule l) true e = cc
  of_accepted (commands.drop_rule l) false e = refl
  of_accepted (commands.set_ignored ns) true e = cc
  of_accepted (commands.set_ignored ns) false e = refl
  of_accepted (commands.set_schedule ws) true e = cc
  of_accepted (commands.set_schedule ws) false e = refl
  of_accepted (commands.set_seed n) true e = cc
  of_accepted (commands.set_seed n) false e = refl
  of_accepted (commands.set_depth n) true e = cc
  of_accepted (commands.set_depth n) false e = refl
  of_accepted (commands.set_lattice l) true e = cc
  of_accepted (commands.set_lattice l) false e = refl
  of_accepted (commands.put_homomorphism l r) true e = cc
  of_accepted (commands.put_homomorphism l r) false e = refl
  of_accepted (commands.print_string t) true e = shown_ample _ (levels_of limit s)
  of_accepted (commands.print_string t) false e = cc
  of_accepted commands.print_segments true e = shown_ample _ (picture_of s (levels_of limit s))
  of_accepted commands.print_segments false e = cc
  of_accepted commands.print_svg true e = shown_ample _ (picture_of s (levels_of limit s))
  of_accepted commands.print_svg false e = cc
  of_accepted commands.print_system true e = refl
  of_accepted commands.print_system false e = cc
  of_accepted commands.quit true e = refl
  of_accepted commands.quit false e = cc
  of_accepted (commands.set_version n) true e = cc
  of_accepted (commands.set_version n) false e = refl
  of_accepted (commands.set_own k t ns) true e = cc
  of_accepted (commands.set_own k t ns) false e = refl
  of_accepted (commands.drop_own t) true e = cc
  of_accepted (commands.drop_own t) false e = refl
  of_accepted (commands.set_numbering n) true e = cc
  of_accepted (commands.set_numbering n) false e = refl

  none_refused : (b : Bool) (c : Command) (r : Refusal) → ◌≡◌ {A = Option System} (elim b [ true ↦ None | false ↦ changed_unless_refused s c (Some r) ]) None
  none_refused true c r = refl
  none_refused false c r = refl

  of_command : (column : ℕ → ℕ) (c : Command) (o : Option Refusal) → IsReplyOf limit s (command_reply limit s column c o) (elim (is_query c) [ true ↦ None | false ↦ changed_unless_refused s c o ])
  of_command column c None = of_accepted c (is_query c) refl
  of_command column c (Some r) = subst (IsReplyOf limit s (command_reply limit s column c (Some r))) (sym (none_refused (is_query c) c r)) refl

  of_verdict : (column : ℕ → ℕ) (v : Verdict) → IsReplyOf limit s (verdict_reply limit s column v) (edit_by s (command_in v))
  of_verdict column (sentence c) = of_command column c (refusal s c)
  of_verdict column (stops n) = refl
  of_verdict column (too_deep n) = refl

  of_tokens : (end : ℕ) (ts : Result (List Token) ℕ) → IsReplyOf limit s (tokens_reply limit s end ts) (edit_by s (spelled_by ts))
  of_tokens end (Ok ts) = of_verdict (λ n. column_at end n ts) (verdict (map (λ t. t.kind) ts))
  of_tokens end (Err column) = refl

  unless_passed : (b : Bool) (r : Reply) (c : Option Command) → IsReplyOf limit s r (edit_by s c)
      → IsReplyOf limit s (elim b [ true ↦ said s [] | false ↦ r ]) (edit_by s (elim b [ true ↦ None | false ↦ c ]))
  unless_passed true r c h = refl
  unless_passed false r c h = h

  unless_long : (b : Bool) (r : Reply) (c : Option Command) → IsReplyOf limit s r (edit_by s c)
      → IsReplyOf limit s (elim b [ true ↦ refused s (codes "syntax long") | false ↦ r ]) (edit_by s (elim b [ true ↦ None | false ↦ c ]))
  unless_long true r c h = refl
  unless_long false r c h = h

  of_bare : (bare : List ℕ) → IsReplyOf limit s (bare_reply limit s bare) (edit_by s (bare_spelled bare))
  of_bare bare = unless_passed (is_passed_over bare) (tokens_reply limit s (length bare) (tokens bare)) (spelled_by (tokens bare)) (of_tokens (length bare) (tokens bare))

  of_line : (line : List ℕ) → IsReplyOf limit s (reply limit s line) (edited_system s line)
  of_line line = unless_long (is_long line) (bare_reply limit s (without_cr line)) (bare_spelled (without_cr line)) (of_bare (without_cr line))

-- 2. what a desk replies

abbrev led_by : Desk → Reply → timelines.Timeline System → Bool → DeskReply
led_by d r h b = elim b [ true ↦ answered r d | false ↦ answered r (desk r.next h) ]

led_reply : (d : Desk) (r : Reply) (h : timelines.Timeline System) → (led d r h).reply ≡ r
led_reply d r h = by r.is_refusal
  where
    by : (b : Bool) → (led_by d r h b).reply ≡ r
    by true = refl
    by false = refl

of_step : (limit : ℕ) (d : Desk) (word : List ℕ) (h : timelines.Timeline System) (o : Option System) → IsReplyOf limit d.system (stepped_to limit d word h o).reply o
of_step limit d word h None = refl
of_step limit d word h (Some s) = led_reply d (edited limit d.system s (levels_of limit s)) h

of_growth : (s : System) (g : Result Census GrowthFault) → (growth_reply s g).is_memory ≡ false
of_growth s (Ok c) = refl
of_growth s (Err f) = refl

of_turtle : (s : System) (column : ℕ) (r : Result (Option Turtle) (List ℕ)) → (turtle_reply s column r).is_memory ≡ false
of_turtle s column (Ok (Some t)) = refl
of_turtle s column (Ok None) = refl
of_turtle s column (Err why) = refl

of_own : (limit : ℕ) (d : Desk) (asked : DeskLine) → IsReplyOf limit d.system (own_reply limit d asked).reply (own_leads d asked)
of_own limit d undo = of_step limit d (codes "undo") (timelines.after_undo d.steps d.system) (timelines.nearest d.steps.past)
of_own limit d redo = of_step limit d (codes "redo") (timelines.redone d.steps d.system) (timelines.nearest d.steps.future)
of_own limit d (growth level) = of_growth d.system (growth_at d.system level)
of_own limit d bounds = shown_ample limit d.system bounds_text (asked_of (pictures.bounds d.system) (levels_of limit d.system))
of_own limit d (at n column) = of_turtle d.system column (asked_of (λ x. turtle_or_refusal d.system x n) (levels_of limit d.system))

of_asked : (limit : ℕ) (d : Desk) (line : List ℕ) (asked : Option DeskLine) → IsReplyOf limit d.system (reply_by limit d asked (reply limit d.system line) (spelled_command line)).reply (leads_by d asked (edited_system d.system line))
of_asked limit d line None = of_line limit d.system line
of_asked limit d line (Some asked) = of_own limit d asked

pub of_desk : (limit : ℕ) (d : Desk) (line : List ℕ) → IsReplyOf limit d.system (desk_reply limit d line).reply (line_leads d line)
of_desk limit d line = of_asked limit d line (desk_line line)

-- the system after a reply is that of its desk
next_led : (limit : ℕ) (d : Desk) (s : System) (h : timelines.Timeline System) (x : Result (List (List L.LevelSymbol)) (List ℕ)) → (led d (edited limit d.system s x) h).next.system ≡ (led d (edited limit d.system s x) h).reply.next
next_led limit d s h (Ok levels) = refl
next_led limit d s h (Err why) = refl

next_step : (limit : ℕ) (d : Desk) (word : List ℕ) (h : timelines.Timeline System) (o : Option System) → (stepped_to limit d word h o).next.system ≡ (stepped_to limit d word h o).reply.next
next_step limit d word h None = refl
next_step limit d word h (Some s) = next_led limit d s h (levels_of limit s)

next_growth : (s : System) (g : Result Census GrowthFault) → s ≡ (growth_reply s g).next
next_growth s (Ok c) = refl
next_growth s (Err f) = refl

next_shown : {A : Type 0} (s : System) (text : A → List ℕ) (r : Result A (List ℕ)) → s ≡ (shown s text r).next
next_shown s text (Ok a) = refl
next_shown s text (Err why) = refl

next_turtle : (s : System) (column : ℕ) (r : Result (Option Turtle) (List ℕ)) → s ≡ (turtle_reply s column r).next
next_turtle s column (Ok (Some t)) = refl
next_turtle s column (Ok None) = refl
next_turtle s column (Err why) = refl

next_own : (limit : ℕ) (d : Desk) (asked : DeskLine) → (own_reply limit d asked).next.system ≡ (own_reply limit d asked).reply.next
next_own limit d undo = next_step limit d (codes "undo") (timelines.after_undo d.steps d.system) (timelines.nearest d.steps.past)
next_own limit d redo = next_step limit d (codes "redo") (timelines.redone d.steps d.system) (timelines.nearest d.steps.future)
next_own limit d (growth level) = next_growth d.system (growth_at d.system level)
next_own limit d bounds = next_shown d.system bounds_text (asked_of (pictures.bounds d.system) (levels_of limit d.system))
next_own limit d (at n column) = next_turtle d.system column (asked_of (λ x. turtle_or_refusal d.system x n) (levels_of limit d.system))

next_asked : (limit : ℕ) (d : Desk) (asked : Option DeskLine) (r : Reply) (spelled : Option Command) → (reply_by limit d asked r spelled).next.system ≡ (reply_by limit d asked r spelled).reply.next
next_asked limit d None r spelled = refl
next_asked limit d (Some asked) r spelled = next_own limit d asked

pub next_system : (limit : ℕ) (d : Desk) (line : List ℕ) → (desk_reply limit d line).next.system ≡ (desk_reply limit d line).reply.next
next_system limit d line = next_asked limit d (desk_line line) (reply limit d.system line) (spelled_command line)

pub led_to : (limit : ℕ) (d : Desk) (line : List ℕ) (next : System) → line_leads d line ≡ Some next → (desk_reply limit d line).reply ≡ edited limit d.system next (levels_of limit next)
led_to limit d line next e = subst (IsReplyOf limit d.system (desk_reply limit d line).reply) e (of_desk limit d line)

-- the number that the reply tells
pub told_need : (visits : Visits) (limit : ℕ) (d : Desk) (line : List ℕ) (next : System) (xs ys : List (List L.LevelSymbol)) → line_leads d line ≡ Some next → meaning d.system limit ≡ Ok xs → meaning next limit ≡ Ok ys
    → (desk_reply limit d line).reply.text ≡ codes "ok " ++ (decimal (lead_cost visits limit d line).need ++ 47 ∷ (decimal (length (questions next ys)) ++ line_feed))
told_need visits limit d line next xs ys e x y =
    ap (λ (r : Reply). r.text) (led_to limit d line next e ∙ ap (λ m. edited limit d.system next (or_text derivation_text m)) y)
    ∙ ap (λ m. count_line (questions_of d.system (or_text derivation_text m)) (questions next ys)) x
    ∙ ap (λ (n : ℕ). codes "ok " ++ (decimal n ++ 47 ∷ (decimal (length (questions next ys)) ++ line_feed))) (sym cost)
  where
    cost : (lead_cost visits limit d line).need ≡ need (questions d.system xs) (questions next ys)
    cost =
        ap (λ o. (cost_to visits limit d.system o).need) e
        ∙ ap (λ m. (edit_cost visits d.system next m (meaning next limit)).need) x
        ∙ ap (λ m. (edit_cost visits d.system next (Ok xs) m).need) y

-- 3. sums

pub and_none : (a : Cost) → a and no_cost ≡ a
and_none a =
    let p : a.need + 0 ≡ a.need = omega arith in
    let q : a.least + 0 ≡ a.least = omega arith in
    let r : a.most + 0 ≡ a.most = omega arith in
    let s : a.refusals + 0 ≡ a.refusals = omega arith in
    λ i. record { need = p i; least = q i; most = r i; refusals = s i }

pub one_line : (visits : Visits) (limit : ℕ) (M : ℕ → Bool) (n : ℕ) (d : Desk) (line : List ℕ) (lines : List (List ℕ)) (sofar : Cost) → (desk_reply_or_memory limit (M n) d line).reply.ends ≡ false
    → sofar and desk_costs_from visits limit M n d (line ∷ lines)
    ≡ (sofar and desk_line_cost visits limit (M n) d line) and desk_costs_from visits limit M (n + 1) (desk_reply_or_memory limit (M n) d line).next lines
one_line visits limit M n d line lines sofar e =
    let here : Cost = desk_line_cost visits limit (M n) d line in
    let rest : Cost = desk_costs_from visits limit M (n + 1) (desk_reply_or_memory limit (M n) d line).next lines in
    ap (λ b. sofar and (here and elim b [ true ↦ no_cost | false ↦ rest ])) e ∙ sym (and_assoc sofar here rest)

pub last_line : (visits : Visits) (limit : ℕ) (M : ℕ → Bool) (n : ℕ) (d : Desk) (line : List ℕ) (lines : List (List ℕ)) → (desk_reply_or_memory limit (M n) d line).reply.ends ≡ true
    → desk_costs_from visits limit M n d (line ∷ lines) ≡ desk_line_cost visits limit (M n) d line
last_line visits limit M n d line lines e =
    let here : Cost = desk_line_cost visits limit (M n) d line in
    let rest : Cost = desk_costs_from visits limit M (n + 1) (desk_reply_or_memory limit (M n) d line).next lines in
    ap (λ b. here and elim b [ true ↦ no_cost | false ↦ rest ]) e ∙ and_none here

-- 4. lines that aren't the desk's

unless_ended : (b : Bool) (x y : Cost) → x ≡ y → ◌≡◌ {A = Cost} (elim b [ true ↦ no_cost | false ↦ x ]) (elim b [ true ↦ no_cost | false ↦ y ])
unless_ended true x y h = refl
unless_ended false x y h = h

pub former_costs : (visits : Visits) (limit : ℕ) (M : ℕ → Bool) (n : ℕ) (d : Desk) (lines : List (List ℕ)) → HasNoDeskLine lines
    → desk_costs_from visits limit M n d lines ≡ costs_from (reply limit) (line_cost visits limit) M n d.system lines
former_costs visits limit M n d [] h = refl
former_costs visits limit M n d (line ∷ lines) h =
    ap (λ o. cost_followed (elim (M n && may_lack_memory line) [ true ↦ one_refusal | false ↦ cost_to visits limit d.system (leads_by d o (edited_system d.system line)) ])
    (desk_memory_or (M n && may_lack_memory line) d (reply_by limit d o (reply limit d.system line) (spelled_command line))) (λ next. desk_costs_from visits limit M (n + 1) next lines)) h.0
    ∙ by (M n && may_lack_memory line) (λ (d : Desk). former_costs visits limit M (n + 1) d lines h.1)
  where
    by : (b : Bool) → ((d : Desk) → desk_costs_from visits limit M (n + 1) d lines ≡ costs_from (reply limit) (line_cost visits limit) M (n + 1) d.system lines)
        → cost_followed (elim b [ true ↦ one_refusal | false ↦ line_cost visits limit d.system line ]) (desk_memory_or b d (session_reply d (reply limit d.system line) (spelled_command line)))
        (λ next. desk_costs_from visits limit M (n + 1) next lines)
        ≡ elim b [ true ↦ one_refusal | false ↦ line_cost visits limit d.system line ]
        and elim (memory_or b d.system (reply limit d.system line)).ends [ true ↦ no_cost | false ↦ costs_from (reply limit) (line_cost visits limit) M (n + 1) (memory_or b d.system (reply limit d.system line)).next lines ]
    by true k = ap (λ c. one_refusal and c) (k d)
    by false k =
        let r = reply limit d.system line in
        let next : Desk = (session_reply d r (spelled_command line)).next in
        ap (λ c. line_cost visits limit d.system line and c)
        (unless_ended r.ends (desk_costs_from visits limit M (n + 1) next lines) (costs_from (reply limit) (line_cost visits limit) M (n + 1) r.next lines) (k next))

-- 5. levels

edited_levels : (limit : ℕ) (s next : System) (m : Result (List (List L.LevelSymbol)) LevelRefusal) → meaning next limit ≡ m → HasLevels limit s → HasLevels limit (edited limit s next (or_text derivation_text m)).next
edited_levels limit s next (Ok ys) e h = (ys, e)
edited_levels limit s next (Err r) e h = h

led_levels : (limit : ℕ) (d : Desk) (r : Reply) (h : timelines.Timeline System) → HasLevels limit d.system → HasLevels limit r.next → HasLevels limit (led d r h).next.system
led_levels limit d r h old new = by r.is_refusal
  where
    by : (b : Bool) → HasLevels limit (led_by d r h b).next.system
    by true = old
    by false = new

step_levels : (limit : ℕ) (d : Desk) (word : List ℕ) (h : timelines.Timeline System) (o : Option System) → HasLevels limit d.system → HasLevels limit (stepped_to limit d word h o).next.system
step_levels limit d word h None old = old
step_levels limit d word h (Some s) old = led_levels limit d (edited limit d.system s (levels_of limit s)) h old (edited_levels limit d.system s (meaning s limit) refl old)

own_levels : (limit : ℕ) (d : Desk) (asked : DeskLine) → HasLevels limit d.system → HasLevels limit (own_reply limit d asked).next.system
own_levels limit d undo old = step_levels limit d (codes "undo") (timelines.after_undo d.steps d.system) (timelines.nearest d.steps.past) old
own_levels limit d redo old = step_levels limit d (codes "redo") (timelines.redone d.steps d.system) (timelines.nearest d.steps.future) old
own_levels limit d (growth level) old = old
own_levels limit d bounds old = old
own_levels limit d (at n column) old = old

asked_levels : (limit : ℕ) (d : Desk) (line : List ℕ) (asked : Option DeskLine) → HasLevels limit d.system → HasLevels limit (reply_by limit d asked (reply limit d.system line) (spelled_command line)).next.system
asked_levels limit d line None old = reply_levels limit d.system line old
asked_levels limit d line (Some asked) old = own_levels limit d asked old

pub line_levels : (limit : ℕ) (lacks : Bool) (d : Desk) (line : List ℕ) → HasLevels limit d.system → HasLevels limit (desk_reply_or_memory limit lacks d line).next.system
line_levels limit lacks d line old = by (lacks && may_lack_memory line)
  where
    by : (b : Bool) → HasLevels limit (desk_memory_or b d (desk_reply limit d line)).next.system
    by true = old
    by false = asked_levels limit d line (desk_line line) old
