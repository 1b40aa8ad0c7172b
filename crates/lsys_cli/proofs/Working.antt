-- How the counters move at a line, and over lines one after the other.
use Rattle.std.proofs.Common.{◌≡◌, ◌-◌, ℕ, ◌+◌, ◌*◌, Bool, true, false, not, ◌&&◌, Option, Some, None, Result, Ok, Err, List, refl, ap, sym, ◌∙◌, subst, arith}
use Rattle.lsys_syntax.specs.Commands.{Command}
use Rattle.lsys_syntax.specs.Lines.{without_cr}
use Rattle.lsys_spec.specs.Systems.{System}
use Rattle.lsys_spec.specs.Edits as edits
use Rattle.lsys_spec.specs.Levels as L
use Rattle.lsys_spec.specs.Meaning.{LevelRefusal, meaning, most_entries}
use Rattle.lsys_spec.specs.Questions.{questions, need, least_visits}
use Rattle.lsys_spec.specs.Refusals.{Reply, derivation_text, is_long}
use Rattle.lsys_spec.specs.Replies.{bare_spelled, edited, is_query, or_text}
use Rattle.lsys_spec.specs.Output.{may_lack_memory}
use Rattle.lsys_spec.specs.Costs.{Cost, Visits, ◌and◌, cost_to, edit_by, edit_cost, no_cost, one_refusal, changed_unless_refused}
use Rattle.lsys_spec.proofs.CostSums.{both_within}
use Rattle.lsys_laws.specs.Sessions.{HasLevels}
use Rattle.lsys_history.specs.Desks.{Desk, DeskLine, DeskReply, bare_asks, desk_memory_or, desk_reply}
use Rattle.lsys_history.specs.Costs.{desk_line_cost, leads_by, line_leads}
use Rattle.lsys_history.proofs.Spending.{IsReplyOf, next_system, of_desk}
use Rattle.lsys_match.specs.Derivations.{Rises}
use Rattle.lsys_session.specs.Answers.{Counters, WasCounted, Few, Needed, is_derived, is_unrefused, lacks_memory, leads_on, line_spelled, refuses}
use Rattle.lsys_session.specs.declared.outcome.Outcome.{Outcome}
use Rattle.lsys_session.specs.declared.outcome.Outcome.TheVariants as outcomes
use Rattle.lsys_cli.specs.Answers.{TellsLead, is_led, leads_to, line_asks}
use Rattle.lsys_cli.specs.Ends.{Worked}

-- 1. counters that rose

worked_by : (limit : ℕ) (c : Cost) (before then : Counters) → Rises c.need (c.need + limit * c.refusals) before.asked then.asked
    → Rises c.least (c.most + (most_entries + 1) * limit * c.refusals) before.visited then.visited → Worked limit c before then
worked_by limit c before then a v = record {
  asked = then.asked - before.asked;
  visited = then.visited - before.visited;
  asked_rose = omega (arith, a.from);
  visited_rose = omega (arith, v.from);
  within = record {
    asked_least = omega (arith, a.from);
    asked_most = omega (arith, a.from, a.to);
    visited_least = omega (arith, v.from);
    visited_most = omega (arith, v.from, v.to);
  };
}

times_one : (n : ℕ) → n * 1 ≡ n
times_one n = omega arith

few_worked : (limit : ℕ) (before then : Counters) → Few limit before then → Worked limit one_refusal before then
few_worked limit before then few =
    let p : limit * 1 ≡ limit = times_one limit in
    let q : (most_entries + 1) * limit * 1 ≡ (most_entries + 1) * limit = times_one ((most_entries + 1) * limit) in
    worked_by limit one_refusal before then
    (record { from = few.asked.from; to = omega (arith, few.asked.to, p) })
    (record { from = few.visited.from; to = omega (arith, few.visited.to, q) })

pub nothing_worked : (limit : ℕ) (before : Counters) → Worked limit no_cost before before
nothing_worked limit before = record {
  asked = 0;
  visited = 0;
  asked_rose = omega arith;
  visited_rose = omega arith;
  within = record { asked_least = omega arith; asked_most = omega arith; visited_least = omega arith; visited_most = omega arith };
}

pub stays_worked : (limit : ℕ) (before then : Counters) → then ≡ before → Worked limit no_cost before then
stays_worked limit before then e = subst (Worked limit no_cost before) (sym e) (nothing_worked limit before)

stays_refused : (limit : ℕ) (before then : Counters) → then ≡ before → Worked limit one_refusal before then
stays_refused limit before then e =
    subst (Worked limit one_refusal before) (sym e)
    (few_worked limit before before (record { asked = record { from = omega arith; to = omega arith }; visited = record { from = omega arith; to = omega arith } }))

-- one line after another
pub worked_then : (limit : ℕ) (a b : Cost) (x y z : Counters) → Worked limit a x y → Worked limit b y z → Worked limit (a and b) x z
worked_then limit a b x y z h k = record {
  asked = h.asked + k.asked;
  visited = h.visited + k.visited;
  asked_rose = omega (arith, h.asked_rose, k.asked_rose);
  visited_rose = omega (arith, h.visited_rose, k.visited_rose);
  within = both_within limit a b h.asked k.asked h.visited k.visited h.within k.within;
}

-- 2. an edit, an undo or a redo

same_levels : (s : System) (limit : ℕ) (xs ys : List (List L.LevelSymbol)) → meaning s limit ≡ Ok xs → meaning s limit ≡ Ok ys → xs ≡ ys
same_levels s limit xs ys e f = let both : Ok xs ≡ Ok ys = sym e ∙ f in cc

module _ (visits : Visits) (limit : ℕ) (s next : System) (before then : Counters) where
  needed_so : (xs ys : List (List L.LevelSymbol)) → Needed visits limit s next before then → meaning s limit ≡ Ok xs → meaning next limit ≡ Ok ys
      → Worked limit (edit_cost visits s next (Ok xs) (Ok ys)) before then
  needed_so xs ys h x y =
      let a : h.levels ≡ xs = same_levels s limit h.levels xs h.meant.before x in
      let b : h.next_levels ≡ ys = same_levels next limit h.next_levels ys h.meant.after y in
      let asked : then.asked ≡ before.asked + need (questions s xs) (questions next ys) =
      subst (λ us. then.asked ≡ before.asked + need (questions s us) (questions next ys)) a
      (subst (λ vs. then.asked ≡ before.asked + need (questions s h.levels) (questions next vs)) b h.asked) in
      let read : Rises (least_visits (questions s xs) (questions next ys)) (visits s next xs ys) before.visited then.visited =
      subst (λ us. Rises (least_visits (questions s us) (questions next ys)) (visits s next us ys) before.visited then.visited) a
      (subst (λ vs. Rises (least_visits (questions s h.levels) (questions next vs)) (visits s next h.levels vs) before.visited then.visited) b h.visited) in
      worked_by limit (edit_cost visits s next (Ok xs) (Ok ys)) before then
      (record { from = omega (arith, asked); to = omega (arith, asked) })
      (record { from = read.from; to = omega (arith, read.to) })

-- 3. one line

module _ (visits : Visits) (limit : ℕ) (s after : System) (before then : Counters) (derived : Bool) where
  abbrev Moved : Outcome → Type 0
  Moved o = WasCounted visits limit derived s after before then (Ok o)

  -- refused as out of memory
  at_memory : (o : Outcome) → true ≡ lacks_memory o → Moved o → Worked limit one_refusal before then
  at_memory outcomes.Skipped e c = cc
  at_memory outcomes.Accepted e c = cc
  at_memory outcomes.Printed e c = cc
  at_memory outcomes.Refused e c = cc
  at_memory outcomes.Memory e c = few_worked limit before then c
  at_memory outcomes.Quit e c = cc

  unmoved : derived ≡ false → Moved outcomes.Refused → then ≡ before
  unmoved e c = subst (λ x. WasCounted visits limit x s after before then (Ok outcomes.Refused)) e c

  -- it leads nowhere
  at_none : (o : Outcome) → false ≡ lacks_memory o → TellsLead None o → derived ≡ false → Moved o → Worked limit no_cost before then
  at_none outcomes.Skipped m t d c = stays_worked limit before then c
  at_none outcomes.Accepted m t d c = let no : true ≡ false = t refl in cc
  at_none outcomes.Printed m t d c = stays_worked limit before then c
  at_none outcomes.Refused m t d c = stays_worked limit before then (unmoved d c)
  at_none outcomes.Memory m t d c = cc
  at_none outcomes.Quit m t d c = stays_worked limit before then c

  -- it leads to a system that has levels
  at_levels : (o : Outcome) (next : System) (xs ys : List (List L.LevelSymbol)) → false ≡ refuses o → TellsLead (Some next) o → after ≡ next → meaning s limit ≡ Ok xs → meaning next limit ≡ Ok ys
      → Moved o → Worked limit (edit_cost visits s next (Ok xs) (Ok ys)) before then
  at_levels outcomes.Skipped next xs ys r t a x y c = let no : false ≡ true = t refl in cc
  at_levels outcomes.Accepted next xs ys r t a x y c = needed_so visits limit s next before then xs ys (subst (λ q. Needed visits limit s q before then) a c) x y
  at_levels outcomes.Printed next xs ys r t a x y c = let no : false ≡ true = t refl in cc
  at_levels outcomes.Refused next xs ys r t a x y c = cc
  at_levels outcomes.Memory next xs ys r t a x y c = cc
  at_levels outcomes.Quit next xs ys r t a x y c = let no : false ≡ true = t refl in cc

  -- to one that has none
  at_refusal : (o : Outcome) (next : System) (xs : List (List L.LevelSymbol)) (e : LevelRefusal) → true ≡ refuses o → false ≡ lacks_memory o → Moved o → Worked limit (edit_cost visits s next (Ok xs) (Err e)) before then
  at_refusal outcomes.Skipped next xs e r m c = cc
  at_refusal outcomes.Accepted next xs e r m c = cc
  at_refusal outcomes.Printed next xs e r m c = cc
  at_refusal outcomes.Refused next xs e r m c = by derived c
    where
      by : (b : Bool) → WasCounted visits limit b s after before then (Ok outcomes.Refused) → Worked limit one_refusal before then
      by true h = few_worked limit before then h
      by false h = stays_refused limit before then h
  at_refusal outcomes.Memory next xs e r m c = cc
  at_refusal outcomes.Quit next xs e r m c = cc

  at_meant : (o : Outcome) (next : System) (xs : List (List L.LevelSymbol)) (m : Result (List (List L.LevelSymbol)) LevelRefusal) (r : Reply) → meaning s limit ≡ Ok xs → meaning next limit ≡ m
      → r ≡ edited limit s next (or_text derivation_text m) → r.is_refusal ≡ refuses o → r.is_memory ≡ lacks_memory o → after ≡ r.next → TellsLead (Some next) o
      → Moved o → Worked limit (edit_cost visits s next (Ok xs) m) before then
  at_meant o next xs (Ok ys) r x y e f m a t c =
      at_levels o next xs ys (ap (λ (q : Reply). q.is_refusal) (sym e) ∙ f) t (a ∙ ap (λ (q : Reply). q.next) e) x y c
  at_meant o next xs (Err why) r x y e f m a t c =
      at_refusal o next xs why (ap (λ (q : Reply). q.is_refusal) (sym e) ∙ f) (ap (λ (q : Reply). q.is_memory) (sym e) ∙ m) c

  at_lead : (o : Outcome) (lead : Option System) (r : Reply) → HasLevels limit s → IsReplyOf limit s r lead → r.is_refusal ≡ refuses o → r.is_memory ≡ lacks_memory o → after ≡ r.next → TellsLead lead o
      → (lead ≡ None → derived ≡ false) → Moved o → Worked limit (cost_to visits limit s lead) before then
  at_lead o None r x e f m a t d c = at_none o (sym e ∙ m) t (d refl) c
  at_lead o (Some next) r x e f m a t d c =
      subst (λ k. Worked limit (edit_cost visits s next k (meaning next limit)) before then) (sym x.1)
      (at_meant o next x.0 (meaning next limit) r x.1 refl e f m a t c)

-- a line that may be refused as out of memory
worked_at : (visits : Visits) (limit : ℕ) (d after : Desk) (line : List ℕ) (b derived : Bool) (r : DeskReply) (o : Outcome) (before then : Counters) → HasLevels limit d.system
    → r ≡ desk_memory_or b d (desk_reply limit d line) → r.reply.is_refusal ≡ refuses o → r.reply.is_memory ≡ lacks_memory o → after ≡ r.next → TellsLead (line_leads d line) o
    → (line_leads d line ≡ None → derived ≡ false) → WasCounted visits limit derived d.system after.system before then (Ok o)
    → Worked limit (elim b [ true ↦ one_refusal | false ↦ cost_to visits limit d.system (line_leads d line) ]) before then
worked_at visits limit d after line true derived r o before then x e f m a t q c =
    at_memory visits limit d.system after.system before then derived o (ap (λ (u : DeskReply). u.reply.is_memory) (sym e) ∙ m) c
worked_at visits limit d after line false derived r o before then x e f m a t q c =
    at_lead visits limit d.system after.system before then derived o (line_leads d line) r.reply x
    (subst (λ (u : DeskReply). IsReplyOf limit d.system u.reply (line_leads d line)) (sym e) (of_desk limit d line)) f m
    (ap (λ (u : Desk). u.system) a ∙ ap (λ (u : DeskReply). u.next.system) e ∙ next_system limit d line ∙ ap (λ (u : DeskReply). u.reply.next) (sym e)) t q c

pub worked_line : (visits : Visits) (limit : ℕ) (d after : Desk) (line : List ℕ) (lacks derived : Bool) (r : DeskReply) (o : Outcome) (before then : Counters) → HasLevels limit d.system
    → r ≡ desk_memory_or (lacks && may_lack_memory line) d (desk_reply limit d line) → r.reply.is_refusal ≡ refuses o → r.reply.is_memory ≡ lacks_memory o → after ≡ r.next → TellsLead (line_leads d line) o
    → (line_leads d line ≡ None → derived ≡ false) → WasCounted visits limit derived d.system after.system before then (Ok o)
    → Worked limit (desk_line_cost visits limit lacks d line) before then
worked_line visits limit d after line lacks derived r o before then = worked_at visits limit d after line (lacks && may_lack_memory line) derived r o before then

-- 4. a line and what is told of it

leads_at : (d : Desk) (long long' : Bool) (asks : Option DeskLine) (spelled : Option Command) → long ≡ false → long' ≡ false
    → leads_by d (elim long' [ true ↦ None | false ↦ asks ]) (edit_by d.system (elim long' [ true ↦ None | false ↦ spelled ]))
    ≡ leads_by d (elim long [ true ↦ None | false ↦ asks ]) (edit_by d.system (elim long [ true ↦ None | false ↦ spelled ]))
leads_at d true long' asks spelled e f = cc
leads_at d false true asks spelled e f = cc
leads_at d false false asks spelled e f = refl

pub leads_same : (d : Desk) (line bare : List ℕ) → is_long line ≡ false → is_long (without_cr line) ≡ false → bare ≡ without_cr line → leads_to d bare ≡ line_leads d line
leads_same d line bare e f b = ap (leads_to d) b ∙ leads_at d (is_long line) (is_long (without_cr line)) (bare_asks (without_cr line)) (bare_spelled (without_cr line)) e f

none_there : {A : Type 0} (a : A) → Some a ≡ None → ⊥
none_there a e = cc

not_derived : (s : System) (c : Command) (q : Bool) (r : Option edits.Refusal) → ◌≡◌ {A = Option System} (elim q [ true ↦ None | false ↦ changed_unless_refused s c r ]) None → (not q && is_unrefused r) ≡ false
not_derived s c true r e = refl
not_derived s c false (Some r) e = refl
not_derived s c false None e = absurd (none_there (edits.changed s c) e)

no_edit : (s : System) (spelled : Option Command) → edit_by s spelled ≡ None → leads_on s spelled ≡ false
no_edit s None e = refl
no_edit s (Some c) e = not_derived s c (is_query c) (edits.refusal s c) e

not_led : (d : Desk) (line : List ℕ) (asks : Option DeskLine) → leads_by d asks (edit_by d.system (line_spelled line)) ≡ None → elim asks [ None ↦ is_derived d.system line | Some asked ↦ false ] ≡ false
not_led d line None e = no_edit d.system (line_spelled line) e
not_led d line (Some asked) e = refl

-- what leads nowhere isn't derived
pub leads_nowhere : (d : Desk) (line : List ℕ) → leads_to d line ≡ None → is_led d.system line ≡ false
leads_nowhere d line e = not_led d line (line_asks line) e

-- a line that is too long costs nothing
pub long_cost : (visits : Visits) (limit : ℕ) (d : Desk) (line : List ℕ) → is_long line ≡ true → desk_line_cost visits limit false d line ≡ no_cost
long_cost visits limit d line e = by (is_long line) (bare_asks (without_cr line)) (bare_spelled (without_cr line)) e
  where
    by : (b : Bool) (asks : Option DeskLine) (spelled : Option Command) → b ≡ true
        → cost_to visits limit d.system (leads_by d (elim b [ true ↦ None | false ↦ asks ]) (edit_by d.system (elim b [ true ↦ None | false ↦ spelled ]))) ≡ no_cost
    by true asks spelled f = refl
    by false asks spelled f = cc
