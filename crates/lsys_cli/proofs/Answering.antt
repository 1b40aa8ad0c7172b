-- From what was said of a line to the desk's reply.
use Rattle.std.proofs.Common.{◌≡◌, ◌<◌, ◌⊎◌, inl, inr, ℕ, Bool, true, false, not, ◌&&◌, Option, Some, None, Result, Ok, Err, List, [], length, map, codes, refl, sym, ap, ◌∙◌, subst, arith}
use Rattle.std.specs.Prelude.{IfOk}
use Rattle.std.proofs.lemmas.Bool.Decides.{nat_tests}
use Rattle.lsys_syntax.specs.Limits.{most_line_bytes}
use Rattle.lsys_syntax.specs.Commands.{Command}
use Rattle.lsys_syntax.specs.Tokens.{tokens}
use Rattle.lsys_io.specs.Writes.{WasPut}
use Rattle.lsys_io.specs.declared.Failed.{Failed}
use Rattle.lsys_spec.specs.Systems.{System}
use Rattle.lsys_spec.specs.Levels as L
use Rattle.lsys_spec.specs.Refusals.{Reply, refused, refused_memory, is_long, is_passed_over}
use Rattle.lsys_spec.specs.Replies.{bare_reply, bare_spelled, edited, levels_of}
use Rattle.lsys_spec.specs.Output.{memory_or}
use Rattle.lsys_text.specs.Tokens.{token_of}
use Rattle.lsys_text.specs.declared.token_kind.Token.{Token}
use Rattle.lsys_history.specs.Timelines as timelines
use Rattle.lsys_history.specs.Desks.{Desk, DeskLine, answered, bare_asks, desk, desk_memory_or, spells_edit, led, own_reply, read_asks, reply_by, session_reply, tokens_ask}
use Rattle.lsys_rules.specs.declared.refusal.Refusal.{Refusal}
use Rattle.lsys_rules.specs.declared.refusal.Refusal.TheVariants as refusals
use Rattle.lsys_session.specs.ReadLines.{AreTokensOf, IsUnread}
use Rattle.lsys_session.proofs.Requests.{unread_line}
use Rattle.lsys_session.specs.Requests.{IsRequest, IsAskedBy, refusal_line}
use Rattle.lsys_session.specs.Sessions.{WasSaid, refusal_outcome}
use Rattle.lsys_session.specs.Given as given
use Rattle.lsys_session.specs.Answers.{line_reply, line_spelled, may_lack, refuses}
use Rattle.lsys_session.specs.Answers as session
use Rattle.lsys_session.specs.declared.outcome.Outcome.{Outcome}
use Rattle.lsys_session.specs.declared.outcome.Outcome.TheVariants as outcomes
use Rattle.lsys_session.specs.declared.request.Request.{Request}
use Rattle.lsys_session.specs.declared.request.Request.TheVariants.{Nothing, Edit, String, Segments, Svg, Show, Quit}
use Rattle.lsys_session.proofs.Answering.{answered as answered_request, answered_refusal, not_long, spelled_so, may_spelled}
use Rattle.lsys_cli.specs.Answers.{WasReplied, Became, WasServedOrLacked, line_answer, line_asks, step_answer}
use Rattle.lsys_cli.proofs.Leading.{stays}

-- 1. what a line asks

asks_unless : (b : Bool) (o : Option DeskLine) → b ≡ false → elim b [ true ↦ None | false ↦ o ] ≡ o
asks_unless true o e = cc
asks_unless false o e = refl

pub short_asks : (line : List ℕ) → is_long line ≡ false → line_asks line ≡ bare_asks line
short_asks line e = asks_unless (is_long line) (bare_asks line) e

none_passed : (b : Bool) (o : Option DeskLine) (asked : DeskLine) → elim b [ true ↦ None | false ↦ o ] ≡ Some asked → b ≡ false
none_passed true o asked e = cc
none_passed false o asked e = refl

pub asks_something : (line : List ℕ) (asked : DeskLine) → bare_asks line ≡ Some asked → is_passed_over line ≡ false
asks_something line asked e = none_passed (is_passed_over line) (read_asks (tokens line)) asked e

none_over : (b : Bool) (o : Option DeskLine) → b ≡ true → ◌≡◌ {A = Option DeskLine} (elim b [ true ↦ None | false ↦ o ]) None
none_over true o e = refl
none_over false o e = cc

pub passed_asks : (line : List ℕ) → is_passed_over line ≡ true → bare_asks line ≡ None
passed_asks line e = none_over (is_passed_over line) (read_asks (tokens line)) e

pub asks_by_tokens : (line : List ℕ) (found : List Token) → AreTokensOf line found → bare_asks line ≡ tokens_ask (map token_of found)
asks_by_tokens line found r = asks_unless (is_passed_over line) (read_asks (tokens line)) r.something ∙ ap read_asks r.tokens

unread_asks : (line : List ℕ) (n : ℕ) → is_passed_over line ≡ false → tokens line ≡ Err n → bare_asks line ≡ None
unread_asks line n p e = asks_unless (is_passed_over line) (read_asks (tokens line)) p ∙ ap read_asks e

pub may : (line : List ℕ) → is_long line ≡ false → is_passed_over line ≡ false → may_lack line ≡ true
may line e p = ap (λ b. not b && not (is_passed_over line)) e ∙ ap (λ b. not b) p

pub long_by : (line : List ℕ) → most_line_bytes < length line → is_long line ≡ true
long_by line h = grind (arith, nat_tests)

and-true : (a b : Bool) → b ≡ true → (a && b) ≡ a
and-true true b e = e
and-true false b e = refl

-- 2. lines that a session answered

still : (x y : Bool) (h k : timelines.Timeline System) → y ≡ false → elim (not x && y) [ true ↦ h | false ↦ k ] ≡ k
still true y h k e = refl
still false true h k e = cc
still false false h k e = refl

still_refused : (x y : Bool) (h k : timelines.Timeline System) → x ≡ true → elim (not x && y) [ true ↦ h | false ↦ k ] ≡ k
still_refused true y h k e = refl
still_refused false y h k e = cc

steady : (d : Desk) (b : Bool) (r : Reply) (spelled : Option Command) → ((memory_or b d.system r).is_refusal ≡ true) ⊎ (spells_edit spelled ≡ false)
    → (desk_memory_or b d (session_reply d r spelled)).next ≡ desk (memory_or b d.system r).next d.steps
steady d true r spelled e = refl
steady d false r spelled (inl e) = ap (desk r.next) (still_refused r.is_refusal (spells_edit spelled) (timelines.after_edit d.steps d.system) d.steps e)
steady d false r spelled (inr e) = ap (desk r.next) (still r.is_refusal (spells_edit spelled) (timelines.after_edit d.steps d.system) d.steps e)

same_reply : (d : Desk) (b : Bool) (r : Reply) (spelled : Option Command) → (desk_memory_or b d (session_reply d r spelled)).reply ≡ memory_or b d.system r
same_reply d true r spelled = refl
same_reply d false r spelled = refl

pub refusal_refuses : (e : Refusal) → refuses (refusal_outcome e) ≡ true
refusal_refuses refusals.Memory = refl
refusal_refuses (refusals.Byte n) = refl
refusal_refuses refusals.LongLine = refl
refusal_refuses (refusals.Token n) = refl
refusal_refuses (refusals.Deep n) = refl
refusal_refuses (refusals.Version n) = refl
refusal_refuses (refusals.Name n) = refl
refusal_refuses (refusals.Duplicate n) = refl
refusal_refuses (refusals.Mixed n) = refl
refusal_refuses (refusals.Label n) = refl
refusal_refuses (refusals.Table n) = refl
refusal_refuses (refusals.Level n) = refl
refusal_refuses (refusals.TooMany n) = refl

-- the line is refused, or spells no edit
abbrev IsQuiet : List ℕ → Outcome → Type 0
IsQuiet line o = (refuses o ≡ true) ⊎ (spells_edit (line_spelled line) ≡ false)

quiet_refusal : (line : List ℕ) (e : Refusal) (result : Result Outcome Failed) → IfOk result (λ o. o ≡ refusal_outcome e) → IfOk result (IsQuiet line)
quiet_refusal line e (Ok o) h = inl (ap refuses h ∙ refusal_refuses e)
quiet_refusal line e (Err f) h = tt

spells_none : (s : System) (spelled : Option Command) (r : Request) → given.is_edit r ≡ false → IsAskedBy s spelled r → spells_edit spelled ≡ false
spells_none s spelled Nothing n h = ap spells_edit h
spells_none s spelled (Edit next) n h = cc
spells_none s spelled (String t) n (c, e, q) = ap spells_edit e ∙ ap not q
spells_none s spelled Segments n (c, e, q) = ap spells_edit e ∙ ap not q
spells_none s spelled Svg n (c, e, q) = ap spells_edit e ∙ ap not q
spells_none s spelled Show n (c, e, q) = ap spells_edit e ∙ ap not q
spells_none s spelled Quit n (c, e, q) = ap spells_edit e ∙ ap not q

pub no_edit : (r : Request) → ((next : System) → r ≡ Edit next → ⊥) → given.is_edit r ≡ false
no_edit Nothing n = refl
no_edit (Edit next) n = absurd (n next refl)
no_edit (String t) n = refl
no_edit Segments n = refl
no_edit Svg n = refl
no_edit Show n = refl
no_edit Quit n = refl

pub asked_by_line : (s : System) (line : List ℕ) (r : Request) → is_long line ≡ false → IsRequest s line (Ok r) → IsAskedBy s (line_spelled line) r
asked_by_line s line r short q = subst (λ spelled. IsAskedBy s spelled r) (sym (spelled_so line short)) q.2

quiet_query : (s : System) (line : List ℕ) (r : Request) (result : Result Outcome Failed) → is_long line ≡ false → IsRequest s line (Ok r) → given.is_edit r ≡ false → IfOk result (IsQuiet line)
quiet_query s line r (Ok o) short q n = inr (spells_none s (line_spelled line) r n (asked_by_line s line r short q))
quiet_query s line r (Err f) short q n = tt

quietly : {P : Type 0} (limit : ℕ) (s : System) (line : List ℕ) (o : Outcome) (reply : Reply) → reply.is_refusal ≡ refuses o → (refuses o ≡ true) ⊎ P → (reply.is_refusal ≡ true) ⊎ P
quietly limit s line o reply e (inl h) = inl (e ∙ h)
quietly limit s line o reply e (inr p) = inr p

module _ {K : Type 0} (written : K → Option (List ℕ)) (faults : K → ℕ) (a b : K) (held : List ℕ) (limit : ℕ) (d : Desk) (line : List ℕ) where
  by_session : (after : System) (result : Result Outcome Failed) → line_asks line ≡ None → IfOk result (IsQuiet line)
      → session.WasAnswered written faults a b held limit d.system after line result → WasReplied written faults a b held limit d (desk after d.steps) line result
  by_session after (Ok o) none quiet s =
      let lacks = s.lacks && may_lack line in
      let r = line_reply limit d.system line in
      let spelled = line_spelled line in
      let said : s.reply ≡ (desk_memory_or lacks d (session_reply d r spelled)).reply = s.is ∙ sym (same_reply d lacks r spelled) in
      let steady_by = subst (λ (q : Reply). (q.is_refusal ≡ true) ⊎ (spells_edit spelled ≡ false)) s.is (quietly limit d.system line o s.reply s.became.refusal quiet) in
      record {
        lacks = s.lacks;
        answer = desk_memory_or lacks d (session_reply d r spelled);
        is = ap (λ asked. desk_memory_or lacks d (reply_by limit d asked r spelled)) (sym none);
        gives = record {
          put = subst (λ (q : Reply). WasPut written faults a b [] held q.text (Ok o)) said s.put;
          empty = s.empty;
          next = ap (λ (t : System). desk t d.steps) (s.next ∙ ap (λ (q : Reply). q.next) s.is) ∙ sym (steady d lacks r spelled steady_by);
          became = subst (λ (q : Reply). Became q o) said (record { refusal = s.became.refusal; memory = s.became.memory; end = s.became.end });
        };
      }
  by_session after (Err failed) none quiet s =
      let lacks = s.lacks && may_lack line in
      let r = line_reply limit d.system line in
      let spelled = line_spelled line in
      let said : s.reply ≡ (desk_memory_or lacks d (session_reply d r spelled)).reply = s.is ∙ sym (same_reply d lacks r spelled) in
      record {
        lacks = s.lacks;
        answer = desk_memory_or lacks d (session_reply d r spelled);
        is = ap (λ asked. desk_memory_or lacks d (reply_by limit d asked r spelled)) (sym none);
        gives = record {
          put = subst (λ (q : Reply). WasPut written faults a b [] held q.text (Err failed)) said s.put;
          empty = s.empty;
          next = tt;
          became = tt;
        };
      }

  pub by_query : (r : Request) (after : System) (result : Result Outcome Failed) → is_long line ≡ false → bare_asks line ≡ None → IsRequest d.system line (Ok r) → given.is_edit r ≡ false
      → given.WasGiven written faults a b held limit d.system after r result → WasReplied written faults a b held limit d (desk after d.steps) line result
  by_query r after result short none q n g =
      by_session after result (short_asks line short ∙ none) (quiet_query d.system line r result short q n) (answered_request written faults a b held limit d.system line result after r short q g)

  pub by_refusal : (e : Refusal) (result : Result Outcome Failed) → is_long line ≡ false → bare_asks line ≡ None → IsRequest d.system line (Err e)
      → WasSaid written faults a b held (refusal_line e) (refusal_outcome e) result → WasReplied written faults a b held limit d (desk d.system d.steps) line result
  by_refusal e result short none q says =
      by_session d.system result (short_asks line short ∙ none) (quiet_refusal line e result says.outcome) (answered_refusal written faults a b held limit d.system line result e short q says)

  -- 3. edits

  led_is : (next : System) (x : Result (List (List L.LevelSymbol)) (List ℕ)) (spelled : Option Command) → spells_edit spelled ≡ true
      → led d (edited limit d.system next x) (timelines.after_edit d.steps d.system) ≡ session_reply d (edited limit d.system next x) spelled
  led_is next (Ok levels) spelled e =
      let r = edited limit d.system next (Ok levels) in
      sym (ap (λ y. answered r (desk next (elim y [ true ↦ timelines.after_edit d.steps d.system | false ↦ d.steps ]))) e)
  led_is next (Err why) spelled e = refl

  pub by_edit : (next : System) (new : Desk) (result : Result Outcome Failed) → is_long line ≡ false → line_asks line ≡ None → IsRequest d.system line (Ok (Edit next))
      → WasServedOrLacked written faults a b held d (step_answer limit d next (timelines.after_edit d.steps d.system)) new result → WasReplied written faults a b held limit d new line result
  by_edit next new result short none (replies, there, (c, spells, edits, unrefused, changed)) g =
      let r = line_reply limit d.system line in
      let spelled : line_spelled line ≡ Some c = spelled_so line short ∙ spells in
      let is_one : spells_edit (line_spelled line) ≡ true = ap spells_edit spelled ∙ ap not edits in
      let replied : edited limit d.system next (levels_of limit next) ≡ r = sym (not_long limit d.system line short ∙ replies limit) in
      record {
        lacks = g.lacks;
        answer = desk_memory_or g.lacks d (step_answer limit d next (timelines.after_edit d.steps d.system));
        is =
            ap (desk_memory_or g.lacks d) (led_is next (levels_of limit next) (line_spelled line) is_one
            ∙ ap (λ q. session_reply d q (line_spelled line)) replied
            ∙ ap (λ asked. reply_by limit d asked r (line_spelled line)) (sym none))
            ∙ ap (λ lacks. desk_memory_or lacks d (line_answer limit d line)) (sym (and-true g.lacks (may_lack line) (may_spelled line c short spells)));
        gives = g.gives;
      }

  -- 4. the desk's own lines

  pub by_desk : (asked : DeskLine) (new : Desk) (result : Result Outcome Failed) → is_long line ≡ false → bare_asks line ≡ Some asked
      → WasServedOrLacked written faults a b held d (own_reply limit d asked) new result → WasReplied written faults a b held limit d new line result
  by_desk asked new result short e g =
      let r = line_reply limit d.system line in
      record {
        lacks = g.lacks;
        answer = desk_memory_or g.lacks d (own_reply limit d asked);
        is =
            ap (λ o. desk_memory_or g.lacks d (reply_by limit d o r (line_spelled line))) (sym (short_asks line short ∙ e))
            ∙ ap (λ lacks. desk_memory_or lacks d (line_answer limit d line)) (sym (and-true g.lacks (may_lack line) (may line short (asks_something line asked e))));
        gives = g.gives;
      }

  -- 5. lines at which nothing is asked

  for_memory : (result : Result Outcome Failed) → is_long line ≡ false → is_passed_over line ≡ false → WasSaid written faults a b held (refusal_line refusals.Memory) outcomes.Memory result
      → WasReplied written faults a b held limit d d line result
  for_memory result short told says = record {
    lacks = true;
    answer = answered (refused_memory d.system) d;
    is = ap (λ lacks. desk_memory_or lacks d (line_answer limit d line)) (sym (may line short told));
    gives = stays written faults a b held d result (answered (refused_memory d.system) d) outcomes.Memory says refl (record { refusal = refl; memory = refl; end = refl });
  }

  pub by_unread : (e : Refusal) (result : Result Outcome Failed) → is_long line ≡ false → IsUnread line e → WasSaid written faults a b held (refusal_line e) (refusal_outcome e) result
      → WasReplied written faults a b held limit d d line result
  by_unread (refusals.Byte n) result short q says = by_refusal (refusals.Byte n) result short (unread_asks line n q.0 q.1) (unread_line d.system line (refusals.Byte n) q) says
  by_unread refusals.Memory result short q says = for_memory result short q.0 says
  by_unread refusals.LongLine result short q says = absurd q
  by_unread (refusals.Token n) result short q says = absurd q
  by_unread (refusals.Deep n) result short q says = absurd q
  by_unread (refusals.Version n) result short q says = absurd q
  by_unread (refusals.Name n) result short q says = absurd q
  by_unread (refusals.Duplicate n) result short q says = absurd q
  by_unread (refusals.Mixed n) result short q says = absurd q
  by_unread (refusals.Label n) result short q says = absurd q
  by_unread (refusals.Table n) result short q says = absurd q
  by_unread (refusals.Level n) result short q says = absurd q
  by_unread (refusals.TooMany n) result short q says = absurd q

  long_answer : (x : Bool) → x ≡ true → answered (refused d.system (codes "syntax long")) d
      ≡ reply_by limit d (elim x [ true ↦ None | false ↦ bare_asks line ]) (elim x [ true ↦ refused d.system (codes "syntax long") | false ↦ bare_reply limit d.system line ])
      (elim x [ true ↦ None | false ↦ bare_spelled line ])
  long_answer true e = refl
  long_answer false e = cc

  pub for_length : (result : Result Outcome Failed) → is_long line ≡ true → WasSaid written faults a b held (refusal_line refusals.LongLine) outcomes.Refused result
      → WasReplied written faults a b held limit d d line result
  for_length result long says = record {
    lacks = false;
    answer = answered (refused d.system (codes "syntax long")) d;
    is = long_answer (is_long line) long;
    gives = stays written faults a b held d result (answered (refused d.system (codes "syntax long")) d) outcomes.Refused says refl (record { refusal = refl; memory = refl; end = refl });
  }
