-- From what a request is answered to what a line is.
use Rattle.std.proofs.Common.{◌≡◌, ◌≤◌, ℕ, Bool, true, false, not, ◌&&◌, ◌++◌, Option, Some, None, Result, Ok, Err, List, length, codes, refl, sym, ap, ◌∙◌, subst, arith}
use Rattle.std.specs.Prelude.{IfOk, IsOk}
use Rattle.std.proofs.lemmas.Bool.Decides.{nat_tests}
use Rattle.lsys_syntax.specs.Limits.{most_line_bytes}
use Rattle.lsys_syntax.specs.Commands.{Command}
use Rattle.lsys_io.specs.declared.Failed.{Failed}
use Rattle.lsys_spec.specs.Systems.{System}
use Rattle.lsys_spec.specs.Levels as L
use Rattle.lsys_spec.specs.Refusals.{Reply, said, refused, refused_memory, line_feed, is_long, is_passed_over}
use Rattle.lsys_spec.specs.Replies.{shown, edited, levels_of, picture_of, string_line, bare_reply, bare_spelled, is_query, spelled_by}
use Rattle.lsys_spec.specs.PictureTexts.{segments_text, svg_text}
use Rattle.lsys_spec.specs.Output.{memory_or}
use Rattle.lsys_syntax.specs.Tokens.{Token, tokens}
use Rattle.lsys_rules.specs.declared.refusal.Refusal.{Refusal}
use Rattle.lsys_rules.specs.declared.refusal.Refusal.TheVariants as refusals
use Rattle.lsys_session.specs.Requests.{IsRequest, IsAskedBy, reply_to, refusal_line, refusal_text}
use Rattle.lsys_session.specs.Sessions.{WasSaid, refusal_outcome}
use Rattle.lsys_session.specs.Answers.{line_reply, may_lack, line_reply_or_memory, line_spelled, BecameAsSpelled, WasAnswered}
use Rattle.lsys_session.specs.Given.{MayLack, is_something, given_reply, request_outcome, outcome_by_reply, WasGiven}
use Rattle.lsys_session.specs.declared.outcome.Outcome.{Outcome}
use Rattle.lsys_session.specs.declared.outcome.Outcome.TheVariants as outcomes
use Rattle.lsys_session.specs.declared.request.Request.{Request}
use Rattle.lsys_session.specs.declared.request.Request.TheVariants.{Nothing, Edit, String, Segments, Svg, Show, Quit}

-- 1. what became of it

shown_became : {A : Type 0} (s : System) (text : A → List ℕ) (a : Result A (List ℕ)) (spelled : Option Command) (c : Command) → spelled ≡ Some c → is_query c ≡ true
    → BecameAsSpelled spelled (shown s text a) (outcome_by_reply outcomes.Printed (shown s text a))
shown_became s text (Ok a) spelled c e q = record { refusal = refl; memory = refl; end = refl; spells = (c, e, q) }
shown_became s text (Err why) spelled c e q = record { refusal = refl; memory = refl; end = refl; spells = tt }

edited_became : (limit : ℕ) (s next : System) (a : Result (List (List L.LevelSymbol)) (List ℕ)) (spelled : Option Command) (c : Command) → spelled ≡ Some c → is_query c ≡ false
    → BecameAsSpelled spelled (edited limit s next a) (outcome_by_reply outcomes.Accepted (edited limit s next a))
edited_became limit s next (Ok levels) spelled c e q = record { refusal = refl; memory = refl; end = refl; spells = (c, e, q) }
edited_became limit s next (Err why) spelled c e q = record { refusal = refl; memory = refl; end = refl; spells = tt }

memory_became : (s : System) (spelled : Option Command) → BecameAsSpelled spelled (refused_memory s) outcomes.Memory
memory_became s spelled = record { refusal = refl; memory = refl; end = refl; spells = tt }

becomes : (limit : ℕ) (s : System) (r : Request) (lacks : Bool) (spelled : Option Command) → IsAskedBy s spelled r → BecameAsSpelled spelled (given_reply limit s r lacks) (outcome_by_reply (request_outcome r) (given_reply limit s r lacks))
becomes limit s Nothing true spelled h = record { refusal = refl; memory = refl; end = refl; spells = h }
becomes limit s Nothing false spelled h = record { refusal = refl; memory = refl; end = refl; spells = h }
becomes limit s (Edit next) true spelled h = memory_became s spelled
becomes limit s (Edit next) false spelled h = edited_became limit s next (levels_of limit next) spelled h.0 h.1 h.2
becomes limit s (String t) true spelled h = memory_became s spelled
becomes limit s (String t) false spelled h = shown_became s (string_line t) (levels_of limit s) spelled h.0 h.1 h.2
becomes limit s Segments true spelled h = memory_became s spelled
becomes limit s Segments false spelled h = shown_became s segments_text (picture_of s (levels_of limit s)) spelled h.0 h.1 h.2
becomes limit s Svg true spelled h = memory_became s spelled
becomes limit s Svg false spelled h = shown_became s (svg_text s.lattice) (picture_of s (levels_of limit s)) spelled h.0 h.1 h.2
becomes limit s Show true spelled h = memory_became s spelled
becomes limit s Show false spelled h = record { refusal = refl; memory = refl; end = refl; spells = (h.0, h.1, h.2) }
becomes limit s Quit true spelled h = memory_became s spelled
becomes limit s Quit false spelled h = record { refusal = refl; memory = refl; end = refl; spells = tt }

became_so : {spelled : Option Command} {reply : Reply} {outcome : Outcome} (result : Result Outcome Failed) → IfOk result (λ o. o ≡ outcome) → BecameAsSpelled spelled reply outcome → IfOk result (BecameAsSpelled spelled reply)
became_so {spelled = spelled} {reply = reply} (Ok o) e b = subst (BecameAsSpelled spelled reply) (sym e) b
became_so (Err f) e b = tt

if_ok : {P : Type 0} (result : Result Outcome Failed) → P → IfOk result (λ o. P)
if_ok (Ok o) p = p
if_ok (Err f) p = tt

-- 2. lines that are not too long

abbrev either : {A : Type 0} → Bool → A → A → A
either b x y = elim b [ true ↦ x | false ↦ y ]

taken : {A : Type 0} (b : Bool) (x y : A) → b ≡ true → either b x y ≡ x
taken true x y e = refl
taken false x y e = cc

left : {A : Type 0} (b : Bool) (x y : A) → b ≡ false → either b x y ≡ y
left true x y e = cc
left false x y e = refl

pub not_long : (limit : ℕ) (s : System) (line : List ℕ) → is_long line ≡ false → line_reply limit s line ≡ bare_reply limit s line
not_long limit s line e = left (is_long line) (refused s (codes "syntax long")) (bare_reply limit s line) e

pub spelled_so : (line : List ℕ) → is_long line ≡ false → line_spelled line ≡ bare_spelled line
spelled_so line e = left (is_long line) None (bare_spelled line) e

passed_none : (b : Bool) (o : Option Command) (c : Command) → either b None o ≡ Some c → b ≡ false
passed_none true o c e = cc
passed_none false o c e = refl

may : (line : List ℕ) → is_long line ≡ false → is_passed_over line ≡ false → may_lack line ≡ true
may line e p = ap (λ b. not b && not (is_passed_over line)) e ∙ ap (λ b. not b) p

pub may_spelled : (line : List ℕ) (c : Command) → is_long line ≡ false → bare_spelled line ≡ Some c → may_lack line ≡ true
may_spelled line c e h = may line e (passed_none (is_passed_over line) (spelled_by (tokens line)) c h)

lacking : (limit : ℕ) (s : System) (line : List ℕ) → may_lack line ≡ true → refused_memory s ≡ line_reply_or_memory limit s line true
lacking limit s line e = sym (ap (λ b. memory_or b s (line_reply limit s line)) e)

module _ (limit : ℕ) (s : System) (line : List ℕ) (short : is_long line ≡ false) where
  plainly : (r : Request) → bare_reply limit s line ≡ reply_to limit s r → reply_to limit s r ≡ line_reply_or_memory limit s line false
  plainly r e = sym (not_long limit s line short ∙ e)

  for_memory : (c : Command) → bare_spelled line ≡ Some c → refused_memory s ≡ line_reply_or_memory limit s line true
  for_memory c h = lacking limit s line (may_spelled line c short h)

  given_is : (r : Request) (lacks : Bool) → bare_reply limit s line ≡ reply_to limit s r → IsAskedBy s (bare_spelled line) r → given_reply limit s r lacks ≡ line_reply_or_memory limit s line (lacks && is_something r)
  given_is Nothing true e h = plainly Nothing e
  given_is Nothing false e h = plainly Nothing e
  given_is (Edit next) true e h = for_memory h.0 h.1
  given_is (Edit next) false e h = plainly (Edit next) e
  given_is (String t) true e h = for_memory h.0 h.1
  given_is (String t) false e h = plainly (String t) e
  given_is Segments true e h = for_memory h.0 h.1
  given_is Segments false e h = plainly Segments e
  given_is Svg true e h = for_memory h.0 h.1
  given_is Svg false e h = plainly Svg e
  given_is Show true e h = for_memory h.0 h.1
  given_is Show false e h = plainly Show e
  given_is Quit true e h = for_memory h.0 h.1
  given_is Quit false e h = plainly Quit e

module _ {K : Type 0} (written : K → Option (List ℕ)) (faults : K → ℕ) (a b : K) (held : List ℕ) (limit : ℕ) (s : System) (line : List ℕ) (result : Result Outcome Failed) where
  pub answered : (new : System) (r : Request) → is_long line ≡ false → IsRequest s line (Ok r) → WasGiven written faults a b held limit s new r result → WasAnswered written faults a b held limit s new line result
  answered new r short q g = record {
    lacks = g.lacks && is_something r;
    reply = given_reply limit s r g.lacks;
    is = given_is limit s line short r g.lacks (q.0 limit) q.2;
    put = g.says.put;
    empty = g.says.empty;
    next = g.next;
    became = became_so result g.says.outcome (becomes limit s r g.lacks (line_spelled line) (subst (λ spelled. IsAskedBy s spelled r) (sym (spelled_so line short)) q.2));
  }

  -- 3. lines that are refused by themselves

  refused_so : (why : List ℕ) → line_reply limit s line ≡ refused s why → WasSaid written faults a b held (codes "refused " ++ why ++ line_feed) outcomes.Refused result
      → WasAnswered written faults a b held limit s s line result
  refused_so why e said = record {
    lacks = false;
    reply = refused s why;
    is = sym e;
    put = said.put;
    empty = said.empty;
    next = if_ok result refl;
    became = became_so result said.outcome (record { refusal = refl; memory = refl; end = refl; spells = tt });
  }

  lacking_memory : may_lack line ≡ true → WasSaid written faults a b held (codes "refused memory" ++ line_feed) outcomes.Memory result → WasAnswered written faults a b held limit s s line result
  lacking_memory e said = record {
    lacks = true;
    reply = refused_memory s;
    is = lacking limit s line e;
    put = said.put;
    empty = said.empty;
    next = if_ok result refl;
    became = became_so result said.outcome (memory_became s (line_spelled line));
  }

  pub answered_refusal : (e : Refusal) → is_long line ≡ false → IsRequest s line (Err e) → WasSaid written faults a b held (refusal_line e) (refusal_outcome e) result → WasAnswered written faults a b held limit s s line result
  answered_refusal refusals.Memory short q said = lacking_memory (may line short q.0) said
  answered_refusal (refusals.Byte n) short q said = refused_so (refusal_text (refusals.Byte n)) (not_long limit s line short ∙ q limit) said
  answered_refusal refusals.LongLine short q said = refused_so (refusal_text refusals.LongLine) (not_long limit s line short ∙ q limit) said
  answered_refusal (refusals.Token n) short q said = refused_so (refusal_text (refusals.Token n)) (not_long limit s line short ∙ q limit) said
  answered_refusal (refusals.Deep n) short q said = refused_so (refusal_text (refusals.Deep n)) (not_long limit s line short ∙ q limit) said
  answered_refusal (refusals.Version n) short q said = refused_so (refusal_text (refusals.Version n)) (not_long limit s line short ∙ q limit) said
  answered_refusal (refusals.Name n) short q said = refused_so (refusal_text (refusals.Name n)) (not_long limit s line short ∙ q limit) said
  answered_refusal (refusals.Duplicate n) short q said = refused_so (refusal_text (refusals.Duplicate n)) (not_long limit s line short ∙ q limit) said
  answered_refusal (refusals.Mixed n) short q said = refused_so (refusal_text (refusals.Mixed n)) (not_long limit s line short ∙ q limit) said
  answered_refusal (refusals.Label n) short q said = refused_so (refusal_text (refusals.Label n)) (not_long limit s line short ∙ q limit) said
  answered_refusal (refusals.Table n) short q said = refused_so (refusal_text (refusals.Table n)) (not_long limit s line short ∙ q limit) said
  answered_refusal (refusals.Level n) short q said = refused_so (refusal_text (refusals.Level n)) (not_long limit s line short ∙ q limit) said
  answered_refusal (refusals.TooMany n) short q said = refused_so (refusal_text (refusals.TooMany n)) (not_long limit s line short ∙ q limit) said

pub short_by : (line : List ℕ) → length line ≤ most_line_bytes → is_long line ≡ false
short_by line h = grind (arith, nat_tests)

-- 4. lines for which memory is wanting

spelled_tokens : (b : Bool) (t : Result (List Token) ℕ) (c : Command) → either b None (spelled_by t) ≡ Some c → IsOk t
spelled_tokens true t c e = cc
spelled_tokens false (Ok ts) c e = refl
spelled_tokens false (Err n) c e = cc

pub asked_tokens : (limit : ℕ) (s : System) (line : List ℕ) (r : Request) → IsAskedBy s (bare_spelled line) r → MayLack limit s r → IsOk (tokens line)
asked_tokens limit s line Nothing h m = absurd m
asked_tokens limit s line (Edit next) h m = spelled_tokens (is_passed_over line) (tokens line) h.0 h.1
asked_tokens limit s line (String t) h m = absurd m
asked_tokens limit s line Segments h m = spelled_tokens (is_passed_over line) (tokens line) h.0 h.1
asked_tokens limit s line Svg h m = spelled_tokens (is_passed_over line) (tokens line) h.0 h.1
asked_tokens limit s line Show h m = absurd m
asked_tokens limit s line Quit h m = absurd m

IsLacking : Outcome → Type 0
IsLacking outcomes.Memory = Unit {0}
IsLacking o = ⊥

lacking_tokens : (s : System) (line : List ℕ) (e : Refusal) → IsRequest s line (Err e) → IsLacking (refusal_outcome e) → IsOk (tokens line)
unfolding IsLacking
lacking_tokens s line refusals.Memory q l = q.1
lacking_tokens s line (refusals.Byte n) q l = absurd l
lacking_tokens s line refusals.LongLine q l = absurd l
lacking_tokens s line (refusals.Token n) q l = absurd l
lacking_tokens s line (refusals.Deep n) q l = absurd l
lacking_tokens s line (refusals.Version n) q l = absurd l
lacking_tokens s line (refusals.Name n) q l = absurd l
lacking_tokens s line (refusals.Duplicate n) q l = absurd l
lacking_tokens s line (refusals.Mixed n) q l = absurd l
lacking_tokens s line (refusals.Label n) q l = absurd l
lacking_tokens s line (refusals.Table n) q l = absurd l
lacking_tokens s line (refusals.Level n) q l = absurd l
lacking_tokens s line (refusals.TooMany n) q l = absurd l

pub refused_tokens : (s : System) (line : List ℕ) (e : Refusal) (result : Result Outcome Failed) → IsRequest s line (Err e) → IfOk result (λ o. o ≡ refusal_outcome e) → result ≡ Ok outcomes.Memory → IsOk (tokens line)
unfolding IsLacking
refused_tokens s line e (Ok o) q is h =
    let memory : outcomes.Memory ≡ refusal_outcome e = cc in
    lacking_tokens s line e q (subst IsLacking memory tt)
refused_tokens s line e (Err f) q is h = cc
