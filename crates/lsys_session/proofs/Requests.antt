-- The reply to a line, step by step.
use Rattle.std.proofs.Common.{◌≡◌, ℕ, Bool, true, false, Option, Some, None, Result, Ok, Err, List, [], map, length, codes, refl, ap, sym, subst, ◌∙◌, arith}
use Rattle.std.proofs.lemmas.Simd.{map-map}
use Rattle.std.proofs.lemmas.Bool.Decides.{nat_tests}
use Rattle.std.specs.Prelude.{IsOk, nat_lt, unwrap_or}
use Rattle.lsys_syntax.specs.Tokens as syntax
use Rattle.lsys_syntax.specs.Commands.{Command, set_axiom, put_production, drop_rule, set_ignored, set_schedule, set_seed, set_depth, set_lattice, put_homomorphism, print_string, print_segments, print_svg, print_system, quit, set_version, set_own, drop_own, set_numbering}
use Rattle.lsys_syntax.specs.LineMachine.{Verdict, verdict, sentence, stops, too_deep, command_in, parse_command}
use Rattle.lsys_spec.specs.Systems as spec
use Rattle.lsys_spec.specs.Edits as edits
use Rattle.lsys_spec.specs.Refusals.{Reply, said, refused, is_passed_over, column_at, why_word, with_number}
use Rattle.lsys_spec.specs.Replies.{accepted, edited, levels_of, command_reply, verdict_reply, tokens_reply, bare_reply, spelled_by, is_query}
use Rattle.lsys_text.specs.Tokens.{kind_row, token_of}
use Rattle.lsys_text.specs.declared.token_kind.Token.{Token}
use Rattle.lsys_reading.specs.Parted.{command_of}
use Rattle.lsys_reading.specs.Parsing.{column_of, kind_of_command}
use Rattle.lsys_reading.specs.declared.command.CommandKind.{CommandKind}
use Rattle.lsys_reading.specs.declared.command.CommandKind.TheVariants as kinds
use Rattle.lsys_rules.specs.Lines.{CommandLine}
use Rattle.lsys_rules.specs.Parsing.{IsParsedLine}
use Rattle.lsys_rules.specs.Applying.{IsToldAt}
use Rattle.lsys_rules.specs.declared.refusal.Refusal.{Refusal}
use Rattle.lsys_rules.specs.declared.refusal.Refusal.TheVariants as refusals
use Rattle.lsys_session.specs.ReadLines.{AreTokensOf, IsUnread}
use Rattle.lsys_session.specs.Requests.{IsCommandIn, IsRequested, IsRequest, IsAskedBy, HasLevel, query_by}
use Rattle.lsys_session.specs.declared.request.Request.{Request}
use Rattle.lsys_session.specs.declared.request.Request.TheVariants.{Nothing, Edit, String}

-- 1. a line's tokens

same_kinds : (ts : List Token) → map (λ (t : syntax.Token). t.kind) (map token_of ts) ≡ kind_row ts
same_kinds ts = map-map (λ (t : syntax.Token). t.kind) token_of ts

-- of tokens with this verdict
told_by : (limit : ℕ) (s : spec.System) (bare : List ℕ) (ts : List Token) (v : Verdict) → syntax.tokens bare ≡ Ok (map token_of ts) → verdict (kind_row ts) ≡ v
    → tokens_reply limit s (length bare) (syntax.tokens bare) ≡ verdict_reply limit s (λ n. column_at (length bare) n (map token_of ts)) v
told_by limit s bare ts v e h =
    ap (tokens_reply limit s (length bare)) e
    ∙ ap (λ ks. verdict_reply limit s (λ n. column_at (length bare) n (map token_of ts)) (verdict ks)) (same_kinds ts)
    ∙ ap (verdict_reply limit s (λ n. column_at (length bare) n (map token_of ts))) h

pub parsed_line : (bare : List ℕ) (ts : List Token) → syntax.tokens bare ≡ Ok (map token_of ts) → (r : Result CommandLine Refusal) → IsParsedLine ts (length bare) r → IsCommandIn bare r
parsed_line bare ts e (Ok c) p = subst (λ (l : CommandLine). IsCommandIn bare (Ok l)) (sym p.0) (e, p.1, refl)
parsed_line bare ts e (Err (refusals.Token n)) p = λ limit s.
    told_by limit s bare ts (stops p.0) e p.1 ∙ ap (λ k. refused s (with_number (codes "syntax token") k)) (sym p.2)
parsed_line bare ts e (Err (refusals.Deep n)) p = λ limit s.
    told_by limit s bare ts (too_deep p.0) e p.1 ∙ ap (λ k. refused s (with_number (codes "syntax deep") k)) (sym p.2)
parsed_line bare ts e (Err refusals.Memory) p = λ us k stop.
    let same : map token_of ts ≡ us = (let r : ◌≡◌ {A = Result (List syntax.Token) ℕ} (Ok (map token_of ts)) (Ok us) = sym e ∙ k in cc) in
    p (ap verdict (sym (same_kinds ts)) ∙ ap (λ (vs : List syntax.Token). verdict (map (λ (t : syntax.Token). t.kind) vs)) same ∙ stop)
parsed_line bare ts e (Err (refusals.Byte n)) p = absurd p
parsed_line bare ts e (Err refusals.LongLine) p = absurd p
parsed_line bare ts e (Err (refusals.Version n)) p = absurd p
parsed_line bare ts e (Err (refusals.Name n)) p = absurd p
parsed_line bare ts e (Err (refusals.Duplicate n)) p = absurd p
parsed_line bare ts e (Err (refusals.Mixed n)) p = absurd p
parsed_line bare ts e (Err (refusals.Label n)) p = absurd p
parsed_line bare ts e (Err (refusals.Table n)) p = absurd p
parsed_line bare ts e (Err (refusals.Level n)) p = absurd p
parsed_line bare ts e (Err (refusals.TooMany n)) p = absurd p

-- 2. a command that nothing refuses

pub edit_asked : (limit : ℕ) (s : spec.System) (c : Command) → kind_of_command c ≡ kinds.Edit → accepted limit s c ≡ edited limit s (edits.changed s c) (levels_of limit (edits.changed s c))
edit_asked limit s (print_string n) e = cc
edit_asked limit s print_segments e = cc
edit_asked limit s print_svg e = cc
edit_asked limit s print_system e = cc
edit_asked limit s quit e = cc
edit_asked limit s (set_axiom xs) e = refl
edit_asked limit s (put_production t l r) e = refl
edit_asked limit s (drop_rule l) e = refl
edit_asked limit s (set_ignored ns) e = refl
edit_asked limit s (set_schedule ws) e = refl
edit_asked limit s (set_seed n) e = refl
edit_asked limit s (set_depth n) e = refl
edit_asked limit s (set_lattice k) e = refl
edit_asked limit s (put_homomorphism l r) e = refl
edit_asked limit s (set_version n) e = refl
edit_asked limit s (set_own k t ns) e = refl
edit_asked limit s (drop_own t) e = refl
edit_asked limit s (set_numbering g) e = refl

-- the command of this kind, where there is but one
abbrev pub IsOfKind : CommandKind → Command → Type 0
IsOfKind kinds.Edit c = is_query c ≡ false
IsOfKind (kinds.String t) c = c ≡ print_string t
IsOfKind kinds.Segments c = c ≡ print_segments
IsOfKind kinds.Svg c = c ≡ print_svg
IsOfKind kinds.Show c = c ≡ print_system
IsOfKind kinds.Quit c = c ≡ quit

kind_told : (c : Command) → IsOfKind (kind_of_command c) c
kind_told (print_string n) = refl
kind_told print_segments = refl
kind_told print_svg = refl
kind_told print_system = refl
kind_told quit = refl
kind_told (set_axiom xs) = refl
kind_told (put_production t l r) = refl
kind_told (drop_rule l) = refl
kind_told (set_ignored ns) = refl
kind_told (set_schedule ws) = refl
kind_told (set_seed n) = refl
kind_told (set_depth n) = refl
kind_told (set_lattice k) = refl
kind_told (put_homomorphism l r) = refl
kind_told (set_version n) = refl
kind_told (set_own k t ns) = refl
kind_told (drop_own t) = refl
kind_told (set_numbering g) = refl

pub of_kind : (c : Command) (k : CommandKind) → kind_of_command c ≡ k → IsOfKind k c
of_kind c k e = subst (λ k. IsOfKind k c) e (kind_told c)

below : (b : Bool) (why : edits.Why) (n : ℕ) → edits.refused_if b why n ≡ None → b ≡ false
below true why n e = cc
below false why n e = refl

pub level_there : (s : spec.System) (c : Command) (t : Option ℕ) → c ≡ print_string t → edits.refusal s c ≡ None → HasLevel s (String t)
level_there s c None e h = tt
level_there s c (Some n) e h =
    let passed : nat_lt s.depth n ≡ false = below (nat_lt s.depth n) edits.wrong_level 1 (subst (λ d. edits.refusal s d ≡ None) e h) in
    grind (arith, nat_tests, passed)

-- what a command of this kind asks that makes this of a system
abbrev request_by : CommandKind → spec.System → Request
request_by kind next = unwrap_or (query_by kind) (Edit next)

-- the command of a kind, and what it asks
module _ (s : spec.System) (c : CommandLine) (next : spec.System) where
  abbrev spelled : Command
  spelled = command_of c.tokens

  requested_so : (k : CommandKind) → kind_of_command spelled ≡ k → edits.refusal s spelled ≡ None → next ≡ edits.changed s spelled → IsRequested s c (Ok (request_by k next))
  requested_so kinds.Edit is unrefused e = (
    unrefused,
    λ limit. edit_asked limit s spelled is ∙ ap (λ next. edited limit s next (levels_of limit next)) (sym e),
    tt,
    (spelled, refl, of_kind spelled kinds.Edit is, unrefused, e),
  )
  requested_so (kinds.String t) is unrefused e =
      let one = of_kind spelled (kinds.String t) is in (unrefused, λ limit. ap (accepted limit s) one, level_there s spelled t one unrefused, (spelled, refl, ap is_query one))
  requested_so kinds.Segments is unrefused e = let one = of_kind spelled kinds.Segments is in (unrefused, λ limit. ap (accepted limit s) one, tt, (spelled, refl, ap is_query one))
  requested_so kinds.Svg is unrefused e = let one = of_kind spelled kinds.Svg is in (unrefused, λ limit. ap (accepted limit s) one, tt, (spelled, refl, ap is_query one))
  requested_so kinds.Show is unrefused e = let one = of_kind spelled kinds.Show is in (unrefused, λ limit. ap (accepted limit s) one, tt, (spelled, refl, ap is_query one))
  requested_so kinds.Quit is unrefused e = let one = of_kind spelled kinds.Quit is in (unrefused, λ limit. ap (accepted limit s) one, tt, (spelled, refl, ap is_query one))

module _ (s : spec.System) (c : CommandLine) (k : CommandKind) (is : kind_of_command (command_of c.tokens) ≡ k) (unrefused : edits.refusal s (command_of c.tokens) ≡ None) where
  pub query_requested : (q : Request) → query_by k ≡ Some q → IsRequested s c (Ok q)
  query_requested q by =
      let next = edits.changed s (command_of c.tokens) in
      subst (λ (r : Request). IsRequested s c (Ok r)) (ap (λ o. unwrap_or o (Edit next)) by) (requested_so s c next k is unrefused refl)

  pub edit_requested : (next : spec.System) → query_by k ≡ None → next ≡ edits.changed s (command_of c.tokens) → IsRequested s c (Ok (Edit next))
  edit_requested next by e = subst (λ (r : Request). IsRequested s c (Ok r)) (ap (λ o. unwrap_or o (Edit next)) by) (requested_so s c next k is unrefused e)

-- 3. the whole line

abbrev either : Bool → Reply → Reply → Reply
either b r q = elim b [ true ↦ r | false ↦ q ]

taken : (b : Bool) (r q : Reply) → b ≡ true → either b r q ≡ r
taken true r q e = refl
taken false r q e = cc

left : (b : Bool) (r q : Reply) → b ≡ false → either b r q ≡ q
left true r q e = cc
left false r q e = refl

abbrev spelled_unless : Bool → Option Command → Option Command
spelled_unless b o = elim b [ true ↦ None | false ↦ o ]

none_spelled : (b : Bool) (o : Option Command) → b ≡ true → spelled_unless b o ≡ None
none_spelled true o e = refl
none_spelled false o e = cc

some_spelled : (b : Bool) (o : Option Command) → b ≡ false → spelled_unless b o ≡ o
some_spelled true o e = cc
some_spelled false o e = refl

spelled_in : (ts : List Token) (c : Command) → verdict (kind_row ts) ≡ sentence c → spelled_by (Ok (map token_of ts)) ≡ Some c
spelled_in ts c v = ap parse_command (same_kinds ts) ∙ ap command_in v

pub passed_over : (s : spec.System) (bare : List ℕ) → is_passed_over bare ≡ true → IsRequest s bare (Ok Nothing)
passed_over s bare e = (λ limit. taken (is_passed_over bare) (said s []) (tokens_reply limit s (length bare) (syntax.tokens bare)) e, tt, none_spelled (is_passed_over bare) (spelled_by (syntax.tokens bare)) e)

not_passed : (limit : ℕ) (s : spec.System) (bare : List ℕ) → is_passed_over bare ≡ false → bare_reply limit s bare ≡ tokens_reply limit s (length bare) (syntax.tokens bare)
not_passed limit s bare e = left (is_passed_over bare) (said s []) (tokens_reply limit s (length bare) (syntax.tokens bare)) e

-- one that spells no command
pub unspelled_line : (s : spec.System) (bare : List ℕ) (found : List Token) (e : Refusal) → AreTokensOf bare found → IsCommandIn bare (Err e) → IsRequest s bare (Err e)
unspelled_line s bare found refusals.Memory r q = (r.something, subst (λ (a : Result (List syntax.Token) ℕ). IsOk a) (sym r.tokens) refl)
unspelled_line s bare found (refusals.Byte n) r q = λ limit. not_passed limit s bare r.something ∙ q limit s
unspelled_line s bare found refusals.LongLine r q = λ limit. not_passed limit s bare r.something ∙ q limit s
unspelled_line s bare found (refusals.Token n) r q = λ limit. not_passed limit s bare r.something ∙ q limit s
unspelled_line s bare found (refusals.Deep n) r q = λ limit. not_passed limit s bare r.something ∙ q limit s
unspelled_line s bare found (refusals.Version n) r q = λ limit. not_passed limit s bare r.something ∙ q limit s
unspelled_line s bare found (refusals.Name n) r q = λ limit. not_passed limit s bare r.something ∙ q limit s
unspelled_line s bare found (refusals.Duplicate n) r q = λ limit. not_passed limit s bare r.something ∙ q limit s
unspelled_line s bare found (refusals.Mixed n) r q = λ limit. not_passed limit s bare r.something ∙ q limit s
unspelled_line s bare found (refusals.Label n) r q = λ limit. not_passed limit s bare r.something ∙ q limit s
unspelled_line s bare found (refusals.Table n) r q = λ limit. not_passed limit s bare r.something ∙ q limit s
unspelled_line s bare found (refusals.Level n) r q = λ limit. not_passed limit s bare r.something ∙ q limit s
unspelled_line s bare found (refusals.TooMany n) r q = λ limit. not_passed limit s bare r.something ∙ q limit s

-- one that has a byte in no token, or for which memory is wanting
pub unread_line : (s : spec.System) (bare : List ℕ) (e : Refusal) → IsUnread bare e → IsRequest s bare (Err e)
unread_line s bare (refusals.Byte n) q = λ limit. not_passed limit s bare q.0 ∙ ap (tokens_reply limit s (length bare)) q.1
unread_line s bare refusals.Memory q = q
unread_line s bare refusals.LongLine q = absurd q
unread_line s bare (refusals.Token n) q = absurd q
unread_line s bare (refusals.Deep n) q = absurd q
unread_line s bare (refusals.Version n) q = absurd q
unread_line s bare (refusals.Name n) q = absurd q
unread_line s bare (refusals.Duplicate n) q = absurd q
unread_line s bare (refusals.Mixed n) q = absurd q
unread_line s bare (refusals.Label n) q = absurd q
unread_line s bare (refusals.Table n) q = absurd q
unread_line s bare (refusals.Level n) q = absurd q
unread_line s bare (refusals.TooMany n) q = absurd q

module _ (s : spec.System) (bare : List ℕ) (c : CommandLine) (p : is_passed_over bare ≡ false) (h : IsCommandIn bare (Ok c)) where
  abbrev column : ℕ → ℕ
  column n = column_at (length bare) n (map token_of c.tokens)

  replied : (limit : ℕ) → bare_reply limit s bare ≡ command_reply limit s column (command_of c.tokens) (edits.refusal s (command_of c.tokens))
  replied limit = not_passed limit s bare p ∙ told_by limit s bare c.tokens (sentence (command_of c.tokens)) h.0 h.1

  refused_so : (why : edits.Why) (n : ℕ) → IsToldAt c why n (edits.refusal s (command_of c.tokens)) → (limit : ℕ) → bare_reply limit s bare ≡ refused s (with_number (why_word why) n)
  refused_so why n told limit =
      let at : n ≡ column told.0 = told.2 ∙ ap (λ bytes. column_of bytes c.tokens told.0) h.2 in
      replied limit ∙ ap (command_reply limit s column (command_of c.tokens)) told.1 ∙ ap (λ k. refused s (with_number (why_word why) k)) (sym at)

  pub asked : (r : Result Request Refusal) → IsRequested s c r → IsRequest s bare r
  asked (Ok r) q =
      let spelled = some_spelled (is_passed_over bare) (spelled_by (syntax.tokens bare)) p ∙ ap spelled_by h.0 ∙ spelled_in c.tokens (command_of c.tokens) h.1 in
      (λ limit. replied limit ∙ ap (command_reply limit s column (command_of c.tokens)) q.0 ∙ q.1 limit, q.2, subst (λ o. IsAskedBy s o r) (sym spelled) q.3)
  asked (Err (refusals.Version n)) q = refused_so edits.wrong_version n q
  asked (Err (refusals.Name n)) q = refused_so edits.unknown_name n q
  asked (Err (refusals.Duplicate n)) q = refused_so edits.duplicate n q
  asked (Err (refusals.Mixed n)) q = refused_so edits.mixed n q
  asked (Err (refusals.Label n)) q = refused_so edits.wrong_label n q
  asked (Err (refusals.Table n)) q = refused_so edits.wrong_table n q
  asked (Err (refusals.Level n)) q = refused_so edits.wrong_level n q
  asked (Err (refusals.TooMany n)) q = refused_so edits.many n q
  asked (Err refusals.Memory) q = (p, subst (λ (r : Result (List syntax.Token) ℕ). IsOk r) (sym h.0) refl)
  asked (Err (refusals.Byte n)) q = absurd q
  asked (Err refusals.LongLine) q = absurd q
  asked (Err (refusals.Token n)) q = absurd q
  asked (Err (refusals.Deep n)) q = absurd q
