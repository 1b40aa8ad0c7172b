-- What each accepted edit of a sentence keeps, where the new system has its levels, holds of every system of a session.
use Rattle.std.proofs.Common.{◌≡◌, ℕ, Bool, true, false, None, Some, Result, Ok, Err, List, [], ◌∷◌, ◌+◌, ◌≤◌, ◌&&◌, length, map, refl}
use Rattle.std.specs.Prelude.{Option, codes}
use Rattle.lsys_syntax.specs.Limits.{nesting_bound}
use Rattle.lsys_syntax.specs.Lines.{lines_of, without_cr}
use Rattle.lsys_syntax.specs.Tokens.{Kind, Token, tokens}
use Rattle.lsys_syntax.specs.Commands.{Command, set_axiom, put_production, drop_rule, set_ignored, set_schedule, set_seed, set_depth, set_lattice, put_homomorphism, print_string, print_segments, print_svg, print_system, quit, set_version, set_own, drop_own, set_numbering, IsCommand, nesting}
use Rattle.lsys_syntax.specs.LineMachine.{Verdict, sentence, stops, too_deep, verdict}
use Rattle.lsys_syntax.specs.Sentences.{AreTokens}
use Rattle.lsys_syntax.proofs.LineSound.{sentence-spelled}
use Rattle.lsys_syntax.proofs.TokenForms.{line-tokens}
use Rattle.lsys_spec.specs.Systems.{System, opening, Each}
use Rattle.lsys_spec.specs.Edits.{Refusal, refusal, changed}
use Rattle.lsys_spec.specs.Levels as L
use Rattle.lsys_spec.specs.Refusals.{Reply, is_long, is_passed_over, said, refused, column_at}
use Rattle.lsys_spec.specs.Replies.{shown, edited, accepted, levels_of, picture_of, command_reply, verdict_reply, tokens_reply, bare_reply, reply}
use Rattle.lsys_spec.specs.Output.{out, replies_from, reply_or_memory, memory_or, may_lack_memory}

-- an edit that is a sentence's, isn't refused and has levels under the limit keeps P
abbrev pub Keeps : ℕ → (System → Type 0) → Type 0
Keeps limit P =
    (s : System) (c : Command) → P s → IsCommand c → nesting c ≤ nesting_bound → refusal s c ≡ None
    → (levels : List (List L.LevelSymbol)) → levels_of limit (changed s c) ≡ Ok levels → P (changed s c)

abbrev chosen : Bool → Reply → Reply → Reply
chosen b r q = elim b [ true ↦ r | false ↦ q ]

module _ (limit : ℕ) (P : System → Type 0) (keeps : Keeps limit P) where
  shown_keeps : {A : Type 0} (s : System) (text : A → List ℕ) (a : Result A (List ℕ)) → P s → P (shown s text a).next
  shown_keeps s text (Ok a) w = w
  shown_keeps s text (Err why) w = w

  edited_keeps : (s next : System) (a : Result (List (List L.LevelSymbol)) (List ℕ)) → P s → ((levels : List (List L.LevelSymbol)) → a ≡ Ok levels → P next) → P (edited limit s next a).next
  edited_keeps s next (Ok levels) w k = k levels refl
  edited_keeps s next (Err why) w k = w

  edit_keeps : (s : System) (c : Command) → P s → IsCommand c → nesting c ≤ nesting_bound → refusal s c ≡ None → P (edited limit s (changed s c) (levels_of limit (changed s c))).next
  edit_keeps s c w i d e = edited_keeps s (changed s c) (levels_of limit (changed s c)) w (keeps s c w i d e)

  accepted_keeps : (s : System) (c : Command) → P s → IsCommand c → nesting c ≤ nesting_bound → refusal s c ≡ None → P (accepted limit s c).next
  accepted_keeps s (print_string t) w i d e = shown_keeps s _ (levels_of limit s) w
  accepted_keeps s print_segments w i d e = shown_keeps s _ (picture_of s (levels_of limit s)) w
  accepted_keeps s print_svg w i d e = shown_keeps s _ (picture_of s (levels_of limit s)) w
  accepted_keeps s print_system w i d e = w
  accepted_keeps s quit w i d e = w
  accepted_keeps s (set_axiom xs) w i d e = edit_keeps s (set_axiom xs) w i d e
  accepted_keeps s (put_production t l r) w i d e = edit_keeps s (put_production t l r) w i d e
  accepted_keeps s (drop_rule l) w i d e = edit_keeps s (drop_rule l) w i d e
  accepted_keeps s (set_ignored ns) w i d e = edit_keeps s (set_ignored ns) w i d e
  accepted_keeps s (set_schedule ws) w i d e = edit_keeps s (set_schedule ws) w i d e
  accepted_keeps s (set_seed n) w i d e = edit_keeps s (set_seed n) w i d e
  accepted_keeps s (set_depth n) w i d e = edit_keeps s (set_depth n) w i d e
  accepted_keeps s (set_lattice l) w i d e = edit_keeps s (set_lattice l) w i d e
  accepted_keeps s (put_homomorphism l r) w i d e = edit_keeps s (put_homomorphism l r) w i d e
  accepted_keeps s (set_version n) w i d e = edit_keeps s (set_version n) w i d e
  accepted_keeps s (set_own k t ns) w i d e = edit_keeps s (set_own k t ns) w i d e
  accepted_keeps s (drop_own t) w i d e = edit_keeps s (drop_own t) w i d e
  accepted_keeps s (set_numbering g) w i d e = edit_keeps s (set_numbering g) w i d e

  command_keeps : (s : System) (column : ℕ → ℕ) (c : Command) (o : Option Refusal) → refusal s c ≡ o → P s → IsCommand c → nesting c ≤ nesting_bound → P (command_reply limit s column c o).next
  command_keeps s column c None e w i d = accepted_keeps s c w i d e
  command_keeps s column c (Some r) e w i d = w

  verdict_keeps : (s : System) (column : ℕ → ℕ) (ks : List Kind) (v : Verdict) → AreTokens ks → verdict ks ≡ v → P s → P (verdict_reply limit s column v).next
  verdict_keeps s column ks (stops n) a e w = w
  verdict_keeps s column ks (too_deep n) a e w = w
  verdict_keeps s column ks (sentence c) a e w = let p = sentence-spelled ks c a e in command_keeps s column c (refusal s c) refl w p.1 p.2

  tokens_keeps : (s : System) (end : ℕ) (line : List ℕ) (r : Result (List Token) ℕ) → tokens line ≡ r → P s → P (tokens_reply limit s end r).next
  tokens_keeps s end line (Err column) e w = w
  tokens_keeps s end line (Ok ts) e w =
      verdict_keeps s (λ n. column_at end n ts) (map (λ t. t.kind) ts) (verdict (map (λ t. t.kind) ts)) (line-tokens line ts e) refl w

  by_test : (b : Bool) (r q : Reply) → P r.next → P q.next → P (chosen b r q).next
  by_test true r q h k = h
  by_test false r q h k = k

  pub reply_keeps : (s : System) (line : List ℕ) → P s → P (reply limit s line).next
  reply_keeps s line w =
      let bare = without_cr line in
      by_test (is_long line) (refused s (codes "syntax long")) (bare_reply limit s bare) w
      (by_test (is_passed_over bare) (said s []) (tokens_reply limit s (length bare) (tokens bare)) w (tokens_keeps s (length bare) bare (tokens bare) refl w))

  memory_keeps : (b : Bool) (s : System) (r : Reply) → P s → P r.next → P (memory_or b s r).next
  memory_keeps true s r w k = w
  memory_keeps false s r w k = k

  by_end : (ends : Bool) (r : Reply) (rs : List Reply) → P r.next → Each (λ q. P q.next) rs → Each (λ q. P q.next) (r ∷ elim ends [ true ↦ [] | false ↦ rs ])
  by_end true r rs w h = (w, tt)
  by_end false r rs w h = (w, h)

  replies_keep : (M : ℕ → Bool) (n : ℕ) (s : System) (lines : List (List ℕ)) → P s → Each (λ r. P r.next) (replies_from (reply limit) M n s lines)
  replies_keep M n s [] w = tt
  replies_keep M n s (line ∷ lines) w =
      let r = reply_or_memory (reply limit) (M n) s line in
      let k : P r.next = memory_keeps (M n && may_lack_memory line) s (reply limit s line) w (reply_keeps s line w) in
      by_end r.ends r _ k (replies_keep M (n + 1) r.next lines k)

  pub out_keeps : P opening → (script : List ℕ) (M : ℕ → Bool) → Each (λ r. P r.next) (out (reply limit) script M)
  out_keeps w script M = replies_keep M 1 opening (lines_of script) w
