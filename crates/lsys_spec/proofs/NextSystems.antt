-- What a line leaves after.
use Rattle.std.proofs.Common.{◌≡◌, ℕ, Bool, true, false, List, [], refl, ap, sym, ◌∙◌, true≢false, arith}
use Rattle.std.specs.Prelude.{Option, Some, None, Result, Ok, Err, length, map, codes}
use Rattle.lsys_syntax.specs.Lines.{without_cr}
use Rattle.lsys_syntax.specs.Tokens.{Token, tokens}
use Rattle.lsys_syntax.specs.Commands.{Command, set_axiom, put_production, drop_rule, set_ignored, set_schedule, set_seed, set_depth, set_lattice, put_homomorphism, print_string, print_segments, print_svg, print_system, quit, set_version, set_own, drop_own, set_numbering}
use Rattle.lsys_syntax.specs.LineMachine.{Verdict, sentence, stops, too_deep, verdict, command_in}
use Rattle.lsys_spec.specs.Systems.{System}
use Rattle.lsys_spec.specs.Edits.{Refusal, refusal, changed, apply}
use Rattle.lsys_spec.specs.Levels as L
use Rattle.lsys_spec.specs.Refusals.{Reply, said, refused, is_long, is_passed_over}
use Rattle.lsys_spec.specs.Replies.{shown, edited, accepted, levels_of, picture_of, command_reply, verdict_reply, tokens_reply, reply, is_query, spelled_command, spelled_by}

-- what holds of a reply in the system s, where o is the command that was spelled
record Leaves (s : System) (o : Option Command) (r : Reply) : Type 0 where
  refusal_keeps : r.is_refusal ≡ true → r.next ≡ s
  query_keeps : (c : Command) → o ≡ Some c → is_query c ≡ true → r.next ≡ s
  edit_applies : (c : Command) → o ≡ Some c → is_query c ≡ false → r.is_refusal ≡ false → apply s c ≡ Ok r.next

shown_keeps : {A : Type 0} (s : System) (text : A → List ℕ) (a : Result A (List ℕ)) → (shown s text a).next ≡ s
shown_keeps s text (Ok a) = refl
shown_keeps s text (Err why) = refl

-- a refused reply
refusal_leaves : (s : System) (o : Option Command) (r : Reply) → r.is_refusal ≡ true → r.next ≡ s → Leaves s o r
refusal_leaves s o r h k = record {
  refusal_keeps = λ t. k;
  query_keeps = λ c e q. k;
  edit_applies = λ c e q f. absurd (true≢false (sym h ∙ f));
}

some_same : (c d : Command) → Some c ≡ Some d → c ≡ d
some_same c d e = cc

query_leaves : (s : System) (c : Command) (r : Reply) → is_query c ≡ true → r.next ≡ s → Leaves s (Some c) r
query_leaves s c r q k = record {
  refusal_keeps = λ t. k;
  query_keeps = λ d e p. k;
  edit_applies = λ d e p f. absurd (true≢false (sym q ∙ ap is_query (some_same c d e) ∙ p));
}

edit_leaves : (s : System) (c : Command) (r : Reply)
    → is_query c ≡ false → (r.is_refusal ≡ true → r.next ≡ s) → (r.is_refusal ≡ false → apply s c ≡ Ok r.next) → Leaves s (Some c) r
edit_leaves s c r q k a = record {
  refusal_keeps = k;
  query_keeps = λ d e p. absurd (true≢false (sym p ∙ sym (ap is_query (some_same c d e)) ∙ q));
  edit_applies = λ d e p f. rw (← some_same c d e) (a f);
}

edited_keeps : (limit : ℕ) (s next : System) (a : Result (List (List L.LevelSymbol)) (List ℕ))
    → (edited limit s next a).is_refusal ≡ true → (edited limit s next a).next ≡ s
edited_keeps limit s next (Ok levels) h = absurd (true≢false (sym h))
edited_keeps limit s next (Err why) h = refl

edited_next : (limit : ℕ) (s next : System) (a : Result (List (List L.LevelSymbol)) (List ℕ))
    → (edited limit s next a).is_refusal ≡ false → (edited limit s next a).next ≡ next
edited_next limit s next (Ok levels) h = refl
edited_next limit s next (Err why) h = absurd (true≢false h)

unrefused : (s : System) (c : Command) → refusal s c ≡ None → apply s c ≡ Ok (changed s c)
unrefused s c e = rw e

edited_leaves : (limit : ℕ) (s : System) (c : Command)
    → refusal s c ≡ None → is_query c ≡ false
    → Leaves s (Some c) (edited limit s (changed s c) (levels_of limit (changed s c)))
edited_leaves limit s c e q =
    edit_leaves s c _ q (edited_keeps limit s (changed s c) (levels_of limit (changed s c)))
    (λ f. unrefused s c e ∙ ap Ok (sym (edited_next limit s (changed s c) (levels_of limit (changed s c)) f)))

accepted_leaves : (limit : ℕ) (s : System) (c : Command) → refusal s c ≡ None → Leaves s (Some c) (accepted limit s c)
accepted_leaves limit s (print_string t) e = query_leaves s (print_string t) _ refl (shown_keeps s _ (levels_of limit s))
accepted_leaves limit s print_segments e = query_leaves s print_segments _ refl (shown_keeps s _ (picture_of s (levels_of limit s)))
accepted_leaves limit s print_svg e = query_leaves s print_svg _ refl (shown_keeps s _ (picture_of s (levels_of limit s)))
accepted_leaves limit s print_system e = query_leaves s print_system _ refl refl
accepted_leaves limit s quit e = query_leaves s quit _ refl refl
accepted_leaves limit s (set_axiom xs) e = edited_leaves limit s (set_axiom xs) e refl
accepted_leaves limit s (put_production t l r) e = edited_leaves limit s (put_production t l r) e refl
accepted_leaves limit s (drop_rule l) e = edited_leaves limit s (drop_rule l) e refl
accepted_leaves limit s (set_ignored ns) e = edited_leaves limit s (set_ignored ns) e refl
accepted_leaves limit s (set_schedule ws) e = edited_leaves limit s (set_schedule ws) e refl
accepted_leaves limit s (set_seed n) e = edited_leaves limit s (set_seed n) e refl
accepted_leaves limit s (set_depth n) e = edited_leaves limit s (set_depth n) e refl
accepted_leaves limit s (set_lattice l) e = edited_leaves limit s (set_lattice l) e refl
accepted_leaves limit s (put_homomorphism l r) e = edited_leaves limit s (put_homomorphism l r) e refl
accepted_leaves limit s (set_version n) e = edited_leaves limit s (set_version n) e refl
accepted_leaves limit s (set_own k t ns) e = edited_leaves limit s (set_own k t ns) e refl
accepted_leaves limit s (drop_own t) e = edited_leaves limit s (drop_own t) e refl
accepted_leaves limit s (set_numbering g) e = edited_leaves limit s (set_numbering g) e refl

command_leaves : (limit : ℕ) (s : System) (column : ℕ → ℕ) (c : Command) (o : Option Refusal)
    → refusal s c ≡ o → Leaves s (Some c) (command_reply limit s column c o)
command_leaves limit s column c None e = accepted_leaves limit s c e
command_leaves limit s column c (Some r) e = refusal_leaves s (Some c) _ refl refl

verdict_leaves : (limit : ℕ) (s : System) (column : ℕ → ℕ) (v : Verdict) → Leaves s (command_in v) (verdict_reply limit s column v)
verdict_leaves limit s column (stops n) = refusal_leaves s _ _ refl refl
verdict_leaves limit s column (too_deep n) = refusal_leaves s _ _ refl refl
verdict_leaves limit s column (sentence c) = command_leaves limit s column c (refusal s c) refl

tokens_leaves : (limit : ℕ) (s : System) (end : ℕ) (ts : Result (List Token) ℕ) → Leaves s (spelled_by ts) (tokens_reply limit s end ts)
tokens_leaves limit s end (Err column) = refusal_leaves s _ _ refl refl
tokens_leaves limit s end (Ok ts) = verdict_leaves limit s _ (verdict (map (λ t. t.kind) ts))

none_is : {A : Type 0} (c : Command) → None ≡ Some c → A
none_is c e = absurd (grind arith)

silent_leaves : (s : System) → Leaves s None (said s [])
silent_leaves s = record { refusal_keeps = λ t. refl; query_keeps = λ c f q. refl; edit_applies = λ c f q g. none_is c f }

passed_or : (passed : Bool) (s : System) (o : Option Command) (r : Reply)
    → Leaves s o r → Leaves s (elim passed [ true ↦ None | false ↦ o ]) (elim passed [ true ↦ said s [] | false ↦ r ])
passed_or true s o r h = silent_leaves s
passed_or false s o r h = h

long_or : (long : Bool) (s : System) (o : Option Command) (r : Reply)
    → Leaves s o r → Leaves s (elim long [ true ↦ None | false ↦ o ]) (elim long [ true ↦ refused s (codes "syntax long") | false ↦ r ])
long_or true s o r h = refusal_leaves s None _ refl refl
long_or false s o r h = h

reply_leaves : (limit : ℕ) (s : System) (line : List ℕ) → Leaves s (spelled_command line) (reply limit s line)
reply_leaves limit s line =
    let bare = without_cr line in
    long_or (is_long line) s _ _ (passed_or (is_passed_over bare) s _ _ (tokens_leaves limit s (length bare) (tokens bare)))

pub refusal_keeps : (limit : ℕ) (s : System) (line : List ℕ) → (reply limit s line).is_refusal ≡ true → (reply limit s line).next ≡ s
refusal_keeps limit s line = (reply_leaves limit s line).refusal_keeps

pub query_keeps : (limit : ℕ) (s : System) (line : List ℕ) (c : Command) → spelled_command line ≡ Some c → is_query c ≡ true → (reply limit s line).next ≡ s
query_keeps limit s line = (reply_leaves limit s line).query_keeps

pub edit_applies : (limit : ℕ) (s : System) (line : List ℕ) (c : Command)
    → spelled_command line ≡ Some c → is_query c ≡ false → (reply limit s line).is_refusal ≡ false → apply s c ≡ Ok (reply limit s line).next
edit_applies limit s line = (reply_leaves limit s line).edit_applies
