-- A line that spells no command leaves the system.
use Rattle.std.proofs.Common.{◌≡◌, ℕ, Bool, true, false, Option, None, Result, Ok, Err, List, [], length, map, refl}
use Rattle.std.specs.Prelude.{codes}
use Rattle.lsys_syntax.specs.Lines.{without_cr}
use Rattle.lsys_syntax.specs.Tokens.{Token, tokens}
use Rattle.lsys_syntax.specs.Commands.{Command}
use Rattle.lsys_syntax.specs.LineMachine.{Verdict, sentence, stops, too_deep, verdict, command_in}
use Rattle.lsys_spec.specs.Systems.{System}
use Rattle.lsys_spec.specs.Refusals.{Reply, said, refused, is_long, is_passed_over}
use Rattle.lsys_spec.specs.Replies.{verdict_reply, tokens_reply, reply, spelled_command, spelled_by}

-- where o is the command that was spelled
record Stays (s : System) (o : Option Command) (r : Reply) : Type 0 where
  stays : o ≡ None → r.next ≡ s

verdict_stays : (limit : ℕ) (s : System) (column : ℕ → ℕ) (v : Verdict) → Stays s (command_in v) (verdict_reply limit s column v)
verdict_stays limit s column (stops n) = record { stays = λ e. refl }
verdict_stays limit s column (too_deep n) = record { stays = λ e. refl }
verdict_stays limit s column (sentence c) = record { stays = λ e. cc }

tokens_stays : (limit : ℕ) (s : System) (end : ℕ) (ts : Result (List Token) ℕ) → Stays s (spelled_by ts) (tokens_reply limit s end ts)
tokens_stays limit s end (Err column) = record { stays = λ e. refl }
tokens_stays limit s end (Ok ts) = verdict_stays limit s _ (verdict (map (λ t. t.kind) ts))

either_stays : (b : Bool) (s : System) (o : Option Command) (q r : Reply) → q.next ≡ s → Stays s o r → Stays s (elim b [ true ↦ None | false ↦ o ]) (elim b [ true ↦ q | false ↦ r ])
either_stays true s o q r h k = record { stays = λ e. h }
either_stays false s o q r h k = k

reply_stays : (limit : ℕ) (s : System) (line : List ℕ) → Stays s (spelled_command line) (reply limit s line)
reply_stays limit s line =
    let bare = without_cr line in
    either_stays (is_long line) s _ (refused s (codes "syntax long")) _ refl
    (either_stays (is_passed_over bare) s _ (said s []) _ refl (tokens_stays limit s (length bare) (tokens bare)))

pub unspelled_stays : (limit : ℕ) (s : System) (line : List ℕ) → spelled_command line ≡ None → (reply limit s line).next ≡ s
unspelled_stays limit s line = (reply_stays limit s line).stays
