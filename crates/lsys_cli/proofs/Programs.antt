-- From a run over a script to the program.
use Rattle.std.proofs.Common.{◌≡◌, ◌≢◌, ◌⊎◌, ◌+◌, ◌&&◌, ◌||◌, ℕ, Bool, true, false, inl, inr, Option, Some, None, List, [], ◌∷◌, refl, ap, sym, subst, ◌∙◌, arith}
use Rattle.lsys_spec.specs.Refusals.{Reply}
use Rattle.lsys_spec.specs.Samples.{sample}
use Rattle.lsys_spec.specs.Output.{may_lack_memory, any_refusal, any_memory, any_end, none, whole_lines}
use Rattle.lsys_history.specs.Desks.{Desk, DeskReply, desk_followed, desk_memory_or, desk_replies_from, desk_reply, desk_reply_or_memory}
use Rattle.lsys_cli.specs.declared.options.Options.{Options}
use Rattle.std.specs.Option.{IfSome}
use Rattle.lsys_cli.specs.Words.{HasLimit, options_by}
use Rattle.lsys_cli.proofs.Bounds.{bounded}
use Rattle.lsys_spec.specs.Costs.{Visits}
use Rattle.lsys_cli.specs.Ends.{OfScript, Ends, IsScriptWithin, RunView, WroteWithin, replies, script_front}
use Rattle.lsys_cli.specs.Programs.{IsComplete, OnScript, script_run}
use Rattle.lsys_cli.specs.declared.status.Status.{Status}
use Rattle.lsys_cli.specs.declared.status.Status.TheVariants.{Done, Refused, Usage, ReadFault, WriteFault, Memory, TooLong}

-- 1. a sample

-- but for a read fault, nothing is said of what is left
pub other_left : (visits : Visits) (limit : ℕ) (script left left' : Option (List ℕ)) (w now : RunView) (status : Status) → status ≢ ReadFault → Ends visits limit script left w now status → Ends visits limit script left' w now status
other_left visits limit script left left' w now status n e = record {
  done = e.done;
  refused = e.refused;
  memory = e.memory;
  read_fault = λ r. absurd (n r);
  write_fault = e.write_fault;
  too_long = e.too_long;
  no_usage = e.no_usage;
}

pub of_sample : (visits : Visits) (limit n : ℕ) (script : List ℕ) (told : Option (List ℕ)) (J U : Type 0) (left : Option (List ℕ)) (w now : RunView) (status : Status) → script ≡ sample n → status ≢ ReadFault
    → told ≡ Some script → (J → U) → (((status ≡ Memory) × J) ⊎ Ends visits limit told left w now status)
    → ((status ≡ Memory) × U) ⊎ ((left' : Option (List ℕ)) → Ends visits limit (Some (sample n)) left' w now status)
of_sample visits limit n script told J U left w now status e r t k (inl h) = inl (h.0, k h.1)
of_sample visits limit n script told J U left w now status e r t k (inr h) =
    inr (λ left'. other_left visits limit (Some (sample n)) left left' w now status r (subst (λ s. Ends visits limit s left w now status) (t ∙ ap Some e) h))

pub by_sample : (visits : Visits) (o : Options) (n : ℕ) (J U : Type 0) (told left : Option (List ℕ)) (w now : RunView) (status : Status) → o.sample ≡ Some n → (J → U)
    → (((status ≡ Memory) × J) ⊎ ((left' : Option (List ℕ)) → Ends visits o.limit (Some (sample n)) left' w now status))
    → ((status ≡ Memory) × U) ⊎ Ends visits o.limit (script_run o told) left w now status
by_sample visits o n J U told left w now status e k (inl h) = inl (h.0, k h.1)
by_sample visits o n J U told left w now status e k (inr h) =
    let P : Option ℕ → Type 0 = λ s. Ends visits o.limit (elim s [ None ↦ told | Some m ↦ Some (sample m) ]) left w now status in
    inr (subst P (sym e) (h left))

-- 2. replies without `refused memory`

bare : (b : Bool) (d : Desk) (r : DeskReply) → (desk_memory_or b d r).reply.is_memory ≡ false → desk_memory_or b d r ≡ r
bare true d r h = cc
bare false d r h = refl

neither : (a b : Bool) → (a || b) ≡ false → (a ≡ false) × (b ≡ false)
neither true b h = cc
neither false b h = (refl, h)

abbrev unless : Bool → List Reply → List Reply
unless ends xs = elim ends [ true ↦ [] | false ↦ xs ]

tail : (ends : Bool) (xs ys : List Reply) → (any_memory xs ≡ false → xs ≡ ys) → any_memory (unless ends xs) ≡ false → unless ends xs ≡ unless ends ys
tail true xs ys h m = refl
tail false xs ys h m = h m

ample : (limit : ℕ) (M : ℕ → Bool) (n : ℕ) (d : Desk) (lines : List (List ℕ)) → any_memory (desk_replies_from limit M n d lines) ≡ false → desk_replies_from limit M n d lines ≡ desk_replies_from limit none n d lines
ample limit M n d [] h = refl
ample limit M n d (line ∷ lines) h =
    let r = desk_reply_or_memory limit (M n) d line in
    let q = desk_reply limit d line in
    let same : r ≡ q = bare (M n && may_lack_memory line) d q (neither r.reply.is_memory (any_memory (unless r.reply.ends (desk_replies_from limit M (n + 1) r.next lines))) h).0 in
    let P : DeskReply → Type 0 = λ x. any_memory (desk_followed x (λ next. desk_replies_from limit M (n + 1) next lines)) ≡ false in
    let later = (neither q.reply.is_memory (any_memory (unless q.reply.ends (desk_replies_from limit M (n + 1) q.next lines))) (subst P same h)).1 in
    ap (λ x. desk_followed x (λ next. desk_replies_from limit M (n + 1) next lines)) same
    ∙ ap (λ t. q.reply ∷ t) (tail q.reply.ends (desk_replies_from limit M (n + 1) q.next lines) (desk_replies_from limit none (n + 1) q.next lines) (ample limit M (n + 1) q.next lines) later)

-- 3. completeness

apart : {P : Type 0} (b : Bool) → b ≡ true → b ≡ false → P
apart true e f = cc
apart false e f = cc

too_long : (visits : Visits) (limit : ℕ) (w now : RunView) (script : List ℕ) → WroteWithin visits limit w now script → IsScriptWithin limit script none → (b : Bool) (h : WroteWithin visits limit w now script)
    → any_memory (replies limit (whole_lines (script_front script)) h.lines.lacks) ≡ b → IsComplete TooLong limit w.written now.written script
too_long visits limit w now script x within true h e = inr (inr (refl, record { lacks = h.lines.lacks; written = h.lines.written; memories = e }))
too_long visits limit w now script x (inl short) false h e = absurd (omega (arith, short, h.past))
too_long visits limit w now script x (inr quit) false h e =
    let same = ample limit h.lines.lacks 1 _ _ e in
    apart (any_end (replies limit (whole_lines (script_front script)) none)) quit (ap any_end (sym same) ∙ h.lines.no_quit)

pub complete : (visits : Visits) (limit : ℕ) (script : List ℕ) (left : Option (List ℕ)) (w now : RunView) (status : Status) → Ends visits limit (Some script) left w now status → status ≢ ReadFault → status ≢ WriteFault
    → IsScriptWithin limit script none → any_refusal (replies limit script none) ≡ false → IsComplete status limit w.written now.written script
complete visits limit script left w now Done e r f within unrefused = inl refl
complete visits limit script left w now Refused e r f within unrefused = apart (any_refusal (replies limit script none)) (e.refused refl).refusals unrefused
complete visits limit script left w now Usage e r f within unrefused = absurd (e.no_usage refl)
complete visits limit script left w now ReadFault e r f within unrefused = absurd (r refl)
complete visits limit script left w now WriteFault e r f within unrefused = absurd (f refl)
complete visits limit script left w now Memory e r f within unrefused = inr (inl refl)
complete visits limit script left w now TooLong e r f within unrefused =
    let h = e.too_long refl in too_long visits limit w now script h within (any_memory (replies limit (whole_lines (script_front script)) h.lines.lacks)) h refl

-- 4. by the words

pub limit_of : (words : List (List ℕ)) (o : Options) → Some o ≡ options_by words → HasLimit o
limit_of words o e = subst (λ (p : Option Options). IfSome p HasLimit) (sym e) (bounded words)

pub completes : (visits : Visits) (words : List (List ℕ)) (o : Options) (told left : Option (List ℕ)) (w now : RunView) (status : Status) (U : Type 0) → Some o ≡ options_by words
    → ((status ≡ Memory) × U) ⊎ Ends visits o.limit (script_run o told) left w now status → status ≢ ReadFault → status ≢ WriteFault
    → OnScript (options_by words) told (λ limit script. IsScriptWithin limit script none → any_refusal (replies limit script none) ≡ false → IsComplete status limit w.written now.written script)
completes visits words o told left w now status U e h r f =
    subst (λ (p : Option Options). OnScript p told (λ limit script. IsScriptWithin limit script none → any_refusal (replies limit script none) ≡ false → IsComplete status limit w.written now.written script)) e (at (script_run o told) h)
  where
    at : (s : Option (List ℕ)) → ((status ≡ Memory) × U) ⊎ Ends visits o.limit s left w now status
        → OfScript s (λ script. IsScriptWithin o.limit script none → any_refusal (replies o.limit script none) ≡ false → IsComplete status o.limit w.written now.written script)
    at None k = tt
    at (Some script) (inl k) = λ within unrefused. inr (inl k.0)
    at (Some script) (inr k) = complete visits o.limit script left w now status k r f

-- 5. no memory to begin with

pub on_script : (o : Option Options) (left : Option (List ℕ)) (P : ℕ → List ℕ → Type 0) → ((limit : ℕ) (script : List ℕ) → P limit script) → OnScript o left P
on_script None left P h = tt
on_script (Some o) left P h = by (script_run o left)
  where
    by : (s : Option (List ℕ)) → OfScript s (P o.limit)
    by None = tt
    by (Some script) = h o.limit script
