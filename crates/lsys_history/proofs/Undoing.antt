-- What a desk answers to lines that aren't its own, and where an undo and a redo lead.
use Rattle.std.proofs.Common.{◌≡◌, ◌≤◌, ℕ, zero, suc, ◌+◌, ◌-◌, Bool, true, false, not, ◌&&◌, List, [], ◌∷◌, ◌++◌, length, take, drop, refl, ap, sym, ◌∙◌, arith}
use Rattle.std.specs.Prelude.{Some, slice_get, codes}
use Rattle.std.proofs.lemmas.List.{length-append}
use Rattle.std.proofs.Math.Seq.{take-append_seam}
use Rattle.lsys_syntax.specs.Commands.{Command}
use Rattle.lsys_spec.specs.Systems.{System}
use Rattle.lsys_spec.specs.Refusals.{Reply, refused_memory}
use Rattle.lsys_spec.specs.Replies.{reply, spelled_command}
use Rattle.lsys_spec.specs.Output.{may_lack_memory, memory_or, reply_followed, replies_from}
use Rattle.lsys_laws.specs.Sessions.{HasLevels}
use Rattle.lsys_history.specs.Timelines.{Timeline, timeline, nearest, others, after_edit, after_undo, redone, most_kept}
use Rattle.lsys_history.specs.Desks.{Desk, desk, answered, own_reply, session_reply, reply_by, stepped_to, steps_by_reply, spells_edit, undo, redo, desk_memory_or, desk_followed, desk_replies_from, HasNoDeskLine}

-- 1. lines that aren't the desk's

unless_ended : (b : Bool) (x y : List Reply) → x ≡ y → ◌≡◌ {A = List Reply} (elim b [ true ↦ [] | false ↦ x ]) (elim b [ true ↦ [] | false ↦ y ])
unless_ended true x y h = refl
unless_ended false x y h = h

followed_same : (r : Reply) (d : Desk) (f : Desk → List Reply) (g : System → List Reply) → f d ≡ g r.next → desk_followed (answered r d) f ≡ reply_followed r g
followed_same r d f g h = ap (λ (rs : List Reply). r ∷ rs) (unless_ended r.ends (f d) (g r.next) h)

pub former_lines : (limit : ℕ) (M : ℕ → Bool) (n : ℕ) (d : Desk) (lines : List (List ℕ)) → HasNoDeskLine lines
    → desk_replies_from limit M n d lines ≡ replies_from (reply limit) M n d.system lines
former_lines limit M n d [] h = refl
former_lines limit M n d (line ∷ lines) h =
    ap (λ o. desk_followed (desk_memory_or (M n && may_lack_memory line) d (reply_by limit d o (reply limit d.system line) (spelled_command line))) (λ next. desk_replies_from limit M (n + 1) next lines)) h.0
    ∙ by (M n && may_lack_memory line) (λ (d : Desk). former_lines limit M (n + 1) d lines h.1)
  where
    by : (b : Bool) → ((d : Desk) → desk_replies_from limit M (n + 1) d lines ≡ replies_from (reply limit) M (n + 1) d.system lines)
        → desk_followed (desk_memory_or b d (session_reply d (reply limit d.system line) (spelled_command line))) (λ next. desk_replies_from limit M (n + 1) next lines)
        ≡ reply_followed (memory_or b d.system (reply limit d.system line)) (λ next. replies_from (reply limit) M (n + 1) next lines)
    by true k = followed_same (refused_memory d.system) d (λ next. desk_replies_from limit M (n + 1) next lines) (λ next. replies_from (reply limit) M (n + 1) next lines) (k d)
    by false k =
        let next : Desk = (session_reply d (reply limit d.system line) (spelled_command line)).next in
        followed_same (reply limit d.system line) next (λ next. desk_replies_from limit M (n + 1) next lines) (λ next. replies_from (reply limit) M (n + 1) next lines) (k next)

-- 2. the last of a list

last_there : {A : Type 0} (xs : List A) (x : A) → slice_get (xs ++ x ∷ []) (length xs) ≡ Some x
last_there [] x = refl
last_there (y ∷ xs) x = last_there xs x

pub nearest-push : {A : Type 0} (xs : List A) (x : A) → nearest (xs ++ x ∷ []) ≡ Some x
nearest-push xs x =
    let e : length (xs ++ x ∷ []) - 1 ≡ length xs = let l = length-append xs (x ∷ []) in omega arith in
    ap (slice_get (xs ++ x ∷ [])) e ∙ last_there xs x

pub others-push : {A : Type 0} (xs : List A) (x : A) → others (xs ++ x ∷ []) ≡ xs
others-push xs x =
    let e : length (xs ++ x ∷ []) - 1 ≡ length xs = let l = length-append xs (x ∷ []) in omega arith in
    ap (λ (n : ℕ). take n (xs ++ x ∷ [])) e ∙ take-append_seam xs (x ∷ [])

drop-push : {A : Type 0} (n : ℕ) (xs : List A) (x : A) → n ≤ length xs → drop n (xs ++ x ∷ []) ≡ drop n xs ++ x ∷ []
drop-push zero xs x l = refl
drop-push (suc n) [] x l = absurd (omega (arith, l))
drop-push (suc n) (y ∷ xs) x l = drop-push n xs x (omega (arith, l))

-- an edit makes its system the nearest of the past
pub edited-past : {A : Type 0} (h : Timeline A) (x : A) → (before : List A) × ((after_edit h x).past ≡ before ++ x ∷ [])
edited-past h x =
    let n = length (h.past ++ x ∷ []) - most_kept in
    (drop n h.past, drop-push n h.past x (let l = length-append h.past (x ∷ []) in omega arith))

-- 3. undo and redo

stepped-next : (limit : ℕ) (d : Desk) (word : List ℕ) (h : Timeline System) (s : System) → HasLevels limit s → (stepped_to limit d word h (Some s)).next ≡ desk s h
stepped-next limit d word h s l = rw l.1 refl

stepped-accepted : (limit : ℕ) (d : Desk) (word : List ℕ) (h : Timeline System) (s : System) → HasLevels limit s → (stepped_to limit d word h (Some s)).reply.is_refusal ≡ false
stepped-accepted limit d word h s l = rw l.1 refl

last_is : (d : Desk) (before : List System) (s : System) → d.steps.past ≡ before ++ s ∷ [] → nearest d.steps.past ≡ Some s
last_is d before s e = ap nearest e ∙ nearest-push before s

pub undo-accepted : (limit : ℕ) (d : Desk) (before : List System) (s : System) → HasLevels limit s → d.steps.past ≡ before ++ s ∷ [] → (own_reply limit d undo).reply.is_refusal ≡ false
undo-accepted limit d before s l e =
    ap (λ o. (stepped_to limit d (codes "undo") (after_undo d.steps d.system) o).reply.is_refusal) (last_is d before s e) ∙ stepped-accepted limit d (codes "undo") (after_undo d.steps d.system) s l

pub undo-next : (limit : ℕ) (d : Desk) (before : List System) (s : System) → HasLevels limit s → d.steps.past ≡ before ++ s ∷ [] → (own_reply limit d undo).next ≡ desk s (after_undo d.steps d.system)
undo-next limit d before s l e =
    ap (λ o. (stepped_to limit d (codes "undo") (after_undo d.steps d.system) o).next) (last_is d before s e) ∙ stepped-next limit d (codes "undo") (after_undo d.steps d.system) s l

same_desk : (d : Desk) (past future : List System) → past ≡ d.steps.past → future ≡ d.steps.future → desk d.system (timeline past future) ≡ d
same_desk d past future e f = rw (e, f) refl

pub redo-next : (limit : ℕ) (d : Desk) (before : List System) (s : System) → HasLevels limit s → HasLevels limit d.system → d.steps.past ≡ before ++ s ∷ []
    → (own_reply limit (own_reply limit d undo).next redo).next ≡ d
redo-next limit d before s l k e =
    ap (λ (x : Desk). (own_reply limit x redo).next) (undo-next limit d before s l e)
    ∙ ap (λ o. (stepped_to limit (desk s (after_undo d.steps d.system)) (codes "redo") (redone (after_undo d.steps d.system) s) o).next) (nearest-push d.steps.future d.system)
    ∙ stepped-next limit (desk s (after_undo d.steps d.system)) (codes "redo") (redone (after_undo d.steps d.system) s) d.system k
    ∙ same_desk d _ _ (ap (λ xs. others xs ++ s ∷ []) e ∙ ap (λ xs. xs ++ s ∷ []) (others-push before s) ∙ sym e) (others-push d.steps.future d.system)

-- 4. an undo after an edit

edit_kept : (d : Desk) (r : Reply) (c : Command) → r.is_refusal ≡ false → spells_edit (Some c) ≡ true → steps_by_reply d r (Some c) ≡ after_edit d.steps d.system
edit_kept d r c a e =
    ap (λ b. elim (not b && spells_edit (Some c)) [ true ↦ after_edit d.steps d.system | false ↦ d.steps ]) a
    ∙ ap (λ b. elim b [ true ↦ after_edit d.steps d.system | false ↦ d.steps ]) e

pub edit_past : (d : Desk) (r : Reply) (c : Command) → r.is_refusal ≡ false → spells_edit (Some c) ≡ true
    → (before : List System) × ((session_reply d r (Some c)).next.steps.past ≡ before ++ d.system ∷ [])
edit_past d r c a e =
    let p = edited-past d.steps d.system in
    (p.0, ap (λ (h : Timeline System). h.past) (edit_kept d r c a e) ∙ p.1)
