-- The bytes that were written tell the replies, and so which lines were refused for lack of memory.
use Rattle.std.proofs.Common.{◌≡◌, ℕ, Bool, true, false, ◌&&◌, List, [], ◌∷◌, ◌++◌, ◌+◌, refl, ap, ◌∙◌, sym, drop, append_assoc, true≢false}
use Rattle.std.specs.Prelude.{codes, ◌≢◌}
use Rattle.std.proofs.lemmas.List.{append_cancel_left}
use Rattle.std.proofs.lemmas.List.Concat.{flat_map-cons}
use Rattle.lsys_syntax.specs.Lines.{lines_of}
use Rattle.lsys_spec.specs.Systems.{System, WellSpelled, opening}
use Rattle.lsys_spec.specs.Refusals.{Reply, refused_memory, line_feed}
use Rattle.lsys_spec.specs.Replies.{reply}
use Rattle.lsys_spec.specs.Output.{out, replies_from, reply_followed, memory_or, may_lack_memory, output_text, IsFront}
use Rattle.lsys_laws.specs.Sessions.{IsWell}
use Rattle.lsys_laws.proofs.KeptPlain.{opening_well}
use Rattle.lsys_laws.proofs.KeptWhole.{reply_kept}
use Rattle.lsys_laws.proofs.Prefixes.{begins, no_front}
use Rattle.lsys_laws.proofs.Texts.{OtherWord, Telling, refuses, answers, finishes, Told, silent, tells, reply_tells}

-- 1. one reply

-- a refusal begins with the word, and goes on with why
abbrev IsTold : Reply → Type 0
IsTold r = (why : List ℕ) × (r.text ≡ codes "refused " ++ why ++ line_feed)

told_refusal : (r : Reply) → Telling r → r.is_refusal ≡ true → IsTold r
told_refusal r (refuses why h e o) k = (why, e)
told_refusal r (answers h f) k = absurd (true≢false (sym k ∙ h))
told_refusal r (finishes h e f) k = absurd (true≢false (sym k ∙ h))

pub refusal_told : (limit : ℕ) (s : System) (line : List ℕ) → WellSpelled s → (reply limit s line).is_refusal ≡ true → (why : List ℕ) × ((reply limit s line).text ≡ codes "refused " ++ why ++ line_feed)
refusal_told limit s line w h = by (reply_tells limit s line w)
  where
    by : Told (may_lack_memory line) (reply limit s line) → IsTold (reply limit s line)
    by (silent m n e) = absurd (true≢false (sym h ∙ n))
    by (tells t) = told_refusal (reply limit s line) t h

append_none : (xs : List ℕ) → (xs ++ []) ≡ xs
append_none [] = refl
append_none (x ∷ xs) = ap (λ l. x ∷ l) (append_none xs)

told_other : (r : Reply) → Telling r → r.is_refusal ≡ false → begins (codes "refused ") r.text ≡ false
told_other r (refuses why h e o) k = absurd (true≢false (sym h ∙ k))
told_other r (answers h f) k = ap (begins (codes "refused ")) (sym (append_none r.text)) ∙ f []
told_other r (finishes h e f) k = ap (begins (codes "refused ")) e

pub other_told : (limit : ℕ) (s : System) (line : List ℕ) → WellSpelled s → (reply limit s line).is_refusal ≡ false → IsFront (codes "refused ") (reply limit s line).text → ⊥
other_told limit s line w h = no_front (codes "refused ") (reply limit s line).text (by (reply_tells limit s line w))
  where
    by : Told (may_lack_memory line) (reply limit s line) → begins (codes "refused ") (reply limit s line).text ≡ false
    by (silent m n e) = ap (begins (codes "refused ")) e
    by (tells t) = told_other (reply limit s line) t h

-- 2. lack of memory has a text of its own

abbrev word_after : List ℕ → List ℕ
word_after text = drop 8 text

other_word : (why : List ℕ) (more : List ℕ) → OtherWord why → begins (codes "memory") ((why ++ line_feed) ++ more) ≡ false
other_word why more o = ap (begins (codes "memory")) (append_assoc why line_feed more) ∙ o more

-- what is written where memory is lacking is never what another reply begins
differ : (s : System) (r : Reply) (x y : List ℕ) → Telling r → (r.ends ≡ true → y ≡ []) → (refused_memory s).text ++ x ≡ r.text ++ y → ⊥
differ s r x y (refuses why h e o) f k =
    let t : (refused_memory s).text ++ x ≡ (codes "refused " ++ why ++ line_feed) ++ y = k ∙ ap (λ l. l ++ y) e in
    true≢false (ap (λ l. begins (codes "memory") (word_after l)) t ∙ other_word why y o)
differ s r x y (answers h g) f k = true≢false (ap (begins (codes "refused ")) k ∙ g y)
differ s r x y (finishes h e g) f k =
    let t : (refused_memory s).text ++ x ≡ [] = k ∙ ap (λ l. l ++ y) e ∙ f g in true≢false (ap (begins (codes "refused ")) t)

pub memory_apart : (limit : ℕ) (s : System) (line : List ℕ) → WellSpelled s → (reply limit s line).text ≢ (refused_memory s).text
memory_apart limit s line w h = by (reply_tells limit s line w)
  where
    by : Told (may_lack_memory line) (reply limit s line) → ⊥
    by (silent m n e) = true≢false (ap (begins (codes "refused ")) (sym h ∙ e))
    by (tells t) = differ s (reply limit s line) [] [] t (λ k. refl) (append_none (refused_memory s).text ∙ sym h ∙ sym (append_none (reply limit s line).text))

-- 3. all replies

abbrev after : Bool → List Reply → List Reply
after ends rs = elim ends [ true ↦ [] | false ↦ rs ]

split : (r : Reply) (rs : List Reply) → output_text (r ∷ rs) ≡ r.text ++ output_text rs
split r rs = flat_map-cons (λ q. q.text) r rs

-- the same reply in both
by_end : (ends : Bool) (r : Reply) (xs ys : List Reply) → (output_text xs ≡ output_text ys → xs ≡ ys)
    → r.text ++ output_text (after ends xs) ≡ r.text ++ output_text (after ends ys) → (r ∷ after ends xs) ≡ (r ∷ after ends ys)
by_end true r xs ys f h = refl
by_end false r xs ys f h = ap (λ l. r ∷ l) (f (append_cancel_left r.text (output_text xs) (output_text ys) h))

same_reply : (r : Reply) (f g : System → List Reply) → (output_text (f r.next) ≡ output_text (g r.next) → f r.next ≡ g r.next)
    → output_text (reply_followed r f) ≡ output_text (reply_followed r g) → reply_followed r f ≡ reply_followed r g
same_reply r f g k h = by_end r.ends r (f r.next) (g r.next) k (sym (split r (after r.ends (f r.next))) ∙ h ∙ split r (after r.ends (g r.next)))

none_after : (ends : Bool) (rs : List Reply) → ends ≡ true → output_text (after ends rs) ≡ []
none_after true rs h = refl
none_after false rs h = cc

other_reply : (s : System) (r : Reply) (f g : System → List Reply) → Told true r → output_text (reply_followed (refused_memory s) f) ≡ output_text (reply_followed r g) → ⊥
other_reply s r f g (silent m n e) h = true≢false m
other_reply s r f g (tells t) h =
    differ s r (output_text (f s)) (output_text (after r.ends (g r.next))) t (none_after r.ends (g r.next))
    (sym (split (refused_memory s) (f s)) ∙ h ∙ split r (after r.ends (g r.next)))

one_step : (may m k : Bool) (s : System) (r : Reply) (f g : System → List Reply) → Told may r → IsWell s → IsWell r.next
    → ((t : System) → IsWell t → output_text (f t) ≡ output_text (g t) → f t ≡ g t)
    → output_text (reply_followed (memory_or (m && may) s r) f) ≡ output_text (reply_followed (memory_or (k && may) s r) g)
    → reply_followed (memory_or (m && may) s r) f ≡ reply_followed (memory_or (k && may) s r) g
one_step may false false s r f g t w v ih h = same_reply r f g (ih r.next v) h
one_step false true false s r f g t w v ih h = same_reply r f g (ih r.next v) h
one_step false false true s r f g t w v ih h = same_reply r f g (ih r.next v) h
one_step false true true s r f g t w v ih h = same_reply r f g (ih r.next v) h
one_step true true true s r f g t w v ih h = same_reply (refused_memory s) f g (ih s w) h
one_step true true false s r f g t w v ih h = absurd (other_reply s r f g t h)
one_step true false true s r f g t w v ih h = absurd (other_reply s r g f t (sym h))

replies_told : (limit : ℕ) (lacks lacks' : ℕ → Bool) (n : ℕ) (lines : List (List ℕ)) (s : System) → IsWell s
    → output_text (replies_from (reply limit) lacks n s lines) ≡ output_text (replies_from (reply limit) lacks' n s lines)
    → replies_from (reply limit) lacks n s lines ≡ replies_from (reply limit) lacks' n s lines
replies_told limit lacks lacks' n [] s w h = refl
replies_told limit lacks lacks' n (line ∷ lines) s w h =
    one_step (may_lack_memory line) (lacks n) (lacks' n) s (reply limit s line)
    (λ next. replies_from (reply limit) lacks (n + 1) next lines) (λ next. replies_from (reply limit) lacks' (n + 1) next lines)
    (reply_tells limit s line w.1) w (reply_kept limit s line w) (λ t v. replies_told limit lacks lacks' (n + 1) lines t v) h

pub out_told : (limit : ℕ) (script : List ℕ) (lacks lacks' : ℕ → Bool) → output_text (out (reply limit) script lacks) ≡ output_text (out (reply limit) script lacks')
    → out (reply limit) script lacks ≡ out (reply limit) script lacks'
out_told limit script lacks lacks' h = replies_told limit lacks lacks' 1 (lines_of script) opening opening_well h
