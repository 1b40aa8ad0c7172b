-- The replies to whole lines are a front of the replies to them and more.
use Rattle.std.proofs.Common.{◌≡◌, ℕ, ◌+◌, Bool, true, false, List, [], ◌∷◌, ◌++◌, refl, ap, sym, ◌||◌, true≢false, if◌then◌else◌}
use Rattle.lsys_syntax.specs.Lines.{lines_of, onto_first}
use Rattle.lsys_spec.specs.Systems.{System, opening}
use Rattle.lsys_spec.specs.Refusals.{Reply}
use Rattle.lsys_spec.specs.Output.{out, replies_from, reply_or_memory, IsFront, any_end, quits}

-- ys is xs, of which there is one at least, and then zs
abbrev Split : List (List ℕ) → List (List ℕ) → List (List ℕ) → Type 0
Split xs ys zs = (line : List ℕ) × (lines : List (List ℕ)) × (xs ≡ line ∷ lines) × (ys ≡ line ∷ (lines ++ zs))

with_byte : (feeds : Bool) (b : ℕ) (xs ys zs : List (List ℕ))
    → Split xs ys zs → Split (if feeds then [] ∷ xs else onto_first b xs) (if feeds then [] ∷ ys else onto_first b ys) zs
with_byte true b xs ys zs h = ([], h.0 ∷ h.1, ap (λ l. [] ∷ l) h.2, ap (λ l. [] ∷ l) h.3)
with_byte false b xs ys zs h = (b ∷ h.0, h.1, ap (onto_first b) h.2, ap (onto_first b) h.3)

lines_at : (front rest : List ℕ) → Split (lines_of (front ++ 10 ∷ [])) (lines_of (front ++ 10 ∷ rest)) (lines_of rest)
lines_at [] rest = ([], [], refl, refl)
lines_at (b ∷ front) rest = with_byte _ b _ _ _ (lines_at front rest)

by_end : (ends : Bool) (r : Reply) (xs ys : List Reply)
    → IsFront xs ys → IsFront (r ∷ elim ends [ true ↦ [] | false ↦ xs ]) (r ∷ elim ends [ true ↦ [] | false ↦ ys ])
by_end true r xs ys h = ([], refl)
by_end false r xs ys h = (h.0, ap (λ l. r ∷ l) h.1)

replies_front : (answer : System → List ℕ → Reply) (M : ℕ → Bool) (n : ℕ) (s : System) (xs ys : List (List ℕ))
    → IsFront (replies_from answer M n s xs) (replies_from answer M n s (xs ++ ys))
replies_front answer M n s [] ys = (replies_from answer M n s ys, refl)
replies_front answer M n s (line ∷ xs) ys =
    let r = reply_or_memory answer (M n) s line in by_end r.ends r _ _ (replies_front answer M (n + 1) r.next xs ys)

pub out_front : (answer : System → List ℕ → Reply) (front rest : List ℕ) (M : ℕ → Bool)
    → IsFront (out answer (front ++ 10 ∷ []) M) (out answer (front ++ 10 ∷ rest) M)
out_front answer front rest M =
    let h = lines_at front rest in rw (h.2, h.3) (replies_front answer M 1 opening (h.0 ∷ h.1) (lines_of rest))

at_end : (ends : Bool) (r : Reply) (xs ys : List Reply)
    → (any_end xs ≡ true → ys ≡ xs)
    → (ends || any_end (elim ends [ true ↦ [] | false ↦ xs ])) ≡ true
    → (r ∷ elim ends [ true ↦ [] | false ↦ ys ]) ≡ (r ∷ elim ends [ true ↦ [] | false ↦ xs ])
at_end true r xs ys h e = refl
at_end false r xs ys h e = ap (λ l. r ∷ l) (h e)

ended_replies : (answer : System → List ℕ → Reply) (M : ℕ → Bool) (n : ℕ) (s : System) (xs ys : List (List ℕ))
    → any_end (replies_from answer M n s xs) ≡ true → replies_from answer M n s (xs ++ ys) ≡ replies_from answer M n s xs
ended_replies answer M n s [] ys h = absurd (true≢false (sym h))
ended_replies answer M n s (line ∷ xs) ys h =
    let r = reply_or_memory answer (M n) s line in at_end r.ends r _ _ (ended_replies answer M (n + 1) r.next xs ys) h

pub out_ended : (answer : System → List ℕ → Reply) (front rest : List ℕ) (M : ℕ → Bool)
    → quits answer (front ++ 10 ∷ []) M ≡ true → out answer (front ++ 10 ∷ rest) M ≡ out answer (front ++ 10 ∷ []) M
out_ended answer front rest M q =
    let h = lines_at front rest in
    let ended : any_end (replies_from answer M 1 opening (h.0 ∷ h.1)) ≡ true = rw h.2 at q in
    rw (h.2, h.3) (ended_replies answer M 1 opening (h.0 ∷ h.1) (lines_of rest) ended)
