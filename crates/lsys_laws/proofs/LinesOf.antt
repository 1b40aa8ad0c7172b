-- The lines of bytes, and the whole ones among them.
use Rattle.std.proofs.Common.{◌≡◌, ℕ, Bool, true, false, List, [], ◌∷◌, ◌++◌, ◌==◌, refl, ap, ◌∙◌, sym, subst, append_assoc, if◌then◌else◌, arith, ◌⊎◌, inl, inr}
use Rattle.std.specs.Prelude.{◌≢◌}
use Rattle.std.proofs.lemmas.Bool.{eqb-true}
use Rattle.std.proofs.lemmas.Bool.Decides.{nat_tests}
use Rattle.lsys_syntax.specs.Lines.{lines_of, onto_first}
use Rattle.lsys_spec.specs.Systems.{System, Each}
use Rattle.lsys_spec.specs.Refusals.{Reply}
use Rattle.lsys_spec.specs.Output.{out, IsFront, with_byte, whole_lines}
use Rattle.lsys_spec.proofs.Fronts.{out_front}
use Rattle.lsys_laws.specs.Scripts.{HasNoFeed, with_feeds}

-- 1. no line has an LF

onto_calm : (b : ℕ) (lines : List (List ℕ)) → b ≢ 10 → Each HasNoFeed lines → Each HasNoFeed (onto_first b lines)
onto_calm b [] n h = ((n, tt), tt)
onto_calm b (line ∷ lines) n h = ((n, h.0), h.1)

no_feed : (b : ℕ) → (b == 10) ≡ false → b ≢ 10
no_feed b h e = grind (arith, nat_tests)

pub lines_calm : (bytes : List ℕ) → Each HasNoFeed (lines_of bytes)
lines_calm [] = tt
lines_calm (b ∷ bytes) = by_test (b == 10) refl (lines_calm bytes)
  where
    by_test : (t : Bool) → (b == 10) ≡ t → Each HasNoFeed (lines_of bytes) → Each HasNoFeed (if t then [] ∷ lines_of bytes else onto_first b (lines_of bytes))
    by_test true e h = (tt, h)
    by_test false e h = onto_calm b (lines_of bytes) (no_feed b e) h

-- 2. the lines with LF between them

onto_feeds : (b : ℕ) (lines : List (List ℕ)) → with_feeds (onto_first b lines) ≡ b ∷ with_feeds lines
onto_feeds b [] = refl
onto_feeds b (line ∷ []) = refl
onto_feeds b (line ∷ next ∷ lines) = refl

-- the last line lacks its LF or has it
abbrev pub Joined : List ℕ → Type 0
Joined bytes = (bytes ≡ with_feeds (lines_of bytes)) ⊎ (bytes ≡ with_feeds (lines_of bytes) ++ 10 ∷ [])

is_feed : (b : ℕ) → (b == 10) ≡ true → b ≡ 10
is_feed b h = eqb-true b 10 h

abbrev FeedsTo : List ℕ → List (List ℕ) → Type 0
FeedsTo bytes lines = (bytes ≡ with_feeds lines) ⊎ (bytes ≡ with_feeds lines ++ 10 ∷ [])

later : (b : ℕ) (bytes : List ℕ) (lines : List (List ℕ)) → FeedsTo bytes lines → FeedsTo (b ∷ bytes) (onto_first b lines)
later b bytes lines (inl e) = inl (ap (λ l. b ∷ l) e ∙ sym (onto_feeds b lines))
later b bytes lines (inr e) = inr (ap (λ l. b ∷ l) e ∙ ap (λ l. l ++ 10 ∷ []) (sym (onto_feeds b lines)))

-- an LF before lines
fed : (bytes : List ℕ) (lines : List (List ℕ)) → (lines ≡ [] → bytes ≡ []) → FeedsTo bytes lines → FeedsTo (10 ∷ bytes) ([] ∷ lines)
fed bytes [] f h = inr (ap (λ l. 10 ∷ l) (f refl))
fed bytes (line ∷ lines) f (inl e) = inl (ap (λ l. 10 ∷ l) e)
fed bytes (line ∷ lines) f (inr e) = inr (ap (λ l. 10 ∷ l) e)

onto_some : (b : ℕ) (lines : List (List ℕ)) (bytes : List ℕ) → onto_first b lines ≡ [] → bytes ≡ []
onto_some b [] bytes h = cc
onto_some b (line ∷ lines) bytes h = cc

no_lines : (bytes : List ℕ) → lines_of bytes ≡ [] → bytes ≡ []
no_lines [] h = refl
no_lines (b ∷ bytes) h = by_test (b == 10) h
  where
    by_test : (t : Bool) → (if t then [] ∷ lines_of bytes else onto_first b (lines_of bytes)) ≡ [] → (b ∷ bytes) ≡ []
    by_test true k = cc
    by_test false k = onto_some b (lines_of bytes) (b ∷ bytes) k

pub lines_joined : (bytes : List ℕ) → Joined bytes
lines_joined [] = inl refl
lines_joined (b ∷ bytes) = by_test (b == 10) refl (lines_joined bytes)
  where
    by_test : (t : Bool) → (b == 10) ≡ t → Joined bytes → FeedsTo (b ∷ bytes) (if t then [] ∷ lines_of bytes else onto_first b (lines_of bytes))
    by_test true e h = subst (λ c. FeedsTo (c ∷ bytes) ([] ∷ lines_of bytes)) (sym (is_feed b e)) (fed bytes (lines_of bytes) (no_lines bytes) h)
    by_test false e h = later b bytes (lines_of bytes) h

-- 3. whole lines

-- none, or some that end with an LF; and what stands after them
data Whole (bytes whole : List ℕ) : Type 0 where
  no_line : whole ≡ [] → Whole bytes whole
  some_lines : (front rest : List ℕ) → whole ≡ front ++ 10 ∷ [] → bytes ≡ front ++ 10 ∷ rest → Whole bytes whole

whole_by : (b : ℕ) (bytes whole : List ℕ) → Whole bytes whole → Whole (b ∷ bytes) (with_byte b whole)
whole_by b bytes [] h = by_test (b == 10) refl
  where
    by_test : (t : Bool) → (b == 10) ≡ t → Whole (b ∷ bytes) (if t then b ∷ [] else [])
    by_test true e = some_lines [] bytes (ap (λ c. c ∷ []) (is_feed b e)) (ap (λ c. c ∷ bytes) (is_feed b e))
    by_test false e = no_line refl
whole_by b bytes (c ∷ whole) (no_line e) = cc
whole_by b bytes (c ∷ whole) (some_lines front rest e f) = some_lines (b ∷ front) rest (ap (λ l. b ∷ l) e) (ap (λ l. b ∷ l) f)

whole_is : (bytes : List ℕ) → Whole bytes (whole_lines bytes)
whole_is [] = no_line refl
whole_is (b ∷ bytes) = whole_by b bytes (whole_lines bytes) (whole_is bytes)

-- ys is xs, of which there is one at least, and then zs
abbrev Split : List (List ℕ) → List (List ℕ) → List (List ℕ) → Type 0
Split xs ys zs = (line : List ℕ) × (lines : List (List ℕ)) × (xs ≡ line ∷ lines) × (ys ≡ line ∷ (lines ++ zs))

split_by : (feeds : Bool) (b : ℕ) (xs ys zs : List (List ℕ)) → Split xs ys zs → Split (if feeds then [] ∷ xs else onto_first b xs) (if feeds then [] ∷ ys else onto_first b ys) zs
split_by true b xs ys zs h = ([], h.0 ∷ h.1, ap (λ l. [] ∷ l) h.2, ap (λ l. [] ∷ l) h.3)
split_by false b xs ys zs h = (b ∷ h.0, h.1, ap (onto_first b) h.2, ap (onto_first b) h.3)

lines_at : (front rest : List ℕ) → Split (lines_of (front ++ 10 ∷ [])) (lines_of (front ++ 10 ∷ rest)) (lines_of rest)
lines_at [] rest = ([], [], refl, refl)
lines_at (b ∷ front) rest = split_by _ b _ _ _ (lines_at front rest)

by_whole : (bytes whole : List ℕ) → Whole bytes whole → IsFront (lines_of whole) (lines_of bytes)
by_whole bytes whole (no_line e) = (lines_of bytes, ap (λ w. lines_of w ++ lines_of bytes) (sym e))
by_whole bytes whole (some_lines front rest e f) =
    let h = lines_at front rest in
    (lines_of rest, ap lines_of f ∙ h.3 ∙ ap (λ l. l ++ lines_of rest) (sym (ap lines_of e ∙ h.2)))

pub whole_among : (bytes : List ℕ) → IsFront (lines_of (whole_lines bytes)) (lines_of bytes)
whole_among bytes = by_whole bytes (whole_lines bytes) (whole_is bytes)

front_of : (bytes whole : List ℕ) → Whole bytes whole → IsFront whole bytes
front_of bytes whole (no_line e) = (bytes, ap (λ w. w ++ bytes) (sym e))
front_of bytes whole (some_lines front rest e f) = (rest, f ∙ sym (append_assoc front (10 ∷ []) rest) ∙ ap (λ w. w ++ rest) (sym e))

pub whole_front : (bytes : List ℕ) → IsFront (whole_lines bytes) bytes
whole_front bytes = front_of bytes (whole_lines bytes) (whole_is bytes)

by_front : (answer : System → List ℕ → Reply) (script bytes whole : List ℕ) (M : ℕ → Bool) → IsFront bytes script → Whole bytes whole → IsFront (out answer whole M) (out answer script M)
by_front answer script bytes whole M h (no_line e) = (out answer script M, ap (λ w. out answer w M ++ out answer script M) (sym e))
by_front answer script bytes whole M h (some_lines front rest e f) =
    let is : script ≡ front ++ 10 ∷ (rest ++ h.0) = h.1 ∙ ap (λ b. b ++ h.0) f ∙ append_assoc front (10 ∷ rest) h.0 in
    subst (λ w. IsFront (out answer w M) (out answer script M)) (sym e)
    (subst (λ b. IsFront (out answer (front ++ 10 ∷ []) M) (out answer b M)) (sym is) (out_front answer front (rest ++ h.0) M))

pub front_replies : (answer : System → List ℕ → Reply) (front script : List ℕ) (M : ℕ → Bool) → IsFront front script → IsFront (out answer (whole_lines front) M) (out answer script M)
front_replies answer front script M h = by_front answer script front (whole_lines front) M h (whole_is front)
