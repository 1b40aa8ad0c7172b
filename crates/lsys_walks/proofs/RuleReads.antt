-- A rule's walks, one after the other.
use Rattle.std.proofs.Common.{◌≡◌, ℕ, ℤ, Bool, List, [], ◌∷◌, ◌++◌, ◌+◌, ◌<◌, length, take, Some, None, ap, sym, ◌∙◌, subst, arith, append_assoc, append-nil, length-append}
use Rattle.std.specs.Prelude.{option_map, reverse}
use Rattle.std.proofs.lemmas.List.{take-append-le, reverse-reverse}
use Rattle.std.proofs.lemmas.Grind.{flat_map-append}
use Rattle.lsys_syntax.specs.Strings.{ModuleName}
use Rattle.lsys_spec.specs.Bodies.{Body, Patterns, Pattern}
use Rattle.lsys_spec.specs.Levels.{ModuleValue, Step, Items}
use Rattle.lsys_spec.specs.Walks.{Mark, Entry, Told, says, followed, joined, left_walk, right_walk}
use Rattle.lsys_spec.specs.Choice.{contexts, right_after, params_of}
use Rattle.lsys_walks.specs.declared.walked.Walked.{Walked}
use Rattle.lsys_walks.specs.declared.walked.Walked.TheVariants.{Found, Missed, TooFar}
use Rattle.lsys_walks.specs.Walked.{Walks, ReadsFront}
use Rattle.lsys_walks.proofs.Told.{Answer}

module _ (f : ModuleName → Bool) (d : Mark) (b : Body) (m : ModuleValue) (w : List Step) (r : Items) (most : ℕ) (qs : List Pattern) (ps : Patterns) (p : b.left ≡ qs) (q : b.right ≡ ps) where
  abbrev pub all : Told Answer
  all = contexts f d b m w r

  abbrev pub lefts : Told Answer
  lefts = left_walk f d (reverse qs) w

  abbrev pub rights : Told Answer
  rights = right_walk f d ps r

  rest : Answer → Told Answer
  rest o = right_after f d b m r o

  splits : all ≡ followed lefts (rest lefts.answer)
  unfolding rest
  splits = ap (λ qs. followed (left_walk f d (reverse qs) w) (right_after f d b m r (left_walk f d (reverse qs) w).answer)) p

  -- what was read before memory was wanting
  module _ (old mid new : List Entry) where
    pub left_front : ReadsFront lefts old mid → ReadsFront all old mid
    unfolding rest
    left_front h =
        let more : List Entry = (rest lefts.answer).entries in
        let e : old ++ all.entries ≡ (old ++ lefts.entries) ++ more = ap (λ (t : Told Answer). old ++ t.entries) splits ∙ sym (append_assoc old lefts.entries more) in
        (h.0 ++ more, e ∙ ap (λ es. es ++ more) h.1 ∙ append_assoc mid h.0 more)

    pub left_read : mid ≡ old ++ lefts.entries → ReadsFront all old mid
    left_read a = left_front ([], sym a ∙ sym (append-nil mid))

    pub right_front : (ms : List ModuleValue) → lefts.answer ≡ Some ms → mid ≡ old ++ lefts.entries → ReadsFront rights mid new → ReadsFront all old new
    unfolding rest
    right_front ms h a g =
        let e : all ≡ followed lefts (joined (ms ++ m ∷ []) rights) =
        splits ∙ ap (λ o. followed lefts (rest o)) h ∙ ap (λ ps. followed lefts (joined (ms ++ m ∷ []) (right_walk f d ps r))) q in
        let all_of : old ++ all.entries ≡ mid ++ rights.entries =
        ap (λ (t : Told Answer). old ++ t.entries) e ∙ sym (append_assoc old lefts.entries rights.entries) ∙ ap (λ es. es ++ rights.entries) (sym a) in
        (g.0, all_of ∙ g.1)

  module _ (old mid new : List Entry) (Kept : List ModuleValue → Type 0) where
    pub left_missed : (Other : List ModuleValue → Type 0) → Walks most lefts old mid Other Missed → Walks most all old mid Kept Missed
    unfolding rest
    left_missed Other h =
        let e : all ≡ followed lefts (says None) = splits ∙ ap (λ o. followed lefts (rest o)) h.2 in
        (h.0 ∙ ap (λ es. old ++ es) (sym (append-nil lefts.entries)) ∙ ap (λ (t : Told Answer). old ++ t.entries) (sym e), h.1, ap (λ (t : Told Answer). t.answer) e)

    pub left_far : (Other : List ModuleValue → Type 0) → Walks most lefts old mid Other TooFar → Walks most all old mid Kept TooFar
    left_far Other h =
        let more : List Entry = (rest lefts.answer).entries in
        let e : old ++ all.entries ≡ (old ++ lefts.entries) ++ more = ap (λ (t : Told Answer). old ++ t.entries) splits ∙ sym (append_assoc old lefts.entries more) in (
          h.0 ∙ sym (ap (take (most + 1)) e ∙ take-append-le (most + 1) (old ++ lefts.entries) more (omega (arith, h.1))),
          let n : length (old ++ all.entries) ≡ length (old ++ lefts.entries) + length more = ap length e ∙ length-append (old ++ lefts.entries) more in omega (arith, n, h.1),
        )

    pub left_found : (ms : List ModuleValue) (Other : List ModuleValue → Type 0) (u : Walked) → lefts.answer ≡ Some ms → mid ≡ old ++ lefts.entries → ((more : List ModuleValue) → Other more → Kept ((ms ++ m ∷ []) ++ more))
        → Walks most rights mid new Other u → Walks most all old new Kept u
    unfolding rest
    left_found ms Other u h a k = by u
      where
        e : all ≡ followed lefts (joined (ms ++ m ∷ []) rights)
        e = splits ∙ ap (λ o. followed lefts (rest o)) h ∙ ap (λ ps. followed lefts (joined (ms ++ m ∷ []) (right_walk f d ps r))) q

        whole : old ++ all.entries ≡ mid ++ rights.entries
        whole = ap (λ (t : Told Answer). old ++ t.entries) e ∙ sym (append_assoc old lefts.entries rights.entries) ∙ ap (λ es. es ++ rights.entries) (sym a)

        by : (u : Walked) → Walks most rights mid new Other u → Walks most all old new Kept u
        by Found h = (h.0 ∙ sym whole, h.1, (ms ++ m ∷ []) ++ h.2, ap (λ (t : Told Answer). t.answer) e ∙ ap (option_map (λ more. (ms ++ m ∷ []) ++ more)) h.3, k h.2 h.4)
        by Missed h = (h.0 ∙ sym whole, h.1, ap (λ (t : Told Answer). t.answer) e ∙ ap (option_map (λ more. (ms ++ m ∷ []) ++ more)) h.2)
        by TooFar h = (h.0 ∙ ap (take (most + 1)) (sym whole), subst (λ (es : List Entry). most < length es) (sym whole) h.1)

-- the values of the left context, of the module and of the right context
pub bound_all : (ms more : List ModuleValue) (m : ModuleValue) (own b c d e : List ℤ) → m.params ≡ own → b ≡ [] → c ≡ b ++ reverse (params_of ms) → d ≡ reverse c ++ own → e ≡ d ++ params_of more → e ≡ params_of ((ms ++ m ∷ []) ++ more)
bound_all ms more m own b c d e i j k l n =
    let left : reverse c ≡ params_of ms = ap reverse (k ∙ ap (λ b. b ++ reverse (params_of ms)) j) ∙ reverse-reverse (params_of ms) in
    let front : d ≡ params_of (ms ++ m ∷ []) =
    l ∙ ap (λ v. v ++ own) left ∙ ap (λ v. params_of ms ++ v) (sym i ∙ sym (append-nil m.params)) ∙ sym (flat_map-append (λ m. m.params) ms (m ∷ [])) in
    n ∙ ap (λ v. v ++ params_of more) front ∙ sym (flat_map-append (λ m. m.params) (ms ++ m ∷ []) more)
