-- The loop that fills the children that are wanted.
use Rattle.std.proofs.Common.{◌≡◌, ℕ, ◌+◌, ◌<◌, ◌≤◌, Some, None, Option, List, [], ◌∷◌, ◌++◌, length, sym, ap, ◌∙◌, subst, arith, append_assoc, append-nil, drop}
use Rattle.std.specs.Prelude.{slice_get}
use Rattle.std.proofs.lemmas.List.{drop_all}
use Rattle.lsys_syntax.specs.Commands.{Numbering}
use Rattle.lsys_spec.specs.Draws.{number_base}
use Rattle.lsys_spec.specs.Numbers.{code_of}
use Rattle.lsys_rewrite.specs.Cutting.{symbol_stays, next_cutting}
use Rattle.lsys_module.specs.Views.{symbol_of, string_of}
use Rattle.lsys_module.specs.declared.symbol.Symbol.{Symbol}
use Rattle.lsys_children.specs.declared.number.Number.{Number}
use Rattle.lsys_children.specs.declared.child.Child.{Child}
use Rattle.lsys_children.specs.NumbersOf.{numbered_at, child_of, child_if, wanted_from, IsAfter}
use Rattle.lsys_children.specs.Wishes.{AreWanted}
use Rattle.lsys_children.specs.declared.numbers.SuccessorNumbers.{SuccessorNumbers}
use Rattle.lsys_children.proofs.StepLemmas.{drop_at}
use Rattle.lsys_children.proofs.Wishing.{are_wanted, small_at}

-- the symbols before place i were numbered, and are children where they stay; and what is left to do
pub record IsFilled (g : Numbering) (key : ℕ) (ss : List Symbol) (i : ℕ) (numbers : SuccessorNumbers) (ws : List Child) (o : Option ℕ) : Type 0 where
  pub before : List ℕ
  pub after : IsAfter i before numbers
  pub told : ws ++ wanted_from g key i before o (drop i ss) ≡ wanted_from g key 0 [] None ss

pub one_filled : (g : Numbering) (key : ℕ) (ss : List Symbol) (i : ℕ) (numbers after : SuccessorNumbers) (ws : List Child) (o : Option ℕ) (s : Symbol) (number : Number) → IsFilled g key ss i numbers ws o → slice_get ss i ≡ Some s
    → ((n : ℕ) (before : List ℕ) → IsAfter n before numbers → number ≡ numbered_at g n before (code_of (symbol_of s)))
    → ((n : ℕ) (before : List ℕ) → IsAfter n before numbers → IsAfter (n + 1) (code_of (symbol_of s) ∷ before) after)
    → IsFilled g key ss (i + 1) after (ws ++ child_if (symbol_stays o (symbol_of s)) (child_of key number s)) (next_cutting o (symbol_of s))
one_filled g key ss i numbers after ws o s number h there is goes =
    let c = code_of (symbol_of s) in
    let rest : List Symbol = drop (i + 1) ss in
    let next : List Child = wanted_from g key (i + 1) (c ∷ h.before) (next_cutting o (symbol_of s)) rest in
    record {
      before = c ∷ h.before;
      after = goes i h.before h.after;
      told =
          append_assoc ws (child_if (symbol_stays o (symbol_of s)) (child_of key number s)) next
          ∙ ap (λ (number : Number). ws ++ (child_if (symbol_stays o (symbol_of s)) (child_of key number s) ++ next)) (is i h.before h.after)
          ∙ ap (λ rest. ws ++ wanted_from g key i h.before o rest) (sym (drop_at ss i s there)) ∙ h.told;
    }

pub small_number : (g : Numbering) (key : ℕ) (ss : List Symbol) (i : ℕ) (numbers : SuccessorNumbers) (ws : List Child) (o : Option ℕ) (c : ℕ) (number : Number) → IsFilled g key ss i numbers ws o → i < number_base
    → ((n : ℕ) (before : List ℕ) → IsAfter n before numbers → number ≡ numbered_at g n before c) → number.count < number_base
small_number g key ss i numbers ws o c number h l is = subst (λ (number : Number). number.count < number_base) (sym (is i h.before h.after)) (small_at g i h.before c h.after.length l)

pub all_filled : (g : Numbering) (key : ℕ) (ss : List Symbol) (i : ℕ) (numbers : SuccessorNumbers) (ws : List Child) (o : Option ℕ) → IsFilled g key ss i numbers ws o → length ss ≤ i → ws ≡ wanted_from g key 0 [] None ss
all_filled g key ss i numbers ws o h l = sym (append-nil ws) ∙ ap (λ rest. ws ++ wanted_from g key i h.before o rest) (sym (drop_all i ss l)) ∙ h.told

pub filled_wanted : (g : Numbering) (key : ℕ) (ss : List Symbol) (i : ℕ) (numbers : SuccessorNumbers) (ws : List Child) (o : Option ℕ) → IsFilled g key ss i numbers ws o → length ss ≤ i → length ss ≤ number_base → AreWanted g key (string_of ss) ws
filled_wanted g key ss i numbers ws o h l few = subst (AreWanted g key (string_of ss)) (sym (all_filled g key ss i numbers ws o h l)) (are_wanted g key ss few)

-- the one child that a symbol alone is
pub alone_wanted : (g : Numbering) (key : ℕ) (s : Symbol) (number : Number) (before ws : List Child) → before ≡ [] → ws ≡ before ++ child_if (symbol_stays None (symbol_of s)) (child_of key number s)
    → number ≡ numbered_at g 0 [] (code_of (symbol_of s)) → AreWanted g key (symbol_of s ∷ []) ws
alone_wanted g key s number before ws none is named =
    let stays = symbol_stays None (symbol_of s) in
    let from = is ∙ ap (λ (l : List Child). l ++ child_if stays (child_of key number s)) none ∙ ap (λ (n : Number). child_if stays (child_of key n s)) named ∙ sym (append-nil (child_if stays (child_of key (numbered_at g 0 [] (code_of (symbol_of s))) s))) in
    subst (AreWanted g key (symbol_of s ∷ [])) (sym from) (are_wanted g key (s ∷ []) (omega arith))
