-- Formals: one, and what stands after it; and the loop over them.
use Rattle.std.proofs.Common.{◌≡◌, ◌≤◌, ◌+◌, ℕ, Ok, Err, List, [], ◌∷◌, ◌++◌, length, map, ap, sym, subst, ◌∙◌}
use Rattle.lsys_syntax.specs.Tokens.{NameText, Kind}
use Rattle.lsys_syntax.specs.Strings.{ModuleName, plus, Symbol, Module}
use Rattle.lsys_syntax.specs.RuleMachine.{Form, production, Part, at_first, Formals, FormalDue, reversed}
use Rattle.lsys_text.specs.Tokens.{name_of}
use Rattle.lsys_reading.specs.declared.glyph.Separator.TheVariants as separators
use Rattle.lsys_reading.specs.declared.formals.FormalRead.{FormalRead as Formal}
use Rattle.lsys_syntax.specs.RulePoints.{at_state, Leads}
use Rattle.lsys_reading.specs.Reads.{after_formal, IsFormalRead, AreFormalsRead}
use Rattle.lsys_reading.proofs.ReadLaws.{refuses-on}
use Rattle.lsys_reading.specs.declared.refusal.PartRefusal.{PartRefusal}
use Rattle.lsys_reading.specs.declared.formals.FormalsRead.{FormalsRead}
use Rattle.lsys_syntax.proofs.RulePoints.{leads-on}
use Rattle.lsys_reading.proofs.Reversals.{mapped-push, mapped-whole}

-- what the loop over formals keeps
pub record FormalsSoFar (ks : List Kind) (at end : ℕ) (fs : List (List ℕ)) : Type 0 where
  pub after : at ≤ end
  pub within : end ≤ length ks
  pub read : (m : Form) (p : Part) (r : List (Symbol NameText)) (n : ModuleName) → Leads m ks at (at_state (FormalDue p r n [])) end (at_state (FormalDue p r n (reversed (map name_of fs))))

module _ (ks : List Kind) (at end : ℕ) (fs : List (List ℕ)) (f : Formal) (so : FormalsSoFar ks at end fs) (one : IsFormalRead ks end (Ok f)) where
  further : (m : Form) (p : Part) (r : List (Symbol NameText)) (n : ModuleName)
      → Leads m ks at (at_state (FormalDue p r n [])) (end + 2) (at_state (after_formal f.separator p r n (name_of f.name ∷ reversed (map name_of fs))))
  further m p r n =
      leads-on m ks at end (end + 2) (at_state (FormalDue p r n [])) (at_state (FormalDue p r n (reversed (map name_of fs)))) (at_state (after_formal f.separator p r n (name_of f.name ∷ reversed (map name_of fs))))
      (so.read m p r n) (one m p r n (reversed (map name_of fs)))

  pub formals-more : f.separator ≡ separators.Comma → FormalsSoFar ks at (end + 2) (fs ++ f.name ∷ [])
  formals-more e =
      let read : (m : Form) (p : Part) (r : List (Symbol NameText)) (n : ModuleName) → Leads m ks at (at_state (FormalDue p r n [])) (end + 2) (at_state (FormalDue p r n (reversed (map name_of (fs ++ f.name ∷ []))))) =
      λ m p r n.
      subst (λ gs. Leads m ks at (at_state (FormalDue p r n [])) (end + 2) (at_state (FormalDue p r n gs))) (sym (mapped-push name_of fs f.name))
      (subst (λ s. Leads m ks at (at_state (FormalDue p r n [])) (end + 2) (at_state (after_formal s p r n (name_of f.name ∷ reversed (map name_of fs))))) e (further m p r n)) in
      let here = read production at_first [] plus in
      record { after = here.after; within = here.within; read = read }

  pub formals-done : f.separator ≡ separators.Close → (v : FormalsRead) → v.formals.items ≡ fs ++ f.name ∷ [] → v.end ≡ end + 2 → AreFormalsRead ks at (Ok v)
  formals-done e v i j = λ m p r n.
      subst (λ q. Leads m ks at (at_state (FormalDue p r n [])) q (at_state (Formals p (Module n (map name_of v.formals.items) ∷ r)))) (sym j)
      (subst (λ gs. Leads m ks at (at_state (FormalDue p r n [])) (end + 2) (at_state (Formals p (Module n gs ∷ r)))) (mapped-whole name_of fs f.name ∙ ap (map name_of) (sym i))
      (subst (λ s. Leads m ks at (at_state (FormalDue p r n [])) (end + 2) (at_state (after_formal s p r n (name_of f.name ∷ reversed (map name_of fs))))) e (further m p r n)))

-- the next one is refused
pub formals-refused : (ks : List Kind) (at end : ℕ) (fs : List (List ℕ)) (e : PartRefusal) → FormalsSoFar ks at end fs → IsFormalRead ks end (Err e) → AreFormalsRead ks at (Err e)
formals-refused ks at end fs e so one = λ m p r n.
    refuses-on m ks at end (at_state (FormalDue p r n [])) (at_state (FormalDue p r n (reversed (map name_of fs)))) e (so.read m p r n) (one m p r n (reversed (map name_of fs)))

pub formal-within : (ks : List Kind) (at : ℕ) (f : Formal) → IsFormalRead ks at (Ok f) → at + 2 ≤ length ks
formal-within ks at f h = (h production at_first [] plus []).within
