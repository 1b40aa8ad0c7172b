-- Names and modules that are alike.
use Rattle.std.proofs.Common.{◌≡◌, ◌↔◌, ℕ, ℤ, Bool, IsTrue, List, ap, sym, ◌∙◌, refl}
use Rattle.lsys_spec.specs.Systems.{module_name_text}
use Rattle.lsys_text.specs.Texts.{IsNameBytes}
use Rattle.lsys_module.specs.Views.{module_name}
use Rattle.lsys_spec.specs.Levels.{ModuleValue}
use Rattle.lsys_spec.specs.Walks as W
use Rattle.lsys_walks.specs.declared.entry.Entry.{Entry}
use Rattle.lsys_walks.specs.declared.entry.Entry.TheVariants.{Compared, Ignored, Out, Branch}
use Rattle.lsys_walks.specs.declared.entry.EntryKind.TheVariants as kinds
use Rattle.lsys_walks.specs.Noted as noted
use Rattle.lsys_walks.specs.Parts.{entry_kind, entry_rule, depth_of, tag_of, entry_name}
use Rattle.lsys_walks.specs.Views.{noted_of}
use Rattle.lsys_module.proofs.Names.{module_name-text}

pub same_text : (m n : List ℕ) → IsNameBytes m → IsNameBytes n → module_name m ≡ module_name n → m ≡ n
same_text m n h k e = sym (module_name-text m h) ∙ ap module_name_text e ∙ module_name-text n k

compared_module : (d e : W.Mark) (t u : ℕ) (m n : ModuleValue) → noted.Compared d t m ≡ noted.Compared e u n → m ≡ n
compared_module d e t u m n i = cc

ignored_module : (d e : W.Mark) (t u : ℕ) (m n : ModuleValue) → noted.Ignored d t m ≡ noted.Ignored e u n → m ≡ n
ignored_module d e t u m n i = cc

-- entries that carry modules, with the same marks, tags and names
pub alike_modules : (a b : Entry) (xs ys : List ℤ) (r : Bool) → (entry_kind a ≡ kinds.Out → ⊥) → (entry_kind a ≡ kinds.Branch → ⊥)
    → entry_kind a ≡ entry_kind b → entry_rule a ≡ entry_rule b → depth_of a ≡ depth_of b → tag_of a ≡ tag_of b → module_name (entry_name a) ≡ module_name (entry_name b)
    → IsTrue r ↔ (xs ≡ ys) → IsTrue r ↔ (noted_of a xs ≡ noted_of b ys)
alike_modules (Compared d n t name) (Compared e m u other) xs ys r out branch kind rule depth tag names params = (
  λ yes. let same : xs ≡ ys = params.0 yes in
      λ i. noted.Compared (record { rule = rule i; depth = depth i }) (tag i) (record { name = names i; params = same i }),
  λ i. params.1 (ap (λ (v : ModuleValue). v.params) (compared_module _ _ _ _ _ _ i)),
)
alike_modules (Ignored d n t name) (Ignored e m u other) xs ys r out branch kind rule depth tag names params = (
  λ yes. let same : xs ≡ ys = params.0 yes in
      λ i. noted.Ignored (record { rule = rule i; depth = depth i }) (tag i) (record { name = names i; params = same i }),
  λ i. params.1 (ap (λ (v : ModuleValue). v.params) (ignored_module _ _ _ _ _ _ i)),
)
alike_modules (Out d t) b xs ys r out branch kind rule depth tag names params = absurd (out refl)
alike_modules (Branch d t u) b xs ys r out branch kind rule depth tag names params = absurd (branch refl)
alike_modules a b xs ys r out branch kind rule depth tag names params = absurd cc
