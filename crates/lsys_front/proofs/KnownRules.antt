-- What is kept of the rules that were compared.
use Rattle.std.proofs.Common.{◌≡◌, ℕ, Bool, true, false, ◌&&◌, Some, cond, refl, ap, sym, ◌∙◌, bytes_eq}
use Rattle.std.specs.HashMap.{HashMap, get}
use Rattle.std.specs.Map.{lookup}
use Rattle.std.proofs.lemmas.Bool.{eqb-true}
use Rattle.std.proofs.lemmas.Option.{same_Some}
use Rattle.lsys_spec.specs.Systems.{System}
use Rattle.lsys_laws.proofs.Aparts.{bytes_eq_true}
use Rattle.lsys_module.specs.Views.{module_name}
use Rattle.lsys_front.specs.declared.module_key.ModuleKey.{ModuleKey}
use Rattle.lsys_front.specs.Others.{are_alike}
use Rattle.lsys_front.specs.Known.{same_module_key, KnowsAlike}

both : (x y : Bool) → (x && y) ≡ true → (x ≡ true) × (y ≡ true)
both true y h = (refl, h)
both false y h = cc

one_key : (a b : ModuleKey) → same_module_key a b ≡ true → a ≡ b
one_key a b h =
    let t = both (bytes_eq a.name b.name) _ h in
    let name : a.name ≡ b.name = bytes_eq_true a.name b.name t.0 in
    let arity : a.arity ≡ b.arity = eqb-true a.arity b.arity t.1 in
    λ i. record { name = name i; arity = arity i }

module _ {S : Type 0} (m n : HashMap ModuleKey Bool S) (old new : System) (t : ℕ) where
  -- nothing more is kept
  pub same_known : n.entries ≡ m.entries → KnowsAlike m old new t → KnowsAlike n old new t
  same_known e known key alike h = known key alike (sym (ap (lookup (same_module_key key)) e) ∙ h)

  -- one answer more is kept
  pub more_known : (key : ModuleKey) (alike : Bool) → ((q : ModuleKey) → get same_module_key n q ≡ cond (same_module_key key q) (Some alike) (get same_module_key m q))
      → alike ≡ are_alike old new t (module_name key.name) key.arity → KnowsAlike m old new t → KnowsAlike n old new t
  more_known key alike put is known q b h = by (same_module_key key q) refl (sym (put q) ∙ h)
    where
      by : (s : Bool) → same_module_key key q ≡ s → cond s (Some alike) (get same_module_key m q) ≡ Some b → b ≡ are_alike old new t (module_name q.name) q.arity
      by true e k = sym (same_Some alike b k) ∙ is ∙ ap (λ (a : ModuleKey). are_alike old new t (module_name a.name) a.arity) (one_key key q e)
      by false e k = known q b k
