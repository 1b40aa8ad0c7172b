-- Which symbols have a question.
use Rattle.std.proofs.Common.{◌≡◌, ℕ, ℤ, Bor, ◌<◌, List, length, slice_get, Option, Some, None, refl, sym, ap, ◌∙◌, arith}
use Rattle.std.specs.Prelude.{option_map}
use Rattle.std.proofs.lemmas.Option.{same_Some}
use Rattle.lsys_spec.specs.Systems.{System}
use Rattle.lsys_spec.specs.Bodies.{Body, group}
use Rattle.lsys_spec.specs.Levels.{ModuleValue}
use Rattle.lsys_spec.specs.Meaning.{any_weight}
use Rattle.lsys_text.specs.declared.names.Name.{Name}
use Rattle.lsys_level.specs.Spots.{Seen, Spotted, Module}
use Rattle.lsys_level.specs.Views.{seen_of}
use Rattle.lsys_level.specs.declared.sight.Sight.{Sight}
use Rattle.lsys_level.specs.declared.sight.Sight.TheVariants as sight
use Rattle.lsys_match.specs.Asking.{HasQuestion, IsPosedAt, key_if}

-- a module is seen at a place
pub module_at : (row : List Spotted) (p : ℕ) (m : ModuleValue) → option_map (λ s. s.seen) (slice_get row p) ≡ Some (Module m) → (tag : ℕ) × (key : ℕ) × (slice_get row p ≡ Some (record { seen = Module m; tag = tag; key = key }))
module_at row p m e = by (slice_get row p) refl e
  where
    by : (o : Option Spotted) → slice_get row p ≡ o → option_map (λ s. s.seen) o ≡ Some (Module m) → (tag : ℕ) × (key : ℕ) × (slice_get row p ≡ Some (record { seen = Module m; tag = tag; key = key }))
    by None f h = cc
    by (Some s) f h =
        let seen : s.seen ≡ Module m = cc in (s.tag, s.key, f ∙ (λ i. Some (record { seen = seen i; tag = s.tag; key = s.key })))

module _ (s : System) (t : ℕ) (row : List Spotted) (p : ℕ) (e : Seen) (h : option_map (λ s. s.seen) (slice_get row p) ≡ Some e) where
  -- what is asked is seen
  pub seen_asked : (q : HasQuestion s t row p) → e ≡ Module q.here.own
  seen_asked q = same_Some e (Module q.here.own) (sym h ∙ ap (option_map (λ s. s.seen)) q.here.here)

-- a bracket has none
pub bracketed : (s : System) (t : ℕ) (row : List Spotted) (p : ℕ) (x : Sight) → ((name : Name) (params : Bor (List ℤ)) → x ≡ sight.Module name params → ⊥) → option_map (λ s. s.seen) (slice_get row p) ≡ Some (seen_of x) → HasQuestion s t row p → ⊥
bracketed s t row p sight.Push n h q = let e = seen_asked s t row p (seen_of sight.Push) h q in cc
bracketed s t row p sight.Pop n h q = let e = seen_asked s t row p (seen_of sight.Pop) h q in cc
bracketed s t row p (sight.Module name params) n h q = n name params refl

-- there is one
pub ruled : (s : System) (t : ℕ) (row : List Spotted) (p : ℕ) (m : ModuleValue) (bs : List Body) → option_map (λ s. s.seen) (slice_get row p) ≡ Some (Module m) → bs ≡ group s t m.name (length m.params) → 0 < length bs → HasQuestion s t row p
ruled s t row p m bs h is some =
    let at = module_at row p m h in
    record { here = record { tag = at.0; key = at.1; own = m; here = at.2 }; rules = λ none. let n : length bs ≡ 0 = ap length (is ∙ none) in absurd (omega (arith, n, some)) }

-- what is posed of it
pub posed_there : (s : System) (t : ℕ) (row : List Spotted) (p : ℕ) (m : ModuleValue) (bs : List Body) (tag : ℕ) (key : Option ℕ)
    → option_map (λ s. s.seen) (slice_get row p) ≡ Some (Module m) → option_map (λ s. s.tag) (slice_get row p) ≡ Some tag → bs ≡ group s t m.name (length m.params) → key ≡ key_if (any_weight bs) (option_map (λ s. s.key) (slice_get row p))
    → IsPosedAt s t row p (record { tag = tag; own = m; bodies = bs; key = key })
posed_there s t row p m bs tag key seen tagged is keyed =
    let at = module_at row p m seen in
    let same : at.0 ≡ tag = same_Some at.0 tag (sym (ap (option_map (λ s. s.tag)) at.2) ∙ tagged) in
    let known : key ≡ key_if (any_weight (group s t m.name (length m.params))) (Some at.1) = keyed ∙ ap (λ o. key_if (any_weight bs) (option_map (λ s. s.key) o)) at.2 ∙ ap (λ bs. key_if (any_weight bs) (Some at.1)) is in
    record {
      key = at.1;
      here = at.2 ∙ (λ i. Some (record { seen = Module m; tag = same i; key = at.1 }));
      posed = λ i. record { tag = tag; own = m; bodies = is i; key = known i };
    }
