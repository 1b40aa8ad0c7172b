-- What a put and a removal by label are to the rules in order.
use Rattle.std.proofs.Common.{◌≡◌, ℕ, Bool, true, false, List, [], ◌∷◌, map, refl, ap, sym, ◌∙◌, cond, bytes_eq, if◌then◌else◌}
use Rattle.std.proofs.lemmas.Slice.Eq.{bytes_eq-Decides}
use Rattle.std.specs.Map.{remove_entry}
use Rattle.indexmap.specs.IndexMap.{insert_entry}
use Rattle.lsys_laws.proofs.Aparts.{bytes_eq_sym}
use Rattle.lsys_spec.specs.Edits.{put, put_hom, without_rule, without_hom}
use Rattle.lsys_bodies.specs.declared.rule.Rule.{Rule}
use Rattle.lsys_bodies.specs.declared.rule.HomRule.{HomRule}
use Rattle.lsys_bodies.specs.Views.{as_production, homomorphism_of}
use Rattle.lsys_rules.specs.InsideRules.{HaveOwnLabels}

abbrev pub values_of : {R : Type 0} → List (List ℕ × R) → List R
values_of es = map (λ e. e.1) es

module _ {R : Type 0} (label : R → List ℕ) where
  abbrev pub put_at : R → List R → List R
  put_at r [] = r ∷ []
  put_at r (q ∷ qs) = if bytes_eq (label q) (label r) then r ∷ qs else q ∷ put_at r qs

  abbrev pub without_at : List ℕ → List R → List R
  without_at l [] = []
  without_at l (q ∷ qs) = if bytes_eq (label q) l then qs else q ∷ without_at l qs

  swapped : (l : List ℕ) (e : List ℕ × R) → label e.1 ≡ e.0 → bytes_eq l e.0 ≡ bytes_eq (label e.1) l
  swapped l e own = bytes_eq_sym l e.0 ∙ ap (λ k. bytes_eq k l) (sym own)

  pub own_put : (es : List (List ℕ × R)) (r : R) → HaveOwnLabels label es → HaveOwnLabels label (insert_entry bytes_eq es (label r) r)
  own_put [] r own = (refl, tt)
  own_put (e ∷ es) r own = by (bytes_eq (label r) e.0) refl (own_put es r own.1)
    where
      by : (b : Bool) → bytes_eq (label r) e.0 ≡ b → HaveOwnLabels label (insert_entry bytes_eq es (label r) r)
          → HaveOwnLabels label (if b then (e.0, r) ∷ es else e ∷ insert_entry bytes_eq es (label r) r)
      by true h rest = ((bytes_eq-Decides (label r) e.0).0 h, own.1)
      by false h rest = (own.0, rest)

  pub own_removed : (es : List (List ℕ × R)) (l : List ℕ) → HaveOwnLabels label es → HaveOwnLabels label (remove_entry (bytes_eq l) es)
  own_removed [] l own = tt
  own_removed (e ∷ es) l own = by (bytes_eq l e.0) (own_removed es l own.1)
    where
      by : (b : Bool) → HaveOwnLabels label (remove_entry (bytes_eq l) es) → HaveOwnLabels label (cond b es (e ∷ remove_entry (bytes_eq l) es))
      by true rest = own.1
      by false rest = (own.0, rest)

  values_put : (es : List (List ℕ × R)) (r : R) → HaveOwnLabels label es → values_of (insert_entry bytes_eq es (label r) r) ≡ put_at r (values_of es)
  values_put [] r own = refl
  values_put (e ∷ es) r own = by (bytes_eq (label r) e.0) (bytes_eq (label e.1) (label r)) (swapped (label r) e own.0) (values_put es r own.1)
    where
      by : (b c : Bool) → b ≡ c → values_of (insert_entry bytes_eq es (label r) r) ≡ put_at r (values_of es)
          → values_of (if b then (e.0, r) ∷ es else e ∷ insert_entry bytes_eq es (label r) r) ≡ (if c then r ∷ values_of es else e.1 ∷ put_at r (values_of es))
      by true true h rest = refl
      by false false h rest = ap (λ t. e.1 ∷ t) rest
      by true false h rest = cc
      by false true h rest = cc

  pub values_removed : (es : List (List ℕ × R)) (l : List ℕ) → HaveOwnLabels label es → values_of (remove_entry (bytes_eq l) es) ≡ without_at l (values_of es)
  values_removed [] l own = refl
  values_removed (e ∷ es) l own = by (bytes_eq l e.0) (bytes_eq (label e.1) l) (swapped l e own.0) (values_removed es l own.1)
    where
      by : (b c : Bool) → b ≡ c → values_of (remove_entry (bytes_eq l) es) ≡ without_at l (values_of es)
          → values_of (cond b es (e ∷ remove_entry (bytes_eq l) es)) ≡ (if c then values_of es else e.1 ∷ without_at l (values_of es))
      by true true h rest = refl
      by false false h rest = ap (λ t. e.1 ∷ t) rest
      by true false h rest = cc
      by false true h rest = cc

-- productions

rules_put : (r : Rule) (qs : List Rule) → map as_production (put_at (λ q. q.label) r qs) ≡ put (as_production r) (map as_production qs)
rules_put r [] = refl
rules_put r (q ∷ qs) = by (bytes_eq q.label r.label) (rules_put r qs)
  where
    by : (b : Bool) → map as_production (put_at (λ q. q.label) r qs) ≡ put (as_production r) (map as_production qs) → map as_production (if b then r ∷ qs else q ∷ put_at (λ q. q.label) r qs)
        ≡ (if b then as_production r ∷ map as_production qs else as_production q ∷ put (as_production r) (map as_production qs))
    by true rest = refl
    by false rest = ap (λ t. as_production q ∷ t) rest

pub productions_put : (es : List (List ℕ × Rule)) (r : Rule) → HaveOwnLabels (λ q. q.label) es
    → map as_production (map (λ e. e.1) (insert_entry bytes_eq es r.label r)) ≡ put (as_production r) (map as_production (map (λ e. e.1) es))
productions_put es r own = ap (map as_production) (values_put (λ q. q.label) es r own) ∙ rules_put r (values_of es)

rules_without : (l : List ℕ) (qs : List Rule) → map as_production (without_at (λ q. q.label) l qs) ≡ without_rule l (map as_production qs)
rules_without l [] = refl
rules_without l (q ∷ qs) = by (bytes_eq q.label l) (rules_without l qs)
  where
    by : (b : Bool) → map as_production (without_at (λ q. q.label) l qs) ≡ without_rule l (map as_production qs) → map as_production (if b then qs else q ∷ without_at (λ q. q.label) l qs) ≡ (if b then map as_production qs else as_production q ∷ without_rule l (map as_production qs))
    by true rest = refl
    by false rest = ap (λ t. as_production q ∷ t) rest

pub productions_without : (es : List (List ℕ × Rule)) (l : List ℕ) → HaveOwnLabels (λ q. q.label) es
    → map as_production (map (λ e. e.1) (remove_entry (bytes_eq l) es)) ≡ without_rule l (map as_production (map (λ e. e.1) es))
productions_without es l own = ap (map as_production) (values_removed (λ q. q.label) es l own) ∙ rules_without l (values_of es)

-- rules of a homomorphism

homs_put : (r : HomRule) (qs : List HomRule) → map homomorphism_of (put_at (λ q. q.label) r qs) ≡ put_hom (homomorphism_of r) (map homomorphism_of qs)
homs_put r [] = refl
homs_put r (q ∷ qs) = by (bytes_eq q.label r.label) (homs_put r qs)
  where
    by : (b : Bool) → map homomorphism_of (put_at (λ q. q.label) r qs) ≡ put_hom (homomorphism_of r) (map homomorphism_of qs) → map homomorphism_of (if b then r ∷ qs else q ∷ put_at (λ q. q.label) r qs)
        ≡ (if b then homomorphism_of r ∷ map homomorphism_of qs else homomorphism_of q ∷ put_hom (homomorphism_of r) (map homomorphism_of qs))
    by true rest = refl
    by false rest = ap (λ t. homomorphism_of q ∷ t) rest

pub homomorphisms_put : (es : List (List ℕ × HomRule)) (r : HomRule) → HaveOwnLabels (λ q. q.label) es
    → map homomorphism_of (map (λ e. e.1) (insert_entry bytes_eq es r.label r)) ≡ put_hom (homomorphism_of r) (map homomorphism_of (map (λ e. e.1) es))
homomorphisms_put es r own = ap (map homomorphism_of) (values_put (λ q. q.label) es r own) ∙ homs_put r (values_of es)

homs_without : (l : List ℕ) (qs : List HomRule) → map homomorphism_of (without_at (λ q. q.label) l qs) ≡ without_hom l (map homomorphism_of qs)
homs_without l [] = refl
homs_without l (q ∷ qs) = by (bytes_eq q.label l) (homs_without l qs)
  where
    by : (b : Bool) → map homomorphism_of (without_at (λ q. q.label) l qs) ≡ without_hom l (map homomorphism_of qs) → map homomorphism_of (if b then qs else q ∷ without_at (λ q. q.label) l qs) ≡ (if b then map homomorphism_of qs else homomorphism_of q ∷ without_hom l (map homomorphism_of qs))
    by true rest = refl
    by false rest = ap (λ t. homomorphism_of q ∷ t) rest

pub homomorphisms_without : (es : List (List ℕ × HomRule)) (l : List ℕ) → HaveOwnLabels (λ q. q.label) es
    → map homomorphism_of (map (λ e. e.1) (remove_entry (bytes_eq l) es)) ≡ without_hom l (map homomorphism_of (map (λ e. e.1) es))
homomorphisms_without es l own = ap (map homomorphism_of) (values_removed (λ q. q.label) es l own) ∙ homs_without l (values_of es)
