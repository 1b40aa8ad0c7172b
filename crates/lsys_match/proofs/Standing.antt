-- The tags that a trace names stand in its level.
use Rattle.std.proofs.Common.{◌≡◌, ℕ, Bool, true, false, ◌==◌, cond, Option, Some, None, List, [], ◌∷◌, ◌++◌, length, map, refl, sym, ap, ◌∙◌, subst, arith, eq-eqb, inl, inr, length-append}
use Rattle.std.specs.Prelude.{slice_get, option_map}
use Rattle.std.proofs.lemmas.Bool.{eqb-true}
use Rattle.std.proofs.lemmas.Option.{slice_get-map}
use Rattle.lsys_spec.specs.Systems.{System, Each}
use Rattle.lsys_spec.specs.Bodies.{Body}
use Rattle.lsys_spec.specs.Levels.{ModuleValue, lineage}
use Rattle.lsys_spec.specs.Walks.{lineages_named}
use Rattle.lsys_spec.specs.LevelLaws.{StandsIn}
use Rattle.lsys_spec.proofs.Answered.{trace_present}
use Rattle.lsys_level.specs.Spots.{Seen, Push, Pop, Module, Spotted, with_lineage, named, level_by}
use Rattle.lsys_walks.specs.Noted.{Noted, Compared, Ignored, Out, Branched, entry_by}
use Rattle.lsys_walks.specs.Agreements.{Names, HasTag, AgreeTags}
use Rattle.lsys_laws.proofs.Lineages.{last_number}
use Rattle.lsys_match.specs.Traced.{IsOwn, IsTraceAt}
use Rattle.lsys_level.specs.Tags.{StandsThere, NamesTell}

-- 1. what an entry names

line_in : (naming : ℕ → List ℕ) (P : List ℕ → Type 0) (k : ℕ) (n : Noted) → Names k n → Each P (lineages_named (entry_by naming n)) → P (naming k)
line_in naming P k (Compared d t m) e h = subst (λ t. P (naming t)) (sym e) h.0
line_in naming P k (Ignored d t m) e h = subst (λ t. P (naming t)) (sym e) h.0
line_in naming P k (Out d t) e h = subst (λ t. P (naming t)) (sym e) h.0
line_in naming P k (Branched d o c) (inl e) h = subst (λ t. P (naming t)) (sym e) h.0
line_in naming P k (Branched d o c) (inr e) h = subst (λ t. P (naming t)) (sym e) h.1.0

lines_in : (naming : ℕ → List ℕ) (P : List ℕ → Type 0) (k : ℕ) (ns : List Noted) → HasTag k ns → Each (λ e. Each P (lineages_named e)) (map (entry_by naming) ns) → P (naming k)
lines_in naming P k [] i h = absurd i
lines_in naming P k (n ∷ ns) (inl e) h = line_in naming P k n e h.0
lines_in naming P k (n ∷ ns) (inr i) h = lines_in naming P k ns i h.1

-- 2. a naming under which each tag has a lineage of its own: that of the module, and longer ones

pub apart_by : ℕ → List ℕ → ℕ → List ℕ
apart_by tag line k = cond (k == tag) line (line ++ k ∷ [])

pub own_line : (tag : ℕ) (line : List ℕ) → apart_by tag line tag ≡ line
unfolding apart_by
own_line tag line = ap (λ b. cond b line (line ++ tag ∷ [])) (eq-eqb tag tag refl)

longer : (line : List ℕ) (k : ℕ) → line ≡ line ++ k ∷ [] → ⊥
longer line k e = omega (arith, ap length e, length-append line (k ∷ []))

pub apart : (tag : ℕ) (line : List ℕ) (j k : ℕ) → apart_by tag line j ≡ apart_by tag line k → j ≡ k
unfolding apart_by
apart tag line j k e = by (j == tag) (k == tag) refl refl e
  where
    by : (b c : Bool) → j == tag ≡ b → k == tag ≡ c → cond b line (line ++ j ∷ []) ≡ cond c line (line ++ k ∷ []) → j ≡ k
    by true true f g e = eqb-true j tag f ∙ sym (eqb-true k tag g)
    by true false f g e = absurd (longer line k e)
    by false true f g e = absurd (longer line j (sym e))
    by false false f g e = (last_number line line j k e).1

-- 3. so what stands in the level by that naming is the tag itself

lineage_of : (l : List ℕ) (s : Seen) → lineage (with_lineage l s) ≡ l
lineage_of l Push = refl
lineage_of l Pop = refl
lineage_of l (Module m) = refl

there : (naming : ℕ → List ℕ) (k : ℕ) (row : List Spotted) → ((j : ℕ) → naming j ≡ naming k → j ≡ k) → StandsIn (level_by naming row) (naming k) → StandsThere k row
there naming k row f h = by (slice_get row h.0) refl (sym (slice_get-map (named naming) row h.0) ∙ h.2)
  where
    by : (o : Option Spotted) → slice_get row h.0 ≡ o → option_map (named naming) (slice_get row h.0) ≡ Some h.1 → StandsThere k row
    by None e g = let no : None ≡ Some h.1 = sym (ap (option_map (named naming)) e) ∙ g in cc
    by (Some s) e g =
        let same : Some (named naming s) ≡ Some h.1 = sym (ap (option_map (named naming)) e) ∙ g in
        let is : with_lineage (naming s.tag) s.seen ≡ h.1 = cc in
        record { place = h.0; spot = s; there = e; is = f s.tag (sym (lineage_of (naming s.tag) s.seen) ∙ ap lineage is ∙ h.3) }

pub stands_there : (s : System) (t : ℕ) (bs : List Body) (row : List Spotted) (p tag : ℕ) (m : ModuleValue) (trace : List Noted) → IsTraceAt s t bs row p tag m trace → (k : ℕ) → HasTag k trace → StandsThere k row
stands_there s t bs row p tag m trace h k i =
    let own : IsOwn s.seed row p tag m (apart_by tag h.line tag) = subst (IsOwn s.seed row p tag m) (sym (own_line tag h.line)) h.here in
    there (apart_by tag h.line) k row (λ j e. apart tag h.line j k e)
    (lines_in (apart_by tag h.line) (StandsIn (level_by (apart_by tag h.line) row)) k trace i
    (subst (λ es. Each (λ e. Each (StandsIn (level_by (apart_by tag h.line) row)) (lineages_named e)) es) (sym (h.told (apart_by tag h.line) own))
    (trace_present s t bs (level_by (apart_by tag h.line) row) p (apart_by tag h.line tag) m)))

-- 4. equal by tags, equal by names
pub tags_agree : (old new : System) (t : ℕ) (bs cs : List Body) (x y : List Spotted) (p q tag tag' : ℕ) (m n : ModuleValue) (a b : List Noted) (naming : ℕ → List ℕ)
    → IsTraceAt old t bs x p tag m a → IsTraceAt new t cs y q tag' n b → NamesTell naming x y → AgreeTags naming naming a b
tags_agree old new t bs cs x y p q tag tag' m n a b naming h g f k j i l =
    (λ e. ap naming e, λ e. f k j (stands_there old t bs x p tag m a h k i) (stands_there new t cs y q tag' n b g j l) e)
