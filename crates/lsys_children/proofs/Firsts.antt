-- The first level of nodes.
use Rattle.std.proofs.Common.{◌≡◌, ◌<◌, ◌≤◌, ℕ, true, map, Some, Ok, [], ◌∷◌, length, refl, sym, ap, ◌∙◌, subst, arith}
use Rattle.std.specs.Prelude.{slice_get, get_or}
use Rattle.std.proofs.lemmas.List.{length-map}
use Rattle.std.proofs.lemmas.List.Sums.{sum_by-cons}
use Rattle.lsys_spec.specs.Draws.{key_of}
use Rattle.lsys_spec.specs.Systems.{System, WellSpelled}
use Rattle.lsys_spec.specs.Levels as L
use Rattle.lsys_spec.specs.Levels.{level_balanced}
use Rattle.lsys_spec.specs.Cuts.{cut}
use Rattle.lsys_spec.specs.Meaning.{children, first_level, meaning_to}
use Rattle.lsys_laws.specs.Nodes.{AreOnce, kin_depth, lineage_in}
use Rattle.lsys_laws.proofs.UpTo.{grown_to}
use Rattle.lsys_level.specs.Spots.{Spotted, level_by}
use Rattle.lsys_forest.specs.Nodes.{Nodes}
use Rattle.lsys_forest.specs.Rows.{kids_in, spot_in, level_nodes, level_spots}
use Rattle.lsys_match.specs.Kept.{Kept}
use Rattle.lsys_reads.specs.Lineages.{kins, names}
use Rattle.lsys_reads.specs.Levels.{level_of, HaveLevels}
use Rattle.lsys_reads.specs.Meant.{levels_or_none, meant_to}
use Rattle.lsys_children.specs.Nexts.{node_symbol, HasWanted}
use Rattle.lsys_children.proofs.Nexts.{level_symbols, tag_of, spot_of, balance_by, within}

module _ {A : Type 0} where
  pub name_root : (m : Nodes A) (root : ℕ) → AreOnce (kins m) root → names m root ≡ []
  name_root m root once = let r = once.root_lives in ap (λ d. lineage_in (kins m) d root) (ap kin_depth r.1 ∙ r.2)

pub first : (s : System) (m : Nodes Kept) (root : ℕ) → AreOnce (kins m) root → HasWanted s.numbering s.seed m root s.axiom_string → level_of m root 0 ≡ first_level s
first s m root once h = level_symbols m (kids_in (m root)) ∙ h.symbols ∙ ap (λ l. cut (children s.numbering l s.axiom_string)) (name_root m root once)

module _ (s : System) (limit : ℕ) (m : Nodes Kept) (root : ℕ) (once : AreOnce (kins m) root) (h : HasWanted s.numbering s.seed m root s.axiom_string) where
  is : level_of m root 0 ≡ first_level s
  is = first s m root once h

  long : length (first_level s) ≡ length (level_nodes m root 0)
  long = ap length (sym is ∙ level_symbols m (kids_in (m root))) ∙ length-map (kids_in (m root)) (node_symbol m)

  meant_first : length (level_nodes m root 0) ≤ limit → meaning_to s limit 0 ≡ Ok (first_level s ∷ [])
  meant_first l = within limit 0 (first_level s ∷ []) (omega (arith, sum_by-cons (length {A = L.LevelSymbol}) (first_level s) [], long, l))

  is_first : length (level_nodes m root 0) ≤ limit → meant_to s limit 0 ≡ first_level s ∷ []
  is_first l = ap levels_or_none (meant_first l)

  pub first_meant : length (level_nodes m root 0) ≤ limit → meaning_to s limit 0 ≡ Ok (meant_to s limit 0)
  first_meant l = meant_first l ∙ ap Ok (sym (is_first l))

  only : (u : ℕ) → u < 1 → u ≡ 0
  only u l = omega (arith, l)

  levels_first : WellSpelled s → length (level_nodes m root 0) ≤ limit → HaveLevels m root s.seed (meant_to s limit 0)
  levels_first spelled l = subst (HaveLevels m root s.seed) (sym (is_first l)) (record {
    each = λ u i. subst (λ u. level_of m root u ≡ get_or (first_level s ∷ []) u []) (sym (only u i)) is;
    keys = λ u p a i g. (
        let there : slice_get (map (λ k. spot_in k (m k)) (kids_in (m root))) p ≡ Some a = ap (λ u. slice_get (level_spots m root u) p) (sym (only u i)) ∙ g in
        let k = spot_of m (kids_in (m root)) p a there in
        ap (λ (a : Spotted). a.key) (sym k.2) ∙ h.keys k.0 k.1 ∙ ap (λ k. key_of s.seed (names m k)) (sym (tag_of k.0 (m k.0)) ∙ ap (λ (a : Spotted). a.tag) k.2)
        );
    balanced = λ u i. subst (λ u. level_balanced 0 (level_by (λ tag. []) (level_spots m root u)) ≡ true) (sym (only u i))
        (balance_by (λ tag. []) (names m) 0 (level_spots m root 0) ∙ ap (level_balanced 0) is ∙ (grown_to s limit 0 (first_level s ∷ []) spelled (meant_first l) 0 (first_level s) refl).balanced);
  })

pub first_levels : (s : System) (limit : ℕ) (m : Nodes Kept) (root : ℕ) → WellSpelled s → AreOnce (kins m) root → HasWanted s.numbering s.seed m root s.axiom_string → length (level_nodes m root 0) ≤ limit
    → HaveLevels m root s.seed (meant_to s limit 0)
first_levels s limit m root spelled once h l = levels_first s limit m root once h spelled l
