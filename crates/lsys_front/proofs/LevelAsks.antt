-- Each node of a level that was made is asked, or its outcome is kept.
use Rattle.std.proofs.Common.{◌≡◌, ◌⊎◌, ◌↔◌, ℕ, Some, None, List, [], ◌∷◌, length, refl, ap, sym, ◌∙◌, subst, inl, inr}
use Rattle.std.specs.Prelude.{slice_get}
use Rattle.std.proofs.lemmas.Option.{same_Some}
use Rattle.lsys_spec.specs.Rows.{In}
use Rattle.lsys_spec.specs.Bodies.{Body, group}
use Rattle.lsys_spec.specs.Levels.{ModuleValue}
use Rattle.lsys_spec.specs.Questions.{questions, is_needed}
use Rattle.lsys_laws.specs.Passes.{module_question}
use Rattle.lsys_level.specs.Spots.{Seen, Push, Pop, Module, Spotted}
use Rattle.lsys_forest.specs.Rows.{spot_in, level_spots}
use Rattle.lsys_reads.specs.Levels.{IsAnsweredRight, AnsweredAt, level_of, answer_at}
use Rattle.lsys_reads.specs.Meant.{IsNeeded}
use Rattle.lsys_forest.specs.Pairs.{seen_at}
use Rattle.lsys_reads.proofs.LevelLemmas.{got_in}
use Rattle.lsys_front.specs.Repairs.{Repair, now, root, rest, are, SteppingSpots}
use Rattle.lsys_front.specs.Candidates.{AsksNow, IsCandidateNode}
use Rattle.lsys_front.proofs.Gathering.{not_both}
use Rattle.lsys_front.proofs.Nodes.{is_candidate, tag_is, seen_there}
use Rattle.lsys_front.proofs.Spots.{is_in, xs, is_level}
use Rattle.lsys_front.specs.Asks.{IsToAsk, IsUnasked}
use Rattle.lsys_front.proofs.Unasked.{none_kept, spot_now, unneeded, keeps_right}

one_module : (v w : ModuleValue) → Module v ≡ Module w → v ≡ w
one_module v w e = cc

module _ (r : Repair) (s : SteppingSpots r) (p k : ℕ) (there : slice_get (are r) p ≡ Some k) where
  abbrev row : List Spotted
  row = level_spots (now r) (root r) r.level

  -- what is needed is a candidate
  no_need : (IsCandidateNode r k → ⊥) → IsNeeded r.old r.new r.limit r.level (level_of (now r) (root r) r.level) p → ⊥
  no_need not_one n =
      let t = seen_there r s p k n.line n.own there n.stands in
      not_both (is_needed (questions r.old (xs r s)) (module_question r.new r.level (is_level r s) p n.line n.own)) n.is
      (ap (λ l. is_needed (questions r.old (xs r s)) (module_question r.new r.level (is_level r s) p l n.own)) t.0 ∙ unneeded r s p k there n.own t.1 n.rules not_one)

  abbrev IsSaid : Seen → Type 0
  IsSaid x = IsAnsweredRight r.new r.level row r.store p k x (answer_at (now r) k)

  said : IsSaid (seen_at (now r) k) → AnsweredAt r.new r.level (now r) (root r) r.store p k
  said h x e =
      let same : spot_in k (now r k) ≡ x = same_Some (spot_in k (now r k)) x (sym (spot_now r s p k there) ∙ e) in
      subst (λ (a : Spotted). IsAnsweredRight r.new r.level row r.store p a.tag a.seen (answer_at (now r) k)) same
      (subst (λ j. IsAnsweredRight r.new r.level row r.store p j (seen_at (now r) k) (answer_at (now r) k)) (sym (tag_is k (now r k))) h)

  answered : (AsksNow r k → answer_at (now r) k ≡ answer_at (rest r) k) → ((AsksNow r k → ⊥) → answer_at (now r) k ≡ None) → (IsCandidateNode r k → ⊥) → IsSaid (seen_at (now r) k)
  answered kept bare not_one = by (seen_at (now r) k) refl
    where
      by : (x : Seen) → seen_at (now r) k ≡ x → IsSaid x
      by Push e = bare (λ a. let n : Push ≡ Module a.own = sym e ∙ a.is in cc)
      by Pop e = bare (λ a. let n : Pop ≡ Module a.own = sym e ∙ a.is in cc)
      by (Module v) e = by_rules (group r.new r.level v.name (length v.params)) refl
        where
          by_rules : (bs : List Body) → group r.new r.level v.name (length v.params) ≡ bs → IsSaid (Module v)
          by_rules [] f =
              none_kept (group r.new r.level v.name (length v.params)) _ (answer_at (now r) k) f
              (bare (λ a. a.rules (ap (λ (w : ModuleValue). group r.new r.level w.name (length w.params)) (one_module a.own v (sym a.is ∙ e)) ∙ f)))
          by_rules (b ∷ bs) f =
              let rules : group r.new r.level v.name (length v.params) ≡ [] → ⊥ = λ g. let n : b ∷ bs ≡ [] = sym f ∙ g in cc in
              keeps_right r s p k there v e rules not_one (answer_at (now r) k) (kept (record { own = v; is = e; rules = rules }))

pub asks_level : (r : Repair) (pending : List ℕ) → SteppingSpots r
    → ((k : ℕ) → In k (are r) → AsksNow r k → answer_at (now r) k ≡ answer_at (rest r) k)
    → ((k : ℕ) → In k (are r) → (AsksNow r k → ⊥) → answer_at (now r) k ≡ None)
    → ((k : ℕ) → In k pending ↔ (In k (are r) × IsCandidateNode r k))
    → (p k : ℕ) → slice_get (are r) p ≡ Some k → IsToAsk r pending p k ⊎ IsUnasked r pending p k
asks_level r pending s kept bare is p k there = elim (is_in k pending) [
  | inl i ↦ (let c = ((is k).0 i).1 in
      inl (record { among = i; candidate = is_candidate r s p k there c; same = kept k (got_in (are r) p k there) c.asks }))
  | inr n ↦ (let h = got_in (are r) p k there in
      let not_one : IsCandidateNode r k → ⊥ = λ c. n ((is k).1 (h, c)) in
      inr (record { done = n; answered = said r s p k there (answered r s p k there (kept k h) (bare k h) not_one); unneeded = no_need r s p k there not_one }))
]
