-- A symbol of a level that is seen by some naming: what becomes of it, and of the round.
use Rattle.std.proofs.Common.{◌≡◌, ℕ, suc, ◌+◌, ◌<◌, ◌≤◌, Option, Some, None, Result, Ok, Err, List, [], ◌∷◌, ◌++◌, length, refl, sym, ap, ◌∙◌, subst, arith}
use Rattle.std.specs.Prelude.{slice_get}
use Rattle.lsys_spec.specs.Meaning.{replacement}
use Rattle.lsys_spec.specs.Draws.{key_of}
use Rattle.lsys_spec.specs.Systems.{System}
use Rattle.lsys_spec.specs.Levels.{LevelSymbol, ModuleValue, lineage}
use Rattle.lsys_spec.specs.Questions.{questions_at}
use Rattle.lsys_level.specs.Spots.{Spotted, level_by, seen_by}
use Rattle.lsys_walks.specs.Stores.{Store}
use Rattle.lsys_match.specs.Kept.{Kept}
use Rattle.lsys_match.specs.Asks.{IsNamedAt, by_definition}
use Rattle.lsys_match.specs.TagQuestions.{TagAnswer}
use Rattle.lsys_match.specs.declared.refusal.AskRefusal.{AskRefusal}
use Rattle.lsys_rewrite.specs.declared.refusal.DeriveRefusal.{DeriveRefusal}
use Rattle.lsys_flat.specs.declared.found.SymbolAnswer.{SymbolAnswer}
use Rattle.lsys_flat.specs.Replaced.{IsSymbolAt, IsAsked, IsRecalled, IsReplaced, KeepsFound}
use Rattle.lsys_laws.specs.KeptQuestions.{question_here}
use Rattle.lsys_flat.specs.Slots.{slot_by_place, slot_where_told}
use Rattle.lsys_flat.specs.Rounds.{AreMadeAt, AreNew, AskedTo, ReadsAtMost, IsAt, IsNoRound, ShowsLevel, Replaces, Rounded, entries_of, derive_refusal_at, settled, string_found, answers_told, inquiry}
use Rattle.lsys_flat.proofs.Seen.{symbol_there, row_length}
use Rattle.lsys_flat.proofs.Entries.{entries_if, read_ok}
use Rattle.lsys_flat.proofs.Going.{goes}
use Rattle.lsys_flat.proofs.Refusing.{bounded, refused, symbol_at}

module _ (L : Type 0) (s : System) (t : ℕ) (row : List Spotted) (mates : List (Option ℕ)) (olds : List (Option Kept)) (begin mid after : Store) (v0 v w p : ℕ) (r now : Rounded) (old : Option Kept) (naming : ℕ → List ℕ) (x : List LevelSymbol)
    (is : ShowsLevel naming s.seed row x) (within : p < length row) (h : AskedTo (inquiry s t row x (answers_told begin olds) mates) mid r v0 v p) where
  at : (a : LevelSymbol) × (slice_get x p ≡ Some a)
  at = symbol_at x p (omega (arith, within, row_length naming s.seed row x is))

  pub round_refused : (e : AskRefusal) (n : ℕ) (result : DeriveRefusal) → result ≡ derive_refusal_at t n e → n ≡ r.modules
      → ((naming : ℕ → List ℕ) (a : LevelSymbol) → IsSymbolAt naming s.seed row p a → IsReplaced {L = L} (replacement s t (level_by naming row) p a) a old (Err e))
      → ((naming : ℕ → List ℕ) (a : LevelSymbol) → IsSymbolAt naming s.seed row p a → IsAsked {L = L} (question_here s t (level_by naming row) p a) v w (Err e))
      → IsNoRound s t x v0 w result
  round_refused e n result told_as same replaced asked =
      let here = symbol_there naming s.seed row x p at.0 is at.1 in
      subst (IsNoRound s t x v0 w) (sym (told_as ∙ ap (λ n. derive_refusal_at t n e) same))
      (refused s t row x (answers_told begin olds) mates mid after r now v0 v w p h L at.0 old e at.1 (subst (λ x. IsReplaced {L = L} (replacement s t x p at.0) at.0 old (Err e)) is.string (replaced naming at.0 here))
      (subst (λ x. IsAsked {L = L} (question_here s t x p at.0) v w (Err e)) is.string (asked naming at.0 here)))

  pub round_wanting : (f : SymbolAnswer L) → ((naming : ℕ → List ℕ) (a : LevelSymbol) → IsSymbolAt naming s.seed row p a → IsAsked (question_here s t (level_by naming row) p a) v w (Ok f)) → ReadsAtMost (entries_of (questions_at s t x)) v0 w
  round_wanting f asked =
      let here = symbol_there naming s.seed row x p at.0 is at.1 in
      let read = read_ok (question_here s t x p at.0) v w f (subst (λ x. IsAsked (question_here s t x p at.0) v w (Ok f)) is.string (asked naming at.0 here)) in
      bounded s t row x (answers_told begin olds) mates mid after r now v0 v w p h at.0 at.1 (omega (arith, read), omega (arith, read))

  pub round_goes : (f : SymbolAnswer L) (opened : Rounded) → IsAt p r → opened ≡ record r { fresh = r.fresh ++ None ∷ []; taken = r.taken ++ None ∷ [] } → old ≡ slot_where_told olds (slot_by_place mates p) → AreMadeAt begin olds → AreNew begin mid r.fresh
      → ((naming : ℕ → List ℕ) (a : LevelSymbol) → IsSymbolAt naming s.seed row p a → IsReplaced (replacement s t (level_by naming row) p a) a old (Ok f))
      → ((naming : ℕ → List ℕ) (tag : ℕ) (m : ModuleValue) → IsNamedAt naming s.seed row p tag m → IsRecalled naming (by_definition s t (level_by naming row) p (naming tag) m) after old (Ok f))
      → ((naming : ℕ → List ℕ) (a : LevelSymbol) → IsSymbolAt naming s.seed row p a → IsAsked (question_here s t (level_by naming row) p a) v w (Ok f)) → KeepsFound mid after old (Ok f)
      → ((b : Spotted) → slice_get row p ≡ Some b → Replaces b.key (string_found b.seen old f) opened.next now.next)
      → ((b : Spotted) → slice_get row p ≡ Some b → now ≡ settled p b.seen (slot_by_place mates p) f now.next opened) → AskedTo (inquiry s t row x (answers_told begin olds) mates) after now v0 w (p + 1)
  round_goes f opened place is_opened is_old made new replaced answered asked keeps replaces settles =
      let here = symbol_there naming s.seed row x p at.0 is at.1 in
      let string : level_by naming row ≡ x = is.string in
      let there : slice_get (level_by naming row) p ≡ Some at.0 = ap (λ x. slice_get x p) string ∙ at.1 in
      let one = replaces (record { seen = seen_by at.0; tag = here.tag; key = key_of s.seed (lineage at.0) }) here.here in
      let two = settles (record { seen = seen_by at.0; tag = here.tag; key = key_of s.seed (lineage at.0) }) here.here in
      let next : opened.next ≡ r.next = ap (λ (r : Rounded). r.next) is_opened in
      subst (λ x. AskedTo (inquiry s t row x (answers_told begin olds) mates) after now v0 w (p + 1)) string
      (goes {L = L} s t row mates olds begin mid after v0 v w p r now old f naming at.0 here there place is_old made new (replaced naming at.0 here) answered (asked naming at.0 here) keeps
      (subst (λ g. Replaces (key_of s.seed (lineage at.0)) (string_found (seen_by at.0) old f) g now.next) next one) (two ∙ ap (settled p (seen_by at.0) (slot_by_place mates p) f now.next) is_opened)
      (subst (λ x. AskedTo (inquiry s t row x (answers_told begin olds) mates) mid r v0 v p) (sym string) h))
