-- What a round found out is kept.
use Rattle.std.proofs.Common.{◌≡◌, ◌+◌, ◌≤◌, ℕ, zero, suc, Option, Result, List, [], ◌∷◌, length, map, set, refl, ap, subst}
use Rattle.std.specs.Prelude.{OnOk}
use Rattle.lsys_spec.specs.Systems.{System}
use Rattle.lsys_spec.specs.Levels.{LevelSymbol}
use Rattle.lsys_level.specs.Spots.{Spotted, spots_at}
use Rattle.lsys_walks.specs.Stores.{Store}
use Rattle.lsys_match.specs.Kept.{Kept}
use Rattle.lsys_rewrite.specs.declared.refusal.DeriveRefusal.{DeriveRefusal}
use Rattle.lsys_flat.specs.declared.level.Level.{Level}
use Rattle.lsys_flat.specs.Revised.{Revised}
use Rattle.lsys_flat.specs.Slots.{filled_slots}
use Rattle.lsys_flat.specs.Rounds.{AreNew, IsAt, IsRound, ShowsLevel, Rounded, answers_told, inquiry}
use Rattle.lsys_flat.specs.Grown.{IsFinished}
use Rattle.lsys_flat.specs.Drafts.{Drafted, HasAsked}

pub map_set : {A B : Type 0} (f : A → B) (xs : List A) (i : ℕ) (x : A) → map f (set xs i x) ≡ set (map f xs) i (f x)
map_set f [] i x = refl
map_set f (y ∷ xs) zero x = refl
map_set f (y ∷ xs) (suc i) x = ap (λ ys. f y ∷ ys) (map_set f xs i x)

module _ {A : Type 0} (s : System) (t : ℕ) (kept olds : List (Option Kept)) (before after : Store) (v w a b room : ℕ) (old now : Drafted) (done : Result A DeriveRefusal) (next : Option Level) (rounded : Rounded) (view : List (List Spotted)) (mates : List (Option ℕ))
    (seen : view ≡ old.revised.view) (paired : mates ≡ old.revised.mates) (same : olds ≡ kept) (roomy : room ≡ old.room) where
  pub has_asked : now ≡ record old { fresh = set old.fresh t rounded.fresh; taken = set old.taken t rounded.taken; asked = old.asked + filled_slots rounded.fresh; all = old.all + rounded.questions }
      → ((naming : ℕ → List ℕ) (x : List LevelSymbol) → ShowsLevel naming s.seed (spots_at view t) x → IsRound (inquiry s t (spots_at view t) x (answers_told before olds) mates) after rounded v w done) → OnOk done (IsAt (length (spots_at view t)) rounded)
      → IsFinished rounded.next.grown next → OnOk done (rounded.next.grown.room ≡ room) → AreNew before after rounded.fresh → length rounded.fresh ≤ length (spots_at view t) → b ≡ a + filled_slots rounded.fresh
      → HasAsked s t kept before after v w a b old now done next
  has_asked is round whole finished fits new each counted = record {
    rounded = rounded;
    is = is;
    round =
        subst (λ view. (naming : ℕ → List ℕ) (x : List LevelSymbol) → ShowsLevel naming s.seed (spots_at view t) x → IsRound (inquiry s t (spots_at view t) x (answers_told before kept) old.revised.mates) after rounded v w done) seen
        (subst (λ mates. (naming : ℕ → List ℕ) (x : List LevelSymbol) → ShowsLevel naming s.seed (spots_at view t) x → IsRound (inquiry s t (spots_at view t) x (answers_told before kept) mates) after rounded v w done) paired
        (subst (λ olds. (naming : ℕ → List ℕ) (x : List LevelSymbol) → ShowsLevel naming s.seed (spots_at view t) x → IsRound (inquiry s t (spots_at view t) x (answers_told before olds) mates) after rounded v w done) same round));
    whole = subst (λ view. OnOk done (IsAt (length (spots_at view t)) rounded)) seen whole;
    finished = finished;
    room = subst (λ room. OnOk done (rounded.next.grown.room ≡ room)) roomy fits;
    new_answers = new;
    each = subst (λ view. length rounded.fresh ≤ length (spots_at view t)) seen each;
    counted = counted;
  }

pub kept_is : (old : Drafted) (r : Revised) (fresh fresh_now : List (List (Option Kept))) (taken taken_now : List (List (Option ℕ))) (room asked all n q t : ℕ) (rounded : Rounded) → record { revised = r; fresh = fresh; taken = taken; room = room; asked = asked; all = all } ≡ old
    → fresh_now ≡ set fresh t rounded.fresh → taken_now ≡ set taken t rounded.taken → n ≡ filled_slots rounded.fresh → q ≡ rounded.questions
    → record { revised = r; fresh = fresh_now; taken = taken_now; room = room; asked = asked + n; all = all + q } ≡ record old { fresh = set old.fresh t rounded.fresh; taken = set old.taken t rounded.taken; asked = old.asked + filled_slots rounded.fresh; all = old.all + rounded.questions }
kept_is old r fresh fresh_now taken taken_now room asked all n q t rounded is f k e m =
    subst (λ (old : Drafted). record { revised = r; fresh = fresh_now; taken = taken_now; room = room; asked = asked + n; all = all + q } ≡ record old { fresh = set old.fresh t rounded.fresh; taken = set old.taken t rounded.taken; asked = old.asked + filled_slots rounded.fresh; all = old.all + rounded.questions }) is
    (λ i. record { revised = r; fresh = f i; taken = k i; room = room; asked = asked + e i; all = all + m i })
