-- Where a module and what was read for it aren't disturbed, its question and its choice are the same; and a question tells its choice.
use Rattle.std.proofs.Common.{◌≡◌, ℕ, ◌+◌, ◌<◌, ◌≤◌, true, ◌||◌, Option, Some, List, length, take, refl, ap, sym, ◌∙◌, subst, arith, ◌⊎◌, inl, inr}
use Rattle.std.specs.Prelude.{slice_get}
use Rattle.std.proofs.lemmas.Bool.{cases_lt}
use Rattle.lsys_spec.specs.Systems.{System, Each}
use Rattle.lsys_spec.specs.Bodies.{Body, group, filter}
use Rattle.lsys_spec.specs.Levels.{ModuleValue, LevelSymbol, Module, lineage, IsLevel, way, items_from}
use Rattle.lsys_spec.specs.Walks.{Entry, Told}
use Rattle.lsys_spec.specs.Choice.{TooFar, Choice, Failed, Asking, choice}
use Rattle.lsys_spec.specs.Meaning.{key_for, most_entries, asking, asked, successor, successor_by}
use Rattle.lsys_spec.specs.Questions.{Question, question}
use Rattle.lsys_spec.specs.Standings.{Settled, free, same_filter}
use Rattle.lsys_spec.proofs.Carries.{Same}
use Rattle.lsys_spec.proofs.Alike.{Settles}
use Rattle.lsys_spec.proofs.Law.{alike_around}
use Rattle.lsys_spec.proofs.Groups.{choice_carries, choice_far}
use Rattle.lsys_spec.proofs.GroupTells.{told_choice}
use Rattle.lsys_spec.proofs.Free.{choice_same}

-- what is told at a place
abbrev told_at : Asking → Option ℕ → List LevelSymbol → ℕ → List Body → Told Choice
told_at a key x p bs = choice a key (way x p) (items_from x (p + 1)) bs

record SameTold (most : ℕ) (t t' : Told Choice) : Type 0 where
  pub trace : take (most + 1) t'.entries ≡ take (most + 1) t.entries
  pub choice : t'.answer ≡ t.answer

same_told : (x y : List LevelSymbol) → IsLevel x → IsLevel y → (p q : ℕ) (s : LevelSymbol) → slice_get x p ≡ Some s → slice_get y q ≡ Some s → Settled x y (lineage s)
    → (a : Asking) (key : Option ℕ) (bs : List Body) → Each (Settles (Settled x y)) (take (a.most + 1) (told_at a key x p bs).entries)
    → SameTold a.most (told_at a key x p bs) (told_at a key y q bs)
same_told x y lx ly p q s h g e a key bs all = by (cases_lt (a.most + 1) (length t.entries))
  where
    t : Told Choice
    t = told_at a key x p bs

    t' : Told Choice
    t' = told_at a key y q bs

    same : Same Choice (a.most + 1) t t'
    same =
        let around = alike_around x y lx ly p q s h g e in
        choice_carries (Settled x y) a key (way x p) (way y q) (items_from x (p + 1)) (items_from y (q + 1)) around.0 around.1 bs (a.most + 1) all

    by : (a.most + 1 < length t.entries) ⊎ (length t.entries ≤ a.most + 1) → SameTold a.most t t'
    by (inl l) =
        let m = same.long l in
        let far : t.answer ≡ Failed TooFar = choice_far a key (way x p) (items_from x (p + 1)) bs (omega (arith, l)) in
        let far' : t'.answer ≡ Failed TooFar = choice_far a key (way y q) (items_from y (q + 1)) bs (omega (arith, m.1)) in
        record { trace = m.0; choice = far' ∙ sym far }
    by (inr l) =
        let e : t' ≡ t = same.short l in
        record { trace = ap (λ (u : Told Choice). take (a.most + 1) u.entries) e; choice = ap (λ (u : Told Choice). u.answer) e }

same_asked : (old new : System) (t : ℕ) (bs : List Body) (x y : List LevelSymbol) (p q : ℕ) (l : List ℕ) (m : ModuleValue)
    → IsLevel x → IsLevel y → slice_get x p ≡ Some (Module l m) → slice_get y q ≡ Some (Module l m) → Settled x y l
    → key_for new l bs ≡ key_for old l bs → free bs || same_filter (filter old t) (filter new t) ≡ true
    → Each (Settles (Settled x y)) (take (most_entries + 1) (asked old t bs x p l m).entries) → SameTold most_entries (asked old t bs x p l m) (asked new t bs y q l m)
same_asked old new t bs x y p q l m lx ly h g e k i all =
    let a : Asking = asking old t m in
    let key : Option ℕ = key_for old l bs in
    let same : SameTold most_entries (told_at a key x p bs) (told_at a key y q bs) = same_told x y lx ly p q (Module l m) h g e a key bs all in
    let moved : told_at (asking new t m) (key_for new l bs) y q bs ≡ told_at a key y q bs
    = ap (λ k. told_at (asking new t m) k y q bs) k ∙ choice_same a key (filter old t) (filter new t) (way y q) (items_from y (q + 1)) bs refl i in
    subst (SameTold most_entries (told_at a key x p bs)) (sym moved) same

pub record IsSame (old new : System) (t : ℕ) (bs : List Body) (x y : List LevelSymbol) (p q : ℕ) (l : List ℕ) (m : ModuleValue) : Type 0 where
  pub same_question : question new t bs y q l m ≡ question old t bs x p l m
  pub same_choice : (asked new t bs y q l m).answer ≡ (asked old t bs x p l m).answer

-- the law
pub same_at : (old new : System) (t : ℕ) (bs : List Body) (x y : List LevelSymbol) (p q : ℕ) (l : List ℕ) (m : ModuleValue)
    → IsLevel x → IsLevel y → slice_get x p ≡ Some (Module l m) → slice_get y q ≡ Some (Module l m) → Settled x y l
    → key_for new l bs ≡ key_for old l bs → free bs || same_filter (filter old t) (filter new t) ≡ true
    → Each (Settles (Settled x y)) (question old t bs x p l m).trace → IsSame old new t bs x y p q l m
same_at old new t bs x y p q l m lx ly h g e k i all =
    let s : SameTold most_entries (asked old t bs x p l m) (asked new t bs y q l m) = same_asked old new t bs x y p q l m lx ly h g e k i all in
    let of = λ (key : Option ℕ) (es : List Entry). let r : Question = record { level = t; own = Module l m; bodies = bs; key = key; trace = es } in r in
    record { same_question = ap (λ key. of key (question new t bs y q l m).trace) k ∙ ap (of (key_for old l bs)) s.trace; same_choice = s.choice }

-- the converse

same_parts : (old new : System) (t t' : ℕ) (bs : List Body) (x y : List LevelSymbol) (p q : ℕ) (l l' : List ℕ) (m : ModuleValue) → key_for old l bs ≡ key_for new l' bs
    → take (most_entries + 1) (asked old t bs x p l m).entries ≡ take (most_entries + 1) (asked new t' bs y q l' m).entries → (asked old t bs x p l m).answer ≡ (asked new t' bs y q l' m).answer
same_parts old new t t' bs x y p q l l' m k e =
    told_choice (asking old t m) (asking new t' m) (key_for old l bs) (way x p) (way y q) (items_from x (p + 1)) (items_from y (q + 1)) bs refl
    (e ∙ ap (λ key. take (most_entries + 1) (told_at (asking new t' m) key y q bs).entries) (sym k))
    ∙ ap (λ key. (told_at (asking new t' m) key y q bs).answer) k

own_module : (l l' : List ℕ) (m m' : ModuleValue) → Module l m ≡ Module l' m' → m ≡ m'
own_module l l' m m' e = cc

pub choice_told : (old new : System) (t t' : ℕ) (bs bs' : List Body) (x y : List LevelSymbol) (p q : ℕ) (l l' : List ℕ) (m m' : ModuleValue)
    → question old t bs x p l m ≡ question new t' bs' y q l' m' → (asked old t bs x p l m).answer ≡ (asked new t' bs' y q l' m').answer
choice_told old new t t' bs bs' x y p q l l' m m' e =
    let b : bs ≡ bs' = ap (λ (r : Question). r.bodies) e in
    let i : m ≡ m' = own_module l l' m m' (ap (λ (r : Question). r.own) e) in
    let back : question new t' bs' y q l' m' ≡ question new t' bs y q l' m = ap (λ b. question new t' b y q l' m') (sym b) ∙ ap (question new t' bs y q l') (sym i) in
    let f : question old t bs x p l m ≡ question new t' bs y q l' m = e ∙ back in
    same_parts old new t t' bs x y p q l l' m (ap (λ (r : Question). r.key) f) (ap (λ (r : Question). r.trace) f)
    ∙ ap (λ b. (asked new t' b y q l' m).answer) b ∙ ap (λ m. (asked new t' bs' y q l' m).answer) i

pub successor_told : (old new : System) (t t' : ℕ) (x y : List LevelSymbol) (p q : ℕ) (l l' : List ℕ) (m m' : ModuleValue)
    → question old t (group old t m.name (length m.params)) x p l m ≡ question new t' (group new t' m'.name (length m'.params)) y q l' m'
    → successor old t x p l m ≡ successor new t' y q l' m'
successor_told old new t t' x y p q l l' m m' e =
    let bs : List Body = group old t m.name (length m.params) in
    let bs' : List Body = group new t' m'.name (length m'.params) in
    ap (successor_by bs m) (choice_told old new t t' bs bs' x y p q l l' m m' e)
    ∙ ap (λ b. successor_by b m (asked new t' bs' y q l' m').answer) (ap (λ (r : Question). r.bodies) e)
    ∙ ap (λ m. successor_by bs' m (asked new t' bs' y q l' m').answer) (own_module l l' m m' (ap (λ (r : Question). r.own) e))
