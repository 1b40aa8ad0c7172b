-- What is asked, read and answered at a spot of a view.
use Rattle.std.specs.Prelude.{◌≡◌, ◌+◌, ℕ, List, Option, Result, length, option_map, IfSome, MatchOption}
use Rattle.std.specs.Borrow.{Bor}
use Rattle.lsys_spec.specs.Systems.{System}
use Rattle.lsys_spec.specs.Levels.{ModuleValue}
use Rattle.lsys_level.specs.declared.view.LevelView.{Ghosts as LevelViewOf}
use Rattle.lsys_level.specs.Spots.{spots_at, level_by, spotted_at}
use Rattle.lsys_walks.specs.Stores.{Store}
use Rattle.lsys_match.specs.declared.asked.Asked.{Asked}
use Rattle.lsys_match.specs.declared.posed.Posed.{Posed as CodePosed}
use Rattle.lsys_match.specs.declared.refusal.AskRefusal.{AskRefusal}
use Rattle.lsys_match.specs.declared.told.OldTrace.{OldTrace}
use Rattle.lsys_match.specs.declared.told.Told.{Told}
use Rattle.lsys_match.specs.Kept.{Kept}
use Rattle.lsys_match.specs.TagQuestions.{Posed}
use Rattle.lsys_match.specs.Asking.{AskedLevel, HasQuestion, IsPosedAt, posed_by, site_at}
use Rattle.lsys_match.specs.Sites.{Site}
use Rattle.lsys_match.specs.Answered.{CountsEntries}
use Rattle.lsys_match.specs.Asks.{IsAnswered, IsNamedAt, KeepsStore, asked_if_any, by_definition, kept_lent, news}
use Rattle.lsys_match.specs.Telling.{IsTellingOf, CountsTold}

-- 1. what is asked

-- the module at a spot has a question, on the level that is asked about
abbrev pub IsAskedAt : {V P : Type 0} → AskedLevel → LevelViewOf V P → V → P → Type 0
IsAskedAt q W view spot =
    HasQuestion q.system q.level (spots_at (W.levels view) q.level) (W.place_of view spot)

-- it has one, on the level of the spot
abbrev pub HasQuestionAt : {V P : Type 0} → AskedLevel → LevelViewOf V P → V → P → Type 0
HasQuestionAt q W view spot =
    let x = spots_at (W.levels view) (W.level_of view spot) in
    HasQuestion q.system q.level x (W.place_of view spot)

-- this is posed of the module at a spot
abbrev pub IsPosedOf : {V P : Type 0} → AskedLevel → LevelViewOf V P → V → P → Posed → Type 0
IsPosedOf q W view spot d =
    let x = spots_at (W.levels view) (W.level_of view spot) in
    IsPosedAt q.system q.level x (W.place_of view spot) d

-- the key of the symbol at a spot
abbrev pub key_at : {V P : Type 0} → LevelViewOf V P → V → P → Option ℕ
key_at W view spot =
    let here = spotted_at (W.levels view) (W.level_of view spot) (W.place_of view spot) in
    option_map (λ s. s.key) here

-- 2. what is read and chosen

-- what is posed, at a spot of the level that is asked about
abbrev pub site_seen : {V P : Type 0} → CodePosed → AskedLevel → LevelViewOf V P → V → P → Site
site_seen q k W view spot =
    let x = spots_at (W.levels view) (W.level_of view spot) in
    site_at k.system k.level x (W.place_of view spot) (posed_by q).own

-- what is told of what is posed, at a spot
abbrev pub IsTellingAt : {V P : Type 0} → CodePosed → AskedLevel → LevelViewOf V P → V → P
    → Option OldTrace → Result Told AskRefusal → Type 0
IsTellingAt q k W view spot old r = IsTellingOf q (site_seen q k W view spot) old r

-- the entries are counted that are read for what is posed, at a spot
abbrev pub ReadsAt : {V P : Type 0} → CodePosed → AskedLevel → LevelViewOf V P → V → P → ℕ → ℕ
    → Result Told AskRefusal → Type 0
ReadsAt q k W view spot before after r =
    CountsTold q (site_seen q k W view spot) before after r

-- 3. what is answered, by every naming of the tags that gives the module the lineage of its key

-- level t of a system answers so at a spot, beside an old answer: as the definitions say
abbrev pub AnswersAt : {V P L : Type 0} → System → ℕ → LevelViewOf V P → V → P → Store
    → Option (Bor Kept) → Result (Asked L) AskRefusal → Type 0
AnswersAt s t W view spot store old r =
    let x = spots_at (W.levels view) t in let p = W.place_of view spot in
    (naming : ℕ → List ℕ) (tag : ℕ) (m : ModuleValue)
    → IsNamedAt naming s.seed x p tag m
    → IsAnswered naming (by_definition s t (level_by naming x) p (naming tag) m) store
    (kept_lent old) r

abbrev pub AnswersTo : {V P L : Type 0} → AskedLevel → LevelViewOf V P → V → P → Store
    → Option (Bor Kept) → Result (Asked L) AskRefusal → Type 0
AnswersTo q W view spot store old r = AnswersAt q.system q.level W view spot store old r

-- it answers so, where it answers anything
abbrev pub MayAnswer : {V P L : Type 0} → AskedLevel → LevelViewOf V P → V → P → Store
    → Option (Bor Kept) → Result (Option (Asked L)) AskRefusal → Type 0
MayAnswer q W view spot store old r =
    let x = spots_at (W.levels view) q.level in let p = W.place_of view spot in
    (naming : ℕ → List ℕ) (tag : ℕ) (m : ModuleValue)
    → IsNamedAt naming q.system.seed x p tag m
    → IfSome (asked_if_any r)
    (IsAnswered naming (by_definition q.system q.level (level_by naming x) p (naming tag) m)
    store (kept_lent old))

-- level t of a system reads at a spot: the entries are counted of the trace that is the
-- definitions'
abbrev pub Scans : {V P L : Type 0} → System → ℕ → LevelViewOf V P → V → P → ℕ → ℕ
    → Result (Asked L) AskRefusal → Type 0
Scans s t W view spot before after r =
    let x = spots_at (W.levels view) t in let p = W.place_of view spot in
    (naming : ℕ → List ℕ) (tag : ℕ) (m : ModuleValue)
    → IsNamedAt naming s.seed x p tag m
    → CountsEntries (length (by_definition s t (level_by naming x) p (naming tag) m).question.trace)
    before after r

abbrev pub ScansFor : {V P L : Type 0} → AskedLevel → LevelViewOf V P → V → P → ℕ → ℕ
    → Result (Asked L) AskRefusal → Type 0
ScansFor q W view spot before after r = Scans q.system q.level W view spot before after r

-- they are counted, where anything is answered
abbrev pub MayScan : {V P L : Type 0} → AskedLevel → LevelViewOf V P → V → P → ℕ → ℕ
    → Result (Option (Asked L)) AskRefusal → Type 0
MayScan q W view spot before after r =
    let x = spots_at (W.levels view) q.level in let p = W.place_of view spot in
    (naming : ℕ → List ℕ) (tag : ℕ) (m : ModuleValue)
    → IsNamedAt naming q.system.seed x p tag m
    → IfSome (asked_if_any r)
    (CountsEntries (length (by_definition q.system q.level (level_by naming x) p (naming tag)
    m).question.trace) before after)

-- 4. where nothing may be answered

-- one more was asked for a new answer, and else none
abbrev pub CountsNews : {L : Type 0} → ℕ → ℕ → Result (Option (Asked L)) AskRefusal → Type 0
CountsNews before after r =
    MatchOption (asked_if_any r) (after ≡ before) (λ a. after ≡ before + news a)

-- only a new answer changes what is kept, and where nothing is answered the store is the same
abbrev pub KeepsStoreIfAny : {L : Type 0} → Store → Store → Option (Bor Kept)
    → Result (Option (Asked L)) AskRefusal → Type 0
KeepsStoreIfAny before after old r =
    MatchOption (asked_if_any r) (after ≡ before) (KeepsStore before after (kept_lent old))
