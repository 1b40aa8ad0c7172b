-- Where the same names are ignored, or nothing is read, the choice is the same.
use Rattle.std.proofs.Common.{◌≡◌, ℕ, Bool, true, ◌&&◌, ◌||◌, Option, Some, None, List, [], ◌∷◌, ◌++◌, refl, ap, sym, ◌∙◌, ◌⊎◌, inl, inr}
use Rattle.std.specs.Prelude.{reverse}
use Rattle.lsys_syntax.specs.Strings.{ModuleName}
use Rattle.lsys_spec.specs.Systems.{Each, same_name}
use Rattle.lsys_spec.specs.Bodies.{Body, Pattern, Patterns, Done, OneOf, BranchOf, Filter}
use Rattle.lsys_spec.specs.Levels.{ModuleValue, Step, Items}
use Rattle.lsys_spec.specs.Walks.{Mark, Told, followed, joined, left_walk, right_walk, Found}
use Rattle.lsys_spec.specs.Choice.{Asking, right_after, contexts, choice}
use Rattle.lsys_spec.specs.Standings.{no_patterns, no_left, free, all_ignored, same_ignored, same_kind, same_filter}
use Rattle.lsys_spec.specs.Meaning.{ignores, by_kind, ignored_by}
use Rattle.lsys_syntax.specs.Commands.{ListKind, to_ignore, to_consider}
use Rattle.lsys_spec.proofs.Equal.{same_name_text, text_same_name}
use Rattle.lsys_spec.proofs.SameGroups as groups
use Rattle.lsys_spec.proofs.SameGroups.{FindSame}
use Rattle.lsys_spec.proofs.Tests.{both, any_is, one_of, or_first, or_later, each_way}

left_free : (f f' : ModuleName → Bool) (d : Mark) (qs : List Pattern) (w : List Step) → no_left qs ≡ true → left_walk f' d (reverse qs) w ≡ left_walk f d (reverse qs) w
left_free f f' d [] w h = refl
left_free f f' d (q ∷ qs) w h = cc

right_free : (f f' : ModuleName → Bool) (d : Mark) (p : Patterns) (r : Items) → no_patterns p ≡ true → right_walk f' d p r ≡ right_walk f d p r
right_free f f' d Done r h = refl
right_free f f' d (OneOf q p) r h = cc
right_free f f' d (BranchOf q p) r h = cc

after_free : (f f' : ModuleName → Bool) (d : Mark) (b : Body) (own : ModuleValue) (r : Items) (o : Found) → no_patterns b.right ≡ true → right_after f' d b own r o ≡ right_after f d b own r o
after_free f f' d b own r None h = refl
after_free f f' d b own r (Some ms) h = ap (joined (ms ++ own ∷ [])) (right_free f f' d b.right r h)

contexts_free : (f f' : ModuleName → Bool) (d : Mark) (b : Body) (own : ModuleValue) (w : List Step) (r : Items) → no_left b.left && no_patterns b.right ≡ true → contexts f' d b own w r ≡ contexts f d b own w r
contexts_free f f' d b own w r h =
    let e = both (no_left b.left) (no_patterns b.right) h in
    let t : Told Found = left_walk f d (reverse b.left) w in
    ap (λ (t : Told Found). followed t (right_after f' d b own r t.answer)) (left_free f f' d b.left w e.0)
    ∙ ap (followed t) (after_free f f' d b own r t.answer e.1)

all_free : (f f' : ModuleName → Bool) (own : ModuleValue) (w : List Step) (r : Items) (bs : List Body) → free bs ≡ true → Each (FindSame f f' own w w r r) bs
all_free f f' own w r [] h = tt
all_free f f' own w r (b ∷ bs) h =
    let e = both (no_left b.left && no_patterns b.right) (free bs) h in (λ d. sym (contexts_free f f' d b own w r e.0), all_free f f' own w r bs e.1)

-- the same names, in whatever order

-- a name with the text of one that is there
among_same : (names : List ModuleName) (i n : ModuleName) → ignores names i ≡ true → same_name i n ≡ true → ignores names n ≡ true
among_same [] i n h e = cc
among_same (j ∷ names) i n h e = by (one_of (same_name j i) (ignores names i) (sym (any_is (λ j. same_name j i) j names) ∙ h)) (λ g. among_same names i n g e)
  where
    by : (same_name j i ≡ true) ⊎ (ignores names i ≡ true) → (ignores names i ≡ true → ignores names n ≡ true) → ignores (j ∷ names) n ≡ true
    by (inl g) f = any_is (λ j. same_name j n) j names ∙ or_first (same_name j n) (ignores names n) (text_same_name j n (same_name_text j i g ∙ same_name_text i n e))
    by (inr g) f = any_is (λ j. same_name j n) j names ∙ or_later (same_name j n) (ignores names n) (f g)

among_all : (a b : List ModuleName) (n : ModuleName) → all_ignored a b ≡ true → ignores a n ≡ true → ignores b n ≡ true
among_all [] b n h k = cc
among_all (i ∷ a) b n h k = by (both (ignores b i) (all_ignored a b) h) (one_of (same_name i n) (ignores a n) (sym (any_is (λ i. same_name i n) i a) ∙ k)) (among_all a b n)
  where
    by : (ignores b i ≡ true) × (all_ignored a b ≡ true) → (same_name i n ≡ true) ⊎ (ignores a n ≡ true) → (all_ignored a b ≡ true → ignores a n ≡ true → ignores b n ≡ true) → ignores b n ≡ true
    by e (inl g) f = among_same b i n e.0 g
    by e (inr g) f = f e.1 g

pub ignores_same : (a b : List ModuleName) (n : ModuleName) → same_ignored a b ≡ true → ignores b n ≡ ignores a n
ignores_same a b n h =
    let e = both (all_ignored a b) (all_ignored b a) h in each_way (ignores b n) (ignores a n) (among_all b a n e.1) (among_all a b n e.0)

kinds_same : (j k : ListKind) (b : Bool) → same_kind j k ≡ true → by_kind k b ≡ by_kind j b
kinds_same to_ignore to_ignore b h = refl
kinds_same to_consider to_consider b h = refl
kinds_same to_ignore to_consider b h = cc
kinds_same to_consider to_ignore b h = cc

pub filters_same : (f g : Filter) (n : ModuleName) → same_filter f g ≡ true → ignored_by g n ≡ ignored_by f n
filters_same f g n h =
    let e = both (same_kind f.kind g.kind) (same_ignored f.names g.names) h in
    ap (by_kind g.kind) (ignores_same f.names g.names n e.1) ∙ kinds_same f.kind g.kind (ignores f.names n) e.0

-- nothing that a group depends on is another
pub choice_same : (a : Asking) (key : Option ℕ) (before after : Filter) (w : List Step) (r : Items) (bs : List Body) → a.ignored ≡ ignored_by before → free bs || same_filter before after ≡ true
    → choice (record a { ignored = ignored_by after }) key w r bs ≡ choice a key w r bs
choice_same a key before after w r bs i h = by (one_of (free bs) (same_filter before after) h)
  where
    by : (free bs ≡ true) ⊎ (same_filter before after ≡ true) → choice (record a { ignored = ignored_by after }) key w r bs ≡ choice a key w r bs
    by (inl g) = sym (groups.choice_same a (ignored_by after) w w r r key bs (all_free a.ignored (ignored_by after) a.own w r bs g))
    by (inr g) =
        let e : ignored_by after ≡ a.ignored = (λ j. λ n. filters_same before after n g j) ∙ sym i in
        ap (λ (f : ModuleName → Bool). choice (record a { ignored = f }) key w r bs) e
