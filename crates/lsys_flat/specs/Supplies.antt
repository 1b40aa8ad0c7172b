-- Tags that are in use, as marks by number, and tags that are given.
use Rattle.std.specs.Prelude.{◌≡◌, ◌≤◌, ◌-◌, ◌+◌, ◌==◌, ◌||◌, ℕ, Bool, true, false, Option, Some, None, List, [], ◌∷◌, count_by, length, take, slice_get, slice_index_or}
use Rattle.lsys_spec.specs.Systems.{Each}

-- the marks, and the number from which on tags are given
pub record Supply : Type 0 where
  pub used : List Bool
  pub next : ℕ

-- the tag is in use
abbrev pub in_use : List Bool → ℕ → Bool
in_use used k = slice_index_or used k false

abbrev pub is_used : Bool → Bool
is_used b = b

-- how many are in use
abbrev pub tags_used : List Bool → ℕ
tags_used used = count_by is_used used

-- of the tags below a number, how many aren't in use: those that were given
abbrev pub tags_given : List Bool → ℕ → ℕ
tags_given used next = next - tags_used (take next used)

-- how many tags are in use or were given
abbrev pub tags_held : Supply → ℕ
tags_held s = tags_given s.used s.next + tags_used s.used

-- one tag more is in use
pub record MarksTag (tag : ℕ) (old new : Supply) : Type 0 where
  pub used : (k : ℕ) → in_use new.used k ≡ (k == tag) || in_use old.used k
  pub few : tags_used new.used ≤ tags_used old.used + 1
  pub next : new.next ≡ old.next

-- all these tags are in use, and those that were
pub record MarksAll (tags : List ℕ) (old new : Supply) : Type 0 where
  pub used : Each (λ k. in_use new.used k ≡ true) tags
  pub stay : (k : ℕ) → in_use old.used k ≡ true → in_use new.used k ≡ true
  pub few : tags_used new.used ≤ tags_used old.used + length tags
  pub next : new.next ≡ old.next

-- the same tags are in use
pub record KeepsMarks (old new : Supply) : Type 0 where
  pub used : (k : ℕ) → in_use new.used k ≡ in_use old.used k
  pub next : new.next ≡ old.next

-- The tags of a level, whose symbols have these mates: that of the mate where there is one, else the next that isn't in use; and the number from which on tags are given then.
abbrev pub AreNamed : List ℕ → List Bool → List (Option ℕ) → ℕ → List ℕ → ℕ → Type 0
AreNamed old used [] from [] to = from ≡ to
AreNamed old used [] from (k ∷ ks) to = ⊥
AreNamed old used (m ∷ ms) from [] to = ⊥
AreNamed old used (Some j ∷ ms) from (k ∷ ks) to = (slice_get old j ≡ Some k) × AreNamed old used ms from ks to
AreNamed old used (None ∷ ms) from (k ∷ ks) to = (from ≤ k) × (in_use used k ≡ false) × AreNamed old used ms (k + 1) ks to

-- the supply gives these tags to symbols that have these mates among old ones with these tags
abbrev pub GivesTags : List (Option ℕ) → List ℕ → Supply → Supply → List ℕ → Type 0
GivesTags mates olds before after tags = AreNamed olds before.used mates before.next tags after.next
