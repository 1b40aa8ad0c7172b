-- What a contract sees of two relations between readers and what they saw.
use Rattle.std.specs.Prelude.{◌≡◌, ◌≢◌, ℕ, ◌+◌, ◌<◌, ◌≤◌, List, [], ◌∷◌, ◌++◌, map, length, slice_index_or, Bool, ◌||◌, ◌&&◌, not, ◌==◌, cond, true, false, refl}
use Rattle.std.specs.Coded.{Coded, code_by, coded×, coded_ℕ, coded_list}
use Rattle.lsys_reads.specs.declared.Pair.{Pair}
use Rattle.lsys_reads.specs.Rows.{Row, tag_row, has, AreRising}
use Rattle.lsys_reads.specs.Runs.{Sights, sights_by}

-- the settled readers of each tag, and the pending pairs
pub record Relations : Type 0 where
  pub settled : List (List ℕ)
  pub pending : List Pair

abbrev pub pair_code : Coded Pair
pair_code = code_by (ℕ × ℕ) (coded× coded_ℕ coded_ℕ) (λ p. (p.reader, p.seen)) (λ p. record { reader = p.0; seen = p.1 }) (λ _. refl)

abbrev pub relations_code : Coded Relations
relations_code = code_by (List (List ℕ) × List Pair) (coded× (coded_list (coded_list coded_ℕ)) (coded_list pair_code)) (λ r. (r.settled, r.pending)) (λ p. record { settled = p.0; pending = p.1 }) (λ _. refl)

-- whether the reader's answer, as settled, read the tag
abbrev pub is_settled : Relations → ℕ → ℕ → Bool
is_settled relations reader seen = has (slice_index_or relations.settled seen []) reader

-- whether the pair is among these
abbrev pub pairs_have : List Pair → ℕ → ℕ → Bool
pairs_have [] reader seen = false
pairs_have (p ∷ pairs) reader seen = ((p.reader == reader) && (p.seen == seen)) || pairs_have pairs reader seen

abbrev pub is_pending : Relations → ℕ → ℕ → Bool
is_pending relations reader seen = pairs_have relations.pending reader seen

-- the settled relation stays
abbrev pub SettledStay : Relations → Relations → Type 0
SettledStay old new = (reader seen : ℕ) → is_settled new reader seen ≡ is_settled old reader seen

abbrev pub row_tags : Row → List ℕ
row_tags row = row.tags

abbrev pub relations_of : List Row → List Pair → Relations
relations_of by_seen pending = record { settled = map row_tags by_seen; pending = pending }

-- how often a tag is among these
abbrev pub occurrences : List ℕ → ℕ → ℕ
occurrences [] tag = 0
occurrences (x ∷ tags) tag = cond (x == tag) 1 0 + occurrences tags tag

abbrev pub seen_tag : Pair → ℕ
seen_tag p = p.seen

-- who is settled to read a tag saw it
abbrev pub Covers : List Row → Sights → Type 0
Covers by_seen by_reader = (reader seen : ℕ) → has (tag_row by_seen seen).tags reader ≡ true → has (sights_by by_reader reader) seen ≡ true

-- what readers saw has all that is settled, and there is room for what is pending
pub record KeepsPairs (by_seen : List Row) (by_reader : Sights) (pending : List Pair) : Type 0 where
  pub covers : Covers by_seen by_reader
  pub owed : (tag : ℕ) → (tag_row by_seen tag).owed ≡ occurrences (map seen_tag pending) tag
  pub reach : (reader seen : ℕ) → pairs_have pending reader seen ≡ true → reader < length by_reader.rows
  pub room : length pending ≤ by_reader.room

-- none of these tags is settled to be read by the reader
abbrev pub LackReader : List ℕ → List Row → ℕ → Type 0
LackReader tags rows reader = (seen : ℕ) → has tags seen ≡ true → has (tag_row rows seen).tags reader ≡ false

-- no readers are taken out but this one and some of those in `gone`
pub record Thins (old new : List Row) (reader : ℕ) (gone : List ℕ) : Type 0 where
  pub kept : (other seen : ℕ) → other ≢ reader → has gone other ≡ false → has (tag_row new seen).tags other ≡ has (tag_row old seen).tags other
  pub fewer : (other seen : ℕ) → has (tag_row new seen).tags other ≡ true → has (tag_row old seen).tags other ≡ true
  pub owed : (tag : ℕ) → (tag_row new tag).owed ≡ (tag_row old tag).owed
  pub rising : AreRising new

-- so do the pending pairs
abbrev pub PendingStay : Relations → Relations → Type 0
PendingStay old new = (reader seen : ℕ) → is_pending new reader seen ≡ is_pending old reader seen

-- one pair more is pending, the last
abbrev pub AddsPending : ℕ → ℕ → Relations → Relations → Type 0
AddsPending reader seen old new =
    new.pending ≡ old.pending ++ record { reader = reader; seen = seen } ∷ []

-- the pairs of the readers in `gone` are settled no more, and no others change
abbrev pub ForgetsGone : List ℕ → Relations → Relations → Type 0
ForgetsGone gone old new =
    (reader seen : ℕ) → is_settled new reader seen
    ≡ (not (has gone reader) && is_settled old reader seen)

-- the pairs that were pending are settled too
abbrev pub SettlesPending : Relations → Relations → Type 0
SettlesPending old new =
    (reader seen : ℕ) → is_settled new reader seen
    ≡ (is_settled old reader seen || is_pending old reader seen)

-- the pairs of the readers in `gone` are settled no more, and those that were pending are
abbrev pub SettlesGone : List ℕ → Relations → Relations → Type 0
SettlesGone gone old new =
    (reader seen : ℕ) → is_settled new reader seen
    ≡ ((not (has gone reader) && is_settled old reader seen) || is_pending old reader seen)
