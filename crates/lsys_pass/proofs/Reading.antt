-- The pairs of a reader and what it saw.
use Rattle.std.proofs.Common.{◌≡◌, ◌⊎◌, ℕ, Bool, true, false, ◌&&◌, ◌||◌, ◌==◌, List, [], ◌∷◌, ◌++◌, take, drop, Option, Some, refl, sym, ap, ◌∙◌, inl, inr, arith}
use Rattle.std.specs.Prelude.{flat_map, ℤ, Result, Ok, Err, OnOk}
use Rattle.std.proofs.lemmas.Bool.{eqb-true}
use Rattle.std.proofs.lemmas.List.{append_assoc}
use Rattle.lsys_spec.specs.Rows.{In}
use Rattle.lsys_reads.specs.declared.Pair.{Pair}
use Rattle.lsys_reads.specs.Relations.{Relations, pairs_have}
use Rattle.lsys_walks.specs.declared.entry.Entry.{Entry}
use Rattle.lsys_walks.specs.declared.entry.Entry.TheVariants.{Compared, Ignored, Out, Branch}
use Rattle.lsys_walks.specs.Parts.{arity_of}
use Rattle.lsys_walks.specs.Views.{noted_of, decoded}
use Rattle.lsys_region.specs.Pool.{list_of}
use Rattle.lsys_walks.specs.Stores.{Store}
use Rattle.lsys_match.specs.Kept.{Kept}
use Rattle.lsys_match.specs.Stored.{listed, entries_in, values_in}
use Rattle.lsys_reads.specs.Levels.{tags_named, tags_read}
use Rattle.lsys_pass.specs.Read.{entry_tags, entries_tags, pairs_of, ComesAfter, AddsPairs, NotesPairs}

-- 1. entries, one by one

pub comes_further : (old mid new more : List Pair) → mid ≡ old ++ more → ComesAfter mid new → ComesAfter old new
comes_further old mid new more is h = record { more = more ++ h.more; is = h.is ∙ ap (λ l. l ++ h.more) is ∙ append_assoc old more h.more }

-- 2. the tags of a trace

entry_same : (e : Entry) (values : List ℤ) → tags_named (noted_of e values) ≡ entry_tags e
entry_same (Compared d arity tag name) values = refl
entry_same (Ignored d arity tag name) values = refl
entry_same (Out d tag) values = refl
entry_same (Branch d tag mate) values = refl

pub entries_same : (es : List Entry) (values : List ℤ) → flat_map tags_named (decoded es values) ≡ entries_tags es
entries_same [] values = refl
entries_same (e ∷ es) values =
    ap (λ l. l ++ flat_map tags_named (decoded es (drop (arity_of e) values))) (entry_same e (take (arity_of e) values)) ∙ ap (λ l. entry_tags e ++ l) (entries_same es (drop (arity_of e) values))

-- 3. whether a pair is among them

or_true : (a : Bool) → a || true ≡ true
or_true true = refl
or_true false = refl

pub have_append : (xs ys : List Pair) (reader seen : ℕ) → pairs_have (xs ++ ys) reader seen ≡ (pairs_have xs reader seen || pairs_have ys reader seen)
have_append [] ys reader seen = refl
have_append (x ∷ xs) ys reader seen = ap (λ b. ((x.reader == reader) && (x.seen == seen)) || b) (have_append xs ys reader seen) ∙ or_assoc ((x.reader == reader) && (x.seen == seen)) (pairs_have xs reader seen) (pairs_have ys reader seen)
  where
    or_assoc : (a b c : Bool) → (a || (b || c)) ≡ ((a || b) || c)
    or_assoc true b c = refl
    or_assoc false b c = refl

or_parts : (a b : Bool) → (a || b) ≡ true → (a ≡ true) ⊎ (b ≡ true)
or_parts true b h = inl refl
or_parts false b h = inr h

and_parts : (a b : Bool) → (a && b) ≡ true → (a ≡ true) × (b ≡ true)
and_parts true b h = (refl, h)
and_parts false b h = cc

pub have_cases : (xs ys : List Pair) (reader seen : ℕ) → pairs_have (xs ++ ys) reader seen ≡ true → (pairs_have xs reader seen ≡ true) ⊎ (pairs_have ys reader seen ≡ true)
have_cases xs ys reader seen h = or_parts (pairs_have xs reader seen) (pairs_have ys reader seen) (sym (have_append xs ys reader seen) ∙ h)

pub have_left : (xs ys : List Pair) (reader seen : ℕ) → pairs_have xs reader seen ≡ true → pairs_have (xs ++ ys) reader seen ≡ true
have_left xs ys reader seen h = have_append xs ys reader seen ∙ ap (λ b. b || pairs_have ys reader seen) h

pub have_right : (xs ys : List Pair) (reader seen : ℕ) → pairs_have ys reader seen ≡ true → pairs_have (xs ++ ys) reader seen ≡ true
have_right xs ys reader seen h = have_append xs ys reader seen ∙ ap (λ b. pairs_have xs reader seen || b) h ∙ or_true (pairs_have xs reader seen)

eqb_refl : (a : ℕ) → (a == a) ≡ true
eqb_refl a = grind (arith)

pub of_reader : (node : ℕ) (tags : List ℕ) (reader seen : ℕ) → pairs_have (pairs_of node tags) reader seen ≡ true → (reader ≡ node) × In seen tags
of_reader node [] reader seen h = cc
of_reader node (k ∷ tags) reader seen h = elim (or_parts ((node == reader) && (k == seen)) (pairs_have (pairs_of node tags) reader seen) h) [
  | inl a ↦ let p = and_parts (node == reader) (k == seen) a in (sym (eqb-true node reader p.0), inl (sym (eqb-true k seen p.1)))
  | inr b ↦ let r = of_reader node tags reader seen b in (r.0, inr r.1)
]

pub has_reader : (node : ℕ) (tags : List ℕ) (seen : ℕ) → In seen tags → pairs_have (pairs_of node tags) node seen ≡ true
has_reader node [] seen h = absurd h
has_reader node (k ∷ tags) seen (inl e) =
    ap (λ b. (b && (k == seen)) || pairs_have (pairs_of node tags) node seen) (eqb_refl node)
    ∙ ap (λ b. b || pairs_have (pairs_of node tags) node seen) (ap (λ j. k == j) e ∙ eqb_refl k)
has_reader node (k ∷ tags) seen (inr h) = ap (λ b. ((node == node) && (k == seen)) || b) (has_reader node tags seen h) ∙ or_true ((node == node) && (k == seen))

-- what an answer read is what the entries of its trace name
pub trace_tags : (store : Store) (a : Kept) (es : List Entry) → list_of store.traces a.entries ≡ Some es → tags_read store a ≡ entries_tags es
trace_tags store a es e = entries_same (entries_in store a) (drop a.arity (values_in store a)) ∙ ap (λ (o : Option (List Entry)). entries_tags (listed o)) e

with_tags : (new old : List Pair) (k node : ℕ) (tags read : List ℕ) → k ≡ node → new ≡ old ++ pairs_of k tags → read ≡ tags → new ≡ old ++ pairs_of node read
with_tags new old k node tags read e is same = is ∙ ap (λ j. old ++ pairs_of j tags) e ∙ ap (λ (ts : List ℕ). old ++ pairs_of node ts) (sym same)

-- so it is noted of a node what its answer read
pub notes_tags : (listed : Bool) (old new : Relations) (k node : ℕ) (tags read : List ℕ) → k ≡ node → NotesPairs listed old new k tags → read ≡ tags → NotesPairs listed old new node read
notes_tags listed old new k node tags read e n same = record {
  adds = λ is. with_tags new.pending old.pending k node tags read e (n.adds is) same;
  stays = n.stays;
}

-- and where it was added in any case
pub adds_tags : {X E : Type 0} (r : Result X E) (old new : Relations) (k node : ℕ) (tags read : List ℕ) → k ≡ node
    → OnOk r (AddsPairs old new k tags) → read ≡ tags → OnOk r (AddsPairs old new node read)
adds_tags (Ok x) old new k node tags read e adds same = with_tags new.pending old.pending k node tags read e adds same
adds_tags (Err f) old new k node tags read e adds same = adds
