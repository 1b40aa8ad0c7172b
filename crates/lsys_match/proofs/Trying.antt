-- A rule is tried.
use Rattle.std.proofs.Common.{subst, ◌≡◌, ℕ, ℤ, false, List, ◌++◌, ◌+◌, ◌≤◌, length, take, ap, sym, ◌∙◌, arith, length-append, if◌then◌else◌, nat_lt}
use Rattle.std.proofs.lemmas.Bool.{le-ltb, lt-ltb}
use Rattle.std.proofs.lemmas.List.{take_all, length-map}
use Rattle.lsys_spec.specs.Bodies.{Body}
use Rattle.lsys_spec.specs.Walks.{Told, Found, Entry}
use Rattle.lsys_spec.specs.Choice.{Tried, Outcome, No, Yes, Fails, TooFar, fitting, outcome_of}
use Rattle.lsys_spec.specs.Values.{judged}
use Rattle.lsys_spec.specs.Meaning.{most_entries}
use Rattle.lsys_walks.specs.declared.walked.Walked.{Walked}
use Rattle.lsys_walks.specs.declared.walked.Walked.TheVariants as walked
use Rattle.lsys_walks.specs.Walked.{Walks, KeptAlone}
use Rattle.lsys_spec.specs.Levels.{way, items_from}
use Rattle.lsys_spec.specs.Choice.{contexts}
use Rattle.lsys_spec.specs.Meaning.{ignored_by}
use Rattle.lsys_bodies.specs.declared.filter.Filter.{Filter}
use Rattle.lsys_bodies.specs.Filters.{filter_of}
use Rattle.lsys_level.specs.Spots.{Spotted, level_by}
use Rattle.lsys_walks.specs.Noted.{Noted, entry_by}
use Rattle.lsys_walks.specs.Views.{module_named}
use Rattle.lsys_walks.specs.Walked.{ReadsFront}
use Rattle.lsys_match.specs.Sites.{Site, rule_told}
use Rattle.lsys_match.specs.declared.outcome.RuleOutcome.{RuleOutcome}
use Rattle.lsys_match.specs.declared.outcome.RuleOutcome.TheVariants as code
use Rattle.lsys_match.specs.Tries.{IsTried, MayGoOn, outcome_by, decided_by, entries_by, tried_so_far}

goes_on : (o : Outcome) (t : Told Found) (old new : List Entry) → new ≡ old ++ t.entries → length new ≤ most_entries → MayGoOn o t old new
goes_on No t old new e n = (e, n)
goes_on (Yes values) t old new e n = (e, n)
goes_on (Fails k) t old new e n = tt

module _ (t : Told Found) (d : Tried) (b : Body) (old new : List Entry) (bound : List ℤ) (n : d.read ≡ length old) where
  few : new ≡ old ++ t.entries → length new ≤ most_entries → nat_lt most_entries (d.read + length t.entries) ≡ false
  few h l = let e : length new ≡ length old + length t.entries = ap length h ∙ length-append old t.entries in le-ltb most_entries (d.read + length t.entries) (omega (arith, e, n, l))

  whole : new ≡ old ++ t.entries → length new ≤ most_entries → new ≡ take (most_entries + 1) (old ++ t.entries)
  whole h l = h ∙ sym (take_all (most_entries + 1) (old ++ t.entries) (let e : length new ≡ length (old ++ t.entries) = ap length h in omega (arith, e, l)))

  pub tried : (w : Walked) → Walks most_entries t old new (KeptAlone bound) w → IsTried t d b old new (decided_by w b bound)
  tried walked.Found h = record {
    answer = ap (λ c. if c then Fails TooFar else fitting b t.answer) (few h.0 h.1) ∙ ap (fitting b) h.3 ∙ ap (λ vs. outcome_of (judged b.condition vs) vs) (sym h.4);
    read = whole h.0 h.1;
    all = goes_on (decided_by walked.Found b bound) t old new h.0 h.1;
  }
  tried walked.Missed h = record {
    answer = ap (λ c. if c then Fails TooFar else fitting b t.answer) (few h.0 h.1) ∙ ap (fitting b) h.2;
    read = whole h.0 h.1;
    all = (h.0, h.1);
  }
  tried walked.TooFar h = record {
    answer = ap (λ c. if c then Fails TooFar else fitting b t.answer) (let e : length (old ++ t.entries) ≡ length old + length t.entries = length-append old t.entries in lt-ltb most_entries (d.read + length t.entries) (omega (arith, e, n, h.1)));
    read = h.0;
    all = tt;
  }

-- a rule that applies doesn't read too many
pub yes_few : (t : Told Found) (d : Tried) (b : Body) (old new : List Entry) (values : List ℤ) (o : RuleOutcome) → o ≡ code.Yes → IsTried t d b old new (outcome_by o values) → length new ≤ most_entries
yes_few t d b old new values o e h = (subst (λ o. MayGoOn (outcome_by o values) t old new) e h.all).1

-- at a site with these parts
module _ (s : Site) (row : List Spotted) (p : ℕ) (name : List ℕ) (params : List ℤ) (filter : Filter) (place : ℕ) (b : Body) (old new : List Noted) (naming : ℕ → List ℕ)
    (e : s ≡ record { row = row; place = p; own = module_named name params; filter = filter_of filter }) where
  abbrev pub told_there : Told Found
  told_there = contexts (ignored_by (filter_of filter)) (record { rule = place; depth = 0 }) b (module_named name params) (way (level_by naming row) p) (items_from (level_by naming row) (p + 1))

  pub tried_there : (bound : List ℤ) (w : Walked) (o : Outcome) → o ≡ decided_by w b bound → Walks most_entries told_there (entries_by naming old) (entries_by naming new) (KeptAlone bound) w
      → IsTried (rule_told naming s (tried_so_far place old) b) (tried_so_far place old) b (entries_by naming old) (entries_by naming new) o
  tried_there bound w o i h =
      let d : Tried = tried_so_far place old in
      let k : IsTried told_there d b (entries_by naming old) (entries_by naming new) o =
      subst (λ o. IsTried told_there d b (entries_by naming old) (entries_by naming new) o) (sym i) (tried told_there d b (entries_by naming old) (entries_by naming new) bound (sym (length-map old (entry_by naming))) w h) in
      subst (λ s. IsTried (rule_told naming s d b) d b (entries_by naming old) (entries_by naming new) o) (sym e) k

  pub front_there : ReadsFront told_there (entries_by naming old) (entries_by naming new) → ReadsFront (rule_told naming s (tried_so_far place old) b) (entries_by naming old) (entries_by naming new)
  front_there h = subst (λ s. ReadsFront (rule_told naming s (tried_so_far place old) b) (entries_by naming old) (entries_by naming new)) (sym e) h
