-- A level is asked about, and the next one is planned.
use Rattle.std.proofs.Common.{◌≡◌, ℕ, zero, suc, ◌+◌, ◌*◌, ◌<◌, ◌≤◌, Option, Some, None, Result, Ok, Err, List, [], ◌∷◌, ◌++◌, length, get_or, drop, refl, sym, ap, ◌∙◌, subst, arith, add-one, append-nil}
use Rattle.std.specs.Prelude.{sum_by}
use Rattle.std.proofs.lemmas.List.{length_push, drop_all}
use Rattle.std.proofs.lemmas.List.Sums.{sum_by_push, sum_by-append}
use Rattle.lsys_spec.specs.Systems.{System}
use Rattle.lsys_spec.specs.Levels.{LevelSymbol}
use Rattle.lsys_spec.specs.Cuts.{Raw, cut}
use Rattle.lsys_spec.specs.Values.{◌and_then◌}
use Rattle.lsys_spec.specs.Meaning.{children_from, FaultAt, LevelRefusal, meaning, next_level, last_level}
use Rattle.lsys_spec.specs.Questions.{Question, questions, questions_from, questions_at}
use Rattle.lsys_laws.specs.Sessions.{IsWell}
use Rattle.lsys_level.specs.Spots.{Spotted, spots_at, level_by}
use Rattle.lsys_walks.specs.Stores.{Store}
use Rattle.lsys_match.specs.Kept.{Kept}
use Rattle.lsys_match.specs.Derivations.{Rises, most_read, IsLevelRefusal}
use Rattle.lsys_match.specs.TagQuestions.{TagAnswer}
use Rattle.lsys_laws.specs.KeptQuestions.{places_in, question_here}
use Rattle.lsys_flat.specs.Origins.{root_level}
use Rattle.std.proofs.lemmas.Option.{slice_get_within}
use Rattle.lsys_rewrite.specs.Faults.{fault_of}
use Rattle.lsys_rewrite.specs.declared.refusal.DeriveRefusal.{DeriveRefusal}
use Rattle.lsys_rewrite.specs.declared.refusal.DeriveRefusal.TheVariants as refusals
use Rattle.lsys_flat.specs.Grown.{HasSymbols, IsMadeWithin}
use Rattle.lsys_flat.specs.Steps.{ReplacedTo}
use Rattle.lsys_flat.specs.declared.level.Level.{Level}
use Rattle.lsys_flat.proofs.Limiting.{goes_over, refused}
use Rattle.lsys_flat.specs.Lines.{Descent}
use Rattle.lsys_flat.specs.Revised.{IsNextLevel, IsRevised, above_level, all_spots, tags_of}
use Rattle.lsys_flat.proofs.Below.{level_short}
use Rattle.lsys_flat.proofs.Together.{named_together}
use Rattle.lsys_flat.specs.Slots.{AreAllFound, IsFoundOut, slot_by_place, slot_where_told}
use Rattle.lsys_flat.specs.Counted.{AreFoundAt, all_slots_in, slots_in}
use Rattle.lsys_flat.proofs.Growing.{more_found}
use Rattle.lsys_flat.proofs.Visits.{level_visits, more_questions}
use Rattle.lsys_flat.specs.Answers.{AreMadeWith, at_level}
use Rattle.lsys_flat.specs.Rounds.{AreNew, AskedTo, CanAsk, ReadsAtMost, IsAt, IsNoRound, ShowsLevel, Rounded, entries_of, answers_told, inquiry}
use Rattle.lsys_flat.proofs.News.{told_still}
use Rattle.lsys_flat.specs.Drafts.{AreAllNew, CanAddNext, Drafted, IsLevelAdded, IsDraft, IsLonger, olds_from}
use Rattle.lsys_flat.proofs.Depths.{within}
use Rattle.lsys_flat.proofs.Showing.{all_length, row_of, row_length}
use Rattle.lsys_flat.proofs.DraftingLevels.{get_push, goes_on, is_next, last_is, same_length}
use Rattle.lsys_flat.proofs.DraftingAnswers.{level_made, slots_at, slots_more, slots_still}

-- 1. what is seen of the last level

-- by some naming the last level of a draft is seen
pub record IsSeen (s : System) (limit t : ℕ) (row : List Spotted) (mates : List (Option ℕ)) (xs ys : List (List LevelSymbol)) : Type 0 where
  pub naming : ℕ → List ℕ
  pub row_is : ShowsLevel naming s.seed row (get_or ys t [])
  pub each : length row ≡ length (get_or ys t [])
  pub short : length (get_or ys t []) ≤ limit
  pub mates_are : mates ≡ places_in (get_or xs t []) (get_or ys t [])

module _ (s : System) (limit : ℕ) (xs : List (List LevelSymbol)) (old_lines : List Descent) (kept : List (List (Option Kept))) (begin mid : Store) (before v t : ℕ) (d : Drafted) (h : IsDraft s limit (olds_from xs old_lines kept begin) mid before v t d) where
  under : sum_by length h.ys ≤ limit
  under = within s limit t h.ys h.meant

  above_is : (zs : List (List LevelSymbol)) → above_level zs (length h.ys) ≡ get_or zs t []
  above_is zs = ap (above_level zs) h.levels ∙ rw add-one refl

  pub is_seen : IsSeen s limit t (spots_at d.revised.view t) d.revised.mates xs h.ys
  is_seen =
      let n = named_together 0 s.seed xs h.ys d.revised h.revised in
      let view : all_spots s.seed h.ys (tags_of d.revised.lines) ≡ d.revised.view = sym h.revised.view in
      record {
        naming = n.naming;
        row_is = subst (λ v. ShowsLevel n.naming s.seed (spots_at v t) (get_or h.ys t [])) view
            (row_of n.naming s.seed h.ys d.revised.lines t h.revised.lines (ap (λ v. level_by n.naming (spots_at v t)) view ∙ n.new_levels t));
        each = ap (λ v. length (spots_at v t)) (sym view) ∙ row_length s.seed h.ys d.revised.lines t h.revised.lines;
        short = omega (arith, under, level_short h.ys t);
        mates_are = h.revised.mates ∙ (λ i. places_in (above_is xs i) (above_is h.ys i));
      }

  pub can_ask : IsWell s → limit ≤ 1000000 → CanAsk s (spots_at d.revised.view t) d.revised.mates
  can_ask w small =
      let r = is_seen in
      record {
        well = w.0;
        naming = r.naming;
        level = get_or h.ys t [];
        is = r.row_is;
        few = omega (arith, r.each, r.short, small);
        each = ap length r.mates_are ∙ places_length (get_or h.ys t []) ∙ sym r.each;
      }
    where
      places_length : (y : List LevelSymbol) → length (places_in (get_or xs t []) y) ≡ length y
      places_length [] = refl
      places_length (a ∷ y) = ap suc (places_length y)

  -- what was read so far
  pub read_so_far : Rises 0 (most_read * limit) before v
  read_so_far = record { from = omega (arith, h.read); to = omega (arith, h.read, h.few, h.long, under) }

  -- and with the questions of the last level
  pub read_more : (w : ℕ) → ReadsAtMost (entries_of (questions_at s t (get_or h.ys t []))) v w → Rises 0 (most_read * limit) before w
  read_more w r =
      let one : entries_of (questions_at s t (get_or h.ys t [])) ≤ most_read * length (get_or h.ys t []) = level_visits s t (get_or h.ys t []) 0 (get_or h.ys t []) in
      record { from = omega (arith, h.read, r.0); to = omega (arith, h.read, h.few, h.long, under, r.1, one) }

  pub few_found : (n : ℕ) → n ≤ length (spots_at d.revised.view t) → sum_by length d.fresh + n ≤ limit
  few_found n l = let r = is_seen in omega (arith, l, r.each, h.long, under)

  pub few_before : sum_by length d.fresh ≤ limit
  few_before = omega (arith, h.long, under)

  last_here : last_level h.ys ≡ get_or h.ys t []
  last_here = last_is h.ys t h.levels

  -- a fault of the last level, or lack of memory
  pub round_refused : (w : ℕ) (e : DeriveRefusal) → t < s.depth → IsNoRound s t (get_or h.ys t []) v w e → IsLevelRefusal s limit e × Rises 0 (most_read * limit) before w
  round_refused w (refusals.Fault k u n) below r =
      let there : next_level s t (last_level h.ys) ≡ Err (FaultAt (fault_of k) t n) = ap (next_level s t) last_here ∙ r.1 in
      (subst (λ u. meaning s limit ≡ Err (FaultAt (fault_of k) u n)) (sym r.0) (refused s limit t h.ys (FaultAt (fault_of k) t n) h.meant there below), read_more w r.2)
  round_refused w (refusals.Limit u) below r = absurd r
  round_refused w refusals.Memory below r = (tt, read_more w r)

  -- 2. the next level

  module _ (w : ℕ) (after : Store) (olds : List (Option TagAnswer)) (r : Rounded) (asked : AskedTo (inquiry s t (spots_at d.revised.view t) (get_or h.ys t []) olds d.revised.mates) after r v w (length (get_or h.ys t []))) (room : r.next.grown.room ≡ d.room) where
    read_level : w ≡ v + entries_of (questions_at s t (get_or h.ys t []))
    read_level =
        let x = get_or h.ys t [] in
        let none : entries_of (questions_from s t x (length x) (drop (length x) x)) ≡ 0 = ap (λ rest. entries_of (questions_from s t x (length x) rest)) (drop_all (length x) x (omega arith)) in
        omega (arith, none, asked.read)

    pub next_is : next_level s t (last_level h.ys) ≡ Ok (cut asked.raw)
    next_is = ap (next_level s t) last_here ∙ ends (get_or h.ys t []) r.modules asked.raw asked.replaced
      where
        ends : (x : List LevelSymbol) (n : ℕ) (raw : List Raw) → ReplacedTo s t x (length x) n raw → next_level s t x ≡ Ok (cut raw)
        ends x n raw k =
            let none : drop (length x) x ≡ [] = drop_all (length x) x (omega arith) in
            let all : children_from s t x 0 0 x ≡ Ok raw = sym k.told ∙ ap (λ rest. children_from s t x (length x) n rest and_then λ more. Ok (raw ++ more)) none ∙ ap (λ raw. Ok raw) (append-nil raw) in
            ap (λ (r : Result (List Raw) LevelRefusal). r and_then λ raw. Ok (cut raw)) all

    pub over : (B : Type 0) (next : Option Level) (e : DeriveRefusal) (opened done : Drafted) (u : ℕ) → u ≡ t + 1 → t < s.depth → IsMadeWithin s.seed (get_or h.ys t []) asked.raw r.next.grown.room next → IsLevelAdded {A = B} u next opened done (Err e) → IsLevelRefusal s limit e × Rises 0 (most_read * limit) before w
    over B None e opened done u is below made added =
        let far : limit < sum_by length h.ys + length (cut asked.raw) = omega (arith, made, room, h.room) in (
          subst (IsLevelRefusal s limit) (sym (added ∙ ap refusals.Limit is)) (goes_over s limit t h.ys (cut asked.raw) h.meant next_is far below),
          read_more w (omega (arith, asked.onward), omega (arith, read_level)),
        )
    over B (Some level) e opened done u is below made added = (subst (IsLevelRefusal s limit) (sym added) tt, read_more w (omega (arith, asked.onward), omega (arith, read_level)))

    pub can_add : (next : Option Level) (opened : Drafted) → IsWell s → sum_by length xs ≤ 1000000 → limit ≤ 1000000 → opened.revised ≡ d.revised → opened.room ≡ d.room → IsMadeWithin s.seed (get_or h.ys t []) asked.raw r.next.grown.room next → CanAddNext opened next
    can_add None opened w few small is same made = tt
    can_add (Some level) opened w few small is same made =
        let size = same_length (cut asked.raw) level.symbols made.1.string in (
          record { seed = s.seed; xs = xs; ys = h.ys; y = cut asked.raw; so_far = subst (IsRevised s.seed xs h.ys) (sym is) h.revised; next = fits level few small w made },
          omega (arith, made.0, size, room, same),
        )
      where
        fits : (level : Level) → sum_by length xs ≤ 1000000 → limit ≤ 1000000 → IsWell s → IsMadeWithin s.seed (get_or h.ys t []) asked.raw r.next.grown.room (Some level) → IsNextLevel s.seed xs h.ys (cut asked.raw) level
        fits level few small w made =
            is_next s limit (t + 1) xs h.ys (cut asked.raw) level w.1 (goes_on s limit t h.ys (cut asked.raw) h.meant next_is (omega (arith, made.0, room, h.room))) few small
            (subst (λ above. HasSymbols s.seed above (cut asked.raw) level.symbols level.origins.items level.keys.items) (sym (above_is h.ys)) made.1)

    -- 3. one level more

    module _ (level : Level) (opened now : Drafted) (w_is : IsWell s) (few : sum_by length xs ≤ 1000000) (small : limit ≤ 1000000) (made : IsMadeWithin s.seed (get_or h.ys t []) asked.raw r.next.grown.room (Some level)) (added : IsLonger level opened now)
        (is : opened ≡ record d { fresh = d.fresh ++ r.fresh ∷ []; taken = d.taken ++ r.taken ∷ []; asked = opened.asked; all = opened.all }) (whole : IsAt (length (spots_at d.revised.view t)) r) (each : length d.fresh ≡ t)
        (new : AreAllNew begin mid d.fresh) (round_new : AreNew mid after r.fresh) (olds_made : AreMadeWith begin kept) (olds_are : olds ≡ answers_told mid (at_level kept t)) where
      fresh_now : now.fresh ≡ d.fresh ++ r.fresh ∷ []
      fresh_now = ap (λ (d : Drafted). d.fresh) added.is ∙ ap (λ (d : Drafted). d.fresh) is

      taken_now : now.taken ≡ d.taken ++ r.taken ∷ []
      taken_now = ap (λ (d : Drafted). d.taken) added.is ∙ ap (λ (d : Drafted). d.taken) is

      fresh_length : length r.fresh ≡ length (get_or h.ys t [])
      fresh_length = whole.each_fresh ∙ is_seen.each

      fits : IsNextLevel s.seed xs h.ys (cut asked.raw) level
      fits =
          is_next s limit (t + 1) xs h.ys (cut asked.raw) level w_is.1 (goes_on s limit t h.ys (cut asked.raw) h.meant next_is (omega (arith, made.0, room, h.room))) few small
          (subst (λ above. HasSymbols s.seed above (cut asked.raw) level.symbols level.origins.items level.keys.items) (sym (above_is h.ys)) made.1)

      told_same : answers_told mid (at_level kept t) ≡ answers_told begin (at_level kept t)
      told_same = told_still begin mid (at_level kept t) new.stay (level_made begin kept t olds_made)

      -- what was found out about the level
      found_here : AreFoundAt s d.revised.view xs h.ys (all_slots_in begin kept) (slots_in after r.fresh) r.taken t
      found_here = record {
        each_fresh = length_told r.fresh ∙ fresh_length;
        each_taken = whole.each_taken ∙ is_seen.each;
        found = λ q a e.
            let l : q < length (get_or h.ys t []) = slice_get_within (get_or h.ys t []) q a e in
            let same : olds ≡ get_or (all_slots_in begin kept) t [] = olds_are ∙ told_same ∙ sym (slots_at begin kept t) in
            subst (λ (ms : List (Option ℕ)). IsFoundOut s t (spots_at d.revised.view t) q (question_here s t (get_or h.ys t []) q a) (slot_by_place ms q) (slot_where_told (get_or (all_slots_in begin kept) t []) (slot_by_place ms q)) (slot_by_place (slots_in after r.fresh) q) (slot_by_place r.taken q)) is_seen.mates_are
            (subst (λ (os : List (Option TagAnswer)). IsFoundOut s t (spots_at d.revised.view t) q (question_here s t (get_or h.ys t []) q a) (slot_by_place d.revised.mates q) (slot_where_told os (slot_by_place d.revised.mates q)) (slot_by_place (slots_in after r.fresh) q) (slot_by_place r.taken q)) same (asked.found q a l e));
      }
        where
          length_told : (slots : List (Option Kept)) → length (slots_in after slots) ≡ length slots
          length_told [] = refl
          length_told (o ∷ slots) = ap suc (length_told slots)

      slots_now : all_slots_in after now.fresh ≡ all_slots_in mid d.fresh ++ slots_in after r.fresh ∷ []
      slots_now = ap (all_slots_in after) fresh_now ∙ slots_more after d.fresh r.fresh ∙ ap (λ xs. xs ++ slots_in after r.fresh ∷ []) (slots_still mid after d.fresh round_new.stay new.made)

      -- the levels so far are seen as before
      still : (u : ℕ) → u ≤ t → spots_at now.revised.view u ≡ spots_at d.revised.view u
      still u l =
          let view : now.revised.view ≡ d.revised.view ++ added.last ∷ [] = added.above ∙ ap (λ (d : Drafted). d.revised.view ++ added.last ∷ []) is in
          ap (λ v. spots_at v u) view ∙ before_last d.revised.view added.last u (omega (arith, l, view_length, h.levels))
        where
          view_length : length d.revised.view ≡ length h.ys
          view_length = ap length h.revised.view ∙ all_length s.seed root_level h.ys d.revised.lines h.revised.lines

          before_last : (rows : List (List Spotted)) (row : List Spotted) (u : ℕ) → u < length rows → spots_at (rows ++ row ∷ []) u ≡ spots_at rows u
          before_last [] row u l = absurd (omega (arith, l))
          before_last (x ∷ rows) row zero l = refl
          before_last (x ∷ rows) row (suc u) l = before_last rows row u (omega (arith, l))

      pub draft_now : IsDraft s limit (olds_from xs old_lines kept begin) after before w (t + 1) now
      draft_now =
          let y = cut asked.raw in
          let x = get_or h.ys t [] in
          let size = same_length y level.symbols made.1.string in
          let sums = sum_by_push (length {A = LevelSymbol}) h.ys y in
          let fresh_sums : sum_by length now.fresh ≡ sum_by length d.fresh + length r.fresh = ap (sum_by length) fresh_now ∙ sum_by_push (length {A = Option Kept}) d.fresh r.fresh in
          let last : get_or (h.ys ++ y ∷ []) (t + 1) [] ≡ y = get_push h.ys y (t + 1) h.levels in
          let opened_room : opened.room ≡ d.room = ap (λ (d : Drafted). d.room) is in
          let more : entries_of (questions s (h.ys ++ y ∷ [])) ≡ entries_of (questions s h.ys) + entries_of (questions_at s t x) =
          ap entries_of (more_questions s 0 h.ys y t t h.levels (omega arith)) ∙ sum_by-append (λ (q : Question). length q.trace) (questions s h.ys) (questions_at s t x) in
          let one : entries_of (questions_at s t x) ≤ most_read * length x = level_visits s t x 0 x in
          record {
            ys = h.ys ++ y ∷ [];
            meant = goes_on s limit t h.ys y h.meant next_is (omega (arith, made.0, room, h.room));
            levels = length_push h.ys y ∙ ap (λ n. n + 1) h.levels;
            revised = added.grows s.seed xs h.ys y (subst (IsRevised s.seed xs h.ys) (sym (ap (λ (d : Drafted). d.revised) is)) h.revised) fits;
            old = added.olds ∙ ap (λ (d : Drafted). d.revised.old_lines) is ∙ h.old;
            room = omega (arith, added.room, opened_room, h.room, sums, size);
            found =
                subst (λ fs. AreAllFound s 0 now.revised.view xs (all_slots_in begin kept) (h.ys ++ y ∷ []) fs now.taken) (sym slots_now)
                (subst (λ ks. AreAllFound s 0 now.revised.view xs (all_slots_in begin kept) (h.ys ++ y ∷ []) (all_slots_in mid d.fresh ++ slots_in after r.fresh ∷ []) ks) (sym taken_now)
                (more_found s d.revised.view now.revised.view xs (all_slots_in begin kept) y (slots_in after r.fresh) r.taken t still 0 h.ys (all_slots_in mid d.fresh) d.taken t h.levels (omega arith) h.found found_here));
            long = omega (arith, ap length last, fresh_sums, fresh_length, h.long, sums);
            read = omega (arith, h.read, more, read_level);
            few = omega (arith, h.few, more, one, fresh_sums, fresh_length);
          }
