-- The last level of a repair.
use Rattle.std.proofs.Common.{◌≡◌, ◌+◌, ◌-◌, ℕ, List, [], length, refl, ap, ◌∙◌, arith, inl, inr}
use Rattle.std.specs.Option.{option_and_then}
use Rattle.lsys_spec.specs.Rows.{In}
use Rattle.lsys_laws.proofs.UpTo.{level_count}
use Rattle.lsys_forest.specs.Nodes.{Nodes}
use Rattle.lsys_forest.specs.Changes.{Change}
use Rattle.lsys_forest.specs.Answers.{answer_of}
use Rattle.lsys_forest.specs.Groves.{IsRooted, changes_in}
use Rattle.lsys_forest.proofs.SoundLemmas.{AreSound-now, AreSound-then}
use Rattle.lsys_match.specs.Kept.{Kept}
use Rattle.lsys_reads.specs.Meant.{meant_to}
use Rattle.lsys_children.proofs.Above.{upper_levels}
use Rattle.lsys_front.specs.Repairs.{Repair, SteppingSpots, now, rest, root, are}
use Rattle.lsys_front.specs.Found.{LevelChanges}
use Rattle.lsys_front.specs.Ends.{AreEnded, answered_in, rows_from}
use Rattle.lsys_front.specs.LastLevels.{IsLevelEnded, IsAfterAll, IsLastLevel, all_below, HadAnswerAfter, HasAllAfter}
use Rattle.lsys_front.proofs.Lasts.{ended_upper, ended_kins, ended_stay, ended_nodes, ended_spots, ended_after, ended_answers, ended_small, rows_below, answers_once, below_lives, not_reached, gone_kids, HadOne, had_one, had_it, bare_after, bare_answers}

sound_now : (r : Repair) → SteppingSpots r → IsRooted (root r) (changes_in r.forest) (now r)
sound_now r s = AreSound-now (root r) (changes_in r.forest) (now r) s.sound

sound_rest : (r : Repair) → SteppingSpots r → IsRooted (root r) [] (rest r)
sound_rest r s = AreSound-then (root r) (changes_in r.forest) (now r) s.sound

-- 1. the level ends

pub is_ended : (r : Repair) (m : Nodes Kept) → SteppingSpots r → AreEnded (now r) m (are r) → IsLevelEnded r m
is_ended r m s e =
    let cs = changes_in r.forest in
    let sound = sound_now r s in
    record {
      none_below = ended_after (root r) cs (now r) m sound r.level e;
      no_answers = ended_answers (root r) cs (now r) m sound r.level e;
      answers = λ k out. ap (λ x. option_and_then answer_of x) (e.others k out);
      nodes = ended_nodes (root r) cs (now r) m sound r.level e;
      spots = ended_spots (root r) cs (now r) m sound r.level e;
      upper = ended_upper (root r) cs (now r) m sound r.level e;
      levels =
          upper_levels (root r) cs (now r) m sound r.level (ended_upper (root r) cs (now r) m sound r.level e) s.once_now (ended_stay (root r) cs (now r) m sound r.level e) r.new.seed
          (meant_to r.new r.limit r.level) (let n : length (meant_to r.new r.limit r.level) ≡ r.level + 1 = level_count r.new r.limit r.level (meant_to r.new r.limit r.level) s.new_spelled s.new_is in omega (arith, n)) s.new_levels;
      kin = ended_kins (root r) cs (now r) m sound r.level e;
      small = ended_small (root r) cs (now r) m sound r.level e;
    }

pub is_bare : (r : Repair) → SteppingSpots r → IsAfterAll r → IsLevelEnded r (now r)
is_bare r s b =
    let cs = changes_in r.forest in
    record {
      none_below = bare_after (root r) cs (rest r) (now r) (sound_rest r s) (sound_now r s) s.stay r.level b.deeper r.old.depth b.depth b.ends;
      no_answers = λ k i. elim (b.same k i) [
        | inl none ↦ none
        | inr same ↦ same ∙ bare_answers (root r) cs (rest r) (now r) (sound_rest r s) (sound_now r s) s.stay r.level b.deeper r.old.depth b.depth b.ends b.last k i
      ];
      answers = λ k out. refl;
      nodes = λ v l. refl;
      spots = λ v l. refl;
      upper = record { spots = λ k n is l. refl; lists = λ k n is l. refl };
      levels = s.new_levels;
      kin = λ k. refl;
      small = λ h. h;
    }

-- 2. what was after it

pub has_after : (r : Repair) (c : LevelChanges) (m : Nodes Kept) → IsLastLevel r c → AreEnded (now r) m (are r) → HasAllAfter r c m
has_after r c m l e = record {
  rows = rows_below (root r) cs (rest r) (now r) quiet sound l.spots.stay r.level l.deeper c.gone l.differs.gone l.gone_once m e;
  lives = below_lives (root r) cs (rest r) (now r) quiet sound l.spots.stay r.level l.deeper c.gone l.differs.gone l.gone_once m e;
  unreached = not_reached (root r) cs (rest r) (now r) quiet sound l.spots.stay r.level l.deeper c.gone l.differs.gone l.gone_once m e;
  answers = λ k. (λ h. had k (had_one (root r) cs (rest r) (now r) quiet sound l.spots.stay r.level l.deeper c.gone l.differs.gone l.gone_once m e (r.old.depth - r.level) k h), λ h. has k h);
  answers_once = answers_once (root r) cs (rest r) (now r) quiet sound l.spots.stay r.level l.deeper c.gone l.differs.gone l.gone_once m e;
  gone = gone_kids (root r) cs (rest r) (now r) quiet sound l.spots.stay r.level l.deeper c.gone l.differs.gone l.gone_once m e;
}
  where
    cs : List (Change Kept)
    cs = changes_in r.forest

    quiet : IsRooted (root r) [] (rest r)
    quiet = sound_rest r l.spots

    sound : IsRooted (root r) cs (now r)
    sound = sound_now r l.spots

    had : (k : ℕ) → HadOne (rest r) (root r) r.level (r.old.depth - r.level) k → HadAnswerAfter r k
    had k x = record {
      level = x.level;
      after = x.after;
      within = let b = x.after in let w = x.within in omega (arith, b, w);
      there = x.there;
      answer = x.answer;
      kept = x.kept;
    }

    has : (k : ℕ) → HadAnswerAfter r k → In k (answered_in m (rows_from m (r.old.depth - r.level) (all_below r c)))
    has k x = had_it (root r) cs (rest r) (now r) quiet sound l.spots.stay r.level l.deeper c.gone l.differs.gone l.gone_once m e (r.old.depth - r.level) k (record {
      level = x.level;
      after = x.after;
      within = let b = x.after in let w = x.within in omega (arith, b, w);
      there = x.there;
      answer = x.answer;
      kept = x.kept;
    })
