-- The sample is well formed and well spelled, so the law of show speaks of something.
use Rattle.std.proofs.Common.{arith, refl}
use Rattle.lsys_syntax.specs.Rules.{IsRule}
use Rattle.lsys_spec.specs.Systems.{IsSound, WellFormed, WellSpelled}
use Rattle.lsys_spec.specs.ShownSample.{bare, rich, image_rule, full_system}

bare-rule : IsRule bare
bare-rule = record {
  left = tt;
  patterns = tt;
  name = refl;
  formals = tt;
  right = tt;
  items = tt;
  right_balanced = refl;
  condition = tt;
  weight = tt;
  successor = ((refl, tt), ((refl, tt), tt));
  successor_balanced = refl;
}

rich-rule : IsRule rich
rich-rule = record {
  left = (((refl, (refl, tt), omega arith, omega arith), tt), (((refl, (refl, tt), omega arith, omega arith), tt), tt));
  patterns = (tt, (tt, tt));
  name = refl;
  formals = (refl, tt);
  right = (tt, ((tt, tt), ((refl, tt), (tt, ((refl, tt), tt)))));
  items = (tt, (tt, (tt, (tt, (tt, tt)))));
  right_balanced = refl;
  condition = (refl, omega arith);
  weight = (omega arith, refl);
  successor = (((refl, (refl, tt), omega arith, omega arith), ((refl, omega arith), tt)), (tt, ((refl, tt), (tt, (tt, tt)))));
  successor_balanced = refl;
}

image-rule : IsRule image_rule
image-rule = record {
  left = tt;
  patterns = tt;
  name = refl;
  formals = (refl, tt);
  right = tt;
  items = tt;
  right_balanced = refl;
  condition = (refl, omega arith);
  weight = tt;
  successor = (tt, ((tt, tt), (tt, tt)));
  successor_balanced = refl;
}

bare-sound : IsSound bare
bare-sound = record { known = refl; once = refl; nested = omega arith }

rich-sound : IsSound rich
rich-sound = record { known = refl; once = refl; nested = omega arith }

image-sound : IsSound image_rule
image-sound = record { known = refl; once = refl; nested = omega arith }

pub sample-well_formed : WellFormed full_system
sample-well_formed = record {
  labels = ((refl, (refl, tt)), ((refl, tt), (tt, tt)));
  groups = ((refl, tt), (tt, tt));
  some_word = omega arith;
  scheduled = (refl, (refl, tt));
  rules_short = (refl, (refl, tt));
  homomorphisms_short = (refl, tt);
  axiom_short = refl;
  few_tables = omega arith;
  few_rules = omega arith;
  few_words = omega arith;
  few_ignored = omega arith;
  shallow = omega arith;
  some_version = omega arith;
  known_version = omega arith;
  first_version = λ e. cc;
  own_tabled = (refl, tt);
  own_ordered = (tt, tt);
  own_few = (omega arith, tt);
}

pub sample-well_spelled : WellSpelled full_system
sample-well_spelled = record {
  rules = (
    record { table = (refl, (refl, (refl, (refl, tt))), omega arith); label = (refl, tt, omega arith); rule = bare-rule },
    (record { table = (refl, (refl, (refl, (refl, (refl, (refl, tt))))), omega arith); label = (refl, tt, omega arith); rule = rich-rule }, tt),
  );
  homomorphisms = (((refl, tt, omega arith), image-rule, (refl, refl, refl, tt)), tt);
  rules_sound = (bare-sound, (rich-sound, tt));
  homomorphisms_sound = (image-sound, tt);
  axiom_symbols = ((refl, (omega arith, (omega arith, tt))), (tt, (((refl, (refl, tt), omega arith, omega arith), tt), ((refl, tt), (tt, (tt, tt))))));
  axiom_balanced = refl;
  ignored_names = (tt, ((refl, (refl, tt), omega arith, omega arith), tt));
  ignored_once = ((refl, tt), (tt, tt));
  words = ((refl, (refl, (refl, (refl, tt))), omega arith), ((refl, (refl, (refl, (refl, (refl, (refl, tt))))), omega arith), tt));
  small_seed = omega arith;
  axiom_few = omega arith;
  successors_few = (omega arith, (omega arith, tt));
  own_words = ((refl, (refl, (refl, (refl, (refl, (refl, tt))))), omega arith), tt);
  own_names = ((refl, ((refl, (refl, tt), omega arith, omega arith), tt)), tt);
  own_once = (((refl, tt), (tt, tt)), tt);
}
