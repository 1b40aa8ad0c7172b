use Rattle.lsys_laws.proofs.StringsTold.{string_read, string_told, string_before, string_at, string_end, never_first, never_deep}
use Rattle.lsys_laws.proofs.strings.law_of_string_places.Goals as goal

pub returns : goal.returns
returns c = record {
  read = string_read;
  told = string_told;
  before = string_before;
  none_goes_on = string_at;
  at_the_end = string_end;
  never_first = never_first;
  never_deep = never_deep;
}
