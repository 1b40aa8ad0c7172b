use Rattle.lsys_laws.proofs.MemoryTold.{refusal_told, other_told, memory_apart, out_told}
use Rattle.lsys_laws.proofs.replies.law_of_texts.Goals as goal

pub returns : goal.returns
returns c = record { refusal = refusal_told; other = other_told; memory = memory_apart; told = out_told }
