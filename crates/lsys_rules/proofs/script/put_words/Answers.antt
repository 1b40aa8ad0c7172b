use Rattle.std.proofs.Common.{◌∷◌, ◌+◌, drop, List, ℕ}
use Rattle.std.proofs.lemmas.List.{take_all}
use Rattle.lsys_io.proofs.Puts.{puts_nothing, puts_then, puts_failed}
use Rattle.lsys_syntax.specs.Pieces.{text_of}
use Rattle.lsys_syntax.specs.Commands.{words_pieces}
use Rattle.lsys_rules.proofs.ShownTexts.{gathered-step, gathered-rest, words_gather}
use Rattle.lsys_rules.proofs.script.put_words.Goals as goal

pub loop-word-init : goal.loop-word-init
loop-word-init g c = record { put = puts_nothing }

pub loop-word-preserved : goal.loop-word-preserved
loop-word-preserved g c = record {
  put = rw (gathered-step (λ (xs : List (List ℕ)). text_of (words_pieces xs)) (λ (w : List ℕ). 32 ∷ w) (words_gather) c.args.words.now c.loop-word.word-index c.word-item.result c.loop-word-test.true c.word-item.is) (puts_then c.loop-word.invariant.put c.in_ok-put_next_word.ensures);
}

pub returns-in_err-put_next_word : goal.returns-in_err-put_next_word
returns-in_err-put_next_word g c =
    let items = c.args.words.now in
    let i = c.loop-word.word-index in
    rw (gathered-rest (λ (xs : List (List ℕ)). text_of (words_pieces xs)) (λ (w : List ℕ). 32 ∷ w) (words_gather) items (i + 1), gathered-step (λ (xs : List (List ℕ)). text_of (words_pieces xs)) (λ (w : List ℕ). 32 ∷ w) (words_gather) items i c.word-item.result c.loop-word-test.true c.word-item.is)
    (puts_failed ((λ (xs : List (List ℕ)). text_of (words_pieces xs)) (drop (i + 1) items)) c.from_residual.ensures.0 (puts_then c.loop-word.invariant.put c.in_err-put_next_word.ensures))

pub returns : goal.returns
returns g c = rw (← take_all c.loop-word.word-index c.args.words.now c.loop-word-test.false) c.loop-word.invariant.put
