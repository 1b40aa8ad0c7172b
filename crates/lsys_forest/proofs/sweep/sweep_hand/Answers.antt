use Rattle.std.proofs.Common.{◌≡◌, ◌∷◌, ◌∙◌, ap, suc, ◌<◌, ◌+◌, ℕ, List, length, subst, get_or, drop, arith, refl}
use Rattle.std.proofs.Math.Seq.{drop-cons}
use Rattle.std.proofs.lemmas.List.{drop_all}
use Rattle.std.proofs.lemmas.Option.{get_or_from_slice_get, slice_get_read}
use Rattle.lsys_forest.specs.Stocks.{nodes_of, changes_of}
use Rattle.lsys_forest.specs.Answers.{answers}
use Rattle.lsys_forest.specs.Sweeps.{IsSweptOf}
use Rattle.lsys_forest.proofs.AnswerLemmas.{follows_on}
use Rattle.lsys_forest.proofs.sweep.sweep_hand.Goals as goal

pub loop-place-preserved : goal.loop-place-preserved
loop-place-preserved g c =
    let i = c.loop-place.place in
    let hand = c.args.parts.now.hand in
    let t = c.loop-place.parts in
    let e = c.sweep.ensures in
    let was = c.loop-place.invariant in
    let kid = c.index-in_hand-place.result in
    let next : suc i ≡ i + 1 = omega arith in
    let within : i < length hand = omega (arith, c.loop-place-test.true, was.end) in
    let now : c.in_hand.result.now ≡ hand = c.in_hand.ensures ∙ was.keeps.hand in
    let here : get_or hand i 0 ≡ kid = get_or_from_slice_get hand i kid 0 (slice_get_read hand (length hand) i kid refl within (subst (λ (l : List ℕ). kid ≡ get_or l i kid) now c.index-in_hand-place.is)) in
    let left : drop i hand ≡ kid ∷ drop (i + 1) hand = drop-cons hand i 0 within ∙ ap (λ n. get_or hand i 0 ∷ drop n hand) next ∙ ap (λ x. x ∷ drop (i + 1) hand) here in
    record {
      swept = λ first before stood sound start. e.swept (drop (i + 1) hand) first before stood sound (subst (IsSweptOf first stood c.args.root t) left (was.swept first before stood sound start));
      keeps = record {
        places = omega (arith, e.keeps.places, was.keeps.places);
        live = omega (arith, e.keeps.live, was.keeps.live);
        room = record {
          capacity = omega (arith, e.keeps.room.capacity, was.keeps.room.capacity);
          note_room = omega (arith, e.keeps.room.note_room, was.keeps.room.note_room);
          param_room = omega (arith, e.keeps.room.param_room, was.keeps.room.param_room);
          kid_room = omega (arith, e.keeps.room.kid_room, was.keeps.room.kid_room);
        };
        hand = e.keeps.hand ∙ was.keeps.hand;
      };
      made = e.made;
      freed = follows_on g.A.Kept.run_at g.A.Kept.Holds (answers (nodes_of c.args.parts.now) (changes_of c.args.parts.now)) (answers (nodes_of t) (changes_of t)) (answers (nodes_of c.sweep.new.parts) (changes_of c.sweep.new.parts)) c.args.store.now c.loop-place.store c.sweep.new.store was.made was.freed e.freed;
      end = was.end;
    }

pub returns-clause-swept : goal.returns-clause-swept
returns-clause-swept g c = λ first before stood sound start.
    let t = c.loop-place.parts in
    subst (IsSweptOf first stood c.args.root t) (drop_all c.loop-place.place c.args.parts.now.hand (omega (arith, c.loop-place.invariant.end, c.loop-place-test.false))) (c.loop-place.invariant.swept first before stood sound start)
