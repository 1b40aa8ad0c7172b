use Rattle.std.proofs.Common.{◌≡◌, ◌<◌, ◌≤◌, ◌+◌, ◌++◌, ◌∷◌, [], ℤ, List, length, map, ap, sym, ◌∙◌, arith, rules, subst, refl, Some, get_or}
use Rattle.std.specs.Prelude.{slice_get}
use Rattle.std.proofs.lemmas.List.{length-map, length_push}
use Rattle.std.proofs.lemmas.Option.{slice_get_read, slice_get-get_or, same_Some}
use Rattle.lsys_level.specs.Places.{bare_symbol, params_in, kept_place, Mates}
use Rattle.lsys_level.proofs.Rows.{filled_on, told_all, is_row, no_cut}
use Rattle.lsys_level.proofs.row.Row.of.Goals as goal

pub of-kept-requires : goal.of-kept-requires
of-kept-requires c = no_cut c.args.symbols.now c.loop-place.place c.index-symbols-place.result c.requires.whole (slice_get_read c.args.symbols.now (length c.args.symbols.now) c.loop-place.place c.index-symbols-place.result refl c.loop-place-test.true c.index-symbols-place.is)

pub loop-place-preserved : goal.loop-place-preserved
loop-place-preserved c =
    let ss = c.args.symbols.now in
    let i = c.loop-place.place in
    let values = c.loop-place.values.items in
    let s = c.index-symbols-place.result in
    let m : Mates (map bare_symbol ss) c.in_ok-mates.mates.items = search rules in
    let l : length c.in_ok-mates.mates.items ≡ length ss = m.same ∙ length-map ss bare_symbol in
    let inside : i < length ss = c.loop-place-test.true in
    let at : slice_get ss i ≡ Some s = slice_get_read ss (length ss) i s refl inside c.index-symbols-place.is in
    let s2 = c.index-symbols-place-in-loop-place.result in
    let again : s2 ≡ s = same_Some s2 s (sym (slice_get_read ss (length ss) i s2 refl inside c.index-symbols-place-in-loop-place.is) ∙ at) in
    let tagged : slice_get c.args.tags.now i ≡ Some c.index-tags-place.result = slice_get_read c.args.tags.now (length c.args.tags.now) i c.index-tags-place.result refl (omega (arith, inside, c.requires.tags)) c.index-tags-place.is in
    let keyed : slice_get c.args.keys.now i ≡ Some (get_or c.args.keys.now i 0) = slice_get-get_or c.args.keys.now i 0 (omega (arith, inside, c.requires.keys)) in
    let mated : slice_get c.in_ok-mates.mates.items i ≡ Some c.index.result.now = slice_get_read c.in_ok-mates.mates.items (length c.in_ok-mates.mates.items) i c.index.result.now refl (omega (arith, inside, l)) c.index.ensures in
    let params : c.params_of.result.now ≡ params_in s = c.params_of.ensures.params ∙ ap params_in again in
    let few : length (params_in s) ≤ 8 = subst (λ (ps : List ℤ). length ps ≤ 8) params c.params_of.ensures.few in
    let start : c.len-start.result ≡ length values = search rules in
    let kept : c.of-kept.result ≡ kept_place s c.index.result.now (length values) c.index-tags-place.result (get_or c.args.keys.now i 0) = c.of-kept.ensures ∙ ap (λ n. kept_place s c.index.result.now n c.index-tags-place.result (get_or c.args.keys.now i 0)) start in
    let pushed : c.push.new.self.items ≡ c.loop-place.places.items ++ c.of-kept.result ∷ [] = c.in_ok-push.ensures.items in
    let more : c.extend_from_slice.new.self.items ≡ values ++ c.params_of.result.now = c.in_ok-extend_from_slice.ensures.items in
    record {
      long = ap length pushed ∙ length_push c.loop-place.places.items c.of-kept.result ∙ ap (λ n. n + 1) c.loop-place.invariant.long;
      filled = rw (pushed, kept, more, params)
          (filled_on ss c.args.tags.now c.args.keys.now c.in_ok-mates.mates.items i c.loop-place.places.items values s c.index-tags-place.result (get_or c.args.keys.now i 0) c.index.result.now
          c.loop-place.invariant.filled c.loop-place.invariant.long at tagged keyed mated few);
    }

pub invariant_of-result : goal.invariant_of-result
invariant_of-result c =
    let m : Mates (map bare_symbol c.args.symbols.now) c.in_ok-mates.mates.items = search rules in
    is_row c.args.symbols.now c.args.tags.now c.args.keys.now c.in_ok-mates.mates.items c.loop-place.place c.loop-place.places.items c.loop-place.values.items c.loop-place.invariant.filled c.requires.tags c.requires.keys (omega arith) m

pub returns : goal.returns
returns c = told_all c.args.symbols.now c.args.tags.now c.args.keys.now c.in_ok-mates.mates.items c.loop-place.place c.loop-place.places.items c.loop-place.values.items c.loop-place.invariant.filled c.requires.tags c.requires.keys (omega arith)
