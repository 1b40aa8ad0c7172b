use Rattle.std.proofs.Common.{◌≡◌, ◌<◌, ◌≤◌, false, length, map, sym, ap, ◌∙◌, arith}
use Rattle.std.proofs.lemmas.List.{length-map}
use Rattle.lsys_module.specs.Views.{module_name}
use Rattle.lsys_growth.specs.Growth.{among, most_letters}
use Rattle.lsys_growth.specs.Letters.{letter_place, letters_in}
use Rattle.lsys_growth.proofs.LettersPut.{put_full, inserted}
use Rattle.lsys_growth.proofs.letters.put_name.Goals as goal

pub returns-then-len-eq-MOST_LETTERS : goal.returns-then-len-eq-MOST_LETTERS
returns-then-len-eq-MOST_LETTERS c =
    let n = module_name c.args.name in
    let unknown : among (letters_in c.args.letters.now) n ≡ false = sym (ap (λ l. among (map module_name l) n) c.deref.ensures.value) ∙ sym c.is_among.ensures ∙ c.if-is_among.false in
    let many : length (letters_in c.args.letters.now) ≡ most_letters =
    (let l = length-map c.args.letters.now.items module_name in
    let v = ap length c.deref.ensures.value in
    let d = c.deref.ensures.len in
    let e = c.len.ensures in
    let f = c.if-len-eq-MOST_LETTERS.true in
    omega (arith, l, v, d, e, f)) in
    put_full (letters_in c.args.letters.now) n unknown many

pub returns : goal.returns
returns c =
    let n = module_name c.args.name in
    let unknown : among (letters_in c.args.letters.now) n ≡ false = sym (ap (λ l. among (map module_name l) n) c.deref.ensures.value) ∙ sym c.is_among.ensures ∙ c.if-is_among.false in
    let few : length c.args.letters.now.items < most_letters =
    (let r : length c.args.letters.now.items ≤ 63 = c.requires in
    let v = ap length c.deref.ensures.value in
    let d = c.deref.ensures.len in
    let e = c.len.ensures in
    let f : c.len.result ≡ 63 → ⊥ = c.if-len-eq-MOST_LETTERS.false in
    omega (arith, r, v, d, e, f)) in
    inserted c.args.letters.now.items c.insert.new.self.items c.args.name c.place_of-place.result unknown few
    (c.place_of-place.ensures.place ∙ ap (λ l. letter_place n (map module_name l)) c.deref-2.ensures.value) c.in_ok-insert.ensures.items
