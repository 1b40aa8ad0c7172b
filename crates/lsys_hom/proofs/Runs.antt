-- Calls one after another.
use Rattle.std.proofs.Common.{◌≡◌, Option, Some, None, Result, Ok, Err, List, [], ◌∷◌, ◌++◌, map, refl, ap, sym, ◌∙◌, add-one, subst, take}
use Rattle.std.proofs.Common.{ℤ}
use Rattle.lsys_syntax.specs.Strings as S
use Rattle.lsys_spec.specs.Systems.{System, Each}
use Rattle.lsys_spec.specs.Levels as L
use Rattle.lsys_spec.specs.Images as meaning
use Rattle.lsys_spec.specs.Images.{image, image_from}
use Rattle.lsys_expr.specs.Answers.{arith_of}
use Rattle.lsys_expr.specs.declared.arith.Arith.{Arith}
use Rattle.lsys_expr.specs.declared.arith.Arith.TheVariants as ariths
use Rattle.lsys_module.specs.Views.{string_of, symbol_of}
use Rattle.lsys_module.specs.declared.symbol.Symbol.{Symbol}
use Rattle.lsys_hom.specs.Calls.{AreNext, IsEndOrRefusal, IsNext}
use Rattle.lsys_hom.specs.Coming.{Coming, IsImageOfFront, coming, nothing_coming, image_ended}
use Rattle.lsys_hom.specs.Refusals.{refusal_of}
use Rattle.lsys_hom.specs.declared.refusal.ImageRefusal.{ImageRefusal}
use Rattle.lsys_hom.specs.declared.refusal.ImageRefusal.TheVariants as refusals
use Rattle.lsys_hom.proofs.Wholes.{front_from, whole_from}

abbrev Answer : Type 0
Answer = Result (Option Symbol) ImageRefusal

-- symbols that came, and how it ended
run : (o : Option meaning.ImageRefusal) (last : Answer) → ((c d : Coming) → AreNext c (last ∷ []) d → c ≡ record { symbols = []; refusal = o }) → (symbols : List Symbol) (c d : Coming)
    → AreNext c (map (λ y. Ok (Some y)) symbols ++ last ∷ []) d → c ≡ record { symbols = string_of symbols; refusal = o }
run o last ends [] c d h = ends c d h
run o last ends (y ∷ ys) c d h = h.1 ∙ ap (λ b. record { symbols = symbol_of y ∷ b.symbols; refusal = b.refusal }) (run o last ends ys h.0 d h.2)

pub law_whole : (s : System) (x : List L.LevelSymbol) → image_ended (coming s x).symbols (coming s x).refusal ≡ image s x
law_whole s x = whole_from s.homomorphisms 0 0 x

pub law_front : (s : System) (x : List L.LevelSymbol) (r : meaning.ImageRefusal) → (coming s x).refusal ≡ Some r → IsImageOfFront s x (coming s x).symbols r
law_front s x r e =
    let f = front_from s.homomorphisms 0 0 x r e in record {
      place = f.place;
      within = f.within;
      front = f.front;
      refused = ap (λ p. image_from s.homomorphisms 0 0 (take p x)) (add-one f.place) ∙ f.refused;
    }

pub law_symbols : (s : System) (x : List L.LevelSymbol) (symbols : List Symbol) (left : Coming) → AreNext (coming s x) (map (λ y. Ok (Some y)) symbols ++ Ok None ∷ []) left
    → image s x ≡ Ok (string_of symbols)
law_symbols s x symbols left h = sym (law_whole s x) ∙ ap (λ c. image_ended c.symbols c.refusal) (run None (Ok None) (λ c d n. n.1.0) symbols (coming s x) left h)

pub law_refused : (s : System) (x : List L.LevelSymbol) (symbols : List Symbol) (r : ImageRefusal) (left : Coming) → AreNext (coming s x) (map (λ y. Ok (Some y)) symbols ++ Err r ∷ []) left
    → image s x ≡ Err (refusal_of r)
law_refused s x symbols r left h = sym (law_whole s x) ∙ ap (λ c. image_ended c.symbols c.refusal) (run (Some (refusal_of r)) (Err r) (λ c d n. n.1.0) symbols (coming s x) left h)

-- what a call answers tells what was to come
same_arith : (a b : Arith) → arith_of a ≡ arith_of b → a ≡ b
same_arith ariths.Overflow ariths.Overflow e = refl
same_arith ariths.Overflow ariths.DivideByZero e = cc
same_arith ariths.Overflow ariths.NegativePower e = cc
same_arith ariths.DivideByZero ariths.Overflow e = cc
same_arith ariths.DivideByZero ariths.DivideByZero e = refl
same_arith ariths.DivideByZero ariths.NegativePower e = cc
same_arith ariths.NegativePower ariths.Overflow e = cc
same_arith ariths.NegativePower ariths.DivideByZero e = cc
same_arith ariths.NegativePower ariths.NegativePower e = refl

same_refusal : (a b : ImageRefusal) → refusal_of a ≡ refusal_of b → a ≡ b
same_refusal (refusals.Arith k m) (refusals.Arith l n) e = same_fault (fault_parts e)
  where
    same_fault : (arith_of k ≡ arith_of l) × (m ≡ n) → refusals.Arith k m ≡ refusals.Arith l n
    same_fault h = ap (λ q. refusals.Arith q m) (same_arith k l h.0) ∙ ap (refusals.Arith l) h.1

    fault_parts : meaning.ImageFault (arith_of k) m ≡ meaning.ImageFault (arith_of l) n → (arith_of k ≡ arith_of l) × (m ≡ n)
    fault_parts h = (cc, cc)
same_refusal (refusals.Arith k m) refusals.Limit e = cc
same_refusal refusals.Limit (refusals.Arith l n) e = cc
same_refusal refusals.Limit refusals.Limit e = refl

nil_cons : (s : S.Symbol ℤ) (ys : List (S.Symbol ℤ)) → [] ≡ s ∷ ys → ⊥
nil_cons s ys e = cc

none_some : (r : meaning.ImageRefusal) → None ≡ Some r → ⊥
none_some r e = cc

some_same : (q r : meaning.ImageRefusal) → Some q ≡ Some r → q ≡ r
some_same q r e = cc

-- at the end, and at a refusal, a call answers it
again_end : (c d : Coming) (a : Answer) → c ≡ nothing_coming → IsNext c d a → (a ≡ Ok None) × (d ≡ c)
again_end c d (Ok (Some s)) e m = absurd (nil_cons (symbol_of s) d.symbols (ap (λ b. b.symbols) (sym e ∙ m)))
again_end c d (Ok None) e m = (refl, m.1)
again_end c d (Err r) e m = absurd (none_some (refusal_of r) (ap (λ b. b.refusal) (sym e ∙ m.0)))

again_refused : (c d : Coming) (r : ImageRefusal) (a : Answer) → c ≡ record { symbols = []; refusal = Some (refusal_of r) } → IsNext c d a → (a ≡ Err r) × (d ≡ c)
again_refused c d r (Ok (Some s)) e m = absurd (nil_cons (symbol_of s) d.symbols (ap (λ b. b.symbols) (sym e ∙ m)))
again_refused c d r (Ok None) e m = absurd (none_some (refusal_of r) (ap (λ b. b.refusal) (sym m.0 ∙ e)))
again_refused c d r (Err q) e m = (ap Err (same_refusal q r (some_same (refusal_of q) (refusal_of r) (ap (λ b. b.refusal) (sym m.0 ∙ e)))), m.1)

all_last : (c : Coming) (last : Answer) → ((d : Coming) (a : Answer) → IsNext c d a → (a ≡ last) × (d ≡ c)) → (later : List Answer) (b left : Coming) → b ≡ c → AreNext b later left
    → Each (λ a. a ≡ last) later
all_last c last f [] b left e h = tt
all_last c last f (a ∷ later) b left e h = let g = f h.0 a (subst (λ d. IsNext d h.0 a) e h.1) in (g.0, all_last c last f later h.0 left g.1 h.2)

pub law_stays : (c left : Coming) (last : Answer) (later : List Answer) → IsEndOrRefusal last → AreNext c (last ∷ later) left → Each (λ a. a ≡ last) later
law_stays c left (Ok None) later l h = all_last c (Ok None) (λ d a. again_end c d a h.1.0) later h.0 left h.1.1 h.2
law_stays c left (Ok (Some s)) later l h = absurd l
law_stays c left (Err r) later l h = all_last c (Err r) (λ d a. again_refused c d r a h.1.0) later h.0 left h.1.1 h.2
