-- The image part by part.
use Rattle.std.proofs.Common.{◌≡◌, ℕ, zero, suc, ◌+◌, ◌≤◌, nat_lt, Bool, true, false, cond, List, [], ◌∷◌, ◌++◌, length, length-append, append_assoc, refl, ap, sym, ◌∙◌, arith, subst}
use Rattle.std.specs.Prelude.{ℤ, Result, Ok, Err}
use Rattle.std.proofs.lemmas.Bool.Decides.{nat_tests}
use Rattle.lsys_syntax.specs.Limits.{most_image_symbols}
use Rattle.lsys_syntax.specs.Strings.{balanced}
use Rattle.lsys_syntax.specs.Strings as S
use Rattle.lsys_spec.specs.Systems.{System, Homomorphism, Each}
use Rattle.lsys_spec.specs.Values.{Arith, judged, ◌and_then◌}
use Rattle.lsys_spec.specs.Bodies.{body_of}
use Rattle.lsys_spec.specs.Levels.{ModuleValue, LevelSymbol, Push, Pop, Module, level_balanced}
use Rattle.lsys_spec.specs.Meaning.{filled}
use Rattle.lsys_spec.specs.Images.{ImageRefusal, ImageLimit, for_module, image_of, image_fault, within_image, image_from, image}
use Rattle.lsys_spec.proofs.LevelInduction.{ok_parts}
use Rattle.lsys_spec.proofs.Offspring.{templates_balanced, filled_balanced}
use Rattle.lsys_syntax.specs.Checks.{rule_formals}
use Rattle.lsys_syntax.specs.Pieces.{IsWordText}
use Rattle.lsys_syntax.specs.Rules.{IsRule}
use Rattle.lsys_syntax.specs.Commands.{IsHomomorphism}
use Rattle.lsys_lattice.specs.Nodes.{modules_in}
use Rattle.lsys_lattice.proofs.Joining.{never}
use Rattle.lsys_lattice.specs.Images.{and_after, HasPartImage}

abbrev Answer : Type 0
Answer = Result (List (S.Symbol ℤ)) ImageRefusal

-- 1. one after the other

under : (r : Answer) (k : ℕ) (f g : ℕ → Answer) → ((j : ℕ) → f j ≡ g j) → and_after r k f ≡ and_after r k g
under (Ok ys) k f g h = ap (λ (a : Answer). a and_then λ more. Ok (ys ++ more)) (h (k + length ys))
under (Err e) k f g h = refl

further : (k : ℕ) (ys zs : List (S.Symbol ℤ)) → k + length ys + length zs ≡ k + length (ys ++ zs)
further k ys zs = let e : length (ys ++ zs) ≡ length ys + length zs = length-append ys zs in omega (arith, e)

after_both : (ys zs : List (S.Symbol ℤ)) (a : Answer) → ((a and_then λ more. Ok (zs ++ more)) and_then λ more. Ok (ys ++ more)) ≡ (a and_then λ more. Ok ((ys ++ zs) ++ more))
after_both ys zs (Ok more) = ap Ok (sym (append_assoc ys zs more))
after_both ys zs (Err e) = refl

after_after : (ys : List (S.Symbol ℤ)) (a : Answer) (k : ℕ) (g : ℕ → Answer)
    → (and_after a (k + length ys) g and_then λ more. Ok (ys ++ more)) ≡ and_after (a and_then λ more. Ok (ys ++ more)) k g
after_after ys (Ok zs) k g = after_both ys zs (g (k + length ys + length zs)) ∙ ap (λ (j : ℕ). g j and_then λ more. Ok ((ys ++ zs) ++ more)) (further k ys zs)
after_after ys (Err e) k g = refl

all_after : (r : Answer) (k : ℕ) (f g : ℕ → Answer) → and_after r k (λ j. and_after (f j) j g) ≡ and_after (and_after r k f) k g
all_after (Ok ys) k f g = after_after ys (f (k + length ys)) k g
all_after (Err e) k f g = refl

one_after : (b : Bool) (k : ℕ) (x : S.Symbol ℤ) (f : ℕ → Answer)
    → (cond b (Err ImageLimit) (Ok (x ∷ [])) and_then λ ys. f (k + 1) and_then λ more. Ok (ys ++ more)) ≡ and_after (cond b (Err ImageLimit) (Ok (x ∷ []))) k f
one_after true k x f = refl
one_after false k x f = refl

none_after : (a : Answer) → a ≡ (a and_then λ more. Ok more)
none_after (Ok ys) = refl
none_after (Err e) = refl

from_module : (o : Answer) (k : ℕ) (whole f g : ℕ → Answer) → ((j : ℕ) → whole j ≡ and_after (f j) j g)
    → (o and_then λ zs. and_after (within_image k zs) k whole) ≡ and_after (o and_then λ zs. and_after (within_image k zs) k f) k g
from_module (Ok zs) k whole f g h = under (within_image k zs) k whole (λ j. and_after (f j) j g) h ∙ all_after (within_image k zs) k f g
from_module (Err e) k whole f g h = refl

pub image-append : (hs : List Homomorphism) (n k : ℕ) (x y : List LevelSymbol) → image_from hs n k (x ++ y) ≡ and_after (image_from hs n k x) k (λ j. image_from hs (modules_in n x) j y)
image-append hs n k [] y = let e : k + 0 ≡ k = omega arith in none_after (image_from hs n k y) ∙ ap (λ (j : ℕ). image_from hs n j y and_then λ more. Ok more) (sym e)
image-append hs n k (Push l ∷ x) y =
    let r : Answer = within_image k (S.Push ∷ []) in
    let g : ℕ → Answer = λ j. image_from hs (modules_in n x) j y in
    one_after (nat_lt most_image_symbols (k + 1)) k S.Push (λ j. image_from hs n j (x ++ y))
    ∙ under r k (λ j. image_from hs n j (x ++ y)) (λ j. and_after (image_from hs n j x) j g) (λ j. image-append hs n j x y)
    ∙ all_after r k (λ j. image_from hs n j x) g
    ∙ ap (λ (a : Answer). and_after a k g) (sym (one_after (nat_lt most_image_symbols (k + 1)) k S.Push (λ j. image_from hs n j x)))
image-append hs n k (Pop l ∷ x) y =
    let r : Answer = within_image k (S.Pop ∷ []) in
    let g : ℕ → Answer = λ j. image_from hs (modules_in n x) j y in
    one_after (nat_lt most_image_symbols (k + 1)) k S.Pop (λ j. image_from hs n j (x ++ y))
    ∙ under r k (λ j. image_from hs n j (x ++ y)) (λ j. and_after (image_from hs n j x) j g) (λ j. image-append hs n j x y)
    ∙ all_after r k (λ j. image_from hs n j x) g
    ∙ ap (λ (a : Answer). and_after a k g) (sym (one_after (nat_lt most_image_symbols (k + 1)) k S.Pop (λ j. image_from hs n j x)))
image-append hs n k (Module l m ∷ x) y =
    from_module (image_fault (n + 1) (image_of hs m)) k (λ j. image_from hs (n + 1) j (x ++ y)) (λ j. image_from hs (n + 1) j x) (λ j. image_from hs (modules_in (n + 1) x) j y)
    (λ j. image-append hs (n + 1) j x y)

-- 2. an image that is whole is so wherever it begins further in front

within_ok : (k : ℕ) (zs ys : List (S.Symbol ℤ)) → within_image k zs ≡ Ok ys → (j : ℕ) → j ≤ k → within_image j zs ≡ Ok ys
within_ok k zs ys h j o = by (nat_lt most_image_symbols (k + length zs)) refl h
  where
    by : (b : Bool) → nat_lt most_image_symbols (k + length zs) ≡ b → cond b (Err ImageLimit) (Ok zs) ≡ Ok ys → within_image j zs ≡ Ok ys
    by true e i = cc
    by false e i = let f : nat_lt most_image_symbols (j + length zs) ≡ false = grind (arith, nat_tests) in rw f i

fault_ok : (n m : ℕ) (r : Result (List (S.Symbol ℤ)) Arith) (zs : List (S.Symbol ℤ)) → image_fault n r ≡ Ok zs → image_fault m r ≡ Ok zs
fault_ok n m (Ok a) zs h = let e : a ≡ zs = cc in ap Ok e
fault_ok n m (Err e) zs h = cc

after_ok : (r r' : Answer) (f f' : List (S.Symbol ℤ) → Answer) (ys : List (S.Symbol ℤ)) → ((zs : List (S.Symbol ℤ)) → r ≡ Ok zs → r' ≡ Ok zs) → ((zs more : List (S.Symbol ℤ)) → f zs ≡ Ok more → f' zs ≡ Ok more)
    → (r and_then f) ≡ Ok ys → (r' and_then f') ≡ Ok ys
after_ok r r' f f' ys g h e = let a = ok_parts r f ys e in ap (λ (q : Answer). q and_then f') (g a.0 a.1) ∙ h a.0 ys a.2

pub image_anywhere : (hs : List Homomorphism) (x : List LevelSymbol) (n k : ℕ) (ys : List (S.Symbol ℤ)) → image_from hs n k x ≡ Ok ys → (m j : ℕ) → j ≤ k → image_from hs m j x ≡ Ok ys
image_anywhere hs [] n k ys h m j o = h
image_anywhere hs (Push l ∷ x) n k ys h m j o =
    after_ok (within_image k (S.Push ∷ [])) (within_image j (S.Push ∷ [])) _ _ ys (λ zs e. within_ok k (S.Push ∷ []) zs e j o)
    (λ zs more. after_ok (image_from hs n (k + 1) x) (image_from hs m (j + 1) x) _ _ more (λ us e. image_anywhere hs x n (k + 1) us e m (j + 1) (omega (arith, o))) (λ us vs e. e)) h
image_anywhere hs (Pop l ∷ x) n k ys h m j o =
    after_ok (within_image k (S.Pop ∷ [])) (within_image j (S.Pop ∷ [])) _ _ ys (λ zs e. within_ok k (S.Pop ∷ []) zs e j o)
    (λ zs more. after_ok (image_from hs n (k + 1) x) (image_from hs m (j + 1) x) _ _ more (λ us e. image_anywhere hs x n (k + 1) us e m (j + 1) (omega (arith, o))) (λ us vs e. e)) h
image_anywhere hs (Module l a ∷ x) n k ys h m j o =
    after_ok (image_fault (n + 1) (image_of hs a)) (image_fault (m + 1) (image_of hs a)) _ _ ys (fault_ok (n + 1) (m + 1) (image_of hs a))
    (λ is all. after_ok (within_image k is) (within_image j is) _ _ all (λ zs e. within_ok k is zs e j o)
    (λ zs more. after_ok (image_from hs (n + 1) (k + length zs) x) (image_from hs (m + 1) (j + length zs) x) _ _ more
    (λ us e. image_anywhere hs x (n + 1) (k + length zs) us e (m + 1) (j + length zs) (omega (arith, o))) (λ us vs e. e))) h

-- 3. the middle part

two_parts : (a : Answer) (k : ℕ) (f : ℕ → Answer) (ys : List (S.Symbol ℤ)) → and_after a k f ≡ Ok ys
    → (us : List (S.Symbol ℤ)) × (vs : List (S.Symbol ℤ)) × (a ≡ Ok us) × (f (k + length us) ≡ Ok vs) × (ys ≡ us ++ vs)
two_parts a k f ys h =
    let one = ok_parts a (λ us. f (k + length us) and_then λ more. Ok (us ++ more)) ys h in
    let two = ok_parts (f (k + length one.0)) (λ more. Ok (one.0 ++ more)) ys one.2 in
    let e : one.0 ++ two.0 ≡ ys = let i = two.2 in cc in
    (one.0, two.0, one.1, two.1, sym e)

pub part_image : (s : System) (before part after : List LevelSymbol) (ys : List (S.Symbol ℤ)) → image s (before ++ (part ++ after)) ≡ Ok ys → HasPartImage s before part after ys
part_image s before part after ys h =
    let hs : List Homomorphism = s.homomorphisms in
    let n : ℕ = modules_in 0 before in
    let outer = two_parts (image_from hs 0 0 before) 0 (λ j. image_from hs n j (part ++ after)) ys (sym (image-append hs 0 0 before (part ++ after)) ∙ h) in
    let k : ℕ = 0 + length outer.0 in
    let inner = two_parts (image_from hs n k part) k (λ j. image_from hs (modules_in n part) j after) outer.1 (sym (image-append hs n k part after) ∙ outer.3) in
    record {
      left = outer.0;
      own = inner.0;
      right = inner.1;
      is = outer.4 ∙ ap (λ zs. outer.0 ++ zs) inner.4;
      of_before = outer.2;
      of_part = image_anywhere hs part n k inner.0 inner.2 0 0 (omega arith);
      of_after = image_anywhere hs after (modules_in n part) (k + length inner.0) inner.1 inner.3 0 0 (omega arith);
    }

-- 4. balance

balanced_then : (j m q : ℕ) (zs more : List (S.Symbol ℤ)) → j + m ≡ q → balanced j zs ≡ true → balanced m more ≡ true → balanced q (zs ++ more) ≡ true
balanced_then zero m q [] more e b c = let f : m ≡ q = omega (arith, e) in subst (λ (p : ℕ). balanced p more ≡ true) f c
balanced_then (suc j) m q [] more e b c = absurd (never j b)
balanced_then j m q (S.Module n ps ∷ zs) more e b c = balanced_then j m q zs more e b c
balanced_then j m q (S.Push ∷ zs) more e b c = balanced_then (suc j) m (suc q) zs more (omega (arith, e)) b c
balanced_then zero m q (S.Pop ∷ zs) more e b c = cc
balanced_then (suc j) m zero (S.Pop ∷ zs) more e b c = absurd (omega (arith, e))
balanced_then (suc j) m (suc q) (S.Pop ∷ zs) more e b c = balanced_then j m q zs more (omega (arith, e)) b c
balanced_then j m q (S.Cut ∷ zs) more e b c = balanced_then j m q zs more e b c

either_ok : (A : Type 0) (b : Bool) (r : Result Bool Arith) (f g : Result (List (S.Symbol ℤ)) Arith) (ys : List (S.Symbol ℤ))
    → (f ≡ Ok ys → A) → (g ≡ Ok ys → A) → cond b (r and_then λ holds. cond holds f g) g ≡ Ok ys → A
either_ok A false r f g ys p q h = q h
either_ok A true (Ok true) f g ys p q h = p h
either_ok A true (Ok false) f g ys p q h = q h
either_ok A true (Err e) f g ys p q h = cc

image_of_balanced : (hs : List Homomorphism) (m : ModuleValue) (ys : List (S.Symbol ℤ)) → Each (λ h. balanced 0 h.rule.successor ≡ true) hs → image_of hs m ≡ Ok ys → balanced 0 ys ≡ true
image_of_balanced [] m ys b h = let e : S.Module m.name m.params ∷ [] ≡ ys = cc in ap (balanced 0) (sym e)
image_of_balanced (h ∷ hs) m ys b e =
    either_ok (balanced 0 ys ≡ true) (for_module m h) (judged (body_of h.rule).condition m.params) (filled (body_of h.rule).successor m.params) (image_of hs m) ys
    (λ i. filled_balanced (body_of h.rule).successor m.params ys 0 i ∙ templates_balanced (rule_formals h.rule) h.rule.successor 0 ∙ b.0)
    (λ i. image_of_balanced hs m ys b.1 i) e

within_is : (k : ℕ) (zs ys : List (S.Symbol ℤ)) → within_image k zs ≡ Ok ys → zs ≡ ys
within_is k zs ys h = by (nat_lt most_image_symbols (k + length zs)) h
  where
    by : (b : Bool) → cond b (Err ImageLimit) (Ok zs) ≡ Ok ys → zs ≡ ys
    by true i = cc
    by false i = let e : zs ≡ ys = cc in e

fault_is : (n : ℕ) (r : Result (List (S.Symbol ℤ)) Arith) (zs : List (S.Symbol ℤ)) → image_fault n r ≡ Ok zs → r ≡ Ok zs
fault_is n (Ok a) zs h = let e : a ≡ zs = cc in ap Ok e
fault_is n (Err e) zs h = cc

pub image_balanced : (hs : List Homomorphism) → Each (λ h. balanced 0 h.rule.successor ≡ true) hs → (x : List LevelSymbol) (n k q : ℕ) (ys : List (S.Symbol ℤ)) → level_balanced q x ≡ true → image_from hs n k x ≡ Ok ys → balanced q ys ≡ true
image_balanced hs b [] n k q ys h e = let f : [] ≡ ys = cc in subst (λ zs. balanced q zs ≡ true) f h
image_balanced hs b (Push l ∷ x) n k q ys h e =
    let one = ok_parts (within_image k (S.Push ∷ [])) _ ys e in
    let rest = ok_parts (image_from hs n (k + 1) x) _ ys one.2 in
    let f : one.0 ++ rest.0 ≡ ys = let i = rest.2 in cc in
    subst (λ zs. balanced q zs ≡ true) (ap (λ zs. zs ++ rest.0) (within_is k (S.Push ∷ []) one.0 one.1) ∙ f) (image_balanced hs b x n (k + 1) (suc q) rest.0 h rest.1)
image_balanced hs b (Pop l ∷ x) n k zero ys h e = cc
image_balanced hs b (Pop l ∷ x) n k (suc q) ys h e =
    let one = ok_parts (within_image k (S.Pop ∷ [])) _ ys e in
    let rest = ok_parts (image_from hs n (k + 1) x) _ ys one.2 in
    let f : one.0 ++ rest.0 ≡ ys = let i = rest.2 in cc in
    subst (λ zs. balanced (suc q) zs ≡ true) (ap (λ zs. zs ++ rest.0) (within_is k (S.Pop ∷ []) one.0 one.1) ∙ f) (image_balanced hs b x n (k + 1) q rest.0 h rest.1)
image_balanced hs b (Module l m ∷ x) n k q ys h e =
    let own = ok_parts (image_fault (n + 1) (image_of hs m)) _ ys e in
    let one = ok_parts (within_image k own.0) _ ys own.2 in
    let rest = ok_parts (image_from hs (n + 1) (k + length one.0) x) _ ys one.2 in
    let f : one.0 ++ rest.0 ≡ ys = let i = rest.2 in cc in
    let c : balanced 0 own.0 ≡ true = image_of_balanced hs m own.0 b (fault_is (n + 1) (image_of hs m) own.0 own.1) in
    subst (λ zs. balanced q zs ≡ true) (ap (λ zs. zs ++ rest.0) (within_is k own.0 one.0 one.1) ∙ f)
    (balanced_then 0 q q own.0 rest.0 (omega arith) c (image_balanced hs b x (n + 1) (k + length one.0) q rest.0 h rest.1))

pub spelled_balanced : (hs : List Homomorphism) → Each (λ h. IsWordText h.label × IsRule h.rule × IsHomomorphism h.rule) hs → Each (λ h. balanced 0 h.rule.successor ≡ true) hs
spelled_balanced [] e = tt
spelled_balanced (h ∷ hs) e = (e.0.1.successor_balanced, spelled_balanced hs e.1)
