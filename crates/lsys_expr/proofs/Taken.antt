-- What a token makes of the scan, from what each part of the code does.
use Rattle.std.proofs.Common.{◌≡◌, ◌⊎◌, inl, inr, ◌≤◌, ◌<◌, Bool, true, false, not, List, [], ◌∷◌, arith, sym, subst, refl}
use Rattle.lsys_syntax.specs.Tokens.{Kind}
use Rattle.lsys_syntax.specs.ExpressionMachine as m
use Rattle.lsys_expr.specs.declared.levels.OpenLevel.{OpenLevel}
use Rattle.lsys_expr.specs.declared.roles.Begin.{Begin}
use Rattle.lsys_expr.specs.declared.roles.Follow.{Follow}
use Rattle.lsys_expr.specs.declared.roles.Follow.TheVariants as follow
use Rattle.lsys_expr.specs.declared.scan.Awaited.{Awaited}
use Rattle.lsys_expr.specs.declared.scan.Awaited.TheVariants.{Operand, Operator}
use Rattle.lsys_expr.specs.declared.scan.TokenEffect.{TokenEffect}
use Rattle.lsys_expr.specs.declared.scan.TokenEffect.TheVariants.{Goes, Ends, Stops, TooDeep}
use Rattle.lsys_expr.specs.declared.scan.Scan.{Scan}
use Rattle.lsys_expr.specs.Levels.{fresh, inner_nesting, with_prefix, shallow, is_inside}
use Rattle.lsys_expr.specs.Roles.{BeginsAs, FollowsAs}
use Rattle.lsys_expr.specs.Scanning.{IsSeen, IsSeenWithin, EndsThere, StopsThere, IsTokenOutcome, IsOpened, IsEnded}
use Rattle.lsys_expr.proofs.Seen.{product-seen, sum-seen, end-whole, end-inside}

-- what is kept, where it is known what is awaited
pub seen-as : (a b : Awaited) (ls : List OpenLevel) (s : m.ExpressionState) → a ≡ b → IsSeenWithin a ls s → IsSeen b ls s
seen-as a b ls s e h = subst (λ x. IsSeen x ls s) e h.0

pub kept-as : (a b : Awaited) (ls js : List OpenLevel) (s : m.ExpressionState) → a ≡ b → ls ≡ js → IsSeen b js s → inner_nesting ls ≤ 32 → IsSeenWithin a ls s
kept-as a b ls js s e l h n = (subst (λ x. IsSeen x ls s) (sym e) (subst (λ ms. IsSeen b ms s) (sym l) h), n)

pub begins-as : (f g : Begin) (t : Kind) → f ≡ g → BeginsAs f t → BeginsAs g t
begins-as f g t e h = subst (λ x. BeginsAs x t) e h

pub follows-as : (f g : Follow) (t : Kind) → f ≡ g → FollowsAs f t → FollowsAs g t
follows-as f g t e h = subst (λ x. FollowsAs x t) e h

-- the next is awaited
pub next-taken : (n : Scan) (a : Awaited) (ls more : List OpenLevel) (o : TokenEffect) (s t : m.ExpressionState) → o ≡ Goes → n ≡ record { awaited = a; levels = ls } → ls ≡ more
    → IsSeen a more t → inner_nesting ls ≤ 32 → IsTokenOutcome n.awaited n.levels o s t
next-taken n a ls more o s t g e l h f =
    subst (λ p. IsTokenOutcome n.awaited n.levels p s t) (sym g)
    (subst (λ (x : Scan). IsSeenWithin x.awaited x.levels t) (sym e) (subst (λ js. IsSeen a js t) (sym l) h, f))

deeper-over : (ls : List OpenLevel) (s : m.ExpressionState) → inner_nesting ls ≡ 32 → IsSeen Operand (with_prefix ls) s → 32 < inner_nesting (with_prefix ls)
deeper-over [] s e h = elim h [ ]
deeper-over (l ∷ ls) s e h = omega (arith, e)

-- a prefix or a power
pub opened-taken : (ls : List OpenLevel) (a : Awaited) (new : List OpenLevel) (o : TokenEffect) (s t : m.ExpressionState) → IsOpened ls a new o → IsSeen Operand (with_prefix ls) t → IsTokenOutcome a new o s t
opened-taken ls a new Goes s t h i = (subst (λ x. IsSeen x new t) (sym h.0) (subst (λ js. IsSeen Operand js t) (sym h.1) i), h.2)
opened-taken ls a new TooDeep s t h i = (Operand, with_prefix ls, i, deeper-over ls t h i)
opened-taken ls a new Ends s t h i = elim h [ ]
opened-taken ls a new Stops s t h i = elim h [ ]

-- one parenthesis too many
pub open-over : (ls : List OpenLevel) (s : m.ExpressionState) → inner_nesting ls ≡ 32 → IsSeen Operand ls s → 32 < inner_nesting (fresh ∷ ls)
open-over [] s e h = elim h [ ]
open-over (l ∷ ls) s e h = omega (arith, e)

pub operator-seen : (f : Follow) (ls : List OpenLevel) (s : m.ExpressionState) (t : Kind) → (f ≡ follow.Product) ⊎ (f ≡ follow.Sum) → IsSeen Operator ls s → FollowsAs f t → IsSeen Operand (shallow ls) (m.step s t)
operator-seen f ls s t (inl e) h i = product-seen ls s t h (follows-as f follow.Product t e i)
operator-seen f ls s t (inr e) h i = sum-seen ls s t h (follows-as f follow.Sum t e i)

-- the second mark of two, or another token in its place
pub second-taken : (n old : Scan) (o : TokenEffect) (s t : m.ExpressionState) (b : Bool)
    → (b ≡ true → (o ≡ Goes) × (n ≡ record { awaited = Operand; levels = old.levels })) → (b ≡ false → o ≡ Stops) → inner_nesting old.levels ≤ 32
    → (b ≡ true → IsSeen Operand old.levels t) → (b ≡ false → StopsThere s t) → IsTokenOutcome n.awaited n.levels o s t
second-taken n old o s t true y k f h i = next-taken n Operand old.levels old.levels o s t (y refl).0 (y refl).1 refl (h refl) f
second-taken n old o s t false y k f h i = subst (λ p. IsTokenOutcome n.awaited n.levels p s t) (sym (k refl)) (i refl)

-- The expression doesn't go on after an operand: inside of a parenthesis it is refused there.
pub ended-taken : (a : Awaited) (ls more : List OpenLevel) (o : TokenEffect) (s t : m.ExpressionState) (b : Bool) → is_inside ls ≡ b → (is_inside ls ≡ true → o ≡ Stops) → (is_inside ls ≡ false → o ≡ Ends)
    → (is_inside ls ≡ true → StopsThere s t) → (is_inside ls ≡ false → EndsThere s t) → IsTokenOutcome a more o s t
ended-taken a ls more o s t true q y k h i = subst (λ p. IsTokenOutcome a more p s t) (sym (y q)) (h q)
ended-taken a ls more o s t false q y k h i = subst (λ p. IsTokenOutcome a more p s t) (sym (k q)) (i q)

-- the end of the tokens after an operand
pub whole-ended : (ls : List OpenLevel) (s : m.ExpressionState) (b : Bool) → b ≡ is_inside ls → IsSeen Operator ls s → IsEnded (not b) (m.end_step s)
whole-ended ls s true e h = end-inside ls s h (sym e)
whole-ended ls s false e h = end-whole ls s h (sym e)
