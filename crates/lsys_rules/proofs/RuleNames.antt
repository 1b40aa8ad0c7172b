-- The formals that a command keeps are those of its rule, whatever parts its tokens are told to be.
use Rattle.std.proofs.Common.{◌≡◌, ℕ, ◌+◌, ◌≤◌, Bool, true, false, if◌then◌else◌, Option, Some, None, List, [], ◌∷◌, ◌++◌, length, refl, ap, sym, ◌∙◌, subst, arith}
use Rattle.std.proofs.lemmas.List.{length-map}
use Rattle.lsys_syntax.specs.Tokens.{Kind, NameText, Colon, At, Arrow}
use Rattle.lsys_syntax.specs.Pieces.{Piece, blank, token, note, kinds_of as kinds_in}
use Rattle.lsys_syntax.specs.Expressions.{Expr}
use Rattle.lsys_syntax.specs.Rules.{Rule, left_pieces, predecessor_pieces, right_pieces, option_pieces, successor_pieces, rule_pieces}
use Rattle.lsys_syntax.specs.Checks.{is_formal, is_param, formal_of, repeats, repeated_place, rule_formals, rule_repeated}
use Rattle.lsys_syntax.specs.Commands as spec
use Rattle.lsys_syntax.specs.LineMachine.{sentence, verdict}
use Rattle.lsys_syntax.specs.Sentences.{AreTokens}
use Rattle.lsys_syntax.proofs.LineSound.{sentence-spelled}
use Rattle.lsys_spec.specs.Edits.{label_place}
use Rattle.lsys_text.specs.Tokens.{kind_of, kind_row, name_of}
use Rattle.lsys_text.specs.declared.token_kind.Token.{Token}
use Rattle.lsys_reading.specs.declared.rule.RuleLine.{RuleLine}
use Rattle.lsys_reading.specs.declared.parts.LabeledRule.{LabeledRule}
use Rattle.lsys_reading.specs.declared.parts.CommandParts.{CommandParts}
use Rattle.lsys_reading.specs.declared.parts.CommandParts.TheVariants.{Axiom, Production, Drop, Ignore, Schedule, Seed, Depth, Lattice, Homomorphism, String, Segments, Svg, Show, Quit, Version, Own, Common, Lineage}
use Rattle.lsys_reading.specs.RuleLines.{rule_at}
use Rattle.lsys_reading.specs.Spans.{option_at}
use Rattle.lsys_reading.specs.Images.{images_at}
use Rattle.lsys_reading.specs.Commands.{parts_command}
use Rattle.lsys_reading.specs.Parted.{IsParted}
use Rattle.lsys_bodies.specs.Formals.{AreFormalNames, head_pieces, rest_pieces}
use Rattle.lsys_bodies.specs.declared.formals.FormalNames.{FormalNames}
use Rattle.lsys_bodies.proofs.Adding.{count-append}
use Rattle.lsys_bodies.proofs.HeadNames.{IsQuiet, head-rest, quiet-rest}
use Rattle.lsys_bodies.proofs.WholeSearch.{rule-formals}
use Rattle.lsys_rules.specs.Formals.{HasFormals}

-- A rule's formals that repeat don't depend on its expressions: none stands after its contexts and its predecessor.

abbrev rest_of : Option Expr → Option Expr → List Piece → List Piece
rest_of c w ps = option_pieces Colon c ++ (option_pieces At w ++ blank ∷ token Arrow ∷ ps)

any_due : (seen : List NameText) (n : ℕ) (c w : Option Expr) (ps : List Piece) → repeated_place seen true n (rest_of c w ps) ≡ repeated_place seen false n (rest_of c w ps)
any_due seen n None None ps = refl
any_due seen n None (Some w) ps = refl
any_due seen n (Some c) w ps = refl

quiet_anyhow : (due : Bool) (ks : List Kind) (r : RuleLine) → IsQuiet due (rest_pieces ks r)
quiet_anyhow false ks r = quiet-rest ks r
quiet_anyhow true ks r = λ seen n. any_due seen n (option_at ks r.condition) (option_at ks r.weight) (successor_pieces (images_at ks r.successor.items)) ∙ quiet-rest ks r seen n

before_quiet : (ps qs rs : List Piece) → ((due : Bool) → IsQuiet due qs) → ((due : Bool) → IsQuiet due rs) → (seen : List NameText) (due : Bool) (n : ℕ)
    → repeated_place seen due n (ps ++ qs) ≡ repeated_place seen due n (ps ++ rs)
before_quiet [] qs rs g h seen due n = g due seen n ∙ sym (h due seen n)
before_quiet (blank ∷ ps) qs rs g h seen due n = before_quiet ps qs rs g h seen due n
before_quiet (note m ∷ ps) qs rs g h seen due n = before_quiet ps qs rs g h seen (is_param m) n
before_quiet (token k ∷ ps) qs rs g h seen due n =
    ap (λ o. if repeats seen (formal_of due k) then Some n else o) (before_quiet ps qs rs g h (seen ++ formal_of due k) false (n + 1))

repeats_anyhow : (from : ℕ) (ks seen : List Kind) (r : RuleLine) → rule_repeated from (rule_at ks r) ≡ rule_repeated from (rule_at seen r)
repeats_anyhow from ks seen r =
    ap (repeated_place [] false from) (head-rest ks r)
    ∙ before_quiet (head_pieces r) (rest_pieces ks r) (rest_pieces seen r) (λ due. quiet_anyhow due ks r) (λ due. quiet_anyhow due seen r) [] false from
    ∙ ap (repeated_place [] false from) (sym (head-rest seen r))

names_moved : (from : ℕ) (ks : List Kind) (r m : RuleLine) (x : FormalNames) → rule_at ks r ≡ rule_at ks m → AreFormalNames from r x → AreFormalNames from m x
names_moved from ks r m x e h = record {
  numbered = record {
    known = λ y form. h.numbered.known y form ∙ ap (λ fs. is_formal fs (name_of y)) (sym (rule-formals ks r) ∙ ap rule_formals e ∙ rule-formals ks m);
  };
  repeated = λ seen. h.repeated ks ∙ ap (rule_repeated from) e ∙ repeats_anyhow from ks seen m;
  place = h.place ∙ ap (λ (q : Rule). from + length (kinds_in (left_pieces q.left ++ (predecessor_pieces q.name q.formals ++ right_pieces q.right)))) e;
}

-- the command that has these parts is one
same_command : (ks : List Kind) (p q : CommandParts) → IsParted ks p → IsParted ks q → parts_command ks p ≡ parts_command ks q
same_command ks p q h k = let e : sentence (parts_command ks p) ≡ sentence (parts_command ks q) = sym h.spelled ∙ k.spelled in cc

from_production : (ks : List Kind) (l : LabeledRule) (x : FormalNames) (q : CommandParts) → parts_command ks (Production l) ≡ parts_command ks q → AreFormalNames (label_place l.table + 2) l.rule x → HasFormals q (Some x)
from_production ks l x (Production m) e h =
    let rules : rule_at ks l.rule ≡ rule_at ks m.rule = cc in
    let tables : l.table ≡ m.table = cc in
    names_moved (label_place m.table + 2) ks l.rule m.rule x rules (subst (λ t. AreFormalNames (label_place t + 2) l.rule x) tables h)
from_production ks l x (Homomorphism m) e h = cc
from_production ks l x Axiom e h = tt
from_production ks l x (Drop w) e h = tt
from_production ks l x (Ignore w) e h = tt
from_production ks l x (Schedule w) e h = tt
from_production ks l x (Seed w) e h = tt
from_production ks l x (Depth w) e h = tt
from_production ks l x (Lattice w) e h = tt
from_production ks l x (String w) e h = tt
from_production ks l x Segments e h = tt
from_production ks l x Svg e h = tt
from_production ks l x Show e h = tt
from_production ks l x Quit e h = tt
from_production ks l x (Version w) e h = tt
from_production ks l x (Own w) e h = tt
from_production ks l x (Common w) e h = tt
from_production ks l x (Lineage w) e h = tt

from_homomorphism : (ks : List Kind) (l : LabeledRule) (x : FormalNames) (q : CommandParts) → parts_command ks (Homomorphism l) ≡ parts_command ks q → AreFormalNames 3 l.rule x → HasFormals q (Some x)
from_homomorphism ks l x (Homomorphism m) e h = let rules : rule_at ks l.rule ≡ rule_at ks m.rule = cc in names_moved 3 ks l.rule m.rule x rules h
from_homomorphism ks l x (Production m) e h = cc
from_homomorphism ks l x Axiom e h = tt
from_homomorphism ks l x (Drop w) e h = tt
from_homomorphism ks l x (Ignore w) e h = tt
from_homomorphism ks l x (Schedule w) e h = tt
from_homomorphism ks l x (Seed w) e h = tt
from_homomorphism ks l x (Depth w) e h = tt
from_homomorphism ks l x (Lattice w) e h = tt
from_homomorphism ks l x (String w) e h = tt
from_homomorphism ks l x Segments e h = tt
from_homomorphism ks l x Svg e h = tt
from_homomorphism ks l x Show e h = tt
from_homomorphism ks l x Quit e h = tt
from_homomorphism ks l x (Version w) e h = tt
from_homomorphism ks l x (Own w) e h = tt
from_homomorphism ks l x (Common w) e h = tt
from_homomorphism ks l x (Lineage w) e h = tt

pub production_names : (ks : List Kind) (p : CommandParts) (l : LabeledRule) (x : FormalNames) → p ≡ Production l → IsParted ks p → AreFormalNames (label_place l.table + 2) l.rule x
    → (q : CommandParts) → IsParted ks q → HasFormals q (Some x)
production_names ks p l x is h names q k = from_production ks l x q (ap (parts_command ks) (sym is) ∙ same_command ks p q h k) names

pub homomorphism_names : (ks : List Kind) (p : CommandParts) (l : LabeledRule) (x : FormalNames) → p ≡ Homomorphism l → IsParted ks p → AreFormalNames 3 l.rule x
    → (q : CommandParts) → IsParted ks q → HasFormals q (Some x)
homomorphism_names ks p l x is h names q k = from_homomorphism ks l x q (ap (parts_command ks) (sym is) ∙ same_command ks p q h k) names

-- how many tokens a rule's line has

production_count : (t : Option (List ℕ)) (l : List ℕ) (r : Rule) → length (kinds_in (spec.command_pieces (spec.put_production t l r))) ≡ label_place t + 2 + length (kinds_in (rule_pieces r))
production_count None l r = omega arith
production_count (Some t) l r = omega arith

homomorphism_count : (l : List ℕ) (r : Rule) → length (kinds_in (spec.command_pieces (spec.put_homomorphism l r))) ≡ 3 + length (kinds_in (rule_pieces r))
homomorphism_count l r = omega arith

line_count : (ts : List Token) (c : spec.Command) → AreTokens (kind_row ts) → verdict (kind_row ts) ≡ sentence c → length (kinds_in (spec.command_pieces c)) ≡ length ts
line_count ts c g e = ap length (sentence-spelled (kind_row ts) c g e).0 ∙ length-map ts (λ t. kind_of t.kind)

pub production_tokens : (ts : List Token) (p : CommandParts) (l : LabeledRule) → AreTokens (kind_row ts) → p ≡ Production l → IsParted (kind_row ts) p
    → label_place l.table + 2 + length (kinds_in (rule_pieces (rule_at (kind_row ts) l.rule))) ≡ length ts
production_tokens ts p l g is h =
    sym (production_count l.table l.label (rule_at (kind_row ts) l.rule))
    ∙ line_count ts (parts_command (kind_row ts) (Production l)) g (h.spelled ∙ ap (λ q. sentence (parts_command (kind_row ts) q)) is)

pub homomorphism_tokens : (ts : List Token) (p : CommandParts) (l : LabeledRule) → AreTokens (kind_row ts) → p ≡ Homomorphism l → IsParted (kind_row ts) p
    → 3 + length (kinds_in (rule_pieces (rule_at (kind_row ts) l.rule))) ≡ length ts
homomorphism_tokens ts p l g is h =
    sym (homomorphism_count l.label (rule_at (kind_row ts) l.rule))
    ∙ line_count ts (parts_command (kind_row ts) (Homomorphism l)) g (h.spelled ∙ ap (λ q. sentence (parts_command (kind_row ts) q)) is)

pub head_room : (ks : List Kind) (r : RuleLine) → length (kinds_in (head_pieces r)) ≤ length (kinds_in (rule_pieces (rule_at ks r)))
head_room ks r = omega (arith, ap (λ ps. length (kinds_in ps)) (head-rest ks r), count-append (head_pieces r) (rest_pieces ks r))
