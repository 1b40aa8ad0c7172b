-- What edits of the version, of own lists and of the numbering leave.
use Rattle.std.proofs.Common.{◌≡◌, ℕ, Bool, true, false, not, ◌||◌, ◌==◌, ◌+◌, ◌≤◌, None, List, [], ◌∷◌, nat_lt, length, refl, ap, sym, ◌∙◌, arith, true≢false, if◌then◌else◌}
use Rattle.std.proofs.lemmas.Bool.{eq-eqb, eqb-true, eqb-false}
use Rattle.lsys_syntax.specs.Limits.{most_ignored, most_depth, most_depth_of_two, greatest_version}
use Rattle.lsys_syntax.specs.Pieces.{IsWordText}
use Rattle.lsys_syntax.specs.Strings.{ModuleName, EachOf, IsModuleName}
use Rattle.lsys_syntax.specs.Commands.{ListKind, Numbering}
use Rattle.lsys_spec.specs.Systems.{System, Own, depth_bound, same_name, is_table, tables, Apart}
use Rattle.lsys_spec.specs.Edits.{wrong_version, wrong_table, many, or_else, refused_if, refused_at, once, own_of, put_own, without_own, untabled, version_refusal, later_refusal, own_refusal}
use Rattle.lsys_spec.proofs.Tests.{not_false, neither}
use Rattle.lsys_laws.proofs.Unrefused.{both_none, if_none, at_none, not_more, no_place}
use Rattle.lsys_laws.proofs.Aparts.{each_dropped, apart_dropped}
use Rattle.lsys_laws.proofs.Orders.{Unordered, each_put_own, ordered_put_own, own_dropped}
use Rattle.lsys_laws.proofs.KeptPlain.{names_kept}
use Rattle.lsys_laws.proofs.Parts.{OfIgnored, OfOwn, OfVersion, Parts}

-- what isn't refused isn't of version 1
pub later : (s : System) → later_refusal s ≡ None → s.version ≡ 1 → ⊥
later s h e = true≢false (sym (eq-eqb s.version 1 e) ∙ if_none (s.version == 1) wrong_version 0 h)

pub own_kept : (s : System) (k : ListKind) (t : List ℕ) (ns : List ModuleName) → Parts s → IsWordText t → EachOf IsModuleName ns → own_refusal s t ns ≡ None
    → OfOwn s.rules (put_own (own_of k t ns) s.own) × OfVersion s.version s.numbering (put_own (own_of k t ns) s.own) s.depth
own_kept s k t ns w it is h =
    let a = later_refusal s in
    let b = refused_at (untabled s.rules (t ∷ [])) wrong_table in
    let c = refused_if (nat_lt most_ignored (length ns)) many (most_ignored + 3) in
    let h1 = both_none a (or_else b c) h in
    let h2 = both_none b c h1.1 in
    let known = no_place (λ v. not (is_table (tables s.rules) v)) 1 (t ∷ []) (at_none (untabled s.rules (t ∷ [])) wrong_table h2.0) in
    let names : OfIgnored (once [] ns) = names_kept (most_ignored + 3) ns is h2.1 in
    let o : Own = own_of k t ns in
    let was = w.of_own in (
      record {
        tabled = each_put_own (λ o. is_table (tables s.rules) o.table ≡ true) o s.own (not_false (is_table (tables s.rules) t) known.0) was.tabled;
        ordered = ordered_put_own o s.own was.ordered;
        few = each_put_own (λ o. length o.names ≤ most_ignored) o s.own names.few was.few;
        words = each_put_own (λ o. IsWordText o.table) o s.own it was.words;
        names = each_put_own (λ o. EachOf IsModuleName o.names) o s.own names.names was.names;
        once = each_put_own (λ o. Apart same_name o.names) o s.own names.once was.once;
      },
      record { some = w.of_version.some; known = w.of_version.known; first = λ e. absurd (later s h1.0 e); shallow = w.of_version.shallow },
    )

-- fewer own lists are no less in order
pub common_kept : (s : System) (t : List ℕ) → Parts s → OfOwn s.rules (without_own t s.own) × OfVersion s.version s.numbering (without_own t s.own) s.depth
common_kept s t w =
    let was = w.of_own in
    let d = own_dropped t s.own in (
      record {
        tabled = each_dropped (λ o. is_table (tables s.rules) o.table ≡ true) s.own (without_own t s.own) d was.tabled;
        ordered = apart_dropped Unordered s.own (without_own t s.own) d was.ordered;
        few = each_dropped (λ o. length o.names ≤ most_ignored) s.own (without_own t s.own) d was.few;
        words = each_dropped (λ o. IsWordText o.table) s.own (without_own t s.own) d was.words;
        names = each_dropped (λ o. EachOf IsModuleName o.names) s.own (without_own t s.own) d was.names;
        once = each_dropped (λ o. Apart same_name o.names) s.own (without_own t s.own) d was.once;
      },
      record { some = w.of_version.some; known = w.of_version.known; first = λ e. let f = w.of_version.first e in (ap (without_own t) f.0, f.1); shallow = w.of_version.shallow },
    )

pub numbering_kept : (s : System) (g : Numbering) → Parts s → later_refusal s ≡ None → OfVersion s.version g s.own s.depth
numbering_kept s g w h = record { some = w.of_version.some; known = w.of_version.known; first = λ e. absurd (later s h e); shallow = w.of_version.shallow }

deeper : (a b : Bool) → (b ≡ true → a ≡ true) → (if a then most_depth else most_depth_of_two) ≤ (if b then most_depth else most_depth_of_two)
deeper true true f = omega arith
deeper true false f = omega arith
deeper false true f = let e : false ≡ true = f refl in cc
deeper false false f = omega arith

pub version_kept : (s : System) (n : ℕ) → Parts s → version_refusal s n ≡ None → OfVersion n s.numbering s.own s.depth
version_kept s n w h =
    let tests = if_none ((n == 0) || (nat_lt greatest_version n || nat_lt n s.version)) wrong_version 1 h in
    let a = neither (n == 0) (nat_lt greatest_version n || nat_lt n s.version) tests in
    let b = neither (nat_lt greatest_version n) (nat_lt n s.version) a.1 in
    let zero : n ≡ 0 → ⊥ = eqb-false n 0 a.0 in
    let known : n ≤ greatest_version = not_more greatest_version n b.0 in
    let least : s.version ≤ n = not_more n s.version b.1 in
    let some : 1 ≤ s.version = w.of_version.some in
    let one : n ≡ 1 → s.version ≡ 1 = λ e. omega (arith, least, some, e) in
    let more : depth_bound s.version ≤ depth_bound n = deeper (s.version == 1) (n == 1) (λ e. eq-eqb s.version 1 (one (eqb-true n 1 e))) in
    let shallow : s.depth ≤ depth_bound s.version = w.of_version.shallow in
    record { some = omega (arith, some, least); known = known; first = λ e. w.of_version.first (one e); shallow = omega (arith, more, shallow) }
