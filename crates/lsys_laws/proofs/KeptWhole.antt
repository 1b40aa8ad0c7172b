-- What a sentence's command makes of a well-formed system is well formed, and so is each system of a session.
use Rattle.std.proofs.Common.{◌≡◌, ℕ, Bool, None, Ok, List, [], ◌∷◌, ◌≤◌, subst}
use Rattle.lsys_syntax.specs.Limits.{nesting_bound}
use Rattle.lsys_syntax.specs.Commands.{Command, set_axiom, put_production, drop_rule, set_ignored, set_schedule, set_seed, set_depth, set_lattice, put_homomorphism, print_string, print_segments, print_svg, print_system, quit, set_version, set_own, drop_own, set_numbering, IsCommand, nesting}
use Rattle.lsys_syntax.specs.Checks.{axiom_many}
use Rattle.lsys_syntax.specs.Lines.{lines_of}
use Rattle.lsys_spec.specs.Shown.{show_text}
use Rattle.lsys_spec.specs.Systems.{System, depth_bound, Each}
use Rattle.lsys_laws.specs.Sessions.{IsWell}
use Rattle.lsys_spec.specs.Edits.{many, refusal, changed, apply}
use Rattle.lsys_spec.specs.Refusals.{Reply}
use Rattle.lsys_spec.specs.Replies.{reply}
use Rattle.lsys_spec.specs.Output.{out, last_system}
use Rattle.lsys_laws.proofs.Unrefused as edit
use Rattle.lsys_laws.proofs.Unrefused.{at_none, few}
use Rattle.lsys_spec.proofs.Eachs.{each_more}
use Rattle.lsys_spec.proofs.ShownBack.{shown-back, shown-plain}
use Rattle.lsys_spec.specs.ReadBack.{IsReadBack, IsPlainLine}
use Rattle.lsys_laws.proofs.Along.{Keeps, reply_keeps, out_keeps}
use Rattle.lsys_laws.proofs.Parts.{parts, whole}
use Rattle.lsys_laws.proofs.KeptPlain.{opening_well, schedule_kept, ignored_kept}
use Rattle.lsys_laws.proofs.KeptAxiom.{axiom_kept}
use Rattle.lsys_laws.proofs.KeptRules.{production_kept}
use Rattle.lsys_laws.proofs.KeptOwn.{own_kept, common_kept, numbering_kept, version_kept}
use Rattle.lsys_laws.proofs.KeptOthers.{drop_kept, homomorphism_kept}

pub changed_kept : (s : System) (c : Command) → IsWell s → IsCommand c → nesting c ≤ nesting_bound → refusal s c ≡ None → IsWell (changed s c)
changed_kept s (set_axiom xs) w i d h =
    let p = parts s w in whole _ p.of_rules (axiom_kept xs i.0 i.1 (at_none (axiom_many 1 xs) many h)) p.of_ignored p.of_schedule p.seed p.of_own p.of_version
changed_kept s (put_production t l r) w i d h =
    let p = parts s w in
    let k = production_kept s t l r p i.0 i.1 i.2 d h in whole _ k.0 p.of_axiom p.of_ignored k.1 p.seed k.2 p.of_version
changed_kept s (drop_rule l) w i d h =
    let p = parts s w in
    let k = drop_kept s l p h in whole _ k.0 p.of_axiom p.of_ignored k.1 p.seed k.2 p.of_version
changed_kept s (set_ignored ns) w i d h = let p = parts s w in whole _ p.of_rules p.of_axiom (ignored_kept ns i h) p.of_schedule p.seed p.of_own p.of_version
changed_kept s (set_schedule ws) w i d h = let p = parts s w in whole _ p.of_rules p.of_axiom p.of_ignored (schedule_kept s ws i h) p.seed p.of_own p.of_version
changed_kept s (set_seed n) w i d h = let p = parts s w in whole _ p.of_rules p.of_axiom p.of_ignored p.of_schedule i p.of_own p.of_version
changed_kept s (set_depth n) w i d h =
    let p = parts s w in
    let v = p.of_version in
    whole _ p.of_rules p.of_axiom p.of_ignored p.of_schedule p.seed p.of_own (record { some = v.some; known = v.known; first = v.first; shallow = few (depth_bound s.version) n many 1 h })
changed_kept s (set_lattice l) w i d h = let p = parts s w in whole _ p.of_rules p.of_axiom p.of_ignored p.of_schedule p.seed p.of_own p.of_version
changed_kept s (put_homomorphism l r) w i d h =
    let p = parts s w in whole _ (homomorphism_kept s l r p i.0 i.1 i.2 d h) p.of_axiom p.of_ignored p.of_schedule p.seed p.of_own p.of_version
changed_kept s (set_version n) w i d h = let p = parts s w in whole _ p.of_rules p.of_axiom p.of_ignored p.of_schedule p.seed p.of_own (version_kept s n p h)
changed_kept s (set_own k t ns) w i d h =
    let p = parts s w in
    let o = own_kept s k t ns p i.0 i.1 h in whole _ p.of_rules p.of_axiom p.of_ignored p.of_schedule p.seed o.0 o.1
changed_kept s (drop_own t) w i d h =
    let p = parts s w in
    let o = common_kept s t p in whole _ p.of_rules p.of_axiom p.of_ignored p.of_schedule p.seed o.0 o.1
changed_kept s (set_numbering g) w i d h = let p = parts s w in whole _ p.of_rules p.of_axiom p.of_ignored p.of_schedule p.seed p.of_own (numbering_kept s g p h)
changed_kept s (print_string t) w i d h = w
changed_kept s print_segments w i d h = w
changed_kept s print_svg w i d h = w
changed_kept s print_system w i d h = w
changed_kept s quit w i d h = w

pub apply_kept : (s : System) (c : Command) (t : System) → IsWell s → IsCommand c → nesting c ≤ nesting_bound → apply s c ≡ Ok t → IsWell t
apply_kept s c t w i d h = let e = edit.accepted s c t h in subst IsWell e.1 (changed_kept s c w i d e.0)

-- sessions

keeps : (limit : ℕ) → Keeps limit IsWell
keeps limit s c w i d e levels h = changed_kept s c w i d e

pub reply_kept : (limit : ℕ) (s : System) (line : List ℕ) → IsWell s → IsWell (reply limit s line).next
reply_kept limit = reply_keeps limit IsWell (keeps limit)

pub out_kept : (limit : ℕ) (script : List ℕ) (M : ℕ → Bool) → Each (λ r. IsWell r.next) (out (reply limit) script M)
out_kept limit = out_keeps limit IsWell (keeps limit) opening_well

last_kept : (rs : List Reply) → Each (λ r. IsWell r.next) rs → IsWell (last_system rs)
last_kept [] h = opening_well
last_kept (r ∷ []) h = h.0
last_kept (r ∷ q ∷ rs) h = last_kept (q ∷ rs) h.1

pub session_kept : (limit : ℕ) (script : List ℕ) (M : ℕ → Bool) → IsWell (last_system (out (reply limit) script M))
session_kept limit script M = last_kept (out (reply limit) script M) (out_kept limit script M)

-- so what `show` prints of it gives it again
pub session_shown : (limit : ℕ) (script : List ℕ) (M : ℕ → Bool) → Each (λ r. IsReadBack r.next) (out (reply limit) script M)
session_shown limit script M =
    each_more (λ r. IsWell r.next) (λ r. IsReadBack r.next) (out (reply limit) script M) (λ r w. shown-back r.next w.0 w.1) (out_kept limit script M)

-- and its lines stand as they are read
pub session_plain : (limit : ℕ) (script : List ℕ) (M : ℕ → Bool) → Each (λ r. Each IsPlainLine (lines_of (show_text r.next))) (out (reply limit) script M)
session_plain limit script M =
    each_more (λ r. IsWell r.next) (λ r. Each IsPlainLine (lines_of (show_text r.next))) (out (reply limit) script M) (λ r w. shown-plain r.next w.0 w.1) (out_kept limit script M)
