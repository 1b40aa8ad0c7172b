use Rattle.std.proofs.Common.{◌∷◌}
use Rattle.std.proofs.lemmas.Result.{err_from_is_err_and}
use Rattle.lsys_syntax.specs.Tokens.{Colon, At, Arrow}
use Rattle.lsys_syntax.specs.Pieces.{note, token, a_symbol, predecessor_begins}
use Rattle.lsys_syntax.specs.Strings.{params_pieces, name_kind}
use Rattle.lsys_syntax.specs.Rules.{formal_pieces, left_pieces, right_pieces, option_pieces, successor_pieces}
use Rattle.lsys_module.specs.Views.{module_name}
use Rattle.lsys_reading.specs.Heads.{patterns_of, formals_of}
use Rattle.lsys_reading.specs.Spans.{option_at}
use Rattle.lsys_reading.specs.Images.{images_at}
use Rattle.lsys_bodies.proofs.CountLoops.{counts-section, section-is}
use Rattle.lsys_bodies.proofs.WholeCount.{at_predecessor, at_right, at_condition, at_weight, at_arrow, at_end}
use Rattle.lsys_bodies.proofs.many.count_rule.Goals as goal

pub returns-in_err-predecessor : goal.returns-in_err-predecessor
returns-in_err-predecessor c ks h =
    let r = c.args.rule.now in
    let left = left_pieces (patterns_of r.left.items) in
    let inner = note a_symbol ∷ token (name_kind (module_name r.predecessor.name)) ∷ params_pieces formal_pieces (formals_of r.predecessor) in
    let predecessor = note predecessor_begins ∷ inner in
    let right = right_pieces (patterns_of r.right.items) in
    let condition = option_pieces Colon (option_at ks r.condition) in
    let weight = option_pieces At (option_at ks r.weight) in
    let successor = successor_pieces (images_at ks r.successor.items) in
    let s = c.section.ensures in
    let is = section-is c.in_ok-left.left c.section.result 1 s.tokens s.symbols s.most s.params in
    let p = err_from_is_err_and c.from_residual-in_err-predecessor.result c.from_residual-in_err-predecessor.ensures.1 in
    rw (p.1, p.2) (at_predecessor left predecessor right condition weight successor (rw c.deref.ensures.value at c.in_ok-left.ensures) (counts-section c.in_ok-left.left c.section.result predecessor_begins inner s.tokens is (rw c.deref-2.ensures.value at (c.in_err-predecessor.ensures (name_kind (module_name r.predecessor.name))))))

pub returns-in_err-right : goal.returns-in_err-right
returns-in_err-right c ks h =
    let r = c.args.rule.now in
    let left = left_pieces (patterns_of r.left.items) in
    let inner = note a_symbol ∷ token (name_kind (module_name r.predecessor.name)) ∷ params_pieces formal_pieces (formals_of r.predecessor) in
    let predecessor = note predecessor_begins ∷ inner in
    let right = right_pieces (patterns_of r.right.items) in
    let condition = option_pieces Colon (option_at ks r.condition) in
    let weight = option_pieces At (option_at ks r.weight) in
    let successor = successor_pieces (images_at ks r.successor.items) in
    let s = c.section.ensures in
    let is = section-is c.in_ok-left.left c.section.result 1 s.tokens s.symbols s.most s.params in
    let p = err_from_is_err_and c.from_residual-in_err-right.result c.from_residual-in_err-right.ensures.1 in
    rw (p.1, p.2) (at_right left predecessor right condition weight successor (rw c.deref.ensures.value at c.in_ok-left.ensures) (counts-section c.in_ok-left.left c.section.result predecessor_begins inner s.tokens is (rw c.deref-2.ensures.value at (c.in_ok-predecessor.ensures (name_kind (module_name r.predecessor.name))))) (rw c.deref-3.ensures.value at c.in_err-right.ensures))

pub returns-in_err-condition : goal.returns-in_err-condition
returns-in_err-condition c ks h =
    let r = c.args.rule.now in
    let left = left_pieces (patterns_of r.left.items) in
    let inner = note a_symbol ∷ token (name_kind (module_name r.predecessor.name)) ∷ params_pieces formal_pieces (formals_of r.predecessor) in
    let predecessor = note predecessor_begins ∷ inner in
    let right = right_pieces (patterns_of r.right.items) in
    let condition = option_pieces Colon (option_at ks r.condition) in
    let weight = option_pieces At (option_at ks r.weight) in
    let successor = successor_pieces (images_at ks r.successor.items) in
    let s = c.section.ensures in
    let is = section-is c.in_ok-left.left c.section.result 1 s.tokens s.symbols s.most s.params in
    let p = err_from_is_err_and c.from_residual-in_err-condition.result c.from_residual-in_err-condition.ensures.1 in
    rw (p.1, p.2) (at_condition left predecessor right condition weight successor (rw c.deref.ensures.value at c.in_ok-left.ensures) (counts-section c.in_ok-left.left c.section.result predecessor_begins inner s.tokens is (rw c.deref-2.ensures.value at (c.in_ok-predecessor.ensures (name_kind (module_name r.predecessor.name))))) (rw c.deref-3.ensures.value at c.in_ok-right.ensures) (c.in_err-condition.ensures Colon ks h.condition))

pub returns-in_err-weight : goal.returns-in_err-weight
returns-in_err-weight c ks h =
    let r = c.args.rule.now in
    let left = left_pieces (patterns_of r.left.items) in
    let inner = note a_symbol ∷ token (name_kind (module_name r.predecessor.name)) ∷ params_pieces formal_pieces (formals_of r.predecessor) in
    let predecessor = note predecessor_begins ∷ inner in
    let right = right_pieces (patterns_of r.right.items) in
    let condition = option_pieces Colon (option_at ks r.condition) in
    let weight = option_pieces At (option_at ks r.weight) in
    let successor = successor_pieces (images_at ks r.successor.items) in
    let s = c.section.ensures in
    let is = section-is c.in_ok-left.left c.section.result 1 s.tokens s.symbols s.most s.params in
    let p = err_from_is_err_and c.from_residual-in_err-weight.result c.from_residual-in_err-weight.ensures.1 in
    rw (p.1, p.2) (at_weight left predecessor right condition weight successor (rw c.deref.ensures.value at c.in_ok-left.ensures) (counts-section c.in_ok-left.left c.section.result predecessor_begins inner s.tokens is (rw c.deref-2.ensures.value at (c.in_ok-predecessor.ensures (name_kind (module_name r.predecessor.name))))) (rw c.deref-3.ensures.value at c.in_ok-right.ensures) (c.in_ok-condition.ensures Colon ks h.condition) (c.in_err-weight.ensures At ks h.weight))

pub returns-in_err-arrow : goal.returns-in_err-arrow
returns-in_err-arrow c ks h =
    let r = c.args.rule.now in
    let left = left_pieces (patterns_of r.left.items) in
    let inner = note a_symbol ∷ token (name_kind (module_name r.predecessor.name)) ∷ params_pieces formal_pieces (formals_of r.predecessor) in
    let predecessor = note predecessor_begins ∷ inner in
    let right = right_pieces (patterns_of r.right.items) in
    let condition = option_pieces Colon (option_at ks r.condition) in
    let weight = option_pieces At (option_at ks r.weight) in
    let successor = successor_pieces (images_at ks r.successor.items) in
    let s = c.section.ensures in
    let is = section-is c.in_ok-left.left c.section.result 1 s.tokens s.symbols s.most s.params in
    let p = err_from_is_err_and c.from_residual-in_err-arrow.result c.from_residual-in_err-arrow.ensures.1 in
    rw (p.1, p.2) (at_arrow left predecessor right condition weight successor (rw c.deref.ensures.value at c.in_ok-left.ensures) (counts-section c.in_ok-left.left c.section.result predecessor_begins inner s.tokens is (rw c.deref-2.ensures.value at (c.in_ok-predecessor.ensures (name_kind (module_name r.predecessor.name))))) (rw c.deref-3.ensures.value at c.in_ok-right.ensures) (c.in_ok-condition.ensures Colon ks h.condition) (c.in_ok-weight.ensures At ks h.weight) (c.in_err-arrow.ensures.counted Arrow))

pub returns : goal.returns
returns c ks h =
    let r = c.args.rule.now in
    let left = left_pieces (patterns_of r.left.items) in
    let inner = note a_symbol ∷ token (name_kind (module_name r.predecessor.name)) ∷ params_pieces formal_pieces (formals_of r.predecessor) in
    let predecessor = note predecessor_begins ∷ inner in
    let right = right_pieces (patterns_of r.right.items) in
    let condition = option_pieces Colon (option_at ks r.condition) in
    let weight = option_pieces At (option_at ks r.weight) in
    let successor = successor_pieces (images_at ks r.successor.items) in
    let s = c.section.ensures in
    let is = section-is c.in_ok-left.left c.section.result 1 s.tokens s.symbols s.most s.params in
    at_end left predecessor right condition weight successor (rw c.deref.ensures.value at c.in_ok-left.ensures) (counts-section c.in_ok-left.left c.section.result predecessor_begins inner s.tokens is (rw c.deref-2.ensures.value at (c.in_ok-predecessor.ensures (name_kind (module_name r.predecessor.name))))) (rw c.deref-3.ensures.value at c.in_ok-right.ensures) (c.in_ok-condition.ensures Colon ks h.condition) (c.in_ok-weight.ensures At ks h.weight) (c.in_ok-arrow.ensures.counted Arrow) ((rw c.deref-4.ensures.value at (c.count_successor.ensures ks)) h.successor)
