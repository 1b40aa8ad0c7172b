use Rattle.std.proofs.Common.{◌≡◌, ◌++◌, ◌∷◌, [], List, true, false, refl, sym, subst, rules}
use Rattle.lsys_syntax.specs.Strings.{balanced}
use Rattle.lsys_module.specs.Views.{string_of}
use Rattle.lsys_module.specs.declared.symbol.Symbol.{Symbol}
use Rattle.lsys_module.specs.declared.symbol.Symbol.TheVariants.{Module}
use Rattle.lsys_level.specs.Places.{has_cut}
use Rattle.lsys_tests_levels.proofs.Rows.{balanced-append, whole-append}
use Rattle.lsys_tests_levels.proofs.walks.add_letter.Goals as goal

pub returns-clause-balance : goal.returns-clause-balance
returns-clause-balance g c =
    let items : c.push.new.self.items ≡ c.args.symbols.now.items ++ Module c.letter.result ∷ [] = search rules in
    subst (λ (xs : List Symbol). balanced 0 (string_of xs) ≡ true) (sym items) (balanced-append 0 c.args.symbols.now.items (Module c.letter.result ∷ []) c.requires.balance refl)

pub returns-clause-whole : goal.returns-clause-whole
returns-clause-whole g c =
    let items : c.push.new.self.items ≡ c.args.symbols.now.items ++ Module c.letter.result ∷ [] = search rules in
    subst (λ (xs : List Symbol). has_cut xs ≡ false) (sym items) (whole-append c.args.symbols.now.items (Module c.letter.result ∷ []) c.requires.whole refl)
