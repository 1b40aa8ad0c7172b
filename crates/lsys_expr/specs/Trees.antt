-- The trees that the code evaluates, as those of the definitions.
use Rattle.lsys_syntax.specs.Expressions as syntax
use Rattle.lsys_spec.specs.Values as meaning
use Rattle.lsys_expr.specs.declared.operators.Operator.{Operator}
use Rattle.lsys_expr.specs.declared.operators.Operator.TheVariants.{Add, Subtract, Multiply, Divide, Remainder, Power, Equal, Unequal, Less, AtMost, Greater, AtLeast}
use Rattle.lsys_expr.specs.declared.tree.Tree.{Tree, Constant, Formal, Negation', Inversion', Binary', Both', Either'}

-- the operator that the code's operator stands for
abbrev pub operator_of : Operator → meaning.Operator
operator_of Add = meaning.sum_of syntax.add
operator_of Subtract = meaning.sum_of syntax.subtract
operator_of Multiply = meaning.product_of syntax.multiply
operator_of Divide = meaning.product_of syntax.divide
operator_of Remainder = meaning.product_of syntax.remainder
operator_of Power = meaning.power_of
operator_of Equal = meaning.comparison syntax.equal
operator_of Unequal = meaning.comparison syntax.unequal
operator_of Less = meaning.comparison syntax.less
operator_of AtMost = meaning.comparison syntax.at_most
operator_of Greater = meaning.comparison syntax.greater
operator_of AtLeast = meaning.comparison syntax.at_least

-- the tree that the code's tree stands for
abbrev pub tree_of : Tree → meaning.Tree
tree_of (Constant n) = meaning.Constant n
tree_of (Formal i) = meaning.Formal i
tree_of (Negation' p t) = meaning.Negation (tree_of t)
tree_of (Inversion' p t) = meaning.Inversion (tree_of t)
tree_of (Binary' op p t q u) = meaning.Binary (operator_of op) (tree_of t) (tree_of u)
tree_of (Both' p t q u) = meaning.Both (tree_of t) (tree_of u)
tree_of (Either' p t q u) = meaning.Either (tree_of t) (tree_of u)
