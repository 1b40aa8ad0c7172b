-- A system with every part, and what show prints of it.
use Rattle.std.specs.Prelude.{◌≡◌, Some, None, [], ◌∷◌, codes, pos, negsuc, refl}
use Rattle.std.specs.Fmt.{digits}
use Rattle.lsys_syntax.specs.Tokens.{NameText, short, long}
use Rattle.lsys_syntax.specs.Strings.{ModuleName, named, plus, Module, Push, Pop, Cut}
use Rattle.lsys_syntax.specs.Expressions.{only_and, only_rel, only_sum, compare, less, greater, Sum, only_term, only_unary, product, multiply, Unary, negated, inverted, only_atom, raised, number, name}
use Rattle.lsys_syntax.specs.Rules.{Rule}
use Rattle.lsys_syntax.specs.Commands.{hexagonal, by_name, to_consider}
use Rattle.lsys_spec.specs.Systems.{System, main}
use Rattle.lsys_spec.specs.Shown.{show_text}

abbrev letter_x : NameText
letter_x = short 120

abbrev f_a : ModuleName
f_a = named (long 70 (97 ∷ []))

abbrev f_b : ModuleName
f_b = named (long 70 (98 ∷ []))

abbrev a : ModuleName
a = named (short 65)

abbrev b : ModuleName
b = named (short 66)

abbrev of_unary : Unary → Sum
of_unary u = only_term (only_unary u)

-- A => AB
abbrev pub bare : Rule
bare = record {
  left = [];
  name = a;
  formals = [];
  right = [];
  condition = None;
  weight = None;
  successor = Module a [] ∷ Module b [] ∷ [];
}

-- F_a F_b < A(x) > [+B]B : !x<-1 @ 2*x => F_a(x^2)[B]%
abbrev pub rich : Rule
rich = record {
  left = Module f_a [] ∷ Module f_b [] ∷ [];
  name = a;
  formals = letter_x ∷ [];
  right = Push ∷ Module plus [] ∷ Module b [] ∷ Pop ∷ Module b [] ∷ [];
  condition = Some (only_and (only_rel (compare (of_unary (inverted (only_atom (name letter_x)))) less (of_unary (negated (only_atom (number 1)))))));
  weight = Some (only_and (only_rel (only_sum (only_term (product (only_unary (only_atom (number 2))) multiply (only_atom (name letter_x)))))));
  successor = Module f_a (only_and (only_rel (only_sum (of_unary (raised (name letter_x) (only_atom (number 2)))))) ∷ []) ∷ Push ∷ Module b [] ∷ Pop ∷ Cut ∷ [];
}

-- B(x) : x>0 => [+]
abbrev pub image_rule : Rule
image_rule = record {
  left = [];
  name = b;
  formals = letter_x ∷ [];
  right = [];
  condition = Some (only_and (only_rel (compare (of_unary (only_atom (name letter_x))) greater (of_unary (only_atom (number 0))))));
  weight = None;
  successor = Push ∷ Module plus [] ∷ Pop ∷ [];
}

abbrev pub full_system : System
full_system = record {
  axiom_string = Module a (negsuc 2 ∷ pos 4 ∷ []) ∷ Push ∷ Module f_a [] ∷ Module b [] ∷ Pop ∷ Cut ∷ [];
  rules = record { table = main; label = codes "a"; rule = bare } ∷ record { table = codes "winter"; label = codes "w"; rule = rich } ∷ [];
  schedule = main ∷ codes "winter" ∷ [];
  ignored = plus ∷ f_a ∷ [];
  homomorphisms = record { label = codes "h"; rule = image_rule } ∷ [];
  seed = 7;
  depth = 2;
  lattice = hexagonal;
  version = 2;
  numbering = by_name;
  own = record { table = codes "winter"; kind = to_consider; names = a ∷ f_a ∷ [] } ∷ [];
}

pub sample_row : show_text full_system ≡ codes "version 2\nlineage names\nlattice hexagonal\nseed 7\naxiom A(-3,4)[F_a B]%\nignore +F_a\nproduction main a: A => AB\nproduction winter w: F_a F_b < A(x) > [+B]B : !x<-1 @ 2*x => F_a(x^2)[B]%\nhom h: B(x) : x>0 => [+]\nconsider winter: AF_a\nschedule main winter\ndepth 2\n"
unfolding digits
sample_row = refl
