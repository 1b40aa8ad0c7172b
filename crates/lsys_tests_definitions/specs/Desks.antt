-- Replies to scripts, from conformance/definition_cases/desks.jsonl. conformance/definitions --keep writes this file.
use Rattle.std.specs.Prelude.{◌≡◌, ℕ, List, [], ◌∷◌, ◌++◌, codes, refl}
use Rattle.std.specs.Fmt.{digits}
use Rattle.lsys_spec.specs.Output.{none, output_text}
use Rattle.lsys_history.specs.Desks.{desk_out}

abbrev run : ℕ → List ℕ → List ℕ
run limit script = output_text (desk_out limit script none)

-- a homomorphism of a turn
pub case_0 : run 100000 ((codes "axiom AA\nhom h: A => F(2)+\nsegments\nbounds\nat 2\nat 5\n")) ≡ ((codes "ok 0/0\nok 0/0\nsegments 2\n0 0 0 0 2 0 1\n0 2 0 -2 2 0 1\nbounds -2 0 0 2 0 0\nat 0 2 0 -1 0 0 1\nrefused place 4\n"))
unfolding digits
case_0 = refl

-- a turtle that moves too far
pub case_1 : run 100000 ((codes "axiom f(1000000000)f\nbounds\nat 1\n")) ≡ ((codes "ok 0/0\nrefused far 2\nrefused far 2\n"))
unfolding digits
case_1 = refl

-- an edit after an undo forgets what was undone
pub case_2 : run 100000 ((codes "axiom A\nproduction a: A => AB\ndepth 2\naxiom AA\naxiom AAA\nundo\nundo\nstring\naxiom B\nredo\nstring\nundo\nstring\nredo\nstring\nundo\naxiom C\nundo\nundo\nundo\nundo\nundo\nstring\nredo\nredo\nredo\nredo\nredo\nstring\n")) ≡ ((codes "ok 0/0\nok 0/0\nok 2/2\nok 2/4\nok 2/6\nok 0/4\nok 0/2\nABB\nok 0/0\nrefused redo\nB\nok 2/2\nABB\nok 0/0\nB\nok 2/2\nok 0/0\nok 2/2\nok 0/0\nok 0/0\nok 0/0\nrefused undo\n\nok 0/0\nok 0/0\nok 2/2\nok 0/0\nrefused redo\nC\n"))
unfolding digits
case_2 = refl

-- an edit that changes nothing is a step
pub case_3 : run 100000 ((codes "axiom A\naxiom A\nproduction a: A => B\ndepth 1\nproduction a: A => B\nundo\nundo\nstring\nundo\nstring\nundo\nundo\nundo\n")) ≡ ((codes "ok 0/0\nok 0/0\nok 0/0\nok 1/1\nok 0/1\nok 0/1\nok 0/0\nA\nok 0/0\nA\nok 0/0\nok 0/0\nrefused undo\n"))
unfolding digits
case_3 = refl

-- an image that fails has no bounds
pub case_4 : run 100000 ((codes "axiom AB\nhom h: B => F(1/0)\nbounds\nat 0\n")) ≡ ((codes "ok 0/0\nok 0/0\nrefused fault divide-by-zero image 2\nrefused fault divide-by-zero image 2\n"))
unfolding digits
case_4 = refl

-- an undo and a redo of algae
pub case_5 : run 100000 ((codes "undo\naxiom A\nproduction a: A => AB\nproduction b: B => A\ndepth 5\nproduction b: B => B\nundo\nstring\nredo\nredo\nstring\naxiom B\nredo\nundo x\n")) ≡ ((codes "refused undo\nok 0/0\nok 0/0\nok 0/0\nok 19/19\nok 10/15\nok 14/19\nABAABABAABAAB\nok 10/15\nrefused redo\nABBBBB\nok 5/5\nrefused redo\nrefused syntax token 1\n"))
unfolding digits
case_5 = refl

-- an undo of each kind of edit
pub case_6 : run 100000 ((codes "version 2\nlineage names\naxiom A(3)\nproduction a: A(x) : x > 0 => A(x-1)B\nproduction winter w: B => C\nignore +-\nschedule main winter\nconsider winter: AB\nseed 7\nlattice hexagonal\nhom h: C => F\ndepth 4\nsegments\ndrop w\ndrop a\nshow\nundo\nshow\nundo\nundo\nundo\nundo\nundo\nundo\nundo\nundo\nundo\nundo\nundo\nshow\nredo\nredo\nredo\nredo\nredo\nredo\nredo\nredo\nredo\nredo\nredo\nredo\nshow\nstring\n")) ≡ ((codes "ok 0/0\nok 0/0\nok 0/0\nok 0/0\nok 0/0\nok 0/0\nok 0/0\nok 0/0\nok 0/0\nok 0/0\nok 0/0\nok 4/4\nsegments 2\n0 0 0 1 0 0 1\n1 0 0 2 0 0 1\nrefused table 6\nok 0/0\nversion 2\nlineage names\nlattice hexagonal\nseed 7\naxiom A(3)\nignore +-\nproduction winter w: B => C\nhom h: C => F\nconsider winter: AB\nschedule main winter\ndepth 4\nok 4/4\nversion 2\nlineage names\nlattice hexagonal\nseed 7\naxiom A(3)\nignore +-\nproduction main a: A(x) : x>0 => A(x-1)B\nproduction winter w: B => C\nhom h: C => F\nconsider winter: AB\nschedule main winter\ndepth 4\nok 0/0\nok 0/0\nok 0/0\nok 0/0\nok 0/0\nok 0/0\nok 0/0\nok 0/0\nok 0/0\nok 0/0\nok 0/0\nversion 2\nlattice square\nseed 0\naxiom\nignore\nschedule main\ndepth 0\nok 0/0\nok 0/0\nok 0/0\nok 0/0\nok 0/0\nok 0/0\nok 0/0\nok 0/0\nok 0/0\nok 0/0\nok 4/4\nok 0/0\nversion 2\nlineage names\nlattice hexagonal\nseed 7\naxiom A(3)\nignore +-\nproduction winter w: B => C\nhom h: C => F\nconsider winter: AB\nschedule main winter\ndepth 4\nA(3)\n"))
unfolding digits
case_6 = refl

-- bounds and places are refused as pictures are
pub case_7 : run 100000 ((codes "axiom A(0)B(1)\nhom h: A(x) => F(1/x)\nbounds\nat 0\nat 100\nsegments\naxiom A(1)B(0)\nbounds\nhom g: B(x) => f(1000000000)F(x)\nbounds\nat 0\naxiom A(1)B(1)\nbounds\nat 0\nat 1\nat 3\nat 4\naxiom A(1)A(0)f(1000000000)f(2)\nat 9\nbounds\naxiom f(1000000000)[F]\nbounds\nat 3\naxiom F(-1000000000)\nbounds\nat 1\nlattice hexagonal\naxiom F(1000000000)+F\nbounds\naxiom F(1000000000)-F(1000000000)\nbounds\naxiom F(1000000000)F(9223372036854775807)\nbounds\nat 1\n")) ≡ ((codes "ok 0/0\nok 0/0\nrefused fault divide-by-zero image 1\nrefused fault divide-by-zero image 1\nrefused fault divide-by-zero image 1\nrefused fault divide-by-zero image 1\nok 0/0\nbounds 0 0 0 1 0 0\nok 0/0\nrefused far 2\nrefused far 2\nok 0/0\nrefused far 2\nrefused far 2\nrefused far 2\nrefused far 2\nrefused far 2\nok 0/0\nrefused fault divide-by-zero image 2\nrefused fault divide-by-zero image 2\nok 0/0\nrefused far 2\nrefused far 2\nok 0/0\nbounds 0 0 -1000000000 0 0 0\nat 0 -1000000000 0 0 1 0 1\nok 0/0\nok 0/0\nbounds 0 1000000000 0 1 0 1000000001\nok 0/0\nrefused far 3\nok 0/0\nrefused far 2\nrefused far 2\n"))
unfolding digits
case_7 = refl

-- bounds and places of a homomorphism
pub case_8 : run 100000 ((codes "axiom AA\nhom h: A => F(2)+\nbounds\nat 0\nat 1\nat 2\nat 3\nat 4\nat 5\nstring\n")) ≡ ((codes "ok 0/0\nok 0/0\nbounds -2 0 0 2 0 0\nat 0 0 0 0 1 0 1\nat 0 2 0 0 1 0 1\nat 0 2 0 -1 0 0 1\nat -2 2 0 -1 0 0 1\nat -2 2 0 0 -1 0 1\nrefused place 4\nAA\n"))
unfolding digits
case_8 = refl

-- bounds and places on the cubic lattice
pub case_9 : run 100000 ((codes "lattice cubic\naxiom A\nproduction a: A => F[&A]\\^A\nhom h: A => !(3)F(2)\ndepth 3\nbounds\nat 9\nat 30\nat 44\nat 45\n")) ≡ ((codes "ok 0/0\nok 0/0\nok 0/0\nok 0/0\nok 7/7\nbounds -3 1 -1 3 -3 1\nat 0 0 -1 0 0 1 1\nat 0 1 0 0 1 0 1\nat -1 2 0 0 0 -1 3\nat -1 2 -2 0 0 -1 3\n"))
unfolding digits
case_9 = refl

-- bounds and places on the hexagonal lattice
pub case_10 : run 100000 ((codes "lattice hexagonal\naxiom A\nproduction a: A => F[+A]-A\ndepth 3\nbounds\nat 7\nat 29\n")) ≡ ((codes "ok 0/0\nok 0/0\nok 0/0\nok 7/7\nbounds 0 3 -2 2 0 3\nat 0 2 0 -1 1 0 1\nat 3 -1 0 1 0 0 1\n"))
unfolding digits
case_10 = refl

-- bounds on three lattices
pub case_11 : run 100000 ((codes "; The third measure is z on the square and the cubic lattice, and x + y on the hexagonal one.\naxiom F+F+F+F+F+F\nbounds\nlattice hexagonal\nbounds\nlattice cubic\nbounds\naxiom F(2)&F(3)\\+F(4)/-F(-5)^F\nbounds\nlattice hexagonal\nbounds\nlattice square\nbounds\naxiom F(-3)-F(7)|F(2)\nbounds\nlattice hexagonal\nbounds\n")) ≡ ((codes "ok 0/0\nbounds -1 0 0 1 0 0\nok 0/0\nbounds -1 1 0 2 0 2\nok 0/0\nbounds -1 0 0 1 0 0\nok 0/0\nbounds -5 0 -2 2 -4 0\nok 0/0\nbounds 0 5 0 4 0 9\nok 0/0\nbounds -4 0 0 5 0 0\nok 0/0\nbounds 0 7 -3 0 0 0\nok 0/0\nbounds -3 4 -7 0 -3 0\n"))
unfolding digits
case_11 = refl

-- desk lines are told by their tokens
pub case_12 : run 100000 ((codes "undo\n undo\n\tredo\t\nundo x\nundo;\nUndo\nundoredo\nredo 1\ngrowth\ngrowth x\ngrowth 1 2\ngrowth 0\n growth\t007\ngrowth 18446744073709551616\n;undo\nundo_\n")) ≡ ((codes "refused undo\nrefused undo\nrefused redo\nrefused syntax token 1\nrefused syntax byte 5\nrefused syntax token 1\nrefused syntax token 1\nrefused syntax token 1\nrefused syntax token 1\nrefused syntax token 1\nrefused syntax token 1\ngrowth 0\ngrowth 0\nrefused syntax token 1\nrefused syntax token 1\n"))
unfolding digits
case_12 = refl

-- growth of more than sixty three letters
pub case_16 : run 100000 ((codes "axiom ABCDEFGHIJKLMNOPQRSTUVWXYZabcdefghijklmnopqrstuvwxyz+-&^\\/|!A_1 A_2 A_3\ngrowth 0\nproduction a: A => [A_4]\ngrowth 0\ndrop a\nproduction p: A_4 => A\ngrowth 1\n")) ≡ ((codes "ok 0/0\ngrowth 63\n! 1\n& 1\n+ 1\n- 1\n/ 1\nA 1\nA_1 1\nA_2 1\nA_3 1\nB 1\nC 1\nD 1\nE 1\nF 1\nG 1\nH 1\nI 1\nJ 1\nK 1\nL 1\nM 1\nN 1\nO 1\nP 1\nQ 1\nR 1\nS 1\nT 1\nU 1\nV 1\nW 1\nX 1\nY 1\nZ 1\n\\ 1\n^ 1\na 1\nb 1\nc 1\nd 1\ne 1\nf 1\ng 1\nh 1\ni 1\nj 1\nk 1\nl 1\nm 1\nn 1\no 1\np 1\nq 1\nr 1\ns 1\nt 1\nu 1\nv 1\nw 1\nx 1\ny 1\nz 1\n| 1\nok 0/0\nrefused letters\nok 0/0\nok 0/0\nrefused letters\n"))
unfolding digits
case_16 = refl

-- growth refused outside its class
pub case_18 : run 100000 ((codes "axiom A\nproduction a: A => A\ngrowth 3\nproduction b: B(x) => B\ngrowth 3\ndrop b\nproduction b: A < B => A\ngrowth 3\nproduction b: B > [] => A\ngrowth 3\nproduction b: B : 1 => A\ngrowth 3\nproduction b: B @ 1 => A\ngrowth 3\nproduction b: B => A(1)\ngrowth 3\nproduction b: B => A%\ngrowth 3\nproduction winter b2: B => A(1)\ngrowth 3\ndrop b\ngrowth 3\ndrop b2\ngrowth 3\naxiom A(1)\ngrowth 3\naxiom A%\ngrowth 3\naxiom A\nhom h: A(x) => F\ngrowth 3\n")) ≡ ((codes "ok 0/0\nok 0/0\ngrowth 1\nA 1\nok 0/0\nrefused growth\nok 0/0\nok 0/0\nrefused growth\nok 0/0\nrefused growth\nok 0/0\nrefused growth\nok 0/0\nrefused growth\nok 0/0\nrefused growth\nok 0/0\nrefused growth\nok 0/0\nrefused growth\nok 0/0\nrefused growth\nok 0/0\ngrowth 1\nA 1\nok 0/0\nrefused growth\nok 0/0\nrefused growth\nok 0/0\nok 0/0\ngrowth 1\nA 1\n"))
unfolding digits
case_18 = refl

-- lines of the picture are told by their tokens
pub case_20 : run 100000 ((codes "bounds\n bounds\n\tbounds\t\nbounds 1\nbounds bounds\nbounds;\nBounds\nboundss\nat\nat x\nat 1 2\nat -1\nat(1)\nat 1;\nAt 1\nat0\nat 0\n at\t000\nat 18446744073709551616\n;at 0\nat_ 0\naxiom at\nat 0\nat 2\nstring\n")) ≡ ((codes "bounds 0 0 0 0 0 0\nbounds 0 0 0 0 0 0\nbounds 0 0 0 0 0 0\nrefused syntax token 1\nrefused syntax token 1\nrefused syntax byte 7\nrefused syntax token 1\nrefused syntax token 1\nrefused syntax token 1\nrefused syntax token 1\nrefused syntax token 1\nrefused syntax token 1\nrefused syntax token 1\nrefused syntax byte 5\nrefused syntax token 1\nrefused syntax token 1\nat 0 0 0 0 1 0 1\nat 0 0 0 0 1 0 1\nrefused syntax token 1\nrefused syntax token 1\nok 0/0\nat 0 0 0 0 1 0 1\nat 0 0 0 0 1 0 1\nat\n"))
unfolding digits
case_20 = refl

-- moves and branches in bounds and places
pub case_21 : run 100000 ((codes "axiom F[+F]Ff(7)\nbounds\nat 0\nat 5\nat 7\nat 8\n")) ≡ ((codes "ok 0/0\nbounds -1 0 0 2 0 0\nat 0 0 0 0 1 0 1\nat 0 1 0 0 1 0 1\nat 0 9 0 0 1 0 1\nrefused place 4\n"))
unfolding digits
case_21 = refl

-- moves without a segment are not in the bounds
pub case_22 : run 100000 ((codes "bounds\naxiom f(7)\nbounds\nat 1\naxiom F[+F]Ff(7)\nbounds\nat 7\naxiom f(7)+f(-3)F-f(100)\nbounds\nat 4\nat 6\naxiom F(0)\nbounds\naxiom f(5)F(0)\nbounds\naxiom f(1000000000)\nbounds\n")) ≡ ((codes "bounds 0 0 0 0 0 0\nok 0/0\nbounds 0 0 0 0 0 0\nat 0 7 0 0 1 0 1\nok 0/0\nbounds -1 0 0 2 0 0\nat 0 9 0 0 1 0 1\nok 0/0\nbounds 0 3 0 7 0 0\nat 2 7 0 -1 0 0 1\nat 2 107 0 0 1 0 1\nok 0/0\nbounds 0 0 0 0 0 0\nok 0/0\nbounds 0 0 0 5 0 0\nok 0/0\nbounds 0 0 0 0 0 0\n"))
unfolding digits
case_22 = refl

-- places around a hexagon
pub case_23 : run 100000 ((codes "lattice hexagonal\naxiom F+F+F+F+F+F\nat 3\nat 11\nat 12\n")) ≡ ((codes "ok 0/0\nok 0/0\nat 1 1 0 0 1 0 1\nat 0 0 0 1 -1 0 1\nrefused place 4\n"))
unfolding digits
case_23 = refl

-- places after an edit
pub case_24 : run 100000 ((codes "axiom F\nat 1\naxiom F(2)\nat 1\nundo\nbounds\n")) ≡ ((codes "ok 0/0\nat 0 1 0 0 1 0 1\nok 0/0\nat 0 2 0 0 1 0 1\nok 0/0\nbounds 0 0 0 1 0 0\n"))
unfolding digits
case_24 = refl

-- places after each symbol of a homomorphism
pub case_25 : run 100000 ((codes "axiom AA\nhom h: A => F(2)+\nat 0\nat 1\nat 2\nat 3\nat 4\nat 5\n")) ≡ ((codes "ok 0/0\nok 0/0\nat 0 0 0 0 1 0 1\nat 0 2 0 0 1 0 1\nat 0 2 0 -1 0 0 1\nat -2 2 0 -1 0 0 1\nat -2 2 0 0 -1 0 1\nrefused place 4\n"))
unfolding digits
case_25 = refl

-- places after every symbol of the image
pub case_26 : run 100000 ((codes "; After the end of a branch place, heading and width are what they were before it.\naxiom F[!(3)+F[-F]f]F\nat 0\nat 1\nat 2\nat 3\nat 4\nat 5\nat 6\nat 7\nat 8\nat 9\nat 10\nat 11\nat 12\nat 13\nlattice hexagonal\nat 5\nat 8\nat 9\nat 10\naxiom !(2000)F!(-4)F!\nat 1\nat 2\nat 3\nat 4\nat 5\n")) ≡ ((codes "ok 0/0\nat 0 0 0 0 1 0 1\nat 0 1 0 0 1 0 1\nat 0 1 0 0 1 0 1\nat 0 1 0 0 1 0 3\nat 0 1 0 -1 0 0 3\nat -1 1 0 -1 0 0 3\nat -1 1 0 -1 0 0 3\nat -1 1 0 0 1 0 3\nat -1 2 0 0 1 0 3\nat -1 1 0 -1 0 0 3\nat -2 1 0 -1 0 0 3\nat 0 1 0 0 1 0 1\nat 0 2 0 0 1 0 1\nrefused place 4\nok 0/0\nat 1 1 0 0 1 0 3\nat 2 1 0 1 0 0 3\nat 1 1 0 0 1 0 3\nat 1 2 0 0 1 0 3\nok 0/0\nat 0 0 0 1 0 0 1000\nat 1 0 0 1 0 0 1000\nat 1 0 0 1 0 0 1\nat 2 0 0 1 0 0 1\nat 2 0 0 1 0 0 1\n"))
unfolding digits
case_26 = refl

-- places on deeper levels
pub case_27 : run 100000 ((codes "axiom A\nproduction a: A => F[+A]-A\ndepth 3\nbounds\nat 5\nat 12\nat 29\nat 31\nat 40\nat 41\nlattice hexagonal\nbounds\nat 7\nat 29\nlattice cubic\nproduction a: A => F[&A]\\^A\nhom h: A => !(3)F(2)\nbounds\nat 9\nat 30\nat 44\nat 45\nproduction a: A => F[&A%]\\^A%\nbounds\nat 9\nat 17\nat 18\nstring\nhom f: F =>\nhom g: A => [F]f\nbounds\nat 0\nat 7\nat 12\nat 100\n")) ≡ ((codes "ok 0/0\nok 0/0\nok 7/7\nbounds -1 1 0 2 0 0\nat -1 1 0 -1 0 0 1\nat -1 0 0 -1 0 0 1\nat 1 2 0 0 1 0 1\nat 1 2 0 -1 0 0 1\nat 1 0 0 1 0 0 1\nat 1 0 0 0 -1 0 1\nok 0/7\nbounds 0 3 -2 2 0 3\nat 0 2 0 -1 1 0 1\nat 3 -1 0 1 0 0 1\nok 0/7\nok 7/7\nok 0/7\nbounds -3 1 -1 3 -3 1\nat 0 0 -1 0 0 1 1\nat 0 1 0 0 1 0 1\nat -1 2 0 0 0 -1 3\nat -1 2 -2 0 0 -1 3\nok 7/7\nbounds -3 1 -1 3 -3 1\nat 0 0 -1 0 0 1 1\nat 0 1 -1 0 0 -1 1\nat 0 1 -1 0 0 -1 1\nF[&F[&F[&A]\\^A]\\^F[&A]\\^A]\\^F[&F[&A]\\^A]\\^F[&A]\\^A\nok 0/7\nok 0/7\nbounds -2 2 -2 2 -2 2\nat 0 0 0 0 1 0 1\nat 0 0 0 0 0 1 3\nat 0 0 0 -1 0 0 3\nrefused place 4\n"))
unfolding digits
case_27 = refl

-- places past the image are refused
pub case_28 : run 100000 ((codes "at 0\nat 1\naxiom [[F]+]\nat 6\nat 7\n\tat   0007\nat 18446744073709551615\nat 4294967295\nat 4294967296\nat 4294967298\nhom h: F => FFFF\nat 9\nat 10\n")) ≡ ((codes "at 0 0 0 0 1 0 1\nrefused place 4\nok 0/0\nat 0 0 0 0 1 0 1\nrefused place 4\nrefused place 7\nrefused place 4\nrefused place 4\nrefused place 4\nrefused place 4\nok 0/0\nat 0 0 0 0 1 0 1\nrefused place 4\n"))
unfolding digits
case_28 = refl

-- refused lines and queries are no steps
pub case_29 : run 100000 ((codes "; the opening has no past\nundo\nredo\naxiom A\naxiom A(\nstring\nproduction a: A(x) => A(1/x)\n\n; a comment\naxiom A(0)\ndepth 1\ndepth 65\nstring 1\nsvg\nshow\nundo\nstring\nundo\nundo\nstring\nredo\nredo\nredo\ndepth 1\nredo\n")) ≡ ((codes "refused undo\nrefused redo\nok 0/0\nrefused syntax token 9\nA\nok 0/0\nok 0/0\nrefused fault divide-by-zero level 0 module 1\nrefused many 7\nrefused level 8\n<svg xmlns=\"http://www.w3.org/2000/svg\" viewBox=\"-10 -10 20 20\">\n</svg>\nlattice square\nseed 0\naxiom A(0)\nignore\nproduction main a: A(x) => A(1/x)\nschedule main\ndepth 0\nok 0/0\nA\nok 0/0\nok 0/0\n\nok 0/0\nok 0/0\nok 0/0\nrefused fault divide-by-zero level 0 module 1\nrefused redo\n"))
unfolding digits
case_29 = refl

-- the hexagonal lattice
pub case_30 : run 100000 ((codes "lattice hexagonal\naxiom F+F+F+F+F+F\nsegments\nbounds\n")) ≡ ((codes "ok 0/0\nok 0/0\nsegments 6\n0 0 0 1 0 0 1\n1 0 0 1 1 0 1\n1 1 0 0 2 0 1\n0 2 0 -1 2 0 1\n-1 2 0 -1 1 0 1\n-1 1 0 0 0 0 1\nbounds -1 1 0 2 0 2\n"))
unfolding digits
case_30 = refl

-- the width after a branch
pub case_31 : run 100000 ((codes "axiom F[!(3)+F]F\nat 5\nat 6\n")) ≡ ((codes "ok 0/0\nat -1 1 0 -1 0 0 3\nat 0 1 0 0 1 0 1\n"))
unfolding digits
case_31 = refl

-- undo and redo of an edit
pub case_32 : run 100000 ((codes "axiom A\nproduction a: A => AB\nproduction b: B => A\ndepth 5\nstring\nproduction b: B => B\nstring\nundo\nstring\nredo\nstring\nredo\n")) ≡ ((codes "ok 0/0\nok 0/0\nok 0/0\nok 19/19\nABAABABAABAAB\nok 10/15\nABBBBB\nok 14/19\nABAABABAABAAB\nok 10/15\nABBBBB\nrefused redo\n"))
unfolding digits
case_32 = refl
