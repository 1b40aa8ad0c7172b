use Rattle.std.proofs.Common.{◌≡◌, ◌∙◌, sym, ap, refl, rules, Some, option_map}
use Rattle.lsys_spec.specs.Pictures.{place_ahead}
use Rattle.lsys_lattice.specs.Views.{vector_of}
use Rattle.lsys_turtle.specs.Ways.{place_in_reach}
use Rattle.lsys_turtle.proofs.Reaches.{near, near_within}
use Rattle.lsys_turtle.proofs.pose.Stance.go.Goals as goal

pub invariant_of-self : goal.invariant_of-self
invariant_of-self g c =
    let v = place_ahead c.args.steps c.args.self.now in
    let ahead : option_map vector_of c.ahead.result ≡ place_in_reach v = search rules in
    let found : place_in_reach v ≡ Some (vector_of c.in-Some.place) = sym ahead ∙ ap (option_map vector_of) c.in-Some.is in
    near_within v (vector_of c.in-Some.place) found

pub returns-in-Some : goal.returns-in-Some
returns-in-Some g c =
    let v = place_ahead c.args.steps c.args.self.now in
    let ahead : option_map vector_of c.ahead.result ≡ place_in_reach v = search rules in
    let found : place_in_reach v ≡ Some (vector_of c.in-Some.place) = sym ahead ∙ ap (option_map vector_of) c.in-Some.is in
    let told = near v (vector_of c.in-Some.place) found in
    record { gone = (told.0, rw (told.1, sym c.self.view_is) refl) }
