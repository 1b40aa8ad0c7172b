use Rattle.std.proofs.Common.{true, ◌&&◌, refl}
use Rattle.lsys_session.specs.Given.{given_reply}
use Rattle.lsys_session.specs.declared.request.Request.TheVariants.{Edit}
use Rattle.lsys_session.proofs.session.Session.restore.Goals as goal

pub returns-clause-leads : goal.returns-clause-leads
returns-clause-leads g c =
    let gives = c.edit.ensures.gives in
    record {
      lacks = gives.lacks && true;
      reply = given_reply (g.D.Derivation.limit_of c.args.self.now) (g.D.Derivation.system_of c.args.self.now) (Edit c.args.system) gives.lacks;
      is = refl;
      says = gives.says;
      next = gives.next;
    }
