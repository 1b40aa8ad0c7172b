use Rattle.std.proofs.Common.{◌≡◌, length, ap, sym, ◌∙◌, rules}
use Rattle.lsys_walks.proofs.Decoding.{length_decoded}
use Rattle.lsys_walks.proofs.trace.Trace.len.Goals as goal

pub returns : goal.returns
returns c =
    let n : c.len.result ≡ length c.self.inside.entries.items = search rules in
    n ∙ sym (length_decoded c.self.inside.entries.items c.self.inside.values.items) ∙ ap length c.self.view_is
