use Rattle.std.proofs.Common.{map, length, ap, ◌∙◌, sym, rules}
use Rattle.std.proofs.lemmas.List.{length-map}
use Rattle.lsys_bodies.specs.Views.{template_of}
use Rattle.lsys_hom.specs.Parts.{symbols_of}
use Rattle.lsys_hom.proofs.Templates.{as_many}
use Rattle.lsys_hom.proofs.part.Part.len.Goals as goal

pub returns-in-Successor : goal.returns-in-Successor
returns-in-Successor c =
    let ts = c.in-Successor.templates.now in
    sym (length-map ts template_of) ∙ sym (as_many (map template_of ts) c.in-Successor.params.now (search rules)) ∙ ap (λ p. length (symbols_of p)) (sym c.in-Successor.is)
