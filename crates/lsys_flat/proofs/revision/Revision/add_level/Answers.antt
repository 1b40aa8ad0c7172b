use Rattle.std.proofs.Common.{◌≡◌, ℕ, ◌<◌, ◌^◌, ◌++◌, ◌∷◌, [], List, length, map, get_or, sym, ap, ◌∙◌, subst}
use Rattle.std.proofs.lemmas.List.{length-map}
use Rattle.lsys_spec.specs.Levels.{LevelSymbol}
use Rattle.lsys_flat.specs.Lines.{Descent, line_of, no_line}
use Rattle.lsys_flat.specs.Revised.{IsRevised}
use Rattle.lsys_flat.proofs.Adding.{old_few, old_tags, symbols_length, keys_length, new_length, have_parents, own_view, few_taken, string_is_balanced, string_is_whole, tags_length, line_beside, next_named, grows}
use Rattle.lsys_flat.proofs.revision.Revision.add_level.Goals.{After-as_slice-2}
use Rattle.lsys_flat.proofs.revision.Revision.add_level.Goals as goal

old_is : (c : After-as_slice-2) (seed : ℕ) (xs ys : List (List LevelSymbol)) → IsRevised seed xs ys c.args.self.now → line_of c.next_line-old.result.now ≡ get_or c.args.self.now.old_lines (length ys) no_line
old_is c seed xs ys h =
    let made : length c.as_slice.result.now ≡ length (map line_of c.self.inside.ancestries.items) = ap length c.as_slice.ensures.value ∙ sym (length-map c.self.inside.ancestries.items line_of) in
    line_beside seed xs ys c.args.self.now _ (line_of c.next_line-old.result.now) (length c.as_slice.result.now) h c.self.view_is c.next_line-old.ensures made

pub name-requires-clause-parents : goal.name-requires-clause-parents
name-requires-clause-parents c = let q = c.requires in rw c.as_slice-2.ensures.value (have_parents q.seed q.xs q.ys q.y c.args.level _ q.so_far q.next)

pub name-requires-clause-few : goal.name-requires-clause-few
name-requires-clause-few c =
    let q = c.requires in
    subst (λ (l : Descent). length l.origins < 2 ^ 32) (sym (old_is (goal.at.name-requires-clause-few c).After-as_slice-2 q.seed q.xs q.ys q.so_far)) (old_few q.seed q.xs q.ys q.y c.args.level _ q.so_far q.next)

pub name-requires-clause-tags : goal.name-requires-clause-tags
name-requires-clause-tags c =
    let q = c.requires in
    subst (λ (l : Descent). length l.tags ≡ length l.origins) (sym (old_is (goal.at.name-requires-clause-tags c).After-as_slice-2 q.seed q.xs q.ys q.so_far)) (old_tags q.seed q.xs q.ys q.y c.args.level _ q.so_far q.next)

pub name-requires-clause-room : goal.name-requires-clause-room
name-requires-clause-room c =
    let q = c.requires in
    few_taken q.seed q.xs q.ys q.y c.args.level _ q.so_far q.next (length c.as_slice-2.result.now) (ap length c.as_slice-2.ensures.value ∙ new_length q.seed q.xs q.ys q.y c.args.level _ q.so_far q.next)

pub keep-requires-clause-tags : goal.keep-requires-clause-tags
keep-requires-clause-tags c =
    let q = c.requires in
    tags_length _ _ _ _ _ _ c.in_ok-tags.ensures.named.named ∙ c.in_ok-tags.ensures.named.each ∙ ap length c.as_slice-2.ensures.value ∙ new_length q.seed q.xs q.ys q.y c.args.level _ q.so_far q.next ∙ sym (symbols_length q.seed q.xs q.ys q.y c.args.level _ q.so_far q.next)

pub keep-requires-clause-keys : goal.keep-requires-clause-keys
keep-requires-clause-keys c =
    let q = c.requires in keys_length q.seed q.xs q.ys q.y c.args.level _ q.so_far q.next ∙ sym (symbols_length q.seed q.xs q.ys q.y c.args.level _ q.so_far q.next)

pub keep-requires-clause-balance : goal.keep-requires-clause-balance
keep-requires-clause-balance c = let q = c.requires in string_is_balanced q.seed q.xs q.ys q.y c.args.level q.next

pub keep-requires-clause-whole : goal.keep-requires-clause-whole
keep-requires-clause-whole c = let q = c.requires in string_is_whole q.seed q.xs q.ys q.y c.args.level q.next

pub keep-requires-clause-own : goal.keep-requires-clause-own
keep-requires-clause-own c =
    let q = c.requires in
    let old = old_is (goal.at.keep-requires-clause-own c).After-as_slice-2 q.seed q.xs q.ys q.so_far in
    own_view q.seed q.xs (q.ys ++ q.y ∷ []) _ (next_named q.seed q.xs q.ys q.y c.args.level _ q.so_far q.next _ old _ c.as_slice-2.ensures.value c.name.new.self _ c.in_ok-tags.ensures.named c.in_ok-tags.ensures.rest)

pub returns-clause-added : goal.returns-clause-added
returns-clause-added c =
    grows c.keep.result c.args.level c.args.self.now _ c.keep.new.self c.keep.ensures.kept
    (λ seed xs ys y h n.
    next_named seed xs ys y c.args.level _ h n _ (old_is (goal.at.returns-clause-added c).After-as_slice-2 seed xs ys h) _ c.as_slice-2.ensures.value c.name.new.self _ c.in_ok-tags.ensures.named c.in_ok-tags.ensures.rest)
