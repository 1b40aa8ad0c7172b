-- The children of one parent after the other.
use Rattle.std.proofs.Common.{◌≡◌, ◌⊎◌, ◌+◌, ◌<◌, ◌≤◌, ℕ, List, [], ◌∷◌, ◌++◌, Option, Some, None, map, take, drop, length, refl, sym, ap, ◌∙◌, subst, arith, inl, inr, slice_get, sum_by, append_assoc, append-nil}
use Rattle.std.specs.Prelude.{ℤ, cond, not, if◌then◌else◌}
use Rattle.std.specs.Option.{option_and_then}
use Rattle.std.proofs.lemmas.Option.{same_Some}
use Rattle.std.proofs.lemmas.List.Sums.{sum_by-cons, sum_by_push}
use Rattle.lsys_spec.specs.Rows.{In, mirrored}
use Rattle.lsys_syntax.specs.Commands.{Numbering}
use Rattle.lsys_syntax.specs.Strings as S
use Rattle.lsys_spec.specs.Draws.{number_base, key_of}
use Rattle.lsys_forest.specs.Nodes.{Node, Nodes}
use Rattle.lsys_forest.specs.Answers.{answer_of}
use Rattle.lsys_forest.specs.Groves.{Grove, now_of, changes_in, IsRooted}
use Rattle.lsys_forest.specs.Rows.{kids_in, spot_in}
use Rattle.lsys_children.specs.declared.number.Number.{Number}
use Rattle.lsys_children.specs.declared.need.Need.{Need}
use Rattle.lsys_children.specs.Matches.{same_child_number, has_number, node_number, node_numbered, nodes_without, some_or}
use Rattle.lsys_children.specs.Children.{ToldNodes, numbers_of, births, notes_for, HasRoomFor, SpendsNeed}
use Rattle.lsys_children.proofs.MatchLemmas.{take_next}
use Rattle.lsys_children.proofs.PlacedLemmas.{spends_none, spends_then}
use Rattle.lsys_match.specs.Kept.{Kept}
use Rattle.lsys_reads.specs.Lineages.{names}
use Rattle.lsys_children.specs.Wishes.{AreWanted}
use Rattle.lsys_children.specs.Nexts.{Successors, wanted_count}
use Rattle.lsys_children.specs.Renewals.{AreRenewals}
use Rattle.lsys_children.specs.Answers.{kept_successor, kept_successors}
use Rattle.lsys_children.proofs.Renewing.{begins, goes_on, parent_stays}
use Rattle.lsys_children.proofs.Lengths.{made_count}
use Rattle.lsys_children.proofs.Wants.{all_made}
use Rattle.lsys_children.proofs.Walks.{kids_stay}
use Rattle.lsys_children.specs.declared.parent.Parent.{Parent}
use Rattle.lsys_children.specs.Parents.{nodes_in, wants, AreToldBy, AreParents, HasParents}
use Rattle.lsys_children.specs.Needs.{number_told, wanted_symbols, need_for, need_at_parent, needs}
use Rattle.lsys_children.specs.Made.{IsRenewed, TellsAllOf, gone_at, gone_of}
use Rattle.lsys_children.proofs.Needs.{numbers_wanted}
use Rattle.lsys_children.proofs.Telling.{where_same, none_told, told_more}
use Rattle.lsys_children.proofs.StepLemmas.{drop_at}
use Rattle.lsys_children.proofs.Among.{among, not_done, done_push, told_at, look, look_told}

-- The children of the first so many were made, and there is room for those of the others.
pub record AreMadeSoFar (g : Numbering) (old now : Grove Kept) (before told : ToldNodes) (ps : List Parent) (i : ℕ) : Type 0 where
  pub renewals : (seed depth : ℕ) (by : Successors) → AreParents seed depth (now_of old) old.root (nodes_in ps) → AreToldBy by (now_of old) ps
      → AreRenewals g seed (now_of old) (now_of now) old.root depth by (mirrored (nodes_in (take i ps)))
  pub room : HasRoomFor now told (needs g (now_of old) (drop i ps))
  pub spends : SpendsNeed old now (needs g (now_of old) (take i ps))
  pub tells : TellsAllOf (now_of old) (now_of now) (mirrored (nodes_in (take i ps))) before told
  pub gone : told.gone ≡ before.gone ++ gone_of g (now_of old) (take i ps)

pub none_made : (g : Numbering) (old : Grove Kept) (told : ToldNodes) (ps : List Parent) → HasRoomFor old told (needs g (now_of old) ps) → AreMadeSoFar g old old told told ps 0
none_made g old told ps room = record {
  renewals = λ seed depth by a t. begins g seed (now_of old) old.root depth by a.once a.small;
  room = room;
  spends = spends_none old;
  tells = none_told (now_of old) told;
  gone = sym (append-nil told.gone);
}

gone_push : (g : Numbering) (m : Nodes Kept) (ps : List Parent) (p : Parent) → gone_of g m (ps ++ p ∷ []) ≡ gone_of g m ps ++ gone_at g m p
gone_push g m [] p = append-nil (gone_at g m p)
gone_push g m (q ∷ ps) p = ap (λ (l : List ℕ). gone_at g m q ++ l) (gone_push g m ps p) ∙ sym (append_assoc (gone_at g m q) (gone_of g m ps) (gone_at g m p))

numbered_same : (old now : Nodes Kept) (ks : List ℕ) (q : Number) → ((k : ℕ) → In k ks → now k ≡ old k) → node_numbered now ks q ≡ node_numbered old ks q
numbered_same old now [] q h = refl
numbered_same old now (k ∷ ks) q h = λ i. some_or (numbered_same old now ks q (λ j l. h j (inr l)) i) (cond (same_child_number (node_number (h k (inl refl) i)) q) (Some k) None)

wants_same : (old now : Nodes Kept) (p : Parent) → now p.node ≡ old p.node → wants now p ≡ wants old p
wants_same old now p e = ap (λ (o : Option (Node Kept)). if p.is_cut then [] else kept_successor (spot_in p.node o).seen (option_and_then answer_of o)) e

module _ (g : Numbering) (old now : Grove Kept) (before told : ToldNodes) (ps : List Parent) (i : ℕ) (p : Parent)
    (here : slice_get ps i ≡ Some p) (has : HasParents (now_of old) old.root (nodes_in ps))
    (sound : IsRooted old.root (changes_in old) (now_of old)) (h : AreMadeSoFar g old now before told ps i) where
  abbrev pub m : Nodes Kept
  m = now_of old

  abbrev pub node : Node Kept
  node = (has.2.each p.node (among ps i p here)).node

  was : m p.node ≡ Some node
  was = (has.2.each p.node (among ps i p here)).is

  abbrev pub done : List ℕ
  done = mirrored (nodes_in (take i ps))

  fresh : In p.node done → ⊥
  fresh = not_done ps i p has.2.apart here

  renewals : AreRenewals g has.0 m (now_of now) old.root has.1 (look m ps) done
  renewals = h.renewals has.0 has.1 (look m ps) has.2 (look_told m ps has.2.apart)

  deep : node.depth ≡ has.1
  deep = (has.2.each p.node (among ps i p here)).deep

  pub is_now : now_of now p.node ≡ Some node
  is_now = parent_stays g has.0 m (now_of now) old.root has.1 (look m ps) done p.node node renewals was deep fresh

  -- what replaces it is as short as it was
  pub short_now : length (kept_successors (now_of now) p.node) ≤ number_base
  short_now = subst (λ (zs : List (S.Symbol ℤ)). length zs ≤ number_base) (ap (λ (o : Option (Node Kept)). kept_successor (spot_in p.node o).seen (option_and_then answer_of o)) (was ∙ sym is_now)) (has.2.each p.node (among ps i p here)).short

  same_node : now_of now p.node ≡ m p.node
  same_node = is_now ∙ sym was

  kids_same : (k : ℕ) → In k node.kids → now_of now k ≡ m k
  kids_same = kids_stay old.root (changes_in old) g has.0 m (now_of now) has.1 (look m ps) done p.node node sound renewals fresh was deep

  found_same : (qs : List Number) → map (node_numbered (now_of now) node.kids) qs ≡ map (node_numbered m node.kids) qs
  found_same [] = refl
  found_same (q ∷ qs) = λ i. numbered_same m (now_of now) node.kids q kids_same i ∷ found_same qs i

  -- its step takes what it took at the start
  pub need_same : need_at_parent g (now_of now) p ≡ need_at_parent g m p
  need_same =
      ap (λ (o : Option (Node Kept)). need_for g (now_of now) (kids_in o) (wants (now_of now) p)) is_now
      ∙ ap (need_for g (now_of now) node.kids) (wants_same m (now_of now) p same_node)
      ∙ (λ i. record {
        nodes = births (found_same (map number_told (wanted_symbols g (wants m p))) i);
        params = (need_for g m node.kids (wants m p)).params;
        kids = (need_for g m node.kids (wants m p)).kids;
        notes = notes_for (found_same (map number_told (wanted_symbols g (wants m p))) i) + 1;
        told = (need_for g m node.kids (wants m p)).told;
      })
      ∙ ap (λ (o : Option (Node Kept)). need_for g m (kids_in o) (wants m p)) (sym was)

  rest_parts : (f : Parent → ℕ) → sum_by f (drop i ps) ≡ f p + sum_by f (drop (i + 1) ps)
  rest_parts f = ap (sum_by f) (drop_at ps i p here) ∙ sum_by-cons f p (drop (i + 1) ps)

  -- there is room for it
  pub room_here : HasRoomFor now told (need_at_parent g (now_of now) p)
  room_here = subst (λ (n : Need). HasRoomFor now told n) (sym need_same) (record {
    nodes = omega (arith, h.room.nodes, rest_parts (λ q. (need_at_parent g m q).nodes));
    params = omega (arith, h.room.params, rest_parts (λ q. (need_at_parent g m q).params));
    kids = omega (arith, h.room.kids, rest_parts (λ q. (need_at_parent g m q).kids));
    notes = omega (arith, h.room.notes, rest_parts (λ q. (need_at_parent g m q).notes));
    told = omega (arith, h.room.told, rest_parts (λ q. (need_at_parent g m q).told));
  })

  module _ (new : Grove Kept) (after : ToldNodes) (r : IsRenewed g now new p node told after) (sound_now : IsRooted now.root (changes_in now) (now_of now)) (root : now.root ≡ old.root) where
    spent : SpendsNeed now new (need_at_parent g m p)
    spent = subst (λ (n : Need). SpendsNeed now new n) need_same r.spends

    told_room : told.room ≤ after.room + (need_at_parent g m p).told
    told_room =
        let long = made_count g node.key (wants (now_of now) p) r.children r.wanted in
        let same = ap (wanted_count g) (wants_same m (now_of now) p same_node) in
        let kids = ap (λ (o : Option (Node Kept)). length (kids_in o)) was in
        omega (arith, r.told.room, long, same, kids)

    begun_parts : (f : Parent → ℕ) → sum_by f (take (i + 1) ps) ≡ sum_by f (take i ps) + f p
    begun_parts f = ap (sum_by f) (take_next ps i p here) ∙ sum_by_push f (take i ps) p

    done_next : mirrored (nodes_in (take (i + 1) ps)) ≡ p.node ∷ done
    done_next = ap (λ (qs : List Parent). mirrored (nodes_in qs)) (take_next ps i p here) ∙ done_push (take i ps) p

    go_on : (seed depth : ℕ) (by : Successors) → AreParents seed depth m old.root (nodes_in ps) → AreToldBy by m ps → AreRenewals g seed m (now_of new) old.root depth by (p.node ∷ done)
    go_on seed depth by a t =
        let one = a.each p.node (among ps i p here) in
        let own : node ≡ one.node = same_Some node one.node (sym was ∙ one.is) in
        let key : node.key ≡ key_of seed (names m p.node) = ap (λ (n : Node Kept). n.key) own ∙ one.key in
        let wanted = subst (λ k. AreWanted g k (wants (now_of now) p) r.children) key r.wanted in
        let wanted' = subst (λ (zs : List (S.Symbol ℤ)). AreWanted g (key_of seed (names m p.node)) zs r.children) (wants_same m (now_of now) p same_node ∙ sym (told_at by m ps i p t here)) wanted in
        goes_on g seed m (now_of now) (now_of new) old.root depth by done (changes_in now) p.node node r.children (h.renewals seed depth by a t) (subst (λ k. IsRooted k (changes_in now) (now_of now)) root sound_now) was
        (ap (λ (n : Node Kept). n.depth) own ∙ one.deep) fresh one.all r.renewed wanted'

    sound_mid : IsRooted old.root (changes_in now) (now_of now)
    sound_mid = subst (λ k. IsRooted k (changes_in now) (now_of now)) root sound_now

    -- a child that was made is new, or was the parent's
    made_from : (k : ℕ) → In k (kids_in (now_of new p.node)) → (now_of now k ≡ None) ⊎ In k node.kids
    made_from k l =
        let w = all_made (λ w. w.number.count < number_base) (now_of now) (now_of new) p.node (node.depth + 1) node.kids r.children (kids_in (now_of new p.node)) r.renewed.made r.renewed.named r.wanted.small k l in
        elim w.1.from [ inl b ↦ inl b.0.vacant | inr x ↦ inr x.1 ]

    tells_next : TellsAllOf m (now_of new) (p.node ∷ done) before after
    tells_next =
        told_more g has.0 m (now_of now) (now_of new) old.root has.1 (look m ps) done (changes_in old) (changes_in now) p.node node r.children renewals sound sound_mid was is_now deep fresh kids_same r.renewed made_from before told after h.tells r.told

    gone_here : nodes_without (now_of now) (numbers_of r.children) node.kids ≡ gone_at g m p
    gone_here =
        where_same (λ q. not (has_number (numbers_of r.children) q)) m (now_of now) node.kids kids_same
        ∙ ap (λ (qs : List Number). nodes_without m qs node.kids) (numbers_wanted g node.key (wants (now_of now) p) r.children r.wanted)
        ∙ ap (λ (zs : List (S.Symbol ℤ)). nodes_without m (map number_told (wanted_symbols g zs)) node.kids) (wants_same m (now_of now) p same_node)
        ∙ ap (λ (o : Option (Node Kept)). nodes_without m (map number_told (wanted_symbols g (wants m p))) (kids_in o)) (sym was)

    gone_next : after.gone ≡ before.gone ++ gone_of g m (take (i + 1) ps)
    gone_next =
        r.told.gone
        ∙ ap (λ (l : List ℕ). told.gone ++ l) gone_here
        ∙ ap (λ (l : List ℕ). l ++ gone_at g m p) h.gone
        ∙ append_assoc before.gone (gone_of g m (take i ps)) (gone_at g m p)
        ∙ ap (λ (l : List ℕ). before.gone ++ l) (sym (gone_push g m (take i ps) p))
        ∙ ap (λ (qs : List Parent). before.gone ++ gone_of g m qs) (sym (take_next ps i p here))

    pub one_more : AreMadeSoFar g old new before after ps (i + 1)
    one_more = record {
      renewals = λ seed depth by a t. subst (λ (ks : List ℕ). AreRenewals g seed m (now_of new) old.root depth by ks) (sym done_next) (go_on seed depth by a t);
      room = record {
        nodes = omega (arith, h.room.nodes, spent.nodes_left, rest_parts (λ q. (need_at_parent g m q).nodes));
        params = omega (arith, h.room.params, spent.params_left, rest_parts (λ q. (need_at_parent g m q).params));
        kids = omega (arith, h.room.kids, spent.kids_left, rest_parts (λ q. (need_at_parent g m q).kids));
        notes = omega (arith, h.room.notes, spent.notes_left, rest_parts (λ q. (need_at_parent g m q).notes));
        told = omega (arith, h.room.told, told_room, rest_parts (λ q. (need_at_parent g m q).told));
      };
      tells = subst (λ (ks : List ℕ). TellsAllOf m (now_of new) ks before after) (sym done_next) tells_next;
      gone = gone_next;
      spends = (let a = needs g m (take i ps) in let b = need_at_parent g m p in let c = needs g m (take (i + 1) ps) in
          spends_then old now new a.nodes a.params a.kids a.notes b.nodes b.params b.kids b.notes c.nodes c.params c.kids c.notes h.spends spent
          (let e = begun_parts (λ q. (need_at_parent g m q).nodes) in omega (arith, e)) (let e = begun_parts (λ q. (need_at_parent g m q).params) in omega (arith, e))
          (let e = begun_parts (λ q. (need_at_parent g m q).kids) in omega (arith, e)) (let e = begun_parts (λ q. (need_at_parent g m q).notes) in omega (arith, e)));
    }
