-- The children that were made are the wanted ones.
use Rattle.std.proofs.Common.{◌≡◌, ◌≢◌, ◌⊎◌, ◌+◌, ◌*◌, ℕ, map, Option, Some, None, List, [], ◌∷◌, ◌++◌, refl, sym, ap, ◌∙◌, subst, inl, inr, fold}
use Rattle.std.specs.Prelude.{ℤ, option_map}
use Rattle.std.proofs.lemmas.Option.{none-some, same_Some}
use Rattle.lsys_spec.specs.Rows.{In}
use Rattle.lsys_syntax.specs.Commands.{Numbering}
use Rattle.lsys_syntax.specs.Strings as S
use Rattle.lsys_spec.specs.Systems.{Each}
use Rattle.lsys_spec.specs.Draws.{number_base, axiom_key_of, child_key_of, key_of}
use Rattle.lsys_spec.specs.Cuts.{cut}
use Rattle.lsys_spec.specs.Meaning.{children}
use Rattle.lsys_laws.specs.Nodes.{AreOnce, Extends}
use Rattle.lsys_laws.proofs.KeptLineages.{child}
use Rattle.lsys_level.specs.Spots.{Spotted, with_lineage, named}
use Rattle.lsys_level.specs.Places.{seen_in}
use Rattle.lsys_forest.specs.Nodes.{Node, Nodes}
use Rattle.lsys_forest.specs.Changes.{Change}
use Rattle.lsys_forest.specs.Groves.{IsRooted}
use Rattle.lsys_forest.specs.Rows.{kids_in, spot_in}
use Rattle.lsys_forest.proofs.RowLemmas as rows
use Rattle.lsys_children.specs.declared.number.Number.{Number}
use Rattle.lsys_children.specs.declared.child.Child.{Child}
use Rattle.lsys_children.specs.Matches.{number_of, node_numbered}
use Rattle.lsys_children.specs.Children.{numbers_of, born, renewed, IsBorn, IsFoundOrBorn, AreFoundOrBorn, AreRenewed}
use Rattle.lsys_children.proofs.FoundLemmas.{numbered_is}
use Rattle.lsys_children.specs.Wishes.{child_number, child_symbol, AreWanted}
use Rattle.lsys_reads.specs.Lineages.{kin_of, kins, names}
use Rattle.lsys_children.specs.Nexts.{node_symbol, HasWanted, AreSameChildren}
use Rattle.lsys_children.proofs.Nexts.{tag_of}
use Rattle.lsys_children.proofs.Above.{map_same, name_stays}

-- 1. keys

last_key : (key : ℕ) (below : List ℕ) (n : ℕ) → fold child_key_of key (below ++ n ∷ []) ≡ child_key_of (fold child_key_of key below) n
last_key key [] n = refl
last_key key (j ∷ below) n = last_key (child_key_of key j) below n

pub child_key : (seed : ℕ) (l : List ℕ) (n : ℕ) → key_of seed (l ++ n ∷ []) ≡ child_key_of (key_of seed l) n
child_key seed [] n = refl
child_key seed (place ∷ below) n = last_key (axiom_key_of seed place) below n

module _ {A : Type 0} where
  -- 2. one child

  -- what is known of a node that was made for a child: it is a new one, or the one that was found
  pub record IsMadeFor (old new : Nodes A) (parent depth : ℕ) (kids : List ℕ) (w : Child) (k : ℕ) : Type 0 where
    pub node : Node A
    pub is : new k ≡ Some node
    pub seen : node.seen ≡ seen_in w.symbol
    pub key : node.key ≡ w.key
    pub from : (IsBorn old new parent depth w k × (node_numbered old kids w.number ≡ None)) ⊎ ((was : Node A) × In k kids × (old k ≡ Some was) × (node ≡ renewed w was))

  made_for : (old new : Nodes A) (parent depth : ℕ) (kids : List ℕ) (w : Child) (k : ℕ) (o : Option ℕ) → node_numbered old kids w.number ≡ o → IsFoundOrBorn old new parent depth w o k → IsMadeFor old new parent depth kids w k
  made_for old new parent depth kids w k None e h = record { node = born parent depth w; is = h.is; seen = refl; key = refl; from = inl (h, e) }
  made_for old new parent depth kids w k (Some found) e h =
      let same : found ≡ k = sym h.same in
      record { node = renewed w h.node; is = h.is; seen = refl; key = refl; from = inr (h.node, subst (λ j. In j kids) same (numbered_is old kids w.number found e).0, h.was, refl) }

  -- each of them, with the child for which it was made
  pub all_made : (P : Child → Type 0) (old new : Nodes A) (parent depth : ℕ) (kids : List ℕ) (ws : List Child) (ks : List ℕ) → AreFoundOrBorn old new parent depth ws (map (node_numbered old kids) (numbers_of ws)) ks
      → map (number_of new) ks ≡ numbers_of ws → Each P ws → (k : ℕ) → In k ks → (w : Child) × IsMadeFor old new parent depth kids w k × (number_of new k ≡ w.number) × P w
  all_made P old new parent depth kids [] [] h e p k i = absurd i
  all_made P old new parent depth kids [] (j ∷ ks) h e p k i = absurd h
  all_made P old new parent depth kids (w ∷ ws) [] h e p k i = absurd i
  all_made P old new parent depth kids (w ∷ ws) (j ∷ ks) h e p k (inl f) =
      let one : number_of new j ≡ w.number = cc in
      (w, subst (IsMadeFor old new parent depth kids w) (sym f) (made_for old new parent depth kids w j (node_numbered old kids w.number) refl h.0), ap (number_of new) f ∙ one, p.0)
  all_made P old new parent depth kids (w ∷ ws) (j ∷ ks) h e p k (inr i) =
      let more : map (number_of new) ks ≡ numbers_of ws = cc in all_made P old new parent depth kids ws ks h.1 more p.1 k i

  made_map : {X : Type 0} (f : ℕ → X) (d : Child → X) (old new : Nodes A) (parent depth : ℕ) (kids : List ℕ) (ws : List Child) (ks : List ℕ) → AreFoundOrBorn old new parent depth ws (map (node_numbered old kids) (numbers_of ws)) ks
      → map (number_of new) ks ≡ numbers_of ws → ((k : ℕ) (w : Child) → IsMadeFor old new parent depth kids w k → number_of new k ≡ w.number → f k ≡ d w) → map f ks ≡ map d ws
  made_map f d old new parent depth kids [] [] h e p = refl
  made_map f d old new parent depth kids [] (j ∷ ks) h e p = absurd h
  made_map f d old new parent depth kids (w ∷ ws) [] h e p = absurd h
  made_map f d old new parent depth kids (w ∷ ws) (j ∷ ks) h e p =
      let one : number_of new j ≡ w.number = cc in
      let more : map (number_of new) ks ≡ numbers_of ws = cc in
      (λ i. p j w (made_for old new parent depth kids w j (node_numbered old kids w.number) refl h.0) one i ∷ made_map f d old new parent depth kids ws ks h.1 more p i)

  -- 3. the children of one parent

  module _ (root : ℕ) (changes : List (Change A)) (old new : Nodes A) (sound : IsRooted root changes old) (p : ℕ) (n : Node A) (was : old p ≡ Some n) where
    -- its parent, and that it is not the root
    pub record IsBelow (k : ℕ) (node : Node A) : Type 0 where
      pub parent_is : node.parent ≡ p
      pub other : k ≢ root

    pub made_below : (depth : ℕ) (w : Child) (k : ℕ) (h : IsMadeFor old new p depth n.kids w k) → IsBelow k h.node
    made_below depth w k h = by h.node h.is h.from
      where
        by : (node : Node A) → new k ≡ Some node → (IsBorn old new p depth w k × (node_numbered old n.kids w.number ≡ None)) ⊎ ((x : Node A) × In k n.kids × (old k ≡ Some x) × (node ≡ renewed w x)) → IsBelow k node
        by node is (inl b) = record {
          parent_is = ap (λ (x : Node A). x.parent) (same_Some node (born p depth w) (sym is ∙ b.0.is));
          other = λ e. none-some sound.root_lives.0 (sym b.0.vacant ∙ ap old e ∙ sound.root_lives.1);
        }
        by node is (inr x) =
            let u = (sound.own p n was).under k x.1 in
            record { parent_is = ap (λ (y : Node A). y.parent) (x.3 ∙ ap (renewed w) (same_Some x.0 u.node (sym x.2 ∙ u.is))) ∙ u.parent_is; other = u.other }

    module _ (once : AreOnce (kins new) root) where
      pub made_name : (depth : ℕ) (w : Child) (k : ℕ) → IsMadeFor old new p depth n.kids w k → number_of new k ≡ w.number → names new k ≡ names new p ++ child_number w ∷ []
      made_name depth w k h e =
          let b = made_below depth w k h in
          let number : number_base * h.node.code + h.node.count ≡ child_number w = ap (λ (q : Number). number_base * q.code + q.count) (sym (ap (λ (o : Option (Node A)). numbered o) h.is) ∙ e) in
          child (kins new) root k (kin_of h.node) once (ap (option_map (λ (x : Node A). kin_of x)) h.is) b.other
          ∙ ap (λ q. names new q ++ (number_base * h.node.code + h.node.count) ∷ []) b.parent_is
          ∙ ap (λ c. names new p ++ c ∷ []) number
        where
          numbered : Option (Node A) → Number
          numbered None = record { code = 0; count = 0 }
          numbered (Some x) = record { code = x.code; count = x.count }

      made_symbol : (depth : ℕ) (w : Child) (k : ℕ) → IsMadeFor old new p depth n.kids w k → number_of new k ≡ w.number → node_symbol new k ≡ child_symbol (names new p) w
      made_symbol depth w k h e =
          ap (λ o. named (names new) (spot_in k o)) h.is ∙ ap (λ l. with_lineage l h.node.seen) (made_name depth w k h e) ∙ ap (with_lineage (names new p ++ child_number w ∷ [])) h.seen

      pub renewed_wanted : (g : Numbering) (seed : ℕ) (zs : List (S.Symbol ℤ)) (ws : List Child) → AreRenewed old new p n ws (kids_in (new p)) → AreWanted g (key_of seed (names new p)) zs ws → HasWanted g seed new p zs
      renewed_wanted g seed zs ws r a = record {
        symbols = made_map (node_symbol new) (child_symbol (names new p)) old new p (n.depth + 1) n.kids ws (kids_in (new p)) r.made r.named (λ k w h e. made_symbol (n.depth + 1) w k h e) ∙ a.symbols (names new p);
        keys = λ j i. (
            let m = all_made (λ w. w.key ≡ child_key_of (key_of seed (names new p)) (child_number w)) old new p (n.depth + 1) n.kids ws (kids_in (new p)) r.made r.named a.keys j i in
            ap (λ o. (spot_in j o).key) m.1.is ∙ m.1.key ∙ m.3 ∙ sym (child_key seed (names new p) (child_number m.0)) ∙ ap (key_of seed) (sym (made_name (n.depth + 1) m.0 j m.1 m.2))
            );
      }

  -- 4. children that stay

  pub wanted_stays : (g : Numbering) (seed : ℕ) (old new : Nodes A) (k : ℕ) (zs : List (S.Symbol ℤ)) → kids_in (new k) ≡ kids_in (old k) → names new k ≡ names old k
      → ((j : ℕ) → In j (kids_in (old k)) → spot_in j (new j) ≡ spot_in j (old j)) → ((j : ℕ) → In j (kids_in (old k)) → names new j ≡ names old j) → HasWanted g seed old k zs → HasWanted g seed new k zs
  wanted_stays g seed old new k zs list own spots kids h = record {
    symbols = ap (map (node_symbol new)) list ∙ map_same (node_symbol new) (node_symbol old) (kids_in (old k)) (λ j i. same j i) ∙ h.symbols ∙ ap (λ l. cut (children g l zs)) (sym own);
    keys = λ j i. (
        let there : In j (kids_in (old k)) = subst (In j) list i in
        ap (λ (s : Spotted). s.key) (spots j there) ∙ h.keys j there ∙ ap (key_of seed) (sym (kids j there))
        );
  }
    where
      same : (j : ℕ) → In j (kids_in (old k)) → node_symbol new j ≡ node_symbol old j
      same j i = ap (named (names new)) (spots j i) ∙ ap (λ l. with_lineage l (spot_in j (old j)).seen) (subst (λ q. names new q ≡ names old q) (sym (tag_of j (old j))) (kids j i))

  pub same_children : (root : ℕ) (changes : List (Change A)) (old new : Nodes A) (k : ℕ) (n : Node A) (g : Numbering) (seed : ℕ) (zs : List (S.Symbol ℤ)) → IsRooted root changes old → AreOnce (kins old) root → Extends (kins old) (kins new)
      → old k ≡ Some n → AreSameChildren old new k → HasWanted g seed old k zs → HasWanted g seed new k zs
  same_children root changes old new k n g seed zs sound once stay is c w =
      wanted_stays g seed old new k zs c.list (name_stays old new root k n once stay is) c.spots (λ j i. (let u = rows.child root changes old sound k j i in name_stays old new root j u.node once stay u.is)) w
