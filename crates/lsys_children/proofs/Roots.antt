-- The first level, counted and made.
use Rattle.std.proofs.Common.{◌≡◌, ◌⊎◌, ◌+◌, ◌<◌, ℕ, List, [], ◌∷◌, Option, Some, None, map, length, refl, sym, ap, ◌∙◌, subst, inl, inr}
use Rattle.std.specs.Prelude.{ℤ}
use Rattle.lsys_spec.specs.Rows.{In}
use Rattle.lsys_syntax.specs.Commands.{Numbering}
use Rattle.lsys_syntax.specs.Strings as S
use Rattle.lsys_spec.specs.Draws.{number_base, key_of}
use Rattle.lsys_laws.specs.Nodes.{AreOnce}
use Rattle.lsys_forest.specs.Nodes.{Node, Nodes}
use Rattle.lsys_forest.specs.Changes.{Change}
use Rattle.lsys_forest.specs.Groves.{IsRooted}
use Rattle.lsys_forest.specs.Rows.{kids_in}
use Rattle.lsys_children.specs.declared.number.Number.{Number}
use Rattle.lsys_children.specs.declared.need.Need.{Need}
use Rattle.lsys_children.specs.declared.child.Child.{Child}
use Rattle.lsys_children.specs.Matches.{nodes_without}
use Rattle.lsys_children.specs.Children.{ToldNodes, numbers_of, need_at, AreRenewed, TellsOf}
use Rattle.lsys_children.specs.Wishes.{AreWanted}
use Rattle.lsys_reads.specs.Lineages.{kins}
use Rattle.lsys_children.specs.Renewals.{AreSmall, AreAllUnder, AreRenewals}
use Rattle.lsys_children.proofs.Firsts.{name_root}
use Rattle.lsys_children.proofs.Lengths.{made_count}
use Rattle.lsys_children.proofs.Renewing.{begins, goes_on}
use Rattle.lsys_children.proofs.Wants.{all_made}
use Rattle.lsys_children.specs.Needs.{number_told, wanted_symbols, need_for, count_below}
use Rattle.lsys_children.specs.Made.{TellsAllOf}
use Rattle.lsys_children.proofs.Needs.{need_is, numbers_wanted}
use Rattle.lsys_children.proofs.Telling.{none_told, told_more}

module _ {A : Type 0} where
  pub need_below : (g : Numbering) (key : ℕ) (zs : List (S.Symbol ℤ)) (ws : List Child) (m : Nodes A) (k : ℕ) (n : Node A) → m k ≡ Some n → AreWanted g key zs ws → need_at m n.kids ws ≡ need_for g m (kids_in (m k)) zs
  need_below g key zs ws m k n is a = need_is g key zs ws m n.kids a ∙ ap (λ (o : Option (Node A)). need_for g m (kids_in o) zs) (sym is)

  pub counted_below : (g : Numbering) (key : ℕ) (zs : List (S.Symbol ℤ)) (ws : List Child) (m : Nodes A) (k : ℕ) (n : Node A) (need : Need) (had : ℕ) → m k ≡ Some n → AreWanted g key zs ws → need ≡ need_at m n.kids ws → had ≡ length n.kids
      → record { need = need; wanted = length ws; had = had } ≡ count_below g m k zs
  counted_below g key zs ws m k n need had is a e f = λ i. record { need = there i; wanted = made_count g key zs ws a i; had = long i }
    where
      there : need ≡ need_for g m (kids_in (m k)) zs
      there = e ∙ need_below g key zs ws m k n is a

      long : had ≡ length (kids_in (m k))
      long = f ∙ ap (λ (o : Option (Node A)). length (kids_in o)) (sym is)

  pub gone_below : (g : Numbering) (key : ℕ) (zs : List (S.Symbol ℤ)) (ws : List Child) (m : Nodes A) (k : ℕ) (n : Node A) → m k ≡ Some n → AreWanted g key zs ws
      → nodes_without m (numbers_of ws) n.kids ≡ nodes_without m (map number_told (wanted_symbols g zs)) (kids_in (m k))
  gone_below g key zs ws m k n is a =
      ap (λ (qs : List Number). nodes_without m qs n.kids) (numbers_wanted g key zs ws a) ∙ ap (λ (o : Option (Node A)). nodes_without m (map number_told (wanted_symbols g zs)) (kids_in o)) (sym is)

  module _ (g : Numbering) (seed : ℕ) (old new : Nodes A) (root : ℕ) (changes : List (Change A)) (zs : List (S.Symbol ℤ)) (ws : List Child) (n : Node A)
      (sound : IsRooted root changes old) (once : AreOnce (kins old) root) (small : AreSmall old) (under : AreAllUnder old root root)
      (is : old root ≡ Some n) (deep : n.depth ≡ 0) (r : AreRenewed old new root n ws (kids_in (new root))) (a : AreWanted g seed zs ws) where
    start : AreRenewals g seed old old root 0 (λ k. zs) []
    start = begins g seed old root 0 (λ k. zs) once small

    pub first_renewals : AreRenewals g seed old new root 0 (λ k. zs) (root ∷ [])
    first_renewals =
        goes_on g seed old old new root 0 (λ k. zs) [] changes root n ws start sound is deep (λ i. i) under r
        (subst (λ l. AreWanted g (key_of seed l) zs ws) (sym (name_root old root once)) a)

    made_from : (k : ℕ) → In k (kids_in (new root)) → (old k ≡ None) ⊎ In k n.kids
    made_from k l =
        let w = all_made (λ w. w.number.count < number_base) old new root (n.depth + 1) n.kids ws (kids_in (new root)) r.made r.named a.small k l in
        elim w.1.from [ inl b ↦ inl b.0.vacant | inr x ↦ inr x.1 ]

    pub first_told : (t after : ToldNodes) → TellsOf old new root n ws (kids_in (new root)) t after → TellsAllOf old new (root ∷ []) t after
    first_told t after told = told_more g seed old old new root 0 (λ k. zs) [] changes changes root n ws start sound sound is is deep (λ i. i) (λ k i. refl) r made_from t t after (none_told old t) told
