-- The chains of free parts after a part was taken, freed or added.
use Rattle.std.proofs.Common.{◌≡◌, ◌≢◌, ℕ, ◌<◌, List, [], ◌∷◌, ◌++◌, map, length, set, get_or, Option, Some, None, IsSome, slice_get, ◌⊎◌, inl, inr, refl, sym, ap, subst, ◌∙◌, arith, length-set}
use Rattle.std.proofs.lemmas.List.{get_or-set_same, get_or-set_other, get_or_default}
use Rattle.std.proofs.lemmas.Option.{same_Some, none-some, slice_get-map}
use Rattle.std.proofs.lemmas.Bool.{cases_eq}
use Rattle.lsys_region.specs.declared.packed.State.{State}
use Rattle.lsys_region.specs.declared.packed.State.TheVariants.{Taken, Free}
use Rattle.lsys_region.specs.Parts.{SizedPart, AllTaken}
use Rattle.lsys_region.specs.Entries.{Classed, part_of, IsFreeEntry, IsMember, Chain, HasAllFree, IsLinked, AreLinkedByClass}
use Rattle.lsys_region.proofs.ListLemmas.{slice_get-set_other, slice_get-set_same, slice_get-set_cases, slice_get-push_old, slice_get-push_cases, from_option_map}

abbrev entry_at : ℕ → ℕ → State → Classed
entry_at start class state = record { start = start; class = class; state = state }

pub free_member : (entries : List Classed) (class : ℕ) (head : Option ℕ) (numbers : List ℕ) (n : ℕ) → Chain entries class head numbers → IsMember n numbers → (next : Option ℕ) × IsFreeEntry entries class n next
free_member entries class head [] n chain member = absurd member
free_member entries class head (m ∷ numbers) n chain (inl same) =
    (chain.0, (chain.1.free.0, ap (slice_get entries) same ∙ chain.1.free.1))
free_member entries class head (m ∷ numbers) n chain (inr later) = free_member entries class chain.0 numbers n chain.2 later

-- a write elsewhere keeps the chain
pub Chain-set : (entries : List Classed) (class : ℕ) (head : Option ℕ) (numbers : List ℕ) (i : ℕ) (entry : Classed) → (IsMember i numbers → ⊥) → Chain entries class head numbers → Chain (set entries i entry) class head numbers
Chain-set entries class head [] i entry apart chain = chain
Chain-set entries class head (m ∷ numbers) i entry apart chain =
    let other : m ≢ i = λ same. apart (inl (sym same)) in
    (chain.0, record { at_head = chain.1.at_head; free = (chain.1.free.0, slice_get-set_other entries i m entry other ∙ chain.1.free.1); once = chain.1.once }, Chain-set entries class chain.0 numbers i entry (λ later. apart (inr later)) chain.2)

-- a push keeps the chain
pub Chain-push : (entries : List Classed) (class : ℕ) (head : Option ℕ) (numbers : List ℕ) (entry : Classed) → Chain entries class head numbers → Chain (entries ++ entry ∷ []) class head numbers
Chain-push entries class head [] entry chain = chain
Chain-push entries class head (m ∷ numbers) entry chain =
    (chain.0, record { at_head = chain.1.at_head; free = (chain.1.free.0, slice_get-push_old entries m _ entry chain.1.free.1); once = chain.1.once }, Chain-push entries class chain.0 numbers entry chain.2)

same_entry_state : (start start' class class' : ℕ) (state state' : State) → Some (entry_at start class state) ≡ Some (entry_at start' class' state') → (start ≡ start') × (class ≡ class') × (state ≡ state')
same_entry_state start start' class class' state state' same =
    let parts = same_Some _ _ same in
    (ap (λ (e : Classed). e.start) parts, ap (λ (e : Classed). e.class) parts, ap (λ (e : Classed). e.state) parts)

taken-free : (length : ℕ) (next : Option ℕ) → Taken length ≡ Free next → ⊥
taken-free length next same = cc

-- a part that is taken is in no chain
pub taken_apart : (entries : List Classed) (class : ℕ) (head : Option ℕ) (numbers : List ℕ) (n start own length : ℕ) → slice_get entries n ≡ Some (entry_at start own (Taken length)) → Chain entries class head numbers → IsMember n numbers → ⊥
taken_apart entries class head numbers n start own length taken chain member =
    let free = free_member entries class head numbers n chain member in
    let same = same_entry_state start free.1.0 own class (Taken length) (Free free.0) (sym taken ∙ free.1.1) in
    taken-free length free.0 same.2

-- a part of another class is in no chain of this one
pub class_apart : (entries : List Classed) (class : ℕ) (head : Option ℕ) (numbers : List ℕ) (n start own : ℕ) (state : State) → slice_get entries n ≡ Some (entry_at start own state) → class ≢ own → Chain entries class head numbers → IsMember n numbers → ⊥
class_apart entries class head numbers n start own state here other chain member =
    let free = free_member entries class head numbers n chain member in
    let same = same_entry_state start free.1.0 own class state (Free free.0) (sym here ∙ free.1.1) in
    other (sym same.1)

-- what is free after a write of a part that is not, was free
free_before : (entries : List Classed) (i class n start own length : ℕ) (next : Option ℕ) (was : Classed) → slice_get entries i ≡ Some was → IsFreeEntry (set entries i (entry_at start own (Taken length))) class n next → (n ≢ i) × IsFreeEntry entries class n next
free_before entries i class n start own length next was found free =
    elim (slice_get-set_cases entries i n was (entry_at start own (Taken length)) (entry_at free.0 class (Free next)) found free.1) [
      | inl here ↦ absurd (taken-free length next (ap (λ (e : Classed). e.state) here.1))
      | inr there ↦ (there.0, (free.0, there.1))
    ]

-- taking a part leaves the chains of the other classes
linked_other_taken : (entries : List Classed) (class : ℕ) (head : Option ℕ) (i start own length : ℕ) (state : State) → slice_get entries i ≡ Some (entry_at start own state) → class ≢ own → IsLinked entries class head → IsLinked (set entries i (entry_at start own (Taken length))) class head
linked_other_taken entries class head i start own length state here other linked = record {
  numbers = linked.numbers;
  chain = Chain-set entries class head linked.numbers i _ (class_apart entries class head linked.numbers i start own state here other linked.chain) linked.chain;
  complete = λ n next free. linked.complete n next (free_before entries i class n start own length next _ here free).1;
}

head_taken : (entries : List Classed) (class : ℕ) (head : Option ℕ) (numbers : List ℕ) (i start own length : ℕ) (next : Option ℕ) → head ≡ Some i → slice_get entries i ≡ Some (entry_at start own (Free next)) → Chain entries class head numbers → HasAllFree entries class numbers → (class ≡ own) × IsLinked (set entries i (entry_at start own (Taken length))) class next
head_taken entries class head [] i start own length next at here chain complete = absurd (none-some i (sym chain ∙ at))
head_taken entries class head (m ∷ numbers) i start own length next at here chain complete =
    let same : m ≡ i = same_Some m i (sym chain.1.at_head ∙ at) in
    let read : slice_get entries i ≡ Some (entry_at chain.1.free.0 class (Free chain.0)) = ap (slice_get entries) (sym same) ∙ chain.1.free.1 in
    let parts = same_entry_state start chain.1.free.0 own class (Free next) (Free chain.0) (sym here ∙ read) in
    let follows : chain.0 ≡ next = let states = parts.2 in cc in
    let apart : IsMember i numbers → ⊥ = λ later. chain.1.once (subst (λ k. IsMember k numbers) (sym same) later) in (
      sym parts.1,
      record {
        numbers = numbers;
        chain = subst (λ h. Chain (set entries i (entry_at start own (Taken length))) class h numbers) follows (Chain-set entries class chain.0 numbers i _ apart chain.2);
        complete = λ n after free. (
            let before = free_before entries i class n start own length after _ here free in
            elim (complete n after before.1) [
              | inl first ↦ absurd (before.0 (first ∙ same))
              | inr later ↦ later
            ]
            );
      },
    )

classes_kept : (entries : List Classed) (heads : List (Option ℕ)) (i : ℕ) (was entry : Classed) → AreLinkedByClass entries heads → slice_get entries i ≡ Some was → entry.class ≡ was.class → (n : ℕ) (e : Classed) → slice_get (set entries i entry) n ≡ Some e → e.class < 64
classes_kept entries heads i was entry linked here same n e read =
    elim (slice_get-set_cases entries i n was entry e here read) [
      | inl written ↦ (let old = linked.classes i was here in let is = ap (λ (x : Classed). x.class) written.1 in omega arith)
      | inr kept ↦ linked.classes n e kept.1
    ]

-- the first free part of a class is taken
pub AreLinked-take : (entries : List Classed) (heads : List (Option ℕ)) (class i start own len : ℕ) (next : Option ℕ) → class < 64 → AreLinkedByClass entries heads → get_or heads class None ≡ Some i → slice_get entries i ≡ Some (entry_at start own (Free next)) → (class ≡ own) × AreLinkedByClass (set entries i (entry_at start own (Taken len))) (set heads class next)
AreLinked-take entries heads class i start own len next small linked at here =
    let old = linked.linked class small in
    let done = head_taken entries class (get_or heads class None) old.numbers i start own len next at here old.chain old.complete in (
      done.0,
      record {
        many = length-set heads class next ∙ linked.many;
        classes = classes_kept entries heads i _ _ linked here refl;
        linked = λ k bound. elim (cases_eq k class) [
          | inl same ↦ (
              let now : get_or (set heads class next) class None ≡ next = get_or-set_same heads class next None (omega (arith, linked.many)) in
              subst (λ j. IsLinked (set entries i (entry_at start own (Taken len))) j (get_or (set heads class next) j None)) (sym same) (rw now done.1)
              )
          | inr other ↦ (
              let kept : get_or (set heads class next) k None ≡ get_or heads k None = get_or-set_other heads class k next None other in
              rw kept (linked_other_taken entries k _ i start own len (Free next) here (λ same. other (same ∙ sym done.0)) (linked.linked k bound))
              )
        ];
      },
    )

-- what is free after a part was freed was free, or is that part
free_after : (entries : List Classed) (i class n start own : ℕ) (head next : Option ℕ) (was : Classed) → slice_get entries i ≡ Some was → IsFreeEntry (set entries i (entry_at start own (Free head))) class n next → ((n ≡ i) × (class ≡ own)) ⊎ IsFreeEntry entries class n next
free_after entries i class n start own head next was found free =
    elim (slice_get-set_cases entries i n was (entry_at start own (Free head)) (entry_at free.0 class (Free next)) found free.1) [
      | inl here ↦ inl (here.0, sym (ap (λ (e : Classed). e.class) here.1))
      | inr there ↦ inr (free.0, there.1)
    ]

-- a part that was taken is freed
pub AreLinked-release : (entries : List Classed) (heads : List (Option ℕ)) (i start own len : ℕ) (d : Option ℕ) → AreLinkedByClass entries heads → slice_get entries i ≡ Some (entry_at start own (Taken len)) → AreLinkedByClass (set entries i (entry_at start own (Free (get_or heads own d)))) (set heads own (Some i))
AreLinked-release entries heads i start own len d linked here =
    let small = linked.classes i _ here in
    let head = get_or heads own d in
    let old = subst (λ h. IsLinked entries own h) (get_or_default heads own None d (omega (arith, small, linked.many))) (linked.linked own small) in
    let apart = taken_apart entries own head old.numbers i start own len here old.chain in
    let now : get_or (set heads own (Some i)) own None ≡ Some i = get_or-set_same heads own (Some i) None (omega (arith, linked.many)) in
    record {
      many = length-set heads own (Some i) ∙ linked.many;
      classes = classes_kept entries heads i _ _ linked here refl;
      linked = λ k bound. elim (cases_eq k own) [
        | inl same ↦ subst (λ j. IsLinked (set entries i (entry_at start own (Free head))) j (get_or (set heads own (Some i)) j None)) (sym same) (record {
          numbers = i ∷ old.numbers;
          chain = (head, record { at_head = now; free = (start, slice_get-set_same entries i _ _ here); once = apart }, Chain-set entries own head old.numbers i _ apart old.chain);
          complete = λ n next free. elim (free_after entries i own n start own head next _ here free) [
            | inl this ↦ inl this.0
            | inr before ↦ inr (old.complete n next before)
          ];
        })
        | inr other ↦ (
            let kept : get_or (set heads own (Some i)) k None ≡ get_or heads k None = get_or-set_other heads own k (Some i) None other in
            let rest = linked.linked k bound in
            rw kept (record {
              numbers = rest.numbers;
              chain = Chain-set entries k _ rest.numbers i _ (taken_apart entries k _ rest.numbers i start own len here rest.chain) rest.chain;
              complete = λ n next free. elim (free_after entries i k n start own head next _ here free) [
                | inl this ↦ absurd (other this.1)
                | inr before ↦ rest.complete n next before
              ];
            })
            )
      ];
    }

-- a part is added, taken
pub AreLinked-push : (entries : List Classed) (heads : List (Option ℕ)) (start own len : ℕ) → own < 64 → AreLinkedByClass entries heads → AreLinkedByClass (entries ++ entry_at start own (Taken len) ∷ []) heads
AreLinked-push entries heads start own len small linked = record {
  many = linked.many;
  classes = λ n e read. elim (slice_get-push_cases entries n (entry_at start own (Taken len)) e read) [
    | inl new ↦ (let is = ap (λ (x : Classed). x.class) new.1 in omega arith)
    | inr old ↦ linked.classes n e old.1
  ];
  linked = λ k bound. (
      let rest = linked.linked k bound in
      record {
        numbers = rest.numbers;
        chain = Chain-push entries k _ rest.numbers _ rest.chain;
        complete = λ n next free. elim (slice_get-push_cases entries n (entry_at start own (Taken len)) _ free.1) [
          | inl new ↦ absurd (taken-free len next (ap (λ (e : Classed). e.state) new.1))
          | inr old ↦ rest.complete n next (free.0, old.1)
        ];
      }
      );
}

none_linked : (entries : List Classed) (class : ℕ) (head : Option ℕ) (numbers : List ℕ) → head ≡ None → Chain entries class head numbers → HasAllFree entries class numbers → (n : ℕ) (next : Option ℕ) → IsFreeEntry entries class n next → ⊥
none_linked entries class head [] none chain complete n next free = complete n next free
none_linked entries class head (m ∷ numbers) none chain complete n next free = none-some m (sym none ∙ chain.1.at_head)

taken_state : (start class n : ℕ) (entries : List Classed) (state : State) → slice_get entries n ≡ Some (entry_at start class state) → ((next : Option ℕ) → IsFreeEntry entries class n next → ⊥) → IsSome (part_of (entry_at start class state)).filled
taken_state start class n entries (Taken len) here none = refl
taken_state start class n entries (Free next) here none = absurd (none next (start, here))

-- a class with no head has no free part
pub AllTaken-none : (entries : List Classed) (heads : List (Option ℕ)) (class : ℕ) (d : Option ℕ) → class < 64 → AreLinkedByClass entries heads → get_or heads class d ≡ None → AllTaken (map part_of entries) class
AllTaken-none entries heads class d small linked none n part read same =
    let old = linked.linked class small in
    let empty : get_or heads class None ≡ None = get_or_default heads class None d (omega (arith, small, linked.many)) ∙ none in
    let found = from_option_map part_of (slice_get entries n) part (sym (slice_get-map part_of entries n) ∙ read) in
    let entry = found.0 in
    let own : entry.class ≡ class = ap (λ (p : SizedPart). p.class) found.2 ∙ same in
    let free : (next : Option ℕ) → IsFreeEntry entries entry.class n next → ⊥ =
    λ next is. none_linked entries class _ old.numbers empty old.chain old.complete n next (subst (λ k. IsFreeEntry entries k n next) own is) in
    subst (λ (p : SizedPart). IsSome p.filled) found.2 (taken_state entry.start entry.class n entries entry.state found.1 free)
