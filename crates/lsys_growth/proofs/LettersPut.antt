-- Letters put to others, in the order of their bytes.
use Rattle.std.proofs.Common.{◌≡◌, ℕ, zero, suc, ◌+◌, ◌<◌, ◌≤◌, Bool, true, false, not, cond, nat_lt, ◌||◌, List, [], ◌∷◌, ◌++◌, Some, None, map, length, insert, position, unwrap_or, drop, get_or, refl, ap, sym, ◌∙◌, subst, arith, if◌then◌else◌}
use Rattle.std.specs.List.{list_any, position_or_len}
use Rattle.std.proofs.lemmas.List.{length-map}
use Rattle.std.proofs.lemmas.Bool.{ltb-false}
use Rattle.std.proofs.Math.Seq.{drop-cons}
use Rattle.lsys_syntax.specs.Strings.{ModuleName}
use Rattle.lsys_syntax.specs.Strings as S
use Rattle.lsys_syntax.specs.Expressions.{Expr}
use Rattle.lsys_spec.specs.Systems.{System, same_name, comes_before, module_name_text}
use Rattle.lsys_module.specs.Views.{module_name, string_of}
use Rattle.lsys_module.specs.declared.symbol.Module.{Module as CodeModule}
use Rattle.lsys_module.specs.declared.symbol.Symbol.{Symbol}
use Rattle.lsys_module.specs.declared.symbol.Symbol.TheVariants.{Module}
use Rattle.lsys_bodies.specs.declared.rule.Rule.{Rule}
use Rattle.lsys_bodies.specs.declared.body.Body.{Body}
use Rattle.lsys_bodies.specs.declared.body.Template.{Template}
use Rattle.lsys_bodies.specs.Views.{as_production, rule_of, template_symbol}
use Rattle.lsys_growth.specs.Growth.{all_rule_names, among, letters, most_letters, module_names, rule_names, put_before, put_letters}
use Rattle.lsys_growth.proofs.LettersAmong.{letters_longer, letters_more, letter_new, put_longer}
use Rattle.lsys_growth.specs.Letters.{letter_place, HasPut}

-- 1. a name among names

step : (a b c : Bool) → b ≡ c → (a || b) ≡ (elim a [ true ↦ true | false ↦ c ])
step true b c h = refl
step false b c h = h

pub any_among : (n : ModuleName) (ls : List (List ℕ)) → list_any (λ o. same_name (module_name o) n) ls ≡ among (map module_name ls) n
any_among n [] = refl
any_among n (x ∷ xs) = step (same_name (module_name x) n) (list_any (λ o. same_name (module_name o) n) xs) (among (map module_name xs) n) (any_among n xs)

-- 2. where a name is put

pub place_within : (n : ModuleName) (ms : List ModuleName) → letter_place n ms ≤ length ms
place_within n [] = omega arith
place_within n (m ∷ ms) = by (comes_before (module_name_text n) (module_name_text m)) (place_within n ms)
  where
    by : (b : Bool) → letter_place n ms ≤ length ms → (if b then 0 else suc (letter_place n ms)) ≤ suc (length ms)
    by true h = omega arith
    by false h = omega (arith, h)

pub put_at : (n : ModuleName) (ms : List ModuleName) → insert ms (letter_place n ms) n ≡ put_before n ms
put_at n [] = refl
put_at n (m ∷ ms) = by (comes_before (module_name_text n) (module_name_text m)) (put_at n ms)
  where
    by : (b : Bool) → insert ms (letter_place n ms) n ≡ put_before n ms → insert (m ∷ ms) (if b then 0 else suc (letter_place n ms)) n ≡ (if b then n ∷ m ∷ ms else m ∷ put_before n ms)
    by true h = refl
    by false h = ap (λ l. m ∷ l) h

pub mapped_insert : (ls : List (List ℕ)) (i : ℕ) (x : List ℕ) → map module_name (insert ls i x) ≡ insert (map module_name ls) i (module_name x)
mapped_insert [] zero x = refl
mapped_insert [] (suc i) x = refl
mapped_insert (l ∷ ls) zero x = refl
mapped_insert (l ∷ ls) (suc i) x = ap (λ ms. module_name l ∷ ms) (mapped_insert ls i x)

abbrev after : ModuleName → List ℕ → Bool
after n l = comes_before (module_name_text n) (module_name_text (module_name l))

counted_before : (n : ModuleName) (ls : List (List ℕ)) → position_or_len (after n) ls ≡ letter_place n (map module_name ls)
counted_before n [] = refl
counted_before n (l ∷ ls) = by (after n l) (counted_before n ls)
  where
    by : (b : Bool) → position_or_len (after n) ls ≡ letter_place n (map module_name ls) → cond (not b) (1 + position_or_len (after n) ls) 0 ≡ (if b then 0 else suc (letter_place n (map module_name ls)))
    by true h = refl
    by false h = omega (arith, h)

pub place_found : (n : ModuleName) (ls : List (List ℕ)) → unwrap_or (position (after n) ls) (length ls) ≡ letter_place n (map module_name ls)
place_found n ls =
    ap (λ k. unwrap_or (cond (nat_lt k (length ls)) (Some k) None) (length ls)) (counted_before n ls) ∙ by (nat_lt (letter_place n (map module_name ls)) (length ls)) refl
  where
    by : (b : Bool) → nat_lt (letter_place n (map module_name ls)) (length ls) ≡ b → unwrap_or (cond b (Some (letter_place n (map module_name ls))) None) (length ls) ≡ letter_place n (map module_name ls)
    by true h = refl
    by false h =
        let e = place_within n (map module_name ls) in
        let l = length-map ls module_name in
        let g = ltb-false (letter_place n (map module_name ls)) (length ls) h in
        omega (arith, e, l, g)

-- 3. one more letter

pub put_new : (ls : List (List ℕ)) (x : List ℕ) → among (map module_name ls) (module_name x) ≡ false → length ls < most_letters
    → HasPut (map module_name ls) (module_name x ∷ []) (map module_name (insert ls (letter_place (module_name x) (map module_name ls)) x)) true
put_new ls x h f =
    let n = module_name x in
    let ms = map module_name ls in
    let e : map module_name (insert ls (letter_place n ms) x) ≡ put_before n ms = mapped_insert ls (letter_place n ms) x ∙ put_at n ms in
    (letter_new ms n h ∙ sym e, let l = length-map ls module_name in let g = ap length e in let k = put_longer n ms in omega (arith, l, f, g, k))

pub inserted : (ls new : List (List ℕ)) (x : List ℕ) (place : ℕ) → among (map module_name ls) (module_name x) ≡ false → length ls < most_letters
    → place ≡ letter_place (module_name x) (map module_name ls) → new ≡ insert ls place x → HasPut (map module_name ls) (module_name x ∷ []) (map module_name new) true
inserted ls new x place h f p e = rw (e, p) (put_new ls x h f)

pub put_full : (ms : List ModuleName) (n : ModuleName) → among ms n ≡ false → length ms ≡ most_letters → HasPut ms (n ∷ []) ms false
put_full ms n h f = let e = ap length (letter_new ms n h) in let k = put_longer n ms in omega (arith, e, k, f)

-- 4. more letters

pub too_many : (old now all some rest : List ModuleName) → put_letters now (some ++ rest) ≡ put_letters old all → most_letters < length (put_letters now some) → most_letters < length (put_letters old all)
too_many old now all some rest e h =
    let f = letters_longer (put_letters now some) rest in
    let g = ap length (sym (letters_more now some rest) ∙ e) in
    omega (arith, f, g, h)

pub put_on : (old now new all some rest : List ModuleName) → put_letters now (some ++ rest) ≡ put_letters old all → put_letters now some ≡ new → put_letters new rest ≡ put_letters old all
put_on old now new all some rest e h = ap (λ ms. put_letters ms rest) (sym h) ∙ sym (letters_more now some rest) ∙ e

-- 5. item by item

pub item_next : {A : Type 0} (xs : List A) (i : ℕ) (x : A) → i < length xs → x ≡ get_or xs i x → drop i xs ≡ x ∷ drop (i + 1) xs
item_next xs i x h e = let s : i + 1 ≡ suc i = omega arith in rw s (drop-cons xs i x h ∙ ap (λ y. y ∷ drop (suc i) xs) (sym e))

full : (old ns new : List ModuleName) (b : Bool) → b ≡ false → HasPut old ns new b → most_letters < length (put_letters old ns)
full old ns new true e h = cc
full old ns new false e h = h

pub kept : (old ns new : List ModuleName) (b : Bool) → b ≡ true → HasPut old ns new b → HasPut old ns new true
kept old ns new true e h = h
kept old ns new false e h = cc

-- as many letters as names
pub few : (ls : List (List ℕ)) → length (map module_name ls) ≤ most_letters → length ls ≤ most_letters
few ls h = let e = length-map ls module_name in omega (arith, e, h)

pub axiom_full : (old now new : List ModuleName) (symbols : List Symbol) (i : ℕ) (m : CodeModule) (x : Symbol) (b : Bool) → i < length symbols → x ≡ get_or symbols i x → x ≡ Module m
    → put_letters now (module_names (string_of (drop i symbols))) ≡ put_letters old (module_names (string_of symbols)) → b ≡ false → HasPut now (module_name m.name ∷ []) new b
    → most_letters < length (put_letters old (module_names (string_of symbols)))
axiom_full old now new symbols i m x b h e k r f p =
    let split : drop i symbols ≡ Module m ∷ drop (i + 1) symbols = item_next symbols i x h e ∙ ap (λ y. y ∷ drop (i + 1) symbols) k in
    too_many old now (module_names (string_of symbols)) (module_name m.name ∷ []) (module_names (string_of (drop (i + 1) symbols)))
    (ap (λ l. put_letters now (module_names (string_of l))) (sym split) ∙ r) (full now (module_name m.name ∷ []) new b f p)

pub successor_full : (old now new : List ModuleName) (ts : List Template) (i : ℕ) (x y : Template) (n : List ℕ) (b : Bool) → i < length ts → x ≡ get_or ts i x → x ≡ y
    → ((rest : List (S.Symbol Expr)) → module_names (template_symbol y ∷ rest) ≡ module_name n ∷ module_names rest)
    → put_letters now (module_names (map template_symbol (drop i ts))) ≡ put_letters old (module_names (map template_symbol ts)) → b ≡ false → HasPut now (module_name n ∷ []) new b
    → most_letters < length (put_letters old (module_names (map template_symbol ts)))
successor_full old now new ts i x y n b h e k g r f p =
    let split : drop i ts ≡ y ∷ drop (i + 1) ts = item_next ts i x h e ∙ ap (λ z. z ∷ drop (i + 1) ts) k in
    too_many old now (module_names (map template_symbol ts)) (module_name n ∷ []) (module_names (map template_symbol (drop (i + 1) ts)))
    (ap (put_letters now) (sym (g (map template_symbol (drop (i + 1) ts)))) ∙ ap (λ l. put_letters now (module_names (map template_symbol l))) (sym split) ∙ r) (full now (module_name n ∷ []) new b f p)

pub rules_full : (old now new : List ModuleName) (rules : List Rule) (i : ℕ) (x : Rule) (b : Bool) → i < length rules → x ≡ get_or rules i x
    → put_letters now (all_rule_names (map as_production (drop i rules))) ≡ put_letters old (all_rule_names (map as_production rules)) → b ≡ false → HasPut now (rule_names (rule_of x)) new b
    → most_letters < length (put_letters old (all_rule_names (map as_production rules)))
rules_full old now new rules i x b h e r f p =
    let split : drop i rules ≡ x ∷ drop (i + 1) rules = item_next rules i x h e in
    too_many old now (all_rule_names (map as_production rules)) (rule_names (rule_of x)) (all_rule_names (map as_production (drop (i + 1) rules)))
    (ap (λ l. put_letters now (all_rule_names (map as_production l))) (sym split) ∙ r) (full now (rule_names (rule_of x)) new b f p)

pub rules_on : (old now new : List ModuleName) (rules : List Rule) (i : ℕ) (x : Rule) → i < length rules → x ≡ get_or rules i x
    → put_letters now (all_rule_names (map as_production (drop i rules))) ≡ put_letters old (all_rule_names (map as_production rules)) → put_letters now (rule_names (rule_of x)) ≡ new
    → put_letters new (all_rule_names (map as_production (drop (i + 1) rules))) ≡ put_letters old (all_rule_names (map as_production rules))
rules_on old now new rules i x h e r p =
    let split : drop i rules ≡ x ∷ drop (i + 1) rules = item_next rules i x h e in
    put_on old now new (all_rule_names (map as_production rules)) (rule_names (rule_of x)) (all_rule_names (map as_production (drop (i + 1) rules)))
    (ap (λ l. put_letters now (all_rule_names (map as_production l))) (sym split) ∙ r) p

-- a rule's predecessor, and then its successor
pub put_both : (old mid new : List ModuleName) (n : ModuleName) (ns : List ModuleName) (b : Bool) → put_letters old (n ∷ []) ≡ mid → HasPut mid ns new b → HasPut old (n ∷ ns) new b
put_both old mid new n ns true e p = (ap (λ ms. put_letters ms ns) e ∙ p.0, p.1)
put_both old mid new n ns false e p = rw e p

pub first_full : (old new : List ModuleName) (n : ModuleName) (ns : List ModuleName) (b : Bool) → b ≡ false → HasPut old (n ∷ []) new b → most_letters < length (put_letters old (n ∷ ns))
first_full old new n ns b e p = too_many old old (n ∷ ns) (n ∷ []) ns refl (full old (n ∷ []) new b e p)

pub first_full_of : (old new : List ModuleName) (r : Rule) (body : Body) (b : Bool) → body ≡ r.body → b ≡ false → HasPut old (module_name body.predecessor.name ∷ []) new b → most_letters < length (put_letters old (rule_names (rule_of r)))
first_full_of old new r body b e f p = first_full old new (rule_of r).name (module_names (rule_of r).successor) b f (subst (λ (x : Body). HasPut old (module_name x.predecessor.name ∷ []) new b) e p)

pub rule_put : (old mid new : List ModuleName) (r : Rule) (body : Body) (ts : List Template) (first b : Bool) → body ≡ r.body → ts ≡ body.successor.items → first ≡ true
    → HasPut old (module_name body.predecessor.name ∷ []) mid first → HasPut mid (module_names (map template_symbol ts)) new b → HasPut old (rule_names (rule_of r)) new b
rule_put old mid new r body ts first b e f g p q =
    let one : put_letters old ((rule_of r).name ∷ []) ≡ mid = subst (λ (x : Body). put_letters old (module_name x.predecessor.name ∷ []) ≡ mid) e (kept old (module_name body.predecessor.name ∷ []) mid first g p).0 in
    let more : HasPut mid (module_names (rule_of r).successor) new b = subst (λ l. HasPut mid (module_names (map template_symbol l)) new b) (f ∙ ap (λ (x : Body). x.successor.items) e) q in
    put_both old mid new (rule_of r).name (module_names (rule_of r).successor) b one more

-- the axiom's names, as the code has them
pub axiom_put : (s : System) (ls : List (List ℕ)) (xs ys : List Symbol) (new : List ModuleName) (b : Bool) → ls ≡ [] → xs ≡ ys → string_of ys ≡ s.axiom_string
    → HasPut (map module_name ls) (module_names (string_of xs)) new b → HasPut [] (module_names s.axiom_string) new b
axiom_put s ls xs ys new b e f g p = subst (λ l. HasPut l (module_names s.axiom_string) new b) (ap (map module_name) e) (subst (λ x. HasPut (map module_name ls) (module_names x) new b) (ap string_of f ∙ g) p)

pub rules_put : (s : System) (mid new : List ModuleName) (rules : List Rule) (b : Bool) → map as_production rules ≡ s.rules → HasPut mid (all_rule_names (map as_production rules)) new b → HasPut mid (all_rule_names s.rules) new b
rules_put s mid new rules b e p = subst (λ ps. HasPut mid (all_rule_names ps) new b) e p

-- the axiom's names, and then the rules'
pub letters_full : (s : System) (new : List ModuleName) (b : Bool) → b ≡ false → HasPut [] (module_names s.axiom_string) new b → most_letters < length (letters s)
letters_full s new b e p = too_many [] [] (module_names s.axiom_string ++ all_rule_names s.rules) (module_names s.axiom_string) (all_rule_names s.rules) refl (full [] (module_names s.axiom_string) new b e p)

pub rule_letters_full : (s : System) (mid new : List ModuleName) (b : Bool) → put_letters [] (module_names s.axiom_string) ≡ mid → b ≡ false → HasPut mid (all_rule_names s.rules) new b → most_letters < length (letters s)
rule_letters_full s mid new b h e p =
    let f = full mid (all_rule_names s.rules) new b e p in
    let g = ap length (letters_more [] (module_names s.axiom_string) (all_rule_names s.rules) ∙ ap (λ ms. put_letters ms (all_rule_names s.rules)) h) in
    omega (arith, f, g)

pub letters_told : (s : System) (mid new : List ModuleName) → put_letters [] (module_names s.axiom_string) ≡ mid → put_letters mid (all_rule_names s.rules) ≡ new → new ≡ letters s
letters_told s mid new h g = sym (letters_more [] (module_names s.axiom_string) (all_rule_names s.rules) ∙ ap (λ ms. put_letters ms (all_rule_names s.rules)) h ∙ g)
