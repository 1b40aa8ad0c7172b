-- Sums of what is read on a level, and on the levels before it.
use Rattle.std.proofs.Common.{◌≡◌, ◌≢◌, ◌⊎◌, ◌+◌, ◌*◌, ◌≤◌, ℕ, zero, suc, Bool, true, false, List, [], ◌∷◌, length, Some, refl, sym, ap, ◌∙◌, subst, inl, inr, arith, slice_get, cond, get_or}
use Rattle.std.specs.Prelude.{sum_by}
use Rattle.std.proofs.lemmas.List.{length-take}
use Rattle.std.proofs.lemmas.List.Sums.{sum_by-cons, sum_by-append}
use Rattle.std.proofs.lemmas.Option.{none-some, same_Some}
use Rattle.lsys_spec.specs.Rows.{In, AreApart}
use Rattle.lsys_spec.specs.Systems.{System}
use Rattle.lsys_spec.specs.Bodies.{Body, group}
use Rattle.lsys_spec.specs.Levels.{ModuleValue, LevelSymbol, Push, Pop, Module}
use Rattle.lsys_spec.specs.Meaning.{asked}
use Rattle.lsys_spec.specs.Questions.{Question, question, where_any, questions_from, questions_at, questions_below}
use Rattle.lsys_reads.specs.Rows.{has}
use Rattle.lsys_laws.specs.Passes.{is_candidate_at, module_question}
use Rattle.lsys_laws.specs.LevelCounts.{read_by}
use Rattle.lsys_match.specs.Derivations.{most_read}
use Rattle.lsys_forest.proofs.WalkLemmas.{get_In}
use Rattle.lsys_pass.specs.Spent.{read_at, read_without}

-- 1. the first symbol, and those after it

times_suc : (c n : ℕ) → c * suc n ≡ c * n + c
times_suc c n = grind arith

times_plus : (c a b : ℕ) → c * (a + b) ≡ c * a + c * b
times_plus c a b = grind arith

abbrev reads : (Question → Bool) → Question → ℕ
reads test q = cond (test q) (length q.trace) 0

read_any : (test : Question → Bool) (bs : List Body) (q : Question) (qs : List Question) → read_by test (where_any bs q qs) ≡ read_by test (where_any bs q []) + read_by test qs
read_any test [] q qs = omega arith
read_any test (b ∷ bs) q qs = let one = sum_by-cons (reads test) q qs in let two = sum_by-cons (reads test) q [] in omega (arith, one, two)

read_more : (test : Question → Bool) (s : System) (t : ℕ) (y : List LevelSymbol) (p : ℕ) (a : LevelSymbol) (rest : List LevelSymbol)
    → read_by test (questions_from s t y p (a ∷ rest)) ≡ read_by test (questions_from s t y p (a ∷ [])) + read_by test (questions_from s t y (p + 1) rest)
read_more test s t y p (Push l) rest = omega arith
read_more test s t y p (Pop l) rest = omega arith
read_more test s t y p (Module l m) rest = let bs : List Body = group s t m.name (length m.params) in read_any test bs (question s t bs y p l m) (questions_from s t y (p + 1) rest)

-- 2. none is left out, or all that have any

pub none_out : (old new : System) (xs : List (List LevelSymbol)) (t : ℕ) (y : List LevelSymbol) (p : ℕ) (rest : List LevelSymbol) (ks : List ℕ) → length rest ≡ length ks
    → read_without (read_at old new xs t y) [] p rest ks ≡ read_by (is_candidate_at old new xs t y) (questions_from new t y p rest)
none_out old new xs t y p [] ks h = refl
none_out old new xs t y p (a ∷ rest) [] h = absurd (omega (arith, h))
none_out old new xs t y p (a ∷ rest) (k ∷ ks) h =
    let r = none_out old new xs t y (p + 1) rest ks (omega (arith, h)) in
    let m = read_more (is_candidate_at old new xs t y) new t y p a rest in
    ap (λ n. read_at old new xs t y p a + n) r ∙ sym m

pub all_out : (entries : ℕ → LevelSymbol → ℕ) (out : List ℕ) (p : ℕ) (rest : List LevelSymbol) (ks : List ℕ)
    → ((i k : ℕ) (a : LevelSymbol) → slice_get ks i ≡ Some k → slice_get rest i ≡ Some a → (has out k ≡ true) ⊎ (entries (p + i) a ≡ 0)) → read_without entries out p rest ks ≡ 0
all_out entries out p [] ks h = refl
all_out entries out p (a ∷ rest) [] h = refl
all_out entries out p (a ∷ rest) (k ∷ ks) h =
    let r = all_out entries out (p + 1) rest ks (λ i j b e f. elim (h (suc i) j b e f) [ inl o ↦ inl o | inr z ↦ inr (ap (λ q. entries q b) (omega arith) ∙ z) ]) in
    let one : cond (has out k) 0 (entries p a) ≡ 0 = elim (h 0 k a refl refl) [
      | inl o ↦ ap (λ b. cond b 0 (entries p a)) o
      | inr z ↦ by (has out k) (ap (λ q. entries q a) (omega arith) ∙ z)
    ] in
    omega (arith, r, one)
  where
    by : (b : Bool) → entries p a ≡ 0 → cond b 0 (entries p a) ≡ 0
    by true z = refl
    by false z = z

-- 3. one less is left out

same_without : (entries : ℕ → LevelSymbol → ℕ) (out out' : List ℕ) (p : ℕ) (rest : List LevelSymbol) (ks : List ℕ) → ((k : ℕ) → In k ks → has out' k ≡ has out k) → read_without entries out' p rest ks ≡ read_without entries out p rest ks
same_without entries out out' p [] ks h = refl
same_without entries out out' p (a ∷ rest) [] h = refl
same_without entries out out' p (a ∷ rest) (k ∷ ks) h =
    let one : cond (has out' k) 0 (entries p a) ≡ cond (has out k) 0 (entries p a) = ap (λ b. cond b 0 (entries p a)) (h k (inl refl)) in
    let r = same_without entries out out' (p + 1) rest ks (λ j i. h j (inr i)) in
    omega (arith, one, r)

pub one_less : (entries : ℕ → LevelSymbol → ℕ) (out out' : List ℕ) (p : ℕ) (rest : List LevelSymbol) (ks : List ℕ) (i k : ℕ) (a : LevelSymbol) → AreApart ks → slice_get ks i ≡ Some k → slice_get rest i ≡ Some a
    → has out k ≡ true → has out' k ≡ false → ((j : ℕ) → j ≢ k → has out' j ≡ has out j)
    → read_without entries out' p rest ks ≡ read_without entries out p rest ks + entries (p + i) a
one_less entries out out' p [] ks i k a apart e f o o' others = absurd (none-some a f)
one_less entries out out' p (b ∷ rest) [] i k a apart e f o o' others = absurd (none-some k e)
one_less entries out out' p (b ∷ rest) (j ∷ ks) zero k a apart e f o o' others =
    let node : j ≡ k = same_Some j k e in
    let symbol : b ≡ a = same_Some b a f in
    let was : cond (has out j) 0 (entries p b) ≡ 0 = ap (λ c. cond c 0 (entries p b)) (ap (has out) node ∙ o) in
    let is : cond (has out' j) 0 (entries p b) ≡ entries p b = ap (λ c. cond c 0 (entries p b)) (ap (has out') node ∙ o') in
    let r = same_without entries out out' (p + 1) rest ks (λ n h. others n (λ g. apart.0 (subst (λ x. In x ks) (g ∙ sym node) h))) in
    let own : entries p b ≡ entries (p + 0) a = ap (entries p) symbol ∙ ap (λ q. entries q a) (omega arith) in
    omega (arith, was, is, r, own)
one_less entries out out' p (b ∷ rest) (j ∷ ks) (suc i) k a apart e f o o' others =
    let r = one_less entries out out' (p + 1) rest ks i k a apart.1 e f o o' others in
    let other : j ≢ k = λ g. apart.0 (subst (λ x. In x ks) (sym g) (get_In ks i k e)) in
    let one : cond (has out' j) 0 (entries p b) ≡ cond (has out j) 0 (entries p b) = ap (λ c. cond c 0 (entries p b)) (others j other) in
    let own : entries ((p + 1) + i) a ≡ entries (p + suc i) a = ap (λ q. entries q a) (omega arith) in
    omega (arith, r, one, own)

-- 4. at most so many entries a symbol

pub few_without : (entries : ℕ → LevelSymbol → ℕ) (c : ℕ) → ((p : ℕ) (a : LevelSymbol) → entries p a ≤ c) → (out : List ℕ) (p : ℕ) (rest : List LevelSymbol) (ks : List ℕ) → read_without entries out p rest ks ≤ c * length rest
few_without entries c few out p [] ks = omega arith
few_without entries c few out p (a ∷ rest) [] = omega arith
few_without entries c few out p (a ∷ rest) (k ∷ ks) =
    let r = few_without entries c few out (p + 1) rest ks in
    let one = by (has out k) in
    let more = times_suc c (length rest) in
    omega (arith, r, one, more)
  where
    by : (b : Bool) → cond b 0 (entries p a) ≤ c
    by true = omega arith
    by false = few p a

-- and where one symbol is left out
pub fewer_without : (entries : ℕ → LevelSymbol → ℕ) (c : ℕ) → ((p : ℕ) (a : LevelSymbol) → entries p a ≤ c) → (out : List ℕ) (p : ℕ) (rest : List LevelSymbol) (ks : List ℕ) (i k : ℕ) → length rest ≡ length ks → slice_get ks i ≡ Some k
    → has out k ≡ true → read_without entries out p rest ks + c ≤ c * length rest
fewer_without entries c few out p [] [] i k h e o = absurd (none-some k e)
fewer_without entries c few out p [] (j ∷ ks) i k h e o = absurd (omega (arith, h))
fewer_without entries c few out p (a ∷ rest) [] i k h e o = absurd (none-some k e)
fewer_without entries c few out p (a ∷ rest) (j ∷ ks) zero k h e o =
    let r = few_without entries c few out (p + 1) rest ks in
    let one : cond (has out j) 0 (entries p a) ≡ 0 = ap (λ b. cond b 0 (entries p a)) (ap (has out) (same_Some j k e) ∙ o) in
    let more = times_suc c (length rest) in
    omega (arith, r, one, more)
fewer_without entries c few out p (a ∷ rest) (j ∷ ks) (suc i) k h e o =
    let r = fewer_without entries c few out (p + 1) rest ks i k (omega (arith, h)) e o in
    let one = by (has out j) in
    let more = times_suc c (length rest) in
    omega (arith, r, one, more)
  where
    by : (b : Bool) → cond b 0 (entries p a) ≤ c
    by true = omega arith
    by false = few p a

few_any : (test : Question → Bool) (bs : List Body) (q : Question) → length q.trace ≤ most_read → read_by test (where_any bs q []) ≤ most_read
few_any test [] q h = omega arith
few_any test (b ∷ bs) q h = let one = sum_by-cons (reads test) q [] in let two = by (test q) in omega (arith, one, two)
  where
    by : (c : Bool) → cond c (length q.trace) 0 ≤ most_read
    by true = h
    by false = omega arith

few_trace : (s : System) (t : ℕ) (bs : List Body) (y : List LevelSymbol) (p : ℕ) (l : List ℕ) (m : ModuleValue) → length (question s t bs y p l m).trace ≤ most_read
few_trace s t bs y p l m = let e = length-take most_read (asked s t bs y p l m).entries in omega (arith, e)

pub few_at : (test : Question → Bool) (s : System) (t : ℕ) (y : List LevelSymbol) (p : ℕ) (a : LevelSymbol) → read_by test (questions_from s t y p (a ∷ [])) ≤ most_read
few_at test s t y p (Push l) = omega arith
few_at test s t y p (Pop l) = omega arith
few_at test s t y p (Module l m) = let bs : List Body = group s t m.name (length m.params) in few_any test bs (question s t bs y p l m) (few_trace s t bs y p l m)

few_level : (test : Question → Bool) (s : System) (t : ℕ) (y : List LevelSymbol) (p : ℕ) (rest : List LevelSymbol) → read_by test (questions_from s t y p rest) ≤ most_read * length rest
few_level test s t y p [] = omega arith
few_level test s t y p (a ∷ rest) =
    let one = few_at test s t y p a in
    let r = few_level test s t y (p + 1) rest in
    let m = read_more test s t y p a rest in
    let more = times_suc most_read (length rest) in
    omega (arith, one, r, m, more)

-- what is read below the last level, and as much as may be read on it
pub few_below : (test : Question → Bool) (s : System) (t : ℕ) (ys : List (List LevelSymbol)) (i : ℕ) → length ys ≡ i + 1 → read_by test (questions_below s t ys) + most_read * length (get_or ys i []) ≤ most_read * sum_by length ys
few_below test s t [] i h = absurd (omega (arith, h))
few_below test s t (x ∷ []) zero h = let e = sum_by-cons (length {A = LevelSymbol}) x [] in let f : most_read * length x ≡ most_read * sum_by length (x ∷ []) = ap (λ n. most_read * n) (omega (arith, e)) in omega (arith, f)
few_below test s t (x ∷ []) (suc i) h = absurd (omega (arith, h))
few_below test s t (x ∷ y ∷ ys) zero h = absurd (omega (arith, h))
few_below test s t (x ∷ y ∷ ys) (suc i) h =
    let r = few_below test s (t + 1) (y ∷ ys) i (omega (arith, h)) in
    let one = few_level test s t x 0 x in
    let both = sum_by-append (reads test) (questions_at s t x) (questions_below s (t + 1) (y ∷ ys)) in
    let all : most_read * sum_by length (x ∷ y ∷ ys) ≡ most_read * length x + most_read * sum_by length (y ∷ ys) = ap (λ n. most_read * n) (sum_by-cons (length {A = LevelSymbol}) x (y ∷ ys)) ∙ times_plus most_read (length x) (sum_by length (y ∷ ys)) in
    omega (arith, r, one, both, all)

-- 5. the entries of a module

read_grouped : (test : Question → Bool) (bs : List Body) (q : Question) → (bs ≡ [] → ⊥) → test q ≡ true → read_by test (where_any bs q []) ≡ length q.trace
read_grouped test [] q rules h = absurd (rules refl)
read_grouped test (b ∷ bs) q rules h = let one = sum_by-cons (reads test) q [] in let two : reads test q ≡ length q.trace = ap (λ c. cond c (length q.trace) 0) h in omega (arith, one, two)

pub read_module : (old new : System) (xs : List (List LevelSymbol)) (t : ℕ) (y : List LevelSymbol) (p : ℕ) (l : List ℕ) (m : ModuleValue) → (group new t m.name (length m.params) ≡ [] → ⊥)
    → is_candidate_at old new xs t y (module_question new t y p l m) ≡ true → read_at old new xs t y p (Module l m) ≡ length (module_question new t y p l m).trace
read_module old new xs t y p l m rules h = read_grouped (is_candidate_at old new xs t y) (group new t m.name (length m.params)) (module_question new t y p l m) rules h

-- a symbol for which anything is read is a module with a question that passes
pub record IsRead (old new : System) (xs : List (List LevelSymbol)) (t : ℕ) (y : List LevelSymbol) (p : ℕ) (a : LevelSymbol) : Type 0 where
  pub line : List ℕ
  pub own : ModuleValue
  pub stands : a ≡ Module line own
  pub rules : group new t own.name (length own.params) ≡ [] → ⊥
  pub is : is_candidate_at old new xs t y (module_question new t y p line own) ≡ true

pub is_read : (old new : System) (xs : List (List LevelSymbol)) (t : ℕ) (y : List LevelSymbol) (p : ℕ) (a : LevelSymbol) → IsRead old new xs t y p a ⊎ (read_at old new xs t y p a ≡ 0)
is_read old new xs t y p (Push l) = inr refl
is_read old new xs t y p (Pop l) = inr refl
is_read old new xs t y p (Module l m) = by (group new t m.name (length m.params)) refl (is_candidate_at old new xs t y (module_question new t y p l m)) refl
  where
    q : Question
    q = module_question new t y p l m

    test : Question → Bool
    test = is_candidate_at old new xs t y

    by : (bs : List Body) → group new t m.name (length m.params) ≡ bs → (b : Bool) → test q ≡ b → IsRead old new xs t y p (Module l m) ⊎ (read_at old new xs t y p (Module l m) ≡ 0)
    by [] e b f = inr (ap (λ bs. read_by test (where_any bs q [])) e)
    by (c ∷ bs) e true f = inl (record { line = l; own = m; stands = refl; rules = λ g. cc; is = f })
    by (c ∷ bs) e false f = inr (ap (λ bs. read_by test (where_any bs q [])) e ∙ sum_by-cons (reads test) q [] ∙ ap (λ b. cond b (length q.trace) 0 + 0) f)
