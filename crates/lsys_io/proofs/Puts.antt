-- One text put after another.
use Rattle.std.proofs.Common.{◌≡◌, ℕ, ◌+◌, ◌≤◌, List, [], ◌++◌, length, take, Option, Some, None, Result, Ok, Err, OnOk, OnErr, refl, sym, ◌∙◌, ap, arith, append_assoc, append-nil, length-append, true≢false}
use Rattle.std.specs.Result.{IsErr}
use Rattle.std.specs.Io.KnownBytes.{Appends, append_known}
use Rattle.std.proofs.KnownBytes.{Appends-trans, Appends-nil}
use Rattle.std.proofs.Math.Seq.{take-append-add}
use Rattle.std.proofs.lemmas.List.{append_cancel_left, take-append-le, length-take-le, take_all}
use Rattle.lsys_io.specs.declared.Failed.{Failed}
use Rattle.lsys_io.specs.Causes.{Rose}
use Rattle.lsys_io.specs.Writes.{AppendsFront, WasPut}

-- a front of bytes is one of more bytes
pub front_of_more : (a b : Option (List ℕ)) (bytes more : List ℕ) → AppendsFront a b bytes → AppendsFront a b (bytes ++ more)
front_of_more a b bytes more h = (
  h.0,
  omega (arith, h.1, length-append bytes more),
  rw (take-append-le h.0 bytes more h.1) h.2,
)

-- what was written of the bytes before, and then of what was held and more
front_joined : (x y z held after text more : List ℕ) (i n : ℕ) → y ++ after ≡ (x ++ held) ++ text → i ≤ length (held ++ text) → y ≡ x ++ take i (held ++ text) → z ≡ y ++ take n (after ++ more)
    → z ≡ x ++ take (i + n) (held ++ (text ++ more))
front_joined x y z held after text more i n put within first second =
    let all = held ++ text in
    let whole : take i all ++ after ≡ all =
    append_cancel_left x (take i all ++ after) all (sym (append_assoc x (take i all) after) ∙ ap (λ t. t ++ after) (sym first) ∙ put ∙ append_assoc x held text) in
    let rest : take (i + n) (held ++ (text ++ more)) ≡ take i all ++ take n (after ++ more) =
    ap (take (i + n)) (sym (append_assoc held text more) ∙ ap (λ t. t ++ more) (sym whole) ∙ append_assoc (take i all) after more)
    ∙ ap (λ k. take (k + n) (take i all ++ (after ++ more))) (sym (length-take-le i all within))
    ∙ take-append-add (take i all) (after ++ more) n in
    second ∙ ap (λ t. t ++ take n (after ++ more)) first ∙ append_assoc x (take i all) (take n (after ++ more)) ∙ ap (λ t. x ++ t) (sym rest)

front_then : (a b c : Option (List ℕ)) (held after text more : List ℕ) → Appends (append_known a held) (append_known b after) text
    → AppendsFront a b (held ++ text) → AppendsFront b c (after ++ more) → AppendsFront a c (held ++ (text ++ more))
front_then None b c held after text more put f g = (0, omega arith, tt)
front_then (Some x) None c held after text more put f g = absurd f.2
front_then (Some x) (Some y) None held after text more put f g = absurd g.2
front_then (Some x) (Some y) (Some z) held after text more put f g = (
  f.0 + g.0,
  omega (arith, f.1, g.1, ap length put, ap length f.2, length-append y after, length-append (x ++ held) text, length-append x held, length-append x (take f.0 (held ++ text)), length-append held text, length-append text more, length-append held (text ++ more), length-append after more, length-take-le f.0 (held ++ text) f.1),
  front_joined x y z held after text more f.0 g.0 put f.1 f.2 g.2,
)

-- nothing was put
pub puts_nothing : {K A : Type 0} {written : K → Option (List ℕ)} {faults : K → ℕ} {sink : K} {held : List ℕ} {answer : A} → WasPut written faults sink sink held held [] (Ok answer)
puts_nothing {written = written} {sink = sink} {held = held} = record {
  put = Appends-nil (append_known (written sink) held);
  writes_front = (0, omega arith, Appends-nil (written sink));
  failed_holds_nothing = tt;
  never_falls = omega arith;
  failed_only_where_rose = tt;
  ok_leaves_count = refl;
}

-- a text was put, and then another one, or the sink failed at that
pub puts_then : {K A B : Type 0} {written : K → Option (List ℕ)} {faults : K → ℕ} {sink_old sink_mid sink_new : K} {held_old held_mid held_new text more : List ℕ} {answer : A} {result : Result B Failed}
    → WasPut written faults sink_old sink_mid held_old held_mid text (Ok answer) → WasPut written faults sink_mid sink_new held_mid held_new more result
    → WasPut written faults sink_old sink_new held_old held_new (text ++ more) result
puts_then {written = written} {sink_old = s} {sink_mid = t} {sink_new = u} {held_old = held_old} {held_mid = held_mid} {held_new = held_new} {text = text} {more = more} {result = Ok x} p q = record {
  put = Appends-trans (append_known (written s) held_old) (append_known (written t) held_mid) (append_known (written u) held_new) text more p.put q.put;
  writes_front = front_then (written s) (written t) (written u) held_old held_mid text more p.put p.writes_front q.writes_front;
  failed_holds_nothing = tt;
  never_falls = omega (arith, p.never_falls, q.never_falls);
  failed_only_where_rose = tt;
  ok_leaves_count = q.ok_leaves_count ∙ p.ok_leaves_count;
}
puts_then {written = written} {sink_old = s} {sink_mid = t} {sink_new = u} {held_old = held_old} {held_mid = held_mid} {text = text} {more = more} {result = Err e} p q = record {
  put = tt;
  writes_front = front_then (written s) (written t) (written u) held_old held_mid text more p.put p.writes_front q.writes_front;
  failed_holds_nothing = q.failed_holds_nothing;
  never_falls = omega (arith, p.never_falls, q.never_falls);
  failed_only_where_rose = rw (sym p.ok_leaves_count) q.failed_only_where_rose;
  ok_leaves_count = tt;
}

-- the sink failed, whatever would have been answered else
pub puts_refused : {K A B : Type 0} {written : K → Option (List ℕ)} {faults : K → ℕ} {sink_old sink_new : K} {held_old held_new text : List ℕ} {failed : Failed} {result : Result B Failed}
    → IsErr result → WasPut {A = A} written faults sink_old sink_new held_old held_new text (Err failed) → WasPut written faults sink_old sink_new held_old held_new text result
puts_refused {result = Ok x} is p = absurd (true≢false (sym is))
puts_refused {result = Err e} is p = record {
  put = tt;
  writes_front = p.writes_front;
  failed_holds_nothing = p.failed_holds_nothing;
  never_falls = p.never_falls;
  failed_only_where_rose = p.failed_only_where_rose;
  ok_leaves_count = tt;
}

more_unwritten : {K A : Type 0} {written : K → Option (List ℕ)} {faults : K → ℕ} {sink_old sink_new : K} {held_old held_new text : List ℕ} {failed : Failed} (more : List ℕ)
    → WasPut {A = A} written faults sink_old sink_new held_old held_new text (Err failed) → WasPut {A = A} written faults sink_old sink_new held_old held_new (text ++ more) (Err failed)
more_unwritten {written = written} {sink_old = s} {sink_new = t} {held_old = held_old} {text = text} more p = record {
  put = tt;
  writes_front = rw (sym (append_assoc held_old text more)) (front_of_more (written s) (written t) (held_old ++ text) more p.writes_front);
  failed_holds_nothing = p.failed_holds_nothing;
  never_falls = p.never_falls;
  failed_only_where_rose = p.failed_only_where_rose;
  ok_leaves_count = tt;
}

-- the sink failed before more was put
pub puts_failed : {K A B : Type 0} {written : K → Option (List ℕ)} {faults : K → ℕ} {sink_old sink_new : K} {held_old held_new text : List ℕ} {failed : Failed} {result : Result B Failed} (more : List ℕ)
    → IsErr result → WasPut {A = A} written faults sink_old sink_new held_old held_new text (Err failed) → WasPut written faults sink_old sink_new held_old held_new (text ++ more) result
puts_failed more is p = puts_refused is (more_unwritten more p)

-- what was put doesn't depend on what is answered beside it
pub puts_answering : {K A B : Type 0} {written : K → Option (List ℕ)} {faults : K → ℕ} {sink_old sink_new : K} {held_old held_new text : List ℕ} {answer : A} {other : B}
    → WasPut written faults sink_old sink_new held_old held_new text (Ok answer) → WasPut written faults sink_old sink_new held_old held_new text (Ok other)
puts_answering p = record {
  put = p.put;
  writes_front = p.writes_front;
  failed_holds_nothing = tt;
  never_falls = p.never_falls;
  failed_only_where_rose = tt;
  ok_leaves_count = p.ok_leaves_count;
}

-- what stands written and held, where what was held was written
held_written : (a b : Option (List ℕ)) (held : List ℕ) → Appends a b held → Appends (append_known a held) (append_known b []) []
held_written None b held h = tt
held_written (Some x) None held h = absurd h
held_written (Some x) (Some y) held h = ap (λ t. t ++ []) h

known_only : (a b : Option (List ℕ)) (bytes : List ℕ) → Appends a b bytes → Appends (append_known a []) (append_known b []) bytes
known_only None b bytes h = tt
known_only (Some x) None bytes h = absurd h
known_only (Some x) (Some y) bytes h = append-nil y ∙ h ∙ ap (λ t. t ++ bytes) (sym (append-nil x))

flushed : {K : Type 0} (written : K → Option (List ℕ)) (faults : K → ℕ) (sink_old sink_new : K) (held : List ℕ) → Appends (written sink_old) (written sink_new) held → faults sink_new ≡ faults sink_old
    → WasPut {A = Unit {0}} written faults sink_old sink_new held [] [] (Ok tt)
flushed written faults s t held h count = record {
  put = held_written (written s) (written t) held h;
  writes_front = (length held, omega (arith, length-append held []), rw (take-append-le (length held) held [] (omega arith), take_all (length held) held (omega arith)) h);
  failed_holds_nothing = tt;
  never_falls = omega (arith, count);
  failed_only_where_rose = tt;
  ok_leaves_count = count;
}

sent : {K : Type 0} (written : K → Option (List ℕ)) (faults : K → ℕ) (sink_old sink_new : K) (bytes : List ℕ) (result : Result (Unit {0}) Failed)
    → OnOk result (Appends (written sink_old) (written sink_new) bytes) → OnErr result (AppendsFront (written sink_old) (written sink_new) bytes)
    → faults sink_old ≤ faults sink_new → OnErr result (Rose (faults sink_old) (faults sink_new)) → OnOk result (faults sink_new ≡ faults sink_old)
    → WasPut written faults sink_old sink_new [] [] bytes result
sent written faults s t bytes (Ok x) put front never rose same = record {
  put = known_only (written s) (written t) bytes put;
  writes_front = (length bytes, omega arith, rw (take_all (length bytes) bytes (omega arith)) put);
  failed_holds_nothing = tt;
  never_falls = never;
  failed_only_where_rose = tt;
  ok_leaves_count = same;
}
sent written faults s t bytes (Err e) put front never rose same = record {
  put = tt;
  writes_front = front;
  failed_holds_nothing = refl;
  never_falls = never;
  failed_only_where_rose = rose;
  ok_leaves_count = tt;
}

-- what was held was written, and then bytes were, which are not held
pub puts_sent : {K : Type 0} (written : K → Option (List ℕ)) (faults : K → ℕ) (sink_old sink_mid sink_new : K) (held bytes : List ℕ) (result : Result (Unit {0}) Failed)
    → Appends (written sink_old) (written sink_mid) held → faults sink_mid ≡ faults sink_old
    → OnOk result (Appends (written sink_mid) (written sink_new) bytes) → OnErr result (AppendsFront (written sink_mid) (written sink_new) bytes)
    → faults sink_mid ≤ faults sink_new → OnErr result (Rose (faults sink_mid) (faults sink_new)) → OnOk result (faults sink_new ≡ faults sink_mid)
    → WasPut written faults sink_old sink_new held [] bytes result
puts_sent written faults s t u held bytes result before count put front never rose same =
    puts_then (flushed written faults s t held before count) (sent written faults t u bytes result put front never rose same)
