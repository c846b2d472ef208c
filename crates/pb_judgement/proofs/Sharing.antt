-- Results that were worked out once are those of all tasks that do the same.
use Rattle.std.proofs.Common.{◌≡◌, Bool, true, false, true≢false, ◌&&◌, refl, ◌∙◌}
use Rattle.std.proofs.Math.Bool.{beq}
use Rattle.pb_language.specs.Task.{Task}
use Rattle.pb_task.specs.declared.task.Work.{Work}
use Rattle.pb_judgement.specs.Ends.{Does}
use Rattle.pb_judgement.specs.Results.{AreAlike, AreResults}
use Rattle.pb_judgement.specs.declared.ends.Manner.{Manner}
use Rattle.pb_judgement.specs.declared.results.Results.{Results}

pub alike : (w : Work) (m : Manner) (r s : Results) → AreAlike r s → AreResults w m s → AreResults w m r
alike w m r s a h = record {
  going = λ t does judged. a.going ∙ h.going t does judged;
  failing = λ t does judged. a.failing ∙ h.failing t does judged;
  all = λ t does judged. a.all ∙ h.all t does judged;
  answered = λ t does. a.answered ∙ h.answered t does;
  judged = λ t does judged. a.judged ∙ h.judged t does judged;
}

pub of_the_same : (v w : Work) (m : Manner) (r : Results) → ((t : Task) → Does w t → Does v t) → AreResults v m r → AreResults w m r
of_the_same v w m r same h = record {
  going = λ t does judged. h.going t (same t does) judged;
  failing = λ t does judged. h.failing t (same t does) judged;
  all = λ t does judged. h.all t (same t does) judged;
  answered = λ t does. h.answered t (same t does);
  judged = λ t does judged. h.judged t (same t does) judged;
}

same_bool : (a b : Bool) → true ≡ beq a b → a ≡ b
same_bool true true h = refl
same_bool false false h = refl
same_bool true false h = absurd (true≢false h)
same_bool false true h = absurd (true≢false h)

first_so : (a b : Bool) → true ≡ (a && b) → true ≡ a
first_so true b h = refl
first_so false b h = h

second_so : (a b : Bool) → true ≡ (a && b) → true ≡ b
second_so true b h = h
second_so false b h = absurd (true≢false h)

pub same_manner : (m n : Manner) → true ≡ (beq m.may_skip n.may_skip && (beq m.asks_failed n.asks_failed && (beq m.repeats n.repeats && beq m.ignores n.ignores))) → m ≡ n
same_manner m n h =
    let a = beq m.may_skip n.may_skip in
    let b = beq m.asks_failed n.asks_failed in
    let d = beq m.repeats n.repeats in
    let e = beq m.ignores n.ignores in
    let tail = second_so a (b && (d && e)) h in
    let last = second_so b (d && e) tail in
    let may_skip = same_bool m.may_skip n.may_skip (first_so a (b && (d && e)) h) in
    let asks_failed = same_bool m.asks_failed n.asks_failed (first_so b (d && e) tail) in
    let repeats = same_bool m.repeats n.repeats (first_so d e last) in
    let ignores = same_bool m.ignores n.ignores (second_so d e last) in
    rw (may_skip, asks_failed, repeats, ignores) refl
