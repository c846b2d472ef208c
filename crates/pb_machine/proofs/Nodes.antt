-- How a host arrives at a node, by the step of that node alone.
use Rattle.std.proofs.Common.{◌≡◌, ◌≤◌, ◌<◌, ℕ, suc, ◌+◌, List, [], ◌∷◌, Bool, true, false, nat_lt, Option, Some, None, length, refl, sym, ap, subst, ◌∙◌, arith}
use Rattle.std.proofs.lemmas.Bool.{ltb-true, ltb-false}
use Rattle.pb_language.specs.Links.{size}
use Rattle.pb_machine.specs.Steps.{Step, leaving, end_target, play_steps}
use Rattle.pb_machine.specs.Hosts.{FlatHost, stands, at_end, all_moved, is_passed, at_step, arrival}
use Rattle.pb_machine.specs.Ways.{step_at}
use Rattle.pb_machine.specs.Laws.{AreHigher, IsHigher, NodeArrives, EndArrives}
use Rattle.pb_machine.proofs.Tests.{not_less, Beyond}
use Rattle.pb_machine.proofs.Targets.{row_length}
use Rattle.pb_machine.proofs.Leads.{beyond, play_higher}
use Rattle.pb_machine.proofs.Trees.{Lies, lies_all, lies_on, step_here}

abbrev AtNode : List Step → ℕ → FlatHost → Type 0
AtNode ss n h = arrival ss 1 (Some n) h ≡ at_step (arrival ss 1) n (step_at ss n) n h false (is_passed (step_at ss n).handler h.marks)

on_from : (ss rest : List Step) (o last : ℕ) (to : Option ℕ) (h : FlatHost) → Lies ss rest o
    → Beyond o last to → arrival rest o to h ≡ arrival ss 1 to h
on_from ss rest o last None h l w = refl
on_from ss rest o last (Some n) h l w = sym (l.arrivals n h w.0)

same_on : (go on : Option ℕ → FlatHost → FlatHost) (o n : ℕ) (s : Step) (h : FlatHost) (q : Bool)
    → go s.ok.to (all_moved s.ok.moves h) ≡ on s.ok.to (all_moved s.ok.moves h)
    → at_step go o s n h false q ≡ at_step on o s n h false q
same_on go on o n s h true e = e
same_on go on o n s h false e = refl

here : (ss : List Step) (s : Step) (rest : List Step) (o last : ℕ) (h : FlatHost)
    → Lies ss (s ∷ rest) o → IsHigher last o s.ok.to
    → arrival ss 1 (Some o) h ≡ at_step (arrival ss 1) o s o h false (is_passed s.handler h.marks)
here ss s rest o last h l i =
    l.arrivals o h (omega arith)
    ∙ ap (λ q. at_step (arrival rest (suc o)) o s o h q (is_passed s.handler h.marks)) (not_less o o (omega arith))
    ∙ same_on (arrival rest (suc o)) (arrival ss 1) o o s h (is_passed s.handler h.marks) (on_from ss rest (suc o) last s.ok.to (all_moved s.ok.moves h) (lies_on ss s rest o l) (beyond o last s.ok.to i))

along : (ss rest : List Step) (o last n : ℕ) (h : FlatHost) → Lies ss rest o → AreHigher last o rest
    → o ≤ n → n < o + length rest → AtNode ss n h
along ss [] o last n h l higher i j = absurd (omega arith)
along ss (s ∷ rest) o last n h l higher i j = by_test (λ k. along ss rest (suc o) last n h (lies_on ss s rest o l) higher.2 k (omega arith)) (nat_lt o n) refl where
  by_test : (o < n → AtNode ss n h) → (q : Bool) → nat_lt o n ≡ q → AtNode ss n h
  by_test on true e = on (ltb-true o n e)
  by_test on false e =
      let same : o ≡ n = omega (arith, ltb-false o n e) in
      let at_step_is : step_at ss o ≡ s = l.steps o (omega arith) ∙ step_here s rest o in
      subst (λ k. AtNode ss k h) same
      (here ss s rest o last h l higher.0 ∙ ap (λ x. at_step (arrival ss 1) o x o h false (is_passed x.handler h.marks)) (sym at_step_is))

pub at_node : (ss : List Step) (last n : ℕ) (h : FlatHost) → AreHigher last 1 ss → 0 < n
    → n ≤ length ss
    → arrival ss 1 (Some n) h ≡ at_step (arrival ss 1) n (step_at ss n) n h false (is_passed (step_at ss n).handler h.marks)
at_node ss last n h higher i j = along ss ss 1 last n h (lies_all ss) higher i (omega arith)

past : (ss rest : List Step) (o n : ℕ) (h : FlatHost) → Lies ss rest o → o + length rest ≤ n
    → arrival ss 1 (Some n) h ≡ record h { stage = stands at_end }
past ss [] o n h l i = l.arrivals n h (omega arith)
past ss (s ∷ rest) o n h l i = past ss rest (suc o) n h (lies_on ss s rest o l) (omega arith)

pub past_end : (ss : List Step) (n : ℕ) (h : FlatHost) → length ss < n
    → arrival ss 1 (Some n) h ≡ record h { stage = stands at_end }
past_end ss n h i = past ss ss 1 n h (lies_all ss) (omega arith)

pub node_arrives : NodeArrives
node_arrives row n h i j =
    at_node (play_steps row) (suc (size row)) n h (play_higher row) i (omega (arith, row_length row 0 1 (end_target row) leaving))

pub end_arrives : EndArrives
end_arrives row n h i = past_end (play_steps row) n h (omega (arith, row_length row 0 1 (end_target row) leaving))
