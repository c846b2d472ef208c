use Rattle.std.proofs.Common.{◌≡◌, ◌∙◌, ℕ, suc, ◌+◌, ◌-◌, ◌<◌, [], ◌∷◌, ◌++◌, Some, drop, length, map, ap, ap₂, sym, subst, arith}
use Rattle.pb_language.specs.Book.{Registry}
use Rattle.pb_language.specs.Expression.{Parts}
use Rattle.pb_language.specs.Links.{handler_places}
use Rattle.pb_language.specs.Plays.{handlers_at, task_at}
use Rattle.pb_language.specs.Task.{Handlers, Task, end, flush, handler}
use Rattle.pb_play.specs.Plays.{handler_view}
use Rattle.pb_play.specs.Sound.{IsSound}
use Rattle.pb_play.specs.declared.play.Handler.{Handler}
use Rattle.pb_syntax.proofs.Left.{drop-at}
use Rattle.pb_machine.specs.Steps.{Target, leaving, to_node, flush_target, flush_steps}
use Rattle.pb_flow.specs.Build.{IsPut, StaySound, tail_steps}
use Rattle.pb_flow.specs.Nodes.{around_view, target_view}
use Rattle.pb_flow.specs.declared.tail.Tail.{Tail}
use Rattle.pb_flow.proofs.Sounds.{stay-handler}
use Rattle.pb_flow.proofs.build.put_flush.Goals as goal

-- one more handler in front
more : (ms : Registry) (vars : Parts) (i : ℕ) (t : Task) (hs : Handlers) (m : ℕ) (after hurt next at : Target) (old now new : Tail) → IsPut ms vars (flush hs end) m after hurt old now next
    → suc new.front ≡ now.front → at ≡ to_node new.front → tail_steps ms vars new ≡ record { task = t; handler = Some i; ok = next; failed = leaving } ∷ tail_steps ms vars now
    → IsPut ms vars (flush (handler i t hs) end) m after hurt old new at
more ms vars i t hs m after hurt next at old now new h front is steps =
    let room : now.front + (handler_places hs + 0) ≡ old.front = h.room in
    let entered : next ≡ flush_target hs (suc new.front) after = h.entered ∙ ap (λ k. flush_target hs k after) (sym front) in
    let rest : tail_steps ms vars now ≡ (flush_steps hs (suc new.front) after ++ []) ++ tail_steps ms vars old = h.steps ∙ ap (λ k. (flush_steps hs k after ++ []) ++ tail_steps ms vars old) (sym front) in
    record {
      room = omega arith;
      steps = steps ∙ ap₂ (λ x ss. record { task = t; handler = Some i; ok = x; failed = leaving } ∷ ss) entered rest;
      entered = is;
    }

pub loop-index-preserved : goal.loop-index-preserved
loop-index-preserved c =
    let l = c.loop-index in
    let i = l.index - 1 in
    let one : l.index ≡ i + 1 = omega arith in
    let hs = c.args.scene.now.handlers.now in
    let h = c.index-handlers-index.result in
    let lt : i < length hs = omega arith in
    let e = c.in_ok-next-2.ensures in
    let place : suc c.put.new.self.place ≡ l.tail.place = e.place in
    record {
      front = omega (arith, e.front);
      place = omega (arith, e.place);
      sound = stay-handler hs i l.index h c.args.tail.now l.tail c.put.new.self one lt c.index-handlers-index.is l.invariant.sound (λ ms line x. e.sound ms line (subst (λ (g : Handler). IsSound ms g.task) c.index-handlers-index.is x));
      put = λ ms vars m hurt.
          let a = around_view ms vars c.args.scene.now.part.around.value in
          let rest = handlers_at a l.index l.tail.place (map handler_view (drop l.index hs)) in
          let all : handlers_at a i c.put.new.self.place (map handler_view (drop i hs)) ≡ handler i (task_at a c.put.new.self.place (handler_view h).work) rest =
          ap (λ xs. handlers_at a i c.put.new.self.place (map handler_view xs)) (drop-at hs i h lt c.index-handlers-index.is)
          ∙ ap (λ k. handler i (task_at a c.put.new.self.place (handler_view h).work) (handlers_at a k (suc c.put.new.self.place) (map handler_view (drop (i + 1) hs)))) (let s : suc i ≡ l.index = omega arith in s)
          ∙ ap (λ k. handler i (task_at a c.put.new.self.place (handler_view h).work) (handlers_at a l.index k (map handler_view (drop (i + 1) hs)))) place
          ∙ ap (λ k. handler i (task_at a c.put.new.self.place (handler_view h).work) (handlers_at a l.index l.tail.place (map handler_view (drop k hs)))) (sym one) in
          subst (λ x. IsPut ms vars (flush x end) m (target_view c.args.after.now) hurt c.args.tail.now c.put.new.self (target_view c.in_ok-next-2.next)) (sym all)
          (more ms vars i (task_at a c.put.new.self.place (handler_view h).work) rest m (target_view c.args.after.now) hurt (target_view l.next) (target_view c.in_ok-next-2.next) c.args.tail.now l.tail c.put.new.self (l.invariant.put ms vars m hurt) e.front e.at
          (e.steps ms vars ∙ ap₂ (λ (x : Handler) (f : Target). record { task = task_at a c.put.new.self.place (handler_view x).work; handler = Some i; ok = target_view l.next; failed = f } ∷ tail_steps ms vars l.tail) (sym c.index-handlers-index.is) c.leaving-leaving.ensures));
    }

pub returns-clause-put : goal.returns-clause-put
returns-clause-put c = λ ms vars m hurt.
    let e : c.loop-index.index ≡ 0 = omega arith in
    subst (λ i. IsPut ms vars (flush (handlers_at (around_view ms vars c.args.scene.now.part.around.value) i c.loop-index.tail.place (map handler_view (drop i c.args.scene.now.handlers.now))) end) m (target_view c.args.after.now) hurt c.args.tail.now c.loop-index.tail (target_view c.loop-index.next)) e
    (c.loop-index.invariant.put ms vars m hurt)

pub returns-clause-sound : goal.returns-clause-sound
returns-clause-sound c =
    let e : c.loop-index.index ≡ 0 = omega arith in
    subst (λ i. StaySound (drop i c.args.scene.now.handlers.now) [] c.args.tail.now c.loop-index.tail) e c.loop-index.invariant.sound
