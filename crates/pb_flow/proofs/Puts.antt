-- Rows that are put in front of one another.
use Rattle.std.proofs.Common.{◌≡◌, ◌∙◌, ℕ, suc, [], ◌++◌, Bool, ap, sym, arith, append_assoc, append-nil}
use Rattle.pb_language.specs.Book.{Registry}
use Rattle.pb_language.specs.Expression.{Parts}
use Rattle.pb_language.specs.Task.{Handlers, Row, block, end, flush, section}
use Rattle.pb_machine.specs.Steps.{Target, holding, releasing, leaving, moving, flush_target, row_target, flush_steps, saved_target, row_steps}
use Rattle.pb_flow.specs.Build.{IsPut, tail_steps}
use Rattle.pb_flow.specs.declared.tail.Tail.{Tail}
use Rattle.pb_machine.specs.Joins.{joined}
use Rattle.pb_machine.proofs.Joins.{joined-size, joined-steps, joined-target, block-steps, section-steps}

-- a row, then another before it
pub put-joined : (ms : Registry) (vars : Parts) (a b : Row) (m : ℕ) (ok failed : Target) (old mid new : Tail) (x y : Target) → IsPut ms vars b m ok failed old mid x → IsPut ms vars a m x failed mid new y → IsPut ms vars (joined a b) m ok failed old new y
put-joined ms vars a b m ok failed old mid new x y p q = record {
  room = omega (arith, joined-size a b, p.room, q.room);
  steps = q.steps ∙ ap (λ ss. row_steps a m new.front x failed ++ ss) p.steps
      ∙ sym (append_assoc (row_steps a m new.front x failed) (row_steps b m mid.front ok failed) (tail_steps ms vars old))
      ∙ ap (λ t. (row_steps a m new.front t failed ++ row_steps b m mid.front ok failed) ++ tail_steps ms vars old) p.entered
      ∙ ap (λ ss. ss ++ tail_steps ms vars old) (sym (joined-steps a b m new.front mid.front ok failed q.room));
  entered = q.entered ∙ ap (row_target a new.front) p.entered ∙ sym (joined-target a b new.front mid.front ok q.room);
}

-- a block, by its parts
pub put-block : (ms : Registry) (vars : Parts) (d : ℕ) (body : Row) (saves : Bool) (rescued always : Row) (m : ℕ) (ok failed : Target) (old one again two three new : Tail) (last on fails inside at : Target)
    → again.front ≡ one.front → tail_steps ms vars again ≡ tail_steps ms vars one → fails ≡ moving (holding m) last
    → IsPut ms vars always (suc m) (moving (releasing m) failed) failed old one last → IsPut ms vars always m ok failed again two on
    → IsPut ms vars rescued m on fails two three inside → IsPut ms vars body m on (saved_target d saves inside fails) three new at
    → IsPut ms vars (block d body saves rescued always end) m ok failed old new at
put-block ms vars d body saves rescued always m ok failed old one again two three new last on fails inside at ef et eh p q r s = record {
  room = omega (arith, p.room, q.room, r.room, s.room, ef);
  steps = s.steps
      ∙ ap (λ ss. row_steps body m new.front on (saved_target d saves inside fails) ++ ss)
      (r.steps ∙ ap (λ ss. row_steps rescued m three.front on fails ++ ss) (q.steps ∙ ap (λ ss. row_steps always m two.front ok failed ++ ss) (et ∙ p.steps)))
      ∙ block-steps d body saves rescued always m new.front three.front two.front one.front ok failed on fails inside (tail_steps ms vars old) s.room r.room (q.room ∙ ef) (eh ∙ ap (moving (holding m)) p.entered) q.entered r.entered;
  entered = s.entered ∙ ap (row_target body new.front) (q.entered ∙ ap (λ k. row_target always k ok) (sym (rw s.room r.room)));
}

-- steps and a flush that is forced
pub put-section : (ms : Registry) (vars : Parts) (body : Row) (hs : Handlers) (m : ℕ) (after : Target) (old one again two new : Tail) (x y at : Target)
    → again.front ≡ one.front → tail_steps ms vars again ≡ tail_steps ms vars one → IsPut ms vars (flush hs end) m leaving leaving old one x → IsPut ms vars (flush hs end) m after leaving again two y
    → IsPut ms vars body m y x two new at → IsPut ms vars (section body hs end) m after leaving old new at
put-section ms vars body hs m after old one again two new x y at ef et p q r = record {
  room = omega (arith, p.room, q.room, r.room, ef);
  steps = r.steps ∙ ap (λ ss. row_steps body m new.front y x ++ ss) (q.steps ∙ ap (λ ss. (flush_steps hs two.front after ++ []) ++ ss) (et ∙ p.steps) ∙ (simp append-nil))
      ∙ section-steps body hs m new.front two.front one.front after x y (tail_steps ms vars old) r.room (omega (arith, q.room, ef)) p.entered q.entered;
  entered = r.entered ∙ ap (row_target body new.front) (q.entered ∙ ap (λ k. flush_target hs k after) (sym r.room));
}
