use Rattle.std.proofs.Common.{◌≡◌, ap, sym, ◌∙◌, length, slice_get, rules, arith}
use Rattle.std.specs.Vec.{vec_len}
use Rattle.pb_core.specs.Entries.{entered, found}
use Rattle.pb_core.proofs.Beginnings.{entered_last, entered_all, no_entries}
use Rattle.pb_core.proofs.entries.enter.Goals as goal

pub loop-entry-preserved : goal.loop-entry-preserved
loop-entry-preserved g c = record {
  entered = λ k.
      ap (entered (found k c.pop.new.self.items)) (c.enter_one.ensures.entered k)
      ∙ sym (entered_last k c.pop.new.self.items c.in-Some.entry (slice_get c.loop-entry.hosts.items k))
      ∙ ap (λ es. entered (found k es) (slice_get c.loop-entry.hosts.items k)) (sym c.in-Some.ensures.items) ∙ c.loop-entry.invariant.entered k;
  back = c.enter_one.ensures.back ∙ c.loop-entry.invariant.back;
  room = search rules;
}

pub returns-clause-entered : goal.returns-clause-entered
returns-clause-entered g c = λ k.
    let count : vec_len c.loop-entry.entries ≡ length c.loop-entry.entries.items = omega (arith, c.loop-entry.entries.ok) in
    entered_all k c.loop-entry.entries.items (slice_get c.loop-entry.hosts.items k) (no_entries c.loop-entry.entries.items (vec_len c.loop-entry.entries) count c.in_default.ensures.variant.1) ∙ c.loop-entry.invariant.entered k
