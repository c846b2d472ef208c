use Rattle.std.proofs.Common.{map, not, sym, ap, ◌∙◌}
use Rattle.pb_core.specs.Indexes.{exchanged}
use Rattle.pb_core.proofs.Indexes.{behind_running, behind_waiting}
use Rattle.pb_core.proofs.index.ReadyIndex.has_none_behind.Goals as goal

pub returns-then-is_behind : goal.returns-then-is_behind
returns-then-is_behind c = λ hosts i.
    behind_waiting hosts c.args.place c.lowest_in.result (c.lowest_in.ensures hosts i.waiting) (sym c.is_behind.ensures ∙ c.if-is_behind.true)

pub returns : goal.returns
returns c = λ hosts i.
    ap not c.is_behind-2.ensures
    ∙ behind_running hosts c.args.place c.lowest_in.result (c.lowest_in.ensures hosts i.waiting) c.lowest_in-2.result (sym c.is_behind.ensures ∙ c.if-is_behind.false)
    (c.lowest_in-2.ensures (map exchanged hosts) i.running)
