use Rattle.std.proofs.Common.{ap, sym, ◌∙◌}
use Rattle.pb_semantics.specs.Kind.{slot_at}
use Rattle.pb_hosts.specs.Sights.{seen_setting}
use Rattle.pb_hosts.proofs.Always.{constant_there}
use Rattle.pb_hosts.proofs.Sames.{slots_are}
use Rattle.pb_hosts.proofs.seen.SeenOutlook.always.Goals as goal

pub returns-else-eq : goal.returns-else-eq
returns-else-eq c =
    let s = c.args.self.now in
    let st = seen_setting s in
    c.known.ensures ∙ ap (slot_at c.args.name.now) (slots_are _ _ s.known)
    ∙ sym (constant_there s.cast.now st.views st.laters st.this c.args.name.now (sym c.eq.ensures ∙ c.if-eq.false))
