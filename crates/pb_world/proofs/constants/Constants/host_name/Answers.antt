use Rattle.std.proofs.Common.{◌≡◌, Some, length, sym, ap, ◌∙◌, arith}
use Rattle.std.proofs.lemmas.List.{length-map}
use Rattle.std.proofs.lemmas.Option.{slice_get_within}
use Rattle.pb_semantics.specs.Data.{text}
use Rattle.pb_value.specs.View.{view}
use Rattle.pb_world.specs.Constants.{text_in}
use Rattle.pb_world.specs.Hosts.{names_of_hosts}
use Rattle.pb_world.proofs.HostLists.{host-value, name-at}
use Rattle.pb_world.proofs.constants.Constants.host_name.Goals as goal

pub returns-then-host-len : goal.returns-then-host-len
returns-then-host-len c = λ i h are e.
    let within = slice_get_within i.hosts c.args.host h e in
    let count : length c.args.self.now.hosts.items ≡ length i.hosts =
    sym (length-map c.args.self.now.hosts.items (λ x. view x.name)) ∙ ap length are.names ∙ length-map (names_of_hosts i.hosts) text ∙ length-map i.hosts (λ x. x.name) in
    absurd (omega (arith, within, count, c.if-host-len.true, c.len.ensures))

pub returns : goal.returns
returns c = λ i h are e.
    let x = c.index.result.now in
    let here = host-value (λ y. view y.name) text c.args.self.now.hosts.items (names_of_hosts i.hosts) c.args.host x are.names (omega (arith, c.if-host-len.false, c.len.ensures)) c.index.ensures in
    c.text_of.ensures ∙ ap text_in here ∙ ap Some (name-at i.hosts c.args.host h e)
