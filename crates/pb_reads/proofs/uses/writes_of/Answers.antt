use Rattle.std.proofs.Common.{◌++◌, ◌∙◌, map, ap}
use Rattle.pb_semantics.specs.Keeps.{is_among}
use Rattle.pb_transfer.specs.Written.{sets_view}
use Rattle.pb_reads.specs.Reached.{names_in}
use Rattle.pb_reads.specs.Uses.{names_set}
use Rattle.pb_reads.proofs.Written.{all-written}
use Rattle.pb_reads.proofs.uses.writes_of.Goals as goal

pub returns : goal.returns
returns c n =
    let none = names_in c.new-names.result in
    all-written n c.args.station.now none (names_in c.add_facts.new.names) (names_in c.add_set_names.new.names) (names_in c.add_register.new.names) c.requires.station (ap (λ ks. map (λ k. k.now) ks) c.new-names.ensures.empty)
    (c.in_ok-add_facts.ensures n ∙ ap (λ fs. is_among n (names_set (sets_view fs) ++ none)) c.as_slice.ensures.value) (c.in_ok-add_set_names.ensures n) (c.in_ok-add_register.ensures n)
