use Rattle.std.proofs.Common.{◌+◌, length, slice_index_or, None, Some, ap, sym, refl, ◌∙◌, arith}
use Rattle.pb_lattice.specs.Words.{exit_of}
use Rattle.pb_lattice.proofs.Exits.{stands_well}
use Rattle.pb_find.specs.Ways.{nothing_known, value_at, way_visits}
use Rattle.pb_hosts.specs.declared.lasting.Lasting.{Lasting}
use Rattle.pb_lasting.proofs.Lasted.{lasts_alive, lasts_dead, stands_tabled}
use Rattle.pb_lasting.proofs.lasting.lasting_in.Goals as goal

pub returns-in_ok-from-clause-lasts : goal.returns-in_ok-from-clause-lasts
returns-in_ok-from-clause-lasts c = λ st.
    let s = c.args.space.now in
    let ss = c.args.stations.now in
    let es = c.args.values.now in
    let end = c.latest-last.result in
    let told = c.latest-last.ensures in
    let l : Lasting = record { from = c.in_ok-from.from; every = Some c.in_ok-past_all.field-0 } in
    lasts_dead s.names l (way_visits st ss s es) (value_at s es (length ss + 1)) (exit_of s end) (sym (c.is_dead.ensures s) ∙ c.if-is_dead.true) (ap Some (c.in_ok-past_all.ensures st s)) (told.latest st)
    (stands_well s end told.stands) (stands_tabled s end) (c.in_ok-from.ensures.marks st)

pub returns-in_ok-from-2-clause-lasts : goal.returns-in_ok-from-2-clause-lasts
returns-in_ok-from-2-clause-lasts c = λ st.
    let s = c.args.space.now in
    let ss = c.args.stations.now in
    let es = c.args.values.now in
    let end = slice_index_or es (length ss + 1) nothing_known in
    let l : Lasting = record { from = c.in_ok-from-2.from; every = None } in
    lasts_alive s.names l (way_visits st ss s es) (exit_of s end) (sym (c.is_dead.ensures s) ∙ c.if-is_dead.false) refl
    (stands_well s end (c.requires.values (length ss + 1) nothing_known (omega arith))) (stands_tabled s end) (c.in_ok-from-2.ensures.marks st)
