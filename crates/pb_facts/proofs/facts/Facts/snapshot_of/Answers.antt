use Rattle.std.proofs.Common.{◌≡◌, ◌<◌, ◌*◌, ℕ, List, Option, None, length, map, take, option_map, sym, ap, subst, ◌∙◌, arith}
use Rattle.std.proofs.Math.Seq.{take-length}
use Rattle.pb_value.specs.declared.value.Value.{Value}
use Rattle.pb_value.specs.View.{view}
use Rattle.pb_facts.specs.Facts.{Held, row_of}
use Rattle.pb_facts.specs.Rows.{rows}
use Rattle.pb_facts.proofs.Entries.{length-row, next_copy}
use Rattle.pb_facts.proofs.facts.Facts.snapshot_of.Goals as goal

row_length : (held : Held) (hosts slots host : ℕ) (values : List (Option Value))
    → record { hosts = hosts; slots = slots; rows = rows hosts slots values } ≡ held
    → length values ≡ hosts * slots → host < held.hosts → length (row_of held host) ≡ held.slots
row_length held hosts slots host values same whole inside =
    subst (λ it. length (row_of it host) ≡ it.slots) same
    (length-row hosts slots values host whole (subst (λ it. host < it.hosts) (sym same) inside))

pub loop-slot-preserved : goal.loop-slot-preserved
loop-slot-preserved c =
    let facts = c.self.inside in
    let row = row_of c.args.self.now c.args.host in
    let row_is = row_length c.args.self.now facts.hosts facts.slots c.args.host facts.values.items c.self.view_is c.self.invariant c.requires in
    let slots = ap (λ held. held.slots) c.self.view_is in
    let copied = c.in_ok-copy_of.ensures ∙ ap (option_map view) c.get.ensures in
    ap (map (option_map view)) c.in_ok-push.ensures.items
    ∙ next_copy (option_map view) c.loop-slot.values.items row c.loop-slot.slot _ None c.loop-slot.invariant copied
    (omega (arith, row_is, slots, c.loop-slot-test.true))

pub returns : goal.returns
returns c =
    let facts = c.self.inside in
    let row = row_of c.args.self.now c.args.host in
    let row_is = row_length c.args.self.now facts.hosts facts.slots c.args.host facts.values.items c.self.view_is c.self.invariant c.requires in
    let slots = ap (λ held. held.slots) c.self.view_is in
    let ended : c.loop-slot.slot ≡ length row =
    omega (arith, row_is, slots, c.loop-slot-test.false, c.loop-slot.auto.slot-end) in
    c.loop-slot.invariant ∙ ap (map (option_map view)) (ap (λ n. take n row) ended ∙ take-length row)
