use Rattle.std.proofs.Common.{◌≡◌, drop}
use Rattle.pb_semantics.specs.Keeps.{is_among}
use Rattle.pb_language.specs.Plays.{append_parts}
use Rattle.pb_vars.specs.Borrowed.{borrowed_view}
use Rattle.pb_reads.specs.Needed.{parts_among}
use Rattle.pb_reads.specs.Reached.{names_in}
use Rattle.pb_reads.proofs.needed.entries_among.Given as goal

abbrev pub invariant-loop-entry : goal.invariant-loop-entry
invariant-loop-entry l =
    parts_among (λ n. is_among n (names_in l.names)) (borrowed_view l.entries)
    ≡ append_parts (borrowed_view l.found.items) (parts_among (λ n. is_among n (names_in l.names)) (borrowed_view (drop l.entry-index l.entries)))
