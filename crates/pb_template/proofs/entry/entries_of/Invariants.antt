use Rattle.std.proofs.Common.{◌≡◌, ◌++◌, true, option_map}
use Rattle.pb_language.specs.Texts.{parts_of}
use Rattle.pb_template.proofs.Built.{parts_before}
use Rattle.pb_template.proofs.Ordered.{key_names}
use Rattle.pb_template.specs.Entries.{are_ascending, but, entries_view, entry_names}
use Rattle.pb_value.specs.View.{fields_view}
use Rattle.pb_template.proofs.entry.entries_of.Given as goal

abbrev pub invariant-loop-name : goal.invariant-loop-name
invariant-loop-name l = record {
  given : parts_of (but (option_map (λ n. n.now) l.left_out) (fields_view l.fields.entries)) ≡ parts_before (entries_view l.entries.items) (parts_of (but (option_map (λ n. n.now) l.left_out) (fields_view l.name-iterator)));
  ordered : are_ascending (entry_names l.entries.items ++ key_names l.name-iterator) ≡ true;
}
