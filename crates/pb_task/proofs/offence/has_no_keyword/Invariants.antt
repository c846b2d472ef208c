use Rattle.std.proofs.Common.{◌≡◌, ◌||◌, not, codes}
use Rattle.std.specs.List.{list_all}
use Rattle.std.specs.Str.{bytes_eq}
use Rattle.pb_semantics.specs.Keeps.{is_among}
use Rattle.pb_language.specs.Keywords.{keywords_of}
use Rattle.pb_language.specs.TaskForm.{keys_of}
use Rattle.pb_task.specs.Standings.{standing_view}
use Rattle.pb_value.specs.View.{fields_view}
use Rattle.pb_task.proofs.offence.has_no_keyword.Given as goal

abbrev pub invariant-loop-key : goal.invariant-loop-key
invariant-loop-key l = list_all (λ n. bytes_eq n (codes "name") || not (is_among n (keywords_of (standing_view l.standing)))) (keys_of (fields_view l.fields.entries)) ≡ list_all (λ n. bytes_eq n (codes "name") || not (is_among n (keywords_of (standing_view l.standing)))) (keys_of (fields_view l.key-iterator))
