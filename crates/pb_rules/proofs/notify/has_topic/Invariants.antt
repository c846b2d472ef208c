use Rattle.std.proofs.Common.{◌≡◌, drop}
use Rattle.pb_semantics.specs.Keeps.{is_among}
use Rattle.pb_task.specs.Tasks.{names_view}
use Rattle.pb_rules.proofs.notify.has_topic.Given as goal

abbrev pub invariant-loop-topic : goal.invariant-loop-topic
invariant-loop-topic l = is_among l.text (names_view (drop l.topic-index l.topics)) ≡ is_among l.text (names_view l.topics)
