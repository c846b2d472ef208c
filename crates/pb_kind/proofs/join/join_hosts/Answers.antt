use Rattle.std.proofs.Common.{BTreeSet, String, Global, map, string_bytes, ap, ◌∙◌}
use Rattle.pb_semantics.specs.Kind.{hosts}
use Rattle.pb_kind.proofs.KindLemmas.{kind_view-Host}
use Rattle.pb_kind.proofs.join.join_hosts.Goals as goal

pub returns : goal.returns
returns c = kind_view-Host c.in_ok-new.field-0 ∙ ap (λ (s : BTreeSet (String Global)). hosts (map (λ n. string_bytes n) s.keys)) c.in_ok-new.ensures.ok ∙ ap hosts c.in_ok-names.ensures
