use Rattle.std.proofs.Common.{◌∙◌, ap}
use Rattle.pb_semantics.specs.Keeps.{is_among}
use Rattle.pb_rules.proofs.NameSets.{among-insert, texts}
use Rattle.pb_reads.proofs.names.add_name.Goals as goal

pub returns : goal.returns
returns c n = ap (λ ks. is_among n (texts ks)) c.in_ok-insert.ensures.keys ∙ among-insert n c.args.name c.args.names.now.keys
