use Rattle.std.proofs.Common.{◌≡◌, ◌∙◌, ◌||◌, Bool, bytes_eq, ap, arith}
use Rattle.pb_semantics.specs.Keeps.{is_among}
use Rattle.pb_rules.specs.Names.{names_in}
use Rattle.pb_rules.proofs.NameSets.{among-insert, texts}
use Rattle.pb_rules.proofs.names.add_name.Goals as goal

turned : (a b : Bool) → (a || b) ≡ (b || a)
turned a b = grind arith

pub returns : goal.returns
returns c n =
    ap (λ ks. is_among n (texts ks)) c.in_ok-insert.ensures.keys ∙ among-insert n c.args.name c.args.names.now.keys ∙ turned (bytes_eq n c.args.name.now) (is_among n (names_in c.args.names.now))
