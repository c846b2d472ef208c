use Rattle.pb_sig.proofs.Laws.{IsLawful-draft}
use Rattle.pb_sig.proofs.declared.Declared.of.Goals as goal

pub invariant_of-result : goal.invariant_of-result
invariant_of-result c = record { lawful = IsLawful-draft c.args.draft _ _ c.in_ok-of_slots.ensures c.in_ok-of_slots-2.ensures c.requires }
