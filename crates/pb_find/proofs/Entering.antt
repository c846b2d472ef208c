-- What is known where a host begins, and tables that keep what stood before.
use Rattle.std.proofs.Common.{◌≡◌, refl, ◌∙◌}
use Rattle.pb_semantics.specs.Kind.{Slots, recs}
use Rattle.pb_semantics.specs.Well.{Well}
use Rattle.pb_language.specs.Judgement.{Exit, live}
use Rattle.pb_lattice.specs.Environments.{IsKept}
use Rattle.pb_lattice.specs.Shared.{Shared}
use Rattle.pb_walks.specs.Agree.{ExitsAgree}
use Rattle.pb_find.proofs.Grows.{agree_at}

pub agrees_with : (ss : Slots) (e : Exit) → Well (recs ss) → e ≡ live ss → ExitsAgree e (live ss)
agrees_with ss e w h = rw h (agree_at ss ss w (λ p. refl))

pub kept_through : (s t u : Shared) → IsKept s t → IsKept t u → IsKept s u
kept_through s t u h i = record {
  names = i.names ∙ h.names;
  stays = λ e x. let a = h.stays e x in let b = i.stays e a.0 in (b.0, b.1 ∙ a.1);
}
